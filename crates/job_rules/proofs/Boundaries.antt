-- Each refusal of reader and writer at its boundary, by the documents' numbers: what is just refused, and what is just not; and the order of the tests
-- where two faults meet. Carried by computing the tests.
-- Assumes nothing.
use Prim.Native.Nat.{ℕ, ◌-◌}
use mathlib.Core.Path.{◌≡◌, refl}
use mathlib.Core.List.{List, [], ◌∷◌, ◌++◌, flat_map}
use lib.ListN.{take, replicate}
use Rattle.table.specs.declared.Edition.{Edition}
use Rattle.table.specs.declared.Edition.TheVariants.{One, Two}
use Rattle.table.specs.Refusal.{first_bad}
use Rattle.table.specs.Decided.{decided}
use Rattle.job_rules.specs.Layout.{bytes_to_read, two_bytes, encode}
use Rattle.job_rules.specs.Read.{ReadJob, tested_of, header_of, body_of, read_as, read_of}
use Rattle.job_rules.specs.Write.{size_or_refusal}

-- a file of so many bytes whose header says these four numbers, with these bytes behind them and zeros behind those
abbrev file_of : ℕ → ℕ → ℕ → ℕ → List ℕ → ℕ → List ℕ
file_of n r first second rest size =
    take size (two_bytes n ++ two_bytes r ++ two_bytes first ++ two_bytes second ++ rest ++ replicate size 0)

-- the number that it is refused with, nothing but zeros behind the four numbers; 0 where it is not
abbrev read : ℕ → ℕ → ℕ → ℕ → ℕ → ℕ
read n r first second size = (read_of (file_of n r first second [] size)).refusal

-- what is read from the file of these words
abbrev read_words : List ℕ → ReadJob
read_words words = read_of (encode One words [])

-- the number that the writer refuses words and register bytes with, and the place of a bad word
abbrev written : List ℕ → ℕ → ℕ → ℕ
written words bytes room = (size_or_refusal One words (replicate bytes 0) room).refusal

abbrev place : List ℕ → ℕ
place words = (size_or_refusal One words [] 100).place

pub reading : (read 0 0 8 8 7 ∷ read 0 0 8 8 8
    ∷ read 65 0 8 268 268 ∷ read 64 0 8 264 264
    ∷ read 0 33 8 8 536 ∷ read 0 32 8 8 520
    ∷ read 1 0 9 12 12 ∷ read 1 0 8 13 12 ∷ read 1 1 8 12 27 ∷ read 1 1 8 12 29 ∷ read 1 1 8 12 28
    ∷ (read_words (0x1FFFFFF ∷ 0x2000000 ∷ 0x2000000 ∷ [])).refusal ∷ (read_words (0x1FFFFFF ∷ 0x2000000 ∷ 0x2000000 ∷ [])).place
    ∷ (read_words (0x1FFFFFF ∷ [])).refusal ∷ [])
    ≡ (1 ∷ 0 ∷ 2 ∷ 0 ∷ 3 ∷ 0 ∷ 4 ∷ 4 ∷ 5 ∷ 5 ∷ 0 ∷ 6 ∷ 1 ∷ 0 ∷ [])
unfolding header_of tested_of body_of decided encode first_bad flat_map
reading = refl

-- where two faults meet, the first test answers
pub reading_order : (read 65 33 9 9 7 ∷ read 65 33 9 9 8 ∷ read 64 33 9 9 8 ∷ read 64 32 9 9 8 ∷ read 64 32 8 9 8 ∷ read 64 32 8 264 8 ∷ [])
    ≡ (1 ∷ 2 ∷ 3 ∷ 4 ∷ 4 ∷ 5 ∷ [])
unfolding header_of tested_of body_of decided
reading_order = refl

pub writing : (written (replicate 65 0) 0 1000 ∷ written (replicate 64 0) 0 1000
    ∷ written [] 528 1000 ∷ written [] 512 1000 ∷ written [] 8 1000
    ∷ written (0x1FFFFFF ∷ 0x2000000 ∷ []) 0 100 ∷ place (0x1FFFFFF ∷ 0x2000000 ∷ 0x2000000 ∷ [])
    ∷ written (0 ∷ []) 16 27 ∷ written (0 ∷ []) 16 28 ∷ [])
    ≡ (2 ∷ 0 ∷ 3 ∷ 0 ∷ 3 ∷ 6 ∷ 1 ∷ 9 ∷ 0 ∷ [])
unfolding size_or_refusal decided encode first_bad flat_map
writing = refl

pub writing_order : (written (replicate 65 (0x2000000)) 8 0 ∷ written (replicate 64 (0x2000000)) 8 0 ∷ written (replicate 64 (0x2000000)) 0 0 ∷ written [] 0 0 ∷ [])
    ≡ (2 ∷ 3 ∷ 6 ∷ 9 ∷ [])
unfolding size_or_refusal decided encode first_bad flat_map
writing_order = refl

-- ---- the second edition

-- an edition by its number
abbrev number_in : Edition → ℕ
number_in One = 1
number_in Two = 2

-- a job without words and registers: in the first edition the eight bytes for which document 01 prints `END 00`, in the second four more
pub empty_jobs : (encode One [] [] ≡ 0 ∷ 0 ∷ 0 ∷ 0 ∷ 8 ∷ 0 ∷ 8 ∷ 0 ∷ [])
    × (encode Two [] [] ≡ 0 ∷ 0 ∷ 0 ∷ 0 ∷ 12 ∷ 0 ∷ 12 ∷ 0 ∷ 2 ∷ 0 ∷ 0 ∷ 0 ∷ [])
unfolding encode flat_map
empty_jobs = (refl, refl)

-- each is read as of its own edition, and what is refused as of the first
pub editions_read : (number_in (read_of (encode One [] [])).job.program.edition ∷ number_in (read_of (encode Two [] [])).job.program.edition
    ∷ number_in (read_of []).job.program.edition ∷ number_in (read_of (encode Two (0x2000000 ∷ []) [])).job.program.edition
    ∷ number_in (read_of (encode Two [] (replicate 16 1))).job.program.edition ∷ [])
    ≡ (1 ∷ 2 ∷ 1 ∷ 1 ∷ 1 ∷ [])
unfolding header_of tested_of body_of decided encode first_bad flat_map
editions_read = refl

-- the four bytes of the second edition
abbrev right : List ℕ
right = 2 ∷ 0 ∷ 0 ∷ 0 ∷ []

-- the number of a file with first offset 12 and these four bytes behind the four numbers
abbrev read2 : ℕ → ℕ → ℕ → List ℕ → ℕ → ℕ
read2 n r second four size = (read_of (file_of n r 12 second four size)).refusal

pub reading_2 : (read2 0 0 12 right 7 ∷ read2 0 0 12 right 8 ∷ read2 0 0 12 right 11 ∷ read2 0 0 12 right 12
    ∷ read2 65 0 272 right 272 ∷ read2 64 0 268 right 268 ∷ read2 0 33 12 right 540 ∷ read2 0 32 12 right 524
    ∷ read2 1 0 12 right 16 ∷ read2 1 0 15 right 16 ∷ read2 1 0 16 right 16
    ∷ read2 1 1 16 right 31 ∷ read2 1 1 16 right 33 ∷ read2 1 1 16 right 28 ∷ read2 1 1 16 right 32 ∷ [])
    ≡ (1 ∷ 1 ∷ 1 ∷ 0 ∷ 2 ∷ 0 ∷ 3 ∷ 0 ∷ 4 ∷ 4 ∷ 0 ∷ 5 ∷ 5 ∷ 5 ∷ 0 ∷ [])
unfolding header_of tested_of body_of decided first_bad
reading_2 = refl

-- 14 for every other number in bytes 8-9, and for anything in bytes 10 and 11
pub edition_bytes_lem : (read2 0 0 12 (0 ∷ 0 ∷ 0 ∷ 0 ∷ []) 12 ∷ read2 0 0 12 (1 ∷ 0 ∷ 0 ∷ 0 ∷ []) 12 ∷ read2 0 0 12 (3 ∷ 0 ∷ 0 ∷ 0 ∷ []) 12
    ∷ read2 0 0 12 (2 ∷ 1 ∷ 0 ∷ 0 ∷ []) 12 ∷ read2 0 0 12 (2 ∷ 0 ∷ 1 ∷ 0 ∷ []) 12 ∷ read2 0 0 12 (2 ∷ 0 ∷ 0 ∷ 1 ∷ []) 12
    ∷ read2 0 0 12 (2 ∷ 0 ∷ 0 ∷ 0 ∷ []) 12 ∷ [])
    ≡ (14 ∷ 14 ∷ 14 ∷ 14 ∷ 14 ∷ 14 ∷ 0 ∷ [])
unfolding header_of tested_of body_of decided first_bad
edition_bytes_lem = refl

-- 4 for a first offset that is neither edition's
abbrev read_first : ℕ → ℕ
read_first first = (read_of (file_of 0 0 first 12 right 12)).refusal

pub first_offsets : (read_first 9 ∷ read_first 11 ∷ read_first 13 ∷ read_first 0x10C ∷ read_first 12 ∷ []) ≡ (4 ∷ 4 ∷ 4 ∷ 4 ∷ 0 ∷ [])
unfolding header_of tested_of body_of decided first_bad
first_offsets = refl

-- where two faults meet: 1, 2 and 3 before all, then 1 for under 12 bytes, 14, the second offset's 4, 5
pub reading_order_2 : (read2 65 33 9 (1 ∷ []) 7 ∷ read2 65 33 9 (1 ∷ []) 8 ∷ read2 64 33 9 (1 ∷ []) 8 ∷ read2 64 32 9 (1 ∷ []) 8
    ∷ read2 64 32 9 (1 ∷ []) 12 ∷ read2 64 32 9 right 12 ∷ read2 64 32 268 right 12 ∷ [])
    ≡ (1 ∷ 2 ∷ 3 ∷ 1 ∷ 14 ∷ 4 ∷ 5 ∷ [])
unfolding header_of tested_of body_of decided
reading_order_2 = refl

-- and of a reader of the second edition alone, which tests the first offset behind 1, 2 and 3 and before all else
abbrev read_alone : ℕ → ℕ → ℕ → ℕ → ℕ
read_alone n r first size = (read_as Two (file_of n r first 9 (1 ∷ []) size)).refusal

pub reading_order_alone : (read_alone 65 33 13 7 ∷ read_alone 65 33 13 8 ∷ read_alone 64 33 13 8 ∷ read_alone 64 32 13 8 ∷ read_alone 64 32 8 12
    ∷ read_alone 64 32 12 8 ∷ [])
    ≡ (1 ∷ 2 ∷ 3 ∷ 4 ∷ 4 ∷ 1 ∷ [])
unfolding header_of tested_of body_of decided
reading_order_alone = refl

-- the bytes of a register with a 1 behind so many zeros
abbrev one_at : ℕ → List ℕ
one_at i = replicate i 0 ++ (1 ∷ replicate (15 - i) 0)

-- what is read from the file of these words and register bytes, and the number that it is refused with
abbrev read_job : Edition → List ℕ → List ℕ → ReadJob
read_job edition words bytes = read_of (encode edition words bytes)

abbrev number : Edition → List ℕ → List ℕ → ℕ
number edition words bytes = (read_job edition words bytes).refusal

-- 6 with its place; 15 for a register 0 that is not zero, and for no other register, in the second edition alone
pub words_and_registers_2 : (number Two (0x1FFFFFF ∷ 0x2000000 ∷ 0x2000000 ∷ []) [] ∷ (read_job Two (0x1FFFFFF ∷ 0x2000000 ∷ 0x2000000 ∷ []) []).place
    ∷ number Two (0x1FFFFFF ∷ []) []
    ∷ number Two [] (one_at 0) ∷ number Two [] (one_at 4) ∷ number Two [] (one_at 11) ∷ number Two [] (one_at 15) ∷ number Two [] (one_at 0 ++ one_at 0)
    ∷ number Two [] (replicate 16 0 ++ one_at 0) ∷ number Two [] (replicate 16 0) ∷ number Two [] []
    ∷ number One [] (one_at 0) ∷ number One [] (one_at 15) ∷ [])
    ≡ (6 ∷ 1 ∷ 0 ∷ 15 ∷ 15 ∷ 15 ∷ 15 ∷ 15 ∷ 0 ∷ 0 ∷ 0 ∷ 0 ∷ 0 ∷ [])
unfolding header_of tested_of body_of decided encode first_bad flat_map
words_and_registers_2 = refl

-- 5 before 6, and 6 before 15
pub reading_order_behind : ((read_of (encode Two (0x2000000 ∷ []) (one_at 0) ++ (0 ∷ []))).refusal
    ∷ number Two (0x2000000 ∷ []) (one_at 0) ∷ number Two (0 ∷ []) (one_at 0) ∷ [])
    ≡ (5 ∷ 6 ∷ 15 ∷ [])
unfolding header_of tested_of body_of decided encode first_bad flat_map
reading_order_behind = refl

-- 781 bytes decide what is read, and one fewer do not: of this file they are the largest job, which it is not; the first edition's is four bytes smaller
pub no_fewer_bytes : (read2 64 32 268 right (bytes_to_read - 1) ∷ read2 64 32 268 right bytes_to_read ∷ read 64 32 8 264 776 ∷ read 64 32 8 264 777 ∷ [])
    ≡ (0 ∷ 5 ∷ 0 ∷ 5 ∷ [])
unfolding header_of tested_of body_of decided first_bad
no_fewer_bytes = refl

-- ---- the writer in both editions

abbrev written_in : Edition → List ℕ → List ℕ → ℕ → ℕ
written_in edition words bytes room = (size_or_refusal edition words bytes room).refusal

pub writing_2 : (written_in Two (replicate 65 0) [] 1000 ∷ written_in Two (replicate 64 0) [] 1000
    ∷ written_in Two [] (replicate 528 0) 1000 ∷ written_in Two [] (replicate 512 0) 1000 ∷ written_in Two [] (replicate 8 0) 1000
    ∷ written_in Two (0x1FFFFFF ∷ 0x2000000 ∷ []) [] 100 ∷ (size_or_refusal Two (0x1FFFFFF ∷ 0x2000000 ∷ 0x2000000 ∷ []) [] 100).place
    ∷ written_in Two [] (one_at 0) 100 ∷ written_in Two [] (one_at 15) 100 ∷ written_in Two [] (replicate 16 0 ++ one_at 0) 100 ∷ written_in Two [] [] 100
    ∷ written_in One [] (one_at 0) 100
    ∷ written_in Two (0 ∷ []) (replicate 16 0) 31 ∷ written_in Two (0 ∷ []) (replicate 16 0) 32 ∷ (size_or_refusal Two (0 ∷ []) (replicate 16 0) 32).size ∷ [])
    ≡ (2 ∷ 0 ∷ 3 ∷ 0 ∷ 3 ∷ 6 ∷ 1 ∷ 15 ∷ 15 ∷ 0 ∷ 0 ∷ 0 ∷ 9 ∷ 0 ∷ 32 ∷ [])
unfolding size_or_refusal decided encode first_bad flat_map
writing_2 = refl

-- where two faults meet: 2, 3, 6, 15, 9; in the first edition 15 is not among them
abbrev order_in : Edition → List ℕ
order_in edition =
    written_in edition (replicate 65 0x2000000) (one_at 0 ++ replicate 8 0) 0 ∷ written_in edition (replicate 64 0x2000000) (one_at 0 ++ replicate 8 0) 0
    ∷ written_in edition (replicate 64 0x2000000) (one_at 0) 0 ∷ written_in edition [] (one_at 0) 0 ∷ written_in edition [] (replicate 16 0) 0 ∷ []

pub writing_order_2 : (order_in Two ≡ 2 ∷ 3 ∷ 6 ∷ 15 ∷ 9 ∷ []) × (order_in One ≡ 2 ∷ 3 ∷ 6 ∷ 9 ∷ 9 ∷ [])
unfolding size_or_refusal decided encode first_bad flat_map
writing_order_2 = (refl, refl)
