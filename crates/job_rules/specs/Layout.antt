-- The job file of document 01, and that of the second edition, in which "the sections and total size shift by four".
-- Assumes nothing.
use Rattle.std.specs.Prelude.{ℕ, zero, suc, ◌+◌, ◌*◌, ◌/◌, ◌%◌, ◌^◌, ◌<◌, length, get_or, drop, Bool, true, cond, ◌&&◌, eqb}
use mathlib.Core.List.{List, [], ◌∷◌, ◌++◌, flat_map}
use Rattle.register.specs.declared.Register.{Register}
use Rattle.register.specs.Layout.{bytes_of_word, word_at, of_bytes}
use Rattle.table.specs.declared.Edition.{Edition}
use Rattle.table.specs.declared.Edition.TheVariants.{One, Two}

-- "offset of the instructions, 8"; "An edition 2 job has instruction offset 12"
abbrev pub instructions_at : Edition → ℕ
instructions_at One = 8
instructions_at Two = 12

-- "offset of the registers, 8+4n"
abbrev pub registers_at : Edition → ℕ → ℕ
registers_at edition n = instructions_at edition + 4 * n

-- "The whole is exactly 8+4n+16r bytes"
abbrev pub size_of : Edition → ℕ → ℕ → ℕ
size_of edition n r = registers_at edition n + 16 * r

-- "at most 776", and four more in the second edition
abbrev pub LARGEST : ℕ
LARGEST = 780

-- so many bytes of a file decide what is read of it: one more than the largest has
abbrev pub bytes_to_read : ℕ
bytes_to_read = 781

-- ---- what is written

-- "Numbers are least significant byte first": a number of two bytes, and an instruction, which "takes 4 bytes"
abbrev pub two_bytes : ℕ → List ℕ
two_bytes v = v % 2 ^ 8 ∷ v / 2 ^ 8 % 2 ^ 8 ∷ []

abbrev pub four_bytes : ℕ → List ℕ
four_bytes w = bytes_of_word w []

-- "bytes 8-9 hold 2, bytes 10-11 zero": in the second edition; in the first nothing stands before the instructions
abbrev pub edition_bytes : Edition → List ℕ
edition_bytes One = []
edition_bytes Two = two_bytes 2 ++ two_bytes 0

-- "Bytes 0-1: n, instruction count. 2-3: r, register count. 4-5: offset of the instructions. 6-7: offset of the registers"
abbrev pub header_bytes : Edition → ℕ → ℕ → List ℕ
header_bytes edition n r =
    two_bytes n ++ two_bytes r ++ two_bytes (instructions_at edition) ++ two_bytes (registers_at edition n) ++ edition_bytes edition

-- "each register takes 16": how many registers the bytes are
abbrev pub register_count : List ℕ → ℕ
register_count bytes = length bytes / 16

-- the bytes of a job, from its instruction words and its registers' bytes
unfoldable pub encode : Edition → List ℕ → List ℕ → List ℕ
encode edition words bytes = header_bytes edition (length words) (register_count bytes) ++ flat_map four_bytes words ++ bytes

-- ---- what is read

-- a list of bytes, as a file that is lent as `&[u8]` is
abbrev pub Bytes : List ℕ → Type 0
Bytes l = (i : ℕ) → get_or l i 0 < 2 ^ 8

-- "least significant byte first": the number of two bytes, and of the two from i on
abbrev pub two_of_bytes : ℕ → ℕ → ℕ
two_of_bytes b0 b1 = b0 + b1 * 2 ^ 8

abbrev pub two_at : List ℕ → ℕ → ℕ
two_at l i = two_of_bytes (get_or l i 0) (get_or l (i + 1) 0)

-- the edition of a file, by its first offset; with an offset that is neither's it is no job, and read as the first edition's reader does
abbrev pub edition_in : List ℕ → Edition
edition_in l = cond (eqb (two_at l 4) (instructions_at Two)) Two One

-- whether "bytes 8-9 hold 2, bytes 10-11 zero", where the edition has such bytes
abbrev pub says_edition : Edition → List ℕ → Bool
says_edition One l = true
says_edition Two l = eqb (two_at l 8) 2 && eqb (two_at l 10) 0

-- n pieces of k bytes, one after another, each as what its bytes say
abbrev pub pieces : {A : Type 0} → (List ℕ → A) → ℕ → ℕ → List ℕ → List A
pieces says k zero l = []
pieces says k (suc n) l = says l ∷ pieces says k n (drop k l)

-- the first n instruction words of the list, and its first r registers
abbrev pub words_in : ℕ → List ℕ → List ℕ
words_in = pieces (λ (l : List ℕ). word_at l 0) 4

abbrev pub registers_of : ℕ → List ℕ → List Register
registers_of = pieces of_bytes 16
