-- The refusals of plain execution at their boundaries, by document 01's numbers: what is just refused, and what is just not; whose marks are answered; and what becomes of
-- register 0 in each edition. Carried by computing.
-- Assumes nothing.
use Prim.Native.Nat.{ℕ}
use mathlib.Core.Path.{◌≡◌, refl}
use mathlib.Core.List.{List, [], ◌∷◌, map}
use lib.ListN.{get_or, replicate, take}
use Rattle.table.specs.declared.Edition.{Edition}
use Rattle.table.specs.declared.Edition.TheVariants.{One, Two}
use Rattle.table.specs.Fields.{first_of}
use Rattle.table.specs.Operation.{operation_of, target_of}
use Rattle.table.specs.Refusal.{first_bad}
use Rattle.table.specs.Decided.{decided}
use Rattle.alu_rules.specs.Width.{signed, bits, within}
use Rattle.alu_rules.specs.Result.{result_of, outcome_of}
use Rattle.plain_rules.specs.Machine.{step_on, plain_on, marks_on}
use Rattle.plain_rules.specs.Answer.{execute_of, execute_all_of}

-- of 65 lines and of 64, of a word at 2^25 and just below it; and where both faults meet
pub programs : ((execute_all_of One (replicate 65 0) []).executed.refusal ∷ (execute_all_of One (replicate 64 0) []).executed.refusal
    ∷ (execute_all_of One (0 ∷ 0x2000000 ∷ []) []).executed.refusal ∷ (execute_all_of One (0 ∷ 0x2000000 ∷ []) []).executed.place ∷ (execute_all_of One (0 ∷ 0x1FFFFFF ∷ []) []).executed.refusal
    ∷ (execute_all_of One (replicate 65 0x2000000) []).executed.refusal ∷ (execute_of One 0x2000000 []).executed.refusal ∷ (execute_of One 0x1FFFFFF []).executed.refusal ∷ [])
    ≡ (2 ∷ 0 ∷ 6 ∷ 1 ∷ 0 ∷ 2 ∷ 6 ∷ 0 ∷ [])
unfolding execute_all_of execute_of decided first_bad
programs = refl

-- four of the 64 marks of a program, where halfword 0 of register 0 is 3FFF
abbrev marks_of : List ℕ → List ℕ
marks_of words = take 4 (execute_all_of One words ((0x3FFF ∷ 0 ∷ 0 ∷ 0 ∷ []) ∷ [])).marks

-- AHS of that register with itself into itself twice, the second of which clamps, and an AU: of each line its own, zero beyond; and with a bad word none
pub marked_lines : (marks_of (0x1820000 ∷ 0x1820000 ∷ 0x1810000 ∷ []) ∷ marks_of (0x1820000 ∷ 0x1820000 ∷ 0x2000000 ∷ []) ∷ [])
    ≡ ((0 ∷ 1 ∷ 0 ∷ 0 ∷ []) ∷ (0 ∷ 0 ∷ 0 ∷ 0 ∷ []) ∷ [])
unfolding execute_all_of decided first_bad marks_on step_on first_of operation_of target_of outcome_of result_of signed bits within
marked_lines = refl

-- of a word alone, and of one that is refused, whose other bits would clamp
pub marked_words : map (λ (w : ℕ). (execute_of One w ((0x7FFF ∷ 0 ∷ 0 ∷ 0 ∷ []) ∷ [])).mark) (0x1820000 ∷ 0x3820000 ∷ []) ≡ (1 ∷ 0 ∷ [])
unfolding execute_of decided first_of operation_of outcome_of result_of signed bits within
marked_words = refl

-- rows 0 and 1 of a file that has 3 in register 0 and 5 in register 1, as a program leaves them in each edition
abbrev left_in : List ℕ → List (List (List ℕ))
left_in words = map (λ (edition : Edition). take 2 (execute_all_of edition words ((3 ∷ 0 ∷ 0 ∷ 0 ∷ []) ∷ (5 ∷ 0 ∷ 0 ∷ 0 ∷ []) ∷ [])).executed.file) (One ∷ Two ∷ [])

-- without a line; with AU of register 0 with itself into register 1, of register 1 with itself into register 0, and of register 0 with itself into both; and with 65 lines
pub in_each_edition : (left_in [] ∷ left_in (0x1810001 ∷ []) ∷ left_in (0x1810420 ∷ []) ∷ left_in (0x1810000 ∷ 0x1810001 ∷ []) ∷ left_in (replicate 65 0) ∷ [])
    ≡ (((3 ∷ 0 ∷ 0 ∷ 0 ∷ []) ∷ (5 ∷ 0 ∷ 0 ∷ 0 ∷ []) ∷ []) ∷ ((0 ∷ 0 ∷ 0 ∷ 0 ∷ []) ∷ (5 ∷ 0 ∷ 0 ∷ 0 ∷ []) ∷ []) ∷ [])
    ∷ (((3 ∷ 0 ∷ 0 ∷ 0 ∷ []) ∷ (6 ∷ 0 ∷ 0 ∷ 0 ∷ []) ∷ []) ∷ ((0 ∷ 0 ∷ 0 ∷ 0 ∷ []) ∷ (0 ∷ 0 ∷ 0 ∷ 0 ∷ []) ∷ []) ∷ [])
    ∷ (((10 ∷ 0 ∷ 0 ∷ 0 ∷ []) ∷ (5 ∷ 0 ∷ 0 ∷ 0 ∷ []) ∷ []) ∷ ((0 ∷ 0 ∷ 0 ∷ 0 ∷ []) ∷ (5 ∷ 0 ∷ 0 ∷ 0 ∷ []) ∷ []) ∷ [])
    ∷ (((6 ∷ 0 ∷ 0 ∷ 0 ∷ []) ∷ (12 ∷ 0 ∷ 0 ∷ 0 ∷ []) ∷ []) ∷ ((0 ∷ 0 ∷ 0 ∷ 0 ∷ []) ∷ (0 ∷ 0 ∷ 0 ∷ 0 ∷ []) ∷ []) ∷ [])
    ∷ (((3 ∷ 0 ∷ 0 ∷ 0 ∷ []) ∷ (5 ∷ 0 ∷ 0 ∷ 0 ∷ []) ∷ []) ∷ ((3 ∷ 0 ∷ 0 ∷ 0 ∷ []) ∷ (5 ∷ 0 ∷ 0 ∷ 0 ∷ []) ∷ []) ∷ [])
    ∷ []
unfolding execute_all_of decided first_bad plain_on marks_on step_on first_of operation_of target_of outcome_of result_of signed bits within
in_each_edition = refl

-- a word alone, which is that AU into register 1
pub alone_in_each_edition : map (λ (edition : Edition). get_or (execute_of edition 0x1810001 ((3 ∷ 0 ∷ 0 ∷ 0 ∷ []) ∷ (5 ∷ 0 ∷ 0 ∷ 0 ∷ []) ∷ [])).executed.file 1 []) (One ∷ Two ∷ [])
    ≡ ((6 ∷ 0 ∷ 0 ∷ 0 ∷ []) ∷ (0 ∷ 0 ∷ 0 ∷ 0 ∷ []) ∷ [])
unfolding execute_of decided first_bad step_on first_of operation_of target_of outcome_of result_of signed bits within
alone_in_each_edition = refl
