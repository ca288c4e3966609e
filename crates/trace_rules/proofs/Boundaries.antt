-- Which register in WB raises which flag, for one word of each kind of `Reads`; and in each edition what a row shows of a write to register 0. Carried by computing them.
-- Assumes nothing.
use Prim.Native.Nat.{ℕ}
use mathlib.Core.Path.{◌≡◌, refl}
use mathlib.Core.Bool.{true, false}
use mathlib.Core.List.{List, [], ◌∷◌, map}
use Rattle.register.specs.Layout.{zero_register}
use Rattle.table.specs.Fields.{first_of}
use Rattle.table.specs.declared.Edition.{Edition}
use Rattle.table.specs.declared.Edition.TheVariants.{One, Two}
use Rattle.table.specs.Operation.{operation_of, target_of}
use Rattle.alu_rules.specs.Across.{unmarked}
use Rattle.row_rules.specs.declared.Flags.{Flags}
use Rattle.row_rules.specs.Shown.{Change}
use Rattle.std.specs.declared.option.Option.TheVariants.{None, Some}
use Rattle.unit_rules.specs.Latches.{ExWb}
use Rattle.unit_rules.specs.Cycle.{instruction_of}
use Rattle.trace_rules.specs.RowOfCycle.{flags_for, change_of}

abbrev none : Flags
none = record { rs1 = false; rs2 = false; rs3 = false }

abbrev first : Flags
first = record { rs1 = true; rs2 = false; rs3 = false }

abbrev second : Flags
second = record { rs1 = false; rs2 = true; rs3 = false }

abbrev third : Flags
third = record { rs1 = false; rs2 = false; rs3 = true }

-- WB holds an li of this register
abbrev writing : ℕ → ExWb
writing rd = Some ((instruction_of One rd), (unmarked zero_register))

-- a word's flags where WB writes register 1, 2, 3 and 4; of the words below, bits 4..0 name 1, bits 9..5 name 2 and bits 14..10 name 3,
-- and of the multiply and the li bits 19..15 name 4
abbrev flags_at : ℕ → List Flags
flags_at w = map (λ (rd : ℕ). flags_for (writing rd) (instruction_of One w)) (1 ∷ 2 ∷ 3 ∷ 4 ∷ [])

-- AU, SHRHI and NOP: rs1 and rs2, rs1 alone, nothing
pub of_short_codes : map flags_at (0x1810C41 ∷ 0x1808C41 ∷ 0x1800C41 ∷ [])
    ≡ ((none ∷ first ∷ second ∷ none ∷ []) ∷ (none ∷ first ∷ none ∷ none ∷ []) ∷ (none ∷ none ∷ none ∷ none ∷ []) ∷ [])
unfolding first_of operation_of target_of
of_short_codes = refl

-- SIMAL: rs1, rs2 and rs3, and not its rd
pub of_a_multiply : flags_at 0x1020C41 ≡ (none ∷ first ∷ second ∷ third ∷ [])
unfolding first_of operation_of target_of
of_a_multiply = refl

-- li: its rd, and nothing that its immediate would name
pub of_li : flags_at 0x0020C41 ≡ (first ∷ none ∷ none ∷ none ∷ [])
unfolding first_of operation_of target_of
of_li = refl

-- ---- register 0 in each edition

-- WB holds this word, which gave zero
abbrev in_wb : Edition → ℕ → ExWb
in_wb edition w = Some ((instruction_of edition w), (unmarked zero_register))

abbrev both : Flags
both = record { rs1 = true; rs2 = true; rs3 = false }

abbrev all : Flags
all = record { rs1 = true; rs2 = true; rs3 = true }

-- the flags of AU, SHRHI, SIMAL and li, of which every field names register 0, and of NOP, where WB holds a word
abbrev flags_of0 : Edition → ℕ → List Flags
flags_of0 edition w = map (λ (ex : ℕ). flags_for (in_wb edition w) (instruction_of edition ex)) (0x1810000 ∷ 0x1808000 ∷ 0x1000000 ∷ 0 ∷ 0x1800000 ∷ [])

-- an li, a SIMAL and an AU of register 0: in the first edition a flag for each field that is read
pub register_0_in_edition_1 : map (flags_of0 One) (0 ∷ 0x1000000 ∷ 0x1810000 ∷ [])
    ≡ ((both ∷ first ∷ all ∷ first ∷ none ∷ []) ∷ (both ∷ first ∷ all ∷ first ∷ none ∷ []) ∷ (both ∷ first ∷ all ∷ first ∷ none ∷ []) ∷ [])
unfolding first_of operation_of target_of
register_0_in_edition_1 = refl

-- "raises no flag": in the second none
pub register_0_in_edition_2 : map (flags_of0 Two) (0 ∷ 0x1000000 ∷ 0x1810000 ∷ [])
    ≡ ((none ∷ none ∷ none ∷ none ∷ none ∷ []) ∷ (none ∷ none ∷ none ∷ none ∷ none ∷ []) ∷ (none ∷ none ∷ none ∷ none ∷ none ∷ []) ∷ [])
unfolding first_of operation_of target_of
register_0_in_edition_2 = refl

-- the other registers raise the same flags as before: AU, SIMAL and li where WB holds an li of register 1, 2, 3 and 4
pub other_registers_in_edition_2 : map (λ (w : ℕ). map (λ (rd : ℕ). flags_for (in_wb Two rd) (instruction_of Two w)) (1 ∷ 2 ∷ 3 ∷ 4 ∷ [])) (0x1810C41 ∷ 0x1020C41 ∷ 0x0020C41 ∷ [])
    ≡ map flags_at (0x1810C41 ∷ 0x1020C41 ∷ 0x0020C41 ∷ [])
unfolding first_of operation_of target_of
other_registers_in_edition_2 = refl

-- "shows `--`": an li, a SIMAL and an AU of register 0, an li of register 1 and a NOP
abbrev changes_in : Edition → List Change
changes_in edition = map (λ (w : ℕ). change_of (in_wb edition w)) (0 ∷ 0x1000000 ∷ 0x1810000 ∷ 1 ∷ 0x1800000 ∷ [])

abbrev zero_to : ℕ → Change
zero_to k = Some ((record { 0 = k }), (unmarked zero_register))

pub shown_in_each_edition : (changes_in One ∷ changes_in Two ∷ [])
    ≡ ((zero_to 0 ∷ zero_to 0 ∷ zero_to 0 ∷ zero_to 1 ∷ None ∷ []) ∷ (None ∷ None ∷ None ∷ zero_to 1 ∷ None ∷ []) ∷ [])
unfolding target_of
shown_in_each_edition = refl
