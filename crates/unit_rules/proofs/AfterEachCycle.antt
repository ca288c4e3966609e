-- A program of one line cycle by cycle, and the count at the end of one of 64 lines: what is fetched, and when the unit is drained. Carried by computing.
-- Assumes nothing.
use Prim.Native.Nat.{ℕ}
use mathlib.Core.Path.{◌≡◌, refl}
use mathlib.Core.Bool.{true, false}
use mathlib.Core.List.{[], ◌∷◌, map}
use lib.ListN.{replicate}
use Rattle.register.specs.Layout.{zero_register}
use Rattle.table.specs.declared.Edition.TheVariants.{One}
use Rattle.job_rules.specs.declared.Program.{Program}
use Rattle.unit_rules.specs.Cycle.{count_after, fetched_in, cycle_of, cycles_of}
use Rattle.unit_rules.specs.Record.{is_empty, drained_of, last_of}
use Rattle.unit_rules.specs.Calls.{begun_of}

abbrev one_line : Program
one_line = record { words = 0 ∷ []; n = record { 0 = 1 }; edition = One }

-- "nothing is fetched twice, and unused lines are not li 0 into register 0": in cycle 1 something is fetched, and in no other
pub fetched_once : map (λ (c : ℕ). is_empty (fetched_in one_line c)) (0 ∷ 1 ∷ 2 ∷ 3 ∷ 4 ∷ []) ≡ (true ∷ false ∷ true ∷ true ∷ true ∷ [])
fetched_once = refl

-- "adds one. At count n or above .. the count stays": lines 62 and 63 are counted, and 64 is the end
pub counted_to_the_end : map (count_after 64) (62 ∷ 63 ∷ 64 ∷ []) ≡ (63 ∷ 64 ∷ 64 ∷ [])
counted_to_the_end = refl

-- "n+3 (0 when n is 0)"
pub last_cycles : map last_of (0 ∷ 1 ∷ 64 ∷ []) ≡ (0 ∷ 4 ∷ 67 ∷ [])
last_cycles = refl

-- "when the count has reached n and all latches are empty": after four cycles, and not before
pub drained_after_four : map (λ (c : ℕ). drained_of (cycles_of c (begun_of true one_line (replicate 32 zero_register)))) (0 ∷ 1 ∷ 2 ∷ 3 ∷ 4 ∷ [])
    ≡ (false ∷ false ∷ false ∷ false ∷ true ∷ [])
unfolding drained_of cycles_of cycle_of
drained_after_four = refl
