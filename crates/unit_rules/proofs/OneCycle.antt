-- The stages on latches and single registers are those of "One cycle". Carried by the cases of each latch, and by the count: below n it is below 64.
-- Assumes nothing.
use Rattle.unit_rules.proofs.Shared.{◌<◌, ◌≤◌, ◌%◌, ◌≡◌, refl, Bool, true, false, cond, ◌&&◌, List, arith, ltb-true, ltb, get_or}
use Rattle.unit_rules.proofs.Shared.{Register, Pointer, Option, None, Some, takes_first, takes_second, takes_third, stored, IfId, IdEx, ExWb}
use Rattle.unit_rules.proofs.Shared.{Program, read_by, is_target, newest, after_wb, after_ex, after_id, after_if, write_to, write_of, stored_by, newest_by, executed_by}
use Rattle.unit_rules.proofs.Shared.{sources_of, read_at, decoded_with, delivered_of}
use Rattle.table.specs.declared.Count.{Count}

-- ---- 1. WB

write_to_lem : (target : Option Pointer) (v : Register) (f : List Register) → stored_by (write_to target v) f ≡ stored target v f
write_to_lem None v f = refl
write_to_lem (Some p) v f = refl

pub write_back : (latch : ExWb) (f : List Register) → stored_by (write_of latch) f ≡ after_wb latch f
write_back None f = refl
write_back (Some (i, o)) f = write_to_lem i.target o.value f

-- ---- 2. EX

-- what WB writes takes the place of the latched value where "One cycle" says so
newest_to : (target : Option Pointer) (v : Register) (reads : Bool) (p : Pointer) (latched : Register)
    → newest_by reads (write_to target v) p latched ≡ cond (reads && is_target target p) v latched
newest_to None v true p latched = refl
newest_to None v false p latched = refl
newest_to (Some d) v reads p latched = refl

newest_of : (wb : ExWb) (reads : Bool) (p : Pointer) (latched : Register) → newest_by reads (write_of wb) p latched ≡ newest wb reads p latched
newest_of None true p latched = refl
newest_of None false p latched = refl
newest_of (Some (i, o)) reads p latched = newest_to i.target o.value reads p latched

pub execute : (wb : ExWb) (latch : IdEx) → executed_by (write_of wb) latch ≡ after_ex wb latch
execute wb None = refl
execute wb (Some (i, o)) =
    rw (
      newest_of wb (takes_first (read_by i)) i.first o.first,
      newest_of wb (takes_second (read_by i)) i.second o.second,
      newest_of wb (takes_third (read_by i)) i.third o.third,
    )

-- ---- 3. ID

pub decode : (latch : IfId) (f : List Register) → decoded_with latch (read_at (sources_of latch) f) ≡ after_id latch f
decode None f = refl
decode (Some i) f = refl

-- ---- 4. IF

-- a count below n is below 64, so that its remainder by 64 is the count itself
pub deliver : (program : Program) (k : Count) → program.n.0 ≤ 64
    → delivered_of program.edition program.n k (get_or program.words (k.0 % 64) 0) ≡ after_if program k.0
deliver program k small = go (ltb k.0 program.n.0) refl
  where
    go : (t : Bool) → ltb k.0 program.n.0 ≡ t → delivered_of program.edition program.n k (get_or program.words (k.0 % 64) 0) ≡ after_if program k.0
    go true q =
        let below : k.0 < program.n.0 = ltb-true k.0 program.n.0 q in
        let same : k.0 % 64 ≡ k.0 = omega arith in
        rw same
    go false q = rw q
