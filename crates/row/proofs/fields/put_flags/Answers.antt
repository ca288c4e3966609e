-- Carried by `sets-eq`: stores one after another from the front on.
use mathlib.Core.List.{[], ◌∷◌}
use native.Mathlib.Omega.{arith}
use lib.Seq.{sets-eq}
use lib.ListN.{length-set}
use Rattle.row_rules.specs.Text.{flags_text}
use Rattle.row.proofs.fields.put_flags.Goals as goal

pub bounds-out-1 : goal.bounds-out-1
bounds-out-1 c = simp length-set (omega arith)

pub bounds-out-2 : goal.bounds-out-2
bounds-out-2 c = simp length-set (omega arith)

pub bounds-out-3 : goal.bounds-out-3
bounds-out-3 c = simp length-set (omega arith)

pub returns : goal.returns
unfolding flags_text
returns c =
    rw (← c.flag.ensures, ← c.flag-2.ensures, ← c.flag-3.ensures)
    (sets-eq (32 ∷ c.flag.result ∷ c.flag-2.result ∷ c.flag-3.result ∷ 32 ∷ []) c.args.out.now 0 (omega arith))
