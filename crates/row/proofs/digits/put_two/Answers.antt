-- Carried by `sets-eq`: two stores, of the digits that the callees give.
use native.Mathlib.Omega.{arith}
use lib.Seq.{sets-eq}
use Rattle.row_rules.specs.Text.{two_digits}
use Rattle.row.proofs.digits.put_two.Goals as goal

pub returns : goal.returns
unfolding two_digits
returns c =
    let a = c.args in
    rw (c.units.ensures, c.tens.ensures) (sets-eq (two_digits a.n) a.out.now 0 (omega arith))
