-- Carried by `clamped_sum`, at the lane's width.
use Rattle.alu_lanes.proofs.Signed.{clamped_sum}
use Rattle.alu_lanes.proofs.sign.clamped_sum.Goals as goal

pub returns : goal.returns
returns g c =
    clamped_sum g.L.Bits.width g.met.L.Lane.some g.L.Bits.number c.args.minus c.args.x c.args.y
    c.turned_if-z.ensures.value c.turned_if-z.ensures.fits c.sum-sum.ensures c.is_low-low.ensures.value c.is_low-low.ensures.fits
    c.is_low.ensures.value c.is_low-2.ensures.value c.is_low-2.ensures.fits c.sign_lost-marked.ensures c.limit.ensures c.select_unpredictable.ensures
