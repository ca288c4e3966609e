-- Carried by `product`.
use Rattle.std.proofs.Common.{refl, lit<, rules}
use mir.Syntax.{w32, w64}
use Rattle.alu_lanes.proofs.Signed.{product}
use Rattle.alu_lanes.proofs.sign.U64Product.product.Goals as goal

pub returns : goal.returns
returns c =
    product w32 w64 (lit< tt) refl (lit< tt) refl c.args.a c.args.b _ c.cast_signed.result c.cast_signed-2.result
    (search rules) (search rules) (search rules) c.cast_signed.ensures c.cast_signed-2.ensures
    (search rules) (search rules) (search rules) (search rules) (search rules) c.cast_unsigned.ensures
