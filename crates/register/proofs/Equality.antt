-- Two registers with the same words are the same. Carried by the record of the four paths.
-- Assumes nothing.
use mathlib.Core.Path.{◌≡◌}
use Rattle.register.specs.declared.Register.{Register}

pub same : {r s : Register} → r.w0 ≡ s.w0 → r.w1 ≡ s.w1 → r.w2 ≡ s.w2 → r.w3 ≡ s.w3 → r ≡ s
same e f g h = λ i. record { w0 = e i; w1 = f i; w2 = g i; w3 = h i }
