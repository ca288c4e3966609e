-- The plain machine in each edition: in the first nothing is cleared, and in the second register 0 is zero from the first line on, so that every line reads zero
-- there. Carried by `never_to_0`, which is `each_target` of the table in the second edition.
-- Assumes nothing.
use Rattle.table.specs.declared.Pointer.{Pointer}
use Prim.Native.Nat.{ℕ, suc, ◌<◌, ◌≤◌}
use mathlib.Core.Path.{◌≡◌, refl, sym, ap, ◌∙◌}
use mathlib.Core.List.{List, [], ◌∷◌}
use native.Mathlib.Omega.{arith}
use borrow.Author.Tests.{eqb-false}
use lib.ListN.{get_or, take, length}
use lib.Seq.{get_or-set_same, get_or-set_other}
use Rattle.register.specs.declared.Register.{Register}
use Rattle.register.specs.Layout.{zero_register, row_of, of_row}
use Rattle.table.specs.declared.Edition.TheVariants.{One, Two}
use Rattle.std.specs.declared.option.Option.{Option}
use Rattle.table.specs.Fields.{rd_of}
use Rattle.table.specs.Operation.{target_of}
use Rattle.table.specs.Refusal.{first_bad}
use Rattle.table.proofs.Theorems.{each_target}
use Rattle.plain_rules.specs.Machine.{stored, cleared_for, step_on, plain_on, plain_rows, cleared_rows}
use Rattle.plain_rules.specs.Answer.{ExecutedProgram, execute_all_of}
use Rattle.plain_rules.proofs.Refusals.{executed}

-- ---- what is cleared

-- "Edition 1 .. is untouched"
pub nothing_cleared : {A : Type 0} (x : A) (f : List A) → cleared_for One x f ≡ f
nothing_cleared x f = refl

-- "in edition 2 the latter clears register 0 first", and no other register
pub register_0_cleared : {A : Type 0} (x d : A) (f : List A) → 0 < length f → get_or (cleared_for Two x f) 0 d ≡ x
register_0_cleared x d f h = get_or-set_same f 0 x d h

pub others_not_cleared : {A : Type 0} (x d : A) (f : List A) (i : ℕ) → get_or (cleared_for Two x f) (suc i) d ≡ get_or f (suc i) d
others_not_cleared x d f i = get_or-set_other f 0 (suc i) x d (λ e. omega arith)

-- ---- what is never written

pub never_to_0 : {A : Type 0} (w : ℕ) (v d : A) (f : List A) → get_or (stored (target_of Two w) v f) 0 d ≡ get_or f 0 d
never_to_0 w v d f =
    each_target (λ (t : Option Pointer). get_or (stored t v f) 0 d ≡ get_or f 0 d) Two w refl
    (λ free. get_or-set_other f (rd_of w).0 0 v d (λ e. eqb-false (rd_of w).0 0 free (sym e)))

module _ {A : Type 0} (read : A → Register) (make : Register → A) (none : A) where
  -- so a program leaves register 0 as it was
  pub register_0_left : (p : List ℕ) (d : A) (f : List A) → get_or (plain_on read make none Two p f) 0 d ≡ get_or f 0 d
  unfolding plain_on step_on
  register_0_left [] d f = refl
  register_0_left (w ∷ p) d f = register_0_left p d (step_on read make none Two w f) ∙ never_to_0 w _ d f

-- "every read of it gives zero": before every line k, and once all are executed, row 0 is that of the zero register
pub register_0_zero : (p : List ℕ) (k : ℕ) (f : List (List ℕ)) → 0 < length f → get_or (plain_rows Two (take k p) (cleared_rows Two f)) 0 [] ≡ row_of zero_register
register_0_zero p k f h = register_0_left of_row row_of [] (take k p) [] (cleared_rows Two f) ∙ register_0_cleared (row_of zero_register) [] f h

-- and so it is answered
pub register_0_answered : (p : List ℕ) (f : List (List ℕ)) → 0 < length f → length p ≤ 64 → length p ≤ first_bad p
    → get_or (execute_all_of Two p f).executed.file 0 [] ≡ row_of zero_register
register_0_answered p f h few good =
    ap (λ (e : ExecutedProgram). get_or e.executed.file 0 []) (executed Two p f few good)
    ∙ register_0_left of_row row_of [] p [] (cleared_rows Two f) ∙ register_0_cleared (row_of zero_register) [] f h
