-- What the answers of the calls say, undone: where two say the same, they are the same. Only a load tells a place, since no other call refuses with 6.
-- Assumes nothing.
use Rattle.unit_rules.proofs.Shared.{ℕ, ◌≡◌, ap, ◌∙◌, sym, refl, Bool, false, arith, Register, zero_register}
use Rattle.std.specs.declared.result.Result.{Result}
use Rattle.table.specs.declared.refusal.Refusal.{Refusal}
use Rattle.table.specs.Refusal.{WORD}
use Rattle.table.proofs.Decided.{each}
use Rattle.table.proofs.Told.{one_answer, one_without_place}
use Rattle.unit_rules.specs.declared.Unit.{Unit as Model}
use Rattle.unit_rules.specs.declared.Answered.{Answered}
use Rattle.unit_rules.specs.Answers.{Loaded, Gone, Cycled, Ran, RegisterAnswer, Drained, said_loaded, said_gone, said_cycled, said_ran, said_register, said_drained}
use Rattle.unit_rules.specs.Calls.{go_of, cycled_of, ran_of, register_of, asked_drained}

together : {A : Type 0} {x y : Answered A} → x.answer ≡ y.answer → x.unit ≡ y.unit → x ≡ y
together answer unit = λ i. record { answer = answer i; unit = unit i }

pub unsaid_loaded : (x y : Answered (Unit {0})) → said_loaded x ≡ said_loaded y → x ≡ y
unsaid_loaded x y e =
    together (one_answer tt x.answer y.answer (ap (λ (l : Loaded). l.refusal) e) (ap (λ (l : Loaded). l.place) e) refl) (ap (λ (l : Loaded). l.unit) e)

module _ (u : Model) where
  go_no_word : (go_of u).refusal ≡ WORD → ⊥
  unfolding go_of
  go_no_word = each (λ (g : Gone). g.refusal ≡ WORD → ⊥) _ _ (λ e. omega (arith, e), tt) (λ e. omega (arith, e))

  pub unsaid_go : (x y : Answered (Unit {0})) → said_gone x ≡ go_of u → said_gone y ≡ go_of u → x ≡ y
  unsaid_go x y p q =
      together
      (one_without_place tt x.answer y.answer (ap (λ (g : Gone). g.refusal) p) (ap (λ (g : Gone). g.refusal) q) go_no_word refl)
      (ap (λ (g : Gone). g.unit) (p ∙ sym q))

  -- a cycle, with a row or without
  pub unsaid_cycled : {c : Cycled} → (c.refusal ≡ WORD → ⊥) → (x y : Answered (Unit {0})) → said_cycled x ≡ c → said_cycled y ≡ c → x ≡ y
  unsaid_cycled no_word x y p q =
      together
      (one_without_place tt x.answer y.answer (ap (λ (k : Cycled). k.refusal) p) (ap (λ (k : Cycled). k.refusal) q) no_word refl)
      (ap (λ (k : Cycled). k.unit) (p ∙ sym q))

  pub cycle_no_word : (cycled_of u).refusal ≡ WORD → ⊥
  unfolding cycled_of
  cycle_no_word = each (λ (k : Cycled). k.refusal ≡ WORD → ⊥) _ _ (λ e. omega (arith, e), (λ e. omega (arith, e), tt)) (λ e. omega (arith, e))

  run_no_word : (k : ℕ) → (ran_of u k).refusal ≡ WORD → ⊥
  unfolding ran_of
  run_no_word k = each (λ (r : Ran). r.refusal ≡ WORD → ⊥) _ _ (λ e. omega (arith, e), tt) (λ e. omega (arith, e))

  pub unsaid_run : (k : ℕ) (x y : Answered ℕ) → said_ran x ≡ ran_of u k → said_ran y ≡ ran_of u k → x ≡ y
  unsaid_run k x y p q =
      together
      (one_without_place 0 x.answer y.answer (ap (λ (r : Ran). r.refusal) p) (ap (λ (r : Ran). r.refusal) q) (run_no_word k) (ap (λ (r : Ran). r.made) (p ∙ sym q)))
      (ap (λ (r : Ran). r.unit) (p ∙ sym q))

  register_no_word : (i : ℕ) → (register_of u i).refusal ≡ WORD → ⊥
  unfolding register_of
  register_no_word i = each (λ (a : RegisterAnswer). a.refusal ≡ WORD → ⊥) _ _ (λ e. omega (arith, e), (λ e. omega (arith, e), tt)) (λ e. omega (arith, e))

  pub unsaid_register : (i : ℕ) (x y : Result Register Refusal) → said_register x ≡ register_of u i → said_register y ≡ register_of u i → x ≡ y
  unsaid_register i x y p q =
      one_without_place zero_register x y (ap (λ (a : RegisterAnswer). a.refusal) p) (ap (λ (a : RegisterAnswer). a.refusal) q) (register_no_word i)
      (ap (λ (a : RegisterAnswer). a.register) (p ∙ sym q))

  drained_no_word : (asked_drained u).refusal ≡ WORD → ⊥
  unfolding asked_drained
  drained_no_word = each (λ (a : Drained). a.refusal ≡ WORD → ⊥) _ _ (λ e. omega (arith, e), tt) (λ e. omega (arith, e))

  pub unsaid_drained : (x y : Result Bool Refusal) → said_drained x ≡ asked_drained u → said_drained y ≡ asked_drained u → x ≡ y
  unsaid_drained x y p q =
      one_without_place false x y (ap (λ (a : Drained). a.refusal) p) (ap (λ (a : Drained). a.refusal) q) drained_no_word
      (ap (λ (a : Drained). a.drained) (p ∙ sym q))
