-- What the walks of the functions that hand out the front of a lent room share. Assumes `Logic`.
--     Front, fits, outcome, shown      the front of what stands in the room is what is handed out, and what is then known of it
--     rests                            the room's name at its last value says of any fact that holds there
--     came_laws, handed_laws           the laws of the two answers
use Rattle.std.proofs.Common.{◌≡◌, ℕ, ◌≤◌, List, [], ◌∷◌, length, take, refl, sym, ap, subst, arith, Bor}
use Rattle.std.specs.Prelude.{Option, Result, IfOk, MatchResult, OnOk, ⊤}
use Rattle.std.specs.declared.result.Result.TheVariants.{Ok, Err}
use Rattle.console.specs.Input.{CameInto, CameFrom, PartFrom}
use Rattle.console.specs.declared.input.Unreadable.{Unreadable}
use mathlib.Core.Option as maybe
use seplogic.Ra.Ura.{Ura}
use base.Logic.{ent}
use base.Fml.{GName, fres}
use mir.Syntax.{named}
use types.Logic.{Logic, sem}
use types.Kit.{‵, ◌$◌, ◌∵◌, !, qed, done, use1, fpack}
use denote.Builtin.{u8, usize}
use denote.Array.{Array}
use denote.Follow.{follows_so, such_by, follows_by}
use denote.FollowSlice.{finally-res}
use denote.Param.Laws.{Laws, of_field}
use denote.Param.Shared.{copy_shared}
use denote.Slice.{finally}
use denote.Struct.Field.{Field, u64-field, u8-field, shr_slice_field}
use denote.Struct.Laws.{u64-laws, u64-copy, u8-laws, u8-copy, shr_slice_laws, shr_slice_copy}
use Rattle.console.proofs.input.Unreadable.TheLaws as unreadable
use Rattle.std.proofs.result.Result.TheLaws as result
use Rattle.std.specs.contracts.result.Result.{the_row as result_row}
use Rattle.console.specs.contracts.input.Unreadable.{the_row as unreadable_row}

-- the front of what stands in the room is what is handed out
abbrev pub Front : Result ℕ Unreadable → Result (Bor (List ℕ)) Unreadable → List ℕ → Type 0
Front came handed room = MatchResult came (λ size. IfOk handed (λ part. part.now ≡ take size room)) (λ _. OnOk handed ⊥)

pub fits : (came : Result ℕ Unreadable) (room : List ℕ) → CameInto came room → IfOk came (λ size. size ≤ length room)
fits (Ok n) room into = into.0
fits (Err e) room into = tt

abbrev pub Told : Option (List ℕ) → Option (List ℕ) → List ℕ → List ℕ → List ℕ → Type 0
Told old new before room part = (length part ≤ length before) × PartFrom old new (length before) part × (part ≡ take (length part) room)

pub outcome : (old new : Option (List ℕ)) (before room : List ℕ) → length room ≡ length before → (came : Result ℕ Unreadable) (handed : Result (Bor (List ℕ)) Unreadable)
    → CameInto came room → CameFrom old new came room → Front came handed room → IfOk handed (λ part. Told old new before room part.now)
outcome old new before room same (Ok n) (Ok p) into bytes e =
    let l : n ≡ length (take n room) = into.1 in let m : n ≤ length room = into.0 in
    subst (λ (part : List ℕ). Told old new before room part) (sym e) (omega arith, (bytes.0, λ lt. bytes.1 (omega arith)), ap (λ (k : ℕ). take k room) l)
outcome old new before room same (Err x) (Ok p) into bytes e = absurd e
outcome old new before room same came (Err x) into bytes e = tt

-- a name at its last value says so of any fact that holds there
module _ {M : Type 1} {𝓤 : Ura M} (𝓛 : Logic 𝓤) where
  pub rests : (γ : GName) (room : List ℕ) (P : List ℕ → Type 0) → P room → ent 𝓤 (sem 𝓛 (finally u8 γ room)) (sem 𝓛 (follows_so (Array u8 0) (Array u8 0) γ maybe.none (λ _ _. ⊤) P))
  unfolding such_by follows_by
  rests γ room P h =
      let D : Type 0 = List ℕ in
      qed 𝓛 (‵ (finally u8 γ room) ∷ []) ∵ use1 𝓛 (‵ (fres γ ((Array u8 0).coded.code room))) (finally-res 𝓛 u8 γ room) $
      fpack ! ((s : (D → D) × D) × ((x : D) → ⊤) × P s.1) (λ s. fres γ ((Array u8 0).coded.code s.0.1)) (((λ _. room), room), (λ _. tt), h) $ done !

pub onward : {P Q : Bor (List ℕ) → Type 0} → ((p : Bor (List ℕ)) → P p → Q p) → (h : Result (Bor (List ℕ)) Unreadable) → IfOk h P → IfOk h Q
onward k (Ok p) t = k p t
onward k (Err e) t = tt

abbrev pub came_laws : Laws (result_row usize unreadable_row)
came_laws = result.the_row_laws usize unreadable_row (of_field u64-field u64-laws refl (copy_shared u64-field u64-copy)) unreadable.the_row_laws

module _ (κ : List ℕ) where
  abbrev part : Field
  part = shr_slice_field (record { mir = named 1; lft = κ }) u8 tt

  abbrev pub handed_laws : Laws (result_row part.row unreadable_row)
  handed_laws = result.the_row_laws part.row unreadable_row
      (of_field part (shr_slice_laws (record { mir = named 1; lft = κ }) u8 tt) refl (copy_shared part (shr_slice_copy (record { mir = named 1; lft = κ }) u8 tt (of_field u8-field u8-laws refl (copy_shared u8-field u8-copy)).shr_laws)))
      unreadable.the_row_laws

-- the same where nothing is known of the input
pub shown : (before room : List ℕ) → length room ≡ length before → (came : Result ℕ Unreadable) (handed : Result (Bor (List ℕ)) Unreadable)
    → CameInto came room → Front came handed room → IfOk handed (λ part. (length part.now ≤ length before) × (part.now ≡ take (length part.now) room))
shown before room same (Ok n) (Ok p) into e =
    let l : n ≡ length (take n room) = into.1 in let m : n ≤ length room = into.0 in
    subst (λ (part : List ℕ). (length part ≤ length before) × (part ≡ take (length part) room)) (sym e) (omega arith, ap (λ (k : ℕ). take k room) l)
shown before room same (Err x) (Ok p) into e = absurd e
shown before room same came (Err x) into e = tt
