-- `read_input` hands on what `read_open` hands out. A walk by hand, as there.
use Rattle.std.proofs.Common.{◌≡◌, ℕ, ◌≤◌, List, [], ◌∷◌, length, refl, sym, subst, Bor}
use Rattle.std.proofs.raw_atomic.Walks.{proved}
use Rattle.std.specs.Prelude.{Result, IfOk}
use Rattle.std.specs.declared.io.traits.Read as Read
use Rattle.console.specs.Input.{PartFrom, LeavesPart}
use Rattle.console.specs.declared.input.Unreadable.{Unreadable}
use base.Logic.{emp, id⊢}
use base.Fml.{Fml, ftrue, flft}
use mir.Syntax.{Dict, Args, named, a_type, dcons, dnil}
use mir.MapTy.{inst_fn}
use contract.BorrowLft.{◌⊑◌}
use contract.Monad.{fact, fact_i}
use contract.Running.{tables}
use types.Kit.{‵, raw, ◌⊛◌, some, later, ◌$◌, ◌∵◌, !, qed, done, move, keep, drop, use0, use1, use2, split, split3, join, fsplit, fjoin, pick, await, suffices}
use types.Part.{whole, sub, agg}
use types.Run.{enter, addr, from, fld, hop, stop, no_more, and_then, returns}
use types.ByLocal.{alloc_all, pass_all, free_all, look_at, look_in_at, get, get_in, through, sets, lands_as}
use denote.Builtin.{u8}
use denote.Exit.{no}
use denote.Param.{bounded}
use denote.RattleType.{RattleType}
use denote.Ref.{MutRef, mut_vals, mut_Tells}
use denote.Signature.{plain, mut_slice_of, type_at}
use denote.Slice.{MutSlice, mut_slice_vals, mut_slice_Tells}
use denote.Steps.{nothing, heard, peeks}
use denote.Triple.Call.{calls_at}
use denote.Triple.Clauses.{lasts}
use denote.Triple.Spec.{triple_of}
use denote.Triple.Table.{framed}
use denote.Triple.Walked.{Stays, gave_ref, stay_dropped, Goes-gave_ref, Goes-spent_slice, ends_at}
use denote.Laws.{Is, shows}
use Rattle.console.proofs.Handing.{handed_laws}
use Rattle.std.specs.declared.io.traits.Write as Write
use types.Kit.{Item, rewrite}
use types.Run.{of_opd}
use Rattle.console.specs.contracts.output.Streams.{the_row as streams_row}
use Rattle.console.specs.declared.output.Streams as Streams
use Rattle.console.specs.contracts.input.read_input as f
use Rattle.console.specs.contracts.input.read_input.Key.{name as #self}
use Rattle.console.proofs.input.read_input.Statement.{statement}
use Rattle.console.proofs.input.read_input.Code as code
use Rattle.console.specs.contracts.input.read_open as open_at
use Rattle.console.proofs.input.read_open.Met as open_met
use Rattle.console.specs.contracts.input.tell_unreadable as tell
use Rattle.console.proofs.input.tell_unreadable.Met as tell_met

module _ (R O E : RattleType) (g : Read.Ghosts R.Denot) (d : Dict) (gO : Write.Ghosts O.Denot) (dO : Dict) (gE : Write.Ghosts E.Denot) (dE : Dict) where
  abbrev stayed : Stays (f.ended R O E g d gO dO gE dE).signature.params (f.ended R O E g d gO dO gE dE).kept
  stayed = (gave_ref (0 ∷ []) tt (plain (λ _. f.R-row R O E)), (gave_ref (1 ∷ []) tt (plain (λ _. streams_row (f.O-row R O E) (f.E-row R O E))), (stay_dropped (mut_slice_of (2 ∷ []) tt (plain (λ _. u8))) no, tt)))

  abbrev args : Args
  args = bounded (a_type ∷ a_type ∷ a_type ∷ []) (R, (O, (E, tt))) (dcons d (dcons dO (dcons dE dnil)))

pub read_input_spec : {M : Type 1} → statement M
read_input_spec 𝓤 𝓛 𝓜 𝓡 wired R O E L LO LE g d gO dO gE dE met metO metE =
    let T = f.ended R O E g d gO dO gE dE in let c = f.clauses R O E g d gO dO gE dE 𝓛 𝓜.mem 𝓡.returns in
    let S = streams_row (f.O-row R O E) (f.E-row R O E) in
    proved 𝓛 T (stayed R O E g d gO dO gE dE) c 𝓜 𝓡 (Goes-gave_ref 𝓛 6 0 tt (plain (λ _. f.R-row R O E)), (Goes-gave_ref 𝓛 6 1 tt (plain (λ _. S)), (Goes-spent_slice 𝓛 6 (2 ∷ []) tt (plain (λ _. u8)), tt)))
    (#self (args R O E g d gO dO gE dE)) (inst_fn (args R O E g d gO dO gE dE) code.function) (code.unfolded 𝓤 𝓛.H 𝓜 𝓡 wired (R, (O, (E, tt))) d dO dE)
    (λ κs. (mut_vals, (mut_vals, (mut_slice_vals, tt)))) (λ κs. (mut_Tells (named 0) κs.0 (f.R-row R O E), (mut_Tells (named 1) κs.1.0 S, (mut_slice_Tells (named 2) κs.1.1.0 u8, tt)))) (λ κs qs bounds a _ are.
    let κ = κs.1.1.0 in let q = qs.1.1.0 in let i = a.0 in let s = a.1.0 in let x = a.1.1.0 in let xs = x.now in
    let κR = κs.1.1.1.0 in let κO = κs.1.1.1.1.0 in let κE = κs.1.1.1.1.1.0 in
    let Input : Fml = (MutRef (named 0) κs.0 (f.R-row R O E)).own_val i (mut_vals i) in
    let Out : Fml = (MutRef (named 1) κs.1.0 S).own_val s (mut_vals s) in
    let Room : Fml = (MutSlice (named 2) κ u8).own_val x (mut_slice_vals x) in
    let count = are.1.1.0.0.1.0 in
    let Fact : Type 0 → Item 𝓤 = λ φ. raw (fact 𝓤 φ) in
    qed 𝓛 (((‵ (flft κs.0 qs.0) ⊛ ‵ (flft κs.1.0 qs.1.0) ⊛ ‵ (flft κ q) ⊛ ‵ (flft κR qs.1.1.1.0) ⊛ ‵ (flft κO qs.1.1.1.1.0) ⊛ ‵ (flft κE qs.1.1.1.1.1.0) ⊛ ‵ ftrue) ⊛ ‵ Input ⊛ ‵ Out ⊛ ‵ Room ⊛ ‵ ftrue)
    ∷ (Fact (κR ⊑ R.lives) ⊛ Fact (κO ⊑ O.lives) ⊛ Fact (κE ⊑ E.lives) ⊛ ‵ ftrue) ∷ []) ∵
    split ! $ move ! (2 ∷ []) $ split ! $ heard ! _ (λ fR. split ! $ heard ! _ (λ fO. split ! $ heard ! _ (λ fE. drop ! $
    split3 ! $ move ! (2 ∷ []) $ split3 ! $ move ! (2 ∷ []) $ split3 ! $ move ! (7 ∷ []) $ split3 ! $ move ! (2 ∷ []) $ split ! $ keep ! (0 ∷ 2 ∷ 3 ∷ 4 ∷ 5 ∷ 7 ∷ 8 ∷ 9 ∷ 10 ∷ []) $
    -- [the room; the input; the streams; the tokens of O, of E, of the room, of R, of the input and of the streams]
    enter ! _ _ _ _ _ $ alloc_all ! (λ l. pass_all ! refl ((tt, tt), ((tt, tt), ((tt, (tt, (record { fits = count }, tt))), tt))) $
    sets ! (addr ! (through ! refl (stop !))) refl (tt, tt) $
    sets ! (addr ! (from ! (fld ! refl (hop ! (look_in_at ! 3 (sub ! 0 refl (whole !))) (stop !))))) refl (tt, tt) $
    sets ! (agg ! (and_then ! (get ! refl) (and_then ! (get_in ! (fld ! refl (stop !)) (sub ! 1 refl (whole !))) (no_more !)))) refl (tt, (tt, (record { fits = count }, tt))) $
    let G = triple_of 𝓛 (open_at.signature R) (open_at.spec R g d 𝓛 𝓜.mem 𝓡.returns) in
    let z : G.Ghost = (((κs.0, (κ, (κR, tt))), (qs.0, (q, (qs.1.1.1.0, tt))), (bounds.0, tt), (i, (x, tt)), (mut_vals i, (mut_slice_vals x, tt))), tt) in
    nothing ! $ move ! (1 ∷ 0 ∷ []) $ join ! $ move ! (1 ∷ 0 ∷ []) $ join ! $
    nothing ! $ move ! (6 ∷ 0 ∷ []) $ join ! $ move ! (5 ∷ 0 ∷ []) $ join ! $ move ! (5 ∷ 0 ∷ []) $ join ! $ join ! $
    nothing ! $ use0 𝓛 (raw (fact 𝓤 (κR ⊑ R.lives))) (fact_i 𝓤 _ (emp 𝓤) fR) $ join ! $ move ! (1 ∷ 0 ∷ []) $ use2 𝓛 (raw (G.pre z)) (id⊢ 𝓤 _) $
    calls_at ! (framed 𝓤 𝓛.H 𝓜 (tables 𝓤 𝓛.H 𝓜 𝓡 𝓡.env)) G (open_met.met 𝓤 𝓛 𝓜 𝓡 (code.calls-console::input::read_open 𝓡.env wired) R L g d met) z
    (and_then ! (get ! refl) (and_then ! (get ! refl) (no_more !))) (λ v.
    let Handed = type_at T.signature.result κs in
    use1 𝓛 (later (some (λ (h : Result (Bor (List ℕ)) Unreadable). ((‵ (flft κs.0 qs.0) ⊛ ‵ (flft κ q) ⊛ ‵ (flft κR qs.1.1.1.0) ⊛ ‵ ftrue) ⊛ ‵ (Handed.own_val h (v ∷ []))) ⊛
    some (λ (ws : R.Denot × (Unit {0} × Unit {0})). ‵ (lasts (open_at.ended R g d) z.0.0 z.0.3 ws) ⊛ ‵ (LeavesPart x h) ⊛ Fact (IfOk h (λ part. length part.now ≤ length xs)) ⊛ Fact (IfOk h (λ part. PartFrom (g.remaining i.now) (g.remaining ws.0) (length xs) part.now)))))) (id⊢ 𝓤 _) $
    await ! tt $ pick ! (λ h. split ! $ split ! $ split3 ! $ move ! (4 ∷ []) $ pick ! (λ ws. split3 ! $ move ! (2 ∷ []) $ split ! $ heard ! _ (λ into. heard ! _ (λ bytes. fsplit ! $ move ! (1 ∷ []) $ drop ! $
    -- [what is left of the input; how the room ends; the tokens of the input, of the room and of R; the answer; the streams; the tokens of O, of E and of the streams]
    move ! (5 ∷ []) $ peeks ! Handed (Is Handed) (shows 𝓛 Handed) h (v ∷ []) (λ is. let good = (((handed_laws κ).lawful 𝓛).typed h (v ∷ []) is).0 in lands_as ! refl refl good $
    sets ! (addr ! (through ! refl (stop !))) refl (tt, tt) $ sets ! (of_opd ! (get ! refl)) refl good $
    let G₂ = triple_of 𝓛 (tell.signature O E) (tell.spec O E gO dO gE dE 𝓛 𝓜.mem 𝓡.returns) in
    let z₂ : G₂.Ghost = (((κs.1.0, (κ, (κO, (κE, tt)))), (qs.1.0, (q, (qs.1.1.1.1.0, (qs.1.1.1.1.1.0, tt)))), (bounds.1.0, (bounds.1.1.0, tt)), (s, (h, tt)), (mut_vals s, (v ∷ [], tt))), tt) in
    nothing ! $ move ! (1 ∷ 0 ∷ []) $ join ! $ move ! (6 ∷ 0 ∷ []) $ join ! $
    nothing ! $ move ! (8 ∷ 0 ∷ []) $ join ! $ move ! (7 ∷ 0 ∷ []) $ join ! $ move ! (5 ∷ 0 ∷ []) $ join ! $ move ! (6 ∷ 0 ∷ []) $ join ! $ join ! $
    nothing ! $ use0 𝓛 (raw (fact 𝓤 (κE ⊑ E.lives))) (fact_i 𝓤 _ (emp 𝓤) fE) $ join ! $ use0 𝓛 (raw (fact 𝓤 (κO ⊑ O.lives))) (fact_i 𝓤 _ (emp 𝓤) fO) $ join ! $
    move ! (1 ∷ 0 ∷ []) $ use2 𝓛 (raw (G₂.pre z₂)) (id⊢ 𝓤 _) $
    calls_at ! (framed 𝓤 𝓛.H 𝓜 (tables 𝓤 𝓛.H 𝓜 𝓡 𝓡.env)) G₂ (tell_met.met 𝓤 𝓛 𝓜 𝓡 (code.calls-console::input::tell_unreadable 𝓡.env wired) O E LO LE gO dO gE dE metO metE) z₂
    (and_then ! (get ! refl) (and_then ! (get ! refl) (no_more !))) (λ u.
    use1 𝓛 (later (some (λ (k : Result (Bor (List ℕ)) Unreadable). ((‵ (flft κs.1.0 qs.1.0) ⊛ ‵ (flft κ q) ⊛ ‵ (flft κO qs.1.1.1.1.0) ⊛ ‵ (flft κE qs.1.1.1.1.1.0) ⊛ ‵ ftrue) ⊛ ‵ (Handed.own_val k (u ∷ []))) ⊛
    some (λ (es : Streams.Streams O.Denot E.Denot × (Unit {0} × Unit {0})). ‵ (lasts (tell.ended O E gO dO gE dE) z₂.0.0 z₂.0.3 es) ⊛ Fact (k ≡ h) ⊛ Fact (es.0.output ≡ s.now.output))))) (id⊢ 𝓤 _) $
    await ! tt $ pick ! (λ k. split ! $ split ! $ move ! (2 ∷ []) $ pick ! (λ es. split3 ! $ move ! (1 ∷ []) $ heard ! _ (λ same. move ! (1 ∷ []) $ heard ! _ (λ output. fsplit ! $ move ! (1 ∷ []) $ drop ! $
    -- [what is left of the streams; the tokens of that call; the result; what is left of the input; how the room ends; the tokens of the input and of R]
    move ! (2 ∷ []) $ peeks ! Handed (Is Handed) (shows 𝓛 Handed) k (u ∷ []) (λ is₂. lands_as ! refl refl (((handed_laws κ).lawful 𝓛).typed k (u ∷ []) is₂).0 $
    returns ! (look_at ! 0 refl) $ free_all ! refl $
    suffices ! _ (ends_at 𝓛 T (stayed R O E g d gO dO gE dE) c ((κs, qs, bounds, a, (mut_vals i, (mut_vals s, (mut_slice_vals x, tt)))), tt) u k (ws.0, (es.0, (tt, tt))) (tt, (tt, (tt, tt)))) $
    move ! (4 ∷ []) $ rewrite ! 0 (λ (r : Result (Bor (List ℕ)) Unreadable). ‵ (LeavesPart x r)) (sym same) refl $
    use0 𝓛 (raw (fact 𝓤 (es.0.output ≡ s.now.output))) (fact_i 𝓤 _ (emp 𝓤) output) $
    use0 𝓛 (raw (fact 𝓤 (IfOk k (λ part. PartFrom (g.remaining i.now) (g.remaining ws.0) (length xs) part.now)))) (fact_i 𝓤 _ (emp 𝓤) (subst (λ (r : Result (Bor (List ℕ)) Unreadable). IfOk r (λ part. PartFrom (g.remaining i.now) (g.remaining ws.0) (length xs) part.now)) (sym same) bytes)) $ join ! $
    use0 𝓛 (raw (fact 𝓤 (IfOk k (λ part. length part.now ≤ length xs)))) (fact_i 𝓤 _ (emp 𝓤) (subst (λ (r : Result (Bor (List ℕ)) Unreadable). IfOk r (λ part. length part.now ≤ length xs)) (sym same) into)) $ join ! $ move ! (1 ∷ 0 ∷ []) $ join ! $
    -- [the `ensures`; the result; what is left of the streams; the tokens of that call; what is left of the input; the tokens of the input and of R]
    nothing ! $ nothing ! $ fjoin ! $ move ! (3 ∷ 0 ∷ []) $ fjoin ! $ move ! (4 ∷ 0 ∷ []) $ fjoin ! $ move ! (0 ∷ 2 ∷ []) $ join ! $
    move ! (2 ∷ []) $ split3 ! $ move ! (6 ∷ []) $ split ! $ move ! (1 ∷ []) $ drop ! $ move ! (0 ∷ 3 ∷ []) $ join ! $ move ! (2 ∷ 0 ∷ []) $ join ! $ move ! (1 ∷ 0 ∷ []) $ join ! $ move ! (3 ∷ 0 ∷ []) $ join ! $ join ! $ done !)))))))))))))))))
