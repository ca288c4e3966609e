-- `read_open` fills the room, and shares it for good: the room ends as it then is. A walk by hand, since the borrow checker proves no such clause of a slice that is handed out as `&`.
use Rattle.std.proofs.Common.{◌≡◌, ℕ, ◌≤◌, List, [], ◌∷◌, length, refl, sym, w8, MutBor, Bor}
use Rattle.std.proofs.raw_atomic.Walks.{proved}
use Rattle.std.specs.Prelude.{Result, IfOk}
use Rattle.std.specs.declared.io.traits.Read as Read
use Rattle.console.specs.Input.{CameInto, CameFrom, PartFrom, IsFront, LeavesPart}
use Rattle.console.specs.declared.input.Unreadable.{Unreadable}
use base.Fraction.{full_share}
use base.Logic.{SProp, sep, emp, id⊢}
use base.Fml.{Fml, GName, ftrue, flft}
use mir.Syntax.{Dict, Args, named, a_type, dcons, dnil, erased}
use mir.MapTy.{inst_fn}
use mir.Val.{Val}
use contract.BorrowLft.{◌⊑◌}
use contract.Monad.{fact, fact_i}
use contract.Running.{tables}
use types.Kit.{‵, raw, ◌⊛◌, some, later, given, ◌$◌, ◌∵◌, !, qed, done, move, keep, drop, use0, use1, use2, use3, split, split3, join, fsplit, fjoin, feq_i, feq_l, pick, learn, await, suffices}
use types.Tokens.{lft_new, lft_end}
use types.Part.{whole, sub, agg}
use types.Run.{enter, addr, from, fld, hop, stop, no_more, and_then, returns}
use types.ByLocal.{alloc_all, pass_all, free_all, look_at, look_in_at, get, get_in, through, sets, lands_as}
use denote.Builtin.{u8, usize}
use denote.Exit.{no}
use denote.Param.{bounded}
use denote.RattleType.{RattleType}
use denote.Ref.{MutRef, mut_vals, mut_Tells}
use denote.Signature.{plain, mut_slice_of, type_at}
use denote.Slice.{MutSlice, slice_val, mut_slice_vals, mut_slice_Tells, finally}
use denote.Steps.{nothing, heard, peeks}
use denote.Triple.Call.{calls_at}
use denote.Triple.Clauses.{lasts}
use denote.Triple.Spec.{triple_of}
use denote.Triple.Table.{framed}
use denote.Triple.Walked.{Stays, gave_ref, stay_dropped, Goes-gave_ref, Goes-spent_slice, ends_at}
use borrow.Table.Owned as own
use borrow.Table.Referent.{laws_f, f_int}
use borrow.Table.Copies.{Shares-copy, c_rf}
use borrow.Rule.Slice.Lend.{kept_f, sl_relend, sl_relent_backˡ}
use borrow.Rule.Slice.Handed.{sl_Share}
use denote.Laws.{Is, shows}
use Rattle.console.proofs.Handing.{Front, fits, outcome, onward, rests, came_laws, handed_laws}
use Rattle.std.specs.contracts.result.Result.{the_row as result_row}
use Rattle.console.specs.contracts.input.Unreadable.{the_row as unreadable_row}
use Rattle.console.specs.contracts.input.read_open as f
use Rattle.console.specs.contracts.input.read_open.Key.{name as #self}
use Rattle.console.proofs.input.read_open.Statement.{statement}
use Rattle.console.proofs.input.read_open.Code as code
use Rattle.console.specs.contracts.input.fill as fill
use Rattle.console.proofs.input.fill.Met as fill_met
use Rattle.console.specs.contracts.input.front as front
use Rattle.console.proofs.input.front.Met as front_met

module _ (R : RattleType) (g : Read.Ghosts R.Denot) (d : Dict) where
  abbrev stayed : Stays (f.ended R g d).signature.params (f.ended R g d).kept
  stayed = (gave_ref (0 ∷ []) tt (plain (λ _. f.R-row R)), (stay_dropped (mut_slice_of (1 ∷ []) tt (plain (λ _. u8))) no, tt))

  abbrev args : Args
  args = bounded (a_type ∷ []) (R, tt) (dcons d dnil)

pub read_open_spec : {M : Type 1} → statement M
read_open_spec 𝓤 𝓛 𝓜 𝓡 wired R L g d met =
    let T = f.ended R g d in let c = f.clauses R g d 𝓛 𝓜.mem 𝓡.returns in
    proved 𝓛 T (stayed R g d) c 𝓜 𝓡 (Goes-gave_ref 𝓛 3 0 tt (plain (λ _. f.R-row R)), (Goes-spent_slice 𝓛 3 (1 ∷ []) tt (plain (λ _. u8)), tt))
    (#self (args R g d)) (inst_fn (args R g d) code.function) (code.unfolded 𝓤 𝓛.H 𝓜 𝓡 wired (R, tt) d)
    (λ κs. (mut_vals, (mut_slice_vals, tt))) (λ κs. (mut_Tells (named 0) κs.0 (f.R-row R), (mut_slice_Tells (named 1) κs.1.0 u8, tt))) (λ κs qs bounds a _ are.
    let κ = κs.1.0 in let q = qs.1.0 in let i = a.0 in let x = a.1.0 in let b = x.ref_ptr.0 in let o = x.ref_ptr.1 in let xs = x.now in
    let Input : Fml = (MutRef (named 0) κs.0 (f.R-row R)).own_val i (mut_vals i) in
    let Room = λ (k : List ℕ) (γ : GName) (ys : List ℕ). (MutSlice (named 1) k u8).own_val (record { ref_ptr = (b, o); ghost_name = γ; now = ys }) (slice_val (b, o) (length ys) ∷ []) in
    let Lent = λ (k : List ℕ) (γ : GName) (ys : List ℕ). (own.MutSlice erased k u8).own_val (record { ref_ptr = (b, o); ghost_name = γ; now = ys }) in
    let Req : SProp 𝓤 = sep 𝓤 (fact 𝓤 (κs.1.1.0 ⊑ R.lives)) (emp 𝓤) in
    let count = are.1.0.0.1.0 in
    qed 𝓛 (((‵ (flft κs.0 qs.0) ⊛ ‵ (flft κ q) ⊛ ‵ (flft κs.1.1.0 qs.1.1.0) ⊛ ‵ ftrue) ⊛ ‵ Input ⊛ ‵ (Room κ x.ghost_name xs) ⊛ ‵ ftrue) ∷ raw Req ∷ []) ∵
    split ! $ move ! (1 ∷ []) $ split3 ! $ move ! (3 ∷ []) $ split ! $ move ! (1 ∷ []) $ split3 ! $
    -- [the token of the room; that of R; nothing; that of the input; the input; the room; nothing; what is asked]
    keep ! (0 ∷ 1 ∷ 3 ∷ 4 ∷ 5 ∷ 7 ∷ []) $
    enter ! _ _ _ _ _ $ alloc_all ! (λ l. pass_all ! refl ((tt, tt), ((tt, (tt, (record { fits = count }, tt))), tt)) $
    sets ! (addr ! (through ! refl (stop !))) refl (tt, tt) $
    sets ! (addr ! (from ! (fld ! refl (hop ! (look_in_at ! 2 (sub ! 0 refl (whole !))) (stop !))))) refl (tt, tt) $
    sets ! (agg ! (and_then ! (get ! refl) (and_then ! (get_in ! (fld ! refl (stop !)) (sub ! 1 refl (whole !))) (no_more !)))) refl (tt, (tt, (record { fits = count }, tt))) $
    lft_new ! tt (λ α. move ! (5 ∷ 1 ∷ []) $
    -- [the room; its token; the token of α; that of R; that of the input; the input; what is asked]
    fsplit ! $ fsplit ! $ feq_l ! (λ _. fjoin ! $
    use2 𝓛 (later (some (λ (δ : GName). ‵ (Lent (α ∷ []) δ xs) ⊛ kept_f 𝓛 u8 κ q (α ∷ []) x.ghost_name δ xs b o))) (sl_relend 𝓛 u8 κ q (α ∷ []) b o x.ghost_name xs) $ await ! tt $ pick ! (λ δ. split ! $
    let G = triple_of 𝓛 (fill.signature R) (fill.spec R g d 𝓛 𝓜.mem 𝓡.returns) in
    let lent : MutBor (List ℕ) = record x { ghost_name = δ } in
    let z : G.Ghost = (((κs.0, (α ∷ [], (κs.1.1.0, tt))), (qs.0, (full_share, (qs.1.1.0, tt))), bounds, (i, (lent, tt)), (mut_vals i, (mut_slice_vals lent, tt))), tt) in
    fsplit ! $ feq_i ! (List Val) (mut_slice_vals lent) (mut_slice_vals lent) refl $ fjoin ! $ fjoin ! $
    -- [the loan; what is kept of the room; the token of α; that of R; that of the input; the input; what is asked]
    nothing ! $ move ! (1 ∷ 0 ∷ []) $ join ! $ move ! (5 ∷ 0 ∷ []) $ join ! $
    nothing ! $ move ! (4 ∷ 0 ∷ []) $ join ! $ move ! (3 ∷ 0 ∷ []) $ join ! $ move ! (3 ∷ 0 ∷ []) $ join ! $ join ! $ move ! (0 ∷ 2 ∷ []) $
    use2 𝓛 (raw (G.pre z)) (id⊢ 𝓤 _) $
    calls_at ! (framed 𝓤 𝓛.H 𝓜 (tables 𝓤 𝓛.H 𝓜 𝓡 𝓡.env)) G (fill_met.met 𝓤 𝓛 𝓜 𝓡 (code.calls-console::input::fill 𝓡.env wired) R L g d met) z
    (and_then ! (get ! refl) (and_then ! (get ! refl) (no_more !))) (λ v.
    let Came = result_row usize unreadable_row in
    use1 𝓛 (later (some (λ (r : Result ℕ Unreadable). ((‵ (flft κs.0 qs.0) ⊛ ‵ (flft (α ∷ []) full_share) ⊛ ‵ (flft κs.1.1.0 qs.1.1.0) ⊛ ‵ ftrue) ⊛ ‵ (Came.own_val r (v ∷ []))) ⊛
    some (λ (ws : R.Denot × (List ℕ × Unit {0})). ‵ (lasts (fill.ended R g d) z.0.0 z.0.3 ws) ⊛ raw (fact 𝓤 (CameInto r ws.1.0)) ⊛ raw (fact 𝓤 (CameFrom (g.remaining i.now) (g.remaining ws.0) r ws.1.0)))))) (id⊢ 𝓤 _) $
    await ! tt $ pick ! (λ r. split ! $ split ! $ split3 ! $ move ! (1 ∷ []) $ lft_end ! tt $ move ! (4 ∷ []) $ pick ! (λ ws. split3 ! $
    move ! (1 ∷ []) $ heard ! _ (λ into. move ! (1 ∷ []) $ heard ! _ (λ bytes.
    -- [what is left of the two; α is over; the token of the input; that of R; the answer; what is kept]
    fsplit ! $ move ! (1 ∷ []) $ fsplit ! $ fsplit ! $ fsplit ! $ move ! (1 ∷ 2 ∷ 3 ∷ []) $ drop ! $ drop ! $ drop ! $ move ! (2 ∷ 6 ∷ 0 ∷ []) $
    let ys = ws.1.0 in
    use3 𝓛 (later (given (length ys ≡ length xs) (‵ (Lent κ x.ghost_name ys) ⊛ ‵ (flft κ q)))) (sl_relent_backˡ 𝓛 u8 κ q (α ∷ []) b o x.ghost_name δ xs ys) $ await ! tt $ learn ! (λ same. split ! $
    let shared : Bor (List ℕ) = record { ref_ptr = (b, o); now = ys } in
    use2 𝓛 (later (‵ ((own.ShrSlice erased κ u8).own_val shared) ⊛ ‵ (finally u8 x.ghost_name ys) ⊛ ‵ (flft κ q))) (sl_Share 𝓛 u8 b o x.ghost_name ys (laws_f (f_int w8)) κ q (Shares-copy 𝓛 (c_rf (f_int w8)) κ)) $ await ! tt $ split3 ! $
    -- [the shared room; how the room ends; its token; what is left of the input; its token; that of R; the answer]
    move ! (6 ∷ []) $ peeks ! Came (Is Came) (shows 𝓛 Came) r (v ∷ []) (λ is. lands_as ! refl refl ((came_laws.lawful 𝓛).typed r (v ∷ []) is).0 $
    sets ! (addr ! (from ! (fld ! refl (hop ! (look_in_at ! 2 (sub ! 0 refl (whole !))) (stop !))))) refl (tt, tt) $
    sets ! (agg ! (and_then ! (get ! refl) (and_then ! (get_in ! (fld ! refl (stop !)) (sub ! 1 refl (whole !))) (no_more !)))) refl (tt, (tt, (record { fits = count }, tt))) $
    let G₂ = triple_of 𝓛 front.signature (front.spec 𝓛 𝓜.mem 𝓡.returns) in
    let z₂ : G₂.Ghost = (((κ, tt), (q, tt), tt, (shared, (r, tt)), (slice_val (b, o) (length xs) ∷ [], (v ∷ [], tt))), tt) in
    nothing ! $ move ! (1 ∷ 0 ∷ []) $ join ! $ move ! (1 ∷ []) $
    fsplit ! $ feq_i ! (List Val) (slice_val (b, o) (length xs) ∷ []) (slice_val (b, o) (length ys) ∷ []) (λ k. slice_val (b, o) (sym same k) ∷ []) $ fjoin ! $ fjoin ! $ join ! $
    nothing ! $ move ! (3 ∷ 0 ∷ []) $ join ! $ join ! $
    use0 𝓛 (raw (fact 𝓤 (IfOk r (λ size. size ≤ length ys)))) (fact_i 𝓤 _ (emp 𝓤) (fits r ys into)) $ move ! (1 ∷ 0 ∷ []) $ use2 𝓛 (raw (G₂.pre z₂)) (id⊢ 𝓤 _) $
    calls_at ! (framed 𝓤 𝓛.H 𝓜 (tables 𝓤 𝓛.H 𝓜 𝓡 𝓡.env)) G₂ (front_met.met 𝓤 𝓛 𝓜 𝓡 (code.calls-console::input::front 𝓡.env wired)) z₂
    (and_then ! (get ! refl) (and_then ! (get ! refl) (no_more !))) (λ u.
    let Handed = type_at T.signature.result κs in
    use1 𝓛 (later (some (λ (h : Result (Bor (List ℕ)) Unreadable). ((‵ (flft κ q) ⊛ ‵ ftrue) ⊛ ‵ (Handed.own_val h (u ∷ []))) ⊛
    some (λ (es : Unit {0} × (Unit {0} × Unit {0})). ‵ (lasts front.ended z₂.0.0 z₂.0.3 es) ⊛ raw (fact 𝓤 (Front r h ys)))))) (id⊢ 𝓤 _) $
    await ! tt $ pick ! (λ h. split ! $ split ! $ move ! (2 ∷ []) $ pick ! (λ es. split ! $ drop ! $ heard ! _ (λ is_front.
    -- [the room's token; the result; how the room ends; what is left of the input; its token; that of R]
    move ! (1 ∷ []) $ peeks ! Handed (Is Handed) (shows 𝓛 Handed) h (u ∷ []) (λ is₂. lands_as ! refl refl (((handed_laws κ).lawful 𝓛).typed h (u ∷ []) is₂).0 $
    returns ! (look_at ! 0 refl) $ free_all ! refl $
    let told = outcome (g.remaining i.now) (g.remaining ws.0) xs ys same r h into bytes is_front in
    suffices ! _ (ends_at 𝓛 T (stayed R g d) c ((κs, qs, bounds, a, (mut_vals i, (mut_slice_vals x, tt))), tt) u h (ws.0, (tt, tt)) (tt, (tt, tt))) $
    move ! (2 ∷ []) $ use1 𝓛 (‵ (LeavesPart x h)) (rests 𝓛 x.ghost_name ys (IsFront h xs) (same, onward (λ p t. t.2) h told)) $
    use0 𝓛 (raw (fact 𝓤 (IfOk h (λ part. PartFrom (g.remaining i.now) (g.remaining ws.0) (length xs) part.now)))) (fact_i 𝓤 _ (emp 𝓤) (onward (λ p t. t.1) h told)) $
    use0 𝓛 (raw (fact 𝓤 (IfOk h (λ part. length part.now ≤ length xs)))) (fact_i 𝓤 _ (emp 𝓤) (onward (λ p t. t.0) h told)) $ join ! $ move ! (1 ∷ 0 ∷ []) $ join ! $
    -- [the `ensures`; the result; the room's token; what is left of the input; its token; that of R]
    move ! (3 ∷ []) $ nothing ! $ nothing ! $ fjoin ! $ move ! (1 ∷ 0 ∷ []) $ fjoin ! $ move ! (0 ∷ 2 ∷ []) $ join ! $
    move ! (2 ∷ []) $ split ! $ move ! (1 ∷ []) $ drop ! $ move ! (0 ∷ 4 ∷ []) $ join ! $ move ! (3 ∷ 0 ∷ []) $ join ! $ join ! $ done !)))))))))))))))))
