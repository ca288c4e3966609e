-- `read_named` fills the room, and shares it for good: the room ends as it then is. A walk by hand, as `read_open`'s is.
use Rattle.std.proofs.Common.{◌≡◌, ℕ, ◌≤◌, List, [], ◌∷◌, length, refl, sym, w8, MutBor, Bor}
use Rattle.std.proofs.raw_atomic.Walks.{proved}
use Rattle.std.specs.Prelude.{Result, IfOk}
use Rattle.console.specs.Input.{CameInto, IsFront, LeavesPart}
use Rattle.console.specs.declared.input.Unreadable.{Unreadable}
use base.Fraction.{full_share}
use base.Logic.{SProp, emp, id⊢}
use base.Fml.{GName, ftrue, flft}
use mir.Syntax.{Args, named, a_type, dcons, dnil, erased}
use mir.MapTy.{inst_fn}
use mir.Val.{Val}
use contract.Monad.{fact, fact_i}
use contract.Running.{tables}
use types.Kit.{‵, raw, ◌⊛◌, some, later, given, ◌$◌, ◌∵◌, !, qed, done, move, keep, drop, use0, use1, use2, use3, split, split3, join, fsplit, fjoin, feq_i, feq_l, pick, learn, await, suffices}
use types.Tokens.{lft_new, lft_end}
use types.Part.{whole, sub, agg}
use types.Run.{enter, addr, from, fld, hop, stop, no_more, and_then, returns}
use types.ByLocal.{alloc_all, pass_all, free_all, look_at, look_in_at, get, get_in, sets, lands_as}
use denote.Builtin.{u8, usize}
use denote.Exit.{yes, no}
use denote.Param.{bounded}
use denote.Signature.{plain, mut_slice_of, type_at}
use denote.Slice.{MutSlice, ShrSlice, slice_val, mut_slice_vals, mut_slice_Tells, finally}
use denote.Steps.{nothing, heard, peeks}
use denote.Triple.Call.{calls_at}
use denote.Triple.Clauses.{lasts}
use denote.Triple.Spec.{triple_of}
use denote.Triple.Table.{framed}
use denote.Triple.Walked.{Stays, stay_dropped, Goes-spent_slice, ends_at}
use borrow.Table.Owned as own
use borrow.Table.Referent.{laws_f, f_int}
use borrow.Table.Copies.{Shares-copy, c_rf}
use borrow.Rule.Slice.Lend.{kept_f, sl_relend, sl_relent_backˡ}
use borrow.Rule.Slice.Handed.{sl_Share}
use denote.Laws.{Is, shows}
use Rattle.console.proofs.Handing.{Front, fits, shown, onward, rests, came_laws, handed_laws}
use Rattle.std.specs.contracts.result.Result.{the_row as result_row}
use Rattle.console.specs.contracts.input.Unreadable.{the_row as unreadable_row}
use types.Kit.{Item}
use denote.Builtin.{RefOf, SliceRefOf}
use denote.Ref.{ShrRef, shr_vals, shr_Tells}
use denote.Slice.{shr_slice_vals, shr_slice_Tells}
use denote.Triple.Walked.{Goes-dropped}
use Rattle.console.specs.contracts.input.read_named as f
use Rattle.console.specs.contracts.input.read_named.Key.{name as #self}
use Rattle.console.proofs.input.read_named.Statement.{statement}
use Rattle.console.proofs.input.read_named.Code as code
use Rattle.console.specs.contracts.input.fill_named as fill
use Rattle.console.proofs.input.fill_named.Met as fill_met
use Rattle.console.specs.contracts.input.front as front
use Rattle.console.proofs.input.front.Met as front_met

pub read_named_spec : {M : Type 1} → statement M
read_named_spec 𝓤 𝓛 𝓜 𝓡 wired F File Dir LF L₁ L₂ g₀ d₀ g₁ d₁ g₂ d₂ g₃ d₃ g₄ d₄ g₅ d₅ d₆ d₇ m₀ m₁ m₂ m₃ m₄ m₅ m₆ m₇ =
    let T = f.ended F File Dir g₀ d₀ g₁ d₁ g₂ d₂ g₃ d₃ g₄ d₄ g₅ d₅ d₆ d₇ in let c = f.clauses F File Dir g₀ d₀ g₁ d₁ g₂ d₂ g₃ d₃ g₄ d₄ g₅ d₅ d₆ d₇ 𝓛 𝓜.mem 𝓡.returns in
    let Own = f.F-row F File Dir in
    let args : Args = bounded (a_type ∷ a_type ∷ a_type ∷ []) (F, (File, (Dir, tt))) (dcons d₀ (dcons d₁ (dcons d₂ (dcons d₃ (dcons d₄ (dcons d₅ (dcons d₆ (dcons d₇ dnil)))))))) in
    let stayed : Stays T.signature.params T.kept = (stay_dropped (RefOf (0 ∷ []) tt (plain (λ _. Own)) (λ _. tt)) yes, (stay_dropped (SliceRefOf (1 ∷ []) tt (plain (λ _. u8)) (λ _. tt)) yes, (stay_dropped (mut_slice_of (2 ∷ []) tt (plain (λ _. u8))) no, tt))) in
    proved 𝓛 T stayed c 𝓜 𝓡 (Goes-dropped 𝓛 6 (RefOf (0 ∷ []) tt (plain (λ _. Own)) (λ _. tt)) yes (λ κs y w. refl), (Goes-dropped 𝓛 6 (SliceRefOf (1 ∷ []) tt (plain (λ _. u8)) (λ _. tt)) yes (λ κs y w. refl), (Goes-spent_slice 𝓛 6 (2 ∷ []) tt (plain (λ _. u8)), tt)))
    (#self args) (inst_fn args code.function) (code.unfolded 𝓤 𝓛.H 𝓜 𝓡 wired (F, (File, (Dir, tt))) d₀ d₁ d₂ d₃ d₄ d₅ d₆ d₇)
    (λ κs. (shr_vals, (shr_slice_vals, (mut_slice_vals, tt)))) (λ κs. (shr_Tells (named 0) κs.0 Own, (shr_slice_Tells (named 1) κs.1.0 u8, (mut_slice_Tells (named 2) κs.1.1.0 u8, tt)))) (λ κs qs bounds a _ are.
    let κ = κs.1.1.0 in let q = qs.1.1.0 in let p = a.0 in let n = a.1.0 in let x = a.1.1.0 in let b = x.ref_ptr.0 in let o = x.ref_ptr.1 in let xs = x.now in
    let vs : List Val × (List Val × (List Val × Unit {0})) = (shr_vals p, (shr_slice_vals n, (mut_slice_vals x, tt))) in
    let Others : Item 𝓤 = ‵ (flft κs.1.1.1.0 qs.1.1.1.0) ⊛ ‵ (flft κs.1.1.1.1.0 qs.1.1.1.1.0) ⊛ ‵ (flft κs.1.1.1.1.1.0 qs.1.1.1.1.1.0) ⊛ ‵ ftrue in
    let Req : SProp 𝓤 = (c κs a).requires tt in
    let Room = λ (k : List ℕ) (γ : GName) (ys : List ℕ). (MutSlice (named 2) k u8).own_val (record { ref_ptr = (b, o); ghost_name = γ; now = ys }) (slice_val (b, o) (length ys) ∷ []) in
    let Lent = λ (k : List ℕ) (γ : GName) (ys : List ℕ). (own.MutSlice erased k u8).own_val (record { ref_ptr = (b, o); ghost_name = γ; now = ys }) in
    let count = are.1.1.0.0.1.0 in
    qed 𝓛 (((‵ (flft κs.0 qs.0) ⊛ ‵ (flft κs.1.0 qs.1.0) ⊛ ‵ (flft κ q) ⊛ Others) ⊛ ‵ ((ShrRef (named 0) κs.0 Own).own_val p (shr_vals p)) ⊛ ‵ ((ShrSlice (named 1) κs.1.0 u8).own_val n (shr_slice_vals n)) ⊛ ‵ (Room κ x.ghost_name xs) ⊛ ‵ ftrue) ∷ raw Req ∷ []) ∵
    split ! $ move ! (1 ∷ []) $ split3 ! $ move ! (2 ∷ []) $ split ! $ move ! (4 ∷ []) $ split3 ! $ move ! (2 ∷ []) $ split ! $ keep ! (0 ∷ 1 ∷ 2 ∷ 3 ∷ 4 ∷ 6 ∷ 7 ∷ 8 ∷ []) $
    enter ! _ _ _ _ _ $ alloc_all ! (λ l. pass_all ! refl ((tt, tt), ((tt, (tt, (record { fits = are.1.0.0.1.0 }, tt))), ((tt, (tt, (record { fits = count }, tt))), tt))) $
    sets ! (addr ! (from ! (fld ! refl (hop ! (look_in_at ! 3 (sub ! 0 refl (whole !))) (stop !))))) refl (tt, tt) $
    sets ! (agg ! (and_then ! (get ! refl) (and_then ! (get_in ! (fld ! refl (stop !)) (sub ! 1 refl (whole !))) (no_more !)))) refl (tt, (tt, (record { fits = count }, tt))) $
    lft_new ! tt (λ α. move ! (5 ∷ 1 ∷ []) $
    -- [the room; its token; the token of α; the other tokens; the other arguments; what is asked]
    fsplit ! $ fsplit ! $ feq_l ! (λ _. fjoin ! $
    use2 𝓛 (later (some (λ (δ : GName). ‵ (Lent (α ∷ []) δ xs) ⊛ kept_f 𝓛 u8 κ q (α ∷ []) x.ghost_name δ xs b o))) (sl_relend 𝓛 u8 κ q (α ∷ []) b o x.ghost_name xs) $ await ! tt $ pick ! (λ δ. split ! $
    let lent : MutBor (List ℕ) = record x { ghost_name = δ } in
    fsplit ! $ feq_i ! (List Val) (mut_slice_vals lent) (mut_slice_vals lent) refl $ fjoin ! $ fjoin ! $
    let G = triple_of 𝓛 (fill.signature F File Dir) (fill.spec F File Dir g₀ d₀ g₁ d₁ g₂ d₂ g₃ d₃ g₄ d₄ g₅ d₅ d₆ d₇ 𝓛 𝓜.mem 𝓡.returns) in
    let z : G.Ghost = (((κs.0, (κs.1.0, (α ∷ [], κs.1.1.1))), (qs.0, (qs.1.0, (full_share, qs.1.1.1))), bounds, (p, (n, (lent, tt))), (shr_vals p, (shr_slice_vals n, (mut_slice_vals lent, tt)))), tt) in
    -- [the loan; what is kept of the room; the token of α; the other tokens; the other arguments; what is asked]
    nothing ! $ move ! (1 ∷ 0 ∷ []) $ join ! $ move ! (7 ∷ 0 ∷ []) $ join ! $ move ! (6 ∷ 0 ∷ []) $ join ! $
    move ! (2 ∷ 3 ∷ []) $ join ! $ move ! (4 ∷ 0 ∷ []) $ join ! $ move ! (3 ∷ 0 ∷ []) $ join ! $ join ! $ move ! (0 ∷ 2 ∷ []) $
    use2 𝓛 (raw (G.pre z)) (id⊢ 𝓤 _) $
    calls_at ! (framed 𝓤 𝓛.H 𝓜 (tables 𝓤 𝓛.H 𝓜 𝓡 𝓡.env)) G (fill_met.met 𝓤 𝓛 𝓜 𝓡 (code.calls-console::input::fill_named 𝓡.env wired) F File Dir LF L₁ L₂ g₀ d₀ g₁ d₁ g₂ d₂ g₃ d₃ g₄ d₄ g₅ d₅ d₆ d₇ m₀ m₁ m₂ m₃ m₄ m₅ m₆ m₇) z
    (and_then ! (get ! refl) (and_then ! (get ! refl) (and_then ! (get ! refl) (no_more !)))) (λ v.
    let Came = result_row usize unreadable_row in
    use1 𝓛 (later (some (λ (r : Result ℕ Unreadable). ((‵ (flft κs.0 qs.0) ⊛ ‵ (flft κs.1.0 qs.1.0) ⊛ ‵ (flft (α ∷ []) full_share) ⊛ Others) ⊛ ‵ (Came.own_val r (v ∷ []))) ⊛
    some (λ (ws : Unit {0} × (Unit {0} × (List ℕ × Unit {0}))). ‵ (lasts (fill.ended F File Dir g₀ d₀ g₁ d₁ g₂ d₂ g₃ d₃ g₄ d₄ g₅ d₅ d₆ d₇) z.0.0 z.0.3 ws) ⊛ raw (fact 𝓤 (CameInto r ws.1.1.0)))))) (id⊢ 𝓤 _) $
    await ! tt $ pick ! (λ r. split ! $ split ! $ split3 ! $ move ! (2 ∷ []) $ split ! $ lft_end ! tt $ move ! (5 ∷ []) $ pick ! (λ ws. split ! $ move ! (1 ∷ []) $ heard ! _ (λ into.
    fsplit ! $ drop ! $ fsplit ! $ drop ! $ fsplit ! $ fsplit ! $ fsplit ! $ move ! (1 ∷ 2 ∷ 3 ∷ []) $ drop ! $ drop ! $ drop ! $ move ! (1 ∷ 6 ∷ 0 ∷ []) $
    let ys = ws.1.1.0 in
    use3 𝓛 (later (given (length ys ≡ length xs) (‵ (Lent κ x.ghost_name ys) ⊛ ‵ (flft κ q)))) (sl_relent_backˡ 𝓛 u8 κ q (α ∷ []) b o x.ghost_name δ xs ys) $ await ! tt $ learn ! (λ same. split ! $
    let shared : Bor (List ℕ) = record { ref_ptr = (b, o); now = ys } in
    use2 𝓛 (later (‵ ((own.ShrSlice erased κ u8).own_val shared) ⊛ ‵ (finally u8 x.ghost_name ys) ⊛ ‵ (flft κ q))) (sl_Share 𝓛 u8 b o x.ghost_name ys (laws_f (f_int w8)) κ q (Shares-copy 𝓛 (c_rf (f_int w8)) κ)) $ await ! tt $ split3 ! $
    -- [the shared room; how the room ends; its token; the other tokens; the answer]
    move ! (6 ∷ []) $ peeks ! Came (Is Came) (shows 𝓛 Came) r (v ∷ []) (λ is. lands_as ! refl refl ((came_laws.lawful 𝓛).typed r (v ∷ []) is).0 $
    sets ! (addr ! (from ! (fld ! refl (hop ! (look_in_at ! 3 (sub ! 0 refl (whole !))) (stop !))))) refl (tt, tt) $
    sets ! (agg ! (and_then ! (get ! refl) (and_then ! (get_in ! (fld ! refl (stop !)) (sub ! 1 refl (whole !))) (no_more !)))) refl (tt, (tt, (record { fits = count }, tt))) $
    let G₂ = triple_of 𝓛 front.signature (front.spec 𝓛 𝓜.mem 𝓡.returns) in
    let z₂ : G₂.Ghost = (((κ, tt), (q, tt), tt, (shared, (r, tt)), (slice_val (b, o) (length xs) ∷ [], (v ∷ [], tt))), tt) in
    nothing ! $ move ! (1 ∷ 0 ∷ []) $ join ! $ move ! (1 ∷ []) $
    fsplit ! $ feq_i ! (List Val) (slice_val (b, o) (length xs) ∷ []) (slice_val (b, o) (length ys) ∷ []) (λ k. slice_val (b, o) (sym same k) ∷ []) $ fjoin ! $ fjoin ! $ join ! $
    nothing ! $ move ! (3 ∷ 0 ∷ []) $ join ! $ join ! $
    use0 𝓛 (raw (fact 𝓤 (IfOk r (λ size. size ≤ length ys)))) (fact_i 𝓤 _ (emp 𝓤) (fits r ys into)) $ move ! (1 ∷ 0 ∷ []) $ use2 𝓛 (raw (G₂.pre z₂)) (id⊢ 𝓤 _) $
    calls_at ! (framed 𝓤 𝓛.H 𝓜 (tables 𝓤 𝓛.H 𝓜 𝓡 𝓡.env)) G₂ (front_met.met 𝓤 𝓛 𝓜 𝓡 (code.calls-console::input::front 𝓡.env wired)) z₂
    (and_then ! (get ! refl) (and_then ! (get ! refl) (no_more !))) (λ u.
    let Handed = type_at T.signature.result κs in
    use1 𝓛 (later (some (λ (h : Result (Bor (List ℕ)) Unreadable). ((‵ (flft κ q) ⊛ ‵ ftrue) ⊛ ‵ (Handed.own_val h (u ∷ []))) ⊛
    some (λ (es : Unit {0} × (Unit {0} × Unit {0})). ‵ (lasts front.ended z₂.0.0 z₂.0.3 es) ⊛ raw (fact 𝓤 (Front r h ys)))))) (id⊢ 𝓤 _) $
    await ! tt $ pick ! (λ h. split ! $ split ! $ move ! (2 ∷ []) $ pick ! (λ es. split ! $ drop ! $ heard ! _ (λ is_front.
    -- [the room's token; the result; how the room ends; the other tokens]
    move ! (1 ∷ []) $ peeks ! Handed (Is Handed) (shows 𝓛 Handed) h (u ∷ []) (λ is₂. lands_as ! refl refl (((handed_laws κ).lawful 𝓛).typed h (u ∷ []) is₂).0 $
    returns ! (look_at ! 0 refl) $ free_all ! refl $
    let told = shown xs ys same r h into is_front in
    suffices ! _ (ends_at 𝓛 T stayed c ((κs, qs, bounds, a, vs), tt) u h (tt, (tt, (tt, tt))) (tt, (tt, (tt, tt)))) $
    move ! (2 ∷ []) $ use1 𝓛 (‵ (LeavesPart x h)) (rests 𝓛 x.ghost_name ys (IsFront h xs) (same, onward (λ p t. t.1) h told)) $
    use0 𝓛 (raw (fact 𝓤 (IfOk h (λ part. length part.now ≤ length xs)))) (fact_i 𝓤 _ (emp 𝓤) (onward (λ p t. t.0) h told)) $ move ! (1 ∷ 0 ∷ []) $ join ! $
    -- [the `ensures`; the result; the room's token; the other tokens]
    nothing ! $ nothing ! $ fjoin ! $ nothing ! $ fjoin ! $ nothing ! $ fjoin ! $ move ! (0 ∷ 2 ∷ []) $ join ! $
    move ! (2 ∷ []) $ split ! $ move ! (1 ∷ []) $ drop ! $ move ! (0 ∷ 3 ∷ []) $ join ! $ move ! (4 ∷ 0 ∷ []) $ join ! $ move ! (3 ∷ 0 ∷ []) $ join ! $ join ! $ done !))))))))))))))))
