-- The body calls `open_or_hand_back`, and answers the first field of what that gives. The check has no proof of a clause on
-- a `&mut` that a result may hold where the lender's type is a type parameter.
use Rattle.run_shelf.proofs.Resting.{one_of, Rests, rests}
use Rattle.std.specs.Prelude.{Option, None, IfSome, IfOk, IfErr}
use Rattle.edge_io.specs.Disk.{Folder}
use Rattle.edge_io.specs.Steps.{Goes}
use Rattle.run_shelf.specs.declared.faults.OpenFault.{OpenFault}
use Rattle.run_shelf.specs.Images.{PassesOld}
use Rattle.run_shelf.specs.Outcomes.{Surveys}
use Rattle.run_shelf.specs.Stores.{store_kinds, store_fault, HasOpenCause}
use Rattle.run_shelf.specs.Openings.{IsNotOpened, HandsBack}
use Rattle.run_shelf.specs.contracts.store.Store as store
use Rattle.run_shelf.specs.contracts.faults.OpenFault as open_fault
use Rattle.run_shelf.specs.contracts.store.Opening as opening
use Rattle.run_shelf.proofs.store.Store.TheLaws as store_laws
use Rattle.run_shelf.proofs.faults.OpenFault.TheLaws as open_fault_laws
use Rattle.run_shelf.proofs.store.Opening.TheLaws as opening_laws
use Rattle.std.specs.contracts.result.Result as result
use Rattle.std.proofs.result.Result.TheLaws as result_laws
use Rattle.std.proofs.Common.{◌≡◌, ℕ, List, [], ◌∷◌, ◌++◌, refl, ap, ◌∙◌, subst}
use mir.Syntax.{a_type, dcons, dnil, named}
use lib.Dec.{T as T'}
use mir.Val.{Val, vstruct, vcons, of_list, has_ty, WT}
use mir.MapTy.{inst_fn}
use base.Logic.{SProp, sep, id⊢}
use base.Fml.{ftrue, flft}
use contract.Monad.{fact}
use contract.Running.{tables}
use types.Kit.{‵, raw, ◌⊛◌, some, later, ◌$◌, ◌∵◌, !, qed, by, move, keep, drop, use1, split, split3, join, fsplit, fjoin, fpick, feq_l, pick, await, rewrite}
use denote.Steps.{heard, peeks, nothing, only}
use denote.Laws.{Is, shows}
use denote.Ref.{NamedLft}
use denote.Triple.Clauses.{Lasts, lasts}
use denote.Exit.{no, yes}
use denote.RattleType.{RattleType}
use denote.Signature.{plain, named_lft}
use denote.Builtin.{RefMutOf}
use denote.Param.{param, layout, bounded}
use denote.Param.Laws.{param_laws}
use denote.Triple.Walked.{Stays, stay_dropped, walk_of, Goes-dropped, Goes-spent_ref}
use denote.Triple.Spec.{triple_of}
use denote.Triple.Call.{calls_at}
use denote.Triple.Table.{framed}
use denote.Ref.{mut_vals, mut_Tells}
use types.Run.{enter, addr, stop, fld, of_opd, no_more, and_then, returns}
use types.Part.{whole, sub}
use types.ByLocal.{alloc_all, pass_all, free_all, look_at, get, get_in, through, sets, lands_as, env}
use Rattle.std.specs.contracts.alloc.Global as heap
use Rattle.std.proofs.alloc.Global.TheLaws as heap_laws
use Rattle.std.proofs.raw_atomic.Walks.{proved, leaves}
use Rattle.run_shelf.specs.contracts.store.Store.open as f
use Rattle.run_shelf.specs.contracts.store.Store.open.Key.{name as #self}
use Rattle.run_shelf.proofs.store.Store.open.Statement.{statement}
use Rattle.run_shelf.proofs.store.Store.open.Code as code
use Rattle.run_shelf.specs.contracts.store.open_or_hand_back as g
use Rattle.run_shelf.proofs.store.open_or_hand_back.Met.{met}

pub open_spec : {M : Type 1} → statement M
open_spec 𝓤 𝓛 𝓜 𝓡 wired T L ghosts dict bound =
    let H = 𝓛.H in let 𝓣 = tables 𝓤 H 𝓜 𝓡 𝓡.env in let R : RattleType = param 0 T in
    let En = f.ended T ghosts dict in let c = f.clauses T ghosts dict 𝓛 𝓜.mem 𝓡.returns in
    let inst = bounded (a_type ∷ []) (T, tt) (dcons dict dnil) in let fn = inst_fn inst code.function in
    let hs : Stays En.signature.params En.kept = (stay_dropped (plain (λ _. heap.the_row)) yes, (stay_dropped (RefMutOf (0 ∷ []) tt (plain (λ _. R)) (λ _. tt)) no, tt)) in
    let heap_val : heap.the_row.Denot → List Val = λ x. heap_laws.the_told.val x ∷ [] in
    let k = triple_of 𝓛 (g.signature T) (g.spec T ghosts dict 𝓛 𝓜.mem 𝓡.returns) in
    proved 𝓛 En hs c 𝓜 𝓡 (Goes-dropped 𝓛 2 (plain (λ _. heap.the_row)) yes (λ κs x w. refl), (Goes-spent_ref 𝓛 2 (0 ∷ []) tt (plain (λ _. R)), tt)) (#self inst) fn (code.unfolded 𝓤 H 𝓜 𝓡 wired (T, tt) dict)
    (λ κs. (heap_val, (mut_vals, tt))) (λ κs. (heap_laws.the_told.tells, (mut_Tells (named 0) κs.0 R, tt))) (λ κs qs bounds a gh are.
    let shelf = a.1.0 in let y : (walk_of 𝓛 En hs c).Ghost = ((κs, qs, bounds, a, (heap_val a.0, (mut_vals shelf, tt))), gh) in
    let Post : Val → SProp 𝓤 = (walk_of 𝓛 En hs c).post y in let z : k.Ghost = ((κs, qs, bounds, a, (heap_val a.0, (mut_vals shelf, tt))), tt) in
    qed 𝓛 (raw (k.pre z) ∷ []) ∵
    enter ! 𝓣.C 𝓣.Λ fn _ Post $ alloc_all ! (λ l. pass_all ! refl (((heap_laws.the_row_laws.lawful 𝓛).typed a.0 (heap_val a.0) are.0).0, ((tt, tt), tt)) $
    let E = env fn.locals l in
    sets ! (addr ! (through ! refl (stop !))) refl (tt, tt) $
    calls_at ! (framed 𝓤 H 𝓜 𝓣) k (met 𝓤 𝓛 𝓜 𝓡 (code.calls-run_shelf::store::open_or_hand_back 𝓡.env wired) T L ghosts dict bound) z
    (and_then ! (get ! refl) (and_then ! (get ! refl) (no_more !))) (λ v.
    let α : NamedLft = named_lft 2 0 tt κs in let D : RattleType = store.the_row α R in let Op : RattleType = opening.the_row α R in let Res : RattleType = result.the_row D open_fault.the_row in
    let LR = param_laws 0 T L in let typed = (opening_laws.the_row_laws α R LR).lawful 𝓛 in let typed_result = (result_laws.the_row_laws D open_fault.the_row (store_laws.the_row_laws α R LR) open_fault_laws.the_row_laws).lawful 𝓛 in
    let toks = ‵ (flft κs.0 qs.0) ⊛ ‵ (flft κs.1.0 qs.1.0) ⊛ ‵ ftrue in
    let before : Option Folder = (ghosts.seen shelf.now).told in let faults : ℕ = (ghosts.seen shelf.now).faults in
    let Why : OpenFault → T.Denot → Type 0 = λ fault last. IsNotOpened fault before faults (ghosts.seen last).told (ghosts.seen last).faults in
    let Tied : Op.Denot → Type 0 = λ u. HandsBack shelf.ghost_name u Why in
    let Rest : Op.Denot → SProp 𝓤 = λ u. sep 𝓤 (fact 𝓤 (IfOk u.opened (λ store. store.shelf.ghost_name ≡ shelf.ghost_name)))
    (sep 𝓤 (fact 𝓤 (IfOk u.opened (λ store. Goes before (ghosts.seen store.shelf.now).told (Surveys (store_kinds store)))))
    (sep 𝓤 (fact 𝓤 (IfOk u.opened (λ store. Goes before (ghosts.seen store.shelf.now).told PassesOld)))
    (sep 𝓤 (fact 𝓤 (IfOk u.opened (λ store. store_fault store ≡ None)))
    (sep 𝓤 (fact 𝓤 (IfOk u.opened (λ store. (ghosts.seen store.shelf.now).faults ≡ faults)))
    (fact 𝓤 (IfErr u.opened (λ fault. IfSome before (HasOpenCause fault)))))))) in
    use1 𝓛 (later (some (λ (u : Op.Denot). (toks ⊛ ‵ (Op.own_val u (v ∷ []))) ⊛ some (λ (ws : Lasts (g.ended T ghosts dict) κs a). ‵ (lasts (g.ended T ghosts dict) κs a ws) ⊛ raw (fact 𝓤 (Tied u)) ⊛ raw (Rest u))))) (id⊢ 𝓤 (k.post z v)) $
    await ! tt $ pick ! (λ u. split ! $ move ! (1 ∷ []) $ pick ! (λ ws. split3 ! $ drop ! $ heard ! (Tied u) (λ tied. move ! (1 ∷ []) $ split ! $ move ! (1 ∷ []) $
    -- [the opening; the tokens; the other clauses; the locals]
    peeks ! Op (Is Op) (shows 𝓛 Op) u (v ∷ []) (λ is. fpick ! (λ vss. fsplit ! $ feq_l ! (λ e. fsplit ! $
    peeks ! Res (Is Res) (shows 𝓛 Res) u.opened vss.0 (λ is_result.
    let one = one_of (layout Res) vss.0 (typed_result.typed u.opened vss.0 is_result) in let x : Val = one.0 in
    let whole_is : v ≡ vstruct (vcons x (of_list (vss.1.0 ++ []))) = ap only e ∙ ap (λ (ws : List Val). vstruct (of_list (ws ++ (vss.1.0 ++ [])))) one.1 in
    rewrite ! 0 (λ (ws : List Val). ‵ (Res.own_val u.opened ws)) one.1 refl $
    lands_as ! whole_is refl (subst (λ (w : Val). T' (has_ty (layout Op) w) × WT w) whole_is (typed.typed u (v ∷ []) is).0) $
    sets ! (of_opd ! (get_in ! (fld ! refl (stop !)) (sub ! 0 refl (whole !)))) refl one.2 $
    returns ! (look_at ! 0 refl) $ free_all ! refl $
    -- [the result; what was handed back; the tokens; the other clauses]
    move ! (1 ∷ []) $ fsplit ! $ use1 𝓛 (‵ (Rests R (λ store. store.shelf.ghost_name) shelf Why u.opened)) (rests 𝓛 R (λ store. store.shelf.ghost_name) shelf (named 0) κs.0 Why u.opened u.back vss.1.0 tied) $
    move ! (0 ∷ 4 ∷ []) $ join ! $ move ! (2 ∷ 0 ∷ []) $ join ! $ nothing ! $ nothing ! $ fjoin ! $ nothing ! $ fjoin ! $ join ! $ move ! (2 ∷ 0 ∷ []) $ join ! $ keep ! (0 ∷ []) $
    by ! (leaves 𝓛 En hs c y x u.opened (tt, (tt, tt)) (tt, (tt, tt)))))))))))))
