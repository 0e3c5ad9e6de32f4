use Rattle.std.proofs.Common.{◌≡◌, ◌∷◌, ◌∙◌, [], ap, sym, subst, refl, rules}
use Rattle.std.specs.List.{AllByRecursion}
use Rattle.worker_mux.specs.Works.{IsReady, Drives}
use Rattle.worker_mux.specs.declared.lane_threads.Driven.{Driven}
use Rattle.worker_mux.specs.declared.work.Work.{Work}
use Rattle.worker_mux.proofs.Going.{settles_more, settles_none}
use Rattle.worker_mux.proofs.Adding.{goes_then}
use Rattle.worker_mux.proofs.lane_threads.+run_level.Goals as goal

pub returns-in_default-clause-settled : goal.returns-in_default-clause-settled
returns-in_default-clause-settled g t c =
    let none : c.args.works.now.items ≡ [] = search rules in
    settles_none g.C.Child.seen _ _ _ _ none c.take_all_ends.ensures.settled

pub drive_out-pass-requires : goal.drive_out-pass-requires
drive_out-pass-requires g t c =
    let all : AllByRecursion (IsReady c.args.shared.now.belt) (c.in-Some.work ∷ c.pop_front.new.self.items) = subst (AllByRecursion (IsReady c.args.shared.now.belt)) c.in-Some.ensures.items c.requires.works in
    let was : c.in-Ok.handle.promise.0.value ≡ c.in-Some.work = ap (λ (p : Driven g.row.C.Denot). p.0.value) c.in-Ok.ensures.ok ∙ c.of.ensures in
    record {
      ready = (c.run_level.ensures.ready, c.join-outcome.ensures.ready c.args.shared.now.belt (subst (IsReady c.args.shared.now.belt) (sym was) all.0));
      is_open = c.run_level.ensures.goes.keeps.is_open c.requires.is_open;
    }

pub returns-in-Ok-clause-goes : goal.returns-in-Ok-clause-goes
returns-in-Ok-clause-goes g t c =
    goes_then _ _ _ _ _ _ (goes_then _ _ _ _ _ _ c.run_level.ensures.goes c.drive_out-pass.ensures.goes) (c.settle.ensures.goes _)

pub returns-in-Ok-clause-settled : goal.returns-in-Ok-clause-settled
returns-in-Ok-clause-settled g t c =
    let was : c.in-Ok.handle.promise.0.value ≡ c.in-Some.work = ap (λ (p : Driven g.row.C.Denot). p.0.value) c.in-Ok.ensures.ok ∙ c.of.ensures in
    let drives : Drives g.C.Child.seen c.in-Some.work c.join-outcome.result = subst (λ (w : Work g.row.C.Denot). Drives g.C.Child.seen w c.join-outcome.result) was c.join-outcome.ensures.drives in
    settles_more g.C.Child.seen c.in-Some.work _ _ c.drive_out-pass.result _ _ _ _ _ _ _
    c.in-Some.ensures.items refl c.run_level.ensures.settled c.drive_out-pass.ensures.settled c.settle.ensures.settled
    (λ so. c.drive_out-pass.ensures.goes.going (sym c.settle.ensures.stopped ∙ so))
    c.drive_out-pass.ensures.ready.1.own
    (c.drive_out-pass.ensures.number c.in-Some.work drives)
    (λ so. c.drive_out-pass.ensures.put c.in-Some.work drives (sym c.settle.ensures.stopped ∙ so))

pub returns-in-Err-clause-goes : goal.returns-in-Err-clause-goes
returns-in-Err-clause-goes g t c =
    goes_then _ _ _ _ _ _ (goes_then _ _ _ _ _ _ c.drive_out-pass-in-Err.ensures.goes c.run_level-in-Err.ensures.goes) (c.settle-in-Err.ensures.goes _)

pub returns-in-Err-clause-settled : goal.returns-in-Err-clause-settled
returns-in-Err-clause-settled g t c =
    let was : c.in-Err.refused.value.3 ≡ c.in-Some.work = ap (λ f. f.3) c.in-Err.ensures.err in
    let drives : Drives g.C.Child.seen c.in-Some.work c.spawn_with-outcome.result = subst (λ (w : Work g.row.C.Denot). Drives g.C.Child.seen w c.spawn_with-outcome.result) was c.spawn_with-outcome.ensures.drives in
    settles_more g.C.Child.seen c.in-Some.work _ _ c.drive_out-pass-in-Err.result _ _ _ _ _ _ _
    c.in-Some.ensures.items c.drive_out-pass-in-Err.ensures.settled c.run_level-in-Err.ensures.settled refl c.settle-in-Err.ensures.settled
    (λ so. sym c.settle-in-Err.ensures.stopped ∙ so)
    c.drive_out-pass-in-Err.ensures.ready.1.own
    (c.drive_out-pass-in-Err.ensures.number c.in-Some.work drives)
    (λ so. c.drive_out-pass-in-Err.ensures.put c.in-Some.work drives (c.run_level-in-Err.ensures.goes.going (sym c.settle-in-Err.ensures.stopped ∙ so)))
