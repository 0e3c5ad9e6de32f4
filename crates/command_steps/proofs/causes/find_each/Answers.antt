use Rattle.std.proofs.Common.{◌≡◌, ◌∙◌, get_or, refl, rules}
use Rattle.command_steps.proofs.FindingLemmas.{lists_none, leads_first, leads_on, leads_stop, leads_all}
use Rattle.command_steps.proofs.causes.find_each.Goals as goal

pub loop-suspect-init : goal.loop-suspect-init
loop-suspect-init g c = record {
  same_reference = refl;
  unbroken = c.requires.unbroken;
  kinds = refl;
  fits = c.requires.fits;
  lists = lists_none c.args.number c.new-lists.result.items (g.H.Shelf.seen c.args.store.now.shelf.now).told c.new-lists.ensures.items;
  step = λ site input. leads_first _ _ _ _;
}

pub returns-in_err-find_cause-clause-step : goal.returns-in_err-find_cause-clause-step
returns-in_err-find_cause-clause-step g c = λ site input.
    let one : c.suspect-item.result ≡ get_or c.args.suspects.now c.loop-suspect.suspect-index c.suspect-item.result = search rules in
    leads_stop _ _ _ _ _ _ _ _ _ _ c.loop-suspect-test.true (c.loop-suspect.invariant.step site input) c.from_residual.ensures.1 (rw one at (c.in_err-find_cause.ensures.step site input))

pub loop-suspect-preserved : goal.loop-suspect-preserved
loop-suspect-preserved g c =
    let one : c.suspect-item.result ≡ get_or c.args.suspects.now c.loop-suspect.suspect-index c.suspect-item.result = search rules in
    let done = c.in_ok-find_cause.ensures in
    record {
      same_reference = done.same_reference ∙ c.loop-suspect.invariant.same_reference;
      unbroken = done.unbroken;
      kinds = done.kinds ∙ c.loop-suspect.invariant.kinds;
      fits = done.fits;
      lists = done.lists;
      step = λ site input. leads_on _ _ _ _ _ _ _ _ c.loop-suspect-test.true (c.loop-suspect.invariant.step site input) (rw one at (done.step site input));
    }

pub returns-clause-step : goal.returns-clause-step
returns-clause-step g c = λ site input. leads_all _ _ _ _ _ _ c.loop-suspect-test.false (c.loop-suspect.invariant.step site input)
