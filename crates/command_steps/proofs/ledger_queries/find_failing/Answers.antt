use Rattle.std.proofs.Common.{◌∙◌, sym}
use Rattle.command_steps.proofs.ledger_queries.find_failing.Goals as goal

pub returns : goal.returns
returns g c =
    let name = sym (c.into_shelf.ensures.same_reference ∙ c.failing_of-ids.ensures.same_reference ∙ c.attach-store.ensures.same_reference) in
    let tie = sym (c.shelf-1.given.1 name ∙ c.hand_back.ensures ∙ c.into_shelf.ensures.same) in
    record {
      step = record {
        ids = rw c.attach-store.ensures.same at c.failing_of-ids.ensures.ids;
        same = rw tie at (rw c.attach-store.ensures.same at c.failing_of-ids.ensures.same);
        count = rw tie at (rw c.attach-store.ensures.same at c.failing_of-ids.ensures.count);
      };
      calls = rw tie at (rw c.attach-store.ensures.same at (rw (c.attach-store.ensures.kinds ∙ c.in-Ok.ensures) at c.failing_of-ids.ensures.calls));
    }
