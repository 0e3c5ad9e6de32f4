use Rattle.std.proofs.Common.{◌∙◌, sym}
use Rattle.command_steps.proofs.ledger_queries.find_times.Goals as goal

pub returns : goal.returns
returns g c =
    let name = sym (c.into_shelf.ensures.same_reference ∙ c.times_of-times.ensures.same_reference ∙ c.attach-store.ensures.same_reference) in
    let tie = sym (c.shelf-1.given.1 name ∙ c.hand_back.ensures ∙ c.into_shelf.ensures.same) in
    record {
      step = record {
        times = rw c.attach-store.ensures.same at c.times_of-times.ensures.times;
        same = rw tie at (rw c.attach-store.ensures.same at c.times_of-times.ensures.same);
        count = rw tie at (rw c.attach-store.ensures.same at c.times_of-times.ensures.count);
      };
      calls = rw tie at (rw c.attach-store.ensures.same at (rw (c.attach-store.ensures.kinds ∙ c.in-Ok.ensures) at c.times_of-times.ensures.calls));
    }
