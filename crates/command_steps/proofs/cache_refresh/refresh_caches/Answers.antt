use Rattle.std.proofs.Common.{◌∙◌, sym}
use Rattle.command_steps.proofs.cache_refresh.refresh_caches.Goals as goal

pub returns : goal.returns
returns g c =
    let name = sym (c.into_shelf.ensures.same_reference ∙ c.refresh_store-refreshed.ensures.same_reference ∙ c.attach-store.ensures.same_reference) in
    let tie = sym (c.shelf-1.given.1 name ∙ c.hand_back.ensures ∙ c.into_shelf.ensures.same) in
    record {
      step = λ filter_tags rows sums. rw tie at (rw c.attach-store.ensures.same at (rw c.attach-store.ensures.kinds at (c.refresh_store-refreshed.ensures.step filter_tags rows sums)));
      fits = rw tie at (rw c.attach-store.ensures.kinds at c.refresh_store-refreshed.ensures.fits);
      calls = rw tie at (rw c.attach-store.ensures.same at (rw c.attach-store.ensures.kinds at c.refresh_store-refreshed.ensures.calls));
    }
