use Rattle.command_steps.proofs.store.make_store.Goals as goal

pub returns : goal.returns
returns g c = record {
  reads = g.met.H.Shelf.published_counts c.args.shelf.now;
  made = c.make_repository.ensures.made;
  refused = c.make_repository.ensures.refused;
  any_moment = c.make_repository.ensures.any_moment;
  count = c.make_repository.ensures.cause;
}
