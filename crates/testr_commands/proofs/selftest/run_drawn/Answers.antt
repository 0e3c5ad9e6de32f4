use Rattle.std.proofs.Common.{Ok, length}
use Rattle.run_shelf.specs.Holds.{kinds_of}
use Rattle.testr_commands.proofs.SelfTestRows.{ran_in_turn}
use Rattle.testr_commands.proofs.selftest.run_drawn.Goals as goal

pub returns-in-Ok : goal.returns-in-Ok
returns-in-Ok g c = ran_in_turn (length (kinds_of c.in_ok-found.found)) _ c.args.jobs.now _ _ _ _ (Ok c.in-Ok.kept.summary) c.new-filter_tags.ensures c.requires.few c.in-Ok.ensures.step
