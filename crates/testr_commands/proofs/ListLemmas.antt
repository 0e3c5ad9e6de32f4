-- What `list-tests` prints of a listing.
use Rattle.std.proofs.Common.{◌≡◌, ℕ, Option, List, Ok, ap₂, ◌∙◌}
use Rattle.std.specs.FinMap as fin
use Rattle.testr_conf.specs.Jobs.{id_lines}
use Rattle.testr_conf.specs.Settings.{Settings}
use Rattle.suite_plan.specs.Choosing.{Ids, with_further, chosen_of}
use Rattle.suite_plan.specs.Patterns.{Compiles}
use Rattle.suite_plan.specs.Sharing.{ids_of_shard}
use Rattle.suite_plan.specs.declared.patterns.Compiled.{Compiled}
use Rattle.command_steps.specs.declared.test_selection.Further.{Further}
use Rattle.suite_plan.specs.declared.picks.Picks.{Picks}
use Rattle.testr_words.specs.Suites.{Wanted}
use Rattle.command_steps.specs.Selecting.{shard_times}
use Rattle.testr_commands.specs.RunSuite.{groups_for, WritesIds}

pub writes_as : (wanted : Wanted) (settings : Settings) (further : Further) (ids : Ids) (compiled : Compiled) (text : List ℕ) → Compiles wanted.patterns wanted.excluded (groups_for wanted.shard settings) (Ok compiled) → text ≡ id_lines (ids_of_shard (fin.get (shard_times further.times)) compiled.groups wanted.shard (chosen_of (with_further compiled.picks further.picks) ids)) → WritesIds wanted settings further ids (Ok text)
writes_as wanted settings further ids compiled text made is =
    record { lines = is ∙ ap₂ (λ (g : Option (List ℕ)) (p : Picks). id_lines (ids_of_shard (fin.get (shard_times further.times)) g wanted.shard (chosen_of (with_further p further.picks) ids))) made.groups made.picks }
