use Rattle.std.proofs.Common.{◌≡◌, take}
use Rattle.command_words.specs.Items.{texts}
use Rattle.filter_cli.specs.Retagging as retagging
use Rattle.filter_cli.proofs.tag_changes.added_by.Given as goal

abbrev pub invariant-loop-word : goal.invariant-loop-word
invariant-loop-word l = l.tags ≡ retagging.added_by (texts (take l.word-index l.words))
