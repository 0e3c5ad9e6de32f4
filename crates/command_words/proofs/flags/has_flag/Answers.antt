use Rattle.std.proofs.Common.{◌∙◌, sym}
use Rattle.command_words.specs.Code.{item_meant}
use Rattle.command_words.specs.Items.{is_flag}
use Rattle.command_words.proofs.ItemLemmas.{any_map}
use Rattle.command_words.proofs.flags.has_flag.Goals as goal

pub returns : goal.returns
returns c = c.any_is.ensures ∙ sym (any_map (is_flag c.args.flag.now) item_meant c.args.items.now)
