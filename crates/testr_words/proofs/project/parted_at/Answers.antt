use Rattle.std.proofs.Common.{◌∙◌, ap}
use Rattle.std.proofs.lemmas.List.{take_rest}
use Rattle.command_words.specs.Items.{texts}
use Rattle.testr_words.proofs.ProjectLemmas.{texts_behind}
use Rattle.testr_words.proofs.project.parted_at.Goals as goal

pub returns-in-len1-up-clause-rest : goal.returns-in-len1-up-clause-rest
returns-in-len1-up-clause-rest c =
    ap texts (take_rest c.split_at.result.1.now 1) ∙ texts_behind c.args.given.now c.split_at.result.1.now c.args.place c.split_at.ensures.back
