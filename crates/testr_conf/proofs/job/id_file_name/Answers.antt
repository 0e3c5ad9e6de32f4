use Rattle.std.proofs.Common.{Err, ap, ◌∙◌, rules}
use Rattle.testr_conf.proofs.TrimLemmas.{file_name_text}
use Rattle.testr_conf.proofs.job.id_file_name.Goals as goal

-- a name of ASCII is a text
pub unreachable-requires : goal.unreachable-requires
unreachable-requires c =
    c.new-2.ensures.not_text (c.in-Err-NotText.is ∙ ap Err c.in-Err-NotText.field-0-is)
    (file_name_text c.deref.result.now c.args.lane c.requires (first_of (search rules, cc)))
