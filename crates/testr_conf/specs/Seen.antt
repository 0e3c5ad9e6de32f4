-- The lines as the code has them.
use Rattle.std.specs.Prelude.{map}
use Rattle.std.specs.Char.{to_ascii_lowercase}
use Rattle.testr_conf.specs.Lines as spec
use Rattle.testr_conf.specs.declared.line.Line.{Line}
use Rattle.testr_conf.specs.declared.line.Line.TheVariants.{Bad, Skipped, More, Section, Setting}

-- the key is compared as if its letters were small
abbrev pub conf_line_meant : Line → spec.ConfLine
conf_line_meant Bad = spec.bad
conf_line_meant Skipped = spec.skipped
conf_line_meant (More depth text line) = spec.more depth text.now line.now
conf_line_meant (Section name) = spec.section name.now
conf_line_meant (Setting key value) = spec.setting (map to_ascii_lowercase key.now) value.now
