use Rattle.std.proofs.Common.{ap, length, ◌∙◌, arith}
use Rattle.testr_conf.specs.White.{end_trimmed}
use Rattle.testr_conf.proofs.TrimLemmas.{trimmed_short}
use Rattle.testr_conf.proofs.white_space.trim.Goals as goal

pub returns-clause-short : goal.returns-clause-short
returns-clause-short c = omega (arith, trimmed_short c.args.bytes.now, ap length (c.trim_end.ensures ∙ ap end_trimmed c.trim_front.ensures))
