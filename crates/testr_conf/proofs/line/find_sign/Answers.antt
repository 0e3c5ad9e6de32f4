use Rattle.std.proofs.Common.{refl}
use Rattle.testr_conf.specs.Lines.{is_sign}
use Rattle.testr_conf.proofs.SearchLemmas.{IsFirstByte-place}
use Rattle.testr_conf.proofs.line.find_sign.Goals as goal

pub returns : goal.returns
returns c = IsFirstByte-place is_sign is_sign (λ b. refl) c.args.line.now c.memchr2.result c.memchr2.ensures
