use Rattle.std.proofs.Common.{refl}
use Rattle.testr_conf.specs.ListedIds.{is_hash}
use Rattle.testr_conf.proofs.SearchLemmas.{IsFirstByte-place}
use Rattle.testr_conf.proofs.ids.find_hash.Goals as goal

pub returns : goal.returns
returns c = IsFirstByte-place is_hash is_hash (λ b. refl) c.args.line.now c.memchr.result c.memchr.ensures
