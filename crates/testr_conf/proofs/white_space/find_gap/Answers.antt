use Rattle.testr_conf.specs.White.{is_gap}
use Rattle.testr_conf.proofs.SearchLemmas.{IsFirstByte-place}
use Rattle.testr_conf.proofs.WordLemmas.{gap_test}
use Rattle.testr_conf.proofs.white_space.find_gap.Goals as goal

pub returns : goal.returns
returns c = IsFirstByte-place _ is_gap gap_test c.args.text.now c.find_byteset.result c.find_byteset.ensures
