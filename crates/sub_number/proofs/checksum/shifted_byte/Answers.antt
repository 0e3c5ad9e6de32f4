use Rattle.sub_number.proofs.ChecksumLemmas.{shifted_in_table}
use Rattle.sub_number.proofs.checksum.shifted_byte.Goals as goal

pub returns : goal.returns
returns c = shifted_in_table _ _ c.requires.few c.requires.small
