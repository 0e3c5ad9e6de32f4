use Rattle.old_folder.proofs.OldLemmas.{stays}
use Rattle.old_folder.proofs.laws.old_folders_stay_open.Goals as goal

pub returns : goal.returns
returns c count files image was same = stays count files image was same
