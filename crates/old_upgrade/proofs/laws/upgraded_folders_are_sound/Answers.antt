use Rattle.old_upgrade.proofs.SoundLemmas.{stays_sound, becomes_sound}
use Rattle.old_upgrade.proofs.laws.upgraded_folders_are_sound.Goals as goal

pub returns-clause-before : goal.returns-clause-before
returns-clause-before c files image stays lacks = stays_sound files image stays lacks

pub returns-clause-behind : goal.returns-clause-behind
returns-clause-behind c files image becomes lacks = becomes_sound files image becomes lacks
