use Rattle.run_ledger.proofs.SoundLemmas.{sound_without, sound_beside, sound_format, sound_failing, sound_times}
use Rattle.run_ledger.proofs.cache_laws.what_keeps_files_sound.Goals as goal

pub returns-clause-none : goal.returns-clause-none
returns-clause-none c files failing times = sound_without files failing times

pub returns-clause-run : goal.returns-clause-run
returns-clause-run c files image number run beside repository sound = sound_beside files image number run beside repository sound

pub returns-clause-format : goal.returns-clause-format
returns-clause-format c files image beside sound = sound_format files image beside sound

pub returns-clause-failing : goal.returns-clause-failing
returns-clause-failing c files bytes said sound = sound_failing files bytes said sound

pub returns-clause-times : goal.returns-clause-times
returns-clause-times c files bytes said sound = sound_times files bytes said sound
