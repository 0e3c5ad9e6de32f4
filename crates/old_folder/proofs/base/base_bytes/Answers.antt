use Rattle.old_folder.proofs.BaseFileLemmas.{all_hold, all_tell}
use Rattle.old_folder.proofs.base.base_bytes.Goals as goal

pub returns-clause-holds : goal.returns-clause-holds
returns-clause-holds c = all_hold c.args.count c.args.ids.now c.requires.few c.requires.ordered c.written.result c.written.ensures.bytes c.written.ensures.texts

pub returns-clause-is : goal.returns-clause-is
returns-clause-is c = all_tell c.args.count c.args.ids.now c.requires.few c.requires.ordered c.written.result c.written.ensures.bytes c.written.ensures.texts
