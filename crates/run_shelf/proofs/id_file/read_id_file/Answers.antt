use Rattle.run_shelf.proofs.IdFileLemmas.{no_entries}
use Rattle.run_shelf.proofs.id_file.read_id_file.Goals as goal

pub returns-in_default-2-clause-none : goal.returns-in_default-2-clause-none
returns-in_default-2-clause-none c name titled number ids file =
    no_entries c.args.title.now c.args.bytes.now name titled c.in-Some.number c.in-Some.rest.now c.in-Some.ensures.some (rw c.in_default-2.is at c.in_ok-ids.ensures.none) number ids file
