use Rattle.filter_cli.proofs.FileLemmas.{reads_on, absent_of}
use Rattle.filter_cli.proofs.file_loop.read_on.Goals as goal

pub returns-in-Read-clause-read : goal.returns-in-Read-clause-read
returns-in-Read-clause-read g c = reads_on c.args.name.now _ _ c.args.place c.in-Read.count c.read_at.new.buf c.in-Ok.found c.in-Ok.ensures.same c.in-Read.is c.in-Ok.ensures.found

pub returns-in-Absent-clause-refused : goal.returns-in-Absent-clause-refused
returns-in-Absent-clause-refused g c = (absent_of c.args.name.now _ c.args.place c.read_at.new.buf c.in-Ok.found c.in-Absent.is c.in-Ok.ensures.found, c.in-Ok.ensures.cause.done)
