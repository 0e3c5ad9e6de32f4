use Rattle.std.proofs.Common.{rules}
use Rattle.sub_export.proofs.JobLemmas.{piece_fits}
use Rattle.sub_export.proofs.output_job.OutputJob.piece.Goals as goal

pub returns-clause-fits : goal.returns-clause-fits
returns-clause-fits c =
    let fits = piece_fits c.self.inside.job c.in-Some.attachment c.args.bytes.now c.in-Some.is c.self.invariant c.requires.short in
    search (rules, fits)
