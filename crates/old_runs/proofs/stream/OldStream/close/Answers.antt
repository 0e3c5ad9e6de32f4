use Rattle.std.proofs.Common.{refl}
use Rattle.old_runs.proofs.StreamLemmas.{stream_end}
use Rattle.old_runs.proofs.stream.OldStream.close.Goals as goal

pub returns : goal.returns
returns c bytes given h = stream_end c.args.self _ c.take_notes.new.self bytes _ _ given h c.finish.ensures refl c.in_ok-take_notes.ensures.taken c.in_ok-take_notes.ensures.spent
