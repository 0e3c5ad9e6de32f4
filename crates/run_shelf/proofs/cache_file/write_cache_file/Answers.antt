use Rattle.run_shelf.proofs.SideLemmas.{goes_keeps_side, goes_passes_side}
use Rattle.run_shelf.proofs.cache_file.write_cache_file.Goals as goal
use Rattle.std.proofs.lemmas.Result.{on_ok_weaker}

pub returns-clause-kept : goal.returns-clause-kept
returns-clause-kept g c =
    on_ok_weaker c.keep_file.result (goes_keeps_side c.args.side c.name.result.now c.args.bytes.now c.name.ensures _ _) c.keep_file.ensures.kept

pub returns-clause-any_moment : goal.returns-clause-any_moment
returns-clause-any_moment g c =
    goes_passes_side c.args.side c.name.result.now c.args.bytes.now c.name.ensures _ _ c.keep_file.ensures.any_moment
