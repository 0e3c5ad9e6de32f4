use Rattle.std.proofs.Common.{map, ap}
use Rattle.outcome_fold.specs.Answers.{times_of}
use Rattle.run_ledger.specs.Ledger.{replaced}
use Rattle.outcome_fold.specs.Summed.{shown_time}
use Rattle.run_ledger.proofs.EntryLemmas.{same_times}
use Rattle.run_ledger.proofs.MergeLemmas.{run_merged}
use Rattle.run_ledger.proofs.merged_times.replace_times.Goals as goal

pub from_vec-requires : goal.from_vec-requires
from_vec-requires c = (
  replaced c.args.latest.now (times_of c.args.rows.now),
  run_merged c.args.rows.now c.list.result.now c.args.latest.now (map shown_time c.in_ok-later.later.items) (map shown_time c.deref.result.now) c.bytes.result.now c.in_ok-bytes.bytes.items c.list.ensures c.in_ok-later.ensures.times
      c.in_ok-later.ensures.timed (ap (map shown_time) c.deref.ensures.value) c.bytes.ensures c.in_ok-bytes.ensures.bytes,
)

pub returns : goal.returns
returns c =
    same_times c.in_ok-bytes.bytes.items c.from_vec.result (replaced c.args.latest.now (times_of c.args.rows.now)) c.from_vec.ensures
    (run_merged c.args.rows.now c.list.result.now c.args.latest.now (map shown_time c.in_ok-later.later.items) (map shown_time c.deref.result.now) c.bytes.result.now c.in_ok-bytes.bytes.items c.list.ensures c.in_ok-later.ensures.times
    c.in_ok-later.ensures.timed (ap (map shown_time) c.deref.ensures.value) c.bytes.ensures c.in_ok-bytes.ensures.bytes)
