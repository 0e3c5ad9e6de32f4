use Rattle.std.proofs.Common.{List, ℕ, ◌++◌, ap, ◌∙◌}
use Rattle.run_shelf.specs.IdFiles.{heading}
use Rattle.run_ledger.specs.Caches.{times_title}
use Rattle.run_ledger.proofs.EntryLemmas.{cache_is}
use Rattle.run_ledger.proofs.times_cache.write_entries_cache.Goals as goal

pub returns : goal.returns
returns c = record {
  form = cache_is c.from_vec.result c.write_heading.new.bytes.items c.into_vec-bytes.result.items c.args.covers c.args.times (c.from_vec.ensures ∙ c.in_ok-put_before.ensures)
      (c.in_ok-write_heading.ensures ∙ ap (λ (l : List ℕ). l ++ heading times_title c.args.covers) c.new-heading.ensures.items) c.into_vec-bytes.ensures c.ranges.covers.fits;
}
