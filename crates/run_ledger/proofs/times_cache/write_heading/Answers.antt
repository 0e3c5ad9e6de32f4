use Rattle.std.proofs.Common.{List, ℕ, [], ◌∷◌, ◌++◌, ap, ◌∙◌}
use Rattle.run_ledger.proofs.EntryLemmas.{heading_behind}
use Rattle.run_ledger.proofs.times_cache.write_heading.Goals as goal

pub returns : goal.returns
returns c =
    c.in_ok-push.ensures.items
    ∙ ap (λ (l : List ℕ). l ++ 10 ∷ [])
    (c.in_ok-extend_from_slice-2.ensures.items ∙ (λ i. c.in_ok-extend_from_slice.ensures.items i ++ (c.as_bytes.ensures.value ∙ c.format.ensures.text) i))
    ∙ heading_behind c.args.bytes.now.items c.args.covers
