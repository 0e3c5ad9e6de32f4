use Rattle.std.proofs.Common.{◌≡◌, ◌∙◌, sym, ap, [], ◌++◌, List, map}
use Rattle.std.specs.FinMap as fin
use Rattle.std.proofs.lemmas.Map.Iter.{rest_all}
use Rattle.std.proofs.lemmas.List.{append-nil}
use Rattle.packet_codec.specs.declared.event.Event.{Event}
use Rattle.outcome_fold.specs.declared.test_key.TestKey.{TestKey}
use Rattle.outcome_fold.specs.Order.{test_cmp}
use Rattle.event_sift.specs.Keeping.{keeps}
use Rattle.event_sift.proofs.SiftLemmas.{kept_entry, parts_end}
use Rattle.event_sift.proofs.sift.Sift.release_parts.Goals as goal

pub returns : goal.returns
returns g c seen has =
    let kept = keeps c.args.self.now.rules.now in
    let none : c.loop-key.key-iterator ≡ [] = rest_all (λ x. x) _ _ _ c.in-None.is c.next.ensures.steps in
    let all : c.loop-key.parts.items ≡ map (kept_entry kept) c.into_iter-key-iterator.result = sym (append-nil c.loop-key.parts.items) ∙ ap (λ rest. c.loop-key.parts.items ++ map (kept_entry kept) rest) (sym none) ∙ c.loop-key.invariant.gives in
    let gives = c.into_iter-key-iterator.ensures.into_iter_gives in
    all ∙ ap (map (kept_entry kept)) gives.0 ∙ parts_end kept seen _ gives.5 (ap (λ (es : List (TestKey × List Event)). fin.from_entries {R = test_cmp} es) c.into_parts-key-items.ensures ∙ has)
