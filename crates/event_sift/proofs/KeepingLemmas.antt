-- Which tests are kept, whatever the order of their tags.
use Rattle.std.proofs.Common.{◌≡◌, ℕ, Bool, not, ◌&&◌, List, sym, ap, ◌∙◌}
use Rattle.std.specs.List.{list_all, list_any}
use Rattle.std.specs.Cmp.{eq_by_cmp_equiv}
use Rattle.std.specs.Cmp.Lexicographic.{texts_ties}
use Rattle.partition_times.specs.Patterns.{is_found}
use Rattle.outcome_fold.specs.declared.row.Ended.{Ended}
use Rattle.outcome_fold.specs.declared.part.EndedPart.{EndedPart}
use Rattle.outcome_fold.specs.EndedParts.{row_of_part}
use Rattle.outcome_fold.specs.Order.{among, in_byte_order}
use Rattle.outcome_fold.proofs.OrderLemmas.{texts_total}
use Rattle.outcome_fold.proofs.SetLemmas.{among_order}
use Rattle.event_sift.specs.declared.rules.Rules.{Rules}
use Rattle.event_sift.specs.Keeping.{allows, has_tag, has_wanted_id, keeps, keeps_test}

has_among : (tags : List (List ℕ)) (tag : List ℕ) → has_tag tags tag ≡ among tags tag
has_among tags tag = λ i. list_any (λ own. (texts_ties own tag ∙ (eq_by_cmp_equiv texts_total).symm own tag) i) tags

has_in_order : (tags : List (List ℕ)) (tag : List ℕ) → has_tag tags tag ≡ has_tag (in_byte_order tags) tag
has_in_order tags tag = has_among tags tag ∙ sym (among_order tags tag) ∙ sym (has_among (in_byte_order tags) tag)

-- tags as they stand count as the same tags in order, each once
kept_in_order : (rules : Rules) (id : List ℕ) (how : Ended) (tags : List (List ℕ)) → keeps_test rules id how tags ≡ keeps_test rules id how (in_byte_order tags)
kept_in_order rules id how tags =
    λ i. allows rules how && ((list_all (λ tag. has_in_order tags tag i) rules.with_tags && not (list_any (λ tag. has_in_order tags tag i) rules.without_tags)) && (has_wanted_id rules id && not (is_found rules.without_ids id)))

-- the test of a part is kept where its row is, also by rules that are known to be the same
pub kept_part : (asked rules : Rules) (part : EndedPart) (kept : Bool) → asked ≡ rules → kept ≡ keeps_test asked part.key.id part.ended part.started.tags → kept ≡ keeps rules (row_of_part part)
kept_part asked rules part kept same is =
    is ∙ ap (λ (rules : Rules). keeps_test rules part.key.id part.ended part.started.tags) same ∙ kept_in_order rules part.key.id part.ended part.started.tags
