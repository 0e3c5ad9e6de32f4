-- Ids that stand among others.
use Rattle.std.proofs.Common.{◌≡◌, ◌==◌, ◌∙◌, ap, sym, refl, cond, Bool, true, false, not, List, ℕ, [], ◌∷◌, ◌++◌, length, Option, Some, append-nil, arith}
use Rattle.std.specs.Option.{unwrap_or}
use Rattle.std.proofs.lemmas.Bool.{eqb-true}
use Rattle.std.specs.Prelude.{◌||◌, is_some}
use Rattle.std.specs.List.{IsDistinct, filter}
use Rattle.std.specs.Str.{bytes_eq}
use Rattle.std.proofs.lemmas.List.Folds.{list_any-append}
use Rattle.outcome_fold.specs.Order.{among, in_byte_order}
use Rattle.outcome_fold.proofs.SetLemmas.{among_order}
use Rattle.partition_times.specs.Patterns.{first_match, is_found, picked_ids}
use Rattle.suite_plan.specs.Choosing.{Ids, ids_in_both, with_further, is_missed, missed_ids, wanted_ids, chosen_of}
use Rattle.suite_plan.specs.declared.picks.FurtherPicks.{FurtherPicks}
use Rattle.suite_plan.specs.declared.picks.Picks.{Picks}
use Rattle.suite_plan.proofs.FirstLemmas.{firsts_same, distinct_filtered}

-- ids of which each stands once are picked each once
picked_distinct : (patterns ids : Ids) → IsDistinct bytes_eq ids → IsDistinct bytes_eq (picked_ids patterns ids)
picked_distinct [] ids distinct = distinct
picked_distinct (pattern ∷ patterns) ids distinct = distinct_filtered (is_found (pattern ∷ patterns)) ids distinct

-- of ids of which each stands once all that are wanted are chosen
pub chosen_wanted : (picks : Picks) (ids : Ids) → IsDistinct bytes_eq ids → chosen_of picks ids ≡ wanted_ids picks ids
chosen_wanted picks ids distinct = firsts_same (wanted_ids picks ids) (distinct_filtered (is_missed picks.excluding) (picked_ids picks.including ids) (picked_distinct picks.including ids distinct))

none_missed : (ids : Ids) → missed_ids [] ids ≡ ids
none_missed [] = refl
none_missed (id ∷ ids) = ap (λ l. id ∷ l) (none_missed ids)

-- where there is no pattern none of the ids is left out
pub missed_by_none : (patterns ids : Ids) → true ≡ (length patterns == 0) → ids ≡ missed_ids patterns ids
missed_by_none [] ids none = sym (none_missed ids)
missed_by_none (pattern ∷ patterns) ids none = absurd (omega (arith, eqb-true (length (pattern ∷ patterns)) 0 (sym none)))

-- where there is no further pattern, the ids are picked as without
pub picked_without : (patterns further ids : Ids) → true ≡ (length further == 0) → picked_ids patterns ids ≡ picked_ids (patterns ++ further) ids
picked_without patterns [] ids none = ap (λ p. picked_ids p ids) (sym (append-nil patterns))
picked_without patterns (pattern ∷ further) ids none = absurd (omega (arith, eqb-true (length (pattern ∷ further)) 0 (sym none)))

-- where there is one, those are picked in which one of all is found
picked_with : (patterns further ids : Ids) → (length further == 0) ≡ false → picked_ids (patterns ++ further) ids ≡ filter (is_found (patterns ++ further)) ids
picked_with patterns [] ids some = cc
picked_with [] (pattern ∷ further) ids some = refl
picked_with (first ∷ patterns) (pattern ∷ further) ids some = refl

-- so it is of what is found in ids that were moved
pub found_picked : (patterns further one other ids moved picked : Ids) → one ≡ patterns → other ≡ further → moved ≡ ids → false ≡ (length further == 0) → picked ≡ filter (is_found (one ++ other)) moved → picked ≡ picked_ids (patterns ++ further) ids
found_picked patterns further one other ids moved picked one_is other_is moved_is some is =
    is ∙ ap (λ p. filter (is_found (p ++ other)) moved) one_is ∙ ap (λ p. filter (is_found (patterns ++ p)) moved) other_is ∙ ap (filter (is_found (patterns ++ further))) moved_is
    ∙ sym (picked_with patterns further ids (sym some))

twice_step : (b c : Bool) (id : List ℕ) (both other left : Ids) → c ≡ is_found other id → both ≡ missed_ids other left → cond (not (b || c)) (id ∷ both) both ≡ missed_ids other (cond (not b) (id ∷ left) left)
twice_step true c id both other left is rest = rest
twice_step false c id both other left is rest = ap (λ d. cond (not d) (id ∷ both) both) is ∙ ap (λ l. cond (not (is_found other id)) (id ∷ l) l) rest

-- those in which none of both is found are what is left by the second of what is left by the first
pub missed_twice : (one other ids : Ids) → missed_ids (one ++ other) ids ≡ missed_ids other (missed_ids one ids)
missed_twice one other [] = refl
missed_twice one other (id ∷ ids) =
    ap (λ b. cond (not b) (id ∷ missed_ids (one ++ other) ids) (missed_ids (one ++ other) ids)) (list_any-append (λ pattern. is_some (first_match pattern id)) one other)
    ∙ twice_step (is_found one id) (is_found other id) id (missed_ids (one ++ other) ids) other (missed_ids one ids) refl (missed_twice one other ids)

-- what is left by the further patterns that exclude is what is wanted
pub wanted_more : (picks : Picks) (further : FurtherPicks) (filters ids picked left wanted : Ids) → further.excluding ≡ Some filters → picked ≡ picked_ids (picks.including ++ unwrap_or further.including []) ids → left ≡ missed_ids picks.excluding picked → wanted ≡ missed_ids filters left
    → wanted ≡ wanted_ids (with_further picks further) ids
wanted_more picks further filters ids picked left wanted some picked_is left_is wanted_is =
    wanted_is ∙ ap (missed_ids filters) (left_is ∙ ap (missed_ids picks.excluding) picked_is)
    ∙ sym (missed_twice picks.excluding filters (picked_ids (picks.including ++ unwrap_or further.including []) ids))
    ∙ ap (λ (o : Option Ids). missed_ids (picks.excluding ++ unwrap_or o []) (picked_ids (picks.including ++ unwrap_or further.including []) ids)) (sym some)

-- the set of the others has those that they are
pub both_by_set : (ids others known : Ids) → known ≡ in_byte_order others → ids_in_both ids known ≡ ids_in_both ids others
both_by_set [] others known is = refl
both_by_set (id ∷ ids) others known is =
    ap (λ b. cond b (id ∷ ids_in_both ids known) (ids_in_both ids known)) (ap (λ texts. among texts id) is ∙ among_order others id)
    ∙ ap (λ rest. cond (among others id) (id ∷ rest) rest) (both_by_set ids others known is)
