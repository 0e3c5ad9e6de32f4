-- The steps of the fold, in the words of the code.
use Rattle.std.proofs.Common.{◌≡◌, List, [], ◌∷◌, ◌++◌, Some, None, sym, ◌∙◌, ap}
use Rattle.std.specs.FinMap as fin
use Rattle.std.specs.FinMap.{FinMap}
use Rattle.packet_codec.specs.declared.event.Event.{Event}
use Rattle.outcome_fold.specs.declared.row.Ended.{Ended}
use Rattle.outcome_fold.specs.declared.test_key.TestKey.{TestKey}
use Rattle.outcome_fold.specs.declared.part.Started.{Started}
use Rattle.outcome_fold.specs.Order.{test_cmp}
use Rattle.outcome_fold.specs.Parts.{test_of, ended_by}
use Rattle.outcome_fold.specs.Started.{open_table}
use Rattle.outcome_fold.specs.Folded.{extended}
use Rattle.outcome_fold.proofs.StepLemmas.{stays, goes, ends}

abbrev pub StartedByTest : Type 0
StartedByTest = FinMap test_cmp Started

pub stays_open : (seen : List Event) (e : Event) (kept : StartedByTest) → kept ≡ open_table seen → None ≡ test_of e → kept ≡ open_table (seen ++ e ∷ [])
stays_open seen e kept is none = is ∙ sym (stays seen e (sym none))

pub goes_on : (seen : List Event) (e : Event) (kept next : StartedByTest) (t : TestKey) (s : Started) → kept ≡ open_table seen → Some t ≡ test_of e → None ≡ ended_by e.status → s ≡ extended (fin.get kept t) e → next ≡ fin.insert kept t s → next ≡ open_table (seen ++ e ∷ [])
goes_on seen e kept next t s is test none part insert =
    insert ∙ ap (fin.insert kept t) part ∙ ap (λ (m : StartedByTest). fin.insert m t (extended (fin.get m t) e)) is ∙ sym (goes seen e t (sym test) (sym none))

pub is_closed : (seen : List Event) (e : Event) (kept next : StartedByTest) (t : TestKey) (how : Ended) → kept ≡ open_table seen → Some t ≡ test_of e → Some how ≡ ended_by e.status → next ≡ fin.remove kept t → next ≡ open_table (seen ++ e ∷ [])
is_closed seen e kept next t how is test some remove = remove ∙ ap (λ (m : StartedByTest). fin.remove m t) is ∙ sym (ends seen e t how (sym test) (sym some))
