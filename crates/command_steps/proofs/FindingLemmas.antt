-- How the search for causes goes on, step by step.
use Rattle.std.proofs.Common.{◌≡◌, ℕ, ◌<◌, ◌≤◌, ◌+◌, Bool, true, false, Option, IfSome, Result, Ok, Err, List, [], ◌∷◌, ◌++◌, length, get_or, drop, refl, sym, ap, subst, ◌∙◌, arith}
use Rattle.std.specs.Prelude.{IsErrAnd, ◌||◌, if◌then◌else◌}
use Rattle.std.specs.List.{filter, list_any}
use Rattle.std.proofs.lemmas.List.{at_drop_more, drop_all}
use Rattle.std.proofs.lemmas.Result.{err_from_is_err_and}
use Rattle.std.proofs.lemmas.List.Elements.{All-nil, All-push}
use Rattle.edge_io.specs.Causes.{RisesExactlyIf}
use Rattle.edge_io.specs.Disk.{Folder}
use Rattle.edge_io.specs.Seen.{Seen}
use Rattle.edge_io.specs.Steps.{Goes, Stays}
use Rattle.outcome_fold.specs.Answers.{row_fails}
use Rattle.outcome_fold.specs.declared.row.Row.{Row}
use Rattle.suite_causes.specs.Ran.{HasRanAt}
use Rattle.suite_causes.specs.Suspects.{suspects_of}
use Rattle.suite_causes.specs.declared.suspects.Suspect.{Suspect}
use Rattle.testr_conf.specs.Settings.{Settings}
use Rattle.command_steps.specs.Causes.{AreRanLists, IsPlaceOf, FindsRan, FindsCause, FindsEach, ListsSuspects}
use Rattle.command_steps.specs.Outside.{Work}
use Rattle.command_steps.specs.Steps.{stops, goes_on}
use Rattle.command_steps.specs.Verdicts.{verdict_of}
use Rattle.command_steps.specs.declared.answer.Verdict.TheVariants.{Passed, Failed}
use Rattle.command_steps.specs.declared.answer.Refusal.{Refusal}
use Rattle.command_steps.specs.declared.causes.LaneIds.{LaneIds}
use Rattle.command_steps.proofs.Resting.{stays_is}

-- ---- the suspects

pub lists_suspects : (rows kept : List Row) (suspects : List Suspect) → kept ≡ filter row_fails rows → suspects ≡ suspects_of kept → ListsSuspects rows (Ok suspects)
lists_suspects rows kept suspects kept_is is = record { suspects = is ∙ ap suspects_of kept_is }

pub finds_none : (settings : Settings) (number : ℕ) (suspects : List Suspect) (a : Work) → length suspects ≡ 0 → FindsEach settings number suspects a a (Ok tt)
finds_none settings number [] a none = record { answer = refl; same = refl }
finds_none settings number (one ∷ more) a none = absurd (omega (arith, none))

-- then no row is kept, and no test is searched
none_kept : (rows : List Row) → verdict_of rows ≡ Passed → filter row_fails rows ≡ []
none_kept [] passed = refl
none_kept (row ∷ rows) passed = by (row_fails row) passed (none_kept rows)
  where
    by : (fails : Bool) → (if fails || list_any row_fails rows then Failed else Passed) ≡ Passed → (verdict_of rows ≡ Passed → filter row_fails rows ≡ []) → (if fails then row ∷ filter row_fails rows else filter row_fails rows) ≡ []
    by true passed rest = cc
    by false passed rest = rest passed

pub none_searched : (rows kept : List Row) (suspects : List Suspect) → kept ≡ filter row_fails rows → suspects ≡ suspects_of kept → verdict_of rows ≡ Passed → length suspects ≡ 0
none_searched rows kept suspects kept_is is passed = ap length is ∙ ap (λ (l : List Row). length (suspects_of l)) (kept_is ∙ none_kept rows passed)

-- ---- what ran on the lanes

-- the lists are as they were where the folder stays
pub lists_still : (number : ℕ) (lists : List LaneIds) (a b : Option Folder) → Goes a b Stays → AreRanLists number lists a → AreRanLists number lists b
lists_still number lists a b stays are = subst (AreRanLists number lists) (sym (stays_is a b stays)) are

pub lists_none : (number : ℕ) (lists : List LaneIds) (a : Option Folder) → lists ≡ [] → AreRanLists number lists a
lists_none number lists a none = subst (λ (l : List LaneIds). AreRanLists number l a) (sym none) (All-nil (λ (one : LaneIds). IfSome a (HasRanAt number one.lane one.ids)))

pub lists_more : (number : ℕ) (lists new : List LaneIds) (one : LaneIds) (a b : Option Folder) → Goes a b Stays → AreRanLists number lists a → IfSome a (HasRanAt number one.lane one.ids) → new ≡ lists ++ one ∷ [] → AreRanLists number new b
lists_more number lists new one a b stays are ran is =
    subst (λ (l : List LaneIds). AreRanLists number l b) (sym is)
    (subst (AreRanLists number (lists ++ one ∷ [])) (sym (stays_is a b stays)) (All-push (λ (x : LaneIds). IfSome a (HasRanAt number x.lane x.ids)) lists one are ran))

-- the ids of a lane that was read
pub ran_at : (number lane place : ℕ) (lists : List LaneIds) (a b : Seen Folder) (other : LaneIds) → IsPlaceOf lane lists place → AreRanLists number lists b.told → Goes a.told b.told Stays → RisesExactlyIf a.faults b.faults false → FindsRan number lane a b (Ok (get_or lists place other).ids)
ran_at number lane place lists a b other is are same count =
    let one : LaneIds = get_or lists place other in
    let there : IfSome b.told (HasRanAt number one.lane one.ids) = are place other is.below in
    let on_lane : IfSome b.told (HasRanAt number lane one.ids) = subst (λ (n : ℕ). IfSome b.told (HasRanAt number n one.ids)) (is.lane_is other) there in
    record { ids = subst (λ (o : Option Folder). IfSome o (HasRanAt number lane one.ids)) (stays_is a.told b.told same) on_lane; same = same; count = count }

pub ran_here : (number lane place : ℕ) (lists : List LaneIds) (a b : Seen Folder) (one : LaneIds) → one ≡ get_or lists place one → IsPlaceOf lane lists place → AreRanLists number lists b.told → Goes a.told b.told Stays → RisesExactlyIf a.faults b.faults false → FindsRan number lane a b (Ok one.ids)
ran_here number lane place lists a b one here is are same count = subst (λ (x : LaneIds). FindsRan number lane a b (Ok x.ids)) (sym here) (ran_at number lane place lists a b one is are same count)

-- ---- one test after another

-- what is left of the tests is done, and so all of them are
abbrev pub LeadsTo : Settings → (number : ℕ) → (all left : List Suspect) → (start now : Work) → Type 0
LeadsTo settings number all left start now = (end : Work) (result : Result (Unit {0}) Refusal) → FindsEach settings number left now end result → FindsEach settings number all start end result

pub leads_first : (settings : Settings) (number : ℕ) (all : List Suspect) (start : Work) → LeadsTo settings number all all start start
leads_first settings number all start = λ end result finds. finds

pub leads_on : (settings : Settings) (number : ℕ) (all : List Suspect) (index : ℕ) (one : Suspect) (start now next : Work) → index < length all → LeadsTo settings number all (drop index all) start now → FindsCause settings number (get_or all index one) now next (Ok tt) → LeadsTo settings number all (drop (index + 1) all) start next
leads_on settings number all index one start now next below leads done = λ end result finds.
    leads end result (subst (λ (l : List Suspect). FindsEach settings number l now end result) (sym (at_drop_more (λ (l : List Suspect). l) all index one below)) (goes_on tt next done finds))

-- the search for one of them refused
pub leads_stop : (settings : Settings) (number : ℕ) (all : List Suspect) (index : ℕ) (one : Suspect) (start now end : Work) (fault : Refusal) (result : Result (Unit {0}) Refusal) → index < length all → LeadsTo settings number all (drop index all) start now → IsErrAnd result (λ given. given ≡ fault) → FindsCause settings number (get_or all index one) now end (Err fault) → FindsEach settings number all start end result
leads_stop settings number all index one start now end fault result below leads is refused =
    let p = err_from_is_err_and result is in
    leads end result (subst (λ (l : List Suspect). FindsEach settings number l now end result) (sym (at_drop_more (λ (l : List Suspect). l) all index one below)) (stops fault (p.1 ∙ ap Err p.2) refused))

pub leads_all : (settings : Settings) (number : ℕ) (all : List Suspect) (index : ℕ) (start now : Work) → length all ≤ index → LeadsTo settings number all (drop index all) start now → FindsEach settings number all start now (Ok tt)
leads_all settings number all index start now is leads = leads now (Ok tt) (subst (λ (l : List Suspect). FindsEach settings number l now now (Ok tt)) (sym (drop_all index all is)) (record { answer = refl; same = refl }))
