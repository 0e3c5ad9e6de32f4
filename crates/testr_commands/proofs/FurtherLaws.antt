-- What the reading of the lists of further patterns gives and leaves, and why it refuses.
use Rattle.std.proofs.Common.{◌≡◌, ℕ, Bool, Option, None, Some, IfSome, IsSomeAnd, Result, Ok, Err, List, [], All, refl, sym, ap, subst, ◌∙◌, ◌<◌, ◌≤◌, length, cond, arith}
use Rattle.edge_io.specs.Causes.{RisesExactlyIf}
use Rattle.edge_io.specs.Disk.{Files}
use Rattle.edge_io.specs.Seen.{Seen}
use Rattle.partition_times.specs.Patterns.{IsPattern}
use Rattle.run_ledger.specs.Caches.{IsTimesCache}
use Rattle.suite_plan.specs.Choosing.{Ids}
use Rattle.suite_plan.specs.PatternList.{IsPatternList, HasPatternsCause, ReadsPatternList, patterns_failed}
use Rattle.suite_plan.specs.declared.load_list.ListRefusal.TheVariants as load_list
use Rattle.suite_plan.specs.declared.pattern_list.PatternListRefusal.{PatternListRefusal}
use Rattle.suite_plan.specs.declared.pattern_list.PatternListRefusal.TheVariants as pattern_list
use Rattle.command_steps.specs.declared.test_selection.Further.{Further}
use Rattle.testr_conf.specs.ListedIds.{patterns_in}
use Rattle.testr_conf.specs.declared.ids.IdsFault.{IdsFault}
use Rattle.testr_conf.specs.declared.ids.IdsFault.TheVariants.{NotText}
use Rattle.command_steps.specs.Outside.{in_site}
use Rattle.command_steps.specs.Perhaps.{Perhaps, not_asked, did, refused}
use Rattle.command_steps.specs.Refusals.{refusal_exit_status, fault_place_of}
use Rattle.command_steps.specs.Selecting.{TimesById, further_refusal, ReadsFurther}
use Rattle.command_steps.specs.Steps.{stops, goes_on}
use Rattle.command_steps.specs.TimesFile.{IsTimesFile, HasTimesCause, ReadsTimes, times_failed}
use Rattle.command_steps.specs.declared.test_selection.FurtherRefusal.{FurtherRefusal}
use Rattle.command_steps.specs.declared.test_selection.FurtherRefusal.TheVariants as further
use Rattle.command_steps.specs.declared.times_file.TheConstants.{MOST_TIMES}
use Rattle.command_steps.specs.declared.times_file.TimesRefusal.{TimesRefusal}
use Rattle.command_steps.specs.declared.times_file.TimesRefusal.TheVariants as times_file
use Rattle.testr_words.specs.Suites.{Wanted}
use Rattle.testr_commands.specs.Answer.{IsChildFault}
use Rattle.testr_commands.specs.Further.{GivesPatterns, GivesTimes, GivesFurther, HasPatterns, HasTimes, CanReadFurther}
use Rattle.testr_commands.proofs.PatternLemmas.{good_not_bad}
use Rattle.testr_commands.proofs.RefusalLemmas.{IsNoUsage, list_place, times_place}
use Rattle.testr_commands.proofs.SuiteCauses.{NoCause, from_told, not_too_much, same_text}

-- ---- what stays

one_told : (name : Option (List ℕ)) (a b : Seen Files) (r : Result (Option Ids) PatternListRefusal) → Perhaps name ReadsPatternList a b r → b.told ≡ a.told
one_told name a b r (not_asked none is same) = λ i. (same i).told
one_told name a b r (did n value asked is step) = step.same
one_told name a b r (refused n fault asked is step) = step.same

times_told : (name : Option (List ℕ)) (a b : Seen Files) (r : Result (Option TimesById) TimesRefusal) → Perhaps name ReadsTimes a b r → b.told ≡ a.told
times_told name a b r (not_asked none is same) = λ i. (same i).told
times_told name a b r (did n value asked is step) = step.same
times_told name a b r (refused n fault asked is step) = step.same

pub further_told : (wanted : Wanted) (a b : Seen Files) (r : Result Further FurtherRefusal) → ReadsFurther wanted a b r → b.told ≡ a.told
further_told wanted a b r (stops fault is step) = one_told wanted.include_list a b (Err fault) step
further_told wanted a b r (goes_on including m first (stops fault is step)) = one_told wanted.exclude_list m b (Err fault) step ∙ one_told wanted.include_list a m (Ok including) first
further_told wanted a b r (goes_on including m first (goes_on excluding n second (stops fault is step))) = times_told wanted.times n b (Err fault) step ∙ one_told wanted.exclude_list m n (Ok excluding) second ∙ one_told wanted.include_list a m (Ok including) first
further_told wanted a b r (goes_on including m first (goes_on excluding n second (goes_on times o third gives))) = (λ i. (gives.same i).told) ∙ times_told wanted.times n o (Ok times) third ∙ one_told wanted.exclude_list m n (Ok excluding) second ∙ one_told wanted.include_list a m (Ok including) first

one_stands : (name : Option (List ℕ)) (a b : Seen Files) (v : Option Ids) → Perhaps name ReadsPatternList a b (Ok v) → b.faults ≡ a.faults
one_stands name a b v (not_asked none is same) = λ i. (same i).faults
one_stands name a b v (did n value asked is step) = step.count.stands refl
one_stands name a b v (refused n fault asked is step) = cc

times_stand : (name : Option (List ℕ)) (a b : Seen Files) (v : Option TimesById) → Perhaps name ReadsTimes a b (Ok v) → b.faults ≡ a.faults
times_stand name a b v (not_asked none is same) = λ i. (same i).faults
times_stand name a b v (did n value asked is step) = step.count.stands refl
times_stand name a b v (refused n fault asked is step) = cc

-- no count rises where it is done
pub further_stands : (wanted : Wanted) (a b : Seen Files) (v : Further) → ReadsFurther wanted a b (Ok v) → b.faults ≡ a.faults
further_stands wanted a b v (stops fault is step) = cc
further_stands wanted a b v (goes_on including m first (stops fault is step)) = cc
further_stands wanted a b v (goes_on including m first (goes_on excluding n second (stops fault is step))) = cc
further_stands wanted a b v (goes_on including m first (goes_on excluding n second (goes_on times o third gives))) = (λ i. (gives.same i).faults) ∙ times_stand wanted.times n o times third ∙ one_stands wanted.exclude_list m n excluding second ∙ one_stands wanted.include_list a m including first

-- ---- where it refuses

-- whether a read failed
abbrev pub failed_of : FurtherRefusal → Bool
failed_of (further.Patterns fault) = patterns_failed {T = Ids} (Err fault)
failed_of (further.Times fault) = times_failed {T = TimesById} (Err fault)

one_rises : (name : Option (List ℕ)) (a b : Seen Files) (fault : PatternListRefusal) → Perhaps name ReadsPatternList a b (Err fault) → RisesExactlyIf a.faults b.faults (failed_of (further.Patterns fault))
one_rises name a b fault (not_asked none is same) = cc
one_rises name a b fault (did n value asked is step) = cc
one_rises name a b fault (refused n why asked is step) =
    let same : why ≡ fault = cc in
    subst (λ (f : PatternListRefusal). RisesExactlyIf a.faults b.faults (failed_of (further.Patterns f))) same step.count

times_rise : (name : Option (List ℕ)) (a b : Seen Files) (fault : TimesRefusal) → Perhaps name ReadsTimes a b (Err fault) → RisesExactlyIf a.faults b.faults (failed_of (further.Times fault))
times_rise name a b fault (not_asked none is same) = cc
times_rise name a b fault (did n value asked is step) = cc
times_rise name a b fault (refused n why asked is step) =
    let same : why ≡ fault = cc in
    subst (λ (f : TimesRefusal). RisesExactlyIf a.faults b.faults (failed_of (further.Times f))) same step.count

same_fault : {A : Type 0} (one other : FurtherRefusal) → ◌≡◌ {A = Result A FurtherRefusal} (Err one) (Err other) → other ≡ one
same_fault one other is = cc

-- a count that rose behind others that stand
rises_behind : (fault : FurtherRefusal) (before start now : ℕ) → start ≡ before → RisesExactlyIf start now (failed_of fault) → RisesExactlyIf before now (failed_of fault)
rises_behind fault before start now same rises = subst (λ (n : ℕ). RisesExactlyIf n now (failed_of fault)) same rises

rises_as : (before now : ℕ) (one other : FurtherRefusal) → other ≡ one → RisesExactlyIf before now (failed_of other) → RisesExactlyIf before now (failed_of one)
rises_as before now one other same rises = subst (λ (f : FurtherRefusal). RisesExactlyIf before now (failed_of f)) same rises

-- the count of the files rises exactly where a read failed
pub further_rises : (wanted : Wanted) (a b : Seen Files) (fault : FurtherRefusal) → ReadsFurther wanted a b (Err fault) → RisesExactlyIf a.faults b.faults (failed_of fault)
further_rises wanted a b fault (stops why is step) = rises_as a.faults b.faults fault (further.Patterns why) (same_fault fault (further.Patterns why) is) (one_rises wanted.include_list a b why step)
further_rises wanted a b fault (goes_on including m first (stops why is step)) =
    rises_behind fault a.faults m.faults b.faults (one_stands wanted.include_list a m including first)
    (rises_as m.faults b.faults fault (further.Patterns why) (same_fault fault (further.Patterns why) is) (one_rises wanted.exclude_list m b why step))
further_rises wanted a b fault (goes_on including m first (goes_on excluding n second (stops why is step))) =
    rises_behind fault a.faults n.faults b.faults (one_stands wanted.exclude_list m n excluding second ∙ one_stands wanted.include_list a m including first)
    (rises_as n.faults b.faults fault (further.Times why) (same_fault fault (further.Times why) is) (times_rise wanted.times n b why step))
further_rises wanted a b fault (goes_on including m first (goes_on excluding n second (goes_on times o third gives))) =
    let both : ◌≡◌ {A = Result Further FurtherRefusal} (Err fault) (Ok _) = gives.answer in
    cc

pub further_named : (fault : FurtherRefusal) → IsNoUsage (further_refusal fault)
further_named (further.Patterns (pattern_list.List refusal)) = tt
further_named (further.Patterns (pattern_list.Bad line)) = tt
further_named (further.Times refusal) = tt

pub further_child : (fault : FurtherRefusal) → IsChildFault (Err (further_refusal fault)) → ⊥
further_child (further.Patterns (pattern_list.List refusal)) child = child
further_child (further.Patterns (pattern_list.Bad line)) child = child
further_child (further.Times refusal) child = child

pub further_place : (fault : FurtherRefusal) → fault_place_of (further_refusal fault) ≡ cond (failed_of fault) (Some in_site) None
further_place (further.Patterns (pattern_list.List refusal)) = list_place Ids refusal
further_place (further.Patterns (pattern_list.Bad line)) = refl
further_place (further.Times refusal) = times_place TimesById refusal

-- ---- why it refuses

pub not_too_many : (file : Option (List ℕ)) (bytes : List ℕ) → file ≡ Some bytes → length bytes ≤ MOST_TIMES → IsSomeAnd file (λ b. MOST_TIMES < length b) → ⊥
not_too_many None bytes there short long = long
not_too_many (Some given) bytes there short long =
    let same : given ≡ bytes = cc in
    omega (arith, ap length same, short, long)

patterns_cause : (name : List ℕ) (patterns : Ids) (fault : PatternListRefusal) (files : Files) → IsPatternList name patterns files → HasPatternsCause name fault files → refusal_exit_status (further_refusal (further.Patterns fault)) ≡ 3 → ⊥
patterns_cause name patterns (pattern_list.List load_list.Site) files listed cause three = omega arith
patterns_cause name patterns (pattern_list.List (load_list.TooLong given)) files listed cause three = not_too_much (files name) listed.text listed.has.there listed.has.short cause
patterns_cause name patterns (pattern_list.List (load_list.Absent given)) files listed cause three =
    let both : Some listed.text ≡ None = sym listed.has.there ∙ cause in
    cc
patterns_cause name patterns (pattern_list.List (load_list.NotId given number)) files listed cause three =
    let same : listed.text ≡ cause.text = same_text (files name) listed.text cause.text listed.has.there cause.has.there in
    let both : ◌≡◌ {A = Result Ids IdsFault} (Ok patterns) (Err (NotText number)) = sym listed.says ∙ ap patterns_in same ∙ cause.says in
    cc
patterns_cause name patterns (pattern_list.List load_list.NoMemory) files listed cause three = omega arith
patterns_cause name patterns (pattern_list.Bad line) files listed cause three =
    let same : listed.text ≡ cause.text = same_text (files name) listed.text cause.text listed.has.there cause.has.there in
    let both : ◌≡◌ {A = Result Ids IdsFault} (Ok patterns) (Ok cause.patterns) = sym listed.says ∙ ap patterns_in same ∙ cause.says in
    let are : patterns ≡ cause.patterns = cc in
    let good : All IsPattern cause.patterns = subst (λ (p : Ids). All IsPattern p) are listed.good in
    good_not_bad _ (good cause.index [] cause.first.in_range) cause.first.bad

one_never : (name : Option (List ℕ)) (a b : Seen Files) (fault : PatternListRefusal) → IfSome name (λ n. IsSomeAnd a.told (HasPatterns n)) → Perhaps name ReadsPatternList a b (Err fault) → refusal_exit_status (further_refusal (further.Patterns fault)) ≡ 3 → ⊥
one_never None a b fault there (not_asked none is same) three = cc
one_never None a b fault there (did n value asked is step) three = cc
one_never None a b fault there (refused n why asked is step) three = cc
one_never (Some name) a b fault there (not_asked none is same) three = cc
one_never (Some name) a b fault there (did n value asked is step) three = cc
one_never (Some name) a b fault there (refused n why asked is step) three =
    let same : why ≡ fault = cc in
    let named : name ≡ n = cc in
    from_told a.told (HasPatterns n) (HasPatternsCause n why) (subst (λ (x : List ℕ). IsSomeAnd a.told (HasPatterns x)) named there) step.refused
    (λ files listed cause. patterns_cause n listed.0 why files listed.1 cause (ap (λ f. refusal_exit_status (further_refusal (further.Patterns f))) same ∙ three))

times_cause : (name : List ℕ) (times : TimesById) (fault : TimesRefusal) (files : Files) → IsTimesFile name times files → HasTimesCause name fault files → refusal_exit_status (further_refusal (further.Times fault)) ≡ 3 → ⊥
times_cause name times times_file.Site files is_file cause three = omega arith
times_cause name times (times_file.TooLong given) files is_file cause three = not_too_many (files name) is_file.bytes is_file.has.there is_file.has.short cause
times_cause name times (times_file.Absent given) files is_file cause three =
    let both : Some is_file.bytes ≡ None = sym is_file.has.there ∙ cause in
    cc
times_cause name times (times_file.NotTimes given) files is_file cause three =
    let same : is_file.bytes ≡ cause.bytes = same_text (files name) is_file.bytes cause.bytes is_file.has.there cause.has.there in
    cause.other is_file.covers times (subst (λ (bytes : List ℕ). IsTimesCache bytes is_file.covers times) same is_file.form)
times_cause name times times_file.NoMemory files is_file cause three = omega arith

times_never : (name : Option (List ℕ)) (a b : Seen Files) (fault : TimesRefusal) → IfSome name (λ n. IsSomeAnd a.told (HasTimes n)) → Perhaps name ReadsTimes a b (Err fault) → refusal_exit_status (further_refusal (further.Times fault)) ≡ 3 → ⊥
times_never None a b fault there (not_asked none is same) three = cc
times_never None a b fault there (did n value asked is step) three = cc
times_never None a b fault there (refused n why asked is step) three = cc
times_never (Some name) a b fault there (not_asked none is same) three = cc
times_never (Some name) a b fault there (did n value asked is step) three = cc
times_never (Some name) a b fault there (refused n why asked is step) three =
    let same : why ≡ fault = cc in
    let named : name ≡ n = cc in
    from_told a.told (HasTimes n) (HasTimesCause n why) (subst (λ (x : List ℕ). IsSomeAnd a.told (HasTimes x)) named there) step.refused
    (λ files listed cause. times_cause n listed.0 why files listed.1 cause (ap (λ f. refusal_exit_status (further_refusal (further.Times f))) same ∙ three))

code_as : (one other : FurtherRefusal) → other ≡ one → refusal_exit_status (further_refusal one) ≡ 3 → refusal_exit_status (further_refusal other) ≡ 3
code_as one other same three = ap (λ f. refusal_exit_status (further_refusal f)) same ∙ three

pub further_never : (wanted : Wanted) (a b : Seen Files) (fault : FurtherRefusal) → CanReadFurther wanted a.told → ReadsFurther wanted a b (Err fault) → NoCause (further_refusal fault)
further_never wanted a b fault can (stops why is step) = (
  (λ three. one_never wanted.include_list a b why can.include step (code_as fault (further.Patterns why) (same_fault fault (further.Patterns why) is) three)),
  further_child fault,
)
further_never wanted a b fault can (goes_on including m first (stops why is step)) =
    let told = one_told wanted.include_list a m (Ok including) first in
    let there : IfSome wanted.exclude_list (λ n. IsSomeAnd m.told (HasPatterns n)) = subst (λ (o : Option Files). IfSome wanted.exclude_list (λ n. IsSomeAnd o (HasPatterns n))) (sym told) can.exclude in (
      (λ three. one_never wanted.exclude_list m b why there step (code_as fault (further.Patterns why) (same_fault fault (further.Patterns why) is) three)),
      further_child fault,
    )
further_never wanted a b fault can (goes_on including m first (goes_on excluding n second (stops why is step))) =
    let told = one_told wanted.exclude_list m n (Ok excluding) second ∙ one_told wanted.include_list a m (Ok including) first in
    let there : IfSome wanted.times (λ x. IsSomeAnd n.told (HasTimes x)) = subst (λ (o : Option Files). IfSome wanted.times (λ x. IsSomeAnd o (HasTimes x))) (sym told) can.times in (
      (λ three. times_never wanted.times n b why there step (code_as fault (further.Times why) (same_fault fault (further.Times why) is) three)),
      further_child fault,
    )
further_never wanted a b fault can (goes_on including m first (goes_on excluding n second (goes_on times o third gives))) =
    let both : ◌≡◌ {A = Result Further FurtherRefusal} (Err fault) (Ok _) = gives.answer in
    cc

-- ---- what it gives

one_gives : (name : Option (List ℕ)) (a b : Seen Files) (v : Option Ids) → Perhaps name ReadsPatternList a b (Ok v) → GivesPatterns name v a.told
one_gives None a b v (not_asked none is same) = cc
one_gives None a b v (did n value asked is step) = cc
one_gives None a b v (refused n fault asked is step) = cc
one_gives (Some name) a b v (not_asked none is same) = cc
one_gives (Some name) a b v (did n value asked is step) =
    let same : n ≡ name = cc in
    let some : Some value ≡ v = cc in
    subst (λ (o : Option Ids). IsSomeAnd o (λ patterns. IfSome a.told (IsPatternList name patterns))) some
    (subst (λ (x : List ℕ). IfSome a.told (IsPatternList x value)) same step.patterns)
one_gives (Some name) a b v (refused n fault asked is step) = cc

same_value : {A E : Type 0} (x y : A) → ◌≡◌ {A = Result A E} (Ok x) (Ok y) → y ≡ x
same_value x y is = cc

times_give : (name : Option (List ℕ)) (a b : Seen Files) (v : Option TimesById) → Perhaps name ReadsTimes a b (Ok v) → GivesTimes name v a.told
times_give None a b v (not_asked none is same) = cc
times_give None a b v (did n value asked is step) = cc
times_give None a b v (refused n fault asked is step) = cc
times_give (Some name) a b v (not_asked none is same) = cc
times_give (Some name) a b v (did n value asked is step) =
    let same : n ≡ name = cc in
    let some : Some value ≡ v = cc in
    subst (λ (o : Option TimesById). IsSomeAnd o (λ times. IfSome a.told (IsTimesFile name times))) some
    (subst (λ (x : List ℕ). IfSome a.told (IsTimesFile x value)) same step.times)
times_give (Some name) a b v (refused n fault asked is step) = cc

pub gives_further : (wanted : Wanted) (a b : Seen Files) (files : Option Files) (v : Further) → a.told ≡ files → ReadsFurther wanted a b (Ok v) → GivesFurther wanted v files
gives_further wanted a b files v at (stops fault is step) = cc
gives_further wanted a b files v at (goes_on including m first (stops fault is step)) = cc
gives_further wanted a b files v at (goes_on including m first (goes_on excluding n second (stops fault is step))) = cc
gives_further wanted a b files v at (goes_on including m first (goes_on excluding n second (goes_on times o third gives))) =
    let told : m.told ≡ files = one_told wanted.include_list a m (Ok including) first ∙ at in
    let then_told : n.told ≡ files = one_told wanted.exclude_list m n (Ok excluding) second ∙ told in
    subst (λ (f : Further). GivesFurther wanted f files) (same_value v _ gives.answer) (record {
      including = subst (GivesPatterns wanted.include_list including) at (one_gives wanted.include_list a m including first);
      excluding = subst (GivesPatterns wanted.exclude_list excluding) told (one_gives wanted.exclude_list m n excluding second);
      times = subst (GivesTimes wanted.times times) then_told (times_give wanted.times n o times third);
    })
