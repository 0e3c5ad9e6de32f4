-- Why `list-tests` does not give up without a cause, and the steps that it shares with `run`: their refusals of status 3 are
-- contradicted one by one, and so are those of a child that they ask.
use Rattle.std.proofs.Common.{◌≡◌, inl, inr, ℕ, ℤ, suc, ◌<◌, ◌≤◌, pos, Option, None, Some, IfSome, IsSomeAnd, IsOk, IsErr, All, Result, Ok, Err, List, [], ◌∷◌, ◌++◌, length, refl, sym, ap, subst, ◌∙◌, arith}
use Rattle.edge_io.specs.Children.{Output}
use Rattle.edge_io.specs.Disk.{Files}
use Rattle.edge_io.specs.Seen.{Seen}
use Rattle.edge_io.specs.Spawners.{Spawning}
use Rattle.edge_io.specs.Steps.{Goes}
use Rattle.edge_io.specs.declared.child.Finish.TheVariants.{Exit}
use Rattle.edge_io.specs.declared.job.Job.{Job}
use Rattle.testr_words.specs.Suites.{ListOptions, Project}
use Rattle.testr_commands.proofs.PatternLemmas.{good_not_bad}
use Rattle.partition_times.specs.Patterns.{IsPattern}
use Rattle.suite_plan.specs.Children.{StartsFor, IsBroken}
use Rattle.suite_plan.specs.Choosing.{Ids}
use Rattle.suite_plan.specs.ConfFile.{GivesSettings, HasConfCause, ReadsConf, conf_in}
use Rattle.suite_plan.specs.Listing.{HasFailed, HasListingCause, ListsTests}
use Rattle.suite_plan.specs.Patterns.{Compiles, IsBadRegex}
use Rattle.suite_plan.specs.Texts.{most_text}
use Rattle.suite_plan.specs.declared.conf_file.ConfRefusal.{ConfRefusal}
use Rattle.suite_plan.specs.declared.conf_file.ConfRefusal.TheVariants as conf
use Rattle.suite_plan.specs.declared.test_listing.ListingRefusal.{ListingRefusal}
use Rattle.suite_plan.specs.declared.test_listing.ListingRefusal.TheVariants as listing
use Rattle.suite_plan.specs.declared.patterns.PatternRefusal.{PatternRefusal}
use Rattle.suite_plan.specs.declared.patterns.PatternRefusal.TheVariants as pattern
use Rattle.testr_conf.specs.Jobs.{list_job_of}
use Rattle.testr_conf.specs.Settings.{Settings}
use Rattle.testr_commands.specs.Answer.{IsChildFault}
use Rattle.command_steps.specs.Refusals.{refusal_exit_status}
use Rattle.command_steps.specs.Outside.{Work}
use Rattle.testr_commands.specs.RunSuite.{ListsBy, ListsSuite}
use Rattle.command_steps.specs.Steps.{stops, goes_on}
use Rattle.testr_commands.specs.SuiteProgram.{EndsWell, CanList}
use Rattle.command_steps.specs.SuiteTexts.{conf_exit_status, pattern_exit_status}
use Rattle.command_steps.specs.declared.answer.Refusal.{Refusal}
use Rattle.command_steps.specs.declared.answer.Refusal.TheVariants as refusal
use Rattle.testr_commands.proofs.ChainLemmas.{gives_not}

-- it is of no cause that lies in what the command is given
abbrev pub NoCause : Refusal → Type 0
NoCause r = (refusal_exit_status r ≡ 3 → ⊥) × (IsChildFault (Err r) → ⊥)

pub same_cause : {A : Type 0} (named r : Refusal) → ◌≡◌ {A = Result A Refusal} (Err r) (Err named) → NoCause named → NoCause r
same_cause named r is none =
    let same : named ≡ r = cc in
    subst NoCause same none

-- ---- what is told, and how it goes on

pub moved : {S : Type 0} (a b : Option S) (P Q : S → Type 0) (R : S → S → Type 0) → IsSomeAnd a P → Goes a b R → ((s t : S) → P s → R s t → Q t) → IsSomeAnd b Q
moved None b P Q R holds goes f = absurd holds
moved (Some s) None P Q R holds goes f = absurd goes
moved (Some s) (Some t) P Q R holds goes f = f s t holds goes

pub from_both : {S X : Type 0} (a b : Option S) (P : S → Type 0) (R : S → S → Type 0) → IsSomeAnd a P → Goes a b R → ((s t : S) → P s → R s t → X) → X
from_both None b P R holds goes f = absurd holds
from_both (Some s) None P R holds goes f = absurd goes
from_both (Some s) (Some t) P R holds goes f = f s t holds goes

pub from_told : {S X : Type 0} (a : Option S) (P Q : S → Type 0) → IsSomeAnd a P → IfSome a Q → ((s : S) → P s → Q s → X) → X
from_told None P Q holds also f = absurd holds
from_told (Some s) P Q holds also f = f s holds also

-- ---- files

pub not_too_much : (file : Option (List ℕ)) (text : List ℕ) → file ≡ Some text → length text ≤ most_text → IsSomeAnd file (λ bytes. most_text < length bytes) → ⊥
not_too_much None text there short long = long
not_too_much (Some bytes) text there short long =
    let same : bytes ≡ text = cc in
    omega (arith, ap length same, short, long)

pub same_text : (file : Option (List ℕ)) (one other : List ℕ) → file ≡ Some one → file ≡ Some other → one ≡ other
same_text file one other is also =
    let both : Some one ≡ Some other = sym is ∙ also in
    cc

-- ---- the configuration

pub not_refused : (said : Result Settings ConfRefusal) (settings : Settings) (refusal : ConfRefusal) → said ≡ Ok settings → said ≡ Err refusal → ⊥
not_refused said settings refusal gives refused =
    let both : ◌≡◌ {A = Result Settings ConfRefusal} (Ok settings) (Err refusal) = sym gives ∙ refused in
    cc

conf_cause : (said : Result Settings ConfRefusal) (settings : Settings) (fault : ConfRefusal) → said ≡ Ok settings → HasConfCause said fault → conf_exit_status fault ≡ 3 → ⊥
conf_cause said settings conf.Site gives cause three = omega arith
conf_cause said settings conf.Absent gives cause three = not_refused said settings _ gives cause
conf_cause said settings (conf.Bad file why) gives cause three = not_refused said settings _ gives cause
conf_cause said settings conf.NoMemory gives cause three = omega arith

module _ (project : Project) where
  pub conf_never : (settings : Settings) (a b : Seen Files) (fault : ConfRefusal) → IsSomeAnd a.told (GivesSettings project settings) → ReadsConf project a b (Err fault) → NoCause (refusal.Conf fault)
  conf_never settings a b fault gives reads = (
    (λ three. from_told a.told (GivesSettings project settings) (λ files. HasConfCause (conf_in project files) fault) gives reads.refused (λ files given cause. conf_cause (conf_in project files) settings fault given cause three)),
    (λ child. child),
  )

  -- what is read is what the file gives
  pub same_settings : (given read : Settings) (a b : Seen Files) → IsSomeAnd a.told (GivesSettings project given) → ReadsConf project a b (Ok read) → given ≡ read
  same_settings given read a b gives reads = from_told a.told (GivesSettings project given) (GivesSettings project read) gives reads.conf (λ files one other.
      let both : ◌≡◌ {A = Result Settings ConfRefusal} (Ok given) (Ok read) = sym one ∙ other in
      cc)

-- ---- patterns

pub regex_never : (regex : Option (List ℕ)) (text : List ℕ) → IfSome regex IsPattern → IsBadRegex regex text → ⊥
regex_never None text good bad = bad
regex_never (Some regex) text good bad = good_not_bad regex good bad.1

pattern_cause : (including excluding : Ids) (regex : Option (List ℕ)) (fault : PatternRefusal) → All IsPattern (including ++ excluding) → IfSome regex IsPattern → Compiles including excluding regex (Err fault) → pattern_exit_status fault ≡ 3 → ⊥
pattern_cause including excluding regex (pattern.Bad given) good good_regex (inl bad) three = good_not_bad _ (good bad.index [] bad.first.in_range) bad.first.bad
pattern_cause including excluding regex (pattern.Bad given) good good_regex (inr (all, bad)) three = regex_never regex given.now good_regex bad
pattern_cause including excluding regex pattern.NoMemory good good_regex compiles three = omega arith

pub pattern_never : (including excluding : Ids) (regex : Option (List ℕ)) (fault : PatternRefusal) → All IsPattern (including ++ excluding) → IfSome regex IsPattern → Compiles including excluding regex (Err fault) → NoCause (refusal.Pattern fault)
pattern_never including excluding regex fault good good_regex compiles = ((λ three. pattern_cause including excluding regex fault good good_regex compiles three), (λ child. child))

-- ---- the listing

ends_first : (s t : Spawning) (job : Job) (output : Output) → EndsWell 0 s → StartsFor job output s t → output.finish ≡ Exit (pos 0)
ends_first s t job output ends starts = ends [] output t.outputs starts.first refl

pub ends_behind : (count : ℕ) (s t : Spawning) (job : Job) (first : Output) → EndsWell (suc count) s → StartsFor job first s t → EndsWell count t
ends_behind count s t job first ends starts = λ front output later is front_is. ends (first ∷ front) output later (starts.first ∙ ap (λ l. first ∷ l) is) (ap suc front_is)

pub broken_never : (output : Output) → output.finish ≡ Exit (pos 0) → IsBroken output.finish → ⊥
broken_never output ended (inl broken) = cc
broken_never output ended (inr broken) = cc

failed_never : (status : ℤ) (said : List ℕ) (output : Output) → output.finish ≡ Exit (pos 0) → HasFailed status said output → ⊥
failed_never status said output ended failed =
    let both : Exit status ≡ Exit (pos 0) = sym failed.ended ∙ ended in
    failed.other cc

pub not_ok : {A E : Type 0} (result : Result A E) → IsOk result → IsErr result → ⊥
not_ok (Ok value) ok err = cc
not_ok (Err fault) ok err = cc

listing_cause : (settings : Settings) (fault : ListingRefusal) (s t : Spawning) → IsOk (list_job_of settings) → EndsWell 0 s → HasListingCause settings fault s t → NoCause (refusal.Listing fault)
listing_cause settings listing.NoListOption s t job ends cause = ((λ three. not_ok (list_job_of settings) job cause.0), (λ child. child))
listing_cause settings listing.Spawn s t job ends cause = ((λ three. omega arith), (λ child. child))
listing_cause settings listing.Child s t job ends cause = ((λ three. omega arith), (λ child. broken_never cause.output (ends_first s t cause.job cause.output ends cause.started) cause.meets))
listing_cause settings (listing.Failed status said) s t job ends cause = ((λ three. failed_never status said cause.output (ends_first s t cause.job cause.output ends cause.started) cause.meets), (λ child. child))
listing_cause settings listing.NoMemory s t job ends cause = ((λ three. omega arith), (λ child. child))

pub listing_never : (settings : Settings) (a b : Seen Spawning) (fault : ListingRefusal) → IsOk (list_job_of settings) → IsSomeAnd a.told (EndsWell 0) → ListsTests settings a b (Err fault) → NoCause (refusal.Listing fault)
listing_never settings a b fault job ends lists = from_both a.told b.told (EndsWell 0) (HasListingCause settings fault) ends lists.refused (λ s t well cause. listing_cause settings fault s t job well cause)
