-- How many calls of the folder a run makes, one step after another.
use Rattle.std.proofs.Common.{◌≡◌, ℕ, ◌+◌, ◌-◌, ◌≤◌, Bool, true, false, Option, None, Some, Result, Ok, Err, List, [], ◌∷◌, length, refl, sym, ap, subst, ◌∙◌, arith}
use Rattle.std.specs.Prelude.{IsErrAnd, option_map, nat_le, if◌then◌else◌}
use Rattle.std.proofs.lemmas.List.{length-map}
use Rattle.edge_io.specs.Disk.{Files, Folder}
use Rattle.edge_io.specs.Steps.{Goes, Stays}
use Rattle.edge_io.proofs.Going.{goes_then, goes_weaker}
use Rattle.outcome_fold.specs.declared.row.Row.{Row}
use Rattle.packet_codec.specs.declared.event.Event.{Event}
use Rattle.run_ledger.specs.Cached.{ReadsSound}
use Rattle.run_ledger.specs.Caches.{IsSound}
use Rattle.run_ledger.specs.Refreshing.{HoldBoth}
use Rattle.run_shelf.specs.Looking.{base_calls}
use Rattle.run_shelf.specs.Outcomes.{Surveys, TicksUpTo}
use Rattle.run_shelf.specs.Repository.{Run, Shows}
use Rattle.run_shelf.specs.Sides.{cache_file_name}
use Rattle.run_shelf.specs.declared.cache_file.CacheFile.TheVariants.{Failing, Times}
use Rattle.run_shelf.proofs.ShowsLemmas.{kinds_of_runs}
use Rattle.command_steps.specs.Refusals.{refusal_exit_status, exit_status}
use Rattle.command_steps.specs.Causes.{candidates_in, FindsAmong, FindsEach, FindsCauses}
use Rattle.testr_commands.specs.RunSuite.{TellsRun, TellsAndFinds}
use Rattle.suite_causes.specs.declared.cause_search.SearchFault.{SearchFault}
use Rattle.suite_causes.specs.declared.cause_search.SearchFault.TheVariants as search_fault
use Rattle.suite_causes.specs.declared.suspects.Suspect.{Suspect}
use Rattle.testr_conf.specs.Settings.{Settings}
use Rattle.command_steps.specs.Runs.{KeepsFiles, AddsRun}
use Rattle.testr_words.specs.Drawings.{drawing_of}
use Rattle.command_steps.specs.Outside.{Work}
use Rattle.testr_commands.specs.SparingRun.{RunsByFew, SparesRunOf, SparesRun}
use Rattle.command_steps.specs.Calls.{IsCoveredTo, IsCovered, AsksByFew, StoresByFew}
use Rattle.command_steps.specs.Steps.{stops, goes_on}
use Rattle.testr_words.specs.Suites.{RunOptions, is_partial, load_options}
use Rattle.testr_words.specs.Tasks.{Task, load, run, selftest, task_with}
use Rattle.testr_words.specs.Words.{face_word, asked_by, forced_by, streamed_by}
use Rattle.testr_words.specs.declared.command.Face.{Face}
use Rattle.testr_words.proofs.WordsLemmas.{same_face}
use Rattle.command_steps.specs.declared.answer.Refusal.{Refusal}
use Rattle.command_steps.specs.declared.answer.Refusal.TheVariants.{Usage, Print, Suspects, Ran, Search}
use Rattle.command_steps.specs.declared.question_answers.TellFault.{TellFault}
use Rattle.command_steps.specs.declared.question_answers.TellFault.TheVariants as tell_fault
use Rattle.command_steps.specs.declared.answer.Verdict.{Verdict}
use Rattle.command_steps.specs.declared.answer.Verdict.TheVariants.{Passed, Failed}
use Rattle.testr_words.specs.declared.command.Command.{Command}
use Rattle.testr_words.specs.declared.selftest_words.SelfTestWords.{SelfTestWords}
use Rattle.testr_words.specs.declared.command.Verb.{Verb}
use Rattle.testr_words.specs.declared.command.Verb.TheVariants as verb
use Rattle.testr_commands.proofs.ChainLemmas.{gives_not}
use Rattle.testr_commands.proofs.RefusalLemmas.{codes}
use Rattle.command_steps.proofs.StepCalls.{still_covered}
use Rattle.testr_words.specs.declared.format.FormatKind.{FormatKind}

stays_then : (a b c : Option Folder) → Goes a b Stays → Goes b c Stays → Goes a c Stays
stays_then a b c first second = goes_then a b c Stays Stays Stays first second (λ s m t p q. q ∙ p)

pub asks_then : (number i j : ℕ) (a b c : Option Folder) (x y z : ℕ) → AsksByFew number i a b x y → AsksByFew number j b c y z → AsksByFew number (i + j) a c x z
asks_then number i j a b c x y z first second = record {
  same = stays_then a b c first.same second.same;
  few = λ covered. omega (arith, first.few covered, second.few (still_covered number a b first.same covered));
}

-- none has 0 or 1
some_code : (r : Refusal) → 2 ≤ refusal_exit_status r
some_code (Usage fault) = omega arith
some_code r = omega (arith, (codes r tt).least)

pub refused : (result : Result Verdict Refusal) (refusal : Refusal) → IsErrAnd result (λ given. given ≡ refusal) → exit_status result ≤ 1 → ⊥
refused (Ok verdict) refusal is small = is
refused (Err given) refusal is small = omega (arith, small, some_code given)

pub told_refused : (refusal : Refusal) (answer : ℕ) → answer ≡ refusal_exit_status refusal → answer ≤ 1 → ⊥
told_refused refusal answer is small = omega (arith, is, small, some_code refusal)

pub refused_so : (result : Result Verdict Refusal) (refusal : Refusal) → IsErrAnd result (λ given. given ≡ refusal) → (refusal_exit_status refusal ≡ 3 → ⊥) → exit_status result ≡ 3 → ⊥
refused_so (Ok verdict) refusal is other three = is
refused_so (Err given) refusal is other three = other (ap refusal_exit_status (sym is) ∙ three)

-- what tells of a run that is kept is no refusal of 3
done_other : (verdict : Verdict) → exit_status (Ok verdict) ≡ 3 → ⊥
done_other Passed three = omega (arith, three)
done_other Failed three = omega (arith, three)

pub tells_other : (format : FormatKind) (number : ℕ) (filter_tags : List (List ℕ)) (rows : List Row) (a b : Work) (result : Result Verdict Refusal) → TellsRun format number filter_tags rows a b result → exit_status result ≡ 3 → ⊥
tells_other format number filter_tags rows a b result (stops fault is says) three = omega (arith, ap exit_status is, three)
tells_other format number filter_tags rows a b result (goes_on report m says (stops fault is prints)) three = omega (arith, ap exit_status is, three)
tells_other format number filter_tags rows a b result (goes_on report m says (goes_on unit n prints gives)) three = done_other report.verdict (ap exit_status (sym gives.answer) ∙ three)

-- so is what the search for causes tells behind that
search_other : (fault : SearchFault) → refusal_exit_status (Search fault) ≡ 3 → ⊥
search_other search_fault.Spawn three = omega (arith, three)
search_other search_fault.Child three = omega (arith, three)
search_other search_fault.NoMemory three = omega (arith, three)

ran_other : (fault : TellFault) → refusal_exit_status (Ran fault) ≡ 3 → ⊥
ran_other tell_fault.Shelf three = omega (arith, three)
ran_other tell_fault.NoMemory three = omega (arith, three)

-- a refusal of another status, by the name of its step
named_other : {T : Type 0} (named r : Refusal) → ◌≡◌ {A = Result T Refusal} (Err r) (Err named) → (refusal_exit_status named ≡ 3 → ⊥) → refusal_exit_status r ≡ 3 → ⊥
named_other named r is other three =
    let same : r ≡ named = cc in
    other (ap refusal_exit_status (sym same) ∙ three)

among_other : (settings : Settings) (test : List ℕ) (candidates : List (List ℕ)) (a b : Work) (r : Refusal) → FindsAmong settings test candidates a b (Err r) → refusal_exit_status r ≡ 3 → ⊥
among_other settings test candidates a b r (stops fault is step) = named_other (Search fault) r is (search_other fault)
among_other settings test candidates a b r (goes_on found m step (stops fault is prints)) = named_other (Print fault) r is (λ three. omega (arith, three))
among_other settings test candidates a b r (goes_on found m step (goes_on none k prints gives)) = λ three. gives_not k b r gives

each_other : (settings : Settings) (number : ℕ) (left : List Suspect) (a b : Work) (r : Refusal) → FindsEach settings number left a b (Err r) → refusal_exit_status r ≡ 3 → ⊥
each_other settings number [] a b r gives = λ three. gives_not a b r gives
each_other settings number (one ∷ more) a b r (stops fault is (stops why ran_is step)) = named_other fault r is (named_other (Ran why) fault ran_is (ran_other why))
each_other settings number (one ∷ more) a b r (stops fault is (goes_on ids m step next)) = named_other fault r is (among_other settings one.id (candidates_in one.id ids) m b fault next)
each_other settings number (one ∷ more) a b r (goes_on none m step next) = each_other settings number more m b r next

causes_other : (asked : Bool) (settings : Settings) (number : ℕ) (rows : List Row) (a b : Work) (r : Refusal) → FindsCauses asked settings number rows a b (Err r) → refusal_exit_status r ≡ 3 → ⊥
causes_other false settings number rows a b r gives = λ three. gives_not a b r gives
causes_other true settings number rows a b r (stops fault is step) = named_other (Suspects fault) r is (λ three. omega (arith, three))
causes_other true settings number rows a b r (goes_on suspects m step next) = each_other settings number suspects m b r next

pub finds_other : (format : FormatKind) (asked : Bool) (settings : Settings) (number : ℕ) (rows : List Row) (a b : Work) (result : Result Verdict Refusal) → TellsAndFinds format asked settings number rows a b result → exit_status result ≡ 3 → ⊥
finds_other format asked settings number rows a b result (stops fault is tells) three = tells_other format number settings.filter_tags rows a b (Err fault) tells (ap exit_status (sym is) ∙ three)
finds_other format asked settings number rows a b result (goes_on verdict m tells (stops fault is finds)) three = causes_other asked settings number rows m b fault finds (ap exit_status (sym is) ∙ three)
finds_other format asked settings number rows a b result (goes_on verdict m tells (goes_on none k finds ends)) three = done_other verdict (ap exit_status (sym ends.answer) ∙ three)

-- ---- the whole run

-- it was refused before a worker was started
by_eight : (find partial : Bool) (old new : Option Folder) (answer before now : ℕ) → (answer ≤ 1 → ⊥) → TicksUpTo (8 + base_calls old) before now → RunsByFew find partial old new answer before now
by_eight find partial old new answer before now other few = record { done = λ small quiet. absurd (other small); refused = λ three. few }

pub early : (find partial : Bool) (old new : Option Folder) (answer before now : ℕ) → (answer ≤ 1 → ⊥) → TicksUpTo (8 + base_calls old) before now → SparesRunOf find partial old new answer before now
early find partial None new answer before now other few = tt
early find partial (Some s) new answer before now other few = λ sound runs shows held. by_eight find partial (Some s) new answer before now other few

adds_before : (partial : Bool) (events : List Event) (a b c : Option Folder) → Goes a b KeepsFiles → Goes b c (AddsRun partial events) → Goes a c (AddsRun partial events)
adds_before partial events a b c keeps adds = goes_then a b c KeepsFiles (AddsRun partial events) (AddsRun partial events) keeps adds (λ s m t same more runs shows. more runs (subst (λ (files : Files). Shows files runs) (sym same) shows))

-- behind the look at the folder
module _ (kinds : List Bool) (find partial : Bool) (old opened : Option Folder) (before middle : ℕ) (survey : Goes old opened (Surveys kinds)) (four : TicksUpTo (4 + base_calls old) before middle) where
  covers : (s t : Folder) → Surveys kinds s t → ReadsSound s → (runs : List Run) → Shows s.disk.published runs → HoldBoth (length runs) s → IsCoveredTo (length kinds) t
  covers s t looked sound runs shows held =
      let same : t.disk.published ≡ s.disk.published = ap (λ (f : Folder). f.disk.published) looked.settled in
      let shown_here : Shows t.disk.published runs = subst (λ (files : Files). Shows files runs) (sym same) shows in
      let count : length runs ≡ length kinds = sym (ap length (kinds_of_runs t.disk.published runs kinds shown_here looked.fits.kinds_are) ∙ length-map runs (λ (run : Run). run.partial)) in
      let so : HoldBoth (length kinds) s = subst (λ (n : ℕ). HoldBoth n s) count held in
      record {
        sound = subst IsSound (sym same) sound;
        held = record {
          ids = so.ids;
          failing = record { bytes = so.failing.bytes; file = ap (λ (files : Files). files (cache_file_name Failing)) same ∙ so.failing.file; form = so.failing.form };
          times = so.times;
          timed = record { bytes = so.timed.bytes; file = ap (λ (files : Files). files (cache_file_name Times)) same ∙ so.timed.file; form = so.timed.form };
        };
      }

  behind : (new : Option Folder) (answer now : ℕ) → (IsCovered (length kinds) opened → RunsByFew find partial old new answer before now) → SparesRunOf find partial old new answer before now
  behind new answer now few = by old opened survey few
    where
      by : (a b : Option Folder) → Goes a b (Surveys kinds) → (IsCovered (length kinds) b → RunsByFew find partial a new answer before now) → SparesRunOf find partial a new answer before now
      by None b looked f = tt
      by (Some s) None looked f = absurd looked
      by (Some s) (Some t) looked f = λ sound runs shows held. f (covers s t looked sound runs shows held)

  -- it asked, and was refused
  pub asked_first : (calls : ℕ) (asked new : Option Folder) (answer now : ℕ) → calls ≤ 4 → AsksByFew (length kinds) calls opened asked middle now → (answer ≤ 1 → ⊥) → SparesRunOf find partial old new answer before now
  asked_first calls asked new answer now most asks other = behind new answer now (λ covered. by_eight find partial old new answer before now other (omega (arith, most, four, asks.few covered)))

  -- it was refused behind that, with another status
  pub refused_later : (new : Option Folder) (answer now : ℕ) → (answer ≤ 1 → ⊥) → (answer ≡ 3 → ⊥) → SparesRunOf find partial old new answer before now
  refused_later new answer now small three = behind new answer now (λ covered. record { done = λ is quiet. absurd (small is); refused = λ is. absurd (three is) })

  -- its run was stored, and where that is said nothing was called behind it
  pub stored_later : (given : Bool) (asked kept new : Option Folder) (answer now end last : ℕ) → given ≡ partial → AsksByFew (length kinds) 4 opened asked middle now → (IsCovered (length kinds) asked → StoresByFew 18 given asked kept now end)
      → (answer ≤ 1 → (find ≡ true → answer ≡ 0) → (new ≡ kept) × (last ≡ end)) → (answer ≡ 3 → ⊥) → SparesRunOf find partial old new answer before last
  stored_later given asked kept new answer now end last is asks stores still other = behind new answer last (λ covered.
      let stored : StoresByFew 18 partial asked kept now end = subst (λ (p : Bool). StoresByFew 18 p asked kept now end) is (stores (still_covered (length kinds) opened asked asks.same covered)) in
      let to_opened : Goes old opened KeepsFiles = goes_weaker old opened (Surveys kinds) KeepsFiles survey (λ s t looked. ap (λ (f : Folder). f.disk.published) looked.settled) in
      let to_asked : Goes old asked KeepsFiles = goes_then old opened asked KeepsFiles Stays KeepsFiles to_opened asks.same (λ s m t p q. ap (λ (f : Folder). f.disk.published) q ∙ p) in
      let added : Goes old kept (AddsRun partial stored.events) = adds_before partial stored.events old asked kept to_asked stored.stored in
      record {
        done = λ small quiet. record {
          events = stored.events;
          are_events = stored.are_events;
          fit = stored.fit;
          stored = subst (λ (o : Option Folder). Goes old o (AddsRun partial stored.events)) (sym (still small quiet).0) added;
          few = omega (arith, four, asks.few covered, stored.few, (still small quiet).1);
        };
        refused = λ three. absurd (other three);
      })

-- ---- the command

-- the status of an outcome
pub as_told : (find partial : Bool) (old new : Option Folder) (answer given before now : ℕ) → answer ≡ given → SparesRunOf find partial old new given before now → SparesRunOf find partial old new answer before now
as_told find partial old new answer given before now is spares = subst (λ (n : ℕ). SparesRunOf find partial old new n before now) (sym is) spares

same_options : (given options : RunOptions) → Some (run given) ≡ Some (run options) → given ≡ options
same_options given options is = cc

pub of_options : (given : RunOptions) (old new : Option Folder) (answer before now : ℕ) → SparesRunOf given.find_causes (is_partial given) old new answer before now → SparesRun (Some (run given)) old new answer before now
of_options given old new answer before now spares = λ options is. subst (λ (o : RunOptions). SparesRunOf o.find_causes (is_partial o) old new answer before now) (same_options given options is) spares

-- no call, and nothing done
pub none_made : (asked : Option Task) (old new : Option Folder) (answer before now : ℕ) → (answer ≤ 1 → ⊥) → now ≡ before → SparesRun asked old new answer before now
none_made asked old new answer before now other same = λ options is. early options.find_causes (is_partial options) old new answer before now other (omega (arith, same))

no_load : (few : Bool) (c : Command) (options : RunOptions) → (if few then Some (load (load_options c) c.names) else None) ≡ Some (run options) → ⊥
no_load true c options is = cc
no_load false c options is = cc

no_drawn : (drawn : Option SelfTestWords) (options : RunOptions) → option_map selftest drawn ≡ Some (run options) → ⊥
no_drawn None options is = cc
no_drawn (Some drawing) options is = cc

no_run : (folder : List ℕ) (v : Verb) (c : Command) (options : RunOptions) → (v ≡ verb.Run → ⊥) → task_with folder v c ≡ Some (run options) → ⊥
no_run folder verb.Run c options other is = other refl
no_run folder verb.Load c options other is = no_load (nat_le (length c.names) 64) c options is
no_run folder verb.SelfTest c options other is = no_drawn (drawing_of c) options is
no_run folder v c options other is = cc

pub of_other : (folder : List ℕ) (v : Verb) (c : Command) (old new : Option Folder) (answer before now : ℕ) → (v ≡ verb.Run → ⊥) → SparesRun (task_with folder v c) old new answer before now
of_other folder v c old new answer before now other = λ options is. absurd (no_run folder v c options other is)

pub lists_not : (v : Verb) → v ≡ verb.ListTests → v ≡ verb.Run → ⊥
lists_not v lists runs = cc

pub draws_not : (v : Verb) → v ≡ verb.SelfTest → v ≡ verb.Run → ⊥
draws_not v draws runs = cc

pub lists_no_load : (v : Verb) → v ≡ verb.ListTests → v ≡ verb.Load → ⊥
lists_no_load v lists loads = cc

pub draws_no_load : (v : Verb) → v ≡ verb.SelfTest → v ≡ verb.Load → ⊥
draws_no_load v draws loads = cc

pub never_both : (force : Bool) → force ≡ true → force ≡ false → ⊥
never_both force forced plain = cc

pub of_asked : {asked read : Option Task} → asked ≡ read → (old new : Option Folder) (answer before now : ℕ) → SparesRun asked old new answer before now → SparesRun read old new answer before now
of_asked is old new answer before now spares = subst (λ (o : Option Task). SparesRun o old new answer before now) is spares

-- the words behind the same name
pub of_words : (folder : List ℕ) (face given : Face) (rest behind : List (List ℕ)) (old new : Option Folder) (answer before now : ℕ) → face_word face ∷ rest ≡ face_word given ∷ behind → (forced_by folder face rest ≡ false → streamed_by folder face rest ≡ false → SparesRun (asked_by folder face rest) old new answer before now) → forced_by folder given behind ≡ false → streamed_by folder given behind ≡ false → SparesRun (asked_by folder given behind) old new answer before now
of_words folder face given rest behind old new answer before now is spares =
    let same : rest ≡ behind = cc in
    subst (λ (f : Face). forced_by folder f behind ≡ false → streamed_by folder f behind ≡ false → SparesRun (asked_by folder f behind) old new answer before now) (same_face face given rest behind is)
    (subst (λ (l : List (List ℕ)). forced_by folder face l ≡ false → streamed_by folder face l ≡ false → SparesRun (asked_by folder face l) old new answer before now) same spares)
