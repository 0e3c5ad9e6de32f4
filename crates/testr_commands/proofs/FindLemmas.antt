-- What the search for causes has started and said at each exit.
use Rattle.std.proofs.Common.{◌≡◌, ◌⊎◌, inl, inr, ℕ, ◌<◌, ◌≤◌, Bool, true, false, Option, None, Some, IfSome, Result, Ok, Err, List, [], ◌∷◌, ◌++◌, length, length-append, All, take, drop, take-append-drop, append_assoc, append-nil, refl, sym, ap, subst, ◌∙◌, arith}
use Rattle.std.specs.Prelude.{IsSomeAnd, slice_get}
use Rattle.std.specs.List.{filter}
use Rattle.std.specs.Io.KnownBytes.{Appends}
use Rattle.std.proofs.KnownBytes.{Appends-nil, Appends-trans}
use Rattle.edge_io.specs.Disk.{Folder}
use Rattle.edge_io.specs.Seen.{Seen}
use Rattle.edge_io.specs.Spawners.{Spawning}
use Rattle.edge_io.specs.Steps.{Goes}
use Rattle.edge_io.proofs.Going.{goes_then, goes_from, goes_weaker}
use Rattle.isolation_bisect.specs.declared.found.Found.{Found}
use Rattle.outcome_fold.specs.Answers.{row_fails}
use Rattle.outcome_fold.specs.Rows.{rows_of}
use Rattle.outcome_fold.specs.declared.row.Row.{Row}
use Rattle.packet_codec.specs.Canonical.{IsEvent, Fits}
use Rattle.packet_codec.specs.declared.event.Event.{Event}
use Rattle.run_shelf.specs.Repository.{Run, run_of, run_at, most_runs, Shows}
use Rattle.run_shelf.proofs.RunLemmas.{last_item}
use Rattle.run_shelf.proofs.ShowsLemmas.{shown}
use Rattle.suite_causes.specs.Analysis.{AreSearched, HaveLines}
use Rattle.suite_causes.specs.Lines.{cause_line}
use Rattle.suite_causes.specs.Ran.{AreRan, HasRanAt}
use Rattle.suite_causes.specs.Searching.{TestIds, IsAmong, SearchesSo, StopsSearch}
use Rattle.suite_causes.specs.Suspects.{candidates_of, ran_ids, suspects_of}
use Rattle.suite_causes.specs.declared.suspects.Suspect.{Suspect}
use Rattle.testr_conf.specs.Settings.{Settings}
use Rattle.command_steps.specs.Causes.{FindsRan, candidates_in, FindsAmong, FindsCause, FindsEach, FindsCauses}
use Rattle.testr_commands.specs.Searches.{suspects_in, SearchesThen, SearchesFirsts, SearchesSome, SearchesAll}
use Rattle.command_steps.specs.Outside.{Work}
use Rattle.command_steps.specs.Runs.{run_bytes}
use Rattle.command_steps.specs.Steps.{stops, goes_on}
use Rattle.command_steps.specs.declared.answer.Refusal.{Refusal}
use Rattle.testr_commands.proofs.ChainLemmas.{then_did, LeavesPart, then_leaves, gives_not}
use Rattle.testr_commands.proofs.DoneLaws.{appended}
use Rattle.command_steps.proofs.SoundLemmas.{shows_more}
use Rattle.testr_commands.proofs.PacketBytes.{packets_bytes}
use Rattle.command_steps.proofs.Resting.{goes_ends, stays_is}
use Rattle.testr_commands.proofs.RowsLemmas.{one_events, written}
use Rattle.command_steps.proofs.SoundLemmas.{IsCalm, KeepsRunAndCaches}

-- ---- the run that is read back

-- what is read of the run of this number is what these events tell
abbrev pub TellsEvents : (number : ℕ) → List Event → Folder → Type 0
TellsEvents number events s = (lane : ℕ) (ids : TestIds) → HasRanAt number lane ids s → ids ≡ ran_ids lane events

same_ran : (lane : ℕ) (events : List Event) (ids : TestIds) → All IsEvent events → All Fits events → AreRan lane (run_bytes events) ids → ids ≡ ran_ids lane events
same_ran lane events ids are fit ran =
    ran.ids_are ∙ ap (ran_ids lane) (one_events (run_bytes events) ran.events events (packets_bytes events are) ran.told (written events are fit))

-- the run that was kept is there
run_there : (partial : Bool) (number : ℕ) (events : List Event) (s t : Folder) → IsCalm s → KeepsRunAndCaches number (run_of partial (run_bytes events)) s t → run_at t.disk.published number ≡ Some (run_of partial (run_bytes events))
run_there partial number events s t calm kept =
    let run : Run = run_of partial (run_bytes events) in
    let before = shown s.disk.published calm.repository in
    let after : Shows t.disk.published (before.0 ++ run ∷ []) = shows_more s.disk.published t.disk.published number run before.0 kept.reads before.1 in
    let count : number ≡ length before.0 = kept.reads.beside.counts before.0 before.1 in
    let few : number < most_runs = omega (arith, count, after.few, length-append before.0 (run ∷ [])) in
    after.each number few ∙ ap (λ (n : ℕ). slice_get (before.0 ++ run ∷ []) n) count ∙ last_item before.0 run

tells_run : (partial : Bool) (number : ℕ) (events : List Event) (s t : Folder) → All IsEvent events → All Fits events → IsCalm s → KeepsRunAndCaches number (run_of partial (run_bytes events)) s t → TellsEvents number events t
tells_run partial number events s t are fit calm kept = λ lane ids ran.
    same_ran lane events ids are fit (subst (λ (o : Option Run). IsSomeAnd o (λ (r : Run). AreRan lane r.bytes ids)) (run_there partial number events s t calm kept) ran)

-- so it is behind a run that was kept, from a first moment on
pub tells_behind : (partial : Bool) (number : ℕ) (events : List Event) (a b c : Option Folder) (R : Folder → Folder → Type 0) → All IsEvent events → All Fits events → Goes a b R → IfSome b IsCalm → Goes b c (KeepsRunAndCaches number (run_of partial (run_bytes events)))
    → Goes a c (λ s t. TellsEvents number events t)
tells_behind partial number events a b c R are fit first calm kept =
    goes_then a b c R (λ s t. TellsEvents number events t) (λ s t. TellsEvents number events t) first
    (goes_from b c IsCalm (KeepsRunAndCaches number (run_of partial (run_bytes events))) (λ s t. TellsEvents number events t) calm kept (λ s t is keeps. tells_run partial number events s t are fit is keeps))
    (λ s m t r tells. tells)

-- ---- what the steps leave

abbrev pub folder_told : Work → Option Folder
folder_told w = w.folder.told

among_still : (settings : Settings) (test : List ℕ) (candidates : TestIds) → LeavesPart (λ (w : Work). w.folder) (FindsAmong settings test candidates)
among_still settings test candidates =
    then_leaves (λ (w : Work). w.folder) (λ a b r s i. (s.rest i).folder) (λ found.
    then_leaves (λ (w : Work). w.folder) (λ a b r s i. (s.rest i).folder) (λ _ a b r s i.
    (s.same i).folder))

pub cause_still : (settings : Settings) (number : ℕ) (one : Suspect) → LeavesPart folder_told (FindsCause settings number one)
cause_still settings number one =
    then_leaves folder_told (λ a b r s. stays_is a.folder.told b.folder.told s.at.same) (λ ids a b r s i. (among_still settings one.id (candidates_in one.id ids) a b r s i).told)

each_still : (settings : Settings) (number : ℕ) (left : List Suspect) → LeavesPart folder_told (FindsEach settings number left)
each_still settings number [] = λ a b r s i. (s.same i).folder.told
each_still settings number (one ∷ more) = then_leaves folder_told (cause_still settings number one) (λ _. each_still settings number more)

pub causes_still : (asked : Bool) (settings : Settings) (number : ℕ) (rows : List Row) → LeavesPart folder_told (FindsCauses asked settings number rows)
causes_still false settings number rows = λ a b r s i. (s.same i).folder.told
causes_still true settings number rows = then_leaves folder_told (λ a b r s i. (s.same i).folder.told) (λ suspects. each_still settings number suspects)

abbrev pub input_seen : Work → Seen (List ℕ)
input_seen w = w.input

cause_input : (settings : Settings) (number : ℕ) (one : Suspect) → LeavesPart input_seen (FindsCause settings number one)
cause_input settings number one =
    then_leaves input_seen (λ a b r s i. (s.rest i).input) (λ ids.
    then_leaves input_seen (λ a b r s i. (s.rest i).input) (λ found.
    then_leaves input_seen (λ a b r s i. (s.rest i).input) (λ _ a b r s i.
    (s.same i).input)))

each_input : (settings : Settings) (number : ℕ) (left : List Suspect) → LeavesPart input_seen (FindsEach settings number left)
each_input settings number [] = λ a b r s i. (s.same i).input
each_input settings number (one ∷ more) = then_leaves input_seen (cause_input settings number one) (λ _. each_input settings number more)

pub causes_input : (asked : Bool) (settings : Settings) (number : ℕ) (rows : List Row) → LeavesPart input_seen (FindsCauses asked settings number rows)
causes_input false settings number rows = λ a b r s i. (s.same i).input
causes_input true settings number rows = then_leaves input_seen (λ a b r s i. (s.same i).input) (λ suspects. each_input settings number suspects)

-- ---- nothing more

goes_where : {S : Type 0} (a b : Option S) (R : S → S → Type 0) → b ≡ a → ((s : S) → R s s) → Goes a b R
goes_where None None R same each = tt
goes_where None (Some t) R same each = cc
goes_where (Some s) None R same each = cc
goes_where (Some s) (Some t) R same each =
    let is : s ≡ t = cc in
    subst (R s) is (each s)

appends_none : (a b : Option (List ℕ)) → b ≡ a → Appends a b []
appends_none a b same = subst (λ (o : Option (List ℕ)). Appends a o []) (sym same) (Appends-nil a)

-- ---- a part of the lines

-- the output took a first part of the lines
pub record TakesPart (lines : List ℕ) (old new : Option (List ℕ)) : Type 0 where
  pub part : List ℕ
  pub rest : List ℕ
  pub lines_are : lines ≡ part ++ rest
  pub printed : Appends old new part

-- ---- where the folder is told

module _ (settings : Settings) (number : ℕ) (events : List Event) (s : Folder) (tells : TellsEvents number events s) where
  abbrev pub before_of : Suspect → TestIds
  before_of one = candidates_of one.id one.lane events

  abbrev pub line_of_cause : Suspect → Found → List ℕ
  line_of_cause one found = cause_line one.id (before_of one) found

  pub ids_so : (one : Suspect) (a k b : Work) (ids : TestIds) (result : Result (Unit {0}) Refusal) → a.folder.told ≡ Some s → FindsRan number one.lane a.folder k.folder (Ok ids) → FindsAmong settings one.id (candidates_in one.id ids) k b result → FindsAmong settings one.id (before_of one) k b result
  ids_so one a k b ids result told finds among =
      let ids_are : ids ≡ ran_ids one.lane events = tells one.lane ids (subst (λ (o : Option Folder). IfSome o (HasRanAt number one.lane ids)) told finds.ids) in
      subst (λ (l : TestIds). FindsAmong settings one.id (candidates_in one.id l) k b result) ids_are among

  -- the test was searched, and its line was printed
  pub record SearchedOne (one : Suspect) (a b : Work) : Type 0 where
    pub found : Found
    pub among : IsAmong (before_of one) found
    pub searched : Goes a.spawner.told b.spawner.told (SearchesSo settings (before_of one) one.id found)
    pub printed : Appends a.out.told b.out.told (line_of_cause one found)

  pub cause_did : (one : Suspect) (a b : Work) (v : Unit {0}) → a.folder.told ≡ Some s → FindsCause settings number one a b (Ok v) → SearchedOne one a b
  cause_did one a b v told finds =
      let ran = then_did v finds in
      let searched = then_did v (ids_so one a ran.between b ran.value (Ok v) told ran.done.at ran.next) in
      let printed = then_did v searched.next in
      let gives = printed.next in
      record {
        found = searched.value;
        among = searched.done.at.among;
        searched = goes_ends (SearchesSo settings (before_of one) one.id searched.value) (λ i. (ran.done.rest i).spawner.told)
            (sym ((λ i. (gives.same i).spawner.told) ∙ (λ i. (printed.done.rest i).spawner.told))) searched.done.at.found;
        printed = appended {z = printed.between.out.told} ((λ i. (searched.done.rest i).out.told) ∙ (λ i. (ran.done.rest i).out.told)) (λ i. (sym gives.same i).out.told) refl printed.done.at.whole;
      }

  -- ---- all tests

  -- the tests were searched, and their lines were printed
  pub record SearchedEach (left : List Suspect) (a b : Work) : Type 0 where
    pub lines : List ℕ
    pub have : HaveLines events left lines
    pub searched : Goes a.spawner.told b.spawner.told (AreSearched settings events left lines)
    pub printed : Appends a.out.told b.out.told lines

  each_did : (left : List Suspect) (a b : Work) (v : Unit {0}) → a.folder.told ≡ Some s → FindsEach settings number left a b (Ok v) → SearchedEach left a b
  each_did [] a b v told gives = record {
    lines = [];
    have = refl;
    searched = goes_where a.spawner.told b.spawner.told (AreSearched settings events [] []) (λ i. (gives.same i).spawner.told) (λ t. (refl, refl));
    printed = appends_none a.out.told b.out.told (λ i. (gives.same i).out.told);
  }
  each_did (one ∷ more) a b v told finds =
      let first = then_did v finds in
      let m : Work = first.between in
      let did = cause_did one a m first.value told first.done in
      let rest = each_did more m b v (cause_still settings number one a m (Ok first.value) first.done ∙ told) first.next in
      record {
        lines = line_of_cause one did.found ++ rest.lines;
        have = record { found = did.found; among = did.among; more = rest.lines; text_is = refl; rest = rest.have };
        searched = goes_then a.spawner.told m.spawner.told b.spawner.told (SearchesSo settings (before_of one) one.id did.found) (AreSearched settings events more rest.lines) (AreSearched settings events (one ∷ more) (line_of_cause one did.found ++ rest.lines)) did.searched rest.searched
            (λ x y z p q. record { found = did.found; between = y; searched = p; more = rest.lines; text_is = refl; rest = q });
        printed = Appends-trans a.out.told m.out.told b.out.told (line_of_cause one did.found) rest.lines did.printed rest.printed;
      }

  -- ---- at each exit

  record LeftEach (left : List Suspect) (a b : Work) : Type 0 where
    done : List Suspect
    more : List Suspect
    left_is : left ≡ done ++ more
    lines : List ℕ
    have : HaveLines events done lines
    asked : Goes a.spawner.told b.spawner.told (SearchesThen settings events done more lines)
    taken : TakesPart lines a.out.told b.out.told

  none_taken : (a b : Option (List ℕ)) → b ≡ a → TakesPart [] a b
  none_taken a b same = record { part = []; rest = []; lines_are = refl; printed = appends_none a b same }

  left_none : (left : List Suspect) (a b : Work) → b.spawner.told ≡ a.spawner.told → b.out.told ≡ a.out.told → LeftEach left a b
  left_none left a b spawner out = record {
    done = [];
    more = left;
    left_is = refl;
    lines = [];
    have = refl;
    asked = goes_where a.spawner.told b.spawner.told (SearchesThen settings events [] left []) spawner (λ t. record { between = t; searched = (refl, refl); ended = inl refl });
    taken = none_taken a.out.told b.out.told out;
  }

  -- the line of a test was printed in part
  line_taken : (line : List ℕ) (a b : Option (List ℕ)) (n : ℕ) → Appends a b (take n line) → TakesPart (line ++ []) a b
  line_taken line a b n printed = record { part = take n line; rest = drop n line; lines_are = append-nil line ∙ sym (take-append-drop n line); printed = printed }

  -- from the search of a test on
  among_left : (one : Suspect) (more : List Suspect) (a k b : Work) (r : Refusal) → k.spawner.told ≡ a.spawner.told → k.out.told ≡ a.out.told → FindsAmong settings one.id (before_of one) k b (Err r) → LeftEach (one ∷ more) a b
  among_left one more a k b r spawner out (stops fault is step) = record {
    done = [];
    more = one ∷ more;
    left_is = refl;
    lines = [];
    have = refl;
    asked = goes_weaker a.spawner.told b.spawner.told (StopsSearch settings (before_of one) one.id fault) (SearchesThen settings events [] (one ∷ more) [])
        (goes_ends (StopsSearch settings (before_of one) one.id fault) spawner refl step.at.refused)
        (λ x y stop. record { between = x; searched = (refl, refl); ended = inr (fault, stop) });
    taken = none_taken a.out.told b.out.told ((λ i. (step.rest i).out.told) ∙ out);
  }
  among_left one more a k b r spawner out (goes_on found l step (stops fault is printed)) = record {
    done = one ∷ [];
    more = more;
    left_is = refl;
    lines = line_of_cause one found ++ [];
    have = record { found = found; among = step.at.among; more = []; text_is = refl; rest = refl };
    asked = goes_weaker a.spawner.told b.spawner.told (SearchesSo settings (before_of one) one.id found) (SearchesThen settings events (one ∷ []) more (line_of_cause one found ++ []))
        (goes_ends (SearchesSo settings (before_of one) one.id found) spawner (sym (λ i. (printed.rest i).spawner.told)) step.at.found)
        (λ x y so. record { between = y; searched = record { found = found; between = y; searched = so; more = []; text_is = refl; rest = (refl, refl) }; ended = inl refl });
    taken = line_taken (line_of_cause one found) a.out.told b.out.told printed.at.prefix.0
        (subst (λ (o : Option (List ℕ)). Appends o b.out.told (take printed.at.prefix.0 (line_of_cause one found))) ((λ i. (step.rest i).out.told) ∙ out) printed.at.prefix.2);
  }
  among_left one more a k b r spawner out (goes_on found l step (goes_on _ p printed gives)) = absurd (gives_not p b r gives)

  cause_left : (one : Suspect) (more : List Suspect) (a b : Work) (r : Refusal) → a.folder.told ≡ Some s → FindsCause settings number one a b (Err r) → LeftEach (one ∷ more) a b
  cause_left one more a b r told (stops fault is step) = left_none (one ∷ more) a b (λ i. (step.rest i).spawner.told) (λ i. (step.rest i).out.told)
  cause_left one more a b r told (goes_on ids k ran next) =
      among_left one more a k b r (λ i. (ran.rest i).spawner.told) (λ i. (ran.rest i).out.told) (ids_so one a k b ids (Err r) told ran.at next)

  -- one test more before the others
  then_left : (one : Suspect) (more : List Suspect) (a m b : Work) → SearchedOne one a m → LeftEach more m b → LeftEach (one ∷ more) a b
  then_left one more a m b did rest =
      let line : List ℕ = line_of_cause one did.found in
      record {
        done = one ∷ rest.done;
        more = rest.more;
        left_is = ap (λ (l : List Suspect). one ∷ l) rest.left_is;
        lines = line ++ rest.lines;
        have = record { found = did.found; among = did.among; more = rest.lines; text_is = refl; rest = rest.have };
        asked = goes_then a.spawner.told m.spawner.told b.spawner.told (SearchesSo settings (before_of one) one.id did.found) (SearchesThen settings events rest.done rest.more rest.lines) (SearchesThen settings events (one ∷ rest.done) rest.more (line ++ rest.lines)) did.searched rest.asked
            (λ x y z p q. record { between = q.between; searched = record { found = did.found; between = y; searched = p; more = rest.lines; text_is = refl; rest = q.searched }; ended = q.ended });
        taken = record {
          part = line ++ rest.taken.part;
          rest = rest.taken.rest;
          lines_are = ap (λ (l : List ℕ). line ++ l) rest.taken.lines_are ∙ sym (append_assoc line rest.taken.part rest.taken.rest);
          printed = Appends-trans a.out.told m.out.told b.out.told line rest.taken.part did.printed rest.taken.printed;
        };
      }

  each_left : (left : List Suspect) (a b : Work) (result : Result (Unit {0}) Refusal) → a.folder.told ≡ Some s → FindsEach settings number left a b result → LeftEach left a b
  each_left [] a b result told gives = left_none [] a b (λ i. (gives.same i).spawner.told) (λ i. (gives.same i).out.told)
  each_left (one ∷ more) a b result told (stops fault is step) = cause_left one more a b fault told step
  each_left (one ∷ more) a b result told (goes_on v m step next) =
      then_left one more a m b (cause_did one a m v told step) (each_left more m b result (cause_still settings number one a m (Ok v) step ∙ told) next)

-- ---- what is known at each exit

pub so_told : {S : Type 0} (o : Option S) (X : Type 0) → X → IfSome o (λ _. X)
so_told None X is = tt
so_told (Some s) X is = is

-- nothing was searched, and nothing said
pub none_searched : (asked : Bool) (settings : Settings) (events : List Event) (folder : Option Folder) (a b : Option Spawning) → b ≡ a → SearchesSome asked settings events [] folder a b
none_searched false settings events folder a b same = (same, refl)
none_searched true settings events folder a b same = so_told folder (SearchesFirsts settings events [] a b) (record {
  done = [];
  left = suspects_in events;
  suspects_are = refl;
  have = refl;
  asked = goes_where a b (SearchesThen settings events [] (suspects_in events) []) same (λ t. record { between = t; searched = (refl, refl); ended = inl refl });
})

-- the tests of the run's rows
module _ (events : List Event) (rows : List Row) (suspects : List Suspect) (rows_are : rows ≡ rows_of events) (are : suspects ≡ suspects_of (filter row_fails rows)) where
  pub suspects_are : suspects ≡ suspects_in events
  suspects_are = are ∙ ap (λ (l : List Row). suspects_of (filter row_fails l)) rows_are

-- the lines and the probes, where the search was left
pub record Left (asked : Bool) (settings : Settings) (events : List Event) (folder : Option Folder) (a b : Work) : Type 0 where
  pub lines : List ℕ
  pub probed : SearchesSome asked settings events lines folder a.spawner.told b.spawner.told
  pub taken : IfSome folder (λ _. TakesPart lines a.out.told b.out.told)

module _ (settings : Settings) (number : ℕ) (events : List Event) (a b : Work) where
  left_of : (suspects : List Suspect) (result : Result (Unit {0}) Refusal) → suspects ≡ suspects_in events → FindsEach settings number suspects a b result → (o p : Option Folder) → a.folder.told ≡ p → Goes o p (λ s t. TellsEvents number events t) → Left true settings events o a b
  left_of suspects result are finds None p is tells = record { lines = []; probed = tt; taken = tt }
  left_of suspects result are finds (Some s) None is tells = absurd tells
  left_of suspects result are finds (Some s) (Some t) is tells =
      let each = each_left settings number events t tells suspects a b result is finds in
      record {
        lines = each.lines;
        probed = record { done = each.done; left = each.more; suspects_are = sym are ∙ each.left_is; have = each.have; asked = each.asked };
        taken = each.taken;
      }

  no_left : (asked : Bool) (folder : Option Folder) → b ≡ a → Left asked settings events folder a b
  no_left asked folder same = record {
    lines = [];
    probed = none_searched asked settings events folder a.spawner.told b.spawner.told (λ i. (same i).spawner.told);
    taken = so_told folder (TakesPart [] a.out.told b.out.told) (record { part = []; rest = []; lines_are = refl; printed = appends_none a.out.told b.out.told (λ i. (same i).out.told) });
  }

  pub causes_left : (asked : Bool) (rows : List Row) (result : Result (Unit {0}) Refusal) (folder : Option Folder) → rows ≡ rows_of events → Goes folder a.folder.told (λ s t. TellsEvents number events t) → FindsCauses asked settings number rows a b result → Left asked settings events folder a b
  causes_left false rows result folder rows_are tells gives = no_left false folder gives.same
  causes_left true rows result folder rows_are tells (stops fault is step) = no_left true folder step.same
  causes_left true rows result folder rows_are tells (goes_on suspects m step next) =
      left_of suspects result (suspects_are events rows suspects rows_are step.says.suspects) (subst (λ (w : Work). FindsEach settings number suspects w b result) step.same next) folder a.folder.told refl tells

-- ---- what is known where it was done

pub record FoundAll (asked : Bool) (settings : Settings) (events : List Event) (folder : Option Folder) (a b : Work) : Type 0 where
  pub lines : List ℕ
  pub found : SearchesAll asked settings events lines folder a.spawner.told b.spawner.told
  pub printed : IfSome folder (λ _. Appends a.out.told b.out.told lines)

module _ (settings : Settings) (number : ℕ) (events : List Event) (a b : Work) (v : Unit {0}) where
  found_of : (suspects : List Suspect) → suspects ≡ suspects_in events → FindsEach settings number suspects a b (Ok v) → (o p : Option Folder) → a.folder.told ≡ p → Goes o p (λ s t. TellsEvents number events t) → FoundAll true settings events o a b
  found_of suspects are finds None p is tells = record { lines = []; found = tt; printed = tt }
  found_of suspects are finds (Some s) None is tells = absurd tells
  found_of suspects are finds (Some s) (Some t) is tells =
      let each = each_did settings number events t tells suspects a b v is finds in
      record {
        lines = each.lines;
        found = record {
          have = subst (λ (l : List Suspect). HaveLines events l each.lines) are each.have;
          asked = subst (λ (l : List Suspect). Goes a.spawner.told b.spawner.told (AreSearched settings events l each.lines)) are each.searched;
        };
        printed = each.printed;
      }

  pub causes_did : (asked : Bool) (rows : List Row) (folder : Option Folder) → rows ≡ rows_of events → Goes folder a.folder.told (λ s t. TellsEvents number events t) → FindsCauses asked settings number rows a b (Ok v) → FoundAll asked settings events folder a b
  causes_did false rows folder rows_are tells gives = record {
    lines = [];
    found = ((λ i. (gives.same i).spawner.told), refl);
    printed = so_told folder (Appends a.out.told b.out.told []) (appends_none a.out.told b.out.told (λ i. (gives.same i).out.told));
  }
  causes_did true rows folder rows_are tells (stops fault is step) = cc
  causes_did true rows folder rows_are tells (goes_on suspects m step next) =
      found_of suspects (suspects_are events rows suspects rows_are step.says.suspects) (subst (λ (w : Work). FindsEach settings number suspects w b (Ok v)) step.same next) folder a.folder.told refl tells

-- where all were searched, some were
pub all_some : (asked : Bool) (settings : Settings) (events : List Event) (lines : List ℕ) (folder : Option Folder) (a b : Option Spawning) → SearchesAll asked settings events lines folder a b → SearchesSome asked settings events lines folder a b
all_some false settings events lines folder a b all = all
all_some true settings events lines None a b all = tt
all_some true settings events lines (Some s) a b all = record {
  done = suspects_in events;
  left = [];
  suspects_are = sym (append-nil (suspects_in events));
  have = all.have;
  asked = goes_weaker a b (AreSearched settings events (suspects_in events) lines) (SearchesThen settings events (suspects_in events) [] lines) all.asked (λ x y searched. record { between = y; searched = searched; ended = inl refl });
}
