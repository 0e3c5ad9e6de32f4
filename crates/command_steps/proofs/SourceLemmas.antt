-- What is said of sources, as they are recorded.
use Rattle.std.proofs.Common.{◌≡◌, ◌⊎◌, ℕ, false, Option, List, [], ◌∷◌, ◌++◌, All, length, Result, Ok, Err, refl, sym, ap, ◌∙◌, subst}
use Rattle.std.specs.Prelude.{IfOk, IfErr, IsErrAnd}
use Rattle.std.proofs.lemmas.List.Concat.{flat_map-append}
use Rattle.std.proofs.lemmas.List.Elements.{All-nil, All-append}
use Rattle.edge_io.specs.Disk.{Files, Folder}
use Rattle.edge_io.specs.Seen.{Seen}
use Rattle.edge_io.specs.Spawners.{Spawning}
use Rattle.edge_io.specs.Steps.{Goes, Grown}
use Rattle.live_text.specs.Live.{live_so_far, live_end, rows_done}
use Rattle.outcome_fold.specs.Rows.{open_rows, rows_of}
use Rattle.outcome_fold.specs.Summed.{Sums}
use Rattle.packet_codec.specs.Canonical.{canonical, IsEvent, Fits}
use Rattle.packet_codec.specs.Lanes.{joined}
use Rattle.packet_codec.specs.Packets.{ArePacketsOf}
use Rattle.packet_codec.specs.declared.event.Event.{Event}
use Rattle.run_ledger.proofs.WrittenLemmas.{events_again}
use Rattle.run_ledger.specs.Reading.{AreRowsOf}
use Rattle.run_shelf.specs.Drafts.{SameButDraft}
use Rattle.suite_run.specs.Aloud.{ArePieces, Hears, HearsSince, SaysSince, Sinks, voices}
use Rattle.suite_run.specs.Summed.{GivesSums}
use Rattle.suite_run.specs.declared.run_listener.Echo.{Echo}
use Rattle.suite_run.specs.declared.run_listener.Shown.{Shown}
use Rattle.suite_run.specs.declared.lines.Hearing.{Hearing}
use Rattle.command_steps.specs.Files.{RecordsSources, HearsSources, summary_of}
use Rattle.command_steps.specs.Hearing.{AnswersRecording, ClosesRecording, HasHeard, HearsMore, StopsHearing}
use Rattle.command_steps.specs.Outside.{filed, work}
use Rattle.command_steps.specs.Runs.{run_bytes}
use Rattle.command_steps.specs.Speaking.{SaysPart, WritesAloud}
use Rattle.command_steps.specs.declared.files.Recorded.{Recorded}
use Rattle.command_steps.specs.declared.input_recorder.RecordFault.{RecordFault}
use Rattle.command_steps.specs.declared.input_recorder.RecordFault.TheVariants.{NoMemory}
use Rattle.command_steps.specs.declared.live_lines.Silenced.{Silenced}
use Rattle.command_steps.proofs.FilesLemmas.{heard_run, heard_rows, heard_wanting, heard_fault}
use Rattle.command_steps.proofs.SpeakLemmas.{all_front}

-- nothing was heard yet
pub heard_nothing : {L : Type 0} (heard : L → L → List (List ℕ) → Type 0) (now : L) → heard now now [] → HasHeard heard now now []
heard_nothing heard now holds = record { groups = []; pieces = []; are_pieces = tt; whole = refl; holds = holds }

-- pieces that are packets of groups are those of all their events
groups_are : (groups : List (List Event)) (pieces : List (List ℕ)) → ArePieces groups pieces → ArePacketsOf (joined groups) (joined pieces)
groups_are [] [] pairs = record { are_events = All-nil IsEvent; fit = All-nil Fits; packets = refl }
groups_are [] (p ∷ ps) pairs = absurd pairs
groups_are (g ∷ gs) [] pairs = absurd pairs
groups_are (g ∷ gs) (p ∷ ps) pairs =
    let more = groups_are gs ps pairs.1 in
    record {
      are_events = All-append IsEvent g (joined gs) pairs.0.are_events more.are_events;
      fit = All-append Fits g (joined gs) pairs.0.fit more.fit;
      packets = (λ i. pairs.0.packets i ++ more.packets i) ∙ sym (flat_map-append canonical g (joined gs));
    }

-- memory was wanted as it was closed
pub closes_fault : (hearing : Hearing) (result : Result Recorded RecordFault) → IsErrAnd result (λ given. given ≡ NoMemory) → ClosesRecording hearing result
closes_fault hearing (Ok recorded) is = absurd is
closes_fault hearing (Err fault) is = is

-- at each refusal some of it was said
pub at_refusal : {T E : Type 0} (P : Type 0) (result : Result T E) → P → IfErr result (λ _. P)
at_refusal P (Ok done) part = tt
at_refusal P (Err fault) part = part

-- the sinks were as they are before anything is said; then they were this, and these of them have failed
module _ (shown : Shown) (echo : Echo) (same : shown.echo ≡ echo) (before after : Sinks) (silenced : Silenced) (begun : Hearing) (nothing : Hears [] shown begun [] before (voices before.errors before.out false false)) {L : Type 0} (heard : L → L → List (List ℕ) → Type 0) (first last : L) where
  -- of what was heard the first events were said
  pub sources_part : (keeps : L → L → List (List ℕ) → Type 0) → StopsHearing heard keeps first last → ((pieces : List (List ℕ)) → heard first last pieces ⊎ keeps first last pieces → SaysSince echo begun (voices before.errors before.out false false) (voices after.errors after.out silenced.errors silenced.out) pieces) → SaysPart shown before after silenced
  sources_part keeps stops said =
      let some = said stops.pieces stops.holds [] shown before stops.groups same nothing stops.are_pieces in
      let are : ArePacketsOf (joined stops.groups) (joined stops.pieces) = groups_are stops.groups stops.pieces stops.are_pieces in
      let all : joined stops.groups ≡ joined some.front ++ joined some.others = ap joined some.parts ∙ flat_map-append (λ list. list) some.front some.others in
      record {
        events = joined some.front;
        are_events = all_front IsEvent (joined some.front) (joined some.others) (subst (All IsEvent) all are.are_events);
        fit = all_front Fits (joined some.front) (joined some.others) (subst (All Fits) all are.fit);
        lines = some.says.errors;
        packets = some.says.out;
      }

  -- all that was written was heard, and said
  module _ (run : List ℕ) (has : HasHeard heard first last run) (hearing : Hearing) (since : (pieces : List (List ℕ)) → heard first last pieces → HearsSince echo begun (voices before.errors before.out false false) hearing (voices after.errors after.out silenced.errors silenced.out) pieces) where
    are : ArePacketsOf (joined has.groups) run
    are = subst (ArePacketsOf (joined has.groups)) (sym has.whole) (groups_are has.groups has.pieces has.are_pieces)

    hears : Hears [] shown hearing (joined has.groups) before (voices after.errors after.out silenced.errors silenced.out)
    hears = since has.pieces has.holds [] shown before has.groups same nothing has.are_pieces

    again : AreRowsOf (run_bytes (joined has.groups)) (rows_of (joined has.groups))
    again = record { events = joined has.groups; told = events_again (joined has.groups) are.are_events are.fit; folded = refl }

    rows_heard : AreRowsOf run (rows_of (joined has.groups))
    rows_heard = subst (λ (l : List ℕ). AreRowsOf l (rows_of (joined has.groups))) (sym are.packets) again

    kept : (recorded : Recorded) → ClosesRecording hearing (Ok recorded) → Sums [] (rows_of (joined has.groups)) recorded.summary × (recorded.end.items ≡ live_end shown.live (length (rows_done (joined has.groups))) (open_rows (joined has.groups)))
    kept recorded closes = closes [] shown.live (live_so_far shown.live (joined has.groups)) (joined has.groups) hears.gathers hears.none

    sources_said : (old new : Option Folder) → Goes old new (Grown run) → (recorded : Recorded) → ClosesRecording hearing (Ok recorded) → WritesAloud shown [] old new before after silenced recorded.end.items recorded.summary
    sources_said old new written recorded closes = record {
      events = joined has.groups;
      are_events = are.are_events;
      fit = are.fit;
      added = subst (λ (l : List ℕ). Goes old new (Grown l)) are.packets written;
      rows = rows_of (joined has.groups);
      rows_are = again;
      sums = (kept recorded closes).0;
      lines = hears.says.errors;
      packets = hears.says.out;
      end_is = (kept recorded closes).1;
    }

  -- the sources were recorded, and what was heard of them closed
  module _ (names : List (List ℕ)) (folder folder' : Seen Folder) (site site' : Seen Files) (input input' : Seen (List ℕ)) (rests : Goes folder.told folder'.told SameButDraft) (begins : heard first first []) (hearing : Hearing) (since : (pieces : List (List ℕ)) → heard first last pieces → HearsSince echo begun (voices before.errors before.out false false) hearing (voices after.errors after.out silenced.errors silenced.out) pieces) where
    abbrev Heard : Result (Unit {0}) RecordFault → Type 0
    Heard = HearsSources names (filed folder site) input (filed folder' site') input' (HearsMore heard first last)

    abbrev Step : Result Recorded RecordFault → Type 0
    Step answer = GivesSums [] (λ rows. (spawner : Seen Spawning) (printed : Seen (List ℕ)) → RecordsSources names (work folder site spawner input printed) (work folder' site' spawner input' printed) rows) (summary_of answer)

    abbrev Aloud : Result Recorded RecordFault → Type 0
    Aloud answer = IfOk answer (λ recorded. WritesAloud shown [] folder.told folder'.told before after silenced recorded.end.items recorded.summary)

    all_heard : (done : Unit {0}) (given : Heard (Ok done)) → HasHeard heard first last (heard_run folder folder' site site' input input' (HearsMore heard first last) rests names done given).0
    all_heard done given = (heard_run folder folder' site site' input input' (HearsMore heard first last) rests names done given).1 first [] (heard_nothing heard first begins)

    closed_step : (done : Unit {0}) → Heard (Ok done) → (result : Result Recorded RecordFault) → ClosesRecording hearing result → Step result
    closed_step done given (Ok recorded) closes =
        let has = all_heard done given in
        record {
          rows = rows_of (joined has.groups);
          sums = (kept _ has hearing since recorded closes).0;
          holds = heard_rows folder folder' site site' input input' (HearsMore heard first last) rests names done given (rows_of (joined has.groups)) (rows_heard _ has hearing since);
        }
    closed_step done given (Err fault) closes = record {
      rows = [];
      sums = tt;
      holds = λ spawner printed. subst (λ (f : RecordFault). RecordsSources names (work folder site spawner input printed) (work folder' site' spawner input' printed) (Err f)) (sym closes) (heard_wanting folder folder' site site' input input' (HearsMore heard first last) rests names done given spawner printed);
    }

    fault_step : (fault : RecordFault) → Heard (Err fault) → Step (Err fault)
    fault_step fault given = record {
      rows = [];
      sums = tt;
      holds = heard_fault folder folder' site site' input input' (HearsMore heard first last) rests names fault given;
    }

    pub answer_step : (done : Result (Unit {0}) RecordFault) → Heard done → (answer : Result Recorded RecordFault) → AnswersRecording done hearing answer → Step answer
    answer_step (Ok done) given answer closes = closed_step done given answer closes
    answer_step (Err fault) given answer is = subst Step (sym is) (fault_step fault given)

    closed_aloud : (done : Unit {0}) → Heard (Ok done) → (result : Result Recorded RecordFault) → ClosesRecording hearing result → Aloud result
    closed_aloud done given (Ok recorded) closes = sources_said _ (all_heard done given) hearing since folder.told folder'.told (heard_run folder folder' site site' input input' (HearsMore heard first last) rests names done given).2 recorded closes
    closed_aloud done given (Err fault) closes = tt

    pub answer_aloud : (done : Result (Unit {0}) RecordFault) → Heard done → (answer : Result Recorded RecordFault) → AnswersRecording done hearing answer → Aloud answer
    answer_aloud (Ok done) given answer closes = closed_aloud done given answer closes
    answer_aloud (Err fault) given answer is = subst Aloud (sym is) tt
