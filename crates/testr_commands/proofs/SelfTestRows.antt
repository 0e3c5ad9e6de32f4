-- The rows of drawn workers.
use Rattle.std.proofs.Common.{◌≡◌, ℕ, zero, suc, ◌+◌, ◌*◌, ◌<◌, ◌≤◌, Bool, true, false, ◌&&◌, Option, None, Some, IfSome, Result, Ok, Err, List, [], ◌∷◌, ◌++◌, map, length, refl, sym, ap, subst, ◌∙◌, arith, add-one, append-nil}
use Rattle.std.specs.Prelude.{All, IfOk, nat_le}
use Rattle.std.specs.List.{flat_map, range_with_len}
use Rattle.std.proofs.lemmas.Bool.{leb-true, and_parts}
use Rattle.std.proofs.Math.Nat.{le_refl}
use Rattle.std.proofs.lemmas.Nat.{mul-le}
use Rattle.std.proofs.lemmas.List.{length-append}
use Rattle.std.proofs.lemmas.List.Elements.{All-head, All-tail, All-weaker}
use Rattle.std.proofs.lemmas.List.Folds.{flat_map-map}
use Rattle.std.proofs.lemmas.List.FromFn.{length-map-range_with_len}
use Rattle.drawn_lanes.specs.Outputs.{HasLanePacket, drawn_events, drawn_output, outputs_of, lane_state}
use Rattle.drawn_lanes.proofs.RunLemmas.{lane_has_packets}
use Rattle.edge_io.specs.Children.{Output}
use Rattle.edge_io.specs.Disk.{Files, Folder}
use Rattle.edge_io.specs.Seen.{Seen}
use Rattle.edge_io.specs.Spawners.{Spawning}
use Rattle.edge_io.specs.Steps.{Goes}
use Rattle.edge_io.specs.declared.job.Job.{Job}
use Rattle.outcome_fold.specs.Rows.{rows_of}
use Rattle.outcome_fold.specs.Summed.{Sums}
use Rattle.outcome_fold.specs.declared.row.Row.{Row}
use Rattle.outcome_fold.specs.declared.summary.Summary.{Summary}
use Rattle.packet_codec.specs.Canonical.{canonical, IsEvent, Fits}
use Rattle.packet_codec.specs.Lanes.{joined}
use Rattle.packet_codec.specs.Routing.{under}
use Rattle.packet_codec.specs.declared.event.Event.{Event}
use Rattle.stream_reader.specs.declared.note.Note.{Note}
use Rattle.stream_reader.specs.declared.note.Note.TheVariants as note
use Rattle.stream_reader.proofs.NotesLemmas.{packet_pieces, notes_of_packets, cut_of_written}
use Rattle.stream_reader.proofs.TurnLemmas.{one_notes}
use Rattle.suite_run.specs.Starting.{StartsAll}
use Rattle.suite_run.specs.Summed.{GivesSums}
use Rattle.worker_lane.specs.Recorded.{recorded_event, recorded_events}
use Rattle.worker_lane.proofs.NoteLemmas.{recorded_whole}
use Rattle.stream_end.proofs.InsideLemmas.{not_inside}
use Rattle.worker_lane.specs.Inside.{ends_inside, inside_events}
use Rattle.worker_lane.specs.Rest.{notes_of_stream, notes_are, stream_events}
use Rattle.worker_mux.specs.Outputs.{events_for, lists_from}
use Rattle.testr_words.specs.Drawings.{are_few}
use Rattle.command_steps.specs.Outside.{Work, work}
use Rattle.command_steps.specs.Working.{Works}
use Rattle.testr_commands.specs.SelfTest.{RunsInTurn, lane_of, rows_in_turn}
use Rattle.command_steps.specs.declared.answer.Refusal.{Refusal}
use Rattle.testr_words.specs.declared.selftest_words.SelfTestWords.{SelfTestWords}
use Rattle.testr_commands.proofs.MergeLaws.{AreOfOutputs}
use Rattle.testr_commands.proofs.PacketBytes.{packets_bytes}
use Rattle.testr_commands.proofs.SuiteDone.{work_did}

-- ---- the rows of jobs are those of their outputs one after another

in_turn : (jobs : List Job) (outputs : List Output) (events : List Event) (rows : List Row) (told after : Option Spawning) → Goes told after (StartsAll jobs outputs) → IfSome told (λ _. AreOfOutputs events [] outputs) → rows ≡ rows_of events → IfSome told (λ s. RunsInTurn jobs s rows)
in_turn jobs outputs events rows None after starts are is = tt
in_turn jobs outputs events rows (Some s) None starts are is = absurd starts
in_turn jobs outputs events rows (Some s) (Some t) starts are is = record {
  outputs = outputs;
  later = t.outputs;
  taken = starts.taken;
  count = starts.count;
  in_turn = is ∙ are.in_turn.rows;
}

pub works_in_turn : (number : ℕ) (jobs : List Job) (a b : Work) (rows : List Row) → length jobs ≤ 64 → Works false number (record { jobs = jobs; asked = [] }) a b (Ok rows) → IfSome a.spawner.told (λ s. RunsInTurn jobs s rows)
works_in_turn number jobs a b rows few works =
    let worked = work_did false number (record { jobs = jobs; asked = [] }) a b rows few works in
    in_turn jobs worked.outputs worked.events rows a.spawner.told b.spawner.told worked.started worked.of_workers worked.rows_are

pub ran_in_turn : (number : ℕ) (filter_tags : List (List ℕ)) (jobs : List Job) (folder left : Seen Folder) (spawner after : Seen Spawning) (result : Result Summary Refusal) → filter_tags ≡ [] → length jobs ≤ 64
    → GivesSums filter_tags (λ rows. (site : Seen Files) (input out : Seen (List ℕ)) → Works false number (record { jobs = jobs; asked = [] }) (work folder site spawner input out) (work left site after input out) rows) result
    → IfOk result (λ summary. (rows : List Row) × Sums [] rows summary × IfSome spawner.told (λ s. RunsInTurn jobs s rows))
ran_in_turn number filter_tags jobs folder left spawner after (Ok summary) none_filters few gives =
    let site : Seen Files = record { told = None; faults = 0 } in
    let none : Seen (List ℕ) = record { told = None; faults = 0 } in (
      gives.rows,
      subst (λ (tags : List (List ℕ)). Sums tags gives.rows summary) none_filters gives.sums,
      works_in_turn number jobs (work folder site spawner none none) (work left site after none none) gives.rows few (gives.holds site none none),
    )
ran_in_turn number filter_tags jobs folder left spawner after (Err refusal) none_filters few gives = tt

-- ---- one drawn worker

of_packets : (lane : ℕ) (events : List Event) → All (HasLanePacket lane) events → (All IsEvent events) × All Fits events
of_packets lane events have = (All-weaker (HasLanePacket lane) IsEvent (λ e has. has.is_event) events have, All-weaker (HasLanePacket lane) Fits (λ e has. has.fits) events have)

event_under : (lane : ℕ) (e : Event) → HasLanePacket lane e → recorded_event lane e ≡ under lane e ∷ []
event_under lane e has = recorded_whole lane e has.fits_under.size

events_under : (lane : ℕ) (events : List Event) → All (HasLanePacket lane) events → recorded_events lane (map note.Event events) ≡ map (under lane) events
events_under lane [] have = refl
events_under lane (e ∷ events) have = λ i. event_under lane e (All-head (HasLanePacket lane) e events have) i ++ events_under lane events (All-tail (HasLanePacket lane) e events have) i

-- what is recorded of packets is their events under the lane
recorded_under : (lane : ℕ) (events : List Event) → All (HasLanePacket lane) events → stream_events lane (flat_map canonical events) ≡ map (under lane) events
recorded_under lane events have =
    let packets = of_packets lane events have in
    let notes = one_notes (flat_map canonical events) (notes_of_stream (flat_map canonical events)) (map note.Event events) (packets_bytes events packets.0) (notes_are (flat_map canonical events)) (record { pieces = packet_pieces events; cut = cut_of_written events packets.0 packets.1; made = sym (notes_of_packets events) }) in
    let whole = not_inside events (packets_bytes events packets.0) packets.0 packets.1 in
    ap (λ (l : List Note). recorded_events lane l ++ inside_events lane (ends_inside (flat_map canonical events))) notes
    ∙ ap (λ (inside : Bool). recorded_events lane (map note.Event events) ++ inside_events lane inside) whole
    ∙ append-nil (recorded_events lane (map note.Event events))
    ∙ events_under lane events have

module _ (drawing : SelfTestWords) (few : drawing.tests ≤ 1000000) where
  output : ℕ → Output
  output lane = drawn_output drawing.seed drawing.tests lane

  have : (lane : ℕ) → lane < 64 → All (HasLanePacket lane) (drawn_events drawing.seed drawing.tests lane)
  have lane small = lane_has_packets lane drawing.tests (lane_state drawing.seed drawing.tests lane) small few

  recorded_of : (lane : ℕ) → lane < 64 → events_for lane (drawn_output drawing.seed drawing.tests lane) ≡ lane_of drawing lane
  recorded_of lane small = append-nil (stream_events lane (flat_map canonical (drawn_events drawing.seed drawing.tests lane))) ∙ recorded_under lane (drawn_events drawing.seed drawing.tests lane) (have lane small)

  -- ---- all of them

  lists_are : (first count : ℕ) → first + count ≤ 64 → lists_from first (map (drawn_output drawing.seed drawing.tests) (range_with_len first count)) ≡ map (lane_of drawing) (range_with_len first count)
  lists_are first zero within = refl
  lists_are first (suc count) within =
      let next : lists_from (suc first) (map (drawn_output drawing.seed drawing.tests) (range_with_len (first + 1) count)) ≡ map (lane_of drawing) (range_with_len (first + 1) count) =
      ap (λ n. lists_from n (map (drawn_output drawing.seed drawing.tests) (range_with_len (first + 1) count))) (sym (add-one first)) ∙ lists_are (first + 1) count (omega (arith, within)) in
      λ i. recorded_of first (omega (arith, within)) i ∷ next i

  joined_are : (count : ℕ) → count ≤ 64 → joined (lists_from 0 (map (drawn_output drawing.seed drawing.tests) (range_with_len 0 count))) ≡ flat_map (lane_of drawing) (range_with_len 0 count)
  joined_are count within = ap joined (lists_are 0 count (omega (arith, within))) ∙ flat_map-map (λ events. events) (lane_of drawing) (range_with_len 0 count)

no_more : {X : Type 0} (xs : List X) → length xs ≤ 0 → xs ≡ []
no_more [] none = refl
no_more (x ∷ xs) none = absurd (omega (arith, none))

-- the first of a list, as many as it has, are all of it
all_taken : {X : Type 0} (all first later : List X) → all ≡ first ++ later → length first ≡ length all → first ≡ all
all_taken all first later is count =
    let none : later ≡ [] = no_more later (omega (arith, ap length is, length-append first later, count)) in
    sym (append-nil first) ∙ ap (λ l. first ++ l) (sym none) ∙ sym is

pub record AreFew (lanes tests : ℕ) : Type 0 where
  pub some : 1 ≤ lanes
  pub few : lanes ≤ 64
  pub tested : 1 ≤ tests
  pub most : lanes * tests ≤ 1000000

pub few_parts : (lanes tests : ℕ) → are_few lanes tests ≡ true → AreFew lanes tests
few_parts lanes tests are =
    let first = and_parts (nat_le 1 lanes) (nat_le lanes 64 && (nat_le 1 tests && nat_le (lanes * tests) 1000000)) are in
    let second = and_parts (nat_le lanes 64) (nat_le 1 tests && nat_le (lanes * tests) 1000000) first.1 in
    let third = and_parts (nat_le 1 tests) (nat_le (lanes * tests) 1000000) second.1 in
    record { some = leb-true 1 lanes first.0; few = leb-true lanes 64 second.0; tested = leb-true 1 tests third.0; most = leb-true (lanes * tests) 1000000 third.1 }

few_tests : (lanes tests : ℕ) → AreFew lanes tests → tests ≤ 1000000
few_tests lanes tests are = omega (arith, mul-le 1 tests lanes tests are.some (le_refl tests), are.most)

pub drawn_in_turn : (drawing : SelfTestWords) (jobs : List Job) (s : Spawning) (rows : List Row) → are_few drawing.lanes drawing.tests ≡ true → s.outputs ≡ outputs_of drawing.seed drawing.lanes drawing.tests → length jobs ≡ drawing.lanes → RunsInTurn jobs s rows → rows ≡ rows_in_turn drawing
drawn_in_turn drawing jobs s rows are outputs_are count runs =
    let parts = few_parts drawing.lanes drawing.tests are in
    let few = few_tests drawing.lanes drawing.tests parts in
    let outputs : List Output = outputs_of drawing.seed drawing.lanes drawing.tests in
    let all : runs.outputs ≡ outputs = all_taken outputs runs.outputs runs.later (sym outputs_are ∙ runs.taken) (runs.count ∙ count ∙ sym (length-map-range_with_len (drawn_output drawing.seed drawing.tests) 0 drawing.lanes)) in
    runs.in_turn
    ∙ ap (λ l. rows_of (joined (lists_from 0 l))) all
    ∙ ap rows_of (joined_are drawing few drawing.lanes parts.few)
