-- What is recorded of a run's lanes, and its rows, from what was heard.
use Rattle.std.proofs.Common.{◌≡◌, ℕ, ◌≤◌, Bool, true, false, List, [], ◌∷◌, ◌++◌, Option, None, Some, Result, Ok, Err, IfOk, IfErr, OnOk, OnErr, map, refl, sym, ap, ◌∙◌, subst}
use Rattle.std.specs.Prelude.{All}
use Rattle.std.specs.List.{flat_map}
use Rattle.sub_number.specs.declared.memory.NoMemory as memory
use Rattle.edge_io.specs.Causes.{Rose, RisesExactlyIf}
use Rattle.edge_io.specs.Disk.{Folder}
use Rattle.edge_io.specs.Seen.{Seen}
use Rattle.live_text.specs.Live.{live_so_far}
use Rattle.outcome_fold.specs.Rows.{rows_of}
use Rattle.outcome_fold.specs.Summed.{with_rows}
use Rattle.outcome_fold.specs.declared.row.Row.{Row}
use Rattle.outcome_fold.specs.declared.summary.Summary.{Summary}
use Rattle.packet_codec.specs.Canonical.{canonical, IsEvent, Fits}
use Rattle.packet_codec.specs.Lanes.{joined}
use Rattle.packet_codec.specs.declared.event.Event.{Event}
use Rattle.run_ledger.proofs.WrittenLemmas.{events_again}
use Rattle.run_shelf.specs.declared.faults.ShelfCall.{ShelfCall}
use Rattle.run_shelf.specs.declared.faults.ShelfCall.TheVariants.{Append}
use Rattle.suite_run.specs.Aloud.{AddsAloud, AddsSaid, BeganAloud, Hears, HearsSince, SaysSince, Sinks, Voices, voices}
use Rattle.suite_run.specs.Closing.{AnswersLanes, ClosesHearing, IsDecidedBy}
use Rattle.suite_run.specs.Recording.{AddsByFew, AddsRows, AddsSums, RecordsLanes, TellsOfAppend, lanes_failed}
use Rattle.suite_run.specs.Summed.{GivesSums}
use Rattle.suite_run.specs.declared.run_listener.Echo.{Echo}
use Rattle.suite_run.specs.declared.run_listener.Said.{Said}
use Rattle.suite_run.specs.declared.run_listener.Shown.{Shown}
use Rattle.suite_run.specs.declared.lines.Hearing.{Hearing}
use Rattle.suite_run.specs.declared.lane_recorder.LanesRefusal.{LanesRefusal}
use Rattle.suite_run.specs.declared.lane_recorder.LanesRefusal.TheVariants.{Shelf, NoMemory}
use Rattle.suite_run.proofs.EarLemmas.{began_aloud, own_pieces}
use Rattle.worker_lane.specs.declared.lot.Lot.{Lot}
use Rattle.worker_mux.specs.Callers.{KeepsTape, Tape, WasHanded, tape}
use Rattle.worker_mux.specs.Runs.{HearsMerge}
use Rattle.worker_mux.proofs.Adding.{handed_weaker}

-- ---- what was given

module _ (filter_tags : List (List ℕ)) (shown : Shown) (rests : List (Option (List Lot))) (old new : Tape) (before : Sinks) (now : Voices) (end : List ℕ) where
  -- the events of a merge were heard and said
  merge_aloud : (echo : Echo) (begun : Hearing) (first : Voices) (hearing : Hearing) (summary : Summary) → shown.echo ≡ echo → Hears filter_tags shown begun [] before first → ClosesHearing hearing end (Ok summary)
      → HearsMerge (HearsSince echo begun first hearing now) rests old new → AddsSaid shown filter_tags rests old new before now end summary
  merge_aloud echo begun first hearing summary same nothing closes all =
      let events : List Event = all.merge.events in
      let are : All IsEvent (joined all.groups) = subst (All IsEvent) (sym all.parts) all.merge.are_events in
      let fit : All Fits (joined all.groups) = subst (All Fits) (sym all.parts) all.merge.fit in
      let heard : Hears filter_tags shown hearing (joined all.groups) before now = all.heard filter_tags shown before all.groups same nothing (own_pieces all.groups are fit) in
      let hears : Hears filter_tags shown hearing events before now = subst (λ (l : List Event). Hears filter_tags shown hearing l before now) all.parts heard in
      let kept = closes.kept filter_tags shown.live (live_so_far shown.live events) events hears.gathers hears.none in
      record {
        rows = rows_of events;
        adds = record {
          merge = all.merge;
          rows_are = record { events = events; told = events_again events all.merge.are_events all.merge.fit; folded = refl };
        };
        sums = kept.0;
        few = all.few;
        says = hears.says;
        end_is = kept.1;
      }

  pub sums_aloud : (Heard : List (List ℕ) → Type 0) (echo : Echo) (begun : Hearing) (first : Voices) (hearing : Hearing) (fault : Option ShelfCall) (done : Result (Unit {0}) memory.NoMemory) (answer : Result Summary LanesRefusal) → OnOk done (fault ≡ None → HearsMerge Heard rests old new)
      → AnswersLanes fault done hearing end answer → shown.echo ≡ echo → Hears filter_tags shown begun [] before first → ((pieces : List (List ℕ)) → Heard pieces → HearsSince echo begun first hearing now pieces) → IfOk answer (AddsSaid shown filter_tags rests old new before now end)
  sums_aloud Heard echo begun first hearing (Some call) done answer merged answers same nothing weaker = rw answers.0 tt
  sums_aloud Heard echo begun first hearing None (Err lack) answer merged answers same nothing weaker = rw answers.0 tt
  sums_aloud Heard echo begun first hearing None (Ok unit) (Err refusal) merged answers same nothing weaker = tt
  sums_aloud Heard echo begun first hearing None (Ok unit) (Ok summary) merged answers same nothing weaker =
      let all : HearsMerge Heard rests old new = merged refl in
      merge_aloud echo begun first hearing summary same nothing answers
      (record { merge = all.merge; groups = all.groups; parts = all.parts; heard = weaker (map (flat_map canonical) all.groups) all.heard; few = all.few })

  -- without what was said
  pub only_sums : {E : Type 0} (answer : Result Summary E) → IfOk answer (AddsSaid shown filter_tags rests old new before now end) → IfOk answer (AddsSums filter_tags rests old new)
  only_sums (Ok summary) said = record { rows = said.rows; adds = said.adds; sums = said.sums; few = said.few }
  only_sums (Err refusal) said = tt

abbrev last_voices : (after : Sinks) → Said → Voices
last_voices after said = voices after.errors after.out said.errors_failed said.out_failed

pub only_aloud : {E : Type 0} (filter_tags : List (List ℕ)) (shown : Shown) (rests : List (Option (List Lot))) (old new : Tape) (before after : Sinks) (said : Said) (answer : Result Summary E) → IfOk answer (AddsSaid shown filter_tags rests old new before (last_voices after said) said.end.items)
    → IfOk answer (AddsAloud shown filter_tags rests old.folder.told new.folder.told before after said)
only_aloud filter_tags shown rests old new before after said (Ok summary) aloud = record { rows = aloud.rows; adds = aloud.adds; sums = aloud.sums; says = aloud.says; end = aloud.end_is }
only_aloud filter_tags shown rests old new before after said (Err refusal) aloud = tt

-- at each other exit there is no end
no_end : (hearing : Hearing) (fault : Option ShelfCall) (done : Result (Unit {0}) memory.NoMemory) (end : List ℕ) (refusal : LanesRefusal) → AnswersLanes fault done hearing end (Err refusal) → end ≡ []
no_end hearing (Some call) done end refusal answers = answers.1
no_end hearing None (Err lack) end refusal answers = answers.1
no_end hearing None (Ok unit) end refusal answers = answers.refused

module _ (filter_tags : List (List ℕ)) (shown : Shown) (old : Option Folder) (new : Tape) (before after : Sinks) (said : Said) where
  pub refused_aloud : (Kept : List (List ℕ) → Type 0) (echo : Echo) (begun : Hearing) (first : Voices) (hearing : Hearing) (fault : Option ShelfCall) (done : Result (Unit {0}) memory.NoMemory) (answer : Result Summary LanesRefusal) → WasHanded Kept old new
      → AnswersLanes fault done hearing said.end.items answer → shown.echo ≡ echo → Hears filter_tags shown begun [] before first → ((pieces : List (List ℕ)) → Kept pieces → SaysSince echo begun first (last_voices after said) pieces) → IfErr answer (λ _. BeganAloud shown old new.folder.told before after said)
  refused_aloud Kept echo begun first hearing fault done (Ok summary) handed answers same nothing weaker = tt
  refused_aloud Kept echo begun first hearing fault done (Err refusal) handed answers same nothing weaker =
      began_aloud echo begun first filter_tags shown before after said old new same nothing (no_end hearing fault done said.end.items refusal answers)
      (handed_weaker Kept (SaysSince echo begun first (last_voices after said)) old new weaker handed)

-- ---- the whole step

pub decided : (hearing : Hearing) (end : List ℕ) (fault : Option ShelfCall) (done : Result (Unit {0}) memory.NoMemory) (answer : Result Summary LanesRefusal) → AnswersLanes fault done hearing end answer → IsDecidedBy fault answer
decided hearing end (Some call) done answer answers = rw answers.0 refl
decided hearing end None (Err lack) answer answers = rw answers.0 refl
decided hearing end None (Ok unit) (Ok summary) answers = refl
decided hearing end None (Ok unit) (Err refusal) answers = rw answers.why refl

tells_of : {A : Type 0} (fault : Option ShelfCall) (answer : Result A LanesRefusal) → IsDecidedBy fault answer → ((call : ShelfCall) → fault ≡ Some call → call ≡ Append) → IfErr answer TellsOfAppend
tells_of fault (Ok kept) by is = tt
tells_of fault (Err (Shelf call)) by is = is call by
tells_of fault (Err NoMemory) by is = tt

rises : {A : Type 0} (fault : Option ShelfCall) (answer : Result A LanesRefusal) (before now : ℕ) → IsDecidedBy fault answer → before ≤ now → ((call : ShelfCall) → fault ≡ Some call → Rose before now) → (fault ≡ None → now ≡ before) → RisesExactlyIf before now (lanes_failed answer)
rises fault (Ok kept) before now by later rose stands = record { later = later; rose = λ no. cc; stands = λ _. stands by }
rises fault (Err (Shelf call)) before now by later rose stands = record { later = later; rose = λ _. rose call by; stands = λ no. cc }
rises fault (Err NoMemory) before now by later rose stands = record { later = later; rose = λ no. cc; stands = λ _. stands by }

lanes_recorded : (rests : List (Option (List Lot))) (fault : Option ShelfCall) (answer : Result (List Row) LanesRefusal) (before after : Seen Folder) (clock now : ℕ) → IsDecidedBy fault answer → KeepsTape (tape None before clock) (tape fault after now) → IfOk answer (AddsRows rests before.told after.told) → RecordsLanes rests before after answer
lanes_recorded rests fault answer before after clock now by keeps adds = record {
  recorded = adds;
  refused = tells_of fault answer by (λ call failed. (keeps.rose refl call failed).0);
  files = keeps.files;
  sum = rises fault answer before.faults after.faults by keeps.later (λ call failed. (keeps.rose refl call failed).1) keeps.stands;
}

same_decided : (rows : List Row) (fault : Option ShelfCall) (answer : Result Summary LanesRefusal) → IsDecidedBy fault answer → IsDecidedBy fault (with_rows rows answer)
same_decided rows fault (Ok kept) by = by
same_decided rows fault (Err (Shelf call)) by = by
same_decided rows fault (Err NoMemory) by = by

pub lanes_summed : (filter_tags : List (List ℕ)) (rests : List (Option (List Lot))) (fault : Option ShelfCall) (answer : Result Summary LanesRefusal) (before after : Seen Folder) (clock now : ℕ) → IsDecidedBy fault answer → KeepsTape (tape None before clock) (tape fault after now) → IfOk answer (AddsSums filter_tags rests (tape None before clock) (tape fault after now)) → GivesSums filter_tags (RecordsLanes rests before after) answer
lanes_summed filter_tags rests fault (Ok kept) before after clock now by keeps adds = record {
  rows = adds.rows;
  sums = adds.sums;
  holds = lanes_recorded rests fault (Ok adds.rows) before after clock now by keeps adds.adds;
}
lanes_summed filter_tags rests fault (Err refusal) before after clock now by keeps adds = record {
  rows = [];
  sums = tt;
  holds = lanes_recorded rests fault (Err refusal) before after clock now (same_decided [] fault (Err refusal) by) keeps tt;
}

-- with an answer, the calls were few
pub few_calls : {E : Type 0} (filter_tags : List (List ℕ)) (rests : List (Option (List Lot))) (old new : Tape) (answer : Result Summary E) → IfOk answer (AddsSums filter_tags rests old new) → OnOk answer (AddsByFew old.folder.told new.folder.told old.clock new.clock)
few_calls filter_tags rests old new (Ok kept) sums = record {
  events = sums.adds.merge.events;
  are_events = sums.adds.merge.are_events;
  fit = sums.adds.merge.fit;
  added = sums.adds.merge.added;
  few = sums.few;
}
few_calls filter_tags rests old new (Err refusal) sums = tt
