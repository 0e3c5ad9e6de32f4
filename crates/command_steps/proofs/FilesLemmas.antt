-- What is recorded of files, one after another.
use Rattle.std.proofs.Common.{◌≡◌, inr, ℕ, ◌+◌, ◌<◌, ◌≤◌, Option, Some, None, IfSome, List, [], ◌∷◌, ◌++◌, map, OnOk, Result, Ok, Err, false, refl, sym, ap, subst, ◌∙◌, append_assoc, append-nil, length, length-append, take, drop, arith}
use Rattle.std.specs.Prelude.{IsSomeAnd, IfErr, IsErrAnd}
use Rattle.std.proofs.lemmas.List.{map-append, take-append-drop}
use Rattle.std.proofs.lemmas.List.Elements.{All-nil, All-cons, All-append}
use Rattle.std.proofs.lemmas.Grind.{flat_map-append}
use Rattle.edge_io.specs.Disk.{Files, Folder}
use Rattle.edge_io.specs.Seen.{Seen}
use Rattle.edge_io.specs.Spawners.{Spawning}
use Rattle.edge_io.specs.Steps.{Goes, Grown}
use Rattle.edge_io.specs.Sites.{Finds, FitsIn, GivesPart}
use Rattle.edge_io.specs.declared.site.Found.{Found}
use Rattle.edge_io.specs.declared.site.Found.TheVariants.{Read}
use Rattle.edge_io.specs.Limits.{most_bytes}
use Rattle.packet_codec.specs.Grammar.{AreBytes}
use Rattle.packet_codec.specs.Canonical.{canonical}
use Rattle.packet_codec.specs.declared.event.Event.{Event}
use Rattle.outcome_fold.specs.declared.row.Row.{Row}
use Rattle.run_ledger.specs.Reading.{AreRowsOf}
use Rattle.run_shelf.specs.Drafts.{SameButDraft}
use Rattle.run_shelf.proofs.DraftLemmas.{goes_grown_then}
use Rattle.stream_reader.proofs.FrontLemmas.{are_both}
use Rattle.worker_lane.specs.Recorded.{HasRecorded, IsRecorded}
use Rattle.worker_lane.specs.Scribing.{Scribing, finished, Recording, HasNone}
use Rattle.worker_lane.proofs.RecordingLemmas.{recording_ended, recording_whole}
use Rattle.command_steps.specs.Files.{AreFiles, HasRecordedInTurn, AreFrontOf, IsFile, NoneFailedFiling, RecordsFilePieces, RecordsFile, RecordsInTurn, RecordsSources, HearsSources, HasFilesCause}
use Rattle.command_steps.specs.Hearing.{HearsMore}
use Rattle.command_steps.specs.Outside.{Filed, filed, fed, work}
use Rattle.command_steps.specs.Recording.{WritesPackets, RecordsBytes, HasRecordCause}
use Rattle.command_steps.specs.declared.input_recorder.RecordFault.{RecordFault}
use Rattle.command_steps.specs.declared.input_recorder.RecordFault.TheVariants.{NoMemory}
use Rattle.command_steps.proofs.HearLemmas.{hears_then}

-- ---- the bytes of one file

drop_front : (front rest : List ℕ) → drop (length front) (front ++ rest) ≡ rest
drop_front [] rest = refl
drop_front (x ∷ front) rest = drop_front front rest

-- a read at the end of what was read gives the next bytes
pub front_more : (name : List ℕ) (told : Option Files) (bytes buf : List ℕ) (count : ℕ) → AreFrontOf name told bytes → IfSome told (λ files. Finds (files name) (length bytes) buf (Read count)) → AreFrontOf name told (bytes ++ take count buf)
front_more name None bytes buf count front found = tt
front_more name (Some files) bytes buf count front found = by (files name) front found
  where
    by : (file : Option (List ℕ)) → IfSome file (λ all. (rest : List ℕ) × (all ≡ bytes ++ rest)) → IsSomeAnd file (λ all. GivesPart all (length bytes) buf count) → IfSome file (λ all. (rest : List ℕ) × (all ≡ (bytes ++ take count buf) ++ rest))
    by None front found = tt
    by (Some all) (rest, is) part =
        let left : drop (length bytes) all ≡ rest = ap (λ (l : List ℕ). drop (length bytes) l) is ∙ drop_front bytes rest in
        let given : take count buf ≡ take count rest = part.same ∙ ap (λ (l : List ℕ). take count l) left in
        (drop count rest, is ∙ ap (λ (l : List ℕ). bytes ++ l) (sym (take-append-drop count rest)) ∙ sym (append_assoc bytes (take count rest) (drop count rest)) ∙ ap (λ (l : List ℕ). (bytes ++ l) ++ drop count rest) (sym given))

pub front_next : (name : List ℕ) (told now : Option Files) (bytes buf : List ℕ) (place count : ℕ) (found : Found) → now ≡ told → length bytes ≡ place → found ≡ Read count → AreFrontOf name told bytes → IfSome now (λ files. Finds (files name) place buf found) → AreFrontOf name told (bytes ++ take count buf)
front_next name told now bytes buf place count found same size is front given =
    front_more name told bytes buf count front
    (subst (λ (o : Option Files). IfSome o (λ files. Finds (files name) (length bytes) buf (Read count))) same
    (subst (λ (n : ℕ). IfSome now (λ files. Finds (files name) n buf (Read count))) (sym size)
    (subst (λ (f : Found). IfSome now (λ files. Finds (files name) place buf f)) is given)))

pub fits_count : (buf : List ℕ) (found : Found) (count : ℕ) → found ≡ Read count → FitsIn buf found → count ≤ length buf
fits_count buf found count is fits = subst (FitsIn buf) is fits

-- where none are given they are all
pub front_all : (name : List ℕ) (told : Option Files) (bytes buf : List ℕ) → 0 < length buf → AreFrontOf name told bytes → IfSome told (λ files. Finds (files name) (length bytes) buf (Read 0)) → IsFile name told bytes
front_all name None bytes buf some front found = tt
front_all name (Some files) bytes buf some front found = by (files name) front found
  where
    none_left : (rest : List ℕ) → length rest ≤ 0 → rest ≡ []
    none_left [] few = refl
    none_left (x ∷ rest) few = absurd (omega (arith, few))

    by : (file : Option (List ℕ)) → IfSome file (λ all. (rest : List ℕ) × (all ≡ bytes ++ rest)) → IsSomeAnd file (λ all. GivesPart all (length bytes) buf 0) → file ≡ Some bytes
    by None front found = absurd found
    by (Some all) (rest, is) part =
        let ends : length all ≤ length bytes = part.some refl some in
        let none : rest ≡ [] = none_left rest (omega (arith, ends, ap length is, length-append bytes rest)) in
        ap (λ (l : List ℕ). Some l) (is ∙ ap (λ (l : List ℕ). bytes ++ l) none ∙ append-nil bytes)

-- and where a read gives none, as it is told of
pub front_end : (name : List ℕ) (told now : Option Files) (bytes buf : List ℕ) (place count : ℕ) (found : Found) → now ≡ told → length bytes ≡ place → found ≡ Read count → count ≡ 0 → 0 < length buf → AreFrontOf name told bytes → IfSome now (λ files. Finds (files name) place buf found) → IsFile name told bytes
front_end name told now bytes buf place count found same size is none some front given =
    front_all name told bytes buf some front
    (subst (λ (o : Option Files). IfSome o (λ files. Finds (files name) (length bytes) buf (Read 0))) same
    (subst (λ (n : ℕ). IfSome now (λ files. Finds (files name) n buf (Read 0))) (sym size)
    (subst (λ (f : Found). IfSome now (λ files. Finds (files name) place buf f)) (is ∙ ap Read none) given)))

-- ---- faults

pub counts_then : (a m b : Filed) → NoneFailedFiling a m → NoneFailedFiling m b → NoneFailedFiling a b
counts_then a m b first second = record { folder = second.folder ∙ first.folder; site = second.site ∙ first.site }

pub caused_in : {A : Type 0} (names : List (List ℕ)) (before after : Filed) (result : Result A RecordFault) (fault : RecordFault) → IsErrAnd result (λ given. given ≡ fault) → HasFilesCause names before after fault → IfErr result (HasFilesCause names before after)
caused_in names before after (Ok done) fault is cause = tt
caused_in names before after (Err given) fault is cause = subst (HasFilesCause names before after) (sym is) cause

-- ---- one file whole

-- the end of the file, of which the last packets were written
module _ (lane : ℕ) (name : List ℕ) (before : Filed) (between after : Seen Folder) (site : Seen Files) {L : Type 0} (heard : L → L → List (List ℕ) → Type 0) (scribe ended last : Scribing) (p q r : L) (pieces : RecordsFilePieces name before (filed between site) scribe (HearsMore heard p q)) (going_on : scribe.held.ended ≡ false) (is : ended ≡ finished scribe) (under : scribe.lane ≡ lane) where
  whole_file : WritesPackets between after ended last (HearsMore heard q r) → HasNone last → RecordsFile lane name before (filed after site) (HearsMore heard p r)
  whole_file more none =
      let fed : Recording pieces.bytes ended pieces.run = recording_ended pieces.bytes pieces.run scribe ended going_on is pieces.recording in
      let whole : Recording pieces.bytes last (pieces.run ++ more.run) = subst (λ (l : List ℕ). Recording pieces.bytes last (pieces.run ++ l)) (sym more.given.new_is) (more.given.recording pieces.bytes pieces.run fed) in
      let lane_is : last.lane ≡ lane = more.given.lane ∙ ap (λ (s : Scribing). s.lane) is ∙ under in
      record {
        bytes = pieces.bytes;
        whole = pieces.whole;
        bytes_are = pieces.recording.are_bytes;
        size = pieces.size;
        run = pieces.run ++ more.run;
        recorded = subst (λ (n : ℕ). IsRecorded n pieces.bytes (pieces.run ++ more.run)) lane_is (recording_whole pieces.bytes (pieces.run ++ more.run) last (more.given.ended ∙ ap (λ (s : Scribing). s.held.ended) is) none whole);
        was_heard = hears_then heard p q r pieces.run more.run pieces.was_heard more.was_heard;
        are_bytes = are_both pieces.run more.run pieces.are_bytes more.are_bytes;
        written = goes_grown_then before.folder.told between.told after.told pieces.run more.run pieces.written more.written;
        counts = record { folder = more.count ∙ pieces.counts.folder; site = pieces.counts.site };
        files = pieces.files;
      }

  pub file_recorded : {T E : Type 0} (result : Result T E) → OnOk result (WritesPackets between after ended last (HearsMore heard q r)) → OnOk result (HasNone last) → OnOk result (RecordsFile lane name before (filed after site) (HearsMore heard p r))
  file_recorded (Err fault) more none = tt
  file_recorded (Ok done) more none = whole_file more none

-- ---- the choice of the source

pub heard_input : (names : List (List ℕ)) (folder folder' : Seen Folder) (site : Seen Files) (input input' : Seen (List ℕ)) (heard : List ℕ → Type 0) (result : Result (Unit {0}) RecordFault) → length names ≤ 0 → OnOk result (RecordsBytes (fed folder input) (fed folder' input') heard) → IfErr result (HasRecordCause (fed folder input) (fed folder' input')) → HearsSources names (filed folder site) input (filed folder' site) input' heard result
heard_input [] folder folder' site input input' heard (Ok done) none recorded refused = (refl, recorded)
heard_input [] folder folder' site input input' heard (Err fault) none recorded refused = (refl, refused)
heard_input (name ∷ names) folder folder' site input input' heard result none recorded refused = absurd (omega (arith, none))

pub heard_files : (names given : List (List ℕ)) (folder folder' : Seen Folder) (site site' : Seen Files) (input : Seen (List ℕ)) (heard : List ℕ → Type 0) (result : Result (Unit {0}) RecordFault) → given ≡ names → 0 < length names → OnOk result ((run : List ℕ) × RecordsInTurn given (filed folder site) (filed folder' site') run × heard run) → IfErr result (HasFilesCause given (filed folder site) (filed folder' site')) → site'.told ≡ site.told → HearsSources names (filed folder site) input (filed folder' site') input heard result
heard_files [] given folder folder' site site' input heard result is some recorded refused same = absurd (omega (arith, some))
heard_files (name ∷ names) given folder folder' site site' input heard (Ok done) is some recorded refused same =
    (refl, same, recorded.0, subst (λ (l : List (List ℕ)). RecordsInTurn l (filed folder site) (filed folder' site') recorded.0) is recorded.1, recorded.2)
heard_files (name ∷ names) given folder folder' site site' input heard (Err fault) is some recorded refused same =
    (refl, same, subst (λ (l : List (List ℕ)). HasFilesCause l (filed folder site) (filed folder' site') fault) is refused)

-- what was written is the step, with the rows of what was heard
module _ (folder folder' : Seen Folder) (site site' : Seen Files) (input input' : Seen (List ℕ)) (heard : List ℕ → Type 0) (rests : Goes folder.told folder'.told SameButDraft) where
  pub heard_run : (names : List (List ℕ)) (done : Unit {0}) → HearsSources names (filed folder site) input (filed folder' site') input' heard (Ok done) → (run : List ℕ) × heard run × Goes folder.told folder'.told (Grown run)
  heard_run [] done hears = (hears.1.run, hears.1.was_heard, hears.1.written)
  heard_run (name ∷ names) done hears = (hears.2, hears.4, hears.3.written)

  pub heard_rows : (names : List (List ℕ)) (done : Unit {0}) (hears : HearsSources names (filed folder site) input (filed folder' site') input' heard (Ok done)) (rows : List Row) → AreRowsOf (heard_run names done hears).0 rows → (spawner : Seen Spawning) (printed : Seen (List ℕ)) → RecordsSources names (work folder site spawner input printed) (work folder' site' spawner input' printed) (Ok rows)
  unfolding heard_run
  heard_rows [] done hears rows are spawner printed =
      subst (λ (s : Seen Files). RecordsSources [] (work folder site spawner input printed) (work folder' s spawner input' printed) (Ok rows)) (sym hears.0) (record {
        at = record {
          recorded = record { run = hears.1.run; recorded = hears.1.recorded; are_bytes = hears.1.are_bytes; rows_are = are; written = hears.1.written; counts = hears.1.counts };
          refused = tt;
          rests = rests;
        };
        rest = refl;
      })
  heard_rows (name ∷ names) done hears rows are spawner printed =
      subst (λ (i : Seen (List ℕ)). RecordsSources (name ∷ names) (work folder site spawner input printed) (work folder' site' spawner i printed) (Ok rows)) (sym hears.0) (record {
        at = record { recorded = record { run = hears.2; recorded = hears.3; rows_are = are }; refused = tt; rests = rests; files = hears.1 };
        rest = refl;
      })

  -- and memory was wanted behind it
  pub heard_wanting : (names : List (List ℕ)) (done : Unit {0}) → HearsSources names (filed folder site) input (filed folder' site') input' heard (Ok done) → (spawner : Seen Spawning) (printed : Seen (List ℕ)) → RecordsSources names (work folder site spawner input printed) (work folder' site' spawner input' printed) (Err NoMemory)
  heard_wanting [] done hears spawner printed =
      let reads = hears.1.recorded in
      subst (λ (s : Seen Files). RecordsSources [] (work folder site spawner input printed) (work folder' s spawner input' printed) (Err NoMemory)) (sym hears.0) (record {
        at = record { recorded = tt; refused = (hears.1.counts, record { bytes = reads.0; read = reads.1.read; few = reads.1.size }); rests = rests };
        rest = refl;
      })
  heard_wanting (name ∷ names) done hears spawner printed =
      subst (λ (i : Seen (List ℕ)). RecordsSources (name ∷ names) (work folder site spawner input printed) (work folder' site' spawner i printed) (Err NoMemory)) (sym hears.0) (record {
        at = record { recorded = tt; refused = inr (refl, hears.3.counts); rests = rests; files = hears.1 };
        rest = refl;
      })

  -- it was not written whole
  pub heard_fault : (names : List (List ℕ)) (fault : RecordFault) → HearsSources names (filed folder site) input (filed folder' site') input' heard (Err fault) → (spawner : Seen Spawning) (printed : Seen (List ℕ)) → RecordsSources names (work folder site spawner input printed) (work folder' site' spawner input' printed) (Err fault)
  heard_fault [] fault hears spawner printed =
      subst (λ (s : Seen Files). RecordsSources [] (work folder site spawner input printed) (work folder' s spawner input' printed) (Err fault)) (sym hears.0) (record {
        at = record { recorded = tt; refused = hears.1; rests = rests };
        rest = refl;
      })
  heard_fault (name ∷ names) fault hears spawner printed =
      subst (λ (i : Seen (List ℕ)). RecordsSources (name ∷ names) (work folder site spawner input printed) (work folder' site' spawner i printed) (Err fault)) (sym hears.0) (record {
        at = record { recorded = tt; refused = hears.2; rests = rests; files = hears.1 };
        rest = refl;
      })

-- ---- one behind others

in_turn_more : (lane : ℕ) (sources : List (List ℕ)) (events : List Event) (source : List ℕ) (more : List Event) → HasRecordedInTurn lane sources events → HasRecorded (lane + length sources) source more → HasRecordedInTurn lane (sources ++ source ∷ []) (events ++ more)
in_turn_more lane [] events source more none has = (more, [], ap (λ (l : List Event). l ++ more) none ∙ sym (append-nil more), subst (λ (n : ℕ). HasRecorded n source more) (omega arith) has, refl)
in_turn_more lane (first ∷ sources) events source more (front, rest, is, first_has, others) has = (
  front,
  rest ++ more,
  ap (λ (l : List Event). l ++ more) is ∙ append_assoc front rest more,
  first_has,
  in_turn_more (lane + 1) sources rest source more others (subst (λ (n : ℕ). HasRecorded n source more) (omega arith) has),
)

files_more : (names : List (List ℕ)) (name : List ℕ) (told : Option Files) (sources : List (List ℕ)) (bytes : List ℕ) → AreFiles names told sources → IsFile name told bytes → AreFiles (names ++ name ∷ []) told (sources ++ bytes ∷ [])
files_more names name told sources bytes files whole = record {
  count = length-append sources (bytes ∷ []) ∙ ap (λ (n : ℕ). n + 1) files.count ∙ sym (length-append names (name ∷ []));
  are = by told files.are whole;
}
  where
    by : (told : Option Files) → IfSome told (λ files. map files names ≡ map (λ bytes. Some bytes) sources) → IsFile name told bytes → IfSome told (λ files. map files (names ++ name ∷ []) ≡ map (λ bytes. Some bytes) (sources ++ bytes ∷ []))
    by None are whole = tt
    by (Some files) are whole =
        map-append files names (name ∷ [])
        ∙ ap (λ (l : List (Option (List ℕ))). l ++ files name ∷ []) are
        ∙ ap (λ (o : Option (List ℕ)). map (λ bytes. Some bytes) sources ++ o ∷ []) whole
        ∙ sym (map-append (λ bytes. Some bytes) sources (bytes ∷ []))

place_is : (lane n m : ℕ) → lane ≡ n → m ≡ n → lane ≡ 0 + m
place_is lane n m is same = omega (arith, is, same)

-- the next file behind those that were recorded
module _ (names : List (List ℕ)) (name : List ℕ) (before between after : Filed) (run : List ℕ) (heard : List ℕ → Type 0) (done : RecordsInTurn names before between run) (lane : ℕ) (lane_is : lane ≡ length names) (file : RecordsFile lane name between after heard) where
  next_turn : HasRecordedInTurn 0 (done.sources ++ file.bytes ∷ []) (done.events ++ file.recorded.events)
  next_turn = in_turn_more 0 done.sources done.events file.bytes file.recorded.events done.recorded (subst (λ (n : ℕ). HasRecorded n file.bytes file.recorded.events) (place_is lane (length names) (length done.sources) lane_is done.are_files.count) file.recorded.has)

  pub records_more : length names < 64 → RecordsInTurn (names ++ name ∷ []) before after (run ++ file.run)
  records_more few = record {
    few = omega (arith, few, length-append names (name ∷ []));
    sources = done.sources ++ file.bytes ∷ [];
    are_files = files_more names name before.site.told done.sources file.bytes done.are_files (subst (λ (o : Option Files). IsFile name o file.bytes) done.files file.whole);
    are_bytes = All-append AreBytes done.sources (file.bytes ∷ []) done.are_bytes (All-cons AreBytes file.bytes [] file.bytes_are (All-nil AreBytes));
    sizes = All-append (λ bytes. length bytes ≤ most_bytes) done.sources (file.bytes ∷ []) done.sizes (All-cons (λ bytes. length bytes ≤ most_bytes) file.bytes [] file.size (All-nil (λ bytes. length bytes ≤ most_bytes)));
    events = done.events ++ file.recorded.events;
    recorded = next_turn;
    packets = (λ i. done.packets i ++ file.recorded.packets i) ∙ sym (flat_map-append canonical done.events file.recorded.events);
    run_is = are_both run file.run done.run_is file.are_bytes;
    written = goes_grown_then before.folder.told between.folder.told after.folder.told run file.run done.written file.written;
    counts = counts_then before between after done.counts file.counts;
    files = file.files ∙ done.files;
  }
