-- What is recorded, one piece after another.
use Rattle.std.proofs.Common.{◌≡◌, ℕ, ◌<◌, true, false, Option, Some, None, List, [], ◌∷◌, ◌++◌, Result, Ok, Err, refl, sym, ap, subst, ◌∙◌, append_assoc, length, length-append, arith}
use Rattle.std.specs.Prelude.{IfSome, IfErr, IsErrAnd}
use Rattle.std.specs.Io.KnownBytes.{Consumes}
use Rattle.std.specs.List.{flat_map}
use Rattle.std.proofs.lemmas.List.{append-nil}
use Rattle.std.proofs.lemmas.List.Concat.{flat_map-append}
use Rattle.std.proofs.lemmas.List.Elements.{All-nil, All-cons, All-append}
use Rattle.edge_io.specs.Causes.{Rose}
use Rattle.edge_io.specs.Disk.{Folder}
use Rattle.edge_io.specs.Seen.{Seen}
use Rattle.edge_io.specs.Steps.{Goes, Grown}
use Rattle.edge_io.specs.Limits.{most_bytes}
use Rattle.packet_codec.specs.Canonical.{IsEvent, Fits, canonical}
use Rattle.packet_codec.specs.Grammar.{AreBytes}
use Rattle.packet_codec.specs.Packets.{ArePackets}
use Rattle.run_shelf.proofs.DraftLemmas.{goes_grown_then}
use Rattle.stream_reader.proofs.FrontLemmas.{are_both}
use Rattle.worker_lane.specs.Recorded.{IsRecorded}
use Rattle.worker_lane.specs.Scribing.{Scribing, finished, Recording, GivesOne, GivesPackets, HasNone}
use Rattle.worker_lane.proofs.RecordingLemmas.{packets_none, recording_ended, recording_whole}
use Rattle.command_steps.specs.Hearing.{HearsMore}
use Rattle.command_steps.specs.Outside.{Fed, fed}
use Rattle.command_steps.specs.Recording.{ReadsFew, ReadsTooMany, NoneFailed, WritesPackets, HasRecordCause, HasWriteCause, RecordsInput, RecordsPieces, RecordsBytes}
use Rattle.command_steps.specs.declared.input_recorder.RecordFault.{RecordFault}
use Rattle.command_steps.specs.declared.input_recorder.RecordFault.TheVariants.{Shelf, Input, TooLong, Site, NoFile, FileTooLong, NoMemory}
use Rattle.command_steps.proofs.HearLemmas.{hears_then}

-- ---- packets that are written

given_then : (x y z : Scribing) (run packets : List ℕ) → GivesPackets x [] y run → GivesPackets y [] z packets → GivesPackets x [] z (run ++ packets)
given_then x y z run packets g h = record {
  lane = h.lane ∙ g.lane;
  ended = h.ended ∙ g.ended;
  packets = g.packets ++ h.packets;
  new_is = ap (λ (l : List ℕ). l ++ packets) g.new_is ∙ ap (λ (l : List ℕ). g.packets ++ l) h.new_is;
  recording = λ fed written r. rw (← append_assoc written g.packets h.packets) (h.recording fed (written ++ g.packets) (g.recording fed written r));
}

-- the next ones behind those that were written
pub writes_then : {L : Type 0} (heard : L → L → List (List ℕ) → Type 0) (a b c : Seen Folder) (x y z : Scribing) (p q r : L) (packets : List ℕ) → WritesPackets a b x y (HearsMore heard p q) → GivesPackets y [] z packets → AreBytes packets → Goes b.told c.told (Grown packets) → HearsMore heard q r packets → c.faults ≡ b.faults → WritesPackets a c x z (HearsMore heard p r)
writes_then heard a b c x y z p q r packets w given are written more count = record {
  run = w.run ++ packets;
  given = given_then x y z w.run packets w.given given;
  are_bytes = are_both w.run packets w.are_bytes are;
  written = goes_grown_then a.told b.told c.told w.run packets w.written written;
  was_heard = hears_then heard p q r w.run packets w.was_heard more;
  count = count ∙ w.count;
}

-- none was given
pub none_given : (before after : Scribing) (old new : List ℕ) → after ≡ before → new ≡ old → GivesPackets before old after new
none_given before after old new same kept = rw (same, kept) (packets_none before old)

-- no packets
pub no_packets : ArePackets []
no_packets = ([], record { are_events = All-nil IsEvent; fit = All-nil Fits; packets = refl })

-- behind packets it is a packet more
pub packet_more : (before after : Scribing) (old new : List ℕ) → GivesOne before old after new → ArePackets old → ArePackets new
packet_more before after old new (event, g) (events, are) = (
  events ++ event ∷ [],
  record {
    are_events = All-append IsEvent events (event ∷ []) are.are_events (All-cons IsEvent event [] g.has_packet.is_event (All-nil IsEvent));
    fit = All-append Fits events (event ∷ []) are.fit (All-cons Fits event [] g.has_packet.fits (All-nil Fits));
    packets =
        g.new_is
        ∙ ap (λ (l : List ℕ). l ++ canonical event) are.packets
        ∙ ap (λ (l : List ℕ). flat_map canonical events ++ l) (sym (append-nil (canonical event)))
        ∙ sym (flat_map-append canonical events (event ∷ []));
  },
)

-- ---- what is recorded

-- the input has more than was read, where that is more than it may have
pub told_longer : (left after : Option (List ℕ)) → ReadsTooMany left after → IfSome left (λ bytes. most_bytes < length bytes)
told_longer None after reads = tt
told_longer (Some all) None reads = absurd reads.read
told_longer (Some all) (Some rest) reads = let size = ap length reads.read ∙ length-append reads.bytes rest in omega (arith, size, reads.many)

-- nothing was read
pub reads_none : (left : Option (List ℕ)) → ReadsFew left left
reads_none left = record { bytes = []; read = none left; few = omega arith }
  where
    none : (left : Option (List ℕ)) → Consumes left left []
    none None = tt
    none (Some all) = refl

-- a fault behind pieces that were recorded
pub write_cause : (before : Fed) (folder between : Seen Folder) (input : Seen (List ℕ)) (fault : RecordFault) → NoneFailed before (fed between input) → HasWriteCause between folder fault → ReadsFew before.input.told input.told → HasRecordCause before (fed folder input) fault
write_cause before folder between input (Shelf call) none cause reads = (subst (λ (n : ℕ). Rose n folder.faults) none.folder cause.0, none.input, cause.1, reads)
write_cause before folder between input Input none cause reads = absurd cause
write_cause before folder between input TooLong none cause reads = absurd cause
write_cause before folder between input Site none cause reads = absurd cause
write_cause before folder between input (NoFile name) none cause reads = absurd cause
write_cause before folder between input (FileTooLong name) none cause reads = absurd cause
write_cause before folder between input NoMemory none cause reads = (record { folder = cause ∙ none.folder; input = none.input }, reads)

-- an exit by `?`
pub caused_by : {A : Type 0} (before after : Fed) (result : Result A RecordFault) (fault : RecordFault) → IsErrAnd result (λ given. given ≡ fault) → HasRecordCause before after fault → IfErr result (HasRecordCause before after)
caused_by before after (Ok done) fault is cause = tt
caused_by before after (Err given) fault is cause = subst (HasRecordCause before after) (sym is) cause

-- the end of the input, of which the last packets were written
module _ (before : Fed) (between after : Seen Folder) (input : Seen (List ℕ)) {L : Type 0} (heard : L → L → List (List ℕ) → Type 0) (scribe ended last : Scribing) (p q r : L) (pieces : RecordsPieces before (fed between input) scribe (HearsMore heard p q)) (more : WritesPackets between after ended last (HearsMore heard q r)) where
  run : List ℕ
  run = pieces.run ++ more.run

  recorded : scribe.held.ended ≡ false → ended ≡ finished scribe → scribe.lane ≡ 0 → HasNone last → RecordsInput before.input.told input.told run
  unfolding run
  recorded going_on is lane none =
      let fed : Recording pieces.bytes ended pieces.run = recording_ended pieces.bytes pieces.run scribe ended going_on is pieces.recording in
      let whole : Recording pieces.bytes last (pieces.run ++ more.run) = subst (λ (l : List ℕ). Recording pieces.bytes last (pieces.run ++ l)) (sym more.given.new_is) (more.given.recording pieces.bytes pieces.run fed) in
      let under : last.lane ≡ 0 = more.given.lane ∙ ap (λ (s : Scribing). s.lane) is ∙ lane in (
        pieces.bytes,
        record { read = pieces.read; at_end = pieces.at_end; size = pieces.size; are_bytes = pieces.recording.are_bytes },
        subst (λ (n : ℕ). IsRecorded n pieces.bytes (pieces.run ++ more.run)) under (recording_whole pieces.bytes (pieces.run ++ more.run) last (more.given.ended ∙ ap (λ (s : Scribing). s.held.ended) is) none whole),
      )

  pub recorded_bytes : scribe.held.ended ≡ false → ended ≡ finished scribe → scribe.lane ≡ 0 → HasNone last → RecordsBytes before (fed after input) (HearsMore heard p r)
  unfolding run
  recorded_bytes going_on is lane none = record {
    run = pieces.run ++ more.run;
    recorded = recorded going_on is lane none;
    are_bytes = are_both pieces.run more.run pieces.are_bytes more.are_bytes;
    was_heard = hears_then heard p q r pieces.run more.run pieces.was_heard more.was_heard;
    written = goes_grown_then before.folder.told between.told after.told pieces.run more.run pieces.written more.written;
    counts = record { folder = more.count ∙ pieces.counts.folder; input = pieces.counts.input };
  }
