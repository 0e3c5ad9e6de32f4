-- The first note of what is held, and that a reader's notes are those of the stream.
use Rattle.std.specs.Prelude.{Option, Some, None}
use Rattle.std.proofs.Common.{◌≡◌, ◌⊎◌, ℕ, ◌≤◌, ◌<◌, Bool, true, false, List, [], ◌∷◌, ◌++◌, length, take, drop, refl, inl, inr, sym, ap, ◌∙◌, append_assoc, arith}
use Rattle.std.proofs.lemmas.List.{take-append-drop, length-take-le, drop_all}
use Rattle.packet_codec.specs.declared.event.Event.{Event}
use Rattle.packet_codec.specs.Grammar.{AreBytes}
use Rattle.packet_codec.specs.Header.{BeginsWithPacket, NeedsMore}
use Rattle.packet_codec.specs.Packet.{SpellsEvent}
use Rattle.packet_codec.specs.declared.front.Front.{Front}
use Rattle.packet_codec.specs.declared.front.Front.TheVariants.{Packet, More, No}
use Rattle.packet_codec.proofs.LookLemmas.{front_of_none}
use Rattle.stream_reader.specs.declared.note.Note.{Note}
use Rattle.stream_reader.specs.declared.note.Note.TheVariants as note
use Rattle.stream_reader.specs.Cut.{Piece, packet, foreign, BeginsWithPacketOf, IsCut, IsOpenCut}
use Rattle.stream_reader.specs.Notes.{foreign_note, notes_behind, notes_of}
use Rattle.stream_reader.specs.Stream.{Held, BeginsWithNotes, EndsWithNotes, HasGiven, IsSpent, GivesNote}
use Rattle.stream_reader.specs.Run.{AreForeign, StopsBy, IsRun}
use Rattle.stream_reader.specs.declared.first_note.First.{First}
use Rattle.stream_reader.specs.declared.first_note.First.TheVariants as found
use Rattle.stream_reader.specs.First.{IsFirst, FirstIs, IsMadeBy, front_behind, first_size}
use Rattle.stream_reader.proofs.FrontLemmas.{are_dropped, packet_some, begins_found, found_longer, found_needs_no_more, are_both}
use Rattle.stream_reader.proofs.CutLemmas.{found_not_empty, not_empty}
use Rattle.stream_reader.proofs.NotesLemmas.{foreign_pieces, run_goes_on, run_is_full, run_at_packet, run_at_end}
use Rattle.stream_reader.proofs.RunLemmas.{IsRunOf, run_of, run_longer, cut_of_run, open_cut_of_run}

-- ---- a packet

event_begins : (b rest : List ℕ) (e : Event) → BeginsWithPacketOf b e rest → BeginsWithNotes b (note.Event e ∷ []) rest
event_begins b rest e f = record {
  notes = λ more others are h. record { pieces = packet e ∷ h.pieces; cut = (rest ++ more, found_longer b rest more e f, h.cut); made = ap (λ (l : List Note). note.Event e ∷ l) h.made };
  decided = λ more others are h. record { pieces = packet e ∷ h.pieces; cut = (rest ++ more, found_longer b rest more e f, h.cut); made = ap (λ (l : List Note). note.Event e ∷ l) h.made };
}

event_ends : (b rest : List ℕ) (e : Event) → BeginsWithPacketOf b e rest → EndsWithNotes b (note.Event e ∷ []) rest
event_ends b rest e f = record {
  notes = λ others h. record { pieces = packet e ∷ h.pieces; cut = (rest, f, h.cut); made = ap (λ (l : List Note). note.Event e ∷ l) h.made };
}

-- ---- a run in front of a packet

in_front : (ps : List Piece) (at_end : List ℕ → List Note) (run b rest : List ℕ) (e : Event) → 0 < length run → length run ≤ 65536 → BeginsWithPacketOf b e rest → IsCut b ps → notes_behind at_end (foreign_pieces run ++ ps) [] ≡ note.Foreign run ∷ notes_behind at_end ps []
in_front [] at_end run b rest e some short found cut = absurd (found_not_empty b rest e found cut)
in_front (packet e' ∷ ps) at_end run b rest e some short found cut = run_at_packet run at_end e' ps some short
in_front (foreign byte ∷ ps) at_end run b rest e some short found (rest', none, parts, cut) = absurd (none e rest found)

in_front_open : (ps : List Piece) (at_end : List ℕ → List Note) (run b rest : List ℕ) (e : Event) → AreBytes b → 0 < length run → length run ≤ 65536 → BeginsWithPacketOf b e rest → IsOpenCut b ps → notes_behind at_end (foreign_pieces run ++ ps) [] ≡ note.Foreign run ∷ notes_behind at_end ps []
in_front_open [] at_end run b rest e are some short found cut = absurd (found_needs_no_more b rest e are found cut)
in_front_open (packet e' ∷ ps) at_end run b rest e are some short found cut = run_at_packet run at_end e' ps some short
in_front_open (foreign byte ∷ ps) at_end run b rest e are some short found (rest', none, closed, parts, cut) = absurd (none e rest found)

run_begins : (run rest rest' : List ℕ) (e : Event) → AreBytes rest → 0 < length run → length run ≤ 65536 → IsRunOf false run rest → BeginsWithPacketOf rest e rest' → BeginsWithNotes (run ++ rest) (note.Foreign run ∷ []) rest
run_begins run rest rest' e are some short is f = record {
  notes = λ more others are' h. record {
    pieces = foreign_pieces run ++ h.pieces;
    cut = rw (append_assoc run rest more) (cut_of_run run (rest ++ more) false h.pieces (run_longer run rest more are' is) h.cut);
    made = ap (λ (l : List Note). note.Foreign run ∷ l) h.made ∙ sym (in_front h.pieces foreign_note run (rest ++ more) (rest' ++ more) e some short (found_longer rest rest' more e f) h.cut);
  };
  decided = λ more others are' h. record {
    pieces = foreign_pieces run ++ h.pieces;
    cut = rw (append_assoc run rest more) (open_cut_of_run run (rest ++ more) h.pieces (run_longer run rest more are' is) h.cut);
    made = ap (λ (l : List Note). note.Foreign run ∷ l) h.made ∙ sym (in_front_open h.pieces (λ run. []) run (rest ++ more) (rest' ++ more) e (are_both rest more are are') some short (found_longer rest rest' more e f) h.cut);
  };
}

run_ends : (run rest rest' : List ℕ) (e : Event) → 0 < length run → length run ≤ 65536 → IsRunOf true run rest → BeginsWithPacketOf rest e rest' → EndsWithNotes (run ++ rest) (note.Foreign run ∷ []) rest
run_ends run rest rest' e some short is f = record {
  notes = λ others h. record {
    pieces = foreign_pieces run ++ h.pieces;
    cut = cut_of_run run rest true h.pieces is h.cut;
    made = ap (λ (l : List Note). note.Foreign run ∷ l) h.made ∙ sym (in_front h.pieces foreign_note run rest rest' e some short f h.cut);
  };
}

-- ---- a full run

full_begins : (run rest : List ℕ) → length run ≡ 65536 → IsRunOf false run rest → BeginsWithNotes (run ++ rest) (note.Foreign run ∷ []) rest
full_begins run rest full is = record {
  notes = λ more others are h. record {
    pieces = foreign_pieces run ++ h.pieces;
    cut = rw (append_assoc run rest more) (cut_of_run run (rest ++ more) false h.pieces (run_longer run rest more are is) h.cut);
    made = ap (λ (l : List Note). note.Foreign run ∷ l) h.made ∙ sym (run_is_full run foreign_note h.pieces [] (omega arith) (omega arith));
  };
  decided = λ more others are h. record {
    pieces = foreign_pieces run ++ h.pieces;
    cut = rw (append_assoc run rest more) (open_cut_of_run run (rest ++ more) h.pieces (run_longer run rest more are is) h.cut);
    made = ap (λ (l : List Note). note.Foreign run ∷ l) h.made ∙ sym (run_is_full run (λ run. []) h.pieces [] (omega arith) (omega arith));
  };
}

full_ends : (run rest : List ℕ) → length run ≡ 65536 → IsRunOf true run rest → EndsWithNotes (run ++ rest) (note.Foreign run ∷ []) rest
full_ends run rest full is = record {
  notes = λ others h. record {
    pieces = foreign_pieces run ++ h.pieces;
    cut = cut_of_run run rest true h.pieces is h.cut;
    made = ap (λ (l : List Note). note.Foreign run ∷ l) h.made ∙ sym (run_is_full run foreign_note h.pieces [] (omega arith) (omega arith));
  };
}

-- ---- a run up to the end

no_pieces : (ps : List Piece) → IsCut [] ps → ps ≡ []
no_pieces [] cut = refl
no_pieces (packet e ∷ ps) (rest, found, cut) = absurd (not_empty rest e found)
no_pieces (foreign byte ∷ ps) (rest, none, parts, cut) = absurd (omega (arith, ap length parts))

last_ends : (run rest : List ℕ) → rest ≡ [] → 0 < length run → length run ≤ 65536 → IsRunOf true run rest → EndsWithNotes (run ++ rest) (note.Foreign run ∷ []) rest
last_ends run rest empty some short is = record {
  notes = λ others h.
      let cut : IsCut [] h.pieces = rw empty at h.cut in
      let none : others ≡ [] = h.made ∙ ap notes_of (no_pieces h.pieces cut) in
      record {
        pieces = foreign_pieces run ++ [];
        cut = cut_of_run run rest true [] is empty;
        made = ap (λ (l : List Note). note.Foreign run ∷ l) none ∙ sym (run_at_end run some short);
      };
}

-- ---- the first note

pub gives_event : (ended : Bool) (b rest : List ℕ) (e : Event) → BeginsWithPacketOf b e rest → HasGiven ended b (note.Event e ∷ []) rest
gives_event false b rest e f = event_begins b rest e f
gives_event true b rest e f = event_ends b rest e f

-- why a run that is made a note stops
abbrev RunStops : Bool → List ℕ → List ℕ → Front → Type 0
RunStops ended run rest (Packet size) = BeginsWithPacket rest size
RunStops ended run rest More = ⊥
RunStops ended run rest No = (length run ≡ 65536) ⊎ ((ended ≡ true) × (rest ≡ []))

gives_run : (front : Front) (ended : Bool) (run rest : List ℕ) → AreBytes rest → 0 < length run → length run ≤ 65536 → IsRunOf ended run rest → RunStops ended run rest front → HasGiven ended (run ++ rest) (note.Foreign run ∷ []) rest
gives_run (Packet size) false run rest are some short is p = run_begins run rest (drop size rest) p.packet.0 are some short is (begins_found rest size p)
gives_run (Packet size) true run rest are some short is p = run_ends run rest (drop size rest) p.packet.0 some short is (begins_found rest size p)
gives_run More ended run rest are some short is stop = absurd stop
gives_run No false run rest are some short is (inl full) = full_begins run rest full is
gives_run No true run rest are some short is (inl full) = full_ends run rest full is
gives_run No false run rest are some short is (inr (end, empty)) = absurd cc
gives_run No true run rest are some short is (inr (end, empty)) = last_ends run rest empty some short is

run_stops : (front : Front) (ended : Bool) (b : List ℕ) (count : ℕ) → IsRun ended b count front → (front ≡ More → ⊥) → RunStops ended (take count b) (drop count b) front
run_stops (Packet size) ended b count run closed = run.stops
run_stops More ended b count run closed = closed refl
run_stops No ended b count run closed = stops run.stops
  where
    stops : StopsBy ended b count No → RunStops ended (take count b) (drop count b) No
    stops (inl full) = inl (length-take-le count b run.in_range ∙ full)
    stops (inr (end, all)) = inr (end, drop_all count b (omega arith))

pub first_is_event : (ended : Bool) (b : List ℕ) (size : ℕ) (e : Event) → size ≤ length b → SpellsEvent (take size b) e → IsFirst ended b (note.Event e) size
first_is_event ended b size e in_range spells = record {
  some = omega (arith, packet_some (take size b) e spells, length-take-le size b in_range);
  in_range = in_range;
  made = spells;
  gives = gives_event ended b (drop size b) e (record { front = take size b; parts = sym (take-append-drop size b); spelled = spells });
}

pub first_is_run : (ended : Bool) (b : List ℕ) (count : ℕ) (front : Front) → AreBytes b → 0 < count → (front ≡ More → ⊥) → IsRun ended b count front → IsFirst ended b (note.Foreign (take count b)) count
first_is_run ended b count front are some closed run =
    let len : length (take count b) ≡ count = length-take-le count b run.in_range in
    let gives : HasGiven ended (take count b ++ drop count b) (note.Foreign (take count b) ∷ []) (drop count b) =
    gives_run front ended (take count b) (drop count b) (are_dropped count b are) (omega arith) (omega (arith, run.short)) (run_of count b ended run.in_range run.are_foreign) (run_stops front ended b count run closed) in
    record { some = some; in_range = run.in_range; made = refl; gives = rw (take-append-drop count b) at gives }

-- ---- no note

pub spent_open : (ended : Bool) (b : List ℕ) (count : ℕ) (front : Front) → front ≡ More → IsRun ended b count front → IsSpent ended b
spent_open ended b count front front-is run = is ended run.in_range run.are_foreign (rw front-is at run.stops)
  where
    is : (ended : Bool) → count ≤ length b → AreForeign ended b count → StopsBy ended b count More → IsSpent ended b
    is true in_range are (going_on, less, more) = absurd cc
    is false in_range are (going_on, less, more) =
        let len : length (take count b) ≡ count = length-take-le count b in_range in
        let cut : IsOpenCut (take count b ++ drop count b) (foreign_pieces (take count b) ++ []) = open_cut_of_run (take count b) (drop count b) [] (run_of count b false in_range are) more in
        record {
          pieces = foreign_pieces (take count b) ++ [];
          cut = rw (take-append-drop count b) at cut;
          made = sym (run_goes_on (take count b) (λ run. []) [] [] (omega arith));
        }

pub spent_more : (ended : Bool) (b : List ℕ) → ended ≡ false → NeedsMore b → IsSpent ended b
spent_more true b going_on more = absurd cc
spent_more false b going_on more = record { pieces = []; cut = more; made = refl }

pub spent_empty : (ended : Bool) (b : List ℕ) → length b ≤ 0 → IsSpent ended b
spent_empty ended [] none = empty ended
  where
    empty : (ended : Bool) → IsSpent ended []
    empty true = refl
    empty false = spent_more false [] refl (inl (front_of_none [] none))
spent_empty ended (byte ∷ b) none = absurd (omega arith)

-- ---- a step of the reader

pub gives_first : (before after : Held) (first : Note) (size : ℕ) → IsFirst before.ended before.bytes first size → after ≡ record { bytes = drop size before.bytes; ended = before.ended } → GivesNote before first after
gives_first before after first size is after-is = rw after-is (record {
  front = take size before.bytes;
  parts = sym (take-append-drop size before.bytes);
  some = omega (arith, is.some, length-take-le size before.bytes is.in_range);
  made = is.made;
  first = is.gives;
})

not_more : (behind : Option ℕ) → front_behind behind ≡ More → ⊥
not_more None is = absurd cc
not_more (Some size) is = absurd cc

pub gives_made : (before after : Held) (first : First) (given : Note) → AreBytes before.bytes → FirstIs before.ended before.bytes first → after ≡ record { bytes = drop (first_size first) before.bytes; ended = before.ended } → IsMadeBy before.bytes first given → GivesNote before given after
gives_made before after (found.Packet size) (note.Event e) are is after-is made = gives_first before after (note.Event e) size (first_is_event before.ended before.bytes size e is.in_range made) after-is
gives_made before after (found.Packet size) (note.Foreign run) are is after-is made = absurd made
gives_made before after (found.Foreign size behind) (note.Event e) are is after-is made = absurd made
gives_made before after (found.Foreign size behind) (note.Foreign run) are is after-is made =
    rw made (gives_first before after (note.Foreign (take size before.bytes)) size (first_is_run before.ended before.bytes size (front_behind behind) are is.0 (not_more behind) is.1) after-is)
gives_made before after found.Nothing given are is after-is made = absurd made
