-- Foreign bytes at the front, and the cut of a stream that begins with them.
use Rattle.std.proofs.Common.{eq-eqb, ◌-◌, ◌≡◌, ℕ, zero, suc, ◌+◌, ◌≤◌, ◌<◌, min, Bool, true, false, List, [], ◌∷◌, ◌++◌, length, get_or, take, drop, refl, inl, inr, sym, ap, ◌∙◌, append_assoc, arith}
use Rattle.std.proofs.lemmas.Bool.{cases_lt}
use Rattle.std.proofs.lemmas.List.{take-append-drop, get_or-take, get_or-drop, length-drop, drop-append-le}
use Rattle.std.specs.Prelude.{slice_index, ◌==◌, Option, Some, None, IfSome}
use Rattle.packet_codec.specs.Packet.{signature}
use Rattle.packet_codec.specs.Grammar.{AreBytes}
use Rattle.packet_codec.specs.Header.{BeginsWithPacket, NeedsMore, LooksLike}
use Rattle.packet_codec.specs.declared.front.Front.TheVariants.{More, No}
use Rattle.packet_codec.specs.Shapes.{HeaderStands}
use Rattle.packet_codec.specs.Sight.{IsSightOf}
use Rattle.packet_codec.specs.declared.header.Header.{Header}
use Rattle.packet_codec.specs.declared.front_reader.Sight.{Sight}
use Rattle.packet_codec.specs.declared.front_reader.Sight.TheVariants as sight
use Rattle.packet_codec.proofs.GrammarLemmas.{fits_from_are}
use Rattle.packet_codec.proofs.SpelledLemmas.{read_packet}
use Rattle.packet_codec.proofs.LookLemmas.{front_of_none, header_begins, is_no_packet}
use Rattle.packet_codec.proofs.AnswerLemmas.{packet_needs_no_more}
use Rattle.stream_reader.specs.Cut.{Piece, IsCut, IsOpenCut}
use Rattle.stream_reader.specs.Run.{IsForeign, AreForeign, IsRun}
use Rattle.stream_reader.proofs.FrontLemmas.{packet_longer, none_found, stays_none, stays_closed, header_first, front_first, are_dropped}
use Rattle.stream_reader.proofs.NotesLemmas.{foreign_pieces}

-- ---- one place

-- a place at which the signature does not stand
pub is_foreign : (ended : Bool) (b : List ℕ) → AreBytes b → 0 < length b → (get_or b 0 0 ≡ signature → ⊥) → IsForeign ended b
is_foreign ended b are some other = record {
  none = λ size p. other (header_first b size p.header);
  never = λ going_on more. never more;
}
  where
    never : NeedsMore b → ⊥
    never (inl front) = other (front_first b some front)
    never (inr (size, begins, less)) = other (header_first b size begins)

pub foreign_by_look : (ended : Bool) (b : List ℕ) → LooksLike b No → IsForeign ended b
foreign_by_look ended b looks = record { none = looks.0; never = λ going_on. looks.1 }

-- a whole header, with as many bytes as it tells of, asks for no more
whole_needs_no_more : (b : List ℕ) (header : Header) → AreBytes b → HeaderStands b header → header.size ≤ length b → NeedsMore b → ⊥
whole_needs_no_more b header are stands in_range more = elim (read_packet (take header.size b)) [
  | inl packet ↦ packet_needs_no_more b header.size are (record { header = header_begins b header stands; in_range = in_range; packet = packet }) more
  | inr never ↦ (is_no_packet b header (fits_from_are b are) stands in_range never).1 more
]

-- so there are bytes
pub candidate_some : (b : List ℕ) (header : Header) → HeaderStands b header → header.size ≤ length b → 0 < length b
candidate_some b header stands in_range = omega (arith, stands.spelled.room)

-- where such a header stands, what is seen to be no packet is foreign
pub foreign_by_sight : (ended : Bool) (b : List ℕ) (header : Header) (seen : Sight) → AreBytes b → HeaderStands b header → header.size ≤ length b → IsSightOf b seen → ((packet : List ℕ) → seen ≡ sight.Packet packet → ⊥) → IsForeign ended b
foreign_by_sight ended b header (sight.Packet packet) are stands in_range sees other = absurd (other packet refl)
foreign_by_sight ended b header sight.More are stands in_range sees other = absurd (whole_needs_no_more b header are stands in_range sees)
foreign_by_sight ended b header sight.No are stands in_range sees other = foreign_by_look ended b sees

pub foreign_at_end : (b : List ℕ) → AreBytes b → NeedsMore b → IsForeign true b
foreign_at_end b are more = record { none = λ size p. packet_needs_no_more b size are p more; never = λ going_on. absurd cc }

pub ends_foreign : (ended : Bool) (b : List ℕ) → IsForeign ended b → IsForeign true b
ends_foreign ended b is = record { none = is.none; never = λ going_on. absurd cc }

pub foreign_longer : (b more : List ℕ) → AreBytes more → IsForeign false b → IsForeign false (b ++ more)
foreign_longer b more are is = record {
  none = stays_none b more are is.none (is.never refl);
  never = λ going_on. stays_closed b more are (is.never refl);
}

-- ---- places in a row

at_start : (i : ℕ) → i ≡ i + 0
at_start i = omega arith

pub foreign_from : (ended : Bool) (b : List ℕ) (from to : ℕ) → AreBytes b → to ≤ length b → ((i : ℕ) → from ≤ i → i < to → get_or b i 0 ≡ signature → ⊥) → AreForeign ended b from → AreForeign ended b to
foreign_from ended b from to are in_range passed before i below = elim (cases_lt i from) [
  | inl less ↦ before i less
  | inr le ↦ is_foreign ended (drop i b) (are_dropped i b are) (omega (arith, length-drop i b)) (λ is. passed i le below (ap (λ (n : ℕ). get_or b n 0) (at_start i) ∙ sym (get_or-drop i b 0 0) ∙ is))
]

pub one_foreign_more : (ended : Bool) (b : List ℕ) (count : ℕ) → AreForeign ended b count → IsForeign ended (drop count b) → AreForeign ended b (count + 1)
one_foreign_more ended b count before here i below = elim (cases_lt i count) [
  | inl less ↦ before i less
  | inr le ↦ (
      let same : i ≡ count = omega arith in
      rw same here
      )
]

pub one_foreign : (ended : Bool) (b : List ℕ) → IsForeign ended b → AreForeign ended b 1
one_foreign ended b is i below =
    let same : i ≡ 0 = omega arith in
    rw same is

-- the same by cases on the run
abbrev pub IsRunOf : Bool → List ℕ → List ℕ → Type 0
IsRunOf ended [] rest = Unit {0}
IsRunOf ended (byte ∷ run) rest = IsForeign ended (byte ∷ (run ++ rest)) × IsRunOf ended run rest

pub run_of : (count : ℕ) (b : List ℕ) (ended : Bool) → count ≤ length b → AreForeign ended b count → IsRunOf ended (take count b) (drop count b)
run_of zero b ended in_range are = tt
run_of (suc count) [] ended in_range are = absurd (omega arith)
run_of (suc count) (byte ∷ b) ended in_range are = (
  rw (take-append-drop count b) (are 0 (omega arith)),
  run_of count b ended (omega arith) (λ i below. are (suc i) (omega arith)),
)

pub run_longer : (run rest more : List ℕ) → AreBytes more → IsRunOf false run rest → IsRunOf false run (rest ++ more)
run_longer [] rest more are is = tt
run_longer (byte ∷ run) rest more are (here, others) = (
  rw (← append_assoc run rest more) (foreign_longer (byte ∷ (run ++ rest)) more are here),
  run_longer run rest more are others,
)

pub cut_of_run : (run rest : List ℕ) (ended : Bool) (ps : List Piece) → IsRunOf ended run rest → IsCut rest ps → IsCut (run ++ rest) (foreign_pieces run ++ ps)
cut_of_run [] rest ended ps is cut = cut
cut_of_run (byte ∷ run) rest ended ps (here, others) cut = (run ++ rest, none_found (byte ∷ (run ++ rest)) here.none, refl, cut_of_run run rest ended ps others cut)

pub open_cut_of_run : (run rest : List ℕ) (ps : List Piece) → IsRunOf false run rest → IsOpenCut rest ps → IsOpenCut (run ++ rest) (foreign_pieces run ++ ps)
open_cut_of_run [] rest ps is cut = cut
open_cut_of_run (byte ∷ run) rest ps (here, others) cut = (run ++ rest, none_found (byte ∷ (run ++ rest)) here.none, here.never refl, refl, open_cut_of_run run rest ps others cut)

-- ---- steps of the reader

pub foreign_fed : (ended : Bool) (items piece new : List ℕ) (given count : ℕ) → ended ≡ false → AreBytes piece → given + count ≤ length items → new ≡ items ++ piece → AreForeign ended (drop given items) count → AreForeign ended (drop given new) count
foreign_fed true items piece new given count going_on are in_range new-is before i below = absurd cc
foreign_fed false items piece new given count going_on are in_range new-is before i below =
    let rest : drop given new ≡ drop given items ++ piece = ap (drop given) new-is ∙ drop-append-le given items piece (omega arith) in
    let place : drop i (drop given new) ≡ drop i (drop given items) ++ piece = ap (drop i) rest ∙ drop-append-le i (drop given items) piece (omega (arith, length-drop given items)) in
    rw place (foreign_longer (drop i (drop given items)) piece are (before i below))

-- a packet that is known to stand there
pub packet_fed : (packet : Option ℕ) (items piece new : List ℕ) (given : ℕ) → given ≤ length items → new ≡ items ++ piece → IfSome packet (BeginsWithPacket (drop given items)) → IfSome packet (BeginsWithPacket (drop given new))
packet_fed None items piece new given in_range new-is known = tt
packet_fed (Some size) items piece new given in_range new-is known =
    let rest : drop given new ≡ drop given items ++ piece = ap (drop given) new-is ∙ drop-append-le given items piece in_range in
    rw rest (packet_longer (drop given items) piece size known)

pub foreign_ended : (ended : Bool) (b : List ℕ) (count : ℕ) → AreForeign ended b count → AreForeign true b count
foreign_ended ended b count before i below = ends_foreign ended (drop i b) (before i below)

pub run_is_open : (ended : Bool) (b : List ℕ) (count room : ℕ) → ended ≡ false → room ≡ min (length b) 65536 → count ≤ room → room ≤ count → (count ≡ 65536 → ⊥) → AreForeign ended b count → IsRun ended b count More
run_is_open ended b count room going_on room-is high all short are =
    let len : count ≡ length b = omega arith in
    record {
      in_range = omega arith;
      short = omega arith;
      are_foreign = are;
      stops = (going_on, omega arith, inl (front_of_none (drop count b) (omega (arith, length-drop count b))));
    }

pub search_passed : (bytes : List ℕ) (from n m i : ℕ) → ((k : ℕ) → 0 ≤ k → k < m → slice_index (take n (drop from bytes)) k == signature ≡ true → ⊥) → m ≤ n → from ≤ i → i < from + m → get_or bytes i 0 ≡ signature → ⊥
search_passed bytes from n m i nowhere short low high is =
    let k : from + (i - from) ≡ i = omega arith in
    let at : get_or (take n (drop from bytes)) (i - from) 0 ≡ signature = get_or-take n (drop from bytes) (i - from) 0 (omega arith) ∙ get_or-drop from bytes (i - from) 0 ∙ ap (λ (j : ℕ). get_or bytes j 0) k ∙ is in
    nowhere (i - from) (omega arith) (omega arith) (eq-eqb _ signature at)
