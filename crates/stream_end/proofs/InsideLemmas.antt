-- Where a stream ends inside a packet, from one note to the next.
use Rattle.std.proofs.Common.{◌≡◌, ℕ, suc, ◌+◌, ◌-◌, ◌≤◌, ◌<◌, All, Bool, true, false, List, [], ◌∷◌, ◌++◌, length, take, drop, get_or, refl, inl, inr, sym, ap, ◌∙◌, append_assoc, append-nil, arith}
use Rattle.std.specs.Prelude.{nat_le, ◌&&◌, ◌==◌}
use Rattle.std.specs.Str.{IsUtf8}
use Rattle.std.specs.Cmp.Derive.{both_true}
use Rattle.std.proofs.lemmas.Bool.{cases_lt, eq-eqb, eqb-true}
use Rattle.std.proofs.lemmas.Bool.Decides.{nat_tests}
use Rattle.std.proofs.lemmas.List.{length-append, length-drop, take_all}
use Rattle.packet_codec.specs.declared.event.Event.{Event}
use Rattle.std.specs.List.{flat_map}
use Rattle.std.proofs.lemmas.List.Elements.{All-nil, All-head, All-tail}
use Rattle.packet_codec.specs.Canonical.{canonical, IsEvent, Fits}
use Rattle.packet_codec.specs.Grammar.{AreBytes}
use Rattle.packet_codec.specs.Header.{BeginsWithPacket, NeedsMore, LooksLike}
use Rattle.packet_codec.specs.declared.front.Front.TheVariants.{No}
use Rattle.packet_codec.specs.Packet.{IsPacket, signature}
use Rattle.packet_codec.proofs.AnswerLemmas.{decided_more}
use Rattle.packet_codec.proofs.DecidedLemmas.{Decided, decided_all, decided_less}
use Rattle.packet_codec.proofs.LookLemmas.{front_of_none}
use Rattle.packet_codec.proofs.SpellingLemmas.{canonical_spells}
use Rattle.stream_reader.specs.declared.note.Note.{Note}
use Rattle.stream_reader.specs.declared.note.Note.TheVariants as note
use Rattle.stream_reader.specs.Cut.{Piece, packet, foreign, BeginsWithPacketOf, BeginsWithNone, IsOpenCut}
use Rattle.stream_reader.specs.Notes.{foreign_note, notes_behind, HasDecided}
use Rattle.stream_reader.specs.Stream.{HasGiven, IsMadeOf}
use Rattle.stream_reader.proofs.CutLemmas.{one_open_cut}
use Rattle.stream_reader.proofs.ExistLemmas.{some_decided}
use Rattle.stream_reader.proofs.FrontLemmas.{are_before, are_behind, are_both, are_dropped, begins_found, found_longer, found_needs_no_more, front_first, header_first, none_found, one_found, stays_none}
use Rattle.stream_reader.proofs.NotesLemmas.{one_more, last_one}
use Rattle.stream_end.specs.Character.{missing_after_byte, missing_after_bytes, missing_after_note, missing_after_pieces}
use Rattle.stream_end.specs.Inside.{LeavesTwo, EndsInsideBehind, EndsInside, HoldsBack, BeginsNoneIn, leaves_two, inside_if, ends_inside_behind, ends_inside}
use Rattle.stream_end.proofs.CharacterLemmas.{IsWithin, both_parts, text_within}

-- ---- the test tells it

same_rest : (bytes rest rest' : List ℕ) (byte byte' : ℕ) → bytes ≡ byte ∷ rest → bytes ≡ byte' ∷ rest' → rest ≡ rest'
same_rest bytes rest rest' byte byte' p q = ap (drop 1) (sym p ∙ q)

are_next : (bytes rest : List ℕ) (byte : ℕ) → AreBytes bytes → bytes ≡ byte ∷ rest → AreBytes rest
are_next bytes rest byte are parts = are_behind (byte ∷ []) rest (rw parts at are)

are_rest : (bytes rest : List ℕ) (e : Event) → AreBytes bytes → BeginsWithPacketOf bytes e rest → AreBytes rest
are_rest bytes rest e are f = behind f.front f.parts
  where
    behind : (front : List ℕ) → bytes ≡ front ++ rest → AreBytes rest
    behind front parts = are_behind front rest (rw parts at are)

test_yes : (ps : List Piece) (bytes : List ℕ) → (cut : IsOpenCut bytes ps) → leaves_two ps bytes cut ≡ true → LeavesTwo bytes ps
unfolding leaves_two
test_yes [] bytes cut is = grind (arith, nat_tests, is)
test_yes (packet e ∷ ps) bytes (rest, found, cut) is = (rest, found, test_yes ps rest cut is)
test_yes (foreign byte ∷ ps) bytes (rest, none, closed, parts, cut) is = (rest, parts, test_yes ps rest cut is)

test_of : (ps : List Piece) (bytes : List ℕ) → AreBytes bytes → (cut : IsOpenCut bytes ps) → LeavesTwo bytes ps → leaves_two ps bytes cut ≡ true
unfolding leaves_two
test_of [] bytes are cut two = grind (arith, nat_tests, two)
test_of (packet e ∷ ps) bytes are (rest, found, cut) (rest', found', two) =
    let same = one_found bytes rest rest' e e are found found' in
    test_of ps rest (are_rest bytes rest e are found) cut (rw (same.1) two)
test_of (foreign byte ∷ ps) bytes are (rest, none, closed, parts, cut) (rest', parts', two) =
    let same = same_rest bytes rest rest' byte byte parts parts' in
    test_of ps rest (are_next bytes rest byte are parts) cut (rw same two)

if_yes : (missing : ℕ) (bytes : List ℕ) (known : Decided (AreBytes bytes)) → inside_if missing bytes known ≡ true → EndsInsideBehind missing bytes
unfolding inside_if
if_yes missing bytes (inl are) is =
    let d = (some_decided bytes are).1 in
    let both = both_parts (leaves_two d.pieces bytes d.cut) (missing_after_pieces missing d.pieces == 0) is in
    record { pieces = d.pieces; cut = d.cut; two = test_yes d.pieces bytes d.cut both.0; between = eqb-true (missing_after_pieces missing d.pieces) 0 both.1 }
if_yes missing bytes (inr never) is = absurd (grind (arith, is))

if_of : (missing : ℕ) (bytes : List ℕ) (known : Decided (AreBytes bytes)) → AreBytes bytes → EndsInsideBehind missing bytes → inside_if missing bytes known ≡ true
unfolding inside_if
if_of missing bytes (inl are) are' inside =
    let d = (some_decided bytes are).1 in
    let same : inside.pieces ≡ d.pieces = one_open_cut inside.pieces d.pieces bytes are inside.cut d.cut in
    both_true (test_of d.pieces bytes are d.cut (rw same at inside.two)) (eq-eqb (missing_after_pieces missing d.pieces) 0 (rw same at inside.between))
if_of missing bytes (inr never) are inside = absurd (never are)

pub is_inside : (missing : ℕ) (bytes : List ℕ) → ends_inside_behind missing bytes ≡ true → EndsInsideBehind missing bytes
unfolding ends_inside_behind
is_inside missing bytes is = if_yes missing bytes (decided_all (λ byte. byte < 256) (λ byte. decided_less byte 256) bytes) is

pub inside_is : (missing : ℕ) (bytes : List ℕ) → AreBytes bytes → EndsInsideBehind missing bytes → ends_inside_behind missing bytes ≡ true
unfolding ends_inside_behind
inside_is missing bytes are inside = if_of missing bytes (decided_all (λ byte. byte < 256) (λ byte. decided_less byte 256) bytes) are inside

-- ---- two streams that end alike, each behind a character of which so many bytes are missing

pub record EndAlike (missing : ℕ) (bytes : List ℕ) (now : ℕ) (rest : List ℕ) : Type 0 where
  pub to : EndsInsideBehind missing bytes → EndsInsideBehind now rest
  pub from : EndsInsideBehind now rest → EndsInsideBehind missing bytes

bools_same : (a b : Bool) → (a ≡ true → b ≡ true) → (b ≡ true → a ≡ true) → a ≡ b
bools_same true b to from = sym (to refl)
bools_same false true to from = from refl
bools_same false false to from = refl

pub alike_is : (missing : ℕ) (bytes : List ℕ) (now : ℕ) (rest : List ℕ) → AreBytes bytes → AreBytes rest → EndAlike missing bytes now rest → ends_inside_behind missing bytes ≡ ends_inside_behind now rest
alike_is missing bytes now rest are are' alike =
    bools_same (ends_inside_behind missing bytes) (ends_inside_behind now rest) (λ is. inside_is now rest are' (alike.to (is_inside missing bytes is))) (λ is. inside_is missing bytes are (alike.from (is_inside now rest is)))

alike_same : (missing : ℕ) (bytes : List ℕ) → EndAlike missing bytes missing bytes
alike_same missing bytes = record { to = λ is. is; from = λ is. is }

alike_then : (m : ℕ) (a : List ℕ) (n : ℕ) (b : List ℕ) (o : ℕ) (c : List ℕ) → EndAlike m a n b → EndAlike n b o c → EndAlike m a o c
alike_then m a n b o c first second = record { to = λ is. second.to (first.to is); from = λ is. first.from (second.from is) }

-- a packet is cut off
pub packet_alike : (missing : ℕ) (bytes rest : List ℕ) (e : Event) → AreBytes bytes → BeginsWithPacketOf bytes e rest → EndAlike missing bytes 0 rest
packet_alike missing bytes rest e are found = record {
  to = λ is. to is.pieces is.cut is.two is.between;
  from = λ is. record { pieces = packet e ∷ is.pieces; cut = (rest, found, is.cut); two = (rest, found, is.two); between = is.between };
}
  where
    to : (ps : List Piece) → IsOpenCut bytes ps → LeavesTwo bytes ps → missing_after_pieces missing ps ≡ 0 → EndsInsideBehind 0 rest
    to [] cut two between = absurd (found_needs_no_more bytes rest e are found cut)
    to (packet e' ∷ ps) (rest', found', cut) (rest'', found'', two) between =
        let same = one_found bytes rest' rest e' e are found' found in
        let same' = one_found bytes rest'' rest e' e are found'' found in
        record { pieces = ps; cut = rw (same.1) at cut; two = rw (same'.1) at two; between = between }
    to (foreign byte ∷ ps) (rest', none, closed, parts, cut) two between = absurd (none e rest found)

-- a foreign byte is cut off, which no bytes to come make a packet's first one
pub foreign_alike : (missing : ℕ) (bytes rest : List ℕ) (byte : ℕ) → BeginsWithNone bytes → (NeedsMore bytes → ⊥) → bytes ≡ byte ∷ rest → EndAlike missing bytes (missing_after_byte missing byte) rest
foreign_alike missing bytes rest byte none closed parts = record {
  to = λ is. to is.pieces is.cut is.two is.between;
  from = λ is. record { pieces = foreign byte ∷ is.pieces; cut = (rest, none, closed, parts, is.cut); two = (rest, parts, is.two); between = is.between };
}
  where
    to : (ps : List Piece) → IsOpenCut bytes ps → LeavesTwo bytes ps → missing_after_pieces missing ps ≡ 0 → EndsInsideBehind (missing_after_byte missing byte) rest
    to [] cut two between = absurd (closed cut)
    to (packet e ∷ ps) (rest', found, cut) two between = absurd (none e rest' found)
    to (foreign byte' ∷ ps) (rest', none', closed', parts', cut) (rest'', parts'', two) between =
        let same = same_rest bytes rest' rest byte' byte parts' parts in
        let same' = same_rest bytes rest'' rest byte' byte parts'' parts in
        let byte_is : byte' ≡ byte = ap (λ (l : List ℕ). get_or l 0 0) (sym parts' ∙ parts) in
        record { pieces = ps; cut = rw same at cut; two = rw same' at two; between = ap (λ (b : ℕ). missing_after_pieces (missing_after_byte missing b) ps) (sym byte_is) ∙ between }

-- ---- where more bytes are asked for

pub stops_inside : (bytes : List ℕ) → NeedsMore bytes → 2 ≤ length bytes → EndsInside bytes
stops_inside bytes more two = record { pieces = []; cut = more; two = two; between = refl }

stopped_two : (missing : ℕ) (bytes : List ℕ) → AreBytes bytes → NeedsMore bytes → EndsInsideBehind missing bytes → (2 ≤ length bytes) × (missing ≡ 0)
stopped_two missing bytes are more inside = at inside.pieces inside.cut inside.two inside.between
  where
    at : (ps : List Piece) → IsOpenCut bytes ps → LeavesTwo bytes ps → missing_after_pieces missing ps ≡ 0 → (2 ≤ length bytes) × (missing ≡ 0)
    at [] cut two between = (two, between)
    at (packet e ∷ ps) (rest, found, cut) two between = absurd (found_needs_no_more bytes rest e are found more)
    at (foreign byte ∷ ps) (rest, none, closed, parts, cut) two between = absurd (closed more)

pub stops_so : (missing : ℕ) (bytes : List ℕ) → AreBytes bytes → NeedsMore bytes → ends_inside_behind missing bytes ≡ (nat_le 2 (length bytes) && missing == 0)
stops_so missing bytes are more = bools_same (ends_inside_behind missing bytes) (nat_le 2 (length bytes) && missing == 0)
    (λ is. let so = stopped_two missing bytes are more (is_inside missing bytes is) in let two = so.0 in both_true (grind (arith, nat_tests, two)) (eq-eqb missing 0 so.1))
    (λ is. let both = both_parts (nat_le 2 (length bytes)) (missing == 0) is in let two = both.0 in inside_is missing bytes are (record { pieces = []; cut = more; two = grind (arith, nat_tests, two); between = eqb-true missing 0 both.1 }))

nothing_is_inside : (missing : ℕ) → EndsInsideBehind missing [] → ⊥
nothing_is_inside missing inside = omega (arith, (stopped_two missing [] (All-nil (λ byte. byte < 256)) (inl (front_of_none [] (omega arith))) inside).0)

empty_not_inside : ends_inside [] ≡ false
empty_not_inside = stops_so 0 [] (All-nil (λ byte. byte < 256)) (inl (front_of_none [] (omega arith))) ∙ refl

-- ---- a note is given

-- how many bytes the first note has, where it is foreign
run_length : List Note → ℕ
run_length [] = 0
run_length (note.Event e ∷ notes) = 0
run_length (note.Foreign run ∷ notes) = length run

before_packet : (run : List ℕ) (e : Event) (notes : List Note) → run_length (foreign_note run ++ note.Event e ∷ notes) ≡ length run
unfolding run_length
before_packet [] e notes = refl
before_packet (byte ∷ run) e notes = refl

-- the bytes of a foreign note that is decided are foreign ones
run_alike : (missing : ℕ) (run tail before : List ℕ) (ps : List Piece) (others : List Note) → IsOpenCut (run ++ tail) ps → notes_behind (λ run. []) ps before ≡ note.Foreign (before ++ run) ∷ others → EndAlike missing (run ++ tail) (missing_after_bytes missing run) tail
unfolding run_length
run_alike missing [] tail before ps others cut first = alike_same missing tail
run_alike missing (byte ∷ run) tail before [] others cut first = absurd (omega (arith, ap length first))
run_alike missing (byte ∷ run) tail before (packet e ∷ ps) others (rest, found, cut) first = absurd (omega (
  arith,
  ap run_length first,
  before_packet before e (notes_behind (λ run. []) ps []),
  length-append before (byte ∷ run),
))
run_alike missing (byte ∷ run) tail before (foreign byte' ∷ ps) others (rest, none, closed, parts, cut) first =
    let now : ℕ = missing_after_byte missing byte in
    let last : ℕ = missing_after_bytes missing (byte ∷ run) in
    let same : rest ≡ run ++ tail = sym (ap (drop 1) parts) in
    let byte_is : byte' ≡ byte = sym (ap (λ (l : List ℕ). get_or l 0 0) parts) in
    let here : EndAlike missing (byte ∷ (run ++ tail)) now (run ++ tail) = foreign_alike missing (byte ∷ (run ++ tail)) (run ++ tail) byte none closed refl in
    elim (cases_lt (length before + 1) 65536) [
      | inl less ↦ (
          let next : notes_behind (λ run. []) ps (before ++ byte' ∷ []) ≡ note.Foreign ((before ++ byte' ∷ []) ++ run) ∷ others =
          sym (one_more (λ run. []) ps before byte' less) ∙ first
          ∙ ap (λ (b : ℕ). note.Foreign (before ++ b ∷ run) ∷ others) (sym byte_is)
          ∙ ap (λ (l : List ℕ). note.Foreign l ∷ others) (sym (append_assoc before (byte' ∷ []) run)) in
          alike_then missing (byte ∷ (run ++ tail)) now (run ++ tail) last tail here (run_alike now run tail (before ++ byte' ∷ []) ps others (rw same at cut) next)
          )
      | inr full ↦ (
          let len = ap run_length (sym (last_one (λ run. []) ps before byte' full) ∙ first) in
          let short : length run ≡ 0 = omega (arith, len, length-append before (byte' ∷ []), length-append before (byte ∷ run)) in
          alike_then missing (byte ∷ (run ++ tail)) now (run ++ tail) last tail here (no_bytes now run short)
          )
    ]
  where
    no_bytes : (now : ℕ) (run : List ℕ) → length run ≡ 0 → EndAlike now (run ++ tail) (missing_after_bytes now run) tail
    no_bytes now [] short = alike_same now tail
    no_bytes now (b ∷ run) short = absurd (omega arith)

-- Whatever follows, it hangs on what is held whether the stream ends inside a packet, once a note was given.
pub given_alike : (missing : ℕ) (front rest more : List ℕ) (given : Note) → IsMadeOf given front → HasGiven false (front ++ rest) (given ∷ []) rest → AreBytes (front ++ rest) → AreBytes more → ends_inside_behind missing ((front ++ rest) ++ more) ≡ ends_inside_behind (missing_after_note missing given) (rest ++ more)
given_alike missing front rest more (note.Event e) made first are are_more =
    let all = are_both (front ++ rest) more are are_more in
    let behind = are_both rest more (are_behind front rest are) are_more in
    alike_is missing ((front ++ rest) ++ more) 0 (rest ++ more) all behind (packet_alike missing ((front ++ rest) ++ more) (rest ++ more) e all (record { front = front; parts = append_assoc front rest more; spelled = made }))
given_alike missing front rest more (note.Foreign run) made first are are_more =
    let all = are_both (front ++ rest) more are are_more in
    let behind = are_both rest more (are_behind front rest are) are_more in
    let d = some_decided (rest ++ more) behind in
    let h : HasDecided ((front ++ rest) ++ more) (note.Foreign run ∷ d.0) = first.decided more d.0 are_more d.1 in
    let cut : IsOpenCut (front ++ (rest ++ more)) h.pieces = rw (append_assoc front rest more) at h.cut in
    let notes : notes_behind (λ run. []) h.pieces [] ≡ note.Foreign front ∷ d.0 = sym h.made ∙ ap (λ (l : List ℕ). note.Foreign l ∷ d.0) made in
    alike_is missing ((front ++ rest) ++ more) (missing_after_bytes missing front) (rest ++ more) all behind (rw (append_assoc front rest more) (run_alike missing front (rest ++ more) [] h.pieces d.0 cut notes))
    ∙ ap (λ (l : List ℕ). ends_inside_behind (missing_after_bytes missing l) (rest ++ more)) (sym made)

-- ---- what is left

left_by : (ps : List Piece) (bytes : List ℕ) → AreBytes bytes → IsOpenCut bytes ps → LeavesTwo bytes ps → HoldsBack bytes
left_by [] bytes are cut two = record { front = []; left = bytes; parts = refl; two = two; more = cut }
left_by (packet e ∷ ps) bytes are (rest, found, cut) (rest', found', two) =
    let same = one_found bytes rest' rest e e are found' found in
    let behind = left_by ps rest (are_rest bytes rest e are found) cut (rw (same.1) at two) in
    record { front = found.front ++ behind.front; left = behind.left; parts = found.parts ∙ ap (λ (l : List ℕ). found.front ++ l) behind.parts ∙ sym (append_assoc found.front behind.front behind.left); two = behind.two; more = behind.more }
left_by (foreign byte ∷ ps) bytes are (rest, none, closed, parts, cut) (rest', parts', two) =
    let same = same_rest bytes rest' rest byte byte parts' parts in
    let behind = left_by ps rest (are_next bytes rest byte are parts) cut (rw same at two) in
    record { front = byte ∷ behind.front; left = behind.left; parts = parts ∙ ap (λ (l : List ℕ). byte ∷ l) behind.parts; two = behind.two; more = behind.more }

pub held_back : (bytes : List ℕ) → AreBytes bytes → EndsInside bytes → HoldsBack bytes
held_back bytes are inside = left_by inside.pieces bytes are inside.cut inside.two

-- a packet from which bytes were cut off asks for them
front_asks : (front rest : List ℕ) → AreBytes (front ++ rest) → IsPacket (front ++ rest) → 0 < length rest → NeedsMore front
front_asks front rest are (e, spelled) some = elim (decided_more front (are_before front rest are)) [
  | inl more ↦ more
  | inr closed ↦ absurd (never closed)
]
  where
    whole : BeginsWithPacketOf (front ++ rest) e []
    whole = record { front = front ++ rest; parts = sym (append-nil (front ++ rest)); spelled = spelled }

    shorter : (size : ℕ) → BeginsWithPacket front size → ⊥
    shorter size p =
        let longer = found_longer front (drop size front) rest p.packet.0 (begins_found front size p) in
        let same = one_found (front ++ rest) (drop size front ++ rest) [] p.packet.0 e are longer whole in
        omega (arith, some, ap length same.1, length-append (drop size front) rest)

    never : (NeedsMore front → ⊥) → ⊥
    never closed = none_found (front ++ rest) (stays_none front rest (are_behind front rest are) shorter closed) e [] whole

pub cut_off : (events : List Event) (front rest : List ℕ) → All IsEvent events → All Fits events → AreBytes (front ++ rest) → IsPacket (front ++ rest) → 2 ≤ length front → 0 < length rest → EndsInside (flat_map canonical events ++ front)
cut_off [] front rest are fit bytes whole two some = stops_inside front (front_asks front rest bytes whole some) two
cut_off (e ∷ events) front rest are fit bytes whole two some =
    let behind = cut_off events front rest (All-tail IsEvent e events are) (All-tail Fits e events fit) bytes whole two some in
    let next : List ℕ = flat_map canonical events ++ front in
    let found : BeginsWithPacketOf ((canonical e ++ flat_map canonical events) ++ front) e next =
    record { front = canonical e; parts = append_assoc (canonical e) (flat_map canonical events) front; spelled = canonical_spells e (All-head IsEvent e events are) (All-head Fits e events fit) } in
    record { pieces = packet e ∷ behind.pieces; cut = (next, found, behind.cut); two = (next, found, behind.two); between = behind.between }

-- whole packets leave nothing
whole_alike : (events : List Event) → AreBytes (flat_map canonical events) → All IsEvent events → All Fits events → EndAlike 0 (flat_map canonical events) 0 []
whole_alike [] bytes are fit = alike_same 0 []
whole_alike (e ∷ events) bytes are fit =
    let here = packet_alike 0 (canonical e ++ flat_map canonical events) (flat_map canonical events) e bytes
    (record { front = canonical e; parts = refl; spelled = canonical_spells e (All-head IsEvent e events are) (All-head Fits e events fit) }) in
    alike_then 0 (canonical e ++ flat_map canonical events) 0 (flat_map canonical events) 0 [] here (whole_alike events (are_behind (canonical e) (flat_map canonical events) bytes) (All-tail IsEvent e events are) (All-tail Fits e events fit))

pub not_inside : (events : List Event) → AreBytes (flat_map canonical events) → All IsEvent events → All Fits events → ends_inside (flat_map canonical events) ≡ false
not_inside events bytes are fit = alike_is 0 (flat_map canonical events) 0 [] bytes (All-nil (λ byte. byte < 256)) (whole_alike events bytes are fit) ∙ empty_not_inside

-- ---- a text

asks_at_signature : (byte : ℕ) (rest : List ℕ) → NeedsMore (byte ∷ rest) → byte ≡ signature
asks_at_signature byte rest (inl front) = front_first (byte ∷ rest) (omega arith) front
asks_at_signature byte rest (inr (size, begins, less)) = header_first (byte ∷ rest) size begins

-- a byte that is no signature outside of a character is passed over
byte_passed : (missing byte : ℕ) (rest : List ℕ) → BeginsWithNone (byte ∷ rest) → (byte ≡ signature → 0 < missing) → EndsInsideBehind missing (byte ∷ rest) → EndsInsideBehind (missing_after_byte missing byte) rest
byte_passed missing byte rest none within inside = at inside.pieces inside.cut inside.two inside.between
  where
    at : (ps : List Piece) → IsOpenCut (byte ∷ rest) ps → LeavesTwo (byte ∷ rest) ps → missing_after_pieces missing ps ≡ 0 → EndsInsideBehind (missing_after_byte missing byte) rest
    at [] cut two between = absurd (omega (arith, within (asks_at_signature byte rest cut), between))
    at (packet e ∷ ps) (rest', found, cut) two between = absurd (none e rest' found)
    at (foreign byte' ∷ ps) (rest', none', closed, parts, cut) two between = (foreign_alike missing (byte ∷ rest) rest byte none closed refl).to (record { pieces = foreign byte' ∷ ps; cut = (rest', none', closed, parts, cut); two = two; between = between })

text_passed : (missing : ℕ) (text rest : List ℕ) → IsWithin missing text → BeginsNoneIn (length text) (text ++ rest) → EndsInsideBehind missing (text ++ rest) → EndsInside rest
text_passed missing [] rest ends none inside = rw ends at inside
text_passed missing (byte ∷ text) rest (within, behind) none inside =
    text_passed (missing_after_byte missing byte) text rest behind (λ i less. none (suc i) (omega arith)) (byte_passed missing byte (text ++ rest) (none 0 (omega arith)) within inside)

never_true : (b : Bool) → (b ≡ true → ⊥) → b ≡ false
never_true true never = absurd (never refl)
never_true false never = refl

pub text_not_inside : (text : List ℕ) (events : List Event) → AreBytes (text ++ flat_map canonical events) → All IsEvent events → All Fits events → IsUtf8 text → BeginsNoneIn (length text) (text ++ flat_map canonical events) → ends_inside (text ++ flat_map canonical events) ≡ false
text_not_inside text events bytes are fit utf8 none = never_true (ends_inside (text ++ flat_map canonical events)) (λ is.
    let packets = are_behind text (flat_map canonical events) bytes in
    let last = text_passed 0 text (flat_map canonical events) (text_within text utf8) none (is_inside 0 (text ++ flat_map canonical events) is) in
    nothing_is_inside 0 ((whole_alike events packets are fit).to last))

-- ---- the piece at the front

-- the rest of a list, as a slice of it
pub rest_is : (n : ℕ) (bytes : List ℕ) → take (length bytes - n) (drop n bytes) ≡ drop n bytes
rest_is n bytes = take_all (length bytes - n) (drop n bytes) (omega (arith, length-drop n bytes))

pub past_packet : (missing last : ℕ) (rest now : List ℕ) (size : ℕ) → AreBytes rest → BeginsWithPacket rest size → last ≡ 0 → now ≡ drop size rest → ends_inside_behind missing rest ≡ ends_inside_behind last now
past_packet missing last rest now size are p last-is now-is =
    alike_is missing rest 0 (drop size rest) are (are_dropped size rest are) (packet_alike missing rest (drop size rest) p.packet.0 are (begins_found rest size p))
    ∙ ap (ends_inside_behind 0) (sym now-is)
    ∙ ap (λ (n : ℕ). ends_inside_behind n now) (sym last-is)

-- where no packet stands, and none will, there is a byte
pub byte_is_some : (rest : List ℕ) → LooksLike rest No → 0 < length rest
byte_is_some [] looks = absurd (looks.1 (inl (front_of_none [] (omega arith))))
byte_is_some (byte ∷ rest) looks = omega arith

pub past_byte : (missing last : ℕ) (rest now : List ℕ) → AreBytes rest → LooksLike rest No → last ≡ missing_after_bytes missing (take 1 rest) → now ≡ drop 1 rest → ends_inside_behind missing rest ≡ ends_inside_behind last now
past_byte missing last [] now are looks last-is now-is = absurd (looks.1 (inl (front_of_none [] (omega arith))))
past_byte missing last (byte ∷ rest) now are looks last-is now-is =
    alike_is missing (byte ∷ rest) (missing_after_byte missing byte) rest are (are_next (byte ∷ rest) rest byte are refl) (foreign_alike missing (byte ∷ rest) rest byte (none_found (byte ∷ rest) looks.0) looks.1 refl)
    ∙ ap (ends_inside_behind (missing_after_byte missing byte)) (sym now-is)
    ∙ ap (λ (n : ℕ). ends_inside_behind n now) (sym last-is)

pub byte_is_less : (rest now : List ℕ) → LooksLike rest No → now ≡ drop 1 rest → length now < length rest
byte_is_less rest now looks now-is = omega (arith, byte_is_some rest looks, ap length now-is, length-drop 1 rest)
