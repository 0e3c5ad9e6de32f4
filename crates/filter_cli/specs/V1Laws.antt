-- The laws that a filter owes, of lines of version 1.
use Rattle.std.proofs.Common.{◌≡◌, ◌⊎◌, inl, inr, ⊎_elim, ℕ, zero, suc, ◌+◌, ◌-◌, ◌*◌, ◌/◌, ◌<◌, ◌≤◌, Bool, true, false, ◌&&◌, nat_lt, nat_eq, List, [], ◌∷◌, ◌++◌, map, length, take, drop, refl, sym, ap, ◌∙◌, arith, append_assoc, append-nil, length-append, lt-ltb, le-ltb, ltb-true, ltb-false, ne_eqb}
use Rattle.std.specs.List.{concat, flat_map, ends_with, range_with_len}
use Rattle.std.specs.Cmp.Lexicographic.{pointwise}
use Rattle.std.proofs.Math.Seq.{take-append-add, drop-append-add, take-append_seam}
use Rattle.std.proofs.lemmas.Bool.{cases_Bool, cond-true, cond-false, cond_both}
use Rattle.std.proofs.lemmas.List.{map-append, take-append-drop, length-drop, length-take-le}
use Rattle.std.proofs.lemmas.List.Concat.{flat_map-append}
use Rattle.packet_codec.specs.declared.event.Event.{Event}
use Rattle.packet_codec.specs.Grammar.{AreBytes}
use Rattle.packet_codec.specs.Canonical.{packets_of}
use Rattle.v1_bridge.specs.declared.reader.V1Reader.{V1Reader}
use Rattle.v1_bridge.specs.Lines.{without_newline, HasNoNewline}
use Rattle.v1_bridge.specs.Events.{longest_v1_line, piece_at, full_pieces}
use Rattle.v1_bridge.specs.Reading.{Input, line, piece, front_piece, last_piece, inputs_of, start, state_behind, events_from, events_so_far, events_at_end, events_of_inputs, v1_events}
use Rattle.v1_bridge.proofs.LineLemmas.{events_then}
use Rattle.sub_number.specs.Lines.{with_newline}
use Rattle.filter_cli.specs.Lines.{last_line}
use Rattle.filter_cli.specs.LineLaws.{next_ended, one_split, some_split}
use Rattle.filter_cli.specs.Tapped.{AreFull, most_open, GivesPieces}
use Rattle.filter_cli.specs.TapLaws.{packets_then}
use Rattle.filter_cli.specs.V1.{pieces_seen, inputs_of_lines, all_inputs, IsV1Seen, IsV1Filtered}
use Rattle.filter_cli.specs.V1Fed.{HasFedV1}

-- ---- pieces

-- behind a full piece in front stand the pieces of the rest
piece_behind_full : (front rest : List ℕ) (k : ℕ) → length front ≡ longest_v1_line → piece_at (front ++ rest) (k + 1) ≡ piece_at rest k
piece_behind_full front rest k full =
    let place : longest_v1_line * (k + 1) ≡ length front + longest_v1_line * k = omega (arith, full) in
    ap (λ n. take longest_v1_line (drop n (front ++ rest))) place ∙ ap (take longest_v1_line) (drop-append-add front rest (longest_v1_line * k))

-- the same of so many pieces, from one place on
all_shifted : (front rest : List ℕ) (n from : ℕ) → length front ≡ longest_v1_line → map (piece_at (front ++ rest)) (range_with_len (from + 1) n) ≡ map (piece_at rest) (range_with_len from n)
all_shifted front rest zero from full = refl
all_shifted front rest (suc n) from full = λ i. piece_behind_full front rest from full i ∷ all_shifted front rest n (from + 1) full i

-- the first full piece is what stands in front, where that is as long, and the others are those of the rest
piece_first : (front rest : List ℕ) → length front ≡ longest_v1_line → full_pieces (front ++ rest) ≡ front ∷ full_pieces rest
piece_first front rest full =
    let count : length (front ++ rest) / longest_v1_line ≡ suc (length rest / longest_v1_line) = omega (arith, full, length-append front rest) in
    let this : piece_at (front ++ rest) 0 ≡ front = ap (λ n. take n (front ++ rest)) (sym full) ∙ take-append_seam front rest in
    ap (λ n. map (piece_at (front ++ rest)) (range_with_len 0 n)) count
    ∙ (λ i. this i ∷ all_shifted front rest (length rest / longest_v1_line) 0 full i)

-- fewer bytes than a full piece has give no full piece
no_pieces : (rest : List ℕ) → length rest < longest_v1_line → full_pieces rest ≡ []
no_pieces rest few =
    let none : length rest / longest_v1_line ≡ 0 = omega (arith, few) in
    ap (λ n. map (piece_at rest) (range_with_len 0 n)) none

-- full pieces in front are the first ones
pub pieces_then : (pieces : List (List ℕ)) (left : List ℕ) → AreFull pieces → full_pieces (concat pieces ++ left) ≡ pieces ++ full_pieces left
pieces_then [] left full = refl
pieces_then (front ∷ pieces) left full =
    ap full_pieces (append_assoc front (concat pieces) left) ∙ piece_first front (concat pieces ++ left) full.0
    ∙ ap (λ (l : List (List ℕ)). front ∷ l) (pieces_then pieces left full.1)

-- the full pieces of bytes that are cut into full pieces and fewer bytes than one has are those pieces
pub pieces_are : (pieces : List (List ℕ)) (left : List ℕ) → AreFull pieces → length left < longest_v1_line → full_pieces (concat pieces ++ left) ≡ pieces
pieces_are pieces left full few = pieces_then pieces left full ∙ ap (λ (l : List (List ℕ)). pieces ++ l) (no_pieces left few) ∙ append-nil pieces

-- what stands behind them
size_of : (pieces : List (List ℕ)) (left : List ℕ) → AreFull pieces → length left < longest_v1_line → drop (longest_v1_line * (length (concat pieces ++ left) / longest_v1_line)) (concat pieces ++ left) ≡ left
size_of [] left full few =
    let none : longest_v1_line * (length left / longest_v1_line) ≡ 0 = omega (arith, few) in
    ap (λ n. drop n left) none
size_of (front ∷ pieces) left full few =
    let rest = concat pieces ++ left in
    let joined : (front ++ concat pieces) ++ left ≡ front ++ rest = append_assoc front (concat pieces) left in
    let place : longest_v1_line * (length (front ++ rest) / longest_v1_line) ≡ length front + longest_v1_line * (length rest / longest_v1_line) = omega (arith, full.0, length-append front rest) in
    ap (λ (l : List ℕ). drop (longest_v1_line * (length l / longest_v1_line)) l) joined
    ∙ ap (λ n. drop n (front ++ rest)) place ∙ drop-append-add front rest (longest_v1_line * (length rest / longest_v1_line)) ∙ size_of pieces left full.1 few

-- ---- newlines

-- bytes without a newline do not end with one
plain_end : (bytes : List ℕ) → HasNoNewline bytes → ends_with nat_eq bytes (10 ∷ []) ≡ false
plain_end [] plain = refl
plain_end (byte ∷ []) plain = ap (λ b. b && true) (ne_eqb 10 byte (λ is. plain.0 (sym is)))
plain_end (byte ∷ next ∷ bytes) plain =
    let size : length (byte ∷ next ∷ bytes) - 1 ≡ suc (length (next ∷ bytes) - 1) = omega arith in
    ap (λ n. pointwise nat_eq (10 ∷ []) (drop n (byte ∷ next ∷ bytes))) size ∙ plain_end (next ∷ bytes) plain.1

-- bytes without a newline are all that a line says
pub plain_line : (bytes : List ℕ) → HasNoNewline bytes → without_newline bytes ≡ bytes
plain_line bytes plain = cond-false (ends_with nat_eq bytes (10 ∷ [])) (take (length bytes - 1) bytes) bytes (plain_end bytes plain)

-- a line begins with what stood there without a newline
line_begins : (rest tail : List ℕ) → HasNoNewline rest → (more : List ℕ) × (without_newline (rest ++ tail) ≡ rest ++ more)
line_begins rest [] plain = ([], ap without_newline (append-nil rest) ∙ plain_line rest plain ∙ sym (append-nil rest))
line_begins rest (byte ∷ tail) plain =
    cond_both (ends_with nat_eq (rest ++ byte ∷ tail) (10 ∷ [])) (take (length (rest ++ byte ∷ tail) - 1) (rest ++ byte ∷ tail)) (rest ++ byte ∷ tail) (λ (l : List ℕ). (more : List ℕ) × (l ≡ rest ++ more))
    (λ is.
    let size : length (rest ++ byte ∷ tail) - 1 ≡ length rest + length tail = omega (arith, length-append rest (byte ∷ tail)) in
    (take (length tail) (byte ∷ tail), ap (λ n. take n (rest ++ byte ∷ tail)) size ∙ take-append-add rest (byte ∷ tail) (length tail)))
    (λ is. (byte ∷ tail, refl))

-- ---- inputs

-- the full pieces of a line come first, however it goes on
pub seen_are : (long : Bool) (rest : List ℕ) (pieces : List (List ℕ)) (held : List ℕ) → rest ≡ concat pieces ++ held → AreFull pieces → length held ≤ most_open long → GivesPieces long rest pieces → pieces_seen rest ≡ map front_piece pieces
seen_are false rest pieces held is full short none =
    let all : rest ≡ held = is ∙ ap (λ (l : List (List ℕ)). concat l ++ held) none in
    cond-false _ _ _ (le-ltb longest_v1_line (length rest) (omega (arith, short, ap length all))) ∙ ap (map front_piece) (sym none)
seen_are true rest pieces held is full short longer =
    cond-true _ _ _ (lt-ltb longest_v1_line (length rest) longer) ∙ ap (λ (l : List ℕ). map front_piece (full_pieces l)) is ∙ ap (map front_piece) (pieces_are pieces held full (omega (arith, short)))

-- bytes can be cut into full pieces and fewer bytes than one has
some_v1_pieces : (n : ℕ) (bytes : List ℕ) → length bytes < longest_v1_line * (n + 1) → (pieces : List (List ℕ)) × (left : List ℕ) × (bytes ≡ concat pieces ++ left) × AreFull pieces × (length left < longest_v1_line)
some_v1_pieces zero bytes few = ([], bytes, refl, tt, omega (arith, few))
some_v1_pieces (suc n) bytes few =
    ⊎_elim
    (λ (less : nat_lt (length bytes) longest_v1_line ≡ true). ([], bytes, refl, tt, ltb-true (length bytes) longest_v1_line less))
    (λ (more : nat_lt (length bytes) longest_v1_line ≡ false).
    let enough : longest_v1_line ≤ length bytes = ltb-false (length bytes) longest_v1_line more in
    let fewer : length (drop longest_v1_line bytes) < longest_v1_line * (n + 1) = omega (arith, few, enough, length-drop longest_v1_line bytes) in
    let (pieces, left, is, full, short) = some_v1_pieces n (drop longest_v1_line bytes) fewer in
    let size : length (take longest_v1_line bytes) ≡ longest_v1_line = length-take-le longest_v1_line bytes enough in
    (take longest_v1_line bytes ∷ pieces, left, sym (take-append-drop longest_v1_line bytes) ∙ ap (λ (l : List ℕ). take longest_v1_line bytes ++ l) is ∙ sym (append_assoc (take longest_v1_line bytes) (concat pieces) left), (size, full), short))
    (cases_Bool (nat_lt (length bytes) longest_v1_line))

-- the pieces that are seen of a line are its first inputs
line_first : (rest tail : List ℕ) → HasNoNewline rest → (others : List Input) × (inputs_of (rest ++ tail) ≡ pieces_seen rest ++ others)
line_first rest tail plain =
    ⊎_elim
    (λ (less : nat_lt longest_v1_line (length rest) ≡ false). (inputs_of (rest ++ tail), ap (λ (l : List Input). l ++ inputs_of (rest ++ tail)) (sym (cond-false (nat_lt longest_v1_line (length rest)) (map front_piece (full_pieces rest)) [] less))))
    (λ (more : nat_lt longest_v1_line (length rest) ≡ true).
    let longer : longest_v1_line < length rest = ltb-true longest_v1_line (length rest) more in
    let (pieces, left, is, full, short) = some_v1_pieces (length rest) rest (omega arith) in
    let (behind, begins) = line_begins rest tail plain in
    let long : longest_v1_line < length (without_newline (rest ++ tail)) = omega (arith, longer, ap length begins, length-append rest behind) in
    let last = piece (last_piece (rest ++ tail)) true ∷ [] in
    let cut : inputs_of (rest ++ tail) ≡ map front_piece (full_pieces (without_newline (rest ++ tail))) ++ last = cond-true _ _ _ (lt-ltb longest_v1_line (length (without_newline (rest ++ tail))) long) in
    let joined : without_newline (rest ++ tail) ≡ concat pieces ++ (left ++ behind) = begins ∙ ap (λ (l : List ℕ). l ++ behind) is ∙ append_assoc (concat pieces) left behind in
    let all : full_pieces (without_newline (rest ++ tail)) ≡ pieces ++ full_pieces (left ++ behind) = ap full_pieces joined ∙ pieces_then pieces (left ++ behind) full in
    let same : pieces_seen rest ≡ map front_piece pieces = seen_are true rest pieces left is full (omega (arith, short)) longer in
    let others = map front_piece (full_pieces (left ++ behind)) in (
      others ++ last,
      cut ∙ ap (λ (l : List (List ℕ)). map front_piece l ++ last) all ∙ ap (λ (l : List Input). l ++ last) (map-append front_piece pieces (full_pieces (left ++ behind)))
          ∙ append_assoc (map front_piece pieces) others last ∙ ap (λ (l : List Input). l ++ (others ++ last)) (sym same),
    ))
    (cases_or (nat_lt longest_v1_line (length rest)))
  where
    cases_or : (b : Bool) → (b ≡ false) ⊎ (b ≡ true)
    cases_or true = inr refl
    cases_or false = inl refl

-- The last input of a line that gave pieces.
pub long_line : (rest tail : List ℕ) (pieces : List (List ℕ)) (held : List ℕ) → without_newline (rest ++ tail) ≡ rest → rest ≡ concat pieces ++ held → AreFull pieces → length held < longest_v1_line → longest_v1_line < length rest
    → inputs_of (rest ++ tail) ≡ map front_piece pieces ++ piece (held ++ tail) true ∷ []
long_line rest tail pieces held says is full few longer =
    let long : longest_v1_line < length (without_newline (rest ++ tail)) = omega (arith, longer, ap length says) in
    let count = longest_v1_line * (length rest / longest_v1_line) in
    let within : count ≤ length rest = omega arith in
    let behind : drop count rest ≡ held = ap (λ (l : List ℕ). drop (longest_v1_line * (length l / longest_v1_line)) l) is ∙ size_of pieces held full few in
    let last : last_piece (rest ++ tail) ≡ held ++ tail =
    ap (λ (l : List ℕ). drop (longest_v1_line * (length l / longest_v1_line)) (rest ++ tail)) says ∙ drop_front count rest tail within ∙ ap (λ (l : List ℕ). l ++ tail) behind in
    cond-true _ _ _ (lt-ltb longest_v1_line (length (without_newline (rest ++ tail))) long)
    ∙ (λ i. map front_piece (full_pieces (says i)) ++ piece (last i) true ∷ [])
    ∙ ap (λ (l : List (List ℕ)). map front_piece l ++ piece (held ++ tail) true ∷ []) (ap full_pieces is ∙ pieces_are pieces held full few)
  where
    drop_front : (n : ℕ) (xs ys : List ℕ) → n ≤ length xs → drop n (xs ++ ys) ≡ drop n xs ++ ys
    drop_front zero xs ys within = refl
    drop_front (suc n) [] ys within = absurd (omega (arith, within))
    drop_front (suc n) (x ∷ xs) ys within = drop_front n xs ys (omega (arith, within))

-- that of a line that gave none
pub short_line : (rest tail : List ℕ) → without_newline (rest ++ tail) ≡ rest → length rest ≤ longest_v1_line → inputs_of (rest ++ tail) ≡ line (rest ++ tail) ∷ []
short_line rest tail says short = cond-false _ _ _ (le-ltb longest_v1_line (length (without_newline (rest ++ tail))) (omega (arith, short, ap length says)))

-- ---- the laws

-- what a reader of lines has written of the bytes fed is the text that they decide
pub v1_seen : (reader : V1Reader) (held : List ℕ) (long : Bool) (fed shown : List ℕ) → HasFedV1 reader held long fed shown → IsV1Seen fed shown
v1_seen reader held long fed shown h = record {
  lines = h.lines;
  rest = h.rest;
  split = h.split;
  made = h.heard.made ∙ ap (λ (l : List Input). packets_of (events_so_far (inputs_of_lines h.lines ++ l))) (sym (seen_are long h.rest h.pieces held h.joined h.full h.short h.kind));
}

-- what stands behind the lines that ended, as a part of all inputs
inputs_first : (others : List (List ℕ)) (rest : List ℕ) → HasNoNewline rest → (rest ≡ []) ⊎ ((tail : List ℕ) × (later : List (List ℕ)) × (others ≡ (rest ++ tail) ∷ later))
    → (more : List Input) × (flat_map inputs_of others ≡ pieces_seen rest ++ more)
inputs_first others rest plain (inl none) = (flat_map inputs_of others, ap (λ (l : List ℕ). pieces_seen l ++ flat_map inputs_of others) (sym none))
inputs_first others rest plain (inr (tail, later, is)) =
    let (more, first) = line_first rest tail plain in (
      more ++ flat_map inputs_of later,
      ap (flat_map inputs_of) is ∙ ap (λ (l : List Input). l ++ flat_map inputs_of later) first ∙ append_assoc (pieces_seen rest) more (flat_map inputs_of later),
    )

-- the text that first bytes decide is a first part of the text of each stream that begins with them
pub v1_front : (bytes more shown all : List ℕ) (status : ℕ) → AreBytes (bytes ++ more) → IsV1Seen bytes shown → IsV1Filtered (bytes ++ more) all status → (rest : List ℕ) × (all ≡ shown ++ rest)
v1_front bytes more shown all status are s w =
    let (others, is, next) = next_ended bytes more s.lines w.lines s.rest w.rest s.split w.split in
    let (tail, first) = inputs_first others s.rest s.split.open_line next in
    let front = inputs_of_lines s.lines ++ pieces_seen s.rest in
    let inputs : all_inputs w.lines w.rest ≡ front ++ tail =
    ap (flat_map inputs_of) is ∙ flat_map-append inputs_of (map with_newline s.lines) others ∙ ap (λ (l : List Input). inputs_of_lines s.lines ++ l) first ∙ sym (append_assoc (inputs_of_lines s.lines) (pieces_seen s.rest) tail) in
    let at_end = events_at_end (state_behind start (front ++ tail)).open_test in
    let later = events_from (state_behind start front) tail ++ at_end in
    let events : events_of_inputs (front ++ tail) ≡ events_so_far front ++ later =
    ap (λ (l : List Event). l ++ at_end) (events_then start front tail) ∙ append_assoc (events_so_far front) (events_from (state_behind start front) tail) at_end in (
      packets_of later,
      w.made ∙ ap (λ (l : List Input). packets_of (events_of_inputs l)) inputs ∙ ap packets_of events ∙ packets_then (events_so_far front) later
          ∙ ap (λ (l : List ℕ). l ++ packets_of later) (sym s.made),
    )

-- a stream has one text and one status
pub v1_one : (bytes all other : List ℕ) (status another : ℕ) → AreBytes bytes → IsV1Filtered bytes all status → IsV1Filtered bytes other another → (all ≡ other) × (status ≡ another)
v1_one bytes all other status another are w v =
    let same = one_split bytes w.lines v.lines w.rest v.rest w.split v.split in
    let lines : map with_newline w.lines ++ last_line w.rest ≡ map with_newline v.lines ++ last_line v.rest = ap (λ (l : List (List ℕ)). map with_newline l ++ last_line w.rest) same.0 ∙ ap (λ (l : List ℕ). map with_newline v.lines ++ last_line l) same.1 in
    (w.made ∙ ap (λ (l : List (List ℕ)). packets_of (v1_events l)) lines ∙ sym v.made, w.status ∙ sym v.status)

-- first bytes decide one text
pub v1_one_seen : (bytes shown other : List ℕ) → AreBytes bytes → IsV1Seen bytes shown → IsV1Seen bytes other → shown ≡ other
v1_one_seen bytes shown other are s t =
    let same = one_split bytes s.lines t.lines s.rest t.rest s.split t.split in
    let text = λ (lines : List (List ℕ)) (rest : List ℕ). packets_of (events_so_far (inputs_of_lines lines ++ pieces_seen rest)) in
    s.made ∙ ap (λ (l : List (List ℕ)). text l s.rest) same.0 ∙ ap (λ (l : List ℕ). text t.lines l) same.1 ∙ sym t.made

-- each stream has some text, and the status 0
pub v1_some : (bytes : List ℕ) → (all : List ℕ) × IsV1Filtered bytes all 0
v1_some bytes =
    let (lines, rest, split) = some_split bytes in
    (packets_of (v1_events (map with_newline lines ++ last_line rest)), record { lines = lines; rest = rest; split = split; made = refl; status = refl })

-- any first bytes decide some text
pub v1_some_seen : (bytes : List ℕ) → (text : List ℕ) × IsV1Seen bytes text
v1_some_seen bytes =
    let (lines, rest, split) = some_split bytes in
    (packets_of (events_so_far (inputs_of_lines lines ++ pieces_seen rest)), record { lines = lines; rest = rest; split = split; made = refl })
