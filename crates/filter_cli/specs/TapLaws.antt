-- The laws that a filter owes, of lines of the Test Anything Protocol.
use Rattle.std.proofs.Common.{◌≡◌, ◌⊎◌, inl, inr, ⊎_elim, ℕ, zero, suc, ◌+◌, ◌*◌, ◌<◌, ◌≤◌, Bool, true, false, cond, nat_lt, nat_eq, List, [], ◌∷◌, ◌++◌, map, length, take, drop, refl, sym, ap, ◌∙◌, arith, append_assoc, append-nil, length-append, lt-ltb, le-ltb, ltb-true, ltb-false, ne_eqb, eq-eqb}
use Rattle.std.specs.List.{concat, filter}
use Rattle.std.proofs.lemmas.Bool.{cases_Bool, cond-true, cond-false}
use Rattle.std.proofs.lemmas.List.{map-append, take-append-drop, length-drop, length-take-le}
use Rattle.std.proofs.lemmas.List.Elements.{filter-append}
use Rattle.std.proofs.lemmas.List.Concat.{flat_map-append}
use Rattle.packet_codec.specs.declared.event.Event.{Event}
use Rattle.packet_codec.specs.Canonical.{canonical, packets_of}
use Rattle.packet_codec.specs.Grammar.{AreBytes}
use Rattle.stream_reader.specs.Notes.{stdout_event}
use Rattle.tap_bridge.specs.declared.reader.TapReader.{TapReader}
use Rattle.tap_bridge.specs.Events.{TapInput, longest_tap_line, input_of, too_long, pieces_of, events_at, tap_events_behind, tap_events_so_far, tap_events_at_end, tap_events}
use Rattle.tap_bridge.proofs.LongLines.{one_piece, piece_in_front}
use Rattle.filter_cli.specs.Lines.{last_line}
use Rattle.filter_cli.specs.LineLaws.{next_line, one_split, some_split}
use Rattle.filter_cli.specs.Tap.{is_full, open_line_pieces, IsTapSeen, IsTapFiltered}
use Rattle.filter_cli.specs.Tapped.{AreFull, most_open, GivesPieces, HasTapped}

-- Pieces.

-- full pieces in front are the first ones
pub full_pieces_first : (pieces : List (List ℕ)) (left : List ℕ) → AreFull pieces → pieces_of (concat pieces ++ left) ≡ pieces ++ pieces_of left
full_pieces_first [] left full = refl
full_pieces_first (piece ∷ pieces) left full =
    ap pieces_of (append_assoc piece (concat pieces) left)
    ∙ front (concat pieces ++ left) refl
    ∙ ap (λ (l : List (List ℕ)). piece ∷ l) (full_pieces_first pieces left full.1)
  where
    front : (bytes : List ℕ) → concat pieces ++ left ≡ bytes → pieces_of (piece ++ bytes) ≡ piece ∷ pieces_of bytes
    front [] is = ap pieces_of (append-nil piece) ∙ one_piece piece (omega (arith, full.0)) (omega (arith, full.0))
    front (byte ∷ bytes) is = piece_in_front piece (byte ∷ bytes) full.0 (omega arith)

-- of full pieces none is dropped where only full ones are kept
all_full : (pieces : List (List ℕ)) → AreFull pieces → filter is_full pieces ≡ pieces
all_full [] full = refl
all_full (piece ∷ pieces) full =
    let is : is_full piece ≡ true = eq-eqb (length piece) longest_tap_line full.0 in
    ap (λ b. cond b (piece ∷ filter is_full pieces) (filter is_full pieces)) is ∙ ap (λ (l : List (List ℕ)). piece ∷ l) (all_full pieces full.1)

-- fewer bytes than a full piece has give no full piece
none_full : (left : List ℕ) → length left < longest_tap_line → filter is_full (pieces_of left) ≡ []
none_full [] few = refl
none_full (byte ∷ left) few =
    ap (filter is_full) (one_piece (byte ∷ left) (omega arith) (omega (arith, few))) ∙ ap (λ b. cond b ((byte ∷ left) ∷ []) []) (not_full (length (byte ∷ left)) few)
  where
    not_full : (n : ℕ) → n < longest_tap_line → nat_eq n longest_tap_line ≡ false
    not_full n less = ne_eqb n longest_tap_line (λ is. absurd (omega (arith, less, is)))

-- the full pieces of bytes that are cut into full pieces and fewer bytes than one has are those pieces
pub full_are : (pieces : List (List ℕ)) (left : List ℕ) → AreFull pieces → length left < longest_tap_line → filter is_full (pieces_of (concat pieces ++ left)) ≡ pieces
full_are pieces left full few =
    ap (filter is_full) (full_pieces_first pieces left full) ∙ filter-append is_full pieces (pieces_of left)
    ∙ ap (λ (l : List (List ℕ)). filter is_full pieces ++ l) (none_full left few) ∙ append-nil (filter is_full pieces) ∙ all_full pieces full

-- bytes can be cut into full pieces and fewer bytes than one has
pub some_pieces : (n : ℕ) (bytes : List ℕ) → length bytes < longest_tap_line * (n + 1) → (pieces : List (List ℕ)) × (left : List ℕ) × (bytes ≡ concat pieces ++ left) × AreFull pieces × (length left < longest_tap_line)
some_pieces zero bytes few = ([], bytes, refl, tt, omega (arith, few))
some_pieces (suc n) bytes few =
    ⊎_elim
    (λ (less : nat_lt (length bytes) longest_tap_line ≡ true). ([], bytes, refl, tt, ltb-true (length bytes) longest_tap_line less))
    (λ (more : nat_lt (length bytes) longest_tap_line ≡ false).
    let enough : longest_tap_line ≤ length bytes = ltb-false (length bytes) longest_tap_line more in
    let fewer : length (drop longest_tap_line bytes) < longest_tap_line * (n + 1) = omega (arith, few, enough, length-drop longest_tap_line bytes) in
    let (pieces, left, is, full, short) = some_pieces n (drop longest_tap_line bytes) fewer in
    let size : length (take longest_tap_line bytes) ≡ longest_tap_line = length-take-le longest_tap_line bytes enough in
    (take longest_tap_line bytes ∷ pieces, left, sym (take-append-drop longest_tap_line bytes) ∙ ap (λ (l : List ℕ). take longest_tap_line bytes ++ l) is ∙ sym (append_assoc (take longest_tap_line bytes) (concat pieces) left), (size, full), short))
    (cases_Bool (nat_lt (length bytes) longest_tap_line))

-- Events.

-- what lines and others behind them give, behind the lines before all of these
tap_events_then : (before : List TapInput) (lines others : List TapInput) → tap_events_behind before (lines ++ others) ≡ tap_events_behind before lines ++ tap_events_behind (before ++ lines) others
tap_events_then before [] others = ap (λ (l : List TapInput). tap_events_behind l others) (sym (append-nil before))
tap_events_then before (this ∷ lines) others =
    ap (λ (l : List Event). events_at before this ++ l) (tap_events_then (before ++ this ∷ []) lines others
    ∙ ap (λ (l : List TapInput). tap_events_behind (before ++ this ∷ []) lines ++ tap_events_behind l others) (append_assoc before (this ∷ []) lines))
    ∙ sym (append_assoc (events_at before this) (tap_events_behind (before ++ this ∷ []) lines) (tap_events_behind (before ++ this ∷ lines) others))

-- what lines and others behind them give
so_far_then : (lines others : List (List ℕ)) → tap_events_so_far (lines ++ others) ≡ tap_events_so_far lines ++ tap_events_behind (map input_of lines) (map input_of others)
so_far_then lines others = ap (tap_events_behind []) (map-append input_of lines others) ∙ tap_events_then [] (map input_of lines) (map input_of others)

-- the packets of some events and of others are those of the first ones, and then those of the others
pub packets_then : (events others : List Event) → packets_of (events ++ others) ≡ packets_of events ++ packets_of others
packets_then events others = flat_map-append canonical events others

-- The full pieces of a line come first, however it goes on.

-- of a line that is cut into the full pieces that it gave and what is held of it, the decided pieces are those
pub full_pieces_are : (long : Bool) (rest : List ℕ) (pieces : List (List ℕ)) (held : List ℕ) → rest ≡ concat pieces ++ held → AreFull pieces → length held ≤ most_open long → GivesPieces long rest pieces → open_line_pieces rest ≡ pieces
full_pieces_are false rest pieces held is full short none =
    let all : rest ≡ held = is ∙ ap (λ (l : List (List ℕ)). concat l ++ held) none in
    cond-false _ _ _ (le-ltb longest_tap_line (length rest) (omega (arith, short, ap length all))) ∙ sym none
full_pieces_are true rest pieces held is full short longer =
    cond-true _ _ _ (lt-ltb longest_tap_line (length rest) longer) ∙ ap (λ (l : List ℕ). filter is_full (pieces_of l)) is ∙ full_are pieces held full (omega (arith, short))

-- what a line gives begins with the full pieces of its first bytes, whatever bytes end it
pieces_first : (before : List TapInput) (rest tail : List ℕ) → (events : List Event) × (events_at before (input_of (rest ++ tail)) ≡ map stdout_event (open_line_pieces rest) ++ events)
pieces_first before rest tail =
    ⊎_elim
    (λ (less : nat_lt longest_tap_line (length rest) ≡ false). (
      events_at before (input_of (rest ++ tail)),
      ap (λ (l : List (List ℕ)). map stdout_event l ++ events_at before (input_of (rest ++ tail))) (sym (cond-false (nat_lt longest_tap_line (length rest)) (filter is_full (pieces_of rest)) [] less)),
    ))
    (λ (more : nat_lt longest_tap_line (length rest) ≡ true).
    let longer : longest_tap_line < length rest = ltb-true longest_tap_line (length rest) more in
    let (pieces, left, is, full, short) = some_pieces (length rest) rest (omega arith) in
    let long : longest_tap_line < length (rest ++ tail) = omega (arith, longer, length-append rest tail) in
    let input : input_of (rest ++ tail) ≡ too_long (rest ++ tail) = cond-true _ _ _ (lt-ltb longest_tap_line (length (rest ++ tail)) long) in
    let joined : rest ++ tail ≡ concat pieces ++ (left ++ tail) = ap (λ (l : List ℕ). l ++ tail) is ∙ append_assoc (concat pieces) left tail in
    let all : pieces_of (rest ++ tail) ≡ pieces ++ pieces_of (left ++ tail) = ap pieces_of joined ∙ full_pieces_first pieces (left ++ tail) full in
    let same : open_line_pieces rest ≡ pieces = full_pieces_are true rest pieces left is full (omega (arith, short)) longer in (
      map stdout_event (pieces_of (left ++ tail)),
      ap (events_at before) input ∙ ap (map stdout_event) all ∙ map-append stdout_event pieces (pieces_of (left ++ tail))
          ∙ ap (λ (l : List (List ℕ)). map stdout_event l ++ map stdout_event (pieces_of (left ++ tail))) (sym same),
    ))
    (cases_or (nat_lt longest_tap_line (length rest)))
  where
    cases_or : (b : Bool) → (b ≡ false) ⊎ (b ≡ true)
    cases_or true = inr refl
    cases_or false = inl refl

-- The laws.

-- what a reader of lines has written of the bytes fed is the text that they decide
pub tap_seen : (reader : TapReader) (held : List ℕ) (long : Bool) (fed shown : List ℕ) → HasTapped reader held long fed shown → IsTapSeen fed shown
tap_seen reader held long fed shown h = record {
  lines = h.lines;
  rest = h.rest;
  split = h.split;
  made = h.made ∙ ap (λ (l : List (List ℕ)). packets_of (tap_events_so_far h.lines ++ map stdout_event l)) (sym (full_pieces_are long h.rest h.pieces held h.joined h.full h.short h.kind));
}

-- what stands behind the lines that ended, as a part of what they all give
seen_first : (lines others : List (List ℕ)) (rest : List ℕ) → (rest ≡ []) ⊎ ((tail : List ℕ) × (later : List (List ℕ)) × (others ≡ (rest ++ tail) ∷ later))
    → (events : List Event) × (tap_events (lines ++ others) ≡ (tap_events_so_far lines ++ map stdout_event (open_line_pieces rest)) ++ events)
seen_first lines others rest (inl none) =
    let at_end = tap_events_at_end (map input_of (lines ++ others)) in
    let behind_them = tap_events_behind (map input_of lines) (map input_of others) in
    let nothing : tap_events_so_far lines ++ map stdout_event (open_line_pieces rest) ≡ tap_events_so_far lines =
    ap (λ (l : List ℕ). tap_events_so_far lines ++ map stdout_event (open_line_pieces l)) none ∙ append-nil (tap_events_so_far lines) in (
      behind_them ++ at_end,
      ap (λ (l : List Event). l ++ at_end) (so_far_then lines others) ∙ append_assoc (tap_events_so_far lines) behind_them at_end
          ∙ ap (λ (l : List Event). l ++ (behind_them ++ at_end)) (sym nothing),
    )
seen_first lines others rest (inr (tail, later, is)) =
    let before = map input_of lines in
    let at_end = tap_events_at_end (map input_of (lines ++ others)) in
    let (events, first) = pieces_first before rest tail in
    let shown = map stdout_event (open_line_pieces rest) in
    let after = tap_events_behind (before ++ input_of (rest ++ tail) ∷ []) (map input_of later) in
    let behind_them : tap_events_behind before (map input_of others) ≡ shown ++ (events ++ after) =
    ap (λ (l : List (List ℕ)). tap_events_behind before (map input_of l)) is ∙ ap (λ (l : List Event). l ++ after) first ∙ append_assoc shown events after in (
      (events ++ after) ++ at_end,
      ap (λ (l : List Event). l ++ at_end) (so_far_then lines others ∙ ap (λ (l : List Event). tap_events_so_far lines ++ l) behind_them ∙ sym (append_assoc (tap_events_so_far lines) shown (events ++ after)))
          ∙ append_assoc (tap_events_so_far lines ++ shown) (events ++ after) at_end,
    )

-- the text that first bytes decide is a first part of the text of each stream that begins with them
pub tap_front : (bytes more shown all : List ℕ) (status : ℕ) → AreBytes (bytes ++ more) → IsTapSeen bytes shown → IsTapFiltered (bytes ++ more) all status → (rest : List ℕ) × (all ≡ shown ++ rest)
tap_front bytes more shown all status are s w =
    let (others, is, next) = next_line bytes more s.lines w.lines s.rest w.rest s.split w.split in
    let (events, first) = seen_first s.lines others s.rest next in (
      packets_of events,
      w.made ∙ ap (λ (l : List (List ℕ)). packets_of (tap_events l)) is ∙ ap packets_of first
          ∙ packets_then (tap_events_so_far s.lines ++ map stdout_event (open_line_pieces s.rest)) events
          ∙ ap (λ (l : List ℕ). l ++ packets_of events) (sym s.made),
    )

-- a stream has one text and one status
pub tap_one : (bytes all other : List ℕ) (status another : ℕ) → AreBytes bytes → IsTapFiltered bytes all status → IsTapFiltered bytes other another → (all ≡ other) × (status ≡ another)
tap_one bytes all other status another are w v =
    let same = one_split bytes w.lines v.lines w.rest v.rest w.split v.split in
    let lines : w.lines ++ last_line w.rest ≡ v.lines ++ last_line v.rest = ap (λ (l : List (List ℕ)). l ++ last_line w.rest) same.0 ∙ ap (λ (l : List ℕ). v.lines ++ last_line l) same.1 in
    (w.made ∙ ap (λ (l : List (List ℕ)). packets_of (tap_events l)) lines ∙ sym v.made, w.status ∙ sym v.status)

-- first bytes decide one text
pub tap_one_seen : (bytes shown other : List ℕ) → AreBytes bytes → IsTapSeen bytes shown → IsTapSeen bytes other → shown ≡ other
tap_one_seen bytes shown other are s t =
    let same = one_split bytes s.lines t.lines s.rest t.rest s.split t.split in
    let text = λ (lines : List (List ℕ)) (rest : List ℕ). packets_of (tap_events_so_far lines ++ map stdout_event (open_line_pieces rest)) in
    s.made ∙ ap (λ (l : List (List ℕ)). text l s.rest) same.0 ∙ ap (λ (l : List ℕ). text t.lines l) same.1 ∙ sym t.made

-- each stream has some text, and the status 0
pub tap_some : (bytes : List ℕ) → (all : List ℕ) × IsTapFiltered bytes all 0
tap_some bytes =
    let (lines, rest, split) = some_split bytes in
    (packets_of (tap_events (lines ++ last_line rest)), record { lines = lines; rest = rest; split = split; made = refl; status = refl })

-- any first bytes decide some text
pub tap_some_seen : (bytes : List ℕ) → (text : List ℕ) × IsTapSeen bytes text
tap_some_seen bytes =
    let (lines, rest, split) = some_split bytes in
    (packets_of (tap_events_so_far lines ++ map stdout_event (open_line_pieces rest)), record { lines = lines; rest = rest; split = split; made = refl })
