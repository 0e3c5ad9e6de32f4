-- A reader of lines of the Test Anything Protocol at work.
use Rattle.std.proofs.Common.{◌≡◌, ℕ, ◌+◌, ◌<◌, ◌≤◌, Bool, true, false, List, [], ◌∷◌, ◌++◌, map, length, take, drop, refl, sym, ap, subst, ◌∙◌, arith, append_assoc, append-nil, length-append}
use Rattle.std.specs.List.{concat, flat_map}
use Rattle.std.proofs.lemmas.List.{map-append, take-append-drop}
use Rattle.std.proofs.lemmas.List.Concat.{flat_map-append}
use Rattle.std.proofs.lemmas.List.Folds.{concat-append}
use Rattle.packet_codec.specs.declared.event.Event.{Event}
use Rattle.packet_codec.specs.Canonical.{canonical, Fits, packets_of}
use Rattle.stream_reader.specs.Notes.{stdout_event}
use Rattle.tap_bridge.specs.declared.reader.TapReader.{TapReader}
use Rattle.tap_bridge.specs.Events.{longest_tap_line, pieces_of, input_of, events_at, tap_events_so_far, tap_events}
use Rattle.tap_bridge.specs.Kept.{HasReadLines}
use Rattle.tap_bridge.proofs.SizeLemmas.{stdout_fits}
use Rattle.tap_bridge.proofs.LongLines.{one_piece, too_long_is_read, too_long_gives}
use Rattle.tap_bridge.proofs.ReadLemmas.{so_far_push}
use Rattle.v1_bridge.specs.Lines.{HasNoNewline}
use Rattle.sub_number.specs.Lines.{with_newline}
use Rattle.filter_cli.specs.Pipe.{Adds}
use Rattle.filter_cli.specs.Lines.{HaveNoNewline, IsSplit, last_line}
use Rattle.filter_cli.specs.Tap.{IsTapFiltered}
use Rattle.filter_cli.specs.TapLaws.{full_pieces_first, packets_then}
use Rattle.filter_cli.specs.Tapped.{AreFull, most_open, GivesPieces, IsLonger, IsAdded, HasTapped, HasTaken}

-- Lists.

pub plain_then : (bytes more : List ℕ) → HasNoNewline bytes → HasNoNewline more → HasNoNewline (bytes ++ more)
plain_then [] more p q = q
plain_then (byte ∷ bytes) more p q = (p.0, plain_then bytes more p.1 q)

pub lines_more : (lines : List (List ℕ)) (line : List ℕ) → HaveNoNewline lines → HasNoNewline line → HaveNoNewline (lines ++ line ∷ [])
lines_more [] line p q = (q, tt)
lines_more (first ∷ lines) line p q = (p.0, lines_more lines line p.1 q)

pub full_then : (pieces more : List (List ℕ)) → AreFull pieces → AreFull more → AreFull (pieces ++ more)
full_then [] more p q = q
full_then (piece ∷ pieces) more p q = (p.0, full_then pieces more p.1 q)

-- one step after others
pub adds_then : (takes later : List ℕ → List ℕ → Type 0) (fed next shown : List ℕ) (old mid new : List ℕ)
    → Adds old mid (λ more. takes fed (shown ++ more)) → ((f s : List ℕ) → takes f s → Adds mid new (λ more. later (f ++ next) (s ++ more)))
    → Adds old new (λ more. later (fed ++ next) (shown ++ more))
adds_then takes later fed next shown old mid new first then_next =
    let second = then_next fed (shown ++ first.more) first.holds in
    record {
      more = first.more ++ second.more;
      grown = second.grown ∙ ap (λ (l : List ℕ). l ++ second.more) first.grown ∙ append_assoc old first.more second.more;
      holds = subst (later (fed ++ next)) (append_assoc shown first.more second.more) second.holds;
    }

pub adds_none : (takes : List ℕ → List ℕ → Type 0) (fed shown old : List ℕ) → takes fed shown → Adds old old (λ more. takes fed (shown ++ more))
adds_none takes fed shown old is = record { more = []; grown = sym (append-nil old); holds = subst (takes fed) (sym (append-nil shown)) is }

-- Bytes of a line.

pub tapped_none : (reader : TapReader) (held : List ℕ) (long : Bool) → held ≡ [] → long ≡ false → HasReadLines reader [] → HasTapped reader held long [] []
tapped_none reader held long none new read = subst (λ (l : List ℕ). HasTapped reader l long [] []) (sym none) (subst (λ (b : Bool). HasTapped reader [] b [] []) (sym new) (record {
  lines = [];
  rest = [];
  taken = read;
  split = record { joined = refl; plain = tt; open_line = tt };
  pieces = [];
  joined = refl;
  full = tt;
  short = omega arith;
  kind = refl;
  made = refl;
}))

kind_more : (long longer : Bool) (rest held bytes : List ℕ) (pieces more : List (List ℕ)) → rest ≡ concat pieces ++ held → GivesPieces long rest pieces → IsLonger long longer (length (held ++ bytes)) more → GivesPieces longer (rest ++ bytes) (pieces ++ more)
kind_more false false rest held bytes pieces more is kind grows = ap (λ (l : List (List ℕ)). l ++ more) kind ∙ grows
kind_more true false rest held bytes pieces more is kind grows = absurd grows
kind_more false true rest held bytes pieces more is kind grows =
    omega (arith, grows, ap length is, length-append (concat pieces) held, length-append held bytes, length-append rest bytes)
kind_more true true rest held bytes pieces more is kind grows = omega (arith, kind, length-append rest bytes)

pub tapped_more : (reader : TapReader) (held : List ℕ) (long : Bool) (fed shown bytes later : List ℕ) (longer : Bool) (old new : List ℕ) → HasNoNewline bytes → HasTapped reader held long fed shown → IsAdded held long bytes later longer old new
    → Adds old new (λ more. HasTapped reader later longer (fed ++ bytes) (shown ++ more))
tapped_more reader held long fed shown bytes later longer old new plain h a =
    let so_far = tap_events_so_far h.lines in
    let before = map stdout_event h.pieces in
    let behind = map stdout_event a.pieces in
    record {
      more = packets_of behind;
      grown = a.grown;
      holds = record {
        lines = h.lines;
        rest = h.rest ++ bytes;
        taken = h.taken;
        split = record {
          joined = ap (λ (l : List ℕ). l ++ bytes) h.split.joined ∙ append_assoc (flat_map with_newline h.lines) h.rest bytes;
          plain = h.split.plain;
          open_line = plain_then h.rest bytes h.split.open_line plain;
        };
        pieces = h.pieces ++ a.pieces;
        joined = ap (λ (l : List ℕ). l ++ bytes) h.joined ∙ append_assoc (concat h.pieces) held bytes ∙ ap (λ (l : List ℕ). concat h.pieces ++ l) a.joined
            ∙ sym (append_assoc (concat h.pieces) (concat a.pieces) later) ∙ ap (λ (l : List ℕ). l ++ later) (sym (concat-append h.pieces a.pieces));
        full = full_then h.pieces a.pieces h.full a.full;
        short = a.short;
        kind = kind_more long longer h.rest held bytes h.pieces a.pieces h.joined h.kind a.kind;
        made = ap (λ (l : List ℕ). l ++ packets_of behind) h.made ∙ sym (packets_then (so_far ++ before) behind)
            ∙ ap packets_of (append_assoc so_far before behind ∙ ap (λ (l : List Event). so_far ++ l) (sym (map-append stdout_event h.pieces a.pieces)));
      };
    }

-- Lines.

-- what is held of a line that was not given in pieces is all of it
pub held_is : (reader : TapReader) (held : List ℕ) (long : Bool) (fed shown : List ℕ) → long ≡ false → (h : HasTapped reader held long fed shown) → (h.pieces ≡ []) × (h.rest ≡ held)
held_is reader held true fed shown new h = absurd cc
held_is reader held false fed shown new h = (h.kind, h.joined ∙ ap (λ (l : List (List ℕ)). concat l ++ held) h.kind)

-- a reader that was given whole lines, and gave no piece of the next one
pub taken_of : (reader : TapReader) (held : List ℕ) (long : Bool) (fed shown : List ℕ) → long ≡ false → (h : HasTapped reader held long fed shown) → HasTaken reader h.lines shown
taken_of reader held long fed shown new h =
    let none = (held_is reader held long fed shown new h).0 in
    record { taken = h.taken; made = h.made ∙ ap (λ (l : List (List ℕ)). packets_of (tap_events_so_far h.lines ++ map stdout_event l)) none ∙ ap packets_of (append-nil (tap_events_so_far h.lines)) }

-- a line that the reader took
pub taken_line : (lines : List (List ℕ)) (line shown old new : List ℕ) (before after : TapReader) (events : List Event) → HasTaken before lines shown
    → HasReadLines after (lines ++ line ∷ []) → tap_events_so_far (lines ++ line ∷ []) ≡ tap_events_so_far lines ++ events → new ≡ old ++ packets_of events
    → Adds old new (λ more. HasTaken after (lines ++ line ∷ []) (shown ++ more))
taken_line lines line shown old new before after events h read gives grown = record {
  more = packets_of events;
  grown = grown;
  holds = record { taken = read; made = ap (λ (l : List ℕ). l ++ packets_of events) h.made ∙ sym (packets_then (tap_events_so_far lines) events) ∙ ap packets_of (sym gives) };
}

-- a line that the reader took, which gave nothing
pub taken_comment : (lines : List (List ℕ)) (line shown old : List ℕ) (before after : TapReader) → HasTaken before lines shown → HasReadLines after (lines ++ line ∷ [])
    → tap_events_so_far (lines ++ line ∷ []) ≡ tap_events_so_far lines → Adds old old (λ more. HasTaken after (lines ++ line ∷ []) (shown ++ more))
taken_comment lines line shown old before after h read gives =
    taken_line lines line shown old old before after [] h read (gives ∙ sym (append-nil (tap_events_so_far lines))) (sym (append-nil old))

-- a line that the reader took, whose events were put into an empty list
pub taken_events : (lines : List (List ℕ)) (line shown old new : List ℕ) (before after : TapReader) (cleared events : List Event) → HasTaken before lines shown → HasReadLines after (lines ++ line ∷ [])
    → cleared ≡ [] → events ≡ cleared ++ events_at (map input_of lines) (input_of line) → new ≡ old ++ packets_of events → Adds old new (λ more. HasTaken after (lines ++ line ∷ []) (shown ++ more))
taken_events lines line shown old new before after cleared events h read none is grown =
    let gives = events_at (map input_of lines) (input_of line) in
    taken_line lines line shown old new before after events h read
    (so_far_push lines line ∙ ap (λ (l : List Event). tap_events_so_far lines ++ l) (sym (is ∙ ap (λ (l : List Event). l ++ gives) none))) grown

-- a line that was too long, of which this is left
pub taken_long : (reader : TapReader) (held : List ℕ) (long : Bool) (fed shown old new : List ℕ) → long ≡ true → new ≡ old ++ packets_of (map stdout_event (last_line held)) → (h : HasTapped reader held long fed shown)
    → Adds old new (λ more. HasTaken reader (h.lines ++ h.rest ∷ []) (shown ++ more))
taken_long reader held false fed shown old new is grown h = absurd cc
taken_long reader held true fed shown old new is grown h =
    let so_far = tap_events_so_far h.lines in
    let before = map stdout_event h.pieces in
    let behind = map stdout_event (last_line held) in
    let pieces : pieces_of h.rest ≡ h.pieces ++ last_line held =
    ap pieces_of h.joined ∙ full_pieces_first h.pieces held h.full ∙ ap (λ (l : List (List ℕ)). h.pieces ++ l) (last_piece held (omega (arith, h.short))) in
    let gives : tap_events_so_far (h.lines ++ h.rest ∷ []) ≡ (so_far ++ before) ++ behind =
    too_long_gives h.lines h.rest h.kind ∙ ap (λ (l : List (List ℕ)). so_far ++ map stdout_event l) pieces
    ∙ ap (λ (l : List Event). so_far ++ l) (map-append stdout_event h.pieces (last_line held)) ∙ sym (append_assoc so_far before behind) in
    record {
      more = packets_of behind;
      grown = grown;
      holds = record {
        taken = too_long_is_read reader h.lines h.rest h.kind h.taken;
        made = ap (λ (l : List ℕ). l ++ packets_of behind) h.made ∙ sym (packets_then (so_far ++ before) behind) ∙ ap packets_of (sym gives);
      };
    }
  where
    last_piece : (left : List ℕ) → length left ≤ longest_tap_line → pieces_of left ≡ last_line left
    last_piece [] few = refl
    last_piece (byte ∷ left) few = one_piece (byte ∷ left) (omega arith) few

-- the line that is held, which is whole
pub taken_held : (reader after : TapReader) (held : List ℕ) (long : Bool) (fed shown line old new : List ℕ) → long ≡ false → line ≡ held → (h : HasTapped reader held long fed shown)
    → ((lines : List (List ℕ)) (text : List ℕ) → HasTaken reader lines text → Adds old new (λ more. HasTaken after (lines ++ line ∷ []) (text ++ more)))
    → Adds old new (λ more. HasTaken after (h.lines ++ h.rest ∷ []) (shown ++ more))
taken_held reader after held long fed shown line old new whole is h takes =
    let all : line ≡ h.rest = is ∙ sym ((held_is reader held long fed shown whole h).1) in
    subst (λ (l : List ℕ). Adds old new (λ more. HasTaken after (h.lines ++ l ∷ []) (shown ++ more))) all (takes h.lines shown (taken_of reader held long fed shown whole h))

ended_line : (reader : TapReader) (lines : List (List ℕ)) (line fed shown : List ℕ) → IsSplit fed lines line → HasTaken reader (lines ++ line ∷ []) shown → HasTapped reader [] false (fed ++ 10 ∷ []) shown
ended_line reader lines line fed shown s t =
    let all : flat_map with_newline (lines ++ line ∷ []) ≡ flat_map with_newline lines ++ with_newline line = flat_map-append with_newline lines (line ∷ []) ∙ ap (λ (l : List ℕ). flat_map with_newline lines ++ l) (append-nil (with_newline line)) in
    record {
      lines = lines ++ line ∷ [];
      rest = [];
      taken = t.taken;
      split = record {
        joined = ap (λ (l : List ℕ). l ++ 10 ∷ []) s.joined ∙ append_assoc (flat_map with_newline lines) line (10 ∷ []) ∙ sym all ∙ sym (append-nil (flat_map with_newline (lines ++ line ∷ [])));
        plain = lines_more lines line s.plain s.open_line;
        open_line = tt;
      };
      pieces = [];
      joined = refl;
      full = tt;
      short = omega arith;
      kind = refl;
      made = t.made ∙ ap packets_of (sym (append-nil (tap_events_so_far (lines ++ line ∷ []))));
    }

-- the line of a reader at work, once its newline is there
pub tapped_line : (reader after : TapReader) (held : List ℕ) (long : Bool) (fed shown old new : List ℕ) → (h : HasTapped reader held long fed shown) → Adds old new (λ more. HasTaken after (h.lines ++ h.rest ∷ []) (shown ++ more))
    → Adds old new (λ more. HasTapped after [] false (fed ++ 10 ∷ []) (shown ++ more))
tapped_line reader after held long fed shown old new h a = record { more = a.more; grown = a.grown; holds = ended_line after h.lines h.rest fed (shown ++ a.more) h.split a.holds }

-- the end of a line of which bytes were read before
pub line_more : (reader after : TapReader) (held : List ℕ) (long : Bool) (fed shown end later : List ℕ) (longer : Bool) (old mid new : List ℕ) → HasNoNewline end → HasTapped reader held long fed shown → IsAdded held long end later longer old mid
    → ((f s : List ℕ) → (h : HasTapped reader later longer f s) → Adds mid new (λ more. HasTaken after (h.lines ++ h.rest ∷ []) (s ++ more)))
    → Adds old new (λ more. HasTapped after [] false (fed ++ (end ++ 10 ∷ [])) (shown ++ more))
line_more reader after held long fed shown end later longer old mid new plain h added ends =
    subst (λ (l : List ℕ). Adds old new (λ more. HasTapped after [] false l (shown ++ more))) (append_assoc fed end (10 ∷ []))
    (adds_then (HasTapped reader later longer) (HasTapped after [] false) (fed ++ end) (10 ∷ []) shown old mid new (tapped_more reader held long fed shown end later longer old mid plain h added)
    (λ f s k. tapped_line reader after later longer f s mid new k (ends f s k)))

-- a line of which nothing was read before
pub line_new : (reader after : TapReader) (held : List ℕ) (long : Bool) (fed shown line old new : List ℕ) → held ≡ [] → long ≡ false → HasNoNewline line → HasTapped reader held long fed shown
    → ((lines : List (List ℕ)) (text : List ℕ) → HasTaken reader lines text → Adds old new (λ more. HasTaken after (lines ++ line ∷ []) (text ++ more)))
    → Adds old new (λ more. HasTapped after [] false (fed ++ (line ++ 10 ∷ [])) (shown ++ more))
line_new reader after held long fed shown line old new none whole plain h takes =
    let a = takes h.lines shown (taken_of reader held long fed shown whole h) in
    let nothing : h.rest ≡ [] = (held_is reader held long fed shown whole h).1 ∙ none in
    let before : fed ≡ flat_map with_newline h.lines = h.split.joined ∙ ap (λ (l : List ℕ). flat_map with_newline h.lines ++ l) nothing ∙ append-nil (flat_map with_newline h.lines) in
    let split : IsSplit (fed ++ line) h.lines line = record { joined = ap (λ (l : List ℕ). l ++ line) before; plain = h.split.plain; open_line = plain } in
    record {
      more = a.more;
      grown = a.grown;
      holds = subst (λ (l : List ℕ). HasTapped after [] false l (shown ++ a.more)) (append_assoc fed line (10 ∷ [])) (ended_line after h.lines line (fed ++ line) (shown ++ a.more) split a.holds);
    }

-- The end.

pub last_new : (reader : TapReader) (held : List ℕ) (long : Bool) (fed shown old : List ℕ) → held ≡ [] → long ≡ false → (h : HasTapped reader held long fed shown) → Adds old old (λ more. HasTaken reader (h.lines ++ last_line h.rest) (shown ++ more))
last_new reader held long fed shown old none whole h =
    let nothing : h.rest ≡ [] = (held_is reader held long fed shown whole h).1 ∙ none in
    let lines : h.lines ++ last_line h.rest ≡ h.lines = ap (λ (l : List ℕ). h.lines ++ last_line l) nothing ∙ append-nil h.lines in
    record {
      more = [];
      grown = sym (append-nil old);
      holds = subst (λ (l : List (List ℕ)). HasTaken reader l (shown ++ [])) (sym lines) (subst (HasTaken reader h.lines) (sym (append-nil shown)) (taken_of reader held long fed shown whole h));
    }

one_line : (rest : List ℕ) → (rest ≡ [] → ⊥) → last_line rest ≡ rest ∷ []
one_line [] some = absurd (some refl)
one_line (byte ∷ rest) some = refl

some_rest : (reader : TapReader) (held : List ℕ) (long : Bool) (fed shown : List ℕ) → ((held ≡ []) × (long ≡ false) → ⊥) → (h : HasTapped reader held long fed shown) → h.rest ≡ [] → ⊥
some_rest reader held false fed shown some h none = some (sym ((held_is reader held false fed shown refl h).1) ∙ none, refl)
some_rest reader held true fed shown some h none = absurd (omega (arith, h.kind, ap length none))

pub last_more : (reader after : TapReader) (held : List ℕ) (long : Bool) (fed shown old new : List ℕ) → ((held ≡ []) × (long ≡ false) → ⊥) → (h : HasTapped reader held long fed shown)
    → Adds old new (λ more. HasTaken after (h.lines ++ h.rest ∷ []) (shown ++ more)) → Adds old new (λ more. HasTaken after (h.lines ++ last_line h.rest) (shown ++ more))
last_more reader after held long fed shown old new some h a =
    subst (λ (l : List (List ℕ)). Adds old new (λ more. HasTaken after (h.lines ++ l) (shown ++ more))) (sym (one_line h.rest (some_rest reader held long fed shown some h))) a

-- what the end gives
pub tapped_all : (reader after : TapReader) (held : List ℕ) (long : Bool) (fed shown old mid new : List ℕ) (events : List Event) → (h : HasTapped reader held long fed shown)
    → Adds old mid (λ more. HasTaken after (h.lines ++ last_line h.rest) (shown ++ more)) → ((lines : List (List ℕ)) → HasReadLines after lines → tap_events lines ≡ tap_events_so_far lines ++ events) → new ≡ mid ++ packets_of events
    → Adds old new (λ more. IsTapFiltered fed (shown ++ more) 0)
tapped_all reader after held long fed shown old mid new events h a gives grown =
    let lines = h.lines ++ last_line h.rest in
    let last = packets_of events in
    record {
      more = a.more ++ last;
      grown = grown ∙ ap (λ (l : List ℕ). l ++ last) a.grown ∙ append_assoc old a.more last;
      holds = record {
        lines = h.lines;
        rest = h.rest;
        split = h.split;
        made = sym (append_assoc shown a.more last) ∙ ap (λ (l : List ℕ). l ++ last) a.holds.made ∙ sym (packets_then (tap_events_so_far lines) events) ∙ ap packets_of (sym (gives lines a.holds.taken));
        status = refl;
      };
    }

-- A piece of the input.

-- up to a newline
pub fed_line : (reader after : TapReader) (held later : List ℕ) (long longer : Bool) (piece end fed shown old mid new : List ℕ) (from n : ℕ) → later ≡ [] → longer ≡ false → take n piece ≡ take from piece ++ (end ++ 10 ∷ [])
    → Adds old mid (λ more. HasTapped reader held long (fed ++ take from piece) (shown ++ more))
    → ((f s : List ℕ) → HasTapped reader held long f s → Adds mid new (λ more. HasTapped after [] false (f ++ (end ++ 10 ∷ [])) (s ++ more)))
    → Adds old new (λ more. HasTapped after later longer (fed ++ take n piece) (shown ++ more))
fed_line reader after held later long longer piece end fed shown old mid new from n none whole is first then_next =
    let all : (fed ++ take from piece) ++ (end ++ 10 ∷ []) ≡ fed ++ take n piece = append_assoc fed (take from piece) (end ++ 10 ∷ []) ∙ ap (λ (l : List ℕ). fed ++ l) (sym is) in
    subst (λ (l : List ℕ). Adds old new (λ more. HasTapped after l longer (fed ++ take n piece) (shown ++ more))) (sym none)
    (subst (λ (b : Bool). Adds old new (λ more. HasTapped after [] b (fed ++ take n piece) (shown ++ more))) (sym whole)
    (subst (λ (l : List ℕ). Adds old new (λ more. HasTapped after [] false l (shown ++ more))) all
    (adds_then (HasTapped reader held long) (HasTapped after [] false) (fed ++ take from piece) (end ++ 10 ∷ []) shown old mid new first then_next)))

-- what follows the last newline in it
pub fed_rest : (reader : TapReader) (held later : List ℕ) (long longer : Bool) (piece bytes fed shown old mid new : List ℕ) (from : ℕ) → bytes ≡ drop from piece → HasNoNewline bytes
    → Adds old mid (λ more. HasTapped reader held long (fed ++ take from piece) (shown ++ more)) → IsAdded held long bytes later longer mid new
    → Adds old new (λ more. HasTapped reader later longer (fed ++ piece) (shown ++ more))
fed_rest reader held later long longer piece bytes fed shown old mid new from is plain first added =
    let all : (fed ++ take from piece) ++ bytes ≡ fed ++ piece = append_assoc fed (take from piece) bytes ∙ ap (λ (l : List ℕ). fed ++ l) (ap (λ (l : List ℕ). take from piece ++ l) is ∙ take-append-drop from piece) in
    subst (λ (l : List ℕ). Adds old new (λ more. HasTapped reader later longer l (shown ++ more))) all
    (adds_then (HasTapped reader held long) (HasTapped reader later longer) (fed ++ take from piece) bytes shown old mid new first
    (λ f s h. tapped_more reader held long f s bytes later longer mid new plain h added))

-- Bytes that are added to a line.

-- a whole piece
pub added_full : (bytes held : List ℕ) (long : Bool) (old new : List ℕ) → held ≡ [] → long ≡ true → length bytes ≡ longest_tap_line → new ≡ old ++ canonical (stdout_event bytes) → IsAdded [] true bytes held long old new
added_full bytes held false old new none is full grown = absurd cc
added_full bytes held true old new none is full grown = record {
  pieces = bytes ∷ [];
  joined = sym (ap (λ (l : List ℕ). (bytes ++ []) ++ l) none ∙ append-nil (bytes ++ []) ∙ append-nil bytes);
  full = (full, tt);
  short = omega (arith, ap length none);
  kind = tt;
  grown = grown ∙ ap (λ (l : List ℕ). old ++ l) (sym (append-nil (canonical (stdout_event bytes))));
}

pub kind_behind : (long longer : Bool) (size sum : ℕ) (pieces others : List (List ℕ)) → most_open long < size → IsLonger true longer sum others → IsLonger long longer size pieces
kind_behind false false size sum pieces others more kind = absurd kind
kind_behind true false size sum pieces others more kind = absurd kind
kind_behind false true size sum pieces others more kind = more
kind_behind true true size sum pieces others more kind = tt

-- a piece that they fill up, and what is behind it
pub added_piece : (held bytes front behind piece later : List ℕ) (long longer : Bool) (old mid new : List ℕ) → piece ≡ held ++ front → bytes ≡ front ++ behind → length piece ≡ longest_tap_line
    → mid ≡ old ++ canonical (stdout_event piece) → most_open long < length bytes + length held → IsAdded [] true behind later longer mid new → IsAdded held long bytes later longer old new
added_piece held bytes front behind piece later long longer old mid new is both full grown more a =
    let packet = canonical (stdout_event piece) in
    let others = packets_of (map stdout_event a.pieces) in
    let size : most_open long < length (held ++ bytes) = omega (arith, more, length-append held bytes) in
    record {
      pieces = piece ∷ a.pieces;
      joined = ap (λ (l : List ℕ). held ++ l) both ∙ sym (append_assoc held front behind) ∙ ap (λ (l : List ℕ). l ++ behind) (sym is)
          ∙ ap (λ (l : List ℕ). piece ++ l) a.joined ∙ sym (append_assoc piece (concat a.pieces) later);
      full = (full, a.full);
      short = a.short;
      kind = kind_behind long longer (length (held ++ bytes)) (length behind) (piece ∷ a.pieces) a.pieces size a.kind;
      grown = a.grown ∙ ap (λ (l : List ℕ). l ++ others) grown ∙ append_assoc old packet others;
    }

pub piece_fits : (event : Event) (piece bytes : List ℕ) → event ≡ stdout_event piece → piece ≡ bytes → length bytes ≤ longest_tap_line → Fits event
piece_fits event piece bytes is same short = rw is (stdout_fits piece (omega (arith, ap length same, short)))

pub most_open_most : (long : Bool) → most_open long ≤ longest_tap_line
most_open_most true = omega arith
most_open_most false = omega arith

pub none_held : (held : List ℕ) (long : Bool) → held ≡ [] → length held ≤ most_open long
none_held held true none = omega (arith, ap length none)
none_held held false none = omega (arith, ap length none)

-- bytes that are cut in two
pub cut_is : (bytes front behind : List ℕ) (n : ℕ) → front ≡ take n bytes → behind ≡ drop n bytes → bytes ≡ front ++ behind
cut_is bytes front behind n first second = sym (take-append-drop n bytes) ∙ ap (λ (l : List ℕ). l ++ drop n bytes) (sym first) ∙ ap (λ (l : List ℕ). front ++ l) (sym second)
