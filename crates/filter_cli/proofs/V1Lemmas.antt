-- A reader of lines of version 1 at work.
use Rattle.std.proofs.Common.{◌≡◌, ℕ, ◌+◌, ◌<◌, ◌≤◌, Bool, true, false, List, [], ◌∷◌, ◌++◌, map, length, take, drop, refl, sym, ap, subst, ◌∙◌, arith, append_assoc, append-nil, length-append}
use Rattle.std.specs.List.{concat, flat_map}
use Rattle.std.proofs.lemmas.List.{map-append, take-append-drop}
use Rattle.std.proofs.lemmas.List.Concat.{flat_map-append}
use Rattle.std.proofs.lemmas.List.Folds.{concat-append}
use Rattle.packet_codec.specs.declared.event.Event.{Event}
use Rattle.packet_codec.specs.Canonical.{packets_of}
use Rattle.v1_bridge.specs.declared.reader.V1Reader.{V1Reader}
use Rattle.v1_bridge.specs.Lines.{without_newline, HasNoNewline}
use Rattle.v1_bridge.specs.Events.{longest_v1_line}
use Rattle.v1_bridge.specs.Reading.{Input, line, piece, front_piece, inputs_of, events_so_far, events_of_inputs, events_given_behind, last_input}
use Rattle.v1_bridge.specs.Kept.{HasRead}
use Rattle.v1_bridge.proofs.LineLemmas.{newline_gone}
use Rattle.v1_bridge.proofs.RunLemmas.{so_far_push}
use Rattle.sub_number.specs.Lines.{with_newline}
use Rattle.filter_cli.specs.Pipe.{Adds}
use Rattle.filter_cli.specs.Lines.{last_line}
use Rattle.filter_cli.specs.TapLaws.{packets_then}
use Rattle.filter_cli.specs.Tapped.{AreFull, most_open, GivesPieces, IsLonger}
use Rattle.filter_cli.specs.V1.{inputs_of_lines, all_inputs, IsV1Filtered}
use Rattle.filter_cli.specs.V1Laws.{plain_line, long_line, short_line}
use Rattle.filter_cli.specs.V1Fed.{HasHeardV1, HearsV1, HasFedV1, IsAddedTo}
use Rattle.filter_cli.proofs.TapLemmas.{adds_then, plain_then, lines_more, full_then, kind_behind}

-- ---- what a reader was given

-- one input more, whose events were put into an empty list
pub hears_one : (before after : V1Reader) (input : Input) (old new : List ℕ) (cleared events : List Event) → cleared ≡ [] → new ≡ old ++ packets_of events
    → ((inputs : List Input) → HasRead before inputs → events ≡ cleared ++ events_given_behind inputs input) → ((inputs : List Input) → HasRead before inputs → HasRead after (inputs ++ input ∷ []))
    → HearsV1 before after (input ∷ []) old new
hears_one before after input old new cleared events none grown gives read inputs shown h = record {
  more = packets_of events;
  grown = grown;
  holds = record {
    taken = read inputs h.taken;
    made = ap (λ (l : List ℕ). l ++ packets_of events) h.made ∙ sym (packets_then (events_so_far inputs) events)
        ∙ ap packets_of (sym (so_far_push inputs input cleared events none (gives inputs h.taken)));
  };
}

-- none more
pub hears_none : (reader : V1Reader) (old : List ℕ) → HearsV1 reader reader [] old old
hears_none reader old inputs shown h = record {
  more = [];
  grown = sym (append-nil old);
  holds = subst (λ (l : List Input). HasHeardV1 reader l (shown ++ [])) (sym (append-nil inputs)) (subst (HasHeardV1 reader inputs) (sym (append-nil shown)) h);
}

-- some, and then others
pub hears_then : (before middle after : V1Reader) (xs ys : List Input) (old mid new : List ℕ) → HearsV1 before middle xs old mid → HearsV1 middle after ys mid new → HearsV1 before after (xs ++ ys) old new
hears_then before middle after xs ys old mid new first later inputs shown h =
    let a = first inputs shown h in
    let b = later (inputs ++ xs) (shown ++ a.more) a.holds in
    record {
      more = a.more ++ b.more;
      grown = b.grown ∙ ap (λ (l : List ℕ). l ++ b.more) a.grown ∙ append_assoc old a.more b.more;
      holds = subst (λ (l : List Input). HasHeardV1 after l (shown ++ (a.more ++ b.more))) (append_assoc inputs xs ys)
          (subst (HasHeardV1 after ((inputs ++ xs) ++ ys)) (append_assoc shown a.more b.more) b.holds);
    }

-- ---- bytes that are added to a line

-- too few for a piece
pub added_few : (reader : V1Reader) (held bytes later : List ℕ) (long : Bool) (old : List ℕ) → later ≡ held ++ bytes → length bytes + length held ≤ most_open long → IsAddedTo reader reader held long bytes later long old old
added_few reader held bytes later long old is few = record {
  pieces = [];
  joined = sym is;
  full = tt;
  short = omega (arith, few, ap length is, length-append held bytes);
  kind = none_longer long (length (held ++ bytes));
  hears = hears_none reader old;
}
  where
    none_longer : (b : Bool) (size : ℕ) → IsLonger b b size []
    none_longer false size = refl
    none_longer true size = tt

-- a whole piece behind another one
pub added_whole : (reader after : V1Reader) (bytes held : List ℕ) (long : Bool) (old new : List ℕ) → held ≡ [] → long ≡ true → length bytes ≡ longest_v1_line → HearsV1 reader after (piece bytes false ∷ []) old new → IsAddedTo reader after [] true bytes held long old new
added_whole reader after bytes held false old new none is full hears = absurd cc
added_whole reader after bytes held true old new none is full hears = record {
  pieces = bytes ∷ [];
  joined = sym (ap (λ (l : List ℕ). (bytes ++ []) ++ l) none ∙ append-nil (bytes ++ []) ∙ append-nil bytes);
  full = (full, tt);
  short = omega (arith, ap length none);
  kind = tt;
  hears = hears;
}

-- fewer bytes than a piece behind another one
pub added_behind : (reader : V1Reader) (held bytes later : List ℕ) (long : Bool) (old : List ℕ) → held ≡ [] → long ≡ true → later ≡ held ++ bytes → length bytes < longest_v1_line → IsAddedTo reader reader [] true bytes later long old old
added_behind reader held bytes later false old none is same few = absurd cc
added_behind reader held bytes later true old none is same few = added_few reader [] bytes later true old (same ∙ ap (λ (l : List ℕ). l ++ bytes) none) (omega (arith, few))

-- a piece that they fill up, and what is behind it
pub added_more : (reader middle after : V1Reader) (held bytes front behind filled later : List ℕ) (long longer : Bool) (old mid new : List ℕ) → filled ≡ held ++ front → bytes ≡ front ++ behind → length filled ≡ longest_v1_line
    → most_open long < length bytes + length held → HearsV1 reader middle (piece filled false ∷ []) old mid → IsAddedTo middle after [] true behind later longer mid new → IsAddedTo reader after held long bytes later longer old new
added_more reader middle after held bytes front behind filled later long longer old mid new is both full more first a =
    let size : most_open long < length (held ++ bytes) = omega (arith, more, length-append held bytes) in
    record {
      pieces = filled ∷ a.pieces;
      joined = ap (λ (l : List ℕ). held ++ l) both ∙ sym (append_assoc held front behind) ∙ ap (λ (l : List ℕ). l ++ behind) (sym is)
          ∙ ap (λ (l : List ℕ). filled ++ l) a.joined ∙ sym (append_assoc filled (concat a.pieces) later);
      full = (full, a.full);
      short = a.short;
      kind = kind_behind long longer (length (held ++ bytes)) (length behind) (filled ∷ a.pieces) a.pieces size a.kind;
      hears = hears_then reader middle after (piece filled false ∷ []) (map front_piece a.pieces) old mid new first a.hears;
    }

-- ---- bytes of a line

pub fed_none : (reader : V1Reader) (held : List ℕ) (long : Bool) → held ≡ [] → long ≡ false → HasRead reader [] → HasFedV1 reader held long [] []
fed_none reader held long none new read = subst (λ (l : List ℕ). HasFedV1 reader l long [] []) (sym none) (subst (λ (b : Bool). HasFedV1 reader [] b [] []) (sym new) (record {
  lines = [];
  rest = [];
  split = record { joined = refl; plain = tt; open_line = tt };
  pieces = [];
  joined = refl;
  full = tt;
  short = omega arith;
  kind = refl;
  heard = record { taken = read; made = refl };
}))

kind_more : (long longer : Bool) (rest held bytes : List ℕ) (pieces more : List (List ℕ)) → rest ≡ concat pieces ++ held → GivesPieces long rest pieces → IsLonger long longer (length (held ++ bytes)) more → GivesPieces longer (rest ++ bytes) (pieces ++ more)
kind_more false false rest held bytes pieces more is kind grows = ap (λ (l : List (List ℕ)). l ++ more) kind ∙ grows
kind_more true false rest held bytes pieces more is kind grows = absurd grows
kind_more false true rest held bytes pieces more is kind grows =
    omega (arith, grows, ap length is, length-append (concat pieces) held, length-append held bytes, length-append rest bytes)
kind_more true true rest held bytes pieces more is kind grows = omega (arith, kind, length-append rest bytes)

pub fed_more : (reader after : V1Reader) (held : List ℕ) (long : Bool) (fed shown bytes later : List ℕ) (longer : Bool) (old new : List ℕ) → HasNoNewline bytes → HasFedV1 reader held long fed shown → IsAddedTo reader after held long bytes later longer old new
    → Adds old new (λ more. HasFedV1 after later longer (fed ++ bytes) (shown ++ more))
fed_more reader after held long fed shown bytes later longer old new plain h a =
    let front = inputs_of_lines h.lines in
    let inputs : (front ++ map front_piece h.pieces) ++ map front_piece a.pieces ≡ front ++ map front_piece (h.pieces ++ a.pieces) =
    append_assoc front (map front_piece h.pieces) (map front_piece a.pieces) ∙ ap (λ (l : List Input). front ++ l) (sym (map-append front_piece h.pieces a.pieces)) in
    let b = a.hears (front ++ map front_piece h.pieces) shown h.heard in
    record {
      more = b.more;
      grown = b.grown;
      holds = record {
        lines = h.lines;
        rest = h.rest ++ bytes;
        split = record {
          joined = ap (λ (l : List ℕ). l ++ bytes) h.split.joined ∙ append_assoc (flat_map with_newline h.lines) h.rest bytes;
          plain = h.split.plain;
          open_line = plain_then h.rest bytes h.split.open_line plain;
        };
        pieces = h.pieces ++ a.pieces;
        joined = ap (λ (l : List ℕ). l ++ bytes) h.joined ∙ append_assoc (concat h.pieces) held bytes ∙ ap (λ (l : List ℕ). concat h.pieces ++ l) a.joined
            ∙ sym (append_assoc (concat h.pieces) (concat a.pieces) later) ∙ ap (λ (l : List ℕ). l ++ later) (sym (concat-append h.pieces a.pieces));
        full = full_then h.pieces a.pieces h.full a.full;
        short = a.short;
        kind = kind_more long longer h.rest held bytes h.pieces a.pieces h.joined h.kind a.kind;
        heard = subst (λ (l : List Input). HasHeardV1 after l (shown ++ b.more)) inputs b.holds;
      };
    }

-- ---- lines

-- the inputs of a line that is read, whose end is this
line_inputs : (long : Bool) (rest tail : List ℕ) (pieces : List (List ℕ)) (held : List ℕ) → without_newline (rest ++ tail) ≡ rest → rest ≡ concat pieces ++ held → AreFull pieces → length held ≤ most_open long → GivesPieces long rest pieces
    → inputs_of (rest ++ tail) ≡ map front_piece pieces ++ last_input long (held ++ tail) ∷ []
line_inputs false rest tail pieces held says is full short none =
    let all : rest ≡ held = is ∙ ap (λ (l : List (List ℕ)). concat l ++ held) none in
    short_line rest tail says (omega (arith, short, ap length all)) ∙ ap (λ (l : List ℕ). line (l ++ tail) ∷ []) all
    ∙ ap (λ (l : List (List ℕ)). map front_piece l ++ line (held ++ tail) ∷ []) (sym none)
line_inputs true rest tail pieces held says is full short longer = long_line rest tail pieces held says is full (omega (arith, short)) longer

-- all inputs up to the end of the line that is read
up_to : (lines : List (List ℕ)) (rest tail : List ℕ) (pieces : List (List ℕ)) (last : Input) → inputs_of (rest ++ tail) ≡ map front_piece pieces ++ last ∷ []
    → (inputs_of_lines lines ++ map front_piece pieces) ++ last ∷ [] ≡ flat_map inputs_of (map with_newline lines ++ (rest ++ tail) ∷ [])
up_to lines rest tail pieces last is =
    append_assoc (inputs_of_lines lines) (map front_piece pieces) (last ∷ []) ∙ ap (λ (l : List Input). inputs_of_lines lines ++ l) (sym is)
    ∙ ap (λ (l : List Input). inputs_of_lines lines ++ l) (sym (append-nil (inputs_of (rest ++ tail))))
    ∙ sym (flat_map-append inputs_of (map with_newline lines) ((rest ++ tail) ∷ []))

-- the line, once its newline is there
pub fed_line : (reader middle after : V1Reader) (held : List ℕ) (long : Bool) (fed shown end later pushed : List ℕ) (longer : Bool) (old mid new : List ℕ) → HasNoNewline end → HasFedV1 reader held long fed shown → IsAddedTo reader middle held long end later longer old mid
    → pushed ≡ later ++ 10 ∷ [] → HearsV1 middle after (last_input longer pushed ∷ []) mid new
    → Adds old new (λ more. HasFedV1 after [] false (fed ++ (end ++ 10 ∷ [])) (shown ++ more))
fed_line reader middle after held long fed shown end later pushed longer old mid new plain h added is hears =
    let a = fed_more reader middle held long fed shown end later longer old mid plain h added in
    let k = a.holds in
    let last = last_input longer (later ++ 10 ∷ []) in
    let same : last_input longer pushed ≡ last = ap (last_input longer) is in
    let b = hears (inputs_of_lines k.lines ++ map front_piece k.pieces) (shown ++ a.more) k.heard in
    let inputs : (inputs_of_lines k.lines ++ map front_piece k.pieces) ++ last_input longer pushed ∷ [] ≡ inputs_of_lines (k.lines ++ k.rest ∷ []) ++ [] =
    ap (λ (i : Input). (inputs_of_lines k.lines ++ map front_piece k.pieces) ++ i ∷ []) same
    ∙ up_to k.lines k.rest (10 ∷ []) k.pieces last (line_inputs longer k.rest (10 ∷ []) k.pieces later (newline_gone k.rest) k.joined k.full k.short k.kind)
    ∙ ap (flat_map inputs_of) (sym (map-append with_newline k.lines (k.rest ∷ []))) ∙ sym (append-nil (inputs_of_lines (k.lines ++ k.rest ∷ []))) in
    let all : flat_map with_newline (k.lines ++ k.rest ∷ []) ≡ flat_map with_newline k.lines ++ with_newline k.rest = flat_map-append with_newline k.lines (k.rest ∷ []) ∙ ap (λ (l : List ℕ). flat_map with_newline k.lines ++ l) (append-nil (with_newline k.rest)) in
    record {
      more = a.more ++ b.more;
      grown = b.grown ∙ ap (λ (l : List ℕ). l ++ b.more) a.grown ∙ append_assoc old a.more b.more;
      holds = record {
        lines = k.lines ++ k.rest ∷ [];
        rest = [];
        split = record {
          joined = sym (append_assoc fed end (10 ∷ [])) ∙ ap (λ (l : List ℕ). l ++ 10 ∷ []) k.split.joined ∙ append_assoc (flat_map with_newline k.lines) k.rest (10 ∷ []) ∙ sym all ∙ sym (append-nil (flat_map with_newline (k.lines ++ k.rest ∷ [])));
          plain = lines_more k.lines k.rest k.split.plain k.split.open_line;
          open_line = tt;
        };
        pieces = [];
        joined = refl;
        full = tt;
        short = omega arith;
        kind = refl;
        heard = subst (λ (l : List Input). HasHeardV1 after l (shown ++ (a.more ++ b.more))) inputs (subst (HasHeardV1 after ((inputs_of_lines k.lines ++ map front_piece k.pieces) ++ last_input longer pushed ∷ [])) (append_assoc shown a.more b.more) b.holds);
      };
    }

-- the line with its newline, of which nothing was held
pub fed_whole : (reader after : V1Reader) (held : List ℕ) (long : Bool) (fed shown end ended : List ℕ) (old new : List ℕ) → held ≡ [] → long ≡ false → HasNoNewline end → length end ≤ longest_v1_line → ended ≡ end ++ 10 ∷ [] → HasFedV1 reader held long fed shown
    → HearsV1 reader after (line ended ∷ []) old new → Adds old new (λ more. HasFedV1 after [] false (fed ++ (end ++ 10 ∷ [])) (shown ++ more))
fed_whole reader after held long fed shown end ended old new none whole plain few is h hears =
    let open_line : HasFedV1 reader [] false fed shown = subst (λ (b : Bool). HasFedV1 reader [] b fed shown) whole (subst (λ (l : List ℕ). HasFedV1 reader l long fed shown) none h) in
    fed_line reader reader after [] false fed shown end end ended false old old new plain open_line (added_few reader [] end end false old refl (omega (arith, few))) is hears

-- it is short enough
pub whole_is_short : (end ended : List ℕ) → ended ≡ end ++ 10 ∷ [] → length end ≤ longest_v1_line → length (without_newline ended) ≤ longest_v1_line
whole_is_short end ended is few = subst (λ (l : List ℕ). length l ≤ longest_v1_line) (sym (ap without_newline is ∙ newline_gone end)) few

-- ---- the end

-- what is held of a line that was not taken in pieces is all of it
held_is : (reader : V1Reader) (held : List ℕ) (long : Bool) (fed shown : List ℕ) → long ≡ false → (h : HasFedV1 reader held long fed shown) → (h.pieces ≡ []) × (h.rest ≡ held)
held_is reader held true fed shown new h = absurd cc
held_is reader held false fed shown new h = (h.kind, h.joined ∙ ap (λ (l : List (List ℕ)). concat l ++ held) h.kind)

-- nothing follows the last newline
pub last_none : (reader : V1Reader) (held : List ℕ) (long : Bool) (fed shown old : List ℕ) → held ≡ [] → long ≡ false → (h : HasFedV1 reader held long fed shown) → Adds old old (λ more. HasHeardV1 reader (all_inputs h.lines h.rest) (shown ++ more))
last_none reader held long fed shown old none whole h =
    let both = held_is reader held long fed shown whole h in
    let nothing : h.rest ≡ [] = both.1 ∙ none in
    let inputs : inputs_of_lines h.lines ++ map front_piece h.pieces ≡ all_inputs h.lines h.rest =
    ap (λ (l : List (List ℕ)). inputs_of_lines h.lines ++ map front_piece l) both.0 ∙ append-nil (inputs_of_lines h.lines)
    ∙ ap (flat_map inputs_of) (sym (append-nil (map with_newline h.lines))) ∙ ap (λ (l : List ℕ). flat_map inputs_of (map with_newline h.lines ++ last_line l)) (sym nothing) in
    record {
      more = [];
      grown = sym (append-nil old);
      holds = subst (λ (l : List Input). HasHeardV1 reader l (shown ++ [])) inputs (subst (HasHeardV1 reader (inputs_of_lines h.lines ++ map front_piece h.pieces)) (sym (append-nil shown)) h.heard);
    }

one_line : (rest : List ℕ) → (rest ≡ [] → ⊥) → rest ∷ [] ≡ last_line rest
one_line [] some = absurd (some refl)
one_line (byte ∷ rest) some = refl

some_rest : (reader : V1Reader) (held : List ℕ) (long : Bool) (fed shown : List ℕ) → ((held ≡ []) × (long ≡ false) → ⊥) → (h : HasFedV1 reader held long fed shown) → h.rest ≡ [] → ⊥
some_rest reader held false fed shown some h none = some (sym ((held_is reader held false fed shown refl h).1) ∙ none, refl)
some_rest reader held true fed shown some h none = absurd (omega (arith, h.kind, ap length none))

-- a line without a newline follows it
pub last_some : (reader after : V1Reader) (held : List ℕ) (long : Bool) (fed shown old new : List ℕ) → ((held ≡ []) × (long ≡ false) → ⊥) → (h : HasFedV1 reader held long fed shown)
    → HearsV1 reader after (last_input long held ∷ []) old new → Adds old new (λ more. HasHeardV1 after (all_inputs h.lines h.rest) (shown ++ more))
last_some reader after held long fed shown old new some h hears =
    let b = hears (inputs_of_lines h.lines ++ map front_piece h.pieces) shown h.heard in
    let rest : h.rest ++ [] ≡ h.rest = append-nil h.rest in
    let says : without_newline (h.rest ++ []) ≡ h.rest = ap without_newline rest ∙ plain_line h.rest h.split.open_line in
    let last : last_input long (held ++ []) ≡ last_input long held = ap (last_input long) (append-nil held) in
    let inputs : (inputs_of_lines h.lines ++ map front_piece h.pieces) ++ last_input long held ∷ [] ≡ all_inputs h.lines h.rest =
    up_to h.lines h.rest [] h.pieces (last_input long held) (line_inputs long h.rest [] h.pieces held says h.joined h.full h.short h.kind ∙ ap (λ (i : Input). map front_piece h.pieces ++ i ∷ []) last)
    ∙ ap (λ (l : List ℕ). flat_map inputs_of (map with_newline h.lines ++ l ∷ [])) rest
    ∙ ap (λ (l : List (List ℕ)). flat_map inputs_of (map with_newline h.lines ++ l)) (one_line h.rest (some_rest reader held long fed shown some h)) in
    record { more = b.more; grown = b.grown; holds = subst (λ (l : List Input). HasHeardV1 after l (shown ++ b.more)) inputs b.holds }

-- what the end gives
pub fed_all : (reader after : V1Reader) (held : List ℕ) (long : Bool) (fed shown old mid new : List ℕ) (events : List Event) → (h : HasFedV1 reader held long fed shown)
    → Adds old mid (λ more. HasHeardV1 after (all_inputs h.lines h.rest) (shown ++ more)) → ((inputs : List Input) → HasRead after inputs → events_of_inputs inputs ≡ events_so_far inputs ++ events) → new ≡ mid ++ packets_of events
    → Adds old new (λ more. IsV1Filtered fed (shown ++ more) 0)
fed_all reader after held long fed shown old mid new events h a gives grown =
    let inputs = all_inputs h.lines h.rest in
    let last = packets_of events in
    record {
      more = a.more ++ last;
      grown = grown ∙ ap (λ (l : List ℕ). l ++ last) a.grown ∙ append_assoc old a.more last;
      holds = record {
        lines = h.lines;
        rest = h.rest;
        split = h.split;
        made = sym (append_assoc shown a.more last) ∙ ap (λ (l : List ℕ). l ++ last) a.holds.made ∙ sym (packets_then (events_so_far inputs) events) ∙ ap packets_of (sym (gives inputs a.holds.taken));
        status = refl;
      };
    }

-- ---- bytes of the input

-- up to a newline
pub fed_up_to : (reader after : V1Reader) (held later : List ℕ) (long longer : Bool) (given end fed shown old mid new : List ℕ) (from n : ℕ) → later ≡ [] → longer ≡ false → take n given ≡ take from given ++ (end ++ 10 ∷ [])
    → Adds old mid (λ more. HasFedV1 reader held long (fed ++ take from given) (shown ++ more))
    → ((f s : List ℕ) → HasFedV1 reader held long f s → Adds mid new (λ more. HasFedV1 after [] false (f ++ (end ++ 10 ∷ [])) (s ++ more)))
    → Adds old new (λ more. HasFedV1 after later longer (fed ++ take n given) (shown ++ more))
fed_up_to reader after held later long longer given end fed shown old mid new from n none whole is first then_next =
    let all : (fed ++ take from given) ++ (end ++ 10 ∷ []) ≡ fed ++ take n given = append_assoc fed (take from given) (end ++ 10 ∷ []) ∙ ap (λ (l : List ℕ). fed ++ l) (sym is) in
    subst (λ (l : List ℕ). Adds old new (λ more. HasFedV1 after l longer (fed ++ take n given) (shown ++ more))) (sym none)
    (subst (λ (b : Bool). Adds old new (λ more. HasFedV1 after [] b (fed ++ take n given) (shown ++ more))) (sym whole)
    (subst (λ (l : List ℕ). Adds old new (λ more. HasFedV1 after [] false l (shown ++ more))) all
    (adds_then (HasFedV1 reader held long) (HasFedV1 after [] false) (fed ++ take from given) (end ++ 10 ∷ []) shown old mid new first then_next)))

-- what follows the last newline in it
pub fed_rest : (reader after : V1Reader) (held later : List ℕ) (long longer : Bool) (given bytes fed shown old mid new : List ℕ) (from : ℕ) → bytes ≡ drop from given → HasNoNewline bytes
    → Adds old mid (λ more. HasFedV1 reader held long (fed ++ take from given) (shown ++ more)) → IsAddedTo reader after held long bytes later longer mid new
    → Adds old new (λ more. HasFedV1 after later longer (fed ++ given) (shown ++ more))
fed_rest reader after held later long longer given bytes fed shown old mid new from is plain first added =
    let all : (fed ++ take from given) ++ bytes ≡ fed ++ given = append_assoc fed (take from given) bytes ∙ ap (λ (l : List ℕ). fed ++ l) (ap (λ (l : List ℕ). take from given ++ l) is ∙ take-append-drop from given) in
    subst (λ (l : List ℕ). Adds old new (λ more. HasFedV1 after later longer l (shown ++ more))) all
    (adds_then (HasFedV1 reader held long) (HasFedV1 after later longer) (fed ++ take from given) bytes shown old mid new first
    (λ f s h. fed_more reader after held long f s bytes later longer mid new plain h added))
