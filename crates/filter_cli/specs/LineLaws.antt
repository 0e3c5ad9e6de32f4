-- Bytes are split into lines in one way, and the lines of first bytes come first.
use Rattle.std.proofs.Common.{◌≡◌, ◌⊎◌, inl, inr, ℕ, ◌==◌, Bool, true, false, Decides, List, [], ◌∷◌, ◌++◌, map, refl, sym, ap, ◌∙◌, append_assoc}
use Rattle.std.specs.List.{flat_map}
use Rattle.std.proofs.lemmas.Bool.Decides.{Decides-eqb}
use Rattle.std.proofs.lemmas.List.{map-append}
use Rattle.v1_bridge.specs.Lines.{HasNoNewline}
use Rattle.sub_number.specs.Lines.{with_newline}
use Rattle.filter_cli.specs.Lines.{HaveNoNewline, IsSplit, last_line}

-- the first newline ends the first line
one_first_line : (l m a b : List ℕ) → HasNoNewline l → HasNoNewline m → l ++ 10 ∷ a ≡ m ++ 10 ∷ b → (l ≡ m) × (a ≡ b)
one_first_line [] [] a b p q is = (refl, cc)
one_first_line [] (y ∷ m) a b p q is = let same : 10 ≡ y = cc in absurd (q.0 (sym same))
one_first_line (x ∷ l) [] a b p q is = let same : x ≡ 10 = cc in absurd (p.0 same)
one_first_line (x ∷ l) (y ∷ m) a b p q is =
    let head : x ≡ y = cc in
    let tail : l ++ 10 ∷ a ≡ m ++ 10 ∷ b = cc in
    let both = one_first_line l m a b p.1 q.1 tail in
    let front = both.0 in
    (cc, both.1)

-- bytes without a newline do not begin with a line that ended
no_line : (bytes l a : List ℕ) → HasNoNewline bytes → bytes ≡ l ++ 10 ∷ a → ⊥
no_line [] [] a p is = cc
no_line [] (y ∷ l) a p is = cc
no_line (x ∷ bytes) [] a p is = let same : x ≡ 10 = cc in p.0 same
no_line (x ∷ bytes) (y ∷ l) a p is = let tail : bytes ≡ l ++ 10 ∷ a = cc in no_line bytes l a p.1 tail

-- a line that ended begins with what stood there without a newline
plain_front : (bytes more l a : List ℕ) → HasNoNewline bytes → bytes ++ more ≡ l ++ 10 ∷ a → (rest : List ℕ) × (l ≡ bytes ++ rest)
plain_front [] more l a p is = (l, refl)
plain_front (x ∷ bytes) more [] a p is = let same : x ≡ 10 = cc in absurd (p.0 same)
plain_front (x ∷ bytes) more (y ∷ l) a p is =
    let head : x ≡ y = cc in
    let tail : bytes ++ more ≡ l ++ 10 ∷ a = cc in
    let (rest, same) = plain_front bytes more l a p.1 tail in
    (rest, cc)

-- lines that ended, and what follows them, begin with the first line and its newline
first_line_in_front : (l : List ℕ) (ls : List (List ℕ)) (rest : List ℕ) → flat_map with_newline (l ∷ ls) ++ rest ≡ l ++ 10 ∷ (flat_map with_newline ls ++ rest)
first_line_in_front l ls rest = append_assoc (with_newline l) (flat_map with_newline ls) rest ∙ append_assoc l (10 ∷ []) (flat_map with_newline ls ++ rest)

-- the lines that ended come first
lines_first : (ls ms : List (List ℕ)) (rest more last : List ℕ) → HaveNoNewline ls → HaveNoNewline ms → HasNoNewline last → (flat_map with_newline ls ++ rest) ++ more ≡ flat_map with_newline ms ++ last → (others : List (List ℕ)) × (ms ≡ ls ++ others) × (rest ++ more ≡ flat_map with_newline others ++ last)
lines_first [] ms rest more last p q plain is = (ms, refl, is)
lines_first (l ∷ ls) [] rest more last p q plain is =
    absurd (no_line last l ((flat_map with_newline ls ++ rest) ++ more) plain (sym is ∙ ap (λ (b : List ℕ). b ++ more) (first_line_in_front l ls rest) ∙ append_assoc l (10 ∷ (flat_map with_newline ls ++ rest)) more))
lines_first (l ∷ ls) (m ∷ ms) rest more last p q plain is =
    let front : l ++ 10 ∷ ((flat_map with_newline ls ++ rest) ++ more) ≡ m ++ 10 ∷ (flat_map with_newline ms ++ last) =
    sym (append_assoc l (10 ∷ (flat_map with_newline ls ++ rest)) more) ∙ sym (ap (λ (b : List ℕ). b ++ more) (first_line_in_front l ls rest)) ∙ is ∙ first_line_in_front m ms last in
    let both = one_first_line l m _ _ p.0 q.0 front in
    let (others, same, left) = lines_first ls ms rest more last p.1 q.1 plain both.1 in
    let head = both.0 in
    (others, cc, left)

-- Behind the lines that ended, the next line begins with what stands there, or nothing stands there.
pub next_line : (bytes more : List ℕ) (ls ms : List (List ℕ)) (rest last : List ℕ) → IsSplit bytes ls rest → IsSplit (bytes ++ more) ms last
    → (others : List (List ℕ)) × (ms ++ last_line last ≡ ls ++ others) × ((rest ≡ []) ⊎ ((tail : List ℕ) × (later : List (List ℕ)) × (others ≡ (rest ++ tail) ∷ later)))
next_line bytes more ls ms rest last s w =
    let joined : (flat_map with_newline ls ++ rest) ++ more ≡ flat_map with_newline ms ++ last = sym (ap (λ (b : List ℕ). b ++ more) s.joined) ∙ w.joined in
    let (others, same, left) = lines_first ls ms rest more last s.plain w.plain w.open_line joined in
    (others ++ last_line last, ap (λ (l : List (List ℕ)). l ++ last_line last) same ∙ append_assoc ls others (last_line last), next_of rest more others last s.open_line left)
  where
    next_of : (rest more : List ℕ) (others : List (List ℕ)) (last : List ℕ) → HasNoNewline rest → rest ++ more ≡ flat_map with_newline others ++ last
        → (rest ≡ []) ⊎ ((tail : List ℕ) × (later : List (List ℕ)) × (others ++ last_line last ≡ (rest ++ tail) ∷ later))
    next_of [] more others last plain is = inl refl
    next_of (x ∷ rest) more [] [] plain is = absurd cc
    next_of (x ∷ rest) more [] (y ∷ last) plain is = inr (more, [], ap (λ (l : List ℕ). l ∷ []) (sym is))
    next_of (x ∷ rest) more (o ∷ others) last plain is =
        let (tail, same) = plain_front (x ∷ rest) more o (flat_map with_newline others ++ last) plain (is ∙ first_line_in_front o others last) in
        inr (tail, others ++ last_line last, ap (λ (l : List ℕ). l ∷ (others ++ last_line last)) same)

-- The same of lines with their newlines, which the last one lacks.
pub next_ended : (bytes more : List ℕ) (ls ms : List (List ℕ)) (rest last : List ℕ) → IsSplit bytes ls rest → IsSplit (bytes ++ more) ms last
    → (others : List (List ℕ)) × (map with_newline ms ++ last_line last ≡ map with_newline ls ++ others) × ((rest ≡ []) ⊎ ((tail : List ℕ) × (later : List (List ℕ)) × (others ≡ (rest ++ tail) ∷ later)))
next_ended bytes more ls ms rest last s w =
    let joined : (flat_map with_newline ls ++ rest) ++ more ≡ flat_map with_newline ms ++ last = sym (ap (λ (b : List ℕ). b ++ more) s.joined) ∙ w.joined in
    let (others, same, left) = lines_first ls ms rest more last s.plain w.plain w.open_line joined in
    let all : map with_newline ms ++ last_line last ≡ map with_newline ls ++ (map with_newline others ++ last_line last) =
    ap (λ (l : List (List ℕ)). map with_newline l ++ last_line last) same ∙ ap (λ (l : List (List ℕ)). l ++ last_line last) (map-append with_newline ls others)
    ∙ append_assoc (map with_newline ls) (map with_newline others) (last_line last) in
    (map with_newline others ++ last_line last, all, next_of rest more others last s.open_line left)
  where
    next_of : (rest more : List ℕ) (others : List (List ℕ)) (last : List ℕ) → HasNoNewline rest → rest ++ more ≡ flat_map with_newline others ++ last
        → (rest ≡ []) ⊎ ((tail : List ℕ) × (later : List (List ℕ)) × (map with_newline others ++ last_line last ≡ (rest ++ tail) ∷ later))
    next_of [] more others last plain is = inl refl
    next_of (x ∷ rest) more [] [] plain is = absurd cc
    next_of (x ∷ rest) more [] (y ∷ last) plain is = inr (more, [], ap (λ (l : List ℕ). l ∷ []) (sym is))
    next_of (x ∷ rest) more (o ∷ others) last plain is =
        let (tail, same) = plain_front (x ∷ rest) more o (flat_map with_newline others ++ last) plain (is ∙ first_line_in_front o others last) in
        inr (tail ++ 10 ∷ [], map with_newline others ++ last_line last, ap (λ (l : List ℕ). l ∷ (map with_newline others ++ last_line last)) (ap with_newline same ∙ append_assoc (x ∷ rest) tail (10 ∷ [])))

-- bytes are split in one way
all_same : (ls ms : List (List ℕ)) (rest last : List ℕ) → HaveNoNewline ls → HaveNoNewline ms → HasNoNewline rest → HasNoNewline last → flat_map with_newline ls ++ rest ≡ flat_map with_newline ms ++ last → (ls ≡ ms) × (rest ≡ last)
all_same [] [] rest last p q unended plain is = (refl, is)
all_same [] (m ∷ ms) rest last p q unended plain is = absurd (no_line rest m (flat_map with_newline ms ++ last) unended (is ∙ first_line_in_front m ms last))
all_same (l ∷ ls) [] rest last p q unended plain is = absurd (no_line last l (flat_map with_newline ls ++ rest) plain (sym is ∙ first_line_in_front l ls rest))
all_same (l ∷ ls) (m ∷ ms) rest last p q unended plain is =
    let both = one_first_line l m _ _ p.0 q.0 (sym (first_line_in_front l ls rest) ∙ is ∙ first_line_in_front m ms last) in
    let same = all_same ls ms rest last p.1 q.1 unended plain both.1 in
    let head = both.0 in
    let tail = same.0 in
    (cc, same.1)

-- two splits of the same bytes have the same lines and the same rest
pub one_split : (bytes : List ℕ) (ls ms : List (List ℕ)) (rest last : List ℕ) → IsSplit bytes ls rest → IsSplit bytes ms last → (ls ≡ ms) × (rest ≡ last)
one_split bytes ls ms rest last s w = all_same ls ms rest last s.plain w.plain s.open_line w.open_line (sym s.joined ∙ w.joined)

-- what a test decides either holds or does not
by_test : (r : Bool) (P : Type 0) → Decides r P → P ⊎ (P → ⊥)
by_test true P d = inl (d.0 refl)
by_test false P d = inr (λ p. let wrong = d.1 p in cc)

-- a byte is a newline or is none
is_newline : (byte : ℕ) → (byte ≡ 10) ⊎ (byte ≡ 10 → ⊥)
is_newline byte = by_test (byte == 10) (byte ≡ 10) (Decides-eqb byte 10)

-- the first byte of a split
one_byte_more : (byte : ℕ) (bytes : List ℕ) (lines : List (List ℕ)) (rest : List ℕ) → (byte ≡ 10) ⊎ (byte ≡ 10 → ⊥) → IsSplit bytes lines rest → (ls : List (List ℕ)) × (r : List ℕ) × IsSplit (byte ∷ bytes) ls r
one_byte_more byte bytes lines rest (inl newline) s = (
  [] ∷ lines,
  rest,
  record {
    joined = ap (λ (n : ℕ). n ∷ bytes) newline ∙ ap (λ (l : List ℕ). 10 ∷ l) s.joined;
    plain = (tt, s.plain);
    open_line = s.open_line;
  },
)
one_byte_more byte bytes [] rest (inr other) s = ([], byte ∷ rest, record { joined = ap (λ (l : List ℕ). byte ∷ l) s.joined; plain = tt; open_line = (other, s.open_line) })
one_byte_more byte bytes (line ∷ lines) rest (inr other) s = ((byte ∷ line) ∷ lines, rest, record { joined = ap (λ (l : List ℕ). byte ∷ l) s.joined; plain = ((other, s.plain.0), s.plain.1); open_line = s.open_line })

-- there is one
pub some_split : (bytes : List ℕ) → (lines : List (List ℕ)) × (rest : List ℕ) × IsSplit bytes lines rest
some_split [] = ([], [], record { joined = refl; plain = tt; open_line = tt })
some_split (byte ∷ bytes) = let (lines, rest, s) = some_split bytes in one_byte_more byte bytes lines rest (is_newline byte) s
