-- A list of runs read one after another: what is still to be read.
use Rattle.std.proofs.Common.{◌≡◌, ℕ, zero, suc, ◌+◌, ◌<◌, ◌≤◌, ◌↔◌, true, false, Option, Some, None, List, [], ◌∷◌, ◌++◌, length, take, drop, get_or, All, refl, sym, ap, ◌∙◌, append_assoc, arith}
use Rattle.std.proofs.lemmas.List.{append-nil, nil_from_length, take_all, take_more}
use Rattle.std.proofs.lemmas.List.Elements.{All-cons, All-head, All-tail}
use Rattle.std.specs.Prelude.{IfNone, IsSome, IsTrue}
use Rattle.sub_number.specs.Texts.{IsText, IsShortText}
use Rattle.sub_number.proofs.NumberLemmas.{AreBytes}
use Rattle.packet_codec.specs.Grammar.{SpellsFront, NotFound}
use Rattle.packet_codec.specs.Shapes.{ByteRun, ByteRuns, ShowsRuns, ShowsTags}
use Rattle.packet_codec.specs.declared.parts.RunList.{RunList}
use Rattle.packet_codec.proofs.GrammarLemmas.{found_same}
use Rattle.packet_codec.proofs.ShapeLemmas.{run_free}

-- so many runs are left, and they have P
pub record Left (bytes : List ℕ) (count i : ℕ) (P : List (List ℕ) → Type 0) : Type 0 where
  pub runs : List (List ℕ)
  pub rest : List ℕ
  pub size : length runs + i ≡ count
  pub found : SpellsFront ByteRuns bytes runs rest
  pub holds : P runs

pub left_start : (bytes : List ℕ) (count : ℕ) (runs : List (List ℕ)) (P : List (List ℕ) → Type 0) → ShowsRuns count bytes runs → P runs → Left bytes count 0 P
left_start bytes count runs P shown holds = record { runs = runs; rest = shown.0; size = omega (arith, shown.1.size); found = shown.1.found; holds = holds }

-- the next one is a run
next_found : (bytes : List ℕ) (count i : ℕ) (P : List (List ℕ) → Type 0) → i < count → (l : Left bytes count i P) → (run : List ℕ) × (others : List (List ℕ)) × (after : List ℕ) × (l.runs ≡ run ∷ others) × SpellsFront ByteRun bytes run after × SpellsFront ByteRuns after others l.rest
next_found bytes count i P less l = go l.runs refl l.found
  where
    go : (runs : List (List ℕ)) → l.runs ≡ runs → SpellsFront ByteRuns bytes runs l.rest → (run : List ℕ) × (others : List (List ℕ)) × (after : List ℕ) × (l.runs ≡ run ∷ others) × SpellsFront ByteRun bytes run after × SpellsFront ByteRuns after others l.rest
    go [] e f = absurd (omega (arith, l.size, ap length e))
    go (run ∷ others) e f =
        let (g, u, p, q, v) = f.spelled in
        (run, others, u ++ l.rest, e, record { front = g; parts = f.parts ∙ ap (λ (x : List ℕ). x ++ l.rest) p ∙ append_assoc g u l.rest; spelled = q }, record { front = u; parts = refl; spelled = v })

pub left_none : (bytes : List ℕ) (count i : ℕ) (P : List (List ℕ) → Type 0) → i < count → Left bytes count i P → NotFound ByteRun bytes → ⊥
left_none bytes count i P less l never =
    let next = next_found bytes count i P less l in
    never next.0 next.2 next.4

pub left_next : (bytes after run : _) (count i : ℕ) (P Q : List (List ℕ) → Type 0) → AreBytes bytes → i < count → Left bytes count i P → SpellsFront ByteRun bytes run after → ((others : List (List ℕ)) → P (run ∷ others) → Q others) → Left after count (i + 1) Q
left_next bytes after run count i P Q are less l found weaker =
    let next = next_found bytes count i P less l in
    let same = found_same ByteRun run_free bytes next.2 after next.0 run are next.4 found in
    let whole : l.runs ≡ run ∷ next.1 = next.3 ∙ ap (λ (x : List ℕ). x ∷ next.1) same.value in
    record {
      runs = next.1;
      rest = l.rest;
      size = omega (arith, l.size, ap length next.3);
      found = rw same.rest at next.5;
      holds = weaker next.1 (rw whole at l.holds);
    }

pub left_end : (bytes : List ℕ) (count i : ℕ) (P : List (List ℕ) → Type 0) → count ≤ i → Left bytes count i P → P []
left_end bytes count i P all l = rw (nil_from_length l.runs (omega (arith, l.size))) at l.holds

-- ---- the texts among them

abbrev pub SameTexts : List (List ℕ) → List (List ℕ) → Type 0
SameTexts all left = All IsText left ↔ All IsText all

pub same_texts_start : (all : List (List ℕ)) → SameTexts all all
same_texts_start all = (λ h. h, λ h. h)

pub same_texts_next : (all left : List (List ℕ)) (run : List ℕ) → IsText run → SameTexts all (run ∷ left) → SameTexts all left
same_texts_next all left run is same = (λ h. same.0 (All-cons IsText run left is h), λ h. All-tail IsText run left (same.1 h))

pub no_texts : (bytes after run : List ℕ) (count i : ℕ) (all : List (List ℕ)) → AreBytes bytes → i < count → Left bytes count i (SameTexts all) → SpellsFront ByteRun bytes run after → (IsText run → ⊥) → All IsText all → ⊥
no_texts bytes after run count i all are less l found other texts =
    let next = next_found bytes count i (SameTexts all) less l in
    let same = found_same ByteRun run_free bytes next.2 after next.0 run are next.4 found in
    let left : All IsText (next.0 ∷ next.1) = rw (next.3) at (l.holds.1 texts) in
    other (rw (same.value) at (All-head IsText next.0 next.1 left))

-- the next one of texts is one
pub next_text : (bytes after run : List ℕ) (count i : ℕ) → AreBytes bytes → i < count → Left bytes count i (All IsShortText) → SpellsFront ByteRun bytes run after → IsShortText run
next_text bytes after run count i are less l found =
    let next = next_found bytes count i (All IsShortText) less l in
    let same = found_same ByteRun run_free bytes next.2 after next.0 run are next.4 found in
    let left : All IsShortText (next.0 ∷ next.1) = rw (next.3) at l.holds in
    rw (same.value) at (All-head IsShortText next.0 next.1 left)

-- ---- the tags that were copied of them

pub copied_next : (before after others all : List (List ℕ)) (run text : List ℕ) → after ≡ before ++ text ∷ [] → text ≡ run → before ++ (run ∷ others) ≡ all → after ++ others ≡ all
copied_next before after others all run text pushed same whole = ap (λ (l : List (List ℕ)). l ++ others) pushed ∙ append_assoc before (text ∷ []) others ∙ ap (λ (t : List ℕ). before ++ (t ∷ others)) same ∙ whole

-- ---- the tags that they are compared with

-- those before are the same, and so are those that are left where all are
abbrev pub SameBefore : List (List ℕ) → ℕ → List (List ℕ) → List (List ℕ) → Type 0
SameBefore texts i all left = take i texts ++ left ≡ all

at_place : (i : ℕ) (texts others : List (List ℕ)) (run text : List ℕ) → i < length texts → take i texts ++ (run ∷ others) ≡ texts → get_or texts i text ≡ run
at_place i [] others run text less same = absurd (omega (arith, less))
at_place zero (t ∷ texts) others run text less same = sym (ap (λ (l : List (List ℕ)). get_or l 0 text) same)
at_place (suc i) (t ∷ texts) others run text less same = at_place i texts others run text (omega (arith, less)) (ap (λ (l : List (List ℕ)). drop 1 l) same)

pub same_next : (texts all others : List (List ℕ)) (i : ℕ) (run text : List ℕ) → i < length texts → text ≡ get_or texts i text → run ≡ text → SameBefore texts i all (run ∷ others) → SameBefore texts (i + 1) all others
same_next texts all others i run text less is same before =
    ap (λ (l : List (List ℕ)). l ++ others) (take_more texts i text less) ∙ append_assoc (take i texts) (get_or texts i text ∷ []) others
    ∙ ap (λ (t : List ℕ). take i texts ++ (t ∷ others)) (sym is ∙ sym same) ∙ before

-- one of them is another
pub no_same : (bytes after run text : List ℕ) (texts all : List (List ℕ)) (count i : ℕ) → AreBytes bytes → i < count → i < length texts → text ≡ get_or texts i text → Left bytes count i (SameBefore texts i all) → SpellsFront ByteRun bytes run after → (run ≡ text → ⊥) → all ≡ texts → ⊥
no_same bytes after run text texts all count i are less in_texts is l found other same =
    let next = next_found bytes count i (SameBefore texts i all) less l in
    let at = found_same ByteRun run_free bytes next.2 after next.0 run are next.4 found in
    let whole : take i texts ++ (run ∷ next.1) ≡ texts = ap (λ (t : List ℕ). take i texts ++ (t ∷ next.1)) (sym at.value) ∙ ap (λ (l : List (List ℕ)). take i texts ++ l) (sym next.3) ∙ l.holds ∙ same in
    other (sym (at_place i texts next.1 run text in_texts whole) ∙ sym is)

pub same_all : (bytes : List ℕ) (texts all : List (List ℕ)) (count i : ℕ) → length texts ≡ count → count ≤ i → Left bytes count i (SameBefore texts i all) → all ≡ texts
same_all bytes texts all count i size end l =
    sym (left_end bytes count i (SameBefore texts i all) end l) ∙ append-nil (take i texts) ∙ take_all i texts (omega (arith, size, end))

pub other_size : (bytes : List ℕ) (texts all : List (List ℕ)) (count : ℕ) → (length texts ≡ count → ⊥) → ShowsRuns count bytes all → all ≡ texts → ⊥
other_size bytes texts all count other shown same = other (sym (ap length same) ∙ shown.1.size)

pub same_some : {T A : Type 0} (a b : A) → T ↔ a ≡ b → T ↔ Some a ≡ Some b
same_some a b same = (λ t. ap Some (same.0 t), λ is. same.1 cc)

-- ---- a value that is there

pub some_of : {A P : Type 0} (o : Option A) → IfNone o P → (P → ⊥) → IsSome o
some_of (Some a) none never = refl
some_of None none never = absurd (never none)

-- ---- the two answers of a test

pub answers_no : {P : Type 0} → (P → ⊥) → IsTrue false ↔ P
answers_no never = (λ t. absurd cc, λ p. absurd (never p))

pub answers_yes : {P : Type 0} → P → IsTrue true ↔ P
answers_yes p = (λ _. p, λ _. refl)

-- ---- tags that are there

pub tags_shown : (list : RunList) (runs : Option (List (List ℕ))) (Q : Option (List (List ℕ)) → Type 0) → ((some : List (List ℕ)) → ShowsRuns list.count list.bytes.now some → Q (Some some)) → ShowsTags (Some list) runs → Q runs
tags_shown list (Some runs) Q each shown = each runs shown
tags_shown list None Q each shown = absurd shown
