-- Lines without control characters, cut from a text and read.
use Rattle.std.proofs.Common.{◌≡◌, ℕ, suc, ◌-◌, ◌≤◌, ◌<◌, ◌==◌, ◌&&◌, nat_eq, true, false, cond, List, [], ◌∷◌, ◌++◌, length, take, drop, refl, sym, ap, ◌∙◌, append_assoc, append-nil, length-append, arith}
use Rattle.std.specs.List.{list_all, ends_with}
use Rattle.std.specs.Cmp.Lexicographic.{pointwise}
use Rattle.std.proofs.Math.Seq.{drop-append_seam, take-append_seam}
use Rattle.std.proofs.lemmas.Bool.{and_parts, cond-false, ne_eqb, leb-true, le-ltb}
use Rattle.packet_codec.specs.declared.event.Event.{Event}
use Rattle.sub_number.specs.Lines.{without_return}
use Rattle.v1_bridge.specs.Lines.{without_newline, content}
use Rattle.v1_bridge.specs.Events.{longest_v1_line}
use Rattle.v1_bridge.specs.Cutting.{lines_behind, lines_of}
use Rattle.v1_bridge.specs.Laws.{is_shown}
use Rattle.v1_bridge.specs.Reading.{State, Input, line, step, inputs_of, state_behind, events_from}

abbrev pub IsShown : List ℕ → Type 0
IsShown bytes = list_all is_shown bytes ≡ true

-- the line of these bytes
abbrev pub with_line_end : List ℕ → List ℕ
with_line_end bytes = bytes ++ 10 ∷ []

not_this : (control byte : ℕ) → control < 32 → is_shown byte ≡ true → (byte == control) ≡ false
not_this control byte below shown = ne_eqb byte control (λ is. absurd (omega (arith, below, is, leb-true 32 byte shown)))

nor_this : (control byte : ℕ) → control < 32 → is_shown byte ≡ true → nat_eq control byte ≡ false
nor_this control byte below shown = ne_eqb control byte (λ is. absurd (omega (arith, below, is, leb-true 32 byte shown)))

-- ---- the text cut

cut_here : (front bytes rest : List ℕ) → IsShown bytes → lines_behind front (bytes ++ 10 ∷ rest) ≡ with_line_end (front ++ bytes) ∷ lines_of rest
cut_here front [] rest shown = ap (λ l. with_line_end l ∷ lines_of rest) (sym (append-nil front))
cut_here front (byte ∷ bytes) rest shown =
    let both = and_parts (is_shown byte) (list_all is_shown bytes) shown in
    ap (λ b. cond b ((front ++ byte ∷ []) ∷ lines_behind [] (bytes ++ 10 ∷ rest)) (lines_behind (front ++ byte ∷ []) (bytes ++ 10 ∷ rest))) (not_this 10 byte (omega arith) both.0)
    ∙ cut_here (front ++ byte ∷ []) bytes rest both.1
    ∙ ap (λ l. with_line_end l ∷ lines_of rest) (append_assoc front (byte ∷ []) bytes)

-- a line without control characters is the first one
pub first_cut : (bytes rest : List ℕ) → IsShown bytes → lines_of (with_line_end bytes ++ rest) ≡ with_line_end bytes ∷ lines_of rest
first_cut bytes rest shown = ap lines_of (append_assoc bytes (10 ∷ []) rest) ∙ cut_here [] bytes rest shown

-- ---- the line read

last_alone : (bytes : List ℕ) (byte : ℕ) → drop (length (bytes ++ byte ∷ []) - 1) (bytes ++ byte ∷ []) ≡ byte ∷ []
last_alone bytes byte =
    let size : length (bytes ++ byte ∷ []) - 1 ≡ length bytes = omega (arith, length-append bytes (byte ∷ [])) in
    ap (λ n. drop n (bytes ++ byte ∷ [])) size ∙ drop-append_seam bytes (byte ∷ [])

all_but_last : (bytes : List ℕ) (byte : ℕ) → take (length (bytes ++ byte ∷ []) - 1) (bytes ++ byte ∷ []) ≡ bytes
all_but_last bytes byte =
    let size : length (bytes ++ byte ∷ []) - 1 ≡ length bytes = omega (arith, length-append bytes (byte ∷ [])) in
    ap (λ n. take n (bytes ++ byte ∷ [])) size ∙ take-append_seam bytes (byte ∷ [])

pub newline_gone : (bytes : List ℕ) → without_newline (with_line_end bytes) ≡ bytes
newline_gone bytes =
    ap (λ l. cond (pointwise nat_eq (10 ∷ []) l) (take (length (with_line_end bytes) - 1) (with_line_end bytes)) (with_line_end bytes)) (last_alone bytes 10) ∙ all_but_last bytes 10

no_return : (bytes : List ℕ) → IsShown bytes → ends_with nat_eq bytes (13 ∷ []) ≡ false
no_return [] shown = refl
no_return (byte ∷ []) shown = ap (λ b. b && true) (nor_this 13 byte (omega arith) (and_parts (is_shown byte) true shown).0)
no_return (byte ∷ next ∷ bytes) shown =
    let size : length (byte ∷ next ∷ bytes) - 1 ≡ suc (length (next ∷ bytes) - 1) = omega arith in
    ap (λ n. pointwise nat_eq (13 ∷ []) (drop n (byte ∷ next ∷ bytes))) size ∙ no_return (next ∷ bytes) (and_parts (is_shown byte) (list_all is_shown (next ∷ bytes)) shown).1

pub same_content : (bytes : List ℕ) → IsShown bytes → content (with_line_end bytes) ≡ bytes
same_content bytes shown =
    ap without_return (newline_gone bytes) ∙ cond-false (ends_with nat_eq bytes (13 ∷ [])) (take (length bytes - 1) bytes) bytes (no_return bytes shown)

-- a line that is short enough is read as one
pub one_input : (bytes : List ℕ) → length bytes ≤ longest_v1_line → inputs_of (with_line_end bytes) ≡ line (with_line_end bytes) ∷ []
one_input bytes short =
    cond-false _ _ (line (with_line_end bytes) ∷ []) (le-ltb longest_v1_line (length (without_newline (with_line_end bytes))) (omega (arith, short, ap length (newline_gone bytes))))

-- ---- inputs in turn

pub events_then : (s : State) (xs ys : List Input) → events_from s (xs ++ ys) ≡ events_from s xs ++ events_from (state_behind s xs) ys
events_then s [] ys = refl
events_then s (x ∷ xs) ys =
    ap (λ (l : List Event). (step s x).given ++ l) (events_then (step s x).state xs ys)
    ∙ sym (append_assoc (step s x).given (events_from (step s x).state xs) (events_from (state_behind (step s x).state xs) ys))

pub state_then : (s : State) (xs ys : List Input) → state_behind s (xs ++ ys) ≡ state_behind (state_behind s xs) ys
state_then s [] ys = refl
state_then s (x ∷ xs) ys = state_then (step s x).state xs ys
