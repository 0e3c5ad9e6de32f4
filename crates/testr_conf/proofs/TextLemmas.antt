-- Which bytes are a text.
use Rattle.std.proofs.Common.{◌≡◌, ◌<◌, ◌+◌, ℕ, zero, suc, true, false, not, ◌==◌, List, [], ◌∷◌, ◌++◌, length, take, drop, get_or, refl, sym, subst, arith}
use Rattle.std.specs.List.{list_any, All}
use Rattle.std.specs.Str.{is_utf8}
use Rattle.std.proofs.lemmas.Str.{IsUtf8-from_is_utf8, is_utf8-from_IsUtf8, IsUtf8-take, IsUtf8-drop, IsCharBoundary-before_ascii, IsCharBoundary-after_ascii, IsUtf8-append, IsUtf8-from_ascii, IsUtf8-nil}
use Rattle.std.proofs.lemmas.Bool.{and_parts, and_from, not-true, not_from_false, or_parts, or_from, eqb-false, ne_eqb}
use Rattle.std.proofs.lemmas.List.Elements.{All-nil, All-cons, All-head, All-tail, All-take, All-drop, All-append}
use Rattle.sub_number.specs.Texts.{IsText}
use Rattle.testr_conf.specs.Lines.{is_plain_line}

abbrev NotNul : ℕ → Type 0
NotNul byte = byte ≡ 0 → ⊥

no_nul_from : (bytes : List ℕ) → list_any (λ byte. byte == 0) bytes ≡ false → All (λ byte. byte ≡ 0 → ⊥) bytes
no_nul_from [] none = All-nil NotNul
no_nul_from (b ∷ bytes) none =
    let parts = or_parts (b == 0) (list_any (λ byte. byte == 0) bytes) none in
    All-cons NotNul b bytes (eqb-false b 0 parts.0) (no_nul_from bytes parts.1)

no_nul_test : (bytes : List ℕ) → All (λ byte. byte ≡ 0 → ⊥) bytes → list_any (λ byte. byte == 0) bytes ≡ false
no_nul_test [] all = refl
no_nul_test (b ∷ bytes) all = or_from (b == 0) (list_any (λ byte. byte == 0) bytes) (ne_eqb b 0 (All-head NotNul b bytes all)) (no_nul_test bytes (All-tail NotNul b bytes all))

-- the test tells it
pub text_from_test : (bytes : List ℕ) → is_plain_line bytes ≡ true → IsText bytes
text_from_test bytes passes =
    let parts = and_parts (is_utf8 bytes) (not (list_any (λ byte. byte == 0) bytes)) passes in
    record { utf8 = IsUtf8-from_is_utf8 bytes parts.0; no_nul = no_nul_from bytes (not-true (list_any (λ byte. byte == 0) bytes) parts.1) }

pub test_from_text : (bytes : List ℕ) → IsText bytes → is_plain_line bytes ≡ true
test_from_text bytes text =
    and_from (is_utf8 bytes) (not (list_any (λ byte. byte == 0) bytes)) (is_utf8-from_IsUtf8 bytes text.utf8)
    (not_from_false (list_any (λ byte. byte == 0) bytes) (no_nul_test bytes text.no_nul))

module _ (bytes : List ℕ) (k : ℕ) (text : IsText bytes) (in_range : k < length bytes) (ascii : get_or bytes k 0 < 128) where
  -- a text may be cut in front of an ASCII byte
  pub text_before : IsText (take k bytes)
  text_before = record {
    utf8 = IsUtf8-take bytes k text.utf8 (IsCharBoundary-before_ascii bytes k in_range ascii);
    no_nul = All-take NotNul k bytes text.no_nul;
  }

  -- and behind it
  pub text_behind : IsText (drop (k + 1) bytes)
  text_behind = record {
    utf8 = IsUtf8-drop bytes (k + 1) text.utf8 (IsCharBoundary-after_ascii bytes k text.utf8 in_range ascii);
    no_nul = All-drop NotNul (k + 1) bytes text.no_nul;
  }

pub text_append : (xs ys : List ℕ) → IsText xs → IsText ys → IsText (xs ++ ys)
text_append xs ys x y = record { utf8 = IsUtf8-append xs ys x.utf8 y.utf8; no_nul = All-append NotNul xs ys x.no_nul y.no_nul }

pub text_nil : IsText []
text_nil = record { utf8 = IsUtf8-nil; no_nul = All-nil NotNul }

one_ascii : (b : ℕ) → b < 128 → (i : ℕ) → get_or (b ∷ []) i 0 < 128
one_ascii b small zero = small
one_ascii b small (suc i) = omega arith

-- an ASCII byte that is no NUL
pub text_one : (b : ℕ) → b < 128 → 0 < b → IsText (b ∷ [])
text_one b small some = record { utf8 = IsUtf8-from_ascii (b ∷ []) (one_ascii b small); no_nul = All-cons NotNul b [] (λ e. absurd (omega arith)) (All-nil NotNul) }

-- a text with more after it
pub text_then : (old new part : List ℕ) → new ≡ old ++ part → IsText old → IsText part → IsText new
text_then old new part is o p = subst IsText (sym is) (text_append old part o p)
