-- Texts, as a test tells them.
use Rattle.std.proofs.Common.{◌≡◌, ◌≢◌, ℕ, ◌<◌, ◌^◌, ◌==◌, not, length, List, Option, Some, None, true, Bool, cond, sym}
use Rattle.std.proofs.lemmas.Bool.{and_from, and_parts, cond-true, cond-false, false_from_ne_true, ne_eqb, not_from_false, not-true, eqb-false}
use Rattle.std.proofs.lemmas.List.Elements.{All-weaker}
use Rattle.std.proofs.lemmas.List.Sums.{AllPass-from_list_all, list_all-from_AllPass}
use Rattle.std.proofs.lemmas.Str.{IsUtf8-from_is_utf8, is_utf8-from_IsUtf8}
use Rattle.std.specs.List.{list_all}
use Rattle.std.specs.Str.{is_utf8}
use Rattle.sub_number.specs.Texts.{IsShortText}
use Rattle.v1_bridge.specs.TagWords.{is_utf8_text}

abbrev is_byte : ℕ → Bool
is_byte byte = not (byte == 0)

pub text_is : (bytes : List ℕ) → IsShortText bytes → is_utf8_text bytes ≡ true
text_is bytes text =
    and_from (is_utf8 bytes) (list_all is_byte bytes) (is_utf8-from_IsUtf8 bytes text.text.utf8)
    (list_all-from_AllPass is_byte bytes (All-weaker (λ byte. byte ≢ 0) (λ byte. is_byte byte ≡ true) (λ byte other. not_from_false (byte == 0) (ne_eqb byte 0 other)) bytes text.text.no_nul))

pub is_short_text : (bytes : List ℕ) → is_utf8_text bytes ≡ true → length bytes < 2 ^ 30 → IsShortText bytes
is_short_text bytes is short =
    let b = and_parts (is_utf8 bytes) (list_all is_byte bytes) is in
    record {
      text = record {
        utf8 = IsUtf8-from_is_utf8 bytes b.0;
        no_nul = All-weaker (λ byte. is_byte byte ≡ true) (λ byte. byte ≢ 0) (λ byte other. eqb-false byte 0 (not-true (byte == 0) other)) bytes (AllPass-from_list_all is_byte bytes b.1);
      };
      short = short;
    }

pub told : (bytes : List ℕ) → IsShortText bytes → ◌≡◌ {A = Option (List ℕ)} (Some bytes) (cond (is_utf8_text bytes) (Some bytes) None)
told bytes text = sym (cond-true (is_utf8_text bytes) (Some bytes) None (text_is bytes text))

pub not_told : (bytes : List ℕ) → (IsShortText bytes → ⊥) → length bytes < 2 ^ 30 → ◌≡◌ {A = Option (List ℕ)} None (cond (is_utf8_text bytes) (Some bytes) None)
not_told bytes not short = sym (cond-false (is_utf8_text bytes) (Some bytes) None (false_from_ne_true (is_utf8_text bytes) (λ text. not (is_short_text bytes text short))))
