-- What a line is.
use Rattle.std.proofs.Common.{◌≡◌, ◌<◌, ◌-◌, ◌+◌, ℕ, false, ◌&&◌, List, length, take, drop, map, sym, ap, subst, ◌∙◌, ◌==◌, arith}
use Rattle.std.specs.List.{list_any, position_or_len, before_first}
use Rattle.std.specs.Char.{to_ascii_lowercase}
use Rattle.std.proofs.lemmas.List.{length-map, take_rest}
use Rattle.std.proofs.lemmas.Bool.{cond-true, cond-false, and_from, and_left, lt-ltb, eqb-false, false_from_ne_true}
use Rattle.testr_conf.specs.White.{trimmed}
use Rattle.sub_number.specs.Texts.{IsText}
use Rattle.sub_number.specs.Lines.{has_bytes}
use Rattle.testr_conf.specs.Lines.{ConfLine, bad, setting, is_sign, is_plain_line, setting_key, setting_line, conf_line_of, text_line, ended_line_of, strip_last_byte}
use Rattle.testr_conf.proofs.TextLemmas.{text_from_test, test_from_text}
use Rattle.testr_conf.proofs.SearchLemmas.{any_none, any_some}

pub setting_without_sign : (line : List ℕ) → position_or_len is_sign line ≡ length line → bad ≡ setting_line line
setting_without_sign line none = sym (cond-false (list_any is_sign line && has_bytes (setting_key line)) _ bad (and_left (list_any is_sign line) (has_bytes (setting_key line)) (any_none is_sign line none)))

module _ (line : List ℕ) (at : ℕ) (is : at ≡ position_or_len is_sign line) where
  key_length : length (setting_key line) ≡ length (trimmed (take at line))
  key_length = length-map (trimmed (before_first is_sign line)) to_ascii_lowercase ∙ ap (λ n. length (trimmed (take n line))) (sym is)

  pub setting_with_key : at < length line → 0 < length (trimmed (take at line))
      → setting (map to_ascii_lowercase (trimmed (take at line))) (trimmed (drop (at + 1) line)) ≡ setting_line line
  setting_with_key in_range some =
      ap (λ n. setting (map to_ascii_lowercase (trimmed (take n line))) (trimmed (drop (n + 1) line))) is
      ∙ sym (cond-true (list_any is_sign line && has_bytes (setting_key line)) _ bad
      (and_from (list_any is_sign line) (has_bytes (setting_key line))
      (any_some is_sign line (subst (λ n. n < length line) is in_range))
      (lt-ltb 0 (length (setting_key line)) (omega (arith, key_length)))))

  pub setting_read : (key value : List ℕ) → at < length line → key ≡ trimmed (take at line) → value ≡ trimmed (take (length line - (at + 1)) (drop (at + 1) line))
      → false ≡ (length key == 0) → setting (map to_ascii_lowercase key) value ≡ setting_line line
  setting_read key value in_range key_is value_is some =
      ap (λ k. setting (map to_ascii_lowercase k) value) key_is
      ∙ ap (λ v. setting (map to_ascii_lowercase (trimmed (take at line))) v) (value_is ∙ ap trimmed (take_rest line (at + 1)))
      ∙ setting_with_key in_range (omega (arith, eqb-false (length key) 0 (sym some), ap length key_is))

-- a line without its ends, and what it is then
module _ (line cut text : List ℕ) (first : cut ≡ strip_last_byte 10 line) (second : text ≡ strip_last_byte 13 cut) where
  both : text ≡ strip_last_byte 13 (strip_last_byte 10 line)
  both = second ∙ ap (strip_last_byte 13) first

  pub read_text : (kind : ConfLine) → IsText text → kind ≡ text_line text (trimmed text) → kind ≡ ended_line_of line
  read_text kind is_a_text e = e ∙ sym (cond-true (is_plain_line text) (text_line text (trimmed text)) bad (test_from_text text is_a_text)) ∙ ap conf_line_of both

  pub read_bad : (IsText text → ⊥) → bad ≡ ended_line_of line
  read_bad none = sym (cond-false (is_plain_line text) (text_line text (trimmed text)) bad (false_from_ne_true (is_plain_line text) (λ passes. none (text_from_test text passes)))) ∙ ap conf_line_of both
