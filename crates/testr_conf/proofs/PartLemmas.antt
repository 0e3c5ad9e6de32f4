-- The parts of a line are texts, and no longer than it.
use Rattle.std.proofs.Common.{Option, ◌≡◌, ◌<◌, ◌≤◌, ◌+◌, ◌-◌, ℕ, true, cond, ◌||◌, ◌&&◌, ◌==◌, not, nat_eq, List, [], ◌∷◌, ◌++◌, length, take, drop, get_or, sym, ap, subst, ◌∙◌, ⊎_elim, arith}
use Rattle.std.specs.List.{position_or_len, list_any, ends_with, after_first, concat}
use Rattle.std.proofs.lemmas.List.{length-take, length-drop, length-append}
use Rattle.std.proofs.lemmas.List.Sums.{passes_at_first, prefix_len-le-length}
use Rattle.std.proofs.lemmas.Bool.{cond_both, and_parts, or_cases, eqb-true, false≢true, cases_lt}
use Rattle.bstr.specs.Text.{lines_of}
use Rattle.bstr.proofs.lemmas.LengthLemmas.{length-lines_of}
use Rattle.bstr.proofs.lemmas.RestLemmas.{concat-lines_of}
use Rattle.sub_number.specs.Texts.{IsText}
use Rattle.sub_number.specs.Lines.{has_bytes}
use Rattle.testr_conf.specs.White.{front_trimmed, trimmed}
use Rattle.testr_conf.specs.Lines.{ConfLine, bad, skipped, more, section, setting, is_sign, is_plain_line, is_comment_sign, is_indent, is_open_bracket, begins_by, setting_key, section_line, setting_line, text_line, strip_last_byte, ended_line_of, is_deeper, placed_line}
use Rattle.testr_conf.specs.Parts.{FitsWithin}
use Rattle.testr_conf.proofs.SearchLemmas.{any_none}
use Rattle.testr_conf.proofs.TextLemmas.{text_behind, text_from_test}
use Rattle.testr_conf.proofs.TrimLemmas.{trimmed_text, trimmed_short}

sign_small : (b : ℕ) → is_sign b ≡ true → b < 128
sign_small b is = ⊎_elim (λ h. omega (arith, eqb-true b 61 h)) (λ h. omega (arith, eqb-true b 58 h)) (or_cases (b == 61) (b == 58) is)

sign_in_line : (line : List ℕ) → list_any is_sign line ≡ true → position_or_len is_sign line < length line
sign_in_line line has =
    ⊎_elim (λ below. below)
    (λ past. absurd (false≢true (sym (any_none is_sign line (omega (arith, prefix_len-le-length (λ b. not (is_sign b)) line))) ∙ has)))
    (cases_lt (position_or_len is_sign line) (length line))

module _ (line : List ℕ) (size : ℕ) (text : IsText line) (short : length line ≤ size) where
  setting_fits : FitsWithin (setting_line line) size
  setting_fits =
      cond_both (list_any is_sign line && has_bytes (setting_key line)) (setting (setting_key line) (trimmed (after_first is_sign line))) bad (λ k. FitsWithin k size)
      (λ both.
      let below : position_or_len is_sign line < length line = sign_in_line line (and_parts (list_any is_sign line) (has_bytes (setting_key line)) both).0 in
      let behind : IsText (after_first is_sign line) = text_behind line (position_or_len is_sign line) text below (sign_small (get_or line (position_or_len is_sign line) 0) (passes_at_first is_sign line 0 below)) in (
        trimmed_text (after_first is_sign line) behind,
        omega (arith, trimmed_short (after_first is_sign line), length-drop (position_or_len is_sign line + 1) line),
      ))
      (λ none. tt)

  text_fits : FitsWithin (text_line line (trimmed line)) size
  text_fits =
      cond_both (not (has_bytes (trimmed line)) || begins_by is_comment_sign (trimmed line)) skipped
      (cond (begins_by is_indent line) (more (length line - length (front_trimmed line)) (trimmed line) line) (cond (begins_by is_open_bracket line) (section_line (drop 1 (trimmed line))) (setting_line line))) (λ k. FitsWithin k size)
      (λ none. tt)
      (λ some. cond_both (begins_by is_indent line) (more (length line - length (front_trimmed line)) (trimmed line) line) (cond (begins_by is_open_bracket line) (section_line (drop 1 (trimmed line))) (setting_line line)) (λ k. FitsWithin k size)
      (λ indent. ((trimmed_text line text, omega (arith, trimmed_short line)), (text, short)))
      (λ other. cond_both (begins_by is_open_bracket line) (section_line (drop 1 (trimmed line))) (setting_line line) (λ k. FitsWithin k size)
      (λ bracket. cond_both (ends_with nat_eq (drop 1 (trimmed line)) (93 ∷ [])) (section (take (length (drop 1 (trimmed line)) - 1) (drop 1 (trimmed line)))) bad (λ k. FitsWithin k size) (λ a. tt) (λ b. tt))
      (λ plain. setting_fits)))

pub strip_last_byte_short : (b : ℕ) (bytes : List ℕ) → length (strip_last_byte b bytes) ≤ length bytes
strip_last_byte_short b bytes =
    cond_both (ends_with nat_eq bytes (b ∷ [])) (take (length bytes - 1) bytes) bytes (λ l. length l ≤ length bytes)
    (λ a. omega (arith, length-take (length bytes - 1) bytes)) (λ a. omega arith)

pub line_fits_within : (line : List ℕ) (size : ℕ) → length line ≤ size → FitsWithin (ended_line_of line) size
line_fits_within line size short =
    cond_both (is_plain_line (strip_last_byte 13 (strip_last_byte 10 line)))
    (text_line (strip_last_byte 13 (strip_last_byte 10 line)) (trimmed (strip_last_byte 13 (strip_last_byte 10 line)))) bad (λ k. FitsWithin k size)
    (λ passes. text_fits (strip_last_byte 13 (strip_last_byte 10 line)) size (text_from_test (strip_last_byte 13 (strip_last_byte 10 line)) passes)
    (omega (arith, strip_last_byte_short 13 (strip_last_byte 10 line), strip_last_byte_short 10 line)))
    (λ fails. tt)

-- the same of a line behind others
behind_fits : (above : Option ℕ) (kind : ConfLine) (size : ℕ) → FitsWithin kind size → FitsWithin (placed_line above kind) size
behind_fits above (section name) size fits = fits
behind_fits above (setting key own) size fits = fits
behind_fits above skipped size fits = fits
behind_fits above bad size fits = fits
behind_fits above (more depth text line) size fits =
    cond_both (is_deeper depth above) (more depth text line) (setting_line line) (λ k. FitsWithin k size) (λ deeper. fits) (λ other. setting_fits line size fits.1.0 fits.1.1)

-- the same of a line as it was read
pub read_fits : (above : Option ℕ) (kind : ConfLine) (line : List ℕ) (size : ℕ) → kind ≡ placed_line above (ended_line_of line) → length line ≤ size → FitsWithin kind size
read_fits above kind line size is short = subst (λ k. FitsWithin k size) (sym is) (behind_fits above (ended_line_of line) size (line_fits_within line size short))

-- How many bytes are left.

pub lines_size : (bytes : List ℕ) → length (concat (lines_of bytes)) ≡ length bytes
lines_size bytes = ap length (concat-lines_of bytes)

pub first_size : (lines rest : List (List ℕ)) (line : List ℕ) → lines ≡ line ∷ rest → length (concat lines) ≡ length line + length (concat rest)
first_size lines rest line first = ap (λ l. length (concat l)) first ∙ length-append line (concat rest)

pub rest_size : (below : List ℕ) (lines rest : List (List ℕ)) (line : List ℕ) → lines ≡ line ∷ rest → lines_of below ≡ rest → length below ≤ length (concat lines)
rest_size below lines rest line first is = omega (arith, lines_size below, ap (λ l. length (concat l)) is, first_size lines rest line first)

-- the room that is left for a value
pub room_more : (lines rest : List (List ℕ)) (line text old pushed new : List ℕ) (limit : ℕ) → lines ≡ line ∷ rest → length text ≤ length line
    → pushed ≡ old ++ 10 ∷ [] → new ≡ pushed ++ text → length old + length (concat lines) + length lines ≤ limit → length new + length (concat rest) + length rest ≤ limit
room_more lines rest line text old pushed new limit first short pushed_is new_is room =
    omega (arith, first_size lines rest line first, ap length first, short, ap length pushed_is ∙ length-append old (10 ∷ []), ap length new_is ∙ length-append pushed text, room)

pub room_skipped : (lines rest : List (List ℕ)) (line old : List ℕ) (limit : ℕ) → lines ≡ line ∷ rest
    → length old + length (concat lines) + length lines ≤ limit → length old + length (concat rest) + length rest ≤ limit
room_skipped lines rest line old limit first room = omega (arith, first_size lines rest line first, ap length first, room)

pub room_first : (own below value : List ℕ) (lines : List (List ℕ)) → value ≡ own → lines ≡ lines_of below
    → length value + length (concat lines) + length lines ≤ length own + (length below + length below)
room_first own below value lines is lines_are =
    omega (arith, ap length is, ap (λ l. length (concat l)) lines_are, ap length lines_are, lines_size below, length-lines_of below)
