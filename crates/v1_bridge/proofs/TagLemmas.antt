-- Tags that one line tells, read from it.
use Rattle.std.proofs.Common.{◌≡◌, ℕ, ◌≤◌, ◌<◌, ◌==◌, ◌&&◌, ◌||◌, not, nat_lt, nat_le, true, false, cond, Some, None, List, [], ◌∷◌, ◌++◌, length, drop, refl, sym, ap, ◌∙◌, append_assoc, append-nil, length-append, arith}
use Rattle.std.specs.Prelude.{codes, All}
use Rattle.std.specs.List.{filter, flat_map, list_all, slice_split, sum_by}
use Rattle.std.proofs.lemmas.Bool.{and_parts, and_from, cond-true, ltb-true, le-leb, ne_eqb, not-true}
use Rattle.std.proofs.lemmas.List.Elements.{All-nil, All-cons}
use Rattle.std.proofs.lemmas.List.Splits.{slice_split_none, slice_split_at}
use Rattle.std.proofs.lemmas.List.Sums.{sum_by-cons}
use Rattle.outcome_fold.specs.Order.{in_byte_order, without}
use Rattle.outcome_fold.proofs.SetLemmas.{order_push}
use Rattle.sub_number.specs.Lines.{begins, has_bytes}
use Rattle.v1_bridge.specs.TagWords.{is_utf8_text, is_name, is_space_or_tab, spaced_words, takes_away, tag_in, tags_after_word, tags_after_words, within_limit, retagged, most_tag_bytes}
use Rattle.v1_bridge.specs.Writing.{is_plain, is_line_tag, behind_space}

-- what a tag with the form has
has_some : (tag : List ℕ) → is_line_tag tag ≡ true → nat_lt 0 (length tag) ≡ true
has_some tag form = (and_parts (nat_lt 0 (length tag)) (not (begins (codes "-") tag) && list_all is_plain tag) form).0

no_minus : (tag : List ℕ) → is_line_tag tag ≡ true → begins (codes "-") tag ≡ false
no_minus tag form = not-true (begins (codes "-") tag) (and_parts (not (begins (codes "-") tag)) (list_all is_plain tag) (and_parts (nat_lt 0 (length tag)) (not (begins (codes "-") tag) && list_all is_plain tag) form).1).0

pub all_plain : (tag : List ℕ) → is_line_tag tag ≡ true → list_all is_plain tag ≡ true
all_plain tag form = (and_parts (not (begins (codes "-") tag)) (list_all is_plain tag) (and_parts (nat_lt 0 (length tag)) (not (begins (codes "-") tag) && list_all is_plain tag) form).1).1

plain_no_gap : (byte : ℕ) → is_plain byte ≡ true → is_space_or_tab byte ≡ false
plain_no_gap byte plain =
    let above : 32 < byte = ltb-true 32 byte plain in
    ap (λ b. b || byte == 9) (ne_eqb byte 32 (λ is. absurd (omega (arith, above, is)))) ∙ ne_eqb byte 9 (λ is. absurd (omega (arith, above, is)))

no_gaps : (tag : List ℕ) → list_all is_plain tag ≡ true → All (λ byte. is_space_or_tab byte ≡ false) tag
no_gaps [] plain = All-nil (λ byte. is_space_or_tab byte ≡ false)
no_gaps (byte ∷ tag) plain =
    let both = and_parts (is_plain byte) (list_all is_plain tag) plain in
    All-cons (λ byte. is_space_or_tab byte ≡ false) byte tag (plain_no_gap byte both.0) (no_gaps tag both.1)

-- all of the tags are told
pub all_told : (names : List (List ℕ)) → list_all is_line_tag names ≡ true → filter is_line_tag names ≡ names
all_told [] forms = refl
all_told (name ∷ names) forms =
    let both = and_parts (is_line_tag name) (list_all is_line_tag names) forms in
    ap (λ b. cond b (name ∷ filter is_line_tag names) (filter is_line_tag names)) both.0 ∙ ap (λ l. name ∷ l) (all_told names both.1)

-- the words are the tags
pub words_are : (name : List ℕ) (names : List (List ℕ)) → list_all is_line_tag (name ∷ names) ≡ true → spaced_words (name ++ flat_map behind_space names) ≡ name ∷ names
words_are name [] forms =
    let form = (and_parts (is_line_tag name) true forms).0 in
    ap spaced_words (append-nil name) ∙ ap (filter has_bytes) (slice_split_none is_space_or_tab name (no_gaps name (all_plain name form)))
    ∙ ap (λ b. cond b (name ∷ []) []) (has_some name form)
words_are name (next ∷ names) forms =
    let both = and_parts (is_line_tag name) (list_all is_line_tag (next ∷ names)) forms in
    let rest = next ++ flat_map behind_space names in
    ap (filter has_bytes) (slice_split_at is_space_or_tab name 32 rest (no_gaps name (all_plain name both.0)) refl)
    ∙ ap (λ b. cond b (name ∷ filter has_bytes (slice_split is_space_or_tab rest)) (filter has_bytes (slice_split is_space_or_tab rest))) (has_some name both.0)
    ∙ ap (λ l. name ∷ l) (words_are next names both.1)

-- a tag with the form adds itself
adds_itself : (name : List ℕ) → is_line_tag name ≡ true → takes_away name ≡ false
adds_itself name form = ap (λ b. b && nat_lt 1 (length name)) (no_minus name form)

tag_is : (name : List ℕ) → is_line_tag name ≡ true → tag_in name ≡ name
tag_is name form = ap (λ b. cond b (drop 1 name) name) (adds_itself name form)

word_adds : (before : List (List ℕ)) (name : List ℕ) → is_line_tag name ≡ true → tags_after_word before name ≡ in_byte_order (name ∷ before)
word_adds before name form = ap (λ b. cond b (without before (tag_in name ∷ [])) (in_byte_order (tag_in name ∷ before))) (adds_itself name form) ∙ ap (λ n. in_byte_order (n ∷ before)) (tag_is name form)

tag_named : (name : List ℕ) → is_line_tag name ≡ true → is_utf8_text name ≡ true → is_name (tag_in name) ≡ true
tag_named name form text = ap is_name (tag_is name form) ∙ and_from (nat_lt 0 (length name)) (is_utf8_text name) (has_some name form) text

all_added : (before names : List (List ℕ)) → list_all is_line_tag names ≡ true → list_all is_utf8_text names ≡ true → tags_after_words (in_byte_order before) names ≡ Some (in_byte_order (before ++ names))
all_added before [] forms texts = ap (λ l. Some (in_byte_order l)) (sym (append-nil before))
all_added before (name ∷ names) forms texts =
    let form = and_parts (is_line_tag name) (list_all is_line_tag names) forms in
    let text = and_parts (is_utf8_text name) (list_all is_utf8_text names) texts in
    cond-true (is_name (tag_in name)) (tags_after_words (tags_after_word (in_byte_order before) name) names) None (tag_named name form.0 text.0)
    ∙ ap (λ l. tags_after_words l names) (word_adds (in_byte_order before) name form.0 ∙ order_push before name)
    ∙ all_added (before ++ name ∷ []) names form.1 text.1
    ∙ ap (λ l. Some (in_byte_order l)) (append_assoc before (name ∷ []) names)

-- the tags have no more bytes than the words
few_bytes : (names : List (List ℕ)) → sum_by length names ≤ length (flat_map behind_space names)
few_bytes [] = omega arith
few_bytes (name ∷ names) =
    let rest = few_bytes names in
    omega (arith, rest, sum_by-cons length name names, length-append (behind_space name) (flat_map behind_space names))

-- a line of these tags, where none was there
pub retagged_is : (name : List ℕ) (names : List (List ℕ)) → list_all is_line_tag (name ∷ names) ≡ true → list_all is_utf8_text (name ∷ names) ≡ true → length (flat_map behind_space (name ∷ names)) ≤ 65536 → in_byte_order (name ∷ names) ≡ name ∷ names
    → retagged [] (name ++ flat_map behind_space names) ≡ Some (name ∷ names)
retagged_is name names forms texts short ordered =
    ap (λ l. within_limit (tags_after_words (in_byte_order []) l)) (words_are name names forms)
    ∙ ap within_limit (all_added [] (name ∷ names) forms texts ∙ ap Some ordered)
    ∙ cond-true (nat_le (sum_by length (name ∷ names)) most_tag_bytes) (Some (name ∷ names)) None (le-leb (sum_by length (name ∷ names)) most_tag_bytes (omega (arith, few_bytes (name ∷ names), short)))
