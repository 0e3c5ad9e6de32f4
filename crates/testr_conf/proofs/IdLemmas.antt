-- The entries of a list, one after another.
use Rattle.std.proofs.Common.{◌≡◌, ◌<◌, ◌≤◌, ◌+◌, ℕ, Bool, true, false, cond, Some, Result, Ok, Err, List, [], ◌∷◌, ◌++◌, length, map, sym, ap, ◌∙◌, ◌⊎◌, ⊎_elim, inl, inr, ◌==◌, OnOk, arith, append_assoc}
use Rattle.std.specs.List.{filter, concat}
use Rattle.std.proofs.lemmas.List.Elements.{filter-append}
use Rattle.std.proofs.lemmas.Bool.{cond-true, cond-false, eqb-true, false_from_ne_true}
use Rattle.bstr.specs.Text.{lines_of}
use Rattle.bstr.proofs.lemmas.LengthLemmas.{length-lines_of}
use Rattle.testr_conf.specs.Lines.{is_plain_line}
use Rattle.testr_conf.specs.ListedIds.{entry_of, entries_of, first_other, unless_other, listed_texts, number_of_entry, line_of_pattern}
use Rattle.testr_conf.specs.declared.ids.IdsFault.{IdsFault}
use Rattle.testr_conf.specs.declared.ids.IdsFault.TheVariants.{NotText, NoMemory}
use Rattle.sub_number.specs.Texts.{IsShortText}
use Rattle.sub_number.specs.Lines.{has_bytes}
use Rattle.testr_conf.proofs.TextLemmas.{text_from_test, test_from_text, text_nil}
use Rattle.testr_conf.proofs.PartLemmas.{first_size, lines_size}

pub empty_text : (bytes : List ℕ) → true ≡ (length bytes == 0) → is_plain_line bytes ≡ true
empty_text [] e = test_from_text [] text_nil
empty_text (b ∷ bytes) e = absurd (omega (arith, eqb-true (length (b ∷ bytes)) 0 (sym e)))

pub other_text : (bytes : List ℕ) → length bytes ≤ 16777216 → (IsShortText bytes → ⊥) → is_plain_line bytes ≡ false
other_text bytes short none = false_from_ne_true (is_plain_line bytes) (λ passes. none (record { text = text_from_test bytes passes; short = omega arith }))

pub on_ok : {T E : Type 0} (r : Result T E) (P : Type 0) → P → OnOk r P
on_ok (Ok x) P p = p
on_ok (Err e) P p = tt

-- behind so many lines, with these ids
pub record Listed (comments : Bool) (text : List ℕ) (rest : List (List ℕ)) (number : ℕ) (ids : List (List ℕ)) : Type 0 where
  pub other : first_other 1 (entries_of comments text) ≡ first_other (number + 1) (map (entry_of comments) rest)
  pub listed : filter has_bytes (entries_of comments text) ≡ ids ++ filter has_bytes (map (entry_of comments) rest)
  pub count : number + length rest ≡ length (lines_of text)
  pub room : length (concat rest) ≤ length text

pub listed_first : (comments : Bool) (text : List ℕ) (lines : List (List ℕ)) (ids : List (List ℕ)) → lines ≡ lines_of text → ids ≡ [] → Listed comments text lines 0 ids
listed_first comments text lines ids lines_are none = record {
  other = ap (λ l. first_other 1 (map (entry_of comments) l)) (sym lines_are);
  listed = ap (λ l. filter has_bytes (map (entry_of comments) l)) (sym lines_are) ∙ ap (λ i. i ++ filter has_bytes (map (entry_of comments) lines)) (sym none);
  count = omega (arith, ap length lines_are);
  room = omega (arith, ap (λ l. length (concat l)) lines_are, lines_size text);
}

module _ (comments : Bool) (text : List ℕ) (lines rest : List (List ℕ)) (line entry : List ℕ) (number : ℕ) (ids : List (List ℕ)) (first : lines ≡ line ∷ rest) (entry_is : entry ≡ entry_of comments line)
    (h : Listed comments text lines number ids) where
  pub line_number : length text ≤ 16777216 → number < 16777216
  line_number short = omega (arith, h.count, ap length first, length-lines_of text)

  pub line_room : length line ≤ length text
  line_room = omega (arith, h.room, first_size lines rest line first)

  other_here : first_other 1 (entries_of comments text) ≡ cond (is_plain_line entry) (first_other (number + 1 + 1) (map (entry_of comments) rest)) (Some (number + 1))
  other_here =
      h.other ∙ ap (λ l. first_other (number + 1) (map (entry_of comments) l)) first
      ∙ ap (λ e. cond (is_plain_line e) (first_other (number + 1 + 1) (map (entry_of comments) rest)) (Some (number + 1))) (sym entry_is)

  pub listed_next : (new : List (List ℕ)) → is_plain_line entry ≡ true → new ≡ ids ++ filter has_bytes (entry ∷ []) → Listed comments text rest (number + 1) new
  listed_next new fine added = record {
    other = other_here ∙ cond-true (is_plain_line entry) (first_other (number + 1 + 1) (map (entry_of comments) rest)) (Some (number + 1)) fine;
    listed =
        h.listed ∙ ap (λ l. ids ++ filter has_bytes (map (entry_of comments) l)) first
        ∙ ap (λ e. ids ++ filter has_bytes (e ∷ map (entry_of comments) rest)) (sym entry_is)
        ∙ ap (λ f. ids ++ f) (filter-append has_bytes (entry ∷ []) (map (entry_of comments) rest))
        ∙ sym (append_assoc ids (filter has_bytes (entry ∷ [])) (filter has_bytes (map (entry_of comments) rest)))
        ∙ ap (λ i. i ++ filter has_bytes (map (entry_of comments) rest)) (sym added);
    count = omega (arith, h.count, ap length first);
    room = omega (arith, h.room, first_size lines rest line first);
  }

  pub listed_refused : (fault : IdsFault) → ((is_plain_line entry ≡ false) × (fault ≡ NotText (number + 1))) ⊎ (fault ≡ NoMemory) → (listed_texts comments text ≡ Err fault) ⊎ (fault ≡ NoMemory)
  listed_refused fault reason =
      ⊎_elim
      (λ other. inl
      (ap (λ o. unless_other o (filter has_bytes (entries_of comments text)))
      (other_here ∙ cond-false (is_plain_line entry) (first_other (number + 1 + 1) (map (entry_of comments) rest)) (Some (number + 1)) other.0)
      ∙ ap Err (sym other.1)))
      (λ memory. inr memory)
      reason

-- In front of these lines of the text: the line of this number is the next, and so many patterns stand before the one of this index.
pub record Numbered (text : List ℕ) (index : ℕ) (rest : List (List ℕ)) (number left : ℕ) : Type 0 where
  pub same : number_of_entry number left (map (entry_of true) rest) ≡ line_of_pattern text index
  pub count : number + length rest ≡ 1 + length (lines_of text)
