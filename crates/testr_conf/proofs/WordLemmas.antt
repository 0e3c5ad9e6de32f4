-- The words of a list, one after another.
use Rattle.std.proofs.Common.{◌≡◌, ◌<◌, ◌+◌, ◌-◌, ◌==◌, append_assoc, ℕ, Bool, true, false, ◌||◌, List, [], ◌∷◌, ◌++◌, length, take, drop, get_or, refl, sym, ap, subst, ◌∙◌, arith}
use Rattle.std.specs.List.{filter, slice_split, position_or_len, before_first, after_first, All}
use Rattle.std.proofs.lemmas.List.Splits.{slice_split_first, slice_split_none}
use Rattle.std.proofs.lemmas.List.Sums.{fails_before_first, passes_at_first}
use Rattle.std.proofs.lemmas.List.Elements.{filter-append}
use Rattle.std.proofs.lemmas.List.{take_rest}
use Rattle.bstr.specs.Bytes.{is_in}
use Rattle.sub_number.specs.Lines.{has_bytes}
use Rattle.testr_conf.proofs.TrimLemmas.{gap_small}
use Rattle.testr_conf.specs.White.{is_gap, words_of}

pub words_first : (text : List ℕ) (at : ℕ) → at ≡ position_or_len is_gap text → at < length text
    → words_of text ≡ filter has_bytes (take at text ∷ []) ++ words_of (drop (at + 1) text)
words_first text at is in_range =
    let front : position_or_len is_gap text < length text = subst (λ n. n < length text) is in_range in
    let split : slice_split is_gap text ≡ before_first is_gap text ∷ slice_split is_gap (after_first is_gap text) = slice_split_first is_gap text 0 front in
    let cut : slice_split is_gap text ≡ take at text ∷ slice_split is_gap (drop (at + 1) text) =
    split ∙ ap (λ n. take n text ∷ slice_split is_gap (drop (n + 1) text)) (sym is) in
    ap (filter has_bytes) cut ∙ filter-append has_bytes (take at text ∷ []) (slice_split is_gap (drop (at + 1) text))

pub words_last : (text : List ℕ) → position_or_len is_gap text ≡ length text → words_of text ≡ filter has_bytes (text ∷ [])
words_last text none =
    let gaps : All (λ b. is_gap b ≡ false) text = λ k d below. fails_before_first is_gap text k d (omega arith) in
    ap (filter has_bytes) (slice_split_none is_gap text gaps)

-- a gap is ASCII
pub gap_at : (text : List ℕ) (at : ℕ) → at ≡ position_or_len is_gap text → at < length text → get_or text at 0 < 128
gap_at text at is in_range =
    gap_small (get_or text at 0)
    (ap (λ n. is_gap (get_or text n 0)) is ∙ passes_at_first is_gap text 0 (subst (λ n. n < length text) is in_range))

-- in another order
or_order : (a b c d e f : Bool) → (a || (b || (c || (d || (e || (f || false)))))) ≡ (((((a || b) || c) || d) || e) || f)
or_order true b c d e f = refl
or_order false true c d e f = refl
or_order false false true d e f = refl
or_order false false false true e f = refl
or_order false false false false true f = refl
or_order false false false false false true = refl
or_order false false false false false false = refl

-- the bytes that are looked for
pub gap_test : (b : ℕ) → is_in (32 ∷ 9 ∷ 13 ∷ 11 ∷ 12 ∷ 10 ∷ []) b ≡ is_gap b
unfolding is_in
gap_test b = or_order (b == 32) (b == 9) (b == 13) (b == 11) (b == 12) (b == 10)

module _ (text : List ℕ) (at : ℕ) (is : at ≡ position_or_len is_gap text) (in_range : at < length text) where
  pub words_more : (all : List ℕ) (old new : List (List ℕ)) → words_of all ≡ old ++ words_of text → new ≡ old ++ filter has_bytes (take at text ∷ [])
      → words_of all ≡ new ++ words_of (take (length text - (at + 1)) (drop (at + 1) text))
  words_more all old new before added =
      before ∙ ap (λ w. old ++ w) (words_first text at is in_range) ∙ sym (append_assoc old (filter has_bytes (take at text ∷ [])) (words_of (drop (at + 1) text)))
      ∙ ap (λ w. w ++ words_of (drop (at + 1) text)) (sym added) ∙ ap (λ t. new ++ words_of t) (sym (take_rest text (at + 1)))

pub words_end : (all text : List ℕ) (old new : List (List ℕ)) → words_of all ≡ old ++ words_of text → position_or_len is_gap text ≡ length text
    → new ≡ old ++ filter has_bytes (text ∷ []) → new ≡ words_of all
words_end all text old new read none added = added ∙ ap (λ w. old ++ w) (sym (words_last text none)) ∙ sym read
