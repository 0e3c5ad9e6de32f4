-- The last bytes of a text, which comes piece by piece.
use Rattle.std.proofs.Common.{◌≡◌, ℕ, ◌+◌, ◌-◌, ◌<◌, ◌≤◌, ◌⊎◌, inl, inr, Bool, true, false, List, [], ◌++◌, length, take, drop, Result, IfOk, Ok, Err, arith, nat_le, nat_eq, refl, sym, ap, ◌∙◌, length-append, length-drop}
use Rattle.std.specs.Prelude.{codes, ◌==◌}
use Rattle.std.specs.Cmp.Lexicographic.{pointwise}
use Rattle.std.specs.List.{ends_with, copy_within}
use Rattle.std.proofs.lemmas.List.{append_assoc, take-append-drop, length-take}
use Rattle.std.proofs.lemmas.Bool.Decides.{nat_tests}
use Rattle.std.proofs.Math.Seq.{drop-append-add}
use Rattle.stream_reader.proofs.BufferLemmas.{moved_is}
use Rattle.outcome_fold.specs.Lines.{newline, line_end, whole_lines}
use Rattle.suite_plan.specs.Saying.{last_said, name_line}
use Rattle.suite_plan.specs.Tails.{IsTailOf}
use Rattle.suite_plan.specs.declared.tail.Tail.{Tail}

-- ---- one piece more

-- behind what is held
pub piece_added : (text piece : List ℕ) (old new : Tail) → new.bytes.items ≡ old.bytes.items ++ piece → new.cut ≡ old.cut → IsTailOf text old → IsTailOf (text ++ piece) new
piece_added text piece old new items cut has = record {
  gone = has.gone;
  whole = ap (λ (l : List ℕ). l ++ piece) has.whole ∙ append_assoc has.gone old.bytes.items piece ∙ ap (λ (l : List ℕ). has.gone ++ l) (sym items);
  all = λ is. has.all (sym cut ∙ is);
  cut = λ is. (let parts = has.cut (sym cut ∙ is) in (parts.0, omega (arith, parts.1, ap length items, length-append old.bytes.items piece)));
}

-- in place of what was held
pub piece_alone : (text piece : List ℕ) (new : Tail) → 65536 < length piece → new.bytes.items ≡ drop (length piece - 65536) piece → new.cut ≡ true → IsTailOf (text ++ piece) new
piece_alone text piece new many items cut =
    let gone = length piece - 65536 in
    record {
      gone = text ++ take gone piece;
      whole = ap (λ (l : List ℕ). text ++ l) (sym (take-append-drop gone piece)) ∙ sym (append_assoc text (take gone piece) (drop gone piece)) ∙ ap (λ (l : List ℕ). (text ++ take gone piece) ++ l) (sym items);
      all = λ is. (let both : true ≡ false = sym cut ∙ is in absurd cc);
      cut = λ is. (omega (arith, many, length-append text (take gone piece), length-take gone piece), omega (arith, many, ap length items, length-drop gone piece));
    }

-- ---- room

-- all but the last bytes were let go of
pub front_gone : (text : List ℕ) (old new : Tail) → 65536 < length old.bytes.items → new.bytes.items ≡ take 65536 (copy_within old.bytes.items (length old.bytes.items - 65536) (length old.bytes.items) 0) → new.cut ≡ true → IsTailOf text old → IsTailOf text new
front_gone text old new many items cut has =
    let bytes = old.bytes.items in
    let gone = length bytes - 65536 in
    let kept : length bytes - gone ≡ 65536 = omega (arith, many) in
    let moved : new.bytes.items ≡ drop gone bytes = moved_is bytes (copy_within bytes gone (length bytes) 0) new.bytes.items gone (omega (arith, many)) refl (items ∙ ap (λ n. take n (copy_within bytes gone (length bytes) 0)) (sym kept)) in
    record {
      gone = has.gone ++ take gone bytes;
      whole = has.whole ∙ ap (λ (l : List ℕ). has.gone ++ l) (sym (take-append-drop gone bytes)) ∙ sym (append_assoc has.gone (take gone bytes) (drop gone bytes)) ∙ ap (λ (l : List ℕ). (has.gone ++ take gone bytes) ++ l) (sym moved);
      all = λ is. (let both : true ≡ false = sym cut ∙ is in absurd cc);
      cut = λ is. (omega (arith, many, length-append has.gone (take gone bytes), length-take gone bytes), omega (arith, many, ap length moved, length-drop gone bytes));
    }

-- ---- whole lines

-- the last byte is that of the last bytes
last_same : (gone bytes : List ℕ) → 0 < length bytes → ends_with nat_eq (gone ++ bytes) newline ≡ ends_with nat_eq bytes newline
last_same gone bytes some =
    let place : length (gone ++ bytes) - 1 ≡ length gone + (length bytes - 1) = omega (arith, some, length-append gone bytes) in
    ap (pointwise nat_eq newline) (ap (λ n. drop n (gone ++ bytes)) place ∙ drop-append-add gone bytes (length bytes - 1))

end_same : (gone bytes : List ℕ) → (gone ≡ []) ⊎ (0 < length bytes) → line_end (gone ++ bytes) ≡ line_end bytes
end_same gone bytes (inl none) = ap (λ (l : List ℕ). line_end (l ++ bytes)) none
end_same gone bytes (inr some) =
    let long : (length (gone ++ bytes) == 0) ≡ false = grind (arith, nat_tests, some, length-append gone bytes) in
    let short : (length bytes == 0) ≡ false = grind (arith, nat_tests, some) in
    rw (long, short, last_same gone bytes some) refl

-- where nothing was let go of it is the whole text
has_some : (text : List ℕ) (tail : Tail) → (has : IsTailOf text tail) → (has.gone ≡ []) ⊎ (0 < length tail.bytes.items)
has_some text tail has = cases tail.cut refl
  where
    cases : (cut : Bool) → tail.cut ≡ cut → (has.gone ≡ []) ⊎ (0 < length tail.bytes.items)
    cases false is = inl (has.all is)
    cases true is = inr (omega (arith, (has.cut is).1))

pub line_ended : (text end : List ℕ) (tail : Tail) → IsTailOf text tail → end ≡ line_end tail.bytes.items → text ++ end ≡ whole_lines text
line_ended text end tail has is =
    let bytes = tail.bytes.items in
    ap (λ (l : List ℕ). text ++ l) (is ∙ sym (end_same has.gone bytes (has_some text tail has)) ∙ ap line_end (sym has.whole))

-- ---- what is told

pub all_told : (text bytes : List ℕ) (tail : Tail) → tail.bytes.items ≡ bytes → tail.cut ≡ false → length bytes ≤ 65536 → IsTailOf text tail → bytes ≡ last_said text
all_told text bytes tail items cut few has =
    let whole : text ≡ bytes = has.whole ∙ ap (λ (l : List ℕ). l ++ tail.bytes.items) (has.all cut) ∙ items in
    let short : nat_le (length bytes) 65536 ≡ true = grind (arith, nat_tests, few) in
    sym (ap last_said whole ∙ rw short refl)

pub last_told : (text bytes : List ℕ) (tail : Tail) → tail.bytes.items ≡ bytes → (tail.cut ≡ true) ⊎ (65536 < length bytes) → IsTailOf text tail → codes "..." ++ newline ++ drop (length bytes - 65536) bytes ≡ last_said text
last_told text bytes tail items some has = by some
  where
    told : 65536 ≤ length bytes → 65536 < length has.gone + length bytes → codes "..." ++ newline ++ drop (length bytes - 65536) bytes ≡ last_said text
    told held more =
        let whole : text ≡ has.gone ++ bytes = has.whole ∙ ap (λ (l : List ℕ). has.gone ++ l) items in
        let long : nat_le (length (has.gone ++ bytes)) 65536 ≡ false = grind (arith, nat_tests, more, length-append has.gone bytes) in
        let place : length (has.gone ++ bytes) - 65536 ≡ length has.gone + (length bytes - 65536) = omega (arith, held, length-append has.gone bytes) in
        let last : drop (length (has.gone ++ bytes) - 65536) (has.gone ++ bytes) ≡ drop (length bytes - 65536) bytes = ap (λ n. drop n (has.gone ++ bytes)) place ∙ drop-append-add has.gone bytes (length bytes - 65536) in
        sym (ap last_said whole ∙ rw (long, last) refl)

    by : (tail.cut ≡ true) ⊎ (65536 < length bytes) → codes "..." ++ newline ++ drop (length bytes - 65536) bytes ≡ last_said text
    by (inl cut) = (let parts = has.cut cut in let held : 65536 ≤ length bytes = omega (arith, parts.1, ap length items) in told held (omega (arith, held, parts.0)))
    by (inr more) = told (omega (arith, more)) (omega (arith, more))

pub last_answered : {E : Type 0} (r : Result (List ℕ) E) (text bytes part : List ℕ) (tail : Tail) → part ≡ drop (length bytes - 65536) bytes → tail.bytes.items ≡ bytes → (tail.cut ≡ true) ⊎ (65536 < length bytes) → IsTailOf text tail
    → IfOk r (λ told. told ≡ codes "..." ++ newline ++ part) → IfOk r (λ told. told ≡ last_said text)
last_answered (Ok told) text bytes part tail part_is items some has is = is ∙ ap (λ (l : List ℕ). codes "..." ++ newline ++ l) part_is ∙ last_told text bytes tail items some has
last_answered (Err fault) text bytes part tail part_is items some has is = tt

-- ---- the line in front of a file

pub name_line_added : (text name : List ℕ) → ((whole_lines text ++ codes "--- ") ++ name) ++ (codes " ---" ++ newline) ≡ whole_lines text ++ name_line name
name_line_added text name =
    let first = codes "--- " in
    let last = codes " ---" in
    append_assoc (whole_lines text ++ first) name (last ++ newline)
    ∙ append_assoc (whole_lines text) first (name ++ (last ++ newline))
    ∙ ap (λ (l : List ℕ). whole_lines text ++ l) (sym (append_assoc first name (last ++ newline)) ∙ sym (append_assoc (first ++ name) last newline))
