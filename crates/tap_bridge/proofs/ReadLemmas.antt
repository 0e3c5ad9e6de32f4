-- What a reader knows, one line more.
use Rattle.std.proofs.Common.{◌≡◌, ℕ, ◌+◌, ◌-◌, ◌≤◌, ◌&&◌, max, nat_eq, eqb-true, le-ltb, is_some, subst, Bool, true, false, cond, not, Option, Some, None, List, [], ◌∷◌, ◌++◌, map, take, drop, length, refl, sym, ◌∙◌, ap, append_assoc, arith, length-append}
use Rattle.std.specs.Prelude.{codes}
use Rattle.std.proofs.lemmas.Bool.{and_parts, cond-false}
use Rattle.std.proofs.lemmas.List.{reverse-append, take_at, drop_all, take-append-le, drop-append-le, append-nil, map_push}
use Rattle.std.proofs.lemmas.List.Elements.{filter-append, filter_map-append}
use Rattle.std.proofs.lemmas.List.Sums.{fold_push}
use Rattle.std.specs.List.{suffix_len, prefix_len, before_last, after_last, filter, filter_map, last_or}
use Rattle.std.specs.Option.{option_map, option_to_list}
use Rattle.sub_number.specs.Lines.{begins, without_return, with_newline}
use Rattle.tap_bridge.specs.declared.plan.Plan.{Plan}
use Rattle.tap_bridge.specs.declared.waiting_test.Waiting.{Waiting as Kept}
use Rattle.tap_bridge.specs.declared.reader.TapReader.{TapReader}
use Rattle.tap_bridge.specs.Blanks.{trim}
use Rattle.tap_bridge.specs.Grammar.{Test, TapLine, plan, test, comment, bail_out, other, plan_of, test_line_of, line_with, tap_line_of}
use Rattle.tap_bridge.specs.Events.{TapInput, line, too_long, longest_tap_line, one_more, number_in, number_after, next_number, planned, is_awaited, is_heading, comment_in, waiting_with, waiting, comment_limit, events_at, tap_events_behind, tap_events_so_far, input_of}
use Rattle.tap_bridge.specs.Kept.{HasTakenLines, HasReadLines, kept_waiting}
use Rattle.tap_bridge.proofs.CommentLemmas.{comment_push}

-- The last heading.

suffix_push : {X : Type 0} (p : X → Bool) (xs : List X) (x : X) → suffix_len p (xs ++ x ∷ []) ≡ cond (p x) (1 + suffix_len p xs) 0
suffix_push p xs x = ap (prefix_len p) (reverse-append xs (x ∷ []))

module _ {X : Type 0} (p : X → Bool) (xs : List X) (x : X) where
  more : length (xs ++ x ∷ []) ≡ length xs + 1
  more = length-append xs (x ∷ [])

  none_behind : p x ≡ true → suffix_len (λ y. not (p y)) (xs ++ x ∷ []) ≡ 0
  none_behind is = suffix_push (λ y. not (p y)) xs x ∙ ap (λ b. cond (not b) (1 + suffix_len (λ y. not (p y)) xs) 0) is

  one_behind : p x ≡ false → suffix_len (λ y. not (p y)) (xs ++ x ∷ []) ≡ 1 + suffix_len (λ y. not (p y)) xs
  one_behind is = suffix_push (λ y. not (p y)) xs x ∙ ap (λ b. cond (not b) (1 + suffix_len (λ y. not (p y)) xs) 0) is

  before_heading : p x ≡ true → before_last p (xs ++ x ∷ []) ≡ xs
  before_heading is =
      let size : length (xs ++ x ∷ []) - suffix_len (λ y. not (p y)) (xs ++ x ∷ []) - 1 ≡ length xs = omega (arith, more, none_behind is) in
      ap (λ n. take n (xs ++ x ∷ [])) size ∙ take_at xs (x ∷ []) (length xs) refl

  after_heading : p x ≡ true → after_last p (xs ++ x ∷ []) ≡ []
  after_heading is = drop_all (length (xs ++ x ∷ []) - suffix_len (λ y. not (p y)) (xs ++ x ∷ [])) (xs ++ x ∷ []) (omega (arith, none_behind is))

  before_other : p x ≡ false → before_last p (xs ++ x ∷ []) ≡ before_last p xs
  before_other is =
      let size : length (xs ++ x ∷ []) - suffix_len (λ y. not (p y)) (xs ++ x ∷ []) - 1 ≡ length xs - suffix_len (λ y. not (p y)) xs - 1 = omega (arith, more, one_behind is) in
      ap (λ n. take n (xs ++ x ∷ [])) size ∙ take-append-le (length xs - suffix_len (λ y. not (p y)) xs - 1) xs (x ∷ []) (omega arith)

  after_other : p x ≡ false → after_last p (xs ++ x ∷ []) ≡ after_last p xs ++ x ∷ []
  after_other is =
      let size : length (xs ++ x ∷ []) - suffix_len (λ y. not (p y)) (xs ++ x ∷ []) ≡ length xs - suffix_len (λ y. not (p y)) xs = omega (arith, more, one_behind is) in
      ap (λ n. drop n (xs ++ x ∷ [])) size ∙ drop-append-le (length xs - suffix_len (λ y. not (p y)) xs) xs (x ∷ []) (omega arith)

  filter_heading : p x ≡ true → filter p (xs ++ x ∷ []) ≡ filter p xs ++ x ∷ []
  filter_heading is = filter-append p xs (x ∷ []) ∙ ap (λ b. filter p xs ++ cond b (x ∷ []) []) is

  filter_other : p x ≡ false → filter p (xs ++ x ∷ []) ≡ filter p xs
  filter_other is = filter-append p xs (x ∷ []) ∙ ap (λ b. filter p xs ++ cond b (x ∷ []) []) is ∙ append-nil (filter p xs)

last_push : {X : Type 0} (o : Option X) (xs : List X) (x : X) → last_or o (xs ++ x ∷ []) ≡ Some x
last_push o [] x = refl
last_push o (y ∷ xs) x = last_push (Some y) xs x

-- The waiting test.

waiting_heading : (before : List TapInput) (x : TapInput) → is_heading x ≡ true → waiting (before ++ x ∷ []) ≡ waiting_with (next_number before) [] (Some x)
waiting_heading before x is =
    let front = before_heading is_heading before x is in
    let behind = after_heading is_heading before x is in
    let last = ap (last_or None) (filter_heading is_heading before x is) ∙ last_push None (filter is_heading before) x in
    λ i. waiting_with (next_number (front i)) (behind i) (last i)

waiting_other : (before : List TapInput) (x : TapInput) → is_heading x ≡ false → waiting (before ++ x ∷ []) ≡ waiting_with (next_number (before_last is_heading before)) (after_last is_heading before ++ x ∷ []) (last_or None (filter is_heading before))
waiting_other before x is =
    let front = before_other is_heading before x is in
    let behind = after_other is_heading before x is in
    let last = filter_other is_heading before x is in
    λ i. waiting_with (next_number (front i)) (behind i) (last_or None (last i))

with_none : (next : ℕ) (ys : List TapInput) (x : TapInput) (o : Option TapInput) → comment_in x ≡ None → waiting_with next (ys ++ x ∷ []) o ≡ waiting_with next ys o
with_none next ys x None none = refl
with_none next ys x (Some (line (plan p))) none = refl
with_none next ys x (Some (line (test t))) none =
    let comments : filter_map comment_in (ys ++ x ∷ []) ≡ filter_map comment_in ys =
    filter_map-append comment_in ys (x ∷ []) ∙ ap (λ c. filter_map comment_in ys ++ Rattle.std.specs.List.cons_option c []) none ∙ append-nil (filter_map comment_in ys) in
    ap (λ cs. Some (record { number = number_in next t; shown = t; comments = cs })) comments
with_none next ys x (Some (line (comment bytes))) none = refl
with_none next ys x (Some (line (bail_out id))) none = refl
with_none next ys x (Some (line (other bytes))) none = refl
with_none next ys x (Some (too_long bytes)) none = refl

-- what is kept, with one comment line more
abbrev pub commented : List ℕ → Kept → Kept
commented bytes kept = record kept { comment = take comment_limit (kept.comment ++ with_newline bytes) }

with_comment : (next : ℕ) (ys : List TapInput) (bytes : List ℕ) (o : Option TapInput) → option_map (commented bytes) (option_map kept_waiting (waiting_with next ys o)) ≡ option_map kept_waiting (waiting_with next (ys ++ line (comment bytes) ∷ []) o)
with_comment next ys bytes None = refl
with_comment next ys bytes (Some (line (plan p))) = refl
with_comment next ys bytes (Some (line (test t))) =
    let comments : filter_map comment_in (ys ++ line (comment bytes) ∷ []) ≡ filter_map comment_in ys ++ bytes ∷ [] = filter_map-append comment_in ys (line (comment bytes) ∷ []) in
    ap (λ text. Some (record (kept_waiting (record { number = number_in next t; shown = t; comments = filter_map comment_in ys })) { comment = text })) (comment_push t.reason bytes (filter_map comment_in ys))
    ∙ ap (λ cs. Some (kept_waiting (record { number = number_in next t; shown = t; comments = cs }))) (sym comments)
with_comment next ys bytes (Some (line (comment c))) = refl
with_comment next ys bytes (Some (line (bail_out id))) = refl
with_comment next ys bytes (Some (line (other c))) = refl
with_comment next ys bytes (Some (too_long c)) = refl

-- What a reader knows.

pub knows_plan : (r s : TapReader) (before : List TapInput) (p : Plan) → s.next ≡ r.next → s.tests ≡ Some p.tests → s.waiting ≡ None → HasTakenLines r before → HasTakenLines s (before ++ line (plan p) ∷ [])
knows_plan r s before p next tests none known = record {
  next = next ∙ known.next ∙ sym (fold_push number_after 1 before (line (plan p)));
  tests = tests ∙ sym (fold_push planned None before (line (plan p)));
  waits = none ∙ sym (ap (option_map kept_waiting) (waiting_heading before (line (plan p)) refl));
}

pub knows_bail_out : (r s : TapReader) (before : List TapInput) (id : List ℕ) → s.next ≡ r.next → s.tests ≡ r.tests → s.waiting ≡ None → HasTakenLines r before → HasTakenLines s (before ++ line (bail_out id) ∷ [])
knows_bail_out r s before id next tests none known = record {
  next = next ∙ known.next ∙ sym (fold_push number_after 1 before (line (bail_out id)));
  tests = tests ∙ known.tests ∙ sym (fold_push planned None before (line (bail_out id)));
  waits = none ∙ sym (ap (option_map kept_waiting) (waiting_heading before (line (bail_out id)) refl));
}

pub knows_test : (r s : TapReader) (before : List TapInput) (t : Test) → s.next ≡ max r.next (one_more (number_in r.next t)) → s.tests ≡ r.tests
    → s.waiting ≡ Some (kept_waiting (record { number = number_in r.next t; shown = t; comments = [] })) → HasTakenLines r before → HasTakenLines s (before ++ line (test t) ∷ [])
knows_test r s before t next tests waits known = record {
  next = next ∙ ap (λ n. max n (one_more (number_in n t))) known.next ∙ sym (fold_push number_after 1 before (line (test t)));
  tests = tests ∙ known.tests ∙ sym (fold_push planned None before (line (test t)));
  waits = waits ∙ ap (λ n. Some (kept_waiting (record { number = number_in n t; shown = t; comments = [] }))) known.next ∙ sym (ap (option_map kept_waiting) (waiting_heading before (line (test t)) refl));
}

pub knows_comment : (r s : TapReader) (before : List TapInput) (bytes : List ℕ) → s.next ≡ r.next → s.tests ≡ r.tests → s.waiting ≡ option_map (commented bytes) r.waiting → HasTakenLines r before → HasTakenLines s (before ++ line (comment bytes) ∷ [])
knows_comment r s before bytes next tests waits known = record {
  next = next ∙ known.next ∙ sym (fold_push number_after 1 before (line (comment bytes)));
  tests = tests ∙ known.tests ∙ sym (fold_push planned None before (line (comment bytes)));
  waits = waits ∙ ap (option_map (commented bytes)) known.waits
      ∙ with_comment (next_number (before_last is_heading before)) (after_last is_heading before) bytes (last_or None (filter is_heading before))
      ∙ sym (ap (option_map kept_waiting) (waiting_other before (line (comment bytes)) refl));
}

pub knows_other : (r : TapReader) (before : List TapInput) (bytes : List ℕ) → HasTakenLines r before → HasTakenLines r (before ++ line (other bytes) ∷ [])
knows_other r before bytes known = record {
  next = known.next ∙ sym (fold_push number_after 1 before (line (other bytes)));
  tests = known.tests ∙ sym (fold_push planned None before (line (other bytes)));
  waits = known.waits ∙ sym (ap (option_map kept_waiting) (waiting_other before (line (other bytes)) refl
      ∙ with_none (next_number (before_last is_heading before)) (after_last is_heading before) (line (other bytes)) (last_or None (filter is_heading before)) refl));
}

-- bytes that are too many for a line change nothing
pub knows_too_long : (r : TapReader) (before : List TapInput) (bytes : List ℕ) → HasTakenLines r before → HasTakenLines r (before ++ too_long bytes ∷ [])
knows_too_long r before bytes known = record {
  next = known.next ∙ sym (fold_push number_after 1 before (too_long bytes));
  tests = known.tests ∙ sym (fold_push planned None before (too_long bytes));
  waits = known.waits ∙ sym (ap (option_map kept_waiting) (waiting_other before (too_long bytes) refl
      ∙ with_none (next_number (before_last is_heading before)) (after_last is_heading before) (too_long bytes) (last_or None (filter is_heading before)) refl));
}

-- The events of all lines.

behind_push : (before xs : List TapInput) (x : TapInput) → tap_events_behind before (xs ++ x ∷ []) ≡ tap_events_behind before xs ++ events_at (before ++ xs) x
behind_push before [] x = append-nil (events_at before x) ∙ ap (λ lines. events_at lines x) (sym (append-nil before))
behind_push before (y ∷ xs) x =
    ap (λ events. events_at before y ++ events) (behind_push (before ++ y ∷ []) xs x ∙ ap (λ lines. tap_events_behind (before ++ y ∷ []) xs ++ events_at lines x) (append_assoc before (y ∷ []) xs))
    ∙ sym (append_assoc (events_at before y) (tap_events_behind (before ++ y ∷ []) xs) (events_at (before ++ y ∷ xs) x))

-- the events before the end, one line more
pub so_far_push : (lines : List (List ℕ)) (bytes : List ℕ) → tap_events_so_far (lines ++ bytes ∷ []) ≡ tap_events_so_far lines ++ events_at (map input_of lines) (input_of bytes)
so_far_push lines bytes = ap (tap_events_behind []) (map_push input_of lines bytes) ∙ behind_push [] (map input_of lines) (input_of bytes)

-- Comment lines.

-- a line that is not too long
pub input_is_line : (bytes : List ℕ) → length bytes ≤ longest_tap_line → input_of bytes ≡ line (tap_line_of (without_return bytes))
input_is_line bytes few = cond-false _ _ _ (le-ltb longest_tap_line (length bytes) few)

-- and is known to be this
pub input_meant : (bytes short : List ℕ) (this : TapLine) → length bytes ≤ longest_tap_line → short ≡ without_return bytes → this ≡ tap_line_of short → input_of bytes ≡ line this
input_meant bytes short this few cut is = input_is_line bytes few ∙ ap (λ l. line (tap_line_of l)) (sym cut) ∙ ap line (sym is)

-- a line that begins with `#`
pub comment_is : (bytes : List ℕ) → begins (codes "#") bytes ≡ true → tap_line_of bytes ≡ comment bytes
comment_is [] is = absurd cc
comment_is (byte ∷ bytes) is =
    let sign : byte ≡ 35 = sym (eqb-true 35 byte ((and_parts (nat_eq 35 byte) true is).0)) in
    rw sign refl

with_parts : (p : Option Plan) (t : Option Test) (bytes : List ℕ) → begins (codes "#") bytes ≡ false → comment_in (line (line_with p t bytes)) ≡ None
with_parts (Some p) t bytes not_it = refl
with_parts None (Some t) bytes not_it = refl
with_parts None None bytes not_it =
    ap (λ b. comment_in (line (cond b (comment bytes) (cond (begins (codes "Bail out!") bytes) (bail_out (trim bytes)) (other bytes))))) not_it
    ∙ either (begins (codes "Bail out!") bytes)
  where
    either : (b : Bool) → comment_in (line (cond b (bail_out (trim bytes)) (other bytes))) ≡ None
    either true = refl
    either false = refl

-- a line that does not
pub comment_is_not : (bytes : List ℕ) → begins (codes "#") bytes ≡ false → comment_in (line (tap_line_of bytes)) ≡ None
comment_is_not bytes not_it = with_parts (plan_of bytes) (test_line_of bytes) bytes not_it

-- a line that is not too long, and what is left of it without a carriage return
module _ (bytes short : List ℕ) (few : length bytes ≤ longest_tap_line) (cut : short ≡ without_return bytes) where
  input_is : input_of bytes ≡ line (tap_line_of short)
  input_is = input_is_line bytes few ∙ ap (λ l. line (tap_line_of l)) (sym cut)

  input_is_comment : begins (codes "#") short ≡ true → input_of bytes ≡ line (comment short)
  input_is_comment is = input_is ∙ ap line (comment_is short is)

  pub awaited : (before : List TapInput) → begins (codes "#") short ≡ true → is_awaited before (input_of bytes) ≡ is_some (waiting before)
  awaited before is = ap (λ i. is_some (comment_in i) && is_some (waiting before)) (input_is_comment is)

  pub not_awaited : (before : List TapInput) → begins (codes "#") short ≡ false → is_awaited before (input_of bytes) ≡ false
  not_awaited before is_not = ap (λ c. is_some c && is_some (waiting before)) (ap comment_in input_is ∙ comment_is_not short is_not)

  pub comment_read : (reader : TapReader) (lines : List (List ℕ)) → begins (codes "#") short ≡ true → HasTakenLines reader (map input_of lines ++ line (comment short) ∷ []) → HasReadLines reader (lines ++ bytes ∷ [])
  comment_read reader lines is known = subst (HasTakenLines reader) (ap (λ i. map input_of lines ++ i ∷ []) (sym (input_is_comment is)) ∙ sym (map_push input_of lines bytes)) known

  pub comment_gives_none : (lines : List (List ℕ)) → begins (codes "#") short ≡ true → events_at (map input_of lines) (line (comment short)) ≡ [] → tap_events_so_far (lines ++ bytes ∷ []) ≡ tap_events_so_far lines
  comment_gives_none lines is none =
      so_far_push lines bytes ∙ ap (λ i. tap_events_so_far lines ++ events_at (map input_of lines) i) (input_is_comment is)
      ∙ ap (λ events. tap_events_so_far lines ++ events) none ∙ append-nil (tap_events_so_far lines)
