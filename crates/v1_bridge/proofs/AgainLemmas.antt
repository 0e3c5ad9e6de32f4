-- The lines of one part, read again.
use Rattle.std.proofs.Common.{◌≡◌, inl, ℕ, ◌/◌, ◌%◌, ◌≤◌, ◌<◌, ◌==◌, ◌||◌, nat_lt, true, Option, Some, None, List, [], ◌∷◌, ◌++◌, map, length, refl, sym, ap, subst, ◌∙◌, append_assoc, append-nil, length-append, arith}
use Rattle.std.specs.Prelude.{codes}
use Rattle.std.specs.List.{flat_map, list_all, list_any}
use Rattle.std.proofs.lemmas.Bool.{and_from, and_parts, cond-true, cond-false, le-leb, leb-true, le-ltb, ltb-true, ne_eqb}
use Rattle.std.proofs.lemmas.List.Folds.{list_all-append}
use Rattle.std.proofs.lemmas.List.Concat.{flat_map-append}
use Rattle.packet_codec.specs.declared.stamp.Stamp.{Stamp}
use Rattle.packet_codec.specs.declared.event.Event.{Event}
use Rattle.packet_codec.specs.declared.status.Status.{Status}
use Rattle.outcome_fold.specs.declared.test_key.TestKey.{TestKey}
use Rattle.instants.specs.Calendar.{Day, day_of}
use Rattle.instants.specs.Instants.{Moment, instant_text, day_text, clock_text, six_digits, four_digits, two_digits, last_digit, instant_of}
use Rattle.v1_bridge.specs.declared.part.Part.{Part}
use Rattle.v1_bridge.specs.declared.details_stage.Stage.TheVariants as stage
use Rattle.v1_bridge.specs.Lines.{line_of, time_with, stamp_at}
use Rattle.v1_bridge.specs.TagWords.{is_name, is_utf8_text}
use Rattle.v1_bridge.specs.Writing.{time_line, shown_byte, shown_id, test_begin_line, is_plain, is_line_tag, behind_space, tag_words, v1_tags_line}
use Rattle.v1_bridge.specs.Cutting.{lines_of}
use Rattle.outcome_fold.specs.Order.{in_byte_order}
use Rattle.v1_bridge.specs.Events.{longest_v1_line, line_event, begun_event}
use Rattle.v1_bridge.specs.Reading.{State, LineStep, line, step, step_outside, step_inside, inputs_of, state_behind, events_from, change_own_tags}
use Rattle.v1_bridge.specs.Laws.{is_shown, IsPlainId, ArePlainTags}
use Rattle.v1_bridge.proofs.LineLemmas.{IsShown, with_line_end, first_cut, same_content, one_input, events_then, state_then}
use Rattle.v1_bridge.proofs.TagLemmas.{all_told, all_plain, retagged_is}
use Rattle.v1_bridge.proofs.BlockLemmas.{AreQuiet}

-- where no test is open, and no tag is set
abbrev pub outer : Option Stamp → State
outer last = record { last = last; tags = []; open_test = None }

-- where this test is open
abbrev pub inner : Option Stamp → List ℕ → List (List ℕ) → State
inner last id names = record { last = last; tags = []; open_test = Some (record { id = id; tags = names; details = None }) }

-- where lines of its details stand
abbrev pub among_details : Option Stamp → List ℕ → List (List ℕ) → Status → Part → State
among_details last id names how p = record { last = last; tags = []; open_test = Some (record { id = id; tags = names; details = Some (record { how = how; stage = stage.Lines p }) }) }

abbrev pub test_without_route : List ℕ → TestKey
test_without_route id = record { route = None; id = id }

-- the lines lead from one state to the other, and give these events
pub record LinesLead (s : State) (lines : List (List ℕ)) (given : List Event) (t : State) : Type 0 where
  pub events : events_from s (flat_map inputs_of lines) ≡ given
  pub state : state_behind s (flat_map inputs_of lines) ≡ t

pub runs_none : (s : State) → LinesLead s [] [] s
runs_none s = record { events = refl; state = refl }

pub runs_then : (s t u : State) (xs ys : List (List ℕ)) (given more : List Event) → LinesLead s xs given t → LinesLead t ys more u → LinesLead s (xs ++ ys) (given ++ more) u
runs_then s t u xs ys given more first later =
    let inputs = flat_map-append inputs_of xs ys in
    record {
      events =
          ap (events_from s) inputs ∙ events_then s (flat_map inputs_of xs) (flat_map inputs_of ys)
          ∙ (λ i. first.events i ++ events_from (first.state i) (flat_map inputs_of ys)) ∙ ap (λ l. given ++ l) later.events;
      state = ap (state_behind s) inputs ∙ state_then s (flat_map inputs_of xs) (flat_map inputs_of ys) ∙ ap (λ r. state_behind r (flat_map inputs_of ys)) first.state ∙ later.state;
    }

-- one line that is short enough
pub runs_one : (s t : State) (bytes : List ℕ) (given : List Event) → length bytes ≤ longest_v1_line → step s (line (with_line_end bytes)) ≡ record { given = given; state = t } → LinesLead s (with_line_end bytes ∷ []) given t
runs_one s t bytes given short is =
    let inputs : flat_map inputs_of (with_line_end bytes ∷ []) ≡ line (with_line_end bytes) ∷ [] = append-nil (inputs_of (with_line_end bytes)) ∙ one_input bytes short in
    record {
      events = ap (events_from s) inputs ∙ append-nil (step s (line (with_line_end bytes))).given ∙ ap (λ (r : LineStep). r.given) is;
      state = ap (state_behind s) inputs ∙ ap (λ (r : LineStep). r.state) is;
    }

-- ---- text made of whole lines

-- the lines of the text lead from one state to the other, and give these events
pub record Leads (s : State) (text : List ℕ) (given : List Event) (t : State) : Type 0 where
  pub lines : List (List ℕ)
  pub cut : (rest : List ℕ) → lines_of (text ++ rest) ≡ lines ++ lines_of rest
  pub runs : LinesLead s lines given t

pub leads_none : (s : State) → Leads s [] [] s
leads_none s = record { lines = []; cut = λ rest. refl; runs = runs_none s }

pub leads_then : (s t u : State) (text other : List ℕ) (given more : List Event) → Leads s text given t → Leads t other more u → Leads s (text ++ other) (given ++ more) u
leads_then s t u text other given more first later = record {
  lines = first.lines ++ later.lines;
  cut = λ rest.
      ap lines_of (append_assoc text other rest) ∙ first.cut (other ++ rest) ∙ ap (λ l. first.lines ++ l) (later.cut rest)
      ∙ sym (append_assoc first.lines later.lines (lines_of rest));
  runs = runs_then s t u first.lines later.lines given more first.runs later.runs;
}

pub leads_line : (s t : State) (bytes : List ℕ) (given : List Event) → IsShown bytes → length bytes ≤ longest_v1_line → step s (line (with_line_end bytes)) ≡ record { given = given; state = t } → Leads s (with_line_end bytes) given t
leads_line s t bytes given shown short is = record {
  lines = with_line_end bytes ∷ [];
  cut = λ rest. first_cut bytes rest shown;
  runs = runs_one s t bytes given short is;
}

-- the same text, the same events
pub leads_same : (s t : State) (text other : List ℕ) (given : List Event) → text ≡ other → Leads s text given t → Leads s other given t
leads_same s t text other given is leads = subst (λ (l : List ℕ). Leads s l given t) is leads

-- ---- what is shown

pub shown_both : (xs ys : List ℕ) → IsShown xs → IsShown ys → IsShown (xs ++ ys)
shown_both xs ys first later = list_all-append is_shown xs ys ∙ and_from (list_all is_shown xs) (list_all is_shown ys) first later

shown_digit : (n : ℕ) → is_shown (last_digit n) ≡ true
shown_digit n = le-leb 32 (last_digit n) (omega arith)

shown_two : (n : ℕ) → IsShown (two_digits n)
shown_two n = and_from _ _ (shown_digit (n / 10)) (and_from _ _ (shown_digit n) refl)

shown_day : (d : Day) → IsShown (day_text d)
shown_day d =
    shown_both (four_digits d.year) (codes "-" ++ (two_digits d.month ++ (codes "-" ++ two_digits d.day))) (shown_both (two_digits (d.year / 100)) (two_digits d.year) (shown_two (d.year / 100)) (shown_two d.year))
    (shown_both (codes "-") (two_digits d.month ++ (codes "-" ++ two_digits d.day)) refl
    (shown_both (two_digits d.month) (codes "-" ++ two_digits d.day) (shown_two d.month) (shown_both (codes "-") (two_digits d.day) refl (shown_two d.day))))

shown_clock : (n : ℕ) → IsShown (clock_text n)
shown_clock n =
    shown_both (two_digits (n / 3600)) (codes ":" ++ (two_digits (n / 60 % 60) ++ (codes ":" ++ two_digits (n % 60)))) (shown_two (n / 3600))
    (shown_both (codes ":") (two_digits (n / 60 % 60) ++ (codes ":" ++ two_digits (n % 60))) refl
    (shown_both (two_digits (n / 60 % 60)) (codes ":" ++ two_digits (n % 60)) (shown_two (n / 60 % 60)) (shown_both (codes ":") (two_digits (n % 60)) refl (shown_two (n % 60)))))

shown_six : (n : ℕ) → IsShown (six_digits n)
shown_six n = shown_both (two_digits (n / 10000)) (four_digits n) (shown_two (n / 10000)) (shown_both (two_digits (n / 100)) (two_digits n) (shown_two (n / 100)) (shown_two n))

shown_instant : (n : ℕ) → IsShown (instant_text n)
unfolding instant_text
shown_instant n =
    let day = day_text (day_of (n / 1000000000 / 86400)) in
    let clock = clock_text (n / 1000000000 % 86400) in
    let part = six_digits (n % 1000000000 / 1000) in
    shown_both (day ++ (codes " " ++ clock)) (codes "." ++ part) (shown_both day (codes " " ++ clock) (shown_day (day_of (n / 1000000000 / 86400))) (shown_both (codes " ") clock refl (shown_clock (n / 1000000000 % 86400))))
    (shown_both (codes ".") part refl (shown_six (n % 1000000000 / 1000)))

length_instant : (n : ℕ) → length (instant_text n) ≡ 26
unfolding instant_text
length_instant n = refl

-- ---- lines of time

abbrev time_bytes : ℕ → List ℕ
time_bytes n = codes "time: " ++ instant_text n ++ codes "Z"

time_shown : (n : ℕ) → IsShown (time_bytes n)
time_shown n = shown_both (codes "time: ") (instant_text n ++ codes "Z") refl (shown_both (instant_text n) (codes "Z") (shown_instant n) refl)

time_short : (n : ℕ) → length (time_bytes n) ≤ longest_v1_line
time_short n = omega (arith, length-append (instant_text n) (codes "Z"), length_instant n, length-append (codes "time: ") (instant_text n ++ codes "Z"))

time_is : (n : ℕ) → with_line_end (time_bytes n) ≡ time_line (Some n)
time_is n =
    append_assoc (codes "time: ") (instant_text n ++ codes "Z") (10 ∷ []) ∙ ap (λ (l : List ℕ). codes "time: " ++ l) (append_assoc (instant_text n) (codes "Z") (10 ∷ []))

-- what a line of time is, gives nothing, or an event that speaks of no test
outer_time : (t : TestKey) (last : Option Stamp) (bytes : List ℕ) (m : Option Moment) → (given : List Event) × (now : Option Stamp) × (step_outside (outer last) bytes (time_with m) ≡ record { given = given; state = outer now }) × AreQuiet t given
outer_time t last bytes None = (line_event bytes ∷ [], last, refl, (inl refl, tt))
outer_time t last bytes (Some m) = ([], Some (stamp_at m), refl, tt)

inner_time : (t : TestKey) (last : Option Stamp) (id : List ℕ) (names : List (List ℕ)) (bytes : List ℕ) (m : Option Moment) → (given : List Event) × (now : Option Stamp) × (step_inside (inner last id names) (record { id = id; tags = names; details = None }) bytes (time_with m) ≡ record { given = given; state = inner now id names }) × AreQuiet t given
inner_time t last id names bytes None = (line_event bytes ∷ [], last, refl, (inl refl, tt))
inner_time t last id names bytes (Some m) = ([], Some (stamp_at m), refl, tt)

-- a line where no test is open
pub at_outer : (last : Option Stamp) (bytes : List ℕ) → IsShown bytes → step (outer last) (line (with_line_end bytes)) ≡ step_outside (outer last) bytes (line_of bytes)
at_outer last bytes shown = ap (λ (l : List ℕ). step_outside (outer last) l (line_of l)) (same_content bytes shown)

-- a line within a test
pub at_inner : (last : Option Stamp) (id : List ℕ) (names : List (List ℕ)) (bytes : List ℕ) → IsShown bytes → step (inner last id names) (line (with_line_end bytes)) ≡ step_inside (inner last id names) (record { id = id; tags = names; details = None }) bytes (line_of bytes)
at_inner last id names bytes shown = ap (λ (l : List ℕ). step_inside (inner last id names) (record { id = id; tags = names; details = None }) l (line_of l)) (same_content bytes shown)

pub leads_time_outer : (t : TestKey) (last : Option Stamp) (nanos : Option ℕ) → (given : List Event) × (now : Option Stamp) × Leads (outer last) (time_line nanos) given (outer now) × AreQuiet t given
leads_time_outer t last None = ([], last, leads_none (outer last), tt)
leads_time_outer t last (Some n) =
    let (given, now, is, quiet) = outer_time t last (time_bytes n) (instant_of (instant_text n ++ codes "Z")) in
    (given, now, leads_same (outer last) (outer now) (with_line_end (time_bytes n)) (time_line (Some n)) given (time_is n) (leads_line (outer last) (outer now) (time_bytes n) given (time_shown n) (time_short n) (at_outer last (time_bytes n) (time_shown n) ∙ is)), quiet)

pub leads_time_inner : (t : TestKey) (last : Option Stamp) (id : List ℕ) (names : List (List ℕ)) (nanos : Option ℕ) → (given : List Event) × (now : Option Stamp) × Leads (inner last id names) (time_line nanos) given (inner now id names) × AreQuiet t given
leads_time_inner t last id names None = ([], last, leads_none (inner last id names), tt)
leads_time_inner t last id names (Some n) =
    let (given, now, is, quiet) = inner_time t last id names (time_bytes n) (instant_of (instant_text n ++ codes "Z")) in
    (given, now, leads_same (inner last id names) (inner now id names) (with_line_end (time_bytes n)) (time_line (Some n)) given (time_is n) (leads_line (inner last id names) (inner now id names) (time_bytes n) given (time_shown n) (time_short n) (at_inner last id names (time_bytes n) (time_shown n) ∙ is)), quiet)

-- ---- the line of a test

shown_as_is : (id : List ℕ) → IsShown id → map shown_byte id ≡ id
shown_as_is [] shown = refl
shown_as_is (byte ∷ id) shown =
    let both = and_parts (is_shown byte) (list_all is_shown id) shown in
    (λ i. cond-false (nat_lt byte 32) 63 byte (le-ltb byte 32 (leb-true 32 byte both.0)) i ∷ shown_as_is id both.1 i)

pub id_shown : (id : List ℕ) → IsPlainId id → shown_id id ≡ id
id_shown id plain =
    let some : 0 < length id = ltb-true 0 (length id) (and_parts (nat_lt 0 (length id)) (is_utf8_text id) plain.name).0 in
    cond-false (length id == 0) (codes "?") (map shown_byte id) (ne_eqb (length id) 0 (λ none. absurd (omega (arith, some, none)))) ∙ shown_as_is id plain.shown

pub leads_test : (last : Option Stamp) (id : List ℕ) → IsPlainId id → Leads (outer last) (test_begin_line id) (begun_event last id ∷ []) (inner last id [])
leads_test last id plain =
    let shown : IsShown (codes "test: " ++ id) = shown_both (codes "test: ") id refl plain.shown in
    let text : with_line_end (codes "test: " ++ id) ≡ test_begin_line id = append_assoc (codes "test: ") id (10 ∷ []) ∙ ap (λ (l : List ℕ). codes "test: " ++ l ++ codes "\n") (sym (id_shown id plain)) in
    leads_same (outer last) (inner last id []) (with_line_end (codes "test: " ++ id)) (test_begin_line id) (begun_event last id ∷ []) text
    (leads_line (outer last) (inner last id []) (codes "test: " ++ id) (begun_event last id ∷ []) shown (omega (arith, length-append (codes "test: ") id, plain.short))
    (at_outer last (codes "test: " ++ id) shown ∙ cond-true (is_name id) _ _ plain.name))

-- ---- the line of tags

plain_shown : (byte : ℕ) → is_plain byte ≡ true → is_shown byte ≡ true
plain_shown byte plain = le-leb 32 byte (omega (arith, ltb-true 32 byte plain))

all_shown : (bytes : List ℕ) → list_all is_plain bytes ≡ true → IsShown bytes
all_shown [] plain = refl
all_shown (byte ∷ bytes) plain =
    let both = and_parts (is_plain byte) (list_all is_plain bytes) plain in
    and_from (is_shown byte) (list_all is_shown bytes) (plain_shown byte both.0) (all_shown bytes both.1)

words_shown : (names : List (List ℕ)) → list_all is_line_tag names ≡ true → IsShown (flat_map behind_space names)
words_shown [] forms = refl
words_shown (name ∷ names) forms =
    let both = and_parts (is_line_tag name) (list_all is_line_tag names) forms in
    shown_both (behind_space name) (flat_map behind_space names) (all_shown name (all_plain name both.0)) (words_shown names both.1)

pub leads_tags : (last : Option Stamp) (id : List ℕ) (names : List (List ℕ)) → ArePlainTags names → in_byte_order names ≡ names → Leads (inner last id []) (v1_tags_line names) [] (inner last id names)
leads_tags last id [] plain ordered = leads_none (inner last id [])
leads_tags last id (name ∷ names) plain ordered =
    let words = flat_map behind_space (name ∷ names) in
    let bytes = codes "tags:" ++ words in
    let told : tag_words (name ∷ names) ≡ words = ap (flat_map behind_space) (all_told (name ∷ names) plain.forms) in
    let few : length words ≤ 65001 = subst (λ (l : List ℕ). length l ≤ 65001) told plain.short in
    let shown : IsShown bytes = shown_both (codes "tags:") words refl (words_shown (name ∷ names) plain.forms) in
    let some : list_any is_line_tag (name ∷ names) ≡ true = ap (λ b. b || list_any is_line_tag names) (and_parts (is_line_tag name) (list_all is_line_tag names) plain.forms).0 in
    let text : with_line_end bytes ≡ v1_tags_line (name ∷ names) =
    append_assoc (codes "tags:") words (10 ∷ []) ∙ ap (λ (l : List ℕ). codes "tags:" ++ l ++ codes "\n") (sym told)
    ∙ sym (cond-true (list_any is_line_tag (name ∷ names)) (codes "tags:" ++ tag_words (name ∷ names) ++ codes "\n") [] some) in
    leads_same (inner last id []) (inner last id (name ∷ names)) (with_line_end bytes) (v1_tags_line (name ∷ names)) [] text
    (leads_line (inner last id []) (inner last id (name ∷ names)) bytes [] shown (omega (arith, few, length-append (codes "tags:") words))
    (at_inner last id [] bytes shown
    ∙ ap (change_own_tags (inner last id []) (record { id = id; tags = []; details = None }) bytes) (retagged_is name names plain.forms plain.texts (omega (arith, few)) ordered)))
