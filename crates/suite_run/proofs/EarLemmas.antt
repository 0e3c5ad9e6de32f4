-- What is heard and said of groups of events, one piece after another.
use Rattle.std.proofs.Common.{◌≡◌, ℕ, ◌+◌, ◌%◌, Bool, true, false, List, [], ◌∷◌, ◌++◌, map, length, ◌⊎◌, inl, inr, refl, sym, ◌∙◌, ap, subst, append_assoc, arith}
use Rattle.std.specs.Prelude.{Option, All, Result, Ok, Err, OnOk, OnErr}
use Rattle.std.specs.List.{AllByRecursion, flat_map, filter}
use Rattle.std.proofs.lemmas.List.{append-nil, length-append}
use Rattle.std.proofs.lemmas.List.Concat.{flat_map-append}
use Rattle.std.proofs.lemmas.List.Elements.{filter-append, All-nil, All-cons, All-append, All-head, All-tail}
use Rattle.edge_io.specs.Disk.{Folder}
use Rattle.edge_io.specs.Seen.{Seen}
use Rattle.edge_io.specs.Steps.{Goes, Grown}
use Rattle.live_text.specs.Live.{live_line, live_lines, live_so_far, live_rows, live_end, printed_behind, end_behind_rows, rows_done}
use Rattle.live_text.specs.declared.live.Live.{Live}
use Rattle.live_text.proofs.LiveLemmas.{grows, lines_append, rows_more}
use Rattle.live_text.proofs.WriterLemmas.{count_hidden, count_shown, row_hidden, row_shown}
use Rattle.outcome_fold.specs.Answers.{is_run}
use Rattle.outcome_fold.specs.Rows.{completed_behind, open_rows}
use Rattle.outcome_fold.specs.declared.row.Row.{Row}
use Rattle.packet_codec.specs.Canonical.{canonical, IsEvent, Fits}
use Rattle.packet_codec.specs.Lanes.{joined}
use Rattle.packet_codec.specs.Packets.{ArePackets, ArePacketsOf}
use Rattle.packet_codec.specs.declared.event.Event.{Event}
use Rattle.run_ledger.specs.Writing.{HasHeardEvents}
use Rattle.run_ledger.specs.declared.written_run.WrittenRun.{WrittenRun}
use Rattle.speaker.specs.Speaking.{Takes}
use Rattle.speaker.proofs.TakesLemmas.{none_yet}
use Rattle.suite_run.specs.Aloud.{ArePieces, BeganAloud, Gathered, Gathers, Hears, HearsSince, SaysFirst, SaysSince, SaysUpTo, Sinks, Voices, echoed, voices}
use Rattle.suite_run.specs.declared.run_listener.Echo.{Echo}
use Rattle.suite_run.specs.declared.run_listener.Echo.TheVariants.{Nothing, Packets}
use Rattle.suite_run.specs.declared.run_listener.Said.{Said}
use Rattle.suite_run.specs.declared.run_listener.Shown.{Shown}
use Rattle.suite_run.specs.declared.lines.Hearing.{Hearing}
use Rattle.suite_run.specs.declared.lines.Lines.{Lines}
use Rattle.worker_mux.specs.Callers.{Tape, WasHanded}

-- two facts at Ok make a third
pub both_ok : {T E P Q S : Type 0} (r : Result T E) → (P → Q → S) → OnOk r P → OnOk r Q → OnOk r S
both_ok (Ok x) make p q = make p q
both_ok (Err e) make p q = tt

-- what holds in any case holds at Err
pub always_err : {T E P : Type 0} (r : Result T E) → P → OnErr r P
always_err (Ok x) p = tt
always_err (Err e) p = p

-- ---- lines

-- no row was told
pub gathered_none : (lines : Lines) → Gathered lines lines []
gathered_none lines = record {
  kind = refl;
  text = λ before is. sym (append-nil lines.text.items);
  column = λ before is. is ∙ ap (λ n. n % 70) (plus_none before);
}
  where
    plus_none : (n : ℕ) → n ≡ n + 0
    plus_none n = omega arith

-- the rows that some events complete were told
pub gathers_more : (filter_tags : List (List ℕ)) (kind : Live) (said : List ℕ) (old new : Hearing) (seen events : List Event) → Gathers filter_tags kind said old seen → HasHeardEvents filter_tags new.run (seen ++ events) → Gathered old.lines new.lines ([] ++ completed_behind seen events) → Gathers filter_tags kind said new (seen ++ events)
gathers_more filter_tags kind said old new seen events was folded told =
    let n : ℕ = length (rows_done seen) in
    let rows = completed_behind seen events in
    let count : printed_behind n rows ≡ length (rows_done (seen ++ events)) = sym (length-append (rows_done seen) (filter is_run rows)) ∙ ap length (sym (rows_more seen events)) in
    record {
      folded = folded;
      kind_is = told.kind ∙ was.kind_is;
      column = told.column n was.column ∙ ap (λ m. m % 70) count;
      text =
          ap (λ l. said ++ l) (told.text n was.column)
          ∙ sym (append_assoc said old.lines.text.items (live_rows old.lines.kind n rows))
          ∙ (λ i. was.text i ++ live_rows (was.kind_is i) n rows)
          ∙ sym (grows kind seen events);
    }

lines_push : (kind : Live) (before : ℕ) (rows : List Row) (row : Row) → live_rows kind before (rows ++ row ∷ []) ≡ live_rows kind before rows ++ live_rows kind (printed_behind before rows) (row ∷ [])
lines_push kind before rows row = ap (live_lines kind before) (filter-append is_run rows (row ∷ [])) ∙ lines_append kind before (filter is_run rows) (filter is_run (row ∷ []))

-- a row was told of which nothing is printed
pub gathered_hidden : (begun lines : Lines) (rows : List Row) (row : Row) → is_run row ≡ false → Gathered begun lines rows → Gathered begun lines (rows ++ row ∷ [])
gathered_hidden begun lines rows row hidden told = record {
  kind = told.kind;
  text = λ before is.
      told.text before is
      ∙ ap (λ l. begun.text.items ++ l) (sym (append-nil (live_rows begun.kind before rows)) ∙ ap (λ l. live_rows begun.kind before rows ++ l) (sym (row_hidden begun.kind (printed_behind before rows) row hidden)) ∙ sym (lines_push begun.kind before rows row));
  column = λ before is. told.column before is ∙ ap (λ n. (before + n) % 70) (count_hidden rows row hidden);
}

-- a row was told, and its lines gathered
pub gathered_shown : (begun lines now : Lines) (rows : List Row) (row : Row) → is_run row ≡ true → now.kind ≡ lines.kind → now.text.items ≡ lines.text.items ++ live_line lines.kind lines.column row → ((n : ℕ) → lines.column ≡ n % 70 → now.column ≡ (n + 1) % 70) → Gathered begun lines rows → Gathered begun now (rows ++ row ∷ [])
gathered_shown begun lines now rows row shown kind text column told = record {
  kind = kind ∙ told.kind;
  text = λ before is.
      text
      ∙ (λ i. told.text before is i ++ live_line (told.kind i) (told.column before is i) row)
      ∙ append_assoc begun.text.items (live_rows begun.kind before rows) (live_line begun.kind (printed_behind before rows % 70) row)
      ∙ ap (λ l. begun.text.items ++ l) (ap (λ l. live_rows begun.kind before rows ++ l) (sym (row_shown begun.kind (printed_behind before rows) row shown)) ∙ sym (lines_push begun.kind before rows row));
  column = λ before is.
      let count : length (filter is_run rows) + 1 ≡ length (filter is_run (rows ++ row ∷ [])) = count_shown rows row shown in
      let same : printed_behind before rows + 1 ≡ printed_behind before (rows ++ row ∷ []) = omega (arith, count) in
      column (printed_behind before rows) (told.column before is) ∙ ap (λ n. n % 70) same;
}

-- the rows that are open at the end were told, and the last line ended
pub closed_end : (filter_tags : List (List ℕ)) (kind : Live) (said : List ℕ) (hearing : Hearing) (lines : Lines) (end : List ℕ) (events : List Event) → Gathers filter_tags kind said hearing events → hearing.lines.text.items ≡ []
    → Gathered hearing.lines lines ([] ++ open_rows events) → ((kind : Live) (before : ℕ) → lines.kind ≡ kind → lines.column ≡ before % 70 → end ≡ lines.text.items ++ end_behind_rows kind before) → end ≡ live_end kind (length (rows_done events)) (open_rows events)
closed_end filter_tags kind said hearing lines end events gathers none told ends =
    let n : ℕ = length (rows_done events) in
    let rows = open_rows events in
    ends kind (printed_behind n rows) (told.kind ∙ gathers.kind_is) (told.column n gathers.column)
    ∙ ap (λ l. l ++ end_behind_rows kind (printed_behind n rows)) (told.text n gathers.column ∙ (λ i. none i ++ live_rows (gathers.kind_is i) n rows))

-- ---- groups

joined_last : {A : Type 0} (groups : List (List A)) (group : List A) → joined (groups ++ group ∷ []) ≡ joined groups ++ group
joined_last groups group = flat_map-append (λ list. list) groups (group ∷ []) ∙ ap (λ l. joined groups ++ l) (append-nil group)

-- the last piece is the packets of the last group
last_group : (groups : List (List Event)) (pieces : List (List ℕ)) (piece : List ℕ) → ArePieces groups (pieces ++ piece ∷ []) → (front : List (List Event)) × (last : List Event) × (groups ≡ front ++ last ∷ []) × ArePieces front pieces × ArePacketsOf last piece
last_group [] [] piece pairs = absurd pairs
last_group [] (p ∷ ps) piece pairs = absurd pairs
last_group (g ∷ []) [] piece pairs = ([], g, refl, tt, pairs.0)
last_group (g ∷ h ∷ gs) [] piece pairs = absurd pairs.1
last_group (g ∷ gs) (p ∷ ps) piece pairs =
    let more = last_group gs ps piece pairs.1 in
    (g ∷ more.0, more.1, ap (λ l. g ∷ l) more.2, (pairs.0, more.3), more.4)

-- pieces that are packets are those of some groups
some_groups : (pieces : List (List ℕ)) → AllByRecursion ArePackets pieces → (groups : List (List Event)) × ArePieces groups pieces
some_groups [] are = ([], tt)
some_groups (p ∷ ps) are = let more = some_groups ps are.1 in (are.0.0 ∷ more.0, (are.0.1, more.1))

groups_are : (groups : List (List Event)) (pieces : List (List ℕ)) → ArePieces groups pieces → ArePacketsOf (joined groups) (joined pieces)
groups_are [] [] pairs = record { are_events = All-nil IsEvent; fit = All-nil Fits; packets = refl }
groups_are [] (p ∷ ps) pairs = absurd pairs
groups_are (g ∷ gs) [] pairs = absurd pairs
groups_are (g ∷ gs) (p ∷ ps) pairs =
    let more = groups_are gs ps pairs.1 in
    record {
      are_events = All-append IsEvent g (joined gs) pairs.0.are_events more.are_events;
      fit = All-append Fits g (joined gs) pairs.0.fit more.fit;
      packets = (λ i. pairs.0.packets i ++ more.packets i) ∙ sym (flat_map-append canonical g (joined gs));
    }

-- groups of events are those of their packets
all_front : (P : Event → Type 0) (xs ys : List Event) → All P (xs ++ ys) → All P xs
all_front P [] ys all = All-nil P
all_front P (x ∷ xs) ys all = All-cons P x xs (All-head P x (xs ++ ys) all) (all_front P xs ys (All-tail P x (xs ++ ys) all))

all_back : (P : Event → Type 0) (xs ys : List Event) → All P (xs ++ ys) → All P ys
all_back P [] ys all = all
all_back P (x ∷ xs) ys all = all_back P xs ys (All-tail P x (xs ++ ys) all)

pub own_pieces : (groups : List (List Event)) → All IsEvent (joined groups) → All Fits (joined groups) → ArePieces groups (map (flat_map canonical) groups)
own_pieces [] are fit = tt
own_pieces (g ∷ gs) are fit = (
  record { are_events = all_front IsEvent g (joined gs) are; fit = all_front Fits g (joined gs) fit; packets = refl },
  own_pieces gs (all_back IsEvent g (joined gs) are) (all_back Fits g (joined gs) fit),
)

-- ---- what is heard

echoed_none : (echo : Echo) → echoed echo [] ≡ []
echoed_none Nothing = refl
echoed_none Packets = refl

-- packets were handed on behind those before
pub echo_packets : (echo : Echo) (seen events : List Event) (packets : List ℕ) (start was now : Seen (List ℕ)) (before failed : Bool) → echo ≡ Packets → packets ≡ flat_map canonical events → Takes (echoed echo seen) start was before
    → ((start : Seen (List ℕ)) (said : List ℕ) → Takes said start was before → Takes (said ++ packets) start now failed) → Takes (echoed echo (seen ++ events)) start now failed
echo_packets echo seen events packets start was now before failed is are takes says =
    let here : Takes (flat_map canonical seen) start was before = subst (λ (e : Echo). Takes (echoed e seen) start was before) is takes in
    let all : flat_map canonical seen ++ packets ≡ flat_map canonical (seen ++ events) = ap (λ (l : List ℕ). flat_map canonical seen ++ l) are ∙ sym (flat_map-append canonical seen events) in
    subst (λ (e : Echo). Takes (echoed e (seen ++ events)) start now failed) (sym is) (subst (λ (l : List ℕ). Takes l start now failed) all (says start (flat_map canonical seen) here))

-- what is handed on is what this gets
pub echo_as : (mine echo : Echo) (packets : List ℕ) (was now : Seen (List ℕ)) (before failed : Bool) → mine ≡ echo
    → ((start : Seen (List ℕ)) (seen events : List Event) → packets ≡ flat_map canonical events → Takes (echoed mine seen) start was before → Takes (echoed mine (seen ++ events)) start now failed)
    → (start : Seen (List ℕ)) (seen events : List Event) → packets ≡ flat_map canonical events → Takes (echoed echo seen) start was before → Takes (echoed echo (seen ++ events)) start now failed
echo_as mine echo packets was now before failed is out =
    subst (λ (e : Echo). (start : Seen (List ℕ)) (seen events : List Event) → packets ≡ flat_map canonical events → Takes (echoed e seen) start was before → Takes (echoed e (seen ++ events)) start now failed) is out

-- the text that a sink was to take is this one
pub takes_as : (text same : List ℕ) (was now : Seen (List ℕ)) (before failed : Bool) → text ≡ same → ((start : Seen (List ℕ)) (said : List ℕ) → Takes said start was before → Takes (said ++ text) start now failed) → (start : Seen (List ℕ)) (said : List ℕ) → Takes said start was before → Takes (said ++ same) start now failed
takes_as text same was now before failed is says start said takes = subst (λ (l : List ℕ). Takes (said ++ l) start now failed) is (says start said takes)

-- nothing was heard
pub hears_none : (filter_tags : List (List ℕ)) (shown : Shown) (hearing : Hearing) (before : Sinks) → Gathers filter_tags shown.live [] hearing [] → hearing.lines.text.items ≡ [] → Hears filter_tags shown hearing [] before (voices before.errors before.out false false)
hears_none filter_tags shown hearing before gathers none = record {
  gathers = gathers;
  none = none;
  says = record {
    errors = none_yet before.errors;
    out = subst (λ (l : List ℕ). Takes l before.out before.out false) (sym (echoed_none shown.echo)) (none_yet before.out);
  };
}

module _ (echo : Echo) (begun : Hearing) (first : Voices) where
  pub since_none : (pieces : List (List ℕ)) → pieces ≡ [] → HearsSince echo begun first begun first pieces
  since_none [] is filter_tags shown before [] same hears are = hears
  since_none [] is filter_tags shown before (g ∷ gs) same hears are = absurd are
  since_none (p ∷ ps) is filter_tags shown before groups same hears are = absurd (let never : p ∷ ps ≡ [] = is in cc)

  -- a piece was heard, and its events said
  pub hears_next : (old mid new : Hearing) (was now : Voices) (pieces : List (List ℕ)) (piece : List ℕ) → HearsSince echo begun first old was pieces
      → ((filter_tags : List (List ℕ)) (kind : Live) (said : List ℕ) (seen events : List Event) → ArePacketsOf events piece → Gathers filter_tags kind said old seen → Gathers filter_tags kind said mid (seen ++ events))
      → ((start : Seen (List ℕ)) (said : List ℕ) → Takes said start was.errors was.errors_failed → Takes (said ++ mid.lines.text.items) start now.errors now.errors_failed)
      → new.lines.text.items ≡ [] → new.run ≡ mid.run → new.lines.kind ≡ mid.lines.kind → new.lines.column ≡ mid.lines.column
      → ((start : Seen (List ℕ)) (seen events : List Event) → piece ≡ flat_map canonical events → Takes (echoed echo seen) start was.out was.out_failed → Takes (echoed echo (seen ++ events)) start now.out now.out_failed)
      → HearsSince echo begun first new now (pieces ++ piece ∷ [])
  hears_next old mid new was now pieces piece so_far step errors none run kind column out filter_tags shown before groups same hears are =
      let last = last_group groups pieces piece are in
      let front : List Event = joined last.0 in
      let here : Hears filter_tags shown old front before was = so_far filter_tags shown before last.0 same hears last.3 in
      let mid_has : Gathers filter_tags shown.live (live_so_far shown.live front) mid (front ++ last.1) = step filter_tags shown.live (live_so_far shown.live front) front last.1 last.4 here.gathers in
      let all : joined groups ≡ front ++ last.1 = ap joined last.2 ∙ joined_last last.0 last.1 in
      subst (λ (events : List Event). Hears filter_tags shown new events before now) (sym all) (record {
        gathers = record {
          folded = subst (λ (r : WrittenRun). HasHeardEvents filter_tags r (front ++ last.1)) (sym run) mid_has.folded;
          kind_is = kind ∙ mid_has.kind_is;
          column = column ∙ mid_has.column;
          text = ap (λ l. live_so_far shown.live (front ++ last.1) ++ l) none ∙ append-nil (live_so_far shown.live (front ++ last.1));
        };
        none = none;
        says = record {
          errors = subst (λ (l : List ℕ). Takes l before.errors now.errors now.errors_failed) mid_has.text (errors before.errors (live_so_far shown.live front) here.says.errors);
          out = subst (λ (x : Echo). Takes (echoed x (front ++ last.1)) before.out now.out now.out_failed) (sym same)
              (out before.out front last.1 last.4.packets (subst (λ (x : Echo). Takes (echoed x front) before.out was.out was.out_failed) same here.says.out));
        };
      })

  -- memory was wanted to hear a piece, and its events were not said
  pub keeps_next : (old : Hearing) (was : Voices) (pieces : List (List ℕ)) (piece : List ℕ) → HearsSince echo begun first old was pieces → SaysSince echo begun first was (pieces ++ piece ∷ [])
  keeps_next old was pieces piece so_far filter_tags shown before groups same hears are =
      let last = last_group groups pieces piece are in
      record { front = last.0; others = last.1 ∷ []; parts = last.2; says = (so_far filter_tags shown before last.0 same hears last.3).says }

  -- what was heard was said
  pub all_said : (hearing : Hearing) (now : Voices) (pieces : List (List ℕ)) → HearsSince echo begun first hearing now pieces → SaysSince echo begun first now pieces
  all_said hearing now pieces so_far filter_tags shown before groups same hears are = record {
    front = groups;
    others = [];
    parts = sym (append-nil groups);
    says = (so_far filter_tags shown before groups same hears are).says;
  }

  pub either_said : {A B C D E : Type 0} (hearing : Hearing) (now : Voices) (pieces : List (List ℕ)) → (A × B × C × HearsSince echo begun first hearing now pieces) ⊎ (D × E × SaysSince echo begun first now pieces) → SaysSince echo begun first now pieces
  either_said hearing now pieces (inl heard) = all_said hearing now pieces heard.3
  either_said hearing now pieces (inr kept) = kept.2

  -- of what was added the first events were said
  pub began_aloud : (filter_tags : List (List ℕ)) (shown : Shown) (before after : Sinks) (said : Said) (old : Option Folder) (t : Tape) → shown.echo ≡ echo → Hears filter_tags shown begun [] before first → said.end.items ≡ []
      → WasHanded (SaysSince echo begun first (voices after.errors after.out said.errors_failed said.out_failed)) old t → BeganAloud shown old t.folder.told before after said
  began_aloud filter_tags shown before after said old t same hears no_end handed =
      let some = some_groups handed.pieces handed.packets in
      let are : ArePacketsOf (joined some.0) (joined handed.pieces) = groups_are some.0 handed.pieces some.1 in
      let first_ones = handed.holds filter_tags shown before some.0 same hears some.1 in
      let all : joined some.0 ≡ joined first_ones.front ++ joined first_ones.others = ap joined first_ones.parts ∙ flat_map-append (λ list. list) first_ones.front first_ones.others in
      record {
        events = joined first_ones.front;
        unsaid = joined first_ones.others;
        part = handed.part;
        are_events = subst (All IsEvent) all are.are_events;
        fit = subst (All Fits) all are.fit;
        added = subst (λ (l : List ℕ). Goes old t.folder.told (Grown (l ++ handed.part))) (are.packets ∙ ap (flat_map canonical) all) handed.added;
        says = first_ones.says;
        no_end = no_end;
      }

-- ---- what stays in either case

pub first_of_either : {A B C D E F : Type 0} → (A × B × C × D) ⊎ (A × E × F) → A
first_of_either (inl heard) = heard.0
first_of_either (inr kept) = kept.0

pub second_of_either : {A B C D E F : Type 0} → (A × B × C × D) ⊎ (E × B × F) → B
second_of_either (inl heard) = heard.1
second_of_either (inr kept) = kept.1
