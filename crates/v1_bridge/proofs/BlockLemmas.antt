-- The events of one test after another, and the rows that they give.
use Rattle.std.specs.Prelude.{⊤}
use Rattle.std.proofs.Common.{◌≡◌, ◌⊎◌, inl, inr, Bool, true, false, cond, Option, Some, None, is_some, List, [], ◌∷◌, ◌++◌, map, refl, sym, ◌∙◌, ap, subst, append_assoc, append-nil, ℕ}
use Rattle.std.specs.List.{filter, filter_map, flat_map}
use Rattle.std.specs.FinMap as fin
use Rattle.std.specs.FinMap.{put, entries-insert, len-entries, len-empty}
use Rattle.std.specs.declared.cmp.Ordering.{Ordering}
use Rattle.std.specs.Option.{option_map, option_to_list, unwrap_or}
use Rattle.std.specs.Ordering.{eq_by_cmp}
use Rattle.std.specs.Cmp.{eq_by_cmp_equiv}
use Rattle.packet_codec.specs.declared.event.Event.{Event}
use Rattle.outcome_fold.specs.declared.row.Ended.{Ended}
use Rattle.outcome_fold.specs.declared.row.Ended.TheVariants as how
use Rattle.outcome_fold.specs.declared.row.Row.{Row}
use Rattle.outcome_fold.specs.declared.test_key.TestKey.{TestKey}
use Rattle.outcome_fold.specs.Order.{test_cmp, route_cmp, table, in_byte_order}
use Rattle.outcome_fold.specs.Parts.{test_of, speaks_of, events_of_test, ended_by, last_part, last_tags, instant, start_of, elapsed}
use Rattle.outcome_fold.specs.Rows.{row_of, part_with, row_completing, completed_row, completed_behind, is_open, open_rows, is_under, by_route, rows_of, has_events}
use Rattle.outcome_fold.proofs.OrderLemmas.{tests_total, routes_total}
use Rattle.outcome_fold.proofs.TableLemmas.{none_of_length}
use Rattle.outcome_fold.proofs.FoldLemmas.{filter_push, last_part_ends, last_part_goes, part_of_test}
use Rattle.outcome_fold.proofs.StepLemmas.{last_tags_at}
use Rattle.v1_bridge.specs.Laws.{SaidOfRow, said_of}

-- behind these events no test is open
abbrev pub AreClosed : List Event → Type 0
AreClosed seen = (t : TestKey) → part_of_test seen t ≡ []

-- the event speaks of no test, or it goes on with this one, without tags
abbrev pub IsQuiet : TestKey → Event → Type 0
IsQuiet t e = (test_of e ≡ None) ⊎ ((test_of e ≡ Some t) × (ended_by e.status ≡ None) × (e.tags ≡ None))

abbrev pub AreQuiet : TestKey → List Event → Type 0
AreQuiet t [] = ⊤
AreQuiet t (e ∷ es) = IsQuiet t e × AreQuiet t es

pub quiet_then : (t : TestKey) (xs ys : List Event) → AreQuiet t xs → AreQuiet t ys → AreQuiet t (xs ++ ys)
quiet_then t [] ys first later = later
quiet_then t (x ∷ xs) ys first later = (first.0, quiet_then t xs ys first.1 later)

-- behind these events no other test is open, and this one has no tags
record TestGoesOn (t : TestKey) (seen : List Event) : Type 0 where
  others : (q : TestKey) → eq_by_cmp test_cmp q t ≡ false → part_of_test seen q ≡ []
  tags : last_tags (part_of_test seen t) ≡ []

begun : (t : TestKey) (seen : List Event) → AreClosed seen → TestGoesOn t seen
begun t seen closed = record { others = λ q not. closed q; tags = ap last_tags (closed t) }

spoken : (q : TestKey) (seen : List Event) (e : Event) (b : Bool) → speaks_of q (test_of e) ≡ b → events_of_test q (seen ++ e ∷ []) ≡ events_of_test q seen ++ cond b (e ∷ []) []
spoken q seen e b is = filter_push (λ e. speaks_of q (test_of e)) seen e ∙ ap (λ b. events_of_test q seen ++ cond b (e ∷ []) []) is

not_spoken : (q : TestKey) (seen : List Event) (e : Event) → speaks_of q (test_of e) ≡ false → events_of_test q (seen ++ e ∷ []) ≡ events_of_test q seen
not_spoken q seen e is = spoken q seen e false is ∙ append-nil (events_of_test q seen)

goes_on : (t : TestKey) (seen : List Event) (e : Event) → IsQuiet t e → TestGoesOn t seen → TestGoesOn t (seen ++ e ∷ [])
goes_on t seen e (inl none) h = record {
  others = λ q not. ap last_part (not_spoken q seen e (ap (speaks_of q) none)) ∙ h.others q not;
  tags = ap (λ es. last_tags (last_part es)) (not_spoken t seen e (ap (speaks_of t) none)) ∙ h.tags;
}
goes_on t seen e (inr (test, goes, no_tags)) h = record {
  others = λ q not. ap last_part (not_spoken q seen e (ap (speaks_of q) test ∙ not)) ∙ h.others q not;
  tags =
      ap (λ es. last_tags (last_part es)) (spoken t seen e true (ap (speaks_of t) test ∙ (eq_by_cmp_equiv tests_total).refl t))
      ∙ ap last_tags (last_part_goes (events_of_test t seen) e (ap is_some goes))
      ∙ last_tags_at None (part_of_test seen t) e no_tags ∙ h.tags;
}

no_row : (t : TestKey) (seen : List Event) (e : Event) → IsQuiet t e → completed_row seen e ≡ None
no_row t seen e (inl none) = ap (λ t. row_completing t (ended_by e.status) seen e) none
no_row t seen e (inr (test, goes, no_tags)) = λ i. row_completing (test i) (goes i) seen e

-- quiet events complete no row
quiet_rows : (t : TestKey) (seen es rest : List Event) → AreQuiet t es → TestGoesOn t seen → (completed_behind seen (es ++ rest) ≡ completed_behind (seen ++ es) rest) × TestGoesOn t (seen ++ es)
quiet_rows t seen [] rest quiet h = (ap (λ s. completed_behind s rest) (sym (append-nil seen)), subst (TestGoesOn t) (sym (append-nil seen)) h)
quiet_rows t seen (e ∷ es) rest quiet h =
    let later = quiet_rows t (seen ++ e ∷ []) es rest quiet.1 (goes_on t seen e quiet.0 h) in
    let joined : (seen ++ e ∷ []) ++ es ≡ seen ++ e ∷ es = append_assoc seen (e ∷ []) es in (
      ap (λ o. option_to_list o ++ completed_behind (seen ++ e ∷ []) (es ++ rest)) (no_row t seen e quiet.0) ∙ later.0 ∙ ap (λ s. completed_behind s rest) joined,
      subst (TestGoesOn t) joined later.1,
    )

-- the events of one test: quiet ones, and one that completes it
pub record IsToldAs (told : SaidOfRow) (events : List Event) : Type 0 where
  pub test : TestKey
  pub front : List Event
  pub last : Event
  pub joined : events ≡ front ++ last ∷ []
  pub quiet : AreQuiet test front
  pub speaks : test_of last ≡ Some test
  pub ends : ended_by last.status ≡ Some told.ended
  pub no_route : test.route ≡ None
  pub id : test.id ≡ told.id
  pub tags : in_byte_order (unwrap_or last.tags []) ≡ told.tags

-- the row that an event completes
abbrev row_at : TestKey → Ended → List Event → Event → Row
row_at t end seen e = row_of t end (elapsed (start_of (part_with t seen e)) (option_map instant e.stamp)) (part_with t seen e)

last_row : (t : TestKey) (end : Ended) (seen : List Event) (e : Event) → test_of e ≡ Some t → ended_by e.status ≡ Some end → completed_row seen e ≡ Some (row_at t end seen e)
last_row t end seen e test ends = λ i. row_completing (test i) (ends i) seen e

row_tags : (t : TestKey) (seen : List Event) (e : Event) → TestGoesOn t seen → last_tags (part_with t seen e) ≡ unwrap_or e.tags []
row_tags t seen e h = last_tags_at e.tags (part_of_test seen t) e refl ∙ ap (unwrap_or e.tags) h.tags

closed_behind : (t : TestKey) (end : Ended) (seen : List Event) (e : Event) → TestGoesOn t seen → test_of e ≡ Some t → ended_by e.status ≡ Some end → AreClosed (seen ++ e ∷ [])
closed_behind t end seen e h test ends q = by_case (eq_by_cmp test_cmp q t) refl
  where
    by_case : (b : Bool) → eq_by_cmp test_cmp q t ≡ b → part_of_test (seen ++ e ∷ []) q ≡ []
    by_case true is = ap last_part (spoken q seen e true (ap (speaks_of q) test ∙ is)) ∙ last_part_ends (events_of_test q seen) e (ap is_some ends)
    by_case false is = ap last_part (not_spoken q seen e (ap (speaks_of q) test ∙ is)) ∙ h.others q is

record IsRowOf (told : SaidOfRow) (row : Row) : Type 0 where
  said : said_of row ≡ told
  no_route : row.route ≡ None

-- the events of one test give one row
one_block : (told : SaidOfRow) (seen events rest : List Event) → AreClosed seen → IsToldAs told events → (row : Row) × (completed_behind seen (events ++ rest) ≡ row ∷ completed_behind (seen ++ events) rest) × IsRowOf told row × AreClosed (seen ++ events)
one_block told seen events rest closed b =
    let before = quiet_rows b.test seen b.front (b.last ∷ rest) b.quiet (begun b.test seen closed) in
    let inner = seen ++ b.front in
    let row = row_at b.test told.ended inner b.last in
    let all : inner ++ b.last ∷ [] ≡ seen ++ events = append_assoc seen b.front (b.last ∷ []) ∙ ap (λ l. seen ++ l) (sym b.joined) in
    let cut : completed_behind seen (events ++ rest) ≡ completed_behind seen (b.front ++ b.last ∷ rest) =
    ap (λ l. completed_behind seen (l ++ rest)) b.joined ∙ ap (completed_behind seen) (append_assoc b.front (b.last ∷ []) rest) in (
      row,
      cut ∙ before.0
          ∙ ap (λ o. option_to_list o ++ completed_behind (inner ++ b.last ∷ []) rest) (last_row b.test told.ended inner b.last b.speaks b.ends)
          ∙ ap (λ s. row ∷ completed_behind s rest) all,
      record {
        said = λ i. record { id = b.id i; tags = (ap in_byte_order (row_tags b.test inner b.last before.1) ∙ b.tags) i; ended = told.ended };
        no_route = b.no_route;
      },
      subst AreClosed all (closed_behind b.test told.ended inner b.last before.1 b.speaks b.ends),
    )

-- the events of several tests, one after another
abbrev pub AreToldAs : List SaidOfRow → List Event → Type 0
AreToldAs [] events = events ≡ []
AreToldAs (told ∷ others) events = (front rest : List Event) × (events ≡ front ++ rest) × IsToldAs told front × AreToldAs others rest

abbrev HaveNoRoute : List Row → Type 0
HaveNoRoute [] = ⊤
HaveNoRoute (row ∷ rows) = (row.route ≡ None) × HaveNoRoute rows

blocks : (sayings : List SaidOfRow) (seen events : List Event) → AreClosed seen → AreToldAs sayings events
    → (map said_of (completed_behind seen events) ≡ sayings) × HaveNoRoute (completed_behind seen events) × AreClosed (seen ++ events)
blocks [] seen events closed none =
    let rows : completed_behind seen events ≡ [] = ap (completed_behind seen) none in (
      ap (map said_of) rows,
      subst HaveNoRoute (sym rows) tt,
      subst AreClosed (sym (ap (λ l. seen ++ l) none ∙ append-nil seen)) closed,
    )
blocks (told ∷ others) seen events closed (front, rest, joined, this, later) =
    let (row, is, of, ended) = one_block told seen front rest closed this in
    let behind = blocks others (seen ++ front) rest ended later in
    let rows : completed_behind seen events ≡ row ∷ completed_behind (seen ++ front) rest = ap (completed_behind seen) joined ∙ is in
    let all : (seen ++ front) ++ rest ≡ seen ++ events = append_assoc seen front rest ∙ ap (λ l. seen ++ l) (sym joined) in (
      ap (map said_of) rows ∙ (λ i. of.said i ∷ behind.0 i),
      subst HaveNoRoute (sym rows) (of.no_route, behind.1),
      subst AreClosed all behind.2,
    )

-- no test is open at the end
none_open : (seen : List Event) → AreClosed seen → (tests : List TestKey) → filter (is_open seen) tests ≡ []
none_open seen closed [] = refl
none_open seen closed (t ∷ tests) = ap (λ b. cond b (t ∷ filter (is_open seen) tests) (filter (is_open seen) tests)) (ap has_events (closed t)) ∙ none_open seen closed tests

no_entries : (K V : Type 0) (R : K → K → Ordering) → ◌≡◌ {A = List (K × V)} (fin.entries (fin.empty {X = V} {R = R})) []
no_entries K V R = none_of_length (fin.entries (fin.empty {X = V} {R = R})) (sym (len-entries (fin.empty {X = V} {R = R})) ∙ len-empty R V)

no_open_rows : (seen : List Event) → AreClosed seen → open_rows seen ≡ []
no_open_rows seen closed =
    ap (λ tests. fin.values (table {R = test_cmp} (λ test. row_of test how.Open None (last_part (events_of_test test seen))) tests)) (none_open seen closed (filter_map test_of seen))
    ∙ ap (map (λ (e : TestKey × Row). e.1)) (no_entries TestKey Row test_cmp)

-- rows without a route are one group
module _ (f : Option (List ℕ) → List Row) where
  one_entry : (rows : List Row) (row : Row) → HaveNoRoute (row ∷ rows) → fin.entries (table {R = route_cmp} f (map (λ row. row.route) (row ∷ rows))) ≡ (None, f None) ∷ []
  one_entry [] row none =
      ap (λ r. fin.entries (fin.insert (fin.empty {X = List Row} {R = route_cmp}) r (f r))) none.0
      ∙ entries-insert routes_total fin.empty None (f None) ∙ ap (put route_cmp None (f None)) (no_entries (Option (List ℕ)) (List Row) route_cmp)
  one_entry (next ∷ rows) row none =
      ap (λ r. fin.entries (fin.insert (table {R = route_cmp} f (map (λ row. row.route) (next ∷ rows))) r (f r))) none.0
      ∙ entries-insert routes_total (table f (map (λ row. row.route) (next ∷ rows))) None (f None)
      ∙ ap (put route_cmp None (f None)) (one_entry rows next none.1)

all_under : (rows : List Row) → HaveNoRoute rows → filter (is_under None) rows ≡ rows
all_under [] none = refl
all_under (row ∷ rows) none = ap (λ r. cond (eq_by_cmp route_cmp None r) (row ∷ filter (is_under None) rows) (filter (is_under None) rows)) none.0 ∙ ap (λ l. row ∷ l) (all_under rows none.1)

as_they_are : (rows : List Row) → HaveNoRoute rows → by_route rows ≡ rows
as_they_are [] none = ap (λ (es : List (Option (List ℕ) × List Row)). flat_map (λ (group : List Row). group) (map (λ (e : Option (List ℕ) × List Row). e.1) es)) (no_entries (Option (List ℕ)) (List Row) route_cmp)
as_they_are (row ∷ rows) none =
    ap (λ (es : List (Option (List ℕ) × List Row)). flat_map (λ (group : List Row). group) (map (λ (e : Option (List ℕ) × List Row). e.1) es)) (one_entry (λ route. filter (is_under route) (row ∷ rows)) rows row none)
    ∙ append-nil (filter (is_under None) (row ∷ rows)) ∙ all_under (row ∷ rows) none

-- the rows of the events of several tests, one after another
pub rows_told : (sayings : List SaidOfRow) (events : List Event) → AreToldAs sayings events → map said_of (rows_of events) ≡ sayings
rows_told sayings events told =
    let all = blocks sayings [] events (λ t. refl) told in
    ap (λ others. map said_of (by_route (completed_behind [] events ++ others))) (no_open_rows events all.2)
    ∙ ap (λ rows. map said_of (by_route rows)) (append-nil (completed_behind [] events))
    ∙ ap (map said_of) (as_they_are (completed_behind [] events) all.1) ∙ all.0
