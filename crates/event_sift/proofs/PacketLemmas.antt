-- The packets of the open tests, packet by packet.
use Rattle.std.proofs.Common.{◌≡◌, Bool, true, false, cond, List, [], ◌∷◌, ◌++◌, Option, Some, None, length, map, refl, sym, ◌∙◌, ap}
use Rattle.std.specs.Prelude.{ℕ, IsSomeAnd, option_map}
use Rattle.std.specs.BTreeMap.{is_at}
use Rattle.std.specs.Map.{lookup}
use Rattle.std.specs.FinMap as fin
use Rattle.std.specs.FinMap.{FinMap, same_map, get-insert, get-remove}
use Rattle.std.specs.Ordering.{eq_by_cmp}
use Rattle.std.specs.Cmp.{eq_by_cmp_equiv}
use Rattle.std.specs.List.{flat_map}
use Rattle.std.specs.Option.{unwrap_or}
use Rattle.std.proofs.lemmas.List.{append-nil}
use Rattle.std.proofs.lemmas.List.Folds.{flat_map-map}
use Rattle.std.proofs.lemmas.Grind.{flat_map-append}
use Rattle.packet_codec.specs.declared.event.Event.{Event}
use Rattle.packet_codec.specs.Canonical.{canonical, packets_of}
use Rattle.outcome_fold.specs.declared.row.Ended.{Ended}
use Rattle.outcome_fold.specs.declared.row.Ended.TheVariants as ended
use Rattle.outcome_fold.specs.declared.row.Row.{Row}
use Rattle.outcome_fold.specs.declared.test_key.TestKey.{TestKey}
use Rattle.outcome_fold.specs.declared.part.EndedPart.{EndedPart}
use Rattle.outcome_fold.specs.Order.{test_cmp, table}
use Rattle.outcome_fold.specs.EndedParts.{completed_part, open_parts, part_of_open, row_of_part}
use Rattle.outcome_fold.specs.Parts.{test_of, ended_by, start_of}
use Rattle.outcome_fold.specs.Rows.{completed_row, open_tests, part_with, row_completing, row_of}
use Rattle.outcome_fold.specs.Started.{started_of}
use Rattle.outcome_fold.specs.Folded.{row_at}
use Rattle.outcome_fold.proofs.EndedLemmas.{row_is}
use Rattle.outcome_fold.proofs.OrderLemmas.{tests_total, exact_tests}
use Rattle.outcome_fold.proofs.TableLemmas.{tied_is, get-table, lookup_in_map, none_of_length}
use Rattle.outcome_fold.proofs.StepLemmas.{flat_map_push}
use Rattle.outcome_fold.proofs.CloseLemmas.{table_with}
use Rattle.outcome_fold.specs.TestPackets.{packets_at}
use Rattle.event_sift.specs.declared.held_packets.HeldTest.{HeldTest}
use Rattle.event_sift.specs.Released.{kept_open, part_at, released, released_at_end, released_with}
use Rattle.event_sift.specs.Sifted.{open_part_events}
use Rattle.event_sift.specs.PacketSifted.{begun_at, with_packet, open_packets, packets_if_kept, with_last}
use Rattle.event_sift.proofs.HeldLemmas as held
use Rattle.event_sift.proofs.SiftLemmas as sift

abbrev HeldByTest : Type 0
HeldByTest = FinMap test_cmp (List ℕ)

-- A table, as the calls of the code change it.

gone_at : (b : Bool) (s : List ℕ) (o : Option (List ℕ)) → cond b None (cond b (Some s) o) ≡ cond b None o
gone_at true s o = refl
gone_at false s o = refl

remove_insert : (m : HeldByTest) (t : TestKey) (s : List ℕ) → fin.remove (fin.insert m t s) t ≡ fin.remove m t
remove_insert m t s = same_map tests_total exact_tests _ _ (λ q.
    get-remove tests_total (fin.insert m t s) t q ∙ ap (cond (eq_by_cmp test_cmp q t) None) (get-insert tests_total m t s q)
    ∙ gone_at (eq_by_cmp test_cmp q t) s (fin.get m q) ∙ sym (get-remove tests_total m t q))

again_at : (b : Bool) (p s : List ℕ) (o : Option (List ℕ)) → cond b (Some s) o ≡ cond b (Some s) (cond b (Some p) o)
again_at true p s o = refl
again_at false p s o = refl

insert_again : (m : HeldByTest) (t : TestKey) (p s : List ℕ) → fin.insert m t s ≡ fin.insert (fin.insert m t p) t s
insert_again m t p s = same_map tests_total exact_tests _ _ (λ q.
    get-insert tests_total m t s q ∙ again_at (eq_by_cmp test_cmp q t) p s (fin.get m q)
    ∙ ap (cond (eq_by_cmp test_cmp q t) (Some s)) (sym (get-insert tests_total m t p q))
    ∙ sym (get-insert tests_total (fin.insert m t p) t s q))

back_at : (b : Bool) (s : List ℕ) (o : Option (List ℕ)) → cond b (Some s) (cond b None o) ≡ cond b (Some s) o
back_at true s o = refl
back_at false s o = refl

insert_removed : (m : HeldByTest) (t : TestKey) (s : List ℕ) → fin.insert (fin.remove m t) t s ≡ fin.insert m t s
insert_removed m t s = same_map tests_total exact_tests _ _ (λ q.
    get-insert tests_total (fin.remove m t) t s q ∙ ap (cond (eq_by_cmp test_cmp q t) (Some s)) (get-remove tests_total m t q)
    ∙ back_at (eq_by_cmp test_cmp q t) s (fin.get m q) ∙ sym (get-insert tests_total m t s q))

same_at : (m : HeldByTest) (t q : TestKey) (s : List ℕ) (b : Bool) → eq_by_cmp test_cmp q t ≡ b → fin.get m t ≡ Some s → cond b (Some s) (fin.get m q) ≡ fin.get m q
same_at m t q s true tie is = sym is ∙ ap (fin.get m) (sym (tied_is exact_tests q t tie))
same_at m t q s false tie is = refl

insert_same : (m : HeldByTest) (t : TestKey) (s : List ℕ) → fin.get m t ≡ Some s → fin.insert m t s ≡ m
insert_same m t s is = same_map tests_total exact_tests _ _ (λ q. get-insert tests_total m t s q ∙ same_at m t q s (eq_by_cmp test_cmp q t) refl is)

none_at : (m : HeldByTest) (t q : TestKey) (b : Bool) → eq_by_cmp test_cmp q t ≡ b → fin.get m t ≡ None → cond b None (fin.get m q) ≡ fin.get m q
none_at m t q true tie is = sym is ∙ ap (fin.get m) (sym (tied_is exact_tests q t tie))
none_at m t q false tie is = refl

-- where there is no other test, none is taken out
pub none_removed : (es : List (TestKey × List ℕ)) (t : TestKey) → length es ≡ 0 → fin.from_entries {R = test_cmp} es ≡ fin.remove (fin.from_entries {R = test_cmp} es) t
none_removed es t none =
    let m : HeldByTest = fin.from_entries {R = test_cmp} es in
    let at : fin.get m t ≡ None = sym (lookup_in_map tests_total t es) ∙ ap (lookup (is_at (test_cmp t))) (none_of_length es none) in
    sym (same_map tests_total exact_tests _ _ (λ q. get-remove tests_total m t q ∙ none_at m t q (eq_by_cmp test_cmp q t) refl at))

get_own : (m : HeldByTest) (t : TestKey) (s : List ℕ) → fin.get (fin.insert m t s) t ≡ Some s
get_own m t s = get-insert tests_total m t s t ∙ ap (λ b. cond b (Some s) (fin.get m t)) ((eq_by_cmp_equiv tests_total).refl t)

-- the packets of a test, by what is found of it
pub found_packets : (es : List (TestKey × List ℕ)) (t : TestKey) (o : Option (List ℕ)) → o ≡ lookup (is_at (test_cmp t)) es → unwrap_or o [] ≡ packets_at (fin.from_entries {R = test_cmp} es) t
found_packets es t o is = ap (λ (o : Option (List ℕ)). unwrap_or o []) (is ∙ lookup_in_map tests_total t es)

-- The test that was heard last.

pub test_said : (e : Event) (route : Option (List ℕ)) (id : List ℕ) → Some id ≡ e.id → route ≡ e.route → test_of e ≡ Some (record { route = route; id = id })
test_said e route id some same = sym (λ i. option_map (λ id. record { route = same i; id = id }) (some i))

pub the_last : (last : Option HeldTest) (e : Event) → IsSomeAnd last (λ l. test_of e ≡ Some l.key) → (h : HeldTest) × (last ≡ Some h) × (test_of e ≡ Some h.key)
the_last None e none = absurd none
the_last (Some h) e is = (h, refl, is)

pub last_at : (last : Option HeldTest) (t : TestKey) → IsSomeAnd last (λ l. l.key ≡ t) → (h : HeldTest) × (last ≡ Some h) × (h.key ≡ t)
last_at None t none = absurd none
last_at (Some h) t is = (h, refl, is)

pub last_gone : (last now : Option HeldTest) (others rest : HeldByTest) (found h : HeldTest) → last ≡ Some found → last ≡ Some h → now ≡ None → rest ≡ fin.remove others found.key → with_last now rest ≡ fin.remove (with_last last others) h.key
last_gone last now others rest found h at is none gone =
    let same : found ≡ h = cc in
    ap (λ (l : Option HeldTest). with_last l rest) none ∙ gone ∙ ap (λ (h : HeldTest). fin.remove others h.key) same
    ∙ sym (remove_insert others h.key h.packets) ∙ ap (λ (o : Option HeldTest). fin.remove (with_last o others) h.key) (sym is)

-- a test that was put down is begun again
pub begun_again : (before others rest : HeldByTest) (t : TestKey) (packets : List ℕ) → others ≡ before → packets ≡ packets_at others t → rest ≡ fin.remove others t → fin.insert rest t packets ≡ begun_at before t
begun_again before others rest t packets down taken gone =
    (λ i. fin.insert (gone i) t (taken i)) ∙ insert_removed others t (packets_at others t) ∙ ap (λ (m : HeldByTest). begun_at m t) down

-- a test that was heard last is begun
pub begun_last : (last : Option HeldTest) (others before : HeldByTest) (h : HeldTest) → last ≡ Some h → with_last last others ≡ before → with_last last others ≡ begun_at before h.key
begun_last last others before h is same =
    let m : HeldByTest = with_last last others in
    let at : fin.get m h.key ≡ Some h.packets = ap (λ (l : Option HeldTest). fin.get (with_last l others) h.key) is ∙ get_own others h.key h.packets in
    sym (insert_same m h.key h.packets at) ∙ ap (λ (o : Option (List ℕ)). fin.insert m h.key (unwrap_or o [])) (sym at) ∙ ap (λ (m : HeldByTest). begun_at m h.key) same

module _ (last : Option HeldTest) (others before : HeldByTest) (h : HeldTest) (is : last ≡ Some h) (begun : with_last last others ≡ begun_at before h.key) where
  all_of_last : fin.insert others h.key h.packets ≡ begun_at before h.key
  all_of_last = ap (λ (l : Option HeldTest). with_last l others) (sym is) ∙ begun

  -- its packets are those that were held of it
  pub packets_of_last : h.packets ≡ packets_at before h.key
  packets_of_last = ap (λ (o : Option (List ℕ)). unwrap_or o []) (sym (get_own others h.key h.packets) ∙ ap (λ (m : HeldByTest). fin.get m h.key) all_of_last ∙ get_own before h.key (packets_at before h.key))

  pub last_goes_on : (now : Option HeldTest) (rest : HeldByTest) (packet : List ℕ) → now ≡ Some (with_packet h packet) → rest ≡ others → with_last now rest ≡ fin.insert before h.key (packets_at before h.key ++ packet)
  last_goes_on now rest packet more same =
      (λ i. with_last (more i) (same i)) ∙ insert_again others h.key h.packets (h.packets ++ packet)
      ∙ ap (λ (m : HeldByTest). fin.insert m h.key (h.packets ++ packet)) all_of_last
      ∙ sym (insert_again before h.key (packets_at before h.key) (h.packets ++ packet))
      ∙ ap (λ packets. fin.insert before h.key (packets ++ packet)) packets_of_last

  pub last_ends : (next : HeldByTest) → next ≡ fin.remove (with_last last others) h.key → next ≡ fin.remove before h.key
  last_ends next gone = gone ∙ ap (λ (m : HeldByTest). fin.remove m h.key) begun ∙ remove_insert before h.key (packets_at before h.key)

-- What is held, by the parts of the open tests.

shown_at : (b : Bool) (part : List Event) (o : Option (List Event)) → option_map packets_of (cond b (Some part) o) ≡ cond b (Some (packets_of part)) (option_map packets_of o)
shown_at true part o = refl
shown_at false part o = refl

none_shown_at : (b : Bool) (o : Option (List Event)) → option_map packets_of (cond b None o) ≡ cond b None (option_map packets_of o)
none_shown_at true o = refl
none_shown_at false o = refl

-- the packets of a part are held where the part is
get-open_packets : (seen : List Event) (q : TestKey) → fin.get (open_packets seen) q ≡ option_map packets_of (fin.get (open_part_events seen) q)
get-open_packets seen q =
    get-table tests_total exact_tests (λ test. packets_of (part_at seen test)) (open_tests seen) q ∙ sym (shown_at _ (part_at seen q) None)
    ∙ ap (option_map packets_of) (sym (get-table tests_total exact_tests (part_at seen) (open_tests seen) q))

shown : (o : Option (List Event)) → unwrap_or (option_map packets_of o) [] ≡ packets_of (unwrap_or o [])
shown None = refl
shown (Some part) = refl

packets_are : (seen : List Event) (t : TestKey) → packets_at (open_packets seen) t ≡ packets_of (unwrap_or (fin.get (open_part_events seen) t) [])
packets_are seen t = ap (λ (o : Option (List ℕ)). unwrap_or o []) (get-open_packets seen t) ∙ shown (fin.get (open_part_events seen) t)

-- the packets that are held of a test are those of its last part
packets_of_part : (seen : List Event) (t : TestKey) → packets_at (open_packets seen) t ≡ packets_of (part_at seen t)
packets_of_part seen t = packets_are seen t ∙ ap packets_of (held.part_is seen t)

-- an event without an id changes nothing
pub stays : (seen : List Event) (e : Event) (packets : HeldByTest) → packets ≡ open_packets seen → None ≡ test_of e → packets ≡ open_packets (seen ++ e ∷ [])
stays seen e packets is none = is ∙ same_map tests_total exact_tests _ _ (λ q.
    get-open_packets seen q ∙ ap (λ (m : held.Parts). option_map packets_of (fin.get m q)) (held.stays seen e (open_part_events seen) refl none)
    ∙ sym (get-open_packets (seen ++ e ∷ []) q))

put_shown : (seen next : List Event) (t : TestKey) (part : List Event) → fin.insert (open_part_events seen) t part ≡ open_part_events next → fin.insert (open_packets seen) t (packets_of part) ≡ open_packets next
put_shown seen next t part is = same_map tests_total exact_tests _ _ (λ q.
    get-insert tests_total (open_packets seen) t (packets_of part) q ∙ ap (cond (eq_by_cmp test_cmp q t) (Some (packets_of part))) (get-open_packets seen q)
    ∙ sym (shown_at (eq_by_cmp test_cmp q t) part (fin.get (open_part_events seen) q))
    ∙ ap (option_map packets_of) (sym (get-insert tests_total (open_part_events seen) t part q) ∙ ap (λ (m : held.Parts). fin.get m q) is)
    ∙ sym (get-open_packets next q))

gone_shown : (seen next : List Event) (t : TestKey) → fin.remove (open_part_events seen) t ≡ open_part_events next → fin.remove (open_packets seen) t ≡ open_packets next
gone_shown seen next t is = same_map tests_total exact_tests _ _ (λ q.
    get-remove tests_total (open_packets seen) t q ∙ ap (cond (eq_by_cmp test_cmp q t) None) (get-open_packets seen q)
    ∙ sym (none_shown_at (eq_by_cmp test_cmp q t) (fin.get (open_part_events seen) q))
    ∙ ap (option_map packets_of) (sym (get-remove tests_total (open_part_events seen) t q) ∙ ap (λ (m : held.Parts). fin.get m q) is)
    ∙ sym (get-open_packets next q))

no_end : (t : TestKey) (how : Option Ended) (seen : List Event) (e : Event) → None ≡ row_completing (Some t) how seen e → None ≡ how
no_end t None seen e none = refl
no_end t (Some how) seen e none = absurd cc

an_end : (t : TestKey) (how : Option Ended) (seen : List Event) (e : Event) (row : Row) → Some row ≡ row_completing (Some t) how seen e → (by : Ended) × (Some by ≡ how)
an_end t None seen e row some = absurd cc
an_end t (Some by) seen e row some = (by, refl)

of_test : (seen : List Event) (e : Event) (t : TestKey) (row : Option Row) → test_of e ≡ Some t → row ≡ completed_row seen e → row ≡ row_completing (Some t) (ended_by e.status) seen e
of_test seen e t row test is = is ∙ ap (λ o. row_completing o (ended_by e.status) seen e) test

-- A part gives a row, and what completes none gives none.

pub its_row : (seen : List Event) (e : Event) (part : EndedPart) → ◌≡◌ {A = Option EndedPart} (Some part) (completed_part seen e) → ◌≡◌ {A = Option Row} (Some (row_of_part part)) (completed_row seen e)
its_row seen e part is = row_is seen e (Some part) (Some (row_of_part part)) is refl

pub no_row : (seen : List Event) (e : Event) → ◌≡◌ {A = Option EndedPart} None (completed_part seen e) → ◌≡◌ {A = Option Row} None (completed_row seen e)
no_row seen e is = row_is seen e None None is refl

-- a packet that gives no row is one more of its test's
pub goes_on : (seen : List Event) (e : Event) (t : TestKey) (next : HeldByTest) → test_of e ≡ Some t → None ≡ completed_row seen e → next ≡ fin.insert (open_packets seen) t (packets_at (open_packets seen) t ++ canonical e) → next ≡ open_packets (seen ++ e ∷ [])
goes_on seen e t next test none put =
    let part : List Event = unwrap_or (fin.get (open_part_events seen) t) [] in
    put ∙ ap (λ packets. fin.insert (open_packets seen) t (packets ++ canonical e)) (packets_are seen t)
    ∙ ap (fin.insert (open_packets seen) t) (sym (flat_map_push canonical part e))
    ∙ put_shown seen (seen ++ e ∷ []) t (part ++ e ∷ [])
    (held.goes_on seen e (open_part_events seen) _ t refl (sym test) (no_end t (ended_by e.status) seen e (of_test seen e t None test none)) refl)

-- a packet that gives a row leaves nothing of its test
pub ends : (seen : List Event) (e : Event) (t : TestKey) (row : Row) (next : HeldByTest) → test_of e ≡ Some t → Some row ≡ completed_row seen e → next ≡ fin.remove (open_packets seen) t → next ≡ open_packets (seen ++ e ∷ [])
ends seen e t row next test some gone =
    let end = an_end t (ended_by e.status) seen e row (of_test seen e t (Some row) test some) in
    gone ∙ gone_shown seen (seen ++ e ∷ []) t (held.ends seen e (open_part_events seen) _ t end.0 refl (sym test) end.1 refl)

-- What is released at a packet.

pub at_no_test : (kept : Row → Bool) (seen : List Event) (e : Event) (out now : List ℕ) → None ≡ test_of e → now ≡ out ++ canonical e → now ≡ out ++ packets_of (released kept seen e)
at_no_test kept seen e out now none is =
    is ∙ ap (λ l. out ++ l) (sym (append-nil (canonical e)) ∙ (λ i. packets_of (released_with kept (none i) (completed_row seen e) seen e)))

pub at_going_on : (kept : Row → Bool) (seen : List Event) (e : Event) (t : TestKey) (out : List ℕ) → test_of e ≡ Some t → None ≡ completed_row seen e → out ≡ out ++ packets_of (released kept seen e)
at_going_on kept seen e t out test none =
    sym (append-nil out) ∙ ap (λ l. out ++ l) (λ i. packets_of (released_with kept (sym test i) (none i) seen e))

where_kept : (b : Bool) (part : List Event) (packets : List ℕ) → packets ≡ packets_of part → cond b packets [] ≡ packets_of (cond b part [])
where_kept true part packets is = is
where_kept false part packets is = refl

pub at_ending : (kept : Row → Bool) (seen : List Event) (e : Event) (h : HeldTest) (row : Row) (b : Bool) (out now : List ℕ) → test_of e ≡ Some h.key → Some row ≡ completed_row seen e → h.packets ≡ packets_at (open_packets seen) h.key → b ≡ kept row → now ≡ out ++ cond b (h.packets ++ canonical e) [] → now ≡ out ++ packets_of (released kept seen e)
at_ending kept seen e h row b out now test some own so is =
    let packets : h.packets ++ canonical e ≡ packets_of (part_with h.key seen e) =
    ap (λ packets. packets ++ canonical e) (own ∙ packets_of_part seen h.key) ∙ sym (flat_map_push canonical (part_at seen h.key) e) in
    is ∙ ap (λ l. out ++ l)
    (ap (λ b. cond b (h.packets ++ canonical e) []) so ∙ where_kept (kept row) (part_with h.key seen e) _ packets
    ∙ (λ i. packets_of (released_with kept (sym test i) (some i) seen e)))

-- What is released at the end.

packets_flat : {A : Type 0} (f : A → List Event) (xs : List A) → packets_of (flat_map f xs) ≡ flat_map (λ x. packets_of (f x)) xs
packets_flat f [] = refl
packets_flat f (x ∷ xs) = flat_map-append canonical (f x) (flat_map f xs) ∙ ap (λ l. packets_of (f x) ++ l) (packets_flat f xs)

-- the row of the part of an open test
open_row : (seen : List Event) (t : TestKey) → row_of_part (part_of_open t (started_of (part_at seen t))) ≡ row_of t ended.Open None (part_at seen t)
open_row seen t = ap (λ nanos. row_at t ended.Open nanos (started_of (part_at seen t))) (sift.no_end (start_of (part_at seen t)))

pub at_end : (kept : Row → Bool) (seen : List Event) (packets : HeldByTest) (parts : List EndedPart) → packets ≡ open_packets seen → parts ≡ open_parts seen
    → flat_map (λ part. packets_if_kept kept packets (row_of_part part)) parts ≡ packets_of (released_at_end kept seen)
at_end kept seen packets parts same are =
    let tests : List (TestKey × TestKey) = fin.entries (table {R = test_cmp} (λ test. test) (open_tests seen)) in
    let part : TestKey → EndedPart = λ test. part_of_open test (started_of (part_at seen test)) in
    let gives : EndedPart → List ℕ = λ part. packets_if_kept kept (open_packets seen) (row_of_part part) in
    (λ i. flat_map (λ part. packets_if_kept kept (same i) (row_of_part part)) (are i))
    ∙ ap (λ (es : List (TestKey × EndedPart)). flat_map gives (map (λ e. e.1) es)) (table_with exact_tests (λ test other. part test) tests_total (λ test. test) (open_tests seen))
    ∙ flat_map-map gives (λ (e : TestKey × EndedPart). e.1) (map (λ (e : TestKey × TestKey). (e.0, part e.0)) tests)
    ∙ flat_map-map (λ (e : TestKey × EndedPart). gives e.1) (λ (e : TestKey × TestKey). (e.0, part e.0)) tests
    ∙ (λ i. flat_map (λ (e : TestKey × TestKey). packets_if_kept kept (open_packets seen) (open_row seen e.0 i)) tests)
    ∙ (λ i. flat_map (λ (e : TestKey × TestKey). where_kept (kept (row_of e.0 ended.Open None (part_at seen e.0))) (part_at seen e.0) (packets_at (open_packets seen) e.0) (packets_of_part seen e.0) i) tests)
    ∙ sym (ap (λ (es : List (TestKey × List Event)). packets_of (flat_map (λ part. part) (map (λ e. e.1) es))) (table_with exact_tests (λ test other. kept_open kept seen test) tests_total (λ test. test) (open_tests seen))
    ∙ ap packets_of (flat_map-map (λ (part : List Event). part) (λ (e : TestKey × List Event). e.1) (map (λ (e : TestKey × TestKey). (e.0, kept_open kept seen e.0)) tests)
    ∙ flat_map-map (λ (e : TestKey × List Event). e.1) (λ (e : TestKey × TestKey). (e.0, kept_open kept seen e.0)) tests)
    ∙ packets_flat (λ (e : TestKey × TestKey). kept_open kept seen e.0) tests)
