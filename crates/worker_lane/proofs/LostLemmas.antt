-- Which tests are lost behind some events, and which ids are named then.
use Rattle.std.proofs.Common.{◌≡◌, ℕ, zero, suc, Bool, true, false, ◌&&◌, ◌||◌, not, cond, List, [], ◌∷◌, ◌++◌, refl, sym, ◌∙◌, ap, append_assoc}
use Rattle.std.specs.Prelude.{pos, negsuc}
use Rattle.std.specs.List.{AllByRecursion, filter, list_any}
use Rattle.std.specs.Ordering.{eq_by_cmp}
use Rattle.std.proofs.lemmas.Cmp.{eq_by_cmp_equiv}
use Rattle.std.proofs.lemmas.List.Folds.{list_any-append}
use Rattle.packet_codec.specs.declared.event.Event.{Event}
use Rattle.packet_codec.specs.Routing.{under}
use Rattle.outcome_fold.specs.Order.{text_cmp}
use Rattle.outcome_fold.proofs.OrderLemmas.{texts_total}
use Rattle.worker_lane.specs.Endings.{ending_events}
use Rattle.worker_lane.specs.Lost.{is_exists, is_of_id, says_of, is_unheard, lost_ids, lost_event, lost_under, lost_events}
use Rattle.worker_lane.specs.Rest.{last_events}
use Rattle.worker_lane.specs.declared.lot.Ending.{Ending}
use Rattle.worker_lane.specs.declared.lot.Ending.TheVariants.{Exit, Fault, NoMemory}

or_split : (a b : Bool) (id : List ℕ) (kept rest : List (List ℕ)) → kept ≡ rest → cond (not (a || b)) (id ∷ kept) kept ≡ cond (not a) (cond (not b) (id ∷ rest) rest) rest
or_split true b id kept rest same = same
or_split false true id kept rest same = same
or_split false false id kept rest same = ap (λ l. id ∷ l) same

filter_cond : (more : List Event) (a : Bool) (id : List ℕ) (rest : List (List ℕ)) → cond a (filter (is_unheard more) (id ∷ rest)) (filter (is_unheard more) rest) ≡ filter (is_unheard more) (cond a (id ∷ rest) rest)
filter_cond more true id rest = refl
filter_cond more false id rest = refl

pub in_turn : (ids : List (List ℕ)) (front more : List Event) → lost_ids ids (front ++ more) ≡ lost_ids (lost_ids ids front) more
in_turn [] front more = refl
in_turn (id ∷ ids) front more =
    ap (λ b. cond (not b) (id ∷ lost_ids ids (front ++ more)) (lost_ids ids (front ++ more))) (list_any-append (says_of id) front more)
    ∙ or_split (list_any (says_of id) front) (list_any (says_of id) more) id (lost_ids ids (front ++ more)) (lost_ids (lost_ids ids front) more) (in_turn ids front more)
    ∙ filter_cond more (not (list_any (says_of id) front)) id (lost_ids ids front)

-- behind no events all are lost
pub all_lost : (ids : List (List ℕ)) → lost_ids ids [] ≡ ids
all_lost [] = refl
all_lost (id ∷ ids) = ap (λ l. id ∷ l) (all_lost ids)

-- of an ending of which nothing is recorded
pub none_recorded : (lane : ℕ) (how : Ending) (ids : List (List ℕ)) → ((id : List ℕ) → lost_under lane how id ≡ []) → lost_events lane how ids ≡ []
none_recorded lane how [] none = refl
none_recorded lane how (id ∷ ids) none = ap (λ (l : List Event). l ++ lost_events lane how ids) (none id) ∙ none_recorded lane how ids none

both_first : (a b : Bool) → (a && b) ≡ true → a ≡ true
both_first true b is = refl
both_first false b is = is

or_last : (b : Bool) → (b || true) ≡ true
or_last true = refl
or_last false = refl

names_first : (id : List ℕ) (e : Event) (es : List Event) (b : Bool) → says_of id e ≡ b → (b || list_any (says_of id) es) ≡ true → (list_any (says_of id) es ≡ true → list_any (is_of_id id) es ≡ true) → (is_of_id id e || list_any (is_of_id id) es) ≡ true
names_first id e es true says is rest = ap (λ b. b || list_any (is_of_id id) es) (both_first (is_of_id id e) (not (is_exists e.status)) says)
names_first id e es false says is rest = ap (λ b. is_of_id id e || b) (rest is) ∙ or_last (is_of_id id e)

-- who says more of an id names it
named_by : (id : List ℕ) (events : List Event) → list_any (says_of id) events ≡ true → list_any (is_of_id id) events ≡ true
named_by id [] is = is
named_by id (e ∷ es) is = names_first id e es (says_of id e) refl is (named_by id es)

-- one of the first, or one of the last
in_front : (id : List ℕ) (xs ys : List Event) → list_any (is_of_id id) xs ≡ true → list_any (is_of_id id) (xs ++ ys) ≡ true
in_front id xs ys is = list_any-append (is_of_id id) xs ys ∙ ap (λ b. b || list_any (is_of_id id) ys) is

behind : (id : List ℕ) (xs ys : List Event) → list_any (is_of_id id) ys ≡ true → list_any (is_of_id id) (xs ++ ys) ≡ true
behind id xs ys is = list_any-append (is_of_id id) xs ys ∙ ap (λ b. list_any (is_of_id id) xs || b) is ∙ or_last (list_any (is_of_id id) xs)

-- what is recorded of each id that is lost
abbrev pub RecordsEach : ℕ → Ending → Type 0
RecordsEach lane how = (id : List ℕ) → lost_under lane how id ≡ under lane (lost_event id) ∷ []

same_text : (id : List ℕ) → eq_by_cmp text_cmp id id ≡ true
same_text id = (eq_by_cmp_equiv texts_total).refl id

named_own : (lane : ℕ) (how : Ending) (id : List ℕ) (rest : List (List ℕ)) → RecordsEach lane how → list_any (is_of_id id) (lost_events lane how (id ∷ rest)) ≡ true
named_own lane how id rest each =
    in_front id (lost_under lane how id) (lost_events lane how rest) (ap (list_any (is_of_id id)) (each id) ∙ ap (λ b. b || false) (same_text id))

head_named : (lane : ℕ) (how : Ending) (events : List Event) (id : List ℕ) (rest : List (List ℕ)) (b : Bool) → list_any (says_of id) events ≡ b → RecordsEach lane how → list_any (is_of_id id) (events ++ lost_events lane how (cond (not b) (id ∷ rest) rest)) ≡ true
head_named lane how events id rest true says each = in_front id events (lost_events lane how rest) (named_by id events says)
head_named lane how events id rest false says each = behind id events (lost_events lane how (id ∷ rest)) (named_own lane how id rest each)

-- one id more that is lost takes no name away
or_wider : (a b c : Bool) → (a || b) ≡ true → (a || (c || b)) ≡ true
or_wider true b c is = refl
or_wider false b true is = refl
or_wider false b false is = is

wider : (lane : ℕ) (how : Ending) (events : List Event) (id other : List ℕ) (rest : List (List ℕ)) (b : Bool) → list_any (is_of_id other) (events ++ lost_events lane how rest) ≡ true → list_any (is_of_id other) (events ++ lost_events lane how (cond (not b) (id ∷ rest) rest)) ≡ true
wider lane how events id other rest true is = is
wider lane how events id other rest false is =
    list_any-append (is_of_id other) events (lost_events lane how (id ∷ rest))
    ∙ ap (λ b. list_any (is_of_id other) events || b) (list_any-append (is_of_id other) (lost_under lane how id) (lost_events lane how rest))
    ∙ or_wider (list_any (is_of_id other) events) (list_any (is_of_id other) (lost_events lane how rest)) (list_any (is_of_id other) (lost_under lane how id))
    (sym (list_any-append (is_of_id other) events (lost_events lane how rest)) ∙ is)

all_wider : (lane : ℕ) (how : Ending) (events : List Event) (id : List ℕ) (rest others : List (List ℕ)) (b : Bool) → AllByRecursion (λ other. list_any (is_of_id other) (events ++ lost_events lane how rest) ≡ true) others → AllByRecursion (λ other. list_any (is_of_id other) (events ++ lost_events lane how (cond (not b) (id ∷ rest) rest)) ≡ true) others
all_wider lane how events id rest [] b all = tt
all_wider lane how events id rest (other ∷ others) b all = (wider lane how events id other rest b all.0, all_wider lane how events id rest others b all.1)

each_named : (lane : ℕ) (how : Ending) (ids : List (List ℕ)) (events : List Event) → RecordsEach lane how → AllByRecursion (λ id. list_any (is_of_id id) (events ++ lost_events lane how (lost_ids ids events)) ≡ true) ids
each_named lane how [] events each = tt
each_named lane how (id ∷ ids) events each = (
  head_named lane how events id (lost_ids ids events) (list_any (says_of id) events) refl each,
  all_wider lane how events id (lost_ids ids events) ids (list_any (says_of id) events) (each_named lane how ids events each),
)

-- the event of the end takes no name away
with_end : (lane : ℕ) (how : Ending) (ids : List (List ℕ)) (events lost : List Event) → AllByRecursion (λ id. list_any (is_of_id id) (events ++ lost) ≡ true) ids → AllByRecursion (λ id. list_any (is_of_id id) (events ++ (lost ++ ending_events lane how)) ≡ true) ids
with_end lane how [] events lost all = tt
with_end lane how (id ∷ ids) events lost all = (
  ap (list_any (is_of_id id)) (sym (append_assoc events lost (ending_events lane how))) ∙ in_front id (events ++ lost) (ending_events lane how) all.0,
  with_end lane how ids events lost all.1,
)

records_each : (lane : ℕ) (how : Ending) → (how ≡ Exit (pos 0) → ⊥) → (how ≡ NoMemory → ⊥) → RecordsEach lane how
records_each lane (Exit (pos zero)) other memory id = absurd (other refl)
records_each lane (Exit (pos (suc n))) other memory id = refl
records_each lane (Exit (negsuc n)) other memory id = refl
records_each lane Fault other memory id = refl
records_each lane NoMemory other memory id = absurd (memory refl)

pub named : (lane : ℕ) (ids : List (List ℕ)) (events : List Event) (how : Ending) → (how ≡ Exit (pos 0) → ⊥) → (how ≡ NoMemory → ⊥) → AllByRecursion (λ id. list_any (is_of_id id) (events ++ last_events lane ids events how) ≡ true) ids
named lane ids events how other memory = with_end lane how ids events (lost_events lane how (lost_ids ids events)) (each_named lane how ids events (records_each lane how other memory))
