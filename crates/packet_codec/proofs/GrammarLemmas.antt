-- Of two spellings at the front of one list of bytes neither is longer, and they spell one value.
use Rattle.std.proofs.Common.{◌≡◌, ℕ, ◌+◌, ◌/◌, Bool, true, false, Option, Some, None, List, [], ◌++◌, length, get_or, take, drop, refl, inl, inr, sym, ap, ◌∙◌, append_assoc, arith}
use Rattle.std.proofs.lemmas.List.{take_at, drop_at, get_or_append_left, get_or-append-add, get_or_past}
use Rattle.std.proofs.lemmas.Bool.{cases_lt}
use Rattle.sub_number.specs.Numbers.{SpellsNumber}
use Rattle.sub_number.proofs.NumberLemmas.{AreBytes, length_from_first}
use Rattle.packet_codec.specs.Grammar as grammar
use Rattle.packet_codec.specs.Grammar.{SpellsFront, NotFound, Pair, Counted, Flagged}

-- by index, as a slice of bytes tells it
pub fits_from_are : (bytes : List ℕ) → grammar.AreBytes bytes → AreBytes bytes
fits_from_are bytes are i = elim (cases_lt i (length bytes)) [
  | inl below ↦ omega (arith, are i 0 below)
  | inr past ↦ rw (get_or_past bytes i 0 past) (omega arith)
]

pub are_front : (front rest : List ℕ) → AreBytes (front ++ rest) → AreBytes front
are_front front rest are i = elim (cases_lt i (length front)) [
  | inl below ↦ rw (← get_or_append_left front rest 0 i below) (are i)
  | inr past ↦ rw (get_or_past front i 0 past) (omega arith)
]

pub are_rest : (front rest : List ℕ) → AreBytes (front ++ rest) → AreBytes rest
are_rest front rest are i = rw (← get_or-append-add front rest i 0) (are (length front + i))

-- fronts of one length are one
pub same_front : (f r f' r' : List ℕ) → f ++ r ≡ f' ++ r' → length f ≡ length f' → (f ≡ f') × (r ≡ r')
same_front f r f' r' e len =
    (sym (take_at f r (length f) refl) ∙ ap (take (length f)) e ∙ take_at f' r' (length f) (sym len), sym (drop_at f r (length f) refl) ∙ ap (drop (length f)) e ∙ drop_at f' r' (length f) (sym len))

-- two spellings, one of which is shorter or as long
pub record Same {A : Type 0} (f r f' r' : List ℕ) (a a' : A) : Type 0 where
  pub front : f ≡ f'
  pub rest : r ≡ r'
  pub value : a ≡ a'

abbrev pub IsPrefixFree : {A : Type 0} → (List ℕ → A → Type 0) → Type 0
IsPrefixFree {A} Spells = (f r f' r' : List ℕ) (a a' : A) → AreBytes f → AreBytes f' → f ++ r ≡ f' ++ r' → Spells f a → Spells f' a' → Same f r f' r' a a'

-- where the values have one size
abbrev pub IsPrefixFreeBySize : {A : Type 0} → (A → ℕ) → (List ℕ → A → Type 0) → Type 0
IsPrefixFreeBySize {A} size Spells = (f r f' r' : List ℕ) (a a' : A) → size a ≡ size a' → AreBytes f → AreBytes f' → f ++ r ≡ f' ++ r' → Spells f a → Spells f' a' → Same f r f' r' a a'

pub number_free : IsPrefixFree SpellsNumber
number_free f r f' r' a a' are are' e s s' =
    let first : get_or f 0 0 ≡ get_or f' 0 0 = sym (get_or_append_left f r 0 0 s.some) ∙ ap (λ (l : List ℕ). get_or l 0 0) e ∙ get_or_append_left f' r' 0 0 s'.some in
    let len : length f ≡ length f' = length_from_first f a are s ∙ ap (λ (n : ℕ). n / 64 + 1) first ∙ sym (length_from_first f' a' are' s') in
    let both = same_front f r f' r' e len in
    let t : SpellsNumber f a' = rw (both.0) s' in
    record { front = both.0; rest = both.1; value = omega (arith, s.digits, t.digits) }

pub regroup : (bytes first second rest whole : List ℕ) → bytes ≡ first ++ second → whole ≡ bytes ++ rest → whole ≡ first ++ (second ++ rest)
regroup bytes first second rest whole e w = w ∙ ap (λ (l : List ℕ). l ++ rest) e ∙ append_assoc first second rest

pub joined : (bytes bytes' a b a' b' : List ℕ) → bytes ≡ a ++ b → bytes' ≡ a' ++ b' → a ≡ a' → b ≡ b' → bytes ≡ bytes'
joined bytes bytes' a b a' b' e e' p q = cc

pub pair_free : {A B : Type 0} (First : List ℕ → A → Type 0) (Second : List ℕ → B → Type 0) → IsPrefixFree First → IsPrefixFree Second → IsPrefixFree (Pair First Second)
pair_free {A} {B} First Second free free2 f r f' r' a a' are are' e s s' =
    let are1 = rw (s.parts) at are in
    let are2 = rw (s'.parts) at are' in
    let split : s.first ++ (s.second ++ r) ≡ s'.first ++ (s'.second ++ r') = sym (regroup f s.first s.second r (f ++ r) s.parts refl) ∙ regroup f' s'.first s'.second r' (f ++ r) s'.parts e in
    let one = free s.first (s.second ++ r) s'.first (s'.second ++ r') a.0 a'.0 (are_front _ _ are1) (are_front _ _ are2) split s.first_spelled s'.first_spelled in
    let two = free2 s.second r s'.second r' a.1 a'.1 (are_rest _ _ are1) (are_rest _ _ are2) one.rest s.second_spelled s'.second_spelled in
    record { front = joined f f' _ _ _ _ s.parts s'.parts one.front two.front; rest = two.rest; value = ap (λ (x : A). (x, a.1)) one.value ∙ ap (λ (y : B). (a'.0, y)) two.value }

pub counted_free : {A : Type 0} (size : A → ℕ) (Spells : List ℕ → A → Type 0) → IsPrefixFreeBySize size Spells → IsPrefixFree (Counted size Spells)
counted_free size Spells free f r f' r' a a' are are' e s s' =
    let are1 = rw (s.parts) at are in
    let are2 = rw (s'.parts) at are' in
    let split : s.number ++ (s.content ++ r) ≡ s'.number ++ (s'.content ++ r') = sym (regroup f s.number s.content r (f ++ r) s.parts refl) ∙ regroup f' s'.number s'.content r' (f ++ r) s'.parts e in
    let one = number_free s.number (s.content ++ r) s'.number (s'.content ++ r') (size a) (size a') (are_front _ _ are1) (are_front _ _ are2) split s.number_spelled s'.number_spelled in
    let two = free s.content r s'.content r' a a' one.value (are_rest _ _ are1) (are_rest _ _ are2) one.rest s.content_spelled s'.content_spelled in
    record { front = joined f f' _ _ _ _ s.parts s'.parts one.front two.front; rest = two.rest; value = two.value }

pub flagged_free : {A : Type 0} (set : Bool) (Spells : List ℕ → A → Type 0) → IsPrefixFree Spells → IsPrefixFree (Flagged set Spells)
flagged_free true Spells free f r f' r' (Some a) (Some a') are are' e s s' =
    let one = free f r f' r' a a' are are' e s s' in
    record { front = one.front; rest = one.rest; value = ap Some one.value }
flagged_free true Spells free f r f' r' None a' are are' e s s' = absurd s
flagged_free true Spells free f r f' r' (Some a) None are are' e s s' = absurd s'
flagged_free false Spells free f r f' r' (Some a) a' are are' e s s' = absurd s
flagged_free false Spells free f r f' r' None (Some a') are are' e s s' = absurd s'
flagged_free false Spells free f r f' r' None None are are' e s s' = record { front = s ∙ sym s'; rest = rw (s, s') at e; value = refl }

pub exactly_free : IsPrefixFreeBySize length (λ bytes run. bytes ≡ run)
exactly_free f r f' r' a a' len are are' e s s' =
    let both = same_front f r f' r' e (ap length s ∙ len ∙ sym (ap length s')) in
    record { front = both.0; rest = both.1; value = sym s ∙ both.0 ∙ s' }

-- the value that the bytes begin with is one
pub found_same : {A : Type 0} (Spells : List ℕ → A → Type 0) → IsPrefixFree Spells → (bytes r r' : List ℕ) (a a' : A) → AreBytes bytes → (s : SpellsFront Spells bytes a r) → (s' : SpellsFront Spells bytes a' r') → Same s.front r s'.front r' a a'
found_same Spells free bytes r r' a a' are s s' =
    free s.front r s'.front r' a a' (are_front _ _ (rw (s.parts) at are)) (are_front _ _ (rw (s'.parts) at are)) (sym s.parts ∙ s'.parts) s.spelled s'.spelled

pub found_are : {A : Type 0} (Spells : List ℕ → A → Type 0) (bytes rest : List ℕ) (a : A) → AreBytes bytes → SpellsFront Spells bytes a rest → AreBytes rest
found_are Spells bytes rest a are s = are_rest s.front rest (rw (s.parts) at are)

-- ---- one after the other

module _ {A B : Type 0} (First : List ℕ → A → Type 0) (Second : List ℕ → B → Type 0) where
  pub found_pair : (bytes middle rest : List ℕ) (a : A) (b : B) → SpellsFront First bytes a middle → SpellsFront Second middle b rest → SpellsFront (Pair First Second) bytes (a, b) rest
  found_pair bytes middle rest a b s t = record {
    front = s.front ++ t.front;
    parts = s.parts ∙ ap (λ (l : List ℕ). s.front ++ l) t.parts ∙ sym (append_assoc s.front t.front rest);
    spelled = record { first = s.front; second = t.front; parts = refl; first_spelled = s.spelled; second_spelled = t.spelled };
  }

  pub pair_first : (bytes rest : List ℕ) (v : A × B) → (s : SpellsFront (Pair First Second) bytes v rest) → SpellsFront First bytes v.0 (s.spelled.second ++ rest)
  pair_first bytes rest v s = record { front = s.spelled.first; parts = regroup s.front s.spelled.first s.spelled.second rest bytes s.spelled.parts s.parts; spelled = s.spelled.first_spelled }

  pub not_first : (bytes : List ℕ) → NotFound First bytes → NotFound (Pair First Second) bytes
  not_first bytes never v rest s = never v.0 (s.spelled.second ++ rest) (pair_first bytes rest v s)

  pub not_second : IsPrefixFree First → (bytes middle : List ℕ) (a : A) → AreBytes bytes → SpellsFront First bytes a middle → NotFound Second middle → NotFound (Pair First Second) bytes
  not_second free bytes middle a are found never v rest s =
      let same = found_same First free bytes (s.spelled.second ++ rest) middle v.0 a are (pair_first bytes rest v s) found in
      never v.1 rest (record { front = s.spelled.second; parts = sym same.rest; spelled = s.spelled.second_spelled })

-- ---- a number, and so much of what follows it

module _ {A : Type 0} (size : A → ℕ) (Spells : List ℕ → A → Type 0) where
  pub found_counted : (bytes middle rest : List ℕ) (n : ℕ) (a : A) → size a ≡ n → SpellsFront SpellsNumber bytes n middle → SpellsFront Spells middle a rest → SpellsFront (Counted size Spells) bytes a rest
  found_counted bytes middle rest n a is s t = record {
    front = s.front ++ t.front;
    parts = s.parts ∙ ap (λ (l : List ℕ). s.front ++ l) t.parts ∙ sym (append_assoc s.front t.front rest);
    spelled = record { number = s.front; content = t.front; parts = refl; number_spelled = rw is s.spelled; content_spelled = t.spelled };
  }

  counted_number : (bytes rest : List ℕ) (a : A) → (s : SpellsFront (Counted size Spells) bytes a rest) → SpellsFront SpellsNumber bytes (size a) (s.spelled.content ++ rest)
  counted_number bytes rest a s = record { front = s.spelled.number; parts = regroup s.front s.spelled.number s.spelled.content rest bytes s.spelled.parts s.parts; spelled = s.spelled.number_spelled }

  pub not_number : (bytes : List ℕ) → NotFound SpellsNumber bytes → NotFound (Counted size Spells) bytes
  not_number bytes never a rest s = never (size a) (s.spelled.content ++ rest) (counted_number bytes rest a s)

  -- behind the number there is no value of its size
  pub not_content : (bytes middle : List ℕ) (n : ℕ) → AreBytes bytes → SpellsFront SpellsNumber bytes n middle → ((a : A) (rest : List ℕ) → size a ≡ n → SpellsFront Spells middle a rest → ⊥) → NotFound (Counted size Spells) bytes
  not_content bytes middle n are found never a rest s =
      let same = found_same SpellsNumber number_free bytes (s.spelled.content ++ rest) middle (size a) n are (counted_number bytes rest a s) found in
      never a rest same.value (record { front = s.spelled.content; parts = sym same.rest; spelled = s.spelled.content_spelled })

-- ---- behind a flag

pub found_flagged : {A : Type 0} (Spells : List ℕ → A → Type 0) (bytes rest : List ℕ) (a : A) → SpellsFront Spells bytes a rest → SpellsFront (Flagged true Spells) bytes (Some a) rest
found_flagged Spells bytes rest a s = record { front = s.front; parts = s.parts; spelled = s.spelled }

pub found_absent : {A : Type 0} (Spells : List ℕ → A → Type 0) (bytes : List ℕ) → SpellsFront {A = Option A} (Flagged false Spells) bytes None bytes
found_absent Spells bytes = record { front = []; parts = refl; spelled = refl }

pub not_flagged : {A : Type 0} (Spells : List ℕ → A → Type 0) (bytes : List ℕ) → NotFound Spells bytes → NotFound {A = Option A} (Flagged true Spells) bytes
not_flagged Spells bytes never (Some a) rest s = never a rest (record { front = s.front; parts = s.parts; spelled = s.spelled })
not_flagged Spells bytes never None rest s = s.spelled

pub not_flagged_as : {A : Type 0} (Spells : List ℕ → A → Type 0) (set : Bool) (bytes : List ℕ) → set ≡ true → NotFound Spells bytes → NotFound {A = Option A} (Flagged set Spells) bytes
not_flagged_as Spells set bytes is never = rw is (not_flagged Spells bytes never)

pub found_flagged_as : {A : Type 0} (Spells : List ℕ → A → Type 0) (set : Bool) (bytes rest : List ℕ) (a : A) → set ≡ true → SpellsFront Spells bytes a rest → SpellsFront {A = Option A} (Flagged set Spells) bytes (Some a) rest
found_flagged_as Spells set bytes rest a is s = rw is (found_flagged Spells bytes rest a s)
