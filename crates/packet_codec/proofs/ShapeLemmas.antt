-- Each field has one reading.
use Rattle.std.proofs.Common.{◌≡◌, ℕ, ◌+◌, ◌^◌, ◌≤◌, ◌<◌, List, [], ◌∷◌, ◌++◌, length, get_or, take, drop, Fits, w8, refl, sym, ap, subst, ◌∙◌, append_assoc, arith}
use Rattle.std.specs.Coded.{le_prop}
use Rattle.std.specs.Int.{w32, to_be_bytes, from_be_bytes}
use Rattle.std.proofs.lemmas.List.{take-append-drop, take_at, drop_at, append-nil, length-take-le, length-append}
use Rattle.std.proofs.lemmas.Nat.{be_bytes_4, from_be_bytes-to_be_bytes_4}
use Rattle.sub_number.specs.Numbers.{SpellsNumber, BeginsWithNoNumber}
use Rattle.sub_number.proofs.NumberLemmas.{AreBytes, are_bytes_take}
use Rattle.packet_codec.specs.declared.stamp.Stamp.{Stamp}
use Rattle.packet_codec.specs.Grammar.{SpellsFront, NotFound}
use Rattle.packet_codec.specs.Fields.{SpellsStamp}
use Rattle.packet_codec.specs.Shapes.{ByteRun, ByteRuns, CountedRuns, NamedRun, BeginsWithRuns}
use Rattle.packet_codec.proofs.GrammarLemmas.{are_front, are_rest, joined, regroup, same_front, IsPrefixFree, IsPrefixFreeBySize, number_free, pair_free, counted_free, exactly_free, found_same, found_are, found_counted, not_content}

pub run_free : IsPrefixFree ByteRun
run_free = counted_free length (λ bytes run. bytes ≡ run) exactly_free

pub named_run_free : IsPrefixFree NamedRun
named_run_free = pair_free ByteRun ByteRun run_free run_free

pub runs_free : IsPrefixFreeBySize length ByteRuns
runs_free f r f' r' [] [] len are are' e s s' = record { front = s ∙ sym s'; rest = rw (s, s') at e; value = refl }
runs_free f r f' r' [] (a' ∷ left') len are are' e s s' = absurd (omega arith)
runs_free f r f' r' (a ∷ left) [] len are are' e s s' = absurd (omega arith)
runs_free f r f' r' (a ∷ left) (a' ∷ left') len are are' e (g, t, p, q, u) (g', t', p', q', u') =
    let split : g ++ (t ++ r) ≡ g' ++ (t' ++ r') = sym (append_assoc g t r) ∙ ap (λ (l : List ℕ). l ++ r) (sym p) ∙ e ∙ ap (λ (l : List ℕ). l ++ r') p' ∙ append_assoc g' t' r' in
    let are1 = rw p at are in
    let are2 = rw p' at are' in
    let one = run_free g (t ++ r) g' (t' ++ r') a a' (are_front g t are1) (are_front g' t' are2) split q q' in
    let two = runs_free t r t' r' left left' (omega arith) (are_rest g t are1) (are_rest g' t' are2) one.rest u u' in
    record { front = joined f f' g t g' t' p p' one.front two.front; rest = two.rest; value = let heads = one.value in let tails = two.value in cc }

pub counted_runs_free : IsPrefixFree CountedRuns
counted_runs_free = counted_free length ByteRuns runs_free

stamp_of : (seconds nanos : ℕ) → nanos < 2 ^ 30 → Stamp
stamp_of seconds nanos fit = record { seconds = seconds; nanos = nanos; nanos_fit = fit }

-- the fact that a stamp keeps is one
stamp_same : (s t : Stamp) → s.seconds ≡ t.seconds → s.nanos ≡ t.nanos → s ≡ t
unfolding stamp_of
stamp_same s t p q =
    let nanos : (fit : t.nanos < 2 ^ 30) → stamp_of s.seconds s.nanos s.nanos_fit ≡ stamp_of s.seconds t.nanos fit =
    subst (λ (n : ℕ). (fit : n < 2 ^ 30) → stamp_of s.seconds s.nanos s.nanos_fit ≡ stamp_of s.seconds n fit) q (λ fit. ap (λ (h : s.nanos < 2 ^ 30). stamp_of s.seconds s.nanos h) (le_prop s.nanos_fit fit)) in
    nanos t.nanos_fit ∙ ap (λ (n : ℕ). stamp_of n t.nanos t.nanos_fit) p

pub stamp_free : IsPrefixFree SpellsStamp
stamp_free f r f' r' a a' are are' e s s' =
    let split : to_be_bytes w32 a.seconds ++ (s.nanos ++ r) ≡ to_be_bytes w32 a'.seconds ++ (s'.nanos ++ r') = sym (regroup f (to_be_bytes w32 a.seconds) s.nanos r (f ++ r) s.parts refl) ∙ regroup f' (to_be_bytes w32 a'.seconds) s'.nanos r' (f ++ r) s'.parts e in
    let one = same_front (to_be_bytes w32 a.seconds) (s.nanos ++ r) (to_be_bytes w32 a'.seconds) (s'.nanos ++ r') split refl in
    let two = number_free s.nanos r s'.nanos r' a.nanos a'.nanos (are_rest (to_be_bytes w32 a.seconds) s.nanos (rw (s.parts) at are)) (are_rest (to_be_bytes w32 a'.seconds) s'.nanos (rw (s'.parts) at are')) one.1 s.nanos_spelled s'.nanos_spelled in
    let seconds : a.seconds ≡ a'.seconds = sym (from_be_bytes-to_be_bytes_4 a.seconds s.seconds_fit) ∙ ap (from_be_bytes w32) one.0 ∙ from_be_bytes-to_be_bytes_4 a'.seconds s'.seconds_fit in
    record { front = joined f f' _ _ _ _ s.parts s'.parts one.0 two.front; rest = two.rest; value = stamp_same a a' seconds two.value }

-- ---- numbers and runs left they are read

pub no_number_found : (bytes : List ℕ) → BeginsWithNoNumber bytes 4 → NotFound SpellsNumber bytes
no_number_found bytes none value rest s =
    let front : take (length s.front) bytes ≡ s.front = ap (take (length s.front)) s.parts ∙ take_at s.front rest (length s.front) refl in
    let len : length bytes ≡ length s.front + length rest = ap length s.parts ∙ length-append s.front rest in
    none value (length s.front) (record { in_range = omega arith; narrow = s.spelled.few; spells = rw front s.spelled })

pub run_past_end : (bytes middle : List ℕ) (n : ℕ) → AreBytes bytes → SpellsFront SpellsNumber bytes n middle → length middle < n → NotFound ByteRun bytes
run_past_end bytes middle n are found short = not_content length (λ bytes run. bytes ≡ run) bytes middle n are found (λ a rest size s.
    omega (arith, ap length s.parts, ap length s.spelled, length-append s.front rest))

pub run_found : (bytes middle a rest : List ℕ) (n : ℕ) → SpellsFront SpellsNumber bytes n middle → n ≤ length middle → a ≡ take n middle → rest ≡ drop n middle → SpellsFront ByteRun bytes a rest
run_found bytes middle a rest n s fits a-is rest-is =
    found_counted length (λ bytes run. bytes ≡ run) bytes middle rest n a (rw a-is (length-take-le n middle fits)) s (record { front = a; parts = rw (a-is, rest-is) (sym (take-append-drop n middle)); spelled = refl })

pub stamp_found : (bytes front middle rest : List ℕ) (stamp : Stamp) → AreBytes bytes → 4 ≤ length bytes → front ≡ take 4 bytes → middle ≡ drop 4 bytes → stamp.seconds ≡ from_be_bytes w32 front → SpellsFront SpellsNumber middle stamp.nanos rest → SpellsFront SpellsStamp bytes stamp rest
stamp_found bytes front middle rest stamp are long front-is middle-is seconds s =
    let len : length front ≡ 4 = ap length front-is ∙ length-take-le 4 bytes long in
    let four : (i : ℕ) → Fits w8 (get_or front i 0) = rw front-is (are_bytes_take 4 bytes are) in
    let spelled : to_be_bytes w32 stamp.seconds ≡ front = be_bytes_4 front stamp.seconds len (λ i. omega (arith, four i)) seconds in
    let whole : bytes ≡ to_be_bytes w32 stamp.seconds ++ (s.front ++ rest) =
    sym (take-append-drop 4 bytes) ∙ ap (λ (l : List ℕ). l ++ drop 4 bytes) (sym front-is ∙ sym spelled) ∙ ap (λ (l : List ℕ). to_be_bytes w32 stamp.seconds ++ l) (sym middle-is ∙ s.parts) in
    record {
      front = to_be_bytes w32 stamp.seconds ++ s.front;
      parts = whole ∙ sym (append_assoc (to_be_bytes w32 stamp.seconds) s.front rest);
      spelled = record { nanos = s.front; parts = refl; seconds_fit = omega (arith, seconds, four 0, four 1, four 2, four 3); nanos_spelled = s.spelled };
    }

-- the seconds are in four bytes, and the nanoseconds behind them
stamp_number : (bytes rest : List ℕ) (stamp : Stamp) → (s : SpellsFront SpellsStamp bytes stamp rest) → (4 ≤ length bytes) × SpellsFront SpellsNumber (drop 4 bytes) stamp.nanos rest
stamp_number bytes rest stamp s =
    let whole : bytes ≡ to_be_bytes w32 stamp.seconds ++ (s.spelled.nanos ++ rest) = regroup s.front (to_be_bytes w32 stamp.seconds) s.spelled.nanos rest bytes s.spelled.parts s.parts in
    let len : length (to_be_bytes w32 stamp.seconds) ≡ 4 = refl in (
      omega (arith, ap length whole, length-append (to_be_bytes w32 stamp.seconds) (s.spelled.nanos ++ rest)),
      record { front = s.spelled.nanos; parts = ap (drop 4) whole ∙ drop_at (to_be_bytes w32 stamp.seconds) (s.spelled.nanos ++ rest) 4 len; spelled = s.spelled.nanos_spelled },
    )

pub no_stamp_short : (bytes : List ℕ) → length bytes < 4 → NotFound SpellsStamp bytes
no_stamp_short bytes short stamp rest s = omega (arith, (stamp_number bytes rest stamp s).0)

pub no_stamp_number : (bytes middle : List ℕ) → middle ≡ drop 4 bytes → NotFound SpellsNumber middle → NotFound SpellsStamp bytes
no_stamp_number bytes middle middle-is never stamp rest s = never stamp.nanos rest (rw middle-is ((stamp_number bytes rest stamp s).1))

-- ---- many runs

pub no_runs : (bytes : List ℕ) → BeginsWithRuns bytes 0 [] bytes
no_runs bytes = record { size = refl; found = record { front = []; parts = refl; spelled = refl } }

runs_append : (f g : List ℕ) (runs : List (List ℕ)) (run : List ℕ) → ByteRuns f runs → ByteRun g run → ByteRuns (f ++ g) (runs ++ run ∷ [])
runs_append f g [] run s t = (g, [], rw s (sym (append-nil g)), t, refl)
runs_append f g (a ∷ left) run (h, u, p, q, v) t = (h, u ++ g, ap (λ (l : List ℕ). l ++ g) p ∙ append_assoc h u g, q, runs_append u g left run v t)

pub runs_more : (bytes middle rest : List ℕ) (i : ℕ) (runs : List (List ℕ)) (run : List ℕ) → BeginsWithRuns bytes i runs middle → SpellsFront ByteRun middle run rest → BeginsWithRuns bytes (i + 1) (runs ++ run ∷ []) rest
runs_more bytes middle rest i runs run s t = record {
  size = omega (arith, s.size, length-append runs (run ∷ []));
  found = record {
    front = s.found.front ++ t.front;
    parts = s.found.parts ∙ ap (λ (l : List ℕ). s.found.front ++ l) t.parts ∙ sym (append_assoc s.found.front t.front rest);
    spelled = runs_append s.found.front t.front runs run s.found.spelled t.spelled;
  };
}

-- where there are more runs than were read, there is a next one
next_run : (f g bytes rest rest' : List ℕ) (runs others : List (List ℕ)) → AreBytes bytes → bytes ≡ f ++ rest → bytes ≡ g ++ rest' → length runs < length others → ByteRuns f runs → ByteRuns g others → (run : List ℕ) × (after : List ℕ) × SpellsFront ByteRun rest run after
next_run f g bytes rest rest' [] [] are e e' less s t = absurd (omega arith)
next_run f g bytes rest rest' (a ∷ left) [] are e e' less s t = absurd (omega arith)
next_run f g bytes rest rest' [] (b ∷ bs) are e e' less s (h, u, p, q, v) =
    let whole : rest ≡ h ++ (u ++ rest') = rw s at (sym e) ∙ regroup g h u rest' bytes p e' in
    (b, u ++ rest', record { front = h; parts = whole; spelled = q })
next_run f g bytes rest rest' (a ∷ left) (b ∷ bs) are e e' less (h, u, p, q, v) (h', u', p', q', v') =
    let one : SpellsFront ByteRun bytes a (u ++ rest) = record { front = h; parts = regroup f h u rest bytes p e; spelled = q } in
    let two : SpellsFront ByteRun bytes b (u' ++ rest') = record { front = h'; parts = regroup g h' u' rest' bytes p' e'; spelled = q' } in
    let same = found_same ByteRun run_free bytes (u ++ rest) (u' ++ rest') a b are one two in
    next_run u u' (u ++ rest) rest rest' left bs (found_are ByteRun bytes (u ++ rest) a are one) refl same.rest (omega arith) v v'

pub runs_stop : (bytes middle : List ℕ) (i count : ℕ) (runs : List (List ℕ)) → AreBytes bytes → i < count → BeginsWithRuns bytes i runs middle → NotFound ByteRun middle → (others : List (List ℕ)) (rest : List ℕ) → BeginsWithRuns bytes count others rest → ⊥
runs_stop bytes middle i count runs are less s never others rest t =
    let next = next_run s.found.front t.found.front bytes middle rest runs others are s.found.parts t.found.parts (omega (arith, s.size, t.size)) s.found.spelled t.found.spelled in
    never next.0 next.1 next.2

pub no_counted_runs : (bytes middle : List ℕ) (count : ℕ) → AreBytes bytes → SpellsFront SpellsNumber bytes count middle → ((runs : List (List ℕ)) (rest : List ℕ) → BeginsWithRuns middle count runs rest → ⊥) → NotFound CountedRuns bytes
no_counted_runs bytes middle count are found never =
    not_content length ByteRuns bytes middle count are found (λ runs rest size s. never runs rest (record { size = size; found = s }))

pub counted_runs_found : (bytes middle rest : List ℕ) (count : ℕ) (runs : List (List ℕ)) → SpellsFront SpellsNumber bytes count middle → BeginsWithRuns middle count runs rest → SpellsFront CountedRuns bytes runs rest
counted_runs_found bytes middle rest count runs s t = found_counted length ByteRuns bytes middle rest count runs t.size s t.found

-- any number is below 2 ^ 30
pub number_below : (bytes : List ℕ) (value : ℕ) → SpellsNumber bytes value → value < 2 ^ 30
number_below [] value s = absurd (omega (arith, s.some))
number_below (a ∷ []) value s = omega (arith, s.fits)
number_below (a ∷ b ∷ []) value s = omega (arith, s.fits)
number_below (a ∷ b ∷ c ∷ []) value s = omega (arith, s.fits)
number_below (a ∷ b ∷ c ∷ d ∷ []) value s = omega (arith, s.fits)
number_below (a ∷ b ∷ c ∷ d ∷ e ∷ rest) value s = absurd (omega (arith, s.few))
