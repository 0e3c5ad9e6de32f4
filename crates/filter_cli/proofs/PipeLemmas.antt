-- What moves between an input and an output.
use Rattle.std.proofs.Common.{◌≡◌, ℕ, ◌+◌, ◌<◌, Option, None, Some, IfSome, List, [], ◌++◌, length, take, sym, ap, subst, ◌∙◌, arith, length-append, append-nil}
use Rattle.std.specs.Io.KnownBytes.{Consumes, Appends, IsAtEnd}
use Rattle.std.proofs.KnownBytes.{Consumes-trans, Appends-trans}
use Rattle.std.proofs.Math.Seq.{take-append_seam}
use Rattle.edge_io.specs.Causes.{Rose}
use Rattle.edge_io.specs.Bytes.{AppendsPrefix}

-- a count that rose after it stood
pub rose_later : (a b c : ℕ) → b ≡ a → Rose b c → Rose a c
rose_later a b c is rose = subst (λ (n : ℕ). Rose n c) is rose

-- the last read gave nothing
pub took_none : (a b c : Option (List ℕ)) (fed buf : List ℕ) (n : ℕ) → n ≡ 0 → Consumes a b fed → Consumes b c (take n buf) → Consumes a c fed
took_none a b c fed buf n is first second =
    let none : take n buf ≡ [] = ap (λ (k : ℕ). take k buf) is in
    let all : fed ++ take n buf ≡ fed = ap (λ (l : List ℕ). fed ++ l) none ∙ append-nil fed in
    subst (Consumes a c) all (Consumes-trans a b c fed (take n buf) first second)

-- `given` is a text that was empty and grew by `more`
pub text_is : (old new given more : List ℕ) → old ≡ [] → new ≡ old ++ more → given ≡ new → given ≡ more
text_is old new given more empty grown is = is ∙ grown ∙ ap (λ (l : List ℕ). l ++ more) empty

pub wrote_all : (a b c : Option (List ℕ)) (shown given more : List ℕ) → given ≡ more → Appends a b shown → Appends b c given → Appends a c (shown ++ more)
wrote_all a b c shown given more is first second = Appends-trans a b c shown more first (subst (Appends b c) is second)

pub wrote_part : (a b c : Option (List ℕ)) (shown given more : List ℕ) (n : ℕ) → given ≡ more → Appends a b shown → Appends b c (take n given) → Appends a c (shown ++ take n more)
wrote_part a b c shown given more n is first second = Appends-trans a b c shown (take n more) first (subst (λ (l : List ℕ). Appends b c (take n l)) is second)

-- ---- what is told

pub told_front : (a b : Option (List ℕ)) (bytes read : List ℕ) → a ≡ Some bytes → Consumes a b read → (rest : List ℕ) × (bytes ≡ read ++ rest)
told_front None b bytes read is took = absurd (cc)
told_front (Some x) None bytes read is took = absurd took
told_front (Some x) (Some y) bytes read is took = let same : x ≡ bytes = cc in (y, sym same ∙ took)

pub told_all : (a b : Option (List ℕ)) (bytes read : List ℕ) → a ≡ Some bytes → Consumes a b read → IsAtEnd b → bytes ≡ read
told_all None b bytes read is took ends = absurd (cc)
told_all (Some x) None bytes read is took ends = absurd took
told_all (Some x) (Some y) bytes read is took ends = let same : x ≡ bytes = cc in sym same ∙ took ∙ ap (λ (l : List ℕ). read ++ l) ends ∙ append-nil read

pub told_longer : (a b : Option (List ℕ)) (read : List ℕ) (n : ℕ) → n < length read → Consumes a b read → IfSome a (λ bytes. n < length bytes)
told_longer None b read n more took = tt
told_longer (Some x) None read n more took = absurd took
told_longer (Some x) (Some y) read n more took = let size = ap length took ∙ length-append read y in omega (arith, size)

-- what was written is a front of the text
pub prefix_by : (a b : Option (List ℕ)) (all shown rest : List ℕ) → all ≡ shown ++ rest → Appends a b shown → AppendsPrefix a b all
prefix_by a b all shown rest is wrote =
    let size : length all ≡ length shown + length rest = ap length is ∙ length-append shown rest in
    let front : take (length shown) all ≡ shown = ap (λ (l : List ℕ). take (length shown) l) is ∙ take-append_seam shown rest in
    (length shown, omega (arith, size), subst (Appends a b) (sym front) wrote)
