-- The registers along the first of the bytes of a buffer.
use Rattle.std.proofs.Common.{◌≡◌, ℕ, ◌+◌, ◌-◌, ◌≤◌, List, [], ◌∷◌, ◌++◌, length, take, drop, refl, sym, ap, ◌∙◌, arith, length-drop, zero, suc}
use Rattle.std.proofs.lemmas.List.{take-append-drop, take-append-le, take_all, length-take, length-append}
use Rattle.std.proofs.lemmas.List.{take_at}
use Rattle.std.proofs.lemmas.List.Edits.{paste_all}
use Rattle.std.specs.List.{copy_within}
use Rattle.crc_parts.specs.Prefixes.{KeptRegisters, HasPrefixes}

pub all_along : (kept : KeptRegisters) (count : ℕ) (items : List ℕ) → HasPrefixes kept (take count items ++ drop count items) → HasPrefixes kept items
all_along kept count items along = rw (take-append-drop count items) at along

-- where they stand along all bytes
pub whole_along : (kept : KeptRegisters) (items : List ℕ) → HasPrefixes kept items → (kept.count ≤ length items) × HasPrefixes kept (take kept.count items)
whole_along kept items along =
    let count : kept.count ≡ length items = along.1.count in
    let all : take kept.count items ≡ items = take_all kept.count items (omega (arith, count)) in
    (omega (arith, count), rw all along)

take_of_none : (k : ℕ) → [] ≡ take {A = ℕ} k []
take_of_none zero = refl
take_of_none (suc k) = refl

drop_of_take : (gone count : ℕ) (items : List ℕ) → drop gone (take count items) ≡ take (count - gone) (drop gone items)
drop_of_take zero count items = let e : count ≡ count - 0 = omega arith in ap (λ (k : ℕ). take k items) e
drop_of_take (suc gone) zero items = let e : 0 ≡ 0 - suc gone = omega arith in ap (λ (k : ℕ). take k (drop (suc gone) items)) e
drop_of_take (suc gone) (suc count) [] = take_of_none (suc count - suc gone)
drop_of_take (suc gone) (suc count) (item ∷ items) =
    let e : count - gone ≡ suc count - suc gone = omega arith in
    drop_of_take gone count items ∙ ap (λ (k : ℕ). take k (drop gone items)) e

-- the bytes behind so many were moved to the front
pub moved_is : (items copied moved : List ℕ) (gone : ℕ) → gone ≤ length items → copied ≡ copy_within items gone (length items) 0 → moved ≡ take (length items - gone) copied → moved ≡ drop gone items
moved_is items copied moved gone in_range copied-is moved-is =
    let size : length items - gone ≡ length (drop gone items) = omega (arith, length-drop gone items) in
    let rest : List ℕ = drop (0 + (length items - gone)) items in
    let whole : copied ≡ drop gone items ++ rest = copied-is ∙ paste_all items 0 (drop gone items) (length items - gone) size in
    moved-is ∙ ap (take (length items - gone)) whole ∙ ap (λ (k : ℕ). take k (drop gone items ++ rest)) size ∙ take_at (drop gone items) rest (length (drop gone items)) refl

-- bytes at the front were let go of, and others appended
pub moved_along : (kept : KeptRegisters) (count gone : ℕ) (items moved new piece : List ℕ) → count ≤ length items → moved ≡ drop gone items → new ≡ moved ++ piece → HasPrefixes kept (drop gone (take count items)) → (kept.count ≤ length new) × HasPrefixes kept (take kept.count new)
moved_along kept count gone items moved new piece in_range moved-is new-is along =
    let front : drop gone (take count items) ≡ take (count - gone) moved = drop_of_take gone count items ∙ ap (take (count - gone)) (sym moved-is) in
    let long : count - gone ≤ length moved = omega (arith, ap length moved-is, length-drop gone items, in_range) in
    let size : kept.count ≡ count - gone = omega (arith, along.1.count, ap length front, length-take (count - gone) moved, long) in
    let same : take kept.count new ≡ drop gone (take count items) = ap (λ (k : ℕ). take k new) size ∙ ap (take (count - gone)) new-is ∙ take-append-le (count - gone) moved piece long ∙ sym front in
    (omega (arith, size, long, ap length new-is, length-append moved piece), rw same along)
