-- Reading a file from its front.
use Rattle.std.proofs.Common.{◌≡◌, ◌≤◌, ◌-◌, ℕ, arith, length-append, length-take, List, [], ◌++◌, length, take, drop, Option, Some, None, IfSome, IsSomeAnd, refl, sym, subst, ap, ◌∙◌}
use Rattle.std.proofs.Math.Seq.{drop-append_seam}
use Rattle.std.proofs.lemmas.List.{take-append-drop, append_assoc}
use Rattle.edge_io.specs.Disk.{Files}
use Rattle.edge_io.specs.Seen.{Seen}
use Rattle.edge_io.specs.Files.{BeginsFile}
use Rattle.edge_io.specs.Sites.{Finds, GivesPart}
use Rattle.edge_io.specs.declared.site.Found.TheVariants.{Read}

-- so far the file begins with these bytes, and no read failed
pub record IsReadingFile (before now : Seen Files) (name : List ℕ) (most : ℕ) (bytes : List ℕ) : Type 0 where
  pub front : BeginsFile before.told name bytes
  pub few : length bytes ≤ most
  pub same : now.told ≡ before.told
  pub count : now.faults ≡ before.faults

pub begins_with_none : (told : Option Files) (name : List ℕ) → BeginsFile told name []
begins_with_none None name = tt
begins_with_none (Some files) name = λ bytes some. (bytes, refl)

longer : (front bytes rest buf : List ℕ) (count : ℕ) → bytes ≡ front ++ rest → GivesPart bytes (length front) buf count → bytes ≡ (front ++ take count buf) ++ drop count rest
longer front bytes rest buf count is gives =
    let behind : drop (length front) bytes ≡ rest = ap (λ l. drop (length front) l) is ∙ drop-append_seam front rest in
    let moved : take count buf ≡ take count rest = gives.same ∙ ap (λ l. take count l) behind in
    let whole : take count buf ++ drop count rest ≡ rest = ap (λ l. l ++ drop count rest) moved ∙ take-append-drop count rest in
    is ∙ ap (λ l. front ++ l) (sym whole) ∙ sym (append_assoc front (take count buf) (drop count rest))

found_more : (file : Option (List ℕ)) (front buf : List ℕ) (count : ℕ) → ((bytes : List ℕ) → file ≡ Some bytes → (rest : List ℕ) × (bytes ≡ front ++ rest)) → Finds file (length front) buf (Read count) → (bytes : List ℕ) → file ≡ Some bytes → (rest : List ℕ) × (bytes ≡ (front ++ take count buf) ++ rest)
found_more file front buf count begins finds bytes some =
    let before = begins bytes some in
    let gives : GivesPart bytes (length front) buf count = subst (λ f. IsSomeAnd f (λ b. GivesPart b (length front) buf count)) some finds in
    (drop count before.0, longer front bytes before.0 buf count before.1 gives)

pub begins_with_more : (told : Option Files) (name front buf : List ℕ) (count : ℕ) → BeginsFile told name front → IfSome told (λ files. Finds (files name) (length front) buf (Read count)) → BeginsFile told name (front ++ take count buf)
begins_with_more None name front buf count begins finds = tt
begins_with_more (Some files) name front buf count begins finds = found_more (files name) front buf count begins finds

pub not_longer : (front buf : List ℕ) (count most : ℕ) → length front ≤ most → count ≤ most - length front → length (front ++ take count buf) ≤ most
not_longer front buf count most few more =
    let sum = length-append front (take count buf) in
    let short = length-take count buf in
    omega (arith, sum, short, few, more)
