-- Which names are copied.
use Rattle.std.proofs.Common.{◌≡◌, ◌↔◌, ℕ, ◌<◌, ◌≤◌, false, ltb, Option, Some, None, List, [], ◌∷◌, ◌++◌, ◌+◌, length, take, get_or, IfSome, IsTrue, sym, ◌∙◌, subst, arith}
use Rattle.std.specs.Prelude.{Contains, All}
use Rattle.std.proofs.lemmas.Bool.{lt-ltb, ltb-true}
use Rattle.std.proofs.lemmas.List.Elements.{All-contains, All-append, All-cons, All-nil, Contains-get_or}
use Rattle.std.proofs.lemmas.List.{take_more}
use Rattle.edge_io.specs.Disk.{Folder}
use Rattle.edge_io.specs.Names.{ListsNames}
use Rattle.run_shelf.specs.Names.{SpellsRunNumber, SpellsNoRunNumber}
use Rattle.run_shelf.specs.Repository.{most_runs}
use Rattle.run_shelf.proofs.NameLemmas.{full_same}
use Rattle.old_copies.specs.Copying.{IsRunBelow, IsCopiedFirst}
use Rattle.old_copies.specs.Looking.{HoldsNoOther, HasOtherName, HasOtherIn}

pub run_below : (name : List ℕ) (count number : ℕ) → count ≤ most_runs → SpellsRunNumber name number → IsTrue (ltb number count) ↔ IsRunBelow count name
run_below name count number few spells = (
  (λ less. (number, ltb-true number count less, spells.is)),
  (λ below. lt-ltb number count (omega (arith, below.1, full_same number below.0 (omega (arith, spells.few)) (omega (arith, below.1, few)) (sym spells.is ∙ below.2)))),
)

pub no_run_below : (name : List ℕ) (count : ℕ) → count ≤ most_runs → SpellsNoRunNumber name → IsTrue false ↔ IsRunBelow count name
no_run_below name count few none = (
  (λ never. absurd (none_true never)),
  (λ below. absurd (none below.0 (record { few = omega (arith, below.1, few); is = below.2 }))),
)
  where
    none_true : IsTrue false → ⊥
    none_true never = cc

-- where the folder is told or not
pub holds_none : (count : ℕ) (a : Option Folder) (names : List (List ℕ)) → ListsNames a names → All (IsCopiedFirst count) names → IfSome a (HoldsNoOther count)
holds_none count None names lists all = tt
holds_none count (Some s) names lists all = λ name text some. All-contains (IsCopiedFirst count) names name all ((lists.each name).1 (text, some))

pub holds_other : (count : ℕ) (a : Option Folder) (names : List (List ℕ)) → ListsNames a names → HasOtherIn count names → IfSome a (λ s. HasOtherName count s.disk.published)
holds_other count None names lists has = tt
holds_other count (Some s) names lists has = record { name = has.name; short = ((lists.each has.name).0 has.listed).0; there = ((lists.each has.name).0 has.listed).1; other = has.other }

-- ---- names, one after another

pub all_more : (count i : ℕ) (names : List (List ℕ)) (name : List ℕ) → i < length names → name ≡ get_or names i name → All (IsCopiedFirst count) (take i names) → IsCopiedFirst count name → All (IsCopiedFirst count) (take (i + 1) names)
all_more count i names name within is all first =
    subst (All (IsCopiedFirst count)) (sym (take_more names i name within ∙ (λ j. take i names ++ sym is j ∷ [])))
    (All-append (IsCopiedFirst count) (take i names) (name ∷ []) all (All-cons (IsCopiedFirst count) name [] first (All-nil (IsCopiedFirst count))))

pub other_in : (count i : ℕ) (names : List (List ℕ)) (name : List ℕ) → i < length names → name ≡ get_or names i name → (IsCopiedFirst count name → ⊥) → HasOtherIn count names
other_in count i names name within is other = record { name = name; listed = subst (Contains names) (sym is) (Contains-get_or names i name within); other = other }
