-- How many runs there are by a list of names, and by the files that have them.
use Rattle.std.proofs.Common.{◌≡◌, ◌⊎◌, inl, inr, ℕ, ◌+◌, ◌-◌, ◌<◌, ◌≤◌, Bool, true, false, Option, Some, None, IsSome, IfSome, List, [], ◌∷◌, ◌++◌, length, take, drop, refl, sym, ◌∙◌, subst, arith}
use Rattle.std.specs.Prelude.{Contains, IfNone, codes}
use Rattle.std.specs.Str.{bytes_eq}
use Rattle.std.proofs.lemmas.List.Elements.{Contains-append_left, Contains-push, Contains-push_cases}
use Rattle.edge_io.specs.Disk.{Files, Folder}
use Rattle.edge_io.specs.Names.{AreNamesOf, ListsNames}
use Rattle.run_shelf.specs.Adoption.{IsOld}
use Rattle.run_shelf.specs.Names.{SpellsRun, SpellsNoRun, SpellsRunNumber, SpellsNoRunNumber}
use Rattle.run_shelf.specs.Repository.{run_name, most_runs}
use Rattle.run_shelf.proofs.LookSteps.{name_is_text}
use Rattle.run_shelf.proofs.NameLemmas.{full_same, partial_same, partial_differs, spells_partial, spells_none}
use Rattle.old_folder.specs.Looking.{Raises, NamesCount}
use Rattle.old_folder.specs.Olds.{next_of, HasOldRun, IsOldCount, IsOldWith}

not_in_nothing : (x : List ℕ) → Contains [] x → ⊥
not_in_nothing x here = omega (arith, here.1)

pub none_yet : (names : List (List ℕ)) (next : ℕ) → names ≡ [] → next ≤ most_runs → NamesCount names next next
none_yet names next none few = record {
  most = omega arith;
  few = few;
  within = λ number partial name here spells. absurd (not_in_nothing name (subst (λ (l : List (List ℕ)). Contains l name) none here));
  least = inl refl;
}

-- a name tells one number
pub one_number : (name : List ℕ) (number other : ℕ) (partial also : Bool) → SpellsRun name number partial → SpellsRun name other also → other ≡ number
one_number name number other false false one two = full_same other number (omega (arith, two.few)) (omega (arith, one.few)) (sym two.is ∙ one.is)
one_number name number other false true one two = absurd (partial_differs other number (omega (arith, one.few)) (sym two.is ∙ one.is))
one_number name number other true false one two = absurd (partial_differs number other (omega (arith, two.few)) (sym one.is ∙ two.is))
one_number name number other true true one two = partial_same other number (omega (arith, two.few)) (omega (arith, one.few)) (sym two.is ∙ one.is)

pub raises_not : (name : List ℕ) (count : ℕ) → SpellsNoRun name → Raises name count count
raises_not name count none = record {
  most = omega arith;
  few = λ few. few;
  within = λ number partial spells. absurd (none number partial spells);
  least = inl refl;
}

pub raises_less : (name : List ℕ) (count number : ℕ) (partial : Bool) → SpellsRun name number partial → number < count → Raises name count count
raises_less name count number partial spells less = record {
  most = omega arith;
  few = λ few. few;
  within = λ other also two. omega (arith, one_number name number other partial also spells two, less);
  least = inl refl;
}

pub raises_more : (name : List ℕ) (count number : ℕ) (partial : Bool) → SpellsRun name number partial → count ≤ number → Raises name count (number + 1)
raises_more name count number partial spells more = record {
  most = omega (arith, more);
  few = λ few. omega (arith, spells.few);
  within = λ other also two. omega (arith, one_number name number other partial also spells two);
  least = inr (number, partial, spells, refl);
}

-- a name that ends with ".part"
module _ (name digits : List ℕ) (ends : bytes_eq (drop (length name - length (codes ".part")) name) (codes ".part") ≡ true) (front : digits ≡ take (length name - length (codes ".part")) name) where
  pub partial_named : (o : Option ℕ) → IfSome o (SpellsRunNumber digits) → IfSome o (λ number. (partial : Bool) × SpellsRun name number partial)
  partial_named None spells = tt
  partial_named (Some number) spells = (true, spells_partial name digits ends front number spells)

  pub partial_none : (o : Option ℕ) → IfNone o (SpellsNoRunNumber digits) → IfNone o (SpellsNoRun name)
  partial_none None none = spells_none name digits ends front none
  partial_none (Some number) none = tt

-- one name more
module _ (names : List (List ℕ)) (name : List ℕ) (next before after : ℕ) (count : NamesCount names next before) (raises : Raises name before after) where
  within_more : (number : ℕ) (partial : Bool) (other : List ℕ) → Contains (names ++ name ∷ []) other → SpellsRun other number partial → number < after
  within_more number partial other here spells = elim (Contains-push_cases names name other here) [
    | inl old ↦ omega (arith, count.within number partial other old spells, raises.most)
    | inr new ↦ raises.within number partial (subst (λ (l : List ℕ). SpellsRun l number partial) (sym new) spells)
  ]

  least_more : (after ≡ next) ⊎ ((number : ℕ) × (partial : Bool) × (other : List ℕ) × Contains (names ++ name ∷ []) other × SpellsRun other number partial × (after ≡ number + 1))
  least_more = elim raises.least [
    | inr new ↦ inr (new.0, new.1, name, Contains-push names name, new.2, new.3)
    | inl same ↦ elim count.least [
      | inl first ↦ inl (same ∙ first)
      | inr old ↦ inr (old.0, old.1, old.2, Contains-append_left names (name ∷ []) old.2 old.3, old.4, same ∙ old.5)
    ]
  ]

  pub count_more : NamesCount (names ++ name ∷ []) next after
  count_more = record {
    most = omega (arith, count.most, raises.most);
    few = raises.few count.few;
    within = within_more;
    least = least_more;
  }

-- by the files that have the names
module _ (files : Files) (names : List (List ℕ)) (are : AreNamesOf files names) (next count : ℕ) (counts : NamesCount names next count) where
  named : (number : ℕ) (partial : Bool) → number < most_runs → IsSome (files (run_name number partial)) → Contains names (run_name number partial)
  named number partial few some = (are.each (run_name number partial)).1 (name_is_text number partial few, some)

  there : (name : List ℕ) → Contains names name → IsSome (files name)
  there name here = ((are.each name).0 here).1

  least_of : (count ≡ next) ⊎ ((number : ℕ) × (number < most_runs) × HasOldRun files number × (count ≡ number + 1))
  least_of = elim counts.least [
    | inl same ↦ inl same
    | inr one ↦ inr (one.0, one.4.few, (one.1, subst (λ (l : List ℕ). IsSome (files l)) one.4.is (there one.2 one.3)), one.5)
  ]

  pub counts_files : next_of files ≡ Some next → IsOldCount files count
  counts_files tells = record {
    next = next;
    tells = tells;
    few = counts.few;
    most = counts.most;
    within = λ number few has. counts.within number has.0 (run_name number has.0) (named number has.0 few has.1) (record { few = few; is = refl });
    least = least_of;
  }

-- where the folder is told or not
pub counts_old : (a : Option Folder) (names : List (List ℕ)) (next count : ℕ) → IfSome a (λ s. IsOld s.disk.published) → ListsNames a names → IfSome a (λ s. Some next ≡ next_of s.disk.published) → NamesCount names next count → IfSome a (λ s. IsOldWith count s.disk.published)
counts_old None names next count old lists tells counts = tt
counts_old (Some s) names next count old lists tells counts = record { old = old; counted = counts_files s.disk.published names lists next count counts (sym tells) }
