-- Which key a name is.
use Rattle.std.proofs.Common.{◌≡◌, Bool, true, false, cond, Option, Some, None, List, [], ◌∷◌, ℕ, refl, sym, subst}
use Rattle.std.specs.List.{find, list_all}
use Rattle.std.specs.Str.{bytes_eq}
use Rattle.std.proofs.lemmas.Bool.{false≢true, and_parts}
use Rattle.std.proofs.lemmas.Option.{same_Some}
use Rattle.std.proofs.lemmas.Slice.Eq.{bytes_eq-Decides}
use Rattle.testr_conf.specs.Names.{key_name, dialect_names, named, has_name}
use Rattle.testr_conf.specs.declared.name.Dialect.{Dialect}
use Rattle.testr_conf.specs.declared.name.Dialect.TheVariants.{Testr, Stestr}
use Rattle.testr_conf.specs.declared.name.Name.{Name}
use Rattle.testr_conf.specs.declared.name.Name.TheVariants.{Command, IdOption, ListOption, IdList, Concurrency, GroupRegex, FilterTags, Provision, Execute, Dispose, TestPath, TopDir, ParallelClass}

-- what is found passes the test by which it is found, and each that all pass
found_passes : {X : Type 0} (p q : X → Bool) (xs : List X) (x : X) → list_all q xs ≡ true → find p xs ≡ Some x → (p x ≡ true) × (q x ≡ true)
found_passes p q [] x all found = cc
found_passes p q (y ∷ ys) x all found =
    let parts = and_parts (q y) (list_all q ys) all in
    by (p y) refl parts.0 (λ here. found_passes p q ys x parts.1 here) found
  where
    by : (b : Bool) → p y ≡ b → q y ≡ true → (find p ys ≡ Some x → (p x ≡ true) × (q x ≡ true)) → cond b (Some y) (find p ys) ≡ Some x → (p x ≡ true) × (q x ≡ true)
    by true is has later here =
        let same : y ≡ x = same_Some y x here in
        (subst (λ z. p z ≡ true) same is, subst (λ z. q z ≡ true) same has)
    by false is has later here = later here

all_had : (dialect : Dialect) → list_all (has_name dialect) (dialect_names dialect) ≡ true
all_had Testr = refl
all_had Stestr = refl

named_parts : (dialect : Dialect) (key : List ℕ) (name : Name) → named dialect key ≡ Some name → (bytes_eq key (key_name name) ≡ true) × (has_name dialect name ≡ true)
named_parts dialect key name is = found_passes (λ n. bytes_eq key (key_name n)) (has_name dialect) (dialect_names dialect) name (all_had dialect) is

pub named_key : (dialect : Dialect) (key : List ℕ) (name : Name) → named dialect key ≡ Some name → key ≡ key_name name
named_key dialect key name is = (bytes_eq-Decides key (key_name name)).0 (named_parts dialect key name is).0

pub named_had : (dialect : Dialect) (key : List ℕ) (name : Name) → named dialect key ≡ Some name → has_name dialect name ≡ true
named_had dialect key name is = (named_parts dialect key name is).1

-- the key of a name that a file has is that name's
pub names_itself : (dialect : Dialect) (name : Name) → has_name dialect name ≡ true → named dialect (key_name name) ≡ Some name
names_itself Testr Command has = refl
names_itself Testr IdOption has = refl
names_itself Testr ListOption has = refl
names_itself Testr IdList has = refl
names_itself Testr Concurrency has = refl
names_itself Testr GroupRegex has = refl
names_itself Testr FilterTags has = refl
names_itself Testr Provision has = refl
names_itself Testr Execute has = refl
names_itself Testr Dispose has = refl
names_itself Testr TestPath has = absurd (false≢true has)
names_itself Testr TopDir has = absurd (false≢true has)
names_itself Testr ParallelClass has = absurd (false≢true has)
names_itself Stestr Command has = absurd (false≢true has)
names_itself Stestr IdOption has = absurd (false≢true has)
names_itself Stestr ListOption has = absurd (false≢true has)
names_itself Stestr IdList has = absurd (false≢true has)
names_itself Stestr Concurrency has = absurd (false≢true has)
names_itself Stestr GroupRegex has = refl
names_itself Stestr FilterTags has = absurd (false≢true has)
names_itself Stestr Provision has = absurd (false≢true has)
names_itself Stestr Execute has = absurd (false≢true has)
names_itself Stestr Dispose has = absurd (false≢true has)
names_itself Stestr TestPath has = refl
names_itself Stestr TopDir has = refl
names_itself Stestr ParallelClass has = refl
