-- The values that settings give, and one more of them.
use Rattle.std.proofs.Common.{◌≡◌, ℕ, Bool, true, false, cond, ◌&&◌, ◌||◌, Option, Some, None, is_some, List, [], ◌∷◌, ◌++◌, map, refl, sym, ap, ◌∙◌, ⊎_elim}
use Rattle.std.specs.List.{find, list_any}
use Rattle.std.specs.Option.{option_map, option_or}
use Rattle.std.specs.Str.{bytes_eq}
use Rattle.std.proofs.lemmas.List.Folds.{find-append}
use Rattle.std.proofs.lemmas.Bool.{cases_Bool, or_left, true≢false, false≢true, cond-true, cond-false, false_from_ne_true}
use Rattle.std.proofs.lemmas.Slice.Eq.{bytes_eq-Decides}
use Rattle.testr_conf.specs.Settings.{Setting, setting_value, has_key}
use Rattle.testr_conf.specs.Names.{key_name, named, has_name}
use Rattle.testr_conf.specs.Keys.{found_value, with_value, value_in, found_of}
use Rattle.testr_conf.specs.Steps.{is_taken, kept}
use Rattle.testr_conf.specs.declared.name.Dialect.{Dialect}
use Rattle.testr_conf.specs.declared.name.Dialect.TheVariants.{Testr, Stestr}
use Rattle.testr_conf.specs.declared.name.Name.{Name}
use Rattle.testr_conf.specs.declared.name.Name.TheVariants.{Command, IdOption, ListOption, IdList, Concurrency, GroupRegex, FilterTags, Provision, Execute, Dispose, TestPath, TopDir, ParallelClass}
use Rattle.testr_conf.specs.declared.found_values.Found.{Found}
use Rattle.testr_conf.specs.declared.line_reader.Place.TheVariants.{Default}
use Rattle.testr_conf.proofs.KeyLemmas.{named_key, named_had, names_itself}

has_value : (key : List ℕ) (settings : List Setting) → is_some (setting_value key settings) ≡ has_key key settings
has_value key [] = refl
has_value key (s ∷ settings) =
    ⊎_elim
    (λ here.
    ap (λ b. is_some (option_map (λ x. x.value) (cond b (Some s) (find (λ x. bytes_eq x.key key) settings)))) here
    ∙ sym (or_left (bytes_eq s.key key) (has_key key settings) here))
    (λ other.
    ap (λ b. is_some (option_map (λ x. x.value) (cond b (Some s) (find (λ x. bytes_eq x.key key) settings)))) other
    ∙ has_value key settings ∙ ap (λ b. b || has_key key settings) (sym other))
    (cases_Bool (bytes_eq s.key key))

found_is : (dialect : Dialect) (name : Name) (settings : List Setting) → found_value name (found_of dialect settings) ≡ value_in dialect name settings
found_is dialect Command settings = refl
found_is dialect IdOption settings = refl
found_is dialect ListOption settings = refl
found_is dialect IdList settings = refl
found_is dialect Concurrency settings = refl
found_is dialect GroupRegex settings = refl
found_is dialect FilterTags settings = refl
found_is dialect Provision settings = refl
found_is dialect Execute settings = refl
found_is dialect Dispose settings = refl
found_is dialect TestPath settings = refl
found_is dialect TopDir settings = refl
found_is dialect ParallelClass settings = refl

found_had : (dialect : Dialect) (name : Name) (settings : List Setting) → has_name dialect name ≡ true
    → found_value name (found_of dialect settings) ≡ setting_value (key_name name) settings
found_had dialect name settings has = found_is dialect name settings ∙ cond-true (has_name dialect name) (setting_value (key_name name) settings) None has

-- a key that is used is taken where a setting has it
taken_at : (dialect : Dialect) (key : List ℕ) (settings : List Setting) (o : Option Name) → named dialect key ≡ o
    → is_taken o (found_of dialect settings) ≡ (is_some o && has_key key settings)
taken_at dialect key settings None is = refl
taken_at dialect key settings (Some name) is =
    ap is_some (found_had dialect name settings (named_had dialect key name is)) ∙ has_value (key_name name) settings
    ∙ ap (λ k. has_key k settings) (sym (named_key dialect key name is))

pub taken_is : (dialect : Dialect) (key : List ℕ) (settings : List Setting)
    → is_taken (named dialect key) (found_of dialect settings) ≡ (is_some (named dialect key) && has_key key settings)
taken_is dialect key settings = taken_at dialect key settings (named dialect key) refl

pub has_by_keys : (key : List ℕ) (settings : List Setting) → has_key key settings ≡ list_any (λ k. bytes_eq k key) (map (λ s. s.key) settings)
has_by_keys key [] = refl
has_by_keys key (s ∷ settings) = ap (λ b. bytes_eq s.key key || b) (has_by_keys key settings)

-- One more setting.

push_option : (o : Option Setting) (b : Bool) (s : Setting) → (b ≡ true → is_some (option_map (λ x. x.value) o) ≡ false)
    → option_map (λ x. x.value) (option_or o (cond b (Some s) None)) ≡ cond b (Some s.value) (option_map (λ x. x.value) o)
push_option None true s new = refl
push_option None false s new = refl
push_option (Some t) true s new = absurd (true≢false (new refl))
push_option (Some t) false s new = refl

module _ (settings : List Setting) (s : Setting) where
  value_push : (key : List ℕ) → (bytes_eq s.key key ≡ true → has_key key settings ≡ false)
      → setting_value key (settings ++ s ∷ []) ≡ cond (bytes_eq s.key key) (Some s.value) (setting_value key settings)
  value_push key new =
      ap (option_map (λ x. x.value)) (find-append (λ x. bytes_eq x.key key) settings (s ∷ []))
      ∙ push_option (find (λ x. bytes_eq x.key key) settings) (bytes_eq s.key key) s (λ e. has_value key settings ∙ new e)

  value_same : (key : List ℕ) → bytes_eq s.key key ≡ false → setting_value key (settings ++ s ∷ []) ≡ setting_value key settings
  value_same key other =
      value_push key (λ e. absurd (false≢true (sym other ∙ e))) ∙ cond-false (bytes_eq s.key key) (Some s.value) (setting_value key settings) other

  -- its key is not used
  value_skip : (dialect : Dialect) (name : Name) → named dialect s.key ≡ None → value_in dialect name (settings ++ s ∷ []) ≡ value_in dialect name settings
  value_skip dialect name none = by (has_name dialect name) refl
    where
      by : (b : Bool) → has_name dialect name ≡ b → cond b (setting_value (key_name name) (settings ++ s ∷ [])) None ≡ cond b (setting_value (key_name name) settings) None
      by true has = value_same (key_name name) (false_from_ne_true (bytes_eq s.key (key_name name)) (λ e.
          let both : None ≡ Some name = sym none ∙ ap (named dialect) ((bytes_eq-Decides s.key (key_name name)).0 e) ∙ names_itself dialect name has in
          cc))
      by false has = refl

  pub found_skip : (dialect : Dialect) → named dialect s.key ≡ None → found_of dialect (settings ++ s ∷ []) ≡ found_of dialect settings
  found_skip dialect none = λ i. record {
    command = value_skip dialect Command none i;
    id_option = value_skip dialect IdOption none i;
    list_option = value_skip dialect ListOption none i;
    id_list = value_skip dialect IdList none i;
    concurrency = value_skip dialect Concurrency none i;
    group_regex = value_skip dialect GroupRegex none i;
    filter_tags = value_skip dialect FilterTags none i;
    provision = value_skip dialect Provision none i;
    execute = value_skip dialect Execute none i;
    dispose = value_skip dialect Dispose none i;
    test_path = value_skip dialect TestPath none i;
    top_dir = value_skip dialect TopDir none i;
    parallel_class = value_skip dialect ParallelClass none i;
  }

  -- the value of a name behind a setting of this key
  abbrev value_with : Dialect → Name → List ℕ → Option (List ℕ)
  value_with dialect name key = cond (has_name dialect name) (cond (bytes_eq key (key_name name)) (Some s.value) (setting_value (key_name name) settings)) None

  updated : Dialect → List ℕ → Found
  updated dialect key = record {
    command = value_with dialect Command key;
    id_option = value_with dialect IdOption key;
    list_option = value_with dialect ListOption key;
    id_list = value_with dialect IdList key;
    concurrency = value_with dialect Concurrency key;
    group_regex = value_with dialect GroupRegex key;
    filter_tags = value_with dialect FilterTags key;
    provision = value_with dialect Provision key;
    execute = value_with dialect Execute key;
    dispose = value_with dialect Dispose key;
    test_path = value_with dialect TestPath key;
    top_dir = value_with dialect TopDir key;
    parallel_class = value_with dialect ParallelClass key;
  }

  updated_is : (dialect : Dialect) (name : Name) → has_name dialect name ≡ true → updated dialect (key_name name) ≡ with_value name s.value (found_of dialect settings)
  unfolding updated
  updated_is Testr Command has = refl
  updated_is Testr IdOption has = refl
  updated_is Testr ListOption has = refl
  updated_is Testr IdList has = refl
  updated_is Testr Concurrency has = refl
  updated_is Testr GroupRegex has = refl
  updated_is Testr FilterTags has = refl
  updated_is Testr Provision has = refl
  updated_is Testr Execute has = refl
  updated_is Testr Dispose has = refl
  updated_is Testr TestPath has = absurd (false≢true has)
  updated_is Testr TopDir has = absurd (false≢true has)
  updated_is Testr ParallelClass has = absurd (false≢true has)
  updated_is Stestr Command has = absurd (false≢true has)
  updated_is Stestr IdOption has = absurd (false≢true has)
  updated_is Stestr ListOption has = absurd (false≢true has)
  updated_is Stestr IdList has = absurd (false≢true has)
  updated_is Stestr Concurrency has = absurd (false≢true has)
  updated_is Stestr GroupRegex has = refl
  updated_is Stestr FilterTags has = absurd (false≢true has)
  updated_is Stestr Provision has = absurd (false≢true has)
  updated_is Stestr Execute has = absurd (false≢true has)
  updated_is Stestr Dispose has = absurd (false≢true has)
  updated_is Stestr TestPath has = refl
  updated_is Stestr TopDir has = refl
  updated_is Stestr ParallelClass has = refl

  module _ (dialect : Dialect) (new : (key : List ℕ) → bytes_eq s.key key ≡ true → has_key key settings ≡ false) where
    value_updated : (name : Name) → value_in dialect name (settings ++ s ∷ []) ≡ value_with dialect name s.key
    value_updated name = ap (λ v. cond (has_name dialect name) v None) (value_push (key_name name) (new (key_name name)))

    found_updated : found_of dialect (settings ++ s ∷ []) ≡ updated dialect s.key
    unfolding updated
    found_updated = λ i. record {
      command = value_updated Command i;
      id_option = value_updated IdOption i;
      list_option = value_updated ListOption i;
      id_list = value_updated IdList i;
      concurrency = value_updated Concurrency i;
      group_regex = value_updated GroupRegex i;
      filter_tags = value_updated FilterTags i;
      provision = value_updated Provision i;
      execute = value_updated Execute i;
      dispose = value_updated Dispose i;
      test_path = value_updated TestPath i;
      top_dir = value_updated TopDir i;
      parallel_class = value_updated ParallelClass i;
    }

  -- its key is used, and is not taken
  pub found_push : (dialect : Dialect) (name : Name) → named dialect s.key ≡ Some name → is_taken (Some name) (found_of dialect settings) ≡ false
      → found_of dialect (settings ++ s ∷ []) ≡ with_value name s.value (found_of dialect settings)
  found_push dialect name is free =
      let key_is : s.key ≡ key_name name = named_key dialect s.key name is in
      let has : has_name dialect name ≡ true = named_had dialect s.key name is in
      let none : has_key (key_name name) settings ≡ false = sym (has_value (key_name name) settings) ∙ sym (ap is_some (found_had dialect name settings has)) ∙ free in
      found_updated dialect (λ key same. ap (λ k. has_key k settings) (sym ((bytes_eq-Decides s.key key).0 same) ∙ key_is) ∙ none)
      ∙ ap (updated dialect) key_is ∙ updated_is dialect name has

  pub kept_default : (dialect : Dialect) (o : Option Name) → named dialect s.key ≡ o → is_taken o (found_of dialect settings) ≡ false
      → kept Default o s.value (found_of dialect settings) ≡ found_of dialect (settings ++ s ∷ [])
  kept_default dialect None is free = sym (found_skip dialect is)
  kept_default dialect (Some name) is free = sym (found_push dialect name is free)
