-- What the names of a folder say of its files.
use Rattle.std.proofs.Common.{◌≡◌, ◌≢◌, inl, inr, ℕ, ◌+◌, ◌%◌, ◌<◌, ◌≤◌, ◌^◌, if◌then◌else◌, Bool, true, false, true≢false, Option, Some, None, IsSome, IfSome, List, [], ◌∷◌, ◌++◌, length, take, drop, refl, sym, ap, ◌∙◌, subst, ltb, arith, length-append}
use Rattle.std.specs.Prelude.{All, Contains, slice_get, codes}
use Rattle.std.specs.Fmt.{decimal}
use Rattle.std.specs.Option.{option_map}
use Rattle.std.proofs.lemmas.Bool.{cases_lt, lt-ltb}
use Rattle.std.proofs.lemmas.Fmt.{IsAscii-decimal, decimal_by_steps, length-decimal-le}
use Rattle.std.proofs.lemmas.List.Elements.{All-nil, All-cons, All-append}
use Rattle.std.proofs.lemmas.Str.{IsUtf8-from_ascii, IsAscii-append}
use Rattle.std.proofs.lemmas.Str.Ascii.{IsAscii-from_all}
use Rattle.std.proofs.lemmas.List.{take_all}
use Rattle.sub_number.specs.Texts.{IsShortText}
use Rattle.edge_io.specs.Disk.{Files, Folder}
use Rattle.edge_io.specs.Names.{AreNamesOf, ListsNames}
use Rattle.edge_io.specs.Steps.{Goes, Stays, Settled, FindsLength, ReadsPart, IsPart}
use Rattle.edge_io.proofs.Going.{goes_then, goes_from, goes_weaker}
use Rattle.run_shelf.specs.declared.faults.OpenFault.{OpenFault}
use Rattle.run_shelf.specs.declared.faults.OpenFault.TheVariants.{NoStore, UnknownFormat, BadBase, Gap, Shelf, NoMemory}
use Rattle.run_shelf.specs.declared.names.Format.{Format}
use Rattle.run_shelf.specs.declared.names.Format.TheVariants.{First, Second}
use Rattle.run_shelf.specs.Looking.{ShowsKinds, LookFails, CountsOld, HasThisFormat, bytes_of_format, base_calls}
use Rattle.run_shelf.specs.Marks.{IsKindOf, IsKindIn, HasRunIn, NamesTellKinds, NamesTellGap, LacksOldName, NamesFail}
use Rattle.run_shelf.specs.Repository.{Run, run_of_files, run_at, kind_at, full_name, partial_name, run_name, most_runs, HasKinds, HasGoodBase, HasBadBase, LacksOldRun, HasBaseForm, IsRepository, IsGap, HasFormat, HasOtherFormat, is_based, base_of, format_name, format_bytes, based_format_bytes}
use Rattle.run_shelf.proofs.BaseLemmas.{base_few}
use Rattle.run_shelf.proofs.RunLemmas.{past_items, taken_before, none_is_not_some}

digits_one : (n : ℕ) → n < 10 → All (λ byte. byte ≢ 0) ((48 + n) ∷ [])
digits_one n one = All-cons (λ byte. byte ≢ 0) (48 + n) [] (λ e. omega (arith, e)) (All-nil (λ byte. byte ≢ 0))

digits_more : (n : ℕ) (ds : List ℕ) → 10 ≤ n → All (λ byte. byte ≢ 0) ds → All (λ byte. byte ≢ 0) (ds ++ (48 + n % 10) ∷ [])
digits_more n ds more all =
    All-append (λ byte. byte ≢ 0) ds ((48 + n % 10) ∷ []) all
    (All-cons (λ byte. byte ≢ 0) (48 + n % 10) [] (λ e. omega (arith, e)) (All-nil (λ byte. byte ≢ 0)))

digits_not_nul : (n : ℕ) → n < 2 ^ 64 → All (λ byte. byte ≢ 0) (decimal n)
digits_not_nul n fits = decimal_by_steps (λ m ds. All (λ byte. byte ≢ 0) ds) digits_one digits_more n fits

part_all : (P : ℕ → Type 0) → P 46 → P 112 → P 97 → P 114 → P 116 → All P (codes ".part")
part_all P a b c d e =
    All-cons P 46 (codes "part") a (All-cons P 112 (codes "art") b (All-cons P 97 (codes "rt") c (All-cons P 114 (codes "t") d (All-cons P 116 [] e (All-nil P)))))

-- the name of a run is a text
pub name_is_text : (number : ℕ) (partial : Bool) → number < most_runs → IsShortText (run_name number partial)
name_is_text number false few = record {
  text = record { utf8 = IsUtf8-from_ascii (decimal number) (IsAscii-decimal number (omega arith)); no_nul = digits_not_nul number (omega arith) };
  short = omega (arith, length-decimal-le 6 number (omega arith) (omega arith) (omega arith));
}
name_is_text number true few = record {
  text = record {
    utf8 = IsUtf8-from_ascii (partial_name number)
        (IsAscii-append (decimal number) (codes ".part") (IsAscii-decimal number (omega arith))
        (IsAscii-from_all (codes ".part") (part_all (λ b. b < 128) (omega arith) (omega arith) (omega arith) (omega arith) (omega arith))));
    no_nul = All-append (λ byte. byte ≢ 0) (decimal number) (codes ".part") (digits_not_nul number (omega arith))
        (part_all (λ byte. byte ≢ 0) (λ e. omega (arith, e)) (λ e. omega (arith, e)) (λ e. omega (arith, e)) (λ e. omega (arith, e)) (λ e. omega (arith, e)));
  };
  short = omega (arith, length-append (decimal number) (codes ".part"), length-decimal-le 6 number (omega arith) (omega arith) (omega arith));
}

none_from : (o : Option (List ℕ)) → (IsSome o → ⊥) → o ≡ None
none_from None none = refl
none_from (Some bytes) none = absurd (none refl)

full_kind : (full partial : Option (List ℕ)) → IsSome full → option_map (λ (r : Run). r.partial) (run_of_files false full partial) ≡ Some false
full_kind None partial some = cc
full_kind (Some bytes) partial some = refl

partial_kind : (full partial : Option (List ℕ)) → full ≡ None → IsSome partial → option_map (λ (r : Run). r.partial) (run_of_files false full partial) ≡ Some true
partial_kind None None none some = cc
partial_kind None (Some bytes) none some = refl
partial_kind (Some bytes) partial none some = cc

no_kind : (full partial : Option (List ℕ)) → full ≡ None → partial ≡ None → option_map (λ (r : Run). r.partial) (run_of_files false full partial) ≡ None
no_kind None None none also = refl
no_kind None (Some bytes) none also = cc
no_kind (Some bytes) partial none also = cc

old_kind : (full partial : Option (List ℕ)) → IsSome partial → option_map (λ (r : Run). r.partial) (run_of_files true full partial) ≡ Some true
old_kind full None some = cc
old_kind full (Some bytes) some = refl

no_old_kind : (full partial : Option (List ℕ)) → partial ≡ None → option_map (λ (r : Run). r.partial) (run_of_files true full partial) ≡ None
no_old_kind full None none = refl
no_old_kind full (Some bytes) none = cc

kind_none : (run : Option Run) → option_map (λ (r : Run). r.partial) run ≡ None → run ≡ None
kind_none None none = refl
kind_none (Some run) none = cc

kind_some : (run : Option Run) (kind : Bool) → option_map (λ (r : Run). r.partial) run ≡ Some kind → IsSome run
kind_some None kind some = cc
kind_some (Some run) kind some = refl

-- the base is good where each number that it counts has a run
partial_there : (full partial : Option (List ℕ)) → IsSome (run_of_files true full partial) → IsSome partial
partial_there full None some = cc
partial_there full (Some bytes) some = refl

pub good_by : (files : Files) → HasBaseForm files → ((number : ℕ) → number < (base_of files).count → IsSome (run_at files number)) → HasGoodBase files
good_by files form runs = record {
  form = form;
  old = λ number less.
      partial_there (files (full_name number)) (files (partial_name number))
      (subst (λ b. IsSome (run_of_files b (files (full_name number)) (files (partial_name number)))) (lt-ltb number (base_of files).count less) (runs number less));
}

module _ (files : Files) (names : List (List ℕ)) (are : AreNamesOf files names) where
  there : (name : List ℕ) → Contains names name → IsSome (files name)
  there name here = ((are.each name).0 here).1

  not_there : (number : ℕ) (partial : Bool) → number < most_runs → (Contains names (run_name number partial) → ⊥) → files (run_name number partial) ≡ None
  not_there number partial few none = none_from (files (run_name number partial)) (λ some. none ((are.each (run_name number partial)).1 (name_is_text number partial few, some)))

  kind_of : (below : Bool) (number : ℕ) → number < most_runs → (o : Option Bool) → IsKindOf names below (full_name number) (partial_name number) o
      → option_map (λ (r : Run). r.partial) (run_of_files below (files (full_name number)) (files (partial_name number))) ≡ o
  kind_of true number few None is = no_old_kind (files (full_name number)) (files (partial_name number)) (not_there number true few is)
  kind_of true number few (Some false) is = absurd is
  kind_of true number few (Some true) is = old_kind (files (full_name number)) (files (partial_name number)) (there (partial_name number) is)
  kind_of false number few None is = no_kind (files (full_name number)) (files (partial_name number)) (not_there number false few is.0) (not_there number true few is.1)
  kind_of false number few (Some false) is = full_kind (files (full_name number)) (files (partial_name number)) (there (full_name number) is)
  kind_of false number few (Some true) is = partial_kind (files (full_name number)) (files (partial_name number)) (not_there number false few is.0) (there (partial_name number) is.1)

  -- where so many runs are old as the base counts
  module _ (old : ℕ) (counted : old ≡ (base_of files).count) (form : HasBaseForm files) where
    pub kind_is : (number : ℕ) → number < most_runs → (o : Option Bool) → IsKindIn names old number o → kind_at files number ≡ o
    kind_is number few o is = kind_of (ltb number (base_of files).count) number few o (subst (λ (n : ℕ). IsKindIn names n number o) counted is)

    pub kinds_are : (kinds : List Bool) → NamesTellKinds names old kinds → HasKinds files kinds
    kinds_are kinds have = record { few = have.few; each = λ number few. kind_is number few (slice_get kinds number) (have.each number few) }

    run_there : (number : ℕ) → number < most_runs → HasRunIn names old number → IsSome (run_at files number)
    run_there number few has = kind_some (run_at files number) has.0 (kind_is number few (Some has.0) has.1)

    few_old : (number : ℕ) → number < (base_of files).count → number < most_runs
    few_old number less = omega (arith, less, base_few files form)

    pub gap_is : (number : ℕ) → NamesTellGap names old number → IsGap files number
    gap_is number gap = record {
      base = good_by files form (λ other less. run_there other (few_old other less) (gap.before other (omega (arith, less, counted, gap.enough))));
      first = record {
        few = gap.few;
        free = kind_none (run_at files number) (kind_is number gap.few None gap.free);
        before = λ other less. run_there other (omega (arith, gap.few)) (gap.before other less);
      };
      other = gap.other;
      behind = gap.behind;
      other_few = gap.other_few;
      other_run = run_there gap.other gap.other_few gap.other_run;
    }

    pub lacks_is : LacksOldName names old → LacksOldRun files
    lacks_is lacks = record {
      form = form;
      number = lacks.number;
      counted = omega (arith, lacks.less, counted);
      none = not_there lacks.number true (few_old lacks.number (omega (arith, lacks.less, counted))) lacks.none;
    }

-- the kinds of all runs leave no gap
pub repository_is : (files : Files) (kinds : List Bool) → HasFormat files → HasBaseForm files → (base_of files).count ≤ length kinds → HasKinds files kinds → IsRepository files
repository_is files kinds format form enough has = record {
  format = format;
  base = good_by files form (λ number less. taken_before files kinds has number (omega (arith, less, enough)));
  no_gap = λ number other less few some. elim (cases_lt other (length kinds)) [
    | inl within ↦ taken_before files kinds has number (omega arith)
    | inr past ↦ absurd (none_is_not_some (run_at files other) (kind_none (run_at files other) (has.each other few ∙ past_items kinds other past)) some)
  ];
}

-- where the folder is told or not
module _ (a b : Option Folder) (same : Goes a b Stays) where
  pub stays_back : (P : Folder → Type 0) → IfSome b P → IfSome a P
  stays_back P here = back a b P same here
    where
      back : (a b : Option Folder) (P : Folder → Type 0) → Goes a b Stays → IfSome b P → IfSome a P
      back None b P same here = tt
      back (Some s) None P same here = absurd same
      back (Some s) (Some t) P same here = subst P same here

  pub goes_known : (P : Folder → Type 0) → IfSome a P → Goes a b (λ s t. P s)
  goes_known P here = goes_from a b P Stays (λ s t. P s) here same (λ s t p is. p)

pub stays_then : (a b c : Option Folder) → Goes a b Stays → Goes b c Stays → Goes a c Stays
stays_then a b c first second = goes_then a b c Stays Stays Stays first second (λ s m t p q. q ∙ p)

-- the base takes as many calls then
pub calls_still : (a b : Option Folder) → Goes a b Stays → base_calls b ≡ base_calls a
calls_still None None same = refl
calls_still None (Some t) same = absurd same
calls_still (Some s) None same = absurd same
calls_still (Some s) (Some t) same = ap (λ (f : Folder). base_calls (Some f)) same

pub calls_settled : (a b : Option Folder) → Goes a b Settled → base_calls b ≡ base_calls a
calls_settled None None settled = refl
calls_settled None (Some t) settled = absurd settled
calls_settled (Some s) None settled = absurd settled
calls_settled (Some s) (Some t) settled = ap (λ (f : Folder). base_calls (Some f)) settled

abbrev two_calls : Bool → ℕ
two_calls b = if b then 2 else 0

two_by : (b : Bool) → b ≡ true → two_calls b ≡ 2
two_by true is = refl
two_by false is = absurd (true≢false (sym is))

pub calls_second : (a : Option Folder) → IfSome a (HasThisFormat Second) → base_calls a ≡ 2
calls_second None second = refl
calls_second (Some s) second = two_by (is_based (s.disk.published format_name)) (ap is_based second)

both_some : (a : Option Folder) (P Q R : Folder → Type 0) → IfSome a P → IfSome a Q → ((s : Folder) → P s → Q s → R s) → IfSome a R
both_some None P Q R p q f = tt
both_some (Some s) P Q R p q f = f s p q

-- what is known of a folder before its names are looked at
pub record IsCountedFolder (old : ℕ) (s : Folder) : Type 0 where
  format : HasFormat s.disk.published
  counts : CountsOld old s

pub counted_by : (format : Format) (old : ℕ) (a : Option Folder) → IfSome a (HasThisFormat format) → IfSome a (CountsOld old) → IfSome a (IsCountedFolder old)
counted_by format old a this counts = both_some a (HasThisFormat format) (CountsOld old) (IsCountedFolder old) this counts (λ s right count. record { format = either format s right; counts = count })
  where
    either : (format : Format) (s : Folder) → HasThisFormat format s → HasFormat s.disk.published
    either First s right = inl right
    either Second s right = inr right

module _ (a : Option Folder) (names : List (List ℕ)) (old : ℕ) (known : IfSome a (IsCountedFolder old)) (lists : ListsNames a names) where
  pub looks_like : (kinds : List Bool) → NamesTellKinds names old kinds → IfSome a (ShowsKinds kinds)
  looks_like kinds have =
      both_some a (IsCountedFolder old) (λ s. AreNamesOf s.disk.published names) (ShowsKinds kinds) known lists
      (λ s know are.
      let has = kinds_are s.disk.published names are old know.counts.is know.counts.form kinds have in
      record { repository = repository_is s.disk.published kinds know.format know.counts.form (omega (arith, know.counts.is, have.enough)) has; kinds_are = has })

  pub gap_known : (number : ℕ) → NamesTellGap names old number → IfSome a (λ s. HasFormat s.disk.published × IsGap s.disk.published number)
  gap_known number gap =
      both_some a (IsCountedFolder old) (λ s. AreNamesOf s.disk.published names) (λ s. HasFormat s.disk.published × IsGap s.disk.published number) known lists
      (λ s know are. (know.format, gap_is s.disk.published names are old know.counts.is know.counts.form number gap))

  pub lacks_known : LacksOldName names old → IfSome a (λ s. HasFormat s.disk.published × HasBadBase s.disk.published)
  lacks_known lacks =
      both_some a (IsCountedFolder old) (λ s. AreNamesOf s.disk.published names) (λ s. HasFormat s.disk.published × HasBadBase s.disk.published) known lists
      (λ s know are. (know.format, inr (lacks_is s.disk.published names are old know.counts.is know.counts.form lacks)))

  pub names_fail : (fault : OpenFault) (b : Option Folder) → Goes a b Stays → NamesFail names old fault → Goes a b (LookFails fault)
  names_fail NoStore b same fails = absurd fails
  names_fail UnknownFormat b same fails = absurd fails
  names_fail BadBase b same fails = goes_known a b same (λ s. HasFormat s.disk.published × HasBadBase s.disk.published) (lacks_known fails)
  names_fail (Gap number) b same fails = goes_known a b same (λ s. HasFormat s.disk.published × IsGap s.disk.published number) (gap_known number fails)
  names_fail (Shelf call) b same fails = absurd fails
  names_fail NoMemory b same fails = goes_weaker a b Stays (LookFails NoMemory) same (λ s t is. tt)

some_same : (a b : ℕ) → Some a ≡ Some b → a ≡ b
some_same a b e = cc

-- the file `format` by its size and the bytes that were read of it
module _ (files : Files) (size : ℕ) (buf : List ℕ) (count : ℕ) (room : length buf ≡ 16) where
  whole : (bytes : List ℕ) → IsPart bytes 0 buf count → length bytes ≡ 16 → take count buf ≡ bytes
  whole bytes part long = part.same ∙ take_all (length buf) (drop 0 bytes) (omega (arith, room, long))

  sixteen : (format : Format) → length (bytes_of_format format) ≡ 16
  sixteen First = refl
  sixteen Second = refl

  other_by : (o : Option (List ℕ)) → files format_name ≡ o → Some size ≡ option_map length o → IfSome o (λ bytes. IsPart bytes 0 buf count)
      → ((format : Format) → size ≡ 16 → take count buf ≡ bytes_of_format format → ⊥) → HasOtherFormat files
  other_by None here is part wrong = cc
  other_by (Some bytes) here is part wrong = (bytes, here, differs First, differs Second)
    where
      differs : (format : Format) → bytes ≡ bytes_of_format format → ⊥
      differs format e =
          let long : length bytes ≡ 16 = ap length e ∙ sixteen format in
          wrong format (some_same size (length bytes) is ∙ long) (whole bytes part long ∙ e)

-- where the folder is told or not
module _ (a : Option Folder) (size : ℕ) (buf : List ℕ) (count : ℕ) (room : length buf ≡ 16) (finds : FindsLength a format_name (Some size)) (part : ReadsPart a format_name 0 buf count) where
  pub other_format : ((format : Format) → size ≡ 16 → take count buf ≡ bytes_of_format format → ⊥) → IfSome a (λ s. HasOtherFormat s.disk.published)
  other_format wrong =
      both_some a (λ s. Some size ≡ option_map length (s.disk.published format_name)) (λ s. IfSome (s.disk.published format_name) (λ bytes. IsPart bytes 0 buf count)) (λ s. HasOtherFormat s.disk.published) finds part
      (λ s is read. other_by s.disk.published size buf count room (s.disk.published format_name) refl is read wrong)

-- the file `format` of a repository
format_some : (files : Files) → HasFormat files → IsSome (files format_name)
format_some files (inl first) = subst IsSome (sym first) refl
format_some files (inr second) = subst IsSome (sym second) refl

pub format_there : (a : Option Folder) → IfSome a (λ s. IsRepository s.disk.published) → IfSome a (λ s. IsSome (s.disk.published format_name))
format_there None repository = tt
format_there (Some s) repository = format_some s.disk.published repository.format

length_of_format : (o : Option (List ℕ)) (format : Format) → o ≡ Some (bytes_of_format format) → IfSome o (λ bytes. length bytes ≡ 16)
length_of_format None format is = tt
length_of_format (Some bytes) First is = let same : bytes ≡ format_bytes = cc in ap length same
length_of_format (Some bytes) Second is = let same : bytes ≡ based_format_bytes = cc in ap length same

module _ (buf : List ℕ) (count : ℕ) (room : length buf ≡ 16) (format : Format) (read : take count buf ≡ bytes_of_format format) where
  same_file : (o : Option (List ℕ)) → IsSome o → IfSome o (λ bytes. length bytes ≡ 16) → IfSome o (λ bytes. IsPart bytes 0 buf count) → o ≡ Some (bytes_of_format format)
  same_file None some long part = cc
  same_file (Some bytes) some long part = ap Some (sym (part.same ∙ take_all (length buf) (drop 0 bytes) (omega (arith, room, long))) ∙ read)

  by_format : (files : Files) → HasFormat files → IfSome (files format_name) (λ bytes. IsPart bytes 0 buf count) → files format_name ≡ Some (bytes_of_format format)
  by_format files (inl first) part = same_file (files format_name) (format_some files (inl first)) (length_of_format (files format_name) First first) part
  by_format files (inr second) part = same_file (files format_name) (format_some files (inr second)) (length_of_format (files format_name) Second second) part

  pub again_by : (a : Option Folder) → IfSome a (λ s. IsRepository s.disk.published) → ReadsPart a format_name 0 buf count → IfSome a (HasThisFormat format)
  again_by None repository part = tt
  again_by (Some s) repository part = by_format s.disk.published repository.format part
