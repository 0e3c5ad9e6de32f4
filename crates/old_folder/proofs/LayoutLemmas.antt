-- What a short file tells: whose format it is, and which number comes next.
use Rattle.std.proofs.Common.{◌≡◌, ◌⊎◌, inl, inr, ℕ, ◌<◌, ◌≤◌, nat_le, Bool, true, false, ◌||◌, if◌then◌else◌, Option, Some, None, IfSome, List, length, take, refl, sym, ap, ◌∙◌, arith}
use Rattle.std.specs.Str.{bytes_eq}
use Rattle.std.proofs.lemmas.Bool.{cond-true, cond-false, le-leb, lt-leb}
use Rattle.std.proofs.lemmas.Slice.Eq.{bytes_eq-Decides}
use Rattle.edge_io.specs.Disk.{Files, Folder}
use Rattle.edge_io.specs.Steps.{Goes, Stays}
use Rattle.run_shelf.specs.Adoption.{IsOld, old_format_bytes}
use Rattle.run_shelf.specs.Repository.{format_name, format_bytes, based_format_bytes, HasFormat}
use Rattle.run_shelf.proofs.LookSteps.{goes_known}
use Rattle.old_folder.specs.Looking.{IsShortRead, layout_of, HasStrangeFormat}
use Rattle.old_folder.specs.Olds.{next_name, next_of, next_in, count_in, trim_white_space}
use Rattle.old_folder.specs.declared.folder_survey.Layout.TheVariants.{Old, Ours, Other}
use Rattle.old_folder.specs.declared.short_file.Short.TheVariants.{Absent, Long, Whole}

module _ (bytes : List ℕ) where
  old_by : (old ours : Bool) → (if old then Old else if ours then Ours else Other) ≡ Old → old ≡ true
  old_by true ours is = refl
  old_by false true is = cc
  old_by false false is = cc

  ours_by : (old ours : Bool) → (if old then Old else if ours then Ours else Other) ≡ Ours → ours ≡ true
  ours_by true ours is = cc
  ours_by false true is = refl
  ours_by false false is = cc

  other_by : (old ours : Bool) → (if old then Old else if ours then Ours else Other) ≡ Other → (old ≡ false) × (ours ≡ false)
  other_by true ours is = cc
  other_by false true is = cc
  other_by false false is = (refl, refl)

  either : (a b : Bool) → (a || b) ≡ true → (a ≡ true) ⊎ (b ≡ true)
  either true b is = inl refl
  either false b is = inr is

  neither : (a b : Bool) → (a || b) ≡ false → (a ≡ false) × (b ≡ false)
  neither true b is = cc
  neither false b is = (refl, is)

  is_bytes : (other : List ℕ) → bytes_eq bytes other ≡ true → bytes ≡ other
  is_bytes other is = (bytes_eq-Decides bytes other).0 is

  not_bytes : (other : List ℕ) → bytes_eq bytes other ≡ false → bytes ≡ other → ⊥
  not_bytes other is same = let yes : bytes_eq bytes other ≡ true = (bytes_eq-Decides bytes other).1 same in cc

  abbrev is_old : Bool
  is_old = bytes_eq bytes old_format_bytes

  abbrev is_ours : Bool
  is_ours = bytes_eq bytes format_bytes || bytes_eq bytes based_format_bytes

  module _ (files : Files) (there : files format_name ≡ Some bytes) where
    pub old_format : layout_of bytes ≡ Old → IsOld files
    old_format is = there ∙ ap Some (is_bytes old_format_bytes (old_by is_old is_ours is))

    pub our_format : layout_of bytes ≡ Ours → HasFormat files
    our_format is = elim (either (bytes_eq bytes format_bytes) (bytes_eq bytes based_format_bytes) (ours_by is_old is_ours is)) [
      | inl first ↦ inl (there ∙ ap Some (is_bytes format_bytes first))
      | inr second ↦ inr (there ∙ ap Some (is_bytes based_format_bytes second))
    ]

    same_bytes : (other : List ℕ) → files format_name ≡ Some other → bytes ≡ other
    same_bytes other is = let both : Some bytes ≡ Some other = sym there ∙ is in cc

    strange_by : (bytes ≡ old_format_bytes → ⊥) → (bytes ≡ format_bytes → ⊥) → (bytes ≡ based_format_bytes → ⊥) → HasStrangeFormat files
    strange_by no_old no_first no_second = record {
      other = (bytes, there, no_first, no_second);
      not_old = λ old. no_old (same_bytes old_format_bytes old);
    }

    pub strange_format : layout_of bytes ≡ Other → HasStrangeFormat files
    strange_format is =
        let both = other_by is_old is_ours is in
        let two = neither (bytes_eq bytes format_bytes) (bytes_eq bytes based_format_bytes) both.1 in
        strange_by (not_bytes old_format_bytes both.0) (not_bytes format_bytes two.0) (not_bytes based_format_bytes two.1)

    pub long_format : 64 < length bytes → HasStrangeFormat files
    long_format more =
        strange_by (λ e. omega (arith, more, ap length e ∙ old_size)) (λ e. omega (arith, more, ap length e ∙ first_size)) (λ e. omega (arith, more, ap length e ∙ second_size))
      where
        old_size : length old_format_bytes ≡ 2
        old_size = refl

        first_size : length format_bytes ≡ 16
        first_size = refl

        second_size : length based_format_bytes ≡ 16
        second_size = refl

-- where the folder is told or not
module _ (a b : Option Folder) (same : Goes a b Stays) (buf : List ℕ) where
  pub goes_absent : IfSome a (λ s. IsShortRead (s.disk.published format_name) buf Absent) → Goes a b (λ s t. s.disk.published format_name ≡ None)
  goes_absent found = goes_known a b same (λ s. s.disk.published format_name ≡ None) found

  long_known : (a : Option Folder) → IfSome a (λ s. IsShortRead (s.disk.published format_name) buf Long) → IfSome a (λ s. HasStrangeFormat s.disk.published)
  long_known None found = tt
  long_known (Some s) found = long_format found.0 s.disk.published found.1 found.2

  pub goes_long : IfSome a (λ s. IsShortRead (s.disk.published format_name) buf Long) → Goes a b (λ s t. HasStrangeFormat s.disk.published)
  goes_long found = goes_known a b same (λ s. HasStrangeFormat s.disk.published) (long_known a found)

  module _ (count : ℕ) (found : IfSome a (λ s. IsShortRead (s.disk.published format_name) buf (Whole count))) where
    known : (P : Files → Type 0) → ((files : Files) → files format_name ≡ Some (take count buf) → P files) → IfSome a (λ s. P s.disk.published)
    known P by = each a found
      where
        each : (a : Option Folder) → IfSome a (λ s. IsShortRead (s.disk.published format_name) buf (Whole count)) → IfSome a (λ s. P s.disk.published)
        each None found = tt
        each (Some s) found = by s.disk.published found.0

    pub known_old : layout_of (take count buf) ≡ Old → IfSome a (λ s. IsOld s.disk.published)
    known_old is = known IsOld (λ files there. old_format (take count buf) files there is)

    pub goes_ours : layout_of (take count buf) ≡ Ours → Goes a b (λ s t. HasFormat s.disk.published)
    goes_ours is = goes_known a b same (λ s. HasFormat s.disk.published) (known HasFormat (λ files there. our_format (take count buf) files there is))

    pub goes_strange : layout_of (take count buf) ≡ Other → Goes a b (λ s t. HasStrangeFormat s.disk.published)
    goes_strange is = goes_known a b same (λ s. HasStrangeFormat s.disk.published) (known HasStrangeFormat (λ files there. strange_format (take count buf) files there is))

-- the number that comes next
module _ (buf : List ℕ) where
  absent_in : (o : Option (List ℕ)) → o ≡ None → None ≡ next_in o
  absent_in None is = refl
  absent_in (Some bytes) is = cc

  long_in : (o : Option (List ℕ)) (bytes : List ℕ) → o ≡ Some bytes → 64 < length bytes → None ≡ next_in o
  long_in o bytes is more = sym (ap next_in is ∙ cond-false (nat_le (length bytes) 64) (count_in (trim_white_space bytes)) None (lt-leb (length bytes) 64 more))

  whole_in : (o : Option (List ℕ)) (bytes : List ℕ) → o ≡ Some bytes → length bytes ≤ 64 → count_in (trim_white_space bytes) ≡ next_in o
  whole_in o bytes is few = sym (ap next_in is ∙ cond-true (nat_le (length bytes) 64) (count_in (trim_white_space bytes)) None (le-leb (length bytes) 64 few))

  pub next_absent : (a : Option Folder) → IfSome a (λ s. IsShortRead (s.disk.published next_name) buf Absent) → IfSome a (λ s. None ≡ next_of s.disk.published)
  next_absent None found = tt
  next_absent (Some s) found = absent_in (s.disk.published next_name) found

  pub next_long : (a : Option Folder) → IfSome a (λ s. IsShortRead (s.disk.published next_name) buf Long) → IfSome a (λ s. None ≡ next_of s.disk.published)
  next_long None found = tt
  next_long (Some s) found = long_in (s.disk.published next_name) found.0 found.1 found.2

  pub next_whole : (a : Option Folder) (count : ℕ) → IfSome a (λ s. IsShortRead (s.disk.published next_name) buf (Whole count)) → IfSome a (λ s. count_in (trim_white_space (take count buf)) ≡ next_of s.disk.published)
  next_whole None count found = tt
  next_whole (Some s) count found = whole_in (s.disk.published next_name) (take count buf) found.0 found.1
