-- The base of files.
use Rattle.std.proofs.Common.{◌≡◌, ◌≢◌, inl, inr, ℕ, ◌<◌, ◌≤◌, ◌^◌, ◌==◌, ltb, cond, if◌then◌else◌, Bool, true, false, true≢false, Option, Some, None, IsSome, IfSome, List, [], ◌∷◌, ◌++◌, refl, sym, ap, ◌∙◌, subst, append_assoc, arith}
use Rattle.std.specs.Prelude.{All, IsSomeAnd}
use Rattle.std.specs.Fmt.{decimal}
use Rattle.std.specs.Cmp.Lexicographic.{slice_cmp}
use Rattle.std.specs.List.{flat_map}
use Rattle.std.specs.List.Sorted.{IsStrictlySortedBy}
use Rattle.std.specs.Ordering.{nat_cmp}
use Rattle.std.specs.Str.Parse.{digits_value}
use Rattle.std.proofs.lemmas.Bool.{ne_eqb, eq-eqb}
use Rattle.std.proofs.lemmas.Fmt.{decimal_is_IsNumeral}
use Rattle.std.proofs.lemmas.Slice.Eq.{bytes_eq-Decides}
use Rattle.std.proofs.lemmas.List.Elements.{All-nil, All-cons, All-head, All-tail}
use Rattle.sub_number.specs.Texts.{IsShortText}
use Rattle.sub_number.specs.Lines.{with_newline}
use Rattle.edge_io.specs.Disk.{Files, Folder}
use Rattle.run_shelf.specs.declared.base_set.Base.{Base as ABase}
use Rattle.run_shelf.specs.Looking.{seen_base, ReadsBase, CountsOld}
use Rattle.run_shelf.specs.Bases.{Base, no_base, base_name, base_title, IsBase, first_line, behind_line, onto_first, zero_ended_pieces, base_in, HoldsBase}
use Rattle.run_shelf.specs.IdFiles.{with_zero, Lacks}
use Rattle.run_shelf.specs.Repository.{format_name, format_bytes, based_format_bytes, is_based, base_under, base_of, HasFormat, HasBasedFormat, HasBaseForm, LacksBaseForm, HasGoodBase, run_of_files, run_at, full_name, partial_name, most_runs}
use Rattle.run_shelf.proofs.IdFormLemmas.{decimal_digits, no_zero, piece_behind}
use Rattle.run_shelf.proofs.IdHeadLemmas.{line_rest}

-- ---- the bytes tell it

first_is : (text rest : List ℕ) → Lacks 10 text → first_line (text ++ 10 ∷ rest) ≡ text
first_is [] rest lacks = refl
first_is (x ∷ text) rest lacks =
    ap (λ b. cond b [] (x ∷ first_line (text ++ 10 ∷ rest))) (ne_eqb x 10 (All-head (λ b. b ≢ 10) x text lacks))
    ∙ ap (λ l. x ∷ l) (first_is text rest (All-tail (λ b. b ≢ 10) x text lacks))

behind_is : (text rest : List ℕ) → Lacks 10 text → behind_line (text ++ 10 ∷ rest) ≡ rest
behind_is [] rest lacks = refl
behind_is (x ∷ text) rest lacks =
    ap (λ b. cond b (text ++ 10 ∷ rest) (behind_line (text ++ 10 ∷ rest))) (ne_eqb x 10 (All-head (λ b. b ≢ 10) x text lacks))
    ∙ behind_is text rest (All-tail (λ b. b ≢ 10) x text lacks)

pieces_cut : (text rest : List ℕ) → Lacks 0 text → zero_ended_pieces (text ++ 0 ∷ rest) ≡ text ∷ zero_ended_pieces rest
pieces_cut [] rest lacks = refl
pieces_cut (x ∷ text) rest lacks =
    ap (λ b. cond b ([] ∷ zero_ended_pieces (text ++ 0 ∷ rest)) (onto_first x (zero_ended_pieces (text ++ 0 ∷ rest)))) (ne_eqb x 0 (All-head (λ b. b ≢ 0) x text lacks))
    ∙ ap (onto_first x) (pieces_cut text rest (All-tail (λ b. b ≢ 0) x text lacks))

pieces_are : (ids : List (List ℕ)) → All IsShortText ids → zero_ended_pieces (flat_map with_zero ids) ≡ ids
pieces_are [] texts = refl
pieces_are (id ∷ ids) texts =
    ap zero_ended_pieces (piece_behind 0 id (flat_map with_zero ids))
    ∙ pieces_cut id (flat_map with_zero ids) (no_zero id (All-head IsShortText id ids texts))
    ∙ ap (λ l. id ∷ l) (pieces_are ids (All-tail IsShortText id ids texts))

lacks_test : List ℕ → Bool
lacks_test [] = true
lacks_test (x ∷ xs) = if x == 10 then false else lacks_test xs

one_lacks : (x : ℕ) (xs : List ℕ) (o : Bool) → (x == 10) ≡ o → cond o false (lacks_test xs) ≡ true → (lacks_test xs ≡ true → Lacks 10 xs) → Lacks 10 (x ∷ xs)
one_lacks x xs true is good rest = cc
one_lacks x xs false is good rest = All-cons (λ b. b ≢ 10) x xs (λ same. true≢false (sym (eq-eqb x 10 same) ∙ is)) (rest good)

lacks_by : (xs : List ℕ) → lacks_test xs ≡ true → Lacks 10 xs
unfolding lacks_test
lacks_by [] good = All-nil (λ b. b ≢ 10)
lacks_by (x ∷ xs) good = one_lacks x xs (x == 10) refl good (lacks_by xs)

lacks_newline : Lacks 10 base_title
unfolding lacks_test
lacks_newline = lacks_by base_title refl

module _ (bytes : List ℕ) (base : Base) (is : IsBase bytes base) where
  abbrev rest : List ℕ
  rest = flat_map with_zero base.ids

  small : base.count < 2 ^ 64
  small = is.file.small

  whole : bytes ≡ base_title ++ 10 ∷ (decimal base.count ++ 10 ∷ rest)
  whole =
      is.file.is ∙ append_assoc (with_newline base_title) (with_newline (decimal base.count)) rest
      ∙ line_rest base_title (with_newline (decimal base.count) ++ rest)
      ∙ ap (λ l. base_title ++ 10 ∷ l) (line_rest (decimal base.count) rest)

  behind : behind_line bytes ≡ decimal base.count ++ 10 ∷ rest
  behind = ap behind_line whole ∙ behind_is base_title (decimal base.count ++ 10 ∷ rest) lacks_newline

  no_newline : Lacks 10 (decimal base.count)
  no_newline = decimal_digits 10 base.count (omega arith) small

  counted : digits_value 10 (first_line (behind_line bytes)) ≡ base.count
  counted = ap (λ l. digits_value 10 (first_line l)) behind ∙ ap (digits_value 10) (first_is (decimal base.count) rest no_newline) ∙ (decimal_is_IsNumeral base.count small).1

  listed : zero_ended_pieces (behind_line (behind_line bytes)) ≡ base.ids
  listed = ap (λ l. zero_ended_pieces (behind_line l)) behind ∙ ap zero_ended_pieces (behind_is (decimal base.count) rest no_newline) ∙ pieces_are base.ids is.file.are.texts

  pub tells : base_in bytes ≡ base
  unfolding base_in
  tells = λ i. record { count = counted i; ids = listed i }

  pub holds : HoldsBase bytes
  holds = subst (IsBase bytes) (sym tells) is

-- ---- the base of files

based_by : (o : Option (List ℕ)) → is_based o ≡ true → o ≡ Some based_format_bytes
based_by None is = absurd (true≢false (sym is))
based_by (Some bytes) is = ap Some ((bytes_eq-Decides bytes based_format_bytes).0 is)

not_based_first : (o : Option (List ℕ)) → o ≡ Some format_bytes → is_based o ≡ false
not_based_first o is = ap is_based is

is_second : (o : Option (List ℕ)) → o ≡ Some based_format_bytes → is_based o ≡ true
is_second o is = ap is_based is

-- under the first format there is none
pub base_first : (files : Files) → files format_name ≡ Some format_bytes → base_of files ≡ no_base
unfolding base_of
base_first files is = ap (λ b. base_under b (files base_name)) (not_based_first (files format_name) is)

-- nor without a format
pub base_nothing : (files : Files) → files format_name ≡ None → base_of files ≡ no_base
unfolding base_of
base_nothing files none = ap (λ o. base_under (is_based o) (files base_name)) none

pub form_first : (files : Files) → files format_name ≡ Some format_bytes → HasBaseForm files
form_first files is second = absurd (true≢false (sym (is_second (files format_name) second) ∙ not_based_first (files format_name) is))

-- under the second one it is that of `base.set`
pub base_second : (files : Files) (bytes : List ℕ) → HasBasedFormat files → files base_name ≡ Some bytes → base_of files ≡ base_in bytes
unfolding base_of
base_second files bytes second there = (λ i. base_under (is_second (files format_name) second i) (there i))

pub form_second : (files : Files) (bytes : List ℕ) → files base_name ≡ Some bytes → HoldsBase bytes → HasBaseForm files
form_second files bytes there holds second = subst (λ (o : Option (List ℕ)). IsSomeAnd o HoldsBase) (sym there) holds

few_under : (b : Bool) (o : Option (List ℕ)) → (b ≡ true → IsSomeAnd o HoldsBase) → (base_under b o).count ≤ 1000000
few_under false o form = omega arith
few_under true None form = omega arith
few_under true (Some bytes) form = (form refl).few

sorted_under : (b : Bool) (o : Option (List ℕ)) → (b ≡ true → IsSomeAnd o HoldsBase) → IsStrictlySortedBy (slice_cmp nat_cmp) (base_under b o).ids
unfolding IsStrictlySortedBy
sorted_under false o form = tt
sorted_under true None form = tt
sorted_under true (Some bytes) form = (form refl).file.are.ordered

pub base_sorted : (files : Files) → HasBaseForm files → IsStrictlySortedBy (slice_cmp nat_cmp) (base_of files).ids
unfolding base_of
base_sorted files form = sorted_under (is_based (files format_name)) (files base_name) (λ is. form (based_by (files format_name) is))

pub base_few : (files : Files) → HasBaseForm files → (base_of files).count ≤ 1000000
unfolding base_of
base_few files form = few_under (is_based (files format_name)) (files base_name) (λ is. form (based_by (files format_name) is))

lacks_form : (o : Option (List ℕ)) → ((bytes : List ℕ) (base : Base) → o ≡ Some bytes → IsBase bytes base → ⊥) → IsSomeAnd o HoldsBase → ⊥
lacks_form None none form = absurd form
lacks_form (Some bytes) none form = none bytes (base_in bytes) refl form

pub not_both : (files : Files) → LacksBaseForm files → HasBaseForm files → ⊥
not_both files lacks form = lacks_form (files base_name) lacks.none (form lacks.format)

-- ---- files with the same format and the same base

pub format_still : (files image : Files) → image format_name ≡ files format_name → HasFormat files → HasFormat image
format_still files image same (inl first) = inl (same ∙ first)
format_still files image same (inr second) = inr (same ∙ second)

pub same_run : (files image : Files) → base_of image ≡ base_of files → (number : ℕ) → image (full_name number) ≡ files (full_name number) → image (partial_name number) ≡ files (partial_name number) → run_at image number ≡ run_at files number
same_run files image base number full partial = (λ i. run_of_files (ltb number (base i).count) (full i) (partial i))

module _ (files image : Files) (format : image format_name ≡ files format_name) (base : image base_name ≡ files base_name) where
  pub form_still : HasBaseForm files → HasBaseForm image
  form_still form second = subst (λ (o : Option (List ℕ)). IsSomeAnd o HoldsBase) (sym base) (form (sym format ∙ second))

  pub base_still : base_of image ≡ base_of files
  unfolding base_of
  base_still = (λ i. base_under (is_based (format i)) (base i))

  pub good_still : ((number : ℕ) → number < most_runs → IsSome (files (partial_name number)) → IsSome (image (partial_name number))) → HasGoodBase files → HasGoodBase image
  good_still each good = record {
    form = form_still good.form;
    old = λ number less.
        let counted : number < (base_of files).count = subst (λ (b : Base). number < b.count) base_still less in
        each number (omega (arith, counted, base_few files good.form)) (good.old number counted);
  }

  -- and with the same files of a run
  pub run_still : (number : ℕ) → image (full_name number) ≡ files (full_name number) → image (partial_name number) ≡ files (partial_name number) → run_at image number ≡ run_at files number
  run_still number full partial = same_run files image base_still number full partial

-- ---- what was read of a folder that is told or not

pub reads_base : (a : Option Folder) (bytes : List ℕ) (base : ABase) → IfSome a (λ s. HasBasedFormat s.disk.published) → IfSome a (λ s. Some bytes ≡ s.disk.published base_name) → IsBase bytes (seen_base base) → IfSome a (ReadsBase base)
reads_base None bytes base second there is = tt
reads_base (Some s) bytes base second there is = record {
  form = form_second s.disk.published bytes (sym there) (holds bytes (seen_base base) is);
  is = sym (base_second s.disk.published bytes second (sym there) ∙ tells bytes (seen_base base) is);
}

pub lacks_base : (a : Option Folder) (bytes : List ℕ) → IfSome a (λ s. HasBasedFormat s.disk.published) → IfSome a (λ s. Some bytes ≡ s.disk.published base_name) → ((base : Base) → IsBase bytes base → ⊥) → IfSome a (λ s. LacksBaseForm s.disk.published)
lacks_base None bytes second there none = tt
lacks_base (Some s) bytes second there none = record {
  format = second;
  none = λ other base is. none_of other base (there ∙ is);
}
  where
    none_of : (other : List ℕ) (base : Base) → Some bytes ≡ Some other → IsBase other base → ⊥
    none_of other base same is = let equal : other ≡ bytes = cc in none base (subst (λ (l : List ℕ). IsBase l base) equal is)

pub lacks_file : (a : Option Folder) → IfSome a (λ s. HasBasedFormat s.disk.published) → IfSome a (λ s. None ≡ s.disk.published base_name) → IfSome a (λ s. LacksBaseForm s.disk.published)
lacks_file None second there = tt
lacks_file (Some s) second there = record { format = second; none = λ bytes base is. absurd (none_there bytes (there ∙ is)) }
  where
    none_there : (bytes : List ℕ) → None ≡ Some bytes → ⊥
    none_there bytes is = cc

-- what was read of a repository
reads_first : (files : Files) → files format_name ≡ Some format_bytes → no_base ≡ base_of files
reads_first files first = sym (base_first files first)

pub reads_under_first : (a : Option Folder) (base : ABase) → IfSome a (λ s. s.disk.published format_name ≡ Some format_bytes) → seen_base base ≡ no_base → IfSome a (ReadsBase base)
reads_under_first None base first is = tt
reads_under_first (Some s) base first is = record { form = form_first s.disk.published first; is = is ∙ reads_first s.disk.published first }

pub counts_old : (a : Option Folder) (base : ABase) → IfSome a (ReadsBase base) → IfSome a (CountsOld base.count)
counts_old None base reads = tt
counts_old (Some s) base reads = record { form = reads.form; is = ap (λ (b : Base). b.count) reads.is }

pub counts_none : (a : Option Folder) → IfSome a (λ s. s.disk.published format_name ≡ Some format_bytes) → IfSome a (CountsOld 0)
counts_none None first = tt
counts_none (Some s) first = record { form = form_first s.disk.published first; is = sym (ap (λ (b : Base). b.count) (base_first s.disk.published first)) }
