-- Files of ids, with a heading and a number (docs/FORMATS.md, "Caches").
use Rattle.std.specs.Prelude.{◌≡◌, ◌≢◌, ℕ, ◌<◌, ◌^◌, List, [], ◌∷◌, ◌++◌, All}
use Rattle.std.specs.Cmp.Lexicographic.{slice_cmp}
use Rattle.std.specs.Fmt.{decimal}
use Rattle.std.specs.List.{flat_map}
use Rattle.std.specs.List.Sorted.{IsStrictlySortedBy}
use Rattle.std.specs.Ordering.{nat_cmp}
use Rattle.sub_number.specs.Texts.{IsShortText}
use Rattle.sub_number.specs.Lines.{with_newline}

-- a text and a zero byte
abbrev pub with_zero : List ℕ → List ℕ
with_zero text = text ++ 0 ∷ []

-- the first two lines: what the file is, and a number
abbrev pub heading : List ℕ → ℕ → List ℕ
heading title number = with_newline title ++ with_newline (decimal number)

-- texts in the order of their bytes, each once
pub record AreIds (ids : List (List ℕ)) : Type 0 where
  pub texts : All IsShortText ids
  pub ordered : IsStrictlySortedBy (slice_cmp nat_cmp) ids

-- the file of a number and some ids
abbrev pub id_file : (title : List ℕ) → ℕ → List (List ℕ) → List ℕ
id_file title number ids = heading title number ++ flat_map with_zero ids

-- the bytes are such a file
pub record IsIdFile (title bytes : List ℕ) (number : ℕ) (ids : List (List ℕ)) : Type 0 where
  pub is : bytes ≡ id_file title number ids
  pub small : number < 2 ^ 64
  pub are : AreIds ids

-- ---- its pieces

-- the mark is none of the bytes
abbrev pub Lacks : ℕ → List ℕ → Type 0
Lacks mark bytes = All (λ byte. byte ≢ mark) bytes

-- the bytes before the first mark, and those behind it
pub record IsCutAtMark (mark : ℕ) (bytes front behind : List ℕ) : Type 0 where
  pub is : bytes ≡ front ++ mark ∷ behind
  pub first : Lacks mark front

-- the digits of this number, which is below 2^64
pub record SpellsDecimal (digits : List ℕ) (number : ℕ) : Type 0 where
  pub is : digits ≡ decimal number
  pub small : number < 2 ^ 64

-- a line with this title, one with this number, and the rest
pub record BeginsWithHeading (title bytes : List ℕ) (number : ℕ) (rest : List ℕ) : Type 0 where
  pub is : bytes ≡ title ++ (with_newline (decimal number) ++ rest)
  pub small : number < 2 ^ 64

-- the bytes are the ids, and a zero byte behind each
pub record AreEntries (bytes : List ℕ) (ids : List (List ℕ)) : Type 0 where
  pub is : bytes ≡ flat_map with_zero ids
  pub are : AreIds ids
