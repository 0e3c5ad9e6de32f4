-- The strings of the Subunit README, version 2: the number of bytes, in the number encoding, and then the bytes, which are UTF-8 without NUL.
use Rattle.std.specs.Prelude.{◌≡◌, ◌≢◌, ℕ, ◌≤◌, ◌<◌, ◌^◌, List, ◌++◌, length, take, slice_index, slice_range, All, IsUtf8}
use Rattle.sub_number.specs.Numbers.{SpellsNumber}

-- ASCII without NUL
abbrev pub IsPlain : ℕ → Type 0
IsPlain byte = (1 ≤ byte) × (byte < 128)

-- the bytes from one place up to another are
abbrev pub ArePlain : List ℕ → ℕ → ℕ → Type 0
ArePlain bytes start end = (k : ℕ) → start ≤ k → k < end → IsPlain (slice_index bytes k)

-- UTF-8 without NUL
pub record IsText (bytes : List ℕ) : Type 0 where
  pub utf8 : IsUtf8 bytes
  pub no_nul : All (λ byte. byte ≢ 0) bytes

-- a text that is short enough for its length to be spelled
pub record IsShortText (bytes : List ℕ) : Type 0 where
  pub text : IsText bytes
  pub short : length bytes < 2 ^ 30

-- a spelling of the text's length, of any width, and then the text
pub record SpellsText (bytes text : List ℕ) : Type 0 where
  pub number : List ℕ
  pub parts : bytes ≡ number ++ text
  pub length_spelled : SpellsNumber number (length text)
  pub is_text : IsText text

-- the first `size` of the bytes spell the text that stands at their end, from `start` to `end`
pub record BeginsWithText (bytes : List ℕ) (start end size : ℕ) : Type 0 where
  pub in_range : size ≤ length bytes
  pub ordered : start ≤ end
  pub at_end : end ≡ size
  pub spells : SpellsText (take size bytes) (slice_range bytes start end)

-- no prefix of the bytes spells a text
abbrev pub BeginsWithNoText : List ℕ → Type 0
BeginsWithNoText bytes = (text : List ℕ) (size : ℕ) → size ≤ length bytes → SpellsText (take size bytes) text → ⊥
