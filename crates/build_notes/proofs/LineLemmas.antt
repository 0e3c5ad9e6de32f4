-- No byte that is written in a note ends its line.
use Rattle.std.proofs.Common.{◌≡◌, ℕ, ◌==◌, true, false, cond, List, [], ◌∷◌, ◌++◌, Option, None, Some, refl, ◌∙◌}
use Rattle.std.specs.Prelude.{codes}
use Rattle.std.specs.List.{list_any, flat_map}
use Rattle.std.proofs.lemmas.Bool.{or_from}
use Rattle.std.proofs.lemmas.List.Folds.{list_any-append}
use Rattle.outcome_fold.specs.declared.row.Row.{Row}
use Rattle.build_notes.specs.Notes.{text_byte, value_byte, Spot, spot_values, last_spot, note_of, breaks_line, IsOneLine}

abbrev StaysInLine : List ℕ → Type 0
StaysInLine bytes = list_any breaks_line bytes ≡ false

both_stay : (xs ys : List ℕ) → StaysInLine xs → StaysInLine ys → StaysInLine (xs ++ ys)
both_stay xs ys first second = list_any-append breaks_line xs ys ∙ or_from (list_any breaks_line xs) (list_any breaks_line ys) first second

-- a byte that is neither
plain_stays : (byte : ℕ) → (byte == 13) ≡ false → StaysInLine (cond (byte == 10) (codes "%0A") (byte ∷ []))
plain_stays byte other = elim (byte == 10) as (λ b. (byte == 10) ≡ b → StaysInLine (cond b (codes "%0A") (byte ∷ []))) [
  | true ↦ λ is. refl
  | false ↦ λ no. or_from (breaks_line byte) false (or_from (byte == 10) (byte == 13) no other) refl
] refl

-- a byte that is no percent sign
sign_stays : (byte : ℕ) → StaysInLine (cond (byte == 13) (codes "%0D") (cond (byte == 10) (codes "%0A") (byte ∷ [])))
sign_stays byte = elim (byte == 13) as (λ b. (byte == 13) ≡ b → StaysInLine (cond b (codes "%0D") (cond (byte == 10) (codes "%0A") (byte ∷ [])))) [
  | true ↦ λ is. refl
  | false ↦ λ no. plain_stays byte no
] refl

text_byte_stays : (byte : ℕ) → StaysInLine (text_byte byte)
text_byte_stays byte = elim (byte == 37) as (λ b. StaysInLine (cond b (codes "%25") (cond (byte == 13) (codes "%0D") (cond (byte == 10) (codes "%0A") (byte ∷ []))))) [
  | true ↦ refl
  | false ↦ sign_stays byte
]

comma_stays : (byte : ℕ) → StaysInLine (cond (byte == 44) (codes "%2C") (text_byte byte))
comma_stays byte = elim (byte == 44) as (λ b. StaysInLine (cond b (codes "%2C") (text_byte byte))) [
  | true ↦ refl
  | false ↦ text_byte_stays byte
]

value_byte_stays : (byte : ℕ) → StaysInLine (value_byte byte)
value_byte_stays byte = elim (byte == 58) as (λ b. StaysInLine (cond b (codes "%3A") (cond (byte == 44) (codes "%2C") (text_byte byte)))) [
  | true ↦ refl
  | false ↦ comma_stays byte
]

each_stays : (how : ℕ → List ℕ) → ((byte : ℕ) → StaysInLine (how byte)) → (bytes : List ℕ) → StaysInLine (flat_map how bytes)
each_stays how stays [] = refl
each_stays how stays (byte ∷ bytes) = both_stay (how byte) (flat_map how bytes) (stays byte) (each_stays how stays bytes)

value_stays : (bytes : List ℕ) → StaysInLine (flat_map value_byte bytes)
value_stays bytes = each_stays value_byte value_byte_stays bytes

text_stays : (bytes : List ℕ) → StaysInLine (flat_map text_byte bytes)
text_stays bytes = each_stays text_byte text_byte_stays bytes

spot_stays : (spot : Option Spot) → StaysInLine (spot_values spot)
spot_stays None = refl
spot_stays (Some spot) =
    let path = flat_map value_byte spot.path in
    let line = flat_map value_byte spot.line in
    both_stay (((codes "file=" ++ path) ++ codes ",line=") ++ line) (codes ",")
    (both_stay ((codes "file=" ++ path) ++ codes ",line=") line
    (both_stay (codes "file=" ++ path) (codes ",line=")
    (both_stay (codes "file=") path refl (value_stays spot.path)) refl) (value_stays spot.line)) refl

pub note_is_line : (row : Row) → IsOneLine (note_of row)
note_is_line row =
    let spot = spot_values (last_spot row.text) in
    let id = flat_map value_byte row.id in
    let text = flat_map text_byte row.text in
    record {
      front = ((((codes "::error " ++ spot) ++ codes "title=") ++ id) ++ codes "::") ++ text;
      whole = refl;
      inside =
          both_stay ((((codes "::error " ++ spot) ++ codes "title=") ++ id) ++ codes "::") text
          (both_stay (((codes "::error " ++ spot) ++ codes "title=") ++ id) (codes "::")
          (both_stay ((codes "::error " ++ spot) ++ codes "title=") id
          (both_stay (codes "::error " ++ spot) (codes "title=")
          (both_stay (codes "::error ") spot refl (spot_stays (last_spot row.text))) refl) (value_stays row.id)) refl) (text_stays row.text);
    }
