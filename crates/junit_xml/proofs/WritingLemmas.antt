-- Bytes are written run by run.
use Rattle.std.proofs.Common.{◌≡◌, ℕ, ◌+◌, ◌-◌, ◌<◌, ◌≤◌, List, [], ◌∷◌, ◌++◌, length, take, drop, get_or, None, Some, Bool, true, false, true≢false, encode_utf8, refl, sym, ◌∙◌, ap, arith, append_assoc}
use Rattle.std.specs.Prelude.{Option, ◌||◌, not}
use Rattle.std.specs.List.{flat_map}
use Rattle.std.specs.Option.{unwrap_or, option_map, is_some}
use Rattle.std.proofs.Math.Seq.{take-add}
use Rattle.std.proofs.lemmas.List.{append-nil, take_at, take_all, get_or-drop, drop-drop, drop_all, drop_more, length-append, length-drop}
use Rattle.bstr.specs.Utf8.{Decoded, good, decoded, or_replacement, replacement, lossy_chars}
use Rattle.bstr.proofs.lemmas.PieceLemmas.{value-1, piece-bounds, lossy_chars-step, lossy_chars-nil}
use Rattle.bstr.proofs.lemmas.SoundLemmas.{SpellsChar-decoded}
use Rattle.junit_xml.specs.declared.characters.Place.{Place}
use Rattle.junit_xml.specs.declared.characters.Place.TheVariants as place
use Rattle.junit_xml.specs.Characters.{escape, written_char, written}
use Rattle.junit_xml.proofs.CharacterLemmas.{spelled_some}
use lib.Utf8.{encode}

-- the first character, and what is behind it
pub written_step : (stands : Place) (bytes : List ℕ) → 0 < length bytes
    → written stands bytes ≡ written_char stands (or_replacement (decoded bytes).char) ++ written stands (drop (decoded bytes).size bytes)
written_step stands bytes some = ap (flat_map (written_char stands)) (lossy_chars-step bytes some)

pub written_none : (stands : Place) → written stands [] ≡ []
written_none stands = ap (flat_map (written_char stands)) lossy_chars-nil

-- the bytes of a character
pub char_bytes : (bytes : List ℕ) (char size : ℕ) → Some char ≡ (decoded bytes).char → size ≡ (decoded bytes).size → take size bytes ≡ encode_utf8 char
char_bytes bytes char size found width =
    let spells = SpellsChar-decoded bytes char (sym found) in
    ap (λ (n : ℕ). take n bytes) width ∙ ap (take (decoded bytes).size) spells.bytes ∙ take_at (encode_utf8 char) (drop (decoded bytes).size bytes) (decoded bytes).size spells.width

char_some : (bytes : List ℕ) (char : ℕ) → Some char ≡ (decoded bytes).char → 0 < length bytes
char_some bytes char found =
    let spells = SpellsChar-decoded bytes char (sym found) in
    omega (arith, ap length spells.bytes, length-append (encode_utf8 char) (drop (decoded bytes).size bytes), spelled_some char)

-- a character that is written as it is
pub char_plain : (stands : Place) (bytes : List ℕ) (char size : ℕ) → Some char ≡ (decoded bytes).char → size ≡ (decoded bytes).size → escape stands char ≡ None
    → written stands bytes ≡ take size bytes ++ written stands (drop size bytes)
char_plain stands bytes char size found width none =
    written_step stands bytes (char_some bytes char found)
    ∙ ap (λ o. written_char stands (or_replacement o) ++ written stands (drop (decoded bytes).size bytes)) (sym found)
    ∙ ap (λ o. unwrap_or o (encode_utf8 char) ++ written stands (drop (decoded bytes).size bytes)) none
    ∙ ap (λ (l : List ℕ). l ++ written stands (drop (decoded bytes).size bytes)) (sym (char_bytes bytes char size found width))
    ∙ ap (λ (n : ℕ). take size bytes ++ written stands (drop n bytes)) (sym width)

-- it is its own written form
pub char_written : (stands : Place) (bytes : List ℕ) (char size : ℕ) → Some char ≡ (decoded bytes).char → size ≡ (decoded bytes).size → None ≡ escape stands char
    → take size bytes ≡ written_char stands (or_replacement (decoded bytes).char)
char_written stands bytes char size found width none =
    char_bytes bytes char size found width ∙ ap (λ o. unwrap_or o (encode_utf8 char)) none ∙ ap (λ o. written_char stands (or_replacement o)) found

-- no escape was found, so there is none
pub no_escape : {A : Type 0} (f : A → List ℕ) (o : Option A) (e : Option (List ℕ)) → is_some o ≡ false → option_map f o ≡ e → e ≡ None
no_escape f None e none is = sym is
no_escape f (Some x) e none is = absurd (true≢false none)

pub within_char : (bytes : List ℕ) (size : ℕ) → size ≡ (decoded bytes).size → size ≤ length bytes
within_char [] size width = omega (arith, width)
within_char (byte ∷ bytes) size width = omega (arith, width, (piece-bounds (byte ∷ bytes) (omega arith)).2)

-- a byte that is a character of ASCII, and is written as it is
pub byte_plain : (stands : Place) (bytes : List ℕ) → 0 < length bytes → get_or bytes 0 0 < 128 → escape stands (get_or bytes 0 0) ≡ None
    → written stands bytes ≡ take 1 bytes ++ written stands (drop 1 bytes)
byte_plain stands [] some small none = absurd (omega arith)
byte_plain stands (byte ∷ bytes) some small none =
    let read : decoded (byte ∷ bytes) ≡ good byte 1 = value-1 (length (byte ∷ bytes)) byte (get_or (byte ∷ bytes) 1 0) (get_or (byte ∷ bytes) 2 0) (get_or (byte ∷ bytes) 3 0) (some, small) in
    char_plain stands (byte ∷ bytes) byte 1 (sym (ap (λ (p : Decoded). p.char) read)) (sym (ap (λ (p : Decoded). p.size) read)) none

-- U+FFFD, and that it is written as it is
pub replacement_spelled : 0xEF ∷ 0xBF ∷ 0xBD ∷ [] ≡ encode_utf8 replacement
unfolding encode
replacement_spelled = refl

pub replacement_written : (stands : Place) → encode_utf8 replacement ≡ written_char stands replacement
replacement_written place.Text = refl
replacement_written place.Value = refl

-- one run more
pub run_more : (stands : Place) (bytes : List ℕ) (size more : ℕ) → written stands bytes ≡ take size bytes ++ written stands (drop size bytes)
    → written stands (drop size bytes) ≡ take more (drop size bytes) ++ written stands (drop more (drop size bytes))
    → written stands bytes ≡ take (size + more) bytes ++ written stands (drop (size + more) bytes)
run_more stands bytes size more first second =
    first ∙ ap (λ (l : List ℕ). take size bytes ++ l) second
    ∙ sym (append_assoc (take size bytes) (take more (drop size bytes)) (written stands (drop more (drop size bytes))))
    ∙ ap (λ (l : List ℕ). l ++ written stands (drop more (drop size bytes))) (sym (take-add size more bytes))
    ∙ ap (λ (l : List ℕ). take (size + more) bytes ++ written stands l) (drop-drop more size bytes)

-- a plain byte more of a value
pub plain_more : (bytes : List ℕ) (done byte : ℕ) → done < length bytes → byte ≡ get_or bytes done 0 → byte < 128 → escape place.Value byte ≡ None
    → written place.Value bytes ≡ take done bytes ++ written place.Value (drop done bytes)
    → written place.Value bytes ≡ take (done + 1) bytes ++ written place.Value (drop (done + 1) bytes)
plain_more bytes done byte within is small none so_far =
    let same : done ≡ done + 0 = omega arith in
    let first : byte ≡ get_or (drop done bytes) 0 0 = is ∙ ap (λ (n : ℕ). get_or bytes n 0) same ∙ sym (get_or-drop done bytes 0 0) in
    run_more place.Value bytes done 1 so_far
    (byte_plain place.Value (drop done bytes) (omega (arith, within, length-drop done bytes)) (omega (arith, small, first)) (ap (escape place.Value) (sym first) ∙ none))

-- a run, and all of the bytes with it
pub run_done : (stands : Place) (bytes : List ℕ) (size : ℕ) (old new : List ℕ) → written stands bytes ≡ take size bytes ++ written stands (drop size bytes)
    → new ≡ old ++ take size bytes → new ++ written stands (drop size bytes) ≡ old ++ written stands bytes
run_done stands bytes size old new run grown =
    ap (λ (l : List ℕ). l ++ written stands (drop size bytes)) grown ∙ append_assoc old (take size bytes) (written stands (drop size bytes)) ∙ ap (λ (l : List ℕ). old ++ l) (sym run)

-- a run, and a character behind it
pub char_done : (stands : Place) (bytes : List ℕ) (size more : ℕ) (old middle new char : List ℕ) → size < length bytes
    → written stands bytes ≡ take size bytes ++ written stands (drop size bytes) → middle ≡ old ++ take size bytes
    → char ≡ written_char stands (or_replacement (decoded (drop size bytes)).char) → more ≡ (decoded (drop size bytes)).size → new ≡ middle ++ char
    → new ++ written stands (drop (size + more) bytes) ≡ old ++ written stands bytes
char_done stands bytes size more old middle new char some run grown is width added =
    let rest = drop size bytes in
    let later = written stands (drop more rest) in
    ap (λ (l : List ℕ). new ++ written stands l) (sym (drop-drop more size bytes))
    ∙ ap (λ (l : List ℕ). l ++ later) added ∙ append_assoc middle char later
    ∙ ap (λ (l : List ℕ). middle ++ l) (ap (λ (l : List ℕ). l ++ later) is ∙ ap (λ (n : ℕ). written_char stands (or_replacement (decoded rest).char) ++ written stands (drop n rest)) width
    ∙ sym (written_step stands rest (omega (arith, length-drop size bytes))))
    ∙ run_done stands bytes size old middle run grown

pub char_bounds : (bytes : List ℕ) (size more : ℕ) → size < length bytes → more ≡ (decoded (drop size bytes)).size → (0 < more) × (size + more ≤ length bytes)
char_bounds bytes size more some width =
    let bounds = piece-bounds (drop size bytes) (omega (arith, length-drop size bytes)) in
    (omega (arith, bounds.0, width), omega (arith, bounds.2, width, length-drop size bytes))

-- all is written
pub all_done : (stands : Place) (bytes : List ℕ) (done : ℕ) (old new : List ℕ) → length bytes ≤ done
    → new ++ written stands (drop done bytes) ≡ old ++ written stands bytes → new ≡ old ++ written stands bytes
all_done stands bytes done old new all is =
    sym (append-nil new) ∙ ap (λ (l : List ℕ). new ++ l) (sym (written_none stands)) ∙ ap (λ (l : List ℕ). new ++ written stands l) (sym (drop_all done bytes all)) ∙ is

-- all bytes of a value are plain
pub plain_value : (bytes : List ℕ) (done : ℕ) → length bytes ≤ done → written place.Value bytes ≡ take done bytes ++ written place.Value (drop done bytes) → written place.Value bytes ≡ bytes
plain_value bytes done all is =
    is ∙ ap (λ (l : List ℕ). take done bytes ++ written place.Value l) (drop_all done bytes all) ∙ ap (λ (l : List ℕ). take done bytes ++ l) (written_none place.Value)
    ∙ append-nil (take done bytes) ∙ take_all done bytes all

pub both_false : (a b : Bool) → (a || b) ≡ false → (a ≡ false) × (b ≡ false)
both_false true b never = absurd (true≢false never)
both_false false b is = (refl, is)

pub not_true : (b : Bool) → not b ≡ true → b ≡ false
not_true true never = absurd (true≢false (sym never))
not_true false is = refl
