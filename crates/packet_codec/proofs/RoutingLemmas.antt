-- The route of an event under a lane.
use Rattle.std.proofs.Common.{◌≡◌, ◌≢◌, ℕ, ◌+◌, ◌/◌, ◌%◌, ◌<◌, ◌≤◌, ◌^◌, List, [], ◌∷◌, ◌++◌, length, inl, inr, ◌∙◌, ap, arith}
use Rattle.std.specs.Prelude.{Some, None, All, codes}
use Rattle.std.specs.Fmt.{decimal}
use Rattle.std.proofs.lemmas.Fmt.{decimal_digit, decimal_step}
use Rattle.std.proofs.lemmas.Bool.{cases_lt}
use Rattle.std.proofs.lemmas.List.{length-append}
use Rattle.std.proofs.lemmas.List.Elements.{All-nil, All-cons, All-append, All-weaker}
use Rattle.std.proofs.lemmas.Str.{IsUtf8-from_ascii, IsUtf8-append}
use Rattle.std.proofs.lemmas.Str.Ascii.{IsAscii-from_all}
use Rattle.sub_number.specs.Texts.{IsText, IsShortText}
use Rattle.packet_codec.specs.Routing.{route_under}

-- a number of two digits
pub decimal_two : (n : ℕ) → 10 ≤ n → n < 100 → decimal n ≡ (48 + n / 10) ∷ (48 + n % 10) ∷ []
decimal_two n big small =
    let tens : decimal (n / 10) ≡ (48 + n / 10) ∷ [] = decimal_digit (n / 10) (omega arith) in
    decimal_step n big (omega arith) ∙ ap (λ (front : List ℕ). front ++ (48 + n % 10) ∷ []) tens

pub length_decimal_one : (n : ℕ) → n < 10 → length (decimal n) ≡ 1
length_decimal_one n small = rw (decimal_digit n small)

pub length_decimal_two : (n : ℕ) → 10 ≤ n → n < 100 → length (decimal n) ≡ 2
length_decimal_two n big small = rw (decimal_two n big small)

-- a byte that is neither NUL nor above ASCII
record IsPlainByte (byte : ℕ) : Type 0 where
  some : 0 < byte
  ascii : byte < 128

plain_text : (bytes : List ℕ) → All IsPlainByte bytes → IsText bytes
plain_text bytes plain = record {
  utf8 = IsUtf8-from_ascii bytes (IsAscii-from_all bytes (All-weaker IsPlainByte (λ byte. byte < 128) (λ byte p. p.ascii) bytes plain));
  no_nul = All-weaker IsPlainByte (λ byte. byte ≢ 0) (λ byte p same. omega (arith, p.some, same)) bytes plain;
}

one_plain : (byte : ℕ) → 0 < byte → byte < 128 → All IsPlainByte (byte ∷ [])
one_plain byte some ascii = All-cons IsPlainByte byte [] (record { some = some; ascii = ascii }) (All-nil IsPlainByte)

-- two texts in a row are a text
pub text_append : (a b : List ℕ) → IsText a → IsText b → IsText (a ++ b)
text_append a b s t = record {
  utf8 = IsUtf8-append a b s.utf8 t.utf8;
  no_nul = All-append (λ byte. byte ≢ 0) a b s.no_nul t.no_nul;
}

-- a lane's number is a text
pub decimal_is_text : (lane : ℕ) → lane < 64 → IsShortText (decimal lane)
decimal_is_text lane small = elim (cases_lt lane 10) [
  | inl one ↦ rw (decimal_digit lane one) (record { text = plain_text _ (one_plain (48 + lane) (omega arith) (omega arith)); short = omega arith })
  | inr two ↦
      let digits : decimal lane ≡ (48 + lane / 10) ∷ (48 + lane % 10) ∷ [] = decimal_two lane two (omega arith) in
      rw digits (record {
        text = plain_text _ (All-cons IsPlainByte (48 + lane / 10) ((48 + lane % 10) ∷ []) (record { some = omega arith; ascii = omega arith }) (one_plain (48 + lane % 10) (omega arith) (omega arith)));
        short = omega arith;
      })
]

-- the route that an event without one has under a lane
pub route_under_none : (lane : ℕ) → lane < 64 → IsShortText (route_under lane None)
route_under_none lane small = decimal_is_text lane small

slash_is_text : IsText (codes "/")
slash_is_text = plain_text (47 ∷ []) (one_plain 47 (omega arith) (omega arith))

-- the route that an event with one has, where it is not too long
pub route_under_some : (lane : ℕ) (route : List ℕ) → lane < 64 → IsText route → length (route_under lane (Some route)) < 2 ^ 30 → IsShortText (route_under lane (Some route))
route_under_some lane route small text short = record {
  text = text_append (decimal lane ++ codes "/") route (text_append (decimal lane) (codes "/") (decimal_is_text lane small).text slash_is_text) text;
  short = short;
}

-- a lane's number and the slash take at most three bytes
pub length_route_under_some : (lane : ℕ) (route : List ℕ) → lane < 64 → length (route_under lane (Some route)) ≤ length route + 3
length_route_under_some lane route small = elim (cases_lt lane 10) [
  | inl one ↦ simp length-append (omega (arith, length_decimal_one lane one))
  | inr two ↦ simp length-append (omega (arith, length_decimal_two lane two (omega arith)))
]
