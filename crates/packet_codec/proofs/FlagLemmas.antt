-- The flags of an event, and the event of some flags.
use Rattle.std.proofs.Common.{◌≡◌, ℕ, zero, suc, ◌+◌, ◌*◌, ◌/◌, ◌%◌, ◌<◌, Bool, true, false, refl, eqb, inl, inr, ◌⊎◌, arith}
use Rattle.packet_codec.specs.declared.status.Status.{Status}
use Rattle.packet_codec.specs.declared.status.Status.TheVariants.{Unset, Exists, InProgress, Success, UxSuccess, Skip, Fail, XFail}
use Rattle.packet_codec.specs.Flags.{status_number, flag}
use Rattle.packet_codec.specs.Shapes.{bit, status_from}

abbrev number_of : Bool → ℕ
number_of true = 1
number_of false = 0

flag_is : (set : Bool) (weight : ℕ) → flag set weight ≡ number_of set * weight
flag_is true weight = omega arith
flag_is false weight = omega arith

number_small : (set : Bool) → number_of set < 2
number_small true = omega arith
number_small false = omega arith

bit_is : (n w : ℕ) (set : Bool) → n / w % 2 ≡ number_of set → bit n w ≡ set
bit_is n w true e = rw e refl
bit_is n w false e = rw e refl

pub status_below : (s : Status) → status_number s < 8
status_below Unset = omega arith
status_below Exists = omega arith
status_below InProgress = omega arith
status_below Success = omega arith
status_below UxSuccess = omega arith
status_below Skip = omega arith
status_below Fail = omega arith
status_below XFail = omega arith

pub record FirstBits (id route stamp runnable : Bool) (n : ℕ) : Type 0 where
  pub version : n / 16 ≡ 2
  pub id_bit : bit n 8 ≡ id
  pub route_bit : bit n 4 ≡ route
  pub stamp_bit : bit n 2 ≡ stamp
  pub runnable_bit : bit n 1 ≡ runnable

pub first_bits : (id route stamp runnable : Bool) (n : ℕ) → n ≡ 0x20 + flag id 8 + flag route 4 + flag stamp 2 + flag runnable 1 → FirstBits id route stamp runnable n
first_bits id route stamp runnable n e =
    let sum : n ≡ 32 + number_of id * 8 + number_of route * 4 + number_of stamp * 2 + number_of runnable = omega (arith, flag_is id 8, flag_is route 4, flag_is stamp 2, flag_is runnable 1) in
    let a = number_small id in
    let b = number_small route in
    let c = number_small stamp in
    let d = number_small runnable in
    record {
      version = omega arith;
      id_bit = bit_is n 8 id (omega arith);
      route_bit = bit_is n 4 route (omega arith);
      stamp_bit = bit_is n 2 stamp (omega arith);
      runnable_bit = bit_is n 1 runnable (omega arith);
    }

pub record SecondBits (tags file mime eof : Bool) (status : Status) (n : ℕ) : Type 0 where
  pub zero_bit : n / 8 % 2 ≡ 0
  pub tags_bit : bit n 128 ≡ tags
  pub file_bit : bit n 64 ≡ file
  pub mime_bit : bit n 32 ≡ mime
  pub eof_bit : bit n 16 ≡ eof
  pub status_bits : n % 8 ≡ status_number status

pub second_bits : (tags file mime eof : Bool) (status : Status) (n : ℕ) → n ≡ flag tags 128 + flag file 64 + flag mime 32 + flag eof 16 + status_number status → SecondBits tags file mime eof status n
second_bits tags file mime eof status n e =
    let sum : n ≡ number_of tags * 128 + number_of file * 64 + number_of mime * 32 + number_of eof * 16 + status_number status = omega (arith, flag_is tags 128, flag_is file 64, flag_is mime 32, flag_is eof 16) in
    let a = number_small tags in
    let b = number_small file in
    let c = number_small mime in
    let d = number_small eof in
    let below = status_below status in
    record {
      zero_bit = omega arith;
      tags_bit = bit_is n 128 tags (omega arith);
      file_bit = bit_is n 64 file (omega arith);
      mime_bit = bit_is n 32 mime (omega arith);
      eof_bit = bit_is n 16 eof (omega arith);
      status_bits = omega arith;
    }

digit : (d : ℕ) → d < 2 → (eqb d 1 ≡ true) × (d ≡ 1) ⊎ (eqb d 1 ≡ false) × (d ≡ 0)
digit zero less = inr (refl, refl)
digit (suc zero) less = inl (refl, refl)
digit (suc (suc d)) less = absurd (omega arith)

-- a bit's weight is there where it is set
flag_bit : (n w weight : ℕ) → flag (bit n w) weight ≡ n / w % 2 * weight
flag_bit n w weight = elim (digit (n / w % 2) (omega arith)) [
  | inl one ↦ rw (one.0, one.1) (omega arith)
  | inr none ↦ rw (none.0, none.1) (omega arith)
]

-- so a byte of version 2 is the sum of its bits
pub first_from_bits : (n : ℕ) → n / 16 ≡ 2 → n ≡ 0x20 + flag (bit n 8) 8 + flag (bit n 4) 4 + flag (bit n 2) 2 + flag (bit n 1) 1
first_from_bits n version = omega (arith, flag_bit n 8 8, flag_bit n 4 4, flag_bit n 2 2, flag_bit n 1 1)

pub second_from_bits : (n : ℕ) → n < 256 → n / 8 % 2 ≡ 0 → n ≡ flag (bit n 128) 128 + flag (bit n 64) 64 + flag (bit n 32) 32 + flag (bit n 16) 16 + n % 8
second_from_bits n byte zero_bit = omega (arith, flag_bit n 128 128, flag_bit n 64 64, flag_bit n 32 32, flag_bit n 16 16)

pub status_from_number : (s : Status) → status_from (status_number s) ≡ s
status_from_number Unset = refl
status_from_number Exists = refl
status_from_number InProgress = refl
status_from_number Success = refl
status_from_number UxSuccess = refl
status_from_number Skip = refl
status_from_number Fail = refl
status_from_number XFail = refl

pub number_of_status : (n : ℕ) → n < 8 → status_number (status_from n) ≡ n
number_of_status zero less = refl
number_of_status (suc zero) less = refl
number_of_status (suc (suc zero)) less = refl
number_of_status (suc (suc (suc zero))) less = refl
number_of_status (suc (suc (suc (suc zero)))) less = refl
number_of_status (suc (suc (suc (suc (suc zero))))) less = refl
number_of_status (suc (suc (suc (suc (suc (suc zero)))))) less = refl
number_of_status (suc (suc (suc (suc (suc (suc (suc n))))))) less = omega arith
