-- The names that are copied are short texts.
use Rattle.std.proofs.Common.{◌≡◌, ◌&&◌, inl, inr, Bool, true, false, ℕ, ◌<◌, ◌≤◌, ◌^◌, List, [], ◌∷◌, length, refl, sym, subst, arith}
use Rattle.std.specs.Prelude.{All, ◌≢◌, nat_le, nat_lt}
use Rattle.std.specs.List.{list_all}
use Rattle.std.proofs.lemmas.Bool.{and_parts, leb-true, ltb-true}
use Rattle.std.proofs.lemmas.List.Elements.{All-nil, All-cons, All-weaker}
use Rattle.std.proofs.lemmas.Str.{IsUtf8-from_ascii}
use Rattle.std.proofs.lemmas.Str.Ascii.{IsAscii-from_all}
use Rattle.sub_number.specs.Texts.{IsPlain, IsShortText}
use Rattle.run_shelf.specs.Repository.{format_name, most_runs}
use Rattle.run_shelf.proofs.LookSteps.{name_is_text}
use Rattle.old_folder.specs.Olds.{next_name, failing_name}
use Rattle.old_copies.specs.Copying.{IsCopied}

is_plain : ℕ → Bool
is_plain byte = nat_le 1 byte && nat_lt byte 128

all_plain : (bytes : List ℕ) → list_all is_plain bytes ≡ true → All IsPlain bytes
unfolding is_plain
all_plain [] all = All-nil IsPlain
all_plain (byte ∷ bytes) all =
    let both = and_parts (is_plain byte) (list_all is_plain bytes) all in
    let here = and_parts (nat_le 1 byte) (nat_lt byte 128) both.0 in
    All-cons IsPlain byte bytes (leb-true 1 byte here.0, ltb-true byte 128 here.1) (all_plain bytes both.1)

plain_text : (bytes : List ℕ) → list_all is_plain bytes ≡ true → length bytes < 2 ^ 30 → IsShortText bytes
plain_text bytes all few =
    let plain = all_plain bytes all in
    record {
      text = record {
        utf8 = IsUtf8-from_ascii bytes (IsAscii-from_all bytes (All-weaker IsPlain (λ byte. byte < 128) (λ byte is. is.1) bytes plain));
        no_nul = All-weaker IsPlain (λ byte. byte ≢ 0) (λ byte is zero. omega (arith, is.0, zero)) bytes plain;
      };
      short = few;
    }

next_text : IsShortText next_name
unfolding is_plain
next_text = plain_text next_name refl (omega arith)

failing_text : IsShortText failing_name
unfolding is_plain
failing_text = plain_text failing_name refl (omega arith)

format_text : IsShortText format_name
unfolding is_plain
format_text = plain_text format_name refl (omega arith)

pub copied_is_text : (count : ℕ) (name : List ℕ) → count ≤ most_runs → IsCopied count name → IsShortText name
copied_is_text count name few (inr named) = subst IsShortText (sym named) format_text
copied_is_text count name few (inl (inr below)) = subst IsShortText (sym below.2) (name_is_text below.0 false (omega (arith, below.1, few)))
copied_is_text count name few (inl (inl (inl named))) = subst IsShortText (sym named) next_text
copied_is_text count name few (inl (inl (inr named))) = subst IsShortText (sym named) failing_text
