-- The two halves of an event: their sizes, and where their parts stand.
use Rattle.std.proofs.Common.{◌≡◌, ℕ, ◌+◌, ◌/◌, ◌<◌, ◌≤◌, Bool, true, true≢false, List, ◌++◌, length, refl, sym, inl, inr, ap, ◌∙◌, arith}
use Rattle.std.specs.Prelude.{Option, Some, None, option_map, is_some, nat_le}
use Rattle.std.specs.Fmt.{decimal}
use Rattle.std.proofs.lemmas.Bool.{cases_lt, lt-leb}
use Rattle.std.proofs.lemmas.Bool.Decides.{nat_tests}
use Rattle.std.proofs.lemmas.List.{length-append, length-take, length-drop}
use Rattle.sub_number.specs.Numbers.{shortest_size, shortest_number}
use Rattle.packet_codec.specs.declared.event.FilePart.{FilePart}
use Rattle.packet_codec.specs.declared.event.Event.{Event}
use Rattle.packet_codec.specs.declared.header.Header.{Header}
use Rattle.packet_codec.specs.declared.parts.FileBytes.{FileBytes}
use Rattle.packet_codec.specs.declared.parts.Parts.{Parts}
use Rattle.packet_codec.specs.Canonical.{canonical_optional, canonical_text, canonical_file, canonical_fields, packet_size, Fits}
use Rattle.packet_codec.specs.Flags.{flag, second_flags, status_number}
use Rattle.packet_codec.specs.Packet.{SpellsEvent}
use Rattle.packet_codec.specs.Respelled.{AreOf}
use Rattle.packet_codec.specs.Shapes.{file_of, file_from}
use Rattle.packet_codec.specs.Told.{IsTold}
use Rattle.packet_codec.specs.Halves.{has_halves, is_long_file, first_half, second_half, half_of, other_half_of, with_part}
use Rattle.packet_codec.specs.Routing.{route_under, under}
use Rattle.packet_codec.proofs.LeastLemmas.{spelled_fits}
use Rattle.packet_codec.proofs.PacketLemmas.{file_again}
use Rattle.packet_codec.proofs.RespelledLemmas.{are_of}
use Rattle.packet_codec.proofs.RoutingLemmas.{length_decimal_one, length_decimal_two, length_route_under_some}
use Rattle.packet_codec.proofs.ShortestLemmas.{length_shortest_number}
use Rattle.packet_codec.proofs.WritingLemmas.{length_canonical_fields}

-- ---- sizes

-- three bytes more lengthen a length by one byte at most
size_grows : (n m : ℕ) → m ≤ n + 3 → shortest_size m ≤ shortest_size n + 1
size_grows n m few = grind (arith, nat_tests)

-- fewer bytes have no longer length
size_falls : (n m : ℕ) → m ≤ n → shortest_size m ≤ shortest_size n
size_falls n m few = grind (arith, nat_tests)

packet_falls : (n m : ℕ) → m ≤ n → packet_size m ≤ packet_size n
packet_falls n m few = grind (arith, nat_tests)

length_text : (bytes : List ℕ) → length (canonical_text bytes) ≡ shortest_size (length bytes) + length bytes
length_text bytes = omega (arith, length-append (shortest_number (length bytes)) bytes, length_shortest_number (length bytes))

length_decimal : (lane : ℕ) → lane < 64 → length (decimal lane) ≤ 2
length_decimal lane small = elim (cases_lt lane 10) [
  | inl one ↦ omega (arith, length_decimal_one lane one)
  | inr two ↦ omega (arith, length_decimal_two lane two (omega arith))
]

small_number : (n : ℕ) → n ≤ 2 → shortest_size n ≡ 1
small_number n few = grind (arith, nat_tests)

-- under a lane the route's field grows by at most four bytes
route_grows : (lane : ℕ) (route : Option (List ℕ)) → lane < 64 → length (canonical_text (route_under lane route)) ≤ length (canonical_optional canonical_text route) + 4
route_grows lane None small = omega (arith, length_text (decimal lane), length_decimal lane small, small_number (length (decimal lane)) (length_decimal lane small))
route_grows lane (Some route) small =
    let more = length_route_under_some lane route small in
    omega (arith, length_text (route_under lane (Some route)), length_text route, more, size_grows (length route) (length (route_under lane (Some route))) more)

-- the same name with at least four bytes fewer
length_file : (name bytes : List ℕ) → length (canonical_file (record { name = name; bytes = bytes })) ≡ length (canonical_text name) + (shortest_size (length bytes) + length bytes)
length_file name bytes = omega (arith, length-append (canonical_text name ++ shortest_number (length bytes)) bytes, length-append (canonical_text name) (shortest_number (length bytes)), length_shortest_number (length bytes))

file_falls : (name bytes fewer : List ℕ) → length fewer + 4 ≤ length bytes → length (canonical_file (record { name = name; bytes = fewer })) + 4 ≤ length (canonical_file (record { name = name; bytes = bytes }))
file_falls name bytes fewer few = omega (arith, length_file name bytes, length_file name fewer, size_falls (length bytes) (length fewer) (omega arith))

is_long : (n : ℕ) → nat_le 8 n ≡ true → 8 ≤ n
is_long n long = elim (cases_lt n 8) [
  | inl less ↦ absurd (true≢false (sym long ∙ lt-leb 8 n less))
  | inr more ↦ more
]

first_falls : (file : Option FilePart) → is_long_file file ≡ true → length (canonical_optional canonical_file (option_map (with_part half_of) file)) + 4 ≤ length (canonical_optional canonical_file file)
first_falls None long = absurd (true≢false (sym long))
first_falls (Some file) long = file_falls file.name file.bytes (half_of file.bytes) (omega (arith, is_long (length file.bytes) long, length-take (length file.bytes / 2) file.bytes))

second_falls : (file : Option FilePart) → is_long_file file ≡ true → length (canonical_optional canonical_file (option_map (with_part other_half_of) file)) + 4 ≤ length (canonical_optional canonical_file file)
second_falls None long = absurd (true≢false (sym long))
second_falls (Some file) long = file_falls file.name file.bytes (other_half_of file.bytes) (omega (arith, is_long (length file.bytes) long, length-drop (length file.bytes / 2) file.bytes))

pub first_fits : (lane : ℕ) (e : Event) → lane < 64 → Fits e → has_halves e ≡ true → Fits (under lane (first_half e))
first_fits lane e small fits long =
    let fields : length (canonical_fields (under lane (first_half e))) ≤ length (canonical_fields e) = omega (arith, length_canonical_fields e, length_canonical_fields (under lane (first_half e)), route_grows lane e.route small, first_falls e.file long) in
    record { size = omega (arith, fits.size, packet_falls (length (canonical_fields e)) (length (canonical_fields (under lane (first_half e)))) fields) }

pub second_fits : (lane : ℕ) (e : Event) → lane < 64 → Fits e → has_halves e ≡ true → Fits (under lane (second_half e))
second_fits lane e small fits long =
    let fields : length (canonical_fields (under lane (second_half e))) ≤ length (canonical_fields e) = omega (arith, length_canonical_fields e, length_canonical_fields (under lane (second_half e)), route_grows lane e.route small, second_falls e.file long) in
    record { size = omega (arith, fits.size, packet_falls (length (canonical_fields e)) (length (canonical_fields (under lane (second_half e)))) fields) }

-- ---- where the parts of the halves stand

abbrev named : FilePart → List ℕ × List ℕ
named file = (file.name, file.bytes)

abbrev part_of : (List ℕ → List ℕ) → List ℕ × List ℕ → List ℕ × List ℕ
part_of half part = (part.0, half part.1)

file_with : (half : List ℕ → List ℕ) (file : Option FilePart) → option_map (part_of half) (option_map named file) ≡ option_map named (option_map (with_part half) file)
file_with half None = refl
file_with half (Some file) = refl

shown_file : (half : List ℕ → List ℕ) (shown part : Option (List ℕ × List ℕ)) (file : Option FilePart) → shown ≡ option_map named file → part ≡ option_map (part_of half) shown → part ≡ option_map named (option_map (with_part half) file)
shown_file half shown part file is part-is = part-is ∙ ap (option_map (part_of half)) is ∙ file_with half file

some_with : (half : List ℕ → List ℕ) (file : Option FilePart) → is_some file ≡ is_some (option_map (with_part half) file)
some_with half None = refl
some_with half (Some file) = refl

module _ (p : List ℕ) (header : Header) (parts : Parts) (is : IsTold p header parts) (e : Event) (s : SpellsEvent p e) where
  are : AreOf header parts e
  are = are_of p header parts is e s

  pub long_is : (long : Bool) → long ≡ is_long_file (option_map file_from (file_of parts.file)) → long ≡ has_halves e
  long_is long long-is = long-is ∙ ap (λ (file : Option (List ℕ × List ℕ)). is_long_file (option_map file_from file)) are.shown.file ∙ ap is_long_file (file_again e.file)

  pub first_are : (half : Header) (file : Option FileBytes) → half.first ≡ header.first → ((e : Event) → header.second ≡ second_flags e → half.second ≡ second_flags (first_half e)) → file_of file ≡ option_map (part_of half_of) (file_of parts.file)
      → AreOf half (record { stamp = parts.stamp; id = parts.id; tags = None; mime = parts.mime; file = file; route = parts.route }) (first_half e)
  first_are half file first second file-is = record {
    first = first ∙ are.first;
    second = second e are.second;
    shown = record {
      stamp = are.shown.stamp;
      id = are.shown.id;
      tags = tt;
      mime = are.shown.mime;
      file = shown_file half_of (file_of parts.file) (file_of file) e.file are.shown.file file-is;
      route = are.shown.route;
    };
  }

  pub second_are : (file : Option FileBytes) → file_of file ≡ option_map (part_of other_half_of) (file_of parts.file)
      → AreOf header (record { stamp = parts.stamp; id = parts.id; tags = parts.tags; mime = parts.mime; file = file; route = parts.route }) (second_half e)
  second_are file file-is = record {
    first = are.first;
    second = are.second ∙ ap (λ (some : Bool). flag (is_some e.tags) 128 + flag some 64 + flag (is_some e.mime) 32 + flag e.eof 16 + status_number e.status) (some_with other_half_of e.file);
    shown = record {
      stamp = are.shown.stamp;
      id = are.shown.id;
      tags = are.shown.tags;
      mime = are.shown.mime;
      file = shown_file other_half_of (file_of parts.file) (file_of file) e.file are.shown.file file-is;
      route = are.shown.route;
    };
  }

  fits : Fits e
  fits = spelled_fits p e s

  module _ (lane : ℕ) (small : lane < 64) (long : has_halves e ≡ true) where
    pub first_fits_so : Fits (under lane (first_half e))
    first_fits_so = first_fits lane e small fits long

    pub second_fits_so : Fits (under lane (second_half e))
    second_fits_so = second_fits lane e small fits long
