-- Each event that a reader gives has a packet.
use Rattle.std.proofs.Common.{◌≡◌, ℕ, ◌+◌, ◌<◌, ◌≤◌, ◌^◌, Option, Some, None, IfSome, List, [], ◌∷◌, ◌++◌, length, All, refl, sym, ap, subst, true, false, arith, length-append}
use Rattle.std.specs.Prelude.{codes}
use Rattle.std.specs.Option.{option_map}
use Rattle.std.proofs.lemmas.Bool.Decides.{nat_tests}
use Rattle.std.proofs.lemmas.List.Elements.{All-nil, All-cons, All-append}
use Rattle.sub_number.specs.Numbers.{shortest_number}
use Rattle.sub_number.specs.Lines.{with_newline}
use Rattle.packet_codec.specs.declared.event.Event.{Event}
use Rattle.packet_codec.specs.declared.event.FilePart.{FilePart}
use Rattle.packet_codec.specs.declared.status.Status.{Status}
use Rattle.packet_codec.specs.Canonical.{canonical_optional, canonical_text, canonical_file, canonical_fields, packet_size, Fits}
use Rattle.packet_codec.proofs.ShortestLemmas.{length_shortest_number, shortest_size_range}
use Rattle.packet_codec.proofs.WritingLemmas.{length_canonical_fields}
use Rattle.stream_reader.specs.Notes.{stdout_event}
use Rattle.tap_bridge.specs.Events.{longest_tap_line, comment_mime}
use Rattle.tap_bridge.specs.Kept.{IsShortFile}

packet_size_most : (n : ℕ) → packet_size n ≤ n + 10
packet_size_most n = grind (arith, nat_tests)

length_counted : (bytes : List ℕ) → length (canonical_text bytes) ≤ length bytes + 4
length_counted bytes = omega (arith, length-append (shortest_number (length bytes)) bytes, length_shortest_number (length bytes), shortest_size_range (length bytes))

file_size : (file : FilePart) → IsShortFile file → length (canonical_file file) ≤ 65561
file_size file short =
    let count = shortest_number (length file.bytes) in
    let front = canonical_text file.name ++ count in
    let both : length (canonical_file file) ≡ length front + length file.bytes = length-append front file.bytes in
    omega (
      arith,
      both,
      length-append (canonical_text file.name) count,
      length_counted file.name,
      length_shortest_number (length file.bytes),
      shortest_size_range (length file.bytes),
      short.0,
      short.1,
    )

-- the event of a test
abbrev pub test_event : List ℕ → Status → Option (List ℕ) → Option FilePart → Event
test_event id how mime file = record {
  stamp = None;
  id = Some id;
  tags = None;
  runnable = true;
  status = how;
  mime = mime;
  file = file;
  eof = false;
  route = None;
}

optional_file : (file : Option FilePart) → IfSome file IsShortFile → length (canonical_optional canonical_file file) ≤ 65561
optional_file None short = omega arith
optional_file (Some file) short = file_size file short

optional_mime : (file : Option FilePart) → length (canonical_optional canonical_text (option_map (λ part. comment_mime) file)) ≤ 28
optional_mime None = omega arith
optional_mime (Some file) = length_counted comment_mime

pub test_fits : (id : List ℕ) (how : Status) (mime : Option (List ℕ)) (file : Option FilePart) → mime ≡ option_map (λ part. comment_mime) file → length id < 2 ^ 20 → IfSome file IsShortFile → Fits (test_event id how mime file)
test_fits id how mime file is short fits = rw is (record {
  size = omega (
    arith,
    packet_size_most (length (canonical_fields (test_event id how (option_map (λ part. comment_mime) file) file))),
    length_canonical_fields (test_event id how (option_map (λ part. comment_mime) file) file),
    length_counted id,
    optional_mime file,
    optional_file file fits,
  );
})

-- the event of a piece of output
pub stdout_fits : (bytes : List ℕ) → length bytes ≤ 65537 → Fits (stdout_event bytes)
stdout_fits bytes short = record {
  size = omega (
    arith,
    packet_size_most (length (canonical_fields (stdout_event bytes))),
    length_canonical_fields (stdout_event bytes),
    length-append (canonical_text (codes "stdout")) (canonical_text bytes),
    length_counted (codes "stdout"),
    length_counted bytes,
    short,
  );
}

-- the event of a line
pub output_fits : (line bytes : List ℕ) (event : Event) → event ≡ stdout_event bytes → bytes ≡ with_newline line → length line ≤ longest_tap_line → Fits event
output_fits line bytes event is all short = rw is (stdout_fits bytes (omega (arith, ap length all, length-append line (10 ∷ []), short)))

pub fit_none : (events : List Event) → events ≡ [] → All Fits events
fit_none events none = subst (All Fits) (sym none) (All-nil Fits)

pub fit_push : (events new : List Event) (event : Event) → new ≡ events ++ event ∷ [] → All Fits events → Fits event → All Fits new
fit_push events new event is all fits = subst (All Fits) (sym is) (All-append Fits events (event ∷ []) all (All-cons Fits event [] fits (All-nil Fits)))
