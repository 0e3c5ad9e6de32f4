-- The foreign bytes of a stream have packets.
use Rattle.std.proofs.Common.{◌≡◌, ℕ, ◌+◌, ◌≤◌, Bool, List, Option, take, length, sym, subst, arith, codes}
use Rattle.std.proofs.lemmas.Bool.Decides.{nat_tests}
use Rattle.std.proofs.lemmas.List.{length-append, length-take-le}
use Rattle.packet_codec.specs.Canonical.{canonical_text, canonical_fields, packet_size, Fits}
use Rattle.packet_codec.proofs.ShortestLemmas.{length_shortest_number, shortest_size_range}
use Rattle.packet_codec.proofs.WritingLemmas.{length_canonical_fields}
use Rattle.sub_number.specs.Numbers.{shortest_number}
use Rattle.stream_reader.specs.declared.first_note.First.{First}
use Rattle.stream_reader.specs.declared.first_note.First.TheVariants.{Foreign}
use Rattle.stream_reader.specs.First.{FirstIs}
use Rattle.stream_reader.specs.Notes.{stdout_event}

packet_size_most : (n : ℕ) → packet_size n ≤ n + 10
packet_size_most n = grind (arith, nat_tests)

length_counted : (bytes : List ℕ) → length (canonical_text bytes) ≤ length bytes + 4
length_counted bytes = omega (arith, length-append (shortest_number (length bytes)) bytes, length_shortest_number (length bytes), shortest_size_range (length bytes))

stdout_fits : (bytes : List ℕ) → length bytes ≤ 65536 → Fits (stdout_event bytes)
stdout_fits bytes short = record {
  size = omega (
    arith,
    packet_size_most (length (canonical_fields (stdout_event bytes))),
    length_canonical_fields (stdout_event bytes),
    length-append (canonical_text (codes "stdout")) (canonical_text bytes),
    length_counted (codes "stdout"),
    length_counted bytes,
  );
}

pub run_fits : (ended : Bool) (bytes run : List ℕ) (first : First) (size : ℕ) (behind : Option ℕ) → FirstIs ended bytes first → first ≡ Foreign size behind → run ≡ take size bytes → Fits (stdout_event run)
run_fits ended bytes run first size behind is form same =
    let found : FirstIs ended bytes (Foreign size behind) = subst (FirstIs ended bytes) form is in
    subst (λ (l : List ℕ). Fits (stdout_event l)) (sym same) (stdout_fits (take size bytes) (omega (arith, found.1.short, length-take-le size bytes found.1.in_range)))
