-- The job that items ask for, and the size of its events.
use Rattle.std.proofs.Common.{◌≡◌, ℕ, ◌+◌, ◌≤◌, Bool, true, false, ◌||◌, Option, None, Some, List, [], ◌∷◌, map, length, IsTrue, refl, sym, ap, subst, ◌∙◌, arith, length-append}
use Rattle.std.specs.List.{list_any}
use Rattle.std.proofs.lemmas.Bool.{cond-true, cond-false}
use Rattle.std.proofs.lemmas.Bool.Decides.{nat_tests}
use Rattle.std.proofs.lemmas.List.{length-replicate}
use Rattle.command_words.specs.Code.{item_meant}
use Rattle.command_words.specs.declared.item.Item as code
use Rattle.sub_number.specs.Numbers.{shortest_size}
use Rattle.packet_codec.specs.Canonical.{canonical_text, canonical_file, canonical_fields, canonical_size, packet_size, largest_packet, Fits}
use Rattle.packet_codec.proofs.ShortestLemmas.{length_shortest_number, shortest_size_least}
use Rattle.packet_codec.proofs.WritingLemmas.{length_canonical_fields}
use Rattle.packet_codec.specs.declared.stamp.Stamp.{Stamp}
use Rattle.sub_export.specs.declared.job.Job.{Job}
use Rattle.sub_export.specs.declared.job.Attachment.{Attachment}
use Rattle.sub_export.specs.declared.told_items.Said.{Said}
use Rattle.sub_export.specs.declared.told_items.Verdicts.TheVariants as said
use Rattle.sub_export.specs.Said.{AreVerdicts, verdict_meant}
use Rattle.sub_export.specs.Output.{StatusOption, OptionsTold, is_refused_item, verdicts_in, told_by, job_if, job_by, job_behind, job_fits, has_packet, attachment_event, piece_size, longest_bytes, longest_piece_fits, last_event}

any_map : {A B : Type 0} → (p : B → Bool) (f : A → B) (xs : List A) → list_any p (map f xs) ≡ list_any (λ x. p (f x)) xs
any_map p f [] = refl
any_map p f (x ∷ xs) = ap (λ (b : Bool). p (f x) || b) (any_map p f xs)

pub named_so : (items : List code.Item) (some : Bool) → some ≡ list_any (λ item. is_refused_item (item_meant item)) items → some ≡ true → None ≡ job_behind (map item_meant items)
named_so items some is names = sym (cond-true (list_any is_refused_item (map item_meant items)) None (job_by (map item_meant items) (verdicts_in (map item_meant items))) (any_map is_refused_item item_meant items ∙ sym is ∙ names))

unnamed_so : (items : List code.Item) (some : Bool) → some ≡ list_any (λ item. is_refused_item (item_meant item)) items → some ≡ false → job_behind (map item_meant items) ≡ job_by (map item_meant items) (verdicts_in (map item_meant items))
unnamed_so items some is names = cond-false (list_any is_refused_item (map item_meant items)) None (job_by (map item_meant items) (verdicts_in (map item_meant items))) (any_map is_refused_item item_meant items ∙ sym is ∙ names)

none_told : (vs : List StatusOption) → AreVerdicts said.Nothing vs → vs ≡ []
none_told [] are = refl
none_told (v ∷ vs) are = absurd are

one_told : (s : Said) (vs : List StatusOption) → AreVerdicts (said.Once s) vs → vs ≡ verdict_meant s ∷ []
one_told s [] are = absurd are
one_told s (v ∷ []) are = ap (λ (w : StatusOption). w ∷ []) are
one_told s (v ∷ w ∷ more) are = absurd are

pub nothing_so : (items : List code.Item) (some : Bool) (t : OptionsTold) → some ≡ list_any (λ item. is_refused_item (item_meant item)) items → some ≡ false → AreVerdicts said.Nothing (verdicts_in (map item_meant items)) → t ≡ told_by (map item_meant items) None → job_if t ≡ job_behind (map item_meant items)
nothing_so items some t is names are told =
    ap job_if told ∙ sym (unnamed_so items some is names ∙ ap (job_by (map item_meant items)) (none_told (verdicts_in (map item_meant items)) are))

pub once_so : (items : List code.Item) (some : Bool) (s : Said) (t : OptionsTold) → some ≡ list_any (λ item. is_refused_item (item_meant item)) items → some ≡ false → AreVerdicts (said.Once s) (verdicts_in (map item_meant items)) → t ≡ told_by (map item_meant items) (Some (verdict_meant s)) → job_if t ≡ job_behind (map item_meant items)
once_so items some s t is names are told =
    ap job_if told ∙ sym (unnamed_so items some is names ∙ ap (job_by (map item_meant items)) (one_told s (verdicts_in (map item_meant items)) are))

-- ---- sizes

packet_size_grows : (m n : ℕ) → m ≤ n → packet_size m ≤ packet_size n
packet_size_grows m n below = grind (arith, nat_tests)

length_longest : length longest_bytes ≡ 65536
unfolding longest_bytes
length_longest = length-replicate {A = ℕ} piece_size 0

length_file : (name bytes : List ℕ) → length (canonical_file (record { name = name; bytes = bytes })) ≡ length (canonical_text name) + (shortest_size (length bytes) + length bytes)
length_file name bytes = simp length-append (omega (arith, length_shortest_number (length bytes)))

size_of_65536 : (n : ℕ) → n ≡ 65536 → shortest_size n ≡ 3
size_of_65536 n is = rw is refl

shorter_file : (name bytes : List ℕ) → length bytes ≤ 65536 → length (canonical_file (record { name = name; bytes = bytes })) ≤ length (canonical_file (record { name = name; bytes = longest_bytes }))
shorter_file name bytes short =
    omega (arith, length_file name bytes, length_file name longest_bytes, length_longest, size_of_65536 (length longest_bytes) length_longest, shortest_size_least 3 (length bytes) (omega arith) (omega (arith, short)), short)

shorter_piece : (stamp : Option Stamp) (id : Option (List ℕ)) (a : Attachment) (bytes : List ℕ) → length bytes ≤ 65536 → canonical_size (attachment_event stamp id a bytes) ≤ canonical_size (attachment_event stamp id a longest_bytes)
shorter_piece stamp id a bytes short =
    packet_size_grows (length (canonical_fields (attachment_event stamp id a bytes))) (length (canonical_fields (attachment_event stamp id a longest_bytes)))
    (omega (arith, length_canonical_fields (attachment_event stamp id a bytes), length_canonical_fields (attachment_event stamp id a longest_bytes), shorter_file a.name bytes short))

longest_fits : (stamp : Option Stamp) (id : Option (List ℕ)) (a : Attachment) → IsTrue (has_packet (attachment_event stamp id a longest_bytes)) → canonical_size (attachment_event stamp id a longest_bytes) ≤ largest_packet
longest_fits stamp id a fits = grind (arith, nat_tests)

pub piece_fits : (job : Job) (a : Attachment) (bytes : List ℕ) → job.attachment ≡ Some a → IsTrue (job_fits job) → length bytes ≤ 65536 → Fits (attachment_event job.stamp job.id a bytes)
piece_fits job a bytes is fits short =
    let both : IsTrue (has_packet (last_event job)) × IsTrue (longest_piece_fits job.stamp job.id job.attachment) = grind arith in
    let longest : IsTrue (longest_piece_fits job.stamp job.id (Some a)) = subst (λ (o : Option Attachment). IsTrue (longest_piece_fits job.stamp job.id o)) is both.1 in
    record { size = omega (arith, shorter_piece job.stamp job.id a bytes short, longest_fits job.stamp job.id a longest) }
