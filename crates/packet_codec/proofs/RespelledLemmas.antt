-- A packet's event that is written again with a change.
use Rattle.std.proofs.Common.{◌≡◌, ℕ, ◌+◌, ◌<◌, ◌≤◌, ◌^◌, Option, Some, None, List, [], ◌∷◌, ◌++◌, length, get_or, refl, ap, subst, ◌∙◌, append_assoc, arith}
use Rattle.std.specs.Prelude.{All, option_map}
use Rattle.std.specs.Borrow.{Bor}
use Rattle.std.specs.List.{flat_map}
use Rattle.std.proofs.lemmas.List.{length-append, length-map, get_or-map}
use Rattle.std.proofs.lemmas.Bool.Decides.{nat_tests}
use Rattle.std.proofs.lemmas.List.Elements.{All-nil, All-cons}
use Rattle.sub_number.specs.Numbers.{shortest_number}
use Rattle.packet_codec.specs.declared.event_change.Change.{Change}
use Rattle.packet_codec.specs.declared.header.Header.{Header}
use Rattle.packet_codec.specs.declared.parts.Parts.{Parts}
use Rattle.packet_codec.specs.declared.parts.RunList.{RunList}
use Rattle.packet_codec.specs.declared.event.Event.{Event}
use Rattle.packet_codec.specs.Canonical.{canonical_optional, canonical_text, canonical_stamp, canonical_tags, canonical_file, canonical_fields, canonical_body, canonical_size, Fits}
use Rattle.packet_codec.specs.Flags.{first_flags, second_flags}
use Rattle.packet_codec.specs.Packet.{signature, SpellsEvent}
use Rattle.packet_codec.specs.Retagging.{if_any, lent_bytes}
use Rattle.packet_codec.specs.Shapes.{Contents, ShowsParts, ShowsRuns, ShowsTags, contents_of, bytes_of, file_of, file_from}
use Rattle.packet_codec.specs.Told.{IsTold}
use Rattle.packet_codec.specs.Respelled.{AreOf, changed, tags_after, route_after}
use Rattle.packet_codec.proofs.GrammarLemmas.{fits_from_are}
use Rattle.packet_codec.proofs.LeastLemmas.{spelled_fits}
use Rattle.packet_codec.proofs.PacketLemmas.{file_again, told_at, told_contents}
use Rattle.packet_codec.proofs.RunsLeft.{tags_shown}
use Rattle.packet_codec.proofs.SpellingLemmas.{packet_size_room}
use Rattle.packet_codec.proofs.WritingLemmas.{length_canonical_fields, tags_count}

-- the fields that were found are the event's
module _ (parts : Parts) (e : Event) (shown : ShowsParts parts (contents_of e)) where
  stamp_is : canonical_optional canonical_stamp parts.stamp ≡ canonical_optional canonical_stamp e.stamp
  stamp_is = ap (canonical_optional canonical_stamp) shown.stamp

  id_is : canonical_optional canonical_text (bytes_of parts.id) ≡ canonical_optional canonical_text e.id
  id_is = ap (canonical_optional canonical_text) shown.id

  mime_is : canonical_optional canonical_text (bytes_of parts.mime) ≡ canonical_optional canonical_text e.mime
  mime_is = ap (canonical_optional canonical_text) shown.mime

  file_is : canonical_optional canonical_file (option_map file_from (file_of parts.file)) ≡ canonical_optional canonical_file e.file
  file_is = ap (λ (file : Option (List ℕ × List ℕ)). canonical_optional canonical_file (option_map file_from file)) shown.file ∙ ap (canonical_optional canonical_file) (file_again e.file)

  route_is : (change : Change) → canonical_optional canonical_text (route_after change (bytes_of parts.route)) ≡ canonical_optional canonical_text (route_after change e.route)
  route_is change = ap (λ (route : Option (List ℕ)). canonical_optional canonical_text (route_after change route)) shown.route

  -- so are their sizes
  pub fields_sum : (change : Change) (stamp id tags mime file route : ℕ) → stamp ≡ length (canonical_optional canonical_stamp parts.stamp)
      → id ≡ length (canonical_optional canonical_text (bytes_of parts.id))
      → tags ≡ length (canonical_optional canonical_tags (tags_after change e.tags))
      → mime ≡ length (canonical_optional canonical_text (bytes_of parts.mime))
      → file ≡ length (canonical_optional canonical_file (option_map file_from (file_of parts.file)))
      → route ≡ length (canonical_optional canonical_text (route_after change (bytes_of parts.route)))
      → stamp + id + tags + mime + file + route ≡ length (canonical_fields (changed change e))
  fields_sum change stamp id tags mime file route s i t m f r =
      omega (arith, length_canonical_fields (changed change e), s ∙ ap length stamp_is, i ∙ ap length id_is, t, m ∙ ap length mime_is, f ∙ ap length file_is, r ∙ ap length (route_is change))

-- each text of short tags is short
pub texts_short : (texts : List (List ℕ)) (n : ℕ) → length (flat_map canonical_text texts) < n → All (λ text. length text < n) texts
texts_short [] n short = All-nil (λ text. length text < n)
texts_short (text ∷ texts) n short =
    let whole = length-append (canonical_text text) (flat_map canonical_text texts) in
    let own = length-append (shortest_number (length text)) text in
    All-cons (λ text. length text < n) text texts (omega (arith, whole, own)) (texts_short texts n (omega (arith, whole)))

-- so is the text at each place
pub slice_short : (slices : List (Bor (List ℕ))) (k : ℕ) (d : Bor (List ℕ)) (n : ℕ) → k < length slices → All (λ text. length text < n) (lent_bytes slices) → length (get_or slices k d).now < n
slice_short slices k d n below all =
    let at : get_or (lent_bytes slices) k [] ≡ (get_or slices k d).now = get_or-map (λ (slice : Bor (List ℕ)). slice.now) slices k d [] below in
    let short : length (get_or (lent_bytes slices) k []) < n = all k [] (omega (arith, length-map slices (λ (slice : Bor (List ℕ)). slice.now))) in
    omega (arith, short, ap length at)

-- the tags of a list that is not empty
some_tags : (tags : List (List ℕ)) → 0 < length tags → if_any tags ≡ Some tags
some_tags tags some = grind (arith, nat_tests)

pub given_tags : (slices : List (Bor (List ℕ))) → 0 < length slices → if_any (lent_bytes slices) ≡ Some (lent_bytes slices)
given_tags slices some = some_tags (lent_bytes slices) (omega (arith, length-map slices (λ (slice : Bor (List ℕ)). slice.now)))

pub given_count : (slices : List (Bor (List ℕ))) → length slices ≤ length (canonical_tags (lent_bytes slices))
given_count slices = omega (arith, tags_count (lent_bytes slices), length-map slices (λ (slice : Bor (List ℕ)). slice.now))

pub given_short : (slices : List (Bor (List ℕ))) (n : ℕ) → length (canonical_tags (lent_bytes slices)) < n → All (λ text. length text < n) (lent_bytes slices)
given_short slices n short = texts_short (lent_bytes slices) n (omega (arith, length-append (shortest_number (length (lent_bytes slices))) (flat_map canonical_text (lent_bytes slices))))

-- the fields of an event that fits are short
pub fields_short : (e : Event) → Fits e → length (canonical_fields e) < 2 ^ 30
fields_short e fits = omega (arith, fits.size, packet_size_room (length (canonical_fields e)) fits.size)

put_all : (old o1 o2 o3 o4 o5 new s i t m f r : List ℕ) → o1 ≡ old ++ s → o2 ≡ o1 ++ i → o3 ≡ o2 ++ t → o4 ≡ o3 ++ m → o5 ≡ o4 ++ f → new ≡ o5 ++ r → new ≡ old ++ (s ++ i ++ t ++ m ++ f ++ r)
put_all old o1 o2 o3 o4 o5 new s i t m f r a b c d e g = rw (g, e, d, c, b, a) (simp append_assoc)

module _ (parts : Parts) (e : Event) (shown : ShowsParts parts (contents_of e)) (change : Change) where
  -- each of them
  module _ (fits : Fits (changed change e)) where
    pub id_short : length (canonical_optional canonical_text (bytes_of parts.id)) < 2 ^ 30
    id_short = omega (arith, ap length (id_is parts e shown), length_canonical_fields (changed change e), fields_short (changed change e) fits)

    pub tags_short : length (canonical_optional canonical_tags (tags_after change e.tags)) < 2 ^ 30
    tags_short = omega (arith, length_canonical_fields (changed change e), fields_short (changed change e) fits)

    pub mime_short : length (canonical_optional canonical_text (bytes_of parts.mime)) < 2 ^ 30
    mime_short = omega (arith, ap length (mime_is parts e shown), length_canonical_fields (changed change e), fields_short (changed change e) fits)

    pub file_short : length (canonical_optional canonical_file (option_map file_from (file_of parts.file))) < 2 ^ 30
    file_short = omega (arith, ap length (file_is parts e shown), length_canonical_fields (changed change e), fields_short (changed change e) fits)

    pub route_short : length (canonical_optional canonical_text (route_after change (bytes_of parts.route))) < 2 ^ 30
    route_short = omega (arith, ap length (route_is parts e shown change), length_canonical_fields (changed change e), fields_short (changed change e) fits)

  -- the fields, written one after another
  pub fields_put : (old o1 o2 o3 o4 o5 new : List ℕ) → o1 ≡ old ++ canonical_optional canonical_stamp parts.stamp
      → o2 ≡ o1 ++ canonical_optional canonical_text (bytes_of parts.id)
      → o3 ≡ o2 ++ canonical_optional canonical_tags (tags_after change e.tags)
      → o4 ≡ o3 ++ canonical_optional canonical_text (bytes_of parts.mime)
      → o5 ≡ o4 ++ canonical_optional canonical_file (option_map file_from (file_of parts.file))
      → new ≡ o5 ++ canonical_optional canonical_text (route_after change (bytes_of parts.route))
      → new ≡ old ++ canonical_fields (changed change e)
  unfolding canonical_fields
  fields_put old o1 o2 o3 o4 o5 new s i t m f r =
      put_all old o1 o2 o3 o4 o5 new _ _ _ _ _ _ (s ∙ ap (λ (l : List ℕ). old ++ l) (stamp_is parts e shown)) (i ∙ ap (λ (l : List ℕ). o1 ++ l) (id_is parts e shown)) t (m ∙ ap (λ (l : List ℕ). o3 ++ l) (mime_is parts e shown)) (f ∙ ap (λ (l : List ℕ). o4 ++ l) (file_is parts e shown)) (r ∙ ap (λ (l : List ℕ). o5 ++ l) (route_is parts e shown change))

-- all but the checksum, the head first
pub body_put : (e : Event) (old head new : List ℕ) (first second size : ℕ) → first ≡ first_flags e → second ≡ second_flags e → size ≡ canonical_size e
    → head ≡ old ++ signature ∷ first ∷ second ∷ shortest_number size → new ≡ head ++ canonical_fields e → new ≡ old ++ canonical_body e
unfolding canonical_body
body_put e old head new first second size f s z a b = rw (b, a, f, s, z) (append_assoc old (signature ∷ first_flags e ∷ second_flags e ∷ shortest_number (canonical_size e)) (canonical_fields e))

-- what was found in a packet is of its event
pub are_of : (p : List ℕ) (header : Header) (parts : Parts) → IsTold p header parts → (e : Event) → SpellsEvent p e → AreOf header parts e
are_of p header parts is e s =
    let told = told_at p header e (fits_from_are p is.are_bytes) is.stands s in
    record {
      first = told.first;
      second = told.second;
      shown = subst (λ (contents : Contents). ShowsParts parts contents) (told_contents p _ _ _ header e is.contents told is.shape) is.shown;
    }

-- such an event there is
pub some_event : (p : List ℕ) (header : Header) (parts : Parts) → IsTold p header parts → (e : Event) × AreOf header parts e
some_event p header parts is = (is.packet.0, are_of p header parts is is.packet.0 is.packet.1)

-- it fits as it is
pub some_fitting : (p : List ℕ) (header : Header) (parts : Parts) → IsTold p header parts → (e : Event) × AreOf header parts e × Fits e
some_fitting p header parts is = (is.packet.0, are_of p header parts is is.packet.0 is.packet.1, spelled_fits p is.packet.0 is.packet.1)

pub none_shown : (runs : Option (List (List ℕ))) → ShowsTags None runs → runs ≡ None
none_shown None shown = refl
none_shown (Some runs) shown = absurd shown

-- the runs that are its tags
pub runs_there : (parts : Parts) (list : RunList) (e : Event) → parts.tags ≡ Some list → ShowsParts parts (contents_of e) → (runs : List (List ℕ)) × ShowsRuns list.count list.bytes.now runs
runs_there parts list e is shown =
    tags_shown list e.tags (λ _. (runs : List (List ℕ)) × ShowsRuns list.count list.bytes.now runs) (λ runs there. (runs, there)) (subst (λ (tags : Option RunList). ShowsTags tags e.tags) is shown.tags)
