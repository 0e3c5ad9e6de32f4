-- What the parts of a packet say of its event, one by one.
use Rattle.std.proofs.Common.{◌≡◌, ℕ, ◌%◌, Option, Some, None, List, refl, ap, ◌∙◌, subst}
use Rattle.std.specs.Prelude.{option_map, IfSome, IfOk, Result, All, ◌↔◌}
use Rattle.sub_number.specs.Texts.{IsShortText}
use Rattle.packet_codec.specs.declared.event.FilePart.{FilePart}
use Rattle.packet_codec.specs.declared.event.Event.{Event}
use Rattle.packet_codec.specs.declared.header.Header.{Header}
use Rattle.packet_codec.specs.declared.parts.Parts.{Parts}
use Rattle.packet_codec.specs.Packet.{SpellsEvent}
use Rattle.packet_codec.specs.Shapes.{ShowsTags, bytes_of, file_of, file_from, status_from, event_from}
use Rattle.packet_codec.specs.Told.{IsTold}
use Rattle.packet_codec.proofs.GrammarLemmas.{fits_from_are}
use Rattle.packet_codec.proofs.PacketLemmas.{told_at, told_event, told_parts}

file_bytes_of : (o : Option (List ℕ × List ℕ)) → option_map (λ (file : List ℕ × List ℕ). file.1) o ≡ option_map (λ (file : FilePart). file.bytes) (option_map file_from o)
file_bytes_of None = refl
file_bytes_of (Some file) = refl

file_name_of : (o : Option (List ℕ × List ℕ)) → option_map (λ (file : List ℕ × List ℕ). file.0) o ≡ option_map (λ (file : FilePart). file.name) (option_map file_from o)
file_name_of None = refl
file_name_of (Some file) = refl

module _ (p : List ℕ) (header : Header) (parts : Parts) (is : IsTold p header parts) where
  -- the texts among them are short enough
  pub short_id : IfSome (bytes_of parts.id) IsShortText
  short_id = let told = told_parts p header parts is in rw (told.1.id) told.2.id

  pub short_route : IfSome (bytes_of parts.route) IsShortText
  short_route = let told = told_parts p header parts is in rw (told.1.route) told.2.route

  pub short_tags : (tags : Option (List (List ℕ))) × ShowsTags parts.tags tags × IfSome tags (All IsShortText)
  short_tags = let told = told_parts p header parts is in (told.0.1.1.0, told.1.tags, told.2.tags)

  -- an event that is spelled is the one that they make
  module _ (e : Event) (s : SpellsEvent p e) where
    made : event_from header.first header.second is.contents ≡ e
    made = told_event p _ _ _ header e is.contents (told_at p header e (fits_from_are p is.are_bytes) is.stands s) is.shape

    pub stamp_made : parts.stamp ≡ e.stamp
    stamp_made = is.shown.stamp ∙ ap (λ (event : Event). event.stamp) made

    pub id_made : bytes_of parts.id ≡ e.id
    id_made = is.shown.id ∙ ap (λ (event : Event). event.id) made

    pub route_made : bytes_of parts.route ≡ e.route
    route_made = is.shown.route ∙ ap (λ (event : Event). event.route) made

    pub mime_made : bytes_of parts.mime ≡ e.mime
    mime_made = is.shown.mime ∙ ap (λ (event : Event). event.mime) made

    pub status_made : status_from (header.second % 8) ≡ e.status
    status_made = ap (λ (event : Event). event.status) made

    pub file_bytes_made : option_map (λ (file : List ℕ × List ℕ). file.1) (file_of parts.file) ≡ option_map (λ (file : FilePart). file.bytes) e.file
    file_bytes_made = ap (option_map (λ (file : List ℕ × List ℕ). file.1)) is.shown.file ∙ file_bytes_of is.contents.1.1.1.1.0 ∙ ap (λ (event : Event). option_map (λ (file : FilePart). file.bytes) event.file) made

    pub file_name_made : option_map (λ (file : List ℕ × List ℕ). file.0) (file_of parts.file) ≡ option_map (λ (file : FilePart). file.name) e.file
    file_name_made = ap (option_map (λ (file : List ℕ × List ℕ). file.0)) is.shown.file ∙ file_name_of is.contents.1.1.1.1.0 ∙ ap (λ (event : Event). option_map (λ (file : FilePart). file.name) event.file) made

    pub tags_made : {E : Type 0} (r : Result (Option (List (List ℕ))) E) → ((tags : Option (List (List ℕ))) → ShowsTags parts.tags tags → IfOk r (λ made. made ≡ tags)) → IfOk r (λ made. made ≡ e.tags)
    tags_made r copied = subst (λ (tags : Option (List (List ℕ))). IfOk r (λ made. made ≡ tags)) (ap (λ (event : Event). event.tags) made) (copied is.contents.1.1.0 is.shown.tags)

    pub tags_same : {T : Type 0} (texts : List (List ℕ)) → ((tags : Option (List (List ℕ))) → ShowsTags parts.tags tags → T ↔ tags ≡ Some texts) → T ↔ e.tags ≡ Some texts
    tags_same {T = T} texts each = subst (λ (tags : Option (List (List ℕ))). T ↔ tags ≡ Some texts) (ap (λ (event : Event). event.tags) made) (each is.contents.1.1.0 is.shown.tags)

-- what stands there is the text exactly where the event's is
pub same_text : {T A : Type 0} (a b text : A) → a ≡ b → T ↔ a ≡ text → T ↔ b ≡ text
same_text {T = T} {A = A} a b text is = subst (λ (o : A). T ↔ o ≡ text) is

-- a text that is a copy of what stands there is what it is
pub copied : {E : Type 0} (a b : Option (List ℕ)) (r : Result (Option (List ℕ)) E) → a ≡ b → IfOk r (λ text. text ≡ a) → IfOk r (λ text. text ≡ b)
copied a b r is = subst (λ (o : Option (List ℕ)). IfOk r (λ text. text ≡ o)) is
