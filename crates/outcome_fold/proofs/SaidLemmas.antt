-- What an event says of its test, and the event itself.
use Rattle.std.proofs.Common.{◌≡◌, ℕ, List, [], ◌++◌, Option, Some, None, take, ap, ◌∙◌}
use Rattle.std.specs.Option.{option_map, unwrap_or}
use Rattle.packet_codec.specs.declared.event.FilePart.{FilePart}
use Rattle.packet_codec.specs.declared.event.Event.{Event}
use Rattle.outcome_fold.specs.declared.test_key.TestKey.{TestKey}
use Rattle.outcome_fold.specs.declared.part.Started.{Started}
use Rattle.outcome_fold.specs.declared.part.Said.{Said}
use Rattle.outcome_fold.specs.Parts.{test_of, text_by, text_in, reason_by, reason_in, reason_limit}
use Rattle.outcome_fold.specs.Files.{name_in, no_files, with_piece}
use Rattle.outcome_fold.specs.Started.{after, IsSaidBy, fresh_said, after_said}
use Rattle.outcome_fold.specs.Folded.{extended, extended_by}

said_is : (s : Started) (said : Said) (e : Event) → IsSaidBy said e → after_said s said ≡ after s e
said_is s said e says =
    let tags = ap (λ (t : Option (List (List ℕ))). unwrap_or t s.tags) says.tags in
    let reason = ap (λ (t : List ℕ). take reason_limit (s.reason ++ t)) says.reason in
    λ i. record { start = s.start; tags = tags i; files = with_piece s.files (says.name i) (says.text i); reason = reason i }

pub extended_is : (o : Option Started) (said : Said) (e : Event) → IsSaidBy said e → extended_by o said ≡ extended o e
extended_is None said e says =
    said_is (fresh_said said) said e says
    ∙ ap (λ (start : Option ℕ). after (record { start = start; tags = []; files = no_files; reason = [] }) e) says.instant
extended_is (Some s) said e says = said_is s said e says

-- the text of an event whose MIME type and whose file's bytes are these
pub text_said : (mime bytes : Option (List ℕ)) (text : List ℕ) (e : Event) → text ≡ text_by mime bytes → mime ≡ e.mime → bytes ≡ option_map (λ (file : FilePart). file.bytes) e.file → text ≡ text_in e.mime e.file
text_said mime bytes text e is type piece = is ∙ ap (λ (m : Option (List ℕ)). text_by m bytes) type ∙ ap (text_by e.mime) piece

-- the name of the file of an event, where it stands and where there is none
pub name_said : (name : Option (List ℕ)) (e : Event) → name ≡ option_map (λ (file : FilePart). file.name) e.file → unwrap_or name [] ≡ name_in e.file
name_said name e own = ap (λ (n : Option (List ℕ)). unwrap_or n []) own

-- the reason of an event whose file has this name and these bytes
pub reason_said : (name bytes : Option (List ℕ)) (reason : List ℕ) (e : Event) → reason ≡ reason_by name bytes → name ≡ option_map (λ (file : FilePart). file.name) e.file → bytes ≡ option_map (λ (file : FilePart). file.bytes) e.file → reason ≡ reason_in e.file
reason_said name bytes reason e is own piece = is ∙ ap (λ (n : Option (List ℕ)). reason_by n bytes) own ∙ ap (reason_by (option_map (λ (file : FilePart). file.name) e.file)) piece

abbrev at_route : Option (List ℕ) → List ℕ → TestKey
at_route route id = record { route = route; id = id }

-- the test of an event with this id and this route
pub no_test : (e : Event) → None ≡ e.id → None ≡ test_of e
no_test e none = ap (option_map (at_route e.route)) none

pub test_said : (e : Event) (route : Option (List ℕ)) (id : List ℕ) → Some id ≡ e.id → route ≡ e.route → Some (at_route route id) ≡ test_of e
test_said e route id some same = ap (λ (r : Option (List ℕ)). Some (at_route r id)) same ∙ ap (option_map (at_route e.route)) some
