-- What the events of a part say together, event by event.
use Rattle.std.proofs.Common.{◌≡◌, ℕ, ◌+◌, ◌<◌, List, [], ◌∷◌, ◌++◌, Option, take, length, get_or, sym, ◌∙◌, ap}
use Rattle.std.specs.List.{flat_map}
use Rattle.std.specs.Option.{unwrap_or}
use Rattle.std.proofs.lemmas.List.{take_more}
use Rattle.packet_codec.specs.declared.event.Event.{Event}
use Rattle.outcome_fold.specs.Parts.{last_tags, text_in, reason_in, reason_limit, reason_of}
use Rattle.outcome_fold.specs.declared.files.KeptFiles.{KeptFiles}
use Rattle.outcome_fold.specs.Files.{name_in, files_of, with_piece}
use Rattle.outcome_fold.proofs.FileLemmas.{files_push}
use Rattle.outcome_fold.proofs.StepLemmas.{last_tags_at, flat_map_push, take_again}

abbrev StandsAt : List Event → ℕ → Event → Type 0
StandsAt part i e = e ≡ get_or part i e

next_is : (part : List Event) (i : ℕ) (e : Event) → i < length part → StandsAt part i e → take (i + 1) part ≡ take i part ++ e ∷ []
next_is part i e below is = take_more part i e below ∙ ap (λ x. take i part ++ x ∷ []) (sym is)

-- the tags of the last event that has tags, with one event more
pub tags_take : (part : List Event) (i : ℕ) (e : Event) (tags : Option (List (List ℕ))) → i < length part → StandsAt part i e → e.tags ≡ tags → last_tags (take (i + 1) part) ≡ unwrap_or tags (last_tags (take i part))
tags_take part i e tags below is own = ap last_tags (next_is part i e below is) ∙ last_tags_at tags (take i part) e own

-- the files that are kept, with one event more
pub files_take : (part : List Event) (i : ℕ) (e : Event) (files next : KeptFiles) → i < length part → StandsAt part i e → files ≡ files_of (take i part) → next ≡ with_piece files (name_in e.file) (text_in e.mime e.file) → next ≡ files_of (take (i + 1) part)
files_take part i e files next below is before kept =
    kept ∙ ap (λ (files : KeptFiles). with_piece files (name_in e.file) (text_in e.mime e.file)) before
    ∙ sym (files_push (take i part) e) ∙ ap files_of (sym (next_is part i e below is))

-- the same of the reason
pub reason_take : (part : List Event) (i : ℕ) (e : Event) (reason next : List ℕ) → i < length part → StandsAt part i e → reason ≡ reason_of (take i part) → next ≡ take reason_limit (reason ++ reason_in e.file) → next ≡ reason_of (take (i + 1) part)
reason_take part i e reason next below is before kept =
    let piece = λ (e : Event). reason_in e.file in
    kept ∙ ap (λ t. take reason_limit (t ++ piece e)) before
    ∙ take_again reason_limit (flat_map piece (take i part)) (piece e)
    ∙ ap (take reason_limit) (sym (flat_map_push piece (take i part) e) ∙ ap (flat_map piece) (sym (next_is part i e below is)))
