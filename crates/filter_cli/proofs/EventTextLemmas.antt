-- The texts of whole streams as packets.
use Rattle.std.proofs.Common.{◌≡◌, ℕ, Bool, true, false, List, [], ◌∷◌, ◌++◌, map, if◌then◌else◌, refl, sym, ap, ◌∙◌, append-nil}
use Rattle.std.proofs.lemmas.Grind.{flat_map-append}
use Rattle.packet_codec.specs.Canonical.{canonical, packets_of}
use Rattle.packet_codec.specs.declared.event.Event.{Event}
use Rattle.stream_reader.specs.declared.note.Note.{Note}
use Rattle.stream_reader.specs.declared.note.Note.TheVariants as note
use Rattle.stream_reader.specs.Notes.{event_of, events_of}
use Rattle.event_sift.specs.declared.rules.Rules.{Rules}
use Rattle.event_sift.specs.declared.tagger.Tagger.{Tagger}
use Rattle.event_sift.specs.Keeping.{keeps}
use Rattle.event_sift.specs.Released.{released, released_behind, released_by, released_at_end, filtered}
use Rattle.event_sift.specs.Tagging.{tagged}
use Rattle.filter_cli.specs.Script.{given_behind, given_by}
use Rattle.filter_cli.specs.Events.{is_hidden_output, events_heard}
use Rattle.filter_cli.specs.Filtering.{filter_plan, let_through}
use Rattle.filter_cli.specs.Tagging.{tags_plan}
use Rattle.filter_cli.proofs.LooseLemmas.{heard_more, hidden_more, foreign_unheard, let_go_by, let_through_at}

-- what is released behind some notes, where others follow
abbrev rest_of : Rules → List Event → List Event → List ℕ
rest_of rules seen more = packets_of (released_behind (keeps rules) seen more)

-- what one event and the notes behind it give, whether it is hidden or not
event_behind : (rules : Rules) (before notes : List Note) (e : Event) (given : List ℕ) → given ≡ rest_of rules (events_heard true (before ++ note.Event e ∷ [])) (events_heard true notes) → (b : Bool) → is_hidden_output true e ≡ b → let_through rules true (events_heard true before) (note.Event e) ++ given ≡ rest_of rules (events_heard true before) ((if b then [] else e ∷ []) ++ events_heard true notes)
event_behind rules before notes e given is true hides =
    ap (λ (l : List ℕ). l ++ given) (let_go_by rules true (events_heard true before) e hides)
    ∙ is
    ∙ ap (λ (seen : List Event). rest_of rules seen (events_heard true notes)) (hidden_more true before e hides)
event_behind rules before notes e given is false shows =
    let now = released (keeps rules) (events_heard true before) e in
    ap (λ (l : List ℕ). l ++ given) (let_through_at rules true (events_heard true before) e shows)
    ∙ ap (λ (l : List ℕ). packets_of now ++ l) (is ∙ ap (λ (seen : List Event). rest_of rules seen (events_heard true notes)) (heard_more true before e shows))
    ∙ sym (flat_map-append canonical now (released_behind (keeps rules) (events_heard true before ++ e ∷ []) (events_heard true notes)))

let_through_behind : (rules : Rules) (before notes : List Note) → given_behind (filter_plan rules true) before notes ≡ rest_of rules (events_heard true before) (events_heard true notes)
let_through_behind rules before [] = refl
let_through_behind rules before (note.Foreign bytes ∷ notes) =
    let_through_behind rules (before ++ note.Foreign bytes ∷ []) notes
    ∙ ap (λ (seen : List Event). rest_of rules seen (events_heard true notes)) (foreign_unheard true before bytes)
let_through_behind rules before (note.Event e ∷ notes) =
    event_behind rules before notes e _ (let_through_behind rules (before ++ note.Event e ∷ []) notes) (is_hidden_output true e) refl

pub let_through_whole : (rules : Rules) (notes : List Note) → given_by (filter_plan rules true) notes ++ (filter_plan rules true).at_end notes ≡ packets_of (filtered (keeps rules) (events_heard true notes))
let_through_whole rules notes =
    let last = released_at_end (keeps rules) (events_heard true notes) in
    ap (λ (l : List ℕ). l ++ packets_of last) (let_through_behind rules [] notes)
    ∙ sym (flat_map-append canonical (released_by (keeps rules) (events_heard true notes)) last)

tagged_behind : (tagger : Tagger) (before notes : List Note) → given_behind (tags_plan tagger) before notes ≡ packets_of (map (tagged tagger) (events_of notes))
tagged_behind tagger before [] = refl
tagged_behind tagger before (given ∷ notes) = ap (λ (l : List ℕ). canonical (tagged tagger (event_of given)) ++ l) (tagged_behind tagger (before ++ given ∷ []) notes)

pub tagged_whole : (tagger : Tagger) (notes : List Note) → given_by (tags_plan tagger) notes ++ (tags_plan tagger).at_end notes ≡ packets_of (map (tagged tagger) (events_of notes))
tagged_whole tagger notes = append-nil (given_by (tags_plan tagger) notes) ∙ tagged_behind tagger [] notes
