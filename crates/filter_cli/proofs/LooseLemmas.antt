-- Output of no test, one note more.
use Rattle.std.proofs.Common.{◌≡◌, ℕ, Bool, true, false, List, [], ◌∷◌, ◌++◌, Option, Some, None, is_some, if◌then◌else◌, refl, sym, ap, ◌∙◌, append-nil}
use Rattle.std.specs.Option.{option_map, unwrap_or}
use Rattle.std.proofs.lemmas.Grind.{flat_map-append}
use Rattle.packet_codec.specs.declared.event.Event.{Event}
use Rattle.packet_codec.specs.declared.event.FilePart.{FilePart}
use Rattle.packet_codec.specs.Canonical.{packets_of}
use Rattle.stream_reader.specs.declared.note.Note.{Note}
use Rattle.stream_reader.specs.declared.note.Note.TheVariants as note
use Rattle.event_sift.specs.declared.rules.Rules.{Rules}
use Rattle.event_sift.specs.Keeping.{keeps}
use Rattle.event_sift.specs.Released.{released}
use Rattle.filter_cli.specs.Events.{loose_at, is_hidden_output, heard_in, events_heard, passed_on}
use Rattle.filter_cli.specs.Filtering.{let_through}

-- ---- the loose file of an event, by its id and its file

abbrev bytes_in : Option FilePart → Option (List ℕ)
bytes_in file = option_map (λ (f : FilePart). f.bytes) file

pub no_file : (id : Option (List ℕ)) (file : Option FilePart) → ◌≡◌ {A = Option (List ℕ)} None (bytes_in file) → ◌≡◌ {A = Option (List ℕ)} None (loose_at id file)
no_file None file none = none
no_file (Some id) file none = refl

pub of_a_test : (id : Option (List ℕ)) (file : Option FilePart) → is_some id ≡ true → ◌≡◌ {A = Option (List ℕ)} None (loose_at id file)
of_a_test None file wrong = cc
of_a_test (Some id) file some = refl

pub of_no_test : (id : Option (List ℕ)) (file : Option FilePart) (bytes : List ℕ) → is_some id ≡ false → Some bytes ≡ bytes_in file → Some bytes ≡ loose_at id file
of_no_test None file bytes none is = is
of_no_test (Some id) file bytes wrong is = cc

-- ---- events that are heard

pub heard_more : (hidden : Bool) (notes : List Note) (e : Event) → is_hidden_output hidden e ≡ false → events_heard hidden (notes ++ note.Event e ∷ []) ≡ events_heard hidden notes ++ e ∷ []
heard_more hidden notes e shown =
    flat_map-append (heard_in hidden) notes (note.Event e ∷ [])
    ∙ ap (λ (b : Bool). events_heard hidden notes ++ ((if b then [] else e ∷ []) ++ [])) shown

pub hidden_more : (hidden : Bool) (notes : List Note) (e : Event) → is_hidden_output hidden e ≡ true → events_heard hidden (notes ++ note.Event e ∷ []) ≡ events_heard hidden notes
hidden_more hidden notes e is =
    flat_map-append (heard_in hidden) notes (note.Event e ∷ [])
    ∙ ap (λ (b : Bool). events_heard hidden notes ++ ((if b then [] else e ∷ []) ++ [])) is
    ∙ append-nil (events_heard hidden notes)

pub foreign_unheard : (hidden : Bool) (notes : List Note) (bytes : List ℕ) → events_heard hidden (notes ++ note.Foreign bytes ∷ []) ≡ events_heard hidden notes
foreign_unheard hidden notes bytes = flat_map-append (heard_in hidden) notes (note.Foreign bytes ∷ []) ∙ append-nil (events_heard hidden notes)

-- ---- what is let through at an event

pub let_go_by : (rules : Rules) (hidden : Bool) (seen : List Event) (e : Event) → is_hidden_output hidden e ≡ true → let_through rules hidden seen (note.Event e) ≡ []
let_go_by rules hidden seen e is = ap (λ (b : Bool). if b then [] else packets_of (released (keeps rules) seen e)) is

pub let_through_at : (rules : Rules) (hidden : Bool) (seen : List Event) (e : Event) → is_hidden_output hidden e ≡ false → let_through rules hidden seen (note.Event e) ≡ packets_of (released (keeps rules) seen e)
let_through_at rules hidden seen e is = ap (λ (b : Bool). if b then [] else packets_of (released (keeps rules) seen e)) is
