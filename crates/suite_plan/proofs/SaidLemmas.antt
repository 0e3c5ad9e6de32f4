-- What the files of events say, gathered as the events come.
use Rattle.std.proofs.Common.{◌≡◌, ℕ, List, [], ◌∷◌, ◌++◌, Result, Option, Some, None, Ok, Err, IfOk, OnOk, refl, sym, ap, ◌∙◌, subst}
use Rattle.std.specs.List.{filter_map, cons_option}
use Rattle.std.proofs.lemmas.List.{append-nil}
use Rattle.std.proofs.lemmas.List.Elements.{filter_map-append}
use Rattle.std.proofs.lemmas.List.Sums.{fold-append}
use Rattle.packet_codec.specs.Grammar.{AreBytes}
use Rattle.packet_codec.specs.declared.event.Event.{Event}
use Rattle.stream_reader.specs.Notes.{stdout_event}
use Rattle.suite_plan.specs.FirstIds.{HasFirsts}
use Rattle.suite_plan.specs.Listed.{HasSaying, HasListed, HasListedAll}
use Rattle.suite_plan.specs.Listing.{listed_id}
use Rattle.suite_plan.specs.Saying.{ListingText, TellsListing, plain_name, with_file, with_some, with_event, nothing_said, said_by, told_of}
use Rattle.suite_plan.specs.declared.first_ids.FirstIds.{FirstIds}
use Rattle.suite_plan.specs.declared.listed.Listed.{Listed}
use Rattle.suite_plan.specs.declared.file_texts.FileTexts.{FileTexts}

-- one event more
said_more : (events : List Event) (event : Event) → said_by (events ++ event ∷ []) ≡ with_event (said_by events) event
said_more events event = fold-append with_event nothing_said events (event ∷ [])

-- an event that tells of no id
ids_same : (ids : FirstIds) (events : List Event) (event : Event) → listed_id event ≡ None → HasFirsts ids (filter_map listed_id events) → HasFirsts ids (filter_map listed_id (events ++ event ∷ []))
ids_same ids events event none has =
    subst (HasFirsts ids) (sym (filter_map-append listed_id events (event ∷ []) ∙ ap (λ (o : Option (List ℕ)). filter_map listed_id events ++ cons_option o []) none ∙ append-nil (filter_map listed_id events))) has

-- what is said, as the first of the files behind it
said_now : (said : FileTexts) (events : List Event) (event : Event) → HasSaying (with_event (said_by events) event) said → HasSaying (said_by (events ++ event ∷ [])) said
said_now said events event has = subst (λ (s : ListingText). HasSaying s said) (sym (said_more events event)) has

pub heard_none : (old new : Listed) (events : List Event) (event : Event) → listed_id event ≡ None → new.ids ≡ old.ids
    → HasSaying (with_some (said_by events) event.file) new.said → HasListed old events → HasListed new (events ++ event ∷ [])
heard_none old new events event none same said has = record {
  ids = ids_same new.ids events event none (subst (λ (i : FirstIds). HasFirsts i (filter_map listed_id events)) (sym same) has.ids);
  said = said_now new.said events event said;
}

pub heard_one : {T E : Type 0} (r : Result T E) (old new : Listed) (events : List Event) (event : Event) (id : List ℕ) → listed_id event ≡ Some id
    → ((all : List (List ℕ)) → HasFirsts old.ids all → OnOk r (HasFirsts new.ids (all ++ id ∷ [])))
    → HasSaying (with_some (said_by events) event.file) new.said → HasListed old events → OnOk r (HasListed new (events ++ event ∷ []))
heard_one (Ok value) old new events event id is adds said has = record {
  ids = subst (HasFirsts new.ids) (sym (filter_map-append listed_id events (event ∷ []) ∙ ap (λ (o : Option (List ℕ)). filter_map listed_id events ++ cons_option o []) is)) (adds (filter_map listed_id events) has.ids);
  said = said_now new.said events event said;
}
heard_one (Err fault) old new events event id is adds said has = tt

pub foreign_heard : {T E : Type 0} (r : Result T E) (old new : Listed) (events : List Event) (bytes : List ℕ) → new.ids ≡ old.ids
    → ((saying : ListingText) → HasSaying saying old.said → OnOk r (HasSaying (with_file saying (record { name = plain_name; bytes = bytes })) new.said))
    → HasListed old events → OnOk r (HasListed new (events ++ stdout_event bytes ∷ []))
foreign_heard (Ok value) old new events bytes same adds has = heard_none old new events (stdout_event bytes) refl same (adds (said_by events) has.said) has
foreign_heard (Err fault) old new events bytes same adds has = tt

-- all of it is told
pub said_all : {E : Type 0} (r : Result (List ℕ) E) (bytes : List ℕ) (listed : Listed) → AreBytes bytes → (has : HasListedAll bytes listed) → IfOk r (λ told. told ≡ told_of (said_by has.events).text) → IfOk r (λ told. TellsListing told bytes)
said_all (Ok told) bytes listed are has is = record { are_bytes = are; events = has.events; told = has.told; text_is = is }
said_all (Err fault) bytes listed are has is = tt
