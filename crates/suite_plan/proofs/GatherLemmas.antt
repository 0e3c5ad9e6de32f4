-- What notes tell, gathered as they are given.
use Rattle.std.proofs.Common.{◌≡◌, ℕ, ℤ, pos, false, Option, None, Some, IfSome, Ok, Err, List, [], ◌∷◌, ◌++◌, true, refl, sym, ap, ◌∙◌, subst}
use Rattle.std.proofs.lemmas.List.{map-append}
use Rattle.edge_io.specs.Children.{Output, AreBytesLeft}
use Rattle.edge_io.specs.declared.child.Finish.TheVariants.{Exit}
use Rattle.packet_codec.specs.declared.event.Event.{Event}
use Rattle.packet_codec.specs.Grammar.{AreBytes}
use Rattle.stream_reader.specs.declared.note.Note.{Note}
use Rattle.stream_reader.specs.Notes.{event_of, events_of}
use Rattle.stream_reader.specs.Stream.{Held, GivesNote, IsSpent}
use Rattle.stream_reader.proofs.TurnLemmas.{notes_none, notes_more, begin_more, whole_at_end}
use Rattle.suite_plan.specs.Gathering.{GathersListing, HasGatheredListing, TellsIds}
use Rattle.suite_plan.specs.Listed.{HasListed, HasListedAll}
use Rattle.suite_plan.specs.Outputs.{HasStatus}
use Rattle.suite_plan.specs.Saying.{TellsListing}
use Rattle.suite_plan.specs.declared.listing_reader.ListingReader.{ListingReader}
use Rattle.suite_plan.specs.declared.listed.Listed.{Listed}
use Rattle.suite_plan.specs.declared.test_listing.ListingRefusal.TheVariants.{Failed}

-- ---- all notes

pub gathered_none : (notes : List Note) (held : Held) (listed : Listed) → HasListed listed (events_of notes) → GathersListing notes held held listed
gathered_none notes held listed gathered = record { all = notes; given = notes_none held notes; gathered = gathered }

pub gathered_more : (notes : List Note) (before held after : Held) (old new : Listed) (next : Note)
    → GathersListing notes before held old → GivesNote held next after → after.ended ≡ held.ended
    → ((events : List Event) → HasListed old events → HasListed new (events ++ event_of next ∷ []))
    → GathersListing notes before after new
gathered_more notes before held after old new next so_far gives same step = record {
  all = so_far.all ++ next ∷ [];
  given = notes_more before held after notes so_far.all next so_far.given gives same;
  gathered = subst (HasListed new) (sym (map-append event_of so_far.all (next ∷ []))) (step (events_of so_far.all) so_far.gathered);
}

-- ---- the whole output

pub piece_gathered : (bytes piece : List ℕ) (gathered new : ListingReader) (held : Held)
    → AreBytes piece → HasGatheredListing gathered bytes → held ≡ record { bytes = gathered.reader.bytes ++ piece; ended = false }
    → ((notes : List Note) → HasListed gathered.listed (events_of notes) → GathersListing notes held new.reader new.listed)
    → HasGatheredListing new (bytes ++ piece)
piece_gathered bytes piece gathered new held are has held-is step =
    let gathers = step has.notes has.listed in
    record {
      notes = gathers.all;
      begins = begin_more bytes piece gathered.reader.bytes has.notes gathers.all held new.reader are has.begins held-is gathers.given;
      listed = gathers.gathered;
    }

pub all_listed : (bytes : List ℕ) (gathered : ListingReader) (held after : Held) (listed : Listed)
    → HasGatheredListing gathered bytes → held ≡ record { bytes = gathered.reader.bytes; ended = true }
    → ((notes : List Note) → HasListed gathered.listed (events_of notes) → GathersListing notes held after listed)
    → IsSpent after.ended after.bytes → HasListedAll bytes listed
all_listed bytes gathered held after listed has held-is step spent =
    let gathers = step has.notes has.listed in
    let notes = whole_at_end bytes gathered.reader.bytes has.notes gathers.all held after has.begins held-is gathers.given spent in
    record { events = events_of gathers.all; told = (gathers.all, notes, refl); tells = gathers.gathered }

-- ---- a child that ended with another status than 0

pub failed_told : (told : Option Output) (status shown : ℤ) (gathered : ListingReader) (said : List ℕ) → shown ≡ status → IfSome told (HasStatus (HasGatheredListing gathered) (Ok status)) → AreBytesLeft told → (status ≡ pos 0 → ⊥)
    → ((bytes : List ℕ) → AreBytes bytes → HasGatheredListing gathered bytes → TellsListing said bytes) → IfSome told (TellsIds (Err (Failed shown said)))
failed_told None status shown gathered said same ends are other says = tt
failed_told (Some output) status shown gathered said same ends are other says = record {
  ended = ends.0 ∙ ap Exit (sym same);
  other = λ zero. other (sym same ∙ zero);
  says = says output.bytes are ends.1;
}
