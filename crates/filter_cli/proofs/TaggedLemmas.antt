-- An event with other tags, where it has room for them.
use Rattle.std.proofs.Common.{◌≡◌, ℕ, Option, if◌then◌else◌, List, ◌++◌, Result, OnOk, ap, sym, subst, ◌∙◌, inl, inr}
use Rattle.std.proofs.lemmas.Bool.{le-leb}
use Rattle.std.proofs.lemmas.Bool.Decides.{leb_tells}
use Rattle.packet_codec.specs.declared.event.Event.{Event}
use Rattle.packet_codec.specs.Canonical.{canonical, canonical_size, largest_packet, Fits}
use Rattle.packet_codec.specs.Retagging.{if_any, with_tags}
use Rattle.event_sift.specs.declared.tagger.Tagger.{Tagger}
use Rattle.event_sift.specs.Tagging.{tagged, tags_with, where_fits}

pub has_room : (changed e : Event) → Fits changed → where_fits changed e ≡ changed
has_room changed e fits = ap (λ b. if b then changed else e) (le-leb (canonical_size changed) largest_packet fits.size)

pub has_no_room : (changed e : Event) → (Fits changed → ⊥) → where_fits changed e ≡ e
has_no_room changed e none = elim (leb_tells (canonical_size changed) largest_packet) [
  | inl told ↦ absurd (none (record { size = told.1 }))
  | inr told ↦ ap (λ b. if b then changed else e) told.0
]

-- the packet of an event with the tags that a tagger gives it
pub tagged_so : (tagger : Tagger) (e : Event) (text : List ℕ) (own : Option (List (List ℕ))) (tags : List (List ℕ)) → own ≡ e.tags → tags ≡ tags_with tagger.add tagger.remove own → text ++ canonical (where_fits (with_tags e (if_any tags)) e) ≡ text ++ canonical (tagged tagger e)
tagged_so tagger e text own tags own_is is = ap (λ (t : List (List ℕ)). text ++ canonical (where_fits (with_tags e (if_any t)) e)) (is ∙ ap (tags_with tagger.add tagger.remove) own_is)

pub tagged_result : {A E : Type 0} (result : Result A E) (old new : List ℕ) (tagger : Tagger) (e : Event) (own : Option (List (List ℕ))) (tags : List (List ℕ)) → own ≡ e.tags → tags ≡ tags_with tagger.add tagger.remove own → OnOk result (new ≡ old ++ canonical (where_fits (with_tags e (if_any tags)) e)) → OnOk result (new ≡ old ++ canonical (tagged tagger e))
tagged_result result old new tagger e own tags own_is is = subst (λ (l : List ℕ). OnOk result (new ≡ l)) (tagged_so tagger e old own tags own_is is)

pub kept_result : {A E : Type 0} (result : Result A E) (old mid new : List ℕ) (changed e : Event) → mid ≡ old → (Fits changed → ⊥) → OnOk result (new ≡ mid ++ canonical e) → OnOk result (new ≡ old ++ canonical (where_fits changed e))
kept_result result old mid new changed e same none = subst (λ (l : List ℕ). OnOk result (new ≡ l)) (ap (λ m. m ++ canonical e) same ∙ ap (λ (x : Event). old ++ canonical x) (sym (has_no_room changed e none)))
