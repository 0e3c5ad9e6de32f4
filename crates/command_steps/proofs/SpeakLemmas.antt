-- What is said of a run, at each exit.
use Rattle.std.proofs.Common.{◌≡◌, ◌⊎◌, inl, inr, ℕ, Bool, false, Option, None, Some, IfSome, List, [], ◌∷◌, ◌++◌, All, Result, Ok, Err, refl, sym, subst}
use Rattle.std.specs.Prelude.{IfOk, IfErr}
use Rattle.std.proofs.lemmas.List.Elements.{All-nil, All-cons, All-head, All-tail}
use Rattle.edge_io.specs.Disk.{Folder}
use Rattle.edge_io.specs.Seen.{Seen}
use Rattle.edge_io.specs.Steps.{Goes, Grown, Opened}
use Rattle.live_text.specs.Live.{live_so_far, live_text}
use Rattle.outcome_fold.specs.declared.summary.Summary.{Summary}
use Rattle.packet_codec.specs.Canonical.{IsEvent, Fits}
use Rattle.packet_codec.specs.declared.event.Event.{Event}
use Rattle.run_shelf.specs.Drafts.{OfDraft}
use Rattle.run_shelf.specs.Holds.{FitsFolder}
use Rattle.run_shelf.specs.Images.{KeepsRun}
use Rattle.run_shelf.specs.Repository.{run_of}
use Rattle.run_shelf.specs.Sides.{KeepsButCaches}
use Rattle.run_shelf.proofs.DraftLemmas.{goes_writes, run_kept}
use Rattle.run_shelf.proofs.SameLemmas.{shows_still}
use Rattle.run_shelf.proofs.ShowsLemmas.{shown}
use Rattle.speaker.specs.Speaking.{Takes}
use Rattle.speaker.proofs.TakesLemmas.{is_new}
use Rattle.suite_run.specs.Aloud.{Sinks, echoed, AddsAloud, BeganAloud}
use Rattle.suite_run.specs.declared.run_listener.Echo.{Echo}
use Rattle.suite_run.specs.declared.run_listener.Echo.TheVariants as echo
use Rattle.suite_run.specs.declared.run_listener.Said.{Said}
use Rattle.suite_run.specs.declared.run_listener.Shown.{Shown}
use Rattle.suite_run.specs.declared.lane_recorder.LanesRefusal.{LanesRefusal}
use Rattle.worker_lane.specs.declared.lot.Lot.{Lot}
use Rattle.command_steps.specs.Runs.{run_bytes, with_run}
use Rattle.command_steps.specs.Speaking.{WritesAloud, EndsWithRun, SaysPart, SaysRun, SaysSome}
use Rattle.command_steps.specs.declared.live_lines.Silenced.{Silenced}
use Rattle.command_steps.proofs.SoundLemmas.{kept_beside}

-- so it is of the first of them
pub all_front : (P : Event → Type 0) (xs ys : List Event) → All P (xs ++ ys) → All P xs
all_front P [] ys all = All-nil P
all_front P (x ∷ xs) ys all = All-cons P x xs (All-head P x (xs ++ ys) all) (all_front P xs ys (All-tail P x (xs ++ ys) all))

-- no event has no packets
echoed_none : (kind : Echo) → echoed kind [] ≡ []
echoed_none echo.Nothing = refl
echoed_none echo.Packets = refl

-- nothing was said yet
pub none_said : (kind : Shown) (partial : Bool) (folder : Option Folder) (before after : Sinks) (silenced : Silenced) → after ≡ before → silenced.errors ≡ false → silenced.out ≡ false → SaysSome kind partial folder before after silenced
none_said kind partial folder before after silenced same errors out = record {
  events = [];
  are_events = All-nil IsEvent;
  fit = All-nil Fits;
  lines = inl (is_new before.errors after.errors silenced.errors (λ i. (same i).errors) errors);
  packets = subst (λ (text : List ℕ). Takes text before.out after.out silenced.out) (sym (echoed_none kind.echo)) (is_new before.out after.out silenced.out (λ i. (same i).out) out);
}

-- the recording was not done
pub part_said : (kind : Shown) (partial : Bool) (folder : Option Folder) (before after : Sinks) (silenced : Silenced) → SaysPart kind before after silenced → SaysSome kind partial folder before after silenced
part_said kind partial folder before after silenced part = record {
  events = part.events;
  are_events = part.are_events;
  fit = part.fit;
  lines = inl part.lines;
  packets = part.packets;
}

module _ (kind : Shown) (filter_tags : List (List ℕ)) (old new : Option Folder) (before after : Sinks) (silenced : Silenced) (end : List ℕ) (summary : Summary) (aloud : WritesAloud kind filter_tags old new before after silenced end summary) where
  -- the end was not said
  pub said_so_far : (partial : Bool) (folder : Option Folder) → SaysSome kind partial folder before after silenced
  said_so_far partial folder = record {
    events = aloud.events;
    are_events = aloud.are_events;
    fit = aloud.fit;
    lines = inl aloud.lines;
    packets = aloud.packets;
  }

  -- and behind it the end
  module _ (last : Seen (List ℕ)) (then : Silenced) (same : then.out ≡ silenced.out) (takes : (start : Seen (List ℕ)) (text : List ℕ) → Takes text start after.errors silenced.errors → Takes (text ++ end) start last then.errors) (partial : Bool) (folder : Option Folder) (shows : IfSome folder (EndsWithRun partial aloud.events)) where
    whole_lines : Takes (live_text kind.live aloud.events) before.errors last then.errors
    whole_lines =
        subst (λ (text : List ℕ). Takes (live_so_far kind.live aloud.events ++ text) before.errors last then.errors) aloud.end_is
        (takes before.errors (live_so_far kind.live aloud.events) aloud.lines)

    packets_then : Takes (echoed kind.echo aloud.events) before.out after.out then.out
    packets_then = subst (λ (failed : Bool). Takes (echoed kind.echo aloud.events) before.out after.out failed) (sym same) aloud.packets

    pub said_all : SaysSome kind partial folder before (record after { errors = last }) then
    said_all = record {
      events = aloud.events;
      are_events = aloud.are_events;
      fit = aloud.fit;
      lines = inr (shows, whole_lines);
      packets = packets_then;
    }

    pub said_run : SaysRun kind partial folder before (record after { errors = last }) then
    said_run = record {
      events = aloud.events;
      are_events = aloud.are_events;
      fit = aloud.fit;
      last = shows;
      lines = whole_lines;
      packets = packets_then;
    }

-- a repository that gets a run more shows it last
ends_with : (partial : Bool) (number : ℕ) (events : List Event) (kinds : List Bool) (a k : Option Folder) → IfSome a (FitsFolder kinds) → Goes a k (KeepsRun number (run_of partial (run_bytes events))) → IfSome k (EndsWithRun partial events)
ends_with partial number events kinds None None fits kept = tt
ends_with partial number events kinds None (Some t) fits kept = absurd kept
ends_with partial number events kinds (Some s) None fits kept = absurd kept
ends_with partial number events kinds (Some s) (Some t) fits kept =
    let all = shown s.disk.published fits.repository in
    (all.0, (kept_beside number (run_of partial (run_bytes events)) s t kept).shows all.0 all.1)

-- and still, whatever the caches are
ends_still : (partial : Bool) (events : List Event) (k f : Option Folder) → Goes k f KeepsButCaches → IfSome k (EndsWithRun partial events) → IfSome f (EndsWithRun partial events)
ends_still partial events None None keeps ends = tt
ends_still partial events None (Some t) keeps ends = absurd keeps
ends_still partial events (Some s) None keeps ends = absurd keeps
ends_still partial events (Some s) (Some t) keeps ends = (ends.0, shows_still s.disk.published t.disk.published keeps (with_run partial ends.0 events) ends.1)

-- the run that was begun, recorded and kept, and behind it the caches, brought up to it or not
pub run_shown : (partial : Bool) (number : ℕ) (kinds : List Bool) (events : List Event) (a b r k f : Option Folder) → IfSome a (FitsFolder kinds) → Goes a b Opened → Goes b r (Grown (run_bytes events)) → Goes r k (OfDraft (λ bytes. KeepsRun number (run_of partial bytes))) → Goes k f KeepsButCaches → IfSome f (EndsWithRun partial events)
run_shown partial number kinds events a b r k f fits begun added kept others =
    let run : List ℕ = run_bytes events in
    ends_still partial events k f others (ends_with partial number events kinds a k fits (run_kept number partial run a r k (goes_writes a b r run begun added) kept))

-- ---- of lanes

module _ (kind : Shown) (filter_tags : List (List ℕ)) (rests : List (Option (List Lot))) (old new : Option Folder) (before after : Sinks) (said : Said) where
  -- which of the sinks have failed by then
  abbrev silenced_by : Silenced
  silenced_by = record { errors = said.errors_failed; out = said.out_failed }

  -- what was recorded of lanes was said
  lanes_aloud : (summary : Summary) → AddsAloud kind filter_tags rests old new before after said summary → WritesAloud kind filter_tags old new before after silenced_by said.end.items summary
  lanes_aloud summary aloud = record {
    events = aloud.adds.merge.events;
    are_events = aloud.adds.merge.are_events;
    fit = aloud.adds.merge.fit;
    added = aloud.adds.merge.added;
    rows = aloud.rows;
    rows_are = aloud.adds.rows_are;
    sums = aloud.sums;
    lines = aloud.says.errors;
    packets = aloud.says.out;
    end_is = aloud.end;
  }

  -- and of those that were not recorded whole, what was added
  lanes_part : BeganAloud kind old new before after said → SaysPart kind before after silenced_by
  lanes_part began = record {
    events = began.events;
    are_events = all_front IsEvent began.events began.unsaid began.are_events;
    fit = all_front Fits began.events began.unsaid began.fit;
    lines = began.says.errors;
    packets = began.says.out;
  }

  -- the same by the answer
  pub lanes_written : (recorded : Result Summary LanesRefusal) (summary : Summary) → recorded ≡ Ok summary → IfOk recorded (AddsAloud kind filter_tags rests old new before after said) → WritesAloud kind filter_tags old new before after silenced_by said.end.items summary
  lanes_written recorded summary is aloud = lanes_aloud summary (subst (λ (r : Result Summary LanesRefusal). IfOk r (AddsAloud kind filter_tags rests old new before after said)) is aloud)

  pub lanes_refused : (recorded : Result Summary LanesRefusal) (refusal : LanesRefusal) → recorded ≡ Err refusal → IfErr recorded (λ _. BeganAloud kind old new before after said) → SaysPart kind before after silenced_by
  lanes_refused recorded refusal is began = lanes_part (subst (λ (r : Result Summary LanesRefusal). IfErr r (λ _. BeganAloud kind old new before after said)) is began)
