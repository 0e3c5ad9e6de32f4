-- What is added to a run follows what was taken.
use Rattle.std.proofs.Common.{◌≡◌, ℕ, ◌≤◌, ◌<◌, ◌+◌, List, [], ◌∷◌, ◌++◌, length, Bool, true, false, true≢false, ◌⊎◌, ⊎_elim, inl, inr, refl, sym, ◌∙◌, ap, subst, append_assoc, arith}
use Rattle.std.specs.Prelude.{Option, None, Some, IfSome, IsSome, is_some, take}
use Rattle.std.specs.List.{AllByRecursion}
use Rattle.std.specs.Option.{option_map}
use Rattle.std.proofs.lemmas.List.{append-nil}
use Rattle.std.proofs.lemmas.List.Concat.{flat_map-append}
use Rattle.std.specs.declared.snapshot.Snapshot.{Snapshot}
use Rattle.edge_io.specs.Causes.{Rose}
use Rattle.edge_io.specs.Disk.{Folder, Draft, IsImage}
use Rattle.edge_io.specs.Seen.{Seen}
use Rattle.edge_io.specs.Steps.{Goes, Grown, GrownInPart, HasDraft, grown}
use Rattle.edge_io.proofs.Passing.{passes_same}
use Rattle.packet_codec.specs.Lanes.{joined}
use Rattle.packet_codec.specs.Packets.{ArePackets}
use Rattle.run_shelf.specs.Drafts.{SameButDraft}
use Rattle.run_shelf.specs.Images.{PassesOld}
use Rattle.run_shelf.specs.Stores.{IsRecording, RecordsUnlessBroken}
use Rattle.run_shelf.specs.declared.faults.ShelfCall.{ShelfCall}
use Rattle.run_shelf.specs.declared.faults.ShelfCall.TheVariants.{Append}
use Rattle.worker_lane.specs.declared.lot.Ending.TheVariants.{NoMemory}
use Rattle.worker_lane.specs.declared.lot.Lot.{Lot}
use Rattle.worker_lane.specs.declared.lot.Lot.TheVariants.{End}
use Rattle.worker_mux.specs.Callers.{AddsPart, GoesOn, IsCaller, KeepsTape, IsOpen, HeardOrKept, StandsBy, Tape, WasHanded, calls_for, calls_of, packet_of, pieces_of_lot, pieces_of_lots, bytes_recorded}
use Rattle.worker_mux.specs.Passes.{lane_count, lots_taken, IsTakerFor}
use Rattle.worker_mux.specs.declared.belt.Belt.{Belt}
use Rattle.worker_mux.specs.declared.caller.Caller.{Caller}
use Rattle.worker_mux.specs.declared.knowledge.Parcel.{Parcel}
use Rattle.worker_mux.proofs.Lists.{all_more}

-- ---- one step of the folder after another

same_then : (a b c : Option Folder) → Goes a b SameButDraft → Goes b c SameButDraft → Goes a c SameButDraft
same_then None None None first second = tt
same_then None None (Some c) first second = second
same_then None (Some b) c first second = absurd first
same_then (Some a) None c first second = absurd first
same_then (Some a) (Some b) None first second = second
same_then (Some a) (Some b) (Some c) first second = record { disk = second.disk ∙ first.disk; past = second.past ∙ first.past }

same_self : (a : Option Folder) → Goes a a SameButDraft
same_self None = tt
same_self (Some a) = record { disk = refl; past = refl }

grown_none : (draft : Option Draft) → draft ≡ option_map (grown []) draft
grown_none None = refl
grown_none (Some draft) = ap (λ (l : List ℕ). Some (record { bytes = l; synced = draft.synced })) (sym (append-nil draft.bytes))

grown_then : (x y : List ℕ) (draft : Option Draft) → option_map (grown y) (option_map (grown x) draft) ≡ option_map (grown (x ++ y)) draft
grown_then x y None = refl
grown_then x y (Some draft) = ap (λ (l : List ℕ). Some (record { bytes = l; synced = draft.synced })) (append_assoc draft.bytes x y)

pub goes_grown_none : (a : Option Folder) → Goes a a (Grown [])
goes_grown_none None = tt
goes_grown_none (Some a) = ap (λ (d : Option Draft). record { disk = a.disk; draft = d; past = a.past }) (grown_none a.draft)

goes_grown_then : (a b c : Option Folder) (x y : List ℕ) → Goes a b (Grown x) → Goes b c (Grown y) → Goes a c (Grown (x ++ y))
goes_grown_then None None None x y first second = tt
goes_grown_then None None (Some c) x y first second = second
goes_grown_then None (Some b) c x y first second = absurd first
goes_grown_then (Some a) None c x y first second = absurd first
goes_grown_then (Some a) (Some b) None x y first second = second
goes_grown_then (Some a) (Some b) (Some c) x y first second =
    second
    ∙ ap (λ (f : Folder). record { disk = f.disk; draft = option_map (grown y) f.draft; past = f.past }) first
    ∙ ap (λ (d : Option Draft). record { disk = a.disk; draft = d; past = a.past }) (grown_then x y a.draft)

-- a run that has grown is there, and nothing else has changed
same_of_grown : (a b : Option Folder) (x : List ℕ) → Goes a b (Grown x) → Goes a b SameButDraft
same_of_grown None None x goes = tt
same_of_grown None (Some b) x goes = goes
same_of_grown (Some a) None x goes = goes
same_of_grown (Some a) (Some b) x goes = record { disk = ap (λ (f : Folder). f.disk) goes; past = ap (λ (f : Folder). f.past) goes }

draft_of_grown : (a b : Option Folder) (x : List ℕ) → Goes a b (Grown x) → HasDraft a → HasDraft b
draft_of_grown None None x goes has = tt
draft_of_grown None (Some b) x goes has = absurd goes
draft_of_grown (Some a) None x goes has = tt
draft_of_grown (Some a) (Some b) x goes has = subst (λ (f : Folder). IsSome f.draft) (sym goes) (stays a.draft has)
  where
    stays : (draft : Option Draft) → IsSome draft → IsSome (option_map (grown x) draft)
    stays None has = has
    stays (Some draft) has = refl

same_of_part : (a b : Option Folder) (x : List ℕ) → Goes a b (GrownInPart x) → Goes a b SameButDraft
same_of_part None None x goes = tt
same_of_part None (Some b) x goes = goes
same_of_part (Some a) None x goes = goes
same_of_part (Some a) (Some b) x (n, few, goes) = record { disk = ap (λ (f : Folder). f.disk) goes; past = ap (λ (f : Folder). f.past) goes }

pub passes_of_same : (a b : Option Folder) → Goes a b SameButDraft → Goes a b PassesOld
passes_of_same None None goes = tt
passes_of_same None (Some b) goes = goes
passes_of_same (Some a) None goes = goes
passes_of_same (Some a) (Some b) goes = passes_same (IsImage a.disk) a b goes.disk goes.past

-- ---- what is kept of a run that is added to

some_or_none : (fault : Option ShelfCall) → (fault ≡ None) ⊎ ((call : ShelfCall) × (fault ≡ Some call))
some_or_none None = inl refl
some_or_none (Some call) = inr (call, refl)

rose_before : (a b c : ℕ) → a ≤ b → Rose b c → Rose a c
rose_before a b c before (inl more) = inl (omega arith)
rose_before a b c before (inr last) = inr last

not_both : (fault : Option ShelfCall) (call : ShelfCall) → fault ≡ None → fault ≡ Some call → ⊥
not_both fault call without has = let clash : ◌≡◌ {A = Option ShelfCall} None (Some call) = sym without ∙ has in (let never : ⊥ = cc in never)

pub tape_same : (t : Tape) → KeepsTape t t
tape_same t = record {
  files = same_self t.folder.told;
  is_open = λ o. o;
  stays = λ call is. is;
  later = omega arith;
  rose = λ without call is. absurd (not_both t.fault call without is);
  stands = λ same. refl;
}

pub tape_then : (a b c : Tape) → KeepsTape a b → KeepsTape b c → KeepsTape a c
tape_then a b c first second = record {
  files = same_then a.folder.told b.folder.told c.folder.told first.files second.files;
  is_open = λ o. second.is_open (first.is_open o);
  stays = λ call is. second.stays call (first.stays call is);
  later = omega (arith, first.later, second.later);
  rose = λ without call is. ⊎_elim
      (λ (still : b.fault ≡ None).
      let s = second.rose still call is in (s.0, rose_before a.folder.faults b.folder.faults c.folder.faults first.later s.1))
      (λ (broke : (other : ShelfCall) × (b.fault ≡ Some other)).
      let f = first.rose without broke.0 broke.1 in
      let kept : c.fault ≡ Some broke.0 = second.stays broke.0 broke.1 in
      let same : call ≡ broke.0 = (let both : Some call ≡ Some broke.0 = sym is ∙ kept in cc) in
      (same ∙ f.0, subst (Rose a.folder.faults) (sym (second.stands (kept ∙ sym broke.1))) f.1))
      (some_or_none b.fault);
  stands = λ same. ⊎_elim
      (λ (still : a.fault ≡ None). ⊎_elim
      (λ (also : b.fault ≡ None). second.stands (same ∙ still ∙ sym also) ∙ first.stands (also ∙ sym still))
      (λ (broke : (other : ShelfCall) × (b.fault ≡ Some other)). absurd (not_both c.fault broke.0 (same ∙ still) (second.stays broke.0 broke.1)))
      (some_or_none b.fault))
      (λ (broken : (other : ShelfCall) × (a.fault ≡ Some other)).
      let mid : b.fault ≡ Some broken.0 = first.stays broken.0 broken.1 in
      second.stands (second.stays broken.0 mid ∙ sym mid) ∙ first.stands (mid ∙ sym broken.1))
      (some_or_none a.fault);
}

-- with no fault at the end there was none before
pub unbroken : (a b : Tape) → KeepsTape a b → b.fault ≡ None → a.fault ≡ None
unbroken a b keeps without = ⊎_elim
    (λ (still : a.fault ≡ None). still)
    (λ (broken : (other : ShelfCall) × (a.fault ≡ Some other)). absurd (not_both b.fault broken.0 without (keeps.stays broken.0 broken.1)))
    (some_or_none a.fault)

-- a packet was added
pub tape_added : (old new : Tape) (packet : List ℕ) → old.fault ≡ None → new.fault ≡ old.fault → Goes old.folder.told new.folder.told (Grown packet) → new.folder.faults ≡ old.folder.faults → KeepsTape old new
tape_added old new packet without same added count = record {
  files = same_of_grown old.folder.told new.folder.told packet added;
  is_open = λ o. record { draft = λ still. draft_of_grown old.folder.told new.folder.told packet added (o.draft without) };
  stays = λ call is. same ∙ is;
  later = omega (arith, count);
  rose = λ so call is. absurd (not_both new.fault call (same ∙ without) is);
  stands = λ so. count;
}

-- it was not
pub tape_broken : (old new : Tape) (packet : List ℕ) (call : ShelfCall) → old.fault ≡ None → new.fault ≡ Some call → call ≡ Append → Goes old.folder.told new.folder.told (GrownInPart packet) → old.folder.faults ≤ new.folder.faults → Rose old.folder.faults new.folder.faults → KeepsTape old new
tape_broken old new packet call without broke is_append part later rose = record {
  files = same_of_part old.folder.told new.folder.told packet part;
  is_open = λ o. record { draft = λ still. absurd (not_both new.fault call still broke) };
  stays = λ other is. absurd (not_both old.fault other without is);
  later = later;
  rose = λ so other is. ((let both : Some other ≡ Some call = sym is ∙ broke in let same : other ≡ call = cc in same) ∙ is_append, rose);
  stands = λ same. absurd (not_both new.fault call (same ∙ without) broke);
}

draft_of : (kinds : List Bool) (told : Option Folder) → IfSome told (IsRecording kinds) → HasDraft told
draft_of kinds None records = tt
draft_of kinds (Some s) records = records.draft

pub opens : (kinds : List Bool) (fault : Option ShelfCall) (folder : Seen Folder) (clock : ℕ) → RecordsUnlessBroken kinds fault folder.told → IsOpen (record { fault = fault; folder = folder; clock = clock })
opens kinds fault folder clock fits = record { draft = λ without. draft_of kinds folder.told (fits without) }

-- a repository at rest stays one, and a run that was begun is there
pub still_fits : (kinds : List Bool) (old new : Tape) → KeepsTape old new → RecordsUnlessBroken kinds old.fault old.folder.told → RecordsUnlessBroken kinds new.fault new.folder.told
still_fits kinds old new keeps fits without =
    let before : old.fault ≡ None = unbroken old new keeps without in
    at old.folder.told new.folder.told keeps.files (fits before) ((keeps.is_open (opens kinds old.fault old.folder old.clock fits)).draft without)
  where
    at : (a b : Option Folder) → Goes a b SameButDraft → IfSome a (IsRecording kinds) → HasDraft b → IfSome b (IsRecording kinds)
    at a None goes records has = tt
    at None (Some b) goes records has = absurd goes
    at (Some a) (Some b) goes records has = record {
      fits = record { rest = rw (goes.disk) (records.fits.rest); repository = rw (goes.disk) (records.fits.repository); kinds_are = rw (goes.disk) (records.fits.kinds_are) };
      draft = has;
    }

-- ---- what the listener was handed

joined_push : (pieces : List (List ℕ)) (piece : List ℕ) → joined (pieces ++ piece ∷ []) ≡ joined pieces ++ piece
joined_push pieces piece = flat_map-append (λ list. list) pieces (piece ∷ []) ∙ ap (λ (l : List ℕ). joined pieces ++ l) (append-nil piece)

-- nothing was added
pub part_same : (t : Tape) (packet : List ℕ) (call : ShelfCall) → t.fault ≡ Some call → AddsPart packet t t
part_same t packet call broken = record { part = []; added = goes_grown_none t.folder.told; whole = λ without. absurd (not_both t.fault call without broken) }

pub part_empty : (t : Tape) (packet : List ℕ) → packet ≡ [] → AddsPart packet t t
part_empty t packet none = record { part = []; added = goes_grown_none t.folder.told; whole = λ without. sym none }

-- all of it was
pub part_whole : (old new : Tape) (packet : List ℕ) → Goes old.folder.told new.folder.told (Grown packet) → AddsPart packet old new
part_whole old new packet added = record { part = packet; added = added; whole = λ without. refl }

-- some of it was
pub part_broken : (old new : Tape) (packet : List ℕ) (call : ShelfCall) → new.fault ≡ Some call → Goes old.folder.told new.folder.told (GrownInPart packet) → AddsPart packet old new
part_broken old new packet call broke part = at part
  where
    of : (part : List ℕ) → Goes old.folder.told new.folder.told (Grown part) → AddsPart packet old new
    of part added = record { part = part; added = added; whole = λ without. absurd (not_both new.fault call without broke) }

    first : (a b : Option Folder) → Goes a b (GrownInPart packet) → (part : List ℕ) × Goes a b (Grown part)
    first None None goes = ([], tt)
    first None (Some b) goes = absurd goes
    first (Some a) None goes = absurd goes
    first (Some a) (Some b) (n, few, goes) = (take n packet, goes)

    at : Goes old.folder.told new.folder.told (GrownInPart packet) → AddsPart packet old new
    at part = let some = first old.folder.told new.folder.told part in of some.0 some.1

-- what holds of what was handed on holds more weakly
pub handed_weaker : (P Q : List (List ℕ) → Type 0) (start : Option Folder) (t : Tape) → ((pieces : List (List ℕ)) → P pieces → Q pieces) → WasHanded P start t → WasHanded Q start t
handed_weaker P Q start t weaker handed = record {
  pieces = handed.pieces;
  packets = handed.packets;
  part = handed.part;
  added = handed.added;
  whole = handed.whole;
  holds = weaker handed.pieces handed.holds;
}

-- a fault is there
pub some_here : (fault : Option ShelfCall) → is_some fault ≡ true → fault ≡ None → ⊥
some_here None here none = true≢false (sym here)
some_here (Some call) here none = not_both (Some call) call none refl

-- nothing was handed on yet
pub handed_nothing : (P : List (List ℕ) → Type 0) (t : Tape) → P [] → WasHanded P t.folder.told t
handed_nothing P t holds = record { pieces = []; packets = tt; part = []; added = goes_grown_none t.folder.told; whole = λ still. refl; holds = holds }

-- a piece could not be added, and was not handed on
handed_none : (P Q : List (List ℕ) → Type 0) (start : Option Folder) (old new : Tape) (packet : List ℕ) → (new.fault ≡ None → ⊥) → AddsPart packet old new → ((pieces : List (List ℕ)) → P pieces → Q pieces) → WasHanded P start old → WasHanded Q start new
handed_none P Q start old new packet broke adds weaker handed = record {
  pieces = handed.pieces;
  packets = handed.packets;
  part = handed.part ++ adds.part;
  added = subst (λ (l : List ℕ). Goes start new.folder.told (Grown l)) (append_assoc (joined handed.pieces) handed.part adds.part)
      (goes_grown_then start old.folder.told new.folder.told (joined handed.pieces ++ handed.part) adds.part handed.added adds.added);
  whole = λ without. absurd (broke without);
  holds = weaker handed.pieces handed.holds;
}

-- a piece was added, and handed on
handed_one : (P Q : List (List ℕ) → Type 0) (start : Option Folder) (old new : Tape) (packet : List ℕ) → new.fault ≡ None → KeepsTape old new → ArePackets packet → AddsPart packet old new → ((pieces : List (List ℕ)) → P pieces → Q (pieces ++ packet ∷ [])) → WasHanded P start old → WasHanded Q start new
handed_one P Q start old new packet without kept are adds hears handed =
    let nothing : handed.part ≡ [] = handed.whole (unbroken old new kept without) in
    let all : adds.part ≡ packet = adds.whole without in
    let bytes : (joined handed.pieces ++ handed.part) ++ adds.part ≡ joined (handed.pieces ++ packet ∷ []) ++ [] =
    (λ i. (joined handed.pieces ++ nothing i) ++ all i)
    ∙ ap (λ (l : List ℕ). l ++ packet) (append-nil (joined handed.pieces))
    ∙ sym (joined_push handed.pieces packet)
    ∙ sym (append-nil (joined (handed.pieces ++ packet ∷ []))) in
    record {
      pieces = handed.pieces ++ packet ∷ [];
      packets = all_more ArePackets handed.pieces packet handed.packets are;
      part = [];
      added = subst (λ (l : List ℕ). Goes start new.folder.told (Grown l)) bytes
          (goes_grown_then start old.folder.told new.folder.told (joined handed.pieces ++ handed.part) adds.part handed.added adds.added);
      whole = λ still. refl;
      holds = hears handed.pieces handed.holds;
    }

-- the same one, whose listener is this by now
abbrev pub with_listener : {L : Type 0} → Caller L → L → Caller L
with_listener caller listener = record { taker = caller.taker; begun = caller.begun; listener = listener; running = caller.running; stopped = caller.stopped }

module _ {L : Type 0} (hears keeps : L → L → List (List ℕ) → Type 0) where
  -- until the lanes are stopped all pieces were heard
  still_heard : (caller : Caller L) (pieces : List (List ℕ)) → caller.stopped ≡ false → StandsBy hears keeps caller pieces → hears caller.begun.value caller.listener pieces
  still_heard caller pieces going (inl heard) = heard
  still_heard caller pieces going (inr kept) = absurd (true≢false (sym kept.0 ∙ going))

  -- nothing was heard meanwhile
  stands_same : (before after : Caller L) → after.begun ≡ before.begun → after.listener ≡ before.listener → (before.stopped ≡ true → after.stopped ≡ true) → (pieces : List (List ℕ)) → StandsBy hears keeps before pieces → StandsBy hears keeps after pieces
  stands_same before after begun same stopped pieces (inl heard) =
      inl (subst (λ (l : L). hears after.begun.value l pieces) (sym same) (subst (λ (b : Snapshot L). hears b.value before.listener pieces) (sym begun) heard))
  stands_same before after begun same stopped pieces (inr kept) = inr (
    stopped kept.0,
    subst (λ (l : L). keeps after.begun.value l pieces) (sym same) (subst (λ (b : Snapshot L). keeps b.value before.listener pieces) (sym begun) kept.1),
  )

  pub handed_same : (before after : Caller L) → after.begun ≡ before.begun → after.listener ≡ before.listener → (before.stopped ≡ true → after.stopped ≡ true) → (start : Option Folder) (t : Tape) → WasHanded (StandsBy hears keeps before) start t → WasHanded (StandsBy hears keeps after) start t
  handed_same before after begun same stopped start t = handed_weaker (StandsBy hears keeps before) (StandsBy hears keeps after) start t (stands_same before after begun same stopped)

  -- a piece could not be added, and the lanes are stopped
  pub piece_refused : (before after : Caller L) (start : Option Folder) (old new : Tape) (packet : List ℕ) → (new.fault ≡ None → ⊥) → AddsPart packet old new → after.begun ≡ before.begun → after.listener ≡ before.listener → after.stopped ≡ true
      → WasHanded (StandsBy hears keeps before) start old → WasHanded (StandsBy hears keeps after) start new
  piece_refused before after start old new packet broke adds begun same stopped =
      handed_none (StandsBy hears keeps before) (StandsBy hears keeps after) start old new packet broke adds (stands_same before after begun same (λ _. stopped))

  -- a piece was added and heard
  pub piece_heard : (before after : Caller L) (start : Option Folder) (old new : Tape) (packet : List ℕ) → before.stopped ≡ false → new.fault ≡ None → KeepsTape old new → ArePackets packet → AddsPart packet old new
      → ((pieces : List (List ℕ)) → hears before.begun.value before.listener pieces → hears after.begun.value after.listener (pieces ++ packet ∷ []))
      → WasHanded (StandsBy hears keeps before) start old → WasHanded (StandsBy hears keeps after) start new
  piece_heard before after start old new packet going without kept are adds heard =
      handed_one (StandsBy hears keeps before) (StandsBy hears keeps after) start old new packet without kept are adds (λ pieces stands. inl (heard pieces (still_heard before pieces going stands)))

  -- a piece was added, and memory was wanted to hear it
  pub piece_kept : (before after : Caller L) (start : Option Folder) (old new : Tape) (packet : List ℕ) → before.stopped ≡ false → new.fault ≡ None → KeepsTape old new → ArePackets packet → AddsPart packet old new → after.stopped ≡ true
      → ((pieces : List (List ℕ)) → hears before.begun.value before.listener pieces → keeps after.begun.value after.listener (pieces ++ packet ∷ []))
      → WasHanded (StandsBy hears keeps before) start old → WasHanded (StandsBy hears keeps after) start new
  piece_kept before after start old new packet going without kept are adds stopped keeping =
      handed_one (StandsBy hears keeps before) (StandsBy hears keeps after) start old new packet without kept are adds (λ pieces stands. inr (stopped, keeping pieces (still_heard before pieces going stands)))

  -- the same where the lanes are stopped behind it
  pub piece_kept_as : (before mid after : Caller L) (start : Option Folder) (old new : Tape) (packet : List ℕ) → before.stopped ≡ false → new.fault ≡ None → KeepsTape old new → ArePackets packet → AddsPart packet old new
      → after.begun ≡ mid.begun → after.listener ≡ mid.listener → after.stopped ≡ true
      → ((pieces : List (List ℕ)) → hears before.begun.value before.listener pieces → keeps mid.begun.value mid.listener (pieces ++ packet ∷ []))
      → WasHanded (StandsBy hears keeps before) start old → WasHanded (StandsBy hears keeps after) start new
  piece_kept_as before mid after start old new packet going without kept are adds begun same stopped keeping =
      piece_kept before after start old new packet going without kept are adds stopped
      (λ pieces heard. subst (λ (l : L). keeps after.begun.value l (pieces ++ packet ∷ [])) (sym same) (subst (λ (b : Snapshot L). keeps b.value mid.listener (pieces ++ packet ∷ [])) (sym begun) (keeping pieces heard)))

-- ---- the one that records goes on

pub goes_same : {L : Type 0} {hears keeps : L → L → List (List ℕ) → Type 0} (caller : Caller L) (t : Tape) → GoesOn hears keeps caller caller t t
goes_same caller t = record {
  count = refl;
  begun = refl;
  going = λ so. so;
  keeps = tape_same t;
  added = λ start so_far. so_far;
  counted = λ first so_far. so_far;
  handed = λ start so_far. so_far;
}

pub goes_then : {L : Type 0} {hears keeps : L → L → List (List ℕ) → Type 0} (a b c : Caller L) (x y z : Tape) → GoesOn hears keeps a b x y → GoesOn hears keeps b c y z → GoesOn hears keeps a c x z
goes_then a b c x y z first second = record {
  count = second.count ∙ first.count;
  begun = second.begun ∙ first.begun;
  going = λ so. first.going (second.going so);
  keeps = tape_then x y z first.keeps second.keeps;
  added = λ start so_far. second.added start (first.added start so_far);
  counted = λ count so_far. second.counted count (first.counted count so_far);
  handed = λ start so_far. second.handed start (first.handed start so_far);
}

-- the lanes are stopped
pub goes_stopped : {L : Type 0} {hears keeps : L → L → List (List ℕ) → Type 0} (a b c : Caller L) (x y : Tape) → GoesOn hears keeps a b x y → c.taker ≡ b.taker → c.begun ≡ b.begun → c.listener ≡ b.listener → c.stopped ≡ true → GoesOn hears keeps a c x y
goes_stopped {hears = hears} {keeps = keeps} a b c x y goes taker begun same stopped = record {
  count = ap lane_count taker ∙ goes.count;
  begun = begun ∙ goes.begun;
  going = λ so. absurd (true≢false (sym stopped ∙ so));
  keeps = goes.keeps;
  added = λ start so_far works. subst (λ t. Goes start y.folder.told (Grown (bytes_recorded (lots_taken t)))) (sym taker) (goes.added start so_far works);
  counted = λ first so_far. subst (λ t. y.clock ≤ first + calls_of (lots_taken t)) (sym taker) (goes.counted first so_far);
  handed = λ start so_far. handed_same hears keeps b c begun same (λ _. stopped) start y (goes.handed start so_far);
}

recorded_more : (ps : List Parcel) (p : Parcel) → bytes_recorded (ps ++ p ∷ []) ≡ bytes_recorded ps ++ packet_of p.lot
recorded_more [] p = append-nil (packet_of p.lot)
recorded_more (q ∷ qs) p =
    ap (λ l. packet_of q.lot ++ l) (recorded_more qs p) ∙ sym (append_assoc (packet_of q.lot) (bytes_recorded qs) (packet_of p.lot))

calls_more : (ps : List Parcel) (p : Parcel) → calls_of (ps ++ p ∷ []) ≡ calls_of ps + calls_for (packet_of p.lot)
calls_more [] p = omega arith
calls_more (q ∷ qs) p = omega (arith, calls_more qs p)

-- bytes that are there take one call
pub one_call : (bytes : List ℕ) → 0 < length bytes → calls_for bytes ≡ 1
one_call [] some = absurd (omega (arith, some))
one_call (byte ∷ bytes) some = refl

-- a lot was taken and added
pub goes_one : {L : Type 0} {hears keeps : L → L → List (List ℕ) → Type 0} (before after : Caller L) (old new : Tape) (lane : ℕ) (lot : Lot)
    → lane_count after.taker ≡ lane_count before.taker
    → after.begun ≡ before.begun
    → lots_taken after.taker ≡ lots_taken before.taker ++ record { lane = lane; lot = lot } ∷ []
    → (after.stopped ≡ false → before.stopped ≡ false)
    → KeepsTape old new
    → (new.fault ≡ None → Goes old.folder.told new.folder.told (Grown (packet_of lot)))
    → new.clock ≤ old.clock + calls_for (packet_of lot)
    → ((start : Option Folder) → WasHanded (StandsBy hears keeps before) start old → WasHanded (StandsBy hears keeps after) start new)
    → GoesOn hears keeps before after old new
goes_one before after old new lane lot count begun taken going keeps added calls handed = record {
  count = count;
  begun = begun;
  going = going;
  keeps = keeps;
  added = λ start so_far works.
      let same : bytes_recorded (lots_taken before.taker) ++ packet_of lot ≡ bytes_recorded (lots_taken after.taker) = sym (recorded_more (lots_taken before.taker) (record { lane = lane; lot = lot })) ∙ ap bytes_recorded (sym taken) in
      subst (λ (l : List ℕ). Goes start new.folder.told (Grown l)) same
      (goes_grown_then start old.folder.told new.folder.told (bytes_recorded (lots_taken before.taker)) (packet_of lot) (so_far (unbroken old new keeps works)) (added works));
  counted = λ first so_far.
      let more : calls_of (lots_taken after.taker) ≡ calls_of (lots_taken before.taker) + calls_for (packet_of lot) = ap calls_of taken ∙ calls_more (lots_taken before.taker) (record { lane = lane; lot = lot }) in
      omega (arith, so_far, calls, more);
  handed = handed;
}

-- a lane was settled
pub goes_settled : {L : Type 0} {hears keeps : L → L → List (List ℕ) → Type 0} (before after : Caller L) → lane_count after.taker ≡ lane_count before.taker → after.begun ≡ before.begun → after.listener ≡ before.listener → lots_taken after.taker ≡ lots_taken before.taker → after.stopped ≡ before.stopped → (now : Tape) → GoesOn hears keeps before after now now
goes_settled {hears = hears} {keeps = keeps} before after count begun same taken stopped now = record {
  count = count;
  begun = begun;
  going = λ so. sym stopped ∙ so;
  keeps = tape_same now;
  added = λ start so_far works. subst (λ (l : List Parcel). Goes start now.folder.told (Grown (bytes_recorded l))) (sym taken) (so_far works);
  counted = λ first so_far. subst (λ (l : List Parcel). now.clock ≤ first + calls_of l) (sym taken) so_far;
  handed = λ start so_far. handed_same hears keeps before after begun same (λ so. stopped ∙ so) start now so_far;
}

-- ---- and knows what was heard

pieces_more : (ps : List Parcel) (p : Parcel) → pieces_of_lots (ps ++ p ∷ []) ≡ pieces_of_lots ps ++ pieces_of_lot p.lot
pieces_more [] p = append-nil (pieces_of_lot p.lot)
pieces_more (q ∷ qs) p = ap (λ l. pieces_of_lot q.lot ++ l) (pieces_more qs p) ∙ sym (append_assoc (pieces_of_lot q.lot) (pieces_of_lots qs) (pieces_of_lot p.lot))

-- a lot was taken, added and heard
pub caller_one : {L : Type 0} (hears : L → L → List (List ℕ) → Type 0) (belt : Belt) (before after : Caller L) (lane : ℕ) (lot : Lot)
    → IsCaller hears belt before
    → IsTakerFor belt after.taker
    → lots_taken after.taker ≡ lots_taken before.taker ++ record { lane = lane; lot = lot } ∷ []
    → (after.stopped ≡ false → before.stopped ≡ false)
    → (after.stopped ≡ false → lot ≡ End NoMemory → ⊥)
    → ((pieces : List (List ℕ)) → hears before.begun.value before.listener pieces → after.stopped ≡ false → hears after.begun.value after.listener (pieces ++ pieces_of_lot lot))
    → IsCaller hears belt after
caller_one hears belt before after lane lot ready taker taken going well heard =
    let parcel : Parcel = record { lane = lane; lot = lot } in
    record {
      taker = taker;
      well = λ so. subst (AllByRecursion (λ p. p.lot ≡ End NoMemory → ⊥)) (sym taken) (all_more (λ p. p.lot ≡ End NoMemory → ⊥) (lots_taken before.taker) parcel (ready.well (going so)) (well so));
      heard = λ so. subst (hears after.begun.value after.listener) (sym (pieces_more (lots_taken before.taker) parcel) ∙ ap pieces_of_lots (sym taken)) (heard (pieces_of_lots (lots_taken before.taker)) (ready.heard (going so)) so);
    }

-- all levels, and then what was left on the belt
pub all_handed : {L : Type 0} (hears keeps : L → L → List (List ℕ) → Type 0) (listener : L) (first between last : Caller L) (old mid new : Tape) → first.begun.value ≡ listener → first.listener ≡ listener → hears listener listener []
    → GoesOn hears keeps first between old mid → GoesOn hears keeps between last mid new → WasHanded (HeardOrKept hears keeps listener last.listener) old.folder.told new
all_handed {L = L} hears keeps listener first between last old mid new begun same nothing levels left =
    let here : hears first.begun.value first.listener [] = subst (λ (l : L). hears first.begun.value l []) (sym same) (subst (λ (b : L). hears b listener []) (sym begun) nothing) in
    let value : last.begun.value ≡ listener = ap (λ (c : Snapshot L). c.value) (left.begun ∙ levels.begun) ∙ begun in
    let handed = left.handed old.folder.told (levels.handed old.folder.told (handed_nothing (StandsBy hears keeps first) old (inl here))) in
    subst (λ (b : L). WasHanded (HeardOrKept hears keeps b last.listener) old.folder.told new) value
    (handed_weaker (StandsBy hears keeps last) (HeardOrKept hears keeps last.begun.value last.listener) old.folder.told new (λ pieces. at pieces) handed)
  where
    at : (pieces : List (List ℕ)) → StandsBy hears keeps last pieces → HeardOrKept hears keeps last.begun.value last.listener pieces
    at pieces (inl heard) = inl heard
    at pieces (inr kept) = inr kept.1
