-- One run that is converted, and all of them.
use Rattle.std.proofs.Common.{◌≡◌, ◌⊎◌, inl, inr, ℕ, ◌+◌, ◌<◌, ◌≤◌, List, [], ◌∷◌, ◌++◌, length, length-append, Option, Some, None, IfSome, IsSome, IsSomeAnd, refl, sym, ap, ◌∙◌, subst, arith}
use Rattle.std.specs.Prelude.{slice_get}
use Rattle.std.proofs.lemmas.Bool.{cases_eq}
use Rattle.edge_io.specs.Disk.{Files, put, Disk, Folder, IsImage, at_rest}
use Rattle.edge_io.specs.Moments.{Passes}
use Rattle.edge_io.specs.Steps.{Goes, Stays, Opened, Dropped, Grown}
use Rattle.edge_io.proofs.Going.{goes_then, goes_from, goes_weaker}
use Rattle.edge_io.proofs.Passing.{passes_same, passes_then, passes_weaker}
use Rattle.packet_codec.specs.Packets.{ArePacketsOf}
use Rattle.packet_codec.specs.declared.event.Event.{Event}
use Rattle.run_shelf.specs.declared.faults.ShelfCall.{ShelfCall}
use Rattle.run_shelf.specs.declared.faults.ShelfCall.TheVariants as call
use Rattle.run_shelf.specs.Adoption.{SameButNew, PassesNew}
use Rattle.run_shelf.specs.Drafts.{OfDraft, Writes, PlaceFails, SameButDraft}
use Rattle.run_shelf.specs.Images.{AtRest, KeepsFile, ReadsFile}
use Rattle.run_shelf.specs.Repository.{full_name, partial_name, most_runs}
use Rattle.run_shelf.proofs.DraftLemmas.{writes_grown, after_writing, grown_then}
use Rattle.run_shelf.proofs.Joining.{rest_images}
use Rattle.run_shelf.proofs.OldLemmas.{run_put, new_itself, new_then, full_still}
use Rattle.run_shelf.proofs.RunLemmas.{last_item, other_item, within_items}
use Rattle.old_folder.specs.Converting.{HasConverted, Converts, StaysOld}
use Rattle.old_folder.proofs.OldLemmas.{none_converted, one_more, stays}
use Rattle.old_runs.specs.Fed.{HasFed}
use Rattle.old_runs.specs.Files.{IsOldFile, IsDamaged}
use Rattle.old_runs.specs.Giving.{AppendsEvents}
use Rattle.old_runs.specs.declared.file.OldFile.{OldFile}
use Rattle.old_upgrade.specs.declared.faults.UpgradeFault.{UpgradeFault}
use Rattle.old_upgrade.specs.declared.faults.UpgradeFault.TheVariants.{NoStore, NotOld, UnknownFormat, BadCount, BadRun, BadFailing, Shelf, NoMemory}
use Rattle.old_upgrade.specs.Recording.{HasRecordedAll, RecordsRun, RecordFails, IsDamagedRun, ConvertsRun, ConvertFails, HasConvertedTo, IsFoundOld, AllFail}
use Rattle.old_upgrade.specs.Upgrading.{IsConversion, IsConvertedFrom, AreConverted, HasBadRun}
use Rattle.old_upgrade.proofs.FileLemmas.{packets_both, grown_nothing}

-- ---- a file that was recorded whole

module _ (number : ℕ) (file : OldFile) (held packets : List ℕ) (empty : held ≡ []) where
  abbrev Closes : Type 0
  Closes = (bytes : List ℕ) (given : List Event) → HasFed file bytes given → AppendsEvents held packets (λ more. IsOldFile bytes (given ++ more))

  module _ (s m t : Folder) (all : HasRecordedAll (full_name number) file s m) (closes : Closes) (last : Grown packets m t) where
    gives : AppendsEvents held packets (λ more. IsOldFile all.bytes (all.given ++ more))
    gives = closes all.bytes all.given all.fed

    converted : (IsDamaged all.bytes → ⊥) → IsConversion all.bytes (all.packets ++ packets)
    converted whole = record {
      whole = whole;
      events = all.given ++ gives.more;
      tells = gives.holds;
      are = packets_both all.given gives.more all.packets packets all.are (subst (ArePacketsOf gives.more) (sym (gives.grown ∙ ap (λ (l : List ℕ). l ++ gives.packets) empty)) gives.are);
    }

    pub recorded : (IsDamaged all.bytes → ⊥) → RecordsRun number s t
    recorded whole = record {
      bytes = all.packets ++ packets;
      is = subst (λ (o : Option (List ℕ)). IsConvertedFrom o (all.packets ++ packets)) (sym all.there) (converted whole);
      grown = grown_then s m t all.packets packets all.grown last;
    }

  pub goes_recorded : (a b c : Option Folder) → Goes a b (HasRecordedAll (full_name number) file) → Closes → Goes b c (Grown packets) → ((bytes : List ℕ) (given : List Event) → HasFed file bytes given → IsDamaged bytes → ⊥) → Goes a c (RecordsRun number)
  goes_recorded a b c all closes last whole =
      goes_then a b c (HasRecordedAll (full_name number) file) (Grown packets) (RecordsRun number) all last
      (λ s m t p q. recorded s m t p closes q (whole p.bytes p.given p.fed))

  pub goes_damaged : (a b c : Option Folder) → Goes a b (HasRecordedAll (full_name number) file) → Goes b c (Grown packets) → ((bytes : List ℕ) (given : List Event) → HasFed file bytes given → IsDamaged bytes) → Goes a c (RecordFails number (BadRun number))
  goes_damaged a b c all last damaged =
      goes_then a b c (HasRecordedAll (full_name number) file) (Grown packets) (RecordFails number (BadRun number)) all last
      (λ s m t p q. (refl, subst (λ (o : Option (List ℕ)). IsSomeAnd o IsDamaged) (sym p.there) (damaged p.bytes p.given p.fed)))

none_by : (o : Option (List ℕ)) → o ≡ None → IsConvertedFrom o []
none_by None is = refl
none_by (Some bytes) is = cc

-- there is no file
pub goes_no_file : (number : ℕ) (a b : Option Folder) → Goes a b Stays → IfSome a (λ s. s.disk.published (full_name number) ≡ None) → Goes a b (RecordsRun number)
goes_no_file number a b same none =
    goes_from a b (λ s. s.disk.published (full_name number) ≡ None) Stays (RecordsRun number) none same
    (λ s t p q. record { bytes = []; is = none_by (s.disk.published (full_name number)) p; grown = subst (λ (f : Folder). Grown [] s f) (sym q) (grown_nothing s) })

-- ---- one run

opened_disk : (s b : Folder) → Opened s b → b.disk ≡ s.disk
opened_disk s b is = ap (λ (f : Folder). f.disk) is

file_of : (s b : Folder) (name : List ℕ) → b.disk ≡ s.disk → b.disk.published name ≡ s.disk.published name
file_of s b name same = ap (λ (d : Disk). d.published name) same

files_of : (s b : Folder) → b.disk ≡ s.disk → b.disk.published ≡ s.disk.published
files_of s b same = ap (λ (d : Disk). d.published) same

pub opened_same : (s b : Folder) → Opened s b → SameButDraft s b
opened_same s b is = record { disk = ap (λ (f : Folder). f.disk) is; past = ap (λ (f : Folder). f.past) is }

pub dropped_same : (s b : Folder) → Dropped s b → SameButDraft s b
dropped_same s b is = record { disk = ap (λ (f : Folder). f.disk) is; past = ap (λ (f : Folder). f.past) is }

same_same : (s m t : Folder) → SameButDraft s m → SameButDraft m t → SameButDraft s t
same_same s m t p q = record { disk = q.disk ∙ p.disk; past = q.past ∙ p.past }

module _ (number : ℕ) where
  abbrev name : List ℕ
  name = partial_name number

  abbrev after : ℕ
  after = number + 1

  converts : (s b c d : Folder) → Opened s b → RecordsRun number b c → OfDraft (KeepsFile name) c d → ConvertsRun number s d
  converts s b c d opened recs kept =
      let writes : Writes recs.bytes s c = writes_grown s b c recs.bytes opened recs.grown in
      record {
        bytes = recs.bytes;
        is = subst (λ (o : Option (List ℕ)). IsConvertedFrom o recs.bytes) (file_of s b (full_name number) (opened_disk s b opened)) recs.is;
        kept = after_writing (KeepsFile name) (λ bytes s t draft does. does) recs.bytes s c d writes kept;
      }

  same_new : (s t : Folder) → t.disk.published ≡ s.disk.published → SameButNew after s.disk.published t.disk.published
  same_new s t is = subst (λ (f : Files). SameButNew after s.disk.published f) (sym is) (new_itself after s.disk.published)

  put_new : (s t : Folder) (bytes : List ℕ) → ReadsFile name bytes s t → SameButNew after s.disk.published t.disk.published
  put_new s t bytes is = subst (λ (f : Files). SameButNew after s.disk.published f) (sym is) (run_put after number s.disk.published bytes (omega arith))

  place_fails : (which : ShelfCall) (c d : Folder) (bytes : List ℕ) → PlaceFails name bytes which c d → SameButNew after c.disk.published d.disk.published
  place_fails call.Names c d bytes fails = absurd fails
  place_fails call.Length c d bytes fails = absurd fails
  place_fails call.ReadAt c d bytes fails = absurd fails
  place_fails call.StartDraft c d bytes fails = absurd fails
  place_fails call.Append c d bytes fails = absurd fails
  place_fails call.SyncDraft c d bytes fails = same_new c d (files_of c d fails)
  place_fails call.Publish c d bytes (inl same) = same_new c d (files_of c d same)
  place_fails call.Publish c d bytes (inr reads) = put_new c d bytes reads
  place_fails call.SyncFolder c d bytes fails = put_new c d bytes fails

  record_fails : (fault : UpgradeFault) (s b c : Folder) → SameButDraft s b → SameButDraft b c → RecordFails number fault b c → ConvertFails number fault s c
  record_fails NoStore s b c first second fails = absurd fails
  record_fails NotOld s b c first second fails = absurd fails
  record_fails UnknownFormat s b c first second fails = absurd fails
  record_fails BadCount s b c first second fails = absurd fails
  record_fails (BadRun which) s b c first second fails =
      (fails.0, subst (λ (o : Option (List ℕ)). IsSomeAnd o IsDamaged) (file_of s b (full_name number) first.disk) fails.1, same_same s b c first second)
  record_fails BadFailing s b c first second fails = absurd fails
  record_fails (Shelf which) s b c first second fails = same_new s c (files_of s c (second.disk ∙ first.disk))
  record_fails NoMemory s b c first second fails = same_same s b c first second

  -- a stop leaves what one before the draft was begun might have left
  abbrev Left : Folder → Files → Type 0
  Left s image = IsImage s.disk image ⊎ SameButNew after s.disk.published image

  pub draft_passes : (s b : Folder) → SameButDraft s b → PassesNew after s b
  draft_passes s b same = passes_same (Left s) s b same.disk same.past

  passes_on : (s c d : Folder) → SameButDraft s c → PassesNew after c d → PassesNew after s d
  passes_on s c d same passes =
      passes_then (Left s) s c d (draft_passes s c same)
      (passes_weaker (Left c) (Left s) (λ image left. subst (λ (disk : Disk). IsImage disk image ⊎ SameButNew after disk.published image) same.disk left) c d passes)

  -- where the folder is told or not
  module _ (a b : Option Folder) where
    pub goes_begun : Goes a b Opened → Goes a b SameButDraft
    goes_begun opened = goes_weaker a b Opened SameButDraft opened opened_same

    pub goes_not_begun : (which : ShelfCall) → Goes a b Dropped → Goes a b (ConvertFails number (Shelf which))
    goes_not_begun which dropped = goes_weaker a b Dropped (ConvertFails number (Shelf which)) dropped (λ s t is. same_new s t (files_of s t (dropped_same s t is).disk))

    pub goes_dropped_passes : Goes a b Dropped → Goes a b (PassesNew after)
    goes_dropped_passes dropped = goes_weaker a b Dropped (PassesNew after) dropped (λ s t is. draft_passes s t (dropped_same s t is))

    module _ (c : Option Folder) (opened : Goes a b Opened) where
      pub goes_record_fails : (fault : UpgradeFault) → Goes b c SameButDraft → Goes b c (RecordFails number fault) → Goes a c (ConvertFails number fault)
      goes_record_fails fault rests fails =
          goes_then a b c Opened (λ m t. SameButDraft m t × RecordFails number fault m t) (ConvertFails number fault) opened (both b c rests fails)
          (λ s m t p q. record_fails fault s m t (opened_same s m p) q.0 q.1)
        where
          both : (b c : Option Folder) → Goes b c SameButDraft → Goes b c (RecordFails number fault) → Goes b c (λ m t. SameButDraft m t × RecordFails number fault m t)
          both None None p q = tt
          both None (Some t) p q = absurd p
          both (Some s) None p q = absurd p
          both (Some s) (Some t) p q = (p, q)

      pub goes_draft_then : Goes b c SameButDraft → Goes a c SameButDraft
      goes_draft_then rests = goes_then a b c Opened SameButDraft SameButDraft opened rests (λ s m t p q. same_same s m t (opened_same s m p) q)

      module _ (d : Option Folder) where
        pub goes_converts : Goes b c (RecordsRun number) → Goes c d (OfDraft (KeepsFile name)) → Goes a d (ConvertsRun number)
        goes_converts recs kept = by a b c d opened recs kept
          where
            by : (a b c d : Option Folder) → Goes a b Opened → Goes b c (RecordsRun number) → Goes c d (OfDraft (KeepsFile name)) → Goes a d (ConvertsRun number)
            by None None None None p q r = tt
            by None None None (Some t) p q r = absurd r
            by None None (Some m) d p q r = absurd q
            by None (Some m) c d p q r = absurd p
            by (Some s) None c d p q r = absurd p
            by (Some s) (Some m) None d p q r = absurd q
            by (Some s) (Some m) (Some n) None p q r = absurd r
            by (Some s) (Some m) (Some n) (Some t) p q r = converts s m n t p q r

        pub goes_place_fails : (which : ShelfCall) → Goes b c SameButDraft → Goes c d (OfDraft (λ bytes. PlaceFails name bytes which)) → Goes a d (ConvertFails number (Shelf which))
        goes_place_fails which rests fails =
            goes_then a c d SameButDraft (OfDraft (λ bytes. PlaceFails name bytes which)) (ConvertFails number (Shelf which)) (goes_draft_then rests) fails
            (λ s m t p q. subst (λ (f : Files). SameButNew after f t.disk.published) (files_of s m p.disk) (place_fails which m t q.bytes q.does))

        pub goes_place_passes : Goes b c SameButDraft → Goes c d (PassesNew after) → Goes a d (PassesNew after)
        goes_place_passes rests passes = goes_then a c d SameButDraft (PassesNew after) (PassesNew after) (goes_draft_then rests) passes (λ s m t p q. passes_on s m t p q)

    pub goes_draft_passes : Goes a b SameButDraft → Goes a b (PassesNew after)
    goes_draft_passes same = goes_weaker a b SameButDraft (PassesNew after) same draft_passes

-- ---- all runs

pub more_new : (few many : ℕ) (files image : Files) → few ≤ many → SameButNew few files image → SameButNew many files image
more_new few many files image less same = record { each = λ name no_base no_run. same.each name no_base (λ number below. no_run number (omega (arith, below, less))) }

none_there : (s : Folder) → AtRest s → Converts [] s s
none_there s rest = record {
  rest = rest;
  has = none_converted s.disk.published;
  passed = passes_same (λ image. IsImage s.disk image ⊎ SameButNew 0 s.disk.published image) s s refl refl;
}

pub first_of_all : (count : ℕ) (s : Folder) → IsFoundOld count s → HasConvertedTo 0 s s
first_of_all count s found = record {
  runs = [];
  counted = refl;
  are = λ number bytes is. absurd (no_item number bytes is);
  converts = none_there s found.rest;
}
  where
    no_item : (number : ℕ) (bytes : List ℕ) → slice_get [] number ≡ Some bytes → ⊥
    no_item number bytes is = cc

some_same : (a b : List ℕ) → Some a ≡ Some b → a ≡ b
some_same a b e = cc

item_there : (runs : List (List ℕ)) (number : ℕ) → number < length runs → (bytes : List ℕ) × (slice_get runs number ≡ Some bytes)
item_there runs number below = by (slice_get runs number) refl (within_items runs number below)
  where
    by : (o : Option (List ℕ)) → slice_get runs number ≡ o → IsSome o → (bytes : List ℕ) × (slice_get runs number ≡ Some bytes)
    by None is some = cc
    by (Some bytes) is some = (bytes, is)

whole_by : (o : Option (List ℕ)) (old bytes : List ℕ) → o ≡ Some old → IsConvertedFrom o bytes → IsDamaged old → ⊥
whole_by None old bytes is conv damaged = cc
whole_by (Some other) old bytes is conv damaged = conv.whole (subst IsDamaged (sym (some_same other old is)) damaged)

-- the file of a converted run is not damaged
pub whole_run : (files : Files) (runs : List (List ℕ)) (number : ℕ) (old : List ℕ) → number < length runs → AreConverted files runs → files (full_name number) ≡ Some old → IsDamaged old → ⊥
whole_run files runs number old below are is damaged =
    let item = item_there runs number below in
    whole_by (files (full_name number)) old item.0 is (are number item.0 item.1) damaged

module _ (count done : ℕ) (s m t : Folder) (found : IsFoundOld count s) (less : done < count) (so_far : HasConvertedTo done s m) where
  abbrev runs : List (List ℕ)
  runs = so_far.runs

  few : count ≤ most_runs
  few = found.old.counted.few

  small : length runs < most_runs
  small = omega (arith, so_far.counted, less, few)

  -- what a stop leaves then differs in new files alone
  rest_left : (image : Files) → IsImage m.disk image → SameButNew (length runs) s.disk.published image
  rest_left image left =
      subst (λ (f : Files). SameButNew (length runs) s.disk.published f)
      (sym (rest_images m.disk.published image (subst (λ (d : Disk). IsImage d image) so_far.converts.rest left)))
      so_far.converts.has.but

  new_left : (many : ℕ) → length runs ≤ many → (image : Files) → SameButNew many m.disk.published image → SameButNew many s.disk.published image
  new_left many enough image same = new_then many s.disk.published m.disk.published image (more_new (length runs) many s.disk.published m.disk.published enough so_far.converts.has.but) same

  moved_back : (many : ℕ) → done + 1 ≤ many → (image : Files) → IsImage m.disk image ⊎ SameButNew (done + 1) m.disk.published image → IsImage s.disk image ⊎ SameButNew many s.disk.published image
  moved_back many enough image (inl left) = inr (more_new (length runs) many s.disk.published image (omega (arith, so_far.counted, enough)) (rest_left image left))
  moved_back many enough image (inr new) = inr (new_left many (omega (arith, so_far.counted, enough)) image (more_new (done + 1) many m.disk.published image enough new))

  so_far_passes : (many : ℕ) → length runs ≤ many → Passes (λ image. IsImage s.disk image ⊎ SameButNew many s.disk.published image) s m
  so_far_passes many enough =
      passes_weaker (λ image. IsImage s.disk image ⊎ SameButNew (length runs) s.disk.published image) (λ image. IsImage s.disk image ⊎ SameButNew many s.disk.published image) by s m so_far.converts.passed
    where
      by : (image : Files) → IsImage s.disk image ⊎ SameButNew (length runs) s.disk.published image → IsImage s.disk image ⊎ SameButNew many s.disk.published image
      by image (inl left) = inl left
      by image (inr new) = inr (more_new (length runs) many s.disk.published image enough new)

  passes_many : (many : ℕ) → done + 1 ≤ many → PassesNew (done + 1) m t → PassesNew many s t
  passes_many many enough passes =
      passes_then (λ image. IsImage s.disk image ⊎ SameButNew many s.disk.published image) s m t (so_far_passes many (omega (arith, so_far.counted, enough)))
      (passes_weaker (λ image. IsImage m.disk image ⊎ SameButNew (done + 1) m.disk.published image) (λ image. IsImage s.disk image ⊎ SameButNew many s.disk.published image) (moved_back many enough) m t passes)

  pub passes_all : PassesNew (done + 1) m t → PassesNew count s t
  passes_all passes = passes_many count (omega (arith, less)) passes

  full_here : (number : ℕ) → number < most_runs → m.disk.published (full_name number) ≡ s.disk.published (full_name number)
  full_here number below = full_still (length runs) number s.disk.published m.disk.published (omega (arith, small)) below so_far.converts.has.but

  -- one run more
  module _ (step : ConvertsRun done m t) (passes : PassesNew (done + 1) m t) where
    are_more : AreConverted s.disk.published (runs ++ step.bytes ∷ [])
    are_more number bytes is = elim (cases_eq number (length runs)) [
      | inl here ↦
          let same : step.bytes ≡ bytes = some_same step.bytes bytes (sym (ap (slice_get (runs ++ step.bytes ∷ [])) here ∙ last_item runs step.bytes) ∙ is) in
          let at : number ≡ done = omega (arith, here, so_far.counted) in
          let files : m.disk.published (full_name done) ≡ s.disk.published (full_name number) = full_here done (omega (arith, less, few)) ∙ ap (λ (n : ℕ). s.disk.published (full_name n)) (sym at) in
          subst (IsConvertedFrom (s.disk.published (full_name number))) same (subst (λ (o : Option (List ℕ)). IsConvertedFrom o step.bytes) files step.is)
      | inr other ↦ so_far.are number bytes (sym (other_item runs step.bytes number other) ∙ is)
    ]

    published : t.disk.published ≡ put m.disk.published (partial_name done) step.bytes
    published = ap (λ (d : Disk). d.published) step.kept

    has_more : HasConverted (runs ++ step.bytes ∷ []) s.disk.published t.disk.published
    has_more =
        subst (λ (f : Files). HasConverted (runs ++ step.bytes ∷ []) s.disk.published f)
        (sym (published ∙ ap (λ (n : ℕ). put m.disk.published (partial_name n) step.bytes) (sym so_far.counted)))
        (one_more runs s.disk.published m.disk.published step.bytes small so_far.converts.has)

    counted_more : length (runs ++ step.bytes ∷ []) ≡ done + 1
    counted_more = length-append runs (step.bytes ∷ []) ∙ ap (λ (n : ℕ). n + 1) so_far.counted

    pub converted_more : HasConvertedTo (done + 1) s t
    converted_more = record {
      runs = runs ++ step.bytes ∷ [];
      counted = counted_more;
      are = are_more;
      converts = record {
        rest = step.kept ∙ ap at_rest (sym published);
        has = has_more;
        passed = passes_many (length (runs ++ step.bytes ∷ [])) (omega (arith, counted_more)) passes;
      };
    }

  -- or a refusal
  stays_new : SameButNew (done + 1) m.disk.published t.disk.published → StaysOld s.disk.published t.disk.published
  stays_new new =
      stays count s.disk.published t.disk.published found.old
      (new_left count (omega (arith, so_far.counted, less)) t.disk.published (more_new (done + 1) count m.disk.published t.disk.published (omega (arith, less)) new))

  stays_same : SameButDraft m t → StaysOld s.disk.published t.disk.published
  stays_same same = stays_new (subst (λ (f : Files). SameButNew (done + 1) m.disk.published f) (sym (files_of m t same.disk)) (new_itself (done + 1) m.disk.published))

  pub none_damaged : (number : ℕ) (old : List ℕ) → number < done → s.disk.published (full_name number) ≡ Some old → IsDamaged old → ⊥
  none_damaged number old below is damaged = whole_run s.disk.published runs number old (omega (arith, below, so_far.counted)) so_far.are is damaged

  bad_run : (which : ℕ) → which ≡ done → IsDamagedRun done m → HasBadRun which s.disk.published
  bad_run which is damaged = record {
    count = count;
    old = found.old;
    counted = omega (arith, is, less);
    damaged =
        subst (λ (n : ℕ). IsSomeAnd (s.disk.published (full_name n)) IsDamaged) (sym is)
        (subst (λ (o : Option (List ℕ)). IsSomeAnd o IsDamaged) (full_here done (omega (arith, less, few))) damaged);
    before = λ other bytes below there bad. none_damaged other bytes (omega (arith, below, is)) there bad;
  }

  pub all_fail : (fault : UpgradeFault) → ConvertFails done fault m t → AllFail fault s t
  all_fail NoStore fails = absurd fails
  all_fail NotOld fails = absurd fails
  all_fail UnknownFormat fails = absurd fails
  all_fail BadCount fails = absurd fails
  all_fail (BadRun which) fails = (bad_run which fails.0 fails.1, stays_same fails.2)
  all_fail BadFailing fails = absurd fails
  all_fail (Shelf which) fails = stays_new fails
  all_fail NoMemory fails = stays_same fails

-- where the folder is told or not
module _ (count : ℕ) (a : Option Folder) (found : IfSome a (IsFoundOld count)) where
  pub goes_first : Goes a a (HasConvertedTo 0)
  goes_first = by a found
    where
      by : (a : Option Folder) → IfSome a (IsFoundOld count) → Goes a a (HasConvertedTo 0)
      by None found = tt
      by (Some s) found = first_of_all count s found

  module _ (done : ℕ) (less : done < count) (b c : Option Folder) (so_far : Goes a b (HasConvertedTo done)) where
    abbrev Known : Folder → Folder → Type 0
    Known s m = IsFoundOld count s × HasConvertedTo done s m

    known : Goes a b Known
    known = goes_from a b (IsFoundOld count) (HasConvertedTo done) Known found so_far (λ s t p q. (p, q))

    pub goes_converted_more : Goes b c (ConvertsRun done) → Goes b c (PassesNew (done + 1)) → Goes a c (HasConvertedTo (done + 1))
    goes_converted_more step passes =
        goes_then a b c Known (λ m t. ConvertsRun done m t × PassesNew (done + 1) m t) (HasConvertedTo (done + 1)) known (both b c step passes)
        (λ s m t p q. converted_more count done s m t p.0 less p.1 q.0 q.1)
      where
        both : (b c : Option Folder) → Goes b c (ConvertsRun done) → Goes b c (PassesNew (done + 1)) → Goes b c (λ m t. ConvertsRun done m t × PassesNew (done + 1) m t)
        both None None p q = tt
        both None (Some t) p q = absurd p
        both (Some s) None p q = absurd p
        both (Some s) (Some t) p q = (p, q)

    pub goes_all_fail : (fault : UpgradeFault) → Goes b c (ConvertFails done fault) → Goes a c (AllFail fault)
    goes_all_fail fault fails = goes_then a b c Known (ConvertFails done fault) (AllFail fault) known fails (λ s m t p q. all_fail count done s m t p.0 less p.1 fault q)

    pub goes_all_pass : Goes b c (PassesNew (done + 1)) → Goes a c (PassesNew count)
    goes_all_pass passes = goes_then a b c Known (PassesNew (done + 1)) (PassesNew count) known passes (λ s m t p q. passes_all count done s m t p.0 less p.1 q)

  pub goes_done_passes : (b : Option Folder) → Goes a b (HasConvertedTo count) → Goes a b (PassesNew count)
  goes_done_passes b has =
      goes_weaker a b (HasConvertedTo count) (PassesNew count) has
      (λ s t p. passes_weaker (λ image. IsImage s.disk image ⊎ SameButNew (length p.runs) s.disk.published image) (λ image. IsImage s.disk image ⊎ SameButNew count s.disk.published image)
      (λ image left. subst (λ (n : ℕ). IsImage s.disk image ⊎ SameButNew n s.disk.published image) p.counted left) s t p.converts.passed)

pub rests_so_far : (done : ℕ) (a b : Option Folder) → Goes a b (HasConvertedTo done) → IfSome b AtRest
rests_so_far done None None has = tt
rests_so_far done None (Some t) has = absurd has
rests_so_far done (Some s) None has = absurd has
rests_so_far done (Some s) (Some t) has = has.converts.rest
