-- What stays of a folder, and what a stop of it leaves, one step after another.
use Rattle.std.proofs.Common.{◌≡◌, ◌∷◌, ◌++◌, [], Option, None, Some, IfSome, Bool, List, All, Result, Ok, Err, refl, sym, ap, subst, ◌∙◌}
use Rattle.std.proofs.lemmas.List.Elements.{All-head, All-tail}
use Rattle.edge_io.specs.Disk.{Files, Disk, Folder, IsImage}
use Rattle.edge_io.specs.Moments.{LeavesOnly, Passes}
use Rattle.edge_io.specs.Seen.{Seen}
use Rattle.edge_io.specs.Steps.{Goes, Settled, Stays, Opened, Dropped}
use Rattle.edge_io.proofs.Going.{goes_then, goes_weaker}
use Rattle.edge_io.proofs.Passing.{passes_same, passes_then, passes_weaker}
use Rattle.run_shelf.specs.declared.faults.ShelfCall.{ShelfCall}
use Rattle.run_shelf.specs.declared.faults.ShelfCall.TheVariants.{Names, Length, ReadAt, StartDraft, Append, SyncDraft, Publish, SyncFolder}
use Rattle.run_shelf.specs.declared.faults.OpenFault.{OpenFault}
use Rattle.run_shelf.specs.declared.faults.OpenFault.TheVariants as open_fault
use Rattle.run_shelf.specs.declared.found.Found.{Found}
use Rattle.run_shelf.specs.Drafts.{SameButDraft}
use Rattle.run_shelf.specs.Holds.{kinds_of, FitsFolder}
use Rattle.run_shelf.specs.Images.{PassesOld}
use Rattle.run_shelf.specs.Outcomes.{FailsAt, OpenFails, Surveys}
use Rattle.command_steps.specs.Runs.{KeepsFiles}
use Rattle.command_steps.specs.Store.{Opens, Begins}
use Rattle.command_steps.specs.declared.store.KeepFault.{KeepFault}

-- ---- states that are told

-- a step between the same states
pub goes_ends : {S : Type 0} {a b x y : Option S} (R : S → S → Type 0) → a ≡ x → b ≡ y → Goes a b R → Goes x y R
goes_ends {a = a} {y = y} R first last step = subst (λ o. Goes o y R) first (subst (λ o. Goes a o R) last step)

pub stays_is : {S : Type 0} (a b : Option S) → Goes a b Stays → b ≡ a
stays_is None None stays = refl
stays_is None (Some t) stays = absurd stays
stays_is (Some s) None stays = absurd stays
stays_is (Some s) (Some t) stays = ap Some stays

-- ---- the disk of the last moment

final : List Disk → Disk → Disk
final [] first = first
final (disk ∷ disks) first = final disks disk

final_end : (disks : List Disk) (disk first : Disk) → final (disks ++ disk ∷ []) first ≡ disk
unfolding final
final_end [] disk first = refl
final_end (x ∷ disks) disk first = final_end disks disk x

final_behind : (disks : List Disk) (disk : Disk) (later : List Disk) (first : Disk) → final ((disks ++ disk ∷ []) ++ later) first ≡ final later disk
unfolding final
final_behind [] disk later first = refl
final_behind (x ∷ disks) disk later first = final_behind disks disk later x

final_leaves : (P : Files → Type 0) (disks : List Disk) (first : Disk) → LeavesOnly P first → All (LeavesOnly P) disks → LeavesOnly P (final disks first)
unfolding final
final_leaves P [] first leaves each = leaves
final_leaves P (disk ∷ disks) first leaves each = final_leaves P disks disk (All-head (LeavesOnly P) disk disks each) (All-tail (LeavesOnly P) disk disks each)

-- what a stop at the last moment leaves has P, where what one at the first leaves has it
pub passes_leaves : (P : Files → Type 0) (s t : Folder) → Passes P s t → LeavesOnly P s.disk → LeavesOnly P t.disk
passes_leaves P s t passes leaves =
    let last : t.disk ≡ final passes.later s.disk = sym (final_end t.past t.disk t.disk) ∙ ap (λ disks. final disks t.disk) passes.grows ∙ final_behind s.past s.disk passes.later t.disk in
    subst (LeavesOnly P) (sym last) (final_leaves P passes.later s.disk leaves passes.each)

-- ---- resting

-- reads of the folder give the same files, and a stop at each moment leaves what one before might have left
pub record KeepsReads (s t : Folder) : Type 0 where
  pub files : KeepsFiles s t
  pub old : PassesOld s t

-- what a stop leaves then, one before might have left
pub rests_images : (s t : Folder) → KeepsReads s t → LeavesOnly (IsImage s.disk) t.disk
rests_images s t rests = passes_leaves (IsImage s.disk) s t rests.old (λ image left. left)

stays_rests : (s t : Folder) → Stays s t → KeepsReads s t
stays_rests s t is = record {
  files = ap (λ (f : Folder). f.disk.published) is;
  old = passes_same (IsImage s.disk) s t (ap (λ (f : Folder). f.disk) is) (ap (λ (f : Folder). f.past) is);
}

rests_after : (s m t : Folder) → KeepsReads s m → KeepsReads m t → KeepsReads s t
rests_after s m t first second = record {
  files = second.files ∙ first.files;
  old = passes_then (IsImage s.disk) s m t first.old (passes_weaker (IsImage m.disk) (IsImage s.disk) (rests_images s m first) m t second.old);
}

pub rests_same : (a b : Option Folder) → b ≡ a → Goes a b KeepsReads
rests_same None None same = tt
rests_same None (Some t) same = cc
rests_same (Some s) None same = cc
rests_same (Some s) (Some t) same = stays_rests s t cc

pub rests_then : (a b c : Option Folder) → Goes a b KeepsReads → Goes b c KeepsReads → Goes a c KeepsReads
rests_then a b c first second = goes_then a b c KeepsReads KeepsReads KeepsReads first second rests_after

pub rests_of_stays : (a b : Option Folder) → Goes a b Stays → Goes a b KeepsReads
rests_of_stays a b stays = goes_weaker a b Stays KeepsReads stays stays_rests

pub goes_both : {S : Type 0} (a b : Option S) (R T Q : S → S → Type 0) → Goes a b R → Goes a b T → ((s t : S) → R s t → T s t → Q s t) → Goes a b Q
goes_both None None R T Q first second f = tt
goes_both None (Some t) R T Q first second f = absurd first
goes_both (Some s) None R T Q first second f = absurd first
goes_both (Some s) (Some t) R T Q first second f = f s t first second

pub goes_before : {S : Type 0} (a b : Option S) (R : S → S → Type 0) (P : S → Type 0) → Goes a b R → ((s t : S) → R s t → P s) → IfSome a P
goes_before None b R P step f = tt
goes_before (Some s) None R P step f = absurd step
goes_before (Some s) (Some t) R P step f = f s t step

-- ---- a survey

settled_keeps : (s t : Folder) → Settled s t → KeepsFiles s t
settled_keeps s t is = ap (λ (f : Folder). f.disk.published) is

stays_keeps : (s t : Folder) → Stays s t → KeepsFiles s t
stays_keeps s t is = ap (λ (f : Folder). f.disk.published) is

fails_keeps : (call : ShelfCall) (s t : Folder) → FailsAt call s t → KeepsFiles s t
fails_keeps Names s t fails = settled_keeps s t fails
fails_keeps Length s t fails = settled_keeps s t fails
fails_keeps ReadAt s t fails = settled_keeps s t fails
fails_keeps StartDraft s t fails = absurd fails
fails_keeps Append s t fails = absurd fails
fails_keeps SyncDraft s t fails = absurd fails
fails_keeps Publish s t fails = absurd fails
fails_keeps SyncFolder s t fails = stays_keeps s t fails

open_fails_keeps : (fault : OpenFault) (s t : Folder) → OpenFails fault s t → KeepsFiles s t
open_fails_keeps open_fault.NoStore s t fails = settled_keeps s t fails.1
open_fails_keeps open_fault.UnknownFormat s t fails = settled_keeps s t fails.1
open_fails_keeps open_fault.BadBase s t fails = settled_keeps s t fails.1
open_fails_keeps (open_fault.Gap number) s t fails = settled_keeps s t fails.1
open_fails_keeps (open_fault.Shelf call) s t fails = fails_keeps call s t fails
open_fails_keeps open_fault.NoMemory s t fails = settled_keeps s t fails

pub open_rests : (a b : Seen Folder) (result : Result Found OpenFault) → Opens a b result → Goes a.told b.told KeepsReads
open_rests a b (Ok found) opens = goes_both a.told b.told (Surveys (kinds_of found)) PassesOld KeepsReads opens.found opens.any_moment (λ s t survey old. record { files = settled_keeps s t survey.settled; old = old })
open_rests a b (Err fault) opens = goes_both a.told b.told (OpenFails fault) PassesOld KeepsReads opens.refused opens.any_moment (λ s t fails old. record { files = open_fails_keeps fault s t fails; old = old })

-- ---- the draft

pub same_rests : (s t : Folder) → SameButDraft s t → KeepsReads s t
same_rests s t same = record {
  files = ap (λ (d : Disk). d.published) same.disk;
  old = passes_same (IsImage s.disk) s t same.disk same.past;
}

pub rests_of_same : (a b : Option Folder) → Goes a b SameButDraft → Goes a b KeepsReads
rests_of_same a b same = goes_weaker a b SameButDraft KeepsReads same same_rests

pub same_at_first : (a : Option Folder) → Goes a a SameButDraft
same_at_first None = tt
same_at_first (Some s) = record { disk = refl; past = refl }

pub same_then : (a b c : Option Folder) → Goes a b SameButDraft → Goes b c SameButDraft → Goes a c SameButDraft
same_then a b c first second = goes_then a b c SameButDraft SameButDraft SameButDraft first second (λ s m t p q. record { disk = q.disk ∙ p.disk; past = q.past ∙ p.past })

opened_same : (a b : Option Folder) → Goes a b Opened → Goes a b SameButDraft
opened_same a b opened = goes_weaker a b Opened SameButDraft opened (λ s t is. record { disk = ap (λ (f : Folder). f.disk) is; past = ap (λ (f : Folder). f.past) is })

dropped_same : (a b : Option Folder) → Goes a b Dropped → Goes a b SameButDraft
dropped_same a b dropped = goes_weaker a b Dropped SameButDraft dropped (λ s t is. record { disk = ap (λ (f : Folder). f.disk) is; past = ap (λ (f : Folder). f.past) is })

pub begin_rests : (a b : Seen Folder) (result : Result (Unit {0}) KeepFault) → Begins a b result → Goes a.told b.told KeepsReads
begin_rests a b (Ok done) begins = rests_of_same a.told b.told (opened_same a.told b.told begins.begun)
begin_rests a b (Err fault) begins = rests_of_same a.told b.told (dropped_same a.told b.told begins.not_begun)

pub surveyed_fits : (kinds : List Bool) (a b : Option Folder) → Goes a b (Surveys kinds) → IfSome b (FitsFolder kinds)
surveyed_fits kinds None None surveyed = tt
surveyed_fits kinds None (Some t) surveyed = absurd surveyed
surveyed_fits kinds (Some s) None surveyed = absurd surveyed
surveyed_fits kinds (Some s) (Some t) surveyed = surveyed.fits
