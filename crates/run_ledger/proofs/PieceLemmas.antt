-- A run that is read piece by piece.
use Rattle.std.proofs.Common.{◌≡◌, ℕ, ◌+◌, ◌*◌, ◌<◌, ◌≤◌, Bool, List, [], ◌++◌, take, drop, length, Option, Some, None, IfSome, IsSome, IsSomeAnd, sym, ap, ◌∙◌, subst, arith}
use Rattle.std.proofs.Math.Seq.{take-add}
use Rattle.std.proofs.lemmas.List.{take_all, take-append-drop, length-take, length-drop}
use Rattle.edge_io.specs.Disk.{Folder}
use Rattle.edge_io.specs.Steps.{Goes, Stays}
use Rattle.run_shelf.specs.Holds.{FitsFolder}
use Rattle.run_shelf.specs.Repository.{Run, run_at}
use Rattle.run_shelf.proofs.ReadingLemmas.{same_state}
use Rattle.run_shelf.proofs.RunLemmas.{taken_before}
use Rattle.run_ledger.specs.declared.run_reader.RunReader.{RunReader}
use Rattle.run_ledger.specs.Costs.{bytes_asked, ReadsOnce}
use Rattle.run_ledger.specs.Reading.{HasReadBytes}
use Rattle.run_ledger.specs.Pieces.{HasFront, HasReadTo, HasReadWhole, TakesRunPiece, ReadsOn}

-- nothing was read of a run that there is
pub read_none : (state : Option Folder) (kinds : List Bool) (number place : ℕ) (run : RunReader) → place ≡ 0 → number < length kinds → HasReadBytes run [] → IfSome state (FitsFolder kinds) → IfSome state (HasReadTo number place run)
read_none None kinds number place run zero known fresh fits = tt
read_none (Some s) kinds number place run zero known fresh fits = there (run_at s.disk.published number) (taken_before s.disk.published kinds fits.kinds_are number known)
  where
    there : (o : Option Run) → IsSome o → IsSomeAnd o (HasFront place run)
    there None is = cc
    there (Some r) is = (omega (arith, zero), subst (λ (n : ℕ). HasReadBytes run (take n r.bytes)) (sym zero) fresh)

module _ (place room count : ℕ) (old new : RunReader) (r : Run) (front : HasFront place old r) (more : TakesRunPiece place room count old new r) where
  pub front_more : (next : ℕ) → next ≡ place + room → room ≤ count → HasFront next new r
  front_more next is full = (
    omega (arith, is, full, more.size, length-take room (drop place r.bytes), length-drop place r.bytes, front.0),
    subst (HasReadBytes new) (sym (take-add place room r.bytes) ∙ ap (λ (n : ℕ). take n r.bytes) (sym is)) (more.read (take place r.bytes) front.1),
  )

  pub front_whole : count < room → HasReadBytes new r.bytes
  front_whole less =
      let rest : take room (drop place r.bytes) ≡ drop place r.bytes = take_all room (drop place r.bytes) (omega (arith, less, more.size, length-take room (drop place r.bytes), length-drop place r.bytes)) in
      subst (HasReadBytes new) (ap (λ (l : List ℕ). take place r.bytes ++ l) rest ∙ take-append-drop place r.bytes) (more.read (take place r.bytes) front.1)

some_both : {A : Type 0} (o : Option A) (P Q R : A → Type 0) → IsSomeAnd o P → IsSomeAnd o Q → ((a : A) → P a → Q a → R a) → IsSomeAnd o R
some_both None P Q R p q each = p
some_both (Some a) P Q R p q each = each a p q

if_both : {A : Type 0} (o : Option A) (P Q R : A → Type 0) → IfSome o P → IfSome o Q → ((a : A) → P a → Q a → R a) → IfSome o R
if_both None P Q R p q each = tt
if_both (Some a) P Q R p q each = each a p q

module _ (first before : Option Folder) (number place room count : ℕ) (old new : RunReader)
    (read : IfSome first (HasReadTo number place old)) (same : Goes first before Stays) (more : IfSome before (ReadsOn number place room count old new)) where
  more_of : IfSome first (ReadsOn number place room count old new)
  more_of = subst (λ (o : Option Folder). IfSome o (ReadsOn number place room count old new)) (same_state first before same) more

  -- one piece more
  pub read_on : (next : ℕ) → next ≡ place + room → room ≤ count → IfSome first (HasReadTo number next new)
  read_on next is full =
      if_both first (HasReadTo number place old) (ReadsOn number place room count old new) (HasReadTo number next new) read more_of
      (λ s p q. some_both (run_at s.disk.published number) (HasFront place old) (TakesRunPiece place room count old new) (HasFront next new) p q (λ r front takes. front_more place room count old new r front takes next is full))

  -- the last piece
  pub read_last : count < room → IfSome first (HasReadWhole number new)
  read_last less =
      if_both first (HasReadTo number place old) (ReadsOn number place room count old new) (HasReadWhole number new) read more_of
      (λ s p q. some_both (run_at s.disk.published number) (HasFront place old) (TakesRunPiece place room count old new) (λ r. HasReadBytes new r.bytes) p q (λ r front takes. front_whole place room count old new r front takes less))

-- the calls so far, and one more
pub within_once : (state : Option Folder) (number pieces before now : ℕ) (run : RunReader) → now ≤ before + pieces + 1 → IfSome state (HasReadTo number (pieces * 65536) run) → IfSome state (ReadsOnce number before now)
within_once None number pieces before now run few read = tt
within_once (Some s) number pieces before now run few read = there (run_at s.disk.published number) read
  where
    there : (o : Option Run) → IsSomeAnd o (HasFront (pieces * 65536) run) → IfSome o (λ r. now * 65536 ≤ before * 65536 + bytes_asked r)
    there None is = tt
    there (Some r) is = omega (arith, few, is.0)
