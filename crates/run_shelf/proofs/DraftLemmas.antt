-- What is done with a draft, by the bytes that it has.
use Rattle.std.proofs.Common.{◌≡◌, ℕ, Bool, List, ◌++◌, Option, Some, None, IsSome, refl, sym, ap, ◌∙◌, subst, append_assoc}
use Rattle.std.specs.Option.{option_map}
use Rattle.edge_io.specs.Disk.{Disk, Draft, Folder}
use Rattle.edge_io.specs.Steps.{Goes, HasDraft, Opened, Grown, Synced, synced, grown}
use Rattle.edge_io.proofs.Going.{goes_then, goes_from}
use Rattle.run_shelf.specs.Drafts.{drafted, OfDraft, Writes, Drafts, whole_draft}
use Rattle.run_shelf.specs.Holds.{FitsFolder}
use Rattle.run_shelf.specs.Images.{KeepsRun, PassesRun}
use Rattle.run_shelf.specs.Repository.{run_of}

some_same : (a b : List ℕ) → Some a ≡ Some b → a ≡ b
some_same a b e = cc

bytes_of : (d : Option Draft) → IsSome d → (bytes : List ℕ) × (option_map (λ (x : Draft). x.bytes) d ≡ Some bytes)
bytes_of None some = cc
bytes_of (Some x) some = (x.bytes, refl)

pub has_bytes : (s : Folder) → IsSome s.draft → (bytes : List ℕ) × (drafted s ≡ Some bytes)
has_bytes s some = bytes_of s.draft some

-- a step of which it does not matter what else the draft is
module _ (step : List ℕ → Folder → Folder → Type 0) where
  -- a draft that there is, and the step with its bytes
  pub of_draft : (s t : Folder) → IsSome s.draft → ((bytes : List ℕ) → step bytes s t) → OfDraft step s t
  of_draft s t some does = let found = has_bytes s some in record { bytes = found.0; are = found.1; does = does found.0 }

  pub with_bytes : (s t : Folder) (bytes : List ℕ) → drafted s ≡ Some bytes → OfDraft step s t → step bytes s t
  with_bytes s t bytes are of = subst (λ (b : List ℕ). step b s t) (some_same _ _ (sym of.are ∙ are)) of.does

  -- the step sees nothing of the folder but its disk and its record
  module _ (beside : (bytes : List ℕ) (s t : Folder) (draft : Option Draft) → step bytes (record s { draft = draft }) t → step bytes s t) where
    pub after_writing : (bytes : List ℕ) (s m t : Folder) → Writes bytes s m → OfDraft step m t → step bytes s t
    after_writing bytes s m t is of =
        let does : step bytes m t = with_bytes m t bytes (ap drafted is) of in
        beside bytes s t (Some (record { bytes = bytes; synced = 0 })) (subst (λ (f : Folder). step bytes f t) is does)

    pub goes_after_writing : (bytes : List ℕ) (a b c : Option Folder) → Goes a b (Writes bytes) → Goes b c (OfDraft step) → Goes a c (step bytes)
    goes_after_writing bytes a b c first second = goes_then a b c (Writes bytes) (OfDraft step) (step bytes) first second (after_writing bytes)

grown_bytes : (d : Option Draft) (bytes piece : List ℕ) → option_map (λ (x : Draft). x.bytes) d ≡ Some bytes → option_map (λ (x : Draft). x.bytes) (option_map (grown piece) d) ≡ Some (bytes ++ piece)
grown_bytes None bytes piece are = cc
grown_bytes (Some x) bytes piece are = ap (λ (b : List ℕ). Some (b ++ piece)) (some_same _ _ are)

-- a draft grows behind its end
pub drafted_more : (s t : Folder) (bytes piece : List ℕ) → drafted s ≡ Some bytes → Grown piece s t → drafted t ≡ Some (bytes ++ piece)
drafted_more s t bytes piece are is = ap drafted is ∙ grown_bytes s.draft bytes piece are

grown_twice : (d : Option Draft) (a b : List ℕ) → option_map (grown b) (option_map (grown a) d) ≡ option_map (grown (a ++ b)) d
grown_twice None a b = refl
grown_twice (Some x) a b = ap (λ (bytes : List ℕ). Some (record { bytes = bytes; synced = x.synced })) (append_assoc x.bytes a b)

-- two pieces are one
pub grown_then : (s m t : Folder) (a b : List ℕ) → Grown a s m → Grown b m t → Grown (a ++ b) s t
grown_then s m t a b first second =
    second ∙ ap (λ (f : Folder). record f { draft = option_map (grown b) f.draft }) first
    ∙ ap (λ (d : Option Draft). record s { draft = d }) (grown_twice s.draft a b)

pub goes_grown_then : (x y z : Option Folder) (a b : List ℕ) → Goes x y (Grown a) → Goes y z (Grown b) → Goes x z (Grown (a ++ b))
goes_grown_then x y z a b first second = goes_then x y z (Grown a) (Grown b) (Grown (a ++ b)) first second (λ s m t p q. grown_then s m t a b p q)

-- a draft that was begun and has grown
pub writes_grown : (s m t : Folder) (bytes : List ℕ) → Opened s m → Grown bytes m t → Writes bytes s t
writes_grown s m t bytes opened more = more ∙ ap (λ (f : Folder). record f { draft = option_map (grown bytes) f.draft }) opened

pub goes_writes : (a b c : Option Folder) (bytes : List ℕ) → Goes a b Opened → Goes b c (Grown bytes) → Goes a c (Writes bytes)
goes_writes a b c bytes first second = goes_then a b c Opened (Grown bytes) (Writes bytes) first second (λ s m t p q. writes_grown s m t bytes p q)

grown_some : (d : Option Draft) (piece : List ℕ) → IsSome d → IsSome (option_map (grown piece) d)
grown_some None piece some = cc
grown_some (Some x) piece some = refl

-- a draft that has grown is there
pub draft_after : (s t : Folder) (piece : List ℕ) → IsSome s.draft → Grown piece s t → IsSome t.draft
draft_after s t piece some is = subst IsSome (sym (ap (λ (f : Folder). f.draft) is)) (grown_some s.draft piece some)

-- what fits the folder sees its disk alone
pub fits_beside : (kinds : List Bool) (s t : Folder) → t.disk ≡ s.disk → FitsFolder kinds s → FitsFolder kinds t
fits_beside kinds s t same fits =
    let holds : Disk → Type 0 = λ d. FitsFolder kinds (record s { disk = d }) in
    let at : holds t.disk = subst holds (sym same) (record { rest = fits.rest; repository = fits.repository; kinds_are = fits.kinds_are }) in
    record { rest = at.rest; repository = at.repository; kinds_are = at.kinds_are }

synced_whole : (d : Option Draft) (bytes : List ℕ) → option_map (λ (x : Draft). x.bytes) d ≡ Some bytes → option_map synced d ≡ Some (whole_draft bytes)
synced_whole None bytes are = cc
synced_whole (Some x) bytes are = ap (λ (b : List ℕ). Some (whole_draft b)) (some_same _ _ are)

-- a draft that was brought to the disk
pub drafts_synced : (s m : Folder) → IsSome s.draft → Synced s m → OfDraft Drafts s m
drafts_synced s m some is =
    let found = has_bytes s some in
    record { bytes = found.0; are = found.1; does = is ∙ ap (λ (d : Option Draft). record s { draft = d }) (synced_whole s.draft found.0 found.1) }

pub goes_drafts : (a b : Option Folder) → HasDraft a → Goes a b Synced → Goes a b (OfDraft Drafts)
goes_drafts a b has step = goes_from a b (λ s. IsSome s.draft) Synced (OfDraft Drafts) has step drafts_synced

-- what is kept after a run was begun and added to
module _ (number : ℕ) (partial : Bool) (bytes : List ℕ) (a b c : Option Folder) (written : Goes a b (Writes bytes)) where
  pub run_kept : Goes b c (OfDraft (λ given. KeepsRun number (run_of partial given))) → Goes a c (KeepsRun number (run_of partial bytes))
  run_kept kept = goes_after_writing (λ given. KeepsRun number (run_of partial given)) (λ given s t draft does. record { disk = does.disk; lasts = does.lasts }) bytes a b c written kept

  pub run_passes : Goes b c (OfDraft (λ given. PassesRun number (run_of partial given))) → Goes a c (PassesRun number (run_of partial bytes))
  run_passes passes = goes_after_writing (λ given. PassesRun number (run_of partial given)) (λ given s t draft does. record { later = does.later; grows = does.grows; each = does.each }) bytes a b c written passes
