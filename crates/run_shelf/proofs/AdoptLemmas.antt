-- The steps of taking over a folder.
use Rattle.std.proofs.Common.{◌≡◌, ◌⊎◌, inl, inr, ℕ, ◌<◌, ltb, Option, Some, None, IsSome, IfSome, IfErr, Result, Ok, Err, Bool, true, false, List, refl, sym, ap, ◌∙◌, subst, arith, get_or}
use Rattle.std.specs.Option.{option_map}
use Rattle.std.proofs.lemmas.Bool.{cases_lt, lt-ltb, le-ltb}
use Rattle.edge_io.specs.Disk.{Files, put, Disk, Folder, IsImage, at_rest}
use Rattle.edge_io.specs.Steps.{Goes}
use Rattle.edge_io.proofs.Going.{goes_then, goes_weaker}
use Rattle.edge_io.proofs.Passing.{passes_then, passes_weaker}
use Rattle.run_shelf.specs.declared.faults.ShelfCall.{ShelfCall}
use Rattle.run_shelf.specs.declared.faults.ShelfCall.TheVariants.{Names, Length, ReadAt, StartDraft, Append, SyncDraft, Publish, SyncFolder}
use Rattle.run_shelf.specs.Adoption.{IsConverted, IsReadyToAdopt, IsAdopted, IsBeingAdopted, PassesAdoption, Adopts, AdoptFails}
use Rattle.run_shelf.specs.Bases.{Base, base_name, base_in, HoldsBase}
use Rattle.run_shelf.specs.Clocks.{calls_later, TicksBy, TicksToKeep, TicksAsKept, FailsBehindBase, TicksAsAdopted}
use Rattle.run_shelf.specs.Images.{AtRest, KeepsFile, PassesFile}
use Rattle.run_shelf.specs.Outcomes.{KeepFails}
use Rattle.run_shelf.specs.Repository.{run_of, run_of_files, run_at, run_name, full_name, partial_name, most_runs, format_name, based_format_bytes, HasBasedFormat, base_of, IsRepository}
use Rattle.run_shelf.proofs.BaseLemmas.{base_second, form_second}
use Rattle.run_shelf.proofs.Joining.{rest_images, goes_with, some_after}
use Rattle.run_shelf.proofs.NameLemmas.{format_differs, base_differs}
use Rattle.run_shelf.proofs.RunLemmas.{put_other, put_here}

pub base_no_format : base_name ≡ format_name → ⊥
base_no_format same = omega (arith, ap (λ (l : List ℕ). get_or l 0 0) same, first_of_base, first_of_format)
  where
    first_of_base : get_or base_name 0 0 ≡ 98
    first_of_base = refl

    first_of_format : get_or format_name 0 0 ≡ 102
    first_of_format = refl

some_mapped : (o : Option (List ℕ)) → IsSome (option_map (run_of true) o) → IsSome o
some_mapped None some = cc
some_mapped (Some bytes) some = refl

mapped_some : (o : Option (List ℕ)) → IsSome o → IsSome (option_map (run_of true) o)
mapped_some None some = cc
mapped_some (Some bytes) some = refl

none_not_some : (o : Option (List ℕ)) → o ≡ None → IsSome o → ⊥
none_not_some None none some = cc
none_not_some (Some bytes) none some = cc

module _ (files : Files) (bytes : List ℕ) (holds : HoldsBase bytes) (converted : IsConverted (base_in bytes).count files) where
  abbrev adopted : Files
  adopted = put (put files base_name bytes) format_name based_format_bytes

  abbrev count : ℕ
  count = (base_in bytes).count

  file_stays : (k : ℕ) (partial : Bool) → k < most_runs → adopted (run_name k partial) ≡ files (run_name k partial)
  file_stays k partial few =
      put_other (put files base_name bytes) format_name based_format_bytes (run_name k partial) (λ e. format_differs k partial (omega (arith, few)) (sym e))
      ∙ put_other files base_name bytes (run_name k partial) (λ e. base_differs k partial (omega (arith, few)) (sym e))

  has_second : HasBasedFormat adopted
  has_second = put_here (put files base_name bytes) format_name based_format_bytes format_name refl

  base_there : adopted base_name ≡ Some bytes
  base_there = put_other (put files base_name bytes) format_name based_format_bytes base_name base_no_format ∙ put_here files base_name bytes base_name refl

  base_same : base_of adopted ≡ base_in bytes
  base_same = base_second adopted bytes has_second base_there

  small : (k : ℕ) → k < count → k < most_runs
  small k less = omega (arith, less, holds.few)

  -- each run is the converted one
  run_is : (k : ℕ) → k < most_runs → run_at adopted k ≡ option_map (run_of true) (files (partial_name k))
  run_is k few = elim (cases_lt k count) [
    | inl counted ↦
        ap (λ b. run_of_files b (adopted (full_name k)) (adopted (partial_name k))) (ap (λ (b : Base). ltb k b.count) base_same ∙ lt-ltb k count counted)
        ∙ ap (option_map (run_of true)) (file_stays k true few)
    | inr behind ↦
        ap (λ b. run_of_files b (adopted (full_name k)) (adopted (partial_name k))) (ap (λ (b : Base). ltb k b.count) base_same ∙ le-ltb k count behind)
        ∙ ap (λ found. run_of_files false found (adopted (partial_name k))) (file_stays k false few ∙ converted.behind k false behind few)
        ∙ ap (option_map (run_of true)) (file_stays k true few)
  ]

  no_gap : (k other : ℕ) → k < other → other < most_runs → IsSome (run_at adopted other) → IsSome (run_at adopted k)
  no_gap k other less few some =
      let there : IsSome (files (partial_name other)) = some_mapped (files (partial_name other)) (subst IsSome (run_is other few) some) in
      elim (cases_lt other count) [
        | inl counted ↦ subst IsSome (sym (run_is k (omega (arith, less, few)))) (mapped_some (files (partial_name k)) (converted.runs k (omega (arith, less, counted))))
        | inr behind ↦ absurd (none_not_some (files (partial_name other)) (converted.behind other true behind few) there)
      ]

  is_repository : IsRepository adopted
  is_repository = record {
    format = inr has_second;
    base = record {
      form = form_second adopted bytes base_there holds;
      old = λ k less.
          let before : k < count = subst (λ (b : Base). k < b.count) base_same less in
          subst IsSome (sym (file_stays k true (small k before))) (converted.runs k before);
    };
    no_gap = no_gap;
  }

  pub is_adopted : (image : Files) → image ≡ adopted → IsAdopted bytes files image
  is_adopted image is = record {
    is = is;
    repository = subst IsRepository (sym is) is_repository;
    base = ap base_of is ∙ base_same;
    runs = λ k few. ap (λ (f : Files). run_at f k) is ∙ run_is k few;
  }

-- a base, and then the format
module _ (bytes : List ℕ) (holds : HoldsBase bytes) (s m : Folder) (ready : IsReadyToAdopt (base_in bytes).count s) (kept : KeepsFile base_name bytes s m) where
  published : m.disk.published ≡ put s.disk.published base_name bytes
  published = ap (λ (d : Disk). d.published) kept

  rests : AtRest m
  rests = kept ∙ ap at_rest (sym published)

  next : (image : Files) → image ≡ put m.disk.published format_name based_format_bytes → IsAdopted bytes s.disk.published image
  next image is = is_adopted s.disk.published bytes holds ready.converted image (is ∙ ap (λ (f : Files). put f format_name based_format_bytes) published)

  second : (image : Files) → IsImage m.disk image ⊎ (image ≡ put m.disk.published format_name based_format_bytes) → IsImage s.disk image ⊎ IsBeingAdopted bytes s.disk.published image
  second image (inl left) = inr (inl (rest_images (put s.disk.published base_name bytes) image (subst (λ (d : Disk). IsImage d image) kept left)))
  second image (inr is) = inr (inr (next image is))

  adopts : (t : Folder) → KeepsFile format_name based_format_bytes m t → Adopts bytes s t
  adopts t kept_too =
      let disk : t.disk ≡ at_rest (put (put s.disk.published base_name bytes) format_name based_format_bytes) = kept_too ∙ ap (λ (f : Files). at_rest (put f format_name based_format_bytes)) published in
      record {
        disk = disk;
        lasts = λ image left. is_adopted s.disk.published bytes holds ready.converted image (rest_images (put (put s.disk.published base_name bytes) format_name based_format_bytes) image (subst (λ (d : Disk). IsImage d image) disk left));
      }

  reads_base : (t : Folder) → t.disk ≡ m.disk → t.disk.published ≡ put s.disk.published base_name bytes
  reads_base t same = ap (λ (d : Disk). d.published) same ∙ published

  fails_then : (call : ShelfCall) (t : Folder) → KeepFails format_name based_format_bytes call m t → AdoptFails bytes call s t
  fails_then Names t fails = absurd fails
  fails_then Length t fails = absurd fails
  fails_then ReadAt t fails = absurd fails
  fails_then StartDraft t fails = inr (reads_base t fails)
  fails_then Append t fails = inr (reads_base t fails)
  fails_then SyncDraft t fails = inr (reads_base t fails)
  fails_then Publish t (inl same) = inr (inl (reads_base t same))
  fails_then Publish t (inr reads) = inr (inr (next t.disk.published reads))
  fails_then SyncFolder t fails = inr (next t.disk.published fails)

same_published : (s t : Folder) → t.disk ≡ s.disk → t.disk.published ≡ s.disk.published
same_published s t same = ap (λ (d : Disk). d.published) same

fails_first : (bytes : List ℕ) (call : ShelfCall) (s t : Folder) → KeepFails base_name bytes call s t → AdoptFails bytes call s t
fails_first bytes Names s t fails = absurd fails
fails_first bytes Length s t fails = absurd fails
fails_first bytes ReadAt s t fails = absurd fails
fails_first bytes StartDraft s t fails = inl (same_published s t fails)
fails_first bytes Append s t fails = inl (same_published s t fails)
fails_first bytes SyncDraft s t fails = inl (same_published s t fails)
fails_first bytes Publish s t (inl same) = inl (same_published s t same)
fails_first bytes Publish s t (inr reads) = inr (inl reads)
fails_first bytes SyncFolder s t fails = inl fails

first_passes : (bytes : List ℕ) (s t : Folder) → PassesFile base_name bytes s t → PassesAdoption bytes s t
first_passes bytes s t passes = passes_weaker (λ image. IsImage s.disk image ⊎ (image ≡ put s.disk.published base_name bytes)) (λ image. IsImage s.disk image ⊎ IsBeingAdopted bytes s.disk.published image) by s t passes
  where
    by : (image : Files) → IsImage s.disk image ⊎ (image ≡ put s.disk.published base_name bytes) → IsImage s.disk image ⊎ IsBeingAdopted bytes s.disk.published image
    by image (inl left) = inl left
    by image (inr is) = inr (inl is)

-- where the folder is told or not
module _ (bytes : List ℕ) (a b : Option Folder) where
  pub goes_fails_first : (call : ShelfCall) → Goes a b (KeepFails base_name bytes call) → Goes a b (AdoptFails bytes call)
  goes_fails_first call fails = goes_weaker a b (KeepFails base_name bytes call) (AdoptFails bytes call) fails (fails_first bytes call)

  pub goes_first_passes : Goes a b (PassesFile base_name bytes) → Goes a b (PassesAdoption bytes)
  goes_first_passes passes = goes_weaker a b (PassesFile base_name bytes) (PassesAdoption bytes) passes (first_passes bytes)

  pub rests_then : Goes a b (KeepsFile base_name bytes) → IfSome b AtRest
  rests_then kept = some_after a b (KeepsFile base_name bytes) AtRest kept (λ s t is. is ∙ ap at_rest (sym (ap (λ (d : Disk). d.published) is)))

  module _ (c : Option Folder) (holds : HoldsBase bytes) (ready : IfSome a (IsReadyToAdopt (base_in bytes).count)) (kept : Goes a b (KeepsFile base_name bytes)) where
    both : Goes a b (λ s m. IsReadyToAdopt (base_in bytes).count s × KeepsFile base_name bytes s m)
    both = goes_with a b (IsReadyToAdopt (base_in bytes).count) (KeepsFile base_name bytes) ready kept

    pub goes_adopts : Goes b c (KeepsFile format_name based_format_bytes) → Goes a c (Adopts bytes)
    goes_adopts then_kept =
        goes_then a b c (λ s m. IsReadyToAdopt (base_in bytes).count s × KeepsFile base_name bytes s m) (KeepsFile format_name based_format_bytes) (Adopts bytes) both then_kept
        (λ s m t first last. adopts bytes holds s m first.0 first.1 t last)

    pub goes_fails_then : (call : ShelfCall) → Goes b c (KeepFails format_name based_format_bytes call) → Goes a c (AdoptFails bytes call)
    goes_fails_then call fails =
        goes_then a b c (λ s m. IsReadyToAdopt (base_in bytes).count s × KeepsFile base_name bytes s m) (KeepFails format_name based_format_bytes call) (AdoptFails bytes call) both fails
        (λ s m t first last. fails_then bytes holds s m first.0 first.1 call t last)

    pub ticks_then : {T : Type 0} (result : Result T ShelfCall) (before between now : ℕ) → TicksBy 5 before between → TicksAsKept result between now
        → IfErr result (λ call. Goes b c (KeepFails format_name based_format_bytes call)) → TicksAsAdopted bytes result a c before now
    ticks_then (Ok done) before between now first last fails = last ∙ ap (calls_later 5) first
    ticks_then (Err call) before between now first last fails = inr (
      subst (λ (n : ℕ). TicksToKeep call n now) first last,
      goes_then a b c (KeepsFile base_name bytes) (KeepFails format_name based_format_bytes call) (FailsBehindBase bytes call) kept fails (λ s m t p q. record { between = m; base = p; format = q }),
    )

    pub goes_passes_then : Goes a b (PassesFile base_name bytes) → Goes b c (PassesFile format_name based_format_bytes) → Goes a c (PassesAdoption bytes)
    goes_passes_then passes last =
        let First : Folder → Folder → Type 0 = λ s m. (IsReadyToAdopt (base_in bytes).count s × KeepsFile base_name bytes s m) × PassesFile base_name bytes s m in
        goes_then a b c First (PassesFile format_name based_format_bytes) (PassesAdoption bytes) (along a b both passes) last
        (λ s m t first then_passes.
        passes_then (λ image. IsImage s.disk image ⊎ IsBeingAdopted bytes s.disk.published image) s m t (first_passes bytes s m first.1)
        (passes_weaker (λ image. IsImage m.disk image ⊎ (image ≡ put m.disk.published format_name based_format_bytes)) (λ image. IsImage s.disk image ⊎ IsBeingAdopted bytes s.disk.published image)
        (second bytes holds s m first.0.0 first.0.1) m t then_passes))
      where
        along : (a b : Option Folder) → Goes a b (λ s m. IsReadyToAdopt (base_in bytes).count s × KeepsFile base_name bytes s m) → Goes a b (PassesFile base_name bytes)
            → Goes a b (λ s m. (IsReadyToAdopt (base_in bytes).count s × KeepsFile base_name bytes s m) × PassesFile base_name bytes s m)
        along None None p q = tt
        along None (Some t) p q = absurd p
        along (Some s) None p q = absurd p
        along (Some s) (Some t) p q = (p, q)
