-- Files of which some are copies: how one set of copies follows another.
use Rattle.std.proofs.Common.{◌≡◌, ◌⊎◌, inl, inr, ℕ, Option, Some, None, List, IfSome, IsSome, refl, sym, ◌∙◌, subst}
use Rattle.edge_io.specs.Disk.{Files, Disk, Folder, IsImage}
use Rattle.edge_io.proofs.Passing.{passes_then, passes_weaker}
use Rattle.run_shelf.specs.Images.{AtRest}
use Rattle.run_shelf.proofs.Joining.{rest_images}
use Rattle.old_copies.specs.Copying.{Either, Between, HasCopies, HoldsOnlyCopies, HoldsOther, PassesCopies, ReadsCopies, Copies}

pub between_self : (Of : List ℕ → Type 0) (told : Option Files) (files : Files) → Between Of told files files
between_self Of told files name = inl refl

pub between_wider : (A B : List ℕ → Type 0) (told : Option Files) (files image : Files) → ((name : List ℕ) → A name → B name) → Between A told files image → Between B told files image
between_wider A B told files image wider between name = elim (between name) [
  | inl same ↦ inl same
  | inr taken ↦ inr (wider name taken.0, taken.1)
]

-- whatever the other folder holds
pub between_untold : (Of : List ℕ → Type 0) (told : Option Files) (files image : Files) → Between Of told files image → Between Of None files image
between_untold Of told files image between name = elim (between name) [
  | inl same ↦ inl same
  | inr taken ↦ inr (taken.0, tt)
]

pub between_then : (Of : List ℕ → Type 0) (told : Option Files) (files now image : Files) → Between Of told files now → Between Of told now image → Between Of told files image
between_then Of told files now image first second name = elim (second name) [
  | inr taken ↦ inr taken
  | inl same ↦ elim (first name) [
    | inl was ↦ inl (same ∙ was)
    | inr taken ↦ inr (taken.0, subst (λ (file : Option (List ℕ)). IfSome told (λ old. file ≡ old name)) (sym same) taken.1)
  ]
]

-- a wider set of names
pub copies_wider : (A B : List ℕ → Type 0) (old : Files) (s t : Folder) → ((name : List ℕ) → A name → B name) → ((name : List ℕ) → B name → A name) → Copies A old s t → Copies B old s t
copies_wider A B old s t wider back copies = record {
  has = record {
    each = λ name named. copies.has.each name (back name named);
    between = between_wider A B (Some old) s.disk.published t.disk.published wider copies.has.between;
  };
  stood = λ name named. copies.stood name (back name named);
}

pub passes_wider : (A B : List ℕ → Type 0) (told : Option Files) → ((name : List ℕ) → A name → B name) → (s t : Folder) → PassesCopies A told s t → PassesCopies B told s t
passes_wider A B told wider s t passes = passes_weaker (λ image. IsImage s.disk image ⊎ Between A told s.disk.published image) (λ image. IsImage s.disk image ⊎ Between B told s.disk.published image) more s t passes
  where
    more : (image : Files) → IsImage s.disk image ⊎ Between A told s.disk.published image → IsImage s.disk image ⊎ Between B told s.disk.published image
    more image (inl was) = inl was
    more image (inr between) = inr (between_wider A B told s.disk.published image wider between)

pub other_wider : (A B : List ℕ → Type 0) (old files : Files) → ((name : List ℕ) → A name → B name) → HoldsOther A old files → HoldsOther B old files
other_wider A B old files wider holds = record { name = holds.name; named = wider holds.name holds.named; there = holds.there; other = holds.other }

-- ---- first these, then those

module _ (A B : List ℕ → Type 0) where
  left : (name : List ℕ) → A name → Either A B name
  left name named = inl named

  right : (name : List ℕ) → B name → Either A B name
  right name named = inr named

  pub both_between : (told : Option Files) (files now image : Files) → Between A told files now → Between B told now image → Between (Either A B) told files image
  both_between told files now image first second =
      between_then (Either A B) told files now image (between_wider A (Either A B) told files now left first) (between_wider B (Either A B) told now image right second)

  module _ (old files now : Files) (first : HasCopies A old files now) where
    copies_then : (image : Files) → HasCopies B old now image → HasCopies (Either A B) old files image
    copies_then image second = record { each = each_of; between = both_between (Some old) files now image first.between second.between }
      where
        each_of : (name : List ℕ) → Either A B name → image name ≡ old name
        each_of name (inr named) = second.each name named
        each_of name (inl named) = elim (second.between name) [
          | inl same ↦ same ∙ first.each name named
          | inr taken ↦ taken.1
        ]

    pub other_back : HoldsOther B old now → HoldsOther (Either A B) old files
    other_back holds = elim (first.between holds.name) [
      | inr taken ↦ absurd (holds.other taken.1)
      | inl same ↦ record { name = holds.name; named = inr holds.named; there = subst IsSome same holds.there; other = λ e. holds.other (same ∙ e) }
    ]

  -- what stands in the middle stood before, or was copied
  stood_then : (old files now : Files) → HasCopies A old files now → HoldsOnlyCopies A old files → HoldsOnlyCopies B old now → HoldsOnlyCopies (Either A B) old files
  stood_then old files now has before behind name (inl named) there = before name named there
  stood_then old files now has before behind name (inr named) there = elim (has.between name) [
    | inr taken ↦ before name taken.0 there
    | inl same ↦ sym same ∙ behind name named (subst IsSome (sym same) there)
  ]

  pub both_copied : (old : Files) (s m t : Folder) → Copies A old s m → Copies B old m t → Copies (Either A B) old s t
  both_copied old s m t first second = record {
    has = copies_then old s.disk.published m.disk.published first.has t.disk.published second.has;
    stood = stood_then old s.disk.published m.disk.published first.has first.stood second.stood;
  }

  module _ (told : Option Files) (s m : Folder) (rest : AtRest m) (reads : ReadsCopies A told s m) where
    from_middle : (image : Files) → IsImage m.disk image ⊎ Between B told m.disk.published image → IsImage s.disk image ⊎ Between (Either A B) told s.disk.published image
    from_middle image (inl was) =
        let is : image ≡ m.disk.published = rest_images m.disk.published image (subst (λ (d : Disk). IsImage d image) rest was) in
        inr (subst (λ (f : Files). Between (Either A B) told s.disk.published f) (sym is) (between_wider A (Either A B) told s.disk.published m.disk.published left reads))
    from_middle image (inr between) = inr (both_between told s.disk.published m.disk.published image reads between)

    pub passes_both : (t : Folder) → PassesCopies A told s m → PassesCopies B told m t → PassesCopies (Either A B) told s t
    passes_both t first second =
        passes_then (λ image. IsImage s.disk image ⊎ Between (Either A B) told s.disk.published image) s m t
        (passes_wider A (Either A B) told left s m first)
        (passes_weaker (λ image. IsImage m.disk image ⊎ Between B told m.disk.published image) (λ image. IsImage s.disk image ⊎ Between (Either A B) told s.disk.published image) from_middle m t second)
