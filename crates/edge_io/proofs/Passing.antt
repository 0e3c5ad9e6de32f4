-- How the moments of one run follow those of another.
use Rattle.std.proofs.Common.{◌≡◌, List, [], ◌∷◌, ◌++◌, Option, sym, ap, ◌∙◌, append_assoc, append-nil}
use Rattle.std.proofs.lemmas.List.Elements.{All-append, All-nil, All-cons, All-weaker}
use Rattle.edge_io.specs.Disk.{Files, Disk, Draft, Folder}
use Rattle.edge_io.specs.Steps.{moved}
use Rattle.edge_io.specs.Moments.{LeavesOnly, Passes}

module _ (P : Files → Type 0) where
  pub passes_same : (s t : Folder) → t.disk ≡ s.disk → t.past ≡ s.past → Passes P s t
  passes_same s t disk past = record {
    later = [];
    grows = (λ i. past i ++ disk i ∷ []) ∙ sym (append-nil (s.past ++ s.disk ∷ []));
    each = All-nil (LeavesOnly P);
  }

  pub passes_one : (s t : Folder) (disk : Disk) (draft : Option Draft) → t ≡ moved s disk draft → LeavesOnly P disk → Passes P s t
  passes_one s t disk draft is leaves = record {
    later = disk ∷ [];
    grows = ap (λ (f : Folder). f.past ++ f.disk ∷ []) is;
    each = All-cons (LeavesOnly P) disk [] leaves (All-nil (LeavesOnly P));
  }

  pub passes_then : (s m t : Folder) → Passes P s m → Passes P m t → Passes P s t
  passes_then s m t first second = record {
    later = first.later ++ second.later;
    grows = second.grows ∙ ap (λ (l : List Disk). l ++ second.later) first.grows ∙ append_assoc (s.past ++ s.disk ∷ []) first.later second.later;
    each = All-append (LeavesOnly P) first.later second.later first.each second.each;
  }

module _ (P Q : Files → Type 0) (weaker : (image : Files) → P image → Q image) where
  pub passes_weaker : (s t : Folder) → Passes P s t → Passes Q s t
  passes_weaker s t passes = record {
    later = passes.later;
    grows = passes.grows;
    each = All-weaker (LeavesOnly P) (LeavesOnly Q) (λ disk leaves image left. weaker image (leaves image left)) passes.later passes.each;
  }
