-- The text of notes as lines of version 1, note by note.
use Rattle.std.proofs.Common.{◌≡◌, ℕ, List, [], ◌∷◌, ◌++◌, sym, ap, ◌∙◌, append_assoc, append-nil}
use Rattle.stream_reader.specs.declared.note.Note.{Note}
use Rattle.v1_bridge.specs.Writing.{added_text, text_so_far, text_at_end, v1_text}
use Rattle.v1_bridge.proofs.WriteLemmas.{so_far_push}
use Rattle.filter_cli.specs.Script.{given_behind, given_by}
use Rattle.filter_cli.specs.V1Parts.{v1_plan}

-- what notes give comes behind what was written before
behind_text : (before notes : List Note) → text_so_far before ++ given_behind v1_plan before notes ≡ text_so_far (before ++ notes)
behind_text before [] = append-nil (text_so_far before) ∙ ap text_so_far (sym (append-nil before))
behind_text before (n ∷ notes) =
    let rest = given_behind v1_plan (before ++ n ∷ []) notes in
    sym (append_assoc (text_so_far before) (added_text before n) rest)
    ∙ ap (λ (l : List ℕ). l ++ rest) (sym (so_far_push before n))
    ∙ behind_text (before ++ n ∷ []) notes ∙ ap text_so_far (append_assoc before (n ∷ []) notes)

pub v1_whole : (notes : List Note) → given_by v1_plan notes ++ v1_plan.at_end notes ≡ v1_text notes
v1_whole notes = ap (λ (l : List ℕ). l ++ text_at_end notes) (behind_text [] notes)
