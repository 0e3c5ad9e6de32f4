-- Words that tell a folder to upgrade from, and what is promised of them.
use Rattle.std.proofs.Common.{◌≡◌, inl, inr, ℕ, Bool, true, false, cond, ◌&&◌, Option, Some, None, List, [], ◌∷◌, drop, Result, Ok, Err, OnOk, refl, ap, subst}
use Rattle.std.specs.Io.KnownBytes.{Appends}
use Rattle.std.specs.Str.{bytes_eq}
use Rattle.std.proofs.lemmas.Slice.Eq.{bytes_eq-Decides}
use Rattle.edge_io.specs.Bytes.{AppendsPrefix}
use Rattle.edge_io.specs.Causes.{HasCause}
use Rattle.edge_io.specs.Seen.{Seen}
use Rattle.old_copies.specs.declared.faults.OldCopyFault.{OldCopyFault}
use Rattle.command_steps.specs.Outside.{Outside}
use Rattle.testr_words.specs.Words.{face_word}
use Rattle.testr_words.specs.declared.command.Face.{Face}
use Rattle.testr_words.proofs.WordsLemmas.{same_face}
use Rattle.testr_cli.specs.From.{upgrade_word, from_word, path_of, behind_from, from_in, copy_text, TellsCopyFault, PromisesFrom}

chosen : {A : Type 0} (b : Bool) (x : Option A) (y : A) → cond b x None ≡ Some y → b ≡ true
chosen true x y is = refl
chosen false x y is = cc

both_first : (a b : Bool) → (a && b) ≡ true → a ≡ true
both_first true b is = refl
both_first false b is = cc

-- the first of such words is the command's
pub first_word : (words : List (List ℕ)) (from : List ℕ) → from_in words ≡ Some from → words ≡ upgrade_word ∷ drop 1 words
first_word [] from is = cc
first_word (verb ∷ []) from is = cc
first_word (verb ∷ word ∷ []) from is =
    ap (λ (l : List ℕ). l ∷ word ∷ []) ((bytes_eq-Decides verb upgrade_word).0 (chosen (bytes_eq verb upgrade_word) (path_of (behind_from word)) from is))
first_word (verb ∷ option ∷ word ∷ []) from is =
    ap (λ (l : List ℕ). l ∷ option ∷ word ∷ []) ((bytes_eq-Decides verb upgrade_word).0 (both_first (bytes_eq verb upgrade_word) (bytes_eq option from_word) (chosen (bytes_eq verb upgrade_word && bytes_eq option from_word) (path_of (Some word)) from is)))
first_word (verb ∷ option ∷ word ∷ more ∷ words) from is = cc

-- the words behind the same name
same_rest : (face given : Face) (rest behind : List (List ℕ)) → face_word face ∷ rest ≡ face_word given ∷ behind → rest ≡ behind
same_rest face given rest behind is = cc

pub promised_behind : (folder : List ℕ) (face given : Face) (rest behind : List (List ℕ)) → face_word face ∷ rest ≡ face_word given ∷ behind → (before after : Outside) (answer : ℕ) → PromisesFrom (from_in rest) folder face rest before after answer → PromisesFrom (from_in behind) folder given behind before after answer
promised_behind folder face given rest behind is before after answer promised =
    subst (λ (f : Face). PromisesFrom (from_in behind) folder f behind before after answer) (same_face face given rest behind is)
    (subst (λ (l : List (List ℕ)). PromisesFrom (from_in l) folder face l before after answer) (same_rest face given rest behind is) promised)

-- by what was read of the words
pub promised_found : (folder : List ℕ) (face : Face) (words : List (List ℕ)) (found : Option (List ℕ)) → found ≡ from_in words → (before after : Outside) (answer : ℕ) → PromisesFrom found folder face words before after answer → PromisesFrom (from_in words) folder face words before after answer
promised_found folder face words found tells before after answer promised = subst (λ (o : Option (List ℕ)). PromisesFrom o folder face words before after answer) tells promised

pub told_fault : {T E : Type 0} (from : List ℕ) (fault : OldCopyFault) (before after : Seen (List ℕ)) (result : Result T E) → AppendsPrefix before.told after.told (copy_text from fault) → OnOk result (Appends before.told after.told (copy_text from fault)) → HasCause before.faults after.faults result → TellsCopyFault from fault before after
told_fault from fault before after (Ok value) prefix whole cause = (prefix, inl whole)
told_fault from fault before after (Err failed) prefix whole cause = (prefix, inr cause.failed)
