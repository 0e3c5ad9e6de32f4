-- The test that is held beside the table of the others.
use Rattle.std.proofs.Common.{◌≡◌, Bool, true, false, cond, List, [], ◌∷◌, ◌++◌, Option, Some, None, refl, sym, ◌∙◌, ap}
use Rattle.std.specs.Prelude.{ℕ, IsSomeAnd}
use Rattle.std.specs.FinMap as fin
use Rattle.std.specs.FinMap.{same_map, get-insert}
use Rattle.std.specs.Ordering.{eq_by_cmp}
use Rattle.std.specs.Cmp.{eq_by_cmp_equiv}
use Rattle.std.specs.Option.{option_map}
use Rattle.packet_codec.specs.declared.event.Event.{Event}
use Rattle.outcome_fold.specs.declared.row.Ended.{Ended}
use Rattle.outcome_fold.specs.declared.test_key.TestKey.{TestKey}
use Rattle.outcome_fold.specs.declared.part.Started.{Started}
use Rattle.outcome_fold.specs.declared.part.EndedPart.{EndedPart}
use Rattle.outcome_fold.specs.declared.fold.Held.{Held}
use Rattle.outcome_fold.specs.Order.{test_cmp}
use Rattle.outcome_fold.specs.Parts.{test_of, ended_by, instant}
use Rattle.outcome_fold.specs.EndedParts.{completed_part}
use Rattle.outcome_fold.specs.Started.{after, open_table}
use Rattle.outcome_fold.specs.Folded.{extended, with_held}
use Rattle.outcome_fold.proofs.OrderLemmas.{tests_total, exact_tests}
use Rattle.outcome_fold.proofs.OpenLemmas.{remove_insert}
use Rattle.outcome_fold.proofs.AddLemmas.{StartedByTest, goes_on, is_closed}
use Rattle.outcome_fold.proofs.EndedLemmas.{is_part}

-- where none is held, the others are all
pub alone : (held : Option Held) (others : StartedByTest) → held ≡ None → with_held held others ≡ others
alone held others none = ap (λ (h : Option Held). with_held h others) none

-- what the part of the held test says
pub held_part : (held : Option Held) (others : StartedByTest) (h : Held) → held ≡ Some h → fin.get (with_held held others) h.key ≡ Some h.part
held_part held others h is =
    ap (λ (o : Option Held). fin.get (with_held o others) h.key) is ∙ get-insert tests_total others h.key h.part h.key
    ∙ ap (λ b. cond b (Some h.part) (fin.get others h.key)) ((eq_by_cmp_equiv tests_total).refl h.key)

-- the same of another test, which is the held one or not
pub held_here : (held : Option Held) (others : StartedByTest) (h : Held) (t : TestKey) → held ≡ Some h → eq_by_cmp test_cmp t h.key ≡ true → fin.get (with_held held others) t ≡ Some h.part
held_here held others h t is tie =
    ap (λ (o : Option Held). fin.get (with_held o others) t) is ∙ get-insert tests_total others h.key h.part t
    ∙ ap (λ b. cond b (Some h.part) (fin.get others t)) tie

pub held_elsewhere : (held : Option Held) (others : StartedByTest) (h : Held) (t : TestKey) → held ≡ Some h → eq_by_cmp test_cmp t h.key ≡ false → fin.get (with_held held others) t ≡ fin.get others t
held_elsewhere held others h t is other =
    ap (λ (o : Option Held). fin.get (with_held o others) t) is ∙ get-insert tests_total others h.key h.part t
    ∙ ap (λ b. cond b (Some h.part) (fin.get others t)) other

again_at : (b : Bool) (p s : Started) (o : Option Started) → cond b (Some s) o ≡ cond b (Some s) (cond b (Some p) o)
again_at true p s o = refl
again_at false p s o = refl

insert_again : (m : StartedByTest) (t : TestKey) (p s : Started) → fin.insert m t s ≡ fin.insert (fin.insert m t p) t s
insert_again m t p s = same_map tests_total exact_tests _ _ (λ q.
    get-insert tests_total m t s q ∙ again_at (eq_by_cmp test_cmp q t) p s (fin.get m q)
    ∙ ap (cond (eq_by_cmp test_cmp q t) (Some s)) (sym (get-insert tests_total m t p q))
    ∙ sym (get-insert tests_total (fin.insert m t p) t s q))

-- the held test, with one event more
abbrev pub held_with : Held → Event → Held
held_with h e = record { key = h.key; part = after h.part e }

module _ (seen : List Event) (e : Event) (held : Option Held) (others : StartedByTest) (h : Held) (has : with_held held others ≡ open_table seen) (is : held ≡ Some h) (test : test_of e ≡ Some h.key) where
  part_more : after h.part e ≡ extended (fin.get (with_held held others) h.key) e
  part_more = ap (λ (o : Option Started). extended o e) (sym (held_part held others h is))

  pub held_goes_on : (now : Option Held) (rest : StartedByTest) → None ≡ ended_by e.status → now ≡ Some (held_with h e) → rest ≡ others → with_held now rest ≡ open_table (seen ++ e ∷ [])
  held_goes_on now rest none more same =
      goes_on seen e (with_held held others) (with_held now rest) h.key (after h.part e) has (sym test) none part_more
      ((λ i. with_held (more i) (same i)) ∙ insert_again others h.key h.part (after h.part e) ∙ ap (λ (o : Option Held). fin.insert (with_held o others) h.key (after h.part e)) (sym is))

  pub held_ends : (how : Ended) (now : Option Held) (rest next : StartedByTest) → Some how ≡ ended_by e.status → now ≡ Some (held_with h e) → rest ≡ others → next ≡ fin.remove (with_held now rest) h.key → next ≡ open_table (seen ++ e ∷ [])
  held_ends how now rest next some more same gone =
      is_closed seen e (with_held held others) next h.key how has (sym test) some
      (gone ∙ (λ i. fin.remove (with_held (more i) (same i)) h.key) ∙ remove_insert others h.key (after h.part e)
      ∙ sym (remove_insert others h.key h.part) ∙ ap (λ (o : Option Held). fin.remove (with_held o others) h.key) (sym is))

  pub held_gives : (how : Ended) (now : Held) (end : Option ℕ) → Some how ≡ ended_by e.status → Some now ≡ Some (held_with h e) → end ≡ option_map instant e.stamp → ◌≡◌ {A = Option EndedPart} (Some (record { key = now.key; ended = how; started = now.part; end = end })) (completed_part seen e)
  held_gives how now end some more at =
      let same : now ≡ held_with h e = cc in
      (λ i. Some (record { key = (same i).key; ended = how; started = (same i).part; end = end }))
      ∙ is_part seen e (with_held held others) h.key how (after h.part e) end has (sym test) some part_more at

-- a test that is held is found, and let go of
pub never_gone : (now : Option Held) (h : Held) (e : Event) → None ≡ now → now ≡ Some (held_with h e) → ⊥
never_gone now h e is more = absurd cc

pub held_gone : (held now : Option Held) (others rest : StartedByTest) (found h : Held) → held ≡ Some found → held ≡ Some h → now ≡ None → rest ≡ fin.remove others found.key → with_held now rest ≡ fin.remove (with_held held others) h.key
held_gone held now others rest found h at is none gone =
    let same : found ≡ h = cc in
    alone now rest none ∙ gone ∙ ap (λ (h : Held). fin.remove others h.key) same ∙ sym (remove_insert others h.key h.part) ∙ ap (λ (o : Option Held). fin.remove (with_held o others) h.key) (sym is)

pub the_held : (held : Option Held) (e : Event) → IsSomeAnd held (λ h. test_of e ≡ Some h.key) → (h : Held) × (held ≡ Some h) × (test_of e ≡ Some h.key)
the_held None e none = absurd none
the_held (Some h) e is = (h, refl, is)
