-- What a lent value ends as: the result holds its `&mut`, or that was handed back and is let go. Assumes `Logic`.
--     one_of      values of one type are one value
--     Rests       the clause: at an error, what is so of the lent value then
--     Ties        where its `&mut` is: in the result, under that name, or handed back at a value of which that is so
--     rests       from what the `Option` owns that may hold the `&mut`, the clause
use mathlib.Core.Path.{◌≡◌, refl, sym, subst}
use mathlib.Core.List.{List, [], ◌∷◌}
use mathlib.Core.Option as maybe
use seplogic.Ra.Ura.{Ura}
use lib.Dec.{T}
use mir.Syntax.{Lifetime, Ty}
use mir.Val.{Val, has_ty, WT}
use base.Logic.{ent, emp, wand}
use base.Fml.{Lft, GName, Fml, fsep, feq, fex, fauth, fres}
use types.Logic.{Logic, sem}
use types.Kit.{‵, ◌$◌, ◌∵◌, !, qed, by, keep, drop, move, use0, use1, rewrite, fsplit, fsplit3, fjoin, fpick, fpack, feq_l, feq_i, each, assume, done}
use denote.RattleType.{RattleType}
use denote.Laws.{Typed}
use denote.Ref.{MutBor, MutRef}
use denote.Follow.{follows, follows_by, such_by}
use Rattle.std.specs.Prelude.{⊤, MatchOption, MatchResult, IfErr, Result, Option}
use Rattle.std.specs.Borrow.{RestsIfErr}
use Rattle.std.specs.declared.result.Result.TheVariants.{Ok, Err}
use Rattle.std.specs.declared.option.Option.TheVariants.{None, Some}
use Rattle.std.specs.contracts.option.Option as OP

pub one_of : (τ : Ty) (vs : List Val) → Typed (τ ∷ []) vs → (v : Val) × (vs ≡ v ∷ []) × (T (has_ty τ v) × WT v)
one_of τ [] t = absurd t
one_of τ (v ∷ []) t = (v, refl, t.0)
one_of τ (v ∷ u ∷ vs) t = absurd t.1

module _ (R : RattleType) {X E : Type 0} (name : X → GName) (lent : MutBor R.Denot) (Why : E → R.Denot → Type 0) where
  abbrev pub Rests : Result X E → Fml
  Rests r = RestsIfErr R lent name r (λ n. IfErr r (λ fault. Why fault n))

  abbrev pub Ties : Result X E → Option (MutBor R.Denot) → Type 0
  Ties r back = MatchResult r (λ x. name x ≡ lent.ghost_name) (λ fault. MatchOption back ⊥ (λ b. (b.ghost_name ≡ lent.ghost_name) × Why fault b.now))

module _ {M : Type 1} {𝓤 : Ura M} (𝓛 : Logic 𝓤) (R : RattleType) where
  open 𝓛 use {A}

  -- what ends as itself
  pub ends_as_itself : (γ : GName) → ent 𝓤 (emp 𝓤) (sem 𝓛 (follows R R γ γ (λ w. w)))
  ends_as_itself γ =
      let From : R.Denot → R.Denot → Fml = λ z w. fsep (feq R.Denot z w) (fauth γ (R.coded.code w)) in
      let said = qed 𝓛 [] ∵ each ! (λ (w : R.Denot). wand 𝓤 (A.res γ (R.coded.code w)) (A.res γ (R.coded.code w))) (λ w. assume ! (‵ (fres γ (R.coded.code w))) $ done !) in
      let back = qed 𝓛 [] ∵ each ! (λ (z : R.Denot). wand 𝓤 (A.auth γ (R.coded.code z)) (sem 𝓛 (fex R.Denot (From z)))) (λ z. assume ! (‵ (fauth γ (R.coded.code z))) $
      feq_i ! R.Denot z z refl $ fjoin ! $ fpack ! R.Denot (From z) z $ done !) in
      record { apply = λ a p. (said.apply a p, back.apply a p) }

  -- what was handed back ends as it is now
  handed : (ℓ : Lifetime) (κ : Lft) (back : MutBor R.Denot) (vs : List Val) → ent 𝓤 (sem 𝓛 ((MutRef ℓ κ R).own_val back vs)) (A.res back.ghost_name (R.coded.code back.now))
  handed ℓ κ back vs = qed 𝓛 (‵ ((MutRef ℓ κ R).own_val back vs) ∷ []) ∵ fsplit3 ! $ move ! (1 ∷ []) $ use1 𝓛 (‵ (fres back.ghost_name (R.coded.code back.now))) (𝓛.names.obs-res back.ghost_name (R.coded.code back.now)) $ keep ! (0 ∷ []) $ done !

  some_handed : (ℓ : Lifetime) (κ : Lft) (back : MutBor R.Denot) (vs : List Val) → ent 𝓤 (sem 𝓛 ((OP.the_row (MutRef ℓ κ R)).own_val (Some back) vs)) (A.res back.ghost_name (R.coded.code back.now))
  some_handed ℓ κ back vs = qed 𝓛 (‵ ((OP.the_row (MutRef ℓ κ R)).own_val (Some back) vs) ∷ []) ∵ fpick ! (λ us. fsplit ! $ feq_l ! (λ e. fpick ! (λ vss. fsplit ! $ feq_l ! (λ f. fsplit ! $ move ! (1 ∷ []) $ drop ! $ by ! (handed ℓ κ back vss.0)))))

  module _ {X E : Type 0} (name : X → GName) (lent : MutBor R.Denot) (ℓ : Lifetime) (κ : Lft) (Why : E → R.Denot → Type 0) where
    pub rests : (r : Result X E) (back : Option (MutBor R.Denot)) (vs : List Val) → Ties R name lent Why r back → ent 𝓤 (sem 𝓛 ((OP.the_row (MutRef ℓ κ R)).own_val back vs)) (sem 𝓛 (Rests R name lent Why r))
    unfolding such_by follows_by
    rests (Ok x) back vs tie =
        qed 𝓛 (‵ ((OP.the_row (MutRef ℓ κ R)).own_val back vs) ∷ []) ∵ drop ! $
        use0 𝓛 (‵ (follows R R lent.ghost_name (name x) (λ w. w))) (subst (λ (g : GName). ent 𝓤 (emp 𝓤) (sem 𝓛 (follows R R lent.ghost_name g (λ w. w)))) (sym tie) (ends_as_itself lent.ghost_name)) $
        fpack ! ((e : (R.Denot → R.Denot) × R.Denot) × ((w : R.Denot) → e.0 w ≡ w) × ⊤) (λ e. follows_by R.Denot R.Denot R.coded.code R.coded.code lent.ghost_name (maybe.some (name x)) e.0.0 e.0.1) (((λ w. w), lent.now), (λ w. refl), tt) $ done !
    rests (Err fault) None vs tie = absurd tie
    rests (Err fault) (Some b) vs tie =
        qed 𝓛 (‵ ((OP.the_row (MutRef ℓ κ R)).own_val (Some b) vs) ∷ []) ∵ use1 𝓛 (‵ (fres b.ghost_name (R.coded.code b.now))) (some_handed ℓ κ b vs) $
        rewrite ! 0 (λ (g : GName). ‵ (fres g (R.coded.code b.now))) tie.0 refl $
        fpack ! ((e : (R.Denot → R.Denot) × R.Denot) × (R.Denot → ⊤) × Why fault e.1) (λ e. follows_by R.Denot R.Denot R.coded.code R.coded.code lent.ghost_name maybe.none e.0.0 e.0.1) (((λ w. w), b.now), (λ w. tt), tie.1) $ done !
