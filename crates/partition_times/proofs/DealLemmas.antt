-- Groups that are given one by one, each to some share.
use Rattle.std.proofs.Common.{◌≡◌, ◌≢◌, ◌⊎◌, inl, inr, ℕ, suc, ◌+◌, ◌%◌, ◌<◌, ◌++◌, ◌==◌, ◌||◌, true, false, cond, List, [], ◌∷◌, map, length, get_or, refl, sym, ◌∙◌, ap, ap₂, subst, arith, true≢false}
use Rattle.std.specs.List.{AllByRecursion, IsDistinct, filter, list_any, sum_by}
use Rattle.std.specs.Str.{bytes_eq}
use Rattle.std.proofs.lemmas.Nat.{mod_below}
use Rattle.std.proofs.lemmas.Bool.{cases_lt}
use Rattle.std.proofs.lemmas.Bool.Decides.{nat_tests}
use Rattle.std.proofs.lemmas.Slice.Eq.{bytes_eq-Decides}
use Rattle.std.proofs.lemmas.List.Elements.{filter-append}
use Rattle.partition_times.specs.Kept.{StandsInOne}
use Rattle.std.proofs.lemmas.List.{append-nil, get_or-set_same, get_or-set_other}
use Rattle.std.proofs.lemmas.List.Sums.{sum_by-set, sum_by-cons}
use Rattle.partition_times.specs.Names.{members}
use Rattle.partition_times.specs.Shares.{Ids, Times, has_less, least_share, with_group, given_to_least, given_in_turn}
use Rattle.partition_times.proofs.ShareLemmas.{length-given}

module _ (times : Times) where
  pub least_below : (shares : List Ids) → 0 < length shares → least_share times shares < length shares
  least_below [] some = absurd (omega arith)
  least_below (share ∷ []) some = omega arith
  least_below (share ∷ other ∷ shares) some =
      elim (list_any (λ o. has_less times o share) (other ∷ shares)) as (λ b. cond b (suc (least_share times (other ∷ shares))) 0 < length (share ∷ other ∷ shares)) [
        | true ↦ omega (arith, least_below (other ∷ shares) (omega arith))
        | false ↦ omega arith
      ]

module _ (group : List ℕ → Ids) where
  -- the shares in the end come from those at first by giving the group of each name to some share
  abbrev pub Deals : List Ids → List (List ℕ) → List Ids → Type 0
  Deals shares [] end = shares ≡ end
  Deals shares (name ∷ names) end = (index : ℕ) × (index < length shares) × Deals (with_group shares index (group name)) names end

  pub deals_to_least : (times : Times) (names : List (List ℕ)) (shares : List Ids) → 0 < length shares → Deals shares names (given_to_least times shares (map group names))
  deals_to_least times [] shares some = refl
  deals_to_least times (name ∷ names) shares some =
      let index = least_share times shares in
      (index, least_below times shares some, deals_to_least times names (with_group shares index (group name)) (omega (arith, length-given shares index (group name))))

  pub deals_in_turn : (names : List (List ℕ)) (turn : ℕ) (shares : List Ids) → 0 < length shares → Deals shares names (given_in_turn shares turn (map group names))
  deals_in_turn [] turn shares some = refl
  deals_in_turn (name ∷ names) turn shares some =
      let index = turn % length shares in
      (index, mod_below turn (length shares) some, deals_in_turn names (turn + 1) (with_group shares index (group name)) (omega (arith, length-given shares index (group name))))

  pub deals_append : (names others : List (List ℕ)) (a b c : List Ids) → Deals a names b → Deals b others c → Deals a (names ++ others) c
  deals_append [] others a b c first then = subst (λ s. Deals s others c) (sym first) then
  deals_append (name ∷ names) others a b c first then = (first.0, first.1, deals_append names others (with_group a first.0 (group name)) b c first.2 then)

  pub deals_length : (names : List (List ℕ)) (shares end : List Ids) → Deals shares names end → length end ≡ length shares
  deals_length [] shares end deals = ap length (sym deals)
  deals_length (name ∷ names) shares end deals = deals_length names (with_group shares deals.0 (group name)) end deals.2 ∙ length-given shares deals.0 (group name)

  -- what adds up over ids adds up over the groups that are given
  pub deals_sum : (f : Ids → ℕ) → ((a b : Ids) → f (a ++ b) ≡ f a + f b) → (names : List (List ℕ)) (shares end : List Ids) → Deals shares names end → sum_by f end ≡ sum_by f shares + sum_by (λ name. f (group name)) names
  deals_sum f adds [] shares end deals = omega (arith, ap (sum_by f) deals)
  deals_sum f adds (name ∷ names) shares end deals =
      let index = deals.0 in
      omega (arith, deals_sum f adds names (with_group shares index (group name)) end deals.2, sum_by-set f shares index (get_or shares index [] ++ group name) [] deals.1, adds (get_or shares index []) (group name), sum_by-cons (λ n. f (group n)) name names)

nat_cases : (a b : ℕ) → (a ≡ b) ⊎ (a ≢ b)
nat_cases a b = elim (cases_lt a b) [
  | inl below ↦ inr (λ same. omega arith)
  | inr past ↦ elim (cases_lt b a) [
    | inl above ↦ inr (λ same. omega arith)
    | inr up ↦ inl (omega arith)
  ]
]

pub equal_itself : (a : ℕ) → (a == a) ≡ true
equal_itself a = grind (arith, nat_tests)

not_equal : (a b : ℕ) → a ≢ b → (a == b) ≡ false
not_equal a b other = grind (arith, nat_tests)

-- the ids of one group among those of another
bytes_same : (a b : List ℕ) → bytes_eq a b ≡ true → a ≡ b
bytes_same a b is = (bytes_eq-Decides a b).0 is

bytes_itself : (a : List ℕ) → bytes_eq a a ≡ true
bytes_itself a = (bytes_eq-Decides a a).1 refl

module _ (name_of : List ℕ → List ℕ) where
  pub members_again : (name : List ℕ) (ids : Ids) → members name_of (members name_of ids name) name ≡ members name_of ids name
  members_again name [] = refl
  members_again name (id ∷ ids) = elim (bytes_eq name (name_of id)) as (λ b. bytes_eq name (name_of id) ≡ b → filter (λ i. bytes_eq name (name_of i)) (cond b (id ∷ members name_of ids name) (members name_of ids name)) ≡ cond b (id ∷ members name_of ids name) (members name_of ids name)) [
    | true ↦ λ is. ap (λ b. cond b (id ∷ members name_of (members name_of ids name) name) (members name_of (members name_of ids name) name)) is ∙ ap (λ rest. id ∷ rest) (members_again name ids)
    | false ↦ λ is. members_again name ids
  ] refl

  members_other : (name other : List ℕ) → bytes_eq name other ≡ false → (ids : Ids) → members name_of (members name_of ids other) name ≡ []
  members_other name other apart [] = refl
  members_other name other apart (id ∷ ids) = elim (bytes_eq other (name_of id)) as (λ b. bytes_eq other (name_of id) ≡ b → filter (λ i. bytes_eq name (name_of i)) (cond b (id ∷ members name_of ids other) (members name_of ids other)) ≡ []) [
    | true ↦ λ is. ap (λ b. cond b (id ∷ members name_of (members name_of ids other) name) (members name_of (members name_of ids other) name)) (ap (bytes_eq name) (sym (bytes_same other (name_of id) is)) ∙ apart) ∙ members_other name other apart ids
    | false ↦ λ is. members_other name other apart ids
  ] refl

  pub no_members : (name : List ℕ) (ids : Ids) → list_any (λ id. bytes_eq name (name_of id)) ids ≡ false → members name_of ids name ≡ []
  no_members name [] none = refl
  no_members name (id ∷ ids) none =
      elim (bytes_eq name (name_of id)) as (λ b. (b || list_any (λ i. bytes_eq name (name_of i)) ids) ≡ false → cond b (id ∷ members name_of ids name) (members name_of ids name) ≡ []) [
        | true ↦ λ none. absurd (true≢false none)
        | false ↦ λ none. no_members name ids none
      ] none

  module _ (ids : Ids) (name : List ℕ) where
    -- the ids of the group in the share with this index
    abbrev there : List Ids → ℕ → Ids
    there shares k = members name_of (get_or shares k []) name

    same_there : (shares : List Ids) (index k : ℕ) (group : Ids) → index < length shares → members name_of group name ≡ [] → there (with_group shares index group) k ≡ there shares k
    same_there shares index k group below none = elim (nat_cases k index) [
      | inl same ↦ ap (λ n. members name_of (get_or (with_group shares index group) n []) name) same
          ∙ ap (λ share. members name_of share name) (get_or-set_same shares index (get_or shares index [] ++ group) [] below)
          ∙ filter-append (λ id. bytes_eq name (name_of id)) (get_or shares index []) group ∙ ap (λ rest. there shares index ++ rest) none ∙ append-nil (there shares index)
          ∙ ap (there shares) (sym same)
      | inr other ↦ ap (λ share. members name_of share name) (get_or-set_other shares index k (get_or shares index [] ++ group) [] other)
    ]

    -- other groups leave it as it is
    pub deals_elsewhere : (names : List (List ℕ)) (shares end : List Ids) → Deals (members name_of ids) shares names end → AllByRecursion (λ other. bytes_eq name other ≡ false) names → (k : ℕ) → there end k ≡ there shares k
    deals_elsewhere [] shares end deals apart k = ap (λ s. there s k) (sym deals)
    deals_elsewhere (other ∷ names) shares end deals apart k =
        deals_elsewhere names (with_group shares deals.0 (members name_of ids other)) end deals.2 apart.1 k ∙ same_there shares deals.0 k (members name_of ids other) deals.1 (members_other name other apart.0 ids)

    -- the group comes to one share
    pub deals_here : (names : List (List ℕ)) (shares end : List Ids) → Deals (members name_of ids) shares names end → IsDistinct bytes_eq names → list_any (bytes_eq name) names ≡ true → ((k : ℕ) → there shares k ≡ []) → StandsInOne name_of ids end name
    unfolding IsDistinct
    deals_here [] shares end deals distinct some none = absurd (true≢false (sym some))
    deals_here (other ∷ names) shares end deals distinct some none =
        elim (bytes_eq name other) as (λ b. bytes_eq name other ≡ b → (b || list_any (bytes_eq name) names) ≡ true → StandsInOne name_of ids end name) [
          | true ↦ λ is some.
              let same : name ≡ other = bytes_same name other is in (
                deals.0,
                subst (λ n. deals.0 < n) (sym (deals_length (members name_of ids) names (with_group shares deals.0 (members name_of ids other)) end deals.2 ∙ length-given shares deals.0 (members name_of ids other))) deals.1,
                λ k. deals_elsewhere names (with_group shares deals.0 (members name_of ids other)) end deals.2 (subst (λ n. AllByRecursion (λ o. bytes_eq n o ≡ false) names) (sym same) distinct.0) k
                    ∙ elim (nat_cases k deals.0) [
                      | inl at ↦ ap (there (with_group shares deals.0 (members name_of ids other))) at
                          ∙ ap (λ share. members name_of share name) (get_or-set_same shares deals.0 (get_or shares deals.0 [] ++ members name_of ids other) [] deals.1)
                          ∙ filter-append (λ id. bytes_eq name (name_of id)) (get_or shares deals.0 []) (members name_of ids other)
                          ∙ ap₂ ◌++◌ (none deals.0) (ap (λ n. members name_of (members name_of ids n) name) (sym same) ∙ members_again name ids)
                          ∙ sym (ap (λ b. cond b (members name_of ids name) []) (ap (λ n. n == deals.0) at ∙ equal_itself deals.0))
                      | inr away ↦ ap (λ share. members name_of share name) (get_or-set_other shares deals.0 k (get_or shares deals.0 [] ++ members name_of ids other) [] away) ∙ none k
                          ∙ sym (ap (λ b. cond b (members name_of ids name) []) (not_equal k deals.0 away))
                    ],
              )
          | false ↦ λ is some. deals_here names (with_group shares deals.0 (members name_of ids other)) end deals.2 distinct.1 some (λ k. same_there shares deals.0 k (members name_of ids other) deals.1 (members_other name other is ids) ∙ none k)
        ] refl some
