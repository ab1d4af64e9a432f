-- The steps by which lists are gathered: box by box, alternative by alternative, view by view.
use Rattle.std.proofs.Common.{◌≡◌, ℕ, zero, suc, ◌+◌, ◌-◌, ◌≤◌, ◌<◌, List, [], ◌∷◌, ◌++◌, length, take, true, refl, sym, ◌∙◌, ap, subst, ◌⊎◌, inl, inr, slice_index_or, arith, append-nil}
use Rattle.std.proofs.lemmas.List.{length-take-le}
use Rattle.akl_terms.specs.declared.name.Var.{Var}
use Rattle.akl_terms.specs.declared.term.Node.{Node}
use Rattle.akl_terms.specs.declared.term.Term.{Term}
use Rattle.akl_terms.specs.Equal.{IsConsistent}
use Rattle.akl_model.specs.Config.{Found}
use Rattle.local_store.specs.Stored.{Stored}
use Rattle.entail_test.specs.declared.noise.Quietness.{Quietness}
use Rattle.entail_test.specs.Asked.{KeepsApartAt, AreTouchedAt}
use Rattle.local_store.specs.Chained.{equations_of}
use Rattle.class_members.specs.Members.{AreMembers}
use Rattle.box_tree.specs.declared.entries.HeldOp.{HeldOp}
use Rattle.box_tree.specs.declared.view.Alternative.{Alternative}
use Rattle.box_tree.specs.Views.{ViewValue, IsViewOf}
use Rattle.guard_plan.specs.declared.guards.Noise.{Noise}
use Rattle.guard_plan.specs.Guards.{IsQuietInside}
use Rattle.guard_plan.specs.Noisy.{AnswersInside, IsConsistentInside, IsNoiseInside, IsOne, HasNoise, tested}
use Rattle.guard_plan.proofs.Chains.{take_push}
use Rattle.guard_plan.proofs.OneOf.{still_one, also_one, one_or_last}
use Rattle.guard_plan.proofs.Sites.{found}
use Rattle.idle_plan.specs.Told.{ListsTold}
use Rattle.idle_plan.specs.Waits.{AddsTold, AreToldAround, AreToldBy, AreMembersOfAll}
use Rattle.idle_plan.proofs.Answered.{clash_told, quiet_told, noisy_told}
use Rattle.idle_plan.proofs.Gathering.{gathered_none, gathered_more, gathered_past}
use Rattle.idle_plan.proofs.Listed.{keeps_apart_at}
use Rattle.idle_plan.proofs.Paths.{IsDeep, box_deep, good, stores_of, stores_long}
use Rattle.idle_plan.proofs.Wholes.{whole_stands, before_consistent}

take_less : (j k : ℕ) (ss : List Stored) → j ≤ k → take j (take k ss) ≡ take j ss
take_less zero k ss l = refl
take_less (suc j) zero ss l = absurd (omega arith)
take_less (suc j) (suc k) [] l = refl
take_less (suc j) (suc k) (s ∷ ss) l = ap (λ (r : List Stored). s ∷ r) (take_less j k ss (omega arith))

lt_or : (d k : ℕ) → d < k + 1 → (d < k) ⊎ (d ≡ k)
lt_or zero zero l = inr refl
lt_or zero (suc k) l = inl (omega arith)
lt_or (suc d) zero l = absurd (omega arith)
lt_or (suc d) (suc k) l = elim (lt_or d k (omega arith)) [ inl h ↦ inl (omega arith) | inr e ↦ inr (ap suc e) ]

lt_or_not : (d k : ℕ) → (d < k) ⊎ (k ≤ d)
lt_or_not d zero = inr (omega arith)
lt_or_not zero (suc k) = inl (omega arith)
lt_or_not (suc d) (suc k) = elim (lt_or_not d k) [ inl h ↦ inl (omega arith) | inr h ↦ inr (omega arith) ]

module _ (nodes : List Node) (ss : List Stored) where
  fewer_consistent : (j k : ℕ) → j ≤ k → IsConsistent (equations_of nodes (take k ss)) → IsConsistent (equations_of nodes (take j ss))
  fewer_consistent j k l c = subst (λ (A : List Stored). IsConsistent (equations_of nodes A)) (take_less j k ss l) (before_consistent nodes (take k ss) j c)

  abbrev Before : ℕ → ℕ → Type 0
  Before count d = (1 ≤ d) × (d < count)

  -- box by box

  pub around_clash : (count : ℕ) → (IsConsistent (equations_of nodes (take 1 ss)) → ⊥) → AreToldAround nodes ss count []
  around_clash count n = gathered_none ℕ (λ (d : ℕ). IsConsistent (equations_of nodes (take (d + 1) ss))) (λ (d : ℕ). ListsTold nodes (take (d + 1) ss)) (Before count)
      (λ d h a. n (fewer_consistent 1 (d + 1) (omega arith) a))

  pub around_stop : (depth count : ℕ) (list : List Var) → depth < count → AreToldAround nodes ss depth list → (IsConsistent (equations_of nodes (take (depth + 1) ss)) → ⊥) → AreToldAround nodes ss count list
  around_stop depth count list l g n = gathered_past ℕ (λ (d : ℕ). IsConsistent (equations_of nodes (take (d + 1) ss))) (λ (d : ℕ). ListsTold nodes (take (d + 1) ss)) (Before depth) (Before count) list g
      (λ d h. (h.0, let y : d < depth = h.1 in omega arith))
      (λ d h. elim (lt_or_not d depth) [ inl x ↦ inl (h.0, x) | inr x ↦ inr (λ a. n (fewer_consistent (depth + 1) (d + 1) (omega (arith, x)) a)) ])

  pub around_more : (depth : ℕ) (list own : List Var) → 1 ≤ depth → AreToldAround nodes ss depth list → ListsTold nodes (take (depth + 1) ss) own → AreToldAround nodes ss (depth + 1) (list ++ own)
  around_more depth list own l g t = gathered_more ℕ (λ (d : ℕ). IsConsistent (equations_of nodes (take (d + 1) ss))) (λ (d : ℕ). ListsTold nodes (take (d + 1) ss)) (Before depth) (Before (depth + 1)) list own depth g
      (λ d h. (h.0, let y : d < depth = h.1 in omega arith)) (l, omega arith) (λ d h. elim (lt_or d depth h.1) [ inl x ↦ inl (h.0, x) | inr e ↦ inr e ]) t

  -- alternative by alternative

  abbrev SolvedIn : List Alternative → Alternative → Type 0
  SolvedIn seen a = IsOne Alternative a seen × (a.solved ≡ true)

  module _ (seen : List Alternative) (k : ℕ) (d : Alternative) (l : k < length seen) (list : List Var) (g : AreToldBy nodes ss (take k seen) list) where
    stays : (a : Alternative) → SolvedIn (take k seen) a → SolvedIn (take (k + 1) seen) a
    stays a h = (still_one Alternative seen k d l a h.0, h.1)

    by_more : (own : List Var) → (slice_index_or seen k d).solved ≡ true → ListsTold nodes (ss ++ (slice_index_or seen k d).store ∷ []) own → AreToldBy nodes ss (take (k + 1) seen) (list ++ own)
    by_more own s t = gathered_more Alternative (λ (a : Alternative). IsConsistent (equations_of nodes (ss ++ a.store ∷ []))) (λ (a : Alternative). ListsTold nodes (ss ++ a.store ∷ [])) (SolvedIn (take k seen)) (SolvedIn (take (k + 1) seen)) list own
        (slice_index_or seen k d) g stays (also_one Alternative seen k d l, s) (λ a h. elim (one_or_last Alternative seen k d l a h.0) [ inl x ↦ inl (x, h.1) | inr e ↦ inr e ]) t

    by_past : ((slice_index_or seen k d).solved ≡ true → IsConsistent (equations_of nodes (ss ++ (slice_index_or seen k d).store ∷ [])) → ⊥) → AreToldBy nodes ss (take (k + 1) seen) list
    by_past n = gathered_past Alternative (λ (a : Alternative). IsConsistent (equations_of nodes (ss ++ a.store ∷ []))) (λ (a : Alternative). ListsTold nodes (ss ++ a.store ∷ [])) (SolvedIn (take k seen)) (SolvedIn (take (k + 1) seen)) list g stays
        (λ a h. elim (one_or_last Alternative seen k d l a h.0) [
          | inl x ↦ inl (x, h.1)
          | inr e ↦ inr (λ c. n (subst (λ (b : Alternative). b.solved ≡ true) e h.1) (subst (λ (b : Alternative). IsConsistent (equations_of nodes (ss ++ b.store ∷ []))) e c))
        ])

    pub by_added : (new : List Var) → AddsTold nodes ss (slice_index_or seen k d) list new → AreToldBy nodes ss (take (k + 1) seen) new
    by_added new (inl (own, s, t, e)) = subst (AreToldBy nodes ss (take (k + 1) seen)) (sym e) (by_more own s t)
    by_added new (inr (n, e)) = subst (AreToldBy nodes ss (take (k + 1) seen)) (sym e) (by_past n)

  -- by what the tests of guards found

  noisy_over : (a : Alternative) (n : Noise) (own : List Var) → IsNoiseInside nodes (ss ++ a.store ∷ []) n → AreMembers nodes ss n.on.items own → ListsTold nodes (ss ++ a.store ∷ []) own
  noisy_over a n own x m = noisy_told nodes (ss ++ a.store ∷ []) n.on.items own x.0 x.1 (subst (λ (A : List Stored). AreMembers nodes A n.on.items own) (sym (take_push ss a.store)) m)

  pub by_noise : (seen : List Alternative) (noise : List Noise) (list : List Var) → HasNoise nodes ss seen noise → AreMembersOfAll nodes ss noise list → AreToldBy nodes ss seen list
  by_noise seen noise list h g = record {
    each = λ y m. let w : _ = g.each y m in let u : _ = h.each w.0 w.2 in (u.0, w.1, (u.1, u.2), noisy_over u.0 w.0 w.1 u.3 w.3, w.4, w.5);
    every = λ a i c. elim (h.every a i.0 i.1 ((whole_stands nodes (ss ++ a.store ∷ []) (length (ss ++ a.store ∷ []) - 1)).back c)) [
      | inl q ↦ ([], quiet_told nodes (ss ++ a.store ∷ []) q, λ y m. absurd m)
      | inr w ↦ let u : _ = g.every w.0 w.1 tt in (u.0, noisy_over a w.0 u.0 w.2 u.1, u.2)
    ];
  }

  pub none_gathered : AreMembersOfAll nodes ss [] []
  none_gathered = gathered_none Noise (λ (n : Noise). Unit {0}) (λ (n : Noise). AreMembers nodes ss n.on.items) (λ (n : Noise). IsOne Noise n []) (λ n h a. h)

  pub one_gathered : (noise : List Noise) (k : ℕ) (d : Noise) → k < length noise → (list own : List Var) → AreMembersOfAll nodes ss (take k noise) list → AreMembers nodes ss (slice_index_or noise k d).on.items own
      → AreMembersOfAll nodes ss (take (k + 1) noise) (list ++ own)
  one_gathered noise k d l list own g m = gathered_more Noise (λ (n : Noise). Unit {0}) (λ (n : Noise). AreMembers nodes ss n.on.items) (λ (n : Noise). IsOne Noise n (take k noise)) (λ (n : Noise). IsOne Noise n (take (k + 1) noise)) list own
      (slice_index_or noise k d) g (still_one Noise noise k d l) (also_one Noise noise k d l) (one_or_last Noise noise k d l) m

  -- one alternative's part by its test
  module _ (a : Alternative) (old : List Var) where
    pub quiet_added : a.solved ≡ true → IsQuietInside nodes (ss ++ a.store ∷ []) → AddsTold nodes ss a old old
    quiet_added s q = inl ([], s, quiet_told nodes (ss ++ a.store ∷ []) q, sym (append-nil old))

    pub clash_added : (left right : Term) → AnswersInside nodes (ss ++ a.store ∷ []) (Quietness.Inconsistent left right) → AddsTold nodes ss a old old
    clash_added left right k = inr (λ s. clash_told nodes (ss ++ a.store ∷ []) left right k, refl)

    pub noisy_added : a.solved ≡ true → (on own : List Var) → IsConsistentInside nodes (ss ++ a.store ∷ []) → AreTouchedAt nodes (ss ++ a.store ∷ []) (length (ss ++ a.store ∷ []) - 1) on → AreMembers nodes ss on own
        → AddsTold nodes ss a old (old ++ own)
    noisy_added s on own c t m = inl (own, s, noisy_told nodes (ss ++ a.store ∷ []) on own c t (subst (λ (A : List Stored). AreMembers nodes A on own) (sym (take_push ss a.store)) m), refl)

  -- all alternatives

  pub all_tested : (seen : List Alternative) → tested HeldOp.Commit seen ≡ seen
  all_tested [] = refl
  all_tested (a ∷ []) = refl
  all_tested (a ∷ b ∷ rest) = refl

  pub few_tested : (seen : List Alternative) → length seen < 2 → tested HeldOp.Condition seen ≡ seen
  few_tested [] l = refl
  few_tested (a ∷ []) l = refl
  few_tested (a ∷ b ∷ rest) l = absurd (omega (arith, l))

  -- of several by `->` all but the last are tested
  front_tested : (seen : List Alternative) → 1 < length seen → tested HeldOp.Condition seen ≡ take (length seen - 1) seen
  front_tested [] l = absurd (omega arith)
  front_tested (a ∷ []) l = absurd (omega arith)
  front_tested (a ∷ b ∷ rest) l = refl

  take_whole : (seen : List Alternative) → take (length seen) seen ≡ seen
  take_whole [] = refl
  take_whole (a ∷ rest) = ap (λ (l : List Alternative). a ∷ l) (take_whole rest)

  pub last_added : (seen : List Alternative) (d : Alternative) → 1 < length seen → (list new : List Var) → AreToldBy nodes ss (tested HeldOp.Condition seen) list → AddsTold nodes ss (slice_index_or seen (length seen - 1) d) list new
      → AreToldBy nodes ss seen new
  last_added seen d many list new g h =
      let e : length seen - 1 + 1 ≡ length seen = omega arith in
      subst (λ (l : List Alternative). AreToldBy nodes ss l new) (ap (λ (k : ℕ). take k seen) e ∙ take_whole seen)
      (by_added seen (length seen - 1) d (omega arith) list (subst (λ (l : List Alternative). AreToldBy nodes ss l list) (front_tested seen many) g) new h)

-- the boxes around a place keep their variables apart
pub keeps_around : (v : ViewValue) → IsViewOf v → (depth : ℕ) → depth < length v.stores → IsConsistent (equations_of v.table.program.templates.nodes (take depth v.stores))
    → KeepsApartAt v.table.program.templates.nodes (take (depth + 1) v.stores) (length (take (depth + 1) v.stores) - 1)
keeps_around v i depth l c =
    let w : (m : Found) × IsDeep i.table.config i.site depth m = box_deep i.table.config (good v i) i.site (found v i) depth (subst (λ (k : ℕ). depth < k) (stores_long v i) l) in
    let long : length (take (depth + 1) v.stores) ≡ depth + 1 = length-take-le (depth + 1) v.stores (omega arith) in
    let short : length (take (depth + 1) v.stores) - 1 ≡ depth = omega (arith, long) in
    let same : take (length (take (depth + 1) v.stores) - 1) (take (depth + 1) v.stores) ≡ take depth v.stores = ap (λ (k : ℕ). take k (take (depth + 1) v.stores)) short ∙ take_less depth (depth + 1) v.stores (omega arith) in
    keeps_apart_at v.table.program.templates.nodes (take (depth + 1) v.stores) w.0 (stores_of v i depth w.0 w.1)
    (subst (λ (A : List Stored). IsConsistent (equations_of v.table.program.templates.nodes A)) (sym same) c)
