-- The variables that were counted twice or more and occur inside of a goal are those that occur inside and also outside.
use Rattle.std.proofs.Common.{◌≡◌, ℕ, zero, suc, ◌+◌, ◌<◌, ◌≤◌, Bool, true, false, ◌&&◌, cond, List, [], ◌∷◌, ◌++◌, map, refl, sym, ap, ◌∙◌, arith}
use Rattle.std.specs.Prelude.{nat_lt}
use Rattle.std.specs.List.{filter, concat}
use Rattle.std.proofs.lemmas.Bool.Decides.{nat_tests}
use Rattle.akl_syntax.specs.Goals.{Goal, Goals, call, choice, lifted, collect, lifted_collect, no_goals, more_goals}
use Rattle.akl_syntax.specs.Clauses.{Clause}
use Rattle.akl_syntax.specs.Variables.{goal_variables, goals_variables, parts_variables}
use Rattle.term_syntax.specs.Variables.{tree_variables}
use Rattle.akl_lift.specs.Lifting.{Origin, times, shared, collect_variables, choices_in, without, without_all, made, made_all, part_clauses, collect_clause, collect_shares, made_inside}
use Rattle.akl_lift.specs.Places.{place, placed_tree}
use Rattle.akl_lift.specs.Noting.{distinct, outer, outer_all, outer_parts, outer_collected}
use Rattle.akl_lift.specs.Scopes.{count_in, IsTally, chosen_of}
use Rattle.akl_lift.specs.declared.scope.Scope.{Scope}
use Rattle.akl_lift.proofs.FirstSeen.{times-append, times-has, times-distinct, has-seen_from}
use Rattle.akl_lift.proofs.Outer.{seen-outer_parts, seen-outer_collected, has-outer, has-outer_all}

-- ---- two ways to give the arguments of what is lifted in goals
abbrev AgreeAt : (List ℕ → List ℕ) → (List ℕ → List ℕ) → Goal → Type 0
AgreeAt f h (call s ts) = Unit {0}
AgreeAt f h (choice ps) = f (parts_variables ps) ≡ h (parts_variables ps)
AgreeAt f h (collect t gs r) = f (collect_variables t gs) ≡ h (collect_variables t gs)
AgreeAt f h (lifted_collect n ns r) = Unit {0}
AgreeAt f h (lifted n ns) = Unit {0}

abbrev pub Agree : (List ℕ → List ℕ) → (List ℕ → List ℕ) → Goals → Type 0
Agree f h no_goals = Unit {0}
Agree f h (more_goals g gs) = AgreeAt f h g × Agree f h gs

same_without : (order : List ℕ) (f h : List ℕ → List ℕ) (next : ℕ) (g : Goal) → AgreeAt f h g → without order f next g ≡ without order h next g
same_without order f h next (call s ts) a = refl
same_without order f h next (choice ps) a = ap (λ (args : List ℕ). lifted next (map (place order) args)) a
same_without order f h next (lifted n ns) a = refl
same_without order f h next (lifted_collect n ns r) a = refl
same_without order f h next (collect t gs r) a = ap (λ (args : List ℕ). lifted_collect next (map (place order) args) (placed_tree order r)) a

pub same_without_all : (order : List ℕ) (f h : List ℕ → List ℕ) (next : ℕ) (gs : Goals) → Agree f h gs → without_all order f next gs ≡ without_all order h next gs
same_without_all order f h next no_goals a = refl
same_without_all order f h next (more_goals g gs) a =
    ap (λ (x : Goal). x ∷ without_all order f (next + choices_in g) gs) (same_without order f h next g a.0)
    ∙ ap (λ (xs : List Goal). without order h next g ∷ xs) (same_without_all order f h (next + choices_in g) gs a.1)

same_made : (w : Origin) (f h : List ℕ → List ℕ) (next : ℕ) (g : Goal) → AgreeAt f h g → made w f next g ≡ made w h next g
same_made w f h next (call s ts) a = refl
same_made w f h next (choice ps) a = ap (λ (args : List ℕ). part_clauses w next args (next + 1) ps ∷ made_inside w args (next + 1) ps) a
same_made w f h next (lifted n ns) a = refl
same_made w f h next (lifted_collect n ns r) a = refl
same_made w f h next (collect t gs r) a = ap (λ (args : List ℕ). (collect_clause w next args (next + 1) t gs ∷ []) ∷ made_all w (collect_shares args t gs) (next + 1) gs) a

pub same_made_all : (w : Origin) (f h : List ℕ → List ℕ) (next : ℕ) (gs : Goals) → Agree f h gs → made_all w f next gs ≡ made_all w h next gs
same_made_all w f h next no_goals a = refl
same_made_all w f h next (more_goals g gs) a =
    ap (λ (x : List (List Clause)). x ++ made_all w f (next + choices_in g) gs) (same_made w f h next g a.0)
    ∙ ap (λ (xs : List (List Clause)). made w h next g ++ xs) (same_made_all w f h (next + choices_in g) gs a.1)

-- ---- counting
same_filter : (p q : ℕ → Bool) → ((v : ℕ) → p v ≡ q v) → (xs : List ℕ) → filter p xs ≡ filter q xs
same_filter p q e [] = refl
same_filter p q e (x ∷ xs) =
    ap (λ (b : Bool). cond b (x ∷ filter p xs) (filter p xs)) (e x) ∙ ap (λ (ys : List ℕ). cond (q x) (x ∷ ys) ys) (same_filter p q e xs)

positive : (n : ℕ) → 0 < n → nat_lt 0 n ≡ true
positive n h = grind (arith, nat_tests)

is_positive : (n : ℕ) → nat_lt 0 n ≡ true → 0 < n
is_positive n h = grind (arith, nat_tests, h)

both_none : (a b x y : ℕ) → nat_lt 0 a ≡ nat_lt 0 b → nat_lt 0 x ≡ nat_lt 0 y → nat_lt 0 (a + x) ≡ nat_lt 0 (b + y)
both_none zero zero x y e f = let g : zero + x ≡ x = omega arith in let h : zero + y ≡ y = omega arith in ap (nat_lt 0) g ∙ f ∙ sym (ap (nat_lt 0) h)
both_none zero (suc b) x y e f = absurd (let h : 0 < zero = is_positive zero (e ∙ positive (suc b) (omega arith)) in omega arith)
both_none (suc a) zero x y e f = absurd (let h : 0 < zero = is_positive zero (sym e ∙ positive (suc a) (omega arith)) in omega arith)
both_none (suc a) (suc b) x y e f = positive (suc a + x) (omega arith) ∙ sym (positive (suc b + y) (omega arith))

-- d is 1 where m isn't 0; of the rest, t isn't 0 where u isn't, and a where b isn't
tests_alike : (a b d t m u : ℕ) → nat_lt 0 d ≡ nat_lt 0 m → d ≤ 1 → nat_lt 0 t ≡ nat_lt 0 u → nat_lt 0 a ≡ nat_lt 0 b → (nat_lt 0 d && nat_lt 1 (a + (d + t))) ≡ (nat_lt 0 m && nat_lt m (b + (m + u)))
tests_alike a b d t m u e few f g = alike_if (nat_lt 0 d) (nat_lt 0 m) refl refl
  where
    more : (k n : ℕ) → nat_lt k (k + n) ≡ nat_lt 0 n
    more k zero = let h : k + 0 ≡ k = omega arith in grind (arith, nat_tests)
    more k (suc n) = grind (arith, nat_tests)

    alike : nat_lt 0 d ≡ true → nat_lt 1 (a + (d + t)) ≡ nat_lt m (b + (m + u))
    alike h =
        let one : d ≡ 1 = grind (arith, nat_tests, h) in
        let left : a + (d + t) ≡ 1 + (a + t) = omega arith in
        let right : b + (m + u) ≡ m + (b + u) = omega arith in
        ap (nat_lt 1) left ∙ more 1 (a + t) ∙ both_none a b t u g f ∙ sym (ap (nat_lt m) right ∙ more m (b + u))

    alike_if : (x y : Bool) → nat_lt 0 d ≡ x → nat_lt 0 m ≡ y → (x && nat_lt 1 (a + (d + t))) ≡ (y && nat_lt m (b + (m + u)))
    alike_if true true p q = alike p
    alike_if true false p q = cc
    alike_if false true p q = cc
    alike_if false false p q = refl

-- what was counted: each of two lists has some variables, and behind them those of the goals
pub record Counted (flat all : List ℕ) (gs : Goals) (a b : ℕ → ℕ) : Type 0 where
  pub flat_is : (v : ℕ) → times v flat ≡ a v + times v (outer_all gs)
  pub all_is : (v : ℕ) → times v all ≡ b v + times v (goals_variables gs)
  pub rest : (v : ℕ) → nat_lt 0 (a v) ≡ nat_lt 0 (b v)

module _ (s : Scope) (order flat all : List ℕ) (order_is : s.order.items ≡ order) (tally : IsTally flat s.counts) where
  alike_at : (inside : List ℕ) (a b x u v : ℕ) → count_in s.counts v ≡ a + (times v (distinct inside) + x) → times v all ≡ b + (times v inside + u) → nat_lt 0 x ≡ nat_lt 0 u → nat_lt 0 a ≡ nat_lt 0 b
      → (nat_lt 0 (times v (distinct inside)) && nat_lt 1 (count_in s.counts v)) ≡ (nat_lt 0 (times v inside) && nat_lt (times v inside) (times v all))
  alike_at inside a b x u v counted whole behind before =
      let d = times v (distinct inside) in
      let m = times v inside in
      let same : nat_lt 0 d ≡ nat_lt 0 m = times-has v (distinct inside) ∙ has-seen_from v [] inside ∙ sym (times-has v inside) in
      ap (λ n. nat_lt 0 d && nat_lt 1 n) counted ∙ tests_alike a b d x m u same (times-distinct v inside) behind before ∙ sym (ap (λ n. nat_lt 0 m && nat_lt m n) whole)

  -- what is lifted has the same arguments either way, where what is behind it was counted
  agree_inside : (inside : List ℕ) (a b x u : ℕ → ℕ) → ((v : ℕ) → times v flat ≡ a v + (times v (distinct inside) + x v)) → ((v : ℕ) → times v all ≡ b v + (times v inside + u v)) → ((v : ℕ) → nat_lt 0 (x v) ≡ nat_lt 0 (u v))
      → ((v : ℕ) → nat_lt 0 (a v) ≡ nat_lt 0 (b v)) → chosen_of s inside ≡ shared order all inside
  agree_inside inside a b x u counted whole behind before =
      same_filter (λ v. nat_lt 0 (times v (distinct inside)) && nat_lt 1 (count_in s.counts v)) (λ v. nat_lt 0 (times v inside) && nat_lt (times v inside) (times v all))
      (λ v. alike_at inside (a v) (b v) (x v) (u v) v (tally v ∙ counted v) (whole v) (behind v) (before v)) s.order.items
      ∙ ap (filter (λ v. nat_lt 0 (times v inside) && nat_lt (times v inside) (times v all))) order_is

  behind_alike : (gs : Goals) (v : ℕ) → nat_lt 0 (times v (outer_all gs)) ≡ nat_lt 0 (times v (goals_variables gs))
  behind_alike gs v = times-has v (outer_all gs) ∙ has-outer_all v gs ∙ sym (times-has v (goals_variables gs))

  agree_at : (g : Goal) (gs : Goals) (a b : ℕ → ℕ) → Counted flat all (more_goals g gs) a b → AgreeAt (chosen_of s) (shared order all) g
  agree_at (call w ts) gs a b c = tt
  agree_at (choice ps) gs a b c =
      agree_inside (parts_variables ps) a b (λ v. times v (outer_all gs)) (λ v. times v (goals_variables gs))
      (λ v.
      let e = c.flat_is v in
      let f = times-append v (distinct (concat (outer_parts ps))) (outer_all gs) in
      let g = ap (times v) (seen-outer_parts [] ps) in
      omega arith)
      (λ v. let e = c.all_is v in let f = times-append v (parts_variables ps) (goals_variables gs) in omega arith)
      (behind_alike gs) c.rest
  agree_at (collect t hs r) gs a b c =
      agree_inside (collect_variables t hs) a b (λ v. times v (tree_variables r) + times v (outer_all gs)) (λ v. times v (tree_variables r) + times v (goals_variables gs))
      (λ v.
      let e = c.flat_is v in
      let f = times-append v (distinct (concat (outer_collected t hs)) ++ tree_variables r) (outer_all gs) in
      let g = times-append v (distinct (concat (outer_collected t hs))) (tree_variables r) in
      let h = ap (times v) (seen-outer_collected [] t hs) in
      omega arith)
      (λ v.
      let e = c.all_is v in
      let f = times-append v (tree_variables t ++ (goals_variables hs ++ tree_variables r)) (goals_variables gs) in
      let g = times-append v (tree_variables t) (goals_variables hs ++ tree_variables r) in
      let h = times-append v (goals_variables hs) (tree_variables r) in
      let i = times-append v (tree_variables t) (goals_variables hs) in
      omega arith)
      (λ v. both_none (times v (tree_variables r)) (times v (tree_variables r)) (times v (outer_all gs)) (times v (goals_variables gs)) refl (behind_alike gs v)) c.rest
  agree_at (lifted n ns) gs a b c = tt
  agree_at (lifted_collect n ns r) gs a b c = tt

  counted_on : (g : Goal) (gs : Goals) (a b : ℕ → ℕ) → Counted flat all (more_goals g gs) a b → Counted flat all gs (λ v. a v + times v (outer g)) (λ v. b v + times v (goal_variables g))
  counted_on g gs a b c = record {
    flat_is = λ v. let e = c.flat_is v in let f = times-append v (outer g) (outer_all gs) in omega arith;
    all_is = λ v. let e = c.all_is v in let f = times-append v (goal_variables g) (goals_variables gs) in omega arith;
    rest = λ v. both_none (a v) (b v) (times v (outer g)) (times v (goal_variables g)) (c.rest v) (times-has v (outer g) ∙ has-outer v g ∙ sym (times-has v (goal_variables g)));
  }

  pub agree : (gs : Goals) (a b : ℕ → ℕ) → Counted flat all gs a b → Agree (chosen_of s) (shared order all) gs
  agree no_goals a b c = tt
  agree (more_goals g gs) a b c = (agree_at g gs a b c, agree gs (λ v. a v + times v (outer g)) (λ v. b v + times v (goal_variables g)) (counted_on g gs a b c))

  -- a guard with a body behind it, and the body behind the guard
  pub agree_guard : (front : List ℕ) (gs hs : Goals) → flat ≡ front ++ (outer_all gs ++ outer_all hs) → all ≡ front ++ (goals_variables gs ++ goals_variables hs) → Agree (chosen_of s) (shared order all) gs
  agree_guard front gs hs e f = agree gs (λ v. times v front + times v (outer_all hs)) (λ v. times v front + times v (goals_variables hs)) (record {
    flat_is = λ v. let p = ap (times v) e in let q = times-append v front (outer_all gs ++ outer_all hs) in let r = times-append v (outer_all gs) (outer_all hs) in omega arith;
    all_is = λ v. let p = ap (times v) f in let q = times-append v front (goals_variables gs ++ goals_variables hs) in let r = times-append v (goals_variables gs) (goals_variables hs) in omega arith;
    rest = λ v. both_none (times v front) (times v front) (times v (outer_all hs)) (times v (goals_variables hs)) refl (times-has v (outer_all hs) ∙ has-outer_all v hs ∙ sym (times-has v (goals_variables hs)));
  })

  pub agree_body : (front : List ℕ) (gs hs : Goals) → flat ≡ front ++ (outer_all gs ++ outer_all hs) → all ≡ front ++ (goals_variables gs ++ goals_variables hs) → Agree (chosen_of s) (shared order all) hs
  agree_body front gs hs e f = agree hs (λ v. times v front + times v (outer_all gs)) (λ v. times v front + times v (goals_variables gs)) (record {
    flat_is = λ v. let p = ap (times v) e in let q = times-append v front (outer_all gs ++ outer_all hs) in let r = times-append v (outer_all gs) (outer_all hs) in omega arith;
    all_is = λ v. let p = ap (times v) f in let q = times-append v front (goals_variables gs ++ goals_variables hs) in let r = times-append v (goals_variables gs) (goals_variables hs) in omega arith;
    rest = λ v. both_none (times v front) (times v front) (times v (outer_all gs)) (times v (goals_variables gs)) refl (times-has v (outer_all gs) ∙ has-outer_all v gs ∙ sym (times-has v (goals_variables gs)));
  })

  -- a query's goals behind the variables that are shown
  pub agree_goals : (front : List ℕ) (gs : Goals) → flat ≡ front ++ outer_all gs → all ≡ front ++ goals_variables gs → Agree (chosen_of s) (shared order all) gs
  agree_goals front gs e f = agree gs (λ v. times v front) (λ v. times v front) (record {
    flat_is = λ v. ap (times v) e ∙ times-append v front (outer_all gs);
    all_is = λ v. ap (times v) f ∙ times-append v front (goals_variables gs);
    rest = λ v. refl;
  })
