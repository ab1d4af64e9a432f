-- There are at most so many different variables as the number below which all are.
use Rattle.std.proofs.Common.{◌≡◌, ℕ, zero, suc, ◌+◌, ◌<◌, ◌≤◌, Bool, true, false, cond, List, [], ◌∷◌, ◌++◌, length, refl, sym, ap, ◌∙◌, arith, inl, inr}
use Rattle.std.specs.Prelude.{◌==◌, nat_lt}
use Rattle.std.specs.List.{filter}
use Rattle.std.proofs.lemmas.Bool.Decides.{nat_tests}
use Rattle.akl_lexemes.specs.Occurrences.{Occurs}
use Rattle.term_syntax.specs.Tree.{Tree}
use Rattle.term_syntax.specs.Variables.{tree_variables}
use Rattle.akl_syntax.specs.Goals.{Goals, collect}
use Rattle.akl_syntax.specs.Clauses.{Clause}
use Rattle.akl_syntax.specs.Variables.{goal_variables, goals_variables, clause_variables, IsClauseNumbered}
use Rattle.akl_lift.specs.Lifting.{times, seen_from, numbers_from, collect_variables, shared, is_shared, made_order, made_shares, part_variables, part_order, part_shares, clause_order, clause_shares}
use Rattle.akl_lift.specs.Noting.{distinct}
use Rattle.akl_lift.proofs.FirstSeen.{has, added, times-cons, times-distinct}

-- each of the variables is below this number
abbrev pub Below : ℕ → List ℕ → Type 0
Below n [] = Unit {0}
Below n (v ∷ vs) = (v < n) × Below n vs

pub below_all : (n : ℕ) (vs : List ℕ) → ((v : ℕ) → Occurs v vs → v < n) → Below n vs
below_all n [] h = tt
below_all n (v ∷ vs) h = (h v (inl refl), below_all n vs (λ w o. h w (inr o)))

pub below_both : (n : ℕ) (vs ws : List ℕ) → Below n vs → Below n ws → Below n (vs ++ ws)
below_both n [] ws a b = b
below_both n (v ∷ vs) ws a b = (a.0, below_both n vs ws a.1 b)

pub below_front : (n : ℕ) (vs ws : List ℕ) → Below n (vs ++ ws) → Below n vs
below_front n [] ws a = tt
below_front n (v ∷ vs) ws a = (a.0, below_front n vs ws a.1)

pub below_back : (n : ℕ) (vs ws : List ℕ) → Below n (vs ++ ws) → Below n ws
below_back n [] ws a = a
below_back n (v ∷ vs) ws a = below_back n vs ws a.1

below_if : (n v : ℕ) (vs : List ℕ) (b : Bool) → v < n → Below n vs → Below n (cond b (v ∷ vs) vs)
below_if n v vs true h a = (h, a)
below_if n v vs false h a = a

below_filter : (n : ℕ) (p : ℕ → Bool) (vs : List ℕ) → Below n vs → Below n (filter p vs)
below_filter n p [] a = tt
below_filter n p (v ∷ vs) a = below_if n v (filter p vs) (p v) a.0 (below_filter n p vs a.1)

below_added : (n v : ℕ) (known : List ℕ) (b : Bool) → v < n → Below n known → Below n (cond b known (known ++ v ∷ []))
below_added n v known true h a = a
below_added n v known false h a = below_both n known (v ∷ []) a (h, tt)

pub below_seen : (n : ℕ) (known vs : List ℕ) → Below n known → Below n vs → Below n (seen_from known vs)
below_seen n known [] a b = a
below_seen n known (v ∷ vs) a b = below_seen n (added known v) vs (below_added n v known (has v known) b.0 a) b.1

pub below_numbers : (n k m : ℕ) → n + k ≤ m → Below m (numbers_from n k)
below_numbers n zero m h = tt
below_numbers n (suc k) m h = (omega arith, below_numbers (suc n) k m (omega arith))

shorter_if : (b : Bool) (v : ℕ) (found : List ℕ) (n : ℕ) → length found ≤ n → length (cond b (v ∷ found) found) ≤ suc n
shorter_if true v found n h = omega arith
shorter_if false v found n h = omega arith

pub length-filter-le : (p : ℕ → Bool) (vs : List ℕ) → length (filter p vs) ≤ length vs
length-filter-le p [] = omega arith
length-filter-le p (v ∷ vs) = shorter_if (p v) v (filter p vs) (length vs) (length-filter-le p vs)

pub length-numbers : (n k : ℕ) → length (numbers_from n k) ≡ k
length-numbers n zero = refl
length-numbers n (suc k) = ap suc (length-numbers (suc n) k)

-- ---- how many different ones there are
-- how often the variables below a number stand in a list
abbrev total : ℕ → List ℕ → ℕ
total zero vs = 0
total (suc k) vs = times k vs + total k vs

one_step : (v k : ℕ) → cond (v == k) 1 0 + cond (nat_lt v k) 1 0 ≡ cond (nat_lt v (suc k)) 1 0
one_step v k = step (v == k) (nat_lt v k) (nat_lt v (suc k)) refl refl refl
  where
    step : (a b c : Bool) → (v == k) ≡ a → nat_lt v k ≡ b → nat_lt v (suc k) ≡ c → cond a 1 0 + cond b 1 0 ≡ cond c 1 0
    step true true c e f g = absurd (grind (arith, nat_tests, e, f))
    step true false true e f g = refl
    step true false false e f g = absurd (grind (arith, nat_tests, e, g))
    step false true true e f g = refl
    step false true false e f g = absurd (grind (arith, nat_tests, f, g))
    step false false true e f g = absurd (grind (arith, nat_tests, e, f, g))
    step false false false e f g = refl

none_below : (v : ℕ) → nat_lt v 0 ≡ false
none_below v = grind (arith, nat_tests)

total-cons : (n v : ℕ) (vs : List ℕ) → total n (v ∷ vs) ≡ cond (nat_lt v n) 1 0 + total n vs
total-cons zero v vs = ap (λ b. cond b 1 0 + 0) (sym (none_below v))
total-cons (suc k) v vs =
    let e : total k (v ∷ vs) ≡ cond (nat_lt v k) 1 0 + total k vs = total-cons k v vs in
    let f : cond (v == k) 1 0 + cond (nat_lt v k) 1 0 ≡ cond (nat_lt v (suc k)) 1 0 = one_step v k in
    let g : times k (v ∷ vs) ≡ cond (v == k) 1 0 + times k vs = times-cons k v vs in
    omega arith

is_below : (v n : ℕ) → v < n → nat_lt v n ≡ true
is_below v n h = grind (arith, nat_tests)

length-total : (n : ℕ) (vs : List ℕ) → Below n vs → length vs ≤ total n vs
length-total n [] a = omega arith
length-total n (v ∷ vs) a =
    let e : total n (v ∷ vs) ≡ 1 + total n vs = total-cons n v vs ∙ ap (λ b. cond b 1 0 + total n vs) (is_below v n a.0) in
    let f : length vs ≤ total n vs = length-total n vs a.1 in
    omega arith

total_few : (n : ℕ) (vs : List ℕ) → ((v : ℕ) → times v vs ≤ 1) → total n vs ≤ n
total_few zero vs h = omega arith
total_few (suc k) vs h =
    let e : times k vs ≤ 1 = h k in
    let f : total k vs ≤ k = total_few k vs h in
    omega arith

pub length-distinct : (n : ℕ) (vs : List ℕ) → Below n vs → length (distinct vs) ≤ n
length-distinct n vs a =
    let e : length (distinct vs) ≤ total n (distinct vs) = length-total n (distinct vs) (below_seen n [] vs tt a) in
    let f : total n (distinct vs) ≤ n = total_few n (distinct vs) (λ v. times-distinct v vs) in
    omega arith

-- ---- the arguments of what is lifted in a clause
-- there are at most 256, and each is below this number
pub record Fits (n : ℕ) (shares : List ℕ → List ℕ) : Type 0 where
  pub below : (inside : List ℕ) → Below n (shares inside)
  pub few : (inside : List ℕ) → length (shares inside) ≤ 256

pub order_fits : (n : ℕ) (order all : List ℕ) → Below n order → length order ≤ 256 → Fits n (shared order all)
order_fits n order all a h = record {
  below = λ inside. below_filter n (is_shared all inside) order a;
  few = λ inside. omega (arith, h, length-filter-le (is_shared all inside) order);
}

pub made_few : (n : ℕ) (args inside : List ℕ) → n ≤ 256 → Below n args → Below n inside → length (made_order args inside) ≤ 256
made_few n args inside k a b = let e : length (distinct (args ++ inside)) ≤ n = length-distinct n (args ++ inside) (below_both n args inside a b) in omega arith

pub made_fits : (n : ℕ) (args inside : List ℕ) → n ≤ 256 → Below n args → Below n inside → Fits n (made_shares args inside)
made_fits n args inside k a b = order_fits n (made_order args inside) (args ++ inside) (below_seen n [] (args ++ inside) tt (below_both n args inside a b)) (made_few n args inside k a b)

pub part_few : (n : ℕ) (args : List ℕ) (gs hs : Goals) → n ≤ 256 → Below n args → Below n (goals_variables gs) → Below n (goals_variables hs) → length (part_order args gs hs) ≤ 256
part_few n args gs hs k a b c = made_few n args (part_variables gs hs) k a (below_both n (goals_variables gs) (goals_variables hs) b c)

pub part_fits : (n : ℕ) (args : List ℕ) (gs hs : Goals) → n ≤ 256 → Below n args → Below n (goals_variables gs) → Below n (goals_variables hs) → Fits n (part_shares args gs hs)
part_fits n args gs hs k a b c = made_fits n args (part_variables gs hs) k a (below_both n (goals_variables gs) (goals_variables hs) b c)

-- what is inside of a collecting goal
pub collect_below : (n : ℕ) (t : Tree) (gs : Goals) (r : Tree) → Below n (goal_variables (collect t gs r)) → Below n (collect_variables t gs)
collect_below n t gs r b =
    below_both n (tree_variables t) (goals_variables gs) (below_front n (tree_variables t) (goals_variables gs ++ tree_variables r) b)
    (below_front n (goals_variables gs) (tree_variables r) (below_back n (tree_variables t) (goals_variables gs ++ tree_variables r) b))

-- ---- written clauses
pub variables_below : (c : Clause) → IsClauseNumbered c → Below (length c.names) (clause_variables c)
variables_below c n = below_all (length c.names) (clause_variables c) n.named

pub clause_fits : (c : Clause) → length c.names ≤ 256 → Fits (length c.names) (clause_shares c)
clause_fits c h = order_fits (length c.names) (clause_order c) (clause_variables c) (below_numbers 0 (length c.names) (length c.names) (omega arith)) (let e : length (numbers_from 0 (length c.names)) ≡ length c.names = length-numbers 0 (length c.names) in omega arith)
