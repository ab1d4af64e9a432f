-- The first refusal of several tests.
use Rattle.std.proofs.Common.{◌≡◌, ◌≤◌, ◌<◌, ℕ, zero, suc, List, [], ◌∷◌, length, map, Option, Some, None, Result, Err, refl, sym, ap, subst, ◌∙◌, get_or, arith}
use Rattle.std.specs.Prelude.{option_map}
use Rattle.std.specs.Option.{option_or}
use Rattle.std.specs.Result.{IsErrAnd}
use Rattle.std.proofs.lemmas.Result.{err_from_is_err_and}
use Rattle.akl_syntax.specs.Clauses.{Clause}
use Rattle.akl_syntax.specs.Sizes.{clause_size, clauses_size}
use Rattle.clause_checks.specs.declared.error.LoadError.{LoadError}
use Rattle.clause_checks.specs.declared.error.LoadError.TheVariants.{MixedGuards, Undefined, Reserved, TooMany, Memory}
use Rattle.clause_checks.specs.declared.listed.Listed.{Listed}
use Rattle.clause_checks.specs.Rows.{first}
use Rattle.clause_checks.specs.Refusals.{Answers}
use Rattle.clause_checks.specs.Tallies.{HasGoals, AreListed, nothing, next}

-- what one test refuses, all together refuse
refused : (a b : Option LoadError) (e : LoadError) → ((d : LoadError) → a ≡ Some d → b ≡ Some d) → Answers a (Err e) → Answers b (Err e)
refused a b (MixedGuards k) f h = f (MixedGuards k) h
refused a b (Undefined k) f h = f (Undefined k) h
refused a b (Reserved k) f h = f (Reserved k) h
refused a b (TooMany what n) f h = f (TooMany what n) h
refused a b (Memory e) f h = tt

-- so the answer of a `?` behind one test is that of all together
pub exits : (a b : Option LoadError) (d : LoadError) (r : Result (Unit {0}) LoadError) → IsErrAnd r (λ e. e ≡ d) → Answers a (Err d) → ((e : LoadError) → a ≡ Some e → b ≡ Some e) → Answers b r
exits a b d r h p f = (let q = err_from_is_err_and r h in subst (Answers b) (sym (q.1 ∙ ap Err q.2)) (refused a b d f p))

pub no_error : {X : Type 0} (f : X → LoadError) (o : Option X) → option_map f o ≡ None → o ≡ None
no_error f None e = refl
no_error f (Some x) e = absurd cc

-- ---- searches
pub first_same : {X Y : Type 0} (f g : X → Option Y) → ((x : X) → f x ≡ g x) → (xs : List X) → first f xs ≡ first g xs
first_same f g h [] = refl
first_same {X} {Y} f g h (x ∷ xs) = ap (λ (o : Option Y). option_or o (first f xs)) (h x) ∙ ap (λ (o : Option Y). option_or (g x) o) (first_same f g h xs)

pub left_none : {X : Type 0} (a b : Option X) → option_or a b ≡ None → (a ≡ None) × (b ≡ None)
left_none None b e = (refl, e)
left_none (Some x) b e = absurd cc

pub none_of : {X Y : Type 0} (f : X → Option Y) (xs : List X) → first f xs ≡ None → (i : ℕ) (d : X) → i < length xs → f (get_or xs i d) ≡ None
none_of f [] e i d l = absurd (omega arith)
none_of f (x ∷ xs) e zero d l = (left_none (f x) (first f xs) e).0
none_of f (x ∷ xs) e (suc i) d l = none_of f xs (left_none (f x) (first f xs) e).1 i d (omega (arith, l))

-- ---- what is known of each clause
pub size_at : {X : Type 0} (n : ℕ) (f : X → Clause) (xs : List X) → clauses_size (map f xs) ≤ n → (i : ℕ) (d : X) → i < length xs → clause_size (f (get_or xs i d)) ≤ n
size_at n f [] h i d l = absurd (omega arith)
size_at n f (x ∷ xs) h zero d l = omega (arith, h)
size_at n f (x ∷ xs) h (suc i) d l = size_at n f xs (omega (arith, h)) i d (omega (arith, l))

pub few_clauses : (cs : List Clause) → length cs ≤ clauses_size cs
few_clauses [] = omega arith
few_clauses (c ∷ cs) = omega (arith, few_clauses cs)

pub goals_at : {before : List Clause} {xs : List Listed} → AreListed before xs → (i : ℕ) (d : Listed) → i < length xs → HasGoals (get_or xs i d)
goals_at nothing i d l = absurd (omega arith)
goals_at (next h hs) zero d l = h.goals
goals_at (next h hs) (suc i) d l = goals_at hs i d (omega (arith, l))
