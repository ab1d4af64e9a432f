-- The rule at the start, and as passes are made and taken back.
use Rattle.std.proofs.Common.{◌≡◌, ◌≢◌, ℕ, zero, suc, ◌+◌, ◌<◌, ◌≤◌, Bool, true, false, ◌==◌, if◌then◌else◌, List, [], ◌∷◌, ◌++◌, set, All, sym, refl, ap, ◌∙◌, subst, ⊎_elim, ne_eqb, arith}
use Rattle.std.proofs.lemmas.Bool.{cases_lt}
use Rattle.std.proofs.lemmas.List.Elements.{All-append, All-nil}
use mathlib.Core.Option.{some, some-ne-none, some-injective}
use lib.ListN.{get_elem?}
use Rattle.crossbeam_deque.proofs.Lists.{at_set, at_snoc}
use Rattle.crossbeam_deque.specs.Tasks.{Forks, Merges}
use Rattle.task_pool.specs.declared.view.Account.{Account}
use Rattle.task_pool.specs.declared.view.View.{View}
use Rattle.task_pool.specs.Departures.{Departure, tokens, taken_by}
use Rattle.task_pool.proofs.Keeps.{all_first, all_rest, all_more, total_set}
use Rattle.task_pool.specs.Kept.{Kept, IsTrueOf, count_of, total_of}
use Rattle.task_pool.specs.Steps.{CallsKeep}
use Rattle.task_pool.specs.Views.{newcomer, spent, one_call, one_more, of_next, joined, account}

only_one : (v w : View) (j : ℕ) → get_elem? (w ∷ []) j ≡ some v → (j ≡ 0) × (w ≡ v)
only_one v w zero e = (refl, some-injective w v e)
only_one v w (suc j) e = absurd (some-ne-none v (sym e))

pub begins : Kept [] (newcomer ∷ [])
begins = record {
  gone = [];
  made = 0;
  owner = λ v e. subst (λ (z : View). (z.pushed ≡ []) × (z.passes ≡ 0)) (only_one v newcomer 0 e).1 (refl, refl);
  accounts = λ port v e. subst (λ (z : View). All (IsTrueOf []) z.accounts) (only_one v newcomer port e).1 (All-nil (IsTrueOf []));
  once = λ k. omega arith;
  unused = λ k l. omega arith;
  by_hands = All-nil (λ (d : Departure). d.hand < 0);
}

-- a hand above those that took tokens took none
pub none_taken : (k made : ℕ) (gone : List Departure) → made ≤ k → All (λ (d : Departure). d.hand < made) gone → taken_by k gone ≡ []
none_taken k made [] l h = refl
none_taken k made (d ∷ ds) l h =
    let below = all_first (λ (e : Departure). e.hand < made) d ds h in
    rw (ne_eqb d.hand k (omega arith)) (none_taken k made ds l (all_rest (λ (e : Departure). e.hand < made) d ds h))

at_most_one : (b : Bool) → (if b then 1 else 0) ≤ 1
at_most_one true = omega arith
at_most_one false = omega arith

pub total-append : (k : ℕ) (vs ws : List View) → total_of k (vs ++ ws) ≡ total_of k vs + total_of k ws
total-append k [] ws = omega arith
total-append k (v ∷ vs) ws = let h = total-append k vs ws in omega arith

pub count-append : (k : ℕ) (xs ys : List Account) → count_of k (xs ++ ys) ≡ count_of k xs + count_of k ys
count-append k [] ys = omega arith
count-append k (x ∷ xs) ys = let h = count-append k xs ys in omega arith

-- the account of a new hand counts for that hand alone
new_count : (k made : ℕ) → count_of k (account made [] ∷ []) ≤ 1
new_count k made = let h = at_most_one (made == k) in omega arith

other_count : (k made : ℕ) → made ≢ k → count_of k (account made [] ∷ []) ≡ 0
other_count k made n = rw (ne_eqb made k n) refl

pub forks : (v : View) → Forks Kept 0 v (one_more v) (of_next v)
forks v items [] kept at = absurd (some-ne-none v (sym at))
forks v items (x ∷ xs) kept at =
    let left = one_more v in
    let right = of_next v in
    let is : x ≡ v = some-injective x v at in
    let o = kept.owner v at in
    let new_true : IsTrueOf kept.gone (account v.passes []) = sym (none_taken v.passes kept.made kept.gone (omega (arith, o.1)) kept.by_hands) in
    let total : (k : ℕ) → total_of k (left ∷ (xs ++ right ∷ [])) ≡ total_of k (x ∷ xs) + count_of k (account v.passes [] ∷ []) =
    λ k. let a = total-append k xs (right ∷ []) in let b = ap (λ (u : View). count_of k u.accounts) is in omega arith in
    record {
      gone = kept.gone;
      made = kept.made + 1;
      owner = λ u e. subst (λ (z : View). (z.pushed ≡ tokens kept.gone ++ items) × (z.passes ≡ kept.made + 1)) (some-injective left u e) (o.0, ap (λ n. n + 1) o.1);
      accounts = λ j u e. ⊎_elim
          (λ (h : get_elem? (left ∷ xs) j ≡ some u). ⊎_elim
          (λ (s : (j ≡ 0) × (left ≡ u)). subst (λ (z : View). All (IsTrueOf kept.gone) z.accounts) s.1 (kept.accounts 0 v at))
          (λ (s : (j ≢ 0) × (get_elem? (x ∷ xs) j ≡ some u)). kept.accounts j u s.1)
          (at_set (x ∷ xs) 0 j left u h))
          (λ (h : right ≡ u). subst (λ (z : View). All (IsTrueOf kept.gone) z.accounts) h (all_more (IsTrueOf kept.gone) (account v.passes []) [] new_true (All-nil (IsTrueOf kept.gone))))
          (at_snoc (left ∷ xs) right u j e);
      once = λ k. ⊎_elim
          (λ (h : k < kept.made). let t = total k in let z = other_count k v.passes (λ s. absurd (omega (arith, o.1))) in let w = kept.once k in omega arith)
          (λ (h : kept.made ≤ k). let t = total k in let z = new_count k v.passes in let w = kept.unused k h in omega arith)
          (cases_lt k kept.made);
      unused = λ k l. let t = total k in let z = other_count k v.passes (λ s. absurd (omega (arith, o.1))) in let w = kept.unused k (omega arith) in omega arith;
      by_hands = λ i d l. let h = kept.by_hands i d l in omega arith;
    }

pub calls : CallsKeep Kept
calls v items [] kept at = absurd (some-ne-none v (sym at))
calls v items (x ∷ xs) kept at =
    let left = one_call v in
    let is : x ≡ v = some-injective x v at in
    let total : (k : ℕ) → total_of k (left ∷ (xs ++ spent ∷ [])) ≡ total_of k (x ∷ xs) =
    λ k. let a = total-append k xs (spent ∷ []) in let b = ap (λ (u : View). count_of k u.accounts) is in omega arith in
    record {
      gone = kept.gone;
      made = kept.made;
      owner = λ u e. subst (λ (z : View). (z.pushed ≡ tokens kept.gone ++ items) × (z.passes ≡ kept.made)) (some-injective left u e) (kept.owner v at);
      accounts = λ j u e. ⊎_elim
          (λ (h : get_elem? (left ∷ xs) j ≡ some u). ⊎_elim
          (λ (s : (j ≡ 0) × (left ≡ u)). subst (λ (z : View). All (IsTrueOf kept.gone) z.accounts) s.1 (kept.accounts 0 v at))
          (λ (s : (j ≢ 0) × (get_elem? (x ∷ xs) j ≡ some u)). kept.accounts j u s.1)
          (at_set (x ∷ xs) 0 j left u h))
          (λ (h : spent ≡ u). subst (λ (z : View). All (IsTrueOf kept.gone) z.accounts) h (All-nil (IsTrueOf kept.gone)))
          (at_snoc (left ∷ xs) spent u j e);
      once = λ k. let t = total k in let h = kept.once k in omega arith;
      unused = λ k l. total k ∙ kept.unused k l;
      by_hands = kept.by_hands;
    }

pub merges : (v : View) (other : ℕ) (w : View) → Merges Kept 0 v other w (joined v w) spent
merges v other w items views kept at apart at' =
    let both = joined v w in
    let vs = set views 0 both in
    let o = kept.owner v at in
    let was : get_elem? views other ≡ some w = ⊎_elim
    (λ (h : (other ≡ 0) × (both ≡ w)). absurd (apart h.0))
    (λ (h : (other ≢ 0) × (get_elem? views other ≡ some w)). h.1)
    (at_set views 0 other both w at') in
    let total : (k : ℕ) → total_of k (set vs other spent) ≡ total_of k views =
    λ k. let a = total_set k vs other w spent at' in let b = total_set k views 0 v both at in let c = count-append k v.accounts w.accounts in omega arith in
    record {
      gone = kept.gone;
      made = kept.made;
      owner = λ u e. ⊎_elim
          (λ (h : (0 ≡ other) × (spent ≡ u)). absurd (apart (sym h.0)))
          (λ (h : (0 ≢ other) × (get_elem? vs 0 ≡ some u)). ⊎_elim
          (λ (s : (0 ≡ 0) × (both ≡ u)). subst (λ (z : View). (z.pushed ≡ tokens kept.gone ++ items) × (z.passes ≡ kept.made)) s.1 (o.0, o.1))
          (λ (s : (0 ≢ 0) × (get_elem? views 0 ≡ some u)). kept.owner u s.1)
          (at_set views 0 0 both u h.1))
          (at_set vs other 0 spent u e);
      accounts = λ j u e. ⊎_elim
          (λ (h : (j ≡ other) × (spent ≡ u)). subst (λ (z : View). All (IsTrueOf kept.gone) z.accounts) h.1 (All-nil (IsTrueOf kept.gone)))
          (λ (h : (j ≢ other) × (get_elem? vs j ≡ some u)). ⊎_elim
          (λ (s : (j ≡ 0) × (both ≡ u)). subst (λ (z : View). All (IsTrueOf kept.gone) z.accounts) s.1 (All-append (IsTrueOf kept.gone) v.accounts w.accounts (kept.accounts 0 v at) (kept.accounts other w was)))
          (λ (s : (j ≢ 0) × (get_elem? views j ≡ some u)). kept.accounts j u s.1)
          (at_set views 0 j both u h.1))
          (at_set vs other j spent u e);
      once = λ k. let t = total k in let h = kept.once k in omega arith;
      unused = λ k l. total k ∙ kept.unused k l;
      by_hands = kept.by_hands;
    }
