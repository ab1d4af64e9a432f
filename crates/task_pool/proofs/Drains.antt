-- What the owner that has an account of each hand learns of the tokens that are left.
use Rattle.std.proofs.Common.{◌≡◌, ◌≢◌, ℕ, ◌+◌, ◌-◌, ◌<◌, ◌==◌, if◌then◌else◌, List, [], ◌∷◌, ◌++◌, length, drop, All, sym, refl, ap, ◌∙◌, subst, ⊎_elim, eq-eqb, ne_eqb, append_assoc, length-append, arith}
use Rattle.std.proofs.Math.Seq.{drop-append_seam}
use Rattle.std.proofs.lemmas.Bool.{cases_order}
use mathlib.Core.Option.{some}
use lib.ListN.{get_elem?}
use Rattle.crossbeam_deque.specs.Tasks.{Takes, Finds}
use Rattle.task_pool.specs.declared.view.Account.{Account}
use Rattle.task_pool.specs.declared.view.View.{View}
use Rattle.task_pool.specs.Departures.{Departure, tokens, taken_by}
use Rattle.task_pool.proofs.Keeps.{all_first, all_rest, takes}
use Rattle.task_pool.specs.Kept.{Kept, IsTrueOf, count_of, Leaves, Drained}
use Rattle.task_pool.specs.Owners.{HasAll}
use Rattle.task_pool.specs.Views.{with_taken}

pub leaves : (v : View) (items : List ℕ) (views : List View) → Kept items views → get_elem? views 0 ≡ some v → Leaves v items
leaves v items views kept at =
    let o = kept.owner v at in
    (kept.gone, o.0, kept.accounts 0 v at, subst (λ (n : ℕ). All (λ (d : Departure). d.hand < n) kept.gone) (sym o.1) kept.by_hands)

pub finds_left : (v : View) → Finds Kept 0 v (Leaves v [])
finds_left v views kept at = leaves v [] views kept at

pub drains : (v : View) (first : Account) (rest : List Account) → v.accounts ≡ first ∷ rest → Takes Kept 0 v 1 (Drained v)
drains v first rest is ts items views some_token one_token kept at =
    let t = takes 0 v first rest is ts items views some_token one_token kept at in
    (t.0, t.1, (t.2, (items, leaves v (ts ++ items) views kept at)))

-- how many tokens the accounts have
abbrev pub size_of : List Account → ℕ
size_of [] = 0
size_of (a ∷ rest) = length a.taken + size_of rest

-- the same, by what left
abbrev pub size_by : List Account → List Departure → ℕ
size_by [] gone = 0
size_by (a ∷ rest) gone = length (taken_by a.hand gone) + size_by rest gone

same_size : (gone : List Departure) (all : List Account) → All (IsTrueOf gone) all → size_of all ≡ size_by all gone
same_size gone [] h = refl
same_size gone (a ∷ rest) h =
    let first = ap length (all_first (IsTrueOf gone) a rest h) in
    let others = same_size gone rest (all_rest (IsTrueOf gone) a rest h) in omega arith

size_by_none : (all : List Account) → size_by all [] ≡ 0
size_by_none [] = refl
size_by_none (a ∷ rest) = let h = size_by_none rest in omega arith

first_taken : (a : Account) (d : Departure) (ds : List Departure) → length (taken_by a.hand (d ∷ ds)) ≡ (if a.hand == d.hand then 1 else 0) + length (taken_by a.hand ds)
first_taken a d ds = ⊎_elim
    (λ (e : a.hand ≡ d.hand). rw (eq-eqb a.hand d.hand e, eq-eqb d.hand a.hand (sym e)) (omega arith))
    (λ h. let n : a.hand ≢ d.hand = ⊎_elim (λ (l : a.hand < d.hand) (e : a.hand ≡ d.hand). absurd (omega arith)) (λ (l : d.hand < a.hand) (e : a.hand ≡ d.hand). absurd (omega arith)) h in
    rw (ne_eqb a.hand d.hand n, ne_eqb d.hand a.hand (λ e. n (sym e))) (omega arith))
    (cases_order a.hand d.hand)

size_by_more : (all : List Account) (d : Departure) (ds : List Departure) → size_by all (d ∷ ds) ≡ count_of d.hand all + size_by all ds
size_by_more [] d ds = refl
size_by_more (a ∷ rest) d ds =
    let h = size_by_more rest d ds in
    let f = first_taken a d ds in omega arith

size_by_all : (made : ℕ) (all : List Account) (gone : List Departure) → ((k : ℕ) → k < made → count_of k all ≡ 1) → All (λ (d : Departure). d.hand < made) gone → size_by all gone ≡ length (tokens gone)
size_by_all made all [] one h = size_by_none all
size_by_all made all (d ∷ ds) one h =
    let c = one d.hand (all_first (λ (e : Departure). e.hand < made) d ds h) in
    let more = size_by_more all d ds in
    let r = size_by_all made all ds one (all_rest (λ (e : Departure). e.hand < made) d ds h) in omega arith

-- as many tokens left as the accounts have
pub all_gone : (v : View) (left : List ℕ) → HasAll v → (l : Leaves v left) → length (tokens l.0) ≡ size_of v.accounts
all_gone v left all l = sym (same_size l.0 v.accounts l.2 ∙ size_by_all v.passes v.accounts l.0 all l.3)

pub same_rest : (xs ys us vs : List ℕ) → xs ++ ys ≡ us ++ vs → length xs ≡ length us → ys ≡ vs
same_rest xs ys us vs e n =
    sym (drop-append_seam xs ys) ∙ ap (λ l. drop (length xs) l) e ∙ ap (λ (k : ℕ). drop k (us ++ vs)) n ∙ drop-append_seam us vs

-- what is left after one more was taken
pub next_left : (v w : View) (token : ℕ) (rest items : List ℕ) → HasAll v → HasAll w → w.pushed ≡ v.pushed → size_of w.accounts ≡ size_of v.accounts + 1 → Leaves v (token ∷ rest) → Leaves w items → items ≡ rest
next_left v w token rest items all_v all_w same more l m =
    let n = all_gone v (token ∷ rest) all_v l in
    let k = all_gone w items all_w m in
    let s = length-append (tokens l.0) (token ∷ []) in
    same_rest (tokens m.0) items (tokens l.0 ++ token ∷ []) rest
    (sym m.1 ∙ same ∙ l.1 ∙ sym (append_assoc (tokens l.0) (token ∷ []) rest))
    (omega arith)

some_account : (all : List Account) → count_of 0 all ≡ 1 → (first : Account) × (rest : List Account) × (all ≡ first ∷ rest)
some_account [] e = absurd (omega arith)
some_account (a ∷ rest) e = (a, rest, refl)

pub an_account : (v : View) → HasAll v → 0 < v.passes → (first : Account) × (rest : List Account) × (v.accounts ≡ first ∷ rest)
an_account v all some_pass = some_account v.accounts (all 0 some_pass)

same_count : (k : ℕ) (all : List Account) (ts : List ℕ) → count_of k (with_taken all ts) ≡ count_of k all
same_count k [] ts = refl
same_count k (a ∷ rest) ts = refl

more_size : (all : List Account) (token : ℕ) (first : Account) (rest : List Account) → all ≡ first ∷ rest → size_of (with_taken all (token ∷ [])) ≡ size_of all + 1
more_size [] token first rest is = absurd (cc)
more_size (a ∷ others) token first rest is = let h = length-append a.taken (token ∷ []) in omega arith

-- the owner after it took one of the tokens that are left
pub record OneLess (v : View) (token : ℕ) (w : View) : Type 0 where
  pub all : HasAll w
  pub passes : 0 < w.passes
  pub left : List ℕ
  pub leaves : Leaves v (token ∷ left)
  pub next : (items : List ℕ) → Leaves w items → items ≡ left
  pub smaller : length w.pushed - size_of w.accounts < length v.pushed - size_of v.accounts

pub drained : (v w : View) (token : ℕ) → HasAll v → 0 < v.passes → Drained v (token ∷ []) w → OneLess v token w
drained v w token all some_pass d =
    let first = an_account v all some_pass in
    let accounts : w.accounts ≡ with_taken v.accounts (token ∷ []) = ap (λ (u : View). u.accounts) d.0 in
    let pushed : w.pushed ≡ v.pushed = ap (λ (u : View). u.pushed) d.0 in
    let passes : w.passes ≡ v.passes = ap (λ (u : View). u.passes) d.0 in
    let size : size_of w.accounts ≡ size_of v.accounts + 1 = ap size_of accounts ∙ more_size v.accounts token first.0 first.1 first.2 in
    let all_w : HasAll w = λ k l. ap (count_of k) accounts ∙ same_count k v.accounts (token ∷ []) ∙ all k (subst (λ (n : ℕ). k < n) passes l) in
    let n = all_gone v (token ∷ d.1.0) all d.1.1 in
    let m = ap (λ l. length l) d.1.1.1 ∙ length-append (tokens d.1.1.0) (token ∷ d.1.0) in
    let k = ap (λ l. length l) pushed in
    record {
      all = all_w;
      passes = subst (λ (n : ℕ). 0 < n) (sym passes) some_pass;
      left = d.1.0;
      leaves = d.1.1;
      next = λ items l. next_left v w token d.1.0 items all all_w pushed size d.1.1 l;
      smaller = omega arith;
    }
