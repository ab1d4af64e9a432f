-- Pushes and takes keep the rule. These are proofs, and no contract rests on how they go: they stand here since the rule's impl names them.
use Rattle.std.proofs.Common.{◌≡◌, ◌≢◌, ℕ, zero, suc, ◌+◌, ◌<◌, ◌≤◌, true, false, ◌==◌, if◌then◌else◌, List, [], ◌∷◌, ◌++◌, set, All, sym, refl, ap, ◌∙◌, subst, ⊎_elim, eq-eqb, ne_eqb, append_assoc, append-nil, lt_of_not-le, arith}
use Rattle.std.proofs.lemmas.List.Elements.{All-append, All-nil}
use mathlib.Core.Option.{some, some-ne-none, some-injective}
use lib.ListN.{get_elem?}
use Rattle.crossbeam_deque.proofs.Lists.{at_set}
use Rattle.task_pool.specs.declared.view.Account.{Account}
use Rattle.task_pool.specs.declared.view.View.{View}
use Rattle.task_pool.specs.Departures.{Departure, tokens, taken_by}
use Rattle.task_pool.specs.Kept.{Kept, IsTrueOf, count_of, total_of}
use Rattle.task_pool.specs.Steps.{PushesKeep, TakesKeep}
use Rattle.task_pool.specs.Views.{after_push, after_take, with_taken, account}

module _ {X : Type 0} (P : X → Type 0) where
  pub all_first : (x : X) (xs : List X) → All P (x ∷ xs) → P x
  all_first x xs h = h zero x (omega arith)

  pub all_rest : (x : X) (xs : List X) → All P (x ∷ xs) → All P xs
  all_rest x xs h k d l = h (suc k) d (omega arith)

  pub all_more : (x : X) (xs : List X) → P x → All P xs → All P (x ∷ xs)
  all_more x xs p h zero d l = p
  all_more x xs p h (suc k) d l = h k d (omega arith)

pub tokens-append : (gs hs : List Departure) → tokens (gs ++ hs) ≡ tokens gs ++ tokens hs
tokens-append [] hs = refl
tokens-append (g ∷ gs) hs = ap (λ l. g.token ∷ l) (tokens-append gs hs)

pub taken_by-append : (k : ℕ) (gs hs : List Departure) → taken_by k (gs ++ hs) ≡ taken_by k gs ++ taken_by k hs
taken_by-append k [] hs = refl
taken_by-append k (g ∷ gs) hs =
    let same = taken_by-append k gs hs in
    elim (g.hand == k) as (λ b. (if b then g.token ∷ taken_by k (gs ++ hs) else taken_by k (gs ++ hs)) ≡ (if b then g.token ∷ taken_by k gs else taken_by k gs) ++ taken_by k hs)
    [ true ↦ ap (λ l. g.token ∷ l) same | false ↦ same ]

-- the hand takes these tokens
abbrev pub departures : ℕ → List ℕ → List Departure
departures k [] = []
departures k (t ∷ ts) = record { hand = k; token = t } ∷ departures k ts

pub tokens-departures : (k : ℕ) (ts : List ℕ) → tokens (departures k ts) ≡ ts
tokens-departures k [] = refl
tokens-departures k (t ∷ ts) = ap (λ l. t ∷ l) (tokens-departures k ts)

pub taken_by-own : (k : ℕ) (ts : List ℕ) → taken_by k (departures k ts) ≡ ts
taken_by-own k [] = refl
taken_by-own k (t ∷ ts) = rw (eq-eqb k k refl) (ap (λ l. t ∷ l) (taken_by-own k ts))

pub taken_by-other : (j k : ℕ) (ts : List ℕ) → k ≢ j → taken_by j (departures k ts) ≡ []
taken_by-other j k [] n = refl
taken_by-other j k (t ∷ ts) n = rw (ne_eqb k j n) (taken_by-other j k ts n)

pub by-departures : (made k : ℕ) (ts : List ℕ) → k < made → All (λ (d : Departure). d.hand < made) (departures k ts)
by-departures made k [] l = All-nil (λ (d : Departure). d.hand < made)
by-departures made k (t ∷ ts) l = all_more (λ (d : Departure). d.hand < made) (record { hand = k; token = t }) (departures k ts) l (by-departures made k ts l)

pub counted_first : (k : ℕ) (a : Account) (rest : List Account) → a.hand ≡ k → count_of k (a ∷ rest) ≡ 1 + count_of k rest
counted_first k a rest e = rw (eq-eqb a.hand k e) refl

pub uncounted_first : (k : ℕ) (a : Account) (rest : List Account) → count_of k (a ∷ rest) ≡ 0 → a.hand ≢ k
uncounted_first k a rest none e = let one = counted_first k a rest e in omega arith

pub uncounted_rest : (k : ℕ) (a : Account) (rest : List Account) → count_of k (a ∷ rest) ≡ 0 → count_of k rest ≡ 0
uncounted_rest k a rest none = omega arith

-- the accounts of other hands stay true
pub still_true : (k : ℕ) (ts : List ℕ) (gone : List Departure) (all : List Account) → count_of k all ≡ 0 → All (IsTrueOf gone) all → All (IsTrueOf (gone ++ departures k ts)) all
still_true k ts gone [] none h = All-nil (IsTrueOf (gone ++ departures k ts))
still_true k ts gone (a ∷ rest) none h =
    let other = uncounted_first k a rest none in
    let same : taken_by a.hand (gone ++ departures k ts) ≡ taken_by a.hand gone ++ [] = taken_by-append a.hand gone (departures k ts) ∙ ap (λ l. taken_by a.hand gone ++ l) (taken_by-other a.hand k ts (λ e. other (sym e))) in
    all_more (IsTrueOf (gone ++ departures k ts)) a rest
    (all_first (IsTrueOf gone) a rest h ∙ sym (same ∙ append-nil (taken_by a.hand gone)))
    (still_true k ts gone rest (uncounted_rest k a rest none) (all_rest (IsTrueOf gone) a rest h))

pub total_set : (k : ℕ) (views : List View) (port : ℕ) (v w : View) → get_elem? views port ≡ some v → total_of k (set views port w) + count_of k v.accounts ≡ total_of k views + count_of k w.accounts
total_set k [] port v w e = absurd (some-ne-none v (sym e))
total_set k (x ∷ xs) zero v w e = let h : count_of k x.accounts ≡ count_of k v.accounts = ap (λ (u : View). count_of k u.accounts) (some-injective x v e) in omega arith
total_set k (x ∷ xs) (suc port) v w e = let h = total_set k xs port v w e in omega arith

-- no pass has more accounts of a hand than all have together
pub one_of_total : (k : ℕ) (views : List View) (port : ℕ) (v : View) → get_elem? views port ≡ some v → count_of k v.accounts ≤ total_of k views
one_of_total k [] port v e = absurd (some-ne-none v (sym e))
one_of_total k (x ∷ xs) zero v e = let h : count_of k x.accounts ≡ count_of k v.accounts = ap (λ (u : View). count_of k u.accounts) (some-injective x v e) in omega arith
one_of_total k (x ∷ xs) (suc port) v e = let h = one_of_total k xs port v e in omega arith

pub two_of_total : (k : ℕ) (views : List View) (i j : ℕ) (v w : View) → i ≢ j → get_elem? views i ≡ some v → get_elem? views j ≡ some w → count_of k v.accounts + count_of k w.accounts ≤ total_of k views
two_of_total k [] i j v w n e f = absurd (some-ne-none v (sym e))
two_of_total k (x ∷ xs) zero zero v w n e f = absurd (n refl)
two_of_total k (x ∷ xs) zero (suc j) v w n e f =
    let h : count_of k x.accounts ≡ count_of k v.accounts = ap (λ (u : View). count_of k u.accounts) (some-injective x v e) in
    let l = one_of_total k xs j w f in omega arith
two_of_total k (x ∷ xs) (suc i) zero v w n e f =
    let h : count_of k x.accounts ≡ count_of k w.accounts = ap (λ (u : View). count_of k u.accounts) (some-injective x w f) in
    let l = one_of_total k xs i v e in omega arith
two_of_total k (x ∷ xs) (suc i) (suc j) v w n e f = let h = two_of_total k xs i j v w (λ q. n (ap suc q)) e f in omega arith

-- a step that leaves the accounts of a pass to the same hands leaves their count
pub same_total : (k : ℕ) (views : List View) (port : ℕ) (v w : View) → get_elem? views port ≡ some v → count_of k w.accounts ≡ count_of k v.accounts → total_of k (set views port w) ≡ total_of k views
same_total k views port v w at same = let h = total_set k views port v w at in omega arith

pub pushes : PushesKeep Kept
pushes v ts items views kept at =
    let w = after_push v ts in (
      w,
      record {
        gone = kept.gone;
        made = kept.made;
        owner = λ u e. ⊎_elim
            (λ (h : (0 ≡ 0) × (w ≡ u)).
            subst (λ (z : View). (z.pushed ≡ tokens kept.gone ++ (items ++ ts)) × (z.passes ≡ kept.made)) h.1
            (ap (λ l. l ++ ts) (kept.owner v at).0 ∙ append_assoc (tokens kept.gone) items ts, (kept.owner v at).1))
            (λ (h : (0 ≢ 0) × (get_elem? views 0 ≡ some u)). absurd (h.0 refl))
            (at_set views 0 0 w u e);
        accounts = λ port u e. ⊎_elim
            (λ (h : (port ≡ 0) × (w ≡ u)). subst (λ (z : View). All (IsTrueOf kept.gone) z.accounts) h.1 (kept.accounts 0 v at))
            (λ (h : (port ≢ 0) × (get_elem? views port ≡ some u)). kept.accounts port u h.1)
            (at_set views 0 port w u e);
        once = λ k. let s = same_total k views 0 v w at refl in let o = kept.once k in omega arith;
        unused = λ k l. same_total k views 0 v w at refl ∙ kept.unused k l;
        by_hands = kept.by_hands;
      },
      refl,
    )

pub takes : TakesKeep Kept
takes port v first rest is ts items views _ _ kept at =
    let k = first.hand in
    let w = after_take v ts in
    let gone = kept.gone ++ departures k ts in
    let mine : w.accounts ≡ account k (first.taken ++ ts) ∷ rest = ap (λ all. with_taken all ts) is in
    let same_count : (j : ℕ) → count_of j w.accounts ≡ count_of j v.accounts = λ j. ap (count_of j) mine ∙ sym (ap (count_of j) is) in
    let counted : count_of k v.accounts ≡ 1 + count_of k rest = ap (count_of k) is ∙ counted_first k first rest refl in
    let at_most = kept.once k in
    let among = one_of_total k views port v at in
    let rest_none : count_of k rest ≡ 0 = omega arith in
    let used : k < kept.made = lt_of_not-le (λ l. let none = kept.unused k l in absurd (omega arith)) in
    let was : All (IsTrueOf kept.gone) (first ∷ rest) = subst (λ (all : List Account). All (IsTrueOf kept.gone) all) is (kept.accounts port v at) in
    let now_first : first.taken ++ ts ≡ taken_by k gone =
    ap (λ l. l ++ ts) (all_first (IsTrueOf kept.gone) first rest was)
    ∙ sym (taken_by-append k kept.gone (departures k ts) ∙ ap (λ l. taken_by k kept.gone ++ l) (taken_by-own k ts)) in
    let now_rest = still_true k ts kept.gone rest rest_none (all_rest (IsTrueOf kept.gone) first rest was) in
    let now : All (IsTrueOf gone) w.accounts =
    subst (λ (all : List Account). All (IsTrueOf gone) all) (sym mine) (all_more (IsTrueOf gone) (account k (first.taken ++ ts)) rest now_first now_rest) in
    let next : tokens kept.gone ++ (ts ++ items) ≡ tokens gone ++ items =
    sym (append_assoc (tokens kept.gone) ts items)
    ∙ ap (λ l. l ++ items) (sym (tokens-append kept.gone (departures k ts) ∙ ap (λ l. tokens kept.gone ++ l) (tokens-departures k ts))) in (
      w,
      record {
        gone = gone;
        made = kept.made;
        owner = λ u e. ⊎_elim
            (λ (h : (0 ≡ port) × (w ≡ u)).
            let o = kept.owner v (subst (λ (p : ℕ). get_elem? views p ≡ some v) (sym h.0) at) in
            subst (λ (z : View). (z.pushed ≡ tokens gone ++ items) × (z.passes ≡ kept.made)) h.1 (o.0 ∙ next, o.1))
            (λ (h : (0 ≢ port) × (get_elem? views 0 ≡ some u)). ((kept.owner u h.1).0 ∙ next, (kept.owner u h.1).1))
            (at_set views port 0 w u e);
        accounts = λ j u e. ⊎_elim
            (λ (h : (j ≡ port) × (w ≡ u)). subst (λ (z : View). All (IsTrueOf gone) z.accounts) h.1 now)
            (λ (h : (j ≢ port) × (get_elem? views j ≡ some u)).
            let both = two_of_total k views j port u v h.0 h.1 at in
            still_true k ts kept.gone u.accounts (omega arith) (kept.accounts j u h.1))
            (at_set views port j w u e);
        once = λ j. let s = same_total j views port v w at (same_count j) in let o = kept.once j in omega arith;
        unused = λ j l. same_total j views port v w at (same_count j) ∙ kept.unused j l;
        by_hands = All-append (λ (d : Departure). d.hand < kept.made) kept.gone (departures k ts) kept.by_hands (by-departures kept.made k ts used);
      },
      refl,
    )
