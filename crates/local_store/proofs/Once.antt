-- Bindings of which no two are of one variable.
use Rattle.std.proofs.Common.{◌≡◌, ℕ, zero, suc, ◌+◌, ◌≤◌, List, [], ◌∷◌, ◌++◌, Option, Some, None, Bool, true, false, cond, if◌then◌else◌, refl, sym, ap, subst, ◌∙◌, arith, append_assoc, append-nil}
use Rattle.std.specs.Prelude.{option_map, find}
use Rattle.akl_terms.specs.declared.name.Var.{Var}
use Rattle.akl_terms.specs.declared.term.Term.{Term}
use Rattle.akl_terms.specs.Names.{same_var}
use Rattle.akl_terms.proofs.SameNames.{same_var-equal, same_var-refl}
use Rattle.rational_unify.specs.Known.{found_in}
use Rattle.rational_unify.specs.Solving.{BindNew}
use Rattle.rational_unify.proofs.Chains.{found-first, found-second}
use Rattle.local_store.specs.Stored.{var_before, joined, joins}
use Rattle.local_store.specs.Chained.{times_bound, BindOnce}

pub times-append : (x : Var) (bs cs : List (Var × Term)) → times_bound x (bs ++ cs) ≡ times_bound x bs + times_bound x cs
times-append x [] cs = omega arith
times-append x (b ∷ bs) cs = let h : times_bound x (bs ++ cs) ≡ times_bound x bs + times_bound x cs = times-append x bs cs in omega arith

-- one in its place
times-joined : (x : Var) (bs : List (Var × Term)) (y : Var) (t : Term) → times_bound x (joined bs y t) ≡ cond (same_var y x) 1 0 + times_bound x bs
times-joined x [] y t = refl
times-joined x (b ∷ bs) y t = on (var_before y b.0) (times-joined x bs y t)
  where
    on : (k : Bool) → times_bound x (joined bs y t) ≡ cond (same_var y x) 1 0 + times_bound x bs
        → times_bound x (if k then ((y, t) ∷ b ∷ bs) else (b ∷ joined bs y t)) ≡ cond (same_var y x) 1 0 + times_bound x (b ∷ bs)
    on true h = refl
    on false h = omega arith

pub times-joins : (x : Var) (bs more : List (Var × Term)) → times_bound x (joins bs more) ≡ times_bound x bs + times_bound x more
times-joins x bs [] = omega arith
times-joins x bs ((y, t) ∷ more) =
    let h : times_bound x (joins (joined bs y t) more) ≡ times_bound x (joined bs y t) + times_bound x more = times-joins x (joined bs y t) more in
    let g : times_bound x (joined bs y t) ≡ cond (same_var y x) 1 0 + times_bound x bs = times-joined x bs y t in
    omega arith

-- a variable without a binding has none of them
pub times-none : (x : Var) (bs : List (Var × Term)) → found_in bs x ≡ None → times_bound x bs ≡ 0
times-none x [] e = refl
times-none x (b ∷ bs) e = on (same_var b.0 x) e (times-none x bs)
  where
    on : (k : Bool) → option_map (λ (p : Var × Term). p.1) (cond k (Some b) (find (λ p. same_var p.0 x) bs)) ≡ None → (found_in bs x ≡ None → times_bound x bs ≡ 0) → cond k 1 0 + times_bound x bs ≡ 0
    on true q f = cc
    on false q f = let h : times_bound x bs ≡ 0 = f q in omega arith

none-times : (x : Var) (bs : List (Var × Term)) → times_bound x bs ≡ 0 → found_in bs x ≡ None
none-times x [] e = refl
none-times x (b ∷ bs) e = on (same_var b.0 x) e (none-times x bs)
  where
    on : (k : Bool) → cond k 1 0 + times_bound x bs ≡ 0 → (times_bound x bs ≡ 0 → found_in bs x ≡ None) → option_map (λ (p : Var × Term). p.1) (cond k (Some b) (find (λ p. same_var p.0 x) bs)) ≡ None
    on true q f = absurd (omega arith)
    on false q f = f (omega arith)

-- the same in another order
pub once-as : (bs cs : List (Var × Term)) → ((x : Var) → times_bound x bs ≡ times_bound x cs) → BindOnce bs → BindOnce cs
once-as bs cs same h = record { each = λ x. let e : times_bound x bs ≡ times_bound x cs = same x in let l : times_bound x bs ≤ 1 = h.each x in omega arith }

once-push : (bs : List (Var × Term)) (b : Var × Term) → found_in bs b.0 ≡ None → BindOnce bs → BindOnce (bs ++ b ∷ [])
once-push bs b n h = record { each = λ x. on x (same_var b.0 x) refl }
  where
    on : (x : Var) (k : Bool) → same_var b.0 x ≡ k → times_bound x (bs ++ b ∷ []) ≤ 1
    on x true e =
        let p : times_bound x (bs ++ b ∷ []) ≡ times_bound x bs + times_bound x (b ∷ []) = times-append x bs (b ∷ []) in
        let q : times_bound x (b ∷ []) ≡ 1 = ap (λ (k : Bool). cond k 1 0 + 0) e in
        let z : times_bound x bs ≡ 0 = times-none x bs (subst (λ (y : Var). found_in bs y ≡ None) (same_var-equal b.0 x e) n) in
        omega arith
    on x false e =
        let p : times_bound x (bs ++ b ∷ []) ≡ times_bound x bs + times_bound x (b ∷ []) = times-append x bs (b ∷ []) in
        let q : times_bound x (b ∷ []) ≡ 0 = ap (λ (k : Bool). cond k 1 0 + 0) e in
        let l : times_bound x bs ≤ 1 = h.each x in
        omega arith

-- new bindings bind no variable again
once-more : (bs more : List (Var × Term)) → BindNew bs more → BindOnce bs → BindOnce (bs ++ more)
once-more bs [] n h = subst BindOnce (sym (append-nil bs)) h
once-more bs (b ∷ more) n h = subst BindOnce (append_assoc bs (b ∷ []) more) (once-more (bs ++ b ∷ []) more n.1 (once-push bs b n.0 h))

-- each in its place
pub once-joins : (bs cs more : List (Var × Term)) → BindNew (bs ++ cs) more → BindOnce (bs ++ cs) → BindOnce (joins bs more ++ cs)
once-joins bs cs more n h = once-as ((bs ++ cs) ++ more) (joins bs more ++ cs) (λ x.
    let p : times_bound x ((bs ++ cs) ++ more) ≡ times_bound x (bs ++ cs) + times_bound x more = times-append x (bs ++ cs) more in
    let q : times_bound x (bs ++ cs) ≡ times_bound x bs + times_bound x cs = times-append x bs cs in
    let r : times_bound x (joins bs more ++ cs) ≡ times_bound x (joins bs more) + times_bound x cs = times-append x (joins bs more) cs in
    let s : times_bound x (joins bs more) ≡ times_bound x bs + times_bound x more = times-joins x bs more in
    omega arith) (once-more (bs ++ cs) more n h)

-- where no variable is bound twice, those of a part are new to the other part
pub new-once : (bs more : List (Var × Term)) → BindOnce (more ++ bs) → BindNew bs more
new-once bs [] h = tt
new-once bs (b ∷ more) h = (
  none-times b.0 bs (
      let l : times_bound b.0 (b ∷ more ++ bs) ≤ 1 = h.each b.0 in
      let e : times_bound b.0 (more ++ bs) ≡ times_bound b.0 more + times_bound b.0 bs = times-append b.0 more bs in
      omega (arith, ap (λ (k : Bool). cond {A = ℕ} k 1 0) (same_var-refl b.0))
      ),
  new-once (bs ++ b ∷ []) more (once-as (b ∷ more ++ bs) (more ++ (bs ++ b ∷ [])) (λ x.
      let e : times_bound x (more ++ bs) ≡ times_bound x more + times_bound x bs = times-append x more bs in
      let f : times_bound x (more ++ (bs ++ b ∷ [])) ≡ times_bound x more + times_bound x (bs ++ b ∷ []) = times-append x more (bs ++ b ∷ []) in
      let g : times_bound x (bs ++ b ∷ []) ≡ times_bound x bs + times_bound x (b ∷ []) = times-append x bs (b ∷ []) in
      let n : times_bound x (b ∷ []) ≡ cond (same_var b.0 x) 1 0 + 0 = refl in
      omega arith) h),
)

pub once-second : (bs cs : List (Var × Term)) → BindOnce (bs ++ cs) → BindOnce cs
once-second bs cs h = record { each = λ x. let e : times_bound x (bs ++ cs) ≡ times_bound x bs + times_bound x cs = times-append x bs cs in let l : times_bound x (bs ++ cs) ≤ 1 = h.each x in omega arith }

-- and the same is found with the parts the other way round
pub once-found : (bs cs : List (Var × Term)) → BindOnce (bs ++ cs) → (x : Var) → found_in (bs ++ cs) x ≡ found_in (cs ++ bs) x
once-found bs cs h x = on (found_in bs x) refl (found_in cs x) refl
  where
    some : (ds : List (Var × Term)) (t : Term) → found_in ds x ≡ Some t → 1 ≤ times_bound x ds
    some ds t e = at (times_bound x ds) refl
      where
        at : (n : ℕ) → times_bound x ds ≡ n → 1 ≤ n
        at zero z = let q : None ≡ Some t = sym (none-times x ds z) ∙ e in cc
        at (suc n) z = omega arith

    on : (o : Option Term) → found_in bs x ≡ o → (p : Option Term) → found_in cs x ≡ p → found_in (bs ++ cs) x ≡ found_in (cs ++ bs) x
    on None e None f = found-second bs cs x e ∙ f ∙ sym (found-second cs bs x f ∙ e)
    on None e (Some u) f = found-second bs cs x e ∙ f ∙ sym (found-first cs bs x u f)
    on (Some t) e None f = found-first bs cs x t e ∙ sym (found-second cs bs x f ∙ e)
    on (Some t) e (Some u) f =
        let l : times_bound x (bs ++ cs) ≤ 1 = h.each x in
        let q : times_bound x (bs ++ cs) ≡ times_bound x bs + times_bound x cs = times-append x bs cs in
        let m : 1 ≤ times_bound x bs = some bs t e in
        let n : 1 ≤ times_bound x cs = some cs u f in
        absurd (omega arith)
