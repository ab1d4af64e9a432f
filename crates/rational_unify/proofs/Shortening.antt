-- Bindings that lead on to where longer chains led.
use Rattle.std.proofs.Common.{◌≡◌, ℕ, zero, suc, ◌<◌, ◌≤◌, [], ◌∷◌, List, ◌++◌, length, map, Option, Some, None, Bool, true, false, cond, refl, sym, ◌∙◌, ap, subst, ◌⊎◌, inl, inr, arith, length-append}
use Rattle.std.specs.Prelude.{option_map}
use Rattle.akl_terms.specs.declared.name.Var.{Var}
use Rattle.akl_terms.specs.declared.term.Node.{Node}
use Rattle.akl_terms.specs.declared.term.Term.{Term}
use Rattle.akl_terms.specs.Names.{same_var}
use Rattle.akl_terms.specs.Tree.{Tree, variable, integer, port, symbol}
use Rattle.akl_terms.specs.Solved.{Bindings, walk, follow, steps, steps_on, EndsWithin}
use Rattle.akl_terms.specs.Template.{tree}
use Rattle.rational_unify.specs.Known.{found_in, bound_in, IsSolved, end_of}
use Rattle.rational_unify.specs.Shortened.{Rebinds, KeepsEnds}
use Rattle.rational_unify.specs.Solving.{BindNew}
use Rattle.akl_terms.proofs.Arguments.{same_value}
use Rattle.rational_unify.proofs.Walks.{IsFree, walk-bound, bound_falls, walk-free, walk-again, free-steps}
use Rattle.akl_terms.proofs.SameNames.{same_var-equal}
use Rattle.rational_unify.proofs.Chains.{found-first, found-second, found-none}

-- the same variables are bound, and each new binding leads further along the old chain
pub record Shortens (n : ℕ) (old new : Bindings) : Type 0 where
  pub bound : (x : Var) → new x ≡ None → old x ≡ None
  pub ends : (x : Var) (t : Tree) → new x ≡ Some t → walk (suc n) old t ≡ walk (suc n) old (variable x)
  pub nearer : (x : Var) (t : Tree) → new x ≡ Some t → steps (suc n) old t < steps (suc n) old (variable x)

pub free-walk : (look : Bindings) (n : ℕ) (t : Tree) → IsFree look t → walk n look t ≡ t
free-walk look zero t h = refl
free-walk look (suc n) (variable x) h = ap (follow (walk n look) (variable x)) h
free-walk look (suc n) (integer z) h = refl
free-walk look (suc n) (port p) h = refl
free-walk look (suc n) (symbol f ts) h = refl

module _ (n : ℕ) (old new : Bindings) (h : Shortens n old new) where
  pub shorter-steps : (m : ℕ) (t : Tree) → steps m new t ≤ steps (suc n) old t
  shorter-steps zero t = omega arith
  shorter-steps (suc m) (integer z) = omega arith
  shorter-steps (suc m) (port p) = omega arith
  shorter-steps (suc m) (symbol f ts) = omega arith
  shorter-steps (suc m) (variable x) = on (new x) refl (λ u. shorter-steps m u)
    where
      on : (o : Option Tree) → new x ≡ o → ((u : Tree) → steps m new u ≤ steps (suc n) old u) → steps_on (steps m new) o ≤ steps (suc n) old (variable x)
      on None e f = omega arith
      on (Some u) e f =
          let a : steps m new u ≤ steps (suc n) old u = f u in
          let b : steps (suc n) old u < steps (suc n) old (variable x) = h.nearer x u e in
          omega arith

  free_before : (t : Tree) → IsFree new t → IsFree old t
  free_before (variable x) f = h.bound x f
  free_before (integer z) f = tt
  free_before (port p) f = tt
  free_before (symbol f ts) g = tt

  along : (m : ℕ) (t : Tree) → walk (suc n) old (walk m new t) ≡ walk (suc n) old t
  along zero t = refl
  along (suc m) (integer z) = refl
  along (suc m) (port p) = refl
  along (suc m) (symbol f ts) = refl
  along (suc m) (variable x) = on (new x) refl (λ u. along m u)
    where
      on : (o : Option Tree) → new x ≡ o → ((u : Tree) → walk (suc n) old (walk m new u) ≡ walk (suc n) old u)
          → walk (suc n) old (follow (walk m new) (variable x) o) ≡ walk (suc n) old (variable x)
      on None e f = refl
      on (Some u) e f = f u ∙ h.ends x u e

  module _ (ends : EndsWithin n old) where
    pub shorter-ends : EndsWithin n new
    shorter-ends t =
        let a : steps (suc n) new t ≤ steps (suc n) old t = shorter-steps (suc n) t in
        let b : steps (suc n) old t ≤ n = ends t in
        omega arith

    pub shorter-walk : (t : Tree) → walk (suc n) new t ≡ walk (suc n) old t
    shorter-walk t = sym (free-walk old (suc n) (walk (suc n) new t) (free_before (walk (suc n) new t) (walk-free new n t (shorter-ends t)))) ∙ along (suc n) t

pub length-variables : (xs ys : List (Var × Term)) → map (λ (b : Var × Term). b.0) xs ≡ map (λ (b : Var × Term). b.0) ys → length xs ≡ length ys
length-variables [] [] e = refl
length-variables [] (y ∷ ys) e = cc
length-variables (x ∷ xs) [] e = cc
length-variables (x ∷ xs) (y ∷ ys) e = ap suc (length-variables xs ys (cc))

pub length-both : (known xs ys : List (Var × Term)) → map (λ (b : Var × Term). b.0) xs ≡ map (λ (b : Var × Term). b.0) ys → length (known ++ xs) ≡ length (known ++ ys)
length-both known xs ys e = let h : length xs ≡ length ys = length-variables xs ys e in omega (arith, length-append {A = Var × Term})

-- a variable on a chain is bound to the chain's end
module _ (nodes : List Node) (known old new : List (Var × Term)) (x : Var) (u : Term) (h : IsSolved nodes (known ++ old)) (r : Rebinds old new x u)
    (at_end : tree nodes u ≡ end_of nodes (known ++ old) (variable x)) where
  abbrev before : Bindings
  before = bound_in nodes (known ++ old)

  abbrev after : Bindings
  after = bound_in nodes (known ++ new)

  abbrev n : ℕ
  n = length (known ++ old)

  -- a binding stays, or is the new one
  pub changed : (y : Var) → (after y ≡ before y) ⊎ ((y ≡ x) × (after y ≡ Some (tree nodes u)) × ((v : Tree) × (before y ≡ Some v)))
  changed y = on (found_in known y) refl
    where
      both : (o : Option Term) → found_in old y ≡ o → found_in known y ≡ None
          → (after y ≡ before y) ⊎ ((y ≡ x) × (after y ≡ Some (tree nodes u)) × ((v : Tree) × (before y ≡ Some v)))
      both None q p = inl (ap (option_map (tree nodes)) (found-second known new y p ∙ r.found y ∙ ap (option_map (λ w. cond (same_var x y) u w)) q ∙ sym q ∙ sym (found-second known old y p)))
      both (Some w) q p = at (same_var x y) refl
        where
          now : found_in (known ++ new) y ≡ Some (cond (same_var x y) u w)
          now = found-second known new y p ∙ r.found y ∙ ap (option_map (λ v. cond (same_var x y) u v)) q

          was : found_in (known ++ old) y ≡ Some w
          was = found-second known old y p ∙ q

          at : (k : Bool) → same_var x y ≡ k → (after y ≡ before y) ⊎ ((y ≡ x) × (after y ≡ Some (tree nodes u)) × ((v : Tree) × (before y ≡ Some v)))
          at true e = inr (sym (same_var-equal x y e), ap (option_map (tree nodes)) (now ∙ ap (λ k. Some (cond k u w)) e), (tree nodes w, ap (option_map (tree nodes)) was))
          at false e = inl (ap (option_map (tree nodes)) (now ∙ ap (λ k. Some (cond k u w)) e ∙ sym was))

      on : (o : Option Term) → found_in known y ≡ o → (after y ≡ before y) ⊎ ((y ≡ x) × (after y ≡ Some (tree nodes u)) × ((v : Tree) × (before y ≡ Some v)))
      on (Some w) p = inl (ap (option_map (tree nodes)) (found-first known new y w p ∙ sym (found-first known old y w p)))
      on None p = both (found_in old y) refl p

  end_free : IsFree before (tree nodes u)
  end_free = subst (IsFree before) (sym at_end) (walk-free before n (variable x) (h.ends (variable x)))

  pub rebound-shortens : Shortens n before after
  rebound-shortens = record { bound = bound; ends = ends; nearer = nearer }
    where
      bound : (y : Var) → after y ≡ None → before y ≡ None
      bound y e = elim (changed y) [ inl p ↦ sym p ∙ e | inr p ↦ let q : Some (tree nodes u) ≡ None = sym p.1 ∙ e in cc ]

      ends : (y : Var) (t : Tree) → after y ≡ Some t → walk (suc n) before t ≡ walk (suc n) before (variable y)
      ends y t e = elim (changed y) [
        | inl p ↦ sym (walk-bound before n y t h.ends (sym p ∙ e))
        | inr p ↦ ap (walk (suc n) before) (same_value e p.1 ∙ at_end) ∙ sym (walk-again before n h.ends (variable x)) ∙ ap (λ z. walk (suc n) before (variable z)) (sym p.0)
      ]

      nearer : (y : Var) (t : Tree) → after y ≡ Some t → steps (suc n) before t < steps (suc n) before (variable y)
      nearer y t e = elim (changed y) [
        | inl p ↦ bound_falls before n y t h.ends (sym p ∙ e)
        | inr p ↦
            let a : steps (suc n) before t ≡ 0 = ap (steps (suc n) before) (same_value e p.1) ∙ free-steps before (suc n) (tree nodes u) end_free in
            let b : steps (suc n) before (variable y) ≡ suc (steps n before p.2.0) = ap (steps_on (steps n before)) p.2.1 in
            omega arith
      ]

  pub rebound-keeps : KeepsEnds nodes known old new
  rebound-keeps = record {
    variables = r.variables;
    solved = record { ends = subst (λ k. EndsWithin k after) (sym (length-both known new old r.variables)) (shorter-ends n before after rebound-shortens h.ends) };
    ends = λ t. ap (λ k. walk (suc k) after t) (length-both known new old r.variables) ∙ shorter-walk n before after rebound-shortens h.ends t;
  }

  pub rebound-steps : (t : Tree) → steps (suc (length (known ++ new))) after t ≤ steps (suc n) before t
  rebound-steps t = shorter-steps n before after rebound-shortens (suc (length (known ++ new))) t

pub KeepsEnds-refl : (nodes : List Node) (known added : List (Var × Term)) → IsSolved nodes (known ++ added) → KeepsEnds nodes known added added
KeepsEnds-refl nodes known added h = record { variables = refl; solved = h; ends = λ t. refl }

pub KeepsEnds-on : (nodes : List Node) (known bs cs ds : List (Var × Term)) → KeepsEnds nodes known bs cs → KeepsEnds nodes known cs ds → KeepsEnds nodes known bs ds
KeepsEnds-on nodes known bs cs ds h k = record { variables = k.variables ∙ h.variables; solved = k.solved; ends = λ t. k.ends t ∙ h.ends t }

-- bindings of the same variables are as new
pub BindNew-variables : (ks ls bs cs : List (Var × Term)) → ((y : Var) → found_in ks y ≡ None → found_in ls y ≡ None)
    → map (λ (b : Var × Term). b.0) cs ≡ map (λ (b : Var × Term). b.0) bs → BindNew ks bs → BindNew ls cs
BindNew-variables ks ls [] [] f e h = tt
BindNew-variables ks ls [] (c ∷ cs) f e h = cc
BindNew-variables ks ls (b ∷ bs) [] f e h = cc
BindNew-variables ks ls (b ∷ bs) (c ∷ cs) f e h = (
  ap (found_in ls) same ∙ f b.0 h.0,
  BindNew-variables (ks ++ b ∷ []) (ls ++ c ∷ []) bs cs more (cc) h.1,
)
  where
    same : c.0 ≡ b.0
    same = cc

    one : (y : Var) (k : Bool) → same_var b.0 y ≡ k → option_map (λ (p : Var × Term). p.1) (cond k (Some b) None) ≡ None → found_in (c ∷ []) y ≡ None
    one y true p q = cc
    one y false p q = ap (λ k. option_map (λ (p : Var × Term). p.1) (cond k (Some c) None)) (ap (λ z. same_var z y) same ∙ p)

    more : (y : Var) → found_in (ks ++ b ∷ []) y ≡ None → found_in (ls ++ c ∷ []) y ≡ None
    more y q = let w : (found_in ks y ≡ None) × (found_in (b ∷ []) y ≡ None) = found-none ks (b ∷ []) y q in
        found-second ls (c ∷ []) y (f y w.0) ∙ one y (same_var b.0 y) refl w.1

pub KeepsEnds-new : (nodes : List Node) (known old new : List (Var × Term)) → KeepsEnds nodes known old new → BindNew known old → BindNew known new
KeepsEnds-new nodes known old new k h = BindNew-variables known known old new (λ y e. e) k.variables h
