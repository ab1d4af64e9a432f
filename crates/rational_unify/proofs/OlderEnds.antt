-- Where bindings lead from younger variables to older ones, so do chains.
use Rattle.std.proofs.Common.{◌≡◌, ℕ, zero, suc, [], ◌∷◌, List, ◌++◌, length, Option, Some, None, Bool, true, false, cond, refl, sym, ◌∙◌, ap, subst, ◌⊎◌, inl, inr, append_assoc}
use Rattle.std.proofs.lemmas.Cmp.{nat_cmp_total, on_total, then_total}
use Rattle.std.specs.Prelude.{option_map, slice_get}
use Rattle.std.specs.Cmp.{IsTotalOrder}
use Rattle.std.specs.declared.cmp.Ordering.TheVariants.{Less}
use Rattle.akl_terms.specs.declared.name.Var.{Var}
use Rattle.akl_terms.specs.declared.term.Node.{Node}
use Rattle.akl_terms.specs.declared.term.Term.{Term}
use Rattle.akl_terms.specs.Names.{same_var, var_cmp}
use Rattle.akl_terms.specs.Tree.{Tree, variable, integer, port, symbol}
use Rattle.akl_terms.specs.Solved.{Bindings, walk, follow}
use Rattle.akl_terms.specs.Template.{tree}
use Rattle.akl_terms.proofs.Arguments.{same_value}
use Rattle.akl_terms.proofs.SameNames.{same_var-equal}
use Rattle.rational_unify.specs.Known.{found_in, bound_in, IsSolved, end_of}
use Rattle.rational_unify.specs.Older.{LeadOlder, KeepsOlder, IsToOlder, EachOlder}
use Rattle.rational_unify.specs.Shortened.{Rebinds}
use Rattle.rational_unify.proofs.Chains.{found-first, found-second}
use Rattle.rational_unify.proofs.Shortening.{free-walk, changed}

older_total : IsTotalOrder var_cmp
older_total = then_total (then_total (on_total (λ (x : Var). x.frame.worker) nat_cmp_total) (on_total (λ (x : Var). x.frame.number) nat_cmp_total)) (on_total (λ (x : Var). x.index) nat_cmp_total)

module _ (nodes : List Node) (bs : List (Var × Term)) (h : LeadOlder nodes bs) where
  abbrev look : Bindings
  look = bound_in nodes bs

  bound-older : (x y : Var) → look x ≡ Some (variable y) → var_cmp y x ≡ Less
  bound-older x y e = on (found_in bs x) refl e
    where
      on : (o : Option Term) → found_in bs x ≡ o → option_map (tree nodes) o ≡ Some (variable y) → var_cmp y x ≡ Less
      on None p q = cc
      on (Some t) p q = h.each x y t p (same_value refl q)

  -- a chain from a term that is no variable, or an older one than x
  behind : (n : ℕ) (x y : Var) (u : Tree) → ((z : Var) → u ≡ variable z → var_cmp z x ≡ Less) → walk n look u ≡ variable y
      → ((z : Var) → walk n look (variable z) ≡ variable y → (y ≡ z) ⊎ (var_cmp y z ≡ Less)) → var_cmp y x ≡ Less
  behind n x y (variable z) o q f = elim (f z q) [
    | inl e ↦ subst (λ (v : Var). var_cmp v x ≡ Less) (sym e) (o z refl)
    | inr l ↦ older_total.trans y z x l (o z refl)
  ]
  behind n x y (integer z) o q f = let e : integer z ≡ variable y = sym (free-walk look n (integer z) tt) ∙ q in cc
  behind n x y (port z) o q f = let e : port z ≡ variable y = sym (free-walk look n (port z) tt) ∙ q in cc
  behind n x y (symbol s ts) o q f = let e : symbol s ts ≡ variable y = sym (free-walk look n (symbol s ts) tt) ∙ q in cc

  walk-older : (n : ℕ) (x y : Var) → walk n look (variable x) ≡ variable y → (y ≡ x) ⊎ (var_cmp y x ≡ Less)
  walk-older zero x y e = inl (let f : y ≡ x = cc in f)
  walk-older (suc n) x y e = on (look x) refl e (λ z. walk-older n z y)
    where
      on : (o : Option Tree) → look x ≡ o → follow (walk n look) (variable x) o ≡ variable y
          → ((z : Var) → walk n look (variable z) ≡ variable y → (y ≡ z) ⊎ (var_cmp y z ≡ Less)) → (y ≡ x) ⊎ (var_cmp y x ≡ Less)
      on None p q f = inl (let g : y ≡ x = cc in g)
      on (Some u) p q f = inr (behind n x y u (λ z e. bound-older x z (p ∙ ap Some e)) q f)

  -- a chain from one variable ends in it or in an older one
  pub end-older : (x y : Var) → end_of nodes bs (variable x) ≡ variable y → (y ≡ x) ⊎ (var_cmp y x ≡ Less)
  end-older = walk-older (suc (length bs))

  -- that of a bound variable ends in an older one
  pub bound_end-older : (x y : Var) (u : Tree) → look x ≡ Some u → end_of nodes bs (variable x) ≡ variable y → var_cmp y x ≡ Less
  bound_end-older x y u p e = behind (length bs) x y u (λ z q. bound-older x z (p ∙ ap Some q)) (sym (ap (follow (walk (length bs) look) (variable x)) p) ∙ e) (λ z. walk-older (length bs) z y)

  -- that of a term to which a variable may be bound
  pub term_end-older : (x y : Var) (t : Term) → IsToOlder nodes (x, t) → end_of nodes bs (tree nodes t) ≡ variable y → var_cmp y x ≡ Less
  term_end-older x y t o e = behind (suc (length bs)) x y (tree nodes t) o e (λ z. end-older z y)

-- both lists lead to older variables
pub LeadOlder-append : (nodes : List Node) (bs cs : List (Var × Term)) → LeadOlder nodes bs → LeadOlder nodes cs → LeadOlder nodes (bs ++ cs)
LeadOlder-append nodes bs cs h k = record { each = λ x y t e v. on x y t e v (found_in bs x) refl }
  where
    on : (x y : Var) (t : Term) → found_in (bs ++ cs) x ≡ Some t → tree nodes t ≡ variable y → (o : Option Term) → found_in bs x ≡ o → var_cmp y x ≡ Less
    on x y t e v None p = k.each x y t (sym (found-second bs cs x p) ∙ e) v
    on x y t e v (Some u) p = h.each x y t (p ∙ sym (found-first bs cs x u p) ∙ e) v

pub LeadOlder-one : (nodes : List Node) (x : Var) (t : Term) → IsToOlder nodes (x, t) → LeadOlder nodes ((x, t) ∷ [])
LeadOlder-one nodes x t f = record { each = λ z y u e v. on z y u v (same_var x z) refl e }
  where
    on : (z y : Var) (u : Term) → tree nodes u ≡ variable y → (k : Bool) → same_var x z ≡ k
        → option_map (λ (p : Var × Term). p.1) (cond k (Some (x, t)) None) ≡ Some u → var_cmp y z ≡ Less
    on z y u v true p e = subst (λ (w : Var). var_cmp y w ≡ Less) (same_var-equal x z p) (f y (ap (tree nodes) (same_value refl e) ∙ v))
    on z y u v false p e = cc

-- one more binding, which leads to an older variable where it leads to one
pub one_more-older : (nodes : List Node) (known old new : List (Var × Term)) (x : Var) (t : Term) → new ≡ old ++ (x, t) ∷ []
    → IsToOlder nodes (x, t) → KeepsOlder nodes (known ++ old) (known ++ new)
one_more-older nodes known old new x t e f h = subst (LeadOlder nodes) (append_assoc known old ((x, t) ∷ []) ∙ ap (λ (l : List (Var × Term)). known ++ l) (sym e))
    (LeadOlder-append nodes (known ++ old) ((x, t) ∷ []) h (LeadOlder-one nodes x t f))

-- a variable on a chain is bound to the chain's end
module _ (nodes : List Node) (known old new : List (Var × Term)) (x : Var) (u : Term) (s : IsSolved nodes (known ++ old)) (r : Rebinds old new x u)
    (at_end : tree nodes u ≡ end_of nodes (known ++ old) (variable x)) where
  pub rebound-older : KeepsOlder nodes (known ++ old) (known ++ new)
  rebound-older h = record { each = λ y z t e v. each y z (ap (option_map (tree nodes)) e ∙ ap Some v) }
    where
      each : (y z : Var) → bound_in nodes (known ++ new) y ≡ Some (variable z) → var_cmp z y ≡ Less
      each y z e = elim (changed nodes known old new x u s r at_end y) [
        | inl p ↦ bound-older nodes (known ++ old) h y z (sym p ∙ e)
        | inr p ↦ bound_end-older nodes (known ++ old) h y z p.2.0 p.2.1 (ap (λ (w : Var). end_of nodes (known ++ old) (variable w)) p.0 ∙ sym at_end ∙ same_value p.1 e)
      ]

-- where each binding leads to an older variable, those that are found do
pub EachOlder-found : (nodes : List Node) (bs : List (Var × Term)) → EachOlder nodes bs → LeadOlder nodes bs
EachOlder-found nodes [] h = record { each = λ x y t e v. cc }
EachOlder-found nodes (b ∷ bs) h = LeadOlder-append nodes (b ∷ []) bs (LeadOlder-one nodes b.0 b.1 h.0) (EachOlder-found nodes bs h.1)

pub EachOlder-at : (nodes : List Node) (bs : List (Var × Term)) (i : ℕ) (b : Var × Term) → EachOlder nodes bs → slice_get bs i ≡ Some b → IsToOlder nodes b
EachOlder-at nodes [] i b h e = cc
EachOlder-at nodes (c ∷ bs) zero b h e = subst (IsToOlder nodes) (same_value refl e) h.0
EachOlder-at nodes (c ∷ bs) (suc i) b h e = EachOlder-at nodes bs i b h.1 e

pub EachOlder-push : (nodes : List Node) (bs : List (Var × Term)) (b : Var × Term) → EachOlder nodes bs → IsToOlder nodes b → EachOlder nodes (bs ++ b ∷ [])
EachOlder-push nodes [] b h o = (o, tt)
EachOlder-push nodes (c ∷ bs) b h o = (h.0, EachOlder-push nodes bs b h.1 o)
