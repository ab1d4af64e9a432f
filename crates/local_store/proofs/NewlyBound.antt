-- What is bound or made equal where bindings are added to a solved form.
use Rattle.std.proofs.Common.{◌≡◌, ◌≢◌, List, [], ◌∷◌, ◌++◌, Option, Some, None, Bool, true, false, cond, refl, sym, ap, subst, ◌∙◌, ◌⊎◌, inl, inr, append_assoc}
use Rattle.std.specs.Prelude.{option_map, find}
use Rattle.akl_terms.specs.declared.name.Var.{Var}
use Rattle.akl_terms.specs.declared.term.Node.{Node}
use Rattle.akl_terms.specs.declared.term.Term.{Term}
use Rattle.akl_terms.specs.Names.{same_var}
use Rattle.akl_terms.specs.Tree.{Tree, variable, integer, port, symbol, head_of}
use Rattle.akl_terms.specs.Equal.{Equations, IsTold, Equal, told, turned, IsConsistent, IsStructured}
use Rattle.akl_terms.specs.Standing.{StandFor}
use Rattle.akl_terms.proofs.SameNames.{same_var-equal, same_var-refl}
use Rattle.akl_terms.proofs.EqualLaws.{EqualBy-follows, IsConsistent-follows}
use Rattle.akl_terms.proofs.StandingLaws.{StandFor-back}
use Rattle.constraint_laws.specs.Bound.{IsNewlyBound}
use Rattle.constraint_laws.specs.StandingGrows.{AreToldIn}
use Rattle.constraint_laws.specs.Touched.{IsAmong}
use Rattle.constraint_laws.proofs.Stands.{newly_bound_stands, variable_stands}
use Rattle.rational_unify.specs.Known.{found_in, end_of}
use Rattle.rational_unify.specs.Solving.{BindNew}
use Rattle.rational_unify.specs.Forms.{IsFormOf}
use Rattle.rational_unify.proofs.Chains.{found-second, found-none}
use Rattle.rational_unify.proofs.FormLaws.{form-stays, form-consistent}
use Rattle.rational_unify.proofs.Stands.{HasHead}
use Rattle.local_store.specs.Bound.{AreNewlyBound, variable_in, bound_by}
use Rattle.local_store.proofs.Among.{among-either, among-left, among-right}
use Rattle.local_store.proofs.Layers.{end-extends}
use Rattle.local_store.proofs.FormEnds.{end-free, end_unbound, unheaded, has_head, no_head, unstructured, structured, structured-has, one_class, one_end, equal_to_end}

-- nothing is listed where all together is inconsistent
pub none_bound : (O E G : Equations) → (IsConsistent G → ⊥) → AreNewlyBound O E G []
none_bound O E G bad = record { consistent = λ y m. absurd m; each = λ y m. absurd m; every = λ c x b. absurd (bad c) }

-- what stands for equations binds what they bind
module _ (O E G P F H : Equations) (outer : StandFor (IsTold O) (IsTold P)) (old : StandFor (IsTold E) (IsTold F)) (new : StandFor (IsTold G) (IsTold H)) (first : AreToldIn O E) (before : IsConsistent G → IsConsistent E) where
  outermost : IsConsistent G → IsConsistent O
  outermost c = IsConsistent-follows (record { each = λ m. told (first.each _ _ m) }) (before c)

  pub bound_stands : (list : List Var) → AreNewlyBound O E G list → AreNewlyBound P F H list
  bound_stands list h = record {
    consistent = λ y m. new.to (h.consistent y m);
    each = λ y m. newly_bound_stands E G F H (record { stands = old; consistent = before (h.consistent y m) }) (record { stands = new; consistent = h.consistent y m }) y (h.each y m);
    every = λ c x b. every (new.back c) c x b;
  }
    where
      every : IsConsistent G → IsConsistent H → (x : Var) → IsNewlyBound F H x → (y : Var) × IsAmong y list × Equal P (variable x) (variable y)
      every c d x b =
          let back : IsNewlyBound E G x = newly_bound_stands F H E G (record { stands = StandFor-back old; consistent = old.to (before c) }) (record { stands = StandFor-back new; consistent = d }) x b in
          let w : (y : Var) × IsAmong y list × Equal O (variable x) (variable y) = h.every c x back in
          let free : IsStructured O x → ⊥ = λ s. back.unstructured (s.0, s.1, EqualBy-follows (λ s t m. told (first.each s t m)) s.2, s.3) in
          (w.0, w.1, turned (variable_stands O P (record { stands = outer; consistent = outermost c }) (variable w.0) x free (turned w.2)))

same_among : (t : Tree) (y : Var) → IsAmong y (variable_in t) → t ≡ variable y
same_among (variable x) y (inl e) = ap variable (sym e)
same_among (variable x) y (inr m) = absurd m
same_among (integer z) y m = absurd m
same_among (port p) y m = absurd m
same_among (symbol f ts) y m = absurd m

module _ (nodes : List Node) (bs more : List (Var × Term)) (E G : Equations) (f : IsFormOf nodes bs (IsTold E)) (g : IsFormOf nodes (bs ++ more) (IsTold G)) (fresh : BindNew bs more) where
  end_of_end : (t : Tree) → end_of nodes (bs ++ more) t ≡ end_of nodes (bs ++ more) (end_of nodes bs t)
  end_of_end t = end-extends nodes bs more g.solved t

  -- a variable that has come to be bound
  record Bound (x : Var) : Type 0 where
    pub before : found_in bs x ≡ None
    pub to : Term
    pub now : found_in (bs ++ more) x ≡ Some to

  module _ (x : Var) (b : Bound x) where
    free : end_of nodes bs (variable x) ≡ variable x
    free = end-free nodes bs x b.before

    -- its chain ends in a variable that isn't bound, so in another one
    module _ (r : Var) (e : end_of nodes (bs ++ more) (variable x) ≡ variable r) where
      end_free : found_in (bs ++ more) r ≡ None
      end_free = end_unbound nodes (bs ++ more) (IsTold G) g x r e

      end_before : end_of nodes bs (variable r) ≡ variable r
      end_before = end-free nodes bs r (found-none bs more r end_free).0

      other : x ≢ r
      other p = let z : None ≡ Some b.to = sym end_free ∙ ap (found_in (bs ++ more)) (sym p) ∙ b.now in cc

      made_equal : Equal G (variable x) (variable r)
      made_equal = equal_to_end nodes (bs ++ more) G g x r e

      apart : Equal E (variable x) (variable r) → ⊥
      apart q =
          let p : variable x ≡ variable r = sym free ∙ one_end nodes bs E f x r x free q ∙ end_before in
          other (cc)

      end_bound : IsNewlyBound E G r
      end_bound = record { unstructured = unstructured nodes bs E f r r end_before; told = inr (x, turned made_equal, λ q. apart (turned q)) }

      to_end : IsStructured G x ⊎ ((y : Var) × Equal G (variable x) (variable y) × (Equal E (variable x) (variable y) → ⊥))
      to_end = inr (r, made_equal, apart)

    key_bound : IsNewlyBound E G x
    key_bound = record {
      unstructured = unstructured nodes bs E f x x free;
      told = elim (has_head (end_of nodes (bs ++ more) (variable x))) [
        | inl h ↦ inl (structured nodes (bs ++ more) G g x h)
        | inr n ↦ let w : (r : Var) × (end_of nodes (bs ++ more) (variable x) ≡ variable r) = unheaded (end_of nodes (bs ++ more) (variable x)) n in to_end w.0 w.1
      ];
    }

  -- the variables of these bindings have come to be bound
  abbrev AreBound : List (Var × Term) → Type 0
  AreBound [] = Unit {0}
  AreBound (b ∷ cs) = Bound b.0 × AreBound cs

  are_bound : (ks cs : List (Var × Term)) → ((y : Var) → found_in ks y ≡ None → found_in bs y ≡ None) → ks ++ cs ≡ bs ++ more → BindNew ks cs → AreBound cs
  are_bound ks [] old e h = tt
  are_bound ks (b ∷ cs) old e h = (
    record { before = old b.0 h.0; to = b.1; now = sym (ap (λ (l : List (Var × Term)). found_in l b.0) e) ∙ found-second ks (b ∷ cs) b.0 h.0 ∙ here (same_var b.0 b.0) (same_var-refl b.0) },
    are_bound (ks ++ b ∷ []) cs (λ y n. old y (found-none ks (b ∷ []) y n).0) (append_assoc ks (b ∷ []) cs ∙ e) h.1,
  )
    where
      here : (k : Bool) → k ≡ true → option_map (λ (p : Var × Term). p.1) (cond k (Some b) (find (λ p. same_var p.0 b.0) cs)) ≡ Some b.1
      here true q = refl
      here false q = cc

  each_of : (cs : List (Var × Term)) → AreBound cs → (y : Var) → IsAmong y (bound_by nodes (bs ++ more) cs) → IsNewlyBound E G y
  each_of [] h y m = absurd m
  each_of (b ∷ cs) h y (inl e) = subst (IsNewlyBound E G) (sym e) (key_bound b.0 h.0)
  each_of (b ∷ cs) h y (inr m) = elim (among-either (variable_in (end_of nodes (bs ++ more) (variable b.0))) (bound_by nodes (bs ++ more) cs) y m) [
    | inl k ↦ end_bound b.0 h.0 y (same_among (end_of nodes (bs ++ more) (variable b.0)) y k)
    | inr k ↦ each_of cs h.1 y k
  ]

  module _ (x : Var) (t : Term) where
    key_listed : (cs : List (Var × Term)) → found_in cs x ≡ Some t → IsAmong x (bound_by nodes (bs ++ more) cs)
    key_listed [] e = cc
    key_listed (b ∷ cs) e = on (same_var b.0 x) refl e (key_listed cs)
      where
        on : (k : Bool) → same_var b.0 x ≡ k → option_map (λ (p : Var × Term). p.1) (cond k (Some b) (find (λ p. same_var p.0 x) cs)) ≡ Some t
            → (found_in cs x ≡ Some t → IsAmong x (bound_by nodes (bs ++ more) cs)) → IsAmong x (bound_by nodes (bs ++ more) (b ∷ cs))
        on true q e h = inl (sym (same_var-equal b.0 x q))
        on false q e h = inr (among-right (variable_in (end_of nodes (bs ++ more) (variable b.0))) (bound_by nodes (bs ++ more) cs) x (h e))

    end_listed : (r : Var) → end_of nodes (bs ++ more) (variable x) ≡ variable r → (cs : List (Var × Term)) → found_in cs x ≡ Some t → IsAmong r (bound_by nodes (bs ++ more) cs)
    end_listed r n [] e = cc
    end_listed r n (b ∷ cs) e = on (same_var b.0 x) refl e (end_listed r n cs)
      where
        on : (k : Bool) → same_var b.0 x ≡ k → option_map (λ (p : Var × Term). p.1) (cond k (Some b) (find (λ p. same_var p.0 x) cs)) ≡ Some t
            → (found_in cs x ≡ Some t → IsAmong r (bound_by nodes (bs ++ more) cs)) → IsAmong r (bound_by nodes (bs ++ more) (b ∷ cs))
        on true q e h =
            let p : end_of nodes (bs ++ more) (variable b.0) ≡ variable r = ap (λ (y : Var). end_of nodes (bs ++ more) (variable y)) (same_var-equal b.0 x q) ∙ n in
            inr (among-left (variable_in (end_of nodes (bs ++ more) (variable b.0))) (bound_by nodes (bs ++ more) cs) r (subst (λ (u : Tree). IsAmong r (variable_in u)) (sym p) (inl refl)))
        on false q e h = inr (among-right (variable_in (end_of nodes (bs ++ more) (variable b.0))) (bound_by nodes (bs ++ more) cs) r (h e))

  abbrev Listed : Var → Type 0
  Listed x = (y : Var) × IsAmong y (bound_by nodes (bs ++ more) more) × Equal E (variable x) (variable y)

  -- a variable that ends where it did before is bound or made equal by what another one is bound to
  module _ (x r : Var) (e : end_of nodes bs (variable x) ≡ variable r) (n : end_of nodes (bs ++ more) (variable x) ≡ variable r) where
    by_other : (y s : Var) → end_of nodes bs (variable y) ≡ variable s → end_of nodes (bs ++ more) (variable s) ≡ variable r → (Equal E (variable x) (variable y) → ⊥) → Listed x
    by_other y s d k apart = on (found_in (bs ++ more) s) refl
      where
        on : (o : Option Term) → found_in (bs ++ more) s ≡ o → Listed x
        on None p =
            let q : variable s ≡ variable r = sym (end-free nodes (bs ++ more) s p) ∙ k in
            absurd (apart (one_class nodes bs E f x y (e ∙ sym q ∙ sym d)))
        on (Some t) p = (r, end_listed s t r k more (sym (found-second bs more s (end_unbound nodes bs (IsTold E) f y s d)) ∙ p), equal_to_end nodes bs E f x r e)

    by_equal : (y : Var) → Equal G (variable x) (variable y) → (Equal E (variable x) (variable y) → ⊥) → Listed x
    by_equal y q apart = on (has_head (end_of nodes bs (variable y)))
      where
        ends : end_of nodes (bs ++ more) (variable y) ≡ variable r
        ends = sym (one_end nodes (bs ++ more) G g x y r n q) ∙ n

        on : HasHead (end_of nodes bs (variable y)) ⊎ (head_of (end_of nodes bs (variable y)) ≡ None) → Listed x
        on (inl h) = absurd (no_head (end_of nodes bs (variable y)) r (sym (form-stays nodes (bs ++ more) (IsTold G) g (end_of nodes bs (variable y)) h.0 h.1) ∙ sym (end_of_end (variable y)) ∙ ends) h)
        on (inr z) =
            let w : (s : Var) × (end_of nodes bs (variable y) ≡ variable s) = unheaded (end_of nodes bs (variable y)) z in
            by_other y w.0 w.1 (sym (ap (end_of nodes (bs ++ more)) w.1) ∙ sym (end_of_end (variable y)) ∙ ends) apart

    by_told : IsStructured G x ⊎ ((y : Var) × Equal G (variable x) (variable y) × (Equal E (variable x) (variable y) → ⊥)) → Listed x
    by_told (inl s) = absurd (no_head (end_of nodes (bs ++ more) (variable x)) r n (structured-has nodes (bs ++ more) G g x s))
    by_told (inr w) = by_equal w.0 w.1 w.2

  listed : (x : Var) → IsNewlyBound E G x → Listed x
  listed x b = on (has_head (end_of nodes bs (variable x)))
    where
      at : (r : Var) → end_of nodes bs (variable x) ≡ variable r → (o : Option Term) → found_in (bs ++ more) r ≡ o → Listed x
      at r e None p = by_told x r e (end_of_end (variable x) ∙ ap (end_of nodes (bs ++ more)) e ∙ end-free nodes (bs ++ more) r p) b.told
      at r e (Some t) p = (r, key_listed r t more (sym (found-second bs more r (end_unbound nodes bs (IsTold E) f x r e)) ∙ p), equal_to_end nodes bs E f x r e)

      on : HasHead (end_of nodes bs (variable x)) ⊎ (head_of (end_of nodes bs (variable x)) ≡ None) → Listed x
      on (inl h) = absurd (b.unstructured (structured nodes bs E f x h))
      on (inr n) =
          let w : (r : Var) × (end_of nodes bs (variable x) ≡ variable r) = unheaded (end_of nodes bs (variable x)) n in
          at w.0 w.1 (found_in (bs ++ more) w.0) refl

  pub are_newly_bound : AreNewlyBound E E G (bound_by nodes (bs ++ more) more)
  are_newly_bound = record {
    consistent = λ y m. form-consistent nodes (bs ++ more) (IsTold G) g;
    each = λ y m. each_of more (are_bound bs more (λ y n. n) refl fresh) y m;
    every = λ c x b. listed x b;
  }
