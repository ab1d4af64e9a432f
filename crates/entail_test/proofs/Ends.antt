-- What solved forms of an environment and of the whole tell the variables from outside.
use Rattle.std.proofs.Common.{◌≡◌, ◌≢◌, List, [], ◌∷◌, Option, Some, None, Bool, true, false, cond, refl, sym, ap, subst, ◌∙◌, ◌⊎◌, inl, inr}
use Rattle.std.specs.Prelude.{filter, map}
use Rattle.akl_terms.specs.declared.name.Name.{Name}
use Rattle.akl_terms.specs.declared.name.Var.{Var}
use Rattle.akl_terms.specs.declared.term.Node.{Node}
use Rattle.akl_terms.specs.declared.term.Term.{Term}
use Rattle.akl_terms.specs.Tree.{Tree, variable, head_of}
use Rattle.akl_terms.specs.Equal.{Equations, IsTold, Equal, IsStructured}
use Rattle.akl_terms.specs.Touching.{IsOutside, IsUnbound, IsTied, Touches}
use Rattle.rational_unify.specs.Known.{end_of}
use Rattle.rational_unify.specs.Forms.{IsFormOf}
use Rattle.rational_unify.specs.Shortened.{IsEndOf}
use Rattle.rational_unify.proofs.Stands.{HasHead}
use Rattle.entail_test.specs.declared.reading.Class.{Class}
use Rattle.entail_test.specs.Touched.{AreApart, AreTouched}
use Rattle.constraint_laws.specs.Touched.{IsAmong}
use Rattle.entail_test.specs.Classes.{IsClassIn, AreDistinct, AreClasses, noisy_end, is_noisy, IsNoisyEnd, Suffices}
use Rattle.local_store.proofs.FormEnds.{unheaded, has_head, no_head, unstructured, structured, structured-has, one_class, one_end, roots_apart}
use Rattle.entail_test.proofs.Classes.{again-other, other-again}

module _ (nodes : List Node) (known whole : List (Var × Term)) (E W : Equations) (inner : List Name) (fE : IsFormOf nodes known (IsTold E)) (fW : IsFormOf nodes whole (IsTold W))
    (extends : (t : Tree) → end_of nodes whole t ≡ end_of nodes whole (end_of nodes known t))
    (candidates : List Var) (cs : List Class) (k : AreClasses nodes known whole candidates cs) (suffices : Suffices nodes known whole inner candidates) where
  abbrev members : List Class → List Var
  members ds = map (λ (c : Class). c.member) (filter (λ c. is_noisy cs c) ds)

  member-in : (ds : List Class) (x : Var) → IsAmong x (members ds) → (c : Class) × IsClassIn c ds × (x ≡ c.member) × (is_noisy cs c ≡ true)
  member-in [] x m = absurd m
  member-in (d ∷ ds) x m = on (is_noisy cs d) refl m (λ p. member-in ds x p)
    where
      down : ((c : Class) × IsClassIn c ds × (x ≡ c.member) × (is_noisy cs c ≡ true)) → (c : Class) × IsClassIn c (d ∷ ds) × (x ≡ c.member) × (is_noisy cs c ≡ true)
      down w = (w.0, inr w.1, w.2, w.3)

      on : (b : Bool) → is_noisy cs d ≡ b → IsAmong x (map (λ (c : Class). c.member) (cond b (d ∷ filter (λ c. is_noisy cs c) ds) (filter (λ c. is_noisy cs c) ds)))
          → (IsAmong x (members ds) → (c : Class) × IsClassIn c ds × (x ≡ c.member) × (is_noisy cs c ≡ true))
          → (c : Class) × IsClassIn c (d ∷ ds) × (x ≡ c.member) × (is_noisy cs c ≡ true)
      on true e (inl p) f = (d, inl refl, p, e)
      on true e (inr p) f = down (f p)
      on false e p f = down (f p)

  in-members : (ds : List Class) (c : Class) → IsClassIn c ds → is_noisy cs c ≡ true → IsAmong c.member (members ds)
  in-members [] c m e = absurd m
  in-members (d ∷ ds) c (inl p) e = rw (ap (λ (z : Class). is_noisy cs z) (sym p) ∙ e) (inl (ap (λ (z : Class). z.member) p))
  in-members (d ∷ ds) c (inr m) e = on (is_noisy cs d) (in-members ds c m e)
    where
      on : (b : Bool) → IsAmong c.member (members ds) → IsAmong c.member (map (λ (c : Class). c.member) (cond b (d ∷ filter (λ c. is_noisy cs c) ds) (filter (λ c. is_noisy cs c) ds)))
      on true h = inr h
      on false h = h

  is_unbound : (x r : Var) → IsOutside inner x → end_of nodes known (variable x) ≡ variable r → IsUnbound inner E x
  is_unbound x r o e = record { outside = o; unstructured = unstructured nodes known E fE x r e }

  -- a noisy class is touched
  touched_class : (c : Class) → IsClassIn c cs → is_noisy cs c ≡ true → Touches inner E W c.member
  touched_class c m e = record { unbound = is_unbound c.member c.root (suffices.outside c.member (k.member c m)) (k.root c m); told = on c.end (k.end c m) refl e }
    where
      on : (o : Option Var) → IsEndOf nodes whole c.member o → (o ≡ c.end) → noisy_end cs o ≡ true → IsStructured W c.member ⊎ ((y : Var) × IsTied inner E W c.member y)
      on None h q e = inl (structured nodes whole W fW c.member h)
      on (Some v) h q e = inr (
        w.0.member,
        record {
          other = is_unbound w.0.member w.0.root (suffices.outside w.0.member (k.member w.0 w.1)) (k.root w.0 w.1);
          equal = one_class nodes whole W fW c.member w.0.member (h ∙ sym (subst (λ (o : Option Var). IsEndOf nodes whole w.0.member o) w.3 (k.end w.0 w.1)));
          apart = λ p. roots_apart nodes known E fE c.member w.0.member c.root w.0.root (k.root c m) (k.root w.0 w.1) w.2 p;
        },
      )
        where
          w : (d : Class) × IsClassIn d cs × (c.root ≢ d.root) × (d.end ≡ Some v)
          w = again-other cs c v k.distinct m (sym q) e

  -- a touched variable has a noisy class
  module _ (v : Var) (t : Touches inner E W v) where
    root_of : (x : Var) → IsUnbound inner E x → (r : Var) × (end_of nodes known (variable x) ≡ variable r)
    root_of x u = elim (has_head (end_of nodes known (variable x))) [
      | inl h ↦ absurd (u.unstructured (structured nodes known E fE x h))
      | inr e ↦ unheaded (end_of nodes known (variable x)) e
    ]

    abbrev HasClass : Var → Type 0
    HasClass r = (c : Class) × IsClassIn c cs × (c.root ≡ r)

    class_of : (x r : Var) → IsUnbound inner E x → end_of nodes known (variable x) ≡ variable r → IsNoisyEnd nodes known whole inner x r → HasClass r
    class_of x r u e n =
        let s : (y : Var) × IsAmong y candidates × (end_of nodes known (variable y) ≡ variable r) = suffices.enough x r u.outside e n in
        k.covers s.0 r s.1 s.2

    -- the chain of a class's member ends in the whole where that of v does
    same_whole : (x : Var) (c : Class) → IsClassIn c cs → (r : Var) → end_of nodes known (variable x) ≡ variable r → c.root ≡ r → end_of nodes whole (variable c.member) ≡ end_of nodes whole (variable x)
    same_whole x c m r e q = extends (variable c.member) ∙ ap (end_of nodes whole) (k.root c m ∙ ap variable q ∙ sym e) ∙ sym (extends (variable x))

    found : (r : Var) → end_of nodes known (variable v) ≡ variable r → IsNoisyEnd nodes known whole inner v r → (y : Var) × IsAmong y (members cs) × Equal E (variable v) (variable y)
    found r e n = (c.0.member, in-members cs c.0 c.1 noise, one_class nodes known E fE v c.0.member (e ∙ ap variable (sym c.2) ∙ sym (k.root c.0 c.1)))
      where
        c : HasClass r
        c = class_of v r t.unbound e n

        at : end_of nodes whole (variable c.0.member) ≡ end_of nodes whole (variable v)
        at = same_whole v c.0 c.1 r e c.2

        noise : is_noisy cs c.0 ≡ true
        noise = on c.0.end (k.end c.0 c.1) refl n
          where
            on : (o : Option Var) → IsEndOf nodes whole c.0.member o → c.0.end ≡ o → IsNoisyEnd nodes known whole inner v r → noisy_end cs o ≡ true
            on None h z n = refl
            on (Some y) h z (inl g) = absurd (no_head (end_of nodes whole (variable v)) y (sym at ∙ h) g)
            on (Some y) h z (inr w) = other-again cs c.0 d.0 y c.1 d.1 (λ p. w.4 (sym (sym c.2 ∙ p ∙ d.2))) z (same d.0.end (k.end d.0 d.1))
              where
                d : HasClass w.1
                d = class_of w.0 w.1 (is_unbound w.0 w.1 w.2 w.3) w.3 (inr (v, r, t.unbound.outside, e, λ p. w.4 (sym p), sym w.5))

                ends : end_of nodes whole (variable d.0.member) ≡ variable y
                ends = same_whole w.0 d.0 d.1 w.1 w.3 d.2 ∙ w.5 ∙ sym at ∙ h

                same : (o : Option Var) → IsEndOf nodes whole d.0.member o → o ≡ Some y
                same None g = absurd (no_head (end_of nodes whole (variable d.0.member)) y ends g)
                same (Some z) g =
                    let p : variable z ≡ variable y = sym g ∙ ends in
                    let q : z ≡ y = cc in
                    ap Some q

    pub is_found : (y : Var) × IsAmong y (members cs) × Equal E (variable v) (variable y)
    is_found = on t.told
      where
        r : (r : Var) × (end_of nodes known (variable v) ≡ variable r)
        r = root_of v t.unbound

        on : IsStructured W v ⊎ ((y : Var) × IsTied inner E W v y) → (y : Var) × IsAmong y (members cs) × Equal E (variable v) (variable y)
        on (inl s) = found r.0 r.1 (inl (structured-has nodes whole W fW v s))
        on (inr w) = tied (has_head (end_of nodes whole (variable v)))
          where
            s : (s : Var) × (end_of nodes known (variable w.0) ≡ variable s)
            s = root_of w.0 w.1.other

            tied : HasHead (end_of nodes whole (variable v)) ⊎ (head_of (end_of nodes whole (variable v)) ≡ None) → (y : Var) × IsAmong y (members cs) × Equal E (variable v) (variable y)
            tied (inl h) = found r.0 r.1 (inl h)
            tied (inr h) =
                let u : (y : Var) × (end_of nodes whole (variable v) ≡ variable y) = unheaded (end_of nodes whole (variable v)) h in
                found r.0 r.1 (inr (
                  w.0,
                  s.0,
                  w.1.other.outside,
                  s.1,
                  λ p. w.1.apart (one_class nodes known E fE v w.0 (r.1 ∙ ap variable (sym p) ∙ sym s.1)),
                  sym (one_end nodes whole W fW v w.0 u.0 u.1 w.1.equal),
                ))

  apart_members : (ds : List Class) → ((c : Class) → IsClassIn c ds → IsClassIn c cs) → AreDistinct ds → AreApart E (members ds)
  apart_members [] f d = tt
  apart_members (c ∷ ds) f d = on (is_noisy cs c) (apart_members ds (λ e m. f e (inr m)) d.1)
    where
      on : (b : Bool) → AreApart E (members ds) → AreApart E (map (λ (c : Class). c.member) (cond b (c ∷ filter (λ c. is_noisy cs c) ds) (filter (λ c. is_noisy cs c) ds)))
      on true h = (
        λ y m q.
            let w : (e : Class) × IsClassIn e ds × (y ≡ e.member) × (is_noisy cs e ≡ true) = member-in ds y m in
            roots_apart nodes known E fE c.member w.0.member c.root w.0.root (k.root c (f c (inl refl))) (k.root w.0 (f w.0 (inr w.1))) (d.0 w.0 w.1) (subst (λ (z : Var). Equal E (variable c.member) (variable z)) w.2 q),
        h,
      )
      on false h = h

  pub are_touched : AreTouched inner E W (members cs)
  are_touched = record {
    each = λ x m.
        let w : (c : Class) × IsClassIn c cs × (x ≡ c.member) × (is_noisy cs c ≡ true) = member-in cs x m in
        subst (λ (z : Var). Touches inner E W z) (sym w.2) (touched_class w.0 w.1 w.3);
    every = λ x t. is_found x t;
    once = apart_members cs (λ c m. m) k.distinct;
  }
