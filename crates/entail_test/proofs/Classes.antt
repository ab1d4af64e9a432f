-- Classes are gathered one by one.
use Rattle.std.proofs.Common.{◌≡◌, ◌≢◌, List, [], ◌∷◌, ◌++◌, Option, Some, None, Bool, true, false, cond, if◌then◌else◌, refl, sym, ap, subst, ◌∙◌, ◌⊎◌, inl, inr}
use Rattle.std.specs.Prelude.{◌||◌, filter, map}
use Rattle.std.specs.List.{list_any}
use Rattle.akl_terms.specs.declared.name.Var.{Var}
use Rattle.akl_terms.specs.declared.term.Node.{Node}
use Rattle.akl_terms.specs.declared.term.Term.{Term}
use Rattle.akl_terms.specs.Tree.{variable, head_of}
use Rattle.rational_unify.specs.Known.{end_of}
use Rattle.akl_terms.specs.Names.{same_var}
use Rattle.rational_unify.specs.Shortened.{IsEndOf}
use Rattle.akl_terms.proofs.SameNames.{same_var-equal, same_var-refl}
use Rattle.entail_test.specs.declared.reading.Class.{Class}
use Rattle.constraint_laws.specs.Touched.{IsAmong}
use Rattle.entail_test.specs.Classes.{IsClassIn, has_root, AreDistinct, AreClasses, AreEnds, AreRoots, ends_in, same_end}
use Rattle.local_store.proofs.Among.{among-either, among-left, among-right}
use Rattle.std.specs.Option.{is_some, unwrap_or}
use Rattle.std.specs.Map.{lookup}

-- a test that some class meets
pub any-class : (p : Class → Bool) (cs : List Class) → list_any p cs ≡ true → (c : Class) × IsClassIn c cs × (p c ≡ true)
any-class p [] e = cc
any-class p (c ∷ cs) e = on (p c) refl e (λ h. any-class p cs h)
  where
    on : (k : Bool) → p c ≡ k → (k || list_any p cs) ≡ true → (list_any p cs ≡ true → (d : Class) × IsClassIn d cs × (p d ≡ true)) → (d : Class) × IsClassIn d (c ∷ cs) × (p d ≡ true)
    on true h e f = (c, inl refl, h)
    on false h e f = let w : (d : Class) × IsClassIn d cs × (p d ≡ true) = f e in (w.0, inr w.1, w.2)

pub class-any : (p : Class → Bool) (cs : List Class) (c : Class) → IsClassIn c cs → p c ≡ true → list_any p cs ≡ true
class-any p [] c m e = absurd m
class-any p (d ∷ cs) c (inl q) e = let h : p d ≡ true = ap p (sym q) ∙ e in rw h refl
class-any p (d ∷ cs) c (inr m) e = on (p d) (class-any p cs c m e)
  where
    on : (k : Bool) → list_any p cs ≡ true → (k || list_any p cs) ≡ true
    on true h = refl
    on false h = h

class-either : (cs ds : List Class) (c : Class) → IsClassIn c (cs ++ ds) → IsClassIn c cs ⊎ IsClassIn c ds
class-either [] ds c m = inr m
class-either (d ∷ cs) ds c (inl e) = inl (inl e)
class-either (d ∷ cs) ds c (inr m) = elim (class-either cs ds c m) [ inl a ↦ inl (inr a) | inr b ↦ inr b ]

class-left : (cs ds : List Class) (c : Class) → IsClassIn c cs → IsClassIn c (cs ++ ds)
class-left [] ds c m = absurd m
class-left (d ∷ cs) ds c (inl e) = inl e
class-left (d ∷ cs) ds c (inr m) = inr (class-left cs ds c m)

class-right : (cs ds : List Class) (c : Class) → IsClassIn c ds → IsClassIn c (cs ++ ds)
class-right [] ds c m = m
class-right (d ∷ cs) ds c m = inr (class-right cs ds c m)

not-there : (cs : List Class) (r : Var) → has_root cs r ≡ false → (c : Class) → IsClassIn c cs → c.root ≢ r
not-there cs r e c m q =
    let h : has_root cs r ≡ true = class-any (λ c. same_var c.root r) cs c m (ap (λ (z : Var). same_var z r) q ∙ same_var-refl r) in
    cc

distinct-push : (cs : List Class) (c : Class) → AreDistinct cs → ((d : Class) → IsClassIn d cs → d.root ≢ c.root) → AreDistinct (cs ++ c ∷ [])
distinct-push [] c h n = (λ d m. absurd m, tt)
distinct-push (d ∷ cs) c h n = (front, distinct-push cs c h.1 (λ e m. n e (inr m)))
  where
    front : (e : Class) → IsClassIn e (cs ++ c ∷ []) → d.root ≢ e.root
    front e m = elim (class-either cs (c ∷ []) e m) [ inl a ↦ h.0 e a | inr b ↦ one b ]
      where
        one : IsClassIn e (c ∷ []) → d.root ≢ e.root
        one (inl p) q = n d (inl refl) (q ∙ ap (λ (z : Class). z.root) p)
        one (inr p) q = absurd p

pub classes-none : (nodes : List Node) (known whole : List (Var × Term)) → AreClasses nodes known whole [] []
classes-none nodes known whole = record { member = λ c m. absurd m; root = λ c m. absurd m; end = λ c m. absurd m; covers = λ x r m e. absurd m; distinct = tt }

module _ (nodes : List Node) (known whole : List (Var × Term)) (xs : List Var) (cs : List Class) (h : AreClasses nodes known whole xs cs) (x : Var) where
  -- a candidate that ends in a term with a head has no class
  pub classes-headed : IsEndOf nodes known x None → AreClasses nodes known whole (xs ++ x ∷ []) cs
  classes-headed e = record {
    member = λ c m. among-left xs (x ∷ []) c.member (h.member c m);
    root = h.root;
    end = h.end;
    covers = λ y r m q. elim (among-either xs (x ∷ []) y m) [ inl a ↦ h.covers y r a q | inr b ↦ absurd (one y r b q) ];
    distinct = h.distinct;
  }
    where
      one : (y r : Var) → IsAmong y (x ∷ []) → end_of nodes known (variable y) ≡ variable r → ⊥
      one y r (inl p) q =
          let z : None ≡ Some e.0 = sym (ap head_of (ap (λ (v : Var). end_of nodes known (variable v)) (sym p) ∙ q)) ∙ e.1 in
          cc
      one y r (inr p) q = absurd p

  -- one whose class is there
  pub classes-there : (root : Var) → IsEndOf nodes known x (Some root) → has_root cs root ≡ true → AreClasses nodes known whole (xs ++ x ∷ []) cs
  classes-there root e t = record {
    member = λ c m. among-left xs (x ∷ []) c.member (h.member c m);
    root = h.root;
    end = h.end;
    covers = λ y r m q. elim (among-either xs (x ∷ []) y m) [ inl a ↦ h.covers y r a q | inr b ↦ one y r b q ];
    distinct = h.distinct;
  }
    where
      one : (y r : Var) → IsAmong y (x ∷ []) → end_of nodes known (variable y) ≡ variable r → (c : Class) × IsClassIn c cs × (c.root ≡ r)
      one y r (inl p) q =
          let w : (c : Class) × IsClassIn c cs × (same_var c.root root ≡ true) = any-class (λ c. same_var c.root root) cs t in
          let k : variable root ≡ variable r = sym e ∙ ap (λ (v : Var). end_of nodes known (variable v)) (sym p) ∙ q in
          let k' : root ≡ r = cc in
          (w.0, w.1, same_var-equal w.0.root root w.2 ∙ k')
      one y r (inr p) q = absurd p

  -- one with a new class
  pub classes-new : (c : Class) → c.member ≡ x → IsEndOf nodes known x (Some c.root) → IsEndOf nodes whole x c.end → has_root cs c.root ≡ false → AreClasses nodes known whole (xs ++ x ∷ []) (cs ++ c ∷ [])
  classes-new c is e w f = record {
    member = λ d m. elim (class-either cs (c ∷ []) d m) [ inl a ↦ among-left xs (x ∷ []) d.member (h.member d a) | inr b ↦ among-right xs (x ∷ []) d.member (inl (at b is)) ];
    root = λ d m. elim (class-either cs (c ∷ []) d m) [ inl a ↦ h.root d a | inr b ↦ is_root d b ];
    end = λ d m. elim (class-either cs (c ∷ []) d m) [ inl a ↦ h.end d a | inr b ↦ is_end d b ];
    covers = λ y r m q. elim (among-either xs (x ∷ []) y m) [ inl a ↦ old (h.covers y r a q) | inr b ↦ one y r b q ];
    distinct = distinct-push cs c h.distinct (λ d m. not-there cs c.root f d m);
  }
    where
      at : {d : Class} → IsClassIn d (c ∷ []) → c.member ≡ x → d.member ≡ x
      at (inl p) q = ap (λ (z : Class). z.member) p ∙ q
      at (inr p) q = absurd p

      is_root : (d : Class) → IsClassIn d (c ∷ []) → end_of nodes known (variable d.member) ≡ variable d.root
      is_root d (inl p) = ap (λ (z : Class). end_of nodes known (variable z.member)) p ∙ ap (λ (v : Var). end_of nodes known (variable v)) is ∙ e ∙ ap (λ (z : Class). variable z.root) (sym p)
      is_root d (inr p) = absurd p

      is_end : (d : Class) → IsClassIn d (c ∷ []) → IsEndOf nodes whole d.member d.end
      is_end d (inl p) = subst (λ (z : Class). IsEndOf nodes whole z.member z.end) (sym p) (subst (λ (v : Var). IsEndOf nodes whole v c.end) (sym is) w)
      is_end d (inr p) = absurd p

      old : {r : Var} → ((d : Class) × IsClassIn d cs × (d.root ≡ r)) → (d : Class) × IsClassIn d (cs ++ c ∷ []) × (d.root ≡ r)
      old v = (v.0, class-left cs (c ∷ []) v.0 v.1, v.2)

      one : (y r : Var) → IsAmong y (x ∷ []) → end_of nodes known (variable y) ≡ variable r → (d : Class) × IsClassIn d (cs ++ c ∷ []) × (d.root ≡ r)
      one y r (inl p) q =
          let k : variable c.root ≡ variable r = sym e ∙ ap (λ (v : Var). end_of nodes known (variable v)) (sym p) ∙ q in
          let k' : c.root ≡ r = cc in
          (c, class-right cs (c ∷ []) c (inl refl), k')
      one y r (inr p) q = absurd p

-- the noisy ones of a list
pub filter-push : (p : Class → Bool) (cs : List Class) (c : Class) → map (λ (c : Class). c.member) (filter p (cs ++ c ∷ [])) ≡ (if p c then (map (λ (c : Class). c.member) (filter p cs) ++ c.member ∷ []) else map (λ (c : Class). c.member) (filter p cs))
filter-push p [] c = on (p c)
  where
    on : (k : Bool) → map (λ (c : Class). c.member) (cond k (c ∷ []) []) ≡ (if k then (c.member ∷ []) else [])
    on true = refl
    on false = refl
filter-push p (d ∷ cs) c = on (p d) (p c) (filter-push p cs c)
  where
    rest : List Var
    rest = map (λ (c : Class). c.member) (filter p cs)

    on : (k l : Bool) → map (λ (c : Class). c.member) (filter p (cs ++ c ∷ [])) ≡ (if l then (map (λ (c : Class). c.member) (filter p cs) ++ c.member ∷ []) else map (λ (c : Class). c.member) (filter p cs))
        → map (λ (c : Class). c.member) (cond k (d ∷ filter p (cs ++ c ∷ [])) (filter p (cs ++ c ∷ [])))
        ≡ (if l then (map (λ (c : Class). c.member) (cond k (d ∷ filter p cs) (filter p cs)) ++ c.member ∷ []) else map (λ (c : Class). c.member) (cond k (d ∷ filter p cs) (filter p cs)))
    on true true h = ap (λ (l : List Var). d.member ∷ l) h
    on true false h = ap (λ (l : List Var). d.member ∷ l) h
    on false true h = h
    on false false h = h

-- where classes end, one by one
module _ (cs : List Class) (c : Class) (x : Var) where
  pub ends-push : ends_in (cs ++ c ∷ []) x ≡ (if same_end c.end x then Some (is_some (ends_in cs x)) else ends_in cs x)
  ends-push = go cs
    where
      step : (k l : Bool) (o p : Option Bool) → o ≡ (if l then Some (is_some p) else p) → (if k then Some (is_some o) else o) ≡ (if l then Some (is_some (if k then Some (is_some p) else p)) else (if k then Some (is_some p) else p))
      step true true o p e = ap (λ (q : Option Bool). Some (is_some q)) e
      step true false o p e = ap (λ (q : Option Bool). Some (is_some q)) e
      step false l o p e = e

      go : (ds : List Class) → ends_in (ds ++ c ∷ []) x ≡ (if same_end c.end x then Some (is_some (ends_in ds x)) else ends_in ds x)
      go [] = refl
      go (d ∷ ds) = step (same_end d.end x) (same_end c.end x) (ends_in (ds ++ c ∷ []) x) (ends_in ds x) (go ds)

pub ends-none : AreEnds [] []
ends-none = record { each = λ e. refl }

module _ (cs : List Class) (c : Class) (old new : List (Var × Bool)) (h : AreEnds old cs) where
  pub ends-same : c.end ≡ None → AreEnds old (cs ++ c ∷ [])
  ends-same n = record { each = λ x. h.each x ∙ sym (ends-push cs c x ∙ ap (λ (o : Option Var). if same_end o x then Some (is_some (ends_in cs x)) else ends_in cs x) n) }

  pub ends-more : (e : Var) (again : Bool) → c.end ≡ Some e → again ≡ is_some (lookup (same_var e) old)
      → ((x : Var) → lookup (same_var x) new ≡ cond (same_var e x) (Some again) (lookup (same_var x) old)) → AreEnds new (cs ++ c ∷ [])
  ends-more e again q a f = record { each = λ x. f x ∙ at x (same_var e x) refl ∙ sym (ends-push cs c x ∙ ap (λ (o : Option Var). if same_end o x then Some (is_some (ends_in cs x)) else ends_in cs x) q) }
    where
      at : (x : Var) (k : Bool) → same_var e x ≡ k → cond k (Some again) (lookup (same_var x) old) ≡ (if k then Some (is_some (ends_in cs x)) else ends_in cs x)
      at x true p = ap Some (a ∙ ap (λ (z : Var). is_some (lookup (same_var z) old)) (same_var-equal e x p) ∙ ap is_some (h.each x))
      at x false p = h.each x

same_end-true : (o : Option Var) (e : Var) → same_end o e ≡ true → o ≡ Some e
same_end-true None e h = cc
same_end-true (Some x) e h = ap Some (same_var-equal x e h)

same_end-some : (o : Option Var) (e : Var) → o ≡ Some e → same_end o e ≡ true
same_end-some o e q = ap (λ (p : Option Var). same_end p e) q ∙ same_var-refl e

ends-some : (cs : List Class) (e : Var) → is_some (ends_in cs e) ≡ true → (d : Class) × IsClassIn d cs × (d.end ≡ Some e)
ends-some [] e h = cc
ends-some (c ∷ cs) e h = on (same_end c.end e) refl h (λ g. ends-some cs e g)
  where
    on : (k : Bool) → same_end c.end e ≡ k → is_some (if k then Some (is_some (ends_in cs e)) else ends_in cs e) ≡ true
        → (is_some (ends_in cs e) ≡ true → (d : Class) × IsClassIn d cs × (d.end ≡ Some e)) → (d : Class) × IsClassIn d (c ∷ cs) × (d.end ≡ Some e)
    on true q h f = (c, inl refl, same_end-true c.end e q)
    on false q h f = let w : (d : Class) × IsClassIn d cs × (d.end ≡ Some e) = f h in (w.0, inr w.1, w.2)

some-ends : (cs : List Class) (e : Var) (d : Class) → IsClassIn d cs → d.end ≡ Some e → is_some (ends_in cs e) ≡ true
some-ends [] e d m q = absurd m
some-ends (c ∷ cs) e d (inl p) q = let h : same_end c.end e ≡ true = same_end-some c.end e (ap (λ (z : Class). z.end) (sym p) ∙ q) in rw h refl
some-ends (c ∷ cs) e d (inr m) q = on (same_end c.end e) (some-ends cs e d m q)
  where
    on : (k : Bool) → is_some (ends_in cs e) ≡ true → is_some (if k then Some (is_some (ends_in cs e)) else ends_in cs e) ≡ true
    on true h = refl
    on false h = h

-- more than one class ends in a variable exactly where another class does
pub again-other : (cs : List Class) (c : Class) (e : Var) → AreDistinct cs → IsClassIn c cs → c.end ≡ Some e → unwrap_or (ends_in cs e) false ≡ true
    → (d : Class) × IsClassIn d cs × (c.root ≢ d.root) × (d.end ≡ Some e)
again-other [] c e n m q h = absurd m
again-other (b ∷ cs) c e n m q h = on (same_end b.end e) refl m h (λ l g. again-other cs c e n.1 l q g)
  where
    Found : List Class → Type 0
    Found ds = (d : Class) × IsClassIn d ds × (c.root ≢ d.root) × (d.end ≡ Some e)

    on : (k : Bool) → same_end b.end e ≡ k → IsClassIn c (b ∷ cs) → unwrap_or (if k then Some (is_some (ends_in cs e)) else ends_in cs e) false ≡ true
        → (IsClassIn c cs → unwrap_or (ends_in cs e) false ≡ true → Found cs) → Found (b ∷ cs)
    on true p (inl r) h f =
        let w : (d : Class) × IsClassIn d cs × (d.end ≡ Some e) = ends-some cs e h in
        (w.0, inr w.1, λ z. n.0 w.0 w.1 (ap (λ (y : Class). y.root) (sym r) ∙ z), w.2)
    on true p (inr l) h f = (b, inl refl, λ z. n.0 c l (sym z), same_end-true b.end e p)
    on false p (inl r) h f = let z : true ≡ false = sym (same_end-some b.end e (ap (λ (y : Class). y.end) (sym r) ∙ q)) ∙ p in cc
    on false p (inr l) h f = let w : Found cs = f l h in (w.0, inr w.1, w.2, w.3)

pub other-again : (cs : List Class) (c d : Class) (e : Var) → IsClassIn c cs → IsClassIn d cs → c.root ≢ d.root → c.end ≡ Some e → d.end ≡ Some e → unwrap_or (ends_in cs e) false ≡ true
other-again [] c d e m l n p q = absurd m
other-again (b ∷ cs) c d e m l n p q = on (same_end b.end e) refl m l (λ i j. other-again cs c d e i j n p q)
  where
    on : (k : Bool) → same_end b.end e ≡ k → IsClassIn c (b ∷ cs) → IsClassIn d (b ∷ cs) → (IsClassIn c cs → IsClassIn d cs → unwrap_or (ends_in cs e) false ≡ true)
        → unwrap_or (if k then Some (is_some (ends_in cs e)) else ends_in cs e) false ≡ true
    on k z (inl r) (inl s) f = absurd (n (ap (λ (y : Class). y.root) (r ∙ sym s)))
    on true z (inl r) (inr j) f = some-ends cs e d j q
    on true z (inr i) s f = some-ends cs e c i p
    on false z (inl r) (inr j) f = let t : true ≡ false = sym (same_end-some b.end e (ap (λ (y : Class). y.end) (sym r) ∙ p)) ∙ z in cc
    on false z (inr i) (inl s) f = let t : true ≡ false = sym (same_end-some b.end e (ap (λ (y : Class). y.end) (sym s) ∙ q)) ∙ z in cc
    on false z (inr i) (inr j) f = f i j

-- roots, one by one
has_root-push : (cs : List Class) (c : Class) (r : Var) → has_root (cs ++ c ∷ []) r ≡ (has_root cs r || same_var c.root r)
has_root-push [] c r = on (same_var c.root r)
  where
    on : (k : Bool) → (k || false) ≡ k
    on true = refl
    on false = refl
has_root-push (d ∷ cs) c r = on (same_var d.root r) (has_root-push cs c r)
  where
    on : (k : Bool) → has_root (cs ++ c ∷ []) r ≡ (has_root cs r || same_var c.root r) → (k || has_root (cs ++ c ∷ []) r) ≡ ((k || has_root cs r) || same_var c.root r)
    on true h = refl
    on false h = h

pub roots-none : AreRoots [] []
roots-none = record { each = λ r. refl }

module _ (cs : List Class) (old new : List (Var × Bool)) (h : AreRoots old cs) (root : Var) (again : Bool)
    (before : again ≡ is_some (lookup (same_var root) old)) (met : (x : Var) → lookup (same_var x) new ≡ cond (same_var root x) (Some again) (lookup (same_var x) old)) where
  is_there : has_root cs root ≡ again
  is_there = sym (before ∙ h.each root)

  pub root-there : (k : Bool) → again ≡ k → has_root cs root ≡ k
  root-there k e = is_there ∙ e

  pub roots-same : again ≡ true → AreRoots new cs
  roots-same e = record { each = λ x. ap is_some (met x) ∙ at x (same_var root x) refl }
    where
      at : (x : Var) (k : Bool) → same_var root x ≡ k → is_some (cond k (Some again) (lookup (same_var x) old)) ≡ has_root cs x
      at x true p = sym (ap (has_root cs) (sym (same_var-equal root x p)) ∙ is_there ∙ e)
      at x false p = h.each x

  pub roots-more : (c : Class) → c.root ≡ root → AreRoots new (cs ++ c ∷ [])
  roots-more c e = record { each = λ x. ap is_some (met x) ∙ at x (same_var root x) refl ∙ sym (has_root-push cs c x ∙ ap (λ (z : Var). has_root cs x || same_var z x) e) }
    where
      at : (x : Var) (k : Bool) → same_var root x ≡ k → is_some (cond k (Some again) (lookup (same_var x) old)) ≡ (has_root cs x || k)
      at x true p = on (has_root cs x)
        where
          on : (l : Bool) → true ≡ (l || true)
          on true = refl
          on false = refl
      at x false p = h.each x ∙ on (has_root cs x)
        where
          on : (l : Bool) → l ≡ (l || false)
          on true = refl
          on false = refl
