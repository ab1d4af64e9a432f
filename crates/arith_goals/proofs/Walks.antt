-- What holds of a walk from turn to turn.
use Rattle.std.proofs.Common.{◌≡◌, ℕ, ℤ, ◌+◌, ◌-◌, ◌*◌, ◌<◌, ◌^◌, List, [], ◌∷◌, ◌++◌, Option, Some, None, Bool, true, false, cond, refl, sym, ◌∙◌, ap, subst, arith, ◌⊎◌, inl, inr}
use Rattle.std.proofs.lemmas.Bool.Decides.{nat_tests}
use Rattle.std.specs.Map.{lookup}
use Rattle.akl_terms.specs.declared.name.Var.{Var}
use Rattle.akl_terms.specs.declared.term.Term.{Term}
use Rattle.akl_terms.specs.Tree.{Tree, variable, integer, head_of}
use Rattle.akl_terms.specs.Equal.{Equations, IsTold, Equal, same, turned, joined, IsConsistent}
use Rattle.akl_terms.specs.Template.{Template, tree}
use Rattle.akl_terms.specs.Arithmetic.{operation_of, binary, calculated, HasValue, number, WaitsOn, here, in_left, in_right}
use Rattle.rational_unify.specs.Known.{end_of}
use Rattle.rational_unify.specs.Forms.{IsFormOf}
use Rattle.rational_unify.proofs.Stands.{HasHead, structured-end}
use Rattle.rational_unify.proofs.FormLaws.{form-stays, form-holds, form-follows, form-consistent}
use Rattle.constraint_laws.proofs.Values.{HasValue-along}
use Rattle.arith_goals.specs.declared.expression.Place.{Place}
use Rattle.arith_goals.specs.declared.expression.Application.{Application}
use Rattle.arith_goals.specs.declared.walk.Walk.{Walk}
use Rattle.arith_goals.specs.declared.walk.Progress.{Progress}
use Rattle.arith_goals.specs.declared.walk.Progress.TheVariants.{Ahead, Begun, Value}
use Rattle.arith_goals.specs.declared.walk.Walked.{Walked}
use Rattle.arith_goals.specs.declared.walk.Walked.TheVariants as walked
use Rattle.arith_goals.specs.declared.walk.Walking.{Walking}
use Rattle.arith_goals.specs.declared.walk.Walking.TheVariants.{Left, Right}
use Rattle.arith_goals.specs.declared.walk.Step.{Step}
use Rattle.arith_goals.specs.declared.walk.Step.TheVariants.{Enter, Leave}
use Rattle.arith_goals.specs.declared.walk.Turn.TheVariants.{Go, Stop}
use Rattle.arith_goals.specs.Operations.{meaning}
use Rattle.arith_goals.specs.Expressions.{tree_there, IsApplication, IsOther}
use Rattle.arith_goals.specs.Walking.{same_place, or_ahead, progress_at, IsSame, Begins, known, inside_itself, begins, Enters, number, free, other, operation, Leaves, last, to_right, undefined, out, Turns}
use Rattle.arith_goals.specs.Answers.{IsStuck, Comes}
use Rattle.arith_goals.proofs.Expressing.{other-stuck, left-stuck, right-stuck, calculated-value, undefined-stuck}
use Rattle.arith_goals.proofs.Paths.{Operand, to_left, to_right, Path, one, further, circle-stuck}
use Rattle.akl_terms.specs.Arithmetic as arithmetic

same_place-equal : (p q : Place) → same_place p q ≡ true → p ≡ q
same_place-equal p q e =
    let a : p.node ≡ q.node = grind (arith, nat_tests) in
    let b : p.frame.worker ≡ q.frame.worker = grind (arith, nat_tests) in
    let c : p.frame.number ≡ q.frame.number = grind (arith, nat_tests) in
    λ i. record { node = a i; frame = record { worker = b i; number = c i } }

same_place-refl : (p : Place) → same_place p p ≡ true
same_place-refl p = grind (arith, nat_tests)

abbrev pub application : Walking → Application
application (Left of) = of
application (Right of x) = of

-- a place is one of those that are being walked
abbrev pub IsWalkedAt : Place → List Walking → Type 0
IsWalkedAt p [] = ⊥
IsWalkedAt p (w ∷ ws) = ((application w).place ≡ p) ⊎ IsWalkedAt p ws

at-more : (p : Place) (ws : List Walking) (w : Walking) → IsWalkedAt p ws → IsWalkedAt p (ws ++ w ∷ [])
at-more p [] w m = absurd m
at-more p (v ∷ ws) w (inl e) = inl e
at-more p (v ∷ ws) w (inr m) = inr (at-more p ws w m)

at-last : (ws : List Walking) (w : Walking) → IsWalkedAt (application w).place (ws ++ w ∷ [])
at-last [] w = inl refl
at-last (v ∷ ws) w = inr (at-last ws w)

at-either : (p : Place) (ws : List Walking) (w : Walking) → IsWalkedAt p (ws ++ w ∷ []) → IsWalkedAt p ws ⊎ ((application w).place ≡ p)
at-either p [] w (inl e) = inr e
at-either p [] w (inr m) = absurd m
at-either p (v ∷ ws) w (inl e) = inl (inl e)
at-either p (v ∷ ws) w (inr m) = elim (at-either p ws w m) [ inl k ↦ inl (inr k) | inr k ↦ inr k ]

module _ (t : Template) (E : Equations) where
  abbrev T : Term → Tree
  T s = tree t.nodes s

  -- an operation is what stands here
  pub record IsOperation (of : Application) (s : Tree) : Type 0 where
    pub symbol : ℕ
    pub named : operation_of t.symbols symbol ≡ Some (meaning of.operation)
    pub applied : Equal E s (binary symbol (T of.left) (T of.right))
    pub place : Equal E s (tree_there t of.place)

  abbrev pub IsWalkingIn : Walking → Tree → Type 0
  IsWalkingIn (Left of) s = IsOperation of s
  IsWalkingIn (Right of x) s = IsOperation of s × HasValue t.symbols E (T of.left) x

  abbrev pub operand : Walking → Tree
  operand (Left of) = T of.left
  operand (Right of x) = T of.right

  -- from the outermost expression to the one that is being walked
  abbrev pub LeadsTo : List Walking → Tree → Tree → Type 0
  LeadsTo [] s u = s ≡ u
  LeadsTo (w ∷ ws) s u = IsWalkingIn w s × LeadsTo ws (operand w) u

  LeadsTo-more : (ws : List Walking) (s u : Tree) (w : Walking) → LeadsTo ws s u → IsWalkingIn w u → LeadsTo (ws ++ w ∷ []) s (operand w)
  LeadsTo-more [] s u w l i = (subst (IsWalkingIn w) (sym l) i, refl)
  LeadsTo-more (v ∷ ws) s u w l i = (l.0, LeadsTo-more ws (operand v) u w l.1 i)

  LeadsTo-last : (ws : List Walking) (s u : Tree) (w : Walking) → LeadsTo (ws ++ w ∷ []) s u → (m : Tree) × LeadsTo ws s m × IsWalkingIn w m × (operand w ≡ u)
  LeadsTo-last [] s u w l = (s, refl, l.0, l.1)
  LeadsTo-last (v ∷ ws) s u w l =
      let r : (m : Tree) × LeadsTo ws (operand v) m × IsWalkingIn w m × (operand w ≡ u) = LeadsTo-last ws (operand v) u w l.1 in
      (r.0, (l.0, r.1), r.2, r.3)

  to_operand : (w : Walking) (s : Tree) → IsWalkingIn w s → Operand t.symbols E s (operand w)
  to_operand (Left of) s i = to_left (T of.left) (T of.right) i.symbol (meaning of.operation) i.applied i.named same
  to_operand (Right of x) s i = to_right (T of.left) (T of.right) i.0.symbol (meaning of.operation) x i.0.applied i.0.named i.1 same

  path : (ws : List Walking) (w : Walking) (s u : Tree) → LeadsTo (w ∷ ws) s u → Path t.symbols E s u
  path [] w s u l = subst (Path t.symbols E s) l.1 (one (to_operand w s l.0))
  path (v ∷ ws) w s u l = further (to_operand w s l.0) (path ws v (operand w) u l.1)

  module _ (c : IsConsistent E) where
    pub stuck-in : (w : Walking) (s : Tree) → IsWalkingIn w s → IsStuck t.symbols E (operand w) → IsStuck t.symbols E s
    stuck-in (Left of) s i k = left-stuck t.symbols E c s (T of.left) (T of.right) i.symbol (meaning of.operation) i.applied i.named k
    stuck-in (Right of x) s i k = right-stuck t.symbols E c s (T of.left) (T of.right) i.0.symbol (meaning of.operation) i.0.applied i.0.named x i.1 k

    pub waits-in : (w : Walking) (s : Tree) (x : Var) → IsWalkingIn w s → WaitsOn t.symbols E (operand w) x → WaitsOn t.symbols E s x
    waits-in (Left of) s x i k = in_left i.applied i.named k
    waits-in (Right of y) s x i k = in_right i.0.applied i.0.named i.1 k

    stuck-around : (ws : List Walking) (s u : Tree) → LeadsTo ws s u → IsStuck t.symbols E u → IsStuck t.symbols E s
    stuck-around [] s u l k = subst (IsStuck t.symbols E) (sym l) k
    stuck-around (w ∷ ws) s u l k = stuck-in w s l.0 (stuck-around ws (operand w) u l.1 k)

    waits-around : (ws : List Walking) (s u : Tree) (x : Var) → LeadsTo ws s u → WaitsOn t.symbols E u x → WaitsOn t.symbols E s x
    waits-around [] s u x l k = subst (λ (v : Tree). WaitsOn t.symbols E v x) (sym l) k
    waits-around (w ∷ ws) s u x l k = waits-in w s x l.0 (waits-around ws (operand w) u x l.1 k)

    place_of : (w : Walking) (s : Tree) → IsWalkingIn w s → Equal E s (tree_there t (application w).place)
    place_of (Left of) s i = i.place
    place_of (Right of x) s i = i.0.place

    -- an operation inside itself
    again-stuck : (ws : List Walking) (s u : Tree) (p : Place) → LeadsTo ws s u → IsWalkedAt p ws → Equal E u (tree_there t p) → IsStuck t.symbols E s
    again-stuck [] s u p l m q = absurd m
    again-stuck (w ∷ ws) s u p l (inl e) q = circle-stuck t.symbols E c s u (path ws w s u l)
        (joined (subst (λ (k : Place). Equal E s (tree_there t k)) e (place_of w s l.0)) (turned q))
    again-stuck (w ∷ ws) s u p l (inr m) q = stuck-in w s l.0 (again-stuck ws (operand w) u p l.1 m q)

  -- the expression that is entered, or one with the value that is left with
  abbrev pub IsAt : Tree → List Walking → Step → Type 0
  IsAt root ws (Enter s) = LeadsTo ws root (T s)
  IsAt root ws (Leave z) = (u : Tree) × LeadsTo ws root u × HasValue t.symbols E u z

  pub record IsWalk (root : Tree) (w : Walk) (step : Step) : Type 0 where
    pub is_at : IsAt root w.walking.items step
    pub walked : (p : Place) (z : ℤ) → progress_at w p ≡ Value z → HasValue t.symbols E (tree_there t p) z
    pub inside : (p : Place) → progress_at w p ≡ Begun → IsWalkedAt p w.walking.items

-- what an operation comes to over two values
abbrev pub of_calculated : Option ℤ → Walked
of_calculated (Some z) = walked.Is z
of_calculated None = walked.Never

-- a walk over a solved form of the equations
module _ (t : Template) (bs : List (Var × Term)) (E : Equations) (f : IsFormOf t.nodes bs (IsTold E)) where
  pub consistent : IsConsistent E
  consistent = form-consistent t.nodes bs (IsTold E) f

  to_end : (s : Tree) → Equal E s (end_of t.nodes bs s)
  to_end s = form-follows t.nodes bs (IsTold E) f s

  pub number-is : (s : Tree) (z : ℤ) → end_of t.nodes bs s ≡ integer z → HasValue t.symbols E s z
  number-is s z e = arithmetic.number (subst (Equal E s) e (to_end s))

  pub free-waits : (s : Tree) (x : Var) → end_of t.nodes bs s ≡ variable x → WaitsOn t.symbols E s x
  free-waits s x e =
      let q : Equal E s (variable x) = subst (Equal E s) e (to_end s) in
      here q (λ d. no (structured-end (IsTold E) (end_of t.nodes bs) (form-stays t.nodes bs (IsTold E) f) (form-holds t.nodes bs (IsTold E) f) to_end s d.0 d.1 (joined q d.2) d.3))
    where
      no : HasHead (end_of t.nodes bs s) → ⊥
      no h = let z : None ≡ Some h.0 = sym (ap head_of e) ∙ h.1 in cc

  pub end-stuck : (s : Tree) → IsOther t (end_of t.nodes bs s) → IsStuck t.symbols E s
  end-stuck s o = other-stuck t.symbols E consistent s (end_of t.nodes bs s) o.head (to_end s) o.is_head o.no_integer o.no_operation

  pub is_operation : (s : Tree) (of : Application) → IsApplication t (end_of t.nodes bs s) of → IsOperation t E of s
  is_operation s of a = record {
    symbol = a.symbol;
    named = a.named;
    applied = subst (Equal E s) a.applied (to_end s);
    place = subst (Equal E s) a.place (to_end s);
  }

  -- an operation over two operands that have values
  pub applied-comes : (s : Tree) (of : Application) (x y : ℤ) → IsApplication t (end_of t.nodes bs s) of → HasValue t.symbols E (tree t.nodes of.left) x
      → HasValue t.symbols E (tree t.nodes of.right) y → (r : Option ℤ) → calculated (meaning of.operation) x y ≡ r → Comes t.symbols E s (of_calculated r)
  applied-comes s of x y a l m (Some z) d =
      let o : IsOperation t E of s = is_operation s of a in
      calculated-value t.symbols E consistent s (tree t.nodes of.left) (tree t.nodes of.right) o.symbol (meaning of.operation) o.applied o.named x l y m z d
  applied-comes s of x y a l m None d =
      let o : IsOperation t E of s = is_operation s of a in
      undefined-stuck t.symbols E consistent s (tree t.nodes of.left) (tree t.nodes of.right) o.symbol (meaning of.operation) o.applied o.named x l y m d

  -- how far operations are, after one is begun or walked
  updated : (old new : Walk) (place : Place) (o : Progress) (p : Place) (q : Progress) → ((r : Place) → progress_at new r ≡ cond (same_place place r) o (progress_at old r)) → progress_at new p ≡ q
      → ((place ≡ p) × (o ≡ q)) ⊎ ((same_place place p ≡ false) × (progress_at old p ≡ q))
  updated old new place o p q u e = on (same_place place p) refl (sym (u p) ∙ e)
    where
      on : (k : Bool) → same_place place p ≡ k → cond k o (progress_at old p) ≡ q → ((place ≡ p) × (o ≡ q)) ⊎ ((same_place place p ≡ false) × (progress_at old p ≡ q))
      on true d h = inl (same_place-equal place p d, h)
      on false d h = inr (d, h)

  module _ (root : Tree) (old new : Walk) where
    stays : (step step' : Step) → IsWalk t E root old step → IsSame old new → IsAt t E root old.walking.items step' → IsWalk t E root new step'
    stays step step' h k i = record {
      is_at = subst (λ (l : List Walking). IsAt t E root l step') (sym k.walking) i;
      walked = λ p z e. h.walked p z (sym (k.kept p) ∙ e);
      inside = λ p e. subst (IsWalkedAt p) (sym k.walking) (h.inside p (sym (k.kept p) ∙ e));
    }

    begins-goes : (s : Term) (of : Application) (step : Step) → IsWalk t E root old (Enter s) → IsApplication t (end_of t.nodes bs (tree t.nodes s)) of → Begins old new of (Go step) → IsWalk t E root new step
    begins-goes s of step h a (known {z = z} e k) = stays (Enter s) (Leave z) h k
        (tree t.nodes s, h.is_at, HasValue-along (is_operation (tree t.nodes s) of a).place (h.walked of.place z e))
    begins-goes s of step h a (begins e w u b r) = record {
      is_at = subst (λ (l : List Walking). LeadsTo t E l root (tree t.nodes of.left)) (sym w)
          (LeadsTo-more t E old.walking.items root (tree t.nodes s) (Left of) h.is_at (is_operation (tree t.nodes s) of a));
      walked = λ p z q. elim (updated old new of.place Begun p (Value z) u q) [ inl d ↦ absurd (none d.1) | inr d ↦ h.walked p z d.1 ];
      inside = λ p q. subst (IsWalkedAt p) (sym w) (elim (updated old new of.place Begun p Begun u q) [
        | inl d ↦ subst (λ (k : Place). IsWalkedAt k (old.walking.items ++ Left of ∷ [])) d.0 (at-last old.walking.items (Left of))
        | inr d ↦ at-more p old.walking.items (Left of) (h.inside p d.1)
      ]);
    }
      where
        none : {z : ℤ} → Begun ≡ Value z → ⊥
        none e = cc

    begins-stops : (s : Term) (of : Application) (w : Walked) → IsWalk t E root old (Enter s) → IsApplication t (end_of t.nodes bs (tree t.nodes s)) of → Begins old new of (Stop w)
        → Comes t.symbols E root w
    begins-stops s of w h a (inside_itself e) = again-stuck t E consistent old.walking.items root (tree t.nodes s) of.place h.is_at (h.inside of.place e) (is_operation (tree t.nodes s) of a).place

    enters-goes : (s : Term) (step : Step) → IsWalk t E root old (Enter s) → Enters t bs old new s (Go step) → IsWalk t E root new step
    enters-goes s step h (number {z = z} e k) = stays (Enter s) (Leave z) h k (tree t.nodes s, h.is_at, number-is (tree t.nodes s) z e)
    enters-goes s step h (operation {of = of} a b) = begins-goes s of step h a b

    enters-stops : (s : Term) (w : Walked) → IsWalk t E root old (Enter s) → Enters t bs old new s (Stop w) → Comes t.symbols E root w
    enters-stops s w h (free {x = x} e) = waits-around t E consistent old.walking.items root (tree t.nodes s) x h.is_at (free-waits (tree t.nodes s) x e)
    enters-stops s w h (other o) = stuck-around t E consistent old.walking.items root (tree t.nodes s) h.is_at (end-stuck (tree t.nodes s) o)
    enters-stops s w h (operation {of = of} a b) = begins-stops s of w h a b

    -- the operand that is left, and the operation around it
    around-last : (ws : List Walking) (w : Walking) (u : Tree) → old.walking.items ≡ ws ++ w ∷ [] → LeadsTo t E old.walking.items root u
        → (m : Tree) × LeadsTo t E ws root m × IsWalkingIn t E w m × (operand t E w ≡ u)
    around-last ws w u e l = LeadsTo-last t E ws root u w (subst (λ (k : List Walking). LeadsTo t E k root u) e l)

    leaves-goes : (z : ℤ) (step : Step) → IsWalk t E root old (Leave z) → Leaves old new z (Go step) → IsWalk t E root new step
    leaves-goes z step h (to_right ws of e w u b) =
        let r : (m : Tree) × LeadsTo t E ws root m × IsOperation t E of m × (tree t.nodes of.left ≡ h.is_at.0) = around-last ws (Left of) h.is_at.0 e h.is_at.1 in
        record {
          is_at = subst (λ (l : List Walking). LeadsTo t E l root (tree t.nodes of.right)) (sym w)
              (LeadsTo-more t E ws root r.0 (Right of z) r.1 (r.2, subst (λ (k : Tree). HasValue t.symbols E k z) (sym r.3) h.is_at.2));
          walked = λ p y q. h.walked p y (sym (u p) ∙ q);
          inside = λ p q. subst (IsWalkedAt p) (sym w) (moved p (at-either p ws (Left of) (subst (IsWalkedAt p) e (h.inside p (sym (u p) ∙ q)))));
        }
      where
        moved : (p : Place) → IsWalkedAt p ws ⊎ (of.place ≡ p) → IsWalkedAt p (ws ++ Right of z ∷ [])
        moved p (inl m) = at-more p ws (Right of z) m
        moved p (inr q) = subst (λ (k : Place). IsWalkedAt k (ws ++ Right of z ∷ [])) q (at-last ws (Right of z))
    leaves-goes z step h (out ws of x {v = v} e d w u b) =
        let r : (m : Tree) × LeadsTo t E ws root m × (IsOperation t E of m × HasValue t.symbols E (tree t.nodes of.left) x) × (tree t.nodes of.right ≡ h.is_at.0) =
        around-last ws (Right of x) h.is_at.0 e h.is_at.1 in
        let y : HasValue t.symbols E r.0 v = calculated-value t.symbols E consistent r.0 (tree t.nodes of.left) (tree t.nodes of.right) r.2.0.symbol (meaning of.operation) r.2.0.applied r.2.0.named
        x r.2.1 z (subst (λ (k : Tree). HasValue t.symbols E k z) (sym r.3) h.is_at.2) v d in
        record {
          is_at = (r.0, subst (λ (l : List Walking). LeadsTo t E l root r.0) (sym w) r.1, y);
          walked = λ p k q. elim (updated old new of.place (Value v) p (Value k) u q) [
            | inl g ↦ subst (λ (a : Place). HasValue t.symbols E (tree_there t a) k) g.0 (subst (HasValue t.symbols E (tree_there t of.place)) (same_integer g.1) (HasValue-along (turned r.2.0.place) y))
            | inr g ↦ h.walked p k g.1
          ];
          inside = λ p q. subst (IsWalkedAt p) (sym w) (elim (updated old new of.place (Value v) p Begun u q) [
            | inl g ↦ absurd (some g.1)
            | inr g ↦ elim (at-either p ws (Right of x) (subst (IsWalkedAt p) e (h.inside p g.1))) [ inl m ↦ m | inr k ↦ absurd (differ p k g.0) ]
          ]);
        }
      where
        same_integer : {k : ℤ} → Value v ≡ Value k → v ≡ k
        same_integer q = cc

        some : Value v ≡ Begun → ⊥
        some q = cc

        differ : (p : Place) → of.place ≡ p → same_place of.place p ≡ false → ⊥
        differ p k g =
            let s : same_place p p ≡ false = subst (λ (a : Place). same_place a p ≡ false) k g in
            let m : same_place p p ≡ true = same_place-refl p in
            cc

    nothing-last : (ws : List Walking) (w : Walking) → ws ++ w ∷ [] ≡ [] → ⊥
    nothing-last [] w e = cc
    nothing-last (v ∷ ws) w e = cc

    leaves-stops : (z : ℤ) (w : Walked) → IsWalk t E root old (Leave z) → Leaves old new z (Stop w) → Comes t.symbols E root w
    leaves-stops z w h (last e) =
        let l : root ≡ h.is_at.0 = subst (λ (k : List Walking). LeadsTo t E k root h.is_at.0) e h.is_at.1 in
        subst (λ (k : Tree). HasValue t.symbols E k z) (sym l) h.is_at.2
    leaves-stops z w h (undefined ws of x e d) =
        let r : (m : Tree) × LeadsTo t E ws root m × (IsOperation t E of m × HasValue t.symbols E (tree t.nodes of.left) x) × (tree t.nodes of.right ≡ h.is_at.0) =
        around-last ws (Right of x) h.is_at.0 e h.is_at.1 in
        stuck-around t E consistent ws root r.0 r.1 (undefined-stuck t.symbols E consistent r.0 (tree t.nodes of.left) (tree t.nodes of.right) r.2.0.symbol (meaning of.operation) r.2.0.applied r.2.0.named
        x r.2.1 z (subst (λ (k : Tree). HasValue t.symbols E k z) (sym r.3) h.is_at.2) d)

    pub turn-goes : (step step' : Step) → IsWalk t E root old step → Turns t bs old new step (Go step') → IsWalk t E root new step'
    turn-goes (Enter s) step' h u = enters-goes s step' h u
    turn-goes (Leave z) step' h u = leaves-goes z step' h u

    pub turn-stops : (step : Step) (w : Walked) → IsWalk t E root old step → Turns t bs old new step (Stop w) → Comes t.symbols E root w
    turn-stops (Enter s) w h u = enters-stops s w h u
    turn-stops (Leave z) w h u = leaves-stops z w h u

-- nothing is begun
pub walk-starts : (t : Template) (E : Equations) (s : Term) (w : Walk) → w.walking.items ≡ [] → w.progress.entries ≡ [] → IsWalk t E (tree t.nodes s) w (Enter s)
walk-starts t E s w e k = record {
  is_at = subst (λ (l : List Walking). LeadsTo t E l (tree t.nodes s) (tree t.nodes s)) (sym e) refl;
  walked = λ p z q. absurd (ahead p (λ d. let c : Ahead ≡ Value z = d ∙ q in cc));
  inside = λ p q. absurd (ahead p (λ d. let c : Ahead ≡ Begun = d ∙ q in cc));
}
  where
    ahead : (p : Place) → (Ahead ≡ progress_at w p → ⊥) → ⊥
    ahead p f = f (ap (λ (l : List (Place × Progress)). or_ahead (lookup (same_place p) l)) (sym k))

-- how many turns are left at most
abbrev weight_of : Walking → ℕ
weight_of (Left of) = 3
weight_of (Right of x) = 1

abbrev weight : List Walking → ℕ
weight [] = 0
weight (w ∷ ws) = weight_of w + weight ws

abbrev step_weight : Step → ℕ
step_weight (Enter s) = 1
step_weight (Leave z) = 0

abbrev pub turns_left : Walk → Step → ℕ
turns_left w step = 4 * (2 ^ 64 - w.begun) + weight w.walking.items + step_weight step

weight-more : (ws : List Walking) (w : Walking) → weight (ws ++ w ∷ []) ≡ weight ws + weight_of w
weight-more [] w = omega arith
weight-more (v ∷ ws) w = let h : weight (ws ++ w ∷ []) ≡ weight ws + weight_of w = weight-more ws w in omega arith

enters-falls : (t : Template) (bs : List (Var × Term)) (old new : Walk) (s : Term) (step : Step) → Enters t bs old new s (Go step) → turns_left new step < turns_left old (Enter s)
enters-falls t bs old new s step (number e k) = let b : new.begun ≡ old.begun = k.begun in let l : weight new.walking.items ≡ weight old.walking.items = ap weight k.walking in omega arith
enters-falls t bs old new s step (operation a (known e k)) = let b : new.begun ≡ old.begun = k.begun in let l : weight new.walking.items ≡ weight old.walking.items = ap weight k.walking in omega arith
enters-falls t bs old new s step (operation {of = of} a (begins e w u b r)) =
    let l : weight new.walking.items ≡ weight old.walking.items + 3 = ap weight w ∙ weight-more old.walking.items (Left of) in omega arith

leaves-falls : (old new : Walk) (z : ℤ) (step : Step) → Leaves old new z (Go step) → turns_left new step < turns_left old (Leave z)
leaves-falls old new z step (to_right ws of e w u b) =
    let l : weight new.walking.items ≡ weight ws + 1 = ap weight w ∙ weight-more ws (Right of z) in
    let m : weight old.walking.items ≡ weight ws + 3 = ap weight e ∙ weight-more ws (Left of) in
    omega arith
leaves-falls old new z step (out ws of x e d w u b) =
    let l : weight new.walking.items ≡ weight ws = ap weight w in
    let m : weight old.walking.items ≡ weight ws + 1 = ap weight e ∙ weight-more ws (Right of x) in
    omega arith

pub turn-falls : (t : Template) (bs : List (Var × Term)) (old new : Walk) (step step' : Step) → Turns t bs old new step (Go step') → turns_left new step' < turns_left old step
turn-falls t bs old new (Enter s) step' u = enters-falls t bs old new s step' u
turn-falls t bs old new (Leave z) step' u = leaves-falls old new z step' u
