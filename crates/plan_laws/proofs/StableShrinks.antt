-- A box that is stable in an environment that has grown by nothing that is kept was stable before.
use Rattle.std.proofs.Common.{◌≡◌, List, [], ◌∷◌, ◌++◌, Bool, true, false, refl, sym, ◌∙◌, ap, subst, ◌⊎◌, inl, inr, Option, Some, None, append_assoc, append-nil}
use Rattle.std.specs.Prelude.{if◌then◌else◌, IsSomeAnd}
use Rattle.akl_terms.specs.declared.name.Name.{Name}
use Rattle.akl_terms.specs.declared.name.Var.{Var}
use Rattle.akl_terms.specs.declared.name.Place.{Place}
use Rattle.akl_model.specs.Config.{Operator}
use Rattle.akl_terms.specs.declared.program.Program.{Program}
use Rattle.akl_terms.specs.Tree.{Tree, variable}
use Rattle.akl_terms.specs.Equal.{Equations, IsTold, Equal, turned, joined, Follows, IsConsistent, IsStructured}
use Rattle.akl_terms.proofs.EqualLaws.{Equal-follows, IsConsistent-follows, IsTold-left, IsTold-right, IsTold-either}
use Rattle.akl_model.specs.declared.label.Rule.{Rule}
use Rattle.akl_terms.specs.Touching.{IsOutside, IsUnbound, IsTied, Touches}
use Rattle.akl_terms.specs.Names.{same_name}
use Rattle.akl_model.specs.Config.{Atom, Content, Boxes, no_boxes, box, Goals, no_goals, atom, choice, Held, an_atom, a_choice, held_in, Found, equations_of, environment, whole}
use Rattle.akl_model.specs.Rules.{Reading, answer, receiver, alternative_of}
use Rattle.akl_model.specs.Conditions.{IsSolved, HasFailed, IsQuietBox, ComesTo, GoesTo, MayCut, GuardHolds, MayPromote, AreQuiet, MayCollect, AllowsPlain}
use Rattle.akl_model.specs.Stable.{EachBox, EachInside, only, frames_of, frames_inside, AtomWaitsOn, IsAwaited, TouchesFrom, by_equations, by_waiting, IsStableIn, IsStable}
use Rattle.constraint_laws.specs.Growth.{IsOver, MayGrow, TouchesNothing, AreAmong}
use Rattle.constraint_laws.specs.Bound.{IsNewlyBound}
use Rattle.constraint_laws.proofs.SameTerms.{Either}
use Rattle.constraint_laws.proofs.Decided.{kept_by, equal_or, structured_or}
use Rattle.constraint_laws.proofs.Grown.{Headed-follows, over_kept}
use Rattle.constraint_laws.proofs.Beside.{Beside, beside_own, beside_itself, follows_told}
use Rattle.akl_model.proofs.QuietGrows.{beside_snoc, IsLocal-left, IsLocal-right, equations-snoc}
use Rattle.constraint_laws.proofs.NothingTouched.{quiet_stays}
use Rattle.akl_model.proofs.StableGrows.{untouched_box, change-around, each_held, among_held}
use Rattle.constraint_laws.specs.Touched.{IsAmong}
use Rattle.constraint_laws.proofs.LeavesKept.{LeavesKept, TouchesKept, class_unbound, touches_before, inside_leaves_kept, bound_inside}
use Rattle.constraint_laws.proofs.TouchedLists.{touches_class}
use Rattle.constraint_laws.proofs.ValuesStay.{evaluates_stays, goal_stays}
use Rattle.plan_laws.proofs.AwaitedAtoms.{AwaitsNoneBound, atom_before, awaited_before}

-- more equations leave an atom waiting
atom_stays : (p : Program) {E F : Equations} → Follows E F → (a : Atom) (x : Var) → AtomWaitsOn p E a x → (IsStructured F x → ⊥) → AtomWaitsOn p F a x
atom_stays p f (Atom.arithmetic test l r) x w k = goal_stays f w k
atom_stays p f (Atom.send m r) x w k = (Equal-follows f w.0, k)
atom_stays p f (Atom.equation s t) x w k = absurd w
atom_stays p f (Atom.open_port s t) x w k = absurd w
atom_stays p f (Atom.call d ts r) x w k = absurd w
atom_stays p f Atom.fail x w k = absurd w

alternative_now : (P Q X Y : Found → Type 0) (d e : Found) (inner : List Name) (n : Name) (bs : Boxes) → EachBox P (d.around ++ d.content ∷ []) bs → EachBox Q (e.around ++ e.content ∷ []) bs → AreAmong (frames_of bs) inner
    → ((c : Content) (hs : Goals) → P (record { around = d.around ++ d.content ∷ []; content = c; goals = hs }) → Q (record { around = e.around ++ e.content ∷ []; content = c; goals = hs }) → AreAmong c.frames inner
    → X (record { around = d.around ++ d.content ∷ []; content = c; goals = hs }) → Y (record { around = e.around ++ e.content ∷ []; content = c; goals = hs }))
    → IsSomeAnd (alternative_of d n bs) X → IsSomeAnd (alternative_of e n bs) Y
alternative_now P Q X Y d e inner n no_boxes each now a f x = x
alternative_now P Q X Y d e inner n (box c hs bs) each now a f x = on (same_name n c.name) x
    (λ y. alternative_now P Q X Y d e inner n bs each.2 now.2 (λ v l. a v (IsLocal-right c.frames (frames_inside hs ++ frames_of bs) v (IsLocal-right (frames_inside hs) (frames_of bs) v l))) f y)
  where
    on : (t : Bool) → IsSomeAnd (if t then Some (record { around = d.around ++ d.content ∷ []; content = c; goals = hs }) else alternative_of d n bs) X
        → (IsSomeAnd (alternative_of d n bs) X → IsSomeAnd (alternative_of e n bs) Y)
        → IsSomeAnd (if t then Some (record { around = e.around ++ e.content ∷ []; content = c; goals = hs }) else alternative_of e n bs) Y
    on true y further = f c hs each.0 now.0 (λ v l. a v (IsLocal-left c.frames (frames_inside hs ++ frames_of bs) v l)) y
    on false y further = further y

-- a box, consistent, touches only what is kept, by equations and by waiting
pub record IsKeptIn (p : Program) (kept : List Var) (inner : List Name) (E : Equations) (d : Found) : Type 0 where
  pub each : IsConsistent (whole d) → (x : Var) → TouchesFrom p inner E d x → IsAmong x kept

module _ (p : Program) (kept : List Var) (inner : List Name) (E G : Equations) (m : MayGrow inner E G) (leaves_kept : LeavesKept kept E G) where
  unbound_class : (x : Var) → ((y : Var) → Equal E (variable x) (variable y) → IsAmong y kept) → IsNewlyBound E G x → ⊥
  unbound_class x k b = class_unbound kept E G leaves_kept m.consistent x k b

  -- a class from outside is outside
  class_outside : (x y : Var) → IsOutside inner x → Equal E (variable x) (variable y) → IsOutside inner y
  class_outside x y o e = elim (kept_by (over_kept (IsOutside inner) E m.over_old) e) [ inl r ↦ subst (IsOver (IsOutside inner)) r o | inr r ↦ r.1 ]

  class_unbound_in : (x y : Var) → IsUnbound inner E x → Equal E (variable x) (variable y) → IsUnbound inner E y
  class_unbound_in x y u e = record { outside = class_outside x y u.outside e; unstructured = λ s. u.unstructured (s.0, s.1, joined e s.2, s.3) }

  -- one box, where it is stable in the new environment
  module _ (old new : List Content) (b : Content) (gs : Goals) (beside : Beside E G (equations_of old) (equations_of new))
      (now : IsStableIn p inner G (record { around = new; content = b; goals = gs })) (keeps : IsKeptIn p kept inner E (record { around = old; content = b; goals = gs })) where
    abbrev pub d : Found
    d = record { around = old; content = b; goals = gs }

    abbrev pub e : Found
    e = record { around = new; content = b; goals = gs }

    whole_beside : Beside E G (whole d) (whole e)
    whole_beside = beside_own E G (equations_of old) (equations_of new) b.equations beside

    more : Follows (whole d) (whole e)
    more = follows_told (whole d) (whole e) whole_beside.own_in

    from_outer : Follows E (whole d)
    from_outer = follows_told E (whole d) whole_beside.old_in

    now_consistent : IsConsistent (whole e)
    now_consistent = (untouched_box p inner G e now).consistent

    was_consistent : IsConsistent (whole d)
    was_consistent = IsConsistent-follows more now_consistent

    touched_unbound : (x : Var) → Touches inner E (whole d) x → IsNewlyBound E G x → ⊥
    touched_unbound x t z = unbound_class x (λ y q. keeps.each was_consistent y (by_equations (touches_class inner E (whole d) whole_beside.old_in m.over_old x y q t))) z

    awaited_unbound : (x : Var) → IsUnbound inner E x → IsAwaited p d x → IsNewlyBound E G x → ⊥
    awaited_unbound x u w z = unbound_class x (λ y q. keeps.each was_consistent y (by_waiting (class_unbound_in x y u q)
        (record { goal = w.goal; atom = w.atom; is_goal = w.is_goal; on = w.on; waits = w.waits; equal = joined (turned (Equal-follows from_outer q)) w.equal }))) z

    -- it was touched, so it is
    still_touched : (x : Var) → Touches inner E (whole d) x → ⊥
    still_touched x t = on t.told (structured_or G x)
      where
        on : (IsStructured (whole d) x ⊎ ((y : Var) × IsTied inner E (whole d) x y)) → Either (IsStructured G x) → ⊥
        on q (inl s) = touched_unbound x t (record { unstructured = t.unbound.unstructured; told = inl s })
        on (inl s) (inr n) = now.untouched x (by_equations (record { unbound = record { outside = t.unbound.outside; unstructured = n }; told = inl (Headed-follows more s) }))
        on (inr (y, tie)) (inr n) = tied (structured_or G y) (equal_or G (variable x) (variable y))
          where
            other : Touches inner E (whole d) y
            other = record { unbound = tie.other; told = inr (x, record { other = t.unbound; equal = turned tie.equal; apart = λ q. tie.apart (turned q) }) }

            tied : Either (IsStructured G y) → Either (Equal G (variable x) (variable y)) → ⊥
            tied (inl s) q = touched_unbound y other (record { unstructured = tie.other.unstructured; told = inl s })
            tied (inr k) (inl q) = touched_unbound x t (record { unstructured = t.unbound.unstructured; told = inr (y, q, tie.apart) })
            tied (inr k) (inr q) = now.untouched x (by_equations (record {
              unbound = record { outside = t.unbound.outside; unstructured = n };
              told = inr (y, record { other = record { outside = tie.other.outside; unstructured = k }; equal = Equal-follows more tie.equal; apart = q });
            }))

    still_awaited : (x : Var) → IsUnbound inner E x → IsAwaited p d x → ⊥
    still_awaited x u w = on (structured_or G x) (structured_or (whole e) x)
      where
        on : Either (IsStructured G x) → Either (IsStructured (whole e) x) → ⊥
        on (inl s) q = awaited_unbound x u w (record { unstructured = u.unstructured; told = inl s })
        on (inr n) (inl s) = now.untouched x (by_equations (record { unbound = record { outside = u.outside; unstructured = n }; told = inl s }))
        on (inr n) (inr k) = now.untouched x (by_waiting (record { outside = u.outside; unstructured = n }) (record {
          goal = w.goal;
          atom = w.atom;
          is_goal = w.is_goal;
          on = w.on;
          waits = atom_stays p more w.atom w.on w.waits (λ s. k (s.0, s.1, joined (Equal-follows more w.equal) s.2, s.3));
          equal = Equal-follows more w.equal;
        }))

    pub was_untouched : (x : Var) → TouchesFrom p inner E d x → ⊥
    was_untouched x (by_equations t) = still_touched x t
    was_untouched x (by_waiting u w) = still_awaited x u w

    pub touched_nothing : TouchesNothing inner E (whole d)
    touched_nothing = record { consistent = was_consistent; untouched = still_touched }

  -- each box inside touched nothing
  mutual
    nothing_touched : (old new : List Content) (bs : Boxes) → Beside E G (equations_of old) (equations_of new) → EachBox (IsKeptIn p kept inner E) old bs → EachBox (IsStableIn p inner G) new bs
        → EachBox (λ (u : Found). TouchesNothing inner E (whole u)) old bs
    nothing_touched old new no_boxes h each now = tt
    nothing_touched old new (box b gs bs) h each now = (
      touched_nothing old new b gs h now.0 each.0,
      nothing_touched_inside (old ++ b ∷ []) (new ++ b ∷ []) gs (beside_snoc E G old new b h) each.1 now.1,
      nothing_touched old new bs h each.2 now.2,
    )

    nothing_touched_inside : (old new : List Content) (gs : Goals) → Beside E G (equations_of old) (equations_of new) → EachInside (IsKeptIn p kept inner E) old gs → EachInside (IsStableIn p inner G) new gs
        → EachInside (λ (u : Found). TouchesNothing inner E (whole u)) old gs
    nothing_touched_inside old new no_goals h each now = tt
    nothing_touched_inside old new (atom k c gs) h each now = nothing_touched_inside old new gs h each now
    nothing_touched_inside old new (choice k o bs gs) h each now = (nothing_touched old new bs h each.0 now.0, nothing_touched_inside old new gs h each.1 now.1)

  -- and no rule was there but one that is
  module _ (old new : List Content) (b : Content) (gs : Goals) (beside : Beside E G (equations_of old) (equations_of new)) (among : AreAmong (frames_inside gs) inner)
      (now : IsStableIn p inner G (record { around = new; content = b; goals = gs })) (keeps : IsKeptIn p kept inner E (record { around = old; content = b; goals = gs }))
      (each : EachInside (λ (u : Found). TouchesNothing inner E (whole u)) (old ++ b ∷ []) gs) (each_now : EachInside (IsStableIn p inner G) (new ++ b ∷ []) gs) where
    abbrev D : Found
    D = record { around = old; content = b; goals = gs }

    abbrev F : Found
    F = record { around = new; content = b; goals = gs }

    grows : Follows (whole D) (whole F)
    grows = more old new b gs beside now keeps

    holder_beside : Beside E G (equations_of (old ++ b ∷ [])) (equations_of (new ++ b ∷ []))
    holder_beside = beside_snoc E G old new b beside

    holder_untouched : TouchesNothing inner E (equations_of (old ++ b ∷ []))
    holder_untouched = subst (TouchesNothing inner E) (sym (equations-snoc old b)) (touched_nothing old new b gs beside now keeps)

    comes_now : (v : Reading) (k : Option Held) → ComesTo p v D k → ComesTo p v F k
    comes_now (answer a) (Some (an_atom (Atom.arithmetic test l r))) x = (now_consistent old new b gs beside now keeps, evaluates_stays grows x.1)
    comes_now v _ x = absurd x

    goes_now : (v : Reading) (k : Option Held) → GoesTo v D k → GoesTo v F k
    goes_now (receiver q) (Some (an_atom (Atom.send t s))) x = (now_consistent old new b gs beside now keeps, Equal-follows grows x.1)
    goes_now v _ x = absurd x

    quiet_now : (c : Content) (hs : Goals) → TouchesNothing inner E (whole (record { around = old ++ b ∷ []; content = c; goals = hs })) → AreAmong c.frames inner
        → IsQuietBox (record { around = old ++ b ∷ []; content = c; goals = hs }) → IsQuietBox (record { around = new ++ b ∷ []; content = c; goals = hs })
    quiet_now c hs s a q = quiet_stays inner c.frames E G (equations_of (old ++ b ∷ [])) (equations_of (new ++ b ∷ [])) c.equations m holder_beside holder_untouched s a q

    guard_now : (o : Operator) (c : Content) (hs : Goals) → TouchesNothing inner E (whole (record { around = old ++ b ∷ []; content = c; goals = hs })) → IsStableIn p inner G (record { around = new ++ b ∷ []; content = c; goals = hs })
        → AreAmong c.frames inner → GuardHolds o (record { around = old ++ b ∷ []; content = c; goals = hs }) → GuardHolds o (record { around = new ++ b ∷ []; content = c; goals = hs })
    guard_now Operator.condition c hs s t a q = quiet_now c hs s a q
    guard_now Operator.commit c hs s t a q = quiet_now c hs s a q
    guard_now (Operator.collecting r) c hs s t a q = absurd q
    guard_now Operator.nondeterminate c hs s t a q = (untouched_box p inner G (record { around = new ++ b ∷ []; content = c; goals = hs }) t).consistent

    cut_now : (h n : Name) (k : Option Held) → held_in h gs ≡ k → MayCut n D k → MayCut n F k
    cut_now h n (Some (a_choice o bs)) i x = (
      alternative_now (λ (u : Found). TouchesNothing inner E (whole u)) (IsStableIn p inner G) (λ (a : Found). IsSolved a.goals × IsQuietBox a) (λ (a : Found). IsSolved a.goals × IsQuietBox a) D F inner n bs
          (each_held (λ (u : Found). TouchesNothing inner E (whole u)) (old ++ b ∷ []) h o bs gs each i) (each_held (IsStableIn p inner G) (new ++ b ∷ []) h o bs gs each_now i)
          (among_held inner h o bs gs among i) (λ c hs s t a q. (q.0, quiet_now c hs s a q.1)) x.0,
      x.1,
    )
    cut_now h n _ i x = absurd x

    promote_now : (h n : Name) (k : Option Held) → held_in h gs ≡ k → MayPromote n D k → MayPromote n F k
    promote_now h n (Some (a_choice o bs)) i x = alternative_now (λ (u : Found). TouchesNothing inner E (whole u)) (IsStableIn p inner G) (GuardHolds o) (GuardHolds o) D F inner n bs
        (each_held (λ (u : Found). TouchesNothing inner E (whole u)) (old ++ b ∷ []) h o bs gs each i) (each_held (IsStableIn p inner G) (new ++ b ∷ []) h o bs gs each_now i)
        (among_held inner h o bs gs among i) (λ c hs s t a q. guard_now o c hs s t a q) x
    promote_now h n _ i x = absurd x

    all_now : (bs : Boxes) → EachBox (λ (u : Found). TouchesNothing inner E (whole u)) (old ++ b ∷ []) bs → AreAmong (frames_of bs) inner → AreQuiet D bs → AreQuiet F bs
    all_now no_boxes each a x = tt
    all_now (box c hs bs) each a x = (
      quiet_now c hs each.0 (λ v l. a v (IsLocal-left c.frames (frames_inside hs ++ frames_of bs) v l)) x.0,
      all_now bs each.2 (λ v l. a v (IsLocal-right c.frames (frames_inside hs ++ frames_of bs) v (IsLocal-right (frames_inside hs) (frames_of bs) v l))) x.1,
    )

    collect_now : (h : Name) (k : Option Held) → held_in h gs ≡ k → MayCollect D k → MayCollect F k
    collect_now h (Some (a_choice (Operator.collecting r) bs)) i x =
        all_now bs (each_held (λ (u : Found). TouchesNothing inner E (whole u)) (old ++ b ∷ []) h (Operator.collecting r) bs gs each i) (among_held inner h (Operator.collecting r) bs gs among i) x
    collect_now h _ i x = absurd x

    fail_now : ((IsConsistent (whole D) → ⊥) ⊎ HasFailed gs) → (IsConsistent (whole F) → ⊥) ⊎ HasFailed gs
    fail_now (inl n) = absurd (n (was_consistent old new b gs beside now keeps))
    fail_now (inr h) = inr h

    allowed_now : (v : Reading) (r : Rule) (place : Place) (alternative : Option Name) → AllowsPlain p v r place alternative D → AllowsPlain p v r place alternative F
    allowed_now v Rule.Tell place a x = tt
    allowed_now v Rule.Fork place a x = tt
    allowed_now v Rule.Open place a x = tt
    allowed_now v Rule.Eval (Place.Goal h) a x = comes_now v (held_in h gs) x
    allowed_now v Rule.Send (Place.Goal h) a x = goes_now v (held_in h gs) x
    allowed_now v Rule.Fail (Place.Box n) a x = fail_now x
    allowed_now v Rule.Cut (Place.Goal h) (Some n) x = cut_now h n (held_in h gs) refl x
    allowed_now v Rule.Promote (Place.Goal h) (Some n) x = promote_now h n (held_in h gs) refl x
    allowed_now v Rule.Collect (Place.Goal h) None x = collect_now h (held_in h gs) refl x
    allowed_now v _ place a x = absurd x

    no_split : (v : Reading) (r : Rule) (place : Place) (alternative : Option Name) → AllowsPlain p v r place alternative D → r ≡ Rule.Split → ⊥
    no_split v r place a x i = subst (λ (s : Rule). AllowsPlain p v s place a D) i x

    pub was_stable : IsStableIn p inner E D
    was_stable = record {
      no_rule = λ l next c k. now.no_rule l next c (record {
        reading = k.reading;
        change = change-around p k.reading l.worker next l.rule l.place l.alternative old new b gs (no_split k.reading l.rule l.place l.alternative k.allowed) ∙ k.change;
        allowed = allowed_now k.reading l.rule l.place l.alternative k.allowed;
        few_names = k.few_names;
      });
      untouched = was_untouched old new b gs beside now keeps;
    }

  mutual
    boxes_were_stable : (old new : List Content) (bs : Boxes) → Beside E G (equations_of old) (equations_of new) → AreAmong (frames_of bs) inner → EachBox (IsKeptIn p kept inner E) old bs
        → EachBox (λ (u : Found). TouchesNothing inner E (whole u)) old bs → EachBox (IsStableIn p inner G) new bs → EachBox (IsStableIn p inner E) old bs
    boxes_were_stable old new no_boxes h a keeps each now = tt
    boxes_were_stable old new (box b gs bs) h a keeps each now = (
      was_stable old new b gs h (λ x l. a x (IsLocal-right b.frames (frames_inside gs ++ frames_of bs) x (IsLocal-left (frames_inside gs) (frames_of bs) x l))) now.0 keeps.0 each.1 now.1,
      goals_were_stable (old ++ b ∷ []) (new ++ b ∷ []) gs (beside_snoc E G old new b h)
          (λ x l. a x (IsLocal-right b.frames (frames_inside gs ++ frames_of bs) x (IsLocal-left (frames_inside gs) (frames_of bs) x l))) keeps.1 each.1 now.1,
      boxes_were_stable old new bs h (λ x l. a x (IsLocal-right b.frames (frames_inside gs ++ frames_of bs) x (IsLocal-right (frames_inside gs) (frames_of bs) x l))) keeps.2 each.2 now.2,
    )

    goals_were_stable : (old new : List Content) (gs : Goals) → Beside E G (equations_of old) (equations_of new) → AreAmong (frames_inside gs) inner → EachInside (IsKeptIn p kept inner E) old gs
        → EachInside (λ (u : Found). TouchesNothing inner E (whole u)) old gs → EachInside (IsStableIn p inner G) new gs → EachInside (IsStableIn p inner E) old gs
    goals_were_stable old new no_goals h a keeps each now = tt
    goals_were_stable old new (atom k c gs) h a keeps each now = goals_were_stable old new gs h a keeps each now
    goals_were_stable old new (choice k o bs gs) h a keeps each now = (
      boxes_were_stable old new bs h (λ x l. a x (IsLocal-left (frames_of bs) (frames_inside gs) x l)) keeps.0 each.0 now.0,
      goals_were_stable old new gs h (λ x l. a x (IsLocal-right (frames_of bs) (frames_inside gs) x l)) keeps.1 each.1 now.1,
    )

  -- what is kept stays enough
  module _ (old new : List Content) (b : Content) (gs : Goals) (X : Equations) (qo : equations_of old ≡ E ++ X) (qn : equations_of new ≡ G ++ X)
      (keeps : IsKeptIn p kept inner E (record { around = old; content = b; goals = gs })) where
    abbrev C : Equations
    C = X ++ b.equations

    old_is : equations_of old ++ b.equations ≡ E ++ C
    old_is = ap (λ (A : Equations). A ++ b.equations) qo ∙ append_assoc E X b.equations

    new_is : equations_of new ++ b.equations ≡ G ++ C
    new_is = ap (λ (A : Equations). A ++ b.equations) qn ∙ append_assoc G X b.equations

    grown : (s t : Tree) → IsTold (E ++ C) s t → IsTold (G ++ C) s t
    grown s t k = elim (IsTold-either E C s t k) [ inl x ↦ IsTold-left G C s t (leaves_kept.keeps s t x) | inr x ↦ IsTold-right G C s t x ]

    module _ (still : IsConsistent (G ++ C)) where
      before : IsConsistent (E ++ C)
      before = IsConsistent-follows (follows_told (E ++ C) (G ++ C) grown) still

      touched : TouchesKept kept inner E (E ++ C)
      touched = record {
        each = λ x t. keeps.each (subst IsConsistent (sym old_is) before) x (by_equations (subst (λ (A : Equations). Touches inner E A x) (sym old_is) t));
      }

      waits_kept : (x : Var) → IsUnbound inner E x → (g : Name) (a : Atom) → held_in g gs ≡ Some (an_atom a) → (y : Var) → AtomWaitsOn p (E ++ C) a y → Equal (E ++ C) (variable x) (variable y) → IsAmong x kept
      waits_kept x u g a h y k q = keeps.each (subst IsConsistent (sym old_is) before) x (by_waiting u (record {
        goal = g;
        atom = a;
        is_goal = h;
        on = y;
        waits = subst (λ (A : Equations). AtomWaitsOn p A a y) (sym old_is) k;
        equal = subst (λ (A : Equations). Equal A (variable x) (variable y)) (sym old_is) q;
      }))

      none_bound : (g : Name) (a : Atom) → held_in g gs ≡ Some (an_atom a) → AwaitsNoneBound p a (E ++ C) (G ++ C)
      none_bound g a h z k z2 =
          let w : (y : Var) × Equal (E ++ C) (variable z) (variable y) × IsUnbound inner E y × (IsAmong y kept → ⊥) = bound_inside kept E G leaves_kept m.consistent inner C m.over_new before touched z z2 in
          w.3 (waits_kept w.0 w.2 g a h z k (turned w.1))

      now_leaves_kept : LeavesKept kept (E ++ C) (G ++ C)
      now_leaves_kept = inside_leaves_kept kept E G leaves_kept m.consistent inner C m.over_new before touched

      pub kept_now : (x : Var) → TouchesFrom p inner G (record { around = new; content = b; goals = gs }) x → IsAmong x kept
      kept_now x (by_equations t) = touched.each x (touches_before kept E G leaves_kept m.consistent inner C m.over_new before touched x (subst (λ (A : Equations). Touches inner G A x) new_is t))
      kept_now x (by_waiting u w) =
          let k : AtomWaitsOn p (G ++ C) w.atom w.on = subst (λ (A : Equations). AtomWaitsOn p A w.atom w.on) new_is w.waits in
          let q : Equal (G ++ C) (variable x) (variable w.on) = subst (λ (A : Equations). Equal A (variable x) (variable w.on)) new_is w.equal in
          let z : (z : Var) × AtomWaitsOn p (E ++ C) w.atom z × Equal (G ++ C) (variable z) (variable w.on) = atom_before kept (E ++ C) (G ++ C) now_leaves_kept still p w.atom w.on (none_bound w.goal w.atom w.is_goal) k in
          let r : Equal (E ++ C) (variable z.0) (variable x) = awaited_before kept (E ++ C) (G ++ C) now_leaves_kept still p w.atom (none_bound w.goal w.atom w.is_goal) x z.0 z.1 (joined z.2 (turned q)) in
          waits_kept x (record { outside = u.outside; unstructured = λ s. u.unstructured (Headed-follows (follows_told E G leaves_kept.keeps) s) }) w.goal w.atom w.is_goal z.0 z.1 (turned r)

    pub keeps_now : IsKeptIn p kept inner G (record { around = new; content = b; goals = gs })
    keeps_now = record { each = λ still x t. kept_now (subst IsConsistent new_is still) x t }

  further_is : (around : List Content) (b : Content) (A X : Equations) → equations_of around ≡ A ++ X → equations_of (around ++ b ∷ []) ≡ A ++ (X ++ b.equations)
  further_is around b A X q = equations-snoc around b ∙ ap (λ (Y : Equations). Y ++ b.equations) q ∙ append_assoc A X b.equations

  mutual
    boxes_keep : (old new : List Content) (bs : Boxes) (X : Equations) → equations_of old ≡ E ++ X → equations_of new ≡ G ++ X → EachBox (IsKeptIn p kept inner E) old bs → EachBox (IsKeptIn p kept inner G) new bs
    boxes_keep old new no_boxes X qo qn each = tt
    boxes_keep old new (box b gs bs) X qo qn each = (
      keeps_now old new b gs X qo qn each.0,
      goals_keep (old ++ b ∷ []) (new ++ b ∷ []) gs (X ++ b.equations) (further_is old b E X qo) (further_is new b G X qn) each.1,
      boxes_keep old new bs X qo qn each.2,
    )

    goals_keep : (old new : List Content) (gs : Goals) (X : Equations) → equations_of old ≡ E ++ X → equations_of new ≡ G ++ X → EachInside (IsKeptIn p kept inner E) old gs → EachInside (IsKeptIn p kept inner G) new gs
    goals_keep old new no_goals X qo qn each = tt
    goals_keep old new (atom k c gs) X qo qn each = goals_keep old new gs X qo qn each
    goals_keep old new (choice k o bs gs) X qo qn each = (boxes_keep old new bs X qo qn each.0, goals_keep old new gs X qo qn each.1)

-- over a whole box
pub stable_before : (p : Program) (kept : List Var) (f : Found) (around : List Content) → MayGrow (frames_of (only f)) (environment f) (equations_of around) → LeavesKept kept (environment f) (equations_of around)
    → EachBox (IsKeptIn p kept (frames_of (only f)) (environment f)) f.around (only f) → IsStable p (record f { around = around }) → IsStable p f
stable_before p kept f around m h keeps s = record {
  each = boxes_were_stable p kept (frames_of (only f)) (environment f) (equations_of around) m h f.around around (only f) side (λ x l. l) keeps
      (nothing_touched p kept (frames_of (only f)) (environment f) (equations_of around) m h f.around around (only f) side keeps s.each) s.each;
}
  where
    side : Beside (environment f) (equations_of around) (environment f) (equations_of around)
    side = beside_itself (frames_of (only f)) (environment f) (equations_of around) m

pub keeps_further : (p : Program) (kept : List Var) (f : Found) (around : List Content) → MayGrow (frames_of (only f)) (environment f) (equations_of around) → LeavesKept kept (environment f) (equations_of around)
    → EachBox (IsKeptIn p kept (frames_of (only f)) (environment f)) f.around (only f) → EachBox (IsKeptIn p kept (frames_of (only f)) (equations_of around)) around (only f)
keeps_further p kept f around m h keeps = boxes_keep p kept (frames_of (only f)) (environment f) (equations_of around) m h f.around around (only f) [] (sym (append-nil (environment f))) (sym (append-nil (equations_of around))) keeps
