-- A box in boxes around which equations are added that bind nothing that it touches: it is as quiet, as stable and as long waiting as it was.
use Rattle.std.proofs.Common.{◌≡◌, List, [], ◌∷◌, ◌++◌, sym, ◌∙◌, ap, subst, inl, inr, Some, append_assoc, append-nil}
use Rattle.akl_terms.specs.declared.name.Name.{Name}
use Rattle.akl_terms.specs.declared.name.Var.{Var}
use Rattle.akl_terms.specs.declared.program.Program.{Program}
use Rattle.akl_terms.specs.Tree.{Tree}
use Rattle.akl_terms.specs.Equal.{Equations, IsTold, turned, joined, Follows, IsConsistent, IsStructured}
use Rattle.akl_terms.specs.Touching.{IsOutside, Touches}
use Rattle.akl_terms.proofs.EqualLaws.{Equal-follows, IsTold-left}
use Rattle.akl_model.specs.Config.{Atom, Content, Goals, an_atom, held_in, Found, equations_of, whole}
use Rattle.akl_model.specs.Conditions.{IsQuietBox}
use Rattle.akl_model.specs.Stable.{AtomWaitsOn, TouchesFrom, by_equations, by_waiting, IsStableIn}
use Rattle.akl_model.proofs.QuietGrows.{equations-snoc}
use Rattle.constraint_laws.specs.Growth.{TellsOver}
use Rattle.constraint_laws.specs.Bound.{IsNewlyBound}
use Rattle.constraint_laws.specs.Inward.{Adding, IsBoundBy}
use Rattle.constraint_laws.proofs.SameTerms.{Either}
use Rattle.constraint_laws.proofs.Decided.{structured_or}
use Rattle.constraint_laws.proofs.Beside.{follows_told}
use Rattle.constraint_laws.proofs.Inward.{bound_outer, Reached, reached_itself, reached_further}
use Rattle.constraint_laws.proofs.ValuesStay.{goal_stays}
use Rattle.plan_laws.proofs.AwaitedAtoms.{AwaitsNoneBound, still_waits}
use Rattle.why_laws.specs.Sound.{IsIdle}
use Rattle.why_laws.proofs.IdleBoxes.{no_plain}
use Rattle.why_laws.proofs.StaysTouched.{none_kept, TouchesUnbound, was_untouched, quiet_untouched, untouched_quiet}

-- more equations leave an atom waiting
atom_stays : (p : Program) {E F : Equations} → Follows E F → (a : Atom) (x : Var) → AtomWaitsOn p E a x → (IsStructured F x → ⊥) → AtomWaitsOn p F a x
atom_stays p f (Atom.arithmetic test l r) x w k = goal_stays f w k
atom_stays p f (Atom.send m r) x w k = (Equal-follows f w.0, k)
atom_stays p f (Atom.equation s t) x w k = absurd w
atom_stays p f (Atom.open_port s t) x w k = absurd w
atom_stays p f (Atom.call d ts r) x w k = absurd w
atom_stays p f Atom.fail x w k = absurd w

-- a box is consistent, and touches from outside of the outer frames nothing that is bound from first to new
pub record Unbinds (p : Program) (outer : List Name) (first new : Equations) (d : Found) : Type 0 where
  pub consistent : IsConsistent (whole d)
  pub none : (x : Var) → TouchesFrom p outer first d x → IsNewlyBound first new x → ⊥

-- around a box stand boxes that told first, and now tell new, and the same besides
pub record GrownAround (first new : Equations) (old now : List Content) : Type 0 where
  pub besides : Equations
  pub is_old : equations_of old ≡ first ++ besides
  pub is_new : equations_of now ≡ new ++ besides
  pub reached : Reached first new (equations_of old) (equations_of now)

-- nothing besides
pub grown_first : (old now : List Content) → Adding (equations_of old) (equations_of now) → GrownAround (equations_of old) (equations_of now) old now
grown_first old now a = record {
  besides = [];
  is_old = sym (append-nil (equations_of old));
  is_new = sym (append-nil (equations_of now));
  reached = reached_itself (equations_of old) (equations_of now) a;
}

-- equations that they told, and what these have grown to
pub record AreTold (E G : Equations) (old now : List Content) : Type 0 where
  pub in_old : (s t : Tree) → IsTold E s t → IsTold (equations_of old) s t
  pub in_now : (s t : Tree) → IsTold G s t → IsTold (equations_of now) s t

-- they tell them further in too
pub told_inwards : (E G : Equations) (old now : List Content) (b : Content) → AreTold E G old now → AreTold E G (old ++ b ∷ []) (now ++ b ∷ [])
told_inwards E G old now b a = record { in_old = λ s t m. within old s t (a.in_old s t m); in_now = λ s t m. within now s t (a.in_now s t m) }
  where
    within : (around : List Content) (s t : Tree) → IsTold (equations_of around) s t → IsTold (equations_of (around ++ b ∷ [])) s t
    within around s t m = subst (λ (A : Equations). IsTold A s t) (sym (equations-snoc around b)) (IsTold-left (equations_of around) b.equations s t m)

module _ (p : Program) (outer : List Name) (first new : Equations) (over : TellsOver (IsOutside outer) new) (adding : Adding first new)
    (old now : List Content) (g : GrownAround first new old now) (b : Content) (gs : Goals) (u : Unbinds p outer first new (record { around = old; content = b; goals = gs })) where
  abbrev was : Found
  was = record { around = old; content = b; goals = gs }

  abbrev is : Found
  is = record { around = now; content = b; goals = gs }

  abbrev inner : Equations
  inner = g.besides ++ b.equations

  old_is : whole was ≡ first ++ inner
  old_is = ap (λ (A : Equations). A ++ b.equations) g.is_old ∙ append_assoc first g.besides b.equations

  new_is : whole is ≡ new ++ inner
  new_is = ap (λ (A : Equations). A ++ b.equations) g.is_new ∙ append_assoc new g.besides b.equations

  -- what is bound further in is equal to what is bound by the equations that are added
  pub reaches : Reached first new (whole was) (whole is)
  reaches = subst (λ (A : Equations). Reached first new A (whole is)) (sym old_is) (subst (λ (A : Equations). Reached first new (first ++ inner) A) (sym new_is)
      (reached_further first new first new (record { inner = outer; own = inner }) (reached_itself first new adding) (record {
        over = over;
        consistent = subst IsConsistent old_is u.consistent;
        none_bound = λ x t n. u.none x (by_equations (subst (λ (A : Equations). Touches outer first A x) (sym old_is) t)) n;
      })))

  -- so it is in the boxes inside
  pub grown_inwards : GrownAround first new (old ++ b ∷ []) (now ++ b ∷ [])
  grown_inwards = record {
    besides = inner;
    is_old = equations-snoc old b ∙ old_is;
    is_new = equations-snoc now b ∙ new_is;
    reached = subst (λ (A : Equations). Reached first new A (equations_of (now ++ b ∷ []))) (sym (equations-snoc old b))
        (subst (λ (A : Equations). Reached first new (whole was) A) (sym (equations-snoc now b)) reaches);
  }

  grows : Follows (whole was) (whole is)
  grows = follows_told (whole was) (whole is) reaches.beside.own_in

  unbound : TouchesUnbound outer first new (whole was)
  unbound x t n = u.none x (by_equations t) n

  -- nothing on which its atoms wait is bound
  pub awaits : (k : Name) (a : Atom) → held_in k gs ≡ Some (an_atom a) → AwaitsNoneBound p a (whole was) (whole is)
  awaits k a i x w n =
      let v : IsBoundBy first new (whole was) x = reaches.bound x n in
      u.none v.by (by_waiting (record { outside = bound_outer (IsOutside outer) first new over v.by v.bound; unstructured = v.bound.unstructured })
      (record { goal = k; atom = a; is_goal = i; on = x; waits = w; equal = turned v.equal })) v.bound

  -- an alternative of the box around it that is quiet was so
  pub was_quiet : IsQuietBox is → IsQuietBox was
  was_quiet q = untouched_quiet b.frames (equations_of old) b.equations (record {
    consistent = u.consistent;
    untouched = was_untouched outer first new over (equations_of old) (equations_of now) g.reached (whole was) (whole is)
        (follows_told (equations_of old) (whole was) (λ s t m. IsTold-left (equations_of old) b.equations s t m))
        (follows_told (equations_of now) (whole is) (λ s t m. IsTold-left (equations_of now) b.equations s t m))
        grows unbound b.frames (quiet_untouched b.frames (equations_of now) b.equations q);
  })

  -- where it is stable in a box around it was
  module _ (frames : List Name) (E G : Equations) (outside : Reached first new E G) (told : AreTold E G old now) (idle : IsIdle p was) (stable : IsStableIn p frames G is) where
    in_old : Follows E (whole was)
    in_old = follows_told E (whole was) (λ s t m. IsTold-left (equations_of old) b.equations s t (told.in_old s t m))

    in_now : Follows G (whole is)
    in_now = follows_told G (whole is) (λ s t m. IsTold-left (equations_of now) b.equations s t (told.in_now s t m))

    untouched : (x : Var) → TouchesFrom p frames E was x → ⊥
    untouched x (by_equations t) = was_untouched outer first new over E G outside (whole was) (whole is) in_old in_now grows unbound frames (λ y k. stable.untouched y (by_equations k)) x t
    untouched x (by_waiting v w) = on (structured_or G x)
      where
        free : IsStructured (whole is) w.on → ⊥
        free s = still_waits [] (whole was) (whole is) (none_kept (whole was) (whole is) reaches.beside.own_in) reaches.consistent p w.atom (awaits w.goal w.atom w.is_goal) w.on w.waits s

        on : Either (IsStructured G x) → ⊥
        on (inl s) = free (s.0, s.1, joined (turned (Equal-follows grows w.equal)) (Equal-follows in_now s.2), s.3)
        on (inr n) = stable.untouched x (by_waiting (record { outside = v.outside; unstructured = n }) (record {
          goal = w.goal;
          atom = w.atom;
          is_goal = w.is_goal;
          on = w.on;
          waits = atom_stays p grows w.atom w.on w.waits free;
          equal = Equal-follows grows w.equal;
        }))

    pub was_stable : IsStableIn p frames E was
    was_stable = record { no_rule = no_plain p was idle; untouched = untouched }
