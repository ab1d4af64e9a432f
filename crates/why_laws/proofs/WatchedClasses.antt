-- What a root box watches are whole classes of its equations, none of them structured.
use Rattle.std.proofs.Common.{◌≡◌, List, [], ◌∷◌, ◌++◌, Some, sym, ◌∙◌, ap, subst, inl, inr, append-nil}
use Rattle.akl_terms.specs.declared.name.Name.{Name}
use Rattle.akl_terms.specs.declared.name.Var.{Var}
use Rattle.akl_terms.specs.declared.program.Program.{Program}
use Rattle.akl_terms.specs.declared.program.Query.{Query}
use Rattle.akl_terms.specs.Tree.{Tree, variable}
use Rattle.akl_terms.specs.Equal.{Equations, IsTold, Equal, same, turned, joined, IsStructured}
use Rattle.akl_terms.specs.Touching.{IsOutside, IsUnbound}
use Rattle.akl_terms.proofs.EqualLaws.{Equal-follows, IsTold-left}
use Rattle.akl_model.specs.declared.label.Rule.{Rule}
use Rattle.akl_model.specs.declared.label.Label.{Label}
use Rattle.akl_model.specs.Config.{IsIn, Atom, Operator, Content, Boxes, Goals, Config, an_atom, a_choice, held_in, Found, equations_of, environment, whole, box_at}
use Rattle.akl_model.specs.Rules.{alternative_of}
use Rattle.akl_model.specs.Stable.{only, frames_of, AtomWaitsOn, TouchesFrom, by_equations, by_waiting}
use Rattle.akl_model.specs.Scopes.{nowhere}
use Rattle.akl_model.specs.Derivations.{Replays}
use Rattle.akl_model.proofs.Scoped.{IsIn-either}
use Rattle.akl_model.proofs.ScopesAlong.{scope_along}
use Rattle.constraint_laws.specs.Growth.{IsOver, TellsOver}
use Rattle.constraint_laws.proofs.Decided.{kept_by}
use Rattle.constraint_laws.proofs.Grown.{over_kept}
use Rattle.constraint_laws.proofs.Beside.{follows_told}
use Rattle.constraint_laws.proofs.NoEquations.{nothing_structured}
use Rattle.constraint_laws.proofs.TouchedLists.{touches_class}
use Rattle.constraint_laws.proofs.ValuesBefore.{goal_free}
use Rattle.step_laws.specs.Whereabouts.{BoxIn, Stands}
use Rattle.step_laws.proofs.Whereabouts.{found_in, in_found}
use Rattle.step_laws.proofs.Stays.{alternative_in, alternative_stands}
use Rattle.plan_laws.proofs.InScope.{Good, outside_environment}
use Rattle.plan_laws.proofs.Moves.{told_further}
use Rattle.plan_laws.proofs.Replayed.{good_replay}
use Rattle.plan_laws.proofs.Concerned.{touches_in_scope, inside_around}
use Rattle.plan_laws.proofs.Frames.{some_found}
use Rattle.why_laws.specs.Watched.{TouchesWithin, Watches, by_atom, by_choice}
use Rattle.why_laws.proofs.BoxesInside.{some_where}

-- an atom waits on a variable that isn't structured
awaited_free : (p : Program) (E : Equations) (a : Atom) (x : Var) → AtomWaitsOn p E a x → IsStructured E x → ⊥
awaited_free p E (Atom.arithmetic test l r) x w = goal_free w
awaited_free p E (Atom.send m r) x w = w.1
awaited_free p E (Atom.equation s t) x w = absurd w
awaited_free p E (Atom.open_port s t) x w = absurd w
awaited_free p E (Atom.call d ts r) x w = absurd w
awaited_free p E Atom.fail x w = absurd w

touched_free : (p : Program) (inner : List Name) (E : Equations) (d : Found) (x : Var) → TouchesFrom p inner E d x → IsStructured E x → ⊥
touched_free p inner E d x (by_equations t) = t.unbound.unstructured
touched_free p inner E d x (by_waiting u w) = u.unstructured

-- a box that touches a variable touches what is equal to it by the environment
module _ (p : Program) (inner : List Name) (E : Equations) (d : Found) (over : TellsOver (IsOutside inner) E) (keeps : (s t : Tree) → IsTold E s t → IsTold (whole d) s t) (x y : Var) (e : Equal E (variable x) (variable y)) where
  other_unbound : IsUnbound inner E x → IsUnbound inner E y
  other_unbound u = record {
    outside = elim (kept_by (over_kept (IsOutside inner) E over) e) [ inl r ↦ subst (IsOver (IsOutside inner)) r u.outside | inr r ↦ r.1 ];
    unstructured = λ s. u.unstructured (s.0, s.1, joined e s.2, s.3);
  }

  touches_other : TouchesFrom p inner E d x → TouchesFrom p inner E d y
  touches_other (by_equations t) = by_equations (touches_class inner E (whole d) keeps over x y e t)
  touches_other (by_waiting u w) = by_waiting (other_unbound u)
      (record { goal = w.goal; atom = w.atom; is_goal = w.is_goal; on = w.on; waits = w.waits; equal = joined (turned (Equal-follows (follows_told E (whole d) keeps) e)) w.equal })

told_along : (old r : List Content) (k : Content) (s t : Tree) → IsTold (equations_of old) s t → IsTold (equations_of (old ++ r) ++ k.equations) s t
told_along old r k s t m = IsTold-left (equations_of (old ++ r)) k.equations s t (told_further old r s t m)

module _ (c : Config) (w : Good c) (p : Program) (n : Name) (b : Content) (gs : Goals) (there : box_at n c.roots ≡ Some (record { around = []; content = b; goals = gs })) where
  abbrev f : Found
  f = record { around = []; content = b; goals = gs }

  own_frame : (x : Var) → IsIn x.frame (b.frames ++ []) → IsIn x.frame b.frames
  own_frame x i = elim (IsIn-either x.frame b.frames [] i) [ inl y ↦ y | inr y ↦ absurd y ]

  -- by an atom
  awaited_class : (g : Name) (a : Atom) (on x y : Var) → held_in g gs ≡ Some (an_atom a) → AtomWaitsOn p b.equations a on → Equal b.equations (variable x) (variable on) → Equal b.equations (variable x) (variable y) → Watches p f g y
  awaited_class g a on x y i k q e = by_atom on i k z (own_frame y (touches_in_scope c w n f there p y [] [] (by_waiting (record { outside = λ l. l; unstructured = nothing_structured y })
      (record { goal = g; atom = a; is_goal = i; on = on; waits = k; equal = z }))))
    where
      z : Equal b.equations (variable y) (variable on)
      z = joined (turned e) q

  -- by an alternative
  module _ (g k : Name) (o : Operator) (bs : Boxes) (m : Found) (held : held_in g gs ≡ Some (a_choice o bs)) (at : alternative_of f k bs ≡ Some m) (x y : Var) (e : Equal b.equations (variable x) (variable y)) where
    path : m.around ≡ b ∷ []
    path = (alternative_in f k bs m at).1

    m_stands : Stands m c.roots
    m_stands = alternative_stands g k o bs c.roots f m (found_in n c.roots f there) held at

    m_there : box_at m.content.name c.roots ≡ Some m
    m_there = in_found c.roots m w.stand.once m_stands

    env_is : environment m ≡ b.equations
    env_is = ap equations_of path ∙ append-nil b.equations

    also : TouchesWithin p m x → TouchesWithin p m y × IsIn y.frame b.frames
    also s = some_found (λ (d : Found). TouchesFrom p (frames_of (only m)) (environment m) d x) (TouchesWithin p m y × IsIn y.frame b.frames) m.around (only m) each s
      where
        each : (r : List Content) (a : Content) (is : Goals) → BoxIn r a is (only m) → TouchesFrom p (frames_of (only m)) (environment m) (record { around = m.around ++ r; content = a; goals = is }) x
            → TouchesWithin p m y × IsIn y.frame b.frames
        each r a is i t = (
          some_where (λ (d : Found). TouchesFrom p (frames_of (only m)) (environment m) d y) m.around (only m) r a is i z,
          own_frame y (subst (λ (l : List Content). IsIn y.frame (scope_along nowhere l).frames) path (inside_around c w p y m.content.name m m_there r a is i z)),
        )
          where
            z : TouchesFrom p (frames_of (only m)) (environment m) (record { around = m.around ++ r; content = a; goals = is }) y
            z = touches_other p (frames_of (only m)) (environment m) (record { around = m.around ++ r; content = a; goals = is }) (outside_environment c w m.content.name m m_there)
                (λ s2 t2 k2. told_along m.around r a s2 t2 k2) x y (subst (λ (E : Equations). Equal E (variable x) (variable y)) (sym env_is) e) t

    unstructured : TouchesWithin p m x → IsStructured b.equations x → ⊥
    unstructured s q = some_found (λ (d : Found). TouchesFrom p (frames_of (only m)) (environment m) d x) ⊥ m.around (only m)
        (λ r a is i t. touched_free p (frames_of (only m)) (environment m) (record { around = m.around ++ r; content = a; goals = is }) x t (subst (λ (E : Equations). IsStructured E x) (sym env_is) q)) s

  watched_class_in : (g : Name) (x : Var) → Watches p f g x → (IsStructured b.equations x → ⊥) × ((y : Var) → Equal b.equations (variable x) (variable y) → Watches p f g y)
  watched_class_in g x (by_atom {a = a} on i k q h) = (
    λ s. awaited_free p b.equations a on k (s.0, s.1, joined (turned q) s.2, s.3),
    λ y e. awaited_class g a on x y i k q e,
  )
  watched_class_in g x (by_choice {o = o} {bs = bs} {m = m} k held at s h) = (
    unstructured g k o bs m held at x x same s,
    λ y e. let z : TouchesWithin p m y × IsIn y.frame b.frames = also g k o bs m held at x y e s in by_choice k held at z.0 z.1,
  )

pub watched_class : (rules : List Rule) (p : Program) (q : Query) (journal : List Label) (c : Config) → Replays rules p q journal c → (n : Name) (f : Found) → box_at n c.roots ≡ Some f → f.around ≡ []
    → (g : Name) (x : Var) → Watches p f g x → (IsStructured (whole f) x → ⊥) × ((y : Var) → Equal (whole f) (variable x) (variable y) → Watches p f g y)
watched_class rules p q journal c r n f e root = subst (λ (path : List Content).
    (g : Name) (x : Var) → Watches p (record f { around = path }) g x → (IsStructured (whole (record f { around = path })) x → ⊥)
    × ((y : Var) → Equal (whole (record f { around = path })) (variable x) (variable y) → Watches p (record f { around = path }) g y)) (sym root)
    (watched_class_in c (good_replay rules p q journal c r) p n f.content f.goals (subst (λ (path : List Content). box_at n c.roots ≡ Some (record f { around = path })) root e))
