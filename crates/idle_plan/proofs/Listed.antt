-- What a box's stores tell, listed: each of the list touches the box, and enough of them.
use Rattle.std.proofs.Common.{◌≡◌, ◌-◌, List, [], ◌++◌, length, take, drop, sym, subst}
use Rattle.akl_terms.specs.declared.name.Name.{Name}
use Rattle.akl_terms.specs.declared.name.Var.{Var}
use Rattle.akl_terms.specs.declared.term.Node.{Node}
use Rattle.akl_terms.specs.Tree.{variable}
use Rattle.akl_terms.specs.Equal.{Equations, IsTold, Equal, turned, joined, IsConsistent, IsStructured}
use Rattle.akl_terms.specs.Standing.{StandFor}
use Rattle.akl_terms.specs.Touching.{IsLocal, IsOutside, Touches}
use Rattle.akl_terms.proofs.EqualLaws.{IsTold-left, IsConsistent-follows}
use Rattle.akl_terms.proofs.StandingLaws.{StandFor-back, StandFor-on}
use Rattle.akl_model.specs.Config.{Found, environment, whole}
use Rattle.akl_model.specs.Stable.{only, frames_of, frames_inside}
use Rattle.akl_model.specs.Wakes.{TellsOutside}
use Rattle.akl_model.proofs.QuietGrows.{IsLocal-left}
use Rattle.constraint_laws.specs.Growth.{TellsOver}
use Rattle.constraint_laws.specs.Standing.{StandsForConsistent}
use Rattle.constraint_laws.specs.Touched.{IsAmong}
use Rattle.constraint_laws.proofs.Beside.{left_follows}
use Rattle.constraint_laws.proofs.Stands.{structured_stands, variable_stands, touch_stands}
use Rattle.constraint_laws.proofs.TouchedLists.{touches_class}
use Rattle.local_store.specs.Stored.{Stored}
use Rattle.entail_test.specs.Asked.{frames_from, environment_at, own_at, whole_at, KeepsApartAt}
use Rattle.guard_plan.proofs.QuietOver.{keeps_apart}
use Rattle.local_store.specs.Chained.{equations_of}
use Rattle.class_members.specs.Members.{outermost_of, IsMember}
use Rattle.stable_test.proofs.Reaches.{touches_inside}
use Rattle.idle_plan.specs.Told.{ListsTold}
use Rattle.idle_plan.proofs.Wholes.{whole_stands}

-- what is equal to a variable that isn't structured isn't structured
pub unstructured_class : (E : Equations) (x y : Var) → Equal E (variable x) (variable y) → (IsStructured E x → ⊥) → IsStructured E y → ⊥
unstructured_class E x y e n s = n (s.0, s.1, joined e s.2, s.3)

-- the stores down to a box, of which the innermost is its own, with what is known of its frames
pub record AreStoresOf (nodes : List Node) (ss : List Stored) (f : Found) : Type 0 where
  pub around : StandFor (IsTold (environment_at nodes ss (length ss - 1))) (IsTold (environment f))
  pub all : StandFor (IsTold (equations_of nodes ss)) (IsTold (whole f))
  pub frames : frames_from (drop (length ss - 1) ss) ≡ f.content.frames
  pub over : TellsOver (IsOutside (frames_of (only f))) (environment f)
  pub outward : (x : Var) → Touches f.content.frames (environment f) (whole f) x → TellsOutside f x

module _ (nodes : List Node) (ss : List Stored) (f : Found) (r : AreStoresOf nodes ss f) where
  abbrev F : Equations
  F = environment_at nodes ss (length ss - 1)

  abbrev V : Equations
  V = whole_at nodes ss (length ss - 1)

  -- where they are consistent, the stores around the box keep its variables apart
  pub keeps_apart_at : IsConsistent (environment_at nodes ss (length ss - 1)) → KeepsApartAt nodes ss (length ss - 1)
  keeps_apart_at c = keeps_apart (environment_at nodes ss (length ss - 1)) (environment f) (frames_from (drop (length ss - 1) ss)) (frames_of (only f))
      (λ y l. IsLocal-left f.content.frames (frames_inside f.goals ++ []) y (subst (λ (fs : List Name). IsLocal fs y) r.frames l)) r.over r.around c

  module _ (c : IsConsistent (equations_of nodes ss)) where
    whole_consistent : IsConsistent (whole_at nodes ss (length ss - 1))
    whole_consistent = (whole_stands nodes ss (length ss - 1)).back c

    pub around_consistent : IsConsistent (environment_at nodes ss (length ss - 1))
    around_consistent = IsConsistent-follows (left_follows (environment_at nodes ss (length ss - 1)) (own_at nodes ss (length ss - 1))) whole_consistent

    around_stands : StandsForConsistent (environment_at nodes ss (length ss - 1)) (environment f)
    around_stands = record { stands = r.around; consistent = around_consistent }

    all_stands : StandsForConsistent (whole_at nodes ss (length ss - 1)) (whole f)
    all_stands = record { stands = StandFor-on (whole_stands nodes ss (length ss - 1)) r.all; consistent = whole_consistent }

    forth : (x : Var) → Touches (frames_from (drop (length ss - 1) ss)) (environment_at nodes ss (length ss - 1)) (whole_at nodes ss (length ss - 1)) x → TellsOutside f x
    forth x t = r.outward x (subst (λ (fs : List Name). Touches fs (environment f) (whole f) x) r.frames
        (touch_stands (environment_at nodes ss (length ss - 1)) (whole_at nodes ss (length ss - 1)) (environment f) (whole f) around_stands all_stands (frames_from (drop (length ss - 1) ss)) x t))

    back : (x : Var) → TellsOutside f x → Touches (frames_from (drop (length ss - 1) ss)) (environment_at nodes ss (length ss - 1)) (whole_at nodes ss (length ss - 1)) x
    back x t = subst (λ (fs : List Name). Touches fs F V x) (sym r.frames)
        (touch_stands (environment f) (whole f) (environment_at nodes ss (length ss - 1)) (whole_at nodes ss (length ss - 1)) (record { stands = StandFor-back r.around; consistent = r.around.to around_consistent }) (record { stands = StandFor-back all_stands.stands; consistent = all_stands.stands.to whole_consistent }) f.content.frames x
        (touches_inside f.content.frames (frames_of (only f)) (environment f) (whole f) (IsLocal-left f.content.frames (frames_inside f.goals ++ [])) x t))

    -- a variable that the box touches isn't structured in the stores around it
    pub touched_unstructured : (x : Var) → TellsOutside f x → IsStructured (environment_at nodes ss (length ss - 1)) x → ⊥
    touched_unstructured x t s = t.unbound.unstructured (structured_stands (environment_at nodes ss (length ss - 1)) (environment f) around_stands x s)

  module _ (list : List Var) (h : ListsTold nodes ss list) where
    pub listed_touches : (y : Var) → IsAmong y list → TellsOutside f y
    listed_touches y m =
        let k : IsMember (equations_of nodes (take (length ss - 1) ss)) h.on y = h.members.each y m in
        let z : TellsOutside f k.variable_of = forth h.consistent k.variable_of (h.touched.each k.variable_of k.among) in
        let q : Equal (environment f) (variable k.variable_of) (variable y) =
        variable_stands (environment_at nodes ss (length ss - 1)) (environment f) (around_stands h.consistent) (variable k.variable_of) y
        (unstructured_class (environment_at nodes ss (length ss - 1)) k.variable_of y k.equal k.unstructured) k.equal in
        touches_class (frames_of (only f)) (environment f) (whole f) (IsTold-left (environment f) f.content.equations) r.over k.variable_of y q z

    -- each is a member of a class that isn't structured
    pub listed_unstructured : (y : Var) → IsAmong y list → IsStructured (equations_of nodes (take (length ss - 1) ss)) y → ⊥
    listed_unstructured y m = let k : IsMember (equations_of nodes (take (length ss - 1) ss)) h.on y = h.members.each y m in unstructured_class (equations_of nodes (take (length ss - 1) ss)) k.variable_of y k.equal k.unstructured

    pub touched_listed : (x : Var) → TellsOutside f x → (y : Var) × IsAmong y list × Equal (outermost_of nodes (take (length ss - 1) ss)) (variable y) (variable x)
    touched_listed x t =
        let w : (z : Var) × IsAmong z h.on × Equal F (variable x) (variable z) = h.touched.every x (back h.consistent x t) in
        h.members.every (around_consistent h.consistent) x
        (record { variable_of = w.0; among = w.1; unstructured = (h.touched.each w.0 w.1).unbound.unstructured; equal = turned w.2 })
