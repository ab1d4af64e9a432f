-- Members of the classes of what is bound or made equal are bound or made equal.
use Rattle.std.proofs.Common.{List}
use Rattle.akl_terms.specs.declared.name.Var.{Var}
use Rattle.akl_terms.specs.declared.term.Node.{Node}
use Rattle.akl_terms.specs.Tree.{variable}
use Rattle.akl_terms.specs.Equal.{Equations, Equal, told, turned, IsConsistent}
use Rattle.akl_terms.proofs.EqualLaws.{IsConsistent-follows}
use Rattle.constraint_laws.specs.Bound.{IsNewlyBound}
use Rattle.constraint_laws.specs.StandingGrows.{AreToldIn}
use Rattle.constraint_laws.specs.Touched.{IsAmong}
use Rattle.constraint_laws.proofs.AliasLists.{newly_bound_with}
use Rattle.constraint_laws.proofs.Beside.{follows_told}
use Rattle.local_store.specs.Stored.{Stored}
use Rattle.local_store.specs.Chained.{equations_of}
use Rattle.local_store.specs.Bound.{AreNewlyBound}
use Rattle.class_members.specs.Members.{outermost_of, IsMember, AreMembers}

module _ (nodes : List Node) (ss : List Stored) (G : Equations) (more : AreToldIn (equations_of nodes ss) G) (of list : List Var) (members : AreMembers nodes ss of list)
    (h : AreNewlyBound (equations_of nodes ss) (equations_of nodes ss) G of) where
  each : (y : Var) → IsAmong y list → IsNewlyBound (equations_of nodes ss) G y
  each y m =
      let w : IsMember (equations_of nodes ss) of y = members.each y m in
      newly_bound_with (equations_of nodes ss) G (follows_told (equations_of nodes ss) G more.each) w.variable_of y (turned w.equal) (h.each w.variable_of w.among)

  consistent : (y : Var) → IsAmong y list → IsConsistent G
  consistent y m = let w : IsMember (equations_of nodes ss) of y = members.each y m in h.consistent w.variable_of w.among

  every : IsConsistent G → (x : Var) → IsNewlyBound (equations_of nodes ss) G x → (y : Var) × IsAmong y list × Equal (outermost_of nodes ss) (variable x) (variable y)
  every c x b =
      let w : (y : Var) × IsAmong y of × Equal (equations_of nodes ss) (variable x) (variable y) = h.every c x b in
      let v : (y : Var) × IsAmong y list × Equal (outermost_of nodes ss) (variable y) (variable x) =
      members.every (IsConsistent-follows (record { each = λ m. told (more.each _ _ m) }) c) x
      (record { variable_of = w.0; among = w.1; unstructured = (h.each w.0 w.1).unstructured; equal = turned w.2 }) in
      (v.0, v.1, turned v.2)

  pub members_bound : AreNewlyBound (outermost_of nodes ss) (equations_of nodes ss) G list
  members_bound = record { consistent = consistent; each = each; every = every }
