-- All that stores tell is what those before a depth tell, and those from there on.
use Rattle.std.proofs.Common.{ℕ, List, take, inl, inr}
use Rattle.akl_terms.specs.declared.term.Node.{Node}
use Rattle.akl_terms.specs.Tree.{Tree}
use Rattle.akl_terms.specs.Equal.{IsTold, told, Follows, IsConsistent}
use Rattle.akl_terms.specs.Standing.{StandFor}
use Rattle.akl_terms.proofs.EqualLaws.{IsTold-left, IsTold-right, IsTold-either, IsConsistent-follows}
use Rattle.akl_terms.proofs.StandingLaws.{StandFor-follows}
use Rattle.constraint_laws.proofs.Beside.{follows_told}
use Rattle.local_store.specs.Stored.{Stored}
use Rattle.local_store.proofs.Layers.{told-split, told-take, told-drop}
use Rattle.entail_test.specs.Asked.{environment_at, own_at, whole_at}
use Rattle.local_store.specs.Chained.{equations_of}

module _ (nodes : List Node) (ss : List Stored) (k : ℕ) where
  together : (a b : Tree) → IsTold (whole_at nodes ss k) a b → IsTold (equations_of nodes ss) a b
  together a b m = elim (IsTold-either (environment_at nodes ss k) (own_at nodes ss k) a b m) [ inl x ↦ told-take nodes ss k a b x | inr x ↦ told-drop nodes ss k a b x ]

  apart : (a b : Tree) → IsTold (equations_of nodes ss) a b → IsTold (whole_at nodes ss k) a b
  apart a b m = elim (told-split nodes ss k a b m) [
    | inl x ↦ IsTold-left (environment_at nodes ss k) (own_at nodes ss k) a b x
    | inr x ↦ IsTold-right (environment_at nodes ss k) (own_at nodes ss k) a b x
  ]

  pub whole_stands : StandFor (IsTold (whole_at nodes ss k)) (IsTold (equations_of nodes ss))
  whole_stands = StandFor-follows (λ a b m. told (together a b m)) (λ a b m. told (apart a b m))

  pub before_follows : Follows (equations_of nodes (take k ss)) (equations_of nodes ss)
  before_follows = follows_told (equations_of nodes (take k ss)) (equations_of nodes ss) (told-take nodes ss k)

  pub before_consistent : IsConsistent (equations_of nodes ss) → IsConsistent (equations_of nodes (take k ss))
  before_consistent = IsConsistent-follows before_follows
