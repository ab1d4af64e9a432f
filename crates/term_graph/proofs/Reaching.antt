-- Nodes that are added are reached.
use Rattle.std.proofs.Common.{ℕ, ◌<◌, List, sym, subst, inl, inr}
use Rattle.akl_terms.specs.declared.term.Seen.{Seen}
use Rattle.akl_terms.specs.Tree.{Tree}
use Rattle.akl_terms.specs.Template.{Template}
use Rattle.term_graph.specs.Building.{State, seen_tree, BeginsSo, IsNumbered, argument_of, count_of}
use Rattle.term_graph.specs.Reached.{IsReached, below, AreReached, Reaches, KeepsReached}
use Rattle.term_graph.proofs.Built.{argument-at}

module _ (t : Template) (go : Tree → Tree) where
  -- the node of a term is reached where what stands for the term is
  pub reaches-numbered : (old new : State) (i : ℕ) (u : Tree) → IsNumbered t go old new i u → (terms : List Tree) → IsReached go terms (go u) → AreReached t go terms old.seens → AreReached t go terms new.seens
  reaches-numbered old new i u n terms r a j s b = elim (n.adds j s b) [ inl h ↦ a j s h | inr h ↦ subst (IsReached go terms) (sym h) r ]

  -- the next argument of what is reached
  pub reaches-argument : (seen : Seen) (k : ℕ) (first old new : State) (i : ℕ) → k < count_of seen → IsNumbered t go old new i (argument_of t.nodes seen k)
      → Reaches t go (seen_tree t.nodes seen) first.seens old.seens → Reaches t go (seen_tree t.nodes seen) first.seens new.seens
  reaches-argument seen k first old new i l n f terms r a =
      reaches-numbered old new i (argument_of t.nodes seen k) n terms (below k r (argument-at t.nodes seen k l)) (f terms r a)

  -- a row of a node
  pub reaches-row : (seen : Seen) (j : ℕ) (first old new : List Seen) → BeginsSo old j seen → KeepsReached t go first old → Reaches t go (seen_tree t.nodes seen) old new → KeepsReached t go first new
  reaches-row seen j first old new b f r terms a = r terms (f terms a j seen b) (f terms a)
