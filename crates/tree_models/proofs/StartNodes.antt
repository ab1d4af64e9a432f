-- The nodes of terms, one after another.
use Rattle.std.proofs.Common.{◌≡◌, ℕ, suc, ◌+◌, ◌<◌, List, [], ◌∷◌, ◌++◌, length, map, take, drop, get_or, refl, ap, ◌∙◌, inl, inr, subst, sym}
use Rattle.std.specs.Prelude.{option_map}
use Rattle.std.proofs.lemmas.List.{map_more}
use Rattle.std.proofs.lemmas.Option.{slice_get-map, slice_get-get_or}
use Rattle.akl_terms.specs.declared.term.Seen.{Seen}
use Rattle.akl_terms.specs.Tree.{Tree}
use Rattle.akl_terms.specs.Template.{Template}
use Rattle.term_graph.specs.Building.{State, Grows, IsEndAt, IsNumbered}
use Rattle.term_graph.specs.Reached.{AreReached, at_start}
use Rattle.term_graph.proofs.Places.{end-grows}
use Rattle.term_graph.proofs.Reaching.{reaches-numbered}
use Rattle.tree_models.specs.declared.starts.Start.{Start}
use Rattle.tree_models.specs.Starts.{start_tree, AreNodesOf}
use Rattle.tree_models.specs.Visiting.{IsOne}

module _ (t : Template) (go : Tree → Tree) where
  pub nodes_grow : (old new : List Seen) → Grows old new → (us : List Tree) (is : List ℕ) → AreNodesOf t go old us is → AreNodesOf t go new us is
  nodes_grow old new g [] [] n = n
  nodes_grow old new g [] (i ∷ is) n = absurd n
  nodes_grow old new g (u ∷ us) [] n = absurd n
  nodes_grow old new g (u ∷ us) (i ∷ is) n = (end-grows g n.0, nodes_grow old new g us is n.1)

  module _ (seens : List Seen) where
    pub nodes_more : (us : List Tree) (is : List ℕ) (u : Tree) (i : ℕ) → AreNodesOf t go seens us is → IsEndAt t go seens i u → AreNodesOf t go seens (us ++ u ∷ []) (is ++ i ∷ [])
    nodes_more [] [] u i n e = (e, tt)
    nodes_more [] (j ∷ js) u i n e = absurd n
    nodes_more (v ∷ us) [] u i n e = absurd n
    nodes_more (v ∷ us) (j ∷ js) u i n e = (n.0, nodes_more us js u i n.1 e)

    pub nodes_length : (us : List Tree) (is : List ℕ) → AreNodesOf t go seens us is → length is ≡ length us
    nodes_length [] [] n = refl
    nodes_length [] (i ∷ is) n = absurd n
    nodes_length (u ∷ us) [] n = absurd n
    nodes_length (u ∷ us) (i ∷ is) n = ap (λ (k : ℕ). suc k) (nodes_length us is n.1)

    pub nodes_front : (us vs : List Tree) (is : List ℕ) → AreNodesOf t go seens (us ++ vs) is → AreNodesOf t go seens us (take (length us) is)
    nodes_front [] vs is n = tt
    nodes_front (u ∷ us) vs [] n = absurd n
    nodes_front (u ∷ us) vs (i ∷ is) n = (n.0, nodes_front us vs is n.1)

    pub nodes_behind : (us vs : List Tree) (is : List ℕ) → AreNodesOf t go seens (us ++ vs) is → AreNodesOf t go seens vs (drop (length us) is)
    nodes_behind [] vs is n = n
    nodes_behind (u ∷ us) vs [] n = absurd n
    nodes_behind (u ∷ us) vs (i ∷ is) n = nodes_behind us vs is n.1

    pub node_of : (us : List Tree) (is : List ℕ) → AreNodesOf t go seens us is → (i : ℕ) → IsOne i is → (u : Tree) × IsEndAt t go seens i u
    node_of [] [] n i m = absurd m
    node_of [] (j ∷ js) n i m = absurd n
    node_of (u ∷ us) [] n i m = absurd n
    node_of (u ∷ us) (j ∷ js) n i (inl e) = (u, subst (λ (k : ℕ). IsEndAt t go seens k u) (sym e) n.0)
    node_of (u ∷ us) (j ∷ js) n i (inr m) = node_of us js n.1 i m

-- one start more
pub start_more : (t : Template) (go : Tree → Tree) (starts : List Start) (i : ℕ) (d : Start) (old new : State) (node : ℕ) (is : List ℕ) → i < length starts → IsNumbered t go old new node (start_tree t.nodes (get_or starts i d))
    → AreNodesOf t go old.seens (map (start_tree t.nodes) (take i starts)) is → AreReached t go (map (start_tree t.nodes) starts) old.seens
    → AreNodesOf t go new.seens (map (start_tree t.nodes) (take (i + 1) starts)) (is ++ node ∷ []) × AreReached t go (map (start_tree t.nodes) starts) new.seens
start_more t go starts i d old new node is l n a r = (
  subst (λ (us : List Tree). AreNodesOf t go new.seens us (is ++ node ∷ [])) (sym (map_more (start_tree t.nodes) starts i d l))
      (nodes_more t go new.seens (map (start_tree t.nodes) (take i starts)) is (start_tree t.nodes (get_or starts i d)) node (nodes_grow t go old.seens new.seens n.grows (map (start_tree t.nodes) (take i starts)) is a) n.node),
  reaches-numbered t go old new node (start_tree t.nodes (get_or starts i d)) n (map (start_tree t.nodes) starts)
      (at_start i (slice_get-map (start_tree t.nodes) starts i ∙ ap (option_map (start_tree t.nodes)) (slice_get-get_or starts i d l))) r,
)
