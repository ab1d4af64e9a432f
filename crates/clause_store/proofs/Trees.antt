-- The trees of loaded nodes.
use Rattle.std.proofs.Common.{◌≡◌, ℕ, zero, suc, ◌+◌, ◌<◌, ◌≤◌, List, [], ◌∷◌, length, slice_get, Option, Some, refl, sym, ap, subst, arith}
use Rattle.std.proofs.lemmas.List.{length-append}
use Rattle.std.proofs.lemmas.Option.{slice_get_within}
use Rattle.akl_terms.specs.declared.name.Name.{Name}
use Rattle.akl_terms.specs.declared.term.Node.{Node}
use Rattle.akl_terms.specs.Tree as terms
use Rattle.akl_terms.specs.Template.{Template, IsArranged, StandsBefore, seen_node, tree_seen, trees_from, tree_at}
use Rattle.term_syntax.specs.Tree.{Tree}
use Rattle.clause_store.specs.Plain.{Plain, Plains, plain}
use Rattle.clause_store.specs.Nodes.{IsTreeOf, of_variable, of_integer, of_compound, AreTreesOf, of_none, of_more, IsNodeOf, Extends}
use Rattle.clause_store.specs.Standing.{Stands, stands_variable, stands_integer, stands_compound, StandAt, stand_none, stand_more, StandsAt}
use Rattle.clause_store.proofs.Growing.{node_stays, symbol_stays}

later : (i d : ℕ) (n : Node) → i ≤ d → StandsBefore i n → StandsBefore d n
later i d (Node.Var x) h s = tt
later i d (Node.Int z) h s = tt
later i d (Node.Struct x first count) h s = omega arith

mutual
  node_tree : {t : Template} {n : Node} {p : Plain} (f : Name) (d : ℕ) → IsArranged t.nodes → StandsBefore d n → Stands t n p → IsTreeOf t.symbols f p (tree_seen (tree_at d t.nodes f) (seen_node f (Some n)))
  node_tree f d a b stands_variable = of_variable
  node_tree f d a b stands_integer = of_integer
  node_tree f d a b (stands_compound e p) = of_compound e (nodes_trees f d a b p)

  nodes_trees : {t : Template} {first count : ℕ} {ps : Plains} (f : Name) (d : ℕ) → IsArranged t.nodes → first + count ≤ d → StandAt t first count ps → AreTreesOf t.symbols f ps (trees_from (tree_at d t.nodes f) first count)
  nodes_trees f d a b (stand_none h) = of_none
  nodes_trees {t} f zero a b (stand_more e p q) = absurd (omega arith)
  nodes_trees {t} {first = first} f (suc d) a b (stand_more {n = n} {p = s} e p q) =
      let before : StandsBefore d n = later first d n (omega arith) (a.each first n e) in
      of_more (subst (λ (o : Option Node). IsTreeOf t.symbols f s (tree_seen (tree_at d t.nodes f) (seen_node f o))) (sym e) (node_tree f d a before p)) (nodes_trees f (suc d) a (omega arith) q)

-- a node that stands for a written term is its node
pub node_of : {t : Template} → IsArranged t.nodes → (at : ℕ) (s : Tree) → StandsAt t at s → IsNodeOf t at s
node_of {t} a at s p = record {
  there = slice_get_within t.nodes at p.node p.there;
  under = λ f. subst (λ (o : Option Node). IsTreeOf t.symbols f (plain s) (tree_seen (tree_at at t.nodes f) (seen_node f o))) (sym p.there) (node_tree f at a (a.each at p.node p.there) p.stands);
}

-- ---- templates that grow
module _ {symbols more : List (List ℕ)} {frame : Name} (g : (i : ℕ) (w : List ℕ) → slice_get symbols i ≡ Some w → slice_get more i ≡ Some w) where
  mutual
    tree_grows : {p : Plain} {t : terms.Tree} → IsTreeOf symbols frame p t → IsTreeOf more frame p t
    tree_grows of_variable = of_variable
    tree_grows of_integer = of_integer
    tree_grows (of_compound e p) = of_compound (g _ _ e) (trees_grow p)

    trees_grow : {ps : Plains} {ts : terms.Trees} → AreTreesOf symbols frame ps ts → AreTreesOf more frame ps ts
    trees_grow of_none = of_none
    trees_grow (of_more p q) = of_more (tree_grows p) (trees_grow q)

node_there : (nodes : List Node) (i : ℕ) → i < length nodes → (n : Node) × (slice_get nodes i ≡ Some n)
node_there [] i h = absurd (omega arith)
node_there (n ∷ nodes) zero h = (n, refl)
node_there (n ∷ nodes) (suc i) h = node_there nodes i (omega arith)

both_stay : {t u : terms.Tree} {ts us : terms.Trees} → t ≡ u → ts ≡ us → terms.more t ts ≡ terms.more u us
both_stay e f = rw (e, f) refl

-- nodes have the trees that they had
module _ (old new : List Node) (f : Name) (a : IsArranged old) (g : (i : ℕ) (n : Node) → slice_get old i ≡ Some n → slice_get new i ≡ Some n) where
  trees_stay : (d first count : ℕ) → first + count ≤ length old → ((j : ℕ) → j < length old → tree_at d old f j ≡ tree_at d new f j) → trees_from (tree_at d old f) first count ≡ trees_from (tree_at d new f) first count
  trees_stay d first zero h go = refl
  trees_stay d first (suc count) h go = both_stay (go first (omega arith)) (trees_stay d (suc first) count (omega arith) go)

  seen_stays : (d : ℕ) (n : Node) → StandsBefore (length old) n → ((j : ℕ) → j < length old → tree_at d old f j ≡ tree_at d new f j)
      → tree_seen (tree_at d old f) (seen_node f (Some n)) ≡ tree_seen (tree_at d new f) (seen_node f (Some n))
  seen_stays d (Node.Var x) b go = refl
  seen_stays d (Node.Int z) b go = refl
  seen_stays d (Node.Struct s first count) b go = ap (terms.symbol s) (trees_stay d first count b go)

  tree_stays : (d i : ℕ) → i < length old → tree_at d old f i ≡ tree_at d new f i
  tree_stays zero i h = refl
  tree_stays (suc d) i h =
      let at = node_there old i h in
      rw (at.1, g i at.0 at.1) (seen_stays d at.0 (later i (length old) at.0 (omega arith) (a.each i at.0 at.1)) (λ j l. tree_stays d j l))

-- a node that stands for a written term does so in greater templates
pub still_node_of : {old new : Template} → Extends old new → IsArranged new.nodes → (at : ℕ) (s : Tree) → IsNodeOf old at s → IsNodeOf new at s
still_node_of {old} {new} g a at s p =
    let arranged : IsArranged old.nodes = record { each = λ i n e. a.each i n (node_stays g i n e) } in
    record {
      there = omega (arith, p.there, ap length g.nodes_are, length-append old.nodes g.nodes);
      under = λ f. subst (IsTreeOf new.symbols f (plain s)) (tree_stays old.nodes new.nodes f arranged (node_stays g) (suc at) at p.there) (tree_grows (symbol_stays g) (p.under f));
    }
