-- The nodes that stand for written terms.
use Rattle.std.specs.Prelude.{◌≡◌, ◌<◌, ℕ, suc, ℤ, List, ◌++◌, length, slice_get, Some}
use Rattle.akl_terms.specs.declared.name.Name.{Name}
use Rattle.akl_terms.specs.declared.term.Node.{Node}
use Rattle.akl_terms.specs.declared.term.Term.TheVariants.{Mol}
use Rattle.akl_terms.specs.Tree.{Tree, Trees}
use Rattle.akl_terms.specs.Tree as trees
use Rattle.akl_terms.specs.Template.{Template, tree}
use Rattle.term_syntax.specs.Tree.{no_trees, more_trees}
use Rattle.term_syntax.specs.Tree as written
use Rattle.clause_store.specs.Plain.{Plain, Plains, variable, integer, compound, no_plains, more_plains, plain}

mutual
  -- the tree of a plain term under a frame: a variable is the frame's of its number, and a symbol is the number at whose place its text stands
  pub data IsTreeOf (symbols : List (List ℕ)) (frame : Name) : Plain → Tree → Type 0 where
    of_variable : {i : ℕ} → IsTreeOf symbols frame (variable i) (trees.variable (record { frame = frame; index = i }))
    of_integer : {z : ℤ} → IsTreeOf symbols frame (integer z) (trees.integer z)
    of_compound : {w : List ℕ} {n : ℕ} {ss : Plains} {ts : Trees} → slice_get symbols n ≡ Some w → AreTreesOf symbols frame ss ts
        → IsTreeOf symbols frame (compound w ss) (trees.symbol n ts)

  pub data AreTreesOf (symbols : List (List ℕ)) (frame : Name) : Plains → Trees → Type 0 where
    of_none : AreTreesOf symbols frame no_plains trees.none
    of_more : {s : Plain} {t : Tree} {ss : Plains} {ts : Trees} → IsTreeOf symbols frame s t → AreTreesOf symbols frame ss ts
        → AreTreesOf symbols frame (more_plains s ss) (trees.more t ts)

-- the node is there, and under each frame its tree is the written term's
pub record IsNodeOf (t : Template) (node : ℕ) (s : written.Tree) : Type 0 where
  pub there : node < length t.nodes
  pub under : (frame : Name) → IsTreeOf t.symbols frame (plain s) (tree t.nodes (Mol node frame))

-- neighbouring nodes from the first on are those of written terms, one for one; `Is` says which node is which term's
pub data AreNodes (Is : ℕ → written.Tree → Type 0) : ℕ → written.Trees → Type 0 where
  no_nodes : {first : ℕ} → AreNodes Is first no_trees
  a_node : {first : ℕ} {s : written.Tree} {ss : written.Trees} → Is first s → AreNodes Is (suc first) ss → AreNodes Is first (more_trees s ss)

-- nothing that was there changes
pub record Extends (old new : Template) : Type 0 where
  pub nodes : List Node
  pub symbols : List (List ℕ)
  pub nodes_are : new.nodes ≡ old.nodes ++ nodes
  pub symbols_are : new.symbols ≡ old.symbols ++ symbols
