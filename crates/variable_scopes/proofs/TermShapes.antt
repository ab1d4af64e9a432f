-- A term is as large as the terms in it and one more. Its variables are those of the terms in it, and get their numbers one behind another.
use Rattle.std.proofs.Common.{◌≡◌, ℕ, suc, ◌+◌, List, ◌++◌, map, Option, ap, subst, Vec, Box, Global}
use Rattle.term_syntax.specs.declared.source.SourceTerm.{SourceTerm}
use Rattle.term_syntax.specs.declared.source.SourceTerm.TheVariants as written
use Rattle.term_syntax.specs.declared.source.SourceStep.{SourceStep}
use Rattle.term_syntax.specs.Tree.{Trees, Steps, trees, steps}
use Rattle.term_syntax.specs.View.{tree, step, tail_view}
use Rattle.term_syntax.specs.Sizes.{tree_size, trees_size, tail_size, steps_size}
use Rattle.term_syntax.specs.Variables.{tree_variables, trees_variables, tail_variables, steps_variables}
use Rattle.term_syntax.proofs.Trees.{tree_struct, tree_list, tree_chain}
use Rattle.variable_scopes.specs.Numbering.{State, AreBelow, Numbers}
use Rattle.variable_scopes.proofs.Numbers.{below_left, below_right, numbers_append}

abbrev pub vec_trees : Vec SourceTerm Global → Trees
vec_trees v = trees (map tree v.items)

abbrev pub vec_steps : Vec SourceStep Global → Steps
vec_steps v = steps (map step v.items)

-- ---- symbols with arguments
pub struct_size : (w : List ℕ) (v : Vec SourceTerm Global) → tree_size (tree (written.Struct w v)) ≡ suc (trees_size (vec_trees v))
struct_size w v = ap tree_size (tree_struct w v)

pub struct_below : (m : ℕ) (w : List ℕ) (v : Vec SourceTerm Global) → AreBelow m (tree_variables (tree (written.Struct w v))) → AreBelow m (trees_variables (vec_trees v))
struct_below m w v b = subst (AreBelow m) (ap tree_variables (tree_struct w v)) b

-- ---- lists
pub list_size : (v : Vec SourceTerm Global) (o : Option (Box SourceTerm Global)) → tree_size (tree (written.List v o)) ≡ suc (trees_size (vec_trees v) + tail_size (tail_view o))
list_size v o = ap tree_size (tree_list v o)

list_variables : (v : Vec SourceTerm Global) (o : Option (Box SourceTerm Global)) → tree_variables (tree (written.List v o)) ≡ trees_variables (vec_trees v) ++ tail_variables (tail_view o)
list_variables v o = ap tree_variables (tree_list v o)

pub items_below : (m : ℕ) (v : Vec SourceTerm Global) (o : Option (Box SourceTerm Global)) → AreBelow m (tree_variables (tree (written.List v o))) → AreBelow m (trees_variables (vec_trees v))
items_below m v o b = below_left m (trees_variables (vec_trees v)) (tail_variables (tail_view o)) (subst (AreBelow m) (list_variables v o) b)

pub tail_below : (m : ℕ) (v : Vec SourceTerm Global) (o : Option (Box SourceTerm Global)) → AreBelow m (tree_variables (tree (written.List v o))) → AreBelow m (tail_variables (tail_view o))
tail_below m v o b = below_right m (trees_variables (vec_trees v)) (tail_variables (tail_view o)) (subst (AreBelow m) (list_variables v o) b)

pub list_numbers : {s t u : State} (v w : Vec SourceTerm Global) (o p : Option (Box SourceTerm Global)) → Numbers s (trees_variables (vec_trees v)) (trees_variables (vec_trees w)) t
    → Numbers t (tail_variables (tail_view o)) (tail_variables (tail_view p)) u → Numbers s (tree_variables (tree (written.List v o))) (tree_variables (tree (written.List w p))) u
list_numbers v w o p a b = rw (list_variables v o, list_variables w p) (numbers_append (trees_variables (vec_trees v)) (tail_variables (tail_view o)) a b)

-- ---- sums and products
pub chain_size : (b : Box SourceTerm Global) (v : Vec SourceStep Global) → tree_size (tree (written.Chain b v)) ≡ suc (tree_size (tree b.value) + steps_size (vec_steps v))
chain_size b v = ap tree_size (tree_chain b v)

chain_variables : (b : Box SourceTerm Global) (v : Vec SourceStep Global) → tree_variables (tree (written.Chain b v)) ≡ tree_variables (tree b.value) ++ steps_variables (vec_steps v)
chain_variables b v = ap tree_variables (tree_chain b v)

pub first_below : (m : ℕ) (b : Box SourceTerm Global) (v : Vec SourceStep Global) → AreBelow m (tree_variables (tree (written.Chain b v))) → AreBelow m (tree_variables (tree b.value))
first_below m b v h = below_left m (tree_variables (tree b.value)) (steps_variables (vec_steps v)) (subst (AreBelow m) (chain_variables b v) h)

pub rest_below : (m : ℕ) (b : Box SourceTerm Global) (v : Vec SourceStep Global) → AreBelow m (tree_variables (tree (written.Chain b v))) → AreBelow m (steps_variables (vec_steps v))
rest_below m b v h = below_right m (tree_variables (tree b.value)) (steps_variables (vec_steps v)) (subst (AreBelow m) (chain_variables b v) h)

pub chain_numbers : {s t u : State} (b d : Box SourceTerm Global) (v w : Vec SourceStep Global) → Numbers s (tree_variables (tree b.value)) (tree_variables (tree d.value)) t
    → Numbers t (steps_variables (vec_steps v)) (steps_variables (vec_steps w)) u → Numbers s (tree_variables (tree (written.Chain b v))) (tree_variables (tree (written.Chain d w))) u
chain_numbers b d v w x y = rw (chain_variables b v, chain_variables d w) (numbers_append (tree_variables (tree b.value)) (steps_variables (vec_steps v)) x y)
