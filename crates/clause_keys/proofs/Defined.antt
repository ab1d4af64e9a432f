-- What a clause defines.
use Rattle.std.proofs.Common.{◌≡◌, ℕ, ◌≤◌, List, [], ◌∷◌, length, Option, Some, None, refl, sym, ap, ◌∙◌, arith}
use Rattle.akl_terms.specs.declared.program.Definition.{Definition}
use Rattle.akl_terms.specs.declared.program.Key.{Key}
use Rattle.akl_terms.specs.declared.program.Op.{Op}
use Rattle.akl_terms.specs.declared.program.Op.TheVariants as ops
use Rattle.akl_syntax.specs.declared.source.Head.{Head}
use Rattle.akl_syntax.specs.declared.source.Head.TheVariants as heads
use Rattle.term_syntax.specs.Tree.{Tree, variable, integer, compound, list, chain, trees}
use Rattle.akl_syntax.specs.Sizes.{clause_size}
use Rattle.term_syntax.specs.Sizes.{tree_size, trees_size}
use Rattle.akl_syntax.specs.Clauses.{Clause}
use Rattle.clause_keys.specs.declared.callee.Callee.{Callee}
use Rattle.clause_keys.specs.declared.callee.Callee.TheVariants.{Named, Lifted, Collecting}
use Rattle.clause_keys.specs.Conditions.{IsGuard}
use Rattle.clause_keys.specs.Keys.{lifted_by, by_head, defined_by, called, called_by, arity_of}

pub defined_is : (c : Clause) (h : Head) (n : ℕ) → c.head ≡ h → n ≡ length c.arguments → defined_by c ≡ by_head c.part.op h n
unfolding defined_by
defined_is c h n e f = ap (λ (z : Head). by_head c.part.op z (length c.arguments)) e ∙ ap (by_head c.part.op h) (sym f)

some_tree : (t : Tree) → 1 ≤ tree_size t
some_tree (variable n) = omega arith
some_tree (integer z) = omega arith
some_tree (compound s ts) = omega arith
some_tree (list ts e) = omega arith
some_tree (chain t ss) = omega arith

trees_length : (ts : List Tree) → length ts ≤ trees_size (trees ts)
trees_length [] = omega arith
trees_length (t ∷ ts) = omega (arith, some_tree t, trees_length ts)

pub few_arguments : (c : Clause) → length c.arguments ≤ clause_size c
few_arguments c = omega (arith, trees_length c.arguments)

-- ---- the number of a lifted definition
abbrev pub lifted_number : Callee → Option ℕ
lifted_number (Named key) = None
lifted_number (Lifted number n) = Some number
lifted_number (Collecting number n) = Some number

abbrev pub head_number : Head → Option ℕ
head_number (heads.Named s) = None
head_number (heads.Lifted number inside) = Some number

pub number_lifted : (op : Op) (number n : ℕ) → lifted_number (lifted_by op number n) ≡ Some number
number_lifted ops.Condition number n = refl
number_lifted ops.Commit number n = refl
number_lifted ops.Choice number n = refl
number_lifted ops.Collect number n = refl

pub number_headed : (op : Op) (h : Head) (n : ℕ) → lifted_number (by_head op h n) ≡ head_number h
number_headed op (heads.Named s) n = refl
number_headed op (heads.Lifted number inside) n = number_lifted op number n

pub number_defined : (c : Clause) → lifted_number (defined_by c) ≡ head_number c.head
unfolding defined_by
number_defined c = number_headed c.part.op c.head (length c.arguments)

number_called_as : (op : Op) (o : Option ℕ) (k : Key) (n : ℕ) → lifted_number (called op o k n) ≡ o
number_called_as op None k n = refl
number_called_as op (Some number) k n = number_lifted op number n

pub number_called : (d : Definition) → lifted_number (called_by d) ≡ d.lifted
number_called d = number_called_as d.op d.lifted d.key (arity_of d.clauses)

-- what is called so, and doesn't collect
pub lifted_guard : (op : Op) (number n : ℕ) → IsGuard op → lifted_by op number n ≡ Lifted number n
lifted_guard ops.Condition number n g = refl
lifted_guard ops.Commit number n g = refl
lifted_guard ops.Choice number n g = refl
lifted_guard ops.Collect number n g = absurd g
