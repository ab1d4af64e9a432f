-- Chains that are solved throughout, and the port to which a message goes.
use Rattle.std.specs.Prelude.{◌≡◌, ℕ, List, is_some, true}
use Rattle.std.specs.Map.{lookup}
use Rattle.akl_terms.specs.declared.name.Name.{Name}
use Rattle.akl_terms.specs.declared.term.Node.{Node}
use Rattle.akl_terms.specs.declared.term.Term.TheVariants.{Mol}
use Rattle.akl_terms.specs.Equal.{Equal, IsConsistent}
use Rattle.akl_terms.specs.Names.{same_name}
use Rattle.akl_terms.specs.Standing.{StandFor}
use Rattle.akl_terms.specs.Template.{tree}
use Rattle.akl_terms.specs.Tree.{port}
use Rattle.akl_model.specs.Config.{whole}
use Rattle.local_store.specs.Stored.{Stored}
use Rattle.local_store.specs.Chained.{ToldBy, IsFormChain, innermost}
use Rattle.box_tree.specs.Views.{ViewValue, IsViewOf}

-- stores in which what is found is a solved form, and which stand for what others do, and of which the innermost has the same ports
pub record ResolvesAll (nodes : List Node) (ss new : List Stored) : Type 0 where
  pub form : IsFormChain nodes new
  pub stands : StandFor (ToldBy nodes ss) (ToldBy nodes new)
  pub ports : (innermost new).ports ≡ (innermost ss).ports

-- under what is told down to the box of a view's place, which is consistent, a node under a frame is this port, and the box has it
pub record GoesToPort (v : ViewValue) (frame : Name) (node : ℕ) (p : Name) : Type 0 where
  pub seen : IsViewOf v
  pub consistent : IsConsistent (whole seen.site)
  pub equal : Equal (whole seen.site) (tree v.table.program.templates.nodes (Mol node frame)) (port p)
  pub owned : is_some (lookup (same_name p) (innermost v.stores).ports) ≡ true
