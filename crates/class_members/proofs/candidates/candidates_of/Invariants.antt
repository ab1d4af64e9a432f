use Rattle.std.proofs.Common.{◌≡◌, ◌++◌, take}
use Rattle.std.specs.Prelude.{map}
use Rattle.akl_terms.specs.declared.name.Var.{Var}
use Rattle.akl_terms.specs.declared.term.Term.{Term}
use Rattle.class_members.specs.Listed.{inner_keys}
use Rattle.class_members.proofs.candidates.candidates_of.Given as goal

abbrev pub invariant-loop-binding : goal.invariant-loop-binding
invariant-loop-binding l = l.list.items ≡ inner_keys l.solved ++ map (λ (b : Var × Term). b.0) (take l.binding-index l.added)
