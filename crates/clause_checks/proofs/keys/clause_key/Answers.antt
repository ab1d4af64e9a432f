use Rattle.std.proofs.Common.{arith}
use Rattle.std.proofs.lemmas.List.{length-map}
use Rattle.term_syntax.specs.View.{tree}
use Rattle.akl_syntax.specs.Answers.{clause_view}
use Rattle.clause_keys.proofs.Defined.{few_arguments}
use Rattle.clause_checks.proofs.keys.clause_key.Goals as goal

pub overflow_cast-result : goal.overflow_cast-result
overflow_cast-result c = omega (arith, few_arguments (clause_view c.args.clause.now), length-map c.args.clause.now.arguments.items tree, c.requires)
