use Rattle.std.proofs.Common.{rules}
use Rattle.akl_syntax.specs.Answers.{clause_view}
use Rattle.clause_keys.specs.Keys.{defined_by}
use Rattle.clause_checks.specs.Rows.{is_callee}
use Rattle.clause_checks.specs.Tallies.{clause_of}
use Rattle.clause_checks.proofs.Lists.{count_mapped}
use Rattle.clause_checks.proofs.definitions.definition_size.Goals as goal

pub returns : goal.returns
returns c = rw (count_mapped (λ d. is_callee (defined_by (clause_view c.args.clause.now)) (defined_by d)) clause_of c.args.listed.now) (search rules)
