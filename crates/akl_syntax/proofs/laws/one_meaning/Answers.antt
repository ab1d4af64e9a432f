use Rattle.akl_syntax.proofs.OneVerdict.{program_one, query_verdict_one, clause_verdict_one}
use Rattle.akl_syntax.proofs.laws.one_meaning.Goals as goal

pub returns : goal.returns
returns c = record {
  program = λ bytes one another r s. program_one r s;
  query = λ bytes one another r s. query_verdict_one r s;
  clause = λ bytes start one another r s. clause_verdict_one r s;
}
