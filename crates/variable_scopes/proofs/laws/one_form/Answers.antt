use Rattle.variable_scopes.proofs.OneForm.{one_scoped, one_scoped_query}
use Rattle.variable_scopes.proofs.laws.one_form.Goals as goal

pub returns : goal.returns
returns c = record { clauses = one_scoped; query = λ q r s a b. one_scoped_query a b }
