use Rattle.akl_model.proofs.NextNumbers.{own_number, few_names}
use Rattle.akl_model.proofs.laws.next_numbers.Goals as goal

pub returns : goal.returns
returns c = record { own = own_number; few = few_names }
