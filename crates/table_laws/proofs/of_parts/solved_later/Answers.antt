use Rattle.table_laws.proofs.NewBindings.{new_elsewhere}
use Rattle.table_laws.proofs.SolvedLater as law
use Rattle.table_laws.proofs.of_parts.solved_later.Goals as goal

pub returns-clause-still : goal.returns-clause-still
returns-clause-still c = λ rules run S T seen nodes shares within t f k is name same x solved was own. law.solved_still rules run T t k is S seen nodes shares within f name same x solved was own

pub returns-clause-fresh : goal.returns-clause-fresh
returns-clause-fresh c = λ rules run T t k is row at there so u x new older solved. law.solved_fresh rules run T t k is row at there so u x new older solved

pub returns-clause-new : goal.returns-clause-new
returns-clause-new c = new_elsewhere

pub returns-clause-part : goal.returns-clause-part
returns-clause-part c = λ S f x h. law.new_parts S f x h
