use Rattle.task_pool.proofs.Keeps.{pushes, takes}
use Rattle.task_pool.proofs.Passing.{calls}
use Rattle.task_pool.proofs.rule.InOrderRule.laws.Goals as goal

pub returns-clause-pushes : goal.returns-clause-pushes
returns-clause-pushes c = pushes

pub returns-clause-takes : goal.returns-clause-takes
returns-clause-takes c = takes

pub returns-clause-calls : goal.returns-clause-calls
returns-clause-calls c = calls
