use Rattle.frame_map.proofs.Roots.{is_there, is_other, is_past}
use Rattle.frame_map.proofs.root.is_at.Goals as goal

pub returns-in-Some-clause-there : goal.returns-in-Some-clause-there
returns-in-Some-clause-there g c = λ e. is_there c.args.roots.now c.args.place c.args.worker c.in-Some.root.now c.in-Some.ensures.lookup.3.0 (c.in-Some.ensures.lookup.3.1 c.in-Some.root.now) e

pub returns-in-Some-clause-missing : goal.returns-in-Some-clause-missing
returns-in-Some-clause-missing g c = λ e. is_other c.args.roots.now c.args.place c.args.worker c.in-Some.root.now c.in-Some.ensures.lookup.3.0 (c.in-Some.ensures.lookup.3.1 c.in-Some.root.now) e

pub returns-in-None-clause-missing : goal.returns-in-None-clause-missing
returns-in-None-clause-missing g c = λ e. is_past c.args.roots.now c.args.place c.args.worker c.in-None.ensures.lookup.3
