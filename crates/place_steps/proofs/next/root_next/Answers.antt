use Rattle.place_steps.proofs.FoundIdle.{unready, root_idle}
use Rattle.place_steps.proofs.next.root_next.Goals as goal

pub idle_root-requires-clause-unready : goal.idle_root-requires-clause-unready
idle_root-requires-clause-unready c = unready c.args.view.now c.requires.none c.requires.root.candidate

pub returns-clause-next : goal.returns-clause-next
returns-clause-next c = root_idle c.args.view.now c.requires.none c.requires.root.candidate c.in_ok-idle.idle c.in_ok-idle.ensures.idle
