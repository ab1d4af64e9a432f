use Rattle.std.proofs.Common.{refl, ◌∙◌}
use Rattle.par_workers.proofs.Runs.{has_gone_on}
use Rattle.par_workers.proofs.run.finish.Goals as goal

pub returns : goal.returns
returns c begun was =
    has_gone_on c.args.scheduler.core begun c.args.receipts.items _ c.replace-first.result c.replace-first.new.dest c.in_ok-run.run' c.requires.some (c.replace-first.ensures.value ∙ c.index_mut.ensures.value) c.in_ok-run.ensures was _ refl refl refl
