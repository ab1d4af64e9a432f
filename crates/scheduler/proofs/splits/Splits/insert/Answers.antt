use Rattle.std.proofs.Common.{List, ap, ◌∙◌}
use Rattle.std.specs.Prelude.{◌||◌}
use Rattle.scheduler.specs.declared.splits.Split.{Split}
use Rattle.scheduler.specs.Splits.{same_split, is_kept}
use Rattle.scheduler.proofs.KeptSplits.{added}
use Rattle.scheduler.proofs.splits.Splits.insert.Goals as goal

pub returns-clause-kept : goal.returns-clause-kept
returns-clause-kept c = λ s.
    added c.self.inside.kept c.insert.new.self c.args.split c.in_ok-insert.ensures.updates.0 s
    ∙ ap (λ (ss : List Split). is_kept s ss || same_split s c.args.split) c.self.view_is
