use Rattle.std.proofs.Common.{List, ap, ◌∙◌}
use Rattle.std.specs.Prelude.{◌&&◌, not}
use Rattle.scheduler.specs.declared.splits.Split.{Split}
use Rattle.scheduler.specs.Splits.{same_split, is_kept}
use Rattle.scheduler.proofs.KeptSplits.{removed}
use Rattle.scheduler.proofs.splits.Splits.remove.Goals as goal

pub returns : goal.returns
returns c = λ s.
    removed c.self.inside.kept c.remove.new.self c.args.split c.remove.ensures.updates.0 s
    ∙ ap (λ (ss : List Split). is_kept s ss && not (same_split s c.args.split)) c.self.view_is
