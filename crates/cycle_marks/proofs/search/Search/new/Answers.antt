use Rattle.std.proofs.Common.{◌++◌, ◌∷◌, [], List, ap, ◌∙◌}
use Rattle.cycle_marks.specs.declared.search.Mark.{Mark}
use Rattle.cycle_marks.specs.declared.search.Mark.TheVariants.{New}
use Rattle.cycle_marks.proofs.Marking.{new_marks-more}
use Rattle.cycle_marks.proofs.search.Search.new.Goals as goal

pub loop-preserved : goal.loop-preserved
loop-preserved c = c.in_ok-push.ensures.items ∙ ap (λ (ms : List Mark). ms ++ New ∷ []) c.loop.invariant ∙ new_marks-more c.loop.counter
