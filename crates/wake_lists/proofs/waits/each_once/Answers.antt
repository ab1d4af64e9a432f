use Rattle.std.proofs.Common.{refl, ap, ◌∙◌}
use Rattle.wake_lists.specs.Waits.{is_variable_in}
use Rattle.wake_lists.proofs.EachOnce.{each_is_once, same_variables}
use Rattle.wake_lists.proofs.waits.each_once.Goals as goal

pub returns-clause-same : goal.returns-clause-same
returns-clause-same c = λ x.
    same_variables c.in_ok-list.list.items c.sort_unstable.new.self.items c.dedup.new.self.items _ c.dedup.ensures.filtered (λ a b. refl) c.sort_unstable.ensures.permutation c.sort_unstable.ensures.sorted x
    ∙ ap (is_variable_in x) c.in_ok-list.ensures.items

pub returns-clause-once : goal.returns-clause-once
returns-clause-once c =
    each_is_once c.in_ok-list.list.items c.sort_unstable.new.self.items c.dedup.new.self.items _ c.dedup.ensures.filtered (λ a b. refl) c.sort_unstable.ensures.permutation c.sort_unstable.ensures.sorted
