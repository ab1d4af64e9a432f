use Rattle.std.proofs.Common.{sym, ◌∙◌, subst}
use Rattle.wake_lists.specs.Queue.{Places, IsTokenOf}
use Rattle.wake_lists.proofs.QueueKept.{token_is_of}
use Rattle.wake_lists.proofs.queue.Queue.token_of.Goals as goal

pub returns : goal.returns
returns c =
    subst (λ (es : Places). IsTokenOf es c.args.place c.copied.result) c.self.view_is
    (subst (IsTokenOf c.self.inside.schedule c.args.place) (sym (c.copied.ensures ∙ c.get.ensures))
    (token_is_of c.self.inside.schedule c.self.inside.tokens c.self.invariant c.args.place))
