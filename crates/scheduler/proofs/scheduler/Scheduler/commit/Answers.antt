use Rattle.std.proofs.Common.{List, ◌+◌, length, ap, ◌∙◌}
use Rattle.akl_model.specs.declared.item.Item.{Item}
use Rattle.scheduler.proofs.WorkBound.{stamps_within, all_within}
use Rattle.scheduler.proofs.scheduler.Scheduler.commit.Goals as goal

pub returns-in-Some-clause-steps : goal.returns-in-Some-clause-steps
returns-in-Some-clause-steps g c =
    stamps_within c.args.self.now c.args.plan c.args.steps.now c.count.new.steps (c.count.ensures ∙ ap (λ (is : List Item). c.args.steps.now + length is) c.reads.ensures.reads)

pub returns-in_err-committed-clause-steps : goal.returns-in_err-committed-clause-steps
returns-in_err-committed-clause-steps g c =
    all_within c.args.self.now c.args.plan c.args.steps.now c.count.new.steps c.commit_fresh.new.steps (c.count.ensures ∙ ap (λ (is : List Item). c.args.steps.now + length is) c.reads.ensures.reads) c.commit_fresh.ensures.steps

pub returns-clause-steps : goal.returns-clause-steps
returns-clause-steps g c =
    all_within c.args.self.now c.args.plan c.args.steps.now c.count.new.steps c.commit_fresh.new.steps (c.count.ensures ∙ ap (λ (is : List Item). c.args.steps.now + length is) c.reads.ensures.reads) c.commit_fresh.ensures.steps
