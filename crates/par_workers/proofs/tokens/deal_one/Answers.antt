use Rattle.std.proofs.Common.{ap, ◌∙◌}
use Rattle.wake_lists.specs.TokenSets.{is_token_in}
use Rattle.task_pool.specs.Places.{Standing}
use Rattle.par_workers.proofs.Dealing.{token_last, token_still, still_dealt, now_dealt}
use Rattle.par_workers.proofs.tokens.deal_one.Goals as goal

pub returns-in-Ok-clause-still : goal.returns-in-Ok-clause-still
returns-in-Ok-clause-still c =
    let old = c.index_mut.result.now in
    still_dealt c.args.hands.now.items c.args.number old c.push.new.hand c.requires
    (λ t e. ap (λ (h : Standing). is_token_in t h.pushed) c.in-Ok.ensures.ok ∙ token_still old.pushed c.args.token t (ap (λ (h : Standing). is_token_in t h.pushed) c.index_mut.ensures.value ∙ e))

pub returns-in-Ok-clause-dealt : goal.returns-in-Ok-clause-dealt
returns-in-Ok-clause-dealt c =
    now_dealt c.args.hands.now.items c.args.number c.push.new.hand c.args.token c.requires
    (ap (λ (h : Standing). is_token_in c.args.token h.pushed) c.in-Ok.ensures.ok ∙ token_last c.index_mut.result.now.pushed c.args.token)
