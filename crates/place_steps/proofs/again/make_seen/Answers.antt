use Rattle.std.proofs.Common.{subst, ◌∙◌}
use Rattle.place_steps.specs.Seen.{view_in}
use Rattle.place_steps.specs.Next.{IsNext, HasRoom}
use Rattle.place_steps.specs.Again.{MayBe}
use Rattle.place_steps.specs.declared.next.Next.{Next}
use Rattle.place_steps.proofs.MadeAgain.{alone, made_ok}
use Rattle.place_steps.proofs.again.make_seen.Goals as goal

pub returns-in-Plan-clause-made : goal.returns-in-Plan-clause-made
returns-in-Plan-clause-made g c =
    let next : IsNext (view_in c.args.seen.now) (Next.Plan c.in-Plan.plan) = subst (IsNext (view_in c.args.seen.now)) c.in-Plan.is c.in_ok-next.ensures.next in
    let room : HasRoom 1 (Next.Plan c.in-Plan.plan) = subst (HasRoom 1) c.in-Plan.is c.in_ok-next.ensures.room in
    let same : MayBe c.args.label (Next.Plan c.in-Plan.plan) = subst (MayBe c.args.label) c.in-Plan.is (c.may_be.ensures c.if-not-may_be.false) in
    made_ok c.args.core.now c.commit.new.core c.args.label c.in-Plan.plan c.commit.result (alone c.in-Plan.plan room)
    (next.place ∙ c.requires.sight.is_place) same (next.worker ∙ c.requires.sight.seer) c.commit.ensures.committed
