use Rattle.std.proofs.Common.{take}
use Rattle.std.proofs.lemmas.Result.{IfOk-weaker}
use Rattle.class_members.specs.Members.{AreMembers}
use Rattle.why_report.proofs.Leasts.{one_outermost, least_oldest}
use Rattle.why_report.proofs.oldest.oldest_of.Goals as goal

pub returns : goal.returns
returns c =
    let ss = take 1 c.args.chain.now.stores in
    let m : AreMembers c.args.chain.now.nodes ss c.args.of.now c.in_ok-list.list.items = rw (c.outer-outermost.ensures.nodes, c.outer-outermost.ensures.stores) at c.in_ok-list.ensures.members in
    IfOk-weaker c.first_of_each.result _ _ (λ list h. least_oldest c.args.chain.now.nodes ss (one_outermost c.args.chain.now.nodes c.args.chain.now.stores) c.args.of.now c.in_ok-list.list.items
    c.sort_unstable.new.self.items list.items m c.sort_unstable.ensures.permutation h)
    (rw (c.outer-outermost.ensures.nodes, c.outer-outermost.ensures.stores, c.as_slice.ensures.value) at c.first_of_each.ensures)
