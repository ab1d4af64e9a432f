use Rattle.std.proofs.Common.{sym, ◌∙◌, inl, inr}
use Rattle.std.proofs.lemmas.Bool.{false≢true}
use Rattle.std.proofs.lemmas.Result.{IfOk-weaker}
use Rattle.guard_plan.specs.Guards.{AreAllSolved}
use Rattle.idle_plan.proofs.Steps.{by_noise}
use Rattle.idle_plan.proofs.goals.waits_of_collecting.Goals as goal

pub returns-then-are_solved : goal.returns-then-are_solved
returns-then-are_solved c =
    let says = rw c.alternatives.ensures.alternatives at c.are_solved.ensures in
    let all : AreAllSolved c.args.view.now.alternatives = says.0 c.if-are_solved.true in
    let m = rw (c.chain.ensures.nodes, c.chain.ensures.stores) at c.members_of_all.ensures in
    IfOk-weaker c.members_of_all.result _ _
    (λ list h. inl (all, by_noise c.args.program.now.templates.nodes c.args.view.now.stores c.args.view.now.alternatives c.args.noise.now list.items (c.requires.noise all) h)) m

pub returns-else-are_solved : goal.returns-else-are_solved
returns-else-are_solved c =
    let says = rw c.alternatives.ensures.alternatives at c.are_solved.ensures in
    inr ((λ h. false≢true (sym c.if-are_solved.false ∙ says.1 h)), search)
