use Rattle.std.proofs.Common.{◌≡◌, ◌<◌, ◌≤◌, length, arith}
use Rattle.std.proofs.lemmas.Result.{IfOk-weaker}
use Rattle.guard_plan.specs.ReadAt.{AreEndsOf}
use Rattle.split_plan.specs.Read.{of_one, by_ends, of_more}
use Rattle.split_plan.proofs.reading.read_around.Goals as goal

pub returns-then-around-lt2 : goal.returns-then-around-lt2
returns-then-around-lt2 c = IfOk-weaker c.stores_of.result _ _ (λ items e. of_one (omega (arith, c.if-around-lt2.true)) e) c.stores_of.ensures

pub returns-then-not-keeps_marks : goal.returns-then-not-keeps_marks
returns-then-not-keeps_marks c = IfOk-weaker c.sets_of.result _ _ (λ items e. of_more (omega (arith, c.if-around-lt2.false)) e) c.sets_of.ensures

pub returns-in-Some : goal.returns-in-Some
returns-in-Some c =
    let ends : AreEndsOf c.args.view.now c.in-Some.ends.items = rw c.in-Some.is at c.in_ok-ends.ensures in
    IfOk-weaker c.stores_and_ends.result _ _ (λ items e. by_ends c.in-Some.ends.items ends e) (rw c.as_slice.ensures.value at c.stores_and_ends.ensures)

pub returns-in-None : goal.returns-in-None
returns-in-None c = IfOk-weaker c.sets_of-in-None.result _ _ (λ items e. of_more (omega (arith, c.if-around-lt2.false)) e) c.sets_of-in-None.ensures
