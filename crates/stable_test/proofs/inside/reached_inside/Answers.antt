use Rattle.std.proofs.lemmas.Result.{IfOk-weaker}
use Rattle.stable_test.proofs.InnerViews.{inner_views}
use Rattle.stable_test.proofs.InsideTouched.{inside_touched}
use Rattle.stable_test.proofs.inside.reached_inside.Goals as goal

pub all_reached-requires : goal.all_reached-requires
all_reached-requires c = rw (c.as_slice-2.ensures.value, c.in_ok-frames.ensures, c.as_slice.ensures.value) (inner_views c.args.program.now c.args.depth c.args.inside.now c.requires)

pub returns : goal.returns
returns c =
    let h = rw (c.as_slice-2.ensures.value, c.in_ok-frames.ensures, c.as_slice.ensures.value) at c.all_reached.ensures in
    IfOk-weaker c.all_reached.result _ _ (λ list e s. inside_touched c.args.program.now c.args.depth c.args.inside.now s list.items e) h
