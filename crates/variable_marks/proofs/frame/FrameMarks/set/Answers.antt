use Rattle.std.proofs.Common.{ap, ◌∙◌}
use Rattle.variable_marks.specs.Marks.{number_or, own_mark}
use Rattle.variable_marks.proofs.Within.{is_set, is_pushed, is_others}
use Rattle.variable_marks.proofs.frame.FrameMarks.set.Goals as goal

pub returns-in-Some : goal.returns-in-Some
returns-in-Some c =
    is_set c.args.index c.args.number c.args.self.now.others c.args.self.now.some.items c.as_slice.result.now c.place_of.result c.as_slice.ensures c.place_of.ensures c.as_mut_slice.result.now c.in-Some.place c.as_mut_slice.ensures.value c.in-Some.is

pub returns-in-None : goal.returns-in-None
returns-in-None c = is_others c.args.index c.args.number c.args.self.now.others c.args.self.now.some.items c.as_slice.result.now c.place_of.result c.as_slice.ensures c.place_of.ensures c.in-None.is c.if-number-self.true

pub returns-in_ok-push-in-None-2 : goal.returns-in_ok-push-in-None-2
returns-in_ok-push-in-None-2 c = λ i.
    ap (λ l. number_or c.args.self.now.others (own_mark l i)) c.in_ok-push-in-None-2.ensures.ok
    ∙ is_pushed c.args.index c.args.number c.args.self.now.others c.args.self.now.some.items c.as_slice.result.now c.place_of.result c.as_slice.ensures c.place_of.ensures c.in-None-2.is i
