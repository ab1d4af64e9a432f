use Rattle.std.proofs.Common.{sym, ap, ◌∙◌}
use Rattle.std.specs.Prelude.{option_copied}
use Rattle.variable_marks.specs.Marks.{mark_in}
use Rattle.variable_marks.proofs.InFrames.{mark_is}
use Rattle.variable_marks.proofs.marks.Marks.get.Goals as goal

pub returns-in-Some : goal.returns-in-Some
returns-in-Some c =
    c.get-in-Some.ensures ∙ sym (mark_is c.self.inside.frames c.self.inside.others _ c.args.variable (sym c.get.ensures.value ∙ ap option_copied c.in-Some.is)) ∙ ap (λ m. mark_in m c.args.variable) c.self.view_is

pub returns-in-None : goal.returns-in-None
returns-in-None c = sym (mark_is c.self.inside.frames c.self.inside.others _ c.args.variable (sym c.get.ensures.value ∙ ap option_copied c.in-None.is)) ∙ ap (λ m. mark_in m c.args.variable) c.self.view_is
