use Rattle.std.proofs.Common.{sym, ◌∙◌}
use Rattle.scheduler.proofs.ListedOthers.{named_added, named_before}
use Rattle.scheduler.proofs.waiting.Added.has_frame.Goals as goal

pub returns-then-has_frame : goal.returns-then-has_frame
returns-then-has_frame c =
    c.if-has_frame.true ∙ sym (named_added c.args.self.store.now.frames c.args.self.part.now.frames.items c.args.frame (sym c.has_frame.ensures ∙ c.if-has_frame.true))

pub returns-else-has_frame : goal.returns-else-has_frame
returns-else-has_frame c =
    c.has_frame-else-has_frame.ensures ∙ sym (named_before c.args.self.store.now.frames c.args.self.part.now.frames.items c.args.frame (sym c.has_frame.ensures ∙ c.if-has_frame.false))
