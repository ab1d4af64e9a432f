use Rattle.std.proofs.Common.{sym, ap, ◌∙◌}
use Rattle.std.specs.Option.{option_copied}
use Rattle.local_store.specs.Stored.{is_named}
use Rattle.local_store.specs.Kept.{owns, frames_of}
use Rattle.local_store.proofs.SettledValues.{named-settled}
use Rattle.local_store.proofs.settled.Settled.has_frame.Goals as goal

pub returns-in-Some : goal.returns-in-Some
returns-in-Some c = ap (λ f. f.own) c.get-in-Some.ensures ∙ sym (ap (λ o. owns (option_copied o)) c.in-Some.is) ∙ ap owns c.get.ensures ∙ sym (named-settled c.self.inside.frames c.args.frame c.self.invariant.ordered)
    ∙ ap (λ es. is_named (frames_of es) c.args.frame) c.self.view_is

pub returns-in-None : goal.returns-in-None
returns-in-None c = sym (ap (λ o. owns (option_copied o)) c.in-None.is) ∙ ap owns c.get.ensures ∙ sym (named-settled c.self.inside.frames c.args.frame c.self.invariant.ordered)
    ∙ ap (λ es. is_named (frames_of es) c.args.frame) c.self.view_is
