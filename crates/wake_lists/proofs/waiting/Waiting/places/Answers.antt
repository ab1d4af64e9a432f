use Rattle.std.proofs.Common.{sym, ap, ◌∙◌}
use Rattle.std.specs.Prelude.{option_copied}
use Rattle.wake_lists.specs.Waits.{places_at}
use Rattle.wake_lists.proofs.WaitsKept.{places_are, places_none}
use Rattle.wake_lists.proofs.waiting.Waiting.places.Goals as goal

pub returns-in-Some : goal.returns-in-Some
returns-in-Some c =
    c.iter.ensures.rest ∙ sym (places_are c.args.variable c.self.inside.places c.in-Some.places.now (sym c.get.ensures.value ∙ ap option_copied c.in-Some.is))
    ∙ ap (places_at c.args.variable) c.self.view_is

pub returns-in-None : goal.returns-in-None
returns-in-None c =
    sym (places_none c.args.variable c.self.inside.places (sym c.get.ensures.value ∙ ap option_copied c.in-None.is)) ∙ ap (places_at c.args.variable) c.self.view_is
