use Rattle.std.proofs.Common.{List, Option, None, get_or, option_copied, sym, ap, ◌∙◌, arith}
use Rattle.wake_lists.proofs.Filled.{found_in}
use Rattle.wake_lists.proofs.slots.Slots.get.Goals as goal

pub returns-in_err-get : goal.returns-in_err-get
returns-in_err-get g c = rw (← c.self.view_is)
    (ap option_copied c.from_residual.ensures ∙ c.in_err-get.ensures.lookup.4 (omega arith) None
    ∙ ap (λ (slots : List (Option g.row.V.Denot)). get_or slots c.args.token None) c.deref.ensures.value ∙ sym (found_in c.self.inside.slots.items c.args.token))

pub returns : goal.returns
returns g c = rw (← c.self.view_is)
    (c.as_ref.ensures.value ∙ c.in_ok-get.ensures.lookup.4 (omega arith) None
    ∙ ap (λ (slots : List (Option g.row.V.Denot)). get_or slots c.args.token None) c.deref.ensures.value ∙ sym (found_in c.self.inside.slots.items c.args.token))
