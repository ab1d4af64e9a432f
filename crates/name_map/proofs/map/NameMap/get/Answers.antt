use Rattle.std.proofs.Common.{option_copied, sym, ap, ◌∙◌}
use Rattle.name_map.specs.Pages.{in_numbers, value_at}
use Rattle.name_map.specs.declared.numbers.Numbers.{Numbers}
use Rattle.name_map.proofs.Found.{found}
use Rattle.name_map.proofs.Within.{within_past, within_at}
use Rattle.std.proofs.Common.{List}
use Rattle.name_map.proofs.map.NameMap.get.Goals as goal

pub returns-in_err-get : goal.returns-in_err-get
returns-in_err-get g c = rw (← c.self.view_is)
    (ap option_copied c.from_residual.ensures
    ∙ sym (found c.self.inside.workers.items c.args.name ∙ ap (λ (xs : List (Numbers g.row.V.Denot)). value_at xs c.args.name) (sym c.deref.ensures.value) ∙ within_past (in_numbers c.args.name.number) c.deref.result.now c.args.name.worker c.in_err-get.ensures.lookup.3))

pub returns : goal.returns
returns g c = rw (← c.self.view_is)
    (c.get-2.ensures
    ∙ sym (found c.self.inside.workers.items c.args.name ∙ ap (λ (xs : List (Numbers g.row.V.Denot)). value_at xs c.args.name) (sym c.deref.ensures.value)
    ∙ within_at (in_numbers c.args.name.number) c.deref.result.now c.args.name.worker c.in_ok-get.field-0.now c.in_ok-get.ensures.lookup.3.0 c.in_ok-get.ensures.lookup.3.1))
