use Rattle.std.proofs.Common.{List, None, set, refl, sym, ap, ◌∙◌, subst}
use Rattle.std.specs.Map.{lookup}
use Rattle.akl_terms.specs.declared.name.Name.{Name}
use Rattle.akl_terms.specs.Names.{same_name}
use Rattle.name_map.specs.Entries.{IsTakenOut}
use Rattle.name_map.specs.Pages.{in_numbers, entries}
use Rattle.name_map.proofs.Found.{found}
use Rattle.name_map.proofs.Whole.{entries_taken_out, worker_put, name_missing}
use Rattle.name_map.proofs.Within.{within_past, within_at}
use Rattle.name_map.proofs.map.NameMap.remove.Goals as goal

pub returns-in_err-get_mut-clause-was : goal.returns-in_err-get_mut-clause-was
returns-in_err-get_mut-clause-was g c = c.from_residual.ensures
    ∙ sym (ap (lookup (same_name c.args.name)) (sym c.self.view_is) ∙ found c.self.inside.workers.items c.args.name ∙ within_past (in_numbers c.args.name.number) c.self.inside.workers.items c.args.name.worker c.in_err-get_mut.ensures.item.3)

pub returns-in_err-get_mut-clause-gone : goal.returns-in_err-get_mut-clause-gone
returns-in_err-get_mut-clause-gone g c = subst (λ (es : List (Name × g.row.V.Denot)). IsTakenOut es (entries c.self.inside.workers.items) c.args.name) c.self.view_is
    (entries_taken_out c.self.inside.workers.items c.self.inside.workers.items c.args.name
    (name_missing c.self.inside.workers.items c.args.name (within_past (in_numbers c.args.name.number) c.self.inside.workers.items c.args.name.worker c.in_err-get_mut.ensures.item.3)))

pub returns-clause-was : goal.returns-clause-was
returns-clause-was g c = c.remove.ensures.was
    ∙ sym (ap (lookup (same_name c.args.name)) (sym c.self.view_is) ∙ found c.self.inside.workers.items c.args.name
    ∙ within_at (in_numbers c.args.name.number) c.self.inside.workers.items c.args.name.worker c.in_ok-get_mut.field-0.now c.in_ok-get_mut.ensures.item.3.0 c.in_ok-get_mut.ensures.item.3.1)

pub returns-clause-gone : goal.returns-clause-gone
returns-clause-gone g c = subst (λ (es : List (Name × g.row.V.Denot)). IsTakenOut es (entries (set c.self.inside.workers.items c.args.name.worker c.remove.new.self)) c.args.name) c.self.view_is
    (entries_taken_out c.self.inside.workers.items (set c.self.inside.workers.items c.args.name.worker c.remove.new.self) c.args.name
    (worker_put c.self.inside.workers.items c.args.name c.args.name.worker c.in_ok-get_mut.field-0.now c.remove.new.self None refl c.in_ok-get_mut.ensures.item.3.0 c.in_ok-get_mut.ensures.item.3.1 c.remove.ensures.gone))
