use Rattle.std.proofs.Common.{List, Some, set, refl, sym, ap, ◌∙◌, subst}
use Rattle.std.specs.Map.{lookup}
use Rattle.akl_terms.specs.declared.name.Name.{Name}
use Rattle.akl_terms.specs.Names.{same_name}
use Rattle.name_map.specs.Entries.{IsPut}
use Rattle.std.specs.Option.{option_copied_mut, ghost_name_of}
use Rattle.name_map.specs.Pages.{in_numbers, entries}
use Rattle.name_map.proofs.Found.{found}
use Rattle.name_map.proofs.Lent.{on_none, on_map}
use Rattle.name_map.proofs.Whole.{entries_same, entries_put, worker_kept, worker_put}
use Rattle.name_map.proofs.Within.{within_past, within_at}
use Rattle.name_map.proofs.map.NameMap.get_mut.Goals as goal

pub returns-in_err-self-inside : goal.returns-in_err-self-inside
returns-in_err-self-inside g c = (
  (sym (ap ghost_name_of c.from_residual.ensures), (λ w. on_none _ c.from_residual.result c.from_residual.ensures), c.self.view_is),
  record { writes_back = tt; value = rw (← c.self.view_is) (ap option_copied_mut c.from_residual.ensures ∙ sym (found c.self.inside.workers.items c.args.name ∙ within_past (in_numbers c.args.name.number) c.self.inside.workers.items c.args.name.worker c.in_err-self-inside.ensures.item.3)) },
)

pub returns : goal.returns
returns g c =
    let workers = c.self.inside.workers.items in
    let x = c.in_ok-self-inside.field-0.now in
    let at = c.in_ok-self-inside.ensures.item.3 in
    let lent = c.get_mut-2.follows in (
      (
        refl,
        (λ w. on_map c.get_mut-2.result (λ put. subst (λ (es : List (Name × g.row.V.Denot)). IsPut es (entries (set workers c.args.name.worker (lent.lender w))) c.args.name w) c.self.view_is
            (entries_put workers (set workers c.args.name.worker (lent.lender w)) c.args.name w (worker_put workers c.args.name c.args.name.worker x (lent.lender w) (Some w) refl at.0 at.1 put))) (lent.holds w)),
        entries_same workers (set workers c.args.name.worker lent.lender-at-none) (worker_kept workers c.args.name.worker x lent.lender-at-none at.0 at.1 lent.holds-at-none) ∙ c.self.view_is,
      ),
      record { writes_back = tt; value = c.get_mut-2.ensures.value ∙ sym (ap (lookup (same_name c.args.name)) (sym c.self.view_is) ∙ found workers c.args.name ∙ within_at (in_numbers c.args.name.number) workers c.args.name.worker x at.0 at.1) },
    )
