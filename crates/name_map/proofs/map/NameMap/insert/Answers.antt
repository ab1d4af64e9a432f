use Rattle.std.proofs.Common.{◌<◌, List, Option, Some, length, set, ap, ◌∙◌, arith, subst}
use Rattle.std.proofs.lemmas.List.{get_or_default}
use Rattle.std.specs.Prelude.{if◌then◌else◌}
use Rattle.akl_terms.specs.declared.name.Name.{Name}
use Rattle.akl_terms.specs.Names.{same_name}
use Rattle.name_map.specs.Entries.{IsPut}
use Rattle.name_map.specs.Pages.{entries}
use Rattle.name_map.proofs.Lent.{on_ok_map, on_err_map, on_err_any}
use Rattle.name_map.proofs.Whole.{entries_same, entries_put, worker_kept, worker_put}
use Rattle.name_map.proofs.map.NameMap.insert.Goals as goal

pub returns-in_err-make_workers-clause-unchanged : goal.returns-in_err-make_workers-clause-unchanged
returns-in_err-make_workers-clause-unchanged g c = on_err_any c.from_residual.result (entries_same c.self.inside.workers.items c.make_workers.new.workers.items c.in_err-make_workers.ensures.same ∙ c.self.view_is)

pub returns-clause-put : goal.returns-clause-put
returns-clause-put g c =
    let workers = c.make_workers.new.workers.items in
    let within : c.args.name.worker < length c.make_workers.new.workers.items = omega (arith, c.in_ok-make_workers.ensures.there) in
    on_ok_map c.insert.result (λ put. subst (λ (es : List (Name × g.row.V.Denot)). IsPut es (entries (set workers c.args.name.worker c.insert.new.self)) c.args.name c.args.value) c.self.view_is
    (entries_put c.self.inside.workers.items (set workers c.args.name.worker c.insert.new.self) c.args.name c.args.value
    (λ m. worker_put workers c.args.name c.args.name.worker c.index_mut.result.now c.insert.new.self (Some c.args.value) (λ i. c.args.name.worker) within (λ d. c.index_mut.ensures.value ∙ get_or_default workers c.args.name.worker c.index_mut.result.now d within) put m
    ∙ ap (λ (o : Option g.row.V.Denot). if same_name m c.args.name then Some c.args.value else o) (c.in_ok-make_workers.ensures.same m)))) c.insert.ensures.put

pub returns-clause-unchanged : goal.returns-clause-unchanged
returns-clause-unchanged g c =
    let workers = c.make_workers.new.workers.items in
    let within : c.args.name.worker < length c.make_workers.new.workers.items = omega (arith, c.in_ok-make_workers.ensures.there) in
    on_err_map c.insert.result (λ same. entries_same c.self.inside.workers.items (set workers c.args.name.worker c.insert.new.self)
    (λ m. worker_kept workers c.args.name.worker c.index_mut.result.now c.insert.new.self within (λ d. c.index_mut.ensures.value ∙ get_or_default workers c.args.name.worker c.index_mut.result.now d within) same m ∙ c.in_ok-make_workers.ensures.same m) ∙ c.self.view_is) c.insert.ensures.unchanged
