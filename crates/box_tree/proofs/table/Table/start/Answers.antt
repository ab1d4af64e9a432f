use Rattle.std.proofs.Common.{◌≡◌, map, sym, subst, ◌∙◌, List}
use Rattle.akl_terms.specs.declared.name.Name.{Name}
use Rattle.akl_terms.specs.declared.program.Goal.{Goal}
use Rattle.akl_model.specs.Ordered.{IsIncreasing}
use Rattle.box_tree.specs.Starts.{IsFirstEntry}
use Rattle.box_tree.proofs.Begins.{goals_increase, begun}
use Rattle.box_tree.proofs.table.Table.start.Goals as goal

pub first_entry-requires : goal.first_entry-requires
first_entry-requires c = subst (λ (gs : List (Name × Goal)). IsIncreasing (map (λ (x : Name × Goal). x.0) gs)) (sym (c.as_slice.ensures.value ∙ c.in_ok-goals.ensures)) (goals_increase 2 c.args.query.now.goals)

pub returns-clause-started : goal.returns-clause-started
returns-clause-started c =
    let goals : c.as_slice.result.now ≡ c.in_ok-goals.goals.items = c.as_slice.ensures.value in
    begun c.args.program.now c.args.query.now c.in_ok-goals.goals.items c.in_ok-shown.shown.items c.in_ok-entry.entry c.in_ok-table.table c.put_entry.new.self c.len.result c.in_ok-table.ensures
    c.in_ok-put_entry.ensures.put (subst (λ (gs : List (Name × Goal)). IsFirstEntry gs c.in_ok-shown.shown.items c.in_ok-entry.entry) goals c.in_ok-entry.ensures) c.in_ok-goals.ensures (c.len.ensures ∙ c.in_ok-goals.goals.ok.0) c.in_ok-shown.ensures
