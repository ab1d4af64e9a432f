use Rattle.std.proofs.Common.{◌≡◌, ◌++◌, List, Some, ap, ◌∙◌, append_assoc}
use Rattle.akl_terms.specs.declared.name.Name.{Name}
use Rattle.akl_model.specs.Config.{Found, box_at}
use Rattle.table_laws.specs.Stamped.{IsTableOf}
use Rattle.box_tree.specs.Tables.{all_rules, TableValue, table_of, goals_in}
use Rattle.opened_places.specs.Placed.{PlacedValue, goals_placed}
use Rattle.opened_places.specs.Inner.{box_placed}
use Rattle.opened_places.proofs.RunRows.{has_path, there_found}
use Rattle.opened_places.proofs.inside.push_inner.Goals as goal

pub path_to-requires : goal.path_to-requires
path_to-requires c =
    let v : TableValue = c.args.table.now in
    let t : IsTableOf all_rules c.requires.run.0 (table_of v) = c.requires.run.1 in
    let f : (f : Found) × (box_at c.args.name t.config.roots ≡ Some f) = there_found v c.requires.run.0 t c.args.name c.requires.there in
    has_path v c.requires.run.0 t c.args.name f.0 f.1

pub returns : goal.returns
returns c =
    let path : List Name = c.in_ok-path.path.items in
    let old : List PlacedValue = c.args.places.now.items in (
      path,
      c.in_ok-path.ensures,
      c.in_ok-push_goals.ensures
          ∙ ap (λ (ps : List PlacedValue). ps ++ goals_placed c.as_slice-3.result.now c.as_slice-2.result.now) (c.in_ok-push_box.ensures ∙ ap (λ (ns : List Name). old ++ box_placed c.args.outer c.args.name ns) c.as_slice.ensures.value)
          ∙ (λ i. (old ++ box_placed c.args.outer c.args.name path) ++ goals_placed (c.as_slice-3.ensures.value i) ((c.as_slice-2.ensures.value ∙ c.in_ok-goals.ensures) i))
          ∙ append_assoc old (box_placed c.args.outer c.args.name path) (goals_placed path (goals_in ((table_of c.args.table.now).box_of c.args.name))),
    )
