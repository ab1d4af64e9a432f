use Rattle.std.proofs.Common.{◌++◌, List, [], ◌∷◌, sym, ap, subst, ◌∙◌}
use Rattle.std.proofs.lemmas.List.{take_more}
use Rattle.std.specs.List.{AllByRecursion}
use Rattle.akl_terms.specs.declared.name.Name.{Name}
use Rattle.box_tree.specs.declared.inside.InnerBox.{InnerBox}
use Rattle.box_tree.specs.Insides.{IsInnerBox}
use Rattle.box_tree.proofs.Within.{box_names, all_end, map_end}
use Rattle.box_tree.proofs.table.Table.inner_boxes.Goals as goal

pub loop-name-preserved : goal.loop-name-preserved
loop-name-preserved c =
    let old : List InnerBox = c.loop-name.boxes.items in
    let x : InnerBox = c.in_ok-found.found in
    let d : Name = record { worker = 0; number = 0 } in (
      ap box_names c.in_ok-push.ensures.items ∙ map_end (λ (b : InnerBox). b.name) old x
          ∙ (λ i. (c.loop-name.invariant.0 i) ++ (c.in_ok-found.ensures.name i) ∷ []) ∙ sym (take_more c.args.names.now c.loop-name.name-index d c.loop-name-test.true),
      subst (AllByRecursion (IsInnerBox c.args.self.now)) (sym c.in_ok-push.ensures.items) (all_end (IsInnerBox c.args.self.now) old x c.loop-name.invariant.1 c.in_ok-found.ensures.row),
    )
