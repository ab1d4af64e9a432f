use Rattle.std.proofs.Common.{ℕ, List, ◌++◌, take, get_or, sym, ap, ◌∙◌, subst}
use Rattle.std.proofs.lemmas.List.{take_more, take_all}
use Rattle.akl_terms.specs.declared.name.Name.{Name}
use Rattle.table_laws.specs.Walks.{ListsEach}
use Rattle.table_laws.proofs.Drops.{each_more}
use Rattle.box_tree.specs.Tables.{table_of}
use Rattle.box_tree.proofs.table.Table.inside_all.Goals as goal

pub loop-name-preserved : goal.loop-name-preserved
loop-name-preserved c =
    let boxes : List Name = c.args.boxes.now in
    let at : ℕ = c.loop-name.name-index in
    let d : Name = record { worker = 0; number = 0 } in
    let more = take_more boxes at d c.loop-name-test.true in
    let items = c.in_ok-extend.ensures ∙ ap (λ (ns : List Name). c.loop-name.names.items ++ ns) c.as_slice.ensures.value in
    subst (λ (z : List Name × List Name). ListsEach (table_of c.args.self.now) z.0 z.1) (λ i. ((sym more) i, (sym items) i))
    (each_more (table_of c.args.self.now) (take at boxes) c.loop-name.names.items (get_or boxes at d) c.in_ok-inside.inside.items c.loop-name.invariant c.in_ok-inside.ensures)

pub returns : goal.returns
returns c = subst (λ (ns : List Name). ListsEach (table_of c.args.self.now) ns c.loop-name.names.items) (take_all c.loop-name.name-index c.args.boxes.now c.loop-name-test.false) c.loop-name.invariant
