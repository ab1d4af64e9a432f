use Rattle.std.proofs.Common.{List, Option, Some, sym, ap, ◌∙◌, subst}
use Rattle.akl_terms.specs.declared.name.Name.{Name}
use Rattle.akl_terms.specs.declared.program.Goal.{Goal}
use Rattle.table_laws.specs.Writes.{changed_box, first_fail, IsFresh}
use Rattle.box_tree.specs.Tables.{TableValue, table_of, goals_in}
use Rattle.box_tree.specs.Edits.{SetsRows, AddsOnly, Clears, AreNew, joins_row, named_atoms, atoms_with}
use Rattle.box_tree.proofs.Adding.{undone}
use Rattle.box_tree.proofs.Forked.{fresh_boxes, fresh_goals}
use Rattle.box_tree.proofs.Joined.{fresh_new}
use Rattle.box_tree.proofs.News.{firsts, names_atoms, atoms_put, rows_set}
use Rattle.box_tree.proofs.table.Table.join_goals.Goals as goal

pub returns-in_default-clause-unchanged : goal.returns-in_default-clause-unchanged
returns-in_default-clause-unchanged c =
    let t : TableValue = c.args.self.now in
    let own : List Name = firsts c.args.goals.items in
    let names = c.as_slice-names.ensures.value ∙ c.in_ok-names.ensures ∙ ap firsts c.as_slice.ensures.value in
    let fresh = subst (IsFresh (table_of t)) (names_atoms t.program.templates.nodes c.args.goals.items) c.requires.fresh in
    undone t c.put_goals.new.self c.drop_entries.new.self own c.in_default.ensures.only (subst (Clears c.put_goals.new.self c.drop_entries.new.self) names c.drop_entries.ensures) (fresh_boxes t own fresh) (fresh_goals t own fresh)

pub join_box-requires : goal.join_box-requires
join_box-requires c =
    let t : TableValue = c.args.self.now in
    let names = c.as_slice-names.ensures.value ∙ c.in_ok-names.ensures ∙ ap firsts c.as_slice.ensures.value in
    let fresh = subst (IsFresh (table_of t)) (names_atoms t.program.templates.nodes c.args.goals.items) c.requires.fresh in
    subst (λ (u : TableValue). AreNew c.as_slice-names.result.now (goals_in ((table_of u).box_of c.args.home))) (sym c.in-Ok.ensures.put.rest)
    (subst (λ (ns : List Name). AreNew ns (goals_in ((table_of t).box_of c.args.home))) (sym names) (fresh_new t c.requires.run c.args.home (firsts c.args.goals.items) fresh))

pub returns-in_default-join_box-clause-unchanged : goal.returns-in_default-join_box-clause-unchanged
returns-in_default-join_box-clause-unchanged c =
    let t : TableValue = c.args.self.now in
    let own : List Name = firsts c.args.goals.items in
    let names = c.as_slice-names.ensures.value ∙ c.in_ok-names.ensures ∙ ap firsts c.as_slice.ensures.value in
    let fresh = subst (IsFresh (table_of t)) (names_atoms t.program.templates.nodes c.args.goals.items) c.requires.fresh in
    undone t c.join_box.new.self c.drop_entries-in_default-join_box.new.self own (subst (λ (u : TableValue). AddsOnly t u own) (sym c.in_default-join_box.ensures.unchanged) c.in-Ok.ensures.only)
    (subst (Clears c.join_box.new.self c.drop_entries-in_default-join_box.new.self) names c.drop_entries-in_default-join_box.ensures) (fresh_boxes t own fresh) (fresh_goals t own fresh)

pub returns-clause-joined : goal.returns-clause-joined
returns-clause-joined c =
    let t : TableValue = c.args.self.now in
    let atoms = named_atoms t.program.templates.nodes c.args.goals.items in
    let names = c.as_slice-names.ensures.value ∙ c.in_ok-names.ensures ∙ ap firsts c.as_slice.ensures.value in
    let failing = c.first_fail-failing.ensures t.program.templates.nodes ∙ ap (λ (xs : List (Name × Goal)). first_fail (named_atoms t.program.templates.nodes xs)) c.as_slice-2.ensures.value in
    subst (λ (o : Option Name). SetsRows t c.join_box.new.self (changed_box (Some c.args.home) (joins_row c.args.goal (firsts c.args.goals.items) o c.args.told c.args.numbers.ended) (table_of t).box_of) (atoms_with c.args.home c.args.numbers.promoted atoms (table_of t))) failing
    (subst (λ (ns : List Name). SetsRows t c.join_box.new.self (changed_box (Some c.args.home) (joins_row c.args.goal ns c.first_fail-failing.result c.args.told c.args.numbers.ended) (table_of t).box_of) (atoms_with c.args.home c.args.numbers.promoted atoms (table_of t))) names
    (rows_set t c.put_goals.new.self c.join_box.new.self (Some c.args.home) (joins_row c.args.goal c.as_slice-names.result.now c.first_fail-failing.result c.args.told c.args.numbers.ended) (atoms_with c.args.home c.args.numbers.promoted atoms (table_of t))
    (atoms_put t c.put_goals.new.self c.args.home c.args.numbers.promoted c.args.goals.items c.in-Ok.ensures.put) c.in-Ok-join_box.ensures.joined))
