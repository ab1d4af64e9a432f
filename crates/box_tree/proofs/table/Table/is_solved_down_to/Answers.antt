use Rattle.std.proofs.Common.{◌≡◌, List, length, sym, ap, ◌∙◌, arith}
use Rattle.std.proofs.lemmas.Bool.Decides.{nat_tests}
use Rattle.akl_terms.specs.declared.name.Name.{Name}
use Rattle.box_tree.specs.Tables.{table_of}
use Rattle.box_tree.specs.Paths.{known_in}
use Rattle.box_tree.proofs.SolvedDown.{box_path, known_solved}
use Rattle.box_tree.proofs.table.Table.is_solved_down_to.Goals as goal

pub way_to-requires-clause-path : goal.way_to-requires-clause-path
way_to-requires-clause-path c = box_path c.args.self.now c.requires.table.0 c.requires.table.1 c.args.name c.args.entry.now c.requires.entry

pub known_of-requires-clause-outermost : goal.known_of-requires-clause-outermost
known_of-requires-clause-outermost c = λ m ms e. c.in_ok-way.ensures.outermost m ms (sym c.as_slice-path.ensures.value ∙ e)

pub returns : goal.returns
returns c = λ s.
    let path : List Name = c.in_ok-way.way.path.items in
    let known : c.in_ok-known.known ≡ known_in (table_of c.args.self.now) 0 path = c.in_ok-known.ensures.known ∙ ap (known_in (table_of c.args.self.now) 0) c.as_slice-path.ensures.value in
    let whole : c.in_ok-known.known ≡ length c.as_slice-path.result.now = grind (arith, nat_tests) in
    known_solved c.args.self.now c.requires.table.0 c.requires.table.1 c.args.name c.args.entry.now c.requires.entry path c.in_ok-way.ensures.path
    (omega (arith, known, whole, ap length c.as_slice-path.ensures.value))
