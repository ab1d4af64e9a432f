use Rattle.std.proofs.Common.{List, Some, refl, ap, ◌∙◌}
use Rattle.std.proofs.lemmas.Result.{on_ok_weaker}
use Rattle.akl_terms.specs.declared.name.Name.{Name}
use Rattle.akl_terms.specs.declared.program.Goal.{Goal}
use Rattle.table_laws.specs.Writes.{first_fail}
use Rattle.box_tree.specs.declared.entries.BoxEntry.{BoxEntry}
use Rattle.box_tree.specs.Edits.{named_atoms}
use Rattle.box_tree.proofs.News.{firsts, box_comes}
use Rattle.box_tree.proofs.table.Table.put_new.Goals as goal

pub returns-clause-put : goal.returns-clause-put
returns-clause-put c =
    let e : BoxEntry = record { holder = Some c.args.holder; store = c.args.new.store; changed = c.args.number; solved_at = c.solved_when.result; goals = c.in_ok-names.names; goals_changed = c.args.number; failing = c.first_fail-failing.result; body = c.args.new.body; shown = c.new.result; collected = c.args.new.collected } in
    on_ok_weaker c.put_entry.result (box_comes c.args.self.now c.put_entry.new.self c.args.holder c.args.at c.args.number c.args.new e
    (record {
      holder_is = refl;
      store = refl;
      changed = refl;
      solved = c.solved_when.ensures;
      goals = c.in_ok-names.ensures ∙ ap firsts c.as_slice.ensures.value;
      goals_changed = refl;
      failing = λ nodes. c.first_fail-failing.ensures nodes ∙ ap (λ (xs : List (Name × Goal)). first_fail (named_atoms nodes xs)) c.as_slice-2.ensures.value;
      body = refl;
      shown = c.new.ensures.items;
      collected = refl;
    })) c.put_entry.ensures.put
