use Rattle.std.proofs.Common.{None, refl, ap, ◌∙◌}
use Rattle.std.proofs.lemmas.Result.{on_ok_weaker}
use Rattle.box_tree.specs.declared.entries.BoxEntry.{BoxEntry}
use Rattle.box_tree.proofs.Copied.{copy_comes}
use Rattle.box_tree.proofs.News.{firsts}
use Rattle.box_tree.proofs.table.Table.put_copy.Goals as goal

pub returns-clause-put : goal.returns-clause-put
returns-clause-put c =
    let e : BoxEntry = record { holder = c.holder_or.result; store = c.args.copy.store; changed = c.args.number; solved_at = c.solved_when.result; goals = c.in_ok-names.names; goals_changed = c.args.number; failing = None; body = c.args.copy.body; shown = c.args.copy.shown; collected = c.args.copy.collected } in
    on_ok_weaker c.put_entry.result (copy_comes c.args.self.now c.put_entry.new.self c.args.holder c.args.at c.args.number c.args.copy e
    (record {
      holder_is = c.holder_or.ensures;
      store = refl;
      changed = refl;
      solved = c.solved_when.ensures;
      goals = c.in_ok-names.ensures ∙ ap firsts c.as_slice.ensures.value;
      goals_changed = refl;
      failing = refl;
      body = refl;
      shown = refl;
      collected = refl;
    })) c.put_entry.ensures.put
