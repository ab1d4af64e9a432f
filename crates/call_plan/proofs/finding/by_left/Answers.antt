use Rattle.std.proofs.Common.{refl, rules}
use Rattle.local_store.specs.Chained.{innermost}
use Rattle.local_store.specs.Parts.{told_over}
use Rattle.guard_plan.proofs.Sites.{some_stores}
use Rattle.call_plan.specs.Owns.{stored}
use Rattle.call_plan.proofs.CalledFacts.{joined_solved}
use Rattle.call_plan.proofs.Remaining.{last_known, last_apart, last_plain}
use Rattle.call_plan.proofs.finding.by_left.Goals as goal

pub joined-requires-clause-some : goal.joined-requires-clause-some
joined-requires-clause-some c = rw c.stores.ensures (some_stores c.args.view.now c.requires.remains.is_called.seen)

pub joined-requires-clause-solved : goal.joined-requires-clause-solved
joined-requires-clause-solved c = rw (c.stores.ensures, c.requires.program) (last_known c.args.view.now c.args.goal c.args.called.now c.args.left c.args.drawn c.args.sifted.labels.items c.args.sifted.plainly c.requires.remains)

pub joined-requires-clause-apart : goal.joined-requires-clause-apart
joined-requires-clause-apart c = rw (c.stores.ensures, c.requires.program) (last_apart c.args.view.now c.args.goal c.args.called.now c.args.left c.args.drawn c.args.sifted.labels.items c.args.sifted.plainly c.requires.remains)

pub joined-requires-clause-plain : goal.joined-requires-clause-plain
joined-requires-clause-plain c = rw (c.stores.ensures, c.requires.program) (last_plain c.args.view.now c.args.goal c.args.called.now c.args.left c.args.drawn c.args.sifted.labels.items c.args.sifted.plainly c.requires.remains)

pub body_of-requires-clause-solved : goal.body_of-requires-clause-solved
body_of-requires-clause-solved c =
    let joins = rw (c.in-Some.is, c.stores.ensures, c.requires.program) at c.in_ok-found.ensures.joins in
    joined_solved c.args.view.now.table.program.templates.nodes c.args.view.now.stores c.args.called.now.op (stored c.args.left.frame c.args.left.own) (told_over (innermost c.args.view.now.stores) c.in-Some.told) joins

pub planned-requires-clause-reduced : goal.planned-requires-clause-reduced
planned-requires-clause-reduced c = record {
  called = c.args.called.now;
  left = c.args.left;
  drawn = c.args.drawn;
  call = record {
    labels = c.push_end.new.labels.items;
    joined = told_over (innermost c.args.view.now.stores) c.in-Some.told;
    ends = record {
      before = c.args.sifted.labels.items;
      plainly = c.args.sifted.plainly;
      remains = c.requires.remains;
      labels = search rules;
      joins = rw (c.in-Some.is, c.stores.ensures, c.requires.program) at c.in_ok-found.ensures.joins;
      free = rw (c.in-Some.is, c.stores.ensures) at c.in_ok-found.ensures.free;
      kept = rw (c.in-Some.is, c.stores.ensures) at c.in_ok-found.ensures.kept;
      few_goals = search rules;
    };
    reduced = search rules;
  };
  plain_is = c.is_plain-plain.ensures;
  plainly_is = refl;
  names_are = search rules;
  named = search rules;
}
