use Rattle.std.proofs.Common.{◌∙◌}
use Rattle.scheduler.proofs.SeenOnce.{set_has, not_true, unseen}
use Rattle.scheduler.proofs.once.push_new.Goals as goal

pub returns-in_ok-push : goal.returns-in_ok-push
returns-in_ok-push c = record {
  is_seen = set_has c.args.place c.args.seen.now c.insert.new.self c.in_ok-insert.ensures.updates.0;
  comes = c.in_ok-push.ensures ∙ unseen c.args.place c.args.seen.now c.args.places.now.items (not_true c.in_ok-insert.field-0 _ c.in_ok-insert.ensures.added c.if-branch.true);
}
