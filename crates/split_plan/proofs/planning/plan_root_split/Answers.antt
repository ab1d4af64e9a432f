use Rattle.split_plan.proofs.SeenSplit.{still_site}
use Rattle.split_plan.proofs.planning.plan_root_split.Goals as goal

pub split_at-requires-clause-stable : goal.split_at-requires-clause-stable
split_at-requires-clause-stable c = (c.label_for-label.ensures.seen, still_site c.args.view.now c.label_for-label.ensures.seen c.requires.root c.requires.still c.requires.boxes.name c.requires.boxes.place)
