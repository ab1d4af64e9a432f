use Rattle.place_steps.proofs.next.still_next.Goals as goal

pub plan_root_split-requires-clause-candidate : goal.plan_root_split-requires-clause-candidate
plan_root_split-requires-clause-candidate c = record { name = c.requires.still.candidate.name; place = c.requires.still.candidate.is_box; candidate = c.requires.still.candidate.candidate }

pub plan_root_split-requires-clause-still : goal.plan_root_split-requires-clause-still
plan_root_split-requires-clause-still c = record { none = c.requires.none; inside = c.requires.still.still }
