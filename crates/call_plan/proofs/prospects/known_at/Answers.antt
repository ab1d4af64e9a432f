use Rattle.call_plan.proofs.prospects.known_at.Goals as goal

pub chain_end-requires : goal.chain_end-requires
chain_end-requires c = rw c.templates-templates.ensures.nodes c.requires.form.solved
