use Rattle.std.proofs.Common.{◌≡◌, ◌∙◌, ap}
use Rattle.local_store.specs.Stored.{Stored}
use Rattle.rule_plan.specs.Made.{store_with, with_solved}
use Rattle.rule_plan.proofs.NewStores.{new_solved}
use Rattle.rule_plan.proofs.new_stores.over_solved.Goals as goal

pub returns : goal.returns
returns c =
    let store : c.add_solved.new.store ≡ with_solved (store_with c.args.frame) c.in_ok-solved.solved =
    c.in_ok-consistent.ensures.store ∙ ap (λ (s : Stored). with_solved s c.in_ok-solved.solved) (rw c.new-store.ensures at c.in_ok-add_frame.ensures.added) in
    rw (c.in_ok-store.ensures, store, c.in_ok-consistent.ensures.consistent, c.requires.known) (new_solved c.args.chain.now.nodes c.args.chain.now.stores c.args.frame c.args.equations.now c.in_ok-solved.solved c.requires.solved
    (rw c.templates.ensures.nodes at c.in_ok-solved.ensures.solves) (rw c.templates.ensures.nodes at c.in_ok-solved.ensures.older))
