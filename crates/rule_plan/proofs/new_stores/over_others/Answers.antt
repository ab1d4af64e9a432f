use Rattle.std.proofs.Common.{◌∙◌, ap}
use Rattle.local_store.specs.Stored.{Stored}
use Rattle.local_store.specs.Parts.{with_part, told_over}
use Rattle.rule_plan.specs.Made.{store_with}
use Rattle.rule_plan.proofs.NewStores.{new_told}
use Rattle.rule_plan.proofs.new_stores.over_others.Goals as goal

pub returns : goal.returns
returns c =
    let a = rw c.in_ok-store.ensures at c.in_ok-part.ensures in
    rw (c.in_ok-join.ensures.joined ∙ ap (λ (s : Stored). with_part s c.in_ok-part.field-0.part) c.in_ok-store.ensures)
    (new_told c.args.chain.now.nodes c.args.chain.now.stores c.args.chain.now.known c.args.frame c.args.equations.now (told_over (store_with c.args.frame) c.in_ok-part.field-0) c.requires a)
