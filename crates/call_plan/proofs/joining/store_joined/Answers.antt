use Rattle.std.proofs.Common.{◌∙◌, ap, rules}
use Rattle.local_store.specs.Stored.{Stored}
use Rattle.call_plan.proofs.PlainJoined.{store_joins}
use Rattle.call_plan.proofs.joining.store_joined.Goals as goal
use Rattle.table_laws.proofs.StoreChains.{innermost_push}

pub holds-requires : goal.holds-requires
holds-requires c = rw (c.of_solved-chain.ensures, c.as_slice.ensures.value, c.in_ok-push.ensures.items, c.in_ok-stores.ensures) c.requires.apart

pub returns-clause-joins : goal.returns-clause-joins
returns-clause-joins c = store_joins c.args.templates.now.nodes c.args.path.now c.args.op c.args.own c.in_ok-told.told (search rules) (search rules)

pub returns-clause-frames : goal.returns-clause-frames
returns-clause-frames c =
    let frames = rw (c.of_solved-chain.ensures, c.as_slice.ensures.value, c.in_ok-push.ensures.items, c.in_ok-stores.ensures) at c.in_ok-told.ensures.frames in
    frames ∙ ap (λ (s : Stored). s.frames) (innermost_push c.args.path.now c.args.own)
