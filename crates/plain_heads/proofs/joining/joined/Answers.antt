use Rattle.std.proofs.Common.{true, refl}
use Rattle.local_store.specs.declared.telling.ToldPart.{ToldPart}
use Rattle.plain_heads.proofs.Stores.{joins_plainly}
use Rattle.plain_heads.proofs.joining.joined.Goals as goal

pub returns-clause-joins : goal.returns-clause-joins
returns-clause-joins c =
    let told : ToldPart = record { part = c.of.result; solved = true; bound = c.in_ok-bound.bound } in
    joins_plainly c.args.templates.now.nodes c.args.frame c.args.bindings.items told c.of.ensures.frames c.of.ensures.ports c.of.ensures.bindings refl (rw c.as_slice.ensures.value at c.in_ok-bound.ensures)
