use Rattle.std.proofs.Common.{sym, ap, ◌∙◌}
use Rattle.local_store.specs.Stored.{Stored}
use Rattle.std.proofs.lemmas.Result.{IfOk-weaker}
use Rattle.stable_test.proofs.Tested.{box_told}
use Rattle.stable_test.proofs.reaching.reached_at.Goals as goal

pub returns-in_ok-share-in-Box : goal.returns-in_ok-share-in-Box
returns-in_ok-share-in-Box c =
    let h = rw c.in_ok-share-in-Box.ensures at c.told_with.ensures in
    IfOk-weaker c.told_with.result _ _ (λ found t. box_told c.args.program.now c.args.depth c.args.frames.now c.args.view.now c.requires c.in-Box.failing (sym c.sight.ensures ∙ c.in-Box.is) found t) h

pub told_with-requires-clause-known : goal.told_with-requires-clause-known
told_with-requires-clause-known c = c.known_beyond-known.ensures c.args.program.now.templates.nodes c.in_ok-share-in-Box.field-0 (ap (λ (s : Stored). s.bindings) c.in_ok-share-in-Box.ensures ∙ c.requires.unbound) c.requires.known
