use Rattle.std.proofs.Common.{◌≡◌, ◌+◌, drop}
use Rattle.local_store.specs.Chained.{innermost, around}
use Rattle.local_store.specs.Parts.{told_over}
use Rattle.body_goals.proofs.InOrder.{Reducing}
use Rattle.body_goals.proofs.body.reduce.Given as goal

abbrev pub invariant-loop-code : goal.invariant-loop-code
invariant-loop-code l =
    Reducing l.templates.symbols l.templates.nodes (around l.stores) l.frame l.first l.codes (told_over (innermost l.stores) l.fn.told) l.fn.labels.items (told_over (innermost l.stores) l.told) l.labels.items l.body l.number
    (drop l.code-index l.codes) × (l.number ≡ l.first + l.code-index) × (l.told.part.frames.items ≡ l.fn.told.part.frames.items)
