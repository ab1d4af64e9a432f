use Rattle.std.proofs.Common.{◌≡◌, ◌++◌, take}
use Rattle.box_tree.proofs.short.ShortList.extend.Given as goal

-- the first values have come
abbrev pub invariant-loop-value : goal.invariant-loop-value
invariant-loop-value g l = l.self.items ≡ l.fn.self.items ++ take l.value-index l.values
