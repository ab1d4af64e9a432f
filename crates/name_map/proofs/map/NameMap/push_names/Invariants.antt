use Rattle.std.proofs.Common.{◌≡◌, ◌++◌, drop}
use Rattle.std.specs.Map.{keys_of}
use Rattle.name_map.specs.Pages.{entries_from, entries}
use Rattle.name_map.proofs.map.NameMap.push_names.Given as goal

-- the names so far, and those of the workers that are left
abbrev pub invariant-loop-index : goal.invariant-loop-index
invariant-loop-index g l = l.list.items ++ keys_of (entries_from l.index (drop l.index l.self-inside.workers.items)) ≡ l.fn.list.items ++ keys_of (entries l.self-inside.workers.items)
