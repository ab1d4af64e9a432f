use Rattle.std.proofs.Common.{◌≡◌, ◌++◌, ◌-◌, ◌*◌, [], length}
use Rattle.std.specs.Map.{keys_of}
use Rattle.name_map.specs.Pages.{in_numbers, listed}
use Rattle.name_map.proofs.numbers.Numbers.push_names.Given as goal

-- the names so far, and those of the numbers that are left
abbrev pub invariant-loop-number : goal.invariant-loop-number
invariant-loop-number g l = l.list.items ++ keys_of (listed l.worker l.number (l.count - l.number) (λ n. in_numbers n l.self) []) ≡ l.fn.list.items ++ keys_of (listed l.worker 0 (length l.self.chunks.items * 512) (λ n. in_numbers n l.self) [])
