use Rattle.std.proofs.Common.{◌≡◌, ◌+◌, ◌*◌, ◌≤◌, ◌++◌, length, drop, vec_len, vec_capacity}
use Rattle.plain_heads.specs.Joined.{listed}
use Rattle.plain_heads.proofs.joining.push_listed.Given as goal

abbrev pub invariant-loop-binding : goal.invariant-loop-binding
invariant-loop-binding l = record {
  comes : l.list.items ++ listed l.templates.nodes (drop l.binding-index l.bindings) ≡ l.fn.list.items ++ listed l.templates.nodes l.bindings;
  room : vec_len l.list + length l.bindings * 2 ≤ vec_capacity l.list + l.binding-index * 2;
}
