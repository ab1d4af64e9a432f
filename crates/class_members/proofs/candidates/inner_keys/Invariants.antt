use Rattle.std.proofs.Common.{◌≡◌, ◌++◌, drop}
use Rattle.class_members.specs.Listed.{unbound_inside}
use Rattle.class_members.proofs.candidates.inner_keys.Given as goal

abbrev pub invariant-loop-store : goal.invariant-loop-store
invariant-loop-store l = l.list.items ++ unbound_inside l.outermost (drop l.store-index l.inner) ≡ unbound_inside l.outermost l.inner
