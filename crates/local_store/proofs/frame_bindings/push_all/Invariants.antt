use Rattle.std.proofs.Common.{◌≡◌, ◌++◌, take}
use Rattle.std.specs.Prelude.{map}
use Rattle.local_store.proofs.frame_bindings.push_all.Given as goal

abbrev pub invariant-loop-binding : goal.invariant-loop-binding
invariant-loop-binding l = l.bindings.items ≡ l.initial.bindings.items ++ map (λ b. (b.0.index, b.1)) (take l.binding-index l.added)
