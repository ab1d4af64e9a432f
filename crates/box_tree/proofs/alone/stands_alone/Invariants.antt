use Rattle.std.proofs.Common.{◌≡◌, drop}
use Rattle.box_tree.specs.Alone.{may_all_stand, stands_alone}
use Rattle.box_tree.proofs.alone.stands_alone.Given as goal

abbrev pub invariant-loop-binding : goal.invariant-loop-binding
invariant-loop-binding l = may_all_stand l.store.frames l.behind (drop l.binding-index l.binding-items) ≡ stands_alone l.store
