use Rattle.std.proofs.Common.{◌≡◌, [], map, drop}
use Rattle.std.specs.List.{concat}
use Rattle.akl_lift.specs.Lifting.{seen_from}
use Rattle.akl_lift.proofs.seen.seen_in_all.Given as given

abbrev pub invariant-loop-list : given.invariant-loop-list
invariant-loop-list l = seen_from l.order.items (concat (map (λ v. v.items) (drop l.list-index l.lists))) ≡ seen_from [] (concat (map (λ v. v.items) l.lists))
