use Rattle.std.proofs.Common.{List, subst, Some, ◌≡◌}
use Rattle.std.specs.Prelude.{slice_get}
use Rattle.akl_terms.specs.declared.name.Name.{Name}
use Rattle.box_copies.proofs.Sets.{found_at, absent}
use Rattle.box_copies.proofs.names.NewNames.place_of.Goals as goal

pub returns-in-Ok : goal.returns-in-Ok
returns-in-Ok c = subst (λ (l : List Name). slice_get l c.in-Ok.place ≡ Some c.args.name) c.deref.ensures.value (found_at c.deref.result.now c.args.name c.in-Ok.place c.in-Ok.ensures.bound c.in-Ok.ensures.ok)

pub returns-in-Err : goal.returns-in-Err
returns-in-Err c = λ among. absent c.args.self.now.old.items c.args.name _ c.args.self.now.increasing (rw c.deref.ensures.value at c.in-Err.ensures.position) among
