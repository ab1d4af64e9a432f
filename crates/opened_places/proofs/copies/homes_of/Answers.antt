use Rattle.std.proofs.Common.{List, refl, subst}
use Rattle.akl_terms.specs.declared.name.Name.{Name}
use Rattle.box_tree.specs.declared.entries.Held.{Held}
use Rattle.opened_places.specs.declared.copies.CopyHome.{CopyHome}
use Rattle.opened_places.specs.Copies.{PutsGoals}
use Rattle.opened_places.proofs.Members.{firsts}
use Rattle.opened_places.proofs.CopyHomes.{homes_next}
use Rattle.opened_places.proofs.copies.homes_of.Goals as goal

pub loop-copied-preserved : goal.loop-copied-preserved
loop-copied-preserved c =
    let home : CopyHome = record { name = c.copied-item.result.name; holder = c.copied-item.result.holder } in
    homes_next c.args.copies.now c.loop-copied.copied-index c.copied-item.result home c.loop-copied.homes.entries c.put_goals.new.homes.entries c.loop-copied-test.true c.copied-item.is refl refl c.loop-copied.invariant
    (subst (λ (gs : List (Name × Held)). PutsGoals (firsts gs) home c.loop-copied.homes.entries c.put_goals.new.homes.entries) c.as_slice.ensures.value c.in_ok-put_goals.ensures)
