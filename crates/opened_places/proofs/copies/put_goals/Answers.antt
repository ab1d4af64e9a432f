use Rattle.std.proofs.Common.{List, subst, arith}
use Rattle.std.proofs.lemmas.List.{take_all}
use Rattle.akl_terms.specs.declared.name.Name.{Name}
use Rattle.opened_places.specs.Copies.{PutsGoals}
use Rattle.opened_places.proofs.Members.{firsts}
use Rattle.opened_places.proofs.CopyHomes.{put_next}
use Rattle.opened_places.proofs.copies.put_goals.Goals as goal

pub loop-name-preserved : goal.loop-name-preserved
loop-name-preserved g c = put_next c.args.goals.now c.loop-name.name-index c.loop-name-item.result c.args.home c.args.homes.now.entries c.loop-name.homes c.insert.new.self c.loop-name-test.true c.loop-name-item.is c.loop-name.invariant (λ q. c.in_ok-insert.ensures.updates.0 q)

pub returns : goal.returns
returns g c =
    let end = c.loop-name-test.false in
    subst (λ (gs : List (Name × _)). PutsGoals (firsts gs) c.args.home c.args.homes.now.entries c.loop-name.homes.entries) (take_all c.loop-name.name-index c.args.goals.now (omega (arith, end))) c.loop-name.invariant
