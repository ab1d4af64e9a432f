use Rattle.std.proofs.Common.{Option, sym, subst}
use Rattle.akl_terms.specs.declared.name.Name.{Name}
use Rattle.scheduler.specs.Nearest.{HasWayOut, IsQuietOutward}
use Rattle.scheduler.proofs.Outwards.{has_way}
use Rattle.scheduler.proofs.candidates.quiet_candidate.Goals as goal

pub quiet_from-requires-clause-way : goal.quiet_from-requires-clause-way
quiet_from-requires-clause-way c = subst (HasWayOut c.args.table.now) (sym c.first_around.ensures) (has_way c.args.table.now c.requires.run.0 c.requires.run.1 c.args.place)

pub returns : goal.returns
returns c = subst (λ (o : Option Name). IsQuietOutward c.args.table.now c.args.open_places.now c.args.own o c.quiet_from.result) c.first_around.ensures c.quiet_from.ensures
