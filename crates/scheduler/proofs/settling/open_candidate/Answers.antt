use Rattle.std.proofs.Common.{sym, subst, ◌∙◌}
use Rattle.akl_terms.specs.declared.name.Place.{Place}
use Rattle.wake_lists.specs.Open.{IsOpen}
use Rattle.scheduler.proofs.OpenedMore.{none_of}
use Rattle.scheduler.proofs.SettleCalls.{candidate_open, candidate_gone, candidate_comes}
use Rattle.scheduler.proofs.settling.open_candidate.Goals as goal

pub returns-then-is_some-clause-opened : goal.returns-then-is_some-clause-opened
returns-then-is_some-clause-opened c =
    candidate_open c.args.table.now c.args.open_places.now c.args.nearest c.in-Some.name c.in-Some.is c.token_of.result (sym c.is_some.ensures ∙ c.if-is_some.true) c.token_of.ensures

pub open_new-requires : goal.open_new-requires
open_new-requires c = subst (IsOpen c.args.open_places.now (Place.Box c.in-Some.name)) (none_of c.token_of.result (sym c.is_some.ensures ∙ c.if-is_some.false)) c.token_of.ensures

pub returns-in_ok-token-in-Some-2-clause-opened : goal.returns-in_ok-token-in-Some-2-clause-opened
returns-in_ok-token-in-Some-2-clause-opened c =
    candidate_comes c.args.table.now c.args.open_places.now c.args.nearest c.in-Some.name c.in-Some.is c.in_ok-placed.field-0 c.in-Some-2.placed c.around.result.now c.open_new.new.self c.in_ok-token-in-Some-2.token c.in-Some-2.is
    c.in_ok-placed.ensures.around c.around.ensures (subst (IsOpen c.args.open_places.now (Place.Box c.in-Some.name)) (none_of c.token_of.result (sym c.is_some.ensures ∙ c.if-is_some.false)) c.token_of.ensures)
    c.in_ok-token-in-Some-2.ensures.opened

pub returns-in-None-clause-opened : goal.returns-in-None-clause-opened
returns-in-None-clause-opened c = candidate_gone c.args.table.now c.args.open_places.now c.args.nearest c.in-Some.name c.in-Some.is c.in_ok-placed.field-0 c.in-None.is c.in_ok-placed.ensures.around
