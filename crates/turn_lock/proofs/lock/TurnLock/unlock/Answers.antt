use Rattle.std.proofs.Common.{rules, sym, ap, ◌∙◌}
use Rattle.turn_lock.specs.declared.view.Standing.{Standing}
use Rattle.turn_lock.specs.Known.{Held, standing_of, is_whole}
use Rattle.turn_lock.proofs.Leaving.{leaves}
use Rattle.turn_lock.proofs.Whole.{holds_value, standing_is}
use Rattle.turn_lock.proofs.lock.TurnLock.unlock.Goals as goal

pub swap-found-requires : goal.swap-found-requires
swap-found-requires g c =
    let pass = c.args.pass.now in
    let is = holds_value pass.seat.me pass.whole c.exchange-empty.new.seat.me c.args.value c.requires.turn c.exchange-empty.ensures.3 in
    (search rules, search rules, leaves _ _ _ _ _ _ c.exchange-empty.new.seat.me (standing_of pass.seat.me pass.whole) c.args.value is c.requires.turn (c.requires.fixed ∙ sym c.requires.lock.1) c.requires.history)

pub invariant_of-pass : goal.invariant_of-pass
invariant_of-pass g c =
    let pass = c.args.pass.now in
    let is = holds_value pass.seat.me pass.whole c.exchange-empty.new.seat.me c.args.value c.requires.turn c.exchange-empty.ensures.3 in
    record { whole = ap is_whole (c.swap-found.ensures.2 (standing_of pass.seat.me pass.whole) c.args.value is) }

pub returns-clause-lock : goal.returns-clause-lock
returns-clause-lock g c =
    let H : Type 0 = Held g.row.T.Denot g.row.T-Fixed.Denot g.row.T-Entry.Denot in
    let S : Type 0 = Standing g.row.T-Fixed.Denot g.row.T-Entry.Denot in
    let pass = c.args.pass.now in
    let is = holds_value pass.seat.me pass.whole c.exchange-empty.new.seat.me c.args.value c.requires.turn c.exchange-empty.ensures.3 in
    let told = c.swap-found.ensures.2 (standing_of pass.seat.me pass.whole) c.args.value is in
    (search rules, ap (λ (s : S). s.view.fixed) (standing_is c.swap-found.new.seat.me _ _ (ap (λ (m : H). m.0) told)) ∙ c.requires.lock.1)

pub returns-clause-turn : goal.returns-clause-turn
returns-clause-turn g c =
    let H : Type 0 = Held g.row.T.Denot g.row.T-Fixed.Denot g.row.T-Entry.Denot in
    let S : Type 0 = Standing g.row.T-Fixed.Denot g.row.T-Entry.Denot in
    let pass = c.args.pass.now in
    let is = holds_value pass.seat.me pass.whole c.exchange-empty.new.seat.me c.args.value c.requires.turn c.exchange-empty.ensures.3 in
    let told = c.swap-found.ensures.2 (standing_of pass.seat.me pass.whole) c.args.value is in
    ap (λ (s : S). s.stage) (standing_is c.swap-found.new.seat.me _ _ (ap (λ (m : H). m.0) told))

pub returns-clause-seen : goal.returns-clause-seen
returns-clause-seen g c =
    let H : Type 0 = Held g.row.T.Denot g.row.T-Fixed.Denot g.row.T-Entry.Denot in
    let S : Type 0 = Standing g.row.T-Fixed.Denot g.row.T-Entry.Denot in
    let pass = c.args.pass.now in
    let is = holds_value pass.seat.me pass.whole c.exchange-empty.new.seat.me c.args.value c.requires.turn c.exchange-empty.ensures.3 in
    let told = c.swap-found.ensures.2 (standing_of pass.seat.me pass.whole) c.args.value is in
    ap (λ (s : S). s.view) (standing_is c.swap-found.new.seat.me _ _ (ap (λ (m : H). m.0) told))
