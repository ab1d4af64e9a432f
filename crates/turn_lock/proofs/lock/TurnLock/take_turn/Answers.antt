use Rattle.std.proofs.Common.{rules, ◌≡◌, ℕ, List, Option, Some, ◌∷◌, refl, sym, ap, ◌∙◌, subst}
use Rattle.atomic_table.specs.Table.{rest}
use Rattle.turn_lock.specs.Known.{Held}
use Rattle.turn_lock.proofs.Taking.{was_there, serves}
use Rattle.turn_lock.proofs.lock.TurnLock.take_turn.Goals as goal

pub try_once-requires-clause-idle : goal.try_once-requires-clause-idle
try_once-requires-clause-idle g c = let idle = c.requires.idle in (idle.0, c.loop.invariant.1 ∙ idle.1, idle.2)

pub exchange-requires : goal.exchange-requires
exchange-requires g c =
    let H : Type 0 = Held g.row.T.Denot g.row.T-Fixed.Denot g.row.T-Entry.Denot in
    let idle = c.requires.idle in
    let took = (c.try_once.ensures.told idle.0 (c.loop.invariant.1 ∙ idle.1) idle.2).1 c.if-try_once-eq-FREE.true in
    let slots = ap (λ (m : H). m.1) took.1.2 in
    (search rules, (Some took.0, subst (λ (l : List (ℕ × Option g.row.T.Denot)). l ≡ (0, Some took.0) ∷ rest l) (sym slots) refl))

pub unreachable-requires : goal.unreachable-requires
unreachable-requires g c =
    let idle = c.requires.idle in
    let took = (c.try_once.ensures.told idle.0 (c.loop.invariant.1 ∙ idle.1) idle.2).1 c.if-try_once-eq-FREE.true in
    c.in_default.not-Some took.0 (was_there g.T.Booked.fixed g.T.Booked.history g.T.Booked.maker idle.0.view.fixed c.try_once.new.seat.me idle.0 took.0 c.exchange.result took.1 c.exchange.ensures.2)

pub returns-then-try_once-eq-FREE-clause-value : goal.returns-then-try_once-eq-FREE-clause-value
returns-then-try_once-eq-FREE-clause-value g c =
    let idle = c.requires.idle in
    let took = (c.try_once.ensures.told idle.0 (c.loop.invariant.1 ∙ idle.1) idle.2).1 c.if-try_once-eq-FREE.true in
    serves g.T.Booked.fixed g.T.Booked.history g.T.Booked.maker idle.0.view.fixed c.args.seat.now.me c.try_once.new.seat.me c.exchange.new.seat.me idle.0 c.in-Some-exchange.value c.exchange.result idle.1 took c.exchange.ensures.2 c.in-Some-exchange.is c.exchange.ensures.3

pub loop-preserved : goal.loop-preserved
loop-preserved g c =
    let idle = c.requires.idle in
    let told = c.try_once.ensures.told idle.0 (c.loop.invariant.1 ∙ idle.1) idle.2 in
    (search rules, told.0 c.if-try_once-eq-FREE.false ∙ c.loop.invariant.1)
