use Rattle.std.proofs.Common.{inl, arith}
use Rattle.par_workers.proofs.AtHand.{more_new}
use Rattle.par_workers.proofs.Held.{next_held, all_held}
use Rattle.par_workers.proofs.tokens.Tokens.hand_out.Goals as goal

pub loop-token-init : goal.loop-token-init
loop-token-init c = record { keeps = λ t e. e; held = λ i h. absurd (omega (arith, h)); stay = λ t a. a; comes = λ t e. inl e }

pub loop-token-preserved : goal.loop-token-preserved
loop-token-preserved c =
    let was = c.loop-token.self in
    let now = c.hand_out_one.new.self in
    record {
      keeps = λ t e. c.hand_out_one.ensures.keeps t (c.loop-token.invariant.keeps t e);
      held = next_held c.args.opened.now c.loop-token.token-index was.held now.held c.hand_out_one.ensures.keeps c.in_ok-hand_out_one.ensures.held c.loop-token.invariant.held;
      stay = λ t a. c.hand_out_one.ensures.stay t (c.loop-token.invariant.stay t a);
      comes = more_new c.args.self.now.held was.held now.held c.loop-token.own.items was.lying c.hand_out_one.new.own.items now.lying c.loop-token.invariant.comes c.hand_out_one.ensures.stay c.in_ok-hand_out_one.ensures.comes;
    }

pub returns-clause-held : goal.returns-clause-held
returns-clause-held c = all_held c.args.opened.now c.loop-token.self.held (λ i h. let f = c.loop-token-test.false in c.loop-token.invariant.held i (omega (arith, h, f)))
