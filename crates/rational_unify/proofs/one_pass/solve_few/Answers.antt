use Rattle.std.proofs.Common.{[], append-nil}
use Rattle.rational_unify.proofs.Passes.{pass-clashes, pass-goes, pass-falls}
use Rattle.rational_unify.proofs.Shortening.{KeepsEnds-new}
use Rattle.rational_unify.proofs.Turns.{end-unbound, length-push, turn-shorter, turn-starts, turn-ends, work-solved}
use Rattle.rational_unify.proofs.one_pass.solve_few.Goals as goal

pub loop-pair-init : goal.loop-pair-init
loop-pair-init g c = (
  record {
    compared = [];
    kept = rw (c.of-pass.ensures.0, c.of-pass.ensures.1) (turn-starts _ _ _ c.requires.known);
    fresh = rw c.of-pass.ensures.0 tt;
  },
  λ o. rw (c.of-pass.ensures.0, append-nil (g.K.Lookup.bindings c.args.known.now)) o,
)

pub take_turn-requires-clause-left : goal.take_turn-requires-clause-left
take_turn-requires-clause-left g c = end-unbound _ (g.K.Lookup.bindings c.args.known.now) _ _ c.ends_of-ends.result.left (work-solved _ _ _ _ _ _ c.loop-pair.invariant.0.kept) c.ends_of-ends.ensures.left

pub take_turn-requires-clause-right : goal.take_turn-requires-clause-right
take_turn-requires-clause-right g c = end-unbound _ (g.K.Lookup.bindings c.args.known.now) _ _ c.ends_of-ends.result.right (work-solved _ _ _ _ _ _ c.loop-pair.invariant.0.kept) c.ends_of-ends.ensures.right

pub loop-pair-smaller : goal.loop-pair-smaller
loop-pair-smaller g c =
    let a = pass-falls c.args.templates.now.nodes c.ends_of-ends.result.left c.ends_of-ends.result.right
    (record { added = c.loop-pair.pass.added; pending = c.pop.new.self; pairs_left = c.loop-pair.pass.pairs_left }) c.take_turn.new.pass (rw c.in-Taken.is at c.in_ok-take_turn.ensures.turn) in
    rw (c.in-Some.ensures.items, length-push c.pop.new.self c.in-Some.pair) a

pub loop-pair-preserved : goal.loop-pair-preserved
loop-pair-preserved g c = (
  pass-goes c.args.templates.now.nodes (g.K.Lookup.bindings c.args.known.now) c.args.equations.now
      (record { added = c.loop-pair.pass.added; pending = c.pop.new.self; pairs_left = c.loop-pair.pass.pairs_left }) c.in-Some.pair (rw c.in-Some.ensures.items at c.loop-pair.invariant.0)
      c.ends_of-ends.result c.ends_of-ends.ensures.left c.ends_of-ends.ensures.right c.in_ok-take_turn.ensures.arranged c.take_turn.new.pass (rw c.in-Taken.is at c.in_ok-take_turn.ensures.turn),
  λ o. c.in_ok-take_turn.ensures.older (g.K.Lookup.bindings c.args.known.now) (c.loop-pair.invariant.1 o),
)

pub returns-in-Clash-clause-solves : goal.returns-in-Clash-clause-solves
returns-in-Clash-clause-solves g c = pass-clashes c.args.templates.now.nodes (g.K.Lookup.bindings c.args.known.now) c.args.equations.now
    (record { added = c.loop-pair.pass.added; pending = c.pop.new.self; pairs_left = c.loop-pair.pass.pairs_left }) c.in-Some.pair (rw c.in-Some.ensures.items at c.loop-pair.invariant.0)
    c.ends_of-ends.result c.ends_of-ends.ensures.left c.ends_of-ends.ensures.right (rw c.in-Clash.is at c.in_ok-take_turn.ensures.turn)

pub returns-clause-solves : goal.returns-clause-solves
returns-clause-solves g c =
    let before = c.loop-pair.invariant.0 in
    turn-ends _ _ _ _ before.compared
    (turn-shorter _ _ _ _ _ [] before.compared c.shorten.ensures.ends (rw c.in_default.ensures.none at before.kept)) (KeepsEnds-new _ _ _ _ c.shorten.ensures.ends before.fresh)
