use Rattle.std.proofs.Common.{◌++◌, [], List, subst, append-nil}
use Rattle.akl_terms.specs.declared.name.Var.{Var}
use Rattle.akl_terms.specs.declared.term.Node.{Node}
use Rattle.akl_terms.specs.declared.term.Term.{Term}
use Rattle.rational_unify.specs.Known.{IsSolved}
use Rattle.rational_unify.specs.Followed.{AgreeOn}
use Rattle.rational_unify.proofs.Shortening.{KeepsEnds-new, length-variables}
use Rattle.rational_unify.proofs.Following.{AgreeOn-refl, AgreeOn-left, AgreeOn-right, sides-agree, sides-end, follows-keeps, sides-older, EndsOf}
use Rattle.rational_unify.proofs.Turns.{end-unbound, turn-falls, length-push, turn-shorter, turn-starts, turn-goes, turn-ends, clash-follows, work-heads, work-solved}
use Rattle.rational_unify.proofs.solver.solved_along.Goals as goal

pub loop-pair-init : goal.loop-pair-init
loop-pair-init g c = (
  λ other h a. record {
    kept = rw (c.of-work.ensures.0, c.of-work.ensures.1, c.of-work.ensures.2) (turn-starts _ _ _ h);
    fresh = rw c.of-work.ensures.0 tt;
  },
  λ o. rw (c.of-work.ensures.0, append-nil (g.K.Lookup.bindings c.args.known.now)) o,
)

pub follow-requires : goal.follow-requires
follow-requires g c = work-solved _ _ _ _ _ _ (c.loop-pair.invariant.0 (g.K.Lookup.bindings c.args.known.now) c.requires.known (AgreeOn-refl _ _)).kept

pub follow-requires-in-Some : goal.follow-requires-in-Some
follow-requires-in-Some g c = (follows-keeps _ _ _ _ _ _ _ _ _ c.in_ok-left.ensures
    (work-solved _ _ _ _ _ _ (c.loop-pair.invariant.0 (g.K.Lookup.bindings c.args.known.now) c.requires.known (AgreeOn-refl _ _)).kept) (AgreeOn-refl _ _)).solved

pub advance-requires-clause-left : goal.advance-requires-clause-left
advance-requires-clause-left g c =
    let k : EndsOf c.args.templates.now.nodes (g.K.Lookup.bindings c.args.known.now) c.loop-pair.work.added c.follow-in-Some.new.added c.in-Some.pair c.in_ok-left.left c.in_ok-right.right =
    sides-end _ _ c.in-Some.pair _ _ _ _ _ _ _ _ c.in_ok-left.ensures c.in_ok-right.ensures (g.K.Lookup.bindings c.args.known.now)
    (work-solved _ _ _ _ _ _ (c.loop-pair.invariant.0 (g.K.Lookup.bindings c.args.known.now) c.requires.known (AgreeOn-refl _ _)).kept) (AgreeOn-refl _ _) in
    end-unbound _ _ _ _ c.in_ok-left.left k.keeps.solved k.at_left

pub advance-requires-clause-right : goal.advance-requires-clause-right
advance-requires-clause-right g c =
    let k : EndsOf c.args.templates.now.nodes (g.K.Lookup.bindings c.args.known.now) c.loop-pair.work.added c.follow-in-Some.new.added c.in-Some.pair c.in_ok-left.left c.in_ok-right.right =
    sides-end _ _ c.in-Some.pair _ _ _ _ _ _ _ _ c.in_ok-left.ensures c.in_ok-right.ensures (g.K.Lookup.bindings c.args.known.now)
    (work-solved _ _ _ _ _ _ (c.loop-pair.invariant.0 (g.K.Lookup.bindings c.args.known.now) c.requires.known (AgreeOn-refl _ _)).kept) (AgreeOn-refl _ _) in
    end-unbound _ _ _ _ c.in_ok-right.right k.keeps.solved k.at_right

pub advance-requires-clause-compared : goal.advance-requires-clause-compared
advance-requires-clause-compared g c = work-heads _ _ _ _ _ _ (c.loop-pair.invariant.0 (g.K.Lookup.bindings c.args.known.now) c.requires.known (AgreeOn-refl _ _)).kept

pub returns-in-Some-2-clause-followed : goal.returns-in-Some-2-clause-followed
returns-in-Some-2-clause-followed g c = λ other h a.
    let nodes = c.args.templates.now.nodes in
    let before = c.loop-pair.invariant.0 other h (sides-agree _ _ c.in-Some.pair _ _ _ _ _ _ _ _ c.in_ok-left.ensures c.in_ok-right.ensures other a).0 in
    let e : EndsOf nodes other c.loop-pair.work.added c.follow-in-Some.new.added c.in-Some.pair c.in_ok-left.left c.in_ok-right.right =
    sides-end _ _ c.in-Some.pair _ _ _ _ _ _ _ _ c.in_ok-left.ensures c.in_ok-right.ensures other (work-solved _ _ _ _ _ _ before.kept) a in
    clash-follows nodes other c.args.equations.now
    (record { added = c.follow-in-Some.new.added; pending = c.pop.new.self; compared = c.loop-pair.work.compared }) c.in-Some.pair
    (turn-shorter _ _ _ _ _ _ _ e.keeps (rw c.in-Some.ensures.items at before.kept))
    (record { left = c.in_ok-left.left; right = c.in_ok-right.right }) e.at_left e.at_right c.in-Some-2.clash (rw c.in-Some-2.is at c.in_ok-clash.ensures.turn)

pub loop-pair-preserved : goal.loop-pair-preserved
loop-pair-preserved g c = (
  λ other h a.
      let before = c.loop-pair.invariant.0 other h (sides-agree _ _ c.in-Some.pair _ _ _ _ _ _ _ _ c.in_ok-left.ensures c.in_ok-right.ensures other a).0 in
      let e : EndsOf nodes other c.loop-pair.work.added c.follow-in-Some.new.added c.in-Some.pair c.in_ok-left.left c.in_ok-right.right =
      sides-end _ _ c.in-Some.pair _ _ _ _ _ _ _ _ c.in_ok-left.ensures c.in_ok-right.ensures other (work-solved _ _ _ _ _ _ before.kept) a in
      turn-goes nodes other c.args.equations.now
      (record { added = c.follow-in-Some.new.added; pending = c.pop.new.self; compared = c.loop-pair.work.compared }) c.in-Some.pair
      (turn-shorter _ _ _ _ _ _ _ e.keeps (rw c.in-Some.ensures.items at before.kept))
      (record { left = c.in_ok-left.left; right = c.in_ok-right.right }) e.at_left e.at_right c.in_ok-clash.ensures.arranged c.advance.new.work
      (KeepsEnds-new _ _ _ _ e.keeps before.fresh) (rw c.in_default-2.is at c.in_ok-clash.ensures.turn),
  λ o. c.in_ok-clash.ensures.older known (sides-older _ _ c.in-Some.pair _ _ _ _ _ _ _ _ c.in_ok-left.ensures c.in_ok-right.ensures known solved (AgreeOn-refl _ _) (c.loop-pair.invariant.1 o)),
)
  where
    nodes : List Node
    nodes = c.args.templates.now.nodes

    known : List (Var × Term)
    known = g.K.Lookup.bindings c.args.known.now

    solved : IsSolved nodes (known ++ c.loop-pair.work.added)
    solved = work-solved _ _ _ _ _ _ (c.loop-pair.invariant.0 known c.requires.known (AgreeOn-refl _ _)).kept

pub loop-pair-smaller : goal.loop-pair-smaller
loop-pair-smaller g c =
    let was = c.loop-pair.invariant.0 (g.K.Lookup.bindings c.args.known.now) c.requires.known (AgreeOn-refl _ _) in
    let k : EndsOf c.args.templates.now.nodes (g.K.Lookup.bindings c.args.known.now) c.loop-pair.work.added c.follow-in-Some.new.added c.in-Some.pair c.in_ok-left.left c.in_ok-right.right =
    sides-end _ _ c.in-Some.pair _ _ _ _ _ _ _ _ c.in_ok-left.ensures c.in_ok-right.ensures (g.K.Lookup.bindings c.args.known.now) (work-solved _ _ _ _ _ _ was.kept) (AgreeOn-refl _ _) in
    let a = turn-falls c.args.templates.now.nodes (record { left = c.in_ok-left.left; right = c.in_ok-right.right })
    (record { added = c.follow-in-Some.new.added; pending = c.pop.new.self; compared = c.loop-pair.work.compared }) c.advance.new.work (rw c.in_default-2.is at c.in_ok-clash.ensures.turn) in
    rw (c.in-Some.ensures.items, length-push c.pop.new.self c.in-Some.pair, ← length-variables c.follow-in-Some.new.added c.loop-pair.work.added k.keeps.variables) a

pub settle-requires-clause-solved : goal.settle-requires-clause-solved
settle-requires-clause-solved g c = work-solved _ _ _ _ _ _ (c.loop-pair.invariant.0 (g.K.Lookup.bindings c.args.known.now) c.requires.known (AgreeOn-refl _ _)).kept

pub settle-requires-clause-fresh : goal.settle-requires-clause-fresh
settle-requires-clause-fresh g c = (c.loop-pair.invariant.0 (g.K.Lookup.bindings c.args.known.now) c.requires.known (AgreeOn-refl _ _)).fresh

pub returns-clause-followed : goal.returns-clause-followed
returns-clause-followed g c = λ other h a.
    let known = g.K.Lookup.bindings c.args.known.now in
    let s = c.in_ok-settle.ensures.settles in
    let b : AgreeOn (c.loop-pair.followed.items ++ s.path) known other = subst (λ (xs : List Var). AgreeOn xs known other) s.followed_by a in
    let before = c.loop-pair.invariant.0 other h (AgreeOn-left c.loop-pair.followed.items s.path known other b) in
    let k = s.keeps other (work-solved _ _ _ _ _ _ before.kept) before.fresh (AgreeOn-right c.loop-pair.followed.items s.path known other b) in
    turn-ends _ _ _ _ c.loop-pair.work.compared
    (turn-shorter _ _ _ _ _ [] c.loop-pair.work.compared k (rw c.in_default.ensures.none at before.kept)) (KeepsEnds-new _ _ _ _ k before.fresh)

pub returns-clause-older : goal.returns-clause-older
returns-clause-older g c = λ o. c.in_ok-settle.ensures.older (c.loop-pair.invariant.1 o)
