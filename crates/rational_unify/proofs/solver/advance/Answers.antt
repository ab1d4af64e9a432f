use Rattle.std.proofs.Common.{refl, arith, ◌<◌, ◌+◌, ◌^◌, length}
use Rattle.rational_unify.specs.Meeting.{same, bind, agree}
use Rattle.rational_unify.proofs.Heads.{struct-within}
use Rattle.rational_unify.proofs.OlderEnds.{one_more-older}
use Rattle.rational_unify.proofs.Turns.{next-free, bind-free}
use Rattle.rational_unify.proofs.solver.advance.Goals as goal

pub push-requires : goal.push-requires
push-requires c = (bind-free c.args.templates.now.nodes c.args.work.now.added c.args.work.now.compared c.args.pair.left c.args.pair.right _ _ c.in-Bind.variable c.in-Bind.term c.requires.compared
    (next-free c.args.templates.now.nodes c.args.work.now.added c.args.pair.left c.requires.left) (next-free c.args.templates.now.nodes c.args.work.now.added c.args.pair.right c.requires.right) c.last_of-left.ensures c.last_of-right.ensures c.in-Bind.ensures.meets).0

pub push_to-requires-clause-left : goal.push_to-requires-clause-left
push_to-requires-clause-left c =
    let h : c.in-Agree.pairs.left + c.in-Agree.pairs.count < length c.args.templates.now.nodes = struct-within _ _ _ _ _ _ c.in-Agree.ensures.arranged c.in-Agree.ensures.meets.0 in
    let s : length c.args.templates.now.nodes < 4294967296 = c.in-Agree.ensures.small in
    omega arith

pub push_to-requires-clause-right : goal.push_to-requires-clause-right
push_to-requires-clause-right c =
    let h : c.in-Agree.pairs.right + c.in-Agree.pairs.count < length c.args.templates.now.nodes = struct-within _ _ _ _ _ _ c.in-Agree.ensures.arranged c.in-Agree.ensures.meets.1 in
    let s : length c.args.templates.now.nodes < 4294967296 = c.in-Agree.ensures.small in
    omega arith

pub returns-in-Same-clause-turn : goal.returns-in-Same-clause-turn
returns-in-Same-clause-turn c = record {
  left = c.last_of-left.result;
  right = c.last_of-right.result;
  is_left = c.last_of-left.ensures;
  is_right = c.last_of-right.ensures;
  meet = same c.in-Same.ensures.meets refl;
}

pub returns-in_ok-push-in-Bind-clause-turn : goal.returns-in_ok-push-in-Bind-clause-turn
returns-in_ok-push-in-Bind-clause-turn c = record {
  left = c.last_of-left.result;
  right = c.last_of-right.result;
  is_left = c.last_of-left.ensures;
  is_right = c.last_of-right.ensures;
  meet = bind c.in-Bind.ensures.meets c.in_ok-push-in-Bind.ensures.list c.in_ok-push-in-Bind.ensures.small refl refl;
}

pub returns-in_ok-push_to-in-Agree-clause-turn : goal.returns-in_ok-push_to-in-Agree-clause-turn
returns-in_ok-push_to-in-Agree-clause-turn c = record {
  left = c.last_of-left.result;
  right = c.last_of-right.result;
  is_left = c.last_of-left.ensures;
  is_right = c.last_of-right.ensures;
  meet = agree c.in-Agree.ensures.meets few c.in_ok-push-in-Agree.ensures.list c.in_ok-push-in-Agree.ensures.small c.in_ok-push_to-in-Agree.ensures refl;
}
  where
    few : c.in-Agree.pairs.count < 2 ^ 32
    few =
        let h : c.in-Agree.pairs.left + c.in-Agree.pairs.count < length c.args.templates.now.nodes = struct-within _ _ _ _ _ _ c.in-Agree.ensures.arranged c.in-Agree.ensures.meets.0 in
        let s : length c.args.templates.now.nodes < 4294967296 = c.in-Agree.ensures.small in
        omega arith

pub returns-in_ok-push-in-Bind-clause-older : goal.returns-in_ok-push-in-Bind-clause-older
returns-in_ok-push-in-Bind-clause-older c = λ known. one_more-older c.args.templates.now.nodes known c.args.work.now.added _ c.in-Bind.variable c.in-Bind.term
    c.in_ok-push-in-Bind.ensures.list c.in-Bind.ensures.younger
