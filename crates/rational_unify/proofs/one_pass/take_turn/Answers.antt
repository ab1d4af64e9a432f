use Rattle.std.proofs.Common.{[], ◌≡◌, refl, arith, ◌<◌, ◌≤◌, ◌+◌, ◌-◌, length}
use Rattle.rational_unify.specs.Indexes.{here}
use Rattle.rational_unify.specs.Passing.{by_binding, by_arguments}
use Rattle.rational_unify.proofs.Heads.{struct-within}
use Rattle.rational_unify.proofs.OlderEnds.{one_more-older}
use Rattle.rational_unify.proofs.Turns.{next-free, bind-free}
use Rattle.rational_unify.proofs.one_pass.take_turn.Goals as goal

pub push-requires : goal.push-requires
push-requires c = (bind-free c.args.templates.now.nodes c.args.pass.now.added [] c.args.ends.left c.args.ends.right _ _ c.in-Bind.variable c.in-Bind.term (record { each = λ p m. absurd m })
    (next-free c.args.templates.now.nodes c.args.pass.now.added c.args.ends.left c.requires.left) (next-free c.args.templates.now.nodes c.args.pass.now.added c.args.ends.right c.requires.right) here here c.in-Bind.ensures.meets).0

pub push_to-requires-clause-left : goal.push_to-requires-clause-left
push_to-requires-clause-left c =
    let h : c.in-Agree.pairs.left + c.in-Agree.pairs.count < length c.args.templates.now.nodes = struct-within _ _ _ _ _ _ c.in-Agree.ensures.arranged c.in-Agree.ensures.meets.0 in
    let s : length c.args.templates.now.nodes < 4294967296 = c.in-Agree.ensures.small in
    omega arith

pub push_to-requires-clause-right : goal.push_to-requires-clause-right
push_to-requires-clause-right c =
    let h : c.in-Agree.pairs.right + c.in-Agree.pairs.count < length c.args.templates.now.nodes = struct-within _ _ _ _ _ _ c.in-Agree.ensures.arranged c.in-Agree.ensures.meets.1 in
    let s : length c.args.templates.now.nodes < 4294967296 = c.in-Agree.ensures.small in
    omega arith

pub returns-in_ok-push-in-Bind-clause-turn : goal.returns-in_ok-push-in-Bind-clause-turn
returns-in_ok-push-in-Bind-clause-turn c = by_binding c.in-Bind.ensures.meets c.in_ok-push-in-Bind.ensures.list refl refl

pub returns-in_ok-push-in-Bind-clause-older : goal.returns-in_ok-push-in-Bind-clause-older
returns-in_ok-push-in-Bind-clause-older c = λ known. one_more-older c.args.templates.now.nodes known c.args.pass.now.added _ c.in-Bind.variable c.in-Bind.term
    c.in_ok-push-in-Bind.ensures.list c.in-Bind.ensures.younger

pub returns-in_ok-push_to-in-Agree-clause-turn : goal.returns-in_ok-push_to-in-Agree-clause-turn
returns-in_ok-push_to-in-Agree-clause-turn c = by_arguments c.in-Agree.ensures.meets fewer c.in_ok-push_to-in-Agree.ensures refl
  where
    fewer : c.in-Some.pairs_left + c.in-Agree.pairs.count ≡ c.args.pass.now.pairs_left
    fewer =
        let l : c.in-Agree.pairs.count ≤ c.args.pass.now.pairs_left = c.in-Some.ensures.0 in
        let e : c.in-Some.pairs_left ≡ c.args.pass.now.pairs_left - c.in-Agree.pairs.count = c.in-Some.ensures.1 in
        omega arith
