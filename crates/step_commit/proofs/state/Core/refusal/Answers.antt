use Rattle.std.proofs.Common.{◌≡◌, ◌+◌, ◌<◌, length, Some, None, sym, ap, subst, ◌∙◌, arith}
use Rattle.std.proofs.lemmas.Bool.Decides.{nat_tests}
use Rattle.box_tree.specs.Plans.{IsRight}
use Rattle.step_commit.specs.Cores.{CoreValue, IsCore}
use Rattle.step_commit.proofs.Made.{all_seen, fresh, not_fresh, found_as}
use Rattle.step_commit.proofs.Stale.{if_none}
use Rattle.step_commit.proofs.state.Core.refusal.Goals as goal

pub returns-in_err-item-clause-fresh : goal.returns-in_err-item-clause-fresh
returns-in_err-item-clause-fresh c =
    let core : IsCore c.args.self.now = subst IsCore c.self.view_is c.self.invariant in
    let right : IsRight c.args.plan.now = c.reads.ensures.right in
    let more : length c.more.result.now ≡ length c.args.plan.now.more = ap length c.more.ensures in
    let left : length c.args.self.now.journal + c.left-left.result ≡ c.args.self.now.budget = c.left-left.ensures in
    let less : length c.args.plan.now.more + length c.args.self.now.journal < c.args.self.now.budget = let f : _ = c.if-more-left.false in grind (arith, nat_tests) in
    let none = fresh c.args.self.now core c.args.plan.now right c.requires less
    (found_as c.args.self.now.table c.reads.result.now c.args.plan.now.reads c.seen-2.result (length c.args.plan.now.journal) c.stale.result None c.reads.ensures.reads c.seen-2.ensures c.in_err-item.was c.stale.ensures) in
    if_none c.from_residual.result none

pub returns-clause-refused : goal.returns-clause-refused
returns-clause-refused c =
    let core : IsCore c.args.self.now = subst IsCore c.self.view_is c.self.invariant in
    let right : IsRight c.args.plan.now = c.reads.ensures.right in
    let more : length c.more.result.now ≡ length c.args.plan.now.more = ap length c.more.ensures in
    let left : length c.args.self.now.journal + c.left-left.result ≡ c.args.self.now.budget = c.left-left.ensures in
    let less : length c.args.plan.now.more + length c.args.self.now.journal < c.args.self.now.budget = let f : _ = c.if-more-left.false in grind (arith, nat_tests) in (
      less,
      not_fresh c.args.self.now core c.args.plan.now right c.requires c.in_ok-item.item c.in_ok-item.stamp
          (found_as c.args.self.now.table c.reads.result.now c.args.plan.now.reads c.seen-2.result (length c.args.plan.now.journal) c.stale.result (Some (c.in_ok-item.item, c.in_ok-item.stamp)) c.reads.ensures.reads c.seen-2.ensures c.in_ok-item.was c.stale.ensures),
    )

pub returns-then-len-seen-clause-fresh : goal.returns-then-len-seen-clause-fresh
returns-then-len-seen-clause-fresh c =
    let core : IsCore c.args.self.now = subst IsCore c.self.view_is c.self.invariant in
    let more : length c.more.result.now ≡ length c.args.plan.now.more = ap length c.more.ensures in
    let left : length c.args.self.now.journal + c.left-left.result ≡ c.args.self.now.budget = c.left-left.ensures in
    let less : length c.args.plan.now.more + length c.args.self.now.journal < c.args.self.now.budget = let f : _ = c.if-more-left.false in grind (arith, nat_tests) in
    let long : c.len.result ≡ length c.self.inside.journal.items = c.len.ensures ∙ c.self.inside.journal.ok.0 in
    let same : length c.self.inside.journal.items ≡ length c.args.self.now.journal = ap (λ (k : CoreValue). length k.journal) c.self.view_is in
    let seen : c.seen.result ≡ length c.args.plan.now.journal = c.seen.ensures in
    let test : c.len.result ≡ c.seen.result = let f : _ = c.if-len-seen.true in grind (arith, nat_tests) in
    all_seen c.args.self.now core c.args.plan.now (sym same ∙ sym long ∙ test ∙ seen) less
