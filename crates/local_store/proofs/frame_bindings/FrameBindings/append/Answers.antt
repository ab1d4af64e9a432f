use Rattle.std.proofs.Common.{◌≡◌, length, ◌∙◌, arith}
use Rattle.local_store.specs.Kept.{place_at}
use Rattle.local_store.proofs.Places.{put-last}
use Rattle.local_store.proofs.frame_bindings.FrameBindings.append.Goals as goal

pub returns-clause-bindings : goal.returns-clause-bindings
returns-clause-bindings c = λ q.
    let ok = c.args.self.now.bindings.ok in
    let told = c.may_append.ensures.last c.if-not-may_append.false in
    let last : place_at c.args.self.now.bindings.items c.args.index ≡ length c.args.self.now.bindings.items = omega arith in
    (rw c.in-Ok.is at c.push.ensures.items) ∙ put-last c.args.self.now.bindings.items c.args.index c.args.term last
