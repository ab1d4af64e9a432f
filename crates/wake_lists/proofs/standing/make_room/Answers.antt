use Rattle.std.proofs.Common.{List, [], ◌∷◌, ◌++◌, refl, ap, ◌∙◌}
use Rattle.smallvec.specs.SmallVec.{SmallVec}
use Rattle.akl_terms.specs.declared.name.Name.{Name}
use Rattle.wake_lists.specs.Standing.{names_in, boxes_at}
use Rattle.wake_lists.proofs.BoxesKept.{names_more, boxes_more}
use Rattle.wake_lists.proofs.standing.make_room.Goals as goal

pub loop-alloc-init : goal.loop-alloc-init
loop-alloc-init c = λ t. refl

pub loop-alloc-preserved : goal.loop-alloc-preserved
loop-alloc-preserved c = λ t.
    ap (λ (bs : List (SmallVec Name)). boxes_at t (names_in bs)) c.in_ok-push.ensures.items
    ∙ ap (boxes_at t) (names_more c.loop-alloc.boxes.items _ ∙ ap (λ (ns : List Name). names_in c.loop-alloc.boxes.items ++ ns ∷ []) c.new.ensures.items)
    ∙ boxes_more (names_in c.loop-alloc.boxes.items) t ∙ c.loop-alloc.invariant t

pub returns-in_err-push-clause-same : goal.returns-in_err-push-clause-same
returns-in_err-push-clause-same c = λ t. ap (λ (bs : List (SmallVec Name)). boxes_at t (names_in bs)) c.in_err-push.ensures.items ∙ c.loop-alloc.invariant t

pub returns-clause-same : goal.returns-clause-same
returns-clause-same c = c.loop-alloc.invariant
