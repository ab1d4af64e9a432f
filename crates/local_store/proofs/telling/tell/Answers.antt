use Rattle.std.proofs.Common.{◌∙◌, ap}
use Rattle.std.proofs.lemmas.Result.{IfOk-weaker}
use Rattle.local_store.specs.Telling.{added, clash}
use Rattle.local_store.proofs.Answered.{IfOk-all}
use Rattle.local_store.proofs.telling.tell.Goals as goal

pub returns-in-Clash-clause-adds : goal.returns-in-Clash-clause-adds
returns-in-Clash-clause-adds g c = IfOk-weaker c.add_clash.result _ _
    (λ z store s. clash c.in-Clash.left c.in-Clash.right (rw c.in-Clash.is at c.in_ok-left.ensures.solves) (store s) (c.add_clash.ensures.solved ∙ c.requires.untold.0)
    (ap (λ v. v.items) c.add_clash.ensures.bound ∙ c.requires.untold.1))
    c.add_clash.ensures.store

pub add_found-requires-clause-solved : goal.add_found-requires-clause-solved
add_found-requires-clause-solved g c = (rw c.in-Added.is at c.in_ok-left.ensures.solves).solved

pub add_found-requires-clause-fresh : goal.add_found-requires-clause-fresh
add_found-requires-clause-fresh g c = (rw c.in-Added.is at c.in_ok-left.ensures.solves).fresh

pub returns-in-Added-clause-adds : goal.returns-in-Added-clause-adds
returns-in-Added-clause-adds g c = IfOk-all c.add_found.result _ _ _ _
    (λ t store solved bound s. added c.in-Added.added (rw c.in-Added.is at c.in_ok-left.ensures.solves) (rw c.in-Added.is at c.in_ok-left.ensures.older) (store s) solved bound)
    c.add_found.ensures.store c.add_found.ensures.solved (rw c.requires.untold.1 at c.add_found.ensures.bound)
