use Rattle.std.proofs.Common.{length, refl, sym, ◌∙◌}
use Rattle.std.proofs.lemmas.Bool.{false≢true}
use Rattle.local_store.proofs.Known.{whole-known}
use Rattle.call_plan.specs.Owns.{stored}
use Rattle.call_plan.specs.Sifted.{frame_at}
use Rattle.call_plan.proofs.HeadStores.{store_solved}
use Rattle.call_plan.proofs.SiftingOn.{head_goes, guard_goes, guard_stays}
use Rattle.call_plan.proofs.sifting.left_of.Goals as goal
use Rattle.call_plan.proofs.sifting.left_of.Goals.{in-Holds, in-Open}

pub own_of-requires-clause-solved : goal.own_of-requires-clause-solved
own_of-requires-clause-solved c = whole-known c.args.chain.now.nodes c.args.chain.now.stores (length c.args.chain.now.stores) c.requires.known refl

pub returns-in_default : goal.returns-in_default
returns-in_default c = head_goes c.args.chain.now.symbols c.args.chain.now.nodes c.args.chain.now.stores c.args.arguments c.args.name.worker c.args.name.number c.args.clause.now c.args.sifted.now.labels.items c.args.sifted.now.plainly c.args.sifted.now.labels.items
    c.push.new.self.items c.args.sifted.now.plainly (λ e. e) c.failing.result c.in_ok-push.ensures.items c.failing.ensures refl (rw c.in_default.is at c.in_ok-own.ensures)

pub guard_of-requires-clause-solved : goal.guard_of-requires-clause-solved
guard_of-requires-clause-solved c =
    store_solved c.args.chain.now.nodes c.args.chain.now.stores c.args.arguments (frame_at c.args.name.worker c.args.name.number) c.args.clause.now (length c.args.chain.now.stores) (stored (frame_at c.args.name.worker c.args.name.number) c.in-Some.own)
    (rw c.in-Some.is at c.in_ok-own.ensures).store

pub guard_of-requires-clause-plain : goal.guard_of-requires-clause-plain
guard_of-requires-clause-plain c = (rw c.in-Some.is at c.in_ok-own.ensures).plain

pub returns-in-Fails : goal.returns-in-Fails
returns-in-Fails c = guard_goes c.args.chain.now.symbols c.args.chain.now.nodes c.args.chain.now.stores c.args.arguments c.args.name.worker c.args.name.number c.args.clause.now c.args.sifted.now.labels.items c.args.sifted.now.plainly c.guard_of.new.labels.items
    c.push-in-Fails.new.self.items c.note.new.self.plainly (λ e. (c.note.ensures.plainly e).0) c.failing-in-Fails.result c.in_ok-push-in-Fails.ensures.items c.failing-in-Fails.ensures c.in-Some.own (rw c.in-Some.is at c.in_ok-own.ensures)
    (λ e. (rw c.as_slice-codes.ensures at c.note.ensures.plainly e).1) (rw (c.in-Fails.is, c.as_slice-codes.ensures, c.note.ensures.labels) at c.in_ok-guard_of.ensures)

pub returns : goal.returns
returns c = guard_stays c.args.chain.now.symbols c.args.chain.now.nodes c.args.chain.now.stores c.args.arguments c.args.name.worker c.args.name.number c.args.clause.now c.args.behind.now c.args.sifted.now.labels.items
    c.args.sifted.now.plainly c.guard_of.new.labels.items c.note.new.self.plainly (λ e. (c.note.ensures.plainly e).0) _ c.in_ok-guard_of.field-0 refl refl refl (rw c.in-Some.is at c.in_ok-own.ensures).store
    (rw c.in-Some.is at c.in_ok-own.ensures).plain (λ e. (rw c.as_slice-codes.ensures at c.note.ensures.plainly e).1) refl (rw (c.as_slice-codes.ensures, c.note.ensures.labels) at c.in_ok-guard_of.ensures)
    (λ q. elim c.match-branch-5.branch [ in-Holds w ↦ w.in-Holds.is | in-Open w ↦ absurd (false≢true (sym w.holds-is ∙ q)) ])
