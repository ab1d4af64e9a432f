use Rattle.std.proofs.Common.{List, sym, ◌∙◌, ap, subst, length}
use Rattle.akl_terms.specs.declared.name.Var.{Var}
use Rattle.local_store.specs.Stored.{Stored}
use Rattle.class_members.specs.Members.{AreMembers}
use Rattle.call_plan.proofs.PlainJoined.{one_store}
use Rattle.call_plan.proofs.finding.binds_of.Goals as goal

pub returns-then-stores-eq1 : goal.returns-then-stores-eq1
returns-then-stores-eq1 c =
    let members = one_store c.args.chain.now.nodes c.args.chain.now.stores (ap (λ (ss : List Stored). length ss) (sym c.stores.ensures) ∙ c.if-stores-eq1.true) c.requires.known c.args.bound.items (c.requires.free c.if-plain.true) in
    subst (λ (xs : List Var). AreMembers c.args.chain.now.nodes c.args.chain.now.stores c.args.bound.items xs) (sym c.in_ok-list.ensures.ok) members
