use Rattle.std.proofs.Common.{◌≡◌, [], ◌∷◌, List, length, get_or, sym, ap, ◌∙◌}
use Rattle.std.specs.Global.{Vec}
use Rattle.std.proofs.lemmas.Result.{IfOk-weaker}
use Rattle.akl_terms.specs.declared.name.Var.{Var}
use Rattle.local_store.specs.Stored.{Stored}
use Rattle.local_store.specs.Chained.{bindings_from}
use Rattle.class_members.proofs.Whole.{only, alone_listed, whole_members, whole_unbound}
use Rattle.class_members.proofs.listing.members_in.Goals as goal

pub returns-in-len1 : goal.returns-in-len1
returns-in-len1 c =
    let l = rw c.templates.ensures.nodes at c.end_alone.ensures in
    let one : length c.args.chain.now.stores ≡ 1 = ap (λ (ss : List Stored). length ss) (sym c.stores.ensures) ∙ c.if-stores-eq1.true in
    let of : c.args.of.now ≡ get_or c.args.of.now 0 (record { frame = record { worker = 0; number = 0 }; index = 0 }) ∷ [] = only c.args.of.now (record { frame = record { worker = 0; number = 0 }; index = 0 }) c.in-len1.len_at_least c.in-len1.len_below in
    let listed = λ (list : Vec Var). alone_listed c.args.chain.now.nodes (bindings_from c.args.chain.now.stores) c.args.chain.now.stores c.args.of.now _ list.items one of in
    record {
      members = IfOk-weaker c.end_alone.result _ _ (λ list h. whole_members c.args.chain.now.nodes c.args.chain.now.stores c.requires c.args.of.now list.items (listed list h)) l;
      unbound = IfOk-weaker c.end_alone.result _ _ (λ list h. whole_unbound c.args.chain.now.nodes c.args.chain.now.stores c.requires c.args.of.now list.items (listed list h)) l;
    }

pub returns-clause-members : goal.returns-clause-members
returns-clause-members c =
    let l = rw (c.templates-2.ensures.nodes, c.as_slice.ensures.value, c.in_ok-candidates.ensures, c.stores-2.ensures) at c.members_among.ensures in
    IfOk-weaker c.members_among.result _ _ (λ list h. whole_members c.args.chain.now.nodes c.args.chain.now.stores c.requires c.args.of.now list.items h) l

pub returns-clause-unbound : goal.returns-clause-unbound
returns-clause-unbound c =
    let l = rw (c.templates-2.ensures.nodes, c.as_slice.ensures.value, c.in_ok-candidates.ensures, c.stores-2.ensures) at c.members_among.ensures in
    IfOk-weaker c.members_among.result _ _ (λ list h. whole_unbound c.args.chain.now.nodes c.args.chain.now.stores c.requires c.args.of.now list.items h) l
