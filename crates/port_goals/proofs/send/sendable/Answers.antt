use Rattle.std.proofs.Common.{sym, ◌∙◌}
use Rattle.akl_terms.specs.declared.term.Term.TheVariants.{Mol}
use Rattle.rational_unify.proofs.Ends.{free-tree}
use Rattle.local_store.proofs.Resolved.{value-free}
use Rattle.port_goals.proofs.Operands.{port-tree, is-port, is-no_port}
use Rattle.port_goals.proofs.send.sendable.Goals as goal

pub returns-in-Free : goal.returns-in-Free
returns-in-Free c =
    let e = rw c.templates-templates.ensures.nodes at c.chain_end.ensures in
    let s = rw c.templates-templates.ensures.nodes at c.in-Free.ensures.seen in
    rw c.in-Send.is (record {
      state = value-free c.args.chain.now.nodes c.args.chain.now.stores c.requires.solved (Mol c.in-Send.port c.args.goal.frame) c.chain_end.result e c.in-Free.on s;
      end = sym e ∙ free-tree c.args.chain.now.nodes c.chain_end.result c.in-Free.on s;
    })

pub returns-in-Port : goal.returns-in-Port
returns-in-Port c =
    let e = rw c.templates-templates.ensures.nodes at c.chain_end.ensures in
    let s = rw c.templates-templates.ensures.nodes at c.in-Port.ensures.seen in
    rw c.in-Send.is (record {
      state = (
        is-port c.args.chain.now.nodes c.args.chain.now.stores c.requires.solved (Mol c.in-Send.port c.args.goal.frame) c.chain_end.result e c.in-Port.port s,
        sym c.is_owned.ensures ∙ c.if-is_owned.true,
      );
      end = sym e ∙ port-tree c.args.chain.now.nodes c.chain_end.result c.in-Port.port s;
    })

pub returns-in-Port-2 : goal.returns-in-Port-2
returns-in-Port-2 c =
    let e = rw c.templates-templates.ensures.nodes at c.chain_end.ensures in
    let s = rw c.templates-templates.ensures.nodes at c.in-Port.ensures.seen in
    rw c.in-Send.is (record {
      state = (
        is-port c.args.chain.now.nodes c.args.chain.now.stores c.requires.solved (Mol c.in-Send.port c.args.goal.frame) c.chain_end.result e c.in-Port.port s,
        sym c.is_owned.ensures ∙ c.if-is_owned.false,
      );
      end = sym e ∙ port-tree c.args.chain.now.nodes c.chain_end.result c.in-Port.port s;
    })

pub returns-in_default-look : goal.returns-in_default-look
returns-in_default-look c =
    let e = rw c.templates-templates.ensures.nodes at c.chain_end.ensures in
    let s = rw c.templates-templates.ensures.nodes at c.look.ensures.seen in
    rw c.in-Send.is (record {
      state = is-no_port c.args.chain.now.nodes c.args.chain.now.stores c.requires.solved (Mol c.in-Send.port c.args.goal.frame) c.chain_end.result e c.look.result s
          c.in_default-look.not-Free c.in_default-look.not-Port;
      end = tt;
    })
