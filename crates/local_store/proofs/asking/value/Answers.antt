use Rattle.std.proofs.Common.{sym, ◌∙◌}
use Rattle.rational_unify.proofs.Ends.{free-tree}
use Rattle.local_store.proofs.Resolved.{value-free, value-bound}
use Rattle.local_store.proofs.asking.value.Goals as goal

pub returns-in-Free : goal.returns-in-Free
returns-in-Free c =
    let e = rw c.templates-templates.ensures.nodes at c.chain_end-last.ensures in
    let s = rw c.templates-templates.ensures.nodes at c.in-Free.ensures.seen in
    record {
      class = value-free c.args.chain.now.nodes c.args.chain.now.stores c.requires c.args.term c.chain_end-last.result e c.in-Free.variable s;
      end = sym (free-tree c.args.chain.now.nodes c.chain_end-last.result c.in-Free.variable s) ∙ e;
    }

pub returns-in_default : goal.returns-in_default
returns-in_default c =
    let e = rw c.templates-templates.ensures.nodes at c.chain_end-last.ensures in
    record {
      class = value-bound c.args.chain.now.nodes c.args.chain.now.stores c.requires c.args.term c.chain_end-last.result e c.look.result
          (rw c.templates-templates.ensures.nodes at c.look.ensures.seen) c.in_default.not-Free;
      end = e;
    }
