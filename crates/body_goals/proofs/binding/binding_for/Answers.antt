use Rattle.std.proofs.Common.{◌∙◌}
use Rattle.akl_terms.specs.Template.{tree}
use Rattle.body_goals.specs.Takes.{with_added}
use Rattle.body_goals.proofs.Finding.{some_both, end_added, solved_added}
use Rattle.body_goals.proofs.OneBinding.{one_binds}
use Rattle.body_goals.proofs.binding.binding_for.Goals as goal

pub chain_end-left-requires : goal.chain_end-left-requires
chain_end-left-requires c = solved_added c.args.chain.now.nodes c.args.chain.now.stores c.args.part.now c.requires c.templates-templates.result.now.nodes c.templates-templates.ensures.nodes

pub chain_end-right-requires : goal.chain_end-right-requires
chain_end-right-requires c = solved_added c.args.chain.now.nodes c.args.chain.now.stores c.args.part.now c.requires c.templates-templates.result.now.nodes c.templates-templates.ensures.nodes

pub returns : goal.returns
returns c =
    let ends = end_added c.args.chain.now.nodes c.args.chain.now.stores c.args.part.now c.requires in
    some_both c.one_binding.result _ _ _
    (λ b m o. one_binds c.args.chain.now.nodes (with_added c.args.chain.now.stores c.args.part.now) c.requires c.args.equation c.chain_end-left.result c.chain_end-right.result
    ((rw c.templates-templates.ensures.nodes at c.chain_end-left.ensures) ∙ ends (tree c.args.chain.now.nodes c.args.equation.left))
    ((rw c.templates-templates.ensures.nodes at c.chain_end-right.ensures) ∙ ends (tree c.args.chain.now.nodes c.args.equation.right))
    b.0 b.1 (rw c.templates-templates.ensures.nodes at c.one_binding.ensures.arranged) m o)
    (rw c.templates-templates.ensures.nodes at c.one_binding.ensures.binds) (rw c.templates-templates.ensures.nodes at c.one_binding.ensures.older)
