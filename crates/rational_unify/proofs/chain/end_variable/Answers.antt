use Rattle.std.proofs.Common.{sym, ◌∙◌, ap}
use Rattle.akl_terms.specs.Tree.{head_of}
use Rattle.rational_unify.proofs.Ends.{free-tree, headed-tree}
use Rattle.rational_unify.proofs.chain.end_variable.Goals as goal

pub returns-in-Free : goal.returns-in-Free
returns-in-Free g c = sym c.chain_end.ensures ∙ free-tree c.args.templates.now.nodes c.chain_end.result _ c.in-Free.ensures.seen

pub returns-in_default : goal.returns-in_default
returns-in_default g c =
    let w = headed-tree c.args.templates.now.nodes c.chain_end.result _ c.look.ensures.seen c.in_default.not-Free in
    (w.0, ap head_of (sym c.chain_end.ensures) ∙ w.1)
