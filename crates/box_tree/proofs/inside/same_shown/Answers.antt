use Rattle.std.proofs.Common.{◌++◌, ◌∷◌, [], sym, ◌∙◌}
use Rattle.std.proofs.lemmas.List.{take_all}
use Rattle.akl_terms.specs.declared.program.ShownTerm.{ShownTerm}
use Rattle.box_tree.proofs.Gathered.{taken}
use Rattle.box_tree.proofs.inside.same_shown.Goals as goal

pub loop-term-preserved : goal.loop-term-preserved
loop-term-preserved c =
    let x : ShownTerm = c.term-item.result in
    c.in_ok-push.ensures.items ∙ (λ i. (c.loop-term.invariant i) ++ record { name = c.in_ok-name.ensures i; term = x.term } ∷ [])
    ∙ sym (taken c.args.shown.now c.loop-term.term-index x x c.loop-term-test.true c.term-item.is)

pub returns : goal.returns
returns c = c.loop-term.invariant ∙ take_all c.loop-term.term-index c.args.shown.now c.loop-term-test.false
