use Rattle.std.proofs.Common.{◌≡◌, sym, ◌∙◌, subst, take, arith}
use Rattle.std.specs.List.{AllByRecursion}
use Rattle.akl_terms.specs.declared.program.ShownTerm.{ShownTerm}
use Rattle.akl_terms.specs.Template.{tree}
use Rattle.akl_terms.specs.Tree.{Tree, variable}
use Rattle.rational_unify.specs.Known.{end_of}
use Rattle.rational_unify.proofs.Taking.{take-all}
use Rattle.why_report.proofs.NamedTexts.{none_same, first_same, same_end}
use Rattle.why_report.proofs.lines.first_equal.Goals as goal

pub returns-then-eq : goal.returns-then-eq
returns-then-eq g c = λ r e.
    let nodes = c.args.templates.now.nodes in
    let bs = g.W.Lookup.bindings c.args.whole.now in
    let same : variable c.in_ok-end.end ≡ variable r = sym c.in_ok-end.ensures ∙ e in
    let ends = rw (same_end c.end_variable.result c.in_ok-end.end (sym c.eq.ensures ∙ c.if-eq.true)) at c.end_variable.ensures in
    let differ = subst (λ (t : Tree). AllByRecursion (λ (s : ShownTerm). end_of nodes bs (tree nodes s.term) ≡ t → ⊥) (take c.loop-term.term-index c.args.shown.now)) same c.loop-term.invariant in
    first_same nodes (λ (t : Tree). end_of nodes bs t ≡ variable r) c.args.variable c.args.shown.now c.loop-term.term-index c.term-item.result c.loop-term-test.true c.term-item.is differ (ends ∙ same)

pub returns : goal.returns
returns g c = λ r e.
    let nodes = c.args.templates.now.nodes in
    let bs = g.W.Lookup.bindings c.args.whole.now in
    let same : variable c.in_ok-end.end ≡ variable r = sym c.in_ok-end.ensures ∙ e in
    let differ = subst (λ (t : Tree). AllByRecursion (λ (s : ShownTerm). end_of nodes bs (tree nodes s.term) ≡ t → ⊥) (take c.loop-term.term-index c.args.shown.now)) same c.loop-term.invariant in
    none_same nodes (λ (t : Tree). end_of nodes bs t ≡ variable r) c.args.variable c.args.shown.now
    (subst (AllByRecursion (λ (s : ShownTerm). end_of nodes bs (tree nodes s.term) ≡ variable r → ⊥)) (take-all c.args.shown.now c.loop-term.term-index (omega (arith, c.loop-term-test.false, c.loop-term.auto.term-index-end))) differ)
