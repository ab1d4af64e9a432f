use Rattle.std.proofs.Common.{◌≡◌, ◌+◌, List, [], ◌∷◌, ◌++◌, map, take, sym, ap, ◌∙◌, arith}
use Rattle.std.proofs.lemmas.List.{take_more, take_all, map_push}
use Rattle.akl_terms.specs.declared.program.Definition.{Definition}
use Rattle.clause_keys.specs.Keys.{called_by}
use Rattle.clause_checks.proofs.SameCallee.{index_start, index_next, same_callees}
use Rattle.clause_checks.proofs.callees.callees_of.Goals as goal

pub loop-definition-init : goal.loop-definition-init
loop-definition-init c = rw c.new-callees.ensures (index_start, omega arith)

pub add_definition-requires : goal.add_definition-requires
add_definition-requires c = omega (arith, c.loop-definition.invariant.1, c.loop-definition-test.true, c.loop-definition.auto.definition-index-end)

pub loop-definition-preserved : goal.loop-definition-preserved
loop-definition-preserved c =
    let i = c.loop-definition.definition-index in
    let ds : List Definition = c.args.definitions.now in
    let more : map called_by (take (i + 1) ds) ≡ map called_by (take i ds) ++ called_by c.definition-item.result ∷ [] =
    ap (map called_by) (take_more ds i c.definition-item.result (omega (arith, c.loop-definition-test.true, c.loop-definition.auto.definition-index-end)))
    ∙ map_push called_by (take i ds) _ ∙ ap (λ x. map called_by (take i ds) ++ called_by x ∷ []) (sym c.definition-item.is) in
    (rw more (index_next c.loop-definition.invariant.0 c.in_ok-add_definition.ensures.ok), omega (arith, c.loop-definition.invariant.1, c.in_ok-add_definition.ensures.grown))

pub returns : goal.returns
returns c =
    let ds : List Definition = c.args.definitions.now in
    let all : take c.loop-definition.definition-index ds ≡ ds = take_all c.loop-definition.definition-index ds (omega (arith, c.loop-definition-test.false, c.loop-definition.auto.definition-index-end)) in
    same_callees _ _ (rw all at c.loop-definition.invariant.0)
