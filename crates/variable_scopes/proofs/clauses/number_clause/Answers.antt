use Rattle.std.proofs.Common.{◌++◌, List, ℕ, map, option_map, refl}
use Rattle.std.proofs.lemmas.Result.{on_ok_weaker}
use Rattle.term_syntax.specs.Tree.{trees}
use Rattle.term_syntax.specs.Variables.{trees_variables}
use Rattle.term_syntax.specs.View.{tree}
use Rattle.akl_syntax.specs.Answers.{clause_view}
use Rattle.akl_syntax.specs.GoalView.{part}
use Rattle.akl_syntax.specs.Variables.{collected_variables}
use Rattle.akl_syntax.specs.declared.source.SourceClause.{SourceClause}
use Rattle.variable_scopes.specs.Numbering.{part_variables}
use Rattle.variable_scopes.proofs.Numbers.{below_left, below_right, below_after, numbered_both}
use Rattle.variable_scopes.proofs.ClauseParts.{same_trees, same_clause}
use Rattle.variable_scopes.proofs.clauses.number_clause.Goals as goal

pub numbered_terms-requires : goal.numbered_terms-requires
numbered_terms-requires c = rw c.deref.ensures.value (below_left _ _ _ c.requires)

pub number_collected-requires : goal.number_collected-requires
number_collected-requires c = below_after _ c.in_ok-arguments.ensures.numbers (below_left _ _ _ (below_right _ _ _ c.requires))

pub number_part-requires : goal.number_part-requires
number_part-requires c =
    let arguments : List ℕ = trees_variables (trees (map tree c.args.clause.now.arguments.items)) in
    let kept : List ℕ = collected_variables (option_map tree c.args.clause.now.collected) in
    let part : List ℕ = part_variables (part c.args.clause.now.part) in
    below_after part c.in_ok-collected.ensures.numbers (below_after part c.in_ok-arguments.ensures.numbers (below_right _ kept part (below_right _ arguments (kept ++ part) c.requires)))

pub returns-clause-shape : goal.returns-clause-shape
returns-clause-shape c =
    let old : SourceClause = c.args.clause.now in
    let new : SourceClause = record { head = old.head; arguments = c.in_ok-arguments.arguments; part = c.number_part.new.written; collected = c.in_ok-collected.collected; names = old.names; start = old.start } in
    let arguments = same_trees (map tree c.in_ok-arguments.arguments.items) (map tree old.arguments.items) (rw c.deref.ensures.value at c.in_ok-arguments.ensures.shape) in
    on_ok_weaker c.number_part.result (λ h. same_clause (clause_view old) (clause_view new) refl arguments c.in_ok-collected.ensures.shape h refl) c.number_part.ensures.shape

pub returns-clause-numbers : goal.returns-clause-numbers
returns-clause-numbers c =
    on_ok_weaker c.number_part.result (λ h. numbered_both (rw c.deref.ensures.value at c.in_ok-arguments.ensures.numbers) (numbered_both c.in_ok-collected.ensures.numbers h)) c.number_part.ensures.numbers
