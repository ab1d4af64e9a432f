use Rattle.std.proofs.Common.{[], sym, ◌∙◌}
use Rattle.akl_syntax.specs.Clauses.{neck}
use Rattle.akl_syntax.specs.Goals.{PartIs}
use Rattle.akl_syntax.specs.PartView.{part_of}
use Rattle.akl_syntax.proofs.ClauseTurns.{is_nil, not_nil, not_ended}
use Rattle.akl_syntax.proofs.clause.clause_part.Goals as goal

pub returns-then-is_empty : goal.returns-then-is_empty
returns-then-is_empty c =
    let x : PartIs c.in-Some.rest.now (part_of c.in_ok-found.found) [] = rw (is_nil c.in_ok-found.rest.now (sym c.is_empty.ensures ∙ c.if-is_empty.true)) at c.in_ok-found.ensures.0 in
    rw c.in-Some.ensures.some (neck x)

pub returns : goal.returns
returns c =
    rw c.in-Some.ensures.some (λ y h. not_ended _ _ _ y c.in_ok-found.ensures.0 c.in_ok-found.ensures.1 (not_nil c.in_ok-found.rest.now (sym c.is_empty.ensures ∙ c.if-is_empty.false)) h)
