use Rattle.std.proofs.Common.{[], map, sym, ◌∙◌}
use Rattle.akl_syntax.specs.Clauses.{query}
use Rattle.akl_syntax.specs.Goals.{Conj}
use Rattle.akl_syntax.specs.GoalView.{goal}
use Rattle.akl_syntax.proofs.ClauseTurns.{is_nil, not_nil, more_behind_goals}
use Rattle.akl_syntax.proofs.clause.query.Goals as given

pub returns-then-is_empty : given.returns-then-is_empty
returns-then-is_empty c =
    let x : Conj c.args.lexed.lexemes.items (map goal c.in_ok-goals.goals.items) [] =
    rw (c.as_slice-2.ensures.value, is_nil c.in_ok-goals.rest.now (sym c.is_empty.ensures ∙ c.if-is_empty.true)) at c.in_ok-goals.ensures.0 in query x

pub returns : given.returns
returns c =
    let x : Conj c.args.lexed.lexemes.items (map goal c.in_ok-goals.goals.items) c.in_ok-goals.rest.now = rw c.as_slice-2.ensures.value at c.in_ok-goals.ensures.0 in
    λ q h. more_behind_goals _ _ _ _ x c.in_ok-goals.ensures.1 (not_nil c.in_ok-goals.rest.now (sym c.is_empty.ensures ∙ c.if-is_empty.false)) q h
