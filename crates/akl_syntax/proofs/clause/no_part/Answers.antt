use Rattle.std.proofs.Common.{sym, ◌∙◌}
use Rattle.akl_syntax.specs.Clauses.{no_neck}
use Rattle.akl_syntax.proofs.ClauseTurns.{is_nil}
use Rattle.akl_syntax.proofs.clause.no_part.Goals as goal

pub returns-then-is_empty : goal.returns-then-is_empty
returns-then-is_empty c = rw (is_nil c.args.lexemes.now (sym c.is_empty.ensures ∙ c.if-is_empty.true), c.new.ensures.items, c.new-then-is_empty.ensures.items) no_neck
