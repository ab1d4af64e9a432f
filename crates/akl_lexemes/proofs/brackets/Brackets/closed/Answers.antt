use Rattle.akl_lexemes.proofs.BracketTable.{closed_within, closed_is}
use Rattle.akl_lexemes.proofs.brackets.Brackets.closed.Goals as goal

pub overflow_sub-result : goal.overflow_sub-result
overflow_sub-result c = closed_within c.args.self.now c.args.lexemes.now c.entry-behind.result c.requires (rw (c.as_slice.ensures.value, c.self.view_is) at c.entry-behind.ensures)

pub returns : goal.returns
returns c = closed_is c.args.self.now c.args.lexemes.now c.entry-behind.result c.requires (rw (c.as_slice.ensures.value, c.self.view_is) at c.entry-behind.ensures)
