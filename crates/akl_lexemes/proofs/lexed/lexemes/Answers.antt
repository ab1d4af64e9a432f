use Rattle.akl_lexemes.proofs.LexemeTurns.{lexed_step, lexed_all}
use Rattle.akl_lexemes.proofs.lexed.lexemes.Goals as goal

pub loop-token-preserved : goal.loop-token-preserved
loop-token-preserved c =
    rw c.in_ok-push.ensures.items (lexed_step (rw c.in-Some.ensures.some at c.loop-token.invariant) c.in_ok-found.ensures.lexeme c.in_ok-found.ensures.in_range c.in_ok-found.ensures.more)

pub returns-clause-lexemes : goal.returns-clause-lexemes
returns-clause-lexemes c = rw c.into_names.ensures (lexed_all c.loop-token.invariant c.in_default.ensures.none)
