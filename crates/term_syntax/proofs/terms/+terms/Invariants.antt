use Rattle.std.proofs.Common.{ℕ, length, map, ◌+◌, ◌*◌}
use Rattle.term_syntax.specs.View.{tree, step}
use Rattle.term_syntax.specs.declared.level.Level.{Level}
use Rattle.term_syntax.specs.declared.level.Level.TheVariants.{Sum, Product}
use Rattle.term_syntax.proofs.Loops.{MoreSoFar, ItemsSoFar}
use Rattle.term_syntax.proofs.terms.+terms.Given as goal

-- a sum calls for its products, and these for their primaries
abbrev pub rank : Level → ℕ
rank Sum = 2
rank Product = 0

abbrev pub decreases-arguments : goal.decreases-arguments
decreases-arguments l = 10 * length l.lexemes.now

abbrev pub decreases-expr : goal.decreases-expr
decreases-expr l = 10 * length l.lexemes.now + 3 + rank l.level

abbrev pub decreases-list : goal.decreases-list
decreases-list l = 10 * length l.lexemes.now + 7

abbrev pub decreases-list_end : goal.decreases-list_end
decreases-list_end l = 10 * length l.lexemes.now

abbrev pub decreases-more : goal.decreases-more
decreases-more l = 10 * length l.lexemes.now

abbrev pub decreases-operand : goal.decreases-operand
decreases-operand l = 10 * length l.lexemes.now + 2 + rank l.level

abbrev pub decreases-primary : goal.decreases-primary
decreases-primary l = 10 * length l.lexemes.now + 1

abbrev pub decreases-some_items : goal.decreases-some_items
decreases-some_items l = 10 * length l.lexemes.now + 6

abbrev pub invariant-more-loop-first : goal.invariant-more-loop-first
invariant-more-loop-first l = MoreSoFar l.level l.fn.lexemes (map step l.steps.items) l.rest

abbrev pub decreases-more-loop-first : goal.decreases-more-loop-first
decreases-more-loop-first l = length l.rest

abbrev pub invariant-some_items-loop-after : goal.invariant-some_items-loop-after
invariant-some_items-loop-after l = ItemsSoFar l.fn.lexemes (map tree l.found.items) l.rest

abbrev pub decreases-some_items-loop-after : goal.decreases-some_items-loop-after
decreases-some_items-loop-after l = length l.rest

abbrev pub decreases-opened : goal.decreases-opened
decreases-opened l = 10 * length l.lexemes.now + 8
