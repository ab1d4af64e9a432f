use Rattle.std.proofs.Common.{◌≡◌, ◌<◌, ◌∷◌, ◌++◌, [], length, map, refl, sym, ap, ◌∙◌, arith, rules}
use Rattle.std.proofs.lemmas.Int.{to_z-of_z}
use mir.Val.{SFits}
use mir.Syntax.{w128}
use Rattle.std.proofs.lemmas.Bool.{eqb-true, eqb-false}
use Rattle.term_syntax.specs.declared.source.SourceStep.{SourceStep}
use Rattle.std.proofs.lemmas.Result.{err_from_is_err_and}
use Rattle.std.proofs.lemmas.List.{map_push, length-map}
use Rattle.term_syntax.specs.Grammar.{Expr, Operand, Primary, product, primary, variable_is, integer_is, atom, empty_list, whole_list, brackets, plain, call, closed, bar}
use Rattle.akl_lexemes.specs.Parsed.{anywhere}
use Rattle.term_syntax.specs.Ends.{ends_chain, ends_items, ends_operand}
use Rattle.term_syntax.specs.View.{tree, step}
use Rattle.term_syntax.specs.declared.level.Level.TheVariants.{Sum, Product}
use Rattle.akl_lexemes.proofs.Refusals.{refused, out_of_memory, a_fault, reads_as}
use Rattle.term_syntax.proofs.Unique.{expr_takes, operand_takes, items_takes, no_comma_stops}
use Rattle.term_syntax.proofs.Loops.{more_step, more_end, more_none, items_start, items_step, items_end, items_none}
use Rattle.term_syntax.proofs.Trees.{tree_step, tree_var, tree_int, tree_struct, tree_list, tree_chain}
use Rattle.term_syntax.proofs.Turns.{expr_no_operand, expr_no_more, not_closed, starts_no_call, arguments_no_items, arguments_not_closed, list_no_items, list_no_end, bar_not_closed, expr_alone, expr_chain, of_product, of_primary, items_no_first, run_ends, run_breaks}
use Rattle.term_syntax.proofs.terms.+terms.Goals as goal
use Rattle.term_syntax.proofs.terms.+terms.Goals.{more-in-Some+in_default-operator, more-in_default}

pub arguments-returns-in_default : goal.arguments-returns-in_default
arguments-returns-in_default t c = rw c.new.ensures.items (plain (starts_no_call _ c.in_default.ensures.none), refl)

pub arguments-returns-in_err-items : goal.arguments-returns-in_err-items
arguments-returns-in_err-items t c =
    let p = err_from_is_err_and c.from_residual.result c.from_residual.ensures.1 in
    rw (c.in-Some.ensures.some, p.1, p.2) (refused ends_items anywhere _ (arguments_no_items _) c.in_err-items.ensures)

pub arguments-returns-in_err-rest : goal.arguments-returns-in_err-rest
arguments-returns-in_err-rest t c =
    let p = err_from_is_err_and c.from_residual-in_err-rest.result c.from_residual-in_err-rest.ensures.1 in
    rw (c.in-Some.ensures.some, p.1, p.2) (a_fault anywhere _ _ c.in_err-rest.ensures.none (arguments_not_closed _ _ _ c.in_ok-items.ensures.0 c.in_ok-items.ensures.1 c.in_err-rest.ensures.err))

pub arguments-returns : goal.arguments-returns
arguments-returns t c = rw c.in-Some.ensures.some (call (rw c.in_ok-rest.ensures.ok at c.in_ok-items.ensures.0), refl)

pub expr-returns-in_err-first : goal.expr-returns-in_err-first
expr-returns-in_err-first t c =
    let p = err_from_is_err_and c.from_residual.result c.from_residual.ensures.1 in
    rw (p.1, p.2) (refused (ends_operand c.args.level) (ends_chain c.args.level) _ (expr_no_operand _ _) c.in_err-first.ensures)

pub expr-more-requires : goal.expr-more-requires
expr-more-requires t c = (omega (arith, operand_takes c.in_ok-first.ensures.0), c.in_ok-first.ensures.1)

pub expr-returns-in_err-steps : goal.expr-returns-in_err-steps
expr-returns-in_err-steps t c =
    let p = err_from_is_err_and c.from_residual-in_err-steps.result c.from_residual-in_err-steps.ensures.1 in
    rw (p.1, p.2) (refused (ends_chain c.args.level) (ends_chain c.args.level) _ (expr_no_more _ _ _ _ c.in_ok-first.ensures.0 c.in_ok-first.ensures.1) c.in_err-steps.ensures)

pub expr-returns-then-is_empty : goal.expr-returns-then-is_empty
expr-returns-then-is_empty t c =
    let e : length (map step c.in_ok-steps.steps.items) ≡ 0 = rw length-map (omega (arith, eqb-true _ _ (sym c.is_empty.ensures ∙ c.if-is_empty.true), c.in_ok-steps.steps.ok)) in
    (expr_alone c.in_ok-first.ensures.0 c.in_ok-steps.ensures.0 e, c.in_ok-steps.ensures.1)

pub expr-returns : goal.expr-returns
expr-returns t c =
    let e : 0 < length (map step c.in_ok-steps.steps.items) = rw length-map (omega (arith, eqb-false _ _ (sym c.is_empty.ensures ∙ c.if-is_empty.false), c.in_ok-steps.steps.ok)) in
    rw (tree_chain c.in_ok-first-2.first c.in_ok-steps.steps, c.in_ok-first-2.ensures.ok) (expr_chain c.in_ok-first.ensures.0 c.in_ok-steps.ensures.0 e, c.in_ok-steps.ensures.1)

pub list-returns-in_err-symbol : goal.list-returns-in_err-symbol
list-returns-in_err-symbol t c =
    let p = err_from_is_err_and c.from_residual.result c.from_residual.ensures.1 in
    rw (p.1) (out_of_memory anywhere _ _ p.2)

pub list-returns-in-Some : goal.list-returns-in-Some
list-returns-in-Some t c = rw (tree_struct c.in_ok-symbol.symbol c.new-arguments.result, c.in_ok-symbol.ensures, c.new-arguments.ensures.items, c.in-Some.ensures.some) (empty_list, refl)

pub list-returns-in_err-items : goal.list-returns-in_err-items
list-returns-in_err-items t c =
    let p = err_from_is_err_and c.from_residual-in_err-items.result c.from_residual-in_err-items.ensures.1 in
    rw (p.1, p.2) (refused ends_items anywhere _ (list_no_items _ c.in_default.ensures.none) c.in_err-items.ensures)

pub list-list_end-requires : goal.list-list_end-requires
list-list_end-requires t c = (omega (arith, items_takes c.in_ok-items.ensures.0), tt)

pub list-returns-in_err-tail : goal.list-returns-in_err-tail
list-returns-in_err-tail t c =
    let p = err_from_is_err_and c.from_residual-in_err-tail.result c.from_residual-in_err-tail.ensures.1 in
    rw (p.1, p.2) (refused anywhere anywhere _ (list_no_end _ _ _ c.in_default.ensures.none c.in_ok-items.ensures.0 c.in_ok-items.ensures.1) c.in_err-tail.ensures)

pub list-returns : goal.list-returns
list-returns t c = rw (tree_list c.in_ok-items.items c.in_ok-tail.tail) (whole_list c.in_ok-items.ensures.0 c.in_ok-tail.ensures.0, refl)

pub list_end-returns-in_err-rest : goal.list_end-returns-in_err-rest
list_end-returns-in_err-rest t c =
    let p = err_from_is_err_and c.from_residual-in_err-rest.result c.from_residual-in_err-rest.ensures.1 in
    rw (c.in-Some.ensures.some, p.1, p.2) (a_fault anywhere _ _ c.in_err-rest.ensures.none (bar_not_closed _ _ _ c.in_ok-tail.ensures.0 c.in_ok-tail.ensures.1 c.in_err-rest.ensures.err))

pub list_end-returns-in-Some : goal.list_end-returns-in-Some
list_end-returns-in-Some t c = rw (c.in_ok-tail-2.ensures.ok, c.in-Some.ensures.some) (bar (rw c.in_ok-rest.ensures.ok at c.in_ok-tail.ensures.0), refl)

pub list_end-returns : goal.list_end-returns
list_end-returns t c = rw c.in_ok-rest-2.ensures.ok (closed, refl)

pub more-returns-in_err-symbol : goal.more-returns-in_err-symbol
more-returns-in_err-symbol t c =
    let p = err_from_is_err_and c.from_residual.result c.from_residual.ensures.1 in
    rw (p.1) (out_of_memory (ends_chain c.args.level) _ _ p.2)

pub more-returns-in_err-right : goal.more-returns-in_err-right
more-returns-in_err-right t c =
    let p = err_from_is_err_and c.from_residual-in_err-right.result c.from_residual-in_err-right.ensures.1 in
    rw (p.1, p.2) (refused (ends_operand c.args.level) (ends_chain c.args.level) _ (more_none (rw c.in-Some.ensures.some at c.loop-first.invariant) (sym c.in-Some-operator.ensures)) c.in_err-right.ensures)

pub more-loop-first-smaller : goal.more-loop-first-smaller
more-loop-first-smaller t c = omega (arith, operand_takes c.in_ok-right.ensures.0, ap length c.in-Some.ensures.some)

pub more-loop-first-preserved : goal.more-loop-first-preserved
more-loop-first-preserved t c =
    let w : SourceStep = record { symbol = c.in_ok-symbol.symbol; right = c.in_ok-right.right } in
    let e : map step c.push.new.self.items ≡ map step c.loop-first.steps.items ++ record { symbol = c.in-Some-operator.symbol.now; right = tree c.in_ok-right.right } ∷ [] =
    rw (c.in_ok-push.ensures.items, map_push step c.loop-first.steps.items w, tree_step w, c.in_ok-symbol.ensures) refl in
    rw e (more_step (rw c.in-Some.ensures.some at c.loop-first.invariant) (sym c.in-Some-operator.ensures) c.in_ok-right.ensures.0 c.in_ok-right.ensures.1)

pub more-returns : goal.more-returns
more-returns t c = (
  more_end c.loop-first.invariant,
  elim c.match-front.branch [
    | more-in-Some+in_default-operator w ↦ run_breaks _ _ _ _ c.loop-first.invariant.edge w.in-Some.ensures.some (sym w.in_default-operator.ensures)
    | more-in_default w ↦ run_ends _ _ c.loop-first.invariant.edge w.in_default.ensures.none
  ],
)

pub operand-returns-in-Sum : goal.operand-returns-in-Sum
operand-returns-in-Sum t c = rw c.in-Sum.is (reads_as _ (Expr Product c.args.lexemes.now) (Operand Sum c.args.lexemes.now) (ends_chain Product) c.expr.result (λ x b p. product p) (λ x b p s. of_product _ x b p) c.expr.ensures)

pub operand-returns-in-Product : goal.operand-returns-in-Product
operand-returns-in-Product t c = rw c.in-Product.is (reads_as _ (Primary c.args.lexemes.now) (Operand Product c.args.lexemes.now) anywhere c.primary.result (λ x b p. primary p) (λ x b p s. of_primary _ x b p) c.primary.ensures)

pub primary-returns-in_err-symbol-in-Symbol : goal.primary-returns-in_err-symbol-in-Symbol
primary-returns-in_err-symbol-in-Symbol t c =
    let p = err_from_is_err_and c.from_residual.result c.from_residual.ensures.1 in
    rw (p.1) (out_of_memory anywhere _ _ p.2)

pub primary-returns-in-Variable : goal.primary-returns-in-Variable
primary-returns-in-Variable t c = rw (tree_var c.in-Variable.number, c.in-Some.ensures.some, c.in-Variable.is) (variable_is, refl)

pub primary-returns-in-Integer : goal.primary-returns-in-Integer
primary-returns-in-Integer t c =
    let f : SFits w128 c.in-Integer.value = search rules in
    rw (to_z-of_z w128 c.in-Integer.value f, tree_int c.in-Integer.value, c.in-Some.ensures.some, c.in-Integer.is) (integer_is, refl)

pub primary-returns-in_ok-arguments-in-Symbol : goal.primary-returns-in_ok-arguments-in-Symbol
primary-returns-in_ok-arguments-in-Symbol t c = rw (tree_struct c.in_ok-symbol-in-Symbol.symbol c.in_ok-arguments-in-Symbol.arguments, c.in-Some.ensures.some, c.in-Symbol.is, c.in_ok-symbol-in-Symbol.ensures) (atom c.in_ok-arguments-in-Symbol.ensures.0, refl)

pub some_items-returns-in_err-first : goal.some_items-returns-in_err-first
some_items-returns-in_err-first t c =
    let p = err_from_is_err_and c.from_residual.result c.from_residual.ensures.1 in
    rw (p.1, p.2) (refused (ends_chain Sum) ends_items _ (items_no_first _) c.in_err-first.ensures)

pub some_items-loop-after-init : goal.some_items-loop-after-init
some_items-loop-after-init t c =
    let e : map tree c.push.new.self.items ≡ tree c.in_ok-first.first ∷ [] = rw (c.in_ok-push.ensures.items, c.new-found.ensures.items) refl in
    rw e (items_start c.in_ok-first.ensures.0 c.in_ok-first.ensures.1)

pub some_items-returns-in_err-next : goal.some_items-returns-in_err-next
some_items-returns-in_err-next t c =
    let p = err_from_is_err_and c.from_residual-in_err-next.result c.from_residual-in_err-next.ensures.1 in
    rw (p.1, p.2) (refused (ends_chain Sum) ends_items _ (items_none (rw c.in-Some.ensures.some at c.loop-after.invariant)) c.in_err-next.ensures)

pub some_items-loop-after-smaller : goal.some_items-loop-after-smaller
some_items-loop-after-smaller t c = omega (arith, expr_takes c.in_ok-next.ensures.0, ap length c.in-Some.ensures.some)

pub some_items-loop-after-preserved : goal.some_items-loop-after-preserved
some_items-loop-after-preserved t c =
    let e : map tree c.push-in-Some.new.self.items ≡ map tree c.loop-after.found.items ++ tree c.in_ok-next.next ∷ [] = rw c.in_ok-push-2.ensures.items (map_push _ c.loop-after.found.items c.in_ok-next.next) in
    rw e (items_step (rw c.in-Some.ensures.some at c.loop-after.invariant) c.in_ok-next.ensures.0 c.in_ok-next.ensures.1)

pub some_items-returns : goal.some_items-returns
some_items-returns t c = (items_end c.loop-after.invariant, no_comma_stops _ c.in_default.ensures.none c.loop-after.invariant.edge)

pub opened-returns-in_err-rest-in-Open : goal.opened-returns-in_err-rest-in-Open
opened-returns-in_err-rest-in-Open t c =
    let p = err_from_is_err_and c.from_residual-in_err-rest-in-Open.result c.from_residual-in_err-rest-in-Open.ensures.1 in
    rw (c.in-Open.is, p.1, p.2) (a_fault anywhere _ _ c.in_err-rest-in-Open.ensures.none (not_closed _ _ _ c.in_ok-inner-in-Open.ensures.0 c.in_ok-inner-in-Open.ensures.1 c.in_err-rest-in-Open.ensures.err))

pub opened-returns-in_ok-rest-in-Open : goal.opened-returns-in_ok-rest-in-Open
opened-returns-in_ok-rest-in-Open t c = rw c.in-Open.is (brackets (rw c.in_ok-rest-in-Open.ensures.ok at c.in_ok-inner-in-Open.ensures.0), refl)
