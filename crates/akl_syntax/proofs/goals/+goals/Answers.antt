use Rattle.std.proofs.Common.{◌≡◌, ◌∷◌, ◌++◌, [], length, map, refl, sym, ap, ◌∙◌, arith}
use Rattle.std.proofs.lemmas.Result.{err_from_is_err_and}
use Rattle.std.proofs.lemmas.List.{map_push, map-append}
use Rattle.akl_text.specs.declared.token.Kind.TheVariants.{Close, Comma, Semicolon}
use Rattle.akl_lexemes.specs.declared.lexeme.Lexeme.TheVariants as lexemes
use Rattle.akl_syntax.specs.Goals.{PartIs, no_parts_more, written}
use Rattle.akl_syntax.specs.Goals as made
use Rattle.akl_syntax.specs.GoalView.{goal, part}
use Rattle.akl_syntax.specs.PartView.{part_of}
use Rattle.akl_lexemes.specs.Parsed.{anywhere}
use Rattle.akl_syntax.specs.Parts.{Alternatives, body_of, parts_of}
use Rattle.akl_syntax.specs.Ends.{ends_goal, ends_conj, ends_part, ends_parts}
use Rattle.akl_syntax.proofs.OneGoal.{goal_takes, conj_takes, part_takes}
use Rattle.akl_lexemes.proofs.Refusals.{refused, a_fault}
use Rattle.akl_syntax.proofs.PartTurns.{goal_choice, goals_start, goals_step, goals_end, goals_none, no_first_goal, no_comma_ends, guard_takes, no_guard_ends, part_behind_guard, part_no_conj, part_behind_goals, no_body, second_guard, seen_guard, unseen_guard, parts_start, parts_step, parts_all, parts_none, no_semicolon_ends, no_part, bracket_edge, choice_edge, no_alternatives, not_closed_parts, choice_read, goals_read}
use Rattle.akl_syntax.proofs.TestGoals.{goal_edge}
use Rattle.akl_syntax.proofs.CollectTurns.{goal_collect, ended_takes, table_ended, no_term, no_goals, no_comma, no_result, joined_result, goal_collects}
use Rattle.akl_syntax.proofs.Tables.{table_conj, table_part, table_alternatives, table_guard}
use Rattle.akl_lexemes.proofs.BracketTable.{table_behind}
use Rattle.akl_syntax.proofs.goals.+goals.Goals as given

pub alternatives-loop-after-init : given.alternatives-loop-after-init
alternatives-loop-after-init t c =
    let e : map part c.push.new.self.items ≡ part c.args.first ∷ [] = rw (c.in_ok-push.ensures.items, c.new-parts.ensures.items) refl in
    rw e (parts_start _ _ c.requires.edge)

pub alternatives-returns-in_err-next : given.alternatives-returns-in_err-next
alternatives-returns-in_err-next t c =
    let p = err_from_is_err_and c.from_residual-in_err-next.result c.from_residual-in_err-next.ensures.1 in
    rw (p.1, p.2) (refused ends_part ends_parts _ (parts_none (rw c.in-Some.ensures.some at c.loop-after.invariant)) c.in_err-next.ensures)

pub alternatives-loop-after-smaller : given.alternatives-loop-after-smaller
alternatives-loop-after-smaller t c = omega (arith, part_takes c.in_ok-next.ensures.0, ap length c.in-Some.ensures.some)

pub alternatives-loop-after-preserved : given.alternatives-loop-after-preserved
alternatives-loop-after-preserved t c =
    let e : map part c.push-in-Some.new.self.items ≡ map part c.loop-after.parts.items ++ written (part_of c.in_ok-next.next) ∷ [] =
    rw (c.in_ok-push-2.ensures.items, map_push part c.loop-after.parts.items c.into_source.result, c.into_source.ensures) refl in
    rw e (parts_step (rw c.in-Some.ensures.some at c.loop-after.invariant) c.in_ok-next.ensures.0 c.in_ok-next.ensures.1)

pub alternatives-returns : given.alternatives-returns
alternatives-returns t c = (parts_all c.loop-after.invariant, no_semicolon_ends _ c.in_default.ensures.none c.loop-after.invariant.edge)

pub bracketed-returns-in_err-first : given.bracketed-returns-in_err-first
bracketed-returns-in_err-first t c =
    let p = err_from_is_err_and c.from_residual.result c.from_residual.ensures.1 in
    rw (p.1, p.2) (refused ends_part ends_goal _ (no_part _ c.requires.goals) c.in_err-first.ensures)

pub bracketed-returns-in-Some : given.bracketed-returns-in-Some
bracketed-returns-in-Some t c =
    let x : PartIs c.args.lexemes.now (part_of c.in_ok-first.first) (lexemes.Mark Close ∷ c.in-Some.rest.now) = rw c.in-Some.ensures.closed at c.in_ok-first.ensures.0 in
    (goals_read _ _ (part_of c.in_ok-first.first) x c.in-Some.ensures.plain, bracket_edge _ c.requires.goals _ _ _ _ x no_parts_more)

pub bracketed-alternatives-requires : given.bracketed-alternatives-requires
bracketed-alternatives-requires t c = (omega (arith, part_takes c.in_ok-first.ensures.0), (table_part c.args.brackets.now c.in_ok-first.ensures.0 c.requires.table, c.in_ok-first.ensures.1))

pub bracketed-returns-in_err-parts : given.bracketed-returns-in_err-parts
bracketed-returns-in_err-parts t c =
    let p = err_from_is_err_and c.from_residual-in_err-parts.result c.from_residual-in_err-parts.ensures.1 in
    rw (p.1, p.2) (refused ends_parts ends_goal _ (no_alternatives _ c.requires.goals _ _ c.in_ok-first.ensures.0 c.in_ok-first.ensures.1) (rw c.into_source.ensures at c.in_err-parts.ensures))

pub bracketed-returns-in_err-rest : given.bracketed-returns-in_err-rest
bracketed-returns-in_err-rest t c =
    let p = err_from_is_err_and c.from_residual-in_err-rest.result c.from_residual-in_err-rest.ensures.1 in
    rw (p.1, p.2)
    (a_fault ends_goal _ _ c.in_err-rest.ensures.none
    (not_closed_parts _ c.requires.goals _ _ _ _ c.in_ok-first.ensures.0 c.in_ok-first.ensures.1 (rw c.into_source.ensures at c.in_ok-parts.ensures.0) c.in_ok-parts.ensures.1 c.in_err-rest.ensures.err))

pub bracketed-returns : given.bracketed-returns
bracketed-returns t c =
    let y : Alternatives (written (part_of c.in_ok-first.first)) c.in_ok-first.rest.now (map part c.in_ok-parts.parts.items) (lexemes.Mark Close ∷ c.in_ok-rest.rest.now) =
    rw c.in_ok-rest.ensures.ok at (rw c.into_source.ensures at c.in_ok-parts.ensures.0) in
    rw (c.in_ok-found.ensures, goal_choice c.in_ok-parts.parts)
    (choice_read _ _ _ (part_of c.in_ok-first.first) _ c.in_ok-first.ensures.0 y c.in_default.ensures.none, choice_edge _ c.requires.goals _ _ _ _ _ c.in_ok-first.ensures.0 y)

pub conj-returns-in_err-goals : given.conj-returns-in_err-goals
conj-returns-in_err-goals t c =
    let p = err_from_is_err_and c.from_residual.result c.from_residual.ensures.1 in
    rw (p.1, p.2) (refused ends_goal ends_conj _ (no_first_goal _) c.in_err-goals.ensures)

pub conj-loop-after-init : given.conj-loop-after-init
conj-loop-after-init t c = goals_start c.in_ok-goals.ensures.0 c.in_ok-goals.ensures.1

pub conj-returns-in_err-next : given.conj-returns-in_err-next
conj-returns-in_err-next t c =
    let p = err_from_is_err_and c.from_residual-in_err-next.result c.from_residual-in_err-next.ensures.1 in
    rw (p.1, p.2) (refused ends_goal ends_conj _ (goals_none (rw c.in-Some.ensures.some at c.loop-after.invariant)) c.in_err-next.ensures)

pub conj-loop-after-smaller : given.conj-loop-after-smaller
conj-loop-after-smaller t c = omega (arith, goal_takes c.in_ok-next.ensures.0, ap length c.in-Some.ensures.some)

pub conj-loop-after-preserved : given.conj-loop-after-preserved
conj-loop-after-preserved t c =
    let e : map goal c.append.new.self.items ≡ map goal c.loop-after.goals.items ++ map goal c.in_ok-next.next.items = rw (c.in_ok-append.ensures.items, map-append) refl in
    rw e (goals_step (rw c.in-Some.ensures.some at c.loop-after.invariant) c.in_ok-next.ensures.0 c.in_ok-next.ensures.1)

pub conj-returns : given.conj-returns
conj-returns t c = (goals_end c.loop-after.invariant, no_comma_ends _ c.in_default.ensures.none c.loop-after.invariant.edge)

pub guarded-returns-in_err-body : given.guarded-returns-in_err-body
guarded-returns-in_err-body t c =
    let p = err_from_is_err_and c.from_residual.result c.from_residual.ensures.1 in
    rw (p.1, p.2) (refused ends_conj ends_part _ (no_body _ _ _) c.in_err-body.ensures)

pub guarded-returns-then-is_some : given.guarded-returns-then-is_some
guarded-returns-then-is_some t c =
    second_guard _ _ _ _ _ c.in_ok-body.ensures.0 c.in_ok-body.ensures.1 (seen_guard _ c.guard_front.result _ c.guard_front.ensures (sym c.is_some.ensures ∙ c.if-is_some.true))

pub guarded-returns : given.guarded-returns
guarded-returns t c =
    (body_of c.in_ok-body.ensures.0, no_guard_ends _ (unseen_guard _ c.guard_front.result _ c.guard_front.ensures (sym c.is_some.ensures ∙ c.if-is_some.false)) c.in_ok-body.ensures.1)

pub part-returns-in-Some : given.part-returns-in-Some
part-returns-in-Some t c = part_behind_guard _ c.guarded.result _ _ _ (sym c.in-Some.ensures) (rw c.new.ensures.items at c.guarded.ensures)

pub part-returns-in_err-goals : given.part-returns-in_err-goals
part-returns-in_err-goals t c =
    let p = err_from_is_err_and c.from_residual.result c.from_residual.ensures.1 in
    rw (p.1, p.2) (refused ends_conj ends_part _ (part_no_conj _ (sym c.in_default.ensures)) c.in_err-goals.ensures)

pub part-guarded-requires-in-Some-guard_front : given.part-guarded-requires-in-Some-guard_front
part-guarded-requires-in-Some-guard_front t c =
    let told = table_conj c.args.brackets.now c.in_ok-goals.ensures.0 c.requires in
    (omega (arith, conj_takes c.in_ok-goals.ensures.0, guard_takes _ _ _ (sym c.in-Some-guard_front.ensures)), table_guard c.args.brackets.now _ _ _ (sym c.in-Some-guard_front.ensures) told)

pub part-returns-in-Some-guard_front : given.part-returns-in-Some-guard_front
part-returns-in-Some-guard_front t c =
    part_behind_goals _ c.guarded-in-Some-guard_front.result _ _ _ _ _ (sym c.in_default.ensures) c.in_ok-goals.ensures.0 (sym c.in-Some-guard_front.ensures) c.guarded-in-Some-guard_front.ensures

pub part-returns : given.part-returns
part-returns t c = rw c.new-2.ensures.items (made.plain c.in_ok-goals.ensures.0, no_guard_ends _ (sym c.in_default-guard_front.ensures) c.in_ok-goals.ensures.1)

pub alternatives-part-requires : given.alternatives-part-requires
alternatives-part-requires t c =
    let told = table_alternatives c.args.brackets.now (parts_all c.loop-after.invariant) c.requires.table in
    (omega (arith, c.loop-after.invariant.within, ap length c.in-Some.ensures.some), table_behind c.args.brackets.now (lexemes.Mark Semicolon) _ (rw c.in-Some.ensures.some at told))

pub conj-goal-requires-in-Some : given.conj-goal-requires-in-Some
conj-goal-requires-in-Some t c =
    let told = table_conj c.args.brackets.now (goals_end c.loop-after.invariant) c.requires in
    (omega (arith, c.loop-after.invariant.within, ap length c.in-Some.ensures.some), table_behind c.args.brackets.now (lexemes.Mark Comma) _ (rw c.in-Some.ensures.some at told))

pub goal-returns-in-Some : given.goal-returns-in-Some
goal-returns-in-Some t c = goal_collects _ c.collected.result _ _ c.in-Some.ensures.some c.collected.ensures

pub collected-goal-requires : given.collected-goal-requires
collected-goal-requires t c = (omega (arith, ended_takes c.in_ok-collected.ensures.0), table_ended c.args.brackets.now c.in_ok-collected.ensures.0 c.requires)

pub collected-returns-in_err-collected : given.collected-returns-in_err-collected
collected-returns-in_err-collected t c =
    let p = err_from_is_err_and c.from_residual.result c.from_residual.ensures.1 in
    rw (p.1, p.2) (refused anywhere ends_goal _ (no_term _) c.in_err-collected.ensures)

pub collected-returns-in_err-goals : given.collected-returns-in_err-goals
collected-returns-in_err-goals t c =
    let p = err_from_is_err_and c.from_residual-in_err-goals.result c.from_residual-in_err-goals.ensures.1 in
    rw (p.1, p.2) (refused ends_goal ends_goal _ (no_goals _ _ _ c.in_ok-collected.ensures.0) c.in_err-goals.ensures)

pub collected-returns-in_err-rest : given.collected-returns-in_err-rest
collected-returns-in_err-rest t c =
    let p = err_from_is_err_and c.from_residual-in_err-rest.result c.from_residual-in_err-rest.ensures.1 in
    rw (p.1, p.2) (a_fault ends_goal _ _ c.in_err-rest.ensures.none (no_comma _ _ _ c.in_ok-collected.ensures.0 _ _ c.in_ok-goals.ensures.0 c.in_ok-goals.ensures.1 c.in_err-rest.ensures.err))

pub collected-returns-in_err-result : given.collected-returns-in_err-result
collected-returns-in_err-result t c =
    let p = err_from_is_err_and c.from_residual-in_err-result.result c.from_residual-in_err-result.ensures.1 in
    rw (p.1, p.2) (refused anywhere ends_goal _ (no_result _ _ _ c.in_ok-collected.ensures.0 _ _ (rw c.in_ok-rest.ensures.ok at c.in_ok-goals.ensures.0)) c.in_err-result.ensures)

pub collected-returns-then-joined : given.collected-returns-then-joined
collected-returns-then-joined t c =
    joined_result _ _ _ c.in_ok-collected.ensures.0 _ _ (rw c.in_ok-rest.ensures.ok at c.in_ok-goals.ensures.0) _ _ c.in_ok-result.ensures.0 (sym c.joined.ensures ∙ c.if-joined.true)

pub collected-returns : given.collected-returns
collected-returns t c =
    rw (c.in_ok-found.ensures, goal_collect c.in_ok-collected.collected c.in_ok-result.result c.in_ok-goals.goals)
    (parts_of c.in_ok-collected.ensures.0 (rw c.in_ok-rest.ensures.ok at c.in_ok-goals.ensures.0) c.in_ok-result.ensures.0, goal_edge _ (sym c.joined.ensures ∙ c.if-joined.false))
