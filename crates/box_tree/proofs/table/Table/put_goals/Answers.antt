use Rattle.std.proofs.Common.{Some, subst}
use Rattle.table_laws.specs.Writes.{set}
use Rattle.box_tree.specs.declared.entries.Held.{Held}
use Rattle.box_tree.specs.Tables.{table_of, goal_row}
use Rattle.box_tree.specs.Edits.{SetsGoals}
use Rattle.box_tree.proofs.News.{goals_begin, goals_step, goals_only}
use Rattle.box_tree.proofs.table.Table.put_goals.Goals as goal

pub loop-name-init : goal.loop-name-init
loop-name-init g c = goals_begin g.T.IntoHeld.held c.args.self.now c.args.home c.args.number c.args.goals.items

pub loop-name-preserved : goal.loop-name-preserved
loop-name-preserved g c = goals_step g.T.IntoHeld.held c.args.self.now c.loop-name.self c.put_goal.new.self c.args.home c.args.number c.args.goals.items c.loop-name.left.items c.pop.new.self.items (c.in-Some.name, c.in-Some.goal) c.loop-name.invariant c.in-Some.ensures.items
    (subst (λ (h : Held). SetsGoals c.loop-name.self c.put_goal.new.self (set c.in-Some.name (Some (goal_row c.loop-name.self.program.templates.nodes (record { home = c.args.home; held = h; changed = c.args.number }))) (table_of c.loop-name.self).goal_of))
    c.into_held.ensures c.in_ok-put_goal.ensures.put) c.in_ok-put_goal.ensures.only

pub returns-in_err-put_goal-clause-only : goal.returns-in_err-put_goal-clause-only
returns-in_err-put_goal-clause-only g c = goals_only g.T.IntoHeld.held c.args.self.now c.loop-name.self c.put_goal.new.self c.args.home c.args.number c.args.goals.items c.loop-name.left.items c.pop.new.self.items (c.in-Some.name, c.in-Some.goal) c.loop-name.invariant c.in-Some.ensures.items
    c.in_err-put_goal.ensures.only
