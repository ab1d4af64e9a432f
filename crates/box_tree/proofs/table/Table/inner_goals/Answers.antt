use Rattle.std.proofs.Common.{◌++◌, List, [], ◌∷◌, map, sym, ap, subst, ◌∙◌, append_assoc}
use Rattle.std.specs.List.{AllByRecursion}
use Rattle.akl_terms.specs.declared.name.Name.{Name}
use Rattle.box_tree.specs.declared.inside.InnerGoal.{InnerGoal}
use Rattle.box_tree.specs.Insides.{IsInnerGoal}
use Rattle.box_tree.proofs.Within.{all_end, map_end}
use Rattle.box_tree.proofs.table.Table.inner_goals.Goals as goal

pub loop-goal-preserved : goal.loop-goal-preserved
loop-goal-preserved c =
    let old : List InnerGoal = c.loop-goal.inner.items in
    let x : InnerGoal = c.in_ok-found.found in
    let rest : List Name = c.next.new.self in (
      ap (λ (gs : List InnerGoal). map (λ (g : InnerGoal). g.name) gs ++ rest) c.in_ok-push.ensures.items
          ∙ ap (λ (ns : List Name). ns ++ rest) (map_end (λ (g : InnerGoal). g.name) old x ∙ ap (λ (n : Name). map (λ (g : InnerGoal). g.name) old ++ n ∷ []) c.in_ok-found.ensures.name)
          ∙ append_assoc (map (λ (g : InnerGoal). g.name) old) (c.in-Some.goal.now ∷ []) rest
          ∙ ap (λ (ns : List Name). map (λ (g : InnerGoal). g.name) old ++ ns) (sym c.in-Some.ensures.steps) ∙ c.loop-goal.invariant.0,
      subst (AllByRecursion (IsInnerGoal c.args.self.now)) (sym c.in_ok-push.ensures.items) (all_end (IsInnerGoal c.args.self.now) old x c.loop-goal.invariant.1 c.in_ok-found.ensures.held),
    )
