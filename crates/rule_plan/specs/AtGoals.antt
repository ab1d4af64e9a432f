-- What is planned at a goal.
use Rattle.std.specs.Prelude.{◌≡◌, ℕ, List, [], ◌∷◌, None}
use Rattle.akl_terms.specs.declared.name.Name.{Name}
use Rattle.akl_terms.specs.declared.name.Var.{Var}
use Rattle.akl_terms.specs.declared.term.Equation as code
use Rattle.akl_model.specs.declared.item.Item.{Item}
use Rattle.akl_model.specs.declared.label.Rule.{Rule}
use Rattle.akl_model.specs.declared.label.Label.{Label}
use Rattle.local_store.specs.declared.telling.ToldPart.{ToldPart}
use Rattle.local_store.specs.Parts.{told_over}
use Rattle.local_store.specs.Chained.{innermost}
use Rattle.local_store.specs.Telling.{AnswersTold}
use Rattle.class_members.specs.Members.{AreMembers}
use Rattle.box_tree.specs.declared.step.Step.{Step}
use Rattle.box_tree.specs.Views.{ViewValue}
use Rattle.box_tree.specs.Plans.{PlanValue, IsRightLabel}
use Rattle.guard_plan.specs.ReadAt.{IsReadAt}

-- the label of a rule at the place of a view, by its worker
abbrev pub label_at : ViewValue → Rule → Label
label_at v rule = record { rule = rule; place = v.place; alternative = None; worker = v.worker }

-- the plan of a rule at a goal, with what it read
abbrev pub plan_at : ViewValue → Rule → ℕ → Step → List Var → List Item → PlanValue
plan_at v rule names step binds reads = record { table = v.table; journal = v.journal; label = label_at v rule; more = []; reads = reads; names = names; step = step; binds = binds }

-- such a plan that binds these variables is right, with all that is enough to have been read
abbrev pub IsRightAt : ViewValue → Rule → Name → ℕ → Step → List Var → Type 0
IsRightAt v rule goal names step binds = (reads : List Item) → IsReadAt v goal binds reads → IsRightLabel (plan_at v rule names step binds reads)

-- the plan of a rule by which this is added to the box's store is right, with enough members of what is bound
abbrev pub IsToldRightly : ViewValue → Rule → Name → ℕ → ToldPart → Type 0
IsToldRightly v rule goal names t = (binds : List Var) → AreMembers v.table.program.templates.nodes v.stores t.bound.items binds → IsRightAt v rule goal names (Step.Tell t.part t.solved) binds

-- the plan of a rule that tells this equation is right, with all that is added where it is told and enough members of what that binds
abbrev pub TellsRightly : ViewValue → Rule → Name → code.Equation → Type 0
TellsRightly v rule goal e = (t : ToldPart) → AnswersTold v.table.program.templates.nodes v.stores v.known (e ∷ []) (told_over (innermost v.stores) t) → t.part.frames.items ≡ [] → IsToldRightly v rule goal 0 t
