-- A plan that is made of a view.
use Rattle.std.proofs.Common.{◌≡◌, ℕ, List, [], ◌∷◌, inl, inr, Option, refl, sym, ◌∙◌, ap, subst}
use Rattle.akl_terms.specs.declared.name.Name.{Name}
use Rattle.akl_terms.specs.declared.name.Var.{Var}
use Rattle.akl_terms.specs.declared.name.Place.{Place}
use Rattle.akl_model.specs.declared.item.Item.{Item}
use Rattle.akl_model.specs.declared.label.Rule.{Rule}
use Rattle.akl_model.specs.declared.label.Label.{Label}
use Rattle.box_tree.specs.declared.step.Step.{Step}
use Rattle.box_tree.specs.Views.{ViewValue}
use Rattle.box_tree.specs.Plans.{PlanValue, IsRead, IsRight}
use Rattle.guard_plan.specs.ReadAt.{IsOf, MayRead, PlanMayRead}
use Rattle.guard_plan.specs.Planned.{IsPlanOf}
use Rattle.guard_plan.specs.Solved.{SaysSolved}

-- at a goal
pub may_at : (v : ViewValue) (g : Name) → v.place ≡ Place.Goal g → (binds : List Var) (reads : List Item) → ((j : Item) → IsRead reads j → IsOf v g binds j) → (j : Item) → IsRead reads j → PlanMayRead v binds j
may_at v g e binds reads h j r = subst (λ (q : Place). MayRead v q binds j) (sym e) (h j r)

-- which is all that is read
pub may_goal : (v : ViewValue) (g : Name) → v.place ≡ Place.Goal g → (binds : List Var) (reads : List Item) → reads ≡ Item.Goal g ∷ [] → (j : Item) → IsRead reads j → PlanMayRead v binds j
may_goal v g e binds reads is = may_at v g e binds reads (λ j r. elim (subst (λ (l : List Item). IsRead l j) is r) [ inl q ↦ inl q | inr z ↦ absurd z ])

pub plan_of : (v : ViewValue) (p : PlanValue) (label : Label) (reads : List Item) (names : ℕ) (step : Step) (binds : List Var) → IsRight p → ((j : Item) → IsRead reads j → PlanMayRead v binds j)
    → p ≡ record { table = v.table; journal = v.journal; label = label; more = []; reads = reads; names = names; step = step; binds = binds }
    → (rule : Rule) (alternative : Option Name) → label ≡ record { rule = rule; place = v.place; alternative = alternative; worker = v.worker } → SaysSolved v rule step → (rule ≡ Rule.Split → ⊥)
    → IsPlanOf v p × (p.label.rule ≡ Rule.Split → ⊥) × (p.more ≡ [])
plan_of v p label reads names step binds right only is rule alternative e solved other = subst (λ (q : PlanValue). IsPlanOf v q × (q.label.rule ≡ Rule.Split → ⊥) × (q.more ≡ [])) (sym is) (
  record {
    right = subst IsRight is right;
    table = refl;
    journal = refl;
    place = ap (λ (l : Label). l.place) e;
    worker = ap (λ (l : Label). l.worker) e;
    solved = subst (λ (l : Label). SaysSolved v l.rule step) (sym e) solved;
    only = only;
  },
  λ split. other (sym (ap (λ (l : Label). l.rule) e) ∙ split),
  refl,
)
