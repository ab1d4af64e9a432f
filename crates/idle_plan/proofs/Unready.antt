-- Where no rule applies at a place it isn't ready: what a caller has of planners that answer nothing.
use Rattle.std.proofs.Common.{◌≡◌, refl, ◌∙◌, subst, ◌⊎◌, inl, inr}
use Rattle.akl_terms.specs.declared.name.Name.{Name}
use Rattle.akl_terms.specs.declared.name.Place.{Place}
use Rattle.akl_model.specs.declared.label.Rule.{Rule}
use Rattle.akl_model.specs.Stable.{Allows}
use Rattle.box_tree.specs.Views.{ViewValue}
use Rattle.guard_plan.specs.Planned.{HasNoRule}
use Rattle.split_plan.specs.Split.{HasNoSplit}
use Rattle.idle_plan.specs.Idling.{IsUnready}

split_or : (r : Rule) → (r ≡ Rule.Split) ⊎ (r ≡ Rule.Split → ⊥)
split_or Rule.Split = inl refl
split_or Rule.Tell = inr (λ e. cc)
split_or Rule.Fork = inr (λ e. cc)
split_or Rule.Fail = inr (λ e. cc)
split_or Rule.Cut = inr (λ e. cc)
split_or Rule.Promote = inr (λ e. cc)
split_or Rule.Collect = inr (λ e. cc)
split_or Rule.Eval = inr (λ e. cc)
split_or Rule.Open = inr (λ e. cc)
split_or Rule.Send = inr (λ e. cc)

-- a goal isn't split
pub unready_goal : (v : ViewValue) (g : Name) → v.place ≡ Place.Goal g → HasNoRule v → IsUnready v
unready_goal v g at none s r = none.none s.table r.label r.result r.applies r.is_place (λ e.
    subst (λ (q : Rule). Allows v.table.program r.applies.makes.reading q (Place.Goal g) r.label.alternative r.applies.site) e
    (subst (λ (q : Place). Allows v.table.program r.applies.makes.reading r.label.rule q r.label.alternative r.applies.site) (r.is_place ∙ at) r.applies.makes.allowed))

pub unready_box : (v : ViewValue) → HasNoRule v → HasNoSplit v → IsUnready v
unready_box v none unsplit s r = elim (split_or r.label.rule) [
  | inl e ↦ unsplit.none s.table r.label r.result r.applies r.is_place e
  | inr n ↦ none.none s.table r.label r.result r.applies r.is_place n
]
