-- Places at which no rule in force applies.
use Rattle.std.proofs.Common.{◌≡◌, ℕ, Option, Some, None, refl, ◌∙◌, subst, inl, inr}
use Rattle.std.specs.Prelude.{slice_index}
use Rattle.akl_terms.specs.declared.name.Name.{Name}
use Rattle.akl_terms.specs.declared.name.Place.{Place}
use Rattle.akl_terms.specs.Equal.{IsConsistent}
use Rattle.akl_model.specs.declared.label.Rule.{Rule}
use Rattle.akl_model.specs.Config.{whole}
use Rattle.akl_model.specs.Rules.{Reading, Change, change_by}
use Rattle.akl_model.specs.Conditions.{HasFailed}
use Rattle.akl_model.specs.Stable.{Allows}
use Rattle.box_tree.specs.declared.view.Sight.{Sight}
use Rattle.box_tree.specs.Views.{ViewValue, IsViewOf}
use Rattle.guard_plan.specs.Planned.{IsPlain, HasNoRule}
use Rattle.guard_plan.proofs.Sites.{shows_at}
use Rattle.guard_plan.proofs.HasNone.{has_none}

none_made : (c : Change) → None ≡ Some c → ⊥
none_made c e = cc

-- a box that is consistent, and has no goal by which it fails
pub box_none : (v : ViewValue) (i : IsViewOf v) (n : Name) → v.place ≡ Place.Box n → (HasFailed i.site.goals → ⊥) → IsConsistent (whole i.site) → HasNoRule v
box_none v i n p unfailed consistent = has_none v i (λ l change e r m. on l.rule l.alternative m.reading l.worker (slice_index i.table.config.next l.worker) change r
    (subst (λ (q : Place). change_by v.table.program m.reading l.worker (slice_index i.table.config.next l.worker) l.rule q l.alternative i.site ≡ Some change) (e ∙ p) m.change)
    (subst (λ (q : Place). Allows v.table.program m.reading l.rule q l.alternative i.site) (e ∙ p) m.allowed))
  where
    on : (r : Rule) (a : Option Name) (reading : Reading) (w next : ℕ) (c : Change) → IsPlain r → change_by v.table.program reading w next r (Place.Box n) a i.site ≡ Some c
        → Allows v.table.program reading r (Place.Box n) a i.site → ⊥
    on Rule.Fail a reading w next c f x (inl k) = k consistent
    on Rule.Fail a reading w next c f x (inr k) = unfailed k
    on Rule.Split a reading w next c f x k = f.1 refl
    on r a reading w next c f x k = none_made c x

-- at a goal no box is seen
pub box_unseen : (v : ViewValue) (i : IsViewOf v) (g : Name) (failing : Option Name) → v.place ≡ Place.Goal g → v.sight ≡ Sight.Box failing → HasNoRule v
box_unseen v i g failing p s = absurd (shows_at v i (Place.Goal g) (Sight.Box failing) p s)
