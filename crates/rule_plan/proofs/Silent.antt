-- What is tried at a place, with what was found where no rule applies, and without.
use Rattle.std.proofs.Common.{◌≡◌, List, Option, Some, None, refl, sym, subst}
use Rattle.akl_terms.specs.declared.name.Name.{Name}
use Rattle.akl_terms.specs.declared.name.Place.{Place}
use Rattle.akl_terms.specs.declared.program.Code.{Code}
use Rattle.akl_terms.specs.declared.program.Goal.{Goal}
use Rattle.box_tree.specs.declared.view.Sight.{Sight}
use Rattle.box_tree.specs.Views.{ViewValue, IsViewOf}
use Rattle.box_tree.specs.Plans.{PlanValue}
use Rattle.guard_plan.specs.declared.guards.Noise.{Noise}
use Rattle.guard_plan.specs.Planned.{IsPlannedBy}
use Rattle.guard_plan.specs.Noisy.{ShowsArithmetic, IsNoiseAt, IsTriedBy}
use Rattle.guard_plan.proofs.Sites.{shows_at}

module _ (v : ViewValue) (noise : List Noise) where
  pub planned : (o : Option PlanValue) → IsTriedBy v noise o → IsPlannedBy v o
  planned None h = h.0
  planned (Some p) h = h

  -- where no guard is tested
  pub silent : (s : Sight) → v.sight ≡ s → IsNoiseAt v s noise → (o : Option PlanValue) → IsPlannedBy v o → IsTriedBy v noise o
  silent s e n None h = (h, subst (λ (t : Sight). IsNoiseAt v t noise) (sym e) n)
  silent s e n (Some p) h = h

  -- at an atom of this code
  pub silent_atom : (a : Goal) → v.sight ≡ Sight.Atom a → (k : Code) → a.code ≡ k → ShowsArithmetic v.table.program v.stores a.frame k noise → (o : Option PlanValue) → IsPlannedBy v o → IsTriedBy v noise o
  silent_atom a e k q n o h = silent (Sight.Atom a) e (subst (λ (c : Code). ShowsArithmetic v.table.program v.stores a.frame c noise) (sym q) n) o h

-- at a box a box is seen
pub box_seen : (v : ViewValue) (i : IsViewOf v) (n : Name) → v.place ≡ Place.Box n → (s : Sight) → v.sight ≡ s → ((failing : Option Name) → s ≡ Sight.Box failing → ⊥) → ⊥
box_seen v i n p (Sight.Atom a) e other = shows_at v i (Place.Box n) (Sight.Atom a) p e
box_seen v i n p (Sight.Choice o) e other = shows_at v i (Place.Box n) (Sight.Choice o) p e
box_seen v i n p (Sight.Box failing) e other = other failing refl
