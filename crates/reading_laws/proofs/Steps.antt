-- A label that changes no constraint down to a box, and binds none of some variables, is a step on the path to the box.
use Rattle.std.proofs.Common.{◌≡◌, List, ◌++◌, sym, subst, inl, inr}
use Rattle.std.specs.Prelude.{slice_index}
use Rattle.akl_terms.specs.declared.name.Var.{Var}
use Rattle.akl_terms.specs.declared.program.Program.{Program}
use Rattle.akl_terms.specs.Equal.{Equations, IsConsistent}
use Rattle.akl_terms.specs.Decided.{Contradicts}
use Rattle.akl_model.specs.declared.label.Rule.{Rule}
use Rattle.akl_model.specs.declared.label.Label.{Label}
use Rattle.akl_model.specs.Config.{Content, Goals, Boxes, box, Config, Found, equations_of, environment, whole}
use Rattle.akl_model.specs.Changes.{Clashes}
use Rattle.akl_model.specs.Derivations.{Applies}
use Rattle.akl_model.proofs.QuietGrows.{equations-snoc}
use Rattle.plan_laws.proofs.InScope.{Good}
use Rattle.plan_laws.proofs.Moves.{site_found, site_there}
use Rattle.reading_laws.specs.Unchanged.{path_to}
use Rattle.akl_model.specs.Owned.{AddsOwn}
use Rattle.constraint_laws.proofs.Decided.{consistent_or}
use Rattle.step_laws.proofs.Becomes.{Becomes}
use Rattle.step_laws.proofs.Steps.{site_now}

pub path_whole : (f : Found) → equations_of (path_to f) ≡ whole f
path_whole f = equations-snoc f.around f.content

-- what the label adds to the box of its place is over the frames that the box then has
abbrev pub AddsHere : (rules : List Rule) (p : Program) (c : Config) (l : Label) (d : Config) → Applies rules p c l d → Type 0
AddsHere rules p c l d a = (b : Content) (gs : Goals) (rest : Boxes) → a.change.boxes ≡ box b gs rest → AddsOwn a.site b

module _ (rules : List Rule) (p : Program) (c : Config) (l : Label) (d : Config) (w : Good c) (v : Good d) (a : Applies rules p c l d) (o : AddsHere rules p c l d a) (R : Var → Type 0) where
  abbrev Change : Type 0
  Change = Becomes l.worker (slice_index c.next l.worker) a.site a.change

  module _ (k : Change) (u : Clashes c d a.site.content.name → ⊥) where
    -- equations that are added leave the box consistent
    pub still : IsConsistent (whole a.site) → IsConsistent (whole (site_now k))
    still h = elim (consistent_or (whole (site_now k))) [ inl x ↦ x | inr x ↦ absurd (u (clash x)) ]
      where
        clash : Contradicts (whole (site_now k)) → Clashes c d a.site.content.name
        clash x = record { adds = record { before = a.site; afterwards = site_now k; was = site_found rules p c l d w v a; is = site_there rules p c l d w v a k; more = more }; inconsistent = λ y. no y }
          where
            no : IsConsistent (whole (site_now k)) → ⊥
            no y = x.differ.differ (y.heads x.equal x.differ.is_left x.differ.is_right)

            more : k.content.equations ≡ a.site.content.equations → ⊥
            more e = no (subst (λ (E : Equations). IsConsistent (environment a.site ++ E)) (sym e) h)
