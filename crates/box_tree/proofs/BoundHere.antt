-- What a label binds or makes equal in the box of its place.
use Rattle.std.proofs.Common.{◌≡◌, List, [], ◌++◌, Some, None, sym, ◌∙◌, ap, subst, ◌⊎◌, inl, inr}
use Rattle.std.specs.Prelude.{slice_index}
use Rattle.akl_terms.specs.declared.name.Var.{Var}
use Rattle.akl_terms.specs.declared.program.Program.{Program}
use Rattle.akl_terms.specs.Tree.{variable}
use Rattle.akl_terms.specs.Equal.{Equations, Equal, IsConsistent, IsStructured}
use Rattle.akl_model.specs.declared.label.Rule.{Rule}
use Rattle.akl_model.specs.declared.label.Label.{Label}
use Rattle.akl_model.specs.Config.{Content, Boxes, no_boxes, box, Goals, Config, Found, environment, whole, box_at}
use Rattle.akl_model.specs.Changes.{Binds}
use Rattle.akl_model.specs.Derivations.{Applies}
use Rattle.akl_model.proofs.NamesKept.{Stand}
use Rattle.akl_model.proofs.Options.{some_value}
use Rattle.constraint_laws.specs.Bound.{IsNewlyBound}
use Rattle.constraint_laws.specs.Oldest.{HasOldest}
use Rattle.constraint_laws.specs.Touched.{IsAmong}
use Rattle.step_laws.proofs.Becomes.{Becomes}
use Rattle.step_laws.proofs.Steps.{found, made, site_now, site_there, site_gone}
use Rattle.local_store.specs.Bound.{AreNewlyBound}
use Rattle.step_laws.specs.Bound.{outermost_equations, AreBoundIn}

module _ (rules : List Rule) (p : Program) (c : Config) (l : Label) (d : Config) (s : Stand c) (a : Applies rules p c l d) where
  abbrev pub Changed : Type 0
  Changed = Becomes l.worker (slice_index c.next l.worker) a.site a.change

  was_site : (f : Found) → box_at a.site.content.name c.roots ≡ Some f → f ≡ a.site
  was_site f e = some_value (sym e ∙ found rules p c l d s a)

  is_site : (k : Changed) (f : Found) → box_at a.site.content.name d.roots ≡ Some f → f ≡ site_now k
  is_site k f e = some_value (sym e ∙ site_there rules p c l d s a k)

  -- a label that leaves its box as many equations, or takes it away, binds nothing
  module _ (same : (k : Changed) → k.content.equations ≡ a.site.content.equations) where
    none_binds : (x : Var) → Binds c d a.site.content.name x → ⊥
    none_binds x b = elim (made rules p c l d s a) [
      | inl w ↦ let z : None ≡ Some b.adds.afterwards = sym (site_gone rules p c l d s a w.1) ∙ b.adds.is in cc
      | inr w ↦ b.adds.more (ap (λ (f : Found). f.content.equations) (is_site w.0 b.adds.afterwards b.adds.is) ∙ same w.0 ∙ sym (ap (λ (f : Found). f.content.equations) (was_site b.adds.before b.adds.was)))
    ]

    nothing_bound : AreBoundIn c d a.site []
    nothing_bound = record { each = λ y m. absurd m; every = λ x b. absurd (none_binds x b); oldest = λ x w m. absurd m }

  pub kept_bound : (b : Content) (gs : Goals) (rest : Boxes) → a.change.boxes ≡ box b gs rest → b.equations ≡ a.site.content.equations → AreBoundIn c d a.site []
  kept_bound b gs rest e q = nothing_bound (λ k.
      let r : box b gs rest ≡ box k.content k.goals k.rest = sym e ∙ k.is_change in
      let u : k.content ≡ b = cc in
      ap (λ (x : Content). x.equations) u ∙ q)

  pub gone_bound : a.change.boxes ≡ no_boxes → AreBoundIn c d a.site []
  gone_bound e = nothing_bound (λ k. let r : no_boxes ≡ box k.content k.goals k.rest = sym e ∙ k.is_change in cc)

  -- what is bound from the equations of the box and those around it to what they are afterwards
  module _ (k : Changed) (list : List Var) (h : AreNewlyBound (outermost_equations a.site) (whole a.site) (whole (site_now k)) list)
      (old : HasOldest (outermost_equations a.site) list) where
    more_equations : (x : Var) → IsNewlyBound (whole a.site) (whole (site_now k)) x → k.content.equations ≡ a.site.content.equations → ⊥
    more_equations x b q = on b.told
      where
        r : whole (site_now k) ≡ whole a.site
        r = ap (λ (E : Equations). environment a.site ++ E) q

        on : (IsStructured (whole (site_now k)) x ⊎ ((y : Var) × Equal (whole (site_now k)) (variable x) (variable y) × (Equal (whole a.site) (variable x) (variable y) → ⊥))) → ⊥
        on (inl i) = b.unstructured (subst (λ (E : Equations). IsStructured E x) r i)
        on (inr (y, e, n)) = n (subst (λ (E : Equations). Equal E (variable x) (variable y)) r e)

    binds : (x : Var) → IsAmong x list → Binds c d a.site.content.name x
    binds x m = record {
      adds = record { before = a.site; afterwards = site_now k; was = found rules p c l d s a; is = site_there rules p c l d s a k; more = more_equations x (h.each x m) };
      consistent = h.consistent x m;
      newly_bound = h.each x m;
    }

    bound : (x : Var) → Binds c d a.site.content.name x → (y : Var) × IsAmong y list × Equal (outermost_equations a.site) (variable x) (variable y)
    bound x b =
        let was : b.adds.before ≡ a.site = was_site b.adds.before b.adds.was in
        let is : b.adds.afterwards ≡ site_now k = is_site k b.adds.afterwards b.adds.is in
        h.every (subst (λ (f : Found). IsConsistent (whole f)) is b.consistent) x
        (subst (λ (f : Found). IsNewlyBound (whole a.site) (whole f) x) is (subst (λ (f : Found). IsNewlyBound (whole f) (whole b.adds.afterwards) x) was b.newly_bound))

    pub site_bound : AreBoundIn c d a.site list
    site_bound = record { each = binds; every = bound; oldest = old }

  -- where it leaves the box this content
  pub told_bound : (b : Content) (gs : Goals) (rest : Boxes) → a.change.boxes ≡ box b gs rest → (list : List Var)
      → AreNewlyBound (outermost_equations a.site) (whole a.site) (environment a.site ++ b.equations) list
      → HasOldest (outermost_equations a.site) list → AreBoundIn c d a.site list
  told_bound b gs rest e list h old = elim (made rules p c l d s a) [
    | inl w ↦ let r : no_boxes ≡ box b gs rest = sym w.1 ∙ e in cc
    | inr w ↦
        let r : box b gs rest ≡ box w.0.content w.0.goals w.0.rest = sym e ∙ w.0.is_change in
        let u : b ≡ w.0.content = cc in
        site_bound w.0 list (subst (λ (x : Content). AreNewlyBound (outermost_equations a.site) (whole a.site) (environment a.site ++ x.equations) list) u h) old
  ]
