-- What a label binds is listed later as it was, where none of the variables that it reads is bound.
use Rattle.std.proofs.Common.{◌≡◌, List, [], ◌∷◌, ◌++◌, Some, refl, sym, ◌∙◌, ap, subst, inl, inr, append_assoc}
use Rattle.std.specs.Prelude.{slice_index}
use Rattle.akl_terms.specs.declared.name.Name.{Name}
use Rattle.akl_terms.specs.declared.name.Var.{Var}
use Rattle.akl_terms.specs.declared.program.Program.{Program}
use Rattle.akl_terms.specs.Equal.{Equations, IsConsistent}
use Rattle.constraint_laws.specs.Bound.{IsNewlyBound}
use Rattle.akl_model.specs.declared.label.Rule.{Rule}
use Rattle.akl_model.specs.declared.label.Label.{Label}
use Rattle.akl_model.specs.Config.{Content, Boxes, no_boxes, box, Goals, Config, Found, environment, whole, box_at}
use Rattle.akl_model.specs.Changes.{Binds}
use Rattle.akl_model.specs.Derivations.{Applies}
use Rattle.akl_model.specs.Instances.{with_atoms}
use Rattle.akl_model.proofs.Options.{some_value}
use Rattle.step_laws.proofs.Becomes.{Becomes}
use Rattle.step_laws.proofs.Deeper.{chain_at}
use Rattle.step_laws.proofs.Steps.{site_now}
use Rattle.step_laws.proofs.Whereabouts.{found_in}
use Rattle.plan_laws.specs.Local as local
use Rattle.plan_laws.specs.Local.{told_to, reduces, reduced, made}
use Rattle.plan_laws.proofs.InScope.{Good}
use Rattle.plan_laws.proofs.Moves.{cases, site_found, site_there, binder}
use Rattle.reading_laws.specs.Unchanged.{path_to}

abbrev first_content : Content → Boxes → Content
first_content d no_boxes = d
first_content d (box b gs bs) = b

-- a label that tells equations to the box of its place and reduces a goal of it binds what these bind there
module _ (rules : List Rule) (p : Program) (c : Config) (l : Label) (d : Config) (w : Good c) (v : Good d) (a : Applies rules p c l d) (t : local.Told) (g : Name) (b : local.Becomes) (n : local.NewGoals)
    (boxes : a.change.boxes ≡ made (reduces t g b n) a.site) where
  abbrev Changed : Type 0
  Changed = Becomes l.worker (slice_index c.next l.worker) a.site a.change

  changed : Changed
  changed = elim (cases rules p c l d w v a) [ inl x ↦ (let s : box (told_to t a.site.content) (with_atoms n.worker n.first n.atoms (reduced b g a.site.goals)) no_boxes ≡ no_boxes = sym boxes ∙ x in absurd cc) | inr k ↦ k ]

  now : whole (site_now changed) ≡ whole a.site ++ t.equations
  now = ap (λ (E : Equations). environment a.site ++ E) (ap (λ (k : Content). k.equations) (ap (first_content a.site.content) (sym changed.is_change ∙ boxes)))
      ∙ sym (append_assoc (environment a.site) a.site.content.equations t.equations)

  pub bound_told : (x : Var) → Binds c d a.site.content.name x → IsConsistent (whole a.site ++ t.equations) × IsNewlyBound (whole a.site) (whole a.site ++ t.equations) x
  bound_told x z =
      let before : z.adds.before ≡ a.site = some_value (sym z.adds.was ∙ site_found rules p c l d w v a) in
      let after : z.adds.afterwards ≡ site_now changed = some_value (sym z.adds.is ∙ site_there rules p c l d w v a changed) in (
        subst IsConsistent now (subst (λ (k : Found). IsConsistent (whole k)) after z.consistent),
        subst (λ (E : Equations). IsNewlyBound (whole a.site) E x) now
            (subst (λ (k : Found). IsNewlyBound (whole a.site) (whole k) x) after (subst (λ (k : Found). IsNewlyBound (whole k) (whole z.adds.afterwards) x) before z.newly_bound)),
      )

  pub told_binds : (x : Var) → IsConsistent (whole a.site ++ t.equations) → IsNewlyBound (whole a.site) (whole a.site ++ t.equations) x → Binds c d a.site.content.name x
  told_binds x h z = binder rules p c l d w v a changed x (subst IsConsistent (sym now) h) (subst (λ (E : Equations). IsNewlyBound (whole a.site) E x) (sym now) z)

-- the first box on the way to one is a root box
pub record HasFirst (c : Config) (f : Found) : Type 0 where
  pub content : Content
  pub rest : List Content
  pub path : path_to f ≡ content ∷ rest
  pub goals : Goals
  pub found : box_at content.name c.roots ≡ Some (record { around = []; content = content; goals = goals })

pub first_box : (c : Config) → Good c → (n : Name) (f : Found) → box_at n c.roots ≡ Some f → HasFirst c f
first_box c w n f e = on f.around refl
  where
    on : (xs : List Content) → f.around ≡ xs → HasFirst c f
    on [] q = record {
      content = f.content;
      rest = [];
      path = ap (λ (xs : List Content). xs ++ f.content ∷ []) q;
      goals = f.goals;
      found = subst (λ (m : Name). box_at m c.roots ≡ Some (record { around = []; content = f.content; goals = f.goals })) (Rattle.akl_model.proofs.NamesKept.box-itself n c.roots f e)
          (e ∙ ap (λ (xs : List Content). Some (record { around = xs; content = f.content; goals = f.goals })) q);
    }
    on (b ∷ xs) q =
        let k : (gs : Goals) × (box_at b.name c.roots ≡ Some (record { around = []; content = b; goals = gs })) = chain_at c.roots w.stand.once f [] b xs (found_in n c.roots f e) q in
        record { content = b; rest = xs ++ f.content ∷ []; path = ap (λ (ys : List Content). ys ++ f.content ∷ []) q; goals = k.0; found = k.1 }
