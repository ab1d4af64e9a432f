-- Equations are added to the box of a label's place alone.
use Rattle.std.proofs.Common.{◌≡◌, List, refl, sym, ◌∙◌, ap}
use Rattle.std.specs.Prelude.{slice_index}
use Rattle.akl_terms.specs.declared.name.Name.{Name}
use Rattle.akl_terms.specs.declared.program.Program.{Program}
use Rattle.akl_model.specs.declared.label.Rule.{Rule}
use Rattle.akl_model.specs.declared.label.Label.{Label}
use Rattle.akl_model.specs.Config.{Content, Config, Found}
use Rattle.akl_model.specs.Derivations.{Applies}
use Rattle.akl_model.specs.Changes.{Adds}
use Rattle.akl_model.proofs.NamesKept.{Stand, box-itself}
use Rattle.step_laws.proofs.Whereabouts.{found_in}
use Rattle.step_laws.proofs.Becomes.{Becomes}
use Rattle.step_laws.proofs.Steps.{Moved, aside, at_site, inside, site_now, moved}

pub added_at : (rules : List Rule) (p : Program) (c : Config) (l : Label) (d : Config) (s : Stand c) (m : Applies rules p c l d) (n : Name) (x : Adds c d n)
    → (k : Becomes l.worker (slice_index c.next l.worker) m.site m.change) × (x.before ≡ m.site) × (x.afterwards ≡ site_now k)
added_at rules p c l d s m n x = on (moved rules p c l d s m x.before x.afterwards (found_in n c.roots x.before x.was) (found_in n d.roots x.afterwards x.is)
    (sym (box-itself n c.roots x.before x.was) ∙ box-itself n d.roots x.afterwards x.is))
  where
    on : Moved l.worker (slice_index c.next l.worker) m.site m.change x.before x.afterwards
        → (k : Becomes l.worker (slice_index c.next l.worker) m.site m.change) × (x.before ≡ m.site) × (x.afterwards ≡ site_now k)
    on (aside z) = absurd (x.more (ap (λ (b : Content). b.equations) z.content))
    on (at_site k q r) = (k, q, r)
    on (inside k j y z q r) = absurd (x.more (ap (λ (f : Found). f.content.equations) r ∙ sym (ap (λ (f : Found). f.content.equations) q)))
