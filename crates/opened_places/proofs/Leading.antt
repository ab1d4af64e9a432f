-- What is common to a step of one label and to that of a call at once: the box of its place, and the derivation.
use Rattle.std.proofs.Common.{◌≡◌, List, ◌∷◌, Some, None, refl, sym, subst}
use Rattle.akl_terms.specs.declared.name.Place.{Place}
use Rattle.akl_terms.specs.declared.program.Program.{Program}
use Rattle.akl_model.specs.declared.label.Rule.{Rule}
use Rattle.akl_model.specs.declared.label.Label.{Label}
use Rattle.akl_model.specs.Config.{Config, Found, site_of}
use Rattle.akl_model.specs.Derivations.{Derives}
use Rattle.akl_model.proofs.NamesKept.{Stand, derived-stands}
use Rattle.step_laws.proofs.Steps.{Later, later}
use Rattle.table_laws.specs.Steps.{Step}
use Rattle.plan_laws.specs.AtOnce.{by, labels_at_once}
use Rattle.plan_laws.proofs.Between.{distinct_of}
use Rattle.plan_laws.proofs.Calls.{at_once_law}
use Rattle.box_tree.specs.Tables.{all_rules}
use Rattle.box_tree.proofs.AllInForce.{all_in_force}
use Rattle.opened_places.specs.Leading.{CallsTo, LeadsTo, by_label, by_call}

module _ (p : Program) (c : Config) (l : Label) (more : List Label) (step : Step) (d : Config) where
  -- the first label of a call is its fork
  pub fork_first : (w : CallsTo p c l more step d) → l ≡ by l.worker Rule.Fork (Place.Goal w.goal) None
  fork_first w = first w.labels
    where
      first : {k : Label} {ks : List Label} → l ∷ more ≡ k ∷ ks → l ≡ k
      first e = cc

  pub call_site : (w : CallsTo p c l more step d) → site_of l.place c.roots ≡ Some w.site
  call_site w = subst (λ (k : Label). site_of k.place c.roots ≡ Some w.site) (sym (fork_first w)) w.is_home

  -- the box of the label's place
  abbrev pub site_by : LeadsTo p c l more step d → Found
  site_by (by_label a makes alone) = a.site
  site_by (by_call w) = w.site

  pub is_site_by : (w : LeadsTo p c l more step d) → site_of l.place c.roots ≡ Some (site_by w)
  is_site_by (by_label a makes alone) = a.is_site
  is_site_by (by_call w) = call_site w

  pub derives_by : Stand c → LeadsTo p c l more step d → Derives all_rules p c (l ∷ more) d
  derives_by s (by_label a makes alone) = subst (λ (ls : List Label). Derives all_rules p c (l ∷ ls) d) (sym alone) (d, a, refl)
  derives_by s (by_call w) = subst (λ (ls : List Label). Derives all_rules p c ls d) (sym w.labels)
      (subst (λ (e : Config). Derives all_rules p c (labels_at_once w.calls) e) w.result (at_once_law all_rules all_in_force p c (distinct_of c s) l.worker w.goal w.site w.is_home w.calls))

  pub stands_by : Stand c → LeadsTo p c l more step d → Stand d
  stands_by s w = derived-stands all_rules p c d (l ∷ more) s (derives_by s w)

  pub later_by : Stand c → LeadsTo p c l more step d → Later c d
  later_by s w = later all_rules p c d (l ∷ more) s (derives_by s w)
