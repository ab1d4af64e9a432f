-- A goal goes, and its box keeps its store: what the step makes of a table is a table of the run that goes on.
use Rattle.std.proofs.Common.{◌≡◌, ℕ, ◌+◌, List, Option, Some, None, refl, sym, ◌∙◌, ap, subst, inl, inr}
use Rattle.std.specs.Prelude.{slice_index, option_map}
use Rattle.akl_terms.specs.declared.name.Name.{Name}
use Rattle.akl_terms.specs.declared.name.Place.{Place}
use Rattle.akl_model.specs.declared.label.Rule.{Rule}
use Rattle.akl_model.specs.declared.label.Label.{Label}
use Rattle.akl_model.specs.Config.{Content, no_boxes, box, Goals, Config, an_atom, without_goal, box_at}
use Rattle.akl_model.specs.Rules.{becomes}
use Rattle.akl_model.specs.Derivations.{Applies}
use Rattle.akl_model.specs.Changes.{goal_names, constraint_of, constraint_at}
use Rattle.akl_model.proofs.NamesKept.{Stand, replay-stands}
use Rattle.step_laws.proofs.Becomes.{Becomes}
use Rattle.step_laws.proofs.Steps.{site_now, found}
use Rattle.table_laws.specs.Rows.{BoxRow, Table}
use Rattle.table_laws.specs.Unfolds.{FailsBy, IsBoxRow, spot_of}
use Rattle.table_laws.specs.Stamped.{Run, followed_by, IsTableOf}
use Rattle.table_laws.specs.Steps.{confirms, ReducesAtom, Makes}
use Rattle.table_laws.specs.Writes.{IsTable, less_name, confirmed_row, after_confirm, Leads}
use Rattle.table_laws.proofs.Along.{same_next}
use Rattle.table_laws.proofs.Stores.{IsAsTold}
use Rattle.table_laws.proofs.Frame.{KeepsRows}
use Rattle.table_laws.proofs.Onward.{GoalGoes, LeadsOn, site_kept}
use Rattle.table_laws.proofs.Marked.{led}
use Rattle.table_laws.proofs.Reducing.{names_without, fails_without, content_now, goals_now, spot_gone, goals_differ, not_fail}
use Rattle.table_laws.proofs.Reduced.{by_change, ChangesRows}
use Rattle.table_laws.proofs.Reduced as rows

module _ (rules : List Rule) (r : Run) (T U : Table) (l : Label) (d : Config) (t : IsTableOf rules r T) (applies : Applies rules r.program t.config l d) (g : Name) (place : l.place ≡ Place.Goal g)
    (makes : ReducesAtom r.program l (slice_index t.config.next l.worker) applies.site g applies.site.content (without_goal g applies.site.goals) 0) (leads : IsTable U (after_confirm g T)) where
  abbrev a : Applies rules r.program t.config l d
  a = by_change applies (becomes applies.site.content (without_goal g applies.site.goals) 0) makes.makes

  abbrev s : Stand t.config
  s = replay-stands rules r.program r.query r.journal t.config t.replays

  is_change : a.change.boxes ≡ box a.site.content (without_goal g a.site.goals) no_boxes
  is_change = refl

  abbrev its_box : BoxRow → BoxRow
  its_box v = confirmed_row g (T.steps + 1) v

  changes : ChangesRows T U g its_box None
  changes = record { nodes = leads.nodes; boxes = leads.boxes; goals = leads.goals; roots = leads.roots; roots_changed = leads.roots_changed; steps = leads.steps }

  abbrev b : Becomes l.worker (slice_index t.config.next l.worker) a.site a.change
  b = rows.b rules r T U l d t a g place makes.goal makes.held a.site.content None is_change its_box None changes

  content : b.content ≡ a.site.content
  content = content_now rules r.program t.config l d s a g place makes.goal makes.held a.site.content None is_change

  goals : b.goals ≡ without_goal g a.site.goals
  goals = goals_now rules r.program t.config l d s a g place makes.goal makes.held a.site.content None is_change

  there : box_at a.site.content.name d.roots ≡ Some (site_now b)
  there = rows.there rules r T U l d t a g place makes.goal makes.held a.site.content None is_change its_box None changes

  abbrev old : (v : BoxRow) × (T.box_of a.site.content.name ≡ Some v) × IsBoxRow T t.config.roots a.site v
  old = rows.old rules r T U l d t a g place makes.goal makes.held a.site.content None is_change its_box None changes

  keeps : KeepsRows a T U
  keeps = rows.keeps rules r T U l d t a g place makes.goal makes.held a.site.content None is_change its_box None changes

  site : IsBoxRow U d.roots (site_now b) (its_box old.0) × IsAsTold T U a.site.content.name
  site = site_kept rules r.program r.query r.journal t.config l d t.replays a T U t.unfolds keeps b content old.0 (less_name g old.0.goals) (T.steps + 1) old.0.failing old.1
      (rows.row_here rules r T U l d t a g place makes.goal makes.held a.site.content None is_change its_box None changes)
      (ap (less_name g) old.2.goals ∙ sym (names_without g a.site.goals) ∙ ap goal_names (sym goals))
      (subst (λ (gs : Goals). FailsBy gs old.0.failing) (sym goals)
      (fails_without g (an_atom makes.goal) a.site.goals old.0.failing makes.held (not_fail rules r.program t.config l d s a g place makes.goal makes.held a.site.content None is_change) old.2.failing))

  store_stays : constraint_at a.site.content.name t.config.roots ≡ constraint_at a.site.content.name d.roots
  store_stays = ap (option_map constraint_of) (found rules r.program t.config l d s a) ∙ ap (λ (w : Content). Some (record { frames = w.frames; equations = w.equations; ports = w.ports })) (sym content)
      ∙ sym (ap (option_map constraint_of) there)

  goes : GoalGoes T U t.config d g
  goes =
      let z : U.goal_of g ≡ None = rows.goal_here rules r T U l d t a g place makes.goal makes.held a.site.content None is_change its_box None changes in
      inr (ap (option_map spot_of) z ∙ sym (spot_gone rules r.program t.config l d s a g place makes.goal makes.held a.site.content None is_change refl), λ v h. (let y : None ≡ Some v = sym z ∙ h in absurd cc))

  leads_on : LeadsOn a T U
  leads_on = rows.leads_on rules r T U l d t a g place makes.goal makes.held a.site.content None is_change its_box None changes site.0 (inl site.1)
      (inl (refl, λ h. h store_stays), inr (refl, goals_differ rules r.program t.config l d s a g place makes.goal makes.held a.site.content None is_change refl)) goes
      (λ w. leads.next w ∙ t.unfolds.next w ∙ same_next rules r.program t.config l d s a refl w)

  pub confirmed_led : (u : IsTableOf rules (followed_by r l) U) × (u.config ≡ d)
  confirmed_led = led rules r T U l d t a leads_on

-- the law for this step
pub confirmed_step : (rules : List Rule) (r : Run) (T U : Table) (l : Label) (d : Config) (t : IsTableOf rules r T) (a : Applies rules r.program t.config l d) (at : Option ℕ)
    → Makes r.program l (slice_index t.config.next l.worker) a.site confirms → Leads T l at a.change.drawn confirms U → (u : IsTableOf rules (followed_by r l) U) × (u.config ≡ d)
confirmed_step rules r T U l d t a at makes leads =
    confirmed_led rules r T U l d t a makes.1.0 makes.1.1 makes.1.2 (subst (λ (x : Place). Leads T (record l { place = x }) at a.change.drawn confirms U) makes.1.1 leads)
