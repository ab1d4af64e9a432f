-- A goal becomes `fail`: what the step makes of a table is a table of the run that goes on.
use Rattle.std.proofs.Common.{◌≡◌, ℕ, ◌+◌, List, Option, Some, refl, sym, ◌∙◌, ap, inl, inr, subst}
use Rattle.std.specs.Prelude.{slice_index, option_map}
use Rattle.akl_terms.specs.declared.name.Name.{Name}
use Rattle.akl_terms.specs.declared.name.Place.{Place}
use Rattle.akl_model.specs.declared.label.Rule.{Rule}
use Rattle.akl_model.specs.declared.label.Label.{Label}
use Rattle.akl_model.specs.Config.{Atom, Content, no_boxes, box, Config, an_atom, held_in, with_content, Found, box_at, home_of}
use Rattle.akl_model.specs.Rules.{becomes}
use Rattle.akl_model.specs.Derivations.{Applies}
use Rattle.akl_model.specs.Changes.{of_atom, shape_at, goal_names, goals_at, constraint_of, constraint_at}
use Rattle.akl_model.proofs.NamesKept.{Stand, replay-stands}
use Rattle.akl_model.proofs.Options.{some_value}
use Rattle.step_laws.proofs.Becomes.{Becomes}
use Rattle.step_laws.proofs.Failing.{failing_shape}
use Rattle.step_laws.proofs.Steps.{site_now, found}
use Rattle.step_laws.proofs.Stays.{shape_held}
use Rattle.table_laws.specs.Rows.{BoxRow, GoalRow, Table}
use Rattle.table_laws.specs.Unfolds.{IsBoxRow, spot_of}
use Rattle.table_laws.specs.Stamped.{Run, followed_by, IsTableOf}
use Rattle.table_laws.specs.Steps.{refutes, ReducesAtom, Makes}
use Rattle.table_laws.specs.Writes.{IsTable, refuted_row, failing_row, after_refute, Leads}
use Rattle.table_laws.proofs.Along.{same_next}
use Rattle.table_laws.proofs.Stores.{IsAsTold}
use Rattle.table_laws.proofs.Frame.{KeepsRows}
use Rattle.table_laws.proofs.Insides.{spot_held}
use Rattle.table_laws.proofs.Onward.{GoalGoes, LeadsOn, site_same}
use Rattle.table_laws.proofs.Marked.{led}
use Rattle.table_laws.proofs.Forking.{same_goal_names}
use Rattle.table_laws.proofs.Reducing as reducing
use Rattle.table_laws.proofs.Reduced.{by_change, ChangesRows}
use Rattle.table_laws.proofs.Reduced as rows

module _ (rules : List Rule) (r : Run) (T U : Table) (l : Label) (d : Config) (t : IsTableOf rules r T) (applies : Applies rules r.program t.config l d) (g : Name) (place : l.place ≡ Place.Goal g)
    (makes : ReducesAtom r.program l (slice_index t.config.next l.worker) applies.site g applies.site.content (with_content g (an_atom Atom.fail) applies.site.goals) 0) (leads : IsTable U (after_refute g T)) where
  abbrev a : Applies rules r.program t.config l d
  a = by_change applies (becomes applies.site.content (with_content g (an_atom Atom.fail) applies.site.goals) 0) makes.makes

  abbrev s : Stand t.config
  s = replay-stands rules r.program r.query r.journal t.config t.replays

  is_change : a.change.boxes ≡ box a.site.content (with_content g (an_atom Atom.fail) a.site.goals) no_boxes
  is_change = refl

  abbrev goal : Option GoalRow
  goal = option_map (refuted_row (T.steps + 1)) (T.goal_of g)

  changes : ChangesRows T U g (failing_row g) goal
  changes = record { nodes = leads.nodes; boxes = leads.boxes; goals = leads.goals; roots = leads.roots; roots_changed = leads.roots_changed; steps = leads.steps }

  abbrev b : Becomes l.worker (slice_index t.config.next l.worker) a.site a.change
  b = rows.b rules r T U l d t a g place makes.goal makes.held a.site.content (Some Atom.fail) is_change (failing_row g) goal changes

  content : b.content ≡ a.site.content
  content = reducing.content_now rules r.program t.config l d s a g place makes.goal makes.held a.site.content (Some Atom.fail) is_change

  names : goal_names b.goals ≡ goal_names a.site.goals
  names = ap goal_names (reducing.goals_now rules r.program t.config l d s a g place makes.goal makes.held a.site.content (Some Atom.fail) is_change) ∙ same_goal_names g (an_atom Atom.fail) a.site.goals

  held_now : held_in g b.goals ≡ Some (an_atom Atom.fail)
  held_now = reducing.held_now rules r.program t.config l d s a g place makes.goal makes.held a.site.content (Some Atom.fail) is_change

  there : box_at a.site.content.name d.roots ≡ Some (site_now b)
  there = rows.there rules r T U l d t a g place makes.goal makes.held a.site.content (Some Atom.fail) is_change (failing_row g) goal changes

  was_there : box_at a.site.content.name t.config.roots ≡ Some a.site
  was_there = found rules r.program t.config l d s a

  abbrev old : (v : BoxRow) × (T.box_of a.site.content.name ≡ Some v) × IsBoxRow T t.config.roots a.site v
  old = rows.old rules r T U l d t a g place makes.goal makes.held a.site.content (Some Atom.fail) is_change (failing_row g) goal changes

  keeps : KeepsRows a T U
  keeps = rows.keeps rules r T U l d t a g place makes.goal makes.held a.site.content (Some Atom.fail) is_change (failing_row g) goal changes

  site : IsBoxRow U d.roots (site_now b) (failing_row g old.0) × IsAsTold T U a.site.content.name
  site = site_same rules r.program r.query r.journal t.config l d t.replays a T U t.unfolds keeps b content names old.0 (Some g) old.1
      (rows.row_here rules r T U l d t a g place makes.goal makes.held a.site.content (Some Atom.fail) is_change (failing_row g) goal changes) (an_atom Atom.fail, held_now, tt)

  store_stays : constraint_at a.site.content.name t.config.roots ≡ constraint_at a.site.content.name d.roots
  store_stays = ap (option_map constraint_of) was_there ∙ ap (λ (w : Content). Some (record { frames = w.frames; equations = w.equations; ports = w.ports })) (sym content) ∙ sym (ap (option_map constraint_of) there)

  goals_stay : goals_at a.site.content.name t.config.roots ≡ goals_at a.site.content.name d.roots
  goals_stay = ap (option_map (λ (f : Found). goal_names f.goals)) was_there ∙ ap Some (sym names) ∙ sym (ap (option_map (λ (f : Found). goal_names f.goals)) there)

  goes : GoalGoes T U t.config d g
  goes = inr (
    ap (option_map spot_of) row_is ∙ ap (λ (n : Name). Some (record { home = n; shape = of_atom Atom.fail })) home ∙ sym (spot_held g d.roots (site_now b) (an_atom Atom.fail) home_now held_now),
    λ v e. (ap (λ (w : GoalRow). w.changed) (some_value (sym e ∙ row_is)), differs),
  )
    where
      row : (row : GoalRow) × (T.goal_of g ≡ Some row) × (row.home ≡ a.site.content.name) × (row.shape ≡ of_atom makes.goal)
      row = rows.its_row rules r T U l d t a g place makes.goal makes.held a.site.content (Some Atom.fail) is_change (failing_row g) goal changes

      row_is : U.goal_of g ≡ Some (refuted_row (T.steps + 1) row.0)
      row_is = rows.goal_here rules r T U l d t a g place makes.goal makes.held a.site.content (Some Atom.fail) is_change (failing_row g) goal changes ∙ ap (option_map (refuted_row (T.steps + 1))) row.1

      home : row.0.home ≡ b.content.name
      home = row.2 ∙ ap (λ (k : Content). k.name) (sym content)

      home_now : home_of g d.roots ≡ Some (site_now b)
      home_now = reducing.home_now rules r.program t.config l d s a g place makes.goal makes.held a.site.content (Some Atom.fail) is_change Atom.fail refl

      differs : shape_at g t.config.roots ≡ shape_at g d.roots → ⊥
      differs e =
          let was : shape_at g t.config.roots ≡ Some (of_atom makes.goal) =
          shape_held g t.config.roots a.site (an_atom makes.goal) (reducing.home_was rules r.program t.config l d s a g place makes.goal makes.held a.site.content (Some Atom.fail) is_change) makes.held in
          let is : shape_at g d.roots ≡ Some (of_atom Atom.fail) = shape_held g d.roots (site_now b) (an_atom Atom.fail) home_now held_now in
          let q : of_atom Atom.fail ≡ of_atom makes.goal = some_value (sym is ∙ sym e ∙ was) in
          reducing.not_fail rules r.program t.config l d s a g place makes.goal makes.held a.site.content (Some Atom.fail) is_change (failing_shape (an_atom Atom.fail) (an_atom makes.goal) q tt)

  leads_on : LeadsOn a T U
  leads_on = rows.leads_on rules r T U l d t a g place makes.goal makes.held a.site.content (Some Atom.fail) is_change (failing_row g) goal changes site.0 (inl site.1)
      (inl (refl, λ h. h store_stays), inl (refl, λ h. h goals_stay)) goes (λ w. leads.next w ∙ t.unfolds.next w ∙ same_next rules r.program t.config l d s a refl w)

  pub refuted_led : (u : IsTableOf rules (followed_by r l) U) × (u.config ≡ d)
  refuted_led = led rules r T U l d t a leads_on

-- the law for this step
pub refuted_step : (rules : List Rule) (r : Run) (T U : Table) (l : Label) (d : Config) (t : IsTableOf rules r T) (a : Applies rules r.program t.config l d) (at : Option ℕ)
    → Makes r.program l (slice_index t.config.next l.worker) a.site refutes → Leads T l at a.change.drawn refutes U → (u : IsTableOf rules (followed_by r l) U) × (u.config ≡ d)
refuted_step rules r T U l d t a at makes leads =
    refuted_led rules r T U l d t a makes.1.0 makes.1.1 makes.1.2 (subst (λ (x : Place). Leads T (record l { place = x }) at a.change.drawn refutes U) makes.1.1 leads)
