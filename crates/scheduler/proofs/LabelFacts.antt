-- What the labels of a plan do to places.
use Rattle.std.proofs.Common.{◌≡◌, List, [], ◌∷◌, Some, sym, subst, ◌∙◌, ◌⊎◌, inl, inr, arith, ◌≤◌}
use Rattle.std.specs.Prelude.{slice_index}
use Rattle.akl_terms.specs.declared.name.Name.{Name}
use Rattle.akl_terms.specs.declared.name.Place.{Place}
use Rattle.akl_terms.specs.declared.program.Program.{Program}
use Rattle.akl_model.specs.declared.label.Rule.{Rule}
use Rattle.akl_model.specs.declared.label.Label.{Label}
use Rattle.akl_model.specs.Config.{IsIn, Config, Found, Held, held_in, box_at, home_of, site_of}
use Rattle.akl_model.specs.Wakes.{names_around, names_down_to, StandsIn, Wait, IsOneOf, IsThere, Opens}
use Rattle.akl_model.proofs.NamesKept.{Stand, box-itself}
use Rattle.akl_model.proofs.Scoped.{IsIn-right, IsIn-either}
use Rattle.step_laws.specs.Likeness.{IsOld}
use Rattle.step_laws.specs.Whereabouts.{Stands}
use Rattle.step_laws.proofs.There.{site_there, there_site}
use Rattle.step_laws.proofs.Whereabouts.{found_in, in_found, home_in, in_home}
use Rattle.step_laws.proofs.Deeper.{Over, over, home_found}
use Rattle.step_laws.proofs.GoalEdits.{HasGoal}
use Rattle.step_laws.proofs.Steps.{Later}
use Rattle.plan_laws.specs.Runs.{Runs, IsAwake, is_open, has_open}
use Rattle.plan_laws.proofs.DownTo.{down_to, stands_down}
use Rattle.plan_laws.proofs.IdlePlaces.{awake}
use Rattle.plan_laws.specs.Waits.{AreWaits}
use Rattle.table_laws.specs.Going.{IsGone, boxes_going}
use Rattle.table_laws.specs.Writes.{IsGoalInsideOne}
use Rattle.table_laws.specs.Stamped.{IsTableOf}
use Rattle.table_laws.specs.Steps as laws
use Rattle.table_laws.proofs.Insides.{held_directly}
use Rattle.box_tree.specs.Tables.{all_rules, TableValue, table_of}
use Rattle.box_tree.specs.Views.{run_of}
use Rattle.opened_places.specs.Placed.{PlacedValue}
use Rattle.opened_places.specs.Gone.{AreAllGone}
use Rattle.opened_places.specs.Leading.{LeadsTo}
use Rattle.opened_places.proofs.GoneBy.{gone_by}
use Rattle.opened_places.proofs.Leading.{site_by, is_site_by, stands_by, later_by}
use Rattle.opened_places.proofs.OpenedWays.{opens_law}
use Rattle.opened_places.proofs.StillAround.{still_around, changed_there}
use Rattle.scheduler.specs.Openings.{name_at}
use Rattle.scheduler.specs.Effects.{AreOpenedBy}
use Rattle.scheduler.proofs.CommitFacts.{CommitFacts, stands_there}
use Rattle.scheduler.proofs.Leading as leading
use Rattle.scheduler.proofs.Starting.{drawn_there}

-- a box in which something stands is there
module _ (c : Config) (s : Stand c) where
  box_there : (n : Name) (f : Found) → Stands f c.roots → n ≡ f.content.name → IsThere (Place.Box n) c.roots
  box_there n f x e = site_there (Place.Box n) c.roots f (subst (λ (m : Name). box_at m c.roots ≡ Some f) (sym e) (in_found c.roots f s.once x))

  down_there : (n : Name) (f : Found) → Stands f c.roots → IsIn n (names_down_to f) → IsThere (Place.Box n) c.roots
  down_there n f x i = elim (IsIn-either n (names_around f) (f.content.name ∷ []) i) [
    | inl j ↦ let o : Over n f c.roots = over n f c.roots x j in box_there n o.outer o.stands o.named
    | inr j ↦ elim j [ inl e ↦ box_there n f x e | inr z ↦ absurd z ]
  ]

  site_stands : (place : Place) (f : Found) → site_of place c.roots ≡ Some f → Stands f c.roots
  site_stands (Place.Box n) f e = found_in n c.roots f e
  site_stands (Place.Goal g) f e = (home_in g c.roots f e).0

  pub within_there : (n : Name) (place : Place) → StandsIn n c.roots place → IsThere (Place.Box n) c.roots
  within_there n place h = let w : (f : Found) × (site_of place c.roots ≡ Some f) × IsIn n (names_down_to f) = down_to n c.roots place (inr h) in down_there n w.0 (site_stands place w.0 w.1) w.2

-- a place that is there later under a name that was drawn was there
was_there : (c d : Config) → Stand c → Stand d → Later c d → (place : Place) → IsOld c (name_at place) → IsThere place d.roots → IsThere place c.roots
was_there c d s t w (Place.Box n) o h =
    let f : (f : Found) × (box_at n d.roots ≡ Some f) = there_site (Place.Box n) d.roots h in
    let same : n ≡ f.0.content.name = box-itself n d.roots f.0 f.1 in
    elim (w.each f.0 (found_in n d.roots f.0 f.1)) [
      | inl x ↦ absurd (x.name (subst (IsOld c) same o))
      | inr x ↦ box_there c s n x.before x.stood (same ∙ sym x.like.name)
    ]
was_there c d s t w (Place.Goal g) o h =
    let f : (f : Found) × (home_of g d.roots ≡ Some f) = there_site (Place.Goal g) d.roots h in
    let k : Stands f.0 d.roots × HasGoal g f.0.goals = home_in g d.roots f.0 f.1 in
    elim (w.each f.0 k.0) [
      | inl x ↦ absurd (x.goals g k.1 o)
      | inr x ↦ let b : HasGoal g x.before.goals = x.goals g k.1 o in site_there (Place.Goal g) c.roots x.before (in_home g b.0 c.roots x.before s.once x.stood b.1)
    ]

awake_goal : (rules : List Rule) (p : Program) (c : Config) (now : List Place) (place : Place) (g : Name) → place ≡ Place.Goal g → IsAwake rules p c now place → IsOneOf place now
awake_goal rules p c now place g e (is_open o) = o
awake_goal rules p c now _ g e (has_open other only_split o s) = cc

module _ (v : TableValue) (journal : List Label) (t : IsTableOf all_rules (run_of v journal) (table_of v)) (l : Label) (more : List Label) (step : laws.Step) (d : Config) (w : LeadsTo v.program t.config l more step d)
    (gone : List Place) (all_gone : AreAllGone t.config d gone) (before : List Place) (kept : List Wait) (run : Runs all_rules v.program v.query journal t.config before kept) (waits : AreWaits t.config before kept)
    (ps : List PlacedValue) (effects : AreOpenedBy t.config d kept ps) where
  abbrev c : Config
  c = t.config

  s : Stand c
  s = leading.stands v journal t l more step d

  u : Stand d
  u = stands_by v.program c l more step d s w

  later : Later c d
  later = later_by v.program c l more step d s w

  unopened : (place : Place) → IsOneOf place before → (IsThere place d.roots → ⊥) → Opens kept c d place → ⊥
  unopened place i m o = elim ((opens_law kept c d place).0 o) [
    | inl k ↦ m (changed_there c d s u later place k)
    | inr y ↦ elim y [ inl k ↦ waits.closed place k.variable k.kept i | inr k ↦ m (stands_there k.box d.roots place k.stands) ]
  ]

  within : (g : Name) → IsOneOf (Place.Goal g) gone → (Place.Goal g ≡ l.place) ⊎ ((n : Name) × IsOneOf (Place.Box n) gone × StandsIn n c.roots (Place.Goal g))
  within g i = elim ((gone_by (run_of v journal) (table_of v) t l more step d w (Place.Goal g)).0 (all_gone.gone (Place.Goal g) i)) [
    | inl k ↦ inl (sym k.1)
    | inr k ↦ inr (k.inside.box, box_gone k, in_box k)
  ]
    where
      is_gone : (k : IsGoalInsideOne (table_of v) (boxes_going (table_of v) step l.place l.alternative) g) → IsGone c d (Place.Box k.inside.box)
      is_gone k = (gone_by (run_of v journal) (table_of v) t l more step d w (Place.Box k.inside.box)).1 (record { alternative = k.alternative; goes = k.goes; inside = k.inside.inside })

      box_gone : (k : IsGoalInsideOne (table_of v) (boxes_going (table_of v) step l.place l.alternative) g) → IsOneOf (Place.Box k.inside.box) gone
      box_gone k = all_gone.listed (Place.Box k.inside.box) (is_gone k)

      in_box : (k : IsGoalInsideOne (table_of v) (boxes_going (table_of v) step l.place l.alternative) g) → StandsIn k.inside.box c.roots (Place.Goal g)
      in_box k =
          let f : (f : Found) × (box_at k.inside.box c.roots ≡ Some f) = there_site (Place.Box k.inside.box) c.roots (is_gone k).was in
          let h : (h : Held) × (held_in g f.0.goals ≡ Some h) = held_directly (table_of v) c t.unfolds s.once k.inside.box g f.0 f.1 k.inside.goal in
          stands_down g c.roots f.0 k.inside.box (home_found c.roots s.once g k.inside.box f.0 h.0 f.1 h.1)
          (IsIn-right k.inside.box (names_around f.0) (f.0.content.name ∷ []) (inl (box-itself k.inside.box c.roots f.0 f.1)))

  pub commit_facts : CommitFacts c d l.place before kept ps gone
  commit_facts = record {
    still = still_around c d s u later;
    old = was_there c d s u later;
    grows = λ n o. let x : slice_index c.next n.worker ≤ slice_index d.next n.worker = later.next n.worker in omega arith;
    drawn = drawn_there d u;
    was_drawn = drawn_there c s;
    within = within_there d u;
    own_there = site_there l.place c.roots (site_by v.program c l more step d w) (is_site_by v.program c l more step d w);
    own_open = λ g e. awake_goal all_rules v.program c before l.place g e (awake all_rules v.program v.query journal c before kept run l.place (leading.ready v journal t l more step d w g e));
    waits = waits;
    unopened = unopened;
    effects = effects;
    gone_listed = λ place h m. all_gone.listed place (record { was = h; gone = m });
    was_there = λ place i. (all_gone.gone place i).was;
    is_gone = λ place i. (all_gone.gone place i).gone;
    gone_within = within;
  }
