-- A label by which its goal goes: its box changes, and what holds this, and goals come.
use Rattle.std.proofs.Common.{◌≡◌, List, ◌∷◌, ◌++◌, Some, None, sym, ◌∙◌, subst}
use Rattle.std.specs.Prelude.{slice_index}
use Rattle.akl_terms.specs.declared.name.Name.{Name}
use Rattle.akl_terms.specs.declared.name.Place.{Place}
use Rattle.akl_model.specs.declared.label.Rule.{Rule}
use Rattle.akl_model.specs.declared.label.Label.{Label}
use Rattle.akl_model.specs.Config.{IsIn, Config, Found, box_at, home_of}
use Rattle.akl_model.specs.Derivations.{Applies}
use Rattle.akl_model.specs.Wakes.{holder_in}
use Rattle.akl_model.proofs.Options.{some_value}
use Rattle.step_laws.specs.ChangedItems.{goal_of, IsReplaced}
use Rattle.step_laws.proofs.Becomes.{BecomesAt}
use Rattle.step_laws.proofs.Steps.{site_now}
use Rattle.table_laws.specs.Rows.{Table}
use Rattle.table_laws.specs.Stamped.{Run, IsTableOf}
use Rattle.table_laws.proofs.Along.{holder_stays}
use Rattle.opened_places.specs.declared.around.Around.{Around}
use Rattle.opened_places.specs.Gone.{goals_named}
use Rattle.opened_places.proofs.ListedPlaces.{holder_place}
use Rattle.opened_places.specs.Exact.{IsAround, AreExactly}
use Rattle.opened_places.proofs.ChangedWays.{Way, new_goal, new_box, goal_itself, goal_box, holder_itself, holder_box, site_itself, site_holder, way}
use Rattle.opened_places.proofs.GoesFrom as from
use Rattle.opened_places.proofs.GoesFrom.{exactly_goes}
use Rattle.opened_places.proofs.AtSite as site

module _ (rules : List Rule) (r : Run) (T : Table) (l : Label) (d : Config) (t : IsTableOf rules r T) (a : Applies rules r.program t.config l d) (x : Around) (k : IsAround T l x)
    (g : Name) (place : l.place ≡ Place.Goal g) (gone : home_of g d.roots ≡ None) (names : List Name)
    (no_box : (m : Name) (f : Found) → box_at m t.config.roots ≡ None → box_at m d.roots ≡ Some f → ⊥)
    (goal_in : (i : Name) (f : Found) → home_of i t.config.roots ≡ None → home_of i d.roots ≡ Some f → IsIn i names)
    (in_goal : (i : Name) → IsIn i names → (home_of i t.config.roots ≡ None) × ((f : Found) × (home_of i d.roots ≡ Some f))) where
  at : BecomesAt l.worker (slice_index t.config.next l.worker) l.place l.alternative a.site a.change
  at = site.at_goal rules r.program r.query r.journal t.config l d t.replays a g place

  its_goal : goal_of l.place l.alternative a.site ≡ Some g
  its_goal = site.its_goal rules r.program r.query r.journal t.config l d t.replays a g place

  was : box_at a.site.content.name t.config.roots ≡ Some a.site
  was = site.was_there rules r.program r.query r.journal t.config l d t.replays a

  now : box_at a.site.content.name d.roots ≡ Some (site_now at.0)
  now = site.now_there rules r.program r.query r.journal t.config l d t.replays a g at.0 at.1 its_goal

  unreplaced : IsReplaced a → ⊥
  unreplaced = site.not_replaced rules r.program r.query r.journal t.config l d t.replays a g place

  same_holder : holder_in a.site.content.name t.config.roots ≡ holder_in a.site.content.name d.roots
  same_holder = holder_stays rules r.program r.query r.journal t.config l d t.replays a a.site.content.name a.site (site_now at.0) was now

  its : {i : Name} → goal_of l.place l.alternative a.site ≡ Some i → g ≡ i
  its w = some_value (sym its_goal ∙ w)

  not_there : (i : Name) (f : Found) → g ≡ i → home_of i d.roots ≡ Some f → ⊥
  not_there i f e z = let y : home_of i d.roots ≡ None = subst (λ (j : Name). home_of j d.roots ≡ None) e gone in absurd cc

  from_it : (p : Place) → Way a p → from.Way t.config d a.site.content.name p
  from_it _ (new_goal y z) = from.comes y z
  from_it _ (new_box {n = n} {f = f} y z) = absurd (no_box n f y z)
  from_it _ (goal_itself {g = i} {f = f} w z) = absurd (not_there i f (its w) z)
  from_it _ (goal_box i {f = f} w y z) = absurd (not_there i f (its w) z)
  from_it _ (holder_itself h) = absurd (unreplaced h.replaced)
  from_it _ (holder_box i h z) = absurd (unreplaced h.replaced)
  from_it _ (site_itself z) = from.itself
  from_it _ (site_holder z w h) = from.holder h

  pub exactly : AreExactly t.config d (Place.Box x.home ∷ (holder_place x.holder ++ goals_named names))
  exactly = exactly_goes t.config d x a.site (site_now at.0) was now (site.names_differ rules r.program r.query r.journal t.config l d t.replays a g at.0 at.1 its_goal gone)
      (site.home_is rules r T l d t a x k) (site.holder_is rules r T l d t a x k ∙ same_holder) (λ p y. from_it p (way rules r.program r.query r.journal t.config l d t.replays a p y)) names goal_in in_goal
