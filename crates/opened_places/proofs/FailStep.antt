-- Fail: the box goes with all that stands in it, and the choice that held it changes.
use Rattle.std.proofs.Common.{◌≡◌, ℕ, ◌≤◌, List, Option, Some, None, sym, ◌∙◌, ap, subst}
use Rattle.std.specs.Prelude.{slice_index}
use Rattle.akl_terms.specs.declared.name.Name.{Name}
use Rattle.akl_terms.specs.declared.name.Place.{Place}
use Rattle.akl_terms.specs.declared.program.Program.{Program}
use Rattle.akl_model.specs.declared.label.Rule.{Rule}
use Rattle.akl_model.specs.declared.label.Label.{Label}
use Rattle.akl_model.specs.Config.{IsIn, Boxes, no_boxes, Config, a_choice, Found, box_at, home_of, edited}
use Rattle.akl_model.specs.Rules.{Reading, Change, change_by}
use Rattle.akl_model.specs.Derivations.{Applies}
use Rattle.akl_model.specs.Changes.{box_names, shape_at, of_choice}
use Rattle.akl_model.specs.Wakes.{IsOneOf}
use Rattle.akl_model.proofs.Options.{some_value}
use Rattle.akl_model.proofs.Finds.{times}
use Rattle.akl_model.proofs.NamesKept.{Stand}
use Rattle.step_laws.specs.ChangedItems.{goal_of}
use Rattle.step_laws.specs.Holders.{IsHeldBy}
use Rattle.step_laws.proofs.Steps.{site_gone}
use Rattle.step_laws.proofs.Stays.{shape_held}
use Rattle.table_laws.specs.Rows.{Table}
use Rattle.table_laws.specs.Stamped.{Run, IsTableOf}
use Rattle.table_laws.specs.Steps.{fails, Makes}
use Rattle.table_laws.proofs.Gone.{left, names_gone, box_none, home_none, home_left, held_left}
use Rattle.opened_places.specs.declared.around.Holder.{Holder}
use Rattle.opened_places.specs.declared.around.Around.{Around}
use Rattle.opened_places.proofs.ListedPlaces.{listed, holder_places}
use Rattle.opened_places.specs.Exact.{IsAround, AreExactly}
use Rattle.opened_places.proofs.ChangedWays.{Way, new_goal, new_box, goal_itself, goal_box, holder_itself, holder_box, site_itself, site_holder, way}
use Rattle.opened_places.proofs.GoalTurns.{AreHolders}
use Rattle.opened_places.proofs.HolderTurns as held
use Rattle.opened_places.proofs.AtSite as site

-- Fail makes no boxes, at a box, and names no alternative
record IsFail (place : Place) (alternative : Option Name) (f : Found) (c : Change) : Type 0 where
  no_goal : (g : Name) → goal_of place alternative f ≡ Some g → ⊥
  none : c.boxes ≡ no_boxes

fail_is : (p : Program) (v : Reading) (w next : ℕ) (r : Rule) (place : Place) (alternative : Option Name) (f : Found) (c : Change) → r ≡ Rule.Fail → change_by p v w next r place alternative f ≡ Some c → IsFail place alternative f c
fail_is p v w next r place alternative f c q h = on place alternative (sym (λ i. change_by p v w next (q i) place alternative f) ∙ h)
  where
    on : (place : Place) (alternative : Option Name) → change_by p v w next Rule.Fail place alternative f ≡ Some c → IsFail place alternative f c
    on (Place.Goal g) x e = cc
    on (Place.Box n) (Some y) e = cc
    on (Place.Box n) None e = record { no_goal = λ g z. cc; none = ap (λ (k : Change). k.boxes) (sym (some_value e)) }

module _ (rules : List Rule) (r : Run) (T : Table) (l : Label) (d : Config) (t : IsTableOf rules r T) (a : Applies rules r.program t.config l d) (x : Around) (k : IsAround T l x)
    (makes : Makes r.program l (slice_index t.config.next l.worker) a.site fails) where
  s : Stand t.config
  s = site.before rules r.program r.query r.journal t.config l d t.replays a

  later : Stand d
  later = site.afterwards rules r.program r.query r.journal t.config l d t.replays a

  is_fail : IsFail l.place l.alternative a.site a.change
  is_fail = fail_is r.program a.makes.reading l.worker (slice_index t.config.next l.worker) l.rule l.place l.alternative a.site a.change makes a.makes.change

  gone : box_at a.site.content.name d.roots ≡ None
  gone = site_gone rules r.program t.config l d s a is_fail.none

  not_there : {f : Found} → box_at a.site.content.name d.roots ≡ Some f → ⊥
  not_there e = let z : box_at a.site.content.name d.roots ≡ None = gone in cc

  left_roots : edited a.site.content.name no_boxes t.config.roots ≡ d.roots
  left_roots = ap (λ (bs : Boxes). edited a.site.content.name bs t.config.roots) (sym is_fail.none) ∙ ap (λ (c : Config). c.roots) a.result

  still : (m : Name) → times m (edited a.site.content.name no_boxes t.config.roots) ≤ 1
  still m = subst (λ (bs : Boxes). times m bs ≤ 1) (sym left_roots) (later.once m)

  no_box : (m : Name) (f : Found) → box_at m t.config.roots ≡ None → box_at m d.roots ≡ Some f → ⊥
  no_box m f i j = let z : box_at m d.roots ≡ None = subst (λ (bs : Boxes). box_at m bs ≡ None) left_roots (box_none a.site.content.name t.config.roots s.once still m i) in cc

  no_goal : (g : Name) (f : Found) → home_of g t.config.roots ≡ None → home_of g d.roots ≡ Some f → ⊥
  no_goal g f i j = let z : home_of g d.roots ≡ None = subst (λ (bs : Boxes). home_of g bs ≡ None) left_roots (home_none a.site.content.name t.config.roots s.once still g i) in cc

  abbrev by : (h : Holder) → x.holder ≡ Some h → IsHeldBy a.site.content.name h.goal a.site t.config.roots
  by h e = site.held_by rules r T l d t a x k h e

  -- the choice that held the box hasn't it any more
  differs : (h : Holder) → x.holder ≡ Some h → shape_at h.goal t.config.roots ≡ shape_at h.goal d.roots → ⊥
  differs h e q = names_gone a.site.content.name (by h e).alternatives (subst (IsIn a.site.content.name) names (by h e).among)
    where
      home : home_of h.goal d.roots ≡ Some (left a.site.content.name (by h e).home)
      home = subst (λ (bs : Boxes). home_of h.goal bs ≡ Some (left a.site.content.name (by h e).home)) left_roots
          (home_left a.site.content.name t.config.roots s.once still h.goal (by h e).home (by h e).is_home (held.apart rules r T l d t a x k h e))

      is : shape_at h.goal d.roots ≡ Some (of_choice (by h e).op (box_names (edited a.site.content.name no_boxes (by h e).alternatives)))
      is = shape_held h.goal d.roots (left a.site.content.name (by h e).home) (a_choice (by h e).op (edited a.site.content.name no_boxes (by h e).alternatives)) home
          (held_left a.site.content.name t.config.roots s.once still h.goal (by h e).home (a_choice (by h e).op (by h e).alternatives) (by h e).held)

      was : shape_at h.goal t.config.roots ≡ Some (of_choice (by h e).op (box_names (by h e).alternatives))
      was = shape_held h.goal t.config.roots (by h e).home (a_choice (by h e).op (by h e).alternatives) (by h e).is_home (by h e).held

      names : box_names (by h e).alternatives ≡ box_names (edited a.site.content.name no_boxes (by h e).alternatives)
      names = let z : Some (of_choice (by h e).op (box_names (by h e).alternatives)) ≡ Some (of_choice (by h e).op (box_names (edited a.site.content.name no_boxes (by h e).alternatives))) = sym was ∙ q ∙ is in cc

  holders : AreHolders t a (holder_places x.holder)
  holders = held.holders rules r T l d t a x k differs

  listed_way : (p : Place) → Way a p → IsOneOf p (holder_places x.holder)
  listed_way _ (new_goal {g = g} {f = f} y z) = absurd (no_goal g f y z)
  listed_way _ (new_box {n = m} {f = f} y z) = absurd (no_box m f y z)
  listed_way _ (goal_itself {g = g} w z) = absurd (is_fail.no_goal g w)
  listed_way _ (goal_box g w y z) = absurd (is_fail.no_goal g w)
  listed_way _ (holder_itself {g = g} h) = holders.itself g h
  listed_way _ (holder_box g {f = f} h z) = holders.home g f h z
  listed_way _ (site_itself z) = absurd (not_there z)
  listed_way _ (site_holder z w h) = absurd (not_there z)

  pub failed : AreExactly t.config d (listed l.place x fails)
  failed = record { listed = λ p y. listed_way p (way rules r.program r.query r.journal t.config l d t.replays a p y); changed = holders.changed }
