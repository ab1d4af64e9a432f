-- A label by which a goal becomes another one: this and its box change, boxes and goals come, and what holds the box may change.
use Rattle.std.proofs.Common.{◌≡◌, List, [], ◌∷◌, ◌++◌, Some, None, refl, sym, ◌∙◌, ap, subst, inl, inr}
use Rattle.std.specs.Prelude.{slice_index}
use Rattle.akl_terms.specs.declared.name.Name.{Name}
use Rattle.akl_terms.specs.declared.name.Place.{Place}
use Rattle.akl_model.specs.declared.label.Rule.{Rule}
use Rattle.akl_model.specs.declared.label.Label.{Label}
use Rattle.akl_model.specs.Config.{IsIn, Config, Found, box_at, home_of}
use Rattle.akl_model.specs.Derivations.{Applies}
use Rattle.akl_model.specs.Changes.{goals_at, shape_at}
use Rattle.akl_model.specs.Wakes.{IsOneOf}
use Rattle.akl_model.proofs.Options.{some_value}
use Rattle.step_laws.specs.ChangedItems.{goal_of, IsReplaced}
use Rattle.step_laws.proofs.Becomes.{BecomesAt}
use Rattle.step_laws.proofs.Steps.{site_now}
use Rattle.table_laws.specs.Rows.{Table}
use Rattle.table_laws.specs.Stamped.{Run, IsTableOf}
use Rattle.opened_places.specs.declared.around.Around.{Around}
use Rattle.opened_places.specs.Changed as changed
use Rattle.opened_places.specs.Changed.{IsChanged}
use Rattle.opened_places.specs.Exact.{IsAround, AreExactly}
use Rattle.opened_places.proofs.Members.{one_left, one_right, one_either, part_places, part_boxes, part_goals, box_one, goal_one, one_part}
use Rattle.opened_places.proofs.ChangedWays.{HoldsSite, Way, new_goal, new_box, goal_itself, goal_box, holder_itself, holder_box, site_itself, site_holder, way}
use Rattle.opened_places.proofs.AtSite as site

-- what comes: these boxes, and these goals
pub record Comes (c d : Config) (boxes goals : List Name) : Type 0 where
  pub box_in : (m : Name) (f : Found) → box_at m c.roots ≡ None → box_at m d.roots ≡ Some f → IsIn m boxes
  pub in_box : (m : Name) → IsIn m boxes → (box_at m c.roots ≡ None) × ((f : Found) × (box_at m d.roots ≡ Some f))
  pub goal_in : (i : Name) (f : Found) → home_of i c.roots ≡ None → home_of i d.roots ≡ Some f → IsIn i goals
  pub in_goal : (i : Name) → IsIn i goals → (home_of i c.roots ≡ None) × ((f : Found) × (home_of i d.roots ≡ Some f))

-- these places are those of what holds the box of the label's place, where that is replaced
pub record AreHolders {rules : List Rule} {r : Run} {T : Table} {l : Label} {d : Config} (t : IsTableOf rules r T) (a : Applies rules r.program t.config l d) (held : List Place) : Type 0 where
  pub itself : (i : Name) → HoldsSite a i → IsOneOf (Place.Goal i) held
  pub home : (i : Name) (f : Found) → HoldsSite a i → home_of i d.roots ≡ Some f → IsOneOf (Place.Box f.content.name) held
  pub changed : (p : Place) → IsOneOf p held → IsChanged t.config d p

pub no_holders : {rules : List Rule} {r : Run} {T : Table} {l : Label} {d : Config} (t : IsTableOf rules r T) (a : Applies rules r.program t.config l d) → (IsReplaced a → ⊥) → AreHolders t a []
no_holders t a n = record { itself = λ i h. absurd (n h.replaced); home = λ i f h z. absurd (n h.replaced); changed = λ p z. absurd z }

module _ (rules : List Rule) (r : Run) (T : Table) (l : Label) (d : Config) (t : IsTableOf rules r T) (a : Applies rules r.program t.config l d) (x : Around) (k : IsAround T l x)
    (g : Name) (is_goal : goal_of l.place l.alternative a.site ≡ Some g) (at : BecomesAt l.worker (slice_index t.config.next l.worker) l.place l.alternative a.site a.change)
    (there : (f : Found) × (home_of g d.roots ≡ Some f)) (same : goals_at a.site.content.name t.config.roots ≡ goals_at a.site.content.name d.roots)
    (held : List Place) (holders : AreHolders t a held) (parts : List (Name × List Name)) (comes : Comes t.config d (part_boxes parts) (part_goals parts)) where
  abbrev the_list : List Place
  the_list = Place.Goal g ∷ Place.Box x.home ∷ (held ++ part_places parts)

  home_is : x.home ≡ a.site.content.name
  home_is = site.home_is rules r T l d t a x k

  was : home_of g t.config.roots ≡ Some a.site
  was = site.home_was rules r.program r.query r.journal t.config l d t.replays a g at.0 at.1 is_goal

  now : (f : Found) → home_of g d.roots ≡ Some f → site_now at.0 ≡ f
  now = site.home_now rules r.program r.query r.journal t.config l d t.replays a g at.0 at.1 is_goal

  differs : shape_at g t.config.roots ≡ shape_at g d.roots → ⊥
  differs = site.differs rules r.program r.query r.journal t.config l d t.replays a g at.0 at.1 is_goal there.0 there.1

  its : {i : Name} → goal_of l.place l.alternative a.site ≡ Some i → i ≡ g
  its w = some_value (sym w ∙ is_goal)

  -- the name of the box in which the goal is afterwards
  named : (i : Name) (f : Found) → i ≡ g → home_of i d.roots ≡ Some f → f.content.name ≡ x.home
  named i f e z = sym (ap (λ (v : Found). v.content.name) (now f (subst (λ (j : Name). home_of j d.roots ≡ Some f) e z))) ∙ at.0.keeps.name ∙ sym home_is

  listed : (p : Place) → Way a p → IsOneOf p the_list
  listed _ (new_goal {g = i} {f = f} y z) = inr (inr (one_right (Place.Goal i) held (part_places parts) (goal_one i parts (comes.goal_in i f y z))))
  listed _ (new_box {n = n} {f = f} y z) = inr (inr (one_right (Place.Box n) held (part_places parts) (box_one n parts (comes.box_in n f y z))))
  listed _ (goal_itself {g = i} w z) = inl (ap Place.Goal (its w))
  listed _ (goal_box i {f = f} w y z) = inr (inl (ap Place.Box (named i f (its w) z)))
  listed _ (holder_itself {g = i} h) = inr (inr (one_left (Place.Goal i) held (part_places parts) (holders.itself i h)))
  listed _ (holder_box i {f = f} h z) = inr (inr (one_left (Place.Box f.content.name) held (part_places parts) (holders.home i f h z)))
  listed _ (site_itself z) = inr (inl (ap Place.Box (sym home_is)))
  listed _ (site_holder z w h) = absurd (w same)

  changed_part : (p : Place) → IsOneOf p (part_places parts) → IsChanged t.config d p
  changed_part p y = elim (one_part p parts y) [
    | inl (m, e, i) ↦ (let v : (box_at m t.config.roots ≡ None) × ((f : Found) × (box_at m d.roots ≡ Some f)) = comes.in_box m i in subst (IsChanged t.config d) (sym e) (changed.new_box v.0 v.1.1))
    | inr (j, e, i) ↦ (let v : (home_of j t.config.roots ≡ None) × ((f : Found) × (home_of j d.roots ≡ Some f)) = comes.in_goal j i in subst (IsChanged t.config d) (sym e) (changed.new_goal v.0 v.1.1))
  ]

  pub exactly : AreExactly t.config d the_list
  exactly = record {
    listed = λ p y. listed p (way rules r.program r.query r.journal t.config l d t.replays a p y);
    changed = λ p y. elim y [
      | inl e ↦ subst (IsChanged t.config d) (sym e) (changed.changed_goal was there.1 differs)
      | inr (inl e) ↦ subst (IsChanged t.config d) (sym (e ∙ ap Place.Box (sym (named g there.0 refl there.1)))) (changed.box_of_changed_goal g was there.1 differs)
      | inr (inr z) ↦ elim (one_either p held (part_places parts) z) [ inl v ↦ holders.changed p v | inr v ↦ changed_part p v ]
    ];
  }
