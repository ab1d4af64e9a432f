-- What holds the box of a label's place, where the box goes or becomes two.
use Rattle.std.proofs.Common.{◌≡◌, List, [], ◌∷◌, Bool, true, false, Option, Some, None, refl, sym, ◌∙◌, ap, subst, inl, inr}
use Rattle.akl_terms.specs.declared.name.Name.{Name}
use Rattle.akl_terms.specs.declared.name.Place.{Place}
use Rattle.akl_terms.specs.Names.{same_name}
use Rattle.akl_terms.proofs.SameNames.{same_name-equal}
use Rattle.akl_model.specs.declared.label.Rule.{Rule}
use Rattle.akl_model.specs.declared.label.Label.{Label}
use Rattle.akl_model.specs.Config.{IsIn, Config, Found, a_choice, box_at, home_of}
use Rattle.akl_model.specs.Derivations.{Applies}
use Rattle.akl_model.specs.Changes.{goal_names, shape_at}
use Rattle.akl_model.specs.Wakes.{names_around, names_down_to, IsOneOf}
use Rattle.akl_model.proofs.NamesKept.{Stand, box-itself, home-box}
use Rattle.akl_model.proofs.Scoped.{IsIn-left, IsIn-right}
use Rattle.step_laws.specs.Holders.{IsHeldBy}
use Rattle.step_laws.specs.Likeness.{IsLike}
use Rattle.step_laws.proofs.Whereabouts.{found_in}
use Rattle.step_laws.proofs.Deeper.{home_found}
use Rattle.step_laws.proofs.Steps.{later_step}
use Rattle.step_laws.proofs.Stays.{like_home}
use Rattle.step_laws.proofs.GoalEdits.{HasGoal, has_names}
use Rattle.step_laws.proofs.ChangedItems.{frame_names}
use Rattle.table_laws.specs.Rows.{Table}
use Rattle.table_laws.specs.Stamped.{Run, IsTableOf}
use Rattle.table_laws.proofs.Along.{site_apart, stays_out}
use Rattle.opened_places.specs.declared.around.Holder.{Holder}
use Rattle.opened_places.specs.declared.around.Around.{Around}
use Rattle.opened_places.specs.Changed as changed
use Rattle.opened_places.specs.Changed.{IsChanged}
use Rattle.opened_places.proofs.ListedPlaces.{holder_places}
use Rattle.opened_places.specs.Exact.{IsAround}
use Rattle.opened_places.proofs.GoalTurns.{AreHolders}
use Rattle.opened_places.proofs.AtSite as site

module _ (rules : List Rule) (r : Run) (T : Table) (l : Label) (d : Config) (t : IsTableOf rules r T) (a : Applies rules r.program t.config l d) (x : Around) (k : IsAround T l x) where
  s : Stand t.config
  s = site.before rules r.program r.query r.journal t.config l d t.replays a

  later : Stand d
  later = site.afterwards rules r.program r.query r.journal t.config l d t.replays a

  -- the box of the place doesn't stand around the box of the choice that holds it, nor is it this one
  pub apart : (h : Holder) (e : x.holder ≡ Some h) → IsIn a.site.content.name (names_down_to (site.held_by rules r T l d t a x k h e).home) → ⊥
  apart h e i = site_apart rules r.program t.config l d s a (subst (IsIn a.site.content.name) (sym (site.held_by rules r T l d t a x k h e).names) i)

  module _ (h : Holder) (e : x.holder ≡ Some h) where
    abbrev by : IsHeldBy a.site.content.name h.goal a.site t.config.roots
    by = site.held_by rules r T l d t a x k h e

    home_there : box_at by.home.content.name t.config.roots ≡ Some by.home
    home_there = home-box h.goal t.config.roots by.home s.once by.is_home

    other : same_name a.site.content.name by.home.content.name ≡ false
    other = on (same_name a.site.content.name by.home.content.name) refl
      where
        on : (b : Bool) → same_name a.site.content.name by.home.content.name ≡ b → b ≡ false
        on true q = absurd (apart h e (IsIn-right a.site.content.name (names_around by.home) (by.home.content.name ∷ []) (inl (same_name-equal a.site.content.name by.home.content.name q))))
        on false q = refl

    -- the choice stays
    pub stays : (f : Found) × (home_of h.goal d.roots ≡ Some f)
    stays =
        let w : (f : Found) × (box_at by.home.content.name d.roots ≡ Some f) = stays_out rules r.program t.config l d s a by.home.content.name by.home home_there other
        (λ i. apart h e (IsIn-left a.site.content.name (names_around by.home) (by.home.content.name ∷ []) i)) in
        let n : goal_names by.home.goals ≡ goal_names w.0.goals = frame_names rules r.program t.config l d s a by.home w.0 (found_in by.home.content.name t.config.roots by.home home_there)
        (found_in by.home.content.name d.roots w.0 w.1) (box-itself by.home.content.name d.roots w.0 w.1) other in
        let v : HasGoal h.goal w.0.goals = has_names h.goal by.home.goals w.0.goals n (a_choice by.op by.alternatives, by.held) in
        (w.0, home_found d.roots later.once h.goal by.home.content.name w.0 v.0 w.1 v.1)

    pub home_named : (f : Found) → home_of h.goal d.roots ≡ Some f → f.content.name ≡ h.home
    home_named f z =
        let like : IsLike by.home f = like_home t.config d s later (later_step rules r.program t.config l d s a) h.goal by.home f by.is_home z in
        sym like.name ∙ sym (site.holder_home_is rules r T l d t a x k h by.home e by.is_home)

  -- where the choice has other alternatives
  pub holders : ((h : Holder) → x.holder ≡ Some h → shape_at h.goal t.config.roots ≡ shape_at h.goal d.roots → ⊥) → AreHolders t a (holder_places x.holder)
  holders differs = record {
    itself = λ i y.
        let w : (h : Holder) × (x.holder ≡ Some h) × (h.goal ≡ i) = site.holds_by rules r T l d t a x k i y in
        subst (λ (o : Option Holder). IsOneOf (Place.Goal i) (holder_places o)) (sym w.1) (inl (ap Place.Goal (sym w.2)));
    home = λ i f y z.
        let w : (h : Holder) × (x.holder ≡ Some h) × (h.goal ≡ i) = site.holds_by rules r T l d t a x k i y in
        subst (λ (o : Option Holder). IsOneOf (Place.Box f.content.name) (holder_places o)) (sym w.1)
        (inr (inl (ap Place.Box (home_named w.0 w.1 f (subst (λ (j : Name). home_of j d.roots ≡ Some f) (sym w.2) z)))));
    changed = λ p y. on p x.holder refl y;
  }
    where
      on : (p : Place) (o : Option Holder) → x.holder ≡ o → IsOneOf p (holder_places o) → IsChanged t.config d p
      on p None e y = absurd y
      on p (Some h) e (inl q) = subst (IsChanged t.config d) (sym q) (changed.changed_goal (by h e).is_home (stays h e).1 (differs h e))
      on p (Some h) e (inr (inl q)) = subst (IsChanged t.config d) (sym (q ∙ ap Place.Box (sym (home_named h e (stays h e).0 (stays h e).1))))
          (changed.box_of_changed_goal h.goal (by h e).is_home (stays h e).1 (differs h e))
      on p (Some h) e (inr (inr z)) = absurd z
