-- The ways in which a call at once changes a place: the labels up to its promotion change nothing that is there in the end, and this and the labels behind it change its box alone.
use Rattle.std.proofs.Common.{◌≡◌, ℕ, List, [], ◌∷◌, Option, Some, None, refl, sym, ◌∙◌, subst, inl, inr}
use Rattle.akl_terms.specs.declared.name.Name.{Name}
use Rattle.akl_terms.specs.declared.name.Place.{Place}
use Rattle.akl_terms.specs.declared.program.Program.{Program}
use Rattle.constraint_laws.proofs.SameTerms.{name_or}
use Rattle.akl_model.specs.declared.label.Rule.{Rule}
use Rattle.akl_model.specs.declared.label.Label.{Label}
use Rattle.akl_model.specs.Config.{Boxes, box, no_boxes, Goals, no_goals, Config, held_in, Found, box_at, home_of}
use Rattle.akl_model.specs.Changes.{box_names, goal_names, shape_at, goals_at, constraint_at}
use Rattle.akl_model.specs.Wakes.{holder_in}
use Rattle.akl_model.specs.Derivations.{Applies}
use Rattle.akl_model.proofs.NamesKept.{Stand}
use Rattle.akl_model.proofs.Options.{none_where}
use Rattle.step_laws.specs.Stays.{HaveShape}
use Rattle.plan_laws.specs.AtOnce.{by, IsAtOnce, at_once, AreInForce}
use Rattle.plan_laws.proofs.Afterwards.{home_left}
use Rattle.plan_laws.proofs.CallAlternatives.{Calling, between, AreNew}
use Rattle.plan_laws.proofs.CallPassage.{passage, end_further, box_gone, goal_gone}
use Rattle.plan_laws.proofs.Calls.{calling, last_stand, last_new, promoted, promoted_one}
use Rattle.plan_laws.proofs.Elsewhere.{Alike, neither, both}
use Rattle.plan_laws.proofs.Further.{IsFurther}
use Rattle.plan_laws.proofs.GoalLabels.{store_kept, set_kept}
use Rattle.plan_laws.proofs.OpensAlike.{other_name}
use Rattle.plan_laws.proofs.CallsOutside.{alike_constraint, alike_names, alike_shape, outside}
use Rattle.plan_laws.proofs.Passages.{Passage}
use Rattle.plan_laws.proofs.Sifted.{joined_to}
use Rattle.opened_places.specs.Changed.{IsChanged, new_goal, new_box, changed_goal, box_of_changed_goal, changed_constraint, changed_goals, holder_of_changed_goals}
use Rattle.opened_places.proofs.GoesFrom.{Way, comes, itself, holder}

abbrev SameNames : Goals → Goals → Type 0
SameNames u v = goal_names u ≡ goal_names v

abbrev SameShape : Name → Goals → Goals → Type 0
SameShape g u v = HaveShape (held_in g u) (held_in g v)

alike_there : (R : Goals → Goals → Type 0) (x y : Option Found) (e : Found) → Alike R x y → x ≡ Some e → (f : Found) × (y ≡ Some f)
alike_there R _ _ e neither i = cc
alike_there R _ _ e (both a b gs hs r) i = (record { around = a; content = b; goals = hs }, refl)

module _ (rules : List Rule) (force : AreInForce rules) (p : Program) (c : Config) (s : Stand c) (w : ℕ) (g : Name) (f : Found) (is_home : home_of g c.roots ≡ Some f) (x : IsAtOnce p c w g f) where
  abbrev d : Config
  d = at_once x

  abbrev k : Calling
  k = calling rules force p c s w g f is_home x

  abbrev last : Boxes
  last = box x.last no_goals no_boxes

  -- before the promotion and after it
  abbrev m : Config
  m = between k last

  abbrev j : Config
  j = joined_to k x.last

  abbrev promote : Label
  promote = by w Rule.Promote (Place.Goal g) (Some x.last.name)

  m_stands : Stand m
  m_stands = last_stand rules force p c s w g f is_home x ⊥ (λ z. absurd z)

  m_names : AreNew k last
  m_names = last_new rules force p c s w g f is_home x ⊥ (λ z. absurd z)

  passed : Passage f.content.name m j d
  passed = passage rules force p c s w g f is_home x ⊥ (λ z. absurd z)

  further : IsFurther f.content.name j d
  further = end_further rules force p c s w g f is_home x ⊥ (λ z. absurd z)

  leads : Applies rules p m promote j
  leads = promoted rules force p c s w g f is_home x ⊥ (λ z. absurd z)

  one : (box_names leads.change.boxes ≡ leads.site.content.name ∷ []) × (leads.site.content.name ≡ f.content.name)
  unfolding leads
  one = promoted_one rules force p c s w g f is_home x ⊥ (λ z. absurd z)

  -- what is there in the end stood alike before the call and before its promotion
  boxes_alike : (n : Name) (e : Found) → box_at n d.roots ≡ Some e → Alike SameNames (box_at n c.roots) (box_at n m.roots)
  boxes_alike n e i = (outside k last m_stands m_names).boxes n (box_gone rules force p c s w g f is_home x ⊥ (λ z. absurd z) n e i)

  homes_alike : (i : Name) (e : Found) → home_of i d.roots ≡ Some e → Alike (SameShape i) (home_of i c.roots) (home_of i m.roots)
  homes_alike i e y =
      (outside k last m_stands m_names).homes i (goal_gone rules force p c s w g f is_home x ⊥ (λ z. absurd z) i e y).0 (other_name k i (goal_gone rules force p c s w g f is_home x ⊥ (λ z. absurd z) i e y).1)

  -- goals keep their shapes
  shape_stays : (i : Name) (e u : Found) → home_of i c.roots ≡ Some e → home_of i d.roots ≡ Some u → shape_at i c.roots ≡ shape_at i d.roots
  shape_stays i e u y z =
      let was : (v : Found) × (home_of i m.roots ≡ Some v) = alike_there (SameShape i) (home_of i c.roots) (home_of i m.roots) e (homes_alike i u z) y in
      let is : (v : Found) × (home_of i j.roots ≡ Some v) = further.homes i u z in
      alike_shape i (home_of i c.roots) (home_of i m.roots) (homes_alike i u z) ∙ passed.shapes i was.0 is.0 was.1 is.1 ∙ further.shapes i u z

  -- other boxes keep their equations and their sets of goals
  goes : home_of g j.roots ≡ None
  goes = none_where (home_of g j.roots) (λ e i. (home_left k x.last g e i).1 refl)

  module _ (n : Name) (e u : Found) (other : n ≡ f.content.name → ⊥) (y : box_at n c.roots ≡ Some e) (z : box_at n d.roots ≡ Some u) where
    was_there : (v : Found) × (box_at n m.roots ≡ Some v)
    was_there = alike_there SameNames (box_at n c.roots) (box_at n m.roots) e (boxes_alike n u z) y

    is_there : (v : Found) × (box_at n j.roots ≡ Some v)
    is_there = further.boxes n u z

    aside : n ≡ leads.site.content.name → ⊥
    aside q = other (q ∙ one.1)

    constraint_stays : constraint_at n c.roots ≡ constraint_at n d.roots
    constraint_stays = alike_constraint SameNames (box_at n c.roots) (box_at n m.roots) (boxes_alike n u z)
        ∙ store_kept rules p m promote j m_stands leads one.0 g refl goes n was_there.0 is_there.0 aside was_there.1 is_there.1 ∙ further.stores n u other z

    set_stays : goals_at n c.roots ≡ goals_at n d.roots
    set_stays = alike_names (box_at n c.roots) (box_at n m.roots) (boxes_alike n u z)
        ∙ set_kept rules p m promote j m_stands leads one.0 g refl goes n was_there.0 is_there.0 aside was_there.1 is_there.1 ∙ further.sets n u other z

  module _ (no_box : (n : Name) (e : Found) → box_at n c.roots ≡ None → box_at n d.roots ≡ Some e → ⊥) where
    its_box : (n : Name) → n ≡ f.content.name → Way c d f.content.name (Place.Box n)
    its_box n q = subst (λ (v : Name). Way c d f.content.name (Place.Box v)) (sym q) itself

    pub call_way : (place : Place) → IsChanged c d place → Way c d f.content.name place
    call_way _ (new_goal y z) = comes y z
    call_way _ (new_box {n} {f = e} y z) = absurd (no_box n e y z)
    call_way _ (changed_goal {g = i} {e} {f = u} y z v) = absurd (v (shape_stays i e u y z))
    call_way _ (box_of_changed_goal i {e} {f = u} y z v) = absurd (v (shape_stays i e u y z))
    call_way _ (changed_constraint {n} {e} {f = u} y z v) = elim (name_or n f.content.name) [ inl q ↦ its_box n q | inr o ↦ absurd (v (constraint_stays n e u o y z)) ]
    call_way _ (changed_goals {n} {e} {f = u} y z v) = elim (name_or n f.content.name) [ inl q ↦ its_box n q | inr o ↦ absurd (v (set_stays n e u o y z)) ]
    call_way _ (holder_of_changed_goals n {g = i} {e} {f = u} y z v h) =
        elim (name_or n f.content.name) [ inl q ↦ holder (subst (λ (b : Name). holder_in b d.roots ≡ Some i) q h) | inr o ↦ absurd (v (set_stays n e u o y z)) ]
