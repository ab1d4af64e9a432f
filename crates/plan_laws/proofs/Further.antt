-- Configurations of which the second is the first but for one box, and with nothing new.
use Rattle.std.proofs.Common.{◌≡◌, ℕ, ◌≤◌, List, [], ◌∷◌, ◌++◌, Some, refl, sym, ◌∙◌, ap, subst, inl, inr}
use Rattle.std.specs.Prelude.{option_map}
use Rattle.akl_terms.specs.declared.name.Name.{Name}
use Rattle.akl_terms.specs.declared.name.Place.{Place}
use Rattle.akl_model.specs.declared.label.Label.{Label}
use Rattle.akl_model.specs.Config.{IsIn, Content, Boxes, Goals, Config, held_in, a_choice, Found, box_at, home_of}
use Rattle.akl_model.specs.Changes.{box_names, shape_of, shape_at, goals_at, constraint_of, constraint_at, Constraint, Adds}
use Rattle.akl_model.specs.Wakes.{boxes_around, names_down_to, names_around, IsThere, holder_in}
use Rattle.akl_model.proofs.Finds.{times}
use Rattle.akl_model.proofs.NamesKept.{Stand, stands_after, box-itself}
use Rattle.akl_model.proofs.Options.{some_value}
use Rattle.constraint_laws.proofs.SameTerms.{name_or}
use Rattle.step_laws.specs.Holders.{IsHeldBy, IsAlternativeAt}
use Rattle.step_laws.specs.Likeness.{IsLike}
use Rattle.step_laws.specs.Whereabouts.{Stands}
use Rattle.step_laws.proofs.Deeper.{named_found}
use Rattle.step_laws.proofs.GoalEdits.{HasGoal}
use Rattle.step_laws.proofs.Holders.{held_around, holder_there, alternative_at}
use Rattle.step_laws.proofs.Stays.{choice_shape, shape_home, like_box, like_home}
use Rattle.step_laws.proofs.Steps.{Later, later_itself, later_trans, later_step, old_box, old_goal}
use Rattle.step_laws.proofs.There.{there_site, site_there}
use Rattle.step_laws.proofs.Whereabouts.{found_in, home_in, in_home}
use Rattle.plan_laws.proofs.CallAlternatives.{Calling}
use Rattle.plan_laws.proofs.BodySteps.{homed, IsReduction, Reduces, rests, reduces}
use Rattle.plan_laws.proofs.GoalLabels.{shape_kept, store_kept, set_kept}

pub record IsFurther (h : Name) (c d : Config) : Type 0 where
  pub later : Later c d
  pub boxes : (n : Name) (f : Found) → box_at n d.roots ≡ Some f → (e : Found) × (box_at n c.roots ≡ Some e)
  pub homes : (g : Name) (f : Found) → home_of g d.roots ≡ Some f → (e : Found) × (home_of g c.roots ≡ Some e)
  pub shapes : (g : Name) (f : Found) → home_of g d.roots ≡ Some f → shape_at g c.roots ≡ shape_at g d.roots
  pub stores : (n : Name) (f : Found) → (n ≡ h → ⊥) → box_at n d.roots ≡ Some f → constraint_at n c.roots ≡ constraint_at n d.roots
  pub sets : (n : Name) (f : Found) → (n ≡ h → ⊥) → box_at n d.roots ≡ Some f → goals_at n c.roots ≡ goals_at n d.roots

pub further_itself : (h : Name) (c : Config) → IsFurther h c c
further_itself h c = record { later = later_itself c; boxes = λ n f i. (f, i); homes = λ g f i. (f, i); shapes = λ g f i. refl; stores = λ n f o i. refl; sets = λ n f o i. refl }

pub further_trans : (h : Name) (c d e : Config) → IsFurther h c d → IsFurther h d e → IsFurther h c e
further_trans h c d e x y = record {
  later = later_trans c d e x.later y.later;
  boxes = λ n f i. let w : (k : Found) × (box_at n d.roots ≡ Some k) = y.boxes n f i in x.boxes n w.0 w.1;
  homes = λ g f i. let w : (k : Found) × (home_of g d.roots ≡ Some k) = y.homes g f i in x.homes g w.0 w.1;
  shapes = λ g f i. let w : (k : Found) × (home_of g d.roots ≡ Some k) = y.homes g f i in x.shapes g w.0 w.1 ∙ y.shapes g f i;
  stores = λ n f o i. let w : (k : Found) × (box_at n d.roots ≡ Some k) = y.boxes n f i in x.stores n w.0 o w.1 ∙ y.stores n f o i;
  sets = λ n f o i. let w : (k : Found) × (box_at n d.roots ≡ Some k) = y.boxes n f i in x.sets n w.0 o w.1 ∙ y.sets n f o i;
}

-- as a goal of a body goes
pub further_step : (k : Calling) (m : ℕ) (b : Content) (gs : Goals) (l : Label) (b1 : Content) (gs1 : Goals) → IsReduction k m b gs l b1 gs1 → b.name ≡ k.home.content.name → Stand (homed k m b gs)
    → IsFurther k.home.content.name (homed k m b gs) (homed k m b1 gs1)
further_step k m b gs l b1 gs1 x its s = record {
  later = z;
  boxes = boxes;
  homes = homes;
  shapes = λ g f i. shape_kept k.rules k.program (homed k m b gs) l (homed k m b1 gs1) s x.applies one x.goal x.place x.gone g (homes g f i).0 f (homes g f i).1 i;
  stores = λ n f o i. store_kept k.rules k.program (homed k m b gs) l (homed k m b1 gs1) s x.applies one x.goal x.place x.gone n (boxes n f i).0 f (λ q. o (q ∙ home)) (boxes n f i).1 i;
  sets = λ n f o i. set_kept k.rules k.program (homed k m b gs) l (homed k m b1 gs1) s x.applies one x.goal x.place x.gone n (boxes n f i).0 f (λ q. o (q ∙ home)) (boxes n f i).1 i;
}
  where
    t : Stand (homed k m b1 gs1)
    t = stands_after k.rules k.program (homed k m b gs) l (homed k m b1 gs1) s x.applies

    z : Later (homed k m b gs) (homed k m b1 gs1)
    z = later_step k.rules k.program (homed k m b gs) l (homed k m b1 gs1) s x.applies

    home : x.applies.site.content.name ≡ k.home.content.name
    home = ap (λ (f : Found). f.content.name) x.site ∙ its

    one : box_names x.applies.change.boxes ≡ x.applies.site.content.name ∷ []
    one = x.one ∙ ap (λ (n : Name). n ∷ []) (sym home)

    boxes : (n : Name) (f : Found) → box_at n (homed k m b1 gs1).roots ≡ Some f → (e : Found) × (box_at n (homed k m b gs).roots ≡ Some e)
    boxes n f i =
        let y : Stands f (homed k m b1 gs1).roots = found_in n (homed k m b1 gs1).roots f i in
        elim (z.each f y) [
          | inl w ↦ absurd (w.name (old_box (homed k m b1 gs1) t f y))
          | inr w ↦ (w.before, named_found (homed k m b gs).roots s.once n w.before w.stood (box-itself n (homed k m b1 gs1).roots f i ∙ sym w.like.name))
        ]

    homes : (g : Name) (f : Found) → home_of g (homed k m b1 gs1).roots ≡ Some f → (e : Found) × (home_of g (homed k m b gs).roots ≡ Some e)
    homes g f i =
        let y : Stands f (homed k m b1 gs1).roots × HasGoal g f.goals = home_in g (homed k m b1 gs1).roots f i in
        elim (z.each f y.0) [
          | inl w ↦ absurd (w.goals g y.1 (old_goal (homed k m b1 gs1) t g f y.0 y.1))
          | inr w ↦ let v : HasGoal g w.before.goals = w.goals g y.1 (old_goal (homed k m b1 gs1) t g f y.0 y.1) in (w.before, in_home g v.0 (homed k m b gs).roots w.before s.once w.stood v.1)
        ]

-- what is in both has the same boxes around it
pub around_same : (h : Name) (c d : Config) (s : Stand c) (t : Stand d) (x : IsFurther h c d) (place : Place) → IsThere place d.roots → boxes_around place c.roots ≡ boxes_around place d.roots
around_same h c d s t x (Place.Goal g) there =
    let f : (f : Found) × (home_of g d.roots ≡ Some f) = there_site (Place.Goal g) d.roots there in
    let e : (e : Found) × (home_of g c.roots ≡ Some e) = x.homes g f.0 f.1 in
    let like : IsLike e.0 f.0 = like_home c d s t x.later g e.0 f.0 e.1 f.1 in
    ap (option_map names_down_to) e.1 ∙ (λ i. Some (like.around i ++ like.name i ∷ [])) ∙ sym (ap (option_map names_down_to) f.1)
around_same h c d s t x (Place.Box n) there =
    let f : (f : Found) × (box_at n d.roots ≡ Some f) = there_site (Place.Box n) d.roots there in
    let e : (e : Found) × (box_at n c.roots ≡ Some e) = x.boxes n f.0 f.1 in
    let like : IsLike e.0 f.0 = like_box c d s t x.later e.0 f.0 (found_in n c.roots e.0 e.1) (found_in n d.roots f.0 f.1) (sym (box-itself n c.roots e.0 e.1) ∙ box-itself n d.roots f.0 f.1) in
    ap (option_map names_around) e.1 ∙ ap Some like.around ∙ sym (ap (option_map names_around) f.1)

pub there_further : (h : Name) (c d : Config) → IsFurther h c d → (place : Place) → IsThere place d.roots → IsThere place c.roots
there_further h c d x (Place.Goal g) there =
    let f : (f : Found) × (home_of g d.roots ≡ Some f) = there_site (Place.Goal g) d.roots there in
    let e : (e : Found) × (home_of g c.roots ≡ Some e) = x.homes g f.0 f.1 in
    site_there (Place.Goal g) c.roots e.0 e.1
there_further h c d x (Place.Box n) there =
    let f : (f : Found) × (box_at n d.roots ≡ Some f) = there_site (Place.Box n) d.roots there in
    let e : (e : Found) × (box_at n c.roots ≡ Some e) = x.boxes n f.0 f.1 in
    site_there (Place.Box n) c.roots e.0 e.1

-- a goal of one shape holds the same boxes
pub held_alike : (c d : Boxes) (once : (m : Name) → times m c ≤ 1) (again : (m : Name) → times m d ≤ 1) (n g : Name) (f : Found) → home_of g d ≡ Some f → shape_at g c ≡ shape_at g d → holder_in n c ≡ Some g → IsAlternativeAt n g f d
held_alike c d once again n g f i same j =
    let e : (e : Found) × (box_at n c ≡ Some e) = holder_there c n g j in
    let u : IsHeldBy n g e.0 c = held_around c once n g e.0 e.1 j in
    let v : (cs : Boxes) × (held_in g f.goals ≡ Some (a_choice u.op cs)) × (box_names u.alternatives ≡ box_names cs) = choice_shape u.op u.alternatives (held_in g f.goals)
    (sym (shape_home g c u.home u.is_home ∙ ap (option_map shape_of) u.held) ∙ same ∙ shape_home g d f i) in
    alternative_at d again n g f u.op v.0 i v.1 (subst (IsIn n) v.2 u.among)

-- equations are added to no other box
pub adds_further : (h : Name) (c d : Config) → IsFurther h c d → (n : Name) → Adds c d n → n ≡ h
adds_further h c d x n a = elim (name_or n h) [
  | inl q ↦ q
  | inr o ↦
      let u : constraint_of a.before ≡ constraint_of a.afterwards = some_value (sym (ap (option_map constraint_of) a.was) ∙ x.stores n a.afterwards o a.is ∙ ap (option_map constraint_of) a.is) in
      absurd (a.more (ap (λ (k : Constraint). k.equations) (sym u)))
]

-- along the labels of a body
pub further_along : (k : Calling) (m : ℕ) (b : Content) (gs : Goals) (ls : List Label) (b2 : Content) (gs2 : Goals) → Reduces k m b gs ls b2 gs2 → b.name ≡ k.home.content.name → Stand (homed k m b gs)
    → IsFurther k.home.content.name (homed k m b gs) (homed k m b2 gs2)
further_along k m _ _ _ _ _ (rests b gs) its s = further_itself k.home.content.name (homed k m b gs)
further_along k m _ _ _ _ _ (reduces b gs l b1 gs1 ls b2 gs2 x y) its s = further_trans k.home.content.name (homed k m b gs) (homed k m b1 gs1) (homed k m b2 gs2) (further_step k m b gs l b1 gs1 x its s)
    (further_along k m b1 gs1 ls b2 gs2 y (x.name ∙ its) (stands_after k.rules k.program (homed k m b gs) l (homed k m b1 gs1) s x.applies))
