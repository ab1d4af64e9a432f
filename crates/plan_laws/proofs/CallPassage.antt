-- The labels of a call at once from its promotion on, each as a passage to the net change.
use Rattle.std.proofs.Common.{◌≡◌, ℕ, ◌+◌, List, [], ◌∷◌, ◌++◌, length, Some, None, refl, sym, ◌∙◌, ap, subst}
use Rattle.std.specs.Prelude.{slice_index}
use Rattle.akl_terms.specs.declared.name.Name.{Name}
use Rattle.akl_terms.specs.declared.name.Place.{Place}
use Rattle.akl_terms.specs.declared.program.Program.{Program}
use Rattle.akl_terms.specs.Equal.{IsConsistent}
use Rattle.akl_model.specs.declared.label.Rule.{Rule}
use Rattle.akl_model.specs.declared.label.Label.{Label}
use Rattle.akl_model.specs.Config.{Content, Boxes, box, no_boxes, Goals, no_goals, Config, a_choice, without_goal, Found, equations_of, box_at, home_of}
use Rattle.akl_model.specs.Instances.{drawn_by, with_atoms}
use Rattle.akl_model.specs.Rules.{joining}
use Rattle.akl_model.specs.Changes.{box_names, goal_names, Adds}
use Rattle.akl_model.specs.Wakes.{IsThere, Wait, Opens}
use Rattle.akl_model.proofs.NamesKept.{Stand, stands_after}
use Rattle.akl_model.proofs.Options.{none_where}
use Rattle.step_laws.proofs.Steps.{later_step}
use Rattle.step_laws.proofs.There.{there_site}
use Rattle.step_laws.proofs.Whereabouts.{in_found}
use Rattle.plan_laws.specs.AtOnce.{by, with_named, IsAtOnce, at_once, AreInForce}
use Rattle.plan_laws.specs.Untold.{KeepEquations}
use Rattle.plan_laws.proofs.Afterwards.{home_left, box_left}
use Rattle.plan_laws.proofs.CallAlternatives.{Calling, between, IsNewName, AreNew, IsPassing, its_goal, new_goal, new_box}
use Rattle.plan_laws.proofs.Between.{stands_now, is_choice, found}
use Rattle.plan_laws.proofs.BodySteps.{homed, home_with, IsReduction, Reduces, stand_reduced, name_reduced, frames_reduced}
use Rattle.plan_laws.proofs.Calls.{calling, forked, last_stand, last_new, promoted, promoted_one, joined_stand, behind}
use Rattle.plan_laws.proofs.Further.{IsFurther, further_along}
use Rattle.plan_laws.proofs.GoalLabels.{adds_here, shape_kept}
use Rattle.plan_laws.proofs.OpensAlike.{alike_back, net_opens}
use Rattle.plan_laws.proofs.CallsOutside.{Before, alike_some, outside}
use Rattle.plan_laws.proofs.Passages.{Passage, adds_all, all_box, opens_first, opens_then}
use Rattle.plan_laws.proofs.Sifted.{joined_to}

-- the call's box, as it is found
pub homed_found : (k : Calling) (m : ℕ) (b : Content) (gs : Goals) → Stand (homed k m b gs) → b.name ≡ k.home.content.name → box_at k.home.content.name (homed k m b gs).roots ≡ Some (home_with k b gs)
homed_found k m b gs s its = subst (λ (n : Name). box_at n (homed k m b gs).roots ≡ Some (home_with k b gs)) its (in_found (homed k m b gs).roots (home_with k b gs) s.once (stands_now k.config k.stand k.goal k.home k.is_home b gs))

-- a label of the body, and those behind it
pub body_passage : (k : Calling) (m : ℕ) (b : Content) (gs : Goals) (l : Label) (b1 : Content) (gs1 : Goals) (ls : List Label) (b2 : Content) (gs2 : Goals) → IsReduction k m b gs l b1 gs1 → Reduces k m b1 gs1 ls b2 gs2
    → b.name ≡ k.home.content.name → Stand (homed k m b gs) → IsConsistent (equations_of k.home.around ++ b2.equations) → Passage k.home.content.name (homed k m b gs) (homed k m b1 gs1) (homed k m b2 gs2)
body_passage k m b gs l b1 gs1 ls b2 gs2 x y its s good = record {
  stand = s;
  stand_between = t;
  stand_after = u;
  around = k.home.around;
  first = b;
  first_goals = gs;
  middle = b1;
  middle_goals = gs1;
  last = b2;
  last_goals = gs2;
  was = homed_found k m b gs s its;
  between = homed_found k m b1 gs1 t (x.name ∙ its);
  is = homed_found k m b2 gs2 u (name_reduced k m b1 gs1 ls b2 gs2 y ∙ x.name ∙ its);
  goal = x.goal;
  had = (x.held, x.is_held);
  gone = x.gone;
  later = later_step k.rules k.program (homed k m b gs) l (homed k m b1 gs1) s x.applies;
  adds = λ n a. adds_here k.rules k.program (homed k m b gs) l (homed k m b1 gs1) s x.applies one x.goal x.place x.gone n a ∙ home;
  shapes = λ g e f i j. shape_kept k.rules k.program (homed k m b gs) l (homed k m b1 gs1) s x.applies one x.goal x.place x.gone g e f i j;
  further = further_along k m b1 gs1 ls b2 gs2 y (x.name ∙ its) t;
  frames = frames_reduced k m b1 gs1 ls b2 gs2 y;
  consistent = good;
}
  where
    t : Stand (homed k m b1 gs1)
    t = stands_after k.rules k.program (homed k m b gs) l (homed k m b1 gs1) s x.applies

    u : Stand (homed k m b2 gs2)
    u = stand_reduced k m b1 gs1 ls b2 gs2 y t

    home : x.applies.site.content.name ≡ k.home.content.name
    home = ap (λ (f : Found). f.content.name) x.site ∙ its

    one : box_names x.applies.change.boxes ≡ x.applies.site.content.name ∷ []
    one = x.one ∙ ap (λ (n : Name). n ∷ []) (sym home)

module _ (rules : List Rule) (force : AreInForce rules) (p : Program) (c : Config) (s : Stand c) (w : ℕ) (g : Name) (f : Found) (is_home : home_of g c.roots ≡ Some f) (x : IsAtOnce p c w g f) (Claim : Type 0)
    (keeps : Claim → KeepEquations p w (slice_index c.next w + drawn_by x.called.clauses) f (forked rules force p c s w g f is_home x) x.sift_labels x.left x.sifts) where
  abbrev pub k : Calling
  k = calling rules force p c s w g f is_home x

  abbrev pub last : Boxes
  last = box x.last no_goals no_boxes

  abbrev pub promote : Label
  promote = by w Rule.Promote (Place.Goal g) (Some x.last.name)

  abbrev pub drawn : ℕ
  drawn = drawn_by x.called.clauses + length x.last.body

  abbrev pub body_goals : Goals
  body_goals = with_atoms w (slice_index c.next w + drawn_by x.called.clauses) x.last.body (without_goal g f.goals)

  before_it : Stand (between k last)
  before_it = last_stand rules force p c s w g f is_home x Claim keeps

  new_names : AreNew k last
  new_names = last_new rules force p c s w g f is_home x Claim keeps

  pub joined_stands : Stand (joined_to k x.last)
  joined_stands = joined_stand rules force p c s w g f is_home x Claim keeps

  pub told_behind : Reduces k drawn (joining x.last f.content) body_goals x.body_labels x.after (with_named x.goals_left (without_goal g f.goals))
  told_behind = behind rules force p c s w g f is_home x Claim keeps

  pub end_stands : Stand (at_once x)
  end_stands = stand_reduced k drawn (joining x.last f.content) body_goals x.body_labels x.after (with_named x.goals_left (without_goal g f.goals)) told_behind joined_stands

  pub end_further : IsFurther f.content.name (joined_to k x.last) (at_once x)
  end_further = further_along k drawn (joining x.last f.content) body_goals x.body_labels x.after (with_named x.goals_left (without_goal g f.goals)) told_behind refl joined_stands

  -- what goes with the call isn't there at the end
  pub box_gone : (n : Name) (e : Found) → box_at n (at_once x).roots ≡ Some e → IsNewName k n → ⊥
  box_gone n e i = let u : (u : Found) × (box_at n (joined_to k x.last).roots ≡ Some u) = end_further.boxes n e i in box_left k x.last n u.0 u.1

  pub goal_gone : (i : Name) (e : Found) → home_of i (at_once x).roots ≡ Some e → (IsNewName k i → ⊥) × (i ≡ k.goal → ⊥)
  goal_gone i e j = let u : (u : Found) × (home_of i (joined_to k x.last).roots ≡ Some u) = end_further.homes i e j in home_left k x.last i u.0 u.1

  pub passed : (place : Place) → IsPassing k place → IsThere place (at_once x).roots → ⊥
  passed _ its_goal h = let e : (e : Found) × (home_of k.goal (at_once x).roots ≡ Some e) = there_site (Place.Goal k.goal) (at_once x).roots h in (goal_gone k.goal e.0 e.1).1 refl
  passed _ (new_goal m n) h = let e : (e : Found) × (home_of m (at_once x).roots ≡ Some e) = there_site (Place.Goal m) (at_once x).roots h in (goal_gone m e.0 e.1).0 n
  passed _ (new_box m n) h = let e : (e : Found) × (box_at m (at_once x).roots ≡ Some e) = there_site (Place.Box m) (at_once x).roots h in box_gone m e.0 e.1 n

  -- the promotion, and the labels behind it
  pub passage : Passage f.content.name (between k last) (joined_to k x.last) (at_once x)
  passage = record {
    stand = before_it;
    stand_between = joined_stands;
    stand_after = end_stands;
    around = f.around;
    first = f.content;
    first_goals = _;
    middle = joining x.last f.content;
    middle_goals = body_goals;
    last = x.after;
    last_goals = with_named x.goals_left (without_goal g f.goals);
    was = found c s g f is_home k.body x.held x.op last (between k last).next before_it;
    between = homed_found k drawn (joining x.last f.content) body_goals joined_stands refl;
    is = homed_found k drawn x.after (with_named x.goals_left (without_goal g f.goals)) end_stands (name_reduced k drawn (joining x.last f.content) body_goals x.body_labels x.after (with_named x.goals_left (without_goal g f.goals)) told_behind);
    goal = g;
    had = (a_choice x.op last, is_choice c s g f is_home k.body x.held x.op last (between k last).next);
    gone = none;
    later = later_step rules p (between k last) promote (joined_to k x.last) before_it (promoted rules force p c s w g f is_home x Claim keeps);
    adds = λ n a. adds_here rules p (between k last) promote (joined_to k x.last) before_it (promoted rules force p c s w g f is_home x Claim keeps) one.0 g refl none n a ∙ one.1;
    shapes = λ i e u j v. shape_kept rules p (between k last) promote (joined_to k x.last) before_it (promoted rules force p c s w g f is_home x Claim keeps) one.0 g refl none i e u j v;
    further = end_further;
    frames = frames_reduced k drawn (joining x.last f.content) body_goals x.body_labels x.after (with_named x.goals_left (without_goal g f.goals)) told_behind;
    consistent = x.consistent;
  }
    where
      none : home_of g (joined_to k x.last).roots ≡ None
      none = none_where (home_of g (joined_to k x.last).roots) (λ e i. (home_left k x.last g e i).1 refl)

      one : (box_names (promoted rules force p c s w g f is_home x Claim keeps).change.boxes ≡ (promoted rules force p c s w g f is_home x Claim keeps).site.content.name ∷ [])
          × ((promoted rules force p c s w g f is_home x Claim keeps).site.content.name ≡ f.content.name)
      one = promoted_one rules force p c s w g f is_home x Claim keeps

  -- the box of the call afterwards
  pub end_home : box_at f.content.name (at_once x).roots ≡ Some (record { around = f.around; content = x.after; goals = with_named x.goals_left (without_goal g f.goals) })
  end_home = homed_found k drawn x.after (with_named x.goals_left (without_goal g f.goals)) end_stands
      (name_reduced k drawn (joining x.last f.content) body_goals x.body_labels x.after (with_named x.goals_left (without_goal g f.goals)) told_behind)

  -- equations are added to it alone
  pub adds_net : (n : Name) → Adds c (at_once x) n → n ≡ f.content.name
  adds_net n y =
      let b : Before (λ (u v : Goals). goal_names v ≡ goal_names u) (box_at n (between k last).roots) y.before = alike_some (λ (u v : Goals). goal_names v ≡ goal_names u) (box_at n (between k last).roots) (box_at n c.roots) y.before
      (alike_back (λ (u v : Goals). goal_names u ≡ goal_names v) (λ (u v : Goals). goal_names v ≡ goal_names u) (λ u v q. q) (box_at n c.roots) (box_at n (between k last).roots) ((outside k last before_it new_names).boxes n (box_gone n y.afterwards y.is))) y.was in
      adds_all f.content.name (between k last) (joined_to k x.last) (at_once x) passage [] n
      (record { before = b.before; afterwards = y.afterwards; was = b.found; is = y.is; more = λ q. y.more (q ∙ ap (λ (e : Content). e.equations) b.content) })

  module _ (waits : List Wait) where
    -- the call's box is opened
    pub box_opens : Opens waits c (at_once x) (Place.Box f.content.name)
    box_opens = net_opens k last before_it new_names (at_once x) box_gone goal_gone waits (Place.Box f.content.name) (all_box f.content.name (between k last) (joined_to k x.last) (at_once x) passage waits)

    -- what the promotion opens, and is there at the end, the net change opens, and so with what is opened from there on
    pub promote_opens : (place : Place) → IsThere place (at_once x).roots → Opens waits (between k last) (joined_to k x.last) place → Opens waits c (at_once x) place
    promote_opens place there o = net_opens k last before_it new_names (at_once x) box_gone goal_gone waits place (opens_first f.content.name (between k last) (joined_to k x.last) (at_once x) passage waits place there o)

    pub behind_opens : (place : Place) → IsThere place (at_once x).roots → Opens waits (joined_to k x.last) (at_once x) place → Opens waits c (at_once x) place
    behind_opens place there o = net_opens k last before_it new_names (at_once x) box_gone goal_gone waits place (opens_then f.content.name (between k last) (joined_to k x.last) (at_once x) passage waits place there o)
