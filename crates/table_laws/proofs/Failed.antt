-- A table after Fail: the box has gone, with all that stood in it.
use Rattle.std.proofs.Common.{◌≡◌, ℕ, ◌≤◌, List, [], ◌∷◌, Option, Some, None, refl, sym, ◌∙◌, ap, subst, ◌⊎◌, inl, inr}
use Rattle.std.specs.Prelude.{option_map, option_and_then, slice_index}
use Rattle.akl_terms.specs.declared.name.Name.{Name}
use Rattle.akl_terms.specs.declared.name.Place.{Place}
use Rattle.akl_terms.specs.declared.program.Program.{Program}
use Rattle.akl_model.specs.declared.label.Rule.{Rule}
use Rattle.akl_model.specs.declared.label.Label.{Label}
use Rattle.akl_model.specs.Config.{IsIn, Boxes, no_boxes, Goals, Config, Held, held_in, Found, box_at, home_of, site_of, edited, edited_inside}
use Rattle.akl_model.specs.Rules.{Reading, Change, change_by}
use Rattle.akl_model.specs.Derivations.{Applies}
use Rattle.akl_model.specs.Changes.{shape_of, shape_at, box_names}
use Rattle.akl_model.specs.Wakes.{names_around, names_down_to}
use Rattle.akl_model.proofs.Options.{none_or, some_value}
use Rattle.akl_model.proofs.Finds.{times}
use Rattle.akl_model.proofs.NamesKept.{Stand, replay-stands, stands_after, box-itself}
use Rattle.akl_model.proofs.Scoped.{IsIn-right}
use Rattle.step_laws.proofs.Whereabouts.{home_in}
use Rattle.step_laws.proofs.Decide.{in_or}
use Rattle.step_laws.proofs.Edits.{edited_held}
use Rattle.step_laws.proofs.Stays.{shape_held}
use Rattle.table_laws.specs.Rows.{BoxRow, GoalRow, Table}
use Rattle.table_laws.specs.Unfolds.{FailsBy, IsBoxRow, spot_of}
use Rattle.table_laws.specs.Stamped.{Run, followed_by, IsTableOf}
use Rattle.table_laws.specs.Steps.{fails}
use Rattle.table_laws.specs.Inside.{IsInside, IsGoalInside}
use Rattle.table_laws.specs.Writes.{IsInsideOne, IsGoalInsideOne, Fails, Leads}
use Rattle.table_laws.proofs.Along.{same_next}
use Rattle.table_laws.proofs.Frame.{row_of, KeepsRows, KeepsBoxes}
use Rattle.table_laws.proofs.Onward.{IsMark, GoalGoes, LeadsOn}
use Rattle.table_laws.proofs.Marked.{led}
use Rattle.table_laws.proofs.Insides.{spot_held, spot_none, inside, not_inside, goal_inside, not_goal_inside}
use Rattle.table_laws.proofs.Gone.{left, box_left, box_was, box_gone, box_none, held_left, home_left, home_gone, home_none}
use Rattle.table_laws.proofs.Going.{AreGoing}
use Rattle.table_laws.proofs.Loses.{GoalLoses, IsLeft, is_left}

-- Fail makes no boxes, and draws no names
nothing_made : (p : Program) (v : Reading) (w next : ℕ) (r : Rule) (place : Place) (alternative : Option Name) (f : Found) (c : Change) (n : Name) → r ≡ Rule.Fail → place ≡ Place.Box n
    → change_by p v w next r place alternative f ≡ Some c → c ≡ record { boxes = no_boxes; drawn = 0 }
nothing_made p v w next r place alternative f c n q e h = at alternative (sym (λ i. change_by p v w next (q i) (e i) alternative f) ∙ h)
  where
    at : (x : Option Name) → change_by p v w next Rule.Fail (Place.Box n) x f ≡ Some c → c ≡ record { boxes = no_boxes; drawn = 0 }
    at None k = sym (some_value k)
    at (Some y) k = cc

module _ (rules : List Rule) (r : Run) (T : Table) (l : Label) (d : Config) (t : IsTableOf rules r T) (a : Applies rules r.program t.config l d) (n : Name) (place : l.place ≡ Place.Box n)
    (is_fail : l.rule ≡ Rule.Fail) where
  abbrev c : Config
  c = t.config

  s : Stand c
  s = replay-stands rules r.program r.query r.journal t.config t.replays

  later : Stand d
  later = stands_after rules r.program t.config l d s a

  there : box_at n t.config.roots ≡ Some a.site
  there = subst (λ (x : Place). site_of x t.config.roots ≡ Some a.site) place a.is_site

  name : n ≡ a.site.content.name
  name = box-itself n t.config.roots a.site there

  made : a.change ≡ record { boxes = no_boxes; drawn = 0 }
  made = nothing_made r.program a.makes.reading l.worker (slice_index t.config.next l.worker) l.rule l.place l.alternative a.site a.change n is_fail place a.makes.change

  roots : edited n no_boxes t.config.roots ≡ d.roots
  roots = (λ i. edited (name i) (sym made i).boxes t.config.roots) ∙ ap (λ (x : Config). x.roots) a.result

  still : (m : Name) → times m (edited n no_boxes t.config.roots) ≤ 1
  still m = subst (λ (x : Boxes). times m x ≤ 1) (sym roots) (later.once m)

  -- what is found afterwards, and what was

  box_after : (k : Name) (e : Found) → box_at k t.config.roots ≡ Some e → (IsIn n (names_down_to e) → ⊥) → box_at k d.roots ≡ Some (left n e)
  box_after k e i h = subst (λ (x : Boxes). box_at k x ≡ Some (left n e)) roots (box_left n t.config.roots s.once still k e i h)

  -- a box that is found in both
  record Both (k : Name) (e g : Found) : Type 0 where
    apart : IsIn n (names_down_to e) → ⊥
    same : left n e ≡ g

  both : (k : Name) (e g : Found) → box_at k t.config.roots ≡ Some e → box_at k d.roots ≡ Some g → Both k e g
  both k e g i j = record { apart = apart; same = some_value (sym (box_after k e i apart) ∙ j) }
    where
      found : (gs : Goals) × (box_at k t.config.roots ≡ Some (record { around = g.around; content = g.content; goals = gs })) × (IsIn n (names_down_to g) → ⊥)
      found = box_was n t.config.roots s.once still k g (subst (λ (x : Boxes). box_at k x ≡ Some g) (sym roots) j)

      apart : IsIn n (names_down_to e) → ⊥
      apart h = found.2 (subst (λ (x : Found). IsIn n (names_down_to x)) (some_value (sym i ∙ found.1)) h)

  stays_gone : (k : Name) → box_at k t.config.roots ≡ None → box_at k d.roots ≡ None
  stays_gone k e = subst (λ (x : Boxes). box_at k x ≡ None) roots (box_none n t.config.roots s.once still k e)

  gone : box_at n d.roots ≡ None
  gone = subst (λ (x : Boxes). box_at n x ≡ None) roots (box_gone n t.config.roots s.once still n a.site there (IsIn-right n (names_around a.site) (a.site.content.name ∷ []) (inl name)))

  home_after : (g : Name) (e : Found) → home_of g t.config.roots ≡ Some e → (IsIn n (names_down_to e) → ⊥) → home_of g d.roots ≡ Some (left n e)
  home_after g e i h = subst (λ (x : Boxes). home_of g x ≡ Some (left n e)) roots (home_left n t.config.roots s.once still g e i h)

  no_shape : (g : Name) (bs : Boxes) → home_of g bs ≡ None → shape_at g bs ≡ None
  no_shape g bs e = ap (option_and_then (λ (x : Found). option_map shape_of (held_in g x.goals))) e

  -- the box goes with all that stands inside it, and nothing else

  not_under : (k : Name) (e : Found) → box_at k t.config.roots ≡ Some e → (IsIn n (names_down_to e) → ⊥) → IsInsideOne T (n ∷ []) k → ⊥
  not_under k e i h x = elim x.goes [ inl q ↦ not_inside T t.config t.unfolds s.once n k a.site e there i h (subst (λ (m : Name). IsInside T m k) q x.inside) | inr z ↦ z ]

  not_goal_under : (g : Name) (e : Found) → home_of g t.config.roots ≡ Some e → (IsIn n (names_down_to e) → ⊥) → IsGoalInsideOne T (n ∷ []) g → ⊥
  not_goal_under g e i h x = elim x.goes [ inl q ↦ not_goal_inside T t.config t.unfolds s.once n g a.site e there i h (subst (λ (m : Name). IsGoalInside T m g) q x.inside) | inr z ↦ z ]

  pub fail_going : (Own : Name → Type 0) → ((i : Name) → Own i → ⊥) → AreGoing T t.config d (n ∷ []) Own
  fail_going Own none = record {
    box = λ k e i. elim (in_or n (names_down_to e)) [
      | inl h ↦ inl (record { alternative = n; goes = inl refl; inside = inside T t.config t.unfolds s.once n k e i h }, subst (λ (x : Boxes). box_at k x ≡ None) roots (box_gone n t.config.roots s.once still k e i h))
      | inr h ↦ inr (not_under k e i h, (left n e, box_after k e i h))
    ];
    goal = λ g e i. elim (in_or n (names_down_to e)) [
      | inl h ↦ inl (
        inr (record { alternative = n; goes = inl refl; inside = goal_inside T t.config t.unfolds s.once n g e i h }),
        subst (λ (x : Boxes). home_of g x ≡ None) roots (home_gone n t.config.roots s.once still g e i h),
      )
      | inr h ↦ inr (λ x. elim x [ inl y ↦ none g y | inr y ↦ not_goal_under g e i h y ], (left n e, home_after g e i h))
    ];
    outer_there = λ m i. elim i [ inl q ↦ (a.site, ap (λ (x : Name). box_at x t.config.roots) q ∙ there) | inr z ↦ absurd z ];
    own_there = λ i x. absurd (none i x);
  }

  module _ (U : Table) (f : Fails T U n) where
    losing : IsLeft T U t.config n
    losing = is_left T U t.config t.unfolds s.once n still a.site there f

    -- rows

    keeps : KeepsRows a T U
    keeps = record {
      nodes = f.nodes;
      steps = f.steps;
      rows = λ k e g row q i j x.
          let b : Both k e g = both k e g i j in
          let w : (v : BoxRow) × (T.box_of k ≡ Some v) × IsBoxRow T t.config.roots e v = row_of T t.config t.unfolds k e i in
          let fails_by : FailsBy e.goals row.failing = subst (λ (v : BoxRow). FailsBy e.goals v.failing) (some_value (sym w.1 ∙ x)) w.2.failing in
          let v : (o : Option Name) × (U.box_of k ≡ Some (record row { failing = o })) × FailsBy (edited_inside n no_boxes e.goals) o = losing.box_left k e row i b.apart x fails_by in
          (v.0, v.1, subst (λ (z : Found). FailsBy z.goals v.0) b.same v.2);
    }

    boxes_kept : KeepsBoxes a T U
    boxes_kept = record {
      keeps = keeps;
      site = λ g e. let z : box_at n d.roots ≡ Some g = subst (λ (k : Name). box_at k d.roots ≡ Some g) (sym name) e in absurd (not_both (sym gone ∙ z));
    }
      where
        not_both : {g : Found} → None ≡ Some g → ⊥
        not_both e = cc

    gone_box : (k : Name) → box_at k d.roots ≡ None → U.box_of k ≡ None
    gone_box k j = on (none_or (box_at k t.config.roots))
      where
        on : (box_at k t.config.roots ≡ None) ⊎ ((e : Found) × (box_at k t.config.roots ≡ Some e)) → U.box_of k ≡ None
        on (inl i) = losing.box_none k i
        on (inr v) = elim (in_or n (names_down_to v.0)) [
          | inl h ↦ f.box_goes k (inside T t.config t.unfolds s.once n k v.0 v.1 h)
          | inr h ↦ (let z : box_at k d.roots ≡ Some (left n v.0) = box_after k v.0 v.1 h in cc)
        ]

    -- goals

    goal_goes : (g : Name) → GoalGoes T U t.config d g
    goal_goes g = on (none_or (home_of g t.config.roots))
      where
        stays : (e : Found) → home_of g t.config.roots ≡ Some e → (IsIn n (names_down_to e) → ⊥) → (k : Held) → held_in g e.goals ≡ Some k → GoalLoses T U n g e k → GoalGoes T U t.config d g
        stays e i h k j x = by x
          where
            after : held_in g (left n e).goals ≡ Some (edited_held n no_boxes k)
            after = held_left n t.config.roots s.once still g e k j

            was : shape_at g t.config.roots ≡ Some (shape_of k)
            was = shape_held g t.config.roots e k i j

            is : shape_at g d.roots ≡ Some (shape_of (edited_held n no_boxes k))
            is = shape_held g d.roots (left n e) (edited_held n no_boxes k) (home_after g e i h) after

            by : GoalLoses T U n g e k → GoalGoes T U t.config d g
            by (inl y) = inl (y.0, was ∙ ap Some y.1 ∙ sym is)
            by (inr y) = inr (
              ap (option_map spot_of) y.1 ∙ ap Some y.2 ∙ sym (spot_held g d.roots (left n e) (edited_held n no_boxes k) (home_after g e i h) after),
              λ row z. (ap (λ (v : GoalRow). v.changed) (some_value (sym z ∙ y.1)) ∙ y.3, λ q. y.4 (some_value (sym was ∙ q ∙ is))),
            )

        goes : home_of g d.roots ≡ None → U.goal_of g ≡ None → GoalGoes T U t.config d g
        goes i j = inr (ap (option_map spot_of) j ∙ sym (spot_none g d.roots i), λ row z. absurd cc)

        on : (home_of g t.config.roots ≡ None) ⊎ ((e : Found) × (home_of g t.config.roots ≡ Some e)) → GoalGoes T U t.config d g
        on (inl i) = inl (losing.goal_none g i, no_shape g t.config.roots i ∙ sym (no_shape g d.roots (subst (λ (x : Boxes). home_of g x ≡ None) roots (home_none n t.config.roots s.once still g i))))
        on (inr v) = elim (in_or n (names_down_to v.0)) [
          | inl h ↦ goes (subst (λ (x : Boxes). home_of g x ≡ None) roots (home_gone n t.config.roots s.once still g v.0 v.1 h)) (f.goal_goes g (goal_inside T t.config t.unfolds s.once n g v.0 v.1 h))
          | inr h ↦ (let k : (k : Held) × (held_in g v.0.goals ≡ Some k) = (home_in g t.config.roots v.0 v.1).1 in stays v.0 v.1 h k.0 k.1 (losing.goal_left g v.0 k.0 v.1 h k.1))
        ]

    next_now : (w : ℕ) → slice_index U.next w ≡ slice_index d.next w
    next_now w = f.next w ∙ t.unfolds.next w ∙ same_next rules r.program t.config l d s a (ap (λ (x : Change). x.drawn) made) w

    pub leads_on : LeadsOn a T U
    leads_on = record {
      boxes = boxes_kept;
      site_marks = λ r k i j. (let z : U.box_of a.site.content.name ≡ None = subst (λ (m : Name). U.box_of m ≡ None) name (gone_box n gone) in absurd cc);
      new_boxes = λ k g i j. (let z : box_at k d.roots ≡ None = stays_gone k i in absurd cc);
      gone_boxes = gone_box;
      goals = goal_goes;
      roots = losing.roots ∙ ap box_names roots;
      root_mark = subst (λ (x : Boxes). IsMark T.steps (box_names t.config.roots ≡ box_names x → ⊥) T.roots_changed U.roots_changed) roots losing.root_mark;
      next = next_now;
    }

-- the step of a label of Fail
pub failed_step : (rules : List Rule) (r : Run) (T U : Table) (l : Label) (d : Config) (t : IsTableOf rules r T) (a : Applies rules r.program t.config l d) (at : Option ℕ) (drawn : ℕ) → l.rule ≡ Rule.Fail
    → Leads T l at drawn fails U → (u : IsTableOf rules (followed_by r l) U) × (u.config ≡ d)
failed_step rules r T U l d t a at drawn rule x = on l.place refl x
  where
    on : (place : Place) → l.place ≡ place → Leads T (record l { place = place }) at drawn fails U → (u : IsTableOf rules (followed_by r l) U) × (u.config ≡ d)
    on (Place.Goal g) e y = absurd y
    on (Place.Box n) e y = led rules r T U l d t a (leads_on rules r T l d t a n e rule U y)
