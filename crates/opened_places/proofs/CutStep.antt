-- Cut: the choice loses alternatives, and nothing comes.
use Rattle.std.proofs.Common.{◌≡◌, ℕ, List, [], ◌∷◌, Option, Some, sym, ◌∙◌, ap, subst, inl, inr}
use Rattle.std.specs.Prelude.{option_map, slice_index}
use Rattle.akl_terms.specs.declared.name.Name.{Name}
use Rattle.akl_terms.specs.declared.name.Place.{Place}
use Rattle.akl_model.specs.Config.{Operator}
use Rattle.akl_terms.specs.declared.program.Program.{Program}
use Rattle.akl_model.specs.declared.label.Rule.{Rule}
use Rattle.akl_model.specs.declared.label.Label.{Label}
use Rattle.akl_model.specs.Config.{Boxes, no_boxes, box, Config, Held, a_choice, held_in, with_content, Found, home_of}
use Rattle.akl_model.specs.Rules.{Reading, Change, change_by, cut, kept_by}
use Rattle.akl_model.specs.Derivations.{Applies}
use Rattle.akl_model.specs.Changes.{goals_at, goal_names}
use Rattle.akl_model.proofs.Options.{some_value}
use Rattle.step_laws.specs.ChangedItems.{goal_of}
use Rattle.step_laws.proofs.Becomes.{Becomes}
use Rattle.step_laws.proofs.Steps.{site_now}
use Rattle.table_laws.specs.Rows.{Table}
use Rattle.table_laws.specs.Stamped.{Run, IsTableOf}
use Rattle.table_laws.specs.Steps.{CutsGoal, cuts, Makes}
use Rattle.table_laws.proofs.Cutting as cutting
use Rattle.opened_places.specs.declared.around.Around.{Around}
use Rattle.opened_places.proofs.ListedPlaces.{listed}
use Rattle.opened_places.specs.Exact.{IsAround, AreExactly}
use Rattle.opened_places.proofs.SetRows.{some_none}
use Rattle.opened_places.proofs.GoalTurns.{Comes, no_holders}
use Rattle.opened_places.proofs.GoalTurns as turns
use Rattle.opened_places.proofs.AtSite as site

-- what a cut makes of its box, and Fail of its own
cut_change : (p : Program) (v : Reading) (w next : ℕ) (r : Rule) (place : Place) (alternative : Option Name) (g n : Name) (f : Found) (c : Change) (o : Operator) (bs : Boxes) → r ≡ Rule.Cut → place ≡ Place.Goal g
    → alternative ≡ Some n → change_by p v w next r place alternative f ≡ Some c → held_in g f.goals ≡ Some (a_choice o bs) → c.boxes ≡ box f.content (with_content g (a_choice o (kept_by o n bs)) f.goals) no_boxes
cut_change p v w next r place alternative g n f c o bs q e x h is_held = ap (λ (k : Change). k.boxes) (sym (some_value (subst (λ (k : Option Held). cut g n f k ≡ Some c) is_held cuts_it)))
  where
    cuts_it : cut g n f (held_in g f.goals) ≡ Some c
    cuts_it = sym (λ i. change_by p v w next (q i) (e i) (x i) f) ∙ h

module _ (rules : List Rule) (r : Run) (T : Table) (l : Label) (d : Config) (t : IsTableOf rules r T) (a : Applies rules r.program t.config l d) (x : Around) (k : IsAround T l x)
    (makes : Makes r.program l (slice_index t.config.next l.worker) a.site cuts) where
  its : CutsGoal a.site makes.1.0 makes.1.1
  its = makes.1.4

  is_goal : goal_of l.place l.alternative a.site ≡ Some makes.1.0
  is_goal = site.its_goal rules r.program r.query r.journal t.config l d t.replays a makes.1.0 makes.1.2

  boxes_are : a.change.boxes ≡ box a.site.content (with_content makes.1.0 (a_choice its.operator (kept_by its.operator makes.1.1 its.alternatives)) a.site.goals) no_boxes
  boxes_are = cut_change r.program a.makes.reading l.worker (slice_index t.config.next l.worker) l.rule l.place l.alternative makes.1.0 makes.1.1 a.site a.change its.operator its.alternatives
      makes.0 makes.1.2 makes.1.3 a.makes.change its.held

  abbrev b : Becomes l.worker (slice_index t.config.next l.worker) a.site a.change
  b = cutting.cuts_to rules r.program r.query r.journal t.config l d t.replays a makes.1.0 makes.1.1 its.operator its.operator its.alternatives no_boxes is_goal its.held boxes_are

  home_now : home_of makes.1.0 d.roots ≡ Some (site_now b)
  home_now = cutting.home_now rules r.program r.query r.journal t.config l d t.replays a makes.1.0 makes.1.1 its.operator its.operator its.alternatives no_boxes is_goal its.held boxes_are

  same : goals_at a.site.content.name t.config.roots ≡ goals_at a.site.content.name d.roots
  same = ap (option_map (λ (f : Found). goal_names f.goals)) (site.was_there rules r.program r.query r.journal t.config l d t.replays a)
      ∙ ap Some (sym (cutting.names_now rules r.program r.query r.journal t.config l d t.replays a makes.1.0 makes.1.1 its.operator its.operator its.alternatives no_boxes is_goal its.held boxes_are))
      ∙ sym (ap (option_map (λ (f : Found). goal_names f.goals))
      (cutting.now_there rules r.program r.query r.journal t.config l d t.replays a makes.1.0 makes.1.1 its.operator its.operator its.alternatives no_boxes is_goal its.held boxes_are))

  nothing : Comes t.config d [] []
  nothing = record {
    box_in = λ m f i j. elim (cutting.was_there rules r.program r.query r.journal t.config l d t.replays a makes.1.0 makes.1.1 its.operator its.operator its.alternatives no_boxes is_goal its.held boxes_are m f j) [
      | inl w ↦ some_none i w.1
      | inr c ↦ c.stands
    ];
    in_box = λ m z. absurd z;
    goal_in = λ i f y z. elim (cutting.was_home rules r.program r.query r.journal t.config l d t.replays a makes.1.0 makes.1.1 its.operator its.operator its.alternatives no_boxes is_goal its.held boxes_are i f z) [
      | inl w ↦ some_none y w.1
      | inr c ↦ c.stands
    ];
    in_goal = λ i z. absurd z;
  }

  pub was_cut : AreExactly t.config d (listed l.place x cuts)
  was_cut = subst (λ (p : Place). AreExactly t.config d (p ∷ Place.Box x.home ∷ [])) (sym makes.1.2)
      (turns.exactly rules r T l d t a x k makes.1.0 is_goal (site.at_goal rules r.program r.query r.journal t.config l d t.replays a makes.1.0 makes.1.2) (site_now b, home_now) same []
      (no_holders t a (site.not_replaced rules r.program r.query r.journal t.config l d t.replays a makes.1.0 makes.1.2)) [] nothing)
