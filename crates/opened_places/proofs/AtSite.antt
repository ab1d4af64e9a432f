-- What a label makes of its goal and of the box of its place.
use Rattle.std.proofs.Common.{◌≡◌, ◌≤◌, List, Some, None, sym, ◌∙◌, ap, subst, inl, inr}
use Rattle.std.specs.Prelude.{option_map, slice_index}
use Rattle.akl_terms.specs.declared.name.Name.{Name}
use Rattle.akl_terms.specs.declared.name.Place.{Place}
use Rattle.akl_terms.specs.declared.program.Program.{Program}
use Rattle.akl_terms.specs.declared.program.Query.{Query}
use Rattle.akl_model.specs.declared.label.Rule.{Rule}
use Rattle.akl_model.specs.declared.label.Label.{Label}
use Rattle.akl_model.specs.Config.{Config, held_in, Found, box_at, home_of}
use Rattle.akl_model.specs.Rules.{change_by}
use Rattle.akl_model.specs.Derivations.{Applies, Replays}
use Rattle.akl_model.specs.Changes.{shape_of, shape_at, goals_at}
use Rattle.akl_model.specs.Wakes.{holder_in}
use Rattle.akl_model.proofs.Options.{some_value}
use Rattle.akl_model.proofs.Finds.{times}
use Rattle.akl_model.proofs.NamesKept.{Stand, replay-stands, stands_after, home-box}
use Rattle.step_laws.specs.Holders.{IsHeldBy}
use Rattle.step_laws.specs.Likeness.{IsLike}
use Rattle.step_laws.specs.ChangedItems.{goal_of, IsReplaced}
use Rattle.step_laws.proofs.Whereabouts.{home_in}
use Rattle.step_laws.proofs.GoalEdits.{HasGoal}
use Rattle.step_laws.proofs.Becomes.{IsBox, Becomes, BecomesAt, Fate, goes, changes}
use Rattle.step_laws.proofs.Steps.{found, made, not_old, old_goal, site_stands, site_now, site_there, later_step, Later}
use Rattle.step_laws.proofs.Stays.{like_home, shape_held}
use Rattle.step_laws.proofs.Deeper.{home_found}
use Rattle.step_laws.proofs.Replaced.{goal_rule, replaced_law}
use Rattle.step_laws.proofs.Holders.{alternative_at}
use Rattle.table_laws.specs.Rows.{Table}
use Rattle.table_laws.specs.Stamped.{Run, IsTableOf}
use Rattle.opened_places.specs.declared.around.Holder.{Holder}
use Rattle.opened_places.specs.declared.around.Around.{Around}
use Rattle.opened_places.specs.Exact.{IsAround}
use Rattle.opened_places.proofs.ChangedWays.{HoldsSite}
use Rattle.opened_places.proofs.GoesFrom.{goals_differ}
use Rattle.opened_places.proofs.AtRows as rows

module _ (rules : List Rule) (p : Program) (q : Query) (journal : List Label) (c : Config) (l : Label) (d : Config) (replays : Replays rules p q journal c) (a : Applies rules p c l d) where
  pub before : Stand c
  before = replay-stands rules p q journal c replays

  pub afterwards : Stand d
  afterwards = stands_after rules p c l d before a

  pub further : Later c d
  further = later_step rules p c l d before a

  pub was_there : box_at a.site.content.name c.roots ≡ Some a.site
  was_there = found rules p c l d before a

  pub at_goal : (g : Name) → l.place ≡ Place.Goal g → BecomesAt l.worker (slice_index c.next l.worker) l.place l.alternative a.site a.change
  at_goal g e = elim (made rules p c l d before a) [ inl z ↦ absurd (subst IsBox e z.0) | inr w ↦ w ]

  pub its_goal : (g : Name) → l.place ≡ Place.Goal g → goal_of l.place l.alternative a.site ≡ Some g
  its_goal g e = ap (λ (x : Place). goal_of x l.alternative a.site) e

  -- a label of a goal replaces no box
  pub not_replaced : (g : Name) → l.place ≡ Place.Goal g → IsReplaced a → ⊥
  not_replaced g e r = elim (replaced_law rules p q journal c l d replays a) [
    | inl w ↦ elim w.0 [
      | inl k ↦ (goal_rule p a.makes.reading l.worker (slice_index c.next l.worker) l.rule g l.alternative a.site a.change there).0 k
      | inr k ↦ (goal_rule p a.makes.reading l.worker (slice_index c.next l.worker) l.rule g l.alternative a.site a.change there).1 k
    ]
    | inr w ↦ r.not_one w.2
  ]
    where
      there : change_by p a.makes.reading l.worker (slice_index c.next l.worker) l.rule (Place.Goal g) l.alternative a.site ≡ Some a.change
      there = subst (λ (x : Place). change_by p a.makes.reading l.worker (slice_index c.next l.worker) l.rule x l.alternative a.site ≡ Some a.change) e a.makes.change

  module _ (g : Name) (b : Becomes l.worker (slice_index c.next l.worker) a.site a.change) (named : goal_of l.place l.alternative a.site ≡ Some b.goal) (is_goal : goal_of l.place l.alternative a.site ≡ Some g) where
    same : b.goal ≡ g
    same = some_value (sym named ∙ is_goal)

    its : held_in g a.site.goals ≡ Some b.was
    its = subst (λ (i : Name). held_in i a.site.goals ≡ Some b.was) same b.is_goal

    pub now_there : box_at a.site.content.name d.roots ≡ Some (site_now b)
    now_there = site_there rules p c l d before a b

    pub home_was : home_of g c.roots ≡ Some a.site
    home_was = home_found c.roots before.once g a.site.content.name a.site b.was was_there its

    pub home_now : (f : Found) → home_of g d.roots ≡ Some f → site_now b ≡ f
    home_now f j =
        let k : IsLike a.site f = like_home c d before afterwards further g a.site f home_was j in
        let x : box_at f.content.name d.roots ≡ Some f = home-box g d.roots f afterwards.once j in
        some_value (sym now_there ∙ ap (λ (n : Name). box_at n d.roots) k.name ∙ x)

    -- where the goal is there afterwards, it has another shape
    pub differs : (f : Found) → home_of g d.roots ≡ Some f → shape_at g c.roots ≡ shape_at g d.roots → ⊥
    differs f j e = on b.fate
      where
        h : HasGoal g f.goals
        h = (home_in g d.roots f j).1

        held : held_in b.goal b.goals ≡ Some h.0
        held = subst (λ (i : Name). held_in i b.goals ≡ Some h.0) (sym same) (ap (λ (k : Found). held_in g k.goals) (home_now f j) ∙ h.1)

        on : Fate l.worker (slice_index c.next l.worker) a.change.drawn a.site b.content b.goal b.was b.goals → ⊥
        on (goes (inl x)) = not_old rules p c l d before a b.goal x (old_goal c before b.goal a.site (site_stands rules p c l d before a) (b.was, b.is_goal))
        on (goes (inr x)) = let y : held_in b.goal b.goals ≡ Some h.0 = held in absurd cc
        on (changes now x y z) =
            let i : now ≡ h.0 = some_value (sym x ∙ held) in
            y (ap shape_of i ∙ some_value (sym (shape_held g d.roots f h.0 j h.1) ∙ sym e ∙ shape_held g c.roots a.site b.was home_was its))

    -- where it isn't, its box has another set of goals
    pub names_differ : home_of g d.roots ≡ None → goals_at a.site.content.name c.roots ≡ goals_at a.site.content.name d.roots → ⊥
    names_differ z = goals_differ c d afterwards g a.site (site_now b) was_there now_there (b.was, its) z

-- what stands about the label's place, by a table's rows
module _ (rules : List Rule) (r : Run) (T : Table) (l : Label) (d : Config) (t : IsTableOf rules r T) (a : Applies rules r.program t.config l d) (x : Around) (k : IsAround T l x) where
  once : (m : Name) → times m t.config.roots ≤ 1
  once = (before rules r.program r.query r.journal t.config l d t.replays a).once

  pub home_is : x.home ≡ a.site.content.name
  home_is = rows.home_is T t.config t.unfolds once l a.site a.is_site x k

  pub holder_is : option_map (λ (h : Holder). h.goal) x.holder ≡ holder_in a.site.content.name t.config.roots
  holder_is = rows.holder_is T t.config t.unfolds once l a.site a.is_site x k

  pub holder_by : (g : Name) → holder_in a.site.content.name t.config.roots ≡ Some g → (h : Holder) × (x.holder ≡ Some h) × (h.goal ≡ g)
  holder_by = rows.holder_by T t.config t.unfolds once l a.site a.is_site x k

  pub holds_by : (g : Name) → HoldsSite a g → (h : Holder) × (x.holder ≡ Some h) × (h.goal ≡ g)
  holds_by g y = holder_by g (alternative_at t.config.roots once a.site.content.name g y.home y.op y.alternatives y.is_home y.held y.among).holder

  pub held_by : (h : Holder) → x.holder ≡ Some h → IsHeldBy a.site.content.name h.goal a.site t.config.roots
  held_by = rows.held_by T t.config t.unfolds once l a.site a.is_site x k

  pub holder_home_is : (h : Holder) (e : Found) → x.holder ≡ Some h → home_of h.goal t.config.roots ≡ Some e → h.home ≡ e.content.name
  holder_home_is = rows.holder_home_is T t.config t.unfolds once l a.site a.is_site x k
