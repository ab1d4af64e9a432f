-- The steps that the rows of the next table tell: Tell and its like, Confirm, Promote, Fork and Refute.
use Rattle.std.proofs.Common.{◌≡◌, ◌+◌, List, [], ◌∷◌, Bool, Some, None, refl, sym, ◌∙◌, ap, subst, append-nil}
use Rattle.std.specs.Prelude.{option_map, slice_index}
use Rattle.akl_terms.specs.declared.name.Name.{Name}
use Rattle.akl_terms.specs.declared.name.Place.{Place}
use Rattle.akl_model.specs.declared.label.Rule.{Rule}
use Rattle.akl_model.specs.declared.label.Label.{Label}
use Rattle.akl_model.specs.Config.{IsIn, Config, Found, box_at, home_of}
use Rattle.akl_model.specs.Derivations.{Applies}
use Rattle.akl_model.specs.Changes.{goals_at, goal_names, shape_at}
use Rattle.akl_model.proofs.NamesKept.{Stand}
use Rattle.step_laws.proofs.Becomes.{BecomesAt}
use Rattle.step_laws.proofs.Steps.{site_now}
use Rattle.local_store.specs.Stored.{Stored}
use Rattle.table_laws.specs.Rows.{BoxRow, GoalRow, Table}
use Rattle.table_laws.specs.Unfolds.{IsBoxRow, Unfolds}
use Rattle.table_laws.specs.Stamped.{Run, followed_by, IsTableOf}
use Rattle.table_laws.specs.Steps.{Step, tells, confirms, Makes}
use Rattle.table_laws.specs.Writes as writes
use Rattle.table_laws.specs.Writes.{IsTable, Leads, set, changed_box, home_in, after_tell, after_confirm, told_row, confirmed_row}
use Rattle.table_laws.proofs.Frame.{row_of, found_of}
use Rattle.table_laws.proofs.StepMakes.{step_law}
use Rattle.opened_places.specs.declared.around.Around.{Around}
use Rattle.opened_places.proofs.ListedPlaces.{holder_place, listed}
use Rattle.opened_places.specs.Exact.{IsAround, AreExactly}
use Rattle.opened_places.proofs.SetRows.{some_none, set_itself, emptied_none, changed_none}
use Rattle.opened_places.proofs.AtSite as site
use Rattle.opened_places.proofs.AtRows as rows
use Rattle.opened_places.proofs.GoalGoes as goes
use Rattle.opened_places.proofs.GoalTurns.{Comes}

pub same_table : (T : Table) → IsTable T T
same_table T = record { nodes = refl; boxes = λ n. refl; goals = λ g. refl; roots = refl; roots_changed = refl; next = λ w. refl; steps = refl }

module _ (T U : Table) (c d : Config) (u : Unfolds T c) (v : Unfolds U d) (s : Stand c) (later : Stand d) where
  -- the rows that are new are those of what comes
  pub comes : (boxes goals : List Name)
      → ((m : Name) (w : BoxRow) → T.box_of m ≡ None → U.box_of m ≡ Some w → IsIn m boxes) → ((m : Name) → IsIn m boxes → (T.box_of m ≡ None) × ((w : BoxRow) × (U.box_of m ≡ Some w)))
      → ((i : Name) (w : GoalRow) → T.goal_of i ≡ None → U.goal_of i ≡ Some w → IsIn i goals) → ((i : Name) → IsIn i goals → (T.goal_of i ≡ None) × ((w : GoalRow) × (U.goal_of i ≡ Some w)))
      → Comes c d boxes goals
  comes boxes goals box_in in_box goal_in in_goal = record {
    box_in = λ m f i j.
        let w : (w : BoxRow) × (U.box_of m ≡ Some w) × IsBoxRow U d.roots f w = row_of U d v m f j in
        box_in m w.0 (rows.no_box_row T c u m i) w.1;
    in_box = λ m i.
        let w : (T.box_of m ≡ None) × ((w : BoxRow) × (U.box_of m ≡ Some w)) = in_box m i in
        let f : (f : Found) × (box_at m d.roots ≡ Some f) × IsBoxRow U d.roots f w.1.0 = found_of U d v m w.1.0 w.1.1 in
        (rows.box_gone T c u m w.0, (f.0, f.1));
    goal_in = λ i f j k.
        let w : (w : GoalRow) × (U.goal_of i ≡ Some w) × (w.home ≡ f.content.name) = rows.row_of_goal U d v later.once i f k in
        goal_in i w.0 (rows.no_goal_row T c u i j) w.1;
    in_goal = λ i j.
        let w : (T.goal_of i ≡ None) × ((w : GoalRow) × (U.goal_of i ≡ Some w)) = in_goal i j in
        let f : (f : Found) × (home_of i d.roots ≡ Some f) × (shape_at i d.roots ≡ Some w.1.0.shape) = rows.row_home U d v i w.1.0 w.1.1 in
        (rows.goal_gone T c u s.once i w.0, (f.0, f.1));
  }

  pub nothing_comes : ((m : Name) → T.box_of m ≡ None → U.box_of m ≡ None) → ((i : Name) → T.goal_of i ≡ None → U.goal_of i ≡ None) → Comes c d [] []
  nothing_comes boxes goals = comes [] [] (λ m w i j. some_none (boxes m i) j) (λ m z. absurd z) (λ m w i j. some_none (goals m i) j) (λ m z. absurd z)

module _ (rules : List Rule) (r : Run) (T U : Table) (l : Label) (d : Config) (t : IsTableOf rules r T) (a : Applies rules r.program t.config l d) (v : Unfolds U d) where
  s : Stand t.config
  s = site.before rules r.program r.query r.journal t.config l d t.replays a

  -- the row of the label's goal
  pub its_row : (g : Name) → l.place ≡ Place.Goal g → (row : GoalRow) × (T.goal_of g ≡ Some row)
  its_row g e =
      let at : BecomesAt l.worker (slice_index t.config.next l.worker) l.place l.alternative a.site a.change = site.at_goal rules r.program r.query r.journal t.config l d t.replays a g e in
      let w : (row : GoalRow) × (T.goal_of g ≡ Some row) × (row.home ≡ a.site.content.name) = rows.row_of_goal T t.config t.unfolds s.once g a.site
      (site.home_was rules r.program r.query r.journal t.config l d t.replays a g at.0 at.1 (site.its_goal rules r.program r.query r.journal t.config l d t.replays a g e)) in
      (w.0, w.1)

  -- the box of the place has the same goals, where its row has
  pub same_goals : (g : Name) → l.place ≡ Place.Goal g → ((w y : BoxRow) → T.box_of a.site.content.name ≡ Some w → U.box_of a.site.content.name ≡ Some y → y.goals ≡ w.goals)
      → goals_at a.site.content.name t.config.roots ≡ goals_at a.site.content.name d.roots
  same_goals g e same =
      let at : BecomesAt l.worker (slice_index t.config.next l.worker) l.place l.alternative a.site a.change = site.at_goal rules r.program r.query r.journal t.config l d t.replays a g e in
      let was : box_at a.site.content.name t.config.roots ≡ Some a.site = site.was_there rules r.program r.query r.journal t.config l d t.replays a in
      let now : box_at a.site.content.name d.roots ≡ Some (site_now at.0) =
      site.now_there rules r.program r.query r.journal t.config l d t.replays a g at.0 at.1 (site.its_goal rules r.program r.query r.journal t.config l d t.replays a g e) in
      let w : (w : BoxRow) × (T.box_of a.site.content.name ≡ Some w) × IsBoxRow T t.config.roots a.site w = row_of T t.config t.unfolds a.site.content.name a.site was in
      let y : (y : BoxRow) × (U.box_of a.site.content.name ≡ Some y) × IsBoxRow U d.roots (site_now at.0) y = row_of U d v a.site.content.name (site_now at.0) now in
      ap (option_map (λ (f : Found). goal_names f.goals)) was ∙ ap Some (sym w.2.goals ∙ sym (same w.0 y.0 w.1 y.1) ∙ y.2.goals) ∙ sym (ap (option_map (λ (f : Found). goal_names f.goals)) now)

module _ (rules : List Rule) (r : Run) (T : Table) (l : Label) (d : Config) (t : IsTableOf rules r T) (a : Applies rules r.program t.config l d) where
  -- the table to which a step leads, where nothing is known of when its stores were solved
  pub next_unfolds : (step : Step) (U : Table) → Makes r.program l (slice_index t.config.next l.worker) a.site step → Leads T l None a.change.drawn step U → Unfolds U d
  next_unfolds step U makes leads =
      let w : (u : IsTableOf rules (followed_by r l) U) × (u.config ≡ d) = step_law rules r T U l d t a step None makes tt leads in
      subst (λ (c : Config). Unfolds U c) w.1 w.0.unfolds

  pub at_place : (step : Step) (U : Table) (g : Name) → l.place ≡ Place.Goal g → Leads T (record l { place = Place.Goal g }) None a.change.drawn step U → Leads T l None a.change.drawn step U
  at_place step U g e y = subst (λ (p : Place). Leads T (record l { place = p }) None a.change.drawn step U) (sym e) y

module _ (rules : List Rule) (r : Run) (T : Table) (l : Label) (d : Config) (t : IsTableOf rules r T) (a : Applies rules r.program t.config l d) (x : Around) (k : IsAround T l x) where
  -- the goal goes, and nothing comes
  goes_alone : (U : Table) (g : Name) (change : BoxRow → BoxRow) → Unfolds U d → l.place ≡ Place.Goal g → ((n : Name) → U.box_of n ≡ changed_box (home_in (T.goal_of g)) change T.box_of n)
      → ((i : Name) → U.goal_of i ≡ set g None T.goal_of i) → AreExactly t.config d (Place.Box x.home ∷ holder_place x.holder)
  goes_alone U g change v e boxes goals = subst (λ (ps : List Place). AreExactly t.config d (Place.Box x.home ∷ ps)) (append-nil (holder_place x.holder))
      (goes.exactly rules r T l d t a x k g e (rows.goal_gone U d v (site.afterwards rules r.program r.query r.journal t.config l d t.replays a).once g (goals g ∙ set_itself g None T.goal_of)) []
      (λ m f i j. none.box_in m f i j) none.goal_in (λ i z. absurd z))
    where
      none : Comes t.config d [] []
      none = nothing_comes T U t.config d t.unfolds v (site.before rules r.program r.query r.journal t.config l d t.replays a) (site.afterwards rules r.program r.query r.journal t.config l d t.replays a) (λ m i. boxes m ∙ changed_none (home_in (T.goal_of g)) change T.box_of m i) (λ i j. goals i ∙ emptied_none g T.goal_of i j)

  pub told : (new : Stored) (solved : Bool) → Makes r.program l (slice_index t.config.next l.worker) a.site (tells new solved) → AreExactly t.config d (listed l.place x (tells new solved))
  told new solved makes =
      let U : Table = after_tell makes.0 new (writes.solved_when None solved) l.worker a.change.drawn T in
      goes_alone U makes.0 (told_row makes.0 new (writes.solved_when None solved) (T.steps + 1)) (next_unfolds rules r T l d t a (tells new solved) U makes (at_place rules r T l d t a (tells new solved) U makes.0 makes.1 (same_table U))) makes.1 (λ n. refl) (λ i. refl)

  pub confirmed : Makes r.program l (slice_index t.config.next l.worker) a.site confirms → AreExactly t.config d (listed l.place x confirms)
  confirmed makes =
      let U : Table = after_confirm makes.1.0 T in
      goes_alone U makes.1.0 (confirmed_row makes.1.0 (T.steps + 1)) (next_unfolds rules r T l d t a confirms U makes (at_place rules r T l d t a confirms U makes.1.0 makes.1.1 (same_table U))) makes.1.1 (λ n. refl) (λ i. refl)
