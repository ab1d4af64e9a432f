-- The choices by which a box could be split, by a table's rows.
use Rattle.std.proofs.Common.{◌≡◌, ◌≤◌, List, [], ◌∷◌, true, Option, Some, None, refl, sym, ap, subst, ◌∙◌, inl, inr}
use Rattle.std.specs.Prelude.{is_some}
use Rattle.akl_terms.specs.declared.name.Name.{Name}
use Rattle.akl_terms.specs.declared.name.Place.{Place}
use Rattle.akl_model.specs.Config.{IsIn, or_else, Config, Held, held_in, Found, box_at, home_of}
use Rattle.akl_model.specs.Wakes.{names_around, StandsIn, IsThere}
use Rattle.akl_model.proofs.Finds.{times}
use Rattle.akl_model.proofs.NamesKept.{box-itself, home-box}
use Rattle.akl_model.proofs.Options.{some_value}
use Rattle.akl_model.proofs.Scoped.{IsIn-right}
use Rattle.step_laws.proofs.Deeper.{home_found}
use Rattle.step_laws.proofs.There.{site_there}
use Rattle.step_laws.proofs.Whereabouts.{home_in}
use Rattle.plan_laws.proofs.DownTo.{stands_down}
use Rattle.table_laws.specs.Inside.{IsDirectlyIn}
use Rattle.table_laws.specs.Rows.{BoxRow, GoalRow, Table}
use Rattle.table_laws.specs.Unfolds.{IsBoxRow, Unfolds}
use Rattle.table_laws.specs.Writes as writes
use Rattle.table_laws.proofs.Frame.{found_of}
use Rattle.table_laws.proofs.Insides.{goal_row, directly, held_directly}
use Rattle.box_tree.specs.Tables.{goals_in}
use Rattle.box_tree.specs.Insides.{candidate_at, candidate_among, candidate_in}
use Rattle.box_tree.proofs.FirstCandidates.{some_among}
use Rattle.opened_places.proofs.AtRows.{row_home, row_of_goal}
use Rattle.scheduler.specs.declared.splits.Split.{Split}
use Rattle.scheduler.specs.Splits.{split_by, split_at}
use Rattle.scheduler.proofs.CommitFacts.{not_both}

-- one of some goals has a candidate
among_one : (T : Table) (gs : List Name) → is_some (candidate_among T gs) ≡ true → (g : Name) × IsIn g gs × (is_some (candidate_at T (T.goal_of g)) ≡ true)
among_one T gs e = on (candidate_among T gs) refl e
  where
    on : (o : Option Name) → candidate_among T gs ≡ o → is_some o ≡ true → (g : Name) × IsIn g gs × (is_some (candidate_at T (T.goal_of g)) ≡ true)
    on None i f = cc
    on (Some a) i f = let w : (g : Name) × IsIn g gs × (candidate_at T (T.goal_of g) ≡ Some a) = some_among T gs a i in (w.0, w.1, ap is_some w.2)

one_among : (T : Table) (gs : List Name) (g : Name) → IsIn g gs → is_some (candidate_at T (T.goal_of g)) ≡ true → is_some (candidate_among T gs) ≡ true
one_among T [] g i e = absurd i
one_among T (h ∷ hs) g i e = on (candidate_at T (T.goal_of h)) refl i (λ j. one_among T hs g j e)
  where
    on : (o : Option Name) → candidate_at T (T.goal_of h) ≡ o → IsIn g (h ∷ hs) → (IsIn g hs → is_some (candidate_among T hs) ≡ true) → is_some (or_else o (candidate_among T hs)) ≡ true
    on (Some a) q j k = refl
    on None q (inl r) k = absurd (not_both e (ap (λ (n : Name). is_some (candidate_at T (T.goal_of n))) r ∙ ap is_some q))
    on None q (inr j) k = k j

-- a choice by which its box could be split: it has a row there, and a candidate
pub record IsSplitRow (T : Table) (s : Split) : Type 0 where
  pub row : GoalRow
  pub there : T.goal_of s.goal ≡ Some row
  pub home : row.home ≡ s.name
  pub candidate : is_some (candidate_at T (T.goal_of s.goal)) ≡ true

pub split_row : (T : Table) (s : Split) → split_at T (Place.Goal s.goal) ≡ Some s → IsSplitRow T s
split_row T s e = on (T.goal_of s.goal) refl (candidate_at T (T.goal_of s.goal)) refl e
  where
    on : (o : Option GoalRow) → T.goal_of s.goal ≡ o → (a : Option Name) → candidate_at T (T.goal_of s.goal) ≡ a → split_by s.goal a (writes.home_in o) ≡ Some s → IsSplitRow T s
    on None i None j f = cc
    on None i (Some a) j f = cc
    on (Some r) i None j f = cc
    on (Some r) i (Some a) j f = record { row = r; there = i; home = ap (λ (x : Split). x.name) (some_value f); candidate = ap is_some j }

pub row_split : (T : Table) (s : Split) → IsSplitRow T s → split_at T (Place.Goal s.goal) ≡ Some s
row_split T s w = on (candidate_at T (T.goal_of s.goal)) w.candidate
    ∙ ap (λ (n : Name). Some (record { name = n; goal = s.goal })) w.home
  where
    on : (a : Option Name) → is_some a ≡ true → split_by s.goal a (writes.home_in (T.goal_of s.goal)) ≡ Some (record { name = w.row.home; goal = s.goal })
    on None e = cc
    on (Some a) e = ap (λ (o : Option GoalRow). split_by s.goal (Some a) (writes.home_in o)) w.there

-- what stands at a place is found under the place's own goal
pub split_goal : (T : Table) (place : Place) (s : Split) → split_at T place ≡ Some s → place ≡ Place.Goal s.goal
split_goal T (Place.Box n) s e = cc
split_goal T (Place.Goal g) s e = on (candidate_at T (T.goal_of g)) (writes.home_in (T.goal_of g)) e
  where
    on : (a home : Option Name) → split_by g a home ≡ Some s → Place.Goal g ≡ Place.Goal s.goal
    on None home f = cc
    on (Some a) None f = cc
    on (Some a) (Some n) f = ap (λ (x : Split). Place.Goal x.goal) (some_value f)

module _ (T : Table) (c : Config) (u : Unfolds T c) (once : (m : Name) → times m c.roots ≤ 1) where
  -- its goal is there, in its box
  pub record IsSplitIn (s : Split) : Type 0 where
    pub found : Found
    pub is_home : home_of s.goal c.roots ≡ Some found
    pub named : found.content.name ≡ s.name
    pub there : IsThere (Place.Goal s.goal) c.roots
    pub stands : StandsIn s.name c.roots (Place.Goal s.goal)

  pub split_in : (s : Split) → split_at T (Place.Goal s.goal) ≡ Some s → IsSplitIn s
  split_in s e =
      let w : IsSplitRow T s = split_row T s e in
      let f : (f : Found) × (home_of s.goal c.roots ≡ Some f) × _ = row_home T c u s.goal w.row w.there in
      let r : (row : GoalRow) × (T.goal_of s.goal ≡ Some row) × (row.home ≡ f.0.content.name) = row_of_goal T c u once s.goal f.0 f.1 in
      let n : f.0.content.name ≡ s.name = sym r.2 ∙ ap (λ (x : GoalRow). x.home) (some_value (sym r.1 ∙ w.there)) ∙ w.home in
      record {
        found = f.0;
        is_home = f.1;
        named = n;
        there = site_there (Place.Goal s.goal) c.roots f.0 f.1;
        stands = stands_down s.goal c.roots f.0 s.name f.1 (IsIn-right s.name (names_around f.0) (f.0.content.name ∷ []) (inl (sym n)));
      }

  -- a goal directly in a box that has a candidate is such a choice
  pub goal_split : (n g : Name) (r : BoxRow) → T.box_of n ≡ Some r → IsIn g r.goals → is_some (candidate_at T (T.goal_of g)) ≡ true → split_at T (Place.Goal g) ≡ Some (record { name = n; goal = g })
  goal_split n g r i j e =
      let f : (f : Found) × (box_at n c.roots ≡ Some f) × IsBoxRow T c.roots f r = found_of T c u n r i in
      let h : (h : Held) × (held_in g f.0.goals ≡ Some h) = held_directly T c u once n g f.0 f.1 (record { row = r; there = i; named = j }) in
      let x : (x : GoalRow) × (T.goal_of g ≡ Some x) × (x.home ≡ f.0.content.name) × _ = goal_row T c u once g f.0 h.0 (home_found c.roots once g n f.0 h.0 f.1 h.1) h.1 in
      row_split T (record { name = n; goal = g }) (record { row = x.0; there = x.1; home = x.2 ∙ sym (box-itself n c.roots f.0 f.1); candidate = e })

  -- a box could be split by a choice directly in it
  pub box_split : (n : Name) → is_some (candidate_in T n) ≡ true → (s : Split) × (s.name ≡ n) × (split_at T (Place.Goal s.goal) ≡ Some s)
  box_split n e = on (T.box_of n) refl
    where
      on : (o : Option BoxRow) → T.box_of n ≡ o → (s : Split) × (s.name ≡ n) × (split_at T (Place.Goal s.goal) ≡ Some s)
      on None i = absurd (not_both e (ap (λ (b : Option BoxRow). is_some (candidate_among T (goals_in b))) i))
      on (Some r) i =
          let w : (g : Name) × IsIn g r.goals × (is_some (candidate_at T (T.goal_of g)) ≡ true) = among_one T r.goals (sym (ap (λ (b : Option BoxRow). is_some (candidate_among T (goals_in b))) i) ∙ e) in
          (record { name = n; goal = w.0 }, refl, goal_split n w.0 r i w.1 w.2)

  -- and such a choice is directly in its box
  pub split_directly : (s : Split) → split_at T (Place.Goal s.goal) ≡ Some s → IsDirectlyIn T s.name s.goal
  split_directly s e =
      let f : IsSplitIn s = split_in s e in
      let b : box_at s.name c.roots ≡ Some f.found = subst (λ (n : Name). box_at n c.roots ≡ Some f.found) f.named (home-box s.goal c.roots f.found once f.is_home) in
      let h : (h : Held) × (held_in s.goal f.found.goals ≡ Some h) = (home_in s.goal c.roots f.found f.is_home).1 in
      directly T c u once s.name s.goal f.found h.0 b h.1

  pub split_box : (s : Split) → split_at T (Place.Goal s.goal) ≡ Some s → is_some (candidate_in T s.name) ≡ true
  split_box s e =
      let d : IsDirectlyIn T s.name s.goal = split_directly s e in
      ap (λ (o : Option BoxRow). is_some (candidate_among T (goals_in o))) d.there ∙ one_among T d.row.goals s.goal d.named (split_row T s e).candidate
