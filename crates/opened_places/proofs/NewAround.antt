-- The boxes around what a label makes anew: the goals of an alternative that is promoted, and the boxes of a fork with their goals.
use Rattle.std.proofs.Common.{◌≡◌, ℕ, ◌+◌, ◌≤◌, ◌<◌, Bool, List, [], ◌∷◌, ◌++◌, Option, Some, None, refl, sym, ◌∙◌, ap, subst, ◌⊎◌, inl, inr, arith}
use Rattle.std.specs.Prelude.{option_map, slice_index}
use Rattle.std.specs.List.{AllByRecursion}
use Rattle.akl_terms.specs.declared.name.Name.{Name}
use Rattle.akl_terms.specs.declared.name.Place.{Place}
use Rattle.akl_model.specs.Config.{Operator}
use Rattle.akl_model.specs.declared.label.Rule.{Rule}
use Rattle.akl_model.specs.declared.label.Label.{Label}
use Rattle.akl_model.specs.Config.{IsIn, Atom, Config, Found, box_at, home_of}
use Rattle.akl_model.specs.Names.{times_in}
use Rattle.akl_model.specs.Derivations.{Applies}
use Rattle.akl_model.specs.Changes.{shape_at, of_atom}
use Rattle.akl_model.specs.Wakes.{names_around, names_down_to, holder_in}
use Rattle.akl_model.proofs.Finds.{times_in-append}
use Rattle.akl_model.proofs.NamesKept.{Stand, box-itself, home-box}
use Rattle.akl_model.proofs.Options.{some_value, or_some, left_some}
use Rattle.akl_model.proofs.Scoped.{IsIn-left, IsIn-right}
use Rattle.akl_model.proofs.ScopesAlong.{counted_in}
use Rattle.step_laws.specs.Holders.{IsHeldBy}
use Rattle.step_laws.specs.Likeness.{IsLike}
use Rattle.step_laws.proofs.Becomes.{BecomesAt}
use Rattle.step_laws.proofs.Holders.{held_around}
use Rattle.step_laws.proofs.Stays.{like_home}
use Rattle.step_laws.proofs.Steps.{site_stands, site_now}
use Rattle.local_store.specs.Stored.{Stored}
use Rattle.table_laws.specs.Rows.{BoxRow, GoalRow, Table}
use Rattle.table_laws.specs.Unfolds.{IsBoxRow, Unfolds}
use Rattle.table_laws.specs.Stamped.{Run, IsTableOf}
use Rattle.table_laws.specs.Steps.{NewBox, forks, joins, Makes}
use Rattle.table_laws.specs.Writes.{IsFresh, set, changed_box, home_in as home_in_row, new_box_of, new_goal_of, new_row, names_drawn, atom_among, home_or, failing_by, forked_row}
use Rattle.table_laws.proofs.Frame.{found_of}
use Rattle.table_laws.proofs.Fresh.{fresh_step}
use Rattle.opened_places.specs.Placed.{placed, StandsSo, goals_placed}
use Rattle.opened_places.specs.Listed.{new_placed}
use Rattle.opened_places.proofs.InnerPlaces.{all_append, all_goals}
use Rattle.opened_places.proofs.Members.{firsts, searched, atom_row_in, in_atom_row, in_new_box, in_new_goal, new_parts, part_boxes, part_goals}
use Rattle.opened_places.proofs.SetRows.{some_none}
use Rattle.opened_places.proofs.JoinRows.{AreJoined, new_goal_row}
use Rattle.opened_places.proofs.AtSite as site
use Rattle.opened_places.proofs.AtRows as rows
use Rattle.opened_places.proofs.StillAround as still
use Rattle.opened_places.proofs.PromoteStep as promote
use Rattle.opened_places.proofs.ForkStep as fork

-- the homes and the holders of new rows

atom_home : (home : Name) (number : ℕ) (xs : List (Name × Atom)) (m : Name) (w : GoalRow) → atom_among home number xs m ≡ Some w → w.home ≡ home
atom_home home number [] m w e = cc
atom_home home number (x ∷ xs) m w e = elim (searched m x.0 (record { home = home; shape = of_atom x.1; changed = number }) (atom_among home number xs m) w e) [
  | inl q ↦ ap (λ (r : GoalRow). r.home) (sym q.1)
  | inr q ↦ atom_home home number xs m w q
]

new_holder : (g : Name) (at : Option ℕ) (number : ℕ) (news : List NewBox) (m : Name) (w : BoxRow) → new_box_of g at number news m ≡ Some w → w.holder ≡ Some g
new_holder g at number [] m w e = cc
new_holder g at number (n ∷ ns) m w e = elim (searched m n.name (new_row g at number n) (new_box_of g at number ns m) w e) [
  | inl q ↦ ap (λ (r : BoxRow). r.holder) (sym q.1)
  | inr q ↦ new_holder g at number ns m w q
]

abbrev pub IsNewOf : NewBox → List NewBox → Type 0
IsNewOf n [] = ⊥
IsNewOf n (m ∷ ms) = (n ≡ m) ⊎ IsNewOf n ms

goal_drawn : (n : NewBox) (news : List NewBox) (i : Name) → IsNewOf n news → IsIn i (firsts n.goals) → IsIn i (names_drawn news)
goal_drawn n [] i new j = absurd new
goal_drawn n (m ∷ ms) i (inl e) j = inr (IsIn-left i (firsts m.goals) (names_drawn ms) (subst (λ (k : NewBox). IsIn i (firsts k.goals)) e j))
goal_drawn n (m ∷ ms) i (inr new) j = inr (IsIn-right i (firsts m.goals) (names_drawn ms) (goal_drawn n ms i new j))

-- a goal's home is the box that has it, as no name stands twice
new_home : (number : ℕ) (n : NewBox) (news : List NewBox) (i : Name) (w : GoalRow) → IsNewOf n news → IsIn i (firsts n.goals) → times_in i (names_drawn news) ≤ 1 → new_goal_of number news i ≡ Some w → w.home ≡ n.name
new_home number n [] i w new j once e = absurd new
new_home number n (m ∷ ms) i w new j once e = elim (or_some (atom_among m.name number m.goals i) (new_goal_of number ms i) w e) [
  | inl q ↦ elim new [
    | inl z ↦ atom_home m.name number m.goals i w q ∙ ap (λ (k : NewBox). k.name) (sym z)
    | inr z ↦ absurd (both (atom_row_in m.name number m.goals i w q) (goal_drawn n ms i z j))
  ]
  | inr q ↦ elim new [
    | inl z ↦
        let there : (r : GoalRow) × (atom_among m.name number m.goals i ≡ Some r) = in_atom_row m.name number m.goals i (subst (λ (k : NewBox). IsIn i (firsts k.goals)) z j) in
        absurd (some_none q.0 there.1)
    | inr z ↦ new_home number n ms i w z j tail q.1
  ]
]
  where
    parts : times_in i (firsts m.goals ++ names_drawn ms) ≡ times_in i (firsts m.goals) + times_in i (names_drawn ms)
    parts = times_in-append i (firsts m.goals) (names_drawn ms)

    less : times_in i (firsts m.goals ++ names_drawn ms) ≤ times_in i (names_drawn (m ∷ ms))
    less = omega arith

    both : IsIn i (firsts m.goals) → IsIn i (names_drawn ms) → ⊥
    both x y =
        let a : 0 < times_in i (firsts m.goals) = counted_in i (firsts m.goals) x in
        let b : 0 < times_in i (names_drawn ms) = counted_in i (names_drawn ms) y in
        let p : times_in i (firsts m.goals ++ names_drawn ms) ≡ times_in i (firsts m.goals) + times_in i (names_drawn ms) = parts in
        let l : times_in i (firsts m.goals ++ names_drawn ms) ≤ times_in i (names_drawn (m ∷ ms)) = less in
        let o : times_in i (names_drawn (m ∷ ms)) ≤ 1 = once in
        absurd (omega (arith, a, b, p, l, o))

    tail : times_in i (names_drawn ms) ≤ 1
    tail =
        let p : times_in i (firsts m.goals ++ names_drawn ms) ≡ times_in i (firsts m.goals) + times_in i (names_drawn ms) = parts in
        let l : times_in i (firsts m.goals ++ names_drawn ms) ≤ times_in i (names_drawn (m ∷ ms)) = less in
        let o : times_in i (names_drawn (m ∷ ms)) ≤ 1 = once in
        omega (arith, p, l, o)

new_part : (n : NewBox) (news : List NewBox) → IsNewOf n news → IsIn n.name (part_boxes (new_parts news))
new_part n [] new = absurd new
new_part n (m ∷ ms) (inl e) = inl (ap (λ (k : NewBox). k.name) e)
new_part n (m ∷ ms) (inr new) = inr (new_part n ms new)

new_goal_part : (n : NewBox) (news : List NewBox) (i : Name) → IsNewOf n news → IsIn i (firsts n.goals) → IsIn i (part_goals (new_parts news))
new_goal_part n [] i new j = absurd new
new_goal_part n (m ∷ ms) i (inl e) j = IsIn-left i (firsts m.goals) (part_goals (new_parts ms)) (subst (λ (k : NewBox). IsIn i (firsts k.goals)) e j)
new_goal_part n (m ∷ ms) i (inr new) j = IsIn-right i (firsts m.goals) (part_goals (new_parts ms)) (new_goal_part n ms i new j)

module _ (U : Table) (d : Config) (v : Unfolds U d) (later : Stand d) where
  -- a goal that comes into a box
  goal_in : (i : Name) (w : GoalRow) (f : Found) → U.goal_of i ≡ Some w → box_at w.home d.roots ≡ Some f → home_of i d.roots ≡ Some f
  goal_in i w f e j =
      let k : (f : Found) × (home_of i d.roots ≡ Some f) × (shape_at i d.roots ≡ Some w.shape) = rows.row_home U d v i w e in
      let z : (row : GoalRow) × (U.goal_of i ≡ Some row) × (row.home ≡ k.0.content.name) = rows.row_of_goal U d v later.once i k.0 k.1 in
      let same : w.home ≡ k.0.content.name = ap (λ (y : GoalRow). y.home) (some_value (sym e ∙ z.1)) ∙ z.2 in
      let found : box_at w.home d.roots ≡ Some k.0 = ap (λ (n : Name). box_at n d.roots) same ∙ home-box i d.roots k.0 later.once k.1 in
      k.1 ∙ sym found ∙ j

  -- goals that join a box stand in it
  module _ (T : Table) (g : Name) (change : BoxRow → BoxRow) (goals : List (Name × Atom)) (number : ℕ) (joined : AreJoined T U g change goals number) (row : GoalRow) (its : T.goal_of g ≡ Some row)
      (e f : Found) (home : row.home ≡ e.content.name) (there : box_at e.content.name d.roots ≡ Some f) (down : names_down_to f ≡ names_down_to e) where
    joined_at : (i : Name) → IsIn i (firsts goals) → StandsSo d.roots (placed (Place.Goal i) (names_down_to e))
    joined_at i j =
        let w : (w : GoalRow) × (atom_among (home_or (T.goal_of g) g) number goals i ≡ Some w) × (U.goal_of i ≡ Some w) = new_goal_row T U g change goals number joined i j in
        let home : w.0.home ≡ e.content.name = atom_home (home_or (T.goal_of g) g) number goals i w.0 w.1 ∙ ap (λ (o : Option GoalRow). home_or o g) its ∙ home in
        ap (option_map names_down_to) (goal_in i w.0 f w.2 (ap (λ (n : Name). box_at n d.roots) home ∙ there)) ∙ ap Some down

    pub joined_all : AllByRecursion (StandsSo d.roots) (goals_placed (names_down_to e) (firsts goals))
    joined_all = all_goals (StandsSo d.roots) (names_down_to e) (firsts goals) joined_at

module _ (rules : List Rule) (r : Run) (T : Table) (l : Label) (d : Config) (t : IsTableOf rules r T) (a : Applies rules r.program t.config l d) where
  later : Stand d
  later = site.afterwards rules r.program r.query r.journal t.config l d t.replays a

  -- the box of the place, where its goal or choice is of the label
  module _ (g : Name) (place : l.place ≡ Place.Goal g) where
    at : BecomesAt l.worker (slice_index t.config.next l.worker) l.place l.alternative a.site a.change
    at = site.at_goal rules r.program r.query r.journal t.config l d t.replays a g place

    now : Found
    now = site_now at.0

    now_there : box_at a.site.content.name d.roots ≡ Some now
    unfolding now
    now_there = site.now_there rules r.program r.query r.journal t.config l d t.replays a g at.0 at.1 (site.its_goal rules r.program r.query r.journal t.config l d t.replays a g place)

    home_was : home_of g t.config.roots ≡ Some a.site
    home_was = site.home_was rules r.program r.query r.journal t.config l d t.replays a g at.0 at.1 (site.its_goal rules r.program r.query r.journal t.config l d t.replays a g place)

    home_row : (row : GoalRow) × (T.goal_of g ≡ Some row) × (row.home ≡ a.site.content.name)
    home_row = rows.row_of_goal T t.config t.unfolds (site.before rules r.program r.query r.journal t.config l d t.replays a).once g a.site home_was

  -- promoted goals stand in the box of the place
  module _ (new : Stored) (solved : Bool) (goals : List (Name × Atom)) (makes : Makes r.program l (slice_index t.config.next l.worker) a.site (joins new solved goals)) where
    pub promoted_all : AllByRecursion (StandsSo d.roots) (goals_placed (names_down_to a.site) (firsts goals))
    promoted_all =
        let row : (row : GoalRow) × (T.goal_of makes.0 ≡ Some row) × (row.home ≡ a.site.content.name) = home_row makes.0 makes.1 in
        joined_all (promote.U rules r T l d t a new solved goals makes) d (promote.v rules r T l d t a new solved goals makes) later T makes.0 (promote.its_box rules r T l d t a new solved goals makes) goals (T.steps + 1)
        (promote.joined rules r T l d t a new solved goals makes) row.0 row.1 a.site (now makes.0 makes.1) row.2 (now_there makes.0 makes.1)
        (still.site_down t.config d (site.before rules r.program r.query r.journal t.config l d t.replays a) later (site.further rules r.program r.query r.journal t.config l d t.replays a) a.site (now makes.0 makes.1)
        (site_stands rules r.program t.config l d (site.before rules r.program r.query r.journal t.config l d t.replays a) a) (now_there makes.0 makes.1))

  -- the boxes of a fork
  module _ (op : Operator) (news : List NewBox) (makes : Makes r.program l (slice_index t.config.next l.worker) a.site (forks op news)) where
    abbrev h : Name
    h = makes.1.0

    abbrev V : Table
    V = fork.U rules r T l d t a op news makes

    v : Unfolds V d
    v = fork.v rules r T l d t a op news makes

    fresh : IsFresh T (names_drawn news)
    fresh = fresh_step rules r T l d t a (forks op news) makes

    record IsNewAt (n : NewBox) : Type 0 where
      found : Found
      is_found : box_at n.name d.roots ≡ Some found
      around : names_around found ≡ names_down_to a.site

    new_at : (n : NewBox) → IsNewOf n news → IsNewAt n
    new_at n i =
        let w : (w : BoxRow) × (new_box_of h None (T.steps + 1) news n.name ≡ Some w) = in_new_box h None (T.steps + 1) news n.name (new_part n news i) in
        let there : V.box_of n.name ≡ Some w.0 = left_some (new_box_of h None (T.steps + 1) news n.name) (changed_box (home_in_row (T.goal_of h)) (failing_by h op news) T.box_of n.name) w.0 w.1 in
        let f : (f : Found) × (box_at n.name d.roots ≡ Some f) × IsBoxRow V d.roots f w.0 = found_of V d v n.name w.0 there in
        let held : holder_in n.name d.roots ≡ Some h = ap (λ (m : Name). holder_in m d.roots) (box-itself n.name d.roots f.0 f.1) ∙ sym f.2.holder ∙ new_holder h None (T.steps + 1) news n.name w.0 w.1 in
        let by : IsHeldBy n.name h f.0 d.roots = held_around d.roots later.once n.name h f.0 f.1 held in
        let like : IsLike a.site by.home = like_home t.config d (site.before rules r.program r.query r.journal t.config l d t.replays a) later (site.further rules r.program r.query r.journal t.config l d t.replays a) h a.site by.home (home_was h makes.1.1) by.is_home in
        record { found = f.0; is_found = f.1; around = by.names ∙ (λ j. (sym like.around j) ++ (sym like.name j) ∷ []) }

    new_goal_at : (n : NewBox) (i : Name) → IsNewOf n news → IsIn i (firsts n.goals) → StandsSo d.roots (placed (Place.Goal i) (names_down_to a.site ++ n.name ∷ []))
    new_goal_at n i new j =
        let x : IsNewAt n = new_at n new in
        let w : (w : GoalRow) × (new_goal_of (T.steps + 1) news i ≡ Some w) = in_new_goal (T.steps + 1) news i (new_goal_part n news i new j) in
        let there : V.goal_of i ≡ Some w.0 = left_some (new_goal_of (T.steps + 1) news i) (set h (option_map (forked_row op news (T.steps + 1)) (T.goal_of h)) T.goal_of i) w.0 w.1 in
        let home : w.0.home ≡ n.name = new_home (T.steps + 1) n news i w.0 new j (fresh.once i) w.1 in
        ap (option_map names_down_to) (goal_in V d v later i w.0 x.found there (ap (λ (m : Name). box_at m d.roots) home ∙ x.is_found))
        ∙ (λ k. Some ((x.around k) ++ (sym (box-itself n.name d.roots x.found x.is_found) k) ∷ []))

    new_all : (some : List NewBox) → ((n : NewBox) → IsNewOf n some → IsNewOf n news) → AllByRecursion (StandsSo d.roots) (new_placed (names_down_to a.site) some)
    new_all [] sub = tt
    new_all (n ∷ ns) sub =
        let x : IsNewAt n = new_at n (sub n (inl refl)) in (
          ap (option_map names_around) x.is_found ∙ ap Some x.around,
          all_append (StandsSo d.roots) (goals_placed (names_down_to a.site ++ n.name ∷ []) (firsts n.goals)) (new_placed (names_down_to a.site) ns)
              (all_goals (StandsSo d.roots) (names_down_to a.site ++ n.name ∷ []) (firsts n.goals) (λ i j. new_goal_at n i (sub n (inl refl)) j)) (new_all ns (λ m i. sub m (inr i))),
        )

    pub forked_all : AllByRecursion (StandsSo d.roots) (new_placed (names_down_to a.site) news)
    forked_all = new_all news (λ n i. i)
