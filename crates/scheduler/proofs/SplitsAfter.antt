-- The choices by which boxes could be split, as they are kept while places open and close.
use Rattle.std.proofs.Common.{◌≡◌, ◌≤◌, List, [], ◌∷◌, ◌++◌, reverse, Bool, true, false, Option, Some, None, refl, sym, ap, subst, ◌∙◌, ◌⊎◌, inl, inr}
use Rattle.std.proofs.lemmas.List.{reverse-append}
use Rattle.std.proofs.lemmas.List.Folds.{list_any-append}
use Rattle.std.specs.Prelude.{option_map, ◌&&◌, not, if◌then◌else◌, nat_lt, length}
use Rattle.akl_terms.specs.declared.name.Name.{Name}
use Rattle.akl_terms.specs.declared.name.Place.{Place}
use Rattle.akl_model.specs.Config.{IsIn, Operator, Boxes, Config, Held, a_choice, held_in, Found, box_at, home_of}
use Rattle.akl_model.specs.Changes.{Shape, of_atom, of_choice, shape_of, shape_at, box_names, goal_names, goals_at}
use Rattle.akl_model.specs.Wakes.{boxes_around, names_around, names_down_to, Wait, IsOneOf, IsThere, Opens, new_goal, changed_goal, holder_of_changed_goals}
use Rattle.akl_model.proofs.Finds.{times}
use Rattle.akl_model.proofs.Options.{some_value, none_or}
use Rattle.step_laws.specs.Holders.{IsAlternativeAt}
use Rattle.step_laws.proofs.Decide.{option_or, shape_or, names_or, not_not, place_or, one_of_or, there_or}
use Rattle.step_laws.proofs.Holders.{alternative_at}
use Rattle.step_laws.proofs.There.{site_there, there_site}
use Rattle.step_laws.proofs.Whereabouts.{home_in}
use Rattle.table_laws.specs.Rows.{BoxRow, GoalRow, Table}
use Rattle.table_laws.specs.Unfolds.{IsBoxRow, Unfolds}
use Rattle.table_laws.proofs.Frame.{row_of}
use Rattle.table_laws.proofs.Insides.{goal_row, choice_of}
use Rattle.box_tree.specs.Tables.{goals_in, is_empty}
use Rattle.box_tree.specs.Insides.{first_solved_in, candidate_of, candidate_at}
use Rattle.wake_lists.specs.Open.{Openings}
use Rattle.scheduler.specs.declared.splits.Split.{Split}
use Rattle.scheduler.specs.Openings.{IsOpenAt}
use Rattle.scheduler.specs.Splits.{same_split, is_kept, split_by, split_at, split_list, splits_at, KeepsPlace, DropsSplits, AreSplitsOf}
use Rattle.opened_places.specs.Placed.{PlacedValue, places_of}
use Rattle.scheduler.proofs.CommitFacts.{CommitFacts, not_both, not_true, or_true, or_left, or_right}
use Rattle.scheduler.proofs.KeptSplits.{split_equal, split_itself}
use Rattle.scheduler.proofs.SplitRows.{split_goal, split_in}

-- Those at places of a list

at_place : (s : Split) (o : Option Split) → is_kept s (split_list o) ≡ true → o ≡ Some s
at_place s None e = cc
at_place s (Some r) e = elim (or_true (same_split s r) false e) [ inl f ↦ ap Some (sym (split_equal s r f)) | inr f ↦ cc ]

place_at : (s : Split) (o : Option Split) → o ≡ Some s → is_kept s (split_list o) ≡ true
place_at s o e = ap (λ (x : Option Split). is_kept s (split_list x)) e ∙ or_left (same_split s s) false (split_itself s)

listed_split : (T : Table) (s : Split) (ps : List Place) → is_kept s (splits_at T ps) ≡ true → IsOneOf (Place.Goal s.goal) ps
listed_split T s [] e = cc
listed_split T s (p ∷ ps) e = elim (or_true (is_kept s (split_list (split_at T p))) (is_kept s (splits_at T ps)) (sym (list_any-append (same_split s) (split_list (split_at T p)) (splits_at T ps)) ∙ e)) [
  | inl f ↦ inl (sym (split_goal T p s (at_place s (split_at T p) f)))
  | inr f ↦ inr (listed_split T s ps f)
]

split_listed : (T : Table) (s : Split) (ps : List Place) → split_at T (Place.Goal s.goal) ≡ Some s → IsOneOf (Place.Goal s.goal) ps → is_kept s (splits_at T ps) ≡ true
split_listed T s [] e i = absurd i
split_listed T s (p ∷ ps) e (inl q) =
    list_any-append (same_split s) (split_list (split_at T p)) (splits_at T ps) ∙ or_left (is_kept s (split_list (split_at T p))) (is_kept s (splits_at T ps)) (place_at s (split_at T p) (ap (split_at T) (sym q) ∙ e))
split_listed T s (p ∷ ps) e (inr i) =
    list_any-append (same_split s) (split_list (split_at T p)) (splits_at T ps) ∙ or_right (is_kept s (split_list (split_at T p))) (is_kept s (splits_at T ps)) (split_listed T s ps e i)

-- A place is kept, and closes

module _ (T : Table) (os : Openings) (place : Place) (before now : List Split) (are : AreSplitsOf T os before) (keeps : KeepsPlace T place before now) where
  pub kept_with : AreSplitsOf T os now
  kept_with = record {
    all = λ s e. elim (are.all s e) [ inl i ↦ inl i | inr k ↦ inr (keeps s ∙ or_left (is_kept s before) (is_kept s (split_list (split_at T place))) k) ];
    only = λ s e. elim (or_true (is_kept s before) (is_kept s (split_list (split_at T place))) (sym (keeps s) ∙ e)) [
      | inl f ↦ are.only s f
      | inr f ↦ let q : split_at T place ≡ Some s = at_place s (split_at T place) f in ap (split_at T) (sym (split_goal T place s q)) ∙ q
    ];
  }

  pub its_kept : (s : Split) → place ≡ Place.Goal s.goal → split_at T (Place.Goal s.goal) ≡ Some s → is_kept s now ≡ true
  its_kept s e f = keeps s ∙ or_right (is_kept s before) (is_kept s (split_list (split_at T place))) (place_at s (split_at T place) (ap (split_at T) e ∙ f))

-- what is open stays open, but one of which it is known
pub closes_one : (T : Table) (os left : Openings) (place : Place) (kept : List Split) → AreSplitsOf T os kept → ((s : Split) → place ≡ Place.Goal s.goal → split_at T (Place.Goal s.goal) ≡ Some s → is_kept s kept ≡ true)
    → ((other : Place) → IsOpenAt os other → (other ≡ place → ⊥) → IsOpenAt left other) → AreSplitsOf T left kept
closes_one T os left place kept are known stays = record {
  all = λ s e. elim (are.all s e) [
    | inr k ↦ inr k
    | inl i ↦ elim (place_or (Place.Goal s.goal) place) [ inl q ↦ inr (known s (sym q) e) | inr n ↦ inl (stays (Place.Goal s.goal) i n) ]
  ];
  only = are.only;
}

-- the same choices are kept
pub same_splits : (T : Table) (os : Openings) (before now : List Split) → ((s : Split) → is_kept s now ≡ is_kept s before) → AreSplitsOf T os before → AreSplitsOf T os now
same_splits T os before now same are = record {
  all = λ s e. elim (are.all s e) [ inl i ↦ inl i | inr k ↦ inr (same s ∙ k) ];
  only = λ s e. are.only s (sym (same s) ∙ e);
}

-- and the same is open
pub still_splits : (T : Table) (os left : Openings) (kept : List Split) → ((s : Split) → split_at T (Place.Goal s.goal) ≡ Some s → IsOpenAt os (Place.Goal s.goal) → IsOpenAt left (Place.Goal s.goal)) → AreSplitsOf T os kept → AreSplitsOf T left kept
still_splits T os left kept stays are = record { all = λ s e. elim (are.all s e) [ inl i ↦ inl (stays s e i) | inr k ↦ inr k ]; only = are.only }

-- A label that leaves a goal unopened leaves it what it is

last_name : (xs ys : List Name) (x y : Name) → xs ++ x ∷ [] ≡ ys ++ y ∷ [] → x ≡ y
last_name xs ys x y e =
    let q : x ∷ reverse xs ≡ y ∷ reverse ys = sym (reverse-append xs (x ∷ [])) ∙ ap reverse e ∙ reverse-append ys (y ∷ []) in
    cc

first_same : (T U : Table) (ns : List Name) → ((n : Name) → IsIn n ns → goals_in (T.box_of n) ≡ goals_in (U.box_of n)) → first_solved_in T ns ≡ first_solved_in U ns
first_same T U [] h = refl
first_same T U (n ∷ ns) h =
    ap (λ (gs : List Name). if is_empty gs then Some n else first_solved_in T ns) (h n (inl refl))
    ∙ ap (λ (o : Option Name). if is_empty (goals_in (U.box_of n)) then Some n else o) (first_same T U ns (λ m i. h m (inr i)))

candidate_same : (T U : Table) (shape : Shape) → ((op : Operator) (ns : List Name) → shape ≡ of_choice op ns → (n : Name) → IsIn n ns → goals_in (T.box_of n) ≡ goals_in (U.box_of n)) → candidate_of T shape ≡ candidate_of U shape
candidate_same T U (of_atom a) h = refl
candidate_same T U (of_choice Operator.condition ns) h = refl
candidate_same T U (of_choice Operator.commit ns) h = refl
candidate_same T U (of_choice (Operator.collecting r) ns) h = refl
candidate_same T U (of_choice Operator.nondeterminate ns) h = ap (λ (o : Option Name). if nat_lt 1 (length ns) then o else None) (first_same T U ns (h Operator.nondeterminate ns refl))

module _ (T U : Table) (c d : Config) (t : Unfolds T c) (u : Unfolds U d) (once : (m : Name) → times m c.roots ≤ 1) (once_later : (m : Name) → times m d.roots ≤ 1) (kept : List Wait) (g : Name)
    (e f : Found) (was : home_of g c.roots ≡ Some e) (is : home_of g d.roots ≡ Some f) (around : boxes_around (Place.Goal g) c.roots ≡ boxes_around (Place.Goal g) d.roots) (unopened : Opens kept c d (Place.Goal g) → ⊥) where
  same_shape : shape_at g c.roots ≡ shape_at g d.roots
  same_shape = not_not (option_or Shape shape_or (shape_at g c.roots) (shape_at g d.roots)) (λ n. unopened (changed_goal was is n))

  record HasRow (R : Table) (k : Config) (at : Found) : Type 0 where
    row : GoalRow
    there : R.goal_of g ≡ Some row
    home : row.home ≡ at.content.name
    held : Held
    is_held : held_in g at.goals ≡ Some held
    shape : row.shape ≡ shape_of held
    shape_is : shape_at g k.roots ≡ Some row.shape

  has_row : (R : Table) (k : Config) → Unfolds R k → ((m : Name) → times m k.roots ≤ 1) → (at : Found) → home_of g k.roots ≡ Some at → HasRow R k at
  has_row R k r one at q =
      let h : (h : Held) × (held_in g at.goals ≡ Some h) = (home_in g k.roots at q).1 in
      let w : (x : GoalRow) × (R.goal_of g ≡ Some x) × (x.home ≡ at.content.name) × (x.shape ≡ shape_of h.0) = goal_row R k r one g at h.0 q h.1 in
      record {
        row = w.0;
        there = w.1;
        home = w.2;
        held = h.0;
        is_held = h.1;
        shape = w.3;
        shape_is = shape_found q h.1 ∙ ap Some (sym w.3);
      }
    where
      shape_found : {h : Held} → home_of g k.roots ≡ Some at → held_in g at.goals ≡ Some h → shape_at g k.roots ≡ Some (shape_of h)
      shape_found x y = cc

  row_before : HasRow T c e
  row_before = has_row T c t once e was

  row_later : HasRow U d f
  row_later = has_row U d u once_later f is

  shapes : row_before.row.shape ≡ row_later.row.shape
  shapes = some_value (sym row_before.shape_is ∙ same_shape ∙ row_later.shape_is)

  homes : row_before.row.home ≡ row_later.row.home
  homes =
      let q : names_down_to e ≡ names_down_to f = some_value (sym (ap (option_map names_down_to) was) ∙ around ∙ ap (option_map names_down_to) is) in
      row_before.home ∙ last_name (names_around e) (names_around f) e.content.name f.content.name q ∙ sym row_later.home

  -- the goals of its alternatives
  goals_before : (R : Table) (k : Config) → Unfolds R k → (n : Name) (at : Found) → box_at n k.roots ≡ Some at → goals_in (R.box_of n) ≡ goal_names at.goals
  goals_before R k r n at q = let w : (x : BoxRow) × (R.box_of n ≡ Some x) × IsBoxRow R k.roots at x = row_of R k r n at q in ap goals_in w.1 ∙ w.2.goals

  alternative : (R : Table) (k : Config) → ((m : Name) → times m k.roots ≤ 1) → (at : Found) → home_of g k.roots ≡ Some at → (r : HasRow R k at) (op : Operator) (ns : List Name) (n : Name) → r.row.shape ≡ of_choice op ns → IsIn n ns → IsAlternativeAt n g at k.roots
  alternative R k one at q r op ns n e i =
      let w : (bs : Boxes) × (r.held ≡ a_choice op bs) × (box_names bs ≡ ns) = choice_of r.held op ns (sym r.shape ∙ e) in
      alternative_at k.roots one n g at op w.0 q (r.is_held ∙ ap Some w.1) (subst (IsIn n) (sym w.2) i)

  same_goals : (op : Operator) (ns : List Name) → row_later.row.shape ≡ of_choice op ns → (n : Name) → IsIn n ns → goals_in (T.box_of n) ≡ goals_in (U.box_of n)
  same_goals op ns s n i =
      let x : IsAlternativeAt n g e c.roots = alternative T c once e was row_before op ns n (shapes ∙ s) i in
      let y : IsAlternativeAt n g f d.roots = alternative U d once_later f is row_later op ns n s i in
      let same : goals_at n c.roots ≡ goals_at n d.roots = not_not (option_or (List Name) names_or (goals_at n c.roots) (goals_at n d.roots)) (λ k. unopened (holder_of_changed_goals n x.is_found y.is_found k y.holder)) in
      goals_before T c t n x.found x.is_found
      ∙ some_value (sym (ap (option_map (λ (k : Found). goal_names k.goals)) x.is_found) ∙ same ∙ ap (option_map (λ (k : Found). goal_names k.goals)) y.is_found)
      ∙ sym (goals_before U d u n y.found y.is_found)

  pub split_stays : split_at T (Place.Goal g) ≡ split_at U (Place.Goal g)
  split_stays =
      ap (λ (o : Option GoalRow). split_by g (candidate_at T o) (home_at o)) row_before.there
      ∙ (λ i. split_by g (candidates i) (Some (homes i)))
      ∙ sym (ap (λ (o : Option GoalRow). split_by g (candidate_at U o) (home_at o)) row_later.there)
    where
      home_at : Option GoalRow → Option Name
      home_at None = None
      home_at (Some r) = Some r.home

      candidates : candidate_of T row_before.row.shape ≡ candidate_of U row_later.row.shape
      candidates = ap (candidate_of T) shapes ∙ candidate_same T U row_later.row.shape same_goals

-- Once a label was made, whose choices are kept no more that it opens or takes away

kept_but : (a b : Bool) → (a && not b) ≡ true → (a ≡ true) × (b ≡ false)
kept_but true true e = cc
kept_but true false e = (refl, refl)
kept_but false b e = cc

but_kept : (a b : Bool) → a ≡ true → b ≡ false → (a && not b) ≡ true
but_kept a b e f = (λ i. e i && not (f i))

module _ (T U : Table) (c d : Config) (t : Unfolds T c) (u : Unfolds U d) (once : (m : Name) → times m c.roots ≤ 1) (once_later : (m : Name) → times m d.roots ≤ 1) (own : Place) (before : List Place) (kept : List Wait) (ps : List PlacedValue)
    (gone : List Place) (f : CommitFacts c d own before kept ps gone) (os left : Openings) (stays : (place : Place) → IsOpenAt os place → IsThere place d.roots → IsOpenAt left place) (opens : (place : Place) → Opens kept c d place → IsOpenAt left place)
    (ks now : List Split) (are : AreSplitsOf T os ks) (drops : DropsSplits (splits_at T (places_of ps) ++ splits_at T gone) ks now) where
  abbrev ended : List Split
  ended = splits_at T (places_of ps) ++ splits_at T gone

  unopened : (g : Name) → (IsOneOf (Place.Goal g) (places_of ps) → ⊥) → Opens kept c d (Place.Goal g) → ⊥
  unopened g n o = n (f.effects.listed (Place.Goal g) o)

  same : (g : Name) → IsThere (Place.Goal g) c.roots → IsThere (Place.Goal g) d.roots → (IsOneOf (Place.Goal g) (places_of ps) → ⊥) → split_at T (Place.Goal g) ≡ split_at U (Place.Goal g)
  same g h k n =
      let x : (e : Found) × (home_of g c.roots ≡ Some e) = there_site (Place.Goal g) c.roots h in
      let y : (e : Found) × (home_of g d.roots ≡ Some e) = there_site (Place.Goal g) d.roots k in
      split_stays T U c d t u once once_later kept g x.0 y.0 x.1 y.1 (f.still (Place.Goal g) h k) (unopened g n)

  in_ended : (s : Split) → is_kept s ended ≡ true → IsOneOf (Place.Goal s.goal) (places_of ps) ⊎ IsOneOf (Place.Goal s.goal) gone
  in_ended s e = elim (or_true (is_kept s (splits_at T (places_of ps))) (is_kept s (splits_at T gone)) (sym (list_any-append (same_split s) (splits_at T (places_of ps)) (splits_at T gone)) ∙ e)) [
    | inl i ↦ inl (listed_split T s (places_of ps) i)
    | inr i ↦ inr (listed_split T s gone i)
  ]

  ends : (s : Split) → split_at T (Place.Goal s.goal) ≡ Some s → IsOneOf (Place.Goal s.goal) (places_of ps) ⊎ IsOneOf (Place.Goal s.goal) gone → is_kept s ended ≡ true
  ends s e (inl i) = list_any-append (same_split s) (splits_at T (places_of ps)) (splits_at T gone) ∙ or_left (is_kept s (splits_at T (places_of ps))) (is_kept s (splits_at T gone)) (split_listed T s (places_of ps) e i)
  ends s e (inr i) = list_any-append (same_split s) (splits_at T (places_of ps)) (splits_at T gone) ∙ or_right (is_kept s (splits_at T (places_of ps))) (is_kept s (splits_at T gone)) (split_listed T s gone e i)

  was_there : (g : Name) → IsThere (Place.Goal g) d.roots → (IsOneOf (Place.Goal g) (places_of ps) → ⊥) → IsThere (Place.Goal g) c.roots
  was_there g h n = elim (none_or (home_of g c.roots)) [
    | inl z ↦ absurd (let y : (e : Found) × (home_of g d.roots ≡ Some e) = there_site (Place.Goal g) d.roots h in unopened g n (new_goal z y.1))
    | inr w ↦ site_there (Place.Goal g) c.roots w.0 w.1
  ]

  all_after : (s : Split) → split_at U (Place.Goal s.goal) ≡ Some s → IsOpenAt left (Place.Goal s.goal) ⊎ (is_kept s now ≡ true)
  all_after s e = elim (one_of_or (Place.Goal s.goal) (places_of ps)) [ inl i ↦ inl (opens (Place.Goal s.goal) (f.effects.opened (Place.Goal s.goal) i)) | inr n ↦ on n ]
    where
      there : IsThere (Place.Goal s.goal) d.roots
      there = (split_in U d u once_later s e).there

      on : (IsOneOf (Place.Goal s.goal) (places_of ps) → ⊥) → IsOpenAt left (Place.Goal s.goal) ⊎ (is_kept s now ≡ true)
      on n = elim (are.all s (same s.goal (was_there s.goal there n) there n ∙ e)) [
        | inl i ↦ inl (stays (Place.Goal s.goal) i there)
        | inr k ↦ inr (drops s ∙ but_kept (is_kept s ks) (is_kept s ended) k (not_true (is_kept s ended) (λ z. elim (in_ended s z) [ inl i ↦ n i | inr i ↦ f.is_gone (Place.Goal s.goal) i there ])))
      ]

  only_after : (s : Split) → is_kept s now ≡ true → split_at U (Place.Goal s.goal) ≡ Some s
  only_after s e = sym (same s.goal was there unlisted) ∙ q
    where
      w : (is_kept s ks ≡ true) × (is_kept s ended ≡ false)
      w = kept_but (is_kept s ks) (is_kept s ended) (sym (drops s) ∙ e)

      q : split_at T (Place.Goal s.goal) ≡ Some s
      q = are.only s w.0

      was : IsThere (Place.Goal s.goal) c.roots
      was = (split_in T c t once s q).there

      unlisted : IsOneOf (Place.Goal s.goal) (places_of ps) → ⊥
      unlisted i = not_both (ends s q (inl i)) w.1

      there : IsThere (Place.Goal s.goal) d.roots
      there = elim (there_or (Place.Goal s.goal) d.roots) [ inl h ↦ h | inr m ↦ absurd (not_both (ends s q (inr (f.gone_listed (Place.Goal s.goal) was m))) w.1) ]

  pub label_splits : AreSplitsOf U left now
  label_splits = record { all = all_after; only = only_after }
