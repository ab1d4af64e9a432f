-- What is listed box by box is what stands in a box or inside it.
use Rattle.std.proofs.Common.{◌≡◌, ℕ, zero, suc, ◌+◌, ◌<◌, ◌≤◌, length, get_or, List, [], ◌∷◌, ◌++◌, Bool, true, false, Option, Some, None, refl, sym, ◌∙◌, ap, subst, ◌⊎◌, inl, inr, arith}
use Rattle.std.specs.Prelude.{if◌then◌else◌, option_map, is_some, IsSomeAnd}
use Rattle.std.specs.List.{AllByRecursion}
use Rattle.akl_terms.specs.declared.name.Name.{Name}
use Rattle.akl_terms.specs.declared.name.Place.{Place}
use Rattle.akl_terms.specs.Names.{same_name}
use Rattle.akl_terms.proofs.SameNames.{same_name-equal, same_name-refl}
use Rattle.akl_model.specs.Config.{IsIn, Held, held_in, Found, box_at, home_of}
use Rattle.akl_model.specs.Stable.{only}
use Rattle.akl_model.specs.Wakes.{names_around, names_down_to, boxes_around, StandsIn, IsOneOf}
use Rattle.akl_model.proofs.Finds.{times}
use Rattle.akl_model.proofs.NamesKept.{box-itself}
use Rattle.akl_model.proofs.Options.{and_some}
use Rattle.akl_model.proofs.Scoped.{IsIn-left, IsIn-either}
use Rattle.akl_model.proofs.ScopesAlong.{times_path, found_path}
use Rattle.step_laws.proofs.Whereabouts.{in_named}
use Rattle.step_laws.proofs.Deeper.{home_found}
use Rattle.table_laws.specs.Rows.{BoxRow, Table}
use Rattle.table_laws.specs.Unfolds.{IsBoxRow}
use Rattle.table_laws.specs.Stamped.{Run, IsTableOf}
use Rattle.table_laws.specs.Inside.{IsDirectlyIn, IsGoalInside}
use Rattle.table_laws.specs.Walks.{ListsInside}
use Rattle.table_laws.proofs.Along.{named_path}
use Rattle.table_laws.proofs.Frame.{row_of}
use Rattle.table_laws.proofs.Insides as insides
use Rattle.box_tree.specs.Tables.{all_rules, TableValue, table_of, goals_in}
use Rattle.box_tree.specs.Paths.{IsPath}
use Rattle.box_tree.specs.Views.{is_there}
use Rattle.opened_places.specs.Placed.{PlacedValue, placed, places_of, StandsSo, all_but_last, goals_placed}
use Rattle.opened_places.specs.Gone.{goals_named}
use Rattle.opened_places.specs.Inner.{AreAllInside, AreInside, inner_placed, AddsInner, AddsEach}
use Rattle.opened_places.proofs.PlacesAt.{direct, in_row}
use Rattle.opened_places.proofs.Members.{one_left, one_right, one_either, named_one, one_named}
use Rattle.opened_places.proofs.RunRows as run_rows
use Rattle.opened_places.proofs.RunRows.{around_of_path}

-- lists of places with the boxes around them

pub places_append : (xs ys : List PlacedValue) → places_of (xs ++ ys) ≡ places_of xs ++ places_of ys
places_append [] ys = refl
places_append (x ∷ xs) ys = ap (λ (ps : List Place). x.place ∷ ps) (places_append xs ys)

pub all_append : (P : PlacedValue → Type 0) (xs ys : List PlacedValue) → AllByRecursion P xs → AllByRecursion P ys → AllByRecursion P (xs ++ ys)
all_append P [] ys a b = b
all_append P (x ∷ xs) ys a b = (a.0, all_append P xs ys a.1 b)

pub goals_places : (around names : List Name) → places_of (goals_placed around names) ≡ goals_named names
goals_places around [] = refl
goals_places around (g ∷ gs) = ap (λ (ps : List Place). Place.Goal g ∷ ps) (goals_places around gs)

pub all_goals : (P : PlacedValue → Type 0) (around names : List Name) → ((g : Name) → IsIn g names → P (placed (Place.Goal g) around)) → AllByRecursion P (goals_placed around names)
all_goals P around [] f = tt
all_goals P around (g ∷ gs) f = (f g (inl refl), all_goals P around gs (λ h i. f h (inr i)))

pub got_in : (ns : List Name) (i : ℕ) (d : Name) → i < length ns → IsIn (get_or ns i d) ns
got_in [] i d l = absurd (omega arith)
got_in (n ∷ ns) zero d l = inl refl
got_in (n ∷ ns) (suc i) d l = inr (got_in ns i d (omega arith))

-- one box more is added
pub adds_end : (v : TableValue) (outer n : Name) (ns : List Name) (before middle afterwards : List PlacedValue) → AddsEach v outer ns before middle → AddsInner v outer n middle afterwards → AddsEach v outer (ns ++ n ∷ []) before afterwards
adds_end v outer n [] before middle afterwards e x = (afterwards, subst (λ (ps : List PlacedValue). AddsInner v outer n ps afterwards) e x, refl)
adds_end v outer n (m ∷ ms) before middle afterwards (next, a, b) x = (next, a, adds_end v outer n ms next middle afterwards b x)

-- a place that comes with a box
abbrev IsOf : Table → Name → Name → Place → Type 0
IsOf T outer m p = ((p ≡ Place.Box m) × (m ≡ outer → ⊥)) ⊎ ((g : Name) × (p ≡ Place.Goal g) × IsDirectlyIn T m g)

abbrev IsOfOne : Table → Name → List Name → Place → Type 0
IsOfOne T outer ns p = (m : Name) × IsIn m ns × IsOf T outer m p

goals_of : (T : Table) (outer m : Name) (path : List Name) (p : Place) → IsOneOf p (places_of (goals_placed path (goals_in (T.box_of m)))) → IsOf T outer m p
goals_of T outer m path p i =
    let w : (g : Name) × (p ≡ Place.Goal g) × IsIn g (goals_in (T.box_of m)) = one_named p (goals_in (T.box_of m)) (subst (IsOneOf p) (goals_places path (goals_in (T.box_of m))) i) in
    inr (w.0, w.1, direct T m w.0 w.2)

goal_of : (T : Table) (m g : Name) (path : List Name) → IsDirectlyIn T m g → IsOneOf (Place.Goal g) (places_of (goals_placed path (goals_in (T.box_of m))))
goal_of T m g path x = subst (IsOneOf (Place.Goal g)) (sym (goals_places path (goals_in (T.box_of m)))) (named_one g (goals_in (T.box_of m)) (in_row T m g x))

module _ (T : Table) (outer m : Name) (path : List Name) where
  abbrev front : Bool → List PlacedValue
  front b = if b then [] else placed (Place.Box m) (all_but_last path) ∷ []

  abbrev goals : List PlacedValue
  goals = goals_placed path (goals_in (T.box_of m))

  in_inner : (p : Place) → IsOneOf p (places_of (inner_placed outer m path (goals_in (T.box_of m)))) → IsOf T outer m p
  in_inner p i = on (same_name m outer) refl i
    where
      on : (b : Bool) → same_name m outer ≡ b → IsOneOf p (places_of (front b ++ goals)) → IsOf T outer m p
      on true e i = goals_of T outer m path p i
      on false e (inl q) = inl (q, λ z. (let y : false ≡ true = sym e ∙ ap (λ (k : Name). same_name k outer) z ∙ same_name-refl outer in cc))
      on false e (inr i) = goals_of T outer m path p i

  inner_in : (p : Place) → IsOf T outer m p → IsOneOf p (places_of (inner_placed outer m path (goals_in (T.box_of m))))
  inner_in p i = on (same_name m outer) refl i
    where
      on : (b : Bool) → same_name m outer ≡ b → IsOf T outer m p → IsOneOf p (places_of (front b ++ goals))
      on true e (inl (q, f)) = absurd (f (same_name-equal m outer e))
      on false e (inl (q, f)) = inl q
      on true e (inr (g, q, x)) = subst (λ (o : Place). IsOneOf o (places_of goals)) (sym q) (goal_of T m g path x)
      on false e (inr (g, q, x)) = inr (subst (λ (o : Place). IsOneOf o (places_of goals)) (sym q) (goal_of T m g path x))

module _ (v : TableValue) (outer : Name) where
  -- what is listed comes with the boxes, and what comes with them is listed

  pub listed_of : (ns : List Name) (before afterwards : List PlacedValue) → AddsEach v outer ns before afterwards → (p : Place) → IsOneOf p (places_of afterwards) → IsOneOf p (places_of before) ⊎ IsOfOne (table_of v) outer ns p
  listed_of [] before afterwards e p i = inl (subst (λ (ps : List PlacedValue). IsOneOf p (places_of ps)) e i)
  listed_of (n ∷ ns) before afterwards (next, (path, is_path, e), b) p i = elim (listed_of ns next afterwards b p i) [
    | inl j ↦ elim (one_either p (places_of before) (places_of new) (subst (IsOneOf p) (ap places_of e ∙ places_append before new) j)) [
      | inl k ↦ inl k
      | inr k ↦ inr (n, inl refl, in_inner (table_of v) outer n path p k)
    ]
    | inr (m, j, x) ↦ inr (m, inr j, x)
  ]
    where
      new : List PlacedValue
      new = inner_placed outer n path (goals_in ((table_of v).box_of n))

  pub of_listed : (ns : List Name) (before afterwards : List PlacedValue) → AddsEach v outer ns before afterwards → (p : Place) → IsOneOf p (places_of before) ⊎ IsOfOne (table_of v) outer ns p → IsOneOf p (places_of afterwards)
  of_listed [] before afterwards e p (inl i) = subst (λ (ps : List PlacedValue). IsOneOf p (places_of ps)) (sym e) i
  of_listed [] before afterwards e p (inr (m, z, x)) = absurd z
  of_listed (n ∷ ns) before afterwards (next, (path, is_path, e), b) p i = of_listed ns next afterwards b p (elim i [
    | inl j ↦ inl (subst (IsOneOf p) same (one_left p (places_of before) (places_of new) j))
    | inr (m, inl q, x) ↦ inl (subst (IsOneOf p) same (one_right p (places_of before) (places_of new) (inner_in (table_of v) outer n path p (subst (λ (k : Name). IsOf (table_of v) outer k p) q x))))
    | inr (m, inr j, x) ↦ inr (m, j, x)
  ])
    where
      new : List PlacedValue
      new = inner_placed outer n path (goals_in ((table_of v).box_of n))

      same : places_of before ++ places_of new ≡ places_of next
      same = sym (ap places_of e ∙ places_append before new)

  module _ (run : Run) (t : IsTableOf all_rules run (table_of v)) where
    -- each has the boxes around it

    around_inner : (n : Name) (f : Found) (path : List Name) → box_at n t.config.roots ≡ Some f → IsPath (table_of v) n path → AllByRecursion (StandsSo t.config.roots) (inner_placed outer n path (goals_in ((table_of v).box_of n)))
    around_inner n f path e p = on (same_name n outer)
      where
        down : path ≡ names_down_to f
        down = run_rows.path_is v run t n f path e p

        box : boxes_around (Place.Box n) t.config.roots ≡ Some (all_but_last path)
        box = ap (option_map names_around) e ∙ ap Some (sym (ap all_but_last down ∙ around_of_path f))

        goal : (g : Name) → IsIn g (goals_in ((table_of v).box_of n)) → StandsSo t.config.roots (placed (Place.Goal g) path)
        goal g i =
            let h : (h : Held) × (held_in g f.goals ≡ Some h) = insides.held_directly (table_of v) t.config t.unfolds (run_rows.once v run t) n g f e (direct (table_of v) n g i) in
            ap (option_map names_down_to) (home_found t.config.roots (run_rows.once v run t) g n f h.0 e h.1) ∙ ap Some (sym down)

        all : AllByRecursion (StandsSo t.config.roots) (goals_placed path (goals_in ((table_of v).box_of n)))
        all = all_goals (StandsSo t.config.roots) path (goals_in ((table_of v).box_of n)) goal

        on : (b : Bool) → AllByRecursion (StandsSo t.config.roots) ((if b then [] else placed (Place.Box n) (all_but_last path) ∷ []) ++ goals_placed path (goals_in ((table_of v).box_of n)))
        on true = all
        on false = (box, all)

    around_each : (ns : List Name) (before afterwards : List PlacedValue) → ((n : Name) → IsIn n ns → (f : Found) × (box_at n t.config.roots ≡ Some f)) → AddsEach v outer ns before afterwards
        → AllByRecursion (StandsSo t.config.roots) before → AllByRecursion (StandsSo t.config.roots) afterwards
    around_each [] before afterwards there e a = subst (AllByRecursion (StandsSo t.config.roots)) (sym e) a
    around_each (n ∷ ns) before afterwards there (next, (path, p, e), b) a =
        let w : (f : Found) × (box_at n t.config.roots ≡ Some f) = there n (inl refl) in
        around_each ns next afterwards (λ m i. there m (inr i)) b
        (subst (AllByRecursion (StandsSo t.config.roots)) (sym e) (all_append (StandsSo t.config.roots) before (inner_placed outer n path (goals_in ((table_of v).box_of n))) a (around_inner n w.0 path w.1 p)))

    -- no box stands in itself
    not_in_itself : (n : Name) (f : Found) → box_at n t.config.roots ≡ Some f → IsIn n (names_around f) → ⊥
    not_in_itself n f e i =
        let a : times n (only f) + times_path n f.around ≤ times n t.config.roots = found_path n n t.config.roots f e in
        let b : times n t.config.roots ≤ 1 = run_rows.once v run t n in
        let k : 1 ≤ times n (only f) = subst (λ (m : Name). 1 ≤ times m (only f)) (sym (box-itself n t.config.roots f e)) (in_named (only f) (record f { around = [] }) (inl (refl, refl, refl))) in
        named_path n f.around (omega (arith, a, b, k)) i

    pub all_inside : (e : Found) (names : List Name) (places : List PlacedValue) → box_at outer t.config.roots ≡ Some e → ListsInside (table_of v) outer names → AddsEach v outer names [] places → AreAllInside t.config.roots outer places
    all_inside e names places is_box lists adds = record { listed = listed; inside = inside; around = around_each names [] places there adds tt }
      where
        under : (m : Name) → IsIn m names → insides.IsUnder (table_of v) t.config t.unfolds (run_rows.once v run t) outer m
        under m i = insides.under (table_of v) t.config t.unfolds (run_rows.once v run t) outer m e is_box (lists.inside m i)

        there : (m : Name) → IsIn m names → (f : Found) × (box_at m t.config.roots ≡ Some f)
        there m i = ((under m i).found, (under m i).is_found)

        is_in : (p : Place) → IsOfOne (table_of v) outer names p → IsOneOf p (places_of places)
        is_in p x = of_listed names [] places adds p (inr x)

        listed : (p : Place) → StandsIn outer t.config.roots p → IsOneOf p (places_of places)
        listed (Place.Box m) s = on (box_at m t.config.roots) refl s
          where
            on : (o : Option Found) → box_at m t.config.roots ≡ o → IsSomeAnd (option_map names_around o) (IsIn outer) → IsOneOf (Place.Box m) (places_of places)
            on None q s = absurd s
            on (Some f) q s = is_in (Place.Box m) (
              m,
              lists.each m (insides.inside (table_of v) t.config t.unfolds (run_rows.once v run t) outer m f q (IsIn-left outer (names_around f) (f.content.name ∷ []) s)),
              inl (refl, λ z. not_in_itself outer f (ap (λ (k : Name). box_at k t.config.roots) (sym z) ∙ q) s),
            )
        listed (Place.Goal g) s = on (home_of g t.config.roots) refl s
          where
            on : (o : Option Found) → home_of g t.config.roots ≡ o → IsSomeAnd (option_map names_down_to o) (IsIn outer) → IsOneOf (Place.Goal g) (places_of places)
            on None q s = absurd s
            on (Some f) q s =
                let x : IsGoalInside (table_of v) outer g = insides.goal_inside (table_of v) t.config t.unfolds (run_rows.once v run t) outer g f q s in
                is_in (Place.Goal g) (x.box, lists.each x.box x.inside, inr (g, refl, x.goal))

        stands : (m : Name) → IsIn m names → (p : Place) → IsOf (table_of v) outer m p → StandsIn outer t.config.roots p
        stands m i p (inl (q, apart)) = subst (StandsIn outer t.config.roots) (sym q) (and_some (IsIn outer) (boxes_around (Place.Box m) t.config.roots) (names_around f) (ap (option_map names_around) found) (elim (IsIn-either outer (names_around f) (f.content.name ∷ []) (under m i).named) [
          | inl j ↦ j
          | inr j ↦ elim j [ inl z ↦ absurd (apart (box-itself m t.config.roots f found ∙ sym z)) | inr z ↦ absurd z ]
        ]))
          where
            f : Found
            f = (under m i).found

            found : box_at m t.config.roots ≡ Some f
            found = (under m i).is_found
        stands m i p (inr (g, q, x)) =
            let y : insides.IsGoalUnder (table_of v) t.config t.unfolds (run_rows.once v run t) outer g =
            insides.goal_under (table_of v) t.config t.unfolds (run_rows.once v run t) outer g e is_box (record { box = m; inside = lists.inside m i; goal = x }) in
            subst (StandsIn outer t.config.roots) (sym q) (and_some (IsIn outer) (boxes_around (Place.Goal g) t.config.roots) (names_down_to y.found) (ap (option_map names_down_to) y.is_home) y.named)

        inside : (p : Place) → IsOneOf p (places_of places) → StandsIn outer t.config.roots p
        inside p i = elim (listed_of names [] places adds p i) [ inl z ↦ absurd z | inr (m, j, x) ↦ stands m j p x ]

  -- in the table of a run
  pub there_inside : (run : Run) (t : IsTableOf all_rules run (table_of v)) (names : List Name) → is_there (table_of v) (Place.Box outer) ≡ true → ListsInside (table_of v) outer names → (m : Name) → IsIn m names → is_there (table_of v) (Place.Box m) ≡ true
  there_inside run t names h lists m i =
      let e : (e : Found) × (box_at outer t.config.roots ≡ Some e) = run_rows.there_found v run t outer h in
      let w : insides.IsUnder (table_of v) t.config t.unfolds (run_rows.once v run t) outer m = insides.under (table_of v) t.config t.unfolds (run_rows.once v run t) outer m e.0 e.1 (lists.inside m i) in
      let r : (r : BoxRow) × ((table_of v).box_of m ≡ Some r) × IsBoxRow (table_of v) t.config.roots w.found r = row_of (table_of v) t.config t.unfolds m w.found w.is_found in
      ap is_some r.1

  pub inside_where : (names : List Name) (places : List PlacedValue) → is_there (table_of v) (Place.Box outer) ≡ true → ListsInside (table_of v) outer names → AddsEach v outer names [] places → AreInside v outer places
  inside_where names places h lists adds = λ run t. let e : (e : Found) × (box_at outer t.config.roots ≡ Some e) = run_rows.there_found v run t outer h in all_inside run t e.0 names places e.1 lists adds
