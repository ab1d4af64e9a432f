-- The items that a plan of Split reads: those of the box and inside it, and of the boxes around it.
use Rattle.std.proofs.Common.{◌≡◌, ℕ, ◌≤◌, List, [], ◌∷◌, ◌++◌, length, map, Option, Some, None, refl, sym, ◌∙◌, ap, subst, inl, inr, arith}
use Rattle.std.proofs.lemmas.List.{length-map}
use Rattle.std.specs.Prelude.{is_some, IsSome, option_map}
use Rattle.std.specs.List.{AllByRecursion}
use Rattle.akl_terms.specs.declared.name.Name.{Name}
use Rattle.akl_terms.specs.declared.name.Var.{Var}
use Rattle.constraint_laws.specs.Touched.{IsAmong}
use Rattle.akl_model.specs.declared.item.Item.{Item}
use Rattle.akl_model.specs.Config.{IsIn, Content, Boxes, no_boxes, box, Goals, no_goals, atom, choice, Found}
use Rattle.akl_model.specs.Changes.{Shape, goal_names}
use Rattle.akl_model.specs.Stable.{EachBox, EachInside, only}
use Rattle.akl_model.specs.Wakes.{names_around}
use Rattle.akl_model.proofs.Scoped.{IsIn-left}
use Rattle.step_laws.specs.Inside.{EachItem, EachItemAmong}
use Rattle.step_laws.proofs.Inside.{each_map}
use Rattle.reading_laws.specs.SeenBoxes as boxes_by
use Rattle.reading_laws.specs.SeenBoxes.{ReadsAround, by_root, by_sets, ReadsStable}
use Rattle.table_laws.specs.ByEnds.{EndsAt}
use Rattle.table_laws.specs.Rows.{BoxRow, GoalRow}
use Rattle.table_laws.specs.Unfolds.{IsBoxRow}
use Rattle.table_laws.specs.Inside.{IsInside}
use Rattle.table_laws.specs.Stamped.{store_stamp, goals_stamp, goal_stamp, stamp_in}
use Rattle.table_laws.proofs.Frame.{row_of}
use Rattle.box_tree.specs.declared.inside.InnerGoal.{InnerGoal}
use Rattle.box_tree.specs.declared.inside.InnerBox.{InnerBox}
use Rattle.box_tree.specs.Tables.{TableValue, table_of, goals_in}
use Rattle.box_tree.specs.Views.{ViewValue, IsViewOf}
use Rattle.box_tree.specs.Insides.{IsInnerGoal, IsInnerBox, AreBoxesInside}
use Rattle.box_tree.specs.Plans.{IsRead}
use Rattle.guard_plan.proofs.Sites.{store_there, stand, found}
use Rattle.guard_plan.proofs.ReadItems.{read_left, read_right, read_either, read_store, stores_read, read_set, sets_read, read_binding, bindings_read, set_there}
use Rattle.guard_plan.proofs.ReachedEnds.{ends_at}
use Rattle.stable_test.proofs.EachInside.{IsDown, each_down}
use Rattle.stable_test.proofs.PathStores.{is_inside}
use Rattle.split_plan.specs.Read as items
use Rattle.split_plan.specs.Read.{goal_items, items_in, AreItemsAround, of_one, of_more}

-- what is read of a box

abbrev OwnItems : (Item → Type 0) → Name → List Name → Type 0
OwnItems U m goals = U (Item.Store m) × U (Item.Goals m) × ((g : Name) → IsIn g goals → U (Item.Goal g))

read_goal : (gs : List InnerGoal) (g : Name) → IsIn g (map (λ (x : InnerGoal). x.name) gs) → IsRead (goal_items gs) (Item.Goal g)
read_goal [] g i = absurd i
read_goal (x ∷ gs) g (inl e) = inl (ap Item.Goal e)
read_goal (x ∷ gs) g (inr i) = inr (read_goal gs g i)

-- of more boxes the same is read
read_past : (b : InnerBox) (bs : List InnerBox) (m : Name) (goals : List Name) → OwnItems (IsRead (items_in bs)) m goals → OwnItems (IsRead (items_in (b ∷ bs))) m goals
read_past b bs m goals w = (past (Item.Store m) w.0, past (Item.Goals m) w.1, λ g j. past (Item.Goal g) (w.2 g j))
  where
    past : (j : Item) → IsRead (items_in bs) j → IsRead (items_in (b ∷ bs)) j
    past j r = inr (inr (read_right (goal_items b.goals.items) (items_in bs) j r))

module _ (t : TableValue) where
  read_box : (bs : List InnerBox) → AllByRecursion (IsInnerBox t) bs → (m : Name) → IsIn m (map (λ (b : InnerBox). b.name) bs) → (row : BoxRow) → (table_of t).box_of m ≡ Some row → OwnItems (IsRead (items_in bs)) m row.goals
  read_box [] all m i row e = absurd i
  read_box (b ∷ bs) all m (inl q) row e = (
    inl (ap Item.Store q),
    inr (inl (ap Item.Goals q)),
    λ g i. inr (inr (read_left (goal_items b.goals.items) (items_in bs) (Item.Goal g) (read_goal b.goals.items g (subst (IsIn g) (sym (all.0.goals ∙ same)) i)))),
  )
    where
      same : all.0.row.goals ≡ row.goals
      same = ap goals_in (sym all.0.there ∙ ap (table_of t).box_of (sym q) ∙ e)
  read_box (b ∷ bs) all m (inr i) row e = read_past b bs m row.goals (read_box bs all.1 m i row e)

  -- all that is read has a row
  goal_there : (o : Option GoalRow) (s : Shape) → option_map (λ (r : GoalRow). r.shape) o ≡ Some s → IsSome (goal_stamp o)
  goal_there None s e = cc
  goal_there (Some r) s e = refl

  goals_there : (gs : List InnerGoal) → AllByRecursion (IsInnerGoal t) gs → (j : Item) → IsRead (goal_items gs) j → IsSome (stamp_in (table_of t) j)
  goals_there [] all j r = absurd r
  goals_there (g ∷ gs) all j (inl e) = subst (λ (k : Item). IsSome (stamp_in (table_of t) k)) (sym e) (goal_there ((table_of t).goal_of g.name) _ all.0)
  goals_there (g ∷ gs) all j (inr r) = goals_there gs all.1 j r

  pub boxes_there : (bs : List InnerBox) → AllByRecursion (IsInnerBox t) bs → (j : Item) → IsRead (items_in bs) j → IsSome (stamp_in (table_of t) j)
  boxes_there [] all j r = absurd r
  boxes_there (b ∷ bs) all j (inl e) = subst (λ (k : Item). IsSome (stamp_in (table_of t) k)) (sym e) (ap (λ (o : Option BoxRow). is_some (store_stamp o)) all.0.there)
  boxes_there (b ∷ bs) all j (inr (inl e)) = subst (λ (k : Item). IsSome (stamp_in (table_of t) k)) (sym e) (ap (λ (o : Option BoxRow). is_some (goals_stamp o)) all.0.there)
  boxes_there (b ∷ bs) all j (inr (inr r)) = elim (read_either (goal_items b.goals.items) (items_in bs) j r) [
    | inl x ↦ goals_there b.goals.items all.0.held j x
    | inr x ↦ boxes_there bs all.1 j x
  ]

-- items of boxes, by each box that is found

abbrev HasItems : (Item → Type 0) → Found → Type 0
HasItems U f = OwnItems U f.content.name (goal_names f.goals)

mutual
  items_of : (U : Item → Type 0) (around : List Content) (bs : Boxes) → EachBox (HasItems U) around bs → EachItem U bs
  items_of U around no_boxes e = tt
  items_of U around (box b gs bs) e = (e.0.0, e.0.1, items_among U (around ++ b ∷ []) gs e.0.2 e.1, items_of U around bs e.2)

  items_among : (U : Item → Type 0) (around : List Content) (gs : Goals) → ((g : Name) → IsIn g (goal_names gs) → U (Item.Goal g)) → EachInside (HasItems U) around gs → EachItemAmong U gs
  items_among U around no_goals f e = tt
  items_among U around (atom g a gs) f e = (f g (inl refl), items_among U around gs (λ k i. f k (inr i)) e)
  items_among U around (choice g o bs gs) f e = (f g (inl refl), items_of U around bs e.0, items_among U around gs (λ k i. f k (inr i)) e.1)

module _ (v : ViewValue) (i : IsViewOf v) (n : Name) (is_name : n ≡ i.site.content.name) (boxes : List InnerBox) (x : AreBoxesInside v.table n boxes) where
  listed : (u : Found) → IsDown i.table.config (stand v i) i.site.content.name i.site (found v i) u → HasItems (IsRead (items_in boxes)) u
  listed u d = (w.0, w.1, λ g j. w.2 g (subst (IsIn g) (sym r.2.goals) j))
    where
      r : (r : BoxRow) × ((table_of v.table).box_of u.content.name ≡ Some r) × IsBoxRow (table_of v.table) i.table.config.roots u r
      r = row_of (table_of v.table) i.table.config i.table.unfolds u.content.name u d.there

      w : OwnItems (IsRead (items_in boxes)) u.content.name r.0.goals
      w = read_box v.table boxes x.boxes u.content.name
          (x.listed.each u.content.name (subst (λ (m : Name). IsInside (table_of v.table) m u.content.name) (sym is_name) (is_inside (table_of v.table) i.table.config (stand v i) i.table.unfolds i.site.content.name i.site (found v i) u d))) r.0 r.1

  pub inside_read : EachItem (IsRead (items_in boxes)) (only i.site)
  inside_read = items_of (IsRead (items_in boxes)) i.site.around (only i.site) (each_down i.table.config (stand v i) i.site.content.name i.site (found v i) (HasItems (IsRead (items_in boxes))) listed)

  -- with what is read of the boxes around
  module _ (around : List Name) (is_around : around ≡ names_around i.site) (outer : List Item) (are_outer : AreItemsAround v around outer) where
    abbrev Read : Item → Type 0
    Read = IsRead (outer ++ items_in boxes)

    deep : length around ≡ length i.site.around
    deep = ap (λ (ns : List Name). length ns) is_around ∙ length-map i.site.around (λ (b : Content). b.name)

    read_outer : (j : Item) → IsRead outer j → Read j
    read_outer j r = read_left outer (items_in boxes) j r

    within : EachItem Read (only i.site)
    within = each_map (IsRead (items_in boxes)) Read (λ j r. read_right outer (items_in boxes) j r) (only i.site) inside_read

    around_read : ReadsAround Read i.table.config i.site
    around_read = on are_outer
      where
        read_in : (items : List Item) → outer ≡ items → (j : Item) → IsRead items j → Read j
        read_in items e j r = read_outer j (subst (λ (js : List Item). IsRead js j) (sym e) r)

        there : (m : Name) → IsIn m (names_around i.site) → IsIn m around
        there m h = subst (IsIn m) (sym is_around) h

        on : AreItemsAround v around outer → ReadsAround Read i.table.config i.site
        on (of_one few e) = by_root (subst (λ (k : ℕ). k ≤ 1) deep few) (λ m h. read_in (map Item.Store around) e (Item.Store m) (read_store around m (there m h)))
        on (items.by_ends ends k e) =
            let w : (inner : List Var) × EndsAt i.table.config i.site inner ends = ends_at v i ends k in
            boxes_by.by_ends (record {
              within = within;
              around = λ m h. read_in (map Item.Store around ++ map Item.Binding ends) e (Item.Store m) (read_left (map Item.Store around) (map Item.Binding ends) (Item.Store m) (read_store around m (there m h)));
              inner = w.0;
              enough = w.1.enough;
              ends = ends;
              ended = w.1.ended;
              oldest = w.1.oldest;
              old = w.1.old;
              bindings = λ z h. read_in (map Item.Store around ++ map Item.Binding ends) e (Item.Binding z) (read_right (map Item.Store around) (map Item.Binding ends) (Item.Binding z) (read_binding ends z h));
            })
        on (of_more many e) = by_sets (λ m h. read_in (map Item.Goals around) e (Item.Goals m) (read_set around m (there m h)))

    pub all_read : ReadsStable (IsRead (outer ++ items_in boxes)) i.table.config i.site
    all_read = record { within = within; around = around_read }

    named_there : (m : Name) → IsIn m around → IsSome (stamp_in (table_of v.table) (Item.Store m))
    named_there m h = store_there (table_of v.table) i.table.config (stand v i) i.table.unfolds i.site (found v i) m (IsIn-left m (names_around i.site) (i.site.content.name ∷ []) (subst (IsIn m) is_around h))

    around_there : (j : Item) → IsRead outer j → IsSome (stamp_in (table_of v.table) j)
    around_there j r = on are_outer
      where
        was : (items : List Item) → outer ≡ items → IsRead items j
        was items e = subst (λ (js : List Item). IsRead js j) e r

        of_store : IsRead (map Item.Store around) j → IsSome (stamp_in (table_of v.table) j)
        of_store y = let w : (m : Name) × IsIn m around × (j ≡ Item.Store m) = stores_read around j y in subst (λ (q : Item). IsSome (stamp_in (table_of v.table) q)) (sym w.2) (named_there w.0 w.1)

        on : AreItemsAround v around outer → IsSome (stamp_in (table_of v.table) j)
        on (of_one few e) = of_store (was (map Item.Store around) e)
        on (items.by_ends ends k e) = elim (read_either (map Item.Store around) (map Item.Binding ends) j (was (map Item.Store around ++ map Item.Binding ends) e)) [
          | inl y ↦ of_store y
          | inr y ↦ let w : (x : Var) × IsAmong x ends × (j ≡ Item.Binding x) = bindings_read ends j y in subst (λ (q : Item). IsSome (stamp_in (table_of v.table) q)) (sym w.2) refl
        ]
        on (of_more many e) =
            let w : (m : Name) × IsIn m around × (j ≡ Item.Goals m) = sets_read around j (was (map Item.Goals around) e) in
            subst (λ (q : Item). IsSome (stamp_in (table_of v.table) q)) (sym w.2) (set_there (table_of v.table) w.0 (named_there w.0 w.1))

    pub reads_there : (j : Item) → IsRead (outer ++ items_in boxes) j → IsSome (stamp_in (table_of v.table) j)
    reads_there j h = elim (read_either outer (items_in boxes) j h) [
      | inl y ↦ around_there j y
      | inr y ↦ boxes_there v.table boxes x.boxes j y
    ]
