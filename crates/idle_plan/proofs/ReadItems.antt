-- What an idle place reads is what such a place watches, by sets of goals or by bindings, and all of it is there.
use Rattle.std.proofs.Common.{◌≡◌, List, [], ◌∷◌, ◌++◌, map, drop, Option, Some, None, refl, sym, ◌∙◌, ap, subst, inl, inr}
use Rattle.std.specs.Prelude.{IsSome}
use Rattle.akl_terms.specs.declared.name.Name.{Name}
use Rattle.akl_terms.specs.declared.name.Var.{Var}
use Rattle.constraint_laws.specs.Touched.{IsAmong}
use Rattle.akl_terms.specs.declared.name.Place.{Place}
use Rattle.akl_model.specs.declared.item.Item.{Item}
use Rattle.akl_model.specs.Config.{IsIn, Content, Boxes, no_boxes, box, Held, an_atom, a_choice, held_in, box_at}
use Rattle.akl_model.specs.Stable.{only}
use Rattle.akl_model.specs.Wakes.{names_around}
use Rattle.akl_model.proofs.Scoped.{IsIn-left}
use Rattle.step_laws.proofs.Inside.{each_map}
use Rattle.plan_laws.specs.Idle.{EachGoals, OfAlternatives, Watches}
use Rattle.plan_laws.specs.ByGoals.{by_goals}
use Rattle.table_laws.specs.Stamped.{stamp_in}
use Rattle.box_tree.specs.declared.inside.InnerGoal.{InnerGoal}
use Rattle.box_tree.specs.declared.inside.InnerBox.{InnerBox}
use Rattle.box_tree.specs.declared.inside.Inside.{Inside}
use Rattle.box_tree.specs.declared.view.Alternative.{Alternative}
use Rattle.box_tree.specs.Tables.{table_of}
use Rattle.box_tree.specs.Views.{ViewValue, IsViewOf, AreSeen, alternatives_held, alternatives_at}
use Rattle.box_tree.specs.Insides.{IsInsideOf}
use Rattle.box_tree.specs.Plans.{IsRead}
use Rattle.guard_plan.proofs.Placed.{ArePlaced, all_placed}
use Rattle.guard_plan.proofs.ReadItems.{read_left, read_right, read_either, read_set, sets_read, read_binding, bindings_read, set_there}
use Rattle.guard_plan.proofs.Sites.{goal_there, store_there, box_there, stand, found}
use Rattle.split_plan.specs.Read.{goal_items, items_in}
use Rattle.split_plan.proofs.CandidateRows.{itself}
use Rattle.split_plan.proofs.ReadInside.{boxes_there, inside_read}
use Rattle.reading_laws.specs.SeenIdle.{inner_names, ReadsIdle}
use Rattle.reading_laws.specs.Unchanged.{without_first}
use Rattle.idle_plan.specs.Read.{goal_items_of, goal_items_on, sets_in}

-- the boxes but for the root box
pub dropped_read : (ns : List Name) (j : Item) → IsRead (map Item.Goals (drop 1 ns)) j → IsRead (map Item.Goals ns) j
dropped_read [] j r = absurd r
dropped_read (n ∷ ns) j r = inr r

names_join : (bs : List Content) (b : Content) → map (λ (k : Content). k.name) (bs ++ b ∷ []) ≡ map (λ (k : Content). k.name) bs ++ b.name ∷ []
names_join [] b = refl
names_join (k ∷ bs) b = ap (λ (ns : List Name). k.name ∷ ns) (names_join bs b)

without_first_names : (bs : List Content) (b : Content) → map (λ (k : Content). k.name) (without_first (bs ++ b ∷ [])) ≡ drop 1 (map (λ (k : Content). k.name) bs ++ b.name ∷ [])
without_first_names [] b = refl
without_first_names (k ∷ bs) b = names_join bs b

-- a goal
module _ (v : ViewValue) (i : IsViewOf v) (g : Name) (at : v.place ≡ Place.Goal g) where
  abbrev R : List Item
  R = Item.Goal g ∷ (map Item.Goals v.path ++ map (λ (a : Alternative). Item.Goals a.name) v.alternatives)

  module _ (U : Item → Type 0) where
    of_seen : (cs : Boxes) (seen : List Alternative) → AreSeen (table_of v.table) v.stores cs seen → ((n : Name) → IsRead (map (λ (a : Alternative). Item.Goals a.name) seen) (Item.Goals n) → U (Item.Goals n)) → EachGoals U cs
    of_seen no_boxes seen s f = tt
    of_seen (box b gs cs) [] s f = absurd s
    of_seen (box b gs cs) (a ∷ rest) s f = (f b.name (inl (ap Item.Goals (sym s.0.name))), of_seen cs rest s.1 (λ n r. f n (inr r)))

    alternatives_read : ((n : Name) → IsRead (map (λ (a : Alternative). Item.Goals a.name) v.alternatives) (Item.Goals n) → U (Item.Goals n)) → (o : Option Held) → AreSeen (table_of v.table) v.stores (alternatives_held o) v.alternatives → OfAlternatives U o
    alternatives_read f None s = tt
    alternatives_read f (Some (an_atom a)) s = tt
    alternatives_read f (Some (a_choice o bs)) s = of_seen bs v.alternatives s f

  pub goal_seen : AreSeen (table_of v.table) v.stores (alternatives_held (held_in g i.site.goals)) v.alternatives
  goal_seen = subst (λ (q : Place). AreSeen (table_of v.table) v.stores (alternatives_at q i.site) v.alternatives) at i.alternatives

  pub goal_watches : Watches (λ (j : Item). IsRead (goal_items_of g v.path v.alternatives) (by_goals j)) v.place i.site
  goal_watches = subst (λ (q : Place). Watches (λ (j : Item). IsRead R (by_goals j)) q i.site) (sym at) (
    inl refl,
    λ m h. inr (read_left (map Item.Goals v.path) (map (λ (a : Alternative). Item.Goals a.name) v.alternatives) (Item.Goals m) (read_set v.path m (subst (IsIn m) (sym i.path) h))),
    alternatives_read (λ (j : Item). IsRead R (by_goals j)) (λ n r. inr (read_right (map Item.Goals v.path) (map (λ (a : Alternative). Item.Goals a.name) v.alternatives) (Item.Goals n) r)) (held_in g i.site.goals) goal_seen,
  )

  -- all of them are there
  placed_there : (cs : Boxes) (rest : List Alternative) → ArePlaced v i cs rest → (j : Item) → IsRead (map (λ (a : Alternative). Item.Goals a.name) rest) j → IsSome (stamp_in (table_of v.table) j)
  placed_there no_boxes [] h j r = absurd r
  placed_there no_boxes (a ∷ rest) h j r = absurd h
  placed_there (box b gs cs) [] h j r = absurd r
  placed_there (box b gs cs) (a ∷ rest) h j (inl e) = subst (λ (k : Item). IsSome (stamp_in (table_of v.table) k)) (sym e)
      (set_there (table_of v.table) a.name (box_there (table_of v.table) i.table.config (stand v i) i.table.unfolds i.site (found v i) a.name _ (ap (λ (m : Name). box_at m i.table.config.roots) h.0.seen.name ∙ h.0.there)))
  placed_there (box b gs cs) (a ∷ rest) h j (inr r) = placed_there cs rest h.1 j r

  unseen_there : (rest : List Alternative) → AreSeen (table_of v.table) v.stores no_boxes rest → (j : Item) → IsRead (map (λ (a : Alternative). Item.Goals a.name) rest) j → IsSome (stamp_in (table_of v.table) j)
  unseen_there [] s j r = absurd r
  unseen_there (a ∷ rest) s j r = absurd s

  alternatives_there : (o : Option Held) → held_in g i.site.goals ≡ o → AreSeen (table_of v.table) v.stores (alternatives_held o) v.alternatives → (j : Item) → IsRead (map (λ (a : Alternative). Item.Goals a.name) v.alternatives) j
      → IsSome (stamp_in (table_of v.table) j)
  alternatives_there None e s j r = unseen_there v.alternatives s j r
  alternatives_there (Some (an_atom a)) e s j r = unseen_there v.alternatives s j r
  alternatives_there (Some (a_choice o bs)) e s j r = placed_there bs v.alternatives (all_placed v i g o bs e bs (λ b gs k. k) v.alternatives s) j r

  pub goal_reads_there : (h : Held) → held_in g i.site.goals ≡ Some h → (j : Item) → IsRead (goal_items_of g v.path v.alternatives) j → IsSome (stamp_in (table_of v.table) j)
  goal_reads_there h held j (inl e) = subst (λ (k : Item). IsSome (stamp_in (table_of v.table) k)) (sym e) (goal_there (table_of v.table) i.table.config (stand v i) i.table.unfolds i.site (found v i) g h held)
  goal_reads_there h held j (inr r) = elim (read_either (map Item.Goals v.path) (map (λ (a : Alternative). Item.Goals a.name) v.alternatives) j r) [
    | inl x ↦
        let w : (m : Name) × IsIn m v.path × (j ≡ Item.Goals m) = sets_read v.path j x in
        subst (λ (k : Item). IsSome (stamp_in (table_of v.table) k)) (sym w.2)
        (set_there (table_of v.table) w.0 (store_there (table_of v.table) i.table.config (stand v i) i.table.unfolds i.site (found v i) w.0 (subst (IsIn w.0) i.path w.1)))
    | inr x ↦ alternatives_there (held_in g i.site.goals) refl goal_seen j x
  ]

  -- by bindings
  module _ (on : List Var) where
    abbrev sets : List Item
    sets = map Item.Goals (drop 1 v.path) ++ map (λ (a : Alternative). Item.Goals a.name) v.alternatives

    inner_path : inner_names i.site ≡ drop 1 v.path
    inner_path = without_first_names i.site.around i.site.content ∙ ap (drop 1) (sym i.path)

    pub goal_bindings : ReadsIdle (IsRead (goal_items_on g on v.path v.alternatives)) on g i.site
    goal_bindings = record {
      goal = inl refl;
      bindings = λ x m. inr (read_left (map Item.Binding on) sets (Item.Binding x) (read_binding on x m));
      inner = λ m h. inr (read_right (map Item.Binding on) sets (Item.Goals m) (read_left (map Item.Goals (drop 1 v.path)) (map (λ (a : Alternative). Item.Goals a.name) v.alternatives) (Item.Goals m)
          (read_set (drop 1 v.path) m (subst (IsIn m) inner_path h))));
      alternatives = alternatives_read (IsRead (goal_items_on g on v.path v.alternatives)) (λ n r. inr (read_right (map Item.Binding on) sets (Item.Goals n)
          (read_right (map Item.Goals (drop 1 v.path)) (map (λ (a : Alternative). Item.Goals a.name) v.alternatives) (Item.Goals n) r))) (held_in g i.site.goals) goal_seen;
    }

    pub goal_bindings_there : (h : Held) → held_in g i.site.goals ≡ Some h → (j : Item) → IsRead (goal_items_on g on v.path v.alternatives) j → IsSome (stamp_in (table_of v.table) j)
    goal_bindings_there h held j (inl e) = goal_reads_there h held j (inl e)
    goal_bindings_there h held j (inr r) = elim (read_either (map Item.Binding on) sets j r) [
      | inl b ↦ let w : (x : Var) × IsAmong x on × (j ≡ Item.Binding x) = bindings_read on j b in subst (λ (k : Item). IsSome (stamp_in (table_of v.table) k)) (sym w.2) refl
      | inr b ↦ elim (read_either (map Item.Goals (drop 1 v.path)) (map (λ (a : Alternative). Item.Goals a.name) v.alternatives) j b) [
        | inl x ↦ goal_reads_there h held j (inr (read_left (map Item.Goals v.path) (map (λ (a : Alternative). Item.Goals a.name) v.alternatives) j (dropped_read v.path j x)))
        | inr x ↦ goal_reads_there h held j (inr (read_right (map Item.Goals v.path) (map (λ (a : Alternative). Item.Goals a.name) v.alternatives) j x))
      ]
    ]

-- a box, by what a split reads inside it

goals_by_goals : (gs : List InnerGoal) (i : Item) → IsRead (goal_items gs) i → IsRead (goal_items gs) (by_goals i)
goals_by_goals [] i r = absurd r
goals_by_goals (g ∷ gs) i (inl e) = inl (ap by_goals e)
goals_by_goals (g ∷ gs) i (inr r) = inr (goals_by_goals gs i r)

boxes_by_goals : (bs : List InnerBox) (i : Item) → IsRead (items_in bs) i → IsRead (sets_in bs) (by_goals i)
boxes_by_goals [] i r = absurd r
boxes_by_goals (b ∷ bs) i (inl e) = inl (ap by_goals e)
boxes_by_goals (b ∷ bs) i (inr (inl e)) = inl (ap by_goals e)
boxes_by_goals (b ∷ bs) i (inr (inr r)) = elim (read_either (goal_items b.goals.items) (items_in bs) i r) [
  | inl x ↦ inr (read_left (goal_items b.goals.items) (sets_in bs) (by_goals i) (goals_by_goals b.goals.items i x))
  | inr x ↦ inr (read_right (goal_items b.goals.items) (sets_in bs) (by_goals i) (boxes_by_goals bs i x))
]

pub sets_in_items : (bs : List InnerBox) (i : Item) → IsRead (sets_in bs) i → IsRead (items_in bs) i
sets_in_items [] i r = absurd r
sets_in_items (b ∷ bs) i (inl e) = inr (inl e)
sets_in_items (b ∷ bs) i (inr r) = elim (read_either (goal_items b.goals.items) (sets_in bs) i r) [
  | inl x ↦ inr (inr (read_left (goal_items b.goals.items) (items_in bs) i x))
  | inr x ↦ inr (inr (read_right (goal_items b.goals.items) (items_in bs) i (sets_in_items bs i x)))
]

module _ (v : ViewValue) (i : IsViewOf v) (n : Name) (at : v.place ≡ Place.Box n) (inside : Inside) (x : IsInsideOf v.table v.journal n v.worker inside) (around : List Name) (is_around : around ≡ names_around i.site) where
  same_name : n ≡ i.site.content.name
  same_name = itself v i n at

  pub box_watches : Watches (λ (j : Item). IsRead (map Item.Goals around ++ sets_in inside.boxes.items) (by_goals j)) v.place i.site
  box_watches = subst (λ (q : Place). Watches (λ (j : Item). IsRead (map Item.Goals around ++ sets_in inside.boxes.items) (by_goals j)) q i.site) (sym at) (
    each_map (IsRead (items_in inside.boxes.items)) (λ (j : Item). IsRead (map Item.Goals around ++ sets_in inside.boxes.items) (by_goals j))
        (λ j r. read_right (map Item.Goals around) (sets_in inside.boxes.items) (by_goals j) (boxes_by_goals inside.boxes.items j r)) (only i.site) (inside_read v i n same_name inside.boxes.items x.boxes),
    λ m h. read_left (map Item.Goals around) (sets_in inside.boxes.items) (Item.Goals m) (read_set around m (subst (IsIn m) (sym is_around) h)),
  )

  pub box_reads_there : (j : Item) → IsRead (map Item.Goals around ++ sets_in inside.boxes.items) j → IsSome (stamp_in (table_of v.table) j)
  box_reads_there j r = elim (read_either (map Item.Goals around) (sets_in inside.boxes.items) j r) [
    | inl y ↦
        let w : (m : Name) × IsIn m around × (j ≡ Item.Goals m) = sets_read around j y in
        subst (λ (k : Item). IsSome (stamp_in (table_of v.table) k)) (sym w.2)
        (set_there (table_of v.table) w.0 (store_there (table_of v.table) i.table.config (stand v i) i.table.unfolds i.site (found v i) w.0
        (IsIn-left w.0 (names_around i.site) (i.site.content.name ∷ []) (subst (IsIn w.0) is_around w.1))))
    | inr y ↦ boxes_there v.table inside.boxes.items x.boxes.boxes j (sets_in_items inside.boxes.items j y)
  ]
