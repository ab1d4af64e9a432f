-- A place that isn't ready is idle by what was read and listed.
use Rattle.std.proofs.Common.{◌≡◌, true, ℕ, ◌+◌, ◌-◌, ◌≤◌, List, [], ◌∷◌, ◌++◌, length, map, Some, refl, sym, ◌∙◌, ap, subst, inl, inr, arith, length-append}
use Rattle.std.proofs.lemmas.List.{length-map}
use Rattle.akl_terms.specs.declared.name.Name.{Name}
use Rattle.akl_terms.specs.declared.name.Var.{Var}
use Rattle.akl_terms.specs.declared.name.Place.{Place}
use Rattle.akl_terms.specs.declared.program.Program.{Program}
use Rattle.akl_model.specs.declared.item.Item.{Item}
use Rattle.akl_model.specs.Config.{Content, Held, an_atom, a_choice, held_in}
use Rattle.akl_model.specs.Wakes.{names_around}
use Rattle.box_tree.specs.declared.inside.Inside.{Inside}
use Rattle.box_tree.specs.declared.entries.HeldOp.{HeldOp}
use Rattle.box_tree.specs.declared.view.Sight.{Sight}
use Rattle.std.specs.Prelude.{IsSome}
use Rattle.table_laws.specs.Stamped.{stamp_in}
use Rattle.box_tree.specs.Plans.{IsRead}
use Rattle.box_tree.specs.Tables.{op_held, goal_atom, table_of}
use Rattle.box_tree.specs.Views.{ViewValue, IsViewOf}
use Rattle.box_tree.specs.Insides.{IsInsideOf}
use Rattle.guard_plan.proofs.Sites.{shows_at}
use Rattle.idle_places.specs.Idling.{HasWatched, IsIdle}
use Rattle.idle_plan.specs.Idling.{IsUnready}
use Rattle.idle_plan.specs.Read.{AreGoalItems, sets_in}
use Rattle.idle_plan.specs.Waits.{AreToldAround, AreOwnWaits, AreReachedInside}
use Rattle.idle_plan.proofs.Awaiting.{awaited_suffices}
use Rattle.idle_plan.proofs.BoxesAround.{around_suffices}
use Rattle.idle_plan.proofs.ChoiceWaits.{choice_suffices, undecided_suffices, unsolved_suffices}
use Rattle.idle_plan.proofs.InsideWaits.{inside_suffices}
use Rattle.idle_plan.proofs.Needed.{NeedsAround, NeedsOwn, Suffices, both_concern, both_enough, both_oldest}
use Rattle.idle_plan.proofs.Paths.{count_around, stores_long}
use Rattle.idle_plan.proofs.MayRead.{goal_may_read, box_may_read}
use Rattle.idle_plan.proofs.ReadItems.{goal_watches, goal_reads_there, goal_bindings, goal_bindings_there, box_watches, box_reads_there}

module _ (v : ViewValue) (i : IsViewOf v) where
  abbrev p : Program
  p = v.table.program

  pub path_long : length v.path ≡ length i.site.around + 1
  path_long = ap (λ (ns : List Name). length ns) i.path ∙ length-append (names_around i.site) (i.site.content.name ∷ []) ∙ ap (λ (k : ℕ). k + 1) (length-map i.site.around (λ (b : Content). b.name))

  pub path_short : length v.path - 1 ≡ length i.site.around
  path_short = let e : length v.path ≡ length i.site.around + 1 = path_long in omega (arith, e)

  -- there are as many stores as boxes
  pub stores_enough : length v.path ≤ length v.stores
  stores_enough = let a : length v.path ≡ length i.site.around + 1 = path_long in let b : length v.stores ≡ length i.site.around + 1 = stores_long v i in omega (arith, a, b)

  pub as_many : length v.stores ≡ length v.path
  as_many = let a : length v.path ≡ length i.site.around + 1 = path_long in let b : length v.stores ≡ length i.site.around + 1 = stores_long v i in omega (arith, a, b)

  pub depth_enough : length v.path - 1 ≤ length v.stores
  depth_enough = let a : length v.path ≤ length v.stores = stores_enough in omega (arith, a)

  module _ (g : Name) (at : v.place ≡ Place.Goal g) where
    -- a goal is an atom or a choice
    held_by : (s : Sight) → v.sight ≡ s → (h : Held) × (held_in g i.site.goals ≡ Some h)
    held_by (Sight.Atom a) e = (an_atom (goal_atom v.table.program.templates.nodes a), shows_at v i (Place.Goal g) (Sight.Atom a) at e)
    held_by (Sight.Choice o) e = let w : _ = shows_at v i (Place.Goal g) (Sight.Choice o) at e in (a_choice (op_held v.table.program.templates.nodes o) w.0, w.1)
    held_by (Sight.Box failing) e = absurd (shows_at v i (Place.Goal g) (Sight.Box failing) at e)

    own_suffices : (s : Sight) → v.sight ≡ s → (own : List Var) → AreOwnWaits v.table.program v s own → Suffices v.table.program i.table.config v.place (NeedsOwn v.table.program i.table.config v.place) own
    own_suffices (Sight.Atom a) e own o = awaited_suffices v i g a at e own o
    own_suffices (Sight.Choice HeldOp.Choice) e own o = subst (Suffices v.table.program i.table.config v.place (NeedsOwn v.table.program i.table.config v.place)) (sym o) (undecided_suffices v i g HeldOp.Choice at e refl)
    own_suffices (Sight.Choice HeldOp.Condition) e own o = choice_suffices v i g HeldOp.Condition at e own o
    own_suffices (Sight.Choice HeldOp.Commit) e own o = choice_suffices v i g HeldOp.Commit at e own o
    own_suffices (Sight.Choice (HeldOp.Collect result)) e own (inl o) = choice_suffices v i g (HeldOp.Collect result) at e own o.1
    own_suffices (Sight.Choice (HeldOp.Collect result)) e own (inr o) =
        subst (Suffices v.table.program i.table.config v.place (NeedsOwn v.table.program i.table.config v.place)) (sym o.1) (unsolved_suffices v i g (HeldOp.Collect result) at e result refl o.0)
    own_suffices (Sight.Box failing) e own o = absurd (shows_at v i (Place.Goal g) (Sight.Box failing) at e)

    pub goal_idle : IsUnready v → (around own : List Var) → AreToldAround v.table.program.templates.nodes v.stores (length v.path) around → AreOwnWaits v.table.program v v.sight own
        → (reads : List Item) → AreGoalItems v g (around ++ own) reads → IsIdle (record { table = v.table; journal = v.journal; place = v.place; reads = reads; on = around ++ own; inside = true })
    goal_idle unready around own a o reads items = record {
      table = i.table;
      site = i.site;
      is_site = i.is_site;
      unready = unready i;
      enough = both_enough v.table.program i.table.config v.place around own outer inner;
      concern = both_concern v.table.program i.table.config v.place around own outer inner;
      oldest = both_oldest v.table.program i.table.config v.place around own outer inner;
      watches = watches items;
      there = there items;
      only = goal_may_read v i g at (around ++ own) reads items;
    }
      where
        watches : AreGoalItems v g (around ++ own) reads → HasWatched true (IsRead reads) (around ++ own) v.place i.site
        watches (inl e) = subst (λ (rs : List Item). HasWatched true (IsRead rs) (around ++ own) v.place i.site) (sym e) (inl (goal_watches v i g at))
        watches (inr e) = subst (λ (rs : List Item). HasWatched true (IsRead rs) (around ++ own) v.place i.site) (sym e)
            (inr (record { goal = g; is_goal = at; reads = goal_bindings v i g at (around ++ own) }))

        there : AreGoalItems v g (around ++ own) reads → (j : Item) → IsRead reads j → IsSome (stamp_in (table_of v.table) j)
        there (inl e) j r = goal_reads_there v i g at (held_by v.sight refl).0 (held_by v.sight refl).1 j (subst (λ (rs : List Item). IsRead rs j) e r)
        there (inr e) j r = goal_bindings_there v i g at (around ++ own) (held_by v.sight refl).0 (held_by v.sight refl).1 j (subst (λ (rs : List Item). IsRead rs j) e r)

        outer : Suffices v.table.program i.table.config v.place (NeedsAround i.table.config v.place) around
        outer = around_suffices v i around (subst (λ (k : ℕ). AreToldAround v.table.program.templates.nodes v.stores k around) (path_long ∙ sym (ap (λ (q : Place). count_around q i.site) at)) a)

        inner : Suffices v.table.program i.table.config v.place (NeedsOwn v.table.program i.table.config v.place) own
        inner = own_suffices v.sight refl own o

  module _ (n : Name) (at : v.place ≡ Place.Box n) (inside : Inside) (x : IsInsideOf v.table v.journal n v.worker inside) where
    pub box_idle : IsUnready v → (depth : ℕ) → depth ≡ length v.path - 1 → (names : List Name) → names ≡ names_around i.site → (around own : List Var) → AreToldAround v.table.program.templates.nodes v.stores depth around
        → AreReachedInside v.table.program i.site depth v.stores own
        → IsIdle (record { table = v.table; journal = v.journal; place = v.place; reads = map Item.Goals names ++ sets_in inside.boxes.items; on = around ++ own; inside = true })
    box_idle unready depth d names is_around around own a o = record {
      table = i.table;
      site = i.site;
      is_site = i.is_site;
      unready = unready i;
      enough = both_enough v.table.program i.table.config v.place around own outer inner;
      concern = both_concern v.table.program i.table.config v.place around own outer inner;
      oldest = both_oldest v.table.program i.table.config v.place around own outer inner;
      watches = inl (box_watches v i n at inside x names is_around);
      there = box_reads_there v i n at inside x names is_around;
      only = box_may_read v i n at (around ++ own) inside x names is_around;
    }
      where
        outer : Suffices v.table.program i.table.config v.place (NeedsAround i.table.config v.place) around
        outer = around_suffices v i around (subst (λ (k : ℕ). AreToldAround v.table.program.templates.nodes v.stores k around) (d ∙ path_short ∙ sym (ap (λ (q : Place). count_around q i.site) at)) a)

        inner : Suffices v.table.program i.table.config v.place (NeedsOwn v.table.program i.table.config v.place) own
        inner = inside_suffices v i n at own (subst (λ (k : ℕ). AreReachedInside v.table.program i.site k v.stores own) (d ∙ path_short) o)
