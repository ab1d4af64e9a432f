-- A box becomes two.
use Rattle.std.proofs.Common.{◌≡◌, ℕ, ◌+◌, ◌≤◌, Bool, true, false, List, [], ◌∷◌, map, slice_index, Option, Some, None, refl, sym, ap, subst, ◌∙◌, inl, inr}
use Rattle.std.specs.Prelude.{if◌then◌else◌, option_map}
use Rattle.std.specs.Map.{lookup}
use Rattle.akl_terms.specs.declared.name.Name.{Name}
use Rattle.akl_terms.specs.declared.name.Place.{Place}
use Rattle.akl_model.specs.Config.{Operator}
use Rattle.box_tree.specs.declared.entries.HeldOp.{HeldOp}
use Rattle.akl_terms.specs.declared.program.Program.{Program}
use Rattle.akl_terms.specs.Names.{same_name}
use Rattle.akl_terms.proofs.SameNames.{same_name-equal}
use Rattle.akl_model.specs.Config.{IsIn, Boxes, Config, Held as Held_in, a_choice, held_in, Found, or_else, home_of}
use Rattle.akl_model.specs.Changes.{Shape, of_atom, of_choice, shape_of, box_names}
use Rattle.akl_model.specs.Derivations.{raised}
use Rattle.akl_model.proofs.Finds.{times}
use Rattle.akl_model.proofs.NamesKept.{replay-stands}
use Rattle.akl_model.proofs.Options.{some_value}
use Rattle.akl_model.proofs.Scoped.{IsIn-left, IsIn-right}
use Rattle.step_laws.specs.Holders.{IsAlternativeAt}
use Rattle.step_laws.proofs.Holders.{alternative_at}
use Rattle.table_laws.specs.Rows.{BoxRow, GoalRow, Table}
use Rattle.table_laws.specs.Unfolds.{IsBoxRow, spot_in, spot_of}
use Rattle.table_laws.specs.Inside.{IsDirectlyIn, IsAlternativeOf, IsInside, itself, further}
use Rattle.table_laws.specs.Walks.{alternatives_in, alternatives_of, ListsEach}
use Rattle.table_laws.specs.Steps as laws
use Rattle.table_laws.specs.Writes.{set, less_name, name_alone, name_after, names_copied, copied_row, copied_goal_of, shape_among, alone_shape, alone_row, beside_shape, beside_row, others_in, others_from, others_beside, changed_goal, goal_at, holder_in_row, if_root, IsFresh, Splits}
use Rattle.table_laws.proofs.Frame.{row_of}
use Rattle.table_laws.proofs.Insides.{choice_of}
use Rattle.table_laws.proofs.RestBoxes.{less_among}
use Rattle.table_laws.proofs.Sets.{set_other}
use Rattle.box_tree.specs.declared.entries.Held.{Held}
use Rattle.box_tree.specs.declared.entries.GoalEntry.{GoalEntry}
use Rattle.box_tree.specs.declared.splitting.Holder.{Holder}
use Rattle.box_tree.specs.declared.view.Sight.{Sight}
use Rattle.box_tree.specs.Tables.{op_held, all_rules, TableValue, table_of, goal_row, shape_held}
use Rattle.box_tree.specs.Edits.{SetsGoals, SetsRows, choice_row}
use Rattle.box_tree.specs.Drops.{IsOfRun, DropsBoxes}
use Rattle.box_tree.specs.Paths.{sight_held, sight_in}
use Rattle.box_tree.specs.Splits.{copies_with, copied_goals_with, IsHolderOf, Holds, is_choice}
use Rattle.box_tree.proofs.Forked.{set_beneath}
use Rattle.box_tree.proofs.Viewed.{spot_found}

-- an alternative of a choice has its row, and so has each box inside it
module _ (t : TableValue) (run : IsOfRun t) where
  alternative_there : (g m : Name) → IsAlternativeOf (table_of t) g m → (r : BoxRow) × ((table_of t).box_of m ≡ Some r)
  alternative_there g m x =
      let c : Config = run.1.config in
      let once : (k : Name) → times k c.roots ≤ 1 = (replay-stands all_rules run.0.program run.0.query run.0.journal c run.1.replays).once in
      let s : spot_in g c.roots ≡ Some (spot_of x.row) = sym (run.1.unfolds.goals g) ∙ ap (option_map spot_of) x.there in
      let w : (f : Found) × (h : Held_in) × (home_of g c.roots ≡ Some f) × (held_in g f.goals ≡ Some h) × (f.content.name ≡ x.row.home) × (shape_of h ≡ x.row.shape) = spot_found g c.roots (spot_of x.row) s in
      let b : (bs : Boxes) × (w.1 ≡ a_choice x.op bs) × (box_names bs ≡ x.alternatives) = choice_of w.1 x.op x.alternatives (w.5 ∙ x.choice) in
      let held : held_in g w.0.goals ≡ Some (a_choice x.op b.0) = w.3 ∙ ap (λ (h : Held_in). Some h) b.1 in
      let a : IsAlternativeAt m g w.0 c.roots = alternative_at c.roots once m g w.0 x.op b.0 w.2 held (subst (IsIn m) (sym b.2) x.named) in
      let r : (r : BoxRow) × ((table_of t).box_of m ≡ Some r) × IsBoxRow (table_of t) c.roots a.found r = row_of (table_of t) c run.1.unfolds m a.found a.is_found in
      (r.0, r.1)

  there_inside : (g a : Name) → IsAlternativeOf (table_of t) g a → (m : Name) → IsInside (table_of t) a m → (r : BoxRow) × ((table_of t).box_of m ≡ Some r)
  there_inside g a x m itself = alternative_there g a x
  there_inside g a x m (further {m = k} {g = h} y d z) = alternative_there h m z

-- copies are under their own names

shape_named : (home : Name) (number : ℕ) (xs : List (Name × Shape)) (m : Name) (r : GoalRow) → shape_among home number xs m ≡ Some r → IsIn m (map (λ (x : Name × Shape). x.0) xs)
shape_named home number [] m r e = cc
shape_named home number (x ∷ xs) m r e = on (same_name m x.0) refl e (λ k. shape_named home number xs m r k)
  where
    on : (b : Bool) → same_name m x.0 ≡ b → (if b then Some (record { home = home; shape = x.1; changed = number }) else shape_among home number xs m) ≡ Some r → (shape_among home number xs m ≡ Some r → IsIn m (map (λ (y : Name × Shape). y.0) xs)) → IsIn m (x.0 ∷ map (λ (y : Name × Shape). y.0) xs)
    on true q e k = inl (same_name-equal m x.0 q)
    on false q e k = inr (k e)

copied_goal : (number : ℕ) (ks : List laws.BoxCopy) (m : Name) (r : GoalRow) → copied_goal_of number ks m ≡ Some r → IsIn m (names_copied ks)
copied_goal number [] m r e = cc
copied_goal number (k ∷ ks) m r e = on (shape_among k.name number k.goals m) refl e (λ i. copied_goal number ks m r i)
  where
    on : (o : Option GoalRow) → shape_among k.name number k.goals m ≡ o → or_else o (copied_goal_of number ks m) ≡ Some r → (copied_goal_of number ks m ≡ Some r → IsIn m (names_copied ks)) → IsIn m (names_copied (k ∷ ks))
    on None q e f = inr (IsIn-right m (map (λ (x : Name × Shape). x.0) k.goals) (names_copied ks) (f e))
    on (Some s) q e f = inr (IsIn-left m (map (λ (x : Name × Shape). x.0) k.goals) (names_copied ks) (shape_named k.name number k.goals m s q))

copied_box : (ks : List laws.BoxCopy) (m : Name) (k : laws.BoxCopy) → laws.copy_among ks m ≡ Some k → IsIn m (names_copied ks)
copied_box [] m k e = cc
copied_box (c ∷ ks) m k e = on (same_name m c.name) refl e (λ i. copied_box ks m k i)
  where
    on : (b : Bool) → same_name m c.name ≡ b → (if b then Some c else laws.copy_among ks m) ≡ Some k → (laws.copy_among ks m ≡ Some k → IsIn m (names_copied ks)) → IsIn m (names_copied (c ∷ ks))
    on true q e f = inl (same_name-equal m c.name q)
    on false q e f = inr (IsIn-right m (map (λ (x : Name × Shape). x.0) c.goals) (names_copied ks) (f e))

module _ (T : Table) (ks : List laws.BoxCopy) (fresh : IsFresh T (names_copied ks)) where
  not_copied : (number : ℕ) (g : Name) (r : GoalRow) → T.goal_of g ≡ Some r → copied_goal_of number ks g ≡ None
  not_copied number g r h = on (copied_goal_of number ks g) refl
    where
      on : (o : Option GoalRow) → copied_goal_of number ks g ≡ o → o ≡ None
      on None e = refl
      on (Some s) e = let z : T.goal_of g ≡ None = fresh.no_goal g (copied_goal number ks g s e) in cc

  no_copy : (m : Name) (r : BoxRow) → T.box_of m ≡ Some r → laws.copy_among ks m ≡ None
  no_copy m r h = on (laws.copy_among ks m) refl
    where
      on : (o : Option laws.BoxCopy) → laws.copy_among ks m ≡ o → o ≡ None
      on None e = refl
      on (Some k) e = let z : T.box_of m ≡ None = fresh.no_box m (copied_box ks m k e) in cc

-- the row of a choice that is seen, and what becomes of it

choice_there : (t : TableValue) (g home : Name) (op : HeldOp) → sight_in t (Place.Goal g) ≡ Some (home, Sight.Choice op) → (r : GoalRow) × ((table_of t).goal_of g ≡ Some r) × (r.shape ≡ of_choice (op_held t.program.templates.nodes op) (alternatives_in r.shape))
choice_there t g home op e = on (lookup (same_name g) t.goals) e
  where
    of_held : (h : Held) → sight_held h ≡ Sight.Choice op → shape_held t.program.templates.nodes h ≡ of_choice (op_held t.program.templates.nodes op) (alternatives_in (shape_held t.program.templates.nodes h))
    of_held (Held.Atom a) q = cc
    of_held (Held.Choice o names since) q = let same : o ≡ op = cc in ap (λ (x : HeldOp). of_choice (op_held t.program.templates.nodes x) names.items) same

    on : (o : Option GoalEntry) → option_map {U = Name × Sight} (λ (x : GoalEntry). (x.home, sight_held x.held)) o ≡ Some (home, Sight.Choice op)
        → (r : GoalRow) × (option_map (goal_row t.program.templates.nodes) o ≡ Some r) × (r.shape ≡ of_choice (op_held t.program.templates.nodes op) (alternatives_in r.shape))
    on None q = cc
    on (Some x) q = (goal_row t.program.templates.nodes x, refl, of_held x.held (ap (λ (p : Name × Sight). p.1) (some_value q)))

alone_is : (r : GoalRow) (op : Operator) (a : Name) (number : ℕ) (alone : List Name) → r.shape ≡ of_choice op (alternatives_in r.shape) → alone ≡ name_alone a (alternatives_in r.shape) → choice_row op alone number r ≡ alone_row a number r
alone_is r op a number alone e k = ap (λ (s : Shape). record r { shape = s; changed = number }) (ap (of_choice op) k ∙ sym (ap (alone_shape a) e))

beside_is : (r : GoalRow) (op : Operator) (n copy : Name) (number : ℕ) (names : List Name) → r.shape ≡ of_choice op (alternatives_in r.shape) → names ≡ name_after n copy (alternatives_in r.shape) → choice_row op names number r ≡ beside_row n copy number r
beside_is r op n copy number names e k = ap (λ (s : Shape). record r { shape = s; changed = number }) (ap (of_choice op) k ∙ sym (ap (beside_shape n copy) e))

others_are : (a : Name) (o : Option GoalRow) → others_from a o ≡ less_name a (alternatives_of o)
others_are a None = refl
others_are a (Some r) = on r.shape
  where
    on : (s : Shape) → others_in a s ≡ less_name a (alternatives_in s)
    on (of_atom b) = refl
    on (of_choice op ns) = refl

-- a part of what a table is stays where what holds a box gets its names
pub stays_held : {A : Type 0} (part : TableValue → A) → ((t : TableValue) (goals : List (Name × GoalEntry)) (roots : List Name) (number : ℕ) → part (record t { goals = goals; roots = roots; roots_changed = number }) ≡ part t)
    → (v w : TableValue) (number : ℕ) (held : Holder) → Holds v w number held → part w ≡ part v
stays_held part keeps v w number (Holder.Roots names) h = ap part h ∙ keeps v v.goals names.items number
stays_held part keeps v w number (Holder.Choice g op names) h = ap part h.rest ∙ keeps v w.goals v.roots v.roots_changed

-- once the copies have come, the choice has the alternative alone, and what holds the box has the copy after it
record IsHalved (t w : TableValue) (n a choice copy : Name) (copies : List laws.BoxCopy) (holder : Option Name) (later : Option ℕ) (number : ℕ) : Type 0 where
  program : w.program ≡ t.program
  boxes : (m : Name) → (table_of w).box_of m ≡ copies_with holder later number copies (table_of t) m
  goals : (m : Name) → (table_of w).goal_of m ≡ or_else (copied_goal_of number copies m)
      (changed_goal (holder_in_row ((table_of t).box_of n)) (beside_row n copy number) (set choice (option_map (alone_row a number) ((table_of t).goal_of choice)) (table_of t).goal_of) m)
  roots : w.roots ≡ if_root (holder_in_row ((table_of t).box_of n)) (name_after n copy t.roots) t.roots
  roots_changed : w.roots_changed ≡ if_root (holder_in_row ((table_of t).box_of n)) number t.roots_changed

module _ (t u v w : TableValue) (n a choice copy home : Name) (held_op : HeldOp) (copies : List laws.BoxCopy) (holder : Option Name) (later : Option ℕ) (number : ℕ) (alone : List Name) (fresh : IsFresh (table_of t) (names_copied copies))
    (seen : sight_in t (Place.Goal choice) ≡ Some (home, Sight.Choice held_op)) (kept : alone ≡ name_alone a (alternatives_of ((table_of t).goal_of choice)))
    (puts : SetsRows t u (copies_with holder later number copies (table_of t)) (copied_goals_with number copies (table_of t)))
    (makes : SetsGoals u v (set choice (option_map (choice_row (op_held u.program.templates.nodes held_op) alone number) ((table_of u).goal_of choice)) (table_of u).goal_of)) where
  abbrev op : Operator
  op = op_held t.program.templates.nodes held_op

  alike_u : u.program ≡ t.program
  alike_u = ap (λ (k : TableValue). k.program) puts.rest

  abbrev alone_goals : Name → Option GoalRow
  alone_goals = set choice (option_map (alone_row a number) ((table_of t).goal_of choice)) (table_of t).goal_of

  rest_v : v ≡ record t { boxes = u.boxes; goals = v.goals }
  rest_v = makes.rest ∙ ap (λ (k : TableValue). record k { goals = v.goals }) puts.rest

  boxes_v : (m : Name) → (table_of v).box_of m ≡ copies_with holder later number copies (table_of t) m
  boxes_v m = ap (λ (k : TableValue). (table_of k).box_of m) makes.rest ∙ puts.boxes m

  chosen : (r : GoalRow) × ((table_of t).goal_of choice ≡ Some r) × (r.shape ≡ of_choice op (alternatives_in r.shape))
  chosen = choice_there t choice home held_op seen

  row_alone : option_map (choice_row op alone number) ((table_of t).goal_of choice) ≡ option_map (alone_row a number) ((table_of t).goal_of choice)
  row_alone = ap (option_map (choice_row op alone number)) chosen.1 ∙ ap (λ (r : GoalRow). Some r) (alone_is chosen.0 op a number alone chosen.2 (kept ∙ ap (λ (o : Option GoalRow). name_alone a (alternatives_of o)) chosen.1))
      ∙ sym (ap (option_map (alone_row a number)) chosen.1)

  goals_v : (m : Name) → (table_of v).goal_of m ≡ or_else (copied_goal_of number copies m) (alone_goals m)
  goals_v m = makes.rows m
      ∙ ap (λ (k : Program). set choice (option_map (choice_row (op_held k.templates.nodes held_op) alone number) ((table_of u).goal_of choice)) (table_of u).goal_of m) alike_u
      ∙ set_beneath (copied_goal_of number copies) (table_of t).goal_of (table_of u).goal_of choice (choice_row op alone number) (not_copied (table_of t) copies fresh number choice chosen.0 chosen.1) puts.goals m
      ∙ ap (λ (o : Option GoalRow). or_else (copied_goal_of number copies m) (set choice o (table_of t).goal_of m)) row_alone

  halved : (held : Holder) → IsHolderOf t n copy held → is_choice held choice ≡ false → Holds v w number held → IsHalved t w n a choice copy copies holder later number
  halved (Holder.Roots names) i differs h = record {
    program = ap (λ (k : TableValue). k.program) h ∙ ap (λ (k : TableValue). k.program) rest_v;
    boxes = λ m. ap (λ (k : TableValue). (table_of k).box_of m) h ∙ boxes_v m;
    goals = λ m. ap (λ (k : TableValue). (table_of k).goal_of m) h ∙ goals_v m ∙ ap (λ (o : Option Name). or_else (copied_goal_of number copies m) (changed_goal o (beside_row n copy number) alone_goals m)) (sym i.0);
    roots = ap (λ (k : TableValue). k.roots) h ∙ i.1 ∙ ap (λ (o : Option Name). if_root o (name_after n copy t.roots) t.roots) (sym i.0);
    roots_changed = ap (λ (k : TableValue). k.roots_changed) h ∙ ap (λ (o : Option Name). if_root o number t.roots_changed) (sym i.0);
  }
  halved (Holder.Choice g kind names) i differs h =
      let r : (r : GoalRow) × ((table_of t).goal_of g ≡ Some r) × (r.shape ≡ of_choice (op_held t.program.templates.nodes kind) (alternatives_in r.shape)) = choice_there t g i.1.0 kind i.1.1 in
      let same : alone_goals g ≡ Some r.0 = set_other choice g (option_map (alone_row a number) ((table_of t).goal_of choice)) (table_of t).goal_of differs ∙ r.1 in
      let none : copied_goal_of number copies g ≡ None = not_copied (table_of t) copies fresh number g r.0 r.1 in
      let beside : option_map (choice_row (op_held t.program.templates.nodes kind) names.items number) (alone_goals g) ≡ option_map (beside_row n copy number) (alone_goals g) =
      ap (option_map (choice_row (op_held t.program.templates.nodes kind) names.items number)) same
      ∙ ap (λ (x : GoalRow). Some x) (beside_is r.0 (op_held t.program.templates.nodes kind) n copy number names.items r.2 (i.2 ∙ ap (λ (o : Option GoalRow). name_after n copy (alternatives_of o)) r.1)) ∙ sym (ap (option_map (beside_row n copy number)) same) in
      record {
        program = ap (λ (k : TableValue). k.program) h.rest ∙ ap (λ (k : TableValue). k.program) rest_v;
        boxes = λ m. ap (λ (k : TableValue). (table_of k).box_of m) h.rest ∙ boxes_v m;
        goals = λ m. h.rows m
            ∙ ap (λ (k : Program). set g (option_map (choice_row (op_held k.templates.nodes kind) names.items number) ((table_of v).goal_of g)) (table_of v).goal_of m) (ap (λ (k : TableValue). k.program) rest_v)
            ∙ set_beneath (copied_goal_of number copies) alone_goals (table_of v).goal_of g (choice_row (op_held t.program.templates.nodes kind) names.items number) none goals_v m
            ∙ ap (λ (o : Option GoalRow). or_else (copied_goal_of number copies m) (set g o alone_goals m)) beside
            ∙ ap (λ (o : Option Name). or_else (copied_goal_of number copies m) (changed_goal o (beside_row n copy number) alone_goals m)) (sym i.0);
        roots = ap (λ (k : TableValue). k.roots) h.rest ∙ ap (λ (k : TableValue). k.roots) rest_v ∙ ap (λ (o : Option Name). if_root o (name_after n copy t.roots) t.roots) (sym i.0);
        roots_changed = ap (λ (k : TableValue). k.roots_changed) h.rest ∙ ap (λ (k : TableValue). k.roots_changed) rest_v ∙ ap (λ (o : Option Name). if_root o number t.roots_changed) (sym i.0);
      }

  -- and the other alternatives go
  module _ (x : TableValue) (held : Holder) (at : Option ℕ) (worker count : ℕ) (others inside : List Name) (next : List ℕ) (run : IsOfRun t) (nb : number ≡ t.steps + 1) (is_held : Some choice ≡ holder_in_row ((table_of t).box_of a))
      (holds : holder ≡ holder_in_row ((table_of t).box_of n)) (is_holder : IsHolderOf t n copy held) (differs : is_choice held choice ≡ false) (one : later ≡ option_map (λ (k : ℕ). k + 1) at)
      (gone : others ≡ less_name a (alternatives_of ((table_of t).goal_of choice))) (lists : ListsEach (table_of t) others inside) (raises : (k : ℕ) → slice_index next k ≡ slice_index (raised worker count t.next) k)
      (h : Holds v w number held) (y : DropsBoxes w x inside) where
    half : IsHalved t w n a choice copy copies holder later number
    half = halved held is_holder differs h

    program_same : x.program ≡ t.program
    program_same = ap (λ (k : TableValue). k.program) y.rest ∙ half.program

    others_same : others ≡ others_beside (table_of t) a
    others_same = gone ∙ sym (others_are a ((table_of t).goal_of choice)) ∙ ap (λ (o : Option Name). others_from a (goal_at o (table_of t).goal_of)) is_held

    all : ListsEach (table_of t) (others_beside (table_of t) a) inside
    all = subst (λ (ns : List Name). ListsEach (table_of t) ns inside) others_same lists

    -- a box that is there has its row still
    same_box : (k : Name) (r : BoxRow) → (table_of t).box_of k ≡ Some r → (table_of w).box_of k ≡ (table_of t).box_of k
    same_box k r e = half.boxes k ∙ ap (λ (o : Option laws.BoxCopy). or_else (option_map (copied_row holder later number) o) ((table_of t).box_of k)) (no_copy (table_of t) copies fresh k r e)

    -- and so does each box that goes
    gone_there : (k : Name) → IsIn k inside → (r : BoxRow) × ((table_of t).box_of k ≡ Some r)
    gone_there k i =
        let z : (e : Name) × IsIn e others × IsInside (table_of t) e k = lists.inside k i in
        let named : IsIn z.0 (alternatives_in chosen.0.shape) = subst (λ (o : Option GoalRow). IsIn z.0 (alternatives_of o)) chosen.1 (less_among a z.0 (alternatives_of ((table_of t).goal_of choice)) (subst (IsIn z.0) gone z.1)) in
        there_inside t run choice z.0 (record { row = chosen.0; there = chosen.1; op = op; alternatives = alternatives_in chosen.0.shape; choice = chosen.2; named = named }) k z.2

    pub splits_by : Splits (table_of t) (table_of (record x { next = next; steps = number })) n a copy copies at worker count
    splits_by = record {
      nodes = ap (λ (p : Program). p.templates.nodes) program_same;
      box_goes = λ m i. y.rows.box_goes m (all.each i.alternative m i.goes i.inside);
      goal_goes = λ m i. y.rows.goal_goes i.inside.box m (all.each i.alternative i.inside.box i.goes i.inside.inside)
          (record { row = i.inside.goal.row; there = same_box i.inside.box i.inside.goal.row i.inside.goal.there ∙ i.inside.goal.there; named = i.inside.goal.named });
      box_stays = λ m j. y.rows.box_stays m (λ i. let z : (e : Name) × IsIn e (others_beside (table_of t) a) × IsInside (table_of t) e m = all.inside m i in j (record { alternative = z.0; goes = z.1; inside = z.2 }))
          ∙ half.boxes m ∙ (λ i. copies_with (holds i) (one i) (nb i) copies (table_of t) m);
      goal_stays = λ m j. y.rows.goal_stays m (λ k i d.
          let z : (e : Name) × IsIn e (others_beside (table_of t) a) × IsInside (table_of t) e k = all.inside k i in
          let r : (r : BoxRow) × ((table_of t).box_of k ≡ Some r) = gone_there k i in
          let e : IsDirectlyIn (table_of t) k m = record { row = d.row; there = sym (same_box k r.0 r.1) ∙ d.there; named = d.named } in
          j (record { alternative = z.0; goes = z.1; inside = record { box = k; inside = z.2; goal = e } }))
          ∙ half.goals m
          ∙ (λ i. or_else (copied_goal_of (nb i) copies m) (changed_goal (holder_in_row ((table_of t).box_of n)) (beside_row n copy (nb i)) (changed_goal (is_held i) (alone_row a (nb i)) (table_of t).goal_of) m));
      roots = ap (λ (k : TableValue). k.roots) y.rest ∙ half.roots;
      roots_changed = ap (λ (k : TableValue). k.roots_changed) y.rest ∙ half.roots_changed ∙ ap (λ (k : ℕ). if_root (holder_in_row ((table_of t).box_of n)) k t.roots_changed) nb;
      next = raises;
      steps = nb;
    }
