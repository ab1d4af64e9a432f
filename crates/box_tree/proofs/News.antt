-- New boxes and goals come one after another, the last first.
use Rattle.std.proofs.Common.{◌≡◌, ℕ, Bool, true, false, List, [], ◌∷◌, ◌++◌, map, Option, Some, None, refl, sym, ap, ◌∙◌, subst, inl, inr, append_assoc, append-nil}
use Rattle.std.specs.Prelude.{option_map, if◌then◌else◌}
use Rattle.akl_terms.specs.Template.{tree}
use Rattle.akl_terms.specs.declared.name.Name.{Name}
use Rattle.akl_terms.specs.declared.term.Node.{Node}
use Rattle.akl_terms.specs.declared.program.Goal.{Goal}
use Rattle.akl_terms.specs.Names.{same_name}
use Rattle.akl_model.specs.Config.{IsIn, Atom, or_else}
use Rattle.akl_model.specs.Ordered.{IsIncreasing}
use Rattle.akl_model.specs.Changes.{of_atom}
use Rattle.table_laws.specs.Rows.{BoxRow, GoalRow}
use Rattle.table_laws.specs.Writes.{set, changed_box, solved_when, first_fail, names_drawn, new_row, new_box_of, new_goal_of, atom_among, shape_among}
use Rattle.box_tree.specs.declared.entries.Held.{Held}
use Rattle.box_tree.specs.declared.entries.BoxEntry.{BoxEntry}
use Rattle.box_tree.specs.declared.entries.GoalEntry.{GoalEntry}
use Rattle.box_tree.specs.declared.step.NewBox.{NewBox}
use Rattle.box_tree.specs.Tables.{TableValue, table_of, goal_atom, shown_tree, box_row, goal_row, new_box, AreInOrder}
use Rattle.box_tree.specs.Edits.{SetsBoxes, SetsGoals, SetsRows, AddsOnly, named_atoms, named_shapes, boxes_with, goals_with, atoms_with, shapes_with}
use Rattle.box_tree.proofs.Adding.{adds_nothing, adds_then, adds_more}

abbrev pub firsts : {A : Type 0} → List (Name × A) → List Name
firsts {A} xs = map (λ (x : Name × A). x.0) xs

pub names_atoms : (nodes : List Node) (xs : List (Name × Goal)) → map (λ (x : Name × Atom). x.0) (named_atoms nodes xs) ≡ firsts xs
names_atoms nodes [] = refl
names_atoms nodes (x ∷ xs) = ap (λ (ns : List Name). x.0 ∷ ns) (names_atoms nodes xs)

pub in_append : (m : Name) (xs ys : List Name) → IsIn m ys → IsIn m (xs ++ ys)
in_append m [] ys i = i
in_append m (x ∷ xs) ys i = inr (in_append m xs ys i)

pub in_left : (m : Name) (xs ys : List Name) → IsIn m xs → IsIn m (xs ++ ys)
in_left m [] ys i = absurd i
in_left m (x ∷ xs) ys (inl e) = inl e
in_left m (x ∷ xs) ys (inr i) = inr (in_left m xs ys i)

pub firsts_append : {A : Type 0} (xs ys : List (Name × A)) → firsts (xs ++ ys) ≡ firsts xs ++ firsts ys
firsts_append [] ys = refl
firsts_append (x ∷ xs) ys = ap (λ (ns : List Name). x.0 ∷ ns) (firsts_append xs ys)

-- goals

pub record GoalsCome {A : Type 0} (held : A → Held) (t u : TableValue) (home : Name) (number : ℕ) (all left : List (Name × A)) : Type 0 where
  pub done : List (Name × A)
  pub all_is : all ≡ left ++ done
  pub put : SetsGoals t u (shapes_with home number (named_shapes held t.program.templates.nodes done) (table_of t))
  pub only : AddsOnly t u (firsts all)

pub goals_begin : {A : Type 0} (held : A → Held) (t : TableValue) (home : Name) (number : ℕ) (all : List (Name × A)) → GoalsCome held t t home number all all
goals_begin held t home number all = record { done = []; all_is = sym (append-nil all); put = record { rows = λ m. refl; rest = refl }; only = adds_nothing t (firsts all) }

pub or_if : {A : Type 0} (b : Bool) (a : A) (y z : Option A) → (if b then Some a else or_else y z) ≡ or_else (if b then Some a else y) z
or_if true a y z = refl
or_if false a y z = refl

module _ {A : Type 0} (held : A → Held) (t u v : TableValue) (home : Name) (number : ℕ) (all old new : List (Name × A)) (x : Name × A) (g : GoalsCome held t u home number all old) (pops : old ≡ new ++ x ∷ []) where
  all_goals : all ≡ new ++ x ∷ g.done
  all_goals = g.all_is ∙ ap (λ (xs : List (Name × A)). xs ++ g.done) pops ∙ append_assoc new (x ∷ []) g.done

  own : IsIn x.0 (firsts all)
  own = subst (IsIn x.0) (sym (ap firsts all_goals ∙ firsts_append new (x ∷ g.done))) (in_append x.0 (firsts new) (firsts (x ∷ g.done)) (inl refl))

  pub goals_only : AddsOnly u v (x.0 ∷ []) → AddsOnly t v (firsts all)
  goals_only a = adds_then t u v (firsts all) (x.0 ∷ []) g.only a sub
    where
      sub : (m : Name) → IsIn m (x.0 ∷ []) → IsIn m (firsts all)
      sub m (inl e) = subst (λ (k : Name). IsIn k (firsts all)) (sym e) own
      sub m (inr i) = absurd i

  pub goals_step : SetsGoals u v (set x.0 (Some (goal_row u.program.templates.nodes (record { home = home; held = held x.1; changed = number }))) (table_of u).goal_of) → AddsOnly u v (x.0 ∷ []) → GoalsCome held t v home number all new
  goals_step s a = record {
    done = x ∷ g.done;
    all_is = all_goals;
    put = record {
      rows = λ m. s.rows m ∙ ap (λ (nodes : List Node). if same_name m x.0 then Some (goal_row nodes (record { home = home; held = held x.1; changed = number })) else (table_of u).goal_of m) (ap (λ (k : TableValue). k.program.templates.nodes) g.put.rest)
          ∙ ap (λ (o : Option GoalRow). if same_name m x.0 then Some (goal_row t.program.templates.nodes (record { home = home; held = held x.1; changed = number })) else o) (g.put.rows m)
          ∙ or_if (same_name m x.0) (goal_row t.program.templates.nodes (record { home = home; held = held x.1; changed = number })) (shape_among home number (named_shapes held t.program.templates.nodes g.done) m) ((table_of t).goal_of m);
      rest = s.rest ∙ ap (λ (k : TableValue). record k { goals = v.goals }) g.put.rest;
    };
    only = goals_only a;
  }

pub goals_end : {A : Type 0} (held : A → Held) (t u : TableValue) (home : Name) (number : ℕ) (all left : List (Name × A)) → GoalsCome held t u home number all left → left ≡ []
    → SetsGoals t u (shapes_with home number (named_shapes held t.program.templates.nodes all) (table_of t))
goals_end {A} held t u home number all left g e =
    subst (λ (xs : List (Name × A)). SetsGoals t u (shapes_with home number (named_shapes held t.program.templates.nodes xs) (table_of t))) (sym (g.all_is ∙ ap (λ (xs : List (Name × A)). xs ++ g.done) e)) g.put

-- atoms

pub atom_shapes : (home : Name) (number : ℕ) (nodes : List Node) (xs : List (Name × Goal)) (m : Name) → shape_among home number (named_shapes Held.Atom nodes xs) m ≡ atom_among home number (named_atoms nodes xs) m
atom_shapes home number nodes [] m = refl
atom_shapes home number nodes (x ∷ xs) m = ap (λ (o : Option GoalRow). if same_name m x.0 then Some (record { home = home; shape = of_atom (goal_atom nodes x.1); changed = number }) else o) (atom_shapes home number nodes xs m)

pub atoms_put : (t u : TableValue) (home : Name) (number : ℕ) (xs : List (Name × Goal)) → SetsGoals t u (shapes_with home number (named_shapes Held.Atom t.program.templates.nodes xs) (table_of t))
    → SetsGoals t u (atoms_with home number (named_atoms t.program.templates.nodes xs) (table_of t))
atoms_put t u home number xs s = record { rows = λ m. s.rows m ∙ ap (λ (o : Option GoalRow). or_else o ((table_of t).goal_of m)) (atom_shapes home number t.program.templates.nodes xs m); rest = s.rest }

-- goals come, and then a box changes
pub rows_set : (t u v : TableValue) (home : Option Name) (change : BoxRow → BoxRow) (goals : Name → Option GoalRow) → SetsGoals t u goals → SetsBoxes u v (changed_box home change (table_of u).box_of) → SetsRows t v (changed_box home change (table_of t).box_of) goals
rows_set t u v home change goals a b = record {
  boxes = λ m. b.rows m ∙ ap (λ (k : TableValue). changed_box home change (table_of k).box_of m) a.rest;
  goals = λ m. ap (λ (k : TableValue). (table_of k).goal_of m) b.rest ∙ a.rows m;
  rest = b.rest ∙ ap (λ (k : TableValue). record k { boxes = v.boxes }) a.rest ∙ ap (λ (gs : List (Name × GoalEntry)). record t { boxes = v.boxes; goals = gs }) (sym (ap (λ (k : TableValue). k.goals) b.rest));
}

-- goals come, and then the entry of their box
module _ (t u v : TableValue) (n : Name) where
  pub entry_only : (names : List Name) → AddsOnly t u names → AddsOnly u v (n ∷ []) → AddsOnly t v (n ∷ names)
  entry_only names a b = adds_then t u v (n ∷ names) (n ∷ []) (adds_more t u names (n ∷ names) a (λ m i. inr i)) b sub
    where
      sub : (m : Name) → IsIn m (n ∷ []) → IsIn m (n ∷ names)
      sub m (inl e) = inl e
      sub m (inr i) = absurd i

  pub entry_comes : (e : BoxEntry) (goals : Name → Option GoalRow) → SetsGoals t u goals → SetsBoxes u v (set n (Some (box_row u.program.templates.nodes e)) (table_of u).box_of)
      → SetsRows t v (set n (Some (box_row t.program.templates.nodes e)) (table_of t).box_of) goals
  entry_comes e goals a b = record {
    boxes = λ m. b.rows m ∙ ap (λ (k : TableValue). if same_name m n then Some (box_row k.program.templates.nodes e) else (table_of (record k { goals = t.goals })).box_of m) a.rest;
    goals = λ m. ap (λ (k : TableValue). (table_of k).goal_of m) b.rest ∙ a.rows m;
    rest = b.rest ∙ ap (λ (k : TableValue). record k { boxes = v.boxes }) a.rest ∙ ap (λ (gs : List (Name × GoalEntry)). record t { boxes = v.boxes; goals = gs }) (sym (ap (λ (k : TableValue). k.goals) b.rest));
  }

-- one new box

pub or_one : {A : Type 0} (o y : Option A) → or_else o y ≡ or_else (or_else o None) y
or_one None y = refl
or_one (Some a) y = refl

pub record IsEntryOf (holder : Name) (at : Option ℕ) (number : ℕ) (n : NewBox) (e : BoxEntry) : Type 0 where
  pub holder_is : e.holder ≡ Some holder
  pub store : e.store ≡ n.store
  pub changed : e.changed ≡ number
  pub solved : e.solved_at ≡ solved_when at n.solved
  pub goals : e.goals.keys ≡ firsts n.goals.items
  pub goals_changed : e.goals_changed ≡ number
  pub failing : (nodes : List Node) → e.failing ≡ first_fail (named_atoms nodes n.goals.items)
  pub body : e.body.items ≡ n.body.items
  pub shown : e.shown.items ≡ []
  pub collected : e.collected ≡ n.collected

entry_row : (nodes : List Node) (holder : Name) (at : Option ℕ) (number : ℕ) (n : NewBox) (e : BoxEntry) → IsEntryOf holder at number n e → box_row nodes e ≡ new_row holder at number (new_box nodes n)
entry_row nodes holder at number n e i =
    let g : e.goals.keys ≡ map (λ (x : Name × Atom). x.0) (named_atoms nodes n.goals.items) = i.goals ∙ sym (names_atoms nodes n.goals.items) in
    let b : map (goal_atom nodes) e.body.items ≡ map (goal_atom nodes) n.body.items = ap (map (goal_atom nodes)) i.body in
    let s : map (shown_tree nodes) e.shown.items ≡ [] = ap (map (shown_tree nodes)) i.shown in
    let f : e.failing ≡ first_fail (named_atoms nodes n.goals.items) = i.failing nodes in
    λ k. record { holder = i.holder_is k; store = i.store k; changed = i.changed k; solved_at = i.solved k; goals = g k; goals_changed = i.goals_changed k; failing = f k; body = b k; shown = s k; collected = option_map (tree nodes) (i.collected k) }

module _ (t v : TableValue) (holder : Name) (at : Option ℕ) (number : ℕ) (n : NewBox) (e : BoxEntry) where
  pub box_comes : IsEntryOf holder at number n e
      → SetsRows t v (set n.name (Some (box_row t.program.templates.nodes e)) (table_of t).box_of) (shapes_with n.name number (named_shapes Held.Atom t.program.templates.nodes n.goals.items) (table_of t))
      → SetsRows t v (boxes_with holder at number (new_box t.program.templates.nodes n ∷ []) (table_of t)) (goals_with number (new_box t.program.templates.nodes n ∷ []) (table_of t))
  box_comes i s =
      let nodes : List Node = t.program.templates.nodes in
      record {
        boxes = λ m. s.boxes m ∙ ap (λ (r : BoxRow). if same_name m n.name then Some r else (table_of t).box_of m) (entry_row nodes holder at number n e i)
            ∙ or_if (same_name m n.name) (new_row holder at number (new_box nodes n)) None ((table_of t).box_of m);
        goals = λ m. s.goals m ∙ ap (λ (o : Option GoalRow). or_else o ((table_of t).goal_of m)) (atom_shapes n.name number nodes n.goals.items m) ∙ or_one (atom_among n.name number (named_atoms nodes n.goals.items) m) ((table_of t).goal_of m);
        rest = s.rest;
      }

-- all new boxes

pub record NewsCome (t u : TableValue) (holder : Name) (at : Option ℕ) (number : ℕ) (all left : List NewBox) : Type 0 where
  pub done : List NewBox
  pub all_is : all ≡ left ++ done
  pub ordered : AreInOrder (map (new_box t.program.templates.nodes) left)
  pub put : SetsRows t u (boxes_with holder at number (map (new_box t.program.templates.nodes) done) (table_of t)) (goals_with number (map (new_box t.program.templates.nodes) done) (table_of t))
  pub only : AddsOnly t u (names_drawn (map (new_box t.program.templates.nodes) all))

pub news_begin : (t : TableValue) (holder : Name) (at : Option ℕ) (number : ℕ) (all : List NewBox) → AreInOrder (map (new_box t.program.templates.nodes) all) → NewsCome t t holder at number all all
news_begin t holder at number all o = record { done = []; all_is = sym (append-nil all); ordered = o; put = record { boxes = λ m. refl; goals = λ m. refl; rest = refl }; only = adds_nothing t (names_drawn (map (new_box t.program.templates.nodes) all)) }

pub or_or : {A : Type 0} (a b z : Option A) → or_else (or_else a None) (or_else b z) ≡ or_else (or_else a b) z
or_or None b z = refl
or_or (Some x) b z = refl

or_if_one : {A : Type 0} (s : Bool) (a : A) (b z : Option A) → or_else (if s then Some a else None) (or_else b z) ≡ or_else (if s then Some a else b) z
or_if_one true a b z = refl
or_if_one false a b z = refl

-- what is drawn for one of the boxes is drawn for all
drawn_one : (nodes : List Node) (xs ys : List NewBox) (n : NewBox) (m : Name) → IsIn m (n.name ∷ firsts n.goals.items) → IsIn m (names_drawn (map (new_box nodes) (xs ++ n ∷ ys)))
drawn_one nodes [] ys n m (inl e) = inl e
drawn_one nodes [] ys n m (inr i) = inr (in_left m (map (λ (x : Name × Atom). x.0) (named_atoms nodes n.goals.items)) (names_drawn (map (new_box nodes) ys)) (subst (IsIn m) (sym (names_atoms nodes n.goals.items)) i))
drawn_one nodes (x ∷ xs) ys n m i = inr (in_append m (map (λ (y : Name × Atom). y.0) (named_atoms nodes x.goals.items)) (names_drawn (map (new_box nodes) (xs ++ n ∷ ys))) (drawn_one nodes xs ys n m i))

order_left : (nodes : List Node) (xs ys : List NewBox) → AreInOrder (map (new_box nodes) (xs ++ ys)) → AreInOrder (map (new_box nodes) xs) × AreInOrder (map (new_box nodes) ys)
order_left nodes [] ys o = (tt, o)
order_left nodes (x ∷ xs) ys o = let r : AreInOrder (map (new_box nodes) xs) × AreInOrder (map (new_box nodes) ys) = order_left nodes xs ys o.1 in ((o.0, r.0), r.1)

module _ (t u v : TableValue) (holder : Name) (at : Option ℕ) (number : ℕ) (all old new : List NewBox) (n : NewBox) (g : NewsCome t u holder at number all old) (pops : old ≡ new ++ n ∷ []) where
  nodes : List Node
  nodes = t.program.templates.nodes

  same_nodes : u.program.templates.nodes ≡ t.program.templates.nodes
  same_nodes = ap (λ (k : TableValue). k.program.templates.nodes) g.only.rest

  parted : AreInOrder (map (new_box t.program.templates.nodes) new) × AreInOrder (map (new_box t.program.templates.nodes) (n ∷ []))
  parted = order_left t.program.templates.nodes new (n ∷ []) (subst (λ (xs : List NewBox). AreInOrder (map (new_box t.program.templates.nodes) xs)) pops g.ordered)

  pub new_ordered : IsIncreasing (firsts n.goals.items)
  new_ordered = subst IsIncreasing (names_atoms t.program.templates.nodes n.goals.items) parted.1.0

  all_parts : all ≡ new ++ n ∷ g.done
  all_parts = g.all_is ∙ ap (λ (xs : List NewBox). xs ++ g.done) pops ∙ append_assoc new (n ∷ []) g.done

  pub news_only : AddsOnly u v (n.name ∷ firsts n.goals.items) → AddsOnly t v (names_drawn (map (new_box t.program.templates.nodes) all))
  news_only a = adds_then t u v (names_drawn (map (new_box t.program.templates.nodes) all)) (n.name ∷ firsts n.goals.items) g.only a
      (λ m i. subst (λ (xs : List NewBox). IsIn m (names_drawn (map (new_box t.program.templates.nodes) xs))) (sym all_parts) (drawn_one t.program.templates.nodes new g.done n m i))

  pub news_step : SetsRows u v (boxes_with holder at number (new_box u.program.templates.nodes n ∷ []) (table_of u)) (goals_with number (new_box u.program.templates.nodes n ∷ []) (table_of u))
      → AddsOnly u v (n.name ∷ firsts n.goals.items) → NewsCome t v holder at number all new
  news_step s a = record {
    done = n ∷ g.done;
    all_is = all_parts;
    ordered = parted.0;
    put = record {
      boxes = λ m. s.boxes m
          ∙ ap (λ (ns : List Node). or_else (new_box_of holder at number (new_box ns n ∷ []) m) ((table_of u).box_of m)) same_nodes
          ∙ ap (λ (o : Option BoxRow). or_else (new_box_of holder at number (new_box t.program.templates.nodes n ∷ []) m) o) (g.put.boxes m)
          ∙ or_if_one (same_name m n.name) (new_row holder at number (new_box t.program.templates.nodes n)) (new_box_of holder at number (map (new_box t.program.templates.nodes) g.done) m) ((table_of t).box_of m);
      goals = λ m. s.goals m
          ∙ ap (λ (ns : List Node). or_else (new_goal_of number (new_box ns n ∷ []) m) ((table_of u).goal_of m)) same_nodes
          ∙ ap (λ (o : Option GoalRow). or_else (new_goal_of number (new_box t.program.templates.nodes n ∷ []) m) o) (g.put.goals m)
          ∙ or_or (atom_among n.name number (named_atoms t.program.templates.nodes n.goals.items) m) (new_goal_of number (map (new_box t.program.templates.nodes) g.done) m) ((table_of t).goal_of m);
      rest = s.rest ∙ ap (λ (k : TableValue). record k { boxes = v.boxes; goals = v.goals }) g.put.rest;
    };
    only = news_only a;
  }

pub news_end : (t u : TableValue) (holder : Name) (at : Option ℕ) (number : ℕ) (all left : List NewBox) → NewsCome t u holder at number all left → left ≡ []
    → SetsRows t u (boxes_with holder at number (map (new_box t.program.templates.nodes) all) (table_of t)) (goals_with number (map (new_box t.program.templates.nodes) all) (table_of t))
news_end t u holder at number all left g e =
    subst (λ (xs : List NewBox). SetsRows t u (boxes_with holder at number (map (new_box t.program.templates.nodes) xs) (table_of t)) (goals_with number (map (new_box t.program.templates.nodes) xs) (table_of t))) (sym (g.all_is ∙ ap (λ (xs : List NewBox). xs ++ g.done) e)) g.put

-- names that are gathered

names_more : (nodes : List Node) (xs : List NewBox) (n : NewBox) → names_drawn (map (new_box nodes) (xs ++ n ∷ [])) ≡ names_drawn (map (new_box nodes) xs) ++ n.name ∷ firsts n.goals.items
names_more nodes [] n = ap (λ (ns : List Name). n.name ∷ ns) (append-nil (map (λ (x : Name × Atom). x.0) (named_atoms nodes n.goals.items)) ∙ names_atoms nodes n.goals.items)
names_more nodes (x ∷ xs) n =
    ap (λ (ns : List Name). x.name ∷ (map (λ (y : Name × Atom). y.0) (named_atoms nodes x.goals.items) ++ ns)) (names_more nodes xs n)
    ∙ ap (λ (ns : List Name). x.name ∷ ns) (sym (append_assoc (map (λ (y : Name × Atom). y.0) (named_atoms nodes x.goals.items)) (names_drawn (map (new_box nodes) xs)) (n.name ∷ firsts n.goals.items)))

pub drawn_more : (nodes : List Node) (xs ys : List NewBox) (n : NewBox) (names pushed all gs : List Name) → names ≡ names_drawn (map (new_box nodes) xs) → pushed ≡ names ++ n.name ∷ [] → all ≡ pushed ++ gs → gs ≡ firsts n.goals.items
    → ys ≡ xs ++ n ∷ [] → all ≡ names_drawn (map (new_box nodes) ys)
drawn_more nodes xs ys n names pushed all gs a b c d e =
    c ∙ ap (λ (p : List Name). p ++ gs) b ∙ append_assoc names (n.name ∷ []) gs ∙ ap (λ (p : List Name). p ++ n.name ∷ gs) a ∙ ap (λ (k : List Name). names_drawn (map (new_box nodes) xs) ++ n.name ∷ k) d
    ∙ sym (names_more nodes xs n) ∙ ap (λ (k : List NewBox). names_drawn (map (new_box nodes) k)) (sym e)
