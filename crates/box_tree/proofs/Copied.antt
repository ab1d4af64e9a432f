-- Copies and their goals come one after another, the last first.
use Rattle.std.proofs.Common.{◌≡◌, ℕ, Bool, true, false, List, [], ◌∷◌, ◌++◌, map, Option, Some, None, refl, sym, ap, ◌∙◌, subst, inl, inr, append_assoc, append-nil}
use Rattle.std.specs.Prelude.{if◌then◌else◌, option_map}
use Rattle.akl_terms.specs.Template.{tree}
use Rattle.akl_terms.specs.declared.name.Name.{Name}
use Rattle.akl_terms.specs.declared.term.Node.{Node}
use Rattle.akl_terms.specs.Names.{same_name}
use Rattle.akl_model.specs.Config.{IsIn, or_else}
use Rattle.akl_model.specs.Ordered.{IsIncreasing}
use Rattle.akl_model.specs.Changes.{Shape}
use Rattle.akl_model.proofs.Scoped.{IsIn-left, IsIn-right}
use Rattle.table_laws.specs.Rows.{BoxRow, GoalRow}
use Rattle.table_laws.specs.Steps as laws
use Rattle.table_laws.specs.Writes.{set, solved_when, names_copied, copied_row, copied_goal_of, shape_among}
use Rattle.box_tree.specs.declared.entries.Held.{Held}
use Rattle.box_tree.specs.declared.entries.BoxEntry.{BoxEntry}
use Rattle.box_tree.specs.declared.step.BoxCopy.{BoxCopy}
use Rattle.box_tree.specs.Tables.{TableValue, table_of, goal_atom, shown_tree, box_row, box_copy, AreCopiesInOrder}
use Rattle.box_tree.specs.Edits.{SetsRows, AddsOnly, named_shapes, shapes_with}
use Rattle.box_tree.specs.Splits.{copies_with, copied_goals_with}
use Rattle.box_tree.proofs.Adding.{adds_nothing, adds_then}
use Rattle.box_tree.proofs.News.{firsts, or_one, or_or}

-- what a copy holds is held
abbrev as_held : Held → Held
as_held h = h

names_shapes : (nodes : List Node) (xs : List (Name × Held)) → map (λ (x : Name × Shape). x.0) (named_shapes as_held nodes xs) ≡ firsts xs
names_shapes nodes [] = refl
names_shapes nodes (x ∷ xs) = ap (λ (ns : List Name). x.0 ∷ ns) (names_shapes nodes xs)

-- one copy

pub record IsEntryOfCopy (holder : Option Name) (at : Option ℕ) (number : ℕ) (k : BoxCopy) (e : BoxEntry) : Type 0 where
  pub holder_is : e.holder ≡ or_else k.holder holder
  pub store : e.store ≡ k.store
  pub changed : e.changed ≡ number
  pub solved : e.solved_at ≡ solved_when at k.solved
  pub goals : e.goals.keys ≡ firsts k.goals.items
  pub goals_changed : e.goals_changed ≡ number
  pub failing : e.failing ≡ None
  pub body : e.body ≡ k.body
  pub shown : e.shown ≡ k.shown
  pub collected : e.collected ≡ k.collected

copy_row : (nodes : List Node) (holder : Option Name) (at : Option ℕ) (number : ℕ) (k : BoxCopy) (e : BoxEntry) → IsEntryOfCopy holder at number k e → box_row nodes e ≡ copied_row holder at number (box_copy nodes k)
copy_row nodes holder at number k e i =
    let g : e.goals.keys ≡ map (λ (x : Name × Shape). x.0) (named_shapes as_held nodes k.goals.items) = i.goals ∙ sym (names_shapes nodes k.goals.items) in
    λ j. record { holder = i.holder_is j; store = i.store j; changed = i.changed j; solved_at = i.solved j; goals = g j; goals_changed = i.goals_changed j; failing = i.failing j; body = map (goal_atom nodes) (i.body j).items; shown = map (shown_tree nodes) (i.shown j).items; collected = option_map (tree nodes) (i.collected j) }

-- what is put for one copy
or_copy : {A B : Type 0} (f : A → B) (s : Bool) (a : A) (rest : Option A) (z : Option B) → (if s then Some (f a) else or_else (option_map f rest) z) ≡ or_else (option_map f (if s then Some a else rest)) z
or_copy f true a rest z = refl
or_copy f false a rest z = refl

module _ (t v : TableValue) (holder : Option Name) (at : Option ℕ) (number : ℕ) (k : BoxCopy) (e : BoxEntry) where
  pub copy_comes : IsEntryOfCopy holder at number k e
      → SetsRows t v (set k.name (Some (box_row t.program.templates.nodes e)) (table_of t).box_of) (shapes_with k.name number (named_shapes as_held t.program.templates.nodes k.goals.items) (table_of t))
      → SetsRows t v (copies_with holder at number (box_copy t.program.templates.nodes k ∷ []) (table_of t)) (copied_goals_with number (box_copy t.program.templates.nodes k ∷ []) (table_of t))
  copy_comes i s =
      let nodes : List Node = t.program.templates.nodes in
      record {
        boxes = λ m. s.boxes m ∙ ap (λ (r : BoxRow). if same_name m k.name then Some r else (table_of t).box_of m) (copy_row nodes holder at number k e i)
            ∙ or_copy (copied_row holder at number) (same_name m k.name) (box_copy nodes k) None ((table_of t).box_of m);
        goals = λ m. s.goals m ∙ or_one (shape_among k.name number (named_shapes as_held nodes k.goals.items) m) ((table_of t).goal_of m);
        rest = s.rest;
      }

-- all copies

pub record CopiesCome (t u : TableValue) (holder : Option Name) (at : Option ℕ) (number : ℕ) (all left : List BoxCopy) : Type 0 where
  pub done : List BoxCopy
  pub all_is : all ≡ left ++ done
  pub ordered : AreCopiesInOrder (map (box_copy t.program.templates.nodes) left)
  pub put : SetsRows t u (copies_with holder at number (map (box_copy t.program.templates.nodes) done) (table_of t)) (copied_goals_with number (map (box_copy t.program.templates.nodes) done) (table_of t))
  pub only : AddsOnly t u (names_copied (map (box_copy t.program.templates.nodes) all))

pub copies_begin : (t : TableValue) (holder : Option Name) (at : Option ℕ) (number : ℕ) (all : List BoxCopy) → AreCopiesInOrder (map (box_copy t.program.templates.nodes) all) → CopiesCome t t holder at number all all
copies_begin t holder at number all o = record { done = []; all_is = sym (append-nil all); ordered = o; put = record { boxes = λ m. refl; goals = λ m. refl; rest = refl }; only = adds_nothing t (names_copied (map (box_copy t.program.templates.nodes) all)) }

or_copies : {A B : Type 0} (f : A → B) (s : Bool) (a : A) (rest : Option A) (z : Option B) → or_else (option_map f (if s then Some a else None)) (or_else (option_map f rest) z) ≡ or_else (option_map f (if s then Some a else rest)) z
or_copies f true a rest z = refl
or_copies f false a rest z = refl

-- the names of one copy are among those of all
copied_one : (nodes : List Node) (xs ys : List BoxCopy) (k : BoxCopy) (m : Name) → IsIn m (k.name ∷ firsts k.goals.items) → IsIn m (names_copied (map (box_copy nodes) (xs ++ k ∷ ys)))
copied_one nodes [] ys k m (inl e) = inl e
copied_one nodes [] ys k m (inr i) = inr (IsIn-left m (map (λ (x : Name × Shape). x.0) (named_shapes as_held nodes k.goals.items)) (names_copied (map (box_copy nodes) ys)) (subst (IsIn m) (sym (names_shapes nodes k.goals.items)) i))
copied_one nodes (x ∷ xs) ys k m i = inr (IsIn-right m (map (λ (y : Name × Shape). y.0) (named_shapes as_held nodes x.goals.items)) (names_copied (map (box_copy nodes) (xs ++ k ∷ ys))) (copied_one nodes xs ys k m i))

copies_parted : (nodes : List Node) (xs ys : List BoxCopy) → AreCopiesInOrder (map (box_copy nodes) (xs ++ ys)) → AreCopiesInOrder (map (box_copy nodes) xs) × AreCopiesInOrder (map (box_copy nodes) ys)
copies_parted nodes [] ys o = (tt, o)
copies_parted nodes (x ∷ xs) ys o = let r : AreCopiesInOrder (map (box_copy nodes) xs) × AreCopiesInOrder (map (box_copy nodes) ys) = copies_parted nodes xs ys o.1 in ((o.0, r.0), r.1)

module _ (t u v : TableValue) (holder : Option Name) (at : Option ℕ) (number : ℕ) (all old new : List BoxCopy) (k : BoxCopy) (g : CopiesCome t u holder at number all old) (pops : old ≡ new ++ k ∷ []) where
  same_nodes : u.program.templates.nodes ≡ t.program.templates.nodes
  same_nodes = ap (λ (w : TableValue). w.program.templates.nodes) g.only.rest

  parted : AreCopiesInOrder (map (box_copy t.program.templates.nodes) new) × AreCopiesInOrder (map (box_copy t.program.templates.nodes) (k ∷ []))
  parted = copies_parted t.program.templates.nodes new (k ∷ []) (subst (λ (xs : List BoxCopy). AreCopiesInOrder (map (box_copy t.program.templates.nodes) xs)) pops g.ordered)

  pub copy_ordered : IsIncreasing (firsts k.goals.items)
  copy_ordered = subst IsIncreasing (names_shapes t.program.templates.nodes k.goals.items) parted.1.0

  all_copies : all ≡ new ++ k ∷ g.done
  all_copies = g.all_is ∙ ap (λ (xs : List BoxCopy). xs ++ g.done) pops ∙ append_assoc new (k ∷ []) g.done

  pub copies_only : AddsOnly u v (k.name ∷ firsts k.goals.items) → AddsOnly t v (names_copied (map (box_copy t.program.templates.nodes) all))
  copies_only a = adds_then t u v (names_copied (map (box_copy t.program.templates.nodes) all)) (k.name ∷ firsts k.goals.items) g.only a
      (λ m i. subst (λ (xs : List BoxCopy). IsIn m (names_copied (map (box_copy t.program.templates.nodes) xs))) (sym all_copies) (copied_one t.program.templates.nodes new g.done k m i))

  pub copies_step : SetsRows u v (copies_with holder at number (box_copy u.program.templates.nodes k ∷ []) (table_of u)) (copied_goals_with number (box_copy u.program.templates.nodes k ∷ []) (table_of u))
      → AddsOnly u v (k.name ∷ firsts k.goals.items) → CopiesCome t v holder at number all new
  copies_step s a = record {
    done = k ∷ g.done;
    all_is = all_copies;
    ordered = parted.0;
    put = record {
      boxes = λ m. s.boxes m
          ∙ ap (λ (ns : List Node). copies_with holder at number (box_copy ns k ∷ []) (table_of u) m) same_nodes
          ∙ ap (λ (o : Option BoxRow). or_else (option_map (copied_row holder at number) (laws.copy_among (box_copy t.program.templates.nodes k ∷ []) m)) o) (g.put.boxes m)
          ∙ or_copies (copied_row holder at number) (same_name m k.name) (box_copy t.program.templates.nodes k) (laws.copy_among (map (box_copy t.program.templates.nodes) g.done) m) ((table_of t).box_of m);
      goals = λ m. s.goals m
          ∙ ap (λ (ns : List Node). copied_goals_with number (box_copy ns k ∷ []) (table_of u) m) same_nodes
          ∙ ap (λ (o : Option GoalRow). or_else (copied_goal_of number (box_copy t.program.templates.nodes k ∷ []) m) o) (g.put.goals m)
          ∙ or_or (shape_among k.name number (named_shapes as_held t.program.templates.nodes k.goals.items) m) (copied_goal_of number (map (box_copy t.program.templates.nodes) g.done) m) ((table_of t).goal_of m);
      rest = s.rest ∙ ap (λ (w : TableValue). record w { boxes = v.boxes; goals = v.goals }) g.put.rest;
    };
    only = copies_only a;
  }

pub copies_end : (t u : TableValue) (holder : Option Name) (at : Option ℕ) (number : ℕ) (all left : List BoxCopy) → CopiesCome t u holder at number all left → left ≡ []
    → SetsRows t u (copies_with holder at number (map (box_copy t.program.templates.nodes) all) (table_of t)) (copied_goals_with number (map (box_copy t.program.templates.nodes) all) (table_of t))
copies_end t u holder at number all left g e =
    subst (λ (xs : List BoxCopy). SetsRows t u (copies_with holder at number (map (box_copy t.program.templates.nodes) xs) (table_of t)) (copied_goals_with number (map (box_copy t.program.templates.nodes) xs) (table_of t))) (sym (g.all_is ∙ ap (λ (xs : List BoxCopy). xs ++ g.done) e)) g.put

-- names that are gathered

names_more : (nodes : List Node) (xs : List BoxCopy) (k : BoxCopy) → names_copied (map (box_copy nodes) (xs ++ k ∷ [])) ≡ names_copied (map (box_copy nodes) xs) ++ k.name ∷ firsts k.goals.items
names_more nodes [] k = ap (λ (ns : List Name). k.name ∷ ns) (append-nil (map (λ (x : Name × Shape). x.0) (named_shapes as_held nodes k.goals.items)) ∙ names_shapes nodes k.goals.items)
names_more nodes (x ∷ xs) k =
    ap (λ (ns : List Name). x.name ∷ (map (λ (y : Name × Shape). y.0) (named_shapes as_held nodes x.goals.items) ++ ns)) (names_more nodes xs k)
    ∙ ap (λ (ns : List Name). x.name ∷ ns) (sym (append_assoc (map (λ (y : Name × Shape). y.0) (named_shapes as_held nodes x.goals.items)) (names_copied (map (box_copy nodes) xs)) (k.name ∷ firsts k.goals.items)))

pub copied_more : (nodes : List Node) (xs ys : List BoxCopy) (k : BoxCopy) (names pushed all gs : List Name) → names ≡ names_copied (map (box_copy nodes) xs) → pushed ≡ names ++ k.name ∷ [] → all ≡ pushed ++ gs → gs ≡ firsts k.goals.items
    → ys ≡ xs ++ k ∷ [] → all ≡ names_copied (map (box_copy nodes) ys)
copied_more nodes xs ys k names pushed all gs a b c d e =
    c ∙ ap (λ (p : List Name). p ++ gs) b ∙ append_assoc names (k.name ∷ []) gs ∙ ap (λ (p : List Name). p ++ k.name ∷ gs) a ∙ ap (λ (q : List Name). names_copied (map (box_copy nodes) xs) ++ k.name ∷ q) d
    ∙ sym (names_more nodes xs k) ∙ ap (λ (q : List BoxCopy). names_copied (map (box_copy nodes) q)) (sym e)
