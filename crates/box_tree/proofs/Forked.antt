-- A goal becomes a choice of new boxes.
use Rattle.std.proofs.Common.{◌≡◌, ℕ, ◌+◌, Bool, true, false, List, [], ◌∷◌, map, slice_index, Option, Some, None, refl, sym, ap, ◌∙◌, inl, inr}
use Rattle.std.specs.Prelude.{if◌then◌else◌, option_map}
use Rattle.std.specs.Map.{lookup}
use Rattle.akl_terms.specs.declared.name.Name.{Name}
use Rattle.akl_terms.specs.declared.term.Node.{Node}
use Rattle.box_tree.specs.declared.entries.HeldOp.{HeldOp}
use Rattle.akl_terms.specs.Names.{same_name}
use Rattle.akl_terms.proofs.SameNames.{same_name-equal}
use Rattle.akl_model.specs.Config.{IsIn, Atom, or_else}
use Rattle.akl_model.specs.Changes.{of_atom}
use Rattle.akl_model.specs.Derivations.{raised}
use Rattle.akl_model.proofs.Options.{map_none}
use Rattle.table_laws.specs.Rows.{BoxRow, GoalRow, Table}
use Rattle.table_laws.specs.Steps as laws
use Rattle.table_laws.specs.Writes.{failing_row, set, home_in, changed_box, failing_by, forked_row, names_drawn, new_box_of, new_goal_of, atom_among, after_fork, IsFresh}
use Rattle.box_tree.specs.declared.step.NewBox.{NewBox}
use Rattle.box_tree.specs.Tables.{op_held, TableValue, table_of, new_box}
use Rattle.box_tree.specs.Edits.{SetsBoxes, SetsGoals, SetsRows, Becomes, boxes_with, goals_with, choice_row, home_if_empty}
use Rattle.box_tree.proofs.News.{in_append, in_left}

-- a name of a new goal is drawn
pub among_in : (home : Name) (number : ℕ) (xs : List (Name × Atom)) (m : Name) (r : GoalRow) → atom_among home number xs m ≡ Some r → IsIn m (map (λ (x : Name × Atom). x.0) xs)
among_in home number [] m r e = cc
among_in home number (x ∷ xs) m r e = on (same_name m x.0) refl e (λ k. among_in home number xs m r k)
  where
    on : (b : Bool) → same_name m x.0 ≡ b → (if b then Some (record { home = home; shape = of_atom x.1; changed = number }) else atom_among home number xs m) ≡ Some r → (atom_among home number xs m ≡ Some r → IsIn m (map (λ (y : Name × Atom). y.0) xs)) → IsIn m (x.0 ∷ map (λ (y : Name × Atom). y.0) xs)
    on true q e k = inl (same_name-equal m x.0 q)
    on false q e k = inr (k e)

drawn_goal : (number : ℕ) (news : List laws.NewBox) (m : Name) (r : GoalRow) → new_goal_of number news m ≡ Some r → IsIn m (names_drawn news)
drawn_goal number [] m r e = cc
drawn_goal number (n ∷ ns) m r e = on (atom_among n.name number n.goals m) refl e (λ k. drawn_goal number ns m r k)
  where
    on : (o : Option GoalRow) → atom_among n.name number n.goals m ≡ o → or_else o (new_goal_of number ns m) ≡ Some r → (new_goal_of number ns m ≡ Some r → IsIn m (names_drawn ns)) → IsIn m (names_drawn (n ∷ ns))
    on None q e k = inr (in_append m (map (λ (x : Name × Atom). x.0) n.goals) (names_drawn ns) (k e))
    on (Some s) q e k = inr (in_left m (map (λ (x : Name × Atom). x.0) n.goals) (names_drawn ns) (among_in n.name number n.goals m s q))

not_new : (T : Table) (number : ℕ) (news : List laws.NewBox) (g home : Name) → IsFresh T (names_drawn news) → home_in (T.goal_of g) ≡ Some home → new_goal_of number news g ≡ None
not_new T number news g home f h = on (new_goal_of number news g) refl
  where
    on : (o : Option GoalRow) → new_goal_of number news g ≡ o → o ≡ None
    on None e = refl
    on (Some r) e = let z : T.goal_of g ≡ None = f.no_goal g (drawn_goal number news g r e) in let k : None ≡ Some home = ap home_in (sym z) ∙ h in cc

names_of : (nodes : List Node) (news : List NewBox) → map (λ (n : NewBox). n.name) news ≡ map (λ (n : laws.NewBox). n.name) (map (new_box nodes) news)
names_of nodes [] = refl
names_of nodes (n ∷ ns) = ap (λ (ns : List Name). n.name ∷ ns) (names_of nodes ns)

-- a row that changes beneath others
pub set_beneath : (over at now : Name → Option GoalRow) (g : Name) (change : GoalRow → GoalRow) → over g ≡ None → ((m : Name) → now m ≡ or_else (over m) (at m)) → (m : Name)
    → set g (option_map change (now g)) now m ≡ or_else (over m) (set g (option_map change (at g)) at m)
set_beneath over at now g change none is m = on (same_name m g) refl
  where
    here : now g ≡ at g
    here = is g ∙ ap (λ (o : Option GoalRow). or_else o (at g)) none

    on : (b : Bool) → same_name m g ≡ b → (if b then option_map change (now g) else now m) ≡ or_else (over m) (if b then option_map change (at g) else at m)
    on true q = ap (option_map change) here ∙ sym (ap (λ (o : Option GoalRow). or_else o (option_map change (at g))) (ap over (same_name-equal m g q) ∙ none))
    on false q = is m

-- the box of the choice
same_row : (at : Name → Option BoxRow) (home m : Name) → set home (option_map (λ (r : BoxRow). r) (at home)) at m ≡ at m
same_row at home m = on (same_name m home) refl
  where
    same : (o : Option BoxRow) → option_map (λ (r : BoxRow). r) o ≡ o
    same None = refl
    same (Some r) = refl

    on : (b : Bool) → same_name m home ≡ b → (if b then option_map (λ (r : BoxRow). r) (at home) else at m) ≡ at m
    on true q = same (at home) ∙ ap at (sym (same_name-equal m home q))
    on false q = refl

box_made : (T : Table) (g home : Name) (op : HeldOp) (at : Option ℕ) (number : ℕ) (nodes : List Node) (news : List NewBox) (now : Name → Option BoxRow) → ((m : Name) → now m ≡ boxes_with g at number (map (new_box nodes) news) T m) → (m : Name)
    → changed_box (home_if_empty home op news) (failing_row g) now m ≡ or_else (new_box_of g at number (map (new_box nodes) news) m) (changed_box (Some home) (failing_by g (op_held nodes op) (map (new_box nodes) news)) T.box_of m)
box_made T g home HeldOp.Condition at number nodes [] now is m = λ i. if same_name m home then option_map (failing_row g) (is home i) else is m i
box_made T g home HeldOp.Commit at number nodes [] now is m = λ i. if same_name m home then option_map (failing_row g) (is home i) else is m i
box_made T g home HeldOp.Choice at number nodes [] now is m = λ i. if same_name m home then option_map (failing_row g) (is home i) else is m i
box_made T g home (HeldOp.Collect t) at number nodes [] now is m = is m ∙ sym (same_row T.box_of home m)
box_made T g home HeldOp.Condition at number nodes (n ∷ ns) now is m = is m ∙ ap (or_else (new_box_of g at number (map (new_box nodes) (n ∷ ns)) m)) (sym (same_row T.box_of home m))
box_made T g home HeldOp.Commit at number nodes (n ∷ ns) now is m = is m ∙ ap (or_else (new_box_of g at number (map (new_box nodes) (n ∷ ns)) m)) (sym (same_row T.box_of home m))
box_made T g home HeldOp.Choice at number nodes (n ∷ ns) now is m = is m ∙ ap (or_else (new_box_of g at number (map (new_box nodes) (n ∷ ns)) m)) (sym (same_row T.box_of home m))
box_made T g home (HeldOp.Collect t) at number nodes (n ∷ ns) now is m = is m ∙ ap (or_else (new_box_of g at number (map (new_box nodes) (n ∷ ns)) m)) (sym (same_row T.box_of home m))

module _ (t u v w : TableValue) (g home : Name) (op : HeldOp) (news : List NewBox) (at : Option ℕ) (number worker count : ℕ) (names : List Name) (next : List ℕ) where
  pub forked : number ≡ t.steps + 1 → IsFresh (table_of t) (names_drawn (map (new_box t.program.templates.nodes) news)) → Some home ≡ home_in ((table_of t).goal_of g)
      → names ≡ map (λ (n : NewBox). n.name) news → ((k : ℕ) → slice_index next k ≡ slice_index (raised worker count t.next) k)
      → SetsRows t u (boxes_with g at number (map (new_box t.program.templates.nodes) news) (table_of t)) (goals_with number (map (new_box t.program.templates.nodes) news) (table_of t))
      → SetsGoals u v (set g (option_map (choice_row (op_held u.program.templates.nodes op) names number) ((table_of u).goal_of g)) (table_of u).goal_of)
      → SetsBoxes v w (changed_box (home_if_empty home op news) (failing_row g) (table_of v).box_of)
      → Becomes t (record w { next = next; steps = number }) (after_fork g (op_held t.program.templates.nodes op) (map (new_box t.program.templates.nodes) news) at worker count (table_of t))
  forked n f h ns nx a b d =
      let nodes : List Node = t.program.templates.nodes in
      let all : List laws.NewBox = map (new_box t.program.templates.nodes) news in
      let k : v ≡ record t { boxes = u.boxes; goals = v.goals } = b.rest ∙ ap (λ (x : TableValue). record x { goals = v.goals }) a.rest in
      let r : w ≡ record t { boxes = w.boxes; goals = v.goals } = d.rest ∙ ap (λ (x : TableValue). record x { boxes = w.boxes }) k in
      let boxes_v : (m : Name) → (table_of v).box_of m ≡ boxes_with g at number all (table_of t) m = λ m. ap (λ (x : TableValue). (table_of x).box_of m) b.rest ∙ a.boxes m in
      let alike : u.program ≡ t.program = ap (λ (x : TableValue). x.program) a.rest in
      let row : choice_row (op_held u.program.templates.nodes op) names number ≡ forked_row (op_held t.program.templates.nodes op) all number =
      (λ i. choice_row (op_held (alike i).templates.nodes op) ((ns ∙ names_of nodes news) i) number) in
      record {
        program = ap (λ (x : TableValue). x.program) r;
        query = ap (λ (x : TableValue). x.query) r;
        marks = ap (λ (x : TableValue). x.marks) r;
        table = record {
          nodes = ap (λ (x : TableValue). x.program.templates.nodes) r;
          boxes = λ m. d.rows m ∙ box_made (table_of t) g home op at number nodes news (table_of v).box_of boxes_v m
              ∙ ap (λ (o : Option Name). or_else (new_box_of g at number all m) (changed_box o (failing_by g (op_held nodes op) all) (table_of t).box_of m)) h
              ∙ ap (λ (x : ℕ). or_else (new_box_of g at x all m) (changed_box (home_in ((table_of t).goal_of g)) (failing_by g (op_held nodes op) all) (table_of t).box_of m)) n;
          goals = λ m. ap (λ (x : TableValue). (table_of x).goal_of m) d.rest ∙ b.rows m
              ∙ set_beneath (new_goal_of number all) (table_of t).goal_of (table_of u).goal_of g (choice_row (op_held u.program.templates.nodes op) names number) (not_new (table_of t) number all g home f (sym h)) a.goals m
              ∙ ap (λ (change : GoalRow → GoalRow). or_else (new_goal_of number all m) (set g (option_map change ((table_of t).goal_of g)) (table_of t).goal_of m)) row
              ∙ ap (λ (x : ℕ). or_else (new_goal_of x all m) (set g (option_map (forked_row (op_held t.program.templates.nodes op) all x) ((table_of t).goal_of g)) (table_of t).goal_of m)) n;
          roots = ap (λ (x : TableValue). x.roots) r;
          roots_changed = ap (λ (x : TableValue). x.roots_changed) r;
          next = nx;
          steps = n;
        };
      }

-- where no row is there, no entry is
pub fresh_boxes : (t : TableValue) (names : List Name) → IsFresh (table_of t) names → (m : Name) → IsIn m names → lookup (same_name m) t.boxes ≡ None
fresh_boxes t names f m i = map_none _ (lookup (same_name m) t.boxes) (f.no_box m i)

pub fresh_goals : (t : TableValue) (names : List Name) → IsFresh (table_of t) names → (m : Name) → IsIn m names → lookup (same_name m) t.goals ≡ None
fresh_goals t names f m i = map_none _ (lookup (same_name m) t.goals) (f.no_goal m i)
