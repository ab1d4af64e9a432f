-- The query's goals and what its box shows, one after another.
use Rattle.std.proofs.Common.{◌≡◌, ℕ, zero, suc, ◌+◌, ◌<◌, List, [], ◌∷◌, ◌++◌, length, map, get_or, Option, Some, None, Bool, true, false, refl, sym, ◌∙◌, ap, subst, inl, inr, arith}
use Rattle.std.specs.Prelude.{slice_get, slice_index, option_map, if◌then◌else◌}
use Rattle.std.specs.Map.{lookup}
use Rattle.std.proofs.lemmas.Bool.Decides.{nat_tests}
use Rattle.akl_terms.specs.Names.{same_name, is_before}
use Rattle.std.proofs.lemmas.List.{map-append}
use Rattle.akl_terms.specs.declared.name.Name.{Name}
use Rattle.akl_terms.specs.declared.name.Place.{Place}
use Rattle.akl_model.specs.Wakes.{IsOneOf}
use Rattle.akl_terms.specs.declared.term.Node.{Node}
use Rattle.akl_terms.specs.declared.term.Term.TheVariants.{Mol}
use Rattle.akl_terms.specs.declared.program.Code.{Code}
use Rattle.akl_terms.specs.declared.program.Goal.{Goal}
use Rattle.akl_terms.specs.declared.program.Program.{Program}
use Rattle.akl_terms.specs.declared.program.Query.{Query}
use Rattle.akl_terms.specs.declared.program.Shown.{Shown}
use Rattle.akl_terms.specs.declared.program.ShownTerm.{ShownTerm}
use Rattle.akl_terms.specs.Tree.{variable}
use Rattle.akl_terms.specs.Template.{tree, tree_at, tree_seen, seen_node}
use Rattle.akl_model.specs.Config.{Atom, ShownTree, or_else}
use Rattle.akl_model.specs.Instances.{atoms_of, shown_of}
use Rattle.akl_model.specs.Ordered.{IsIncreasing, IsBeforeAll}
use Rattle.table_laws.specs.Writes.{IsTable, set, atom_among, first_fail}
use Rattle.table_laws.specs.Laws.{named_from, first_row, started}
use Rattle.table_laws.specs.Rows.{GoalRow}
use Rattle.box_tree.specs.declared.entries.Held.{Held}
use Rattle.box_tree.specs.declared.entries.BoxEntry.{BoxEntry}
use Rattle.box_tree.specs.declared.entries.GoalEntry.{GoalEntry}
use Rattle.box_tree.specs.Tables.{TableValue, table_of, box_row, goal_row, goal_atom, HasVariables, AreBelow, shown_tree}
use Rattle.box_tree.specs.Edits.{named_atoms, named_shapes, shapes_with, SetsRows}
use Rattle.box_tree.specs.Starts.{query_box, query_frame, goals_from, IsFirstEntry, IsEmpty}
use Rattle.box_tree.proofs.News.{names_atoms, atom_shapes}

-- goals

pub goals_more : (n : ℕ) (cs : List Code) (c : Code) → goals_from n (cs ++ c ∷ []) ≡ goals_from n cs ++ (record { worker = 0; number = n + length cs }, record { code = c; frame = query_frame }) ∷ []
goals_more n [] c = let e : n + 0 ≡ n = omega arith in ap (λ (k : ℕ). (record { worker = 0; number = k }, record { code = c; frame = query_frame }) ∷ []) (sym e)
goals_more n (d ∷ ds) c =
    let e : (1 + n) + length ds ≡ n + length (d ∷ ds) = omega arith in
    ap (λ (xs : List (Name × Goal)). (record { worker = 0; number = n }, record { code = d; frame = query_frame }) ∷ xs)
    (goals_more (1 + n) ds c ∙ ap (λ (k : ℕ). goals_from (1 + n) ds ++ (record { worker = 0; number = k }, record { code = c; frame = query_frame }) ∷ []) e)

pub atoms_named : (nodes : List Node) (n : ℕ) (cs : List Code) → named_atoms nodes (goals_from n cs) ≡ named_from n (atoms_of nodes query_frame cs)
atoms_named nodes n [] = refl
atoms_named nodes n (c ∷ cs) = ap (λ (xs : List (Name × Atom)). (record { worker = 0; number = n }, goal_atom nodes (record { code = c; frame = query_frame })) ∷ xs) (atoms_named nodes (1 + n) cs)

pub goals_count : (n : ℕ) (cs : List Code) → length (goals_from n cs) ≡ length cs
goals_count n [] = refl
goals_count n (c ∷ cs) = ap suc (goals_count (1 + n) cs)

-- shown terms

pub below_at : (n : ℕ) (ss : List Shown) (i : ℕ) (d : Shown) → AreBelow n ss → i < length ss → d ≡ get_or ss i d → d.index < n
below_at n [] i d a h e = absurd (omega arith)
below_at n (s ∷ ss) zero d a h e = subst (λ (x : Shown). x.index < n) (sym e) a.0
below_at n (s ∷ ss) (suc i) d a h e = below_at n ss i d a.1 (omega arith) e

variable_node : (nodes : List Node) (at i : ℕ) (f : Name) → slice_get nodes at ≡ Some (Node.Var i) → tree nodes (Mol at f) ≡ variable (record { frame = f; index = i })
variable_node nodes at i f e = ap (λ o. tree_seen (tree_at at nodes f) (seen_node f o)) e

pub shown_more : (p : Program) (q : Query) (first : ℕ) (terms : List ShownTerm) (ss : List Shown) (s : Shown) → HasVariables p q first → s.index < q.variables
    → map (shown_tree p.templates.nodes) terms ≡ map (shown_of query_frame) ss
    → map (shown_tree p.templates.nodes) (terms ++ record { name = s.name; term = Mol (first + s.index) query_frame } ∷ []) ≡ map (shown_of query_frame) (ss ++ s ∷ [])
shown_more p q first terms ss s v h e =
    map-append (shown_tree p.templates.nodes) terms (record { name = s.name; term = Mol (first + s.index) query_frame } ∷ [])
    ∙ ap (λ (xs : List ShownTree). xs ++ record { text = s.name; tree = tree p.templates.nodes (Mol (first + s.index) query_frame) } ∷ []) e
    ∙ ap (λ x. map (shown_of query_frame) ss ++ record { text = s.name; tree = x } ∷ []) (variable_node p.templates.nodes (first + s.index) s.index query_frame (v.each s.index h))
    ∙ sym (map-append (shown_of query_frame) ss (s ∷ []))

-- names in increasing order

before : (n m : ℕ) → n < m → is_before (record { worker = 0; number = n }) (record { worker = 0; number = m }) ≡ true
before n m l = grind (arith, nat_tests)

before_all : (n m : ℕ) (cs : List Code) → n < m → IsBeforeAll (record { worker = 0; number = n }) (map (λ (x : Name × Goal). x.0) (goals_from m cs))
before_all n m [] l = tt
before_all n m (c ∷ cs) l = (before n m l, before_all n (1 + m) cs (omega arith))

pub goals_increase : (n : ℕ) (cs : List Code) → IsIncreasing (map (λ (x : Name × Goal). x.0) (goals_from n cs))
goals_increase n [] = tt
goals_increase n (c ∷ cs) = (before_all n (1 + n) cs (omega arith), goals_increase (1 + n) cs)

-- the table of the query's box

none_set : {A : Type 0} (n m : Name) (r s : Option A) (at : Name → Option A) → r ≡ s → at m ≡ None → set n r at m ≡ set n s (λ k. None) m
none_set n m r s at e f = on (same_name m n)
  where
    on : (b : Bool) → (if b then r else at m) ≡ (if b then s else None)
    on true = e
    on false = f

or_none : {A : Type 0} (o y : Option A) → y ≡ None → or_else o y ≡ o
or_none None y e = e
or_none (Some a) y e = refl

module _ (p : Program) (q : Query) (goals : List (Name × Goal)) (shown : List ShownTerm) (e : BoxEntry) (t v : TableValue) (count : ℕ) (empty : IsEmpty p q count t)
    (puts : SetsRows t v (set query_box (Some (box_row t.program.templates.nodes e)) (table_of t).box_of) (shapes_with query_box 0 (named_shapes Held.Atom t.program.templates.nodes goals) (table_of t))) (entry : IsFirstEntry goals shown e)
    (are : goals ≡ goals_from 2 q.goals) (counted : count ≡ length goals) (shows : map (shown_tree p.templates.nodes) shown ≡ map (shown_of query_frame) q.shown) where
  pub program_is : v.program ≡ p
  program_is = ap (λ (k : TableValue). k.program) puts.rest ∙ empty.program

  pub query_is : v.query ≡ q
  query_is = ap (λ (k : TableValue). k.query) puts.rest ∙ empty.query

  boxes_none : (m : Name) → (table_of t).box_of m ≡ None
  boxes_none m = ap (λ (es : List (Name × BoxEntry)). option_map (box_row t.program.templates.nodes) (lookup (same_name m) es)) empty.boxes

  goals_none : (m : Name) → (table_of t).goal_of m ≡ None
  goals_none m = ap (λ (es : List (Name × GoalEntry)). option_map (goal_row t.program.templates.nodes) (lookup (same_name m) es)) empty.no_goals

  atoms : named_atoms p.templates.nodes goals ≡ named_from 2 (atoms_of p.templates.nodes query_frame q.goals)
  atoms = ap (named_atoms p.templates.nodes) are ∙ atoms_named p.templates.nodes 2 q.goals

  names : map (λ (x : Name × Goal). x.0) goals ≡ map (λ (x : Name × Atom). x.0) (named_from 2 (atoms_of p.templates.nodes query_frame q.goals))
  names = sym (names_atoms p.templates.nodes goals) ∙ ap (map (λ (x : Name × Atom). x.0)) atoms

  row : box_row p.templates.nodes e ≡ first_row p q
  row = λ i. record {
    holder = entry.holder i;
    store = entry.store i;
    changed = entry.changed i;
    solved_at = entry.solved_at i;
    goals = (entry.names ∙ names) i;
    goals_changed = entry.goals_changed i;
    failing = (entry.failing p.templates.nodes ∙ ap first_fail atoms) i;
    body = ap (map (goal_atom p.templates.nodes)) entry.body i;
    shown = (ap (map (shown_tree p.templates.nodes)) entry.shows ∙ shows) i;
    collected = ap (option_map (tree p.templates.nodes)) entry.collects i;
  }

  row_is : Some (box_row t.program.templates.nodes e) ≡ Some (first_row p q)
  row_is = ap (λ (k : Program). Some (box_row k.templates.nodes e)) empty.program ∙ ap Some row

  pub begun : IsTable (table_of v) (started p q)
  begun = record {
    nodes = ap (λ (k : Program). k.templates.nodes) program_is;
    boxes = λ m. puts.boxes m ∙ none_set query_box m (Some (box_row t.program.templates.nodes e)) (Some (first_row p q)) (table_of t).box_of row_is (boxes_none m);
    goals = λ m. puts.goals m ∙ ap (λ (o : Option GoalRow). or_else o ((table_of t).goal_of m)) (atom_shapes query_box 0 t.program.templates.nodes goals m)
        ∙ or_none (atom_among query_box 0 (named_atoms t.program.templates.nodes goals) m) ((table_of t).goal_of m) (goals_none m)
        ∙ ap (λ (k : Program). atom_among query_box 0 (named_atoms k.templates.nodes goals) m) empty.program ∙ ap (λ (xs : List (Name × Atom)). atom_among query_box 0 xs m) atoms;
    roots = ap (λ (k : TableValue). k.roots) puts.rest ∙ empty.roots;
    roots_changed = ap (λ (k : TableValue). k.roots_changed) puts.rest ∙ empty.roots_changed;
    next = λ w. ap (λ (ns : List ℕ). slice_index ns w) (ap (λ (k : TableValue). k.next) puts.rest ∙ empty.next
        ∙ ap (λ (k : ℕ). (2 + k) ∷ []) (counted ∙ ap length are ∙ goals_count 2 q.goals));
    steps = ap (λ (k : TableValue). k.steps) puts.rest ∙ empty.steps;
  }

-- names as places

pub keys_places : {A : Type 0} (f : Name → Place) (es : List (Name × A)) → map f (map (λ (e : Name × A). e.0) es) ≡ map (λ (e : Name × A). f e.0) es
keys_places f [] = refl
keys_places f (e ∷ es) = ap (λ (xs : List Place). f e.0 ∷ xs) (keys_places f es)

pub in_left : (place : Place) (xs ys : List Place) → IsOneOf place xs → IsOneOf place (xs ++ ys)
in_left place [] ys i = absurd i
in_left place (x ∷ xs) ys (inl e) = inl e
in_left place (x ∷ xs) ys (inr i) = inr (in_left place xs ys i)

pub in_right : (place : Place) (xs ys : List Place) → IsOneOf place ys → IsOneOf place (xs ++ ys)
in_right place [] ys i = i
in_right place (x ∷ xs) ys i = inr (in_right place xs ys i)
