-- The alternatives of a choice join the box in which the choice stands.
use Rattle.std.proofs.Common.{◌≡◌, ℕ, ◌+◌, ◌≤◌, Bool, true, false, ◌<◌, List, [], ◌∷◌, length, drop, get_or, map, slice_index, Option, Some, None, refl, sym, ap, subst, ◌∙◌}
use Rattle.std.specs.Prelude.{if◌then◌else◌, option_map, option_and_then}
use Rattle.std.proofs.lemmas.List.{drop_more, drop_all}
use Rattle.std.specs.Option.{option_or}
use Rattle.akl_terms.specs.declared.name.Name.{Name}
use Rattle.akl_terms.specs.declared.name.Place.{Place}
use Rattle.akl_terms.specs.declared.program.Goal.{Goal}
use Rattle.akl_terms.specs.Names.{same_name}
use Rattle.akl_terms.proofs.SameNames.{same_name-equal}
use Rattle.akl_model.specs.Config.{IsIn, Atom, Held, held_in, Found, box_at, home_of, or_else, with_names}
use Rattle.akl_model.specs.Changes.{shape_of}
use Rattle.akl_model.specs.Derivations.{raised}
use Rattle.akl_model.specs.Ordered.{IsIncreasing, BoxesOrdered}
use Rattle.akl_model.proofs.Finds.{times}
use Rattle.akl_model.proofs.NamesKept.{replay-stands}
use Rattle.akl_model.proofs.OrdersKept.{replay_ordered}
use Rattle.step_laws.proofs.Whereabouts.{found_in, in_home}
use Rattle.local_store.specs.Stored.{Stored}
use Rattle.local_store.specs.Parts.{with_part}
use Rattle.table_laws.specs.Calls.{called_row, after_call}
use Rattle.table_laws.specs.Rows.{BoxRow, GoalRow, Table, store_in}
use Rattle.table_laws.specs.Walks.{alternatives_of}
use Rattle.table_laws.specs.Unfolds.{IsBoxRow}
use Rattle.table_laws.specs.Writes.{set, unset, home_in, home_or, less_name, changed_box, told_row, first_fail, or_fails, atom_among, after_tell, IsFresh}
use Rattle.table_laws.proofs.Frame.{found_of}
use Rattle.table_laws.proofs.Insides.{goal_row, held_directly}
use Rattle.box_tree.specs.declared.telling.Told.{Told}
use Rattle.box_tree.specs.Tables.{TableValue, table_of, goals_in, store_at, all_rules}
use Rattle.box_tree.specs.Edits.{SetsBoxes, SetsGoals, SetsRows, Becomes, told_first, part_row, AreNew, named_row, joins_row, named_atoms, atoms_with}
use Rattle.box_tree.specs.Drops.{IsOfRun}
use Rattle.box_tree.proofs.GoalsInOrder.{names_increase, stood_ordered}
use Rattle.box_tree.proofs.News.{firsts, names_atoms}
use Rattle.box_tree.proofs.Forked.{among_in}
use Rattle.box_tree.proofs.Naming.{less_with_names}

module _ (t : TableValue) (run : IsOfRun t) where
  once : (m : Name) → times m run.1.config.roots ≤ 1
  once = (replay-stands all_rules run.0.program run.0.query run.0.journal run.1.config run.1.replays).once

  pub goals_increase : (home : Name) (r : BoxRow) → (table_of t).box_of home ≡ Some r → IsIncreasing r.goals
  goals_increase home r e =
      let w : (f : Found) × (box_at home run.1.config.roots ≡ Some f) × IsBoxRow (table_of t) run.1.config.roots f r = found_of (table_of t) run.1.config run.1.unfolds home r e in
      let o : BoxesOrdered run.1.config.roots = replay_ordered all_rules run.0.program run.0.query run.0.journal run.1.config run.1.replays in
      subst IsIncreasing (sym w.2.goals) (names_increase w.0.goals (stood_ordered w.0.around w.0.content w.0.goals run.1.config.roots (found_in home run.1.config.roots w.0 w.1) o))

  -- drawn names are no names of goals that are there
  pub fresh_new : (home : Name) (names : List Name) → IsFresh (table_of t) names → AreNew names (goals_in ((table_of t).box_of home))
  fresh_new home names f = record { once = f.once; apart = λ m i j. on m i ((table_of t).box_of home) refl j }
    where
      on : (m : Name) → IsIn m names → (o : Option BoxRow) → (table_of t).box_of home ≡ o → IsIn m (goals_in o) → ⊥
      on m i None e j = j
      on m i (Some r) e j =
          let w : (f : Found) × (box_at home run.1.config.roots ≡ Some f) × IsBoxRow (table_of t) run.1.config.roots f r = found_of (table_of t) run.1.config run.1.unfolds home r e in
          let h : (h : Held) × (held_in m w.0.goals ≡ Some h) = held_directly (table_of t) run.1.config run.1.unfolds once home m w.0 w.1 (record { row = r; there = e; named = j }) in
          let there : home_of m run.1.config.roots ≡ Some w.0 = in_home m h.0 run.1.config.roots w.0 once (found_in home run.1.config.roots w.0 w.1) h.1 in
          let g : (r : GoalRow) × ((table_of t).goal_of m ≡ Some r) × (r.home ≡ w.0.content.name) × (r.shape ≡ shape_of h.0) = goal_row (table_of t) run.1.config run.1.unfolds once m w.0 h.0 there h.1 in
          let z : (table_of t).goal_of m ≡ None = f.no_goal m i in
          let y : (table_of t).goal_of m ≡ Some g.0 = g.1 in
          absurd cc

-- where a box's own store is what a change takes
pub own_store : (change : Stored → BoxRow → BoxRow) (home : Option Name) (at : Name → Option BoxRow) (m : Name) → changed_box home (λ r. change r.store r) at m ≡ changed_box home (change (store_in (option_and_then at home))) at m
own_store change None at m = refl
own_store change (Some n) at m = ap (λ (o : Option BoxRow). if same_name m n then o else at m) (same (at n))
  where
    same : (o : Option BoxRow) → option_map (λ (r : BoxRow). change r.store r) o ≡ option_map (change (store_in o)) o
    same None = refl
    same (Some r) = refl

-- changes that make the same of the row that is there
alike : (home : Name) (f h : BoxRow → BoxRow) (at : Name → Option BoxRow) → ((r : BoxRow) → at home ≡ Some r → f r ≡ h r) → (m : Name) → changed_box (Some home) f at m ≡ changed_box (Some home) h at m
alike home f h at row m = ap (λ (o : Option BoxRow). if same_name m home then o else at m) (both (at home) refl)
  where
    both : (o : Option BoxRow) → at home ≡ o → option_map f o ≡ option_map h o
    both None e = refl
    both (Some r) e = ap (λ (k : BoxRow). Some k) (row r e)

or_first : (o failing : Option Name) (goals : List (Name × Atom)) → failing ≡ first_fail goals → option_or o failing ≡ or_fails o goals
or_first None failing goals e = e
or_first (Some g) failing goals e = refl

home_is : (o : Option GoalRow) (home g : Name) → Some home ≡ home_in o → home ≡ home_or o g
home_is None home g e = cc
home_is (Some r) home g e = cc

not_among : (T : Table) (home h : Name) (number : ℕ) (goals : List (Name × Atom)) (g : Name) → IsFresh T (map (λ (x : Name × Atom). x.0) goals) → Some h ≡ home_in (T.goal_of g) → atom_among home number goals g ≡ None
not_among T home h number goals g f e = on (atom_among home number goals g) refl
  where
    on : (o : Option GoalRow) → atom_among home number goals g ≡ o → o ≡ None
    on None q = refl
    on (Some r) q = let z : T.goal_of g ≡ None = f.no_goal g (among_in home number goals g r q) in let k : Some h ≡ None = e ∙ ap home_in z in cc

goal_rows : (T : Table) (home : Name) (number : ℕ) (goals : List (Name × Atom)) (g m : Name) → atom_among home number goals g ≡ None
    → (if same_name m g then None else or_else (atom_among home number goals m) (T.goal_of m)) ≡ or_else (atom_among home number goals m) (set g None T.goal_of m)
goal_rows T home number goals g m none = on (same_name m g) refl
  where
    on : (b : Bool) → same_name m g ≡ b → (if b then None else or_else (atom_among home number goals m) (T.goal_of m)) ≡ or_else (atom_among home number goals m) (if b then None else T.goal_of m)
    on true q = sym (ap (λ (o : Option GoalRow). or_else o None) (ap (atom_among home number goals) (same_name-equal m g q) ∙ none))
    on false q = refl

unset_alike : (ns : List Name) (at now : Name → Option BoxRow) → ((m : Name) → at m ≡ now m) → (m : Name) → unset ns at m ≡ unset ns now m
unset_alike [] at now h m = h m
unset_alike (n ∷ ns) at now h m = ap (λ (r : Option BoxRow). if same_name m n then None else r) (unset_alike ns at now h m)

-- what is left to do comes to the same where the first one goes
pub unset_first : (n : Name) (ns : List Name) (at : Name → Option BoxRow) (m : Name) → unset ns (set n None at) m ≡ unset (n ∷ ns) at m
unset_first n [] at m = refl
unset_first n (k ∷ ks) at m = ap (λ (r : Option BoxRow). if same_name m k then None else r) (unset_first n ks at m) ∙ turn (same_name m k) (same_name m n)
  where
    turn : (a b : Bool) → (if a then None else (if b then None else unset ks at m)) ≡ (if b then None else (if a then None else unset ks at m))
    turn true true = refl
    turn true false = refl
    turn false true = refl
    turn false false = refl

-- from t to u the first of these boxes have gone, those before the rest
pub record IsUnsetBy (t u : TableValue) (names left : List Name) : Type 0 where
  pub rows : (m : Name) → unset left (table_of u).box_of m ≡ unset names (table_of t).box_of m
  pub rest : u ≡ record t { boxes = u.boxes }

pub unset_more : (t u v : TableValue) (names : List Name) (at : ℕ) (d : Name) → at < length names → IsUnsetBy t u names (drop at names) → SetsBoxes u v (set (get_or names at d) None (table_of u).box_of) → IsUnsetBy t v names (drop (at + 1) names)
unset_more t u v names at d l a b = record {
  rows = λ m. unset_alike (drop (at + 1) names) (table_of v).box_of (set (get_or names at d) None (table_of u).box_of) b.rows m ∙ unset_first (get_or names at d) (drop (at + 1) names) (table_of u).box_of m
      ∙ ap (λ (ns : List Name). unset ns (table_of u).box_of m) (sym (drop_more names at d l)) ∙ a.rows m;
  rest = b.rest ∙ ap (λ (k : TableValue). record k { boxes = v.boxes }) a.rest;
}

pub unset_all : (t u : TableValue) (names : List Name) (at : ℕ) → length names ≤ at → IsUnsetBy t u names (drop at names) → SetsBoxes t u (unset names (table_of t).box_of)
unset_all t u names at l a = record { rows = λ m. ap (λ (ns : List Name). unset ns (table_of u).box_of m) (sym (drop_all at names l)) ∙ a.rows m; rest = a.rest }

module _ (t : TableValue) (g home : Name) (told : Told) (goals : List (Name × Goal)) (ended : ℕ) where
  row_joins : IsFresh (table_of t) (map (λ (y : Name × Atom). y.0) (named_atoms t.program.templates.nodes goals)) → Some home ≡ home_in ((table_of t).goal_of g) → (store : Stored) (r : BoxRow) → IsIncreasing r.goals
      → told_first g store told.solved_at told.number ended (named_row (firsts goals) (first_fail (named_atoms t.program.templates.nodes goals)) r) ≡ called_row g store told.solved_at (named_atoms t.program.templates.nodes goals) told.number ended r
  row_joins f h store r o =
      let same : firsts goals ≡ map (λ (y : Name × Atom). y.0) (named_atoms t.program.templates.nodes goals) = sym (names_atoms t.program.templates.nodes goals) in
      let gs : less_name g (with_names (firsts goals) r.goals) ≡ with_names (map (λ (y : Name × Atom). y.0) (named_atoms t.program.templates.nodes goals)) (less_name g r.goals) =
      sym (less_with_names g (firsts goals) r.goals (λ m i e. drawn m (subst (IsIn m) same i) e) o) ∙ ap (λ (ms : List Name). with_names ms (less_name g r.goals)) same in
      let fails : option_or r.failing (first_fail (named_atoms t.program.templates.nodes goals)) ≡ or_fails r.failing (named_atoms t.program.templates.nodes goals) = or_first r.failing _ (named_atoms t.program.templates.nodes goals) refl in
      λ i. record r { store = store; changed = told.number; solved_at = told.solved_at; goals = gs i; goals_changed = ended; failing = fails i }
    where
      drawn : (m : Name) → IsIn m (map (λ (y : Name × Atom). y.0) (named_atoms t.program.templates.nodes goals)) → g ≡ m → ⊥
      drawn m i e = let z : (table_of t).goal_of g ≡ None = ap (table_of t).goal_of e ∙ f.no_goal m i in let k : Some home ≡ None = h ∙ ap home_in z in cc

  -- what becomes of the rows of boxes
  boxes_join : IsFresh (table_of t) (map (λ (y : Name × Atom). y.0) (named_atoms t.program.templates.nodes goals)) → Some home ≡ home_in ((table_of t).goal_of g) → ((r : BoxRow) → (table_of t).box_of home ≡ Some r → IsIncreasing r.goals) → (m : Name)
      → changed_box (Some home) (joins_row g (firsts goals) (first_fail (named_atoms t.program.templates.nodes goals)) told ended) (table_of t).box_of m
      ≡ changed_box (home_in ((table_of t).goal_of g)) (called_row g (with_part (store_at (table_of t) (Place.Goal g)) told.part) told.solved_at (named_atoms t.program.templates.nodes goals) told.number ended) (table_of t).box_of m
  boxes_join f h o m =
      own_store (λ s r. told_first g (with_part s told.part) told.solved_at told.number ended (named_row (firsts goals) (first_fail (named_atoms t.program.templates.nodes goals)) r)) (Some home) (table_of t).box_of m
      ∙ alike home (told_first_named (with_part (store_in ((table_of t).box_of home)) told.part)) (called_row g (with_part (store_in ((table_of t).box_of home)) told.part) told.solved_at (named_atoms t.program.templates.nodes goals) told.number ended) (table_of t).box_of
      (λ r q. row_joins f h (with_part (store_in ((table_of t).box_of home)) told.part) r (o r q)) m
      ∙ ap (λ (k : Option Name). changed_box k (called_row g (with_part (store_in (option_and_then (table_of t).box_of k)) told.part) told.solved_at (named_atoms t.program.templates.nodes goals) told.number ended) (table_of t).box_of m) h
    where
      told_first_named : Stored → BoxRow → BoxRow
      told_first_named s r = told_first g s told.solved_at told.number ended (named_row (firsts goals) (first_fail (named_atoms t.program.templates.nodes goals)) r)

module _ (t u w x : TableValue) (g home : Name) (told : Told) (goals : List (Name × Goal)) (promoted ended worker count : ℕ) (next : List ℕ) where
  pub joined : IsFresh (table_of t) (map (λ (y : Name × Atom). y.0) (named_atoms t.program.templates.nodes goals)) → Some home ≡ home_in ((table_of t).goal_of g)
      → ((r : BoxRow) → (table_of t).box_of home ≡ Some r → IsIncreasing r.goals) → ((k : ℕ) → slice_index next k ≡ slice_index (raised worker count t.next) k)
      → SetsRows t u (changed_box (Some home) (joins_row g (firsts goals) (first_fail (named_atoms t.program.templates.nodes goals)) told ended) (table_of t).box_of) (atoms_with home promoted (named_atoms t.program.templates.nodes goals) (table_of t))
      → SetsGoals u w (set g None (table_of u).goal_of) → (alternatives : List Name) → alternatives ≡ alternatives_of ((table_of t).goal_of g) → SetsBoxes w x (unset alternatives (table_of w).box_of)
      → Becomes t (record x { next = next; steps = ended })
      (after_call g (with_part (store_at (table_of t) (Place.Goal g)) told.part) told.solved_at (named_atoms t.program.templates.nodes goals) worker count promoted told.number ended (table_of t))
  joined f h o nx a d alternatives known e =
      let all : List (Name × Atom) = named_atoms t.program.templates.nodes goals in
      let wt : w ≡ record t { boxes = u.boxes; goals = w.goals } = d.rest ∙ ap (λ (k : TableValue). record k { goals = w.goals }) a.rest in
      let rest : x ≡ record t { boxes = x.boxes; goals = w.goals } = e.rest ∙ ap (λ (k : TableValue). record k { boxes = x.boxes }) wt in
      record {
        program = ap (λ (k : TableValue). k.program) rest;
        query = ap (λ (k : TableValue). k.query) rest;
        marks = ap (λ (k : TableValue). k.marks) rest;
        table = record {
          nodes = ap (λ (k : TableValue). k.program.templates.nodes) rest;
          boxes = λ m. e.rows m ∙ ap (λ (ks : List Name). unset ks (table_of w).box_of m) known ∙ unset_alike (alternatives_of ((table_of t).goal_of g)) (table_of w).box_of
              (changed_box (home_in ((table_of t).goal_of g)) (called_row g (with_part (store_at (table_of t) (Place.Goal g)) told.part) told.solved_at (named_atoms t.program.templates.nodes goals) told.number ended) (table_of t).box_of) (λ i.
              ap (λ (k : TableValue). (table_of k).box_of i) d.rest ∙ a.boxes i ∙ boxes_join t g home told goals ended f h o i) m;
          goals = λ m. ap (λ (k : TableValue). (table_of k).goal_of m) e.rest ∙ d.rows m
              ∙ ap (λ (r : Option GoalRow). if same_name m g then None else r) (a.goals m)
              ∙ goal_rows (table_of t) home promoted all g m (not_among (table_of t) home home promoted all g f h)
              ∙ ap (λ (k : Name). or_else (atom_among k promoted all m) (set g None (table_of t).goal_of m)) (home_is ((table_of t).goal_of g) home g h);
          roots = ap (λ (k : TableValue). k.roots) rest;
          roots_changed = ap (λ (k : TableValue). k.roots_changed) rest;
          next = nx;
          steps = refl;
        };
      }

-- a goal tells its box, and goes
module _ (t u w : TableValue) (g : Name) (told : Told) (worker count : ℕ) (next : List ℕ) where
  pub tells : told.number ≡ t.steps + 1 → ((k : ℕ) → slice_index next k ≡ slice_index (raised worker count t.next) k)
      → SetsBoxes t u (changed_box (home_in ((table_of t).goal_of g)) (part_row g told told.number) (table_of t).box_of) → SetsGoals u w (set g None (table_of u).goal_of)
      → Becomes t (record w { next = next; steps = told.number }) (after_tell g (with_part (store_at (table_of t) (Place.Goal g)) told.part) told.solved_at worker count (table_of t))
  tells number nx a b =
      let rest : w ≡ record t { boxes = u.boxes; goals = w.goals } = b.rest ∙ ap (λ (k : TableValue). record k { goals = w.goals }) a.rest in
      record {
        program = ap (λ (k : TableValue). k.program) rest;
        query = ap (λ (k : TableValue). k.query) rest;
        marks = ap (λ (k : TableValue). k.marks) rest;
        table = record {
          nodes = ap (λ (k : TableValue). k.program.templates.nodes) rest;
          boxes = λ m. ap (λ (k : TableValue). (table_of k).box_of m) b.rest ∙ a.rows m
              ∙ own_store (λ s r. told_first g (with_part s told.part) told.solved_at told.number told.number r) (home_in ((table_of t).goal_of g)) (table_of t).box_of m
              ∙ ap (λ (n : ℕ). changed_box (home_in ((table_of t).goal_of g)) (told_row g (with_part (store_at (table_of t) (Place.Goal g)) told.part) told.solved_at n) (table_of t).box_of m) number;
          goals = λ m. b.rows m ∙ ap (λ (k : TableValue). set g None (table_of k).goal_of m) a.rest;
          roots = ap (λ (k : TableValue). k.roots) rest;
          roots_changed = ap (λ (k : TableValue). k.roots_changed) rest;
          next = nx;
          steps = number;
        };
      }
