-- A table of a query's one box, to which nothing was told, is one of the run without labels.
use Rattle.std.proofs.Common.{◌≡◌, ℕ, ◌+◌, ◌≤◌, List, [], ◌∷◌, map, Bool, true, false, Option, Some, None, refl, sym, ◌∙◌, ap, subst, arith}
use Rattle.std.specs.Prelude.{if◌then◌else◌, option_map, option_and_then}
use Rattle.akl_terms.specs.declared.name.Name.{Name}
use Rattle.akl_terms.specs.declared.term.Node.{Node}
use Rattle.akl_terms.specs.declared.program.Program.{Program}
use Rattle.akl_terms.specs.declared.program.Query.{Query}
use Rattle.akl_terms.specs.Names.{same_name}
use Rattle.akl_terms.specs.Tree.{Tree}
use Rattle.akl_terms.specs.Equal.{IsTold}
use Rattle.akl_terms.specs.Solved.{IsBound, bound}
use Rattle.akl_terms.specs.Standing.{StandFor}
use Rattle.akl_model.specs.declared.label.Rule.{Rule}
use Rattle.akl_model.specs.declared.item.Item.{Item}
use Rattle.akl_model.specs.Config.{Atom, Content, no_boxes, box, Goals, no_goals, Held, held_in, Found, or_else, within, box_at, home_inside, when_held}
use Rattle.akl_model.specs.Changes.{shape_of}
use Rattle.akl_model.specs.Instances.{start, with_atoms, atoms_of, shown_of}
use Rattle.akl_model.proofs.Options.{some_value}
use Rattle.akl_model.proofs.Finds.{times, times_of, times_inside}
use Rattle.akl_model.proofs.NamesKept.{start-stands}
use Rattle.constraint_laws.proofs.StandsGrow.{same_told_stands}
use Rattle.rational_unify.specs.Known.{bound_in}
use Rattle.rational_unify.proofs.Chains.{nothing-solved}
use Rattle.local_store.specs.Stored.{nothing, with_frame}
use Rattle.local_store.specs.Chained.{IsSolvedChain}
use Rattle.plan_laws.proofs.StampLaws.{first_stamp}
use Rattle.akl_model.specs.Changes.{by_store}
use Rattle.table_laws.specs.Rows.{BoxRow, Table, store_in, told_in}
use Rattle.table_laws.specs.Unfolds.{IsBoxRow, AreBoth, Spot, spot_of, spot_in, Unfolds}
use Rattle.table_laws.specs.Stamped.{Run, LastChange, IsTableOf}
use Rattle.table_laws.specs.Steps.{AreAtoms}
use Rattle.table_laws.specs.Writes.{IsTable}
use Rattle.table_laws.specs.Laws.{named_from, first_row, started}
use Rattle.table_laws.proofs.Atoms.{atom_names, no_box_inside, no_home_inside, no_holder_inside, atom_spots, atom_changed, atoms_failing, in_order}

-- a store to which nothing was told is solved
nothing_bound : (nodes : List Node) (s t : Tree) → IsBound (bound_in nodes []) s t → ⊥
nothing_bound nodes s t (bound e) = cc

unbound_chain : (nodes : List Node) (n : Name) → IsSolvedChain nodes (with_frame nothing n ∷ [])
unbound_chain nodes n = record {
  form = record { solved = nothing-solved nodes; follow = λ s t b. absurd (nothing_bound nodes s t b); hold = λ s t o n. absurd o };
  older = record { each = λ x y t e v. cc };
  once = record { each = λ x. omega arith };
}

-- the goals of one box of atoms
one_box_spots : (b : Content) (gs : Goals) (xs : List (Name × Atom)) (g : Name) → AreAtoms xs gs
    → option_map {U = Spot} (λ (h : Held). record { home = b.name; shape = shape_of h }) (held_in g gs) ≡ spot_in g (box b gs no_boxes)
one_box_spots b gs xs g a = on (held_in g gs) refl
  where
    found : Found
    found = record { around = []; content = b; goals = gs }

    on : (o : Option Held) → held_in g gs ≡ o → option_map {U = Spot} (λ (h : Held). record { home = b.name; shape = shape_of h }) o
        ≡ option_and_then {U = Spot} (λ (f : Found). option_map {U = Spot} (λ (h : Held). record { home = f.content.name; shape = shape_of h }) (held_in g f.goals)) (or_else (when_held o found) (or_else (option_map (within b) (home_inside g gs)) None))
    on None e = ap (λ (o : Option Found). option_and_then {U = Spot} (λ (f : Found). option_map {U = Spot} (λ (h : Held). record { home = f.content.name; shape = shape_of h }) (held_in g f.goals)) (or_else (option_map (within b) o) None))
        (sym (no_home_inside xs gs g a))
    on (Some h) e = ap (option_map {U = Spot} (λ (h : Held). record { home = b.name; shape = shape_of h })) (sym e)

module _ (rules : List Rule) (p : Program) (q : Query) (T : Table) (is : IsTable T (started p q)) where
  abbrev root : Name
  root = record { worker = 0; number = 0 }

  abbrev frame : Name
  frame = record { worker = 0; number = 1 }

  abbrev atoms : List Atom
  atoms = atoms_of p.templates.nodes frame q.goals

  abbrev content : Content
  content = record { name = root; frames = frame ∷ []; equations = []; ports = []; body = []; shown = map (shown_of frame) q.shown; collected = None }

  abbrev goals : Goals
  goals = with_atoms 0 2 atoms no_goals

  all_atoms : AreAtoms (named_from 2 atoms) goals
  all_atoms = in_order 2 atoms

  abbrev found : Found
  found = record { around = []; content = content; goals = goals }

  abbrev run : Run
  run = record { program = p; query = q; journal = [] }

  its_row : T.box_of root ≡ Some (first_row p q)
  its_row = is.boxes root

  row : IsBoxRow T (start p q).roots found (first_row p q)
  row = record {
    holder = sym (ap (λ (o : Option Name). or_else o None) (no_holder_inside (named_from 2 atoms) goals root all_atoms));
    frames = refl;
    ports = refl;
    stands = subst (λ (o : Option BoxRow). StandFor (IsTold (told_in T.nodes (store_in o ∷ []))) (IsTold [])) (sym its_row) (same_told_stands [] [] (record { each = λ s t m. m }) (record { each = λ s t m. m }));
    stays_solved = record {
      within = λ k e. omega (arith, is.steps, some_value e);
      solved = λ k e u. subst (λ (o : Option BoxRow). IsSolvedChain T.nodes (store_in o ∷ [])) (sym its_row) (unbound_chain T.nodes frame);
    };
    goals = atom_names (named_from 2 atoms) goals all_atoms;
    failing = atoms_failing (named_from 2 atoms) goals all_atoms
        (λ g. let o : times g (start p q).roots ≤ 1 = (start-stands p q).once g in let k : times g (start p q).roots ≡ times_of g content + (times_inside g goals + 0) = refl in omega arith);
    body = refl;
    shown = refl;
    collected = refl;
  }

  boxes : (n : Name) → AreBoth (IsBoxRow T (start p q).roots) (box_at n (start p q).roots) (T.box_of n)
  boxes n = subst (AreBoth (IsBoxRow T (start p q).roots) (box_at n (start p q).roots)) (sym (is.boxes n))
      (subst (λ (o : Option Found). AreBoth (IsBoxRow T (start p q).roots) (if same_name n root then Some found else or_else (option_map (within content) o) None) (if same_name n root then Some (first_row p q) else None))
      (sym (no_box_inside (named_from 2 atoms) goals n all_atoms)) (on (same_name n root)))
    where
      on : (t : Bool) → AreBoth (IsBoxRow T (start p q).roots) (if t then Some found else None) (if t then Some (first_row p q) else None)
      on true = row
      on false = tt

  unfolds : Unfolds T (start p q)
  unfolds = record {
    boxes = boxes;
    goals = λ g. ap (option_map spot_of) (is.goals g) ∙ atom_spots root 0 (named_from 2 atoms) goals g all_atoms ∙ one_box_spots content goals (named_from 2 atoms) g all_atoms;
    roots = is.roots;
    next = is.next;
  }

  at_first : (item : Item) (k : ℕ) → k ≡ 0 → LastChange rules run item k
  at_first item k e = subst (LastChange rules run item) (sym e) (first_stamp by_store rules p q item)

  only_row : (n : Name) (r : BoxRow) → T.box_of n ≡ Some r → (r.changed ≡ 0) × (r.goals_changed ≡ 0)
  only_row n r e = on (same_name n root) (sym (is.boxes n) ∙ e)
    where
      on : (t : Bool) → (if t then Some (first_row p q) else None) ≡ Some r → (r.changed ≡ 0) × (r.goals_changed ≡ 0)
      on true i = (ap (λ (x : BoxRow). x.changed) (sym (some_value i)), ap (λ (x : BoxRow). x.goals_changed) (sym (some_value i)))
      on false i = cc

  is_started : IsTableOf rules run T
  is_started = record {
    config = start p q;
    replays = record { derives = refl };
    nodes = is.nodes;
    unfolds = unfolds;
    stamped = record {
      steps = is.steps;
      store = λ n r e. at_first (Item.Store n) r.changed (only_row n r e).0;
      goals = λ n r e. at_first (Item.Goals n) r.goals_changed (only_row n r e).1;
      goal = λ g r e. at_first (Item.Goal g) r.changed (atom_changed root 0 (named_from 2 atoms) g r (sym (is.goals g) ∙ e));
      roots = at_first Item.Roots T.roots_changed is.roots_changed;
    };
  }

pub start_law : (rules : List Rule) (p : Program) (q : Query) (T : Table) → IsTable T (started p q) → IsTableOf rules (record { program = p; query = q; journal = [] }) T
start_law rules p q T is = is_started rules p q T is
