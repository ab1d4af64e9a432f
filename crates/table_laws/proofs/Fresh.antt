-- The names that a step draws are the next ones of its worker: they stand nowhere in a table, and no two are the same.
use Rattle.std.proofs.Common.{◌≡◌, ℕ, ◌+◌, ◌≤◌, ◌<◌, List, [], ◌∷◌, ◌++◌, length, map, Option, Some, None, refl, sym, ◌∙◌, ap, subst, ◌⊎◌, inl, inr, arith}
use Rattle.std.specs.Prelude.{option_map, option_and_then, slice_index}
use Rattle.akl_terms.specs.declared.name.Name.{Name}
use Rattle.akl_terms.specs.declared.term.Node.{Node}
use Rattle.akl_terms.specs.Equal.{Equations}
use Rattle.akl_terms.specs.Names.{same_name}
use Rattle.akl_model.specs.declared.label.Rule.{Rule}
use Rattle.akl_model.specs.declared.label.Label.{Label}
use Rattle.akl_model.specs.Config.{IsIn, Atom, Boxes, no_boxes, box, Config, Held, held_in, Found, environment, whole}
use Rattle.akl_model.specs.Instances.{instances, drawn_by}
use Rattle.akl_model.specs.Renaming.{sorted_names}
use Rattle.akl_model.specs.Derivations.{Applies}
use Rattle.akl_model.specs.Changes.{goal_names, shape_of}
use Rattle.akl_model.specs.Names.{one_if, times_in}
use Rattle.akl_model.proofs.Options.{map_none}
use Rattle.akl_model.proofs.Finds.{zero_or, times_in-append, times, times_inside, box_at-none}
use Rattle.akl_model.proofs.Drawn.{drawn_times, drawn_place, drawn_once, times-instances}
use Rattle.akl_model.proofs.NamesKept.{Stand, replay-stands}
use Rattle.akl_model.proofs.ScopesAlong.{counted_in}
use Rattle.step_laws.proofs.Whereabouts.{home_of-none}
use Rattle.step_laws.proofs.Steps.{site_once}
use Rattle.table_laws.specs.Rows.{BoxRow, Table}
use Rattle.table_laws.specs.Unfolds.{IsBoxRow, AreBoth, spot_of, Unfolds}
use Rattle.table_laws.specs.Stamped.{Run, IsTableOf}
use Rattle.table_laws.specs.Steps.{ForksGoal, NewBox, Step, tells, forks, fails, cuts, joins, splits, numbered, JoinsGoal, AreNewBoxes, SplitsBox, rest_of, second_of, Makes, refutes, confirms}
use Rattle.table_laws.specs.Writes.{names_drawn, names_copied, IsFresh, DrawsFresh}
use Rattle.table_laws.proofs.Insides.{goal_names_less}
use Rattle.table_laws.proofs.Copies.{copied_once, copied_counted}
use Rattle.table_laws.proofs.Atoms.{first_names, atom_names}
use Rattle.table_laws.proofs.Splitting as splitting

-- the names of new boxes and of their goals are among all that stand in them
pub new_counted : (nodes : List Node) (around : Equations) (news : List NewBox) (bs : Boxes) (m : Name) → AreNewBoxes nodes around news bs → times_in m (names_drawn news) ≤ times m bs
new_counted nodes around [] no_boxes m a = omega arith
new_counted nodes around [] (box b gs bs) m a = absurd a
new_counted nodes around (n ∷ ns) no_boxes m a = absurd a
new_counted nodes around (n ∷ ns) (box b gs bs) m a =
    let k : times_in m (names_drawn ns) ≤ times m bs = new_counted nodes around ns bs m a.1 in
    let i : times_in m (first_names n.goals ++ names_drawn ns) ≡ times_in m (first_names n.goals) + times_in m (names_drawn ns) = times_in-append m (first_names n.goals) (names_drawn ns) in
    let j : times_in m (first_names n.goals) ≡ times_in m (goal_names gs) = ap (times_in m) (atom_names n.goals gs a.0.goals) in
    let q : times_in m (goal_names gs) ≤ times_inside m gs = goal_names_less m gs in
    let e : one_if (same_name m n.name) ≡ one_if (same_name m b.name) = ap (λ (x : Name). one_if (same_name m x)) a.0.name in
    omega arith

-- a table has no rows of what stands nowhere

pub no_row_box : (T : Table) (c : Config) (m : Name) → Unfolds T c → times m c.roots ≡ 0 → T.box_of m ≡ None
no_row_box T c m u z = on (T.box_of m) (subst (λ (o : Option Found). AreBoth (IsBoxRow T c.roots) o (T.box_of m)) (box_at-none m c.roots z) (u.boxes m))
  where
    on : (o : Option BoxRow) → AreBoth (IsBoxRow T c.roots) None o → o ≡ None
    on None h = refl
    on (Some r) h = absurd h

pub no_row_goal : (T : Table) (c : Config) (m : Name) → Unfolds T c → times m c.roots ≡ 0 → T.goal_of m ≡ None
no_row_goal T c m u z = map_none spot_of (T.goal_of m) (u.goals m
    ∙ ap (option_and_then (λ (f : Found). option_map (λ (h : Held). record { home = f.content.name; shape = shape_of h }) (held_in m f.goals))) (home_of-none m c.roots z))

-- what a worker draws next stands nowhere
pub drawn_nowhere : (c : Config) (w k : ℕ) (m : Name) → Stand c → 1 ≤ drawn_times m w (slice_index c.next w) k → times m c.roots ≡ 0
drawn_nowhere c w k m s h = on (zero_or (times m c.roots))
  where
    on : (times m c.roots ≡ 0) ⊎ (0 < times m c.roots) → times m c.roots ≡ 0
    on (inl z) = z
    on (inr y) =
        let a : m.number < slice_index c.next m.worker = s.below m y in
        let v : (m.worker ≡ w) × (slice_index c.next w ≤ m.number) × (m.number < slice_index c.next w + k) = drawn_place m w (slice_index c.next w) k (omega arith) in
        let e : slice_index c.next m.worker ≡ slice_index c.next w = ap (slice_index c.next) v.0 in
        let b : slice_index c.next w ≤ m.number = v.1 in
        absurd (omega arith)

-- atoms under the names that are drawn next
pub numbered_counted : (m : Name) (w n : ℕ) (atoms : List Atom) → times_in m (map (λ (x : Name × Atom). x.0) (numbered w n atoms)) ≡ drawn_times m w n (length atoms)
numbered_counted m w n [] = refl
numbered_counted m w n (a ∷ rest) = ap (λ (k : ℕ). one_if (same_name m (record { worker = w; number = n })) + k) (numbered_counted m w (n + 1) rest)

pub numbered_fresh : (T : Table) (c : Config) (u : Unfolds T c) (s : Stand c) (w : ℕ) (atoms : List Atom) → IsFresh T (map (λ (x : Name × Atom). x.0) (numbered w (slice_index c.next w) atoms))
numbered_fresh T c u s w atoms = record {
  once = λ m. let o : drawn_times m w (slice_index c.next w) (length atoms) ≤ 1 = drawn_once m w (slice_index c.next w) (length atoms) in let e : times_in m (map (λ (x : Name × Atom). x.0) (numbered w (slice_index c.next w) atoms)) ≡ drawn_times m w (slice_index c.next w) (length atoms) = counted m in omega (arith, o, e);
  no_box = λ m i. no_row_box T c m u (nowhere m i);
  no_goal = λ m i. no_row_goal T c m u (nowhere m i);
}
  where
    counted : (m : Name) → times_in m (map (λ (x : Name × Atom). x.0) (numbered w (slice_index c.next w) atoms)) ≡ drawn_times m w (slice_index c.next w) (length atoms)
    counted m = numbered_counted m w (slice_index c.next w) atoms

    nowhere : (m : Name) → IsIn m (map (λ (x : Name × Atom). x.0) (numbered w (slice_index c.next w) atoms)) → times m c.roots ≡ 0
    nowhere m i = drawn_nowhere c w (length atoms) m s (subst (λ (k : ℕ). 1 ≤ k) (counted m) (counted_in m (map (λ (x : Name × Atom). x.0) (numbered w (slice_index c.next w) atoms)) i))

pub fresh_step : (rules : List Rule) (r : Run) (T : Table) (l : Label) (d : Config) (t : IsTableOf rules r T) (a : Applies rules r.program t.config l d) (step : Step)
    → Makes r.program l (slice_index t.config.next l.worker) a.site step → DrawsFresh T step
fresh_step rules r T l d t a (tells new solved) makes = tt
fresh_step rules r T l d t a fails makes = tt
fresh_step rules r T l d t a cuts makes = tt
fresh_step rules r T l d t a refutes makes = tt
fresh_step rules r T l d t a confirms makes = tt
fresh_step rules r T l d t a (joins new solved goals) makes =
    let m : JoinsGoal r.program l (slice_index t.config.next l.worker) a.site makes.0 new goals = makes.2 in
    subst (λ (xs : List (Name × Atom)). IsFresh T (map (λ (x : Name × Atom). x.0) xs)) (sym m.body)
    (numbered_fresh T t.config t.unfolds (replay-stands rules r.program r.query r.journal t.config t.replays) l.worker m.joined.body)
fresh_step rules r T l d t a (splits copy copies) makes = record {
  once = λ m. copied_once r.program.templates.nodes (environment a.site) second second_once copies made.copied m;
  no_box = λ m i. no_row_box T t.config m t.unfolds (nowhere m i);
  no_goal = λ m i. no_row_goal T t.config m t.unfolds (nowhere m i);
}
  where
    next : ℕ
    next = slice_index t.config.next l.worker

    s : Stand t.config
    s = replay-stands rules r.program r.query r.journal t.config t.replays

    made : SplitsBox r.program.templates.nodes l.worker (slice_index t.config.next l.worker) a.site makes.1.1 copy copies
    made = makes.1.4

    second : Boxes
    second = second_of l.worker (slice_index t.config.next l.worker) makes.1.1 a.site made.choice

    drawn : ℕ
    drawn = length (sorted_names (rest_of makes.1.1 a.site made.choice))

    few : (m : Name) → times m second ≤ drawn_times m l.worker next drawn
    few m = splitting.second_drawn r.program next l a.site a.change a.makes makes.1.0 makes.1.1 made.choice makes.0 makes.1.2 makes.1.3 made.is_choice (site_once rules r.program t.config l d s a) m

    second_once : (m : Name) → times m second ≤ 1
    second_once m = let k : times m second ≤ drawn_times m l.worker next drawn = few m in let o : drawn_times m l.worker next drawn ≤ 1 = drawn_once m l.worker next drawn in omega arith

    nowhere : (m : Name) → IsIn m (names_copied copies) → times m t.config.roots ≡ 0
    nowhere m i = drawn_nowhere t.config l.worker drawn m s
        (let h : 1 ≤ times m second = copied_counted r.program.templates.nodes (environment a.site) second second_once copies made.copied m i in let k : times m second ≤ drawn_times m l.worker next drawn = few m in omega arith)
fresh_step rules r T l d t a (forks op news) makes = record {
  once = λ m. let k : times_in m (names_drawn news) ≤ drawn_times m l.worker next drawn = counted m in let o : drawn_times m l.worker next drawn ≤ 1 = drawn_once m l.worker next drawn in omega arith;
  no_box = λ m i. no_row_box T t.config m t.unfolds (nowhere m i);
  no_goal = λ m i. no_row_goal T t.config m t.unfolds (nowhere m i);
}
  where
    next : ℕ
    next = slice_index t.config.next l.worker

    fork : ForksGoal r.program l.worker (slice_index t.config.next l.worker) a.site makes.1.0 op news
    fork = makes.1.2

    drawn : ℕ
    drawn = drawn_by fork.definition.clauses

    counted : (m : Name) → times_in m (names_drawn news) ≤ drawn_times m l.worker next drawn
    counted m =
        let k : times_in m (names_drawn news) ≤ times m (instances r.program.templates.nodes l.worker next fork.arguments fork.definition.clauses) =
        new_counted r.program.templates.nodes (whole a.site) news (instances r.program.templates.nodes l.worker next fork.arguments fork.definition.clauses) m fork.boxes in
        let e : times m (instances r.program.templates.nodes l.worker next fork.arguments fork.definition.clauses) ≡ drawn_times m l.worker next drawn =
        times-instances r.program.templates.nodes m l.worker next fork.arguments fork.definition.clauses in
        omega arith

    nowhere : (m : Name) → IsIn m (names_drawn news) → times m t.config.roots ≡ 0
    nowhere m i = drawn_nowhere t.config l.worker drawn m (replay-stands rules r.program r.query r.journal t.config t.replays)
        (let a : 0 < times_in m (names_drawn news) = counted_in m (names_drawn news) i in let k : times_in m (names_drawn news) ≤ drawn_times m l.worker next drawn = counted m in omega arith)
