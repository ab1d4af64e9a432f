-- A plan of Open is right.
use Rattle.std.proofs.Common.{◌≡◌, ℕ, ◌+◌, ◌≤◌, [], ◌∷◌, List, Some, None, refl, sym, ◌∙◌, ap, subst, arith}
use Rattle.std.specs.Prelude.{slice_index}
use Rattle.akl_terms.specs.declared.name.Name.{Name}
use Rattle.akl_terms.specs.declared.name.Var.{Var}
use Rattle.akl_terms.specs.declared.name.Place.{Place}
use Rattle.akl_terms.specs.declared.term.Term.{Term}
use Rattle.akl_terms.specs.declared.term.Term.TheVariants.{Mol}
use Rattle.akl_terms.specs.declared.term.Equation as code
use Rattle.akl_terms.specs.declared.program.Code.{Code}
use Rattle.akl_terms.specs.Tree.{Tree, port}
use Rattle.akl_terms.specs.Names.{same_name}
use Rattle.akl_terms.proofs.SameNames.{same_name-refl}
use Rattle.akl_model.specs.declared.label.Rule.{Rule}
use Rattle.akl_model.specs.Config.{Atom, Content, no_boxes, box, Port, an_atom, held_in, without_goal, with_port}
use Rattle.akl_model.specs.Instances.{term_at}
use Rattle.akl_model.specs.Names.{one_if, times_in}
use Rattle.akl_model.specs.Renaming.{port_names}
use Rattle.akl_model.specs.Rules.{nothing, Change, becomes, telling, open_new, change_by}
use Rattle.akl_model.specs.Conditions as conditions
use Rattle.akl_model.specs.Stable.{Allows}
use Rattle.akl_model.proofs.Drawn.{drawn_times}
use Rattle.akl_model.proofs.Finds.{times}
use Rattle.akl_model.proofs.ScopesAlong.{times_path}
use Rattle.step_laws.proofs.Whereabouts.{found_in, in_counted}
use Rattle.local_store.specs.declared.part.Part.{Part}
use Rattle.local_store.specs.Parts.{ToldStore, with_part}
use Rattle.local_store.specs.Chained.{innermost}
use Rattle.local_store.specs.Stored as stored
use Rattle.local_store.specs.Stored.{all_named}
use Rattle.local_store.specs.Telling.{AnswersTold}
use Rattle.table_laws.specs.Rows.{ports_in}
use Rattle.table_laws.proofs.Fresh.{drawn_nowhere}
use Rattle.class_members.specs.Members.{AreMembers}
use Rattle.box_tree.specs.declared.step.Step.{Step}
use Rattle.box_tree.specs.declared.view.Sight.{Sight}
use Rattle.box_tree.specs.Views.{ViewValue, IsViewOf}
use Rattle.table_laws.specs.Telling.{opens_port}
use Rattle.rule_plan.specs.AtGoals.{label_at, IsRightAt}
use Rattle.guard_plan.proofs.Sites.{stand, found, shows_at}
use Rattle.rule_plan.proofs.InForce.{open_in_force}
use Rattle.guard_plan.proofs.Names.{port_put}
use Rattle.rule_plan.proofs.GoalRight.{told_right, tells_bound}
use Rattle.rule_plan.proofs.ToldGoals.{same_frames, same_ports, solved_if, tells_by}

-- the name that a view's worker draws next
abbrev pub next_name : ViewValue → Name
next_name v = record { worker = v.worker; number = v.next }

-- the equation of a node under a frame and a port
abbrev pub port_equation : Name → ℕ → Name → code.Equation
port_equation frame l q = record { left = Mol l frame; right = Term.Port q }

-- it is no port of the box
pub new_port : (v : ViewValue) (i : IsViewOf v) → times_in (next_name v) (port_names i.site.content.ports) ≡ 0
new_port v i =
    let none : times (next_name v) i.table.config.roots ≡ 0 = drawn_nowhere i.table.config v.worker 1 (next_name v) (stand v i) drawn in
    let less : times (next_name v) (box i.site.content i.site.goals no_boxes) + times_path (next_name v) i.site.around ≤ times (next_name v) i.table.config.roots =
    in_counted (next_name v) i.site.around i.site.content i.site.goals i.table.config.roots (found_in i.site.content.name i.table.config.roots i.site (found v i)) in
    omega arith
  where
    drawn : 1 ≤ drawn_times (next_name v) v.worker (slice_index i.table.config.next v.worker) 1
    drawn = subst (λ (n : ℕ). 1 ≤ drawn_times (next_name v) v.worker n 1) i.next (let e : one_if (same_name (next_name v) (next_name v)) ≡ 1 = ap one_if (same_name-refl (next_name v)) in omega arith)

module _ (v : ViewValue) (i : IsViewOf v) (g frame : Name) (l r : ℕ) (p : v.place ≡ Place.Goal g) (s : v.sight ≡ Sight.Atom (record { code = Code.OpenPort l r; frame = frame }))
    (t : ToldStore) (a : AnswersTold v.table.program.templates.nodes v.stores v.known (port_equation frame l (next_name v) ∷ []) t) where
  abbrev left : Tree
  left = term_at v.table.program.templates.nodes frame l

  abbrev stream : Tree
  stream = term_at v.table.program.templates.nodes frame r

  held : held_in g i.site.goals ≡ Some (an_atom (Atom.open_port left stream))
  held = shows_at v i (Place.Goal g) (Sight.Atom (record { code = Code.OpenPort l r; frame = frame })) p s

  abbrev content : Content
  content = record (telling left (port (next_name v)) i.site.content) { ports = with_port (record { name = next_name v; tail = stream }) i.site.content.ports }

  abbrev change : Change
  change = becomes content (without_goal g i.site.goals) 1

  opens : (n : ℕ) → v.next ≡ n → open_new v.worker n g i.site (Some (an_atom (Atom.open_port left stream))) ≡ Some change
  opens n e = subst (λ (k : ℕ). open_new v.worker k g i.site (Some (an_atom (Atom.open_port left stream))) ≡ Some change) e refl

  abbrev makes : conditions.Makes (Allows v.table.program) v.table.program (slice_index i.table.config.next v.worker) (label_at v Rule.Open) i.site change
  makes = record {
    reading = nothing;
    change = subst (λ (q : Place). change_by v.table.program nothing v.worker (slice_index i.table.config.next v.worker) Rule.Open q None i.site ≡ Some change) (sym p)
        (ap (open_new v.worker (slice_index i.table.config.next v.worker) g i.site) held ∙ opens (slice_index i.table.config.next v.worker) i.next);
    allowed = tt;
    few_names = omega arith;
  }

  pub open_right : (part : Part) → with_part (innermost v.stores) part ≡ stored.with_port t.store (next_name v) (Mol r frame) → ((old : List Name) → all_named old part.frames.items ≡ old)
      → (binds : List Var) → AreMembers v.table.program.templates.nodes v.stores t.bound binds → IsRightAt v Rule.Open g 1 (Step.Tell part t.solved) binds
  open_right part is names binds m = told_right v i g Rule.Open open_in_force change makes p part (stored.with_port t.store (next_name v) (Mol r frame)) t.solved is
      (tells_by v i (port_equation frame l (next_name v) ∷ []) t a (stored.with_port t.store (next_name v) (Mol r frame)) refl part is Rule.Open g content 1
      (record { goal = Atom.open_port left stream; held = held; makes = makes }) (record { left = left; right = port (next_name v) }) [] refl refl
      (same_frames v i (port_equation frame l (next_name v) ∷ []) t a) ports (opens_port left (next_name v) stream) refl
      (ap (λ (n : ℕ). opens_port left (record { worker = v.worker; number = n }) stream) i.next) names)
      (solved_if v i (port_equation frame l (next_name v) ∷ []) t a (stored.with_port t.store (next_name v) (Mol r frame)) refl t.solved refl)
      binds (tells_bound v i g Rule.Open open_in_force change makes content (without_goal g i.site.goals) refl (port_equation frame l (next_name v) ∷ []) t a refl binds m)
    where
      old : ports_in v.table.program.templates.nodes t.store.ports ≡ i.site.content.ports
      old = same_ports v i (port_equation frame l (next_name v) ∷ []) t a

      ports : ports_in v.table.program.templates.nodes (stored.with_port t.store (next_name v) (Mol r frame)).ports ≡ content.ports
      ports = port_put v.table.program.templates.nodes t.store.ports (next_name v) (Mol r frame) (ap (λ (ps : List Port). times_in (next_name v) (port_names ps)) old ∙ new_port v i)
          ∙ ap (with_port (record { name = next_name v; tail = stream })) old
