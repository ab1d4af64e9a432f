-- What a call at once makes of a table: its goal is an atom, and what joins its box is what the alternative that is left has, with what is told of its body.
use Rattle.std.specs.Prelude.{◌≡◌, ℕ, ◌+◌, Bool, List, ◌++◌, length, Option, None, Some, slice_index}
use Rattle.akl_terms.specs.declared.name.Name.{Name}
use Rattle.akl_terms.specs.declared.name.Var.{Var}
use Rattle.akl_terms.specs.declared.program.Program.{Program}
use Rattle.akl_terms.specs.declared.term.Node.{Node}
use Rattle.akl_terms.specs.declared.term.Term.{Term}
use Rattle.akl_terms.specs.Equal.{Equations, IsTold}
use Rattle.akl_terms.specs.Standing.{StandFor}
use Rattle.akl_model.specs.declared.label.Label.{Label}
use Rattle.akl_model.specs.declared.label.Rule.{Rule}
use Rattle.akl_model.specs.Config.{Atom, Content, Config, with_names, with_ports, Found, or_else, environment, whole, home_of}
use Rattle.akl_model.specs.Instances.{drawn_by}
use Rattle.akl_model.specs.Derivations.{raised}
use Rattle.rational_unify.specs.Solving.{bindings_in}
use Rattle.local_store.specs.Stored.{Stored}
use Rattle.plan_laws.specs.AtOnce.{Tells, finishes, leaves, tells, holds, IsAtOnce, labels_at_once, at_once, AreInForce}
use Rattle.table_laws.specs.Rows.{BoxRow, Table, ports_in}
use Rattle.table_laws.specs.Stamped.{Run, IsTableOf}
use Rattle.table_laws.specs.Steps.{joins, IsSolvedWhen}
use Rattle.table_laws.specs.Walks.{alternatives_of}
use Rattle.table_laws.specs.Writes.{IsTable, set, unset, home_in, home_or, changed_box, atom_among, joined_row, solved_when}

-- bindings that stand for equations, over all that stands for those around them
abbrev pub StandOver : List Node → Equations → Equations → List (Var × Term) → Type 0
StandOver nodes around E bindings = (D : Equations) → StandFor (IsTold D) (IsTold around) → StandFor (IsTold (D ++ bindings_in nodes bindings)) (IsTold E)

-- the stores of the alternative that is left, over those down to the goal's box, and of this box in the end; and the goals that are new. The box has a store too after each label of the body: for the
-- equations of the alternative and the first ones, as many as you like, that are told
pub record CallsGoal {p : Program} {c : Config} {w : ℕ} {g : Name} {f : Found} (x : IsAtOnce p c w g f) (alternative new : Stored) (goals : List (Name × Atom)) : Type 0 where
  pub alternative_frames : alternative.frames ≡ x.last.frames
  pub alternative_ports : ports_in p.templates.nodes alternative.ports ≡ x.last.ports
  pub alternative_stands : StandOver p.templates.nodes (whole f) (whole f ++ x.last.equations) alternative.bindings
  pub between : (E more : Equations) → x.after.equations ≡ (f.content.equations ++ x.last.equations) ++ (E ++ more)
      → (bindings : List (Var × Term)) × StandOver p.templates.nodes (environment f) (environment f ++ ((f.content.equations ++ x.last.equations) ++ E)) bindings
  pub frames : new.frames ≡ with_names x.last.frames f.content.frames
  pub ports : ports_in p.templates.nodes new.ports ≡ with_ports x.last.ports f.content.ports
  pub stands : StandOver p.templates.nodes (environment f) (environment f ++ x.after.equations) new.bindings
  pub body : goals ≡ x.goals_left

-- how many labels of a body there are up to the last one that tells an equation, where so many came before and this is said of those; none where none does
abbrev pub last_told : (p : Program) (w next : ℕ) (around : List Content) (b : Content) (n : ℕ) (body : List Atom) (ls : List Label) (b2 : Content) (left : List (Name × Atom)) → Tells p w next around b n body ls b2 left → ℕ → ℕ → ℕ
last_told p w next around _ _ _ _ _ _ (finishes b n) before so_far = so_far
last_told p w next around _ _ _ _ _ _ (leaves b n a rest ls b2 left y) before so_far = last_told p w next around b (n + 1) rest ls b2 left y before so_far
last_told p w next around _ _ _ _ _ _ (tells r b n a s t rest ls b2 left guard makes y) before so_far = last_told p w next around _ (n + 1) rest ls b2 left y (before + 1) (before + 1)
last_told p w next around _ _ _ _ _ _ (holds r b n a rest ls b2 left guard makes y) before so_far = last_told p w next around b (n + 1) rest ls b2 left y (before + 1) so_far

abbrev pub told_of_body : {p : Program} {c : Config} {w : ℕ} {g : Name} {f : Found} → IsAtOnce p c w g f → ℕ
told_of_body {p} {c} {w} {g} {f} x = last_told p w (slice_index c.next w + drawn_by x.called.clauses + length x.last.body) f.around _ (slice_index c.next w + drawn_by x.called.clauses) x.last.body x.body_labels x.after x.goals_left x.body 0 0

-- where so many labels were made before: the numbers of the call's promotion, of its last label that tells its box an equation, and of its last label
abbrev pub promoted_at : {p : Program} {c : Config} {w : ℕ} {g : Name} {f : Found} → IsAtOnce p c w g f → ℕ → ℕ
promoted_at x steps = steps + length (x.sift_labels ++ x.end_labels) + 1

abbrev pub told_at : {p : Program} {c : Config} {w : ℕ} {g : Name} {f : Found} → IsAtOnce p c w g f → ℕ → ℕ
told_at x steps = promoted_at x steps + told_of_body x

abbrev pub ended_at : {p : Program} {c : Config} {w : ℕ} {g : Name} {f : Found} → IsAtOnce p c w g f → ℕ → ℕ
ended_at x steps = promoted_at x steps + length x.body_labels

-- as alternatives of a choice join their box, where new goals come with one label, the box's equations with another, and its goals go with a third
abbrev pub called_row : Name → Stored → Option ℕ → List (Name × Atom) → ℕ → ℕ → BoxRow → BoxRow
called_row g new solved_at goals told ended r = record (joined_row g new solved_at goals ended r) { changed = told }

abbrev pub after_call : Name → Stored → Option ℕ → List (Name × Atom) → ℕ → ℕ → ℕ → ℕ → ℕ → Table → Table
after_call g new solved_at goals worker drawn promoted told ended T = record T {
  box_of = unset (alternatives_of (T.goal_of g)) (changed_box (home_in (T.goal_of g)) (called_row g new solved_at goals told ended) T.box_of);
  goal_of = λ m. or_else (atom_among (home_or (T.goal_of g) g) promoted goals m) (set g None T.goal_of m);
  next = raised worker drawn T.next;
  steps = ended;
}

-- the run that goes on with all labels of the call
abbrev pub after_labels : (r : Run) {c : Config} {w : ℕ} {g : Name} {f : Found} → IsAtOnce r.program c w g f → Run
after_labels r x = record r { journal = r.journal ++ labels_at_once x }

-- a table to which a call at once leads is one of the run that goes on with its labels
abbrev pub CallStepLaw : Type 0
CallStepLaw = (rules : List Rule) → AreInForce rules → (r : Run) (T U : Table) (t : IsTableOf rules r T) (w : ℕ) (g : Name) (f : Found) → home_of g t.config.roots ≡ Some f → (x : IsAtOnce r.program t.config w g f)
    → (at : Option ℕ) (solved : Bool) (alternative new : Stored) (goals : List (Name × Atom)) → CallsGoal x alternative new goals → IsSolvedWhen at T f (joins new solved goals)
    → IsTable U (after_call g new (solved_when at solved) goals w (drawn_by x.called.clauses + length x.last.body) (promoted_at x T.steps) (told_at x T.steps) (ended_at x T.steps) T)
    → (u : IsTableOf rules (after_labels r x) U) × (u.config ≡ at_once x)
