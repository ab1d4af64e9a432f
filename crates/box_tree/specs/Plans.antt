-- Right plans.
use Rattle.std.specs.Prelude.{◌≡◌, ℕ, ◌+◌, Bool, List, [], ◌∷◌, length, map, Some, ◌⊎◌, IsSome, slice_index}
use Rattle.akl_terms.specs.declared.name.Name.{Name}
use Rattle.akl_terms.specs.declared.name.Var.{Var}
use Rattle.akl_terms.specs.declared.term.Node.{Node}
use Rattle.akl_terms.specs.declared.program.Goal.{Goal}
use Rattle.akl_model.specs.declared.item.Item.{Item}
use Rattle.akl_model.specs.declared.label.Label.{Label}
use Rattle.akl_model.specs.Config.{Atom, Config, Found, home_of}
use Rattle.akl_model.specs.Derivations.{Applies}
use Rattle.akl_model.specs.Instances.{drawn_by}
use Rattle.local_store.specs.Stored.{Stored, nothing}
use Rattle.step_laws.specs.Bound.{AreBoundIn}
use Rattle.table_laws.specs.Stamped.{IsTableOf, stamp_in}
use Rattle.table_laws.specs.Steps as laws
use Rattle.table_laws.specs.Steps.{joins, IsSolvedIn}
use Rattle.plan_laws.specs.AtOnce.{IsAtOnce, labels_at_once, at_once}
use Rattle.plan_laws.specs.Wakes.{TellsNothing}
use Rattle.table_laws.specs.Calls.{told_of_body}
use Rattle.reading_laws.specs.QuietGuards.{EvaluatesQuietly}
use Rattle.reading_laws.specs.Seen.{ReadsAt, ByBindings}
use Rattle.table_laws.specs.Added.{Added, added_of, with_added}
use Rattle.table_laws.specs.Planned.{store_of}
use Rattle.table_laws.specs.Calling.{CallsBy}
use Rattle.table_laws.specs.PartSteps.{PartStep, tells_part, joins_part, without_part, MakesPart, ReadsPart}
use Rattle.box_tree.specs.declared.step.Step.{Step}
use Rattle.box_tree.specs.Tables.{all_rules, TableValue, table_of, goal_atom, step_of, step_in}
use Rattle.box_tree.specs.Views.{run_of}

-- how many labels come behind the one by which goals join a box, up to the last one that tells it an equation, and in all; none where no goals join
abbrev pub labels_behind : Step → ℕ × ℕ
labels_behind (Step.Join part solved goals told behind) = (told, behind)
labels_behind step = (0, 0)

-- the table and the journal of the view that a plan was made of; its first label and those behind it, the items that it read, how many names its labels draw, the step
-- that they make together, and variables that they bind or make equal
pub record PlanValue : Type 0 where
  pub table : TableValue
  pub journal : List Label
  pub label : Label
  pub more : List Label
  pub reads : List Item
  pub names : ℕ
  pub step : Step
  pub binds : List Var

-- a step, as the laws speak of it
abbrev pub part_step : List Node → Step → PartStep
part_step nodes (Step.Tell part solved) = tells_part (added_of part) solved
part_step nodes (Step.Fork op alternatives) = without_part (step_of nodes nothing (Step.Fork op alternatives))
part_step nodes Step.Fail = without_part laws.fails
part_step nodes Step.Cut = without_part laws.cuts
part_step nodes (Step.Join part solved goals told behind) = joins_part (added_of part) solved (map (λ (x : Name × Goal). (x.0, goal_atom nodes x.1)) goals.items)
part_step nodes Step.Refute = without_part laws.refutes
part_step nodes Step.Confirm = without_part laws.confirms
part_step nodes (Step.Split copy copies) = without_part (step_of nodes nothing (Step.Split copy copies))

abbrev pub IsRead : List Item → Item → Type 0
IsRead [] i = ⊥
IsRead (j ∷ js) i = (i ≡ j) ⊎ IsRead js i

-- the label applies in the configuration to which the table unfolded, the step is what it makes there, the plan has read what it must,
-- and it says what the label binds
pub record IsRightLabel (v : PlanValue) : Type 0 where
  pub table : IsTableOf all_rules (run_of v.table v.journal) (table_of v.table)
  pub result : Config
  pub applies : Applies all_rules v.table.program table.config v.label result
  pub makes : MakesPart v.table.program v.label (slice_index table.config.next v.label.worker) applies.site (part_step v.table.program.templates.nodes v.step)
  pub solved : IsSolvedIn (table_of v.table) applies.site (step_in v.table v.label v.step)
  pub names : v.names ≡ applies.change.drawn
  pub reads : ReadsPart (IsRead v.reads) table.config v.label applies.site v.binds (part_step v.table.program.templates.nodes v.step)
  pub binds : AreBoundIn table.config result applies.site v.binds
  pub there : (i : Item) → IsRead v.reads i → IsSome (stamp_in (table_of v.table) i)

-- the labels are those of a call at once, whose guards tell nothing, in the configuration to which the table unfolded; the step is its net change, the plan says what this
-- binds, and it has read what it must: where it goes by bindings, alternatives in which goals of guards are evaluated are quiet
pub record IsRightCall (v : PlanValue) : Type 0 where
  pub table : IsTableOf all_rules (run_of v.table v.journal) (table_of v.table)
  pub goal : Name
  pub site : Found
  pub is_home : home_of goal table.config.roots ≡ Some site
  pub calls : IsAtOnce v.table.program table.config v.label.worker goal site
  pub labels : v.label ∷ v.more ≡ labels_at_once calls
  pub tells_nothing : TellsNothing calls
  pub alternative : Stored
  pub part : Added
  pub is_solved : Bool
  pub goals : List (Name × Atom)
  pub makes : CallsBy calls alternative part goals
  pub step : part_step v.table.program.templates.nodes v.step ≡ joins_part part is_solved goals
  pub behind : labels_behind v.step ≡ (told_of_body calls, length calls.body_labels)
  pub solved : IsSolvedIn (table_of v.table) site (joins (with_added (store_of (table_of v.table) site.content.name) part) is_solved goals)
  pub names : v.names ≡ drawn_by calls.called.clauses + length calls.last.body
  pub binds : AreBoundIn table.config (at_once calls) site v.binds
  pub reads : ReadsAt (IsRead v.reads) table.config goal site v.binds
  pub quiet : ByBindings (IsRead v.reads) table.config goal site v.binds reads → EvaluatesQuietly calls
  pub there : (i : Item) → IsRead v.reads i → IsSome (stamp_in (table_of v.table) i)

-- a plan is of one label, behind which none comes, or of a call
pub data IsRight (v : PlanValue) : Type 0 where
  of_label : v.more ≡ [] → labels_behind v.step ≡ (0, 0) → IsRightLabel v → IsRight v
  of_call : IsRightCall v → IsRight v
