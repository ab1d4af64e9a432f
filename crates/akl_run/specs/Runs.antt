-- The runs of a query over a program.
use Rattle.std.specs.Prelude.{◌≡◌, ℕ, ◌≤◌, Bool, true, false, List, [], length}
use Rattle.std.specs.List.{AllZip}
use Rattle.akl_terms.specs.declared.program.Program.{Program}
use Rattle.akl_terms.specs.declared.program.Query.{Query}
use Rattle.akl_model.specs.declared.label.Label.{Label}
use Rattle.akl_model.specs.Config.{Config, Content}
use Rattle.akl_model.specs.Derivations.{Replays, HasOutcome, Outcome}
use Rattle.box_tree.specs.Tables.{all_rules}
use Rattle.tree_models.specs.declared.model.TreeModel.{TreeModel}
use Rattle.root_answers.specs.Models.{IsModelOf}

-- A run that has ended: its program, its journal, the configuration that this leads to, the answers there with their models, and the outcome. It is all of which the
-- run's text is made.
pub record Run : Type 0 where
  pub program : Program
  pub journal : List Label
  pub last : Config
  pub answers : List Content
  pub models : List TreeModel
  pub outcome : Outcome

-- where models are asked there is one for each answer, in order, and else there is none
abbrev pub AreModels : Bool → List Content → List TreeModel → Type 0
AreModels true answers models = AllZip IsModelOf answers models
AreModels false answers models = models ≡ []

-- the journal is a derivation from the query's box within the budget, with this configuration at its end, these answers and this outcome; and the models are those of the
-- answers, where they are asked
pub record IsRun (q : Query) (budget : ℕ) (models : Bool) (r : Run) : Type 0 where
  pub replays : Replays all_rules r.program q r.journal r.last
  pub ends : HasOutcome all_rules r.program budget (length r.journal) r.last r.answers r.outcome
  pub within : length r.journal ≤ budget
  pub are_models : AreModels models r.answers r.models
