-- What a planner of Split answers.
use Rattle.std.specs.Prelude.{◌≡◌, [], Option, Some, None}
use Rattle.akl_terms.specs.declared.name.Name.{Name}
use Rattle.akl_terms.specs.declared.name.Place.{Place}
use Rattle.akl_model.specs.declared.label.Rule.{Rule}
use Rattle.akl_model.specs.declared.label.Label.{Label}
use Rattle.akl_model.specs.Config.{Config}
use Rattle.akl_model.specs.Derivations.{Applies}
use Rattle.table_laws.specs.Stamped.{IsTableOf}
use Rattle.box_tree.specs.Tables.{all_rules, table_of}
use Rattle.box_tree.specs.Views.{ViewValue, run_of}
use Rattle.box_tree.specs.Plans.{PlanValue}
use Rattle.box_tree.specs.Insides.{IsCandidateOf}
use Rattle.guard_plan.specs.Planned.{IsPlanOf, HasNoRule}
use Rattle.stable_test.specs.Seen.{NoneReadyInside}

-- the box that was looked at could be split at this alternative, if it is stable
pub record IsCandidate (v : ViewValue) (a : Name) : Type 0 where
  pub name : Name
  pub place : v.place ≡ Place.Box name
  pub candidate : IsCandidateOf (table_of v.table) name (Some a)

-- no rule other than Split applies at the box that was looked at, and no place inside it is ready
pub record IsStill (v : ViewValue) : Type 0 where
  pub none : HasNoRule v
  pub inside : (n : Name) → v.place ≡ Place.Box n → NoneReadyInside v.table v.journal n

-- Split doesn't apply at the place of a view, at any alternative and for any worker
pub record HasNoSplit (v : ViewValue) : Type 0 where
  pub none : (t : IsTableOf all_rules (run_of v.table v.journal) (table_of v.table)) (l : Label) (d : Config)
      → Applies all_rules v.table.program t.config l d → l.place ≡ v.place → l.rule ≡ Rule.Split → ⊥

-- a right plan of one label, a Split, or none where it doesn't apply
abbrev pub IsSplitBy : ViewValue → Option PlanValue → Type 0
IsSplitBy v None = HasNoSplit v
IsSplitBy v (Some p) = IsPlanOf v p × (p.label.rule ≡ Rule.Split) × (p.more ≡ [])
