-- Definitions that collect, and those that don't.
use Rattle.std.specs.Prelude.{◌≡◌, ℕ, List, [], ◌∷◌, Option, Some, None}
use Rattle.std.specs.List.{All}
use Rattle.akl_terms.specs.declared.program.Op.{Op}
use Rattle.akl_terms.specs.declared.program.Op.TheVariants as ops
use Rattle.akl_terms.specs.declared.program.Clause as program
use Rattle.akl_terms.specs.declared.program.Program.{Program}
use Rattle.clause_keys.specs.Conditions.{IsGuard}

-- a definition of this operator, this number, if it is lifted, and these clauses: where it collects it is lifted, and has one clause, with a collected term and without a body; else no clause has a collected term
pub data CollectsAlone : Op → Option ℕ → List program.Clause → Type 0 where
  not_collecting : {op : Op} {number : Option ℕ} {cs : List program.Clause} → IsGuard op → All (λ c. c.collected ≡ None) cs → CollectsAlone op number cs
  collecting : {number node : ℕ} {c : program.Clause} → c.collected ≡ Some node → c.body ≡ [] → CollectsAlone ops.Collect (Some number) (c ∷ [])

-- so is each definition of the program
pub record HasCollecting (p : Program) : Type 0 where
  pub each : All (λ d. CollectsAlone d.op d.lifted d.clauses) p.definitions
