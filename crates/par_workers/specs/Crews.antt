-- The workers of a run, and what they leave.
use Rattle.std.specs.Prelude.{◌≡◌, ℕ, suc, List, Vec, [], ◌∷◌, map}
use Rattle.std.specs.Global.{Global}
use Rattle.akl_terms.specs.declared.program.Program.{Program}
use Rattle.akl_model.specs.declared.label.Receipt.{Receipt}
use Rattle.turn_lock.specs.Passes.{view}
use Rattle.turn_lock.specs.declared.view.Joined.{Joined}
use Rattle.par_workers.specs.declared.made.Made.{Made}
use Rattle.par_workers.specs.declared.worker.Worker.{Worker}
use Rattle.par_workers.specs.Shared.{AreReceiptsOf}

-- the program of the worker's run
abbrev pub program_of : Worker → Program
program_of w = (view w.pass).fixed.table.program

-- the workers have the numbers from this one on
abbrev pub AreNumbered : ℕ → List Worker → Type 0
AreNumbered number [] = Unit {0}
AreNumbered number (w ∷ ws) = (w.number ≡ number) × AreNumbered (suc number) ws

abbrev pub lists : List (Vec Receipt Global) → List (List Receipt)
lists = map (λ v. v.items)

-- each list is that of the worker of the next number, of what its pass had seen when it was joined
abbrev pub AreOfJoined : ℕ → List (Joined Made) → List (List Receipt) → Type 0
AreOfJoined number [] [] = Unit {0}
AreOfJoined number (j ∷ js) (rs ∷ more) = (j.number ≡ number) × AreReceiptsOf number j.seen rs × AreOfJoined (suc number) js more
AreOfJoined number [] (rs ∷ more) = ⊥
AreOfJoined number (j ∷ js) [] = ⊥
