use Rattle.std.proofs.Common.{◌≡◌, true, false}
use Rattle.par_workers.proofs.shared.SharedRun.stop.Goals as goal

pub invariant_of-self : goal.invariant_of-self
invariant_of-self c = record { shared = c.self.invariant.shared; held = λ going. absurd (let no : true ≡ false = going in cc) }
