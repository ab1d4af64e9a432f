-- The program that a command is given.
use Rattle.std.proofs.Common.{◌≡◌, ℕ, List, Option, subst}
use Rattle.akl_run.specs.Commands.{Side, IsGiven}

pub given_as : {made text : Option (List ℕ)} (before after : Side) (program : List ℕ) → made ≡ text → IsGiven made before after program → IsGiven text before after program
given_as before after program e g = subst (λ (o : Option (List ℕ)). IsGiven o before after program) e g
