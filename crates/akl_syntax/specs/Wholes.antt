-- What a private function answers that reads all lexemes.
use Rattle.std.specs.Prelude.{Result, Ok, Err}
use Rattle.akl_lexemes.specs.declared.fault.Fault.{Fault}
use Rattle.akl_lexemes.specs.declared.fault.Fault.TheVariants.{Syntax, Memory}

-- where nothing was found nothing is derived
abbrev pub RefusesAll : {Y : Type 0} → (Y → Type 0) → Fault → Type 0
RefusesAll {Y} R Syntax = (y : Y) → R y → ⊥
RefusesAll R Memory = Unit {0}

-- what was found is derived
abbrev pub Whole : {X Y : Type 0} → (X → Y) → (Y → Type 0) → Result X Fault → Type 0
Whole view R (Ok x) = R (view x)
Whole view R (Err f) = RefusesAll R f
