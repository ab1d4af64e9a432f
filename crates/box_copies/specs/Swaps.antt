-- Names that aren't new.
use Rattle.std.specs.Prelude.{◌≡◌, ℕ, ◌<◌, List}
use Rattle.akl_terms.specs.declared.name.Name.{Name}
use Rattle.akl_model.specs.Config.{IsIn}

-- none of the names is one that the worker draws from this number on
abbrev pub AreBelow : List Name → ℕ → ℕ → Type 0
AreBelow names w next = (n : Name) → IsIn n names → n.worker ≡ w → n.number < next
