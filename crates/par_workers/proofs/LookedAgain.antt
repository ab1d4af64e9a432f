-- A look where another one found nothing.
use Rattle.std.proofs.Common.{◌≡◌, ℕ, true, false, List, Option, Some, None, is_some, inl, inr}
use Rattle.par_workers.specs.declared.looking.Look.{Look}
use Rattle.par_workers.specs.Looks.{IsAtHandOrGone, IsNotLost}

pub none_found : (found : Option Look) → is_some found ≡ false → (token : ℕ) (line late held : List ℕ) → IsNotLost token found line late held → IsAtHandOrGone token line late held
none_found None is token line late held (inl at) = absurd at
none_found None is token line late held (inr at) = at
none_found (Some look) is token line late held at = absurd (let no : true ≡ false = is in cc)
