-- A name that stands in a list.
use Rattle.std.proofs.Common.{◌≡◌, ℕ, zero, suc, ◌<◌, List, [], ◌∷◌, length, sym, inl, inr, arith}
use Rattle.std.specs.Prelude.{get_or}
use Rattle.akl_terms.specs.declared.name.Name.{Name}
use Rattle.akl_model.specs.Config.{IsIn}

pub in_at : (xs : List Name) (k : ℕ) (n d : Name) → k < length xs → get_or xs k d ≡ n → IsIn n xs
in_at [] k n d h e = absurd (omega arith)
in_at (x ∷ xs) zero n d h e = inl (sym e)
in_at (x ∷ xs) (suc k) n d h e = inr (in_at xs k n d (omega arith) e)
