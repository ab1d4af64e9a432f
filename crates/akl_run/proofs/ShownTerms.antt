-- What a query shows.
use Rattle.std.proofs.Common.{ℕ, suc, ◌+◌, ◌≤◌, List, [], ◌∷◌, length, Bool, true, false, cond, arith}
use Rattle.clause_store.specs.Loaded.{is_hidden, shown_from}
use Rattle.box_tree.specs.Tables.{AreBelow}

-- the variables that are shown are among those that are named
pub shown-below : (n : ℕ) (names : List (List ℕ)) (m : ℕ) → n + length names ≤ m → AreBelow m (shown_from n names)
shown-below n [] m h = tt
shown-below n (w ∷ ws) m h = on (is_hidden w) (shown-below (suc n) ws m (omega (arith, h)))
  where
    on : (b : Bool) → AreBelow m (shown_from (suc n) ws) → AreBelow m (cond b (shown_from (suc n) ws) (record { name = w; index = n } ∷ shown_from (suc n) ws))
    on true r = r
    on false r = (omega (arith, h), r)
