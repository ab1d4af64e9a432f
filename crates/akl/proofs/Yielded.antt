-- What is still to come of the values of a vector.
use Rattle.std.proofs.Common.{◌≡◌, List, [], ◌∷◌, length, refl, sym, ◌∙◌, arith}
use Rattle.std.specs.Global.{Global}
use Rattle.std.specs.Vec.Iter.{into_iter_items, into_iter_len}
use Rattle.std.specs.declared.vec.IntoIter.{IntoIter}

no_length : {X : Type 0} (xs : List X) → length xs ≡ 0 → xs ≡ []
no_length [] e = refl
no_length (x ∷ xs) e = absurd (omega arith)

pub none_to_come : {X : Type 0} (it : IntoIter X Global) → into_iter_len it ≡ 0 → into_iter_items it ≡ []
none_to_come it e = no_length (into_iter_items it) (sym it.rest.ok.0 ∙ e)
