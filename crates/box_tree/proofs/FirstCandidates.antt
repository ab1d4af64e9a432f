-- The first candidate of a box is one of its candidates.
use Rattle.std.proofs.Common.{◌≡◌, List, [], ◌∷◌, Option, Some, None, refl, ◌∙◌, inl, inr}
use Rattle.akl_terms.specs.declared.name.Name.{Name}
use Rattle.akl_model.specs.Config.{IsIn, or_else}
use Rattle.table_laws.specs.Rows.{Table}
use Rattle.box_tree.specs.Tables.{goals_in}
use Rattle.box_tree.specs.Insides.{candidate_at, candidate_among, candidate_in, IsCandidateOf}

-- it is of one of some goals
pub some_among : (T : Table) (gs : List Name) (a : Name) → candidate_among T gs ≡ Some a → (g : Name) × IsIn g gs × (candidate_at T (T.goal_of g) ≡ Some a)
some_among T [] a e = cc
some_among T (h ∷ hs) a e = on (candidate_at T (T.goal_of h)) refl e (some_among T hs a)
  where
    on : (o : Option Name) → candidate_at T (T.goal_of h) ≡ o → or_else o (candidate_among T hs) ≡ Some a → (candidate_among T hs ≡ Some a → (g : Name) × IsIn g hs × (candidate_at T (T.goal_of g) ≡ Some a))
        → (g : Name) × IsIn g (h ∷ hs) × (candidate_at T (T.goal_of g) ≡ Some a)
    on None i j k = let w : (g : Name) × IsIn g hs × (candidate_at T (T.goal_of g) ≡ Some a) = k j in (w.0, inr w.1, w.2)
    on (Some b) i j k = (h, inl refl, i ∙ j)

pub first_candidate : (T : Table) (n : Name) (o : Option Name) → candidate_in T n ≡ o → IsCandidateOf T n o
first_candidate T n None e = e
first_candidate T n (Some a) e = some_among T (goals_in (T.box_of n)) a e
