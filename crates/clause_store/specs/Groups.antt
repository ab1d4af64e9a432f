-- How the clauses of a definition are gathered. No public clause speaks of it.
use Rattle.std.specs.Prelude.{◌≡◌, ◌+◌, ℕ, zero, suc, List, [], ◌∷◌, ◌++◌}
use Rattle.akl_syntax.specs.Clauses.{Clause}
use Rattle.akl_syntax.specs.Sizes.{clauses_size}
use Rattle.clause_keys.specs.declared.callee.Callee.{Callee}
use Rattle.clause_keys.specs.Keys.{Collects}
use Rattle.clause_store.specs.Loaded.{AreOf}

-- the clause is put into the group of this number, or becomes the next group
abbrev pub put_at : List (List Clause) → ℕ → Clause → List (List Clause)
put_at [] n c = (c ∷ []) ∷ []
put_at (g ∷ gs) zero c = (g ++ c ∷ []) ∷ gs
put_at (g ∷ gs) (suc n) c = g ∷ put_at gs n c

-- a group for each of these callees, of the clauses that define it, of which there is a first
pub data AreGroups (cs : List Clause) : List Callee → List (List Clause) → Type 0 where
  no_groups : AreGroups cs [] []
  a_group : {callee : Callee} {callees : List Callee} {first : Clause} {more : List Clause} {gs : List (List Clause)} → AreOf callee cs (first ∷ more) → AreGroups cs callees gs
      → AreGroups cs (callee ∷ callees) ((first ∷ more) ∷ gs)

abbrev pub groups_size : List (List Clause) → ℕ
groups_size [] = 0
groups_size (g ∷ gs) = clauses_size g + groups_size gs

-- the clauses that were gathered, behind what is known already
pub record AreGathered (known : List Callee) (cs : List Clause) (callees : List Callee) (gs : List (List Clause)) : Type 0 where
  pub new : List Callee
  pub callees_are : callees ≡ known ++ new
  pub collected : Collects known cs callees
  pub groups : AreGroups cs new gs
  pub size : groups_size gs ≡ clauses_size cs
