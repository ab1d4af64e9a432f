-- What a rule at an atom reads of the equations holds of equations that only grew.
use Rattle.std.proofs.Common.{ℕ, ℤ, List}
use Rattle.akl_terms.specs.declared.name.Name.{Name}
use Rattle.akl_terms.specs.declared.program.Test.{Test}
use Rattle.akl_terms.specs.Tree.{Tree, port}
use Rattle.akl_terms.specs.Equal.{Equations, Equal, Follows, IsConsistent}
use Rattle.akl_terms.specs.Arithmetic.{HasValue, number, operation, Answer, Evaluates, gives, compared}
use Rattle.akl_terms.proofs.EqualLaws.{Equal-follows}

pub record ReadsStill (symbols : List (List ℕ)) (E G : Equations) : Type 0 where
  pub consistent : IsConsistent G
  pub port : (t : Tree) (q : Name) → Equal E t (port q) → Equal G t (port q)
  pub evaluates : (test : Test) (l r : Tree) (a : Answer) → Evaluates symbols E test l r a → Evaluates symbols G test l r a

module _ (symbols : List (List ℕ)) (E G : Equations) (grows : Follows E G) where
  value_still : {t : Tree} {z : ℤ} → HasValue symbols E t z → HasValue symbols G t z
  value_still (number e) = number (Equal-follows grows e)
  value_still (operation e vc vd r) = operation (Equal-follows grows e) (value_still vc) (value_still vd) r

  evaluates_still : (test : Test) (l r : Tree) (c : Answer) → Evaluates symbols E test l r c → Evaluates symbols G test l r c
  evaluates_still _ l r _ (gives v) = gives (value_still v)
  evaluates_still test l r _ (compared v w e) = compared (value_still v) (value_still w) e

  pub reads_still : IsConsistent G → ReadsStill symbols E G
  reads_still h = record { consistent = h; port = λ t q e. Equal-follows grows e; evaluates = evaluates_still }
