-- Terms over some variables are over more.
use Rattle.akl_terms.specs.declared.name.Var.{Var}
use Rattle.akl_terms.specs.Tree.{Tree, Trees, variable, integer, port, symbol, none, more}
use Rattle.constraint_laws.specs.Growth.{IsOver, AreOver}

mutual
  pub over_more : (P Q : Var → Type 0) → ((x : Var) → P x → Q x) → (t : Tree) → IsOver P t → IsOver Q t
  over_more P Q f (variable x) h = f x h
  over_more P Q f (integer z) h = tt
  over_more P Q f (port q) h = tt
  over_more P Q f (symbol g ts) h = all_over_more P Q f ts h

  all_over_more : (P Q : Var → Type 0) → ((x : Var) → P x → Q x) → (ts : Trees) → AreOver P ts → AreOver Q ts
  all_over_more P Q f none h = tt
  all_over_more P Q f (more t ts) h = (over_more P Q f t h.0, all_over_more P Q f ts h.1)
