-- What a walk waits on is the end of a chain.
use Rattle.std.proofs.Common.{◌≡◌, ℤ, List, length, subst}
use Rattle.akl_terms.specs.declared.name.Var.{Var}
use Rattle.akl_terms.specs.declared.term.Term.{Term}
use Rattle.akl_terms.specs.Tree.{Tree, variable}
use Rattle.akl_terms.specs.Template.{Template, tree}
use Rattle.rational_unify.specs.Known.{bound_in, IsSolved, end_of}
use Rattle.rational_unify.proofs.Chains.{free_found}
use Rattle.rational_unify.proofs.Walks.{IsFree, walk-free}
use Rattle.local_store.proofs.FormEnds.{end-free}
use Rattle.arith_goals.specs.declared.expression.Application.{Application}
use Rattle.arith_goals.specs.declared.walk.Walk.{Walk}
use Rattle.arith_goals.specs.declared.walk.Walked.{Walked}
use Rattle.arith_goals.specs.declared.walk.Step.{Step}
use Rattle.arith_goals.specs.declared.walk.Step.TheVariants.{Enter, Leave}
use Rattle.arith_goals.specs.declared.walk.Turn.TheVariants.{Stop}
use Rattle.arith_goals.specs.Walking.{Begins, inside_itself, Enters, free, other, operation, Leaves, last, undefined, Turns}
use Rattle.arith_goals.specs.Answers.{WalksToEnd}

module _ (t : Template) (bs : List (Var × Term)) (h : IsSolved t.nodes bs) where
  -- a variable in which a chain ends is the end of its own
  pub own-end : (s : Tree) (x : Var) → end_of t.nodes bs s ≡ variable x → end_of t.nodes bs (variable x) ≡ variable x
  own-end s x e = end-free t.nodes bs x (free_found t.nodes bs x (subst (IsFree (bound_in t.nodes bs)) e (walk-free (bound_in t.nodes bs) (length bs) s (h.ends s))))

  module _ (old new : Walk) where
    begins-ends : (of : Application) (w : Walked) → Begins old new of (Stop w) → WalksToEnd t.nodes bs w
    begins-ends of w (inside_itself e) = tt

    enters-ends : (s : Term) (w : Walked) → Enters t bs old new s (Stop w) → WalksToEnd t.nodes bs w
    enters-ends s w (free {x = x} e) = own-end (tree t.nodes s) x e
    enters-ends s w (other o) = tt
    enters-ends s w (operation {of = of} a b) = begins-ends of w b

    leaves-ends : (z : ℤ) (w : Walked) → Leaves old new z (Stop w) → WalksToEnd t.nodes bs w
    leaves-ends z w (last e) = tt
    leaves-ends z w (undefined ws of x e d) = tt

    pub turn-ends : (step : Step) (w : Walked) → Turns t bs old new step (Stop w) → WalksToEnd t.nodes bs w
    turn-ends (Enter s) w u = enters-ends s w u
    turn-ends (Leave z) w u = leaves-ends z w u
