-- One turn of the one pass.
use Rattle.std.proofs.Common.{◌≡◌, suc, ◌+◌, ◌<◌, [], ◌∷◌, List, ◌++◌, length, ◌∙◌, ap, arith, length-append}
use Rattle.akl_terms.specs.declared.name.Var.{Var}
use Rattle.akl_terms.specs.declared.term.Node.{Node}
use Rattle.akl_terms.specs.declared.term.Term.{Term}
use Rattle.akl_terms.specs.declared.term.Equation as code
use Rattle.akl_terms.specs.Decided.{DifferInHead}
use Rattle.akl_terms.specs.Template.{IsArranged, tree}
use Rattle.rational_unify.specs.declared.one_pass.Pass.{Pass}
use Rattle.rational_unify.specs.declared.solver.Work.{Work}
use Rattle.rational_unify.specs.Known.{end_of}
use Rattle.rational_unify.specs.Solving.{BindNew, IsClashOf}
use Rattle.rational_unify.specs.Indexes.{here}
use Rattle.rational_unify.specs.Meeting.{argument_pairs}
use Rattle.rational_unify.specs.Passing.{TakesOn, as_same, by_binding, by_arguments}
use Rattle.rational_unify.proofs.Chains.{BindNew-push}
use Rattle.rational_unify.proofs.Turns.{IsWorkOn, length-arguments, clash-follows, on_same, on_bind, on_agree, bound-free}

-- what the pass keeps: it does the solver's work, without the pairs that were compared
pub record PassGoes (nodes : List Node) (known : List (Var × Term)) (es : List code.Equation) (added : List (Var × Term)) (pending : List code.Equation) : Type 0 where
  pub compared : List code.Equation
  pub kept : IsWorkOn nodes known es added pending compared
  pub fresh : BindNew known added

module _ (nodes : List Node) (known : List (Var × Term)) (es : List code.Equation) (old : Pass) (pair : code.Equation) (g : PassGoes nodes known es old.added (old.pending ++ pair ∷ []))
    (ends : code.Equation) (at_left : tree nodes ends.left ≡ end_of nodes (known ++ old.added) (tree nodes pair.left))
    (at_right : tree nodes ends.right ≡ end_of nodes (known ++ old.added) (tree nodes pair.right)) where
  abbrev work : Work
  work = record { added = old.added; pending = old.pending; compared = g.compared }

  pub pass-clashes : DifferInHead (tree nodes ends.left) (tree nodes ends.right) → IsClashOf nodes known es ends.left ends.right
  pass-clashes d = clash-follows nodes known es work pair g.kept ends at_left at_right ends (record { left = here; right = here; differ = d })

  pub pass-goes : IsArranged nodes → (new : Pass) → TakesOn nodes ends.left ends.right old new → PassGoes nodes known es new.added new.pending
  pass-goes arranged new (as_same e n) = rw n (record {
    compared = g.compared;
    kept = on_same nodes known es work pair g.kept ends at_left at_right ends.left ends.right here here e;
    fresh = g.fresh;
  })
  pass-goes arranged new (by_binding {x = x} {u = r} m p q l) = rw (p, q) (record {
    compared = g.compared;
    kept = on_bind nodes known es work pair g.kept ends at_left at_right ends.left ends.right here here x r m;
    fresh = BindNew-push known old.added x r g.fresh (bound-free nodes known es work pair g.kept ends at_left at_right ends.left ends.right here here x r m).0;
  })
  pass-goes arranged new (by_arguments {p = p} m l q e) = rw (e, q) (record {
    compared = g.compared ++ ends ∷ [];
    kept = on_agree nodes known es work pair g.kept ends at_left at_right ends.left ends.right here here arranged p m;
    fresh = g.fresh;
  })

-- each turn takes a pair away, or lets fewer pairs of arguments wait
pub pass-falls : (nodes : List Node) (s t : Term) (old new : Pass) → TakesOn nodes s t old new → new.pairs_left + length new.pending < old.pairs_left + suc (length old.pending)
pass-falls nodes s t old new (as_same e n) =
    let p : new.pairs_left ≡ old.pairs_left = ap (λ (k : Pass). k.pairs_left) n in
    let q : length new.pending ≡ length old.pending = ap (λ (k : Pass). length k.pending) n in
    omega arith
pass-falls nodes s t old new (by_binding m p q l) =
    let r : length new.pending ≡ length old.pending = ap length q in
    omega arith
pass-falls nodes s t old new (by_arguments {p = p} m l q e) =
    let r : length new.pending ≡ length old.pending + p.count = ap length q ∙ length-append old.pending (argument_pairs p p.count) ∙ ap (λ n. length old.pending + n) (length-arguments p p.count) in
    omega arith
