-- The ends of a solved form's chains stand for the classes of its equations.
use Rattle.std.proofs.Common.{◌≡◌, List, length, Some, None, sym, ◌∙◌, ap}
use Rattle.akl_terms.specs.declared.name.Var.{Var}
use Rattle.akl_terms.specs.declared.term.Node.{Node}
use Rattle.akl_terms.specs.declared.term.Term.{Term}
use Rattle.akl_terms.specs.Tree.{Tree, variable, head_of}
use Rattle.akl_terms.specs.Equal.{Equations, Equal, IsTold}
use Rattle.rational_unify.specs.Known.{bound_in, end_of}
use Rattle.rational_unify.specs.Forms.{IsFormOf}
use Rattle.rational_unify.proofs.Walks.{walk-again}
use Rattle.rational_unify.proofs.FormLaws.{form-holds, form-follows, form-stays, form-consistent}
use Rattle.rational_unify.proofs.Stands.{HasHead, structured-end, unstructured-end}
use Rattle.answer_text.specs.Printed.{IsFree}
use Rattle.answer_text.specs.Classes.{Represents}

module _ (nodes : List Node) (bs : List (Var × Term)) (E : Equations) (h : IsFormOf nodes bs (IsTold E)) where
  free-end : (t : Tree) (x : Var) → end_of nodes bs t ≡ variable x → IsFree E t
  free-end t x e = record {
    free = λ u g d i.
        let w : HasHead (end_of nodes bs t) = structured-end (IsTold E) (end_of nodes bs) (form-stays nodes bs (IsTold E) h) (form-holds nodes bs (IsTold E) h) (form-follows nodes bs (IsTold E) h) t u g d i in
        let z : None ≡ Some w.0 = ap head_of (sym e) ∙ w.1 in absurd cc;
  }

  one_end : (s t : Tree) (x y : Var) → end_of nodes bs s ≡ variable x → end_of nodes bs t ≡ variable y → Equal E s t → x ≡ y
  one_end s t x y p q e =
      let f : IsFree E s = free-end s x p in
      let w : end_of nodes bs s ≡ end_of nodes bs t = unstructured-end (IsTold E) (end_of nodes bs) (form-stays nodes bs (IsTold E) h) (form-holds nodes bs (IsTold E) h) (form-follows nodes bs (IsTold E) h) s t f.free e in
      let v : variable x ≡ variable y = sym p ∙ w ∙ q in cc

  -- a solved form of equations represents them
  pub form_represents : Represents E (end_of nodes bs)
  form_represents = record {
    consistent = form-consistent nodes bs (IsTold E) h;
    equal = form-follows nodes bs (IsTold E) h;
    free = free-end;
    one = one_end;
    stays = λ t x e. ap (end_of nodes bs) (sym e) ∙ sym (walk-again (bound_in nodes bs) (length bs) h.solved.ends t) ∙ e;
  }
