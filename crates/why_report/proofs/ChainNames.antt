-- What is written by the ends of chains is written by all equations for which the stores stand.
use Rattle.std.proofs.Common.{◌≡◌, ℕ, List, [], ◌∷◌, map, sym, ◌∙◌, subst, inl, inr}
use Rattle.std.specs.List.{AllByRecursion}
use Rattle.akl_terms.specs.declared.name.Var.{Var}
use Rattle.akl_terms.specs.declared.term.Node.{Node}
use Rattle.akl_terms.specs.declared.term.Term.{Term}
use Rattle.akl_terms.specs.declared.program.ShownTerm.{ShownTerm}
use Rattle.akl_terms.specs.Tree.{Tree, variable}
use Rattle.akl_terms.specs.Equal.{Equations, IsTold, Equal, turned, joined, IsStructured}
use Rattle.akl_terms.specs.Standing.{StandFor}
use Rattle.akl_terms.proofs.StandingLaws.{StandFor-back}
use Rattle.constraint_laws.specs.Standing.{StandsForConsistent}
use Rattle.constraint_laws.proofs.Stands.{structured_stands, variable_stands}
use Rattle.rational_unify.specs.Known.{end_of}
use Rattle.rational_unify.specs.Forms.{IsFormOf}
use Rattle.rational_unify.proofs.FormLaws.{form-holds, form-follows, form-stays, form-consistent}
use Rattle.rational_unify.proofs.Stands.{unstructured-end}
use Rattle.local_store.specs.Stored.{Stored}
use Rattle.local_store.specs.Chained.{ToldBy, equations_of}
use Rattle.local_store.proofs.FormEnds.{has_head, unheaded, structured}
use Rattle.box_tree.specs.Tables.{shown_tree}
use Rattle.why_laws.specs.Waiting.{Waiting}
use Rattle.why_report.specs.Texts.{IsVariableText, AreWaitingLines}
use Rattle.why_report.specs.Written.{IsEndText, IsChainText}
use Rattle.why_report.proofs.NamedTexts.{name_as, lines_as}

module _ (nodes : List Node) (ss : List Stored) (bs : List (Var × Term)) (f : IsFormOf nodes bs (ToldBy nodes ss)) (shown : List ShownTerm) where
  abbrev F : Equations
  F = equations_of nodes ss

  module _ (x : Var) (text : List ℕ) (h : IsEndText nodes bs shown x text) (E : Equations) (stands : StandFor (ToldBy nodes ss) (IsTold E)) (free : IsStructured E x → ⊥) where
    forth : StandsForConsistent F E
    forth = record { stands = stands; consistent = form-consistent nodes bs (IsTold F) f }

    back : StandsForConsistent E F
    back = record { stands = StandFor-back stands; consistent = stands.to forth.consistent }

    unstructured : IsStructured (equations_of nodes ss) x → ⊥
    unstructured s = free (structured_stands F E forth x s)

    end : (r : Var) × (end_of nodes bs (variable x) ≡ variable r)
    end = elim (has_head (end_of nodes bs (variable x))) [ inl k ↦ absurd (unstructured (structured nodes bs F f x k)) | inr k ↦ unheaded (end_of nodes bs (variable x)) k ]

    to_end : (t : Tree) → end_of nodes bs t ≡ variable end.0 → Equal E t (variable x)
    to_end t e = variable_stands F E forth t x unstructured
        (joined (subst (λ (u : Tree). Equal F t u) e (form-follows nodes bs (IsTold F) f t)) (turned (subst (λ (u : Tree). Equal F (variable x) u) end.1 (form-follows nodes bs (IsTold F) f (variable x)))))

    same_end : (t : Tree) → Equal E t (variable x) → end_of nodes bs t ≡ variable end.0
    same_end t e = sym (unstructured-end (IsTold F) (end_of nodes bs) (form-stays nodes bs (IsTold F) f) (form-holds nodes bs (IsTold F) f) (form-follows nodes bs (IsTold F) f) (variable x) t
        (λ u d q p. unstructured (u, d, q, p)) (turned (variable_stands E F back t x free e))) ∙ end.1

    is_text : IsVariableText E (map (shown_tree nodes) shown) x text
    is_text = name_as (λ (t : Tree). end_of nodes bs t ≡ variable end.0) (λ (t : Tree). Equal E t (variable x)) to_end same_end x (map (shown_tree nodes) shown) text (h end.0 end.1)

  pub end_chain : (x : Var) (text : List ℕ) → IsEndText nodes bs shown x text → IsChainText nodes ss shown x text
  end_chain x text h E stands free = is_text x text h E stands free

  all_goals : (Q : Var → Type 0) → ((x : Var) → Q x) → (xs : List Var) → AllByRecursion Q xs
  all_goals Q h [] = tt
  all_goals Q h (x ∷ xs) = (h x, all_goals Q h xs)

  all_waiting : (Q : Var → Type 0) → ((x : Var) → Q x) → (ws : List Waiting) → AllByRecursion (λ (w : Waiting). AllByRecursion Q w.on) ws
  all_waiting Q h [] = tt
  all_waiting Q h (w ∷ ws) = (all_goals Q h w.on, all_waiting Q h ws)

  pub lines_chain : (number : ℕ) (ws : List Waiting) (text : List ℕ) → AreWaitingLines (IsEndText nodes bs shown) number ws text → AreWaitingLines (IsChainText nodes ss shown) number ws text
  lines_chain number ws text h = lines_as (IsEndText nodes bs shown) (IsChainText nodes ss shown) number ws text (all_waiting (λ (x : Var). (t : List ℕ) → IsEndText nodes bs shown x t → IsChainText nodes ss shown x t) end_chain ws) h
