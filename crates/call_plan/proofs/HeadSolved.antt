-- What is found for the head of a clause over a chain that is known to be solved.
use Rattle.std.proofs.Common.{◌≡◌, ℕ, zero, suc, List, [], ◌∷◌, ◌++◌, length, true, refl, ap, subst}
use Rattle.std.proofs.lemmas.Bool.{false≢true}
use Rattle.akl_terms.specs.declared.name.Name.{Name}
use Rattle.akl_terms.specs.declared.name.Var.{Var}
use Rattle.akl_terms.specs.declared.term.Node.{Node}
use Rattle.akl_terms.specs.declared.term.Term.{Term}
use Rattle.akl_terms.specs.declared.term.Term.TheVariants.{Mol}
use Rattle.akl_terms.specs.declared.term.Equation as code
use Rattle.akl_terms.specs.declared.program.Clause.{Clause}
use Rattle.rational_unify.specs.declared.solver.Solved.{Solved}
use Rattle.rational_unify.specs.Older.{AddsOlder, KeepsOlder}
use Rattle.rational_unify.specs.Solving.{Solves, IsSolution, IsClashOf}
use Rattle.local_store.specs.Stored.{Stored, with_bindings}
use Rattle.local_store.specs.Chained.{bindings_from, IsSolvedChain}
use Rattle.rule_plan.specs.Made.{heads, store_with, IsNewStore}
use Rattle.plain_heads.specs.declared.row.Row.{Row}
use Rattle.plain_heads.specs.Plain.{pairs_of, pairs_in, HaveClash}
use Rattle.rule_plan.proofs.NewStores.{new_solved}
use Rattle.call_plan.specs.declared.heads.Arguments.{Arguments}
use Rattle.call_plan.specs.Sifted.{head_codes, Clashes}

-- the pairs of two rows are the equations of a head
pairs_heads : (f : Name) (i n : ℕ) (g : Name) (j m : ℕ) → pairs_of f i n g j m ≡ heads f i n g j m
pairs_heads f i zero g j m = refl
pairs_heads f i (suc n) g j zero = refl
pairs_heads f i (suc n) g j (suc m) = ap (λ (l : List code.Equation). l ++ record { left = Mol i f; right = Mol j g } ∷ []) (pairs_heads f (suc i) n g (suc j) m)

module _ (nodes : List Node) (path : List Stored) (a : Arguments) (frame : Name) (c : Clause) (whole : IsSolvedChain nodes path) where
  pub head_clashes : (left right : Term) → Solves nodes (bindings_from path) (head_codes a frame c) (Solved.Clash left right) → AddsOlder nodes (bindings_from path) (Solved.Clash left right) → Clashes nodes path a frame c
  head_clashes left right solves older = λ k. false≢true ((new_solved nodes path frame (head_codes a frame c) (Solved.Clash left right) whole solves older).is_solved.1 (refl, k))

  pub head_added : (bs : List (Var × Term)) → Solves nodes (bindings_from path) (head_codes a frame c) (Solved.Added bs) → AddsOlder nodes (bindings_from path) (Solved.Added bs)
      → IsNewStore nodes path (length path) frame (head_codes a frame c) (with_bindings (store_with frame) bs) true
  head_added bs solves older = new_solved nodes path frame (head_codes a frame c) (Solved.Added bs) whole solves older

  -- the same of arguments and a head that were met in one pass
  abbrev pub arguments : Row
  arguments = record { frame = a.frame; first = a.first; count = a.count }

  abbrev pub head : Row
  head = record { frame = frame; first = c.first; count = c.count }

  codes : pairs_in arguments head ≡ head_codes a frame c
  codes = pairs_heads a.frame a.first a.count frame c.first c.count

  pub met_clashes : HaveClash nodes (bindings_from path) (pairs_in arguments head) → Clashes nodes path a frame c
  met_clashes h = head_clashes h.left h.right (subst (λ (es : List code.Equation). IsClashOf nodes (bindings_from path) es h.left h.right) codes h.clash) tt

  pub met_binds : (bs : List (Var × Term)) → IsSolution nodes (bindings_from path) (pairs_in arguments head) bs → KeepsOlder nodes (bindings_from path) (bindings_from path ++ bs)
      → IsNewStore nodes path (length path) frame (head_codes a frame c) (with_bindings (store_with frame) bs) true
  met_binds bs h o = head_added bs (subst (λ (es : List code.Equation). IsSolution nodes (bindings_from path) es bs) codes h) o
