-- New stores over a chain that is known to be solved.
use Rattle.std.proofs.Common.{◌≡◌, ℕ, ◌+◌, List, [], ◌∷◌, ◌++◌, length, false, refl, sym, subst, arith}
use Rattle.std.specs.Prelude.{IsTrue, ◌↔◌}
use Rattle.std.proofs.lemmas.Bool.{false≢true}
use Rattle.akl_terms.specs.declared.name.Name.{Name}
use Rattle.akl_terms.specs.declared.name.Var.{Var}
use Rattle.akl_terms.specs.declared.term.Node.{Node}
use Rattle.akl_terms.specs.declared.term.Term.{Term}
use Rattle.akl_terms.specs.declared.term.Equation as code
use Rattle.akl_terms.specs.Equal.{IsConsistentBy}
use Rattle.rational_unify.specs.declared.solver.Solved.{Solved}
use Rattle.rational_unify.specs.Older.{AddsOlder}
use Rattle.rational_unify.specs.Solving.{Solves}
use Rattle.local_store.specs.Stored.{Stored}
use Rattle.local_store.specs.Chained.{bindings_from, innermost, IsSolvedChain}
use Rattle.local_store.specs.Bound.{bound_by}
use Rattle.local_store.specs.Parts.{ToldStore}
use Rattle.local_store.specs.Telling.{Adds, added, clash, ToldAlso, AnswersTold}
use Rattle.local_store.proofs.Layers.{from-last}
use Rattle.local_store.proofs.Replaced.{tells-adds, adds-says}
use Rattle.guard_plan.proofs.Chains.{long_push}
use Rattle.rule_plan.specs.Made.{store_with, with_solved, is_added, IsNewStore}
use Rattle.rule_plan.proofs.Framed.{framed}
use Rattle.table_laws.proofs.StoreChains.{innermost_push}

-- what is found for equations comes to a store
solved_adds : (nodes : List Node) (known : List (Var × Term)) (es : List code.Equation) (old : Stored) (s : Solved) → Solves nodes known es s → AddsOlder nodes known s
    → (bound : List Var) × Adds nodes known es old (with_solved old s) (is_added s) bound
solved_adds nodes known es old (Solved.Added bindings) h o = (bound_by nodes (known ++ bindings) bindings, added bindings h o refl refl refl)
solved_adds nodes known es old (Solved.Clash left right) h o = ([], clash left right h refl refl refl)

module _ (nodes : List Node) (path : List Stored) (frame : Name) (es : List code.Equation) (s : Solved) (whole : IsSolvedChain nodes path) (solves : Solves nodes (bindings_from path) es s) (older : AddsOlder nodes (bindings_from path) s) where
  abbrev Framed : List Stored
  Framed = path ++ store_with frame ∷ []

  chain : IsSolvedChain nodes Framed
  chain = framed nodes path frame whole

  found : (bound : List Var) × Adds nodes (bindings_from Framed) es (innermost Framed) (with_solved (store_with frame) s) (is_added s) bound
  found = subst (λ (l : List (Var × Term)). (bound : List Var) × Adds nodes l es (innermost Framed) (with_solved (store_with frame) s) (is_added s) bound) (sym (from-last path (store_with frame)))
      (subst (λ (o : Stored). (bound : List Var) × Adds nodes (bindings_from path) es o (with_solved (store_with frame) s) (is_added s) bound) (sym (innermost_push path (store_with frame)))
      (solved_adds nodes (bindings_from path) es (store_with frame) s solves older))

  says : IsTrue (is_added s) ↔ IsConsistentBy (ToldAlso nodes Framed es)
  says = adds-says nodes Framed (length Framed) (bindings_from Framed) es (with_solved (store_with frame) s) chain.form (λ e. (refl, chain.older, chain.once)) (is_added s) found.0 found.1

  -- with the frame, and what is found for equations over the chain
  pub new_solved : IsNewStore nodes path (length path) frame es (with_solved (store_with frame) s) (is_added s)
  new_solved = record {
    tells = tells-adds nodes Framed (length path + 1) (bindings_from Framed) es (with_solved (store_with frame) s) chain.form (λ e. (refl, chain.older, chain.once)) (is_added s) found.0 found.1;
    is_solved = (λ h. (refl, says.0 h), λ w. says.1 w.1);
  }

-- over stores that aren't all known to be solved together nothing more is known
pub new_told : (nodes : List Node) (path : List Stored) (known : ℕ) (frame : Name) (es : List code.Equation) (t : ToldStore) → (known ≡ length path → ⊥) → AnswersTold nodes (path ++ store_with frame ∷ []) known es t
    → IsNewStore nodes path known frame es t.store false
new_told nodes path known frame es t other a = record {
  tells = record {
    frames = a.tells.frames;
    ports = a.tells.ports;
    stands = a.tells.stands;
    solved = λ l k. absurd (other (let e : length (path ++ store_with frame ∷ []) ≡ length path + 1 = long_push path (store_with frame) in omega arith));
  };
  is_solved = (λ h. absurd (false≢true h), λ w. absurd (other w.0));
}
