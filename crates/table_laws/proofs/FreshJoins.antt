-- A chain with a part that binds other variables is solved, as both lead to older variables.
use Rattle.std.proofs.Common.{◌≡◌, List, ◌++◌, sym, ◌∙◌, ap, subst}
use Rattle.akl_terms.specs.declared.name.Var.{Var}
use Rattle.akl_terms.specs.declared.term.Node.{Node}
use Rattle.akl_terms.specs.declared.term.Term.{Term}
use Rattle.rational_unify.specs.Known.{found_in}
use Rattle.rational_unify.specs.Older.{LeadOlder}
use Rattle.rational_unify.specs.Solving.{BindNew}
use Rattle.rational_unify.proofs.OlderEnds.{LeadOlder-append}
use Rattle.local_store.specs.Stored.{Stored, joins, with_bindings}
use Rattle.local_store.specs.Chained.{bindings_from, innermost, around, replaced, BindOnce, IsSolvedChain}
use Rattle.local_store.proofs.Layers.{older-reorder, joins-found, from-innermost}
use Rattle.local_store.proofs.OlderForms.{older-chain}
use Rattle.local_store.proofs.Once.{once-joins}
use Rattle.local_store.proofs.Replaced.{replaced-list}

module _ (nodes : List Node) (now : List Stored) (still : IsSolvedChain nodes now) (part : List (Var × Term)) (fresh : BindNew (bindings_from now) part) (older : LeadOlder nodes part)
    (new : Stored) (e : new ≡ with_bindings (innermost now) part) where
  abbrev b : List (Var × Term)
  b = (innermost now).bindings

  abbrev o : List (Var × Term)
  o = bindings_from (around now)

  fresh_parts : BindNew (b ++ o) part
  fresh_parts = subst (λ (l : List (Var × Term)). BindNew l part) (from-innermost now) fresh

  list : bindings_from (replaced now new) ≡ joins b part ++ o
  list = replaced-list nodes now part new ∙ ap (λ (l : List (Var × Term)). l ++ o) (ap (λ (r : Stored). r.bindings) e)

  older_all : LeadOlder nodes ((b ++ o) ++ part)
  older_all = subst (λ (l : List (Var × Term)). LeadOlder nodes (l ++ part)) (from-innermost now) (LeadOlder-append nodes (bindings_from now) part still.older older)

  found : (y : Var) → found_in ((b ++ o) ++ part) y ≡ found_in (joins b part ++ o) y
  found y = sym (joins-found b o part fresh_parts y)

  pub fresh_joined : IsSolvedChain nodes (replaced now new)
  fresh_joined = older-chain nodes (replaced now new) (subst (LeadOlder nodes) (sym list) (older-reorder nodes ((b ++ o) ++ part) (joins b part ++ o) found older_all))
      (subst BindOnce (sym list) (once-joins b o part fresh_parts (subst BindOnce (from-innermost now) still.once)))
