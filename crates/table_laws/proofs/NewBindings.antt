-- Bindings that are new to others, and chains of stores by their bindings alone.
use Rattle.std.proofs.Common.{◌≡◌, ◌+◌, List, [], ◌∷◌, ◌++◌, None, sym, ◌∙◌, subst, append_assoc, append-nil, arith}
use Rattle.std.specs.List.{AllByRecursion}
use Rattle.akl_terms.specs.declared.name.Var.{Var}
use Rattle.akl_terms.specs.declared.term.Node.{Node}
use Rattle.akl_terms.specs.declared.term.Term.{Term}
use Rattle.akl_terms.specs.Equal.{IsTold}
use Rattle.rational_unify.specs.Forms.{IsFormOf}
use Rattle.rational_unify.specs.Known.{found_in}
use Rattle.rational_unify.specs.Older.{LeadOlder}
use Rattle.rational_unify.specs.Solving.{BindNew, bindings_in}
use Rattle.rational_unify.proofs.Chains.{found-first, found-second, found-none}
use Rattle.local_store.specs.Stored.{Stored, joins}
use Rattle.local_store.specs.Chained.{bindings_from, times_bound, BindOnce, IsSolvedChain}
use Rattle.local_store.proofs.Layers.{joins-found}
use Rattle.local_store.proofs.Once.{times-append, times-joins, once-as, new-once, once-found}

-- what was new to some bindings is new to others that bind none of its variables
new_behind : (known now seen part : List (Var × Term)) → BindNew (known ++ seen) part → AllByRecursion (λ (b : Var × Term). found_in now b.0 ≡ None) part → BindNew (now ++ seen) part
new_behind known now seen [] n h = tt
new_behind known now seen (b ∷ part) n h = (
  found-second now seen b.0 h.0 ∙ (found-none known seen b.0 n.0).1,
  subst (λ (bs : List (Var × Term)). BindNew bs part) (sym (append_assoc now seen (b ∷ [])))
      (new_behind known now (seen ++ b ∷ []) part (subst (λ (bs : List (Var × Term)). BindNew bs part) (append_assoc known seen (b ∷ [])) n.1) h.1),
)

pub new_elsewhere : (known now part : List (Var × Term)) → BindNew known part → AllByRecursion (λ (b : Var × Term). found_in now b.0 ≡ None) part → BindNew now part
new_elsewhere known now part n h = subst (λ (bs : List (Var × Term)). BindNew bs part) (append-nil now)
    (new_behind known now [] part (subst (λ (bs : List (Var × Term)). BindNew bs part) (sym (append-nil known)) n) h)

-- what joined bindings that are solved is new to them, and leads to older variables
module _ (nodes : List Node) (own around part : List (Var × Term)) (once : BindOnce (joins own part ++ around)) (older : LeadOlder nodes (joins own part ++ around)) where
  apart : BindOnce (part ++ (own ++ around))
  apart = once-as (joins own part ++ around) (part ++ (own ++ around)) (λ x.
      let a : times_bound x (joins own part ++ around) ≡ times_bound x (joins own part) + times_bound x around = times-append x (joins own part) around in
      let b : times_bound x (joins own part) ≡ times_bound x own + times_bound x part = times-joins x own part in
      let c : times_bound x (part ++ (own ++ around)) ≡ times_bound x part + times_bound x (own ++ around) = times-append x part (own ++ around) in
      let e : times_bound x (own ++ around) ≡ times_bound x own + times_bound x around = times-append x own around in
      omega (arith, a, b, c, e)) once

  pub new_part : BindNew (own ++ around) part
  new_part = new-once (own ++ around) part apart

  pub older_part : LeadOlder nodes part
  older_part = record {
    each = λ x y t e v. older.each x y t (joins-found own around part new_part x ∙ sym (once-found part (own ++ around) apart x) ∙ found-first part (own ++ around) x t e) v;
  }

-- whether a chain is solved is told by its bindings
pub chain_by : (nodes : List Node) (ss ts : List Stored) → bindings_from ss ≡ bindings_from ts → IsSolvedChain nodes ss → IsSolvedChain nodes ts
chain_by nodes ss ts e h = record {
  form = subst (λ (bs : List (Var × Term)). IsFormOf nodes bs (IsTold (bindings_in nodes bs))) e h.form;
  older = subst (LeadOlder nodes) e h.older;
  once = subst BindOnce e h.once;
}
