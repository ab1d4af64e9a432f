-- What is new to a program.
use Rattle.std.proofs.Common.{◌≡◌, ℕ, zero, suc, List, [], ◌∷◌, map, slice_get, Some, refl, sym, ap, ◌∙◌}
use Rattle.std.specs.Prelude.{All}
use Rattle.std.proofs.lemmas.List.Elements.{All-weaker}
use Rattle.std.proofs.lemmas.Option.{slice_get_within}
use Rattle.akl_terms.specs.declared.program.Definition.{Definition}
use Rattle.akl_syntax.specs.declared.source.Head.{Head}
use Rattle.akl_syntax.specs.declared.source.Head.TheVariants as heads
use Rattle.akl_syntax.specs.Clauses.{Clause}
use Rattle.clause_keys.specs.declared.callee.Callee.{Callee}
use Rattle.clause_keys.specs.Keys.{defined_by, called_by, IsAbsent}
use Rattle.clause_keys.proofs.Defined.{lifted_number, head_number, number_defined, number_called}
use Rattle.clause_store.specs.Conditions.{IsNewLifted}
use Rattle.clause_store.proofs.Collected.{place_is}

-- the definition at a place
pub definition_at : (ds : List Definition) (i : ℕ) (k : Callee) → slice_get (map called_by ds) i ≡ Some k → (d : Definition) × ((slice_get ds i ≡ Some d) × (called_by d ≡ k))
definition_at [] i k e = absurd cc
definition_at (d ∷ ds) zero k e = (d, (refl, cc))
definition_at (d ∷ ds) (suc i) k e = definition_at ds i k e

lifted_absent : (ds : List Definition) (c : Clause) (h : Head) → c.head ≡ h → IsNewLifted ds h → IsAbsent (map called_by ds) (defined_by c)
lifted_absent ds c (heads.Named s) e p = absurd p
lifted_absent ds c (heads.Lifted number inside) e p = record {
  absent = λ i f. (
      let r = definition_at ds i (defined_by c) f in
      p r.0 (i, slice_get_within ds i r.0 r.1.0, place_is ds i r.0 r.1.0) (sym (number_called r.0) ∙ ap lifted_number r.1.1 ∙ number_defined c ∙ ap head_number e));
}

pub all_absent : (ds : List Definition) (cs : List Clause) → All (λ c. IsNewLifted ds c.head) cs → All (λ c. IsAbsent (map called_by ds) (defined_by c)) cs
all_absent ds cs = All-weaker (λ c. IsNewLifted ds c.head) (λ c. IsAbsent (map called_by ds) (defined_by c)) (λ c p. lifted_absent ds c c.head refl p) cs
