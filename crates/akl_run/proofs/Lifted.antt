-- What is read and passes the tests of loading can be loaded once it is lifted.
use Rattle.std.proofs.Common.{◌≡◌, ℕ, ◌+◌, ◌*◌, ◌<◌, ◌≤◌, List, length, map, Some, sym, ap, subst, ◌∙◌, arith}
use Rattle.std.specs.Prelude.{slice_get}
use Rattle.std.specs.List.{All, Contains}
use Rattle.akl_terms.specs.declared.program.Definition.{Definition}
use Rattle.akl_terms.specs.declared.program.Op.{Op}
use Rattle.akl_terms.specs.declared.program.Program.{Program}
use Rattle.akl_terms.specs.declared.program.Query as program_query
use Rattle.akl_syntax.specs.Goals.{goals}
use Rattle.akl_syntax.specs.Clauses.{Clause, Query}
use Rattle.akl_syntax.specs.Sizes.{clauses_size}
use Rattle.clause_keys.specs.declared.callee.Callee.{Callee}
use Rattle.clause_keys.specs.Keys.{called_by, defined_by}
use Rattle.clause_keys.specs.Conditions.{IsClauseLoadable, AreUnmixed, AreAlone}
use Rattle.clause_keys.proofs.Defined.{lifted_number, number_called}
use Rattle.clause_checks.specs.Accepted.{AreAccepted, IsAccepted}
use Rattle.clause_store.specs.Conditions.{IsNewLifted}
use Rattle.clause_store.specs.Loaded.{IsProgramOf, IsQueryOf, IsDefinitionOf}
use Rattle.clause_store.proofs.Defined.{of_all, of_defined}
use Rattle.akl_lift.specs.Lifting.{local_in_all, lifted_clauses, query_without, made_of_query}
use Rattle.akl_lift.proofs.Hiding.{length-hidden}
use Rattle.akl_lift.proofs.Programs.{clauses_choices_size}
use Rattle.akl_lift.proofs.Loadable.{program_loads}
use Rattle.akl_lift.proofs.Unmixed.{program_unmixed}
use Rattle.akl_lift.proofs.Alone.{program_alone, query_alone}
use Rattle.akl_lift.proofs.Sized.{program_paid}
use Rattle.akl_lift.proofs.Numbers.{DefinesBelow, program_below}
use Rattle.akl_lift.proofs.Operators.{IsMadeOf, operators_all}
use Rattle.akl_lift.proofs.Asked.{LoadsOver, query_loads, query_made}
use Rattle.box_tree.specs.Tables.{HasVariables}
use Rattle.akl_run.specs.Loads.{first_asked, IsProgramText, IsQueryText}
use Rattle.akl_run.proofs.ReadTexts.{program_small, program_read, program_numbered, query_whole, query_numbered}

-- ---- programs
module _ (text : List ℕ) (cs : List Clause) (reads : IsProgramText text cs) where
  pub lifted_load : AreAccepted cs → All (IsClauseLoadable (map defined_by (lifted_clauses cs))) (lifted_clauses cs)
  lifted_load a = program_loads cs a.liftable (program_read reads) (program_numbered reads)

  pub lifted_unmixed : AreAccepted cs → AreUnmixed cs → AreUnmixed (lifted_clauses cs)
  lifted_unmixed a u = program_unmixed (map defined_by cs) cs u a.liftable (program_read reads)

  pub lifted_alone : AreAccepted cs → AreAlone (lifted_clauses cs)
  lifted_alone a = program_alone (map defined_by cs) cs a.liftable (program_read reads)

  pub lifted_small : AreAccepted cs → clauses_size (lifted_clauses cs) ≤ 514000000
  lifted_small a =
      let paid : clauses_size (lifted_clauses cs) ≤ 514 * clauses_size cs = program_paid cs (record { few = λ k d h. (a.liftable k d h).few; read = program_read reads; numbered = program_numbered reads }) in
      omega (arith, paid, program_small reads)

  lifted_below : AreAccepted cs → All (DefinesBelow first_asked) (lifted_clauses cs)
  lifted_below a = program_below (map defined_by cs) cs first_asked (omega (arith, clauses_choices_size cs, program_small reads)) a.liftable (program_read reads)

  -- a definition of the program has no number that a query's choice gets
  pub program_numbers : AreAccepted cs → (p : Program) → IsProgramOf (lifted_clauses cs) p → (d : Definition) (n : ℕ) → Contains p.definitions d → d.lifted ≡ Some n → n < first_asked
  program_numbers a p is d n (i, h, e) at =
      let of : IsDefinitionOf _ _ (lifted_clauses cs) d = subst (IsDefinitionOf _ _ (lifted_clauses cs)) e (is.definitions i d h) in
      let below : DefinesBelow first_asked of.first = of_all (DefinesBelow first_asked) of.found (lifted_below a) 0 of.first (omega arith) in
      let same : defined_by of.first ≡ called_by d = of_defined of.found 0 of.first (omega arith) in
      below n (ap lifted_number same ∙ number_called d ∙ at)

-- ---- queries
module _ (text : List ℕ) (q : Query) (reads : IsQueryText text q) where
  pub asked_loads : (some : List Callee) → IsAccepted some q → LoadsOver some first_asked q
  asked_loads some a = query_loads some first_asked q a.few a.liftable (query_whole reads) (query_numbered reads)

  pub asked_alone : (some : List Callee) → IsAccepted some q → AreAlone (made_of_query first_asked q)
  asked_alone some a = query_alone some first_asked q a.liftable (query_whole reads)

-- taking its choices and collecting goals out leaves a query as many variables, and once it is loaded each has its node
pub asked_few : (q r : Query) → r ≡ query_without first_asked q → length q.names ≤ 256 → length r.names ≤ 256
asked_few q r e few = subst (λ (z : Query). length z.names ≤ 256) (sym e) (omega (arith, length-hidden (local_in_all (goals q.goals)) 0 q.names, few))

pub has_variables : {base p : Program} {cs : List Clause} {loaded : program_query.Query} {first : ℕ} (q : Query) → IsQueryOf base cs q p loaded → length q.names ≤ 256 → first ≡ length base.templates.nodes → length base.templates.nodes < 4000000000 → HasVariables p loaded first
has_variables {p = p} q is few e room = record {
  fits = omega (arith, is.variables, few, e, room);
  each = λ i h. ap (λ (n : ℕ). slice_get p.templates.nodes (n + i)) e ∙ is.variables_are i (omega (arith, h, is.variables));
}

new_head : (ds : List Definition) (os : List Op) (c : Clause) → ((d : Definition) (n : ℕ) → Contains ds d → d.lifted ≡ Some n → n < first_asked) → IsMadeOf os first_asked c → IsNewLifted ds c.head
new_head ds os c numbers m =
    subst (IsNewLifted ds) (sym m.head_is) (λ d h e. let below : first_asked + m.at < first_asked = numbers d (first_asked + m.at) h e in absurd (omega (arith, below)))

pub asked_new : (some : List Callee) (ds : List Definition) (q : Query) → IsAccepted some q → ((d : Definition) (n : ℕ) → Contains ds d → d.lifted ≡ Some n → n < first_asked) → All (λ c. IsNewLifted ds c.head) (made_of_query first_asked q)
asked_new some ds q a numbers = λ k c h. new_head ds (operators_all (goals q.goals)) _ numbers (query_made some first_asked q a.liftable k c h)
