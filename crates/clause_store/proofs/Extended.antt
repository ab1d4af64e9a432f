-- A program with more clauses behind its own.
use Rattle.std.proofs.Common.{◌≡◌, ℕ, zero, suc, ◌<◌, List, [], ◌∷◌, ◌++◌, length, map, slice_get, get_or, Some, refl, sym, ap, subst, ◌∙◌, arith}
use Rattle.std.specs.Prelude.{All}
use Rattle.std.proofs.lemmas.List.{append-nil, map-append}
use Rattle.std.proofs.lemmas.List.Elements.{All-head, All-tail, All-append}
use Rattle.akl_terms.proofs.Numbering.{slice_get-front}
use Rattle.akl_terms.specs.declared.program.Definition.{Definition}
use Rattle.akl_terms.specs.declared.program.Program.{Program}
use Rattle.akl_terms.specs.declared.program.Query as program_query
use Rattle.akl_terms.specs.Template.{IsArranged}
use Rattle.term_syntax.specs.Tree.{Tree}
use Rattle.akl_syntax.specs.Clauses.{Clause, Query}
use Rattle.clause_keys.specs.declared.callee.Callee.{Callee}
use Rattle.clause_keys.specs.Keys.{defined_by, called_by, IsAbsent}
use Rattle.clause_store.specs.Nodes.{IsNodeOf}
use Rattle.clause_store.specs.Loaded.{AreOf, no_clauses, own, other, IsDefinitionOf, IsCell, IsProgramOf, IsQueryOf}
use Rattle.clause_store.specs.Fitting.{IsOver}
use Rattle.clause_store.proofs.Fitting.{program_fits, codes_fit}
use Rattle.clause_store.proofs.Collected.{none_of, collects_both}
use Rattle.clause_store.proofs.Defined.{of_all, of_defined}
use Rattle.clause_store.proofs.Loads.{cell_stays}
use Rattle.clause_store.proofs.Renamed.{loaded_over}
use Rattle.clause_store.proofs.Trees.{still_node_of}

-- ---- the clauses of a definition among two lists
of_both : {k : Callee} {cs ds found more : List Clause} → AreOf k cs found → AreOf k ds more → AreOf k (cs ++ ds) (found ++ more)
of_both no_clauses q = q
of_both (own e p) q = own e (of_both p q)
of_both (other e p) q = other e (of_both p q)

of_nothing : (k : Callee) (cs : List Clause) → All (λ c. defined_by c ≡ k → ⊥) cs → AreOf k cs []
of_nothing k [] a = no_clauses
of_nothing k (c ∷ cs) a = other (All-head (λ c. defined_by c ≡ k → ⊥) c cs a) (of_nothing k cs (All-tail (λ c. defined_by c ≡ k → ⊥) c cs a))

called_at : (ds : List Definition) (i : ℕ) (d : Definition) → i < length ds → slice_get (map called_by ds) i ≡ Some (called_by (get_or ds i d))
called_at [] i d h = absurd (omega arith)
called_at (x ∷ ds) zero d h = refl
called_at (x ∷ ds) (suc i) d h = called_at ds i d (omega arith)

module _ (cs more : List Clause) (known : List Callee) (absent : All (λ c. IsAbsent known (defined_by c)) more) where
  -- a definition of the first clauses
  known_definition : {all : List Callee} {P Q : ℕ → Tree → Type 0} (d : Definition) (i : ℕ) → slice_get known i ≡ Some (called_by d) → ((n : ℕ) (s : Tree) → P n s → Q n s)
      → ((n : ℕ) (k : Callee) → slice_get known n ≡ Some k → slice_get all n ≡ Some k) → IsDefinitionOf known P cs d → IsDefinitionOf all Q (cs ++ more) d
  known_definition d i at f g p = record {
    first = p.first;
    more = p.more;
    found = subst (λ z. AreOf (called_by d) (cs ++ more) z) (append-nil (p.first ∷ p.more)) (of_both p.found (of_nothing (called_by d) more (λ k c h e. (absent k c h).absent i (at ∙ ap Some (sym e)))));
    key = p.key;
    op = p.op;
    clauses = loaded_over f g p.clauses;
  }

  -- a definition of the others
  new_definition : {all : List Callee} {P : ℕ → Tree → Type 0} (d : Definition) → (IsAbsent known (called_by d) → AreOf (called_by d) cs []) → IsDefinitionOf all P more d → IsDefinitionOf all P (cs ++ more) d
  new_definition d none p =
      let first_is : defined_by p.first ≡ called_by d = All-head (λ c. defined_by c ≡ called_by d) p.first p.more (of_defined p.found) in
      let not_known : IsAbsent known (defined_by p.first) = All-head (λ c. IsAbsent known (defined_by c)) p.first p.more (of_all (λ c. IsAbsent known (defined_by c)) p.found absent) in
      record {
        first = p.first;
        more = p.more;
        found = of_both (none (subst (IsAbsent known) first_is not_known)) p.found;
        key = p.key;
        op = p.op;
        clauses = p.clauses;
      }

-- a program of clauses becomes that of these and the lifted ones
extended : {old new : Program} {q : Query} {l : program_query.Query} {lifted : List Clause} → IsQueryOf old lifted q new l → IsArranged new.templates.nodes → All (λ c. IsAbsent (map called_by old.definitions) (defined_by c)) lifted
    → (cs : List Clause) → IsProgramOf cs old → IsProgramOf (cs ++ lifted) new
extended {old} {new} {lifted = lifted} h a absent cs p =
    let callees : map called_by new.definitions ≡ map called_by old.definitions ++ map called_by h.added = ap (map called_by) h.definitions_are ∙ map-append called_by old.definitions h.added in
    let stays : (n : ℕ) (k : Callee) → slice_get (map called_by old.definitions) n ≡ Some k → slice_get (map called_by new.definitions) n ≡ Some k =
    λ n k e. subst (λ (z : List Callee). slice_get z n ≡ Some k) (sym callees) (slice_get-front (map called_by old.definitions) (map called_by h.added) n k e) in
    let P = IsDefinitionOf (map called_by new.definitions) (IsNodeOf new.templates) (cs ++ lifted) in
    let front : All P old.definitions = λ i d within. known_definition cs lifted (map called_by old.definitions) absent (get_or old.definitions i d) i (called_at old.definitions i d within) (still_node_of h.extends a) stays (p.definitions i d within) in
    let behind : All P h.added = λ i d within. new_definition cs lifted (map called_by old.definitions) absent (get_or h.added i d) (none_of p.collected) (h.definitions i d within) in
    record {
      collected = collects_both p.collected h.collected;
      definitions = subst (All P) (sym h.definitions_are) (All-append P old.definitions h.added front behind);
      cell = subst (λ n. IsCell new.templates n) (sym h.cell) (cell_stays h.extends p.cell);
      distinct = h.distinct;
    }

pub over : {old new : Program} {q : Query} {l : program_query.Query} {lifted : List Clause} → IsQueryOf old lifted q new l → IsArranged new.templates.nodes → All (λ c. IsAbsent (map called_by old.definitions) (defined_by c)) lifted
    → (cs : List Clause) → IsProgramOf cs old → IsOver cs lifted new l
over {new = new} {lifted = lifted} h a absent cs p =
    let program : IsProgramOf (cs ++ lifted) new = extended h a absent cs p in
    record { program = program; calls = program_fits (cs ++ lifted) new program; asked = codes_fit new.definitions program.definitions h.goals }
