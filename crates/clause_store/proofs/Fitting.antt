-- The calls of a loaded program have as many arguments as the clauses that they call.
use Rattle.std.proofs.Common.{◌≡◌, ℕ, zero, suc, List, [], ◌∷◌, length, map, slice_get, Option, Some, None, refl, sym, ap, subst, ◌∙◌}
use Rattle.std.specs.Prelude.{All}
use Rattle.std.proofs.lemmas.Option.{slice_get_within}
use Rattle.std.proofs.lemmas.List.Elements.{All-nil, All-cons, All-head, All-tail, All-weaker, All-contains}
use Rattle.akl_terms.specs.declared.program.Code.{Code}
use Rattle.akl_terms.specs.declared.program.Key.{Key}
use Rattle.akl_terms.specs.declared.program.Op.{Op}
use Rattle.akl_terms.specs.declared.program.Op.TheVariants as ops
use Rattle.akl_terms.specs.declared.program.Clause as program
use Rattle.akl_terms.specs.declared.program.Definition.{Definition}
use Rattle.akl_terms.specs.declared.program.Program.{Program}
use Rattle.akl_syntax.specs.declared.source.Head.{Head}
use Rattle.akl_syntax.specs.declared.source.Head.TheVariants as heads
use Rattle.term_syntax.specs.Tree.{Tree}
use Rattle.akl_syntax.specs.Goals.{Goal}
use Rattle.akl_syntax.specs.Clauses.{Clause}
use Rattle.clause_keys.specs.declared.callee.Callee.{Callee}
use Rattle.clause_keys.specs.declared.callee.Callee.TheVariants.{Named, Lifted, Collecting}
use Rattle.clause_keys.specs.Keys.{lifted_by, by_head, defined_by, called, called_by, arity_of}
use Rattle.clause_store.specs.Codes.{IsCode, fail, equal, arithmetic, open_port, send, calls, calls_lifted, collects, AreCodes, no_codes, true_goal, a_code}
use Rattle.clause_store.specs.Loaded.{AreLoaded, none_loaded, one_loaded, IsDefinitionOf, IsProgramOf}
use Rattle.clause_store.specs.Fitting.{HasArguments, IsCollectedBy, IsFitting, IsFittingClause, HasFittingCalls}
use Rattle.clause_store.proofs.Collected.{place_is}
use Rattle.clause_store.proofs.Defined.{of_defined}
use Rattle.clause_store.proofs.NewLifted.{definition_at}

-- ---- clauses have as many arguments as what they define
abbrev arguments_of : Callee → ℕ
arguments_of (Named key) = key.arity
arguments_of (Lifted number n) = n
arguments_of (Collecting number n) = n

lifted_arguments : (op : Op) (number n : ℕ) → arguments_of (lifted_by op number n) ≡ n
lifted_arguments ops.Condition number n = refl
lifted_arguments ops.Commit number n = refl
lifted_arguments ops.Choice number n = refl
lifted_arguments ops.Collect number n = refl

by_head_arguments : (op : Op) (h : Head) (n : ℕ) → arguments_of (by_head op h n) ≡ n
by_head_arguments op (heads.Named s) n = refl
by_head_arguments op (heads.Lifted number inside) n = lifted_arguments op number n

defined_arguments : (c : Clause) (k : Callee) → defined_by c ≡ k → length c.arguments ≡ arguments_of k
unfolding defined_by
defined_arguments c k e = sym (by_head_arguments c.part.op c.head (length c.arguments)) ∙ ap arguments_of e

-- what is called by a collecting goal collects
collects_by : (op : Op) (number n m k : ℕ) → lifted_by op number n ≡ Collecting m k → op ≡ ops.Collect
collects_by ops.Condition number n m k e = absurd cc
collects_by ops.Commit number n m k e = absurd cc
collects_by ops.Choice number n m k e = absurd cc
collects_by ops.Collect number n m k e = refl

called_collects : (op : Op) (o : Option ℕ) (key : Key) (n m k : ℕ) → called op o key n ≡ Collecting m k → op ≡ ops.Collect
called_collects op None key n m k e = absurd cc
called_collects op (Some number) key n m k e = collects_by op number n m k e

loaded_arguments : {callees : List Callee} {Is : ℕ → Tree → Type 0} {cs : List Clause} {ls : List program.Clause} (k : Callee) → AreLoaded callees Is cs ls → All (λ c. defined_by c ≡ k) cs → All (λ l. l.count ≡ arguments_of k) ls
loaded_arguments k none_loaded a = All-nil (λ l. l.count ≡ arguments_of k)
loaded_arguments k (one_loaded {c = c} {cs = cs} {loaded = l} {more = ls} h p) a =
    All-cons (λ l. l.count ≡ arguments_of k) l ls (h.count ∙ defined_arguments c k (All-head (λ c. defined_by c ≡ k) c cs a)) (loaded_arguments k p (All-tail (λ c. defined_by c ≡ k) c cs a))

-- ---- calls
-- the definition at a place is called so
is_called : (ds : List Definition) (i : ℕ) (k : Callee) (d : Definition) → slice_get (map called_by ds) i ≡ Some k → slice_get ds i ≡ Some d → called_by d ≡ k
is_called [] i k d e f = absurd cc
is_called (x ∷ ds) zero k d e f = let same : x ≡ d = cc in ap called_by (sym same) ∙ cc
is_called (x ∷ ds) (suc i) k d e f = is_called ds i k d e f

module _ {cs : List Clause} (ds : List Definition) {Is : ℕ → Tree → Type 0} (definitions : All (IsDefinitionOf (map called_by ds) Is cs) ds) where
  called_arguments : (i : ℕ) (k : Callee) → slice_get (map called_by ds) i ≡ Some k → HasArguments ds i (arguments_of k)
  called_arguments i k e =
      let at = definition_at ds i k e in
      let d : Definition = at.0 in
      let p : IsDefinitionOf (map called_by ds) Is cs d = All-contains (IsDefinitionOf (map called_by ds) Is cs) ds d definitions (i, slice_get_within ds i d at.1.0, place_is ds i d at.1.0) in
      record { definition = d; there = at.1.0; clauses = subst (λ z. All (λ c. c.count ≡ arguments_of z) d.clauses) at.1.1 (loaded_arguments (called_by d) p.clauses (of_defined p.found)) }

  collected_arguments : (i m n : ℕ) → slice_get (map called_by ds) i ≡ Some (Collecting m n) → IsCollectedBy ds i n
  collected_arguments i m n e =
      let called = called_arguments i (Collecting m n) e in
      record { called = called; collects = called_collects called.definition.op called.definition.lifted called.definition.key (arity_of called.definition.clauses) m n (is_called ds i (Collecting m n) called.definition e called.there) }

  code_fits : {P : ℕ → Tree → Type 0} {g : Goal} {c : Code} → IsCode (map called_by ds) P g c → IsFitting ds c
  code_fits (fail e) = tt
  code_fits (equal e p q) = tt
  code_fits (arithmetic e p q) = tt
  code_fits (open_port e p q) = tt
  code_fits (send e p q) = tt
  code_fits (calls e at p) = called_arguments _ _ at
  code_fits (calls_lifted at p) = called_arguments _ _ at
  code_fits (collects at p q) = collected_arguments _ _ _ at

  pub codes_fit : {P : ℕ → Tree → Type 0} {gs : List Goal} {codes : List Code} → AreCodes (map called_by ds) P gs codes → All (IsFitting ds) codes
  codes_fit no_codes = All-nil (IsFitting ds)
  codes_fit (true_goal e p) = codes_fit p
  codes_fit (a_code {c = c} {cs = codes} h p) = All-cons (IsFitting ds) c codes (code_fits h) (codes_fit p)

  clauses_fit : {P : ℕ → Tree → Type 0} {found : List Clause} {ls : List program.Clause} → AreLoaded (map called_by ds) P found ls → All (IsFittingClause ds) ls
  clauses_fit none_loaded = All-nil (IsFittingClause ds)
  clauses_fit (one_loaded {loaded = l} {more = ls} h p) = All-cons (IsFittingClause ds) l ls (record { guard = codes_fit h.guard; body = codes_fit h.body }) (clauses_fit p)

  pub definitions_fit : All (λ d. All (IsFittingClause ds) d.clauses) ds
  definitions_fit = All-weaker (IsDefinitionOf (map called_by ds) Is cs) (λ d. All (IsFittingClause ds) d.clauses) (λ d p. clauses_fit p.clauses) ds definitions

pub program_fits : (cs : List Clause) (p : Program) → IsProgramOf cs p → HasFittingCalls p
program_fits cs p h = record { each = definitions_fit p.definitions h.definitions }
