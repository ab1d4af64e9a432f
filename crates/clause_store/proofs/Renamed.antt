-- What is said of nodes holds of other words about nodes that it implies.
use Rattle.std.proofs.Common.{◌≡◌, ℕ, List, Option, Some}
use Rattle.std.specs.Prelude.{All, slice_get}
use Rattle.std.proofs.lemmas.List.Elements.{All-weaker}
use Rattle.akl_terms.specs.declared.program.Code.{Code}
use Rattle.akl_terms.specs.declared.program.Clause as program
use Rattle.akl_terms.specs.declared.program.Definition.{Definition}
use Rattle.term_syntax.specs.Tree.{Tree, Trees}
use Rattle.akl_syntax.specs.Goals.{Goal}
use Rattle.akl_syntax.specs.Clauses.{Clause}
use Rattle.clause_keys.specs.declared.callee.Callee.{Callee}
use Rattle.clause_store.specs.Nodes.{AreNodes, no_nodes, a_node}
use Rattle.clause_store.specs.Codes.{IsCode, fail, equal, arithmetic, open_port, send, calls, calls_lifted, collects, AreCodes, no_codes, true_goal, a_code}
use Rattle.clause_store.specs.Loaded.{IsCollected, none_collected, a_collected, IsClauseOf, AreLoaded, none_loaded, one_loaded, IsDefinitionOf}

module _ {P Q : ℕ → Tree → Type 0} (f : (n : ℕ) (s : Tree) → P n s → Q n s) where
  pub nodes_as : {first : ℕ} {ss : Trees} → AreNodes P first ss → AreNodes Q first ss
  nodes_as no_nodes = no_nodes
  nodes_as (a_node p q) = a_node (f _ _ p) (nodes_as q)

  pub collected_as : {o : Option Tree} {n : Option ℕ} → IsCollected P o n → IsCollected Q o n
  collected_as none_collected = none_collected
  collected_as (a_collected p) = a_collected (f _ _ p)

-- over more callees
module _ {P Q : ℕ → Tree → Type 0} {callees more : List Callee} (f : (n : ℕ) (s : Tree) → P n s → Q n s) (g : (d : ℕ) (k : Callee) → slice_get callees d ≡ Some k → slice_get more d ≡ Some k) where
  code_over : {g : Goal} {c : Code} → IsCode callees P g c → IsCode more Q g c
  code_over (fail e) = fail e
  code_over (equal e p q) = equal e (f _ _ p) (f _ _ q)
  code_over (arithmetic e p q) = arithmetic e (f _ _ p) (f _ _ q)
  code_over (open_port e p q) = open_port e (f _ _ p) (f _ _ q)
  code_over (send e p q) = send e (f _ _ p) (f _ _ q)
  code_over (calls e d p) = calls e (g _ _ d) (nodes_as f p)
  code_over (calls_lifted d p) = calls_lifted (g _ _ d) (nodes_as f p)
  code_over (collects d p q) = collects (g _ _ d) (nodes_as f p) (f _ _ q)

  codes_over : {gs : List Goal} {cs : List Code} → AreCodes callees P gs cs → AreCodes more Q gs cs
  codes_over no_codes = no_codes
  codes_over (true_goal e p) = true_goal e (codes_over p)
  codes_over (a_code p q) = a_code (code_over p) (codes_over q)

  clause_over : {c : Clause} {l : program.Clause} → IsClauseOf callees P c l → IsClauseOf more Q c l
  clause_over p = record { variables = p.variables; count = p.count; arguments = nodes_as f p.arguments; guard = codes_over p.guard; body = codes_over p.body; collected = collected_as f p.collected }

  pub loaded_over : {cs : List Clause} {ls : List program.Clause} → AreLoaded callees P cs ls → AreLoaded more Q cs ls
  loaded_over none_loaded = none_loaded
  loaded_over (one_loaded p q) = one_loaded (clause_over p) (loaded_over q)

module _ {P Q : ℕ → Tree → Type 0} (f : (n : ℕ) (s : Tree) → P n s → Q n s) where
  pub codes_as : {callees : List Callee} {gs : List Goal} {cs : List Code} → AreCodes callees P gs cs → AreCodes callees Q gs cs
  codes_as p = codes_over f (λ d k e. e) p

  pub loaded_as : {callees : List Callee} {cs : List Clause} {ls : List program.Clause} → AreLoaded callees P cs ls → AreLoaded callees Q cs ls
  loaded_as p = loaded_over f (λ d k e. e) p

  definition_as : {callees : List Callee} {cs : List Clause} {d : Definition} → IsDefinitionOf callees P cs d → IsDefinitionOf callees Q cs d
  definition_as p = record { first = p.first; more = p.more; found = p.found; key = p.key; op = p.op; clauses = loaded_as p.clauses }

  pub definitions_as : (callees : List Callee) (cs : List Clause) (ds : List Definition) → All (IsDefinitionOf callees P cs) ds → All (IsDefinitionOf callees Q cs) ds
  definitions_as callees cs ds = All-weaker (IsDefinitionOf callees P cs) (IsDefinitionOf callees Q cs) (λ d. definition_as) ds
