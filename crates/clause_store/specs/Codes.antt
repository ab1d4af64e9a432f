-- The codes that stand for written goals. `callees` says what the program's definitions are called by, in their order, and `Is` which node is which term's.
use Rattle.std.specs.Prelude.{◌≡◌, ℕ, List, [], ◌∷◌, length, slice_get, Some, None}
use Rattle.akl_terms.specs.declared.program.Test.{Test}
use Rattle.akl_terms.specs.declared.program.Code.{Code}
use Rattle.akl_terms.specs.declared.program.Code.TheVariants as codes
use Rattle.term_syntax.specs.Tree.{Tree, Trees, no_trees, more_trees}
use Rattle.term_syntax.specs.Tree as written
use Rattle.akl_syntax.specs.Goals.{Goal, call, lifted, lifted_collect}
use Rattle.clause_keys.specs.declared.callee.Callee.{Callee}
use Rattle.clause_keys.specs.declared.callee.Callee.TheVariants.{Lifted, Collecting}
use Rattle.clause_keys.specs.declared.reserved.Reserved.TheVariants.{True, Fail, Equal, Arith, OpenPort, Send}
use Rattle.clause_keys.specs.Reserved.{reserved_of}
use Rattle.clause_keys.specs.Keys.{named}
use Rattle.clause_keys.specs.Conditions.{count}
use Rattle.clause_store.specs.Nodes.{AreNodes}

abbrev pub pair : Tree → Tree → Trees
pair s t = more_trees s (more_trees t no_trees)

-- written variables, by their numbers
abbrev pub variables : List ℕ → Trees
variables [] = no_trees
variables (n ∷ ns) = more_trees (written.variable n) (variables ns)

-- a goal's code: a reserved goal has its own meaning, and any other calls the definition of its symbol, or of its number, and its number of arguments; a collecting goal has its result's node, too
pub data IsCode (callees : List Callee) (Is : ℕ → Tree → Type 0) : Goal → Code → Type 0 where
  fail : {s : List ℕ} → reserved_of s 0 ≡ Some Fail → IsCode callees Is (call s no_trees) codes.Fail
  equal : {s : List ℕ} {a b : Tree} {l r : ℕ} → reserved_of s 2 ≡ Some Equal → Is l a → Is r b → IsCode callees Is (call s (pair a b)) (codes.Equal l r)
  arithmetic : {s : List ℕ} {test : Test} {a b : Tree} {l r : ℕ} → reserved_of s 2 ≡ Some (Arith test) → Is l a → Is r b → IsCode callees Is (call s (pair a b)) (codes.Arith test l r)
  open_port : {s : List ℕ} {a b : Tree} {l r : ℕ} → reserved_of s 2 ≡ Some OpenPort → Is l a → Is r b → IsCode callees Is (call s (pair a b)) (codes.OpenPort l r)
  send : {s : List ℕ} {a b : Tree} {l r : ℕ} → reserved_of s 2 ≡ Some Send → Is l a → Is r b → IsCode callees Is (call s (pair a b)) (codes.Send l r)
  calls : {s : List ℕ} {ts : Trees} {d first : ℕ} → reserved_of s (count ts) ≡ None → slice_get callees d ≡ Some (named s (count ts)) → AreNodes Is first ts
      → IsCode callees Is (call s ts) (codes.Call d first (count ts))
  calls_lifted : {n d first : ℕ} {ns : List ℕ} → slice_get callees d ≡ Some (Lifted n (length ns)) → AreNodes Is first (variables ns)
      → IsCode callees Is (lifted n ns) (codes.Call d first (length ns))
  collects : {n d first at : ℕ} {ns : List ℕ} {r : Tree} → slice_get callees d ≡ Some (Collecting n (length ns)) → AreNodes Is first (variables ns) → Is at r
      → IsCode callees Is (lifted_collect n ns r) (codes.Collect d first (length ns) at)

-- the codes of goals, one for one and in order; `true` gives none
pub data AreCodes (callees : List Callee) (Is : ℕ → Tree → Type 0) : List Goal → List Code → Type 0 where
  no_codes : AreCodes callees Is [] []
  true_goal : {s : List ℕ} {gs : List Goal} {cs : List Code} → reserved_of s 0 ≡ Some True → AreCodes callees Is gs cs → AreCodes callees Is (call s no_trees ∷ gs) cs
  a_code : {g : Goal} {c : Code} {gs : List Goal} {cs : List Code} → IsCode callees Is g c → AreCodes callees Is gs cs → AreCodes callees Is (g ∷ gs) (c ∷ cs)
