-- The nodes of variables.
use Rattle.std.proofs.Common.{◌≡◌, ℕ, zero, suc, ◌+◌, ◌<◌, List, [], ◌∷◌, ◌++◌, length, map, Some, refl, sym, ◌∙◌, ap, subst, arith}
use Rattle.std.specs.Prelude.{All, slice_get}
use Rattle.std.proofs.lemmas.List.{length-map}
use Rattle.akl_terms.specs.declared.term.Node.{Node}
use Rattle.akl_terms.specs.Template.{Template, IsAfter}
use Rattle.term_syntax.specs.Sizes.{trees_size}
use Rattle.clause_store.specs.Plain.{plains}
use Rattle.clause_store.specs.Codes.{variables}
use Rattle.clause_store.specs.Standing.{stands_variable, ArePut}
use Rattle.clause_store.specs.Putting.{numbers_from}
use Rattle.clause_store.proofs.Growing.{extends_none, Each, each_none, each_more, each_after, at_group}
use Rattle.clause_store.proofs.Room.{gains_group}
use Rattle.clause_store.proofs.Collected.{get_further}

-- ---- the first numbers
pub numbers_from-more : (n k : ℕ) → numbers_from n (suc k) ≡ numbers_from n k ++ (n + k) ∷ []
numbers_from-more n zero = let e : n ≡ n + 0 = omega arith in ap (λ (m : ℕ). m ∷ []) e
numbers_from-more n (suc k) =
    let e : suc n + k ≡ n + suc k = omega arith in
    ap (λ (ns : List ℕ). n ∷ ns) (numbers_from-more (suc n) k ∙ ap (λ (m : ℕ). numbers_from (suc n) k ++ m ∷ []) e)

pub length-numbers_from : (n k : ℕ) → length (numbers_from n k) ≡ k
length-numbers_from n zero = refl
length-numbers_from n (suc k) = ap suc (length-numbers_from (suc n) k)

get_variable : (n k i : ℕ) → i < k → slice_get (map (λ m. Node.Var m) (numbers_from n k)) i ≡ Some (Node.Var (n + i))
get_variable n zero i h = absurd (omega arith)
get_variable n (suc k) zero h = let e : n ≡ n + 0 = omega arith in ap (λ (m : ℕ). Some (Node.Var m)) e
get_variable n (suc k) (suc i) h = let e : suc n + i ≡ n + suc i = omega arith in get_variable (suc n) k i (omega arith) ∙ ap (λ (m : ℕ). Some (Node.Var m)) e

-- behind other nodes
pub variables_behind : (nodes : List Node) (k i : ℕ) → i < k → slice_get (nodes ++ map (λ m. Node.Var m) (numbers_from 0 k)) (length nodes + i) ≡ Some (Node.Var i)
variables_behind nodes k i h =
    let z : 0 + i ≡ i = omega arith in
    get_further nodes (map (λ m. Node.Var m) (numbers_from 0 k)) i ∙ get_variable 0 k i h ∙ ap (λ (m : ℕ). Some (Node.Var m)) z

pub variables_length : (n k : ℕ) → length (map (λ m. Node.Var m) (numbers_from n k)) ≡ k
variables_length n k = length-map (numbers_from n k) (λ m. Node.Var m) ∙ length-numbers_from n k

-- ---- any numbers
pub variables_size : (ns : List ℕ) → trees_size (variables ns) ≡ length ns
variables_size [] = refl
variables_size (n ∷ ns) = omega (arith, variables_size ns)

each_variable : (t : Template) (ns : List ℕ) → Each t (map (λ n. Node.Var n) ns) (plains (variables ns))
each_variable t [] = each_none
each_variable t (n ∷ ns) = each_more stands_variable (each_variable t ns)

pub variables_after : (t : Template) (group : List Node) (ns : List ℕ) → group ≡ map (λ n. Node.Var n) ns → All (IsAfter t) group
variables_after t group ns e = subst (λ (z : List Node). All (IsAfter t) z) (sym e) (each_after _ (each_variable t ns))

pub variables_put : {old new : Template} {first : ℕ} (ns : List ℕ) → first ≡ length old.nodes → new ≡ record old { nodes = old.nodes ++ map (λ n. Node.Var n) ns }
    → ArePut old new first (length ns) (variables ns)
variables_put {old} {new} {first} ns ef e =
    let group : List Node = map (λ n. Node.Var n) ns in
    let len : length group ≡ length ns = length-map ns (λ n. Node.Var n) in
    record {
      stand = rw (ef, ← len) (at_group new old.nodes (ap (λ (z : Template). z.nodes) e) (each_variable new ns));
      gains = gains_group group (record { extends = extends_none old; nodes = omega (arith, len, variables_size ns); symbols = omega (arith, len, variables_size ns) }) e;
    }
