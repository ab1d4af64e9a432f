-- The arguments of the trees that nodes unfold to.
use Rattle.std.proofs.Common.{◌≡◌, ℕ, zero, suc, ◌+◌, ◌<◌, ◌≤◌, List, length, Option, Some, None, refl, ◌∙◌, ap, arith}
use Rattle.std.specs.Prelude.{slice_get}
use Rattle.akl_terms.specs.declared.name.Name.{Name}
use Rattle.akl_terms.specs.declared.term.Node.{Node}
use Rattle.akl_terms.specs.declared.term.Term.{Term}
use Rattle.akl_terms.specs.declared.term.Term.TheVariants.{Mol}
use Rattle.akl_terms.specs.declared.term.Seen.{Seen}
use Rattle.akl_terms.specs.Tree.{Tree, Trees, symbol, list_of, arguments}
use Rattle.akl_terms.specs.Template.{IsArranged, seen_of, seen_node, tree, tree_at, tree_seen, trees_from}
use Rattle.std.proofs.lemmas.Option.{slice_get_within}

-- the trees of n neighbouring nodes are n
pub length-trees_from : (go : ℕ → Tree) (i n : ℕ) → length (list_of (trees_from go i n)) ≡ n
length-trees_from go i zero = refl
length-trees_from go i (suc n) = let h : length (list_of (trees_from go (suc i) n)) ≡ n = length-trees_from go (suc i) n in omega arith

-- the arguments of a node stand before it
pub seen_node-before : (nodes : List Node) (i : ℕ) (s k n : ℕ) (f g : Name) (o : Option Node) → IsArranged nodes → slice_get nodes i ≡ o → seen_node f o ≡ Seen.Struct s k n g → k + n ≤ i
seen_node-before nodes i s k n f g None h e q = cc
seen_node-before nodes i s k n f g (Some (Node.Var v)) h e q = cc
seen_node-before nodes i s k n f g (Some (Node.Int v)) h e q = cc
seen_node-before nodes i s k n f g (Some (Node.Struct a b m)) h e q =
    let w : b + m ≤ i = h.each i (Node.Struct a b m) e in
    let x : b ≡ k = cc in
    let y : m ≡ n = cc in
    omega arith

-- trees that agree up to a number
trees_from-equal : (go come : ℕ → Tree) (k n : ℕ) → ((j : ℕ) → j < k + n → go j ≡ come j) → trees_from go k n ≡ trees_from come k n
trees_from-equal go come k zero g = refl
trees_from-equal go come k (suc n) g = λ i. Trees.more (g k (omega arith) i) (trees_from-equal go come (suc k) n (λ j r. g j (omega arith)) i)

-- the depth that is looked into doesn't matter
pub tree_at-enough : (nodes : List Node) → IsArranged nodes → (d e : ℕ) (f : Name) (i : ℕ) → i < d → i < e → tree_at d nodes f i ≡ tree_at e nodes f i
tree_at-enough nodes h zero e f i p q = absurd (omega arith)
tree_at-enough nodes h (suc d) zero f i p q = absurd (omega arith)
tree_at-enough nodes h (suc d) (suc e) f i p q = on (slice_get nodes i) refl (λ j r s. tree_at-enough nodes h d e f j r s)
  where
    on : (o : Option Node) → slice_get nodes i ≡ o → ((j : ℕ) → j < d → j < e → tree_at d nodes f j ≡ tree_at e nodes f j)
        → tree_seen (tree_at d nodes f) (seen_node f o) ≡ tree_seen (tree_at e nodes f) (seen_node f o)
    on None a g = refl
    on (Some (Node.Var v)) a g = refl
    on (Some (Node.Int v)) a g = refl
    on (Some (Node.Struct s k n)) a g =
        let w : k + n ≤ i = h.each i (Node.Struct s k n) a in
        ap (symbol s) (trees_from-equal (tree_at d nodes f) (tree_at e nodes f) k n (λ j r. g j (omega arith) (omega arith)))

-- the arguments of a symbol
pub tree-struct : (nodes : List Node) → IsArranged nodes → (t : Term) (s i n : ℕ) (f : Name) → seen_of nodes t ≡ Seen.Struct s i n f → tree nodes t ≡ symbol s (trees_from (λ k. tree nodes (Mol k f)) i n)
tree-struct nodes h (Term.Int z) s i n f e = cc
tree-struct nodes h (Term.Port z) s i n f e = cc
tree-struct nodes h (Mol j g) s i n f e =
    let w : i + n ≤ j = seen_node-before nodes j s i n g f (slice_get nodes j) h refl e in
    let fg : Some f ≡ Some g = frames (slice_get nodes j) e in
    let gf : g ≡ f = cc in
    ap (tree_seen (tree_at j nodes g)) e ∙ ap (symbol s) (trees_from-equal (tree_at j nodes g) (λ k. tree nodes (Mol k f)) i n
    (λ k r. tree_at-enough nodes h j (suc k) g k (omega arith) (omega arith) ∙ ap (λ (x : Name). tree_at (suc k) nodes x k) gf))
  where
    frames : (o : Option Node) → seen_node g o ≡ Seen.Struct s i n f → Some f ≡ Some g
    frames None q = cc
    frames (Some (Node.Var v)) q = cc
    frames (Some (Node.Int v)) q = cc
    frames (Some (Node.Struct a b m)) q = cc

pub get-trees_from : (go : ℕ → Tree) (i n k : ℕ) → k < n → slice_get (list_of (trees_from go i n)) k ≡ Some (go (i + k))
get-trees_from go i zero k h = absurd (omega arith)
get-trees_from go i (suc n) zero h = ap (λ (x : ℕ). Some (go x)) (omega arith)
get-trees_from go i (suc n) (suc k) h = get-trees_from go (suc i) n k (omega arith) ∙ ap (λ (x : ℕ). Some (go x)) (omega arith)

pub arguments-struct : (nodes : List Node) → IsArranged nodes → (t : Term) (s i n : ℕ) (f : Name) → seen_of nodes t ≡ Seen.Struct s i n f
    → (k : ℕ) → k < n → slice_get (arguments (tree nodes t)) k ≡ Some (tree nodes (Mol (i + k) f))
arguments-struct nodes h t s i n f e k l = ap (λ (x : Tree). slice_get (arguments x) k) (tree-struct nodes h t s i n f e) ∙ get-trees_from (λ j. tree nodes (Mol j f)) i n k l

-- a place that has an argument is one of the places
pub few_arguments : (nodes : List Node) → IsArranged nodes → (t : Term) (s i n : ℕ) (f : Name) → seen_of nodes t ≡ Seen.Struct s i n f
    → (k : ℕ) (a : Tree) → slice_get (arguments (tree nodes t)) k ≡ Some a → k < n
few_arguments nodes h t s i n f e k a q =
    let c : k < length (arguments (tree nodes t)) = slice_get_within (arguments (tree nodes t)) k a q in
    let d : length (arguments (tree nodes t)) ≡ n = ap (λ (x : Tree). length (arguments x)) (tree-struct nodes h t s i n f e) ∙ length-trees_from (λ j. tree nodes (Mol j f)) i n in
    omega arith
