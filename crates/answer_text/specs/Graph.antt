-- Trees under equations as the nodes of a finite graph, and which nodes are the same tree.
use Rattle.std.specs.Prelude.{◌≡◌, ◌≢◌, ◌≤◌, ◌<◌, ℕ, List, [], ◌∷◌, slice_get, Some, ◌⊎◌, Bool, true, false}
use Rattle.akl_terms.specs.Tree.{Tree, Trees, symbol, Head, head_of, arguments}
use Rattle.akl_terms.specs.Equal.{Equations, Equal}
use Rattle.answer_text.specs.Printed.{IsFree}
use Rattle.answer_text.specs.Cyclic.{SameTree}

-- what stands for each node, and the nodes of its arguments
pub record Graph : Type 0 where
  pub terms : List Tree
  pub children : List (List ℕ)

-- this term stands for node i
abbrev pub Stands : Graph → ℕ → Tree → Type 0
Stands g i t = slice_get g.terms i ≡ Some t

-- node j is argument k of node i
abbrev pub IsChild : Graph → ℕ → ℕ → ℕ → Type 0
IsChild g i k j = (js : List ℕ) × (slice_get g.children i ≡ Some js) × (slice_get js k ≡ Some j)

-- each node is an unstructured class or a term with a head, its children stand for its arguments, and it has no others
pub record IsGraphOf (E : Equations) (g : Graph) : Type 0 where
  pub ends : (i : ℕ) (t : Tree) → Stands g i t → IsFree E t ⊎ ((h : Head) × (head_of t ≡ Some h))
  pub argument : (i k : ℕ) (t a : Tree) → Stands g i t → slice_get (arguments t) k ≡ Some a → (j : ℕ) × IsChild g i k j × (u : Tree) × Stands g j u × Equal E a u
  pub child : (i k j : ℕ) (t : Tree) → Stands g i t → IsChild g i k j → (a : Tree) × (slice_get (arguments t) k ≡ Some a) × (u : Tree) × Stands g j u × Equal E a u

-- one unstructured class, or one head and children of the same blocks
pub data AgreeIn (E : Equations) (g : Graph) (block : ℕ → ℕ) (i j : ℕ) (s t : Tree) : Type 0 where
  one_class : IsFree E s → Equal E s t → AgreeIn E g block i j s t
  one_head : {h : Head} → head_of s ≡ Some h → head_of t ≡ Some h → ((k p q : ℕ) → IsChild g i k p → IsChild g j k q → block p ≡ block q) → AgreeIn E g block i j s t

-- nodes of one block agree: nothing is left to refine
pub record IsStable (E : Equations) (g : Graph) (block : ℕ → ℕ) : Type 0 where
  pub agree : (i j : ℕ) (s t : Tree) → Stands g i s → Stands g j t → block i ≡ block j → AgreeIn E g block i j s t

-- only different trees are in different blocks
pub record IsFair (E : Equations) (g : Graph) (block : ℕ → ℕ) : Type 0 where
  pub differ : (i j : ℕ) (s t : Tree) → Stands g i s → Stands g j t → block i ≢ block j → SameTree E s t → ⊥

-- argument positions lead from one node to another
pub data Walks (g : Graph) : List ℕ → ℕ → ℕ → Type 0 where
  at : {i : ℕ} → Walks g [] i i
  on : {i j m : ℕ} {ks : List ℕ} (k : ℕ) → IsChild g i k j → Walks g ks j m → Walks g (k ∷ ks) i m

-- at least one position leads from the node to a node of its block
pub record ComesBack (g : Graph) (block : ℕ → ℕ) (i : ℕ) : Type 0 where
  pub position : ℕ
  pub below : List ℕ
  pub to : ℕ
  pub walks : Walks g (position ∷ below) i to
  pub again : block i ≡ block to

-- ranks that show which nodes come back: no child of a node has a higher rank, and only one that comes back has a child of its own
pub record IsRanked (g : Graph) (block rank : ℕ → ℕ) (cyclic : ℕ → Bool) : Type 0 where
  pub one : (i j : ℕ) → block i ≡ block j → rank i ≡ rank j
  pub down : (i k j : ℕ) → IsChild g i k j → rank j ≤ rank i
  pub strict : (i k j : ℕ) → cyclic i ≡ false → IsChild g i k j → rank j < rank i
  pub back : (i : ℕ) (t : Tree) → Stands g i t → cyclic i ≡ true → ComesBack g block i

-- each symbol of a node has a name
pub record HasNames (symbols : List (List ℕ)) (g : Graph) : Type 0 where
  pub name : (i f : ℕ) (ts : Trees) → Stands g i (symbol f ts) → (name : List ℕ) × (slice_get symbols f ≡ Some name)

-- the blocks of a graph are its trees under the equations, the ranks tell which of them are cyclic, and each symbol has a name
pub record IsDecided (symbols : List (List ℕ)) (E : Equations) (g : Graph) (block rank : ℕ → ℕ) (cyclic : ℕ → Bool) : Type 0 where
  pub graph : IsGraphOf E g
  pub stable : IsStable E g block
  pub fair : IsFair E g block
  pub ranked : IsRanked g block rank cyclic
  pub names : HasNames symbols g

-- each shown term is equal to the term of a node
abbrev pub AreThere : Equations → Graph → List (List ℕ × Tree) → Type 0
AreThere E g [] = Unit {0}
AreThere E g ((name, t) ∷ shown) = ((i : ℕ) × (u : Tree) × Stands g i u × Equal E t u) × AreThere E g shown
