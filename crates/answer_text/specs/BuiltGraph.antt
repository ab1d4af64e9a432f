-- What code has to show of the graph that it builds: facts about what stands for terms and about lists of numbers, whatever the equations.
use Rattle.std.specs.Prelude.{◌≡◌, ◌≢◌, ◌<◌, ◌≤◌, ℕ, List, [], ◌∷◌, slice_get, Some, ◌⊎◌, get_or, Bool, true, false}
use Rattle.akl_terms.specs.Tree.{Tree, Head, head_of, arguments}
use Rattle.answer_text.specs.Graph.{Graph, Stands, IsChild, HasNames}

-- the number that a list gives a node
abbrev pub at_node : List ℕ → ℕ → ℕ
at_node xs i = get_or xs i 0

-- two nodes differ: they begin differently, or a child of the one differs from the same child of the other
pub data Differ (g : Graph) (tops : List ℕ) : ℕ → ℕ → Type 0 where
  by_top : {i j : ℕ} → at_node tops i ≢ at_node tops j → Differ g tops i j
  by_child : {i j p q : ℕ} (k : ℕ) → IsChild g i k p → IsChild g j k q → Differ g tops p q → Differ g tops i j

-- the coarsest partition that refines how nodes begin and whose blocks agree in their children's blocks
pub record IsCoarsest (g : Graph) (tops blocks : List ℕ) : Type 0 where
  pub top : (i j : ℕ) (s t : Tree) → Stands g i s → Stands g j t → at_node blocks i ≡ at_node blocks j → at_node tops i ≡ at_node tops j
  pub children : (i j k p q : ℕ) (s t : Tree) → Stands g i s → Stands g j t → at_node blocks i ≡ at_node blocks j → IsChild g i k p → IsChild g j k q → at_node blocks p ≡ at_node blocks q
  pub differ : (i j : ℕ) (s t : Tree) → Stands g i s → Stands g j t → at_node blocks i ≢ at_node blocks j → Differ g tops i j

-- argument positions lead from a block to a block, each time from any node of it
pub data Passes (g : Graph) (block : ℕ → ℕ) : ℕ → ℕ → Type 0 where
  one_step : {i j : ℕ} {t : Tree} (k : ℕ) → Stands g i t → IsChild g i k j → Passes g block (block i) (block j)
  and_on : {b : ℕ} {i j : ℕ} {t : Tree} → Passes g block b (block i) → (k : ℕ) → Stands g i t → IsChild g i k j → Passes g block b (block j)

-- how a term begins: a variable by itself, any other by its head
abbrev pub BeginAlike : Tree → Tree → Type 0
BeginAlike s t = (s ≡ t) ⊎ ((h : Head) × (head_of s ≡ Some h) × (head_of t ≡ Some h))

-- a graph that is built along go, whatever the equations are that go represents: each node is what stands for some term, and its children are what stands for its arguments
pub record IsBuilt (go : Tree → Tree) (g : Graph) (tops : List ℕ) : Type 0 where
  pub end : (i : ℕ) (t : Tree) → Stands g i t → (s : Tree) × (t ≡ go s)
  pub argument : (i k : ℕ) (t a : Tree) → Stands g i t → slice_get (arguments t) k ≡ Some a → (j : ℕ) × IsChild g i k j × Stands g j (go a)
  pub child : (i k j : ℕ) (t : Tree) → Stands g i t → IsChild g i k j → (a : Tree) × (slice_get (arguments t) k ≡ Some a) × Stands g j (go a)
  pub one : (i j : ℕ) (s t : Tree) → Stands g i s → Stands g j t → at_node tops i ≡ at_node tops j → BeginAlike s t
  pub other : (i j : ℕ) (s t : Tree) → Stands g i s → Stands g j t → BeginAlike s t → at_node tops i ≡ at_node tops j

-- what shows which blocks come back: a rank of each block that never rises to a child, falls at each child of a block that isn't marked, and a way back for each that is
pub record IsCertified (g : Graph) (block : ℕ → ℕ) (rank : ℕ → ℕ) (marked : ℕ → Bool) : Type 0 where
  pub down : (i k j : ℕ) → IsChild g i k j → rank (block j) ≤ rank (block i)
  pub strict : (i k j : ℕ) → marked (block i) ≡ false → IsChild g i k j → rank (block j) < rank (block i)
  pub back : (i : ℕ) (t : Tree) → Stands g i t → marked (block i) ≡ true → Passes g block (block i) (block i)

-- shown terms stand at nodes
abbrev pub AreBuilt : (Tree → Tree) → Graph → List (List ℕ × Tree) → Type 0
AreBuilt go g [] = Unit {0}
AreBuilt go g ((name, t) ∷ shown) = ((i : ℕ) × Stands g i (go t)) × AreBuilt go g shown

-- the graph is built along go, its blocks are the coarsest, their ranks tell the cyclic ones, and each symbol has a name
pub record IsWorkedOut (symbols : List (List ℕ)) (go : Tree → Tree) (g : Graph) (tops blocks : List ℕ) (rank : ℕ → ℕ) (marked : ℕ → Bool) : Type 0 where
  pub built : IsBuilt go g tops
  pub coarsest : IsCoarsest g tops blocks
  pub certified : IsCertified g (at_node blocks) rank marked
  pub names : HasNames symbols g
