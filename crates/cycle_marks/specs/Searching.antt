-- The search along a path of components.
use Rattle.std.specs.Prelude.{◌≡◌, ◌<◌, ◌≤◌, ◌+◌, ◌*◌, ◌^◌, ℕ, zero, suc, List, [], ◌∷◌, ◌++◌, length, slice_get, slice_set, get_or, Option, Some, None, Bool, true, false}
use Rattle.cycle_marks.specs.declared.search.Mark.{Mark}
use Rattle.cycle_marks.specs.declared.search.Mark.TheVariants.{New, Open, Done}
use Rattle.cycle_marks.specs.declared.search.Base.{Base}
use Rattle.cycle_marks.specs.Rows.{IsEdge, Leads}

-- the marks, the open nodes in the order of the path, the edges to follow, where components begin, and whether finished ones are cycles
pub record State : Type 0 where
  pub marks : List Mark
  pub nodes : List ℕ
  pub edges : List ℕ
  pub path : List Base
  pub cyclic : List Bool

-- this is the element at this place
abbrev pub At : {A : Type 0} → List A → ℕ → A → Type 0
At xs i x = slice_get xs i ≡ Some x

-- no component begins behind the first place, up to the second
abbrev pub AreJoined : List Base → ℕ → ℕ → Type 0
AreJoined path i j = (t : ℕ) (b : Base) → At path t b → i < b.node → b.node ≤ j → ⊥

-- edge number e leads to the node from an open node of the component in which the edge waits
pub record IsSource (rows : List (List ℕ)) (nodes : List ℕ) (path : List Base) (e u : ℕ) : Type 0 where
  pub place : ℕ
  pub node : ℕ
  pub at : At nodes place node
  pub edge : IsEdge rows node u
  pub behind : (t : ℕ) (b : Base) → At path t b → b.edge ≤ e → b.node ≤ place
  pub before : (t : ℕ) (b : Base) → At path t b → e < b.edge → place < b.node

-- a node that an edge of the component leads to is finished, waits, is open in it or behind it, or is the one that is looked at
pub data IsMet (marks : List Mark) (edges : List ℕ) (looked : Option ℕ) (b : Base) (u : ℕ) : Type 0 where
  finished : {n : ℕ} → At marks u (Done n) → IsMet marks edges looked b u
  waits : {e : ℕ} → b.edge ≤ e → At edges e u → IsMet marks edges looked b u
  inside : {p : ℕ} → At marks u (Open p) → b.node ≤ p → IsMet marks edges looked b u
  is_looked : looked ≡ Some u → IsMet marks edges looked b u

-- a node that a finished component leads to is finished, and no later; it was finished before where the component is no cycle
pub record IsBelow (marks : List Mark) (cyclic : List Bool) (n u : ℕ) : Type 0 where
  pub number : ℕ
  pub done : At marks u (Done number)
  pub down : number ≤ n
  pub strict : get_or cyclic n false ≡ false → number < n

-- each open node leads to those behind it, and to those of its component; the edges that aren't followed wait
pub record IsSearching (rows : List (List ℕ)) (looked : Option ℕ) (s : State) : Type 0 where
  pub sizes : length s.marks ≡ length rows
  pub along : (i j x y : ℕ) → i < j → At s.nodes i x → At s.nodes j y → Leads rows x y
  pub together : (i j x y : ℕ) → i < j → At s.nodes i x → At s.nodes j y → AreJoined s.path i j → Leads rows y x
  pub marked : (p x : ℕ) → At s.nodes p x → At s.marks x (Open p)
  pub opened : (p x : ℕ) → At s.marks x (Open p) → At s.nodes p x
  pub rising : (t u : ℕ) (a b : Base) → t < u → At s.path t a → At s.path u b → a.node < b.node
  pub waiting : (t u : ℕ) (a b : Base) → t < u → At s.path t a → At s.path u b → a.edge ≤ b.edge
  pub begun : (t : ℕ) (b : Base) → At s.path t b → b.node < length s.nodes
  pub room : (t : ℕ) (b : Base) → At s.path t b → b.edge ≤ length s.edges
  pub covered : (p x : ℕ) → At s.nodes p x → (t : ℕ) × (b : Base) × At s.path t b × (b.node ≤ p)
  pub source : (e u : ℕ) → At s.edges e u → IsSource rows s.nodes s.path e u
  pub met : (t q x u : ℕ) (b : Base) → At s.path t b → b.node ≤ q → At s.nodes q x → IsEdge rows x u → IsMet s.marks s.edges looked b u
  pub numbered : (x n : ℕ) → At s.marks x (Done n) → n < length s.cyclic
  pub below : (x n u : ℕ) → At s.marks x (Done n) → IsEdge rows x u → IsBelow s.marks s.cyclic n u
  pub back : (x n : ℕ) → At s.marks x (Done n) → get_or s.cyclic n false ≡ true → Leads rows x x

-- no node is looked at
abbrev pub IsSearch : List (List ℕ) → State → Type 0
IsSearch rows s = IsSearching rows None s

-- each open node leads to this one
abbrev pub IsReached : List (List ℕ) → List ℕ → ℕ → Type 0
IsReached rows nodes u = (i x : ℕ) → At nodes i x → Leads rows x u

-- so many new nodes
abbrev pub new_marks : ℕ → List Mark
new_marks zero = []
new_marks (suc n) = New ∷ new_marks n

abbrev pub started : List Mark → State
started marks = record { marks = marks; nodes = []; edges = []; path = []; cyclic = [] }

-- a new node becomes a component of its own at the path's end
abbrev pub opened_at : List ℕ → ℕ → State → State
opened_at row node s = record {
  marks = slice_set s.marks node (Open (length s.nodes));
  nodes = s.nodes ++ node ∷ [];
  edges = s.edges ++ row;
  path = s.path ++ record { node = length s.nodes; edge = length s.edges } ∷ [];
  cyclic = s.cyclic;
}

-- this is the last component of the path
abbrev pub IsLast : List Base → Base → Type 0
IsLast path b = (front : List Base) × (path ≡ front ++ b ∷ [])

-- the open nodes from this place on lie on a cycle: there are several, or one with an edge to itself
pub data ComesBack (rows : List (List ℕ)) (nodes : List ℕ) (place : ℕ) : Bool → Type 0 where
  several : place + 1 < length nodes → ComesBack rows nodes place true
  by_itself : {x : ℕ} → At nodes place x → IsEdge rows x x → ComesBack rows nodes place true
  alone : {x : ℕ} → At nodes place x → length nodes ≤ place + 1 → (IsEdge rows x x → ⊥) → ComesBack rows nodes place false

-- these nodes are marked as finished, and no others changed
pub record AreMarked (nodes : List ℕ) (number : ℕ) (old new : List Mark) : Type 0 where
  pub size : length new ≡ length old
  pub done : (k x : ℕ) → At nodes k x → At new x (Done number)
  pub others : (x : ℕ) → ((k : ℕ) → At nodes k x → ⊥) → slice_get new x ≡ slice_get old x

-- 1 for a new node
abbrev pub weight : Mark → ℕ
weight New = 1
weight m = 0

-- how many nodes are new
abbrev pub count_new : List Mark → ℕ
count_new [] = 0
count_new (m ∷ ms) = weight m + count_new ms

-- what is left to do: nodes to open, edges to follow, components to finish
abbrev pub left : State → ℕ
left s = count_new s.marks * 2 ^ 65 + (length s.edges + length s.path)

-- no node becomes new
abbrev pub AreOlder : State → State → Type 0
AreOlder old new = (x : ℕ) → At new.marks x New → At old.marks x New

-- a step of the search, after which no more is left to do than before
pub record GoesOn (rows : List (List ℕ)) (old new : State) : Type 0 where
  pub search : IsSearch rows new
  pub older : AreOlder old new
  pub left : left new ≤ left old
