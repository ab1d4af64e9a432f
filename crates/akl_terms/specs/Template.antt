-- Templates, and the trees that nodes and terms unfold to.
use Rattle.std.specs.Prelude.{◌≡◌, ℕ, pos, zero, suc, ◌+◌, ◌≤◌, ◌<◌, List, [], ◌∷◌, ◌++◌, All, length, slice_get, Option, Some, None}
use Rattle.akl_terms.specs.declared.name.Name.{Name}
use Rattle.akl_terms.specs.Tree.{Tree, Trees, variable, integer, port, symbol, none, more}
use Rattle.akl_terms.specs.declared.term.Node.{Node}
use Rattle.akl_terms.specs.declared.term.Term.{Term}
use Rattle.akl_terms.specs.declared.term.Term.TheVariants.{Mol}
use Rattle.akl_terms.specs.declared.term.Seen.{Seen}
use Rattle.akl_terms.specs.declared.term.Seen.TheVariants.{Free}
use Rattle.akl_terms.specs.declared.term.Equation as code
use Rattle.akl_terms.specs.Equal.{Equation}

-- the nodes in order, and the text of each symbol
pub record Template : Type 0 where
  pub nodes : List Node
  pub symbols : List (List ℕ)

-- the arguments of node i stand before it
abbrev pub StandsBefore : ℕ → Node → Type 0
StandsBefore i (Node.Struct s first n) = first + n ≤ i
StandsBefore i n = Unit {0}

-- the arguments of each node stand before it
pub record IsArranged (nodes : List Node) : Type 0 where
  pub each : (i : ℕ) (n : Node) → slice_get nodes i ≡ Some n → StandsBefore i n

-- the symbol of each node is there
pub record HasSymbols (t : Template) : Type 0 where
  pub each : (i s first count : ℕ) → slice_get t.nodes i ≡ Some (Node.Struct s first count) → s < length t.symbols

-- what a term begins with has its symbol
abbrev pub IsKnown : Template → Seen → Type 0
IsKnown t (Seen.Struct s first count f) = s < length t.symbols
IsKnown t seen = Unit {0}

-- no text has two numbers
pub record AreDistinct (symbols : List (List ℕ)) : Type 0 where
  pub one : (i j : ℕ) (t : List ℕ) → slice_get symbols i ≡ Some t → slice_get symbols j ≡ Some t → i ≡ j

-- what a node begins with; a node that isn't there reads as the integer 0
abbrev pub seen_node : Name → Option Node → Seen
seen_node f None = Seen.Int (pos 0)
seen_node f (Some (Node.Var i)) = Free (record { frame = f; index = i })
seen_node f (Some (Node.Int z)) = Seen.Int z
seen_node f (Some (Node.Struct s i n)) = Seen.Struct s i n f

abbrev pub seen_of : List Node → Term → Seen
seen_of nodes (Mol i f) = seen_node f (slice_get nodes i)
seen_of nodes (Term.Int z) = Seen.Int z
seen_of nodes (Term.Port p) = Seen.Port p

-- the trees of so many neighbouring nodes
abbrev pub trees_from : (ℕ → Tree) → ℕ → ℕ → Trees
trees_from go first zero = none
trees_from go first (suc n) = more (go first) (trees_from go (suc first) n)

abbrev pub tree_seen : (ℕ → Tree) → Seen → Tree
tree_seen go (Free x) = variable x
tree_seen go (Seen.Int z) = integer z
tree_seen go (Seen.Port p) = port p
tree_seen go (Seen.Struct s i n f) = symbol s (trees_from go i n)

-- the tree of a node under a frame, at most so deep
abbrev pub tree_at : ℕ → List Node → Name → ℕ → Tree
tree_at zero nodes f i = integer (pos 0)
tree_at (suc d) nodes f i = tree_seen (tree_at d nodes f) (seen_node f (slice_get nodes i))

-- the tree that a term unfolds to: a node's arguments stand before it, so its number bounds its depth
abbrev pub tree : List Node → Term → Tree
tree nodes (Mol i f) = tree_at (suc i) nodes f i
tree nodes (Term.Int z) = integer z
tree nodes (Term.Port p) = port p

-- the equation between the trees of two terms
abbrev pub equation_of : List Node → code.Equation → Equation
equation_of nodes e = record { left = tree nodes e.left; right = tree nodes e.right }

-- a node that may stand at this place: its arguments stand before the place, and its symbol is there
abbrev pub MayStandAt : Template → ℕ → Node → Type 0
MayStandAt t i (Node.Struct s first n) = (first + n ≤ i) × (s < length t.symbols)
MayStandAt t i n = Unit {0}

-- a node that may stand behind the others
abbrev pub IsAfter : Template → Node → Type 0
IsAfter t n = MayStandAt t (length t.nodes) n

-- nodes that may be appended as neighbours
abbrev pub IsGroup : Template → List Node → Type 0
IsGroup t group = All (IsAfter t) group

-- no symbol has this text
pub record IsNew (t : Template) (text : List ℕ) : Type 0 where
  pub absent : (n : ℕ) → slice_get t.symbols n ≡ Some text → ⊥

-- the text has become the next symbol
pub record Appends (old new : Template) (text : List ℕ) (number : ℕ) : Type 0 where
  pub next : number ≡ length old.symbols
  pub symbols : new ≡ record old { symbols = old.symbols ++ text ∷ [] }
  pub distinct : AreDistinct new.symbols

-- the text has this symbol: it had it before, and nothing changed, or it is the next
pub data Interns (old new : Template) (text : List ℕ) (number : ℕ) : Type 0 where
  known : slice_get old.symbols number ≡ Some text → new ≡ old → Interns old new text number
  appended : IsNew old text → Appends old new text number → Interns old new text number
