-- A graph of terms as it is built: what its nodes begin with, and the nodes of arguments.
use Rattle.std.specs.Prelude.{◌≡◌, ◌+◌, ℕ, pos, List, [], ◌∷◌, ◌++◌, length, Option, Some, None, slice_get, Bool, ◌&&◌, ◌==◌, if◌then◌else◌, ◌⊎◌}
use Rattle.std.specs.Map.{lookup}
use Rattle.akl_terms.specs.declared.program.ShownTerm.{ShownTerm}
use Rattle.akl_terms.specs.declared.term.Seen.{Seen}
use Rattle.akl_terms.specs.declared.term.Term.TheVariants.{Mol}
use Rattle.akl_terms.specs.declared.term.Node.{Node}
use Rattle.akl_terms.specs.Names.{same_name}
use Rattle.akl_terms.specs.Tree.{Tree, integer}
use Rattle.akl_terms.specs.Template.{Template, tree, tree_seen, IsKnown}
use Rattle.answer_text.specs.Pieces.{IsShort}
use Rattle.term_graph.specs.declared.place.Place.{Place}

-- what the nodes begin with, and the index of the symbols among them
pub record State : Type 0 where
  pub seens : List Seen
  pub index : List (Place × ℕ)

-- the tree of what begins so
abbrev pub seen_tree : List Node → Seen → Tree
seen_tree nodes (Seen.Struct s i n f) = tree_seen (λ k. tree nodes (Mol k f)) (Seen.Struct s i n f)
seen_tree nodes seen = tree_seen (λ k. integer (pos 0)) seen

abbrev pub place_of : Seen → Option Place
place_of (Seen.Struct s i n f) = Some (record { symbol = s; first = i; count = n; frame = f })
place_of seen = None

abbrev pub same_place : Place → Place → Bool
same_place a b = (a.symbol == b.symbol) && ((a.first == b.first) && ((a.count == b.count) && same_name a.frame b.frame))

-- the node that an index has for a place
abbrev pub found : List (Place × ℕ) → Place → Option ℕ
found index place = lookup (same_place place) index

-- what begins so at the node
abbrev pub BeginsSo : List Seen → ℕ → Seen → Type 0
BeginsSo seens i seen = slice_get seens i ≡ Some seen

-- each node is what stands for some term, has its symbol's name and arguments that are nodes of the templates, and the index has nodes of its places
pub record IsBuilding (t : Template) (go : Tree → Tree) (s : State) : Type 0 where
  pub end : (i : ℕ) (seen : Seen) → BeginsSo s.seens i seen → (u : Tree) × (seen_tree t.nodes seen ≡ go u)
  pub known : (i : ℕ) (seen : Seen) → BeginsSo s.seens i seen → IsKnown t seen
  pub short : (i : ℕ) (seen : Seen) → BeginsSo s.seens i seen → IsShort seen
  pub places : (place : Place) (i : ℕ) → found s.index place ≡ Some i → BeginsSo s.seens i (Seen.Struct place.symbol place.first place.count place.frame)

-- nodes stay as they are
pub record Grows (old new : List Seen) : Type 0 where
  pub stays : (i : ℕ) (seen : Seen) → BeginsSo old i seen → BeginsSo new i seen

-- the node is what stands for a term
pub record IsEndAt (t : Template) (go : Tree → Tree) (seens : List Seen) (i : ℕ) (u : Tree) : Type 0 where
  pub seen : Seen
  pub begins : BeginsSo seens i seen
  pub is : seen_tree t.nodes seen ≡ go u

-- what begins so stands for a term, has its symbol's name, and its arguments are nodes of the templates
pub record IsEndSeen (t : Template) (go : Tree → Tree) (u : Tree) (seen : Seen) : Type 0 where
  pub is : seen_tree t.nodes seen ≡ go u
  pub known : IsKnown t seen
  pub short : IsShort seen

-- a node is found for what begins so, or made
pub data IsPlaced (old new : State) (seen : Seen) (i : ℕ) : Type 0 where
  known : {place : Place} → place_of seen ≡ Some place → found old.index place ≡ Some i → new ≡ old → IsPlaced old new seen i
  indexed : {place : Place} → place_of seen ≡ Some place → i ≡ length old.seens → new.seens ≡ old.seens ++ seen ∷ []
      → ((p : Place) → found new.index p ≡ (if same_place place p then Some i else found old.index p)) → IsPlaced old new seen i
  leaf : i ≡ length old.seens → new.seens ≡ old.seens ++ seen ∷ [] → new.index ≡ old.index → IsPlaced old new seen i

-- a node is what stands for a term, and the others stay, but for one that may be new and stands for the term
pub record IsNumbered (t : Template) (go : Tree → Tree) (old new : State) (i : ℕ) (u : Tree) : Type 0 where
  pub building : IsBuilding t go new
  pub grows : Grows old.seens new.seens
  pub node : IsEndAt t go new.seens i u
  pub adds : (j : ℕ) (seen : Seen) → BeginsSo new.seens j seen → BeginsSo old.seens j seen ⊎ (seen_tree t.nodes seen ≡ go u)

abbrev pub count_of : Seen → ℕ
count_of (Seen.Struct s i n f) = n
count_of seen = 0

-- argument k of what begins so
abbrev pub argument_of : List Node → Seen → ℕ → Tree
argument_of nodes (Seen.Struct s i n f) k = tree nodes (Mol (i + k) f)
argument_of nodes seen k = integer (pos 0)

-- the nodes of the arguments before this one
pub record IsRowBefore (t : Template) (go : Tree → Tree) (seens : List Seen) (seen : Seen) (row : List ℕ) (n : ℕ) : Type 0 where
  pub size : length row ≡ n
  pub each : (k j : ℕ) → slice_get row k ≡ Some j → IsEndAt t go seens j (argument_of t.nodes seen k)

-- the nodes of the arguments
abbrev pub IsRowOf : Template → (Tree → Tree) → List Seen → Seen → List ℕ → Type 0
IsRowOf t go seens seen row = IsRowBefore t go seens seen row (count_of seen)

-- nodes that stand for terms along go, and the nodes of their arguments, which are as many
pub record IsTermGraph (t : Template) (go : Tree → Tree) (seens : List Seen) (rows : List (List ℕ)) : Type 0 where
  pub size : length rows ≡ length seens
  pub end : (i : ℕ) (seen : Seen) → slice_get seens i ≡ Some seen → (u : Tree) × (seen_tree t.nodes seen ≡ go u)
  pub known : (i : ℕ) (seen : Seen) → slice_get seens i ≡ Some seen → IsKnown t seen
  pub row : (i : ℕ) (seen : Seen) (row : List ℕ) → slice_get seens i ≡ Some seen → slice_get rows i ≡ Some row → IsRowOf t go seens seen row

-- the nodes of the shown terms before this one
pub record AreEndsBefore (t : Template) (go : Tree → Tree) (seens : List Seen) (shown : List ShownTerm) (nodes : List ℕ) (n : ℕ) : Type 0 where
  pub size : length nodes ≡ n
  pub each : (k i : ℕ) (line : ShownTerm) → slice_get nodes k ≡ Some i → slice_get shown k ≡ Some line → IsEndAt t go seens i (tree t.nodes line.term)

-- the nodes of the shown terms
abbrev pub AreEndsAt : Template → (Tree → Tree) → List Seen → List ShownTerm → List ℕ → Type 0
AreEndsAt t go seens shown nodes = AreEndsBefore t go seens shown nodes (length shown)
