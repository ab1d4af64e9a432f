-- How the printer of a graph's trees goes on.
use Rattle.std.specs.Prelude.{◌≡◌, ℕ, pos, ◌<◌, List, [], ◌∷◌, ◌++◌, length, map, get_or, slice_get, Some, Bool, if◌then◌else◌, bytes_eq, codes}
use Rattle.std.specs.Fmt.{signed_decimal}
use Rattle.akl_terms.specs.declared.term.Seen.{Seen}
use Rattle.akl_terms.specs.declared.term.Seen.TheVariants.{Free}
use Rattle.akl_terms.specs.Tree.{Tree}
use Rattle.akl_terms.specs.Equal.{Equations, Equal, IsConsistent}
use Rattle.akl_terms.specs.Template.{Template, IsKnown}
use Rattle.answer_text.specs.SymbolText.{symbol_text, constant_text}
use Rattle.answer_text.specs.Printed.{class_text}
use Rattle.answer_text.specs.Cyclic.{SameTree}
use Rattle.answer_text.specs.Answers.{longest_answer}
use Rattle.answer_text.specs.AnswerLines.{Numbers, cycle_text, PrintsTree, PrintsListTail, PrintsCycleLines, PrintsAnswerLines}
use Rattle.answer_text.specs.Graph.{Graph, Stands, IsDecided}
use Rattle.answer_text.specs.BuiltGraph.{at_node}
use Rattle.cycle_marks.specs.Components.{rank_of, is_cyclic}
use Rattle.term_graph.specs.Built.{graph_of}
use Rattle.term_graph.specs.declared.graph.TermGraph.{TermGraph}
use Rattle.tree_classes.specs.Classes.{ClassesValue}
use Rattle.tree_classes.specs.Numbers.{number_in, with_number}
use Rattle.answer_lines.specs.declared.piece.Piece.{Piece}
use Rattle.answer_lines.specs.declared.piece.Piece.TheVariants.{Byte, Whole, Tail}

-- what was printed, the classes of variables and the cyclic ones that have a number, and what is still to print, the next first
pub record State : Type 0 where
  pub out : List ℕ
  pub classes : List ℕ
  pub cycles : List ℕ
  pub pieces : List Piece

-- what the printer reads: templates, what nodes begin with, the nodes of their arguments, and their classes
pub record Forest : Type 0 where
  pub template : Template
  pub seens : List Seen
  pub rows : List (List ℕ)
  pub classes : ClassesValue

abbrev pub forest_of : Template → TermGraph → ClassesValue → Forest
forest_of t g c = record { template = t; seens = g.seens.items; rows = map (λ v. v.items) g.rows.items; classes = c }

-- what a node begins with, and the nodes of its arguments; a node that isn't there reads as the integer 0
abbrev pub seen_at : Forest → ℕ → Seen
seen_at x i = get_or x.seens i (Seen.Int (pos 0))

abbrev pub row_at : Forest → ℕ → List ℕ
row_at x i = get_or x.rows i []

-- a node's class, by its first node, and whether that is cyclic
abbrev pub class_of : Forest → ℕ → ℕ
class_of x i = at_node x.classes.blocks i

abbrev pub cyclic_at : Forest → ℕ → Bool
cyclic_at x i = is_cyclic x.classes.marks (class_of x i)

-- what each node begins with has its symbol
pub record AreKnown (x : Forest) : Type 0 where
  pub known : (i : ℕ) (seen : Seen) → slice_get x.seens i ≡ Some seen → IsKnown x.template seen

abbrev pub name_of : Template → ℕ → List ℕ
name_of t f = get_or t.symbols f []

-- the state behind bytes, a class, a cyclic tree
abbrev pub with_bytes : List ℕ → State → State
with_bytes bytes s = record s { out = s.out ++ bytes }

abbrev pub class_printed : ℕ → State → State
class_printed b s = record (with_bytes (class_text (number_in s.classes b)) s) { classes = with_number s.classes b }

abbrev pub cycle_printed : ℕ → State → State
cycle_printed b s = record (with_bytes (cycle_text (number_in s.cycles b)) s) { cycles = with_number s.cycles b }

-- arguments to print, `,` between, before other pieces
abbrev pub argument_pieces : List ℕ → List Piece → List Piece
argument_pieces [] ps = ps
argument_pieces (j ∷ []) ps = Whole j ∷ ps
argument_pieces (j ∷ k ∷ js) ps = Whole j ∷ Byte 44 ∷ argument_pieces (k ∷ js) ps

abbrev pub compound_begun : List ℕ → List ℕ → State → State
compound_begun name row s = record (with_bytes (symbol_text name ++ 40 ∷ []) s) { pieces = argument_pieces row (Byte 41 ∷ s.pieces) }

-- an element and the rest of its list, behind a byte
abbrev pub cell_begun : ℕ → ℕ → ℕ → State → State
cell_begun b j k s = record (with_bytes (b ∷ []) s) { pieces = Whole j ∷ Tail k ∷ s.pieces }

-- the state behind the beginning of a symbol with its arguments
abbrev pub symbol_begun : List ℕ → List ℕ → State → State
symbol_begun name [] s = with_bytes (constant_text name) s
symbol_begun name (j ∷ []) s = compound_begun name (j ∷ []) s
symbol_begun name (j ∷ k ∷ []) s = if bytes_eq name (codes ".") then cell_begun 91 j k s else compound_begun name (j ∷ k ∷ []) s
symbol_begun name (j ∷ k ∷ l ∷ js) s = compound_begun name (j ∷ k ∷ l ∷ js) s

-- the state behind the beginning of a tree that is written out
abbrev pub written_begun : Template → Seen → List ℕ → ℕ → State → State
written_begun t (Free x) row b s = class_printed b s
written_begun t (Seen.Int z) row b s = with_bytes (signed_decimal z) s
written_begun t (Seen.Port p) row b s = with_bytes (codes "port") s
written_begun t (Seen.Struct f i n h) row b s = symbol_begun (name_of t f) row s

-- the state behind the beginning of a tail that ends its list with a tree
abbrev pub partial_begun : ℕ → State → State
partial_begun i s = record (with_bytes (124 ∷ []) s) { pieces = Whole i ∷ Byte 93 ∷ s.pieces }

abbrev pub symbol_tail_begun : List ℕ → List ℕ → ℕ → State → State
symbol_tail_begun name [] i s = if bytes_eq name (codes "[]") then with_bytes (93 ∷ []) s else partial_begun i s
symbol_tail_begun name (j ∷ []) i s = partial_begun i s
symbol_tail_begun name (j ∷ k ∷ []) i s = if bytes_eq name (codes ".") then cell_begun 44 j k s else partial_begun i s
symbol_tail_begun name (j ∷ k ∷ l ∷ js) i s = partial_begun i s

-- the state behind the beginning of a tail that isn't cyclic
abbrev pub tail_begun : Template → Seen → List ℕ → ℕ → State → State
tail_begun t (Seen.Struct f a n h) row i s = symbol_tail_begun (name_of t f) row i s
tail_begun t seen row i s = partial_begun i s

-- the state behind the beginning of a piece
abbrev pub begun : Forest → Piece → State → State
begun x (Byte b) s = with_bytes (b ∷ []) s
begun x (Whole i) s = if cyclic_at x i then cycle_printed (class_of x i) s else written_begun x.template (seen_at x i) (row_at x i) (class_of x i) s
begun x (Tail i) s = if cyclic_at x i then partial_begun i s else tail_begun x.template (seen_at x i) (row_at x i) i s

-- the state behind the beginning of a line, and of the line of a cyclic tree
abbrev pub line_begun : List ℕ → ℕ → State → State
line_begun name i s = record (with_bytes (name ++ codes " = ") s) { pieces = Whole i ∷ Byte 10 ∷ s.pieces }

abbrev pub cycle_begun : Forest → ℕ → ℕ → State → State
cycle_begun x k b s = written_begun x.template (seen_at x b) (row_at x b) b (record (with_bytes (cycle_text k ++ codes " = ") s) { pieces = Byte 10 ∷ s.pieces })

-- something was printed
abbrev pub Grows : State → State → Type 0
Grows old new = length old.out < length new.out

-- the graph of a forest, decided under equations
abbrev pub forest_graph : Forest → Graph
forest_graph x = graph_of x.template x.seens x.rows

-- the graph is decided under consistent equations, and the class of a node is called by a node of it
pub record IsDecidedForest (E : Equations) (x : Forest) : Type 0 where
  pub consistent : IsConsistent E
  pub decided : IsDecided x.template.symbols E (forest_graph x) (class_of x) (λ i. rank_of x.classes.marks (class_of x i)) (cyclic_at x)
  pub first : (i : ℕ) (t : Tree) → Stands (forest_graph x) i t → (u : Tree) × Stands (forest_graph x) (class_of x i) u × (class_of x (class_of x i) ≡ class_of x i)

-- a tree that R relates to the term of a node of the class
pub record IsOfClass (x : Forest) (R : Tree → Tree → Type 0) (b : ℕ) (u : Tree) : Type 0 where
  pub node : ℕ
  pub term : Tree
  pub stands : Stands (forest_graph x) node term
  pub class : class_of x node ≡ b
  pub related : R term u

-- trees of these classes
abbrev pub AreOfClasses : Forest → (Tree → Tree → Type 0) → List Tree → List ℕ → Type 0
AreOfClasses x R [] [] = Unit {0}
AreOfClasses x R [] (b ∷ bs) = ⊥
AreOfClasses x R (u ∷ us) [] = ⊥
AreOfClasses x R (u ∷ us) (b ∷ bs) = IsOfClass x R b u × AreOfClasses x R us bs

-- the trees that have a number are those of the classes
pub record AreNumbered (x : Forest) (E : Equations) (n : Numbers) (classes cycles : List ℕ) : Type 0 where
  pub are_classes : AreOfClasses x (Equal E) n.classes classes
  pub are_cycles : AreOfClasses x (SameTree E) n.cycles cycles

-- lines still to print behind the pieces: of shown terms and then of all cyclic trees, or of the cyclic trees from a number on
pub data Ahead : Type 0 where
  shown_lines : List (List ℕ × Tree) → Ahead
  cycle_lines : ℕ → Ahead

abbrev pub PrintsAhead : Forest → Equations → Numbers → Ahead → List ℕ → Type 0
PrintsAhead x E n (shown_lines rest) text = PrintsAnswerLines x.template.symbols E n rest text
PrintsAhead x E n (cycle_lines k) text = PrintsCycleLines x.template.symbols E k n text

-- the text of the pieces and of the lines behind them
pub data Rest (x : Forest) (E : Equations) : Numbers → List Piece → Ahead → List ℕ → Type 0 where
  lines : {n : Numbers} {a : Ahead} {text : List ℕ} → PrintsAhead x E n a text → Rest x E n [] a text
  byte : {n : Numbers} {b : ℕ} {ps : List Piece} {a : Ahead} {text : List ℕ} → Rest x E n ps a text → Rest x E n (Byte b ∷ ps) a (b ∷ text)
  whole : {n m : Numbers} {i : ℕ} {t : Tree} {ps : List Piece} {a : Ahead} {text others : List ℕ} → Stands (forest_graph x) i t → PrintsTree x.template.symbols E n t text m
      → Rest x E m ps a others → Rest x E n (Whole i ∷ ps) a (text ++ others)
  tail : {n m : Numbers} {i : ℕ} {t : Tree} {ps : List Piece} {a : Ahead} {text others : List ℕ} → Stands (forest_graph x) i t → PrintsListTail x.template.symbols E n t text m
      → Rest x E m ps a others → Rest x E n (Tail i ∷ ps) a (text ++ others)

-- a text that may be printed from a state on
pub record IsText (x : Forest) (E : Equations) (s : State) (a : Ahead) (text : List ℕ) : Type 0 where
  pub numbers : Numbers
  pub numbered : AreNumbered x E numbers s.classes s.cycles
  pub rest : Rest x E numbers s.pieces a text

-- a text from the one state on begins with what was printed since, and goes on as a text from the other on
pub record GoesOn (x : Forest) (E : Equations) (old new : State) (text : List ℕ) (a : Ahead) : Type 0 where
  pub others : List ℕ
  pub same : new.out ++ others ≡ old.out ++ text
  pub is_text : IsText x E new a others

-- the printer moves on, whatever the equations are under which the graph is decided
abbrev pub Moves : Forest → State → State → Type 0
Moves x old new = (E : Equations) → IsDecidedForest E x → (a : Ahead) (text : List ℕ) → IsText x E old a text → GoesOn x E old new text a

-- whatever is printed from this state on, its text is too long
abbrev pub Overruns : Forest → State → Type 0
Overruns x s = (E : Equations) → IsDecidedForest E x → (a : Ahead) (text : List ℕ) → IsText x E s a text → longest_answer < length (s.out ++ text)

-- whatever the lines of the cyclic trees behind a state are, they were printed since
abbrev pub EndsAs : Forest → State → State → Type 0
EndsAs x old new = (E : Equations) → IsDecidedForest E x → (text : List ℕ) → IsText x E old (cycle_lines 0) text → new.out ≡ old.out ++ text

-- the lines of the cyclic trees behind a state make its text too long
abbrev pub OverrunsByCycles : Forest → State → Type 0
OverrunsByCycles x s = (E : Equations) → IsDecidedForest E x → (text : List ℕ) → IsText x E s (cycle_lines 0) text → longest_answer < length (s.out ++ text)
