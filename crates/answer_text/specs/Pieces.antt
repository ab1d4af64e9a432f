-- How the printer's state goes on.
use Rattle.std.specs.Prelude.{◌≡◌, ℕ, zero, suc, ◌+◌, ◌<◌, ◌^◌, List, [], ◌∷◌, ◌++◌, length, map, Option, Some, None, option_map, Bool, ◌&&◌, ◌==◌, if◌then◌else◌, unwrap_or, slice_get, bytes_eq, codes}
use Rattle.std.specs.Map.{lookup}
use Rattle.std.specs.Fmt.{signed_decimal}
use Rattle.akl_terms.specs.declared.name.Name.{Name}
use Rattle.akl_terms.specs.declared.name.Var.{Var}
use Rattle.akl_terms.specs.declared.term.Term.{Term}
use Rattle.akl_terms.specs.declared.term.Term.TheVariants.{Mol}
use Rattle.akl_terms.specs.declared.term.Seen.{Seen}
use Rattle.akl_terms.specs.declared.term.Seen.TheVariants.{Free}
use Rattle.akl_terms.specs.Names.{same_var}
use Rattle.akl_terms.specs.Tree.{Tree, variable}
use Rattle.akl_terms.specs.Equal.{Equations}
use Rattle.akl_terms.specs.Template.{Template, IsArranged, IsKnown, seen_of, tree}
use Rattle.answer_text.specs.SymbolText.{symbol_text, constant_text}
use Rattle.answer_text.specs.Printed.{class_text, Prints, PrintsTail, PrintsLines}
use Rattle.answer_text.specs.Classes.{Represents}
use Rattle.answer_text.specs.Answers.{longest_answer}
use Rattle.answer_text.specs.declared.piece.Piece.{Piece}
use Rattle.answer_text.specs.declared.piece.Piece.TheVariants.{Byte, Whole, Tail}

-- what was printed, the variables that stand for the classes printed so far, and what is still to print, the next first
pub record State : Type 0 where
  pub out : List ℕ
  pub seen : List Var
  pub pieces : List Piece

-- the text of the pieces and of the lines behind them
pub data Rest (t : Template) (E : Equations) : List Tree → List Piece → List (List ℕ × Tree) → List ℕ → Type 0 where
  lines : {seen : List Tree} {rest : List (List ℕ × Tree)} {text : List ℕ} → PrintsLines t.symbols E seen rest text → Rest t E seen [] rest text
  byte : {seen : List Tree} {b : ℕ} {ps : List Piece} {rest : List (List ℕ × Tree)} {text : List ℕ} → Rest t E seen ps rest text → Rest t E seen (Byte b ∷ ps) rest (b ∷ text)
  whole : {seen new : List Tree} {s : Term} {ps : List Piece} {rest : List (List ℕ × Tree)} {text others : List ℕ} → Prints t.symbols E seen (tree t.nodes s) text new
      → Rest t E new ps rest others → Rest t E seen (Whole s ∷ ps) rest (text ++ others)
  tail : {seen new : List Tree} {s : Term} {ps : List Piece} {rest : List (List ℕ × Tree)} {text others : List ℕ} → PrintsTail t.symbols E seen (tree t.nodes s) text new
      → Rest t E new ps rest others → Rest t E seen (Tail s ∷ ps) rest (text ++ others)

abbrev pub trees_of : List Var → List Tree
trees_of xs = map (λ x. variable x) xs

-- whatever is printed from the one state on is printed from the other on, behind the bytes that were added
pub record Continues (t : Template) (E : Equations) (old new : State) : Type 0 where
  pub added : List ℕ
  pub out : new.out ≡ old.out ++ added
  pub to : (rest : List (List ℕ × Tree)) (text : List ℕ) → Rest t E (trees_of new.seen) new.pieces rest text → Rest t E (trees_of old.seen) old.pieces rest (added ++ text)
  pub from : (rest : List (List ℕ × Tree)) (text : List ℕ) → Rest t E (trees_of old.seen) old.pieces rest text
      → (others : List ℕ) × (text ≡ added ++ others) × Rest t E (trees_of new.seen) new.pieces rest others

-- each variable stands for itself
abbrev pub AreEnds : (Tree → Tree) → List Var → Type 0
AreEnds go [] = Unit {0}
AreEnds go (x ∷ xs) = (go (variable x) ≡ variable x) × AreEnds go xs

-- a move of the printer that goes on, whatever the equations are for which go represents each class
pub record Moves (t : Template) (go : Tree → Tree) (old new : State) : Type 0 where
  pub continues : (E : Equations) → Represents E go → AreEnds go old.seen → Continues t E old new
  pub ends : (E : Equations) → Represents E go → AreEnds go old.seen → AreEnds go new.seen

-- the place of a variable among those seen, or behind them
abbrev pub class_number : List Var → Var → ℕ
class_number [] x = 0
class_number (y ∷ ys) x = if same_var y x then 0 else suc (class_number ys x)

-- those seen with a variable, which comes last where it is new
abbrev pub with_class : List Var → Var → List Var
with_class [] x = x ∷ []
with_class (y ∷ ys) x = if same_var y x then y ∷ ys else y ∷ with_class ys x

-- the number of a variable, from 1 on, where it was seen
abbrev pub known_number : List Var → Var → Option ℕ
known_number [] x = None
known_number (y ∷ ys) x = if same_var y x then Some 1 else option_map (λ k. suc k) (known_number ys x)

-- the index has the number of each variable that was seen
pub record HasNumbers (index : List (Var × ℕ)) (seen : List Var) : Type 0 where
  pub each : (x : Var) → lookup (same_var x) index ≡ known_number seen x

-- arguments to print, `,` between, before other pieces
abbrev pub argument_pieces : Name → ℕ → ℕ → List Piece → List Piece
argument_pieces f i zero ps = ps
argument_pieces f i (suc zero) ps = Whole (Mol i f) ∷ ps
argument_pieces f i (suc (suc n)) ps = Whole (Mol i f) ∷ Byte 44 ∷ argument_pieces f (suc i) (suc n) ps

-- the state behind a byte, a class, a number, a port
abbrev pub with_bytes : List ℕ → State → State
with_bytes bytes s = record s { out = s.out ++ bytes }

-- the text of a symbol
abbrev pub name_of : Template → ℕ → List ℕ
name_of t n = unwrap_or (slice_get t.symbols n) []

-- a list cell, by its name and its number of arguments
abbrev pub names_cell : List ℕ → ℕ → Bool
names_cell name count = (count == 2) && bytes_eq name (codes ".")

-- the empty list
abbrev pub names_end : List ℕ → ℕ → Bool
names_end name count = (count == 0) && bytes_eq name (codes "[]")

-- an element and the rest of its list, before other pieces
abbrev pub cell_pieces : Name → ℕ → List Piece → List Piece
cell_pieces f i ps = Whole (Mol i f) ∷ Tail (Mol (i + 1) f) ∷ ps

-- the state behind the beginning of a symbol with arguments
abbrev pub compound_begun : List ℕ → ℕ → ℕ → Name → State → State
compound_begun name i count f s = record (with_bytes (symbol_text name ++ 40 ∷ []) s) { pieces = argument_pieces f i count (Byte 41 ∷ s.pieces) }

abbrev pub symbol_begun : List ℕ → ℕ → ℕ → Name → State → State
symbol_begun name i count f s = if count == 0 then with_bytes (constant_text name) s
    else (if names_cell name count then record (with_bytes (91 ∷ []) s) { pieces = cell_pieces f i s.pieces } else compound_begun name i count f s)

-- the state behind the beginning of a term, by what it begins with
abbrev pub class_printed : Var → State → State
class_printed x s = record (with_bytes (class_text (class_number s.seen x)) s) { seen = with_class s.seen x }

abbrev pub whole_begun : Template → Seen → State → State
whole_begun t (Free x) s = class_printed x s
whole_begun t (Seen.Int z) s = with_bytes (signed_decimal z) s
whole_begun t (Seen.Port p) s = with_bytes (codes "port") s
whole_begun t (Seen.Struct n i count f) s = symbol_begun (name_of t n) i count f s

-- the state behind the beginning of a tail that is no list
abbrev pub partial_begun : Term → State → State
partial_begun term s = record (with_bytes (124 ∷ []) s) { pieces = Whole term ∷ Byte 93 ∷ s.pieces }

-- the state behind the beginning of a list's tail, by what stands for it
abbrev pub tail_begun : Template → Term → Seen → State → State
tail_begun t term (Seen.Struct n i count f) s = if names_end (name_of t n) count then with_bytes (93 ∷ []) s
    else (if names_cell (name_of t n) count then record (with_bytes (44 ∷ []) s) { pieces = cell_pieces f i s.pieces } else partial_begun term s)
tail_begun t term _ s = partial_begun term s

-- the state behind the beginning of a line
abbrev pub line_begun : List ℕ → Term → State → State
line_begun name term s = record (with_bytes (name ++ codes " = ") s) { pieces = Whole term ∷ Byte 10 ∷ s.pieces }

-- the nodes of the arguments have numbers of 32 bits
abbrev pub IsShort : Seen → Type 0
IsShort (Seen.Struct n i count f) = i + count < 2 ^ 32
IsShort seen = Unit {0}

-- what stands for a term, and how it begins
pub record StandsFor (t : Template) (go : Tree → Tree) (s : Term) : Type 0 where
  pub end : Term
  pub goes : tree t.nodes end ≡ go (tree t.nodes s)
  pub arranged : IsArranged t.nodes
  pub known : IsKnown t (seen_of t.nodes end)

-- a piece is begun, by what stands for its term
abbrev pub Begins : Template → (Tree → Tree) → Piece → State → State → Type 0
Begins t go (Byte b) old new = new ≡ with_bytes (b ∷ []) old
Begins t go (Whole s) old new = (w : StandsFor t go s) × (new ≡ whole_begun t (seen_of t.nodes w.end) old)
Begins t go (Tail s) old new = (w : StandsFor t go s) × (new ≡ tail_begun t s (seen_of t.nodes w.end) old)

-- something was printed
abbrev pub Grows : State → State → Type 0
Grows old new = length old.out < length new.out

-- whatever is printed from this state on, its text is too long
abbrev pub Overruns : Template → (Tree → Tree) → State → Type 0
Overruns t go s = (E : Equations) → Represents E go → AreEnds go s.seen → (rest : List (List ℕ × Tree)) (text : List ℕ) → Rest t E (trees_of s.seen) s.pieces rest text → longest_answer < length (s.out ++ text)
