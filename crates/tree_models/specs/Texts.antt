-- The text of a model.
use Rattle.std.specs.Prelude.{◌≡◌, ◌≤◌, ◌<◌, ℕ, zero, suc, List, [], ◌∷◌, ◌++◌, get_or, slice_get, Some, codes, ⊤, max, length}
use Rattle.std.specs.List.{flat_map}
use Rattle.std.specs.Fmt.{decimal, signed_decimal}
use Rattle.answer_text.specs.SymbolText.{symbol_text}
use Rattle.tree_models.specs.declared.cell.Cell.{Cell}
use Rattle.tree_models.specs.declared.cell.Cell.TheVariants.{Free as free, Int as number, Port as a_port, Struct as compound}
use Rattle.tree_models.specs.declared.model.TreeModel.{TreeModel}
use Rattle.tree_models.specs.Tables.{places_of}
use Rattle.tree_models.specs.Visiting.{IsOne}

abbrev pub place_text : ℕ → List ℕ
place_text i = 35 ∷ decimal i

abbrev pub behind_comma : ℕ → List ℕ
behind_comma i = 44 ∷ place_text i

-- places in parentheses with commas between, where there are any
abbrev pub arguments_text : List ℕ → List ℕ
arguments_text [] = []
arguments_text (i ∷ is) = 40 ∷ place_text i ++ flat_map behind_comma is ++ 41 ∷ []

abbrev pub cell_text : List (List ℕ) → Cell → List ℕ
cell_text symbols free = codes "_"
cell_text symbols (number z) = signed_decimal z
cell_text symbols (a_port q) = codes "port"
cell_text symbols (compound f ps) = symbol_text (get_or symbols f []) ++ arguments_text ps

-- the line of a place
abbrev pub line_of : List (List ℕ) → ℕ → Cell → List ℕ
line_of symbols i c = place_text i ++ codes " = " ++ cell_text symbols c ++ codes "\n"

abbrev pub cell_line : List (List ℕ) → List Cell → ℕ → List ℕ
cell_line symbols cells i = line_of symbols i (get_or cells i free)

-- the lines of shown terms
abbrev pub shown_line : List ℕ → ℕ → List ℕ
shown_line name i = name ++ codes ": " ++ place_text i ++ codes "\n"

abbrev pub shown_lines : List (List ℕ) → List ℕ → List ℕ
shown_lines [] is = []
shown_lines (name ∷ names) [] = []
shown_lines (name ∷ names) (i ∷ is) = shown_line name i ++ shown_lines names is

-- a place is one of these, or an argument of one that is reached from these
pub data IsReached (cells : List Cell) (starts : List ℕ) : ℕ → Type 0 where
  at_start : {i : ℕ} → IsOne i starts → IsReached cells starts i
  below : {i j : ℕ} {c : Cell} → IsReached cells starts i → slice_get cells i ≡ Some c → IsOne j (places_of c) → IsReached cells starts j

-- increasing places, none below this one
abbrev pub AreRising : ℕ → List ℕ → Type 0
AreRising low [] = ⊤
AreRising low (i ∷ is) = (low ≤ i) × AreRising (suc i) is

-- the text of a model under the names of what is shown: the line `model`, the line of each shown term, and the lines of the places that are reached from these, in increasing order
pub record IsModelText (symbols names : List (List ℕ)) (m : TreeModel) (text : List ℕ) : Type 0 where
  pub places : List ℕ
  pub rising : AreRising 0 places
  pub reached : (i : ℕ) → IsOne i places → IsReached m.cells.items m.shown.items i
  pub all : (i : ℕ) → IsReached m.cells.items m.shown.items i → IsOne i places
  pub is : text ≡ codes "model\n" ++ shown_lines names m.shown.items ++ flat_map (cell_line symbols m.cells.items) places

-- the least number that isn't below this one and is above these places
abbrev pub above : ℕ → List ℕ → ℕ
above low [] = low
above low (i ∷ is) = above (max low (suc i)) is

-- so many places from this one on
abbrev pub places_from : ℕ → ℕ → List ℕ
places_from low zero = []
places_from low (suc n) = low ∷ places_from (suc low) n

-- lines were added for the first places, which are all that are there, or as many that they are above the shown places and above the arguments of each, and no more
pub record AreCellLines (symbols : List (List ℕ)) (cells : List Cell) (shown : List ℕ) (old new : List ℕ) : Type 0 where
  pub count : ℕ
  pub is : new ≡ old ++ flat_map (cell_line symbols cells) (places_from 0 count)
  pub within : count ≤ length cells
  pub least : (n : ℕ) → ((i : ℕ) → IsOne i shown → i < n) → ((i j : ℕ) (c : Cell) → i < n → slice_get cells i ≡ Some c → IsOne j (places_of c) → j < n) → count ≤ n
  pub closed : count < length cells → ((i : ℕ) → IsOne i shown → i < count) × ((i j : ℕ) (c : Cell) → i < count → slice_get cells i ≡ Some c → IsOne j (places_of c) → j < count)
