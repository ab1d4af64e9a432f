-- Finite tables of cells, with places for variables.
use Rattle.std.specs.Prelude.{◌≡◌, ℕ, List, [], ◌∷◌, length, slice_get, Option, Some, None, option_map, option_and_then, if◌then◌else◌}
use Rattle.akl_terms.specs.declared.name.Var.{Var}
use Rattle.tree_models.specs.declared.model.Given.{Given}
use Rattle.tree_models.specs.declared.model.TreeModel.{TreeModel}
use Rattle.tree_models.specs.declared.cell.Cell.{Cell}
use Rattle.tree_models.specs.declared.cell.Cell.TheVariants.{Free as free, Int as number, Port as a_port, Struct as compound}
use Rattle.akl_terms.specs.Names.{same_var}
use Rattle.akl_terms.specs.Tree.{Tree, variable, symbol, list_of, Head, integer_head, port_head, symbol_head, head_of}

-- cells, and the places of variables
pub record Table : Type 0 where
  pub cells : List Cell
  pub given : List Given

abbrev pub table_of : TreeModel → Table
table_of m = record { cells = m.cells.items; given = m.given.items }

abbrev pub place_in : Var → List Given → Option ℕ
place_in x [] = None
place_in x (g ∷ gs) = if same_var x g.variable then Some g.place else place_in x gs

-- how a place begins: like a term with this head, or, where it is free, by itself
pub data Beginning : Type 0 where
  of_head : Head → Beginning
  of_place : ℕ → Beginning

abbrev pub beginning : ℕ → Cell → Beginning
beginning i free = of_place i
beginning i (number z) = of_head (integer_head z)
beginning i (a_port q) = of_head (port_head q)
beginning i (compound f ps) = of_head (symbol_head f (length ps))

abbrev pub places_of : Cell → List ℕ
places_of (compound f ps) = ps
places_of c = []

-- to what a list of argument positions leads from a place; nothing where it leads nowhere
abbrev pub met_at : List Cell → List ℕ → ℕ → Option Beginning
met_at cells [] i = option_map (beginning i) (slice_get cells i)
met_at cells (k ∷ ks) i = option_and_then (met_at cells ks) (option_and_then (λ (c : Cell). slice_get (places_of c) k) (slice_get cells i))

-- and from a term: within it, and from a variable on at the variable's place
abbrev pub met_in : Table → List ℕ → Tree → Option Beginning
met_in T ks (variable x) = option_and_then (met_at T.cells ks) (place_in x T.given)
met_in T [] t = option_map of_head (head_of t)
met_in T (k ∷ ks) (symbol f ts) = option_and_then (met_in T ks) (slice_get (list_of ts) k)
met_in T (k ∷ ks) t = None

-- two places, two terms, or a term and a place, are the same
abbrev pub SamePlace : List Cell → ℕ → ℕ → Type 0
SamePlace cells i j = (ks : List ℕ) → met_at cells ks i ≡ met_at cells ks j

abbrev pub SameTerm : Table → Tree → Tree → Type 0
SameTerm T s t = (ks : List ℕ) → met_in T ks s ≡ met_in T ks t

abbrev pub IsTermAt : Table → Tree → ℕ → Type 0
IsTermAt T t i = (ks : List ℕ) → met_in T ks t ≡ met_at T.cells ks i
