-- Which tables solve equations, and which one is the model of a solved chain.
use Rattle.std.specs.Prelude.{◌≡◌, ◌<◌, ◌⊎◌, ℕ, suc, List, [], ◌∷◌, ◌++◌, length, map, slice_get, Some, ⊤}
use Rattle.std.specs.List.Sorted.{IsStrictlySortedBy}
use Rattle.akl_terms.specs.declared.name.Var.{Var}
use Rattle.akl_terms.specs.declared.program.ShownTerm.{ShownTerm}
use Rattle.akl_terms.specs.declared.term.Node.{Node}
use Rattle.akl_terms.specs.Names.{var_cmp}
use Rattle.akl_terms.specs.Template.{tree}
use Rattle.local_store.specs.Chained.{Chained, equations_of}
use Rattle.akl_terms.specs.Tree.{Tree, Trees, variable, integer, port, symbol, none, more}
use Rattle.akl_terms.specs.Equal.{Equations, IsTold, IsStructured}
use Rattle.akl_terms.specs.Solved as solved
use Rattle.tree_models.specs.declared.model.Given.{Given}
use Rattle.tree_models.specs.declared.model.TreeModel.{TreeModel}
use Rattle.tree_models.specs.Tables.{Table, table_of, place_in, places_of, SamePlace, SameTerm, IsTermAt}
use Rattle.tree_models.specs.declared.cell.Cell.{Cell}
use Rattle.tree_models.specs.declared.cell.Cell.TheVariants.{Free as free}

-- a variable occurs in a term, or in equations
abbrev mutual
  pub Occurs : Var → Tree → Type 0
  Occurs x (variable y) = x ≡ y
  Occurs x (integer z) = ⊥
  Occurs x (port q) = ⊥
  Occurs x (symbol f ts) = OccursAmong x ts

  pub OccursAmong : Var → Trees → Type 0
  OccursAmong x none = ⊥
  OccursAmong x (more t ts) = Occurs x t ⊎ OccursAmong x ts

abbrev pub OccursIn : Var → Equations → Type 0
OccursIn x [] = ⊥
OccursIn x (e ∷ es) = Occurs x e.left ⊎ (Occurs x e.right ⊎ OccursIn x es)

abbrev pub OccursShown : Var → List Tree → Type 0
OccursShown x [] = ⊥
OccursShown x (t ∷ ts) = Occurs x t ⊎ OccursShown x ts

-- a variable has a place
abbrev pub IsPlaced : Table → Var → Type 0
IsPlaced T x = (i : ℕ) × (place_in x T.given ≡ Some i)

-- a table solves equations: each of their variables has a place, and the two sides of each are the same in it
pub record Solves (T : Table) (E : Equations) : Type 0 where
  pub placed : (x : Var) → OccursIn x E → IsPlaced T x
  pub sides : (s t : Tree) → IsTold E s t → SameTerm T s t

-- each argument is a place of the list, and so is the place of each variable
pub record IsWithin (T : Table) : Type 0 where
  pub arguments : (i k j : ℕ) (c : Cell) → slice_get T.cells i ≡ Some c → slice_get (places_of c) k ≡ Some j → j < length T.cells
  pub given : (x : Var) (i : ℕ) → place_in x T.given ≡ Some i → i < length T.cells

-- the places are numbered by first visit: n of them were visited, and from these places on, in order and depth first, the others come to have the numbers from n
-- up to m
pub data Visits (cells : List Cell) : ℕ → List ℕ → ℕ → Type 0 where
  nothing_left : {n : ℕ} → Visits cells n [] n
  met : {n m p : ℕ} {ps : List ℕ} → p < n → Visits cells n ps m → Visits cells n (p ∷ ps) m
  first : {n m : ℕ} {c : Cell} {ps : List ℕ} → slice_get cells n ≡ Some c → Visits cells (suc n) (places_of c ++ ps) m → Visits cells n (n ∷ ps) m

-- the places of a model are numbered by first visit, from the shown terms in order and then from the variables
abbrev pub IsNumbered : TreeModel → Type 0
IsNumbered m = Visits m.cells.items 0 (m.shown.items ++ map (λ (g : Given). g.place) m.given.items) (length m.cells.items)

-- the shown terms stand at these places
abbrev pub AreShownAt : Table → List Tree → List ℕ → Type 0
AreShownAt T [] [] = ⊤
AreShownAt T (t ∷ ts) (i ∷ is) = IsTermAt T t i × AreShownAt T ts is
AreShownAt T _ _ = ⊥

-- a table with the places of shown terms is the model of equations: it solves them, no two of its places are the same, and they are numbered by first visit
pub record IsModel (E : Equations) (shown : List Tree) (m : TreeModel) : Type 0 where
  pub solves : Solves (table_of m) E
  pub within : IsWithin (table_of m)
  pub increasing : IsStrictlySortedBy var_cmp (map (λ (g : Given). g.variable) m.given.items)
  pub placed : (x : Var) → OccursShown x shown → IsPlaced (table_of m) x
  pub only : (x : Var) → IsPlaced (table_of m) x → OccursIn x E ⊎ OccursShown x shown
  pub shown_at : AreShownAt (table_of m) shown m.shown.items
  pub free_unstructured : (x : Var) (i : ℕ) → place_in x m.given.items ≡ Some i → slice_get m.cells.items i ≡ Some free → IsStructured E x → ⊥
  pub unstructured_free : (x : Var) (i : ℕ) → place_in x m.given.items ≡ Some i → (IsStructured E x → ⊥) → slice_get m.cells.items i ≡ Some free
  pub one_place : (x y : Var) (i : ℕ) → place_in x m.given.items ≡ Some i → place_in y m.given.items ≡ Some i → solved.SameTree (IsTold E) (variable x) (variable y)
  pub same_tree : (x y : Var) (i j : ℕ) → place_in x m.given.items ≡ Some i → place_in y m.given.items ≡ Some j → solved.SameTree (IsTold E) (variable x) (variable y) → i ≡ j
  pub distinct : (i j : ℕ) → i < length m.cells.items → j < length m.cells.items → SamePlace m.cells.items i j → i ≡ j
  pub visited : IsNumbered m

abbrev pub shown_terms : List Node → List ShownTerm → List Tree
shown_terms nodes shown = map (λ (s : ShownTerm). tree nodes s.term) shown

-- the model of a chain's bindings
abbrev pub IsModelOfChain : Chained → List ShownTerm → TreeModel → Type 0
IsModelOfChain c shown m = IsModel (equations_of c.nodes c.stores) (shown_terms c.nodes shown) m
