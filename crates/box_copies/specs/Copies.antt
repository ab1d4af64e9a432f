-- The copies that a split makes.
use Rattle.std.specs.Prelude.{◌≡◌, List, [], ◌∷◌, ◌++◌, map, length, Some, true}
use Rattle.akl_terms.specs.declared.name.Name.{Name}
use Rattle.akl_terms.specs.declared.name.Place.{Place}
use Rattle.akl_terms.specs.declared.term.Node.{Node}
use Rattle.local_store.specs.Stored.{Stored}
use Rattle.local_store.specs.Chained.{around, IsSolvedChain}
use Rattle.table_laws.specs.Steps as laws
use Rattle.table_laws.specs.Copying.{AreNamesCopied, swapping, AreMade}
use Rattle.box_tree.specs.declared.inside.InnerBox.{InnerBox}
use Rattle.box_tree.specs.declared.inside.Inside.{Inside}
use Rattle.box_tree.specs.Tables.{table_of, box_copy}
use Rattle.box_tree.specs.Views.{ViewValue}
use Rattle.box_tree.specs.Insides.{AreBoxesInside, IsInsideOf}
use Rattle.box_copies.specs.declared.copying.Copied.{Copied}

-- all that stands in the box that was looked at and inside it
pub record IsInsideOfBox (v : ViewValue) (i : Inside) : Type 0 where
  pub name : Name
  pub place : v.place ≡ Place.Box name
  pub inside : IsInsideOf v.table v.journal name v.worker i

-- the box that was looked at and all boxes inside it
pub record AreBoxesOf (v : ViewValue) (bs : List InnerBox) : Type 0 where
  pub name : Name
  pub place : v.place ≡ Place.Box name
  pub boxes : AreBoxesInside v.table name bs

-- where a copy counts as solved, the stores of the copies down to it are solved over these around
abbrev pub AreSolvedOver : List Node → List Stored → List laws.BoxCopy → Type 0
AreSolvedOver nodes outer copies = (k : laws.BoxCopy) (stores : List Stored) → laws.copy_among copies k.name ≡ Some k → laws.AreAround copies k.holder stores
    → k.solved ≡ true → IsSolvedChain nodes (outer ++ (stores ++ k.store ∷ []))

-- the box that was looked at, without an alternative: the names in order get the worker's next ones, and the copies are made of the table's
-- rows, so they are what a label of Split makes, where it applies. A copy that counts as solved is so with the stores around it
pub record IsSplitInto (v : ViewValue) (a : Name) (c : Copied) : Type 0 where
  pub name : Name
  pub place : v.place ≡ Place.Box name
  pub old : List Name
  pub are_old : AreNamesCopied (table_of v.table) name a old
  pub names : c.names ≡ length old
  pub copy : c.copy ≡ swapping old v.worker v.next name
  pub made : AreMade (table_of v.table) name a (swapping old v.worker v.next) (map (box_copy v.table.program.templates.nodes) c.copies.items)
  pub solved : AreSolvedOver v.table.program.templates.nodes (around v.stores) (map (box_copy v.table.program.templates.nodes) c.copies.items)
