-- What a tree has: the value of each number, how many binary digits its numbers have, and whether it has a node.
use Rattle.std.specs.Prelude.{◌≡◌, ℕ, ◌+◌, ◌-◌, ◌/◌, ◌%◌, ◌^◌, ◌≤◌, ◌&&◌, leb, ltb, Bool, true, false, List, length, map, Option, None, Some, if◌then◌else◌}
use Rattle.std.specs.Arc.{arc_value}
use Rattle.std.specs.List.{list_all}
use lib.Dec.{eqb}
use Rattle.std.specs.Map.{lookup}
use Rattle.akl_terms.specs.declared.name.Name.{Name}
use Rattle.akl_terms.specs.Names.{same_name}
use Rattle.name_map.specs.Entries.{IsPut}
use Rattle.name_map.specs.Pages.{within, in_slot}
use Rattle.frame_map.specs.declared.tree.Tree.{Tree}
use Rattle.frame_map.specs.declared.tree.Tree.TheOpen.{Tree-F}
use Rattle.frame_map.specs.declared.tree.Tree.TheFolds.{fold-Tree}

-- a clone is equal to what it is a clone of
abbrev pub ClonesAreEqual : {V : Type 0} → (V → V → Type 0) → Type 0
ClonesAreEqual {V} is_clone = (v w : V) → is_clone v w → w ≡ v

-- `fits w` says that all numbers with a value have at most w binary digits, as far as the lists of the tree show
pub record Contents (V : Type 0) : Type 0 where
  pub value : ℕ → Option V
  pub fits : ℕ → Bool
  pub has_node : Bool

module _ {V : Type 0} where
  abbrev pub nothing : Contents V
  nothing = record { value = λ n. None; fits = λ w. true; has_node = false }

  -- the values of numbers from 0 on
  abbrev pub of_slots : List (Option V) → Contents V
  of_slots slots = record { value = λ n. within in_slot slots n; fits = λ w. leb (length slots) (2 ^ w); has_node = true }

  -- a child for each first digit, which leaves `below` binary digits
  abbrev pub of_children : ℕ → List (Contents V) → Contents V
  of_children below children = record {
    value = λ n. within (λ c. c.value (n % 2 ^ below)) children (n / 2 ^ below);
    fits = λ w. ltb below w && (leb (length children) (2 ^ (w - below)) && list_all (λ c. c.fits below) children);
    has_node = true;
  }

  abbrev pub tree_step : Tree-F V (Contents V) → Contents V
  tree_step Tree-F.Empty = nothing
  tree_step (Tree-F.Leaf slots) = of_slots (arc_value slots).items
  tree_step (Tree-F.Inner below children) = of_children below (arc_value children).items

  abbrev pub contents : Tree V → Contents V
  contents = fold-Tree V (Contents V) tree_step

  abbrev pub all_contents : List (Tree V) → List (Contents V)
  all_contents trees = map contents trees

  abbrev pub AllFit : ℕ → List (Contents V) → Type 0
  AllFit w all = list_all (λ c. c.fits w) all ≡ true

  abbrev pub FitsIn : ℕ → Tree V → Type 0
  FitsIn w tree = (contents tree).fits w ≡ true

  -- every number has the value that it had
  abbrev pub Same : Contents V → Contents V → Type 0
  Same old new = (n : ℕ) → new.value n ≡ old.value n

  -- one number has another value, or none
  abbrev pub Puts : Contents V → Contents V → ℕ → Option V → Type 0
  Puts old new k o = (n : ℕ) → new.value n ≡ (if eqb n k then o else old.value n)

-- a value became another one, of which this is known
pub record IsMade {V : Type 0} (makes : Option V → V → Type 0) (old new : Option V) : Type 0 where
  pub value : V
  pub is : new ≡ Some value
  pub made : makes old value

-- a number has a value of which this is known, with the one that it had
pub record PutsMade {V : Type 0} (makes : Option V → V → Type 0) (old new : Contents V) (k : ℕ) : Type 0 where
  pub value : V
  pub puts : Puts old new k (Some value)
  pub made : makes (old.value k) value

-- so it is of a name among names with their values
pub record IsChanged {V : Type 0} (makes : Option V → V → Type 0) (old new : List (Name × V)) (k : Name) : Type 0 where
  pub value : V
  pub put : IsPut old new k value
  pub made : makes (lookup (same_name k) old) value

-- a tree of numbers of at most 64 binary digits
pub record IsTree {V : Type 0} (tree : Tree V) : Type 0 where
  pub width : ℕ
  pub most : width ≤ 64
  pub fits : FitsIn width tree

-- a tree of numbers that have at most 64 binary digits after the number `first` is added
pub record IsTreeFrom {V : Type 0} (first : ℕ) (tree : Tree V) : Type 0 where
  pub width : ℕ
  pub most : first + 2 ^ width ≤ 2 ^ 64
  pub fits : FitsIn width tree
