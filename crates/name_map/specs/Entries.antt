-- Values by names: what is found once one name has another value, or none.
use Rattle.std.specs.Prelude.{◌≡◌, List, Option, None, Some, if◌then◌else◌}
use Rattle.std.specs.Map.{lookup, remove_entry, keys_of}
use Rattle.std.specs.BTreeMap.{insert_entry}
use Rattle.std.specs.List.Sorted.{IsStrictlySortedBy}
use Rattle.akl_terms.specs.declared.name.Name.{Name}
use Rattle.akl_terms.specs.Names.{same_name, name_cmp}

module _ {V : Type 0} where
  -- one name leads to something else, or to nothing
  abbrev pub Finds : List (Name × V) → List (Name × V) → Name → Option V → Type 0
  Finds old new k w = (m : Name) → lookup (same_name m) new ≡ (if same_name m k then w else lookup (same_name m) old)

  pub record IsPut (old new : List (Name × V)) (k : Name) (v : V) : Type 0 where
    pub entries : new ≡ insert_entry name_cmp old k v
    pub ordered : IsStrictlySortedBy name_cmp (keys_of new)
    pub finds : Finds old new k (Some v)

  pub record IsTakenOut (old new : List (Name × V)) (k : Name) : Type 0 where
    pub entries : new ≡ remove_entry (same_name k) old
    pub ordered : IsStrictlySortedBy name_cmp (keys_of new)
    pub finds : Finds old new k None
