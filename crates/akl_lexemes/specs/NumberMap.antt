-- How the number of each name is kept beside the names.
use Rattle.std.specs.Prelude.{◌≡◌, ◌≤◌, ℕ, List, length}
use Rattle.std.specs.BTreeMap.{get_by_text}
use Rattle.akl_lexemes.specs.Lexemes.{number_of}
use Rattle.akl_lexemes.specs.declared.names.Names.TheInside.{Inside}

-- the map has the number of each name, by its first place among the names
pub record NumbersAgree (t : Inside) : Type 0 where
  pub small : length t.names.items ≤ 4294967295
  pub number : (name : List ℕ) → get_by_text t.numbers name ≡ number_of name t.names.items
