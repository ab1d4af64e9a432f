-- How templates keep the number of each symbol beside its text.
use Rattle.std.specs.Prelude.{◌≡◌, ◌<◌, ◌≤◌, ◌^◌, ℕ, List, length, slice_get, Some}
use Rattle.std.specs.BTreeMap.{get_by_text}
use Rattle.akl_terms.specs.declared.templates.Templates.TheInside.{Inside}
use Rattle.akl_terms.specs.Template.{IsArranged, HasSymbols}

-- each text in the map has its place in the list, and each text of the list is in the map
pub record IsNumbered (t : Inside) : Type 0 where
  pub arranged : IsArranged t.nodes.items
  pub named : HasSymbols (record { nodes = t.nodes.items; symbols = t.symbols.items })
  pub nodes_small : length t.nodes.items < 2 ^ 32
  pub symbols_small : length t.symbols.items ≤ 4294967295
  pub place : (text : List ℕ) (n : ℕ) → get_by_text t.numbers text ≡ Some n → slice_get t.symbols.items n ≡ Some text
  pub number : (text : List ℕ) (n : ℕ) → slice_get t.symbols.items n ≡ Some text → get_by_text t.numbers text ≡ Some n
