-- What a map ends as, where a `&mut` to one of its values is returned.
use Rattle.std.specs.Prelude.{◌≡◌, ℕ, List, Option, Some, OnSome}
use Rattle.std.specs.Borrow.{Lends, LendsSo, Fml, RattleType, MutBor}
use Rattle.akl_terms.specs.declared.name.Name.{Name}
use Rattle.name_map.specs.Entries.{IsPut}
use Rattle.name_map.specs.Pages.{Same, Puts}
use Rattle.name_map.specs.declared.numbers.Numbers.{Numbers}
use Rattle.name_map.specs.contracts.map.NameMap.{the_row}
use Rattle.name_map.specs.contracts.boxed_map.BoxedMap.{the_row as boxed_map_row}
use Rattle.name_map.specs.contracts.boxed.Boxed.{the_row as boxed_row}
use Rattle.name_map.specs.contracts.numbers.Numbers.{the_row as numbers_row}

-- the name has the last value written through the borrow, and where there is none the map stays as it is
abbrev pub lends_get : (V : RattleType) → MutBor (List (Name × V.Denot)) → Name → Option (MutBor V.Denot) → Fml
lends_get V map name r = LendsSo (the_row V) V map r (λ new w. OnSome r (IsPut map.now new name w)) (λ new. new ≡ map.now)

-- the same of a map whose values stand in boxes
abbrev pub lends_boxed : (V : RattleType) → MutBor (List (Name × V.Denot)) → Name → Option (MutBor V.Denot) → Fml
lends_boxed V map name r = LendsSo (boxed_map_row V) V map r (λ new w. OnSome r (IsPut map.now new name w)) (λ new. new ≡ map.now)

-- the same of one worker's numbers
abbrev pub lends_number : (V : RattleType) → MutBor (Numbers V.Denot) → ℕ → Option (MutBor V.Denot) → Fml
lends_number V numbers k r = LendsSo (numbers_row V) V numbers r (λ new w. OnSome r (Puts numbers.now new k (Some w))) (λ new. Same numbers.now new)

-- a value in a box is the last one written through the borrow
abbrev pub lends_value : (V : RattleType) → MutBor V.Denot → MutBor V.Denot → Fml
lends_value V boxed r = Lends (boxed_row V) V boxed r (λ w. w)
