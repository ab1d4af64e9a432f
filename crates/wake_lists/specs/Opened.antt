-- How open places are kept.
use Rattle.std.specs.Prelude.{◌≡◌, ℕ, List, [], None, map, is_some}
use Rattle.std.specs.Map.{lookup, keys_of}
use Rattle.std.specs.List.Sorted.{IsStrictlySortedBy}
use Rattle.std.specs.Ordering.{nat_cmp}
use Rattle.akl_terms.specs.declared.name.Name.{Name}
use Rattle.wake_lists.specs.declared.turn.Opened.{Opened}
use Rattle.wake_lists.specs.Tokens.{Numbers, is_taken}
use Rattle.wake_lists.specs.Standing.{boxes_at}
use Rattle.wake_lists.specs.Queue.{Places}
use Rattle.wake_lists.specs.Open.{Opening, Openings}
use lib.Dec.{eqb}

-- what is kept of an open place as what it is, where its token stands in these boxes
abbrev pub opening : List Name → Opened → Opening
opening ns o = record { place = o.place; turn = o.turn; boxes = ns }

abbrev pub openings : List (List Name) → Places → Openings
openings bs os = map (λ (e : ℕ × Opened). (e.0, opening (boxes_at e.0 bs) e.1)) os

pub record AreOpen (os : Places) (bs : List (List Name)) (numbers : Numbers) : Type 0 where
  pub taken : (t : ℕ) → is_taken numbers t ≡ is_some (lookup (eqb t) os)
  pub closed : (t : ℕ) → lookup (eqb t) os ≡ None → boxes_at t bs ≡ []
  pub ordered : IsStrictlySortedBy nat_cmp (keys_of os)
