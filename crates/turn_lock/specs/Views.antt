-- What a pass knows: of one that is new, and of the first after a join.
use Rattle.std.specs.Prelude.{ℕ, List, [], ◌∷◌, ◌++◌}
use Rattle.turn_lock.specs.declared.view.View.{View}
use Rattle.turn_lock.specs.Histories.{longer}

module _ {F E : Type 0} where
  -- a pass that has made no other
  abbrev pub newcomer : ℕ → F → List E → View F E
  newcomer number fixed seen = record { number = number; fixed = fixed; seen = seen; split_count = 0; joined = [] }

  -- the first pass after another was joined to it
  abbrev pub with_joined : View F E → View F E → View F E
  with_joined v w = record v { seen = longer v.seen w.seen; joined = v.joined ++ record { number = w.number; seen = w.seen } ∷ [] }
