-- A flat table unfolds to a configuration: under each name it has what stands there.
use Rattle.std.specs.Prelude.{◌≡◌, ℕ, ◌≤◌, List, [], ◌∷◌, Option, Some, None, option_map, option_and_then, ⊤, slice_index}
use Rattle.akl_terms.specs.declared.name.Name.{Name}
use Rattle.akl_terms.specs.Equal.{IsTold}
use Rattle.akl_terms.specs.Standing.{StandFor}
use Rattle.akl_model.specs.Config.{Boxes, Goals, Config, Held, held_in, Found, whole, box_at, home_of}
use Rattle.akl_model.specs.Conditions.{HasFailed, IsFailing}
use Rattle.akl_model.specs.Changes.{Shape, shape_of, box_names, goal_names}
use Rattle.akl_model.specs.Wakes.{names_around, names_down_to, holder_in}
use Rattle.local_store.specs.Chained.{IsSolvedChain}
use Rattle.table_laws.specs.Rows.{BoxRow, GoalRow, Table, stores_along, told_in, ports_in}

-- one of the goals by which the box fails, or none where there is none
abbrev pub FailsBy : Goals → Option Name → Type 0
FailsBy gs None = HasFailed gs → ⊥
FailsBy gs (Some g) = (h : Held) × (held_in g gs ≡ Some h) × IsFailing h

-- none of these boxes was changed by a label after the first ones, so many as are given
abbrev pub UnchangedSince : Table → ℕ → List Name → Type 0
UnchangedSince T k [] = ⊤
UnchangedSince T k (n ∷ ns) = ((r : BoxRow) → T.box_of n ≡ Some r → r.changed ≤ k) × UnchangedSince T k ns

-- a store that was solved is solved still, with those around it, unless one of these was changed since
pub record StaysSolved (T : Table) (f : Found) (r : BoxRow) : Type 0 where
  pub within : (k : ℕ) → r.solved_at ≡ Some k → k ≤ T.steps
  pub solved : (k : ℕ) → r.solved_at ≡ Some k → UnchangedSince T k (names_around f) → IsSolvedChain T.nodes (stores_along T (names_down_to f))

-- the row of a box that is found in a configuration of these root boxes. The stores down to it stand for the equations down to it
pub record IsBoxRow (T : Table) (roots : Boxes) (f : Found) (r : BoxRow) : Type 0 where
  pub holder : r.holder ≡ holder_in f.content.name roots
  pub frames : r.store.frames ≡ f.content.frames
  pub ports : ports_in T.nodes r.store.ports ≡ f.content.ports
  pub stands : StandFor (IsTold (told_in T.nodes (stores_along T (names_down_to f)))) (IsTold (whole f))
  pub stays_solved : StaysSolved T f r
  pub goals : r.goals ≡ goal_names f.goals
  pub failing : FailsBy f.goals r.failing
  pub body : r.body ≡ f.content.body
  pub shown : r.shown ≡ f.content.shown
  pub collected : r.collected ≡ f.content.collected

-- a fact of what stands under a name in a configuration and of its row: both are there, or neither is
abbrev pub AreBoth : {A B : Type 0} → (A → B → Type 0) → Option A → Option B → Type 0
AreBoth P None None = ⊤
AreBoth P (Some a) (Some b) = P a b
AreBoth P a b = ⊥

-- the box in which a goal stands, and its shape
pub record Spot : Type 0 where
  pub home : Name
  pub shape : Shape

abbrev pub spot_in : Name → Boxes → Option Spot
spot_in g roots = option_and_then (λ (f : Found). option_map (λ (h : Held). record { home = f.content.name; shape = shape_of h }) (held_in g f.goals)) (home_of g roots)

abbrev pub spot_of : GoalRow → Spot
spot_of r = record { home = r.home; shape = r.shape }

pub record Unfolds (T : Table) (c : Config) : Type 0 where
  pub boxes : (n : Name) → AreBoth (IsBoxRow T c.roots) (box_at n c.roots) (T.box_of n)
  pub goals : (g : Name) → option_map spot_of (T.goal_of g) ≡ spot_in g c.roots
  pub roots : T.roots ≡ box_names c.roots
  pub next : (w : ℕ) → slice_index T.next w ≡ slice_index c.next w
