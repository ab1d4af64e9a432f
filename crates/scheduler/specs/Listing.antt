-- The places that are listed for a plan: those that its label changes, wakes, or leaves under equations that bind a variable from outside.
use Rattle.std.specs.Prelude.{◌≡◌, List, [], ◌∷◌, ◌++◌, ◌&&◌, Bool, true, false, not, if◌then◌else◌, Option, None, Some, option_map, is_some}
use Rattle.std.specs.List.{list_any}
use Rattle.akl_terms.specs.declared.name.Name.{Name}
use Rattle.akl_terms.specs.declared.name.Var.{Var}
use Rattle.akl_terms.specs.declared.name.Place.{Place}
use Rattle.local_store.specs.Stored.{is_named, all_named}
use Rattle.local_store.specs.declared.part.Part.{Part}
use Rattle.table_laws.specs.Steps as laws
use Rattle.box_tree.specs.declared.step.Step.{Step}
use Rattle.box_tree.specs.Tables.{TableValue, table_of, step_in}
use Rattle.box_tree.specs.Plans.{PlanValue}
use Rattle.wake_lists.specs.Waits.{places_at}
use Rattle.opened_places.specs.declared.around.Around.{Around}
use Rattle.opened_places.specs.Placed.{PlacedValue, places_of}
use Rattle.opened_places.specs.Exact.{IsAround, AreChanged}
use Rattle.opened_places.specs.Inner.{AreInside}
use Rattle.scheduler.specs.declared.waiting.Added.{Added}
use Rattle.scheduler.specs.Dropping.{is_place_in}
use Rattle.scheduler.specs.Once.{AreSameOnce}
use Rattle.scheduler.specs.Placing.{AddsThose}

-- the places that wait on these variables
abbrev pub waiting_on : List (Var × List Place) → List Var → List Place
waiting_on ws [] = []
waiting_on ws (x ∷ xs) = places_at x ws ++ waiting_on ws xs

-- places that don't go
abbrev pub places_but : List Place → List Place → List Place
places_but gone [] = []
places_but gone (p ∷ ps) = if is_place_in p gone then places_but gone ps else p ∷ places_but gone ps

-- one of these variables is of none of these frames
abbrev pub has_outer : List Var → List Name → Bool
has_outer xs frames = list_any (λ (x : Var). not (is_named frames x.frame)) xs

-- or of none of these, where there are any
abbrev pub outer_of : List Var → Option (List Name) → Bool
outer_of xs None = false
outer_of xs (Some frames) = has_outer xs frames

-- the frames that a step leaves its box, where it tells this something
abbrev pub frames_made : laws.Step → Option (List Name)
frames_made (laws.tells new solved) = Some new.frames
frames_made (laws.forks op news) = None
frames_made laws.fails = None
frames_made laws.cuts = None
frames_made (laws.joins new solved goals) = Some new.frames
frames_made laws.refutes = None
frames_made laws.confirms = None
frames_made (laws.splits copy copies) = None

-- what a step adds to the store of its box
abbrev pub part_of : Step → Option Part
part_of (Step.Tell part solved) = Some part
part_of (Step.Fork op alternatives) = None
part_of Step.Fail = None
part_of Step.Cut = None
part_of (Step.Join part solved goals told behind) = Some part
part_of Step.Refute = None
part_of Step.Confirm = None
part_of (Step.Split copy copies) = None

-- a step binds a variable that is external to its box; in a root box there is none
abbrev pub binds_outer : Around → List Var → laws.Step → Bool
binds_outer x xs step = is_some x.holder && outer_of xs (frames_made step)

-- the frames of a store with what is added to it
abbrev pub frames_added : Option Added → Option (List Name)
frames_added added = option_map (λ (a : Added). all_named a.store.now.frames a.part.now.frames.items) added

-- all that stand in a box, but these, come to the end of a list
pub record AreInner (v : TableValue) (home : Name) (gone before now : List Place) : Type 0 where
  pub inside : List PlacedValue
  pub are_inside : AreInside v home inside
  pub comes : now ≡ before ++ places_but gone (places_of inside)

-- those that wait on a variable that is bound; and where one is external to the label's box all that stand in it
pub record AreOthers (v : TableValue) (ws : List (Var × List Place)) (p : PlanValue) (x : Around) (gone others : List Place) : Type 0 where
  pub outer : binds_outer x p.binds (step_in v p.label p.step) ≡ true → AreInner v x.home gone (waiting_on ws p.binds) others
  pub none_outer : binds_outer x p.binds (step_in v p.label p.step) ≡ false → others ≡ waiting_on ws p.binds

-- each once
pub record AreOthersOnce (v : TableValue) (ws : List (Var × List Place)) (p : PlanValue) (x : Around) (gone others : List Place) : Type 0 where
  pub all : List Place
  pub are_others : AreOthers v ws p x gone all
  pub same : AreSameOnce all others

-- the places that the label changes, and with them others
pub record AddsOthers (v : TableValue) (p : PlanValue) (others : List Place) (places : List PlacedValue) : Type 0 where
  pub changed : List PlacedValue
  pub are_changed : AreChanged v p.label p.step changed
  pub adds : AddsThose v others changed places

-- all of these, for what stands about the label's place
pub record AreListedFor (v : TableValue) (ws : List (Var × List Place)) (p : PlanValue) (gone : List Place) (places : List PlacedValue) : Type 0 where
  pub around : Around
  pub is_around : IsAround (table_of v) p.label around
  pub others : List Place
  pub are_others : AreOthersOnce v ws p around gone others
  pub adds : AddsOthers v p others places
