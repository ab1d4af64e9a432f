-- What a place needs, by what stands there: by a box around it, or by itself.
use Rattle.std.proofs.Common.{◌≡◌, List, ◌++◌, Some, ◌⊎◌, inl, inr}
use Rattle.akl_terms.specs.declared.name.Name.{Name}
use Rattle.akl_terms.specs.declared.name.Var.{Var}
use Rattle.akl_terms.specs.declared.name.Place.{Place}
use Rattle.akl_terms.specs.declared.program.Program.{Program}
use Rattle.akl_terms.specs.Tree.{variable}
use Rattle.akl_terms.specs.Equal.{Equal, IsConsistent}
use Rattle.akl_model.specs.Config.{Operator, Atom, Boxes, Config, an_atom, a_choice, held_in, Found, environment, whole, box_at, home_of}
use Rattle.akl_model.specs.Conditions.{IsSolved}
use Rattle.akl_model.specs.Rules.{alternative_of}
use Rattle.akl_model.specs.Stable.{only, frames_of, AtomWaitsOn, TouchesFrom}
use Rattle.akl_model.specs.Wakes.{StandsIn, SomeBox, TellsOutside, Concerns}
use Rattle.constraint_laws.specs.Touched.{IsAmong}
use Rattle.plan_laws.specs.Sleeps.{Matters, Needs, of_box_around, of_atom, of_alternative, of_box, IsAliasAt, IsEnough}
use Rattle.plan_laws.specs.Waits.{HasOldestAt}
use Rattle.local_store.proofs.Among.{among-left, among-right, among-either}

-- by the equations of a box around it
pub record NeedsAround (c : Config) (place : Place) (x : Var) : Type 0 where
  pub name : Name
  pub box : Found
  pub stands : StandsIn name c.roots place
  pub is_box : box_at name c.roots ≡ Some box
  pub consistent : IsConsistent (whole box)
  pub tells : TellsOutside box x

-- as an atom
pub record NeedsAwaited (p : Program) (c : Config) (g : Name) (x : Var) : Type 0 where
  pub home : Found
  pub atom : Atom
  pub on : Var
  pub is_home : home_of g c.roots ≡ Some home
  pub is_atom : held_in g home.goals ≡ Some (an_atom atom)
  pub consistent : IsConsistent (whole home)
  pub waits : AtomWaitsOn p (whole home) atom on
  pub equal : Equal (whole home) (variable x) (variable on)

-- by a solved alternative of a choice, where it matters whether it is quiet
pub record NeedsAlternative (c : Config) (g : Name) (x : Var) : Type 0 where
  pub home : Found
  pub op : Operator
  pub boxes : Boxes
  pub name : Name
  pub box : Found
  pub matters : Matters op boxes
  pub is_home : home_of g c.roots ≡ Some home
  pub is_choice : held_in g home.goals ≡ Some (a_choice op boxes)
  pub is_box : alternative_of home name boxes ≡ Some box
  pub solved : IsSolved box.goals
  pub consistent : IsConsistent (whole box)
  pub tells : TellsOutside box x

-- as a box, by itself and by what stands inside it
pub record NeedsInside (p : Program) (c : Config) (n : Name) (x : Var) : Type 0 where
  pub box : Found
  pub is_box : box_at n c.roots ≡ Some box
  pub touches : SomeBox (λ (d : Found). IsConsistent (whole d) × TouchesFrom p (frames_of (only box)) (environment box) d x) box.around (only box)

abbrev pub NeedsOwn : Program → Config → Place → Var → Type 0
NeedsOwn p c (Place.Goal g) x = NeedsAwaited p c g x ⊎ NeedsAlternative c g x
NeedsOwn p c (Place.Box n) x = NeedsInside p c n x

needs_by : (p : Program) (c : Config) (place : Place) (x : Var) → Needs p c place x → NeedsAround c place x ⊎ NeedsOwn p c place x
needs_by p c place x (of_box_around n h e still t) = inl (record { name = n; box = _; stands = h; is_box = e; consistent = still; tells = t })
needs_by p c place x (of_atom e h still k q) = inr (inl (record { home = _; atom = _; on = _; is_home = e; is_atom = h; consistent = still; waits = k; equal = q }))
needs_by p c place x (of_alternative n matters e h a solved still t) =
    inr (inr (record { home = _; op = _; boxes = _; name = n; box = _; matters = matters; is_home = e; is_choice = h; is_box = a; solved = solved; consistent = still; tells = t }))
needs_by p c place x (of_box e s) = inr (record { box = _; is_box = e; touches = s })

-- each of a list concerns a place, it is enough for what is needed in one way, and it has the oldest of each class
pub record Suffices (p : Program) (c : Config) (place : Place) (Needed : Var → Type 0) (list : List Var) : Type 0 where
  pub concern : (y : Var) → IsAmong y list → Concerns p c y place
  pub enough : (x : Var) → Needed x → (y : Var) × IsAmong y list × IsAliasAt c place y x
  pub oldest : HasOldestAt c place list

-- so two lists suffice for all
module _ (p : Program) (c : Config) (place : Place) (around own : List Var) (a : Suffices p c place (NeedsAround c place) around) (o : Suffices p c place (NeedsOwn p c place) own) where
  pub both_concern : (y : Var) → IsAmong y (around ++ own) → Concerns p c y place
  both_concern y m = elim (among-either around own y m) [ inl k ↦ a.concern y k | inr k ↦ o.concern y k ]

  pub both_enough : IsEnough p c (around ++ own) place
  both_enough = record {
    each = λ x n. elim (needs_by p c place x n) [
      | inl k ↦ let w : (y : Var) × IsAmong y around × IsAliasAt c place y x = a.enough x k in (w.0, among-left around own w.0 w.1, w.2)
      | inr k ↦ let w : (y : Var) × IsAmong y own × IsAliasAt c place y x = o.enough x k in (w.0, among-right around own w.0 w.1, w.2)
    ];
  }

  pub both_oldest : HasOldestAt c place (around ++ own)
  both_oldest = record {
    each = λ f h x w m k. elim (among-either around own x m) [
      | inl y ↦ among-left around own w (a.oldest.each f h x w y k)
      | inr y ↦ among-right around own w (o.oldest.each f h x w y k)
    ];
  }
