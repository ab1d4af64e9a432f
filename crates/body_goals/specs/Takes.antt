-- The store of a box takes an equation, within the stores around it.
use Rattle.std.specs.Prelude.{◌≡◌, List, [], ◌∷◌, ◌++◌, Bool, true, false, None}
use Rattle.std.specs.List.{AllByRecursion}
use Rattle.akl_terms.specs.declared.name.Var.{Var}
use Rattle.akl_terms.specs.declared.term.Node.{Node}
use Rattle.akl_terms.specs.declared.term.Term.{Term}
use Rattle.akl_terms.specs.declared.term.Equation as code
use Rattle.akl_terms.specs.Equal.{IsConsistentBy}
use Rattle.akl_terms.specs.Standing.{StandFor}
use Rattle.rational_unify.specs.Known.{found_in}
use Rattle.rational_unify.specs.Solving.{equations_in}
use Rattle.local_store.specs.declared.part.Part.{Part}
use Rattle.local_store.specs.Parts.{ToldStore, with_part}
use Rattle.local_store.specs.Stored.{Stored}
use Rattle.local_store.specs.Chained.{bindings_from, equations_of, innermost, around, ToldBy, IsSolvedChain}
use Rattle.local_store.specs.Bound.{AreNewlyBound}
use Rattle.local_store.specs.Telling.{ToldAlso}

-- the stores around a store, and then this
abbrev pub within : List Stored → Stored → List Stored
within around s = around ++ s ∷ []

-- a part is added to the innermost one of stores
abbrev pub with_added : List Stored → Part → List Stored
with_added ss p = within (around ss) (with_part (innermost ss) p)

-- known bindings bind none of these variables
abbrev pub AreUnbound : List (Var × Term) → List Var → Type 0
AreUnbound known xs = AllByRecursion (λ x. found_in known x ≡ None) xs

-- a store becomes another one, which has an equation that is consistent with it and with those around it. They are solved again, and these variables are bound or made equal, none of which was bound. What isn't bound then wasn't before
pub record Takes (nodes : List Node) (around : List Stored) (s : Stored) (e : code.Equation) (t : Stored) (bound : List Var) : Type 0 where
  pub consistent : IsConsistentBy (ToldAlso nodes (within around s) (e ∷ []))
  pub frames : t.frames ≡ s.frames
  pub ports : t.ports ≡ s.ports
  pub stands : StandFor (ToldAlso nodes (within around s) (e ∷ [])) (ToldBy nodes (within around t))
  pub solved : IsSolvedChain nodes (within around t)
  pub newly_bound : AreNewlyBound (equations_of nodes (within around s)) (equations_of nodes (within around s)) (equations_of nodes (within around s) ++ equations_in nodes (e ∷ [])) bound
  pub unbound : AreUnbound (bindings_from (within around s)) bound
  pub kept : (x : Var) → found_in (bindings_from (within around t)) x ≡ None → found_in (bindings_from (within around s)) x ≡ None

-- the variables come to those that are listed
pub record TakesIn (nodes : List Node) (around : List Stored) (e : code.Equation) (old new : ToldStore) : Type 0 where
  pub bound : List Var
  pub takes : Takes nodes around old.store e new.store bound
  pub all_bound : new.bound ≡ old.bound ++ bound
  pub solved : new.solved ≡ old.solved

-- it is told, or nothing changes
abbrev pub IsTaken : List Node → List Stored → code.Equation → ToldStore → ToldStore → Bool → Type 0
IsTaken nodes around e old new true = TakesIn nodes around e old new
IsTaken nodes around e old new false = new ≡ old
