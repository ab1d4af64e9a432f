-- The innermost store of a chain joins the one around it.
use Rattle.std.specs.Prelude.{◌≡◌, ℕ, ◌+◌, ◌≤◌, List, [], ◌∷◌, ◌++◌, length, Bool, false, ◌↔◌, IsTrue}
use Rattle.akl_terms.specs.declared.name.Name.{Name}
use Rattle.akl_terms.specs.declared.name.Var.{Var}
use Rattle.akl_terms.specs.declared.term.Node.{Node}
use Rattle.akl_terms.specs.declared.term.Term.{Term}
use Rattle.akl_terms.specs.Equal.{IsConsistentBy}
use Rattle.akl_terms.specs.Standing.{StandFor}
use Rattle.rational_unify.specs.Solving.{bindings_in}
use Rattle.rational_unify.specs.Older.{LeadOlder, EachOlder}
use Rattle.rational_unify.specs.Forms.{Takes, IsClashOfBindings}
use Rattle.local_store.specs.Parts.{ToldStore, all_ports}
use Rattle.local_store.specs.Stored.{Stored, all_named, with_frame, with_bindings}
use Rattle.local_store.specs.Chained.{bindings_from, ToldBy, equations_of, IsSolvedChain, innermost, around, replaced}
use Rattle.local_store.specs.Bound.{AreNewlyBound, bound_by}

-- with all of these frames, of which the last is put in first
abbrev pub with_frames : Stored → List Name → Stored
with_frames s [] = s
with_frames s (n ∷ ns) = with_frame (with_frames s ns) n

-- with the frames and ports of another store, one after another
abbrev pub named_too : Stored → Stored → Stored
named_too s other = record { frames = all_named s.frames other.frames; bindings = s.bindings; ports = all_ports s.ports other.ports }

-- a store that has all that the innermost one and the one around it have: in the place of both of them the chain stands for what it stood for.
-- Where all stores but the innermost were known to be solved together, the whole chain is consistent, and each binding of the innermost store leads to an older variable, it is solved
pub record Promotes (nodes : List Node) (ss : List Stored) (known : ℕ) (new : Stored) : Type 0 where
  pub frames : new.frames ≡ (named_too (innermost (around ss)) (innermost ss)).frames
  pub ports : new.ports ≡ (named_too (innermost (around ss)) (innermost ss)).ports
  pub stands : StandFor (ToldBy nodes ss) (ToldBy nodes (replaced (around ss) new))
  pub solved : length ss ≤ known + 1 → IsConsistentBy (ToldBy nodes ss) → EachOlder nodes (innermost ss).bindings → IsSolvedChain nodes (replaced (around ss) new)

-- such a store, whether the chain is known to be solved with it, and what the innermost store binds over those around it
pub record AnswersPromoted (nodes : List Node) (ss : List Stored) (known : ℕ) (answer : ToldStore) : Type 0 where
  pub promotes : Promotes nodes ss known answer.store
  pub is_solved : IsTrue answer.solved ↔ ((length ss ≤ known + 1) × IsConsistentBy (ToldBy nodes ss) × EachOlder nodes (innermost ss).bindings)
  pub bound : AreNewlyBound (equations_of nodes (around ss)) (equations_of nodes (around ss)) (equations_of nodes ss) answer.bound

-- what is found for bindings over a solved form, put into a store, or the bindings themselves where they clash with it; whether it leads to older variables where the solved form does; and what they bind
pub data Joins (nodes : List Node) (known bs : List (Var × Term)) (old new : Stored) (older : Bool) (bound : List Var) : Type 0 where
  found : (more : List (Var × Term)) → Takes nodes known [] more bs → (LeadOlder nodes known → EachOlder nodes bs → LeadOlder nodes (known ++ more)) → new ≡ with_bindings old more
      → IsTrue older ↔ EachOlder nodes bs → bound ≡ bound_by nodes (known ++ more) more → Joins nodes known bs old new older bound
  clashing : (left right : Term) → IsClashOfBindings nodes (known ++ []) bs left right → new ≡ with_bindings old bs → older ≡ false → bound ≡ []
      → Joins nodes known bs old new older bound

-- the same over a chain, where that is known to be solved; else the store has the bindings as they stand
pub data JoinsChain (nodes : List Node) (ss : List Stored) (known : ℕ) (bs : List (Var × Term)) (old : Stored) (answer : ToldStore) : Type 0 where
  over_solved : known ≡ length ss → IsSolvedChain nodes ss → Joins nodes (bindings_from ss) bs old answer.store answer.solved answer.bound → JoinsChain nodes ss known bs old answer
  as_they_stand : (known ≡ length ss → ⊥) → answer.store ≡ with_bindings old bs → answer.solved ≡ false
      → AreNewlyBound (equations_of nodes ss) (equations_of nodes ss) (bindings_in nodes (bs ++ bindings_from ss)) answer.bound → JoinsChain nodes ss known bs old answer
