-- Equations told to a chain.
use Rattle.std.specs.Prelude.{◌≡◌, ℕ, Bool, true, false, List, [], ◌++◌, length, drop, ◌⊎◌, ◌↔◌, IsTrue}
use Rattle.akl_terms.specs.declared.name.Var.{Var}
use Rattle.akl_terms.specs.declared.term.Node.{Node}
use Rattle.akl_terms.specs.declared.term.Term.{Term}
use Rattle.akl_terms.specs.declared.term.Equation as code
use Rattle.akl_terms.specs.Tree.{Tree}
use Rattle.akl_terms.specs.Equal.{IsTold, IsConsistentBy}
use Rattle.akl_terms.specs.Standing.{StandFor}
use Rattle.rational_unify.specs.Solving.{equations_in, IsSolution, IsClashOf}
use Rattle.rational_unify.specs.Older.{LeadOlder, KeepsOlder, EachOlder}
use Rattle.rational_unify.specs.Forms.{Takes, IsClashOfBindings}
use Rattle.local_store.specs.declared.telling.ToldPart.{ToldPart}
use Rattle.local_store.specs.Parts.{ToldStore}
use Rattle.local_store.specs.Stored.{Stored, with_binding, with_bindings}
use Rattle.local_store.specs.Chained.{bindings_from, ToldBy, equations_of, IsSolvedChain, innermost, replaced}
use Rattle.local_store.specs.Bound.{AreNewlyBound, bound_by}

-- what stores stand for, and further equations
abbrev pub ToldAlso : List Node → List Stored → List code.Equation → Tree → Tree → Type 0
ToldAlso nodes ss es s t = ToldBy nodes ss s t ⊎ IsTold (equations_in nodes es) s t

-- a store in which the equations are told: the frames and ports stay, and with it in the innermost place the chain stands for what it stood for and the equations.
-- Where the whole chain was known to be solved and is consistent with the equations, it stays solved
pub record Tells (nodes : List Node) (ss : List Stored) (known : ℕ) (es : List code.Equation) (new : Stored) : Type 0 where
  pub frames : new.frames ≡ (innermost ss).frames
  pub ports : new.ports ≡ (innermost ss).ports
  pub stands : StandFor (ToldAlso nodes ss es) (ToldBy nodes (replaced ss new))
  pub solved : length ss ≡ known → IsConsistentBy (ToldAlso nodes ss es) → IsSolvedChain nodes (replaced ss new)

-- such a store, and whether the chain is known to be solved with it: the whole chain was, and is consistent with the equations; and what they bind
pub record AnswersTold (nodes : List Node) (ss : List Stored) (known : ℕ) (es : List code.Equation) (answer : ToldStore) : Type 0 where
  pub tells : Tells nodes ss known es answer.store
  pub is_solved : IsTrue answer.solved ↔ ((length ss ≡ known) × IsConsistentBy (ToldAlso nodes ss es))
  pub bound : AreNewlyBound (equations_of nodes ss) (equations_of nodes ss) (equations_of nodes ss ++ equations_in nodes es) answer.bound
  -- where all is consistent, and each binding of the innermost store and of those that aren't known to be solved leads to an older variable, so does each of the new store; and none of the innermost one is left out
  pub older : IsConsistentBy (ToldAlso nodes ss es) → EachOlder nodes (bindings_from (drop known ss)) → EachOlder nodes (innermost ss).bindings → EachOlder nodes answer.store.bindings
  pub kept : IsConsistentBy (ToldAlso nodes ss es) → EachOlder nodes answer.store.bindings → EachOlder nodes (innermost ss).bindings

-- nothing was told
abbrev pub IsUntold : ToldPart → Type 0
IsUntold t = (t.solved ≡ false) × (t.bound.items ≡ [])

-- a variable that is bound to two terms
abbrev pub somewhere : Var
somewhere = record { frame = record { worker = 0; number = 0 }; index = 0 }

abbrev pub clashed : Stored → Term → Term → Stored
clashed s l r = with_binding (with_binding s somewhere l) somewhere r

-- what is found for equations over a solved form, put into a store, whether they are consistent with it, and what they bind
pub data Adds (nodes : List Node) (bs : List (Var × Term)) (es : List code.Equation) (old new : Stored) (consistent : Bool) (bound : List Var) : Type 0 where
  added : (more : List (Var × Term)) → IsSolution nodes bs es more → KeepsOlder nodes bs (bs ++ more) → new ≡ with_bindings old more → consistent ≡ true → bound ≡ bound_by nodes (bs ++ more) more
      → Adds nodes bs es old new consistent bound
  clash : (left right : Term) → IsClashOf nodes bs es left right → new ≡ clashed old left right → consistent ≡ false → bound ≡ [] → Adds nodes bs es old new consistent bound

-- the same where stores are first taken in over a solved form
pub data AddsOver (nodes : List Node) (known : List (Var × Term)) (ss : List Stored) (es : List code.Equation) (old new : Stored) (bound : List Var) : Type 0 where
  taken : (more : List (Var × Term)) → Takes nodes known [] more (bindings_from ss) → (LeadOlder nodes known → EachOlder nodes (bindings_from ss) → LeadOlder nodes (known ++ more)) → (consistent : Bool) → Adds nodes (known ++ more) es old new consistent bound → AddsOver nodes known ss es old new bound
  clashing : (left right : Term) → IsClashOfBindings nodes (known ++ []) (bindings_from ss) left right → new ≡ clashed old left right → bound ≡ [] → AddsOver nodes known ss es old new bound
