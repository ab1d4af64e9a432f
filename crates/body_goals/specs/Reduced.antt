-- Goals of a body that are reduced in order.
use Rattle.std.specs.Prelude.{◌≡◌, ℕ, ◌+◌, List, [], ◌∷◌, ◌++◌, length, true, None}
use Rattle.akl_terms.specs.declared.name.Name.{Name}
use Rattle.akl_terms.specs.declared.name.Place.{Place}
use Rattle.akl_terms.specs.declared.name.Var.{Var}
use Rattle.akl_terms.specs.declared.program.Code.{Code}
use Rattle.akl_terms.specs.declared.program.Goal.{Goal}
use Rattle.akl_terms.specs.declared.term.Node.{Node}
use Rattle.akl_terms.specs.declared.term.Equation as code
use Rattle.akl_model.specs.declared.label.Rule.{Rule}
use Rattle.akl_model.specs.declared.label.Label.{Label}
use Rattle.local_store.specs.Parts.{ToldStore}
use Rattle.local_store.specs.Stored.{Stored}
use Rattle.local_store.specs.Chained.{bindings_from, IsSolvedChain}
use Rattle.body_goals.specs.declared.body.Body.{Body}
use Rattle.body_goals.specs.Takes.{within, AreUnbound, Takes}
use Rattle.body_goals.specs.Goals.{Tells, Holds, TellsInto}

abbrev pub label_of : Rule → Name → Label
label_of r g = record { rule = r; place = Place.Goal g; alternative = None; worker = g.worker }

-- a goal under a frame, and its name
abbrev pub goal_of : Name → Code → Goal
goal_of frame c = record { code = c; frame = frame }

abbrev pub name_of : Name → ℕ → Name
name_of frame n = record { worker = frame.worker; number = n }

-- goals under a frame, named from a number on, are reduced in order by labels, each by what a store and those around it tell then, or are left. So come the store in the end, the variables that are bound or
-- made equal, and how many labels there are up to the last that tells an equation, where so many came before, and so many up to the last of these that tells one
pub data Reduces (symbols : List (List ℕ)) (nodes : List Node) (around : List Stored) (frame : Name) : ℕ → ℕ → Stored → ℕ → List Code → List Label → Stored → List (Name × Goal) → List Var → ℕ → Type 0 where
  finishes : (before so_far : ℕ) (s : Stored) (n : ℕ) → Reduces symbols nodes around frame before so_far s n [] [] s [] [] so_far
  leaves : (before so_far : ℕ) (s : Stored) (n : ℕ) (c : Code) (cs : List Code) (ls : List Label) (t : Stored) (left : List (Name × Goal)) (bound : List Var) (told : ℕ)
      → Reduces symbols nodes around frame before so_far s (n + 1) cs ls t left bound told
      → Reduces symbols nodes around frame before so_far s n (c ∷ cs) ls t ((name_of frame n, goal_of frame c) ∷ left) bound told
  tells : (before so_far : ℕ) (s : Stored) (n : ℕ) (c : Code) (cs : List Code) (ls : List Label) (t : Stored) (left : List (Name × Goal)) (bound : List Var) (told : ℕ)
      (r : Rule) (e : code.Equation) (middle : Stored) (first : List Var) → Tells symbols nodes (within around s) (goal_of frame c) r e → Takes nodes around s e middle first
      → Reduces symbols nodes around frame (before + 1) (before + 1) middle (n + 1) cs ls t left bound told
      → Reduces symbols nodes around frame before so_far s n (c ∷ cs) (label_of r (name_of frame n) ∷ ls) t left (first ++ bound) told
  holds : (before so_far : ℕ) (s : Stored) (n : ℕ) (c : Code) (cs : List Code) (ls : List Label) (t : Stored) (left : List (Name × Goal)) (bound : List Var) (told : ℕ)
      → Holds symbols nodes (within around s) (goal_of frame c)
      → Reduces symbols nodes around frame (before + 1) so_far s (n + 1) cs ls t left bound told
      → Reduces symbols nodes around frame before so_far s n (c ∷ cs) (label_of Rule.Eval (name_of frame n) ∷ ls) t left bound told

-- the labels come to others, and so do the variables, none of which was bound. What was known to be solved is solved again
pub record IsReduced (symbols : List (List ℕ)) (nodes : List Node) (around : List Stored) (frame : Name) (n : ℕ) (codes : List Code) (old new : ToldStore) (before after : List Label) (body : Body) : Type 0 where
  pub labels : List Label
  pub bound : List Var
  pub reduces : Reduces symbols nodes around frame 0 0 old.store n codes labels new.store body.goals.items bound body.told
  pub all_labels : after ≡ before ++ labels
  pub all_bound : new.bound ≡ old.bound ++ bound
  pub behind : body.behind ≡ length labels
  pub free : AreUnbound (bindings_from (within around old.store)) bound
  pub solved : new.solved ≡ old.solved
  pub whole : new.solved ≡ true → IsSolvedChain nodes (within around new.store)

-- one goal is reduced by a label, or left
pub data GoesOn (symbols : List (List ℕ)) (nodes : List Node) (around : List Stored) (name : Name) (g : Goal) (old new : ToldStore) (before after : List Label) (body next : Body) : Type 0 where
  left : new ≡ old → after ≡ before → next.goals.items ≡ body.goals.items ++ (name, g) ∷ [] → next.told ≡ body.told → next.behind ≡ body.behind
      → GoesOn symbols nodes around name g old new before after body next
  told : (r : Rule) → TellsInto symbols nodes around g r old new → after ≡ before ++ label_of r name ∷ [] → next.goals.items ≡ body.goals.items → next.told ≡ body.behind + 1 → next.behind ≡ body.behind + 1
      → GoesOn symbols nodes around name g old new before after body next
  held : Holds symbols nodes (within around old.store) g → new ≡ old → after ≡ before ++ label_of Rule.Eval name ∷ [] → next.goals.items ≡ body.goals.items → next.told ≡ body.told → next.behind ≡ body.behind + 1
      → GoesOn symbols nodes around name g old new before after body next
