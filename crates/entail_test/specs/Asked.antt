-- What is asked of a chain at a depth: what the stores from there on tell the variables from outside of them.
use Rattle.std.specs.Prelude.{◌≡◌, ℕ, List, [], ◌∷◌, ◌++◌, take, drop, Bool, map, filter}
use Rattle.std.specs.List.{AllByRecursion, list_any}
use Rattle.akl_terms.specs.declared.name.Name.{Name}
use Rattle.akl_terms.specs.declared.name.Var.{Var}
use Rattle.akl_terms.specs.declared.term.Node.{Node}
use Rattle.akl_terms.specs.declared.term.Term.{Term}
use Rattle.akl_terms.specs.Tree.{variable}
use Rattle.akl_terms.specs.Equal.{Equations, Equal, IsConsistent, IsStructured, IsQuiet}
use Rattle.akl_terms.specs.Decided.{DifferInHead}
use Rattle.akl_terms.specs.Template.{tree}
use Rattle.akl_terms.specs.Touching.{IsLocal, IsOutside}
use Rattle.rational_unify.specs.Known.{end_of}
use Rattle.rational_unify.specs.Solving.{bindings_in}
use Rattle.rational_unify.specs.Forms.{Takes, IsClashOfBindings}
use Rattle.entail_test.specs.declared.reading.Class.{Class}
use Rattle.entail_test.specs.Classes.{AreClasses, is_noisy}
use Rattle.local_store.specs.Stored.{Stored, is_named}
use Rattle.local_store.specs.Chained.{bindings_from}
use Rattle.entail_test.specs.Touched.{AreTouched}
use Rattle.constraint_laws.specs.Touched.{IsAmong}
use Rattle.entail_test.specs.declared.noise.Quietness.{Quietness}
use Rattle.entail_test.specs.declared.noise.Quietness.TheVariants.{Quiet, Noisy, Inconsistent}
use Rattle.entail_test.specs.declared.outside.Outside.{Outside}
use Rattle.entail_test.specs.declared.outside.Outside.TheVariants.{Touched, Clash}

abbrev pub frames_from : List Stored → List Name
frames_from [] = []
frames_from (s ∷ ss) = s.frames ++ frames_from ss

-- whether one of these stores has a frame
abbrev pub named_in : List Stored → Name → Bool
named_in ss n = list_any (λ s. is_named s.frames n) ss

-- the equations of the stores before a depth, and those from there on
abbrev pub environment_at : List Node → List Stored → ℕ → Equations
environment_at nodes ss depth = bindings_in nodes (bindings_from (take depth ss))

abbrev pub own_at : List Node → List Stored → ℕ → Equations
own_at nodes ss depth = bindings_in nodes (bindings_from (drop depth ss))

-- in the environment no inner variable is equal to one from outside that the environment leaves unstructured.
-- It is so where no inner variable stands in the environment
pub record KeepsApart (inner : List Name) (environment : Equations) : Type 0 where
  pub each : (x y : Var) → IsOutside inner x → IsLocal inner y → Equal environment (variable x) (variable y) → IsStructured environment x

abbrev pub whole_at : List Node → List Stored → ℕ → Equations
whole_at nodes ss depth = environment_at nodes ss depth ++ own_at nodes ss depth

abbrev pub KeepsApartAt : List Node → List Stored → ℕ → Type 0
KeepsApartAt nodes ss depth = KeepsApart (frames_from (drop depth ss)) (environment_at nodes ss depth)

abbrev pub IsQuietAt : List Node → List Stored → ℕ → Type 0
IsQuietAt nodes ss depth = IsQuiet (environment_at nodes ss depth) (IsLocal (frames_from (drop depth ss))) (own_at nodes ss depth)

-- one variable of each class that the stores from the depth on touch, and nothing else
abbrev pub AreTouchedAt : List Node → List Stored → ℕ → List Var → Type 0
AreTouchedAt nodes ss depth on = AreTouched (frames_from (drop depth ss)) (environment_at nodes ss depth) (whole_at nodes ss depth) on

-- two terms of different heads that all together make equal
abbrev pub IsClashAt : List Node → List Stored → ℕ → Term → Term → Type 0
IsClashAt nodes ss depth left right = Equal (whole_at nodes ss depth) (tree nodes left) (tree nodes right) × DifferInHead (tree nodes left) (tree nodes right)

-- the answer for the innermost box
abbrev pub Answers : List Node → List Stored → ℕ → Quietness → Type 0
Answers nodes ss depth Quiet = IsQuietAt nodes ss depth
Answers nodes ss depth (Noisy on) = IsConsistent (whole_at nodes ss depth) × (IsQuietAt nodes ss depth → ⊥) × AreTouchedAt nodes ss depth on.items
Answers nodes ss depth (Inconsistent left right) = IsClashAt nodes ss depth left right

-- whether all together is consistent, as the answer says it
abbrev pub DecidesWhole : List Node → List Stored → ℕ → Quietness → Type 0
DecidesWhole nodes ss depth Quiet = IsConsistent (whole_at nodes ss depth)
DecidesWhole nodes ss depth (Noisy on) = IsConsistent (whole_at nodes ss depth)
DecidesWhole nodes ss depth (Inconsistent left right) = IsClashAt nodes ss depth left right

-- and as what is read says it
abbrev pub DecidesRead : List Node → List Stored → ℕ → Outside → Type 0
DecidesRead nodes ss depth (Touched on) = IsConsistent (whole_at nodes ss depth)
DecidesRead nodes ss depth (Clash left right) = IsClashAt nodes ss depth left right

-- what is read, before it is an answer: nothing is touched exactly where all is quiet
abbrev pub Reads : List Node → List Stored → ℕ → Outside → Type 0
Reads nodes ss depth (Touched on) = IsConsistent (whole_at nodes ss depth) × AreTouchedAt nodes ss depth on.items × (on.items ≡ [] → IsQuietAt nodes ss depth)
Reads nodes ss depth (Clash left right) = IsClashAt nodes ss depth left right

-- candidates: of the added bindings each variable from outside, and the one in which its chain ends, if it is from outside
pub record AreCandidates (nodes : List Node) (whole : List (Var × Term)) (inner : List Name) (added : List (Var × Term)) (candidates : List Var) : Type 0 where
  pub outside : (x : Var) → IsAmong x candidates → IsOutside inner x
  pub each : AllByRecursion (λ (b : Var × Term). IsOutside inner b.0 → IsAmong b.0 candidates
      × ((y : Var) → IsOutside inner y → end_of nodes whole (variable b.0) ≡ variable y → IsAmong y candidates)) added

-- what added bindings show: the candidates, their classes, and a member of each that is noisy
pub record Shows (nodes : List Node) (known whole : List (Var × Term)) (inner : List Name) (added : List (Var × Term)) (on : List Var) : Type 0 where
  pub candidates : List Var
  pub shown : AreCandidates nodes whole inner added candidates
  pub classes : List Class
  pub classified : AreClasses nodes known whole candidates classes
  pub noisy : on ≡ map (λ c. c.member) (filter (λ c. is_noisy classes c) classes)

-- what inner stores tell over a solved form of the others
pub record ReadsOver (nodes : List Node) (known : List (Var × Term)) (inner : List Stored) (on : List Var) : Type 0 where
  pub added : List (Var × Term)
  pub takes : Takes nodes known [] added (bindings_from inner)
  pub shows : Shows nodes known (known ++ added) (frames_from inner) added on

abbrev pub AnswersOver : List Node → List (Var × Term) → List Stored → Outside → Type 0
AnswersOver nodes known inner (Touched on) = ReadsOver nodes known inner on.items
AnswersOver nodes known inner (Clash left right) = IsClashOfBindings nodes (known ++ []) (bindings_from inner) left right
