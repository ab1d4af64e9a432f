-- Equality under equations: rational trees with infinitely many functors.
use Rattle.std.specs.Prelude.{◌≡◌, ℕ, List, [], ◌∷◌, ◌++◌, Some, slice_get, ◌⊎◌}
use Rattle.akl_terms.specs.declared.name.Var.{Var}
use Rattle.akl_terms.specs.Tree.{Tree, variable, Head, head_of, arguments}

-- an equation between two terms
pub record Equation : Type 0 where
  pub left : Tree
  pub right : Tree

abbrev pub Equations : Type 0
Equations = List Equation

-- the equation of these two terms is one of the list
abbrev pub IsTold : Equations → Tree → Tree → Type 0
IsTold [] s t = ⊥
IsTold (e ∷ es) s t = ((s ≡ e.left) × (t ≡ e.right)) ⊎ IsTold es s t

-- two terms are equal by a finite derivation from five rules, where R says which equations are told:
-- a told equation; reflexivity; symmetry; transitivity; and from two equal terms with one head their arguments at one position
pub data EqualBy (R : Tree → Tree → Type 0) : Tree → Tree → Type 0 where
  told : {s t : Tree} → R s t → EqualBy R s t
  same : {t : Tree} → EqualBy R t t
  turned : {s t : Tree} → EqualBy R s t → EqualBy R t s
  joined : {s t u : Tree} → EqualBy R s t → EqualBy R t u → EqualBy R s u
  inside : {s t a b : Tree} {h : Head} (at : ℕ) → EqualBy R s t → head_of s ≡ Some h → head_of t ≡ Some h
      → slice_get (arguments s) at ≡ Some a → slice_get (arguments t) at ≡ Some b → EqualBy R a b

-- equal under a list of equations
abbrev pub Equal : Equations → Tree → Tree → Type 0
Equal E = EqualBy (IsTold E)

-- no two equal terms that aren't variables differ in head
pub record IsConsistentBy (R : Tree → Tree → Type 0) : Type 0 where
  pub heads : {s t : Tree} {g h : Head} → EqualBy R s t → head_of s ≡ Some g → head_of t ≡ Some h → g ≡ h

abbrev pub IsConsistent : Equations → Type 0
IsConsistent E = IsConsistentBy (IsTold E)

-- a variable is structured where it is equal to a term that isn't a variable
abbrev pub IsStructured : Equations → Var → Type 0
IsStructured E x = (t : Tree) × (h : Head) × Equal E (variable x) t × (head_of t ≡ Some h)

-- own equations with local variables are quiet in an environment: together they are consistent, and no variable from outside
-- becomes structured or equal to another. For a consistent environment this is entailment of "some local variables meet the own equations"
pub record IsQuiet (environment : Equations) (Local : Var → Type 0) (own : Equations) : Type 0 where
  pub consistent : IsConsistent (environment ++ own)
  pub structured : (x : Var) → (Local x → ⊥) → IsStructured (environment ++ own) x → IsStructured environment x
  pub equal : (x y : Var) → (Local x → ⊥) → (Local y → ⊥)
      → (IsStructured environment x → ⊥) → (IsStructured environment y → ⊥)
      → Equal (environment ++ own) (variable x) (variable y) → Equal environment (variable x) (variable y)

-- each equation of the first list follows from the second
pub record Follows (E F : Equations) : Type 0 where
  pub each : {s t : Tree} → IsTold E s t → Equal F s t

-- equality grows with the equations
abbrev pub GrowsLaw : Type 0
GrowsLaw = (E F : Equations) → Follows E F → (s t : Tree) → Equal E s t → Equal F s t

-- an equation that can be derived adds nothing
abbrev pub DerivedLaw : Type 0
DerivedLaw = (E : Equations) (a b : Tree) → Equal E a b → (s t : Tree) → Equal (record { left = a; right = b } ∷ E) s t → Equal E s t

-- fewer equations are as consistent
abbrev pub FewerLaw : Type 0
FewerLaw = (E F : Equations) → Follows E F → IsConsistent F → IsConsistent E
