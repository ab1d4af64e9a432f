-- Solved forms, and trees that are the same under one.
use Rattle.std.specs.Prelude.{◌≡◌, ℕ, zero, suc, Option, Some, None, slice_get, ◌⊎◌, ◌≤◌}
use Rattle.akl_terms.specs.declared.name.Var.{Var}
use Rattle.akl_terms.specs.Tree.{Tree, variable, Head, head_of, arguments}
use Rattle.akl_terms.specs.Equal.{EqualBy}

-- what a variable is bound to
abbrev pub Bindings : Type 0
Bindings = Var → Option Tree

-- the equations of bindings
pub data IsBound (look : Bindings) : Tree → Tree → Type 0 where
  bound : {x : Var} {t : Tree} → look x ≡ Some t → IsBound look (variable x) t

abbrev pub follow : (Tree → Tree) → Tree → Option Tree → Tree
follow go t None = t
follow go t (Some u) = go u

-- from a variable on along the bindings, at most so many steps
abbrev pub walk : ℕ → Bindings → Tree → Tree
walk zero look t = t
walk (suc n) look (variable x) = follow (walk n look) (variable x) (look x)
walk (suc n) look t = t

abbrev pub steps_on : (Tree → ℕ) → Option Tree → ℕ
steps_on go None = 0
steps_on go (Some u) = suc (go u)

-- how many of at most n bindings the chain takes
abbrev pub steps : ℕ → Bindings → Tree → ℕ
steps zero look t = 0
steps (suc n) look (variable x) = steps_on (steps n look) (look x)
steps (suc n) look t = 0

-- each chain ends after at most n bindings
abbrev pub EndsWithin : ℕ → Bindings → Type 0
EndsWithin n look = (t : Tree) → steps (suc n) look t ≤ n

-- one step down of two terms that have been walked: they are one, or agree in head and go on
abbrev pub Agree : (Tree → Tree → Type 0) → Tree → Tree → Type 0
Agree P u v = (u ≡ v) ⊎ ((h : Head) × (head_of u ≡ Some h) × (head_of v ≡ Some h)
    × ((k : ℕ) (a b : Tree) → slice_get (arguments u) k ≡ Some a → slice_get (arguments v) k ≡ Some b → P a b))

-- the same tree down to a depth, where go leads from a term to the end of its chain
abbrev pub SameTo : (Tree → Tree) → ℕ → Tree → Tree → Type 0
SameTo go zero s t = Unit {0}
SameTo go (suc n) s t = Agree (SameTo go n) (go s) (go t)

-- where chains lead
pub record Leads (look : Bindings) (go : Tree → Tree) : Type 0 where
  pub bound : {x : Var} {t : Tree} → look x ≡ Some t → go (variable x) ≡ go t
  pub other : {t : Tree} {h : Head} → head_of t ≡ Some h → go t ≡ t

-- no term that isn't a variable is equal to it
abbrev pub IsUnstructured : (Tree → Tree → Type 0) → Tree → Type 0
IsUnstructured R s = (u : Tree) (h : Head) → EqualBy R s u → head_of u ≡ Some h → ⊥

-- the same tree under equations, down to a depth: both are one class that isn't structured, or both are equal to terms of one head, with arguments that are the same further down
abbrev pub SameIn : (Tree → Tree → Type 0) → ℕ → Tree → Tree → Type 0
SameIn R zero s t = Unit {0}
SameIn R (suc n) s t = (EqualBy R s t × IsUnstructured R s)
    ⊎ ((u v : Tree) × (h : Head) × EqualBy R s u × EqualBy R t v × (head_of u ≡ Some h) × (head_of v ≡ Some h)
    × ((k : ℕ) (a b : Tree) → slice_get (arguments u) k ≡ Some a → slice_get (arguments v) k ≡ Some b → SameIn R n a b))

abbrev pub SameTree : (Tree → Tree → Type 0) → Tree → Tree → Type 0
SameTree R s t = (n : ℕ) → SameIn R n s t
