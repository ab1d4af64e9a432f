-- Classes of variables from outside, by where their chains end.
use Rattle.std.specs.Prelude.{◌≡◌, ◌≢◌, List, [], ◌∷◌, ◌⊎◌, Option, Some, None, Bool, true, false, if◌then◌else◌, is_some}
use Rattle.std.specs.Option.{unwrap_or}
use Rattle.std.specs.Map.{lookup}
use Rattle.std.specs.List.{list_any}
use Rattle.akl_terms.specs.declared.name.Name.{Name}
use Rattle.akl_terms.specs.declared.name.Var.{Var}
use Rattle.akl_terms.specs.declared.term.Node.{Node}
use Rattle.akl_terms.specs.declared.term.Term.{Term}
use Rattle.akl_terms.specs.Tree.{variable, Head, head_of}
use Rattle.akl_terms.specs.Touching.{IsOutside}
use Rattle.rational_unify.specs.Known.{end_of}
use Rattle.akl_terms.specs.Names.{same_var}
use Rattle.rational_unify.specs.Shortened.{IsEndOf}
use Rattle.entail_test.specs.declared.reading.Class.{Class}
use Rattle.constraint_laws.specs.Touched.{IsAmong}

abbrev pub IsClassIn : Class → List Class → Type 0
IsClassIn c [] = ⊥
IsClassIn c (d ∷ ds) = (c ≡ d) ⊎ IsClassIn c ds

-- a class with this root is there
abbrev pub has_root : List Class → Var → Bool
has_root cs r = list_any (λ c. same_var c.root r) cs

-- roots stand once
abbrev pub AreDistinct : List Class → Type 0
AreDistinct [] = Unit {0}
AreDistinct (c ∷ cs) = ((d : Class) → IsClassIn d cs → c.root ≢ d.root) × AreDistinct cs

-- each class has a candidate as its member, with the ends of its chain in the environment and in the whole; each candidate that ends in a variable has a class
pub record AreClasses (nodes : List Node) (known whole : List (Var × Term)) (candidates : List Var) (cs : List Class) : Type 0 where
  pub member : (c : Class) → IsClassIn c cs → IsAmong c.member candidates
  pub root : (c : Class) → IsClassIn c cs → end_of nodes known (variable c.member) ≡ variable c.root
  pub end : (c : Class) → IsClassIn c cs → IsEndOf nodes whole c.member c.end
  pub covers : (x r : Var) → IsAmong x candidates → end_of nodes known (variable x) ≡ variable r → (c : Class) × IsClassIn c cs × (c.root ≡ r)
  pub distinct : AreDistinct cs

abbrev pub same_end : Option Var → Var → Bool
same_end None e = false
same_end (Some x) e = same_var x e

-- whether more than one class ends in a variable; `None` where none does
abbrev pub ends_in : List Class → Var → Option Bool
ends_in [] e = None
ends_in (c ∷ cs) e = if same_end c.end e then Some (is_some (ends_in cs e)) else ends_in cs e

-- the whole makes a class with this end structured, or equal to another class
abbrev pub noisy_end : List Class → Option Var → Bool
noisy_end cs None = true
noisy_end cs (Some e) = unwrap_or (ends_in cs e) false

abbrev pub is_noisy : List Class → Class → Bool
is_noisy cs c = noisy_end cs c.end

-- a map says where classes end
pub record AreEnds (ends : List (Var × Bool)) (cs : List Class) : Type 0 where
  pub each : (e : Var) → lookup (same_var e) ends ≡ ends_in cs e

-- a map has the roots of classes
pub record AreRoots (roots : List (Var × Bool)) (cs : List Class) : Type 0 where
  pub each : (r : Var) → is_some (lookup (same_var r) roots) ≡ has_root cs r

-- what is noisy at the end of a chain
abbrev pub IsNoisyEnd : List Node → List (Var × Term) → List (Var × Term) → List Name → Var → Var → Type 0
IsNoisyEnd nodes known whole inner v r = ((h : Head) × (head_of (end_of nodes whole (variable v)) ≡ Some h))
    ⊎ ((w s : Var) × IsOutside inner w × (end_of nodes known (variable w) ≡ variable s) × (s ≢ r) × (end_of nodes whole (variable w) ≡ end_of nodes whole (variable v)))

-- candidates are from outside, and each class that may be noisy has one
pub record Suffices (nodes : List Node) (known whole : List (Var × Term)) (inner : List Name) (candidates : List Var) : Type 0 where
  pub outside : (x : Var) → IsAmong x candidates → IsOutside inner x
  pub enough : (v r : Var) → IsOutside inner v → end_of nodes known (variable v) ≡ variable r → IsNoisyEnd nodes known whole inner v r
      → (x : Var) × IsAmong x candidates × (end_of nodes known (variable x) ≡ variable r)
