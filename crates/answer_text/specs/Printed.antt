-- The text of a tree under equations, where every tree is written out.
use Rattle.std.specs.Prelude.{◌≡◌, ℕ, ℤ, suc, List, [], ◌∷◌, ◌++◌, slice_get, Some, codes, Bool, false, bytes_eq}
use Rattle.std.specs.Fmt.{decimal, signed_decimal}
use Rattle.akl_terms.specs.declared.name.Name.{Name}
use Rattle.akl_terms.specs.Tree.{Tree, Trees, integer, port, symbol, none, more, Head, head_of}
use Rattle.akl_terms.specs.Equal.{Equations, Equal}
use Rattle.answer_text.specs.SymbolText.{symbol_text, constant_text}

-- a term that is equal to no term but variables
pub record IsFree (E : Equations) (s : Tree) : Type 0 where
  pub free : (t : Tree) (h : Head) → Equal E s t → head_of t ≡ Some h → ⊥

-- the number of a tree among those seen, by order of first printing, where trees that R relates have one number; a new one comes last
pub data IsNumbered (R : Tree → Tree → Type 0) : List Tree → Tree → ℕ → List Tree → Type 0 where
  first : {s x : Tree} → R s x → IsNumbered R [] s 0 (x ∷ [])
  here : {s x : Tree} {seen : List Tree} → R s x → IsNumbered R (x ∷ seen) s 0 (x ∷ seen)
  later : {s x : Tree} {seen new : List Tree} {k : ℕ} → (R s x → ⊥) → IsNumbered R seen s k new → IsNumbered R (x ∷ seen) s (suc k) (x ∷ new)

-- `_` and a number from 1 on
abbrev pub class_text : ℕ → List ℕ
class_text k = 95 ∷ decimal (suc k)

-- the symbol `.` with two arguments
abbrev pub is_cell : List ℕ → Trees → Bool
is_cell name (more t (more u none)) = bytes_eq name (codes ".")
is_cell name ts = false

-- a list goes on, or ends as it should
abbrev pub GoesOn : List (List ℕ) → ℕ → Trees → Type 0
GoesOn symbols f none = slice_get symbols f ≡ Some (codes "[]")
GoesOn symbols f (more t (more u none)) = slice_get symbols f ≡ Some (codes ".")
GoesOn symbols f ts = ⊥

-- a tail that is neither a list cell nor the empty list
pub record IsOtherTail (symbols : List (List ℕ)) (E : Equations) (s : Tree) : Type 0 where
  pub other : (f : ℕ) (ts : Trees) → Equal E s (symbol f ts) → GoesOn symbols f ts → ⊥

mutual
  -- the text of a tree, with the classes that were printed before it and with it
  pub data Prints (symbols : List (List ℕ)) (E : Equations) : List Tree → Tree → List ℕ → List Tree → Type 0 where
    class : {seen new : List Tree} {s : Tree} {k : ℕ} → IsFree E s → IsNumbered (Equal E) seen s k new → Prints symbols E seen s (class_text k) new
    number : {seen : List Tree} {s : Tree} {z : ℤ} → Equal E s (integer z) → Prints symbols E seen s (signed_decimal z) seen
    a_port : {seen : List Tree} {s : Tree} {p : Name} → Equal E s (port p) → Prints symbols E seen s (codes "port") seen
    constant : {seen : List Tree} {s : Tree} {f : ℕ} {name : List ℕ} → Equal E s (symbol f none) → slice_get symbols f ≡ Some name
        → Prints symbols E seen s (constant_text name) seen
    compound : {seen new : List Tree} {s t : Tree} {ts : Trees} {f : ℕ} {name text : List ℕ} → Equal E s (symbol f (more t ts)) → slice_get symbols f ≡ Some name
        → is_cell name (more t ts) ≡ false → PrintsAll symbols E seen (more t ts) text new
        → Prints symbols E seen s (symbol_text name ++ 40 ∷ text ++ 41 ∷ []) new
    cell : {seen middle new : List Tree} {s t u : Tree} {f : ℕ} {first rest : List ℕ} → Equal E s (symbol f (more t (more u none))) → slice_get symbols f ≡ Some (codes ".")
        → Prints symbols E seen t first middle → PrintsTail symbols E middle u rest new
        → Prints symbols E seen s (91 ∷ first ++ rest) new

  -- arguments, with `,` between
  pub data PrintsAll (symbols : List (List ℕ)) (E : Equations) : List Tree → Trees → List ℕ → List Tree → Type 0 where
    last : {seen new : List Tree} {t : Tree} {text : List ℕ} → Prints symbols E seen t text new → PrintsAll symbols E seen (more t none) text new
    next : {seen middle new : List Tree} {t u : Tree} {ts : Trees} {text others : List ℕ} → Prints symbols E seen t text middle
        → PrintsAll symbols E middle (more u ts) others new → PrintsAll symbols E seen (more t (more u ts)) (text ++ 44 ∷ others) new

  -- the tail of a list and its closing bracket, behind `,` and the next element, or behind `|` and a term that is no list
  pub data PrintsTail (symbols : List (List ℕ)) (E : Equations) : List Tree → Tree → List ℕ → List Tree → Type 0 where
    ends : {seen : List Tree} {s : Tree} {f : ℕ} → Equal E s (symbol f none) → slice_get symbols f ≡ Some (codes "[]") → PrintsTail symbols E seen s (93 ∷ []) seen
    element : {seen middle new : List Tree} {s t u : Tree} {f : ℕ} {first rest : List ℕ} → Equal E s (symbol f (more t (more u none))) → slice_get symbols f ≡ Some (codes ".")
        → Prints symbols E seen t first middle → PrintsTail symbols E middle u rest new → PrintsTail symbols E seen s (44 ∷ first ++ rest) new
    partial : {seen new : List Tree} {s : Tree} {text : List ℕ} → IsOtherTail symbols E s → Prints symbols E seen s text new → PrintsTail symbols E seen s (124 ∷ text ++ 93 ∷ []) new

-- the lines of an answer: for each shown term its name, ` = ` and its text
pub data PrintsLines (symbols : List (List ℕ)) (E : Equations) : List Tree → List (List ℕ × Tree) → List ℕ → Type 0 where
  no_lines : {seen : List Tree} → PrintsLines symbols E seen [] []
  line : {seen new : List Tree} {name text others : List ℕ} {t : Tree} {rest : List (List ℕ × Tree)} → Prints symbols E seen t text new
      → PrintsLines symbols E new rest others → PrintsLines symbols E seen ((name, t) ∷ rest) (name ++ codes " = " ++ text ++ 10 ∷ others)
