-- The lines of an answer: the shown terms, then the cyclic trees that they name.
use Rattle.std.specs.Prelude.{◌≡◌, ℕ, ℤ, suc, List, [], ◌∷◌, ◌++◌, length, slice_get, Some, codes, false, ◌⊎◌}
use Rattle.std.specs.Fmt.{decimal, signed_decimal}
use Rattle.akl_terms.specs.declared.name.Name.{Name}
use Rattle.akl_terms.specs.Tree.{Tree, Trees, integer, port, symbol, none, more}
use Rattle.akl_terms.specs.Equal.{Equations, Equal}
use Rattle.answer_text.specs.SymbolText.{symbol_text, constant_text}
use Rattle.answer_text.specs.Printed.{IsFree, IsNumbered, class_text, is_cell, IsOtherTail}
use Rattle.answer_text.specs.Cyclic.{SameTree, IsCyclic}

-- the classes and the cyclic trees that have a number so far
pub record Numbers : Type 0 where
  pub classes : List Tree
  pub cycles : List Tree

-- `R` and a number from 1 on
abbrev pub cycle_text : ℕ → List ℕ
cycle_text k = 82 ∷ decimal (suc k)

-- a list's tail that is its last: neither a list cell nor the empty list, or a cyclic tree
abbrev pub IsLastTail : List (List ℕ) → Equations → Tree → Type 0
IsLastTail symbols E s = IsOtherTail symbols E s ⊎ IsCyclic E s

mutual
  -- the text of a tree: a class and a cyclic tree by their numbers, any other written out
  pub data PrintsTree (symbols : List (List ℕ)) (E : Equations) : Numbers → Tree → List ℕ → Numbers → Type 0 where
    class : {n : Numbers} {s : Tree} {k : ℕ} {new : List Tree} → IsFree E s → IsNumbered (Equal E) n.classes s k new → PrintsTree symbols E n s (class_text k) (record n { classes = new })
    cycle : {n : Numbers} {s : Tree} {k : ℕ} {new : List Tree} → IsCyclic E s → IsNumbered (SameTree E) n.cycles s k new → PrintsTree symbols E n s (cycle_text k) (record n { cycles = new })
    plain : {n m : Numbers} {s : Tree} {text : List ℕ} → (IsCyclic E s → ⊥) → WritesTree symbols E n s text m → PrintsTree symbols E n s text m

  -- a tree written out, its arguments printed
  pub data WritesTree (symbols : List (List ℕ)) (E : Equations) : Numbers → Tree → List ℕ → Numbers → Type 0 where
    number : {n : Numbers} {s : Tree} {z : ℤ} → Equal E s (integer z) → WritesTree symbols E n s (signed_decimal z) n
    a_port : {n : Numbers} {s : Tree} {p : Name} → Equal E s (port p) → WritesTree symbols E n s (codes "port") n
    constant : {n : Numbers} {s : Tree} {f : ℕ} {name : List ℕ} → Equal E s (symbol f none) → slice_get symbols f ≡ Some name → WritesTree symbols E n s (constant_text name) n
    compound : {n m : Numbers} {s t : Tree} {ts : Trees} {f : ℕ} {name text : List ℕ} → Equal E s (symbol f (more t ts)) → slice_get symbols f ≡ Some name
        → is_cell name (more t ts) ≡ false → PrintsArguments symbols E n (more t ts) text m
        → WritesTree symbols E n s (symbol_text name ++ 40 ∷ text ++ 41 ∷ []) m
    cell : {n m o : Numbers} {s t u : Tree} {f : ℕ} {head rest : List ℕ} → Equal E s (symbol f (more t (more u none))) → slice_get symbols f ≡ Some (codes ".")
        → PrintsTree symbols E n t head m → PrintsListTail symbols E m u rest o
        → WritesTree symbols E n s (91 ∷ head ++ rest) o

  -- arguments, with `,` between
  pub data PrintsArguments (symbols : List (List ℕ)) (E : Equations) : Numbers → Trees → List ℕ → Numbers → Type 0 where
    last : {n m : Numbers} {t : Tree} {text : List ℕ} → PrintsTree symbols E n t text m → PrintsArguments symbols E n (more t none) text m
    next : {n m o : Numbers} {t u : Tree} {ts : Trees} {text others : List ℕ} → PrintsTree symbols E n t text m
        → PrintsArguments symbols E m (more u ts) others o → PrintsArguments symbols E n (more t (more u ts)) (text ++ 44 ∷ others) o

  -- the tail of a list and its closing bracket: the empty list is nothing, a list cell that isn't cyclic is `,` and goes on, any other is `|` and its text
  pub data PrintsListTail (symbols : List (List ℕ)) (E : Equations) : Numbers → Tree → List ℕ → Numbers → Type 0 where
    ends : {n : Numbers} {s : Tree} {f : ℕ} → Equal E s (symbol f none) → slice_get symbols f ≡ Some (codes "[]") → PrintsListTail symbols E n s (93 ∷ []) n
    element : {n m o : Numbers} {s t u : Tree} {f : ℕ} {head rest : List ℕ} → (IsCyclic E s → ⊥) → Equal E s (symbol f (more t (more u none))) → slice_get symbols f ≡ Some (codes ".")
        → PrintsTree symbols E n t head m → PrintsListTail symbols E m u rest o → PrintsListTail symbols E n s (44 ∷ head ++ rest) o
    partial : {n m : Numbers} {s : Tree} {text : List ℕ} → IsLastTail symbols E s → PrintsTree symbols E n s text m → PrintsListTail symbols E n s (124 ∷ text ++ 93 ∷ []) m

-- the lines of the cyclic trees from number k on, each written out; they may give further numbers
pub data PrintsCycleLines (symbols : List (List ℕ)) (E : Equations) : ℕ → Numbers → List ℕ → Type 0 where
  all_written : {n : Numbers} {k : ℕ} → k ≡ length n.cycles → PrintsCycleLines symbols E k n []
  cycle_line : {n m : Numbers} {k : ℕ} {s : Tree} {text others : List ℕ} → slice_get n.cycles k ≡ Some s → WritesTree symbols E n s text m
      → PrintsCycleLines symbols E (suc k) m others → PrintsCycleLines symbols E k n (cycle_text k ++ codes " = " ++ text ++ 10 ∷ others)

-- the lines: for each shown term its name, ` = ` and its text, then the cyclic trees
pub data PrintsAnswerLines (symbols : List (List ℕ)) (E : Equations) : Numbers → List (List ℕ × Tree) → List ℕ → Type 0 where
  all_shown : {n : Numbers} {text : List ℕ} → PrintsCycleLines symbols E 0 n text → PrintsAnswerLines symbols E n [] text
  line : {n m : Numbers} {name text others : List ℕ} {t : Tree} {rest : List (List ℕ × Tree)} → PrintsTree symbols E n t text m
      → PrintsAnswerLines symbols E m rest others → PrintsAnswerLines symbols E n ((name, t) ∷ rest) (name ++ codes " = " ++ text ++ 10 ∷ others)

abbrev pub no_numbers : Numbers
no_numbers = record { classes = []; cycles = [] }

-- the text of an answer
abbrev pub AreAnswerLines : List (List ℕ) → Equations → List (List ℕ × Tree) → List ℕ → Type 0
AreAnswerLines symbols E shown text = PrintsAnswerLines symbols E no_numbers shown text
