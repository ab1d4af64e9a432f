-- What lexemes derive: `E a t b` says that the lexemes of a, up to those of b, derive t.
use Rattle.std.specs.Prelude.{◌≡◌, ℕ, ℤ, List, [], ◌∷◌, Option, Some, None, Bool, true, false, codes}
use Rattle.akl_lexemes.specs.declared.lexeme.Lexeme.{Lexeme}
use Rattle.akl_lexemes.specs.declared.lexeme.Lexeme.TheVariants.{Symbol, Variable, Integer}
use Rattle.akl_text.specs.declared.token.Kind.{Kind}
use Rattle.akl_text.specs.declared.token.Kind.TheVariants as kinds
use Rattle.term_syntax.specs.declared.level.Level.{Level}
use Rattle.term_syntax.specs.declared.level.Level.TheVariants.{Sum, Product}
use Rattle.term_syntax.specs.Tree.{Tree, Step, Tail, variable, integer, compound, list, chain, no_tail, tail, trees, steps}

abbrev pub kind_operator : Level → Kind → Option (List ℕ)
kind_operator Sum kinds.Plus = Some (codes "+")
kind_operator Sum kinds.Minus = Some (codes "-")
kind_operator Sum _ = None
kind_operator Product kinds.Star = Some (codes "*")
kind_operator Product kinds.Div = Some (codes "//")
kind_operator Product kinds.Mod = Some (codes "mod")
kind_operator Product _ = None

-- the symbol of an operator of a sum or of a product
abbrev pub operator_of : Level → Lexeme → Option (List ℕ)
operator_of l (Lexeme.Mark m) = kind_operator l m
operator_of l _ = None

-- an operand alone is itself
abbrev pub chained : Tree → List Step → Tree
chained t [] = t
chained t (s ∷ ss) = chain t (steps (s ∷ ss))

abbrev pub begins_call : List Lexeme → Bool
begins_call (Lexeme.Mark kinds.OpenCall ∷ a) = true
begins_call _ = false

mutual
  -- sums and products: operands with operators of the level between
  pub data Expr : Level → List Lexeme → Tree → List Lexeme → Type 0 where
    operands : {l : Level} {a b c : List Lexeme} {t : Tree} {ss : List Step} → Operand l a t b → More l b ss c → Expr l a (chained t ss) c

  pub data More : Level → List Lexeme → List Step → List Lexeme → Type 0 where
    done : {l : Level} {a : List Lexeme} → More l a [] a
    next : {l : Level} {o : Lexeme} {a b c : List Lexeme} {w : List ℕ} {t : Tree} {ss : List Step}
        → operator_of l o ≡ Some w → Operand l a t b → More l b ss c → More l (o ∷ a) (record { symbol = w; right = t } ∷ ss) c

  -- a sum's operands are products, and a product's are primaries
  pub data Operand : Level → List Lexeme → Tree → List Lexeme → Type 0 where
    product : {a b : List Lexeme} {t : Tree} → Expr Product a t b → Operand Sum a t b
    primary : {a b : List Lexeme} {t : Tree} → Primary a t b → Operand Product a t b

  pub data Primary : List Lexeme → Tree → List Lexeme → Type 0 where
    variable_is : {n : ℕ} {a : List Lexeme} → Primary (Variable n ∷ a) (variable n) a
    integer_is : {z : ℤ} {a : List Lexeme} → Primary (Integer z ∷ a) (integer z) a
    atom : {s : List ℕ} {a b : List Lexeme} {ts : List Tree} → Arguments a ts b → Primary (Symbol s ∷ a) (compound s (trees ts)) b
    empty_list : {a : List Lexeme} → Primary (Lexeme.Mark kinds.OpenList ∷ Lexeme.Mark kinds.CloseList ∷ a) (compound (codes "[]") (trees [])) a
    whole_list : {a b c : List Lexeme} {ts : List Tree} {e : Tail} → Items a ts b → ListEnd b e c → Primary (Lexeme.Mark kinds.OpenList ∷ a) (list (trees ts) e) c
    brackets : {a b : List Lexeme} {t : Tree} → Expr Sum a t (Lexeme.Mark kinds.Close ∷ b) → Primary (Lexeme.Mark kinds.Open ∷ a) t b

  -- the arguments behind a symbol
  pub data Arguments : List Lexeme → List Tree → List Lexeme → Type 0 where
    plain : {a : List Lexeme} → begins_call a ≡ false → Arguments a [] a
    call : {a b : List Lexeme} {ts : List Tree} → Items a ts (Lexeme.Mark kinds.Close ∷ b) → Arguments (Lexeme.Mark kinds.OpenCall ∷ a) ts b

  pub data ListEnd : List Lexeme → Tail → List Lexeme → Type 0 where
    closed : {a : List Lexeme} → ListEnd (Lexeme.Mark kinds.CloseList ∷ a) no_tail a
    bar : {a b : List Lexeme} {t : Tree} → Expr Sum a t (Lexeme.Mark kinds.CloseList ∷ b) → ListEnd (Lexeme.Mark kinds.Bar ∷ a) (tail t) b

  -- one or more with commas between
  pub data Items : List Lexeme → List Tree → List Lexeme → Type 0 where
    items : {a b c : List Lexeme} {t : Tree} {ts : List Tree} → Expr Sum a t b → Others b ts c → Items a (t ∷ ts) c

  pub data Others : List Lexeme → List Tree → List Lexeme → Type 0 where
    no_others : {a : List Lexeme} → Others a [] a
    other : {a b c : List Lexeme} {t : Tree} {ts : List Tree} → Expr Sum a t b → Others b ts c → Others (Lexeme.Mark kinds.Comma ∷ a) (t ∷ ts) c
