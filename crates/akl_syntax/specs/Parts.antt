-- Pieces of a part, of an inline choice and of a collecting goal, of which the clauses of private functions speak.
use Rattle.std.specs.Prelude.{◌≡◌, ℕ, List, [], ◌∷◌, Option, None, option_map, true, bytes_eq}
use Rattle.akl_text.specs.declared.token.Kind.{Kind}
use Rattle.akl_text.specs.declared.token.Kind.TheVariants as kinds
use Rattle.akl_lexemes.specs.declared.lexeme.Lexeme.{Lexeme}
use Rattle.akl_lexemes.specs.declared.lexeme.Lexeme.TheVariants.{Symbol}
use Rattle.term_syntax.specs.declared.level.Level.TheVariants.{Sum}
use Rattle.term_syntax.specs.Tree.{Tree}
use Rattle.term_syntax.specs.Grammar.{Expr}
use Rattle.akl_terms.specs.declared.program.Op.{Op}
use Rattle.akl_syntax.specs.Goals.{Goal, Part, GoalIs, Conj, PartsAre, collect, goals, collecting_symbol, guard_of}

-- the operator behind a guard with which the lexemes begin, and what stands behind it
abbrev pub guard_at : List Lexeme → Option (Op × List Lexeme)
guard_at [] = None
guard_at (o ∷ a) = option_map (λ op. (op, a)) (guard_of o)

-- a body, behind a guard and its operator
pub data Guarded (gs : List Goal) (op : Op) : List Lexeme → Part → List Lexeme → Type 0 where
  body_of : {a b : List Lexeme} {hs : List Goal} → Conj a hs b → Guarded gs op a (record { guard = gs; op = op; body = hs; is_written = true }) b

-- the parts of an inline choice, behind the first of them
pub data Alternatives (p : Part) : List Lexeme → List Part → List Lexeme → Type 0 where
  behind_first : {a b : List Lexeme} {ps : List Part} → PartsAre a ps b → Alternatives p a (p ∷ ps) b

-- the lexemes begin a collecting goal, whose opening bracket these stand behind
pub record IsCollecting (a rest : List Lexeme) : Type 0 where
  pub symbol : List ℕ
  pub collects : bytes_eq symbol collecting_symbol ≡ true
  pub at : a ≡ Symbol symbol ∷ Lexeme.Mark kinds.OpenCall ∷ rest

-- an expression and a mark behind it
pub data Ended (k : Kind) : List Lexeme → Tree → List Lexeme → Type 0 where
  ended_by : {a b : List Lexeme} {t : Tree} → Expr Sum a t (Lexeme.Mark k ∷ b) → Ended k a t b

-- what stands behind the opening bracket of a collecting goal
pub data Collected : List Lexeme → List Goal → List Lexeme → Type 0 where
  parts_of : {a b c d : List Lexeme} {t u : Tree} {gs : List Goal} → Ended kinds.Comma a t b → GoalIs b gs (Lexeme.Mark kinds.Comma ∷ c) → Ended kinds.Close c u d → Collected a (collect t (goals gs) u ∷ []) d
