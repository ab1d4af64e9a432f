-- What lexemes derive as a clause and as a query, without its end token.
use Rattle.std.specs.Prelude.{ℕ, List, [], ◌∷◌, Option, None}
use Rattle.akl_text.specs.declared.token.Kind.TheVariants as kinds
use Rattle.akl_lexemes.specs.declared.lexeme.Lexeme.{Lexeme}
use Rattle.akl_lexemes.specs.declared.lexeme.Lexeme.TheVariants.{Symbol}
use Rattle.akl_syntax.specs.declared.source.Head.{Head}
use Rattle.akl_syntax.specs.declared.source.Head.TheVariants.{Named}
use Rattle.term_syntax.specs.Tree.{Tree}
use Rattle.term_syntax.specs.Grammar.{Arguments}
use Rattle.akl_syntax.specs.Goals.{Goal, Part, Conj, PartIs, written, plain_part}

pub record Clause : Type 0 where
  pub head : Head
  pub arguments : List Tree
  pub part : Part
  pub collected : Option Tree
  pub names : List (List ℕ)
  pub start : ℕ

pub record Query : Type 0 where
  pub goals : List Goal
  pub names : List (List ℕ)

-- the clause of a symbol that begins at a place
abbrev pub clause_of : ℕ → List (List ℕ) → List ℕ → List Tree → Part → Clause
clause_of start names s ts p = record { head = Named s; arguments = ts; part = written p; collected = None; names = names; start = start }

-- what stands behind a head: nothing, or a neck and a part
pub data HasPart : List Lexeme → Part → Type 0 where
  no_neck : HasPart [] (plain_part [])
  neck : {a : List Lexeme} {p : Part} → PartIs a p [] → HasPart (Lexeme.Mark kinds.Neck ∷ a) p

pub data IsClause (start : ℕ) (names : List (List ℕ)) : List Lexeme → Clause → Type 0 where
  clause : {s : List ℕ} {a b : List Lexeme} {ts : List Tree} {p : Part} → Arguments a ts b → HasPart b p → IsClause start names (Symbol s ∷ a) (clause_of start names s ts p)

pub data IsQuery (names : List (List ℕ)) : List Lexeme → Query → Type 0 where
  query : {a : List Lexeme} {gs : List Goal} → Conj a gs [] → IsQuery names a (record { goals = gs; names = names })
