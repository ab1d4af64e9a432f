-- What lexemes derive as goals.
use Rattle.std.specs.Prelude.{◌≡◌, ℕ, List, [], ◌∷◌, ◌++◌, Option, Some, None, Bool, true, false, ◌&&◌, codes, bytes_eq}
use Rattle.akl_lexemes.specs.declared.lexeme.Lexeme.{Lexeme}
use Rattle.akl_lexemes.specs.declared.lexeme.Lexeme.TheVariants.{Symbol}
use Rattle.akl_text.specs.declared.token.Kind.{Kind}
use Rattle.akl_text.specs.declared.token.Kind.TheVariants as kinds
use Rattle.term_syntax.specs.declared.level.Level.TheVariants.{Sum}
use Rattle.akl_terms.specs.declared.program.Op.{Op}
use Rattle.akl_terms.specs.declared.program.Op.TheVariants as ops
use Rattle.term_syntax.specs.Tree.{Tree, Trees, trees}
use Rattle.term_syntax.specs.Grammar.{Expr, Arguments, begins_call}

-- a call of a symbol, an inline choice, a call of a definition that was made of one, a collecting goal with what it
-- collects and its result, and a call of a definition that was made of one, with the result
mutual
  pub data Goal : Type 0 where
    call : List ℕ → Trees → Goal
    choice : Parts → Goal
    lifted : ℕ → List ℕ → Goal
    collect : Tree → Goals → Tree → Goal
    lifted_collect : ℕ → List ℕ → Tree → Goal

  pub data Goals : Type 0 where
    no_goals : Goals
    more_goals : Goal → Goals → Goals

  pub data Parts : Type 0 where
    no_parts : Parts
    more_parts : Goals → Op → Goals → Parts → Parts

abbrev pub goals : List Goal → Goals
goals [] = no_goals
goals (g ∷ gs) = more_goals g (goals gs)

-- a guard, an operator and a body, and whether the operator is written
pub record Part : Type 0 where
  pub guard : List Goal
  pub op : Op
  pub body : List Goal
  pub is_written : Bool

abbrev pub parts : List Part → Parts
parts [] = no_parts
parts (p ∷ ps) = more_parts (goals p.guard) p.op (goals p.body) (parts ps)

-- a part whose operator counts as written
abbrev pub written : Part → Part
written p = record p { is_written = true }

abbrev pub plain_part : List Goal → Part
plain_part gs = record { guard = []; op = ops.Choice; body = gs; is_written = false }

-- one part without an operator is its goals
abbrev pub inlined : Bool → Part → List Part → List Goal
inlined false p [] = p.body
inlined _ p ps = choice (parts (p ∷ ps)) ∷ []

abbrev pub kind_relation : Kind → Option (List ℕ)
kind_relation kinds.Equal = Some (codes "=")
kind_relation kinds.Is = Some (codes "is")
kind_relation kinds.Less = Some (codes "<")
kind_relation kinds.Greater = Some (codes ">")
kind_relation kinds.AtMost = Some (codes "=<")
kind_relation kinds.AtLeast = Some (codes ">=")
kind_relation kinds.Same = Some (codes "=:=")
kind_relation kinds.Differs = Some (codes "=\\=")
kind_relation _ = None

abbrev pub relation_of : Lexeme → Option (List ℕ)
relation_of (Lexeme.Mark m) = kind_relation m
relation_of _ = None

abbrev pub kind_guard : Kind → Option Op
kind_guard kinds.Arrow = Some ops.Condition
kind_guard kinds.Bar = Some ops.Commit
kind_guard kinds.Question = Some ops.Choice
kind_guard _ = None

abbrev pub guard_of : Lexeme → Option Op
guard_of (Lexeme.Mark m) = kind_guard m
guard_of _ = None

-- the symbol of a collecting goal
abbrev pub collecting_symbol : List ℕ
collecting_symbol = codes "bagof"

-- a goal that begins so is a collecting goal and nothing else
abbrev pub begins_collect : List Lexeme → Bool
begins_collect (Symbol s ∷ a) = begins_call a && bytes_eq s collecting_symbol
begins_collect _ = false

mutual
  -- a goal in brackets may stand for several
  pub data GoalIs : List Lexeme → List Goal → List Lexeme → Type 0 where
    collecting : {s : List ℕ} {a b c d : List Lexeme} {t u : Tree} {gs : List Goal} → bytes_eq s collecting_symbol ≡ true
        → Expr Sum a t (Lexeme.Mark kinds.Comma ∷ b) → GoalIs b gs (Lexeme.Mark kinds.Comma ∷ c) → Expr Sum c u (Lexeme.Mark kinds.Close ∷ d)
        → GoalIs (Symbol s ∷ Lexeme.Mark kinds.OpenCall ∷ a) (collect t (goals gs) u ∷ []) d
    atom_goal : {s : List ℕ} {a b : List Lexeme} {ts : List Tree} → begins_collect (Symbol s ∷ a) ≡ false → Arguments a ts b → GoalIs (Symbol s ∷ a) (call s (trees ts) ∷ []) b
    test : {o : Lexeme} {a b c : List Lexeme} {w : List ℕ} {t u : Tree} → begins_collect a ≡ false → Expr Sum a t (o ∷ b) → relation_of o ≡ Some w → Expr Sum b u c
        → GoalIs a (call w (trees (t ∷ u ∷ [])) ∷ []) c
    brackets : {a b c : List Lexeme} {p : Part} {ps : List Part} → PartIs a p b → PartsAre b ps (Lexeme.Mark kinds.Close ∷ c) → GoalIs (Lexeme.Mark kinds.Open ∷ a) (inlined p.is_written (written p) ps) c

  pub data Conj : List Lexeme → List Goal → List Lexeme → Type 0 where
    conj : {a b c : List Lexeme} {gs hs : List Goal} → GoalIs a gs b → Conjs b hs c → Conj a (gs ++ hs) c

  pub data Conjs : List Lexeme → List Goal → List Lexeme → Type 0 where
    no_conjs : {a : List Lexeme} → Conjs a [] a
    and : {a b c : List Lexeme} {gs hs : List Goal} → GoalIs a gs b → Conjs b hs c → Conjs (Lexeme.Mark kinds.Comma ∷ a) (gs ++ hs) c

  pub data PartIs : List Lexeme → Part → List Lexeme → Type 0 where
    plain : {a b : List Lexeme} {gs : List Goal} → Conj a gs b → PartIs a (plain_part gs) b
    unguarded : {o : Lexeme} {a b : List Lexeme} {gs : List Goal} {op : Op} → guard_of o ≡ Some op → Conj a gs b
        → PartIs (o ∷ a) (record { guard = []; op = op; body = gs; is_written = true }) b
    guarded : {o : Lexeme} {a b c : List Lexeme} {gs hs : List Goal} {op : Op} → Conj a gs (o ∷ b) → guard_of o ≡ Some op → Conj b hs c
        → PartIs a (record { guard = gs; op = op; body = hs; is_written = true }) c

  pub data PartsAre : List Lexeme → List Part → List Lexeme → Type 0 where
    no_parts_more : {a : List Lexeme} → PartsAre a [] a
    or : {a b c : List Lexeme} {p : Part} {ps : List Part} → PartIs a p b → PartsAre b ps c → PartsAre (Lexeme.Mark kinds.Semicolon ∷ a) (written p ∷ ps) c
