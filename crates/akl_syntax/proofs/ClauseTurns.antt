-- What reading a clause and a query rests on.
use Rattle.std.proofs.Common.{◌≡◌, ℕ, Bool, true, false, List, [], ◌∷◌, length, refl, sym, ap, subst, arith}
use Rattle.std.specs.Prelude.{◌==◌}
use Rattle.std.proofs.lemmas.Bool.{eqb-true, eqb-false}
use Rattle.akl_text.specs.declared.token.Kind.TheVariants as kinds
use Rattle.akl_lexemes.specs.declared.lexeme.Lexeme.{Lexeme}
use Rattle.akl_lexemes.specs.declared.lexeme.Lexeme.TheVariants.{Symbol}
use Rattle.akl_lexemes.specs.declared.fault.Fault.{Fault}
use Rattle.akl_lexemes.specs.declared.fault.Fault.TheVariants.{Syntax, Memory}
use Rattle.term_syntax.specs.Tree.{Tree}
use Rattle.term_syntax.specs.Grammar.{Arguments}
use Rattle.akl_syntax.specs.Goals.{Goal, Part, Conj, PartIs}
use Rattle.akl_lexemes.specs.Parsed.{anywhere, Nothing, Refuses}
use Rattle.akl_syntax.specs.Ends.{ends_conj, ends_part}
use Rattle.akl_syntax.specs.Clauses.{Clause, Query, HasPart, IsClause, IsQuery, no_neck, neck, clause, query}
use Rattle.akl_syntax.specs.Wholes.{RefusesAll}
use Rattle.term_syntax.proofs.Unique.{arguments_one}
use Rattle.akl_syntax.proofs.OneGoal.{conj_one, part_one}

-- ---- one reading
pub part_alone : {a : List Lexeme} {p q : Part} → HasPart a p → HasPart a q → p ≡ q
part_alone no_neck no_neck = refl
part_alone (neck x) (neck y) = (part_one x y refl refl).0

pub query_one : {names : List (List ℕ)} {ls : List Lexeme} {q r : Query} → IsQuery names ls q → IsQuery names ls r → q ≡ r
query_one {names} (query {gs = gs} x) (query {gs = hs} y) = let e : gs ≡ hs = (conj_one x y refl refl).0 in ap (λ (z : List Goal). record { goals = z; names = names }) e

-- ---- refusals
pub refuses_from : (e : List Lexeme → Bool) {Y Z : Type 0} {R : Y → List Lexeme → Type 0} {S : Z → Type 0} (f : Fault) → (Nothing R e → (z : Z) → S z → ⊥) → Refuses R e f → RefusesAll S f
refuses_from e Syntax k r = k r
refuses_from e Memory k r = tt

pub refuses_so : {Y Z : Type 0} {R : Y → Type 0} {S : Z → Type 0} (f : Fault) → (((y : Y) → R y → ⊥) → (z : Z) → S z → ⊥) → RefusesAll R f → RefusesAll S f
refuses_so Syntax k r = k r
refuses_so Memory k r = tt

-- ---- lexemes that are no part, no clause or no query
pub not_ended : (a b : List Lexeme) (p q : Part) → PartIs a p b → ends_part b ≡ true → (b ≡ [] → ⊥) → HasPart (Lexeme.Mark kinds.Neck ∷ a) q → ⊥
not_ended a b p q x k some (neck y) = some (part_one x y k refl).1

pub no_part_behind : (a : List Lexeme) → Nothing (PartIs a) ends_part → (q : Part) → HasPart (Lexeme.Mark kinds.Neck ∷ a) q → ⊥
no_part_behind a none q (neck y) = none _ [] y refl

pub no_part_there : (a : List Lexeme) (q : Part) → ((b : List Lexeme) → a ≡ Lexeme.Mark kinds.Neck ∷ b → ⊥) → (a ≡ [] → ⊥) → HasPart a q → ⊥
no_part_there _ q f g no_neck = g refl
no_part_there _ q f g (neck {a = a} y) = f a refl

pub no_arguments : (start : ℕ) (names : List (List ℕ)) (s : List ℕ) (a : List Lexeme) → Nothing (Arguments a) anywhere → (c : Clause) → IsClause start names (Symbol s ∷ a) c → ⊥
no_arguments start names s a none _ (clause x y) = none _ _ x refl

pub no_clause_part : (start : ℕ) (names : List (List ℕ)) (s : List ℕ) (a b : List Lexeme) (ts : List Tree) → Arguments a ts b → ((p : Part) → HasPart b p → ⊥) → (c : Clause) → IsClause start names (Symbol s ∷ a) c → ⊥
no_clause_part start names s a b ts x none _ (clause {p = p} x' y) = none p (subst (λ (z : List Lexeme). HasPart z p) (sym (arguments_one x x').1) y)

pub no_conj : (names : List (List ℕ)) (a : List Lexeme) → Nothing (Conj a) ends_conj → (q : Query) → IsQuery names a q → ⊥
no_conj names a none _ (query x) = none _ [] x refl

pub more_behind_goals : (names : List (List ℕ)) (a b : List Lexeme) (gs : List Goal) → Conj a gs b → ends_conj b ≡ true → (b ≡ [] → ⊥) → (q : Query) → IsQuery names a q → ⊥
more_behind_goals names a b gs x k some _ (query y) = some (conj_one x y k refl).1

-- ---- an end of lexemes
pub is_nil : (a : List Lexeme) → (length a == 0) ≡ true → a ≡ []
is_nil [] e = refl
is_nil (o ∷ a) e = absurd (omega (arith, eqb-true _ _ e))

pub not_nil : (a : List Lexeme) → (length a == 0) ≡ false → a ≡ [] → ⊥
not_nil [] e f = eqb-false 0 0 e refl
not_nil (o ∷ a) e f = absurd cc
