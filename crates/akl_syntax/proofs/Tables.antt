-- A table of brackets for lexemes is one for what the reading of goals leaves.
use Rattle.std.proofs.Common.{◌≡◌, ℕ, List, Some, subst}
use Rattle.akl_lexemes.specs.declared.lexeme.Lexeme.{Lexeme}
use Rattle.akl_lexemes.specs.Brackets.{IsTable}
use Rattle.akl_terms.specs.declared.program.Op.{Op}
use Rattle.akl_lexemes.proofs.BracketTable.{table_behind}
use Rattle.akl_syntax.specs.Goals.{Goal, Part, Conj, PartIs}
use Rattle.akl_syntax.specs.Parts.{Alternatives, behind_first, guard_at}
use Rattle.akl_syntax.proofs.PartTurns.{guard_is}
use Rattle.akl_syntax.proofs.Rests.{conj_rest, part_rest, parts_rest}

module _ (table : List ℕ) where
  pub table_conj : {a r : List Lexeme} {gs : List Goal} → Conj a gs r → IsTable table a → IsTable table r
  table_conj p h = conj_rest (IsTable table) (table_behind table) p h

  pub table_part : {a r : List Lexeme} {p : Part} → PartIs a p r → IsTable table a → IsTable table r
  table_part p h = part_rest (IsTable table) (table_behind table) p h

  pub table_alternatives : {p : Part} {a r : List Lexeme} {ps : List Part} → Alternatives p a ps r → IsTable table a → IsTable table r
  table_alternatives (behind_first q) h = parts_rest (IsTable table) (table_behind table) q h

  pub table_guard : (a : List Lexeme) (op : Op) (r : List Lexeme) → guard_at a ≡ Some (op, r) → IsTable table a → IsTable table r
  table_guard a op r e h = let g = guard_is a op r e in table_behind table g.o r (subst (λ (z : List Lexeme). IsTable table z) g.at h)
