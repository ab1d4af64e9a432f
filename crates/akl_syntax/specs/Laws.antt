-- No text has two readings.
use Rattle.std.specs.Prelude.{◌≡◌, ℕ, List}
use Rattle.akl_syntax.specs.Clauses.{Clause, Query}
use Rattle.akl_syntax.specs.Verdicts.{Verdict, ReadsClause, ReadsProgram, ReadsQuery}

abbrev pub OneProgramLaw : Type 0
OneProgramLaw = (bytes : List ℕ) (one another : Verdict (List Clause)) → ReadsProgram bytes one → ReadsProgram bytes another → one ≡ another

abbrev pub OneQueryLaw : Type 0
OneQueryLaw = (bytes : List ℕ) (one another : Verdict Query) → ReadsQuery bytes one → ReadsQuery bytes another → one ≡ another

-- the clause that begins at a place, and where it ends
abbrev pub OneClauseLaw : Type 0
OneClauseLaw = (bytes : List ℕ) (start : ℕ) (one another : Verdict (Clause × ℕ)) → ReadsClause bytes start one → ReadsClause bytes start another → one ≡ another
