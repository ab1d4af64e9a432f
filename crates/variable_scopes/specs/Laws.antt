-- Clauses and queries have one form whose variables go by their scopes.
use Rattle.std.specs.Prelude.{◌≡◌, List}
use Rattle.akl_syntax.specs.Clauses.{Clause, Query}
use Rattle.variable_scopes.specs.Scoped.{AreScoped, IsScopedQuery}

abbrev pub OneScopedLaw : Type 0
OneScopedLaw = (cs ds es : List Clause) → AreScoped cs ds → AreScoped cs es → ds ≡ es

abbrev pub OneScopedQueryLaw : Type 0
OneScopedQueryLaw = (q r s : Query) → IsScopedQuery q r → IsScopedQuery q s → r ≡ s
