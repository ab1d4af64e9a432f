-- What is known of each clause before the tests, of which the clauses of private functions speak.
use Rattle.std.specs.Prelude.{◌≡◌, ◌+◌, ℕ, List, [], ◌∷◌, ◌++◌, length, map, slice_get, slice_set, Some}
use Rattle.std.specs.List.{filter, list_any}
use Rattle.akl_terms.specs.declared.program.Op.{Op}
use Rattle.akl_syntax.specs.Clauses.{Clause}
use Rattle.akl_syntax.specs.Answers.{clause_view}
use Rattle.akl_syntax.specs.GoalView.{goal}
use Rattle.clause_keys.specs.declared.callee.Callee.{Callee}
use Rattle.clause_keys.specs.Keys.{defined_by, Adds}
use Rattle.clause_checks.specs.declared.tally.Tally.{Tally}
use Rattle.clause_checks.specs.declared.listed.Listed.{Listed}
use Rattle.clause_checks.specs.declared.listed.Listing.{Listing}
use Rattle.clause_checks.specs.Within.{goals_in}
use Rattle.clause_checks.specs.Rows.{is_callee, own}

-- both have the same callees, in whatever order and how often
abbrev pub SameCallees : List Callee → List Callee → Type 0
SameCallees ks ls = (k : Callee) → list_any (is_callee k) ks ≡ list_any (is_callee k) ls

-- the clauses of a definition among some
abbrev pub clauses_of : Callee → List Clause → List Clause
clauses_of k cs = filter (λ d. is_callee k (defined_by d)) cs

-- the operator of the first of some clauses, or this one where there are none
abbrev pub first_op : Op → List Clause → Op
first_op op [] = op
first_op op (c ∷ cs) = c.part.op

-- the tally counts these clauses, and has the operator of the first
pub record Counts (op : Op) (cs : List Clause) (t : Tally) : Type 0 where
  pub clauses : t.clauses ≡ length cs
  pub first : t.op ≡ first_op op cs

-- what a clause more makes of the tallies, by the number of its definition, and the tally before it
pub data Tallies (old : List Tally) (op : Op) : ℕ → List Tally → Tally → Type 0 where
  again : {d : ℕ} {t : Tally} → slice_get old d ≡ Some t → Tallies old op d (slice_set old d (record t { clauses = t.clauses + 1 })) t
  at_first : Tallies old op (length old) (old ++ record { clauses = 1; op = op } ∷ []) (record { clauses = 0; op = op })

-- the clause that is listed
abbrev pub clause_of : Listed → Clause
clause_of x = clause_view x.clause.now

abbrev pub HasGoals : Listed → Type 0
HasGoals x = map (λ g. goal g.now) x.goals.items ≡ goals_in (clause_of x)

-- behind these clauses, it has the goals of its clause and the tally of its definition
pub record IsListed (before : List Clause) (x : Listed) : Type 0 where
  pub goals : HasGoals x
  pub tally : Counts (clause_of x).part.op (own (clause_of x) before) x.before

pub data AreListed : List Clause → List Listed → Type 0 where
  nothing : {before : List Clause} → AreListed before []
  next : {before : List Clause} {x : Listed} {xs : List Listed} → IsListed before x → AreListed (before ++ clause_of x ∷ []) xs → AreListed before (x ∷ xs)

-- what listing one clause more does
pub record Lists (c : Clause) (old new : Listing) : Type 0 where
  pub entry : Listed
  pub clauses : new.clauses.items ≡ old.clauses.items ++ entry ∷ []
  pub clause : clause_of entry ≡ c
  pub goals : HasGoals entry
  pub definition : ℕ
  pub callees : Adds old.callees (defined_by c) new.callees definition
  pub tally : Tallies old.tallies.items c.part.op definition new.tallies.items entry.before
