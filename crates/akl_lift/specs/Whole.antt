-- Goals as they are read: each inline choice has a part, and each part a goal in its body and an operator that is written.
use Rattle.std.specs.Prelude.{◌≡◌, ◌≤◌, List, [], ◌∷◌, length, None}
use Rattle.std.specs.List.{All}
use Rattle.akl_syntax.specs.declared.source.Head.{Head}
use Rattle.akl_syntax.specs.declared.source.Head.TheVariants as heads
use Rattle.akl_syntax.specs.Goals.{Goal, Goals, Parts, call, choice, lifted, collect, lifted_collect, no_goals, more_goals, no_parts, more_parts, goals}
use Rattle.akl_syntax.specs.Clauses.{Clause, Query}
use Rattle.akl_syntax.specs.Variables.{AreClausesNumbered, IsQueryNumbered}
use Rattle.clause_keys.specs.Conditions.{IsGuard}

abbrev pub HasGoal : Goals → Type 0
HasGoal no_goals = ⊥
HasGoal (more_goals g gs) = Unit {0}

abbrev pub HasPart : Parts → Type 0
HasPart no_parts = ⊥
HasPart (more_parts gs op hs ps) = Unit {0}

abbrev mutual
  pub IsWhole : Goal → Type 0
  IsWhole (call s ts) = Unit {0}
  IsWhole (choice ps) = HasPart ps × HaveGoals ps
  IsWhole (lifted n ns) = Unit {0}
  IsWhole (collect t gs r) = AreWhole gs
  IsWhole (lifted_collect n ns r) = Unit {0}

  pub AreWhole : Goals → Type 0
  AreWhole no_goals = Unit {0}
  AreWhole (more_goals g gs) = IsWhole g × AreWhole gs

  -- each part has a goal in its body and an operator that is written, and its choices are such ones, too
  pub HaveGoals : Parts → Type 0
  HaveGoals no_parts = Unit {0}
  HaveGoals (more_parts gs op hs ps) = HasGoal hs × AreWhole gs × AreWhole hs × HaveGoals ps × IsGuard op

abbrev pub IsNamed : Head → Type 0
IsNamed (heads.Named s) = Unit {0}
IsNamed (heads.Lifted number inside) = ⊥

-- a clause as it is read
pub record IsRead (c : Clause) : Type 0 where
  pub head : IsNamed c.head
  pub guard : AreWhole (goals c.part.guard)
  pub body : AreWhole (goals c.part.body)
  pub op : IsGuard c.part.op
  pub collected : c.collected ≡ None

abbrev pub AreRead : List Clause → Type 0
AreRead [] = Unit {0}
AreRead (c ∷ cs) = IsRead c × AreRead cs

-- clauses as they are read, with the numbers of their variables, of which each has few
pub record AreWritten (cs : List Clause) : Type 0 where
  pub few : All (λ c. length c.names ≤ 256) cs
  pub read : AreRead cs
  pub numbered : AreClausesNumbered cs

-- so a query
pub record IsWritten (q : Query) : Type 0 where
  pub few : length q.names ≤ 256
  pub read : AreWhole (goals q.goals)
  pub numbered : IsQueryNumbered q
