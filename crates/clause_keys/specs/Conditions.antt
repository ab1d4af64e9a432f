-- When clauses and queries can be loaded, and when once they are lifted.
use Rattle.std.specs.Prelude.{◌≡◌, ◌≤◌, ℕ, zero, suc, List, [], length, slice_get, Option, Some, None}
use Rattle.std.specs.List.{All, Contains}
use Rattle.term_syntax.specs.Tree.{Tree, Trees, no_trees, more_trees}
use Rattle.akl_terms.specs.declared.program.Key.{Key}
use Rattle.akl_terms.specs.declared.program.Op.{Op}
use Rattle.akl_terms.specs.declared.program.Op.TheVariants as ops
use Rattle.akl_syntax.specs.declared.source.Head.{Head}
use Rattle.akl_syntax.specs.declared.source.Head.TheVariants as heads
use Rattle.akl_syntax.specs.Goals.{Goal, Goals, Parts, call, choice, lifted, collect, lifted_collect, goals, no_goals, more_goals, no_parts, more_parts}
use Rattle.akl_syntax.specs.Clauses.{Clause}
use Rattle.clause_keys.specs.declared.callee.Callee.{Callee}
use Rattle.clause_keys.specs.declared.callee.Callee.TheVariants.{Lifted, Collecting}
use Rattle.clause_keys.specs.declared.reserved.Reserved.{Reserved}
use Rattle.clause_keys.specs.Reserved.{reserved_of}
use Rattle.clause_keys.specs.Keys.{named, defined_by}

abbrev pub count : Trees → ℕ
count no_trees = zero
count (more_trees t ts) = suc (count ts)

abbrev pub count_parts : Parts → ℕ
count_parts no_parts = zero
count_parts (more_parts gs op hs ps) = suc (count_parts ps)

-- the goal is an inline choice or a collecting goal, inside of which there are others
abbrev pub IsNested : Goal → Type 0
IsNested (choice ps) = Unit {0}
IsNested (collect t gs r) = Unit {0}
IsNested g = ⊥

-- no goal has others inside
abbrev pub HasNoNested : List Goal → Type 0
HasNoNested gs = All (λ g. IsNested g → ⊥) gs

-- a reserved goal calls nothing, and another one of the callees
abbrev pub MayCall : List Callee → Callee → Option Reserved → Type 0
MayCall callees callee (Some meaning) = Unit {0}
MayCall callees callee None = Contains callees callee

-- the goal has no others inside, and it is reserved or calls one of the callees with as many arguments as this has: a collecting goal one that collects, and no other goal such a one
abbrev pub IsLoadable : List Callee → Goal → Type 0
IsLoadable callees (call s ts) = MayCall callees (named s (count ts)) (reserved_of s (count ts))
IsLoadable callees (lifted n ns) = Contains callees (Lifted n (length ns))
IsLoadable callees (lifted_collect n ns r) = Contains callees (Collecting n (length ns))
IsLoadable callees (choice ps) = ⊥
IsLoadable callees (collect t gs r) = ⊥

-- the operator is one that is written in guards
abbrev pub IsGuard : Op → Type 0
IsGuard ops.Collect = ⊥
IsGuard op = Unit {0}

-- a clause has a collected term exactly where its operator is that of collecting; then its head is lifted, and it has no body
pub data MayCollect : Op → Head → Option Tree → List Goal → Type 0 where
  guarding : {op : Op} {h : Head} {gs : List Goal} → IsGuard op → MayCollect op h None gs
  collecting : {number : ℕ} {inside : Key} {t : Tree} → MayCollect ops.Collect (heads.Lifted number inside) (Some t) []

-- the clause's goals can be loaded over these callees, it collects where it may, and it has at most 256 variables
pub record IsClauseLoadable (callees : List Callee) (c : Clause) : Type 0 where
  pub guard : All (IsLoadable callees) c.part.guard
  pub body : All (IsLoadable callees) c.part.body
  pub collected : MayCollect c.part.op c.head c.collected c.part.body
  pub few : length c.names ≤ 256

mutual
  -- the goal can be loaded, or it is an inline choice of at most 256 parts with one operator, or a collecting goal, of whose goals the same holds
  pub data IsLiftable (callees : List Callee) : Goal → Type 0 where
    a_goal : {g : Goal} → IsLoadable callees g → IsLiftable callees g
    a_choice : {ps : Parts} {op : Op} → count_parts ps ≤ 256 → HaveLiftable callees op ps → IsLiftable callees (choice ps)
    a_collect : {t r : Tree} {gs : Goals} → AreLiftable callees gs → IsLiftable callees (collect t gs r)

  pub data AreLiftable (callees : List Callee) : Goals → Type 0 where
    none_liftable : AreLiftable callees no_goals
    more_liftable : {g : Goal} {gs : Goals} → IsLiftable callees g → AreLiftable callees gs → AreLiftable callees (more_goals g gs)

  -- the parts have this operator, and guards and bodies that can be lifted
  pub data HaveLiftable (callees : List Callee) : Op → Parts → Type 0 where
    no_part : {op : Op} → HaveLiftable callees op no_parts
    a_part : {op : Op} {gs hs : Goals} {ps : Parts} → AreLiftable callees gs → AreLiftable callees hs → HaveLiftable callees op ps → HaveLiftable callees op (more_parts gs op hs ps)

-- the clause's goals can be loaded over these callees once they are lifted, and it has at most 256 variables
pub record IsClauseLiftable (callees : List Callee) (c : Clause) : Type 0 where
  pub guard : AreLiftable callees (goals c.part.guard)
  pub body : AreLiftable callees (goals c.part.body)
  pub few : length c.names ≤ 256

-- clauses of one definition have one operator
pub record AreUnmixed (cs : List Clause) : Type 0 where
  pub same : (c d : Clause) → Contains cs c → Contains cs d → defined_by c ≡ defined_by d → c.part.op ≡ d.part.op

-- a clause that collects is the only one of its definition
pub record AreAlone (cs : List Clause) : Type 0 where
  pub alone : (i j : ℕ) (c d : Clause) → slice_get cs i ≡ Some c → slice_get cs j ≡ Some d → defined_by c ≡ defined_by d → c.part.op ≡ ops.Collect → i ≡ j
