-- What is tested of alternatives, by the stores down to them.
use Rattle.std.specs.Prelude.{◌≡◌, ℕ, ◌+◌, ◌-◌, List, [], ◌∷◌, ◌++◌, length, take, ◌⊎◌, ◌≢◌, true, ⊤}
use Rattle.std.specs.List.{AllByRecursion}
use Rattle.akl_terms.specs.declared.name.Name.{Name}
use Rattle.akl_terms.specs.declared.term.Node.{Node}
use Rattle.akl_terms.specs.declared.program.Goal.{Goal}
use Rattle.akl_terms.specs.Equal.{IsConsistentBy}
use Rattle.local_store.specs.Stored.{Stored}
use Rattle.local_store.specs.Chained.{ToldBy, IsKnown, around}
use Rattle.entail_test.specs.Asked.{KeepsApartAt, IsQuietAt}
use Rattle.box_tree.specs.declared.entries.HeldOp.{HeldOp}
use Rattle.box_tree.specs.declared.view.Alternative.{Alternative}
use Rattle.box_tree.specs.declared.view.Sight.{Sight}
use Rattle.box_tree.specs.Views.{ViewValue}

-- the innermost store is quiet under the others
abbrev pub IsQuietInside : List Node → List Stored → Type 0
IsQuietInside nodes ss = IsQuietAt nodes ss (length ss - 1)

-- where the others are consistent, they make no variable of the innermost box equal to one from outside that they leave unstructured
abbrev pub KeepsApartInside : List Node → List Stored → Type 0
KeepsApartInside nodes ss = IsConsistentBy (ToldBy nodes (around ss)) → KeepsApartAt nodes ss (length ss - 1)

-- a choice goes on by the guard of one of its alternatives, unless it collects them all
abbrev pub IsGuarded : HeldOp → Type 0
IsGuarded HeldOp.Condition = ⊤
IsGuarded HeldOp.Commit = ⊤
IsGuarded HeldOp.Choice = ⊤
IsGuarded (HeldOp.Collect t) = ⊥

-- the guard of a solved alternative holds, whose store is the innermost
abbrev pub HoldsInside : HeldOp → List Node → List Stored → Type 0
HoldsInside HeldOp.Choice nodes ss = IsConsistentBy (ToldBy nodes ss)
HoldsInside HeldOp.Condition nodes ss = IsQuietInside nodes ss
HoldsInside HeldOp.Commit nodes ss = IsQuietInside nodes ss
HoldsInside (HeldOp.Collect t) nodes ss = ⊥

-- what is known of an alternative under the stores of a path
pub record IsTestable (nodes : List Node) (path : List Stored) (a : Alternative) : Type 0 where
  pub known : IsKnown nodes (path ++ a.store ∷ []) a.known
  pub apart : KeepsApartInside nodes (path ++ a.store ∷ [])

-- an alternative is quiet
abbrev pub IsQuietOver : List Node → List Stored → Alternative → Type 0
IsQuietOver nodes path a = IsQuietInside nodes (path ++ a.store ∷ [])

-- each alternative is solved
abbrev pub AreAllSolved : List Alternative → Type 0
AreAllSolved seen = AllByRecursion (λ a. a.solved ≡ true) seen

-- each is quiet
abbrev pub AreQuietOver : List Node → List Stored → List Alternative → Type 0
AreQuietOver nodes path seen = AllByRecursion (IsQuietOver nodes path) seen

-- an alternative isn't both solved and quiet
abbrev pub IsNoisyOver : List Node → List Stored → Alternative → Type 0
IsNoisyOver nodes path a = a.solved ≡ true → IsQuietInside nodes (path ++ a.store ∷ []) → ⊥

-- one of the alternatives, of this name, is
abbrev pub HasQuiet : List Node → List Stored → List Alternative → Name → Type 0
HasQuiet nodes path [] n = ⊥
HasQuiet nodes path (a ∷ rest) n = ((n ≡ a.name) × (a.solved ≡ true) × IsQuietInside nodes (path ++ a.store ∷ [])) ⊎ HasQuiet nodes path rest n

-- the alternatives that leave fewer than there are, where there isn't one alone
abbrev pub cutting : HeldOp → List Alternative → List Alternative
cutting HeldOp.Condition alternatives = take (length alternatives - 1) alternatives
cutting HeldOp.Commit alternatives = alternatives
cutting HeldOp.Choice alternatives = []
cutting (HeldOp.Collect t) alternatives = []

-- an alternative of this name of the choice at the place of a view is solved and quiet, and leaves fewer than there are
pub record CutsOthers (v : ViewValue) (n : Name) : Type 0 where
  pub op : HeldOp
  pub is_choice : v.sight ≡ Sight.Choice op
  pub not_one : length v.alternatives ≢ 1
  pub quiet : HasQuiet v.table.program.templates.nodes v.stores (cutting op v.alternatives) n

-- goals under a worker's names from a number on
abbrev pub numbered_goals : ℕ → ℕ → List Goal → List (Name × Goal)
numbered_goals worker n [] = []
numbered_goals worker n (g ∷ rest) = (record { worker = worker; number = n }, g) ∷ numbered_goals worker (n + 1) rest
