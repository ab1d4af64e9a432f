-- How a step says of the stores that it gives whether they are known to be solved over those around them.
use Rattle.std.specs.Prelude.{◌≡◌, ◌≤◌, List, [], ◌∷◌, ◌++◌, length, Bool, ◌↔◌, IsTrue, ⊤}
use Rattle.std.specs.List.{AllByRecursion}
use Rattle.akl_terms.specs.Equal.{IsConsistentBy}
use Rattle.akl_model.specs.declared.label.Rule.{Rule}
use Rattle.rational_unify.specs.Older.{EachOlder}
use Rattle.local_store.specs.Stored.{Stored}
use Rattle.local_store.specs.Parts.{with_part}
use Rattle.local_store.specs.Chained.{ToldBy, innermost, replaced}
use Rattle.box_tree.specs.declared.step.Step.{Step}
use Rattle.box_tree.specs.declared.view.Alternative.{Alternative}
use Rattle.box_tree.specs.Views.{ViewValue}

-- of the chain that a new store makes with those of a view: exactly where all stores of the view are known to be solved, and the chain is consistent
abbrev pub IsKnownWith : ViewValue → List Stored → Bool → Type 0
IsKnownWith v chain solved = IsTrue solved ↔ ((v.known ≡ length v.stores) × IsConsistentBy (ToldBy v.table.program.templates.nodes chain))

-- of the box that an alternative joins: exactly where all stores around the alternative are known to be solved, its own is consistent with them, and each of its bindings leads to an older variable
abbrev pub IsKnownJoined : ViewValue → Bool → Alternative → Type 0
IsKnownJoined v solved a = IsTrue solved
    ↔ ((length v.stores ≤ a.known) × IsConsistentBy (ToldBy v.table.program.templates.nodes (v.stores ++ a.store ∷ [])) × EachOlder v.table.program.templates.nodes a.store.bindings)

-- of the box that all alternatives join: exactly where all stores of the view are known to be solved, the chain with the new store is consistent, and each binding of the alternatives leads to an older variable
abbrev pub IsKnownGathered : ViewValue → Stored → Bool → Type 0
IsKnownGathered v store solved = IsTrue solved
    ↔ ((v.known ≡ length v.stores) × IsConsistentBy (ToldBy v.table.program.templates.nodes (replaced v.stores store)) × AllByRecursion (λ a. EachOlder v.table.program.templates.nodes a.store.bindings) v.alternatives)

-- of a store to which a goal tells, of the box of each clause, and of the box that the only alternative or all alternatives join
abbrev pub SaysSolved : ViewValue → Rule → Step → Type 0
SaysSolved v rule (Step.Tell part solved) = IsKnownWith v (replaced v.stores (with_part (innermost v.stores) part)) solved
SaysSolved v rule (Step.Fork op boxes) = AllByRecursion (λ b. IsKnownWith v (v.stores ++ b.store ∷ []) b.solved) boxes.items
SaysSolved v Rule.Promote (Step.Join part solved goals told behind) = AllByRecursion (IsKnownJoined v solved) v.alternatives
SaysSolved v Rule.Collect (Step.Join part solved goals told behind) = IsKnownGathered v (with_part (innermost v.stores) part) solved
SaysSolved v rule step = ⊤
