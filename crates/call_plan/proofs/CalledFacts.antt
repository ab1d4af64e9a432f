-- What is known of a call that is made at once.
use Rattle.std.proofs.Common.{◌≡◌, ℕ, Bool, ◌+◌, ◌<◌, ◌^◌, List, [], length, true, subst}
use Rattle.akl_terms.specs.declared.name.Name.{Name}
use Rattle.akl_terms.specs.declared.program.Definition.{Definition}
use Rattle.akl_model.specs.declared.label.Label.{Label}
use Rattle.akl_model.specs.Instances.{drawn_by}
use Rattle.akl_terms.specs.declared.program.Op.{Op}
use Rattle.akl_terms.specs.declared.term.Node.{Node}
use Rattle.local_store.specs.Parts.{ToldStore}
use Rattle.local_store.specs.Stored.{Stored}
use Rattle.local_store.specs.Chained.{replaced, IsSolvedChain, IsKnown}
use Rattle.local_store.proofs.Known.{whole-known}
use Rattle.box_tree.specs.Views.{ViewValue}
use Rattle.table_laws.proofs.StoreChains.{around_push}
use Rattle.call_plan.specs.declared.heads.Arguments.{Arguments}
use Rattle.call_plan.specs.declared.sifting.Left.{Left}
use Rattle.call_plan.specs.Called.{IsCalled, Remains}
use Rattle.call_plan.specs.Chosen.{IsChosen}
use Rattle.call_plan.specs.Joins.{Joins}

module _ (v : ViewValue) (g : Name) (a : Arguments) (called : Definition) (drawn : ℕ) (h : IsCalled v g a called drawn) where
  pub call_known : IsKnown v.table.program.templates.nodes v.stores (length v.stores)
  call_known = subst (IsKnown v.table.program.templates.nodes v.stores) h.known h.seen.known

  pub call_solved : IsSolvedChain v.table.program.templates.nodes v.stores
  call_solved = whole-known v.table.program.templates.nodes v.stores v.known h.seen.known h.known

  pub call_numbers : v.next + drawn < 2 ^ 64 → v.next + drawn_by called.clauses < 2 ^ 64
  call_numbers l = subst (λ (n : ℕ). v.next + n < 2 ^ 64) h.drawn_is l

  pub call_remains : (labels : List Label) (plainly : Bool) (left : Left) → IsChosen v.table.program.templates.symbols v.table.program.templates.nodes v.stores a v.worker v.next called.op called.clauses [] true labels plainly left → Remains v g called left drawn labels plainly
  call_remains labels plainly left c = record { arguments = a; is_called = h; chosen = c }

-- the store of the box makes a solved chain with those around it, where it says so
pub joined_solved : (nodes : List Node) (path : List Stored) (op : Op) (own : Stored) (told : ToldStore) → Joins nodes path op own told → told.solved ≡ true → IsSolvedChain nodes (replaced path told.store)
joined_solved nodes path op own told j q =
    let w : _ = j.promoted.is_solved.0 q in
    subst (λ (ss : List Stored). IsSolvedChain nodes (replaced ss told.store)) (around_push path own) (j.promoted.promotes.solved w.0 w.1 w.2)
