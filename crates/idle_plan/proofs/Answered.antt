-- What is listed of what a chain answers.
use Rattle.std.proofs.Common.{◌-◌, List, [], length, take, drop, inl, inr}
use Rattle.akl_terms.specs.declared.name.Var.{Var}
use Rattle.akl_terms.specs.declared.term.Node.{Node}
use Rattle.akl_terms.specs.declared.term.Term.{Term}
use Rattle.akl_terms.specs.Equal.{IsConsistent}
use Rattle.akl_terms.specs.Touching.{Touches}
use Rattle.local_store.specs.declared.asking.Consistency.{Consistency}
use Rattle.local_store.specs.Asking.{Decides}
use Rattle.local_store.specs.Stored.{Stored}
use Rattle.entail_test.specs.Asked.{frames_from, environment_at, whole_at, IsQuietAt, IsClashAt, AreTouchedAt}
use Rattle.local_store.specs.Chained.{equations_of}
use Rattle.class_members.specs.Members.{AreMembers}
use Rattle.idle_plan.specs.Told.{ListsTold}
use Rattle.idle_plan.proofs.Wholes.{whole_stands}

module _ (nodes : List Node) (ss : List Stored) where
  pub clash_told : (left right : Term) → IsClashAt nodes ss (length ss - 1) left right → IsConsistent (equations_of nodes ss) → ⊥
  clash_told left right k c = k.1.differ (((whole_stands nodes ss (length ss - 1)).back c).heads k.0 k.1.is_left k.1.is_right)

  pub clash_decided : (left right : Term) → Decides nodes ss (Consistency.Clash left right) → IsConsistent (equations_of nodes ss) → ⊥
  clash_decided left right k c = k.1.differ (c.heads k.0 k.1.is_left k.1.is_right)

  pub quiet_told : IsQuietAt nodes ss (length ss - 1) → ListsTold nodes ss []
  quiet_told q = record {
    on = [];
    consistent = (whole_stands nodes ss (length ss - 1)).to q.consistent;
    touched = record { each = λ x m. absurd m; every = λ x t. absurd (none x t); once = tt };
    members = record { consistent = λ y m. absurd m; each = λ y m. absurd m; every = λ c z m. absurd m.among; oldest = λ x w m o. absurd m };
  }
    where
      none : (x : Var) → Touches (frames_from (drop (length ss - 1) ss)) (environment_at nodes ss (length ss - 1)) (whole_at nodes ss (length ss - 1)) x → ⊥
      none x t = elim t.told [
        | inl s ↦ t.unbound.unstructured (q.structured x t.unbound.outside s)
        | inr k ↦ k.1.apart (q.equal x k.0 t.unbound.outside k.1.other.outside t.unbound.unstructured k.1.other.unstructured k.1.equal)
      ]

  pub noisy_told : (on list : List Var) → IsConsistent (whole_at nodes ss (length ss - 1)) → AreTouchedAt nodes ss (length ss - 1) on → AreMembers nodes (take (length ss - 1) ss) on list → ListsTold nodes ss list
  noisy_told on list c t m = record { on = on; consistent = (whole_stands nodes ss (length ss - 1)).to c; touched = t; members = m }
