-- What the plan of a call read is enough: by bindings where goals of guards were evaluated in alternatives with plain bindings alone, and by sets of goals in any case.
use Rattle.std.proofs.Common.{◌≡◌, Bool, true, List, ◌∷◌, map, refl, sym, subst, inl, inr}
use Rattle.akl_terms.specs.declared.name.Name.{Name}
use Rattle.akl_terms.specs.declared.name.Var.{Var}
use Rattle.akl_terms.specs.declared.name.Place.{Place}
use Rattle.akl_model.specs.declared.item.Item.{Item}
use Rattle.akl_model.specs.Config.{IsIn}
use Rattle.reading_laws.specs.Seen.{inside}
use Rattle.box_tree.specs.Views.{ViewValue}
use Rattle.guard_plan.specs.ReadAt.{IsReadAt}
use Rattle.guard_plan.proofs.ReadEnough.{by_sets}
use Rattle.guard_plan.proofs.ReadItems.{read_set}
use Rattle.call_plan.specs.ReadCall.{IsReadOfCall}

module _ (v : ViewValue) (g : Name) (plainly : Bool) (binds : List Var) where
  pub by_bindings : (reads : List Item) → IsReadAt v g binds reads → plainly ≡ true → IsReadOfCall v g plainly binds reads
  by_bindings reads read plain = record { enough = λ i. (read.enough i, λ b. plain); there = read.there; only = read.only }

  pub by_goals : v.place ≡ Place.Goal g → IsReadOfCall v g plainly binds (Item.Goal g ∷ map Item.Goals v.path)
  by_goals place = record {
    enough = λ i. (inside (inl refl) (λ m h. inr (read_set v.path m (subst (IsIn m) (sym i.path) h))), λ b. absurd b);
    there = (by_sets v g place binds).there;
    only = (by_sets v g place binds).only;
  }
