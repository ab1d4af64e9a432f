-- What is bound in a box between two configurations, by the equations down to it.
use Rattle.std.proofs.Common.{◌≡◌, List, ◌++◌, Some, sym, ◌∙◌, ap, subst, ◌⊎◌, inl, inr}
use Rattle.akl_terms.specs.declared.name.Var.{Var}
use Rattle.akl_terms.specs.Tree.{variable}
use Rattle.akl_terms.specs.Equal.{Equations, Equal, IsConsistent, IsStructured}
use Rattle.akl_model.specs.Config.{Content, Goals, Config, Found, environment, whole, box_at}
use Rattle.akl_model.specs.Changes.{Binds}
use Rattle.akl_model.proofs.Options.{some_value}
use Rattle.constraint_laws.specs.Bound.{IsNewlyBound}
use Rattle.constraint_laws.specs.Oldest.{HasOldest}
use Rattle.constraint_laws.specs.Touched.{IsAmong}
use Rattle.local_store.specs.Bound.{AreNewlyBound}
use Rattle.step_laws.specs.Bound.{outermost_equations, AreBoundIn}

-- a box with another content and other goals, under the same boxes
abbrev pub now_with : Found → Content → Goals → Found
now_with f b gs = record { around = f.around; content = b; goals = gs }

module _ (c d : Config) (f : Found) (b : Content) (gs : Goals) (was : box_at f.content.name c.roots ≡ Some f) (is : box_at f.content.name d.roots ≡ Some (now_with f b gs)) (list : List Var)
    (h : AreNewlyBound (outermost_equations f) (whole f) (whole (now_with f b gs)) list) (old : HasOldest (outermost_equations f) list) where
  more_equations : (x : Var) → IsNewlyBound (whole f) (whole (now_with f b gs)) x → b.equations ≡ f.content.equations → ⊥
  more_equations x n q = on n.told
    where
      r : whole (now_with f b gs) ≡ whole f
      r = ap (λ (E : Equations). environment f ++ E) q

      on : (IsStructured (whole (now_with f b gs)) x ⊎ ((y : Var) × Equal (whole (now_with f b gs)) (variable x) (variable y) × (Equal (whole f) (variable x) (variable y) → ⊥))) → ⊥
      on (inl i) = n.unstructured (subst (λ (E : Equations). IsStructured E x) r i)
      on (inr (y, e, m)) = m (subst (λ (E : Equations). Equal E (variable x) (variable y)) r e)

  binds : (x : Var) → IsAmong x list → Binds c d f.content.name x
  binds x m = record {
    adds = record { before = f; afterwards = now_with f b gs; was = was; is = is; more = more_equations x (h.each x m) };
    consistent = h.consistent x m;
    newly_bound = h.each x m;
  }

  bound : (x : Var) → Binds c d f.content.name x → (y : Var) × IsAmong y list × Equal (outermost_equations f) (variable x) (variable y)
  bound x k =
      let before : k.adds.before ≡ f = some_value (sym k.adds.was ∙ was) in
      let afterwards : k.adds.afterwards ≡ now_with f b gs = some_value (sym k.adds.is ∙ is) in
      h.every (subst (λ (u : Found). IsConsistent (whole u)) afterwards k.consistent) x
      (subst (λ (u : Found). IsNewlyBound (whole f) (whole u) x) afterwards (subst (λ (u : Found). IsNewlyBound (whole u) (whole k.adds.afterwards) x) before k.newly_bound))

  pub box_bound : AreBoundIn c d f list
  box_bound = record { each = binds; every = bound; oldest = old }
