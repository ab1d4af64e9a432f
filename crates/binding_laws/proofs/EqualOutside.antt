-- What is equal to a variable external to a box, by the equations of the outermost box, is external too, where equations are added to the box.
use Rattle.std.proofs.Common.{◌≡◌, List, [], ◌∷◌, ◌++◌, Some, refl, sym, ◌∙◌, subst, ◌⊎◌, inl, inr}
use Rattle.akl_terms.specs.declared.name.Name.{Name}
use Rattle.akl_terms.specs.declared.name.Var.{Var}
use Rattle.akl_terms.specs.Tree.{variable}
use Rattle.akl_terms.specs.Equal.{Equations, IsTold, Equal}
use Rattle.akl_terms.specs.Touching.{IsOutside}
use Rattle.akl_terms.proofs.EqualLaws.{IsTold-left, IsTold-right}
use Rattle.constraint_laws.specs.Growth.{TellsOver}
use Rattle.akl_model.specs.Config.{IsIn, Content, Config, Found, equations_of, environment, box_at}
use Rattle.akl_model.specs.Stable.{only, frames_of}
use Rattle.akl_model.specs.Scopes.{nowhere}
use Rattle.akl_model.proofs.Scoped.{IsIn-either}
use Rattle.akl_model.proofs.ScopesAlong.{scope_along}
use Rattle.plan_laws.proofs.InScope.{Good, InScope, whole_over, outside_environment, own_inside}
use Rattle.constraint_laws.proofs.Decided.{kept_by}
use Rattle.constraint_laws.proofs.Grown.{over_kept}

same_variable : {x y : Var} → variable x ≡ variable y → x ≡ y
same_variable e = cc

-- what is equal to a variable by equations over these variables is that variable, or both are of them
equal_over : (Outer : Var → Type 0) (E : Equations) → TellsOver Outer E → (x y : Var) → Equal E (variable x) (variable y) → (x ≡ y) ⊎ (Outer x × Outer y)
equal_over Outer E o x y e = elim (kept_by (over_kept Outer E o) e) [ inl q ↦ inl (same_variable q) | inr p ↦ inr p ]

module _ (d : Config) (v : Good d) (n : Name) (before after : Found) (is : box_at n d.roots ≡ Some after) (around : after.around ≡ before.around) (added : Equations) (grown : after.content.equations ≡ before.content.equations ++ added) where
  abbrev Outside : Var → Type 0
  Outside x = IsOutside (frames_of (only after)) x

  -- in a root box the equations are its own, and no variable in scope is external to it
  in_root : before.around ≡ [] → (x y : Var) → Equal before.content.equations (variable x) (variable y) → Outside x → Outside y
  in_root empty x y e o = elim (equal_over (InScope d v n after is) before.content.equations over x y e) [
    | inl q ↦ subst Outside q o
    | inr s ↦ absurd (none (IsIn-either x.frame after.content.frames (scope_along nowhere after.around).frames s.0))
  ]
    where
      over : TellsOver (InScope d v n after is) before.content.equations
      over = record {
        each = λ s t h. (whole_over d v n after is).each s t
            (IsTold-right (environment after) after.content.equations s t (subst (λ (E : Equations). IsTold E s t) (sym grown) (IsTold-left before.content.equations added s t h)));
      }

      none : IsIn x.frame after.content.frames ⊎ IsIn x.frame (scope_along nowhere after.around).frames → ⊥
      none (inl i) = own_inside d v n after is x i o
      none (inr i) = subst (λ (path : List Content). IsIn x.frame (scope_along nowhere path).frames) (around ∙ empty) i

  -- further in they stand around the box
  in_another : (b : Content) (rest : List Content) → before.around ≡ b ∷ rest → (x y : Var) → Equal b.equations (variable x) (variable y) → Outside x → Outside y
  in_another b rest path x y e o = elim (equal_over Outside b.equations over x y e) [ inl q ↦ subst Outside q o | inr s ↦ s.1 ]
    where
      over : TellsOver Outside b.equations
      over = record {
        each = λ s t h. (outside_environment d v n after is).each s t (subst (λ (boxes : List Content). IsTold (equations_of boxes) s t) (sym (around ∙ path)) (IsTold-left b.equations (equations_of rest) s t h));
      }

  equal_at : (boxes : List Content) → before.around ≡ boxes → (outermost : Content) (inner : List Content) → boxes ++ before.content ∷ [] ≡ outermost ∷ inner → (x y : Var) → Equal outermost.equations (variable x) (variable y) → Outside x → Outside y
  equal_at [] path outermost inner q x y e =
      let r : outermost ≡ before.content = cc in
      in_root path x y (subst (λ (b : Content). Equal b.equations (variable x) (variable y)) r e)
  equal_at (b ∷ rest) path outermost inner q x y e =
      let r : outermost ≡ b = cc in
      in_another b rest path x y (subst (λ (k : Content). Equal k.equations (variable x) (variable y)) r e)

  pub equal_outside : (outermost : Content) (inner : List Content) → before.around ++ before.content ∷ [] ≡ outermost ∷ inner → (x y : Var) → Equal outermost.equations (variable x) (variable y) → IsOutside (frames_of (only after)) x
      → IsOutside (frames_of (only after)) y
  equal_outside outermost inner q = equal_at before.around refl outermost inner q
