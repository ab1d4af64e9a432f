-- A variable that a label binds is external to the box in which it is bound, or of one of this box's own frames.
use Rattle.std.proofs.Common.{◌≡◌, List, [], ◌∷◌, ◌++◌, refl, sym, ◌∙◌, ap, subst, ◌⊎◌, inl, inr}
use Rattle.std.specs.Prelude.{slice_index}
use Rattle.akl_terms.specs.declared.name.Name.{Name}
use Rattle.akl_terms.specs.declared.name.Var.{Var}
use Rattle.akl_terms.specs.declared.program.Program.{Program}
use Rattle.akl_terms.specs.declared.program.Query.{Query}
use Rattle.akl_terms.specs.Tree.{variable}
use Rattle.akl_terms.specs.Equal.{Equations, IsTold, Equal}
use Rattle.akl_terms.specs.Touching.{IsOutside}
use Rattle.akl_terms.proofs.EqualLaws.{IsTold-left, IsTold-right}
use Rattle.constraint_laws.specs.Growth.{TellsOver}
use Rattle.constraint_laws.proofs.Decided.{kept_by}
use Rattle.constraint_laws.proofs.Grown.{over_kept}
use Rattle.akl_model.specs.declared.label.Rule.{Rule}
use Rattle.akl_model.specs.declared.label.Label.{Label}
use Rattle.akl_model.specs.Config.{IsIn, Content, Config, Found, equations_of, environment, whole}
use Rattle.akl_model.specs.Derivations.{Applies, Replays}
use Rattle.akl_model.specs.Changes.{Adds, Binds}
use Rattle.akl_model.specs.Stable.{only, frames_of}
use Rattle.akl_model.specs.Scopes.{nowhere}
use Rattle.akl_model.proofs.Scoped.{IsIn-either}
use Rattle.akl_model.proofs.ScopesAlong.{scope_along}
use Rattle.step_laws.proofs.Becomes.{Becomes}
use Rattle.step_laws.proofs.Steps.{site_now}
use Rattle.step_laws.proofs.Added.{added_at}
use Rattle.plan_laws.proofs.InScope.{Good, InScope, whole_over, outside_environment, bound_scoped, around_outside, own_inside}
use Rattle.plan_laws.proofs.Replayed.{good_replay, replay_further}

pub bound_outside : (rules : List Rule) (p : Program) (q : Query) (journal : List Label) (c : Config) (l : Label) (d : Config) (n : Name) (x : Var) → Replays rules p q journal c → Applies rules p c l d
    → (b : Binds c d n x) → (IsOutside (frames_of (only b.adds.afterwards)) x → IsIn x.frame b.adds.afterwards.content.frames → ⊥)
    × ((IsIn x.frame b.adds.afterwards.content.frames → ⊥) → IsOutside (frames_of (only b.adds.afterwards)) x)
bound_outside rules p q journal c l d n x r a b = (
  λ o i. own_inside d v n b.adds.afterwards b.adds.is x i o,
  λ o. elim (IsIn-either x.frame b.adds.afterwards.content.frames (scope_along nowhere b.adds.afterwards.around).frames (bound_scoped d v n b.adds.afterwards b.adds.is (whole b.adds.before) x b.newly_bound)) [
    | inl i ↦ absurd (o i)
    | inr i ↦ around_outside d v n b.adds.afterwards b.adds.is x i
  ],
)
  where
    v : Good d
    v = good_replay rules p q (journal ++ l ∷ []) d (replay_further rules p q journal c l d r a)

same_variable : {x y : Var} → variable x ≡ variable y → x ≡ y
same_variable e = cc

-- what is equal to a variable by equations over these variables is that variable, or both are of them
equal_over : (Outer : Var → Type 0) (E : Equations) → TellsOver Outer E → (x y : Var) → Equal E (variable x) (variable y) → (x ≡ y) ⊎ (Outer x × Outer y)
equal_over Outer E o x y e = elim (kept_by (over_kept Outer E o) e) [ inl q ↦ inl (same_variable q) | inr p ↦ inr p ]

module _ (rules : List Rule) (p : Program) (c : Config) (l : Label) (d : Config) (w : Good c) (v : Good d) (m : Applies rules p c l d) (n : Name) (a : Adds c d n) where
  at : (k : Becomes l.worker (slice_index c.next l.worker) m.site m.change) × (a.before ≡ m.site) × (a.afterwards ≡ site_now k)
  at = added_at rules p c l d w.stand m n a

  same_around : a.afterwards.around ≡ a.before.around
  same_around = ap (λ (f : Found). f.around) at.2 ∙ sym (ap (λ (f : Found). f.around) at.1)

  grown : a.afterwards.content.equations ≡ a.before.content.equations ++ at.0.added
  grown = ap (λ (f : Found). f.content.equations) at.2 ∙ at.0.keeps.equations ∙ sym (ap (λ (f : Found). f.content.equations ++ at.0.added) at.1)

  abbrev Outside : Var → Type 0
  Outside x = IsOutside (frames_of (only a.afterwards)) x

  -- in a root box the equations are its own, and no variable in scope is external to it
  in_root : a.before.around ≡ [] → (x y : Var) → Equal a.before.content.equations (variable x) (variable y) → Outside x → Outside y
  in_root empty x y e o = elim (equal_over (InScope d v n a.afterwards a.is) a.before.content.equations over x y e) [
    | inl q ↦ subst Outside q o
    | inr s ↦ absurd (none (IsIn-either x.frame a.afterwards.content.frames (scope_along nowhere a.afterwards.around).frames s.0))
  ]
    where
      over : TellsOver (InScope d v n a.afterwards a.is) a.before.content.equations
      over = record {
        each = λ s t h. (whole_over d v n a.afterwards a.is).each s t
            (IsTold-right (environment a.afterwards) a.afterwards.content.equations s t (subst (λ (E : Equations). IsTold E s t) (sym grown) (IsTold-left a.before.content.equations at.0.added s t h)));
      }

      none : IsIn x.frame a.afterwards.content.frames ⊎ IsIn x.frame (scope_along nowhere a.afterwards.around).frames → ⊥
      none (inl i) = own_inside d v n a.afterwards a.is x i o
      none (inr i) = subst (λ (path : List Content). IsIn x.frame (scope_along nowhere path).frames) (same_around ∙ empty) i

  -- further in they stand around the box
  in_another : (b : Content) (rest : List Content) → a.before.around ≡ b ∷ rest → (x y : Var) → Equal b.equations (variable x) (variable y) → Outside x → Outside y
  in_another b rest path x y e o = elim (equal_over Outside b.equations over x y e) [ inl q ↦ subst Outside q o | inr s ↦ s.1 ]
    where
      over : TellsOver Outside b.equations
      over = record {
        each = λ s t h. (outside_environment d v n a.afterwards a.is).each s t
            (subst (λ (boxes : List Content). IsTold (equations_of boxes) s t) (sym (same_around ∙ path)) (IsTold-left b.equations (equations_of rest) s t h));
      }

  pub equal_outside_at : (boxes : List Content) → a.before.around ≡ boxes → (outermost : Content) (inner : List Content) → boxes ++ a.before.content ∷ [] ≡ outermost ∷ inner
      → (x y : Var) → Equal outermost.equations (variable x) (variable y) → Outside x → Outside y
  equal_outside_at [] path outermost inner q x y e =
      let r : outermost ≡ a.before.content = cc in
      in_root path x y (subst (λ (b : Content). Equal b.equations (variable x) (variable y)) r e)
  equal_outside_at (b ∷ rest) path outermost inner q x y e =
      let r : outermost ≡ b = cc in
      in_another b rest path x y (subst (λ (k : Content). Equal k.equations (variable x) (variable y)) r e)

pub equal_outside : (rules : List Rule) (p : Program) (q : Query) (journal : List Label) (c : Config) (l : Label) (d : Config) (n : Name) → Replays rules p q journal c → Applies rules p c l d
    → (a : Adds c d n) (outermost : Content) (inner : List Content) → a.before.around ++ a.before.content ∷ [] ≡ outermost ∷ inner
    → (x y : Var) → Equal outermost.equations (variable x) (variable y) → IsOutside (frames_of (only a.afterwards)) x → IsOutside (frames_of (only a.afterwards)) y
equal_outside rules p q journal c l d n r m a outermost inner first =
    equal_outside_at rules p c l d (good_replay rules p q journal c r) (good_replay rules p q (journal ++ l ∷ []) d (replay_further rules p q journal c l d r m)) m n a a.before.around refl outermost inner first
