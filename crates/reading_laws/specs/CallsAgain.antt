-- A call at once leads on where its box has grown, and nothing was bound that it binds.
use Rattle.std.specs.Prelude.{◌≡◌, ℕ, ◌+◌, Bool, true, false, List, [], ◌∷◌, ◌++◌, length, Some, ◌↔◌, ⊤, slice_index}
use Rattle.akl_terms.specs.declared.name.Name.{Name}
use Rattle.akl_terms.specs.declared.name.Var.{Var}
use Rattle.akl_terms.specs.declared.program.Program.{Program}
use Rattle.akl_terms.specs.Tree.{Tree}
use Rattle.akl_terms.specs.Equal.{Equations, IsTold, IsConsistent}
use Rattle.akl_terms.specs.Touching.{IsOutside}
use Rattle.constraint_laws.specs.Bound.{IsNewlyBound}
use Rattle.constraint_laws.specs.Growth.{TellsOver}
use Rattle.akl_model.specs.declared.label.Rule.{Rule}
use Rattle.akl_model.specs.declared.label.Label.{Label}
use Rattle.akl_model.specs.Config.{Atom, Content, Boxes, Goals, Config, held_in, Found, equations_of, whole, home_of}
use Rattle.akl_model.specs.Instances.{drawn_by}
use Rattle.akl_model.specs.Derivations.{Derives}
use Rattle.akl_model.specs.Rules.{telling, joining}
use Rattle.akl_model.specs.Names.{HasDistinctNames}
use Rattle.step_laws.specs.Stays.{HaveShape}
use Rattle.plan_laws.specs.AtOnce.{inner, Works, rests, works, Sifts, ends, fails, stays, Tells, finishes, leaves, tells, holds, IsAtOnce, labels_at_once, at_once, AreInForce}
use Rattle.plan_laws.specs.Wakes.{TellsNothing}

-- where a goal of the guard of an alternative is evaluated, the equations of this are consistent in the later box
abbrev pub EvaluatesIn : (p : Program) (w next : ℕ) (f k : Found) (b : Content) (gs : Goals) (ls : List Label) (b2 : Content) (gs2 : Goals) → Works p w next f b gs ls b2 gs2 → Type 0
EvaluatesIn p w next f k _ _ _ _ _ (rests b gs) = ⊤
EvaluatesIn p w next f k _ _ _ _ _ (works r i h b gs b1 gs1 ls b2 gs2 guard held makes name y) = (r ≡ Rule.Eval → IsConsistent (whole (inner k b gs))) × EvaluatesIn p w next f k b1 gs1 ls b2 gs2 y

abbrev pub AllEvaluateIn : (p : Program) (w next : ℕ) (f k : Found) (bs : Boxes) (ls : List Label) (cs : Boxes) → Sifts p w next f bs ls cs → Type 0
AllEvaluateIn p w next f k _ _ _ ends = ⊤
AllEvaluateIn p w next f k _ _ _ (fails b gs b2 gs2 ks bs ls cs work why y) = EvaluatesIn p w next f k b gs ks b2 gs2 work × AllEvaluateIn p w next f k bs ls cs y
AllEvaluateIn p w next f k _ _ _ (stays b gs b2 gs2 ks bs ls cs work y) = EvaluatesIn p w next f k b gs ks b2 gs2 work × AllEvaluateIn p w next f k bs ls cs y

-- of the goals of a body that go, in order, which tell an equation, and which go as a comparison holds
abbrev pub outcomes : (p : Program) (w next : ℕ) (around : List Content) (b : Content) (n : ℕ) (body : List Atom) (ls : List Label) (b2 : Content) (left : List (Name × Atom)) → Tells p w next around b n body ls b2 left → List Bool
outcomes p w next around _ _ _ _ _ _ (finishes b n) = []
outcomes p w next around _ _ _ _ _ _ (leaves b n a rest ls b2 left y) = outcomes p w next around b (n + 1) rest ls b2 left y
outcomes p w next around _ _ _ _ _ _ (tells r b n a s t rest ls b2 left guard makes y) = true ∷ outcomes p w next around (telling s t b) (n + 1) rest ls b2 left y
outcomes p w next around _ _ _ _ _ _ (holds r b n a rest ls b2 left guard makes y) = false ∷ outcomes p w next around b (n + 1) rest ls b2 left y

abbrev pub body_outcomes : {p : Program} {c : Config} {w : ℕ} {g : Name} {f : Found} → IsAtOnce p c w g f → List Bool
body_outcomes {p} {c} {w} {g} {f} x =
    outcomes p w (slice_index c.next w + drawn_by x.called.clauses + length x.last.body) f.around (joining x.last f.content) (slice_index c.next w + drawn_by x.called.clauses) x.last.body x.body_labels x.after x.goals_left x.body

-- what is found of the call's box later: the goal is unchanged, and the worker made no label; the equations down to the box have grown, are consistent, and outside of the
-- new frames; and of what the call binds nothing was bound
pub record MeetsLater {p : Program} {c : Config} {w : ℕ} {g : Name} {f : Found} (x : IsAtOnce p c w g f) (d : Config) (k : Found) : Type 0 where
  pub distinct : HasDistinctNames d
  pub next : slice_index d.next w ≡ slice_index c.next w
  pub is_home : home_of g d.roots ≡ Some k
  pub goal : HaveShape (held_in g f.goals) (held_in g k.goals)
  pub keeps : (s t : Tree) → IsTold (whole f) s t → IsTold (whole k) s t
  pub consistent : IsConsistent (whole k)
  pub outside : TellsOver (IsOutside x.last.frames) (whole k)
  pub unbound : (v : Var) → IsNewlyBound (whole f) (equations_of f.around ++ x.after.equations) v → IsNewlyBound (whole f) (whole k) v → ⊥
  pub evaluates : AllEvaluateIn p w (slice_index c.next w + drawn_by x.called.clauses) f k _ _ _ x.sifts

-- then the same labels lead on, the same equations are added to the box, which bind what they bound, and the same goals are left. Its guards tell nothing where they told nothing
pub record IsAtOnceLater {p : Program} {c : Config} {w : ℕ} {g : Name} {f : Found} (rules : List Rule) (x : IsAtOnce p c w g f) (d : Config) (k : Found) : Type 0 where
  pub is_home : home_of g d.roots ≡ Some k
  pub again : IsAtOnce p d w g k
  pub same_labels : labels_at_once again ≡ labels_at_once x
  pub same_names : drawn_by again.called.clauses ≡ drawn_by x.called.clauses
  pub same_last : again.last ≡ x.last
  pub same_left : again.goals_left ≡ x.goals_left
  pub same_body : again.body_labels ≡ x.body_labels
  pub same_outcomes : body_outcomes again ≡ body_outcomes x
  pub silent : TellsNothing x → TellsNothing again
  pub added : Equations
  pub was_added : x.after.equations ≡ f.content.equations ++ added
  pub is_added : again.after.equations ≡ k.content.equations ++ added
  pub binds : (v : Var) → IsNewlyBound (whole f) (whole f ++ added) v ↔ IsNewlyBound (whole k) (whole k ++ added) v
  pub derives : Derives rules p d (labels_at_once x) (at_once again)

abbrev pub CallsAgainLaw : Type 0
CallsAgainLaw = (rules : List Rule) → AreInForce rules → (p : Program) (c : Config) (w : ℕ) (g : Name) (f : Found) (x : IsAtOnce p c w g f) (d : Config) (k : Found) → MeetsLater x d k → IsAtOnceLater rules x d k
