-- Whether a call at once binds a variable that is external to its box is seen by the listed ones.
use Rattle.std.proofs.Common.{◌≡◌, ℕ, ◌+◌, List, [], ◌∷◌, ◌++◌, length, Some, refl, sym, ◌∙◌, subst, inl, inr, append_assoc}
use Rattle.std.specs.Prelude.{slice_index}
use Rattle.akl_terms.specs.declared.name.Name.{Name}
use Rattle.akl_terms.specs.declared.name.Var.{Var}
use Rattle.akl_terms.specs.declared.program.Program.{Program}
use Rattle.akl_terms.specs.declared.program.Query.{Query}
use Rattle.akl_terms.specs.Equal.{Equations, Equal}
use Rattle.akl_terms.specs.Touching.{IsOutside}
use Rattle.akl_terms.specs.Tree.{variable}
use Rattle.constraint_laws.specs.Touched.{IsAmong}
use Rattle.akl_model.specs.declared.label.Rule.{Rule}
use Rattle.akl_model.specs.declared.label.Label.{Label}
use Rattle.akl_model.specs.Config.{IsIn, with_names, Content, Config, Found, whole, home_of}
use Rattle.akl_model.specs.Instances.{start, drawn_by}
use Rattle.akl_model.specs.Rules.{joining}
use Rattle.akl_model.specs.Derivations.{Replays}
use Rattle.akl_model.specs.Changes.{Binds}
use Rattle.akl_model.specs.Scopes.{nowhere}
use Rattle.akl_model.specs.Stable.{only, frames_of}
use Rattle.akl_model.proofs.NamesKept.{Stand, replay-stands}
use Rattle.akl_model.proofs.Options.{some_value}
use Rattle.akl_model.proofs.Results.{Derives-append}
use Rattle.akl_model.proofs.Scoped.{IsIn-either}
use Rattle.akl_model.proofs.ScopesAlong.{scope_along}
use Rattle.plan_laws.proofs.InScope.{Good, bound_scoped, around_outside, own_inside}
use Rattle.plan_laws.proofs.Replayed.{good_replay}
use Rattle.step_laws.specs.Bound.{outermost_equations, AreBoundIn}
use Rattle.plan_laws.specs.AtOnce.{IsAtOnce, labels_at_once, at_once, AreInForce}
use Rattle.plan_laws.proofs.Between.{distinct_of}
use Rattle.plan_laws.proofs.BodySteps.{ToldMore, told_more}
use Rattle.plan_laws.proofs.Calls.{at_once_law}
use Rattle.binding_laws.specs.Bindings.{BindsOutside, HasOuter}
use Rattle.binding_laws.proofs.CallBindsAgain.{box_after, was_there, is_there}
use Rattle.binding_laws.proofs.EqualOutside.{equal_outside}
use Rattle.binding_laws.proofs.ListedOutside.{first_of}

module _ (rules : List Rule) (force : AreInForce rules) (p : Program) (q : Query) (journal : List Label) (c : Config) (r : Replays rules p q journal c) (w : ℕ) (g : Name) (f : Found) (is_home : home_of g c.roots ≡ Some f)
    (x : IsAtOnce p c w g f) where
  abbrev stands : Stand c
  stands = replay-stands rules p q journal c r

  after_replays : Replays rules p q (journal ++ labels_at_once x) (at_once x)
  after_replays = record { derives = Derives-append rules p (start p q) c (at_once x) journal (labels_at_once x) r.derives (at_once_law rules force p c (distinct_of c stands) w g f is_home x) }

  good : Good (at_once x)
  good = good_replay rules p q (journal ++ labels_at_once x) (at_once x) after_replays

  -- what is told to the box
  more : ToldMore p w (slice_index c.next w + drawn_by x.called.clauses + length x.last.body) f.around (joining x.last f.content) x.after
  more = told_more p w (slice_index c.next w + drawn_by x.called.clauses + length x.last.body) f.around (joining x.last f.content) (slice_index c.next w + drawn_by x.called.clauses) x.last.body x.body_labels x.after x.goals_left x.body

  grown : x.after.equations ≡ f.content.equations ++ (x.last.equations ++ more.more)
  grown = more.equations ∙ append_assoc f.content.equations x.last.equations more.more

  module _ (list : List Var) (bound : AreBoundIn c (at_once x) f list) where
    now_there : (v : Var) (b : Binds c (at_once x) f.content.name v) → b.adds.afterwards ≡ box_after x
    now_there v b = some_value (sym b.adds.is ∙ is_there rules force p c (distinct_of c stands) w g f is_home x)

    was_box : (v : Var) (b : Binds c (at_once x) f.content.name v) → b.adds.before ≡ f
    was_box v b = some_value (sym b.adds.was ∙ was_there rules force p c (distinct_of c stands) w g f is_home x)

    outer : (v : Var) → IsOutside (frames_of (only (box_after x))) v → IsIn v.frame x.after.frames → ⊥
    outer v o i = own_inside (at_once x) good f.content.name (box_after x) (is_there rules force p c (distinct_of c stands) w g f is_home x) v i o

    external : (v : Var) (b : Binds c (at_once x) f.content.name v) → (IsIn v.frame x.after.frames → ⊥) → IsOutside (frames_of (only b.adds.afterwards)) v
    external v b o = elim (IsIn-either v.frame b.adds.afterwards.content.frames (scope_along nowhere b.adds.afterwards.around).frames
        (bound_scoped (at_once x) good f.content.name b.adds.afterwards b.adds.is (whole b.adds.before) v b.newly_bound)) [
          | inl i ↦ absurd (o (subst (λ (e : Found). IsIn v.frame e.content.frames) (now_there v b) i))
          | inr i ↦ around_outside (at_once x) good f.content.name b.adds.afterwards b.adds.is v i
        ]

    has_outer : BindsOutside c (at_once x) f.content.name → HasOuter list x.after.frames
    has_outer y =
        let u : (u : Var) × IsAmong u list × Equal (outermost_equations f) (variable y.variable) (variable u) = bound.every y.variable y.binds in
        let first : (outermost : Content) × (inner : List Content) × (f.around ++ f.content ∷ [] ≡ outermost ∷ inner) × (outermost_equations f ≡ outermost.equations) = first_of f.around f.content in
        let alike : IsOutside (frames_of (only (box_after x))) u.0 =
        equal_outside (at_once x) good f.content.name f (box_after x) (is_there rules force p c (distinct_of c stands) w g f is_home x) refl (x.last.equations ++ more.more) grown first.0 first.1 first.2 y.variable u.0
        (subst (λ (E : Equations). Equal E (variable y.variable) (variable u.0)) first.3 u.2) (subst (λ (e : Found). IsOutside (frames_of (only e)) y.variable) (now_there y.variable y.binds) y.outside) in
        record { variable = u.0; listed = u.1; outer = outer u.0 alike }

    binds_outside : HasOuter list x.after.frames → BindsOutside c (at_once x) f.content.name
    binds_outside y = record { variable = y.variable; binds = bound.each y.variable y.listed; outside = external y.variable (bound.each y.variable y.listed) y.outer }

    pub call_outside : (frames : List Name) → frames ≡ with_names x.last.frames f.content.frames → (BindsOutside c (at_once x) f.content.name → HasOuter list frames) × (HasOuter list frames → BindsOutside c (at_once x) f.content.name)
    call_outside frames same = (λ y. subst (HasOuter list) (more.frames ∙ sym same) (has_outer y), λ y. binds_outside (subst (HasOuter list) (same ∙ sym more.frames) y))

pub call_outside_law : (rules : List Rule) → AreInForce rules → (p : Program) (q : Query) (journal : List Label) (c : Config) → Replays rules p q journal c → (w : ℕ) (g : Name) (f : Found) → home_of g c.roots ≡ Some f
    → (x : IsAtOnce p c w g f) → (list : List Var) → AreBoundIn c (at_once x) f list → (frames : List Name) → frames ≡ with_names x.last.frames f.content.frames
    → (BindsOutside c (at_once x) f.content.name → HasOuter list frames) × (HasOuter list frames → BindsOutside c (at_once x) f.content.name)
call_outside_law rules force p q journal c r w g f is_home x list bound frames same = call_outside rules force p q journal c r w g f is_home x list bound frames same
