-- A box in which no rule may be used, and none afterwards: by cases over the rules.
use Rattle.std.proofs.Common.{◌≡◌, ℕ, ◌<◌, ◌^◌, List, [], ◌∷◌, ◌++◌, Option, Some, None, refl, sym, subst, ◌⊎◌, inl, inr}
use Rattle.std.specs.Prelude.{IsSomeAnd}
use Rattle.akl_terms.specs.declared.name.Name.{Name}
use Rattle.akl_terms.specs.declared.name.Place.{Place}
use Rattle.akl_terms.specs.declared.program.Program.{Program}
use Rattle.akl_terms.specs.Tree.{Tree}
use Rattle.akl_terms.specs.Equal.{Equations, IsTold, IsConsistent}
use Rattle.akl_terms.proofs.EqualLaws.{IsConsistent-follows}
use Rattle.akl_model.specs.declared.label.Rule.{Rule}
use Rattle.akl_model.specs.declared.label.Label.{Label}
use Rattle.akl_model.specs.Config.{Atom, Operator, Content, Boxes, no_boxes, box, Goals, Held, an_atom, a_choice, held_in, Found, whole}
use Rattle.akl_model.specs.Rules.{Reading, answer, receiver, Change, ChoiceIn, choice_with, change_by}
use Rattle.akl_model.specs.Conditions.{IsSolved, HasFailed, IsQuietBox, ComesTo, GoesTo, MayCut, GuardHolds, MayPromote, AreQuiet, MayCollect, Makes}
use Rattle.akl_model.specs.Stable.{IsStable, IsSplitPoint, Allows}
use Rattle.constraint_laws.proofs.Beside.{follows_told}
use Rattle.step_laws.specs.Whereabouts.{BoxIn, InGoals}
use Rattle.step_laws.proofs.GoalEdits.{held_inside}
use Rattle.plan_laws.proofs.AwaitedAtoms.{AwaitsNoneBound, comes_before, goes_before}
use Rattle.why_laws.specs.Sound.{IsIdle}
use Rattle.why_laws.proofs.Alternatives.{alternative_back, chosen_inside}
use Rattle.why_laws.proofs.OtherEquations.{change_other}
use Rattle.why_laws.proofs.StaysTouched.{none_kept}

-- an alternative is consistent, and was quiet where it is
pub record WasQuiet (f k : Found) (c : Content) (hs : Goals) : Type 0 where
  pub consistent : IsConsistent (whole (record { around = f.around ++ f.content ∷ []; content = c; goals = hs }))
  pub quiet : IsQuietBox (record { around = k.around ++ k.content ∷ []; content = c; goals = hs }) → IsQuietBox (record { around = f.around ++ f.content ∷ []; content = c; goals = hs })

module _ (p : Program) (old new : List Content) (b : Content) (gs : Goals) (F : Equations) where
  abbrev was : Found
  was = record { around = old; content = b; goals = gs }

  abbrev is : Found
  is = record { around = new; content = record b { equations = F }; goals = gs }

  -- what is to be known of the box
  pub record Quieter : Type 0 where
    pub idle : IsIdle p was
    pub keeps : (s t : Tree) → IsTold (whole was) s t → IsTold (whole is) s t
    pub consistent : IsConsistent (whole is)
    pub awaits : (g : Name) (a : Atom) → held_in g gs ≡ Some (an_atom a) → AwaitsNoneBound p a (whole was) (whole is)
    pub alternatives : (c : Content) (hs : Goals) → InGoals [] c hs gs → WasQuiet was is c hs
    pub stable : IsStable p is → IsStable p was

  module _ (h : Quieter) where
    before : IsConsistent (whole was)
    before = IsConsistent-follows (follows_told (whole was) (whole is) h.keeps) h.consistent

    comes : (v : Reading) (g : Name) (k : Option Held) → held_in g gs ≡ k → ComesTo p v is k → ComesTo p v was k
    comes (answer a) g (Some (an_atom (Atom.arithmetic test l r))) i x =
        (before, comes_before [] (whole was) (whole is) (none_kept (whole was) (whole is) h.keeps) h.consistent p (h.awaits g (Atom.arithmetic test l r) i) x.1)
    comes v g _ i x = absurd x

    goes : (v : Reading) (g : Name) (k : Option Held) → held_in g gs ≡ k → GoesTo v is k → GoesTo v was k
    goes (receiver q) g (Some (an_atom (Atom.send m r))) i x =
        (before, goes_before [] (whole was) (whole is) (none_kept (whole was) (whole is) h.keeps) h.consistent p m r q (h.awaits g (Atom.send m r) i) x.1)
    goes v g _ i x = absurd x

    guards : (o : Operator) (c : Content) (hs : Goals) → WasQuiet was is c hs → GuardHolds o (record { around = is.around ++ is.content ∷ []; content = c; goals = hs })
        → GuardHolds o (record { around = was.around ++ was.content ∷ []; content = c; goals = hs })
    guards Operator.nondeterminate c hs w x = w.consistent
    guards Operator.condition c hs w x = w.quiet x
    guards Operator.commit c hs w x = w.quiet x
    guards (Operator.collecting r) c hs w x = absurd x

    -- an alternative of a choice of the box
    held : (g : Name) (o : Operator) (bs : Boxes) → held_in g gs ≡ Some (a_choice o bs) → (c : Content) (hs : Goals) → BoxIn [] c hs bs → WasQuiet was is c hs
    held g o bs i c hs m = h.alternatives c hs (held_inside g o bs [] c hs gs i m)

    cuts : (g n : Name) (k : Option Held) → held_in g gs ≡ k → MayCut n is k → MayCut n was k
    cuts g n (Some (a_choice o bs)) i x = (
      alternative_back (λ (a : Found). IsSolved a.goals × IsQuietBox a) (λ (a : Found). IsSolved a.goals × IsQuietBox a) was is n bs (λ c hs m y. (y.0, (held g o bs i c hs m).quiet y.1)) x.0,
      x.1,
    )
    cuts g n _ i x = absurd x

    promotes : (g n : Name) (k : Option Held) → held_in g gs ≡ k → MayPromote n is k → MayPromote n was k
    promotes g n (Some (a_choice o bs)) i x = alternative_back (GuardHolds o) (GuardHolds o) was is n bs (λ c hs m y. guards o c hs (held g o bs i c hs m) y) x
    promotes g n _ i x = absurd x

    all_quiet : (bs : Boxes) → ((c : Content) (hs : Goals) → BoxIn [] c hs bs → WasQuiet was is c hs) → AreQuiet is bs → AreQuiet was bs
    all_quiet no_boxes w x = tt
    all_quiet (box c hs bs) w x = ((w c hs (inl (refl, refl, refl))).quiet x.0, all_quiet bs (λ d is m. w d is (inr (inr m))) x.1)

    collects : (g : Name) (k : Option Held) → held_in g gs ≡ k → MayCollect is k → MayCollect was k
    collects g (Some (a_choice (Operator.collecting r) bs)) i x = all_quiet bs (held g (Operator.collecting r) bs i) x
    collects g _ i x = absurd x

    fails : ((IsConsistent (whole is) → ⊥) ⊎ HasFailed gs) → (IsConsistent (whole was) → ⊥) ⊎ HasFailed gs
    fails (inl n) = absurd (n h.consistent)
    fails (inr x) = inr x

    points : (a : Name) (o : Option ChoiceIn) → choice_with a gs ≡ o → IsSomeAnd o (IsSplitPoint is a) → IsSomeAnd o (IsSplitPoint was a)
    points a None i x = x
    points a (Some k) i x = record {
      nondeterminate = x.nondeterminate;
      first = x.first;
      consistent = alternative_back (λ (m : Found). IsConsistent (whole m)) (λ (m : Found). IsConsistent (whole m)) was is a k.alternatives
          (λ c hs m y. (h.alternatives c hs (chosen_inside a gs k i c hs m)).consistent) x.consistent;
      others = x.others;
    }

    allowed : (v : Reading) (r : Rule) (place : Place) (alternative : Option Name) → Allows p v r place alternative is → Allows p v r place alternative was
    allowed v Rule.Tell place a x = tt
    allowed v Rule.Fork place a x = tt
    allowed v Rule.Open place a x = tt
    allowed v Rule.Eval (Place.Goal g) a x = comes v g (held_in g gs) refl x
    allowed v Rule.Send (Place.Goal g) a x = goes v g (held_in g gs) refl x
    allowed v Rule.Fail (Place.Box n) a x = fails x
    allowed v Rule.Cut (Place.Goal g) (Some n) x = cuts g n (held_in g gs) refl x
    allowed v Rule.Promote (Place.Goal g) (Some n) x = promotes g n (held_in g gs) refl x
    allowed v Rule.Collect (Place.Goal g) None x = collects g (held_in g gs) refl x
    allowed v Rule.Split (Place.Box n) (Some a) x = (h.stable x.0, points a (choice_with a gs) refl x.1)
    allowed v _ place a x = absurd x

    pub stays_idle : IsIdle p is
    stays_idle = record { none = none }
      where
        none : (l : Label) (next : ℕ) (c : Change) → Makes (Allows p) p next l is c → ⊥
        none l next c k =
            let w : (x : Change) × (change_by p k.reading l.worker next l.rule l.place l.alternative was ≡ Some x) × (x.drawn ≡ c.drawn) =
            change_other p old new b gs F k.reading l.worker next l.rule l.place l.alternative c k.change in
            h.idle.none l next w.0 (record {
              reading = k.reading;
              change = w.1;
              allowed = allowed k.reading l.rule l.place l.alternative k.allowed;
              few_names = subst (λ (m : ℕ). m < 2 ^ 32) (sym w.2) k.few_names;
            })
