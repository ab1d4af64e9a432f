-- At a root box and inside it no rule may be used once equations are told to it that leave what it watches.
use Rattle.std.proofs.Common.{◌≡◌, ◌≤◌, List, [], ◌∷◌, ◌++◌, Some, refl, sym, subst, inl, inr, arith, append-nil}
use Rattle.akl_terms.specs.declared.name.Name.{Name}
use Rattle.akl_terms.specs.declared.name.Var.{Var}
use Rattle.akl_terms.specs.declared.program.Program.{Program}
use Rattle.akl_terms.specs.declared.program.Query.{Query}
use Rattle.akl_terms.specs.Equal.{Equations, IsTold, same, IsConsistent}
use Rattle.akl_terms.specs.Touching.{IsLocal, IsOutside}
use Rattle.akl_terms.proofs.EqualLaws.{IsTold-left, IsTold-either}
use Rattle.akl_model.specs.declared.label.Rule.{Rule}
use Rattle.akl_model.specs.declared.label.Label.{Label}
use Rattle.akl_model.specs.Config.{IsIn, Atom, Content, Goals, Config, an_atom, held_in, Found, equations_of, box_at}
use Rattle.akl_model.specs.Stable.{EachBox, only, frames_of, TouchesFrom, by_waiting, IsStableIn, IsStable}
use Rattle.akl_model.specs.Derivations.{IsInForce, Replays, NothingApplies, IsQuietEnd}
use Rattle.akl_model.proofs.Finds.{times}
use Rattle.akl_model.proofs.QuietEnds.{quiet_ends}
use Rattle.akl_model.proofs.Scoped.{IsIn-left, IsIn-either}
use Rattle.akl_model.proofs.ScopesAlong.{only_once, local_in}
use Rattle.constraint_laws.specs.Growth.{IsOver, TellsOver}
use Rattle.constraint_laws.specs.Bound.{IsNewlyBound}
use Rattle.constraint_laws.specs.Inward.{Adding}
use Rattle.step_laws.specs.Whereabouts.{BoxIn, InGoals, Stands}
use Rattle.step_laws.proofs.Whereabouts.{found_in, in_found}
use Rattle.plan_laws.proofs.InScope.{Good, outside_environment, around_outside}
use Rattle.plan_laws.proofs.Replayed.{good_replay}
use Rattle.plan_laws.proofs.AwaitedAtoms.{AwaitsNoneBound}
use Rattle.plan_laws.proofs.Concerned.{touches_in_scope, inside_around}
use Rattle.why_laws.specs.Watched.{by_atom, by_choice}
use Rattle.why_laws.specs.Sound.{told_more, IsIdle, LeavesWatched}
use Rattle.why_laws.proofs.Alternatives.{each_alternative, IsAlternative, is_alternative}
use Rattle.why_laws.proofs.OneBox.{WasQuiet, stays_idle}
use Rattle.why_laws.proofs.IdleBoxes.{no_plain, is_idle, idle_consistent}
use Rattle.why_laws.proofs.GrownAround.{Unbinds, grown_first, was_quiet}
use Rattle.why_laws.proofs.Inside.{boxes_idle}
use Rattle.why_laws.proofs.OverMore.{over_more}
use Rattle.why_laws.proofs.BoxesInside.{each_where, some_where, stands_in}

module _ (rules : List Rule) (all : (r : Rule) → IsInForce rules r) (p : Program) (c : Config) (w : Good c) (quiet : NothingApplies rules p c) (n : Name) (b : Content) (gs : Goals)
    (there : box_at n c.roots ≡ Some (record { around = []; content = b; goals = gs })) (E : Equations) (h : LeavesWatched p (record { around = []; content = b; goals = gs }) E) where
  abbrev f : Found
  f = record { around = []; content = b; goals = gs }

  stands : Stands f c.roots
  stands = found_in n c.roots f there

  -- the content of the box afterwards
  abbrev told : Content
  told = record b { equations = b.equations ++ E }

  -- a variable in scope is of a frame of the box
  own_frame : (x : Var) → IsIn x.frame (b.frames ++ []) → IsIn x.frame b.frames
  own_frame x i = elim (IsIn-either x.frame b.frames [] i) [ inl y ↦ y | inr y ↦ absurd y ]

  awaits : (g : Name) (a : Atom) → held_in g gs ≡ Some (an_atom a) → AwaitsNoneBound p a b.equations (b.equations ++ E)
  awaits g a i x k m = h.unbound g x (by_atom x i k same (own_frame x (touches_in_scope c w n f there p x [] b.equations
      (by_waiting (record { outside = λ l. l; unstructured = m.unstructured }) (record { goal = g; atom = a; is_goal = i; on = x; waits = k; equal = same }))))) m

  -- around an alternative
  abbrev first : Equations
  first = equations_of (b ∷ [])

  abbrev new : Equations
  new = equations_of (told ∷ [])

  first_is : first ≡ b.equations
  first_is = append-nil b.equations

  new_is : new ≡ b.equations ++ E
  new_is = append-nil (b.equations ++ E)

  adding : Adding first new
  adding = record {
    keeps = λ s t m. subst (λ (A : Equations). IsTold A s t) (sym new_is) (IsTold-left b.equations E s t (subst (λ (A : Equations). IsTold A s t) first_is m));
    consistent = subst IsConsistent (sym new_is) h.consistent;
  }

  bound_is : (x : Var) → IsNewlyBound first new x → IsNewlyBound b.equations (b.equations ++ E) x
  bound_is x m = subst (λ (A : Equations). IsNewlyBound A (b.equations ++ E) x) first_is (subst (λ (A : Equations). IsNewlyBound first A x) new_is m)

  module _ (k : Content) (hs : Goals) (among : InGoals [] k hs gs) where
    abbrev m : Found
    m = record { around = b ∷ []; content = k; goals = hs }

    m_stands : Stands m c.roots
    m_stands = stands_in f c.roots stands (b ∷ []) k hs (inr (inl ([], refl, among)))

    m_there : box_at k.name c.roots ≡ Some m
    m_there = in_found c.roots m w.stand.once m_stands

    abbrev outer : List Name
    outer = frames_of (only m)

    outside : (x : Var) → IsLocal b.frames x → IsOutside outer x
    outside x l = around_outside c w k.name m m_there x (IsIn-left x.frame b.frames [] (local_in b.frames x l))

    over : TellsOver (IsOutside outer) new
    over = record {
      each = λ s t i. elim (IsTold-either b.equations E s t (subst (λ (A : Equations). IsTold A s t) new_is i)) [
        | inl y ↦ (outside_environment c w k.name m m_there).each s t (subst (λ (A : Equations). IsTold A s t) (sym first_is) y)
        | inr y ↦ let z : IsOver (IsLocal b.frames) s × IsOver (IsLocal b.frames) t = h.over.each s t y in (
          over_more (IsLocal b.frames) (IsOutside outer) outside s z.0,
          over_more (IsLocal b.frames) (IsOutside outer) outside t z.1,
        )
      ];
    }

    -- what it and the boxes inside it touch is watched
    watched : (r : List Content) (a : Content) (is : Goals) → BoxIn r a is (only m) → (x : Var) → TouchesFrom p outer first (record { around = m.around ++ r; content = a; goals = is }) x
        → IsNewlyBound first new x → ⊥
    watched r a is i x t z =
        let v : IsAlternative f k hs = is_alternative f (λ q. let u : times q (only f) ≤ 1 = only_once c.roots w.stand.once n f there q in omega arith) k hs among in
        h.unbound v.goal x (by_choice k.name v.held v.found (some_where (λ (d : Found). TouchesFrom p outer first d x) m.around (only m) r a is i t) (own_frame x (inside_around c w p x k.name m m_there r a is i t)))
        (bound_is x z)

    idle_at : (r : List Content) (a : Content) (is : Goals) → BoxIn r a is (only m) → IsIdle p (record { around = m.around ++ r; content = a; goals = is })
    idle_at r a is i = is_idle rules all p c w.stand quiet (record { around = m.around ++ r; content = a; goals = is }) (stands_in m c.roots m_stands r a is i)

    unbinds : EachBox (Unbinds p outer first new) (b ∷ []) (only m)
    unbinds = each_where (Unbinds p outer first new) (b ∷ []) (only m)
        (λ r a is i. record { consistent = idle_consistent p (record { around = m.around ++ r; content = a; goals = is }) (idle_at r a is i); none = watched r a is i })

    pub all_idle : EachBox (IsIdle p) (told ∷ []) (only m)
    all_idle = boxes_idle p outer first new over adding (b ∷ []) (told ∷ []) (only m) (grown_first (b ∷ []) (told ∷ []) adding) unbinds
        (each_where (IsIdle p) (b ∷ []) (only m) idle_at)

    pub quieter : WasQuiet f (told_more E f) k hs
    quieter = record {
      consistent = unbinds.0.consistent;
      quiet = was_quiet p outer first new over adding (b ∷ []) (told ∷ []) (grown_first (b ∷ []) (told ∷ []) adding) k hs unbinds.0;
    }

  -- it is stable, as nothing is outside of it
  stable : IsStable p f
  stable = record {
    each = each_where (IsStableIn p (frames_of (only f)) []) [] (only f) (λ r a is i. record {
      no_rule = no_plain p (record { around = r; content = a; goals = is }) (is_idle rules all p c w.stand quiet (record { around = r; content = a; goals = is }) (stands_in f c.roots stands r a is i));
      untouched = λ x t. inside_around c w p x n f there r a is i t;
    });
  }

  root_idle : EachBox (IsIdle p) [] (only (told_more E f))
  root_idle = (
    stays_idle p [] [] b gs (b.equations ++ E) (record {
      idle = is_idle rules all p c w.stand quiet f stands;
      keeps = λ s t i. IsTold-left b.equations E s t i;
      consistent = h.consistent;
      awaits = awaits;
      alternatives = quieter;
      stable = λ s. stable;
    }),
    each_alternative (IsIdle p) (told ∷ []) gs all_idle,
    tt,
  )

pub stays_idle_told : (rules : List Rule) → ((r : Rule) → IsInForce rules r) → (p : Program) (q : Query) (journal : List Label) (c : Config) → Replays rules p q journal c → IsQuietEnd rules p c
    → (n : Name) (f : Found) → box_at n c.roots ≡ Some f → f.around ≡ [] → (E : Equations) → LeavesWatched p f E → EachBox (IsIdle p) [] (only (told_more E f))
stays_idle_told rules all p q journal c r end n f e root E h = root_idle rules all p c (good_replay rules p q journal c r) ((quiet_ends rules p q journal c r).1 end) n f.content f.goals
    (subst (λ (path : List Content). box_at n c.roots ≡ Some (record f { around = path })) root e) E
    (subst (λ (path : List Content). LeavesWatched p (record f { around = path }) E) root h)
