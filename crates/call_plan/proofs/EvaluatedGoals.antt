-- Goals of an alternative that are comparisons are evaluated one after another, and its equations stay.
use Rattle.std.proofs.Common.{◌≡◌, ℕ, ◌+◌, List, [], ◌∷◌, Bool, true, false, Some, None, refl, sym, ◌∙◌, ap, subst, inl, arith}
use Rattle.std.specs.Prelude.{if◌then◌else◌}
use Rattle.akl_terms.specs.declared.name.Name.{Name}
use Rattle.akl_terms.specs.declared.program.Code.{Code}
use Rattle.akl_terms.specs.declared.program.Program.{Program}
use Rattle.akl_terms.specs.Arithmetic.{truth}
use Rattle.akl_terms.specs.Equal.{IsTold, IsConsistent}
use Rattle.akl_terms.specs.Standing.{StandFor}
use Rattle.akl_terms.proofs.SameNames.{same_name-refl}
use Rattle.akl_terms.proofs.StandingLaws.{StandFor-on}
use Rattle.constraint_laws.specs.Standing.{StandsForConsistent}
use Rattle.constraint_laws.proofs.Stands.{answer_stands}
use Rattle.akl_model.specs.declared.label.Rule.{Rule}
use Rattle.akl_model.specs.declared.label.Label.{Label}
use Rattle.akl_model.specs.Config.{Atom, Content, box, no_boxes, Goals, no_goals, atom, goal, an_atom, held_in, with_content, without_goal, Found, whole}
use Rattle.akl_model.specs.Instances.{atom_of, atoms_of, with_atoms}
use Rattle.akl_model.specs.Rules.{answer, becomes, eval}
use Rattle.akl_model.specs.Conditions.{HasFailed, IsQuietBox, Makes, ComesTo}
use Rattle.akl_model.specs.Stable.{Allows}
use Rattle.rational_unify.specs.Solving.{bindings_in}
use Rattle.local_store.specs.Stored.{Stored}
use Rattle.local_store.specs.Chained.{bindings_from}
use Rattle.table_laws.specs.Rows.{told_in}
use Rattle.table_laws.proofs.StoreChains.{told_stands}
use Rattle.rule_plan.proofs.NewBoxes.{atoms_behind}
use Rattle.plan_laws.specs.AtOnce.{inner, Works, rests, works}
use Rattle.plan_laws.specs.Untold.{KeepsEquations}
use Rattle.reading_laws.specs.QuietGuards.{IsQuietWhere}
use Rattle.call_plan.specs.Sifted.{evaluation, Comes, Evaluated, all_hold, one_fails, one_holds}

-- where no goals are left nothing is evaluated
pub quiet_without : (p : Program) (w next : ℕ) (f : Found) (b : Content) (gs : Goals) (ls : List Label) (b2 : Content) (gs2 : Goals) (x : Works p w next f b gs ls b2 gs2) → gs ≡ no_goals → IsQuietWhere p w next f b gs ls b2 gs2 x
quiet_without p w next f _ _ _ _ _ (rests b gs) e = tt
quiet_without p w next f _ _ _ _ _ (works r i h b gs b1 gs1 ls b2 gs2 guard held makes name y) e = let z : None ≡ Some h = sym (ap (held_in i) e) ∙ held in absurd cc

-- goals of a box are reduced to others, and none tells an equation; where the box is quiet it is so wherever one is evaluated
abbrev pub Reduces : (p : Program) (w next : ℕ) (f : Found) (b : Content) → Goals → List Label → Goals → Type 0
Reduces p w next f b gs ls hs = (x : Works p w next f b gs ls b hs) × KeepsEquations p w next f b gs ls b hs x × (IsQuietBox (inner f b no_goals) → IsQuietWhere p w next f b gs ls b hs x)

pub rest_so : (p : Program) (w next : ℕ) (f : Found) (b : Content) (gs : Goals) → Reduces p w next f b gs [] gs
rest_so p w next f b gs = (rests b gs, tt, λ q. tt)

module _ (p : Program) (next : ℕ) (f : Found) (b : Content) (ss : List Stored) (frame : Name) (stands : StandFor (IsTold (told_in p.templates.nodes ss)) (IsTold (whole (inner f b no_goals))))
    (consistent : IsConsistent (whole (inner f b no_goals))) where
  abbrev goal_at : ℕ → Name
  goal_at n = record { worker = frame.worker; number = n }

  abbrev atom_at : Code → Atom
  atom_at c = atom_of p.templates.nodes frame c

  abbrev goals_at : ℕ → List Code → Goals
  goals_at n cs = with_atoms frame.worker n (atoms_of p.templates.nodes frame cs) no_goals

  first_goal : (n : ℕ) (c : Code) (cs : List Code) → goals_at n (c ∷ cs) ≡ atom (goal_at n) (atom_at c) (goals_at (n + 1) cs)
  first_goal n c cs = atoms_behind frame.worker n (n + 1) (atom_at c) (atoms_of p.templates.nodes frame cs) no_goals (omega arith)

  all_stand : StandFor (IsTold (bindings_in p.templates.nodes (bindings_from ss))) (IsTold (whole (inner f b no_goals)))
  all_stand = StandFor-on (told_stands p.templates.nodes ss) stands

  by_stores : StandsForConsistent (bindings_in p.templates.nodes (bindings_from ss)) (whole (inner f b no_goals))
  by_stores = record { stands = all_stand; consistent = all_stand.back consistent }

  -- a comparison that holds goes, and one that doesn't becomes `fail`
  abbrev after : Bool → ℕ → Goals → Goals
  after true n gs = gs
  after false n gs = atom (goal_at n) Atom.fail gs

  held : (n : ℕ) (a : Atom) (gs : Goals) → held_in (goal_at n) (atom (goal_at n) a gs) ≡ Some (an_atom a)
  held n a gs = ap (λ (t : Bool). if t then Some (an_atom a) else held_in (goal_at n) gs) (same_name-refl (goal_at n))

  gone : (n : ℕ) (a : Atom) (gs : Goals) → without_goal (goal_at n) (atom (goal_at n) a gs) ≡ gs
  gone n a gs = ap (λ (t : Bool). if t then gs else atom (goal_at n) a (without_goal (goal_at n) gs)) (same_name-refl (goal_at n))

  failed : (n : ℕ) (a : Atom) (gs : Goals) → with_content (goal_at n) (an_atom Atom.fail) (atom (goal_at n) a gs) ≡ atom (goal_at n) Atom.fail gs
  failed n a gs = ap (λ (t : Bool). if t then goal (goal_at n) (an_atom Atom.fail) gs else atom (goal_at n) a (with_content (goal_at n) (an_atom Atom.fail) gs)) (same_name-refl (goal_at n))

  makes : (n : ℕ) (c : Code) (gs : Goals) (h : Bool) → Comes p.templates.symbols p.templates.nodes ss frame h c
      → Makes (Allows p) p next (evaluation frame.worker n) (inner f b (atom (goal_at n) (atom_at c) gs)) (record { boxes = box b (after h n gs) no_boxes; drawn = 0 })
  makes n (Code.Arith test l r) gs true e = record {
    reading = answer (truth true);
    change = ap (eval (answer (truth true)) (goal_at n) (inner f b (atom (goal_at n) (atom_at (Code.Arith test l r)) gs))) (held n (atom_at (Code.Arith test l r)) gs)
        ∙ ap (λ (hs : Goals). Some (becomes b hs 0)) (gone n (atom_at (Code.Arith test l r)) gs);
    allowed = subst (ComesTo p (answer (truth true)) (inner f b (atom (goal_at n) (atom_at (Code.Arith test l r)) gs))) (sym (held n (atom_at (Code.Arith test l r)) gs))
        (consistent, answer_stands p.templates.symbols (bindings_in p.templates.nodes (bindings_from ss)) (whole (inner f b no_goals)) by_stores e);
    few_names = omega arith;
  }
  makes n (Code.Arith test l r) gs false e = record {
    reading = answer (truth false);
    change = ap (eval (answer (truth false)) (goal_at n) (inner f b (atom (goal_at n) (atom_at (Code.Arith test l r)) gs))) (held n (atom_at (Code.Arith test l r)) gs)
        ∙ ap (λ (hs : Goals). Some (becomes b hs 0)) (failed n (atom_at (Code.Arith test l r)) gs);
    allowed = subst (ComesTo p (answer (truth false)) (inner f b (atom (goal_at n) (atom_at (Code.Arith test l r)) gs))) (sym (held n (atom_at (Code.Arith test l r)) gs))
        (consistent, answer_stands p.templates.symbols (bindings_in p.templates.nodes (bindings_from ss)) (whole (inner f b no_goals)) by_stores e);
    few_names = omega arith;
  }
  makes n c gs h e = absurd e

  reduces_on : (n : ℕ) (c : Code) (cs : List Code) (h : Bool) (ls : List Label) (hs : Goals) → Comes p.templates.symbols p.templates.nodes ss frame h c
      → Reduces p frame.worker next f b (after h n (goals_at (n + 1) cs)) ls hs → Reduces p frame.worker next f b (goals_at n (c ∷ cs)) (evaluation frame.worker n ∷ ls) hs
  reduces_on n c cs h ls hs e x = subst (λ (gs : Goals). Reduces p frame.worker next f b gs (evaluation frame.worker n ∷ ls) hs) (sym (first_goal n c cs)) (
    works Rule.Eval (goal_at n) (an_atom (atom_at c)) b (atom (goal_at n) (atom_at c) (goals_at (n + 1) cs)) b (after h n (goals_at (n + 1) cs)) ls b hs tt
        (held n (atom_at c) (goals_at (n + 1) cs)) (makes n c (goals_at (n + 1) cs) h e) refl x.0,
    (refl, x.1),
    λ q. (λ e. q, x.2 q),
  )

  -- all goals go, or one of those that are left is `fail`
  abbrev pub Outcome : ℕ → List Code → List Label → Bool → Type 0
  Outcome n cs ls true = Reduces p frame.worker next f b (goals_at n cs) ls no_goals
  Outcome n cs ls false = (hs : Goals) × Reduces p frame.worker next f b (goals_at n cs) ls hs × HasFailed hs

  outcome_on : (n : ℕ) (c : Code) (cs : List Code) (ls : List Label) (h : Bool) → Comes p.templates.symbols p.templates.nodes ss frame true c → Outcome (n + 1) cs ls h → Outcome n (c ∷ cs) (evaluation frame.worker n ∷ ls) h
  outcome_on n c cs ls true e x = reduces_on n c cs true ls no_goals e x
  outcome_on n c cs ls false e x = (x.0, reduces_on n c cs true ls x.0 e x.1, x.2)

  pub outcome : (n : ℕ) (cs : List Code) (ls : List Label) (h : Bool) → Evaluated p.templates.symbols p.templates.nodes ss frame n cs ls h → Outcome n cs ls h
  outcome _ _ _ _ (all_hold n) = rest_so p frame.worker next f b no_goals
  outcome _ _ _ _ (one_fails n c cs e) =
      (atom (goal_at n) Atom.fail (goals_at (n + 1) cs), reduces_on n c cs false [] (atom (goal_at n) Atom.fail (goals_at (n + 1) cs)) e (rest_so p frame.worker next f b (atom (goal_at n) Atom.fail (goals_at (n + 1) cs))), inl tt)
  outcome _ _ _ _ (one_holds n c cs ls h e x) = outcome_on n c cs ls h e (outcome (n + 1) cs ls h x)
