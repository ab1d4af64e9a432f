-- A plan of Eval is right.
use Rattle.std.proofs.Common.{◌≡◌, ℕ, ℤ, List, [], ◌∷◌, ◌++◌, true, false, Option, Some, None, refl, sym, ◌∙◌, ap, subst, arith}
use Rattle.std.specs.Prelude.{slice_index}
use Rattle.akl_terms.specs.declared.name.Name.{Name}
use Rattle.akl_terms.specs.declared.name.Place.{Place}
use Rattle.akl_terms.specs.declared.term.Term.{Term}
use Rattle.akl_terms.specs.declared.term.Term.TheVariants.{Mol}
use Rattle.akl_terms.specs.declared.term.Equation as code
use Rattle.akl_terms.specs.declared.program.Code.{Code}
use Rattle.akl_terms.specs.declared.program.Test.{Test}
use Rattle.akl_terms.specs.Arithmetic.{Answer, value, truth, Evaluates, GoalWaitsOn, gives, compared, right_of_is, left_side, right_side}
use Rattle.akl_terms.specs.Equal.{Equations, IsTold, IsConsistent, IsConsistentBy, same}
use Rattle.akl_terms.specs.Standing.{StandFor}
use Rattle.akl_terms.specs.Tree.{Tree, integer}
use Rattle.akl_terms.specs.declared.name.Var.{Var}
use Rattle.akl_terms.proofs.StandingLaws.{StandFor-back, StandFor-on}
use Rattle.constraint_laws.specs.Standing.{StandsForConsistent}
use Rattle.constraint_laws.proofs.Stands.{answer_stands, goal_wait_stands}
use Rattle.constraint_laws.proofs.WaitsOne.{value_waits}
use Rattle.akl_model.specs.declared.label.Rule.{Rule}
use Rattle.akl_model.specs.Config.{Atom, an_atom, held_in, with_content, without_goal, whole}
use Rattle.akl_model.specs.Instances.{term_at}
use Rattle.akl_model.specs.Rules.{answer, Change, becomes, telling, eval, change_by}
use Rattle.akl_model.specs.Conditions as conditions
use Rattle.akl_model.specs.Conditions.{ComesTo}
use Rattle.akl_model.specs.Stable.{Allows}
use Rattle.rational_unify.specs.Solving.{bindings_in}
use Rattle.local_store.specs.declared.part.Part.{Part}
use Rattle.local_store.specs.Parts.{ToldStore, with_part, told_over}
use Rattle.local_store.specs.Stored.{all_named}
use Rattle.local_store.specs.Chained.{bindings_from, ToldBy, innermost}
use Rattle.local_store.specs.Telling.{AnswersTold}
use Rattle.arith_goals.specs.Answers as arithmetic
use Rattle.class_members.specs.Members.{AreMembers}
use Rattle.box_tree.specs.declared.step.Step.{Step}
use Rattle.box_tree.specs.declared.view.Sight.{Sight}
use Rattle.box_tree.specs.Views.{ViewValue, IsViewOf}
use Rattle.box_tree.specs.Plans.{PlanValue}
use Rattle.table_laws.specs.Parts.{tells_one}
use Rattle.rule_plan.specs.AtGoals.{label_at, IsRightAt, TellsRightly}
use Rattle.guard_plan.specs.declared.guards.Noise.{Noise}
use Rattle.guard_plan.specs.Noisy.{IsTriedBy}
use Rattle.guard_plan.specs.Planned.{HasNoRule, IsPlannedBy}
use Rattle.guard_plan.proofs.Sites.{whole_stands, shows_at}
use Rattle.table_laws.proofs.StoreChains.{told_stands}
use Rattle.rule_plan.proofs.InForce.{eval_in_force}
use Rattle.rule_plan.proofs.AtomNone.{atom_none}
use Rattle.rule_plan.proofs.Silent.{silent}
use Rattle.rule_plan.proofs.GoalRight.{goal_right, keeps_bound, told_right, tells_bound}
use Rattle.rule_plan.proofs.ToldGoals.{same_frames, same_ports, solved_if, tells_by}

-- a goal that has an answer doesn't wait
answer_waits : (symbols : List (List ℕ)) (E : Equations) (test : Test) (l r : Tree) (a : Answer) (x : Var) → IsConsistent E → Evaluates symbols E test l r a → GoalWaitsOn symbols E test l r x → ⊥
answer_waits symbols E test l r a x c e w = on e w
  where
    on : {u : Test} {a : Answer} → Evaluates symbols E u l r a → GoalWaitsOn symbols E u l r x → ⊥
    on (gives y) (right_of_is z) = value_waits symbols E c y same z
    on (gives y) (left_side n z) = n refl
    on (gives y) (right_side n k z) = n refl
    on (compared y z k) (right_of_is u) = value_waits symbols E c z same u
    on (compared y z k) (left_side n u) = value_waits symbols E c y same u
    on (compared y z k) (right_side n j u) = value_waits symbols E c z same u

-- the equation of a node under a frame and an integer
abbrev pub value_equation : Name → ℕ → ℤ → code.Equation
value_equation frame l z = record { left = Mol l frame; right = Term.Int z }

module _ (v : ViewValue) (i : IsViewOf v) (g frame : Name) (test : Test) (l r : ℕ) (p : v.place ≡ Place.Goal g) (s : v.sight ≡ Sight.Atom (record { code = Code.Arith test l r; frame = frame })) where
  abbrev left : Tree
  left = term_at v.table.program.templates.nodes frame l

  abbrev right : Tree
  right = term_at v.table.program.templates.nodes frame r

  abbrev was : Atom
  was = Atom.arithmetic test left right

  held : held_in g i.site.goals ≡ Some (an_atom was)
  held = shows_at v i (Place.Goal g) (Sight.Atom (record { code = Code.Arith test l r; frame = frame })) p s

  -- what the stores tell
  abbrev stored : Equations
  stored = bindings_in v.table.program.templates.nodes (bindings_from v.stores)

  all_stand : StandFor (IsTold stored) (IsTold (whole i.site))
  all_stand = StandFor-on (told_stands v.table.program.templates.nodes v.stores) (whole_stands v i)

  -- a goal that waits on nothing
  idle_tried : (noise : List Noise) → noise ≡ [] → (IsConsistent stored → (x : Var) → GoalWaitsOn v.table.program.templates.symbols stored test left right x → ⊥) → (o : Option PlanValue) → IsPlannedBy v o → IsTriedBy v noise o
  idle_tried noise q n o h = subst (λ (l : List Noise). IsTriedBy v l o) (sym q) (silent v [] (Sight.Atom (record { code = Code.Arith test l r; frame = frame })) s n o h)

  -- where they clash, Eval doesn't apply
  pub clash_tried : (noise : List Noise) → noise ≡ [] → (IsConsistentBy (ToldBy v.table.program.templates.nodes v.stores) → ⊥) → IsTriedBy v noise None
  clash_tried noise q bad = idle_tried noise q (λ c x w. bad c) None (atom_none v i g was p held (λ a c e. bad (all_stand.back c)))

  module _ (consistent : IsConsistentBy (ToldBy v.table.program.templates.nodes v.stores)) where
    by_stores : StandsForConsistent stored (whole i.site)
    by_stores = record { stands = all_stand; consistent = consistent }

    by_box : StandsForConsistent (whole i.site) stored
    by_box = record { stands = StandFor-back all_stand; consistent = all_stand.to consistent }

    comes : (a : Answer) → Evaluates v.table.program.templates.symbols stored test left right a → ComesTo v.table.program (answer a) i.site (held_in g i.site.goals)
    comes a e = subst (ComesTo v.table.program (answer a) i.site) (sym held) (all_stand.to consistent, answer_stands v.table.program.templates.symbols stored (whole i.site) by_stores e)

    abbrev makes : (a : Answer) (change : Change) → Evaluates v.table.program.templates.symbols stored test left right a → eval (answer a) g i.site (Some (an_atom was)) ≡ Some change → change.drawn ≡ 0
        → conditions.Makes (Allows v.table.program) v.table.program (slice_index i.table.config.next v.worker) (label_at v Rule.Eval) i.site change
    makes a change e is none = record {
      reading = answer a;
      change = subst (λ (q : Place). change_by v.table.program (answer a) v.worker (slice_index i.table.config.next v.worker) Rule.Eval q None i.site ≡ Some change) (sym p) (ap (eval (answer a) g i.site) held ∙ is);
      allowed = subst (λ (q : Place). Allows v.table.program (answer a) Rule.Eval q None i.site) (sym p) (comes a e);
      few_names = omega (arith, none);
    }

    -- a comparison that holds
    pub holds_right : Evaluates v.table.program.templates.symbols stored test left right (truth true) → IsRightAt v Rule.Eval g 0 Step.Confirm []
    holds_right e =
        let m : conditions.Makes (Allows v.table.program) v.table.program (slice_index i.table.config.next v.worker) (label_at v Rule.Eval) i.site (becomes i.site.content (without_goal g i.site.goals) 0) =
        makes (truth true) (becomes i.site.content (without_goal g i.site.goals) 0) e refl refl in
        goal_right v i g Rule.Eval eval_in_force (becomes i.site.content (without_goal g i.site.goals) 0) m Step.Confirm (refl, (g, p, record { goal = was; held = held; makes = m })) tt
        [] (keeps_bound v i g Rule.Eval eval_in_force (becomes i.site.content (without_goal g i.site.goals) 0) m i.site.content (without_goal g i.site.goals) refl refl) (λ reads r. (g, p, r))

    -- one that fails
    pub fails_right : Evaluates v.table.program.templates.symbols stored test left right (truth false) → IsRightAt v Rule.Eval g 0 Step.Refute []
    fails_right e =
        let m : conditions.Makes (Allows v.table.program) v.table.program (slice_index i.table.config.next v.worker) (label_at v Rule.Eval) i.site (becomes i.site.content (with_content g (an_atom Atom.fail) i.site.goals) 0) =
        makes (truth false) (becomes i.site.content (with_content g (an_atom Atom.fail) i.site.goals) 0) e refl refl in
        goal_right v i g Rule.Eval eval_in_force (becomes i.site.content (with_content g (an_atom Atom.fail) i.site.goals) 0) m Step.Refute (refl, (g, p, record { goal = was; held = held; makes = m })) tt
        [] (keeps_bound v i g Rule.Eval eval_in_force (becomes i.site.content (with_content g (an_atom Atom.fail) i.site.goals) 0) m i.site.content (with_content g (an_atom Atom.fail) i.site.goals) refl refl)
        (λ reads r. (g, p, r))

    -- a value is told
    value_told : (z : ℤ) → Evaluates v.table.program.templates.symbols stored test left right (value z) → (t : ToldStore)
        → AnswersTold v.table.program.templates.nodes v.stores v.known (value_equation frame l z ∷ []) t → (part : Part) → with_part (innermost v.stores) part ≡ t.store → part.frames.items ≡ []
        → (binds : List Var) → AreMembers v.table.program.templates.nodes v.stores t.bound binds → IsRightAt v Rule.Eval g 0 (Step.Tell part t.solved) binds
    value_told z e t a part is none binds b =
        told_right v i g Rule.Eval eval_in_force (becomes (telling left (integer z) i.site.content) (without_goal g i.site.goals) 0)
        (makes (value z) (becomes (telling left (integer z) i.site.content) (without_goal g i.site.goals) 0) e refl refl) p part t.store t.solved is
        (tells_by v i (value_equation frame l z ∷ []) t a t.store refl part is Rule.Eval g (telling left (integer z) i.site.content) 0
        (record { goal = was; held = held; makes = makes (value z) (becomes (telling left (integer z) i.site.content) (without_goal g i.site.goals) 0) e refl refl }) (record { left = left; right = integer z }) [] refl refl
        (same_frames v i (value_equation frame l z ∷ []) t a) (same_ports v i (value_equation frame l z ∷ []) t a) (tells_one left (integer z)) refl refl (λ old. ap (all_named old) none))
        (solved_if v i (value_equation frame l z ∷ []) t a t.store refl t.solved refl)
        binds (tells_bound v i g Rule.Eval eval_in_force (becomes (telling left (integer z) i.site.content) (without_goal g i.site.goals) 0)
        (makes (value z) (becomes (telling left (integer z) i.site.content) (without_goal g i.site.goals) 0) e refl refl) (telling left (integer z) i.site.content) (without_goal g i.site.goals) refl
        (value_equation frame l z ∷ []) t a refl binds b)

    pub value_right : (z : ℤ) → Evaluates v.table.program.templates.symbols stored test left right (value z) → TellsRightly v Rule.Eval g (value_equation frame l z)
    value_right z e t a none = value_told z e (told_over (innermost v.stores) t) a t.part refl none

    -- a goal that has an answer waits on nothing
    pub answer_tried : (a : Answer) → Evaluates v.table.program.templates.symbols stored test left right a → (noise : List Noise) → noise ≡ [] → (o : Option PlanValue) → IsPlannedBy v o → IsTriedBy v noise o
    answer_tried a e noise q o h = idle_tried noise q (λ c x w. answer_waits v.table.program.templates.symbols stored test left right a x c e w) o h

    -- a goal that waits, or never has an answer

    waits_none : (x : Var) → GoalWaitsOn v.table.program.templates.symbols stored test left right x → HasNoRule v
    waits_none x w = atom_none v i g was p held
        (λ a c e. answer_waits v.table.program.templates.symbols (whole i.site) test left right a x c e (goal_wait_stands v.table.program.templates.symbols stored (whole i.site) by_stores w))

    pub waits_tried : (x : Var) → GoalWaitsOn v.table.program.templates.symbols stored test left right x
        → (noise new : List Noise) → noise ≡ [] → (n : Noise) × (n.on.items ≡ x ∷ []) × (new ≡ noise ++ n ∷ []) → IsTriedBy v new None
    waits_tried x w noise new q m = subst (λ (l : List Noise). IsTriedBy v l None) (sym (m.2 ∙ ap (λ (l : List Noise). l ++ m.0 ∷ []) q))
        (silent v (m.0 ∷ []) (Sight.Atom (record { code = Code.Arith test l r; frame = frame })) s (consistent, (x, m.1, w)) None (waits_none x w))

    pub never_tried : arithmetic.IsGoalStuck v.table.program.templates.symbols stored test left right → (noise : List Noise) → noise ≡ [] → IsTriedBy v noise None
    never_tried n noise q = idle_tried noise q (λ c x w. n.no_wait x w) None (atom_none v i g was p held (λ a c e. n.no_answer a (answer_stands v.table.program.templates.symbols (whole i.site) stored by_box e)))
