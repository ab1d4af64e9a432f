-- A goal that isn't ready stays so over labels that pass it by.
use Rattle.std.proofs.Common.{◌≡◌, List, [], ◌∷◌, ◌++◌, Some, sym, ap, subst, inr}
use Rattle.std.specs.Prelude.{slice_index}
use Rattle.akl_terms.specs.declared.name.Name.{Name}
use Rattle.akl_terms.specs.declared.name.Var.{Var}
use Rattle.akl_terms.specs.declared.name.Place.{Place}
use Rattle.akl_model.specs.Config.{Operator}
use Rattle.akl_terms.specs.declared.program.Program.{Program}
use Rattle.akl_terms.specs.declared.program.Query.{Query}
use Rattle.akl_terms.specs.Equal.{Equations, IsConsistent}
use Rattle.akl_model.specs.declared.label.Rule.{Rule}
use Rattle.akl_model.specs.declared.label.Label.{Label}
use Rattle.akl_model.specs.Config.{IsIn, Atom, Boxes, Config, Held, an_atom, a_choice, held_in, Found, environment, whole, box_at, home_of}
use Rattle.akl_model.specs.Rules.{alternative_of}
use Rattle.akl_model.specs.Conditions.{IsSolved}
use Rattle.akl_model.specs.Stable.{only, frames_of}
use Rattle.akl_model.specs.Derivations.{Replays, IsReady}
use Rattle.akl_model.specs.Changes.{Binds}
use Rattle.akl_model.specs.Wakes.{names_down_to}
use Rattle.constraint_laws.specs.Touched.{IsAmong}
use Rattle.plan_laws.specs.Sleeps.{Matters, Needs, of_box_around, of_atom, of_alternative, IsEnough, PassesBy, PassBy}
use Rattle.plan_laws.proofs.InScope.{Good}
use Rattle.plan_laws.proofs.Replayed.{good_replay, replay_further}
use Rattle.plan_laws.proofs.DownTo.{stands_down, there_before}
use Rattle.plan_laws.proofs.Aliases.{HaveAliases, passes_with, Completed, completed}
use Rattle.plan_laws.proofs.Moves.{AroundFor}
use Rattle.constraint_laws.proofs.LeavesKept.{LeavesKept, TouchesKept}
use Rattle.plan_laws.proofs.Around.{chain_down, shut_inside, around_step, whole_leaves_kept}
use Rattle.plan_laws.proofs.AwaitedAtoms.{Covers, covers_after}
use Rattle.step_laws.proofs.Whereabouts.{home_in}
use Rattle.step_laws.proofs.Steps.{Moved, names_kept, name_kept}
use Rattle.step_laws.proofs.Stays.{alternative_in}
use Rattle.plan_laws.proofs.HomesKept.{HeldBefore, same_held, edited_choice, held_before, was_found, home_moved}
use Rattle.step_laws.proofs.ReadyGoals.{ready_there}
use Rattle.plan_laws.proofs.AtomReady.{atom_ready_before}
use Rattle.plan_laws.proofs.ChoiceReady.{ChoiceWas, choice_before, matters_before, touched_now, choice_ready_before}

-- what a goal that sleeps has in its home
pub record HomeSleeps (p : Program) (c : Config) (kept : List Var) (g : Name) (f : Found) : Type 0 where
  pub around : AroundFor c kept (names_down_to f)
  pub of_an_atom : (b : Atom) → held_in g f.goals ≡ Some (an_atom b) → IsConsistent (whole f) → Covers kept p b (whole f)
  pub of_a_choice : (o : Operator) (bs : Boxes) → held_in g f.goals ≡ Some (a_choice o bs) → (n : Name) (m : Found) → Matters o bs → alternative_of f n bs ≡ Some m → IsSolved m.goals → IsConsistent (whole m)
      → TouchesKept kept (frames_of (only m)) (environment m) (whole m)

pub record GoalSleeps (rules : List Rule) (p : Program) (c : Config) (kept : List Var) (g : Name) : Type 0 where
  pub unready : IsReady rules p c (Place.Goal g) → ⊥
  pub at_home : (f : Found) → home_of g c.roots ≡ Some f → HomeSleeps p c kept g f

pub goal_sleeps_settled : (rules : List Rule) (p : Program) (c : Config) (kept : List Var) (g : Name) → (IsReady rules p c (Place.Goal g) → ⊥) → ((x : Var) → Needs p c (Place.Goal g) x → IsAmong x kept) → GoalSleeps rules p c kept g
goal_sleeps_settled rules p c kept g unready needed = record {
  unready = unready;
  at_home = λ f e. record {
    around = λ n h m i still x t. needed x (of_box_around n (stands_down g c.roots f n e h) i still t);
    of_an_atom = λ b h still x y k q. needed y (of_atom e h still k (Rattle.akl_terms.specs.Equal.turned q));
    of_a_choice = λ o bs h n m not_choice q solved still. record { each = λ x t. needed x (of_alternative n not_choice e h q solved still t) };
  };
}

module _ (rules : List Rule) (p : Program) (query : Query) (journal : List Label) (c : Config) (l : Label) (d : Config) (kept : List Var) (g : Name) (replays : Replays rules p query journal c)
    (passes : PassesBy rules p kept (Place.Goal g) c l d) (slept : GoalSleeps rules p c kept g) where
  w : Good c
  w = good_replay rules p query journal c replays

  v : Good d
  v = good_replay rules p query (journal ++ l ∷ []) d (replay_further rules p query journal c l d replays passes.applies)

  was_there : (k : Found) → home_of g d.roots ≡ Some k → (f : Found) × (home_of g c.roots ≡ Some f)
  was_there k i =
      let x : (f : Found) × (home_of g c.roots ≡ Some f) × (names_down_to k ≡ names_down_to f) = there_before rules p c l d w v passes.applies (Place.Goal g) passes.unopened k i in
      (x.0, x.1)

  module _ (f k : Found) (e : home_of g c.roots ≡ Some f) (i : home_of g d.roots ≡ Some k) where
    home : HomeSleeps p c kept g f
    home = slept.at_home f e

    fe : box_at f.content.name c.roots ≡ Some f
    fe = was_found rules p query journal c l d w v replays passes.applies g passes.unopened f k e i

    move : Moved l.worker (slice_index c.next l.worker) passes.applies.site passes.applies.change f k
    move = home_moved rules p query journal c l d w v replays passes.applies g passes.unopened f k e i

    quiet_around : (n : Name) → IsIn n (names_down_to f) → (x : Var) → IsAmong x kept → Binds c d n x → ⊥
    quiet_around n h x y b = passes.unbound n (inr (stands_down g c.roots f n e h)) x y b

    leaves_kept : IsConsistent (whole k) → LeavesKept kept (whole f) (whole k)
    leaves_kept h = whole_leaves_kept rules p c l d w v passes.applies kept (names_down_to f) quiet_around f.content.name f k home.around (λ b x. x) fe move h

    names : names_down_to k ≡ names_down_to f
    names = λ j. names_kept l.worker (slice_index c.next l.worker) passes.applies.site passes.applies.change f k move j
        ++ name_kept l.worker (slice_index c.next l.worker) passes.applies.site passes.applies.change f k move j ∷ []

    around_now : AroundFor d kept (names_down_to k)
    around_now = subst (AroundFor d kept) (sym names) (around_step rules p c l d w v passes.applies kept (names_down_to f) quiet_around (chain_down c w f.content.name f fe)
        (λ n h. shut_inside rules p c l d w v passes.applies kept (names_down_to f) quiet_around (Place.Goal g) passes.unopened n (stands_down g d.roots k n i (subst (IsIn n) (sym names) h))) home.around)

    atom_was : (b : Atom) → held_in g k.goals ≡ Some (an_atom b) → held_in g f.goals ≡ Some (an_atom b)
    atom_was b h = on (held_before rules p query journal c l d w v replays passes.applies g passes.unopened f k e i (an_atom b) h)
      where
        on : HeldBefore passes.applies.site.content.name passes.applies.change.boxes g f (an_atom b) → held_in g f.goals ≡ Some (an_atom b)
        on (same_held s) = s
        on (edited_choice o bs s t) = cc

    atom_now : (b : Atom) → held_in g k.goals ≡ Some (an_atom b) → IsConsistent (whole k) → Covers kept p b (whole k)
    atom_now b h still = covers_after kept (whole f) (whole k) (leaves_kept still) still p b (home.of_an_atom b (atom_was b h)
        (Rattle.akl_terms.proofs.EqualLaws.IsConsistent-follows (Rattle.constraint_laws.proofs.Beside.follows_told (whole f) (whole k) (leaves_kept still).keeps) still))

    choice_was : (o : Operator) (cs : Boxes) → held_in g k.goals ≡ Some (a_choice o cs) → (bs : Boxes) × (held_in g f.goals ≡ Some (a_choice o bs)) × ChoiceWas passes.applies.site.content.name passes.applies.change.boxes g f o cs bs
    choice_was o cs h = choice_before rules p query journal c l d w v replays passes.applies g passes.unopened f k e i o cs h

    choice_now : (o : Operator) (cs : Boxes) → held_in g k.goals ≡ Some (a_choice o cs) → (n : Name) (m : Found) → Matters o cs → alternative_of k n cs ≡ Some m → IsSolved m.goals → IsConsistent (whole m)
        → TouchesKept kept (frames_of (only m)) (environment m) (whole m)
    choice_now o cs h n m not_choice q solved still =
        let x : (bs : Boxes) × (held_in g f.goals ≡ Some (a_choice o bs)) × ChoiceWas passes.applies.site.content.name passes.applies.change.boxes g f o cs bs = choice_was o cs h in
        let env : environment m ≡ Rattle.akl_model.specs.Config.equations_of (k.around ++ k.content ∷ []) = ap Rattle.akl_model.specs.Config.equations_of ((alternative_in k n cs m q).1) in
        subst (λ (E : Equations). TouchesKept kept (frames_of (only m)) E (E ++ m.content.equations)) (sym env)
        (touched_now rules p query journal c l d w v replays passes.applies g passes.unopened f k e i o cs h x.0 x.1 x.2 kept leaves_kept (home.of_a_choice o x.0 x.1) n m q solved
        (matters_before rules p query journal c l d w v replays passes.applies g passes.unopened f k e i o cs h x.0 x.1 x.2 not_choice)
        (subst (λ (E : Equations). IsConsistent (E ++ m.content.equations)) env still))

    unready_now : IsReady rules p d (Place.Goal g) → (h : Held) → held_in g k.goals ≡ Some h → ⊥
    unready_now z (an_atom b) h = slept.unready (atom_ready_before rules p c l d w v passes.applies kept g f k f.content.name fe move leaves_kept b (atom_was b h) h (home.of_an_atom b (atom_was b h)) e i z)
    unready_now z (a_choice o cs) h =
        let x : (bs : Boxes) × (held_in g f.goals ≡ Some (a_choice o bs)) × ChoiceWas passes.applies.site.content.name passes.applies.change.boxes g f o cs bs = choice_was o cs h in
        choice_ready_before rules p query journal c l d w v replays passes.applies g passes.unopened f k e i o cs h x.0 x.1 x.2 kept leaves_kept (home.of_a_choice o x.0 x.1) z slept.unready

  pub sleeps_on : GoalSleeps rules p d kept g
  sleeps_on = record { unready = unready; at_home = at_home }
    where
      at_home : (k : Found) → home_of g d.roots ≡ Some k → HomeSleeps p d kept g k
      at_home k i =
          let x : (f : Found) × (home_of g c.roots ≡ Some f) = was_there k i in
          record { around = around_now x.0 k x.1 i; of_an_atom = atom_now x.0 k x.1 i; of_a_choice = choice_now x.0 k x.1 i }

      unready : IsReady rules p d (Place.Goal g) → ⊥
      unready z =
          let y : (k : Found) × (home_of g d.roots ≡ Some k) = ready_there rules p d g z in
          let x : (f : Found) × (home_of g c.roots ≡ Some f) = was_there y.0 y.1 in
          let h : (h : Held) × (held_in g y.0.goals ≡ Some h) = (home_in g d.roots y.0 y.1).1 in
          unready_now x.0 y.0 x.1 y.1 z h.0 h.1

sleeps_through : (rules : List Rule) (p : Program) (q : Query) (journal : List Label) (c : Config) (g : Name) (kept all : List Var) (further : List Label) (d : Config)
    → Replays rules p q journal c → HaveAliases c (Place.Goal g) (λ y. IsAmong y kept) all → GoalSleeps rules p c all g → PassBy rules p kept (Place.Goal g) c further d → GoalSleeps rules p d all g
sleeps_through rules p q journal c g kept all [] d r h s e = subst (λ (x : Config). GoalSleeps rules p x all g) e s
sleeps_through rules p q journal c g kept all (l ∷ ls) d r h s (m, x, rest) =
    let y : PassesBy rules p all (Place.Goal g) c l m × HaveAliases m (Place.Goal g) (λ y. IsAmong y kept) all = passes_with rules p q journal c l m (Place.Goal g) kept all r x h in
    sleeps_through rules p q (journal ++ l ∷ []) m g kept all ls d (replay_further rules p q journal c l m r x.applies) y.1 (sleeps_on rules p q journal c l m all g r y.0 s) rest

pub goal_sleeps : (rules : List Rule) (p : Program) (q : Query) (journal : List Label) (c : Config) (g : Name) (kept : List Var) (further : List Label) (d : Config)
    → Replays rules p q journal c → (IsReady rules p c (Place.Goal g) → ⊥) → IsEnough p c kept (Place.Goal g) → PassBy rules p kept (Place.Goal g) c further d → IsReady rules p d (Place.Goal g) → ⊥
goal_sleeps rules p q journal c g kept further d r unready enough pass =
    let k : Completed p c kept (Place.Goal g) = completed p c kept (Place.Goal g) (good_replay rules p q journal c r) enough in
    (sleeps_through rules p q journal c g kept k.all further d r k.aliases (goal_sleeps_settled rules p c k.all g unready k.needed) pass).unready
