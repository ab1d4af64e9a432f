-- What the labels of a plan do together: one label, or those of a call at once.
use Rattle.std.proofs.Common.{◌≡◌, ℕ, List, ◌∷◌, ◌++◌, Option, Some, None, refl, sym, ◌∙◌, ap, subst, ◌⊎◌}
use Rattle.std.specs.Prelude.{slice_index, ⊤}
use Rattle.akl_terms.specs.declared.name.Name.{Name}
use Rattle.akl_terms.specs.declared.name.Var.{Var}
use Rattle.akl_terms.specs.declared.name.Place.{Place}
use Rattle.akl_terms.specs.declared.program.Program.{Program}
use Rattle.akl_terms.specs.declared.program.Query.{Query}
use Rattle.akl_terms.specs.Equal.{Follows}
use Rattle.akl_model.specs.declared.label.Rule.{Rule}
use Rattle.akl_model.specs.declared.label.Label.{Label}
use Rattle.akl_model.specs.Config.{Config, Found, whole, box_at}
use Rattle.akl_model.specs.Instances.{start}
use Rattle.akl_model.specs.Rules.{Change, Reading, change_by}
use Rattle.akl_model.specs.Derivations.{Replays, IsReady}
use Rattle.akl_model.specs.Changes.{Adds}
use Rattle.akl_model.specs.Wakes.{Wait, IsOneOf, Opens}
use Rattle.akl_model.proofs.NamesKept.{Stand, replay-stands, box-itself}
use Rattle.akl_model.proofs.Results.{Derives-append}
use Rattle.constraint_laws.proofs.Beside.{follows_told}
use Rattle.step_laws.specs.Bound.{AreBoundIn}
use Rattle.step_laws.proofs.Stays.{equations_grow}
use Rattle.step_laws.proofs.Whereabouts.{found_in}
use Rattle.plan_laws.specs.Runs.{Runs}
use Rattle.plan_laws.proofs.InScope.{Good}
use Rattle.plan_laws.proofs.Replayed.{good_replay}
use Rattle.plan_laws.specs.Kept.{AreLeftByCommit}
use Rattle.plan_laws.specs.Waits.{AreWaits}
use Rattle.plan_laws.proofs.KeptByCommit.{kept_by_commit}
use Rattle.plan_laws.proofs.Sites.{adds_at_site}
use Rattle.table_laws.specs.Stamped.{IsTableOf}
use Rattle.table_laws.specs.Steps as laws
use Rattle.plan_laws.specs.AtOnce.{by, at_once}
use Rattle.plan_laws.specs.Wakes.{TellsNothing, CommitsNet}
use Rattle.plan_laws.proofs.CallPassage.{adds_net}
use Rattle.plan_laws.proofs.Calls.{fork_applies}
use Rattle.plan_laws.proofs.NetKept.{net_kept}
use Rattle.plan_laws.proofs.NetRuns.{net_runs}
use Rattle.binding_laws.specs.Bindings.{BindsOutside, HasOuterIn}
use Rattle.binding_laws.proofs.CallOutside.{call_outside_law}
use Rattle.binding_laws.proofs.StepOutside.{step_outside}
use Rattle.box_tree.specs.Tables.{all_rules, TableValue, table_of}
use Rattle.box_tree.specs.Views.{run_of}
use Rattle.opened_places.specs.Leading.{LeadsTo, by_label, by_call}
use Rattle.box_tree.proofs.AllInForce.{all_in_force}
use Rattle.opened_places.proofs.Leading.{fork_first, site_by, is_site_by, derives_by, stands_by, later_by}
use Rattle.scheduler.proofs.OpeningLists.{some_none}
use Rattle.scheduler.proofs.Woken.{AddsAt}

-- where they are those of a call, its guards tell nothing
abbrev pub IsSilent : {p : Program} {c : Config} {l : Label} {more : List Label} {step : laws.Step} {d : Config} → LeadsTo p c l more step d → Type 0
IsSilent {p} {c} {l} {more} {step} {d} (by_label a makes alone) = ⊤
IsSilent {p} {c} {l} {more} {step} {d} (by_call w) = TellsNothing w.calls

-- a label of a goal counts
goal_counts : (p : Program) (v : Reading) (w n : ℕ) (r : Rule) (place : Place) (alternative : Option Name) (f : Found) (ch : Change) (g : Name) → place ≡ Place.Goal g → change_by p v w n r place alternative f ≡ Some ch → r ≡ Rule.Fail → ⊥
goal_counts p v w n r place alternative f ch g e i k = some_none (subst (λ (x : Rule). change_by p v w n x (Place.Goal g) alternative f ≡ Some ch) k (subst (λ (x : Place). change_by p v w n r x alternative f ≡ Some ch) e i)) refl

not_fail : Rule.Fork ≡ Rule.Fail → ⊥
not_fail e = cc

module _ (v : TableValue) (journal : List Label) (t : IsTableOf all_rules (run_of v journal) (table_of v)) (l : Label) (more : List Label) (step : laws.Step) (d : Config) where
  abbrev p : Program
  p = v.program

  abbrev q : Query
  q = v.query

  abbrev c : Config
  c = t.config

  pub good : Good c
  good = good_replay all_rules p q journal c t.replays

  pub stands : Stand c
  stands = replay-stands all_rules p q journal c t.replays

  module _ (w : LeadsTo p c l more step d) where
    -- the run goes on with them
    pub replays_on : Replays all_rules p q (journal ++ l ∷ more) d
    replays_on = record { derives = Derives-append all_rules p (start p q) c d journal (l ∷ more) t.replays.derives (derives_by p c l more step d stands w) }

    pub good_on : Good d
    good_on = good_replay all_rules p q (journal ++ l ∷ more) d replays_on

    grown : (n : Name) (e k : Found) → box_at n c.roots ≡ Some e → box_at n d.roots ≡ Some k → Follows (whole e) (whole k)
    grown n e k i j = follows_told (whole e) (whole k)
        (equations_grow c d stands (stands_by p c l more step d stands w) (later_by p c l more step d stands w) e k (found_in n c.roots e i) (found_in n d.roots k j) (sym (box-itself n c.roots e i) ∙ box-itself n d.roots k j))

  -- they add equations to the box of their place alone
  alone : (w : LeadsTo p c l more step d) (n : Name) → Adds c d n → n ≡ (site_by p c l more step d w).content.name
  alone (by_label a makes only) n y = adds_at_site all_rules p q journal c l d t.replays a n y
  alone (by_call w) n y = adds_net all_rules all_in_force p c stands l.worker w.goal w.site w.is_home w.calls ⊥ (λ u. absurd u) n (subst (λ (e : Config). Adds c e n) (sym w.result) y)

  pub adds_at : (w : LeadsTo p c l more step d) → AddsAt c d l.place (site_by p c l more step d w)
  adds_at w = record { is_site = is_site_by p c l more step d w; alone = alone w; grown = grown w }

  -- the listed variables and the step tell whether they bind one that is external to this box
  abbrev IsSeen : Config → Found → List Var → Type 0
  IsSeen e f list = (BindsOutside c e f.content.name → HasOuterIn list step) × (HasOuterIn list step → BindsOutside c e f.content.name)

  pub seen_outside : (w : LeadsTo p c l more step d) (list : List Var) → AreBoundIn c d (site_by p c l more step d w) list → IsSeen d (site_by p c l more step d w) list
  seen_outside (by_label a makes only) list bound = step_outside all_rules (run_of v journal) (table_of v) l d t a step makes list bound
  seen_outside (by_call w) list bound = subst (λ (e : Config). AreBoundIn c e w.site list → IsSeen e w.site list) w.result by_step bound
    where
      by_step : AreBoundIn c (at_once w.calls) w.site list → IsSeen (at_once w.calls) w.site list
      by_step b = subst (λ (s : laws.Step). (BindsOutside c (at_once w.calls) w.site.content.name → HasOuterIn list s) × (HasOuterIn list s → BindsOutside c (at_once w.calls) w.site.content.name)) (sym w.step_is)
          (call_outside_law all_rules all_in_force p q journal c t.replays l.worker w.goal w.site w.is_home w.calls list b w.new.frames w.makes.frames)

  -- a goal of which they are is ready
  pub ready : (w : LeadsTo p c l more step d) (g : Name) → l.place ≡ Place.Goal g → IsReady all_rules p c l.place
  ready (by_label a makes only) g e =
      record { label = l; is_place = refl; result = d; applies = a; counts = λ x. goal_counts p a.makes.reading l.worker (slice_index c.next l.worker) l.rule l.place l.alternative a.site a.change g e a.makes.change x.fails }
  ready (by_call w) g e = record {
    label = by l.worker Rule.Fork (Place.Goal w.goal) None;
    is_place = ap (λ (k : Label). k.place) (sym (fork_first p c l more step d w));
    result = _;
    applies = fork_applies all_rules all_in_force p c stands l.worker w.goal w.site w.is_home w.calls;
    counts = λ x. not_fail x.fails;
  }

  -- a run goes on with them, and kept waits stay so
  module _ (before : List Place) (waits : List Wait) (now : List Place) (waits_now : List Wait) where
    pub runs_on : (w : LeadsTo p c l more step d) → IsSilent w → Runs all_rules p q journal c before waits → CommitsNet c l d before waits now waits_now → Runs all_rules p q (journal ++ l ∷ more) d now waits_now
    runs_on (by_label a makes only) silent r net = subst (λ (ls : List Label). Runs all_rules p q (journal ++ l ∷ ls) d now waits_now) (sym only) (Runs.commits r (record { applies = a; opens = net.opens; keeps = net.keeps }))
    runs_on (by_call w) silent r net = subst (λ (e : Config). CommitsNet c l e before waits now waits_now → Runs all_rules p q (journal ++ l ∷ more) e now waits_now) w.result by_calls net
      where
        by_calls : CommitsNet c l (at_once w.calls) before waits now waits_now → Runs all_rules p q (journal ++ l ∷ more) (at_once w.calls) now waits_now
        by_calls n = subst (λ (ls : List Label). Runs all_rules p q (journal ++ ls) (at_once w.calls) now waits_now) (sym w.labels)
            (net_runs all_rules all_in_force p q journal c before waits r l.worker w.goal w.site w.is_home w.calls silent now waits_now
            (subst (λ (k : Label). CommitsNet c k (at_once w.calls) before waits now waits_now) (fork_first p c l more step d w) n))

    pub waits_on : (w : LeadsTo p c l more step d) → IsSilent w → AreWaits c before waits → ((place : Place) → IsOneOf place now → IsOneOf place before ⊎ Opens waits c d place) → AreLeftByCommit waits c d waits_now → AreWaits d now waits_now
    waits_on (by_label a makes only) silent h opens left = kept_by_commit all_rules p q journal c l d t.replays a before waits now waits_now h opens left
    waits_on (by_call w) silent h opens left =
        subst (λ (e : Config). ((place : Place) → IsOneOf place now → IsOneOf place before ⊎ Opens waits c e place) → AreLeftByCommit waits c e waits_now → AreWaits e now waits_now) w.result
        (net_kept all_rules all_in_force p q journal c t.replays l.worker w.goal w.site w.is_home w.calls silent before waits now waits_now h) opens left
