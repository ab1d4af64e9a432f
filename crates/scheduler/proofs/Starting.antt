-- The start of a run, its end, and places that are forgotten.
use Rattle.std.proofs.Common.{◌≡◌, ℕ, Bool, true, false, List, [], ◌∷◌, Option, Some, None, refl, sym, ap, subst, ◌∙◌, ◌⊎◌, inl, inr, length, map}
use Rattle.akl_model.proofs.Options.{some_value}
use Rattle.std.specs.Prelude.{cond, is_some, option_map, IfSome, IfNone}
use Rattle.std.specs.Map.{lookup}
use Rattle.akl_terms.specs.declared.name.Name.{Name}
use Rattle.akl_terms.specs.Names.{same_name}
use Rattle.akl_terms.proofs.SameNames.{same_name-equal}
use Rattle.akl_terms.specs.declared.name.Place.{Place}
use Rattle.akl_terms.specs.declared.program.Program.{Program}
use Rattle.akl_terms.specs.declared.program.Query.{Query}
use Rattle.akl_model.specs.declared.label.Rule.{Rule}
use Rattle.akl_model.specs.declared.label.Label.{Label}
use Rattle.akl_model.specs.Config.{Config, Found, box_at, home_of}
use Rattle.akl_model.specs.Instances.{start}
use Rattle.akl_model.specs.Derivations.{Derives, IsQuietEnd}
use Rattle.akl_model.specs.Wakes.{boxes_around, IsOneOf, IsThere}
use Rattle.akl_model.proofs.NamesKept.{Stand, replay-stands, box-itself}
use Rattle.step_laws.specs.Likeness.{IsOld}
use Rattle.step_laws.proofs.There.{there_site}
use Rattle.step_laws.proofs.Whereabouts.{found_in, home_in}
use Rattle.step_laws.proofs.Steps.{old_box, old_goal}
use Rattle.plan_laws.specs.Runs.{Runs, begins, forgets}
use Rattle.plan_laws.proofs.IdlePlaces.{quiet}
use Rattle.plan_laws.proofs.KeptBySettle.{kept_by_forget, no_waits}
use Rattle.wake_lists.specs.Open.{Opening, Openings, opening_at, IsFirst, closed}
use Rattle.wake_lists.proofs.Keys.{token_equal}
use Rattle.opened_places.specs.Placed.{PlacedValue, placed}
use Rattle.opened_places.proofs.Members.{one_left, one_right}
use Rattle.box_tree.specs.declared.entries.BoxEntry.{BoxEntry}
use Rattle.box_tree.specs.declared.entries.GoalEntry.{GoalEntry}
use Rattle.box_tree.specs.Tables.{all_rules, TableValue, table_of, box_row, goal_row}
use Rattle.box_tree.specs.Views.{is_there, all_places}
use Rattle.step_commit.specs.Cores.{CoreValue, IsCore, TableIn, run_by}
use Rattle.scheduler.specs.Openings.{IsOpenAt, AreApart, AreStandingIn, name_at}
use Rattle.scheduler.specs.Opening.{AreOpened}
use Rattle.scheduler.specs.Placing.{AddsThose}
use Rattle.scheduler.specs.Schedulers.{SchedulerValue, IsScheduler, IsQuiet, HasGone}
use Rattle.scheduler.specs.AllPlaces.{AreAllPlaced, AreAllOpen}
use Rattle.scheduler.proofs.FirstTokens.{none_first}
use Rattle.scheduler.proofs.OpeningLists.{some_none, out_at, out_apart}
use Rattle.scheduler.proofs.OpenPlaces.{open_places, all_listed, none_open}
use Rattle.scheduler.proofs.OpenAfter.{in_names, names_in, some_and, and_some}
use Rattle.scheduler.proofs.PlacedThose.{those_come, came_so}
use Rattle.scheduler.proofs.CoreTables.{one_config, row_there}
use lib.Dec.{eqb}

-- the name of a place that is there was drawn
pub drawn_there : (c : Config) → Stand c → (place : Place) → IsThere place c.roots → IsOld c (name_at place)
drawn_there c s (Place.Box n) h =
    let w : (f : Found) × (box_at n c.roots ≡ Some f) = there_site (Place.Box n) c.roots h in
    subst (IsOld c) (sym (box-itself n c.roots w.0 w.1)) (old_box c s w.0 (found_in n c.roots w.0 w.1))
drawn_there c s (Place.Goal g) h =
    let w : (f : Found) × (home_of g c.roots ≡ Some f) = there_site (Place.Goal g) c.roots h in
    old_goal c s g w.0 (home_in g c.roots w.0 w.1).0 (home_in g c.roots w.0 w.1).1

-- where nothing is open no place is ready
pub quiet_so : (s : SchedulerValue) → IsScheduler s → s.openings ≡ [] → IsQuiet s
quiet_so s h e = record { quiet = λ t. subst (IsQuietEnd all_rules s.core.table.program) (one_config s.core h.core.table t) at_rest }
  where
    at_rest : IsQuietEnd all_rules s.core.table.program h.core.table.config
    at_rest = quiet all_rules s.core.table.program s.core.table.query s.core.journal h.core.table.config h.kept
        (subst (λ (now : List Place). Runs all_rules s.core.table.program s.core.table.query s.core.journal h.core.table.config now h.kept) (none_open s.openings h.now h.are_open e) h.run)

pub quiet_first : (s : SchedulerValue) → IsScheduler s → (r : Option ℕ) → IsFirst s.openings r → IfNone r (IsQuiet s)
quiet_first s h None e = quiet_so s h e
quiet_first s h (Some t) f = tt

-- each row of a table has its place among all
module _ {A B : Type 0} (f : Name → Place) (row : A → B) (n : Name) where
  name_listed : (es : List (Name × A)) → is_some (option_map row (lookup (same_name n) es)) ≡ true → IsOneOf (f n) (map (λ (e : Name × A). f e.0) es)
  name_listed [] s = cc
  name_listed (e ∷ es) s = on (same_name n e.0) refl s (name_listed es)
    where
      on : (t : Bool) → same_name n e.0 ≡ t → is_some (option_map row (cond t (Some e.1) (lookup (same_name n) es))) ≡ true
          → (is_some (option_map row (lookup (same_name n) es)) ≡ true → IsOneOf (f n) (map (λ (e : Name × A). f e.0) es)) → IsOneOf (f n) (map (λ (e : Name × A). f e.0) (e ∷ es))
      on true q r k = inl (ap f (same_name-equal n e.0 q))
      on false q r k = inr (k r)

row_listed : (t : TableValue) (place : Place) → is_there (table_of t) place ≡ true → IsOneOf place (all_places t)
row_listed t (Place.Box n) s =
    one_left (Place.Box n) (map (λ (e : Name × BoxEntry). Place.Box e.0) t.boxes) (map (λ (e : Name × GoalEntry). Place.Goal e.0) t.goals) (name_listed Place.Box (box_row t.program.templates.nodes) n t.boxes s)
row_listed t (Place.Goal g) s =
    one_right (Place.Goal g) (map (λ (e : Name × BoxEntry). Place.Box e.0) t.boxes) (map (λ (e : Name × GoalEntry). Place.Goal e.0) t.goals) (name_listed Place.Goal (goal_row t.program.templates.nodes) g t.goals s)

-- all places of a core
pub placed_all : (c : CoreValue) (places : List Place) (ps : List PlacedValue) → places ≡ all_places c.table → AddsThose c.table places [] ps → AreAllPlaced c ps
placed_all c places ps e a = record {
  all = λ t place h. those_come c.table (run_by c) t places [] ps a place (subst (IsOneOf place) (sym e) (row_listed c.table place (row_there c.table (run_by c) t place h))) h;
  around = λ t p i. elim (came_so c.table (run_by c) t places [] ps a p i) [ inl z ↦ absurd z | inr w ↦ w.1 ];
}

pub opened_all : (c : CoreValue) (ps : List PlacedValue) (os : Openings) (ts : List ℕ) → AreAllPlaced c ps → AreOpened [] ps os ts → AreAllOpen c os
opened_all c ps os ts a r = record {
  all = λ t place h. r.all place (a.all t place h);
  around = λ t token o e. elim (r.each token o e) [ inl z ↦ absurd (some_none z refl) | inr n ↦ a.around t (placed o.place o.boxes) n.is_placed ];
  apart = r.apart tt;
  tokens = r.first none_first;
  once = r.places_once (λ s t o q e. absurd (some_none e refl));
}

-- and what is open is there
pub there_open : (c : CoreValue) (os : Openings) → AreAllOpen c os → (t : TableIn c) (place : Place) → IsOpenAt os place → IsThere place t.config.roots
there_open c os a t place w = subst (λ (p : Place). IsThere p t.config.roots) w.of_place (ap is_some (a.around t w.token w.opening w.is_open))

begins_run : (rules : List Rule) (p : Program) (q : Query) (journal : List Label) (c : Config) (now : List Place) → journal ≡ [] → Derives rules p (start p q) journal c → ((place : Place) → IsThere place c.roots → IsOneOf place now)
    → Runs rules p q journal c now []
begins_run rules p q journal c now e w h = subst (λ (j : List Label). Runs rules p q j c now []) (sym e)
    (on (subst (λ (j : List Label). Derives rules p (start p q) j c) e w))
  where
    on : start p q ≡ c → Runs rules p q [] c now []
    on f = subst (λ (k : Config). Runs rules p q [] k now []) f (begins (λ place t. h place (subst (λ (k : Config). IsThere place k.roots) f t)))

pub started : (c : CoreValue) (os : Openings) → IsCore c → c.journal ≡ [] → AreAllOpen c os → IsScheduler (record { core = c; openings = os; waits = [] })
started c os k e a = record {
  core = k;
  now = open_places os;
  are_open = all_listed os a.apart;
  kept = [];
  listed = record { all = λ place x i. cc; only = λ place x i. absurd i };
  run = begins_run all_rules c.table.program c.table.query c.journal k.table.config (open_places os) e k.table.replays.derives (λ place h. (all_listed os a.apart).all place (a.all k.table place h));
  waits = no_waits k.table.config (open_places os);
  apart = a.apart;
  standing = record {
    around = λ t o n i h. names_in n o.boxes (some_and n (boxes_around o.place k.table.config.roots) o.boxes (a.around k.table t o i) h);
    only = λ t o n i h. and_some n (boxes_around o.place k.table.config.roots) o.boxes (a.around k.table t o i) (in_names n o.boxes h);
    listed = λ t o i h. a.around k.table t o i;
    drawn = λ t o i. drawn_there k.table.config (replay-stands all_rules c.table.program c.table.query c.journal k.table.config k.table.replays) o.place (ap is_some (a.around k.table t o i));
  };
}

-- one that has gone is closed
module _ (s : SchedulerValue) (h : IsScheduler s) (token : ℕ) (gone : HasGone s token) where
  abbrev left : Openings
  left = closed token s.openings

  from : (t : ℕ) (o : Opening) → opening_at t left ≡ Some o → opening_at t s.openings ≡ Some o
  from t o e = on (eqb t token) (sym (out_at token s.openings h.apart t) ∙ e)
    where
      on : (b : Bool) → cond b None (opening_at t s.openings) ≡ Some o → opening_at t s.openings ≡ Some o
      on true f = absurd (some_none f refl)
      on false f = f

  from_open : (place : Place) → IsOpenAt left place → IsOpenAt s.openings place
  from_open place w = record { token = w.token; opening = w.opening; is_open = from w.token w.opening w.is_open; of_place = w.of_place }

  apart : AreApart left
  apart = out_apart token s.openings h.apart

  standing : AreStandingIn h.core.table.config left
  standing = record {
    around = λ t o n e i. h.standing.around t o n (from t o e) i;
    only = λ t o n e i. h.standing.only t o n (from t o e) i;
    listed = λ t o e i. h.standing.listed t o (from t o e) i;
    drawn = λ t o e. h.standing.drawn t o (from t o e);
  }

  with_place : (o : Opening) → opening_at token s.openings ≡ Some o → IsScheduler (record s { openings = left })
  with_place o e = record {
    core = h.core;
    now = open_places left;
    are_open = all_listed left apart;
    kept = h.kept;
    listed = h.listed;
    run = forgets {own = o.place} h.run (record {
      gone = not_there;
      closes = λ place i. still place (h.are_open.only place i);
      keeps = λ place x k. k.kept;
    });
    waits = kept_by_forget h.core.table.config h.now h.kept (open_places left) h.kept h.waits o.place (λ place i. h.are_open.all place (from_open place ((all_listed left apart).only place i))) (record {
      each = λ place x k. record { kept = k; another = λ q. h.waits.closed place x k (h.are_open.all place (record { token = token; opening = o; is_open = e; of_place = sym q })) };
      all = λ place x k. k.kept;
    });
    apart = apart;
    standing = standing;
  }
    where
      not_there : IsThere o.place h.core.table.config.roots → ⊥
      not_there t =
          let row : is_there (table_of s.core.table) o.place ≡ true = row_there s.core.table (run_by s.core) h.core.table o.place t in
          let none : is_there (table_of s.core.table) o.place ≡ false = subst (λ (x : Option Opening). IfSome x (λ (z : Opening). is_there (table_of s.core.table) z.place ≡ false)) e gone in
          let no : true ≡ false = sym row ∙ none in cc

      still : (place : Place) → IsOpenAt s.openings place → (place ≡ o.place) ⊎ IsOneOf place (open_places left)
      still place w = on (eqb w.token token) refl
        where
          on : (b : Bool) → eqb w.token token ≡ b → (place ≡ o.place) ⊎ IsOneOf place (open_places left)
          on true f = inl (sym w.of_place ∙ ap (λ (z : Opening). z.place) (some_value (sym w.is_open ∙ ap (λ (k : ℕ). opening_at k s.openings) (token_equal w.token token f) ∙ e)))
          on false f = inr ((all_listed left apart).all place (record {
            token = w.token;
            opening = w.opening;
            is_open = out_at token s.openings h.apart w.token ∙ ap (λ (b : Bool). cond b None (opening_at w.token s.openings)) f ∙ w.is_open;
            of_place = w.of_place;
          }))

  nothing : opening_at token s.openings ≡ None → left ≡ s.openings
  nothing e = on s.openings e
    where
      on : (os : Openings) → opening_at token os ≡ None → closed token os ≡ os
      on [] f = refl
      on (x ∷ xs) f = by (eqb token x.0) f (on xs)
        where
          by : (b : Bool) → cond b (Some x.1) (opening_at token xs) ≡ None → (opening_at token xs ≡ None → closed token xs ≡ xs) → cond b xs (x ∷ closed token xs) ≡ x ∷ xs
          by true g r = absurd (some_none refl g)
          by false g r = ap (λ (l : Openings). x ∷ l) (r g)

  pub forgotten : IsScheduler (record s { openings = left })
  forgotten = on (opening_at token s.openings) refl
    where
      on : (o : Option Opening) → opening_at token s.openings ≡ o → IsScheduler (record s { openings = left })
      on None e = subst (λ (os : Openings). IsScheduler (record s { openings = os })) (sym (nothing e)) h
      on (Some o) e = with_place o e

pub no_length : (os : Openings) → length os ≡ 0 → os ≡ []
no_length [] e = refl
no_length (x ∷ xs) e = cc
