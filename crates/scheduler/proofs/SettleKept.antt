-- A settle keeps what a scheduler is, and makes of it what it is to.
use Rattle.std.proofs.Common.{◌≡◌, ℕ, Bool, true, false, List, [], ◌∷◌, ◌++◌, length, Option, Some, refl, sym, ap, subst, ◌∙◌, ◌⊎◌, inl, inr, arith}
use Rattle.akl_model.proofs.Options.{some_value}
use Rattle.std.specs.Prelude.{◌&&◌, cond}
use Rattle.std.proofs.lemmas.Bool.Decides.{nat_tests}
use Rattle.akl_terms.specs.declared.name.Name.{Name}
use Rattle.akl_terms.specs.declared.name.Var.{Var}
use Rattle.akl_terms.specs.declared.name.Place.{Place}
use Rattle.akl_terms.specs.declared.program.Program.{Program}
use Rattle.akl_terms.specs.declared.program.Query.{Query}
use Rattle.akl_terms.specs.Names.{same_var}
use Rattle.akl_terms.proofs.SameNames.{same_var-equal}
use Rattle.akl_model.specs.Config.{Config, Found, site_of}
use Rattle.akl_model.specs.Wakes.{Wait, IsKept, IsOneOf, SettleOpens, IsOpenAfterSettle, IsKeptAfterSettle}
use Rattle.constraint_laws.specs.Touched.{IsAmong}
use Rattle.akl_model.specs.declared.label.Label.{Label}
use Rattle.reading_laws.specs.Seen.{IsSeen}
use Rattle.step_laws.proofs.Decide.{place_or}
use Rattle.plan_laws.specs.Runs as runs
use Rattle.plan_laws.specs.Runs.{Runs}
use Rattle.plan_laws.specs.Kept.{AreLeftBySettle}
use Rattle.table_laws.specs.Stamped.{IsTableOf, AreMarked}
use Rattle.table_laws.specs.StoreMarks.{AreStoresMarked}
use Rattle.box_tree.specs.Tables.{all_rules, table_of}
use Rattle.wake_lists.specs.Open.{Opening, Openings, opening_at, IsOpen, closed}
use Rattle.wake_lists.specs.Waits.{same_place, waits_on, is_variable_in}
use Rattle.wake_lists.proofs.Both.{same_place-equal}
use Rattle.wake_lists.proofs.Keys.{token_here}
use Rattle.step_commit.specs.Cores.{CoreValue, IsCore, AllWithin, TableIn, mark_of_store}
use Rattle.step_commit.proofs.SeenNow.{seen_stamp}
use Rattle.step_commit.proofs.Stale.{IsLooked}
use Rattle.idle_places.specs.Idling.{IdleValue, IsIdle}
use Rattle.idle_places.specs.Later.{HasNoReason}
use Rattle.box_tree.specs.Views.{run_of}
use Rattle.idle_places.proofs.Later.{idle_later}
use Rattle.idle_places.proofs.KeptBySettle as keeping
use Rattle.scheduler.specs.Openings.{IsOpenAt, AreOpenPlaces, AreOthersOpen, AreListed, AreApart}
use Rattle.scheduler.specs.Dropping.{is_place_in, DropsWaits}
use Rattle.scheduler.specs.Schedulers.{SchedulerValue, IsScheduler}
use Rattle.scheduler.specs.Nearest.{IsQuietCandidate}
use Rattle.scheduler.specs.Settling.{OpensCandidate, opened_box, Suspends}
use Rattle.scheduler.specs.Settled.{MaySettle, IsFoundIdle, IsTokenOfOpened, IsLeftBySettle, Settles}
use Rattle.scheduler.proofs.DroppedWaits.{Waiting}
use Rattle.scheduler.proofs.OpeningLists.{some_none}
use Rattle.scheduler.proofs.CommitFacts.{not_true, not_both, or_true, or_left, or_right, place_itself, listed_place, place_listed}
use Rattle.scheduler.proofs.OpenedMore.{its_open}
use Rattle.scheduler.proofs.KeptTokens.{settle_keeps}
use Rattle.scheduler.proofs.KeptAfter.{kept_but, but_kept, kept_still, listed_but}
use Rattle.scheduler.proofs.OpenPlaces.{open_places, all_listed, others, others_listed}
use Rattle.scheduler.proofs.CoreTables.{one_config}
use Rattle.scheduler.proofs.SettleAfter as after
use Rattle.scheduler.proofs.SettleAfter.{Leaves}
use lib.Dec.{eqb}

-- what was found of an idle place is so for the core
pub idle_looked : (c : CoreValue) (v : IdleValue) → IsIdle v → MaySettle c v → IsLooked c v.table v.journal v.reads
idle_looked c v i m = record {
  further = m.further;
  front = m.front;
  before = subst (λ (x : Program). IsTableOf all_rules (record { program = x; query = c.table.query; journal = v.journal }) (table_of v.table)) m.program
      (subst (λ (x : Query). IsTableOf all_rules (record { program = v.table.program; query = x; journal = v.journal }) (table_of v.table)) m.query i.table);
  there = i.there;
}

pub idle_now : (c : CoreValue) → IsCore c → (v : IdleValue) → IsIdle v → MaySettle c v → (v.inside ≡ false → (t : TableIn c) (f : Found) → site_of v.place t.config.roots ≡ Some f → HasNoReason f) → AllWithin c.table v.reads (length v.journal)
    → IsFoundIdle c v.place v.on
idle_now c k v i m reason within = record {
  idle = λ t. idle_later v i c.table.program c.table.query c.journal t.config (record {
    program = m.program;
    query = m.query;
    further = m.further;
    front = m.front;
    replays = t.replays;
    unchanged = λ j r. subst (λ (js : List Label). IsSeen all_rules c.table.program c.table.query js (length v.journal) j) (sym m.front)
        (seen_stamp c.table.program c.table.query v.journal m.further c.table (subst (λ (js : List Label). IsTableOf all_rules (run_of c.table js) (table_of c.table)) m.front k.table)
        (subst (λ (js : List Label). AreMarked all_rules (run_of c.table js) (table_of c.table)) m.front k.marks)
        (subst (λ (js : List Label). AreStoresMarked all_rules (run_of c.table js) (table_of c.table) (mark_of_store c.table)) m.front k.stores) j (within j r));
    no_reason = λ e. reason e t;
  });
}

-- the waits of one place
abbrev pub own_waits : Place → List Var → List Wait
own_waits place [] = []
own_waits place (x ∷ xs) = record { place = place; on = x } ∷ own_waits place xs

kept_in : (place : Place) (on : List Var) (ws : List Wait) (p : Place) (x : Var) → IsKept (own_waits place on ++ ws) p x → ((p ≡ place) × IsAmong x on) ⊎ IsKept ws p x
kept_in place [] ws p x k = inr k
kept_in place (y ∷ ys) ws p x (inl e) = inl (sym e.0, inl (sym e.1))
kept_in place (y ∷ ys) ws p x (inr k) = elim (kept_in place ys ws p x k) [ inl w ↦ inl (w.0, inr w.1) | inr j ↦ inr j ]

own_kept : (place : Place) (on : List Var) (ws : List Wait) (x : Var) → IsAmong x on → IsKept (own_waits place on ++ ws) place x
own_kept place [] ws x i = absurd i
own_kept place (y ∷ ys) ws x (inl e) = inl (refl, sym e)
own_kept place (y ∷ ys) ws x (inr i) = inr (own_kept place ys ws x i)

other_kept : (place : Place) (on : List Var) (ws : List Wait) (p : Place) (x : Var) → IsKept ws p x → IsKept (own_waits place on ++ ws) p x
other_kept place [] ws p x k = k
other_kept place (y ∷ ys) ws p x k = inr (other_kept place ys ws p x k)

among : (x : Var) (xs : List Var) → is_variable_in x xs ≡ true → IsAmong x xs
among x [] e = cc
among x (y ∷ ys) e = elim (or_true (same_var x y) (is_variable_in x ys) e) [ inl f ↦ inl (same_var-equal x y f) | inr f ↦ inr (among x ys f) ]

var_itself : (x : Var) → same_var x x ≡ true
var_itself x = grind (arith, nat_tests)

is_among : (x : Var) (xs : List Var) → IsAmong x xs → is_variable_in x xs ≡ true
is_among x [] i = absurd i
is_among x (y ∷ ys) (inl e) = or_left (same_var x y) (is_variable_in x ys) (ap (same_var x) (sym e) ∙ var_itself x)
is_among x (y ∷ ys) (inr i) = or_right (same_var x y) (is_variable_in x ys) (is_among x ys i)

and_true : (a b : Bool) → (a && b) ≡ true → (a ≡ true) × (b ≡ true)
and_true true b e = (refl, e)
and_true false b e = cc

true_and : (a b : Bool) → a ≡ true → b ≡ true → (a && b) ≡ true
true_and true b e f = f
true_and false b e f = e

suspended : (ws w1 : Waiting) (kept : List Wait) (place : Place) (on : List Var) → AreListed ws kept → Suspends ws place on w1 → AreListed w1 (own_waits place on ++ kept)
suspended ws w1 kept place on a z = record {
  all = λ p x e. elim (or_true (waits_on ws p x) (same_place p place && is_variable_in x on) (sym (z p x) ∙ e)) [
    | inl f ↦ other_kept place on kept p x (a.all p x f)
    | inr f ↦ let w : (same_place p place ≡ true) × (is_variable_in x on ≡ true) = and_true (same_place p place) (is_variable_in x on) f in
        subst (λ (q : Place). IsKept (own_waits place on ++ kept) q x) (sym (same_place-equal p place w.0)) (own_kept place on kept x (among x on w.1))
  ];
  only = λ p x k. z p x ∙ elim (kept_in place on kept p x k) [
    | inl w ↦ or_right (waits_on ws p x) (same_place p place && is_variable_in x on) (true_and (same_place p place) (is_variable_in x on) (ap (λ (q : Place). same_place q place) w.0 ∙ place_itself place) (is_among x on w.1))
    | inr j ↦ or_left (waits_on ws p x) (same_place p place && is_variable_in x on) (a.only p x j)
  ];
}

-- over other lists of the same
settle_as : (xs ys : List Place) → ((p : Place) → IsOneOf p ys → IsOneOf p xs) → (c : Config) (place : Place) (n : Name) → SettleOpens xs c place n → SettleOpens ys c place n
settle_as xs ys h c place n o = record { is_nearest = o.is_nearest; idle = λ other i at. o.idle other (h other i) at }

open_as : (xs ys : List Place) → ((p : Place) → IsOneOf p xs → IsOneOf p ys) → ((p : Place) → IsOneOf p ys → IsOneOf p xs) → (c : Config) (own p : Place) → IsOpenAfterSettle xs c own p → IsOpenAfterSettle ys c own p
open_as xs ys g h c own p (IsOpenAfterSettle.stays i) = IsOpenAfterSettle.stays (g p i)
open_as xs ys g h c own _ (IsOpenAfterSettle.opened {n = n} o) = IsOpenAfterSettle.opened (settle_as xs ys h c own n o)

kept_as : (xs ys : List Place) (ws vs : List Wait) → ((p : Place) → IsOneOf p xs → IsOneOf p ys) → ((p : Place) (x : Var) → IsKept ws p x → IsKept vs p x) → (c : Config) (own : Place) (on : List Var) (p : Place) (x : Var)
    → IsKeptAfterSettle ws xs c own on p x → IsKeptAfterSettle vs ys c own on p x
kept_as xs ys ws vs g h c own on _ x (IsKeptAfterSettle.its_own i) = IsKeptAfterSettle.its_own i
kept_as xs ys ws vs g h c own on p x (IsKeptAfterSettle.another other apart k) = IsKeptAfterSettle.another other (λ n o. apart n (settle_as ys xs g c own n o)) (h p x k)

same_others : (os : Openings) (own : Place) (xs ys : List Place) → AreOthersOpen os own xs → AreOthersOpen os own ys → (p : Place) → IsOneOf p xs → IsOneOf p ys
same_others os own xs ys a b p i = b.all p (a.only p i) (λ e. a.besides (subst (λ (q : Place). IsOneOf q xs) e i))

module _ (s : SchedulerValue) (h : IsScheduler s) (place : Place) (on : List Var) (idle : IsFoundIdle s.core place on) (own : ℕ) (token : IsOpen s.openings place (Some own)) (near : Option Name) (quiet : IsQuietCandidate s.core.table s.openings own place near)
    (mid : Openings) (found : Option ℕ) (opens : OpensCandidate s.core.table s.openings near mid found) (w1 : Waiting) (suspends : Suspends s.waits place on w1) (w2 : Waiting) (drops : DropsWaits w1 (opened_box near found) w2) where
  abbrev now : Openings
  now = closed own mid

  abbrev t : TableIn s.core
  t = h.core.table

  abbrev c : Config
  c = t.config

  abbrev still : List Place
  still = others place h.now

  others_so : AreOthersOpen s.openings place still
  others_so = others_listed s.openings place h.now h.are_open

  abbrev Left : Type 0
  Left = Leaves s.core.table s.core.journal t place s.openings h.now h.are_open h.standing h.apart own token still others_so w1 now w2 found

  left : Left
  left = after.leaves s.core.table s.core.journal t place s.openings h.now h.are_open h.standing h.apart own token still others_so near mid found quiet w1 w2 opens drops

  now_apart : AreApart now
  now_apart = after.now_apart s.core.table s.core.journal t place s.openings h.now h.are_open h.standing h.apart own token still others_so w1 now w2 found left

  are_now : AreOpenPlaces now (open_places now)
  are_now = all_listed now now_apart

  open_is : (other : Place) → IsOpenAt now other → IsOpenAfterSettle still c place other
  open_is = after.open_is s.core.table s.core.journal t place s.openings h.now h.are_open h.standing h.apart own token still others_so w1 now w2 found left

  open_all : (other : Place) → IsOpenAfterSettle still c place other → IsOpenAt now other
  open_all = after.open_all s.core.table s.core.journal t place s.openings h.now h.are_open h.standing h.apart own token still others_so w1 now w2 found left

  own_open : IsOneOf place h.now
  own_open = h.are_open.all place (its_open s.openings place own token)

  abbrev both : List Wait
  both = own_waits place on ++ h.kept

  listed_both : AreListed w1 both
  listed_both = suspended s.waits w1 h.kept place on h.listed suspends

  -- the waits that are left
  record AreLeft (kept : List Wait) : Type 0 where
    listed : AreListed w2 kept
    left_by : AreLeftBySettle h.kept still c place on kept

  kept_from : (p : Place) (x : Var) → IsKept both p x → ((n : Name) → SettleOpens still c place n → p ≡ Place.Box n → ⊥) → IsKeptAfterSettle h.kept still c place on p x
  kept_from p x k n = elim (kept_in place on h.kept p x k) [
    | inl w ↦ subst (λ (q : Place). IsKeptAfterSettle h.kept still c place on q x) (sym w.0) (IsKeptAfterSettle.its_own w.1)
    | inr j ↦ IsKeptAfterSettle.another (λ e. h.waits.closed p x j (subst (λ (q : Place). IsOneOf q h.now) (sym e) own_open)) n j
  ]

  kept_to : (p : Place) (x : Var) → IsKeptAfterSettle h.kept still c place on p x → IsKept both p x
  kept_to _ x (IsKeptAfterSettle.its_own i) = own_kept place on h.kept x i
  kept_to p x (IsKeptAfterSettle.another other apart k) = other_kept place on h.kept p x k

  opened_apart : (n : Name) → SettleOpens still c place n → (p : Place) (x : Var) → IsKeptAfterSettle h.kept still c place on p x → p ≡ Place.Box n → ⊥
  opened_apart n o _ x (IsKeptAfterSettle.its_own i) e = after.not_own s.core.table s.core.journal t place s.openings h.now h.are_open h.standing h.apart own token still others_so n o.is_nearest (sym e)
  opened_apart n o p x (IsKeptAfterSettle.another other apart k) e = apart n o e

  are_left : (kept : List Wait) × AreLeft kept
  are_left = by left
    where
      by : Left → (kept : List Wait) × AreLeft kept
      by (Leaves.closes e shut drops g) = (
        kept_but [] both,
        record {
          listed = listed_but w1 w2 both [] listed_both drops;
          left_by = record { each = λ p x k. kept_from p x (but_kept [] both p x k).0 (λ n o q. shut n o); all = λ p x k. kept_still [] both p x (kept_to p x k) refl };
        },
      )
      by (Leaves.opens n token_now o so free of_box around at apart drops g) = (
        kept_but (Place.Box n ∷ []) both,
        record {
          listed = listed_but w1 w2 both (Place.Box n ∷ []) listed_both drops;
          left_by = record {
            each = λ p x k.
                let y : IsKept both p x × (is_place_in p (Place.Box n ∷ []) ≡ false) = but_kept (Place.Box n ∷ []) both p x k in
                kept_from p x y.0 (λ m q e. not_both (place_listed p (Place.Box n ∷ []) (inl (e ∙ ap Place.Box (some_value (sym q.is_nearest ∙ so.is_nearest))))) y.1);
            all = λ p x k. kept_still (Place.Box n ∷ []) both p x (kept_to p x k)
                (not_true (is_place_in p (Place.Box n ∷ [])) (λ e. elim (listed_place p (Place.Box n ∷ []) e) [ inl q ↦ opened_apart n so p x k q | inr z ↦ absurd z ]));
          };
        },
      )

  abbrev kept_now : List Wait
  kept_now = are_left.0

  pub settled_scheduler : IsScheduler (record { core = s.core; openings = now; waits = w2 })
  settled_scheduler = record {
    core = h.core;
    now = open_places now;
    are_open = are_now;
    kept = kept_now;
    listed = are_left.1.listed;
    run = runs.settles {own = place} h.run (record {
      unready = (idle.idle t).unready;
      kept = on;
      enough = (idle.idle t).enough;
      still = still;
      closes = λ p i. elim (place_or p place) [ inl e ↦ inl e | inr n ↦ inr (others_so.all p (h.are_open.only p i) n) ];
      opens = λ p o. are_now.all p (open_all p o);
      keeps = are_left.1.left_by.all;
    });
    waits = keeping.kept_by_settle all_rules s.core.table.program s.core.table.query s.core.journal c t.replays h.now h.kept still (open_places now) kept_now h.waits place on
        (idle.idle t).scoped (idle.idle t).oldest
        (λ p i. h.are_open.all p (others_so.only p i)) others_so.besides (λ p i. open_is p (are_now.only p i)) are_left.1.left_by;
    apart = now_apart;
    standing = after.now_stands s.core.table s.core.journal t place s.openings h.now h.are_open h.standing h.apart own token still others_so w1 now w2 found left;
  }

  abbrev d : SchedulerValue
  d = record { core = s.core; openings = now; waits = w2 }

  module _ (u : TableIn s.core) (xs : List Place) (ws : List Wait) (same_xs : AreOthersOpen s.openings place xs) (same_ws : AreListed s.waits ws) where
    c_is : c ≡ u.config
    c_is = one_config s.core t u

    there : (p : Place) → IsOneOf p still → IsOneOf p xs
    there = same_others s.openings place still xs others_so same_xs

    back : (p : Place) → IsOneOf p xs → IsOneOf p still
    back = same_others s.openings place xs still same_xs others_so

    kept_there : (p : Place) (x : Var) → IsKept h.kept p x → IsKept ws p x
    kept_there p x k = same_ws.all p x (h.listed.only p x k)

    kept_back : (p : Place) (x : Var) → IsKept ws p x → IsKept h.kept p x
    kept_back p x k = h.listed.all p x (same_ws.only p x k)

    opens_back : (n : Name) → SettleOpens xs u.config place n → SettleOpens still c place n
    opens_back n o = subst (λ (y : Config). SettleOpens still y place n) (sym c_is) (settle_as xs still there u.config place n o)

    opens_there : (n : Name) → SettleOpens still c place n → SettleOpens xs u.config place n
    opens_there n o = subst (λ (y : Config). SettleOpens xs y place n) c_is (settle_as still xs back c place n o)

    token_so : IsTokenOfOpened s d place u.config xs found
    token_so = by left
      where
        by : Left → IsTokenOfOpened s d place u.config xs found
        by (Leaves.closes e shut w g) = record { opened = λ k f. absurd (some_none f g); none = λ f n o. shut n (opens_back n o) }
        by (Leaves.opens n k o so free of_box around at apart drops g) = record {
          opened = λ j f. (n, opens_there n so, (o, opened_at k o at j (some_value (sym g ∙ f)), of_box));
          none = λ f. absurd (some_none g f);
        }
          where
            opened_at : (k : ℕ) (o : Opening) → ((m : ℕ) → opening_at m now ≡ cond (eqb m k) (Some o) (opening_at m (closed own s.openings))) → (j : ℕ) → k ≡ j → opening_at j now ≡ Some o
            opened_at k o at j e = ap (λ (m : ℕ). opening_at m now) (sym e) ∙ at k ∙ ap (λ (b : Bool). cond b (Some o) (opening_at k (closed own s.openings))) (token_here k)

    left_so : IsLeftBySettle s d place on u.config xs ws found
    left_so = record {
      is_open = λ other. (
        λ i. subst (λ (y : Config). IsOpenAfterSettle xs y place other) c_is (open_as still xs there back c place other (open_is other i)),
        λ o. open_all other (open_as xs still back there c place other (subst (λ (y : Config). IsOpenAfterSettle xs y place other) (sym c_is) o)),
      );
      waits = λ other x. (
        λ e. subst (λ (y : Config). IsKeptAfterSettle ws xs y place on other x) c_is (kept_as still xs h.kept ws there kept_there c place on other x (are_left.1.left_by.each other x (are_left.1.listed.all other x e))),
        λ k. are_left.1.listed.only other x (are_left.1.left_by.all other x (kept_as xs still ws h.kept back kept_back c place on other x (subst (λ (y : Config). IsKeptAfterSettle ws xs y place on other x) (sym c_is) k))),
      );
      token = token_so;
    }

  pub settled_so : Settles s place on d found
  settled_so = record {
    core = refl;
    unopened = λ n. absurd (n (its_open s.openings place own token));
    settled = λ i u xs ws a b. left_so u xs ws a b;
    lighter = λ i. after.lighter s.core.table s.core.journal t place s.openings h.now h.are_open h.standing h.apart own token still others_so near mid found quiet opens;
    keeps = settle_keeps s.core.table s.openings h.apart near mid found opens own place token;
  }
