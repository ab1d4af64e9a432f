-- What is kept of the choices by which boxes could be split is enough for a settle, and a scheduler keeps it.
use Rattle.std.proofs.Common.{◌≡◌, ℕ, ◌≤◌, Bool, List, [], Option, Some, None, true, false, refl, sym, ap, subst, ◌∙◌, inl, inr}
use Rattle.std.specs.Prelude.{cond, is_some, IfSome}
use Rattle.akl_terms.specs.declared.name.Name.{Name}
use Rattle.akl_terms.specs.declared.name.Var.{Var}
use Rattle.akl_terms.specs.declared.name.Place.{Place}
use Rattle.akl_model.specs.Config.{IsIn}
use Rattle.akl_model.specs.Wakes.{StandsIn, IsOpenAfterSettle}
use Rattle.akl_model.proofs.Finds.{times}
use Rattle.akl_model.proofs.Options.{some_value}
use Rattle.wake_lists.specs.Open.{Opening, Openings, opening_at, IsOpen, closed, untimed, is_busy}
use Rattle.wake_lists.specs.Standing.{is_in}
use Rattle.wake_lists.proofs.Keys.{token_equal}
use Rattle.table_laws.specs.Inside.{IsDirectlyIn}
use Rattle.table_laws.specs.Rows.{BoxRow, Table}
use Rattle.table_laws.specs.Stamped.{Run, IsTableOf}
use Rattle.box_tree.specs.Tables.{all_rules, TableValue, table_of, goals_in}
use Rattle.box_tree.specs.Views.{is_there}
use Rattle.box_tree.specs.Insides.{candidate_at, candidate_in}
use Rattle.opened_places.proofs.RunRows as run_rows
use Rattle.step_commit.specs.Cores.{CoreValue, IsCore, run_by}
use Rattle.scheduler.specs.declared.splits.Split.{Split}
use Rattle.scheduler.specs.AllPlaces.{AreAllOpen}
use Rattle.scheduler.specs.Nearest.{is_used}
use Rattle.scheduler.specs.Openings.{IsOpenAt, AreApart, AreStandingIn}
use Rattle.scheduler.specs.Schedulers.{SchedulerValue, IsScheduler, HasGone}
use Rattle.scheduler.specs.Settled.{Settles}
use Rattle.scheduler.specs.Splits.{is_kept, has_kept, split_at, KeepsPlace, AreSplitsOf, KeepsSplits, IsOldestIn, IsOldestCandidate, AreEnough}
use Rattle.scheduler.proofs.CommitFacts.{not_both, not_true}
use Rattle.scheduler.proofs.KeptSplits.{kept_has, has_one}
use Rattle.scheduler.proofs.OpeningLists.{out_at}
use Rattle.scheduler.proofs.OpenedMore.{none_of, its_open}
use Rattle.scheduler.proofs.OpenPlaces.{others, others_listed}
use Rattle.scheduler.proofs.SettleAfter.{some_busy}
use Rattle.scheduler.proofs.SplitRows.{split_row, split_in, goal_split, box_split, split_directly, split_box}
use Rattle.scheduler.proofs.SplitsAfter.{still_splits, kept_with, its_kept, closes_one}
use Rattle.scheduler.proofs.Untimed.{untimed_open}
use lib.Dec.{eqb}

-- the alternative at which a box could be split by a goal
abbrev pub candidate_by : Table → Option Name → Option Name
candidate_by T None = None
candidate_by T (Some g) = candidate_at T (T.goal_of g)

-- where all places are open none need be kept
pub started_splits : (c : CoreValue) (os : Openings) → IsCore c → AreAllOpen c os → AreSplitsOf (table_of c.table) os []
started_splits c os k a = record {
  all = λ s e. inl (a.all k.table (Place.Goal s.goal) (split_in (table_of c.table) k.table.config k.table.unfolds (run_rows.once c.table (run_by c) k.table) s e).there);
  only = λ s e. cc;
}

-- turns don't count
pub untimed_splits : (v : TableValue) (a b : Openings) (kept : List Split) → untimed b ≡ untimed a → AreSplitsOf (table_of v) a kept → AreSplitsOf (table_of v) b kept
untimed_splits v a b kept e are = still_splits (table_of v) a b kept (λ s f i. untimed_open b a (sym e) (Place.Goal s.goal) i) are

-- what is open under another token stays open
besides : (os : Openings) (token : ℕ) (place : Place) → AreApart os → (w : IsOpenAt os place) → eqb w.token token ≡ false → opening_at w.token (closed token os) ≡ Some w.opening
besides os token place a w e = out_at token os a w.token ∙ ap (λ (b : Bool). cond b None (opening_at w.token os)) e ∙ w.is_open

open_besides : (os : Openings) (token : ℕ) (place : Place) → AreApart os → (w : IsOpenAt os place) → eqb w.token token ≡ false → IsOpenAt (closed token os) place
open_besides os token place a w e = record {
  token = w.token;
  opening = w.opening;
  is_open = besides os token place a w e;
  of_place = w.of_place;
}

-- one that has gone is none of them
pub forgotten_splits : (s : SchedulerValue) → IsScheduler s → (token : ℕ) → HasGone s token → (kept : List Split) → AreSplitsOf (table_of s.core.table) s.openings kept → AreSplitsOf (table_of s.core.table) (closed token s.openings) kept
forgotten_splits s h token gone kept are = still_splits (table_of s.core.table) s.openings (closed token s.openings) kept stays are
  where
    stays : (x : Split) → split_at (table_of s.core.table) (Place.Goal x.goal) ≡ Some x → IsOpenAt s.openings (Place.Goal x.goal) → IsOpenAt (closed token s.openings) (Place.Goal x.goal)
    stays x e w = open_besides s.openings token (Place.Goal x.goal) h.apart w (not_true (eqb w.token token) another)
      where
        there : is_there (table_of s.core.table) (Place.Goal x.goal) ≡ true
        there = ap is_some (split_row (table_of s.core.table) x e).there

        another : eqb w.token token ≡ true → ⊥
        another f =
            let o : opening_at token s.openings ≡ Some w.opening = ap (λ (k : ℕ). opening_at k s.openings) (sym (token_equal w.token token f)) ∙ w.is_open in
            let none : is_there (table_of s.core.table) w.opening.place ≡ false = subst (λ (z : Option Opening). IfSome z (λ (y : Opening). is_there (table_of s.core.table) y.place ≡ false)) o gone in
            not_both (ap (is_there (table_of s.core.table)) w.of_place ∙ there) none

-- what a settle leaves open
pub settled_stays : (s d : SchedulerValue) → IsScheduler s → (place : Place) (on : List Var) (r : Option ℕ) → Settles s place on d r → IsOpenAt s.openings place → (other : Place) → IsOpenAt s.openings other → (other ≡ place → ⊥) → IsOpenAt d.openings other
settled_stays s d h place on r x i other w n =
    let still : List Place = others place h.now in
    let o : _ = others_listed s.openings place h.now h.are_open in
    ((x.settled i h.core.table still h.kept o h.listed).is_open other).1 (IsOpenAfterSettle.stays (o.all other w n))

-- of a box of which all are kept
module _ (v : TableValue) (run : Run) (t : IsTableOf all_rules run (table_of v)) (kept : List Split) (only : (s : Split) → is_kept s kept ≡ true → split_at (table_of v) (Place.Goal s.goal) ≡ Some s) (n : Name)
    (all : (s : Split) → s.name ≡ n → split_at (table_of v) (Place.Goal s.goal) ≡ Some s → is_kept s kept ≡ true) where
  its_once : (m : Name) → times m t.config.roots ≤ 1
  its_once = run_rows.once v run t

  pub box_enough : is_some (candidate_in (table_of v) n) ≡ has_kept n kept
  box_enough = on (is_some (candidate_in (table_of v) n)) refl (has_kept n kept) refl
    where
      on : (x : Bool) → is_some (candidate_in (table_of v) n) ≡ x → (y : Bool) → has_kept n kept ≡ y → x ≡ y
      on true e true f = refl
      on false e false f = refl
      on true e false f =
          let w : (s : Split) × (s.name ≡ n) × (split_at (table_of v) (Place.Goal s.goal) ≡ Some s) = box_split (table_of v) t.config t.unfolds its_once n e in
          absurd (not_both (ap (λ (m : Name). has_kept m kept) (sym w.1) ∙ kept_has w.0 kept (all w.0 w.1 w.2)) f)
      on false e true f =
          let w : (s : Split) × (s.name ≡ n) × (is_kept s kept ≡ true) = has_one n kept f in
          absurd (not_both (ap (λ (m : Name). is_some (candidate_in (table_of v) m)) (sym w.1) ∙ split_box (table_of v) t.config t.unfolds its_once w.0 (only w.0 w.2)) e)

  -- it could be split by the oldest of them
  by_oldest : (g : Name) → IsOldestIn v n kept (Some g) → IsOldestCandidate v n (candidate_at (table_of v) ((table_of v).goal_of g))
  by_oldest g f = on (candidate_at (table_of v) ((table_of v).goal_of g)) refl
    where
      s : Split
      s = record { name = n; goal = g }

      e : split_at (table_of v) (Place.Goal g) ≡ Some s
      e = only s f.0

      d : IsDirectlyIn (table_of v) n g
      d = split_directly (table_of v) t.config t.unfolds its_once s e

      named : (h : Name) → IsIn h (goals_in ((table_of v).box_of n)) → IsIn h d.row.goals
      named h i = subst (λ (o : Option BoxRow). IsIn h (goals_in o)) d.there i

      on : (o : Option Name) → candidate_at (table_of v) ((table_of v).goal_of g) ≡ o → IsOldestCandidate v n o
      on None i = absurd (not_both (split_row (table_of v) s e).candidate (ap is_some i))
      on (Some a) i = (
        g,
        subst (λ (o : Option BoxRow). IsIn g (goals_in o)) (sym d.there) d.named,
        i,
        λ h j c. f.1 h (all (record { name = n; goal = h }) refl (goal_split (table_of v) t.config t.unfolds its_once n h d.row d.there (named h j) c)),
      )

  pub oldest_splits : (o : Option Name) → IsOldestIn v n kept o → IsOldestCandidate v n (candidate_by (table_of v) o)
  oldest_splits None f = none_of (candidate_in (table_of v) n) (box_enough ∙ f)
  oldest_splits (Some g) f = by_oldest g f

-- a scheduler keeps all of a box in which nothing is open
module _ (s : SchedulerValue) (kept : List Split) (h : KeepsSplits s kept) (n : Name) (b : is_busy n s.openings ≡ false) where
  all_kept : (x : Split) → x.name ≡ n → split_at (table_of s.core.table) (Place.Goal x.goal) ≡ Some x → is_kept x kept ≡ true
  all_kept x e f = elim (h.splits.all x f) [
    | inr k ↦ k
    | inl w ↦
        let stands : StandsIn x.name h.scheduler.core.table.config.roots (Place.Goal x.goal) =
        (split_in (table_of s.core.table) h.scheduler.core.table.config h.scheduler.core.table.unfolds (run_rows.once s.core.table (run_by s.core) h.scheduler.core.table) x f).stands in
        let inside : is_in x.name w.opening.boxes ≡ true =
        h.scheduler.standing.around w.token w.opening x.name w.is_open (subst (StandsIn x.name h.scheduler.core.table.config.roots) (sym w.of_place) stands) in
        absurd (not_both (ap (λ (m : Name). is_busy m s.openings) (sym e) ∙ some_busy x.name s.openings w.token w.opening w.is_open inside) b)
  ]

  pub quiet_enough : is_some (candidate_in (table_of s.core.table) n) ≡ has_kept n kept
  quiet_enough = box_enough s.core.table (run_by s.core) h.scheduler.core.table kept h.splits.only n all_kept

  pub quiet_splits : (o : Option Name) → IsOldestIn s.core.table n kept o → IsOldestCandidate s.core.table n (candidate_by (table_of s.core.table) o)
  quiet_splits = oldest_splits s.core.table (run_by s.core) h.scheduler.core.table kept h.splits.only n all_kept

-- of a box in which nothing is open but one place, all are kept
module _ (v : TableValue) (run : Run) (t : IsTableOf all_rules run (table_of v)) (os : Openings) (apart : AreApart os) (standing : AreStandingIn t.config os) (place : Place) (own : ℕ) (token : IsOpen os place (Some own))
    (kept : List Split) (are : AreSplitsOf (table_of v) os kept) (known : (s : Split) → place ≡ Place.Goal s.goal → split_at (table_of v) (Place.Goal s.goal) ≡ Some s → is_kept s kept ≡ true) where
  once : (m : Name) → times m t.config.roots ≤ 1
  once = run_rows.once v run t

  its_own : (s : Split) → is_used os own s.name ≡ false → split_at (table_of v) (Place.Goal s.goal) ≡ Some s → IsOpenAt os (Place.Goal s.goal) → place ≡ Place.Goal s.goal
  its_own s b e w = on (eqb w.token own) refl
    where
      inside : is_in s.name w.opening.boxes ≡ true
      inside = standing.around w.token w.opening s.name w.is_open (subst (StandsIn s.name t.config.roots) (sym w.of_place) (split_in (table_of v) t.config t.unfolds once s e).stands)

      on : (c : Bool) → eqb w.token own ≡ c → place ≡ Place.Goal s.goal
      on true f =
          let y : (o : Opening) × (opening_at own os ≡ Some o) × (o.place ≡ place) = token.back own refl in
          sym y.2 ∙ ap (λ (o : Opening). o.place) (some_value (sym y.1 ∙ ap (λ (k : ℕ). opening_at k os) (sym (token_equal w.token own f)) ∙ w.is_open)) ∙ w.of_place
      on false f = absurd (not_both (some_busy s.name (closed own os) w.token w.opening (besides os own (Place.Goal s.goal) apart w f) inside) b)

  all_known : (s : Split) → is_used os own s.name ≡ false → split_at (table_of v) (Place.Goal s.goal) ≡ Some s → is_kept s kept ≡ true
  all_known s b e = elim (are.all s e) [ inr k ↦ k | inl i ↦ known s (its_own s b e i) e ]

  pub splits_enough : AreEnough v os own kept
  splits_enough n b = box_enough v run t kept are.only n (λ s e. all_known s (ap (is_used os own) e ∙ b))

-- a settle keeps what stands at its place, before this closes
module _ (s : SchedulerValue) (before now : List Split) (h : KeepsSplits s before) (place : Place) (keeps : KeepsPlace (table_of s.core.table) place before now) where
  pub place_kept : KeepsSplits s now
  place_kept = record { scheduler = h.scheduler; splits = kept_with (table_of s.core.table) s.openings place before now h.splits keeps }

  known : (x : Split) → place ≡ Place.Goal x.goal → split_at (table_of s.core.table) (Place.Goal x.goal) ≡ Some x → is_kept x now ≡ true
  known = its_kept (table_of s.core.table) s.openings place before now h.splits keeps

  module _ (own : ℕ) (token : IsOpen s.openings place (Some own)) where
    pub place_enough : AreEnough s.core.table s.openings own now
    place_enough = splits_enough s.core.table (run_by s.core) h.scheduler.core.table s.openings h.scheduler.apart h.scheduler.standing place own token now place_kept.splits known

    pub settled_splits : (d : SchedulerValue) → IsScheduler d → (on : List Var) (r : Option ℕ) → Settles s place on d r → KeepsSplits d now
    settled_splits d k on r x = record {
      scheduler = k;
      splits = subst (λ (c : CoreValue). AreSplitsOf (table_of c.table) d.openings now) (sym x.core)
          (closes_one (table_of s.core.table) s.openings d.openings place now place_kept.splits known (settled_stays s d h.scheduler place on r x (its_open s.openings place own token)));
    }
