-- A commit keeps what a scheduler is, and makes of it what it is to.
use Rattle.std.proofs.Common.{◌≡◌, ℕ, true, List, ◌∷◌, ◌++◌, Option, sym, subst, ◌⊎◌, inl, inr}
use Rattle.std.specs.Prelude.{⊤}
use Rattle.akl_terms.specs.declared.name.Var.{Var}
use Rattle.akl_terms.specs.declared.name.Place.{Place}
use Rattle.akl_terms.specs.declared.program.Program.{Program}
use Rattle.akl_terms.specs.declared.program.Query.{Query}
use Rattle.akl_model.specs.declared.label.Label.{Label}
use Rattle.akl_model.specs.declared.label.Receipt.{Receipt}
use Rattle.akl_model.specs.Config.{Config}
use Rattle.akl_model.specs.Instances.{start}
use Rattle.akl_model.specs.Derivations.{Replays}
use Rattle.akl_model.specs.Wakes.{Wait, IsKept, IsOneOf, Opens, IsOpenAfterCommit, IsKeptAfterCommit}
use Rattle.akl_model.proofs.Results.{Derives-one}
use Rattle.plan_laws.specs.Runs.{Runs}
use Rattle.plan_laws.specs.Kept.{AreLeftByCommit}
use Rattle.table_laws.specs.Steps as laws
use Rattle.box_tree.specs.Tables.{all_rules, step_in, table_of}
use Rattle.box_tree.specs.Plans.{PlanValue, IsRight}
use Rattle.wake_lists.specs.Open.{Openings, IsOpen}
use Rattle.wake_lists.specs.Waits.{waits_on}
use Rattle.step_commit.specs.Cores.{CoreValue, IsCore, MayCommit, IsFresh, Commits, run_by, TableIn}
use Rattle.opened_places.specs.Placed.{PlacedValue, places_of}
use Rattle.opened_places.specs.Gone.{AreAllGone, AreGone}
use Rattle.opened_places.proofs.OpenedWays.{opens_law}
use Rattle.opened_places.proofs.RunRows as run_rows
use Rattle.scheduler.specs.Openings.{IsOpenAt, AreOpenPlaces, AreListed, AreNewTokens, KeepsTokens}
use Rattle.scheduler.specs.Opening.{AreOpened}
use Rattle.scheduler.specs.Dropping.{DropsWaits, after_going}
use Rattle.scheduler.specs.Listing.{AreListedFor}
use Rattle.scheduler.specs.Schedulers.{SchedulerValue, IsScheduler}
use Rattle.scheduler.specs.Committed.{IsOpenAndKept, CommitsWithTurns, OpensAmong}
use Rattle.scheduler.specs.declared.committing.Committed.{Committed}
use Rattle.scheduler.specs.declared.splits.Split.{Split}
use Rattle.scheduler.specs.Splits.{splits_at, DropsSplits, AreSplitsOf}
use Rattle.scheduler.proofs.DroppedWaits.{Waiting}
use Rattle.scheduler.proofs.CommitFacts.{CommitFacts}
use Rattle.scheduler.proofs.OpenAfter as after
use Rattle.scheduler.proofs.KeptTokens.{going_keeps}
use Rattle.scheduler.proofs.KeptAfter.{kept_but, listed_but, left_by}
use Rattle.scheduler.proofs.OpenPlaces.{open_places, all_listed}
use Rattle.scheduler.proofs.CoreTables.{one_config}
use Rattle.scheduler.proofs.Effecting.{opened_so}
use Rattle.scheduler.proofs.LabelFacts.{commit_facts}
use Rattle.scheduler.proofs.Leading as leading
use Rattle.scheduler.proofs.PlanNow.{IsMadeTo, IsMadeAt, made_now}
use Rattle.scheduler.proofs.SplitsAfter.{label_splits}

-- what is opened where other lists have the same waits and places
opens_as : (ws vs : List Wait) → ((p : Place) (x : Var) → IsKept ws p x → IsKept vs p x) → (c d : Config) (p : Place) → Opens ws c d p → Opens vs c d p
opens_as ws vs h c d p o = elim ((opens_law ws c d p).0 o) [
  | inl k ↦ (opens_law vs c d p).1 (inl k)
  | inr w ↦ elim w [
    | inl k ↦ (opens_law vs c d p).1 (inr (inl (record { box = k.box; variable = k.variable; kept = h p k.variable k.kept; binds = k.binds })))
    | inr k ↦ (opens_law vs c d p).1 (inr (inr k))
  ]
]

after_as : (ps qs : List Place) (ws vs : List Wait) → ((p : Place) → IsOneOf p ps → IsOneOf p qs) → ((p : Place) (x : Var) → IsKept ws p x → IsKept vs p x) → (l : Label) (c d : Config) (p : Place)
    → IsOpenAfterCommit ps ws l c d p → IsOpenAfterCommit qs vs l c d p
after_as ps qs ws vs g h l c d p (IsOpenAfterCommit.stays i k) = IsOpenAfterCommit.stays (g p i) k
after_as ps qs ws vs g h l c d p (IsOpenAfterCommit.opened o) = IsOpenAfterCommit.opened (opens_as ws vs h c d p o)

kept_as : (ws vs : List Wait) → ((p : Place) (x : Var) → IsKept ws p x → IsKept vs p x) → ((p : Place) (x : Var) → IsKept vs p x → IsKept ws p x) → (c d : Config) (p : Place) (x : Var) → IsKeptAfterCommit ws c d p x → IsKeptAfterCommit vs c d p x
kept_as ws vs g h c d p x k = record { kept = g p x k.kept; unopened = λ o. k.unopened (opens_as vs ws h c d p o); there = k.there }

-- lists of the same places and of the same waits
same_places : (os : Openings) (ps qs : List Place) → AreOpenPlaces os ps → AreOpenPlaces os qs → (p : Place) → IsOneOf p ps → IsOneOf p qs
same_places os ps qs a b p i = b.all p (a.only p i)

same_waits : (w : Waiting) (ws vs : List Wait) → AreListed w ws → AreListed w vs → (p : Place) (x : Var) → IsKept ws p x → IsKept vs p x
same_waits w ws vs a b p x k = b.all p x (a.only p x k)

module _ (s : SchedulerValue) (h : IsScheduler s) (p : PlanValue) (right : IsRight p) (may : MayCommit s.core p) (fresh : IsFresh s.core p) (gone : List Place) (are_gone : AreGone s.core.table p.label p.step gone)
    (ps : List PlacedValue) (listed : AreListedFor s.core.table s.waits p gone ps) (mid : Openings) (ts : List ℕ) (opened : AreOpened s.openings ps mid ts) (own : Option ℕ) (token : IsOpen s.openings p.label.place own)
    (core : CoreValue) (k : IsCore core) (receipt : Receipt) (commits : Commits s.core p core receipt) (w1 w2 : Waiting) (d1 : DropsWaits s.waits (places_of ps) w1) (d2 : DropsWaits w1 gone w2) where
  abbrev l : Label
  l = p.label

  abbrev P : Program
  P = s.core.table.program

  abbrev Q : Query
  Q = s.core.table.query

  abbrev t : TableIn s.core
  t = h.core.table

  abbrev u : TableIn core
  u = k.table

  abbrev made_step : laws.Step
  made_step = step_in s.core.table p.label p.step

  -- it leads to the configuration of the core afterwards
  replays_now : Replays all_rules P Q (s.core.journal ++ l ∷ p.more) u.config
  replays_now = subst (λ (j : List Label). Replays all_rules P Q j u.config) commits.journal
      (subst (λ (x : Query). Replays all_rules P x core.journal u.config) commits.fixed.query (subst (λ (x : Program). Replays all_rules x core.table.query core.journal u.config) commits.fixed.program u.replays))

  made : IsMadeTo P t.config l p.more made_step p.binds u.config
  made =
      let x : IsMadeAt P t.config l p.more made_step p.binds = made_now s.core h.core p right may fresh t in
      subst (IsMadeTo P t.config l p.more made_step p.binds) (Derives-one all_rules P (start P Q) x.result u.config (s.core.journal ++ l ∷ p.more) (leading.replays_on s.core.table s.core.journal t l p.more made_step x.result x.made.leads).derives replays_now.derives) x.made

  all_gone : AreAllGone t.config u.config gone
  all_gone = are_gone s.core.journal t p.more u.config made.leads

  facts : CommitFacts t.config u.config l.place h.now h.kept ps gone
  facts = commit_facts s.core.table s.core.journal t l p.more made_step u.config made.leads gone all_gone h.now h.kept h.run h.waits ps
      (opened_so s.core.table s.core.journal t p u.config made gone all_gone h.now h.kept h.waits s.waits h.listed ps listed)

  abbrev now : Openings
  now = after_going own l.place gone mid

  abbrev left : List Wait
  left = kept_but gone (kept_but (places_of ps) h.kept)

  after_is : (place : Place) → IsOpenAt now place → IsOpenAfterCommit h.now h.kept l t.config u.config place
  after_is = after.after_is t.config u.config l h.now h.kept ps gone facts s.openings h.are_open h.standing h.apart mid ts opened own token

  after_all : (place : Place) → IsOpenAfterCommit h.now h.kept l t.config u.config place → IsOpenAt now place
  after_all = after.after_all t.config u.config l h.now h.kept ps gone facts s.openings h.are_open h.standing h.apart mid ts opened own token

  are_open : AreOpenPlaces now (open_places now)
  are_open = all_listed now (after.now_apart t.config u.config l h.now h.kept ps gone facts s.openings h.are_open h.standing h.apart mid ts opened own token)

  left_so : AreLeftByCommit h.kept t.config u.config left
  left_so = left_by t.config u.config l.place h.now h.kept ps gone facts

  listed_now : AreListed w2 left
  listed_now = listed_but w1 w2 (kept_but (places_of ps) h.kept) gone (listed_but s.waits w1 h.kept (places_of ps) h.listed d1) d2

  is_before : (place : Place) → IsOneOf place (open_places now) → IsOneOf place h.now ⊎ Opens h.kept t.config u.config place
  is_before place i = on place (after_is place (are_open.only place i))
    where
      on : (q : Place) → IsOpenAfterCommit h.now h.kept l t.config u.config q → IsOneOf q h.now ⊎ Opens h.kept t.config u.config q
      on q (IsOpenAfterCommit.stays j m) = inl j
      on q (IsOpenAfterCommit.opened o) = inr o

  run_now : Runs all_rules core.table.program core.table.query core.journal u.config (open_places now) left
  run_now = subst (λ (x : Program). Runs all_rules x core.table.query core.journal u.config (open_places now) left) (sym commits.fixed.program)
      (subst (λ (x : Query). Runs all_rules P x core.journal u.config (open_places now) left) (sym commits.fixed.query)
      (subst (λ (j : List Label). Runs all_rules P Q j u.config (open_places now) left) (sym commits.journal)
      (leading.runs_on s.core.table s.core.journal t l p.more made_step u.config h.now h.kept (open_places now) left made.leads made.silent h.run (record { opens = λ place o. are_open.all place (after_all place o); keeps = left_so.all }))))

  pub committed_scheduler : IsScheduler (record { core = core; openings = now; waits = w2 })
  committed_scheduler = record {
    core = k;
    now = open_places now;
    are_open = are_open;
    kept = left;
    listed = listed_now;
    run = run_now;
    waits = leading.waits_on s.core.table s.core.journal t l p.more made_step u.config h.now h.kept (open_places now) left made.leads made.silent h.waits is_before left_so;
    apart = after.now_apart t.config u.config l h.now h.kept ps gone facts s.openings h.are_open h.standing h.apart mid ts opened own token;
    standing = after.standing_after t.config u.config l h.now h.kept ps gone facts s.openings h.are_open h.standing h.apart mid ts opened own token;
  }

  -- the choices that it keeps by which boxes could be split
  pub committed_splits : (before left_kept : List Split) → AreSplitsOf (table_of s.core.table) s.openings before
      → DropsSplits (splits_at (table_of s.core.table) (places_of ps) ++ splits_at (table_of s.core.table) gone) before left_kept → AreSplitsOf (table_of core.table) now left_kept
  committed_splits before left_kept are drops =
      label_splits (table_of s.core.table) (table_of core.table) t.config u.config t.unfolds u.unfolds (run_rows.once s.core.table (run_by s.core) t) (run_rows.once core.table (run_by core) u) l.place h.now h.kept ps gone facts s.openings now
      (λ place i m. after_all place (IsOpenAfterCommit.stays (h.are_open.all place i) (λ e. m))) (λ place o. after_all place (IsOpenAfterCommit.opened o)) before left_kept are drops

  -- over any lists, and any configurations of the cores
  module _ (v : TableIn s.core) (w : TableIn core) (before : List Place) (kept : List Wait) (same_open : AreOpenPlaces s.openings before) (same_kept : AreListed s.waits kept) where
    places_there : (q : Place) → IsOneOf q h.now → IsOneOf q before
    places_there = same_places s.openings h.now before h.are_open same_open

    places_back : (q : Place) → IsOneOf q before → IsOneOf q h.now
    places_back = same_places s.openings before h.now same_open h.are_open

    waits_there : (q : Place) (x : Var) → IsKept h.kept q x → IsKept kept q x
    waits_there = same_waits s.waits h.kept kept h.listed same_kept

    waits_back : (q : Place) (x : Var) → IsKept kept q x → IsKept h.kept q x
    waits_back = same_waits s.waits kept h.kept same_kept h.listed

    c_is : t.config ≡ v.config
    c_is = one_config s.core t v

    d_is : u.config ≡ w.config
    d_is = one_config core u w

    open_now : (place : Place) → IsOpenAt now place → IsOpenAfterCommit before kept l v.config w.config place
    open_now place i = subst (λ (x : Config). IsOpenAfterCommit before kept l x w.config place) c_is (subst (λ (x : Config). IsOpenAfterCommit before kept l t.config x place) d_is
        (after_as h.now before h.kept kept places_there waits_there l t.config u.config place (after_is place i)))

    now_open : (place : Place) → IsOpenAfterCommit before kept l v.config w.config place → IsOpenAt now place
    now_open place o = after_all place (after_as before h.now kept h.kept places_back waits_back l t.config u.config place
        (subst (λ (x : Config). IsOpenAfterCommit before kept l t.config x place) (sym d_is) (subst (λ (x : Config). IsOpenAfterCommit before kept l x w.config place) (sym c_is) o)))

    kept_now : (place : Place) (x : Var) → waits_on w2 place x ≡ true → IsKeptAfterCommit kept v.config w.config place x
    kept_now place x e = subst (λ (y : Config). IsKeptAfterCommit kept y w.config place x) c_is (subst (λ (y : Config). IsKeptAfterCommit kept t.config y place x) d_is
        (kept_as h.kept kept waits_there waits_back t.config u.config place x (left_so.each place x (listed_now.all place x e))))

    now_kept : (place : Place) (x : Var) → IsKeptAfterCommit kept v.config w.config place x → waits_on w2 place x ≡ true
    now_kept place x i = listed_now.only place x (left_so.all place x
        (kept_as kept h.kept waits_back waits_there t.config u.config place x (subst (λ (y : Config). IsKeptAfterCommit kept t.config y place x) (sym d_is) (subst (λ (y : Config). IsKeptAfterCommit kept y w.config place x) (sym c_is) i))))

    follows_so : IsOpenAndKept s (record { core = core; openings = now; waits = w2 }) p v w before kept
    follows_so = record { is_open = λ place. (open_now place, now_open place); waits = λ place x. (kept_now place x, now_kept place x) }

  pub opens_among : OpensAmong s (record { core = core; openings = now; waits = w2 }) (places_of ps)
  opens_among = record {
    listed = λ v w kept place l o.
        facts.effects.listed place (opens_as kept h.kept (same_waits s.waits kept h.kept l h.listed) t.config u.config place
        (subst (λ (x : Config). Opens kept t.config x place) (one_config core w u) (subst (λ (x : Config). Opens kept x w.config place) (one_config s.core v t) o)));
  }

  pub committed_so : (r : Committed) → r.receipt ≡ receipt → r.opened.items ≡ ts → CommitsWithTurns ⊤ s p (record { core = core; openings = now; waits = w2 }) r
  committed_so r e f = record {
    commits = subst (Commits s.core p core) (sym e) commits;
    follows = follows_so;
    keeps = subst (λ (z : List ℕ). KeepsTokens s.openings now z) (sym f) (going_keeps s.openings ps mid ts opened h.apart l.place gone own token);
    tokens = subst (λ (z : List ℕ). AreNewTokens s.openings now z) (sym f) (after.new_tokens t.config u.config l h.now h.kept ps gone facts s.openings h.are_open h.standing h.apart mid ts opened own token);
    turns = tt;
  }
