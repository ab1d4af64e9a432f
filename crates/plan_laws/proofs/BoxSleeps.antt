-- A box that isn't ready stays so over labels that pass it by, but for Split.
use Rattle.std.proofs.Common.{◌≡◌, ◌+◌, ◌≤◌, List, [], ◌∷◌, ◌++◌, Some, None, refl, sym, ◌∙◌, ap, subst, ◌⊎◌, inl, inr, arith}
use Rattle.std.specs.Prelude.{option_map, slice_index}
use Rattle.akl_terms.specs.declared.name.Name.{Name}
use Rattle.akl_terms.specs.declared.name.Var.{Var}
use Rattle.akl_terms.specs.declared.name.Place.{Place}
use Rattle.akl_terms.specs.declared.program.Program.{Program}
use Rattle.akl_terms.specs.declared.program.Query.{Query}
use Rattle.akl_terms.specs.Equal.{Equations, IsConsistent}
use Rattle.akl_terms.specs.Touching.{IsOutside}
use Rattle.akl_terms.proofs.EqualLaws.{IsConsistent-follows}
use Rattle.akl_model.specs.declared.label.Rule.{Rule}
use Rattle.akl_model.specs.declared.label.Label.{Label}
use Rattle.akl_model.specs.Config.{IsIn, no_boxes, Config, Held, held_in, Found, equations_of, environment, whole, box_at, site_of, home_of}
use Rattle.akl_model.specs.Rules.{nothing, change_by}
use Rattle.akl_model.specs.Conditions.{HasFailed}
use Rattle.akl_model.specs.Stable.{only, frames_of, by_equations, Allows}
use Rattle.constraint_laws.specs.Growth.{TellsOver}
use Rattle.akl_model.specs.Derivations.{IsInForce, Replays, IsReady, after}
use Rattle.akl_model.specs.Changes.{Constraint, shape_of, goal_names, constraint_of, constraint_at, Binds}
use Rattle.constraint_laws.specs.Bound.{IsNewlyBound}
use Rattle.akl_model.specs.Wakes.{Opens, box_of_changed_goal, changed_constraint, changed_goals, TellsOutside, names_around, names_down_to}
use Rattle.akl_model.proofs.Options.{some_value}
use Rattle.constraint_laws.proofs.Decided.{consistent_or}
use Rattle.akl_model.proofs.Finds.{times, times_of, times_inside}
use Rattle.akl_model.proofs.NamesKept.{box-itself}
use Rattle.akl_model.proofs.ScopesAlong.{times_path, found_path}
use Rattle.akl_model.proofs.QuietEnds.{clash_not}
use Rattle.akl_model.proofs.Scoped.{IsIn-left, IsIn-right, IsIn-either}
use Rattle.constraint_laws.specs.Touched.{IsAmong}
use Rattle.plan_laws.specs.Sleeps.{Needs, of_box_around, of_box, IsEnough, PassesBy, PassBy}
use Rattle.constraint_laws.proofs.Beside.{follows_told}
use Rattle.step_laws.proofs.Replaced.{box_rule}
use Rattle.step_laws.proofs.Deeper.{home_found}
use Rattle.step_laws.proofs.Becomes.{Becomes}
use Rattle.step_laws.proofs.Steps.{Moved, aside, at_site, inside, site_now, names_kept, name_kept}
use Rattle.step_laws.proofs.Stays.{shape_held}
use Rattle.plan_laws.proofs.InScope.{Good, outside_environment}
use Rattle.plan_laws.proofs.Moves.{site_found, site_there, moved, binder, AroundFor}
use Rattle.constraint_laws.proofs.LeavesKept.{LeavesKept, TouchesKept, stays_consistent}
use Rattle.plan_laws.proofs.Around.{chain_down, shut_inside, around_step, around_leaves_kept}
use Rattle.plan_laws.proofs.Replayed.{good_replay, replay_further}
use Rattle.plan_laws.proofs.DownTo.{stands_around, is_down, there_before}
use Rattle.plan_laws.proofs.Aliases.{HaveAliases, passes_with, Completed, completed}
use Rattle.step_laws.proofs.Failing.{failed_or, failed_before}

-- a box is ready by Fail
pub fail_ready : (rules : List Rule) (p : Program) (c : Config) (n : Name) (f : Found) → IsInForce rules Rule.Fail → box_at n c.roots ≡ Some f → ((IsConsistent (whole f) → ⊥) ⊎ HasFailed f.goals)
    → ((HasFailed f.goals → ⊥) → (IsConsistent (environment f) → ⊥) → ⊥) → (r : IsReady rules p c (Place.Box n)) × (r.label.rule ≡ Rule.Fail)
fail_ready rules p c n f force e fails counts = (
  record {
    label = l;
    is_place = refl;
    result = after c l f (record { boxes = no_boxes; drawn = 0 });
    applies = record {
      in_force = force;
      site = f;
      is_site = e;
      change = record { boxes = no_boxes; drawn = 0 };
      makes = record { reading = nothing; change = refl; allowed = fails; few_names = omega arith };
      result = refl;
    };
    counts = λ x. counts x.unfailed x.inconsistent;
  },
  refl,
)
  where
    l : Label
    l = record { rule = Rule.Fail; place = Place.Box n; alternative = None; worker = 0 }

-- what a box that sleeps has
pub record BoxSleeps (rules : List Rule) (p : Program) (c : Config) (kept : List Var) (n : Name) : Type 0 where
  pub only_split : (r : IsReady rules p c (Place.Box n)) → r.label.rule ≡ Rule.Split
  pub around : (f : Found) → box_at n c.roots ≡ Some f → AroundFor c kept (names_down_to f)

pub box_sleeps_settled : (rules : List Rule) (p : Program) (c : Config) (kept : List Var) (n : Name) → (IsReady rules p c (Place.Box n) → ⊥) → ((x : Var) → Needs p c (Place.Box n) x → IsAmong x kept) → BoxSleeps rules p c kept n
box_sleeps_settled rules p c kept n unready needed = record { only_split = λ r. absurd (unready r); around = around }
  where
    around : (f : Found) → box_at n c.roots ≡ Some f → AroundFor c kept (names_down_to f)
    around f e b h m i still x t = on (IsIn-either b (names_around f) (f.content.name ∷ []) h)
      where
        on : IsIn b (names_around f) ⊎ IsIn b (f.content.name ∷ []) → IsAmong x kept
        on (inl y) = needed x (of_box_around b (stands_around n c.roots f b e y) i still t)
        on (inr (inl y)) =
            let q : m ≡ f = some_value (sym i ∙ subst (λ (k : Name). box_at k c.roots ≡ Some f) (box-itself n c.roots f e ∙ sym y) e) in
            needed x (of_box e (inl (subst (λ (u : Found). IsConsistent (whole u)) q still, by_equations (subst (λ (u : Found). TellsOutside u x) q t))))
        on (inr (inr y)) = absurd y

module _ (rules : List Rule) (p : Program) (query : Query) (journal : List Label) (c : Config) (l : Label) (d : Config) (kept : List Var) (n : Name) (replays : Replays rules p query journal c)
    (passes : PassesBy rules p kept (Place.Box n) c l d) (around : (f : Found) → box_at n c.roots ≡ Some f → AroundFor c kept (names_down_to f)) where
  pub w : Good c
  w = good_replay rules p query journal c replays

  pub v : Good d
  v = good_replay rules p query (journal ++ l ∷ []) d (replay_further rules p query journal c l d replays passes.applies)

  pub box_there : (k : Found) → box_at n d.roots ≡ Some k → (f : Found) × (box_at n c.roots ≡ Some f)
  box_there k i =
      let x : (f : Found) × (box_at n c.roots ≡ Some f) × (names_down_to k ≡ names_down_to f) = there_before rules p c l d w v passes.applies (Place.Box n) passes.unopened k i in
      (x.0, x.1)

  module _ (f k : Found) (e : box_at n c.roots ≡ Some f) (i : box_at n d.roots ≡ Some k) where
    pub box_moved : Moved l.worker (slice_index c.next l.worker) passes.applies.site passes.applies.change f k
    box_moved = moved rules p c l d w v passes.applies n f k e i

    names : names_around k ≡ names_around f
    names = names_kept l.worker (slice_index c.next l.worker) passes.applies.site passes.applies.change f k box_moved

    down : names_down_to k ≡ names_down_to f
    down = λ j. names j ++ name_kept l.worker (slice_index c.next l.worker) passes.applies.site passes.applies.change f k box_moved j ∷ []

    -- the box's constraint stays
    pub constraint_kept : (constraint_of f ≡ constraint_of k → ⊥) → ⊥
    constraint_kept h = passes.unopened (changed_constraint e i (λ q. h (some_value (sym (ap (option_map constraint_of) e) ∙ q ∙ ap (option_map constraint_of) i))))

    quiet_around : (m : Name) → IsIn m (names_down_to f) → (x : Var) → IsAmong x kept → Binds c d m x → ⊥
    quiet_around m h x y b = passes.unbound m (is_down m c.roots (Place.Box n) f e h) x y b

    pub around_now : AroundFor d kept (names_down_to k)
    around_now = subst (AroundFor d kept) (sym down) (around_step rules p c l d w v passes.applies kept (names_down_to f) quiet_around (chain_down c w n f e) shut (around f e))
      where
        shut : (b : Name) → IsIn b (names_down_to f) → (u : Becomes l.worker (slice_index c.next l.worker) passes.applies.site passes.applies.change) (x : Var) → b ≡ passes.applies.site.content.name
            → IsConsistent (whole (site_now u)) → IsNewlyBound (whole passes.applies.site) (whole (site_now u)) x → IsOutside (frames_of (only (site_now u))) x → ⊥
        shut b h u x q still z o = on (IsIn-either b (names_around f) (f.content.name ∷ []) h)
          where
            on : IsIn b (names_around f) ⊎ IsIn b (f.content.name ∷ []) → ⊥
            on (inl y) = shut_inside rules p c l d w v passes.applies kept (names_down_to f) quiet_around (Place.Box n) passes.unopened b (stands_around n d.roots k b i (subst (IsIn b) (sym names) y)) u x q still z o
            on (inr (inl y)) = passes.unopened (subst (λ (m : Name). Opens [] c d (Place.Box m)) (sym q ∙ y ∙ sym (box-itself n c.roots f e))
                (changed_constraint (site_found rules p c l d w v passes.applies) (site_there rules p c l d w v passes.applies u) (λ r.
                (binder rules p c l d w v passes.applies u x still z).adds.more (now (binder rules p c l d w v passes.applies u x still z) r))))
              where
                now : (t : Binds c d passes.applies.site.content.name x) → constraint_at passes.applies.site.content.name c.roots ≡ constraint_at passes.applies.site.content.name d.roots
                    → t.adds.afterwards.content.equations ≡ t.adds.before.content.equations
                now t r = ap (λ (m : Constraint). m.equations) (sym (some_value (sym (ap (option_map constraint_of) t.adds.was) ∙ r ∙ ap (option_map constraint_of) t.adds.is)))
            on (inr (inr y)) = absurd y

    -- the environment's equations are over variables external to the box as it was
    pub over_now : TellsOver (IsOutside (frames_of (only f))) (environment k)
    over_now = on box_moved
      where
        on : Moved l.worker (slice_index c.next l.worker) passes.applies.site passes.applies.change f k → TellsOver (IsOutside (frames_of (only f))) (environment k)
        on (aside x) = subst (TellsOver (IsOutside (frames_of (only f)))) (sym (ap equations_of x.around)) (outside_environment c w n f e)
        on (at_site u q r) = subst (TellsOver (IsOutside (frames_of (only f)))) (ap environment q ∙ sym (ap environment r)) (outside_environment c w n f e)
        on (inside u j x y q r) = subst (λ (fs : List Name). TellsOver (IsOutside fs) (environment k)) (ap (λ (m : Found). frames_of (only m)) r ∙ sym (ap (λ (m : Found). frames_of (only m)) q)) (outside_environment d v n k i)

    pub env_keeps_kept : IsConsistent (environment k) → LeavesKept kept (environment f) (environment k)
    env_keeps_kept h = around_leaves_kept rules p c l d w v passes.applies kept (names_down_to f) quiet_around n f k (around f e) (λ b x. IsIn-left b (names_around f) (f.content.name ∷ []) x) box_moved h

    env_before : IsConsistent (environment k) → IsConsistent (environment f)
    env_before h = IsConsistent-follows (follows_told (environment f) (environment k) (env_keeps_kept h).keeps) h

    pub own_kept : IsConsistent (whole f) → TouchesKept kept (frames_of (only f)) (environment f) (whole f)
    own_kept still = record {
      each = λ x t. around f e f.content.name (IsIn-right f.content.name (names_around f) (f.content.name ∷ []) (inl refl)) f (subst (λ (m : Name). box_at m c.roots ≡ Some f) (box-itself n c.roots f e) e) still x t;
    }

    now_once : (g : Name) → times_inside g k.goals ≤ 1
    now_once g =
        let x : times g (only k) + times_path g k.around ≤ times g d.roots = found_path g n d.roots k i in
        let y : times g d.roots ≤ 1 = v.stand.once g in
        let z : times g (only k) ≡ times_of g k.content + (times_inside g k.goals + 0) = refl in
        omega arith

    -- the box was ready by Fail, or isn't now
    pub fails_not : IsInForce rules Rule.Fail → ((r : IsReady rules p c (Place.Box n)) → r.label.rule ≡ Rule.Split) → ((IsConsistent (whole k) → ⊥) ⊎ HasFailed k.goals)
        → ((HasFailed k.goals → ⊥) → (IsConsistent (environment k) → ⊥) → ⊥) → ⊥
    fails_not force only_split fails counts = on (failed_or k.goals)
      where
        cannot : (r : IsReady rules p c (Place.Box n)) × (r.label.rule ≡ Rule.Fail) → ⊥
        cannot z = let q : Rule.Fail ≡ Rule.Split = sym z.1 ∙ only_split z.0 in cc

        by_goals : HasFailed k.goals → ⊥
        by_goals x = passes.unopened (changed_goals e i (λ q.
            failed_before f.goals k.goals now_once (some_value (sym (ap (option_map (λ (u : Found). goal_names u.goals)) e) ∙ q ∙ ap (option_map (λ (u : Found). goal_names u.goals)) i)) shapes x
            (λ y. cannot (fail_ready rules p c n f force e (inr y) (λ z t. z y)))))
          where
            shapes : (g : Name) (h j : Held) → held_in g f.goals ≡ Some h → held_in g k.goals ≡ Some j → (shape_of h ≡ shape_of j → ⊥) → ⊥
            shapes g h j a b differ =
                let x : home_of g c.roots ≡ Some f = home_found c.roots w.stand.once g n f h e a in
                let y : home_of g d.roots ≡ Some k = home_found d.roots v.stand.once g n k j i b in
                passes.unopened (subst (λ (m : Name). Opens [] c d (Place.Box m)) (sym (box-itself n d.roots k i))
                (box_of_changed_goal g x y (λ q. differ (some_value (sym (shape_held g c.roots f h x a) ∙ q ∙ shape_held g d.roots k j y b)))))

        by_equations : (HasFailed k.goals → ⊥) → (IsConsistent (whole k) → ⊥) → ⊥
        by_equations unfailed bad = env (consistent_or (environment k))
          where
            whole_before : IsConsistent (environment k) → IsConsistent (whole f) ⊎ Rattle.akl_terms.specs.Decided.Contradicts (whole f) → ⊥
            whole_before ok (inr x) = cannot (fail_ready rules p c n f force e (inl (clash_not (whole f) x)) (λ y z. z (env_before ok)))
            whole_before ok (inl still) = constraint_kept (λ q. bad (subst (λ (E : Equations). IsConsistent (environment k ++ E)) (ap (λ (m : Constraint). m.equations) q)
                (stays_consistent kept (environment f) (environment k) (env_keeps_kept ok) ok (frames_of (only f)) f.content.equations over_now still (own_kept still))))

            env : IsConsistent (environment k) ⊎ Rattle.akl_terms.specs.Decided.Contradicts (environment k) → ⊥
            env (inr x) = counts unfailed (clash_not (environment k) x)
            env (inl ok) = whole_before ok (consistent_or (whole f))

        on : HasFailed k.goals ⊎ (HasFailed k.goals → ⊥) → ⊥
        on (inl x) = by_goals x
        on (inr x) = elim fails [ inl y ↦ by_equations x y | inr y ↦ x y ]

  -- so over one label
  pub only_split_now : ((r : IsReady rules p c (Place.Box n)) → r.label.rule ≡ Rule.Split) → (r : IsReady rules p d (Place.Box n)) → r.label.rule ≡ Rule.Split
  only_split_now only_split r = on (box_rule p r.applies.makes.reading r.label.worker (slice_index d.next r.label.worker) r.label.rule n r.label.alternative r.applies.site r.applies.change
      (subst (λ (x : Place). change_by p r.applies.makes.reading r.label.worker (slice_index d.next r.label.worker) r.label.rule x r.label.alternative r.applies.site ≡ Some r.applies.change) r.is_place r.applies.makes.change))
    where
      site : box_at n d.roots ≡ Some r.applies.site
      site = subst (λ (x : Place). site_of x d.roots ≡ Some r.applies.site) r.is_place r.applies.is_site

      allowed : r.label.rule ≡ Rule.Fail → ((IsConsistent (whole r.applies.site) → ⊥) ⊎ HasFailed r.applies.site.goals)
      allowed q = subst (λ (x : Rule). Allows p r.applies.makes.reading x (Place.Box n) r.label.alternative r.applies.site) q
          (subst (λ (x : Place). Allows p r.applies.makes.reading r.label.rule x r.label.alternative r.applies.site) r.is_place r.applies.makes.allowed)

      on : (r.label.rule ≡ Rule.Fail) ⊎ (r.label.rule ≡ Rule.Split) → r.label.rule ≡ Rule.Split
      on (inr q) = q
      on (inl q) =
          let x : (f : Found) × (box_at n c.roots ≡ Some f) = box_there r.applies.site site in
          absurd (fails_not x.0 r.applies.site x.1 site (subst (IsInForce rules) q r.applies.in_force) only_split (allowed q) (λ unfailed bad. r.counts (record { fails = q; unfailed = unfailed; inconsistent = bad })))

  pub around_then : (k : Found) → box_at n d.roots ≡ Some k → AroundFor d kept (names_down_to k)
  around_then k i = let x : (f : Found) × (box_at n c.roots ≡ Some f) = box_there k i in around_now x.0 k x.1 i

pub box_sleeps_on : (rules : List Rule) (p : Program) (q : Query) (journal : List Label) (c : Config) (l : Label) (d : Config) (kept : List Var) (n : Name) → Replays rules p q journal c
    → PassesBy rules p kept (Place.Box n) c l d → BoxSleeps rules p c kept n → BoxSleeps rules p d kept n
box_sleeps_on rules p q journal c l d kept n r x s = record {
  only_split = only_split_now rules p q journal c l d kept n r x s.around s.only_split;
  around = around_then rules p q journal c l d kept n r x s.around;
}

box_sleeps_through : (rules : List Rule) (p : Program) (q : Query) (journal : List Label) (c : Config) (n : Name) (kept all : List Var) (further : List Label) (d : Config)
    → Replays rules p q journal c → HaveAliases c (Place.Box n) (λ y. IsAmong y kept) all → BoxSleeps rules p c all n → PassBy rules p kept (Place.Box n) c further d → BoxSleeps rules p d all n
box_sleeps_through rules p q journal c n kept all [] d r h s e = subst (λ (x : Config). BoxSleeps rules p x all n) e s
box_sleeps_through rules p q journal c n kept all (l ∷ ls) d r h s (m, x, rest) =
    let y : PassesBy rules p all (Place.Box n) c l m × HaveAliases m (Place.Box n) (λ y. IsAmong y kept) all = passes_with rules p q journal c l m (Place.Box n) kept all r x h in
    box_sleeps_through rules p q (journal ++ l ∷ []) m n kept all ls d (replay_further rules p q journal c l m r x.applies) y.1 (box_sleeps_on rules p q journal c l m all n r y.0 s) rest

pub box_sleeps : (rules : List Rule) (p : Program) (q : Query) (journal : List Label) (c : Config) (n : Name) (kept : List Var) (further : List Label) (d : Config)
    → Replays rules p q journal c → (IsReady rules p c (Place.Box n) → ⊥) → IsEnough p c kept (Place.Box n) → PassBy rules p kept (Place.Box n) c further d
    → (r : IsReady rules p d (Place.Box n)) → r.label.rule ≡ Rule.Split
box_sleeps rules p q journal c n kept further d r unready enough pass =
    let k : Completed p c kept (Place.Box n) = completed p c kept (Place.Box n) (good_replay rules p q journal c r) enough in
    (box_sleeps_through rules p q journal c n kept k.all further d r k.aliases (box_sleeps_settled rules p c k.all n unready k.needed) pass).only_split
