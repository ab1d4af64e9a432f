-- Labels that change none of what an idle goal reads pass it by, and leave its variables enough.
use Rattle.std.proofs.Common.{◌≡◌, List, [], ◌∷◌, ◌++◌, Option, Some, None, refl, ◌∙◌, ap, subst, ◌⊎◌, inl, inr, append-nil}
use Rattle.std.specs.Prelude.{option_map, IsSomeAnd, is_some}
use Rattle.akl_terms.specs.declared.name.Name.{Name}
use Rattle.akl_terms.specs.declared.name.Var.{Var}
use Rattle.akl_terms.specs.declared.name.Place.{Place}
use Rattle.akl_terms.specs.declared.program.Program.{Program}
use Rattle.akl_terms.specs.declared.program.Query.{Query}
use Rattle.akl_terms.specs.Equal.{turned}
use Rattle.akl_terms.specs.Touching.{IsLocal}
use Rattle.constraint_laws.specs.Touched.{IsAmong}
use Rattle.constraint_laws.proofs.Inward.{bound_outer}
use Rattle.akl_model.specs.declared.label.Rule.{Rule}
use Rattle.akl_model.specs.declared.label.Label.{Label}
use Rattle.akl_model.specs.Config.{IsIn, Content, Config, Found, whole, home_of}
use Rattle.akl_model.specs.Changes.{Binds, shape_at}
use Rattle.akl_model.specs.Derivations.{Applies, Replays, IsReady}
use Rattle.akl_model.specs.Stable.{only, frames_inside}
use Rattle.akl_model.specs.Wakes.{StandsIn, Opens, new_goal, new_box, changed_goal, box_of_changed_goal, changed_constraint, changed_goals, holder_of_changed_goals, woken, bound_outside, names_down_to}
use Rattle.akl_model.proofs.QuietGrows.{IsLocal-left}
use Rattle.plan_laws.specs.Sleeps.{Needs, of_box_around, of_atom, of_alternative, of_box, PassesBy, PassBy, IsOutermostAt, IsAliasAt, IsEnough}
use Rattle.plan_laws.proofs.Aliases.{HaveAliases, Completed, completed, passes_with}
use Rattle.plan_laws.proofs.DownTo.{outermost}
use Rattle.plan_laws.proofs.GoalSleeps.{GoalSleeps, goal_sleeps_settled, sleeps_on}
use Rattle.plan_laws.proofs.InScope.{Good}
use Rattle.plan_laws.proofs.Leaves.{binds_changes}
use Rattle.plan_laws.proofs.Replayed.{good_replay, replay_further}
use Rattle.reading_laws.specs.Unchanged.{path_to, frames_along}
use Rattle.reading_laws.specs.IdleGoals.{LeavesIdle}
use Rattle.reading_laws.proofs.Labels.{whole_over}

list_or : (xs : List Content) → (xs ≡ []) ⊎ (xs ≡ [] → ⊥)
list_or [] = inl refl
list_or (x ∷ xs) = inr (λ e. cc)

not_none : (o : Option Found) (g : Found → List Name) → is_some (option_map g o) ≡ Rattle.std.proofs.Common.true → o ≡ None → ⊥
not_none None g h q = cc
not_none (Some x) g h q = cc

module _ (rules : List Rule) (p : Program) (q : Query) (journal : List Label) (c : Config) (l : Label) (d : Config) (g : Name) (kept : List Var) (r : Replays rules p q journal c) (a : Applies rules p c l d) (x : LeavesIdle kept g c d) where
  w : Good c
  w = good_replay rules p q journal c r

  v : Good d
  v = good_replay rules p q (journal ++ l ∷ []) d (replay_further rules p q journal c l d r a)

  -- a root box has no variable from outside
  root_binds : (n : Name) (y : Var) (b : Binds c d n y) → b.adds.afterwards.around ≡ [] → (IsLocal (Rattle.akl_model.specs.Stable.frames_of (only b.adds.afterwards)) y → ⊥) → ⊥
  root_binds n y b root outside = outside (IsLocal-left b.adds.afterwards.content.frames (frames_inside b.adds.afterwards.goals ++ []) y
      (subst (λ (fs : List Name). IsLocal fs y) frames (bound_outer (IsLocal (frames_along (path_to b.adds.afterwards))) (whole b.adds.before) (whole b.adds.afterwards) (whole_over d v n b.adds.afterwards b.adds.is) y b.newly_bound)))
    where
      frames : frames_along (path_to b.adds.afterwards) ≡ b.adds.afterwards.content.frames
      frames = ap (λ (xs : List Content). frames_along (xs ++ b.adds.afterwards.content ∷ [])) root ∙ append-nil b.adds.afterwards.content.frames

  opens : (place : Place) → place ≡ Place.Goal g → Opens [] c d place → ⊥
  opens place s (new_goal {g = h} e i) = let t : h ≡ g = cc in not_none (home_of g c.roots) names_down_to x.there (subst (λ (m : Name). home_of m c.roots ≡ None) t e)
  opens place s (changed_goal {g = h} e i differ) = let t : h ≡ g = cc in x.goal (subst (λ (m : Name). shape_at m c.roots ≡ shape_at m d.roots → ⊥) t differ)
  opens place s (holder_of_changed_goals n {g = h} e i differ held) = let t : h ≡ g = cc in x.held n (subst (λ (m : Name). Rattle.akl_model.specs.Wakes.holder_in n d.roots ≡ Some m) t held) differ
  opens place s (bound_outside n {x = y} b o h) = elim (list_or b.adds.afterwards.around) [
    | inl root ↦ root_binds n y b root o
    | inr inner ↦ x.inner n b.adds.afterwards b.adds.is inner (subst (StandsIn n d.roots) s h) (binds_changes rules p c l d w v a n y b)
  ]
  opens place s (woken n k b) = k
  opens place s (new_box {n = n} e i) = let t : Place.Box n ≡ Place.Goal g = s in cc
  opens place s (box_of_changed_goal h {f = f} e i differ) = let t : Place.Box f.content.name ≡ Place.Goal g = s in cc
  opens place s (changed_constraint {n = n} e i differ) = let t : Place.Box n ≡ Place.Goal g = s in cc
  opens place s (changed_goals {n = n} e i differ) = let t : Place.Box n ≡ Place.Goal g = s in cc

  pub passes_idle : PassesBy rules p kept (Place.Goal g) c l d
  passes_idle = record { applies = a; unopened = λ o. opens (Place.Goal g) refl o; unbound = λ n i y k b. x.bindings y k (n, b) }

-- what a goal that sleeps needs is listed
needed : (rules : List Rule) (p : Program) (c : Config) (g : Name) (all : List Var) → GoalSleeps rules p c all g → (place : Place) → place ≡ Place.Goal g → (x : Var) → Needs p c place x → IsAmong x all
needed rules p c g all s place e x (of_box_around n h i still t) = on (home_of g c.roots) refl (subst (λ (q : Place). StandsIn n c.roots q) e h)
  where
    on : (o : Option Found) → home_of g c.roots ≡ o → IsSomeAnd (option_map names_down_to o) (IsIn n) → IsAmong x all
    on None q k = absurd k
    on (Some f) q k = (s.at_home f q).around n k _ i still x t
needed rules p c g all s place e x (of_atom {g = h} {f = f} {a = b} {y = y} i k still z q) =
    let t : h ≡ g = cc in (s.at_home f (subst (λ (m : Name). home_of m c.roots ≡ Some f) t i)).of_an_atom b (subst (λ (m : Name). Rattle.akl_model.specs.Config.held_in m f.goals ≡ Some (Rattle.akl_model.specs.Config.an_atom b)) t k) still y x z (turned q)
needed rules p c g all s place e x (of_alternative {g = h} {f = f} {m = m} {o = o} {bs = bs} n not_choice i k z solved still t) =
    let u : h ≡ g = cc in ((s.at_home f (subst (λ (m : Name). home_of m c.roots ≡ Some f) u i)).of_a_choice o bs (subst (λ (m : Name). Rattle.akl_model.specs.Config.held_in m f.goals ≡ Some (Rattle.akl_model.specs.Config.a_choice o bs)) u k) n m not_choice z solved still).each x t
needed rules p c g all s place e x (of_box {n = n} i t) = let u : Place.Box n ≡ Place.Goal g = e in cc

-- a goal that needs a variable is there
home_needed : (p : Program) (c : Config) (g : Name) (place : Place) → place ≡ Place.Goal g → (x : Var) → Needs p c place x → (f : Found) × (home_of g c.roots ≡ Some f)
home_needed p c g place e x (of_box_around n h i still t) = on (home_of g c.roots) refl (subst (λ (q : Place). StandsIn n c.roots q) e h)
  where
    on : (o : Option Found) → home_of g c.roots ≡ o → IsSomeAnd (option_map names_down_to o) (IsIn n) → (f : Found) × (home_of g c.roots ≡ Some f)
    on None q k = absurd k
    on (Some f) q k = (f, q)
home_needed p c g place e x (of_atom {g = h} {f = f} i k still z q) = let t : h ≡ g = cc in (f, subst (λ (m : Name). home_of m c.roots ≡ Some f) t i)
home_needed p c g place e x (of_alternative {g = h} {f = f} n not_choice i k z solved still t) = let u : h ≡ g = cc in (f, subst (λ (m : Name). home_of m c.roots ≡ Some f) u i)
home_needed p c g place e x (of_box {n = n} i t) = let u : Place.Box n ≡ Place.Goal g = e in cc

through : (rules : List Rule) (p : Program) (q : Query) (journal : List Label) (c : Config) (g : Name) (kept all : List Var) (further : List Label) (d : Config)
    → Replays rules p q journal c → HaveAliases c (Place.Goal g) (λ y. IsAmong y kept) all → GoalSleeps rules p c all g → PassBy rules p kept (Place.Goal g) c further d
    → GoalSleeps rules p d all g × HaveAliases d (Place.Goal g) (λ y. IsAmong y kept) all × Good d
through rules p q journal c g kept all [] d r h s e = (
  subst (λ (x : Config). GoalSleeps rules p x all g) e s,
  subst (λ (x : Config). HaveAliases x (Place.Goal g) (λ y. IsAmong y kept) all) e h,
  subst Good e (good_replay rules p q journal c r),
)
through rules p q journal c g kept all (l ∷ ls) d r h s (m, x, rest) =
    let y : PassesBy rules p all (Place.Goal g) c l m × HaveAliases m (Place.Goal g) (λ y. IsAmong y kept) all = passes_with rules p q journal c l m (Place.Goal g) kept all r x h in
    through rules p q (journal ++ l ∷ []) m g kept all ls d (replay_further rules p q journal c l m r x.applies) y.1 (sleeps_on rules p q journal c l m all g r y.0 s) rest

pub enough_stays : (rules : List Rule) (p : Program) (q : Query) (journal : List Label) (c : Config) (g : Name) (kept : List Var) (further : List Label) (d : Config) → Replays rules p q journal c
    → (IsReady rules p c (Place.Goal g) → ⊥) → IsEnough p c kept (Place.Goal g) → PassBy rules p kept (Place.Goal g) c further d → (IsReady rules p d (Place.Goal g) → ⊥) × IsEnough p d kept (Place.Goal g)
enough_stays rules p q journal c g kept further d r unready enough pass = (z.0.unready, record { each = λ x n. of_need x n (needed rules p d g k.all z.0 (Place.Goal g) refl x n) })
  where
    k : Completed p c kept (Place.Goal g)
    k = completed p c kept (Place.Goal g) (good_replay rules p q journal c r) enough

    z : GoalSleeps rules p d k.all g × HaveAliases d (Place.Goal g) (λ y. IsAmong y kept) k.all × Good d
    z = through rules p q journal c g kept k.all further d r k.aliases (goal_sleeps_settled rules p c k.all g unready k.needed) pass

    of_need : (x : Var) → Needs p d (Place.Goal g) x → IsAmong x k.all → (y : Var) × IsAmong y kept × IsAliasAt d (Place.Goal g) y x
    of_need x n i =
        let f : (f : Found) × (home_of g d.roots ≡ Some f) = home_needed p d g (Place.Goal g) refl x n in
        let o : (o : Found) × IsOutermostAt d (Place.Goal g) o = outermost d z.2 (Place.Goal g) f.0 f.1 in
        let y : _ = z.1.each x i in
        (y.0, y.1, record { outermost = o.0; is_outermost = o.1; equal = y.2.each o.0.content.name o.1.is_at o.0 o.1.is_found })
