-- A box that isn't ready, by Split neither, stays so over labels that pass it by and change nothing inside it.
use Rattle.std.proofs.Common.{◌≡◌, ◌≢◌, ℕ, ◌<◌, ◌^◌, List, [], ◌∷◌, ◌++◌, map, Option, Some, None, refl, sym, ◌∙◌, ap, subst, ◌⊎◌, inl, inr}
use Rattle.std.specs.Prelude.{option_map, slice_index, IsSomeAnd}
use Rattle.akl_terms.specs.declared.name.Name.{Name}
use Rattle.akl_terms.specs.declared.name.Var.{Var}
use Rattle.akl_terms.specs.declared.name.Place.{Place}
use Rattle.akl_terms.specs.declared.program.Program.{Program}
use Rattle.akl_terms.specs.declared.program.Query.{Query}
use Rattle.akl_terms.specs.Equal.{Equations, IsTold, IsConsistent}
use Rattle.akl_terms.specs.Decided.{Contradicts}
use Rattle.akl_terms.proofs.EqualLaws.{IsConsistent-follows, IsTold-left, IsTold-right, IsTold-either}
use Rattle.akl_model.specs.declared.item.Item.{Item}
use Rattle.akl_model.specs.declared.label.Rule.{Rule}
use Rattle.akl_model.specs.declared.label.Label.{Label}
use Rattle.akl_model.specs.Config.{IsIn, Content, Boxes, no_boxes, box, Goals, no_goals, atom, choice, Config, Held, held_in, Found, equations_of, environment, whole, box_at, box_inside, site_of, home_of}
use Rattle.akl_model.specs.Rules.{Change, Reading, ChoiceIn, choice_with, alternative_of, split_at, change_by}
use Rattle.akl_model.specs.Stable.{EachBox, EachInside, only, frames_of, TouchesFrom, IsStable, IsSplitPoint, Allows}
use Rattle.constraint_laws.specs.Growth.{MayGrow}
use Rattle.akl_model.specs.Derivations.{IsInForce, Replays, IsReady, after}
use Rattle.akl_model.specs.Changes.{shape_at, goal_names, goals_at}
use Rattle.akl_model.specs.Wakes.{StandsIn, Wait, Opens, changed_goal, box_of_changed_goal, changed_goals, SomeBox, SomeInside, names_around, names_down_to}
use Rattle.akl_model.proofs.Options.{some_value, map_some, some_and, and_some}
use Rattle.constraint_laws.proofs.Decided.{consistent_or}
use Rattle.akl_model.proofs.Finds.{edited_inside-none}
use Rattle.akl_model.proofs.NamesKept.{box-itself, home-box}
use Rattle.akl_model.proofs.OnlySplits.{Under, under}
use Rattle.akl_model.proofs.QuietGrows.{equations-snoc}
use Rattle.constraint_laws.proofs.Beside.{left_follows, follows_told}
use Rattle.akl_model.proofs.QuietEnds.{clash_not}
use Rattle.akl_model.proofs.StableGrows.{untouched_box}
use Rattle.akl_model.proofs.Scoped.{IsIn-left, IsIn-right, IsIn-either}
use Rattle.constraint_laws.specs.Touched.{IsAmong}
use Rattle.plan_laws.specs.Sleeps.{Needs, of_box, IsEnough, PassesBy, of_goals, of_goal, LeavesInside, PassBeside}
use Rattle.plan_laws.proofs.InScope.{Good, outside_environment}
use Rattle.plan_laws.proofs.Moves.{site_found, site_there, cases, AroundFor}
use Rattle.constraint_laws.proofs.LeavesKept.{LeavesKept}
use Rattle.step_laws.proofs.Whereabouts.{found_in, home_in}
use Rattle.step_laws.proofs.Deeper.{in_path, names_snoc, found_down, home_found}
use Rattle.step_laws.proofs.Edits.{Holder, in_holder}
use Rattle.step_laws.proofs.Becomes.{Becomes}
use Rattle.step_laws.proofs.Steps.{other_goals, site_gone, Moved, aside, at_site, inside, site_now}
use Rattle.step_laws.proofs.Stays.{shape_held, alternative_in}
use Rattle.step_laws.proofs.Goes.{home_now, was_home, is_home, differs}
use Rattle.plan_laws.proofs.Alternatives.{alternative_other}
use Rattle.plan_laws.proofs.Replayed.{good_replay, replay_further}
use Rattle.plan_laws.proofs.DownTo.{stands_around}
use Rattle.plan_laws.proofs.Aliases.{HaveAliases, passes_with, Completed, completed}
use Rattle.plan_laws.proofs.BoxSleeps.{box_sleeps_settled, w, v, box_there, box_moved, around_then, over_now, env_keeps_kept, only_split_now}
use Rattle.plan_laws.proofs.StableShrinks.{IsKeptIn, stable_before, keeps_further}

-- what is enough for a box is kept in each box inside
module _ (p : Program) (kept : List Var) (inner : List Name) (E : Equations) where
  abbrev Touched : Var → Found → Type 0
  Touched x u = IsConsistent (whole u) × TouchesFrom p inner E u x

  mutual
    each_from_some : (around : List Content) (bs : Boxes) → ((x : Var) → SomeBox (λ (u : Found). IsConsistent (whole u) × TouchesFrom p inner E u x) around bs → IsAmong x kept) → EachBox (IsKeptIn p kept inner E) around bs
    each_from_some around no_boxes h = tt
    each_from_some around (box b gs bs) h = (
      record { each = λ still x t. h x (inl (still, t)) },
      each_from_inside (around ++ b ∷ []) gs (λ x y. h x (inr (inl y))),
      each_from_some around bs (λ x y. h x (inr (inr y))),
    )

    each_from_inside : (around : List Content) (gs : Goals) → ((x : Var) → SomeInside (λ (u : Found). IsConsistent (whole u) × TouchesFrom p inner E u x) around gs → IsAmong x kept) → EachInside (IsKeptIn p kept inner E) around gs
    each_from_inside around no_goals h = tt
    each_from_inside around (atom g a gs) h = each_from_inside around gs h
    each_from_inside around (choice g o bs gs) h = (each_from_some around bs (λ x y. h x (inl y)), each_from_inside around gs (λ x y. h x (inr y)))

  -- in an inconsistent environment nothing is to be kept
  mutual
    kept_nowhere : (around : List Content) (bs : Boxes) → (IsConsistent (equations_of around) → ⊥) → EachBox (IsKeptIn p kept inner E) around bs
    kept_nowhere around no_boxes bad = tt
    kept_nowhere around (box b gs bs) bad = (
      record { each = λ still x t. absurd (bad (IsConsistent-follows (left_follows (equations_of around) b.equations) still)) },
      kept_nowhere_inside (around ++ b ∷ []) gs (λ still. bad (IsConsistent-follows (left_follows (equations_of around) b.equations) (subst IsConsistent (equations-snoc around b) still))),
      kept_nowhere around bs bad,
    )

    kept_nowhere_inside : (around : List Content) (gs : Goals) → (IsConsistent (equations_of around) → ⊥) → EachInside (IsKeptIn p kept inner E) around gs
    kept_nowhere_inside around no_goals bad = tt
    kept_nowhere_inside around (atom g a gs) bad = kept_nowhere_inside around gs bad
    kept_nowhere_inside around (choice g o bs gs) bad = (kept_nowhere around bs bad, kept_nowhere_inside around gs bad)

-- a split of the box in another environment
pub split_again : (w next next2 : ℕ) (a : Name) (f : Found) (around : List Content) (o : Option ChoiceIn) (ch : Change) → split_at w next2 a (record f { around = around }) o ≡ Some ch
    → (x : Change) × (split_at w next a f o ≡ Some x) × (x.drawn ≡ ch.drawn)
split_again w next next2 a f around None ch e = cc
split_again w next next2 a f around (Some k) ch e = (_, refl, ap (λ (c : Change). c.drawn) (some_value e))

pub split_of : (p : Program) (v : Reading) (n : Name) (alternative : Option Name) (f : Found) → Allows p v Rule.Split (Place.Box n) alternative f
    → (a : Name) × (alternative ≡ Some a) × IsStable p f × IsSomeAnd (choice_with a f.goals) (IsSplitPoint f a)
split_of p v n None f x = absurd x
split_of p v n (Some a) f x = (a, refl, x.0, x.1)

pub record SplitSleeps (rules : List Rule) (p : Program) (c : Config) (kept : List Var) (n : Name) : Type 0 where
  pub unready : IsReady rules p c (Place.Box n) → ⊥
  pub around : (f : Found) → box_at n c.roots ≡ Some f → AroundFor c kept (names_down_to f)
  pub all_kept : (f : Found) → box_at n c.roots ≡ Some f → EachBox (IsKeptIn p kept (frames_of (only f)) (environment f)) f.around (only f)

pub split_sleeps_settled : (rules : List Rule) (p : Program) (c : Config) (kept : List Var) (n : Name) → (IsReady rules p c (Place.Box n) → ⊥) → ((x : Var) → Needs p c (Place.Box n) x → IsAmong x kept) → SplitSleeps rules p c kept n
split_sleeps_settled rules p c kept n unready needed = record {
  unready = unready;
  around = (box_sleeps_settled rules p c kept n unready needed).around;
  all_kept = λ f e. each_from_some p kept (frames_of (only f)) (environment f) f.around (only f) (λ x s. needed x (of_box e s));
}

-- what a label does inside a box that it passes by
module _ (rules : List Rule) (p : Program) (query : Query) (journal : List Label) (c : Config) (l : Label) (d : Config) (kept : List Var) (n : Name) (replays : Replays rules p query journal c)
    (passes : PassesBy rules p kept (Place.Box n) c l d) (around : (f : Found) → box_at n c.roots ≡ Some f → AroundFor c kept (names_down_to f)) where
  good_before : Good c
  good_before = w rules p query journal c l d kept n replays passes around

  good_after : Good d
  good_after = v rules p query journal c l d kept n replays passes around

  module _ (f k : Found) (e : box_at n c.roots ≡ Some f) (i : box_at n d.roots ≡ Some k) where
    sf : box_at passes.applies.site.content.name c.roots ≡ Some passes.applies.site
    sf = site_found rules p c l d good_before good_after passes.applies

    -- a label that leaves its site changes its set of goals or the shape of one
    abbrev OtherGoals : Type 0
    OtherGoals = (goals_at passes.applies.site.content.name c.roots ≢ goals_at passes.applies.site.content.name d.roots)
        ⊎ ((g : Name) × (u : Found) × (home_of g c.roots ≡ Some passes.applies.site) × (home_of g d.roots ≡ Some u) × (u.content.name ≡ passes.applies.site.content.name) × (u.around ≡ passes.applies.site.around) × (shape_at g c.roots ≢ shape_at g d.roots))

    has_other_goals : Becomes l.worker (slice_index c.next l.worker) passes.applies.site passes.applies.change → OtherGoals
    has_other_goals b = elim (other_goals rules p c l d good_before.stand passes.applies b) [
      | inl x ↦ inl (λ q. x (some_value (sym (ap (option_map (λ (u : Found). goal_names u.goals)) sf) ∙ q ∙ ap (option_map (λ (u : Found). goal_names u.goals)) st)))
      | inr (j, y, differ, same) ↦
          let before : home_of b.goal c.roots ≡ Some passes.applies.site = home_found c.roots good_before.stand.once b.goal passes.applies.site.content.name passes.applies.site b.was sf b.is_goal in
          let now : home_of b.goal d.roots ≡ Some (site_now b) = home_found d.roots good_after.stand.once b.goal passes.applies.site.content.name (site_now b) j st y in
          inr (
            b.goal,
            site_now b,
            before,
            now,
            b.keeps.name,
            refl,
            λ q. differ (sym (some_value (sym (shape_held b.goal c.roots passes.applies.site b.was before b.is_goal) ∙ q ∙ shape_held b.goal d.roots (site_now b) j now y))),
          )
    ]
      where
        st : box_at passes.applies.site.content.name d.roots ≡ Some (site_now b)
        st = site_there rules p c l d good_before good_after passes.applies b

    -- so the box isn't the site
    pub not_site : n ≡ passes.applies.site.content.name → ⊥
    not_site q = on (cases rules p c l d good_before good_after passes.applies)
      where
        on : (passes.applies.change.boxes ≡ no_boxes) ⊎ Becomes l.worker (slice_index c.next l.worker) passes.applies.site passes.applies.change → ⊥
        on (inl x) = let y : box_at n d.roots ≡ None = subst (λ (m : Name). box_at m d.roots ≡ None) (sym q) (site_gone rules p c l d good_before.stand passes.applies x) in let z : None ≡ Some k = sym y ∙ i in cc
        on (inr b) = elim (has_other_goals b) [
          | inl x ↦ passes.unopened (changed_goals e i (subst (λ (m : Name). goals_at m c.roots ≢ goals_at m d.roots) (sym q) x))
          | inr (g, u, x, y, s, r, differ) ↦ passes.unopened (subst (λ (m : Name). Opens [] c d (Place.Box m)) (s ∙ sym q) (box_of_changed_goal g x y differ))
        ]

    -- nor is the site inside it, where nothing inside changes
    pub not_inside : LeavesInside n c d → IsIn n (names_around passes.applies.site) → ⊥
    not_inside leaves h = on (cases rules p c l d good_before good_after passes.applies)
      where
        there : StandsIn n c.roots (Place.Box passes.applies.site.content.name)
        there = stands_around passes.applies.site.content.name c.roots passes.applies.site n sf h

        on : (passes.applies.change.boxes ≡ no_boxes) ⊎ Becomes l.worker (slice_index c.next l.worker) passes.applies.site passes.applies.change → ⊥
        on (inl x) = leaves.unchanged (Item.Goals passes.applies.site.content.name) (inl (of_goals there)) (λ q.
            let y : goals_at passes.applies.site.content.name c.roots ≡ Some (goal_names passes.applies.site.goals) = ap (option_map (λ (u : Found). goal_names u.goals)) sf in
            let z : goals_at passes.applies.site.content.name d.roots ≡ None = ap (option_map (λ (u : Found). goal_names u.goals)) (site_gone rules p c l d good_before.stand passes.applies x) in
            let t : Some (goal_names passes.applies.site.goals) ≡ None = sym y ∙ q ∙ z in cc)
        on (inr b) = elim (has_other_goals b) [
          | inl x ↦ leaves.unchanged (Item.Goals passes.applies.site.content.name) (inl (of_goals there)) x
          | inr (g, u, x, y, s, r, differ) ↦ leaves.unchanged (Item.Goal g) (inl (of_goal (subst (λ (o : Option Found). IsSomeAnd (option_map names_down_to o) (IsIn n)) (sym x)
              (IsIn-left n (names_around passes.applies.site) (passes.applies.site.content.name ∷ []) h)))) differ
        ]

    -- so all that is in it stays
    pub all_same : (IsIn n (names_around passes.applies.site) → ⊥) → k ≡ record f { around = k.around }
    all_same apart = on (box_moved rules p query journal c l d kept n replays passes around f k e i)
      where
        named : n ≡ f.content.name
        named = box-itself n c.roots f e

        none : (o : Option Found) → ((j : Found) → o ≡ Some j → ⊥) → o ≡ None
        none None h = refl
        none (Some j) h = absurd (h j refl)

        nothing_there : box_inside passes.applies.site.content.name f.goals ≡ None
        nothing_there = none (box_inside passes.applies.site.content.name f.goals) (λ j q.
            let x : box_at passes.applies.site.content.name c.roots ≡ Some (record j { around = f.around ++ f.content ∷ j.around }) = found_down c.roots good_before.stand.once n passes.applies.site.content.name f j e q in
            let y : record j { around = f.around ++ f.content ∷ j.around } ≡ passes.applies.site = some_value (sym x ∙ sf) in
            apart (subst (λ (u : Found). IsIn n (names_around u)) y (subst (λ (m : Name). IsIn m (names_around (record j { around = f.around ++ f.content ∷ j.around }))) (sym named) (in_path f.around f.content j.around))))

        on : Moved l.worker (slice_index c.next l.worker) passes.applies.site passes.applies.change f k → k ≡ record f { around = k.around }
        on (aside x) =
            let goals : k.goals ≡ f.goals = x.goals ∙ edited_inside-none passes.applies.site.content.name passes.applies.change.boxes f.goals nothing_there in
            λ j. record { around = k.around; content = x.content j; goals = goals j }
        on (at_site u q r) = absurd (not_site (named ∙ ap (λ (m : Found). m.content.name) q))
        on (inside u j x y q r) =
            let content : k.content ≡ f.content = ap (λ (m : Found). m.content) r ∙ sym (ap (λ (m : Found). m.content) q) in
            let goals : k.goals ≡ f.goals = ap (λ (m : Found). m.goals) r ∙ sym (ap (λ (m : Found). m.goals) q) in
            λ t. record { around = k.around; content = content t; goals = goals t }

    -- what stands in it stands there then
    module _ (apart : IsIn n (names_around passes.applies.site) → ⊥) where
      same_goals : k.goals ≡ f.goals
      same_goals = ap (λ (u : Found). u.goals) (all_same apart)

      named_now : k.content.name ≡ n
      named_now = sym (box-itself n d.roots k i)

      inside_found : (m : Name) (u : Found) → box_at m c.roots ≡ Some u → IsIn n (names_around u) → (z : Found) × (box_at m d.roots ≡ Some z) × IsIn n (names_around z) × (z.goals ≡ u.goals)
      inside_found m u x h =
          let y : Under n c.roots m u = under n m c.roots u good_before.stand.once x h in
          let q : y.outer ≡ f = some_value (sym y.is_outer ∙ e) in
          let there : box_inside m k.goals ≡ Some y.inner = subst (λ (gs : Goals). box_inside m gs ≡ Some y.inner) (ap (λ (v : Found). v.goals) q ∙ sym same_goals) y.is_inner in (
            record y.inner { around = k.around ++ k.content ∷ y.inner.around },
            found_down d.roots good_after.stand.once n m k y.inner i there,
            subst (λ (b : Name). IsIn b (names_around (record y.inner { around = k.around ++ k.content ∷ y.inner.around }))) named_now (in_path k.around k.content y.inner.around),
            ap (λ (v : Found). v.goals) y.whole_path,
          )

      pub stays_inside : (q : Place) → StandsIn n c.roots q → StandsIn n d.roots q
      stays_inside (Place.Box m) h = on (some_and (IsIn n) (option_map names_around (box_at m c.roots)) h)
        where
          on : (ns : List Name) × (option_map names_around (box_at m c.roots) ≡ Some ns) × IsIn n ns → StandsIn n d.roots (Place.Box m)
          on (ns, x, y) =
              let u : (u : Found) × (box_at m c.roots ≡ Some u) × (names_around u ≡ ns) = map_some names_around (box_at m c.roots) ns x in
              let z : (z : Found) × (box_at m d.roots ≡ Some z) × IsIn n (names_around z) × (z.goals ≡ u.0.goals) = inside_found m u.0 u.1 (subst (IsIn n) (sym u.2) y) in
              stands_around m d.roots z.0 n z.1 z.2
      stays_inside (Place.Goal g) h = on (some_and (IsIn n) (option_map names_down_to (home_of g c.roots)) h)
        where
          in_goal : (z : Found) → home_of g d.roots ≡ Some z → IsIn n (names_down_to z) → StandsIn n d.roots (Place.Goal g)
          in_goal z x y = subst (λ (o : Option Found). IsSomeAnd (option_map names_down_to o) (IsIn n)) (sym x) y

          on : (ns : List Name) × (option_map names_down_to (home_of g c.roots) ≡ Some ns) × IsIn n ns → StandsIn n d.roots (Place.Goal g)
          on (ns, x, y) = at (map_some names_down_to (home_of g c.roots) ns x)
            where
              at : (u : Found) × (home_of g c.roots ≡ Some u) × (names_down_to u ≡ ns) → StandsIn n d.roots (Place.Goal g)
              at (u, hu, q) = split ((home_in g c.roots u hu).1) (IsIn-either n (names_around u) (u.content.name ∷ []) (subst (IsIn n) (sym q) y))
                where
                  box_u : box_at u.content.name c.roots ≡ Some u
                  box_u = home-box g c.roots u good_before.stand.once hu

                  split : (h : Held) × (held_in g u.goals ≡ Some h) → IsIn n (names_around u) ⊎ IsIn n (u.content.name ∷ []) → StandsIn n d.roots (Place.Goal g)
                  split held (inl t) =
                      let z : (z : Found) × (box_at u.content.name d.roots ≡ Some z) × IsIn n (names_around z) × (z.goals ≡ u.goals) = inside_found u.content.name u box_u t in
                      let home : home_of g d.roots ≡ Some z.0 =
                      home_found d.roots good_after.stand.once g u.content.name z.0 held.0 z.1 (subst (λ (gs : Goals). held_in g gs ≡ Some held.0) (sym z.3) held.1) in
                      in_goal z.0 home (IsIn-left n (names_around z.0) (z.0.content.name ∷ []) z.2)
                  split held (inr (inl t)) =
                      let same : u ≡ f = some_value (sym (subst (λ (b : Name). box_at b c.roots ≡ Some u) (sym t) box_u) ∙ e) in
                      let home : home_of g d.roots ≡ Some k =
                      home_found d.roots good_after.stand.once g n k held.0 i (subst (λ (gs : Goals). held_in g gs ≡ Some held.0) (ap (λ (z : Found). z.goals) same ∙ sym same_goals) held.1) in
                      in_goal k home (IsIn-right n (names_around k) (k.content.name ∷ []) (inl (sym named_now)))
                  split held (inr (inr t)) = absurd t

    -- a label at a site inside it opens a place in it
    pub disturbed : (waits : List Wait) → IsIn n (names_around passes.applies.site) → (q : Place) × Opens waits c d q × StandsIn n d.roots q
    disturbed waits h = on (cases rules p c l d good_before good_after passes.applies)
      where
        in_goal : (g : Name) (z : Found) → home_of g d.roots ≡ Some z → IsIn n (names_down_to z) → StandsIn n d.roots (Place.Goal g)
        in_goal g z x y = subst (λ (o : Option Found). IsSomeAnd (option_map names_down_to o) (IsIn n)) (sym x) y

        failed : passes.applies.change.boxes ≡ no_boxes → (passes.applies.site.around ≡ []) ⊎ Holder passes.applies.site.around passes.applies.site.content passes.applies.site.goals c.roots
            → (q : Place) × Opens waits c d q × StandsIn n d.roots q
        failed x (inl y) = absurd (subst (λ (path : List Content). IsIn n (map (λ (b : Content). b.name) path)) y h)
        failed x (inr y) = (
          Place.Goal y.goal,
          changed_goal (was_home rules p c l d good_before.stand passes.applies x y) (is_home rules p c l d good_before.stand passes.applies x y) (differs rules p c l d good_before.stand passes.applies x y),
          in_goal y.goal (home_now rules p c l d good_before.stand passes.applies x y) (is_home rules p c l d good_before.stand passes.applies x y)
              (subst (IsIn n) (names_snoc y.home.around y.home.content) (subst (λ (path : List Content). IsIn n (map (λ (b : Content). b.name) path)) y.path h)),
        )

        on : (passes.applies.change.boxes ≡ no_boxes) ⊎ Becomes l.worker (slice_index c.next l.worker) passes.applies.site passes.applies.change → (q : Place) × Opens waits c d q × StandsIn n d.roots q
        on (inl x) = failed x (in_holder passes.applies.site.around passes.applies.site.content passes.applies.site.goals c.roots good_before.stand.once (found_in passes.applies.site.content.name c.roots passes.applies.site sf))
        on (inr b) = elim (has_other_goals b) [
          | inl x ↦ (
            Place.Box passes.applies.site.content.name,
            changed_goals sf (site_there rules p c l d good_before good_after passes.applies b) x,
            stands_around passes.applies.site.content.name d.roots (site_now b) n (site_there rules p c l d good_before good_after passes.applies b) h,
          )
          | inr (g, u, x, y, s, r, differ) ↦ (
            Place.Goal g,
            changed_goal x y differ,
            in_goal g u y (IsIn-left n (names_around u) (u.content.name ∷ []) (subst (λ (path : List Content). IsIn n (map (λ (b : Content). b.name) path)) (sym r) h)),
          )
        ]

module _ (rules : List Rule) (p : Program) (query : Query) (journal : List Label) (c : Config) (l : Label) (d : Config) (kept : List Var) (n : Name) (replays : Replays rules p query journal c)
    (passes : PassesBy rules p kept (Place.Box n) c l d) (slept : SplitSleeps rules p c kept n) (apart : IsIn n (names_around passes.applies.site) → ⊥) where
  was_good : Good c
  was_good = w rules p query journal c l d kept n replays passes slept.around

  module _ (f k : Found) (e : box_at n c.roots ≡ Some f) (i : box_at n d.roots ≡ Some k) where
    same_box : k ≡ record f { around = k.around }
    same_box = all_same rules p query journal c l d kept n replays passes slept.around f k e i apart

    may_grow : IsConsistent (environment k) → MayGrow (frames_of (only f)) (environment f) (equations_of k.around)
    may_grow ok = record {
      over_old = outside_environment c was_good n f e;
      over_new = over_now rules p query journal c l d kept n replays passes slept.around f k e i;
      keeps = (env_keeps_kept rules p query journal c l d kept n replays passes slept.around f k e i ok).keeps;
      consistent = ok;
    }

    leaves_kept : IsConsistent (environment k) → LeavesKept kept (environment f) (equations_of k.around)
    leaves_kept ok = env_keeps_kept rules p query journal c l d kept n replays passes slept.around f k e i ok

    pub all_kept_now : EachBox (IsKeptIn p kept (frames_of (only k)) (environment k)) k.around (only k)
    all_kept_now = subst (λ (u : Found). EachBox (IsKeptIn p kept (frames_of (only u)) (equations_of k.around)) k.around (only u)) (sym same_box) (on (consistent_or (environment k)))
      where
        on : IsConsistent (environment k) ⊎ Contradicts (environment k) → EachBox (IsKeptIn p kept (frames_of (only f)) (equations_of k.around)) k.around (only f)
        on (inl ok) = keeps_further p kept f k.around (may_grow ok) (leaves_kept ok) (slept.all_kept f e)
        on (inr x) = kept_nowhere p kept (frames_of (only f)) (equations_of k.around) k.around (only f) (clash_not (environment k) x)

    -- it was ready by Split, or isn't now
    split_not : (r : Label) (u : Reading) → IsInForce rules Rule.Split → (x : Name) → IsStable p k → IsSomeAnd (choice_with x k.goals) (IsSplitPoint k x) → (ch : Change)
        → change_by p u r.worker (slice_index d.next r.worker) Rule.Split (Place.Box n) (Some x) k ≡ Some ch → ch.drawn < 2 ^ 32 → ⊥
    split_not r u force x stable point ch change few = slept.unready (record {
      label = here;
      is_place = refl;
      result = after c here f again.0;
      applies = record {
        in_force = force;
        site = f;
        is_site = e;
        change = again.0;
        makes = record { reading = u; change = again.1; allowed = (was_stable, was_point); few_names = subst (λ (m : ℕ). m < 2 ^ 32) (sym again.2) few };
        result = refl;
      };
      counts = λ z. never z.fails;
    })
      where
        here : Label
        here = record { rule = Rule.Split; place = Place.Box n; alternative = Some x; worker = r.worker }

        never : Rule.Split ≡ Rule.Fail → ⊥
        never q = cc

        same : Found
        same = record f { around = k.around }

        ok : IsConsistent (environment k)
        ok = IsConsistent-follows (left_follows (environment k) k.content.equations) (untouched_box p (frames_of (only k)) (environment k) k stable.each.0).consistent

        was_stable : IsStable p f
        was_stable = stable_before p kept f k.around (may_grow ok) (leaves_kept ok) (slept.all_kept f e) (subst (IsStable p) same_box stable)

        again : (y : Change) × (split_at r.worker (slice_index c.next r.worker) x f (choice_with x f.goals) ≡ Some y) × (y.drawn ≡ ch.drawn)
        again = split_again r.worker (slice_index c.next r.worker) (slice_index d.next r.worker) x f k.around (choice_with x f.goals) ch
            (subst (λ (z : Found). split_at r.worker (slice_index d.next r.worker) x z (choice_with x z.goals) ≡ Some ch) same_box change)

        point_now : (y : ChoiceIn) × (choice_with x f.goals ≡ Some y) × IsSplitPoint same x y
        point_now = some_and (IsSplitPoint same x) (choice_with x f.goals) (subst (λ (z : Found). IsSomeAnd (choice_with x z.goals) (IsSplitPoint z x)) same_box point)

        fewer : (m : Found) → IsConsistent (equations_of (k.around ++ f.content ∷ []) ++ m.content.equations) → IsConsistent (equations_of (f.around ++ f.content ∷ []) ++ m.content.equations)
        fewer m h = IsConsistent-follows (follows_told _ _ (λ s t y. elim (IsTold-either (equations_of (f.around ++ f.content ∷ [])) m.content.equations s t y) [
          | inl z ↦ IsTold-left (equations_of (k.around ++ f.content ∷ [])) m.content.equations s t (subst (λ (E : Equations). IsTold E s t) (sym (equations-snoc k.around f.content))
              (elim (IsTold-either (environment f) f.content.equations s t (subst (λ (E : Equations). IsTold E s t) (equations-snoc f.around f.content) z)) [
                | inl o ↦ IsTold-left (equations_of k.around) f.content.equations s t ((leaves_kept ok).keeps s t o)
                | inr o ↦ IsTold-right (equations_of k.around) f.content.equations s t o
              ]))
          | inr z ↦ IsTold-right (equations_of (k.around ++ f.content ∷ [])) m.content.equations s t z
        ])) h

        was_point : IsSomeAnd (choice_with x f.goals) (IsSplitPoint f x)
        was_point = and_some (IsSplitPoint f x) (choice_with x f.goals) point_now.0 point_now.1 (record {
          nondeterminate = point_now.2.nondeterminate;
          first = point_now.2.first;
          consistent = alternative (some_and (λ (m : Found). IsConsistent (whole m)) (alternative_of same x point_now.0.alternatives) point_now.2.consistent);
          others = point_now.2.others;
        })
          where
            alternative : (m : Found) × (alternative_of same x point_now.0.alternatives ≡ Some m) × IsConsistent (whole m) → IsSomeAnd (alternative_of f x point_now.0.alternatives) (λ (m : Found). IsConsistent (whole m))
            alternative (m, q, h) = and_some (λ (m : Found). IsConsistent (whole m)) (alternative_of f x point_now.0.alternatives) (record m { around = f.around ++ f.content ∷ [] }) (alternative_other same f m x point_now.0.alternatives q)
                (fewer m (subst (λ (path : List Content). IsConsistent (equations_of path ++ m.content.equations)) ((alternative_in same x point_now.0.alternatives m q).1) h))

  pub split_sleeps_on : SplitSleeps rules p d kept n
  split_sleeps_on = record {
    unready = unready;
    around = around_then rules p query journal c l d kept n replays passes slept.around;
    all_kept = λ k i. let x : (f : Found) × (box_at n c.roots ≡ Some f) = box_there rules p query journal c l d kept n replays passes slept.around k i in all_kept_now x.0 k x.1 i;
  }
    where
      unready : IsReady rules p d (Place.Box n) → ⊥
      unready r = on (split_of p r.applies.makes.reading n r.label.alternative r.applies.site allowed)
        where
          rule : r.label.rule ≡ Rule.Split
          rule = only_split_now rules p query journal c l d kept n replays passes slept.around (λ z. absurd (slept.unready z)) r

          site : box_at n d.roots ≡ Some r.applies.site
          site = subst (λ (x : Place). site_of x d.roots ≡ Some r.applies.site) r.is_place r.applies.is_site

          allowed : Allows p r.applies.makes.reading Rule.Split (Place.Box n) r.label.alternative r.applies.site
          allowed = subst (λ (x : Rule). Allows p r.applies.makes.reading x (Place.Box n) r.label.alternative r.applies.site) rule
              (subst (λ (x : Place). Allows p r.applies.makes.reading r.label.rule x r.label.alternative r.applies.site) r.is_place r.applies.makes.allowed)

          change : change_by p r.applies.makes.reading r.label.worker (slice_index d.next r.label.worker) Rule.Split (Place.Box n) r.label.alternative r.applies.site ≡ Some r.applies.change
          change = subst (λ (x : Rule). change_by p r.applies.makes.reading r.label.worker (slice_index d.next r.label.worker) x (Place.Box n) r.label.alternative r.applies.site ≡ Some r.applies.change) rule
              (subst (λ (x : Place). change_by p r.applies.makes.reading r.label.worker (slice_index d.next r.label.worker) r.label.rule x r.label.alternative r.applies.site ≡ Some r.applies.change) r.is_place r.applies.makes.change)

          on : (x : Name) × (r.label.alternative ≡ Some x) × IsStable p r.applies.site × IsSomeAnd (choice_with x r.applies.site.goals) (IsSplitPoint r.applies.site x) → ⊥
          on (x, q, stable, point) =
              let y : (f : Found) × (box_at n c.roots ≡ Some f) = box_there rules p query journal c l d kept n replays passes slept.around r.applies.site site in
              split_not y.0 r.applies.site y.1 site r.label r.applies.makes.reading (subst (IsInForce rules) rule r.applies.in_force) x stable point r.applies.change
              (subst (λ (o : Option Name). change_by p r.applies.makes.reading r.label.worker (slice_index d.next r.label.worker) Rule.Split (Place.Box n) o r.applies.site ≡ Some r.applies.change) q change) r.applies.makes.few_names

-- a box that has gone sleeps
pub gone_sleeps : (rules : List Rule) (p : Program) (d : Config) (kept : List Var) (n : Name) → box_at n d.roots ≡ None → SplitSleeps rules p d kept n
gone_sleeps rules p d kept n q = record { unready = unready; around = λ f e. absurd (no_box f e); all_kept = λ f e. absurd (no_box f e) }
  where
    no_box : (f : Found) → box_at n d.roots ≡ Some f → ⊥
    no_box f e = let z : None ≡ Some f = sym q ∙ e in cc

    unready : IsReady rules p d (Place.Box n) → ⊥
    unready r = no_box r.applies.site (subst (λ (x : Place). site_of x d.roots ≡ Some r.applies.site) r.is_place r.applies.is_site)

split_sleeps_beside : (rules : List Rule) (p : Program) (q : Query) (journal : List Label) (c : Config) (l : Label) (d : Config) (kept : List Var) (n : Name) → Replays rules p q journal c
    → PassesBy rules p kept (Place.Box n) c l d → LeavesInside n c d → SplitSleeps rules p c kept n → SplitSleeps rules p d kept n
split_sleeps_beside rules p q journal c l d kept n r x y s = on (box_at n d.roots) refl
  where
    on : (o : Option Found) → box_at n d.roots ≡ o → SplitSleeps rules p d kept n
    on None z = gone_sleeps rules p d kept n z
    on (Some k) z =
        let f : (f : Found) × (box_at n c.roots ≡ Some f) = box_there rules p q journal c l d kept n r x s.around k z in
        split_sleeps_on rules p q journal c l d kept n r x s (not_inside rules p q journal c l d kept n r x s.around f.0 k f.1 z y)

split_sleeps_through : (rules : List Rule) (p : Program) (q : Query) (journal : List Label) (c : Config) (n : Name) (kept all : List Var) (further : List Label) (d : Config)
    → Replays rules p q journal c → HaveAliases c (Place.Box n) (λ y. IsAmong y kept) all → SplitSleeps rules p c all n → PassBeside rules p kept n c further d → SplitSleeps rules p d all n
split_sleeps_through rules p q journal c n kept all [] d r h s e = subst (λ (x : Config). SplitSleeps rules p x all n) e s
split_sleeps_through rules p q journal c n kept all (l ∷ ls) d r h s (m, x, y, rest) =
    let z : PassesBy rules p all (Place.Box n) c l m × HaveAliases m (Place.Box n) (λ y. IsAmong y kept) all = passes_with rules p q journal c l m (Place.Box n) kept all r x h in
    split_sleeps_through rules p q (journal ++ l ∷ []) m n kept all ls d (replay_further rules p q journal c l m r x.applies) z.1 (split_sleeps_beside rules p q journal c l m all n r z.0 y s) rest

pub box_sleeps_beside : (rules : List Rule) (p : Program) (q : Query) (journal : List Label) (c : Config) (n : Name) (kept : List Var) (further : List Label) (d : Config)
    → Replays rules p q journal c → (IsReady rules p c (Place.Box n) → ⊥) → IsEnough p c kept (Place.Box n) → PassBeside rules p kept n c further d → IsReady rules p d (Place.Box n) → ⊥
box_sleeps_beside rules p q journal c n kept further d r unready enough pass =
    let k : Completed p c kept (Place.Box n) = completed p c kept (Place.Box n) (good_replay rules p q journal c r) enough in
    (split_sleeps_through rules p q journal c n kept k.all further d r k.aliases (split_sleeps_settled rules p c k.all n unready k.needed) pass).unready
