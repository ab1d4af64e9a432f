-- Over commits and settles each place that is not open stays unready, and so no ready place sleeps.
use Rattle.std.proofs.Common.{length, arith, ◌+◌, ◌≡◌, ℕ, ◌<◌, List, [], ◌∷◌, ◌++◌, map, reverse, Bool, true, false, Option, Some, None, refl, sym, ◌∙◌, ap, subst, ◌⊎◌, inl, inr, append_assoc}
use Rattle.std.proofs.lemmas.Bool.{lt-ltb}
use Rattle.std.proofs.lemmas.List.{length-append}
use Rattle.std.specs.Prelude.{if◌then◌else◌, option_map, is_some, IsSomeAnd, ◌&&◌, ◌||◌, nat_lt}
use Rattle.akl_terms.specs.declared.name.Name.{Name}
use Rattle.akl_terms.specs.declared.name.Var.{Var}
use Rattle.akl_terms.specs.declared.name.Place.{Place}
use Rattle.akl_model.specs.Config.{Operator}
use Rattle.akl_terms.specs.declared.program.Program.{Program}
use Rattle.akl_terms.specs.declared.program.Query.{Query}
use Rattle.akl_model.specs.declared.label.Rule.{Rule}
use Rattle.akl_model.specs.declared.label.Label.{Label}
use Rattle.akl_model.specs.Config.{IsIn, Content, Boxes, Goals, no_goals, atom, choice, Config, Found, box_at, home_of, site_of}
use Rattle.akl_model.specs.Instances.{start}
use Rattle.akl_model.specs.Rules.{Reading, count_of, ChoiceIn, choice_with, has_box}
use Rattle.akl_model.specs.Stable.{first_solved, IsStable, IsSplitPoint, Allows}
use Rattle.akl_model.specs.Derivations.{Replays, IsReady, IsQuietEnd}
use Rattle.akl_model.specs.Wakes.{names_around, names_down_to, boxes_around, StandsIn, IsAt, Wait, IsKept, Opens, woken, has_candidate, is_candidate, nearest_of, nearest, IsOneOf, SettleOpens, IsThere, IsOpenAfterCommit, IsOpenAfterSettle, its_own, another}
use Rattle.akl_model.proofs.Options.{some_value, map_some, none_or, none_where, some_and}
use Rattle.constraint_laws.proofs.SameTerms.{Either}
use Rattle.akl_model.proofs.NamesKept.{home-box, box-itself}
use Rattle.constraint_laws.specs.Touched.{IsAmong}
use Rattle.plan_laws.specs.Sleeps.{Needs, PassesBy}
use Rattle.plan_laws.specs.Runs.{Commits, Settles, Forgets, Runs, begins, commits, settles, forgets, IsAwake, is_open, has_open}
use Rattle.plan_laws.proofs.InScope.{Good}
use Rattle.plan_laws.proofs.Around.{chain_around, chain_down}
use Rattle.plan_laws.proofs.Replayed.{good_replay, replay_further}
use Rattle.plan_laws.proofs.DownTo.{stands_down, stands_around}
use Rattle.plan_laws.proofs.Aliases.{HaveAliases, kept_further, Completed, completed, passes_all, aliases_on}
use Rattle.plan_laws.proofs.GoalSleeps.{GoalSleeps, goal_sleeps_settled, sleeps_on}
use Rattle.step_laws.proofs.ReadyGoals.{ready_there}
use Rattle.plan_laws.proofs.BoxSleeps.{BoxSleeps, box_sleeps_settled, box_sleeps_on, box_there}
use Rattle.plan_laws.proofs.NeedsConcern.{opened_too}
use Rattle.plan_laws.proofs.SplitSleeps.{SplitSleeps, split_sleeps_settled, split_sleeps_on, gone_sleeps, split_of, all_same, stays_inside, disturbed}
use Rattle.step_laws.proofs.Deeper.{names_snoc}
use Rattle.step_laws.proofs.Decide.{place_or, one_of_or, in_or, there_or, some_at_or}
use Rattle.plan_laws.proofs.Nearest.{nearest_along, nearest_in, nearest_nowhere, names_cut, split_path, on_path, nearest_is}
use Rattle.akl_model.proofs.Drawn.{true_both}

-- why a box that isn't open isn't ready by Split, or may be
pub data SplitIdle (rules : List Rule) (p : Program) (c : Config) (now : List Place) (kept : List Var) (n : Name) : Type 0 where
  not_at_all : SplitSleeps rules p c kept n → SplitIdle rules p c now kept n
  over_open : (q : Place) → IsOneOf q now → StandsIn n c.roots q → SplitIdle rules p c now kept n
  no_candidate : ((f : Found) → box_at n c.roots ≡ Some f → has_candidate f.goals ≡ false) → SplitIdle rules p c now kept n

-- a goal or a box that isn't open: each variable that keeps it asleep is equal to one on which it waits
pub record GoalIdle (rules : List Rule) (p : Program) (c : Config) (waits : List Wait) (g : Name) : Type 0 where
  pub all : List Var
  pub waited : HaveAliases c (Place.Goal g) (IsKept waits (Place.Goal g)) all
  pub sleeps : GoalSleeps rules p c all g

pub record BoxIdle (rules : List Rule) (p : Program) (c : Config) (now : List Place) (waits : List Wait) (n : Name) : Type 0 where
  pub all : List Var
  pub waited : HaveAliases c (Place.Box n) (IsKept waits (Place.Box n)) all
  pub sleeps : BoxSleeps rules p c all n
  pub split_idle : SplitIdle rules p c now all n

abbrev pub PlaceIdle : List Rule → Program → Config → List Place → List Wait → Place → Type 0
PlaceIdle rules p c now waits (Place.Goal g) = GoalIdle rules p c waits g
PlaceIdle rules p c now waits (Place.Box n) = BoxIdle rules p c now waits n

abbrev pub AllIdle : List Rule → Program → Config → List Place → List Wait → Type 0
AllIdle rules p c now waits = (place : Place) → IsOneOf place now ⊎ PlaceIdle rules p c now waits place

-- a place that is not there is idle
goal_there : (g : Name) (bs : Boxes) (f : Found) → home_of g bs ≡ Some f → IsThere (Place.Goal g) bs
goal_there g bs f e = ap (λ (o : Option Found). is_some (option_map names_down_to o)) e

box_is_there : (n : Name) (bs : Boxes) (f : Found) → box_at n bs ≡ Some f → IsThere (Place.Box n) bs
box_is_there n bs f e = ap (λ (o : Option Found). is_some (option_map names_around o)) e

stands_there : (n : Name) (bs : Boxes) (q : Place) → StandsIn n bs q → IsThere q bs
stands_there n bs q h = let w : (ns : List Name) × (boxes_around q bs ≡ Some ns) × IsIn n ns = some_and (IsIn n) (boxes_around q bs) h in ap is_some w.1

gone_idle : (rules : List Rule) (p : Program) (c : Config) (now : List Place) (waits : List Wait) (place : Place) → (IsThere place c.roots → ⊥) → PlaceIdle rules p c now waits place
gone_idle rules p c now waits (Place.Goal g) gone = record {
  all = [];
  waited = record { each = λ x h. absurd h };
  sleeps = record {
    unready = λ z. let w : (f : Found) × (home_of g c.roots ≡ Some f) = ready_there rules p c g z in gone (goal_there g c.roots w.0 w.1);
    at_home = λ f e. absurd (gone (goal_there g c.roots f e));
  };
}
gone_idle rules p c now waits (Place.Box n) gone =
    let s : SplitSleeps rules p c [] n = gone_sleeps rules p c [] n (none_where (box_at n c.roots) (λ f e. gone (box_is_there n c.roots f e))) in
    record { all = []; waited = record { each = λ x h. absurd h }; sleeps = record { only_split = λ r. absurd (s.unready r); around = s.around }; split_idle = not_at_all s }

-- a box that is split has a candidate
candidate_of : (a : Name) (gs : Goals) (k : ChoiceIn) → choice_with a gs ≡ Some k → k.op ≡ Operator.nondeterminate → first_solved k.alternatives ≡ Some a → 1 < count_of k.alternatives → has_candidate gs ≡ true
candidate_of a no_goals k e o s l = cc
candidate_of a (atom g b gs) k e o s l = candidate_of a gs k e o s l
candidate_of a (choice g op bs gs) k e o s l = on (has_box a bs) e (λ x. candidate_of a gs k x o s l)
  where
    or_right : (t : Bool) → (t || true) ≡ true
    or_right true = refl
    or_right false = refl

    or_left : (t u : Bool) → t ≡ true → (t || u) ≡ true
    or_left true u x = refl
    or_left false u x = cc

    more : (m : ℕ) → 1 < m → nat_lt 1 m ≡ true
    more m h = lt-ltb 1 m h

    later : (r : Operator) → has_candidate gs ≡ true → has_candidate (choice g r bs gs) ≡ true
    later Operator.nondeterminate x = subst (λ (t : Bool). ((is_some (first_solved bs) && nat_lt 1 (count_of bs)) || t) ≡ true) (sym x) (or_right (is_some (first_solved bs) && nat_lt 1 (count_of bs)))
    later Operator.condition x = x
    later Operator.commit x = x
    later (Operator.collecting r) x = x

    here : (r : Operator) → r ≡ Operator.nondeterminate → first_solved bs ≡ Some a → 1 < count_of bs → has_candidate (choice g r bs gs) ≡ true
    here Operator.nondeterminate q x y = or_left (is_some (first_solved bs) && nat_lt 1 (count_of bs)) (has_candidate gs) (true_both (is_some (first_solved bs)) (nat_lt 1 (count_of bs)) (ap is_some x) (more (count_of bs) y))
    here Operator.condition q x y = cc
    here Operator.commit q x y = cc
    here (Operator.collecting r) q x y = cc

    on : (t : Bool) → (if t then Some (record { name = g; op = op; alternatives = bs }) else choice_with a gs) ≡ Some k → (choice_with a gs ≡ Some k → has_candidate gs ≡ true) → has_candidate (choice g op bs gs) ≡ true
    on true x f =
        let q : record { name = g; op = op; alternatives = bs } ≡ k = some_value x in
        here op (ap (λ (u : ChoiceIn). u.op) q ∙ o) (ap (λ (u : ChoiceIn). first_solved u.alternatives) q ∙ s) (subst (λ (m : ℕ). 1 < m) (sym (ap (λ (u : ChoiceIn). count_of u.alternatives) q)) l)
    on false x f = later op (f x)

pub split_candidate : (p : Program) (v : Reading) (n : Name) (alternative : Option Name) (f : Found) → Allows p v Rule.Split (Place.Box n) alternative f → has_candidate f.goals ≡ true
split_candidate p v n alternative f x =
    let y : (a : Name) × (alternative ≡ Some a) × IsStable p f × IsSomeAnd (choice_with a f.goals) (IsSplitPoint f a) = split_of p v n alternative f x in
    let k : (k : ChoiceIn) × (choice_with y.0 f.goals ≡ Some k) × IsSplitPoint f y.0 k = some_and (IsSplitPoint f y.0) (choice_with y.0 f.goals) y.3 in
    candidate_of y.0 f.goals k.0 k.1 k.2.nondeterminate k.2.first k.2.others

pub runs_replay : (rules : List Rule) (p : Program) (q : Query) (journal : List Label) (c : Config) (now : List Place) (waits : List Wait) → Runs rules p q journal c now waits → Replays rules p q journal c
runs_replay rules p q journal c now waits (begins h) = record { derives = refl }
runs_replay rules p q journal d now waits (commits {journal = earlier} {c = c} {l = l} {before = before} {waits = old} r x) = replay_further rules p q earlier c l d (runs_replay rules p q earlier c before old r) x.applies
runs_replay rules p q journal c now waits (settles {before = before} {waits = old} r x) = runs_replay rules p q journal c before old r
runs_replay rules p q journal c now waits (forgets {before = before} {waits = old} r x) = runs_replay rules p q journal c before old r

-- over a commit
module _ (rules : List Rule) (p : Program) (q : Query) (journal : List Label) (c : Config) (l : Label) (d : Config) (before : List Place) (waits : List Wait) (now : List Place) (waits_now : List Wait)
    (r : Replays rules p q journal c) (x : Commits rules p c l d before waits now waits_now) where
  good : Good c
  good = good_replay rules p q journal c r

  good_after : Good d
  good_after = good_replay rules p q (journal ++ l ∷ []) d (replay_further rules p q journal c l d r x.applies)

  shut : (place : Place) → (Opens waits c d place → ⊥) → Opens [] c d place → ⊥
  shut place closed o = closed (opened_too waits c d place o)

  passes : (place : Place) → (Opens waits c d place → ⊥) → (all : List Var) → HaveAliases c place (IsKept waits place) all → PassesBy rules p all place c l d
  passes place closed all h = passes_all rules p c l d good good_after x.applies place (shut place closed) (IsKept waits place) all h (λ m i y k b. closed (woken m k b))

  waited_on : (place : Place) → (Opens waits c d place → ⊥) → IsThere place d.roots → (all : List Var) → HaveAliases c place (IsKept waits place) all → HaveAliases d place (IsKept waits_now place) all
  waited_on place closed there all h = kept_further d place (IsKept waits place) (IsKept waits_now place) all (λ y k. x.keeps place y (record { kept = k; unopened = closed; there = there }))
      (aliases_on rules p c l d good good_after x.applies place (shut place closed) (IsKept waits place) all h)

  goal_commits : (g : Name) → (Opens waits c d (Place.Goal g) → ⊥) → IsThere (Place.Goal g) d.roots → GoalIdle rules p c waits g → GoalIdle rules p d waits_now g
  goal_commits g closed there s = record {
    all = s.all;
    waited = waited_on (Place.Goal g) closed there s.all s.waited;
    sleeps = sleeps_on rules p q journal c l d s.all g r (passes (Place.Goal g) closed s.all s.waited) s.sleeps;
  }

  box_commits : (n : Name) → (Opens waits c d (Place.Box n) → ⊥) → IsThere (Place.Box n) d.roots → BoxIdle rules p c before waits n → (k : Found) → box_at n d.roots ≡ Some k → BoxIdle rules p d now waits_now n
  box_commits n closed there s k i = record {
    all = s.all;
    waited = waited_on (Place.Box n) closed there s.all s.waited;
    sleeps = box_sleeps_on rules p q journal c l d s.all n r passing s.sleeps;
    split_idle = on (in_or n (names_around passing.applies.site));
  }
    where
      passing : PassesBy rules p s.all (Place.Box n) c l d
      passing = passes (Place.Box n) closed s.all s.waited

      was : (f : Found) × (box_at n c.roots ≡ Some f)
      was = box_there rules p q journal c l d s.all n r passing s.sleeps.around k i

      beside : (IsIn n (names_around passing.applies.site) → ⊥) → SplitIdle rules p c before s.all n → SplitIdle rules p d now s.all n
      beside apart (not_at_all y) = not_at_all (split_sleeps_on rules p q journal c l d s.all n r passing y apart)
      beside apart (over_open o y h) =
          let z : StandsIn n d.roots o = stays_inside rules p q journal c l d s.all n r passing s.sleeps.around was.0 k was.1 i apart o h in
          over_open o (x.opens o (IsOpenAfterCommit.stays y (λ t. stands_there n d.roots o z))) z
      beside apart (no_candidate h) = no_candidate (λ u e.
          let same : u ≡ k = some_value (sym e ∙ i) in
          let goals : u.goals ≡ was.0.goals = ap (λ (z : Found). z.goals) same ∙ ap (λ (z : Found). z.goals) (all_same rules p q journal c l d s.all n r passing s.sleeps.around was.0 k was.1 i apart) in
          ap has_candidate goals ∙ h was.0 was.1)

      on : Either (IsIn n (names_around passing.applies.site)) → SplitIdle rules p d now s.all n
      on (inl h) =
          let w : (o : Place) × Opens waits c d o × StandsIn n d.roots o = disturbed rules p q journal c l d s.all n r passing s.sleeps.around was.0 k was.1 i waits h in
          over_open w.0 (x.opens w.0 (IsOpenAfterCommit.opened w.1)) w.2
      on (inr apart) = beside apart s.split_idle

  commit_step : AllIdle rules p c before waits → AllIdle rules p d now waits_now
  commit_step all place = on (one_of_or place now)
    where
      some_of : {A : Type 0} (o : Option A) → is_some o ≡ true → (y : A) × (o ≡ Some y)
      some_of None h = cc
      some_of (Some y) h = (y, refl)

      stays_closed : (place : Place) → (Opens waits c d place → ⊥) → PlaceIdle rules p c before waits place → PlaceIdle rules p d now waits_now place
      stays_closed (Place.Goal g) closed s =
          elim (there_or (Place.Goal g) d.roots) [ inl t ↦ goal_commits g closed t s | inr gone ↦ gone_idle rules p d now waits_now (Place.Goal g) gone ]
      stays_closed (Place.Box n) closed s = split (there_or (Place.Box n) d.roots)
        where
          split : Either (IsThere (Place.Box n) d.roots) → BoxIdle rules p d now waits_now n
          split (inr gone) = gone_idle rules p d now waits_now (Place.Box n) gone
          split (inl t) =
              let y : (ns : List Name) × (option_map names_around (box_at n d.roots) ≡ Some ns) = some_of (option_map names_around (box_at n d.roots)) t in
              let z : (k : Found) × (box_at n d.roots ≡ Some k) × (names_around k ≡ y.0) = map_some names_around (box_at n d.roots) y.0 y.1 in
              box_commits n closed t s z.0 z.1

      closed : (IsOneOf place now → ⊥) → IsOneOf place before ⊎ PlaceIdle rules p c before waits place → PlaceIdle rules p d now waits_now place
      closed shut (inl y) = split (there_or place d.roots)
        where
          split : Either (IsThere place d.roots) → PlaceIdle rules p d now waits_now place
          split (inl t) = absurd (shut (x.opens place (IsOpenAfterCommit.stays y (λ z. t))))
          split (inr gone) = gone_idle rules p d now waits_now place gone
      closed shut (inr s) = stays_closed place (λ o. shut (x.opens place (IsOpenAfterCommit.opened o))) s

      on : Either (IsOneOf place now) → IsOneOf place now ⊎ PlaceIdle rules p d now waits_now place
      on (inl y) = inl y
      on (inr shut) = inr (closed shut (all place))

-- over a settle
module _ (rules : List Rule) (p : Program) (c : Config) (w : Good c) where
  -- what stands in a box stands in those around it
  stands_further : (n m : Name) (fm : Found) (q : Place) → box_at m c.roots ≡ Some fm → IsIn n (names_around fm) → StandsIn m c.roots q → StandsIn n c.roots q
  stands_further n m fm (Place.Box k) e h s = on (some_and (IsIn m) (option_map names_around (box_at k c.roots)) s)
    where
      on : (ns : List Name) × (option_map names_around (box_at k c.roots) ≡ Some ns) × IsIn m ns → StandsIn n c.roots (Place.Box k)
      on (ns, x, y) =
          let u : (u : Found) × (box_at k c.roots ≡ Some u) × (names_around u ≡ ns) = map_some names_around (box_at k c.roots) ns x in
          let g : (g : Found) × (box_at m c.roots ≡ Some g) × ((b : Name) → IsIn b (names_around g) → IsIn b (names_around u.0)) = (chain_around c w k u.0 u.1).found m (subst (IsIn m) (sym u.2) y) in
          stands_around k c.roots u.0 n u.1 (g.2 n (subst (λ (z : Found). IsIn n (names_around z)) (some_value (sym e ∙ g.1)) h))
  stands_further n m fm (Place.Goal k) e h s = on (some_and (IsIn m) (option_map names_down_to (home_of k c.roots)) s)
    where
      on : (ns : List Name) × (option_map names_down_to (home_of k c.roots) ≡ Some ns) × IsIn m ns → StandsIn n c.roots (Place.Goal k)
      on (ns, x, y) =
          let u : (u : Found) × (home_of k c.roots ≡ Some u) × (names_down_to u ≡ ns) = map_some names_down_to (home_of k c.roots) ns x in
          let g : (g : Found) × (box_at m c.roots ≡ Some g) × ((b : Name) → IsIn b (names_around g) → IsIn b (names_down_to u.0)) =
          (chain_down c w u.0.content.name u.0 (home-box k c.roots u.0 w.stand.once u.1)).found m (subst (IsIn m) (sym u.2) y) in
          stands_down k c.roots u.0 n u.1 (g.2 n (subst (λ (z : Found). IsIn n (names_around z)) (some_value (sym e ∙ g.1)) h))

  -- a box on the path of a place
  path_found : (own : Place) (ns : List Name) → boxes_around own c.roots ≡ Some ns → (P : List Name) (m : Name) (Q : List Name) → ns ≡ P ++ m ∷ Q → (u : Found) × (box_at m c.roots ≡ Some u) × (names_around u ≡ P)
  path_found (Place.Goal g) ns e P m Q q = on (map_some names_down_to (home_of g c.roots) ns e)
    where
      on : (f : Found) × (home_of g c.roots ≡ Some f) × (names_down_to f ≡ ns) → (u : Found) × (box_at m c.roots ≡ Some u) × (names_around u ≡ P)
      on (f, x, y) = at (split_path (f.around ++ f.content ∷ []) P m Q (names_snoc f.around f.content ∙ y ∙ q))
        where
          at : (A : List Content) × (b : Content) × (B : List Content) × (f.around ++ f.content ∷ [] ≡ A ++ b ∷ B) × (map (λ (b : Content). b.name) A ≡ P) × (b.name ≡ m) → (u : Found) × (box_at m c.roots ≡ Some u) × (names_around u ≡ P)
          at (A, b, B, z, s, t) =
              let u : (u : Found) × (box_at b.name c.roots ≡ Some u) × (u.around ≡ A) × (u.content ≡ b) = on_path f.content.name c.roots f w.stand.once (home-box g c.roots f w.stand.once x) refl A b B z in
              (u.0, subst (λ (k : Name). box_at k c.roots ≡ Some u.0) t u.1, ap (λ (L : List Content). map (λ (b : Content). b.name) L) u.2 ∙ s)
  path_found (Place.Box k) ns e P m Q q = on (map_some names_around (box_at k c.roots) ns e)
    where
      on : (f : Found) × (box_at k c.roots ≡ Some f) × (names_around f ≡ ns) → (u : Found) × (box_at m c.roots ≡ Some u) × (names_around u ≡ P)
      on (f, x, y) = at (split_path f.around P m Q (y ∙ q))
        where
          at : (A : List Content) × (b : Content) × (B : List Content) × (f.around ≡ A ++ b ∷ B) × (map (λ (b : Content). b.name) A ≡ P) × (b.name ≡ m) → (u : Found) × (box_at m c.roots ≡ Some u) × (names_around u ≡ P)
          at (A, b, B, z, s, t) =
              let u : (u : Found) × (box_at b.name c.roots ≡ Some u) × (u.around ≡ A) × (u.content ≡ b) = on_path k c.roots f w.stand.once x (sym (box-itself k c.roots f x)) A b (B ++ f.content ∷ [])
              (ap (λ (L : List Content). L ++ f.content ∷ []) z ∙ append_assoc A (b ∷ B) (f.content ∷ [])) in
              (u.0, subst (λ (k : Name). box_at k c.roots ≡ Some u.0) t u.1, ap (λ (L : List Content). map (λ (b : Content). b.name) L) u.2 ∙ s)

  module _ (own : Place) (before : List Place) (waits : List Wait) (now : List Place) (waits_now : List Wait) (x : Settles rules p c own before waits now waits_now) where
    settled : Completed p c x.kept own
    settled = completed p c x.kept own w x.enough

    settled_waits : HaveAliases c own (IsKept waits_now own) settled.all
    settled_waits = kept_further c own (λ y. IsAmong y x.kept) (IsKept waits_now own) settled.all (λ y k. x.keeps own y (its_own k)) settled.aliases

    own_idle : (place : Place) → own ≡ place → PlaceIdle rules p c now waits_now place
    own_idle (Place.Goal g) q = record {
      all = settled.all;
      waited = subst (λ (o : Place). HaveAliases c o (IsKept waits_now o) settled.all) q settled_waits;
      sleeps = goal_sleeps_settled rules p c settled.all g unready needed;
    }
      where
        unready : IsReady rules p c (Place.Goal g) → ⊥
        unready = subst (λ (o : Place). IsReady rules p c o → ⊥) q x.unready

        needed : (y : Var) → Needs p c (Place.Goal g) y → IsAmong y settled.all
        needed = subst (λ (o : Place). (y : Var) → Needs p c o y → IsAmong y settled.all) q settled.needed
    own_idle (Place.Box n) q = record {
      all = settled.all;
      waited = subst (λ (o : Place). HaveAliases c o (IsKept waits_now o) settled.all) q settled_waits;
      sleeps = box_sleeps_settled rules p c settled.all n unready needed;
      split_idle = not_at_all (split_sleeps_settled rules p c settled.all n unready needed);
    }
      where
        unready : IsReady rules p c (Place.Box n) → ⊥
        unready = subst (λ (o : Place). IsReady rules p c o → ⊥) q x.unready

        needed : (y : Var) → Needs p c (Place.Box n) y → IsAmong y settled.all
        needed = subst (λ (o : Place). (y : Var) → Needs p c o y → IsAmong y settled.all) q settled.needed

    -- a box around the place that closes
    by_nearest : (kept : List Var) (n : Name) → (IsOneOf (Place.Box n) now → ⊥) → StandsIn n c.roots own → SplitIdle rules p c now kept n
    by_nearest kept n shut s = on (some_and (IsIn n) (boxes_around own c.roots) s)
      where
        on : (ns : List Name) × (boxes_around own c.roots ≡ Some ns) × IsIn n ns → SplitIdle rules p c now kept n
        on (ns, e, h) = split (is_candidate (box_at n c.roots)) refl
          where
            near : (m : Name) → nearest_of (reverse ns) c.roots ≡ Some m → (u : Found) → box_at m c.roots ≡ Some u → (n ≡ m) ⊎ IsIn n (names_around u) → SplitIdle rules p c now kept n
            near m y u z inner = at (some_at_or m c.roots x.still)
              where
                in_box : IsOneOf (Place.Box m) now → (n ≡ m) ⊎ IsIn n (names_around u) → SplitIdle rules p c now kept n
                in_box o (inl q) = absurd (shut (subst (λ (k : Name). IsOneOf (Place.Box k) now) (sym q) o))
                in_box o (inr k) = over_open (Place.Box m) o (stands_around m c.roots u n z k)

                in_place : (o : Place) → IsOneOf o now → StandsIn m c.roots o → (n ≡ m) ⊎ IsIn n (names_around u) → SplitIdle rules p c now kept n
                in_place o y k (inl q) = over_open o y (subst (λ (b : Name). StandsIn b c.roots o) (sym q) k)
                in_place o y k (inr t) = over_open o y (stands_further n m u o z t k)

                at : ((o : Place) × IsOneOf o x.still × IsAt m c.roots o) ⊎ ((o : Place) → IsOneOf o x.still → IsAt m c.roots o → ⊥) → SplitIdle rules p c now kept n
                at (inl (o, t, inl k)) = in_box (x.opens (Place.Box m) (IsOpenAfterSettle.stays (subst (λ (b : Place). IsOneOf b x.still) k.0 t))) inner
                at (inl (o, t, inr k)) = in_place o (x.opens o (IsOpenAfterSettle.stays t)) k inner
                at (inr none) = in_box (x.opens (Place.Box m) (IsOpenAfterSettle.opened (record { is_nearest = nearest_is own c.roots ns e ∙ y; idle = none }))) inner

            split : (t : Bool) → is_candidate (box_at n c.roots) ≡ t → SplitIdle rules p c now kept n
            split false q = no_candidate (λ f i. sym (ap is_candidate i) ∙ q)
            split true q =
                let y : (m : Name) × (nearest_of (reverse ns) c.roots ≡ Some m) × (P Q : List Name) × (ns ≡ P ++ m ∷ Q) × ((n ≡ m) ⊎ IsIn n P) = nearest_along ns c.roots n h q in
                let u : (u : Found) × (box_at y.0 c.roots ≡ Some u) × (names_around u ≡ y.2) = path_found own ns e y.2 y.0 y.3 y.4 in
                near y.0 y.1 u.0 u.1 (elim y.5 [ inl z ↦ inl z | inr z ↦ inr (subst (IsIn n) (sym u.2) z) ])

    settle_step : AllIdle rules p c before waits → AllIdle rules p c now waits_now
    settle_step all place = on (one_of_or place now) (place_or place own)
      where
        stays_closed : (place : Place) → (IsOneOf place now → ⊥) → (place ≡ own → ⊥) → PlaceIdle rules p c before waits place → PlaceIdle rules p c now waits_now place
        stays_closed (Place.Goal g) shut other s = record {
          all = s.all;
          waited = kept_further c (Place.Goal g) (IsKept waits (Place.Goal g)) (IsKept waits_now (Place.Goal g)) s.all (λ y k. x.keeps (Place.Goal g) y (another other (λ m so q. let t : Place.Goal g ≡ Place.Box m = q in cc) k)) s.waited;
          sleeps = s.sleeps;
        }
        stays_closed (Place.Box n) shut other s = record {
          all = s.all;
          waited = kept_further c (Place.Box n) (IsKept waits (Place.Box n)) (IsKept waits_now (Place.Box n)) s.all
              (λ y k. x.keeps (Place.Box n) y (another other (λ m so q. shut (subst (λ (z : Place). IsOneOf z now) (sym q) (x.opens (Place.Box m) (IsOpenAfterSettle.opened so)))) k)) s.waited;
          sleeps = s.sleeps;
          split_idle = at s.split_idle;
        }
          where
            over : (o : Place) → StandsIn n c.roots o → (o ≡ own) ⊎ IsOneOf o x.still → SplitIdle rules p c now s.all n
            over o h (inl q) = by_nearest s.all n shut (subst (StandsIn n c.roots) q h)
            over o h (inr y) = over_open o (x.opens o (IsOpenAfterSettle.stays y)) h

            at : SplitIdle rules p c before s.all n → SplitIdle rules p c now s.all n
            at (not_at_all y) = not_at_all y
            at (no_candidate h) = no_candidate h
            at (over_open o y h) = over o h (x.closes o y)

        closed : (IsOneOf place now → ⊥) → (place ≡ own → ⊥) → IsOneOf place before ⊎ PlaceIdle rules p c before waits place → PlaceIdle rules p c now waits_now place
        closed shut other (inl y) = elim (x.closes place y) [ inl q ↦ absurd (other q) | inr z ↦ absurd (shut (x.opens place (IsOpenAfterSettle.stays z))) ]
        closed shut other (inr s) = stays_closed place shut other s

        on : Either (IsOneOf place now) → Either (place ≡ own) → IsOneOf place now ⊎ PlaceIdle rules p c now waits_now place
        on (inl y) z = inl y
        on (inr shut) (inl q) = inr (own_idle place (sym q))
        on (inr shut) (inr other) = inr (closed shut other (all place))

-- over a place that is forgotten
forget_step : (rules : List Rule) (p : Program) (c : Config) (own : Place) (before : List Place) (waits : List Wait) (now : List Place) (waits_now : List Wait) → Forgets c own before waits now waits_now
    → AllIdle rules p c before waits → AllIdle rules p c now waits_now
forget_step rules p c own before waits now waits_now x all place = on (one_of_or place now) (there_or place c.roots)
  where
    stays_closed : (place : Place) → (place ≡ own → ⊥) → PlaceIdle rules p c before waits place → PlaceIdle rules p c now waits_now place
    stays_closed (Place.Goal g) other s = record {
      all = s.all;
      waited = kept_further c (Place.Goal g) (IsKept waits (Place.Goal g)) (IsKept waits_now (Place.Goal g)) s.all (λ y k. x.keeps (Place.Goal g) y (record { kept = k; another = other })) s.waited;
      sleeps = s.sleeps;
    }
    stays_closed (Place.Box n) other s = record {
      all = s.all;
      waited = kept_further c (Place.Box n) (IsKept waits (Place.Box n)) (IsKept waits_now (Place.Box n)) s.all (λ y k. x.keeps (Place.Box n) y (record { kept = k; another = other })) s.waited;
      sleeps = s.sleeps;
      split_idle = at s.split_idle;
    }
      where
        at : SplitIdle rules p c before s.all n → SplitIdle rules p c now s.all n
        at (not_at_all y) = not_at_all y
        at (no_candidate h) = no_candidate h
        at (over_open o y h) = elim (x.closes o y) [ inl q ↦ absurd (x.gone (subst (λ (z : Place). IsThere z c.roots) q (stands_there n c.roots o h))) | inr z ↦ over_open o z h ]

    closed : (IsOneOf place now → ⊥) → (place ≡ own → ⊥) → IsOneOf place before ⊎ PlaceIdle rules p c before waits place → PlaceIdle rules p c now waits_now place
    closed shut other (inl y) = elim (x.closes place y) [ inl q ↦ absurd (other q) | inr z ↦ absurd (shut z) ]
    closed shut other (inr s) = stays_closed place other s

    on : Either (IsOneOf place now) → Either (IsThere place c.roots) → IsOneOf place now ⊎ PlaceIdle rules p c now waits_now place
    on (inl y) z = inl y
    on (inr shut) (inr gone) = inr (gone_idle rules p c now waits_now place gone)
    on (inr shut) (inl t) = inr (closed shut (λ q. x.gone (subst (λ (z : Place). IsThere z c.roots) q t)) (all place))

pub all_idle : (rules : List Rule) (p : Program) (q : Query) (journal : List Label) (c : Config) (now : List Place) (waits : List Wait) → Runs rules p q journal c now waits → AllIdle rules p c now waits
all_idle rules p q journal c now waits (begins h) = λ place. elim (there_or place (start p q).roots) [ inl t ↦ inl (h place t) | inr gone ↦ inr (gone_idle rules p (start p q) now waits place gone) ]
all_idle rules p q journal d now waits_now (commits {journal = earlier} {c = c} {l = l} {before = before} {waits = waits} r x) =
    commit_step rules p q earlier c l d before waits now waits_now (runs_replay rules p q earlier c before waits r) x (all_idle rules p q earlier c before waits r)
all_idle rules p q journal c now waits_now (settles {own = own} {before = before} {waits = waits} r x) =
    settle_step rules p c (good_replay rules p q journal c (runs_replay rules p q journal c before waits r)) own before waits now waits_now x (all_idle rules p q journal c before waits r)
all_idle rules p q journal c now waits_now (forgets {own = own} {before = before} {waits = waits} r x) = forget_step rules p c own before waits now waits_now x (all_idle rules p q journal c before waits r)

pub awake : (rules : List Rule) (p : Program) (q : Query) (journal : List Label) (c : Config) (now : List Place) (waits : List Wait) → Runs rules p q journal c now waits → (place : Place) → IsReady rules p c place
    → IsAwake rules p c now place
awake rules p q journal c now waits run place r = elim (all_idle rules p q journal c now waits run place) [ inl y ↦ is_open y | inr s ↦ on place r s ]
  where
    on : (place : Place) → IsReady rules p c place → PlaceIdle rules p c now waits place → IsAwake rules p c now place
    on (Place.Goal g) r s = absurd (s.sleeps.unready r)
    on (Place.Box n) r s = at s.split_idle
      where
        rule : r.label.rule ≡ Rule.Split
        rule = s.sleeps.only_split r

        site : box_at n c.roots ≡ Some r.applies.site
        site = subst (λ (x : Place). site_of x c.roots ≡ Some r.applies.site) r.is_place r.applies.is_site

        allowed : Allows p r.applies.makes.reading Rule.Split (Place.Box n) r.label.alternative r.applies.site
        allowed = subst (λ (x : Rule). Allows p r.applies.makes.reading x (Place.Box n) r.label.alternative r.applies.site) rule
            (subst (λ (x : Place). Allows p r.applies.makes.reading r.label.rule x r.label.alternative r.applies.site) r.is_place r.applies.makes.allowed)

        at : SplitIdle rules p c now s.all n → IsAwake rules p c now (Place.Box n)
        at (not_at_all y) = absurd (y.unready r)
        at (over_open o y h) = has_open o s.sleeps.only_split y h
        at (no_candidate h) =
            let x : has_candidate r.applies.site.goals ≡ true = split_candidate p r.applies.makes.reading n r.label.alternative r.applies.site allowed in
            let z : false ≡ true = sym (h r.applies.site site) ∙ x in absurd cc

pub quiet : (rules : List Rule) (p : Program) (q : Query) (journal : List Label) (c : Config) (waits : List Wait) → Runs rules p q journal c [] waits → IsQuietEnd rules p c
quiet rules p q journal c waits run = record { none = λ place r. on place (awake rules p q journal c [] waits run place r) }
  where
    on : (place : Place) → IsAwake rules p c [] place → ⊥
    on place (is_open y) = y
    on place (has_open o h y s) = y

-- a settle opens a box around its place, and so under fewer boxes
pub settle_out : (rules : List Rule) (p : Program) (q : Query) (journal : List Label) (c : Config) → Replays rules p q journal c
    → (own : Place) (still : List Place) (n : Name) → SettleOpens still c own n
    → (ns : List Name) × (ms : List Name) × (boxes_around own c.roots ≡ Some ns) × (boxes_around (Place.Box n) c.roots ≡ Some ms) × (length ms < length ns) × StandsIn n c.roots own
settle_out rules p q journal c r own still n o = on (none_or (boxes_around own c.roots))
  where
    on : (boxes_around own c.roots ≡ None) ⊎ ((ns : List Name) × (boxes_around own c.roots ≡ Some ns))
        → (ns : List Name) × (ms : List Name) × (boxes_around own c.roots ≡ Some ns) × (boxes_around (Place.Box n) c.roots ≡ Some ms) × (length ms < length ns) × StandsIn n c.roots own
    on (inl e) = let k : nearest own c.roots ≡ None = nearest_nowhere own c.roots e in let j : nearest own c.roots ≡ Some n = o.is_nearest in cc
    on (inr (ns, e)) =
        let i : IsIn n ns = nearest_in ns c.roots n (sym (nearest_is own c.roots ns e) ∙ o.is_nearest) in
        let v : (P : List Name) × (Q : List Name) × (ns ≡ P ++ n ∷ Q) = names_cut n ns i in
        let u : (u : Found) × (box_at n c.roots ≡ Some u) × (names_around u ≡ v.0) = path_found rules p c (good_replay rules p q journal c r) own ns e v.0 n v.1 v.2 in
        let a : length ns ≡ length (v.0 ++ n ∷ v.1) = ap length v.2 in
        let b : length (v.0 ++ n ∷ v.1) ≡ length v.0 + length (n ∷ v.1) = length-append v.0 (n ∷ v.1) in
        (ns, v.0, e, ap (option_map names_around) u.1 ∙ ap Some u.2, omega arith, subst (λ (x : Option (List Name)). IsSomeAnd x (IsIn n)) (sym e) i)
