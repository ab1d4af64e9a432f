-- The places that are listed for a plan are those that its label opens.
use Rattle.std.proofs.Common.{◌≡◌, Bool, true, false, List, [], ◌∷◌, Option, Some, None, refl, sym, ap, subst, ◌∙◌, inl, inr}
use Rattle.opened_places.proofs.Members.{one_left, one_right, one_either}
use Rattle.std.specs.Prelude.{is_some, option_map, map, ◌&&◌, IsSomeAnd}
use Rattle.std.specs.List.{AllByRecursion}
use Rattle.akl_terms.specs.declared.name.Name.{Name}
use Rattle.akl_terms.specs.declared.name.Var.{Var}
use Rattle.akl_terms.specs.declared.name.Place.{Place}
use Rattle.akl_model.specs.declared.label.Label.{Label}
use Rattle.akl_model.specs.Config.{IsIn, Content, Config, Found, whole, box_at, home_of}
use Rattle.akl_model.proofs.NamesKept.{Stand}
use Rattle.akl_model.specs.Changes.{Binds}
use Rattle.akl_model.specs.Wakes.{names_around, names_down_to, boxes_around, StandsIn, Wait, IsKept, IsOneOf, IsThere, Opens}
use Rattle.constraint_laws.proofs.SameTerms.{Either}
use Rattle.constraint_laws.specs.Touched.{IsAmong}
use Rattle.step_laws.proofs.Decide.{there_or}
use Rattle.step_laws.proofs.There.{there_site}
use Rattle.plan_laws.specs.Waits.{AreWaits}
use Rattle.table_laws.specs.Stamped.{IsTableOf}
use Rattle.table_laws.specs.Steps as laws
use Rattle.box_tree.specs.Tables.{all_rules, TableValue, table_of, step_in}
use Rattle.box_tree.specs.Views.{run_of}
use Rattle.box_tree.specs.Plans.{PlanValue}
use Rattle.binding_laws.specs.Bindings.{BindsOutside, HasOuterIn}
use Rattle.opened_places.specs.Changed.{IsChanged, IsWoken, IsBoundOutside}
use Rattle.opened_places.specs.Placed.{PlacedValue, places_of, StandsSo}
use Rattle.opened_places.specs.Exact.{AreChangedTo}
use Rattle.opened_places.specs.Inner.{AreAllInside}
use Rattle.opened_places.specs.Gone.{AreAllGone}
use Rattle.opened_places.proofs.AtRows.{home_is}
use Rattle.opened_places.proofs.Leading.{site_by, is_site_by, stands_by, later_by}
use Rattle.opened_places.proofs.OpenedWays.{opens_law}
use Rattle.opened_places.proofs.StillAround.{still_around}
use Rattle.scheduler.specs.Openings.{AreListed}
use Rattle.scheduler.specs.Opening.{IsPlacedIn}
use Rattle.scheduler.specs.Effects.{StandsNow, stands, goes, AreOpenedBy}
use Rattle.scheduler.specs.Listing.{waiting_on, places_but, outer_of, frames_made, binds_outer, AreInner, AreOthers, AreListedFor}
use Rattle.wake_lists.specs.Waits.{waits_on}
use Rattle.scheduler.proofs.DroppedWaits.{Waiting}
use Rattle.scheduler.proofs.CommitFacts.{stands_there}
use Rattle.scheduler.proofs.Leading as leading
use Rattle.scheduler.proofs.ListedOthers.{waits_listed, listed_waits, stays_listed, listed_stays, outer_so, so_outer}
use Rattle.akl_model.proofs.Options.{some_value}
use Rattle.scheduler.proofs.PlanNow.{IsMadeTo}
use Rattle.scheduler.proofs.RootBinds.{root_binds_inside, unheld_root}
use Rattle.scheduler.proofs.Woken.{AddsAt, woken}
use Rattle.scheduler.proofs.PlacedThose.{of_placed, one_placed, those_keep, those_come, came_so}

each_of : (P : PlacedValue → Type 0) (ps : List PlacedValue) → AllByRecursion P ps → (p : PlacedValue) → IsPlacedIn p ps → P p
each_of P [] a p i = absurd i
each_of P (q ∷ qs) a p (inl e) = subst P (sym e) a.0
each_of P (q ∷ qs) a p (inr i) = each_of P qs a.1 p i

-- a step gives its box a store where a variable is of none of its frames
outer_step : (xs : List Var) (step : laws.Step) → HasOuterIn xs step → outer_of xs (frames_made step) ≡ true
outer_step xs (laws.tells new solved) w = so_outer xs new.frames w
outer_step xs (laws.joins new solved goals) w = so_outer xs new.frames w
outer_step xs (laws.forks op news) w = absurd w
outer_step xs laws.fails w = absurd w
outer_step xs laws.cuts w = absurd w
outer_step xs laws.refutes w = absurd w
outer_step xs laws.confirms w = absurd w
outer_step xs (laws.splits copy copies) w = absurd w

step_outer : (xs : List Var) (step : laws.Step) → outer_of xs (frames_made step) ≡ true → HasOuterIn xs step
step_outer xs (laws.tells new solved) e = outer_so xs new.frames e
step_outer xs (laws.joins new solved goals) e = outer_so xs new.frames e
step_outer xs (laws.forks op news) e = cc
step_outer xs laws.fails e = cc
step_outer xs laws.cuts e = cc
step_outer xs laws.refutes e = cc
step_outer xs laws.confirms e = cc
step_outer xs (laws.splits copy copies) e = cc

and_right : (a b : Bool) → (a && b) ≡ true → b ≡ true
and_right true b e = e
and_right false b e = cc

and_both : (a b : Bool) → a ≡ true → b ≡ true → (a && b) ≡ true
and_both true b e h = h
and_both false b e h = cc

none_named : {A B : Type 0} (f : A → B) (xs : List A) → map f xs ≡ [] → xs ≡ []
none_named f [] e = refl
none_named f (x ∷ xs) e = cc

-- a place that isn't there and comes
is_new : (c d : Config) (place : Place) → (IsThere place c.roots → ⊥) → IsThere place d.roots → IsChanged c d place
is_new c d (Place.Goal g) m h = let w : (f : Found) × (home_of g d.roots ≡ Some f) = there_site (Place.Goal g) d.roots h in IsChanged.new_goal (none (home_of g c.roots) (λ e. m e)) w.1
  where
    none : (o : Option Found) → (is_some (option_map names_down_to o) ≡ true → ⊥) → o ≡ None
    none None n = refl
    none (Some f) n = absurd (n refl)
is_new c d (Place.Box b) m h = let w : (f : Found) × (box_at b d.roots ≡ Some f) = there_site (Place.Box b) d.roots h in IsChanged.new_box (none (box_at b c.roots) (λ e. m e)) w.1
  where
    none : (o : Option Found) → (is_some (option_map names_around o) ≡ true → ⊥) → o ≡ None
    none None n = refl
    none (Some f) n = absurd (n refl)

module _ (v : TableValue) (journal : List Label) (t : IsTableOf all_rules (run_of v journal) (table_of v)) (p : PlanValue) (d : Config) (made : IsMadeTo v.program t.config p.label p.more (step_in v p.label p.step) p.binds d)
    (gone : List Place) (all_gone : AreAllGone t.config d gone) (before : List Place) (kept : List Wait) (waits : AreWaits t.config before kept) (ws : Waiting) (listed : AreListed ws kept)
    (places : List PlacedValue) (x : AreListedFor v ws p gone places) where
  abbrev c : Config
  c = t.config

  abbrev step : laws.Step
  step = step_in v p.label p.step

  abbrev site : Found
  site = site_by v.program t.config p.label p.more (step_in v p.label p.step) d made.leads

  abbrev n : Name
  n = site.content.name

  before_commit : Stand c
  before_commit = leading.stands v journal t p.label p.more step d

  same_home : x.around.home ≡ n
  same_home = home_is (table_of v) c t.unfolds before_commit.once p.label site (is_site_by v.program c p.label p.more step d made.leads) x.around x.is_around

  still : (place : Place) → IsThere place c.roots → IsThere place d.roots → boxes_around place c.roots ≡ boxes_around place d.roots
  still = still_around c d before_commit (stands_by v.program c p.label p.more step d before_commit made.leads) (later_by v.program c p.label p.more step d before_commit made.leads)

  now_in : (m : Name) (place : Place) → IsThere place d.roots → StandsIn m c.roots place → StandsIn m d.roots place
  now_in m place h s = subst (λ (o : Option (List Name)). IsSomeAnd o (IsIn m)) (still place (stands_there m c.roots place s) h) s

  was_in : (m : Name) (place : Place) → IsThere place c.roots → StandsIn m d.roots place → StandsIn m c.roots place
  was_in m place h s = subst (λ (o : Option (List Name)). IsSomeAnd o (IsIn m)) (sym (still place h (stands_there m d.roots place s))) s

  changed : AreChangedTo c d x.adds.changed
  changed = x.adds.are_changed journal t p.more d made.leads

  at_site : AddsAt c d p.label.place site
  at_site = leading.adds_at v journal t p.label p.more step d made.leads

  is_woken : (place : Place) → ((b : Name) (y : Var) → IsKept kept place y → Binds c d b y → (z : Var) × IsKept kept place z × IsAmong z p.binds) × ((z : Var) → IsKept kept place z → IsAmong z p.binds → Binds c d n z)
  is_woken place = woken c d (leading.good v journal t p.label p.more step d) p.label.place site at_site before kept waits p.binds made.bound place

  outside : (BindsOutside c d n → HasOuterIn p.binds step) × (HasOuterIn p.binds step → BindsOutside c d n)
  outside = leading.seen_outside v journal t p.label p.more step d made.leads p.binds made.bound

  -- a label that binds a variable from outside is in a box that a choice holds
  inner_binds : BindsOutside c d n → is_some x.around.holder ≡ true
  inner_binds b = on (is_some x.around.holder) refl
    where
      names_still : (f g : Found) → box_at n c.roots ≡ Some f → box_at n d.roots ≡ Some g → f.around ≡ [] → g.around ≡ []
      names_still f g i k e = none_named (λ (z : Content). z.name) g.around (some_value (sym (ap (option_map names_around) k)
          ∙ sym (still (Place.Box n) (ap (λ (o : Option Found). is_some (option_map names_around o)) i) (ap (λ (o : Option Found). is_some (option_map names_around o)) k))
          ∙ ap (option_map names_around) i) ∙ ap (λ (l : List Content). map (λ (z : Content). z.name) l) e)

      on : (h : Bool) → is_some x.around.holder ≡ h → h ≡ true
      on true e = refl
      on false e = absurd (root_binds_inside d (leading.good_on v journal t p.label p.more step d made.leads) n b.binds.adds.afterwards b.binds.adds.is
          (names_still b.binds.adds.before b.binds.adds.afterwards b.binds.adds.was b.binds.adds.is (unheld_root v journal t x.around n same_home x.is_around.holder e b.binds.adds.before b.binds.adds.was)) (whole b.binds.adds.before) b.variable b.binds.newly_bound b.outside)

  -- the others
  abbrev all : List Place
  all = x.are_others.all

  are_others : AreOthers v ws p x.around gone all
  are_others = x.are_others.are_others

  woken_other : (place : Place) → IsOneOf place (waiting_on ws p.binds) → IsOneOf place x.others
  woken_other place i = x.are_others.same.all place (on (binds_outer x.around p.binds step) refl)
    where
      on : (b : Bool) → binds_outer x.around p.binds step ≡ b → IsOneOf place all
      on true e = let w : AreInner v x.around.home gone (waiting_on ws p.binds) all = are_others.outer e in
          subst (IsOneOf place) (sym w.comes) (one_left place (waiting_on ws p.binds) (places_but gone (places_of w.inside)) i)
      on false e = subst (IsOneOf place) (sym (are_others.none_outer e)) i

  inner_other : binds_outer x.around p.binds step ≡ true → (place : Place) → IsThere place d.roots → StandsIn n c.roots place → IsOneOf place x.others
  inner_other e place h s =
      let w : AreInner v x.around.home gone (waiting_on ws p.binds) all = are_others.outer e in
      let inside : AreAllInside c.roots x.around.home w.inside = w.are_inside (run_of v journal) t in
      x.are_others.same.all place (subst (IsOneOf place) (sym w.comes) (one_right place (waiting_on ws p.binds) (places_but gone (places_of w.inside))
      ((stays_listed gone (places_of w.inside) place (inside.listed place (subst (λ (m : Name). StandsIn m c.roots place) (sym same_home) s)) (λ i. (all_gone.gone place i).gone h)))))

  other_opens : (place : Place) → IsOneOf place x.others → Opens kept c d place
  other_opens place i = on (binds_outer x.around p.binds step) refl
    where
      by_waits : IsOneOf place (waiting_on ws p.binds) → Opens kept c d place
      by_waits j =
          let w : (y : Var) × IsAmong y p.binds × (waits_on ws place y ≡ true) = listed_waits ws p.binds place j in
          let k : IsKept kept place w.0 = listed.all place w.0 w.2 in
          (opens_law kept c d place).1 (inr (inl (record { box = n; variable = w.0; kept = k; binds = (is_woken place).1 w.0 k w.1 })))

      by_box : binds_outer x.around p.binds step ≡ true → StandsIn n d.roots place → Opens kept c d place
      by_box e s =
          let o : BindsOutside c d n = outside.1 (step_outer p.binds step (and_right (is_some x.around.holder) (outer_of p.binds (frames_made step)) e)) in
          (opens_law kept c d place).1 (inr (inr (record { box = n; variable = o.variable; binds = o.binds; outside = o.outside; stands = s })))

      there : (IsOneOf place gone → ⊥) → IsThere place c.roots → IsThere place d.roots
      there m h = elim (there_or place d.roots) [ inl k ↦ k | inr z ↦ absurd (m (all_gone.listed place (record { was = h; gone = z }))) ]

      listed_all : IsOneOf place all
      listed_all = x.are_others.same.only place i

      on : (b : Bool) → binds_outer x.around p.binds step ≡ b → Opens kept c d place
      on false e = by_waits (subst (IsOneOf place) (are_others.none_outer e) listed_all)
      on true e =
          let w : AreInner v x.around.home gone (waiting_on ws p.binds) all = are_others.outer e in
          let inside : AreAllInside c.roots x.around.home w.inside = w.are_inside (run_of v journal) t in
          elim (one_either place (waiting_on ws p.binds) (places_but gone (places_of w.inside)) (subst (IsOneOf place) w.comes listed_all)) [
            | inl j ↦ by_waits j
            | inr j ↦
                let k : IsOneOf place (places_of w.inside) × (IsOneOf place gone → ⊥) = listed_stays gone (places_of w.inside) place j in
                let s : StandsIn n c.roots place = subst (λ (m : Name). StandsIn m c.roots place) same_home (inside.inside place k.0) in
                by_box e (now_in n place (there k.1 (stands_there n c.roots place s)) s)
          ]

  come : (place : Place) → IsOneOf place x.others → IsThere place c.roots → IsOneOf place (places_of places)
  come place i h = those_come v (run_of v journal) t x.others x.adds.changed places x.adds.adds place i h

  by_change : (place : Place) → IsChanged c d place → IsOneOf place (places_of places)
  by_change place k = those_keep v (run_of v journal) t x.others x.adds.changed places x.adds.adds place (changed.exactly.listed place k)

  all_listed : (place : Place) → Opens kept c d place → IsOneOf place (places_of places)
  all_listed place o = elim ((opens_law kept c d place).0 o) [ inl k ↦ by_change place k | inr w ↦ elim w [ inl k ↦ by_wait k | inr k ↦ by_outside k ] ]
    where
      by_wait : IsWoken kept c d place → IsOneOf place (places_of places)
      by_wait k =
          let y : (z : Var) × IsKept kept place z × IsAmong z p.binds = (is_woken place).0 k.box k.variable k.kept k.binds in
          come place (woken_other place (waits_listed ws p.binds place y.0 y.2 (listed.only place y.0 y.1))) (waits.there place k.variable k.kept)

      by_outside : IsBoundOutside c d place → IsOneOf place (places_of places)
      by_outside k = on (there_or place c.roots)
        where
          same : k.box ≡ n
          same = at_site.alone k.box k.binds.adds

          bound : BindsOutside c d n
          bound = subst (BindsOutside c d) same (record { variable = k.variable; binds = k.binds; outside = k.outside })

          outer : binds_outer x.around p.binds step ≡ true
          outer = and_both (is_some x.around.holder) (outer_of p.binds (frames_made step)) (inner_binds bound) (outer_step p.binds step (outside.0 bound))

          in_home : StandsIn n d.roots place
          in_home = subst (λ (m : Name). StandsIn m d.roots place) same k.stands

          there : IsThere place d.roots
          there = stands_there n d.roots place in_home

          on : Either (IsThere place c.roots) → IsOneOf place (places_of places)
          on (inl h) = come place (inner_other outer place there (was_in n place h in_home)) h
          on (inr m) = by_change place (is_new c d place m there)

  stand : (q : PlacedValue) → IsPlacedIn q places → StandsNow c d q
  stand q i = elim (came_so v (run_of v journal) t x.others x.adds.changed places x.adds.adds q i) [
    | inl j ↦ stands (each_of (StandsSo d.roots) x.adds.changed changed.around q j)
    | inr w ↦ elim (there_or q.place d.roots) [ inl h ↦ stands (sym (still q.place (ap is_some w.1) h) ∙ w.1) | inr m ↦ goes m w.1 ]
  ]

  pub opened_so : AreOpenedBy c d kept places
  opened_so = record {
    listed = all_listed;
    opened = λ place i.
        let w : (q : PlacedValue) × IsPlacedIn q places × (q.place ≡ place) = one_placed place places i in
        subst (Opens kept c d) w.2 (elim (came_so v (run_of v journal) t x.others x.adds.changed places x.adds.adds w.0 w.1) [
          | inl j ↦ (opens_law kept c d w.0.place).1 (inl (changed.exactly.changed w.0.place (of_placed w.0 x.adds.changed j)))
          | inr k ↦ other_opens w.0.place k.0
        ]);
    around = stand;
  }
