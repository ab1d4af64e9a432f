-- Places that become urgent.
use Rattle.std.proofs.Common.{◌≡◌, ℕ, ◌+◌, ◌<◌, get_or, take, Bool, true, false, List, [], ◌∷◌, length, Option, Some, None, refl, sym, ap, subst, ◌∙◌, inl, inr}
use Rattle.std.proofs.lemmas.List.{take_more}
use Rattle.std.specs.Prelude.{cond, option_map, ◌||◌}
use Rattle.std.specs.Map.{lookup}
use Rattle.std.specs.Result.{IfOk, IfErr}
use Rattle.std.specs.declared.result.Result.{Result}
use Rattle.std.specs.declared.result.Result.TheVariants.{Ok, Err}
use Rattle.std.specs.BTreeMap.{insert_entry}
use Rattle.std.specs.Ordering.{nat_cmp}
use Rattle.akl_terms.specs.declared.name.Name.{Name}
use Rattle.akl_terms.specs.declared.name.Place.{Place}
use Rattle.akl_terms.specs.Names.{same_name}
use Rattle.akl_model.specs.Config.{IsIn, Found, box_at, site_of}
use Rattle.akl_model.specs.Conditions.{HasFailed}
use Rattle.akl_model.specs.Wakes.{IsOneOf}
use Rattle.akl_model.proofs.Options.{some_value, map_some}
use Rattle.akl_model.proofs.NamesKept.{box-itself}
use Rattle.akl_model.proofs.Scoped.{IsIn-either}
use Rattle.table_laws.specs.Rows.{BoxRow, GoalRow}
use Rattle.table_laws.specs.Writes.{home_in}
use Rattle.table_laws.specs.Unfolds.{FailsBy, IsBoxRow}
use Rattle.step_laws.proofs.Failing.{failing_found}
use Rattle.table_laws.proofs.Frame.{row_of, found_of}
use Rattle.box_tree.specs.Tables.{TableValue, table_of, box_row}
use Rattle.box_tree.specs.Paths.{sight_in}
use Rattle.box_tree.specs.declared.entries.BoxEntry.{BoxEntry}
use Rattle.box_tree.specs.declared.view.Sight.{Sight}
use Rattle.box_tree.specs.Plans.{PlanValue}
use Rattle.opened_places.specs.Exact.{site_in}
use Rattle.opened_places.specs.Placed.{PlacedValue, places_of}
use Rattle.opened_places.proofs.AtRows.{row_of_goal}
use Rattle.opened_places.proofs.RunRows as run_rows
use Rattle.wake_lists.specs.declared.turn.Urgency.{Urgency}
use Rattle.wake_lists.specs.declared.turn.Turn.{Turn}
use Rattle.wake_lists.specs.Queue.{is_sooner}
use Rattle.wake_lists.specs.Open.{Opening, Openings, opening_at, IsOpen, IsHurried, IsPutLast}
use Rattle.wake_lists.proofs.Keys.{token_here}
use Rattle.step_commit.specs.Cores.{CoreValue, TableIn, run_by}
use Rattle.scheduler.specs.Schedulers.{SchedulerValue}
use Rattle.scheduler.specs.Turns.{urgency_by, urgency_seen, is_urgent, told_by, unsolved_by, is_elsewhere, may_fail, IsUrgentAt, AreUrgent, AreUrgentBoxes, StayUrgent, BoxesStayUrgent, AreHintsFor}
use Rattle.scheduler.specs.declared.turns.TurnHints.{TurnHints}
use Rattle.scheduler.specs.Committed.{SuspectsAreUrgent, OpensAmong}
use Rattle.scheduler.proofs.OpeningLists.{some_none, put_at}
use Rattle.scheduler.proofs.OpenedMore.{place_either}
use lib.Dec.{eqb}

-- nothing is sooner than what is urgent
none_sooner : (u : Urgency) → is_sooner u Urgency.Urgent ≡ true → ⊥
none_sooner Urgency.Urgent e = cc
none_sooner Urgency.Ordinary e = cc
none_sooner Urgency.Late e = cc

no_sooner : (u : Urgency) → is_sooner Urgency.Urgent u ≡ false → u ≡ Urgency.Urgent
no_sooner Urgency.Urgent e = refl
no_sooner Urgency.Ordinary e = cc
no_sooner Urgency.Late e = cc

module _ (before after : Openings) (urgency : Urgency) (t : ℕ) where
  -- what is open under a token where one was put last
  put_case : (p : Opening) (w : Turn) → after ≡ insert_entry nat_cmp before t (record p { turn = w }) → (s : ℕ) (o : Opening) → opening_at s after ≡ Some o → cond (eqb s t) (Some (record p { turn = w })) (opening_at s before) ≡ Some o
  put_case p w e s o f = sym (put_at t (record p { turn = w }) before s) ∙ ap (opening_at s) (sym e) ∙ f

  pub urgent_still : IsHurried before after urgency t → (q : Place) → IsUrgentAt before q → IsUrgentAt after q
  urgent_still (IsHurried.stays k e) q u = subst (λ (os : Openings). IsUrgentAt os q) (sym e) u
  urgent_still (IsHurried.hurries o f g (IsPutLast.none h e)) q u = absurd (some_none f h)
  urgent_still (IsHurried.hurries o f g (IsPutLast.put p w h i l e)) q u = record { each = λ s x y z. on s x z (eqb s t) (put_case p w e s x y) }
    where
      on : (s : ℕ) (x : Opening) → x.place ≡ q → (b : Bool) → cond b (Some (record p { turn = w })) (opening_at s before) ≡ Some x → x.turn.urgency ≡ Urgency.Urgent
      on s x z true y =
          let was : p.place ≡ q = ap (λ (v : Opening). v.place) (some_value y) ∙ z in
          let one : o ≡ p = some_value (sym f ∙ h) in
          absurd (none_sooner urgency (ap (is_sooner urgency) (sym (ap (λ (v : Opening). v.turn.urgency) one ∙ u.each t p h was)) ∙ g))
      on s x z false y = u.each s x y z

  pub urgent_now : IsHurried before after urgency t → urgency ≡ Urgency.Urgent → (place : Place) → IsOpen before place (Some t) → IsUrgentAt after place
  urgent_now (IsHurried.stays k e) a place known = record {
    each = λ s o f z.
        let was : opening_at s before ≡ Some o = ap (opening_at s) (sym e) ∙ f in
        no_sooner o.turn.urgency (ap (λ (v : Urgency). is_sooner v o.turn.urgency) (sym a) ∙ k o (ap (λ (r : ℕ). opening_at r before) (some_value (known.there s o was z)) ∙ was));
  }
  urgent_now (IsHurried.hurries o f g (IsPutLast.none h e)) a place known = absurd (some_none f h)
  urgent_now (IsHurried.hurries o f g (IsPutLast.put p w h i l e)) a place known = record { each = λ s x y z. on s x z (eqb s t) refl (put_case p w e s x y) }
    where
      on : (s : ℕ) (x : Opening) → x.place ≡ place → (b : Bool) → eqb s t ≡ b → cond b (Some (record p { turn = w })) (opening_at s before) ≡ Some x → x.turn.urgency ≡ Urgency.Urgent
      on s x z true c y = sym (ap (λ (v : Opening). v.turn.urgency) (some_value y)) ∙ i ∙ a
      on s x z false c y =
          let same : t ≡ s = some_value (known.there s x y z) in
          let here : eqb s t ≡ true = ap (eqb s) same ∙ token_here s in
          cc

-- urgent places stay so where one was hurried, or nothing was
pub still_either : {E : Type 0} (r : Result (Unit {0}) E) (a b : Openings) (w : Urgency) (t : ℕ) → IfOk r (λ x. IsHurried a b w t) → IfErr r (λ x. b ≡ a) → StayUrgent a b
still_either (Ok x) a b w t h k = urgent_still a b w t h
still_either (Err x) a b w t h k = λ q u. subst (λ (os : Openings). IsUrgentAt os q) (sym k) u

-- urgent boxes stay so where a goal was put last, or nothing was
module _ (a b : Openings) (w : Urgency) (t : ℕ) (g : Name) (known : IsOpen a (Place.Goal g) (Some t)) where
  goal_there : (o : Opening) → opening_at t a ≡ Some o → o.place ≡ Place.Goal g
  goal_there o e =
      let y : (q : Opening) × (opening_at t a ≡ Some q) × (q.place ≡ Place.Goal g) = known.back t refl in
      ap (λ (q : Opening). q.place) (some_value (sym e ∙ y.1)) ∙ y.2

  boxes_put : IsPutLast a b w t → BoxesStayUrgent a b
  boxes_put (IsPutLast.none h e) n u = subst (λ (os : Openings). IsUrgentAt os (Place.Box n)) (sym e) u
  boxes_put (IsPutLast.put p z h i l e) n u = record { each = λ s x y f. on s x f (eqb s t) (put_case a b w t p z e s x y) }
    where
      on : (s : ℕ) (x : Opening) → x.place ≡ Place.Box n → (k : Bool) → cond k (Some (record p { turn = z })) (opening_at s a) ≡ Some x → x.turn.urgency ≡ Urgency.Urgent
      on s x f true y =
          let apart : Place.Goal g ≡ Place.Box n = sym (goal_there p h) ∙ ap (λ (v : Opening). v.place) (some_value y) ∙ f in
          cc
      on s x f false y = u.each s x y f

  pub boxes_still : {E : Type 0} (r : Result (Unit {0}) E) → IfOk r (λ x. IsPutLast a b w t) → IfErr r (λ x. b ≡ a) → BoxesStayUrgent a b
  boxes_still (Ok x) h k = boxes_put h
  boxes_still (Err x) h k = λ n u. subst (λ (os : Openings). IsUrgentAt os (Place.Box n)) (sym k) u

-- so what may fail stays urgent
pub urgent_beside : (v : TableValue) (told : Option Name) (ps : List Place) (mid new : Openings) → AreUrgent v told ps mid → BoxesStayUrgent mid new → AreUrgent v told ps new
urgent_beside v told ps mid new r still = record { each = on }
  where
    on : (place : Place) → IsOneOf place ps → may_fail v told place ≡ true → IsUrgentAt new place
    on (Place.Goal g) j f = cc
    on (Place.Box n) j f = still n (r.each (Place.Box n) j f)

pub boxes_beside : (ns : List Name) (mid new : Openings) → AreUrgentBoxes ns mid → BoxesStayUrgent mid new → AreUrgentBoxes ns new
boxes_beside ns mid new r still = record { each = λ n j. still n (r.each n j) }

-- a place that isn't open
pub urgent_none : (os : Openings) (place : Place) → IsOpen os place None → IsUrgentAt os place
urgent_none os place known = record { each = λ s o f z. absurd (some_none (known.there s o f z) refl) }

-- one more place
pub urgent_next : (v : TableValue) (told : Option Name) (ps : List PlacedValue) (i : ℕ) (d : PlacedValue) (q : Place) (mid new : Openings) → i < length ps → AreUrgent v told (places_of (take i ps)) mid → q ≡ (get_or ps i d).place
    → StayUrgent mid new → (may_fail v told q ≡ true → IsUrgentAt new q) → AreUrgent v told (places_of (take (i + 1) ps)) new
urgent_next v told ps i d q mid new h r e still now = subst (λ (l : List PlacedValue). AreUrgent v told (places_of l) new) (sym (take_more ps i d h)) (record {
  each = λ place j f. elim (place_either place (take i ps) (get_or ps i d) j) [
    | inl k ↦ still place (r.each place k f)
    | inr k ↦ subst (IsUrgentAt new) (e ∙ sym k) (now (ap (may_fail v told) (e ∙ sym k) ∙ f))
  ];
})

-- and one more box
pub boxes_next : (ns : List Name) (i : ℕ) (d n : Name) (mid new : Openings) → i < length ns → AreUrgentBoxes (take i ns) mid → n ≡ get_or ns i d → StayUrgent mid new → IsUrgentAt new (Place.Box n) → AreUrgentBoxes (take (i + 1) ns) new
boxes_next ns i d n mid new h r e still now = subst (λ (l : List Name). AreUrgentBoxes l new) (sym (take_more ns i d h)) (record {
  each = λ m j. elim (IsIn-either m (take i ns) (get_or ns i d ∷ []) j) [
    | inl k ↦ still (Place.Box m) (r.each m k)
    | inr k ↦ elim k [ inl f ↦ subst (λ (q : Name). IsUrgentAt new (Place.Box q)) (e ∙ sym f) now | inr f ↦ absurd f ]
  ];
})

either_left : (a b : Bool) → a ≡ true → (a || b) ≡ true
either_left a b e = λ i. e i || b

either_right : (a b : Bool) → b ≡ true → (a || b) ≡ true
either_right true b e = refl
either_right false b e = e

-- a box that fails is seen so, and no other
module _ (c : CoreValue) (t : TableIn c) (n : Name) where
  pub seen_failing : (f : Found) → box_at n t.config.roots ≡ Some f → HasFailed f.goals → urgency_seen (sight_in c.table (Place.Box n)) ≡ Urgency.Urgent
  seen_failing f e h =
      let w : (r : BoxRow) × ((table_of c.table).box_of n ≡ Some r) × IsBoxRow (table_of c.table) t.config.roots f r = row_of (table_of c.table) t.config t.unfolds n f e in
      let x : (b : BoxEntry) × (lookup (same_name n) c.table.boxes ≡ Some b) × (box_row c.table.program.templates.nodes b ≡ w.0) =
      map_some (box_row c.table.program.templates.nodes) (lookup (same_name n) c.table.boxes) w.0 w.1 in
      ap (λ (o : Option BoxEntry). urgency_seen (option_map (λ (b : BoxEntry). (n, Sight.Box b.failing)) o)) x.1 ∙ on x.0.failing (subst (λ (r : BoxRow). FailsBy f.goals r.failing) (sym x.2) w.2.failing)
    where
      on : (o : Option Name) → FailsBy f.goals o → urgency_by (Sight.Box o) ≡ Urgency.Urgent
      on None k = absurd (k h)
      on (Some g) k = refl

  pub failing_seen : urgency_seen (sight_in c.table (Place.Box n)) ≡ Urgency.Urgent → (f : Found) × (box_at n t.config.roots ≡ Some f) × HasFailed f.goals
  failing_seen e = on (lookup (same_name n) c.table.boxes) refl e
    where
      by : (f : Found) (o : Option Name) → FailsBy f.goals o → urgency_by (Sight.Box o) ≡ Urgency.Urgent → HasFailed f.goals
      by f None k i = cc
      by f (Some g) k i = failing_found g f.goals k.0 k.1 k.2

      on : (o : Option BoxEntry) → lookup (same_name n) c.table.boxes ≡ o → urgency_seen (option_map (λ (b : BoxEntry). (n, Sight.Box b.failing)) o) ≡ Urgency.Urgent → (f : Found) × (box_at n t.config.roots ≡ Some f) × HasFailed f.goals
      on None i k = cc
      on (Some b) i k =
          let r : (table_of c.table).box_of n ≡ Some (box_row c.table.program.templates.nodes b) = ap (option_map (box_row c.table.program.templates.nodes)) i in
          let w : (f : Found) × (box_at n t.config.roots ≡ Some f) × IsBoxRow (table_of c.table) t.config.roots f (box_row c.table.program.templates.nodes b) =
          found_of (table_of c.table) t.config t.unfolds n (box_row c.table.program.templates.nodes b) r in
          (w.0, w.1, by w.0 b.failing w.2.failing k)

-- the box of a place, by a table's rows
home_named : (c : CoreValue) (t : TableIn c) (place : Place) (home : Name) (f : Found) → site_in (table_of c.table) place ≡ Some home → site_of place t.config.roots ≡ Some f → home ≡ f.content.name
home_named c t (Place.Goal g) home f e i =
    let w : (row : GoalRow) × ((table_of c.table).goal_of g ≡ Some row) × (row.home ≡ f.content.name) = row_of_goal (table_of c.table) t.config t.unfolds (run_rows.once c.table (run_by c) t) g f i in
    some_value (sym e ∙ ap home_in w.1) ∙ w.2
home_named c t (Place.Box n) home f e i = some_value (sym e) ∙ box-itself n t.config.roots f i

-- so those boxes are urgent that a label may have made fail
module _ (s d : SchedulerValue) (p : PlanValue) (places : List Place) (among : OpensAmong s d places) (h : TurnHints) (hints : AreHintsFor s.core.table p h) (urgent : AreUrgent d.core.table h.told places d.openings) (unsolved : AreUrgentBoxes h.unsolved.items d.openings) where
  home_here : (t : TableIn s.core) (f : Found) → site_of p.label.place t.config.roots ≡ Some f → hints.around.home ≡ f.content.name
  home_here t f e = home_named s.core t p.label.place hints.around.home f hints.is_around.home e

  pub suspects_urgent : SuspectsAreUrgent s d p
  suspects_urgent = record {
    failing = λ t u kept n f l o e k. urgent.each (Place.Box n) (among.listed t u kept (Place.Box n) l o) (either_right (is_elsewhere h.told n) _ (ap is_urgent (seen_failing d.core u n f e k)));
    unsolved = λ t f n e i. unsolved.each n (subst (IsIn n) (sym (hints.hints.unsolved ∙ ap (λ (home : Name). unsolved_by home p.step) (home_here t f e))) i);
    elsewhere = λ t u kept n f l o e k. urgent.each (Place.Box n) (among.listed t u kept (Place.Box n) l o)
        (either_left (is_elsewhere h.told n) _ (ap (λ (told : Option Name). is_elsewhere told n) (hints.hints.told ∙ ap (λ (home : Name). told_by home p.step) (home_here t f e)) ∙ k));
  }

-- what is open among these places doesn't depend on when it comes
pub still_among : (s d e : SchedulerValue) (places : List Place) → e.core ≡ d.core → OpensAmong s d places → OpensAmong s e places
still_among s d e places x o = subst (λ (k : CoreValue). OpensAmong s (record e { core = k }) places) (sym x) (record { listed = o.listed })
