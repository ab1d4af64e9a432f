-- A label that gives its box no store makes later what it made.
use Rattle.std.proofs.Common.{◌≡◌, ℕ, ◌≤◌, List, ◌++◌, length, Option, Some, None, refl, sym, ◌∙◌, ap, subst, inl, inr}
use Rattle.std.specs.Prelude.{slice_index, option_map}
use Rattle.akl_terms.specs.declared.name.Name.{Name}
use Rattle.akl_terms.specs.declared.name.Var.{Var}
use Rattle.akl_terms.specs.declared.name.Place.{Place}
use Rattle.akl_terms.specs.declared.program.Program.{Program}
use Rattle.akl_terms.specs.declared.program.Query.{Query}
use Rattle.akl_terms.specs.Equal.{IsTold}
use Rattle.constraint_laws.specs.StandingGrows.{AreToldIn}
use Rattle.akl_model.specs.declared.item.Item.{Item}
use Rattle.akl_model.specs.declared.label.Rule.{Rule}
use Rattle.akl_model.specs.declared.label.Label.{Label}
use Rattle.akl_model.specs.Config.{IsIn, Atom, Boxes, Held, a_choice, an_atom, held_in, Config, Found, environment, box_at}
use Rattle.akl_model.specs.Changes.{by_store, by_binding, ChangedAt, box_names, shape_of}
use Rattle.akl_model.specs.Conditions.{IsFailing}
use Rattle.akl_model.specs.Derivations.{Applies}
use Rattle.akl_model.specs.Stable.{only}
use Rattle.akl_model.proofs.Finds.{times_inside}
use Rattle.akl_model.proofs.NamesKept.{Stand, replay-stands}
use Rattle.akl_model.proofs.Options.{some_value}
use Rattle.step_laws.specs.Bound.{AreBoundIn}
use Rattle.step_laws.proofs.Same.{IsSame}
use Rattle.step_laws.proofs.Inside.{same_inside}
use Rattle.step_laws.specs.Inside.{EachItem}
use Rattle.step_laws.proofs.Stays.{choice_shape}
use Rattle.step_laws.proofs.Steps.{later}
use Rattle.step_laws.proofs.Whereabouts.{found_in, home_in}
use Rattle.plan_laws.specs.BoundAgain.{AddsNone}
use Rattle.plan_laws.specs.Right.{Reads, IsRightOn}
use Rattle.plan_laws.specs.Stamps as stamps
use Rattle.reading_laws.specs.Plans.{StaysRight}
use Rattle.reading_laws.specs.Seen.{ReadsAt, IsAtGoal}
use Rattle.reading_laws.proofs.Boxes.{IsThereStill, there_still}
use Rattle.reading_laws.proofs.IdleBoxes.{each_same}
use Rattle.reading_laws.proofs.SeenItems.{seen_unchanged}
use Rattle.reading_laws.specs.SeenBoxes.{ReadsStable}
use Rattle.reading_laws.proofs.SeenBoxes.{each, seen_fail, seen_split}
use Rattle.table_laws.specs.Rows.{Table}
use Rattle.table_laws.specs.Steps.{Step, tells, forks, fails, cuts, joins, refutes, confirms, splits, CutsGoal, SplitsBox, ReducesAtom, Makes}
use Rattle.table_laws.proofs.Gone.{goals_once}
use Rattle.table_laws.proofs.Later.{later_law}
use Rattle.table_laws.proofs.Reducing.{reduced}
use Rattle.table_laws.specs.Planned.{GoesOnTo, Seen, LeadsOn}
use Rattle.table_laws.specs.SameSteps.{ReadsFor}
use Rattle.table_laws.proofs.PartCopies.{copies_around}
use Rattle.table_laws.proofs.Deciding.{decides_later}
use Rattle.table_laws.proofs.PartsLater.{on, same_next, found_before, leads, leads_by, binds_nothing, found_now, grows, home_before, same_shape, same_atom, right}
use Rattle.table_laws.proofs.TellsLater.{goal_seen}

module _ (rules : List Rule) (p : Program) (q : Query) (journal further : List Label) (c : Config) (l : Label) (T : Table) (y : GoesOnTo rules p q journal further c l T) (e : Config) (a : Applies rules p c l e) (list : List Var)
    (bound : AreBoundIn c e a.site list) where
  abbrev U : Item → Type 0
  U = Seen rules p q journal further

  abbrev Result : Step → Type 0
  Result step = (k : LeadsOn a y.table.config list) × Makes p l (slice_index y.table.config.next l.worker) k.applies.site step

  -- a goal's stamp is the same in both details
  stamped : (g : Name) → U (Item.Goal g) → stamps.IsStamped rules p q (journal ++ further) (length journal) (Item.Goal g)
  stamped g u = record {
    number = u.number;
    last = record {
      changed = elim u.last.changed [ inl z ↦ inl z | inr z ↦ inr (coarse z) ];
      none_later = λ k h z. u.last.none_later k h (fine z);
    };
    early = u.early;
  }
    where
      coarse : {k : ℕ} → ChangedAt by_binding rules p q (journal ++ further) (Item.Goal g) k → ChangedAt by_store rules p q (journal ++ further) (Item.Goal g) k
      coarse z = record { earlier = z.earlier; label = z.label; later = z.later; is_journal = z.is_journal; is_number = z.is_number; before = z.before; afterwards = z.afterwards; derived = z.derived; applies = z.applies; changes = z.changes }

      fine : {k : ℕ} → ChangedAt by_store rules p q (journal ++ further) (Item.Goal g) k → ChangedAt by_binding rules p q (journal ++ further) (Item.Goal g) k
      fine z = record { earlier = z.earlier; label = z.label; later = z.later; is_journal = z.is_journal; is_number = z.is_number; before = z.before; afterwards = z.afterwards; derived = z.derived; applies = z.applies; changes = z.changes }

  -- by a goal alone
  forks_later : (op : _) (news : _) → ReadsFor U c l a.site list (forks op news) → Makes p l (slice_index c.next l.worker) a.site (forks op news) → Result (forks op news)
  forks_later op news u m =
      let k : _ = later_law rules p q journal further c y.table.config l e a (forks op news) y.replays y.derives y.none reads m in
      (leads_by rules p q journal further c l T y e a k.0 k.1 k.3 k.4 list (binds_nothing rules p q journal further c l T y e a none list bound k.0 k.1), k.2)
    where
      reads : Reads (stamps.IsStamped rules p q (journal ++ further) (length journal)) l.rule l.place l.alternative a.site
      reads = subst (λ (r : Rule). Reads (stamps.IsStamped rules p q (journal ++ further) (length journal)) r l.place l.alternative a.site) (sym m.0)
          (subst (λ (z : Place). Reads (stamps.IsStamped rules p q (journal ++ further) (length journal)) Rule.Fork z l.alternative a.site) (sym u.1) (stamped u.0 u.2))

      none : AddsNone l.rule
      none = subst AddsNone (sym m.0) tt

  fails_later : ReadsFor U c l a.site list fails → Makes p l (slice_index c.next l.worker) a.site fails → Result fails
  fails_later u rule = at l.place refl (subst (λ (r : Rule). Reads U r l.place l.alternative a.site) rule u)
    where
      none : AddsNone l.rule
      none = subst AddsNone (sym rule) tt

      by_goal : (n : Name) → l.place ≡ Place.Box n → (g : Name) (h : Held) → held_in g a.site.goals ≡ Some h → IsFailing h → U (Item.Goal g) → Result fails
      by_goal n is g h held failing v =
          let k : _ = later_law rules p q journal further c y.table.config l e a fails y.replays y.derives y.none
          (subst (λ (r : Rule). Reads (stamps.IsStamped rules p q (journal ++ further) (length journal)) r l.place l.alternative a.site) (sym rule)
          (subst (λ (z : Place). Reads (stamps.IsStamped rules p q (journal ++ further) (length journal)) Rule.Fail z l.alternative a.site) (sym is) (inr (g, h, held, failing, stamped g v)))) rule in
          (leads_by rules p q journal further c l T y e a k.0 k.1 k.3 k.4 list (binds_nothing rules p q journal further c l T y e a none list bound k.0 k.1), rule)

      at : (z : Place) → l.place ≡ z → Reads U Rule.Fail z l.alternative a.site → Result fails
      at (Place.Goal g) is v = absurd v
      at (Place.Box n) is (inl v) =
          let r : IsRightOn a y.table.config = seen_fail rules p q journal further c y.table.config y.replays y.derives l e a y.none n is rule v.0 v.1 in
          (leads rules p q journal further c l T y e a r list (binds_nothing rules p q journal further c l T y e a none list bound r.result r.applies), rule)
      at (Place.Box n) is (inr v) = by_goal n is v.0 v.1 v.2 v.3 v.4

  -- at a goal, where its plan stays right
  module _ (g : Name) (place : l.place ≡ Place.Goal g) (u : ReadsAt U c g a.site list) (stays : StaysRight a y.table.config list) where
    abbrev r : IsRightOn a y.table.config
    r = stays.still.right

    abbrev now : Found
    now = r.applies.site

    abbrev led : LeadsOn a y.table.config list
    led = leads rules p q journal further c l T y e a r list (stays.binds r.result r.applies)

    seen : U (Item.Goal g)
    seen = goal_seen U c g a.site list u

    cuts_goal : (n : Name) → CutsGoal a.site g n → CutsGoal now g n
    cuts_goal n m =
        let v : (cs : Boxes) × (held_in g now.goals ≡ Some (a_choice m.operator cs)) × (box_names m.alternatives ≡ box_names cs) = choice_shape m.operator m.alternatives (held_in g now.goals)
        (sym (ap (option_map shape_of) m.held) ∙ same_shape rules p q journal further c l T y e a r g place seen) in
        record { operator = m.operator; alternatives = v.0; held = v.1; named = subst (IsIn n) v.2 m.named }

    once : (i : Name) → times_inside i a.site.goals ≤ 1
    once = goals_once c.roots (replay-stands rules p q journal c y.replays).once a.site (home_in g c.roots a.site (home_before rules p q journal further c l T y e a r g place)).0

    decides : (o : Option Held) → l.rule ≡ Rule.Eval → ReducesAtom p l (slice_index c.next l.worker) a.site g a.site.content (reduced o g a.site.goals) 0
        → ReducesAtom p l (slice_index y.table.config.next l.worker) now g now.content (reduced o g now.goals) 0
    decides o rule m = subst (λ (n : ℕ). ReducesAtom p l n now g now.content (reduced o g now.goals) 0) (sym (same_next rules p q journal further c l T y))
        (decides_later p l (slice_index c.next l.worker) a.site now g o m once rule place (same_atom rules p q journal further c l T y e a r g place seen m.goal m.held)
        (grows rules p q journal further c l T y e a r) r.applies.makes.reading r.applies.makes.allowed)

  stays_at : (g : Name) (z : Rule) → l.rule ≡ z → IsAtGoal z → l.place ≡ Place.Goal g → ReadsAt U c g a.site list → StaysRight a y.table.config list
  stays_at g z rule kind place u = right rules p q journal further c l T y e a g list u (subst IsAtGoal (sym rule) kind) place bound

  same_place : (g h : Name) → l.place ≡ Place.Goal g → l.place ≡ Place.Goal h → g ≡ h
  same_place g h i j = let k : Place.Goal g ≡ Place.Goal h = sym i ∙ j in cc

  -- all inside a box that is split is the same, and more may be told around it
  splits_later : (copy : _) (copies : _) → ReadsStable U c a.site → Makes p l (slice_index c.next l.worker) a.site (splits copy copies) → Result (splits copy copies)
  splits_later copy copies u m = (
    leads rules p q journal further c l T y e a r list (binds_nothing rules p q journal further c l T y e a (subst AddsNone (sym m.0) tt) list bound r.result r.applies),
    (
      m.0,
      (
        m.1.0,
        m.1.1,
        m.1.2,
        m.1.3,
        subst (λ (n : ℕ). SplitsBox p.templates.nodes l.worker n r.applies.site m.1.1 copy copies) (sym (same_next rules p q journal further c l T y))
            (subst (λ (f : Found). SplitsBox p.templates.nodes l.worker (slice_index c.next l.worker) f m.1.1 copy copies) is_moved splits_moved),
      ),
    ),
  )
    where
      r : IsRightOn a y.table.config
      r = seen_split rules p q journal further c y.table.config y.replays y.derives l e a y.none m.1.0 m.1.2 m.0 u

      s : Stand c
      s = replay-stands rules p q journal c y.replays

      t : Stand y.table.config
      t = replay-stands rules p q (journal ++ further) y.table.config y.table.replays

      same : EachItem (IsSame c y.table.config) (only a.site)
      same = each_same rules p c further y.table.config (on rules p q journal further c l T y) (only a.site) (each rules p q journal further c y.table.config y.replays y.derives (only a.site) u.within)

      there : box_at a.site.content.name y.table.config.roots ≡ Some r.applies.site
      there = found_now rules p q journal further c l T y e a r

      inside : (a.site.content ≡ r.applies.site.content) × (a.site.goals ≡ r.applies.site.goals)
      inside = same_inside c y.table.config s t (later rules p c y.table.config further s y.derives) a.site r.applies.site
          (found_in a.site.content.name c.roots a.site (found_before rules p q journal further c l T y e a)) (found_in a.site.content.name y.table.config.roots r.applies.site there) r.same_site same

      is_moved : record { around = r.applies.site.around; content = a.site.content; goals = a.site.goals } ≡ r.applies.site
      is_moved = λ j. record { around = r.applies.site.around; content = inside.0 j; goals = inside.1 j }

      still : IsThereStill y.table.config a.site.content.name a.site
      still = there_still rules p q journal c further y.table.config y.replays y.derives a.site.content.name a.site (found_before rules p q journal further c l T y e a)
          (seen_unchanged rules p q journal further c y.table.config (Item.Store a.site.content.name) u.within.0.number y.replays y.derives u.within.0.last u.within.0.early)

      outer : AreToldIn (environment a.site) (environment r.applies.site)
      outer = record { each = λ x z h. subst (λ (f : Found). IsTold (environment f) x z) (some_value (sym still.is ∙ there)) (still.outer x z h) }

      splits_moved : SplitsBox p.templates.nodes l.worker (slice_index c.next l.worker) (record { around = r.applies.site.around; content = a.site.content; goals = a.site.goals }) m.1.1 copy copies
      splits_moved = record {
        choice = m.1.4.choice;
        is_choice = m.1.4.is_choice;
        named = m.1.4.named;
        copied = copies_around p.templates.nodes (environment a.site) (environment r.applies.site) _ outer copies m.1.4.copied;
      }

  pub same_step : (step : Step) → ReadsFor U c l a.site list step → Makes p l (slice_index c.next l.worker) a.site step → Result step
  same_step (forks op news) u m = forks_later op news u m
  same_step fails u m = fails_later u m
  same_step cuts u m =
      let s : StaysRight a y.table.config list = stays_at u.0 Rule.Cut m.0 tt u.1 u.2 in
      (led u.0 u.1 u.2 s, (m.0, (u.0, m.1.1, u.1, m.1.3, cuts_goal u.0 u.1 u.2 s m.1.1 (subst (λ (g : Name). CutsGoal a.site g m.1.1) (same_place m.1.0 u.0 m.1.2 u.1) m.1.4))))
  same_step refutes u m =
      let s : StaysRight a y.table.config list = stays_at u.0 Rule.Eval m.0 tt u.1 u.2 in (
        led u.0 u.1 u.2 s,
        (
          m.0,
          (
            u.0,
            u.1,
            decides u.0 u.1 u.2 s (Some (an_atom Atom.fail)) m.0
                (subst (λ (g : Name). ReducesAtom p l (slice_index c.next l.worker) a.site g a.site.content (reduced (Some (an_atom Atom.fail)) g a.site.goals) 0) (same_place m.1.0 u.0 m.1.1 u.1) m.1.2),
          ),
        ),
      )
  same_step confirms u m =
      let s : StaysRight a y.table.config list = stays_at u.0 Rule.Eval m.0 tt u.1 u.2 in (
        led u.0 u.1 u.2 s,
        (
          m.0,
          (
            u.0,
            u.1,
            decides u.0 u.1 u.2 s None m.0
                (subst (λ (g : Name). ReducesAtom p l (slice_index c.next l.worker) a.site g a.site.content (reduced None g a.site.goals) 0) (same_place m.1.0 u.0 m.1.1 u.1) m.1.2),
          ),
        ),
      )
  same_step (splits copy copies) u m = splits_later copy copies u m
  same_step (tells new solved) u m = absurd u
  same_step (joins new solved goals) u m = absurd u
