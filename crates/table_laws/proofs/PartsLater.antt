-- A label that is right later still, in the later table.
use Rattle.std.proofs.Common.{◌≡◌, List, ◌++◌, Some, refl, sym, ◌∙◌, ap, subst}
use Rattle.std.specs.Prelude.{◌↔◌, slice_index}
use Rattle.akl_terms.specs.declared.name.Name.{Name}
use Rattle.akl_terms.specs.declared.name.Var.{Var}
use Rattle.akl_terms.specs.declared.name.Place.{Place}
use Rattle.akl_terms.specs.declared.term.Node.{Node}
use Rattle.akl_terms.specs.declared.program.Program.{Program}
use Rattle.akl_terms.specs.declared.program.Query.{Query}
use Rattle.akl_terms.specs.Equal.{Equations, IsTold, IsConsistent, Follows, told}
use Rattle.akl_terms.specs.Standing.{StandFor}
use Rattle.akl_model.specs.declared.item.Item.{Item}
use Rattle.akl_model.specs.declared.label.Rule.{Rule}
use Rattle.akl_model.specs.declared.label.Label.{Label}
use Rattle.akl_model.specs.Config.{Atom, Content, Config, Port, no_boxes, box, Goals, an_atom, held_in, Found, environment, whole, box_at, home_of, site_of, with_names, with_ports}
use Rattle.akl_model.specs.Derivations.{Applies}
use Rattle.akl_model.specs.Wakes.{names_around}
use Rattle.akl_model.proofs.NamesKept.{replay-stands, site-box}
use Rattle.akl_model.proofs.Options.{some_value}
use Rattle.rational_unify.specs.Solving.{bindings_in}
use Rattle.local_store.specs.Stored.{Stored}
use Rattle.step_laws.specs.Bound.{AreBoundIn}
use Rattle.step_laws.specs.Likeness.{IsLike}
use Rattle.step_laws.specs.Stays.{GoesOn, HaveShape}
use Rattle.step_laws.proofs.StaysLaws.{like, equations_grow, goal_stays}
use Rattle.constraint_laws.specs.Touched.{IsAmong}
use Rattle.plan_laws.specs.BoundAgain.{AddsNone}
use Rattle.plan_laws.proofs.BoundAgain.{binds_none}
use Rattle.plan_laws.specs.Local.{Told, with_new_tail, told_to, Delta, reduces, made}
use Rattle.plan_laws.specs.Right.{IsRightOn}
use Rattle.plan_laws.proofs.Again.{atom_shape}
use Rattle.plan_laws.proofs.Right.{fresh}
use Rattle.reading_laws.specs.Plans.{StaysRight}
use Rattle.reading_laws.specs.Seen.{ReadsAt, IsAtGoal}
use Rattle.reading_laws.proofs.SeenPlans.{seen_plan}
use Rattle.reading_laws.proofs.SeenItems.{seen_unchanged}
use Rattle.reading_laws.proofs.Untouched.{goal_untouched}
use Rattle.table_laws.specs.Rows.{BoxRow, Table, store_in, ports_in}
use Rattle.table_laws.specs.Unfolds.{IsBoxRow}
use Rattle.table_laws.specs.Stamped.{Run}
use Rattle.table_laws.proofs.Frame.{row_of}
use Rattle.table_laws.specs.Joins.{PartStands, IsJoined}
use Rattle.table_laws.proofs.StillJoins.{all_stands}
use Rattle.table_laws.specs.Added.{Added, with_added, NamesTold}
use Rattle.table_laws.specs.Planned.{GoesOnTo, Seen, LeadsOn, store_of}
use Rattle.table_laws.proofs.SamePorts.{ports_stay}
use Rattle.table_laws.proofs.Parts.{rest_same}

module _ (rules : List Rule) (p : Program) (q : Query) (journal further : List Label) (c : Config) (l : Label) (T : Table) (y : GoesOnTo rules p q journal further c l T) where
  abbrev pub d : Config
  d = y.table.config

  abbrev pub run : Run
  run = record { program = p; query = q; journal = journal ++ further }

  abbrev pub on : GoesOn rules p c further d
  on = record { query = q; journal = journal; replays = y.replays; derives = y.derives }

  pub same_next : slice_index d.next l.worker ≡ slice_index c.next l.worker
  same_next = (fresh rules p c further d on l y.none).0

  module _ (e : Config) (a : Applies rules p c l e) where
    pub found_before : box_at a.site.content.name c.roots ≡ Some a.site
    found_before = site-box l.place c.roots a.site (replay-stands rules p q journal c y.replays).once a.is_site

    -- it leads on from the table's configuration
    abbrev pub leads : (r : IsRightOn a d) (list : List Var) → AreBoundIn d r.result r.applies.site list → LeadsOn a d list
    leads r list binds = record {
      result = r.result;
      applies = r.applies;
      same_site = sym r.same_site;
      same_around = sym r.same_around;
      same_next = same_next;
      drawn = sym r.drawn;
      binds = binds;
    }

    -- the same by the names of the boxes
    pub around_as : (result : Config) (now : Applies rules p d l result) → now.site.content.name ≡ a.site.content.name → names_around now.site ≡ names_around a.site
    around_as result now same =
        let there : box_at a.site.content.name d.roots ≡ Some now.site =
        subst (λ (n : Name). box_at n d.roots ≡ Some now.site) same (site-box l.place d.roots now.site (replay-stands rules p q (journal ++ further) d y.table.replays).once now.is_site) in
        let k : IsLike a.site now.site = (like rules p c further d on).0 a.site.content.name a.site now.site found_before there in
        sym k.around

    abbrev pub leads_by : (result : Config) (now : Applies rules p d l result) → now.site.content.name ≡ a.site.content.name → now.change.drawn ≡ a.change.drawn → (list : List Var) → AreBoundIn d result now.site list → LeadsOn a d list
    leads_by result now same drawn list binds =
        record { result = result; applies = now; same_site = same; same_around = around_as result now same; same_next = same_next; drawn = drawn; binds = binds }

    -- what binds nothing binds what no list has
    pub binds_nothing : AddsNone l.rule → (list : List Var) → AreBoundIn c e a.site list → (result : Config) (now : Applies rules p d l result) → AreBoundIn d result now.site list
    binds_nothing none list bound result now = record {
      each = λ x i. absurd (empty x i);
      every = λ x b. absurd (binds_none rules p q (journal ++ further) d l result y.table.replays now none x b);
      oldest = λ x w i o. absurd (empty x i);
    }
      where
        empty : (x : Var) → IsAmong x list → ⊥
        empty x i = binds_none rules p q journal c l e y.replays a none x (bound.each x i)

    module _ (r : IsRightOn a d) where
      abbrev now : Found
      now = r.applies.site

      pub found_now : box_at a.site.content.name d.roots ≡ Some now
      found_now = subst (λ (n : Name). box_at n d.roots ≡ Some now) (sym r.same_site) (site-box l.place d.roots now (replay-stands rules p q (journal ++ further) d y.table.replays).once r.applies.is_site)

      pub grows : Follows (whole a.site) (whole now)
      grows = record { each = λ {s} {t} m. told (equations_grow rules p c further d on a.site.content.name a.site now found_before found_now s t m) }

      -- its goal stands there with the shape that it had
      module _ (g : Name) (place : l.place ≡ Place.Goal g) where
        pub home_before : home_of g c.roots ≡ Some a.site
        home_before = subst (λ (x : Place). site_of x c.roots ≡ Some a.site) place a.is_site

        pub home_now : home_of g d.roots ≡ Some now
        home_now = subst (λ (x : Place). site_of x d.roots ≡ Some now) place r.applies.is_site

        pub same_shape : Seen rules p q journal further (Item.Goal g) → HaveShape (held_in g a.site.goals) (held_in g now.goals)
        same_shape u =
            let k : (k : Found) × (home_of g d.roots ≡ Some k) × IsLike a.site k × HaveShape (held_in g a.site.goals) (held_in g k.goals) =
            goal_stays rules p c further d on g a.site home_before (goal_untouched rules p c further d y.derives g (seen_unchanged rules p q journal further c d (Item.Goal g) u.number y.replays y.derives u.last u.early)) in
            subst (λ (f : Found). HaveShape (held_in g a.site.goals) (held_in g f.goals)) (some_value (sym k.1 ∙ home_now)) k.3

        pub same_atom : Seen rules p q journal further (Item.Goal g) → (x : Atom) → held_in g a.site.goals ≡ Some (an_atom x) → held_in g now.goals ≡ Some (an_atom x)
        same_atom u x h = atom_shape x (held_in g a.site.goals) (held_in g now.goals) (same_shape u) h

      -- the table's row of its box, and this with what a plan adds
      pub row : (row : BoxRow) × (T.box_of a.site.content.name ≡ Some row) × IsBoxRow T d.roots now row
      row = row_of T d y.table.unfolds a.site.content.name now found_now

      module _ (told : Told) (x : Added) (names : NamesTold p.templates.nodes a.site.content.ports told x) (stands : PartStands p.templates.nodes a.site told.equations x.bindings)
          (ports : now.content.ports ≡ a.site.content.ports) where
        abbrev new : Stored
        new = with_added row.0.store x

        ports_there : ports_in p.templates.nodes row.0.store.ports ≡ a.site.content.ports
        ports_there = ap (λ (ns : List Node). ports_in ns row.0.store.ports) (sym y.table.nodes) ∙ row.2.ports ∙ ports

        joined : IsJoined p.templates.nodes told x.bindings row.0.store new
        joined = record {
          frames = names.frames row.0.store.frames;
          bindings = refl;
          ports = names.ports row.0.store.ports ports_there ∙ ap (λ (ps : List Port). with_ports told.ports (with_new_tail told.tail ps)) (sym ports_there);
        }

        pub new_frames : new.frames ≡ with_names told.frames now.content.frames
        new_frames = names.frames row.0.store.frames ∙ ap (with_names told.frames) row.2.frames

        pub new_ports : ports_in p.templates.nodes new.ports ≡ with_ports told.ports (with_new_tail told.tail now.content.ports)
        new_ports = names.ports row.0.store.ports ports_there ∙ ap (λ (ps : List Port). with_ports told.ports (with_new_tail told.tail ps)) (sym ports)

        pub new_stands : (D : Equations) → StandFor (IsTold D) (IsTold (environment now)) → StandFor (IsTold (D ++ bindings_in p.templates.nodes new.bindings)) (IsTold (whole now ++ told.equations))
        new_stands D h = all_stands rules run T y.table c further on l e a r told x.bindings stands row.0 row.1 new joined D h

      pub is_store : store_of T a.site.content.name ≡ row.0.store
      is_store = ap store_in row.1

    -- a plan at a goal stays right by what it read
    module _ (g : Name) (list : List Var) (u : ReadsAt (Seen rules p q journal further) c g a.site list) where
      pub right : IsAtGoal l.rule → l.place ≡ Place.Goal g → AreBoundIn c e a.site list → StaysRight a d list
      right kind place bound = seen_plan rules p q journal further c d l e a y.replays y.derives y.none g kind place list bound u

      pub same_ports : (r : IsRightOn a d) → r.applies.site.content.ports ≡ a.site.content.ports
      same_ports r = ports_stay rules p q journal further c d y.replays y.derives a.site r.applies.site found_before (found_now r) g list u

    -- then what it tells clashes as it did, where it is known what this is
    pub clash_of : (list : List Var) (s : StaysRight a d list) (E : Equations) (b : Content) (gs : Goals) → a.change.boxes ≡ box b gs no_boxes → b.equations ≡ a.site.content.equations ++ E
        → IsConsistent (whole a.site ++ E) ↔ IsConsistent (whole s.still.right.applies.site ++ E)
    clash_of list s E b gs is adds = subst (λ (F : Equations). IsConsistent (whole a.site ++ F) ↔ IsConsistent (whole s.still.right.applies.site ++ F)) same s.clash
      where
        same : s.still.told.equations ≡ E
        same =
            let k : made (reduces s.still.told s.still.goal s.still.becomes s.still.new) a.site ≡ box b gs no_boxes = sym (s.still.right.before ∙ ap (λ (u : Delta). made u a.site) s.still.change) ∙ is in
            let m : told_to s.still.told a.site.content ≡ b = cc in
            rest_same a.site.content.equations s.still.told.equations E (ap (λ (x : Content). x.equations) m ∙ adds)
