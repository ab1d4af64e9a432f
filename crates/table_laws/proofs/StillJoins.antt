-- A part joins the store that the box has by now.
use Rattle.std.proofs.Common.{◌≡◌, Bool, List, ◌++◌, Option, Some, refl, sym, ◌∙◌, ap, subst}
use Rattle.std.specs.Prelude.{slice_index}
use Rattle.akl_terms.specs.declared.name.Name.{Name}
use Rattle.akl_terms.specs.declared.name.Var.{Var}
use Rattle.akl_terms.specs.declared.term.Node.{Node}
use Rattle.akl_terms.specs.declared.term.Term.{Term}
use Rattle.akl_terms.specs.declared.program.Program.{Program}
use Rattle.akl_terms.specs.Equal.{Equations, IsTold}
use Rattle.akl_terms.specs.Standing.{StandFor}
use Rattle.akl_terms.proofs.StandingLaws.{StandFor-on}
use Rattle.constraint_laws.specs.StandingGrows.{AreToldIn}
use Rattle.constraint_laws.proofs.StandsGrow.{stands_with_more, stands_within}
use Rattle.akl_model.specs.declared.label.Rule.{Rule}
use Rattle.akl_model.specs.declared.label.Label.{Label}
use Rattle.akl_model.specs.Config.{Atom, Content, Port, with_names, with_ports, no_boxes, box, Config, without_goal, Found, environment, whole, box_at}
use Rattle.akl_model.specs.Conditions as conditions
use Rattle.akl_model.specs.Rules.{becomes}
use Rattle.akl_model.specs.Stable.{Allows}
use Rattle.akl_model.specs.Derivations.{Applies}
use Rattle.akl_model.specs.Instances.{with_atoms}
use Rattle.akl_model.proofs.NamesKept.{Stand, replay-stands, site-box}
use Rattle.rational_unify.specs.Solving.{bindings_in}
use Rattle.local_store.specs.Stored.{Stored}
use Rattle.step_laws.specs.Stays.{GoesOn}
use Rattle.step_laws.proofs.StaysLaws.{equations_grow}
use Rattle.plan_laws.specs.Local.{Told, with_new_tail, told_to, Delta, made}
use Rattle.plan_laws.specs.Right.{IsRightOn}
use Rattle.table_laws.specs.Rows.{BoxRow, Table, store_in, ports_in}
use Rattle.table_laws.specs.Unfolds.{AreBoth, IsBoxRow}
use Rattle.table_laws.specs.Stamped.{Run, IsTableOf}
use Rattle.table_laws.specs.Steps.{tells, joins, numbered, Makes, TellsGoal}
use Rattle.table_laws.proofs.OwnStores.{own_stands, joined_stands}
use Rattle.table_laws.specs.Joins.{PartStands, TellsPart, JoinsPart, told_of, IsJoined}

-- a part that was found for what is told, and the store that the box has by now
module _ (rules : List Rule) (run : Run) (T : Table) (t : IsTableOf rules run T) (c : Config) (ls : List Label) (w : GoesOn rules run.program c ls t.config)
    (l : Label) (e : Config) (a : Applies rules run.program c l e) (r : IsRightOn a t.config) (told : Told)
    (part : List (Var × Term)) (stands : PartStands run.program.templates.nodes a.site told.equations part)
    (row : BoxRow) (there : T.box_of a.site.content.name ≡ Some row) (new : Stored) (joined : IsJoined run.program.templates.nodes told part row.store new) where
  abbrev p : Program
  p = run.program

  abbrev nodes : List Node
  nodes = run.program.templates.nodes

  abbrev now : Found
  now = r.applies.site

  pub s : Stand t.config
  s = replay-stands rules run.program run.query run.journal t.config t.replays

  found_before : box_at a.site.content.name c.roots ≡ Some a.site
  found_before = site-box l.place c.roots a.site (replay-stands rules run.program w.query w.journal c w.replays).once a.is_site

  found_now : box_at a.site.content.name t.config.roots ≡ Some now
  found_now = subst (λ (n : Name). box_at n t.config.roots ≡ Some r.applies.site) (sym r.same_site) (site-box l.place t.config.roots r.applies.site s.once r.applies.is_site)

  pub its_row : IsBoxRow T t.config.roots r.applies.site row
  its_row = subst (λ (o : Option BoxRow). AreBoth (IsBoxRow T t.config.roots) (Some r.applies.site) o) there
      (subst (λ (o : Option Found). AreBoth (IsBoxRow T t.config.roots) o (T.box_of a.site.content.name)) found_now (t.unfolds.boxes a.site.content.name))

  -- the equations down to the box have grown
  grown : AreToldIn (whole a.site) (whole r.applies.site)
  grown = record { each = λ x y m. equations_grow rules run.program c ls t.config w a.site.content.name a.site r.applies.site found_before found_now x y m }

  -- over what stands for the environment, the box's own store stands for the equations down to it
  own : (D : Equations) → StandFor (IsTold D) (IsTold (environment now)) → StandFor (IsTold (D ++ bindings_in nodes row.store.bindings)) (IsTold (whole now))
  own D h = subst (λ (ns : List Node). StandFor (IsTold (D ++ bindings_in ns row.store.bindings)) (IsTold (whole now))) t.nodes
      (subst (λ (k : Stored). StandFor (IsTold (D ++ bindings_in T.nodes k.bindings)) (IsTold (whole now))) (ap store_in (ap T.box_of (sym r.same_site) ∙ there))
      (own_stands T t.config s t.unfolds now (subst (λ (n : Name). box_at n t.config.roots ≡ Some now) r.same_site found_now) D h))

  pub all_stands : (D : Equations) → StandFor (IsTold D) (IsTold (environment now)) → StandFor (IsTold (D ++ bindings_in nodes new.bindings)) (IsTold (whole now ++ told.equations))
  all_stands D h = StandFor-on
      (subst (λ (bs : List (Var × Term)). StandFor (IsTold (D ++ bindings_in nodes bs)) (IsTold ((D ++ bindings_in nodes row.store.bindings) ++ bindings_in nodes part))) (sym joined.bindings) (joined_stands nodes D row.store.bindings part))
      (StandFor-on
      (stands_with_more (D ++ bindings_in nodes row.store.bindings) (whole now) (bindings_in nodes part) (own D h))
      (stands_within (whole a.site) (bindings_in nodes part) told.equations (whole now) grown stands.stands))

module _ (rules : List Rule) (run : Run) (T : Table) (t : IsTableOf rules run T) (c : Config) (ls : List Label) (w : GoesOn rules run.program c ls t.config)
    (l : Label) (e : Config) (a : Applies rules run.program c l e) (r : IsRightOn a t.config) (g : Name) (told : Told) (is : TellsPart a t.config r g told)
    (part : List (Var × Term)) (stands : PartStands run.program.templates.nodes a.site told.equations part)
    (row : BoxRow) (there : T.box_of a.site.content.name ≡ Some row) (new : Stored) (joined : IsJoined run.program.templates.nodes told part row.store new) (solved : Bool) where
  told_row : IsBoxRow T t.config.roots r.applies.site row
  told_row = its_row rules run T t c ls w l e a r told part stands row there new joined

  -- what the label makes
  change_boxes : r.applies.change.boxes ≡ box (told_to told r.applies.site.content) (without_goal g r.applies.site.goals) no_boxes
  change_boxes = r.now ∙ ap (λ (x : Delta). made x r.applies.site) is.change
      ∙ ap (λ (atoms : List Atom). box (told_to told r.applies.site.content) (with_atoms is.new.worker is.new.first atoms (without_goal g r.applies.site.goals)) no_boxes) is.no_goals

  is_change : r.applies.change ≡ becomes (told_to told r.applies.site.content) (without_goal g r.applies.site.goals) r.applies.change.drawn
  is_change = λ i. record { boxes = change_boxes i; drawn = r.applies.change.drawn }

  pub tells_goal : TellsGoal run.program l (slice_index t.config.next l.worker) r.applies.site g new
  tells_goal = record {
    content = told_to told r.applies.site.content;
    drawn = r.applies.change.drawn;
    reduces = record { goal = is.goal; held = is.held; makes = subst (conditions.Makes (Allows run.program) run.program (slice_index t.config.next l.worker) l r.applies.site) is_change r.applies.makes };
    first = is.first;
    more = is.more;
    equations = ap (λ (E : Equations). r.applies.site.content.equations ++ E) is.equations;
    frames = joined.frames ∙ ap (with_names told.frames) told_row.frames;
    ports = joined.ports ∙ ap (λ (ps : List Port). with_ports told.ports (with_new_tail told.tail ps))
        (ap (λ (ns : List Node). ports_in ns row.store.ports) (sym t.nodes) ∙ told_row.ports);
    stands = λ D h. subst (λ (E : Equations). StandFor (IsTold (D ++ bindings_in run.program.templates.nodes new.bindings)) (IsTold (whole r.applies.site ++ E))) is.equations (all_stands rules run T t c ls w l e a r told part stands row there new joined D h);
  }

  pub joins_later : Makes run.program l (slice_index t.config.next l.worker) r.applies.site (tells new solved)
  joins_later = (g, is.place, tells_goal)

module _ (rules : List Rule) (run : Run) (T : Table) (t : IsTableOf rules run T) (c : Config) (ls : List Label) (w : GoesOn rules run.program c ls t.config)
    (l : Label) (e : Config) (a : Applies rules run.program c l e) (r : IsRightOn a t.config) (g : Name) (joined : Content) (is : JoinsPart a t.config r g joined)
    (part : List (Var × Term)) (stands : PartStands run.program.templates.nodes a.site joined.equations part)
    (row : BoxRow) (there : T.box_of a.site.content.name ≡ Some row) (new : Stored) (both : IsJoined run.program.templates.nodes (told_of joined) part row.store new) (solved : Bool) where
  home_row : IsBoxRow T t.config.roots r.applies.site row
  home_row = its_row rules run T t c ls w l e a r (told_of joined) part stands row there new both

  pub joined_later : Makes run.program l (slice_index t.config.next l.worker) r.applies.site (joins new solved (numbered l.worker (slice_index t.config.next l.worker) joined.body))
  joined_later = (
    g,
    is.place,
    record {
      operator = is.operator;
      alternatives = is.alternatives;
      held = is.held;
      joined = joined;
      origin = is.origin;
      frames = both.frames ∙ ap (with_names joined.frames) home_row.frames;
      ports = both.ports ∙ ap (λ (ps : List Port). with_ports joined.ports ps) (ap (λ (ns : List Node). ports_in ns row.store.ports) (sym t.nodes) ∙ home_row.ports);
      stands = λ D h. all_stands rules run T t c ls w l e a r (told_of joined) part stands row there new both D h;
      body = refl;
    },
  )
