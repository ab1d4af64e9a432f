-- What a plan adds to the store of its own table, and the store that this makes.
use Rattle.std.proofs.Common.{◌≡◌, ℕ, List, ◌∷◌, ◌++◌, Some, sym, ◌∙◌, ap, subst}
use Rattle.std.specs.Prelude.{◌↔◌, slice_index}
use Rattle.akl_terms.specs.declared.name.Name.{Name}
use Rattle.akl_terms.specs.declared.name.Var.{Var}
use Rattle.akl_terms.specs.declared.term.Node.{Node}
use Rattle.akl_terms.specs.declared.term.Term.{Term}
use Rattle.akl_terms.specs.declared.program.Program.{Program}
use Rattle.akl_terms.specs.Equal.{Equation, Equations, IsTold}
use Rattle.akl_terms.specs.Standing.{StandFor}
use Rattle.akl_terms.proofs.StandingLaws.{StandFor-back, StandFor-on}
use Rattle.constraint_laws.proofs.StandsGrow.{stands_with_more}
use Rattle.akl_model.specs.declared.label.Rule.{Rule}
use Rattle.akl_model.specs.declared.label.Label.{Label}
use Rattle.akl_model.specs.Config.{Atom, Content, with_names, with_ports, without_goal, Found, environment, whole, box_at}
use Rattle.akl_model.specs.Rules.{becomes}
use Rattle.akl_model.specs.Wakes.{names_around}
use Rattle.akl_model.proofs.NamesKept.{Stand, replay-stands}
use Rattle.rational_unify.specs.Solving.{bindings_in}
use Rattle.local_store.specs.Stored.{Stored, joins, all_named}
use Rattle.plan_laws.specs.Local.{Told, with_new_tail, told_to}
use Rattle.table_laws.specs.Rows.{BoxRow, Table, ports_in, store_in}
use Rattle.table_laws.specs.Stamped.{Run, IsTableOf}
use Rattle.table_laws.specs.Steps.{TellsGoal, JoinsGoal}
use Rattle.table_laws.specs.Unfolds.{IsBoxRow}
use Rattle.table_laws.proofs.Stores.{told_along}
use Rattle.table_laws.proofs.Frame.{around_stands, row_of}
use Rattle.table_laws.specs.Here.{StandsOver}
use Rattle.table_laws.specs.Joins.{PartStands, told_of}
use Rattle.table_laws.proofs.OwnStores.{own_stands, joined_stands}
use Rattle.table_laws.specs.Added.{Added, with_added, NamesTold}
use Rattle.table_laws.specs.Joining.{JoinsBy}
use Rattle.table_laws.specs.Planned.{store_of}
use Rattle.table_laws.specs.Telling.{IsToldFor, TellsBy}
use Rattle.table_laws.proofs.PortLists.{put_same}
use Rattle.table_laws.proofs.PartsTold.{told_some}
use Rattle.table_laws.proofs.Parts.{rest_same}

module _ (rules : List Rule) (run : Run) (S : Table) (s : IsTableOf rules run S) (f : Found) (is : box_at f.content.name s.config.roots ≡ Some f) where
  abbrev p : Program
  p = run.program

  abbrev nodes : List Node
  nodes = run.program.templates.nodes

  abbrev own : Stored
  own = store_of S f.content.name

  stand : Stand s.config
  stand = replay-stands rules run.program run.query run.journal s.config s.replays

  own_over : (D : Equations) → StandFor (IsTold D) (IsTold (environment f)) → StandFor (IsTold (D ++ bindings_in nodes own.bindings)) (IsTold (whole f))
  own_over D h = subst (λ (ns : List Node). StandFor (IsTold (D ++ bindings_in ns own.bindings)) (IsTold (whole f))) s.nodes (own_stands S s.config stand s.unfolds f is D h)

  -- with the box's own bindings, over all that stands for the equations around it, and by themselves
  module _ (more : Equations) (part : List (Var × Term)) where
    pub from_part : PartStands nodes f more part → StandsOver nodes (environment f) (whole f ++ more) (joins own.bindings part)
    from_part x D h = StandFor-on (joined_stands nodes D own.bindings part) (StandFor-on (stands_with_more (D ++ bindings_in nodes own.bindings) (whole f) (bindings_in nodes part) (own_over D h)) x.stands)

    pub to_part : StandsOver nodes (environment f) (whole f ++ more) (joins own.bindings part) → PartStands nodes f more part
    to_part x = record {
      stands = StandFor-on (StandFor-back (stands_with_more (around ++ bindings_in nodes own.bindings) (whole f) (bindings_in nodes part) (own_over around here)))
          (StandFor-on (StandFor-back (joined_stands nodes around own.bindings part)) (x around here));
    }
      where
        around : Equations
        around = told_along S (names_around f)

        here : StandFor (IsTold around) (IsTold (environment f))
        here = around_stands S s.config stand s.unfolds f.content.name f is

    pub part_stands : StandsOver nodes (environment f) (whole f ++ more) (joins own.bindings part) ↔ PartStands nodes f more part
    part_stands = (to_part, from_part)

  -- the frames and ports that its own store has
  row : (r : BoxRow) × (S.box_of f.content.name ≡ Some r) × IsBoxRow S s.config.roots f r
  row = row_of S s.config s.unfolds f.content.name f is

  is_own : row.0.store ≡ own
  is_own = sym (ap store_in row.1)

  own_frames : own.frames ≡ f.content.frames
  own_frames = ap (λ (k : Stored). k.frames) (sym is_own) ∙ row.2.frames

  own_ports : ports_in nodes own.ports ≡ f.content.ports
  own_ports = ap (λ (k : Stored). ports_in nodes k.ports) (sym is_own) ∙ ap (λ (ns : List Node). ports_in ns row.0.store.ports) (sym s.nodes) ∙ row.2.ports

  module _ (told : Told) (x : Added) where
    pub frames_of : NamesTold nodes f.content.ports told x → (with_added own x).frames ≡ with_names told.frames f.content.frames
    frames_of names = names.frames own.frames ∙ ap (with_names told.frames) own_frames

    pub ports_of : NamesTold nodes f.content.ports told x → ports_in nodes (with_added own x).ports ≡ with_ports told.ports (with_new_tail told.tail f.content.ports)
    ports_of names = names.ports own.ports own_ports

    pub names_of : ((old : List Name) → all_named old x.frames ≡ with_names told.frames old) → ports_in nodes (with_added own x).ports ≡ with_ports told.ports (with_new_tail told.tail f.content.ports) → NamesTold nodes f.content.ports told x
    names_of frames ports = record { frames = frames; ports = λ old e. put_same nodes old own.ports x.ports (e ∙ sym own_ports) ∙ ports }

  module _ (l : Label) (g : Name) (x : Added) where
    abbrev next : ℕ
    next = slice_index s.config.next l.worker

    abbrev new : Stored
    new = with_added own x

    pub tells_here : TellsBy p l next f g x → TellsGoal p l next f g new
    tells_here m = record {
      content = told_to m.told f.content;
      drawn = m.drawn;
      reduces = m.reduces;
      first = some.0;
      more = some.1;
      equations = ap (λ (E : Equations). f.content.equations ++ E) some.2;
      frames = frames_of m.told x m.names;
      ports = ports_of m.told x m.names;
      stands = subst (λ (E : Equations). StandsOver nodes (environment f) (whole f ++ E) new.bindings) some.2 (from_part m.told.equations x.bindings m.stands);
    }
      where
        some : (first : Equation) × (more : Equations) × (m.told.equations ≡ first ∷ more)
        some = told_some p m.reduces.makes.reading l.worker next l.rule f.content.ports m.reduces.goal m.told m.is_told

    pub tells_from : (m : TellsGoal p l next f g new) (told : Told) → m.content ≡ told_to told f.content → IsToldFor p m.reduces.makes.reading l.worker next l.rule f.content.ports m.reduces.goal told
        → ((old : List Name) → all_named old x.frames ≡ with_names told.frames old) → TellsBy p l next f g x
    tells_from m told same is_told frames = record {
      told = told;
      drawn = m.drawn;
      reduces = record {
        goal = m.reduces.goal;
        held = m.reduces.held;
        makes = record {
          reading = m.reduces.makes.reading;
          change = m.reduces.makes.change ∙ ap (λ (b : Content). Some (becomes b (without_goal g f.goals) m.drawn)) same;
          allowed = m.reduces.makes.allowed;
          few_names = m.reduces.makes.few_names;
        };
      };
      is_told = is_told;
      names = names_of told x frames (m.ports ∙ ap (λ (b : Content). b.ports) same);
      stands = to_part told.equations x.bindings (subst (λ (E : Equations). StandsOver nodes (environment f) (whole f ++ E) new.bindings) equations m.stands);
    }
      where
        equations : m.first ∷ m.more ≡ told.equations
        equations = rest_same f.content.equations (m.first ∷ m.more) told.equations (sym m.equations ∙ ap (λ (b : Content). b.equations) same)

    module _ (goals : List (Name × Atom)) where
      pub joins_here : JoinsBy p l next f g x goals → JoinsGoal p l next f g new goals
      joins_here m = record {
        operator = m.operator;
        alternatives = m.alternatives;
        held = m.held;
        joined = m.joined;
        origin = m.origin;
        frames = frames_of (told_of m.joined) x m.names;
        ports = ports_of (told_of m.joined) x m.names;
        stands = from_part m.joined.equations x.bindings m.stands;
        body = m.body;
      }

      pub joins_from : (m : JoinsGoal p l next f g new goals) → ((old : List Name) → all_named old x.frames ≡ with_names m.joined.frames old) → JoinsBy p l next f g x goals
      joins_from m frames = record {
        operator = m.operator;
        alternatives = m.alternatives;
        held = m.held;
        joined = m.joined;
        origin = m.origin;
        names = names_of (told_of m.joined) x frames m.ports;
        stands = to_part m.joined.equations x.bindings m.stands;
        body = m.body;
      }
