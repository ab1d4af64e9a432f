-- What a label tells its box is told in a later table.
use Rattle.std.proofs.Common.{◌≡◌, ℕ, Bool, List, ◌∷◌, ◌++◌, Option, Some, None, refl, sym, ◌∙◌, ap, subst}
use Rattle.std.specs.Prelude.{◌↔◌, slice_index}
use Rattle.akl_terms.specs.declared.name.Name.{Name}
use Rattle.akl_terms.specs.declared.name.Var.{Var}
use Rattle.akl_terms.specs.declared.name.Place.{Place}
use Rattle.akl_terms.specs.declared.program.Program.{Program}
use Rattle.akl_terms.specs.declared.program.Query.{Query}
use Rattle.akl_terms.specs.Equal.{Equation, Equations, IsTold, IsConsistent}
use Rattle.akl_terms.specs.Standing.{StandFor}
use Rattle.akl_model.specs.declared.item.Item.{Item}
use Rattle.akl_model.specs.declared.label.Rule.{Rule}
use Rattle.akl_model.specs.declared.label.Label.{Label}
use Rattle.akl_model.specs.Config.{Atom, Config, Port, without_goal, an_atom, held_in, Found, whole}
use Rattle.akl_model.specs.Rules.{Reading, Change, becomes, change_by}
use Rattle.akl_model.specs.Conditions as conditions
use Rattle.akl_model.specs.Stable.{Allows}
use Rattle.akl_model.specs.Derivations.{Applies}
use Rattle.akl_model.proofs.Options.{some_value}
use Rattle.rational_unify.specs.Solving.{bindings_in}
use Rattle.local_store.specs.Stored.{Stored}
use Rattle.step_laws.specs.Bound.{AreBoundIn}
use Rattle.plan_laws.specs.Local.{Told, told_to}
use Rattle.plan_laws.specs.Right.{IsRightOn}
use Rattle.reading_laws.specs.Plans.{StaysRight}
use Rattle.reading_laws.specs.Seen.{ReadsAt, in_root, by_ends, inside, IsAtGoal}
use Rattle.table_laws.specs.Rows.{Table}
use Rattle.table_laws.specs.Steps.{tells, Makes, TellsGoal}
use Rattle.table_laws.specs.Added.{Added, with_added}
use Rattle.table_laws.specs.Planned.{GoesOnTo, Seen, LeadsOn, store_of}
use Rattle.table_laws.specs.Telling.{IsToldFor, TellsBy}
use Rattle.table_laws.proofs.PartsTold.{told_some, drawn_for, makes_told, names_none, allowed_later, one_change}
use Rattle.table_laws.proofs.PartsLater.{same_next, leads, grows, same_atom, row, new_frames, new_ports, new_stands, is_store, right, same_ports, clash_of}

-- each plan at a goal reads it
pub goal_seen : (U : Item → Type 0) (c : Config) (g : Name) (f : Found) (list : List Var) → ReadsAt U c g f list → U (Item.Goal g)
goal_seen U c g f list (in_root root goal store bindings) = goal
goal_seen U c g f list (by_ends u) = u.goal
goal_seen U c g f list (inside goal sets) = goal

-- the rules that tell something are rules at a goal
tells_at_goal : (p : Program) (v : Reading) (w next : ℕ) (r : Rule) (ports : List Port) (a : Atom) (told : Told) → IsToldFor p v w next r ports a told → IsAtGoal r
tells_at_goal p v w next Rule.Tell ports a told e = tt
tells_at_goal p v w next Rule.Eval ports a told e = tt
tells_at_goal p v w next Rule.Open ports a told e = tt
tells_at_goal p v w next Rule.Send ports a told e = tt
tells_at_goal p v w next _ ports a told e = absurd e

module _ (rules : List Rule) (p : Program) (q : Query) (journal further : List Label) (c : Config) (l : Label) (T : Table) (y : GoesOnTo rules p q journal further c l T) (e : Config) (a : Applies rules p c l e)
    (g : Name) (place : l.place ≡ Place.Goal g) (list : List Var) (u : ReadsAt (Seen rules p q journal further) c g a.site list)
    (x : Added) (m : TellsBy p l (slice_index c.next l.worker) a.site g x) (stays : StaysRight a y.table.config list) where
  abbrev w : ℕ
  w = l.worker

  abbrev next : ℕ
  next = slice_index c.next l.worker

  abbrev v : Reading
  v = m.reduces.makes.reading

  abbrev atom : Atom
  atom = m.reduces.goal

  abbrev r : IsRightOn a y.table.config
  r = stays.still.right

  abbrev now : Found
  now = r.applies.site

  -- the label at the goal without an alternative
  abbrev ChangeAt : Reading → ℕ → Option Name → Found → Change → Type 0
  ChangeAt v n o f ch = change_by p v w n l.rule (Place.Goal g) o f ≡ Some ch

  planned_change : ChangeAt v next l.alternative a.site (becomes (told_to m.told a.site.content) (without_goal g a.site.goals) m.drawn)
  planned_change = subst (λ (z : Place). change_by p v w next l.rule z l.alternative a.site ≡ Some (becomes (told_to m.told a.site.content) (without_goal g a.site.goals) m.drawn)) place m.reduces.makes.change

  none : l.alternative ≡ None
  none = names_none p v w next l.rule a.site.content.ports atom m.told m.is_told g l.alternative a.site _ planned_change

  allowed_at : (v : Reading) (f : Found) → Allows p v l.rule l.place l.alternative f → Allows p v l.rule (Place.Goal g) None f
  allowed_at v f h = subst (λ (o : Option Name). Allows p v l.rule (Place.Goal g) o f) none (subst (λ (z : Place). Allows p v l.rule z l.alternative f) place h)

  -- what it makes where it was planned
  change_here : a.change ≡ becomes (told_to m.told a.site.content) (without_goal g a.site.goals) (drawn_for l.rule)
  change_here = some_value (sym was ∙ sym (one_change p a.site v a.makes.reading w next l.rule g a.site.content.ports atom m.told m.is_told (allowed_at v a.site m.reduces.makes.allowed) (allowed_at a.makes.reading a.site a.makes.allowed))
      ∙ makes_told p v w next l.rule g a.site atom m.told m.reduces.held m.is_told)
    where
      was : ChangeAt a.makes.reading next None a.site a.change
      was = subst (λ (o : Option Name). ChangeAt a.makes.reading next o a.site a.change) none (subst (λ (z : Place). change_by p a.makes.reading w next l.rule z l.alternative a.site ≡ Some a.change) place a.makes.change)

  clash : IsConsistent (whole a.site ++ m.told.equations) ↔ IsConsistent (whole now ++ m.told.equations)
  clash = clash_of rules p q journal further c l T y e a list stays m.told.equations (told_to m.told a.site.content) (without_goal g a.site.goals) (ap (λ (ch : Change). ch.boxes) change_here) refl

  -- and in the later box
  held : held_in g now.goals ≡ Some (an_atom atom)
  held = same_atom rules p q journal further c l T y e a r g place (goal_seen (Seen rules p q journal further) c g a.site list u) atom m.reduces.held

  ports : now.content.ports ≡ a.site.content.ports
  ports = same_ports rules p q journal further c l T y e a g list u r

  next_now : slice_index y.table.config.next l.worker ≡ next
  next_now = same_next rules p q journal further c l T y

  change_now : ChangeAt v next None now (becomes (told_to m.told now.content) (without_goal g now.goals) (drawn_for l.rule))
  change_now = makes_told p v w next l.rule g now atom m.told held (subst (λ (ps : List Port). IsToldFor p v w next l.rule ps atom m.told) (sym ports) m.is_told)

  drawn : m.drawn ≡ drawn_for l.rule
  drawn = ap (λ (ch : Change). ch.drawn) (some_value (sym (subst (λ (o : Option Name). ChangeAt v next o a.site (becomes (told_to m.told a.site.content) (without_goal g a.site.goals) m.drawn)) none planned_change)
      ∙ makes_told p v w next l.rule g a.site atom m.told m.reduces.held m.is_told))

  makes_now : conditions.Makes (Allows p) p (slice_index y.table.config.next l.worker) l now (becomes (told_to m.told now.content) (without_goal g now.goals) m.drawn)
  makes_now = record {
    reading = v;
    change = subst (λ (n : ℕ). change_by p v w n l.rule l.place l.alternative now ≡ Some (becomes (told_to m.told now.content) (without_goal g now.goals) m.drawn)) (sym next_now)
        (subst (λ (z : Place). change_by p v w next l.rule z l.alternative now ≡ Some (becomes (told_to m.told now.content) (without_goal g now.goals) m.drawn)) (sym place)
        (subst (λ (o : Option Name). ChangeAt v next o now (becomes (told_to m.told now.content) (without_goal g now.goals) m.drawn)) (sym none)
        (change_now ∙ ap (λ (n : ℕ). Some (becomes (told_to m.told now.content) (without_goal g now.goals) n)) (sym drawn))));
    allowed = subst (λ (z : Place). Allows p v l.rule z l.alternative now) (sym place) (subst (λ (o : Option Name). Allows p v l.rule (Place.Goal g) o now) (sym none)
        (allowed_later p w next g a.site now atom m.reduces.held held (grows rules p q journal further c l T y e a r) v r.applies.makes.reading l.rule a.site.content.ports m.told m.is_told
        (allowed_at v a.site m.reduces.makes.allowed) (allowed_at r.applies.makes.reading now r.applies.makes.allowed)));
    few_names = m.reduces.makes.few_names;
  }

  some : (first : Equation) × (more : Equations) × (m.told.equations ≡ first ∷ more)
  some = told_some p v w next l.rule a.site.content.ports atom m.told m.is_told

  abbrev new : Stored
  new = with_added (row rules p q journal further c l T y e a r).0.store x

  tells_goal : TellsGoal p l (slice_index y.table.config.next l.worker) now g new
  tells_goal = record {
    content = told_to m.told now.content;
    drawn = m.drawn;
    reduces = record { goal = atom; held = held; makes = makes_now };
    first = some.0;
    more = some.1;
    equations = ap (λ (E : Equations). now.content.equations ++ E) some.2;
    frames = new_frames rules p q journal further c l T y e a r m.told x m.names m.stands ports;
    ports = new_ports rules p q journal further c l T y e a r m.told x m.names m.stands ports;
    stands = λ D h. subst (λ (E : Equations). StandFor (IsTold (D ++ bindings_in p.templates.nodes new.bindings)) (IsTold (whole now ++ E))) some.2
        (new_stands rules p q journal further c l T y e a r m.told x m.names m.stands ports D h);
  }

  pub tells_right : (k : LeadsOn a y.table.config list) × (IsConsistent (whole a.site ++ m.told.equations) ↔ IsConsistent (whole k.applies.site ++ m.told.equations))
      × ((solved : Bool) → Makes p l (slice_index y.table.config.next l.worker) k.applies.site (tells (with_added (store_of T a.site.content.name) x) solved))
  tells_right = (
    leads rules p q journal further c l T y e a r list (stays.binds r.result r.applies),
    clash,
    λ solved. (g, place, subst (λ (s : Stored). TellsGoal p l (slice_index y.table.config.next l.worker) now g (with_added s x)) (sym (is_store rules p q journal further c l T y e a r)) tells_goal),
  )

module _ (rules : List Rule) (p : Program) (q : Query) (journal further : List Label) (c : Config) (l : Label) (T : Table) (y : GoesOnTo rules p q journal further c l T) (e : Config) (a : Applies rules p c l e)
    (g : Name) (place : l.place ≡ Place.Goal g) (list : List Var) (bound : AreBoundIn c e a.site list) (u : ReadsAt (Seen rules p q journal further) c g a.site list)
    (x : Added) (m : TellsBy p l (slice_index c.next l.worker) a.site g x) where
  kind : IsAtGoal l.rule
  kind = tells_at_goal p m.reduces.makes.reading l.worker (slice_index c.next l.worker) l.rule a.site.content.ports m.reduces.goal m.told m.is_told

  pub tells_later : (k : LeadsOn a y.table.config list) × (IsConsistent (whole a.site ++ m.told.equations) ↔ IsConsistent (whole k.applies.site ++ m.told.equations))
      × ((solved : Bool) → Makes p l (slice_index y.table.config.next l.worker) k.applies.site (tells (with_added (store_of T a.site.content.name) x) solved))
  tells_later = tells_right rules p q journal further c l T y e a g place list u x m (right rules p q journal further c l T y e a g list u kind place bound)
