-- What joins a box joins it in a later table.
use Rattle.std.proofs.Common.{◌≡◌, ℕ, Bool, List, [], ◌∷◌, ◌++◌, Some, refl, sym, ◌∙◌, ap, subst, inl, inr}
use Rattle.std.specs.Prelude.{◌↔◌, slice_index, option_map}
use Rattle.akl_terms.specs.declared.name.Name.{Name}
use Rattle.akl_terms.specs.declared.name.Var.{Var}
use Rattle.akl_terms.specs.declared.name.Place.{Place}
use Rattle.akl_terms.specs.declared.program.Program.{Program}
use Rattle.akl_terms.specs.declared.program.Query.{Query}
use Rattle.akl_terms.specs.Equal.{IsConsistent}
use Rattle.akl_model.specs.declared.label.Rule.{Rule}
use Rattle.akl_model.specs.declared.label.Label.{Label}
use Rattle.akl_model.specs.Config.{Atom, Boxes, a_choice, held_in, Config, Found, whole}
use Rattle.akl_model.specs.Changes.{box_names, shape_of}
use Rattle.akl_model.specs.Rules.{joining, gathered}
use Rattle.akl_model.specs.Derivations.{Applies}
use Rattle.akl_model.proofs.Gathered.{AllSolved, gathered_solved}
use Rattle.akl_model.proofs.NamesKept.{Stand, replay-stands, derived-stands}
use Rattle.local_store.specs.Stored.{Stored}
use Rattle.step_laws.specs.Bound.{AreBoundIn}
use Rattle.step_laws.proofs.Stays.{choice_shape}
use Rattle.step_laws.proofs.Steps.{Later, later}
use Rattle.step_laws.proofs.Whereabouts.{home_in}
use Rattle.plan_laws.specs.Right.{IsRightOn}
use Rattle.plan_laws.proofs.AllSolved.{each_stands, all_stay}
use Rattle.reading_laws.specs.Plans.{StaysRight}
use Rattle.reading_laws.specs.Seen.{ReadsAt, IsAtGoal}
use Rattle.table_laws.specs.Rows.{Table}
use Rattle.table_laws.specs.Steps.{joins, numbered, JoinsGoal, Makes}
use Rattle.table_laws.specs.Joins.{told_of}
use Rattle.table_laws.specs.Added.{Added, with_added}
use Rattle.table_laws.specs.Joining.{JoinsBy}
use Rattle.table_laws.specs.Planned.{GoesOnTo, Seen, LeadsOn, store_of}
use Rattle.table_laws.proofs.PartsLater.{same_next, leads, home_before, home_now, same_shape, row, new_frames, new_ports, new_stands, is_store, right, same_ports, clash_of}
use Rattle.table_laws.proofs.PartsJoined.{Joins, joins_change}
use Rattle.table_laws.proofs.TellsLater.{goal_seen}

module _ (rules : List Rule) (p : Program) (q : Query) (journal further : List Label) (c : Config) (l : Label) (T : Table) (y : GoesOnTo rules p q journal further c l T) (e : Config) (a : Applies rules p c l e)
    (g : Name) (place : l.place ≡ Place.Goal g) (list : List Var) (u : ReadsAt (Seen rules p q journal further) c g a.site list)
    (x : Added) (goals : List (Name × Atom)) (m : JoinsBy p l (slice_index c.next l.worker) a.site g x goals) (stays : StaysRight a y.table.config list) where
  abbrev w : ℕ
  w = l.worker

  abbrev next : ℕ
  next = slice_index c.next l.worker

  abbrev r : IsRightOn a y.table.config
  r = stays.still.right

  abbrev now : Found
  now = r.applies.site

  made_here : Joins m.joined a.site a.change
  made_here = joins_change p a.makes.reading next l g a.site m.operator m.alternatives m.joined a.change place m.held m.origin a.makes.change

  clash : IsConsistent (whole a.site ++ m.joined.equations) ↔ IsConsistent (whole now ++ m.joined.equations)
  clash = clash_of rules p q journal further c l T y e a list stays m.joined.equations (joining m.joined a.site.content) made_here.0 made_here.1 refl

  ports : now.content.ports ≡ a.site.content.ports
  ports = same_ports rules p q journal further c l T y e a g list u r

  next_now : slice_index y.table.config.next l.worker ≡ next
  next_now = same_next rules p q journal further c l T y

  -- the alternatives have no goals, so they are what they were
  s : Stand c
  s = replay-stands rules p q journal c y.replays

  z : Later c y.table.config
  z = later rules p c y.table.config further s y.derives

  there : (cs : Boxes) × (held_in g now.goals ≡ Some (a_choice m.operator cs)) × (box_names m.alternatives ≡ box_names cs)
  there = choice_shape m.operator m.alternatives (held_in g now.goals)
      (sym (ap (option_map shape_of) m.held) ∙ same_shape rules p q journal further c l T y e a r g place (goal_seen (Seen rules p q journal further) c g a.site list u))

  solved : AllSolved m.alternatives
  solved = elim m.origin [
    | inl v ↦ subst AllSolved (sym v.only) (refl, tt)
    | inr v ↦ gathered_solved p l.worker next a.site.content.name v.result m.alternatives m.joined v.is_content
  ]

  stay : m.alternatives ≡ there.0
  stay = all_stay c y.table.config s (derived-stands rules p c y.table.config further s y.derives) z (a.site.around ++ a.site.content ∷ []) (now.around ++ now.content ∷ []) m.alternatives there.0 there.2 solved
      (each_stands g m.operator m.alternatives c.roots a.site (home_in g c.roots a.site (home_before rules p q journal further c l T y e a r g place)).0 m.held)
      (each_stands g m.operator there.0 y.table.config.roots now (home_in g y.table.config.roots now (home_now rules p q journal further c l T y e a r g place)).0 there.1)

  abbrev new : Stored
  new = with_added (row rules p q journal further c l T y e a r).0.store x

  joins_goal : JoinsGoal p l (slice_index y.table.config.next l.worker) now g new goals
  joins_goal = record {
    operator = m.operator;
    alternatives = m.alternatives;
    held = there.1 ∙ ap (λ (cs : Boxes). Some (a_choice m.operator cs)) (sym stay);
    joined = m.joined;
    origin = elim m.origin [
      | inl v ↦ inl v
      | inr v ↦ inr (record {
        rule = v.rule;
        alternative = v.alternative;
        result = v.result;
        collects = v.collects;
        is_content = (λ j. gathered p l.worker (next_now j) (sym r.same_site j) v.result m.alternatives) ∙ v.is_content;
      })
    ];
    frames = new_frames rules p q journal further c l T y e a r (told_of m.joined) x m.names m.stands ports;
    ports = new_ports rules p q journal further c l T y e a r (told_of m.joined) x m.names m.stands ports;
    stands = λ D h. new_stands rules p q journal further c l T y e a r (told_of m.joined) x m.names m.stands ports D h;
    body = m.body ∙ ap (λ (k : ℕ). numbered l.worker k m.joined.body) (sym next_now);
  }

  pub joins_right : (k : LeadsOn a y.table.config list) × (IsConsistent (whole a.site ++ m.joined.equations) ↔ IsConsistent (whole k.applies.site ++ m.joined.equations))
      × ((solved : Bool) → Makes p l (slice_index y.table.config.next l.worker) k.applies.site (joins (with_added (store_of T a.site.content.name) x) solved goals))
  joins_right = (
    leads rules p q journal further c l T y e a r list (stays.binds r.result r.applies),
    clash,
    λ solved. (g, place, subst (λ (s : Stored). JoinsGoal p l (slice_index y.table.config.next l.worker) now g (with_added s x) goals) (sym (is_store rules p q journal further c l T y e a r)) joins_goal),
  )

module _ (rules : List Rule) (p : Program) (q : Query) (journal further : List Label) (c : Config) (l : Label) (T : Table) (y : GoesOnTo rules p q journal further c l T) (e : Config) (a : Applies rules p c l e)
    (g : Name) (place : l.place ≡ Place.Goal g) (list : List Var) (bound : AreBoundIn c e a.site list) (u : ReadsAt (Seen rules p q journal further) c g a.site list)
    (x : Added) (goals : List (Name × Atom)) (m : JoinsBy p l (slice_index c.next l.worker) a.site g x goals) where
  kind : IsAtGoal l.rule
  kind = elim m.origin [ inl z ↦ subst IsAtGoal (sym z.rule) tt | inr z ↦ subst IsAtGoal (sym z.rule) tt ]

  pub joins_later : (k : LeadsOn a y.table.config list) × (IsConsistent (whole a.site ++ m.joined.equations) ↔ IsConsistent (whole k.applies.site ++ m.joined.equations))
      × ((solved : Bool) → Makes p l (slice_index y.table.config.next l.worker) k.applies.site (joins (with_added (store_of T a.site.content.name) x) solved goals))
  joins_later = joins_right rules p q journal further c l T y e a g place list u x goals m (right rules p q journal further c l T y e a g list u kind place bound)
