-- A plan of Send is right.
use Rattle.std.proofs.Common.{◌≡◌, ℕ, ◌+◌, List, [], ◌∷◌, ◌++◌, true, false, Some, None, refl, sym, ◌∙◌, ap, subst, arith, append_assoc}
use Rattle.std.specs.Prelude.{slice_index, is_some}
use Rattle.std.specs.Map.{lookup}
use Rattle.akl_terms.specs.declared.name.Name.{Name}
use Rattle.akl_terms.specs.declared.name.Var.{Var}
use Rattle.akl_terms.specs.declared.name.Place.{Place}
use Rattle.akl_terms.specs.declared.term.Node.{Node}
use Rattle.akl_terms.specs.declared.term.Term.{Term}
use Rattle.akl_terms.specs.declared.term.Term.TheVariants.{Mol}
use Rattle.akl_terms.specs.declared.term.Equation as code
use Rattle.akl_terms.specs.declared.program.Code.{Code}
use Rattle.akl_terms.specs.Equal.{Equations, IsTold, EqualBy, IsConsistentBy}
use Rattle.akl_terms.specs.Names.{same_name}
use Rattle.akl_terms.specs.Solved.{IsUnstructured}
use Rattle.akl_terms.specs.Standing.{StandFor}
use Rattle.akl_terms.specs.Template.{tree}
use Rattle.akl_terms.specs.Tree.{Tree, port, port_head}
use Rattle.akl_terms.proofs.StandingLaws.{StandFor-back, StandFor-on}
use Rattle.constraint_laws.specs.Standing.{StandsForConsistent}
use Rattle.constraint_laws.proofs.Stands.{port_stands}
use Rattle.constraint_laws.proofs.Values.{port_one}
use Rattle.akl_model.specs.declared.label.Rule.{Rule}
use Rattle.akl_model.specs.Config.{Atom, Content, Port, an_atom, held_in, without_goal, with_name, with_tail, port_in, whole}
use Rattle.akl_model.specs.Instances.{term_at}
use Rattle.akl_model.specs.Ordered.{IsIncreasing}
use Rattle.akl_model.specs.Renaming.{port_names}
use Rattle.akl_model.specs.Rules.{receiver, Change, becomes, telling, send_to, send_by, change_by}
use Rattle.akl_model.specs.Conditions as conditions
use Rattle.akl_model.specs.Conditions.{GoesTo}
use Rattle.akl_model.specs.Stable.{Allows}
use Rattle.akl_model.proofs.OrdersKept.{replay_ordered}
use Rattle.step_laws.proofs.Whereabouts.{found_in}
use Rattle.rational_unify.specs.Solving.{bindings_in}
use Rattle.local_store.specs.declared.part.Part.{Part}
use Rattle.local_store.specs.Parts.{ToldStore, with_part}
use Rattle.local_store.specs.Stored.{Stored, named, all_named}
use Rattle.local_store.specs.Chained.{bindings_from, ToldBy, innermost}
use Rattle.local_store.specs.Telling.{AnswersTold}
use Rattle.plan_laws.specs.Local.{Told}
use Rattle.port_goals.specs.Sends.{IsNoPort}
use Rattle.table_laws.specs.Rows.{ports_in}
use Rattle.class_members.specs.Members.{AreMembers}
use Rattle.box_tree.specs.declared.step.Step.{Step}
use Rattle.box_tree.specs.declared.view.Sight.{Sight}
use Rattle.box_tree.specs.Tables.{all_rules}
use Rattle.box_tree.specs.Views.{ViewValue, IsViewOf}
use Rattle.table_laws.specs.Telling.{sends_to}
use Rattle.rule_plan.specs.AtGoals.{label_at, IsRightAt}
use Rattle.guard_plan.specs.Planned.{HasNoRule}
use Rattle.rule_plan.specs.Solving.{ResolvesAll, GoesToPort}
use Rattle.rule_plan.specs.Sent.{list_equations, with_new_tail}
use Rattle.guard_plan.proofs.Sites.{found, whole_stands, shows_at, own_ports}
use Rattle.table_laws.proofs.StoreChains.{told_stands}
use Rattle.rule_plan.proofs.InForce.{send_in_force}
use Rattle.rule_plan.proofs.AtomNone.{atom_none}
use Rattle.guard_plan.proofs.Names.{named_with}
use Rattle.rule_plan.proofs.FramesAndPorts.{found_port, has_port, port_set, ports_ordered}
use Rattle.rule_plan.proofs.GoalRight.{told_right, tells_bound}
use Rattle.rule_plan.proofs.OpenRight.{next_name}
use Rattle.rule_plan.proofs.ToldGoals.{same_frames, same_ports, solved_if, tells_by}

module _ (v : ViewValue) (i : IsViewOf v) (g frame : Name) (m r : ℕ) (p : v.place ≡ Place.Goal g) (s : v.sight ≡ Sight.Atom (record { code = Code.Send m r; frame = frame })) where
  abbrev message : Tree
  message = term_at v.table.program.templates.nodes frame m

  abbrev at : Tree
  at = term_at v.table.program.templates.nodes frame r

  held : held_in g i.site.goals ≡ Some (an_atom (Atom.send message at))
  held = shows_at v i (Place.Goal g) (Sight.Atom (record { code = Code.Send m r; frame = frame })) p s

  all_stand : StandFor (ToldBy v.table.program.templates.nodes v.stores) (IsTold (whole i.site))
  all_stand = StandFor-on (told_stands v.table.program.templates.nodes v.stores) (whole_stands v i)

  -- where the stores clash, Send doesn't apply
  pub clash_none : (IsConsistentBy (ToldBy v.table.program.templates.nodes v.stores) → ⊥) → HasNoRule v
  clash_none bad = atom_none v i g (Atom.send message at) p held (λ q k c e h. bad (all_stand.back c))

  -- by the stores that were solved
  module _ (consistent : IsConsistentBy (ToldBy v.table.program.templates.nodes v.stores)) (ss : List Stored) (all : ResolvesAll v.table.program.templates.nodes v.stores ss) where
    abbrev stored : Equations
    stored = bindings_in v.table.program.templates.nodes (bindings_from ss)

    stand : StandFor (IsTold stored) (IsTold (whole i.site))
    stand = StandFor-on (StandFor-back all.stands) all_stand

    by_stores : StandsForConsistent stored (whole i.site)
    by_stores = record { stands = stand; consistent = all.stands.to consistent }

    by_box : StandsForConsistent (whole i.site) stored
    by_box = record { stands = StandFor-back stand; consistent = all_stand.to consistent }

    pub owned : (q : Name) → EqualBy (ToldBy v.table.program.templates.nodes ss) at (port q) → is_some (lookup (same_name q) (innermost ss).ports) ≡ true → GoesToPort v frame r q
    owned q e h = record {
      seen = i;
      consistent = all_stand.to consistent;
      equal = port_stands stored (whole i.site) by_stores at q e;
      owned = subst (λ (ps : List (Name × Term)). is_some (lookup (same_name q) ps) ≡ true) all.ports h;
    }

    pub elsewhere_none : (q : Name) → EqualBy (ToldBy v.table.program.templates.nodes ss) at (port q) → is_some (lookup (same_name q) (innermost ss).ports) ≡ false → HasNoRule v
    elsewhere_none q e h = atom_none v i g (Atom.send message at) p held (λ o k c x y.
        let z : q ≡ o = port_one (whole i.site) c (port_stands stored (whole i.site) by_stores at q e) x in
        let w : is_some (lookup (same_name o) (innermost v.stores).ports) ≡ true =
        has_port v.table.program.templates.nodes (innermost v.stores).ports o k (ap (port_in o) (own_ports v i) ∙ y) in
        let n : is_some (lookup (same_name o) (innermost v.stores).ports) ≡ false =
        subst (λ (u : Name). is_some (lookup (same_name u) (innermost v.stores).ports) ≡ false) z (subst (λ (ps : List (Name × Term)). is_some (lookup (same_name q) ps) ≡ false) all.ports h) in
        cc)

    pub waits_none : IsUnstructured (ToldBy v.table.program.templates.nodes ss) at → HasNoRule v
    waits_none u = atom_none v i g (Atom.send message at) p held (λ o k c x y. u (port o) (port_head o) (port_stands (whole i.site) stored by_box at o x) refl)

    pub no_port_none : IsNoPort (ToldBy v.table.program.templates.nodes ss) at → HasNoRule v
    no_port_none n = atom_none v i g (Atom.send message at) p held (λ o k c x y. n.none o (port_stands (whole i.site) stored by_box at o x))

-- the tail becomes a list of the message and the new tail, under a new frame
abbrev pub sent_equations : ViewValue → Name → ℕ → Term → List code.Equation
sent_equations v frame m tail = list_equations v.table.program.cell (next_name v) tail frame m

abbrev pub sent_store : ViewValue → Stored → Name → Stored
sent_store v s q = with_new_tail v.table.program.cell (next_name v) q s

module _ (v : ViewValue) (g frame : Name) (m r : ℕ) (q : Name) (goes : GoesToPort v frame r q) (p : v.place ≡ Place.Goal g) (s : v.sight ≡ Sight.Atom (record { code = Code.Send m r; frame = frame }))
    (tail : Term) (has : lookup (same_name q) (innermost v.stores).ports ≡ Some tail)
    (t : ToldStore) (a : AnswersTold v.table.program.templates.nodes v.stores v.known (sent_equations v frame m tail) t) where
  abbrev i : IsViewOf v
  i = goes.seen

  abbrev nodes : List Node
  nodes = v.table.program.templates.nodes

  abbrev cell : ℕ → Tree
  cell n = term_at v.table.program.templates.nodes (next_name v) n

  abbrev content : Content
  content = record (telling (cell v.table.program.cell) (term_at v.table.program.templates.nodes frame m) (telling (tree v.table.program.templates.nodes tail) (cell (v.table.program.cell + 2)) i.site.content)) {
    frames = with_name (next_name v) i.site.content.frames;
    ports = with_tail q (cell (v.table.program.cell + 1)) i.site.content.ports;
  }

  abbrev change : Change
  change = becomes content (without_goal g i.site.goals) 1

  there : port_in q i.site.content.ports ≡ Some (record { name = q; tail = tree v.table.program.templates.nodes tail })
  there = sym (ap (port_in q) (own_ports v i)) ∙ found_port v.table.program.templates.nodes (innermost v.stores).ports q tail has

  sends : (n : ℕ) → v.next ≡ n → send_by v.table.program v.worker n (receiver q) g i.site (held_in g i.site.goals) ≡ Some change
  sends n e = ap (send_by v.table.program v.worker n (receiver q) g i.site) (held v i g frame m r p s)
      ∙ ap (send_to v.table.program v.worker n g (term_at v.table.program.templates.nodes frame m) i.site) there
      ∙ subst (λ (k : ℕ). send_to v.table.program v.worker k g (term_at v.table.program.templates.nodes frame m) i.site (Some (record { name = q; tail = tree v.table.program.templates.nodes tail })) ≡ Some change) e refl

  abbrev makes : conditions.Makes (Allows v.table.program) v.table.program (slice_index i.table.config.next v.worker) (label_at v Rule.Send) i.site change
  makes = record {
    reading = receiver q;
    change = subst (λ (u : Place). change_by v.table.program (receiver q) v.worker (slice_index i.table.config.next v.worker) Rule.Send u None i.site ≡ Some change) (sym p)
        (sends (slice_index i.table.config.next v.worker) i.next);
    allowed = subst (λ (u : Place). Allows v.table.program (receiver q) Rule.Send u None i.site) (sym p)
        (subst (GoesTo (receiver q) i.site) (sym (held v i g frame m r p s)) (goes.consistent, goes.equal));
    few_names = omega arith;
  }

  frames : (sent_store v t.store q).frames ≡ content.frames
  frames = named_with t.store.frames (next_name v) ∙ ap (with_name (next_name v)) (same_frames v i (sent_equations v frame m tail) t a)

  increasing : IsIncreasing (port_names i.site.content.ports)
  increasing = ports_ordered i.site.around i.site.content i.site.goals i.table.config.roots (found_in i.site.content.name i.table.config.roots i.site (found v i))
      (replay_ordered all_rules v.table.program v.table.query v.journal i.table.config i.table.replays)

  old : ports_in v.table.program.templates.nodes t.store.ports ≡ i.site.content.ports
  old = same_ports v i (sent_equations v frame m tail) t a

  ports : ports_in v.table.program.templates.nodes (sent_store v t.store q).ports ≡ content.ports
  ports = port_set v.table.program.templates.nodes t.store.ports q (Mol (v.table.program.cell + 1) (next_name v))
      (subst (λ (ps : List Port). IsIncreasing (port_names ps)) (sym old) increasing)
      (subst (λ (ps : List (Name × Term)). is_some (lookup (same_name q) ps) ≡ true) (sym a.tells.ports) goes.owned)
      ∙ ap (with_tail q (cell (v.table.program.cell + 1))) old

  -- the port, and what is told
  abbrev receives : Port
  receives = record { name = q; tail = tree v.table.program.templates.nodes tail }

  abbrev told : Told
  told = sends_to v.table.program (next_name v) (term_at v.table.program.templates.nodes frame m) receives

  equations : content.equations ≡ i.site.content.equations ++ told.equations
  equations = append_assoc i.site.content.equations (record { left = tree v.table.program.templates.nodes tail; right = cell (v.table.program.cell + 2) } ∷ [])
      (record { left = cell v.table.program.cell; right = term_at v.table.program.templates.nodes frame m } ∷ [])

  is_told : (receiver_port : Port) × (port_in q i.site.content.ports ≡ Some receiver_port)
      × (told ≡ sends_to v.table.program (record { worker = v.worker; number = slice_index i.table.config.next v.worker }) (term_at v.table.program.templates.nodes frame m) receiver_port)
  is_told = (receives, there, ap (λ (n : ℕ). sends_to v.table.program (record { worker = v.worker; number = n }) (term_at v.table.program.templates.nodes frame m) receives) i.next)

  pub send_right : (part : Part) → with_part (innermost v.stores) part ≡ sent_store v t.store q → ((old : List Name) → all_named old part.frames.items ≡ named old (next_name v))
      → (binds : List Var) → AreMembers v.table.program.templates.nodes v.stores t.bound binds → IsRightAt v Rule.Send g 1 (Step.Tell part t.solved) binds
  send_right part is names binds b = told_right v i g Rule.Send send_in_force change makes p part (sent_store v t.store q) t.solved is
      (tells_by v i (sent_equations v frame m tail) t a (sent_store v t.store q) refl part is Rule.Send g content 1
      (record { goal = Atom.send (term_at v.table.program.templates.nodes frame m) (term_at v.table.program.templates.nodes frame r); held = held v i g frame m r p s; makes = makes })
      (record { left = tree v.table.program.templates.nodes tail; right = cell (v.table.program.cell + 2) })
      (record { left = cell v.table.program.cell; right = term_at v.table.program.templates.nodes frame m } ∷ []) refl equations frames ports told
      (ap (λ (E : Equations). record content { equations = E }) equations) is_told (λ old. names old ∙ named_with old (next_name v)))
      (solved_if v i (sent_equations v frame m tail) t a (sent_store v t.store q) refl t.solved refl)
      binds (tells_bound v i g Rule.Send send_in_force change makes content (without_goal g i.site.goals) refl (sent_equations v frame m tail) t a equations binds b)
