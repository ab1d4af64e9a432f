-- What the plan of a call at once adds to the store of its own table, and the store that this makes.
use Rattle.std.proofs.Common.{◌≡◌, ℕ, ◌+◌, List, ◌++◌, length, Some, sym, ◌∙◌, ap, subst, inl, inr, append_assoc}
use Rattle.std.specs.Prelude.{slice_index}
use Rattle.akl_terms.specs.declared.name.Name.{Name}
use Rattle.akl_terms.specs.declared.name.Var.{Var}
use Rattle.akl_terms.specs.declared.term.Node.{Node}
use Rattle.akl_terms.specs.declared.term.Term.{Term}
use Rattle.akl_terms.specs.Equal.{Equations}
use Rattle.akl_terms.proofs.EqualLaws.{IsTold-left, IsTold-right, IsTold-either}
use Rattle.akl_terms.proofs.StandingLaws.{StandFor-on}
use Rattle.constraint_laws.specs.StandingGrows.{AreToldIn}
use Rattle.constraint_laws.proofs.StandsGrow.{same_told_stands, stands_within}
use Rattle.akl_model.specs.declared.label.Rule.{Rule}
use Rattle.akl_model.specs.Config.{Atom, Found, environment, whole, box_at, with_names}
use Rattle.akl_model.specs.Instances.{drawn_by}
use Rattle.akl_model.specs.Rules.{joining}
use Rattle.rational_unify.specs.Solving.{bindings_in}
use Rattle.local_store.specs.Stored.{Stored, joins, all_named}
use Rattle.plan_laws.specs.AtOnce.{IsAtOnce}
use Rattle.plan_laws.proofs.BodySteps.{ToldMore, told_more}
use Rattle.table_laws.specs.Rows.{Table}
use Rattle.table_laws.specs.Stamped.{Run, IsTableOf}
use Rattle.table_laws.specs.Calls.{StandOver, CallsGoal}
use Rattle.table_laws.specs.Joins.{PartStands, told_of}
use Rattle.table_laws.specs.Added.{Added, with_added}
use Rattle.table_laws.specs.Calling.{CallsBy}
use Rattle.table_laws.specs.Planned.{store_of}
use Rattle.table_laws.proofs.Here.{from_part, to_part, frames_of, ports_of, names_of}

-- bindings that stand for a box's equations and more over those around it stand for what is more over all down to it
part_of : (nodes : List Node) (f : Found) (more : Equations) (bindings : List (Var × Term)) → StandOver nodes (environment f) (environment f ++ (f.content.equations ++ more)) bindings → PartStands nodes f more bindings
part_of nodes f more bindings h = record {
  stands = StandFor-on
      (stands_within (environment f) (bindings_in nodes bindings) (f.content.equations ++ more) (whole f) (record { each = λ s t m. IsTold-left (environment f) f.content.equations s t m })
      (h (environment f) (same_told_stands (environment f) (environment f) (record { each = λ s t m. m }) (record { each = λ s t m. m }))))
      (same_told_stands (whole f ++ (f.content.equations ++ more)) (whole f ++ more) once twice);
}
  where
    once : AreToldIn (whole f ++ (f.content.equations ++ more)) (whole f ++ more)
    once = record {
      each = λ s t m. elim (IsTold-either (whole f) (f.content.equations ++ more) s t m) [
        | inl x ↦ IsTold-left (whole f) more s t x
        | inr x ↦ elim (IsTold-either f.content.equations more s t x) [ inl z ↦ IsTold-left (whole f) more s t (IsTold-right (environment f) f.content.equations s t z) | inr z ↦ IsTold-right (whole f) more s t z ]
      ];
    }

    twice : AreToldIn (whole f ++ more) (whole f ++ (f.content.equations ++ more))
    twice = record {
      each = λ s t m. elim (IsTold-either (whole f) more s t m) [
        | inl x ↦ IsTold-left (whole f) (f.content.equations ++ more) s t x
        | inr x ↦ IsTold-right (whole f) (f.content.equations ++ more) s t (IsTold-right f.content.equations more s t x)
      ];
    }

module _ (rules : List Rule) (run : Run) (S : Table) (s : IsTableOf rules run S) (w : ℕ) (g : Name) (f : Found) (is : box_at f.content.name s.config.roots ≡ Some f) (call : IsAtOnce run.program s.config w g f)
    (alternative : Stored) (x : Added) (goals : List (Name × Atom)) where
  abbrev nodes : List Node
  nodes = run.program.templates.nodes

  abbrev own : Stored
  own = store_of S f.content.name

  over : (more : Equations) (part : List (Var × Term)) → PartStands nodes f more part → StandOver nodes (environment f) (whole f ++ more) (joins own.bindings part)
  over more part h = from_part rules run S s f is more part h

  -- the equations of the alternative behind those of the box
  grouped : (E : Equations) → whole f ++ (call.last.equations ++ E) ≡ environment f ++ ((f.content.equations ++ call.last.equations) ++ E)
  grouped E = append_assoc (environment f) f.content.equations (call.last.equations ++ E) ∙ ap (λ (F : Equations). environment f ++ F) (sym (append_assoc f.content.equations call.last.equations E))

  pub calls_here : CallsBy call alternative x goals → CallsGoal call alternative (with_added own x) goals
  calls_here m = record {
    alternative_frames = m.alternative_frames;
    alternative_ports = m.alternative_ports;
    alternative_stands = m.alternative_stands;
    between = λ E more is.
        let b : (bindings : List (Var × Term)) × PartStands nodes f (call.last.equations ++ E) bindings = m.between E more is in
        (joins own.bindings b.0, subst (λ (F : Equations). StandOver nodes (environment f) F (joins own.bindings b.0)) (grouped E) (over (call.last.equations ++ E) b.0 b.1));
    frames = frames_of rules run S s f is (told_of call.last) x m.names;
    ports = ports_of rules run S s f is (told_of call.last) x m.names;
    stands = subst (λ (F : Equations). StandOver nodes (environment f) F (joins own.bindings x.bindings))
        (append_assoc (environment f) f.content.equations m.told ∙ ap (λ (F : Equations). environment f ++ F) (sym m.is_told)) (over m.told x.bindings m.stands);
    body = m.body;
  }

  -- what a call adds to its box's equations
  body : ToldMore run.program w (slice_index s.config.next w + drawn_by call.called.clauses + length call.last.body) f.around (joining call.last f.content) call.after
  body = told_more run.program w (slice_index s.config.next w + drawn_by call.called.clauses + length call.last.body) f.around (joining call.last f.content) (slice_index s.config.next w + drawn_by call.called.clauses)
      call.last.body call.body_labels call.after call.goals_left call.body

  abbrev told : Equations
  told = call.last.equations ++ body.more

  is_told : call.after.equations ≡ f.content.equations ++ told
  is_told = body.equations ∙ append_assoc f.content.equations call.last.equations body.more

  pub calls_from : CallsGoal call alternative (with_added own x) goals → ((old : List Name) → all_named old x.frames ≡ with_names call.last.frames old) → CallsBy call alternative x goals
  calls_from m frames = record {
    alternative_frames = m.alternative_frames;
    alternative_ports = m.alternative_ports;
    alternative_stands = m.alternative_stands;
    between = λ E more is.
        let b : (bindings : List (Var × Term)) × StandOver nodes (environment f) (environment f ++ ((f.content.equations ++ call.last.equations) ++ E)) bindings = m.between E more is in
        (b.0, part_of nodes f (call.last.equations ++ E) b.0 (subst (λ (F : Equations). StandOver nodes (environment f) (environment f ++ F) b.0) (append_assoc f.content.equations call.last.equations E) b.1));
    told = told;
    is_told = is_told;
    names = names_of rules run S s f is (told_of call.last) x frames m.ports;
    stands = part_from;
    body = m.body;
  }
    where
      part_from : PartStands nodes f told x.bindings
      part_from = to_part rules run S s f is told x.bindings
          (subst (λ (F : Equations). StandOver nodes (environment f) F (joins own.bindings x.bindings))
          (ap (λ (F : Equations). environment f ++ F) is_told ∙ sym (append_assoc (environment f) f.content.equations told)) m.stands)
