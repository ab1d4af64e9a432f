-- A goal tells its box: what is added to the store that this has, with further frames and ports.
use Rattle.std.specs.Prelude.{slice_index}
use Rattle.std.proofs.Common.{◌≡◌, ℕ, List, [], ◌∷◌, ◌++◌, Bool, true, false, sym, ◌∙◌, ap, subst}
use Rattle.akl_terms.specs.declared.name.Name.{Name}
use Rattle.akl_terms.specs.declared.name.Var.{Var}
use Rattle.akl_terms.specs.declared.term.Term.{Term}
use Rattle.akl_terms.specs.declared.term.Equation as code
use Rattle.akl_terms.specs.Equal.{Equation, Equations, IsTold}
use Rattle.akl_terms.specs.Standing.{StandFor}
use Rattle.akl_terms.proofs.StandingLaws.{StandFor-back, StandFor-on}
use Rattle.akl_model.specs.declared.label.Rule.{Rule}
use Rattle.akl_model.specs.Config.{Content, with_names, without_goal, environment, whole}
use Rattle.akl_model.specs.Wakes.{names_around}
use Rattle.rational_unify.specs.Solving.{bindings_in, equations_in}
use Rattle.local_store.specs.declared.part.Part.{Part}
use Rattle.local_store.specs.Parts.{ToldStore, with_part}
use Rattle.local_store.specs.Stored.{Stored, all_named}
use Rattle.local_store.specs.Chained.{innermost, IsSolvedChain}
use Rattle.local_store.specs.Telling.{AnswersTold}
use Rattle.plan_laws.specs.Local.{Told, told_to}
use Rattle.table_laws.specs.Rows.{stores_along, store_in, told_in, ports_in}
use Rattle.table_laws.specs.Steps.{ReducesAtom, TellsGoal, IsSolvedIf}
use Rattle.table_laws.specs.Added.{added_of, with_added}
use Rattle.table_laws.specs.Telling.{IsToldFor, TellsBy}
use Rattle.table_laws.proofs.Here.{tells_from}
use Rattle.box_tree.specs.Tables.{all_rules, table_of}
use Rattle.box_tree.specs.Views.{ViewValue, IsViewOf, run_of}
use Rattle.box_tree.proofs.StoresAround.{stores_around}
use Rattle.rule_plan.specs.AtGoals.{label_at}
use Rattle.guard_plan.proofs.Sites.{found, environment_stands, whole_stands, own_here, own_frames, own_ports}
use Rattle.guard_plan.proofs.Chains.{same_solved}
use Rattle.rule_plan.proofs.Storing.{tells_stands, around_exchanged}

module _ (v : ViewValue) (i : IsViewOf v) (es : List code.Equation) (t : ToldStore) (a : AnswersTold v.table.program.templates.nodes v.stores v.known es t) where
  pub same_frames : t.store.frames ≡ i.site.content.frames
  same_frames = a.tells.frames ∙ own_frames v i

  pub same_ports : ports_in v.table.program.templates.nodes t.store.ports ≡ i.site.content.ports
  same_ports = ap (ports_in v.table.program.templates.nodes) a.tells.ports ∙ own_ports v i

  stands : (D : Equations) → StandFor (IsTold D) (IsTold (environment i.site))
      → StandFor (IsTold (D ++ bindings_in v.table.program.templates.nodes t.store.bindings)) (IsTold (whole i.site ++ equations_in v.table.program.templates.nodes es))
  stands D d = around_exchanged D (told_in v.table.program.templates.nodes (stores_along (table_of v.table) (names_around i.site))) (told_in v.table.program.templates.nodes v.stores) (whole i.site)
      (bindings_in v.table.program.templates.nodes t.store.bindings) (equations_in v.table.program.templates.nodes es) (StandFor-on d (StandFor-back (environment_stands v i))) (whole_stands v i)
      (subst (λ (ss : List Stored). StandFor (IsTold (told_in v.table.program.templates.nodes v.stores ++ equations_in v.table.program.templates.nodes es))
      (IsTold (told_in v.table.program.templates.nodes ss ++ bindings_in v.table.program.templates.nodes t.store.bindings))) (stores_around v i)
      (tells_stands v.table.program.templates.nodes v.stores v.known es t.store a.tells))

  -- a store with the same bindings
  module _ (new : Stored) (same : new.bindings ≡ t.store.bindings) where
    pub solved_if : (b : Bool) → t.solved ≡ b → IsSolvedIf b (table_of v.table) (names_around i.site) new
    solved_if false e = tt
    solved_if true e =
        let w : _ = a.is_solved.0 e in
        same_solved v.table.program.templates.nodes (stores_along (table_of v.table) (names_around i.site)) t.store new same
        (subst (λ (ss : List Stored). IsSolvedChain v.table.program.templates.nodes (ss ++ t.store ∷ [])) (stores_around v i) (a.tells.solved w.0 w.1))

    -- by what it is that adds it
    module _ (part : Part) (is : with_part (innermost v.stores) part ≡ new) where
      abbrev now : Stored
      now = with_added (store_in ((table_of v.table).box_of i.site.content.name)) (added_of part)

      is_now : now ≡ new
      is_now = ap (λ (s : Stored). with_part s part) (sym (own_here v i)) ∙ is

      abbrev tells_goal : (rule : Rule) (g : Name) (content : Content) (drawn : ℕ) → ReducesAtom v.table.program (label_at v rule) (slice_index i.table.config.next v.worker) i.site g content (without_goal g i.site.goals) drawn
          → (first : Equation) (more : Equations) → equations_in v.table.program.templates.nodes es ≡ first ∷ more → content.equations ≡ i.site.content.equations ++ first ∷ more
          → new.frames ≡ content.frames → ports_in v.table.program.templates.nodes new.ports ≡ content.ports → TellsGoal v.table.program (label_at v rule) (slice_index i.table.config.next v.worker) i.site g now
      tells_goal rule g content drawn reduces first more told equations frames ports = record {
        content = content;
        drawn = drawn;
        reduces = reduces;
        first = first;
        more = more;
        equations = equations;
        frames = ap (λ (s : Stored). s.frames) is_now ∙ frames;
        ports = ap (λ (s : Stored). ports_in v.table.program.templates.nodes s.ports) is_now ∙ ports;
        stands = λ D d. subst (λ (E : Equations). StandFor (IsTold (D ++ bindings_in v.table.program.templates.nodes now.bindings)) (IsTold (whole i.site ++ E))) told
            (subst (λ (l : List (Var × Term)). StandFor (IsTold (D ++ bindings_in v.table.program.templates.nodes l)) (IsTold (whole i.site ++ equations_in v.table.program.templates.nodes es))) (sym (ap (λ (s : Stored). s.bindings) is_now ∙ same)) (stands D d));
      }

      pub tells_by : (rule : Rule) (g : Name) (content : Content) (drawn : ℕ) (reduces : ReducesAtom v.table.program (label_at v rule) (slice_index i.table.config.next v.worker) i.site g content (without_goal g i.site.goals) drawn)
          → (first : Equation) (more : Equations) → equations_in v.table.program.templates.nodes es ≡ first ∷ more → content.equations ≡ i.site.content.equations ++ first ∷ more
          → new.frames ≡ content.frames → ports_in v.table.program.templates.nodes new.ports ≡ content.ports → (told : Told) → content ≡ told_to told i.site.content
          → IsToldFor v.table.program reduces.makes.reading v.worker (slice_index i.table.config.next v.worker) rule i.site.content.ports reduces.goal told
          → ((old : List Name) → all_named old part.frames.items ≡ with_names told.frames old) → TellsBy v.table.program (label_at v rule) (slice_index i.table.config.next v.worker) i.site g (added_of part)
      tells_by rule g content drawn reduces first more is_first equations frames ports told is_content is_told names =
          tells_from all_rules (run_of v.table v.journal) (table_of v.table) i.table i.site (found v i) (label_at v rule) g (added_of part)
          (tells_goal rule g content drawn reduces first more is_first equations frames ports) told is_content is_told names
