-- A plan of Fork is right.
use Rattle.std.proofs.Common.{◌≡◌, ℕ, ◌<◌, ◌≤◌, ◌^◌, List, [], ◌∷◌, map, Option, Some, None, refl, sym, ◌∙◌, ap, subst, inl, inr}
use Rattle.std.specs.Prelude.{IsSome, option_map, slice_get, slice_index}
use Rattle.akl_terms.specs.declared.name.Name.{Name}
use Rattle.akl_terms.specs.declared.name.Place.{Place}
use Rattle.akl_terms.specs.declared.term.Node.{Node}
use Rattle.akl_terms.specs.declared.program.Definition.{Definition}
use Rattle.akl_terms.specs.Tree.{Tree}
use Rattle.akl_model.specs.declared.item.Item.{Item}
use Rattle.akl_model.specs.declared.label.Rule.{Rule}
use Rattle.akl_model.specs.declared.label.Label.{Label}
use Rattle.akl_model.specs.Config.{Atom, Operator, no_boxes, an_atom, a_choice, held_in, with_content, whole}
use Rattle.akl_model.specs.Instances.{term_at, terms_from, atom_of, instances, drawn_by}
use Rattle.akl_model.specs.Rules.{nothing, Change, becomes, operator_of, fork, fork_by, fork_as, change_by}
use Rattle.akl_model.specs.Conditions.{Makes}
use Rattle.akl_model.specs.Stable.{Allows}
use Rattle.akl_model.specs.Derivations.{Applies, after}
use Rattle.akl_model.specs.Wakes.{names_down_to}
use Rattle.local_store.specs.Stored.{Stored}
use Rattle.local_store.specs.Chained.{innermost}
use Rattle.table_laws.specs.Stamped.{stamp_in}
use Rattle.table_laws.specs.Steps as laws
use Rattle.table_laws.specs.Steps.{ForksGoal, IsSolvedIn, AreNewBoxes, AreSolvedIf}
use Rattle.table_laws.specs.PartSteps.{without_part, step_over, MakesPart, ReadsPart}
use Rattle.box_tree.specs.declared.entries.HeldOp.{HeldOp}
use Rattle.box_tree.specs.declared.step.NewBox.{NewBox}
use Rattle.box_tree.specs.declared.step.Step.{Step}
use Rattle.box_tree.specs.declared.view.Sight.{Sight}
use Rattle.box_tree.specs.Tables.{all_rules, op_held, table_of, new_box}
use Rattle.box_tree.specs.Views.{ViewValue, IsViewOf}
use Rattle.box_tree.specs.Plans.{part_step, IsRead, IsRightLabel}
use Rattle.box_tree.proofs.BoundHere.{kept_bound}
use Rattle.rule_plan.specs.declared.heads.Call.{Call}
use Rattle.rule_plan.specs.Made.{called_as, called, AreMade}
use Rattle.guard_plan.specs.Planned.{HasNoRule}
use Rattle.rule_plan.proofs.AtomNone.{atom_none}
use Rattle.guard_plan.proofs.Sites.{goal_there, stand, found, whole_stands, stores_path, part_here, shows_at}
use Rattle.rule_plan.proofs.NewBoxes.{all_made, all_solved}

-- the atom of a call
called_atom : (nodes : List Node) (frame : Name) (d first count : ℕ) (r : Option ℕ) → atom_of nodes frame (called_as d first count r) ≡ Atom.call d (terms_from nodes frame first count) (option_map (term_at nodes frame) r)
called_atom nodes frame d first count None = refl
called_atom nodes frame d first count (Some r) = refl

abbrev pub result : ViewValue → Call → Option Tree
result v call = option_map (term_at v.table.program.templates.nodes call.frame) call.collects

abbrev pub fork_label : ViewValue → Label
fork_label v = record { rule = Rule.Fork; place = v.place; alternative = None; worker = v.worker }

module _ (v : ViewValue) (i : IsViewOf v) (g : Name) (d : ℕ) (call : Call) (p : v.place ≡ Place.Goal g) (s : v.sight ≡ Sight.Atom (record { code = called d call; frame = call.frame })) where
  held : held_in g i.site.goals ≡ Some (an_atom (Atom.call d (terms_from v.table.program.templates.nodes call.frame call.first call.count) (result v call)))
  held = shows_at v i (Place.Goal g) (Sight.Atom (record { code = called d call; frame = call.frame })) p s
      ∙ ap (λ (a : Atom). Some (an_atom a)) (called_atom v.table.program.templates.nodes call.frame d call.first call.count call.collects)

  -- without a definition or an operator, or with too many names
  pub fork_none : ((x : Definition) (o : Operator) → slice_get v.table.program.definitions d ≡ Some x → operator_of x.op (result v call) ≡ Some o → 2 ^ 32 ≤ drawn_by x.clauses) → HasNoRule v
  fork_none many = atom_none v i g (Atom.call d (terms_from v.table.program.templates.nodes call.frame call.first call.count) (result v call)) p held many

  module _ (x : Definition) (is : slice_get v.table.program.definitions d ≡ Some x) (o : HeldOp) (operator : operator_of x.op (result v call) ≡ Some (op_held v.table.program.templates.nodes o)) (few : drawn_by x.clauses < 2 ^ 32) (news : List NewBox)
      (made : AreMade v.table.program.templates.nodes v.stores v.known call v.worker v.next x.clauses news) (step : Step)
      (made_step : part_step v.table.program.templates.nodes step ≡ without_part (laws.forks (op_held v.table.program.templates.nodes o) (map (new_box v.table.program.templates.nodes) news))) where
    boxes : AreNewBoxes v.table.program.templates.nodes (whole i.site) (map (new_box v.table.program.templates.nodes) news)
        (instances v.table.program.templates.nodes v.worker (slice_index i.table.config.next v.worker) (terms_from v.table.program.templates.nodes call.frame call.first call.count) x.clauses)
    boxes = subst (λ (n : ℕ). AreNewBoxes v.table.program.templates.nodes (whole i.site) (map (new_box v.table.program.templates.nodes) news)
        (instances v.table.program.templates.nodes v.worker n (terms_from v.table.program.templates.nodes call.frame call.first call.count) x.clauses)) i.next
        (all_made v.table.program.templates.nodes v.stores (whole i.site) (whole_stands v i) v.known call v.worker v.next x.clauses news made)

    solved : AreSolvedIf (table_of v.table) (names_down_to i.site) (map (new_box v.table.program.templates.nodes) news)
    solved = all_solved (table_of v.table) (names_down_to i.site) v.known call v.worker v.next x.clauses news
        (subst (λ (ss : List Stored). AreMade v.table.program.templates.nodes ss v.known call v.worker v.next x.clauses news) (stores_path v i) made)

    abbrev change : Change
    change = becomes i.site.content
        (with_content g (a_choice (op_held v.table.program.templates.nodes o) (instances v.table.program.templates.nodes v.worker (slice_index i.table.config.next v.worker) (terms_from v.table.program.templates.nodes call.frame call.first call.count) x.clauses)) i.site.goals)
        (drawn_by x.clauses)

    forked : fork v.table.program v.worker (slice_index i.table.config.next v.worker) g i.site (held_in g i.site.goals) ≡ Some change
    forked = ap (fork v.table.program v.worker (slice_index i.table.config.next v.worker) g i.site) held
        ∙ ap (fork_by v.table.program v.worker (slice_index i.table.config.next v.worker) g (terms_from v.table.program.templates.nodes call.frame call.first call.count) (result v call) i.site) is
        ∙ ap (fork_as v.table.program v.worker (slice_index i.table.config.next v.worker) g (terms_from v.table.program.templates.nodes call.frame call.first call.count) x.clauses i.site) operator

    makes : Makes (Allows v.table.program) v.table.program (slice_index i.table.config.next v.worker) (fork_label v) i.site change
    makes = record {
      reading = nothing;
      change = subst (λ (q : Place). change_by v.table.program nothing v.worker (slice_index i.table.config.next v.worker) Rule.Fork q None i.site ≡ Some change) (sym p) forked;
      allowed = tt;
      few_names = few;
    }

    forks_goal : ForksGoal v.table.program v.worker (slice_index i.table.config.next v.worker) i.site g (op_held v.table.program.templates.nodes o) (map (new_box v.table.program.templates.nodes) news)
    forks_goal = record {
      number = d;
      arguments = terms_from v.table.program.templates.nodes call.frame call.first call.count;
      result = result v call;
      held = held;
      definition = x;
      is_definition = is;
      operator = operator;
      boxes = boxes;
    }

    abbrev applies : Applies all_rules v.table.program i.table.config (fork_label v) (after i.table.config (fork_label v) i.site change)
    applies = record { in_force = inr (inl refl); site = i.site; is_site = i.is_site; change = change; makes = makes; result = refl }

    pub fork_right : IsRightLabel (record { table = v.table; journal = v.journal; label = fork_label v; more = []; reads = Item.Goal g ∷ []; names = drawn_by x.clauses; step = step; binds = [] })
    fork_right = record {
      table = i.table;
      result = after i.table.config (fork_label v) i.site change;
      applies = applies;
      makes = subst (MakesPart v.table.program (fork_label v) (slice_index i.table.config.next v.worker) i.site) (sym made_step) (refl, (g, p, forks_goal));
      solved = subst (IsSolvedIn (table_of v.table) i.site) (sym (part_here v i (fork_label v) refl step ∙ ap (step_over (innermost v.stores)) made_step)) solved;
      names = refl;
      reads = subst (ReadsPart (IsRead (Item.Goal g ∷ [])) i.table.config (fork_label v) i.site []) (sym made_step) (g, p, inl refl);
      binds = kept_bound all_rules v.table.program i.table.config (fork_label v) (after i.table.config (fork_label v) i.site change) (stand v i) applies i.site.content
          (with_content g (a_choice (op_held v.table.program.templates.nodes o) (instances v.table.program.templates.nodes v.worker (slice_index i.table.config.next v.worker) (terms_from v.table.program.templates.nodes call.frame call.first call.count) x.clauses)) i.site.goals)
          no_boxes refl refl;
      there = λ j h. elim h [
        | inl e ↦ subst (λ (k : Item). IsSome (stamp_in (table_of v.table) k)) (sym e)
            (goal_there (table_of v.table) i.table.config (stand v i) i.table.unfolds i.site (found v i) g (an_atom (Atom.call d (terms_from v.table.program.templates.nodes call.frame call.first call.count) (result v call))) held)
        | inr z ↦ absurd z
      ];
    }
