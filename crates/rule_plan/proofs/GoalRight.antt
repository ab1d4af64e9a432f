-- A plan at a goal is right, with all that is enough to have been read.
use Rattle.std.proofs.Common.{◌≡◌, Bool, List, [], ◌++◌, refl, sym, ◌∙◌, ap, subst}
use Rattle.std.specs.Prelude.{slice_index}
use Rattle.akl_terms.specs.declared.name.Name.{Name}
use Rattle.akl_terms.specs.declared.name.Var.{Var}
use Rattle.akl_terms.specs.declared.name.Place.{Place}
use Rattle.akl_terms.specs.declared.term.Equation as code
use Rattle.akl_model.specs.declared.item.Item.{Item}
use Rattle.akl_model.specs.declared.label.Rule.{Rule}
use Rattle.akl_model.specs.Config.{Content, no_boxes, box, Goals}
use Rattle.akl_model.specs.Rules.{Change}
use Rattle.akl_model.specs.Conditions as conditions
use Rattle.akl_model.specs.Stable.{Allows}
use Rattle.akl_model.specs.Derivations.{IsInForce, Applies, after}
use Rattle.rational_unify.specs.Solving.{equations_in}
use Rattle.local_store.specs.declared.part.Part.{Part}
use Rattle.local_store.specs.Parts.{ToldStore, with_part}
use Rattle.local_store.specs.Stored.{Stored}
use Rattle.local_store.specs.Chained.{innermost}
use Rattle.local_store.specs.Telling.{AnswersTold}
use Rattle.class_members.specs.Members.{AreMembers}
use Rattle.table_laws.specs.Steps as laws
use Rattle.reading_laws.specs.Seen.{ReadsAt}
use Rattle.table_laws.specs.Steps.{IsSolvedIn}
use Rattle.table_laws.specs.Added.{added_of}
use Rattle.table_laws.specs.PartSteps.{MakesPart, ReadsPart}
use Rattle.table_laws.specs.Telling.{TellsBy}
use Rattle.box_tree.specs.declared.step.Step.{Step}
use Rattle.box_tree.specs.Tables.{all_rules, table_of, step_in}
use Rattle.box_tree.specs.Views.{ViewValue, IsViewOf}
use Rattle.box_tree.specs.Plans.{part_step, IsRead}
use Rattle.step_laws.specs.Bound.{AreBoundIn}
use Rattle.box_tree.proofs.BoundHere.{kept_bound, told_bound}
use Rattle.rule_plan.specs.AtGoals.{label_at, IsRightAt}
use Rattle.guard_plan.proofs.BoundAt.{oldest_at, told_at}
use Rattle.guard_plan.proofs.Sites.{stand, step_here}

module _ (v : ViewValue) (i : IsViewOf v) (g : Name) (rule : Rule) (force : IsInForce all_rules rule) (change : Change)
    (makes : conditions.Makes (Allows v.table.program) v.table.program (slice_index i.table.config.next v.worker) (label_at v rule) i.site change) where
  abbrev applies : Applies all_rules v.table.program i.table.config (label_at v rule) (after i.table.config (label_at v rule) i.site change)
  applies = record { in_force = force; site = i.site; is_site = i.is_site; change = change; makes = makes; result = refl }

  -- what it binds
  abbrev pub Binding : List Var → Type 0
  Binding binds = AreBoundIn i.table.config (after i.table.config (label_at v rule) i.site change) i.site binds

  -- nothing, where the box keeps its equations
  pub keeps_bound : (b : Content) (gs : Goals) → change.boxes ≡ box b gs no_boxes → b.equations ≡ i.site.content.equations → Binding []
  keeps_bound b gs e q = kept_bound all_rules v.table.program i.table.config (label_at v rule) (after i.table.config (label_at v rule) i.site change) (stand v i) applies b gs no_boxes e q

  -- members of what the stores say, where equations were told
  pub tells_bound : (b : Content) (gs : Goals) → change.boxes ≡ box b gs no_boxes → (es : List code.Equation) (t : ToldStore) → AnswersTold v.table.program.templates.nodes v.stores v.known es t
      → b.equations ≡ i.site.content.equations ++ equations_in v.table.program.templates.nodes es → (binds : List Var) → AreMembers v.table.program.templates.nodes v.stores t.bound binds → Binding binds
  tells_bound b gs e es t a q binds m = told_bound all_rules v.table.program i.table.config (label_at v rule) (after i.table.config (label_at v rule) i.site change) (stand v i) applies b gs no_boxes e binds
      (told_at v i es t a binds m b.equations q) (oldest_at v i t.bound binds m)

  pub goal_right : (step : Step) → MakesPart v.table.program (label_at v rule) (slice_index i.table.config.next v.worker) i.site (part_step v.table.program.templates.nodes step)
      → IsSolvedIn (table_of v.table) i.site (step_in v.table (label_at v rule) step) → (binds : List Var) → Binding binds
      → ((reads : List Item) → ReadsAt (IsRead reads) i.table.config g i.site binds → ReadsPart (IsRead reads) i.table.config (label_at v rule) i.site binds (part_step v.table.program.templates.nodes step))
      → IsRightAt v rule g change.drawn step binds
  goal_right step made solved binds bound is_read reads read = record {
    table = i.table;
    result = after i.table.config (label_at v rule) i.site change;
    applies = applies;
    makes = made;
    solved = solved;
    names = refl;
    reads = is_read reads (read.enough i);
    binds = bound;
    there = read.there i;
  }

  -- where something is added to the box's store
  pub told_right : v.place ≡ Place.Goal g → (part : Part) (new : Stored) (solved : Bool) → with_part (innermost v.stores) part ≡ new
      → TellsBy v.table.program (label_at v rule) (slice_index i.table.config.next v.worker) i.site g (added_of part) → IsSolvedIn (table_of v.table) i.site (laws.tells new solved)
      → (binds : List Var) → Binding binds → IsRightAt v rule g change.drawn (Step.Tell part solved) binds
  told_right p part new solved is tells known binds bound = goal_right (Step.Tell part solved) (g, p, tells) (subst (IsSolvedIn (table_of v.table) i.site) (sym step) known) binds bound (λ reads r. (g, p, r))
    where
      step : step_in v.table (label_at v rule) (Step.Tell part solved) ≡ laws.tells new solved
      step = step_here v i (label_at v rule) refl (Step.Tell part solved) ∙ ap (λ (s : Stored). laws.tells s solved) is
