-- A plan of Tell is right.
use Rattle.std.proofs.Common.{◌≡◌, ℕ, List, [], ◌∷◌, Some, None, refl, sym, ap, subst, arith}
use Rattle.std.specs.Prelude.{slice_index}
use Rattle.akl_terms.specs.declared.name.Name.{Name}
use Rattle.akl_terms.specs.declared.name.Var.{Var}
use Rattle.akl_terms.specs.declared.name.Place.{Place}
use Rattle.akl_terms.specs.declared.term.Term.TheVariants.{Mol}
use Rattle.akl_terms.specs.declared.term.Equation as code
use Rattle.akl_terms.specs.declared.program.Code.{Code}
use Rattle.akl_terms.specs.Tree.{Tree}
use Rattle.akl_model.specs.declared.label.Rule.{Rule}
use Rattle.akl_model.specs.Config.{Atom, an_atom, held_in, without_goal}
use Rattle.akl_model.specs.Instances.{term_at}
use Rattle.akl_model.specs.Rules.{nothing, Change, becomes, telling, tell, change_by}
use Rattle.akl_model.specs.Conditions as conditions
use Rattle.akl_model.specs.Stable.{Allows}
use Rattle.local_store.specs.declared.part.Part.{Part}
use Rattle.local_store.specs.Parts.{ToldStore, with_part, told_over}
use Rattle.local_store.specs.Stored.{all_named}
use Rattle.local_store.specs.Chained.{innermost}
use Rattle.local_store.specs.Telling.{AnswersTold}
use Rattle.class_members.specs.Members.{AreMembers}
use Rattle.box_tree.specs.declared.step.Step.{Step}
use Rattle.box_tree.specs.declared.view.Sight.{Sight}
use Rattle.box_tree.specs.Views.{ViewValue, IsViewOf}
use Rattle.table_laws.specs.Parts.{tells_one}
use Rattle.rule_plan.specs.AtGoals.{label_at, IsRightAt, TellsRightly}
use Rattle.guard_plan.proofs.Sites.{shows_at}
use Rattle.rule_plan.proofs.InForce.{tell_in_force}
use Rattle.rule_plan.proofs.GoalRight.{told_right, tells_bound}
use Rattle.rule_plan.proofs.ToldGoals.{same_frames, same_ports, solved_if, tells_by}

-- the equation of two nodes under a frame
abbrev pub node_equation : Name → ℕ → ℕ → code.Equation
node_equation frame l r = record { left = Mol l frame; right = Mol r frame }

module _ (v : ViewValue) (i : IsViewOf v) (g frame : Name) (l r : ℕ) (p : v.place ≡ Place.Goal g) (s : v.sight ≡ Sight.Atom (record { code = Code.Equal l r; frame = frame }))
    (t : ToldStore) (a : AnswersTold v.table.program.templates.nodes v.stores v.known (node_equation frame l r ∷ []) t) where
  abbrev left : Tree
  left = term_at v.table.program.templates.nodes frame l

  abbrev right : Tree
  right = term_at v.table.program.templates.nodes frame r

  held : held_in g i.site.goals ≡ Some (an_atom (Atom.equation left right))
  held = shows_at v i (Place.Goal g) (Sight.Atom (record { code = Code.Equal l r; frame = frame })) p s

  abbrev change : Change
  change = becomes (telling left right i.site.content) (without_goal g i.site.goals) 0

  abbrev makes : conditions.Makes (Allows v.table.program) v.table.program (slice_index i.table.config.next v.worker) (label_at v Rule.Tell) i.site change
  makes = record {
    reading = nothing;
    change = subst (λ (q : Place). change_by v.table.program nothing v.worker (slice_index i.table.config.next v.worker) Rule.Tell q None i.site ≡ Some change) (sym p) (ap (tell g i.site) held);
    allowed = tt;
    few_names = omega arith;
  }

  tells_right : (part : Part) → with_part (innermost v.stores) part ≡ t.store → part.frames.items ≡ []
      → (binds : List Var) → AreMembers v.table.program.templates.nodes v.stores t.bound binds → IsRightAt v Rule.Tell g 0 (Step.Tell part t.solved) binds
  tells_right part is none binds m = told_right v i g Rule.Tell tell_in_force change makes p part t.store t.solved is
      (tells_by v i (node_equation frame l r ∷ []) t a t.store refl part is Rule.Tell g (telling left right i.site.content) 0
      (record { goal = Atom.equation left right; held = held; makes = makes }) (record { left = left; right = right }) [] refl refl
      (same_frames v i (node_equation frame l r ∷ []) t a) (same_ports v i (node_equation frame l r ∷ []) t a) (tells_one left right) refl refl (λ old. ap (all_named old) none))
      (solved_if v i (node_equation frame l r ∷ []) t a t.store refl t.solved refl)
      binds (tells_bound v i g Rule.Tell tell_in_force change makes (telling left right i.site.content) (without_goal g i.site.goals) refl (node_equation frame l r ∷ []) t a refl binds m)

pub tell_right : (v : ViewValue) (i : IsViewOf v) (g frame : Name) (l r : ℕ) (p : v.place ≡ Place.Goal g) (s : v.sight ≡ Sight.Atom (record { code = Code.Equal l r; frame = frame })) → TellsRightly v Rule.Tell g (node_equation frame l r)
tell_right v i g frame l r p s t a none = tells_right v i g frame l r p s (told_over (innermost v.stores) t) a t.part refl none
