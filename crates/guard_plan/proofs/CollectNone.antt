-- A choice that collects, where no rule applies.
use Rattle.std.proofs.Common.{◌≡◌, ℕ, ◌+◌, ◌≤◌, ◌^◌, List, [], ◌∷◌, length, Option, Some, None, true, refl, sym, ◌∙◌, ap, subst, arith}
use Rattle.std.specs.Prelude.{option_map, is_some}
use Rattle.akl_terms.specs.declared.name.Name.{Name}
use Rattle.akl_terms.specs.declared.name.Place.{Place}
use Rattle.akl_terms.specs.declared.term.Node.{Node}
use Rattle.akl_terms.specs.declared.term.Term.{Term}
use Rattle.akl_terms.specs.Template.{tree}
use Rattle.akl_terms.specs.Tree.{Tree}
use Rattle.akl_model.specs.Config.{Operator, Content, Boxes, no_boxes, box, a_choice, held_in}
use Rattle.akl_model.specs.Rules.{Change, count_of, gathered, collect_as}
use Rattle.akl_model.specs.Conditions.{IsSolved, AreQuiet}
use Rattle.akl_model.proofs.Gathered.{gathers}
use Rattle.akl_model.proofs.Options.{some_value}
use Rattle.box_tree.specs.declared.view.Alternative.{Alternative}
use Rattle.box_tree.specs.Views.{ViewValue, IsViewOf}
use Rattle.guard_plan.specs.Guards.{AreAllSolved, AreQuietOver}
use Rattle.guard_plan.specs.Collecting.{AreCollected}
use Rattle.guard_plan.specs.Planned.{HasNoRule}
use Rattle.guard_plan.proofs.ChoiceNone.{NoneCollects, choice_none}
use Rattle.guard_plan.proofs.CutRight.{empty_solved, counted}
use Rattle.guard_plan.proofs.Placed.{ArePlaced, is_quiet, was_quiet}

-- what was gathered
gathered_there : (g : Name) (bs : Boxes) (f : _) (o : Option Content) (c : Change) → collect_as g bs f o ≡ Some c → (k : Content) × (o ≡ Some k) × (c.drawn ≡ count_of bs)
gathered_there g bs f None c e = cc
gathered_there g bs f (Some k) c e = (k, refl, sym (ap (λ (x : Change). x.drawn) (some_value e)))

-- a term that is there
has_term : (nodes : List Node) (o : Option Term) (t : Tree) → option_map (tree nodes) o ≡ Some t → is_some o ≡ true
has_term nodes None t e = cc
has_term nodes (Some u) t e = refl

module _ (v : ViewValue) (i : IsViewOf v) where
  -- alternatives that are gathered are solved, and each has a collected term
  all_gathered : (w n : ℕ) (m : Name) (r : Tree) (bs : Boxes) (seen : List Alternative) (k : Content) → ArePlaced v i bs seen → gathered v.table.program w n m r bs ≡ Some k → AreAllSolved seen × AreCollected seen
  all_gathered w n m r no_boxes [] k h e = (tt, tt)
  all_gathered w n m r no_boxes (a ∷ rest) k h e = absurd h
  all_gathered w n m r (box b gs bs) [] k h e = absurd h
  all_gathered w n m r (box b gs bs) (a ∷ rest) k h e =
      let g : _ = gathers v.table.program w n m r b gs bs k e in
      let further : AreAllSolved rest × AreCollected rest = all_gathered w (n + 1) m _ bs rest g.1.rest h.1 g.1.is_rest in (
        (h.0.seen.solved ∙ empty_solved gs (subst IsSolved (sym g.0) tt), further.0),
        (has_term v.table.program.templates.nodes a.collected g.1.collected (h.0.seen.collected ∙ g.1.is_collected), further.1),
      )

  pub all_quiet : (bs : Boxes) (seen : List Alternative) → ArePlaced v i bs seen → AreQuietOver v.table.program.templates.nodes v.stores seen → AreQuiet i.site bs
  all_quiet no_boxes [] h q = tt
  all_quiet no_boxes (a ∷ rest) h q = tt
  all_quiet (box b gs bs) [] h q = absurd h
  all_quiet (box b gs bs) (a ∷ rest) h q = (is_quiet v i b gs a h.0 q.0, all_quiet bs rest h.1 q.1)

  were_quiet : (bs : Boxes) (seen : List Alternative) → ArePlaced v i bs seen → AreQuiet i.site bs → AreQuietOver v.table.program.templates.nodes v.stores seen
  were_quiet no_boxes [] h q = tt
  were_quiet no_boxes (a ∷ rest) h q = absurd h
  were_quiet (box b gs bs) [] h q = tt
  were_quiet (box b gs bs) (a ∷ rest) h q = (was_quiet v i b gs a h.0 q.0, were_quiet bs rest h.1 q.1)

  module _ (g : Name) (r : Tree) (bs : Boxes) (p : v.place ≡ Place.Goal g) (held : held_in g i.site.goals ≡ Some (a_choice (Operator.collecting r) bs)) (seen : ArePlaced v i bs v.alternatives) where
    none_applies : NoneCollects v.table.program i.site (Operator.collecting r) bs → HasNoRule v
    none_applies collects = choice_none v i g (Operator.collecting r) bs p held (λ n a e solved quiet few. omega arith) (λ b e holds few. holds) collects

    -- where one isn't solved or isn't quiet, or isn't collected, or there are too many
    pub unsolved_uncollected : (AreAllSolved v.alternatives → AreCollected v.alternatives → ⊥) → HasNoRule v
    unsolved_uncollected none = none_applies (λ w next h c e quiet few.
        let k : _ = gathered_there h bs i.site (gathered v.table.program w next i.site.content.name r bs) c e in
        let all : AreAllSolved v.alternatives × AreCollected v.alternatives = all_gathered w next i.site.content.name r bs v.alternatives k.0 seen k.1 in
        none all.0 all.1)

    pub noisy_none : (AreQuietOver v.table.program.templates.nodes v.stores v.alternatives → ⊥) → HasNoRule v
    noisy_none none = none_applies (λ w next h c e quiet few. none (were_quiet bs v.alternatives seen quiet))

    pub many_none : 2 ^ 32 ≤ length v.alternatives → HasNoRule v
    many_none many = none_applies (λ w next h c e quiet few.
        let k : _ = gathered_there h bs i.site (gathered v.table.program w next i.site.content.name r bs) c e in
        let l : count_of bs ≡ length v.alternatives = counted v i bs v.alternatives seen in
        let d : c.drawn ≡ count_of bs = k.2 in
        omega arith)
