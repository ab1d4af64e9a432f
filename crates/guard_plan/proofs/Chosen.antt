-- Plans for the choice at the place of a view.
use Rattle.std.proofs.Common.{◌≡◌, ◌≢◌, ℕ, ◌+◌, ◌≤◌, ◌<◌, ◌^◌, List, [], ◌∷◌, ◌++◌, length, map, true, false, Some, refl, sym, ◌∙◌, ap, subst, arith}
use Rattle.std.specs.List.{AllByRecursion}
use Rattle.akl_terms.specs.declared.name.Name.{Name}
use Rattle.akl_terms.specs.declared.name.Var.{Var}
use Rattle.akl_terms.specs.declared.name.Place.{Place}
use Rattle.akl_model.specs.declared.item.Item.{Item}
use Rattle.akl_model.specs.declared.label.Rule.{Rule}
use Rattle.akl_model.specs.Config.{Content, Boxes, no_boxes, box, Goals, no_goals, a_choice, held_in}
use Rattle.akl_model.specs.Rules.{count_of}
use Rattle.local_store.specs.declared.part.Part.{Part}
use Rattle.local_store.specs.Parts.{ToldStore, with_part}
use Rattle.local_store.specs.Chained.{innermost}
use Rattle.local_store.specs.Promoting.{AnswersPromoted}
use Rattle.class_members.specs.Members.{AreMembers}
use Rattle.table_laws.specs.Added.{added_of}
use Rattle.table_laws.specs.PartSteps.{joins_part}
use Rattle.box_tree.specs.declared.entries.HeldOp.{HeldOp}
use Rattle.box_tree.specs.declared.step.Step.{Step}
use Rattle.box_tree.specs.declared.view.Alternative.{Alternative}
use Rattle.box_tree.specs.declared.view.Sight.{Sight}
use Rattle.box_tree.specs.Tables.{goal_atom, op_held, table_of}
use Rattle.box_tree.specs.Views.{ViewValue, IsViewOf, AreSeen, alternatives_held, alternatives_at, only_body}
use Rattle.box_tree.specs.Edits.{named_atoms}
use Rattle.box_tree.specs.Plans.{part_step, IsRightLabel}
use Rattle.guard_plan.specs.ReadAt.{IsReadAt}
use Rattle.guard_plan.specs.Guards.{IsGuarded, IsTestable, IsNoisyOver, HasQuiet, HoldsInside, cutting, numbered_goals}
use Rattle.guard_plan.specs.Planned.{HasNoRule}
use Rattle.guard_plan.proofs.Chains.{long_push}
use Rattle.guard_plan.proofs.ChoiceNone.{guarded_none, choice_none}
use Rattle.guard_plan.proofs.Placed.{IsPlaced, ArePlaced, all_placed, testable, all_testable}
use Rattle.guard_plan.proofs.CutRight.{all_cutting, solved_empty, empty_solved, counted, none_cuts, cut_right}
use Rattle.guard_plan.proofs.PromoteRight.{unsolved_none, many_none, unheld_none, promote_right}
use Rattle.guard_plan.proofs.Sites.{some_stores, shows_at}

module _ (v : ViewValue) (i : IsViewOf v) (g : Name) (o : HeldOp) (p : v.place ≡ Place.Goal g) (s : v.sight ≡ Sight.Choice o) where
  abbrev pub shown : (bs : Boxes) × (held_in g i.site.goals ≡ Some (a_choice (op_held v.table.program.templates.nodes o) bs))
  shown = shows_at v i (Place.Goal g) (Sight.Choice o) p s

  same_boxes : alternatives_at v.place i.site ≡ shown.0
  same_boxes = ap (λ (q : Place). alternatives_at q i.site) p ∙ ap alternatives_held shown.1

  pub are_placed : ArePlaced v i shown.0 v.alternatives
  are_placed = all_placed v i g (op_held v.table.program.templates.nodes o) shown.0 shown.1 shown.0 (λ b gs h. h) v.alternatives (subst (λ (bs : Boxes). AreSeen (table_of v.table) v.stores bs v.alternatives) same_boxes i.alternatives)

  -- where there isn't one alternative

  pub cut_testable : AllByRecursion (IsTestable v.table.program.templates.nodes v.stores) (cutting o v.alternatives)
  cut_testable = all_cutting (IsTestable v.table.program.templates.nodes v.stores) o v.alternatives (all_testable v i shown.0 v.alternatives are_placed)

  pub cut_none : IsGuarded o → length v.alternatives ≢ 1 → AllByRecursion (IsNoisyOver v.table.program.templates.nodes v.stores) (cutting o v.alternatives) → HasNoRule v
  cut_none guarded many noisy = choice_none v i g (op_held v.table.program.templates.nodes o) shown.0 p shown.1 (none_cuts v i o shown.0 v.alternatives are_placed noisy) (λ b e holds few. one b e)
      (guarded_none v.table.program.templates.nodes v.table.program i.site o shown.0 guarded)
    where
      one : (b : Content) → shown.0 ≡ box b no_goals no_boxes → ⊥
      one b e = many (sym (counted v i shown.0 v.alternatives are_placed) ∙ ap count_of e)

  pub cut_planned : length v.alternatives ≢ 1 → (n : Name) → HasQuiet v.table.program.templates.nodes v.stores (cutting o v.alternatives) n → (reads : List Item) → IsReadAt v g [] reads
      → IsRightLabel (record { table = v.table; journal = v.journal; label = record { rule = Rule.Cut; place = v.place; alternative = Some n; worker = v.worker }; more = []; reads = reads; names = 0; step = Step.Cut; binds = [] })
  cut_planned many n q reads read = cut_right v i g o shown.0 p shown.1 are_placed many n q reads read

  -- where there is

  one_placed : (bs : Boxes) (a : Alternative) → ArePlaced v i bs (a ∷ []) → (b : Content) × (gs : Goals) × (bs ≡ box b gs no_boxes) × IsPlaced v i b gs a
  one_placed no_boxes a h = absurd h
  one_placed (box b gs no_boxes) a h = (b, gs, refl, h.0)
  one_placed (box b gs (box c hs bs)) a h = absurd h.1

  module _ (guarded : IsGuarded o) (a : Alternative) (e : v.alternatives ≡ a ∷ []) where
    abbrev only : (b : Content) × (gs : Goals) × (shown.0 ≡ box b gs no_boxes) × IsPlaced v i b gs a
    only = one_placed shown.0 a (subst (ArePlaced v i shown.0) e are_placed)

    held : held_in g i.site.goals ≡ Some (a_choice (op_held v.table.program.templates.nodes o) (box only.0 only.1 no_boxes))
    held = shown.1 ∙ ap (λ (bs : Boxes). Some (a_choice (op_held v.table.program.templates.nodes o) bs)) only.2

    body : map (goal_atom v.table.program.templates.nodes) v.body ≡ only.0.body
    body = i.body ∙ ap only_body (same_boxes ∙ only.2)

    pub only_testable : IsTestable v.table.program.templates.nodes v.stores a
    only_testable = testable v i only.0 only.1 a only.3

    pub only_deep : 1 < length (v.stores ++ a.store ∷ [])
    only_deep =
        let l : length (v.stores ++ a.store ∷ []) ≡ length v.stores + 1 = long_push v.stores a.store in
        let k : 0 < length v.stores = some_stores v i in
        omega arith

    pub only_unsolved : a.solved ≡ false → HasNoRule v
    only_unsolved n = unsolved_none v i g o only.0 only.1 p held a only.3 body guarded (λ h. differ (sym n ∙ only.3.seen.solved ∙ empty_solved only.1 h))
      where
        differ : false ≡ true → ⊥
        differ z = cc

    pub only_many : 2 ^ 32 ≤ length v.body → HasNoRule v
    only_many n = many_none v i g o only.0 only.1 p held a only.3 body guarded n

    pub only_unheld : (HoldsInside o v.table.program.templates.nodes (v.stores ++ a.store ∷ []) → ⊥) → HasNoRule v
    only_unheld n = unheld_none v i g o only.0 only.1 p held a only.3 body guarded n

    pub only_planned : a.solved ≡ true → HoldsInside o v.table.program.templates.nodes (v.stores ++ a.store ∷ []) → length v.body < 2 ^ 32 → (t : ToldStore) (known : ℕ)
        → AnswersPromoted v.table.program.templates.nodes (v.stores ++ a.store ∷ []) known t → (part : Part) → with_part (innermost v.stores) part ≡ t.store → part.frames.items ≡ a.store.frames
        → (binds : List Var) → AreMembers v.table.program.templates.nodes v.stores t.bound binds → (reads : List Item) → IsReadAt v g binds reads → (step : Step)
        → part_step v.table.program.templates.nodes step ≡ joins_part (added_of part) t.solved (named_atoms v.table.program.templates.nodes (numbered_goals v.worker v.next v.body))
        → IsRightLabel (record { table = v.table; journal = v.journal; label = record { rule = Rule.Promote; place = v.place; alternative = Some a.name; worker = v.worker }; more = []; reads = reads; names = length v.body; step = step; binds = binds })
    only_planned solved holds few t known answer part is adds binds m reads read step e = promote_right v i g o only.0 only.1 p held a only.3 body guarded (solved_empty only.1 (sym only.3.seen.solved ∙ solved)) holds few t known answer part is adds binds m reads read step e
