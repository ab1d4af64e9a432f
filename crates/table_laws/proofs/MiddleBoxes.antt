-- Before the last label of a call at once: the one alternative that is left, and all else as before the call.
use Rattle.std.proofs.Common.{◌≡◌, List, [], ◌∷◌, ◌++◌, Bool, true, false, Some, None, refl, sym, ◌∙◌, ap, subst, ◌⊎◌, inl, inr}
use Rattle.std.specs.Prelude.{option_map}
use Rattle.akl_terms.specs.declared.name.Name.{Name}
use Rattle.akl_terms.specs.Names.{same_name}
use Rattle.akl_terms.proofs.SameNames.{same_name-equal}
use Rattle.akl_model.specs.Config.{IsIn, Content, Boxes, no_boxes, box, Goals, no_goals, Held, an_atom, a_choice, held_in, Found, box_at, home_of, edited_inside}
use Rattle.akl_model.specs.Changes.{shape_of, box_names}
use Rattle.akl_model.specs.Stable.{only}
use Rattle.akl_model.specs.Wakes.{holder_in}
use Rattle.akl_model.proofs.Options.{some_value, map_some, none_or, none_where}
use Rattle.akl_model.proofs.NamesKept.{Stand, box-itself}
use Rattle.step_laws.specs.Holders.{IsHeldBy, IsAlternativeAt, IsRootBox}
use Rattle.step_laws.specs.Likeness.{IsOld}
use Rattle.step_laws.specs.Stays.{HaveShape}
use Rattle.step_laws.specs.Whereabouts.{BoxIn, InGoals, Stands}
use Rattle.step_laws.proofs.Deeper.{in_deeper, one_box}
use Rattle.step_laws.proofs.Edits.{AfterEdit, outside, replaced, edit_in, edited_held, held_edited}
use Rattle.step_laws.proofs.GoalEdits.{HasGoal, InHeld, with_content_in, with_content_other}
use Rattle.step_laws.proofs.Holders.{held_around, unheld_around, alternative_at, root_box, root_named}
use Rattle.step_laws.proofs.Stays.{choice_shape}
use Rattle.step_laws.proofs.Steps.{old_box, old_goal}
use Rattle.step_laws.proofs.Whereabouts.{found_in, home_in}
use Rattle.plan_laws.specs.AtOnce.{inner}
use Rattle.plan_laws.specs.Between.{with_choice}
use Rattle.plan_laws.proofs.CallAlternatives.{Calling, between, IsNewName, AreNew, stands_inner}
use Rattle.plan_laws.proofs.Between.{stood}
use Rattle.plan_laws.proofs.CallsOutside.{Before, alike_some, not_old, outside as all_outside}
use Rattle.plan_laws.proofs.OpensAlike.{alike_back, other_name}

-- a box of an old name, with goals of old names
pub record IsOldBox (k : Calling) (e : Found) : Type 0 where
  pub name : IsNewName k e.content.name → ⊥
  pub goals : (i : Name) → HasGoal i e.goals → IsNewName k i → ⊥

old_there : (k : Calling) (e : Found) → Stands e k.config.roots → IsOldBox k e
old_there k e x = record { name = λ h. not_old k e.content.name h (old_box k.config k.stand e x); goals = λ i h n. not_old k i n (old_goal k.config k.stand i e x h) }

module _ (k : Calling) (a : Content) (s : Stand (between k (box a no_goals no_boxes))) (new : AreNew k (box a no_goals no_boxes)) where
  abbrev pub last : Boxes
  last = box a no_goals no_boxes

  abbrev goals : Goals
  goals = (with_choice k.home k.goal k.op last).goals

  its_goals : (i : Name) → HasGoal i goals → IsNewName k i → ⊥
  its_goals i h n = on (same_name i k.goal) refl
    where
      on : (t : Bool) → same_name i k.goal ≡ t → ⊥
      on true q = not_old k i n (subst (IsOld k.config) (sym (same_name-equal i k.goal q)) (old_goal k.config k.stand k.goal k.home (stood k.config k.stand k.goal k.home k.is_home) (an_atom k.body, k.held)))
      on false q = not_old k i n (old_goal k.config k.stand i k.home (stood k.config k.stand k.goal k.home k.is_home) (h.0, sym (with_content_other k.goal i (a_choice k.op last) k.home.goals q) ∙ h.1))

  -- it is the alternative, or was there
  pub last_or : (e : Found) → Stands e (between k last).roots → (e ≡ inner k.home a no_goals) ⊎ IsOldBox k e
  last_or e x = on (edit_in k.home.content.name (only (with_choice k.home k.goal k.op last)) k.config.roots e.around e.content e.goals x)
    where
      aside : (gs : Goals) → Stands (record { around = e.around; content = e.content; goals = gs }) k.config.roots → e.goals ≡ edited_inside k.home.content.name (only (with_choice k.home k.goal k.op last)) gs → IsOldBox k e
      aside gs y q =
          let u : IsOldBox k (record { around = e.around; content = e.content; goals = gs }) = old_there k (record { around = e.around; content = e.content; goals = gs }) y in
          record {
            name = u.name;
            goals = λ i h.
                let w : (v : Held) × (held_in i gs ≡ Some v) × (edited_held k.home.content.name (only (with_choice k.home k.goal k.op last)) v ≡ h.0) =
                map_some (edited_held k.home.content.name (only (with_choice k.home k.goal k.op last))) (held_in i gs) h.0
                (sym (held_edited k.home.content.name (only (with_choice k.home k.goal k.op last)) i gs) ∙ subst (λ (hs : Goals). held_in i hs ≡ Some h.0) q h.1) in
                u.goals i (w.0, w.1);
          }

      alternative : (more : List Content) → BoxIn more e.content e.goals last → (e ≡ inner k.home a no_goals) ⊎ IsOldBox k e
      alternative more (inl t) = inl (one_box (between k last).roots s.once e (inner k.home a no_goals) x (stands_inner k no_boxes a no_goals no_boxes s new) (ap (λ (b : Content). b.name) t.1))
      alternative more (inr (inl (r, q, u))) = absurd u
      alternative more (inr (inr u)) = absurd u

      in_goals : (more : List Content) → InHeld more e.content e.goals (a_choice k.op last) ⊎ InGoals more e.content e.goals k.home.goals → (e ≡ inner k.home a no_goals) ⊎ IsOldBox k e
      in_goals more (inl y) = alternative more y
      in_goals more (inr y) =
          let u : IsOldBox k (record { around = k.home.around ++ k.home.content ∷ more; content = e.content; goals = e.goals }) =
          old_there k (record { around = k.home.around ++ k.home.content ∷ more; content = e.content; goals = e.goals })
          (in_deeper k.home.around k.home.content k.home.goals more e.content e.goals k.config.roots (stood k.config k.stand k.goal k.home k.is_home) y) in
          inr (record { name = u.name; goals = u.goals })

      in_new : (rest : List Content) → BoxIn rest e.content e.goals (only (with_choice k.home k.goal k.op last)) → (e ≡ inner k.home a no_goals) ⊎ IsOldBox k e
      in_new rest (inl t) = inr (record {
        name = λ h. not_old k e.content.name h (subst (λ (b : Content). IsOld k.config b.name) (sym t.1) (old_box k.config k.stand k.home (stood k.config k.stand k.goal k.home k.is_home)));
        goals = λ i h. its_goals i (subst (HasGoal i) t.2 h);
      })
      in_new rest (inr (inl (more, q, u))) = in_goals more (with_content_in k.goal (a_choice k.op last) more e.content e.goals k.home.goals u)
      in_new rest (inr (inr z)) = absurd z

      on : AfterEdit k.home.content.name (only (with_choice k.home k.goal k.op last)) (λ u b gs. BoxIn u b gs k.config.roots) e.around e.content e.goals → (e ≡ inner k.home a no_goals) ⊎ IsOldBox k e
      on (outside gs y n q) = inr (aside gs y q)
      on (replaced u b gs rest y n q z) = in_new rest z

  pub new_is_last : (i : Name) (e : Found) → box_at i (between k last).roots ≡ Some e → IsNewName k i → e ≡ inner k.home a no_goals
  new_is_last i e x h = elim (last_or e (found_in i (between k last).roots e x)) [ inl q ↦ q | inr u ↦ absurd (u.name (subst (IsNewName k) (box-itself i (between k last).roots e x) h)) ]

  pub no_new_goal : (i : Name) → IsNewName k i → home_of i (between k last).roots ≡ None
  no_new_goal i h = none_where (home_of i (between k last).roots) (λ e x.
      let y : Stands e (between k last).roots × HasGoal i e.goals = home_in i (between k last).roots e x in
      elim (last_or e y.0) [
        | inl q ↦ let z : None ≡ Some y.1.0 = subst (λ (f : Found). held_in i f.goals ≡ Some y.1.0) q y.1.1 in absurd cc
        | inr u ↦ u.goals i y.1 h
      ])

  -- what holds an old box is as before
  pub same_holder : (i : Name) (e f : Found) → (IsNewName k i → ⊥) → box_at i k.config.roots ≡ Some e → box_at i (between k last).roots ≡ Some f → e.around ≡ f.around → box_names k.config.roots ≡ box_names (between k last).roots
      → holder_in i k.config.roots ≡ holder_in i (between k last).roots
  same_holder i e f n x y around roots = elim (none_or (holder_in i k.config.roots)) [ inl q ↦ q ∙ sym (unheld q) | inr w ↦ w.1 ∙ sym (held w.0 w.1) ]
    where
      unheld : holder_in i k.config.roots ≡ None → holder_in i (between k last).roots ≡ None
      unheld q =
          let r : e.around ≡ [] = unheld_around k.config.roots k.stand.once i e x q in
          let v : IsRootBox i (between k last).roots = root_box (between k last).roots s.once i (root_named (between k last).roots s.once i f y (sym around ∙ r)) in
          v.holder

      held : (h : Name) → holder_in i k.config.roots ≡ Some h → holder_in i (between k last).roots ≡ Some h
      held h q =
          let u : IsHeldBy i h e k.config.roots = held_around k.config.roots k.stand.once i h e x q in
          let z : Stands u.home k.config.roots × HasGoal h u.home.goals = home_in h k.config.roots u.home u.is_home in
          let b : Before (λ (u v : Goals). HaveShape (held_in h v) (held_in h u)) (home_of h (between k last).roots) u.home =
          alike_some (λ (u v : Goals). HaveShape (held_in h v) (held_in h u)) (home_of h (between k last).roots) (home_of h k.config.roots) u.home
          (alike_back (λ (u v : Goals). HaveShape (held_in h u) (held_in h v)) (λ (u v : Goals). HaveShape (held_in h v) (held_in h u)) (λ u v q. q) (home_of h k.config.roots) (home_of h (between k last).roots)
          ((all_outside k last s new).homes h (λ m. not_old k h m (old_goal k.config k.stand h u.home z.0 z.1)) (other_name k h (not_call h u)))) u.is_home in
          let cs : (cs : Boxes) × (held_in h b.before.goals ≡ Some (a_choice u.op cs)) × (box_names u.alternatives ≡ box_names cs) =
          choice_shape u.op u.alternatives (held_in h b.before.goals) (sym (ap (option_map shape_of) u.held) ∙ b.related) in
          let v : IsAlternativeAt i h b.before (between k last).roots = alternative_at (between k last).roots s.once i h b.before u.op cs.0 b.found cs.1 (subst (IsIn i) cs.2 u.among) in
          v.holder
        where
          not_call : (h : Name) → IsHeldBy i h e k.config.roots → h ≡ k.goal → ⊥
          not_call h u r =
              let c : u.home ≡ k.home = some_value (sym u.is_home ∙ ap (λ (j : Name). home_of j k.config.roots) r ∙ k.is_home) in
              let d : held_in k.goal k.home.goals ≡ Some (a_choice u.op u.alternatives) = subst (λ (j : Name). held_in j k.home.goals ≡ Some (a_choice u.op u.alternatives)) r (subst (λ (v : Found). held_in h v.goals ≡ Some (a_choice u.op u.alternatives)) c u.held) in
              let y : Some (an_atom k.body) ≡ Some (a_choice u.op u.alternatives) = sym k.held ∙ d in
              cc
