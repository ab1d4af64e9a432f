-- After a call at once the goal is gone, nothing has a name of the alternatives, and the goal's box has other goals.
use Rattle.std.proofs.Common.{◌≡◌, ◌+◌, ◌≤◌, ◌<◌, List, ◌∷◌, ◌++◌, length, Bool, true, false, Some, None, refl, sym, ◌∙◌, ap, subst, inl, inr, arith}
use Rattle.std.proofs.lemmas.List.{length-append}
use Rattle.std.specs.Prelude.{slice_index}
use Rattle.akl_terms.specs.declared.name.Name.{Name}
use Rattle.akl_terms.specs.Names.{same_name}
use Rattle.akl_terms.proofs.SameNames.{same_name-equal, same_name-refl}
use Rattle.akl_model.specs.Config.{Content, Boxes, no_boxes, box, Goals, Held, an_atom, held_in, without_goal, Found, box_at, home_of, edited_inside}
use Rattle.akl_model.specs.Instances.{with_atoms}
use Rattle.akl_model.specs.Rules.{joining}
use Rattle.akl_model.proofs.Options.{some_value, map_some}
use Rattle.akl_model.proofs.Finds.{times_of, times_inside}
use Rattle.akl_model.proofs.Drawn.{drawn_times, drawn_place}
use Rattle.akl_model.proofs.NamesKept.{box-itself}
use Rattle.akl_model.proofs.ScopesAlong.{only_once}
use Rattle.step_laws.specs.Likeness.{IsOld}
use Rattle.step_laws.specs.Whereabouts.{BoxIn, InGoals, Stands}
use Rattle.step_laws.proofs.Deeper.{in_deeper}
use Rattle.step_laws.proofs.Edits.{AfterEdit, outside, replaced, edit_in, edited_held, held_edited}
use Rattle.step_laws.proofs.GoalEdits.{HasGoal, without_in, without_gone, without_other, with_atoms_in, with_atoms_other}
use Rattle.step_laws.proofs.Steps.{old_box, old_goal}
use Rattle.step_laws.proofs.Whereabouts.{found_in, home_in, in_home}
use Rattle.plan_laws.proofs.Between.{was_found, stood}
use Rattle.plan_laws.proofs.CallAlternatives.{Calling, IsNewName}
use Rattle.plan_laws.proofs.Sifted.{joined_to}
use Rattle.plan_laws.proofs.CallsOutside.{not_old}

-- neither a box nor a goal in it has a new name, and the call isn't in it
pub record IsLeft (k : Calling) (e : Found) : Type 0 where
  pub name : IsNewName k e.content.name → ⊥
  pub goals : (i : Name) → HasGoal i e.goals → (IsNewName k i → ⊥) × (i ≡ k.goal → ⊥)

module _ (k : Calling) where
  -- what stood before, but for the call's box
  left_there : (e : Found) → Stands e k.config.roots → (e ≡ k.home → ⊥) → IsLeft k e
  left_there e x other = record {
    name = λ h. not_old k e.content.name h (old_box k.config k.stand e x);
    goals = λ i h. (
      λ n. not_old k i n (old_goal k.config k.stand i e x h),
      λ q. other (some_value (sym (in_home i h.0 k.config.roots e k.stand.once x h.1) ∙ ap (λ (j : Name). home_of j k.config.roots) q ∙ k.is_home)),
    );
  }

module _ (k : Calling) (a : Content) where
  abbrev pub goals_now : Goals
  goals_now = with_atoms k.worker (slice_index k.config.next k.worker + k.drawn) a.body (without_goal k.goal k.home.goals)

  abbrev new : Boxes
  new = box (joining a k.home.content) goals_now no_boxes

  -- the call's goal was drawn before
  call_old : IsOld k.config k.goal
  call_old = old_goal k.config k.stand k.goal k.home (stood k.config k.stand k.goal k.home k.is_home) (an_atom k.body, k.held)

  home_once : times_inside k.goal k.home.goals ≤ 1
  home_once = let u : times_of k.goal k.home.content + (times_inside k.goal k.home.goals + 0) ≤ 1 = only_once k.config.roots k.stand.once k.home.content.name k.home (was_found k.config k.stand k.goal k.home k.is_home) k.goal in omega arith

  goals_left : (i : Name) → HasGoal i goals_now → (IsNewName k i → ⊥) × (i ≡ k.goal → ⊥)
  goals_left i h = elim (with_atoms_other k.worker (slice_index k.config.next k.worker + k.drawn) a.body i (without_goal k.goal k.home.goals)) [ inl y ↦ body y | inr y ↦ on (same_name i k.goal) refl (sym y ∙ h.1) ]
    where
      body : 0 < drawn_times i k.worker (slice_index k.config.next k.worker + k.drawn) (length a.body) → (IsNewName k i → ⊥) × (i ≡ k.goal → ⊥)
      body y =
          let d : (i.worker ≡ k.worker) × (slice_index k.config.next k.worker + k.drawn ≤ i.number) × (i.number < (slice_index k.config.next k.worker + k.drawn) + length a.body) =
          drawn_place i k.worker (slice_index k.config.next k.worker + k.drawn) (length a.body) y in
          let least : slice_index k.config.next k.worker + k.drawn ≤ i.number = d.1 in (
            λ n.
                let b : (i.worker ≡ k.worker) × (slice_index k.config.next k.worker ≤ i.number) × (i.number < slice_index k.config.next k.worker + k.drawn) = drawn_place i k.worker (slice_index k.config.next k.worker) k.drawn n in
                let most : i.number < slice_index k.config.next k.worker + k.drawn = b.2 in
                omega arith,
            λ q.
                let o : i.number < slice_index k.config.next i.worker = subst (IsOld k.config) (sym q) call_old in
                let u : slice_index k.config.next i.worker ≡ slice_index k.config.next k.worker = ap (slice_index k.config.next) d.0 in
                omega arith,
          )

      on : (t : Bool) → same_name i k.goal ≡ t → held_in i (without_goal k.goal k.home.goals) ≡ Some h.0 → (IsNewName k i → ⊥) × (i ≡ k.goal → ⊥)
      on true q y =
          let z : held_in i (without_goal k.goal k.home.goals) ≡ None = ap (λ (j : Name). held_in j (without_goal k.goal k.home.goals)) (same_name-equal i k.goal q) ∙ without_gone k.goal (an_atom k.body) k.home.goals home_once k.held in
          absurd cc
      on false q y = (
        λ n. not_old k i n (old_goal k.config k.stand i k.home (stood k.config k.stand k.goal k.home k.is_home) (h.0, sym (without_other k.goal i k.home.goals q) ∙ y)),
        λ e. let r : same_name i k.goal ≡ true = subst (λ (j : Name). same_name i j ≡ true) e (same_name-refl i) in cc,
      )

  -- what stands inside the call's box stood there
  inside_left : (more : List Content) (b : Content) (hs : Goals) → InGoals more b hs goals_now → IsLeft k (record { around = k.home.around ++ k.home.content ∷ more; content = b; goals = hs })
  inside_left more b hs u = left_there k (record { around = k.home.around ++ k.home.content ∷ more; content = b; goals = hs })
      (in_deeper k.home.around k.home.content k.home.goals more b hs k.config.roots (stood k.config k.stand k.goal k.home k.is_home)
      (without_in k.goal more b hs k.home.goals (with_atoms_in k.worker (slice_index k.config.next k.worker + k.drawn) a.body more b hs (without_goal k.goal k.home.goals) u)))
      (λ e.
      let x : length (k.home.around ++ k.home.content ∷ more) ≡ length k.home.around = ap (λ (f : Found). length f.around) e in
      let y : length (k.home.around ++ k.home.content ∷ more) ≡ length k.home.around + length (k.home.content ∷ more) = length-append k.home.around (k.home.content ∷ more) in
      omega arith)

  pub stands_left : (e : Found) → Stands e (joined_to k a).roots → IsLeft k e
  stands_left e x = on (edit_in k.home.content.name new k.config.roots e.around e.content e.goals x)
    where
      stood_aside : (gs : Goals) → Stands (record { around = e.around; content = e.content; goals = gs }) k.config.roots → same_name k.home.content.name e.content.name ≡ false → e.goals ≡ edited_inside k.home.content.name new gs → IsLeft k e
      stood_aside gs y n q =
          let u : IsLeft k (record { around = e.around; content = e.content; goals = gs }) = left_there k (record { around = e.around; content = e.content; goals = gs }) y
          (λ r. let v : same_name k.home.content.name e.content.name ≡ true = subst (λ (f : Found). same_name k.home.content.name f.content.name ≡ true) (sym r) (same_name-refl k.home.content.name) in cc) in
          record {
            name = u.name;
            goals = λ i h.
                let w : (v : Held) × (held_in i gs ≡ Some v) × (edited_held k.home.content.name new v ≡ h.0) = map_some (edited_held k.home.content.name new) (held_in i gs) h.0
                (sym (held_edited k.home.content.name new i gs) ∙ subst (λ (hs : Goals). held_in i hs ≡ Some h.0) q h.1) in
                u.goals i (w.0, w.1);
          }

      in_new : (rest : List Content) → BoxIn rest e.content e.goals new → IsLeft k e
      in_new rest (inl t) = record {
        name = λ h. not_old k e.content.name h (subst (λ (b : Content). IsOld k.config b.name) (sym t.1) (old_box k.config k.stand k.home (stood k.config k.stand k.goal k.home k.is_home)));
        goals = λ i h. goals_left i (subst (HasGoal i) t.2 h);
      }
      in_new rest (inr (inl (more, q, u))) = let v : IsLeft k (record { around = k.home.around ++ k.home.content ∷ more; content = e.content; goals = e.goals }) = inside_left more e.content e.goals u in record { name = v.name; goals = v.goals }
      in_new rest (inr (inr z)) = absurd z

      on : AfterEdit k.home.content.name new (λ u b gs. BoxIn u b gs k.config.roots) e.around e.content e.goals → IsLeft k e
      on (outside gs y n q) = stood_aside gs y n q
      on (replaced u b gs rest y n q z) = in_new rest z

  pub home_left : (i : Name) (e : Found) → home_of i (joined_to k a).roots ≡ Some e → (IsNewName k i → ⊥) × (i ≡ k.goal → ⊥)
  home_left i e x = let y : Stands e (joined_to k a).roots × HasGoal i e.goals = home_in i (joined_to k a).roots e x in (stands_left e y.0).goals i y.1

  pub box_left : (n : Name) (e : Found) → box_at n (joined_to k a).roots ≡ Some e → IsNewName k n → ⊥
  box_left n e x h = (stands_left e (found_in n (joined_to k a).roots e x)).name (subst (IsNewName k) (box-itself n (joined_to k a).roots e x) h)
