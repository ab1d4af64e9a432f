-- What stands in the configurations between the labels of a call at once.
use Rattle.std.proofs.Common.{◌≡◌, ℕ, ◌+◌, ◌≤◌, ◌<◌, List, [], Some, refl, sym, ap, subst, inl, inr, arith, append-nil}
use Rattle.std.specs.Prelude.{slice_index}
use Rattle.akl_terms.specs.declared.name.Name.{Name}
use Rattle.akl_terms.specs.Names.{same_name}
use Rattle.akl_terms.proofs.SameNames.{same_name-refl}
use Rattle.akl_model.specs.Config.{Atom, Operator, Content, Boxes, no_boxes, box, Goals, Config, an_atom, a_choice, held_in, with_content, Found, box_at, home_of, edited}
use Rattle.akl_model.specs.Stable.{only}
use Rattle.akl_model.specs.Names.{one_if, HasDistinctNames}
use Rattle.akl_model.proofs.Finds.{zero_or, times, times_of, times_inside, times-names, times-edited}
use Rattle.akl_model.proofs.Drawn.{drawn_times, drawn_place, times_held, times-with_content}
use Rattle.akl_model.proofs.NamesKept.{Stand, home-box}
use Rattle.akl_model.proofs.ScopesAlong.{times_path}
use Rattle.step_laws.specs.Whereabouts.{BoxIn, Stands}
use Rattle.step_laws.proofs.Whereabouts.{home_in, in_found, in_home, in_counted}
use Rattle.step_laws.proofs.Edits.{NotNamed, edit_new, not_named}
use Rattle.step_laws.proofs.GoalEdits.{with_content_here}
use Rattle.plan_laws.specs.Between.{with_choice, choosing}

pub stand_of : (c : Config) → HasDistinctNames c → Stand c
stand_of c h = record {
  once = λ n. subst (λ (k : ℕ). k ≤ 1) (times-names n c.roots) (h.once n);
  below = λ n k. h.below n (subst (λ (j : ℕ). 0 < j) (sym (times-names n c.roots)) k);
}

pub distinct_of : (c : Config) → Stand c → HasDistinctNames c
distinct_of c s = record {
  once = λ n. subst (λ (k : ℕ). k ≤ 1) (sym (times-names n c.roots)) (s.once n);
  below = λ n k. s.below n (subst (λ (j : ℕ). 0 < j) (times-names n c.roots) k);
}

-- the goal's box before, and with the goal as a choice
module _ (c : Config) (s : Stand c) (g : Name) (f : Found) (is_home : home_of g c.roots ≡ Some f) where
  pub stood : Stands f c.roots
  stood = (home_in g c.roots f is_home).0

  pub was_found : box_at f.content.name c.roots ≡ Some f
  was_found = home-box g c.roots f s.once is_home

  pub counted : (m : Name) → times m (only f) + times_path m f.around ≤ times m c.roots
  counted m = in_counted m f.around f.content f.goals c.roots stood

  -- no box around it has its name
  pub apart : (new : Boxes) → NotNamed f.content.name new f.around
  apart new =
      let a : times f.content.name (only f) + times_path f.content.name f.around ≤ times f.content.name c.roots = counted f.content.name in
      let b : times f.content.name c.roots ≤ 1 = s.once f.content.name in
      let u : one_if (same_name f.content.name f.content.name) ≡ 1 = ap one_if (same_name-refl f.content.name) in
      not_named f.content.name new f.around (omega arith)

  -- another box in its place
  pub stands_now : (b : Content) (gs : Goals) → Stands (record { around = f.around; content = b; goals = gs }) (edited f.content.name (box b gs no_boxes) c.roots)
  stands_now b gs = subst (λ (r : List Content). BoxIn r b gs (edited f.content.name (box b gs no_boxes) c.roots)) (append-nil f.around)
      (edit_new f.content.name (box b gs no_boxes) [] b gs (inl (refl, refl, refl)) c.roots f.around f.content f.goals stood (same_name-refl f.content.name) (apart (box b gs no_boxes)))

  -- a name drawn by a worker isn't there
  pub unknown : (w k : ℕ) (m : Name) → 0 < drawn_times m w (slice_index c.next w) k → times m c.roots ≡ 0
  unknown w k m h = elim (zero_or (times m c.roots)) [
    | inl e ↦ e
    | inr i ↦
        let d : (m.worker ≡ w) × (slice_index c.next w ≤ m.number) × (m.number < slice_index c.next w + k) = drawn_place m w (slice_index c.next w) k h in
        let b : m.number < slice_index c.next m.worker = s.below m i in
        let u : slice_index c.next m.worker ≡ slice_index c.next w = ap (slice_index c.next) d.0 in
        let v : slice_index c.next w ≤ m.number = d.1 in
        absurd (omega arith)
  ]

  module _ (x : Atom) (held : held_in g f.goals ≡ Some (an_atom x)) (o : Operator) (bs : Boxes) (next : List ℕ) where
    pub stands : Stands (with_choice f g o bs) (choosing c f g o bs next).roots
    stands = stands_now f.content (with_content g (a_choice o bs) f.goals)

    pub is_choice : held_in g (with_choice f g o bs).goals ≡ Some (a_choice o bs)
    is_choice = with_content_here g (a_choice o bs) (an_atom x) f.goals held

    pub found : Stand (choosing c f g o bs next) → box_at f.content.name (choosing c f g o bs next).roots ≡ Some (with_choice f g o bs)
    found t = in_found (choosing c f g o bs next).roots (with_choice f g o bs) t.once stands

    pub home : Stand (choosing c f g o bs next) → home_of g (choosing c f g o bs next).roots ≡ Some (with_choice f g o bs)
    home t = in_home g (a_choice o bs) (choosing c f g o bs next).roots (with_choice f g o bs) t.once stands is_choice

    -- what stands in the alternatives stands there besides
    pub counts : (m : Name) → times m (choosing c f g o bs next).roots ≡ times m c.roots + times m bs
    counts m =
        let a : times m (edited f.content.name (only (with_choice f g o bs)) c.roots) + times m (only f) ≡ times m c.roots + times m (only (with_choice f g o bs)) =
        times-edited m f.content.name (only (with_choice f g o bs)) c.roots f (s.once f.content.name) was_found in
        let d : times_inside m (with_content g (a_choice o bs) f.goals) + times_held m (an_atom x) ≡ times_inside m f.goals + times_held m (a_choice o bs) = times-with_content m g (a_choice o bs) (an_atom x) f.goals held in
        let e : times m (only f) ≡ times_of m f.content + (times_inside m f.goals + 0) = refl in
        let h : times m (only (with_choice f g o bs)) ≡ times_of m f.content + (times_inside m (with_content g (a_choice o bs) f.goals) + 0) = refl in
        let y : times_held m (a_choice o bs) ≡ times m bs = refl in
        let z : times_held m (an_atom x) ≡ 0 = refl in
        omega arith

    pub once : Stand (choosing c f g o bs next) → (m : Name) → times m bs ≤ 1
    once t m = let a : times m (choosing c f g o bs next).roots ≤ 1 = t.once m in let b : times m (choosing c f g o bs next).roots ≡ times m c.roots + times m bs = counts m in omega arith
