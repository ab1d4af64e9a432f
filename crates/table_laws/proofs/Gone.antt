-- What a box takes with it where it goes, and what stays.
use Rattle.std.proofs.Common.{◌≡◌, ◌+◌, ◌≤◌, List, [], ◌∷◌, Bool, true, false, Option, Some, None, refl, sym, ◌∙◌, ap, subst, inl, inr, arith}
use Rattle.std.specs.Prelude.{option_map, if◌then◌else◌}
use Rattle.akl_terms.specs.declared.name.Name.{Name}
use Rattle.akl_model.specs.Config.{Operator}
use Rattle.akl_terms.specs.Names.{same_name}
use Rattle.akl_terms.proofs.SameNames.{same_name-equal}
use Rattle.akl_model.specs.Config.{IsIn, Boxes, no_boxes, box, Goals, joined_boxes, Held, an_atom, a_choice, held_in, Found, box_at, home_of, edited, edited_inside}
use Rattle.akl_model.specs.Conditions.{IsFailing}
use Rattle.table_laws.specs.Writes.{fails_empty}
use Rattle.akl_model.specs.Names.{one_if, times_in}
use Rattle.akl_model.specs.Changes.{box_names}
use Rattle.akl_model.specs.Wakes.{names_around, names_down_to}
use Rattle.akl_model.proofs.Options.{none_where, some_value, map_some}
use Rattle.akl_model.proofs.Finds.{times, times_inside}
use Rattle.akl_model.proofs.NamesKept.{box-itself, home-box}
use Rattle.akl_model.proofs.ScopesAlong.{counted_in, times_path}
use Rattle.akl_model.proofs.Scoped.{IsIn-left, IsIn-right, IsIn-either}
use Rattle.step_laws.specs.Whereabouts.{BoxIn, Stands}
use Rattle.step_laws.proofs.Whereabouts.{found_in, in_counted, home_in, in_home}
use Rattle.step_laws.proofs.Deeper.{Over, over, named_found}
use Rattle.step_laws.proofs.Edits.{AfterEdit, outside, replaced, edit_in, edit_out, edited_held, held_edited}
use Rattle.step_laws.proofs.Failing.{failed_goal, failing_found}
use Rattle.table_laws.specs.Unfolds.{FailsBy}
use Rattle.table_laws.proofs.Along.{not_among}
use Rattle.table_laws.specs.Writes.{less_name}
use Rattle.table_laws.proofs.Sets.{other_by, other_name}

-- names of boxes of which one goes

pub same_names : (n : Name) (new bs : Boxes) → (IsIn n (box_names bs) → ⊥) → box_names (edited n new bs) ≡ box_names bs
same_names n new no_boxes h = refl
same_names n new (box b gs bs) h = on (same_name n b.name) refl (same_names n new bs (λ i. h (inr i)))
  where
    on : (t : Bool) → same_name n b.name ≡ t → box_names (edited n new bs) ≡ box_names bs
        → box_names (if t then joined_boxes new (edited n new bs) else box b (edited_inside n new gs) (edited n new bs)) ≡ b.name ∷ box_names bs
    on true r e = absurd (h (inl (same_name-equal n b.name r)))
    on false r e = ap (λ (ns : List Name). b.name ∷ ns) e

pub names_left : (n : Name) (bs : Boxes) → times_in n (box_names bs) ≤ 1 → box_names (edited n no_boxes bs) ≡ less_name n (box_names bs)
names_left n no_boxes o = refl
names_left n (box b gs bs) o = on (same_name n b.name) refl (names_left n bs (omega arith))
  where
    on : (t : Bool) → same_name n b.name ≡ t → box_names (edited n no_boxes bs) ≡ less_name n (box_names bs)
        → box_names (if t then joined_boxes no_boxes (edited n no_boxes bs) else box b (edited_inside n no_boxes gs) (edited n no_boxes bs)) ≡ (if t then box_names bs else b.name ∷ less_name n (box_names bs))
    on true r e = same_names n no_boxes bs (λ i. let u : one_if (same_name n b.name) ≡ 1 = ap one_if r in let v : 1 ≤ times_in n (box_names bs) = counted_in n (box_names bs) i in omega (arith, u, v, o))
    on false r e = ap (λ (ns : List Name). b.name ∷ ns) e

pub names_gone : (n : Name) (bs : Boxes) → IsIn n (box_names (edited n no_boxes bs)) → ⊥
names_gone n no_boxes i = i
names_gone n (box b gs bs) i = on (same_name n b.name) refl i (names_gone n bs)
  where
    on : (t : Bool) → same_name n b.name ≡ t → IsIn n (box_names (if t then joined_boxes no_boxes (edited n no_boxes bs) else box b (edited_inside n no_boxes gs) (edited n no_boxes bs)))
        → (IsIn n (box_names (edited n no_boxes bs)) → ⊥) → ⊥
    on true r j f = f j
    on false r (inl e) f = other_name n b.name r e
    on false r (inr j) f = f j

-- the goals by which a box fails

-- where a choice has no alternative after the edit, and fails so, it had none
abbrev pub KeepsAlternatives : Name → Boxes → Goals → Type 0
KeepsAlternatives n new gs = (g : Name) (o : Operator) (bs : Boxes) → held_in g gs ≡ Some (a_choice o bs) → fails_empty o ≡ true → edited n new bs ≡ no_boxes → bs ≡ no_boxes

pub empty_or : (o : Operator) → IsFailing (a_choice o no_boxes) → fails_empty o ≡ true
empty_or Operator.condition x = refl
empty_or Operator.commit x = refl
empty_or Operator.nondeterminate x = refl
empty_or (Operator.collecting r) x = absurd x

failing_edited : (n : Name) (new : Boxes) (h : Held) → IsFailing h → IsFailing (edited_held n new h)
failing_edited n new (an_atom a) x = x
failing_edited n new (a_choice o no_boxes) x = x
failing_edited n new (a_choice o (box b gs bs)) x = absurd x

failing_was : (n : Name) (new : Boxes) (h : Held) → ((o : Operator) (bs : Boxes) → h ≡ a_choice o bs → fails_empty o ≡ true → edited n new bs ≡ no_boxes → bs ≡ no_boxes) → IsFailing (edited_held n new h) → IsFailing h
failing_was n new (an_atom a) k x = x
failing_was n new (a_choice o bs) k x = on (edited n new bs) refl x
  where
    on : (cs : Boxes) → edited n new bs ≡ cs → IsFailing (a_choice o cs) → IsFailing (a_choice o bs)
    on no_boxes e y = subst (λ (cs : Boxes). IsFailing (a_choice o cs)) (sym (k o bs refl (empty_or o y) e)) y
    on (box b gs cs) e y = absurd y

pub fails_by_kept : (n : Name) (new : Boxes) (gs : Goals) (o : Option Name) → ((g : Name) → times_inside g (edited_inside n new gs) ≤ 1) → KeepsAlternatives n new gs → FailsBy gs o → FailsBy (edited_inside n new gs) o
fails_by_kept n new gs None once k x = λ y. on (failed_goal (edited_inside n new gs) once y)
  where
    on : ((g : Name) × (h : Held) × (held_in g (edited_inside n new gs) ≡ Some h) × IsFailing h) → ⊥
    on w =
        let v : (h : Held) × (held_in w.0 gs ≡ Some h) × (edited_held n new h ≡ w.1) = map_some (edited_held n new) (held_in w.0 gs) w.1 (sym (held_edited n new w.0 gs) ∙ w.2) in
        x (failing_found w.0 gs v.0 v.1 (failing_was n new v.0 (λ o bs q f e. k w.0 o bs (v.1 ∙ ap Some q) f e) (subst IsFailing (sym v.2) w.3)))
fails_by_kept n new gs (Some g) once k x = (edited_held n new x.0, held_edited n new g gs ∙ ap (option_map (edited_held n new)) x.1, failing_edited n new x.0 x.2)

no_names : (bs : Boxes) → box_names bs ≡ [] → bs ≡ no_boxes
no_names no_boxes e = refl
no_names (box b gs bs) e = cc

pub empty_fails : (o : Operator) → fails_empty o ≡ true → IsFailing (a_choice o no_boxes)
empty_fails Operator.condition e = tt
empty_fails Operator.commit e = tt
empty_fails Operator.nondeterminate e = tt
empty_fails (Operator.collecting r) e = cc

-- a choice that has no alternative left makes its box fail
pub fails_by_empty : (n g : Name) (o : Operator) (bs : Boxes) (gs : Goals) → held_in g gs ≡ Some (a_choice o bs) → fails_empty o ≡ true → box_names (edited n no_boxes bs) ≡ [] → FailsBy (edited_inside n no_boxes gs) (Some g)
fails_by_empty n g o bs gs e f z = (
  a_choice o (edited n no_boxes bs),
  held_edited n no_boxes g gs ∙ ap (option_map (edited_held n no_boxes)) e,
  subst (λ (cs : Boxes). IsFailing (a_choice o cs)) (sym (no_names (edited n no_boxes bs) z)) (empty_fails o f),
)

-- boxes of which none goes
pub kept_where : (n : Name) (bs : Boxes) → (IsIn n (box_names bs) → ⊥) → edited n no_boxes bs ≡ no_boxes → bs ≡ no_boxes
kept_where n bs h e = no_names bs (sym (same_names n no_boxes bs h) ∙ ap box_names e)

pub goals_once : (bs : Boxes) → ((m : Name) → times m bs ≤ 1) → (f : Found) → Stands f bs → (m : Name) → times_inside m f.goals ≤ 1
goals_once bs once f x m =
    let a : times m (box f.content f.goals no_boxes) + times_path m f.around ≤ times m bs = in_counted m f.around f.content f.goals bs x in
    let o : times m bs ≤ 1 = once m in
    omega arith

-- a box from which one goes
abbrev pub left : Name → Found → Found
left n f = record { around = f.around; content = f.content; goals = edited_inside n no_boxes f.goals }

module _ (n : Name) (cs : Boxes) (once : (m : Name) → times m cs ≤ 1) (still : (m : Name) → times m (edited n no_boxes cs) ≤ 1) where
  abbrev ds : Boxes
  ds = edited n no_boxes cs

  -- what stands stood
  pub was : (g : Found) → Stands g ds → (gs : Goals) × BoxIn g.around g.content gs cs × (same_name n g.content.name ≡ false) × (g.goals ≡ edited_inside n no_boxes gs)
  was g x = on (edit_in n no_boxes cs g.around g.content g.goals x)
    where
      on : AfterEdit n no_boxes (λ a k is. BoxIn a k is cs) g.around g.content g.goals → (gs : Goals) × BoxIn g.around g.content gs cs × (same_name n g.content.name ≡ false) × (g.goals ≡ edited_inside n no_boxes gs)
      on (outside gs y q e) = (gs, y, q, e)
      on (replaced a b gs rest y q e z) = absurd z

  pub left_stands : (f : Found) → Stands f cs → (IsIn n (names_down_to f) → ⊥) → Stands (left n f) ds
  left_stands f x h = edit_out n no_boxes cs f.around f.content f.goals x (other_by n f.content.name (λ e. h (IsIn-right n (names_around f) (f.content.name ∷ []) (inl e))))
      (not_among n no_boxes f.around (λ i. h (IsIn-left n (names_around f) (f.content.name ∷ []) i)))

  -- a box that isn't inside stays
  pub box_left : (k : Name) (f : Found) → box_at k cs ≡ Some f → (IsIn n (names_down_to f) → ⊥) → box_at k ds ≡ Some (left n f)
  box_left k f e h = named_found ds still k (left n f) (left_stands f (found_in k cs f e) h) (box-itself k cs f e)

  pub box_was : (k : Name) (g : Found) → box_at k ds ≡ Some g → (gs : Goals) × (box_at k cs ≡ Some (record { around = g.around; content = g.content; goals = gs })) × (IsIn n (names_down_to g) → ⊥)
  box_was k g e = on (was g (found_in k ds g e))
    where
      apart : same_name n g.content.name ≡ false → IsIn n (names_down_to g) → ⊥
      apart q i = elim (IsIn-either n (names_around g) (g.content.name ∷ []) i) [
        | inl j ↦
            let v : Over n g ds = over n g ds (found_in k ds g e) j in
            let w : (gs : Goals) × BoxIn v.outer.around v.outer.content gs cs × (same_name n v.outer.content.name ≡ false) × (v.outer.goals ≡ edited_inside n no_boxes gs) = was v.outer v.stands in
            other_name n v.outer.content.name w.2 v.named
        | inr j ↦ elim j [ inl r ↦ other_name n g.content.name q r | inr z ↦ z ]
      ]

      on : ((gs : Goals) × BoxIn g.around g.content gs cs × (same_name n g.content.name ≡ false) × (g.goals ≡ edited_inside n no_boxes gs))
          → (gs : Goals) × (box_at k cs ≡ Some (record { around = g.around; content = g.content; goals = gs })) × (IsIn n (names_down_to g) → ⊥)
      on w = (w.0, named_found cs once k (record { around = g.around; content = g.content; goals = w.0 }) w.1 (box-itself k ds g e), apart w.2)

  -- one inside goes
  pub box_gone : (k : Name) (f : Found) → box_at k cs ≡ Some f → IsIn n (names_down_to f) → box_at k ds ≡ None
  box_gone k f e i = none_where (box_at k ds) (λ g x.
      let w : (gs : Goals) × (box_at k cs ≡ Some (record { around = g.around; content = g.content; goals = gs })) × (IsIn n (names_down_to g) → ⊥) = box_was k g x in
      w.2 (subst (λ (z : Found). IsIn n (names_down_to z)) (some_value (sym e ∙ w.1)) i))

  pub box_none : (k : Name) → box_at k cs ≡ None → box_at k ds ≡ None
  box_none k e = none_where (box_at k ds) (λ g x.
      let w : (gs : Goals) × (box_at k cs ≡ Some (record { around = g.around; content = g.content; goals = gs })) × (IsIn n (names_down_to g) → ⊥) = box_was k g x in
      cc)

  -- so with goals and their homes

  pub held_left : (g : Name) (f : Found) (h : Held) → held_in g f.goals ≡ Some h → held_in g (left n f).goals ≡ Some (edited_held n no_boxes h)
  held_left g f h e = held_edited n no_boxes g f.goals ∙ ap (option_map (edited_held n no_boxes)) e

  pub home_left : (g : Name) (f : Found) → home_of g cs ≡ Some f → (IsIn n (names_down_to f) → ⊥) → home_of g ds ≡ Some (left n f)
  home_left g f e h =
      let x : Stands f cs × ((k : Held) × (held_in g f.goals ≡ Some k)) = home_in g cs f e in
      in_home g (edited_held n no_boxes x.1.0) ds (left n f) still (left_stands f x.0 h) (held_left g f x.1.0 x.1.1)

  pub home_was : (g : Name) (k : Found) → home_of g ds ≡ Some k → (gs : Goals) × (home_of g cs ≡ Some (record { around = k.around; content = k.content; goals = gs })) × (IsIn n (names_down_to k) → ⊥)
  home_was g k e = on (box_was k.content.name k (home-box g ds k still e)) (was k (home_in g ds k e).0)
    where
      Result : Type 0
      Result = (gs : Goals) × (home_of g cs ≡ Some (record { around = k.around; content = k.content; goals = gs })) × (IsIn n (names_down_to k) → ⊥)

      on : ((gs : Goals) × (box_at k.content.name cs ≡ Some (record { around = k.around; content = k.content; goals = gs })) × (IsIn n (names_down_to k) → ⊥))
          → ((gs : Goals) × BoxIn k.around k.content gs cs × (same_name n k.content.name ≡ false) × (k.goals ≡ edited_inside n no_boxes gs)) → Result
      on v w =
          let h : (x : Held) × (held_in g k.goals ≡ Some x) = (home_in g ds k e).1 in
          let x : (u : Held) × (held_in g w.0 ≡ Some u) × (edited_held n no_boxes u ≡ h.0) =
          map_some (edited_held n no_boxes) (held_in g w.0) h.0 (sym (held_edited n no_boxes g w.0) ∙ ap (held_in g) (sym w.3) ∙ h.1) in
          (w.0, in_home g x.0 cs (record { around = k.around; content = k.content; goals = w.0 }) once w.1 x.1, v.2)

  pub home_gone : (g : Name) (f : Found) → home_of g cs ≡ Some f → IsIn n (names_down_to f) → home_of g ds ≡ None
  home_gone g f e i = none_where (home_of g ds) (λ k x.
      let w : (gs : Goals) × (home_of g cs ≡ Some (record { around = k.around; content = k.content; goals = gs })) × (IsIn n (names_down_to k) → ⊥) = home_was g k x in
      w.2 (subst (λ (z : Found). IsIn n (names_down_to z)) (some_value (sym e ∙ w.1)) i))

  pub home_none : (g : Name) → home_of g cs ≡ None → home_of g ds ≡ None
  home_none g e = none_where (home_of g ds) (λ k x.
      let w : (gs : Goals) × (home_of g cs ≡ Some (record { around = k.around; content = k.content; goals = gs })) × (IsIn n (names_down_to k) → ⊥) = home_was g k x in
      cc)
