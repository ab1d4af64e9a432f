-- No box in a stable one has a goal by which it fails, nor has its second copy.
use Rattle.std.proofs.Common.{◌≡◌, ◌≤◌, ◌<◌, List, ◌∷◌, ◌++◌, Bool, true, false, Some, None, refl, sym, ◌∙◌, ap, subst, inl, inr, arith}
use Rattle.std.specs.Prelude.{if◌then◌else◌, option_map}
use Rattle.akl_terms.specs.declared.name.Name.{Name}
use Rattle.akl_terms.specs.declared.name.Place.{Place}
use Rattle.akl_model.specs.Config.{Operator}
use Rattle.akl_terms.specs.declared.program.Program.{Program}
use Rattle.akl_terms.specs.Equal.{Equations}
use Rattle.akl_terms.specs.Names.{same_name}
use Rattle.akl_terms.proofs.SameNames.{same_name-equal}
use Rattle.akl_model.specs.declared.label.Rule.{Rule}
use Rattle.akl_model.specs.Config.{IsIn, Atom, Content, Boxes, no_boxes, box, Goals, no_goals, atom, choice, Config, Held, an_atom, a_choice, held_in, with_content, Found, environment, box_at}
use Rattle.akl_model.specs.Renaming.{renamed_atom, renamed, renamed_goals}
use Rattle.akl_model.specs.Rules.{nothing, count_of, others}
use Rattle.akl_model.specs.Conditions.{HasFailed, IsFailing}
use Rattle.akl_model.specs.Stable.{only, frames_of, IsStableIn, IsStable}
use Rattle.akl_model.specs.Wakes.{names_around}
use Rattle.akl_model.proofs.Options.{some_value, and_some}
use Rattle.akl_model.proofs.Finds.{times_inside}
use Rattle.akl_model.proofs.NamesKept.{Stand, box-itself}
use Rattle.akl_model.proofs.OnlySplits.{holds_at}
use Rattle.step_laws.specs.Whereabouts.{BoxIn, InGoals}
use Rattle.step_laws.proofs.Whereabouts.{found_in}
use Rattle.step_laws.proofs.Deeper.{in_deeper, in_path, named_found}
use Rattle.step_laws.proofs.GoalEdits.{held_inside, with_content_in, with_content_here, with_content_other}
use Rattle.step_laws.proofs.Failing.{failing_found, failed_goal}
use Rattle.table_laws.proofs.RenamedBoxes.{in_renamed}

unfailed : (p : Program) (inner : List Name) (E : Equations) (d : Found) → IsStableIn p inner E d → HasFailed d.goals → ⊥
unfailed p inner E d s h = s.no_rule (record { rule = Rule.Fail; place = Place.Box d.content.name; alternative = None; worker = 0 }) 0 (record { boxes = no_boxes; drawn = 0 })
    (record { reading = nothing; change = refl; allowed = inr h; few_names = omega arith })

-- a box under new names

module _ (f : Name → Name) where
  failing_renamed : (a : Atom) → IsFailing (an_atom (renamed_atom f a)) → IsFailing (an_atom a)
  failing_renamed (Atom.equation s t) x = x
  failing_renamed (Atom.arithmetic test l r) x = x
  failing_renamed (Atom.open_port p s) x = x
  failing_renamed (Atom.send m p) x = x
  failing_renamed (Atom.call d ts r) x = x
  failing_renamed Atom.fail x = x

  pub failed_renamed : (gs : Goals) → HasFailed (renamed_goals f gs) → HasFailed gs
  failed_renamed no_goals x = x
  failed_renamed (atom g a gs) (inl x) = inl (failing_renamed a x)
  failed_renamed (atom g a gs) (inr x) = inr (failed_renamed gs x)
  failed_renamed (choice g Operator.condition no_boxes gs) (inl x) = inl x
  failed_renamed (choice g Operator.commit no_boxes gs) (inl x) = inl x
  failed_renamed (choice g Operator.nondeterminate no_boxes gs) (inl x) = inl x
  failed_renamed (choice g (Operator.collecting r) no_boxes gs) (inl x) = absurd x
  failed_renamed (choice g o (box b hs bs) gs) (inl x) = absurd x
  failed_renamed (choice g o bs gs) (inr x) = inr (failed_renamed gs x)

-- the alternatives but one

pub others_in : (a : Name) (r : List Content) (k : Content) (hs : Goals) (bs : Boxes) → BoxIn r k hs (others a bs) → BoxIn r k hs bs
others_in a r k hs no_boxes x = x
others_in a r k hs (box b gs bs) x = on (same_name a b.name) x (λ y. others_in a r k hs bs y)
  where
    on : (t : Bool) → BoxIn r k hs (if t then bs else box b gs (others a bs)) → (BoxIn r k hs (others a bs) → BoxIn r k hs bs) → BoxIn r k hs (box b gs bs)
    on true y f = inr (inr y)
    on false (inl e) f = inl e
    on false (inr (inl y)) f = inr (inl y)
    on false (inr (inr y)) f = inr (inr (f y))

others_there : (a : Name) (bs : Boxes) → 1 < count_of bs → others a bs ≡ no_boxes → ⊥
others_there a no_boxes h e = absurd (omega arith)
others_there a (box b gs no_boxes) h e = absurd (omega arith)
others_there a (box b gs (box c hs bs)) h e = on (same_name a b.name) e
  where
    on : (t : Bool) → (if t then box c hs bs else box b gs (others a (box c hs bs))) ≡ no_boxes → ⊥
    on true q = cc
    on false q = cc

not_failing : (o : Operator) (bs : Boxes) → (bs ≡ no_boxes → ⊥) → IsFailing (a_choice o bs) → ⊥
not_failing o no_boxes h x = h refl
not_failing o (box b gs bs) h x = x

module _ (p : Program) (c : Config) (s : Stand c) (n : Name) (f : Found) (e : box_at n c.roots ≡ Some f) (stable : IsStable p f) where
  -- in a stable box
  inside_unfailed : (r : List Content) (k : Content) (hs : Goals) → InGoals r k hs f.goals → HasFailed hs → ⊥
  inside_unfailed r k hs x = unfailed p (frames_of (only f)) (environment f) u
      (holds_at (IsStableIn p (frames_of (only f)) (environment f)) c s n f e stable.each (Place.Box k.name) u there (inr (and_some (IsIn n) (option_map names_around (box_at k.name c.roots)) (names_around u) (ap (option_map names_around) there)
      (subst (λ (m : Name). IsIn m (names_around u)) (sym (box-itself n c.roots f e)) (in_path f.around f.content r)))))
    where
      u : Found
      u = record { around = f.around ++ f.content ∷ r; content = k; goals = hs }

      there : box_at k.name c.roots ≡ Some u
      there = named_found c.roots s.once k.name u (in_deeper f.around f.content f.goals r k hs c.roots (found_in n c.roots f e) x) refl

  itself_unfailed : HasFailed f.goals → ⊥
  itself_unfailed = unfailed p (frames_of (only f)) (environment f) f stable.each.0

  module _ (g a : Name) (o : Operator) (bs : Boxes) (held : held_in g f.goals ≡ Some (a_choice o bs)) (more : 1 < count_of bs)
      (once : (i : Name) → times_inside i (with_content g (a_choice o (others a bs)) f.goals) ≤ 1) where
    less_unfailed : HasFailed (with_content g (a_choice o (others a bs)) f.goals) → ⊥
    less_unfailed x = on (same_name w.0 g) refl
      where
        w : (i : Name) × (h : Held) × (held_in i (with_content g (a_choice o (others a bs)) f.goals) ≡ Some h) × IsFailing h
        w = failed_goal (with_content g (a_choice o (others a bs)) f.goals) once x

        on : (t : Bool) → same_name w.0 g ≡ t → ⊥
        on true q =
            let i : w.1 ≡ a_choice o (others a bs) =
            some_value (sym w.2 ∙ ap (λ (m : Name). held_in m (with_content g (a_choice o (others a bs)) f.goals)) (same_name-equal w.0 g q) ∙ with_content_here g (a_choice o (others a bs)) (a_choice o bs) f.goals held) in
            not_failing o (others a bs) (others_there a bs more) (subst IsFailing i w.3)
        on false q = itself_unfailed (failing_found w.0 f.goals w.1 (sym (with_content_other g w.0 (a_choice o (others a bs)) f.goals q) ∙ w.2) w.3)

    -- nor in its copy without an alternative
    pub copy_unfailed : (i : Name → Name) (r : List Content) (k : Content) (hs : Goals) → BoxIn r k hs (renamed i (box f.content (with_content g (a_choice o (others a bs)) f.goals) no_boxes)) → HasFailed hs → ⊥
    copy_unfailed i r k hs x h =
        let w : _ = in_renamed i r k hs (box f.content (with_content g (a_choice o (others a bs)) f.goals) no_boxes) x in
        on w.0 w.1 w.2 w.3 (failed_renamed i w.2 (subst HasFailed w.6 h))
      where
        on : (q : List Content) (j : Content) (is : Goals) → BoxIn q j is (box f.content (with_content g (a_choice o (others a bs)) f.goals) no_boxes) → HasFailed is → ⊥
        on q j is (inl y) z = less_unfailed (subst HasFailed y.2 z)
        on q j is (inr (inl y)) z = elim (with_content_in g (a_choice o (others a bs)) y.0 j is f.goals y.2) [
          | inl v ↦ inside_unfailed y.0 j is (held_inside g o bs y.0 j is f.goals held (others_in a y.0 j is bs v)) z
          | inr v ↦ inside_unfailed y.0 j is v z
        ]
        on q j is (inr (inr y)) z = y
