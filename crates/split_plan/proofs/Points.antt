-- Where a stable box may be split: the alternatives inside it are consistent.
use Rattle.std.proofs.Common.{◌≡◌, [], ◌∷◌, Bool, true, false, Some, refl, inl, inr}
use Rattle.std.specs.Prelude.{if◌then◌else◌, IsSomeAnd}
use Rattle.akl_terms.specs.declared.name.Name.{Name}
use Rattle.akl_terms.specs.Names.{same_name}
use Rattle.akl_terms.specs.Equal.{IsConsistent}
use Rattle.akl_model.specs.Config.{IsIn, Content, Boxes, no_boxes, box, Goals, a_choice, held_in, Found, environment, whole}
use Rattle.akl_model.specs.Rules.{alternative_of}
use Rattle.akl_model.specs.Stable.{only, frames_of, IsStableIn, IsStable, IsSplitPoint}
use Rattle.akl_model.specs.Changes.{box_names}
use Rattle.akl_model.proofs.Options.{and_some}
use Rattle.akl_model.proofs.Drawn.{held-choice}
use Rattle.akl_model.proofs.StableGrows.{untouched_box}
use Rattle.step_laws.specs.Whereabouts.{BoxIn}
use Rattle.step_laws.proofs.Whereabouts.{found_in}
use Rattle.step_laws.proofs.GoalEdits.{held_inside}
use Rattle.table_laws.proofs.Gone.{goals_once}
use Rattle.table_laws.proofs.Sets.{other_name}
use Rattle.table_laws.proofs.RestBoxes.{first_named}
use Rattle.box_tree.specs.Views.{ViewValue, IsViewOf}
use Rattle.guard_plan.proofs.ChoiceNone.{inside_of}
use Rattle.guard_plan.proofs.Sites.{stand, found}
use Rattle.stable_test.proofs.EachInside.{IsDown, deeper, holds_down}
use Rattle.split_plan.proofs.Candidates.{IsPoint}

-- an alternative of a name
named_alternative : (f : Found) (a : Name) (bs : Boxes) → IsIn a (box_names bs) → (b : Content) × (gs : Goals) × BoxIn [] b gs bs × (alternative_of f a bs ≡ Some (inside_of f b gs))
named_alternative f a no_boxes i = absurd i
named_alternative f a (box b gs bs) i = on (same_name a b.name) refl i (named_alternative f a bs)
  where
    on : (t : Bool) → same_name a b.name ≡ t → IsIn a (b.name ∷ box_names bs) → (IsIn a (box_names bs) → (c : Content) × (hs : Goals) × BoxIn [] c hs bs × (alternative_of f a bs ≡ Some (inside_of f c hs)))
        → (c : Content) × (hs : Goals) × BoxIn [] c hs (box b gs bs) × ((if t then Some (inside_of f b gs) else alternative_of f a bs) ≡ Some (inside_of f c hs))
    on true q j r = (b, gs, inl (refl, refl, refl), refl)
    on false q (inl e) r = absurd (other_name a b.name q e)
    on false q (inr j) r = let w : _ = r j in (w.0, w.1, inr (inr w.2), w.3)

module _ (v : ViewValue) (i : IsViewOf v) (a : Name) (p : IsPoint a i.site.goals) (stable : IsStable v.table.program i.site) where
  held : held_in p.among.name i.site.goals ≡ Some (a_choice p.among.op p.among.alternatives)
  held = held-choice a i.site.goals p.among (goals_once i.table.config.roots (stand v i).once i.site (found_in i.site.content.name i.table.config.roots i.site (found v i)) p.among.name) p.is_choice

  consistent_in : (b : Content) (gs : Goals) → BoxIn [] b gs p.among.alternatives → IsConsistent (whole (inside_of i.site b gs))
  consistent_in b gs x = (untouched_box v.table.program (frames_of (only i.site)) (environment i.site) (inside_of i.site b gs) in_it).consistent
    where
      down : IsDown i.table.config (stand v i) i.site.content.name i.site (found v i) (inside_of i.site b gs)
      down = deeper i.table.config (stand v i) i.site.content.name i.site (found v i) [] b gs (held_inside p.among.name p.among.op p.among.alternatives [] b gs i.site.goals held x)

      in_it : IsStableIn v.table.program (frames_of (only i.site)) (environment i.site) (inside_of i.site b gs)
      in_it = holds_down i.table.config (stand v i) i.site.content.name i.site (found v i) (IsStableIn v.table.program (frames_of (only i.site)) (environment i.site)) stable.each (inside_of i.site b gs) down

  pub split_point : IsSplitPoint i.site a p.among
  split_point = record { nondeterminate = p.op; first = p.first; consistent = consistent; others = p.others }
    where
      consistent : IsSomeAnd (alternative_of i.site a p.among.alternatives) (λ (m : Found). IsConsistent (whole m))
      consistent =
          let w : (b : Content) × (gs : Goals) × BoxIn [] b gs p.among.alternatives × (alternative_of i.site a p.among.alternatives ≡ Some (inside_of i.site b gs)) =
          named_alternative i.site a p.among.alternatives (first_named a p.among.alternatives p.first) in
          and_some (λ (m : Found). IsConsistent (whole m)) (alternative_of i.site a p.among.alternatives) (inside_of i.site w.0 w.1) w.3 (consistent_in w.0 w.1 w.2)
