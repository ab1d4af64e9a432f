-- A store with the frames of all boxes that were listed.
use Rattle.std.proofs.Common.{◌≡◌, List, [], ◌∷◌, map, Option, refl, sym, ◌∙◌, subst, ◌⊎◌, inl, inr}
use Rattle.std.specs.List.{AllByRecursion}
use Rattle.akl_terms.specs.declared.name.Name.{Name}
use Rattle.akl_terms.specs.declared.name.Var.{Var}
use Rattle.akl_terms.specs.Touching.{IsLocal}
use Rattle.akl_model.specs.Config.{IsIn}
use Rattle.local_store.specs.Stored.{Stored}
use Rattle.local_store.specs.Promoting.{with_frames}
use Rattle.table_laws.specs.Rows.{BoxRow, store_in}
use Rattle.box_tree.specs.declared.inside.InnerBox.{InnerBox}
use Rattle.box_tree.specs.Tables.{TableValue, table_of}
use Rattle.box_tree.specs.Insides.{IsInnerBox}
use Rattle.stable_test.specs.Frames.{with_all_frames}
use Rattle.stable_test.proofs.FramesAdded.{added_local, local_added, bindings_kept}

-- one of these boxes has the frame
abbrev pub HasBoxFrame : List InnerBox → Var → Type 0
HasBoxFrame [] x = ⊥
HasBoxFrame (b ∷ bs) x = IsLocal b.store.frames x ⊎ HasBoxFrame bs x

pub all_local : (s : Stored) (bs : List InnerBox) (x : Var) → IsLocal (with_all_frames s bs).frames x → IsLocal s.frames x ⊎ HasBoxFrame bs x
all_local s [] x l = inl l
all_local s (b ∷ bs) x l = elim (all_local (with_frames s b.store.frames) bs x l) [
  | inl k ↦ elim (added_local s b.store.frames x k) [ inl j ↦ inl j | inr j ↦ inr (inl j) ]
  | inr k ↦ inr (inr k)
]

pub local_all : (s : Stored) (bs : List InnerBox) (x : Var) → IsLocal s.frames x ⊎ HasBoxFrame bs x → IsLocal (with_all_frames s bs).frames x
local_all s [] x (inl l) = l
local_all s [] x (inr z) = absurd z
local_all s (b ∷ bs) x (inl l) = local_all (with_frames s b.store.frames) bs x (inl (local_added s b.store.frames x (inl l)))
local_all s (b ∷ bs) x (inr (inl l)) = local_all (with_frames s b.store.frames) bs x (inl (local_added s b.store.frames x (inr l)))
local_all s (b ∷ bs) x (inr (inr k)) = local_all (with_frames s b.store.frames) bs x (inr k)

pub all_unbound : (s : Stored) (bs : List InnerBox) → (with_all_frames s bs).bindings ≡ s.bindings
all_unbound s [] = refl
all_unbound s (b ∷ bs) = all_unbound (with_frames s b.store.frames) bs ∙ bindings_kept s b.store.frames

-- by the rows of these boxes
module _ (t : TableValue) where
  abbrev pub FrameAt : Name → Var → Type 0
  FrameAt m x = IsLocal (store_in ((table_of t).box_of m)).frames x

  pub box_frame : (bs : List InnerBox) → AllByRecursion (IsInnerBox t) bs → (x : Var) → HasBoxFrame bs x → (m : Name) × IsIn m (map (λ (b : InnerBox). b.name) bs) × FrameAt m x
  box_frame [] all x h = absurd h
  box_frame (b ∷ bs) all x (inl l) = (b.name, inl refl, subst (λ (o : Option BoxRow). IsLocal (store_in o).frames x) (sym all.0.there) (subst (λ (s : Stored). IsLocal s.frames x) all.0.store l))
  box_frame (b ∷ bs) all x (inr h) = let w : (m : Name) × IsIn m (map (λ (b : InnerBox). b.name) bs) × FrameAt m x = box_frame bs all.1 x h in (w.0, inr w.1, w.2)

  pub frame_box : (bs : List InnerBox) → AllByRecursion (IsInnerBox t) bs → (x : Var) (m : Name) → IsIn m (map (λ (b : InnerBox). b.name) bs) → FrameAt m x → HasBoxFrame bs x
  frame_box [] all x m i l = absurd i
  frame_box (b ∷ bs) all x m (inl e) l =
      inl (subst (λ (s : Stored). IsLocal s.frames x) (sym all.0.store) (subst (λ (o : Option BoxRow). IsLocal (store_in o).frames x) all.0.there (subst (λ (k : Name). FrameAt k x) e l)))
  frame_box (b ∷ bs) all x m (inr i) l = inr (frame_box bs all.1 x m i l)
