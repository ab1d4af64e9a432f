-- A frame stands in one box; where a frame in scope stands; and which boxes stand inside one.
use Rattle.std.proofs.Common.{◌≡◌, ◌+◌, ◌≤◌, ◌<◌, List, [], ◌∷◌, ◌++◌, refl, sym, ap, subst, ◌⊎◌, ◌∙◌, inl, inr, arith, append_assoc, append-nil}
use Rattle.akl_terms.specs.declared.name.Name.{Name}
use Rattle.akl_model.specs.Config.{IsIn, Content, Boxes, no_boxes, box, Goals, no_goals, atom, choice, Found}
use Rattle.akl_model.specs.Stable.{frames_of, frames_inside}
use Rattle.akl_model.specs.Scopes.{Scope, scope_in}
use Rattle.akl_model.specs.Names.{times_in}
use Rattle.akl_model.specs.Wakes.{SomeBox, SomeInside}
use Rattle.akl_model.proofs.Finds.{times, times_of, times_inside}
use Rattle.akl_model.proofs.Scoped.{IsIn-left, IsIn-right, IsIn-either}
use Rattle.akl_model.proofs.ScopesAlong.{scope_along, times_path, counted_in}
use Rattle.step_laws.specs.Whereabouts.{BoxIn, InGoals, Stands, StandsAmong}
use Rattle.step_laws.proofs.Whereabouts.{in_counted, among_counted}

-- a frame stands in one box
module _ (k : Name) where
  -- it is counted where its box stands
  in_boxes : (f : Found) (bs : Boxes) → IsIn k f.content.frames → Stands f bs → 1 ≤ times k bs
  in_boxes f bs h x =
      let a : times k (box f.content f.goals no_boxes) + times_path k f.around ≤ times k bs = in_counted k f.around f.content f.goals bs x in
      let b : 0 < times_in k f.content.frames = counted_in k f.content.frames h in
      omega arith

  in_goals : (f : Found) (gs : Goals) → IsIn k f.content.frames → StandsAmong f gs → 1 ≤ times_inside k gs
  in_goals f gs h x =
      let a : times k (box f.content f.goals no_boxes) + times_path k f.around ≤ times_inside k gs = among_counted k f.around f.content f.goals gs x in
      let b : 0 < times_in k f.content.frames = counted_in k f.content.frames h in
      omega arith

  in_content : (f : Found) (b : Content) → IsIn k f.content.frames → f.content ≡ b → 1 ≤ times_of k b
  in_content f b h q = let c : 0 < times_in k b.frames = counted_in k b.frames (subst (λ (u : Content). IsIn k u.frames) q h) in omega arith

  mutual
    pub one_frame : (bs : Boxes) (f g : Found) → times k bs ≤ 1 → IsIn k f.content.frames → IsIn k g.content.frames → Stands f bs → Stands g bs → f ≡ g
    one_frame no_boxes f g once h i x y = absurd x
    one_frame (box b gs bs) f g once h i (inl x) (inl y) = λ j. record { around = (x.0 ∙ sym y.0) j; content = (x.1 ∙ sym y.1) j; goals = (x.2 ∙ sym y.2) j }
    one_frame (box b gs bs) f g once h i (inl x) (inr (inl (r, q, y))) =
        let u : 1 ≤ times_of k b = in_content f b h x.1 in
        let v : 1 ≤ times_inside k gs = in_goals (record g { around = r }) gs i y in
        absurd (omega (arith, once, u, v))
    one_frame (box b gs bs) f g once h i (inl x) (inr (inr y)) =
        let u : 1 ≤ times_of k b = in_content f b h x.1 in
        let v : 1 ≤ times k bs = in_boxes g bs i y in
        absurd (omega (arith, once, u, v))
    one_frame (box b gs bs) f g once h i (inr (inl (r, q, x))) (inl y) =
        let u : 1 ≤ times_of k b = in_content g b i y.1 in
        let v : 1 ≤ times_inside k gs = in_goals (record f { around = r }) gs h x in
        absurd (omega (arith, once, u, v))
    one_frame (box b gs bs) f g once h i (inr (inl (r, q, x))) (inr (inl (s, t, y))) =
        let e : record f { around = r } ≡ record g { around = s } = one_among gs (record f { around = r }) (record g { around = s }) (omega (arith, once)) h i x y in
        λ j. record { around = (q ∙ ap (λ (u : Found). b ∷ u.around) e ∙ sym t) j; content = (e j).content; goals = (e j).goals }
    one_frame (box b gs bs) f g once h i (inr (inl (r, q, x))) (inr (inr y)) =
        let u : 1 ≤ times_inside k gs = in_goals (record f { around = r }) gs h x in
        let v : 1 ≤ times k bs = in_boxes g bs i y in
        absurd (omega (arith, once, u, v))
    one_frame (box b gs bs) f g once h i (inr (inr x)) (inl y) =
        let u : 1 ≤ times_of k b = in_content g b i y.1 in
        let v : 1 ≤ times k bs = in_boxes f bs h x in
        absurd (omega (arith, once, u, v))
    one_frame (box b gs bs) f g once h i (inr (inr x)) (inr (inl (r, q, y))) =
        let u : 1 ≤ times_inside k gs = in_goals (record g { around = r }) gs i y in
        let v : 1 ≤ times k bs = in_boxes f bs h x in
        absurd (omega (arith, once, u, v))
    one_frame (box b gs bs) f g once h i (inr (inr x)) (inr (inr y)) = one_frame bs f g (omega (arith, once)) h i x y

    one_among : (gs : Goals) (f g : Found) → times_inside k gs ≤ 1 → IsIn k f.content.frames → IsIn k g.content.frames → StandsAmong f gs → StandsAmong g gs → f ≡ g
    one_among no_goals f g once h i x y = absurd x
    one_among (atom n a gs) f g once h i x y = one_among gs f g (omega (arith, once)) h i x y
    one_among (choice n o bs gs) f g once h i (inl x) (inl y) = one_frame bs f g (omega (arith, once)) h i x y
    one_among (choice n o bs gs) f g once h i (inl x) (inr y) =
        let u : 1 ≤ times k bs = in_boxes f bs h x in
        let v : 1 ≤ times_inside k gs = in_goals g gs i y in
        absurd (omega (arith, once, u, v))
    one_among (choice n o bs gs) f g once h i (inr x) (inl y) =
        let u : 1 ≤ times_inside k gs = in_goals f gs h x in
        let v : 1 ≤ times k bs = in_boxes g bs i y in
        absurd (omega (arith, once, u, v))
    one_among (choice n o bs gs) f g once h i (inr x) (inr y) = one_among gs f g (omega (arith, once)) h i x y

-- a frame in scope along a path is one from before it, or of a box of the path
pub along_home : (n : Name) (s : Scope) (path : List Content) → IsIn n (scope_along s path).frames → IsIn n s.frames ⊎ ((A : List Content) × (b : Content) × (B : List Content) × (path ≡ A ++ b ∷ B) × IsIn n b.frames)
along_home n s [] h = inl h
along_home n s (b ∷ bs) h = on (along_home n (scope_in s b) bs h)
  where
    on : IsIn n (b.frames ++ s.frames) ⊎ ((A : List Content) × (k : Content) × (B : List Content) × (bs ≡ A ++ k ∷ B) × IsIn n k.frames)
        → IsIn n s.frames ⊎ ((A : List Content) × (k : Content) × (B : List Content) × (b ∷ bs ≡ A ++ k ∷ B) × IsIn n k.frames)
    on (inr (A, k, B, q, i)) = inr (b ∷ A, k, B, ap (λ (L : List Content). b ∷ L) q, i)
    on (inl i) = elim (IsIn-either n b.frames s.frames i) [ inl x ↦ inr ([], b, bs, refl, x) | inr x ↦ inl x ]

pub scope_append : (s : Scope) (A B : List Content) → scope_along s (A ++ B) ≡ scope_along (scope_along s A) B
scope_append s [] B = refl
scope_append s (a ∷ A) B = scope_append (scope_in s a) A B

-- the frames of what stands in boxes are among theirs
mutual
  pub frames_in : (n : Name) (r : List Content) (k : Content) (hs : Goals) (bs : Boxes) → BoxIn r k hs bs → IsIn n k.frames → IsIn n (frames_of bs)
  frames_in n r k hs no_boxes x h = absurd x
  frames_in n r k hs (box b gs bs) (inl x) h = IsIn-left n b.frames (frames_inside gs ++ frames_of bs) (subst (λ (u : Content). IsIn n u.frames) x.1 h)
  frames_in n r k hs (box b gs bs) (inr (inl (rest, q, x))) h = IsIn-right n b.frames (frames_inside gs ++ frames_of bs) (IsIn-left n (frames_inside gs) (frames_of bs) (frames_among n rest k hs gs x h))
  frames_in n r k hs (box b gs bs) (inr (inr x)) h = IsIn-right n b.frames (frames_inside gs ++ frames_of bs) (IsIn-right n (frames_inside gs) (frames_of bs) (frames_in n r k hs bs x h))

  frames_among : (n : Name) (r : List Content) (k : Content) (hs gs : Goals) → InGoals r k hs gs → IsIn n k.frames → IsIn n (frames_inside gs)
  frames_among n r k hs no_goals x h = absurd x
  frames_among n r k hs (atom g a gs) x h = frames_among n r k hs gs x h
  frames_among n r k hs (choice g o bs gs) (inl x) h = IsIn-left n (frames_of bs) (frames_inside gs) (frames_in n r k hs bs x h)
  frames_among n r k hs (choice g o bs gs) (inr x) h = IsIn-right n (frames_of bs) (frames_inside gs) (frames_among n r k hs gs x h)

-- what follows from a fact of each box that stands there follows from one of some box
module _ (P : Found → Type 0) (C : Type 0) where
  mutual
    pub some_found : (around : List Content) (bs : Boxes) → ((r : List Content) (k : Content) (hs : Goals) → BoxIn r k hs bs → P (record { around = around ++ r; content = k; goals = hs }) → C) → SomeBox P around bs → C
    some_found around no_boxes f s = absurd s
    some_found around (box b gs bs) f (inl x) = f [] b gs (inl (refl, refl, refl)) (subst (λ (path : List Content). P (record { around = path; content = b; goals = gs })) (sym (append-nil around)) x)
    some_found around (box b gs bs) f (inr (inl s)) = some_among (around ++ b ∷ []) gs
        (λ r k hs i x. f (b ∷ r) k hs (inr (inl (r, refl, i))) (subst (λ (path : List Content). P (record { around = path; content = k; goals = hs })) (append_assoc around (b ∷ []) r) x)) s
    some_found around (box b gs bs) f (inr (inr s)) = some_found around bs (λ r k hs i x. f r k hs (inr (inr i)) x) s

    some_among : (around : List Content) (gs : Goals) → ((r : List Content) (k : Content) (hs : Goals) → InGoals r k hs gs → P (record { around = around ++ r; content = k; goals = hs }) → C) → SomeInside P around gs → C
    some_among around no_goals f s = absurd s
    some_among around (atom g a gs) f s = some_among around gs f s
    some_among around (choice g o bs gs) f (inl s) = some_found around bs (λ r k hs i x. f r k hs (inl i) x) s
    some_among around (choice g o bs gs) f (inr s) = some_among around gs (λ r k hs i x. f r k hs (inr i) x) s
