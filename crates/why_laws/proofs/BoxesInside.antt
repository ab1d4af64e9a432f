-- Facts of all boxes inside others, from a fact of each that stands there, and back.
use Rattle.std.proofs.Common.{List, [], ◌∷◌, ◌++◌, refl, sym, ◌∙◌, ap, subst, inl, inr, append_assoc, append-nil}
use Rattle.akl_model.specs.Config.{Content, Boxes, no_boxes, box, Goals, no_goals, atom, choice, Found}
use Rattle.akl_model.specs.Stable.{EachBox, EachInside, only}
use Rattle.akl_model.specs.Wakes.{SomeBox, SomeInside}
use Rattle.step_laws.specs.Whereabouts.{BoxIn, InGoals, Stands}
use Rattle.step_laws.proofs.Deeper.{in_deeper}

module _ (P : Found → Type 0) where
  mutual
    pub each_where : (around : List Content) (bs : Boxes) → ((r : List Content) (k : Content) (hs : Goals) → BoxIn r k hs bs → P (record { around = around ++ r; content = k; goals = hs })) → EachBox P around bs
    each_where around no_boxes f = tt
    each_where around (box b gs bs) f = (
      subst (λ (path : List Content). P (record { around = path; content = b; goals = gs })) (append-nil around) (f [] b gs (inl (refl, refl, refl))),
      inside_where (around ++ b ∷ []) gs (λ r k hs i. subst (λ (path : List Content). P (record { around = path; content = k; goals = hs })) (sym (append_assoc around (b ∷ []) r)) (f (b ∷ r) k hs (inr (inl (r, refl, i))))),
      each_where around bs (λ r k hs i. f r k hs (inr (inr i))),
    )

    inside_where : (around : List Content) (gs : Goals) → ((r : List Content) (k : Content) (hs : Goals) → InGoals r k hs gs → P (record { around = around ++ r; content = k; goals = hs })) → EachInside P around gs
    inside_where around no_goals f = tt
    inside_where around (atom g a gs) f = inside_where around gs f
    inside_where around (choice g o bs gs) f = (each_where around bs (λ r k hs i. f r k hs (inl i)), inside_where around gs (λ r k hs i. f r k hs (inr i)))

  mutual
    pub some_where : (around : List Content) (bs : Boxes) (r : List Content) (k : Content) (hs : Goals) → BoxIn r k hs bs → P (record { around = around ++ r; content = k; goals = hs }) → SomeBox P around bs
    some_where around no_boxes r k hs i x = absurd i
    some_where around (box b gs bs) r k hs (inl i) x = inl (subst P (λ j. record { around = (ap (λ (path : List Content). around ++ path) i.0 ∙ append-nil around) j; content = i.1 j; goals = i.2 j }) x)
    some_where around (box b gs bs) r k hs (inr (inl (rest, q, i))) x = inr (inl (some_inside (around ++ b ∷ []) gs rest k hs i
        (subst (λ (path : List Content). P (record { around = path; content = k; goals = hs })) (ap (λ (path : List Content). around ++ path) q ∙ sym (append_assoc around (b ∷ []) rest)) x)))
    some_where around (box b gs bs) r k hs (inr (inr i)) x = inr (inr (some_where around bs r k hs i x))

    some_inside : (around : List Content) (gs : Goals) (r : List Content) (k : Content) (hs : Goals) → InGoals r k hs gs → P (record { around = around ++ r; content = k; goals = hs }) → SomeInside P around gs
    some_inside around no_goals r k hs i x = absurd i
    some_inside around (atom g a gs) r k hs i x = some_inside around gs r k hs i x
    some_inside around (choice g o bs gs) r k hs (inl i) x = inl (some_where around bs r k hs i x)
    some_inside around (choice g o bs gs) r k hs (inr i) x = inr (some_inside around gs r k hs i x)

-- what stands in a box that stands in others stands in them
pub stands_in : (f : Found) (bs : Boxes) → Stands f bs → (r : List Content) (k : Content) (hs : Goals) → BoxIn r k hs (only f) → Stands (record { around = f.around ++ r; content = k; goals = hs }) bs
stands_in f bs s r k hs (inl q) = subst (λ (v : Found). Stands v bs) (λ j. record { around = (sym (ap (λ (path : List Content). f.around ++ path) q.0 ∙ append-nil f.around)) j; content = sym q.1 j; goals = sym q.2 j }) s
stands_in f bs s r k hs (inr (inl (rest, q, y))) = subst (λ (path : List Content). BoxIn (f.around ++ path) k hs bs) (sym q) (in_deeper f.around f.content f.goals rest k hs bs s y)
stands_in f bs s r k hs (inr (inr y)) = absurd y
