-- A fact of a box or of one inside it is one of one that is found there.
use Rattle.std.proofs.Common.{◌≡◌, List, [], ◌∷◌, ◌++◌, Some, refl, sym, ap, ◌∙◌, subst, inl, inr, append_assoc, append-nil}
use Rattle.akl_terms.specs.declared.name.Name.{Name}
use Rattle.akl_model.specs.Config.{Content, Boxes, no_boxes, box, Goals, no_goals, atom, choice, Config, Found, box_at}
use Rattle.akl_model.specs.Stable.{only}
use Rattle.akl_model.specs.Wakes.{SomeBox, SomeInside}
use Rattle.akl_model.proofs.NamesKept.{Stand}
use Rattle.step_laws.specs.Whereabouts.{BoxIn, InGoals}
use Rattle.stable_test.proofs.EachInside.{IsDown, below, down}

mutual
  some_in : (P : Found → Type 0) (around r : List Content) (k : Content) (hs : Goals) (bs : Boxes) → BoxIn r k hs bs → P (record { around = around ++ r; content = k; goals = hs }) → SomeBox P around bs
  some_in P around r k hs no_boxes i p = absurd i
  some_in P around r k hs (box b gs bs) (inl e) p =
      let path : around ++ r ≡ around = ap (λ (l : List Content). around ++ l) e.0 ∙ append-nil around in
      inl (subst P (λ i. record { around = path i; content = e.1 i; goals = e.2 i }) p)
  some_in P around r k hs (box b gs bs) (inr (inl (rest, q, i))) p = inr (inl (some_among P (around ++ b ∷ []) rest k hs gs i
      (subst (λ (a : List Content). P (record { around = a; content = k; goals = hs })) (sym (append_assoc around (b ∷ []) rest)) (subst (λ (l : List Content). P (record { around = around ++ l; content = k; goals = hs })) q p))))
  some_in P around r k hs (box b gs bs) (inr (inr i)) p = inr (inr (some_in P around r k hs bs i p))

  some_among : (P : Found → Type 0) (around r : List Content) (k : Content) (hs gs : Goals) → InGoals r k hs gs → P (record { around = around ++ r; content = k; goals = hs }) → SomeInside P around gs
  some_among P around r k hs no_goals i p = absurd i
  some_among P around r k hs (atom g a gs) i p = some_among P around r k hs gs i p
  some_among P around r k hs (choice g o bs gs) (inl i) p = inl (some_in P around r k hs bs i p)
  some_among P around r k hs (choice g o bs gs) (inr i) p = inr (some_among P around r k hs gs i p)

-- one of the boxes, under others of them
abbrev HasBox : (Found → Type 0) → List Content → Boxes → Type 0
HasBox P around bs = (r : List Content) × (k : Content) × (hs : Goals) × BoxIn r k hs bs × P (record { around = around ++ r; content = k; goals = hs })

abbrev HasAmong : (Found → Type 0) → List Content → Goals → Type 0
HasAmong P around gs = (r : List Content) × (k : Content) × (hs : Goals) × InGoals r k hs gs × P (record { around = around ++ r; content = k; goals = hs })

mutual
  has_box : (P : Found → Type 0) (around : List Content) (bs : Boxes) → SomeBox P around bs → HasBox P around bs
  has_box P around no_boxes s = absurd s
  has_box P around (box b gs bs) (inl p) = ([], b, gs, inl (refl, refl, refl), subst (λ (a : List Content). P (record { around = a; content = b; goals = gs })) (sym (append-nil around)) p)
  has_box P around (box b gs bs) (inr (inl s)) =
      let w : HasAmong P (around ++ b ∷ []) gs = has_among P (around ++ b ∷ []) gs s in
      (b ∷ w.0, w.1, w.2, inr (inl (w.0, refl, w.3)), subst (λ (a : List Content). P (record { around = a; content = w.1; goals = w.2 })) (append_assoc around (b ∷ []) w.0) w.4)
  has_box P around (box b gs bs) (inr (inr s)) = let w : HasBox P around bs = has_box P around bs s in (w.0, w.1, w.2, inr (inr w.3), w.4)

  has_among : (P : Found → Type 0) (around : List Content) (gs : Goals) → SomeInside P around gs → HasAmong P around gs
  has_among P around no_goals s = absurd s
  has_among P around (atom g a gs) s = has_among P around gs s
  has_among P around (choice g o bs gs) (inl s) = let w : HasBox P around bs = has_box P around bs s in (w.0, w.1, w.2, inl w.3, w.4)
  has_among P around (choice g o bs gs) (inr s) = let w : HasAmong P around gs = has_among P around gs s in (w.0, w.1, w.2, inr w.3, w.4)

module _ (c : Config) (s : Stand c) (n : Name) (f : Found) (e : box_at n c.roots ≡ Some f) (P : Found → Type 0) where
  pub down_some : (u : Found) → IsDown c s n f e u → P u → SomeBox P f.around (only f)
  down_some u d p = elim (below c s n f e u d) [
    | inl q ↦ inl (subst P (sym q) p)
    | inr b ↦ inr (inl (some_among P (f.around ++ f.content ∷ []) b.rest u.content u.goals f.goals b.among
        (subst (λ (a : List Content). P (record { around = a; content = u.content; goals = u.goals })) (sym (append_assoc f.around (f.content ∷ []) b.rest)) (subst (λ (a : List Content). P (record { around = a; content = u.content; goals = u.goals })) b.around p))))
  ]

  pub some_down : SomeBox P f.around (only f) → (u : Found) × IsDown c s n f e u × P u
  some_down h =
      let w : HasBox P f.around (only f) = has_box P f.around (only f) h in
      (record { around = f.around ++ w.0; content = w.1; goals = w.2 }, down c s n f e w.0 w.1 w.2 w.3, w.4)
