-- All that stands in a box and inside it, gathered by rows.
use Rattle.std.proofs.Common.{◌≡◌, ℕ, ◌+◌, ◌<◌, List, [], ◌∷◌, ◌++◌, length, drop, get_or, map, refl, sym, ap, subst, ◌∙◌, ◌⊎◌, inl, inr, append_assoc}
use Rattle.std.proofs.lemmas.List.{drop_more}
use Rattle.std.specs.List.{AllByRecursion}
use Rattle.akl_terms.specs.declared.name.Name.{Name}
use Rattle.akl_terms.specs.declared.name.Place.{Place}
use Rattle.akl_model.specs.declared.label.Label.{Label}
use Rattle.akl_model.specs.Config.{IsIn}
use Rattle.akl_model.specs.Wakes.{IsOneOf}
use Rattle.akl_model.proofs.Options.{some_value}
use Rattle.table_laws.specs.Rows.{BoxRow}
use Rattle.table_laws.specs.Inside.{IsDirectlyIn, IsInside, IsGoalInside}
use Rattle.table_laws.specs.Walks.{ListsInside}
use Rattle.box_tree.specs.declared.inside.InnerGoal.{InnerGoal}
use Rattle.box_tree.specs.declared.inside.InnerBox.{InnerBox}
use Rattle.box_tree.specs.declared.inside.Inside.{Inside}
use Rattle.box_tree.specs.Tables.{TableValue, table_of}
use Rattle.box_tree.specs.Views.{ViewValue}
use Rattle.box_tree.specs.Insides.{IsInnerBox, IsPlaceInside, IsViewInside, HasView, AreBoxesInside, IsInsideOf}
use Rattle.box_tree.specs.Places.{goal_places, places_in, IsSeenBy}
use Rattle.box_tree.proofs.Begins.{in_left, in_right}

pub all_end : {A : Type 0} (P : A → Type 0) (xs : List A) (x : A) → AllByRecursion P xs → P x → AllByRecursion P (xs ++ x ∷ [])
all_end P [] x a p = (p, tt)
all_end P (y ∷ ys) x a p = (a.0, all_end P ys x a.1 p)

pub map_end : {A B : Type 0} (f : A → B) (xs : List A) (x : A) → map f (xs ++ x ∷ []) ≡ map f xs ++ f x ∷ []
map_end f [] x = refl
map_end f (y ∷ ys) x = ap (λ (zs : List _). f y ∷ zs) (map_end f ys x)

-- the places of one box more
pub places_more : (boxes : List InnerBox) (i : ℕ) (x : InnerBox) (old pushed new : List Place) → i < length boxes → x ≡ get_or boxes i x → old ++ places_in (drop i boxes) ≡ places_in boxes → pushed ≡ old ++ Place.Box x.name ∷ []
    → new ≡ pushed ++ goal_places x.goals.items → new ++ places_in (drop (i + 1) boxes) ≡ places_in boxes
places_more boxes i x old pushed new l e left p n =
    let rest : List Place = places_in (drop (i + 1) boxes) in
    ap (λ (ps : List Place). ps ++ rest) (n ∙ ap (λ (ps : List Place). ps ++ goal_places x.goals.items) p)
    ∙ append_assoc (old ++ Place.Box x.name ∷ []) (goal_places x.goals.items) rest ∙ append_assoc old (Place.Box x.name ∷ []) (goal_places x.goals.items ++ rest)
    ∙ ap (λ (b : InnerBox). old ++ places_in (b ∷ drop (i + 1) boxes)) e ∙ ap (λ (bs : List InnerBox). old ++ places_in bs) (sym (drop_more boxes i x l)) ∙ left

abbrev pub box_names : List InnerBox → List Name
box_names bs = map (λ (b : InnerBox). b.name) bs

abbrev goal_names : List InnerGoal → List Name
goal_names gs = map (λ (g : InnerGoal). g.name) gs

place_either : (p : Place) (xs ys : List Place) → IsOneOf p (xs ++ ys) → IsOneOf p xs ⊎ IsOneOf p ys
place_either p [] ys i = inr i
place_either p (x ∷ xs) ys (inl e) = inl (inl e)
place_either p (x ∷ xs) ys (inr i) = on (place_either p xs ys i)
  where
    on : IsOneOf p xs ⊎ IsOneOf p ys → IsOneOf p (x ∷ xs) ⊎ IsOneOf p ys
    on (inl j) = inl (inr j)
    on (inr j) = inr j

goal_placed : (g : Name) (gs : List InnerGoal) → IsIn g (goal_names gs) → IsOneOf (Place.Goal g) (goal_places gs)
goal_placed g [] i = absurd i
goal_placed g (h ∷ gs) (inl e) = inl (ap Place.Goal e)
goal_placed g (h ∷ gs) (inr i) = inr (goal_placed g gs i)

placed_goal : (p : Place) (gs : List InnerGoal) → IsOneOf p (goal_places gs) → (g : Name) × (p ≡ Place.Goal g) × IsIn g (goal_names gs)
placed_goal p [] i = absurd i
placed_goal p (g ∷ gs) (inl e) = (g.name, e, inl refl)
placed_goal p (g ∷ gs) (inr i) = let w : (h : Name) × (p ≡ Place.Goal h) × IsIn h (goal_names gs) = placed_goal p gs i in (w.0, w.1, inr w.2)

box_placed : (m : Name) (bs : List InnerBox) → IsIn m (box_names bs) → IsOneOf (Place.Box m) (places_in bs)
box_placed m [] i = absurd i
box_placed m (b ∷ bs) (inl e) = inl (ap Place.Box e)
box_placed m (b ∷ bs) (inr i) = inr (in_right (Place.Box m) (goal_places b.goals.items) (places_in bs) (box_placed m bs i))

module _ (t : TableValue) where
  -- the places in boxes are those of the boxes and of what is directly in them
  inner_placed : (k g : Name) (bs : List InnerBox) → AllByRecursion (IsInnerBox t) bs → IsIn k (box_names bs) → IsDirectlyIn (table_of t) k g → IsOneOf (Place.Goal g) (places_in bs)
  inner_placed k g [] a i d = absurd i
  inner_placed k g (b ∷ bs) a (inl e) d =
      let row : a.0.row ≡ d.row = some_value (sym a.0.there ∙ ap (table_of t).box_of (sym e) ∙ d.there) in
      let named : IsIn g (goal_names b.goals.items) = subst (IsIn g) (ap (λ (r : BoxRow). r.goals) (sym row) ∙ sym a.0.goals) d.named in
      inr (in_left (Place.Goal g) (goal_places b.goals.items) (places_in bs) (goal_placed g b.goals.items named))
  inner_placed k g (b ∷ bs) a (inr i) d = inr (in_right (Place.Goal g) (goal_places b.goals.items) (places_in bs) (inner_placed k g bs a.1 i d))

  placed_inside : (n : Name) (bs : List InnerBox) → AllByRecursion (IsInnerBox t) bs → ((m : Name) → IsIn m (box_names bs) → IsInside (table_of t) n m) → (p : Place) → IsOneOf p (places_in bs) → IsPlaceInside (table_of t) n p
  placed_inside n [] a h p i = absurd i
  placed_inside n (b ∷ bs) a h p (inl e) = subst (IsPlaceInside (table_of t) n) (sym e) (h b.name (inl refl))
  placed_inside n (b ∷ bs) a h p (inr i) = elim (place_either p (goal_places b.goals.items) (places_in bs) i) [
    | inl j ↦
        let w : (g : Name) × (p ≡ Place.Goal g) × IsIn g (goal_names b.goals.items) = placed_goal p b.goals.items j in
        let d : IsDirectlyIn (table_of t) b.name w.0 = record { row = a.0.row; there = a.0.there; named = subst (IsIn w.0) a.0.goals w.2 } in
        let x : IsGoalInside (table_of t) n w.0 = record { box = b.name; inside = h b.name (inl refl); goal = d } in
        subst (IsPlaceInside (table_of t) n) (sym w.1) x
    | inr j ↦ placed_inside n bs a.1 (λ m k. h m (inr k)) p j
  ]

  pub boxes_listed : (n : Name) (names : List Name) → ListsInside (table_of t) n names → (bs : List InnerBox) → box_names bs ≡ names → AllByRecursion (IsInnerBox t) bs → AreBoxesInside t n bs
  boxes_listed n names lists bs named boxes = record { listed = subst (ListsInside (table_of t) n) (sym named) lists; boxes = boxes }

  module _ (journal : List Label) (n : Name) (worker : ℕ) where
    -- the views are of these places
    all_views : (vs : List ViewValue) → AllByRecursion (IsSeenBy t journal worker) vs → ((p : Place) → IsOneOf p (map (λ (v : ViewValue). v.place) vs) → IsPlaceInside (table_of t) n p) → AllByRecursion (IsViewInside t journal n worker) vs
    all_views [] s h = tt
    all_views (v ∷ vs) s h = (record { table = s.0.table; labels = s.0.labels; seer = s.0.seer; inside = h v.place (inl refl); seen = s.0.seen }, all_views vs s.1 (λ p i. h p (inr i)))

    viewed : (vs : List ViewValue) (p : Place) → IsOneOf p (map (λ (v : ViewValue). v.place) vs) → HasView vs p
    viewed [] p i = absurd i
    viewed (v ∷ vs) p (inl e) = inl (sym e)
    viewed (v ∷ vs) p (inr i) = inr (viewed vs p i)

    pub all_inside : (i : Inside) → AreBoxesInside t n i.boxes.items → (places : List Place) → places ≡ places_in i.boxes.items
        → map (λ (v : ViewValue). v.place) i.views.items ≡ places → AllByRecursion (IsSeenBy t journal worker) i.views.items → IsInsideOf t journal n worker i
    all_inside i are places placed seen views = record {
      boxes = are;
      views = all_views i.views.items views (λ p j. placed_inside n i.boxes.items are.boxes are.listed.inside p (subst (IsOneOf p) same j));
      each = each;
    }
      where
        same : map (λ (v : ViewValue). v.place) i.views.items ≡ places_in i.boxes.items
        same = seen ∙ placed

        each : (p : Place) → IsPlaceInside (table_of t) n p → HasView i.views.items p
        each (Place.Box m) x = viewed i.views.items (Place.Box m) (subst (IsOneOf (Place.Box m)) (sym same) (box_placed m i.boxes.items (are.listed.each m x)))
        each (Place.Goal g) x = viewed i.views.items (Place.Goal g) (subst (IsOneOf (Place.Goal g)) (sym same) (inner_placed x.box g i.boxes.items are.boxes (are.listed.each x.box x.inside) x.goal))
