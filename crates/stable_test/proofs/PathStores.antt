-- The stores down to a box that stands in another one or inside it, and the frames of all boxes there.
use Rattle.std.proofs.Common.{◌≡◌, List, [], ◌∷◌, ◌++◌, map, Option, Some, refl, sym, ◌∙◌, ap, subst, inl, inr, append_assoc}
use Rattle.akl_terms.specs.declared.name.Name.{Name}
use Rattle.akl_terms.specs.declared.name.Var.{Var}
use Rattle.akl_terms.specs.Touching.{IsLocal}
use Rattle.akl_model.specs.Config.{IsIn, Content, Goals, Config, Held, held_in, Found, box_at, home_of}
use Rattle.akl_model.specs.Stable.{only, frames_of}
use Rattle.akl_model.specs.Wakes.{names_around, names_down_to}
use Rattle.akl_model.proofs.NamesKept.{Stand, box-itself, home-box}
use Rattle.akl_model.proofs.Options.{some_value}
use Rattle.akl_model.proofs.Scoped.{IsIn-left, IsIn-either}
use Rattle.step_laws.proofs.Whereabouts.{found_in}
use Rattle.step_laws.proofs.Deeper.{in_path, cut_at, chain_at}
use Rattle.entail_test.specs.Asked.{frames_from}
use Rattle.table_laws.specs.Rows.{BoxRow, Table, store_in, stores_along}
use Rattle.table_laws.specs.Unfolds.{IsBoxRow, Unfolds}
use Rattle.table_laws.specs.Inside.{IsInside, itself, IsGoalInside}
use Rattle.table_laws.proofs.Frame.{row_of, names_split}
use Rattle.table_laws.proofs.Insides.{IsUnder, under, inside, IsGoalUnder, goal_under, directly}
use Rattle.stable_test.proofs.EachInside.{IsDown, IsBelow, below, frame_down, down_frame, local_either}

-- a frame of stores along a path is one of a store there
pub along_frame : (T : Table) (x : Var) (ns : List Name) → IsLocal (frames_from (stores_along T ns)) x → (m : Name) × IsIn m ns × IsLocal (store_in (T.box_of m)).frames x
along_frame T x [] l = absurd l
along_frame T x (m ∷ ns) l = elim (local_either (store_in (T.box_of m)).frames (frames_from (stores_along T ns)) x l) [
  | inl i ↦ (m, inl refl, i)
  | inr i ↦ let w : _ = along_frame T x ns i in (w.0, inr w.1, w.2)
]

module _ (T : Table) (c : Config) (s : Stand c) (u : Unfolds T c) (n : Name) (f : Found) (e : box_at n c.roots ≡ Some f) where
  pub is_inside : (d : Found) → IsDown c s n f e d → IsInside T n d.content.name
  is_inside d h = inside T c u s.once n d.content.name d h.there h.named

  -- what a row's place inside says of the box that is found
  pub inside_down : (m : Name) (d : Found) → box_at m c.roots ≡ Some d → IsIn n (names_down_to d) → IsDown c s n f e d
  inside_down m d i h = record { there = subst (λ (k : Name). box_at k c.roots ≡ Some d) (box-itself m c.roots d i) i; named = h }

  -- a goal's place inside likewise
  pub goal_down : (g : Name) (d : Found) → home_of g c.roots ≡ Some d → IsGoalInside T n g → IsDown c s n f e d
  goal_down g d i x =
      let v : IsGoalUnder T c u s.once n g = goal_under T c u s.once n g f e x in
      let q : v.found ≡ d = some_value (sym v.is_home ∙ i) in
      record { there = home-box g c.roots d s.once i; named = subst (λ (k : Found). IsIn n (names_down_to k)) q v.named }

  pub box_down : (m : Name) (d : Found) → box_at m c.roots ≡ Some d → IsInside T n m → IsDown c s n f e d
  box_down m d i x =
      let v : IsUnder T c u s.once n m = under T c u s.once n m f e x in
      let q : v.found ≡ d = some_value (sym v.is_found ∙ i) in
      inside_down m d i (subst (λ (k : Found). IsIn n (names_down_to k)) q v.named)

  -- a goal directly in a box that is the outer one or inside it
  pub goal_inside_down : (d : Found) (g : Name) (h : Held) → IsDown c s n f e d → held_in g d.goals ≡ Some h → IsGoalInside T n g
  goal_inside_down d g h k i = record { box = d.content.name; inside = is_inside d k; goal = directly T c u s.once d.content.name g d h k.there i }

  -- the names down to it: those around the outer box, and others that are inside it
  pub record GoesDown (d : Found) : Type 0 where
    pub more : List Name
    pub split : names_down_to d ≡ names_around f ++ more
    pub inside : (m : Name) → IsIn m more → IsInside T n m

  module _ (d : Found) (h : IsDown c s n f e d) (b : IsBelow c s n f e d) where
    between : (m : Name) → IsIn m (map (λ (k : Content). k.name) b.rest) → IsInside T n m
    between m i =
        let w : (a : List Content) × (k : Content) × (r : List Content) × (b.rest ≡ a ++ k ∷ r) × (m ≡ k.name) = cut_at m b.rest i in
        let path : d.around ≡ (f.around ++ f.content ∷ w.0) ++ w.1 ∷ w.2 =
        b.around ∙ ap (λ (r : List Content). f.around ++ f.content ∷ r) w.3 ∙ sym (append_assoc f.around (f.content ∷ w.0) (w.1 ∷ w.2)) in
        let k : (gs : Goals) × (box_at w.1.name c.roots ≡ Some (record { around = f.around ++ f.content ∷ w.0; content = w.1; goals = gs })) =
        chain_at c.roots s.once d (f.around ++ f.content ∷ w.0) w.1 w.2 (found_in d.content.name c.roots d h.there) path in
        subst (IsInside T n) (sym w.4) (inside T c u s.once n w.1.name (record { around = f.around ++ f.content ∷ w.0; content = w.1; goals = k.0 }) k.1
        (IsIn-left n (map (λ (k : Content). k.name) (f.around ++ f.content ∷ w.0)) (w.1.name ∷ [])
        (subst (λ (k : Name). IsIn k (map (λ (k : Content). k.name) (f.around ++ f.content ∷ w.0))) (sym (box-itself n c.roots f e)) (in_path f.around f.content w.0))))

    goes_below : GoesDown d
    goes_below = record {
      more = f.content.name ∷ (map (λ (k : Content). k.name) b.rest ++ d.content.name ∷ []);
      split = names_split d f.around f.content b.rest b.around;
      inside = λ m i. elim i [
        | inl r ↦ subst (IsInside T n) (box-itself n c.roots f e ∙ sym r) itself
        | inr j ↦ elim (IsIn-either m (map (λ (k : Content). k.name) b.rest) (d.content.name ∷ []) j) [
          | inl k ↦ between m k
          | inr k ↦ elim k [ inl r ↦ subst (IsInside T n) (sym r) (is_inside d h) | inr z ↦ absurd z ]
        ]
      ];
    }

  pub goes_down : (d : Found) → IsDown c s n f e d → GoesDown d
  goes_down d h = elim (below c s n f e d h) [
    | inl q ↦ record {
      more = d.content.name ∷ [];
      split = ap (λ (k : Found). names_around k ++ d.content.name ∷ []) (sym q);
      inside = λ m i. elim i [ inl r ↦ subst (IsInside T n) (sym r) (is_inside d h) | inr z ↦ absurd z ];
    }
    | inr b ↦ goes_below d h b
  ]

  -- a frame of a box inside, by the table's rows
  pub record HasFrame (x : Var) : Type 0 where
    pub box : Name
    pub inside : IsInside T n box
    pub frame : IsLocal (store_in (T.box_of box)).frames x

  pub frame_has : (x : Var) → IsLocal (frames_of (only f)) x → HasFrame x
  frame_has x l =
      let w : (d : Found) × IsDown c s n f e d × IsLocal d.content.frames x = frame_down c s n f e x l in
      let r : (r : BoxRow) × (T.box_of w.0.content.name ≡ Some r) × IsBoxRow T c.roots w.0 r = row_of T c u w.0.content.name w.0 w.1.there in
      record {
        box = w.0.content.name;
        inside = is_inside w.0 w.1;
        frame = subst (λ (o : Option BoxRow). IsLocal (store_in o).frames x) (sym r.1) (subst (λ (fs : List Name). IsLocal fs x) (sym r.2.frames) w.2);
      }

  pub has_frame : (x : Var) → HasFrame x → IsLocal (frames_of (only f)) x
  has_frame x h =
      let v : IsUnder T c u s.once n h.box = under T c u s.once n h.box f e h.inside in
      let r : (r : BoxRow) × (T.box_of h.box ≡ Some r) × IsBoxRow T c.roots v.found r = row_of T c u h.box v.found v.is_found in
      down_frame c s n f e x v.found (inside_down h.box v.found v.is_found v.named)
      (subst (λ (fs : List Name). IsLocal fs x) r.2.frames (subst (λ (o : Option BoxRow). IsLocal (store_in o).frames x) r.1 h.frame))

  -- a frame of the stores from the outer box on is one of a box inside
  pub path_frame : (d : Found) (g : GoesDown d) (x : Var) → IsLocal (frames_from (stores_along T g.more)) x → IsLocal (frames_of (only f)) x
  path_frame d g x l = let w : (m : Name) × IsIn m g.more × IsLocal (store_in (T.box_of m)).frames x = along_frame T x g.more l in has_frame x (record { box = w.0; inside = g.inside w.0 w.1; frame = w.2 })
