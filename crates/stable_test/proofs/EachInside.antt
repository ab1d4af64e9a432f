-- A fact of a box and of each box inside it is one of each that is found there.
use Rattle.std.proofs.Common.{◌≡◌, List, [], ◌∷◌, ◌++◌, Some, refl, sym, ◌∙◌, ap, subst, ◌⊎◌, inl, inr, append_assoc, append-nil}
use Rattle.std.specs.Prelude.{option_map, is_some, Option, IsSomeAnd}
use Rattle.akl_terms.specs.declared.name.Name.{Name}
use Rattle.akl_terms.specs.declared.name.Var.{Var}
use Rattle.akl_terms.specs.declared.name.Place.{Place}
use Rattle.akl_terms.specs.Touching.{IsLocal}
use Rattle.akl_model.specs.Config.{IsIn, Content, Boxes, no_boxes, box, Goals, no_goals, atom, choice, Config, Found, box_at}
use Rattle.akl_model.specs.Stable.{EachBox, EachInside, only, frames_of, frames_inside}
use Rattle.akl_model.specs.Wakes.{names_around, names_down_to}
use Rattle.akl_model.proofs.Options.{some_value}
use Rattle.akl_model.proofs.NamesKept.{Stand, box-itself}
use Rattle.akl_model.proofs.OnlySplits.{holds_at}
use Rattle.akl_model.proofs.QuietGrows.{IsLocal-left, IsLocal-right}
use Rattle.akl_model.proofs.Scoped.{IsIn-left, IsIn-right, IsIn-either}
use Rattle.step_laws.specs.Whereabouts.{BoxIn, InGoals}
use Rattle.step_laws.proofs.Whereabouts.{found_in, in_found}
use Rattle.step_laws.proofs.Deeper.{in_deeper, in_path, Over, over, one_box}

mutual
  pub each_in : (P : Found → Type 0) (around : List Content) (bs : Boxes) → ((r : List Content) (k : Content) (hs : Goals) → BoxIn r k hs bs → P (record { around = around ++ r; content = k; goals = hs })) → EachBox P around bs
  each_in P around no_boxes f = tt
  each_in P around (box b gs bs) f = (
    subst (λ (a : List Content). P (record { around = a; content = b; goals = gs })) (append-nil around) (f [] b gs (inl (refl, refl, refl))),
    each_among P (around ++ b ∷ []) gs (λ r k hs i. subst (λ (a : List Content). P (record { around = a; content = k; goals = hs })) (sym (append_assoc around (b ∷ []) r)) (f (b ∷ r) k hs (inr (inl (r, refl, i))))),
    each_in P around bs (λ r k hs i. f r k hs (inr (inr i))),
  )

  each_among : (P : Found → Type 0) (around : List Content) (gs : Goals) → ((r : List Content) (k : Content) (hs : Goals) → InGoals r k hs gs → P (record { around = around ++ r; content = k; goals = hs })) → EachInside P around gs
  each_among P around no_goals f = tt
  each_among P around (atom g a gs) f = each_among P around gs f
  each_among P around (choice g o bs gs) f = (each_in P around bs (λ r k hs i. f r k hs (inl i)), each_among P around gs (λ r k hs i. f r k hs (inr i)))

-- of frames: each is one of a box
pub local_either : (fs gs : List Name) (x : Var) → IsLocal (fs ++ gs) x → IsLocal fs x ⊎ IsLocal gs x
local_either [] gs x l = inr l
local_either (f ∷ fs) gs x (inl e) = inl (inl e)
local_either (f ∷ fs) gs x (inr l) = elim (local_either fs gs x l) [ inl i ↦ inl (inr i) | inr i ↦ inr i ]

mutual
  frame_in : (x : Var) (bs : Boxes) → IsLocal (frames_of bs) x → (r : List Content) × (k : Content) × (hs : Goals) × BoxIn r k hs bs × IsLocal k.frames x
  frame_in x no_boxes l = absurd l
  frame_in x (box b gs bs) l = elim (local_either b.frames (frames_inside gs ++ frames_of bs) x l) [
    | inl i ↦ ([], b, gs, inl (refl, refl, refl), i)
    | inr i ↦ elim (local_either (frames_inside gs) (frames_of bs) x i) [
      | inl j ↦ let w : _ = frame_among x gs j in (b ∷ w.0, w.1, w.2, inr (inl (w.0, refl, w.3)), w.4)
      | inr j ↦ let w : _ = frame_in x bs j in (w.0, w.1, w.2, inr (inr w.3), w.4)
    ]
  ]

  frame_among : (x : Var) (gs : Goals) → IsLocal (frames_inside gs) x → (r : List Content) × (k : Content) × (hs : Goals) × InGoals r k hs gs × IsLocal k.frames x
  frame_among x no_goals l = absurd l
  frame_among x (atom g a gs) l = frame_among x gs l
  frame_among x (choice g o bs gs) l = elim (local_either (frames_of bs) (frames_inside gs) x l) [
    | inl j ↦ let w : _ = frame_in x bs j in (w.0, w.1, w.2, inl w.3, w.4)
    | inr j ↦ let w : _ = frame_among x gs j in (w.0, w.1, w.2, inr w.3, w.4)
  ]

mutual
  in_frames : (x : Var) (r : List Content) (k : Content) (hs : Goals) (bs : Boxes) → BoxIn r k hs bs → IsLocal k.frames x → IsLocal (frames_of bs) x
  in_frames x r k hs no_boxes i l = absurd i
  in_frames x r k hs (box b gs bs) (inl e) l = IsLocal-left b.frames (frames_inside gs ++ frames_of bs) x (subst (λ (c : Content). IsLocal c.frames x) e.1 l)
  in_frames x r k hs (box b gs bs) (inr (inl (rest, p, i))) l = IsLocal-right b.frames (frames_inside gs ++ frames_of bs) x (IsLocal-left (frames_inside gs) (frames_of bs) x (among_frames x rest k hs gs i l))
  in_frames x r k hs (box b gs bs) (inr (inr i)) l = IsLocal-right b.frames (frames_inside gs ++ frames_of bs) x (IsLocal-right (frames_inside gs) (frames_of bs) x (in_frames x r k hs bs i l))

  among_frames : (x : Var) (r : List Content) (k : Content) (hs gs : Goals) → InGoals r k hs gs → IsLocal k.frames x → IsLocal (frames_inside gs) x
  among_frames x r k hs no_goals i l = absurd i
  among_frames x r k hs (atom g a gs) i l = among_frames x r k hs gs i l
  among_frames x r k hs (choice g o bs gs) (inl i) l = IsLocal-left (frames_of bs) (frames_inside gs) x (in_frames x r k hs bs i l)
  among_frames x r k hs (choice g o bs gs) (inr i) l = IsLocal-right (frames_of bs) (frames_inside gs) x (among_frames x r k hs gs i l)

module _ (c : Config) (s : Stand c) (n : Name) (f : Found) (e : box_at n c.roots ≡ Some f) where
  -- the box itself, or one inside it
  pub record IsDown (u : Found) : Type 0 where
    pub there : box_at u.content.name c.roots ≡ Some u
    pub named : IsIn n (names_down_to u)

  is_name : n ≡ f.content.name
  is_name = box-itself n c.roots f e

  pub itself : IsDown f
  itself = record {
    there = subst (λ (m : Name). box_at m c.roots ≡ Some f) is_name e;
    named = IsIn-right n (names_around f) (f.content.name ∷ []) (inl is_name);
  }

  -- one inside it, by the boxes between
  pub deeper : (rest : List Content) (k : Content) (hs : Goals) → InGoals rest k hs f.goals → IsDown (record { around = f.around ++ f.content ∷ rest; content = k; goals = hs })
  deeper rest k hs i = record {
    there = in_found c.roots (record { around = f.around ++ f.content ∷ rest; content = k; goals = hs }) s.once (in_deeper f.around f.content f.goals rest k hs c.roots (found_in n c.roots f e) i);
    named = IsIn-left n (names_around (record { around = f.around ++ f.content ∷ rest; content = k; goals = hs })) (k.name ∷ [])
        (subst (λ (m : Name). IsIn m (names_around (record { around = f.around ++ f.content ∷ rest; content = k; goals = hs }))) (sym is_name) (in_path f.around f.content rest));
  }

  pub down : (r : List Content) (k : Content) (hs : Goals) → BoxIn r k hs (only f) → IsDown (record { around = f.around ++ r; content = k; goals = hs })
  down r k hs (inl x) = subst IsDown (λ i. record { around = (sym (append-nil f.around) ∙ ap (λ (a : List Content). f.around ++ a) (sym x.0)) i; content = sym x.1 i; goals = sym x.2 i }) itself
  down r k hs (inr (inl (rest, p, i))) = subst (λ (a : List Content). IsDown (record { around = f.around ++ a; content = k; goals = hs })) (sym p) (deeper rest k hs i)
  down r k hs (inr (inr z)) = absurd z

  pub each_down : (P : Found → Type 0) → ((u : Found) → IsDown u → P u) → EachBox P f.around (only f)
  each_down P h = each_in P f.around (only f) (λ r k hs i. h (record { around = f.around ++ r; content = k; goals = hs }) (down r k hs i))

  pub holds_down : (P : Found → Type 0) → EachBox P f.around (only f) → (u : Found) → IsDown u → P u
  holds_down P each u d = holds_at P c s n f e each (Place.Box u.content.name) u d.there (elim (IsIn-either n (names_around u) (u.content.name ∷ []) d.named) [
    | inl i ↦ inr (subst (λ (o : Option Found). IsSomeAnd (option_map names_around o) (IsIn n)) (sym d.there) i)
    | inr i ↦ elim i [
      | inl q ↦ inl (ap Place.Box (sym q), ap (λ (o : Option Found). is_some o) e)
      | inr z ↦ absurd z
    ]
  ])

  -- each frame in it is one of such a box, and none else is
  pub frame_down : (x : Var) → IsLocal (frames_of (only f)) x → (u : Found) × IsDown u × IsLocal u.content.frames x
  frame_down x l = let w : _ = frame_in x (only f) l in (record { around = f.around ++ w.0; content = w.1; goals = w.2 }, down w.0 w.1 w.2 w.3, w.4)

  -- the box itself, or under these boxes in it
  pub record IsBelow (u : Found) : Type 0 where
    pub rest : List Content
    pub around : u.around ≡ f.around ++ f.content ∷ rest
    pub among : InGoals rest u.content u.goals f.goals

  pub below : (u : Found) → IsDown u → (f ≡ u) ⊎ IsBelow u
  below u d = elim (IsIn-either n (names_around u) (u.content.name ∷ []) d.named) [
    | inl i ↦
        let o : Over n u c.roots = over n u c.roots (found_in u.content.name c.roots u d.there) i in
        let q : o.outer ≡ f = one_box c.roots s.once o.outer f o.stands (found_in n c.roots f e) (sym o.named ∙ is_name) in
        inr (record {
          rest = o.rest;
          around = o.path ∙ (λ i. (q i).around ++ (q i).content ∷ o.rest);
          among = subst (λ (k : Found). InGoals o.rest u.content u.goals k.goals) q o.inside;
        })
    | inr i ↦ elim i [
      | inl q ↦ inl (some_value (sym e ∙ ap (λ (m : Name). box_at m c.roots) q ∙ d.there))
      | inr z ↦ absurd z
    ]
  ]

  pub down_frame : (x : Var) (u : Found) → IsDown u → IsLocal u.content.frames x → IsLocal (frames_of (only f)) x
  down_frame x u d l = elim (below u d) [
    | inl q ↦ in_frames x [] f.content f.goals (only f) (inl (refl, refl, refl)) (subst (λ (k : Found). IsLocal k.content.frames x) (sym q) l)
    | inr b ↦ in_frames x (f.content ∷ b.rest) u.content u.goals (only f) (inr (inl (b.rest, refl, b.among))) l
  ]
