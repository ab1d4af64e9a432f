-- What a label does to places, as the open ones are to follow it.
use Rattle.std.proofs.Common.{◌≡◌, Bool, true, false, List, [], ◌∷◌, Option, Some, None, refl, sym, ap, ◌∙◌, ◌⊎◌, inl, inr, arith}
use Rattle.std.specs.Prelude.{◌||◌, IsSomeAnd, IsSome}
use Rattle.std.proofs.lemmas.Bool.Decides.{nat_tests}
use Rattle.akl_terms.specs.declared.name.Name.{Name}
use Rattle.akl_terms.specs.declared.name.Place.{Place}
use Rattle.akl_terms.specs.Names.{same_name}
use Rattle.akl_model.specs.Config.{IsIn, Boxes, Config}
use Rattle.akl_model.specs.Wakes.{boxes_around, StandsIn, Wait, IsOneOf, IsThere, Opens}
use Rattle.step_laws.specs.Likeness.{IsOld}
use Rattle.plan_laws.specs.Waits.{AreWaits}
use Rattle.wake_lists.specs.Waits.{same_place}
use Rattle.wake_lists.proofs.Both.{same_place-equal}
use Rattle.opened_places.specs.Placed.{PlacedValue}
use Rattle.scheduler.specs.Openings.{name_at}
use Rattle.scheduler.specs.Effects.{AreOpenedBy}
use Rattle.scheduler.specs.Dropping.{is_place_in, boxes_among}

-- names and places by their tests
pub not_both : {b : Bool} → b ≡ true → b ≡ false → ⊥
not_both e f = let no : true ≡ false = sym e ∙ f in cc

pub not_true : (b : Bool) → (b ≡ true → ⊥) → b ≡ false
not_true true n = absurd (n refl)
not_true false n = refl

pub place_itself : (p : Place) → same_place p p ≡ true
place_itself (Place.Goal g) = name_itself g
  where
    name_itself : (n : Name) → same_name n n ≡ true
    name_itself n = grind (arith, nat_tests)
place_itself (Place.Box n) = name_itself n
  where
    name_itself : (n : Name) → same_name n n ≡ true
    name_itself n = grind (arith, nat_tests)

pub or_true : (a b : Bool) → (a || b) ≡ true → (a ≡ true) ⊎ (b ≡ true)
or_true true b e = inl refl
or_true false b e = inr e

pub or_left : (a b : Bool) → a ≡ true → (a || b) ≡ true
or_left true b e = refl
or_left false b e = cc

pub or_right : (a b : Bool) → b ≡ true → (a || b) ≡ true
or_right true b e = refl
or_right false b e = e

pub listed_place : (p : Place) (ps : List Place) → is_place_in p ps ≡ true → IsOneOf p ps
listed_place p [] e = cc
listed_place p (q ∷ qs) e = elim (or_true (same_place p q) (is_place_in p qs) e) [ inl f ↦ inl (same_place-equal p q f) | inr f ↦ inr (listed_place p qs f) ]

pub place_listed : (p : Place) (ps : List Place) → IsOneOf p ps → is_place_in p ps ≡ true
place_listed p [] i = absurd i
place_listed p (q ∷ qs) (inl e) = or_left (same_place p q) (is_place_in p qs) (ap (same_place p) (sym e) ∙ place_itself p)
place_listed p (q ∷ qs) (inr i) = or_right (same_place p q) (is_place_in p qs) (place_listed p qs i)

pub box_among : (n : Name) (ps : List Place) → IsOneOf (Place.Box n) ps → IsIn n (boxes_among ps)
box_among n [] i = absurd i
box_among n (Place.Goal g ∷ qs) (inl e) = cc
box_among n (Place.Box m ∷ qs) (inl e) = inl (let f : Place.Box n ≡ Place.Box m = e in cc)
box_among n (Place.Goal g ∷ qs) (inr i) = box_among n qs i
box_among n (Place.Box m ∷ qs) (inr i) = inr (box_among n qs i)

pub among_box : (n : Name) (ps : List Place) → IsIn n (boxes_among ps) → IsOneOf (Place.Box n) ps
among_box n [] i = absurd i
among_box n (Place.Goal g ∷ qs) i = inr (among_box n qs i)
among_box n (Place.Box m ∷ qs) (inl e) = inl (ap Place.Box e)
among_box n (Place.Box m ∷ qs) (inr i) = inr (among_box n qs i)

-- what stands in a box is there
pub stands_there : (n : Name) (bs : Boxes) (place : Place) → StandsIn n bs place → IsThere place bs
stands_there n bs place h = on (boxes_around place bs) h
  where
    on : (o : Option (List Name)) → IsSomeAnd o (IsIn n) → IsSome o
    on None i = absurd i
    on (Some ns) i = refl

-- a label that leads from c to d, where these places were open and these waits kept: these places go, and these open
pub record CommitFacts (c d : Config) (own : Place) (before : List Place) (kept : List Wait) (ps : List PlacedValue) (gone : List Place) : Type 0 where
  pub still : (place : Place) → IsThere place c.roots → IsThere place d.roots → boxes_around place c.roots ≡ boxes_around place d.roots
  pub old : (place : Place) → IsOld c (name_at place) → IsThere place d.roots → IsThere place c.roots
  pub grows : (n : Name) → IsOld c n → IsOld d n
  pub drawn : (place : Place) → IsThere place d.roots → IsOld d (name_at place)
  pub was_drawn : (place : Place) → IsThere place c.roots → IsOld c (name_at place)
  pub within : (n : Name) (place : Place) → StandsIn n d.roots place → IsThere (Place.Box n) d.roots
  pub own_there : IsThere own c.roots
  pub own_open : (g : Name) → own ≡ Place.Goal g → IsOneOf own before
  pub waits : AreWaits c before kept
  pub unopened : (place : Place) → IsOneOf place before → (IsThere place d.roots → ⊥) → Opens kept c d place → ⊥
  pub effects : AreOpenedBy c d kept ps
  pub gone_listed : (place : Place) → IsThere place c.roots → (IsThere place d.roots → ⊥) → IsOneOf place gone
  pub was_there : (place : Place) → IsOneOf place gone → IsThere place c.roots
  pub is_gone : (place : Place) → IsOneOf place gone → IsThere place d.roots → ⊥
  pub gone_within : (g : Name) → IsOneOf (Place.Goal g) gone → (Place.Goal g ≡ own) ⊎ ((n : Name) × IsOneOf (Place.Box n) gone × StandsIn n c.roots (Place.Goal g))
