-- Places that come to a list, one after another.
use Rattle.std.proofs.Common.{◌≡◌, ℕ, ◌+◌, ◌<◌, get_or, take, List, [], ◌∷◌, ◌++◌, length, Option, Some, None, refl, sym, ap, subst, ◌∙◌, ◌⊎◌, inl, inr, true, false}
use Rattle.std.specs.Prelude.{option_map, IfSome, is_some}
use Rattle.std.proofs.lemmas.List.{take_more}
use Rattle.akl_terms.specs.declared.name.Place.{Place}
use Rattle.akl_model.specs.Wakes.{boxes_around, IsOneOf, IsThere}
use Rattle.table_laws.specs.Stamped.{Run, IsTableOf}
use Rattle.box_tree.specs.Tables.{all_rules, TableValue, table_of}
use Rattle.opened_places.specs.Placed.{PlacedValue, placed, places_of, StandsSo, HasAround}
use Rattle.scheduler.specs.Opening.{IsPlacedIn}
use Rattle.scheduler.specs.Placing.{AddsPlaced, comes, isnt_there, AddsThose}

module _ (v : TableValue) where
  pub put_found : (place : Place) (before now : List PlacedValue) (found : Option PlacedValue) (x : PlacedValue) → found ≡ Some x → IfSome found (λ p. p.place ≡ place) → HasAround v place (option_map (λ p. p.around) found) → now ≡ before ++ x ∷ []
      → AddsPlaced v place before now
  put_found place before now found x e h a n =
      let same : x.place ≡ place = subst (λ (o : Option PlacedValue). IfSome o (λ p. p.place ≡ place)) e h in
      comes x.around (subst (λ (o : Option PlacedValue). HasAround v place (option_map (λ p. p.around) o)) e a) (n ∙ ap (λ (k : Place). before ++ placed k x.around ∷ []) same)

  pub put_nothing : (place : Place) (before : List PlacedValue) (found : Option PlacedValue) → found ≡ None → HasAround v place (option_map (λ p. p.around) found) → AddsPlaced v place before before
  put_nothing place before found e a = isnt_there (subst (λ (o : Option PlacedValue). HasAround v place (option_map (λ p. p.around) o)) e a) refl

  those_end : (ps : List Place) (p : Place) (before mid now : List PlacedValue) → AddsThose v ps before mid → AddsPlaced v p mid now → AddsThose v (ps ++ p ∷ []) before now
  those_end [] p before mid now a b = (now, subst (λ (l : List PlacedValue). AddsPlaced v p l now) a b, refl)
  those_end (q ∷ qs) p before mid now a b = (a.0, a.1, those_end qs p a.0 mid now a.2 b)

  pub those_next : (ps : List Place) (i : ℕ) (d p : Place) (before mid now : List PlacedValue) → i < length ps → p ≡ get_or ps i d → AddsThose v (take i ps) before mid → AddsPlaced v p mid now → AddsThose v (take (i + 1) ps) before now
  those_next ps i d p before mid now h e a b = subst (λ (l : List Place). AddsThose v l before now) (sym (take_more ps i d h)) (those_end (take i ps) (get_or ps i d) before mid now a (subst (λ (q : Place). AddsPlaced v q mid now) e b))

-- members
pub of_placed : (p : PlacedValue) (ps : List PlacedValue) → IsPlacedIn p ps → IsOneOf p.place (places_of ps)
of_placed p [] i = absurd i
of_placed p (q ∷ qs) (inl e) = inl (ap (λ (v : PlacedValue). v.place) e)
of_placed p (q ∷ qs) (inr i) = inr (of_placed p qs i)

-- one listed place, with the boxes around it
pub one_placed : (place : Place) (ps : List PlacedValue) → IsOneOf place (places_of ps) → (p : PlacedValue) × IsPlacedIn p ps × (p.place ≡ place)
one_placed place [] i = absurd i
one_placed place (q ∷ qs) (inl e) = (q, inl refl, sym e)
one_placed place (q ∷ qs) (inr i) = let w : (p : PlacedValue) × IsPlacedIn p qs × (p.place ≡ place) = one_placed place qs i in (w.0, inr w.1, w.2)

either_placed : (p : PlacedValue) (ps : List PlacedValue) (q : PlacedValue) → IsPlacedIn p (ps ++ q ∷ []) → IsPlacedIn p ps ⊎ (p ≡ q)
either_placed p [] q (inl e) = inr e
either_placed p [] q (inr i) = absurd i
either_placed p (r ∷ rs) q (inl e) = inl (inl e)
either_placed p (r ∷ rs) q (inr i) = elim (either_placed p rs q i) [ inl j ↦ inl (inr j) | inr e ↦ inr e ]

one_left : (p : Place) (ps : List PlacedValue) (q : PlacedValue) → IsOneOf p (places_of ps) → IsOneOf p (places_of (ps ++ q ∷ []))
one_left p [] q i = absurd i
one_left p (r ∷ rs) q (inl e) = inl e
one_left p (r ∷ rs) q (inr i) = inr (one_left p rs q i)

one_end : (ps : List PlacedValue) (q : PlacedValue) → IsOneOf q.place (places_of (ps ++ q ∷ []))
one_end [] q = inl refl
one_end (r ∷ rs) q = inr (one_end rs q)

-- in a configuration of the table
module _ (v : TableValue) (run : Run) (t : IsTableOf all_rules run (table_of v)) where
  -- what was in the list stays in it
  pub those_keep : (ps : List Place) (before now : List PlacedValue) → AddsThose v ps before now → (p : Place) → IsOneOf p (places_of before) → IsOneOf p (places_of now)
  those_keep [] before now e p i = subst (λ (l : List PlacedValue). IsOneOf p (places_of l)) (sym e) i
  those_keep (q ∷ qs) before now a p i = those_keep qs a.0 now a.2 p (on a.1)
    where
      on : AddsPlaced v q before a.0 → IsOneOf p (places_of a.0)
      on (comes around h e) = subst (λ (l : List PlacedValue). IsOneOf p (places_of l)) (sym e) (one_left p before (placed q around) i)
      on (isnt_there h e) = subst (λ (l : List PlacedValue). IsOneOf p (places_of l)) (sym e) i

  -- each of the places that is there comes
  pub those_come : (ps : List Place) (before now : List PlacedValue) → AddsThose v ps before now → (p : Place) → IsOneOf p ps → IsThere p t.config.roots → IsOneOf p (places_of now)
  those_come [] before now a p i h = absurd i
  those_come (q ∷ qs) before now a p (inr i) h = those_come qs a.0 now a.2 p i h
  those_come (q ∷ qs) before now a p (inl e) h = those_keep qs a.0 now a.2 p (on a.1)
    where
      on : AddsPlaced v q before a.0 → IsOneOf p (places_of a.0)
      on (comes around k f) = subst (λ (l : List PlacedValue). IsOneOf p (places_of l)) (sym f) (subst (λ (z : Place). IsOneOf z (places_of (before ++ placed q around ∷ []))) (sym e) (one_end before (placed q around)))
      on (isnt_there k f) = let none : boxes_around p t.config.roots ≡ None = ap (λ (z : Place). boxes_around z t.config.roots) e ∙ k run t in absurd (let no : true ≡ false = sym h ∙ ap is_some none in cc)

  -- and what came is one of them, with the boxes around it
  pub came_so : (ps : List Place) (before now : List PlacedValue) → AddsThose v ps before now → (p : PlacedValue) → IsPlacedIn p now → IsPlacedIn p before ⊎ (IsOneOf p.place ps × StandsSo t.config.roots p)
  came_so [] before now e p i = inl (subst (IsPlacedIn p) e i)
  came_so (q ∷ qs) before now a p i = elim (came_so qs a.0 now a.2 p i) [ inl j ↦ on a.1 j | inr w ↦ inr (inr w.0, w.1) ]
    where
      on : AddsPlaced v q before a.0 → IsPlacedIn p a.0 → IsPlacedIn p before ⊎ (IsOneOf p.place (q ∷ qs) × StandsSo t.config.roots p)
      on (comes around k f) j = elim (either_placed p before (placed q around) (subst (IsPlacedIn p) f j)) [
        | inl z ↦ inl z
        | inr e ↦ inr (inl (ap (λ (x : PlacedValue). x.place) e), subst (StandsSo t.config.roots) (sym e) (k run t))
      ]
      on (isnt_there k f) j = inl (subst (IsPlacedIn p) f j)
