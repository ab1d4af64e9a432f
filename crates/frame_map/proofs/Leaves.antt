-- What a change of one slot makes of a leaf, and its values listed one after another.
use Rattle.std.proofs.Common.{◌≡◌, ℕ, ◌+◌, ◌-◌, ◌<◌, ◌≤◌, Bool, true, false, List, [], ◌++◌, length, get_or, set, Option, None, refl, sym, ap, subst, ◌∙◌, append_assoc, arith}
use Rattle.std.proofs.lemmas.List.{get_or_default}
use Rattle.std.specs.Prelude.{◌&&◌, if◌then◌else◌}
use Rattle.akl_terms.specs.declared.name.Name.{Name}
use Rattle.name_map.specs.Pages.{within, in_slot, with_value, listed}
use Rattle.name_map.proofs.Within.{within_past, within_at, within_set}
use Rattle.std.proofs.lemmas.Bool.{eqb-true}
use Rattle.frame_map.specs.Contents.{of_slots, Same, Puts, IsMade, PutsMade}
use Rattle.frame_map.proofs.Listing.{listed_next, listed_up_to}
use lib.Dec.{eqb}

and_true : (b : Bool) → (b && true) ≡ b
and_true true = refl
and_true false = refl

module _ {V : Type 0} where
  -- another value in a slot, once the slots up to it are there
  slot_put : (old slots : List (Option V)) (i : ℕ) (o : Option V) → i < length slots → ((j : ℕ) → within in_slot slots j ≡ within in_slot old j) → Puts (of_slots old) (of_slots (set slots i o)) i o
  slot_put old slots i o h same n =
      within_set in_slot slots i n (get_or slots i None) o true o h (λ d. get_or_default slots i None d h) refl
      ∙ ap (λ (t : Bool). if t then o else within in_slot slots n) (and_true (eqb n i))
      ∙ ap (λ (p : Option V). if eqb n i then o else p) (same n)

  -- so it is of one that is made of what was there
  pub slot_made : (makes : Option V → V → Type 0) (old slots : List (Option V)) (i : ℕ) (p o : Option V) → i < length slots → ((j : ℕ) → within in_slot slots j ≡ within in_slot old j) → ((d : Option V) → p ≡ get_or slots i d)
      → IsMade makes p o → PutsMade makes (of_slots old) (of_slots (set slots i o)) i
  slot_made makes old slots i p o h same is m = record {
    value = m.value;
    puts = subst (λ (q : Option V). Puts (of_slots old) (of_slots (set slots i o)) i q) m.is (slot_put old slots i o h same);
    made = subst (λ (q : Option V). makes q m.value) (sym (within_at in_slot slots i p h is) ∙ same i) m.made;
  }

  -- or of the very one that was there
  pub slot_same : (old slots : List (Option V)) (i : ℕ) (p : Option V) → i < length slots → ((j : ℕ) → within in_slot slots j ≡ within in_slot old j) → ((d : Option V) → p ≡ get_or slots i d)
      → Same (of_slots old) (of_slots (set slots i p))
  slot_same old slots i p h same is n = slot_put old slots i p h same n ∙ on (eqb n i) refl
    where
      on : (b : Bool) → eqb n i ≡ b → (if b then p else within in_slot old n) ≡ within in_slot old n
      on true e = let here : n ≡ i = eqb-true n i e in sym (within_at in_slot slots i p h is) ∙ same i ∙ ap (within in_slot old) (sym here)
      on false e = refl

  module _ (w first : ℕ) (slots : List (Option V)) (before : List (Name × V)) where
    -- the value of one slot more
    pub slot_listed : (i : ℕ) (slot : Option V) (old new : List (Name × V)) → i < length slots → ((d : Option V) → slot ≡ get_or slots i d) → new ≡ old ++ with_value slot w (first + i) []
        → old ≡ before ++ listed w first i (λ n. within in_slot slots (n - first)) [] → new ≡ before ++ listed w first (i + 1) (λ n. within in_slot slots (n - first)) []
    slot_listed i slot old new h is more start =
        let done : List (Name × V) = listed w first i (λ n. within in_slot slots (n - first)) [] in
        let index : first + i - first ≡ i = omega arith in
        more ∙ ap (λ (l : List (Name × V)). l ++ with_value slot w (first + i) []) start ∙ append_assoc before done (with_value slot w (first + i) [])
        ∙ ap (λ (o : Option V). before ++ (done ++ with_value o w (first + i) [])) (sym (ap (within in_slot slots) index ∙ within_at in_slot slots i slot h is))
        ∙ ap (λ (l : List (Name × V)). before ++ l) (sym (listed_next w first i (λ n. within in_slot slots (n - first))))

    -- no slot is left
    pub slots_listed : (m : ℕ) (list : List (Name × V)) → length slots ≤ m → list ≡ before ++ listed w first (length slots) (λ n. within in_slot slots (n - first)) []
        → list ≡ before ++ listed w first m (λ n. within in_slot slots (n - first)) []
    slots_listed m list h done =
        done ∙ ap (λ (l : List (Name × V)). before ++ l) (sym (listed_up_to w first (length slots) m (λ n. within in_slot slots (n - first)) h (λ i past. within_past in_slot slots (i - first) (omega arith))))
