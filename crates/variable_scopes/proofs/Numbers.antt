-- Numbers of spellings one behind another, and of lists element by element.
use Rattle.std.proofs.Common.{◌≡◌, ℕ, ◌+◌, ◌<◌, ◌≤◌, List, [], ◌∷◌, ◌++◌, length, map, drop, Option, Some, None, get_or, refl, sym, ap, subst, ◌∙◌, append_assoc}
use Rattle.std.proofs.lemmas.List.{append-nil, drop_all, map_push, length-set}
use Rattle.variable_scopes.specs.Numbering.{State, number, with_next, unless_numbered, after_one, entered, after_inside, after, numbers, AreBelow, Numbered, Numbers}
use Rattle.variable_scopes.specs.Spellings.{Spellings, nothing, spelling, collecting, both, all_of}
use Rattle.variable_scopes.proofs.Standing.{length-cleared, length-restored}
use Rattle.variable_scopes.proofs.Turns.{one_dropped}

-- ---- one behind another
pub after-both : (s : State) (x y : Spellings) → after s (both x y) ≡ after (after s x) y
after-both s nothing y = refl
after-both s (spelling n x) y = after-both (after_one s n) x y
after-both s (collecting ns i x) y = after-both (after_inside s ns (after (entered s ns) i)) x y

pub numbers-both : (s : State) (x y : Spellings) → numbers s (both x y) ≡ numbers s x ++ numbers (after s x) y
numbers-both s nothing y = refl
numbers-both s (spelling n x) y = ap (λ (z : List ℕ). number s n ∷ z) (numbers-both (after_one s n) x y)
numbers-both s (collecting ns i x) y =
    ap (λ (z : List ℕ). numbers (entered s ns) i ++ z) (numbers-both (after_inside s ns (after (entered s ns) i)) x y)
    ∙ sym (append_assoc (numbers (entered s ns) i) (numbers (after_inside s ns (after (entered s ns) i)) x) (numbers (after (after_inside s ns (after (entered s ns) i)) x) y))

pub all_of-append : (ms ns : List ℕ) → all_of (ms ++ ns) ≡ both (all_of ms) (all_of ns)
all_of-append [] ns = refl
all_of-append (m ∷ ms) ns = ap (spelling m) (all_of-append ms ns)

pub numbered_nothing : (s : State) → Numbered s nothing [] s
numbered_nothing s = record { numbers_are = refl; state_is = refl }

pub numbered_both : {s t u : State} {x y : Spellings} {ns ms : List ℕ} → Numbered s x ns t → Numbered t y ms u → Numbered s (both x y) (ns ++ ms) u
numbered_both {s} {t} {u} {x} {y} {ns} {ms} a b = record {
  numbers_are = ap (λ (z : List ℕ). z ++ ms) a.numbers_are ∙ ap (λ (z : List ℕ). numbers s x ++ z) (b.numbers_are ∙ ap (λ (z : State). numbers z y) a.state_is) ∙ sym (numbers-both s x y);
  state_is = b.state_is ∙ ap (λ (z : State). after z y) a.state_is ∙ sym (after-both s x y);
}

pub numbers_append : {s t u : State} {ns ms : List ℕ} (xs ys : List ℕ) → Numbers s xs ns t → Numbers t ys ms u → Numbers s (xs ++ ys) (ns ++ ms) u
numbers_append {s} {u = u} {ns = ns} {ms = ms} xs ys a b = subst (λ (z : Spellings). Numbered s z (ns ++ ms) u) (sym (all_of-append xs ys)) (numbered_both a b)

-- ---- the number of spellings stays
length-after_one : (s : State) (n : ℕ) → length (after_one s n).current ≡ length s.current
length-after_one s n = by_place (get_or s.current n None)
  where
    by_place : (o : Option ℕ) → length (unless_numbered o s (with_next s n)).current ≡ length s.current
    by_place (Some m) = refl
    by_place None = length-set s.current n (Some (length s.found))

pub length-after : (s : State) (x : Spellings) → length (after s x).current ≡ length s.current
length-after s nothing = refl
length-after s (spelling n x) = length-after (after_one s n) x ∙ length-after_one s n
length-after s (collecting ns i x) =
    length-after (after_inside s ns (after (entered s ns) i)) x ∙ length-restored (after (entered s ns) i).current s ns ∙ length-after (entered s ns) i ∙ length-cleared s.current ns

pub below_after : {s t : State} {x : Spellings} {ms : List ℕ} (ns : List ℕ) → Numbered s x ms t → AreBelow (length s.current) ns → AreBelow (length t.current) ns
below_after {s} {x = x} ns h b = subst (λ (z : ℕ). AreBelow z ns) (sym (ap (λ (z : State). length z.current) h.state_is ∙ length-after s x)) b

pub below_left : (m : ℕ) (xs ys : List ℕ) → AreBelow m (xs ++ ys) → AreBelow m xs
below_left m [] ys b = tt
below_left m (x ∷ xs) ys b = (b.0, below_left m xs ys b.1)

pub below_right : (m : ℕ) (xs ys : List ℕ) → AreBelow m (xs ++ ys) → AreBelow m ys
below_right m [] ys b = b
below_right m (x ∷ xs) ys b = below_right m xs ys b.1

-- ---- element by element
module _ {A B : Type 0} (spells : A → Spellings) (holds : A → List ℕ) (shape : A → B) where
  abbrev pub all_spell : List A → Spellings
  all_spell [] = nothing
  all_spell (x ∷ xs) = both (spells x) (all_spell xs)

  abbrev pub all_hold : List A → List ℕ
  all_hold [] = []
  all_hold (x ∷ xs) = holds x ++ all_hold xs

  all_hold_push : (xs : List A) (y : A) → all_hold (xs ++ y ∷ []) ≡ all_hold xs ++ holds y
  all_hold_push [] y = append-nil (holds y)
  all_hold_push (x ∷ xs) y = ap (λ (z : List ℕ). holds x ++ z) (all_hold_push xs y) ∙ sym (append_assoc (holds x) (all_hold xs) (holds y))

  -- the front of a list has its numbers, and the rest hasn't yet
  pub record Going (s : State) (old : List A) (t : State) (front rest : List A) : Type 0 where
    pub numbers_are : all_hold front ++ numbers t (all_spell rest) ≡ numbers s (all_spell old)
    pub state_is : after t (all_spell rest) ≡ after s (all_spell old)
    pub shapes : map shape front ++ map shape rest ≡ map shape old
    pub below : AreBelow (length t.current) (all_hold rest)

  pub going_start : (s : State) (old : List A) → AreBelow (length s.current) (all_hold old) → Going s old s [] old
  going_start s old b = record { numbers_are = refl; state_is = refl; shapes = refl; below = b }

  pub going_room : {s t : State} {front : List A} (old : List A) (i : ℕ) (x : A) → i < length old → x ≡ get_or old i x → Going s old t front (drop i old) → AreBelow (length t.current) (holds x)
  going_room {t = t} old i x h e g = below_left (length t.current) (holds x) (all_hold (drop (i + 1) old)) (subst (λ (z : List A). AreBelow (length t.current) (all_hold z)) (one_dropped old i x h e) g.below)

  one_going : {s t u : State} {front rest old : List A} (x y : A) → shape y ≡ shape x → Numbered t (spells x) (holds y) u → Going s old t front (x ∷ rest) → Going s old u (front ++ y ∷ []) rest
  one_going {s} {t} {u} {front} {rest} {old} x y same n g =
      let later : after u (all_spell rest) ≡ after t (both (spells x) (all_spell rest)) = ap (λ (z : State). after z (all_spell rest)) n.state_is ∙ sym (after-both t (spells x) (all_spell rest)) in
      let more : holds y ++ numbers u (all_spell rest) ≡ numbers t (both (spells x) (all_spell rest)) =
      ap (λ (z : List ℕ). z ++ numbers u (all_spell rest)) n.numbers_are ∙ ap (λ (z : State). numbers t (spells x) ++ numbers z (all_spell rest)) n.state_is ∙ sym (numbers-both t (spells x) (all_spell rest)) in
      record {
        numbers_are = ap (λ (z : List ℕ). z ++ numbers u (all_spell rest)) (all_hold_push front y) ∙ append_assoc (all_hold front) (holds y) (numbers u (all_spell rest)) ∙ ap (λ (z : List ℕ). all_hold front ++ z) more ∙ g.numbers_are;
        state_is = later ∙ g.state_is;
        shapes = ap (λ (z : List B). z ++ map shape rest) (map_push shape front y) ∙ append_assoc (map shape front) (shape y ∷ []) (map shape rest) ∙ ap (λ (z : B). map shape front ++ z ∷ map shape rest) same ∙ g.shapes;
        below = below_after (all_hold rest) n (below_right (length t.current) (holds x) (all_hold rest) g.below);
      }

  pub going_turn : {s t u : State} {front : List A} (old : List A) (i : ℕ) (x y : A) → i < length old → x ≡ get_or old i x → shape y ≡ shape x → Numbered t (spells x) (holds y) u → Going s old t front (drop i old)
      → Going s old u (front ++ y ∷ []) (drop (i + 1) old)
  going_turn {s} {t} {front = front} old i x y h e same n g = one_going x y same n (subst (λ (z : List A). Going s old t front z) (one_dropped old i x h e) g)

  pub going_end : {s t : State} {front : List A} (old : List A) (i : ℕ) → length old ≤ i → Going s old t front (drop i old) → Going s old t front []
  going_end {s} {t} {front} old i h g = subst (λ (z : List A). Going s old t front z) (drop_all i old h) g

  pub all_numbered : {s t : State} {front old : List A} → Going s old t front [] → Numbered s (all_spell old) (all_hold front) t
  all_numbered {front = front} g = record { numbers_are = sym (append-nil (all_hold front)) ∙ g.numbers_are; state_is = g.state_is }

  pub all_shaped : {s t : State} {front old : List A} → Going s old t front [] → map shape front ≡ map shape old
  all_shaped {front = front} g = sym (append-nil (map shape front)) ∙ g.shapes
