-- Nodes are marked one after the other, and marks are made.
use Rattle.std.proofs.Common.{◌≡◌, ◌≢◌, ℕ, zero, suc, ◌+◌, ◌<◌, List, [], ◌∷◌, ◌++◌, length, Some, refl, sym, ◌∙◌, ap, inl, inr, arith}
use Rattle.std.specs.Prelude.{◌⊎◌, slice_get, slice_set}
use Rattle.std.proofs.lemmas.Option.{slice_get-get_or}
use Rattle.cycle_marks.specs.declared.search.Mark.{Mark}
use Rattle.cycle_marks.specs.declared.search.Mark.TheVariants.{New, Done}
use Rattle.cycle_marks.specs.Searching.{At, new_marks}
use Rattle.cycle_marks.proofs.Places.{either_nat, at-set, set-other, at-one}

-- the nodes before this place are marked, and no others changed
pub record AreMarkedBefore (nodes : List ℕ) (number : ℕ) (old new : List Mark) (n : ℕ) : Type 0 where
  pub done : (k x : ℕ) → k < n → At nodes k x → At new x (Done number)
  pub others : (x : ℕ) → ((k : ℕ) → k < n → At nodes k x → ⊥) → slice_get new x ≡ slice_get old x

pub marked-none : (nodes : List ℕ) (number : ℕ) (marks : List Mark) → AreMarkedBefore nodes number marks marks 0
marked-none nodes number marks = record { done = λ k x l a. absurd (omega (arith, l)); others = λ x h. refl }

pub marked-more : (nodes : List ℕ) (number : ℕ) (old new : List Mark) (n y : ℕ) → At nodes n y → y < length new → AreMarkedBefore nodes number old new n → AreMarkedBefore nodes number old (slice_set new y (Done number)) (n + 1)
marked-more nodes number old new n y a l m = record {
  done = λ k x g b. done k x g b (either_nat y x);
  others = λ x h. set-other new y x (Done number) (λ e. h n (omega arith) (a ∙ ap Some e)) ∙ m.others x (λ k g b. h k (omega (arith, g)) b);
}
  where
    self : At (slice_set new y (Done number)) y (Done number)
    self = at-set new y _ (Done number) (slice_get-get_or new y New l)

    done : (k x : ℕ) → k < n + 1 → At nodes k x → (y ≡ x) ⊎ (y ≢ x) → At (slice_set new y (Done number)) x (Done number)
    done k x g b (inl e) = ap (slice_get (slice_set new y (Done number))) (sym e) ∙ self
    done k x g b (inr d) = set-other new y x (Done number) d ∙ m.done k x (from (either_nat k n)) b
      where
        from : (k ≡ n) ⊎ (k ≢ n) → k < n
        from (inl e) = absurd (d (at-one nodes (sym e) a b))
        from (inr f) = less k n g f
          where
            less : (i j : ℕ) → i < j + 1 → i ≢ j → i < j
            less zero zero v w = absurd (w refl)
            less zero (suc j) v w = omega arith
            less (suc i) zero v w = absurd (omega (arith, v))
            less (suc i) (suc j) v w = let z : i < j = less i j (omega (arith, v)) (λ e. w (ap suc e)) in omega (arith, z)

pub new_marks-more : (n : ℕ) → new_marks n ++ New ∷ [] ≡ new_marks (n + 1)
new_marks-more n = more n ∙ ap new_marks (let e : suc n ≡ n + 1 = omega arith in e)
  where
    more : (m : ℕ) → new_marks m ++ New ∷ [] ≡ new_marks (suc m)
    more zero = refl
    more (suc m) = ap (λ (ms : List Mark). New ∷ ms) (more m)

pub all-new : (n x : ℕ) (m : Mark) → At (new_marks n) x m → New ≡ m
all-new zero x m a = absurd cc
all-new (suc n) zero m a = let o : Some New ≡ Some m = a in cc
all-new (suc n) (suc x) m a = all-new n x m a

pub length-new_marks : (n : ℕ) → length (new_marks n) ≡ n
length-new_marks zero = refl
length-new_marks (suc n) = ap suc (length-new_marks n)
