-- Places of variables, one after another.
use Rattle.std.proofs.Common.{◌≡◌, ℕ, zero, suc, ◌+◌, ◌<◌, ◌≤◌, List, [], ◌∷◌, ◌++◌, length, map, take, get_or, refl, sym, ap, ◌∙◌, inl, inr, Some, Bool, true, false, arith}
use Rattle.std.specs.Prelude.{◌⊎◌, if◌then◌else◌}
use Rattle.std.proofs.lemmas.List.{take_more}
use Rattle.akl_terms.specs.declared.name.Var.{Var}
use Rattle.akl_terms.specs.Names.{same_var}
use Rattle.akl_terms.proofs.SameNames.{same_var-equal, same_var-refl}
use Rattle.constraint_laws.specs.Touched.{IsAmong}
use Rattle.tree_models.specs.declared.model.Given.{Given}
use Rattle.tree_models.specs.Made.{given_by}
use Rattle.tree_models.specs.Tables.{place_in}

module _ (place : ℕ → ℕ) where
  given_behind : (xs : List Var) (is : List ℕ) (x : Var) (i : ℕ) → length xs ≡ length is → given_by place (xs ++ x ∷ []) (is ++ i ∷ []) ≡ given_by place xs is ++ record { variable = x; place = place i } ∷ []
  given_behind [] [] x i e = refl
  given_behind [] (j ∷ js) x i e = absurd (omega (arith, e))
  given_behind (y ∷ ys) [] x i e = absurd (omega (arith, e))
  given_behind (y ∷ ys) (j ∷ js) x i e = ap (λ (l : List Given). record { variable = y; place = place j } ∷ l) (given_behind ys js x i (omega (arith, e)))

  take_length : {A : Type 0} (xs : List A) (k : ℕ) → k ≤ length xs → length (take k xs) ≡ k
  take_length xs zero h = refl
  take_length [] (suc k) h = absurd (omega (arith, h))
  take_length (x ∷ xs) (suc k) h = ap (λ (n : ℕ). suc n) (take_length xs k (omega (arith, h)))

  pub given_more : (xs : List Var) (is : List ℕ) (k : ℕ) (d x : Var) (i p : ℕ) (old new : List Given) → length xs ≡ length is → k < length xs → old ≡ given_by place (take k xs) (take k is)
      → x ≡ get_or xs k d → p ≡ place (get_or is k i) → new ≡ old ++ record { variable = x; place = p } ∷ [] → new ≡ given_by place (take (k + 1) xs) (take (k + 1) is)
  given_more xs is k d x i p old new e h o a b n =
      let same_size : length (take k xs) ≡ length (take k is) = take_length xs k (omega (arith, h)) ∙ sym (take_length is k (omega (arith, h, e))) in
      n ∙ (λ j. old ++ record { variable = a j; place = b j } ∷ []) ∙ ap (λ (l : List Given). l ++ record { variable = get_or xs k d; place = place (get_or is k i) } ∷ []) o
      ∙ sym (given_behind (take k xs) (take k is) (get_or xs k d) (get_or is k i) same_size)
      ∙ (λ j. given_by place (sym (take_more xs k d h) j) (sym (take_more is k i (omega (arith, h, e))) j))

  pub given_variables : (xs : List Var) (is : List ℕ) → length xs ≡ length is → map (λ (g : Given). g.variable) (given_by place xs is) ≡ xs
  given_variables [] is e = refl
  given_variables (x ∷ xs) [] e = absurd (omega (arith, e))
  given_variables (x ∷ xs) (i ∷ is) e = ap (λ (l : List Var). x ∷ l) (given_variables xs is (omega (arith, e)))

  pub given_places : (xs : List Var) (is : List ℕ) → length xs ≡ length is → map (λ (g : Given). g.place) (given_by place xs is) ≡ map place is
  given_places [] [] e = refl
  given_places [] (i ∷ is) e = absurd (omega (arith, e))
  given_places (x ∷ xs) [] e = absurd (omega (arith, e))
  given_places (x ∷ xs) (i ∷ is) e = ap (λ (l : List ℕ). place i ∷ l) (given_places xs is (omega (arith, e)))

-- which variables have a place
pub placed : (gs : List Given) (x : Var) → IsAmong x (map (λ (g : Given). g.variable) gs) → (i : ℕ) × (place_in x gs ≡ Some i)
placed [] x m = absurd m
placed (g ∷ gs) x m = on (same_var x g.variable) refl m (λ n. placed gs x n)
  where
    on : (b : Bool) → same_var x g.variable ≡ b → (x ≡ g.variable) ⊎ IsAmong x (map (λ (g : Given). g.variable) gs) → (IsAmong x (map (λ (g : Given). g.variable) gs) → (i : ℕ) × (place_in x gs ≡ Some i))
        → (i : ℕ) × ((if b then Some g.place else place_in x gs) ≡ Some i)
    on true e n f = (g.place, refl)
    on false e (inl q) f = absurd (let z : true ≡ false = sym (same_var-refl x) ∙ ap (same_var x) q ∙ e in cc)
    on false e (inr n) f = f n

pub among_placed : (gs : List Given) (x : Var) (i : ℕ) → place_in x gs ≡ Some i → IsAmong x (map (λ (g : Given). g.variable) gs)
among_placed [] x i e = cc
among_placed (g ∷ gs) x i e = on (same_var x g.variable) refl e (λ f. among_placed gs x i f)
  where
    on : (b : Bool) → same_var x g.variable ≡ b → (if b then Some g.place else place_in x gs) ≡ Some i → (place_in x gs ≡ Some i → IsAmong x (map (λ (g : Given). g.variable) gs))
        → (x ≡ g.variable) ⊎ IsAmong x (map (λ (g : Given). g.variable) gs)
    on true q n f = inl (same_var-equal x g.variable q)
    on false q n f = inr (f n)
