-- Where a class stands among those with a number.
use Rattle.std.proofs.Common.{◌≡◌, ℕ, suc, List, [], ◌∷◌, ◌++◌, length, Option, Some, None, Bool, true, false, cond, refl, sym, ◌∙◌, ap, subst, nat_eq, eq-eqb}
use Rattle.std.specs.Prelude.{option_map}
use Rattle.std.specs.Map.{lookup}
use Rattle.std.proofs.lemmas.Bool.{eqb-true}
use Rattle.tree_classes.specs.Numbers.{number_in, with_number, known_number, HasNumbers}

-- what a search found: nothing, and the class comes last, or its number from 1 on
abbrev pub IsFound : List ℕ → ℕ → Option ℕ → Type 0
IsFound xs x None = (number_in xs x ≡ length xs) × (with_number xs x ≡ xs ++ x ∷ [])
IsFound xs x (Some k) = (k ≡ suc (number_in xs x)) × (with_number xs x ≡ xs)

pub known_number-found : (xs : List ℕ) (x : ℕ) → IsFound xs x (known_number xs x)
known_number-found [] x = (refl, refl)
known_number-found (y ∷ ys) x = on (nat_eq y x) (known_number ys x) (known_number-found ys x)
  where
    over : (b : Bool) → Option ℕ → Type 0
    over b None = (cond b 0 (suc (number_in ys x)) ≡ suc (length ys)) × (cond b (y ∷ ys) (y ∷ with_number ys x) ≡ y ∷ (ys ++ x ∷ []))
    over b (Some k) = (k ≡ suc (cond b 0 (suc (number_in ys x)))) × (cond b (y ∷ ys) (y ∷ with_number ys x) ≡ y ∷ ys)

    on : (b : Bool) (o : Option ℕ) → IsFound ys x o → over b (cond b (Some 1) (option_map (λ k. suc k) o))
    on true o h = (refl, refl)
    on false None h = (ap (λ (k : ℕ). suc k) h.0, ap (λ (zs : List ℕ). y ∷ zs) h.1)
    on false (Some k) h = (ap (λ (j : ℕ). suc j) h.0, ap (λ (zs : List ℕ). y ∷ zs) h.1)

-- a new variable comes last
known_number-push : (xs : List ℕ) (x y : ℕ) → known_number xs x ≡ None → known_number (xs ++ x ∷ []) y ≡ cond (nat_eq x y) (Some (suc (length xs))) (known_number xs y)
known_number-push [] x y n = refl
known_number-push (z ∷ zs) x y n = on (λ m. known_number-push zs x y m) (nat_eq z x) refl n
  where
    later : known_number (zs ++ x ∷ []) y ≡ cond (nat_eq x y) (Some (suc (length zs))) (known_number zs y) → nat_eq z x ≡ false → (b c : Bool) → nat_eq z y ≡ b → nat_eq x y ≡ c
        → cond b (Some 1) (option_map (λ k. suc k) (known_number (zs ++ x ∷ []) y)) ≡ cond c (Some (suc (suc (length zs)))) (cond b (Some 1) (option_map (λ k. suc k) (known_number zs y)))
    later h f true true p q =
        let e : z ≡ x = eqb-true z y p ∙ sym (eqb-true x y q) in
        let w : true ≡ false = sym (subst (λ (v : ℕ). nat_eq z v ≡ true) e (eq-eqb z z refl)) ∙ f in absurd cc
    later h f true false p q = refl
    later h f false c p q =
        ap (option_map (λ k. suc k)) (h ∙ ap (λ (b : Bool). cond b (Some (suc (length zs))) (known_number zs y)) q) ∙ both c
      where
        both : (b : Bool) → option_map (λ k. suc k) (cond b (Some (suc (length zs))) (known_number zs y)) ≡ cond b (Some (suc (suc (length zs)))) (option_map (λ k. suc k) (known_number zs y))
        both true = refl
        both false = refl

    still : (o : Option ℕ) → option_map (λ k. suc k) o ≡ None → o ≡ None
    still None e = refl
    still (Some k) e = cc

    on : (known_number zs x ≡ None → known_number (zs ++ x ∷ []) y ≡ cond (nat_eq x y) (Some (suc (length zs))) (known_number zs y)) → (b : Bool) → nat_eq z x ≡ b → cond b (Some 1) (option_map (λ k. suc k) (known_number zs x)) ≡ None
        → cond (nat_eq z y) (Some 1) (option_map (λ k. suc k) (known_number (zs ++ x ∷ []) y)) ≡ cond (nat_eq x y) (Some (suc (suc (length zs)))) (cond (nat_eq z y) (Some 1) (option_map (λ k. suc k) (known_number zs y)))
    on h true p e = absurd cc
    on h false p e = later (h (still (known_number zs x) e)) p (nat_eq z y) (nat_eq x y) refl refl

-- the index after a new variable
pub HasNumbers-push : (old new : List (ℕ × ℕ)) (seen : List ℕ) (x : ℕ) → HasNumbers old seen → known_number seen x ≡ None
    → ((y : ℕ) → lookup (nat_eq y) new ≡ cond (nat_eq x y) (Some (suc (length seen))) (lookup (nat_eq y) old)) → HasNumbers new (seen ++ x ∷ [])
HasNumbers-push old new seen x h n f = record {
  each = λ y. f y ∙ ap (cond (nat_eq x y) (Some (suc (length seen)))) (h.each y) ∙ sym (known_number-push seen x y n);
}
