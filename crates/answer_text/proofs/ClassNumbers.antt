-- Where a class stands among those seen.
use Rattle.std.proofs.Common.{◌≡◌, ℕ, suc, List, [], ◌∷◌, ◌++◌, length, Option, Some, None, Bool, true, false, cond, refl, sym, ◌∙◌, ap, subst}
use Rattle.std.specs.Prelude.{option_map}
use Rattle.std.specs.Map.{lookup}
use Rattle.akl_terms.specs.declared.name.Var.{Var}
use Rattle.akl_terms.specs.Names.{same_var}
use Rattle.akl_terms.proofs.SameNames.{same_var-equal, same_var-refl}
use Rattle.answer_text.specs.Pieces.{class_number, with_class, known_number, HasNumbers}

-- what a search found: nothing, and the class comes last, or its number from 1 on
abbrev pub IsFound : List Var → Var → Option ℕ → Type 0
IsFound xs x None = (class_number xs x ≡ length xs) × (with_class xs x ≡ xs ++ x ∷ [])
IsFound xs x (Some k) = (k ≡ suc (class_number xs x)) × (with_class xs x ≡ xs)

pub known_number-found : (xs : List Var) (x : Var) → IsFound xs x (known_number xs x)
known_number-found [] x = (refl, refl)
known_number-found (y ∷ ys) x = on (same_var y x) (known_number ys x) (known_number-found ys x)
  where
    over : (b : Bool) → Option ℕ → Type 0
    over b None = (cond b 0 (suc (class_number ys x)) ≡ suc (length ys)) × (cond b (y ∷ ys) (y ∷ with_class ys x) ≡ y ∷ (ys ++ x ∷ []))
    over b (Some k) = (k ≡ suc (cond b 0 (suc (class_number ys x)))) × (cond b (y ∷ ys) (y ∷ with_class ys x) ≡ y ∷ ys)

    on : (b : Bool) (o : Option ℕ) → IsFound ys x o → over b (cond b (Some 1) (option_map (λ k. suc k) o))
    on true o h = (refl, refl)
    on false None h = (ap (λ (k : ℕ). suc k) h.0, ap (λ (zs : List Var). y ∷ zs) h.1)
    on false (Some k) h = (ap (λ (j : ℕ). suc j) h.0, ap (λ (zs : List Var). y ∷ zs) h.1)

-- a new variable comes last
known_number-push : (xs : List Var) (x y : Var) → known_number xs x ≡ None → known_number (xs ++ x ∷ []) y ≡ cond (same_var x y) (Some (suc (length xs))) (known_number xs y)
known_number-push [] x y n = refl
known_number-push (z ∷ zs) x y n = on (λ m. known_number-push zs x y m) (same_var z x) refl n
  where
    later : known_number (zs ++ x ∷ []) y ≡ cond (same_var x y) (Some (suc (length zs))) (known_number zs y) → same_var z x ≡ false → (b c : Bool) → same_var z y ≡ b → same_var x y ≡ c
        → cond b (Some 1) (option_map (λ k. suc k) (known_number (zs ++ x ∷ []) y)) ≡ cond c (Some (suc (suc (length zs)))) (cond b (Some 1) (option_map (λ k. suc k) (known_number zs y)))
    later h f true true p q =
        let e : z ≡ x = same_var-equal z y p ∙ sym (same_var-equal x y q) in
        let w : true ≡ false = sym (subst (λ (v : Var). same_var z v ≡ true) e (same_var-refl z)) ∙ f in absurd cc
    later h f true false p q = refl
    later h f false c p q =
        ap (option_map (λ k. suc k)) (h ∙ ap (λ (b : Bool). cond b (Some (suc (length zs))) (known_number zs y)) q) ∙ both c
      where
        both : (b : Bool) → option_map (λ k. suc k) (cond b (Some (suc (length zs))) (known_number zs y)) ≡ cond b (Some (suc (suc (length zs)))) (option_map (λ k. suc k) (known_number zs y))
        both true = refl
        both false = refl

    still : (o : Option ℕ) → option_map (λ k. suc k) o ≡ None → o ≡ None
    still None e = refl
    still (Some k) e = cc

    on : (known_number zs x ≡ None → known_number (zs ++ x ∷ []) y ≡ cond (same_var x y) (Some (suc (length zs))) (known_number zs y)) → (b : Bool) → same_var z x ≡ b → cond b (Some 1) (option_map (λ k. suc k) (known_number zs x)) ≡ None
        → cond (same_var z y) (Some 1) (option_map (λ k. suc k) (known_number (zs ++ x ∷ []) y)) ≡ cond (same_var x y) (Some (suc (suc (length zs)))) (cond (same_var z y) (Some 1) (option_map (λ k. suc k) (known_number zs y)))
    on h true p e = absurd cc
    on h false p e = later (h (still (known_number zs x) e)) p (same_var z y) (same_var x y) refl refl

-- the index after a new variable
pub HasNumbers-push : (old new : List (Var × ℕ)) (seen : List Var) (x : Var) → HasNumbers old seen → known_number seen x ≡ None
    → ((y : Var) → lookup (same_var y) new ≡ cond (same_var x y) (Some (suc (length seen))) (lookup (same_var y) old)) → HasNumbers new (seen ++ x ∷ [])
HasNumbers-push old new seen x h n f = record {
  each = λ y. f y ∙ ap (cond (same_var x y) (Some (suc (length seen)))) (h.each y) ∙ sym (known_number-push seen x y n);
}
