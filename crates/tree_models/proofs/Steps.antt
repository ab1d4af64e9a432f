-- Steps along an agenda.
use Rattle.std.proofs.Common.{◌≡◌, ◌<◌, ◌+◌, ◌-◌, ◌*◌, ◌^◌, length, length-append, arith, ℕ, suc, List, [], ◌∷◌, ◌++◌, Option, Some, None, Bool, true, false, cond, refl, sym, ◌∙◌, ap, subst, ◌⊎◌, inl, inr, nat_eq}
use Rattle.std.specs.Prelude.{option_map, reverse}
use Rattle.std.proofs.lemmas.Bool.{eqb-true, eqb-false}
use Rattle.std.proofs.lemmas.List.{reverse-append, reverse-reverse}
use Rattle.tree_classes.specs.Numbers.{with_number, known_number}
use Rattle.tree_models.specs.Visiting.{IsOne, class_of, row_of, VisitsNodes, visited_before, new_class, IsStep, again, newly}
use Rattle.tree_classes.proofs.Numbering.{IsFound, known_number-found}

-- a class has a number exactly where it is one of those that were visited
pub known_one : (xs : List ℕ) (c k : ℕ) → known_number xs c ≡ Some k → IsOne c xs
known_one [] c k e = cc
known_one (y ∷ ys) c k e = on (nat_eq y c) refl (known_number ys c) e (λ j i. known_one ys c j i)
  where
    on : (b : Bool) → nat_eq y c ≡ b → (o : Option ℕ) → cond b (Some 1) (option_map (λ k. suc k) o) ≡ Some k → ((j : ℕ) → o ≡ Some j → IsOne c ys) → (c ≡ y) ⊎ IsOne c ys
    on true p o i f = inl (sym (eqb-true y c p))
    on false p None i f = cc
    on false p (Some j) i f = inr (f j refl)

pub unknown_none : (xs : List ℕ) (c : ℕ) → known_number xs c ≡ None → IsOne c xs → ⊥
unknown_none [] c e m = m
unknown_none (y ∷ ys) c e m = on (nat_eq y c) refl (known_number ys c) e (λ i. unknown_none ys c i) m
  where
    on : (b : Bool) → nat_eq y c ≡ b → (o : Option ℕ) → cond b (Some 1) (option_map (λ k. suc k) o) ≡ None → (o ≡ None → IsOne c ys → ⊥) → (c ≡ y) ⊎ IsOne c ys → ⊥
    on true p o i f n = cc
    on false p (Some j) i f n = cc
    on false p None i f (inl q) = eqb-false y c p (sym q)
    on false p None i f (inr n) = f refl n

pub unknown_last : (xs : List ℕ) (c : ℕ) → known_number xs c ≡ None → with_number xs c ≡ xs ++ c ∷ []
unknown_last xs c e = let f : IsFound xs c None = subst (IsFound xs c) e (known_number-found xs c) in f.1

-- the order to which a step leads was led to
pub leads_back : (rows : List (List ℕ)) (firsts : List ℕ) (node : ℕ) (seen agenda order left final : List ℕ) → IsStep rows firsts node seen agenda order left
    → VisitsNodes rows firsts order (reverse left) final → VisitsNodes rows firsts seen (reverse (agenda ++ node ∷ [])) final
leads_back rows firsts node seen agenda order left final s v = subst (λ (l : List ℕ). VisitsNodes rows firsts seen l final) (sym (reverse-append agenda (node ∷ []))) (on s)
  where
    on : IsStep rows firsts node seen agenda order left → VisitsNodes rows firsts seen (node ∷ reverse agenda) final
    on (again m p q) = visited_before m (subst (λ (l : List ℕ). VisitsNodes rows firsts seen (reverse l) final) q (subst (λ (l : List ℕ). VisitsNodes rows firsts l (reverse left) final) p v))
    on (newly n p q) = new_class n (subst (λ (l : List ℕ). VisitsNodes rows firsts (seen ++ class_of firsts node ∷ []) l final)
        (ap reverse q ∙ reverse-append agenda (reverse (row_of rows (class_of firsts node))) ∙ ap (λ (l : List ℕ). l ++ reverse agenda) (reverse-reverse (row_of rows (class_of firsts node))))
        (subst (λ (l : List ℕ). VisitsNodes rows firsts l (reverse left) final) p v))

-- each step visits a class, or leaves an agenda that is shorter
abbrev pub left_to_do : List ℕ → List ℕ → ℕ
left_to_do order agenda = (2 ^ 64 - length order) * 2 ^ 64 + length agenda

one_less : (n : ℕ) → n < 2 ^ 64 → (l a : ℕ) → l < 2 ^ 64 → (2 ^ 64 - suc n) * 2 ^ 64 + l < (2 ^ 64 - n) * 2 ^ 64 + a
one_less n h l a i = omega (arith, h, i)

pub steps_on : (rows : List (List ℕ)) (firsts : List ℕ) (node : ℕ) (seen agenda order left : List ℕ) → IsStep rows firsts node seen agenda order left → length order < 2 ^ 64 → length left < 2 ^ 64
    → left_to_do order left < left_to_do seen (agenda ++ node ∷ [])
steps_on rows firsts node seen agenda order left (again m p q) h i =
    let a : length (agenda ++ node ∷ []) ≡ suc (length agenda) = length-append agenda (node ∷ []) ∙ omega arith in
    let b : length order ≡ length seen = ap length p in
    let c : length left ≡ length agenda = ap length q in
    rw b (rw c (rw a (omega arith)))
steps_on rows firsts node seen agenda order left (newly n p q) h i =
    let b : length order ≡ suc (length seen) = ap length p ∙ length-append seen (class_of firsts node ∷ []) ∙ omega arith in
    let small : length seen < 2 ^ 64 = omega (arith, h, b) in
    subst (λ (k : ℕ). (2 ^ 64 - k) * 2 ^ 64 + length left < (2 ^ 64 - length seen) * 2 ^ 64 + length (agenda ++ node ∷ [])) (sym b) (one_less (length seen) small (length left) (length (agenda ++ node ∷ [])) i)

pub empty_list : (xs : List ℕ) → length xs ≡ 0 → xs ≡ []
empty_list [] e = refl
empty_list (x ∷ xs) e = cc
