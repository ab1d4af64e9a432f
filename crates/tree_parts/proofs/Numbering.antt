-- The entries of rows, numbered one after another.
use Rattle.std.proofs.Common.{◌≡◌, ℕ, ◌+◌, ◌<◌, List, [], ◌∷◌, ◌++◌, length, Some, refl, sym, ◌∙◌, ap, subst, inl, inr, arith}
use Rattle.std.specs.Prelude.{◌⊎◌, slice_get}
use Rattle.std.proofs.lemmas.Option.{slice_get_within}
use Rattle.tree_parts.specs.Firsts.{at_node}
use Rattle.tree_parts.specs.Lists.{IsNumber, AreEntries}
use Rattle.tree_parts.specs.Parts.{IsEntry}
use Rattle.tree_parts.proofs.Having.{at-old, at-new, one-longer, less-cases}

one-entry : (rows : List (List ℕ)) (i k p q : ℕ) → IsEntry rows i k p → IsEntry rows i k q → p ≡ q
one-entry rows i k p q x y =
    let r : Some x.row ≡ Some y.row = sym x.of ∙ y.of in
    let s : x.row ≡ y.row = cc in
    let o : Some p ≡ Some q = sym x.to ∙ ap (λ (xs : List ℕ). slice_get xs k) s ∙ y.to in cc

-- one entry more
pub entries-more : (rows : List (List ℕ)) (nodes places nexts : List ℕ) (n m p : ℕ) → IsEntry rows n m p → AreEntries rows nodes places nexts n m → AreEntries rows (nodes ++ n ∷ []) (places ++ m ∷ []) (nexts ++ p ∷ []) n (m + 1)
entries-more rows nodes places nexts n m p x a = record {
  places_size = let u : length (places ++ m ∷ []) ≡ length places + 1 = one-longer places m in let v : length (nodes ++ n ∷ []) ≡ length nodes + 1 = one-longer nodes n in let w : length places ≡ length nodes = a.places_size in omega (arith, u, v, w);
  nexts_size = let u : length (nexts ++ p ∷ []) ≡ length nexts + 1 = one-longer nexts p in let v : length (nodes ++ n ∷ []) ≡ length nodes + 1 = one-longer nodes n in let w : length nexts ≡ length nodes = a.nexts_size in omega (arith, u, v, w);
  listed = λ i k q y o. elim o [
    | inl l ↦ kept i k q (a.listed i k q y (inl l))
    | inr r ↦ elim (less-cases k m r.1) [
      | inl l ↦ kept i k q (a.listed i k q y (inr (r.0, l)))
      | inr e ↦ new i k q y r.0 e
    ]
  ];
  are = λ e h. are e (less-cases e (length nodes) (let v : length (nodes ++ n ∷ []) ≡ length nodes + 1 = one-longer nodes n in omega (arith, h, v)));
}
  where
    longer : length (nodes ++ n ∷ []) ≡ length nodes + 1
    longer = one-longer nodes n

    in-places : (e : ℕ) → e < length nodes → e < length places
    in-places e h = let w : length places ≡ length nodes = a.places_size in omega (arith, h, w)

    in-nexts : (e : ℕ) → e < length nodes → e < length nexts
    in-nexts e h = let w : length nexts ≡ length nodes = a.nexts_size in omega (arith, h, w)

    kept : (i k q : ℕ) → (e : ℕ) × IsNumber nodes places nexts i k q e → (e : ℕ) × IsNumber (nodes ++ n ∷ []) (places ++ m ∷ []) (nexts ++ p ∷ []) i k q e
    kept i k q r =
        let h : r.0 < length nodes = r.1.within in (
          r.0,
          record {
            within = omega (arith, h, longer);
            node = at-old nodes n r.0 h ∙ r.1.node;
            place = at-old places m r.0 (in-places r.0 h) ∙ r.1.place;
            next = at-old nexts p r.0 (in-nexts r.0 h) ∙ r.1.next;
          },
        )

    new : (i k q : ℕ) → IsEntry rows i k q → i ≡ n → k ≡ m → (e : ℕ) × IsNumber (nodes ++ n ∷ []) (places ++ m ∷ []) (nexts ++ p ∷ []) i k q e
    new i k q y d e = (
      length nodes,
      record {
        within = omega (arith, longer);
        node = at-new nodes n (length nodes) refl ∙ sym d;
        place = at-new places m (length nodes) (sym a.places_size) ∙ sym e;
        next = at-new nexts p (length nodes) (sym a.nexts_size) ∙ one-entry rows n m p q x (subst (λ (j : ℕ). IsEntry rows n j q) e (subst (λ (j : ℕ). IsEntry rows j k q) d y));
      },
    )

    are : (e : ℕ) → (e < length nodes) ⊎ (e ≡ length nodes) → IsEntry rows (at_node (nodes ++ n ∷ []) e) (at_node (places ++ m ∷ []) e) (at_node (nexts ++ p ∷ []) e)
    are e (inl h) = is (at_node nodes e) (at_node places e) (at_node nexts e) (sym (at-old nodes n e h)) (sym (at-old places m e (in-places e h))) (sym (at-old nexts p e (in-nexts e h))) (a.are e h)
      where
        is : (i k q : ℕ) → i ≡ at_node (nodes ++ n ∷ []) e → k ≡ at_node (places ++ m ∷ []) e → q ≡ at_node (nexts ++ p ∷ []) e → IsEntry rows i k q → IsEntry rows (at_node (nodes ++ n ∷ []) e) (at_node (places ++ m ∷ []) e) (at_node (nexts ++ p ∷ []) e)
        is i k q u v w y = subst (λ (j : ℕ). IsEntry rows (at_node (nodes ++ n ∷ []) e) (at_node (places ++ m ∷ []) e) j) w (subst (λ (j : ℕ). IsEntry rows (at_node (nodes ++ n ∷ []) e) j q) v (subst (λ (j : ℕ). IsEntry rows j k q) u y))
    are e (inr o) = is n m p (sym (at-new nodes n e o)) (sym (at-new places m e (o ∙ sym a.places_size))) (sym (at-new nexts p e (o ∙ sym a.nexts_size))) x
      where
        is : (i k q : ℕ) → i ≡ at_node (nodes ++ n ∷ []) e → k ≡ at_node (places ++ m ∷ []) e → q ≡ at_node (nexts ++ p ∷ []) e → IsEntry rows i k q → IsEntry rows (at_node (nodes ++ n ∷ []) e) (at_node (places ++ m ∷ []) e) (at_node (nexts ++ p ∷ []) e)
        is i k q u v w y = subst (λ (j : ℕ). IsEntry rows (at_node (nodes ++ n ∷ []) e) (at_node (places ++ m ∷ []) e) j) w (subst (λ (j : ℕ). IsEntry rows (at_node (nodes ++ n ∷ []) e) j q) v (subst (λ (j : ℕ). IsEntry rows j k q) u y))

-- a row that is done
pub entries-row : (rows : List (List ℕ)) (nodes places nexts : List ℕ) (n m : ℕ) (row : List ℕ) → slice_get rows n ≡ Some row → m ≡ length row → AreEntries rows nodes places nexts n m → AreEntries rows nodes places nexts (n + 1) 0
entries-row rows nodes places nexts n m row at size a = record {
  places_size = a.places_size;
  nexts_size = a.nexts_size;
  listed = λ i k p x o. a.listed i k p x (elim o [ inl l ↦ before i k p x (less-cases i n l) | inr r ↦ (let l : k < 0 = r.1 in absurd (omega (arith, l))) ]);
  are = a.are;
}
  where
    before : (i k p : ℕ) → IsEntry rows i k p → (i < n) ⊎ (i ≡ n) → (i < n) ⊎ ((i ≡ n) × (k < m))
    before i k p x (inl l) = inl l
    before i k p x (inr e) =
        let s : Some x.row ≡ Some row = sym x.of ∙ ap (slice_get rows) e ∙ at in
        let r : x.row ≡ row = cc in
        let h : k < length x.row = slice_get_within x.row k p x.to in
        let z : length x.row ≡ length row = ap (λ (xs : List ℕ). length xs) r in
        inr (e, omega (arith, h, z, size))
