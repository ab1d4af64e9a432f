-- Nodes of different names differ, and a partition by start and name joins nothing that differs.
use Rattle.std.proofs.Common.{◌≡◌, ◌≢◌, ℕ, ◌<◌, ◌≤◌, List, [], ◌∷◌, length, Some, sym, ◌∙◌, ap, subst, inl, inr, arith}
use Rattle.std.specs.Prelude.{◌⊎◌, slice_get, get_or}
use Rattle.std.proofs.lemmas.Option.{slice_get_within, slice_get-get_or}
use Rattle.tree_parts.specs.Firsts.{at_node, AreFirsts}
use Rattle.tree_parts.specs.Lists.{ArePlaces, IsNumber, AreEntries}
use Rattle.tree_parts.specs.Parts.{IsEntry, AreWithin, AreEven, Differ, by_start, by_entry, IsPartition}
use Rattle.tree_parts.specs.Splits.{AreListed, ArePairs, IsToldByBlock, AreSplitByBlock}
use Rattle.tree_parts.proofs.Rounds.{either_nat, differ-turned}

-- nodes of different names differ, and each name lists at least the nodes that have it
pub record AreSound (rows : List (List ℕ)) (start names : List ℕ) (members : List (List ℕ)) : Type 0 where
  pub size : length names ≡ length rows
  pub differ : (i j : ℕ) → i < length rows → j < length rows → at_node names i ≢ at_node names j → Differ rows start i j
  pub listed : AreListed names members

pub start-sound : (rows : List (List ℕ)) (start : List ℕ) (members : List (List ℕ)) → length start ≡ length rows → ArePlaces start members (length start) → AreSound rows start start members
start-sound rows start members l p = record { size = l; differ = λ i j h g d. by_start d; listed = p.there }

module _ (rows : List (List ℕ)) (start nodes places nexts names : List ℕ) (name : ℕ) (within : AreWithin rows) (even : AreEven rows start) (entries : AreEntries rows nodes places nexts (length rows) 0) (size : length names ≡ length rows)
    (differ : (i j : ℕ) → i < length rows → j < length rows → at_node names i ≢ at_node names j → Differ rows start i j) where
  entry : (i k p e : ℕ) → IsNumber nodes places nexts i k p e → IsEntry rows i k p
  entry i k p e n =
      subst (λ (q : ℕ). IsEntry rows i k q) n.next (subst (λ (q : ℕ). IsEntry rows i q (at_node nexts e)) n.place (subst (λ (q : ℕ). IsEntry rows q (at_node places e) (at_node nexts e)) n.node (entries.are e n.within)))

  opposite : (i j k p : ℕ) → j < length rows → at_node start i ≡ at_node start j → IsEntry rows i k p → (q : ℕ) × IsEntry rows j k q
  opposite i j k p h e x =
      let row : List ℕ = get_or rows j [] in
      let at : slice_get rows j ≡ Some row = slice_get-get_or rows j [] h in
      let long : length x.row ≡ length row = even i j x.row row x.of at e in
      let l : k < length x.row = slice_get_within x.row k p x.to in
      (get_or row k 0, record { row = row; of = at; to = slice_get-get_or row k 0 (omega (arith, l, long)) })

  told-differ : (i j : ℕ) → i < length rows → j < length rows → IsToldByBlock nodes places nexts names name i j → Differ rows start i j
  told-differ i j h g t = from (either_nat (at_node start i) (at_node start j))
    where
      x : IsEntry rows i t.at t.next
      x = entry i t.at t.next t.number t.has

      from : (at_node start i ≡ at_node start j) ⊎ (at_node start i ≢ at_node start j) → Differ rows start i j
      from (inr d) = by_start d
      from (inl e) = with-entry (opposite i j t.at t.next g e x)
        where
          with-entry : (q : ℕ) × IsEntry rows j t.at q → Differ rows start i j
          with-entry y =
              let l : y.0 < length rows = within j t.at y.0 y.1 in
              let number : (e : ℕ) × IsNumber nodes places nexts j t.at y.0 e = entries.listed j t.at y.0 y.1 (inl g) in
              let other : at_node names y.0 ≢ name = t.others y.0 number.0 number.1 (omega (arith, l, size)) in
              by_entry t.at x y.1 (differ t.next y.0 (within i t.at t.next x) l (λ z. other (sym z ∙ t.named)))

  pub block-differ : (new : List ℕ) → AreSplitByBlock nodes places nexts name names new → (i j : ℕ) → i < length rows → j < length rows → at_node new i ≢ at_node new j → Differ rows start i j
  block-differ new s i j h g d = elim (s.apart i j (omega (arith, h, size)) (omega (arith, g, size)) d) [
    | inl n ↦ differ i j h g n
    | inr o ↦ elim o [ inl t ↦ told-differ i j h g t | inr t ↦ differ-turned (told-differ j i g h t) ]
  ]

pub block-sound : (rows : List (List ℕ)) (start nodes places nexts names new : List ℕ) (members more : List (List ℕ)) (name : ℕ) → AreWithin rows → AreEven rows start → AreEntries rows nodes places nexts (length rows) 0
    → AreSound rows start names members → AreSplitByBlock nodes places nexts name names new → AreListed new more → AreSound rows start new more
block-sound rows start nodes places nexts names new members more name w e a s b l = record {
  size = b.size ∙ s.size;
  differ = block-differ rows start nodes places nexts names name w e a s.size s.differ new b;
  listed = l;
}

-- what has one first place starts alike and has one name
pub pairs-partition : (rows : List (List ℕ)) (start names firsts : List ℕ) (members keys : List (List ℕ)) → length start ≡ length rows → AreSound rows start names members → ArePairs start names keys (length start) → AreFirsts keys firsts → IsPartition rows start firsts
pairs-partition rows start names firsts members keys l s p f = record {
  size = f.size ∙ p.size ∙ l;
  named = record { before = λ i h. f.before i (omega (arith, h, sized)); itself = λ i h. itself i (omega (arith, h, sized)) };
  finer = λ i j h g e. (same i j h g e).0;
  differ = λ i j h g d. from i j h g d (either_nat (at_node start i) (at_node start j)) (either_nat (at_node names i) (at_node names j));
}
  where
    sized : length firsts ≡ length keys
    sized = f.size

    total : length keys ≡ length rows
    total = p.size ∙ l

    itself : (i : ℕ) → i < length keys → at_node firsts (at_node firsts i) ≡ at_node firsts i
    itself i h = let b : at_node firsts i ≤ i = f.before i h in f.one (at_node firsts i) i (omega (arith, b, h)) h (f.key i h)

    key : (i : ℕ) → i < length rows → get_or keys i [] ≡ at_node start i ∷ at_node names i ∷ []
    key i h = p.key i (omega (arith, h, l))

    in-keys : (i : ℕ) → i < length rows → i < length keys
    in-keys i h = omega (arith, h, total)

    same : (i j : ℕ) → i < length rows → j < length rows → at_node firsts i ≡ at_node firsts j → (at_node start i ≡ at_node start j) × (at_node names i ≡ at_node names j)
    same i j h g e =
        let z : at_node start i ∷ at_node names i ∷ [] ≡ at_node start j ∷ at_node names j ∷ [] =
        sym (key i h) ∙ sym (f.key i (in-keys i h)) ∙ ap (λ (m : ℕ). get_or keys m []) e ∙ f.key j (in-keys j g) ∙ key j g in (cc, cc)

    from : (i j : ℕ) → i < length rows → j < length rows → at_node firsts i ≢ at_node firsts j → (at_node start i ≡ at_node start j) ⊎ (at_node start i ≢ at_node start j) → (at_node names i ≡ at_node names j) ⊎ (at_node names i ≢ at_node names j) → Differ rows start i j
    from i j h g d (inr n) o = by_start n
    from i j h g d (inl e) (inr n) = s.differ i j h g n
    from i j h g d (inl e) (inl m) = absurd (d (f.one i j (in-keys i h) (in-keys j g) (key i h ∙ (let z : at_node start i ∷ at_node names i ∷ [] ≡ at_node start j ∷ at_node names j ∷ [] = cc in z) ∙ sym (key j g))))
