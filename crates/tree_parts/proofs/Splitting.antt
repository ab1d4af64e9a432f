-- How names are split, and that what is split differs.
use Rattle.std.proofs.Common.{◌≡◌, ◌≢◌, ℕ, zero, suc, ◌<◌, List, [], ◌∷◌, ◌++◌, length, map, refl, sym, ◌∙◌, ap, subst, inl, inr, arith}
use Rattle.std.specs.Prelude.{◌⊎◌}
use Rattle.std.specs.Global.{Vec}
use Rattle.std.proofs.Math.ListN.{set}
use Rattle.std.proofs.lemmas.List.{length-map, length-set, get_or-map, get_or-set_same, get_or-set_other}
use Rattle.tree_parts.specs.Firsts.{at_node}
use Rattle.tree_parts.specs.Lists.{Has, list_at, AreGroups}
use Rattle.tree_parts.specs.Splits.{IsOneIn, AreSplit, AreRenamed, AreListed}
use Rattle.tree_parts.proofs.Rounds.{either_nat}
use Rattle.tree_parts.proofs.Having.{either-has, has-left, has-right, has-either, has-at, has-place, has-map, map-has}
use Rattle.tree_parts.proofs.Grouping.{items_of}

-- what gets one name is split from the rest
pub renamed-split : (old new nodes : List ℕ) (name : ℕ) → AreRenamed old new nodes name → AreSplit old new nodes
renamed-split old new nodes name r = record { size = r.size; apart = λ i j h g d. apart i j h g d (either-has nodes i) (either-has nodes j) }
  where
    apart : (i j : ℕ) → i < length old → j < length old → at_node new i ≢ at_node new j → Has nodes i ⊎ (Has nodes i → ⊥) → Has nodes j ⊎ (Has nodes j → ⊥) → (at_node old i ≢ at_node old j) ⊎ IsOneIn nodes i j
    apart i j h g d (inl u) (inl v) = absurd (d (r.listed i h u ∙ sym (r.listed j g v)))
    apart i j h g d (inl u) (inr v) = inr (inl (u, v))
    apart i j h g d (inr u) (inl v) = inr (inr (u, v))
    apart i j h g d (inr u) (inr v) = inl (λ e. d (r.others i u ∙ e ∙ sym (r.others j v)))

-- what a name lists: as before, and behind these the nodes that got a name
pub renamed-listed : (old new nodes : List ℕ) (members more : List (List ℕ)) (name : ℕ) → AreRenamed old new nodes name → AreListed old members
    → ((g i : ℕ) → Has (list_at members g) i → Has (list_at more g) i) → ((i : ℕ) → Has nodes i → Has (list_at more name) i) → AreListed new more
renamed-listed old new nodes members more name r l kept added = λ i h. from i (let s : length new ≡ length old = r.size in omega (arith, h, s)) (either-has nodes i)
  where
    from : (i : ℕ) → i < length old → Has nodes i ⊎ (Has nodes i → ⊥) → Has (list_at more (at_node new i)) i
    from i h (inl u) = subst (λ (g : ℕ). Has (list_at more g) i) (sym (r.listed i h u)) (added i u)
    from i h (inr u) = subst (λ (g : ℕ). Has (list_at more g) i) (sym (r.others i u)) (kept (at_node old i) i (l i h))

-- a part of the nodes that has with each all of its name tells apart what names or the nodes do
pub part-of : (names nodes part : List ℕ) (groups : List (List ℕ)) (g : ℕ) → AreGroups (map (at_node names) nodes) groups → part ≡ map (at_node nodes) (list_at groups g)
    → (i j : ℕ) → IsOneIn part i j → (at_node names i ≢ at_node names j) ⊎ IsOneIn nodes i j
part-of names nodes part groups g a is = λ i j o. elim o [
  | inl r ↦ from i j r.0 r.1
  | inr r ↦ elim (from j i r.1 r.0) [ inl d ↦ inl (λ e. d (sym e)) | inr u ↦ inr (elim u [ inl v ↦ inr (v.1, v.0) | inr v ↦ inl (v.1, v.0) ]) ]
]
  where
    keys : List ℕ
    keys = map (at_node names) nodes

    size : length keys ≡ length nodes
    size = length-map nodes (at_node names)

    key : (t : ℕ) → t < length nodes → at_node keys t ≡ at_node names (at_node nodes t)
    key t h = get_or-map (at_node names) nodes t 0 0 h

    from : (i j : ℕ) → Has part i → (Has part j → ⊥) → (at_node names i ≢ at_node names j) ⊎ IsOneIn nodes i j
    from i j u v = with-place (map-has (at_node nodes) (list_at groups g) i (subst (λ (xs : List ℕ). Has xs i) is u))
      where
        with-place : (t : ℕ) × Has (list_at groups g) t × (at_node nodes t ≡ i) → (at_node names i ≢ at_node names j) ⊎ IsOneIn nodes i j
        with-place w = other (either-has nodes j)
          where
            within : w.0 < length nodes
            within = let l : w.0 < length keys = a.within g w.0 w.1 in omega (arith, l, size)

            there : Has nodes i
            there = subst (Has nodes) w.2 (has-at nodes w.0 within)

            other : Has nodes j ⊎ (Has nodes j → ⊥) → (at_node names i ≢ at_node names j) ⊎ IsOneIn nodes i j
            other (inr n) = inr (inl (there, n))
            other (inl h) = inl (λ e. v (also (has-place nodes j h) e))
              where
                also : (t : ℕ) × (t < length nodes) × (at_node nodes t ≡ j) → at_node names i ≡ at_node names j → Has part j
                also x e =
                    let l : x.0 < length nodes = x.1 in
                    let k : at_node keys w.0 ≡ at_node keys x.0 = key w.0 within ∙ ap (at_node names) w.2 ∙ e ∙ sym (ap (at_node names) x.2) ∙ sym (key x.0 l) in
                    let m : Has (list_at groups g) x.0 = a.whole g w.0 x.0 w.1 (omega (arith, l, size)) k in
                    subst (λ (xs : List ℕ). Has xs j) (sym is) (subst (Has (map (at_node nodes) (list_at groups g))) x.2 (has-map (at_node nodes) (list_at groups g) x.0 m))

-- a part after another
pub split-more : (old now new nodes part : List ℕ) → ((i j : ℕ) → IsOneIn part i j → (at_node old i ≢ at_node old j) ⊎ IsOneIn nodes i j) → AreSplit old now nodes → AreSplit now new part → AreSplit old new nodes
split-more old now new nodes part p a b = record {
  size = b.size ∙ a.size;
  apart = λ i j h g d. elim (b.apart i j (long i h) (long j g) d) [ inl n ↦ a.apart i j h g n | inr o ↦ p i j o ];
}
  where
    long : (i : ℕ) → i < length old → i < length now
    long i h = let s : length now ≡ length old = a.size in omega (arith, h, s)

-- one node more has the name
pub renamed-more : (old now nodes : List ℕ) (node name : ℕ) → node < length now → AreRenamed old now nodes name → AreRenamed old (set now node name) (nodes ++ node ∷ []) name
renamed-more old now nodes node name l r = record {
  size = length-set now node name ∙ r.size;
  listed = λ i h u. listed i h (has-either nodes (node ∷ []) i u) (either_nat i node);
  others = λ i u. get_or-set_other now node i name 0 (λ e. u (has-right nodes (node ∷ []) i (inl (sym e)))) ∙ r.others i (λ k. u (has-left nodes (node ∷ []) i k));
}
  where
    listed : (i : ℕ) → i < length old → Has nodes i ⊎ Has (node ∷ []) i → (i ≡ node) ⊎ (i ≢ node) → at_node (set now node name) i ≡ name
    listed i h o (inl e) = ap (at_node (set now node name)) e ∙ get_or-set_same now node name 0 l
    listed i h (inl u) (inr d) = get_or-set_other now node i name 0 d ∙ r.listed i h u
    listed i h (inr u) (inr d) = elim u [ inl e ↦ absurd (d (sym e)) | inr z ↦ absurd z ]

-- what is not there cannot have a name
pub renamed-skip : (old now nodes : List ℕ) (node name : ℕ) → (node < length now → ⊥) → AreRenamed old now nodes name → AreRenamed old now (nodes ++ node ∷ []) name
renamed-skip old now nodes node name never r = record {
  size = r.size;
  listed = λ i h u. elim (has-either nodes (node ∷ []) i u) [
    | inl k ↦ r.listed i h k
    | inr k ↦ elim k [ inl e ↦ absurd (never (let s : length now ≡ length old = r.size in omega (arith, h, s, e))) | inr z ↦ absurd z ]
  ];
  others = λ i u. r.others i (λ k. u (has-left nodes (node ∷ []) i k));
}

-- a list more
pub pushed-kept : (lists : List (Vec ℕ)) (part : Vec ℕ) (g i : ℕ) → Has (list_at (items_of lists) g) i → Has (list_at (items_of (lists ++ part ∷ [])) g) i
pushed-kept [] part g i h = absurd h
pushed-kept (l ∷ ls) part zero i h = h
pushed-kept (l ∷ ls) part (suc g) i h = pushed-kept ls part g i h

pub pushed-last : (lists : List (Vec ℕ)) (part : Vec ℕ) → list_at (items_of (lists ++ part ∷ [])) (length lists) ≡ part.items
pushed-last [] part = refl
pushed-last (l ∷ ls) part = pushed-last ls part
