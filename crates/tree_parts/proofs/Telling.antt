-- What a block tells apart, place by place.
use Rattle.std.proofs.Common.{◌≡◌, ℕ, ◌<◌, List, [], ◌∷◌, ◌++◌, length, map, sym, ◌∙◌, ap, subst, inl, inr, arith}
use Rattle.std.proofs.lemmas.List.{length-map, get_or-map}
use Rattle.tree_parts.specs.Firsts.{at_node}
use Rattle.tree_parts.specs.Lists.{Has, list_at, ArePlaces, AreGroups, IsNumber}
use Rattle.tree_parts.specs.Splits.{AreSplit, AreListed, AreHits, IsToldByBlock, AreSplitByBlock}
use Rattle.tree_parts.proofs.Having.{has-left, has-right, has-either, has-at, has-place, has-map, map-has}

-- a node more that has the name
pub hits-more : (names : List ℕ) (into : List (List ℕ)) (name : ℕ) (nodes hits : List ℕ) (node : ℕ) → node < length names → at_node names node ≡ name → AreHits names into name nodes hits → AreHits names into name (nodes ++ node ∷ []) (hits ++ list_at into node)
hits-more names into name nodes hits node l is a = record {
  are = λ e h. elim (has-either hits (list_at into node) e h) [ inl k ↦ a.are e k | inr k ↦ (node, l, is, k) ];
  whole = λ p e h g n m. elim (has-either nodes (node ∷ []) p h) [
    | inl k ↦ has-left hits (list_at into node) e (a.whole p e k g n m)
    | inr k ↦ elim k [ inl o ↦ has-right hits (list_at into node) e (subst (λ (q : ℕ). Has (list_at into q) e) (sym o) m) | inr z ↦ absurd z ]
  ];
}

-- a node more that has not
pub hits-same : (names : List ℕ) (into : List (List ℕ)) (name : ℕ) (nodes hits : List ℕ) (node : ℕ) → (node < length names → at_node names node ≡ name → ⊥) → AreHits names into name nodes hits → AreHits names into name (nodes ++ node ∷ []) hits
hits-same names into name nodes hits node never a = record {
  are = a.are;
  whole = λ p e h g n m. elim (has-either nodes (node ∷ []) p h) [
    | inl k ↦ a.whole p e k g n m
    | inr k ↦ elim k [ inl o ↦ absurd (never (subst (λ (q : ℕ). q < length names) (sym o) g) (ap (at_node names) o ∙ n)) | inr z ↦ absurd z ]
  ];
}

module _ (nodes places nexts names : List ℕ) (into members parts : List (List ℕ)) (found : List ℕ) (name : ℕ) (size : length nexts ≡ length nodes) (in_ : ArePlaces nexts into (length nexts)) (listed : AreListed names members) (a : AreHits names into name (list_at members name) found) (groups : AreGroups (map (at_node places) found) parts) where
  abbrev keys : List ℕ
  keys = map (at_node places) found

  found-size : length keys ≡ length found
  found-size = length-map found (at_node places)

  key : (t : ℕ) → t < length found → at_node keys t ≡ at_node places (at_node found t)
  key t h = get_or-map (at_node places) found t 0 0 h

  abbrev numbers : ℕ → List ℕ
  numbers g = map (at_node found) (list_at parts g)

  abbrev part : ℕ → List ℕ
  part g = map (at_node nodes) (numbers g)

  -- an entry of the block at the place of the part is of a node of the part
  also : (g t q e j : ℕ) → Has (list_at parts g) t → t < length found → IsNumber nodes places nexts j (at_node places (at_node found t)) q e → q < length names → at_node names q ≡ name → Has (part g) j
  also g t q e j h l n w z =
      let there : Has (list_at into q) e = subst (λ (p : ℕ). Has (list_at into p) e) n.next (in_.there e (let y : e < length nodes = n.within in omega (arith, y, size))) in
      let member : Has (list_at members name) q = subst (λ (g : ℕ). Has (list_at members g) q) z (listed q w) in
      let u : (u : ℕ) × (u < length found) × (at_node found u ≡ e) = has-place found e (a.whole q e member w z there) in
      let v : u.0 < length found = u.1 in
      let same : at_node keys t ≡ at_node keys u.0 = key t l ∙ sym n.place ∙ sym (ap (at_node places) u.2) ∙ sym (key u.0 v) in
      let m : Has (list_at parts g) u.0 = groups.whole g t u.0 h (omega (arith, v, found-size)) same in
      subst (Has (part g)) n.node (subst (λ (x : ℕ). Has (part g) (at_node nodes x)) u.2 (has-map (at_node nodes) (numbers g) (at_node found u.0) (has-map (at_node found) (list_at parts g) u.0 m)))

  told : (g i j : ℕ) → Has (part g) i → (Has (part g) j → ⊥) → IsToldByBlock nodes places nexts names name i j
  told g i j u v =
      let m : (e : ℕ) × Has (numbers g) e × (at_node nodes e ≡ i) = map-has (at_node nodes) (numbers g) i u in
      let t : (t : ℕ) × Has (list_at parts g) t × (at_node found t ≡ m.0) = map-has (at_node found) (list_at parts g) m.0 m.1 in
      let l : t.0 < length keys = groups.within g t.0 t.1 in
      let k : t.0 < length found = omega (arith, l, found-size) in
      let hit : Has found m.0 = subst (Has found) t.2 (has-at found t.0 k) in
      let p : (p : ℕ) × (p < length names) × (at_node names p ≡ name) × Has (list_at into p) m.0 = a.are m.0 hit in
      let o : (m.0 < length nexts) × (at_node nexts m.0 ≡ p.0) = in_.of p.0 m.0 p.3 in
      let w : m.0 < length nexts = o.0 in
      record {
        at = at_node places (at_node found t.0);
        number = m.0;
        next = p.0;
        has = record { within = omega (arith, w, size); node = m.2; place = ap (at_node places) (sym t.2); next = o.1 };
        within = p.1;
        named = p.2;
        others = λ q e n y z. v (also g t.0 q e j t.1 k n y z);
      }

  -- one part of the hits more
  pub block-more : (now new : List ℕ) (g : ℕ) → AreSplitByBlock nodes places nexts name names now → AreSplit now new (part g) → AreSplitByBlock nodes places nexts name names new
  block-more now new g b s = record {
    size = s.size ∙ b.size;
    apart = λ i j h k d. elim (s.apart i j (long i h) (long j k) d) [
      | inl n ↦ b.apart i j h k n
      | inr o ↦ inr (elim o [ inl r ↦ inl (told g i j r.0 r.1) | inr r ↦ inr (told g j i r.1 r.0) ])
    ];
  }
    where
      long : (i : ℕ) → i < length names → i < length now
      long i h = let e : length now ≡ length names = b.size in omega (arith, h, e)
