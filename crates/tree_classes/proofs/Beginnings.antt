-- Keys tell how nodes begin.
use Rattle.std.proofs.Common.{◌≡◌, ℕ, ℤ, pos, negsuc, zero, suc, ◌+◌, ◌*◌, ◌/◌, ◌%◌, ◌^◌, ◌<◌, List, [], ◌∷◌, length, map, Some, None, Bool, true, false, cond, refl, sym, ◌∙◌, ap, inl, inr, arith}
use Rattle.std.specs.Prelude.{slice_get, get_or, option_map, bytes_eq}
use Rattle.std.proofs.lemmas.Slice.Eq.{bytes_eq-Decides}
use Rattle.std.proofs.lemmas.List.{length-map}
use Rattle.std.proofs.lemmas.Nat.{div-add-mod'}
use Rattle.std.proofs.lemmas.Option.{slice_get-map, slice_get_within, slice_get-get_or, get_or_from_slice_get}
use Rattle.akl_terms.specs.declared.name.Name.{Name}
use Rattle.akl_terms.specs.declared.name.Var.{Var}
use Rattle.akl_terms.specs.declared.term.Node.{Node}
use Rattle.akl_terms.specs.declared.term.Seen.{Seen}
use Rattle.akl_terms.specs.declared.term.Seen.TheVariants.{Free}
use Rattle.akl_terms.specs.declared.term.Term.TheVariants.{Mol}
use Rattle.akl_terms.specs.Tree.{Tree, head_of, integer_head, port_head, symbol_head, list_of}
use Rattle.akl_terms.specs.Template.{Template, tree, trees_from}
use Rattle.akl_terms.proofs.Unfolding.{length-trees_from}
use Rattle.answer_text.specs.BuiltGraph.{BeginAlike, at_node}
use Rattle.tree_parts.specs.Firsts.{AreFirsts}
use Rattle.tree_parts.specs.Parts.{AreEven}
use Rattle.term_graph.specs.Building.{seen_tree, BeginsSo, IsTermGraph, count_of}
use Rattle.term_graph.specs.Built.{TellBeginnings}
use Rattle.tree_classes.specs.Keys.{top_key, integer_key, size_key}

-- two words tell a size
same-words : (n m : ℕ) → n / 2 ^ 64 ≡ m / 2 ^ 64 → n % 2 ^ 64 ≡ m % 2 ^ 64 → n ≡ m
same-words n m high low = sym (div-add-mod' n (2 ^ 64)) ∙ (λ i. high i * 2 ^ 64 + low i) ∙ div-add-mod' m (2 ^ 64)

same-size : (sign n m : ℕ) → size_key sign n ≡ size_key sign m → n ≡ m
same-size sign n m e =
    let high : n / 2 ^ 64 ≡ m / 2 ^ 64 = cc in
    let low : n % 2 ^ 64 ≡ m % 2 ^ 64 = cc in
    same-words n m high low

same-integer : (z y : ℤ) → integer_key z ≡ integer_key y → z ≡ y
same-integer (pos n) (pos m) e = ap (λ (k : ℕ). pos k) (same-size 0 n m e)
same-integer (pos n) (negsuc m) e = absurd cc
same-integer (negsuc n) (pos m) e = absurd cc
same-integer (negsuc n) (negsuc m) e = ap (λ (k : ℕ). negsuc k) (same-size 1 n m e)

-- the first of an integer's key is 1
abbrev first_of_key : List ℕ → ℕ
first_of_key xs = get_or xs 0 0

first-integer : (z : ℤ) → first_of_key (integer_key z) ≡ 1
first-integer (pos n) = refl
first-integer (negsuc n) = refl

abbrev Is : ℕ → ℕ → Type 0
Is a b = a ≡ b

not-integer : (z : ℤ) (k : ℕ) (ks : List ℕ) → (k ≡ 1 → ⊥) → integer_key z ≡ k ∷ ks → ⊥
not-integer z k ks d e = d (sym (ap first_of_key e) ∙ first-integer z)

module _ (nodes : List Node) where
  key-alike : (s u : Seen) → top_key s ≡ top_key u → BeginAlike (seen_tree nodes s) (seen_tree nodes u)
  key-alike (Free x) (Free y) e =
      let p : x.frame.worker ≡ y.frame.worker = cc in
      let q : x.frame.number ≡ y.frame.number = cc in
      let r : x.index ≡ y.index = cc in
      let o : x ≡ y = (λ i. record { frame = record { worker = p i; number = q i }; index = r i }) in
      inl (ap (λ (v : Var). seen_tree nodes (Free v)) o)
  key-alike (Free x) (Seen.Int z) e = absurd (not-integer z 0 _ (λ o. let l : Is 0 1 = o in omega (arith, l)) (sym e))
  key-alike (Free x) (Seen.Port p) e = absurd (let l : Is 0 2 = ap first_of_key e in omega (arith, l))
  key-alike (Free x) (Seen.Struct f i n h) e = absurd (let l : Is 0 3 = ap first_of_key e in omega (arith, l))
  key-alike (Seen.Int z) (Free x) e = absurd (not-integer z 0 _ (λ o. let l : Is 0 1 = o in omega (arith, l)) e)
  key-alike (Seen.Int z) (Seen.Int y) e = inr (integer_head y, ap (λ (v : ℤ). Some (integer_head v)) (same-integer z y e), refl)
  key-alike (Seen.Int z) (Seen.Port p) e = absurd (not-integer z 2 _ (λ o. let l : Is 2 1 = o in omega (arith, l)) e)
  key-alike (Seen.Int z) (Seen.Struct f i n h) e = absurd (not-integer z 3 _ (λ o. let l : Is 3 1 = o in omega (arith, l)) e)
  key-alike (Seen.Port p) (Free x) e = absurd (let l : Is 2 0 = ap first_of_key e in omega (arith, l))
  key-alike (Seen.Port p) (Seen.Int z) e = absurd (not-integer z 2 _ (λ o. let l : Is 2 1 = o in omega (arith, l)) (sym e))
  key-alike (Seen.Port p) (Seen.Port q) e =
      let a : p.worker ≡ q.worker = cc in
      let b : p.number ≡ q.number = cc in
      let o : p ≡ q = (λ i. record { worker = a i; number = b i }) in
      inr (port_head q, ap (λ (v : Name). Some (port_head v)) o, refl)
  key-alike (Seen.Port p) (Seen.Struct f i n h) e = absurd (let l : Is 2 3 = ap first_of_key e in omega (arith, l))
  key-alike (Seen.Struct f i n h) (Free x) e = absurd (let l : Is 3 0 = ap first_of_key e in omega (arith, l))
  key-alike (Seen.Struct f i n h) (Seen.Int z) e = absurd (not-integer z 3 _ (λ o. let l : Is 3 1 = o in omega (arith, l)) (sym e))
  key-alike (Seen.Struct f i n h) (Seen.Port p) e = absurd (let l : Is 3 2 = ap first_of_key e in omega (arith, l))
  key-alike (Seen.Struct f i n h) (Seen.Struct g j m k) e =
      let a : f ≡ g = cc in
      let b : n ≡ m = cc in
      let c : length (list_of (trees_from (λ v. tree nodes (Mol v h)) i n)) ≡ n = length-trees_from (λ v. tree nodes (Mol v h)) i n in
      let d : length (list_of (trees_from (λ v. tree nodes (Mol v k)) j m)) ≡ m = length-trees_from (λ v. tree nodes (Mol v k)) j m in
      inr (symbol_head g m, (λ o. Some (symbol_head (a o) ((c ∙ b) o))), (λ o. Some (symbol_head g (d o))))

  -- what begins alike has one head, or is one variable
  one-head : (s u : Seen) → BeginAlike (seen_tree nodes s) (seen_tree nodes u) → head_of (seen_tree nodes s) ≡ head_of (seen_tree nodes u)
  one-head s u (inl e) = ap head_of e
  one-head s u (inr h) = h.1 ∙ sym h.2

  alike-key : (s u : Seen) → BeginAlike (seen_tree nodes s) (seen_tree nodes u) → top_key s ≡ top_key u
  alike-key (Free x) (Free y) (inl e) = let o : x ≡ y = cc in ap (λ (v : Var). top_key (Free v)) o
  alike-key (Free x) (Free y) (inr h) = absurd (let z : None ≡ Some h.0 = h.1 in cc)
  alike-key (Free x) (Seen.Int z) b = absurd (let e : None ≡ Some (integer_head z) = one-head (Free x) (Seen.Int z) b in cc)
  alike-key (Free x) (Seen.Port p) b = absurd (let e : None ≡ Some (port_head p) = one-head (Free x) (Seen.Port p) b in cc)
  alike-key (Free x) (Seen.Struct f i n h) b = absurd (let e : None ≡ head_of (seen_tree nodes (Seen.Struct f i n h)) = one-head (Free x) (Seen.Struct f i n h) b in cc)
  alike-key (Seen.Int z) (Free x) b = absurd (let e : Some (integer_head z) ≡ None = one-head (Seen.Int z) (Free x) b in cc)
  alike-key (Seen.Int z) (Seen.Int y) b = let e : Some (integer_head z) ≡ Some (integer_head y) = one-head (Seen.Int z) (Seen.Int y) b in let o : z ≡ y = cc in ap integer_key o
  alike-key (Seen.Int z) (Seen.Port p) b = absurd (let e : Some (integer_head z) ≡ Some (port_head p) = one-head (Seen.Int z) (Seen.Port p) b in cc)
  alike-key (Seen.Int z) (Seen.Struct f i n h) b = absurd (let e : Some (integer_head z) ≡ head_of (seen_tree nodes (Seen.Struct f i n h)) = one-head (Seen.Int z) (Seen.Struct f i n h) b in cc)
  alike-key (Seen.Port p) (Free x) b = absurd (let e : Some (port_head p) ≡ None = one-head (Seen.Port p) (Free x) b in cc)
  alike-key (Seen.Port p) (Seen.Int z) b = absurd (let e : Some (port_head p) ≡ Some (integer_head z) = one-head (Seen.Port p) (Seen.Int z) b in cc)
  alike-key (Seen.Port p) (Seen.Port q) b = let e : Some (port_head p) ≡ Some (port_head q) = one-head (Seen.Port p) (Seen.Port q) b in let o : p ≡ q = cc in ap (λ (v : Name). top_key (Seen.Port v)) o
  alike-key (Seen.Port p) (Seen.Struct f i n h) b = absurd (let e : Some (port_head p) ≡ head_of (seen_tree nodes (Seen.Struct f i n h)) = one-head (Seen.Port p) (Seen.Struct f i n h) b in cc)
  alike-key (Seen.Struct f i n h) (Free x) b = absurd (let e : head_of (seen_tree nodes (Seen.Struct f i n h)) ≡ None = one-head (Seen.Struct f i n h) (Free x) b in cc)
  alike-key (Seen.Struct f i n h) (Seen.Int z) b = absurd (let e : head_of (seen_tree nodes (Seen.Struct f i n h)) ≡ Some (integer_head z) = one-head (Seen.Struct f i n h) (Seen.Int z) b in cc)
  alike-key (Seen.Struct f i n h) (Seen.Port p) b = absurd (let e : head_of (seen_tree nodes (Seen.Struct f i n h)) ≡ Some (port_head p) = one-head (Seen.Struct f i n h) (Seen.Port p) b in cc)
  alike-key (Seen.Struct f i n h) (Seen.Struct g j m k) b =
      let c : length (list_of (trees_from (λ v. tree nodes (Mol v h)) i n)) ≡ n = length-trees_from (λ v. tree nodes (Mol v h)) i n in
      let d : length (list_of (trees_from (λ v. tree nodes (Mol v k)) j m)) ≡ m = length-trees_from (λ v. tree nodes (Mol v k)) j m in
      let e : Some (symbol_head f (length (list_of (trees_from (λ v. tree nodes (Mol v h)) i n)))) ≡ Some (symbol_head g (length (list_of (trees_from (λ v. tree nodes (Mol v k)) j m)))) = one-head (Seen.Struct f i n h) (Seen.Struct g j m k) b in
      let a : f ≡ g = cc in
      let l : length (list_of (trees_from (λ v. tree nodes (Mol v h)) i n)) ≡ length (list_of (trees_from (λ v. tree nodes (Mol v k)) j m)) = cc in
      let o : n ≡ m = sym c ∙ l ∙ d in
      (λ v. 3 ∷ a v ∷ o v ∷ [])

-- numbers that nodes have in common exactly where their keys are one
tell : (t : Template) (seens : List Seen) (tops : List ℕ) → ((i j : ℕ) (s u : Seen) → BeginsSo seens i s → BeginsSo seens j u → at_node tops i ≡ at_node tops j → top_key s ≡ top_key u)
    → ((i j : ℕ) (s u : Seen) → BeginsSo seens i s → BeginsSo seens j u → top_key s ≡ top_key u → at_node tops i ≡ at_node tops j) → TellBeginnings t seens tops
tell t seens tops f g = record { one = λ i j s u b d e. key-alike t.nodes s u (f i j s u b d e); other = λ i j s u b d h. g i j s u b d (alike-key t.nodes s u h) }

-- the first place of a key
place : List (List ℕ) → List ℕ → ℕ
place [] k = 0
place (x ∷ xs) k = cond (bytes_eq x k) 0 (suc (place xs k))

place-at : (ks : List (List ℕ)) (i : ℕ) (k : List ℕ) → slice_get ks i ≡ Some k → slice_get ks (place ks k) ≡ Some k
unfolding place
place-at [] i k e = cc
place-at (x ∷ xs) i k e = on (bytes_eq x k) refl i e (λ j f. place-at xs j k f)
  where
    on : (b : Bool) → bytes_eq x k ≡ b → (i : ℕ) → slice_get (x ∷ xs) i ≡ Some k → ((j : ℕ) → slice_get xs j ≡ Some k → slice_get xs (place xs k) ≡ Some k) → slice_get (x ∷ xs) (cond b 0 (suc (place xs k))) ≡ Some k
    on true h i e ih = ap Some ((bytes_eq-Decides x k).0 h)
    on false h zero e ih = absurd (let m : x ≡ k = (let z : Some x ≡ Some k = e in cc) in let y : true ≡ false = sym ((bytes_eq-Decides x k).1 m) ∙ h in cc)
    on false h (suc j) e ih = ih j e

-- numbers that tell how nodes begin
pub some_tops : List Seen → List ℕ
some_tops seens = map (λ s. place (map top_key seens) (top_key s)) seens

pub some-tops-tell : (t : Template) (seens : List Seen) → TellBeginnings t seens (some_tops seens)
unfolding some_tops
some-tops-tell t seens = tell t seens (some_tops seens)
    (λ i j s u b d e.
    let p : slice_get keys (place keys (top_key s)) ≡ Some (top_key s) = place-at keys i (top_key s) (slice_get-map top_key seens i ∙ ap (option_map top_key) b) in
    let q : slice_get keys (place keys (top_key u)) ≡ Some (top_key u) = place-at keys j (top_key u) (slice_get-map top_key seens j ∙ ap (option_map top_key) d) in
    let m : place keys (top_key s) ≡ place keys (top_key u) = sym (number i s b) ∙ e ∙ number j u d in
    let z : Some (top_key s) ≡ Some (top_key u) = sym p ∙ ap (slice_get keys) m ∙ q in cc)
    (λ i j s u b d e. number i s b ∙ ap (place keys) e ∙ sym (number j u d))
  where
    keys : List (List ℕ)
    keys = map top_key seens

    number : (i : ℕ) (s : Seen) → BeginsSo seens i s → at_node (map (λ s. place keys (top_key s)) seens) i ≡ place keys (top_key s)
    number i s b = get_or_from_slice_get (map (λ s. place keys (top_key s)) seens) i (place keys (top_key s)) 0 (slice_get-map (λ s. place keys (top_key s)) seens i ∙ ap (option_map (λ s. place keys (top_key s))) b)

module _ (t : Template) (seens : List Seen) (tops : List ℕ) (r : AreFirsts (map top_key seens) tops) where
  size : length (map top_key seens) ≡ length seens
  size = length-map seens top_key

  key-at : (i : ℕ) (s : Seen) → BeginsSo seens i s → get_or (map top_key seens) i [] ≡ top_key s
  key-at i s b = get_or_from_slice_get (map top_key seens) i (top_key s) [] (slice_get-map top_key seens i ∙ ap (option_map top_key) b)

  within : (i : ℕ) (s : Seen) → BeginsSo seens i s → i < length (map top_key seens)
  within i s b = let l : i < length seens = slice_get_within seens i s b in omega (arith, l, size)

  -- nodes of one number have one key
  one-key : (i j : ℕ) → i < length (map top_key seens) → j < length (map top_key seens) → at_node tops i ≡ at_node tops j → get_or (map top_key seens) i [] ≡ get_or (map top_key seens) j []
  one-key i j h l e = sym (r.key i h) ∙ ap (λ (k : ℕ). get_or (map top_key seens) k []) e ∙ r.key j l

  pub tell-beginnings : TellBeginnings t seens tops
  tell-beginnings = tell t seens tops
      (λ i j s u b d e. sym (key-at i s b) ∙ one-key i j (within i s b) (within j u d) e ∙ key-at j u d)
      (λ i j s u b d h. r.one i j (within i s b) (within j u d) (key-at i s b ∙ h ∙ sym (key-at j u d)))

  same-count : (s u : Seen) → top_key s ≡ top_key u → count_of s ≡ count_of u
  same-count (Free x) (Free y) e = refl
  same-count (Free x) (Seen.Int z) e = refl
  same-count (Free x) (Seen.Port p) e = refl
  same-count (Free x) (Seen.Struct f i n h) e = absurd (let l : Is 0 3 = ap first_of_key e in omega (arith, l))
  same-count (Seen.Int z) (Free x) e = refl
  same-count (Seen.Int z) (Seen.Int y) e = refl
  same-count (Seen.Int z) (Seen.Port p) e = refl
  same-count (Seen.Int z) (Seen.Struct f i n h) e = absurd (not-integer z 3 _ (λ o. let l : Is 3 1 = o in omega (arith, l)) e)
  same-count (Seen.Port p) (Free x) e = refl
  same-count (Seen.Port p) (Seen.Int z) e = refl
  same-count (Seen.Port p) (Seen.Port q) e = refl
  same-count (Seen.Port p) (Seen.Struct f i n h) e = absurd (let l : Is 2 3 = ap first_of_key e in omega (arith, l))
  same-count (Seen.Struct f i n h) (Free x) e = absurd (let l : Is 3 0 = ap first_of_key e in omega (arith, l))
  same-count (Seen.Struct f i n h) (Seen.Int z) e = absurd (not-integer z 3 _ (λ o. let l : Is 3 1 = o in omega (arith, l)) (sym e))
  same-count (Seen.Struct f i n h) (Seen.Port p) e = absurd (let l : Is 3 2 = ap first_of_key e in omega (arith, l))
  same-count (Seen.Struct f i n h) (Seen.Struct g j m k) e = cc

  -- rows of nodes that begin alike have one length
  pub even : (go : Tree → Tree) (rows : List (List ℕ)) → IsTermGraph t go seens rows → AreEven rows tops
  even go rows g i j p q a b e =
      let h : i < length rows = slice_get_within rows i p a in
      let l : j < length rows = slice_get_within rows j q b in
      let i_less : i < length seens = omega (arith, h, g.size) in
      let j_less : j < length seens = omega (arith, l, g.size) in
      let s : BeginsSo seens i (get_or seens i (Seen.Int (pos 0))) = slice_get-get_or seens i (Seen.Int (pos 0)) i_less in
      let u : BeginsSo seens j (get_or seens j (Seen.Int (pos 0))) = slice_get-get_or seens j (Seen.Int (pos 0)) j_less in
      let k : top_key (get_or seens i (Seen.Int (pos 0))) ≡ top_key (get_or seens j (Seen.Int (pos 0))) = sym (key-at i _ s) ∙ one-key i j (within i _ s) (within j _ u) e ∙ key-at j _ u in
      (g.row i _ p s a).size ∙ same-count _ _ k ∙ sym (g.row j _ q u b).size
