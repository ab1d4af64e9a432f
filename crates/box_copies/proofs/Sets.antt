-- Names as they are listed, put in order and once each.
use Rattle.std.proofs.Common.{◌≡◌, ℕ, zero, suc, ◌+◌, ◌<◌, ◌≤◌, List, [], ◌∷◌, ◌++◌, map, take, get_or, append-nil, append_assoc, false, length, Some, sym, ap, ◌∙◌, subst, refl, inl, inr, lt_of_not-le, slice_index_or, arith}
use Rattle.std.proofs.lemmas.Cmp.{tied_itself}
use Rattle.std.proofs.lemmas.List.{take_all}
use Rattle.std.proofs.lemmas.Bool.Decides.{nat_tests}
use Rattle.std.proofs.lemmas.List.Kept.{Contains-dedup, Contains-from_dedup, IsStrictlySortedBy-dedup}
use Rattle.std.proofs.lemmas.List.Sorted.{Contains-permutation, IsPermutation-sym, searchable_from_sorted}
use Rattle.std.specs.Prelude.{slice_get}
use Rattle.std.specs.Result.{OnOk}
use Rattle.std.specs.declared.result.Result.{Result}
use Rattle.std.specs.declared.result.Result.TheVariants.{Ok, Err}
use Rattle.std.specs.Cmp.{IsEquivalence}
use Rattle.std.specs.declared.cmp.Ordering.TheVariants.{Less, Equal, Greater}
use Rattle.std.specs.Ordering.{is_lt, is_eq, ordering_index, ordering_reverse}
use Rattle.std.specs.List.{Contains, dedup}
use Rattle.std.specs.List.Sorted.{IsPermutation, IsSorted, IsStrictlySortedBy, IsNonDecreasingBy, IsPartitionPoint}
use Rattle.akl_terms.specs.declared.name.Name.{Name}
use Rattle.akl_terms.specs.Names.{same_name, name_cmp}
use Rattle.akl_terms.proofs.SameNames.{same_name-equal, same_name-refl}
use Rattle.akl_model.specs.Config.{IsIn}
use Rattle.rational_unify.proofs.Taking.{get-index}
use Rattle.local_store.proofs.Orders.{name-same, name-total}
use Rattle.box_copies.specs.Made.{Adds}
use Rattle.box_copies.proofs.Loops.{taken}

-- names that come one after another

module _ {A : Type 0} (f : A → Name) (old : List Name) (xs : List A) where
  pub listed_none : old ≡ old ++ map f (take 0 xs)
  listed_none = sym (append-nil old)

  pub listed_next : (mid new : List Name) (i : ℕ) (d : A) → i < length xs → mid ≡ old ++ map f (take i xs) → new ≡ mid ++ f (get_or xs i d) ∷ [] → new ≡ old ++ map f (take (i + 1) xs)
  listed_next mid new i d h e more = more ∙ ap (λ (l : List Name). l ++ f (get_or xs i d) ∷ []) e ∙ append_assoc old (map f (take i xs)) (f (get_or xs i d) ∷ []) ∙ ap (λ (l : List Name). old ++ l) (sym (taken f xs i d h))

  pub listed_all : (new : List Name) (i : ℕ) → length xs ≤ i → new ≡ old ++ map f (take i xs) → new ≡ old ++ map f xs
  listed_all new i h e = e ∙ ap (λ (l : List A). old ++ map f l) (take_all i xs h)

-- a box's names, part by part
pub parts_listed : (old : List Name) (own : Name) (frames ports goals one two three four : List Name) → one ≡ old ++ own ∷ [] → two ≡ one ++ frames → three ≡ two ++ ports → four ≡ three ++ goals
    → four ≡ old ++ own ∷ (frames ++ (ports ++ goals))
parts_listed old own frames ports goals one two three four a b c d =
    d ∙ ap (λ (l : List Name). l ++ goals) (c ∙ ap (λ (l : List Name). l ++ ports) (b ∙ ap (λ (l : List Name). l ++ frames) a))
    ∙ append_assoc ((old ++ own ∷ []) ++ frames) ports goals ∙ append_assoc (old ++ own ∷ []) frames (ports ++ goals) ∙ append_assoc old (own ∷ []) (frames ++ (ports ++ goals))

pub on_ok : {X E : Type 0} (P Q : Type 0) (r : Result X E) → (P → Q) → OnOk r P → OnOk r Q
on_ok P Q (Ok x) f p = f p
on_ok P Q (Err e) f p = p

-- in order, and once each

same_back : (m n : Name) → same_name m n ≡ same_name n m
same_back m n = grind (arith, nat_tests)

same_equivalence : IsEquivalence same_name
same_equivalence = record { refl = same_name-refl; symm = same_back; congr = λ x y z e. ap (λ (k : Name). same_name k z) (same_name-equal x y e) }

-- being in a list, by places and without

in_contains : (m : Name) (xs : List Name) → IsIn m xs → Contains xs m
in_contains m [] i = absurd i
in_contains m (x ∷ xs) (inl e) = (0, omega arith, sym e)
in_contains m (x ∷ xs) (inr i) = let w = in_contains m xs i in let below = w.1 in (suc w.0, omega arith, w.2)

contained_at : (m : Name) (xs : List Name) (k : ℕ) → k < length xs → slice_index_or xs k m ≡ m → IsIn m xs
contained_at m [] k h e = absurd (omega arith)
contained_at m (x ∷ xs) zero h e = inl (sym e)
contained_at m (x ∷ xs) (suc k) h e = inr (contained_at m xs k (omega arith) e)

-- the names that are listed, and they alone, stand in order

pub adds_listed : (xs ys zs : List Name) → IsPermutation xs ys → zs ≡ dedup same_name ys → Adds [] xs zs
adds_listed xs ys zs p e = record {
  stays = λ m i. absurd i;
  comes = λ m i. subst (IsIn m) (sym e) (let w = Contains-dedup same_equivalence same_name-equal ys m (Contains-permutation xs ys m p (in_contains m xs i)) in contained_at m (dedup same_name ys) w.0 w.1 w.2);
  only = λ m i. inr (let w = Contains-permutation ys xs m (IsPermutation-sym xs ys p) (Contains-from_dedup same_name ys m (in_contains m (dedup same_name ys) (subst (IsIn m) e i))) in contained_at m xs w.0 w.1 w.2);
}

pub increasing_listed : (ys zs : List Name) → IsSorted name_cmp ys → zs ≡ dedup same_name ys → IsStrictlySortedBy name_cmp zs
increasing_listed ys zs h e = subst (IsStrictlySortedBy name_cmp) (sym e) (IsStrictlySortedBy-dedup name-total (λ x y. sym (name-same x y)) ys h)

-- a name that is searched for in them

weakly : (xs : List Name) → IsStrictlySortedBy name_cmp xs → (k m : ℕ) (d : Name) → m ≡ k + 1 → m < length xs → is_lt (name_cmp (slice_index_or xs m d) (slice_index_or xs k d)) ≡ false
unfolding IsStrictlySortedBy
weakly [] h k m d e w = absurd (omega arith)
weakly (x ∷ xs) h k zero d e w = absurd (omega arith)
weakly (x ∷ []) h k (suc m) d e w = absurd (omega arith)
weakly (x ∷ y ∷ xs) h zero (suc zero) d e w = ap is_lt (name-total.antisymm y x ∙ ap ordering_reverse h.0.0)
weakly (x ∷ y ∷ xs) h zero (suc (suc m)) d e w = absurd (omega arith)
weakly (x ∷ y ∷ xs) h (suc k) (suc m) d e w = weakly (y ∷ xs) h.1 k m d (omega arith) (omega arith)

searchable : (xs : List Name) (n : Name) → IsStrictlySortedBy name_cmp xs → IsNonDecreasingBy (λ y. ordering_index (name_cmp y n)) xs
searchable xs n h = searchable_from_sorted name-total (λ (y : Name). y) xs n (λ k d low high. weakly xs h k (k + 1) d refl high)

pub absent : (xs : List Name) (n : Name) (i : ℕ) → IsStrictlySortedBy name_cmp xs → (IsNonDecreasingBy (λ y. ordering_index (name_cmp y n)) xs → IsPartitionPoint (λ y. name_cmp y n ≡ Less) (λ y. name_cmp y n ≡ Greater) xs i) → IsIn n xs → ⊥
absent xs n i h found among =
    let w = in_contains n xs among in
    let p = found (searchable xs n h) in
    let here : name_cmp (slice_index_or xs w.0 n) n ≡ Equal = ap (λ (y : Name). name_cmp y n) w.2 ∙ tied_itself name-total n in
    let front : w.0 < i = lt_of_not-le (λ (g : i ≤ w.0). let above : name_cmp (slice_index_or xs w.0 n) n ≡ Greater = p.1 w.0 n g w.1 in cc) in
    let below : name_cmp (slice_index_or xs w.0 n) n ≡ Less = p.0 w.0 n (omega arith) front in
    cc

-- a name that was found
pub found_at : (xs : List Name) (n : Name) (i : ℕ) → i < length xs → ((d : Name) → name_cmp (slice_index_or xs i d) n ≡ Equal) → slice_get xs i ≡ Some n
found_at xs n i within h = get-index xs i n within ∙ ap Some (same_name-equal (slice_index_or xs i n) n (sym (name-same (slice_index_or xs i n) n) ∙ ap is_eq (h n)))
