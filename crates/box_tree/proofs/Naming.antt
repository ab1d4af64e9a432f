-- Names that come to a set, and go again.
use Rattle.std.proofs.Common.{◌≡◌, ℕ, zero, suc, ◌+◌, ◌≤◌, ◌<◌, Bool, true, false, List, [], ◌∷◌, length, drop, get_or, refl, sym, ap, ◌∙◌, inl, inr, arith}
use Rattle.std.proofs.lemmas.List.{drop_more}
use Rattle.std.proofs.lemmas.Bool.Decides.{nat_tests}
use Rattle.std.specs.Prelude.{if◌then◌else◌}
use Rattle.std.specs.Ordering.{match_ordering}
use Rattle.std.specs.declared.cmp.Ordering.{Ordering}
use Rattle.std.specs.BTreeSet.{insert_key}
use Rattle.std.specs.BTreeMap.{is_at}
use Rattle.std.specs.Set.{remove_key}
use Rattle.akl_terms.specs.declared.name.Name.{Name}
use Rattle.akl_terms.specs.Names.{same_name, is_before}
use Rattle.akl_terms.specs.contracts.name.NameOrd.TheImpl.{cmp-value}
use Rattle.akl_terms.proofs.SameNames.{same_name-equal, same_name-refl}
use Rattle.akl_model.specs.Config.{IsIn, with_name, with_names}
use Rattle.akl_model.specs.Ordered.{IsBeforeAll, IsIncreasing}
use Rattle.akl_model.specs.Names.{one_if, times_in}
use Rattle.akl_model.proofs.Drawn.{times-with_names}
use Rattle.akl_model.proofs.Orders.{before_not, before_all_trans, increasing_with_names}
use Rattle.table_laws.specs.Writes.{less_name}
use Rattle.table_laws.proofs.Sets.{other_by}
use Rattle.table_laws.proofs.Insides.{named_counted}
use Rattle.box_tree.specs.Edits.{AreNew, less_names}
use Rattle.box_tree.proofs.Maps.{removed_is}

-- a set's order is that of names

cmp_is : (k x : Name) → cmp-value.it k x ≡ (if same_name k x then Ordering.Equal else (if is_before k x then Ordering.Less else Ordering.Greater))
cmp_is k x = grind (arith, nat_tests)

key_with : (ks : List Name) (k : Name) → insert_key cmp-value.it ks k ≡ with_name k ks
key_with [] k = refl
key_with (x ∷ xs) k = ap (λ (o : Ordering). match_ordering o (k ∷ x ∷ xs) (x ∷ xs) (x ∷ insert_key cmp-value.it xs k)) (cmp_is k x) ∙ on (same_name k x) (is_before k x) (key_with xs k)
  where
    on : (s t : Bool) → insert_key cmp-value.it xs k ≡ with_name k xs
        → match_ordering (if s then Ordering.Equal else (if t then Ordering.Less else Ordering.Greater)) (k ∷ x ∷ xs) (x ∷ xs) (x ∷ insert_key cmp-value.it xs k) ≡ (if s then x ∷ xs else (if t then k ∷ x ∷ xs else x ∷ with_name k xs))
    on true t e = refl
    on false true e = refl
    on false false e = ap (λ (ns : List Name). x ∷ ns) e

-- what came is taken out

less_with : (n : Name) (ms : List Name) → times_in n ms ≡ 0 → less_name n (with_name n ms) ≡ ms
less_with n [] z = ap (λ (b : Bool). if b then [] else n ∷ []) (same_name-refl n)
less_with n (m ∷ ms) z = on (same_name n m) refl (is_before n m) z (λ y. less_with n ms y)
  where
    on : (s : Bool) → same_name n m ≡ s → (t : Bool) → one_if s + times_in n ms ≡ 0 → (times_in n ms ≡ 0 → less_name n (with_name n ms) ≡ ms)
        → less_name n (if s then m ∷ ms else (if t then n ∷ m ∷ ms else m ∷ with_name n ms)) ≡ m ∷ ms
    on true e t y f = absurd (omega arith)
    on false e true y f = ap (λ (b : Bool). if b then m ∷ ms else n ∷ less_name n (m ∷ ms)) (same_name-refl n)
    on false e false y f = ap (λ (b : Bool). if b then with_name n ms else m ∷ less_name n (with_name n ms)) e ∙ ap (λ (ns : List Name). m ∷ ns) (f (omega arith))

not_counted : (n : Name) (ms : List Name) → (IsIn n ms → ⊥) → times_in n ms ≡ 0
not_counted n ms h = on (times_in n ms) refl
  where
    on : (k : ℕ) → times_in n ms ≡ k → k ≡ 0
    on zero e = refl
    on (suc k) e = absurd (h (named_counted n ms (omega arith)))

new_fewer : (n : Name) (ns ks : List Name) → AreNew (n ∷ ns) ks → AreNew ns ks
new_fewer n ns ks h = record { once = λ m. fewer m (same_name m n) (h.once m); apart = λ m i. h.apart m (inr i) }
  where
    fewer : (m : Name) (b : Bool) → one_if b + times_in m ns ≤ 1 → times_in m ns ≤ 1
    fewer m b k = omega arith

pub undone_names : (ns ks : List Name) → AreNew ns ks → less_names ns (with_names ns ks) ≡ ks
undone_names [] ks h = refl
undone_names (n ∷ ns) ks h =
    let o : one_if (same_name n n) + times_in n ns ≤ 1 = h.once n in
    let r : one_if (same_name n n) ≡ 1 = ap one_if (same_name-refl n) in
    let a : times_in n ks ≡ 0 = not_counted n ks (h.apart n (inl refl)) in
    let c : times_in n (with_names ns ks) ≤ times_in n ns + times_in n ks = times-with_names n ns ks in
    ap (less_names ns) (less_with n (with_names ns ks) (omega arith)) ∙ undone_names ns ks (new_fewer n ns ks h)

-- those from a place on
new_from : (ns ks : List Name) (at : ℕ) → AreNew ns ks → AreNew (drop at ns) ks
new_from ns ks zero h = h
new_from [] ks (suc at) h = h
new_from (n ∷ ns) ks (suc at) h = new_from ns ks at (new_fewer n ns ks h)

-- a name that goes from an increasing list before others come, or after them

with_front : (n : Name) (ms : List Name) → IsBeforeAll n ms → with_name n ms ≡ n ∷ ms
with_front n [] h = refl
with_front n (m ∷ ms) h = on (same_name n m) refl
  where
    on : (s : Bool) → same_name n m ≡ s → (if s then m ∷ ms else (if is_before n m then n ∷ m ∷ ms else m ∷ with_name n ms)) ≡ n ∷ m ∷ ms
    on true e =
        let q : n ≡ m = same_name-equal n m e in
        let r : is_before m n ≡ is_before n m = λ i. is_before ((sym q) i) (q i) in
        absurd (before_not n m h.0 (r ∙ h.0))
    on false e = ap (λ (b : Bool). if b then n ∷ m ∷ ms else m ∷ with_name n ms) h.0

less_other : (g n : Name) (ms : List Name) → same_name g n ≡ false → IsIncreasing ms → with_name n (less_name g ms) ≡ less_name g (with_name n ms)
less_other g n [] d o = sym (ap (λ (b : Bool). if b then [] else n ∷ []) d)
less_other g n (m ∷ ms) d o = on (same_name g m) refl (same_name n m) refl (is_before n m) refl (less_other g n ms d o.1)
  where
    on : (a : Bool) → same_name g m ≡ a → (s : Bool) → same_name n m ≡ s → (t : Bool) → is_before n m ≡ t → with_name n (less_name g ms) ≡ less_name g (with_name n ms)
        → with_name n (if a then ms else m ∷ less_name g ms) ≡ less_name g (if s then m ∷ ms else (if t then n ∷ m ∷ ms else m ∷ with_name n ms))
    on true p true q t r f = let e : n ≡ g = same_name-equal n m q ∙ sym (same_name-equal g m p) in let z : same_name g n ≡ true = ap (same_name g) e ∙ same_name-refl g in cc
    on true p false q true r f = with_front n ms (before_all_trans n m ms r o.0) ∙ sym (ap (λ (b : Bool). if b then m ∷ ms else n ∷ less_name g (m ∷ ms)) d ∙ ap (λ (b : Bool). n ∷ (if b then ms else m ∷ less_name g ms)) p)
    on true p false q false r f = sym (ap (λ (b : Bool). if b then with_name n ms else m ∷ less_name g (with_name n ms)) p)
    on false p true q t r f =
        ap (λ (b : Bool). if b then m ∷ less_name g ms else (if is_before n m then n ∷ m ∷ less_name g ms else m ∷ with_name n (less_name g ms))) q ∙ sym (ap (λ (b : Bool). if b then ms else m ∷ less_name g ms) p)
    on false p false q true r f =
        (λ i. if q i then m ∷ less_name g ms else (if r i then n ∷ m ∷ less_name g ms else m ∷ with_name n (less_name g ms)))
        ∙ sym (ap (λ (b : Bool). if b then m ∷ ms else n ∷ less_name g (m ∷ ms)) d ∙ ap (λ (b : Bool). n ∷ (if b then ms else m ∷ less_name g ms)) p)
    on false p false q false r f =
        (λ i. if q i then m ∷ less_name g ms else (if r i then n ∷ m ∷ less_name g ms else m ∷ with_name n (less_name g ms)))
        ∙ ap (λ (ns : List Name). m ∷ ns) f ∙ sym (ap (λ (b : Bool). if b then with_name n ms else m ∷ less_name g (with_name n ms)) p)

pub less_with_names : (g : Name) (ns ms : List Name) → ((m : Name) → IsIn m ns → g ≡ m → ⊥) → IsIncreasing ms → with_names ns (less_name g ms) ≡ less_name g (with_names ns ms)
less_with_names g [] ms d o = refl
less_with_names g (n ∷ ns) ms d o = ap (with_name n) (less_with_names g ns ms (λ m i. d m (inr i)) o) ∙ less_other g n (with_names ns ms) (other_by g n (d n (inl refl))) (increasing_with_names ns ms o)

-- loops

pub names_come : (names old keys keys' : List Name) (at now : ℕ) (d : Name) → now + 1 ≡ at → at ≤ length names → keys ≡ with_names (drop at names) old → keys' ≡ insert_key cmp-value.it keys (get_or names now d) → keys' ≡ with_names (drop now names) old
names_come names old keys keys' at now d e l k i =
    i ∙ key_with keys (get_or names now d) ∙ ap (with_name (get_or names now d)) (k ∙ ap (λ (j : ℕ). with_names (drop j names) old) (sym e)) ∙ sym (ap (λ (ns : List Name). with_names ns old) (drop_more names now d (omega arith)))

pub name_goes : (names old keys keys' : List Name) (at : ℕ) (d : Name) → at < length names → less_names (drop at names) keys ≡ less_names names old → keys' ≡ remove_key (is_at (cmp-value.it (get_or names at d))) keys
    → less_names (drop (at + 1) names) keys' ≡ less_names names old
name_goes names old keys keys' at d l k r =
    ap (less_names (drop (at + 1) names)) (r ∙ removed_is (get_or names at d) keys) ∙ sym (ap (λ (ns : List Name). less_names ns keys) (drop_more names at d l)) ∙ k

pub undone_from : (names old keys keys' : List Name) (at : ℕ) → AreNew names old → keys ≡ with_names (drop at names) old → keys' ≡ less_names (drop at names) keys → keys' ≡ old
undone_from names old keys keys' at h k r = r ∙ ap (less_names (drop at names)) k ∙ undone_names (drop at names) old (new_from names old at h)
