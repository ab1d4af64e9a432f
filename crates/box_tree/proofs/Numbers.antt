-- The next numbers after a worker has drawn some, and names in order.
use Rattle.std.proofs.Common.{◌≡◌, ℕ, zero, suc, ◌+◌, ◌<◌, Bool, true, false, List, [], ◌∷◌, ◌++◌, length, take, drop, get_or, slice_index, refl, sym, ap, ◌∙◌, subst, eqb, arith, get_or-set_same, get_or-set_other}
use Rattle.std.proofs.lemmas.Bool.Decides.{nat_tests}
use Rattle.std.proofs.lemmas.List.{take_more}
use Rattle.std.proofs.Math.ListN.{set}
use Rattle.std.specs.Ordering.{match_ordering}
use Rattle.std.specs.declared.cmp.Ordering.{Ordering}
use Rattle.std.specs.BTreeSet.{insert_key}
use Rattle.akl_terms.specs.declared.name.Name.{Name}
use Rattle.akl_terms.specs.Names.{is_before}
use Rattle.akl_terms.specs.contracts.name.NameOrd.TheImpl.{cmp-value}
use Rattle.akl_model.specs.Ordered.{IsBeforeAll, IsIncreasing}
use Rattle.akl_model.specs.Derivations.{raised}
use Rattle.box_tree.specs.declared.drawing.Raised.{Raised}
use Rattle.box_tree.specs.Numbers.{IsRaised}
use Rattle.box_tree.proofs.News.{firsts, firsts_append}

raised-own : (w k : ℕ) (ms : List ℕ) → slice_index (raised w k ms) w ≡ slice_index ms w + k
raised-own zero k [] = omega arith
raised-own (suc w) k [] = raised-own w k []
raised-own zero k (m ∷ ms) = omega arith
raised-own (suc w) k (m ∷ ms) = raised-own w k ms

raised-other : (w k v : ℕ) (ms : List ℕ) → (v ≡ w → ⊥) → slice_index (raised w k ms) v ≡ slice_index ms v
raised-other zero k zero [] n = absurd (n refl)
raised-other zero k (suc v) [] n = refl
raised-other (suc w) k zero [] n = refl
raised-other (suc w) k (suc v) [] n = raised-other w k v [] (λ e. n (ap suc e))
raised-other zero k zero (m ∷ ms) n = absurd (n refl)
raised-other zero k (suc v) (m ∷ ms) n = refl
raised-other (suc w) k zero (m ∷ ms) n = refl
raised-other (suc w) k (suc v) (m ∷ ms) n = raised-other w k v ms (λ e. n (ap suc e))

pub raised_by : (w worker drawn x : ℕ) (next padded : List ℕ) → ((v : ℕ) → slice_index padded v ≡ slice_index next v) → worker < length padded → x ≡ slice_index padded worker + drawn
    → slice_index (set padded worker x) w ≡ slice_index (raised worker drawn next) w
raised_by w worker drawn x next padded same room e = on (eqb w worker) refl
  where
    on : (b : Bool) → eqb w worker ≡ b → slice_index (set padded worker x) w ≡ slice_index (raised worker drawn next) w
    on true r =
        let q : w ≡ worker = grind (arith, nat_tests) in
        let a : slice_index (set padded worker x) worker ≡ x = get_or-set_same padded worker x 0 room in
        let b : slice_index (raised worker drawn next) worker ≡ slice_index next worker + drawn = raised-own worker drawn next in
        let d : slice_index padded worker ≡ slice_index next worker = same worker in
        let z : slice_index (set padded worker x) worker ≡ slice_index (raised worker drawn next) worker = a ∙ e ∙ ap (λ (k : ℕ). k + drawn) d ∙ sym b in
        subst (λ (k : ℕ). slice_index (set padded worker x) k ≡ slice_index (raised worker drawn next) k) (sym q) z
    on false r =
        let n : w ≡ worker → ⊥ = λ q. grind (arith, nat_tests) in
        let a : slice_index (set padded worker x) w ≡ slice_index padded w = get_or-set_other padded worker w x 0 n in
        a ∙ same w ∙ sym (raised-other worker drawn w next n)

-- what was found of next numbers that are the same still
pub raised_later : (worker count : ℕ) (r : Raised) (before next after : List ℕ) → next ≡ before → IsRaised before worker count r → ((d : ℕ) → IsRaised next worker d r → (w : ℕ) → slice_index after w ≡ slice_index (raised worker d next) w)
    → (w : ℕ) → slice_index after w ≡ slice_index (raised worker count before) w
raised_later worker count r before next after same is all w =
    all count (subst (λ (ns : List ℕ). IsRaised ns worker count r) (sym same) is) w ∙ ap (λ (ns : List ℕ). slice_index (raised worker count ns) w) same

-- a worker has drawn some more
pub own_raised : (worker drawn x : ℕ) (next : List ℕ) → worker < length next → x ≡ slice_index next worker + drawn → (w : ℕ) → slice_index (set next worker x) w ≡ slice_index (raised worker drawn next) w
own_raised worker drawn x next room e w = raised_by w worker drawn x next next (λ v. refl) room e

-- a name that comes after all others goes to the end

after_all : (x k : Name) → is_before x k ≡ true → cmp-value.it k x ≡ Ordering.Greater
after_all x k e = grind (arith, nat_tests)

before_in : (x k : Name) (xs ys : List Name) → IsBeforeAll x (xs ++ k ∷ ys) → is_before x k ≡ true
before_in x k [] ys h = h.0
before_in x k (y ∷ xs) ys h = before_in x k xs ys h.1

pub key_last : (xs ys : List Name) (k : Name) → IsIncreasing (xs ++ k ∷ ys) → insert_key cmp-value.it xs k ≡ xs ++ k ∷ []
key_last [] ys k o = refl
key_last (x ∷ xs) ys k o =
    ap (λ (g : Ordering). match_ordering g (k ∷ x ∷ xs) (x ∷ xs) (x ∷ insert_key cmp-value.it xs k)) (after_all x k (before_in x k xs ys o.0)) ∙ ap (λ (ns : List Name). x ∷ ns) (key_last xs ys k o.1)

split_at : {A : Type 0} (xs : List A) (i : ℕ) (d : A) → i < length xs → xs ≡ take i xs ++ get_or xs i d ∷ drop (suc i) xs
split_at [] i d l = absurd (omega arith)
split_at (x ∷ xs) zero d l = refl
split_at (x ∷ xs) (suc i) d l = ap (λ (ys : List _). x ∷ ys) (split_at xs i d (omega arith))

pub keys_more : {A : Type 0} (goals : List (Name × A)) (i : ℕ) (x : Name × A) (old new : List Name) → x ≡ get_or goals i x → new ≡ insert_key cmp-value.it old x.0 → old ≡ firsts (take i goals) → i < length goals → IsIncreasing (firsts goals)
    → new ≡ firsts (take (i + 1) goals)
keys_more {A} goals i x old new is e q l o =
    let parts : firsts goals ≡ firsts (take i goals) ++ x.0 ∷ firsts (drop (suc i) goals) = ap firsts (split_at goals i x l) ∙ firsts_append (take i goals) (get_or goals i x ∷ drop (suc i) goals) ∙ ap (λ (y : Name × A). firsts (take i goals) ++ y.0 ∷ firsts (drop (suc i) goals)) (sym is) in
    e ∙ ap (λ (ks : List Name). insert_key cmp-value.it ks x.0) q
    ∙ key_last (firsts (take i goals)) (firsts (drop (suc i) goals)) x.0 (subst IsIncreasing parts o)
    ∙ sym (ap firsts (take_more goals i x l) ∙ firsts_append (take i goals) (get_or goals i x ∷ []) ∙ ap (λ (y : Name × A). firsts (take i goals) ++ y.0 ∷ []) (sym is))
