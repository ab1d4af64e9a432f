-- Waits that are taken one after another, each once.
use Rattle.std.proofs.Common.{◌≡◌, ℕ, ◌+◌, ◌<◌, get_or, take, length, Bool, true, false, List, [], ◌∷◌, ◌++◌, refl, sym, ap, subst, ◌∙◌, ◌⊎◌, inl, inr, arith, length-append}
use Rattle.std.proofs.lemmas.Bool.Decides.{nat_tests}
use Rattle.std.proofs.lemmas.List.{take_more}
use Rattle.std.proofs.lemmas.Map.Keys.{IsDistinct-head, IsDistinct-tail}
use Rattle.std.specs.Prelude.{◌||◌, ◌&&◌, not, Some, option_map}
use Rattle.std.specs.List.{AllByRecursion, IsDistinct}
use Rattle.akl_terms.specs.declared.name.Var.{Var}
use Rattle.akl_terms.specs.declared.name.Place.{Place}
use Rattle.akl_terms.specs.Names.{same_var}
use Rattle.akl_terms.proofs.SameNames.{same_var-equal}
use Rattle.akl_model.specs.Wakes.{Wait, IsKept, IsOneOf}
use Rattle.wake_lists.specs.Waits.{waits_on, is_variable_in}
use Rattle.opened_places.specs.Placed.{PlacedValue, places_of}
use Rattle.opened_places.proofs.Members.{one_left, one_right, one_either}
use Rattle.wake_lists.specs.Open.{Opening, Openings, opening_at}
use Rattle.scheduler.specs.Dropping.{is_place_in, DropsWaits, places_under}
use Rattle.scheduler.specs.Work.{IsEachWaitOnce}
use Rattle.scheduler.specs.Counting.{DropBySteps}
use Rattle.scheduler.proofs.CommitFacts.{not_both, or_left, or_right, place_listed, listed_place}
use Rattle.scheduler.proofs.DroppedWaits.{Waiting, places_end}
use Rattle.scheduler.proofs.UnderTokens.{under_next, place_listed_by}

and_left : (a b : Bool) → (a && b) ≡ true → a ≡ true
and_left true b e = refl
and_left false b e = e

and_both : (a b : Bool) → a ≡ true → b ≡ false → (a && not b) ≡ true
and_both true true e f = cc
and_both true false e f = refl
and_both false b e f = cc

and_right : (a b : Bool) → (a && not b) ≡ true → b ≡ false
and_right true true e = cc
and_right true false e = refl
and_right false b e = cc

-- lists of waits
kept_either : (ws vs : List Wait) (p : Place) (x : Var) → IsKept (ws ++ vs) p x → IsKept ws p x ⊎ IsKept vs p x
kept_either [] vs p x i = inr i
kept_either (w ∷ ws) vs p x (inl e) = inl (inl e)
kept_either (w ∷ ws) vs p x (inr i) = elim (kept_either ws vs p x i) [ inl j ↦ inl (inr j) | inr j ↦ inr j ]

kept_left : (ws vs : List Wait) (p : Place) (x : Var) → IsKept ws p x → IsKept (ws ++ vs) p x
kept_left [] vs p x i = absurd i
kept_left (w ∷ ws) vs p x (inl e) = inl e
kept_left (w ∷ ws) vs p x (inr i) = inr (kept_left ws vs p x i)

kept_right : (ws vs : List Wait) (p : Place) (x : Var) → IsKept vs p x → IsKept (ws ++ vs) p x
kept_right [] vs p x i = i
kept_right (w ∷ ws) vs p x i = inr (kept_right ws vs p x i)

once_both : (ws vs : List Wait) → IsEachWaitOnce ws → IsEachWaitOnce vs → ((p : Place) (x : Var) → IsKept ws p x → IsKept vs p x → ⊥) → IsEachWaitOnce (ws ++ vs)
once_both [] vs a b n = b
once_both (w ∷ ws) vs a b n = (
  λ i. elim (kept_either ws vs w.place w.on i) [ inl j ↦ a.0 j | inr j ↦ n w.place w.on (inl (refl, refl)) j ],
  once_both ws vs a.1 b (λ p x i. n p x (inr i)),
)

-- those of one place
abbrev waits_of_place : Place → List Var → List Wait
waits_of_place q [] = []
waits_of_place q (x ∷ xs) = record { place = q; on = x } ∷ waits_of_place q xs

variable_itself : (x : Var) → same_var x x ≡ true
variable_itself x = grind (arith, nat_tests)

listed_wait : (q : Place) (xs : List Var) (p : Place) (x : Var) → IsKept (waits_of_place q xs) p x → (p ≡ q) × (is_variable_in x xs ≡ true)
listed_wait q [] p x i = absurd i
listed_wait q (y ∷ ys) p x (inl e) = (sym e.0, or_left (same_var x y) (is_variable_in x ys) (ap (same_var x) e.1 ∙ variable_itself x))
listed_wait q (y ∷ ys) p x (inr i) = let w : (p ≡ q) × (is_variable_in x ys ≡ true) = listed_wait q ys p x i in (w.0, or_right (same_var x y) (is_variable_in x ys) w.1)

wait_listed : (q : Place) (xs : List Var) (x : Var) → is_variable_in x xs ≡ true → IsKept (waits_of_place q xs) q x
wait_listed q [] x e = cc
wait_listed q (y ∷ ys) x e = on (same_var x y) refl e (wait_listed q ys x)
  where
    on : (b : Bool) → same_var x y ≡ b → (b || is_variable_in x ys) ≡ true → (is_variable_in x ys ≡ true → IsKept (waits_of_place q ys) q x) → IsKept (waits_of_place q (y ∷ ys)) q x
    on true f g r = inl (refl, sym (same_var-equal x y f))
    on false f g r = inr (r g)

none_same : (x : Var) (xs : List Var) → AllByRecursion (λ (y : Var). same_var x y ≡ false) xs → is_variable_in x xs ≡ false
none_same x [] a = refl
none_same x (y ∷ ys) a = ap (λ (b : Bool). b || is_variable_in x ys) a.0 ∙ none_same x ys a.1

place_once : (q : Place) (xs : List Var) → IsDistinct same_var xs → IsEachWaitOnce (waits_of_place q xs)
place_once q [] d = tt
place_once q (x ∷ xs) d = (
  λ i. not_both (listed_wait q xs q x i).1 (none_same x xs (IsDistinct-head same_var x xs d)),
  place_once q xs (IsDistinct-tail same_var x xs d),
)

place_count : (q : Place) (xs : List Var) → length (waits_of_place q xs) ≡ length xs
place_count q [] = refl
place_count q (x ∷ xs) = let r : length (waits_of_place q xs) ≡ length xs = place_count q xs in omega arith

-- a place more
module _ (old mid : Waiting) (ps : List Place) (q : Place) (xs : List Var) (dropped : DropsWaits old ps mid) (are : (x : Var) → is_variable_in x xs ≡ waits_on mid q x) (once : IsDistinct same_var xs)
    (n m k : ℕ) (before : DropBySteps old ps n m) (counted : k ≡ m + length xs) where
  was : (x : Var) → is_variable_in x xs ≡ true → (waits_on old q x && not (is_place_in q ps)) ≡ true
  was x e = sym (dropped q x) ∙ sym (are x) ∙ e

  waits_now : (x : Var) → waits_on old q x ≡ true → (b : Bool) → is_place_in q ps ≡ b → IsKept (waits_of_place q xs ++ before.taken) q x
  waits_now x e true f = kept_right (waits_of_place q xs) before.taken q x (before.all q x e (listed_place q ps f))
  waits_now x e false f = kept_left (waits_of_place q xs) before.taken q x (wait_listed q xs x (are x ∙ dropped q x ∙ and_both (waits_on old q x) (is_place_in q ps) e f))

  count : k ≡ n + length (waits_of_place q xs ++ before.taken)
  count =
      let a : m ≡ n + length before.taken = before.steps in
      let b : length (waits_of_place q xs ++ before.taken) ≡ length (waits_of_place q xs) + length before.taken = length-append (waits_of_place q xs) before.taken in
      let c : length (waits_of_place q xs) ≡ length xs = place_count q xs in
      omega arith

  pub drop_more : DropBySteps old (ps ++ q ∷ []) n k
  drop_more = record {
    taken = waits_of_place q xs ++ before.taken;
    waited = λ p x i. elim (kept_either (waits_of_place q xs) before.taken p x i) [
      | inl j ↦ let w : (p ≡ q) × (is_variable_in x xs ≡ true) = listed_wait q xs p x j in ap (λ (r : Place). waits_on old r x) w.0 ∙ and_left (waits_on old q x) (not (is_place_in q ps)) (was x w.1)
      | inr j ↦ before.waited p x j
    ];
    of_places = λ p x i. elim (kept_either (waits_of_place q xs) before.taken p x i) [
      | inl j ↦ one_right p ps (q ∷ []) (inl (listed_wait q xs p x j).0)
      | inr j ↦ one_left p ps (q ∷ []) (before.of_places p x j)
    ];
    all = λ p x e i. elim (one_either p ps (q ∷ []) i) [
      | inl j ↦ kept_right (waits_of_place q xs) before.taken p x (before.all p x e j)
      | inr j ↦ elim j [
        | inl f ↦ subst (λ (r : Place). IsKept (waits_of_place q xs ++ before.taken) r x) (sym f) (waits_now x (sym (ap (λ (r : Place). waits_on old r x) f) ∙ e) (is_place_in q ps) refl)
        | inr k ↦ absurd k
      ]
    ];
    once = once_both (waits_of_place q xs) before.taken (place_once q xs once) before.once (λ p x i j.
        let w : (p ≡ q) × (is_variable_in x xs ≡ true) = listed_wait q xs p x i in
        not_both (ap (λ (r : Place). is_place_in r ps) (sym w.0) ∙ place_listed p ps (before.of_places p x j)) (and_right (waits_on old q x) (is_place_in q ps) (was x w.1)));
    steps = count;
  }

-- by an index
pub drop_next : (ps : List Place) (i : ℕ) (d q : Place) (old mid : Waiting) (xs : List Var) (n m k : ℕ) → i < length ps → q ≡ get_or ps i d → DropsWaits old (take i ps) mid → ((x : Var) → is_variable_in x xs ≡ waits_on mid q x)
    → IsDistinct same_var xs → DropBySteps old (take i ps) n m → k ≡ m + length xs → DropBySteps old (take (i + 1) ps) n k
drop_next ps i d q old mid xs n m k h e w are o b c =
    subst (λ (l : List Place). DropBySteps old l n k) (sym (take_more ps i d h)) (subst (λ (r : Place). DropBySteps old (take i ps ++ r ∷ []) n k) e (drop_more old mid (take i ps) q xs w are o n m k b c))

pub drop_placed : (ps : List PlacedValue) (i : ℕ) (d : PlacedValue) (q : Place) (old mid : Waiting) (xs : List Var) (n m k : ℕ) → i < length ps → q ≡ (get_or ps i d).place → DropsWaits old (places_of (take i ps)) mid
    → ((x : Var) → is_variable_in x xs ≡ waits_on mid q x) → IsDistinct same_var xs → DropBySteps old (places_of (take i ps)) n m → k ≡ m + length xs → DropBySteps old (places_of (take (i + 1) ps)) n k
drop_placed ps i d q old mid xs n m k h e w are o b c =
    subst (λ (l : List Place). DropBySteps old l n k) (sym (ap places_of (take_more ps i d h) ∙ places_end (take i ps) (get_or ps i d)))
    (subst (λ (r : Place). DropBySteps old (places_of (take i ps) ++ r ∷ []) n k) e (drop_more old mid (places_of (take i ps)) q xs w are o n m k b c))

-- by tokens
pub drop_under : (ts : List ℕ) (i : ℕ) (os : Openings) (q : Place) (old mid : Waiting) (xs : List Var) (n m k : ℕ) → i < length ts → Some q ≡ option_map (λ (o : Opening). o.place) (opening_at (get_or ts i 0) os)
    → DropsWaits old (places_under (take i ts) os) mid → ((x : Var) → is_variable_in x xs ≡ waits_on mid q x) → IsDistinct same_var xs → DropBySteps old (places_under (take i ts) os) n m → k ≡ m + length xs
    → DropBySteps old (places_under (take (i + 1) ts) os) n k
drop_under ts i os q old mid xs n m k h e w are o b c = subst (λ (l : List Place). DropBySteps old l n k) (sym (under_next ts i os h ∙ ap (λ (l : List Place). places_under (take i ts) os ++ l) (place_listed_by (opening_at (get_or ts i 0) os) q e)))
    (drop_more old mid (places_under (take i ts) os) q xs w are o n m k b c)

-- with a step for each of the places
moved : (old : Waiting) (ps : List Place) (n m k : ℕ) → DropBySteps old ps n m → k ≡ m + 1 → DropBySteps old ps (n + 1) k
moved old ps n m k b e = record {
  taken = b.taken;
  waited = b.waited;
  of_places = b.of_places;
  all = b.all;
  once = b.once;
  steps = let f : m ≡ n + length b.taken = b.steps in omega arith;
}

pub gone_next : (ps : List Place) (i : ℕ) (d q : Place) (old mid : Waiting) (xs : List Var) (n m k j : ℕ) → i < length ps → q ≡ get_or ps i d → DropsWaits old (take i ps) mid → ((x : Var) → is_variable_in x xs ≡ waits_on mid q x)
    → IsDistinct same_var xs → DropBySteps old (take i ps) (n + length (take i ps)) m → k ≡ m + 1 → j ≡ k + length xs → DropBySteps old (take (i + 1) ps) (n + length (take (i + 1) ps)) j
gone_next ps i d q old mid xs n m k j h e w are o b c f =
    subst (λ (z : ℕ). DropBySteps old (take (i + 1) ps) z j) longer (drop_next ps i d q old mid xs (n + length (take i ps) + 1) k j h e w are o (moved old (take i ps) (n + length (take i ps)) m k b c) f)
  where
    longer : n + length (take i ps) + 1 ≡ n + length (take (i + 1) ps)
    longer =
        let g : length (take (i + 1) ps) ≡ length (take i ps ++ get_or ps i d ∷ []) = ap length (take_more ps i d h) in
        let u : length (take i ps ++ get_or ps i d ∷ []) ≡ length (take i ps) + 1 = length-append (take i ps) (get_or ps i d ∷ []) in
        omega arith

-- places after others
pub drop_both : (old mid : Waiting) (ps qs : List Place) (n m k : ℕ) → DropsWaits old ps mid → DropBySteps old ps n m → DropBySteps mid qs (m + length qs) k → DropBySteps old (ps ++ qs) (n + length qs) k
drop_both old mid ps qs n m k w a b = record {
  taken = b.taken ++ a.taken;
  waited = λ p x i. elim (kept_either b.taken a.taken p x i) [ inl j ↦ and_left (waits_on old p x) (not (is_place_in p ps)) (still p x j) | inr j ↦ a.waited p x j ];
  of_places = λ p x i. elim (kept_either b.taken a.taken p x i) [ inl j ↦ one_right p ps qs (b.of_places p x j) | inr j ↦ one_left p ps qs (a.of_places p x j) ];
  all = λ p x e i. elim (one_either p ps qs i) [
    | inl j ↦ kept_right b.taken a.taken p x (a.all p x e j)
    | inr j ↦ last p x e j (is_place_in p ps) refl
  ];
  once = once_both b.taken a.taken b.once a.once (λ p x i j. not_both (place_listed p ps (a.of_places p x j)) (and_right (waits_on old p x) (is_place_in p ps) (still p x i)));
  steps =
      let e : m ≡ n + length a.taken = a.steps in
      let f : k ≡ m + length qs + length b.taken = b.steps in
      let g : length (b.taken ++ a.taken) ≡ length b.taken + length a.taken = length-append b.taken a.taken in
      omega arith;
}
  where
    still : (p : Place) (x : Var) → IsKept b.taken p x → (waits_on old p x && not (is_place_in p ps)) ≡ true
    still p x i = sym (w p x) ∙ b.waited p x i

    last : (p : Place) (x : Var) → waits_on old p x ≡ true → IsOneOf p qs → (c : Bool) → is_place_in p ps ≡ c → IsKept (b.taken ++ a.taken) p x
    last p x e i true f = kept_right b.taken a.taken p x (a.all p x e (listed_place p ps f))
    last p x e i false f = kept_left b.taken a.taken p x (b.all p x (w p x ∙ and_both (waits_on old p x) (is_place_in p ps) e f) i)
