-- The values of numbers that follow one another, listed in parts.
use Rattle.std.proofs.Common.{◌≡◌, ℕ, zero, suc, ◌+◌, ◌-◌, ◌*◌, ◌/◌, ◌%◌, ◌^◌, ◌<◌, ◌≤◌, List, [], ◌++◌, length, get_or, Option, Some, None, refl, sym, ap, ◌∙◌, append-nil, append_assoc, arith}
use Rattle.std.proofs.lemmas.Nat.{pow_pos, le-div}
use Rattle.akl_terms.specs.declared.name.Name.{Name}
use Rattle.name_map.specs.Pages.{within, with_value, listed}
use Rattle.name_map.proofs.Within.{within_past, within_at}
use Rattle.frame_map.specs.Contents.{Contents, of_children}
use Rattle.frame_map.proofs.Bounds.{HasChildren}
use Rattle.frame_map.proofs.Parts.{digit_at, rest_at, reach}

module _ {V : Type 0} where
  value_first : (w k : ℕ) (o : Option V) (es : List (Name × V)) → with_value o w k es ≡ with_value o w k [] ++ es
  value_first w k None es = refl
  value_first w k (Some v) es = refl

  -- those that follow come last
  pub listed_first : (w k n : ℕ) (f : ℕ → Option V) (es : List (Name × V)) → listed w k n f es ≡ listed w k n f [] ++ es
  listed_first w k zero f es = refl
  listed_first w k (suc n) f es =
      let one : List (Name × V) = with_value (f k) w k [] in
      let rest : List (Name × V) = listed w (k + 1) n f [] in
      value_first w k (f k) (listed w (k + 1) n f es) ∙ ap (λ (l : List (Name × V)). one ++ l) (listed_first w (k + 1) n f es)
      ∙ sym (append_assoc one rest es) ∙ ap (λ (l : List (Name × V)). l ++ es) (sym (value_first w k (f k) rest))

  -- so many, and then more
  listed_more : (w k n m : ℕ) (f : ℕ → Option V) (es : List (Name × V)) → listed w k (n + m) f es ≡ listed w k n f (listed w (k + n) m f es)
  listed_more w k zero m f es = let none : 0 + m ≡ m = omega arith in let here : k ≡ k + 0 = omega arith in λ i. listed w (here i) (none i) f es
  listed_more w k (suc n) m f es =
      let count : suc n + m ≡ suc (n + m) = omega arith in
      let next : (k + 1) + n ≡ k + suc n = omega arith in
      ap (λ (c : ℕ). listed w k c f es) count ∙ ap (λ (l : List (Name × V)). with_value (f k) w k l) (listed_more w (k + 1) n m f es ∙ ap (λ (j : ℕ). listed w (k + 1) n f (listed w j m f es)) next)

  pub listed_add : (w k n m : ℕ) (f : ℕ → Option V) → listed w k (n + m) f [] ≡ listed w k n f [] ++ listed w (k + n) m f []
  listed_add w k n m f = listed_more w k n m f [] ∙ listed_first w k n f (listed w (k + n) m f [])

  -- values that are the same for these numbers
  pub listed_same : (w k n : ℕ) (f g : ℕ → Option V) (es : List (Name × V)) → ((i : ℕ) → k ≤ i → i < k + n → f i ≡ g i) → listed w k n f es ≡ listed w k n g es
  listed_same w k zero f g es h = refl
  listed_same w k (suc n) f g es h =
      (λ i. with_value (h k (omega arith) (omega arith) i) w k (listed w (k + 1) n f es)) ∙ ap (λ (l : List (Name × V)). with_value (g k) w k l) (listed_same w (k + 1) n f g es (λ i p q. h i (omega arith) (omega arith)))

  pub listed_none : (w k n : ℕ) (f : ℕ → Option V) (es : List (Name × V)) → ((i : ℕ) → k ≤ i → f i ≡ None) → listed w k n f es ≡ es
  listed_none w k zero f es h = refl
  listed_none w k (suc n) f es h = (λ i. with_value (h k (omega arith) i) w k (listed w (k + 1) n f es)) ∙ listed_none w (k + 1) n f es (λ i p. h i (omega arith))

  -- numbers without a value from one on
  pub listed_up_to : (w k m n : ℕ) (f : ℕ → Option V) → m ≤ n → ((i : ℕ) → k + m ≤ i → f i ≡ None) → listed w k n f [] ≡ listed w k m f []
  listed_up_to w k m n f h none =
      let parts : n ≡ m + (n - m) = omega arith in
      ap (λ (c : ℕ). listed w k c f []) parts ∙ listed_add w k m (n - m) f ∙ ap (λ (l : List (Name × V)). listed w k m f [] ++ l) (listed_none w (k + m) (n - m) f [] none) ∙ append-nil (listed w k m f [])

  -- one number more
  pub listed_next : (w k n : ℕ) (f : ℕ → Option V) → listed w k (n + 1) f [] ≡ listed w k n f [] ++ with_value (f (k + n)) w (k + n) []
  listed_next w k n f = listed_add w k n 1 f

  module _ (w first below : ℕ) (all : List (Contents V)) where
    -- the numbers of one child more
    pub child_listed : (i : ℕ) (x : Contents V) (old new : List (Name × V)) → i < length all → ((d : Contents V) → x ≡ get_or all i d)
        → new ≡ old ++ listed w (first + i * 2 ^ below) (2 ^ below) (λ n. x.value (n - (first + i * 2 ^ below))) []
        → (before : List (Name × V)) → old ≡ before ++ listed w first (i * 2 ^ below) (λ n. (of_children below all).value (n - first)) []
        → new ≡ before ++ listed w first ((i + 1) * 2 ^ below) (λ n. (of_children below all).value (n - first)) []
    child_listed i x old new h is more before start =
        let done : List (Name × V) = listed w first (i * 2 ^ below) (λ n. (of_children below all).value (n - first)) [] in
        let added : List (Name × V) = listed w (first + i * 2 ^ below) (2 ^ below) (λ n. x.value (n - (first + i * 2 ^ below))) [] in
        more ∙ ap (λ (l : List (Name × V)). l ++ added) start ∙ append_assoc before done added
        ∙ ap (λ (l : List (Name × V)). before ++ (done ++ l)) (listed_same w (first + i * 2 ^ below) (2 ^ below) (λ n. x.value (n - (first + i * 2 ^ below))) (λ n. (of_children below all).value (n - first)) [] here)
        ∙ ap (λ (l : List (Name × V)). before ++ l) (sym (listed_add w first (i * 2 ^ below) (2 ^ below) (λ n. (of_children below all).value (n - first))))
        ∙ ap (λ (c : ℕ). before ++ listed w first c (λ n. (of_children below all).value (n - first)) []) count
      where
        count : i * 2 ^ below + 2 ^ below ≡ (i + 1) * 2 ^ below
        count = omega arith

        here : (n : ℕ) → first + i * 2 ^ below ≤ n → n < first + i * 2 ^ below + 2 ^ below → x.value (n - (first + i * 2 ^ below)) ≡ (of_children below all).value (n - first)
        here n from to =
            let low : i * 2 ^ below ≤ n - first = omega arith in
            let high : n - first < i * 2 ^ below + 2 ^ below = omega arith in
            let same : n - (first + i * 2 ^ below) ≡ n - first - i * 2 ^ below = omega arith in
            ap x.value (same ∙ sym (rest_at i below (n - first) low high))
            ∙ sym (ap (λ (j : ℕ). within (λ (c : Contents V). c.value ((n - first) % 2 ^ below)) all j) (digit_at i below (n - first) low high)
            ∙ within_at (λ (c : Contents V). c.value ((n - first) % 2 ^ below)) all i x h is)

    -- no child is left
    pub children_listed : (width : ℕ) (before list : List (Name × V)) → HasChildren below width all → list ≡ before ++ listed w first (length all * 2 ^ below) (λ n. (of_children below all).value (n - first)) []
        → list ≡ before ++ listed w first (2 ^ width) (λ n. (of_children below all).value (n - first)) []
    children_listed width before list has done =
        let less = has.less in
        done ∙ ap (λ (l : List (Name × V)). before ++ l) (sym (listed_up_to w first (length all * 2 ^ below) (2 ^ width) (λ n. (of_children below all).value (n - first)) (reach width below (length all) (omega arith) has.most) past))
      where
        past : (i : ℕ) → first + length all * 2 ^ below ≤ i → (of_children below all).value (i - first) ≡ None
        past i h = within_past (λ (c : Contents V). c.value ((i - first) % 2 ^ below)) all ((i - first) / 2 ^ below) (le-div (length all) (i - first) (2 ^ below) (pow_pos below) (omega arith))
