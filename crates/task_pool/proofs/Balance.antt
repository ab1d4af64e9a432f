-- What was pushed is what was taken and what is left, counted token by token.
use Rattle.std.proofs.Common.{◌≡◌, ◌≢◌, ℕ, zero, suc, ◌+◌, ◌<◌, ◌≤◌, ◌==◌, List, [], ◌∷◌, ◌++◌, length, get_or, slice_get, Some, All, refl, ap, sym, ◌∙◌, subst, ⊎_elim, cond, eq-eqb, ne_eqb, arith}
use Rattle.std.proofs.lemmas.Bool.{cases_lt}
use Rattle.std.proofs.lemmas.List.Sums.{sum_by-append}
use Rattle.std.proofs.lemmas.Option.{get_or_from_slice_get}
use Rattle.task_pool.specs.Departures.{Departure, tokens, taken_by}
use Rattle.task_pool.proofs.Keeps.{all_first, all_rest}
use Rattle.task_pool.specs.Left.{flat, times, times_pushed, times_taken, LeavesInOrder, IsLeft}
use Rattle.task_pool.specs.Places.{Standing}

pub times-append : (token : ℕ) (xs ys : List ℕ) → times token (xs ++ ys) ≡ times token xs + times token ys
times-append token xs ys = sum_by-append (λ x. cond (x == token) 1 0) xs ys

-- f of each number below n, added up
abbrev pub sum_to : (ℕ → ℕ) → ℕ → ℕ
sum_to f zero = 0
sum_to f (suc n) = sum_to f n + f n

sum_to_same : (f g : ℕ → ℕ) (n : ℕ) → ((k : ℕ) → k < n → f k ≡ g k) → sum_to f n ≡ sum_to g n
sum_to_same f g zero h = refl
sum_to_same f g (suc n) h = let r = sum_to_same f g n (λ k l. h k (omega arith)) in let e = h n (omega arith) in omega arith

sum_to_add : (f g : ℕ → ℕ) (n : ℕ) → sum_to (λ k. f k + g k) n ≡ sum_to f n + sum_to g n
sum_to_add f g zero = refl
sum_to_add f g (suc n) = let r = sum_to_add f g n in omega arith

sum_to_first : (f : ℕ → ℕ) (n : ℕ) → sum_to f (suc n) ≡ f 0 + sum_to (λ k. f (suc k)) n
sum_to_first f zero = omega arith
sum_to_first f (suc n) = let r = sum_to_first f n in omega arith

sum_to_none : (n : ℕ) → sum_to (λ k. 0) n ≡ 0
sum_to_none zero = refl
sum_to_none (suc n) = let r = sum_to_none n in omega arith

-- where g is more than f at one number alone, its sum is by so much more
sum_to_one : (f g : ℕ → ℕ) (n i x : ℕ) → i < n → g i ≡ f i + x → ((k : ℕ) → k ≢ i → g k ≡ f k) → sum_to g n ≡ sum_to f n + x
sum_to_one f g zero i x l more same = absurd (omega arith)
sum_to_one f g (suc n) i x l more same = ⊎_elim
    (λ (h : i < n). let r = sum_to_one f g n i x h more same in let e = same n (λ z. absurd (omega arith)) in omega arith)
    (λ (h : n ≤ i).
    let e : i ≡ n = omega arith in
    let here : g n ≡ f n + x = subst (λ (k : ℕ). g k ≡ f k + x) e more in
    let r = sum_to_same g f n (λ k m. same k (λ z. absurd (omega arith))) in omega arith)
    (cases_lt i n)

-- each token that left was taken by one of the hands
pub times_gone : (token n : ℕ) (gone : List Departure) → All (λ (d : Departure). d.hand < n) gone → times token (tokens gone) ≡ sum_to (λ k. times token (taken_by k gone)) n
times_gone token n [] h = sym (sum_to_none n)
times_gone token n (d ∷ ds) h =
    let r = times_gone token n ds (all_rest (λ (e : Departure). e.hand < n) d ds h) in
    let one = sum_to_one (λ k. times token (taken_by k ds)) (λ k. times token (taken_by k (d ∷ ds))) n d.hand (times token (d.token ∷ [])) (all_first (λ (e : Departure). e.hand < n) d ds h)
    (rw (eq-eqb d.hand d.hand refl) (times-append token (d.token ∷ []) (taken_by d.hand ds) ∙ (omega arith)))
    (λ k apart. rw (ne_eqb d.hand k (λ e. apart (sym e))) refl) in
    let first = times-append token (d.token ∷ []) (tokens ds) in omega arith

-- how often the hand took the token from the deque of this number
abbrev pub piece : ℕ → ℕ → Standing → ℕ
piece token number h = times token (get_or h.taken number [])

abbrev pub column : ℕ → ℕ → List Standing → ℕ
column token number [] = 0
column token number (h ∷ hs) = piece token number h + column token number hs

flat_pieces : (token : ℕ) (lists : List (List ℕ)) → sum_to (λ k. times token (get_or lists k [])) (length lists) ≡ times token (flat lists)
flat_pieces token [] = refl
flat_pieces token (l ∷ ls) =
    let r = flat_pieces token ls in
    let a = times-append token l (flat ls) in
    sum_to_first (λ k. times token (get_or (l ∷ ls) k [])) (length ls) ∙ omega arith

columns : (token n : ℕ) (hs : List Standing) → ((k : ℕ) (h : Standing) → slice_get hs k ≡ Some h → length h.taken ≡ n) → sum_to (λ number. column token number hs) n ≡ times_taken token hs
columns token n [] full = sum_to_none n
columns token n (h ∷ hs) full =
    let a = sum_to_add (λ number. piece token number h) (λ number. column token number hs) n in
    let r = columns token n hs (λ k g e. full (suc k) g e) in
    let f : sum_to (λ number. piece token number h) n ≡ times token (flat h.taken) =
    ap (λ (m : ℕ). sum_to (λ number. piece token number h) m) (sym (full 0 h refl)) ∙ flat_pieces token h.taken in omega arith

column_of : (token number m : ℕ) (hs : List Standing) (g : ℕ → List ℕ) → ((k : ℕ) (h : Standing) → slice_get hs k ≡ Some h → slice_get h.taken number ≡ Some (g (m + k))) → column token number hs ≡ sum_to (λ k. times token (g (m + k))) (length hs)
column_of token number m [] g h = refl
column_of token number m (x ∷ xs) g h =
    let first : piece token number x ≡ times token (g (m + 0)) = ap (times token) (get_or_from_slice_get x.taken number (g (m + 0)) [] (h 0 x refl)) in
    let z : (k : ℕ) → (m + 1) + k ≡ m + suc k = λ k. omega arith in
    let r = column_of token number (m + 1) xs g (λ k y e. h (suc k) y e ∙ ap (λ (i : ℕ). Some (g i)) (sym (z k))) in
    let s = sum_to_same (λ k. times token (g ((m + 1) + k))) (λ k. times token (g (m + suc k))) (length xs) (λ k l. ap (λ (i : ℕ). times token (g i)) (z k)) in
    let t = sum_to_first (λ k. times token (g (m + k))) (length xs) in omega arith

at_one : (token : ℕ) (hands : List Standing) (number : ℕ) (pushed left : List ℕ) → LeavesInOrder hands number pushed left → times token pushed ≡ column token number hands + times token left
at_one token hands number pushed left o =
    let a = ap (times token) o.1 ∙ times-append token (tokens o.0) left in
    let z : (k : ℕ) → k ≡ 0 + k = λ k. omega arith in
    let c = column_of token number 0 hands (λ k. taken_by k o.0) (λ k h e. o.3 k h e ∙ ap (λ (i : ℕ). Some (taken_by i o.0)) (z k)) in
    let s = sum_to_same (λ k. times token (taken_by k o.0)) (λ k. times token (taken_by (0 + k) o.0)) (length hands) (λ k l. ap (λ (i : ℕ). times token (taken_by i o.0)) (z k)) in
    let g = times_gone token (length hands) o.0 o.2 in omega arith

all_pushed : (token m : ℕ) (hands hs : List Standing) (lefts : List (List ℕ)) → length lefts ≡ length hs
    → ((k : ℕ) (h : Standing) (l : List ℕ) → slice_get hs k ≡ Some h → slice_get lefts k ≡ Some l → LeavesInOrder hands (m + k) h.pushed l)
    → times_pushed token hs ≡ sum_to (λ k. column token (m + k) hands) (length hs) + times token (flat lefts)
all_pushed token m hands [] [] same o = refl
all_pushed token m hands [] (l ∷ ls) same o = absurd (omega arith)
all_pushed token m hands (h ∷ hs) [] same o = absurd (omega arith)
all_pushed token m hands (h ∷ hs) (l ∷ ls) same o =
    let z : (k : ℕ) → m + suc k ≡ (m + 1) + k = λ k. omega arith in
    let first = at_one token hands (m + 0) h.pushed l (o 0 h l refl refl) in
    let r = all_pushed token (m + 1) hands hs ls (omega arith) (λ k g x e f. subst (λ (i : ℕ). LeavesInOrder hands i g.pushed x) (z k) (o (suc k) g x e f)) in
    let s = sum_to_same (λ k. column token (m + suc k) hands) (λ k. column token ((m + 1) + k) hands) (length hs) (λ k l'. ap (λ (i : ℕ). column token i hands) (z k)) in
    let t = sum_to_first (λ k. column token (m + k) hands) (length hs) in
    let a = times-append token l (flat ls) in omega arith

pub balance : (hands : List Standing) (left : List ℕ) → IsLeft hands left → ((k : ℕ) (h : Standing) → slice_get hands k ≡ Some h → length h.taken ≡ length hands) → (token : ℕ) → times_pushed token hands ≡ times_taken token hands + times token left
balance hands left i full token =
    let z : (k : ℕ) → 0 + k ≡ k = λ k. omega arith in
    let p = all_pushed token 0 hands hands i.0 i.2 (λ k h l e f. subst (λ (n : ℕ). LeavesInOrder hands n h.pushed l) (sym (z k)) (i.3 k h l e f)) in
    let s = sum_to_same (λ k. column token (0 + k) hands) (λ k. column token k hands) (length hands) (λ k l. ap (λ (n : ℕ). column token n hands) (z k)) in
    let c = columns token (length hands) hands full in
    let l = ap (times token) i.1 in omega arith
