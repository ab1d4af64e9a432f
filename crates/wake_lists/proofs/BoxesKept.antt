-- The boxes of tokens, when those of one token change.
use Rattle.std.proofs.Common.{◌≡◌, ℕ, zero, suc, ◌+◌, ◌<◌, Bool, true, false, List, [], ◌∷◌, ◌++◌, length, slice_index_or, slice_set, refl, sym, ap, ◌∙◌, arith, ◌⊎◌, inl, inr}
use Rattle.std.proofs.lemmas.Bool.Decides.{nat_tests}
use Rattle.std.specs.Prelude.{if◌then◌else◌, ◌||◌, ◌&&◌, ◌==◌, not}
use Rattle.smallvec.specs.SmallVec.{SmallVec}
use Rattle.akl_terms.specs.declared.name.Name.{Name}
use Rattle.wake_lists.specs.Standing.{is_in, InBoxes, stands, names_in, boxes_at, how_many, AreStanding}

-- the boxes of one token become others
pub boxes_now : (bs : List (List Name)) (token : ℕ) (ns : List Name) → token < length bs → (t : ℕ) → boxes_at t (slice_set bs token ns) ≡ (if t == token then ns else boxes_at t bs)
boxes_now [] token ns h t = absurd (omega arith)
boxes_now (b ∷ bs) zero ns h zero = refl
boxes_now (b ∷ bs) zero ns h (suc t) = let other : false ≡ (suc t == 0) = grind (arith, nat_tests) in λ i. if other i then ns else boxes_at t bs
boxes_now (b ∷ bs) (suc k) ns h zero = let other : false ≡ (0 == suc k) = grind (arith, nat_tests) in λ i. if other i then ns else b
boxes_now (b ∷ bs) (suc k) ns h (suc t) = let same : (t == k) ≡ (suc t == suc k) = grind (arith, nat_tests) in boxes_now bs k ns (omega arith) t ∙ (λ i. if same i then ns else boxes_at t bs)

-- the names of lists, of which one is another one
pub names_count : (bs : List (SmallVec Name)) → length (names_in bs) ≡ length bs
names_count [] = refl
names_count (b ∷ bs) = ap suc (names_count bs)

pub names_there : (bs : List (SmallVec Name)) (token : ℕ) (d : SmallVec Name) → token < length bs → boxes_at token (names_in bs) ≡ (slice_index_or bs token d).items
names_there [] token d h = absurd (omega arith)
names_there (b ∷ bs) zero d h = refl
names_there (b ∷ bs) (suc k) d h = names_there bs k d (omega arith)

pub names_set : (bs : List (SmallVec Name)) (token : ℕ) (b : SmallVec Name) → names_in (slice_set bs token b) ≡ slice_set (names_in bs) token b.items
names_set [] token b = refl
names_set (c ∷ bs) zero b = refl
names_set (c ∷ bs) (suc k) b = ap (λ (ns : List (List Name)). c.items ∷ ns) (names_set bs k b)

pub names_more : (bs : List (SmallVec Name)) (b : SmallVec Name) → names_in (bs ++ b ∷ []) ≡ names_in bs ++ b.items ∷ []
names_more [] b = refl
names_more (c ∷ bs) b = ap (λ (ns : List (List Name)). c.items ∷ ns) (names_more bs b)

-- behind the list no token stands in a box
pub boxes_beyond : (bs : List (List Name)) (token : ℕ) → (token < length bs → ⊥) → boxes_at token bs ≡ []
boxes_beyond [] token h = refl
boxes_beyond (b ∷ bs) zero h = absurd (h (omega arith))
boxes_beyond (b ∷ bs) (suc k) h = boxes_beyond bs k (λ l. h (omega arith))

-- a token without boxes, whose boxes are taken away
pub boxes_without : (bs : List (List Name)) (token : ℕ) → boxes_at token bs ≡ [] → (t : ℕ) → boxes_at t bs ≡ (if t == token then [] else boxes_at t bs)
boxes_without bs token none t = on (t == token) refl
  where
    on : (s : Bool) → (t == token) ≡ s → boxes_at t bs ≡ (if s then [] else boxes_at t bs)
    on true e = let same : t ≡ token = grind (arith, nat_tests) in ap (λ (k : ℕ). boxes_at k bs) same ∙ none
    on false e = refl

-- one token more without boxes changes none
pub boxes_more : (bs : List (List Name)) (t : ℕ) → boxes_at t (bs ++ [] ∷ []) ≡ boxes_at t bs
boxes_more [] zero = refl
boxes_more [] (suc t) = refl
boxes_more (b ∷ bs) zero = refl
boxes_more (b ∷ bs) (suc t) = boxes_more bs t

-- how many names there are, once those of one token went
pub how_many_without : (bs : List (List Name)) (token : ℕ) → how_many (slice_set bs token []) + length (boxes_at token bs) ≡ how_many bs
how_many_without [] token = refl
how_many_without (b ∷ bs) zero = omega arith
how_many_without (b ∷ bs) (suc k) = let rest = how_many_without bs k in omega arith

-- a token that stands in a box has a box
pub has_some : (ns : List Name) (n : Name) → is_in n ns ≡ true → 0 < length ns
has_some [] n e = absurd (cc)
has_some (m ∷ ns) n e = omega arith

module _ (token : ℕ) (ss : InBoxes) (bs : List (List Name)) (kept : AreStanding ss bs) where
  -- a token without boxes stands in none
  pub bare : boxes_at token bs ≡ [] → (t : ℕ) (n : Name) → (t == token) ≡ true → stands ss t n ≡ false
  bare none t n e =
      let same : t ≡ token = grind (arith, nat_tests) in
      kept t n ∙ ap (λ (s : ℕ). is_in n (boxes_at s bs)) same ∙ ap (is_in n) none

  pub kept_more : boxes_at token bs ≡ [] → (around : List Name) (us : InBoxes) → ((t : ℕ) (n : Name) → stands us t n ≡ (stands ss t n || ((t == token) && is_in n around)))
      → (new : List (List Name)) → ((t : ℕ) → boxes_at t new ≡ (if t == token then around else boxes_at t bs)) → AreStanding us new
  kept_more none around us joined new now t n = joined t n ∙ on (t == token) refl ∙ ap (is_in n) (sym (now t))
    where
      less : (b : Bool) → (b || false) ≡ b
      less true = refl
      less false = refl

      on : (s : Bool) → (t == token) ≡ s → (stands ss t n || (s && is_in n around)) ≡ is_in n (if s then around else boxes_at t bs)
      on true e = ap (λ (b : Bool). b || is_in n around) (bare none t n e)
      on false e = less (stands ss t n) ∙ kept t n

  pub kept_fewer : (us : InBoxes) → ((t : ℕ) (n : Name) → stands us t n ≡ (stands ss t n && not ((t == token) && is_in n (boxes_at token bs))))
      → (new : List (List Name)) → ((t : ℕ) → boxes_at t new ≡ (if t == token then [] else boxes_at t bs)) → AreStanding us new
  kept_fewer us parted new now t n = parted t n ∙ on (t == token) refl ∙ ap (is_in n) (sym (now t))
    where
      gone : (b : Bool) → (b && not b) ≡ false
      gone true = refl
      gone false = refl

      less : (b : Bool) → (b && true) ≡ b
      less true = refl
      less false = refl

      on : (s : Bool) → (t == token) ≡ s → (stands ss t n && not (s && is_in n (boxes_at token bs))) ≡ is_in n (if s then [] else boxes_at t bs)
      on true e =
          let same : t ≡ token = grind (arith, nat_tests) in
          let all : stands ss t n ≡ is_in n (boxes_at token bs) = kept t n ∙ ap (λ (s : ℕ). is_in n (boxes_at s bs)) same in
          ap (λ (b : Bool). b && not (is_in n (boxes_at token bs))) all ∙ gone (is_in n (boxes_at token bs))
      on false e = less (stands ss t n) ∙ kept t n

  -- the lists that say the same of each token
  pub kept_same : (new : List (List Name)) → ((t : ℕ) → boxes_at t new ≡ boxes_at t bs) → AreStanding ss new
  kept_same new now t n = kept t n ∙ ap (is_in n) (sym (now t))

-- A box leaves: some of the tokens that stand in it were taken out of all boxes
module _ (name : Name) (old : List (List Name)) where
  abbrev pub LeftBy : List (List Name) → Type 0
  LeftBy now = (t : ℕ) → (boxes_at t now ≡ boxes_at t old) ⊎ ((is_in name (boxes_at t old) ≡ true) × (boxes_at t now ≡ []))

  pub left_none : LeftBy old
  left_none t = inl refl

  pub left_next : (now new : List (List Name)) (token : ℕ) → LeftBy now → is_in name (boxes_at token now) ≡ true
      → ((t : ℕ) → boxes_at t new ≡ (if t == token then [] else boxes_at t now)) → LeftBy new
  left_next now new token l there h t = on (t == token) refl (h t) (l t)
    where
      on : (s : Bool) → (t == token) ≡ s → boxes_at t new ≡ (if s then [] else boxes_at t now)
          → (boxes_at t now ≡ boxes_at t old) ⊎ ((is_in name (boxes_at t old) ≡ true) × (boxes_at t now ≡ []))
          → (boxes_at t new ≡ boxes_at t old) ⊎ ((is_in name (boxes_at t old) ≡ true) × (boxes_at t new ≡ []))
      on true e f (inl g) = let same : t ≡ token = grind (arith, nat_tests) in inr (sym (ap (is_in name) g) ∙ ap (λ (s : ℕ). is_in name (boxes_at s now)) same ∙ there, f)
      on true e f (inr g) = inr (g.0, f)
      on false e f (inl g) = inl (f ∙ g)
      on false e f (inr g) = inr (g.0, f ∙ g.1)

  pub left_all : (now : List (List Name)) → LeftBy now → ((t : ℕ) → is_in name (boxes_at t now) ≡ false) → (t : ℕ) → boxes_at t now ≡ (if is_in name (boxes_at t old) then [] else boxes_at t old)
  left_all now l none t = on (l t)
    where
      on : (boxes_at t now ≡ boxes_at t old) ⊎ ((is_in name (boxes_at t old) ≡ true) × (boxes_at t now ≡ [])) → boxes_at t now ≡ (if is_in name (boxes_at t old) then [] else boxes_at t old)
      on (inl g) = let out : is_in name (boxes_at t old) ≡ false = sym (ap (is_in name) g) ∙ none t in g ∙ (λ i. if sym out i then [] else boxes_at t old)
      on (inr g) = g.1 ∙ (λ i. if sym g.0 i then [] else boxes_at t old)
