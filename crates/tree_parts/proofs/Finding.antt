-- The index of keys, and the first places.
use Rattle.std.proofs.Common.{◌≡◌, ℕ, zero, suc, ◌+◌, ◌<◌, ◌≤◌, List, [], ◌∷◌, ◌++◌, length, map, Option, Some, None, refl, sym, ◌∙◌, ap, subst, inl, inr, arith, Bool, true, false, cond, nat_eq, length-append}
use Rattle.std.specs.Prelude.{◌⊎◌, slice_get, get_or, option_map}
use Rattle.std.specs.Global.{Vec}
use Rattle.std.specs.Cmp.Lexicographic.{pointwise}
use Rattle.std.proofs.lemmas.Bool.{cases_Bool}
use Rattle.std.proofs.lemmas.Bool.Decides.{Decides-eqb}
use Rattle.std.proofs.lemmas.Slice.Eq.{slice_eq-Decides}
use Rattle.std.proofs.lemmas.Option.{get_or_from_slice_get, slice_get-map}
use Rattle.std.proofs.lemmas.List.{length-map}
use Rattle.std.proofs.Math.ListN.{get_or-append}
use Rattle.std.proofs.Math.Seq.{get_or-append_seam}
use Rattle.tree_parts.specs.Firsts.{at_node, AreFirsts, found, IsPlaced, met, fresh}

abbrev items_of : List (Vec ℕ) → List (List ℕ)
items_of keys = map (λ k. k.items) keys

-- the keys before this place are in the index, each with its first place, and no others
pub record AreFound (keys : List (Vec ℕ)) (entries : List (Vec ℕ × ℕ)) (firsts : List ℕ) (n : ℕ) : Type 0 where
  pub size : length firsts ≡ n
  pub before : (i : ℕ) → i < n → at_node firsts i ≤ i
  pub listed : (i : ℕ) (k : Vec ℕ) → i < n → slice_get keys i ≡ Some k → found entries k.items ≡ Some (at_node firsts i)
  pub known : (k : Vec ℕ) (f : ℕ) → found entries k.items ≡ Some f → (f < n) × (get_or (items_of keys) f [] ≡ k.items)

item-at : (keys : List (Vec ℕ)) (i : ℕ) (k : Vec ℕ) → slice_get keys i ≡ Some k → get_or (items_of keys) i [] ≡ k.items
item-at keys i k e = get_or_from_slice_get (items_of keys) i k.items [] (slice_get-map (λ v. v.items) keys i ∙ ap (option_map (λ v. v.items)) e)

-- equal keys have one place
same-found : (entries : List (Vec ℕ × ℕ)) (xs ys : List ℕ) → xs ≡ ys → found entries xs ≡ found entries ys
same-found entries xs ys e = ap (found entries) e

less-cases : (i n : ℕ) → i < n + 1 → (i < n) ⊎ (i ≡ n)
less-cases zero zero h = inr refl
less-cases zero (suc n) h = inl (omega arith)
less-cases (suc i) zero h = absurd (omega (arith, h))
less-cases (suc i) (suc n) h = elim (less-cases i n (omega (arith, h))) [ inl l ↦ inl (omega (arith, l)) | inr e ↦ inr (ap suc e) ]

module _ (keys : List (Vec ℕ)) (old new : List (Vec ℕ × ℕ)) (firsts : List ℕ) (n first : ℕ) (key : Vec ℕ) (at : slice_get keys n ≡ Some key) (a : AreFound keys old firsts n) where
  abbrev more : List ℕ
  more = firsts ++ first ∷ []

  at-old : (i : ℕ) → i < n → at_node more i ≡ at_node firsts i
  at-old i h = get_or-append firsts (first ∷ []) 0 i (let s : length firsts ≡ n = a.size in omega (arith, h, s))

  at-new : (i : ℕ) → i ≡ n → at_node more i ≡ first
  at-new i e = ap (at_node more) (e ∙ sym a.size) ∙ get_or-append_seam firsts first [] 0

  size : length more ≡ n + 1
  size = length-append firsts (first ∷ []) ∙ ap (λ (m : ℕ). m + 1) a.size

  before : first ≤ n → (i : ℕ) → (i < n) ⊎ (i ≡ n) → at_node more i ≤ i
  before l i (inl h) = let e : at_node more i ≡ at_node firsts i = at-old i h in let b : at_node firsts i ≤ i = a.before i h in omega (arith, e, b)
  before l i (inr e) = let g : at_node more i ≡ first = at-new i e in omega (arith, g, e, l)

  listed : ((i : ℕ) (k : Vec ℕ) → i < n → slice_get keys i ≡ Some k → found new k.items ≡ Some (at_node firsts i)) → found new key.items ≡ Some first
      → (i : ℕ) (k : Vec ℕ) → (i < n) ⊎ (i ≡ n) → slice_get keys i ≡ Some k → found new k.items ≡ Some (at_node more i)
  listed h g i k (inl l) e = h i k l e ∙ ap Some (sym (at-old i l))
  listed h g i k (inr o) e =
      let same : k ≡ key = (let z : Some k ≡ Some key = sym e ∙ ap (slice_get keys) o ∙ at in cc) in
      same-found new k.items key.items (ap (λ (v : Vec ℕ). v.items) same) ∙ g ∙ ap Some (sym (at-new i o))

  -- the key was met before
  pub found-met : found old key.items ≡ Some first → AreFound keys old more (n + 1)
  found-met g =
      let f : (first < n) × (get_or (items_of keys) first [] ≡ key.items) = a.known key first g in
      let l : first < n = f.0 in
      record {
        size = size;
        before = λ i h. before (omega (arith, l)) i (less-cases i n h);
        listed = λ i k h e. elim (less-cases i n h) [ inl m ↦ a.listed i k m e ∙ ap Some (sym (at-old i m)) | inr o ↦ (let same : k ≡ key = (let z : Some k ≡ Some key = sym e ∙ ap (slice_get keys) o ∙ at in cc) in same-found old k.items key.items (ap (λ (v : Vec ℕ). v.items) same) ∙ g ∙ ap Some (sym (at-new i o))) ];
        known = λ k m e. let z : (m < n) × (get_or (items_of keys) m [] ≡ k.items) = a.known k m e in let y : m < n = z.0 in (omega (arith, y), z.1);
      }

  -- the key is new
  pub found-fresh : first ≡ n → found old key.items ≡ None → ((k : Vec ℕ) → found new k.items ≡ cond (pointwise nat_eq key.items k.items) (Some n) (found old k.items)) → AreFound keys new more (n + 1)
  found-fresh is none u = record {
    size = size;
    before = λ i h. before (omega (arith, is)) i (less-cases i n h);
    listed = λ i k h e. listed kept self i k (less-cases i n h) e;
    known = λ k m e. from k m (cases_Bool (pointwise nat_eq key.items k.items)) e;
  }
    where
      decided : (xs ys : List ℕ) → (pointwise nat_eq xs ys ≡ true → xs ≡ ys) × (xs ≡ ys → pointwise nat_eq xs ys ≡ true)
      decided xs ys = slice_eq-Decides Decides-eqb xs ys (pointwise nat_eq xs ys) refl

      self : found new key.items ≡ Some first
      self = u key ∙ ap (λ (b : Bool). cond b (Some n) (found old key.items)) ((decided key.items key.items).1 refl) ∙ ap Some (sym is)

      kept : (i : ℕ) (k : Vec ℕ) → i < n → slice_get keys i ≡ Some k → found new k.items ≡ Some (at_node firsts i)
      kept i k l e = on (cases_Bool (pointwise nat_eq key.items k.items))
        where
          on : (pointwise nat_eq key.items k.items ≡ true) ⊎ (pointwise nat_eq key.items k.items ≡ false) → found new k.items ≡ Some (at_node firsts i)
          on (inl t) =
              let z : None ≡ Some (at_node firsts i) = sym none ∙ same-found old key.items k.items ((decided key.items k.items).0 t) ∙ a.listed i k l e in absurd cc
          on (inr f) = u k ∙ ap (λ (b : Bool). cond b (Some n) (found old k.items)) f ∙ a.listed i k l e

      from : (k : Vec ℕ) (m : ℕ) → (pointwise nat_eq key.items k.items ≡ true) ⊎ (pointwise nat_eq key.items k.items ≡ false) → found new k.items ≡ Some m → (m < n + 1) × (get_or (items_of keys) m [] ≡ k.items)
      from k m (inl t) e =
          let z : Some n ≡ Some m = sym (ap (λ (b : Bool). cond b (Some n) (found old k.items)) t) ∙ sym (u k) ∙ e in
          let o : n ≡ m = cc in
          (omega (arith, o), ap (λ (i : ℕ). get_or (items_of keys) i []) (sym o) ∙ item-at keys n key at ∙ (decided key.items k.items).0 t)
      from k m (inr f) e =
          let z : (m < n) × (get_or (items_of keys) m [] ≡ k.items) = a.known k m (sym (ap (λ (b : Bool). cond b (Some n) (found old k.items)) f) ∙ sym (u k) ∙ e) in
          let y : m < n = z.0 in (omega (arith, y), z.1)

  pub found-placed : IsPlaced old new key.items n first → AreFound keys new more (n + 1)
  found-placed (met g e) = subst (λ (es : List (Vec ℕ × ℕ)). AreFound keys es more (n + 1)) (sym e) (found-met g)
  found-placed (fresh none is u) = found-fresh is none u

pub found-none : (keys : List (Vec ℕ)) → AreFound keys [] [] 0
found-none keys = record { size = refl; before = λ i h. absurd (omega (arith, h)); listed = λ i k h e. absurd (omega (arith, h)); known = λ k f e. absurd cc }

pub found-all : (keys : List (Vec ℕ)) (entries : List (Vec ℕ × ℕ)) (firsts : List ℕ) → AreFound keys entries firsts (length keys) → AreFirsts (items_of keys) firsts
found-all keys entries firsts a = record {
  size = a.size ∙ sym (length-map keys (λ k. k.items));
  before = λ i h. a.before i (less i h);
  key = λ i h. key i (there i (less i h));
  one = λ i j h g e. one i j (less i h) (less j g) (there i (less i h)) (there j (less j g)) e;
}
  where
    less : (i : ℕ) → i < length (items_of keys) → i < length keys
    less i h = let e : length (items_of keys) ≡ length keys = length-map keys (λ k. k.items) in omega (arith, h, e)

    there : (i : ℕ) → i < length keys → (k : Vec ℕ) × (slice_get keys i ≡ Some k) × (i < length keys)
    there i h = from (slice_get keys i) refl
      where
        from : (o : Option (Vec ℕ)) → slice_get keys i ≡ o → (k : Vec ℕ) × (slice_get keys i ≡ Some k) × (i < length keys)
        from (Some k) e = (k, e, h)
        from None e = absurd (none_there keys i h e)
          where
            none_there : (xs : List (Vec ℕ)) (j : ℕ) → j < length xs → slice_get xs j ≡ None → ⊥
            none_there [] j l e = omega (arith, l)
            none_there (x ∷ xs) zero l e = let o : Some x ≡ None = e in absurd cc
            none_there (x ∷ xs) (suc j) l e = none_there xs j (omega (arith, l)) e

    key : (i : ℕ) → (k : Vec ℕ) × (slice_get keys i ≡ Some k) × (i < length keys) → get_or (items_of keys) (at_node firsts i) [] ≡ get_or (items_of keys) i []
    key i t = (a.known t.0 (at_node firsts i) (a.listed i t.0 t.2 t.1)).1 ∙ sym (item-at keys i t.0 t.1)

    one : (i j : ℕ) → i < length keys → j < length keys → (k : Vec ℕ) × (slice_get keys i ≡ Some k) × (i < length keys) → (k : Vec ℕ) × (slice_get keys j ≡ Some k) × (j < length keys)
        → get_or (items_of keys) i [] ≡ get_or (items_of keys) j [] → at_node firsts i ≡ at_node firsts j
    one i j h g s t e =
        let same : s.0.items ≡ t.0.items = sym (item-at keys i s.0 s.1) ∙ e ∙ item-at keys j t.0 t.1 in
        let z : Some (at_node firsts i) ≡ Some (at_node firsts j) = sym (a.listed i s.0 h s.1) ∙ same-found entries s.0.items t.0.items same ∙ a.listed j t.0 g t.1 in cc
