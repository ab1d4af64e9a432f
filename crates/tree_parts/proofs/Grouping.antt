-- Places by numbers, and groups of places.
use Rattle.std.proofs.Common.{◌≡◌, ◌≢◌, ℕ, ◌+◌, ◌<◌, List, [], ◌∷◌, ◌++◌, length, map, sym, ◌∙◌, ap, subst, inl, inr, arith}
use Rattle.std.specs.Prelude.{◌⊎◌, get_or}
use Rattle.std.specs.Global.{Vec}
use Rattle.std.proofs.Math.ListN.{set}
use Rattle.std.proofs.lemmas.List.{length-map, map-set, get_or-map, get_or-set_same, get_or-set_other}
use Rattle.tree_parts.specs.Firsts.{at_node, AreFirsts}
use Rattle.tree_parts.specs.Lists.{Has, list_at, ArePlaces, AreGroups}
use Rattle.tree_parts.proofs.Rounds.{either_nat}
use Rattle.tree_parts.proofs.Having.{has-left, has-last, has-either, less-cases}

abbrev pub items_of : List (Vec ℕ) → List (List ℕ)
items_of lists = map (λ v. v.items) lists

items-set : (ls : List (Vec ℕ)) (c : ℕ) (v : Vec ℕ) → items_of (set ls c v) ≡ set (items_of ls) c v.items
items-set ls c v = map-set (λ v. v.items) ls c v

pub list-set-same : (ls : List (Vec ℕ)) (c : ℕ) (v : Vec ℕ) → c < length ls → list_at (items_of (set ls c v)) c ≡ v.items
list-set-same ls c v h = ap (λ (ks : List (List ℕ)). list_at ks c) (items-set ls c v) ∙ get_or-set_same (items_of ls) c v.items [] (let e : length (items_of ls) ≡ length ls = length-map ls (λ v. v.items) in omega (arith, h, e))

pub list-set-other : (ls : List (Vec ℕ)) (c g : ℕ) (v : Vec ℕ) → g ≢ c → list_at (items_of (set ls c v)) g ≡ list_at (items_of ls) g
list-set-other ls c g v d = ap (λ (ks : List (List ℕ)). list_at ks g) (items-set ls c v) ∙ get_or-set_other (items_of ls) c g v.items [] d

pub list-read : (ls : List (Vec ℕ)) (c : ℕ) (v : Vec ℕ) → c < length ls → v ≡ get_or ls c v → v.items ≡ list_at (items_of ls) c
list-read ls c v h e = ap (λ (w : Vec ℕ). w.items) e ∙ sym (get_or-map (λ (w : Vec ℕ). w.items) ls c v [] h)

-- one place more
pub places-more : (numbers : List ℕ) (ls ms : List (List ℕ)) (n c : ℕ) → at_node numbers n ≡ c → list_at ms c ≡ list_at ls c ++ n ∷ [] → ((g : ℕ) → g ≢ c → list_at ms g ≡ list_at ls g) → ArePlaces numbers ls n → ArePlaces numbers ms (n + 1)
places-more numbers ls ms n c is same others a = record {
  of = λ g t h. of g t (either_nat g c) h;
  there = λ t h. there t (less-cases t n h) (either_nat (at_node numbers t) c);
}
  where
    wider : (g t : ℕ) → (t < n) × (at_node numbers t ≡ g) → (t < n + 1) × (at_node numbers t ≡ g)
    wider g t r = let l : t < n = r.0 in (omega (arith, l), r.1)

    last : (t g : ℕ) → g ≡ c → n ≡ t → (t < n + 1) × (at_node numbers t ≡ g)
    last t g e o = (omega (arith, o), ap (at_node numbers) (sym o) ∙ is ∙ sym e)

    of : (g t : ℕ) → (g ≡ c) ⊎ (g ≢ c) → Has (list_at ms g) t → (t < n + 1) × (at_node numbers t ≡ g)
    of g t (inr d) h = wider g t (a.of g t (subst (λ (xs : List ℕ). Has xs t) (others g d) h))
    of g t (inl e) h =
        elim (has-either (list_at ls c) (n ∷ []) t (subst (λ (xs : List ℕ). Has xs t) (ap (list_at ms) e ∙ same) h)) [
          | inl k ↦ wider g t (a.of g t (subst (λ (xs : List ℕ). Has xs t) (ap (list_at ls) (sym e)) k))
          | inr k ↦ elim k [ inl o ↦ last t g e o | inr z ↦ absurd z ]
        ]

    there : (t : ℕ) → (t < n) ⊎ (t ≡ n) → (at_node numbers t ≡ c) ⊎ (at_node numbers t ≢ c) → Has (list_at ms (at_node numbers t)) t
    there t (inl l) (inr d) = subst (λ (xs : List ℕ). Has xs t) (sym (others (at_node numbers t) d)) (a.there t l)
    there t (inl l) (inl e) = subst (λ (xs : List ℕ). Has xs t) (sym (ap (list_at ms) e ∙ same)) (has-left (list_at ls c) (n ∷ []) t (subst (λ (g : ℕ). Has (list_at ls g) t) e (a.there t l)))
    there t (inr o) e =
        let z : at_node numbers t ≡ c = ap (at_node numbers) o ∙ is in
        subst (λ (xs : List ℕ). Has xs t) (sym (ap (list_at ms) z ∙ same)) (subst (λ (k : ℕ). Has (list_at ls c ++ n ∷ []) k) (sym o) (has-last (list_at ls c) n))

pub are-groups : (keys firsts : List ℕ) (groups : List (List ℕ)) → AreFirsts (map (λ (k : ℕ). k ∷ []) keys) firsts → ArePlaces firsts groups (length firsts) → AreGroups keys groups
are-groups keys firsts groups f p = record {
  within = λ g t h. within g t h;
  whole = λ g t u h l e.
      let same : at_node firsts t ≡ at_node firsts u = f.one t u (long t (within g t h)) (long u l) (single t (within g t h) ∙ ap (λ (k : ℕ). k ∷ []) e ∙ sym (single u l)) in
      let is : at_node firsts u ≡ g = sym same ∙ (p.of g t h).1 in
      subst (λ (k : ℕ). Has (list_at groups k) u) is (p.there u (sized u l));
}
  where
    singles : List (List ℕ)
    singles = map (λ (k : ℕ). k ∷ []) keys

    size : length singles ≡ length keys
    size = length-map keys (λ (k : ℕ). k ∷ [])

    long : (t : ℕ) → t < length keys → t < length singles
    long t h = omega (arith, h, size)

    sized : (t : ℕ) → t < length keys → t < length firsts
    sized t h = let s : length firsts ≡ length singles = f.size in omega (arith, h, s, size)

    within : (g t : ℕ) → Has (list_at groups g) t → t < length keys
    within g t h = let l : t < length firsts = (p.of g t h).0 in let s : length firsts ≡ length singles = f.size in omega (arith, l, s, size)

    single : (t : ℕ) → t < length keys → get_or singles t [] ≡ at_node keys t ∷ []
    single t h = get_or-map (λ (k : ℕ). k ∷ []) keys t 0 [] h
