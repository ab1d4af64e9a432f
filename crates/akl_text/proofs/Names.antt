-- A name's first letter, and what stands behind it.
use Rattle.std.proofs.Common.{◌≡◌, ℕ, Bool, true, false, List, [], ◌∷◌, refl, sym, ◌∙◌}
use Rattle.std.specs.Prelude.{not, ◌||◌, codes, bytes_eq}
use Rattle.std.specs.List.{list_all}
use Rattle.std.proofs.lemmas.Bool.{and_parts}
use Rattle.std.proofs.lemmas.Slice.Eq.{bytes_eq-Decides}
use Rattle.akl_terms.specs.Words.{is_lower, is_word, is_lower_word, is_operator_word, is_plain_name}

pub same_bytes : (v u : List ℕ) → bytes_eq v u ≡ true → v ≡ u
same_bytes v u e = (bytes_eq-Decides v u).0 e

pub other_bytes : (v u : List ℕ) → bytes_eq v u ≡ false → v ≡ u → ⊥
other_bytes v u e q = absurd (let f = sym ((bytes_eq-Decides v u).1 q) ∙ e in cc)

differing : (v u : List ℕ) (x : Bool) → bytes_eq v u ≡ x → (v ≡ u → ⊥) → bytes_eq v u ≡ false
differing v u true e f = absurd (f (same_bytes v u e))
differing v u false e f = e

pub differ : (v u : List ℕ) → (v ≡ u → ⊥) → bytes_eq v u ≡ false
differ v u f = differing v u (bytes_eq v u) refl f

neither : (x y : Bool) → not (x || y) ≡ true → (x ≡ false) × (y ≡ false)
neither true y e = absurd cc
neither false true e = absurd cc
neither false false e = (refl, refl)

pub record NameParts (w : List ℕ) : Type 0 where
  pub first : ℕ
  pub more : List ℕ
  pub is : w ≡ first ∷ more
  pub lower : is_lower first ≡ true
  pub words : list_all is_word more ≡ true
  pub not_is : w ≡ codes "is" → ⊥
  pub not_mod : w ≡ codes "mod" → ⊥

pub name_parts : (w : List ℕ) → is_plain_name w ≡ true → NameParts w
name_parts [] e = absurd cc
name_parts (b ∷ w) e =
    let h = and_parts (is_lower_word (b ∷ w)) (not (is_operator_word (b ∷ w))) e in
    let k = and_parts (is_lower b) (list_all is_word w) h.0 in
    let n = neither (bytes_eq (b ∷ w) (codes "is")) (bytes_eq (b ∷ w) (codes "mod")) h.1 in
    record { first = b; more = w; is = refl; lower = k.0; words = k.1; not_is = other_bytes (b ∷ w) (codes "is") n.0; not_mod = other_bytes (b ∷ w) (codes "mod") n.1 }

pub plain_name : (b : ℕ) (w : List ℕ) → is_lower b ≡ true → list_all is_word w ≡ true → (b ∷ w ≡ codes "is" → ⊥) → (b ∷ w ≡ codes "mod" → ⊥) → is_plain_name (b ∷ w) ≡ true
plain_name b w e f g h = rw (e, f, differ (b ∷ w) (codes "is") g, differ (b ∷ w) (codes "mod") h) refl
