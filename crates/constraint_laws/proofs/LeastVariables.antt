-- The variables that are equal to one are a list, of which one is the least.
use Rattle.std.proofs.Common.{◌≡◌, List, [], ◌∷◌, refl, sym, subst, ap, ◌∙◌, ◌⊎◌, inl, inr}
use Rattle.std.specs.Ordering.{ordering_reverse}
use Rattle.std.specs.declared.cmp.Ordering.{Ordering}
use Rattle.std.specs.declared.cmp.Ordering.TheVariants.{Less, Equal, Greater}
use Rattle.akl_terms.specs.declared.name.Var.{Var}
use Rattle.akl_terms.specs.Names.{var_cmp}
use Rattle.akl_terms.specs.Tree.{variable}
use Rattle.akl_terms.specs.Equal.{Equations, same, turned, joined}
use Rattle.akl_terms.specs.Equal.{Equal as EqualIn}
use Rattle.constraint_laws.specs.Oldest.{IsOldest}
use Rattle.constraint_laws.specs.Touched.{IsAmong}
use Rattle.constraint_laws.proofs.AliasLists.{HasAlias, AreAliases, alias_list}
use Rattle.constraint_laws.proofs.VariableOrder.{var_total, var_exact}

-- a variable is another one or comes before it
abbrev IsFirstOf : Var → Var → Type 0
IsFirstOf w y = (w ≡ y) ⊎ (var_cmp w y ≡ Less)

first_or : (x y : Var) → IsFirstOf x y ⊎ (var_cmp y x ≡ Less)
first_or x y = on (var_cmp x y) refl
  where
    on : (o : Ordering) → var_cmp x y ≡ o → IsFirstOf x y ⊎ (var_cmp y x ≡ Less)
    on Less e = inl (inr e)
    on Equal e = inl (inl (var_exact x y e))
    on Greater e = inr (var_total.antisymm y x ∙ ap ordering_reverse e)

first_along : (x y z : Var) → var_cmp x y ≡ Less → IsFirstOf y z → IsFirstOf x z
first_along x y z a (inl e) = inr (subst (λ (v : Var). var_cmp x v ≡ Less) e a)
first_along x y z a (inr b) = inr (var_total.trans x y z a b)

pub one_first : (x y : Var) → IsFirstOf x y → IsFirstOf y x → x ≡ y
one_first x y (inl e) b = e
one_first x y (inr a) (inl e) = sym e
one_first x y (inr a) (inr b) = let z : Less ≡ ordering_reverse Less = sym a ∙ var_total.antisymm x y ∙ ap ordering_reverse b in cc

-- the first of a list that has one
record IsLeast (xs : List Var) (w : Var) : Type 0 where
  among : IsAmong w xs
  first : (y : Var) → IsAmong y xs → IsFirstOf w y

least_of : (x : Var) (xs : List Var) → (w : Var) × IsLeast (x ∷ xs) w
least_of x [] = (x, record { among = inl refl; first = λ y m. elim m [ inl e ↦ inl (sym e) | inr z ↦ absurd z ] })
least_of x (z ∷ zs) = on (least_of z zs)
  where
    on : (w : Var) × IsLeast (z ∷ zs) w → (w : Var) × IsLeast (x ∷ z ∷ zs) w
    on (w, l) = elim (first_or x w) [
      | inl (inl e) ↦ (w, record { among = inr l.among; first = λ y m. elim m [ inl p ↦ inl (sym e ∙ sym p) | inr k ↦ l.first y k ] })
      | inl (inr a) ↦ (x, record { among = inl refl; first = λ y m. elim m [ inl p ↦ inl (sym p) | inr k ↦ first_along x w y a (l.first y k) ] })
      | inr b ↦ (w, record { among = inr l.among; first = λ y m. elim m [ inl p ↦ inr (subst (λ (v : Var). var_cmp w v ≡ Less) (sym p) b) | inr k ↦ l.first y k ] })
    ]

least_in : (xs : List Var) (x : Var) → IsAmong x xs → (w : Var) × IsLeast xs w
least_in [] x m = absurd m
least_in (y ∷ ys) x m = least_of y ys

pub oldest_of : (E : Equations) (x : Var) → (w : Var) × IsOldest E x w
oldest_of E x = (least.0, record { equal = alias least.0 (list.1.each least.0 least.1.among); oldest = λ y e. least.1.first y (list.1.all y (x, inl refl, e)) })
  where
    list : (xs : List Var) × AreAliases E (x ∷ []) xs
    list = alias_list E (x ∷ [])

    least : (w : Var) × IsLeast list.0 w
    least = least_in list.0 x (list.1.all x (x, inl refl, same))

    alias : (w : Var) → HasAlias E (x ∷ []) w → EqualIn E (variable x) (variable w)
    alias w h = elim h.1 [ inl e ↦ subst (λ (y : Var). EqualIn E (variable y) (variable w)) e h.2 | inr z ↦ absurd z ]

pub one_oldest : (E : Equations) (x w v : Var) → IsOldest E x w → IsOldest E x v → w ≡ v
one_oldest E x w v a b = one_first w v (a.oldest v b.equal) (b.oldest w a.equal)

pub oldest_with : (E : Equations) (x y w : Var) → EqualIn E (variable x) (variable y) → IsOldest E x w → IsOldest E y w
oldest_with E x y w e o = record { equal = joined (turned e) o.equal; oldest = λ z f. o.oldest z (joined e f) }
