-- Equations with one more, of a variable that they leave unstructured with an integer.
use Rattle.std.proofs.Common.{◌≡◌, ℤ, List, Some, refl, subst, ◌⊎◌, inl, inr}
use Rattle.akl_terms.specs.declared.name.Name.{Name}
use Rattle.akl_terms.specs.declared.name.Var.{Var}
use Rattle.akl_terms.specs.Tree.{Tree, variable, integer, Head, integer_head, head_of}
use Rattle.akl_terms.specs.Equal.{Equations, IsTold, Equal, told, same, turned, joined, inside, IsConsistent, IsStructured}
use Rattle.akl_terms.specs.Touching.{IsUnbound, Touches}
use Rattle.akl_terms.proofs.EqualLaws.{EqualBy-follows}

-- what the first equations tell, and one more
pub record TellsAlso (W B : Equations) (on : Var) (z : ℤ) : Type 0 where
  pub keeps : (s t : Tree) → IsTold W s t → IsTold B s t
  pub binds : IsTold B (variable on) (integer z)
  pub either : (s t : Tree) → IsTold B s t → IsTold W s t ⊎ ((s ≡ variable on) × (t ≡ integer z))

module _ (W B : Equations) (on : Var) (z : ℤ) (more : TellsAlso W B on z) (free : IsStructured W on → ⊥) where
  -- what is equal to the variable or to the integer
  abbrev pub IsReached : Tree → Type 0
  IsReached t = Equal W t (variable on) ⊎ Equal W t (integer z)

  abbrev pub AreEither : Tree → Tree → Type 0
  AreEither s t = Equal W s t ⊎ (IsReached s × IsReached t)

  reached_along : (s t : Tree) → Equal W s t → IsReached t → IsReached s
  reached_along s t e (inl k) = inl (joined e k)
  reached_along s t e (inr k) = inr (joined e k)

  headed : (t : Tree) (h : Head) → head_of t ≡ Some h → IsReached t → Equal W t (integer z)
  headed t h e (inl k) = absurd (free (t, h, turned k, e))
  headed t h e (inr k) = k

  both_headed : (s t : Tree) (g h : Head) → head_of s ≡ Some g → head_of t ≡ Some h → AreEither s t → Equal W s t
  both_headed s t g h p q (inl e) = e
  both_headed s t g h p q (inr r) = joined (headed s g p r.0) (turned (headed t h q r.1))

  along : (s t u : Tree) → AreEither s t → AreEither t u → AreEither s u
  along s t u (inl e) (inl f) = inl (joined e f)
  along s t u (inl e) (inr f) = inr (reached_along s t e f.0, f.1)
  along s t u (inr e) (inl f) = inr (e.0, reached_along u t (turned f) e.1)
  along s t u (inr e) (inr f) = inr (e.0, f.1)

  -- what is equal now was equal before, or is reached
  pub equal_before : {s t : Tree} → Equal B s t → AreEither s t
  equal_before (told {s = s} {t = t} m) = elim (more.either s t m) [
    | inl x ↦ inl (told x)
    | inr x ↦ inr (inl (subst (λ (u : Tree). Equal W s u) x.0 same), inr (subst (λ (u : Tree). Equal W t u) x.1 same))
  ]
  equal_before same = inl same
  equal_before (turned e) = elim (equal_before e) [ inl x ↦ inl (turned x) | inr x ↦ inr (x.1, x.0) ]
  equal_before (joined {s = s} {t = t} {u = u} e f) = along s t u (equal_before e) (equal_before f)
  equal_before (inside {s = s} {t = t} {h = h} at e p q i j) = inl (inside at (both_headed s t h h p q (equal_before e)) p q i j)

  pub equal_now : {s t : Tree} → Equal W s t → Equal B s t
  equal_now e = EqualBy-follows (λ a b m. told (more.keeps a b m)) e

  pub still_consistent : IsConsistent W → IsConsistent B
  still_consistent c = record { heads = λ {s} {t} {g} {h} e p q. c.heads (both_headed s t g h p q (equal_before e)) p q }

  module _ (inner : List Name) (E : Equations) where
    -- what is from outside and equal to the variable is touched now
    pub equal_touched : (x : Var) → IsUnbound inner E x → Equal W (variable x) (variable on) → Touches inner E B x
    equal_touched x u e = record { unbound = u; told = inl (integer z, integer_head z, joined (equal_now e) (told more.binds), refl) }

    -- what was touched is touched now
    pub touched_now : (x : Var) → Touches inner E W x → Touches inner E B x
    touched_now x t = record {
      unbound = t.unbound;
      told = elim t.told [
        | inl k ↦ inl (k.0, k.1, equal_now k.2, k.3)
        | inr k ↦ inr (k.0, record { other = k.1.other; equal = equal_now k.1.equal; apart = k.1.apart })
      ];
    }

    -- what is touched now was touched, or is equal to the variable
    pub touched_before : (x : Var) → Touches inner E B x → Touches inner E W x ⊎ (IsUnbound inner E x × Equal W (variable x) (variable on))
    touched_before x t = elim t.told [
      | inl k ↦ elim (equal_before k.2) [ inl e ↦ inl (record { unbound = t.unbound; told = inl (k.0, k.1, e, k.3) }) | inr r ↦ reached r.0 ]
      | inr k ↦ elim (equal_before k.1.equal) [
        | inl e ↦ inl (record { unbound = t.unbound; told = inr (k.0, record { other = k.1.other; equal = e; apart = k.1.apart }) })
        | inr r ↦ reached r.0
      ]
    ]
      where
        reached : IsReached (variable x) → Touches inner E W x ⊎ (IsUnbound inner E x × Equal W (variable x) (variable on))
        reached (inl e) = inr (t.unbound, e)
        reached (inr e) = inl (record { unbound = t.unbound; told = inl (integer z, integer_head z, e, refl) })
