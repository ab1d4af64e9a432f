-- What is bound with a variable that is equal to it, and all variables that are equal to one of a list.
use Rattle.std.proofs.Common.{◌≡◌, List, [], ◌∷◌, refl, sym, subst, ◌⊎◌, inl, inr}
use Rattle.akl_terms.specs.declared.name.Var.{Var}
use Rattle.akl_terms.specs.Tree.{Tree, variable, integer, port, symbol}
use Rattle.akl_terms.specs.Equal.{Equations, Equal, same, turned, joined, Follows}
use Rattle.akl_terms.proofs.EqualLaws.{Equal-follows}
use Rattle.constraint_laws.specs.Bound.{IsNewlyBound}
use Rattle.constraint_laws.specs.Touched.{IsAmong}
use Rattle.constraint_laws.proofs.SameTerms.{Either}
use Rattle.constraint_laws.proofs.Closure.{IsTermIn, terms_in}
use Rattle.constraint_laws.proofs.Decided.{both_occur, equal_or}

-- what is bound or made equal is so with each variable that is equal to it
pub newly_bound_with : (E G : Equations) → Follows E G → (x y : Var) → Equal E (variable y) (variable x) → IsNewlyBound E G x → IsNewlyBound E G y
newly_bound_with E G f x y e b = record {
  unstructured = λ s. b.unstructured (s.0, s.1, joined (turned e) s.2, s.3);
  told = elim b.told [
    | inl s ↦ inl (s.0, s.1, joined (Equal-follows f e) s.2, s.3)
    | inr z ↦ inr (z.0, joined (Equal-follows f e) z.1, λ q. z.2 (joined (turned e) q))
  ];
}

one_variable : (x y : Var) → variable x ≡ variable y → x ≡ y
one_variable x y q = cc

-- a variable is equal to one of a list
abbrev pub HasAlias : Equations → List Var → Var → Type 0
HasAlias E kept x = (y : Var) × IsAmong y kept × Equal E (variable y) (variable x)

alias_or : (E : Equations) (kept : List Var) (x : Var) → Either (HasAlias E kept x)
alias_or E [] x = inr (λ h. h.1)
alias_or E (y ∷ ys) x = on (equal_or E (variable y) (variable x)) (alias_or E ys x)
  where
    on : Either (Equal E (variable y) (variable x)) → Either (HasAlias E ys x) → Either (HasAlias E (y ∷ ys) x)
    on (inl e) r = inl (y, inl refl, e)
    on (inr n) (inl h) = inl (h.0, inr h.1, h.2)
    on (inr n) (inr m) = inr (λ h. elim h.1 [ inl q ↦ n (subst (λ (z : Var). Equal E (variable z) (variable x)) q h.2) | inr k ↦ m (h.0, k, h.2) ])

-- all that are equal to one of a list
pub record AreAliases (E : Equations) (kept xs : List Var) : Type 0 where
  pub each : (x : Var) → IsAmong x xs → HasAlias E kept x
  pub all : (x : Var) → HasAlias E kept x → IsAmong x xs

-- each of them is of the list or occurs
module _ (E : Equations) (kept : List Var) where
  record AreListed (ts : List Tree) (xs : List Var) : Type 0 where
    pub each : (x : Var) → IsAmong x xs → HasAlias E kept x
    pub all : (x : Var) → HasAlias E kept x → IsAmong x kept ⊎ IsTermIn (variable x) ts → IsAmong x xs

  aliases_of : (ts : List Tree) → (xs : List Var) × AreListed ts xs
  aliases_of [] = (kept, record { each = λ x k. (x, k, same); all = λ x h k. elim k [ inl i ↦ i | inr m ↦ absurd m ] })
  aliases_of (u ∷ ts) = on u (aliases_of ts)
    where
      others : (u : Tree) → ((x : Var) → variable x ≡ u → HasAlias E kept x → ⊥) → (xs : List Var) × AreListed ts xs → (xs : List Var) × AreListed (u ∷ ts) xs
      others u n (xs, a) = (xs, record { each = a.each; all = λ x h k. a.all x h (elim k [ inl i ↦ inl i | inr (inl q) ↦ absurd (n x q h) | inr (inr m) ↦ inr m ]) })

      on : (u : Tree) → (xs : List Var) × AreListed ts xs → (xs : List Var) × AreListed (u ∷ ts) xs
      on (integer z) r = others (integer z) (λ x q h. cc) r
      on (port z) r = others (port z) (λ x q h. cc) r
      on (symbol f us) r = others (symbol f us) (λ x q h. cc) r
      on (variable z) (xs, a) = elim (alias_or E kept z) [
        | inl h ↦ (
          z ∷ xs,
          record {
            each = λ x k. elim k [ inl q ↦ subst (HasAlias E kept) (sym q) h | inr i ↦ a.each x i ];
            all = λ x g k. elim k [ inl i ↦ inr (a.all x g (inl i)) | inr (inl q) ↦ inl (one_variable x z q) | inr (inr m) ↦ inr (a.all x g (inr m)) ];
          },
        )
        | inr n ↦ others (variable z) (λ x q h. n (subst (HasAlias E kept) (one_variable x z q) h)) (xs, a)
      ]

  pub alias_list : (xs : List Var) × AreAliases E kept xs
  alias_list =
      let w : (xs : List Var) × AreListed (terms_in E) xs = aliases_of (terms_in E) in (
        w.0,
        record {
          each = w.1.each;
          all = λ x h. w.1.all x h (elim (both_occur E (variable h.0) (variable x) h.2) [ inl q ↦ inl (subst (λ (z : Var). IsAmong z kept) (one_variable h.0 x q) h.1) | inr m ↦ inr m.1 ]);
        },
      )
