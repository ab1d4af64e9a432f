-- What is bound where equations are added twice.
use Rattle.std.proofs.Common.{List, ◌++◌, ◌⊎◌, inl, inr}
use Rattle.akl_terms.specs.declared.name.Var.{Var}
use Rattle.akl_terms.specs.Tree.{Tree, variable}
use Rattle.akl_terms.specs.Equal.{Equations, Equal, told, IsConsistent, IsStructured}
use Rattle.akl_terms.proofs.EqualLaws.{EqualBy-follows, IsConsistent-follows}
use Rattle.constraint_laws.specs.Bound.{IsNewlyBound}
use Rattle.constraint_laws.specs.StandingGrows.{AreToldIn}
use Rattle.constraint_laws.specs.Touched.{IsAmong}
use Rattle.constraint_laws.proofs.Decided.{equal_or, structured_or}
use Rattle.local_store.specs.Bound.{AreNewlyBound}
use Rattle.local_store.proofs.Among.{among-either, among-left, among-right}

equal_grows : (E F : Equations) → AreToldIn E F → (s t : Tree) → Equal E s t → Equal F s t
equal_grows E F h s t e = EqualBy-follows (λ u v m. told (h.each u v m)) e

structured_grows : (E F : Equations) → AreToldIn E F → (x : Var) → IsStructured E x → IsStructured F x
structured_grows E F h x s = (s.0, s.1, equal_grows E F h (variable x) s.0 s.2, s.3)

module _ (E F G : Equations) (first : AreToldIn E F) (second : AreToldIn F G) (good : IsConsistent G) (xs ys : List Var) (a : AreNewlyBound E E F xs) (b : AreNewlyBound F F G ys) where
  good_first : IsConsistent F
  good_first = IsConsistent-follows (record { each = λ m. told (second.each _ _ m) }) good

  first_bound : (x : Var) → IsNewlyBound E F x → IsNewlyBound E G x
  first_bound x n = record {
    unstructured = n.unstructured;
    told = elim n.told [ inl s ↦ inl (structured_grows F G second x s) | inr (z, e, m) ↦ inr (z, equal_grows F G second (variable x) (variable z) e, m) ];
  }

  second_bound : (x : Var) → IsNewlyBound F G x → IsNewlyBound E G x
  second_bound x n = record {
    unstructured = λ s. n.unstructured (structured_grows E F first x s);
    told = elim n.told [ inl s ↦ inl s | inr (z, e, m) ↦ inr (z, e, λ q. m (equal_grows E F first (variable x) (variable z) q)) ];
  }

  -- to each variable that is newly bound one of those that are listed is equal
  module _ (x : Var) (n : IsNewlyBound E G x) where
    abbrev Listed : Type 0
    Listed = (y : Var) × IsAmong y (xs ++ ys) × Equal E (variable x) (variable y)

    by_first : (IsStructured F x ⊎ ((y : Var) × Equal F (variable x) (variable y) × (Equal E (variable x) (variable y) → ⊥))) → Listed
    by_first t = let w : (y : Var) × IsAmong y xs × Equal E (variable x) (variable y) = a.every good_first x (record { unstructured = n.unstructured; told = t }) in (w.0, among-left xs ys w.0 w.1, w.2)

    by_second : IsNewlyBound F G x → Listed
    by_second k =
        let w : (y : Var) × IsAmong y ys × Equal F (variable x) (variable y) = b.every good x k in
        elim (equal_or E (variable x) (variable w.0)) [ inl e ↦ (w.0, among-right xs ys w.0 w.1, e) | inr m ↦ by_first (inr (w.0, w.2, m)) ]

    listed : Listed
    listed = elim (structured_or F x) [
      | inl s ↦ by_first (inl s)
      | inr u ↦ elim n.told [
        | inl s ↦ by_second (record { unstructured = u; told = inl s })
        | inr (z, e, m) ↦ elim (equal_or F (variable x) (variable z)) [
          | inl q ↦ by_first (inr (z, q, m))
          | inr q ↦ by_second (record { unstructured = u; told = inr (z, e, q) })
        ]
      ]
    ]

  pub bound_then : AreNewlyBound E E G (xs ++ ys)
  bound_then = record {
    consistent = λ y m. good;
    each = λ y m. elim (among-either xs ys y m) [ inl k ↦ first_bound y (a.each y k) | inr k ↦ second_bound y (b.each y k) ];
    every = λ c x n. listed x n;
  }
