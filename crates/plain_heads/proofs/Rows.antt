-- Pairs of neighbouring nodes.
use Rattle.std.proofs.Common.{◌≡◌, ℕ, zero, suc, ◌+◌, ◌-◌, ◌<◌, List, [], ◌∷◌, ◌++◌, refl, ap, ◌∙◌, ◌⊎◌, inl, inr, arith}
use Rattle.akl_terms.specs.declared.name.Name.{Name}
use Rattle.akl_terms.specs.declared.term.Node.{Node}
use Rattle.akl_terms.specs.declared.term.Term.TheVariants.{Mol}
use Rattle.akl_terms.specs.declared.term.Equation as code
use Rattle.akl_terms.specs.Equal.{IsTold}
use Rattle.akl_terms.specs.Tree.{Tree}
use Rattle.akl_terms.specs.Template.{tree}
use Rattle.rational_unify.specs.declared.meet.Pairs.{Pairs}
use Rattle.rational_unify.specs.Meeting.{argument_pair, argument_pairs}
use Rattle.rational_unify.specs.Solving.{equations_in}
use Rattle.rational_unify.proofs.Turns.{equations-either, equations-left, equations-right}
use Rattle.plain_heads.specs.Plain.{pairs_of}

abbrev pub pair_at : Name → ℕ → Name → ℕ → code.Equation
pair_at f i g j = record { left = Mol i f; right = Mol j g }

-- the pairs from one place on are those behind it and the one there
pub pairs_further : (f : Name) (i n : ℕ) (g : Name) (j m k : ℕ) → k < n → k < m
    → pairs_of f (i + k) (n - k) g (j + k) (m - k) ≡ pairs_of f (i + (k + 1)) (n - (k + 1)) g (j + (k + 1)) (m - (k + 1)) ++ pair_at f (i + k) g (j + k) ∷ []
pairs_further f i n g j m k l h = on (n - k) (m - k) (n - (k + 1)) (m - (k + 1)) (i + (k + 1)) (j + (k + 1)) (omega arith) (omega arith) (omega arith) (omega arith)
  where
    on : (a b c d p q : ℕ) → a ≡ suc c → b ≡ suc d → p ≡ suc (i + k) → q ≡ suc (j + k) → pairs_of f (i + k) a g (j + k) b ≡ pairs_of f p c g q d ++ pair_at f (i + k) g (j + k) ∷ []
    on a b c d p q e r s t = rw (e, r, s, t) refl

pub pairs_none : (f : Name) (i n : ℕ) (g : Name) (j m : ℕ) → (n ≡ 0) ⊎ (m ≡ 0) → pairs_of f i n g j m ≡ []
pairs_none f i zero g j m h = refl
pairs_none f i (suc n) g j zero h = refl
pairs_none f i (suc n) g j (suc m) h = absurd (elim h [ inl e ↦ let x : suc n ≡ 0 = e in omega arith | inr e ↦ let x : suc m ≡ 0 = e in omega arith ])

module _ (nodes : List Node) (f g : Name) where
  -- two trees are those of a pair
  record IsPair (i j n : ℕ) (s t : Tree) : Type 0 where
    at : ℕ
    within : at < n
    left : s ≡ tree nodes (Mol (i + at) f)
    right : t ≡ tree nodes (Mol (j + at) g)

  further : (i j n : ℕ) (s t : Tree) → IsPair (suc i) (suc j) n s t → IsPair i j (suc n) s t
  further i j n s t h = record {
    at = suc h.at;
    within = let w : h.at < n = h.within in omega arith;
    left = h.left ∙ ap (λ (k : ℕ). tree nodes (Mol k f)) (omega arith);
    right = h.right ∙ ap (λ (k : ℕ). tree nodes (Mol k g)) (omega arith);
  }

  longer : (i j n : ℕ) (s t : Tree) → IsPair i j n s t → IsPair i j (suc n) s t
  longer i j n s t h = record { at = h.at; within = let w : h.at < n = h.within in omega arith; left = h.left; right = h.right }

  told_pair : (i j n : ℕ) (s t : Tree) → IsTold (equations_in nodes (pairs_of f i n g j n)) s t → IsPair i j n s t
  told_pair i j zero s t m = absurd m
  told_pair i j (suc n) s t m = elim (equations-either nodes (pairs_of f (suc i) n g (suc j) n) (pair_at f i g j ∷ []) s t m) [
    | inl x ↦ further i j n s t (told_pair (suc i) (suc j) n s t x)
    | inr y ↦ one y
  ]
    where
      one : IsTold (equations_in nodes (pair_at f i g j ∷ [])) s t → IsPair i j (suc n) s t
      one (inl e) = record { at = 0; within = omega arith; left = e.0 ∙ ap (λ (k : ℕ). tree nodes (Mol k f)) (omega arith); right = e.1 ∙ ap (λ (k : ℕ). tree nodes (Mol k g)) (omega arith) }
      one (inr e) = absurd e

  pair_told : (i j n : ℕ) (s t : Tree) → IsPair i j n s t → IsTold (equations_in nodes (pairs_of f i n g j n)) s t
  pair_told i j zero s t h = absurd (let w : h.at < 0 = h.within in omega arith)
  pair_told i j (suc n) s t h = on h.at h.within h.left h.right (pair_told (suc i) (suc j) n s t)
    where
      on : (k : ℕ) → k < suc n → s ≡ tree nodes (Mol (i + k) f) → t ≡ tree nodes (Mol (j + k) g) → (IsPair (suc i) (suc j) n s t → IsTold (equations_in nodes (pairs_of f (suc i) n g (suc j) n)) s t)
          → IsTold (equations_in nodes (pairs_of f i (suc n) g j (suc n))) s t
      on zero l p q r = equations-right nodes (pairs_of f (suc i) n g (suc j) n) (pair_at f i g j ∷ []) s t (inl (p ∙ ap (λ (k : ℕ). tree nodes (Mol k f)) (omega arith), q ∙ ap (λ (k : ℕ). tree nodes (Mol k g)) (omega arith)))
      on (suc k) l p q r = equations-left nodes (pairs_of f (suc i) n g (suc j) n) (pair_at f i g j ∷ []) s t
          (r (record { at = k; within = omega arith; left = p ∙ ap (λ (k : ℕ). tree nodes (Mol k f)) (omega arith); right = q ∙ ap (λ (k : ℕ). tree nodes (Mol k g)) (omega arith) }))

  abbrev args : ℕ → ℕ → ℕ → ℕ → Pairs
  args c count i j = record { symbol = c; count = count; left = i; right = j; left_frame = f; right_frame = g }

  told_argument : (c count i j n : ℕ) (s t : Tree) → IsTold (equations_in nodes (argument_pairs (args c count i j) n)) s t → IsPair i j n s t
  told_argument c count i j zero s t m = absurd m
  told_argument c count i j (suc n) s t m = elim (equations-either nodes (argument_pairs (args c count i j) n) (argument_pair (args c count i j) n ∷ []) s t m) [
    | inl x ↦ longer i j n s t (told_argument c count i j n s t x)
    | inr y ↦ one y
  ]
    where
      one : IsTold (equations_in nodes (argument_pair (args c count i j) n ∷ [])) s t → IsPair i j (suc n) s t
      one (inl e) = record { at = n; within = omega arith; left = e.0; right = e.1 }
      one (inr e) = absurd e

  argument_told : (c count i j n : ℕ) (s t : Tree) → IsPair i j n s t → IsTold (equations_in nodes (argument_pairs (args c count i j) n)) s t
  argument_told c count i j zero s t h = absurd (let w : h.at < 0 = h.within in omega arith)
  argument_told c count i j (suc n) s t h = on (argument_told c count i j n s t) (last h.at n h.within)
    where
      last : (k n : ℕ) → k < suc n → (k < n) ⊎ (k ≡ n)
      last zero zero l = inr refl
      last zero (suc n) l = inl (omega arith)
      last (suc k) zero l = absurd (omega arith)
      last (suc k) (suc n) l = elim (last k n (omega arith)) [ inl x ↦ inl (let u : k < n = x in omega arith) | inr x ↦ inr (ap suc x) ]

      on : (IsPair i j n s t → IsTold (equations_in nodes (argument_pairs (args c count i j) n)) s t) → (h.at < n) ⊎ (h.at ≡ n) → IsTold (equations_in nodes (argument_pairs (args c count i j) (suc n))) s t
      on r (inl l) = equations-left nodes (argument_pairs (args c count i j) n) (argument_pair (args c count i j) n ∷ []) s t
          (r (record { at = h.at; within = l; left = h.left; right = h.right }))
      on r (inr e) = equations-right nodes (argument_pairs (args c count i j) n) (argument_pair (args c count i j) n ∷ []) s t
          (inl (h.left ∙ ap (λ (k : ℕ). tree nodes (Mol (i + k) f)) e, h.right ∙ ap (λ (k : ℕ). tree nodes (Mol (j + k) g)) e))

  -- behind others they wait in either order
  pub arguments_pairs : (rest : List code.Equation) (c n i j : ℕ) (s t : Tree) → IsTold (equations_in nodes (rest ++ argument_pairs (args c n i j) n)) s t → IsTold (equations_in nodes (rest ++ pairs_of f i n g j n)) s t
  arguments_pairs rest c n i j s t m = elim (equations-either nodes rest (argument_pairs (args c n i j) n) s t m) [
    | inl x ↦ equations-left nodes rest (pairs_of f i n g j n) s t x
    | inr x ↦ equations-right nodes rest (pairs_of f i n g j n) s t (pair_told i j n s t (told_argument c n i j n s t x))
  ]

  pub pairs_arguments : (rest : List code.Equation) (c n i j : ℕ) (s t : Tree) → IsTold (equations_in nodes (rest ++ pairs_of f i n g j n)) s t → IsTold (equations_in nodes (rest ++ argument_pairs (args c n i j) n)) s t
  pairs_arguments rest c n i j s t m = elim (equations-either nodes rest (pairs_of f i n g j n) s t m) [
    | inl x ↦ equations-left nodes rest (argument_pairs (args c n i j) n) s t x
    | inr x ↦ equations-right nodes rest (argument_pairs (args c n i j) n) s t (argument_told c n i j n s t (told_pair i j n s t x))
  ]
