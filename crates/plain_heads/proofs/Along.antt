-- Rows of terms, met pair after pair.
use Rattle.std.proofs.Common.{◌≡◌, ℕ, zero, suc, ◌+◌, ◌-◌, ◌<◌, ◌≤◌, min, inl, inr, List, [], ◌∷◌, ◌++◌, sym, ap, subst, ◌∙◌, ◌⊎◌, arith, append-nil, append_assoc}
use Rattle.akl_terms.specs.declared.name.Name.{Name}
use Rattle.akl_terms.specs.declared.name.Var.{Var}
use Rattle.akl_terms.specs.declared.term.Node.{Node}
use Rattle.akl_terms.specs.declared.term.Term.{Term}
use Rattle.akl_terms.specs.declared.term.Equation as code
use Rattle.plain_heads.specs.declared.meeting.Turn.{Turn}
use Rattle.plain_heads.specs.Plain.{pairs_of, Goes, HaveClash, Turns}
use Rattle.plain_heads.proofs.Rows.{pair_at, pairs_further, pairs_none}

-- from bindings to others, pairs of two rows are done with up to a place
abbrev pub Along : List Node → List (Var × Term) → Name → ℕ → ℕ → Name → ℕ → ℕ → List (Var × Term) → List (Var × Term) → ℕ → Type 0
Along nodes known f i n g j m old now k = (es rest : List code.Equation) → Goes nodes known es old (rest ++ pairs_of f i n g j m) → Goes nodes known es now (rest ++ pairs_of f (i + k) (n - k) g (j + k) (m - k))

module _ (nodes : List Node) (known : List (Var × Term)) (f : Name) (i n : ℕ) (g : Name) (j m : ℕ) where
  pub along_first : (old : List (Var × Term)) → Along nodes known f i n g j m old old 0
  along_first old = λ es rest h. subst (λ (l : List code.Equation). Goes nodes known es old (rest ++ l)) same h
    where
      same : pairs_of f i n g j m ≡ pairs_of f (i + 0) (n - 0) g (j + 0) (m - 0)
      same =
          let a : i ≡ i + 0 = omega arith in
          let b : n ≡ n - 0 = omega arith in
          let c : j ≡ j + 0 = omega arith in
          let d : m ≡ m - 0 = omega arith in
          λ q. pairs_of f (a q) (b q) g (c q) (d q)

  module _ (k : ℕ) (l : k < n) (r : k < m) (old now : List (Var × Term)) (h : Along nodes known f i n g j m old now k) where
    split : (rest : List code.Equation) → rest ++ pairs_of f (i + k) (n - k) g (j + k) (m - k) ≡ (rest ++ pairs_of f (i + (k + 1)) (n - (k + 1)) g (j + (k + 1)) (m - (k + 1))) ++ pair_at f (i + k) g (j + k) ∷ []
    split rest = ap (λ (x : List code.Equation). rest ++ x) (pairs_further f i n g j m k l r)
        ∙ sym (append_assoc rest (pairs_of f (i + (k + 1)) (n - (k + 1)) g (j + (k + 1)) (m - (k + 1))) (pair_at f (i + k) g (j + k) ∷ []))

    pub along_further : (frame : Name) (new : List (Var × Term)) → Turns nodes known frame (pair_at f (i + k) g (j + k) ∷ []) now new Turn.Taken → Along nodes known f i n g j m old new (k + 1)
    along_further frame new t = λ es rest x. t.1 es (rest ++ pairs_of f (i + (k + 1)) (n - (k + 1)) g (j + (k + 1)) (m - (k + 1))) (subst (Goes nodes known es now) (split rest) (h es rest x))

    pub along_clashes : (frame : Name) (new : List (Var × Term)) → Turns nodes known frame (pair_at f (i + k) g (j + k) ∷ []) now new Turn.Clashes → (es rest : List code.Equation)
        → Goes nodes known es old (rest ++ pairs_of f i n g j m) → HaveClash nodes known es
    along_clashes frame new t = λ es rest x. t es (rest ++ pairs_of f (i + (k + 1)) (n - (k + 1)) g (j + (k + 1)) (m - (k + 1))) (subst (Goes nodes known es now) (split rest) (h es rest x))

  pub along_last : (k : ℕ) (old now : List (Var × Term)) → (n - k ≡ 0) ⊎ (m - k ≡ 0) → Along nodes known f i n g j m old now k → (es rest : List code.Equation) → Goes nodes known es old (rest ++ pairs_of f i n g j m)
      → Goes nodes known es now rest
  along_last k old now none h = λ es rest x.
      subst (Goes nodes known es now) (ap (λ (l : List code.Equation). rest ++ l) (pairs_none f (i + k) (n - k) g (j + k) (m - k) none) ∙ append-nil rest) (h es rest x)

-- the shorter row is at its end
pub none_left : (n m k : ℕ) → min n m ≤ k → (n - k ≡ 0) ⊎ (m - k ≡ 0)
none_left n m k h = elim (shorter n m) [ inl a ↦ inl (let b : n ≤ m = a in omega arith) | inr a ↦ inr (let b : m ≤ n = a in omega arith) ]
  where
    shorter : (n m : ℕ) → (n ≤ m) ⊎ (m ≤ n)
    shorter zero m = inl (omega arith)
    shorter (suc n) zero = inr (omega arith)
    shorter (suc n) (suc m) = elim (shorter n m) [ inl a ↦ inl (let b : n ≤ m = a in omega arith) | inr a ↦ inr (let b : m ≤ n = a in omega arith) ]
