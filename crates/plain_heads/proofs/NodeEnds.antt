-- The ends of the chains of neighbouring nodes, one after another.
use Rattle.std.proofs.Common.{◌≡◌, ℕ, zero, suc, ◌+◌, ◌<◌, List, [], ◌∷◌, ◌++◌, length, get_or, ap, ◌∙◌, arith}
use Rattle.akl_terms.specs.declared.name.Name.{Name}
use Rattle.akl_terms.specs.declared.name.Var.{Var}
use Rattle.akl_terms.specs.declared.term.Node.{Node}
use Rattle.akl_terms.specs.declared.term.Term.{Term}
use Rattle.akl_terms.specs.declared.term.Term.TheVariants.{Mol}
use Rattle.akl_terms.specs.Template.{tree}
use Rattle.rational_unify.specs.Known.{end_of}
use Rattle.plain_heads.specs.Plain.{AreEnds}

module _ (nodes : List Node) (known : List (Var × Term)) (f : Name) where
  moved : (m n : ℕ) → m ≡ n → end_of nodes known (tree nodes (Mol m f)) ≡ end_of nodes known (tree nodes (Mol n f))
  moved m n e = ap (λ (k : ℕ). end_of nodes known (tree nodes (Mol k f))) e

  pub end_there : (ts : List Term) (i k : ℕ) (t : Term) → AreEnds nodes known f i ts → k < length ts → t ≡ get_or ts k t → tree nodes t ≡ end_of nodes known (tree nodes (Mol (i + k) f))
  end_there [] i k t h l e = absurd (omega arith)
  end_there (u ∷ ts) i zero t h l e = ap (tree nodes) e ∙ h.0 ∙ moved i (i + 0) (omega arith)
  end_there (u ∷ ts) i (suc k) t h l e = end_there ts (suc i) k t h.1 (omega arith) e ∙ moved (suc i + k) (i + suc k) (omega arith)

  pub ends_further : (ts : List Term) (i : ℕ) (t : Term) → AreEnds nodes known f i ts → tree nodes t ≡ end_of nodes known (tree nodes (Mol (i + length ts) f)) → AreEnds nodes known f i (ts ++ t ∷ [])
  ends_further [] i t h e = (e ∙ moved (i + 0) i (omega arith), tt)
  ends_further (u ∷ ts) i t h e = (h.0, ends_further ts (suc i) t h.1 (e ∙ moved (i + suc (length ts)) (suc i + length ts) (omega arith)))
