-- The class of one candidate alone.
use Rattle.std.proofs.Common.{◌≡◌, List, [], ◌∷◌, Some, None, Bool, true, false, if◌then◌else◌, refl, sym, ap}
use Rattle.std.specs.Prelude.{filter, map}
use Rattle.std.specs.Option.{unwrap_or}
use Rattle.akl_terms.specs.declared.name.Var.{Var}
use Rattle.akl_terms.specs.declared.term.Node.{Node}
use Rattle.akl_terms.specs.declared.term.Term.{Term}
use Rattle.akl_terms.specs.Names.{same_var}
use Rattle.rational_unify.specs.Shortened.{IsEndOf}
use Rattle.entail_test.specs.declared.reading.Class.{Class}
use Rattle.entail_test.specs.Classes.{AreClasses, is_noisy}
use Rattle.entail_test.proofs.Classes.{classes-none, classes-headed, classes-new}

-- the members of the noisy classes
abbrev pub noisy : List Class → List Var
noisy cs = map (λ (c : Class). c.member) (filter (λ c. is_noisy cs c) cs)

-- the classes of candidates, of which these variables are noisy
abbrev pub AreNoisy : List Node → List (Var × Term) → List (Var × Term) → List Var → List Var → Type 0
AreNoisy nodes known whole candidates on = (cs : List Class) × AreClasses nodes known whole candidates cs × (on ≡ noisy cs)

module _ (nodes : List Node) (known whole : List (Var × Term)) where
  -- of no candidates
  pub none-noisy : (candidates on : List Var) → candidates ≡ [] → on ≡ [] → AreNoisy nodes known whole candidates on
  none-noisy candidates on e f = rw (e, f) ([], classes-none nodes known whole, refl)

  -- of one that ends in a term with a head in the environment
  pub alone-headed : (x : Var) (on : List Var) → IsEndOf nodes known x None → on ≡ [] → AreNoisy nodes known whole (x ∷ []) on
  alone-headed x on e f = rw f ([], classes-headed nodes known whole [] [] (classes-none nodes known whole) x e, refl)

  -- of one that ends in a variable, in the whole too
  pub alone-quiet : (x root end : Var) (on : List Var) → IsEndOf nodes known x (Some root) → IsEndOf nodes whole x (Some end) → on ≡ [] → AreNoisy nodes known whole (x ∷ []) on
  alone-quiet x root end on e w f = rw f (c ∷ [], classes-new nodes known whole [] [] (classes-none nodes known whole) x c refl e w refl, silent)
    where
      c : Class
      c = record { member = x; root = root; end = Some end }

      quiet : (k : Bool) → unwrap_or (if k then Some false else None) false ≡ false
      quiet true = refl
      quiet false = refl

      silent : [] ≡ noisy (c ∷ [])
      silent = ap (λ (b : Bool). map (λ (d : Class). d.member) (if b then c ∷ [] else [])) (sym (quiet (same_var end end)))

  -- of one that ends in a variable, and in the whole in a term with a head
  pub alone-noisy : (x root : Var) (on : List Var) → IsEndOf nodes known x (Some root) → IsEndOf nodes whole x None → on ≡ x ∷ [] → AreNoisy nodes known whole (x ∷ []) on
  alone-noisy x root on e w f = rw f (c ∷ [], classes-new nodes known whole [] [] (classes-none nodes known whole) x c refl e w refl, refl)
    where
      c : Class
      c = record { member = x; root = root; end = None }
