-- The example holds.
use Rattle.std.proofs.Common.{◌≡◌, [], ◌∷◌, ◌++◌, inl, inr, refl, sym, ◌∙◌, subst, arith}
use Rattle.akl_terms.specs.declared.name.Var.{Var}
use Rattle.akl_terms.specs.Tree.{Tree}
use Rattle.akl_terms.specs.Equal.{Equations, Equal, told, same, IsQuiet, Follows}
use Rattle.akl_terms.proofs.EqualLaws.{Equal-follows, IsConsistent-follows}
use Rattle.constraint_laws.proofs.Grown.{Headed-follows}
use Rattle.akl_model.specs.declared.label.Rule.{Rule}
use Rattle.akl_model.specs.Examples.{x, a}
use Rattle.akl_model.specs.Rules.{nothing}
use Rattle.akl_model.proofs.ExampleChanges.{x_is_a}
use Rattle.plan_laws.specs.AtOnce.{finishes, leaves, tells, rests, ends, stays, promotes, cuts}
use Rattle.plan_laws.specs.CallExample.{ThreeLabels, CallWithBody}

abbrev once : Equations
once = record { left = x; right = a } ∷ []

twice_follows : Follows (once ++ once) once
twice_follows = record { each = λ m. elim m [ inl p ↦ told (inl p) | inr n ↦ told n ] }

twice_quiet : (L : Var → Type 0) → IsQuiet once L once
twice_quiet L = record { consistent = IsConsistent-follows twice_follows x_is_a; structured = λ v l s. Headed-follows twice_follows s; equal = λ v u lv lu nv nu e. Equal-follows twice_follows e }

pub three_labels : ThreeLabels
three_labels = (
  record {
    definition = 0;
    arguments = x ∷ [];
    held = refl;
    called = _;
    is_called = refl;
    op = _;
    is_operator = refl;
    few_names = omega arith;
    sift_labels = [];
    left = _;
    sifts = stays _ _ _ _ [] _ [] _ (rests _ _) (stays _ _ _ _ [] _ [] _ (rests _ _) ends);
    last = _;
    end_labels = _;
    ends = cuts _ refl refl (omega arith) (twice_quiet _);
    few_goals = omega arith;
    body_labels = [];
    after = _;
    goals_left = [];
    body = finishes _ _;
    consistent = IsConsistent-follows twice_follows x_is_a;
  },
  refl,
  refl,
)

abbrev thrice : Equations
thrice = once ++ (record { left = x; right = a } ∷ record { left = a; right = a } ∷ [])

thrice_follows : Follows thrice once
thrice_follows = record { each = λ m. elim m [ inl p ↦ told (inl p) | inr n ↦ elim n [ inl p ↦ told (inl p) | inr o ↦ elim o [ inl p ↦ itself p | inr z ↦ absurd z ] ] ] }
  where
    itself : {s t : Tree} → (s ≡ a) × (t ≡ a) → Equal once s t
    itself {s} {t} p = subst (λ (u : Tree). Equal once s u) (p.0 ∙ sym p.1) same

pub call_with_body : CallWithBody
call_with_body = (
  record {
    definition = 0;
    arguments = x ∷ [];
    held = refl;
    called = _;
    is_called = refl;
    op = _;
    is_operator = refl;
    few_names = omega arith;
    sift_labels = [];
    left = _;
    sifts = stays _ _ _ _ [] _ [] _ (rests _ _) ends;
    last = _;
    end_labels = _;
    ends = promotes (IsConsistent-follows twice_follows x_is_a);
    few_goals = omega arith;
    body_labels = _;
    after = _;
    goals_left = _;
    body = tells Rule.Tell _ _ _ a a _ [] _ _ tt (record { reading = nothing; change = refl; allowed = tt; few_names = omega arith }) (leaves _ _ _ _ [] _ _ (finishes _ _));
    consistent = IsConsistent-follows thrice_follows x_is_a;
  },
  refl,
  refl,
)
