-- Calls at once whose guards have heads and comparisons alone: goals of the guards are reduced, and none tells an equation.
use Rattle.std.specs.Prelude.{◌≡◌, ℕ, List, ⊤}
use Rattle.akl_terms.specs.declared.program.Program.{Program}
use Rattle.akl_model.specs.declared.label.Label.{Label}
use Rattle.akl_model.specs.Config.{Content, Boxes, Goals, Found}
use Rattle.plan_laws.specs.AtOnce.{Works, rests, works, Sifts, ends, fails, stays}

abbrev pub KeepsEquations : (p : Program) (w next : ℕ) (f : Found) (b : Content) (gs : Goals) (ls : List Label) (b2 : Content) (gs2 : Goals) → Works p w next f b gs ls b2 gs2 → Type 0
KeepsEquations p w next f _ _ _ _ _ (rests b gs) = ⊤
KeepsEquations p w next f _ _ _ _ _ (works r g h b gs b1 gs1 ls b2 gs2 guard held makes name y) = (b1.equations ≡ b.equations) × KeepsEquations p w next f b1 gs1 ls b2 gs2 y

-- in each alternative
abbrev pub KeepEquations : (p : Program) (w next : ℕ) (f : Found) (bs : Boxes) (ls : List Label) (cs : Boxes) → Sifts p w next f bs ls cs → Type 0
KeepEquations p w next f _ _ _ ends = ⊤
KeepEquations p w next f _ _ _ (fails b gs b2 gs2 ks bs ls cs work why y) = KeepsEquations p w next f b gs ks b2 gs2 work × KeepEquations p w next f bs ls cs y
KeepEquations p w next f _ _ _ (stays b gs b2 gs2 ks bs ls cs work y) = KeepsEquations p w next f b gs ks b2 gs2 work × KeepEquations p w next f bs ls cs y
