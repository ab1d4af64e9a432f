-- Calls at once that evaluate goals of guards in quiet alternatives alone.
use Rattle.std.specs.Prelude.{◌≡◌, ℕ, ◌+◌, List, slice_index, ⊤}
use Rattle.akl_terms.specs.declared.name.Name.{Name}
use Rattle.akl_terms.specs.declared.program.Program.{Program}
use Rattle.akl_model.specs.declared.label.Rule.{Rule}
use Rattle.akl_model.specs.declared.label.Label.{Label}
use Rattle.akl_model.specs.Conditions.{IsQuietBox}
use Rattle.akl_model.specs.Config.{Config, Content, Boxes, Goals, Found}
use Rattle.akl_model.specs.Instances.{drawn_by}
use Rattle.plan_laws.specs.AtOnce.{inner, Works, rests, works, Sifts, ends, fails, stays, IsAtOnce}

-- where a goal of the guard of an alternative is evaluated, this is quiet
abbrev pub IsQuietWhere : (p : Program) (w next : ℕ) (f : Found) (b : Content) (gs : Goals) (ls : List Label) (b2 : Content) (gs2 : Goals) → Works p w next f b gs ls b2 gs2 → Type 0
IsQuietWhere p w next f _ _ _ _ _ (rests b gs) = ⊤
IsQuietWhere p w next f _ _ _ _ _ (works r i h b gs b1 gs1 ls b2 gs2 guard held makes name y) = (r ≡ Rule.Eval → IsQuietBox (inner f b gs)) × IsQuietWhere p w next f b1 gs1 ls b2 gs2 y

abbrev pub AreQuietWhere : (p : Program) (w next : ℕ) (f : Found) (bs : Boxes) (ls : List Label) (cs : Boxes) → Sifts p w next f bs ls cs → Type 0
AreQuietWhere p w next f _ _ _ ends = ⊤
AreQuietWhere p w next f _ _ _ (fails b gs b2 gs2 ks bs ls cs work why y) = IsQuietWhere p w next f b gs ks b2 gs2 work × AreQuietWhere p w next f bs ls cs y
AreQuietWhere p w next f _ _ _ (stays b gs b2 gs2 ks bs ls cs work y) = IsQuietWhere p w next f b gs ks b2 gs2 work × AreQuietWhere p w next f bs ls cs y

-- so in all alternatives of a call
abbrev pub EvaluatesQuietly : {p : Program} {c : Config} {w : ℕ} {g : Name} {f : Found} → IsAtOnce p c w g f → Type 0
EvaluatesQuietly {p} {c} {w} {g} {f} x = AreQuietWhere p w (slice_index c.next w + drawn_by x.called.clauses) f _ _ _ x.sifts
