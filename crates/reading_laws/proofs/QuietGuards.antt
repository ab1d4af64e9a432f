-- Alternatives that were quiet where they evaluated are consistent in a box that has grown.
use Rattle.std.proofs.Common.{◌≡◌, ℕ, List, refl, sym, subst}
use Rattle.akl_terms.specs.declared.name.Name.{Name}
use Rattle.akl_terms.specs.declared.program.Program.{Program}
use Rattle.akl_terms.specs.Equal.{Equations, IsTold, IsConsistent, IsQuiet}
use Rattle.akl_terms.specs.Touching.{IsLocal, IsOutside}
use Rattle.akl_terms.specs.Tree.{Tree}
use Rattle.constraint_laws.specs.Growth.{TellsOver}
use Rattle.akl_model.specs.declared.label.Label.{Label}
use Rattle.akl_model.specs.Conditions.{IsQuietBox}
use Rattle.akl_model.specs.Config.{Content, Boxes, Goals, Found, whole}
use Rattle.plan_laws.specs.AtOnce.{inner, Works, rests, works, Sifts, ends, fails, stays}
use Rattle.reading_laws.proofs.Alternatives.{around_whole}
use Rattle.reading_laws.proofs.Listed.{quiet_stays}
use Rattle.reading_laws.proofs.NewFrames.{AreNew, AllNew, made_frames}
use Rattle.reading_laws.specs.CallsAgain.{EvaluatesIn, AllEvaluateIn}
use Rattle.reading_laws.specs.QuietGuards.{IsQuietWhere, AreQuietWhere}

-- the equations of the later box are outside of all frames that the worker draws from a number on
module _ (f k : Found) (keeps : (s t : Tree) → IsTold (whole f) s t → IsTold (whole k) s t) (consistent : IsConsistent (whole k)) (p : Program) (w next n : ℕ)
    (outside : (fs : List Name) → AreNew w n fs → TellsOver (IsOutside fs) (whole k)) where
  still : (b : Content) (gs : Goals) → AreNew w n b.frames → IsQuietBox (inner f b gs) → IsConsistent (whole (inner k b gs))
  still b gs new q = quiet.consistent
    where
      quiet : IsQuietBox (inner k b gs)
      quiet = subst (λ (E : Equations). IsQuiet E (IsLocal b.frames) b.equations) (sym (around_whole (inner k b gs) k refl))
          (quiet_stays (whole f) (whole k) b.equations b.frames keeps (outside b.frames new) consistent
          (subst (λ (E : Equations). IsQuiet E (IsLocal b.frames) b.equations) (around_whole (inner f b gs) f refl) q))

  works_evaluate : (b : Content) (gs : Goals) (ls : List Label) (b2 : Content) (gs2 : Goals) (x : Works p w next f b gs ls b2 gs2) → AreNew w n b.frames → IsQuietWhere p w next f b gs ls b2 gs2 x
      → EvaluatesIn p w next f k b gs ls b2 gs2 x
  works_evaluate _ _ _ _ _ (rests b gs) new q = tt
  works_evaluate _ _ _ _ _ (works r i h b gs b1 gs1 ls b2 gs2 guard held makes name y) new q = (
    λ e. still b gs new (q.0 e),
    works_evaluate b1 gs1 ls b2 gs2 y (subst (AreNew w n) (sym (made_frames p w next r i (inner f b gs) b1 gs1 guard makes)) new) q.1,
  )

  pub all_evaluate : (bs : Boxes) (ls : List Label) (cs : Boxes) (x : Sifts p w next f bs ls cs) → AllNew w n bs → AreQuietWhere p w next f bs ls cs x → AllEvaluateIn p w next f k bs ls cs x
  all_evaluate _ _ _ ends new q = tt
  all_evaluate _ _ _ (fails b gs b2 gs2 ks bs ls cs work why y) new q = (works_evaluate b gs ks b2 gs2 work new.0 q.0, all_evaluate bs ls cs y new.1 q.1)
  all_evaluate _ _ _ (stays b gs b2 gs2 ks bs ls cs work y) new q = (works_evaluate b gs ks b2 gs2 work new.0 q.0, all_evaluate bs ls cs y new.1 q.1)
