-- Solved alternatives that stay are quiet still where the box around them is consistent.
use Rattle.std.proofs.Common.{◌≡◌, [], ◌∷◌, ◌++◌, refl, sym, ◌∙◌, ap, subst}
use Rattle.akl_terms.specs.Tree.{Tree}
use Rattle.akl_terms.specs.Equal.{Equations, IsTold, IsConsistent, IsQuiet}
use Rattle.akl_terms.specs.Touching.{IsLocal, IsOutside}
use Rattle.akl_terms.proofs.EqualLaws.{IsConsistent-follows}
use Rattle.constraint_laws.specs.Growth.{TellsOver}
use Rattle.constraint_laws.proofs.Beside.{left_follows}
use Rattle.akl_model.specs.Config.{Content, Boxes, no_boxes, box, Config, Found, equations_of, environment, whole}
use Rattle.akl_model.specs.Conditions.{IsQuietBox, AreQuiet}
use Rattle.akl_model.specs.Stable.{only, frames_of, frames_inside}
use Rattle.akl_model.proofs.QuietGrows.{IsLocal-left}
use Rattle.step_laws.specs.Whereabouts.{Stands}
use Rattle.step_laws.proofs.Whereabouts.{in_found}
use Rattle.plan_laws.proofs.AllSolved.{EachStands}
use Rattle.plan_laws.proofs.InScope.{Good, outside_environment}
use Rattle.reading_laws.proofs.Listed.{quiet_stays}
use Rattle.reading_laws.proofs.Path.{tells_wider}
use Rattle.reading_laws.proofs.Steps.{path_whole}

-- around an alternative are the equations down to its home
pub around_whole : (a f : Found) → a.around ≡ f.around ++ f.content ∷ [] → environment a ≡ whole f
around_whole a f e = ap equations_of e ∙ path_whole f

-- own frames are among those inside
own_outside : (a : Found) (E : Equations) → TellsOver (IsOutside (frames_of (only a))) E → TellsOver (IsOutside a.content.frames) E
own_outside a E o = tells_wider (IsOutside (frames_of (only a))) (IsOutside a.content.frames) (λ x n l. n (IsLocal-left a.content.frames (frames_inside a.goals ++ []) x l)) E o

module _ (d : Config) (v : Good d) (f k : Found) (keeps : (x y : Tree) → IsTold (whole f) x y → IsTold (whole k) x y) (consistent : IsConsistent (whole f) → IsConsistent (whole k)) where
  pub quiet_later : (a b : Found) → a.around ≡ f.around ++ f.content ∷ [] → b.around ≡ k.around ++ k.content ∷ [] → a.content ≡ b.content → Stands b d.roots → IsQuietBox a → IsQuietBox b
  quiet_later a b was now same stands q = subst (λ (E : Equations). IsQuiet E (IsLocal b.content.frames) b.content.equations) (sym (around_whole b k now))
      (subst (λ (c : Content). IsQuiet (whole k) (IsLocal c.frames) c.equations) same
      (quiet_stays (whole f) (whole k) a.content.equations a.content.frames keeps outer (consistent (IsConsistent-follows (left_follows (whole f) a.content.equations) before.consistent)) before))
    where
      before : IsQuiet (whole f) (IsLocal a.content.frames) a.content.equations
      before = subst (λ (E : Equations). IsQuiet E (IsLocal a.content.frames) a.content.equations) (around_whole a f was) q

      outer : TellsOver (IsOutside a.content.frames) (whole k)
      outer = subst (λ (c : Content). TellsOver (IsOutside c.frames) (whole k)) (sym same)
          (own_outside b (whole k) (subst (TellsOver (IsOutside (frames_of (only b)))) (around_whole b k now) (outside_environment d v b.content.name b (in_found d.roots b v.stand.once stands))))

  pub are_quiet_later : (bs : Boxes) → EachStands (k.around ++ k.content ∷ []) d.roots bs → AreQuiet f bs → AreQuiet k bs
  are_quiet_later no_boxes y x = tt
  are_quiet_later (box b gs bs) y x = (
    quiet_later (record { around = f.around ++ f.content ∷ []; content = b; goals = gs }) (record { around = k.around ++ k.content ∷ []; content = b; goals = gs }) refl refl refl y.0 x.0,
    are_quiet_later bs y.1 x.1,
  )
