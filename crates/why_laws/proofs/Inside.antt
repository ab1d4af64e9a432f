-- In an alternative, and in all inside it, no rule may be used where equations are added around it that bind nothing that they touch.
use Rattle.std.proofs.Common.{List, [], ◌∷◌, ◌++◌}
use Rattle.akl_terms.specs.declared.name.Name.{Name}
use Rattle.akl_terms.specs.declared.program.Program.{Program}
use Rattle.akl_terms.specs.Equal.{Equations}
use Rattle.akl_terms.specs.Touching.{IsOutside}
use Rattle.akl_model.specs.Config.{Content, Boxes, no_boxes, box, Goals, no_goals, atom, choice, equations_of}
use Rattle.akl_model.specs.Stable.{EachBox, EachInside, frames_of, IsStableIn}
use Rattle.constraint_laws.specs.Growth.{TellsOver}
use Rattle.constraint_laws.specs.Inward.{Adding}
use Rattle.constraint_laws.proofs.Inward.{Reached}
use Rattle.why_laws.specs.Sound.{IsIdle}
use Rattle.why_laws.proofs.Alternatives.{at_alternative}
use Rattle.why_laws.proofs.OneBox.{stays_idle}
use Rattle.why_laws.proofs.GrownAround.{Unbinds, GrownAround, AreTold, told_inwards, reaches, grown_inwards, awaits, was_quiet, was_stable}

module _ (p : Program) (outer : List Name) (first new : Equations) (over : TellsOver (IsOutside outer) new) (adding : Adding first new) where
  -- boxes that are stable in a box around were
  module _ (frames : List Name) (E G : Equations) (outside : Reached first new E G) where
    mutual
      boxes_stable : (old now : List Content) (bs : Boxes) → GrownAround first new old now → AreTold E G old now
          → EachBox (Unbinds p outer first new) old bs → EachBox (IsIdle p) old bs → EachBox (IsStableIn p frames G) now bs → EachBox (IsStableIn p frames E) old bs
      boxes_stable old now no_boxes g t u i s = tt
      boxes_stable old now (box b gs bs) g t u i s = (
        was_stable p outer first new over adding old now g b gs u.0 frames E G outside t i.0 s.0,
        goals_stable (old ++ b ∷ []) (now ++ b ∷ []) gs (grown_inwards p outer first new over adding old now g b gs u.0) (told_inwards E G old now b t) u.1 i.1 s.1,
        boxes_stable old now bs g t u.2 i.2 s.2,
      )

      goals_stable : (old now : List Content) (gs : Goals) → GrownAround first new old now → AreTold E G old now
          → EachInside (Unbinds p outer first new) old gs → EachInside (IsIdle p) old gs → EachInside (IsStableIn p frames G) now gs → EachInside (IsStableIn p frames E) old gs
      goals_stable old now no_goals g t u i s = tt
      goals_stable old now (atom k a gs) g t u i s = goals_stable old now gs g t u i s
      goals_stable old now (choice k o bs gs) g t u i s = (boxes_stable old now bs g t u.0 i.0 s.0, goals_stable old now gs g t u.1 i.1 s.1)

  -- and no rule may be used in any
  mutual
    pub boxes_idle : (old now : List Content) (bs : Boxes) → GrownAround first new old now → EachBox (Unbinds p outer first new) old bs → EachBox (IsIdle p) old bs → EachBox (IsIdle p) now bs
    boxes_idle old now no_boxes g u i = tt
    boxes_idle old now (box b gs bs) g u i = (
      stays_idle p old now b gs b.equations (record {
        idle = i.0;
        keeps = (reaches p outer first new over adding old now g b gs u.0).beside.own_in;
        consistent = (reaches p outer first new over adding old now g b gs u.0).consistent;
        awaits = awaits p outer first new over adding old now g b gs u.0;
        alternatives = λ c hs m. let k : Unbinds p outer first new (record { around = old ++ b ∷ []; content = c; goals = hs }) = at_alternative (Unbinds p outer first new) (old ++ b ∷ []) gs u.1 c hs m in record {
          consistent = k.consistent;
          quiet = was_quiet p outer first new over adding (old ++ b ∷ []) (now ++ b ∷ []) (grown_inwards p outer first new over adding old now g b gs u.0) c hs k;
        };
        stable = λ s. record {
          each = boxes_stable (frames_of (box b gs no_boxes)) (equations_of old) (equations_of now) g.reached old now (box b gs no_boxes) g (record { in_old = λ v t m. m; in_now = λ v t m. m }) (u.0, u.1, tt) (i.0, i.1, tt) s.each;
        };
      }),
      goals_idle (old ++ b ∷ []) (now ++ b ∷ []) gs (grown_inwards p outer first new over adding old now g b gs u.0) u.1 i.1,
      boxes_idle old now bs g u.2 i.2,
    )

    goals_idle : (old now : List Content) (gs : Goals) → GrownAround first new old now → EachInside (Unbinds p outer first new) old gs → EachInside (IsIdle p) old gs → EachInside (IsIdle p) now gs
    goals_idle old now no_goals g u i = tt
    goals_idle old now (atom k a gs) g u i = goals_idle old now gs g u i
    goals_idle old now (choice k o bs gs) g u i = (boxes_idle old now bs g u.0 i.0, goals_idle old now gs g u.1 i.1)
