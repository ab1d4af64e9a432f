-- The alternatives of a call are sifted as they were in a box that has grown.
use Rattle.std.proofs.Common.{◌≡◌, ℕ, List, ◌++◌, Bool, true, false, Option, Some, None, refl, sym, ap, subst, inl, inr}
use Rattle.std.specs.Prelude.{if◌then◌else◌}
use Rattle.akl_terms.specs.declared.name.Name.{Name}
use Rattle.akl_terms.specs.declared.name.Place.{Place}
use Rattle.akl_terms.specs.declared.program.Program.{Program}
use Rattle.akl_terms.specs.Arithmetic.{value, truth}
use Rattle.akl_terms.specs.Tree.{Tree}
use Rattle.akl_terms.specs.Names.{same_name}
use Rattle.akl_terms.specs.Equal.{Equations, IsTold, told, Follows, IsConsistent, IsQuiet}
use Rattle.akl_terms.specs.Touching.{IsLocal, IsOutside}
use Rattle.akl_terms.proofs.EqualLaws.{Equal-follows, IsConsistent-follows, IsTold-left, IsTold-right, IsTold-either}
use Rattle.constraint_laws.specs.Growth.{TellsOver}
use Rattle.akl_model.specs.declared.label.Rule.{Rule}
use Rattle.akl_model.specs.declared.label.Label.{Label}
use Rattle.akl_model.specs.Config.{Atom, Operator, Content, Boxes, no_boxes, box, Goals, no_goals, Held, an_atom, a_choice, held_in, Found, environment, whole}
use Rattle.akl_model.specs.Rules.{Reading, answer, Change, tell, eval, alternative_of}
use Rattle.akl_model.specs.Conditions.{ComesTo, IsQuietBox, GuardHolds, Makes}
use Rattle.akl_model.specs.Stable.{Allows}
use Rattle.akl_model.proofs.Options.{some_value}
use Rattle.plan_laws.proofs.GrownReads.{ReadsStill, reads_still}
use Rattle.plan_laws.specs.AtOnce.{inner, Fails, by, IsOfGuard, Works, rests, works, Sifts, ends, fails, stays, Ends, promotes, cuts}
use Rattle.plan_laws.specs.Untold.{KeepsEquations, KeepEquations}
use Rattle.reading_laws.proofs.Alternatives.{around_whole}
use Rattle.reading_laws.proofs.Listed.{quiet_stays}
use Rattle.reading_laws.specs.CallsAgain.{EvaluatesIn, AllEvaluateIn}

-- what stands around a box matters for no change by these rules

tell_beside : (g : Name) (h : Option Held) (A B : List Content) (b : Content) (gs : Goals) (c : Change) → tell g (record { around = A; content = b; goals = gs }) h ≡ Some c → tell g (record { around = B; content = b; goals = gs }) h ≡ Some c
tell_beside g (Some (an_atom (Atom.equation s t))) A B b gs c e = e
tell_beside g (Some (an_atom (Atom.arithmetic test l r))) A B b gs c e = cc
tell_beside g (Some (an_atom (Atom.open_port l r))) A B b gs c e = cc
tell_beside g (Some (an_atom (Atom.send l r))) A B b gs c e = cc
tell_beside g (Some (an_atom (Atom.call d ts r))) A B b gs c e = cc
tell_beside g (Some (an_atom Atom.fail)) A B b gs c e = cc
tell_beside g (Some (a_choice o bs)) A B b gs c e = cc
tell_beside g None A B b gs c e = cc

eval_beside : (v : Reading) (g : Name) (h : Option Held) (A B : List Content) (b : Content) (gs : Goals) (c : Change) → eval v g (record { around = A; content = b; goals = gs }) h ≡ Some c → eval v g (record { around = B; content = b; goals = gs }) h ≡ Some c
eval_beside (answer (value z)) g (Some (an_atom (Atom.arithmetic test l r))) A B b gs c e = e
eval_beside (answer (truth true)) g (Some (an_atom (Atom.arithmetic test l r))) A B b gs c e = e
eval_beside (answer (truth false)) g (Some (an_atom (Atom.arithmetic test l r))) A B b gs c e = e
eval_beside _ g _ A B b gs c e = cc

comes_beside : (p : Program) (v : Reading) (h : Option Held) (f k : Found) → IsConsistent (whole k) → ReadsStill p.templates.symbols (whole f) (whole k) → ComesTo p v f h → ComesTo p v k h
comes_beside p (answer a) (Some (an_atom (Atom.arithmetic test l r))) f k h s x = (h, s.evaluates test l r a x.1)
comes_beside p _ _ f k h s x = absurd x

module _ (f k : Found) (grows : Follows (whole f) (whole k)) where
  -- the equations down to an alternative have grown
  pub inner_grows : (b : Content) (gs : Goals) → Follows (whole (inner f b gs)) (whole (inner k b gs))
  inner_grows b gs = subst (λ (E : Equations). Follows (E ++ b.equations) (environment (inner k b gs) ++ b.equations)) (sym (around_whole (inner f b gs) f refl))
      (subst (λ (E : Equations). Follows (whole f ++ b.equations) (E ++ b.equations)) (sym (around_whole (inner k b gs) k refl)) (record {
        each = λ {s} {t} m. elim (IsTold-either (whole f) b.equations s t m) [
          | inl x ↦ Equal-follows (record { each = λ {s} {t} n. told (IsTold-left (whole k) b.equations s t n) }) (grows.each x)
          | inr x ↦ told (IsTold-right (whole k) b.equations s t x)
        ];
      }))

  makes_later : (p : Program) (w next : ℕ) (r : Rule) (g : Name) (b : Content) (gs : Goals) (c : Change) → IsOfGuard r → (r ≡ Rule.Eval → IsConsistent (whole (inner k b gs)))
      → Makes (Allows p) p next (by w r (Place.Goal g) None) (inner f b gs) c → Makes (Allows p) p next (by w r (Place.Goal g) None) (inner k b gs) c
  makes_later p w next Rule.Tell g b gs c guard h m = record {
    reading = m.reading;
    change = tell_beside g (held_in g gs) (inner f b gs).around (inner k b gs).around b gs c m.change;
    allowed = tt;
    few_names = m.few_names;
  }
  makes_later p w next Rule.Eval g b gs c guard h m = record {
    reading = m.reading;
    change = eval_beside m.reading g (held_in g gs) (inner f b gs).around (inner k b gs).around b gs c m.change;
    allowed = comes_beside p m.reading (held_in g gs) (inner f b gs) (inner k b gs) (h refl) (reads_still p.templates.symbols (whole (inner f b gs)) (whole (inner k b gs)) (inner_grows b gs) (h refl)) m.allowed;
    few_names = m.few_names;
  }
  makes_later p w next _ g b gs c guard h m = absurd guard

  pub works_later : (p : Program) (w next : ℕ) (b : Content) (gs : Goals) (ls : List Label) (b2 : Content) (gs2 : Goals) (x : Works p w next f b gs ls b2 gs2) → EvaluatesIn p w next f k b gs ls b2 gs2 x → Works p w next k b gs ls b2 gs2
  works_later p w next _ _ _ _ _ (rests b gs) e = rests b gs
  works_later p w next _ _ _ _ _ (works r i h b gs b1 gs1 ls b2 gs2 guard held makes name y) e =
      works r i h b gs b1 gs1 ls b2 gs2 guard held (makes_later p w next r i b gs (record { boxes = box b1 gs1 no_boxes; drawn = 0 }) guard e.0 makes) name (works_later p w next b1 gs1 ls b2 gs2 y e.1)

  fails_later : (b : Content) (gs : Goals) → Fails (inner f b gs) → Fails (inner k b gs)
  fails_later b gs (inl n) = inl (λ h. n (IsConsistent-follows (inner_grows b gs) h))
  fails_later b gs (inr x) = inr x

  pub sifts_later : (p : Program) (w next : ℕ) (bs : Boxes) (ls : List Label) (cs : Boxes) (x : Sifts p w next f bs ls cs) → AllEvaluateIn p w next f k bs ls cs x → Sifts p w next k bs ls cs
  sifts_later p w next _ _ _ ends e = ends
  sifts_later p w next _ _ _ (fails b gs b2 gs2 ks bs ls cs work why y) e = fails b gs b2 gs2 ks bs ls cs (works_later p w next b gs ks b2 gs2 work e.0) (fails_later b2 gs2 why) (sifts_later p w next bs ls cs y e.1)
  sifts_later p w next _ _ _ (stays b gs b2 gs2 ks bs ls cs work y) e = stays b gs b2 gs2 ks bs ls cs (works_later p w next b gs ks b2 gs2 work e.0) (sifts_later p w next bs ls cs y e.1)

  -- guards that tell nothing tell nothing there
  works_silent : (p : Program) (w next : ℕ) (b : Content) (gs : Goals) (ls : List Label) (b2 : Content) (gs2 : Goals) (x : Works p w next f b gs ls b2 gs2) (e : EvaluatesIn p w next f k b gs ls b2 gs2 x)
      → KeepsEquations p w next f b gs ls b2 gs2 x → KeepsEquations p w next k b gs ls b2 gs2 (works_later p w next b gs ls b2 gs2 x e)
  unfolding works_later
  works_silent p w next _ _ _ _ _ (rests b gs) e t = tt
  works_silent p w next _ _ _ _ _ (works r i h b gs b1 gs1 ls b2 gs2 guard held makes name y) e t = (t.0, works_silent p w next b1 gs1 ls b2 gs2 y e.1 t.1)

  pub sifts_silent : (p : Program) (w next : ℕ) (bs : Boxes) (ls : List Label) (cs : Boxes) (x : Sifts p w next f bs ls cs) (e : AllEvaluateIn p w next f k bs ls cs x)
      → KeepEquations p w next f bs ls cs x → KeepEquations p w next k bs ls cs (sifts_later p w next bs ls cs x e)
  unfolding sifts_later
  sifts_silent p w next _ _ _ ends e t = tt
  sifts_silent p w next _ _ _ (fails b gs b2 gs2 ks bs ls cs work why y) e t = (works_silent p w next b gs ks b2 gs2 work e.0 t.0, sifts_silent p w next bs ls cs y e.1 t.1)
  sifts_silent p w next _ _ _ (stays b gs b2 gs2 ks bs ls cs work y) e t = (works_silent p w next b gs ks b2 gs2 work e.0 t.0, sifts_silent p w next bs ls cs y e.1 t.1)

  alternative_later : (n : Name) (bs : Boxes) (a : Content) → alternative_of f n bs ≡ Some (inner f a no_goals) → alternative_of k n bs ≡ Some (inner k a no_goals)
  alternative_later n no_boxes a e = cc
  alternative_later n (box b gs bs) a e = on (same_name n b.name) e (λ i. alternative_later n bs a i)
    where
      on : (t : Bool) → (if t then Some (inner f b gs) else alternative_of f n bs) ≡ Some (inner f a no_goals) → (alternative_of f n bs ≡ Some (inner f a no_goals) → alternative_of k n bs ≡ Some (inner k a no_goals))
          → (if t then Some (inner k b gs) else alternative_of k n bs) ≡ Some (inner k a no_goals)
      on true i g =
          let q : inner f b gs ≡ inner f a no_goals = some_value i in
          λ j. Some (inner k (ap (λ (m : Found). m.content) q j) (ap (λ (m : Found). m.goals) q j))
      on false i g = g i

  -- the one that is left is quiet as it was, or consistent
  module _ (consistent : IsConsistent (whole k)) (a : Content) (outside : TellsOver (IsOutside a.frames) (whole k)) (still : IsConsistent (whole k ++ a.equations)) (keeps : (s t : Tree) → IsTold (whole f) s t → IsTold (whole k) s t) where
    quiet_later : IsQuietBox (inner f a no_goals) → IsQuietBox (inner k a no_goals)
    quiet_later q = subst (λ (E : Equations). IsQuiet E (IsLocal a.frames) a.equations) (sym (around_whole (inner k a no_goals) k refl))
        (quiet_stays (whole f) (whole k) a.equations a.frames keeps outside consistent
        (subst (λ (E : Equations). IsQuiet E (IsLocal a.frames) a.equations) (around_whole (inner f a no_goals) f refl) q))

    guard_later : (o : Operator) → GuardHolds o (inner f a no_goals) → GuardHolds o (inner k a no_goals)
    guard_later Operator.nondeterminate x = subst (λ (E : Equations). IsConsistent (E ++ a.equations)) (sym (around_whole (inner k a no_goals) k refl)) still
    guard_later Operator.condition x = quiet_later x
    guard_later Operator.commit x = quiet_later x
    guard_later (Operator.collecting r) x = absurd x

    pub ends_later : (w : ℕ) (g : Name) (o : Operator) (bs : Boxes) (ls : List Label) → Ends w g f o a bs ls → Ends w g k o a bs ls
    ends_later w g o _ _ (promotes guard) = promotes (guard_later o guard)
    ends_later w g o _ _ (cuts bs i e h quiet) = cuts bs (alternative_later a.name bs a i) e h (quiet_later quiet)
