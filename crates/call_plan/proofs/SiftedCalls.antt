-- The alternatives of a call whose heads clash, or a comparison of whose guards fails, fail, and one is left.
use Rattle.std.proofs.Common.{◌≡◌, ℕ, ◌+◌, List, [], ◌∷◌, ◌++◌, length, Bool, true, false, Option, Some, None, refl, sym, ap, subst, inl, inr, arith, append_assoc}
use Rattle.akl_terms.specs.declared.name.Place.{Place}
use Rattle.akl_terms.specs.declared.name.Name.{Name}
use Rattle.akl_terms.specs.declared.program.Clause.{Clause}
use Rattle.akl_terms.specs.declared.program.Code.{Code}
use Rattle.akl_terms.specs.declared.program.Program.{Program}
use Rattle.akl_terms.specs.Equal.{Equations, IsTold, IsConsistent}
use Rattle.akl_terms.specs.Standing.{StandFor}
use Rattle.akl_terms.specs.Tree.{Tree}
use Rattle.akl_model.specs.declared.label.Rule.{Rule}
use Rattle.akl_model.specs.declared.label.Label.{Label}
use Rattle.akl_model.specs.Config.{Content, Boxes, no_boxes, box, Goals, no_goals, Found, whole}
use Rattle.akl_model.specs.Conditions.{HasFailed, IsQuietBox}
use Rattle.akl_model.specs.Instances.{term_at, terms_from, atoms_of, with_atoms, head_equations, instances, drawn_by}
use Rattle.akl_model.proofs.QuietGrows.{equations-snoc}
use Rattle.std.specs.Prelude.{option_map}
use Rattle.step_laws.specs.Whereabouts.{BoxIn}
use Rattle.local_store.specs.Stored.{Stored}
use Rattle.table_laws.specs.Rows.{told_in}
use Rattle.plan_laws.specs.AtOnce as laws
use Rattle.plan_laws.specs.AtOnce.{inner, Fails, by, Works, rests, ends, fails, stays}
use Rattle.plan_laws.specs.Untold.{KeepsEquations, KeepEquations}
use Rattle.reading_laws.specs.QuietGuards.{IsQuietWhere, AreQuietWhere}
use Rattle.rule_plan.specs.Made.{IsNewStore}
use Rattle.call_plan.specs.declared.heads.Arguments.{Arguments}
use Rattle.call_plan.specs.declared.own.Own.{Own}
use Rattle.call_plan.specs.declared.sifting.Left.{Left}
use Rattle.call_plan.specs.Owns.{is_plain, stored}
use Rattle.call_plan.specs.Sifted.{name_at, frame_at, head_codes, Evaluated, IsHeadStore, IsOwn, EvaluatesPlainly, Goes, clashes, refuted, IsLeft, Leaves, none_left, goes, is_left, store_of}
use Rattle.call_plan.proofs.HeadStores.{clash_fails, all_stand, all_consistent}
use Rattle.call_plan.proofs.EvaluatedGoals.{Reduces, quiet_without, Outcome, outcome}

module _ (p : Program) (path : List Stored) (f : Found) (stands : StandFor (IsTold (told_in p.templates.nodes path)) (IsTold (whole f))) (a : Arguments) (w next : ℕ) where
  abbrev pub arguments : List Tree
  arguments = terms_from p.templates.nodes a.frame a.first a.count

  abbrev pub forked : ℕ → List Clause → Boxes
  forked n cs = instances p.templates.nodes w n arguments cs

  -- the alternative of a clause that draws its names from a number on
  abbrev pub content : ℕ → Clause → Content
  content n c = record {
    name = name_at w n;
    frames = frame_at w n ∷ [];
    equations = head_equations arguments (terms_from p.templates.nodes (frame_at w n) c.first c.count);
    ports = [];
    body = atoms_of p.templates.nodes (frame_at w n) c.body;
    shown = [];
    collected = option_map (term_at p.templates.nodes (frame_at w n)) c.collected;
  }

  abbrev pub guard_goals : ℕ → Clause → Goals
  guard_goals n c = with_atoms w (n + 2) (atoms_of p.templates.nodes (frame_at w n) c.guard) no_goals

  -- some alternatives sift to others, and no guard tells anything; where goals are evaluated in alternatives with plain bindings alone, these are quiet
  abbrev pub Sift : Bool → Boxes → List Label → Boxes → Type 0
  Sift plainly bs ls cs = (s : laws.Sifts p w next f bs ls cs) × KeepEquations p w next f bs ls cs s × (plainly ≡ true → AreQuietWhere p w next f bs ls cs s)

  -- what is told in an alternative by its store

  store_stands : (n : ℕ) (c : Clause) (store : Stored) → IsHeadStore p.templates.nodes path a w n c store
      → StandFor (IsTold (told_in p.templates.nodes (path ++ store ∷ []))) (IsTold (whole (inner f (content n c) no_goals)))
  store_stands n c store h = subst (λ (E : Equations). StandFor (IsTold (told_in p.templates.nodes (path ++ store ∷ []))) (IsTold (E ++ (content n c).equations))) (sym (equations-snoc f.around f.content))
      (all_stand p.templates.nodes path (whole f) stands a (frame_at w n) c (length path) store h)

  store_consistent : (n : ℕ) (c : Clause) (store : Stored) → IsHeadStore p.templates.nodes path a w n c store → IsConsistent (whole (inner f (content n c) no_goals))
  store_consistent n c store h = subst (λ (E : Equations). IsConsistent (E ++ (content n c).equations)) (sym (equations-snoc f.around f.content))
      (all_consistent p.templates.nodes path (whole f) stands a (frame_at w n) c (length path) store h)

  guard_out : (n : ℕ) (c : Clause) (store : Stored) (h : IsHeadStore p.templates.nodes path a w n c store) (ls : List Label) (b : Bool)
      → Evaluated p.templates.symbols p.templates.nodes (path ++ store ∷ []) (frame_at w n) (n + 2) c.guard ls b
      → Outcome p next f (content n c) (path ++ store ∷ []) (frame_at w n) (store_stands n c store h) (store_consistent n c store h) (n + 2) c.guard ls b
  guard_out n c store h ls b e = outcome p next f (content n c) (path ++ store ∷ []) (frame_at w n) (store_stands n c store h) (store_consistent n c store h) (n + 2) c.guard ls b e

  -- where all alternatives of which this is said stand among those of a call, and these are quiet if they have plain bindings
  module _ (plainly : Bool) (first : ℕ) (all : List Clause) where
    -- the alternative of a clause is one of them
    abbrev pub Among : ℕ → Clause → Type 0
    Among n c = BoxIn [] (content n c) (guard_goals n c) (forked first all)

    -- so are those of several
    abbrev pub AreWithin : ℕ → List Clause → Type 0
    AreWithin n cs = (b : Content) (gs : Goals) → BoxIn [] b gs (forked n cs) → BoxIn [] b gs (forked first all)

    pub first_within : (n : ℕ) (c : Clause) (cs : List Clause) → AreWithin n (c ∷ cs) → Among n c
    first_within n c cs m = m (content n c) (guard_goals n c) (inl (refl, refl, refl))

    pub rest_within : (n : ℕ) (c : Clause) (cs : List Clause) → AreWithin n (c ∷ cs) → AreWithin (n + (2 + length c.guard)) cs
    rest_within n c cs m b gs h = m b gs (inr (inr h))

    abbrev pub PlainAreQuiet : Type 0
    PlainAreQuiet = (n : ℕ) (c : Clause) (own : Own) → Among n c → IsOwn p.templates.nodes path a (frame_at w n) c own → is_plain own ≡ true → IsQuietBox (inner f (content n c) no_goals)

    abbrev ReducesQuietly : ℕ → Clause → List Label → Goals → Type 0
    ReducesQuietly n c ls gs = (x : Works p w next f (content n c) (guard_goals n c) ls (content n c) gs) × KeepsEquations p w next f (content n c) (guard_goals n c) ls (content n c) gs x
        × (plainly ≡ true → IsQuietWhere p w next f (content n c) (guard_goals n c) ls (content n c) gs x)

    module _ (quiet : PlainAreQuiet) where
      quietly : (n : ℕ) (c : Clause) (own : Own) (ls : List Label) (gs : Goals) → Among n c → IsOwn p.templates.nodes path a (frame_at w n) c own → EvaluatesPlainly plainly c own
          → Reduces p w next f (content n c) (guard_goals n c) ls gs → ReducesQuietly n c ls gs
      quietly n c own ls gs m h plain x = (
        x.0,
        x.1,
        λ e. elim (plain e) [
          | inl none ↦ quiet_without p w next f (content n c) (guard_goals n c) ls (content n c) gs x.0
              (ap (λ (codes : List Code). with_atoms w (n + 2) (atoms_of p.templates.nodes (frame_at w n) codes) no_goals) none)
          | inr q ↦ x.2 (quiet n c own m h q)
        ],
      )

      left_quietly : (n : ℕ) (c : Clause) (cs : List Clause) (ls : List Label) (l : Left) → AreWithin n (c ∷ cs) → IsLeft p.templates.symbols p.templates.nodes path a w n c cs plainly ls l → l.holds ≡ true → ReducesQuietly n c ls no_goals
      left_quietly n c cs ls l m h q = quietly n c l.own ls no_goals (first_within n c cs m) own h.evaluates (guard_out n c (store_of l) h.store ls true (h.guard q))
        where
          own : IsOwn p.templates.nodes path a (frame_at w n) c l.own
          own = subst (λ (m : Name). IsOwn p.templates.nodes path a m c l.own) h.frame (record { store = subst (λ (m : Name). IsNewStore p.templates.nodes path (length path) m (head_codes a m c) (store_of l) true) (sym h.frame) h.store; plain = h.plain })

      fails_by : (n : ℕ) (c : Clause) (ks : List Label) → Among n c → Goes p.templates.symbols p.templates.nodes path a w n c plainly ks
          → (gs : Goals) × ReducesQuietly n c ks gs × Fails (inner f (content n c) gs)
      fails_by n c _ m (clashes k) = (
        guard_goals n c,
        (rests (content n c) (guard_goals n c), tt, λ e. tt),
        inl (λ q. clash_fails p.templates.nodes path (whole f) stands a (frame_at w n) c k (subst (λ (E : Equations). IsConsistent (E ++ (content n c).equations)) (equations-snoc f.around f.content) q)),
      )
      fails_by n c _ m (refuted own ls h plain e) =
          let o : (gs : Goals) × Reduces p w next f (content n c) (guard_goals n c) ls gs × HasFailed gs = guard_out n c (stored (frame_at w n) own) h.store ls false e in
          (o.0, quietly n c own ls o.0 m h plain o.1, inr o.2)

      fails_on : (n : ℕ) (c : Clause) (cs : List Clause) (ks ls : List Label) (bs : Boxes) → Among n c → Goes p.templates.symbols p.templates.nodes path a w n c plainly ks → Sift plainly (forked (n + (2 + length c.guard)) cs) ls bs
          → Sift plainly (forked n (c ∷ cs)) (ks ++ by w Rule.Fail (Place.Box (name_at w n)) None ∷ ls) bs
      fails_on n c cs ks ls bs m k s =
          let o : (gs : Goals) × ReducesQuietly n c ks gs × Fails (inner f (content n c) gs) = fails_by n c ks m k in
          (fails (content n c) (guard_goals n c) (content n c) o.0 ks (forked (n + (2 + length c.guard)) cs) ls bs o.1.0 o.2 s.0, (o.1.1, s.1), λ e. (o.1.2 e, s.2 e))

      stays_on : (b : Content) (gs hs : Goals) (bs : Boxes) (ks ls : List Label) (cs : Boxes) → (x : Works p w next f b gs ks b hs) × KeepsEquations p w next f b gs ks b hs x × (plainly ≡ true → IsQuietWhere p w next f b gs ks b hs x)
          → Sift plainly bs ls cs → Sift plainly (box b gs bs) (ks ++ ls) (box b hs cs)
      stays_on b gs hs bs ks ls cs x s = (stays b gs b hs ks bs ls cs x.0 s.0, (x.1, s.1), λ e. (x.2 e, s.2 e))

      -- all of them are left
      pub all_stay : (bs : Boxes) → Sift plainly bs [] bs
      all_stay no_boxes = (ends, tt, λ e. tt)
      all_stay (box b gs bs) = stays_on b gs gs bs [] [] bs (rests b gs, tt, λ e. tt) (all_stay bs)

      -- up to the one that is left
      pub record Passed (n : ℕ) (cs : List Clause) (ls : List Label) (l : Left) : Type 0 where
        pub number : ℕ
        pub clause : Clause
        pub behind : List Clause
        pub evaluations : List Label
        pub left : IsLeft p.templates.symbols p.templates.nodes path a w number clause behind plainly evaluations l
        pub names : number + drawn_by (clause ∷ behind) ≡ n + drawn_by cs
        pub within : AreWithin number (clause ∷ behind)
        pub sifts : l.holds ≡ true → (ks : List Label) (bs : Boxes) → Sift plainly (forked (number + (2 + length clause.guard)) behind) ks bs → Sift plainly (forked n cs) (ls ++ ks) (box (content number clause) no_goals bs)

      abbrev pub Result : ℕ → List Clause → List Label → Option Left → Type 0
      Result n cs ls None = Sift plainly (forked n cs) ls no_boxes
      Result n cs ls (Some l) = Passed n cs ls l

      one_more : (n : ℕ) (c : Clause) (cs : List Clause) (ks ls : List Label) (o : Option Left) → Among n c → Goes p.templates.symbols p.templates.nodes path a w n c plainly ks → Result (n + (2 + length c.guard)) cs ls o
          → Result n (c ∷ cs) (ks ++ by w Rule.Fail (Place.Box (name_at w n)) None ∷ ls) o
      one_more n c cs ks ls None m k r = fails_on n c cs ks ls no_boxes m k r
      one_more n c cs ks ls (Some l) m k r = record {
        number = r.number;
        clause = r.clause;
        behind = r.behind;
        evaluations = r.evaluations;
        left = r.left;
        names = let e : r.number + drawn_by (r.clause ∷ r.behind) ≡ n + (2 + length c.guard) + drawn_by cs = r.names in omega arith;
        within = r.within;
        sifts = λ q js bs s. subst (λ (is : List Label). Sift plainly (forked n (c ∷ cs)) is (box (content r.number r.clause) no_goals bs)) (sym (append_assoc ks (by w Rule.Fail (Place.Box (name_at w n)) None ∷ ls) js))
            (fails_on n c cs ks (ls ++ js) (box (content r.number r.clause) no_goals bs) m k (r.sifts q js bs s));
      }

      pub passed : (n : ℕ) (cs : List Clause) (ls : List Label) (o : Option Left) → AreWithin n cs → Leaves p.templates.symbols p.templates.nodes path a w plainly n cs ls o → Result n cs ls o
      passed _ _ _ _ m (none_left n) = (ends, tt, λ e. tt)
      passed _ _ _ _ m (goes n c cs ks ls o k h) = one_more n c cs ks ls o (first_within n c cs m) k (passed (n + (2 + length c.guard)) cs ls o (rest_within n c cs m) h)
      passed _ _ _ _ m (is_left n c cs ls l h) = record {
        number = n;
        clause = c;
        behind = cs;
        evaluations = ls;
        left = h;
        names = refl;
        within = m;
        sifts = λ q ks bs s. stays_on (content n c) (guard_goals n c) no_goals (forked (n + (2 + length c.guard)) cs) ls ks bs (left_quietly n c cs ls l m h q) s;
      }
