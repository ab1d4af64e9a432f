-- The labels of a call at once bind nothing as an end but what the net change binds.
use Rattle.std.proofs.Common.{◌≡◌, ℕ, List, [], ◌∷◌, ◌++◌, Some, None, refl, sym, ◌∙◌, subst}
use Rattle.std.specs.Prelude.{⊤}
use Rattle.akl_terms.specs.declared.name.Name.{Name}
use Rattle.akl_terms.specs.declared.name.Var.{Var}
use Rattle.akl_terms.specs.declared.name.Place.{Place}
use Rattle.akl_terms.specs.declared.program.Program.{Program}
use Rattle.akl_terms.specs.declared.program.Query.{Query}
use Rattle.akl_terms.specs.Equal.{Equations, told, Follows, IsConsistent}
use Rattle.constraint_laws.specs.Bound.{IsNewlyBound}
use Rattle.constraint_laws.specs.Touched.{IsAmong}
use Rattle.akl_model.specs.declared.label.Rule.{Rule}
use Rattle.akl_model.specs.declared.label.Label.{Label}
use Rattle.akl_model.specs.Config.{Content, Boxes, box, no_boxes, Goals, no_goals, Config, without_goal, Found, equations_of, whole, box_at, home_of}
use Rattle.akl_model.specs.Rules.{joining}
use Rattle.akl_model.specs.Changes.{Adds, Binds}
use Rattle.akl_model.specs.Derivations.{Applies, Derives, Replays}
use Rattle.akl_model.specs.Instances.{start}
use Rattle.akl_model.proofs.NamesKept.{Stand, replay-stands, stands_after}
use Rattle.akl_model.proofs.Results.{Applies-one, Derives-append}
use Rattle.step_laws.specs.Bound.{AreBoundIn}
use Rattle.step_laws.specs.Stays.{GoesOn}
use Rattle.step_laws.proofs.StaysLaws.{equations_grow}
use Rattle.plan_laws.specs.AtOnce.{by, with_named, IsAtOnce, labels_at_once, at_once, AreInForce}
use Rattle.plan_laws.specs.Wakes.{TellsNothing}
use Rattle.plan_laws.proofs.CallAlternatives.{Calling, between, Steps, stops, goes}
use Rattle.plan_laws.proofs.Between.{was_found}
use Rattle.plan_laws.proofs.BodySteps.{homed, Reduces, rests, reduces}
use Rattle.plan_laws.proofs.CallPassage.{body_passage, body_goals, drawn, joined_stands, told_behind, passage, end_home}
use Rattle.plan_laws.proofs.Calls.{calling, forked, fork_applies, fork_adds, middle, steps, promoted, all_labels}
use Rattle.plan_laws.proofs.Passages.{Passage, never_bound, bound_first, bound_then}
use Rattle.plan_laws.proofs.Sifted.{joined_to}
use Rattle.reading_laws.specs.Ends.{IsEndAt, SparesEnd}
use Rattle.reading_laws.proofs.Unlisted.{is_listed}

-- what one of many labels binds in a box, all of them bind there, where nothing changes around it
module _ (rules : List Rule) (p : Program) (q : Query) (journal : List Label) (c : Config) (r : Replays rules p q journal c) (front : List Label) (n : Config) (first : Derives rules p c front n)
    (l : Label) (o : Config) (a : Applies rules p n l o) (ls : List Label) (e : Config) (last : Derives rules p o ls e) (h : Name) (f k : Found) (was : box_at h c.roots ≡ Some f) (is : box_at h e.roots ≡ Some k)
    (around : k.around ≡ f.around) (consistent : IsConsistent (whole k)) (v : Var) where
  to_here : GoesOn rules p c front n
  to_here = record { query = q; journal = journal; replays = r; derives = first }

  from_there : GoesOn rules p o ls e
  from_there = record {
    query = q;
    journal = (journal ++ front) ++ l ∷ [];
    replays = record { derives = Derives-append rules p (start p q) n o (journal ++ front) (l ∷ []) (Derives-append rules p (start p q) c n journal front r.derives first) (o, a, refl) };
    derives = last;
  }

  pub all_bind : Binds n o h v → Binds c e h v
  all_bind b = record {
    adds = record { before = f; afterwards = k; was = was; is = is; more = λ s. never_bound (whole f) v (subst (λ (E : Equations). IsNewlyBound (whole f) E v) (λ i. equations_of (around i) ++ s i) newly) };
    consistent = consistent;
    newly_bound = newly;
  }
    where
      before : Follows (whole f) (whole b.adds.before)
      before = record { each = λ {s} {t} m. told (equations_grow rules p c front n to_here h f b.adds.before was b.adds.was s t m) }

      behind : Follows (whole b.adds.afterwards) (whole k)
      behind = record { each = λ {s} {t} m. told (equations_grow rules p o ls e from_there h b.adds.afterwards k b.adds.is is s t m) }

      newly : IsNewlyBound (whole f) (whole k) v
      newly = bound_then (whole f) (whole b.adds.before) (whole k) v before (bound_first (whole b.adds.before) (whole b.adds.afterwards) (whole k) v behind b.newly_bound)

module _ (rules : List Rule) (force : AreInForce rules) (p : Program) (q : Query) (journal : List Label) (c : Config) (r : Replays rules p q journal c) (w : ℕ) (g : Name) (f : Found) (is_home : home_of g c.roots ≡ Some f)
    (x : IsAtOnce p c w g f) (tells : TellsNothing x) (list : List Var) (bound : AreBoundIn c (at_once x) f list) (v : Var) (absent : IsAmong v list → ⊥) where
  s : Stand c
  s = replay-stands rules p q journal c r

  abbrev k : Calling
  k = calling rules force p c s w g f is_home x

  abbrev first : Boxes
  first = forked rules force p c s w g f is_home x

  abbrev last : Boxes
  last = box x.last no_goals no_boxes

  abbrev fork : Label
  fork = by w Rule.Fork (Place.Goal g) None

  abbrev promote : Label
  promote = by w Rule.Promote (Place.Goal g) (Some x.last.name)

  abbrev others : List Label
  others = middle rules force p c s w g f is_home x ⊤ (λ u. tells)

  abbrev m : ℕ
  m = drawn rules force p c s w g f is_home x ⊤ (λ u. tells)

  abbrev left : Goals
  left = with_named x.goals_left (without_goal g f.goals)

  -- a label that adds equations to the call's box alone
  spares_here : (front : List Label) (n : Config) → Derives rules p c front n → (l : Label) (o : Config) → Applies rules p n l o → (ls : List Label) → Derives rules p o ls (at_once x)
      → ((i : Name) → Adds n o i → i ≡ f.content.name) → (i : Name) → IsEndAt n i v → Binds n o i v → ⊥
  spares_here front n d l o a ls more adds i ends b =
      absent (is_listed rules p c front n (record { query = q; journal = journal; replays = r; derives = d }) l o a f.content.name f here.adds.before was here.adds.was list bound.oldest v end_here (bound.every v net) here)
    where
      end_here : IsEndAt n f.content.name v
      end_here = subst (λ (u : Name). IsEndAt n u v) (adds i b.adds) ends

      was : box_at f.content.name c.roots ≡ Some f
      was = was_found c s g f is_home

      here : Binds n o f.content.name v
      here = subst (λ (u : Name). Binds n o u v) (adds i b.adds) b

      net : Binds c (at_once x) f.content.name v
      net = all_bind rules p q journal c r front n d l o a ls (at_once x) more f.content.name f (record { around = f.around; content = x.after; goals = left }) was
          (end_home rules force p c s w g f is_home x ⊤ (λ u. tells)) refl x.consistent v here

  further : (front : List Label) (n : Config) (l : Label) (o : Config) → Derives rules p c front n → Applies rules p n l o → Derives rules p c (front ++ l ∷ []) o
  further front n l o d a = Derives-append rules p c n o front (l ∷ []) d (o, a, refl)

  -- the labels of the body
  body_spares : (b : Content) (gs : Goals) (ls : List Label) → Reduces k m b gs ls x.after left → b.name ≡ f.content.name → Stand (homed k m b gs)
      → (front : List Label) (n : Config) → n ≡ homed k m b gs → Derives rules p c front n → (d : Derives rules p n ls (at_once x)) → SparesEnd rules p n ls (at_once x) d v
  body_spares _ _ _ (rests b gs) its t front n e up d = tt
  body_spares _ _ _ (reduces b gs l b1 gs1 ls b2 gs2 y z) its t front n e up d =
      let u : Passage f.content.name (homed k m b gs) (homed k m b1 gs1) (at_once x) = body_passage k m b gs l b1 gs1 ls x.after left y z its t x.consistent in
      let is : d.0 ≡ homed k m b1 gs1 = Applies-one (subst (λ (o : Config). Applies rules p o l d.0) e d.1) y.applies in (
        spares_here front n up l d.0 d.1 ls d.2 (λ i a. u.adds i (subst (λ (o : Config). Adds o (homed k m b1 gs1) i) e (subst (λ (o : Config). Adds n o i) is a))),
        body_spares b1 gs1 ls z (y.name ∙ its) (stands_after rules p (homed k m b gs) l (homed k m b1 gs1) t y.applies) (front ++ l ∷ []) d.0 is (further front n l d.0 up d.1) d.2,
      )

  -- the promotion, and those behind it
  promote_spares : (front : List Label) (n : Config) → n ≡ between k last → Derives rules p c front n → (d : Derives rules p n (promote ∷ x.body_labels) (at_once x)) → SparesEnd rules p n (promote ∷ x.body_labels) (at_once x) d v
  promote_spares front n e up d =
      let u : Passage f.content.name (between k last) (joined_to k x.last) (at_once x) = passage rules force p c s w g f is_home x ⊤ (λ u. tells) in
      let is : d.0 ≡ joined_to k x.last = Applies-one (subst (λ (o : Config). Applies rules p o promote d.0) e d.1) (promoted rules force p c s w g f is_home x ⊤ (λ u. tells)) in (
        spares_here front n up promote d.0 d.1 x.body_labels d.2 (λ i a. u.adds i (subst (λ (o : Config). Adds o (joined_to k x.last) i) e (subst (λ (o : Config). Adds n o i) is a))),
        body_spares (joining x.last f.content) (body_goals rules force p c s w g f is_home x ⊤ (λ u. tells)) x.body_labels (told_behind rules force p c s w g f is_home x ⊤ (λ u. tells)) refl
            (joined_stands rules force p c s w g f is_home x ⊤ (λ u. tells)) (front ++ promote ∷ []) d.0 is (further front n promote d.0 up d.1) d.2,
      )

  -- those before it
  steps_spare : (bs : Boxes) (ls : List Label) (cs : Boxes) → Steps k ⊤ bs ls cs → (front : List Label) (n : Config) → n ≡ between k bs → Derives rules p c front n → (ks : List Label) (d : Derives rules p n (ls ++ ks) (at_once x))
      → ((front1 : List Label) (n1 : Config) → n1 ≡ between k cs → Derives rules p c front1 n1 → (d1 : Derives rules p n1 ks (at_once x)) → SparesEnd rules p n1 ks (at_once x) d1 v) → SparesEnd rules p n (ls ++ ks) (at_once x) d v
  steps_spare _ _ _ (stops bs) front n e up ks d end = end front n e up d
  steps_spare _ _ _ (goes l bs cs ls ds new at a none z) front n e up ks d end =
      let is : d.0 ≡ between k cs = Applies-one (subst (λ (o : Config). Applies rules p o l d.0) e d.1) a in (
        λ i ends b. none tt i (subst (λ (o : Config). Adds o (between k cs) i) e (subst (λ (o : Config). Adds n o i) is b.adds)),
        steps_spare cs ls ds z (front ++ l ∷ []) d.0 is (further front n l d.0 up d.1) ks d.2 end,
      )

  all_spare : (d : Derives rules p c (fork ∷ (others ++ promote ∷ x.body_labels)) (at_once x)) → SparesEnd rules p c (fork ∷ (others ++ promote ∷ x.body_labels)) (at_once x) d v
  all_spare d =
      let is : d.0 ≡ between k first = Applies-one d.1 (fork_applies rules force p c s w g f is_home x) in (
        λ i ends b. fork_adds rules force p c s w g f is_home x i (subst (λ (o : Config). Adds c o i) is b.adds),
        steps_spare first others last (steps rules force p c s w g f is_home x ⊤ (λ u. tells)) (fork ∷ []) d.0 is (d.0, d.1, refl) (promote ∷ x.body_labels) d.2 promote_spares,
      )

  pub call_spares : (d : Derives rules p c (labels_at_once x) (at_once x)) → SparesEnd rules p c (labels_at_once x) (at_once x) d v
  call_spares = subst (λ (ls : List Label). (d : Derives rules p c ls (at_once x)) → SparesEnd rules p c ls (at_once x) d v) (sym (all_labels rules force p c s w g f is_home x ⊤ (λ u. tells))) all_spare
