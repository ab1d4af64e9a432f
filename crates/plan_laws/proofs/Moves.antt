-- Where a box stands after a label, and what its equations were before.
use Rattle.std.proofs.Common.{◌≡◌, ℕ, ◌≤◌, ◌<◌, List, [], ◌∷◌, ◌++◌, Some, refl, sym, ◌∙◌, ap, subst, ◌⊎◌, inl, inr, arith, append_assoc, append-nil}
use Rattle.std.specs.Prelude.{slice_index}
use Rattle.akl_terms.specs.declared.name.Name.{Name}
use Rattle.akl_terms.specs.declared.name.Var.{Var}
use Rattle.akl_terms.specs.declared.name.Place.{Place}
use Rattle.akl_terms.specs.declared.program.Program.{Program}
use Rattle.akl_terms.specs.Tree.{Tree, variable}
use Rattle.akl_terms.specs.Equal.{Equations, IsTold, Equal, IsConsistent, IsStructured}
use Rattle.akl_terms.specs.Touching.{IsOutside, IsTied}
use Rattle.akl_terms.proofs.EqualLaws.{IsConsistent-follows, IsTold-left, IsTold-right, IsTold-either}
use Rattle.akl_model.specs.declared.label.Rule.{Rule}
use Rattle.akl_model.specs.declared.label.Label.{Label}
use Rattle.akl_terms.specs.Names.{same_name}
use Rattle.akl_model.specs.Config.{IsIn, Content, no_boxes, box, Goals, Config, Found, equations_of, environment, whole, box_at}
use Rattle.akl_model.specs.Stable.{only, frames_of}
use Rattle.akl_model.specs.Derivations.{Applies}
use Rattle.constraint_laws.specs.Bound.{IsNewlyBound}
use Rattle.akl_model.specs.Changes.{Binds}
use Rattle.akl_model.specs.Wakes.{StandsIn, Opens, bound_outside, TellsOutside, names_around}
use Rattle.akl_model.proofs.Options.{some_value}
use Rattle.akl_model.proofs.Finds.{times, box_at-some}
use Rattle.akl_terms.proofs.SameNames.{same_name-refl}
use Rattle.akl_model.proofs.Drawn.{drawn_times}
use Rattle.constraint_laws.proofs.Decided.{equal_or, structured_or}
use Rattle.constraint_laws.proofs.SameTerms.{Either}
use Rattle.akl_model.proofs.NamesKept.{box-itself}
use Rattle.akl_model.proofs.QuietGrows.{equations-snoc}
use Rattle.constraint_laws.specs.Inward.{Level, TouchesNoneBound, Adding, IsBoundBy}
use Rattle.constraint_laws.proofs.LeavesKept.{LeavesKept}
use Rattle.constraint_laws.specs.Touched.{IsAmong}
use Rattle.constraint_laws.proofs.Beside.{follows_told}
use Rattle.constraint_laws.proofs.Inward.{Reached, reached_itself, reached_further, touched_further}
use Rattle.akl_model.specs.Names.{one_if}
use Rattle.step_laws.specs.Whereabouts.{InGoals, StandsAmong}
use Rattle.step_laws.proofs.Whereabouts.{found_in}
use Rattle.step_laws.proofs.Deeper.{above_among, found_deeper}
use Rattle.step_laws.proofs.Becomes.{AllDrawn, Becomes}
use Rattle.step_laws.proofs.Steps as steps
use Rattle.step_laws.proofs.Steps.{Moved, Aside, site_now}
use Rattle.plan_laws.proofs.InScope.{Good, outside_environment, touched_scoped, tied_scoped, outside_kept}

-- a list of boxes one inside another
pub equations-append : (A B : List Content) → equations_of (A ++ B) ≡ equations_of A ++ equations_of B
equations-append [] B = refl
equations-append (b ∷ A) B = ap (λ (E : Equations). b.equations ++ E) (equations-append A B) ∙ sym (append_assoc b.equations (equations_of A) (equations_of B))

pub told_further : (A B : List Content) (s t : Tree) → IsTold (equations_of A) s t → IsTold (equations_of (A ++ B)) s t
told_further A B s t m = subst (λ (E : Equations). IsTold E s t) (sym (equations-append A B)) (IsTold-left (equations_of A) (equations_of B) s t m)

pub further-snoc : (A R : List Content) (c b : Content) → equations_of (A ++ c ∷ (R ++ b ∷ [])) ≡ equations_of (A ++ c ∷ R) ++ b.equations
further-snoc A R c b = ap equations_of (sym (append_assoc A (c ∷ R) (b ∷ []))) ∙ equations-snoc (A ++ c ∷ R) b

-- the boxes of these names touch only variables that are kept
abbrev pub AroundFor : Config → List Var → List Name → Type 0
AroundFor c kept ns = (n : Name) → IsIn n ns → (m : Found) → box_at n c.roots ≡ Some m → IsConsistent (whole m) → (x : Var) → TellsOutside m x → IsAmong x kept

-- each box of these names is there, with the boxes around it among them
pub record AreChain (c : Config) (ns : List Name) : Type 0 where
  pub found : (n : Name) → IsIn n ns → (f : Found) × (box_at n c.roots ≡ Some f) × ((b : Name) → IsIn b (names_around f) → IsIn b ns)

-- a box with the same equations and the same around it touches in one configuration what it touches in the other
pub same_touched : (c d : Config) (w : Good c) (v : Good d) (n : Name) (f g : Found) → box_at n c.roots ≡ Some f → box_at n d.roots ≡ Some g → g.around ≡ f.around → g.content ≡ f.content → (x : Var) → TellsOutside g x → TellsOutside f x
same_touched c d w v n f g e i path own x t = record { unbound = record { outside = here; unstructured = λ s. t.unbound.unstructured (subst (λ (E : Equations). IsStructured E x) (sym env) s) }; told = on t.told }
  where
    env : environment g ≡ environment f
    env = ap equations_of path

    all : whole g ≡ whole f
    all = λ k. equations_of (path k) ++ (own k).equations

    outer : (y : Var) → Rattle.plan_laws.proofs.InScope.InScope d v n g i y → IsOutside (frames_of (only g)) y → IsOutside (frames_of (only f)) y
    outer y h o = outside_kept c d w v n f g e i path y h o

    here : IsOutside (frames_of (only f)) x
    here = outer x (touched_scoped d v n g i (frames_of (only g)) (environment g) x t) t.unbound.outside

    on : (IsStructured (whole g) x ⊎ ((y : Var) × IsTied (frames_of (only g)) (environment g) (whole g) x y)) → (IsStructured (whole f) x ⊎ ((y : Var) × IsTied (frames_of (only f)) (environment f) (whole f) x y))
    on (inl s) = inl (subst (λ (E : Equations). IsStructured E x) all s)
    on (inr (y, tie)) = inr (
      y,
      record {
        other = record {
          outside = outer y (tied_scoped d v n g i (frames_of (only g)) (environment g) x y tie) tie.other.outside;
          unstructured = λ s. tie.other.unstructured (subst (λ (E : Equations). IsStructured E y) (sym env) s);
        };
        equal = subst (λ (E : Equations). Equal E (variable x) (variable y)) all tie.equal;
        apart = λ q. tie.apart (subst (λ (E : Equations). Equal E (variable x) (variable y)) (sym env) q);
      },
    )

module _ (rules : List Rule) (p : Program) (c : Config) (l : Label) (d : Config) (w : Good c) (v : Good d) (a : Applies rules p c l d) where
  abbrev pub next : ℕ
  next = slice_index c.next l.worker

  abbrev pub Changed : Type 0
  Changed = Becomes l.worker (slice_index c.next l.worker) a.site a.change

  pub site_found : box_at a.site.content.name c.roots ≡ Some a.site
  site_found = steps.found rules p c l d w.stand a

  pub old : (n : Name) → 0 < times n c.roots → 0 < drawn_times n l.worker (slice_index c.next l.worker) a.change.drawn → ⊥
  old n x h = steps.not_old rules p c l d w.stand a n h (w.stand.below n x)

  pub site_there : (k : Changed) → box_at a.site.content.name d.roots ≡ Some (site_now k)
  site_there k = steps.site_there rules p c l d w.stand a k

  pub cases : (a.change.boxes ≡ no_boxes) ⊎ Changed
  cases = elim (steps.made rules p c l d w.stand a) [ inl x ↦ inl x.1 | inr x ↦ inr x.0 ]

  pub moved : (m : Name) (f g : Found) → box_at m c.roots ≡ Some f → box_at m d.roots ≡ Some g → Moved l.worker (slice_index c.next l.worker) a.site a.change f g
  moved m f g e i = steps.moved rules p c l d w.stand a f g (found_in m c.roots f e) (found_in m d.roots g i) (sym (box-itself m c.roots f e) ∙ box-itself m d.roots g i)

  -- what binds, and where
  pub site_told : (k : Changed) (s t : Tree) → IsTold (whole a.site) s t → IsTold (whole (site_now k)) s t
  site_told k s t m = elim (IsTold-either (environment a.site) a.site.content.equations s t m) [
    | inl x ↦ IsTold-left (environment a.site) k.content.equations s t x
    | inr x ↦ IsTold-right (environment a.site) k.content.equations s t (subst (λ (E : Equations). IsTold E s t) (sym k.keeps.equations) (IsTold-left a.site.content.equations k.added s t x))
  ]

  pub binder : (k : Changed) (x : Var) → IsConsistent (whole (site_now k)) → IsNewlyBound (whole a.site) (whole (site_now k)) x → Binds c d a.site.content.name x
  binder k x still b = record {
    adds = record { before = a.site; afterwards = site_now k; was = site_found; is = site_there k; more = more };
    consistent = still;
    newly_bound = b;
  }
    where
      more : k.content.equations ≡ a.site.content.equations → ⊥
      more q = on b.told
        where
          r : whole (site_now k) ≡ whole a.site
          r = ap (λ (E : Equations). environment a.site ++ E) q

          on : (IsStructured (whole (site_now k)) x ⊎ ((y : Var) × Equal (whole (site_now k)) (variable x) (variable y) × (Equal (whole a.site) (variable x) (variable y) → ⊥))) → ⊥
          on (inl s) = b.unstructured (subst (λ (E : Equations). IsStructured E x) r s)
          on (inr (y, e, n)) = n (subst (λ (E : Equations). Equal E (variable x) (variable y)) r e)

  -- so a label opens what stands in the site
  pub opens_inside : (k : Changed) (x : Var) (place : Place) → IsConsistent (whole (site_now k)) → IsNewlyBound (whole a.site) (whole (site_now k)) x → IsOutside (frames_of (only (site_now k))) x
      → StandsIn a.site.content.name d.roots place → Opens [] c d place
  unfolding binder
  opens_inside k x place still b o h = bound_outside a.site.content.name (binder k x still b) o h

  -- what the site touches afterwards it touched before, or it is bound and external to it
  pub site_touched : (k : Changed) (x : Var) → IsConsistent (whole (site_now k)) → TellsOutside (site_now k) x
      → TellsOutside a.site x ⊎ (IsNewlyBound (whole a.site) (whole (site_now k)) x × IsOutside (frames_of (only (site_now k))) x)
  site_touched k x still t = on t.told (structured_or (whole a.site) x)
    where
      outer : (y : Var) → Rattle.plan_laws.proofs.InScope.InScope d v a.site.content.name (site_now k) (site_there k) y → IsOutside (frames_of (only (site_now k))) y → IsOutside (frames_of (only a.site)) y
      outer y h o = outside_kept c d w v a.site.content.name a.site (site_now k) site_found (site_there k) refl y h o

      here : IsOutside (frames_of (only a.site)) x
      here = outer x (touched_scoped d v a.site.content.name (site_now k) (site_there k) (frames_of (only (site_now k))) (environment (site_now k)) x t) t.unbound.outside

      Result : Type 0
      Result = TellsOutside a.site x ⊎ (IsNewlyBound (whole a.site) (whole (site_now k)) x × IsOutside (frames_of (only (site_now k))) x)

      on : (IsStructured (whole (site_now k)) x ⊎ ((y : Var) × IsTied (frames_of (only (site_now k))) (environment (site_now k)) (whole (site_now k)) x y)) → Either (IsStructured (whole a.site) x) → Result
      on e (inl s) = inl (record { unbound = record { outside = here; unstructured = t.unbound.unstructured }; told = inl s })
      on (inl s) (inr n) = inr (record { unstructured = n; told = inl s }, t.unbound.outside)
      on (inr (y, tie)) (inr n) = elim (equal_or (whole a.site) (variable x) (variable y)) [
        | inl e ↦ inl (record {
          unbound = record { outside = here; unstructured = t.unbound.unstructured };
          told = inr (
            y,
            record {
              other = record {
                outside = outer y (tied_scoped d v a.site.content.name (site_now k) (site_there k) (frames_of (only (site_now k))) (environment (site_now k)) x y tie) tie.other.outside;
                unstructured = tie.other.unstructured;
              };
              equal = e;
              apart = tie.apart;
            },
          );
        })
        | inr q ↦ inr (record { unstructured = n; told = inr (y, tie.equal, q) }, t.unbound.outside)
      ]

  -- aside a box touches afterwards what it touched before
  pub aside_whole : (f g : Found) → Aside a.site.content.name a.change.boxes f g → whole g ≡ whole f
  aside_whole f g m = λ i. equations_of (m.around i) ++ (m.content i).equations

  pub aside_touched : (n : Name) (f g : Found) → box_at n c.roots ≡ Some f → box_at n d.roots ≡ Some g → Aside a.site.content.name a.change.boxes f g → (x : Var) → TellsOutside g x → TellsOutside f x
  aside_touched n f g e i m x t = same_touched c d w v n f g e i m.around m.content x t

  -- down from the site to a box inside it
  module _ (kept : List Var) (ns : List Name) (unbound : (n : Name) → IsIn n ns → (x : Var) → IsAmong x kept → Binds c d n x → ⊥) where
    module _ (k : Changed) (j : Found) (i : StandsAmong j a.site.goals) (i2 : StandsAmong j k.goals) (around : AroundFor c kept ns)
        (among : (b : Content) (R1 R2 : List Content) → j.around ≡ R1 ++ b ∷ R2 → IsIn b.name ns) (site_in : IsIn a.site.content.name ns) (still : IsConsistent (equations_of (a.site.around ++ k.content ∷ j.around))) where
      abbrev pub before : List Content → List Content
      before R = a.site.around ++ a.site.content ∷ R

      abbrev pub after : List Content → List Content
      after R = a.site.around ++ k.content ∷ R

      abbrev pub first : Equations
      first = whole a.site

      abbrev pub new : Equations
      new = whole (site_now k)

      prefix_consistent : (R1 R2 : List Content) → j.around ≡ R1 ++ R2 → IsConsistent (equations_of (after R1))
      prefix_consistent R1 R2 q = IsConsistent-follows (follows_told (equations_of (after R1)) (equations_of (after j.around))
          (λ s t x. subst (λ (path : List Content). IsTold (equations_of path) s t) (append_assoc a.site.around (k.content ∷ R1) R2 ∙ ap after (sym q)) (told_further (after R1) R2 s t x))) still

      pub new_consistent : IsConsistent new
      new_consistent = subst IsConsistent (equations-snoc a.site.around k.content) (prefix_consistent [] j.around refl)

      adding : Adding first new
      adding = record { keeps = site_told k; consistent = new_consistent }

      not_bound : (x : Var) → IsAmong x kept → IsNewlyBound first new x → ⊥
      not_bound x y b = unbound a.site.content.name site_in x y (binder k x new_consistent b)

      -- one box on the way
      none_bound : (R1 R2 : List Content) (b : Content) → j.around ≡ R1 ++ b ∷ R2 → Reached first new (equations_of (before R1)) (equations_of (after R1))
          → Reached first new (equations_of (before (R1 ++ b ∷ []))) (equations_of (after (R1 ++ b ∷ [])))
      none_bound R1 R2 b q r = subst (λ (E : Equations). Reached first new E (equations_of (after (R1 ++ b ∷ [])))) (sym (further-snoc a.site.around R1 a.site.content b))
          (subst (λ (G : Equations). Reached first new (equations_of (before R1) ++ b.equations) G) (sym (further-snoc a.site.around R1 k.content b))
          (reached_further first new (equations_of (before R1)) (equations_of (after R1)) level r touches_none))
        where
          there : (gs : Goals) × InGoals R1 b gs a.site.goals × InGoals R2 j.content j.goals gs
          there = above_among R1 b R2 j.content j.goals a.site.goals (subst (λ (r : List Content). InGoals r j.content j.goals a.site.goals) q i)

          later : (gs : Goals) × InGoals R1 b gs k.goals × InGoals R2 j.content j.goals gs
          later = above_among R1 b R2 j.content j.goals k.goals (subst (λ (r : List Content). InGoals r j.content j.goals k.goals) q i2)

          fb : Found
          fb = record { around = before R1; content = b; goals = there.0 }

          fb_found : box_at b.name c.roots ≡ Some fb
          fb_found = found_deeper c.roots w.stand.once b.name a.site (record { around = R1; content = b; goals = there.0 }) (steps.site_stands rules p c l d w.stand a) there.1 refl

          -- it has the same goals in both
          goals_same : later.0 ≡ there.0
          goals_same = elim (k.inner R1 b later.0 later.1) [
            | inl x ↦ absurd (drawn x)
            | inr x ↦ ap (λ (u : Found). u.goals) (some_value (sym (found_deeper c.roots w.stand.once b.name a.site (record { around = R1; content = b; goals = later.0 }) (steps.site_stands rules p c l d w.stand a) x refl) ∙ fb_found))
          ]
            where
              drawn : AllDrawn l.worker (slice_index c.next l.worker) a.change.drawn b later.0 → ⊥
              drawn x =
                  let u : times b.name (box b later.0 no_boxes) ≤ drawn_times b.name l.worker (slice_index c.next l.worker) a.change.drawn = x b.name in
                  let o : one_if (same_name b.name b.name) ≡ 1 = ap one_if (same_name-refl b.name) in
                  steps.not_old rules p c l d w.stand a b.name (omega arith) (w.stand.below b.name (let z : 1 ≤ times b.name c.roots = box_at-some b.name c.roots fb fb_found in omega arith))

          gb : Found
          gb = record { around = after R1; content = b; goals = there.0 }

          gb_found : box_at b.name d.roots ≡ Some gb
          gb_found = found_deeper d.roots v.stand.once b.name (site_now k) (record { around = R1; content = b; goals = there.0 }) (found_in a.site.content.name d.roots (site_now k) (site_there k))
              (subst (λ (gs : Goals). InGoals R1 b gs k.goals) goals_same later.1) refl

          level : Level
          level = record { inner = frames_of (only fb); own = b.equations }

          consistent_before : IsConsistent (whole fb)
          consistent_before = IsConsistent-follows (follows_told (whole fb) (equations_of (after (R1 ++ b ∷ [])))
              (λ s t x. subst (λ (E : Equations). IsTold E s t) (sym (further-snoc a.site.around R1 k.content b))
              (elim (IsTold-either (equations_of (before R1)) b.equations s t x) [
                | inl y ↦ IsTold-left (equations_of (after R1)) b.equations s t (r.beside.own_in s t y)
                | inr y ↦ IsTold-right (equations_of (after R1)) b.equations s t y
              ]))) (prefix_consistent (R1 ++ b ∷ []) R2 (q ∙ sym (append_assoc R1 (b ∷ []) R2)))

          touches_none : TouchesNoneBound first new (equations_of (before R1)) (equations_of (after R1)) level
          touches_none = record {
            over = outside_environment d v b.name gb gb_found;
            consistent = consistent_before;
            none_bound = λ x t y. not_bound x (around b.name (among b R1 R2 q) fb fb_found consistent_before x t) y;
          }

      walk : (R1 R2 : List Content) → j.around ≡ R1 ++ R2 → Reached first new (equations_of (before R1)) (equations_of (after R1)) → Reached first new (equations_of (before j.around)) (equations_of (after j.around))
      walk R1 [] q r = subst (λ (R : List Content). Reached first new (equations_of (before R)) (equations_of (after R))) (sym (q ∙ append-nil R1)) r
      walk R1 (b ∷ R2) q r = walk (R1 ++ b ∷ []) R2 (q ∙ sym (append_assoc R1 (b ∷ []) R2)) (none_bound R1 R2 b q r)

      pub reached_env : Reached first new (equations_of (before j.around)) (equations_of (after j.around))
      reached_env = walk [] j.around refl (subst (λ (E : Equations). Reached first new E (equations_of (after []))) (sym (equations-snoc a.site.around a.site.content))
          (subst (λ (G : Equations). Reached first new first G) (sym (equations-snoc a.site.around k.content)) (reached_itself first new adding)))

      -- the box itself
      abbrev pub box_before : Found
      box_before = record j { around = before j.around }

      abbrev pub box_after : Found
      box_after = record j { around = after j.around }

      after_found : box_at j.content.name d.roots ≡ Some box_after
      after_found = found_deeper d.roots v.stand.once j.content.name (site_now k) j (found_in a.site.content.name d.roots (site_now k) (site_there k)) i2 refl

      module _ (own_consistent : IsConsistent (whole box_before)) (own_kept : (x : Var) → TellsOutside box_before x → IsAmong x kept) where
        own_none_bound : TouchesNoneBound first new (environment box_before) (environment box_after) (record { inner = frames_of (only box_before); own = j.content.equations })
        own_none_bound = record {
          over = outside_environment d v j.content.name box_after after_found;
          consistent = own_consistent;
          none_bound = λ x t y. not_bound x (own_kept x t) y;
        }

        pub own_reached : Reached first new (whole box_before) (whole box_after)
        own_reached = reached_further first new (environment box_before) (environment box_after) (record { inner = frames_of (only box_before); own = j.content.equations }) reached_env own_none_bound

        pub own_touched : (x : Var) → TellsOutside box_after x → TellsOutside box_before x
        own_touched x t = touched_further first new (environment box_before) (environment box_after) (record { inner = frames_of (only box_before); own = j.content.equations }) reached_env own_none_bound x t

      pub reached_leaves_kept : (E G : Equations) → Reached first new E G → LeavesKept kept E G
      reached_leaves_kept E G r = record { keeps = r.beside.own_in; unbound = λ x b. let y : IsBoundBy first new E x = r.bound x b in (y.by, y.equal, λ z. not_bound y.by z y.bound) }
