-- What the boxes around a place touch, and what is bound in them, over one label that passes it by.
use Rattle.std.proofs.Common.{◌≡◌, List, [], ◌∷◌, ◌++◌, map, Some, refl, sym, ◌∙◌, ap, subst, ◌⊎◌, inl, inr, append_assoc}
use Rattle.std.specs.Prelude.{slice_index}
use Rattle.akl_terms.specs.declared.name.Name.{Name}
use Rattle.akl_terms.specs.declared.name.Var.{Var}
use Rattle.akl_terms.specs.declared.name.Place.{Place}
use Rattle.akl_terms.specs.declared.program.Program.{Program}
use Rattle.akl_terms.specs.Tree.{variable}
use Rattle.akl_terms.specs.Equal.{Equations, IsTold, Equal, same, IsConsistent, IsStructured}
use Rattle.akl_terms.specs.Touching.{IsOutside}
use Rattle.akl_terms.proofs.EqualLaws.{IsConsistent-follows, IsTold-left, IsTold-right, IsTold-either}
use Rattle.akl_model.specs.declared.label.Rule.{Rule}
use Rattle.akl_model.specs.declared.label.Label.{Label}
use Rattle.akl_model.specs.Config.{IsIn, Content, Config, Found, equations_of, environment, whole, box_at}
use Rattle.akl_model.specs.Stable.{only, frames_of}
use Rattle.akl_model.specs.Derivations.{Applies}
use Rattle.constraint_laws.specs.Bound.{IsNewlyBound}
use Rattle.akl_model.specs.Changes.{Binds}
use Rattle.akl_model.specs.Wakes.{StandsIn, Opens, TellsOutside, names_around, names_down_to}
use Rattle.akl_model.proofs.NamesKept.{box-itself}
use Rattle.constraint_laws.proofs.Beside.{left_follows, follows_told}
use Rattle.akl_model.proofs.OnlySplits.{Under, under}
use Rattle.akl_model.proofs.Scoped.{IsIn-left, IsIn-right, IsIn-either}
use Rattle.constraint_laws.specs.Touched.{IsAmong}
use Rattle.constraint_laws.proofs.Inward.{Reached}
use Rattle.step_laws.proofs.Becomes.{Becomes}
use Rattle.step_laws.proofs.Steps.{Moved, aside, at_site, inside, site_now}
use Rattle.step_laws.proofs.Deeper.{in_path, path_in}
use Rattle.plan_laws.proofs.InScope.{Good}
use Rattle.plan_laws.proofs.Moves.{AroundFor, AreChain, moved, site_told, binder, opens_inside, site_touched, aside_whole, aside_touched, reached_env, own_reached, own_touched, reached_leaves_kept}
use Rattle.constraint_laws.proofs.LeavesKept.{LeavesKept}

-- the boxes around one that is found are a chain, and so they are with it
pub chain_around : (c : Config) → Good c → (n : Name) (f : Found) → box_at n c.roots ≡ Some f → AreChain c (names_around f)
chain_around c w n f e = record {
  found = λ b h. let u : Under b c.roots n f = under b n c.roots f w.stand.once e h in
      (u.outer, u.is_outer, λ k i. subst (λ (g : Found). IsIn k (names_around g)) u.whole_path (path_in u.outer.around (u.outer.content ∷ u.inner.around) k i));
}

pub chain_down : (c : Config) → Good c → (n : Name) (f : Found) → box_at n c.roots ≡ Some f → AreChain c (names_down_to f)
chain_down c w n f e = record { found = λ b h. on b (IsIn-either b (names_around f) (f.content.name ∷ []) h) }
  where
    on : (b : Name) → IsIn b (names_around f) ⊎ IsIn b (f.content.name ∷ []) → (g : Found) × (box_at b c.roots ≡ Some g) × ((k : Name) → IsIn k (names_around g) → IsIn k (names_around f ++ f.content.name ∷ []))
    on b (inl h) =
        let u : (g : Found) × (box_at b c.roots ≡ Some g) × ((k : Name) → IsIn k (names_around g) → IsIn k (names_around f)) = (chain_around c w n f e).found b h in
        (u.0, u.1, λ k i. IsIn-left k (names_around f) (f.content.name ∷ []) (u.2 k i))
    on b (inr (inl r)) = (f, subst (λ (k : Name). box_at k c.roots ≡ Some f) (box-itself n c.roots f e ∙ sym r) e, λ k i. IsIn-left k (names_around f) (f.content.name ∷ []) i)
    on b (inr (inr r)) = absurd r

module _ (rules : List Rule) (p : Program) (c : Config) (l : Label) (d : Config) (w : Good c) (v : Good d) (a : Applies rules p c l d)
    (kept : List Var) (ns : List Name) (unbound : (n : Name) → IsIn n ns → (x : Var) → IsAmong x kept → Binds c d n x → ⊥) where
  -- the boxes on the way to one inside the site are of the chain
  module _ (around : AroundFor c kept ns) (k : Becomes l.worker (slice_index c.next l.worker) a.site a.change) (j : Found) (f : Found)
      (up : (b : Name) → IsIn b (names_around f) → IsIn b ns) (q : f ≡ record j { around = a.site.around ++ a.site.content ∷ j.around }) where
    among : (b : Content) (R1 R2 : List Content) → j.around ≡ R1 ++ b ∷ R2 → IsIn b.name ns
    among b R1 R2 r = up b.name (subst (λ (path : List Content). IsIn b.name (map (λ (b : Content). b.name) path)) path (in_path (a.site.around ++ a.site.content ∷ R1) b R2))
      where
        path : (a.site.around ++ a.site.content ∷ R1) ++ b ∷ R2 ≡ f.around
        path = append_assoc a.site.around (a.site.content ∷ R1) (b ∷ R2) ∙ ap (λ (R : List Content). a.site.around ++ a.site.content ∷ R) (sym r) ∙ sym (ap (λ (u : Found). u.around) q)

    site_in : IsIn a.site.content.name ns
    site_in = up a.site.content.name (subst (λ (path : List Content). IsIn a.site.content.name (map (λ (b : Content). b.name) path)) (sym (ap (λ (u : Found). u.around) q)) (in_path a.site.around a.site.content j.around))

  -- a box that is inside the site
  inside_consistent : (k : Becomes l.worker (slice_index c.next l.worker) a.site a.change) (j : Found)
      → Reached (whole a.site) (whole (site_now k)) (equations_of (a.site.around ++ a.site.content ∷ j.around)) (equations_of (a.site.around ++ k.content ∷ j.around))
      → IsConsistent (equations_of (a.site.around ++ k.content ∷ j.around) ++ j.content.equations) → IsConsistent (equations_of (a.site.around ++ a.site.content ∷ j.around) ++ j.content.equations)
  inside_consistent k j r h = IsConsistent-follows (follows_told _ _ (λ s t x. elim (IsTold-either (equations_of (a.site.around ++ a.site.content ∷ j.around)) j.content.equations s t x) [
    | inl y ↦ IsTold-left (equations_of (a.site.around ++ k.content ∷ j.around)) j.content.equations s t (r.beside.own_in s t y)
    | inr y ↦ IsTold-right (equations_of (a.site.around ++ k.content ∷ j.around)) j.content.equations s t y
  ])) h

  -- no label at a box of the chain binds what is external to it
  abbrev pub Shut : Name → Type 0
  Shut n = (k : Becomes l.worker (slice_index c.next l.worker) a.site a.change) (x : Var) → n ≡ a.site.content.name → IsConsistent (whole (site_now k)) → IsNewlyBound (whole a.site) (whole (site_now k)) x
      → IsOutside (frames_of (only (site_now k))) x → ⊥

  -- since it opens a place inside it
  pub shut_inside : (place : Place) → (Opens [] c d place → ⊥) → (n : Name) → StandsIn n d.roots place → Shut n
  shut_inside place unopened n h k x q still b o = unopened (opens_inside rules p c l d w v a k x place still b o (subst (λ (m : Name). StandsIn m d.roots place) q h))

  pub around_step : AreChain c ns → ((n : Name) → IsIn n ns → Shut n) → AroundFor c kept ns → AroundFor d kept ns
  around_step chain shut around n h g i still x t = on (moved rules p c l d w v a n f g e i)
    where
      there : (f : Found) × (box_at n c.roots ≡ Some f) × ((b : Name) → IsIn b (names_around f) → IsIn b ns)
      there = chain.found n h

      f : Found
      f = there.0

      e : box_at n c.roots ≡ Some f
      e = there.1

      on : Moved l.worker (slice_index c.next l.worker) a.site a.change f g → IsAmong x kept
      on (aside m) = around n h f e (subst IsConsistent (aside_whole rules p c l d w v a f g m) still) x (aside_touched rules p c l d w v a n f g e i m x t)
      on (at_site k q r) = elim (site_touched rules p c l d w v a k x (subst (λ (u : Found). IsConsistent (whole u)) r still) (subst (λ (u : Found). TellsOutside u x) r t)) [
        | inl y ↦ around n h f e before x (subst (λ (u : Found). TellsOutside u x) (sym q) y)
        | inr y ↦ absurd (shut n h k x (box-itself n c.roots f e ∙ ap (λ (u : Found). u.content.name) q) (subst (λ (u : Found). IsConsistent (whole u)) r still) y.0 y.1)
      ]
        where
          before : IsConsistent (whole f)
          before = subst (λ (u : Found). IsConsistent (whole u)) (sym q)
              (IsConsistent-follows (follows_told (whole a.site) (whole (site_now k)) (site_told rules p c l d w v a k)) (subst (λ (u : Found). IsConsistent (whole u)) r still))
      on (inside k j i1 i2 q r) = around n h f e (subst (λ (u : Found). IsConsistent (whole u)) (sym q) before) x
          (subst (λ (u : Found). TellsOutside u x) (sym q) (own_touched rules p c l d w v a kept ns unbound k j i1 i2 around (among around k j f there.2 q) (site_in around k j f there.2 q) env before own x (subst (λ (u : Found). TellsOutside u x) r t)))
        where
          all : IsConsistent (equations_of (a.site.around ++ k.content ∷ j.around) ++ j.content.equations)
          all = subst (λ (u : Found). IsConsistent (whole u)) r still

          env : IsConsistent (equations_of (a.site.around ++ k.content ∷ j.around))
          env = IsConsistent-follows (left_follows (equations_of (a.site.around ++ k.content ∷ j.around)) j.content.equations) all

          before : IsConsistent (equations_of (a.site.around ++ a.site.content ∷ j.around) ++ j.content.equations)
          before = inside_consistent k j (reached_env rules p c l d w v a kept ns unbound k j i1 i2 around (among around k j f there.2 q) (site_in around k j f there.2 q) env) all

          own : (y : Var) → TellsOutside (record j { around = a.site.around ++ a.site.content ∷ j.around }) y → IsAmong y kept
          own y u = around n h f e (subst (λ (u : Found). IsConsistent (whole u)) (sym q) before) y (subst (λ (z : Found). TellsOutside z y) (sym q) u)

  -- nothing is bound where the equations are the same
  same_leaves_kept : (E G : Equations) → G ≡ E → LeavesKept kept E G
  same_leaves_kept E G q = record { keeps = λ s t m. subst (λ (F : Equations). IsTold F s t) (sym q) m; unbound = λ x b. absurd (on x b) }
    where
      on : (x : Var) → IsNewlyBound E G x → ⊥
      on x b = elim b.told [
        | inl s ↦ b.unstructured (subst (λ (F : Equations). IsStructured F x) q s)
        | inr y ↦ y.2 (subst (λ (F : Equations). Equal F (variable x) (variable y.0)) q y.1)
      ]

  -- the equations around a box
  pub around_leaves_kept : (m : Name) (f g : Found) → AroundFor c kept ns → ((b : Name) → IsIn b (names_around f) → IsIn b ns)
      → Moved l.worker (slice_index c.next l.worker) a.site a.change f g → IsConsistent (environment g) → LeavesKept kept (environment f) (environment g)
  around_leaves_kept m f g around up (aside x) h = same_leaves_kept (environment f) (environment g) (ap equations_of x.around)
  around_leaves_kept m f g around up (at_site k q r) h = same_leaves_kept (environment f) (environment g) (ap environment r ∙ sym (ap environment q))
  around_leaves_kept m f g around up (inside k j i i2 q r) h =
      subst (λ (u : Found). LeavesKept kept (environment u) (environment g)) (sym q) (subst (λ (u : Found). LeavesKept kept (environment (record j { around = a.site.around ++ a.site.content ∷ j.around })) (environment u)) (sym r)
      (reached_leaves_kept rules p c l d w v a kept ns unbound k j i i2 around (among around k j f up q) (site_in around k j f up q) env (equations_of (a.site.around ++ a.site.content ∷ j.around)) (equations_of (a.site.around ++ k.content ∷ j.around))
      (reached_env rules p c l d w v a kept ns unbound k j i i2 around (among around k j f up q) (site_in around k j f up q) env)))
    where
      env : IsConsistent (equations_of (a.site.around ++ k.content ∷ j.around))
      env = subst (λ (u : Found). IsConsistent (environment u)) r h

  -- the equations down to a box
  pub whole_leaves_kept : (m : Name) (f g : Found) → AroundFor c kept ns → ((b : Name) → IsIn b (names_down_to f) → IsIn b ns) → box_at m c.roots ≡ Some f
      → Moved l.worker (slice_index c.next l.worker) a.site a.change f g → IsConsistent (whole g) → LeavesKept kept (whole f) (whole g)
  whole_leaves_kept m f g around up e (aside x) h = same_leaves_kept (whole f) (whole g) (aside_whole rules p c l d w v a f g x)
  whole_leaves_kept m f g around up e (at_site k q r) h =
      subst (λ (u : Found). LeavesKept kept (whole u) (whole g)) (sym q) (subst (λ (u : Found). LeavesKept kept (whole a.site) (whole u)) (sym r) (record {
        keeps = site_told rules p c l d w v a k;
        unbound = λ x b. (x, same, λ z. unbound a.site.content.name (subst (λ (u : Found). IsIn u.content.name ns) q (up f.content.name (IsIn-right f.content.name (names_around f) (f.content.name ∷ []) (inl refl)))) x z (binder rules p c l d w v a k x (subst (λ (u : Found). IsConsistent (whole u)) r h) b));
      }))
  whole_leaves_kept m f g around up e (inside k j i i2 q r) h =
      subst (λ (u : Found). LeavesKept kept (whole u) (whole g)) (sym q) (subst (λ (u : Found). LeavesKept kept (whole (record j { around = a.site.around ++ a.site.content ∷ j.around })) (whole u)) (sym r)
      (reached_leaves_kept rules p c l d w v a kept ns unbound k j i i2 around way here env (whole (record j { around = a.site.around ++ a.site.content ∷ j.around })) (whole (record j { around = a.site.around ++ k.content ∷ j.around }))
      (own_reached rules p c l d w v a kept ns unbound k j i i2 around way here env before own)))
    where
      all : IsConsistent (equations_of (a.site.around ++ k.content ∷ j.around) ++ j.content.equations)
      all = subst (λ (u : Found). IsConsistent (whole u)) r h

      env : IsConsistent (equations_of (a.site.around ++ k.content ∷ j.around))
      env = IsConsistent-follows (left_follows (equations_of (a.site.around ++ k.content ∷ j.around)) j.content.equations) all

      way : (b : Content) (R1 R2 : List Content) → j.around ≡ R1 ++ b ∷ R2 → IsIn b.name ns
      way = among around k j f (λ b x. up b (IsIn-left b (names_around f) (f.content.name ∷ []) x)) q

      here : IsIn a.site.content.name ns
      here = site_in around k j f (λ b x. up b (IsIn-left b (names_around f) (f.content.name ∷ []) x)) q

      before : IsConsistent (equations_of (a.site.around ++ a.site.content ∷ j.around) ++ j.content.equations)
      before = inside_consistent k j (reached_env rules p c l d w v a kept ns unbound k j i i2 around way here env) all

      own : (y : Var) → TellsOutside (record j { around = a.site.around ++ a.site.content ∷ j.around }) y → IsAmong y kept
      own y u = around f.content.name (up f.content.name (IsIn-right f.content.name (names_around f) (f.content.name ∷ []) (inl refl))) f (subst (λ (n : Name). box_at n c.roots ≡ Some f) (box-itself m c.roots f e) e)
          (subst (λ (u : Found). IsConsistent (whole u)) (sym q) before) y (subst (λ (z : Found). TellsOutside z y) (sym q) u)
