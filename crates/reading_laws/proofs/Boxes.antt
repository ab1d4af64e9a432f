-- What stays in a box over many labels, where frames don't count.
use Rattle.constraint_laws.specs.Touched.{IsAmong}
use Rattle.std.proofs.Common.{◌≡◌, ◌≤◌, ◌<◌, List, [], ◌∷◌, ◌++◌, map, Option, Some, None, refl, sym, ◌∙◌, ap, subst, inl, inr, arith, append_assoc, ◌⊎◌}
use Rattle.std.specs.Prelude.{slice_index, option_map}
use Rattle.akl_terms.specs.declared.name.Name.{Name}
use Rattle.akl_terms.specs.declared.name.Var.{Var}
use Rattle.akl_terms.specs.declared.program.Program.{Program}
use Rattle.akl_terms.specs.declared.program.Query.{Query}
use Rattle.akl_terms.specs.Tree.{Tree, variable}
use Rattle.akl_terms.specs.Equal.{Equations, IsTold, Equal, told, Follows, IsConsistent, IsStructured}
use Rattle.akl_terms.specs.Touching.{IsLocal}
use Rattle.akl_terms.proofs.EqualLaws.{Equal-follows, IsConsistent-follows, Follows-trans, IsTold-left}
use Rattle.akl_model.specs.declared.item.Item.{Item}
use Rattle.akl_model.specs.declared.label.Rule.{Rule}
use Rattle.akl_model.specs.declared.label.Label.{Label}
use Rattle.akl_model.specs.Config.{IsIn, Content, Config, Port, Found, equations_of, environment, whole, box_at}
use Rattle.akl_model.specs.Changes.{ports_at, Constraint, Clashes, by_binding, Changes}
use Rattle.akl_model.specs.Derivations.{Applies, Derives, Replays}
use Rattle.akl_model.specs.Names.{times_in}
use Rattle.akl_model.specs.Scopes.{Scope, nowhere, scope_in}
use Rattle.akl_model.specs.Wakes.{names_around, names_down_to}
use Rattle.akl_model.proofs.Options.{some_value}
use Rattle.akl_model.proofs.Scoped.{IsIn-left, IsIn-right}
use Rattle.akl_model.proofs.ScopesAlong.{times_path, counted_in, local_in}
use Rattle.constraint_laws.specs.Growth.{TellsOver}
use Rattle.step_laws.proofs.Becomes.{Becomes}
use Rattle.step_laws.proofs.Decide.{constraint_or}
use Rattle.step_laws.proofs.Deeper.{in_path}
use Rattle.step_laws.proofs.Steps as steps
use Rattle.step_laws.proofs.Steps.{Moved, aside, at_site, site_now}
use Rattle.step_laws.specs.Bound.{first_equations, outermost_equations}
use Rattle.plan_laws.proofs.InScope.{Good}
use Rattle.plan_laws.proofs.Moves.{moved, site_told, binder, told_further}
use Rattle.reading_laws.specs.Boxes.{EndUnchanged, BoxesUnchanged, StaysUnbound}
use Rattle.reading_laws.specs.Closed.{Spares}
use Rattle.reading_laws.specs.Unchanged.{Unchanged, path_to, AreEnough}
use Rattle.reading_laws.proofs.Inner.{together}
use Rattle.reading_laws.proofs.Local.{told_local}
use Rattle.plan_laws.proofs.Replayed.{good_replay, replay_further}
use Rattle.reading_laws.proofs.Labels.{own_name, step_follows, step_names, step_around, around_told}
use Rattle.reading_laws.proofs.Path.{nil_right, spares_itself}
use Rattle.reading_laws.proofs.PathGrows.{Placed, ClosedFrom, GrowsOnce, rests, gets, inside, root_grows}
use Rattle.reading_laws.proofs.Starts.{PathScoped, path_scoped, scoped_all, CountedOnce, once_further, path_counted, closed_at_start}
use Rattle.reading_laws.proofs.Steps.{path_whole, AddsHere, still}
use Rattle.reading_laws.proofs.Listed.{class_bound}
use Rattle.akl_model.proofs.AddsOwn.{adds_own}

-- where each box on a path stands
placed_from : (s : Scope) (bs : List Content) → PathScoped s bs → ((n : Name) → times_path n bs ≤ 1) → CountedOnce s bs → Placed s.frames bs
placed_from s [] h o u = tt
placed_from s (b ∷ bs) h o u = (
  told_local (scope_in s b) b.equations h.0,
  λ x l m.
      let i : 0 < times_in x.frame b.frames = counted_in x.frame b.frames (local_in b.frames x l) in
      let k : times_path x.frame (b ∷ bs) ≡ 0 = u x.frame (local_in s.frames x m) in
      absurd (omega (arith, i, k)),
  placed_from (scope_in s b) bs h.1 (λ n. let k : times_path n (b ∷ bs) ≤ 1 = o n in omega arith) (once_further s b bs o u),
)

placed : (c : Config) → Good c → (n : Name) (f : Found) → box_at n c.roots ≡ Some f → Placed [] (path_to f)
placed c w n f e = placed_from nowhere (path_to f) (path_scoped nowhere n c.roots f (scoped_all c w) e) (path_counted c w n f e) (λ m i. absurd i)

-- the box in the middle of a path gets more
inside_gets : (R : Var → Type 0) (E : Equations) (A rest : List Content) (b d : Content) (added : Equations) → d.equations ≡ b.equations ++ added → TellsOver (IsLocal d.frames) added
    → Spares R ((E ++ equations_of A) ++ b.equations) ((E ++ equations_of A) ++ d.equations) → GrowsOnce R E (A ++ b ∷ rest) (A ++ d ∷ rest)
inside_gets R E [] rest b d added q o s = gets added q o (subst (λ (X : Equations). Spares R (X ++ b.equations) (X ++ d.equations)) (nil_right E) s)
inside_gets R E (a ∷ A) rest b d added q o s = inside (inside_gets R (E ++ a.equations) A rest b d added q o
    (subst (λ (X : Equations). Spares R (X ++ b.equations) (X ++ d.equations)) (sym (append_assoc E a.equations (equations_of A))) s))

-- the ports of a box that is there
there_with : (c d : Config) (n : Name) (f : Found) → box_at n c.roots ≡ Some f → (Changes by_binding c d (Item.Store n) → ⊥) → (g : Found) × (box_at n d.roots ≡ Some g)
there_with c d n f e u = on (box_at n d.roots) refl
  where
    on : (x : Option Found) → box_at n d.roots ≡ x → (g : Found) × (box_at n d.roots ≡ Some g)
    on (Some g) i = (g, i)
    on None i = absurd (u (inl (λ k. no (sym (ap (λ (x : Option Found). option_map (λ (y : Found). y.content.ports) x) e) ∙ k ∙ ap (λ (x : Option Found). option_map (λ (y : Found). y.content.ports) x) i))))
      where
        no : Some f.content.ports ≡ None → ⊥
        no k = cc

-- the first box's equations, on the way to another
first_in : (A rest : List Content) (b : Content) (s t : Tree) → IsTold (first_equations (A ++ b ∷ rest)) s t → IsTold (equations_of (A ++ b ∷ [])) s t
first_in [] rest b s t m = IsTold-left b.equations [] s t m
first_in (a ∷ A) rest b s t m = IsTold-left a.equations (equations_of (A ++ b ∷ [])) s t m

first_grows : (R : Var → Type 0) (bs es : List Content) → GrowsOnce R [] bs es → (s t : Tree) → IsTold (first_equations bs) s t → IsTold (first_equations es) s t
first_grows R bs es rests s t m = m
first_grows R _ _ (gets {b = b} added q over x) s t m = subst (λ (E : Equations). IsTold E s t) (sym q) (IsTold-left b.equations added s t m)
first_grows R _ _ (inside x) s t m = m

module _ (rules : List Rule) (p : Program) (c : Config) (l : Label) (d : Config) (w : Good c) (v : Good d) (a : Applies rules p c l d) (o : AddsHere rules p c l d a) (R : Var → Type 0)
    (m : Name) (f g : Found) (was : box_at m c.roots ≡ Some f) (is : box_at m d.roots ≡ Some g) (h : IsConsistent (whole f))
    (u : (n : Name) → IsIn n (names_down_to f) → Clashes c d n → ⊥)
    (n : (x : Var) → R x → IsStructured (outermost_equations f) x ⊎ ((z : Var) × Equal (outermost_equations f) (variable x) (variable z) × (Changes by_binding c d (Item.Binding z) → ⊥))) where
  abbrev Change : Type 0
  Change = Becomes l.worker (slice_index c.next l.worker) a.site a.change

  consistent_site : (rest : List Content) → path_to f ≡ a.site.around ++ a.site.content ∷ rest → IsConsistent (whole a.site)
  consistent_site rest e = IsConsistent-follows (record { each = λ {s} {t} i. told (subst (λ (E : Equations). IsTold E s t) whole_path (outer s t i)) }) h
    where
      whole_path : equations_of ((a.site.around ++ a.site.content ∷ []) ++ rest) ≡ whole f
      whole_path = ap equations_of (append_assoc a.site.around (a.site.content ∷ []) rest ∙ sym e) ∙ path_whole f

      outer : (s t : Tree) → IsTold (whole a.site) s t → IsTold (equations_of ((a.site.around ++ a.site.content ∷ []) ++ rest)) s t
      outer s t i = told_further (a.site.around ++ a.site.content ∷ []) rest s t (subst (λ (E : Equations). IsTold E s t) (sym (path_whole a.site)) i)

  site_gets : (k : Change) (rest : List Content) → path_to f ≡ a.site.around ++ a.site.content ∷ rest → path_to g ≡ a.site.around ++ k.content ∷ rest → IsIn a.site.content.name (names_down_to f)
      → GrowsOnce R [] (path_to f) (path_to g)
  site_gets k rest e i j = subst (λ (xs : List Content). GrowsOnce R [] xs (path_to g)) (sym e) (subst (GrowsOnce R [] (a.site.around ++ a.site.content ∷ rest)) (sym i)
      (inside_gets R [] a.site.around rest a.site.content k.content (o k.content k.goals k.rest k.is_change).added (o k.content k.goals k.rest k.is_change).equations (o k.content k.goals k.rest k.is_change).over
      spares))
    where
      clear : Clashes c d a.site.content.name → ⊥
      clear = u a.site.content.name j

      outer : Follows (outermost_equations f) (whole a.site)
      outer = record { each = λ {s} {t} m. told (subst (λ (E : Equations). IsTold E s t) (path_whole a.site) (first_in a.site.around rest a.site.content s t (subst (λ (xs : List Content). IsTold (first_equations xs) s t) e m))) }

      grows : Follows (whole a.site) (whole (site_now k))
      grows = record { each = λ {s} {t} m. told (site_told rules p c l d w v a k s t m) }

      now : IsConsistent (whole (site_now k))
      now = still rules p c l d w v a o R k clear (consistent_site rest e)

      spares : Spares R (whole a.site) (whole (site_now k))
      spares = record {
        grows = grows;
        consistent = now;
        unbound = λ x r b. elim (n x r) [
          | inl s ↦ b.unstructured (s.0, s.1, Equal-follows outer s.2, s.3)
          | inr (z, q, m) ↦ m (a.site.content.name, binder rules p c l d w v a k z now (class_bound (whole a.site) (whole (site_now k)) grows x z (Equal-follows outer q) b))
        ];
      }

  pub grows_once : GrowsOnce R [] (path_to f) (path_to g)
  grows_once = on (moved rules p c l d w v a m f g was is)
    where
      on : Moved l.worker (slice_index c.next l.worker) a.site a.change f g → GrowsOnce R [] (path_to f) (path_to g)
      on (aside x) = subst (GrowsOnce R [] (path_to f)) (sym (ap (λ (xs : List Content). xs ++ g.content ∷ []) x.around ∙ ap (λ (b : Content). f.around ++ b ∷ []) x.content)) rests
      on (at_site k q r) = site_gets k [] (ap path_to q) (ap path_to r) (subst (λ (y : Found). IsIn a.site.content.name (names_down_to y)) (sym q) (IsIn-right a.site.content.name (names_around a.site) (a.site.content.name ∷ []) (inl refl)))
      on (steps.inside k j i i2 q r) = site_gets k (j.around ++ j.content ∷ [])
          (ap path_to q ∙ append_assoc a.site.around (a.site.content ∷ j.around) (j.content ∷ []))
          (ap path_to r ∙ append_assoc a.site.around (k.content ∷ j.around) (j.content ∷ []))
          (subst (λ (y : Found). IsIn a.site.content.name (names_down_to y)) (sym q) (IsIn-left a.site.content.name (map (λ (b : Content). b.name) (a.site.around ++ a.site.content ∷ j.around)) (j.content.name ∷ []) (in_path a.site.around a.site.content j.around)))

abbrev ClosedTo : (Var → Type 0) → Found → Type 0
ClosedTo R f = (b : Content) × (bs : List Content) × (path_to f ≡ b ∷ bs) × ClosedFrom R b bs

one_unbound : (R : Var → Type 0) (rules : List Rule) (p : Program) (c : Config) (l : Label) (d : Config) → Good c → Good d → (a : Applies rules p c l d) → AddsHere rules p c l d a → (n : Name) (f g : Found)
    → box_at n c.roots ≡ Some f → box_at n d.roots ≡ Some g → IsConsistent (whole f) → ClosedTo R f → ((m : Name) → IsIn m (names_down_to f) → Clashes c d m → ⊥)
    → ((x : Var) → R x → IsStructured (outermost_equations f) x ⊎ ((z : Var) × Equal (outermost_equations f) (variable x) (variable z) × (Changes by_binding c d (Item.Binding z) → ⊥)))
    → Spares R (whole f) (whole g) × ClosedTo R g × Follows (outermost_equations f) (outermost_equations g)
one_unbound R rules p c l d w v a o n f g e i h k u b =
    let y : GrowsOnce R [] (path_to f) (path_to g) = grows_once rules p c l d w v a o R n f g e i h u b in
    let z : (x : Content) × (xs : List Content) × (path_to g ≡ x ∷ xs) × ClosedFrom R x xs × Spares R (equations_of (k.0 ∷ k.1)) (equations_of (x ∷ xs))
    = root_grows R k.0 k.1 (path_to g) (subst (Placed []) k.2 (placed c w n f e)) (placed d v n g i) k.3
    (subst (λ (xs : List Content). GrowsOnce R [] xs (path_to g)) k.2 y) in (
      subst (λ (X : Equations). Spares R X (whole g)) (sym (ap equations_of k.2) ∙ path_whole f) (subst (Spares R (equations_of (k.0 ∷ k.1))) (sym (ap equations_of z.2) ∙ path_whole g) z.4),
      (z.0, z.1, z.2, z.3),
      record { each = λ {s} {t} m. told (first_grows R (path_to f) (path_to g) y s t m) },
    )

-- a box that is there keeps its place, and its equations and those around it grow
pub record IsThereStill (d : Config) (n : Name) (f : Found) : Type 0 where
  pub now : Found
  pub is : box_at n d.roots ≡ Some now
  pub around : names_around now ≡ names_around f
  pub grows : Follows (whole f) (whole now)
  pub outer : (s t : Tree) → IsTold (environment f) s t → IsTold (environment now) s t

pub there_still : (rules : List Rule) (p : Program) (q : Query) (journal : List Label) (c : Config) (ls : List Label) (d : Config) → Replays rules p q journal c → (w : Derives rules p c ls d) (n : Name) (f : Found)
    → box_at n c.roots ≡ Some f → Unchanged rules p c ls d w (Item.Store n) → IsThereStill d n f
there_still rules p q journal c [] d r w n f e u = record { now = f; is = subst (λ (x : Config). box_at n x.roots ≡ Some f) w e; around = refl; grows = record { each = told }; outer = λ s t m. m }
there_still rules p q journal c (l ∷ ls) d r w n f e u =
    let g : (g : Found) × (box_at n w.0.roots ≡ Some g) = there_with c w.0 n f e u.0 in
    let k : Replays rules p q (journal ++ l ∷ []) w.0 = replay_further rules p q journal c l w.0 r w.1 in
    let z : IsThereStill d n g.0 = there_still rules p q (journal ++ l ∷ []) w.0 ls d k w.2 n g.0 g.1 u.1 in
    record {
      now = z.now;
      is = z.is;
      around = z.around ∙ step_around rules p c l w.0 (good_replay rules p q journal c r) (good_replay rules p q (journal ++ l ∷ []) w.0 k) w.1 n f g.0 e g.1;
      grows = Follows-trans (step_follows rules p c l w.0 (good_replay rules p q journal c r) (good_replay rules p q (journal ++ l ∷ []) w.0 k) w.1 n f g.0 e g.1) z.grows;
      outer = λ s t m. z.outer s t (around_told rules p c l w.0 (good_replay rules p q journal c r) (good_replay rules p q (journal ++ l ∷ []) w.0 k) w.1 n f g.0 e g.1 s t m);
    }

-- the ports are the same where they aren't found to differ
same_ports : (c d : Config) (n : Name) (f g : Found) → box_at n c.roots ≡ Some f → box_at n d.roots ≡ Some g → (Changes by_binding c d (Item.Store n) → ⊥) → g.content.ports ≡ f.content.ports
same_ports c d n f g e i u = elim (constraint_or (alone g.content.ports) (alone f.content.ports)) [
  | inl q ↦ ap (λ (x : Constraint). x.ports) q
  | inr q ↦ absurd (u (inl (λ k. q (ap alone (sym (some_value (sym (at c f e) ∙ k ∙ at d g i)))))))
]
  where
    alone : List Port → Constraint
    alone ps = record { frames = []; equations = []; ports = ps }

    at : (k : Config) (x : Found) → box_at n k.roots ≡ Some x → ports_at n k.roots ≡ Some x.content.ports
    at k x q = ap (λ (y : Option Found). option_map (λ (z : Found). z.content.ports) y) q

-- one label
record OneLabel (R : Var → Type 0) (d : Config) (n : Name) (f : Found) : Type 0 where
  now : Found
  is : box_at n d.roots ≡ Some now
  names : names_down_to now ≡ names_down_to f
  ports : now.content.ports ≡ f.content.ports
  grows : Follows (whole f) (whole now)
  spares : IsConsistent (whole f) → Spares R (whole f) (whole now)
  kept : IsConsistent (whole now) → ClosedTo R now × Follows (outermost_equations f) (outermost_equations now)

one_label : (R : Var → Type 0) (rules : List Rule) (p : Program) (q : Query) (journal : List Label) (c : Config) (l : Label) (d : Config) → Replays rules p q journal c → (a : Applies rules p c l d) (n : Name) (f : Found)
    → box_at n c.roots ≡ Some f → (IsConsistent (whole f) → ClosedTo R f) → ((m : Name) → IsIn m (names_down_to f) → Changes by_binding c d (Item.Store m) → ⊥)
    → (IsConsistent (whole f) → (x : Var) → R x → IsStructured (outermost_equations f) x ⊎ ((z : Var) × Equal (outermost_equations f) (variable x) (variable z) × (Changes by_binding c d (Item.Binding z) → ⊥))) → OneLabel R d n f
one_label R rules p q journal c l d r a n f e k u b = record {
  now = g.0;
  is = g.1;
  names = step_names rules p c l d before after a n f g.0 e g.1;
  ports = same_ports c d n f g.0 e g.1 (u n (own_name c n f e));
  grows = grown;
  spares = λ h. (one h).0;
  kept = λ i. ((one (IsConsistent-follows grown i)).1, (one (IsConsistent-follows grown i)).2);
}
  where
    before : Good c
    before = good_replay rules p q journal c r

    after : Good d
    after = good_replay rules p q (journal ++ l ∷ []) d (replay_further rules p q journal c l d r a)

    g : (g : Found) × (box_at n d.roots ≡ Some g)
    g = there_with c d n f e (u n (own_name c n f e))

    grown : Follows (whole f) (whole g.0)
    grown = step_follows rules p c l d before after a n f g.0 e g.1

    one : IsConsistent (whole f) → Spares R (whole f) (whole g.0) × ClosedTo R g.0 × Follows (outermost_equations f) (outermost_equations g.0)
    one h = one_unbound R rules p c l d before after a (adds_own rules p q journal c l d r a) n f g.0 e g.1 h (k h) (λ m i x. u m i (inr x)) (b h)

many_unbound : (R : Var → Type 0) (rules : List Rule) (p : Program) (q : Query) (journal : List Label) (c : Config) (ls : List Label) (d : Config) → Replays rules p q journal c → (w : Derives rules p c ls d) (n : Name) (f : Found)
    → box_at n c.roots ≡ Some f → (IsConsistent (whole f) → ClosedTo R f) → BoxesUnchanged rules p c ls d w f → (IsConsistent (whole f) → (x : Var) → R x → EndUnchanged rules p c ls d w (outermost_equations f) x) → StaysUnbound R d n f
many_unbound R rules p q journal c [] d r w n f e k u b = record {
  now = f;
  is = subst (λ (x : Config). box_at n x.roots ≡ Some f) w e;
  names = refl;
  ports = refl;
  grows = record { each = told };
  spares = λ h. spares_itself R (whole f) h;
}
many_unbound R rules p q journal c (l ∷ ls) d r w n f e k u b =
    let s : OneLabel R w.0 n f = one_label R rules p q journal c l w.0 r w.1 n f e k (λ m i. (u m i).0)
    (λ h x i. elim (b h x i) [ inl y ↦ inl y | inr y ↦ inr (y.0, y.1, y.2.0) ]) in
    let z : StaysUnbound R d n s.now = many_unbound R rules p q (journal ++ l ∷ []) w.0 ls d (replay_further rules p q journal c l w.0 r w.1) w.2 n s.now s.is (λ h. (s.kept h).0) (λ m i. (u m (subst (IsIn m) s.names i)).1)
    (λ h x i. elim (b (IsConsistent-follows s.grows h) x i) [ inl y ↦ inl (y.0, y.1, Equal-follows (s.kept h).1 y.2, y.3) | inr y ↦ inr (y.0, Equal-follows (s.kept h).1 y.1, y.2.1) ]) in
    record {
      now = z.now;
      is = z.is;
      names = z.names ∙ s.names;
      ports = z.ports ∙ s.ports;
      grows = Follows-trans s.grows z.grows;
      spares = λ h. together R (whole f) (whole s.now) (whole z.now) (s.spares h) (z.spares (s.spares h).consistent);
    }

pub enough_unbound : (rules : List Rule) (p : Program) (q : Query) (journal : List Label) (c : Config) (ls : List Label) (d : Config) → Replays rules p q journal c → (w : Derives rules p c ls d)
    → (n : Name) (f : Found) (reads : List Var) → box_at n c.roots ≡ Some f → BoxesUnchanged rules p c ls d w f → AreEnough reads f → ((x : Var) → IsAmong x reads → EndUnchanged rules p c ls d w (outermost_equations f) x)
    → StaysUnbound (λ x. IsAmong x reads) d n f
enough_unbound rules p q journal c ls d r w n f reads e u a b = many_unbound (λ x. IsAmong x reads) rules p q journal c ls d r w n f e start u (λ h. b)
  where
    start : IsConsistent (whole f) → ClosedTo (λ x. IsAmong x reads) f
    start h = closed_at_start (λ x. IsAmong x reads) f h a.root a.own a.stands a.all a.closed
