-- Kept waits over a label: what sleeps on stays in scope, and the classes on which it waits are as they were.
use Rattle.std.proofs.Common.{◌≡◌, List, [], ◌∷◌, ◌++◌, map, Some, refl, sym, ◌∙◌, ap, subst, ◌⊎◌, inl, inr}
use Rattle.std.specs.Prelude.{slice_index}
use Rattle.akl_terms.specs.declared.name.Name.{Name}
use Rattle.akl_terms.specs.declared.name.Var.{Var}
use Rattle.akl_terms.specs.declared.name.Place.{Place}
use Rattle.akl_terms.specs.declared.program.Program.{Program}
use Rattle.akl_terms.specs.declared.program.Query.{Query}
use Rattle.akl_terms.specs.Tree.{variable}
use Rattle.akl_terms.specs.Equal.{Equations, Equal, Follows, IsConsistent, IsStructured}
use Rattle.akl_terms.proofs.EqualLaws.{Equal-follows, IsConsistent-follows}
use Rattle.akl_model.specs.declared.label.Rule.{Rule}
use Rattle.akl_model.specs.declared.label.Label.{Label}
use Rattle.akl_model.specs.Config.{IsIn, Content, Config, Found, whole, box_at, site_of}
use Rattle.akl_model.specs.Derivations.{Applies, Replays}
use Rattle.akl_model.specs.Wakes.{IsAt, IsOneOf, Wait, IsKept, Opens, woken, IsKeptAfterCommit, names_around, names_down_to}
use Rattle.akl_model.proofs.Options.{some_value}
use Rattle.akl_model.proofs.NamesKept.{box-itself, site-box}
use Rattle.constraint_laws.specs.Oldest.{IsOldest}
use Rattle.constraint_laws.proofs.Decided.{equal_or}
use Rattle.constraint_laws.proofs.SameTerms.{Either}
use Rattle.step_laws.proofs.Steps.{Moved, aside, at_site, inside, names_kept}
use Rattle.plan_laws.specs.Sleeps.{IsOutermostAt}
use Rattle.plan_laws.proofs.InScope.{Good}
use Rattle.plan_laws.proofs.Moves.{moved}
use Rattle.plan_laws.proofs.Around.{chain_down}
use Rattle.plan_laws.proofs.DownTo.{is_down, down_to, outermost_whole, there_before}
use Rattle.plan_laws.proofs.Aliases.{grown}
use Rattle.plan_laws.proofs.NeedsConcern.{opened_too}
use Rattle.plan_laws.proofs.Replayed.{good_replay, replay_further}
use Rattle.plan_laws.specs.Waits.{IsScopedAt, AreWaits}
use Rattle.plan_laws.specs.Kept.{AreLeftByCommit}
use Rattle.plan_laws.proofs.FramesGrow.{frames_grow}
use Rattle.step_laws.proofs.There.{there_site}

no_names : (path : List Content) → map (λ (b : Content). b.name) path ≡ [] → path ≡ []
no_names [] q = refl
no_names (b ∷ bs) q = cc

module _ (rules : List Rule) (p : Program) (c : Config) (l : Label) (d : Config) (w : Good c) (v : Good d) (a : Applies rules p c l d) where
  -- a box that stays keeps its frames
  frames_kept : (n : Name) (f g : Found) → box_at n c.roots ≡ Some f → box_at n d.roots ≡ Some g → (k : Name) → IsIn k f.content.frames → IsIn k g.content.frames
  frames_kept n f g e i k h = on (moved rules p c l d w v a n f g e i)
    where
      on : Moved l.worker (slice_index c.next l.worker) a.site a.change f g → IsIn k g.content.frames
      on (aside m) = subst (λ (b : Content). IsIn k b.frames) (sym m.content) h
      on (at_site b s t) = subst (λ (u : Found). IsIn k u.content.frames) (sym t) (frames_grow rules p c l d a b.content b.goals b.rest b.is_change k (subst (λ (u : Found). IsIn k u.content.frames) s h))
      on (inside b j i1 i2 s t) = subst (λ (u : Found). IsIn k u.content.frames) (sym t) (subst (λ (u : Found). IsIn k u.content.frames) s h)

  -- a place that isn't opened stands under the same boxes as before
  module _ (place : Place) (unopened : Opens [] c d place → ⊥) (k : Found) (i : site_of place d.roots ≡ Some k) where
    stood : (f : Found) × (site_of place c.roots ≡ Some f) × (names_down_to k ≡ names_down_to f)
    stood = there_before rules p c l d w v a place unopened k i

    box_after : (n : Name) → IsAt n c.roots place → (g : Found) × (box_at n d.roots ≡ Some g) × IsAt n d.roots place
    box_after n h =
        let f : (f : Found) × (site_of place c.roots ≡ Some f) × IsIn n (names_down_to f) = down_to n c.roots place h in
        let m : IsIn n (names_down_to k) = subst (IsIn n) (sym stood.2) (subst (λ (u : Found). IsIn n (names_down_to u)) (some_value (sym f.1 ∙ stood.1)) f.2) in
        let g : (g : Found) × (box_at n d.roots ≡ Some g) × ((b : Name) → IsIn b (names_around g) → IsIn b (names_down_to k)) =
        (chain_down d v k.content.name k (site-box place d.roots k v.stand.once i)).found n m in
        (g.0, g.1, is_down n d.roots place k i m)

    box_before : (n : Name) → IsAt n d.roots place → (f : Found) × (box_at n c.roots ≡ Some f) × IsAt n c.roots place
    box_before n h =
        let g : (g : Found) × (site_of place d.roots ≡ Some g) × IsIn n (names_down_to g) = down_to n d.roots place h in
        let m : IsIn n (names_down_to stood.0) = subst (IsIn n) stood.2 (subst (λ (u : Found). IsIn n (names_down_to u)) (some_value (sym g.1 ∙ i)) g.2) in
        let f : (f : Found) × (box_at n c.roots ≡ Some f) × ((b : Name) → IsIn b (names_around f) → IsIn b (names_down_to stood.0)) =
        (chain_down c w stood.0.content.name stood.0 (site-box place c.roots stood.0 w.stand.once stood.1)).found n m in
        (f.0, f.1, is_down n c.roots place stood.0 stood.1 m)

    scoped_after : (x : Var) → IsScopedAt c place x → IsScopedAt d place x
    scoped_after x s =
        let g : (g : Found) × (box_at s.home.content.name d.roots ≡ Some g) × IsAt s.home.content.name d.roots place = box_after s.home.content.name s.is_at in
        let q : s.home.content.name ≡ g.0.content.name = box-itself s.home.content.name d.roots g.0 g.1 in
        record {
          home = g.0;
          is_found = subst (λ (n : Name). box_at n d.roots ≡ Some g.0) q g.1;
          is_at = subst (λ (n : Name). IsAt n d.roots place) q g.2;
          frame = frames_kept s.home.content.name s.home g.0 s.is_found g.1 x.frame s.frame;
        }

    -- the outermost box was it before
    outermost_before : (g : Found) → IsOutermostAt d place g → (f : Found) × IsOutermostAt c place f × (box_at g.content.name c.roots ≡ Some f)
    outermost_before g h =
        let f : (f : Found) × (box_at g.content.name c.roots ≡ Some f) × IsAt g.content.name c.roots place = box_before g.content.name h.is_at in
        let q : g.content.name ≡ f.0.content.name = box-itself g.content.name c.roots f.0 f.1 in
        let m : Moved l.worker (slice_index c.next l.worker) a.site a.change f.0 g = moved rules p c l d w v a g.content.name f.0 g f.1 h.is_found in
        let names : names_around f.0 ≡ [] = sym (names_kept l.worker (slice_index c.next l.worker) a.site a.change f.0 g m) ∙ ap (λ (path : List Content). map (λ (b : Content). b.name) path) h.is_root in
        (f.0, record { is_found = subst (λ (n : Name). box_at n c.roots ≡ Some f.0) q f.1; is_root = no_names f.0.around names; is_at = subst (λ (n : Name). IsAt n c.roots place) q f.2 }, f.1)

  -- over a label that binds no variable on which the place waits
  module _ (waits : List Wait) (place : Place) (closed : Opens waits c d place → ⊥) (x : Var) (k : IsKept waits place x) where
    -- what an outermost box makes equal to the variable it did before
    class_before : (f g : Found) → f.around ≡ [] → g.around ≡ [] → (n : Name) → box_at n c.roots ≡ Some f → box_at n d.roots ≡ Some g → IsConsistent (whole g) → (IsStructured (whole f) x → ⊥)
        → (y : Var) → Equal (whole g) (variable x) (variable y) → Equal (whole f) (variable x) (variable y)
    class_before f g root_f root_g n e i still free y s = on (equal_or (whole f) (variable x) (variable y))
      where
        on : Either (Equal (whole f) (variable x) (variable y)) → Equal (whole f) (variable x) (variable y)
        on (inl t) = t
        on (inr apart) = absurd (closed (woken n k (record {
          adds = record { before = f; afterwards = g; was = e; is = i; more = more };
          consistent = still;
          newly_bound = record { unstructured = free; told = inr (y, s, apart) };
        })))
          where
            more : g.content.equations ≡ f.content.equations → ⊥
            more q = apart (subst (λ (E : Equations). Equal E (variable x) (variable y)) (outermost_whole g root_g ∙ q ∙ sym (outermost_whole f root_f)) s)

    -- so the oldest was the oldest
    oldest_before : (f g : Found) → f.around ≡ [] → g.around ≡ [] → (n : Name) → box_at n c.roots ≡ Some f → box_at n d.roots ≡ Some g → IsConsistent (whole g) → (IsStructured (whole g) x → ⊥)
        → (u : Var) → IsOldest (whole g) x u → IsConsistent (whole f) × (IsStructured (whole f) x → ⊥) × IsOldest (whole f) x u
    oldest_before f g root_f root_g n e i still free u o = (
      IsConsistent-follows grows still,
      unstructured,
      record {
        equal = class_before f g root_f root_g n e i still unstructured u o.equal;
        oldest = λ y s. o.oldest y (Equal-follows grows s);
      },
    )
      where
        grows : Follows (whole f) (whole g)
        grows = grown rules p c l d w v a n f g e i

        unstructured : IsStructured (whole f) x → ⊥
        unstructured s = free (s.0, s.1, Equal-follows grows s.2, s.3)

pub kept_by_commit : (rules : List Rule) (p : Program) (q : Query) (journal : List Label) (c : Config) (l : Label) (d : Config) → Replays rules p q journal c → Applies rules p c l d
    → (before : List Place) (waits : List Wait) (now : List Place) (waits_now : List Wait) → AreWaits c before waits
    → ((place : Place) → IsOneOf place now → IsOneOf place before ⊎ Opens waits c d place) → AreLeftByCommit waits c d waits_now → AreWaits d now waits_now
kept_by_commit rules p q journal c l d r a before waits now waits_now h opens left = record {
  there = λ place x k. (left.each place x k).there;
  closed = λ place x k o. elim (opens place o) [ inl y ↦ h.closed place x (left.each place x k).kept y | inr y ↦ (left.each place x k).unopened y ];
  scoped = scoped;
  oldest = oldest;
}
  where
    w : Good c
    w = good_replay rules p q journal c r

    v : Good d
    v = good_replay rules p q (journal ++ l ∷ []) d (replay_further rules p q journal c l d r a)

    shut : (place : Place) (x : Var) → IsKept waits_now place x → Opens [] c d place → ⊥
    shut place x k o = (left.each place x k).unopened (opened_too waits c d place o)

    site : (place : Place) (x : Var) → IsKept waits_now place x → (f : Found) × (site_of place d.roots ≡ Some f)
    site place x k = there_site place d.roots (left.each place x k).there

    scoped : (place : Place) (x : Var) → IsKept waits_now place x → IsScopedAt d place x
    scoped place x k = let f : (f : Found) × (site_of place d.roots ≡ Some f) = site place x k in scoped_after rules p c l d w v a place (shut place x k) f.0 f.1 x (h.scoped place x (left.each place x k).kept)

    oldest : (place : Place) (x : Var) → IsKept waits_now place x → (g : Found) → IsOutermostAt d place g → IsConsistent (whole g) → (IsStructured (whole g) x → ⊥) → (u : Var) → IsOldest (whole g) x u → IsKept waits_now place u
    oldest place x k g i still free u o =
        let s : (f : Found) × (site_of place d.roots ≡ Some f) = site place x k in
        let y : IsKeptAfterCommit waits c d place x = left.each place x k in
        let f : (f : Found) × IsOutermostAt c place f × (box_at g.content.name c.roots ≡ Some f) = outermost_before rules p c l d w v a place (shut place x k) s.0 s.1 g i in
        let z : IsConsistent (whole f.0) × (IsStructured (whole f.0) x → ⊥) × IsOldest (whole f.0) x u =
        oldest_before rules p c l d w v a waits place y.unopened x y.kept f.0 g f.1.is_root i.is_root g.content.name f.2 i.is_found still free u o in
        left.all place u (record { kept = h.oldest place x y.kept f.0 f.1 z.0 z.1 u z.2; unopened = y.unopened; there = y.there })
