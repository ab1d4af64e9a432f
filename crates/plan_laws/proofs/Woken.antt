-- A place waits on a variable that a label binds exactly where it waits on a listed one.
use Rattle.std.proofs.Common.{◌≡◌, List, [], ◌∷◌, ◌++◌, Option, Some, sym, ◌∙◌, ap, subst, ◌⊎◌, inl, inr}
use Rattle.akl_terms.specs.declared.name.Name.{Name}
use Rattle.akl_terms.specs.declared.name.Var.{Var}
use Rattle.akl_terms.specs.declared.name.Place.{Place}
use Rattle.akl_terms.specs.declared.program.Program.{Program}
use Rattle.akl_terms.specs.declared.program.Query.{Query}
use Rattle.akl_terms.specs.Tree.{Tree, variable}
use Rattle.akl_terms.specs.Equal.{Equations, IsTold, Equal, Follows, IsConsistent, IsStructured}
use Rattle.akl_terms.proofs.EqualLaws.{Equal-follows, IsConsistent-follows, IsTold-left}
use Rattle.akl_model.specs.declared.label.Rule.{Rule}
use Rattle.akl_model.specs.declared.label.Label.{Label}
use Rattle.akl_model.specs.Config.{IsIn, Content, Config, Found, equations_of, whole, box_at}
use Rattle.akl_model.specs.Scopes.{nowhere}
use Rattle.akl_model.specs.Derivations.{Applies, Replays}
use Rattle.akl_model.specs.Changes.{Binds}
use Rattle.akl_model.specs.Wakes.{IsAt, Wait, IsKept}
use Rattle.akl_model.proofs.Options.{some_value}
use Rattle.akl_model.proofs.Scoped.{IsIn-either}
use Rattle.akl_model.proofs.ScopesAlong.{scope_along}
use Rattle.constraint_laws.specs.Oldest.{IsOldest}
use Rattle.constraint_laws.specs.Touched.{IsAmong}
use Rattle.constraint_laws.proofs.Beside.{follows_told}
use Rattle.constraint_laws.proofs.Decided.{kept_by}
use Rattle.constraint_laws.proofs.Grown.{over_kept}
use Rattle.constraint_laws.proofs.LeastVariables.{oldest_of, oldest_with}
use Rattle.step_laws.proofs.Whereabouts.{found_in}
use Rattle.plan_laws.specs.Sleeps.{IsOutermostAt}
use Rattle.plan_laws.proofs.InScope.{Good, InScope, whole_over}
use Rattle.plan_laws.proofs.Moves.{site_found}
use Rattle.plan_laws.proofs.DownTo.{path_to, outermost, begins_outermost, outermost_whole}
use Rattle.plan_laws.proofs.Aliases.{grown}
use Rattle.plan_laws.proofs.Replayed.{good_replay, replay_further}
use Rattle.plan_laws.specs.Waits.{IsScopedAt, AreWaits}
use Rattle.step_laws.specs.Bound.{first_equations, outermost_equations, AreBoundIn}
use Rattle.plan_laws.proofs.Frames.{one_frame}
use Rattle.plan_laws.proofs.Sites.{adds_at_site}

-- the equations of the outermost box are among those down to each
outermost_follows : (f : Found) → Follows (outermost_equations f) (whole f)
outermost_follows f = follows_told (outermost_equations f) (whole f) (λ s t m. on f.around s t m)
  where
    on : (path : List Content) (s t : Tree) → IsTold (first_equations (path ++ f.content ∷ [])) s t → IsTold (equations_of path ++ f.content.equations) s t
    on [] s t m = m
    on (b ∷ bs) s t m = IsTold-left (b.equations ++ equations_of bs) f.content.equations s t (IsTold-left b.equations (equations_of bs) s t m)

-- a variable that equations of a root box make equal to another one is of its frames
root_frame : (c : Config) (w : Good c) (o : Found) → box_at o.content.name c.roots ≡ Some o → o.around ≡ [] → (x y : Var) → Equal (whole o) (variable x) (variable y) → (x ≡ y) ⊎ IsIn x.frame o.content.frames
root_frame c w o found root x y e = elim (kept_by (over_kept (InScope c w o.content.name o found) (whole o) (whole_over c w o.content.name o found)) e) [
  | inl q ↦ inl (one q)
  | inr i ↦ elim (IsIn-either x.frame o.content.frames (scope_along nowhere o.around).frames i.0) [
    | inl h ↦ inr h
    | inr h ↦ absurd (subst (λ (path : List Content). IsIn x.frame (scope_along nowhere path).frames) root h)
  ]
]
  where
    one : variable x ≡ variable y → x ≡ y
    one q = cc

module _ (rules : List Rule) (p : Program) (q : Query) (journal : List Label) (c : Config) (l : Label) (d : Config) (r : Replays rules p q journal c) (a : Applies rules p c l d)
    (now : List Place) (waits : List Wait) (h : AreWaits c now waits) (list : List Var) (b : AreBoundIn c d a.site list) (place : Place) where
  good : Good c
  good = good_replay rules p q journal c r

  good_after : Good d
  good_after = good_replay rules p q (journal ++ l ∷ []) d (replay_further rules p q journal c l d r a)

  root : (o : Found) × IsOutermostAt c l.place o
  root = outermost c good l.place a.site a.is_site

  root_equations : outermost_equations a.site ≡ whole root.0
  root_equations = sym (outermost_whole root.0 root.1.is_root ∙ ap first_equations (begins_outermost c good l.place root.0 root.1).1 ∙ ap (λ (s : Option Found). first_equations (path_to s)) a.is_site)

  -- the outermost box of the label's place is that of a place that waits on one of its variables
  module _ (x : Var) (k : IsKept waits place x) (z : Binds c d a.site.content.name x) (y : Var) (m : IsAmong y list) (e : Equal (outermost_equations a.site) (variable x) (variable y)) where
    follows : Follows (outermost_equations a.site) (whole z.adds.before)
    follows = subst (λ (u : Found). Follows (outermost_equations a.site) (whole u)) (some_value (sym (site_found rules p c l d good good_after a) ∙ z.adds.was)) (outermost_follows a.site)

    consistent : IsConsistent (outermost_equations a.site)
    consistent = IsConsistent-follows follows (IsConsistent-follows (grown rules p c l d good good_after a a.site.content.name z.adds.before z.adds.afterwards z.adds.was z.adds.is) z.consistent)

    unstructured : IsStructured (outermost_equations a.site) x → ⊥
    unstructured s = z.newly_bound.unstructured (s.0, s.1, Equal-follows follows s.2, s.3)

    -- so it waits on the oldest, which is listed
    at_root : IsIn x.frame root.0.content.frames → (v : Var) × IsKept waits place v × IsAmong v list
    at_root i =
        let v : (v : Var) × IsOldest (outermost_equations a.site) x v = oldest_of (outermost_equations a.site) x in (
          v.0,
          h.oldest place x k root.0 here (subst IsConsistent root_equations consistent) (subst (λ (E : Equations). IsStructured E x → ⊥) root_equations unstructured) v.0 (subst (λ (E : Equations). IsOldest E x v.0) root_equations v.1),
          b.oldest y v.0 m (oldest_with (outermost_equations a.site) x y v.0 e v.1),
        )
      where
        s : IsScopedAt c place x
        s = h.scoped place x k

        same : s.home ≡ root.0
        same = one_frame x.frame c.roots s.home root.0 (good.stand.once x.frame) s.frame i (found_in s.home.content.name c.roots s.home s.is_found) (found_in root.0.content.name c.roots root.0 root.1.is_found)

        here : IsOutermostAt c place root.0
        here = record { is_found = root.1.is_found; is_root = root.1.is_root; is_at = subst (λ (u : Found). IsAt u.content.name c.roots place) same s.is_at }

    listed : (v : Var) × IsKept waits place v × IsAmong v list
    listed = elim (root_frame c good root.0 root.1.is_found root.1.is_root x y (subst (λ (E : Equations). Equal E (variable x) (variable y)) root_equations e)) [
      | inl s ↦ (y, subst (IsKept waits place) s k, m)
      | inr i ↦ at_root i
    ]

  pub woken : ((n : Name) (x : Var) → IsKept waits place x → Binds c d n x → (y : Var) × IsKept waits place y × IsAmong y list) × ((y : Var) → IsKept waits place y → IsAmong y list → Binds c d a.site.content.name y)
  woken = (λ n x k z. on n x k z, λ y k m. b.each y m)
    where
      on : (n : Name) (x : Var) → IsKept waits place x → Binds c d n x → (y : Var) × IsKept waits place y × IsAmong y list
      on n x k z =
          let t : Binds c d a.site.content.name x = subst (λ (u : Name). Binds c d u x) (adds_at_site rules p q journal c l d r a n z.adds) z in
          let y : (y : Var) × IsAmong y list × Equal (outermost_equations a.site) (variable x) (variable y) = b.every x t in
          listed x k t y.0 y.1 y.2
