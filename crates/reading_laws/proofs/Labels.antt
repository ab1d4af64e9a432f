-- Over many labels that change no constraint down to a box, and bind none of what a goal in it reaches.
use Rattle.std.proofs.Common.{◌≡◌, List, [], ◌∷◌, ◌++◌, Some, sym, ◌∙◌, ap, subst, ◌⊎◌, inl, inr, append_assoc}
use Rattle.std.specs.Prelude.{slice_index}
use Rattle.akl_terms.specs.declared.name.Name.{Name}
use Rattle.akl_terms.specs.declared.name.Var.{Var}
use Rattle.akl_terms.specs.declared.program.Program.{Program}
use Rattle.akl_terms.specs.Tree.{Tree}
use Rattle.akl_terms.specs.Equal.{Equations, IsTold, told, Follows}
use Rattle.akl_terms.specs.Touching.{IsLocal}
use Rattle.akl_terms.proofs.EqualLaws.{IsTold-left, IsTold-right, IsTold-either}
use Rattle.akl_model.specs.declared.label.Rule.{Rule}
use Rattle.akl_model.specs.declared.label.Label.{Label}
use Rattle.akl_model.specs.Config.{IsIn, Content, Config, Found, equations_of, environment, whole, box_at}
use Rattle.akl_model.specs.Derivations.{Applies}
use Rattle.akl_model.specs.Scopes.{Scope, nowhere, scope_in}
use Rattle.akl_model.specs.Wakes.{names_around, names_down_to}
use Rattle.akl_model.proofs.NamesKept.{box-itself}
use Rattle.akl_model.proofs.QuietGrows.{IsLocal-left, IsLocal-right}
use Rattle.akl_model.proofs.Scoped.{IsIn-right, IsIn-either}
use Rattle.plan_laws.proofs.InScope.{Good}
use Rattle.plan_laws.proofs.Moves.{moved, aside_whole}
use Rattle.reading_laws.specs.Unchanged.{path_to, frames_along}
use Rattle.reading_laws.proofs.Path.{tells_wider, tells_both}
use Rattle.akl_model.proofs.ScopesAlong.{in_local, local_in}
use Rattle.reading_laws.proofs.Local.{told_local}
use Rattle.reading_laws.proofs.Steps.{path_whole}
use Rattle.reading_laws.proofs.Starts.{PathScoped, path_scoped, scoped_all}
use Rattle.constraint_laws.specs.Growth.{TellsOver}
use Rattle.step_laws.proofs.Becomes.{Becomes}
use Rattle.step_laws.proofs.Steps.{Moved, aside, at_site, inside, names_kept, name_kept}

pub own_name : (c : Config) (n : Name) (f : Found) → box_at n c.roots ≡ Some f → IsIn n (names_down_to f)
own_name c n f e = IsIn-right n (names_around f) (f.content.name ∷ []) (inl (box-itself n c.roots f e))

-- the equations on a path are over its frames
path_over : (s : Scope) (bs : List Content) → PathScoped s bs → TellsOver (λ x. IsLocal s.frames x ⊎ IsLocal (frames_along bs) x) (equations_of bs)
path_over s [] h = record { each = λ p q m. absurd m }
path_over s (b ∷ bs) h = tells_both (λ x. IsLocal s.frames x ⊎ IsLocal (b.frames ++ frames_along bs) x) b.equations (equations_of bs)
    (tells_wider (IsLocal (b.frames ++ s.frames)) (λ x. IsLocal s.frames x ⊎ IsLocal (b.frames ++ frames_along bs) x) (λ x l. own x l) b.equations (told_local (scope_in s b) b.equations h.0))
    (tells_wider (λ x. IsLocal (b.frames ++ s.frames) x ⊎ IsLocal (frames_along bs) x) (λ x. IsLocal s.frames x ⊎ IsLocal (b.frames ++ frames_along bs) x)
    (λ x l. elim l [ inl i ↦ own x i | inr i ↦ inr (IsLocal-right b.frames (frames_along bs) x i) ]) (equations_of bs) (path_over (scope_in s b) bs h.1))
  where
    own : (x : Var) → IsLocal (b.frames ++ s.frames) x → IsLocal s.frames x ⊎ IsLocal (b.frames ++ frames_along bs) x
    own x l = elim (IsIn-either x.frame b.frames s.frames (local_in (b.frames ++ s.frames) x l)) [ inl i ↦ inr (IsLocal-left b.frames (frames_along bs) x (in_local b.frames x i)) | inr i ↦ inl (in_local s.frames x i) ]

pub whole_over : (c : Config) (w : Good c) (n : Name) (f : Found) → box_at n c.roots ≡ Some f → TellsOver (IsLocal (frames_along (path_to f))) (whole f)
whole_over c w n f e = subst (TellsOver (IsLocal (frames_along (path_to f)))) (path_whole f)
    (tells_wider (λ x. IsLocal [] x ⊎ IsLocal (frames_along (path_to f)) x) (IsLocal (frames_along (path_to f))) (λ x l. elim l [ inl i ↦ absurd i | inr i ↦ i ]) (equations_of (path_to f))
    (path_over nowhere (path_to f) (path_scoped nowhere n c.roots f (scoped_all c w) e)))

-- equations only grow
told_middle : (A rest : List Content) (b d : Content) → ((s t : Tree) → IsTold b.equations s t → IsTold d.equations s t) → (s t : Tree) → IsTold (equations_of (A ++ b ∷ rest)) s t → IsTold (equations_of (A ++ d ∷ rest)) s t
told_middle [] rest b d f s t m = elim (IsTold-either b.equations (equations_of rest) s t m) [ inl x ↦ IsTold-left d.equations (equations_of rest) s t (f s t x) | inr y ↦ IsTold-right d.equations (equations_of rest) s t y ]
told_middle (a ∷ A) rest b d f s t m = elim (IsTold-either a.equations (equations_of (A ++ b ∷ rest)) s t m) [
  | inl x ↦ IsTold-left a.equations (equations_of (A ++ d ∷ rest)) s t x
  | inr y ↦ IsTold-right a.equations (equations_of (A ++ d ∷ rest)) s t (told_middle A rest b d f s t y)
]

module _ (rules : List Rule) (p : Program) (c : Config) (l : Label) (d : Config) (w : Good c) (v : Good d) (a : Applies rules p c l d) (n : Name) (f g : Found) (e : box_at n c.roots ≡ Some f) (i : box_at n d.roots ≡ Some g) where
  step_moved : Moved l.worker (slice_index c.next l.worker) a.site a.change f g
  step_moved = moved rules p c l d w v a n f g e i

  pub step_follows : Follows (whole f) (whole g)
  step_follows = record { each = λ {s} {t} m. told (subst (λ (E : Equations). IsTold E s t) (path_whole g) (on step_moved s t (subst (λ (E : Equations). IsTold E s t) (sym (path_whole f)) m))) }
    where
      site_more : (k : Becomes l.worker (slice_index c.next l.worker) a.site a.change) (s t : Tree) → IsTold a.site.content.equations s t → IsTold k.content.equations s t
      site_more k s t m = subst (λ (E : Equations). IsTold E s t) (sym k.keeps.equations) (IsTold-left a.site.content.equations k.added s t m)

      on : Moved l.worker (slice_index c.next l.worker) a.site a.change f g → (s t : Tree) → IsTold (equations_of (path_to f)) s t → IsTold (equations_of (path_to g)) s t
      on (aside x) s t m = subst (λ (E : Equations). IsTold E s t) (path_whole f ∙ sym (aside_whole rules p c l d w v a f g x) ∙ sym (path_whole g)) m
      on (at_site k q r) s t m = subst (λ (y : Found). IsTold (equations_of (path_to y)) s t) (sym r)
          (told_middle a.site.around [] a.site.content k.content (site_more k) s t (subst (λ (y : Found). IsTold (equations_of (path_to y)) s t) q m))
      on (inside k j i1 i2 q r) s t m = subst (λ (y : Found). IsTold (equations_of (path_to y)) s t) (sym r)
          (subst (λ (xs : List Content). IsTold (equations_of xs) s t) (sym (append_assoc a.site.around (k.content ∷ j.around) (j.content ∷ [])))
          (told_middle a.site.around (j.around ++ j.content ∷ []) a.site.content k.content (site_more k) s t
          (subst (λ (xs : List Content). IsTold (equations_of xs) s t) (append_assoc a.site.around (a.site.content ∷ j.around) (j.content ∷ []))
          (subst (λ (y : Found). IsTold (equations_of (path_to y)) s t) q m))))

  pub around_told : (s t : Tree) → IsTold (environment f) s t → IsTold (environment g) s t
  around_told = on step_moved
    where
      site_more : (k : Becomes l.worker (slice_index c.next l.worker) a.site a.change) (s t : Tree) → IsTold a.site.content.equations s t → IsTold k.content.equations s t
      site_more k s t m = subst (λ (E : Equations). IsTold E s t) (sym k.keeps.equations) (IsTold-left a.site.content.equations k.added s t m)

      on : Moved l.worker (slice_index c.next l.worker) a.site a.change f g → (s t : Tree) → IsTold (environment f) s t → IsTold (environment g) s t
      on (aside x) s t m = subst (λ (path : List Content). IsTold (equations_of path) s t) (sym x.around) m
      on (at_site k q r) s t m = subst (λ (y : Found). IsTold (environment y) s t) (sym r) (subst (λ (y : Found). IsTold (environment y) s t) q m)
      on (inside k j i1 i2 q r) s t m = subst (λ (y : Found). IsTold (environment y) s t) (sym r)
          (told_middle a.site.around j.around a.site.content k.content (site_more k) s t (subst (λ (y : Found). IsTold (environment y) s t) q m))

  pub step_around : names_around g ≡ names_around f
  step_around = names_kept l.worker (slice_index c.next l.worker) a.site a.change f g step_moved

  pub step_names : names_down_to g ≡ names_down_to f
  step_names = ap (λ (ns : List Name). ns ++ g.content.name ∷ []) (names_kept l.worker (slice_index c.next l.worker) a.site a.change f g step_moved)
      ∙ ap (λ (k : Name). names_around f ++ k ∷ []) (name_kept l.worker (slice_index c.next l.worker) a.site a.change f g step_moved)
