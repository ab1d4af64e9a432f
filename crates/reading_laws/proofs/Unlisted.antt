-- A variable that is an end, and that no label lists, isn't bound.
use Rattle.std.proofs.Common.{◌≡◌, List, [], ◌∷◌, ◌++◌, Some, refl, sym, ◌∙◌, ap, subst, ◌⊎◌, inl, inr}
use Rattle.std.specs.Prelude.{slice_index}
use Rattle.akl_terms.specs.declared.name.Name.{Name}
use Rattle.akl_terms.specs.declared.name.Var.{Var}
use Rattle.akl_terms.specs.declared.program.Program.{Program}
use Rattle.akl_terms.specs.declared.program.Query.{Query}
use Rattle.akl_terms.specs.Tree.{variable}
use Rattle.akl_terms.specs.Equal.{Equal, turned, joined, IsConsistent, IsStructured}
use Rattle.akl_terms.proofs.EqualLaws.{Equal-follows, IsConsistent-follows}
use Rattle.constraint_laws.specs.Oldest.{IsOldest, HasOldest}
use Rattle.constraint_laws.specs.Touched.{IsAmong}
use Rattle.akl_model.specs.declared.label.Rule.{Rule}
use Rattle.akl_model.specs.declared.label.Label.{Label}
use Rattle.akl_model.specs.Config.{Content, Config, Found, whole, box_at}
use Rattle.akl_model.specs.Changes.{Binds}
use Rattle.akl_model.specs.Derivations.{Applies, Replays}
use Rattle.akl_model.specs.Instances.{start}
use Rattle.akl_model.proofs.NamesKept.{box-itself}
use Rattle.akl_model.proofs.Options.{some_value}
use Rattle.akl_model.proofs.Results.{Derives-append}
use Rattle.step_laws.specs.Bound.{outermost_equations, AreBoundIn}
use Rattle.step_laws.specs.Stays.{GoesOn}
use Rattle.step_laws.proofs.Steps.{Moved, aside, at_site, inside}
use Rattle.plan_laws.proofs.InScope.{Good}
use Rattle.plan_laws.proofs.Moves.{moved, site_found}
use Rattle.plan_laws.proofs.Replayed.{good_replay, replay_further}
use Rattle.reading_laws.specs.Ends.{IsEndAt}
use Rattle.reading_laws.proofs.Labels.{step_follows}
use Rattle.reading_laws.proofs.Outermost.{HasFirst}
use Rattle.reading_laws.proofs.RootsAlong.{outermost_follows, outermost_grows, first_now}
use Rattle.reading_laws.proofs.Untouched.{good_later}

-- a box before some labels and behind them, and a label more, which binds a variable in the box that is an end before it and is equal to a listed one by the outermost
-- equations before all: then it is listed, as the list has the oldest
module _ (rules : List Rule) (p : Program) (c : Config) (ls : List Label) (m : Config) (w : GoesOn rules p c ls m) (l : Label) (n : Config) (a : Applies rules p m l n) (h : Name) (f k : Found)
    (was : box_at h c.roots ≡ Some f) (is : box_at h m.roots ≡ Some k) (list : List Var) (oldest : HasOldest (outermost_equations f) list) (x : Var) (ends : IsEndAt m h x)
    (listed : (y : Var) × IsAmong y list × Equal (outermost_equations f) (variable x) (variable y)) where
  good_m : Good m
  good_m = good_later rules p c ls m w

  good_n : Good n
  good_n = good_replay rules p w.query ((w.journal ++ ls) ++ l ∷ []) n
      (replay_further rules p w.query (w.journal ++ ls) m l n (record { derives = Derives-append rules p (start p w.query) c m w.journal ls w.replays.derives w.derives }) a)

  abbrev now : HasFirst m k
  now = first_now rules p c ls m w h f k was is

  pub is_listed : Binds m n h x → IsAmong x list
  is_listed b = on (ends.each k is (IsConsistent-follows (outermost_follows m k now) consistent))
    where
      found : b.adds.before ≡ k
      found = some_value (sym b.adds.was ∙ is)

      consistent : IsConsistent (whole k)
      consistent = subst (λ (e : Found). IsConsistent (whole e)) found (IsConsistent-follows (step_follows rules p m l n good_m good_n a h b.adds.before b.adds.afterwards b.adds.was b.adds.is) b.consistent)

      low : IsStructured (outermost_equations k) x → ⊥
      low s = b.newly_bound.unstructured (subst (λ (e : Found). IsStructured (whole e) x) (sym found) (s.0, s.1, Equal-follows (outermost_follows m k now) s.2, s.3))

      on : IsStructured (outermost_equations k) x ⊎ IsOldest (outermost_equations k) x x → IsAmong x list
      on (inl s) = absurd (low s)
      on (inr o) = oldest listed.0 x listed.1 (record { equal = turned listed.2; oldest = λ y e. o.oldest y (Equal-follows (outermost_grows rules p c ls m w h f k was is) (joined listed.2 e)) })

-- one label
module _ (rules : List Rule) (p : Program) (q : Query) (journal : List Label) (c : Config) (l : Label) (d : Config) (r : Replays rules p q journal c) (a : Applies rules p c l d)
    (list : List Var) (bound : AreBoundIn c d a.site list) (x : Var) (absent : IsAmong x list → ⊥) where
  w : Good c
  w = good_replay rules p q journal c r

  v : Good d
  v = good_replay rules p q (journal ++ l ∷ []) d (replay_further rules p q journal c l d r a)

  at_place : IsEndAt c a.site.content.name x → Binds c d a.site.content.name x → ⊥
  at_place ends b = absent (is_listed rules p c [] c (record { query = q; journal = journal; replays = r; derives = refl }) l d a a.site.content.name a.site a.site
      (site_found rules p c l d w v a) (site_found rules p c l d w v a) list bound.oldest x ends (bound.every x b) b)

  pub unlisted : (n : Name) → IsEndAt c n x → Binds c d n x → ⊥
  unlisted n ends b = on (moved rules p c l d w v a n b.adds.before b.adds.afterwards b.adds.was b.adds.is)
    where
      on : Moved l.worker (slice_index c.next l.worker) a.site a.change b.adds.before b.adds.afterwards → ⊥
      on (aside z) = b.adds.more (ap (λ (k : Content). k.equations) z.content)
      on (at_site k y z) =
          let s : n ≡ a.site.content.name = box-itself n c.roots b.adds.before b.adds.was ∙ ap (λ (f : Found). f.content.name) y in
          at_place (subst (λ (m : Name). IsEndAt c m x) s ends) (subst (λ (m : Name). Binds c d m x) s b)
      on (inside k j i1 i2 y z) = b.adds.more (ap (λ (f : Found). f.content.equations) z ∙ sym (ap (λ (f : Found). f.content.equations) y))
