-- Places that have gone may be dropped from what runs.
use Rattle.std.proofs.Common.{◌≡◌, List, [], ◌∷◌, ◌++◌, sym, subst, ◌⊎◌, inl, inr}
use Rattle.akl_terms.specs.declared.name.Var.{Var}
use Rattle.akl_terms.specs.declared.name.Place.{Place}
use Rattle.akl_terms.specs.declared.program.Program.{Program}
use Rattle.akl_terms.specs.declared.program.Query.{Query}
use Rattle.akl_model.specs.declared.label.Rule.{Rule}
use Rattle.akl_model.specs.declared.label.Label.{Label}
use Rattle.akl_model.specs.Config.{Config}
use Rattle.akl_model.specs.Wakes.{IsOneOf, IsThere, Wait, IsKept}
use Rattle.constraint_laws.proofs.SameTerms.{Either}
use Rattle.plan_laws.specs.Runs.{Forgets, Runs, begins, commits, settles, forgets}
use Rattle.step_laws.proofs.Decide.{there_or}
use Rattle.plan_laws.proofs.Less.{one_of_left, one_of_right, places_of, waits_place, less, less_in, less_of, waits_less, waits_less_in, waits_less_of}

module _ (rules : List Rule) (p : Program) (q : Query) where
  -- more places may be open, and more waits kept
  pub runs_more : (journal : List Label) (c : Config) (before : List Place) (waits : List Wait) (now : List Place) (waits_now : List Wait) → ((place : Place) → IsOneOf place before → IsOneOf place now)
      → ((place : Place) (x : Var) → IsKept waits place x → IsKept waits_now place x) → Runs rules p q journal c before waits → Runs rules p q journal c now waits_now
  runs_more _ _ before waits now waits_now f g (begins h) = begins {now = now} (λ place i. f place (h place i))
  runs_more _ _ before waits now waits_now f g (commits r x) = commits {now = now} r (record { applies = x.applies; opens = λ place o. f place (x.opens place o); keeps = λ place v k. g place v (x.keeps place v k) })
  runs_more _ _ before waits now waits_now f g (settles r x) = settles {now = now} r (record {
    unready = x.unready;
    kept = x.kept;
    enough = x.enough;
    still = x.still;
    closes = x.closes;
    opens = λ place o. f place (x.opens place o);
    keeps = λ place v k. g place v (x.keeps place v k);
  })
  runs_more _ _ before waits now waits_now f g (forgets r x) = forgets {now = now} r (record {
    gone = x.gone;
    closes = λ place h. elim (x.closes place h) [ inl e ↦ inl e | inr o ↦ inr (f place o) ];
    keeps = λ place v k. g place v (x.keeps place v k);
  })

  -- those of a list are forgotten, one after another
  forgotten : (journal : List Label) (c : Config) (places : List Place) (before : List Place) (waits : List Wait) (now : List Place) (waits_now : List Wait) → Runs rules p q journal c before waits
      → ((place : Place) → IsOneOf place before → IsOneOf place now ⊎ ((IsThere place c.roots → ⊥) × IsOneOf place places))
      → ((place : Place) (x : Var) → IsKept waits place x → IsKept waits_now place x ⊎ ((IsThere place c.roots → ⊥) × IsOneOf place places)) → Runs rules p q journal c now waits_now
  forgotten journal c [] before waits now waits_now r f g = runs_more journal c before waits now waits_now
      (λ place h. elim (f place h) [ inl y ↦ y | inr y ↦ absurd y.1 ]) (λ place x h. elim (g place x h) [ inl y ↦ y | inr y ↦ absurd y.1 ]) r
  forgotten journal c (own ∷ places) before waits now waits_now r f g = on (there_or own c.roots)
      (λ there. forgotten journal c places before waits now waits_now r
      (λ place h. others place (f place h) (λ gone e. gone (subst (λ (o : Place). IsThere o c.roots) (sym e) there)))
      (λ place x h. others place (g place x h) (λ gone e. gone (subst (λ (o : Place). IsThere o c.roots) (sym e) there))))
      (λ gone. forgotten journal c places (less own before) (waits_less own waits) now waits_now (forgets r (forgets_own gone))
      (λ place h. let u : IsOneOf place before × (place ≡ own → ⊥) = less_of own place before h in others place (f place u.0) (λ t. u.1))
      (λ place x h. let u : IsKept waits place x × (place ≡ own → ⊥) = waits_less_of own place x waits h in others place (g place x u.0) (λ t. u.1)))
    where
      -- the others go on
      others : {A : Type 0} (place : Place) → A ⊎ ((IsThere place c.roots → ⊥) × IsOneOf place (own ∷ places)) → ((IsThere place c.roots → ⊥) → place ≡ own → ⊥) → A ⊎ ((IsThere place c.roots → ⊥) × IsOneOf place places)
      others place (inl y) n = inl y
      others place (inr (gone, inl e)) n = absurd (n gone e)
      others place (inr (gone, inr h)) n = inr (gone, h)

      forgets_own : (IsThere own c.roots → ⊥) → Forgets c own before waits (less own before) (waits_less own waits)
      forgets_own gone = record {
        gone = gone;
        closes = λ place h. less_in own place before h;
        keeps = λ place x y. elim (waits_less_in own place x waits y.kept) [ inl e ↦ absurd (y.another e) | inr u ↦ u ];
      }

      on : Either (IsThere own c.roots) → (IsThere own c.roots → Runs rules p q journal c now waits_now) → ((IsThere own c.roots → ⊥) → Runs rules p q journal c now waits_now) → Runs rules p q journal c now waits_now
      on (inl there) u v = u there
      on (inr gone) u v = v gone

  pub drops_gone : (journal : List Label) (c : Config) (before : List Place) (waits : List Wait) → Runs rules p q journal c before waits
      → (now : List Place) (waits_now : List Wait) → ((place : Place) → IsThere place c.roots → IsOneOf place before → IsOneOf place now)
      → ((place : Place) (x : Var) → IsThere place c.roots → IsKept waits place x → IsKept waits_now place x) → Runs rules p q journal c now waits_now
  drops_gone journal c before waits r now waits_now f g = forgotten journal c (before ++ places_of waits) before waits now waits_now r
      (λ place h. elim (there_or place c.roots) [ inl there ↦ inl (f place there h) | inr gone ↦ inr (gone, one_of_left place before (places_of waits) h) ])
      (λ place x h. elim (there_or place c.roots) [ inl there ↦ inl (g place x there h) | inr gone ↦ inr (gone, one_of_right place before (places_of waits) (waits_place place x waits h)) ])
