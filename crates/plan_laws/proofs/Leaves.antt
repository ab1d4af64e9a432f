-- A label that changes no item that an idle place reads passes it by.
use Rattle.std.proofs.Common.{◌≡◌, ◌≢◌, ◌+◌, List, [], ◌∷◌, ◌++◌, Option, Some, None, refl, sym, ◌∙◌, ap, subst, ◌⊎◌, inl, inr}
use Rattle.std.specs.Prelude.{option_map, is_some, slice_index}
use Rattle.akl_terms.specs.declared.name.Name.{Name}
use Rattle.akl_terms.specs.declared.name.Var.{Var}
use Rattle.akl_terms.specs.declared.name.Place.{Place}
use Rattle.akl_terms.specs.declared.program.Program.{Program}
use Rattle.akl_terms.specs.declared.program.Query.{Query}
use Rattle.akl_model.specs.declared.label.Rule.{Rule}
use Rattle.akl_model.specs.declared.label.Label.{Label}
use Rattle.akl_model.specs.Config.{Content, Config, Found, box_at, home_of}
use Rattle.akl_model.specs.Derivations.{Applies, Replays}
use Rattle.akl_model.specs.Changes.{constraint_of, constraint_at, goal_names, goals_at, shape_at, Binds}
use Rattle.akl_model.specs.Wakes.{names_around, StandsIn, IsAt, Opens, new_goal, new_box, changed_goal, box_of_changed_goal, changed_constraint, changed_goals, holder_of_changed_goals, woken, bound_outside}
use Rattle.akl_model.proofs.Options.{some_value}
use Rattle.constraint_laws.specs.Touched.{IsAmong}
use Rattle.plan_laws.specs.Sleeps.{PassesBy, LeavesGoal, LeavesBox}
use Rattle.step_laws.proofs.Steps.{other_goals, Moved, aside, at_site, inside}
use Rattle.plan_laws.proofs.InScope.{Good}
use Rattle.plan_laws.proofs.Moves.{moved}
use Rattle.plan_laws.proofs.Replayed.{good_replay, replay_further}

module _ (rules : List Rule) (p : Program) (c : Config) (l : Label) (d : Config) (w : Good c) (v : Good d) (a : Applies rules p c l d) where
  -- a box has the same content, or another set of goals
  pub same_or_loses : (n : Name) (f k : Found) → box_at n c.roots ≡ Some f → box_at n d.roots ≡ Some k → (k.content ≡ f.content) ⊎ (goals_at n c.roots ≢ goals_at n d.roots)
  same_or_loses n f k e i = on (moved rules p c l d w v a n f k e i)
    where
      on : Moved l.worker (slice_index c.next l.worker) a.site a.change f k → (k.content ≡ f.content) ⊎ (goals_at n c.roots ≢ goals_at n d.roots)
      on (aside x) = inl x.content
      on (inside u j x y q r) = inl (ap (λ (m : Found). m.content) r ∙ sym (ap (λ (m : Found). m.content) q))
      on (at_site b q r) = elim (other_goals rules p c l d w.stand a b) [
        | inl x ↦ inr (λ z. x (some_value (sym (ap (option_map (λ (u : Found). goal_names u.goals)) (e ∙ ap Some q)) ∙ z ∙ ap (option_map (λ (u : Found). goal_names u.goals)) (i ∙ ap Some r))))
        | inr x ↦ inl (ap (λ (m : Found). m.content) r ∙ x.3 ∙ sym (ap (λ (m : Found). m.content) q))
      ]

  -- so where something is bound the set of goals changes
  pub binds_changes : (n : Name) (x : Var) → Binds c d n x → goals_at n c.roots ≢ goals_at n d.roots
  binds_changes n x b = elim (same_or_loses n b.adds.before b.adds.afterwards b.adds.was b.adds.is) [ inl q ↦ absurd (b.adds.more (ap (λ (m : Content). m.equations) q)) | inr z ↦ z ]

  -- a constraint changes only with the set of goals
  pub constraint_changes : (n : Name) (f k : Found) → box_at n c.roots ≡ Some f → box_at n d.roots ≡ Some k → constraint_at n c.roots ≢ constraint_at n d.roots → goals_at n c.roots ≢ goals_at n d.roots
  constraint_changes n f k e i differ = elim (same_or_loses n f k e i) [
    | inr z ↦ z
    | inl q ↦ let all : constraint_of f ≡ constraint_of k = λ j. record { frames = (sym q j).frames; equations = (sym q j).equations; ports = (sym q j).ports } in
        absurd (differ (ap (option_map constraint_of) e ∙ ap Some all ∙ sym (ap (option_map constraint_of) i)))
  ]

not_none : (o : Option Found) (g : Found → List Name) → is_some (option_map g o) ≡ Rattle.std.proofs.Common.true → o ≡ None → ⊥
not_none None g h q = cc
not_none (Some x) g h q = cc

pub leaves_goal : (rules : List Rule) (p : Program) (q : Query) (journal : List Label) (c : Config) (l : Label) (d : Config) (g : Name) (kept : List Var)
    → Replays rules p q journal c → Applies rules p c l d → LeavesGoal g c d → PassesBy rules p kept (Place.Goal g) c l d
leaves_goal rules p q journal c l d g kept r a x = record { applies = a; unopened = λ o. opens (Place.Goal g) refl o; unbound = unbound }
  where
    w : Good c
    w = good_replay rules p q journal c r

    v : Good d
    v = good_replay rules p q (journal ++ l ∷ []) d (replay_further rules p q journal c l d r a)

    opens : (place : Place) → place ≡ Place.Goal g → Opens [] c d place → ⊥
    opens place s (new_goal {g = h} e i) = let t : h ≡ g = cc in not_none (home_of g c.roots) Rattle.akl_model.specs.Wakes.names_down_to x.there (subst (λ (m : Name). home_of m c.roots ≡ None) t e)
    opens place s (changed_goal {g = h} e i differ) = let t : h ≡ g = cc in x.goal (subst (λ (m : Name). shape_at m c.roots ≢ shape_at m d.roots) t differ)
    opens place s (holder_of_changed_goals n {g = h} e i differ held) = let t : h ≡ g = cc in x.held n (subst (λ (m : Name). Rattle.akl_model.specs.Wakes.holder_in n d.roots ≡ Some m) t held) differ
    opens place s (bound_outside n {x = y} b o h) = x.around n (inr (subst (StandsIn n d.roots) s h)) (binds_changes rules p c l d w v a n y b)
    opens place s (woken n k b) = k
    opens place s (new_box {n = n} e i) = let t : Place.Box n ≡ Place.Goal g = s in cc
    opens place s (box_of_changed_goal h {f = f} e i differ) = let t : Place.Box f.content.name ≡ Place.Goal g = s in cc
    opens place s (changed_constraint {n = n} e i differ) = let t : Place.Box n ≡ Place.Goal g = s in cc
    opens place s (changed_goals {n = n} e i differ) = let t : Place.Box n ≡ Place.Goal g = s in cc

    unbound : (n : Name) → IsAt n c.roots (Place.Goal g) → (y : Var) → IsAmong y kept → Binds c d n y → ⊥
    unbound n (inl z) y k b = let t : Place.Goal g ≡ Place.Box n = z.0 in cc
    unbound n (inr z) y k b = x.around n (inl z) (binds_changes rules p c l d w v a n y b)

pub leaves_box : (rules : List Rule) (p : Program) (q : Query) (journal : List Label) (c : Config) (l : Label) (d : Config) (n : Name) (kept : List Var)
    → Replays rules p q journal c → Applies rules p c l d → LeavesBox n c d → PassesBy rules p kept (Place.Box n) c l d
leaves_box rules p q journal c l d n kept r a x = record { applies = a; unopened = λ o. opens (Place.Box n) refl o; unbound = unbound }
  where
    w : Good c
    w = good_replay rules p q journal c r

    v : Good d
    v = good_replay rules p q (journal ++ l ∷ []) d (replay_further rules p q journal c l d r a)

    opens : (place : Place) → place ≡ Place.Box n → Opens [] c d place → ⊥
    opens place s (new_box {n = m} e i) = let t : m ≡ n = cc in not_none (box_at n c.roots) names_around x.there (subst (λ (k : Name). box_at k c.roots ≡ None) t e)
    opens place s (box_of_changed_goal h {f = f} e i differ) = let t : f.content.name ≡ n = cc in x.each h f i t differ
    opens place s (changed_constraint {n = m} {e = f} {f = k} e i differ) =
        let t : m ≡ n = cc in x.goals (subst (λ (b : Name). goals_at b c.roots ≢ goals_at b d.roots) t (constraint_changes rules p c l d w v a m f k e i differ))
    opens place s (changed_goals {n = m} e i differ) = let t : m ≡ n = cc in x.goals (subst (λ (b : Name). goals_at b c.roots ≢ goals_at b d.roots) t differ)
    opens place s (bound_outside m {x = y} b o h) = x.around m (inr (subst (StandsIn m d.roots) s h)) (binds_changes rules p c l d w v a m y b)
    opens place s (woken m k b) = k
    opens place s (new_goal {g = g} e i) = let t : Place.Goal g ≡ Place.Box n = s in cc
    opens place s (changed_goal {g = g} e i differ) = let t : Place.Goal g ≡ Place.Box n = s in cc
    opens place s (holder_of_changed_goals m {g = g} e i differ held) = let t : Place.Goal g ≡ Place.Box n = s in cc

    unbound : (m : Name) → IsAt m c.roots (Place.Box n) → (y : Var) → IsAmong y kept → Binds c d m y → ⊥
    unbound m (inl z) y k b = let t : n ≡ m = cc in x.goals (subst (λ (u : Name). goals_at u c.roots ≢ goals_at u d.roots) (sym t) (binds_changes rules p c l d w v a m y b))
    unbound m (inr z) y k b = x.around m (inl z) (binds_changes rules p c l d w v a m y b)
