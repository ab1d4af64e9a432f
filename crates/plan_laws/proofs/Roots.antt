-- Root boxes: nothing is outside of them.
use Rattle.std.proofs.Common.{◌≡◌, false, true, List, [], ◌∷◌, ◌++◌, map, Option, Some, refl, sym, ◌∙◌, subst, ◌⊎◌, inl, inr}
use Rattle.std.specs.Prelude.{option_map, slice_index, IsSomeAnd}
use Rattle.akl_terms.specs.declared.name.Name.{Name}
use Rattle.akl_terms.specs.declared.name.Var.{Var}
use Rattle.akl_terms.specs.declared.name.Place.{Place}
use Rattle.akl_terms.specs.declared.program.Program.{Program}
use Rattle.akl_terms.specs.declared.program.Query.{Query}
use Rattle.akl_terms.specs.Equal.{IsConsistent}
use Rattle.akl_model.specs.declared.item.Item.{Item}
use Rattle.akl_model.specs.declared.label.Rule.{Rule}
use Rattle.akl_model.specs.declared.label.Label.{Label}
use Rattle.akl_model.specs.Config.{IsIn, Content, Config, Found, equations_of, environment, whole, box_at, site_of}
use Rattle.akl_model.specs.Rules.{change_by}
use Rattle.akl_model.specs.Conditions.{HasFailed}
use Rattle.akl_model.specs.Stable.{only, frames_of, TouchesFrom, Allows}
use Rattle.akl_model.specs.Scopes.{nowhere}
use Rattle.akl_model.specs.Derivations.{IsInForce, Replays, IsReady}
use Rattle.akl_model.specs.Changes.{goal_names}
use Rattle.akl_model.specs.Wakes.{has_candidate, names_around, names_down_to, StandsIn, SomeBox, Concerns, by_box, by_box_around}
use Rattle.akl_model.proofs.NamesKept.{box-itself}
use Rattle.akl_model.proofs.Options.{some_value}
use Rattle.akl_model.proofs.ScopesAlong.{scope_along}
use Rattle.constraint_laws.proofs.NoEquations.{nothing_consistent}
use Rattle.step_laws.specs.Stays.{GoesOn, Leaves, IsSameBox}
use Rattle.step_laws.proofs.Replaced.{box_rule}
use Rattle.plan_laws.specs.Sleeps.{Needs}
use Rattle.plan_laws.proofs.InScope.{Good}
use Rattle.plan_laws.proofs.BoxSleeps.{fail_ready}
use Rattle.plan_laws.proofs.IdlePlaces.{split_candidate}
use Rattle.plan_laws.proofs.NeedsConcern.{needs_concern}
use Rattle.plan_laws.proofs.Replayed.{good_replay}
use Rattle.plan_laws.proofs.Concerned.{inside_around}
use Rattle.plan_laws.proofs.Frames.{some_found}
use Rattle.plan_laws.proofs.SameSites.{whole_same}
use Rattle.plan_laws.proofs.WaitingAtoms.{box_by_goals}

-- neither it nor a box inside it touches anything from outside
root_untouched : (c : Config) → Good c → (p : Program) (n : Name) (f : Found) → box_at n c.roots ≡ Some f → f.around ≡ [] → (x : Var)
    → SomeBox (λ (d : Found). TouchesFrom p (frames_of (only f)) (environment f) d x) f.around (only f) → ⊥
root_untouched c w p n f e root x s = some_found (λ (d : Found). TouchesFrom p (frames_of (only f)) (environment f) d x) ⊥ f.around (only f)
    (λ r k hs i t. subst (λ (path : List Content). IsIn x.frame (scope_along nowhere path).frames) root (inside_around c w p x n f e r k hs i t)) s

-- and no box stands around it
root_alone : (c : Config) (n k : Name) (f : Found) → box_at n c.roots ≡ Some f → f.around ≡ [] → StandsIn k c.roots (Place.Box n) → ⊥
root_alone c n k f e root h = subst (λ (path : List Content). IsIn k (map (λ (b : Content). b.name) path)) root (subst (λ (o : Option Found). IsSomeAnd (option_map names_around o) (IsIn k)) e h)

root_unconcerned : (c : Config) → Good c → (p : Program) (n : Name) (f : Found) → box_at n c.roots ≡ Some f → f.around ≡ [] → (x : Var) → Concerns p c x (Place.Box n) → ⊥
root_unconcerned c w p n f e root x (by_box {f = k} i s) =
    root_untouched c w p n f e root x (subst (λ (u : Found). SomeBox (λ (d : Found). TouchesFrom p (frames_of (only u)) (environment u) d x) u.around (only u)) (some_value (sym i ∙ e)) s)
root_unconcerned c w p n f e root x (by_box_around k h i t) = root_alone c n k f e root h

pub root_unneeded : (c : Config) → Good c → (p : Program) (n : Name) (f : Found) → box_at n c.roots ≡ Some f → f.around ≡ [] → (x : Var) → Needs p c (Place.Box n) x → ⊥
root_unneeded c w p n f e root x k = root_unconcerned c w p n f e root x (needs_concern p c (Place.Box n) x k)

pub root_needs_nothing : (rules : List Rule) (p : Program) (q : Query) (journal : List Label) (c : Config) → Replays rules p q journal c → (n : Name) (f : Found) → box_at n c.roots ≡ Some f → f.around ≡ []
    → (x : Var) → (Needs p c (Place.Box n) x → ⊥) × (Concerns p c x (Place.Box n) → ⊥)
root_needs_nothing rules p q journal c r n f e root x =
    (root_unneeded c (good_replay rules p q journal c r) p n f e root x, root_unconcerned c (good_replay rules p q journal c r) p n f e root x)

-- it fails where its equations are inconsistent
root_fails : (rules : List Rule) (p : Program) (c : Config) (n : Name) (f : Found) → IsInForce rules Rule.Fail → box_at n c.roots ≡ Some f → f.around ≡ [] → (IsConsistent (whole f) → ⊥) → IsReady rules p c (Place.Box n)
root_fails rules p c n f force e root clash = (fail_ready rules p c n f force e (inl clash) (λ u k. k (subst (λ (path : List Content). IsConsistent (equations_of path)) (sym root) nothing_consistent))).0

module _ (rules : List Rule) (p : Program) (c d : Config) (n : Name) (f k : Found) (e : box_at n c.roots ≡ Some f) (i : box_at n d.roots ≡ Some k) (same : IsSameBox f k) (root : f.around ≡ [])
    (unready : IsReady rules p c (Place.Box n) → ⊥) (unfailed : HasFailed k.goals → ⊥) (unsplit : has_candidate k.goals ≡ false) (r : IsReady rules p d (Place.Box n)) where
  site : r.applies.site ≡ k
  site = some_value (sym (subst (λ (y : Place). site_of y d.roots ≡ Some r.applies.site) r.is_place r.applies.is_site) ∙ i)

  change : change_by p r.applies.makes.reading r.label.worker (slice_index d.next r.label.worker) r.label.rule (Place.Box n) r.label.alternative k ≡ Some r.applies.change
  change = subst (λ (u : Found). change_by p r.applies.makes.reading r.label.worker (slice_index d.next r.label.worker) r.label.rule (Place.Box n) r.label.alternative u ≡ Some r.applies.change) site
      (subst (λ (y : Place). change_by p r.applies.makes.reading r.label.worker (slice_index d.next r.label.worker) r.label.rule y r.label.alternative r.applies.site ≡ Some r.applies.change) r.is_place r.applies.makes.change)

  allowed : Allows p r.applies.makes.reading r.label.rule (Place.Box n) r.label.alternative k
  allowed = subst (λ (u : Found). Allows p r.applies.makes.reading r.label.rule (Place.Box n) r.label.alternative u) site
      (subst (λ (y : Place). Allows p r.applies.makes.reading r.label.rule y r.label.alternative r.applies.site) r.is_place r.applies.makes.allowed)

  by_rule : (q : Rule) → r.label.rule ≡ q → (q ≡ Rule.Fail) ⊎ (q ≡ Rule.Split) → ⊥
  by_rule q z (inl y) =
      let h : (IsConsistent (whole k) → ⊥) ⊎ HasFailed k.goals = subst (λ (u : Rule). Allows p r.applies.makes.reading u (Place.Box n) r.label.alternative k) (z ∙ y) allowed in
      elim h [
        | inl clash ↦ unready (root_fails rules p c n f (subst (IsInForce rules) (z ∙ y) r.applies.in_force) e root (λ still. clash (subst IsConsistent (whole_same f k same) still)))
        | inr failed ↦ unfailed failed
      ]
  by_rule q z (inr y) =
      let h : has_candidate k.goals ≡ true =
      split_candidate p r.applies.makes.reading n r.label.alternative k (subst (λ (u : Rule). Allows p r.applies.makes.reading u (Place.Box n) r.label.alternative k) (z ∙ y) allowed) in
      let clash : false ≡ true = sym unsplit ∙ h in
      cc

  root_unready : ⊥
  root_unready = by_rule r.label.rule refl (box_rule p r.applies.makes.reading r.label.worker (slice_index d.next r.label.worker) r.label.rule n r.label.alternative k r.applies.change change)

module _ (rules : List Rule) (p : Program) (c : Config) (ls : List Label) (d : Config) (w : GoesOn rules p c ls d) (n : Name) (f : Found) (e : box_at n c.roots ≡ Some f) (root : f.around ≡ [])
    (u : Leaves w (Item.Goals n)) where
  unread : (m : Name) → IsIn m (names_down_to f) → Leaves w (Item.Goals m)
  unread m h = on (subst (λ (path : List Content). IsIn m (map (λ (b : Content). b.name) path ++ f.content.name ∷ [])) root h)
    where
      on : IsIn m (f.content.name ∷ []) → Leaves w (Item.Goals m)
      on (inl q) = subst (λ (b : Name). Leaves w (Item.Goals b)) (box-itself n c.roots f e ∙ sym q) u
      on (inr q) = absurd q

  -- while its set of goals stays it has the same content
  pub root_stays : (k : Found) × (box_at n d.roots ≡ Some k) × IsSameBox f k
  root_stays = let b : (b : Found) × (box_at n d.roots ≡ Some b) × (goal_names f.goals ≡ goal_names b.goals) × IsSameBox f b = box_by_goals rules p c ls d w n f e unread in (b.0, b.1, b.3)

  -- and it isn't ready, but by a failed goal or a candidate
  pub root_still : (IsReady rules p c (Place.Box n) → ⊥) → (k : Found) → box_at n d.roots ≡ Some k → (HasFailed k.goals → ⊥) → has_candidate k.goals ≡ false → IsReady rules p d (Place.Box n) → ⊥
  root_still unready k i unfailed unsplit r = root_unready rules p c d n f k e i (subst (IsSameBox f) (some_value (sym root_stays.1 ∙ i)) root_stays.2) root unready unfailed unsplit r
