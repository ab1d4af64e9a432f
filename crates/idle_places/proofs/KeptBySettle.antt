-- Kept waits over a settle.
use Rattle.std.proofs.Common.{◌≡◌, ◌<◌, List, length, Some, refl, sym, ◌∙◌, ap, subst, arith}
use Rattle.akl_terms.specs.declared.name.Name.{Name}
use Rattle.akl_terms.specs.declared.name.Var.{Var}
use Rattle.akl_terms.specs.declared.name.Place.{Place}
use Rattle.akl_terms.specs.declared.program.Program.{Program}
use Rattle.akl_terms.specs.declared.program.Query.{Query}
use Rattle.akl_terms.specs.Equal.{IsConsistent, IsStructured}
use Rattle.akl_model.specs.declared.label.Rule.{Rule}
use Rattle.akl_model.specs.declared.label.Label.{Label}
use Rattle.akl_model.specs.Config.{Config, Found, whole}
use Rattle.akl_model.specs.Derivations.{Replays}
use Rattle.akl_model.specs.Wakes.{boxes_around, StandsIn, IsOneOf, Wait, SettleOpens, IsOpenAfterSettle, IsKeptAfterSettle, its_own, another}
use Rattle.akl_model.proofs.Options.{some_value}
use Rattle.constraint_laws.specs.Oldest.{IsOldest}
use Rattle.constraint_laws.specs.Touched.{IsAmong}
use Rattle.plan_laws.specs.Sleeps.{IsOutermostAt}
use Rattle.plan_laws.proofs.IdlePlaces.{settle_out}
use Rattle.plan_laws.specs.Waits.{IsScopedAt, AreWaits}
use Rattle.plan_laws.specs.Kept.{AreLeftBySettle}
use Rattle.plan_laws.proofs.Scopes.{scoped_there}
use Rattle.reading_laws.specs.SeenIdle.{KeepsOldestAt}

-- a settle doesn't open its own place
not_itself : (rules : List Rule) (p : Program) (q : Query) (journal : List Label) (c : Config) → Replays rules p q journal c → (own : Place) (still : List Place) (n : Name) → SettleOpens still c own n → own ≡ Place.Box n → ⊥
not_itself rules p q journal c r own still n o s =
    let u : (ns : List Name) × (ms : List Name) × (boxes_around own c.roots ≡ Some ns) × (boxes_around (Place.Box n) c.roots ≡ Some ms) × (length ms < length ns) × StandsIn n c.roots own = settle_out rules p q journal c r own still n o in
    let e : length u.0 ≡ length u.1 = ap length (some_value (sym u.2 ∙ ap (λ (place : Place). boxes_around place c.roots) s ∙ u.3)) in
    let h : length u.1 < length u.0 = u.4 in
    omega (arith, e, h)

module _ (rules : List Rule) (p : Program) (q : Query) (journal : List Label) (c : Config) (r : Replays rules p q journal c) (before : List Place) (waits : List Wait) (still now : List Place) (waits_now : List Wait) (h : AreWaits c before waits)
    (own : Place) (kept : List Var) (in_scope : (x : Var) → IsAmong x kept → IsScopedAt c own x) (oldest : KeepsOldestAt c own kept) (less : (place : Place) → IsOneOf place still → IsOneOf place before) (shut : IsOneOf own still → ⊥)
    (opens : (place : Place) → IsOneOf place now → IsOpenAfterSettle still c own place) (left : AreLeftBySettle waits still c own kept waits_now) where
  scoped : (place : Place) (x : Var) → IsKeptAfterSettle waits still c own kept place x → IsScopedAt c place x
  scoped place x (its_own i) = in_scope x i
  scoped place x (another other apart k) = h.scoped place x k

  own_closed : (place : Place) → own ≡ place → IsOpenAfterSettle still c own place → ⊥
  own_closed place s (IsOpenAfterSettle.stays o) = shut (subst (λ (z : Place). IsOneOf z still) (sym s) o)
  own_closed place s (IsOpenAfterSettle.opened {n = n} o) = not_itself rules p q journal c r own still n o s

  closed : (place : Place) (x : Var) → IsKeptAfterSettle waits still c own kept place x → IsOpenAfterSettle still c own place → ⊥
  closed place x (its_own i) o = own_closed own refl o
  closed place x (another other apart k) (IsOpenAfterSettle.stays o) = h.closed place x k (less place o)
  closed place x (another other apart k) (IsOpenAfterSettle.opened {n = n} o) = apart n o refl

  oldest_kept : (place : Place) (x : Var) → IsKeptAfterSettle waits still c own kept place x → (f : Found) → IsOutermostAt c place f → IsConsistent (whole f) → (IsStructured (whole f) x → ⊥)
      → (w : Var) → IsOldest (whole f) x w → IsKeptAfterSettle waits still c own kept place w
  oldest_kept place x (its_own i) f at still_consistent free w o = its_own (oldest.each f at still_consistent x w i free o)
  oldest_kept place x (another other apart k) f at still_consistent free w o = another other apart (h.oldest place x k f at still_consistent free w o)

  pub kept_by_settle : AreWaits c now waits_now
  kept_by_settle = record {
    there = λ place x k. scoped_there c place x (scoped place x (left.each place x k));
    closed = λ place x k o. closed place x (left.each place x k) (opens place o);
    scoped = λ place x k. scoped place x (left.each place x k);
    oldest = λ place x k f at still_consistent free w o. left.all place w (oldest_kept place x (left.each place x k) f at still_consistent free w o);
  }
