-- Places may be open again in what runs: their waits need not be kept.
use Rattle.std.proofs.Common.{List, ◌++◌, ◌≡◌, sym, subst, inl, inr}
use Rattle.akl_terms.specs.declared.name.Name.{Name}
use Rattle.akl_terms.specs.declared.name.Var.{Var}
use Rattle.akl_terms.specs.declared.name.Place.{Place}
use Rattle.akl_terms.specs.declared.program.Program.{Program}
use Rattle.akl_terms.specs.declared.program.Query.{Query}
use Rattle.akl_model.specs.declared.label.Rule.{Rule}
use Rattle.akl_model.specs.declared.label.Label.{Label}
use Rattle.akl_model.specs.Config.{Config}
use Rattle.akl_model.specs.Wakes.{IsOneOf, Wait, IsKept, SettleOpens, IsOpenAfterCommit, IsOpenAfterSettle, IsKeptAfterSettle, its_own, another}
use Rattle.constraint_laws.proofs.SameTerms.{Either}
use Rattle.plan_laws.specs.Runs.{Runs, begins, commits, settles, forgets, Settles}
use Rattle.step_laws.proofs.Decide.{one_of_or}
use Rattle.plan_laws.proofs.Drops.{runs_more}
use Rattle.plan_laws.proofs.Less.{one_of_left, one_of_right, one_of_either}
use Rattle.plan_laws.proofs.CallWaits.{opens_too, waits_beside, beside_in, beside_of}

module _ (rules : List Rule) (p : Program) (q : Query) where
  -- over a settle: if it is of one of these places, it is as if it weren't
  module _ (more : List Place) (journal : List Label) (c : Config) (own : Place) (before now : List Place) (waits waits_now : List Wait) (x : Settles rules p c own before waits now waits_now)
      (r : Runs rules p q journal c ((more ++ now) ++ before) (waits_beside (more ++ now) waits)) where
    still_open : (place : Place) → IsOneOf place x.still → IsOneOf place now
    still_open place i = x.opens place (IsOpenAfterSettle.stays i)

    unopened : (place : Place) → (IsOneOf place (more ++ now) → ⊥) → (n : Name) → SettleOpens x.still c own n → place ≡ Place.Box n → ⊥
    unopened place n m o e = n (one_of_right place more now (subst (λ (u : Place). IsOneOf u now) (sym e) (x.opens (Place.Box m) (IsOpenAfterSettle.opened o))))

    not_these : (place : Place) → (IsOneOf place (more ++ now) → ⊥) → IsOneOf place more → ⊥
    not_these place n i = n (one_of_left place more now i)

    reopens_own : IsOneOf own more → Runs rules p q journal c (more ++ now) (waits_beside more waits_now)
    reopens_own own_one = runs_more rules p q journal c ((more ++ now) ++ before) (waits_beside (more ++ now) waits) (more ++ now) (waits_beside more waits_now)
        (λ place i. elim (one_of_either place (more ++ now) before i) [
          | inl j ↦ j
          | inr j ↦ elim (x.closes place j) [ inl e ↦ one_of_left place more now (subst (λ (u : Place). IsOneOf u more) (sym e) own_one) | inr k ↦ one_of_right place more now (still_open place k) ]
        ])
        (λ place v y.
        let z : IsKept waits place v × (IsOneOf place (more ++ now) → ⊥) = beside_of place v (more ++ now) waits y in
        beside_in place v more waits_now (not_these place z.1) (x.keeps place v (another (λ e. z.1 (one_of_left place more now (subst (λ (u : Place). IsOneOf u more) (sym e) own_one))) (unopened place z.1) z.0)))
        r

    settles_still : (IsOneOf own more → ⊥) → Runs rules p q journal c (more ++ now) (waits_beside more waits_now)
    settles_still not_own = settles {now = more ++ now} r (record {
      unready = x.unready;
      kept = x.kept;
      enough = x.enough;
      still = (more ++ now) ++ x.still;
      closes = λ place i. elim (one_of_either place (more ++ now) before i) [
        | inl j ↦ inr (one_of_left place (more ++ now) x.still j)
        | inr j ↦ elim (x.closes place j) [ inl e ↦ inl e | inr k ↦ inr (one_of_right place (more ++ now) x.still k) ]
      ];
      opens = opens;
      keeps = keeps;
    })
      where
        opens : (place : Place) → IsOpenAfterSettle ((more ++ now) ++ x.still) c own place → IsOneOf place (more ++ now)
        opens place (IsOpenAfterSettle.stays i) = elim (one_of_either place (more ++ now) x.still i) [ inl j ↦ j | inr j ↦ one_of_right place more now (still_open place j) ]
        opens _ (IsOpenAfterSettle.opened {n} o) = one_of_right (Place.Box n) more now
            (x.opens (Place.Box n) (IsOpenAfterSettle.opened (record { is_nearest = o.is_nearest; idle = λ other i. o.idle other (one_of_right other (more ++ now) x.still i) })))

        keeps : (place : Place) (v : Var) → IsKeptAfterSettle (waits_beside (more ++ now) waits) ((more ++ now) ++ x.still) c own x.kept place v → IsKept (waits_beside more waits_now) place v
        keeps _ v (its_own i) = beside_in own v more waits_now not_own (x.keeps own v (its_own i))
        keeps place v (another n m k) =
            let z : IsKept waits place v × (IsOneOf place (more ++ now) → ⊥) = beside_of place v (more ++ now) waits k in
            beside_in place v more waits_now (not_these place z.1) (x.keeps place v (another n (unopened place z.1) z.0))

    over_settle : Runs rules p q journal c (more ++ now) (waits_beside more waits_now)
    over_settle = on (one_of_or own more)
      where
        on : Either (IsOneOf own more) → Runs rules p q journal c (more ++ now) (waits_beside more waits_now)
        on (inl i) = reopens_own i
        on (inr n) = settles_still n

  pub reopened : (more : List Place) (journal : List Label) (c : Config) (now : List Place) (waits : List Wait) → Runs rules p q journal c now waits → Runs rules p q journal c (more ++ now) (waits_beside more waits)
  reopened more _ _ now waits (begins h) = begins {now = more ++ now} (λ place i. one_of_right place more now (h place i))
  reopened more _ _ now waits_now (commits {journal} {c} {d} {l} {before} {waits = waits} r x) = commits {now = more ++ now} (reopened more journal c before waits r) (record {
    applies = x.applies;
    opens = λ place o. elim o [
      | IsOpenAfterCommit.stays h i ↦ elim (one_of_either place more before h) [ inl j ↦ one_of_left place more now j | inr j ↦ one_of_right place more now (x.opens place (IsOpenAfterCommit.stays j i)) ]
      | IsOpenAfterCommit.opened y ↦ one_of_right place more now (x.opens place (IsOpenAfterCommit.opened (opens_too (waits_beside more waits) waits c d place (λ v u. (beside_of place v more waits u).0) y)))
    ];
    keeps = λ place v y.
        let z : IsKept waits place v × (IsOneOf place more → ⊥) = beside_of place v more waits y.kept in
        beside_in place v more waits_now z.1 (x.keeps place v (record {
          kept = z.0;
          unopened = λ o. y.unopened (opens_too waits (waits_beside more waits) c d place (λ u i. beside_in place u more waits z.1 i) o);
          there = y.there;
        }));
  })
  reopened more _ _ now waits_now (settles {journal} {c} {own} {before} {waits = waits} r x) = over_settle more journal c own before now waits waits_now x (reopened (more ++ now) journal c before waits r)
  reopened more _ _ now waits_now (forgets {journal} {c} {own} {before} {waits = waits} r x) = forgets {now = more ++ now} (reopened more journal c before waits r) (record {
    gone = x.gone;
    closes = λ place h. elim (one_of_either place more before h) [
      | inl j ↦ inr (one_of_left place more now j)
      | inr j ↦ elim (x.closes place j) [ inl e ↦ inl e | inr k ↦ inr (one_of_right place more now k) ]
    ];
    keeps = λ place v y.
        let z : IsKept waits place v × (IsOneOf place more → ⊥) = beside_of place v more waits y.kept in
        beside_in place v more waits_now z.1 (x.keeps place v (record { kept = z.0; another = y.another }));
  })
