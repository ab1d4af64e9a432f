-- Which places a call at once opens, and which waits stay kept: for heads and comparisons alone, what the single labels leave open of the places that are still there is what the net change opens.
use Rattle.std.specs.Prelude.{◌≡◌, ℕ, ◌+◌, List, [], ◌∷◌, ◌++◌, Some, None, slice_index, ◌⊎◌}
use Rattle.akl_terms.specs.declared.name.Name.{Name}
use Rattle.akl_terms.specs.declared.name.Var.{Var}
use Rattle.akl_terms.specs.declared.name.Place.{Place}
use Rattle.akl_terms.specs.declared.program.Program.{Program}
use Rattle.akl_terms.specs.declared.program.Query.{Query}
use Rattle.akl_model.specs.declared.label.Rule.{Rule}
use Rattle.akl_model.specs.declared.label.Label.{Label}
use Rattle.akl_model.specs.Config.{Config, Found, home_of}
use Rattle.akl_model.specs.Instances.{instances, drawn_by}
use Rattle.akl_model.specs.Derivations.{Derives, Replays}
use Rattle.akl_model.specs.Wakes.{IsOneOf, IsThere, Wait, IsKept, Opens, IsOpenAfterCommit, IsKeptAfterCommit}
use Rattle.plan_laws.specs.Runs.{Runs}
use Rattle.plan_laws.specs.Waits.{AreWaits}
use Rattle.plan_laws.specs.Kept.{AreLeftByCommit}
use Rattle.plan_laws.specs.AtOnce.{by, IsAtOnce, labels_at_once, at_once, AreInForce}
use Rattle.plan_laws.specs.Untold.{KeepEquations}

-- the guards tell no equations
abbrev pub TellsNothing : {p : Program} {c : Config} {w : ℕ} {g : Name} {f : Found} → IsAtOnce p c w g f → Type 0
TellsNothing {p} {c} {w} {g} {f} x =
    KeepEquations p w (slice_index c.next w + drawn_by x.called.clauses) f (instances p.templates.nodes w (slice_index c.next w) x.arguments x.called.clauses) x.sift_labels x.left x.sifts

-- a list has exactly the places that a commit leaves open
pub record AreOpenAfter (before : List Place) (waits : List Wait) (l : Label) (c d : Config) (now : List Place) : Type 0 where
  pub each : (place : Place) → IsOneOf place now → IsOpenAfterCommit before waits l c d place
  pub all : (place : Place) → IsOpenAfterCommit before waits l c d place → IsOneOf place now

-- open places and kept waits, after each label of a list as its commit leaves them
abbrev pub AreOpenAlong : (rules : List Rule) (p : Program) (c : Config) (ls : List Label) (d : Config) → Derives rules p c ls d → List Place → List Wait → List Place → List Wait → Type 0
AreOpenAlong rules p c [] d w before waits now waits_now = (before ≡ now) × (waits ≡ waits_now)
AreOpenAlong rules p c (l ∷ ls) d w before waits now waits_now =
    (middle : List Place) × (kept : List Wait) × AreOpenAfter before waits l c w.0 middle × AreLeftByCommit waits c w.0 kept × AreOpenAlong rules p w.0 ls d w.2 middle kept now waits_now

-- of the places that are still there the labels leave open those that the net change leaves open, as one commit
abbrev pub NetOpensLaw : Type 0
NetOpensLaw = (rules : List Rule) → AreInForce rules → (p : Program) (q : Query) (journal : List Label) (c : Config) → Replays rules p q journal c → (w : ℕ) (g : Name) (f : Found) → home_of g c.roots ≡ Some f
    → (x : IsAtOnce p c w g f) → TellsNothing x → (d : Derives rules p c (labels_at_once x) (at_once x)) → (before : List Place) (waits : List Wait) → AreWaits c before waits
    → (now : List Place) (waits_now : List Wait) → AreOpenAlong rules p c (labels_at_once x) (at_once x) d before waits now waits_now
    → (place : Place) → IsThere place (at_once x).roots
    → (IsOneOf place now → IsOpenAfterCommit before waits (by w Rule.Fork (Place.Goal g) None) c (at_once x) place) × (IsOpenAfterCommit before waits (by w Rule.Fork (Place.Goal g) None) c (at_once x) place → IsOneOf place now)

-- at least the places that the net change leaves open are open, and at least the waits that it leaves are kept
pub record CommitsNet (c : Config) (l : Label) (d : Config) (before : List Place) (waits : List Wait) (now : List Place) (waits_now : List Wait) : Type 0 where
  pub opens : (place : Place) → IsOpenAfterCommit before waits l c d place → IsOneOf place now
  pub keeps : (place : Place) (x : Var) → IsKeptAfterCommit waits c d place x → IsKept waits_now place x

-- so a run goes on by all labels of a call at once, with what its net change opens
abbrev pub NetRunsLaw : Type 0
NetRunsLaw = (rules : List Rule) → AreInForce rules → (p : Program) (q : Query) (journal : List Label) (c : Config) (before : List Place) (waits : List Wait) → Runs rules p q journal c before waits
    → (w : ℕ) (g : Name) (f : Found) → home_of g c.roots ≡ Some f → (x : IsAtOnce p c w g f) → TellsNothing x
    → (now : List Place) (waits_now : List Wait) → CommitsNet c (by w Rule.Fork (Place.Goal g) None) (at_once x) before waits now waits_now
    → Runs rules p q (journal ++ labels_at_once x) (at_once x) now waits_now

-- and kept waits stay so, where they are those that the net change leaves
abbrev pub NetKeptLaw : Type 0
NetKeptLaw = (rules : List Rule) → AreInForce rules → (p : Program) (q : Query) (journal : List Label) (c : Config) → Replays rules p q journal c → (w : ℕ) (g : Name) (f : Found) → home_of g c.roots ≡ Some f
    → (x : IsAtOnce p c w g f) → TellsNothing x → (before : List Place) (waits : List Wait) (now : List Place) (waits_now : List Wait) → AreWaits c before waits
    → ((place : Place) → IsOneOf place now → IsOneOf place before ⊎ Opens waits c (at_once x) place) → AreLeftByCommit waits c (at_once x) waits_now → AreWaits (at_once x) now waits_now

-- places that have gone may be dropped from what runs, with their waits, and places and waits may be added
abbrev pub DropsGoneLaw : Type 0
DropsGoneLaw = (rules : List Rule) (p : Program) (q : Query) (journal : List Label) (c : Config) (before : List Place) (waits : List Wait) → Runs rules p q journal c before waits
    → (now : List Place) (waits_now : List Wait) → ((place : Place) → IsThere place c.roots → IsOneOf place before → IsOneOf place now)
    → ((place : Place) (x : Var) → IsThere place c.roots → IsKept waits place x → IsKept waits_now place x) → Runs rules p q journal c now waits_now
