-- Each item whose changes are decided was last changed by some label, or by none.
use Rattle.std.proofs.Common.{◌≡◌, ℕ, ◌+◌, ◌≤◌, List, [], ◌∷◌, ◌++◌, length, refl, sym, ◌∙◌, ap, subst, ◌⊎◌, inl, inr, append-nil, append_assoc, arith}
use Rattle.std.specs.Prelude.{⊤}
use Rattle.std.proofs.lemmas.List.{length-append}
use Rattle.akl_terms.specs.declared.name.Name.{Name}
use Rattle.akl_terms.specs.declared.program.Program.{Program}
use Rattle.akl_terms.specs.declared.program.Query.{Query}
use Rattle.constraint_laws.proofs.SameTerms.{Either}
use Rattle.akl_model.specs.declared.item.Item.{Item}
use Rattle.akl_model.specs.declared.label.Rule.{Rule}
use Rattle.akl_model.specs.declared.label.Label.{Label}
use Rattle.akl_model.specs.Config.{Config}
use Rattle.akl_model.specs.Changes.{Detail, by_store, box_names, goals_at, constraint_at, Constraint, Shape, shape_at, Changes, ChangedAt, IsLastChange}
use Rattle.akl_model.specs.Derivations.{Derives, Replays}
use Rattle.akl_model.specs.Instances.{start}
use Rattle.step_laws.proofs.Decide.{names_or, option_or, constraint_or, shape_or}
use Rattle.plan_laws.proofs.StampLaws.{first_stamp, new_stamp, old_stamp}
use Rattle.plan_laws.proofs.Replayed.{replay_further}

-- what isn't a binding
abbrev pub IsPart : Item → Type 0
IsPart (Item.Binding x) = ⊥
IsPart i = ⊤

pub differ_or : {A : Type 0} → Either A → Either (A → ⊥)
differ_or (inl e) = inr (λ h. h e)
differ_or (inr n) = inl n

pub changes_or : (c d : Config) (i : Item) → IsPart i → Either (Changes by_store c d i)
changes_or c d Item.Roots h = differ_or (names_or (box_names c.roots) (box_names d.roots))
changes_or c d (Item.Store n) h = differ_or (option_or Constraint constraint_or (constraint_at n c.roots) (constraint_at n d.roots))
changes_or c d (Item.Goals n) h = differ_or (option_or (List Name) names_or (goals_at n c.roots) (goals_at n d.roots))
changes_or c d (Item.Goal g) h = differ_or (option_or Shape shape_or (shape_at g c.roots) (shape_at g d.roots))
changes_or c d (Item.Binding x) h = absurd h

module _ (detail : Detail) (rules : List Rule) (p : Program) (q : Query) (item : Item) (change_or : (c d : Config) → Either (Changes detail c d item)) where
  last_along : (journal : List Label) (c : Config) (ls : List Label) (d : Config) → Replays rules p q journal c → Derives rules p c ls d → (m : ℕ) → IsLastChange detail rules p q journal item m
      → (m : ℕ) × IsLastChange detail rules p q (journal ++ ls) item m
  last_along journal c [] d r w m x = (m, subst (λ (js : List Label). IsLastChange detail rules p q js item m) (sym (append-nil journal)) x)
  last_along journal c (l ∷ ls) d r w m x = again (elim (change_or c w.0) [
    | inl h ↦ last_along (journal ++ l ∷ []) w.0 ls d (replay_further rules p q journal c l w.0 r w.1) w.2 (length journal + 1) (new_stamp detail rules p q journal c l w.0 item r w.1 h)
    | inr h ↦ last_along (journal ++ l ∷ []) w.0 ls d (replay_further rules p q journal c l w.0 r w.1) w.2 m (old_stamp detail rules p q journal c l w.0 item m r w.1 h x)
  ])
    where
      again : (m : ℕ) × IsLastChange detail rules p q ((journal ++ l ∷ []) ++ ls) item m → (m : ℕ) × IsLastChange detail rules p q (journal ++ l ∷ ls) item m
      again z = (z.0, subst (λ (js : List Label). IsLastChange detail rules p q js item z.0) (append_assoc journal (l ∷ []) ls) z.1)

  pub last_change : (journal : List Label) (c : Config) → Replays rules p q journal c → (m : ℕ) × IsLastChange detail rules p q journal item m
  last_change journal c r = last_along [] (start p q) journal c (record { derives = refl }) r.derives 0 (first_stamp detail rules p q item)

-- a last change is that of a label of the journal
pub last_within : (detail : Detail) (rules : List Rule) (p : Program) (q : Query) (journal : List Label) (i : Item) (k : ℕ) → IsLastChange detail rules p q journal i k → k ≤ length journal
last_within detail rules p q journal i k x = on x.changed
  where
    on : (k ≡ 0) ⊎ ChangedAt detail rules p q journal i k → k ≤ length journal
    on (inl z) = omega (arith, z)
    on (inr w) =
        let e : length journal ≡ length w.earlier + length (w.label ∷ w.later) = ap length w.is_journal ∙ length-append w.earlier (w.label ∷ w.later) in
        let n : k ≡ length w.earlier + 1 = w.is_number in
        omega (arith, e, n)

-- what changes alike in two details was last changed by the same label
pub changed_alike : (from to : Detail) (rules : List Rule) (p : Program) (q : Query) (journal : List Label) (i : Item) → ((c d : Config) → Changes from c d i → Changes to c d i)
    → (k : ℕ) → ChangedAt from rules p q journal i k → ChangedAt to rules p q journal i k
changed_alike from to rules p q journal i alike k z = record {
  earlier = z.earlier;
  label = z.label;
  later = z.later;
  is_journal = z.is_journal;
  is_number = z.is_number;
  before = z.before;
  afterwards = z.afterwards;
  derived = z.derived;
  applies = z.applies;
  changes = alike z.before z.afterwards z.changes;
}

pub last_alike : (from to : Detail) (rules : List Rule) (p : Program) (q : Query) (journal : List Label) (i : Item) → ((c d : Config) → Changes from c d i → Changes to c d i) → ((c d : Config) → Changes to c d i → Changes from c d i)
    → (k : ℕ) → IsLastChange from rules p q journal i k → IsLastChange to rules p q journal i k
last_alike from to rules p q journal i alike back k x = record {
  changed = elim x.changed [ inl e ↦ inl e | inr z ↦ inr (changed_alike from to rules p q journal i alike k z) ];
  none_later = λ m h z. x.none_later m h (changed_alike to from rules p q journal i back m z);
}
