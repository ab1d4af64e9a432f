-- What was last changed, as stores count with each equation, is seen where bindings are told apart.
use Rattle.std.proofs.Common.{◌≡◌, ℕ, ◌≤◌, List, [], Option, Some, None, true, false, Bool, refl, sym, ◌∙◌, ap, subst, ◌⊎◌, inl, inr, arith}
use Rattle.std.specs.Prelude.{option_map, nat_lt}
use Rattle.std.proofs.lemmas.Bool.Decides.{nat_tests}
use Rattle.akl_terms.specs.declared.name.Name.{Name}
use Rattle.akl_terms.specs.declared.program.Program.{Program}
use Rattle.akl_terms.specs.declared.program.Query.{Query}
use Rattle.akl_terms.specs.Decided.{Contradicts}
use Rattle.akl_terms.specs.Equal.{Equations, IsConsistent}
use Rattle.constraint_laws.proofs.Decided.{consistent_or}
use Rattle.constraint_laws.proofs.SameTerms.{Either}
use Rattle.akl_model.specs.declared.item.Item.{Item}
use Rattle.akl_model.specs.declared.label.Rule.{Rule}
use Rattle.akl_model.specs.declared.label.Label.{Label}
use Rattle.akl_model.specs.Config.{Config, Found, Port, whole, box_at}
use Rattle.akl_model.specs.Changes.{Constraint, constraint_of, ports_at, by_store, by_binding, Clashes, Changes, ChangedAt, IsLastChange}
use Rattle.akl_model.specs.Derivations.{Replays}
use Rattle.akl_model.proofs.Options.{some_value}
use Rattle.step_laws.proofs.Decide.{option_or, constraint_or}
use Rattle.reading_laws.specs.Seen.{IsSeen}
use Rattle.table_laws.proofs.LastChanges.{IsPart, last_change, changed_alike, last_alike}

-- a box's constraint of these parts alone
abbrev ports_alone : List Port → Constraint
ports_alone ps = record { frames = []; equations = []; ports = ps }

abbrev equations_alone : Equations → Constraint
equations_alone E = record { frames = []; equations = E; ports = [] }

ports_or : (xs ys : List Port) → Either (xs ≡ ys)
ports_or xs ys = elim (constraint_or (ports_alone xs) (ports_alone ys)) [ inl e ↦ inl (ap (λ (k : Constraint). k.ports) e) | inr n ↦ inr (λ e. n (ap ports_alone e)) ]

equations_or : (E F : Equations) → Either (E ≡ F)
equations_or E F = elim (constraint_or (equations_alone E) (equations_alone F)) [ inl e ↦ inl (ap (λ (k : Constraint). k.equations) e) | inr n ↦ inr (λ e. n (ap equations_alone e)) ]

-- whether a box clashes by a label
clashes_or : (c d : Config) (n : Name) → Either (Clashes c d n)
clashes_or c d n = on (box_at n c.roots) refl (box_at n d.roots) refl
  where
    both : (f g : Found) → box_at n c.roots ≡ Some f → box_at n d.roots ≡ Some g → Either (g.content.equations ≡ f.content.equations) → IsConsistent (whole g) ⊎ Contradicts (whole g) → Either (Clashes c d n)
    both f g i j (inl e) k = inr (λ z. z.adds.more (ap (λ (x : Found). x.content.equations) (some_value (sym z.adds.is ∙ j)) ∙ e ∙ ap (λ (x : Found). x.content.equations) (some_value (sym i ∙ z.adds.was))))
    both f g i j (inr e) (inl h) = inr (λ z. z.inconsistent (subst (λ (x : Found). IsConsistent (whole x)) (some_value (sym j ∙ z.adds.is)) h))
    both f g i j (inr e) (inr h) = inl (record { adds = record { before = f; afterwards = g; was = i; is = j; more = e }; inconsistent = λ y. h.differ.differ (y.heads h.equal h.differ.is_left h.differ.is_right) })

    on : (x : Option Found) → box_at n c.roots ≡ x → (y : Option Found) → box_at n d.roots ≡ y → Either (Clashes c d n)
    on None i y j = inr (λ z. let e : None ≡ Some z.adds.before = sym i ∙ z.adds.was in cc)
    on (Some f) i None j = inr (λ z. let e : None ≡ Some z.adds.afterwards = sym j ∙ z.adds.is in cc)
    on (Some f) i (Some g) j = both f g i j (equations_or g.content.equations f.content.equations) (consistent_or (whole g))

store_or : (c d : Config) (n : Name) → Either (Changes by_binding c d (Item.Store n))
store_or c d n = on (option_or (List Port) ports_or (ports_at n c.roots) (ports_at n d.roots)) (clashes_or c d n)
  where
    on : Either (ports_at n c.roots ≡ ports_at n d.roots) → Either (Clashes c d n) → Either (Changes by_binding c d (Item.Store n))
    on (inr p) k = inl (inl p)
    on (inl p) (inl k) = inl (inr k)
    on (inl p) (inr k) = inr (λ z. elim z [ inl x ↦ x p | inr x ↦ k x ])

-- a change where bindings are told apart is one where they aren't
pub store_coarse : (c d : Config) (n : Name) → Changes by_binding c d (Item.Store n) → Changes by_store c d (Item.Store n)
store_coarse c d n (inl p) e = p (ports_of (box_at n c.roots) ∙ ap (option_map (λ (k : Constraint). k.ports)) e ∙ sym (ports_of (box_at n d.roots)))
  where
    ports_of : (o : Option Found) → option_map (λ (f : Found). f.content.ports) o ≡ option_map (λ (k : Constraint). k.ports) (option_map constraint_of o)
    ports_of None = refl
    ports_of (Some f) = refl
store_coarse c d n (inr z) e =
    let k : Some (constraint_of z.adds.before) ≡ Some (constraint_of z.adds.afterwards) = sym (ap (option_map constraint_of) z.adds.was) ∙ e ∙ ap (option_map constraint_of) z.adds.is in
    z.adds.more (ap (λ (k : Constraint). k.equations) (sym (some_value k)))

module _ (rules : List Rule) (p : Program) (q : Query) (n : Name) where
  -- a box's store has a last change
  pub last_of_store : (journal : List Label) (c : Config) → Replays rules p q journal c → (m : ℕ) × IsLastChange by_binding rules p q journal (Item.Store n) m
  last_of_store = last_change by_binding rules p q (Item.Store n) (λ c d. store_or c d n)

  -- no later than the last by which anything was added to it
  pub no_later : (journal : List Label) (seen k m : ℕ) → IsLastChange by_store rules p q journal (Item.Store n) k → k ≤ seen → IsLastChange by_binding rules p q journal (Item.Store n) m → m ≤ seen
  no_later journal seen k m x early y = elim y.changed [
    | inl e ↦ omega (arith, e)
    | inr w ↦ on (nat_lt k m) refl w
  ]
    where
      on : (b : Bool) → nat_lt k m ≡ b → ChangedAt by_binding rules p q journal (Item.Store n) m → m ≤ seen
      on true h w = absurd (x.none_later m (grind (arith, nat_tests, h)) (changed_alike by_binding by_store rules p q journal (Item.Store n) (λ c d. store_coarse c d n) m w))
      on false h w = let i : m ≤ k = grind (arith, nat_tests, h) in omega (arith, i, early)

  pub seen_store : (journal : List Label) (c : Config) → Replays rules p q journal c → (seen k : ℕ) → IsLastChange by_store rules p q journal (Item.Store n) k → k ≤ seen → IsSeen rules p q journal seen (Item.Store n)
  seen_store journal c r seen k x early =
      let z : (m : ℕ) × IsLastChange by_binding rules p q journal (Item.Store n) m = last_of_store journal c r in
      record { number = z.0; last = z.1; early = no_later journal seen k z.0 x early z.1 }

-- items other than stores and bindings change alike in both details, so each item but bindings that was last changed early enough is seen
pub seen_item : (rules : List Rule) (p : Program) (q : Query) (journal : List Label) (c : Config) → Replays rules p q journal c → (seen k : ℕ) (item : Item) → IsPart item → IsLastChange by_store rules p q journal item k → k ≤ seen
    → IsSeen rules p q journal seen item
seen_item rules p q journal c r seen k (Item.Store n) i x early = seen_store rules p q n journal c r seen k x early
seen_item rules p q journal c r seen k Item.Roots i x early = record { number = k; last = last_alike by_store by_binding rules p q journal Item.Roots (λ c d z. z) (λ c d z. z) k x; early = early }
seen_item rules p q journal c r seen k (Item.Goals n) i x early = record { number = k; last = last_alike by_store by_binding rules p q journal (Item.Goals n) (λ c d z. z) (λ c d z. z) k x; early = early }
seen_item rules p q journal c r seen k (Item.Goal g) i x early = record { number = k; last = last_alike by_store by_binding rules p q journal (Item.Goal g) (λ c d z. z) (λ c d z. z) k x; early = early }
seen_item rules p q journal c r seen k (Item.Binding x) i y early = absurd i
