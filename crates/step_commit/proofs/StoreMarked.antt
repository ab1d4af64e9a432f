-- Marks of stores stay right where a step is made of a core's table.
use Rattle.std.proofs.Common.{◌≡◌, ℕ, ◌+◌, ◌<◌, ◌≤◌, Bool, true, false, List, ◌++◌, Option, None, Some, refl, sym, ap, subst, ◌∙◌, ◌⊎◌, inl, inr, arith}
use Rattle.std.specs.Prelude.{◌==◌, if◌then◌else◌}
use Rattle.std.specs.Map.{lookup}
use Rattle.std.proofs.lemmas.Bool.Decides.{nat_tests}
use Rattle.akl_terms.specs.declared.name.Name.{Name}
use Rattle.akl_terms.specs.declared.program.Program.{Program}
use Rattle.akl_terms.specs.declared.program.Query.{Query}
use Rattle.akl_terms.specs.Names.{same_name}
use Rattle.akl_model.specs.declared.item.Item.{Item}
use Rattle.akl_model.specs.declared.label.Label.{Label}
use Rattle.akl_model.specs.Derivations.{Derives}
use Rattle.akl_model.proofs.Options.{some_value}
use Rattle.reading_laws.specs.Seen.{IsSeen}
use Rattle.reading_laws.specs.Unchanged.{Unchanged}
use Rattle.table_laws.specs.Kept.{KeepsStores, HadStore}
use Rattle.table_laws.specs.Rows.{BoxRow}
use Rattle.table_laws.specs.Stamped.{IsTableOf}
use Rattle.table_laws.specs.StoreMarks.{AreStoresMarked, MarksStores}
use Rattle.table_laws.proofs.SeenStamps.{seen_store}
use Rattle.table_laws.proofs.StoreMarks.{store_marks}
use Rattle.box_tree.specs.declared.step.Step.{Step}
use Rattle.box_tree.specs.declared.store_marks.StoreMark.{StoreMark}
use Rattle.box_tree.specs.Applied.{KeepsMark}
use Rattle.box_tree.specs.Lefts.{told_in}
use Rattle.box_tree.specs.StoreMarks.{stores_of, mark_found}
use Rattle.box_tree.specs.Tables.{all_rules, TableValue, table_of}
use Rattle.step_commit.specs.Cores.{mark_of_store, AreEarly}

-- a mark that still holds, or the number of all labels
abbrev number_or : ℕ → ℕ → Option StoreMark → ℕ
number_or told steps None = steps
number_or told steps (Some m) = if m.told == told then m.number else steps

same_number : (a b : ℕ) → (a == b) ≡ true → a ≡ b
same_number a b e = grind (arith, nat_tests)

equal_number : (a b : ℕ) → a ≡ b → (a == b) ≡ true
equal_number a b e = grind (arith, nat_tests)

abbrev pub mark_at : TableValue → Name → Option StoreMark
mark_at t n = lookup (same_name n) (stores_of t.marks)

module _ (p : Program) (q : Query) (journal ls : List Label) (t u : TableValue) (T : IsTableOf all_rules (record { program = p; query = q; journal = journal }) (table_of t))
    (U : IsTableOf all_rules (record { program = p; query = q; journal = journal ++ ls }) (table_of u)) (w : Derives all_rules p T.config ls U.config)
    (keeps : (number : ℕ) × (t.steps < number) × KeepsStores number (table_of t) (table_of u)) (grows : t.steps ≤ u.steps) (l : Label) (step : Step)
    (stores : (n : Name) → (mark_at u n ≡ mark_at t n) ⊎ ((mark_at u n ≡ None) ⊎ KeepsMark t l step u n)) (early : AreEarly t) where
  abbrev told : Name → ℕ
  told n = told_in ((table_of u).box_of n)

  abbrev new : Name → ℕ
  new n = number_or (told n) u.steps (mark_at u n)

  abbrev IsKept : Name → BoxRow → Type 0
  IsKept n row = (new n ≡ u.steps) ⊎ ((new n ≡ mark_of_store t n) × ((old : BoxRow) × ((table_of t).box_of n ≡ Some old))
      × ((row.changed ≤ t.steps) ⊎ Unchanged all_rules p T.config ls U.config w (Item.Store n)))

  -- a store that the step told nothing has what it had
  as_it_was : (n : Name) (row : BoxRow) (m : StoreMark) → (table_of u).box_of n ≡ Some row → mark_at t n ≡ Some m → m.told ≡ row.changed → new n ≡ m.number → IsKept n row
  as_it_was n row m there i e is = on (keeps.2 n row there)
    where
      before : m.told ≤ t.steps
      before = (early n m i).0

      on : (row.changed ≡ keeps.0) ⊎ HadStore ((table_of t).box_of n) row → IsKept n row
      on (inl c) = absurd (let after : t.steps < keeps.0 = keeps.1 in omega (arith, before, e, c, after))
      on (inr had) =
          let same : m.told ≡ had.0.changed = e ∙ sym had.3 in
          let mark : mark_of_store t n ≡ m.number =
          ap (λ (o : Option BoxRow). mark_found (told_in o) (mark_at t n)) had.1 ∙ ap (mark_found had.0.changed) i ∙ ap (λ (b : Bool). if b then m.number else had.0.changed) (equal_number m.told had.0.changed same) in
          inr (is ∙ sym mark, (had.0, had.1), inl (omega (arith, before, e)))

  module _ (unchanged : (n : Name) → KeepsMark t l step u n → Unchanged all_rules p T.config ls U.config w (Item.Store n)) where
    left : (n : Name) (row : BoxRow) (m : StoreMark) → KeepsMark t l step u n → mark_at u n ≡ Some m → new n ≡ m.number → IsKept n row
    left n row m k i is =
        let same : m ≡ record { told = k.told; number = k.number } = some_value (sym i ∙ k.kept) in
        let mark : mark_of_store t n ≡ k.number = ap (λ (o : Option BoxRow). mark_found (told_in o) (mark_at t n)) k.home.there ∙ sym k.home.number_is in
        inr (is ∙ ap (λ (x : StoreMark). x.number) same ∙ sym mark, (k.home.row, k.home.there), inr (unchanged n k))

    kept : MarksStores all_rules p T.config ls U.config w (table_of t) (table_of u) (mark_of_store t) new
    kept = record { each = λ n row there. on n row there (mark_at u n) refl (stores n) }
      where
        on : (n : Name) (row : BoxRow) → (table_of u).box_of n ≡ Some row → (o : Option StoreMark) → mark_at u n ≡ o → (mark_at u n ≡ mark_at t n) ⊎ ((mark_at u n ≡ None) ⊎ KeepsMark t l step u n) → IsKept n row
        on n row there None i s = inl (ap (number_or (told n) u.steps) i)
        on n row there (Some m) i s = by (m.told == told n) refl
          where
            held : (m.told == told n) ≡ true → new n ≡ m.number
            held h = ap (number_or (told n) u.steps) i ∙ ap (λ (b : Bool). if b then m.number else u.steps) h

            is_told : (m.told == told n) ≡ true → m.told ≡ row.changed
            is_told h = same_number m.told (told n) h ∙ ap told_in there

            by : (b : Bool) → (m.told == told n) ≡ b → IsKept n row
            by false h = inl (ap (number_or (told n) u.steps) i ∙ ap (λ (b : Bool). if b then m.number else u.steps) h)
            by true h = elim s [
              | inl e ↦ as_it_was n row m there (sym e ∙ i) (is_told h) (held h)
              | inr z ↦ elim z [ inl e ↦ absurd (let g : None ≡ Some m = sym e ∙ i in cc) | inr k ↦ left n row m k i (held h) ]
            ]

    abbrev SeenBy : ℕ → Name → Type 0
    SeenBy k n = IsSeen all_rules p q (journal ++ ls) k (Item.Store n)

    pub stores_after : AreStoresMarked all_rules (record { program = p; query = q; journal = journal }) (table_of t) (mark_of_store t)
        → AreStoresMarked all_rules (record { program = p; query = q; journal = journal ++ ls }) (table_of u) (mark_of_store u)
    stores_after old = record { each = λ n row there. on n row there (mark_at u n) refl }
      where
        seen : AreStoresMarked all_rules (record { program = p; query = q; journal = journal ++ ls }) (table_of u) new
        seen = store_marks all_rules (record { program = p; query = q; journal = journal }) ls (table_of t) (table_of u) T U w (mark_of_store t) new kept old

        by_row : (n : Name) (row : BoxRow) → (table_of u).box_of n ≡ Some row → mark_of_store u n ≡ told n → SeenBy (mark_of_store u n) n
        by_row n row there e = subst (λ (k : ℕ). SeenBy k n) (sym (e ∙ ap told_in there))
            (seen_store all_rules p q n (journal ++ ls) U.config U.replays row.changed row.changed (U.stamped.store n row there) (omega arith))

        on : (n : Name) (row : BoxRow) → (table_of u).box_of n ≡ Some row → (o : Option StoreMark) → mark_at u n ≡ o → SeenBy (mark_of_store u n) n
        on n row there None i = by_row n row there (ap (mark_found (told n)) i)
        on n row there (Some m) i = by (m.told == told n) refl
          where
            by : (b : Bool) → (m.told == told n) ≡ b → SeenBy (mark_of_store u n) n
            by false h = by_row n row there (ap (mark_found (told n)) i ∙ ap (λ (b : Bool). if b then m.number else told n) h)
            by true h =
                let a : mark_of_store u n ≡ m.number = ap (mark_found (told n)) i ∙ ap (λ (b : Bool). if b then m.number else told n) h in
                let b : new n ≡ m.number = ap (number_or (told n) u.steps) i ∙ ap (λ (b : Bool). if b then m.number else u.steps) h in
                subst (λ (k : ℕ). SeenBy k n) (b ∙ sym a) (seen.each n row there)

-- none is later than all labels
module _ (t u : TableValue) (l : Label) (step : Step) (stores : (n : Name) → (mark_at u n ≡ mark_at t n) ⊎ ((mark_at u n ≡ None) ⊎ KeepsMark t l step u n)) (early : AreEarly t) (grows : t.steps ≤ u.steps) where
  pub early_after : ((n : Name) (row : BoxRow) → (table_of u).box_of n ≡ Some row → row.changed ≤ u.steps) → ((n : Name) (row : BoxRow) → (table_of t).box_of n ≡ Some row → row.changed ≤ t.steps) → AreEarly u
  early_after within were n m i = on (stores n)
    where
      found_within : (changed : ℕ) → changed ≤ t.steps → (o : Option StoreMark) → mark_at t n ≡ o → mark_found changed o ≤ t.steps
      found_within changed h None e = h
      found_within changed h (Some k) e = by (k.told == changed)
        where
          by : (b : Bool) → (if b then k.number else changed) ≤ t.steps
          by true = (early n k e).1
          by false = h

      on : (mark_at u n ≡ mark_at t n) ⊎ ((mark_at u n ≡ None) ⊎ KeepsMark t l step u n) → (m.told ≤ u.steps) × (m.number ≤ u.steps)
      on (inl e) = let was : (m.told ≤ t.steps) × (m.number ≤ t.steps) = early n m (sym e ∙ i) in let a : m.told ≤ t.steps = was.0 in let b : m.number ≤ t.steps = was.1 in (omega (arith, a, grows), omega (arith, b, grows))
      on (inr (inl e)) = absurd (let g : None ≡ Some m = sym e ∙ i in cc)
      on (inr (inr k)) =
          let same : m ≡ record { told = k.told; number = k.number } = some_value (sym i ∙ k.kept) in
          let e : k.told ≡ k.solved.row.changed = k.solved.told_is in
          let h : k.solved.row.changed ≤ u.steps = within n k.solved.row k.solved.there in
          let a : m.told ≤ u.steps = let d : m.told ≡ k.told = ap (λ (x : StoreMark). x.told) same in omega (arith, d, e, h) in
          let c : k.number ≤ t.steps = subst (λ (x : ℕ). x ≤ t.steps) (sym k.home.number_is) (found_within k.home.row.changed (were n k.home.row k.home.there) (mark_at t n) refl) in
          let b : m.number ≤ u.steps = let d : m.number ≡ k.number = ap (λ (x : StoreMark). x.number) same in omega (arith, c, d, grows) in
          (a, b)
