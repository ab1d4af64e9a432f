-- Numbers of stores stay right behind labels.
use Rattle.std.proofs.Common.{◌≡◌, ℕ, ◌+◌, ◌≤◌, List, [], ◌∷◌, ◌++◌, length, Some, sym, subst, ◌⊎◌, inl, inr, append_assoc, append-nil, arith}
use Rattle.akl_terms.specs.declared.name.Name.{Name}
use Rattle.akl_terms.specs.declared.program.Program.{Program}
use Rattle.akl_terms.specs.declared.program.Query.{Query}
use Rattle.akl_model.specs.declared.item.Item.{Item}
use Rattle.akl_model.specs.declared.label.Rule.{Rule}
use Rattle.akl_model.specs.declared.label.Label.{Label}
use Rattle.akl_model.specs.Config.{Config}
use Rattle.akl_model.specs.Changes.{by_store, by_binding, IsLastChange}
use Rattle.akl_model.specs.Derivations.{Derives, Replays}
use Rattle.plan_laws.proofs.StampLaws.{first_stamp, old_stamp}
use Rattle.plan_laws.proofs.Replayed.{replay_further}
use Rattle.reading_laws.specs.Seen.{IsSeen}
use Rattle.reading_laws.specs.Unchanged.{Unchanged}
use Rattle.reading_laws.proofs.SeenItems.{seen_unchanged}
use Rattle.table_laws.specs.Rows.{BoxRow, Table}
use Rattle.table_laws.specs.Stamped.{Run, IsTableOf}
use Rattle.table_laws.specs.StoreMarks.{AreStoresMarked, MarksStores}
use Rattle.table_laws.proofs.SeenStamps.{last_of_store, no_later}
use Rattle.table_laws.proofs.LastChanges.{last_within}

pub store_marks_start : (rules : List Rule) (p : Program) (q : Query) (T : Table) (mark : Name → ℕ) → AreStoresMarked rules (record { program = p; query = q; journal = [] }) T mark
store_marks_start rules p q T mark = record { each = λ n row e. record { number = 0; last = first_stamp by_binding rules p q (Item.Store n); early = omega arith } }

module _ (rules : List Rule) (p : Program) (q : Query) (n : Name) where
  -- labels that don't change it leave it its last change
  kept_along : (journal : List Label) (c : Config) (ls : List Label) (d : Config) → Replays rules p q journal c → (w : Derives rules p c ls d) → Unchanged rules p c ls d w (Item.Store n) → (m : ℕ) → IsLastChange by_binding rules p q journal (Item.Store n) m
      → IsLastChange by_binding rules p q (journal ++ ls) (Item.Store n) m
  kept_along journal c [] d r w u m x = subst (λ (js : List Label). IsLastChange by_binding rules p q js (Item.Store n) m) (sym (append-nil journal)) x
  kept_along journal c (l ∷ ls) d r w u m x = subst (λ (js : List Label). IsLastChange by_binding rules p q js (Item.Store n) m) (append_assoc journal (l ∷ []) ls)
      (kept_along (journal ++ l ∷ []) w.0 ls d (replay_further rules p q journal c l w.0 r w.1) w.2 u.1 m (old_stamp by_binding rules p q journal c l w.0 (Item.Store n) m r w.1 u.0 x))

  pub seen_last : (journal : List Label) (c : Config) → Replays rules p q journal c → IsSeen rules p q journal (length journal) (Item.Store n)
  seen_last journal c r =
      let z : (m : ℕ) × IsLastChange by_binding rules p q journal (Item.Store n) m = last_of_store rules p q n journal c r in
      record { number = z.0; last = z.1; early = last_within by_binding rules p q journal (Item.Store n) z.0 z.1 }

  -- nor do those behind which its row says that nothing was added
  pub seen_by_row : (journal : List Label) (c : Config) (ls : List Label) (d : Config) → Replays rules p q journal c → Derives rules p c ls d → Replays rules p q (journal ++ ls) d → (k : ℕ) → IsLastChange by_store rules p q (journal ++ ls) (Item.Store n) k
      → k ≤ length journal → (mark : ℕ) → IsSeen rules p q journal mark (Item.Store n) → IsSeen rules p q (journal ++ ls) mark (Item.Store n)
  seen_by_row journal c ls d r w all k x early mark s = record { number = s.number; last = kept_along journal c ls d r w unchanged s.number s.last; early = s.early }
    where
      last : (m : ℕ) × IsLastChange by_binding rules p q (journal ++ ls) (Item.Store n) m
      last = last_of_store rules p q n (journal ++ ls) d all

      unchanged : Unchanged rules p c ls d w (Item.Store n)
      unchanged = seen_unchanged rules p q journal ls c d (Item.Store n) last.0 r w last.1 (no_later rules p q n (journal ++ ls) (length journal) k last.0 x early last.1)

module _ (rules : List Rule) (r : Run) (ls : List Label) (T U : Table) (t : IsTableOf rules r T) (u : IsTableOf rules (record r { journal = r.journal ++ ls }) U) (w : Derives rules r.program t.config ls u.config) where
  all_labels : (n : Name) → IsSeen rules r.program r.query (r.journal ++ ls) U.steps (Item.Store n)
  all_labels n = subst (λ (k : ℕ). IsSeen rules r.program r.query (r.journal ++ ls) k (Item.Store n)) (sym u.stamped.steps) (seen_last rules r.program r.query n (r.journal ++ ls) u.config u.replays)

  by_row : (n : Name) (row : BoxRow) → U.box_of n ≡ Some row → row.changed ≤ T.steps → (mark : ℕ) → IsSeen rules r.program r.query r.journal mark (Item.Store n) → IsSeen rules r.program r.query (r.journal ++ ls) mark (Item.Store n)
  by_row n row e h mark s = seen_by_row rules r.program r.query n r.journal t.config ls u.config t.replays w u.replays row.changed (u.stamped.store n row e) (subst (λ (k : ℕ). row.changed ≤ k) t.stamped.steps h) mark s

  pub store_marks : (mark new : Name → ℕ) → MarksStores rules r.program t.config ls u.config w T U mark new → AreStoresMarked rules r T mark → AreStoresMarked rules (record r { journal = r.journal ++ ls }) U new
  store_marks mark new kept old = record { each = λ n row e. on n row e (kept.each n row e) }
    where
      on : (n : Name) (row : BoxRow) → U.box_of n ≡ Some row → (new n ≡ U.steps) ⊎ ((new n ≡ mark n) × ((old : BoxRow) × (T.box_of n ≡ Some old)) × ((row.changed ≤ T.steps) ⊎ Unchanged rules r.program t.config ls u.config w (Item.Store n)))
          → IsSeen rules r.program r.query (r.journal ++ ls) (new n) (Item.Store n)
      on n row e (inl i) = subst (λ (k : ℕ). IsSeen rules r.program r.query (r.journal ++ ls) k (Item.Store n)) (sym i) (all_labels n)
      on n row e (inr (i, was, inl h)) = subst (λ (k : ℕ). IsSeen rules r.program r.query (r.journal ++ ls) k (Item.Store n)) (sym i) (by_row n row e h (mark n) (old.each n was.0 was.1))
      on n row e (inr (i, was, inr h)) =
          let s : IsSeen rules r.program r.query r.journal (mark n) (Item.Store n) = old.each n was.0 was.1 in
          subst (λ (k : ℕ). IsSeen rules r.program r.query (r.journal ++ ls) k (Item.Store n)) (sym i)
          (record { number = s.number; last = kept_along rules r.program r.query n r.journal t.config ls u.config t.replays w h s.number s.last; early = s.early })
