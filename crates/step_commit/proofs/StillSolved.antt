-- What was solved over stores that no later label changed is solved still.
use Rattle.std.proofs.Common.{◌≡◌, ℕ, ◌≤◌, List, [], ◌∷◌, ◌++◌, Bool, true, false, Some, sym, ap, subst, ◌∙◌, inl, inr, refl}
use Rattle.akl_terms.specs.declared.name.Name.{Name}
use Rattle.akl_terms.specs.declared.term.Node.{Node}
use Rattle.akl_model.specs.Config.{IsIn, Config, Found, box_at}
use Rattle.akl_model.specs.Wakes.{names_around, names_down_to}
use Rattle.akl_model.proofs.Finds.{times}
use Rattle.akl_model.proofs.Scoped.{IsIn-left}
use Rattle.local_store.specs.Stored.{Stored}
use Rattle.local_store.specs.Chained.{IsSolvedChain}
use Rattle.table_laws.specs.Rows.{BoxRow, Table, store_in, stores_along}
use Rattle.table_laws.specs.Unfolds.{UnchangedSince, Unfolds}
use Rattle.table_laws.specs.Kept.{SharesStores}
use Rattle.table_laws.specs.Steps.{NewBox, IsSolvedIf, AreSolvedIf}
use Rattle.table_laws.proofs.Stores.{unchanged_at}
use Rattle.box_tree.proofs.Seen.{path_there}

-- a box is there, and none but the first labels, so many as are given, changed its store
abbrev pub IsOld : Table → ℕ → Name → Type 0
IsOld T k m = (row : BoxRow) × (T.box_of m ≡ Some row) × (row.changed ≤ k)

abbrev pub AreOld : Table → ℕ → List Name → Type 0
AreOld T k ms = (m : Name) → IsIn m ms → IsOld T k m

-- the later table T has the stores of the earlier one that were changed by none but the first labels
module _ (S T : Table) (k : ℕ) (nodes : S.nodes ≡ T.nodes) (shares : SharesStores S T k) where
  same_along : (ms : List Name) → AreOld T k ms → stores_along S ms ≡ stores_along T ms
  same_along [] h = refl
  same_along (m ∷ ms) h =
      let old : IsOld T k m = h m (inl refl) in
      ap (λ (s : Stored). s ∷ stores_along S ms) (shares m old.0 old.1 old.2 ∙ ap store_in (sym old.1)) ∙ ap (λ (ss : List Stored). store_in (T.box_of m) ∷ ss) (same_along ms (λ n i. h n (inr i)))

  pub still_solved : (before now : List Name) (more : List Stored) → before ≡ now → AreOld T k now → IsSolvedChain S.nodes (stores_along S before ++ more) → IsSolvedChain T.nodes (stores_along T now ++ more)
  still_solved before now more same old h =
      subst (λ (ns : List Node). IsSolvedChain ns (stores_along T now ++ more)) nodes
      (subst (λ (ss : List Stored). IsSolvedChain S.nodes (ss ++ more)) (ap (stores_along S) same ∙ same_along now old) h)

  pub solved_over : (b : Bool) (before now : List Name) (new : Stored) → before ≡ now → AreOld T k now → IsSolvedIf b S before new → IsSolvedIf b T now new
  solved_over false before now new same old h = tt
  solved_over true before now new same old h = still_solved before now (new ∷ []) same old h

  pub all_over : (news : List NewBox) (before now : List Name) → before ≡ now → AreOld T k now → AreSolvedIf S before news → AreSolvedIf T now news
  all_over [] before now same old h = tt
  all_over (n ∷ ns) before now same old h = (solved_over n.solved before now n.store same old h.0, all_over ns before now same old h.1)

-- boxes down to one that stands are there, so they are old where none of them was changed
module _ (T : Table) (c : Config) (u : Unfolds T c) (once : (m : Name) → times m c.roots ≤ 1) (k : ℕ) (f : Found) (is : box_at f.content.name c.roots ≡ Some f) where
  unchanged_old : (ms : List Name) → ((m : Name) → IsIn m ms → IsIn m (names_down_to f)) → UnchangedSince T k ms → AreOld T k ms
  unchanged_old ms down h m i =
      let row : (r : BoxRow) × (T.box_of m ≡ Some r) = path_there T c u once f.content.name f is m (down m i) in
      (row.0, row.1, unchanged_at T k ms m row.0 h i row.1)

  pub down_old : UnchangedSince T k (names_down_to f) → AreOld T k (names_down_to f)
  down_old h = unchanged_old (names_down_to f) (λ m i. i) h

  pub around_old : UnchangedSince T k (names_around f) → AreOld T k (names_around f)
  around_old h = unchanged_old (names_around f) (λ m i. IsIn-left m (names_around f) (f.content.name ∷ []) i) h
