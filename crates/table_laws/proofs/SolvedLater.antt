-- Whether the store that is made in a later table is solved there.
use Rattle.std.proofs.Common.{◌≡◌, ℕ, ◌≤◌, Bool, true, false, List, [], ◌∷◌, ◌++◌, Some, refl, sym, ◌∙◌, ap, subst, inl, inr, arith}
use Rattle.akl_terms.specs.declared.name.Name.{Name}
use Rattle.akl_terms.specs.declared.name.Var.{Var}
use Rattle.akl_terms.specs.declared.term.Node.{Node}
use Rattle.akl_terms.specs.declared.term.Term.{Term}
use Rattle.akl_model.specs.declared.label.Rule.{Rule}
use Rattle.akl_model.specs.Config.{IsIn, Found, box_at}
use Rattle.akl_model.specs.Wakes.{names_around, names_down_to}
use Rattle.akl_model.proofs.NamesKept.{Stand, replay-stands}
use Rattle.akl_model.proofs.Options.{some_value}
use Rattle.rational_unify.specs.Older.{LeadOlder}
use Rattle.rational_unify.specs.Solving.{BindNew}
use Rattle.local_store.specs.Stored.{Stored, joins, with_bindings}
use Rattle.local_store.specs.Chained.{bindings_from, innermost, around, replaced, BindOnce, IsSolvedChain}
use Rattle.local_store.proofs.Layers.{from-last}
use Rattle.step_laws.proofs.Deeper.{Over, over, named_found}
use Rattle.step_laws.proofs.Whereabouts.{found_in}
use Rattle.table_laws.specs.Rows.{BoxRow, Table, store_in, stores_along}
use Rattle.table_laws.specs.Kept.{SharesStores}
use Rattle.table_laws.specs.Stamped.{Run, IsTableOf}
use Rattle.table_laws.specs.Steps.{IsSolvedIf}
use Rattle.table_laws.specs.Unfolds.{UnchangedSince, IsBoxRow}
use Rattle.table_laws.proofs.Frame.{row_of}
use Rattle.table_laws.proofs.Stores.{stores_join, unchanged_at}
use Rattle.table_laws.proofs.FreshJoins.{fresh_joined}
use Rattle.table_laws.specs.Added.{Added, with_added}
use Rattle.table_laws.specs.Planned.{store_of}
use Rattle.table_laws.specs.SolvedLater.{IsSolvedBy}
use Rattle.table_laws.proofs.NewBindings.{new_part, older_part, chain_by}
use Rattle.table_laws.proofs.StoreChains.{innermost_push, around_push}

-- the stores of boxes that none but the first labels changed are the same
same_along : (S T : Table) (seen : ℕ) → SharesStores S T seen → (ms : List Name) → ((m : Name) → IsIn m ms → (row : BoxRow) × (T.box_of m ≡ Some row) × (row.changed ≤ seen)) → stores_along S ms ≡ stores_along T ms
same_along S T seen shares [] h = refl
same_along S T seen shares (m ∷ ms) h =
    let r : (row : BoxRow) × (T.box_of m ≡ Some row) × (row.changed ≤ seen) = h m (inl refl) in
    let e : store_of S m ≡ store_of T m = shares m r.0 r.1 r.2 ∙ sym (ap store_in r.1) in
    λ i. e i ∷ same_along S T seen shares ms (λ n j. h n (inr j)) i

-- a step says truly that its store is solved where it is
says : (T : Table) (at : ℕ) (k : Found) (x : Added) (solved : Bool) → at ≤ T.steps → (UnchangedSince T at (names_around k) → IsSolvedIf solved T (names_around k) (with_added (store_of T k.content.name) x)) → IsSolvedBy at T k x solved
says T at k x solved within h = ((within, h), λ goals. (within, h))

module _ (rules : List Rule) (run : Run) (T : Table) (t : IsTableOf rules run T) (k : Found) (is : box_at k.content.name t.config.roots ≡ Some k) where
  stand : Stand t.config
  stand = replay-stands rules run.program run.query run.journal t.config t.replays

  own_row : (row : BoxRow) × (T.box_of k.content.name ≡ Some row) × IsBoxRow T t.config.roots k row
  own_row = row_of T t.config t.unfolds k.content.name k is

  around_row : (m : Name) → IsIn m (names_around k) → (row : BoxRow) × (T.box_of m ≡ Some row)
  around_row m i =
      let o : Over m k t.config.roots = over m k t.config.roots (found_in k.content.name t.config.roots k is) i in
      let r : (row : BoxRow) × (T.box_of m ≡ Some row) × IsBoxRow T t.config.roots o.outer row = row_of T t.config t.unfolds m o.outer (named_found t.config.roots stand.once m o.outer o.stands o.named) in
      (r.0, r.1)

  -- as the plan says
  pub solved_still : (S : Table) (seen : ℕ) → S.nodes ≡ T.nodes → SharesStores S T seen → seen ≤ T.steps → (f : Found) → k.content.name ≡ f.content.name → names_around k ≡ names_around f → (x : Added) (solved : Bool)
      → IsSolvedIf solved S (names_around f) (with_added (store_of S f.content.name) x) → ((row : BoxRow) → T.box_of k.content.name ≡ Some row → row.changed ≤ seen) → IsSolvedBy seen T k x solved
  solved_still S seen nodes shares within f name same x solved was own = says T seen k x solved within (on solved was)
    where
      own_same : store_of S f.content.name ≡ store_of T k.content.name
      own_same = ap (store_of S) (sym name) ∙ shares k.content.name own_row.0 own_row.1 (own own_row.0 own_row.1) ∙ sym (ap store_in own_row.1)

      on : (solved : Bool) → IsSolvedIf solved S (names_around f) (with_added (store_of S f.content.name) x) → UnchangedSince T seen (names_around k) → IsSolvedIf solved T (names_around k) (with_added (store_of T k.content.name) x)
      on false h u = tt
      on true h u =
          let e : stores_along S (names_around f) ≡ stores_along T (names_around k) =
          ap (stores_along S) (sym same) ∙ same_along S T seen shares (names_around k) (λ m i. let r : (row : BoxRow) × (T.box_of m ≡ Some row) = around_row m i in (r.0, r.1, unchanged_at T seen (names_around k) m r.0 u i r.1)) in
          subst (λ (ns : List Node). IsSolvedChain ns (stores_along T (names_around k) ++ with_added (store_of T k.content.name) x ∷ [])) nodes
          (subst (λ (ss : List Stored). IsSolvedChain S.nodes ss) (λ i. e i ++ with_added (own_same i) x ∷ []) h)

  abbrev outer : List Stored
  outer = stores_along T (names_around k)

  abbrev own : Stored
  own = store_of T k.content.name

  -- by what is added alone
  pub solved_fresh : (row : BoxRow) (at : ℕ) → T.box_of k.content.name ≡ Some row → row.solved_at ≡ Some at → UnchangedSince T at (names_around k) → (x : Added) → BindNew (bindings_from (stores_along T (names_down_to k))) x.bindings
      → LeadOlder T.nodes x.bindings → (solved : Bool) → IsSolvedBy T.steps T k x solved
  solved_fresh row at there so u x new older solved = says T T.steps k x solved (omega arith) (λ w. on solved)
    where
      is_row : own_row.0 ≡ row
      is_row = some_value (sym own_row.1 ∙ there)

      now : IsSolvedChain T.nodes (stores_along T (names_down_to k))
      now = own_row.2.stays_solved.solved at (ap (λ (r : BoxRow). r.solved_at) is_row ∙ so) u

      parts : stores_along T (names_down_to k) ≡ outer ++ own ∷ []
      parts = stores_join T (names_around k) (k.content.name ∷ [])

      joined : IsSolvedChain T.nodes (replaced (outer ++ own ∷ []) (with_bindings (innermost (outer ++ own ∷ [])) x.bindings))
      joined = fresh_joined T.nodes (outer ++ own ∷ []) (subst (IsSolvedChain T.nodes) parts now) x.bindings (subst (λ (ss : List Stored). BindNew (bindings_from ss) x.bindings) parts new) older
          (with_bindings (innermost (outer ++ own ∷ [])) x.bindings) refl

      same : bindings_from (replaced (outer ++ own ∷ []) (with_bindings (innermost (outer ++ own ∷ [])) x.bindings)) ≡ bindings_from (outer ++ with_added own x ∷ [])
      same = from-last (around (outer ++ own ∷ [])) (with_bindings (innermost (outer ++ own ∷ [])) x.bindings)
          ∙ (λ i. joins (innermost_push outer own i).bindings x.bindings ++ bindings_from (around_push outer own i)) ∙ sym (from-last outer (with_added own x))

      on : (solved : Bool) → IsSolvedIf solved T (names_around k) (with_added own x)
      on false = tt
      on true = chain_by T.nodes (replaced (outer ++ own ∷ []) (with_bindings (innermost (outer ++ own ∷ [])) x.bindings)) (outer ++ with_added own x ∷ []) same joined

-- what a plan adds is new, and leads to older variables
module _ (S : Table) (f : Found) (x : Added) (h : IsSolvedIf true S (names_around f) (with_added (store_of S f.content.name) x)) where
  abbrev stores : List Stored
  stores = stores_along S (names_around f)

  abbrev last : Stored
  last = store_of S f.content.name

  parts : bindings_from (stores_along S (names_down_to f)) ≡ last.bindings ++ bindings_from stores
  parts = ap bindings_from (stores_join S (names_around f) (f.content.name ∷ [])) ∙ from-last stores last

  list : bindings_from (stores ++ with_added last x ∷ []) ≡ joins last.bindings x.bindings ++ bindings_from stores
  list = from-last stores (with_added last x)

  once : BindOnce (joins last.bindings x.bindings ++ bindings_from stores)
  once = subst BindOnce list h.once

  older : LeadOlder S.nodes (joins last.bindings x.bindings ++ bindings_from stores)
  older = subst (LeadOlder S.nodes) list h.older

  pub new_parts : BindNew (bindings_from (stores_along S (names_down_to f))) x.bindings × LeadOlder S.nodes x.bindings
  new_parts = (
    subst (λ (bs : List (Var × Term)). BindNew bs x.bindings) (sym parts) (new_part S.nodes last.bindings (bindings_from stores) x.bindings once older),
    older_part S.nodes last.bindings (bindings_from stores) x.bindings once older,
  )
