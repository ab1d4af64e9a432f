-- What a view's stores reach, with one more store that has the frames of all boxes inside, is what the equations of its place's box reach.
use Rattle.std.proofs.Common.{◌≡◌, ◌≤◌, arith, length-append, List, [], ◌∷◌, ◌++◌, length, map, take, drop, ◌+◌, Some, refl, sym, ◌∙◌, ap, subst, inl, inr}
use Rattle.akl_terms.specs.declared.name.Name.{Name}
use Rattle.akl_terms.specs.declared.name.Var.{Var}
use Rattle.akl_terms.specs.declared.term.Node.{Node}
use Rattle.akl_terms.specs.Tree.{Tree}
use Rattle.akl_terms.specs.Equal.{Equations, IsTold, told, IsConsistent}
use Rattle.akl_terms.specs.Standing.{StandFor}
use Rattle.akl_terms.specs.Touching.{IsLocal}
use Rattle.akl_terms.proofs.EqualLaws.{IsTold-left, IsConsistent-follows}
use Rattle.akl_terms.proofs.StandingLaws.{StandFor-back, StandFor-on}
use Rattle.akl_model.specs.Config.{Content, Found, equations_of, environment, whole, box_at}
use Rattle.akl_model.specs.Stable.{only, frames_of}
use Rattle.akl_model.specs.Wakes.{names_around}
use Rattle.akl_model.proofs.ScopesKept.{around_outside}
use Rattle.rational_unify.specs.Solving.{bindings_in}
use Rattle.local_store.specs.Stored.{Stored}
use Rattle.local_store.specs.Chained.{bindings_from, ToldBy}
use Rattle.entail_test.specs.Asked.{frames_from, environment_at, KeepsApartAt}
use Rattle.table_laws.specs.Rows.{Table, stores_along}
use Rattle.table_laws.proofs.Stores.{stores_join}
use Rattle.table_laws.proofs.Frame.{around_stands}
use Rattle.box_tree.specs.Tables.{all_rules, table_of}
use Rattle.box_tree.specs.Views.{ViewValue, IsViewOf}
use Rattle.table_laws.proofs.StoreChains.{told_stands}
use Rattle.guard_plan.proofs.QuietOver.{keeps_apart}
use Rattle.guard_plan.proofs.Sites.{stand, stores_path, whole_stands}
use Rattle.stable_test.specs.Reaching.{IsConsistentAt, ReachesNone, AreReached}
use Rattle.stable_test.proofs.EachInside.{IsDown, below}
use Rattle.stable_test.proofs.PathStores.{GoesDown, goes_down, path_frame}
use Rattle.stable_test.proofs.Further.{taken, further_frame, last_frame}
use Rattle.stable_test.proofs.Reaches.{consistent_at, reaches_back, reached_stands, reaches_none_stands}
use Rattle.plan_laws.proofs.Moves.{equations-append}

pub long_stores : (T : Table) (bs : List Content) → length (stores_along T (map (λ (b : Content). b.name) bs)) ≡ length bs
long_stores T [] = refl
long_stores T (b ∷ bs) = let h : length (stores_along T (map (λ (b : Content). b.name) bs)) ≡ length bs = long_stores T bs in omega arith

module _ (v : ViewValue) (i : IsViewOf v) (n : Name) (f : Found) (e : box_at n i.table.config.roots ≡ Some f) (h : IsDown i.table.config (stand v i) n f e i.site)
    (further : Stored) (to : (x : Var) → IsLocal further.frames x → IsLocal (frames_of (only f)) x) (from : (x : Var) → IsLocal (frames_of (only f)) x → IsLocal further.frames x) where
  abbrev T : Table
  T = table_of v.table

  abbrev nodes : List Node
  nodes = v.table.program.templates.nodes

  abbrev all : List Stored
  all = v.stores ++ further ∷ []

  abbrev outer : List Stored
  outer = stores_along (table_of v.table) (names_around f)

  goes : GoesDown (table_of v.table) i.table.config (stand v i) i.table.unfolds n f e i.site
  goes = goes_down (table_of v.table) i.table.config (stand v i) i.table.unfolds n f e i.site h

  parts : v.stores ≡ stores_along (table_of v.table) (names_around f) ++ stores_along (table_of v.table) goes.more
  parts = stores_path v i ∙ ap (stores_along (table_of v.table)) goes.split ∙ stores_join (table_of v.table) (names_around f) goes.more

  deep : length (stores_along (table_of v.table) (names_around f)) ≡ length f.around
  deep = long_stores (table_of v.table) f.around

  pub front : take (length f.around) (v.stores ++ further ∷ []) ≡ stores_along (table_of v.table) (names_around f)
  front = (λ j. take (sym deep j) (parts j ++ further ∷ [])) ∙ taken (stores_along (table_of v.table) (names_around f)) (stores_along (table_of v.table) goes.more) further

  pub deep_stores : length f.around ≤ length v.stores
  deep_stores =
      let k : length v.stores ≡ length (stores_along (table_of v.table) (names_around f)) + length (stores_along (table_of v.table) goes.more) =
      ap (λ (ss : List Stored). length ss) parts ∙ length-append (stores_along (table_of v.table) (names_around f)) (stores_along (table_of v.table) goes.more) in
      let d : length (stores_along (table_of v.table) (names_around f)) ≡ length f.around = deep in
      omega (arith, k, d)

  back : drop (length f.around) (v.stores ++ further ∷ [])
      ≡ drop (length (stores_along (table_of v.table) (names_around f))) ((stores_along (table_of v.table) (names_around f) ++ stores_along (table_of v.table) goes.more) ++ further ∷ [])
  back = λ j. drop (sym deep j) (parts j ++ further ∷ [])

  frame_to : (x : Var) → IsLocal (frames_from (drop (length f.around) (v.stores ++ further ∷ []))) x → IsLocal (frames_of (only f)) x
  frame_to x l = elim (further_frame (stores_along (table_of v.table) (names_around f)) (stores_along (table_of v.table) goes.more) further x (subst (λ (ss : List Stored). IsLocal (frames_from ss) x) back l)) [
    | inl k ↦ path_frame (table_of v.table) i.table.config (stand v i) i.table.unfolds n f e i.site goes x k
    | inr k ↦ to x k
  ]

  frame_from : (x : Var) → IsLocal (frames_of (only f)) x → IsLocal (frames_from (drop (length f.around) (v.stores ++ further ∷ []))) x
  frame_from x l = subst (λ (ss : List Stored). IsLocal (frames_from ss) x) (sym back)
      (last_frame (stores_along (table_of v.table) (names_around f)) (stores_along (table_of v.table) goes.more) further x (from x l))

  -- what stands for what
  around : StandFor (IsTold (environment_at nodes (v.stores ++ further ∷ []) (length f.around))) (IsTold (environment f))
  around = subst (λ (ss : List Stored). StandFor (ToldBy nodes ss) (IsTold (environment f))) (sym front)
      (StandFor-on (told_stands nodes (stores_along (table_of v.table) (names_around f))) (around_stands (table_of v.table) i.table.config (stand v i) i.table.unfolds n f e))

  all_told : StandFor (ToldBy nodes v.stores) (IsTold (whole i.site))
  all_told = StandFor-on (told_stands nodes v.stores) (whole_stands v i)

  told_inside : (a b : Tree) → IsTold (environment f) a b → IsTold (whole i.site) a b
  told_inside a b m = elim (below i.table.config (stand v i) n f e i.site h) [
    | inl q ↦ subst (λ (k : Found). IsTold (whole k) a b) q (IsTold-left (environment f) f.content.equations a b m)
    | inr k ↦ IsTold-left (environment i.site) i.site.content.equations a b
        (subst (λ (bs : List Content). IsTold (equations_of bs) a b) (sym k.around)
        (subst (λ (E : Equations). IsTold E a b) (sym (equations-append f.around (f.content ∷ k.rest))) (IsTold-left (environment f) (equations_of (f.content ∷ k.rest)) a b m)))
  ]

  pub less : IsConsistent (whole i.site) → IsConsistent (environment f)
  less c = IsConsistent-follows (record { each = λ {s = a} {t = b} m. told (told_inside a b m) }) c

  pub consistent_site : IsConsistentAt (bindings_in nodes (bindings_from v.stores)) v.sight → IsConsistentAt (whole i.site) v.sight
  consistent_site = consistent_at (bindings_in nodes (bindings_from v.stores)) (whole i.site) all_told.to v.sight

  pub site_consistent : IsConsistentAt (whole i.site) v.sight → IsConsistentAt (bindings_in nodes (bindings_from v.stores)) v.sight
  site_consistent = consistent_at (whole i.site) (bindings_in nodes (bindings_from v.stores)) all_told.back v.sight

  -- a list of what the stores reach is one of what the equations of the box reach
  pub reached_site : (list : List Var) → IsConsistentAt (bindings_in nodes (bindings_from v.stores)) v.sight
      → AreReached v.table.program (frames_from (drop (length f.around) (v.stores ++ further ∷ []))) (environment_at nodes (v.stores ++ further ∷ []) (length f.around)) (bindings_in nodes (bindings_from v.stores)) v.sight list
      → AreReached v.table.program (frames_of (only f)) (environment f) (whole i.site) v.sight list
  reached_site list c = reached_stands v.table.program (frames_from (drop (length f.around) (v.stores ++ further ∷ []))) (frames_of (only f)) (environment_at nodes (v.stores ++ further ∷ []) (length f.around)) (environment f)
      (bindings_in nodes (bindings_from v.stores)) (whole i.site) around all_told frame_to less v.sight list (consistent_site c)
      (λ k. reaches_back v.table.program (frames_of (only f)) (frames_from (drop (length f.around) (v.stores ++ further ∷ []))) (environment f) (environment_at nodes (v.stores ++ further ∷ []) (length f.around))
      (whole i.site) (bindings_in nodes (bindings_from v.stores)) (StandFor-back around) (StandFor-back all_told) frame_from (λ d. around.back (less (all_told.to d))) (all_told.back k) v.sight)

  pub reaches_site : ReachesNone v.table.program (frames_from (drop (length f.around) (v.stores ++ further ∷ []))) (environment_at nodes (v.stores ++ further ∷ []) (length f.around)) (bindings_in nodes (bindings_from v.stores)) v.sight
      → ReachesNone v.table.program (frames_of (only f)) (environment f) (whole i.site) v.sight
  reaches_site = reaches_none_stands v.table.program (frames_from (drop (length f.around) (v.stores ++ further ∷ []))) (frames_of (only f)) (environment_at nodes (v.stores ++ further ∷ []) (length f.around)) (environment f)
      (bindings_in nodes (bindings_from v.stores)) (whole i.site) around all_told frame_to less v.sight

  pub site_reaches : ReachesNone v.table.program (frames_of (only f)) (environment f) (whole i.site) v.sight
      → ReachesNone v.table.program (frames_from (drop (length f.around) (v.stores ++ further ∷ []))) (environment_at nodes (v.stores ++ further ∷ []) (length f.around)) (bindings_in nodes (bindings_from v.stores)) v.sight
  site_reaches = reaches_none_stands v.table.program (frames_of (only f)) (frames_from (drop (length f.around) (v.stores ++ further ∷ []))) (environment f) (environment_at nodes (v.stores ++ further ∷ []) (length f.around))
      (whole i.site) (bindings_in nodes (bindings_from v.stores)) (StandFor-back around) (StandFor-back all_told) frame_from (λ c. around.back (less (all_told.to c))) v.sight

  pub apart : IsConsistent (environment_at nodes (v.stores ++ further ∷ []) (length f.around)) → KeepsApartAt nodes (v.stores ++ further ∷ []) (length f.around)
  apart c = keeps_apart (environment_at nodes (v.stores ++ further ∷ []) (length f.around)) (environment f) (frames_from (drop (length f.around) (v.stores ++ further ∷ []))) (frames_of (only f)) frame_to
      (around_outside all_rules v.table.program v.table.query v.journal i.table.config n f i.table.replays e) around c
