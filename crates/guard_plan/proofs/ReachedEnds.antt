-- The variables to which the stores inside the root box of a view lead, and those of them that the root's store leaves unbound, are enough for a plan that reads by ends.
use Rattle.std.proofs.Common.{◌≡◌, ℕ, suc, ◌≤◌, List, [], ◌∷◌, length, map, take, true, Some, refl, sym, ◌∙◌, ap, subst, inl, inr, arith}
use Rattle.std.specs.List.{AllByRecursion}
use Rattle.akl_terms.specs.declared.name.Name.{Name}
use Rattle.akl_terms.specs.declared.name.Var.{Var}
use Rattle.akl_terms.specs.declared.term.Node.{Node}
use Rattle.akl_terms.specs.declared.term.Term.{Term}
use Rattle.akl_terms.specs.Tree.{Tree}
use Rattle.akl_terms.specs.Equal.{IsTold}
use Rattle.constraint_laws.specs.Growth.{IsOver}
use Rattle.constraint_laws.specs.Touched.{IsAmong}
use Rattle.akl_model.specs.Config.{IsIn, Found, box_at}
use Rattle.akl_model.specs.Wakes.{names_down_to, IsAt}
use Rattle.akl_model.proofs.NamesKept.{box-itself}
use Rattle.akl_model.proofs.ScopesAlong.{local_in}
use Rattle.rational_unify.specs.Solving.{bindings_in}
use Rattle.local_store.specs.Stored.{Stored, is_named}
use Rattle.local_store.specs.Chained.{IsSolvedChain}
use Rattle.entail_test.proofs.Enough.{is-named}
use Rattle.plan_laws.specs.Waits.{IsScopedAt}
use Rattle.plan_laws.proofs.DownTo.{is_down}
use Rattle.reading_laws.specs.Unchanged.{AllOver}
use Rattle.table_laws.specs.Rows.{BoxRow, Table, store_in, stores_along}
use Rattle.table_laws.specs.Unfolds.{IsBoxRow}
use Rattle.table_laws.specs.ByEnds.{own_told, Gathers, EndsAt}
use Rattle.table_laws.proofs.ByEnds as law
use Rattle.table_laws.proofs.Frame.{row_of}
use Rattle.reached_ends.specs.Leading.{IsLedTo}
use Rattle.reached_ends.specs.Reached.{AreBoundOver, AreReached, IsOwned, AreOwned, IsReached}
use Rattle.box_tree.specs.Tables.{all_rules, table_of}
use Rattle.box_tree.specs.Views.{ViewValue, IsViewOf, run_of}
use Rattle.guard_plan.specs.ReadAt.{AreEndsOf}
use Rattle.guard_plan.proofs.Sites.{stand, found, stores_path, box_down}

-- bindings over variables tell over them
bound_tells : (nodes : List Node) (xs : List Var) (bs : List (Var × Term)) → AreBoundOver nodes xs bs → (s t : Tree) → IsTold (bindings_in nodes bs) s t → IsOver (λ x. IsAmong x xs) s × IsOver (λ x. IsAmong x xs) t
bound_tells nodes xs [] h s t w = absurd w
bound_tells nodes xs (b ∷ bs) h s t (inl e) = (subst (IsOver (λ x. IsAmong x xs)) (sym e.0) h.0.0, subst (IsOver (λ x. IsAmong x xs)) (sym e.1) h.0.1)
bound_tells nodes xs (b ∷ bs) h s t (inr w) = bound_tells nodes xs bs h.1 s t w

all_tell : (nodes : List Node) (xs : List Var) (ss : List Stored) → AllByRecursion (λ (s : Stored). AreBoundOver nodes xs s.bindings) ss → AllOver (λ x. IsAmong x xs) (map (own_told nodes) ss)
all_tell nodes xs [] h = tt
all_tell nodes xs (s ∷ ss) h = (record { each = bound_tells nodes xs s.bindings h.0 }, all_tell nodes xs ss h.1)

owned_each : (ss : List Stored) (xs : List Var) → AreOwned ss xs → (x : Var) → IsAmong x xs → IsOwned ss x.frame
owned_each ss [] h x m = absurd m
owned_each ss (y ∷ xs) h x (inl e) = subst (λ (z : Var). IsOwned ss z.frame) (sym e) h.0
owned_each ss (y ∷ xs) h x (inr m) = owned_each ss xs h.1 x m

owned_by : (T : Table) (ns : List Name) (n : Name) → IsOwned (stores_along T ns) n → (m : Name) × IsIn m ns × (is_named (store_in (T.box_of m)).frames n ≡ true)
owned_by T [] n o = absurd o
owned_by T (m ∷ ns) n (inl e) = (m, inl refl, e)
owned_by T (m ∷ ns) n (inr o) = let w : (k : Name) × IsIn k ns × (is_named (store_in (T.box_of k)).frames n ≡ true) = owned_by T ns n o in (w.0, inr w.1, w.2)

module _ (v : ViewValue) (i : IsViewOf v) where
  abbrev T : Table
  T = table_of v.table

  -- a variable of a frame that a store down to the box of the place has is in scope there
  scoped : (x : Var) → IsOwned v.stores x.frame → IsScopedAt i.table.config v.place x
  scoped x o =
      let w : (m : Name) × IsIn m (names_down_to i.site) × (is_named (store_in (T.box_of m)).frames x.frame ≡ true) = owned_by T (names_down_to i.site) x.frame (subst (λ (ss : List Stored). IsOwned ss x.frame) (stores_path v i) o) in
      let b : (k : Found) × (box_at w.0 i.table.config.roots ≡ Some k) = box_down T i.table.config (stand v i) i.table.unfolds i.site (found v i) w.0 w.1 in
      let r : (r : BoxRow) × (T.box_of w.0 ≡ Some r) × IsBoxRow T i.table.config.roots b.0 r = row_of T i.table.config i.table.unfolds w.0 b.0 b.1 in
      let same : w.0 ≡ b.0.content.name = box-itself w.0 i.table.config.roots b.0 b.1 in
      record {
        home = b.0;
        is_found = subst (λ (m : Name). box_at m i.table.config.roots ≡ Some b.0) same b.1;
        is_at = subst (λ (m : Name). IsAt m i.table.config.roots v.place) same (is_down w.0 i.table.config.roots v.place i.site i.is_site w.1);
        frame = local_in b.0.content.frames x (is-named b.0.content.frames x (subst (λ (fs : List Name). is_named fs x.frame ≡ true) (ap (λ (o : _). (store_in o).frames) r.1 ∙ r.2.frames) w.2));
      }

  module _ (ends : List Var) (e : AreEndsOf v ends) where
    abbrev nodes : List Node
    nodes = v.table.program.templates.nodes

    abbrev r : IsReached e.chain ends
    r = e.reached

    stores : v.stores ≡ r.root ∷ r.inner
    stores = sym e.stores ∙ r.stores

    reached : AreReached nodes r.root r.inner ends
    reached = subst (λ (ns : List Node). AreReached ns r.root r.inner ends) e.nodes r.are_reached

    solved : (k : ℕ) → k ≤ length r.inner → IsSolvedChain nodes (r.root ∷ take k r.inner)
    solved k l =
        let known : length e.chain.stores ≤ e.chain.known = r.known in
        let long : length e.chain.stores ≡ length (r.root ∷ r.inner) = ap (λ (ss : List Stored). length ss) r.stores in
        subst (λ (ss : List Stored). IsSolvedChain nodes (take (suc k) ss)) stores (i.known.each (suc k) (omega (arith, e.known)))

    gathers : Gathers nodes r.root r.inner reached.reached ends
    gathers = record {
      solved = solved;
      all = all_tell nodes reached.reached r.inner reached.bound;
      leads = record { each = λ x t m e. reached.closed x m t e };
      every = reached.ended;
      only = λ x m. (reached.unbound x m).1;
    }

    pub ends_at : (reads : List Var) × EndsAt i.table.config i.site reads ends
    ends_at = (
      reached.reached,
      law.by_ends all_rules (run_of v.table v.journal) T i.table v.place i.site i.is_site r.root r.inner (sym (stores_path v i) ∙ stores) reached.reached ends gathers
          (λ x m. scoped x (subst (λ (ss : List Stored). IsOwned ss x.frame) e.stores (owned_each e.chain.stores ends r.owned x m))),
    )

-- the stores of a view lead to the ends
pub led_by : (v : ViewValue) (ends : List Var) → AreEndsOf v ends → (x : Var) → IsAmong x ends → IsLedTo v.table.program.templates.nodes v.stores x
led_by v ends e x m = subst (λ (ns : List Node). IsLedTo ns v.stores x) e.nodes (subst (λ (ss : List Stored). IsLedTo e.chain.nodes ss x) (sym (sym e.stores ∙ e.reached.stores)) (e.reached.are_reached.led x m))
