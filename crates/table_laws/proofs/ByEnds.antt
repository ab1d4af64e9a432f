-- What a walk over the bindings of a chain of stores gathers is enough for a plan that reads by ends.
use Rattle.std.proofs.Common.{◌≡◌, ℕ, zero, suc, ◌≤◌, List, [], ◌∷◌, ◌++◌, length, map, take, Bool, true, false, Option, Some, None, refl, sym, ◌∙◌, ap, subst, ◌⊎◌, inl, inr, arith, append_assoc, append-nil}
use Rattle.std.specs.Prelude.{option_map, cond, find, ⊤}
use Rattle.akl_terms.specs.declared.name.Name.{Name}
use Rattle.akl_terms.specs.declared.name.Var.{Var}
use Rattle.akl_terms.specs.declared.name.Place.{Place}
use Rattle.akl_terms.specs.declared.term.Node.{Node}
use Rattle.akl_terms.specs.declared.term.Term.{Term}
use Rattle.akl_terms.specs.Names.{same_var}
use Rattle.akl_terms.specs.Tree.{Tree, variable, integer, port, symbol}
use Rattle.akl_terms.specs.Equal.{Equations, IsTold, Equal, turned, IsStructured}
use Rattle.akl_terms.specs.Solved.{walk, follow}
use Rattle.akl_terms.specs.Standing.{StandFor}
use Rattle.akl_terms.specs.Template.{tree}
use Rattle.akl_terms.proofs.SameNames.{same_var-equal}
use Rattle.akl_terms.proofs.StandingLaws.{StandFor-back}
use Rattle.constraint_laws.specs.Growth.{IsOver, TellsOver}
use Rattle.constraint_laws.specs.Oldest.{IsOldest}
use Rattle.constraint_laws.specs.Standing.{StandsForConsistent}
use Rattle.constraint_laws.specs.Touched.{IsAmong}
use Rattle.constraint_laws.proofs.LeastVariables.{one_oldest}
use Rattle.constraint_laws.proofs.Stands.{structured_stands, variable_stands}
use Rattle.akl_model.specs.declared.label.Rule.{Rule}
use Rattle.akl_model.specs.Config.{Content, Goals, Config, Found, equations_of, whole, box_at, site_of}
use Rattle.akl_model.specs.Wakes.{names_down_to}
use Rattle.akl_model.proofs.NamesKept.{site-box}
use Rattle.akl_model.proofs.Options.{some_value}
use Rattle.akl_model.proofs.QuietGrows.{equations-snoc}
use Rattle.step_laws.specs.Bound.{first_equations, outermost_equations}
use Rattle.step_laws.proofs.Deeper.{names_snoc, chain_at}
use Rattle.step_laws.proofs.Whereabouts.{found_in}
use Rattle.plan_laws.specs.Sleeps.{IsOutermostAt}
use Rattle.plan_laws.proofs.DownTo.{begins_outermost, outermost_whole}
use Rattle.plan_laws.proofs.InScope.{Good}
use Rattle.plan_laws.proofs.Replayed.{good_replay}
use Rattle.rational_unify.specs.Known as known
use Rattle.rational_unify.specs.Known.{bound_in, end_of}
use Rattle.rational_unify.specs.Solving.{bindings_in}
use Rattle.rational_unify.specs.Forms.{IsFormOf}
use Rattle.rational_unify.proofs.Chains.{found-first, found-second}
use Rattle.rational_unify.proofs.FormLaws.{form-follows, form-consistent}
use Rattle.local_store.specs.Stored.{Stored}
use Rattle.local_store.specs.Chained.{bindings_from, ToldBy, IsSolvedChain}
use Rattle.local_store.proofs.Layers.{form-as}
use Rattle.local_store.proofs.FormEnds.{end-free, unheaded, has_head, end_unbound, unstructured, structured, equal_to_end, unbound_oldest}
use Rattle.reading_laws.specs.Closed.{AreClosed, by_term, by_itself}
use Rattle.reading_laws.specs.Unchanged.{path_to, StandAlong, ClosedAlong, AllOver, AreEnough}
use Rattle.reading_laws.specs.SeenIdle.{KeepsOldestAt}
use Rattle.reading_laws.proofs.SeenIdle.{kept_ends, kept_old}
use Rattle.plan_laws.specs.Waits.{IsScopedAt}
use Rattle.table_laws.specs.Rows.{BoxRow, Table, store_in, stores_along, told_in}
use Rattle.table_laws.specs.Stamped.{Run, IsTableOf}
use Rattle.table_laws.specs.Unfolds.{IsBoxRow}
use Rattle.table_laws.proofs.Frame.{row_of}
use Rattle.table_laws.proofs.Stores.{told_along, told_join, told_last}
use Rattle.table_laws.specs.ByEnds.{LeadOver, own_told, Gathers, EndsAt}
use Rattle.table_laws.proofs.StoreChains.{from_told, to_told}

-- what is found is told
found_told : (nodes : List Node) (bs : List (Var × Term)) (x : Var) (t : Term) → known.found_in bs x ≡ Some t → IsTold (bindings_in nodes bs) (variable x) (tree nodes t)
found_told nodes [] x t e = cc
found_told nodes (b ∷ bs) x t e = on (same_var b.0 x) refl e (found_told nodes bs x t)
  where
    on : (k : Bool) → same_var b.0 x ≡ k → option_map (λ (p : Var × Term). p.1) (cond k (Some b) (find (λ (p : Var × Term). same_var p.0 x) bs)) ≡ Some t
        → (known.found_in bs x ≡ Some t → IsTold (bindings_in nodes bs) (variable x) (tree nodes t)) → IsTold (bindings_in nodes (b ∷ bs)) (variable x) (tree nodes t)
    on true q e f = inl (ap (λ (y : Var). variable y) (sym (same_var-equal b.0 x q)), ap (tree nodes) (sym (some_value e)))
    on false q e f = inr (f e)

-- over some variables
module _ (nodes : List Node) (R : Var → Type 0) where
  pub tells_lead : (bs : List (Var × Term)) → TellsOver R (bindings_in nodes bs) → LeadOver nodes R bs
  tells_lead bs o = record { each = λ x t r e. (o.each (variable x) (tree nodes t) (found_told nodes bs x t e)).1 }

  lead_both : (bs cs : List (Var × Term)) → LeadOver nodes R bs → LeadOver nodes R cs → LeadOver nodes R (bs ++ cs)
  lead_both bs cs h k = record { each = λ x t r e. on x t r e (known.found_in bs x) refl }
    where
      on : (x : Var) (t : Term) → R x → known.found_in (bs ++ cs) x ≡ Some t → (o : Option Term) → known.found_in bs x ≡ o → IsOver R (tree nodes t)
      on x t r e None q = k.each x t r (sym (found-second bs cs x q) ∙ e)
      on x t r e (Some u) q = h.each x t r (q ∙ sym (found-first bs cs x u q) ∙ e)

  -- the end of a chain from one of them is over them
  module _ (bs : List (Var × Term)) (h : LeadOver nodes R bs) where
    walk_over : (n : ℕ) (t : Tree) → IsOver R t → IsOver R (walk n (bound_in nodes bs) t)
    walk_over zero t o = o
    walk_over (suc n) (variable x) o = on (known.found_in bs x) refl (λ u v. walk_over n (tree nodes u) v)
      where
        on : (s : Option Term) → known.found_in bs x ≡ s → ((u : Term) → IsOver R (tree nodes u) → IsOver R (walk n (bound_in nodes bs) (tree nodes u)))
            → IsOver R (follow (walk n (bound_in nodes bs)) (variable x) (option_map (tree nodes) s))
        on None q go = o
        on (Some u) q go = go u (h.each x u o q)
    walk_over (suc n) (integer z) o = o
    walk_over (suc n) (port p) o = o
    walk_over (suc n) (symbol s ts) o = o

    pub end_over : (x : Var) → R x → IsOver R (end_of nodes bs (variable x))
    end_over x r = walk_over (suc (length bs)) (variable x) r

    -- so they are closed
    closed_by : (E : Equations) → IsFormOf nodes bs (IsTold E) → AreClosed R E
    closed_by E f = record {
      each = λ x r. elim (has_head (end_of nodes bs (variable x))) [
        | inl k ↦ by_term (form-follows nodes bs (IsTold E) f (variable x)) k.1 (end_over x r)
        | inr n ↦ (let u : (y : Var) × (end_of nodes bs (variable x) ≡ variable y) = unheaded (end_of nodes bs (variable x)) n in by_itself (unstructured nodes bs E f x u.0 u.1))
      ];
    }

  abbrev EachLead : List Stored → Type 0
  EachLead [] = ⊤
  EachLead (s ∷ ss) = LeadOver nodes R s.bindings × EachLead ss

  lead_all : (ss : List Stored) → EachLead ss → LeadOver nodes R (bindings_from ss)
  lead_all [] h = record { each = λ x t r e. absurd cc }
  lead_all (s ∷ ss) h = lead_both (bindings_from ss) s.bindings (lead_all ss h.1) h.0

  lead_snoc : (ss : List Stored) (s : Stored) → EachLead ss → LeadOver nodes R s.bindings → EachLead (ss ++ s ∷ [])
  lead_snoc [] s h k = (k, tt)
  lead_snoc (r ∷ ss) s h k = (h.0, lead_snoc ss s h.1 k)

  -- down a chain that is solved as far as each of its stores
  closed_down : (done ss : List Stored) (S : Equations) → told_in nodes done ≡ S → ((k : ℕ) → suc k ≤ length ss → IsSolvedChain nodes (done ++ take (suc k) ss)) → EachLead done → EachLead ss
      → ClosedAlong R S (map (own_told nodes) ss)
  closed_down done [] S q solved h k = tt
  closed_down done (s ∷ ss) S q solved h k = (
    closed_by (bindings_from (done ++ s ∷ [])) (lead_all (done ++ s ∷ []) leads) (S ++ own_told nodes s)
        (subst (λ (E : Equations). IsFormOf nodes (bindings_from (done ++ s ∷ [])) (IsTold E)) is_told
        (form-as nodes (bindings_from (done ++ s ∷ [])) (ToldBy nodes (done ++ s ∷ [])) (IsTold (told_in nodes (done ++ s ∷ []))) (solved 0 (omega arith)).form
        (from_told nodes (done ++ s ∷ [])) (to_told nodes (done ++ s ∷ [])))),
    closed_down (done ++ s ∷ []) ss (S ++ own_told nodes s) is_told
        (λ k l. subst (IsSolvedChain nodes) (sym (append_assoc done (s ∷ []) (take (suc k) ss))) (solved (suc k) (omega (arith, l)))) leads k.1,
  )
    where
      leads : EachLead (done ++ s ∷ [])
      leads = lead_snoc done s h k.0

      is_told : told_in nodes (done ++ s ∷ []) ≡ S ++ own_told nodes s
      is_told = told_join nodes done (s ∷ []) ∙ ap (λ (E : Equations). told_in nodes done ++ E) (append-nil (own_told nodes s)) ∙ ap (λ (E : Equations). E ++ own_told nodes s) q

  each_lead : (ss : List Stored) → AllOver R (map (own_told nodes) ss) → EachLead ss
  each_lead [] h = tt
  each_lead (s ∷ ss) h = (tells_lead s.bindings h.0, each_lead ss h.1)

-- what stands first on a path
first_stands : (bs : List Content) (D : Equations) (Ds : List Equations) → StandAlong [] [] bs (D ∷ Ds) → StandFor (IsTold D) (IsTold (first_equations bs))
first_stands [] D Ds h = absurd h
first_stands (b ∷ bs) D Ds h = h.0

-- the stores down to a box that is found
module _ (rules : List Rule) (run : Run) (T : Table) (t : IsTableOf rules run T) where
  abbrev c : Config
  c = t.config

  abbrev nodes : List Node
  nodes = run.program.templates.nodes

  abbrev names : List Content → List Name
  names bs = map (λ (b : Content). b.name) bs

  good : Good c
  good = good_replay rules run.program run.query run.journal c t.replays

  one_stands : (around : List Content) (b : Content) (gs : Goals) → box_at b.name c.roots ≡ Some (record { around = around; content = b; goals = gs })
      → StandFor (IsTold (told_along T (names around) ++ own_told nodes (store_in (T.box_of b.name)))) (IsTold (equations_of around ++ b.equations))
  one_stands around b gs e =
      let r : (r : BoxRow) × (T.box_of b.name ≡ Some r) × IsBoxRow T c.roots (record { around = around; content = b; goals = gs }) r = row_of T c t.unfolds b.name (record { around = around; content = b; goals = gs }) e in
      subst (λ (ns : List Node). StandFor (IsTold (told_along T (names around) ++ own_told ns (store_in (T.box_of b.name)))) (IsTold (equations_of around ++ b.equations))) t.nodes
      (subst (λ (E : Equations). StandFor (IsTold E) (IsTold (equations_of around ++ b.equations))) (told_last T (names around) b.name (store_in (T.box_of b.name)) refl) r.2.stands)

  module _ (f : Found) (is : box_at f.content.name c.roots ≡ Some f) where
    stand_along : (done rest : List Content) (E S : Equations) → f.around ≡ done ++ rest → equations_of done ≡ E → told_along T (names done) ≡ S
        → StandAlong E S (rest ++ f.content ∷ []) (map (own_told nodes) (stores_along T (names rest ++ f.content.name ∷ [])))
    stand_along done [] E S q e s = (last done (q ∙ append-nil done) E S e s, tt)
      where
        last : (done : List Content) → f.around ≡ done → (E S : Equations) → equations_of done ≡ E → told_along T (names done) ≡ S
            → StandFor (IsTold (S ++ own_told nodes (store_in (T.box_of f.content.name)))) (IsTold (E ++ f.content.equations))
        last done q E S e s = subst (λ (X : Equations). StandFor (IsTold (X ++ own_told nodes (store_in (T.box_of f.content.name)))) (IsTold (E ++ f.content.equations))) s
            (subst (λ (X : Equations). StandFor (IsTold (told_along T (names done) ++ own_told nodes (store_in (T.box_of f.content.name)))) (IsTold (X ++ f.content.equations))) e
            (one_stands done f.content f.goals (is ∙ ap (λ (x : List Content). Some (record { around = x; content = f.content; goals = f.goals })) q)))
    stand_along done (b ∷ rest) E S q e s = (
      subst (λ (X : Equations). StandFor (IsTold (X ++ own_told nodes (store_in (T.box_of b.name)))) (IsTold (E ++ b.equations))) s
          (subst (λ (X : Equations). StandFor (IsTold (told_along T (names done) ++ own_told nodes (store_in (T.box_of b.name)))) (IsTold (X ++ b.equations))) e (one_stands done b there.0 there.1)),
      stand_along (done ++ b ∷ []) rest (E ++ b.equations) (S ++ own_told nodes (store_in (T.box_of b.name))) (q ∙ sym (append_assoc done (b ∷ []) rest))
          (equations-snoc done b ∙ ap (λ (X : Equations). X ++ b.equations) e)
          (ap (told_along T) (names_snoc done b) ∙ told_more ∙ ap (λ (X : Equations). X ++ own_told nodes (store_in (T.box_of b.name))) s),
    )
      where
        there : (gs : Goals) × (box_at b.name c.roots ≡ Some (record { around = done; content = b; goals = gs }))
        there = chain_at c.roots good.stand.once f done b rest (found_in f.content.name c.roots f is) q

        told_more : told_along T (names done ++ b.name ∷ []) ≡ told_along T (names done) ++ own_told nodes (store_in (T.box_of b.name))
        told_more = subst (λ (ns : List Node). told_along T (names done ++ b.name ∷ []) ≡ told_along T (names done) ++ own_told ns (store_in (T.box_of b.name))) t.nodes (told_last T (names done) b.name (store_in (T.box_of b.name)) refl)

  -- what a walk gathers
  module _ (place : Place) (f : Found) (site : site_of place c.roots ≡ Some f) (root : Stored) (inner : List Stored) (stores : stores_along T (names_down_to f) ≡ root ∷ inner) (reads ends : List Var)
      (w : Gathers nodes root inner reads ends) (scoped : (x : Var) → IsAmong x ends → IsScopedAt c place x) where
    abbrev R : Var → Type 0
    R x = IsAmong x reads

    is : box_at f.content.name c.roots ≡ Some f
    is = site-box place c.roots f good.stand.once site

    stand_all : StandAlong [] [] (path_to f) (own_told nodes root ∷ map (own_told nodes) inner)
    stand_all = subst (λ (ss : List Stored). StandAlong [] [] (path_to f) (map (own_told nodes) ss)) stores (stand_along f is [] f.around [] [] refl refl refl)

    leads : EachLead nodes R (root ∷ inner)
    leads = (w.leads, each_lead nodes R inner w.all)

    chains : (k : ℕ) → suc k ≤ length (root ∷ inner) → IsSolvedChain nodes ([] ++ take (suc k) (root ∷ inner))
    chains k l = w.solved k (omega (arith, l))

    enough : AreEnough reads f
    enough = record { root = own_told nodes root; own = map (own_told nodes) inner; stands = stand_all; all = w.all; closed = closed_down nodes R [] (root ∷ inner) [] refl chains tt leads }

    -- the root's store
    abbrev E : Equations
    E = own_told nodes root

    abbrev F : Equations
    F = outermost_equations f

    chain : IsSolvedChain nodes (root ∷ [])
    chain = w.solved 0 (omega arith)

    forth : StandsForConsistent E F
    forth = record { stands = first_stands (path_to f) E (map (own_told nodes) inner) stand_all; consistent = form-consistent nodes root.bindings (IsTold E) chain.form }

    back : StandsForConsistent F E
    back = record { stands = StandFor-back forth.stands; consistent = forth.stands.to forth.consistent }

    free : (z : Var) → known.found_in root.bindings z ≡ None → IsStructured E z → ⊥
    free z e = unstructured nodes root.bindings E chain.form z z (end-free nodes root.bindings z e)

    ended : (x : Var) → IsAmong x reads → IsStructured F x ⊎ ((z : Var) × IsAmong z ends × Equal F (variable x) (variable z))
    ended x m = elim (has_head (end_of nodes root.bindings (variable x))) [
      | inl k ↦ inl (structured_stands E F forth x (structured nodes root.bindings E chain.form x k))
      | inr n ↦
          let u : (y : Var) × (end_of nodes root.bindings (variable x) ≡ variable y) = unheaded (end_of nodes root.bindings (variable x)) n in
          let unbound : known.found_in root.bindings u.0 ≡ None = end_unbound nodes root.bindings (IsTold E) chain.form x u.0 u.1 in
          inr (
            u.0,
            w.every u.0 (subst (IsOver R) u.1 (end_over nodes R root.bindings w.leads x m)) unbound,
            variable_stands E F forth (variable x) u.0 (free u.0 unbound) (equal_to_end nodes root.bindings E chain.form x u.0 u.1),
          )
    ]

    -- an end is the oldest of its class
    oldest_one : (x : Var) → IsAmong x ends → IsOldest F x x
    oldest_one x m =
        let unbound : known.found_in root.bindings x ≡ None = w.only x m in
        let o : IsOldest E x x = unbound_oldest nodes root.bindings E chain.form chain.older x unbound in
        record {
          equal = variable_stands E F forth (variable x) x (free x unbound) o.equal;
          oldest = λ y e. o.oldest y (turned (variable_stands F E back (variable y) x (λ s. free x unbound (structured_stands F E back x s)) (turned e)));
        }

    outer : (k : Found) → IsOutermostAt c place k → whole k ≡ F
    outer k h =
        let a : (rest : List Content) × (k.content ∷ rest ≡ path_to f) = subst (λ (o : Option Found). (rest : List Content) × (k.content ∷ rest ≡ Rattle.plan_laws.proofs.DownTo.path_to o)) site (begins_outermost c good place k h) in
        outermost_whole k h.is_root ∙ ap first_equations a.1

    oldest : KeepsOldestAt c place ends
    oldest = record {
      each = λ k h j x y m n o. subst (λ (z : Var). IsAmong z ends) (one_oldest F x x y (oldest_one x m) (subst (λ (X : Equations). IsOldest X x y) (outer k h) o)) m;
    }

    pub by_ends : EndsAt c f reads ends
    by_ends = record {
      enough = enough;
      ended = ended;
      oldest = kept_ends rules run.program run.query run.journal c t.replays place ends scoped oldest;
      old = kept_old rules run.program run.query run.journal c t.replays place ends scoped oldest;
    }
