-- A label that tells no ports to a root box that is solved behind it leaves its store as it is, where bindings are told apart.
use Rattle.std.proofs.Common.{◌≡◌, ℕ, ◌+◌, Bool, true, false, List, [], ◌∷◌, map, Option, None, Some, refl, sym, ap, subst, ◌∙◌, inl, inr}
use Rattle.std.specs.Prelude.{option_map, option_and_then, if◌then◌else◌}
use Rattle.akl_terms.specs.declared.name.Name.{Name}
use Rattle.akl_terms.specs.declared.name.Place.{Place}
use Rattle.akl_terms.specs.declared.term.Term.{Term}
use Rattle.akl_terms.specs.Equal.{IsConsistent}
use Rattle.akl_terms.proofs.SameNames.{same_name-refl}
use Rattle.akl_model.specs.declared.item.Item.{Item}
use Rattle.akl_model.specs.declared.label.Label.{Label}
use Rattle.akl_model.specs.Config.{Content, Found, whole, box_at}
use Rattle.akl_model.specs.Changes.{by_binding, Changes}
use Rattle.akl_model.specs.Wakes.{names_around, names_down_to, holder_in}
use Rattle.akl_model.proofs.NamesKept.{box-itself, replay-stands}
use Rattle.akl_model.proofs.Options.{some_value}
use Rattle.rational_unify.proofs.FormLaws.{form-consistent}
use Rattle.local_store.specs.Parts.{with_part, all_ports}
use Rattle.akl_terms.specs.declared.term.Node.{Node}
use Rattle.local_store.specs.Chained.{bindings_from, ToldBy, IsSolvedChain}
use Rattle.local_store.specs.declared.part.Part.{Part}
use Rattle.step_laws.proofs.Holders.{unheld_around}
use Rattle.table_laws.specs.Rows.{BoxRow, Table, store_in, stores_along, ports_in}
use Rattle.table_laws.specs.Stamped.{Run, IsTableOf}
use Rattle.table_laws.specs.Unfolds.{UnchangedSince, IsBoxRow}
use Rattle.table_laws.specs.Writes.{home_in, changed_box, solved_when}
use Rattle.table_laws.specs.Walks.{alternatives_of}
use Rattle.table_laws.specs.Calls.{called_row}
use Rattle.akl_terms.specs.declared.program.Goal.{Goal}
use Rattle.table_laws.proofs.Frame.{found_of}
use Rattle.box_tree.specs.declared.step.Step.{Step}
use Rattle.box_tree.specs.Applied.{KeepsMark}
use Rattle.box_tree.specs.Lefts.{is_portless, leaves_store}
use Rattle.box_tree.specs.Tables.{all_rules, TableValue, table_of, store_at, LeadsBy, goal_atom}
use Rattle.table_laws.proofs.StoreChains.{told_stands}
use Rattle.table_laws.proofs.KeptStores.{still_there}

-- a root box that is solved is consistent
module _ (r : Run) (T : Table) (t : IsTableOf all_rules r T) (n : Name) (row : BoxRow) (there : T.box_of n ≡ Some row) (root : row.holder ≡ None) (at : ℕ) (solved : row.solved_at ≡ Some at) where
  pub found : (f : Found) × (box_at n t.config.roots ≡ Some f) × IsBoxRow T t.config.roots f row
  found = found_of T t.config t.unfolds n row there

  abbrev site : Found
  site = found.0

  around : names_around site ≡ []
  around = ap (map (λ (b : Content). b.name)) (unheld_around t.config.roots (replay-stands all_rules r.program r.query r.journal t.config t.replays).once n site found.1
      (ap (λ (m : Name). holder_in m t.config.roots) (box-itself n t.config.roots site found.1) ∙ sym found.2.holder ∙ root))

  chain : IsSolvedChain T.nodes (stores_along T (names_down_to site))
  chain = found.2.stays_solved.solved at solved (subst (UnchangedSince T at) (sym around) tt)

  pub root_consistent : IsConsistent (whole site)
  root_consistent = found.2.stands.to ((told_stands T.nodes (stores_along T (names_down_to site))).to
      (form-consistent T.nodes (bindings_from (stores_along T (names_down_to site))) (ToldBy T.nodes (stores_along T (names_down_to site))) chain.form))

portless : (part : Part) → is_portless part.ports.items ≡ true → part.ports.items ≡ []
portless part e = on part.ports.items e
  where
    on : (qs : List (Name × Term)) → is_portless qs ≡ true → qs ≡ []
    on [] e = refl
    on (q ∷ qs) e = absurd (let z : false ≡ true = e in cc)

changed_some : (change : BoxRow → BoxRow) (at : Name → Option BoxRow) (n : Name) (old row : BoxRow) → at n ≡ Some old → changed_box (Some n) change at n ≡ Some row → row ≡ change old
changed_some change at n old row i e = some_value (sym e ∙ ap (λ (b : Bool). if b then option_map change (at n) else at n) (same_name-refl n) ∙ ap (option_map change) i)

-- so it has the ports that it had
module _ (t u : TableValue) (l : Label) (others : ℕ) (at : Option ℕ) (names : ℕ) (g n : Name) (old row : BoxRow) (home : home_in ((table_of t).goal_of g) ≡ Some n) (was : (table_of t).box_of n ≡ Some old) (now : (table_of u).box_of n ≡ Some row) where
  own_ports : (part : Part) → is_portless part.ports.items ≡ true → (with_part (store_at (table_of t) (Place.Goal g)) part).ports ≡ old.store.ports
  own_ports part e = ap (all_ports (store_at (table_of t) (Place.Goal g)).ports) (portless part e)
      ∙ ap (λ (o : Option Name). (store_in (option_and_then (table_of t).box_of o)).ports) home ∙ ap (λ (o : Option BoxRow). (store_in o).ports) was

  by_row : (change : BoxRow → BoxRow) → changed_box (home_in ((table_of t).goal_of g)) change (table_of t).box_of n ≡ Some row → row ≡ change old
  by_row change e = changed_some change (table_of t).box_of n old row was (sym (ap (λ (o : Option Name). changed_box o change (table_of t).box_of n) home) ∙ e)

  ports_by : (step : Step) → leaves_store step ≡ true → LeadsBy t (record l { place = Place.Goal g }) others at names step (table_of u) → row.store.ports ≡ old.store.ports
  ports_by (Step.Tell part solved) e x = ap (λ (r : BoxRow). r.store.ports) (by_row _ (sym (x.boxes n) ∙ now)) ∙ own_ports part e
  ports_by (Step.Join part solved goals told behind) e x = ap (λ (r : BoxRow). r.store.ports)
      (by_row (called_row g (with_part (store_at (table_of t) (Place.Goal g)) part) (solved_when at solved) (map (λ (y : Name × Goal). (y.0, goal_atom t.program.templates.nodes y.1)) goals.items) (x.promoted + told) (x.promoted + behind)) (still_there (alternatives_of ((table_of t).goal_of g)) (changed_box (home_in ((table_of t).goal_of g)) (called_row g (with_part (store_at (table_of t) (Place.Goal g)) part) (solved_when at solved) (map (λ (y : Name × Goal). (y.0, goal_atom t.program.templates.nodes y.1)) goals.items) (x.promoted + told) (x.promoted + behind)) (table_of t).box_of) n row (sym (x.table.boxes n) ∙ now))) ∙ own_ports part e
  ports_by (Step.Fork op alternatives) e x = absurd (let z : false ≡ true = e in cc)
  ports_by Step.Fail e x = absurd (let z : false ≡ true = e in cc)
  ports_by Step.Cut e x = absurd (let z : false ≡ true = e in cc)
  ports_by Step.Refute e x = absurd (let z : false ≡ true = e in cc)
  ports_by Step.Confirm e x = absurd (let z : false ≡ true = e in cc)
  ports_by (Step.Split copy copies) e x = absurd (let z : false ≡ true = e in cc)

module _ (t u : TableValue) (l : Label) (others : ℕ) (at : Option ℕ) (names : ℕ) (step : Step) (n : Name) (k : KeepsMark t l step u n) (leads : LeadsBy t l others at names step (table_of u)) where
  ports_kept : k.solved.row.store.ports ≡ k.home.row.store.ports
  ports_kept = ports_by t u l others at names k.goal n k.home.row k.solved.row k.home.home_is k.home.there k.solved.there step k.leaves
      (subst (λ (place : Place). LeadsBy t (record l { place = place }) others at names step (table_of u)) k.place leads)

-- no single label changes it
module _ (r s : Run) (t u : TableValue) (T : IsTableOf all_rules r (table_of t)) (U : IsTableOf all_rules s (table_of u)) (l : Label) (others : ℕ) (at : Option ℕ) (names : ℕ) (step : Step) (n : Name) (k : KeepsMark t l step u n)
    (leads : LeadsBy t l others at names step (table_of u)) (nodes : (table_of u).nodes ≡ (table_of t).nodes) where
  was : (f : Found) × (box_at n T.config.roots ≡ Some f) × IsBoxRow (table_of t) T.config.roots f k.home.row
  was = found_of (table_of t) T.config T.unfolds n k.home.row k.home.there

  now : (f : Found) × (box_at n U.config.roots ≡ Some f) × IsBoxRow (table_of u) U.config.roots f k.solved.row
  now = found s (table_of u) U n k.solved.row k.solved.there k.solved.root k.solved.at k.solved.solved

  pub store_left : Changes by_binding T.config U.config (Item.Store n) → ⊥
  unfolding now found
  store_left (inl p) = p (ap (option_map (λ (f : Found). f.content.ports)) was.1 ∙ ap Some (sym was.2.ports ∙ ap (ports_in (table_of t).nodes) (sym (ports_kept t u l others at names step n k leads))
      ∙ ap (λ (ns : List Node). ports_in ns k.solved.row.store.ports) (sym nodes) ∙ now.2.ports) ∙ sym (ap (option_map (λ (f : Found). f.content.ports)) now.1))
  store_left (inr z) = z.inconsistent (subst (λ (f : Found). IsConsistent (whole f)) (some_value (sym now.1 ∙ z.adds.is)) (root_consistent s (table_of u) U n k.solved.row k.solved.there k.solved.root k.solved.at k.solved.solved))
