-- The stores down to a box that are known to be solved together.
use Rattle.std.proofs.Common.{◌≡◌, ◌<◌, ◌≤◌, List, ◌∷◌, length, reverse, Option, Some, None, refl, sym, ap, subst, ◌∙◌, arith}
use Rattle.std.specs.Prelude.{option_map, IsSome}
use Rattle.std.specs.Map.{lookup}
use Rattle.akl_terms.specs.declared.name.Name.{Name}
use Rattle.akl_terms.specs.Names.{same_name}
use Rattle.akl_model.specs.Config.{Found, box_at}
use Rattle.akl_model.specs.Wakes.{names_down_to}
use Rattle.akl_model.proofs.Finds.{times}
use Rattle.akl_model.proofs.NamesKept.{Stand, replay-stands}
use Rattle.akl_model.proofs.ScopesKept.{around_outside}
use Rattle.local_store.specs.Chained.{IsKnown, IsSolvedChain}
use Rattle.rational_unify.proofs.Taking.{take-all}
use Rattle.table_laws.specs.Rows.{BoxRow, stores_along}
use Rattle.table_laws.specs.Unfolds.{IsBoxRow}
use Rattle.table_laws.specs.Stamped.{Run, IsTableOf}
use Rattle.table_laws.proofs.Frame.{found_of}
use Rattle.box_tree.specs.declared.entries.BoxEntry.{BoxEntry}
use Rattle.box_tree.specs.Tables.{all_rules, TableValue, table_of, box_row}
use Rattle.box_tree.specs.Paths.{IsPath, HasPath, known_in}
use Rattle.box_tree.specs.Insides.{IsSolvedDownTo}
use Rattle.box_tree.proofs.Seen.{length_stores, PathOf, path_found, known_is, path_few, deep_one}

module _ (t : TableValue) (r : Run) (i : IsTableOf all_rules r (table_of t)) (n : Name) (entry : BoxEntry) (there : lookup (same_name n) t.boxes ≡ Some entry) where
  stand : Stand i.config
  stand = replay-stands all_rules r.program r.query r.journal i.config i.replays

  once : (m : Name) → times m i.config.roots ≤ 1
  once = stand.once

  found : (f : Found) × (box_at n i.config.roots ≡ Some f) × IsBoxRow (table_of t) i.config.roots f (box_row t.program.templates.nodes entry)
  found = found_of (table_of t) i.config i.unfolds n (box_row t.program.templates.nodes entry) (ap (option_map (box_row t.program.templates.nodes)) there)

  its_path : PathOf (table_of t) i.config i.unfolds once n found.0
  its_path = path_found (table_of t) i.config i.unfolds once (length found.0.around) n found.0 refl found.1

  has_entry : (m : Name) (row : BoxRow) → (table_of t).box_of m ≡ Some row → IsSome (lookup (same_name m) t.boxes)
  has_entry m row e = on (lookup (same_name m) t.boxes) e
    where
      on : (o : Option BoxEntry) → option_map (box_row t.program.templates.nodes) o ≡ Some row → IsSome o
      on None q = cc
      on (Some x) q = refl

  pub box_path : HasPath t n
  box_path =
      let few : length found.0.around < length t.boxes = path_few (table_of t) i.config i.unfolds once t.boxes has_entry n found.0 found.1 in
      let same : length its_path.0 ≡ length found.0.around = its_path.3 in
      (its_path.0, its_path.1, omega arith)

  down : (path : List Name) → IsPath (table_of t) n path → path ≡ names_down_to found.0
  down path p = p.2 ∙ ap (λ (ms : List Name). reverse (n ∷ ms)) (deep_one (table_of t) n p.0 its_path.0 p.1 its_path.1) ∙ sym its_path.2

  -- where all on a path are known to be, they are
  pub known_solved : (path : List Name) → IsPath (table_of t) n path → known_in (table_of t) 0 path ≡ length path → IsSolvedDownTo t n
  known_solved path p known = λ other q. subst (λ (ns : List Name). IsSolvedChain t.program.templates.nodes (stores_along (table_of t) ns)) (sym (down other q)) whole
    where
      names : List Name
      names = names_down_to found.0

      is_known : IsKnown t.program.templates.nodes (stores_along (table_of t) names) (known_in (table_of t) 0 names)
      is_known = known_is (table_of t) i.config i.unfolds stand (λ m f e. around_outside all_rules r.program r.query r.journal i.config m f i.replays e) n found.0 found.1

      all : length (stores_along (table_of t) names) ≡ known_in (table_of t) 0 names
      all = let e : known_in (table_of t) 0 names ≡ length names = subst (λ (ns : List Name). known_in (table_of t) 0 ns ≡ length ns) (down path p) known in length_stores (table_of t) names ∙ sym e

      whole : IsSolvedChain t.program.templates.nodes (stores_along (table_of t) names)
      whole = subst (IsSolvedChain t.program.templates.nodes) (take-all (stores_along (table_of t) names) (known_in (table_of t) 0 names) all) (is_known.each (known_in (table_of t) 0 names) (omega arith))
