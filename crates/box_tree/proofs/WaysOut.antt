-- The way from a box out to its root box, box by box.
use Rattle.std.proofs.Common.{◌≡◌, ◌+◌, ◌<◌, List, [], ◌∷◌, ◌++◌, length, reverse, Option, Some, None, refl, sym, ap, subst, ◌∙◌, arith, append-nil}
use Rattle.std.proofs.lemmas.List.{length-append, reverse-append}
use Rattle.akl_terms.specs.declared.name.Name.{Name}
use Rattle.akl_model.proofs.Options.{some_value}
use Rattle.local_store.specs.Stored.{Stored}
use Rattle.std.specs.Prelude.{option_map}
use Rattle.std.specs.Map.{lookup}
use Rattle.akl_terms.specs.Names.{same_name}
use Rattle.table_laws.specs.Writes.{holder_in_row}
use Rattle.box_tree.specs.declared.entries.BoxEntry.{BoxEntry}
use Rattle.table_laws.specs.Rows.{BoxRow, Table, store_in, stores_along}
use Rattle.box_tree.specs.declared.way.Way.{Way}
use Rattle.box_tree.specs.Tables.{TableValue, table_of, box_row}
use Rattle.box_tree.specs.Paths.{home_at, outside_of, Deep, HasPath, solving_in}
use Rattle.box_tree.specs.Ways.{Begins, Passes, IsWay}
use Rattle.box_tree.proofs.Looks.{last_end, stores_append}

-- a box, if there is one, and those around it, innermost first
abbrev pub Outward : Table → Option Name → List Name → Type 0
Outward T o [] = o ≡ None
Outward T o (m ∷ ms) = (o ≡ Some m) × Outward T (outside_of T m) ms

outward : (T : Table) (n : Name) (ms : List Name) → Deep T n ms → Outward T (outside_of T n) ms
outward T n [] d = d
outward T n (m ∷ ms) d = (d.0, outward T m ms d.1)

stores_reverse : (T : Table) (ns : List Name) → reverse (stores_along T ns) ≡ stores_along T (reverse ns)
stores_reverse T [] = refl
stores_reverse T (n ∷ ns) =
    reverse-append (store_in (T.box_of n) ∷ []) (stores_along T ns) ∙ ap (λ (ss : List Stored). ss ++ store_in (T.box_of n) ∷ []) (stores_reverse T ns)
    ∙ sym (ap (stores_along T) (reverse-append (n ∷ []) ns) ∙ stores_append T (reverse ns) (n ∷ []))

-- the boxes that were passed, innermost first, and those that are still around
pub record HasPassed (t : TableValue) (n : Name) (at : Option Name) (w : Way) : Type 0 where
  pub rest : List Name
  pub left : Outward (table_of t) at rest
  pub around : List Name
  pub deep : Deep (table_of t) n around
  pub parts : n ∷ around ≡ w.path.items ++ rest
  pub few : length w.path.items + length rest < length t.boxes + 1
  pub stores : w.stores.items ≡ stores_along (table_of t) w.path.items
  pub last : (m : Name) (ms : List Name) → reverse w.path.items ≡ m ∷ ms → w.solving ≡ solving_in ((table_of t).box_of m)

way_begin : (t : TableValue) (n : Name) (w : Way) → w.path.items ≡ [] → w.stores.items ≡ [] → HasPath t n → HasPassed t n (Some n) w
way_begin t n w p s h =
    let l : length h.0 < length t.boxes = h.2 in
    let none : length w.path.items ≡ 0 = ap length p in
    let whole : n ∷ h.0 ≡ w.path.items ++ n ∷ h.0 = ap (λ (ns : List Name). ns ++ n ∷ h.0) (sym p) in
    record {
      rest = n ∷ h.0;
      left = (refl, outward (table_of t) n h.0 h.1);
      around = h.0;
      deep = h.1;
      parts = whole;
      few = omega arith;
      stores = s ∙ sym (ap (stores_along (table_of t)) p);
      last = λ m ms e. let z : reverse w.path.items ≡ [] = ap reverse p in absurd (cc (sym z ∙ e));
    }

module _ (t : TableValue) (n at : Name) (before now : Way) (outside : Option Name) (p : Passes (table_of t) at before outside now) where
  module _ (h : HasPassed t n (Some at) before) where
    longer : length now.path.items ≡ length before.path.items + 1
    longer = ap length p.path ∙ length-append before.path.items (at ∷ [])

    turned : reverse now.path.items ≡ at ∷ reverse before.path.items
    turned = ap reverse p.path ∙ reverse-append before.path.items (at ∷ [])

    pub way_step : HasPassed t n outside now × (length before.path.items < length t.boxes)
    way_step = on h.rest h.left h.parts h.few
      where
        on : (rest : List Name) → Outward (table_of t) (Some at) rest → n ∷ h.around ≡ before.path.items ++ rest → length before.path.items + length rest < length t.boxes + 1
            → HasPassed t n outside now × (length before.path.items < length t.boxes)
        on [] l q f = absurd (cc l)
        on (m ∷ ms) l q f =
            let same : at ≡ m = some_value l.0 in
            let more : length now.path.items ≡ length before.path.items + 1 = longer in (
              record {
                rest = ms;
                left = subst (λ (o : Option Name). Outward (table_of t) o ms) (sym (p.around ∙ ap (outside_of (table_of t)) same)) l.1;
                around = h.around;
                deep = h.deep;
                parts = q ∙ ap (λ (x : Name). before.path.items ++ x ∷ ms) (sym same) ∙ last_end before.path.items ms at ∙ ap (λ (ns : List Name). ns ++ ms) (sym p.path);
                few = omega arith;
                stores = p.stores ∙ ap (λ (ss : List Stored). ss ++ store_in ((table_of t).box_of at) ∷ []) h.stores
                    ∙ sym (ap (stores_along (table_of t)) p.path ∙ stores_append (table_of t) before.path.items (at ∷ []));
                last = λ k ks e. let z : k ≡ at = cc (sym e ∙ turned) in p.solving ∙ ap (λ (x : Name). solving_in ((table_of t).box_of x)) (sym z);
              },
              omega arith,
            )

-- the first box was passed
pub way_first : (t : TableValue) (n : Name) (e : BoxEntry) (outside : Option Name) (w : Way) → HasPath t n → lookup (same_name n) t.boxes ≡ Some e → Begins n (box_row t.program.templates.nodes e) w → outside ≡ home_at (table_of t) e.holder
    → HasPassed t n outside w
way_first t n e outside w h there b around =
    let row : (table_of t).box_of n ≡ Some (box_row t.program.templates.nodes e) = ap (option_map (box_row t.program.templates.nodes)) there in
    (way_step t n n none w outside (record {
      path = b.path;
      stores = b.stores ∙ sym (ap (λ (o : Option BoxRow). store_in o ∷ []) row);
      solving = b.solving ∙ sym (ap solving_in row);
      around = around ∙ sym (ap (λ (o : Option BoxRow). home_at (table_of t) (holder_in_row o)) row);
    }) (way_begin t n none refl refl h)).0
  where
    none : Way
    none = record { path = record { items = [] }; stores = record { items = [] }; solving = (None, 0) }

pub way_end : (t : TableValue) (n : Name) (before now : Way) → HasPassed t n None before → now.path.items ≡ reverse before.path.items → now.stores.items ≡ reverse before.stores.items → now.solving ≡ before.solving → IsWay (table_of t) n now
way_end t n before now h p s v = on h.rest h.left h.parts
  where
    on : (rest : List Name) → Outward (table_of t) None rest → n ∷ h.around ≡ before.path.items ++ rest → IsWay (table_of t) n now
    on [] l q = record {
      path = (h.around, h.deep, p ∙ ap reverse (sym (q ∙ append-nil before.path.items)));
      stores = s ∙ ap reverse h.stores ∙ stores_reverse (table_of t) before.path.items ∙ ap (stores_along (table_of t)) (sym p);
      outermost = λ m ms e. v ∙ h.last m ms (sym p ∙ e);
    }
    on (m ∷ ms) l q = absurd (cc l.0)
