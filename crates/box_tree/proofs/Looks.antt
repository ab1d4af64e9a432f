-- A climb from a box to its root box.
use Rattle.std.proofs.Common.{◌≡◌, ◌+◌, ◌<◌, List, [], ◌∷◌, ◌++◌, length, reverse, Option, Some, None, refl, sym, ap, subst, ◌∙◌, arith, append_assoc, append-nil}
use Rattle.std.proofs.lemmas.List.{length-append}
use Rattle.std.specs.Prelude.{option_map}
use Rattle.std.specs.Map.{lookup}
use Rattle.akl_terms.specs.declared.name.Name.{Name}
use Rattle.akl_model.proofs.Options.{some_value}
use Rattle.local_store.specs.Stored.{Stored}
use Rattle.table_laws.specs.Rows.{Table, store_in, stores_along}
use Rattle.table_laws.specs.Walks.{alternatives_in, alternatives_of}
use Rattle.akl_terms.specs.declared.name.Place.{Place}
use Rattle.akl_terms.specs.Names.{same_name}
use Rattle.box_tree.specs.declared.entries.BoxEntry.{BoxEntry}
use Rattle.box_tree.specs.declared.entries.GoalEntry.{GoalEntry}
use Rattle.box_tree.specs.declared.view.Sight.{Sight}
use Rattle.box_tree.specs.declared.standing.Standing.{Standing}
use Rattle.box_tree.specs.Tables.{TableValue, table_of, goal_row, shape_held}
use Rattle.box_tree.specs.Standings.{IsStandingAt}
use Rattle.box_tree.specs.Paths.{outside_of, Deep, HasPath, IsPath, sight_held, sight_in}

-- the names so far, innermost first, and those that are still around
pub record Climb (t : TableValue) (n at : Name) (names : List Name) : Type 0 where
  pub rest : List Name
  pub deep : Deep (table_of t) at rest
  pub all : List Name
  pub whole : Deep (table_of t) n all
  pub parts : n ∷ all ≡ names ++ rest
  pub few : length names + length rest < length t.boxes + 1

pub climb_begin : (t : TableValue) (n : Name) → HasPath t n → Climb t n n (n ∷ [])
climb_begin t n h = let l : length h.0 < length t.boxes = h.2 in record { rest = h.0; deep = h.1; all = h.0; whole = h.1; parts = refl; few = omega arith }

pub last_end : (xs ys : List Name) (y : Name) → xs ++ y ∷ ys ≡ (xs ++ y ∷ []) ++ ys
last_end xs ys y = sym (append_assoc xs (y ∷ []) ys)

pub climb_step : (t : TableValue) (n at home : Name) (names : List Name) → Climb t n at names → Some home ≡ outside_of (table_of t) at → Climb t n home (names ++ home ∷ []) × (length names < length t.boxes)
climb_step t n at home names c e = on c.rest c.deep c.parts c.few
  where
    on : (rest : List Name) → Deep (table_of t) at rest → n ∷ c.all ≡ names ++ rest → length names + length rest < length t.boxes + 1 → Climb t n home (names ++ home ∷ []) × (length names < length t.boxes)
    on [] d p l = let z : Some home ≡ None = e ∙ d in absurd cc
    on (m ∷ ms) d p l =
        let q : home ≡ m = some_value (e ∙ d.0) in
        let a : length (names ++ home ∷ []) ≡ length names + length (home ∷ []) = length-append names (home ∷ []) in (
          record {
            rest = ms;
            deep = subst (λ (x : Name). Deep (table_of t) x ms) (sym q) d.1;
            all = c.all;
            whole = c.whole;
            parts = p ∙ ap (λ (x : Name). names ++ x ∷ ms) (sym q) ∙ last_end names ms home;
            few = omega arith;
          },
          omega arith,
        )

pub climb_end : (t : TableValue) (n at : Name) (names path : List Name) → Climb t n at names → None ≡ outside_of (table_of t) at → path ≡ reverse names → IsPath (table_of t) n path
climb_end t n at names path c e r = on c.rest c.deep c.parts
  where
    on : (rest : List Name) → Deep (table_of t) at rest → n ∷ c.all ≡ names ++ rest → IsPath (table_of t) n path
    on [] d p = (c.all, c.whole, r ∙ ap reverse (sym (p ∙ append-nil names)))
    on (m ∷ ms) d p = let z : None ≡ Some m = e ∙ d.0 in absurd cc

module _ (t : TableValue) (n : Name) where
  pub goal_sight : (e : GoalEntry) (s : Sight) → s ≡ sight_held e.held → lookup (same_name n) t.goals ≡ Some e → Some (e.home, s) ≡ sight_in t (Place.Goal n)
  goal_sight e s q i = ap (λ (x : Sight). Some (e.home, x)) q ∙ sym (ap (option_map (λ (e : GoalEntry). (e.home, sight_held e.held))) i)

  pub box_sight : (e : BoxEntry) → lookup (same_name n) t.boxes ≡ Some e → Some (n, Sight.Box e.failing) ≡ sight_in t (Place.Box n)
  box_sight e i = sym (ap (option_map (λ (e : BoxEntry). (n, Sight.Box e.failing))) i)

-- a goal stands in its box
pub goal_standing : (t : TableValue) (n : Name) (e : GoalEntry) (s : Standing) → lookup (same_name n) t.goals ≡ Some e → s.sight ≡ sight_held e.held → lookup (same_name s.home) t.boxes ≡ Some s.entry.now → s.home ≡ e.home
    → s.alternatives.now ≡ alternatives_in (shape_held t.program.templates.nodes e.held) → IsStandingAt t (Place.Goal n) s
goal_standing t n e s there sight home named names = record {
  sight = sym (goal_sight t n e s.sight sight there) ∙ ap (λ (h : Name). Some (h, s.sight)) (sym named);
  entry = home;
  alternatives = names ∙ sym (ap (λ (o : Option GoalEntry). alternatives_of (option_map (goal_row t.program.templates.nodes) o)) there);
}

-- stores along a path

pub stores_append : (T : Table) (xs ys : List Name) → stores_along T (xs ++ ys) ≡ stores_along T xs ++ stores_along T ys
stores_append T [] ys = refl
stores_append T (x ∷ xs) ys = ap (λ (ss : List Stored). store_in (T.box_of x) ∷ ss) (stores_append T xs ys)
