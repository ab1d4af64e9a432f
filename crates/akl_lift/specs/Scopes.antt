-- What the functions of this crate promise each other about the variables of a clause. No public clause speaks of it.
use Rattle.std.specs.Prelude.{◌≡◌, ◌≤◌, ◌==◌, ◌&&◌, ◌+◌, ◌++◌, ℕ, Bool, true, Some, List, [], length, map, nat_eq, nat_lt}
use Rattle.std.specs.List.{count_by, filter}
use Rattle.std.specs.HashMap.{get, HashMap}
use Rattle.std.specs.Option.{unwrap_or}
use Rattle.akl_terms.specs.declared.program.Op.{Op}
use Rattle.akl_terms.specs.declared.program.Op.TheVariants as ops
use Rattle.term_syntax.specs.Tree.{Tree}
use Rattle.akl_syntax.specs.declared.source.Head.TheVariants as heads
use Rattle.akl_syntax.specs.Goals.{Goal, Goals, Part}
use Rattle.akl_syntax.specs.Clauses.{Clause}
use Rattle.akl_syntax.specs.Answers.{clauses_view}
use Rattle.akl_lift.specs.Lifting.{Origin, times, name_of, choices_in_all, without_all, made_all}
use Rattle.akl_lift.specs.Places.{placed_variable, placed_tree}
use Rattle.akl_lift.specs.Noting.{distinct}
use Rattle.akl_lift.specs.declared.scope.Scope.{Scope}
use Rattle.akl_lift.specs.declared.lifting.Origin as code
use Rattle.akl_lift.specs.declared.lifting.Made.{Made}

module _ {S : Type 0} where
  -- how often the number was counted
  abbrev pub count_in : HashMap ℕ ℕ S → ℕ → ℕ
  count_in m v = unwrap_or (get nat_eq m v) 0

  -- each number was counted as often as it stands in the list
  abbrev pub IsTally : List ℕ → HashMap ℕ ℕ S → Type 0
  IsTally ns m = (q : ℕ) → unwrap_or (get nat_eq m q) 0 ≡ count_by (λ n. n == q) ns

-- the variable is among these, and was counted twice or more
abbrev pub is_chosen : Scope → List ℕ → ℕ → Bool
is_chosen s inside v = nat_lt 0 (times v inside) && nat_lt 1 (count_in s.counts v)

-- such variables of the clause, in their order
abbrev pub chosen : Scope → List ℕ → List ℕ
chosen s inside = filter (is_chosen s inside) s.order.items

-- the arguments of what is lifted, by what was counted in its clause and what occurs inside
abbrev pub chosen_of : Scope → List ℕ → List ℕ
chosen_of s inside = chosen s (distinct inside)

-- the order isn't too long
pub record IsScope (s : Scope) : Type 0 where
  pub few : length s.order.items ≤ 4294967295

-- what is written in a clause from which others are made
abbrev pub origin_view : code.Origin → Origin
origin_view o = record { names = o.names.items; inside = o.inside; start = o.start }

abbrev pub definitions_view : Made → List (List Clause)
definitions_view m = map clauses_view m.definitions.items

-- a part lifted, of a clause whose variables have this order
abbrev pub part_without : List ℕ → (List ℕ → List ℕ) → ℕ → Goals → Op → Goals → Part
part_without order shares next gs op hs = record {
  guard = without_all order shares next gs;
  op = op;
  body = without_all order shares (next + choices_in_all gs) hs;
  is_written = true;
}

-- the definitions that are made of what is lifted in a guard and a body
abbrev pub made_by : Origin → (List ℕ → List ℕ) → ℕ → Goals → Goals → List (List Clause)
made_by w shares next gs hs = made_all w shares next gs ++ made_all w shares (next + choices_in_all gs) hs

-- the clause of a collecting goal, whose variables have this order, with these arguments and this guard
abbrev pub collecting : Origin → ℕ → List ℕ → List ℕ → Tree → List Goal → Clause
collecting w number order args t gs = record {
  head = heads.Lifted number w.inside;
  arguments = map (placed_variable order) args;
  part = record { guard = gs; op = ops.Collect; body = []; is_written = true };
  collected = Some (placed_tree order t);
  names = map (name_of w.names) order;
  start = w.start;
}
