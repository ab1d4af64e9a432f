-- How the number of what is called is kept beside the list of all.
use Rattle.std.specs.Prelude.{◌≡◌, ◌≤◌, ℕ, List, length, slice_get, Option, Some}
use Rattle.std.specs.declared.cmp.Ordering.{Ordering}
use Rattle.std.specs.Ordering.{nat_cmp, ordering_then}
use Rattle.std.specs.BTreeMap.{get}
use Rattle.clause_keys.specs.declared.callee.Callee.{Callee}
use Rattle.clause_keys.specs.declared.callee.Callee.TheVariants.{Lifted, Collecting}
use Rattle.clause_keys.specs.declared.callees.Callees.TheInside.{Inside}
use Rattle.clause_keys.specs.Keys.{named}

abbrev pub pair_cmp : ℕ × ℕ → ℕ × ℕ → Ordering
pair_cmp x y = ordering_then (nat_cmp x.0 y.0) (nat_cmp x.1 y.1)

-- the entry of a symbol with so many arguments has this number, and the symbol is that of the text
pub record IsEntry (t : Inside) (text : List ℕ) (arity symbol d : ℕ) : Type 0 where
  pub symbol_is : slice_get t.symbols.symbols symbol ≡ Some text
  pub entry : get pair_cmp t.named (symbol, arity) ≡ Some d

-- the number is the place of a symbol's text with so many arguments
pub record IsPlace (t : Inside) (symbol arity d : ℕ) : Type 0 where
  pub text : List ℕ
  pub symbol_is : slice_get t.symbols.symbols symbol ≡ Some text
  pub there : slice_get t.list.items d ≡ Some (named text arity)

-- each entry of a map has its place in the list, and each place of a callee of this kind its entry
pub record IsMapOf (kind : ℕ → ℕ → Callee) (find : ℕ × ℕ → Option ℕ) (list : List Callee) : Type 0 where
  pub place : (number arity d : ℕ) → find (number, arity) ≡ Some d → slice_get list d ≡ Some (kind number arity)
  pub entry : (number arity d : ℕ) → slice_get list d ≡ Some (kind number arity) → find (number, arity) ≡ Some d

-- each entry of the maps has its place in the list, and each place of the list its entry
pub record IsIndexed (t : Inside) : Type 0 where
  pub small : length t.list.items ≤ 4294967295
  pub place : (symbol arity d : ℕ) → get pair_cmp t.named (symbol, arity) ≡ Some d → IsPlace t symbol arity d
  pub entry : (text : List ℕ) (arity d : ℕ) → slice_get t.list.items d ≡ Some (named text arity) → (symbol : ℕ) × IsEntry t text arity symbol d
  pub lifted : IsMapOf Lifted (get pair_cmp t.lifted) t.list.items
  pub collecting : IsMapOf Collecting (get pair_cmp t.collecting) t.list.items
