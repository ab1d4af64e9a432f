-- What the functions that put nodes have put so far.
use Rattle.std.proofs.Common.{◌≡◌, ℕ, ℤ, suc, ◌+◌, ◌<◌, ◌≤◌, List, [], ◌∷◌, ◌++◌, length, slice_get, Some, codes, refl, sym, ap, subst, arith}
use Rattle.std.proofs.lemmas.List.{length-append}
use Rattle.akl_terms.specs.declared.term.Node.{Node}
use Rattle.akl_terms.specs.Template.{Template, IsAfter}
use Rattle.term_syntax.specs.Tree.{Tree, Trees, Tail, Step, no_tail, trees, steps}
use Rattle.term_syntax.specs.Tree as written
use Rattle.term_syntax.specs.Sizes.{tree_size, trees_size, tail_size, steps_size}
use Rattle.clause_store.specs.Plain.{Plain, compound, two, plain, plains, cells, plain_tail, from_left}
use Rattle.clause_store.specs.Standing.{Stands, stands_variable, stands_integer, stands_compound, stand_none, HasRoom, Gains, IsPut, IsEnd, ArePut}
use Rattle.clause_store.proofs.Growing.{extends_trans, symbol_stays, still_stands, Each, each_none, each_more, still_each, Interned, pushed, pushed_lengths, node_after, two_stand, at_group}
use Rattle.clause_store.proofs.Sums.{both, trees_sum, steps_sum}
use Rattle.clause_store.proofs.Room.{gains_none, gains_trans, gains_less, gains_symbol, gains_group, room_left}

-- ---- neighbours
-- the nodes of these terms wait to be pushed
pub record GroupSoFar (old new : Template) (group : List Node) (ts : List Tree) : Type 0 where
  pub each : Each new group (plains (trees ts))
  pub gains : Gains (trees_size (trees ts)) (length group) old new

each_push : {t : Template} {ns : List Node} {n : Node} (ts : List Tree) (s : Tree) → Each t ns (plains (trees ts)) → Stands t n (plain s) → Each t (ns ++ n ∷ []) (plains (trees (ts ++ s ∷ [])))
each_push [] s each_none p = each_more p each_none
each_push (t ∷ ts) s (each_more q r) p = each_more q (each_push ts s r p)

pub group_start : (t : Template) → GroupSoFar t t [] []
group_start t = record { each = each_none; gains = gains_none t }

pub group_more : {old mid new : Template} {group : List Node} {ts : List Tree} {n : Node} {s : Tree} → GroupSoFar old mid group ts → IsPut mid new n s → GroupSoFar old new (group ++ n ∷ []) (ts ++ s ∷ [])
group_more {old} {mid} {new} {group} {ts} {n} {s} h p = record {
  each = each_push ts s (still_each p.gains.extends h.each) p.stands;
  gains =
      let g = gains_trans h.gains p.gains in
      record { extends = g.extends; nodes = omega (arith, g.nodes, both trees_sum ts (s ∷ []), length-append group (n ∷ [])); symbols = omega (arith, g.symbols, both trees_sum ts (s ∷ []), length-append group (n ∷ [])) };
}

pub group_room : {old mid : Template} {group : List Node} {ts : List Tree} {n k : ℕ} → HasRoom old n → GroupSoFar old mid group ts → trees_size (trees ts) + k ≤ n → HasRoom mid k
group_room r h l = room_left r h.gains l

pub group_length : {t : Template} {ns : List Node} (ts : List Tree) → Each t ns (plains (trees ts)) → length ns ≡ length ts
group_length [] each_none = refl
group_length (t ∷ ts) (each_more p q) = ap suc (group_length ts q)

pub group_put : {old mid new : Template} {group : List Node} {ts : List Tree} {first count : ℕ} → GroupSoFar old mid group ts → first ≡ length mid.nodes → count ≡ length group → new ≡ record mid { nodes = mid.nodes ++ group } → ArePut old new first count (trees ts)
group_put {old} {mid} {new} {group} {ts} h ef ec e = record {
  stand = rw (ef, ec) (at_group new mid.nodes (ap (λ (z : Template). z.nodes) e) (still_each (pushed mid new group e) h.each));
  gains = gains_group group (gains_less (omega arith) (omega arith) h.gains) e;
}

-- the room for two operands beside what was put
pub pair_room : {t u : Template} {n : Node} {s : Tree} → HasRoom t (tree_size s) → IsPut t u n s → length u.nodes + 2 < 4294967296
pair_room r p = omega (arith, r.nodes, p.gains.nodes)

-- ---- a chain
pub record ChainSoFar (old new : Template) (node : Node) (first : Tree) (ss : List Step) : Type 0 where
  pub stands : Stands new node (from_left (plain first) (steps ss))
  pub gains : Gains (tree_size first + steps_size (steps ss)) 2 old new

from_left-more : (left : Plain) (ss : List Step) (s : Step) → from_left left (steps (ss ++ s ∷ [])) ≡ compound s.symbol (two (from_left left (steps ss)) (plain s.right))
from_left-more left [] s = refl
from_left-more left (x ∷ ss) s = from_left-more (compound x.symbol (two left (plain x.right))) ss s

pub chain_start : {old new : Template} {node : Node} {first : Tree} → IsPut old new node first → ChainSoFar old new node first []
chain_start p = record { stands = p.stands; gains = gains_less (omega arith) (omega arith) p.gains }

pub symbol_room : {old mid : Template} {node : Node} {first : Tree} {ss : List Step} {n : ℕ} → HasRoom old n → ChainSoFar old mid node first ss → tree_size first + steps_size (steps ss) ≤ n → length mid.symbols < 4294967295
symbol_room r h l = omega (arith, r.symbols, h.gains.symbols)

pub right_room : {old mid u : Template} {node : Node} {first : Tree} {ss : List Step} {w : List ℕ} {n k symbol : ℕ} → HasRoom old n → ChainSoFar old mid node first ss → Interned mid u w symbol → tree_size first + (steps_size (steps ss) + k) ≤ n → HasRoom u k
right_room r h i l = record { nodes = omega (arith, r.nodes, h.gains.nodes, i.nodes); symbols = omega (arith, r.symbols, h.gains.symbols, i.symbols) }

-- the left operand may be put behind the right one
pub left_after : {old mid u v : Template} {node n : Node} {first : Tree} {ss : List Step} {w : List ℕ} {symbol : ℕ} {t : Tree} → ChainSoFar old mid node first ss → Interned mid u w symbol → IsPut u v n t → IsAfter v node
left_after {node = node} h i p = node_after node (still_stands (extends_trans i.extends p.gains.extends) h.stands)

-- an operator's symbol, the right operand, and the symbol over both
pub chain_more : {old mid with_symbol with_right new : Template} {node right n : Node} {symbol : ℕ} {first : Tree} {ss : List Step} (s : Step) → ChainSoFar old mid node first ss → Interned mid with_symbol s.symbol symbol
    → IsPut with_symbol with_right right s.right → n ≡ Node.Struct symbol (length with_right.nodes) 2 → new ≡ record with_right { nodes = with_right.nodes ++ node ∷ right ∷ [] } → ChainSoFar old new n first (ss ++ s ∷ [])
chain_more {old} {mid} {with_symbol} {with_right} {new} {node} {right} {n} {symbol} {first} {ss} s h i p e m = record {
  stands = subst (λ (z : Plain). Stands new n z) (sym (from_left-more (plain first) ss s))
      (two_stand m e (symbol_stays p.gains.extends symbol s.symbol i.there) (still_stands (extends_trans i.extends p.gains.extends) h.stands) p.stands);
  gains =
      let l = pushed_lengths with_right new (node ∷ right ∷ []) m in
      let more : steps_size (steps (ss ++ s ∷ [])) ≡ steps_size (steps ss) + (tree_size s.right + 0) = both steps_sum ss (s ∷ []) in
      record {
        extends = extends_trans h.gains.extends (extends_trans i.extends (extends_trans p.gains.extends (pushed with_right new (node ∷ right ∷ []) m)));
        nodes = omega (arith, h.gains.nodes, i.nodes, p.gains.nodes, l.0, more);
        symbols = omega (arith, h.gains.symbols, i.symbols, p.gains.symbols, l.1, more);
      };
}

-- ---- a list
-- the items from one on, and what is behind the last
pub record ListSoFar (old new : Template) (symbol : ℕ) (node : Node) (ts : List Tree) (e : Tail) : Type 0 where
  pub symbol_is : slice_get new.symbols symbol ≡ Some (codes ".")
  pub stands : Stands new node (cells (trees ts) (plain_tail e))
  pub gains : Gains (suc (trees_size (trees ts) + tail_size e)) 2 old new

pub list_start : {old mid new : Template} {node : Node} {symbol : ℕ} {e : Tail} → IsEnd old mid node e → Interned mid new (codes ".") symbol → ListSoFar old new symbol node [] e
list_start p i = record {
  symbol_is = i.there;
  stands = still_stands i.extends p.stands;
  gains = record { extends = extends_trans p.gains.extends i.extends; nodes = omega (arith, p.gains.nodes, i.nodes); symbols = omega (arith, p.gains.symbols, i.symbols) };
}

pub list_more : {old mid with_item new : Template} {symbol : ℕ} {node item n : Node} {ts : List Tree} {e : Tail} (t : Tree) → ListSoFar old mid symbol node ts e → IsPut mid with_item item t
    → n ≡ Node.Struct symbol (length with_item.nodes) 2 → new ≡ record with_item { nodes = with_item.nodes ++ item ∷ node ∷ [] } → ListSoFar old new symbol n (t ∷ ts) e
list_more {old} {mid} {with_item} {new} {symbol} {node} {item} t h p e m =
    let g = pushed with_item new (item ∷ node ∷ []) m in
    let l = pushed_lengths with_item new (item ∷ node ∷ []) m in
    let there : slice_get with_item.symbols symbol ≡ Some (codes ".") = symbol_stays p.gains.extends symbol (codes ".") h.symbol_is in
    record {
      symbol_is = symbol_stays g symbol (codes ".") there;
      stands = two_stand m e there p.stands (still_stands p.gains.extends h.stands);
      gains = record {
        extends = extends_trans h.gains.extends (extends_trans p.gains.extends g);
        nodes = omega (arith, h.gains.nodes, p.gains.nodes, l.0);
        symbols = omega (arith, h.gains.symbols, p.gains.symbols, l.1);
      };
    }

pub list_room : {old mid : Template} {symbol n k : ℕ} {node : Node} {ts : List Tree} {e : Tail} → HasRoom old n → ListSoFar old mid symbol node ts e → suc (trees_size (trees ts) + tail_size e + k) ≤ n → HasRoom mid k
list_room r h l = room_left r h.gains (omega arith)

-- what is behind an item may be put behind it
pub rest_after : {old mid u : Template} {symbol : ℕ} {node n : Node} {ts : List Tree} {e : Tail} {t : Tree} → ListSoFar old mid symbol node ts e → IsPut mid u n t → IsAfter u node
rest_after {node = node} h p = node_after node (still_stands p.gains.extends h.stands)

pub list_put : {old new : Template} {symbol : ℕ} {node : Node} {ts : List Tree} {e : Tail} → ListSoFar old new symbol node ts e → IsPut old new node (written.list (trees ts) e)
list_put h = record { stands = h.stands; gains = h.gains }

pub chain_put : {old new : Template} {node : Node} {first : Tree} {ss : List Step} → ChainSoFar old new node first ss → IsPut old new node (written.chain first (steps ss))
chain_put h = record { stands = h.stands; gains = gains_less (omega arith) (omega arith) h.gains }

pub empty_end : {old new : Template} {n : ℕ} → Interned old new (codes "[]") n → IsEnd old new (Node.Struct n 0 0) no_tail
empty_end i = record { stands = stands_compound i.there (stand_none (omega arith)); gains = gains_symbol i }

-- ---- one term
pub variable_put : (t : Template) (n : ℕ) → IsPut t t (Node.Var n) (written.variable n)
variable_put t n = record { stands = stands_variable; gains = gains_less (omega arith) (omega arith) (gains_none t) }

pub integer_put : (t : Template) (z : ℤ) → IsPut t t (Node.Int z) (written.integer z)
integer_put t z = record { stands = stands_integer; gains = gains_less (omega arith) (omega arith) (gains_none t) }

pub compound_put : {old mid new : Template} {w : List ℕ} {symbol first count : ℕ} {ts : Trees} → Interned old mid w symbol → ArePut mid new first count ts → IsPut old new (Node.Struct symbol first count) (written.compound w ts)
compound_put {w = w} {symbol = symbol} i p = record {
  stands = stands_compound (symbol_stays p.gains.extends symbol w i.there) p.stand;
  gains = gains_less (omega arith) (omega arith) (gains_trans (gains_symbol i) p.gains);
}

pub arguments_room : {old mid : Template} {w : List ℕ} {symbol : ℕ} (ts : Trees) → HasRoom old (tree_size (written.compound w ts)) → Interned old mid w symbol → HasRoom mid (trees_size ts)
arguments_room ts r i = record { nodes = omega (arith, r.nodes, i.nodes); symbols = omega (arith, r.symbols, i.symbols) }
