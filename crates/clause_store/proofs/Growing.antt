-- Templates that grow keep what their nodes stand for.
use Rattle.std.proofs.Common.{◌≡◌, ℕ, zero, suc, ◌+◌, ◌≤◌, List, [], ◌∷◌, ◌++◌, length, slice_get, Some, refl, sym, ap, subst, ◌∙◌, arith, append_assoc}
use Rattle.std.specs.Prelude.{All}
use Rattle.std.proofs.lemmas.List.{append-nil, length-append}
use Rattle.std.proofs.lemmas.Option.{slice_get_within}
use Rattle.akl_terms.specs.declared.term.Node.{Node}
use Rattle.akl_terms.specs.Template.{Template, IsAfter, Interns, known, appended}
use Rattle.akl_terms.proofs.Numbering.{slice_get-front, slice_get-behind}
use Rattle.clause_store.specs.Plain.{Plain, Plains, compound, no_plains, more_plains, two}
use Rattle.clause_store.specs.Nodes.{Extends}
use Rattle.clause_store.specs.Standing.{Stands, stands_variable, stands_integer, stands_compound, StandAt, stand_none, stand_more}

pub extends_none : (t : Template) → Extends t t
extends_none t = record { nodes = []; symbols = []; nodes_are = sym (append-nil t.nodes); symbols_are = sym (append-nil t.symbols) }

pub extends_trans : {t u v : Template} → Extends t u → Extends u v → Extends t v
extends_trans {t} {u} {v} g h = record {
  nodes = g.nodes ++ h.nodes;
  symbols = g.symbols ++ h.symbols;
  nodes_are = h.nodes_are ∙ ap (λ (z : List Node). z ++ h.nodes) g.nodes_are ∙ append_assoc t.nodes g.nodes h.nodes;
  symbols_are = h.symbols_are ∙ ap (λ (z : List (List ℕ)). z ++ h.symbols) g.symbols_are ∙ append_assoc t.symbols g.symbols h.symbols;
}

pub node_stays : {t u : Template} → Extends t u → (i : ℕ) (n : Node) → slice_get t.nodes i ≡ Some n → slice_get u.nodes i ≡ Some n
node_stays {t} {u} g i n e = subst (λ (z : List Node). slice_get z i ≡ Some n) (sym g.nodes_are) (slice_get-front t.nodes g.nodes i n e)

pub symbol_stays : {t u : Template} → Extends t u → (i : ℕ) (w : List ℕ) → slice_get t.symbols i ≡ Some w → slice_get u.symbols i ≡ Some w
symbol_stays {t} {u} g i w e = subst (λ (z : List (List ℕ)). slice_get z i ≡ Some w) (sym g.symbols_are) (slice_get-front t.symbols g.symbols i w e)

nodes_more : {t u : Template} → Extends t u → length t.nodes ≤ length u.nodes
nodes_more {t} {u} g = omega (arith, ap length g.nodes_are, length-append t.nodes g.nodes)

mutual
  pub still_stands : {t u : Template} {n : Node} {p : Plain} → Extends t u → Stands t n p → Stands u n p
  still_stands g stands_variable = stands_variable
  still_stands g stands_integer = stands_integer
  still_stands g (stands_compound e p) = stands_compound (symbol_stays g _ _ e) (still_at g p)

  pub still_at : {t u : Template} {first count : ℕ} {ps : Plains} → Extends t u → StandAt t first count ps → StandAt u first count ps
  still_at g (stand_none h) = stand_none (omega (arith, nodes_more g))
  still_at g (stand_more e p q) = stand_more (node_stays g _ _ e) (still_stands g p) (still_at g q)

-- nodes stand for plain terms, one for one
pub data Each (t : Template) : List Node → Plains → Type 0 where
  each_none : Each t [] no_plains
  each_more : {n : Node} {p : Plain} {ns : List Node} {ps : Plains} → Stands t n p → Each t ns ps → Each t (n ∷ ns) (more_plains p ps)

pub still_each : {t u : Template} {ns : List Node} {ps : Plains} → Extends t u → Each t ns ps → Each u ns ps
still_each g each_none = each_none
still_each g (each_more p q) = each_more (still_stands g p) (still_each g q)

-- ---- a group of nodes behind the others
node_behind : (xs ys : List Node) (n : Node) → slice_get (xs ++ n ∷ ys) (length xs) ≡ Some n
node_behind [] ys n = refl
node_behind (x ∷ xs) ys n = node_behind xs ys n

pub at_group : (u : Template) {ns : List Node} {ps : Plains} (front : List Node) → u.nodes ≡ front ++ ns → Each u ns ps → StandAt u (length front) (length ns) ps
at_group u front e each_none = stand_none (omega (arith, ap length e, length-append front []))
at_group u front e (each_more {n = n} {ns = ns} {ps = ps} p q) =
    let one : List Node = n ∷ [] in
    let next : u.nodes ≡ (front ++ one) ++ ns = e ∙ sym (append_assoc front one ns) in
    let len : length (front ++ one) ≡ suc (length front) = omega (arith, length-append front one) in
    let there : slice_get u.nodes (length front) ≡ Some n = subst (λ (z : List Node). slice_get z (length front) ≡ Some n) (sym e) (node_behind front ns n) in
    stand_more there p (subst (λ (k : ℕ). StandAt u k (length ns) ps) len (at_group u (front ++ one) next q))

at_within : {t : Template} {first count : ℕ} {ps : Plains} → StandAt t first count ps → first + count ≤ length t.nodes
at_within (stand_none h) = omega arith
at_within (stand_more e p q) = omega (arith, at_within q)

pub node_after : {t : Template} (n : Node) {p : Plain} → Stands t n p → IsAfter t n
node_after (Node.Var i) p = tt
node_after (Node.Int z) p = tt
node_after {t} (Node.Struct s first count) (stands_compound {w = w} e p) = (at_within p, slice_get_within t.symbols s w e)

pub each_after : {t : Template} (ns : List Node) {ps : Plains} → Each t ns ps → All (IsAfter t) ns
each_after [] p k d h = absurd (omega arith)
each_after (n ∷ ns) (each_more p q) zero d h = node_after n p
each_after (n ∷ ns) (each_more p q) (suc k) d h = each_after ns q k d (omega arith)

-- ---- what interning and pushing do
pub record Interned (old new : Template) (w : List ℕ) (n : ℕ) : Type 0 where
  pub extends : Extends old new
  pub there : slice_get new.symbols n ≡ Some w
  pub nodes : length new.nodes ≡ length old.nodes
  pub symbols : length new.symbols ≤ length old.symbols + 1

with_symbol : (old : Template) (w : List ℕ) (n : ℕ) → n ≡ length old.symbols → Interned old (record old { symbols = old.symbols ++ w ∷ [] }) w n
with_symbol old w n e = record {
  extends = record { nodes = []; symbols = w ∷ []; nodes_are = sym (append-nil old.nodes); symbols_are = refl };
  there = subst (λ (k : ℕ). slice_get (old.symbols ++ w ∷ []) k ≡ Some w) (sym e) (slice_get-behind old.symbols w);
  nodes = refl;
  symbols = omega (arith, length-append old.symbols (w ∷ []));
}

pub interned : (old new : Template) (w : List ℕ) (n : ℕ) → Interns old new w n → Interned old new w n
interned old new w n (known e same) = subst (λ (z : Template). Interned old z w n) (sym same) (record { extends = extends_none old; there = e; nodes = refl; symbols = omega arith })
interned old new w n (appended absent p) = subst (λ (z : Template). Interned old z w n) (sym p.symbols) (with_symbol old w n p.next)

pub pushed : (old new : Template) (group : List Node) → new ≡ record old { nodes = old.nodes ++ group } → Extends old new
pushed old new group e = record {
  nodes = group;
  symbols = [];
  nodes_are = ap (λ (z : Template). z.nodes) e;
  symbols_are = ap (λ (z : Template). z.symbols) e ∙ sym (append-nil old.symbols);
}

pub pushed_lengths : (old new : Template) (group : List Node) → new ≡ record old { nodes = old.nodes ++ group } → (length new.nodes ≡ length old.nodes + length group) × (length new.symbols ≡ length old.symbols)
pushed_lengths old new group e = (ap (λ (z : Template). length z.nodes) e ∙ length-append old.nodes group, ap (λ (z : Template). length z.symbols) e)

-- a symbol over two nodes that were pushed stands for it over what they stand for
pub two_stand : {old new : Template} {m left right : Node} {s : ℕ} {w : List ℕ} {p q : Plain} → new ≡ record old { nodes = old.nodes ++ left ∷ right ∷ [] } → m ≡ Node.Struct s (length old.nodes) 2
    → slice_get old.symbols s ≡ Some w → Stands old left p → Stands old right q → Stands new m (compound w (two p q))
two_stand {old} {new} {left = left} {right = right} {s = s} {w = w} {p = p} {q = q} e m there x y =
    let g : Extends old new = pushed old new (left ∷ right ∷ []) e in
    let at : StandAt new (length old.nodes) 2 (two p q) = at_group new old.nodes (ap (λ (z : Template). z.nodes) e) (each_more (still_stands g x) (each_more (still_stands g y) each_none)) in
    subst (λ (z : Node). Stands new z (compound w (two p q))) (sym m) (stands_compound (symbol_stays g s w there) at)
