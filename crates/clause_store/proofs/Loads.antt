-- What a loaded program and a loaded query rest on.
use Rattle.std.proofs.Common.{◌≡◌, ℕ, ◌+◌, ◌≤◌, List, [], ◌∷◌, ◌++◌, length, map, slice_get, Some, codes, refl, sym, ap, subst, ◌∙◌, arith, append_assoc}
use Rattle.std.proofs.lemmas.List.{length-map}
use Rattle.akl_terms.specs.declared.term.Node.{Node}
use Rattle.akl_terms.specs.declared.program.Code.{Code}
use Rattle.akl_terms.specs.declared.program.Definition.{Definition}
use Rattle.akl_terms.specs.declared.program.Program.{Program}
use Rattle.akl_terms.specs.declared.program.Query as program_query
use Rattle.akl_terms.specs.Template.{Template, IsArranged, AreDistinct}
use Rattle.akl_syntax.specs.Clauses.{Clause, Query}
use Rattle.clause_keys.specs.declared.callee.Callee.{Callee}
use Rattle.clause_keys.specs.Keys.{called_by, AreUnique}
use Rattle.clause_store.specs.Nodes.{Extends}
use Rattle.clause_store.specs.Loaded.{IsCell, IsProgramOf, IsQueryOf, shown_from}
use Rattle.clause_store.specs.Putting.{numbers_from, AreGoalsPut, IsExtended, IsCellPut}
use Rattle.clause_store.proofs.Growing.{extends_trans, node_stays, symbol_stays, Interned, pushed, pushed_lengths}
use Rattle.clause_store.proofs.Renamed.{codes_as, definitions_as}
use Rattle.clause_store.proofs.Coded.{still_stands_at}
use Rattle.clause_store.proofs.Collected.{get_further, collects_unique, collects_length}
use Rattle.clause_store.proofs.Trees.{node_of}
use Rattle.clause_store.proofs.VariableNodes.{variables_behind}

-- ---- the list's cell
four_behind : (u : Template) {v new : Template} (a b c d : Node) → v ≡ record u { nodes = u.nodes ++ a ∷ b ∷ [] } → new ≡ record v { nodes = v.nodes ++ c ∷ d ∷ [] } → new.nodes ≡ u.nodes ++ a ∷ b ∷ c ∷ d ∷ []
four_behind u a b c d e f = ap (λ (z : Template). z.nodes) f ∙ ap (λ (z : Template). z.nodes ++ c ∷ d ∷ []) e ∙ append_assoc u.nodes (a ∷ b ∷ []) (c ∷ d ∷ [])

at_place : (xs ys all : List Node) (n k i : ℕ) (x : Node) → all ≡ xs ++ ys → n ≡ length xs → i ≡ n + k → slice_get ys k ≡ Some x → slice_get all i ≡ Some x
at_place xs ys all n k i x e f g h =
    let at : i ≡ length xs + k = g ∙ ap (λ (z : ℕ). z + k) f in
    ap (λ (z : List Node). slice_get z i) e ∙ ap (slice_get (xs ++ ys)) at ∙ get_further xs ys k ∙ h

pub cell_put : {old t u v new : Template} {dot nil first : ℕ} → Interned old t (codes ".") dot → Interned t u (codes "[]") nil → first ≡ length u.nodes → v ≡ record u { nodes = u.nodes ++ Node.Var 0 ∷ Node.Var 1 ∷ [] }
    → new ≡ record v { nodes = v.nodes ++ Node.Struct dot first 2 ∷ Node.Struct nil first 0 ∷ [] } → IsCellPut old new first
cell_put {old} {t} {u} {v} {new} {dot} {nil} {first} i j f e g =
    let behind = four_behind u (Node.Var 0) (Node.Var 1) (Node.Struct dot first 2) (Node.Struct nil first 0) e g in
    let ys : List Node = Node.Var 0 ∷ Node.Var 1 ∷ Node.Struct dot first 2 ∷ Node.Struct nil first 0 ∷ [] in
    let second : Extends u new = extends_trans (pushed u v (Node.Var 0 ∷ Node.Var 1 ∷ []) e) (pushed v new (Node.Struct dot first 2 ∷ Node.Struct nil first 0 ∷ []) g) in
    let l = pushed_lengths u v (Node.Var 0 ∷ Node.Var 1 ∷ []) e in
    let m = pushed_lengths v new (Node.Struct dot first 2 ∷ Node.Struct nil first 0 ∷ []) g in
    record {
      cell = record {
        dot = dot;
        nil = nil;
        dot_is = symbol_stays second dot (codes ".") (symbol_stays j.extends dot (codes ".") i.there);
        nil_is = symbol_stays second nil (codes "[]") j.there;
        zero_is = at_place u.nodes ys new.nodes first 0 first (Node.Var 0) behind f (omega arith) refl;
        one_is = at_place u.nodes ys new.nodes first 1 (first + 1) (Node.Var 1) behind f (omega arith) refl;
        cell_is = at_place u.nodes ys new.nodes first 2 (first + 2) (Node.Struct dot first 2) behind f (omega arith) refl;
        empty_is = (first, at_place u.nodes ys new.nodes first 3 (first + 3) (Node.Struct nil first 0) behind f (omega arith) refl);
      };
      extends = extends_trans i.extends (extends_trans j.extends second);
      nodes = omega (arith, i.nodes, j.nodes, l.0, m.0);
      symbols = omega (arith, i.symbols, j.symbols, l.1, m.1);
    }

pub cell_stays : {t u : Template} {at : ℕ} → Extends t u → IsCell t at → IsCell u at
cell_stays g c = record {
  dot = c.dot;
  nil = c.nil;
  dot_is = symbol_stays g _ _ c.dot_is;
  nil_is = symbol_stays g _ _ c.nil_is;
  zero_is = node_stays g _ _ c.zero_is;
  one_is = node_stays g _ _ c.one_is;
  cell_is = node_stays g _ _ c.cell_is;
  empty_is = (c.empty_is.0, node_stays g _ _ c.empty_is.1);
}

-- ---- a program
pub program_put : {known callees : List Callee} {old mid new : Template} {before after : List Definition} {cs : List Clause} (p : Program) → known ≡ [] → before ≡ [] → IsCellPut old mid p.cell → IsExtended known callees mid new before after cs
    → p.definitions ≡ after → p.templates ≡ new → IsArranged new.nodes → AreDistinct new.symbols → IsProgramOf cs p
program_put {known} {callees} {old} {mid} {new} {cs = cs} p ek eb c h ed et a d =
    let all : map called_by p.definitions ≡ callees = ap (map called_by) ed ∙ sym h.callees_are in
    let added : p.definitions ≡ h.added = ed ∙ h.definitions_are ∙ ap (λ z. z ++ h.added) eb in
    record {
      collected = rw (all, ← ek) h.collected;
      definitions = rw (all, et, added) (definitions_as (node_of a) callees cs h.added h.loaded);
      cell = rw et (cell_stays h.gains.extends c.cell);
      distinct = rw et d;
    }

pub program_unique : {known callees : List Callee} {mid new : Template} {before after : List Definition} {cs : List Clause} (ds : List Definition) → AreUnique known → IsExtended known callees mid new before after cs → ds ≡ after → AreUnique (map called_by ds)
program_unique ds u h e = subst AreUnique (h.callees_are ∙ ap (map called_by) (sym e)) (collects_unique u h.collected)

pub definitions_few : {known callees : List Callee} {mid new : Template} {before after : List Definition} {cs : List Clause} (ds : List Definition) → IsExtended known callees mid new before after cs → ds ≡ after → length ds ≤ length known + length cs
definitions_few {after = after} ds h e = omega (arith, collects_length h.collected, ap length h.callees_are, length-map after called_by, ap length e)

pub nothing_unique : (callees : List Callee) → callees ≡ [] → AreUnique callees
nothing_unique callees e = subst AreUnique (sym e) (record { one = λ i j k p q. absurd cc })

-- ---- a query
pub query_put : {known callees : List Callee} {start mid new : Template} {before after : List Definition} {lifted : List Clause} {goals : List Code} (old : Program) (q : Query) (p : Program) (l : program_query.Query)
    → start ≡ record old.templates { nodes = old.templates.nodes ++ map (λ n. Node.Var n) (numbers_from 0 (length q.names)) } → known ≡ map called_by old.definitions → before ≡ old.definitions → IsExtended known callees start mid before after lifted → AreGoalsPut callees mid new q.goals goals
    → p.definitions ≡ after → p.templates ≡ new → p.cell ≡ old.cell → l.goals ≡ goals → l.variables ≡ length q.names → l.shown ≡ shown_from 0 q.names → IsArranged new.nodes → AreDistinct new.symbols → IsQueryOf old lifted q p l
query_put {known} {callees} {start} {mid} {new} {lifted = lifted} old q p l ep ek eb h g ed et ec eg ev es a d =
    let all : map called_by p.definitions ≡ callees = ap (map called_by) ed ∙ sym h.callees_are in
    let gained : Extends start new = extends_trans h.gains.extends g.gains.extends in
    record {
      extends = rw et (extends_trans (pushed old.templates start (map (λ n. Node.Var n) (numbers_from 0 (length q.names))) ep) gained);
      cell = ec;
      added = h.added;
      definitions_are = ed ∙ h.definitions_are ∙ ap (λ z. z ++ h.added) eb;
      collected = rw (all, ← ek) h.collected;
      definitions = rw (all, et) (definitions_as (λ n s x. node_of a n s (still_stands_at g.gains.extends n s x)) callees lifted h.added h.loaded);
      variables = ev;
      variables_are = λ i below. rw et (node_stays gained (length old.templates.nodes + i) (Node.Var i)
          (rw ep (variables_behind old.templates.nodes (length q.names) i below)));
      goals = rw (all, et, eg) (codes_as (node_of a) g.codes);
      shown = es;
      distinct = rw et d;
    }
