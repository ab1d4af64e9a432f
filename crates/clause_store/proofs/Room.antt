-- How far templates grow.
use Rattle.std.proofs.Common.{◌≡◌, ℕ, ◌+◌, ◌≤◌, ◌*◌, List, ◌++◌, length, arith}
use Rattle.akl_terms.specs.declared.term.Node.{Node}
use Rattle.akl_terms.specs.Template.{Template}
use Rattle.clause_store.specs.Standing.{HasRoom, Gains}
use Rattle.clause_store.proofs.Growing.{extends_none, extends_trans, Interned, pushed, pushed_lengths}

pub gains_none : (t : Template) → Gains 0 0 t t
gains_none t = record { extends = extends_none t; nodes = omega arith; symbols = omega arith }

pub gains_trans : {a b p q : ℕ} {t u v : Template} → Gains a p t u → Gains b q u v → Gains (a + b) (p + q) t v
gains_trans g h = record { extends = extends_trans g.extends h.extends; nodes = omega (arith, g.nodes, h.nodes); symbols = omega (arith, g.symbols, h.symbols) }

-- a greater size, or less that is spared
pub gains_less : {a b p q : ℕ} {t u : Template} → a ≤ b → q + 4 * a ≤ p + 4 * b → Gains a p t u → Gains b q t u
gains_less l h g = record { extends = g.extends; nodes = omega (arith, g.nodes); symbols = omega (arith, g.symbols) }

pub gains_symbol : {t u : Template} {w : List ℕ} {n : ℕ} → Interned t u w n → Gains 1 3 t u
gains_symbol i = record { extends = i.extends; nodes = omega (arith, i.nodes); symbols = omega (arith, i.symbols) }

-- so many nodes were spared for a group
pub gains_group : {a k : ℕ} {t u v : Template} (group : List Node) → Gains a (length group + k) t u → v ≡ record u { nodes = u.nodes ++ group } → Gains a k t v
gains_group {u = u} {v = v} group g e =
    let l = pushed_lengths u v group e in
    record { extends = extends_trans g.extends (pushed u v group e); nodes = omega (arith, g.nodes, l.0); symbols = omega (arith, g.symbols, l.1) }

pub room_less : {t : Template} {a b : ℕ} → HasRoom t b → a ≤ b → HasRoom t a
room_less r h = record { nodes = omega (arith, r.nodes); symbols = omega (arith, r.symbols) }

-- what is left of the room when some of it was used
pub room_left : {t u : Template} {a b n p : ℕ} → HasRoom t n → Gains a p t u → a + b ≤ n → HasRoom u b
room_left r g h = record { nodes = omega (arith, r.nodes, g.nodes); symbols = omega (arith, r.symbols, g.symbols) }
