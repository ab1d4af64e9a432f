-- What is known of two terms by what they begin with.
use Rattle.std.proofs.Common.{◌≡◌, ℕ, List, Some, refl, sym, ◌∙◌, ap}
use Rattle.akl_terms.specs.declared.name.Name.{Name}
use Rattle.akl_terms.specs.declared.term.Node.{Node}
use Rattle.akl_terms.specs.declared.term.Term.{Term}
use Rattle.akl_terms.specs.declared.term.Seen.{Seen}
use Rattle.akl_terms.specs.declared.term.Seen.TheVariants.{Free}
use Rattle.akl_terms.specs.Tree.{Tree, Head, integer_head, port_head, symbol_head}
use Rattle.akl_terms.specs.Decided.{DifferInHead}
use Rattle.akl_terms.specs.Template.{tree, tree_seen, trees_from, seen_of}
use Rattle.rational_unify.proofs.Chains.{tree_of_seen}
use Rattle.rational_unify.proofs.Heads.{head_seen, differ}
use Rattle.plain_heads.specs.declared.meeting.Turn.{Turn}
use Rattle.plain_heads.specs.Plain.{Compares, ComparesHead, ComparesSeen, IsConstant, HasOther}

-- the tree of what a term begins with
seen_tree : (nodes : List Node) (t : Term) (a : Seen) → a ≡ seen_of nodes t → tree nodes t ≡ tree_seen (tree_of_seen nodes t).0 a
seen_tree nodes t a e = (tree_of_seen nodes t).1 ∙ ap (tree_seen (tree_of_seen nodes t).0) (sym e)

bare : (go ko : ℕ → Tree) (s r i j n m : ℕ) (f g : Name) → s ≡ r → n ≡ 0 → m ≡ 0 → tree_seen go (Seen.Struct s i n f) ≡ tree_seen ko (Seen.Struct r j m g)
bare go ko s r i j n m f g e p q = ap (λ (k : ℕ). tree_seen go (Seen.Struct s i k f)) p ∙ ap (λ (k : ℕ). Tree.symbol k (trees_from go i 0)) e ∙ ap (λ (k : ℕ). tree_seen ko (Seen.Struct r j k g)) (sym q)

others_differ : (nodes : List Node) (s t : Term) (a b : Seen) (h : Head) → a ≡ seen_of nodes s → b ≡ seen_of nodes t → head_seen b ≡ Some h → HasOther a h → DifferInHead (tree nodes s) (tree nodes t)
others_differ nodes s t (Free x) b h p q e d = absurd d
others_differ nodes s t (Seen.Int z) b h p q e d = differ nodes s t (Seen.Int z) b (integer_head z) h p q refl e d
others_differ nodes s t (Seen.Port z) b h p q e d = differ nodes s t (Seen.Port z) b (port_head z) h p q refl e d
others_differ nodes s t (Seen.Struct c i n f) b h p q e d = differ nodes s t (Seen.Struct c i n f) b (symbol_head c n) h p q refl e d

integers_same : (nodes : List Node) (s t : Term) (a : Seen) (y : _) → a ≡ seen_of nodes s → Seen.Int y ≡ seen_of nodes t → IsConstant a (integer_head y) → tree nodes s ≡ tree nodes t
integers_same nodes s t (Free x) y p q e = absurd e
integers_same nodes s t (Seen.Int z) y p q e = seen_tree nodes s (Seen.Int z) p ∙ ap Tree.integer e ∙ sym (seen_tree nodes t (Seen.Int y) q)
integers_same nodes s t (Seen.Port z) y p q e = absurd e
integers_same nodes s t (Seen.Struct c i n f) y p q e = absurd e

symbols_same : (nodes : List Node) (s t : Term) (a : Seen) (r j m : ℕ) (g : Name) → a ≡ seen_of nodes s → Seen.Struct r j m g ≡ seen_of nodes t → IsConstant a (symbol_head r m) → tree nodes s ≡ tree nodes t
symbols_same nodes s t (Free x) r j m g p q e = absurd e
symbols_same nodes s t (Seen.Int z) r j m g p q e = absurd e
symbols_same nodes s t (Seen.Port z) r j m g p q e = absurd e
symbols_same nodes s t (Seen.Struct c i n f) r j m g p q e = seen_tree nodes s (Seen.Struct c i n f) p ∙ bare _ _ c r i j n m f g e.0 e.1 e.2 ∙ sym (seen_tree nodes t (Seen.Struct r j m g) q)

integer_compared : (nodes : List Node) (s t : Term) (a : Seen) (y : _) (turn : Turn) → a ≡ seen_of nodes s → Seen.Int y ≡ seen_of nodes t → ComparesHead a (integer_head y) turn → Compares nodes s t turn
integer_compared nodes s t a y Turn.Taken p q h = integers_same nodes s t a y p q h
integer_compared nodes s t a y Turn.Clashes p q h = others_differ nodes s t a (Seen.Int y) (integer_head y) p q refl h
integer_compared nodes s t a y Turn.Unsure p q h = tt

symbol_compared : (nodes : List Node) (s t : Term) (a : Seen) (r j m : ℕ) (g : Name) (turn : Turn) → a ≡ seen_of nodes s → Seen.Struct r j m g ≡ seen_of nodes t → ComparesHead a (symbol_head r m) turn
    → Compares nodes s t turn
symbol_compared nodes s t a r j m g Turn.Taken p q h = symbols_same nodes s t a r j m g p q h
symbol_compared nodes s t a r j m g Turn.Clashes p q h = others_differ nodes s t a (Seen.Struct r j m g) (symbol_head r m) p q refl h
symbol_compared nodes s t a r j m g Turn.Unsure p q h = tt

pub seen_compared : (nodes : List Node) (s t : Term) (a b : Seen) (turn : Turn) → a ≡ seen_of nodes s → b ≡ seen_of nodes t → ComparesSeen a b turn → Compares nodes s t turn
seen_compared nodes s t a (Seen.Int y) turn p q h = integer_compared nodes s t a y turn p q h
seen_compared nodes s t a (Seen.Struct r j m g) turn p q h = symbol_compared nodes s t a r j m g turn p q h
seen_compared nodes s t a (Free x) Turn.Unsure p q h = tt
seen_compared nodes s t a (Free x) Turn.Taken p q h = absurd h
seen_compared nodes s t a (Free x) Turn.Clashes p q h = absurd h
seen_compared nodes s t a (Seen.Port x) Turn.Unsure p q h = tt
seen_compared nodes s t a (Seen.Port x) Turn.Taken p q h = absurd h
seen_compared nodes s t a (Seen.Port x) Turn.Clashes p q h = absurd h
