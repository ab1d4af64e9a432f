-- When two constants are one.
use Rattle.std.proofs.Common.{◌≡◌, Some, true, false, List, refl, sym, ◌∙◌, ap, arith}
use Rattle.std.proofs.lemmas.Bool.Decides.{nat_tests}
use Rattle.std.specs.Ordering.{int_eq}
use Rattle.akl_terms.specs.declared.name.Name.{Name}
use Rattle.akl_terms.specs.declared.name.Var.{Var}
use Rattle.akl_terms.specs.declared.term.Node.{Node}
use Rattle.akl_terms.specs.declared.term.Term.{Term}
use Rattle.akl_terms.specs.declared.term.Seen.{Seen}
use Rattle.akl_terms.specs.declared.term.Seen.TheVariants.{Free}
use Rattle.akl_terms.specs.Names.{same_name}
use Rattle.akl_terms.specs.Tree.{Tree, Head, integer_head, port_head, symbol_head}
use Rattle.akl_terms.specs.Decided.{DifferInHead}
use Rattle.akl_terms.specs.Template.{tree, tree_seen, seen_of}
use Rattle.rational_unify.specs.Meeting.{is_one_constant, IsNoSymbolPair}
use Rattle.rational_unify.proofs.Chains.{tree_of_seen}
use Rattle.rational_unify.proofs.Heads.{head_seen, differ}

same_name-equal : (p q : Name) → same_name p q ≡ true → p ≡ q
same_name-equal p q e = let w : p.worker ≡ q.worker = grind (arith, nat_tests) in let n : p.number ≡ q.number = grind (arith, nat_tests) in
    λ i. record { worker = w i; number = n i }

same_name-refl : (p : Name) → same_name p p ≡ true
same_name-refl p = grind (arith, nat_tests)

-- one constant is one tree
pub constant-same : (nodes : List Node) (s t : Term) (a b : Seen) → a ≡ seen_of nodes s → b ≡ seen_of nodes t → is_one_constant a b ≡ true → tree nodes s ≡ tree nodes t
constant-same nodes s t (Seen.Int m) (Seen.Int n) p q e =
    let mn : m ≡ n = grind (arith, nat_tests) in
    (tree_of_seen nodes s).1 ∙ ap (tree_seen (tree_of_seen nodes s).0) (sym p) ∙ ap Tree.integer mn ∙ sym ((tree_of_seen nodes t).1 ∙ ap (tree_seen (tree_of_seen nodes t).0) (sym q))
constant-same nodes s t (Seen.Port m) (Seen.Port n) p q e =
    (tree_of_seen nodes s).1 ∙ ap (tree_seen (tree_of_seen nodes s).0) (sym p) ∙ ap Tree.port (same_name-equal m n e) ∙ sym ((tree_of_seen nodes t).1 ∙ ap (tree_seen (tree_of_seen nodes t).0) (sym q))
constant-same nodes s t (Free x) b p q e = cc
constant-same nodes s t (Seen.Struct c i n f) b p q e = cc
constant-same nodes s t (Seen.Int m) (Free x) p q e = cc
constant-same nodes s t (Seen.Int m) (Seen.Port x) p q e = cc
constant-same nodes s t (Seen.Int m) (Seen.Struct c i n f) p q e = cc
constant-same nodes s t (Seen.Port m) (Free x) p q e = cc
constant-same nodes s t (Seen.Port m) (Seen.Int x) p q e = cc
constant-same nodes s t (Seen.Port m) (Seen.Struct c i n f) p q e = cc

-- heads that are neither one constant nor one symbol differ
heads_differ : (a b : Seen) → ((x : Var) → a ≡ Free x → ⊥) → ((x : Var) → b ≡ Free x → ⊥) → is_one_constant a b ≡ false → IsNoSymbolPair a b
    → (g : Head) × (h : Head) × (head_seen a ≡ Some g) × (head_seen b ≡ Some h) × (g ≡ h → ⊥)
heads_differ (Free x) b f g e n = absurd (f x refl)
heads_differ (Seen.Int m) (Free x) f g e n = absurd (g x refl)
heads_differ (Seen.Int m) (Seen.Int k) f g e n = (integer_head m, integer_head k, refl, refl, λ d. let mk : m ≡ k = cc in let z : int_eq m m ≡ true = grind (arith, nat_tests) in cc)
heads_differ (Seen.Int m) (Seen.Port p) f g e n = (integer_head m, port_head p, refl, refl, λ d. cc)
heads_differ (Seen.Int m) (Seen.Struct c i k r) f g e n = (integer_head m, symbol_head c k, refl, refl, λ d. cc)
heads_differ (Seen.Port p) (Free x) f g e n = absurd (g x refl)
heads_differ (Seen.Port p) (Seen.Int k) f g e n = (port_head p, integer_head k, refl, refl, λ d. cc)
heads_differ (Seen.Port p) (Seen.Port q) f g e n = (port_head p, port_head q, refl, refl, λ d. let pq : p ≡ q = cc in let z : same_name p p ≡ true = same_name-refl p in cc)
heads_differ (Seen.Port p) (Seen.Struct c i k r) f g e n = (port_head p, symbol_head c k, refl, refl, λ d. cc)
heads_differ (Seen.Struct c i k r) (Free x) f g e n = absurd (g x refl)
heads_differ (Seen.Struct c i k r) (Seen.Int m) f g e n = (symbol_head c k, integer_head m, refl, refl, λ d. cc)
heads_differ (Seen.Struct c i k r) (Seen.Port p) f g e n = (symbol_head c k, port_head p, refl, refl, λ d. cc)
heads_differ (Seen.Struct c i k r) (Seen.Struct d j l s) f g e n = (
  symbol_head c k,
  symbol_head d l,
  refl,
  refl,
  λ q. let cd : c ≡ d = cc in let kl : k ≡ l = cc in
      n (record { symbol = c; count = k; left = i; left_frame = r; right = j; right_frame = s })
      (refl, λ z. Seen.Struct (sym cd z) j (sym kl z) s),
)

pub meet-differ : (nodes : List Node) (s t : Term) (a b : Seen) → a ≡ seen_of nodes s → b ≡ seen_of nodes t → ((x : Var) → a ≡ Free x → ⊥) → ((x : Var) → b ≡ Free x → ⊥)
    → is_one_constant a b ≡ false → IsNoSymbolPair a b → DifferInHead (tree nodes s) (tree nodes t)
meet-differ nodes s t a b p q f g e n = let w = heads_differ a b f g e n in differ nodes s t a b w.0 w.1 p q w.2 w.3 w.4
