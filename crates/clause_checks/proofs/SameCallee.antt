-- The test whether two callees are the same, and an index of callees.
use Rattle.std.proofs.Common.{◌≡◌, ◌⊎◌, inl, inr, ℕ, zero, suc, Bool, true, false, not, ◌&&◌, ◌||◌, ◌==◌, List, [], ◌∷◌, ◌++◌, length, map, Option, Some, None, is_some, refl, sym, ap, ◌∙◌}
use Rattle.std.specs.List.{list_any, slice_get}
use Rattle.std.specs.Prelude.{IfSome, IfNone}
use Rattle.std.specs.Str.{bytes_eq}
use Rattle.std.proofs.lemmas.List.{length-map}
use Rattle.std.proofs.lemmas.Slice.Eq.{bytes_eq-Decides}
use Rattle.std.proofs.lemmas.Bool.Decides.{Decides-eqb}
use mathlib.Core.Bool.{beq}
use Rattle.akl_terms.specs.declared.program.Op.{Op}
use Rattle.akl_terms.specs.declared.program.Op.TheVariants as ops
use Rattle.term_syntax.specs.View.{tree}
use Rattle.akl_syntax.specs.Answers.{clause_view}
use Rattle.akl_syntax.specs.Goals.{Part}
use Rattle.akl_syntax.proofs.PartTurns.{part_is}
use Rattle.akl_syntax.specs.declared.source.SourceClause.{SourceClause}
use Rattle.clause_keys.specs.declared.callee.Callee.{Callee}
use Rattle.clause_keys.specs.declared.callee.Callee.TheVariants.{Named, Lifted, Collecting}
use Rattle.clause_keys.specs.Keys.{named, lifted_by, by_head, defined_by, Adds, IsAbsent, known, next}
use Rattle.clause_keys.proofs.Places.{get_front, get_last, get_split}
use Rattle.clause_checks.specs.Rows.{is_callee, same_op}
use Rattle.clause_checks.specs.Tallies.{SameCallees}
use Rattle.clause_checks.proofs.Lists.{list_any-push, neither, not_true, or_cases, or_true}

and_true : (a b : Bool) → a && b ≡ true → (a ≡ true) × (b ≡ true)
and_true true b e = (refl, e)
and_true false b e = absurd cc

both : (a b : Bool) → a ≡ true → b ≡ true → a && b ≡ true
both a b e f = rw (e, f) refl

pub same_callee : (k l : Callee) → is_callee k l ≡ true → k ≡ l
same_callee (Named k) (Named l) e =
    let p = and_true (bytes_eq k.symbol l.symbol) (k.arity == l.arity) e in
    let s : k.symbol ≡ l.symbol = (bytes_eq-Decides k.symbol l.symbol).0 p.0 in
    let n : k.arity ≡ l.arity = (Decides-eqb k.arity l.arity).0 p.1 in
    ap (λ x. Named (record { symbol = x; arity = k.arity })) s ∙ ap (λ x. Named (record { symbol = l.symbol; arity = x })) n
same_callee (Lifted m k) (Lifted n l) e =
    let p = and_true (m == n) (k == l) e in
    let x : m ≡ n = (Decides-eqb m n).0 p.0 in
    let y : k ≡ l = (Decides-eqb k l).0 p.1 in
    ap (λ z. Lifted z k) x ∙ ap (Lifted n) y
same_callee (Collecting m k) (Collecting n l) e =
    let p = and_true (m == n) (k == l) e in
    let x : m ≡ n = (Decides-eqb m n).0 p.0 in
    let y : k ≡ l = (Decides-eqb k l).0 p.1 in
    ap (λ z. Collecting z k) x ∙ ap (Collecting n) y
same_callee (Named k) (Lifted n l) e = absurd cc
same_callee (Lifted m k) (Named l) e = absurd cc
same_callee (Named k) (Collecting n l) e = absurd cc
same_callee (Collecting m k) (Named l) e = absurd cc
same_callee (Lifted m k) (Collecting n l) e = absurd cc
same_callee (Collecting m k) (Lifted n l) e = absurd cc

pub is_itself : (k : Callee) → is_callee k k ≡ true
is_itself (Named k) = both (bytes_eq k.symbol k.symbol) (k.arity == k.arity) ((bytes_eq-Decides k.symbol k.symbol).1 refl) ((Decides-eqb k.arity k.arity).1 refl)
is_itself (Collecting n k) = both (n == n) (k == k) ((Decides-eqb n n).1 refl) ((Decides-eqb k k).1 refl)
is_itself (Lifted n k) = both (n == n) (k == k) ((Decides-eqb n n).1 refl) ((Decides-eqb k k).1 refl)

pub other_callee : (k l : Callee) → (k ≡ l → ⊥) → is_callee k l ≡ false
other_callee k l h = not_true (is_callee k l) (λ e. h (same_callee k l e))

pub defines : (c : SourceClause) → defined_by (clause_view c) ≡ by_head c.part.op c.head (length c.arguments.items)
unfolding defined_by
defines c = ap (λ (p : Part). by_head p.op c.head (length (map tree c.arguments.items))) (part_is c.part) ∙ ap (by_head c.part.op c.head) (length-map c.arguments.items tree)

-- ---- lifted definitions, by whether they collect
abbrev by_kind : Bool → ℕ → ℕ → Callee
by_kind true n k = Collecting n k
by_kind false n k = Lifted n k

lifted_kind : (op : Op) (n k : ℕ) → lifted_by op n k ≡ by_kind (same_op ops.Collect op) n k
lifted_kind ops.Condition n k = refl
lifted_kind ops.Commit n k = refl
lifted_kind ops.Choice n k = refl
lifted_kind ops.Collect n k = refl

kinds_same : (a b : Bool) (m k n l : ℕ) → is_callee (by_kind a m k) (by_kind b n l) ≡ beq a b && (m == n && k == l)
kinds_same true true m k n l = refl
kinds_same true false m k n l = refl
kinds_same false true m k n l = refl
kinds_same false false m k n l = refl

pub same_lifted : (o p : Op) (m k n l : ℕ) → is_callee (lifted_by o m k) (lifted_by p n l) ≡ beq (same_op ops.Collect o) (same_op ops.Collect p) && (m == n && k == l)
same_lifted o p m k n l =
    ap (λ (c : Callee). is_callee c (lifted_by p n l)) (lifted_kind o m k) ∙ ap (is_callee (by_kind (same_op ops.Collect o) m k)) (lifted_kind p n l) ∙ kinds_same (same_op ops.Collect o) (same_op ops.Collect p) m k n l

not_swap : (c t : Bool) → not c ≡ t → c ≡ not t
not_swap true t g = ap not g
not_swap false t g = ap not g

-- by the test whether both collect, or neither
pub kinds_by_test : (a b x y t : Bool) → x ≡ a → y ≡ b → not (beq x y) ≡ t → beq a b ≡ not t
kinds_by_test a b x y t e f g = not_swap (beq a b) t (ap (λ (z : Bool). not (beq z b)) (sym e) ∙ ap (λ (z : Bool). not (beq x z)) (sym f) ∙ g)

pub lifted_not_named : (o : Op) (m k : ℕ) (s : List ℕ) (n : ℕ) → is_callee (lifted_by o m k) (named s n) ≡ false
lifted_not_named ops.Condition m k s n = refl
lifted_not_named ops.Commit m k s n = refl
lifted_not_named ops.Choice m k s n = refl
lifted_not_named ops.Collect m k s n = refl

pub named_not_lifted : (o : Op) (s : List ℕ) (n m k : ℕ) → is_callee (named s n) (lifted_by o m k) ≡ false
named_not_lifted ops.Condition s n m k = refl
named_not_lifted ops.Commit s n m k = refl
named_not_lifted ops.Choice s n m k = refl
named_not_lifted ops.Collect s n m k = refl

-- ---- an index has what is in the list, and nothing else
pub record IsIndexOf (list callees : List Callee) : Type 0 where
  pub there : (d : ℕ) (k : Callee) → slice_get callees d ≡ Some k → list_any (is_callee k) list ≡ true
  pub absent : (k : Callee) → IsAbsent callees k → list_any (is_callee k) list ≡ false

pub index_start : IsIndexOf [] []
index_start = record { there = λ i k e. absurd cc; absent = λ k h. refl }

pub index_next : {list callees more : List Callee} {k : Callee} {d : ℕ} → IsIndexOf list callees → Adds callees k more d → IsIndexOf (list ++ k ∷ []) more
index_next {list} {callees} {more} {k} {d} h (known e) = record {
  there = λ i l f. list_any-push (is_callee l) list k ∙ ap (λ b. b || is_callee l k) (h.there i l f);
  absent = λ l a. (
      let other : l ≡ k → ⊥ = λ f. a.absent d (e ∙ ap Some (sym f)) in
      list_any-push (is_callee l) list k ∙ neither _ _ (h.absent l a) (other_callee l k other));
}
index_next {list} {callees} {more} {k} {d} h (next a) = record {
  there = λ i l f. list_any-push (is_callee l) list k ∙ found (get_split callees k l i f);
  absent = λ l b. (
      let old : IsAbsent callees l = record { absent = λ i f. b.absent i (get_front callees (k ∷ []) i l f) } in
      let other : l ≡ k → ⊥ = λ f. b.absent (length callees) (get_last callees k ∙ ap Some (sym f)) in
      list_any-push (is_callee l) list k ∙ neither _ _ (h.absent l old) (other_callee l k other));
}
  where
    found : {i : ℕ} {l : Callee} → (slice_get callees i ≡ Some l) ⊎ ((i ≡ length callees) × (k ≡ l)) → list_any (is_callee l) list || is_callee l k ≡ true
    found {i} {l} (inl f) = ap (λ b. b || is_callee l k) (h.there i l f)
    found {i} {l} (inr f) = or_true (list_any (is_callee l) list) (is_callee l k) (rw f.1 (is_itself l))

pub is_there : (ks : List Callee) (k : Callee) (d : ℕ) → slice_get ks d ≡ Some k → list_any (is_callee k) ks ≡ true
is_there [] k d e = absurd cc
is_there (l ∷ ks) k zero e =
    let f : l ≡ k = cc in
    ap (λ b. b || list_any (is_callee k) ks) (ap (is_callee k) f ∙ is_itself k)
is_there (l ∷ ks) k (suc d) e = or_true (is_callee k l) (list_any (is_callee k) ks) (is_there ks k d e)

pub is_nowhere : (ks : List Callee) (k : Callee) → IsAbsent ks k → list_any (is_callee k) ks ≡ false
is_nowhere [] k a = refl
is_nowhere (l ∷ ks) k a = neither (is_callee k l) (list_any (is_callee k) ks) (other_callee k l (λ e. a.absent zero (ap Some (sym e)))) (is_nowhere ks k (record { absent = λ d e. a.absent (suc d) e }))

pub same_callees : (list callees : List Callee) → IsIndexOf list callees → SameCallees callees list
same_callees list callees h k = by_test (list_any (is_callee k) callees) refl
  where
    by_test : (b : Bool) → list_any (is_callee k) callees ≡ b → b ≡ list_any (is_callee k) list
    by_test true e = sym (found_in callees (λ d f. h.there d k f) e)
      where
        found_in : (ks : List Callee) → ((d : ℕ) → slice_get ks d ≡ Some k → list_any (is_callee k) list ≡ true) → list_any (is_callee k) ks ≡ true → list_any (is_callee k) list ≡ true
        found_in [] g f = absurd cc
        found_in (l ∷ ks) g f = elim (or_cases (is_callee k l) (list_any (is_callee k) ks) f) [
          | inl x ↦ g zero (ap Some (sym (same_callee k l x)))
          | inr x ↦ found_in ks (λ d y. g (suc d) y) x
        ]
    by_test false e = sym (h.absent k (record { absent = λ d f. (let x : true ≡ false = sym (is_there callees k d f) ∙ e in absurd cc) }))

-- what an index answers for a callee
pub known_callee : (ks : List Callee) (k : Callee) (o : Option ℕ) → IfSome o (λ d. slice_get ks d ≡ Some k) → IfNone o (IsAbsent ks k) → is_some o ≡ list_any (is_callee k) ks
known_callee ks k (Some d) f a = sym (is_there ks k d f)
known_callee ks k None f a = sym (is_nowhere ks k a)
