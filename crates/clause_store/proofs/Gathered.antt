-- How clauses are gathered.
use Rattle.std.proofs.Common.{◌≡◌, ℕ, zero, suc, ◌+◌, ◌<◌, ◌≤◌, ◌-◌, List, [], ◌∷◌, ◌++◌, length, map, slice_get, get_or, set, Some, ◌⊎◌, inl, inr, refl, sym, ap, subst, ◌∙◌, arith, append_assoc, Vec, Global}
use Rattle.std.proofs.lemmas.List.{length-append, append-nil, map_push}
use Rattle.std.proofs.lemmas.Option.{slice_get_within}
use Rattle.akl_syntax.specs.Clauses.{Clause}
use Rattle.akl_syntax.specs.Sizes.{clause_size, clauses_size}
use Rattle.akl_syntax.specs.Answers.{clause_view, clauses_view}
use Rattle.akl_syntax.specs.declared.source.SourceClause.{SourceClause}
use Rattle.clause_keys.specs.declared.callee.Callee.{Callee}
use Rattle.clause_keys.specs.Keys.{defined_by, IsAbsent, AreUnique, Adds, known, next, nothing}
use Rattle.clause_store.specs.Loaded.{AreOf, no_clauses, own, other}
use Rattle.clause_store.specs.Groups.{put_at, AreGroups, no_groups, a_group, groups_size, AreGathered}
use Rattle.clause_store.proofs.Sums.{IsSum, both, clauses_sum}
use Rattle.clause_store.proofs.Collected.{get_further, get_either, collects_more, collects_unique, collects_length, none_of}

pub groups_sum : IsSum clauses_size groups_size
groups_sum = record { none = refl; one_more = λ x xs. refl }

-- ---- one clause more
of_own : {k : Callee} {cs found : List Clause} (c : Clause) → AreOf k cs found → defined_by c ≡ k → AreOf k (cs ++ c ∷ []) (found ++ c ∷ [])
of_own c no_clauses e = own e no_clauses
of_own c (own h p) e = own h (of_own c p e)
of_own c (other h p) e = other h (of_own c p e)

of_other : {k : Callee} {cs found : List Clause} (c : Clause) → AreOf k cs found → (defined_by c ≡ k → ⊥) → AreOf k (cs ++ c ∷ []) found
of_other c no_clauses e = other e no_clauses
of_other c (own h p) e = own h (of_other c p e)
of_other c (other h p) e = other h (of_other c p e)

others : {cs : List Clause} {ks : List Callee} {gs : List (List Clause)} (c : Clause) → AreGroups cs ks gs → ((i : ℕ) → slice_get ks i ≡ Some (defined_by c) → ⊥) → AreGroups (cs ++ c ∷ []) ks gs
others c no_groups h = no_groups
others c (a_group p q) h = a_group (of_other c p (λ e. h 0 (ap Some (sym e)))) (others c q (λ i e. h (suc i) e))

add_known : {cs : List Clause} {ks : List Callee} {gs : List (List Clause)} (c : Clause) (n : ℕ) → AreGroups cs ks gs → slice_get ks n ≡ Some (defined_by c) → ((i : ℕ) → slice_get ks i ≡ Some (defined_by c) → i ≡ n)
    → AreGroups (cs ++ c ∷ []) ks (put_at gs n c)
add_known c n no_groups e h = absurd cc
add_known c zero (a_group {callee = k} p q) e h = let same : defined_by c ≡ k = let z : Some k ≡ Some (defined_by c) = e in cc in a_group (of_own c p same) (others c q (λ i f. let z : suc i ≡ 0 = h (suc i) f in absurd (omega arith)))
add_known c (suc n) (a_group p q) e h = a_group (of_other c p (λ f. let z : 0 ≡ suc n = h 0 (ap Some (sym f)) in absurd (omega arith))) (add_known c n q e (λ i f. let z : suc i ≡ suc n = h (suc i) f in omega arith))

add_next : {cs : List Clause} {ks : List Callee} {gs : List (List Clause)} (c : Clause) (n : ℕ) → AreGroups cs ks gs → ((i : ℕ) → slice_get ks i ≡ Some (defined_by c) → ⊥) → AreOf (defined_by c) cs [] → n ≡ length ks
    → AreGroups (cs ++ c ∷ []) (ks ++ defined_by c ∷ []) (put_at gs n c)
add_next c n no_groups h p e = a_group (of_own c p refl) no_groups
add_next c zero (a_group q r) h p e = absurd (omega arith)
add_next c (suc n) (a_group q r) h p e = a_group (of_other c q (λ f. h 0 (ap Some (sym f)))) (add_next c n r (λ i f. h (suc i) f) p (omega arith))

pub groups_length : {cs : List Clause} {ks : List Callee} {gs : List (List Clause)} → AreGroups cs ks gs → length ks ≡ length gs
groups_length no_groups = refl
groups_length (a_group p q) = ap suc (groups_length q)

put_size : (gs : List (List Clause)) (n : ℕ) (c : Clause) → groups_size (put_at gs n c) ≡ groups_size gs + clause_size c
put_size [] n c = omega arith
put_size (g ∷ gs) zero c = omega (arith, both clauses_sum g (c ∷ []))
put_size (g ∷ gs) (suc n) c = omega (arith, put_size gs n c)

-- ---- the loop
pub gathered_none : (callees : List Callee) → AreGathered callees [] callees []
gathered_none callees = record { new = []; callees_are = sym (append-nil callees); collected = nothing; groups = no_groups; size = refl }

-- a clause more was given its number
pub record OneMore (old : List Callee) (cs : List Clause) (callees : List Callee) (gs : List (List Clause)) (c : Clause) (d : ℕ) : Type 0 where
  pub above : length old ≤ d
  pub within : d - length old ≤ length gs
  pub gathered : AreGathered old (cs ++ c ∷ []) callees (put_at gs (d - length old) c)

-- a place among the new ones
new_place : {old callees : List Callee} {cs : List Clause} {gs : List (List Clause)} {k : Callee} (h : AreGathered old cs callees gs) (i : ℕ) → slice_get h.new i ≡ Some k → slice_get callees (length old + i) ≡ Some k
new_place {old} h i e = ap (λ (z : List Callee). slice_get z (length old + i)) h.callees_are ∙ get_further old h.new i ∙ e

new_length : {old callees : List Callee} {cs : List Clause} {gs : List (List Clause)} (h : AreGathered old cs callees gs) → length callees ≡ length old + length gs
new_length {old} h = omega (arith, ap length h.callees_are, length-append old h.new, groups_length h.groups)

more_size : (cs : List Clause) (gs : List (List Clause)) (n : ℕ) (c : Clause) → groups_size gs ≡ clauses_size cs → groups_size (put_at gs n c) ≡ clauses_size (cs ++ c ∷ [])
more_size cs gs n c e = omega (arith, put_size gs n c, e, both clauses_sum cs (c ∷ []))

pub one_more : (c : Clause) {old callees more : List Callee} {cs : List Clause} {gs : List (List Clause)} {d : ℕ} → AreUnique old → IsAbsent old (defined_by c) → AreGathered old cs callees gs → Adds callees (defined_by c) more d
    → OneMore old cs more gs c d
one_more c {old} {callees} {cs = cs} {gs = gs} u a h (known {d = d} e) = in_new (get_either old h.new d (defined_by c) (subst (λ (z : List Callee). slice_get z d ≡ Some (defined_by c)) h.callees_are e))
  where
    in_new : (slice_get old d ≡ Some (defined_by c)) ⊎ ((length old ≤ d) × (slice_get h.new (d - length old) ≡ Some (defined_by c))) → OneMore old cs callees gs c d
    in_new (inl p) = absurd (a.absent d p)
    in_new (inr p) = record {
      above = p.0;
      within = omega (arith, slice_get_within h.new (d - length old) (defined_by c) p.1, groups_length h.groups);
      gathered = record {
        new = h.new;
        callees_are = h.callees_are;
        collected = collects_more c h.collected (known e);
        groups = add_known c (d - length old) h.groups p.1 (λ i f. let z : length old + i ≡ d = (collects_unique u h.collected).one (length old + i) d (defined_by c) (new_place h i f) e in omega arith);
        size = more_size cs gs (d - length old) c h.size;
      };
    }
one_more c {old} {callees} {cs = cs} {gs = gs} u a h (next b) =
    let count : length callees ≡ length old + length gs = new_length h in
    record {
      above = omega arith;
      within = omega arith;
      gathered = record {
        new = h.new ++ defined_by c ∷ [];
        callees_are = ap (λ (z : List Callee). z ++ defined_by c ∷ []) h.callees_are ∙ append_assoc old h.new (defined_by c ∷ []);
        collected = collects_more c h.collected (next b);
        groups = add_next c (length callees - length old) h.groups (λ i f. b.absent (length old + i) (new_place h i f)) (none_of h.collected b) (omega (arith, groups_length h.groups));
        size = more_size cs gs (length callees - length old) c h.size;
      };
    }

-- ---- a clause in its group
pub put_in : (gs : List (Vec SourceClause Global)) (n : ℕ) (v w : Vec SourceClause Global) (c : Clause) → n < length gs → v ≡ get_or gs n v → clauses_view w ≡ clauses_view v ++ c ∷ []
    → map clauses_view (set gs n w) ≡ put_at (map clauses_view gs) n c
put_in [] n v w c h e f = absurd (omega arith)
put_in (g ∷ gs) zero v w c h e f = ap (λ (z : List Clause). z ∷ map clauses_view gs) (f ∙ ap (λ (z : Vec SourceClause Global). clauses_view z ++ c ∷ []) e)
put_in (g ∷ gs) (suc n) v w c h e f = ap (λ (z : List (List Clause)). clauses_view g ∷ z) (put_in gs n v w c (omega arith) e f)

pub put_next : (gs : List (Vec SourceClause Global)) (n : ℕ) (fresh v w : Vec SourceClause Global) (c : Clause) → n ≡ length gs → v ≡ get_or (gs ++ fresh ∷ []) n v → clauses_view fresh ≡ [] → clauses_view w ≡ clauses_view v ++ c ∷ []
    → map clauses_view (set (gs ++ fresh ∷ []) n w) ≡ put_at (map clauses_view gs) n c
put_next [] zero fresh v w c h e a f = ap (λ (z : List Clause). z ∷ []) (f ∙ ap (λ (z : List Clause). z ++ c ∷ []) (ap clauses_view e ∙ a))
put_next [] (suc n) fresh v w c h e a f = absurd (omega arith)
put_next (g ∷ gs) zero fresh v w c h e a f = absurd (omega arith)
put_next (g ∷ gs) (suc n) fresh v w c h e a f = ap (λ (z : List (List Clause)). clauses_view g ∷ z) (put_next gs n fresh v w c (omega arith) e a f)

pub one_behind : (v w : Vec SourceClause Global) (c : SourceClause) → w.items ≡ v.items ++ c ∷ [] → clauses_view w ≡ clauses_view v ++ clause_view c ∷ []
one_behind v w c e = ap (map clause_view) e ∙ map_push clause_view v.items c

-- ---- how many callees there are
some_length : (cs : List Clause) → length cs ≤ clauses_size cs
some_length [] = omega arith
some_length (c ∷ cs) = omega (arith, some_length cs)

pub few_callees : {old callees : List Callee} {cs : List Clause} {gs : List (List Clause)} {n : ℕ} (c : Clause) → AreGathered old cs callees gs → length old + (clauses_size cs + clause_size c) ≤ n → length callees < n
few_callees {cs = cs} c h l = omega (arith, collects_length h.collected, some_length cs)
