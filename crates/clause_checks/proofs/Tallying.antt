-- How tallies grow with the clauses.
use Rattle.std.proofs.Common.{◌≡◌, ◌<◌, ◌≤◌, ◌⊎◌, inl, inr, ℕ, ◌+◌, Bool, true, false, cond, List, [], ◌∷◌, ◌++◌, length, map, get_or, Some, None, refl, sym, ap, ◌∙◌, arith, length-append, append-nil}
use Rattle.std.specs.List.{list_any, slice_get, slice_set}
use Rattle.std.proofs.lemmas.List.{length-set, map_push}
use Rattle.std.proofs.lemmas.List.Elements.{filter-append}
use Rattle.std.proofs.lemmas.Option.{slice_get_within, slice_get_cases}
use Rattle.std.proofs.lemmas.List.Sums.{length-filter, count_by-le-length}
use Rattle.akl_terms.specs.declared.program.Op.{Op}
use Rattle.akl_syntax.specs.Clauses.{Clause}
use Rattle.clause_keys.specs.declared.callee.Callee.{Callee}
use Rattle.clause_keys.specs.Keys.{defined_by, Adds, IsAbsent, known, next}
use Rattle.clause_keys.proofs.Places.{get_split}
use Rattle.clause_checks.specs.declared.tally.Tally.{Tally}
use Rattle.clause_checks.specs.Rows.{is_callee, own}
use Rattle.clause_checks.specs.Tallies.{Counts, Tallies, again, at_first, clauses_of}
use Rattle.clause_checks.proofs.Lists.{list_any-map, filter-none, filter-some, HasFirst, get_set, get_set_other}
use Rattle.clause_checks.proofs.SameCallee.{IsIndexOf, same_callee, is_itself, other_callee, index_start, index_next}

-- ---- the clauses of a definition
pub clauses_same : (k : Callee) (cs : List Clause) (c : Clause) → is_callee k (defined_by c) ≡ true → clauses_of k (cs ++ c ∷ []) ≡ clauses_of k cs ++ c ∷ []
clauses_same k cs c e = filter-append (λ d. is_callee k (defined_by d)) cs (c ∷ []) ∙ ap (λ b. clauses_of k cs ++ cond b (c ∷ []) []) e

pub clauses_other : (k : Callee) (cs : List Clause) (c : Clause) → is_callee k (defined_by c) ≡ false → clauses_of k (cs ++ c ∷ []) ≡ clauses_of k cs
clauses_other k cs c e = filter-append (λ d. is_callee k (defined_by d)) cs (c ∷ []) ∙ ap (λ b. clauses_of k cs ++ cond b (c ∷ []) []) e ∙ append-nil (clauses_of k cs)

no_clauses : (k : Callee) (cs : List Clause) → list_any (is_callee k) (map defined_by cs) ≡ false → clauses_of k cs ≡ []
no_clauses k cs e = filter-none (λ d. is_callee k (defined_by d)) cs (sym (list_any-map (is_callee k) defined_by cs) ∙ e)

some_clauses : (k : Callee) (cs : List Clause) → list_any (is_callee k) (map defined_by cs) ≡ true → HasFirst (clauses_of k cs)
some_clauses k cs e = filter-some (λ d. is_callee k (defined_by d)) cs (sym (list_any-map (is_callee k) defined_by cs) ∙ e)

-- ---- counts
counts_for : (o p : Op) (cs : List Clause) (t : Tally) → HasFirst cs → Counts o cs t → Counts p cs t
counts_for o p [] t f h = absurd f
counts_for o p (c ∷ cs) t f h = record { clauses = h.clauses; first = h.first }

counts_more : (o p : Op) (cs : List Clause) (c : Clause) (t : Tally) → HasFirst cs → Counts o cs t → Counts p (cs ++ c ∷ []) (record t { clauses = t.clauses + 1 })
counts_more o p [] c t f h = absurd f
counts_more o p (d ∷ cs) c t f h = record { clauses = omega (arith, h.clauses, length-append (d ∷ cs) (c ∷ [])); first = h.first }

-- ---- all tallies
pub record AreTallied (cs : List Clause) (callees : List Callee) (tallies : List Tally) : Type 0 where
  pub lengths : length tallies ≡ length callees
  pub few : length callees ≤ length cs
  pub distinct : (i j : ℕ) (k : Callee) → slice_get callees i ≡ Some k → slice_get callees j ≡ Some k → i ≡ j
  pub index : IsIndexOf (map defined_by cs) callees
  pub tally : (i : ℕ) (k : Callee) (t : Tally) → slice_get callees i ≡ Some k → slice_get tallies i ≡ Some t → Counts t.op (clauses_of k cs) t

pub tallied_start : AreTallied [] [] []
tallied_start = record { lengths = refl; few = omega arith; distinct = λ i j k e f. absurd cc; index = index_start; tally = λ i k t e f. absurd cc }

-- the tallies with a clause more, and the tally of its definition before it
pub record Continues (cs : List Clause) (c : Clause) (callees : List Callee) (tallies : List Tally) (t : Tally) : Type 0 where
  pub tallied : AreTallied (cs ++ c ∷ []) callees tallies
  pub counts : Counts c.part.op (own c cs) t

index_more : (cs : List Clause) (c : Clause) {callees more : List Callee} {d : ℕ} → IsIndexOf (map defined_by cs) callees → Adds callees (defined_by c) more d → IsIndexOf (map defined_by (cs ++ c ∷ [])) more
index_more cs c h a = rw (map_push defined_by cs c) (index_next h a)

-- ---- a clause of a definition that has a tally
replaced : (cs : List Clause) (c : Clause) {callees : List Callee} {tallies : List Tally} (d : ℕ) (t : Tally) → AreTallied cs callees tallies → slice_get callees d ≡ Some (defined_by c) → slice_get tallies d ≡ Some t
    → (i : ℕ) (l : Callee) (u : Tally) → slice_get callees i ≡ Some l → slice_get (slice_set tallies d (record t { clauses = t.clauses + 1 })) i ≡ Some u
    → (b : Bool) → is_callee l (defined_by c) ≡ b → Counts u.op (clauses_of l (cs ++ c ∷ [])) u
replaced cs c {callees} {tallies} d t h f g i l u p q true e =
    let same : l ≡ defined_by c = same_callee l (defined_by c) e in
    let there : slice_get callees i ≡ Some (defined_by c) = p ∙ ap Some same in
    let place : d ≡ i = h.distinct d i (defined_by c) f there in
    let new : Some (record t { clauses = t.clauses + 1 }) ≡ Some u = sym (get_set tallies d t (record t { clauses = t.clauses + 1 }) g) ∙ ap (slice_get (slice_set tallies d (record t { clauses = t.clauses + 1 }))) place ∙ q in
    let found : record t { clauses = t.clauses + 1 } ≡ u = cc in
    let old : Counts t.op (clauses_of l cs) t = rw same (h.tally d (defined_by c) t f g) in
    let many : HasFirst (clauses_of l cs) = some_clauses l cs (rw same (h.index.there d (defined_by c) f)) in
    rw (← found, clauses_same l cs c e) (counts_more t.op t.op (clauses_of l cs) c t many old)
replaced cs c {callees} {tallies} d t h f g i l u p q false e =
    let other : d ≡ i → ⊥ = λ x. (
    let y : Some l ≡ Some (defined_by c) = sym p ∙ ap (slice_get callees) (sym x) ∙ f in
    let z : l ≡ defined_by c = cc in
    let w : false ≡ true = sym e ∙ ap (is_callee l) (sym z) ∙ is_itself l in
    cc) in
    rw (clauses_other l cs c e) (h.tally i l u p (sym (get_set_other tallies d i (record t { clauses = t.clauses + 1 }) other) ∙ q))

continues_again : (cs : List Clause) (c : Clause) {callees : List Callee} {tallies : List Tally} (d : ℕ) (t : Tally) → AreTallied cs callees tallies → slice_get callees d ≡ Some (defined_by c) → slice_get tallies d ≡ Some t
    → Continues cs c callees (slice_set tallies d (record t { clauses = t.clauses + 1 })) t
continues_again cs c {callees} {tallies} d t h f g = record {
  tallied = record {
    lengths = length-set tallies d (record t { clauses = t.clauses + 1 }) ∙ h.lengths;
    few = omega (arith, h.few, length-append cs (c ∷ []));
    distinct = h.distinct;
    index = index_more cs c h.index (known f);
    tally = λ i l u p q. replaced cs c d t h f g i l u p q (is_callee l (defined_by c)) refl;
  };
  counts = counts_for t.op c.part.op (own c cs) t (some_clauses (defined_by c) cs (h.index.there d (defined_by c) f)) (h.tally d (defined_by c) t f g);
}

-- ---- the first clause of a definition
at_place : (callees : List Callee) (k l : Callee) (i : ℕ) → IsAbsent callees k → slice_get callees i ≡ Some l → k ≡ l → ⊥
at_place callees k l i a p e = a.absent i (rw e p)

apart : (callees : List Callee) (k l : Callee) (i j : ℕ) → IsAbsent callees k → ((i j : ℕ) (k : Callee) → slice_get callees i ≡ Some k → slice_get callees j ≡ Some k → i ≡ j)
    → (slice_get callees i ≡ Some l) ⊎ ((i ≡ length callees) × (k ≡ l)) → (slice_get callees j ≡ Some l) ⊎ ((j ≡ length callees) × (k ≡ l)) → i ≡ j
apart callees k l i j a h (inl p) (inl q) = h i j l p q
apart callees k l i j a h (inl p) (inr q) = absurd (at_place callees k l i a p q.1)
apart callees k l i j a h (inr p) (inl q) = absurd (at_place callees k l j a q p.1)
apart callees k l i j a h (inr p) (inr q) = p.0 ∙ sym q.0

added : (cs : List Clause) (c : Clause) {callees : List Callee} {tallies : List Tally} → AreTallied cs callees tallies → IsAbsent callees (defined_by c) → clauses_of (defined_by c) cs ≡ []
    → (i : ℕ) (l : Callee) (u : Tally) → (slice_get callees i ≡ Some l) ⊎ ((i ≡ length callees) × (defined_by c ≡ l)) → (slice_get tallies i ≡ Some u) ⊎ ((i ≡ length tallies) × (record { clauses = 1; op = c.part.op } ≡ u))
    → Counts u.op (clauses_of l (cs ++ c ∷ [])) u
added cs c {callees} h a e i l u (inl p) (inl q) = rw (clauses_other l cs c (other_callee l (defined_by c) (λ x. at_place callees (defined_by c) l i a p (sym x)))) (h.tally i l u p q)
added cs c {callees} h a e i l u (inl p) (inr q) = absurd (omega (arith, slice_get_within callees i l p, h.lengths, q.0))
added cs c {callees} {tallies} h a e i l u (inr p) (inl q) = absurd (omega (arith, slice_get_within tallies i u q, h.lengths, p.0))
added cs c h a e i l u (inr p) (inr q) =
    let alone : clauses_of l (cs ++ c ∷ []) ≡ c ∷ [] = rw (← p.1) (clauses_same (defined_by c) cs c (is_itself (defined_by c)) ∙ ap (λ ds. ds ++ c ∷ []) e) in
    rw (alone, ← q.1) (record { clauses = refl; first = refl })

continues_first : (cs : List Clause) (c : Clause) {callees : List Callee} {tallies : List Tally} → AreTallied cs callees tallies → IsAbsent callees (defined_by c)
    → Continues cs c (callees ++ defined_by c ∷ []) (tallies ++ record { clauses = 1; op = c.part.op } ∷ []) (record { clauses = 0; op = c.part.op })
continues_first cs c {callees} {tallies} h a =
    let fresh : clauses_of (defined_by c) cs ≡ [] = no_clauses (defined_by c) cs (h.index.absent (defined_by c) a) in
    record {
      tallied = record {
        lengths = omega (arith, h.lengths, length-append tallies (record { clauses = 1; op = c.part.op } ∷ []), length-append callees (defined_by c ∷ []));
        few = omega (arith, h.few, length-append cs (c ∷ []), length-append callees (defined_by c ∷ []));
        distinct = λ i j l p q. apart callees (defined_by c) l i j a h.distinct (get_split callees (defined_by c) l i p) (get_split callees (defined_by c) l j q);
        index = index_more cs c h.index (next a);
        tally = λ i l u p q. added cs c h a fresh i l u (get_split callees (defined_by c) l i p) (get_split tallies (record { clauses = 1; op = c.part.op }) u i q);
      };
      counts = rw fresh (record { clauses = refl; first = refl });
    }

pub tallied_next : (cs : List Clause) (c : Clause) {callees more : List Callee} {tallies new : List Tally} {d i : ℕ} {t : Tally} → AreTallied cs callees tallies → Adds callees (defined_by c) more d → Tallies tallies c.part.op i new t → d ≡ i
    → Continues cs c more new t
tallied_next cs c h (known {d = d} f) (again {t = t} g) e = continues_again cs c _ t h (rw (← e) f) g
tallied_next cs c {callees} h (known f) at_first e = absurd (omega (arith, slice_get_within callees _ _ f, h.lengths, e))
tallied_next cs c {callees} {more} {tallies} h (next a) (again g) e = absurd (omega (arith, slice_get_within tallies _ _ g, h.lengths, e))
tallied_next cs c h (next a) at_first e = continues_first cs c h a

-- ---- bounds
pub number_bound : {callees more : List Callee} {k : Callee} {d : ℕ} → Adds callees k more d → d ≤ length callees
number_bound {callees} {more} {k} (known {d = d} f) = omega (arith, slice_get_within callees d k f)
number_bound (next a) = omega arith

pub tally_bound : (cs : List Clause) {callees : List Callee} {tallies : List Tally} → AreTallied cs callees tallies → (d : ℕ) (t : Tally) → slice_get tallies d ≡ Some t → t.clauses ≤ length cs
tally_bound cs {callees} {tallies} h d t g = by_place (slice_get_cases callees d).1
  where
    by_place : ((k : Callee) × (d < length callees) × (slice_get callees d ≡ Some k) × (get_or callees d k ≡ k)) ⊎ ((length callees ≤ d) × (slice_get callees d ≡ None)) → t.clauses ≤ length cs
    by_place (inl w) = omega (arith, (h.tally d w.0 t w.2 g).clauses, length-filter (λ c. is_callee w.0 (defined_by c)) cs, count_by-le-length (λ c. is_callee w.0 (defined_by c)) cs)
    by_place (inr w) = absurd (omega (arith, slice_get_within tallies d t g, h.lengths, w.0))
