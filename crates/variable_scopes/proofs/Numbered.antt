-- What holds of scoped clauses and queries: their variables are numbered without a gap, and they are as large as what
-- was read.
use Rattle.std.proofs.Common.{◌≡◌, ℕ, suc, ◌+◌, ◌<◌, Bool, true, false, List, [], ◌∷◌, length, map, Option, Some, None, refl, sym, ap, subst, ◌∙◌, arith, ◌⊎◌, inl, inr}
use Rattle.std.specs.Prelude.{◌==◌, unwrap_or}
use Rattle.std.proofs.lemmas.Bool.Decides.{nat_tests}
use Rattle.std.proofs.lemmas.List.{length-append, length-map}
use Rattle.akl_lexemes.specs.Occurrences.{Occurs, AreNumbered}
use Rattle.akl_syntax.specs.Clauses.{Clause, Query}
use Rattle.akl_syntax.specs.Variables.{IsClauseNumbered, AreClausesNumbered, IsQueryNumbered}
use Rattle.variable_scopes.specs.Scoped.{place_of, added, first_seen, distinct, numbers_of, names_of, name_of, IsScopedClause, AreScoped, IsScopedQuery}
use Rattle.variable_scopes.specs.Shapes.{tree_shape}
use Rattle.variable_scopes.specs.Spellings.{clause_spellings, query_spellings}
use Rattle.variable_scopes.specs.Variables.{Variable, variables_of}
use Rattle.variable_scopes.proofs.Places.{place_grows, place_new, place_below, added_known, added_new}
use Rattle.variable_scopes.proofs.Standing.{Extends, number_in}

-- ---- first occurrences
added_place : (ks : List Variable) (v : Variable) → (k : ℕ) × (place_of v (added ks v) ≡ Some k)
added_place ks v = by_place (place_of v ks) refl
  where
    by_place : (o : Option ℕ) → place_of v ks ≡ o → (k : ℕ) × (place_of v (added ks v) ≡ Some k)
    by_place (Some k) e = (k, ap (place_of v) (added_known ks v k e) ∙ e)
    by_place None e = (length ks, ap (place_of v) (added_new ks v e) ∙ place_new v ks e)

added_extends : (ks : List Variable) (v : Variable) → Extends ks (added ks v)
added_extends ks v = by_place (place_of v ks) refl
  where
    by_place : (o : Option ℕ) → place_of v ks ≡ o → Extends ks (added ks v)
    by_place (Some k) e = λ w m f. ap (place_of w) (added_known ks v k e) ∙ f
    by_place None e = λ w m f. ap (place_of w) (added_new ks v e) ∙ place_grows w ks (v ∷ []) m f

seen_extends : (ks vs : List Variable) → Extends ks (first_seen ks vs)
seen_extends ks [] = λ w m e. e
seen_extends ks (v ∷ vs) = λ w m e. seen_extends (added ks v) vs w m (added_extends ks v w m e)

number_placed : (final : List Variable) (v : Variable) (k : ℕ) → place_of v final ≡ Some k → number_in final v ≡ k
number_placed final v k e = ap (λ (z : Option ℕ). unwrap_or z 0) e

named : (ks vs final : List Variable) → Extends (first_seen ks vs) final → (n : ℕ) → Occurs n (map (number_in final) vs) → n < length final
named ks [] final x n o = absurd o
named ks (v ∷ vs) final x n (inl e) =
    let p = added_place ks v in
    let at : place_of v final ≡ Some p.0 = x v p.0 (seen_extends (added ks v) vs v p.0 p.1) in
    omega (arith, e, number_placed final v p.0 at, place_below v final p.0 at)
named ks (v ∷ vs) final x n (inr o) = named (added ks v) vs final x n o

occur : (ks vs final : List Variable) → Extends (first_seen ks vs) final → (n : ℕ) → n < length (first_seen ks vs) → (n < length ks) ⊎ Occurs n (map (number_in final) vs)
occur ks [] final x n l = inl l
occur ks (v ∷ vs) final x n l = by_rest (occur (added ks v) vs final x n l)
  where
    by_place : (o : Option ℕ) → place_of v ks ≡ o → n < length (added ks v) → (n < length ks) ⊎ Occurs n (map (number_in final) (v ∷ vs))
    by_place (Some k) e h = inl (subst (λ (z : List Variable). n < length z) (added_known ks v k e) h)
    by_place None e h =
        let at : place_of v final ≡ Some (length ks) = x v (length ks) (seen_extends (added ks v) vs v (length ks) (ap (place_of v) (added_new ks v e) ∙ place_new v ks e)) in
        let size : length (added ks v) ≡ length ks + 1 = ap length (added_new ks v e) ∙ length-append ks (v ∷ []) in
        by_end (n == length ks) refl (omega (arith, h, size)) (number_placed final v (length ks) at)
      where
        by_end : (b : Bool) → (n == length ks) ≡ b → n < length ks + 1 → number_in final v ≡ length ks → (n < length ks) ⊎ Occurs n (map (number_in final) (v ∷ vs))
        by_end true e m g = let same : n ≡ length ks = grind (arith, nat_tests, e) in inr (inl (same ∙ sym g))
        by_end false e m g = inl (grind (arith, nat_tests, e, m))

    by_rest : (n < length (added ks v)) ⊎ Occurs n (map (number_in final) vs) → (n < length ks) ⊎ Occurs n (map (number_in final) (v ∷ vs))
    by_rest (inl h) = by_place (place_of v ks) refl h
    by_rest (inr o) = inr (inr o)

names_number : (names : List (List ℕ)) (vs : List Variable) → AreNumbered (numbers_of vs) (names_of names vs)
names_number names vs =
    let size : length (names_of names vs) ≡ length (distinct vs) = length-map (distinct vs) (λ v. name_of names v.spelling) in
    record {
      named = λ n o. omega (arith, named [] vs (distinct vs) (λ v k e. e) n o, size);
      occurs = λ n l. elim (occur [] vs (distinct vs) (λ v k e. e) n (omega (arith, l, size))) [ inl h ↦ absurd (omega (arith, h)) | inr o ↦ o ];
    }

-- ---- the variables that occur are exactly those that have a name
pub scoped_numbered : {c d : Clause} → IsScopedClause c d → IsClauseNumbered d
scoped_numbered {c} {d} s = rw (s.variables, s.names) (names_number c.names (variables_of (clause_spellings c)))

pub all_scoped_numbered : (cs ds : List Clause) → AreScoped cs ds → AreClausesNumbered ds
all_scoped_numbered [] [] s = tt
all_scoped_numbered [] (d ∷ ds) s = absurd s
all_scoped_numbered (c ∷ cs) [] s = absurd s
all_scoped_numbered (c ∷ cs) (d ∷ ds) s = (scoped_numbered s.0, all_scoped_numbered cs ds s.1)

pub query_numbered : {q r : Query} → IsScopedQuery q r → IsQueryNumbered r
query_numbered {q} {r} s = rw (s.variables, s.names) (names_number q.names (variables_of (query_spellings q)))

-- ---- what stays
pub scoped_head : {c d : Clause} → IsScopedClause c d → d.head ≡ c.head
scoped_head s = ap (λ (z : Clause). z.head) s.shape

pub scoped_start : {c d : Clause} → IsScopedClause c d → d.start ≡ c.start
scoped_start s = ap (λ (z : Clause). z.start) s.shape

pub scoped_operator : {c d : Clause} → IsScopedClause c d → d.part.op ≡ c.part.op
scoped_operator s = ap (λ (z : Clause). z.part.op) s.shape

pub scoped_arity : {c d : Clause} → IsScopedClause c d → length d.arguments ≡ length c.arguments
scoped_arity {c} {d} s = sym (length-map d.arguments tree_shape) ∙ ap (λ (z : Clause). length z.arguments) s.shape ∙ length-map c.arguments tree_shape

pub scoped_count : (cs ds : List Clause) → AreScoped cs ds → length ds ≡ length cs
scoped_count [] [] s = refl
scoped_count [] (d ∷ ds) s = absurd s
scoped_count (c ∷ cs) [] s = absurd s
scoped_count (c ∷ cs) (d ∷ ds) s = ap suc (scoped_count cs ds s.1)
