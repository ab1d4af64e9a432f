-- A search through listed clauses, each with those before it.
use Rattle.std.proofs.Common.{◌≡◌, List, [], ◌∷◌, ◌++◌, map, Option, Some, None, refl, ap, ◌∙◌}
use Rattle.std.specs.Option.{option_or}
use Rattle.akl_syntax.specs.Clauses.{Clause}
use Rattle.clause_checks.specs.declared.listed.Listed.{Listed}
use Rattle.clause_checks.specs.Rows.{first, with_before}
use Rattle.clause_checks.specs.Tallies.{clause_of, IsListed, AreListed, next}

-- what is found in all is what is found in those that are left
pub record Searches {Y : Type 0} (f : List Clause × Clause → Option Y) (all : List Clause) (rest : List Listed) : Type 0 where
  pub before : List Clause
  pub listed : AreListed before rest
  pub same : first f (with_before before (map clause_of rest)) ≡ first f (with_before [] all)

pub search_start : {Y : Type 0} (f : List Clause × Clause → Option Y) (xs : List Listed) → AreListed [] xs → Searches f (map clause_of xs) xs
search_start f xs h = record { before = []; listed = h; same = refl }

pub search_found : {Y : Type 0} {f : List Clause × Clause → Option Y} {all : List Clause} {x : Listed} {xs : List Listed} {y : Y} → Searches f all (x ∷ xs)
    → ((before : List Clause) → IsListed before x → Some y ≡ f (before, clause_of x)) → Some y ≡ first f (with_before [] all)
search_found {Y} {f} {all} {x} {xs} {y} s h = by_listed s.before s.listed s.same
  where
    by_listed : (before : List Clause) → AreListed before (x ∷ xs) → first f (with_before before (map clause_of (x ∷ xs))) ≡ first f (with_before [] all) → Some y ≡ first f (with_before [] all)
    by_listed before (next l ls) e = ap (λ (o : Option Y). option_or o (first f (with_before (before ++ clause_of x ∷ []) (map clause_of xs)))) (h before l) ∙ e

pub search_next : {Y : Type 0} {f : List Clause × Clause → Option Y} {all : List Clause} {x : Listed} {xs : List Listed} → Searches f all (x ∷ xs)
    → ((before : List Clause) → IsListed before x → None ≡ f (before, clause_of x)) → Searches f all xs
search_next {Y} {f} {all} {x} {xs} s h = by_listed s.before s.listed s.same
  where
    by_listed : (before : List Clause) → AreListed before (x ∷ xs) → first f (with_before before (map clause_of (x ∷ xs))) ≡ first f (with_before [] all) → Searches f all xs
    by_listed before (next l ls) e = record {
      before = before ++ clause_of x ∷ [];
      listed = ls;
      same = ap (λ (o : Option Y). option_or o (first f (with_before (before ++ clause_of x ∷ []) (map clause_of xs)))) (h before l) ∙ e;
    }
