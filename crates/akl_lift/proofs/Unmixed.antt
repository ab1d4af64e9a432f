-- The clauses of one definition have one operator, once they are lifted.
use Rattle.std.proofs.Common.{◌≡◌, ℕ, zero, suc, ◌+◌, List, [], ◌∷◌, Some, refl, sym, ap, subst, ◌∙◌, arith, inl, inr}
use Rattle.std.specs.Prelude.{slice_get, ◌⊎◌}
use Rattle.std.specs.List.{All, Contains}
use Rattle.std.proofs.lemmas.List.Elements.{Contains-append_cases}
use Rattle.akl_terms.specs.declared.program.Op.{Op}
use Rattle.akl_syntax.specs.declared.source.Head.{Head}
use Rattle.akl_syntax.specs.declared.source.Head.TheVariants as heads
use Rattle.akl_syntax.specs.Clauses.{Clause}
use Rattle.clause_keys.specs.declared.callee.Callee.{Callee}
use Rattle.clause_keys.specs.Keys.{defined_by}
use Rattle.clause_keys.specs.Conditions.{IsGuard, AreUnmixed, IsClauseLiftable}
use Rattle.clause_keys.proofs.Defined.{lifted_number, head_number, number_defined}
use Rattle.akl_lift.specs.Lifting.{clause_choices, clause_without, clauses_without, made_of_all, lifted_clauses}
use Rattle.akl_lift.specs.Whole.{IsNamed, AreRead}
use Rattle.akl_lift.proofs.Operators.{IsMadeOf, program_operators, program_made}

-- a written clause that is lifted, and the one that it was
pub record IsWithout (cs : List Clause) (c : Clause) : Type 0 where
  pub written : Clause
  pub there : Contains cs written
  pub same : defined_by c ≡ defined_by written
  pub op : c.part.op ≡ written.part.op
  pub head : IsNamed c.head
  pub guard : IsGuard c.part.op

keeps : (next : ℕ) (c : Clause) → defined_by (clause_without next c) ≡ defined_by c
unfolding defined_by
keeps next c = refl

further : (x : Clause) (cs : List Clause) (c : Clause) → IsWithout cs c → IsWithout (x ∷ cs) c
further x cs c w = record { written = w.written; there = (suc w.there.0, omega (arith, w.there.1), w.there.2); same = w.same; op = w.op; head = w.head; guard = w.guard }

pub was_written : (next : ℕ) (cs : List Clause) (c : Clause) → AreRead cs → Contains (clauses_without next cs) c → IsWithout cs c
was_written next [] c r (k, h, e) = absurd (omega (arith, h))
was_written next (x ∷ cs) c r (zero, h, e) = subst (IsWithout (x ∷ cs)) e (record { written = x; there = (0, omega arith, refl); same = keeps next x; op = refl; head = r.0.head; guard = r.0.op })
was_written next (x ∷ cs) c r (suc k, h, e) = further x cs c (was_written (next + clause_choices x) cs c r.1 (k, omega (arith, h), e))

pub among_all : (P : Clause → Type 0) (cs : List Clause) (c : Clause) → All P cs → Contains cs c → P c
among_all P cs c a (k, h, e) = subst P e (a k c h)

-- the number of what a made clause defines
pub made_number : (os : List Op) (first : ℕ) (c : Clause) (m : IsMadeOf os first c) → lifted_number (defined_by c) ≡ Some (first + m.at)
made_number os first c m = number_defined c ∙ ap head_number m.head_is

no_number : (h : Head) (n : ℕ) → IsNamed h → head_number h ≡ Some n → ⊥
no_number (heads.Named s) n i e = cc
no_number (heads.Lifted m inside) n i e = i

pub named_apart : (c : Clause) (n : ℕ) → IsNamed c.head → lifted_number (defined_by c) ≡ Some n → ⊥
named_apart c n i e = no_number c.head n i (sym (number_defined c) ∙ e)

pub apart : (os : List Op) (first : ℕ) (c d : Clause) → IsNamed c.head → IsMadeOf os first d → defined_by c ≡ defined_by d → ⊥
apart os first c d i m e = named_apart c (first + m.at) i (ap lifted_number e ∙ made_number os first d m)

pub same_made_op : (os : List Op) (first : ℕ) (c d : Clause) → IsMadeOf os first c → IsMadeOf os first d → defined_by c ≡ defined_by d → c.part.op ≡ d.part.op
same_made_op os first c d m n e =
    let both : Some (first + m.at) ≡ Some (first + n.at) = sym (made_number os first c m) ∙ ap lifted_number e ∙ made_number os first d n in
    let numbers : first + m.at ≡ first + n.at = cc in
    let places : m.at ≡ n.at = omega (arith, numbers) in
    let found : Some c.part.op ≡ Some d.part.op = sym m.op_is ∙ ap (slice_get os) places ∙ n.op_is in
    cc

pub program_unmixed : (callees : List Callee) (cs : List Clause) → AreUnmixed cs → All (IsClauseLiftable callees) cs → AreRead cs → AreUnmixed (lifted_clauses cs)
program_unmixed callees cs u l r = record { same = λ c d x y e. by_cases c d e (Contains-append_cases (clauses_without 0 cs) (made_of_all 0 cs) c x) (Contains-append_cases (clauses_without 0 cs) (made_of_all 0 cs) d y) }
  where
    made : (c : Clause) → Contains (made_of_all 0 cs) c → IsMadeOf (program_operators cs) 0 c
    made c x = among_all (IsMadeOf (program_operators cs) 0) (made_of_all 0 cs) c (program_made callees 0 cs l) x

    written_both : (c d : Clause) → IsWithout cs c → IsWithout cs d → defined_by c ≡ defined_by d → c.part.op ≡ d.part.op
    written_both c d v w e = v.op ∙ u.same v.written w.written v.there w.there (sym v.same ∙ e ∙ w.same) ∙ sym w.op

    by_cases : (c d : Clause) → defined_by c ≡ defined_by d → Contains (clauses_without 0 cs) c ⊎ Contains (made_of_all 0 cs) c → Contains (clauses_without 0 cs) d ⊎ Contains (made_of_all 0 cs) d → c.part.op ≡ d.part.op
    by_cases c d e (inl x) (inl y) = written_both c d (was_written 0 cs c r x) (was_written 0 cs d r y) e
    by_cases c d e (inl x) (inr y) = let w = was_written 0 cs c r x in absurd (apart (program_operators cs) 0 c d w.head (made d y) e)
    by_cases c d e (inr x) (inl y) = let w = was_written 0 cs d r y in absurd (apart (program_operators cs) 0 d c w.head (made c x) (sym e))
    by_cases c d e (inr x) (inr y) = same_made_op (program_operators cs) 0 c d (made c x) (made d y) e
