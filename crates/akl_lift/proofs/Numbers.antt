-- The numbers of a program's lifted definitions are below how many choices it has.
use Rattle.std.proofs.Common.{◌≡◌, ℕ, ◌+◌, ◌<◌, ◌≤◌, List, [], ◌∷◌, length, Some, sym, ◌∙◌, arith}
use Rattle.std.specs.List.{All}
use Rattle.std.proofs.lemmas.List.Elements.{All-nil, All-cons, All-append}
use Rattle.std.proofs.lemmas.Option.{slice_get_within}
use Rattle.akl_terms.specs.declared.program.Op.{Op}
use Rattle.akl_syntax.specs.Clauses.{Clause}
use Rattle.clause_keys.specs.declared.callee.Callee.{Callee}
use Rattle.clause_keys.specs.Keys.{defined_by}
use Rattle.clause_keys.specs.Conditions.{IsClauseLiftable}
use Rattle.clause_keys.proofs.Defined.{lifted_number}
use Rattle.akl_lift.specs.Lifting.{clause_choices, choices_of, clause_without, clauses_without, made_of_all, lifted_clauses}
use Rattle.akl_lift.specs.Whole.{IsNamed, AreRead}
use Rattle.akl_lift.proofs.Operators.{IsMadeOf, program_operators, length-program_operators, program_made}
use Rattle.akl_lift.proofs.Unmixed.{made_number, named_apart}

-- what the clause defines has a number below this one, if any
abbrev pub DefinesBelow : ℕ → Clause → Type 0
DefinesBelow m c = (number : ℕ) → lifted_number (defined_by c) ≡ Some number → number < m

made_below : (os : List Op) (m : ℕ) → length os ≤ m → (c : Clause) → IsMadeOf os 0 c → DefinesBelow m c
made_below os m few c d = λ number e. (
    let within : d.at < length os = slice_get_within os d.at c.part.op d.op_is in
    let same : Some (0 + d.at) ≡ Some number = sym (made_number os 0 c d) ∙ e in
    let number_is : 0 + d.at ≡ number = cc in
    omega (arith, within, few, number_is))

named_below : (m : ℕ) (c : Clause) → IsNamed c.head → DefinesBelow m c
named_below m c i = λ number e. absurd (named_apart c number i e)

written_below : (m next : ℕ) (cs : List Clause) → AreRead cs → All (DefinesBelow m) (clauses_without next cs)
written_below m next [] r = All-nil (DefinesBelow m)
written_below m next (c ∷ cs) r =
    All-cons (DefinesBelow m) (clause_without next c) (clauses_without (next + clause_choices c) cs) (named_below m (clause_without next c) r.0.head) (written_below m (next + clause_choices c) cs r.1)

pub program_below : (callees : List Callee) (cs : List Clause) (m : ℕ) → choices_of cs ≤ m → All (IsClauseLiftable callees) cs → AreRead cs → All (DefinesBelow m) (lifted_clauses cs)
program_below callees cs m few l r =
    All-append (DefinesBelow m) (clauses_without 0 cs) (made_of_all 0 cs) (written_below m 0 cs r)
    (λ k d h. made_below (program_operators cs) m (omega (arith, few, length-program_operators cs)) _ (program_made callees 0 cs l k d h))
