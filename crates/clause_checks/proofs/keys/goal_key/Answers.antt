use Rattle.std.proofs.Common.{◌≡◌, ℕ, List, refl, arith}
use Rattle.clause_checks.specs.Rows.{key}
use Rattle.clause_checks.proofs.Counting.{call_is, call_count, call_bound}
use Rattle.clause_checks.proofs.keys.goal_key.Goals as goal

pub overflow_cast-result : goal.overflow_cast-result
overflow_cast-result c = omega (arith, call_bound c.args.written.now c.in-Call.symbol c.in-Call.arguments 1000000 c.in-Call.is c.requires)

same_key : (s t : List ℕ) (m n : ℕ) → s ≡ t → m ≡ n → key s m ≡ key t n
same_key s t m n e f = rw (e, f) refl

pub returns-in_ok-duplicate-in-Call : goal.returns-in_ok-duplicate-in-Call
returns-in_ok-duplicate-in-Call c = rw (call_is c.args.written.now c.in-Call.symbol c.in-Call.arguments c.in-Call.is, call_count c.in-Call.arguments) (same_key _ _ _ _ c.in_ok-duplicate-in-Call.ensures (omega arith))
