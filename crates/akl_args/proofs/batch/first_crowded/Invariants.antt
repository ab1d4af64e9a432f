use Rattle.std.proofs.Common.{◌≡◌, map, drop, string_bytes}
use Rattle.akl_args.specs.Batches.{first_crowded}
use Rattle.akl_args.proofs.batch.first_crowded.Given as goal

abbrev pub invariant-loop-at : goal.invariant-loop-at
invariant-loop-at l = first_crowded 0 (map string_bytes l.words) ≡ first_crowded l.at (map string_bytes (drop l.at l.words))
