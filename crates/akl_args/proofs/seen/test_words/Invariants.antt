use Rattle.std.proofs.Common.{◌≡◌, map, drop, string_bytes}
use Rattle.akl_args.specs.Seen.{refusal_of, refusal_from}
use Rattle.akl_args.proofs.seen.test_words.Given as goal

abbrev pub invariant-loop-at : goal.invariant-loop-at
invariant-loop-at l = refusal_of (map string_bytes l.words) ≡ refusal_from l.at (map string_bytes (drop l.at l.words)) l.seen
