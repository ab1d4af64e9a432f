use Rattle.std.proofs.Common.{◌≡◌, map, take, string_bytes}
use Rattle.akl_args.specs.Batches.{word_for_query}
use Rattle.akl_args.proofs.batch.words_for_query.Given as goal

abbrev pub invariant-loop-word : goal.invariant-loop-word
invariant-loop-word l = map string_bytes l.changed.items ≡ map word_for_query (map string_bytes (take l.word-index l.words))
