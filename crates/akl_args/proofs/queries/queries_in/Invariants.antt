use Rattle.std.proofs.Common.{◌≡◌, ◌++◌, map, drop}
use Rattle.akl_args.specs.Queries.{queries_in, queries_from}
use Rattle.akl_args.proofs.queries.queries_in.Given as goal

abbrev pub invariant-loop-byte : goal.invariant-loop-byte
invariant-loop-byte l = queries_in l.text ≡ map (λ query. query.items) l.queries.items ++ queries_from l.query.items (drop l.byte-index l.text)
